-- Number of actions of a download without errors.
use Rattle.std.specs.Prelude.{ℕ, ◌+◌, ◌*◌, nat_lt, if◌then◌else◌}

-- Number of actions of a download without errors to a tolerant device in appIDLE. Each block takes DNLOAD and GETSTATUS, and with a busy
-- time also a wait and another GETSTATUS; the close takes as many, with the manifestation time. The other five are GETSTATUS, DETACH, a
-- reset or wait, GETSTATUS and the last reset.
abbrev pub clean : (blocks busy manifest : ℕ) → ℕ
clean blocks busy manifest = (if nat_lt 0 busy then 4 else 2) * blocks + (if nat_lt 0 manifest then 4 else 2) + 5
