-- Records of DfuSe actions for C, and the buffer for their bodies.
use Rattle.std.specs.Prelude.{◌≡◌, ◌<◌, ◌≤◌, ℕ, List, ◌++◌, length, replicate, drop}
use Rattle.dfu_wire.specs.declared.requests.Request.{Request}
use Rattle.dfuse_host.specs.Deeds.{DfuseDeed, Send, Wait, Done}
use Rattle.dfuse_host.specs.Wire.{IsDfuseSetupOf}
use Rattle.dfu_host_c.specs.dfuse.ReportNumbers.{dfuse_report_numbers}
use Rattle.dfu_host_c.specs.declared.dfuse.action.DfuseAction.{DfuseAction}

-- The record is a request to send: its setup packet encodes the request q, and its body is at the front of the buffer. Bytes after the body
-- are unchanged.
pub record DfuseSendRecord (q : Request) (body : List ℕ) (r : DfuseAction) (old new : List ℕ) : Type 0 where
  pub what : r.what ≡ 0
  pub asked : IsDfuseSetupOf q r.setup
  pub size : r.length ≡ length body
  pub room : length body ≤ length old
  pub copied : new ≡ body ++ drop (length body) old
  pub value : r.value ≡ 0
  pub more : r.more ≡ 0

-- The record is an action without a request: it contains the given numbers, and zeros for the setup packet and for the length of the body.
-- The buffer is unchanged.
pub record DfuseNoRequestRecord (what value more : ℕ) (r : DfuseAction) (old new : List ℕ) : Type 0 where
  pub same : r ≡ record { what = what; value = value; more = more; length = 0; setup = replicate 8 0 }
  pub stays : new ≡ old

-- The record holds a deed: 0 to send a request, 1 to wait for some milliseconds, 3 if the session is over, with the numbers of its report.
-- Numbers that the deed doesn't use are 0.
abbrev pub DfuseActionRecord : DfuseDeed → DfuseAction → (old new : List ℕ) → Type 0
DfuseActionRecord (Send q body) r old new = DfuseSendRecord q body r old new
DfuseActionRecord (Wait ms) r old new = DfuseNoRequestRecord 1 ms 0 r old new
DfuseActionRecord (Done report) r old new = DfuseNoRequestRecord 3 (dfuse_report_numbers report).0 (dfuse_report_numbers report).1 r old new

-- The deed is a request whose body is longer than the buffer.
abbrev pub BodyHasNoRoom : DfuseDeed → (old : List ℕ) → Type 0
BodyHasNoRoom (Send q body) old = length old < length body
BodyHasNoRoom (Wait ms) old = ⊥
BodyHasNoRoom (Done report) old = ⊥
