-- Setup packets rewritten for the device table, which is for interface 0 only.
use Rattle.std.specs.Prelude.{ℕ, List, ◌==◌, ◌++◌, ◌∷◌, take, drop, get_or, if◌then◌else◌}

-- The setup packet, with the low byte of wIndex changed to 0 if it is the number of this interface, else to 1.
abbrev pub addressed_setup : ℕ → List ℕ → List ℕ
addressed_setup interface setup = take 4 setup ++ ((if get_or setup 4 0 == interface then 0 else 1) ∷ drop 5 setup)
