use Rattle.std.specs.Prelude.{◌≡◌, drop}
use Rattle.std.specs.String.{string_bytes}
use Rattle.dfu_output.specs.Fields.{text_with_fields}
use Rattle.dfu_output.proofs.fields.push_fields.Given as goal

-- The line with the remaining fields equals the first line with all fields.
abbrev pub invariant-loop-label : goal.invariant-loop-label
invariant-loop-label l = text_with_fields (string_bytes l.line) (drop l.label-index l.fields)
    ≡ text_with_fields (string_bytes l.fn.line) l.fields
