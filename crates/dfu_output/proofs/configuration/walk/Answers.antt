use Rattle.std.proofs.Common.{rules}
use Rattle.std.proofs.lemmas.List.{nil_from_length}
use Rattle.std.specs.String.{string_bytes}
use Rattle.dfu_output.specs.Configuration.{descriptor_without_length, short}
use Rattle.dfu_output.proofs.SuccessiveDescriptors.{descriptors_text_begins_empty, descriptor_grows_text, descriptor_stops_text, line_has_all_text_at_end}
use Rattle.dfu_output.proofs.configuration.walk.Goals as goal

pub loop-rest-init : goal.loop-rest-init
loop-rest-init c = descriptors_text_begins_empty _ _

pub returns-then-length-lt2 : goal.returns-then-length-lt2
returns-then-length-lt2 c = c.loop-rest.invariant.2 _ (descriptor_without_length (search rules) (search rules))

pub returns-then-rest-length : goal.returns-then-rest-length
returns-then-rest-length c = c.loop-rest.invariant.2 _ (short (search rules) (search rules) (search rules))

pub returns-in-Err : goal.returns-in-Err
returns-in-Err c =
    descriptor_stops_text _ _ c.loop-rest.inside c.loop-rest.rest.now c.split_at.result.0.now _ (string_bytes c.add.new.line) c.in-Err.fault
    c.loop-rest.invariant (search rules) (search rules) (search rules) (search rules)

pub loop-rest-smaller : goal.loop-rest-smaller
loop-rest-smaller c = search rules

pub loop-rest-preserved : goal.loop-rest-preserved
loop-rest-preserved c = descriptor_grows_text _ _ c.loop-rest.inside c.in-Ok.now c.loop-rest.rest.now c.split_at.result.0.now
    c.split_at.result.1.now _ _
    c.loop-rest.invariant (search rules) (search rules) (search rules) (search rules) (search rules)

pub returns : goal.returns
returns c = line_has_all_text_at_end _ _ c.loop-rest.inside c.loop-rest.rest.now _ c.loop-rest.invariant (nil_from_length _ (search rules))
