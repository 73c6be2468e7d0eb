-- Facts about every row of the table: its calls of the slot store, and the medium errors (IsMediumError) in which it may end.
use Rattle.std.specs.Prelude.{ℕ, List}
use Rattle.dfu_device.specs.Stage.{Request, OtherRequest, Profile, Stage}
use Rattle.dfu_device.specs.Table.{Plan, plan, time_plan}
use Rattle.dfu_device.specs.DeviceView.{written_bytes_in}
use Rattle.dfu_device.specs.AcceptedBytes.{accepted_in}
use Rattle.dfu_device.specs.RowForms.{CallsStoreFor, EndsInNoMediumError, RowForm, quiet, takes, closes, sends, ends, row_form, time_plan_has_form}

-- The plan calls the slot store only for the accepted bytes. If all writes work, it leads to a medium error only if the stage before it was
-- already a medium error.
abbrev pub IsFaithfulPlan : List ℕ → Stage → Plan → Type 0
IsFaithfulPlan i st p = CallsStoreFor (written_bytes_in st) (accepted_in i st) p × EndsInNoMediumError st p

-- A plan with one of the five forms calls the slot store only for the accepted bytes. If all writes work, it leads to no new medium error.
row_form_has_lawful_effects : (c : Profile) (i : List ℕ) (st : Stage) (r : Request) (p : Plan) → RowForm c i st r p → IsFaithfulPlan i st p
row_form_has_lawful_effects c i st r p (quiet replies calls well counts) = (calls, well)
row_form_has_lawful_effects c i st r p takes = (tt, λ y. absurd y)
row_form_has_lawful_effects c i st r p closes = (tt, λ y. absurd y)
row_form_has_lawful_effects c i st r p (sends place size is small) = (tt, λ y. absurd y)
row_form_has_lawful_effects c i st r p (ends place size is small short) = (tt, λ y. absurd y)

-- The plan of each request calls the slot store only for the accepted bytes. If all writes work, it leads to no new medium error.
pub row_is_faithful : (c : Profile) (i : List ℕ) (st : Stage) (r : Request) → IsFaithfulPlan i st (plan c i st r)
row_is_faithful c i st r = row_form_has_lawful_effects c i st r (plan c i st r) (row_form c i st r)

-- The plan of each elapsed time calls the slot store only for the accepted bytes. If all writes work, it leads to no new medium error.
pub time_row_is_faithful : (c : Profile) (i : List ℕ) (st : Stage) (ms : ℕ) → IsFaithfulPlan i st (time_plan c st ms)
time_row_is_faithful c i st ms = row_form_has_lawful_effects c i st OtherRequest (time_plan c st ms) (time_plan_has_form c i st ms)
