-- Lemmas about the use of the slot store by a row, and the image after it.
use Rattle.std.specs.Prelude.{◌≡◌, ◌⊎◌, ℕ, List, [], ◌∷◌, length}
use Rattle.std.proofs.Common.{sym, ap, ◌∙◌, inl, inr, subst}
use Rattle.dfu_wire.specs.declared.setups.Setup.{Setup}
use Rattle.dfu_wire.specs.declared.requests.Request.{Request as Asked}
use Rattle.dfu_wire.specs.declared.codes.Code.{Code}
use Rattle.dfu_slots.specs.declared.fault.WriteFault.{WriteFault}
use Rattle.dfu_slots.specs.StoreView.{image_of, Commit, AllWorked, BrokenBy, CallsEnd}
use Rattle.dfu_device.specs.declared.answer.Answer.{Answer}
use Rattle.dfu_device.specs.declared.answer.Answer.TheVariants as answer
use Rattle.dfu_device.specs.Stage.{Request, GetStatus, ClrStatus, GetState, Profile, Stage, InError}
use Rattle.dfu_device.specs.Table.{Plan, Sure, Writes, Commits, plan, time_plan}
use Rattle.dfu_device.specs.DeviceView.{DeviceView, profile, situation, written_bytes_in}
use Rattle.dfu_device.specs.Rows.{request_for_table, asked_length, Done, is_served, setup_plan, handled_by_reading, Transfer, Passing, BusReset, RefusingClose, Refusing, PowerOn}
use Rattle.dfu_device.specs.AcceptedBytes.{accepted_of}
use Rattle.dfu_device.specs.Cases.{holds_in_both_branches}
use Rattle.dfu_device.specs.RowForms.{CallsStoreFor}
use Rattle.dfu_device.proofs.FaithfulPlans.{row_is_faithful, time_row_is_faithful}
use Rattle.dfu_device.specs.StoreUse.{StoreUse, RowsUseStore, ErrorRowsKeepStore}

-- If BrokenBy f equals BrokenBy g, the faults f and g are equal.
broken_by_is_injective : {f g : WriteFault} → BrokenBy f ≡ BrokenBy g → f ≡ g
broken_by_is_injective q = cc

-- A performed plan uses the slot store only for the accepted bytes.
done_plan_uses_store : (p : Plan) (len : ℕ) (w : DeviceView) (a : Answer) (out : List ℕ) (w' : DeviceView)
    → CallsStoreFor (written_bytes_in w.stage) (accepted_of (situation w)) p → Done p len w a out w' → StoreUse w w'
done_plan_uses_store (Sure reply stage) len w a out w' only (says, is) = inl (inl (ap (λ (z : DeviceView). z.slots) is))
done_plan_uses_store (Writes before block reply stage bad) len w a out w' only (inl (says, h)) = inr (inl (record {
  before = before;
  block = block;
  behind = only.0;
  all = only.1;
  ending = AllWorked;
  calls = h.calls;
  image = h.image;
  failed = λ f e. absurd (cc);
}))
done_plan_uses_store (Writes before block reply stage bad) len w a out w' only (inr (fault, says, h)) = inr (inl (record {
  before = before;
  block = block;
  behind = only.0;
  all = only.1;
  ending = BrokenBy fault;
  calls = h.calls;
  image = h.image;
  failed = λ f e. rw (← broken_by_is_injective e) h.stage_is;
}))
done_plan_uses_store (Commits taken reply stage bad) len w a out w' only (inl (says, h)) = inr (inr (record {
  ending = AllWorked;
  calls = subst (λ (x : List ℕ). CallsEnd w.slots (Commit (length x) ∷ []) AllWorked w'.slots) only h.calls;
  image = λ e. h.image ∙ only;
  failed = λ f e. absurd (cc);
}))
done_plan_uses_store (Commits taken reply stage bad) len w a out w' only (inr (fault, says, h)) = inr (inr (record {
  ending = BrokenBy fault;
  calls = subst (λ (x : List ℕ). CallsEnd w.slots (Commit (length x) ∷ []) (BrokenBy fault) w'.slots) only h.calls;
  image = λ e. absurd (cc);
  failed = λ f e. (
    rw (← broken_by_is_injective e) h.stage_is,
    subst (λ (x : List ℕ). (image_of w'.slots ≡ image_of w.slots) ⊎ (image_of w'.slots ≡ x)) only h.image,
  );
}))

-- The plan of a setup packet calls the slot store only for the accepted bytes.
setup_plan_calls_store_for : (w : DeviceView) (p : Setup) (q : Asked) (body : List ℕ)
    → CallsStoreFor (written_bytes_in w.stage) (accepted_of (situation w)) (setup_plan w p q body)
setup_plan_calls_store_for w p q body =
    holds_in_both_branches (CallsStoreFor (written_bytes_in w.stage) (accepted_of (situation w))) (is_served p q
    body) _ _
    (row_is_faithful (profile w) (image_of w.slots) w.stage (request_for_table q body)).0 tt

-- In each row the device uses the slot store only for the accepted bytes, and only a commit changes the image.
pub rows_use_store : RowsUseStore
rows_use_store w (Transfer setup body) a out w' (handled_by_reading p q reads asks done) =
    done_plan_uses_store (setup_plan w p q body) (asked_length q) w a out w' (setup_plan_calls_store_for w p q body) done
rows_use_store w (Passing ms) a out w' (is, none, row) =
    done_plan_uses_store (time_plan (profile w) w.stage ms) 0 w answer.Ack [] w'
    (time_row_is_faithful (profile w) (image_of w.slots) w.stage ms).0
    row
rows_use_store w BusReset a out w' (is, none, same) = inl (inl (ap (λ (z : DeviceView). z.slots) same))
rows_use_store w (RefusingClose setup why) a out w' (is, none, closes, same) = inl (inl (ap (λ (z : DeviceView). z.slots) same))
rows_use_store w (Refusing why) a out w' (is, none, same) = inl (inl (ap (λ (z : DeviceView). z.slots) same))
rows_use_store w PowerOn a out w' (is, none, same) = inl (inr (ap (λ (z : DeviceView). z.slots) same))

-- Lemmas about plans that don't call the slot store.

-- The plan doesn't call the slot store.
abbrev pub CallsNoStore : Plan → Type 0
CallsNoStore (Sure reply stage) = Unit {0}
CallsNoStore p = ⊥

-- A plan that doesn't call the slot store leaves it unchanged.
storeless_plan_keeps_store : (p : Plan) (len : ℕ) (w : DeviceView) (a : Answer) (out : List ℕ) (w' : DeviceView) → CallsNoStore p →
    Done p len w a out w'
    → w'.slots ≡ w.slots
storeless_plan_keeps_store (Sure reply stage) len w a out w' sure (says, is) = ap (λ (z : DeviceView). z.slots) is
storeless_plan_keeps_store (Writes before block reply stage bad) len w a out w' sure done = absurd sure
storeless_plan_keeps_store (Commits taken reply stage bad) len w a out w' sure done = absurd sure

-- In dfuERROR the plan of each request doesn't call the slot store.
error_plan_calls_no_store : (c : Profile) (i : List ℕ) (code : Code) (r : Request) → CallsNoStore (plan c i (InError code) r)
error_plan_calls_no_store c i code ClrStatus = tt
error_plan_calls_no_store c i code GetStatus = tt
error_plan_calls_no_store c i code GetState = tt
error_plan_calls_no_store c i code r = tt

-- In dfuERROR each row leaves the slot store unchanged or opens it again on its medium.
pub error_rows_keep_store : ErrorRowsKeepStore
error_rows_keep_store code w (Transfer setup body) a out w' at (handled_by_reading p q reads asks done) =
    inl (storeless_plan_keeps_store (setup_plan w p q body) (asked_length q) w a out w'
    (holds_in_both_branches CallsNoStore (is_served p q body) _ _ (subst
    (λ (st : Stage). CallsNoStore (plan (profile w) (image_of w.slots) st (request_for_table q body)))
    (sym at) (error_plan_calls_no_store (profile w) (image_of w.slots) code (request_for_table q body))) tt) done)
error_rows_keep_store code w (Passing ms) a out w' at (is, none, row) =
    inl (storeless_plan_keeps_store (time_plan (profile w) w.stage ms) 0 w answer.Ack [] w'
    (subst (λ (st : Stage). CallsNoStore (time_plan (profile w) st ms)) (sym at) tt) row)
error_rows_keep_store code w BusReset a out w' at (is, none, same) = inl (ap (λ (z : DeviceView). z.slots) same)
error_rows_keep_store code w (RefusingClose setup why) a out w' at (is, none, closes, same) = inl (ap (λ (z : DeviceView). z.slots) same)
error_rows_keep_store code w (Refusing why) a out w' at (is, none, same) = inl (ap (λ (z : DeviceView). z.slots) same)
error_rows_keep_store code w PowerOn a out w' at (is, none, same) = inr (ap (λ (z : DeviceView). z.slots) same)
