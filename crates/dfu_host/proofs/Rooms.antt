-- Results of a session whose caller keeps an upload's parts in a room of fixed size.
use Rattle.std.proofs.Common.{◌≡◌, ◌∙◌, ◌↔◌, ℕ, zero, suc, pred, nat_lt, ◌==◌, ◌++◌, Bool, true, false, if◌then◌else◌, IsTrue, List, length, refl, sym, ap, subst}
use Rattle.dfu_host.specs.declared.report.Report.TheVariants as report
use Rattle.dfu_host.specs.declared.phase.Phase.{Phase}
use Rattle.dfu_host.specs.declared.phase.Phase.TheVariants as phase
use Rattle.dfu_host.specs.declared.heard.Heard.{Heard}
use Rattle.dfu_host.specs.declared.heard.Heard.TheVariants as heard
use Rattle.dfu_host.specs.declared.seen.Seen.{Seen}
use Rattle.dfu_host.specs.declared.seen.Seen.TheVariants as seen
use Rattle.dfu_host.specs.declared.task.Task.{Task}
use Rattle.dfu_host.specs.declared.progress.Progress.{Progress}
use Rattle.dfu_host.specs.Table as table
use Rattle.dfu_host.specs.Host.{HostState, after, host_after_phase, phase_in_budget}
use Rattle.dfu_host.specs.InParts.{phase_of}
use Rattle.dfu_host.specs.RowLaws.{choice_gives_property}
use Rattle.dfu_host.specs.Rooms.{NoMemoryExactlyOnOverflow, FetchResultIn, part_overflows}
use Rattle.dfu_host.specs.inside.Refusing.{SeenMeaningIn, RefusesAnswerByRoom}
use Rattle.dfu_host.specs.inside.View.{meaning_of_heard, part_of, host_of_progress}

-- If a part was refused exactly when it overflows the room, the host takes it as `FetchResultIn` requires.
pub part_is_taken_by_room : (room : ℕ) (memory : List ℕ) (t : Task) (p : Progress) (what : Seen) (refused : Bool) (word : Heard) (h' :
    HostState)
    → SeenMeaningIn p.phase what refused word → RefusesAnswerByRoom room t.transfer p.phase memory what refused
    → h' ≡ after (host_of_progress memory t p) (meaning_of_heard (part_of what) word)
    → FetchResultIn room (host_of_progress memory t p) (phase_of memory p.phase) what h'
part_is_taken_by_room room memory t p what refused word h' by full same = by_phase p.phase what by full same
  where
    -- A part means NoRoom in the table exactly if it was refused.
    refusal_decides_heard_part : (part : List ℕ) (b : Bool)
        → meaning_of_heard part (if b then heard.NoRoom else heard.Part (length part)) ≡ (if b then table.NoRoom else table.Part part)
    refusal_decides_heard_part part true = refl
    refusal_decides_heard_part part false = refl

    by_phase : (phase : Phase) (what : Seen) → SeenMeaningIn phase what refused word →
        RefusesAnswerByRoom room t.transfer phase memory what refused
        → h' ≡ after (host_of_progress memory t p) (meaning_of_heard (part_of what) word)
        → FetchResultIn room (host_of_progress memory t p) (phase_of memory phase) what h'
    by_phase (phase.Fetch k) (seen.Bytes bytes) by full same =
        same ∙ ap (after (host_of_progress memory t p)) (ap (meaning_of_heard bytes.now) by ∙ refusal_decides_heard_part bytes.now refused
        ∙ ap (λ (b : Bool). if b then table.NoRoom else table.Part bytes.now) full)
    by_phase phase what by full same = tt

-- The phase doesn't end with NoMemory, under any budget.
abbrev IsNotOutOfMemory : table.Phase → Type 0
IsNotOutOfMemory next = (left : ℕ) → phase_in_budget left next ≡ table.Over report.NoMemory → ⊥

-- A part that was not refused doesn't end the upload with NoMemory.
taken_part_is_not_out_of_memory : (t k : ℕ) (kept bytes : List ℕ) → IsNotOutOfMemory (table.fetched_phase t k kept bytes)
taken_part_is_not_out_of_memory t k kept bytes =
    choice_gives_property IsNotOutOfMemory (length bytes == t) _ _
    (λ e. choice_gives_property IsNotOutOfMemory (suc k == 65535) _ _ too_many (next (suc k)))
    (λ e. choice_gives_property IsNotOutOfMemory (nat_lt (length bytes) t) _ _ last again)
  where
    -- The end with TooManyBlocks is not an end with NoMemory.
    too_many : {A : Type 0} → A → IsNotOutOfMemory (table.Over report.TooManyBlocks)
    too_many a left e = absurd cc

    -- The phase of the next part is not an end with NoMemory.
    next : (k : ℕ) {A : Type 0} → A → IsNotOutOfMemory (table.Fetch k (kept ++ bytes))
    next k a zero e = absurd cc
    next k a (suc left) e = absurd cc

    -- The last reset of an upload is not an end with NoMemory.
    last : {A : Type 0} → A → IsNotOutOfMemory (table.LastUploaded (kept ++ bytes))
    last a zero e = absurd cc
    last a (suc left) e = absurd cc

    -- Phase Find is not an end with NoMemory.
    again : {A : Type 0} → A → IsNotOutOfMemory table.Find
    again a zero e = absurd cc
    again a (suc left) e = absurd cc

-- An upload that receives a part ends with NoMemory exactly if that part overflows the room.
pub no_memory_exactly_on_overflow : NoMemoryExactlyOnOverflow
no_memory_exactly_on_overflow room h h' k kept bytes at takes = no_memory_by_overflow (part_overflows room h.task.transfer k kept bytes.now)
    refl
  where
    -- The phase after part k follows from NoRoom if the part overflows the room, else from the part.
    follows : (b : Bool) → part_overflows room h.task.transfer k kept bytes.now ≡ b
        → h'.phase ≡ (host_after_phase h (table.Fetch k kept) (if b then table.NoRoom else table.Part bytes.now)).phase
    follows b e = let taken : FetchResultIn room h (table.Fetch k kept) (seen.Bytes bytes) h' =
        subst (λ (p : table.Phase). FetchResultIn room h p (seen.Bytes bytes) h') at takes in
        ap (λ (s : HostState). s.phase) taken ∙ rw (at, e) refl

    -- If the overflow test of the part is `b`, the upload ends with NoMemory exactly if `b` is true.
    no_memory_by_overflow : (b : Bool) → part_overflows room h.task.transfer k kept bytes.now ≡ b
        → (h'.phase ≡ table.Over report.NoMemory) ↔ IsTrue (part_overflows room h.task.transfer k kept bytes.now)
    no_memory_by_overflow true e = (λ over. e, λ full. follows true e)
    no_memory_by_overflow false e = (
      λ over. absurd (taken_part_is_not_out_of_memory h.task.transfer k kept bytes.now (pred h.actions) (sym (follows false e) ∙ over)),
      λ full. absurd cc,
    )
