-- Parts of an image that a session fetches, and their meanings for the host.
use Rattle.std.proofs.Common.{◌≡◌, ◌⊎◌, ℕ, ◌%◌, ◌<◌, IsTrue, List, length, refl, sym, ap, subst, arith, inl, inr}
use Rattle.std.proofs.Math.Nat.{mod-eq_of_lt}
use Rattle.dfu_wire.specs.declared.requests.Request.TheVariants as request
use Rattle.dfu_host.specs.declared.phase.Phase.{Phase}
use Rattle.dfu_host.specs.declared.phase.Phase.TheVariants as phase
use Rattle.dfu_host.specs.declared.heard.Heard.{Heard}
use Rattle.dfu_host.specs.declared.heard.Heard.TheVariants as heard
use Rattle.dfu_host.specs.declared.seen.Seen.{Seen}
use Rattle.dfu_host.specs.declared.seen.Seen.TheVariants as seen
use Rattle.dfu_host.specs.Table as table
use Rattle.dfu_host.specs.Wire.{SeenMeaning, NeedsRoom, ReadsAnswer}
use Rattle.dfu_host.specs.Host.{HostState, after, wants_memory}
use Rattle.dfu_host.specs.Uploading.{FetchResult}
use Rattle.dfu_host.specs.inside.PartMemory.{NoRoomOnlyIfNeeded}
use Rattle.dfu_host.specs.declared.task.Task.{Task}
use Rattle.dfu_host.specs.declared.progress.Progress.{Progress}
use Rattle.dfu_host.specs.declared.goal.Goal.{Goal}
use Rattle.dfu_host.specs.declared.goal.Goal.TheVariants as goal
use Rattle.dfu_host.specs.Goals.{goal_of, IsFetch}
use Rattle.dfu_host.specs.InParts.{phase_of}
use Rattle.dfu_host.specs.inside.View.{meaning_of_heard, part_of, task_of_session, host_of_progress}

fetch_goal_is_of_table : (g : Goal) → IsFetch g → goal_of g ≡ table.FetchGoal
fetch_goal_is_of_table (goal.Load payload) is = elim is [ ]
fetch_goal_is_of_table goal.Fetch is = refl
fetch_goal_is_of_table (goal.Verify payload) is = elim is [ ]
fetch_goal_is_of_table (goal.Compare payload) is = elim is [ ]

-- The bytes that answer an UPLOAD may mean a part, or NoRoom if the part needs memory.
pub part_answers_upload : (t : Task) (k : ℕ) (part : List ℕ) (word : Heard) → k < 65535 → (word ≡ heard.Part (length part)) ⊎ (word
    ≡ heard.NoRoom)
    → NoRoomOnlyIfNeeded t (phase.Fetch k) part word
    → ReadsAnswer (request.Upload (k % 65536) t.transfer) part (meaning_of_heard part word)
part_answers_upload t k part word less (inl e) room = inl (ap (meaning_of_heard part) e)
part_answers_upload t k part word less (inr e) room =
    let needs : NoRoomOnlyIfNeeded t (phase.Fetch k) part heard.NoRoom = subst (NoRoomOnlyIfNeeded t (phase.Fetch k) part) e room in
    let same : k ≡ k % 65536 = sym (mod-eq_of_lt (omega (arith, less))) in
    inr (ap (meaning_of_heard part) e, subst (λ (n : ℕ). NeedsRoom t.transfer n (length part)) same needs.1)

-- A host that fetches a part takes it as that part, or as NoRoom if the part needs memory.
pub part_is_taken_or_refused : (memory : List ℕ) (t : Task) (p : Progress) (what : Seen) (word : Heard) (h' : HostState)
    → SeenMeaning (table.deed (task_of_session t) (phase_of memory p.phase)) what (meaning_of_heard (part_of what) word)
    → NoRoomOnlyIfNeeded t p.phase (part_of what) word → h' ≡ after (host_of_progress memory t p) (meaning_of_heard (part_of what) word)
    → FetchResult (host_of_progress memory t p) (phase_of memory p.phase) what h'
part_is_taken_or_refused memory t p what word h' hears room same = by_phase p.phase what word hears room same
  where
    by_phase : (phase : Phase) (what : Seen) (word : Heard)
        → SeenMeaning (table.deed (task_of_session t) (phase_of memory phase)) what (meaning_of_heard (part_of what) word)
        → NoRoomOnlyIfNeeded t phase (part_of what) word → h' ≡ after (host_of_progress memory t p) (meaning_of_heard (part_of what) word)
        → FetchResult (host_of_progress memory t p) (phase_of memory phase) what h'
    by_phase (phase.Fetch k) (seen.Bytes bytes) (heard.Part len) hears room same = inl same
    by_phase (phase.Fetch k) (seen.Bytes bytes) (heard.Compared same len) hears room taken = inl taken
    by_phase (phase.Fetch k) (seen.Bytes bytes) heard.NoRoom hears room same = inr (same, fetch_goal_is_of_table t.goal room.0, room.1)
    by_phase (phase.Fetch k) (seen.Bytes bytes) word (inl e) room same = absurd cc
    by_phase (phase.Fetch k) (seen.Bytes bytes) word (inr (e, needs)) room same = absurd cc
    by_phase phase what word hears room same = tt

-- The meaning NoRoom occurs only in a phase that needs memory.
pub no_room_needs_memory : (t : Task) (p : Phase) (part : List ℕ) (word : Heard) (memory : List ℕ) → NoRoomOnlyIfNeeded t p part word
    → meaning_of_heard part word ≡ table.NoRoom → IsTrue (wants_memory (phase_of memory p))
no_room_needs_memory t p part heard.NoRoom memory room e = by_phase p room
  where
    by_phase : (p : Phase) → NoRoomOnlyIfNeeded t p part heard.NoRoom → IsTrue (wants_memory (phase_of memory p))
    by_phase (phase.Fetch k) room = refl
    by_phase p room = elim room [ ]
no_room_needs_memory t p part word memory room e = absurd cc
