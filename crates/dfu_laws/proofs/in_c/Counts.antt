-- A board in C requests as many writes as the board that it represents.
use Rattle.std.specs.Prelude.{◌≡◌, ℕ, suc, zero, ◌+◌, ◌-◌, ◌/◌, ◌*◌, ◌≤◌, ◌<◌, ℤ, Bool, pos, List, [], ◌∷◌, length, Some, if◌then◌else◌}
use Rattle.std.proofs.Common.{inl, inr, refl, sym, ap, ◌∙◌, subst, arith}
use Rattle.std.proofs.Math.Nat.{le-div_iff_mul-le}
use Rattle.std.proofs.lemmas.Bool.{ne_eqb}
use Rattle.std.proofs.lemmas.List.{length-take}
use Rattle.dfu_device.specs.declared.answer.Answer.{Answer}
use Rattle.dfu_device.specs.declared.answer.Answer.TheVariants as answer
use Rattle.dfu_asks.specs.declared.asking.Asking.{Asking}
use Rattle.dfu_asks.specs.declared.pending_writes.PendingWrites.{PendingWrites}
use Rattle.dfu_asks.specs.declared.pending_writes.SlotWrite.{SlotWrite}
use Rattle.dfu_asks.specs.declared.pending_writes.SlotWrite.TheVariants.{Block, Commit}
use Rattle.dfu_asks.specs.declared.reply.Reply.{Reply}
use Rattle.dfu_asks.specs.declared.reply.Reply.TheVariants as reply
use Rattle.dfu_asks.specs.Steps.{Step}
use Rattle.dfu_asks.specs.Carried.{IsStepPiece}
use Rattle.dfu_asks.specs.Asks.{steps_in}
use Rattle.dfu_core.specs.declared.config.DfuConfig.{DfuConfig}
use Rattle.dfu_core.specs.declared.numbers.CoreRefusal.{CoreRefusal}
use Rattle.dfu_core.specs.declared.numbers.CoreRefusal.TheVariants as refusal
use Rattle.dfu_core.specs.Config.{transfer_of}
use Rattle.dfu_core.specs.RecordMeaning.{IsRecordOf}
use Rattle.dfu_core.specs.Further.{PiecesAdvance}
use Rattle.dfu_core.specs.Numbers.{WRITE_PENDING_NUMBER, refusal_number, answer_number, reply_number}
use Rattle.dfu_core.specs.Writes.{RefusesPiece, device_is_not_found, piece_is_refused}
use Rattle.dfu_core.specs.Board.{CoreBoard, CoreEvent, CoreHandle, CoreElapse, CoreReset, CoreTooLong, CoreRefuseClose, CoreRefuse, CoreWrite, CoreTook, CoreRestart}
use Rattle.dfu_core.specs.Happens.{CoreEventOutcome}
use Rattle.dfu_laws.specs.board.Board.{Board, lent_on, Event, BoardReply, Nothing, WritesDue, Answers, BoardStep}
use Rattle.dfu_laws.specs.board.Counts.{block_erases, operation_bound, operations_of, operations_in, IsUnanswered, AreUnanswered, PieceAdvances, AllPiecesAdvance, RunOperationsBounded}
use Rattle.dfu_laws.specs.in_c.Steps.{CoreStep, IsCoreRun, board_of_core, IsBoardOfCore, event_of_core, IsRefusalNumber, NumberTellsReply, TimeNumberTellsReply, ObjectionNumberTellsReply, EventNumberTellsReply, AreBoardStepsOf}
use Rattle.dfu_laws.specs.in_c.Counts.{IsUnansweredNumber, IsCoreUnanswered, AreCoreUnanswered, operations_of_number, core_operations_in, CoreOperationsBounded}
use Rattle.dfu_laws.proofs.in_c.RecordDevices.{record_is_one_device, record_has_one_work, work_number_0_is_no_work}
use Rattle.dfu_laws.proofs.in_c.StepsInC.{power_outcome_starts_board}
use Rattle.dfu_laws.proofs.in_c.Runs.{core_run_has_outcome}

-- The number of an answer is at least 0, or DFU_STALL.
answer_number_is_an_answer : (n : ℤ) (a : Answer) (count : ℕ) → IsUnansweredNumber n → n ≡ answer_number a count → ⊥
answer_number_is_an_answer n answer.Ack count un is = un.0 0 is
answer_number_is_an_answer n answer.Bytes count un is = un.0 count is
answer_number_is_an_answer n answer.Stall count un is = un.1 is

-- If a step in C gives no answer and is not a restart, the step of the board gives no answer and is not a restart.
core_unanswered_is_unanswered : (c : DfuConfig) (e : CoreEvent) (n : ℤ) (out : List ℕ) (says : BoardReply) →
    EventNumberTellsReply e n out says → IsCoreUnanswered e n
    → IsUnanswered (event_of_core c e) says
core_unanswered_is_unanswered c (CoreRestart begins) n out says told un = elim un [ ]
core_unanswered_is_unanswered c CoreWrite n out (Answers a bytes) told un = absurd (cc)
core_unanswered_is_unanswered c (CoreHandle setup body buffer) n out (Answers a bytes) told un = absurd (answer_number_is_an_answer n a
    told.0 un told.1)
core_unanswered_is_unanswered c (CoreElapse ms) n out (Answers a bytes) told un = absurd (un.0 0 told)
core_unanswered_is_unanswered c CoreReset n out (Answers a bytes) told un = absurd (un.0 0 told)
core_unanswered_is_unanswered c (CoreTooLong setup body) n out (Answers a bytes) told un = absurd (answer_number_is_an_answer n a told.0 un
    told.1)
core_unanswered_is_unanswered c (CoreRefuseClose setup status) n out (Answers a bytes) told un = absurd (answer_number_is_an_answer n a 0
    un told.0)
core_unanswered_is_unanswered c (CoreRefuse status) n out (Answers a bytes) told un = absurd (answer_number_is_an_answer n a 0 un told.0)
core_unanswered_is_unanswered c (CoreTook failed buffer) n out (Answers a bytes) told un = absurd (answer_number_is_an_answer n a told.0 un
    told.1)
core_unanswered_is_unanswered c CoreWrite n out Nothing told un = tt
core_unanswered_is_unanswered c (CoreHandle setup body buffer) n out Nothing told un = tt
core_unanswered_is_unanswered c (CoreElapse ms) n out Nothing told un = tt
core_unanswered_is_unanswered c CoreReset n out Nothing told un = tt
core_unanswered_is_unanswered c (CoreTooLong setup body) n out Nothing told un = tt
core_unanswered_is_unanswered c (CoreRefuseClose setup status) n out Nothing told un = tt
core_unanswered_is_unanswered c (CoreRefuse status) n out Nothing told un = tt
core_unanswered_is_unanswered c (CoreTook failed buffer) n out Nothing told un = tt
core_unanswered_is_unanswered c CoreWrite n out WritesDue told un = tt
core_unanswered_is_unanswered c (CoreHandle setup body buffer) n out WritesDue told un = tt
core_unanswered_is_unanswered c (CoreElapse ms) n out WritesDue told un = tt
core_unanswered_is_unanswered c CoreReset n out WritesDue told un = tt
core_unanswered_is_unanswered c (CoreTooLong setup body) n out WritesDue told un = tt
core_unanswered_is_unanswered c (CoreRefuseClose setup status) n out WritesDue told un = tt
core_unanswered_is_unanswered c (CoreRefuse status) n out WritesDue told un = tt
core_unanswered_is_unanswered c (CoreTook failed buffer) n out WritesDue told un = tt

refusal_number_is_no_operation : (e : CoreRefusal) → operations_of_number (refusal_number e) ≡ 0
refusal_number_is_no_operation refusal.NoConfig = refl
refusal_number_is_no_operation refusal.NoBlock = refl
refusal_number_is_no_operation refusal.Asked = refl
refusal_number_is_no_operation refusal.NoMedium = refl
refusal_number_is_no_operation refusal.NoDevice = refl

refused_call_is_no_operation : (n : ℤ) → IsRefusalNumber n → operations_of_number n ≡ 0
refused_call_is_no_operation n (inl is) = ap operations_of_number is
refused_call_is_no_operation n (inr (inl is)) = ap operations_of_number is
refused_call_is_no_operation n (inr (inr (e, is))) = ap operations_of_number is ∙ refusal_number_is_no_operation e

refused_objection_no_operation : (n : ℤ) → ObjectionNumberTellsReply n Nothing → operations_of_number n ≡ 0
refused_objection_no_operation n (inl is) = refused_call_is_no_operation n is
refused_objection_no_operation n (inr (inl is)) = ap operations_of_number is
refused_objection_no_operation n (inr (inr is)) = ap operations_of_number is

answer_number_is_no_operation : (a : Answer) (count : ℕ) → operations_of_number (answer_number a count) ≡ 0
answer_number_is_no_operation answer.Ack count = refl
answer_number_is_no_operation answer.Bytes count = refl
answer_number_is_no_operation answer.Stall count = refl

call_number_counts_operation : (n : ℤ) (out : List ℕ) (says : BoardReply) → NumberTellsReply n out says → operations_of_number n
    ≡ operations_of says
call_number_counts_operation n out Nothing told = refused_call_is_no_operation n told
call_number_counts_operation n out WritesDue told = ap operations_of_number told
call_number_counts_operation n out (Answers a bytes) told = ap operations_of_number told.1 ∙ answer_number_is_no_operation a told.0

time_number_counts_operation : (n : ℤ) (says : BoardReply) → TimeNumberTellsReply n says → operations_of_number n ≡ operations_of says
time_number_counts_operation n Nothing told = refused_call_is_no_operation n told
time_number_counts_operation n WritesDue told = ap operations_of_number told
time_number_counts_operation n (Answers a bytes) told = ap operations_of_number told

objection_counts_operation : (n : ℤ) (says : BoardReply) → ObjectionNumberTellsReply n says → operations_of_number n ≡ operations_of says
objection_counts_operation n Nothing told = refused_objection_no_operation n told
objection_counts_operation n WritesDue told = elim told [ ]
objection_counts_operation n (Answers a bytes) told = ap operations_of_number told.0 ∙ answer_number_is_no_operation a 0

event_number_counts_operation : (e : CoreEvent) (n : ℤ) (out : List ℕ) (says : BoardReply) → EventNumberTellsReply e n out says
    → operations_of_number n ≡ operations_of says
event_number_counts_operation (CoreHandle setup body buffer) n out says told = call_number_counts_operation n out says told
event_number_counts_operation (CoreElapse ms) n out says told = time_number_counts_operation n says told
event_number_counts_operation CoreReset n out says told = time_number_counts_operation n says told
event_number_counts_operation (CoreTooLong setup body) n out says told = call_number_counts_operation n [] says told
event_number_counts_operation (CoreRefuseClose setup status) n out says told = objection_counts_operation n says told
event_number_counts_operation (CoreRefuse status) n out says told = objection_counts_operation n says told
event_number_counts_operation (CoreTook failed buffer) n out says told = call_number_counts_operation n out says told
event_number_counts_operation CoreWrite n out says told = ap operations_of_number told.0 ∙ sym (ap operations_of told.1)
event_number_counts_operation (CoreRestart begins) n out says told = ap operations_of_number told.0 ∙ sym (ap operations_of told.1)

pending_number_is_of_asks : (r : Reply) (n : ℤ) → n ≡ WRITE_PENDING_NUMBER → n ≡ reply_number r → r ≡ reply.Asks
pending_number_is_of_asks reply.Asks n asks is = refl
pending_number_is_of_asks (reply.Answered a count) n asks is =
    absurd (omega (arith, ap operations_of_number (sym asks ∙ is) ∙ answer_number_is_no_operation a count))

refused_piece_is_no_operation : (b : CoreBoard) (Why : Asking → Type 0) (n : ℤ) → RefusesPiece b.config b.kept b.block Why n →
    operations_of_number n ≡ 0
refused_piece_is_no_operation b Why n (device_is_not_found e is cause) = ap operations_of_number is ∙ refusal_number_is_no_operation e
refused_piece_is_no_operation b Why n (piece_is_refused x is config room kept why) = ap operations_of_number is

pending_number_is_an_operation : (n : ℤ) → n ≡ WRITE_PENDING_NUMBER → operations_of_number n ≡ 0 → ⊥
pending_number_is_an_operation n asks none = absurd (omega (arith, ap operations_of_number asks, none))

core_record_pieces_advance : (b b' : CoreBoard) (x x' : Board) (a a' : Asking) (r : Reply) → IsBoardOfCore b x → IsBoardOfCore b' x' →
    IsRecordOf b.config b.kept a
    → IsRecordOf b'.config b'.kept a' → r ≡ reply.Asks → PiecesAdvance (lent_on (board_of_core b a)) r (lent_on (board_of_core b' a'))
    → (w : PendingWrites) (p : Step) → x.asking.work ≡ Some w → IsStepPiece (steps_in (lent_on x) w) w.done p
    → x'.asking.work ≡ Some (record w { done = w.done + length p.write.bytes })
core_record_pieces_advance b b' x x' a a' r is is' was now asks further w p work piece =
    let first : x ≡ board_of_core b a =
    is.is ∙ ap (λ (y : Asking). board_of_core b y) (record_is_one_device b.config b.kept x.asking a is.kept was) in
    let last : x'.asking ≡ a' = record_is_one_device b'.config b'.kept x'.asking a' is'.kept now in
    ap (λ (y : Asking). y.work) last
    ∙ further asks w p (ap (λ (y : Board). y.asking.work) (sym first) ∙ work)
    (subst (λ (y : Board). IsStepPiece (steps_in (lent_on y) w) w.done p) first piece)

core_step_advances_piece : (b b' : CoreBoard) (x x' : Board) (e : CoreEvent) (n : ℤ) (out' : List ℕ) (says : BoardReply) → IsBoardOfCore b x
    → IsBoardOfCore b' x'
    → CoreEventOutcome b e n out' b' → EventNumberTellsReply e n out' says → PieceAdvances x (event_of_core b.config e) says x'
core_step_advances_piece b b' x x' (CoreTook failed out) n out' WritesDue is is' (called, inl g) told =
    let now = subst (λ (c : DfuConfig). IsRecordOf c b'.kept g.after) (sym called.config) g.is in
    core_record_pieces_advance b b' x x' g.before g.after g.does.reply is is' g.was now (pending_number_is_of_asks g.does.reply n told
    g.does.number_is) g.does.further
core_step_advances_piece b b' x x' (CoreTook failed out) n out' WritesDue is is' (called, inr (inl denied)) told =
    absurd (pending_number_is_an_operation n told (refused_piece_is_no_operation b _ n denied.0))
core_step_advances_piece b b' x x' (CoreTook failed out) n out' WritesDue is is' (called, inr (inr denied)) told =
    absurd (pending_number_is_an_operation n told (ap operations_of_number denied.number_is))
core_step_advances_piece b b' x x' (CoreTook failed out) n out' Nothing is is' happens told = tt
core_step_advances_piece b b' x x' (CoreTook failed out) n out' (Answers a bytes) is is' happens told = tt
core_step_advances_piece b b' x x' (CoreHandle setup body out) n out' says is is' happens told = tt
core_step_advances_piece b b' x x' (CoreElapse ms) n out' says is is' happens told = tt
core_step_advances_piece b b' x x' CoreReset n out' says is is' happens told = tt
core_step_advances_piece b b' x x' (CoreTooLong setup body) n out' says is is' happens told = tt
core_step_advances_piece b b' x x' (CoreRefuseClose setup status) n out' says is is' happens told = tt
core_step_advances_piece b b' x x' (CoreRefuse status) n out' says is is' happens told = tt
core_step_advances_piece b b' x x' CoreWrite n out' says is is' happens told = tt
core_step_advances_piece b b' x x' (CoreRestart begins) n out' says is is' happens told = tt

-- The steps of the board give no answer, and the board requests as many writes in them as the board in C does in its steps.
record CoreStepsCounted (steps : List CoreStep) (ts : List BoardStep) : Type 0 where
  un : AreUnanswered ts
  further : AllPiecesAdvance ts
  count : core_operations_in steps ≡ operations_in ts

core_steps_are_counted : (b b' : CoreBoard) (steps : List CoreStep) (ts : List BoardStep) → IsCoreRun b steps b' → AreBoardStepsOf steps ts
    → AreCoreUnanswered steps → CoreStepsCounted steps ts
core_steps_are_counted b b' [] [] run are un = record { un = tt; further = tt; count = refl }
core_steps_are_counted b b' (s ∷ steps) (t ∷ ts) run are un =
    let more = core_steps_are_counted s.after b' steps ts run.2 are.1 un.1 in
    let is = are.0 in
    let happens = subst (λ (x : CoreBoard). CoreEventOutcome x s.event s.number s.out s.after) (sym run.0) run.1 in
    record {
      un = (
        subst (λ (e : Event). IsUnanswered e t.says) (sym is.event)
            (core_unanswered_is_unanswered s.before.config s.event s.number s.out t.says is.says un.0),
        more.un,
      );
      further = (
        subst (λ (e : Event). PieceAdvances t.before e t.says t.after) (sym is.event)
            (core_step_advances_piece s.before s.after t.before t.after s.event s.number s.out t.says is.before is.after happens is.says),
        more.further,
      );
      count = λ i. event_number_counts_operation s.event s.number s.out t.says is.says i + more.count i;
    }
core_steps_are_counted b b' [] (t ∷ ts) run are un = absurd are
core_steps_are_counted b b' (s ∷ steps) [] run are un = absurd are

-- A longer block begins at least as many sectors. Therefore the upper bound of the writes grows with the block.
sectors_grow_with_block : (s n m : ℕ) → n ≤ m → (n + suc s - 1) / suc s ≤ (m + suc s - 1) / suc s
sectors_grow_with_block s n m le =
    let k = suc s in
    let some : 0 < k = omega arith in
    let x = (n + k - 1) / k in
    let fits : x * k ≤ n + k - 1 = (le-div_iff_mul-le {k = k} {x = x} {y = n + k - 1} some).0 (omega arith) in
    (le-div_iff_mul-le {k = k} {x = x} {y = m + k - 1} some).1 (omega (arith, fits, le))

block_erases_of_sectors : (s n : ℕ) → block_erases n (suc s) ≡ 1 + (n + suc s - 1) / suc s
block_erases_of_sectors s n = ap (λ (b : Bool). if b then 0 else 1 + (n + suc s - 1) / suc s) (ne_eqb (suc s) 0 (omega arith))

operation_bound_grows : (job : SlotWrite) (n m sector : ℕ) → n ≤ m → operation_bound job n sector ≤ operation_bound job m sector
operation_bound_grows (Block spare close) n m zero le = omega (arith, le)
operation_bound_grows (Block spare close) n m (suc s) le = omega (
  arith,
  le,
  sectors_grow_with_block s n m le,
  block_erases_of_sectors s n,
  block_erases_of_sectors s m,
)
operation_bound_grows (Commit spare gen crc) n m sector le = omega arith

pub core_operations_bounded : RunOperationsBounded → CoreOperationsBounded
core_operations_bounded few b mid b' old steps w on before idle run un has =
    let start = power_outcome_starts_board b (pos 0) on.begins on.powers in
    let first = board_of_core b on.powers.after in
    let past = core_run_has_outcome b on.powers.after old mid start.0 before in
    let ran = core_run_has_outcome mid past.last steps b' past.sound run in
    let y = board_of_core b' ran.last in
    let none = work_number_0_is_no_work mid.kept past.last.work past.sound.kept.work idle in
    let some = record_has_one_work b'.kept ran.last.work (Some w) ran.sound.kept.work has in
    let so = core_steps_are_counted mid b' steps ran.run run ran.are un in
    let bound = few first (board_of_core mid past.last) y past.run ran.run w start.1.0 past.is_run none ran.is_run so.un so.further some in
    let same : b'.config ≡ b.config = ran.config ∙ past.config in
    let size : y.asking.sector.size ≡ b.config.sector =
    ran.sound.kept.set_up.sector_is ∙ ap (λ (c : DfuConfig). c.sector) same in
    let short : length (lent_on y).block ≤ transfer_of b.config = omega (
      arith,
      length-take ran.last.block_len y.block,
      ran.sound.short,
      ap transfer_of same,
    ) in
    omega (
      arith,
      so.count,
      bound,
      operation_bound_grows w.job (length (lent_on y).block) (transfer_of b.config) y.asking.sector.size short,
      ap (λ (s : ℕ). operation_bound w.job (transfer_of b.config) s) size,
    )
