-- If a loss of power tears a piece of a board's pending row, the row fails.
use Rattle.std.proofs.Common.{◌≡◌, Bool, true, false, if◌then◌else◌, ℕ, ◌<◌, List, [], ◌∷◌, length, take, Option, Some, None, refl, sym, subst}
use Rattle.dfu_wire.specs.declared.codes.Code.{Code}
use Rattle.dfu_wire.specs.Code.{code_byte}
use Rattle.dfu_slots.specs.declared.fault.WriteFault.{WriteFault}
use Rattle.dfu_slots.specs.declared.fault.WriteFault.TheVariants.{Failed}
use Rattle.dfu_slots.specs.Units.{Grain}
use Rattle.dfu_slots.specs.Medium.{Write, Torn, BrokenWrites}
use Rattle.dfu_slots.specs.StoreView.{store_on}
use Rattle.dfu_slots.specs.Store.{IsStore}
use Rattle.dfu_device.specs.declared.answer.Answer.{Answer}
use Rattle.dfu_device.specs.declared.answer.Answer.TheVariants as answer
use Rattle.dfu_device.specs.declared.device_state.DeviceState.{DeviceState}
use Rattle.dfu_device.specs.declared.device_state.DeviceState.TheVariants as device_state
use Rattle.dfu_device.specs.Setting.{Setting}
use Rattle.dfu_device.specs.Parts.{view_of_parts}
use Rattle.dfu_device.specs.Table.{write_code, commit_code}
use Rattle.dfu_device.specs.Rows.{Cause}
use Rattle.dfu_device.specs.DeviceView.{DeviceView}
use Rattle.dfu_asks.specs.declared.pending_writes.SlotWrite.{SlotWrite}
use Rattle.dfu_asks.specs.declared.pending_writes.PendingWrites.{PendingWrites}
use Rattle.dfu_asks.specs.Mapped.{mapped_medium}
use Rattle.dfu_asks.specs.Steps.{Step, step_writes}
use Rattle.dfu_asks.specs.Jobs.{job_writes, job_steps}
use Rattle.dfu_asks.specs.Carried.{total, bytes_after_writes, WritesWithin, IsStepPiece}
use Rattle.dfu_asks.specs.Due.{DueRowFails}
use Rattle.dfu_asks.specs.Asks.{grain_in, writes_in, steps_in, is_block, failed_mode, IsRowEndAnswer}
use Rattle.dfu_laws.specs.board.Board.{Board, lent_on, medium_on}
use Rattle.dfu_laws.specs.board.Refines.{IsBoardAtWork}
use Rattle.dfu_laws.proofs.board.Broken.{BrokenBlockFailsCall, BrokenCommitFailsCall, fails}
use Rattle.dfu_laws.proofs.board.Pieces.{series_has_next_piece}
use Rattle.dfu_asks.proofs.Inside.{work_writes_within_flash}

-- Clause `torn` of the law `pieces_are_the_writes`: a torn piece breaks off the writes of its steps.
abbrev pub TornPieceBreaksWrites : Type 0
TornPieceBreaksWrites = (grain : Grain) (fault : WriteFault) (steps : List Step) (bytes now : List ℕ) (n : ℕ) (piece : Step)
    → WritesWithin (step_writes steps) (length bytes) → IsStepPiece steps n piece
    → Torn (bytes_after_writes bytes (step_writes steps) n) piece.write.at piece.write.bytes now
    → BrokenWrites fault (mapped_medium grain bytes) (step_writes steps) (mapped_medium grain now)

-- Law `steps_are_the_writes`: the write steps of a job are its writes.
abbrev pub StepsAreWrites : Type 0
StepsAreWrites = (job : SlotWrite) (grain : Grain) (end : ℕ) (held block : List ℕ)
    → step_writes (job_steps job grain end held block) ≡ job_writes job grain end held block

-- Laws of dfu_asks about the pieces and writes of a job.
pub record WriteLaws : Type 0 where
  -- A torn piece breaks off the writes.
  pub tear : TornPieceBreaksWrites
  -- The steps of a job are its writes.
  pub same : StepsAreWrites
  -- If the writes of a block are broken off, the call that writes the block fails.
  pub blocks : BrokenBlockFailsCall
  -- If the writes of a commit are broken off, the commit fails.
  pub commits : BrokenCommitFailsCall

pub write_laws : TornPieceBreaksWrites → StepsAreWrites → BrokenBlockFailsCall → BrokenCommitFailsCall → WriteLaws
write_laws tear same blocks commits = record { tear = tear; same = same; blocks = blocks; commits = commits }

-- A device in mode `m` has an answer at the end of the pending row: the status if a GETSTATUS caused the row, else an acknowledgement.
record HasRowEndAnswer (c : Setting) (m : DeviceState) (asked : Option ℕ) : Type 0 where
  answer : Answer
  out : List ℕ
  says : IsRowEndAnswer c m asked answer out

error_has_row_end_answer : (c : Setting) (code : Code) (asked : Option ℕ) → HasRowEndAnswer c (device_state.Error code) asked
error_has_row_end_answer c code None = record { answer = answer.Ack; out = []; says = (0, λ room spare block holds. (refl, refl)) }
error_has_row_end_answer c code (Some len) =
    let bytes : List ℕ = code_byte code ∷ 0 ∷ 0 ∷ 0 ∷ 10 ∷ 0 ∷ [] in
    record {
      answer = answer.Bytes;
      out = take len bytes;
      says = (
        0,
        λ room spare block holds. (
          refl,
          bytes,
          record { length = refl; code = refl; poll = refl; state = refl },
          refl,
          refl,
        ),
      );
    }

failed_mode_has_row_end_answer : (c : Setting) (fault : WriteFault) (m : DeviceState) (asked : Option ℕ) →
    HasRowEndAnswer c (failed_mode fault m) asked
failed_mode_has_row_end_answer c fault m asked = by_test (is_block m)
  where
    by_test : (b : Bool) → HasRowEndAnswer c (if b then device_state.Error (write_code fault) else device_state.Error (commit_code fault))
        asked
    by_test true = error_has_row_end_answer c (write_code fault) asked
    by_test false = error_has_row_end_answer c (commit_code fault) asked

-- The pending row failed, and the flash holds the store of its device.
pub record IsRowCutOff (b : Board) (len : ℕ) (d : DeviceView) : Type 0 where
  -- Answer of the row, which the host never receives.
  pub answer : Answer
  pub out : List ℕ
  pub after : DeviceView
  pub row : DueRowFails Failed len d answer out after
  -- The configuration of the device does not change.
  pub config : after.config ≡ b.asking.config
  pub slots : after.slots ≡ store_on (medium_on b)
  -- The store that the flash holds is well-formed.
  pub store : IsStore (store_on (medium_on b))

-- A board with pending writes has a next piece, whose range may hold any bytes.
pub record HasNextPiece (b : Board) (cause : Cause) (d : DeviceView) (k : IsBoardAtWork b cause d) : Type 0 where
  pub piece : Step
  -- The piece follows the completed bytes of the writes.
  pub is : IsStepPiece (steps_in (lent_on b) k.asks.work) k.asks.work.done piece
  -- The flash holds any bytes in the range of the piece.
  pub torn : Torn k.stood piece.write.at piece.write.bytes b.flash

module _ (laws : WriteLaws) where
  -- The write steps of a board are its pending writes.
  pub work_steps_are_writes : (b : Board) (w : PendingWrites) → step_writes (steps_in (lent_on b) w) ≡ writes_in (lent_on b) w
  work_steps_are_writes b w = laws.same w.job (grain_in (lent_on b)) (lent_on b).put_end (lent_on b).held (lent_on b).block

  -- A board with pending writes has a next piece.
  pub board_at_work_has_next_piece : (b : Board) (cause : Cause) (d : DeviceView) (k : IsBoardAtWork b cause d) → HasNextPiece b cause d k
  board_at_work_has_next_piece b cause d k =
      let w = k.asks.work in
      let there = series_has_next_piece (steps_in (lent_on b) w) w.done
      (subst (λ (ws : List Write). w.done < total ws) (sym (work_steps_are_writes b w)) k.asks.left) in
      record { piece = there.0; is = there.1; torn = k.torn there.0 there.1 }

  work_writes_are_broken_off : (b : Board) (cause : Cause) (d : DeviceView) (k : IsBoardAtWork b cause d) (fault : WriteFault)
      → BrokenWrites fault (mapped_medium (grain_in (lent_on b)) k.was) (writes_in (lent_on b) k.asks.work) (medium_on b)
  work_writes_are_broken_off b cause d k fault =
      let a = lent_on b in
      let w = k.asks.work in
      let same = work_steps_are_writes b w in
      let next = board_at_work_has_next_piece b cause d k in
      let p = next.piece.write in
      subst (λ (ws : List Write). BrokenWrites fault (mapped_medium (grain_in a) k.was) ws (medium_on b)) same
      (laws.tear (grain_in a) fault (steps_in a w) k.was b.flash w.done next.piece
      (subst (λ (ws : List Write). WritesWithin ws (length k.was)) (sym same) (work_writes_within_flash a w k.len k.s k.was k.asks.working))
      next.is
      (subst (λ (ws : List Write). Torn (bytes_after_writes k.was ws w.done) p.at p.bytes b.flash) (sym same)
      (subst (λ (l : List ℕ). Torn l p.at p.bytes b.flash) k.asks.flash_is next.torn)))

  -- For any bytes in the range of the next piece, the pending row of the board is a row whose write failed.
  pub torn_piece_cuts_row_off : (b : Board) (cause : Cause) (d : DeviceView) (k : IsBoardAtWork b cause d) → IsRowCutOff b k.len d
  torn_piece_cuts_row_off b cause d k =
      let a = lent_on b in
      let w = k.asks.work in
      let on = k.asks.working in
      let said = failed_mode_has_row_end_answer a.config Failed a.mode w.asked in
      let left : DeviceView = view_of_parts a.config (store_on (medium_on b)) (failed_mode Failed a.mode) a.block in
      let e = fails laws.blocks laws.commits a.config (grain_in a) a.block a.held a.put_end w.job k.s k.was b.flash on.medium on.store
      Failed a.mode w.asked k.len on.sound on.due (work_writes_are_broken_off b cause d k Failed) said.answer said.out said.says in
      record {
        answer = said.answer;
        out = said.out;
        after = left;
        row = subst (λ (x : DeviceView). DueRowFails Failed k.len x said.answer said.out left) k.device e.0;
        config = refl;
        slots = refl;
        store = e.1;
      }
