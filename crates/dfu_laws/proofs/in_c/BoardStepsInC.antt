-- Steps of a board in C, as steps of a board, and calls that change nothing.
use Rattle.std.specs.Prelude.{◌≡◌, ◌≤◌, ℕ, ℤ, List, length}
use Rattle.std.proofs.Common.{sym, ◌∙◌, ap, subst, arith}
use Rattle.std.proofs.lemmas.List.{length-take-le}
use Rattle.dfu_device.specs.Setting.{Setting}
use Rattle.dfu_asks.specs.declared.asking.Asking.{Asking}
use Rattle.dfu_asks.specs.Refused.{RoomForBlocks}
use Rattle.dfu_laws.specs.board.Board.{BoardReply, Nothing}
use Rattle.dfu_laws.specs.board.Happens.{EventOutcome}
use Rattle.dfu_core.specs.declared.config.DfuConfig.{DfuConfig}
use Rattle.dfu_core.specs.declared.record.DfuRecord.{DfuRecord}
use Rattle.dfu_core.specs.Config.{transfer_of, IsConfig}
use Rattle.dfu_core.specs.RecordMeaning.{IsRecordOf, block_in_memory, held_memory}
use Rattle.dfu_core.specs.Calls.{RecordAfterCall}
use Rattle.dfu_core.specs.Board.{CoreBoard, CoreEvent}
use Rattle.dfu_laws.specs.in_c.Steps.{board_of_core, event_of_core, EventNumberTellsReply}
use Rattle.dfu_laws.proofs.in_c.RecordDevices.{record_is_one_device}

-- The board in C is well-formed: its record represents the device a, and the device's block is at most as long as the transfer size.
pub record IsSoundCoreBoard (b : CoreBoard) (a : Asking) : Type 0 where
  -- The configuration is valid for a device.
  pub config : IsConfig b.config
  pub kept : IsRecordOf b.config b.kept a
  -- The block is at most as long as the transfer size.
  pub short : a.block_len ≤ transfer_of b.config

-- A step of a board in C is a step of a board, and the board in C stays well-formed.
pub record CoreStepIsBoardStep (b : CoreBoard) (a : Asking) (e : CoreEvent) (n : ℤ) (out : List ℕ) (b' : CoreBoard) : Type 0 where
  pub config : b'.config ≡ b.config
  pub after : Asking
  -- The board in C represents this device, and is well-formed.
  pub sound : IsSoundCoreBoard b' after
  pub says : BoardReply
  -- The event has this outcome on the board.
  pub happens : EventOutcome (board_of_core b a) (event_of_core b.config e) says (board_of_core b' after)
  -- The number that the call in C returns encodes the reply of the board.
  pub told : EventNumberTellsReply e n out says

-- If the configuration is unchanged, and the record represents the device a with a block of at most the transfer size, the board in C is
-- well-formed.
pub sound_with_same_config : (b b' : CoreBoard) (a : Asking) → IsConfig b.config → b'.config ≡ b.config → IsRecordOf b.config b'.kept a
    → a.block_len ≤ transfer_of b.config → IsSoundCoreBoard b' a
sound_with_same_config b b' a config same kept short = record {
  config = subst (λ (c : DfuConfig). IsConfig c) (sym same) config;
  kept = subst (λ (c : DfuConfig). IsRecordOf c b'.kept a) (sym same) kept;
  short = omega (arith, short, ap transfer_of same);
}

device_transfer_is_of_config : (b : CoreBoard) (a : Asking) → IsSoundCoreBoard b a → a.config.functional.transfer ≡ transfer_of b.config
device_transfer_is_of_config b a sound = ap (λ (s : Setting). s.functional.transfer) sound.kept.set_up.config_is

-- Memory of the transfer size has room for the block.
transfer_memory_fits_block : (b : CoreBoard) (a : Asking) → IsSoundCoreBoard b a → RoomForBlocks a (transfer_of b.config)
transfer_memory_fits_block b a sound = record {
  block = sound.short;
  transfer = omega (arith, device_transfer_is_of_config b a sound, sound.config.allowed.transfer.most);
}

-- If the block memory has at least the transfer size, it has room for a block.
pub block_memory_fits : (b : CoreBoard) (a : Asking) → IsSoundCoreBoard b a → transfer_of b.config ≤ length b.block
    → RoomForBlocks a (length (block_in_memory a b.block))
block_memory_fits b a sound room =
    let size = device_transfer_is_of_config b a sound in
    let count : length (block_in_memory a b.block) ≡ a.config.functional.transfer =
    length-take-le a.config.functional.transfer b.block (omega (arith, size, room)) in
    subst (λ (n : ℕ). RoomForBlocks a n) (sym (count ∙ size)) (transfer_memory_fits_block b a sound)

-- If nothing of a board in C changes, it stays well-formed, and represents the same board.
unchanged_board_is_sound : (b : CoreBoard) (a : Asking) (b' : CoreBoard) → IsSoundCoreBoard b a → b'.config ≡ b.config → b'.flash
    ≡ b.flash → b'.kept ≡ b.kept
    → b'.block ≡ b.block → IsSoundCoreBoard b' a × (board_of_core b' a ≡ board_of_core b a)
unchanged_board_is_sound b a b' sound config flash kept block = (
  sound_with_same_config b b' a sound.config config (subst (λ (r : DfuRecord). IsRecordOf b.config r a) (sym kept) sound.kept) sound.short,
  λ i. record { asking = a; block = block_in_memory a (block i); held = held_memory a (block i); flash = flash i },
)

-- A refused call changes nothing, and is a step of the board.
pub refused_call_is_board_step : (b : CoreBoard) (a : Asking) (e : CoreEvent) (n : ℤ) (out' : List ℕ) (b' : CoreBoard) →
    IsSoundCoreBoard b a
    → b'.config ≡ b.config → b'.flash ≡ b.flash → b'.kept ≡ b.kept → b'.block ≡ b.block
    → (board_of_core b' a ≡ board_of_core b a → EventOutcome (board_of_core b a) (event_of_core b.config e) Nothing (board_of_core b' a))
    → EventNumberTellsReply e n out' Nothing → CoreStepIsBoardStep b a e n out' b'
refused_call_is_board_step b a e n out' b' sound config flash kept block happens told =
    let same = unchanged_board_is_sound b a b' sound config flash kept block in
    record { config = config; after = a; sound = same.0; says = Nothing; happens = happens same.1; told = told }

-- A call on a record has its effect on the device that the record represents.
pub record_call_is_of_device : (b : CoreBoard) (a : Asking) (r' : DfuRecord) (block' : List ℕ) (Does : Asking → Asking → Type 0) →
    IsSoundCoreBoard b a
    → (g : RecordAfterCall b.config b.kept b.block r' block' Does) → Does a g.after
record_call_is_of_device b a r' block' Does sound g =
    subst (λ (x : Asking). Does x g.after) (record_is_one_device b.config b.kept g.before a g.was sound.kept) g.does

-- After a call on a record, the board in C represents the device that the call leaves, and is well-formed.
record_call_leaves_sound_board : (b : CoreBoard) (a : Asking) (b' : CoreBoard) (Does : Asking → Asking → Type 0) → IsSoundCoreBoard b a
    → b'.config ≡ b.config → (g : RecordAfterCall b.config b.kept b.block b'.kept b'.block Does) → IsSoundCoreBoard b' g.after
record_call_leaves_sound_board b a b' Does sound config g =
    let same : g.before ≡ a = record_is_one_device b.config b.kept g.before a g.was sound.kept in
    sound_with_same_config b b' g.after sound.config config g.is
    (g.fits (subst (λ (x : Asking). RoomForBlocks x (transfer_of b.config)) (sym same) (transfer_memory_fits_block b a sound))).block

-- A call on a record is a step of the board if its effect on the device is an outcome of the event.
pub record_call_is_board_step : (b : CoreBoard) (a : Asking) (e : CoreEvent) (n : ℤ) (out' : List ℕ) (b' : CoreBoard) {Does : Asking →
    Asking → Type 0}
    (says : BoardReply)
    → IsSoundCoreBoard b a → b'.config ≡ b.config → (g : RecordAfterCall b.config b.kept b.block b'.kept b'.block Does)
    → EventOutcome (board_of_core b a) (event_of_core b.config e) says (board_of_core b' g.after) → EventNumberTellsReply e n out' says
    → CoreStepIsBoardStep b a e n out' b'
record_call_is_board_step b a e n out' b' says sound config g happens told = record {
  config = config;
  after = g.after;
  sound = record_call_leaves_sound_board b a b' _ sound config g;
  says = says;
  happens = happens;
  told = told;
}
