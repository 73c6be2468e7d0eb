-- A device that has received a command of the session has the order of this command.
use Rattle.std.proofs.Common.{◌≡◌, ℕ, ◌%◌, ◌^◌, ◌∷◌, length, Option, Some, None, sym, ap, subst, arith}
use Rattle.std.specs.Int.{w32, to_le_bytes}
use Rattle.std.proofs.lemmas.Nat.{from_le_bytes-to_le_bytes_4}
use Rattle.dfuse_host.specs.declared.plan.Plan.{Plan}
use Rattle.dfuse_host.specs.declared.work.Work.{Work}
use Rattle.dfuse_host.specs.declared.place.Place.{Place}
use Rattle.dfuse_host.specs.declared.step.Step.TheVariants as step
use Rattle.dfuse_host.specs.declared.seen.Seen.{Seen}
use Rattle.dfuse_host.specs.declared.seen.Seen.TheVariants as seen
use Rattle.dfuse_host.specs.Wire.{DfuseSeenMeaning}
use Rattle.dfuse_host.specs.Plans.{write_end}
use Rattle.dfuse_host.specs.Commands.{end_of_work, bytes_in}
use Rattle.dfuse_host.specs.Deeds.{DfuseDeed, Send, Wait, Done, command_deed}
use Rattle.dfuse_host.proofs.ForCallers.{AnyCommand, commands_have_fact, AnyHeard, heards_have_fact, set_address, erase_page, write_bytes_at}
use Rattle.dfuse_link.specs.Chips.{Chip, SetsPointer, ErasesPage, Device}
use Rattle.dfuse_link.specs.Reactions.{Reaction, Acks, Data, Stalls, order_of}
use Rattle.dfuse_link.specs.Histories.{RequestArrives, SeenOfReaction}
use Rattle.dfuse_link.proofs.Claims.{KnowsPointer, MayHaveCommand, HasCommand}
use Rattle.dfuse_link.proofs.RequestEffects.{dnloads_arriving_keep_command, acked_dnloads_have_command}

-- The device receives the request that the session sends, any number of times.
abbrev pub DeedArrives : Chip → DfuseDeed → Device → Option Reaction → Device → Type 0
DeedArrives chip (Send q body) d r d' = RequestArrives chip q body d r d'
DeedArrives chip (Wait ms) d r d' = ⊥
DeedArrives chip (Done report) d r d' = ⊥

-- The bytes of a command that sets the pointer give the device an order to set it.
pub set_address_order : (chip : Chip) (pointer at : ℕ) → order_of chip pointer 0 (0x21 ∷ to_le_bytes w32 (at % 2 ^ 32))
    ≡ SetsPointer (at % 2 ^ 32)
set_address_order chip pointer at = ap SetsPointer (from_le_bytes-to_le_bytes_4 (at % 2 ^ 32) (omega arith))

-- The bytes of a command that erases give the device an order to erase.
pub erase_command_order : (chip : Chip) (pointer at : ℕ) → order_of chip pointer 0 (0x41 ∷ to_le_bytes w32 (at % 2 ^ 32))
    ≡ ErasesPage (at % 2 ^ 32)
erase_command_order chip pointer at = ap ErasesPage (from_le_bytes-to_le_bytes_4 (at % 2 ^ 32) (omega arith))

-- If the session receives the acknowledgement of a command, the device has the command.
abbrev pub AckMeansHasCommand : Chip → AnyCommand → Device → AnyHeard → Type 0
AckMeansHasCommand chip c d h =
    heards_have_fact (λ _. Type 0) (HasCommand chip c d.device_work d.pointer d.memory) (λ s. Unit {0}) (λ s. Unit {0}) (λ b. Unit {0})
    (Unit {0}) (Unit {0}) (Unit {0}) (Unit {0}) h

module _ (chip : Chip) (plan : Plan) (w : Work) (p : Place) (d d' : Device) where
  pub sent_command_may_arrive : (r : Option Reaction) (c : AnyCommand) → DeedArrives chip (command_deed plan w c) d r d' →
      MayHaveCommand c d.device_work
      × KnowsPointer p d.pointer →
      MayHaveCommand c d'.device_work × KnowsPointer p d'.pointer
  sent_command_may_arrive r c =
      commands_have_fact (λ v. DeedArrives chip (command_deed plan w v) d r d' → MayHaveCommand v d.device_work
      × KnowsPointer p d.pointer → MayHaveCommand v d'.device_work ×
      KnowsPointer p d'.pointer)
      (λ at comes h. dnloads_arriving_keep_command chip (set_address at) p d d' 0 5 (0x21 ∷ to_le_bytes w32 (at % 2 ^ 32)) r
      (λ pointer k. set_address_order chip pointer at) comes h)
      (λ at comes h. dnloads_arriving_keep_command chip (erase_page at) p d d' 0 5 (0x41 ∷ to_le_bytes w32 (at % 2 ^ 32)) r
      (λ pointer k. erase_command_order chip pointer at) comes h)
      (λ at comes h. dnloads_arriving_keep_command chip (write_bytes_at at) p d d' 2 (length (bytes_in plan at (write_end plan at
      (end_of_work plan w))))
      (bytes_in plan at (write_end plan at (end_of_work plan w))) r (λ pointer k. tt) comes h)
      c

  pub acked_command_has_arrived : (c : AnyCommand) → DeedArrives chip (command_deed plan w c) d (Some Acks) d' →
      MayHaveCommand c d.device_work × KnowsPointer p d.pointer →
      HasCommand chip c d'.device_work d'.pointer d'.memory
  acked_command_has_arrived c =
      commands_have_fact (λ v. DeedArrives chip (command_deed plan w v) d (Some Acks) d' → MayHaveCommand v d.device_work
      × KnowsPointer p d.pointer →
      HasCommand chip v d'.device_work d'.pointer d'.memory)
      (λ at comes h. acked_dnloads_have_command chip (set_address at) p d d' 0 5 (0x21 ∷ to_le_bytes w32 (at % 2 ^ 32))
      (λ pointer k. set_address_order chip pointer at)
      (λ pointer memory e. cc) comes h)
      (λ at comes h. acked_dnloads_have_command chip (erase_page at) p d d' 0 5 (0x41 ∷ to_le_bytes w32 (at % 2 ^ 32))
      (λ pointer k. erase_command_order chip pointer at) (λ pointer memory e. cc) comes h)
      (λ at comes h. acked_dnloads_have_command chip (write_bytes_at at) p d d' 2 (length (bytes_in plan at (write_end plan at (end_of_work
      plan w))))
      (bytes_in plan at (write_end plan at (end_of_work plan w))) (λ pointer k. tt) (λ pointer memory e. tt) comes h)
      c

  -- A command has reached the device if the session receives its acknowledgement.
  pub heard_ack_means_has_command : (h : AnyHeard) (r : Option Reaction) (x : Seen) (c : AnyCommand) → SeenOfReaction r x
      → DeedArrives chip (command_deed plan w c) d r d' →
      MayHaveCommand c d.device_work × KnowsPointer p d.pointer → DfuseSeenMeaning plan w step.Send x h → AckMeansHasCommand chip c d' h
  heard_ack_means_has_command h (Some Acks) seen.Ack c is comes k e = subst (λ x. AckMeansHasCommand chip c d' x) (sym e)
      (acked_command_has_arrived c comes k)
  heard_ack_means_has_command h (Some Stalls) seen.Ack c is comes k e = absurd is
  heard_ack_means_has_command h (Some (Data bytes)) seen.Ack c is comes k e = absurd is
  heard_ack_means_has_command h None seen.Ack c is comes k e = absurd is
  heard_ack_means_has_command h r (seen.Bytes given) c is comes k e = subst (λ x. AckMeansHasCommand chip c d' x) (sym e) tt
  heard_ack_means_has_command h r seen.Stall c is comes k e = subst (λ x. AckMeansHasCommand chip c d' x) (sym e) tt
  heard_ack_means_has_command h r seen.Nothing c is comes k e = subst (λ x. AckMeansHasCommand chip c d' x) (sym e) tt
  heard_ack_means_has_command h r seen.Waited c is comes k e = subst (λ x. AckMeansHasCommand chip c d' x) (sym e) tt
  heard_ack_means_has_command h r seen.Restarted c is comes k e = subst (λ x. AckMeansHasCommand chip c d' x) (sym e) tt
