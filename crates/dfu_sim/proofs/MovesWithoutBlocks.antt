-- Changes of the device while no block is sent to it.
use Rattle.std.proofs.Common.{◌≡◌, ℕ, ◌+◌, ◌==◌, nat_le, max, List, ◌++◌, Option, Some, None, refl, sym, ◌∙◌, subst, length}
use Rattle.dfu_slots.specs.declared.fault.WriteFault.{WriteFault}
use Rattle.dfu_device.specs.Pace.{block_ms, image_ms}
use Rattle.dfu_device.specs.Stage.{Request, Dnload, Upload, GetStatus, GetState, OtherRequest, Reply, Ack, Profile, Stage, InAppIdle, InAppDetach, InDfuIdle, InDownloadSync, InDownloadSyncWritten, InDownloadBusy, InDownloadIdle, InManifestSync, InManifestSyncComplete, InManifest, InManifestWaitReset}
use Rattle.dfu_device.specs.Table.{Plan, Writes, Commits, plan, time_plan}
use Rattle.dfu_device.specs.Outcome.{Situation, Luck, Works, FailsOld, FailsNew, plan_outcome, after_reset}
use Rattle.dfu_device.specs.Cases.{holds_in_both_branches}
use Rattle.dfu_sim.specs.Session.{IsOneOf}
use Rattle.dfu_sim.specs.LinkAgreement.{pending_of, ClosedWasOffered}

-- A quiet move: the image and the pending bytes are unchanged, the pending bytes are lost, or the pending bytes are an offer and become the
-- image.
pub data Quiet (offers : List (List ℕ)) : List ℕ → Option (List ℕ) → List ℕ → Option (List ℕ) → Type 0 where
  stays : {i : List ℕ} {p : Option (List ℕ)} → Quiet offers i p i p
  pending_forgotten : {i : List ℕ} {p : Option (List ℕ)} → Quiet offers i p i None
  commits : {i x : List ℕ} → IsOneOf x offers → Quiet offers i (Some x) x None

-- Two quiet moves in a row are one quiet move.
pub quiet_moves_compose : {offers : List (List ℕ)} {i j k : List ℕ} {p q r : Option (List ℕ)} → Quiet offers i p j q → Quiet offers j q k r
    → Quiet offers i p k r
quiet_moves_compose stays b = b
quiet_moves_compose pending_forgotten stays = pending_forgotten
quiet_moves_compose pending_forgotten pending_forgotten = pending_forgotten
quiet_moves_compose (commits h) stays = commits h
quiet_moves_compose (commits h) pending_forgotten = commits h

-- One situation follows another by a quiet move, and closed bytes are an offer after it.
pub record IsQuiet (offers : List (List ℕ)) (s s' : Situation) : Type 0 where
  pub moves : Quiet offers s.image (pending_of s.stage) s'.image (pending_of s'.stage)
  pub sound : ClosedWasOffered offers s'.stage

-- The request transfers no block: it is a DFU request other than DNLOAD and UPLOAD.
abbrev pub IsBlocklessRequest : Request → Type 0
IsBlocklessRequest (Dnload number body) = ⊥
IsBlocklessRequest (Upload number size) = ⊥
IsBlocklessRequest OtherRequest = ⊥
IsBlocklessRequest request = Unit {0}

-- The plan is quiet for each result of its writes.
abbrev pub PlanIsQuiet : Profile → List (List ℕ) → Situation → Plan → Type 0
PlanIsQuiet c offers s p = (luck : Luck) → IsQuiet offers s (plan_outcome s.image p luck).after

module _ (c : Profile) (offers : List (List ℕ)) (i : List ℕ) where
  -- The device with this image, in this stage.
  abbrev pub At : Stage → Situation
  At stage = record { image = i; stage = stage }

  -- A plan that writes the last pending block is quiet, if the bytes stay pending and closed bytes are an offer after it.
  write_of_pending_is_quiet : (stage : Stage) (before block : List ℕ) (a : Reply) (b : WriteFault → Reply) (number : ℕ) (next : Stage)
      → pending_of stage ≡ Some (before ++ block) → pending_of next ≡ Some (before ++ block) → ClosedWasOffered offers next
      → PlanIsQuiet c offers (At stage) (Writes before block a next b)
  write_of_pending_is_quiet stage before block a b number next e f h Works =
      record { moves = subst (λ q. Quiet offers i (pending_of stage) i q) (e ∙ sym f) stays; sound = h }
  write_of_pending_is_quiet stage before block a b number next e f h luck = record { moves = pending_forgotten; sound = tt }

  -- A plan that commits pending bytes is quiet, if the bytes are an offer, and after it no bytes are pending and closed bytes are an offer.
  commit_of_offer_is_quiet : (stage : Stage) (taken : List ℕ) (a : Reply) (b : WriteFault → Reply) (next : Stage) → pending_of stage
      ≡ Some taken
      → IsOneOf taken offers → pending_of next ≡ None → ClosedWasOffered offers next → PlanIsQuiet c offers (At stage) (Commits taken a next b)
  commit_of_offer_is_quiet stage taken a b next e o n h Works = record {
    moves = subst (λ q. Quiet offers i q taken (pending_of next)) (sym e)
        (subst (λ q. Quiet offers i (Some taken) taken q) (sym n) (commits o));
    sound = h;
  }
  commit_of_offer_is_quiet stage taken a b next e o n h (FailsOld fault) = record { moves = pending_forgotten; sound = tt }
  commit_of_offer_is_quiet stage taken a b next e o n h (FailsNew fault) = record {
    moves = subst (λ q. Quiet offers i q taken None) (sym e) (commits o);
    sound = tt;
  }

  -- GETSTATUS is quiet in each stage in which closed bytes are an offer.
  pub getstatus_is_quiet : (stage : Stage) → ClosedWasOffered offers stage → PlanIsQuiet c offers (At stage) (plan c i stage GetStatus)
  getstatus_is_quiet (InDownloadSync before block number) h luck =
      holds_in_both_branches (λ p. IsQuiet offers (At (InDownloadSync before block number)) (plan_outcome i p luck).after) (c.busy == 0) _ _
      (write_of_pending_is_quiet (InDownloadSync before block number) before block _ _ number
      (InDownloadIdle (before ++ block) number) refl refl tt luck)
      (record { moves = stays; sound = tt })
  getstatus_is_quiet (InDownloadBusy before block number passed) h luck = record { moves = pending_forgotten; sound = tt }
  getstatus_is_quiet (InManifestSync taken) h luck =
      holds_in_both_branches (λ p. IsQuiet offers (At (InManifestSync taken)) (plan_outcome i p luck).after) (c.manifest == 0) _ _
      (commit_of_offer_is_quiet (InManifestSync taken) taken _ _ InDfuIdle refl h refl tt luck)
      (record { moves = stays; sound = h })
  getstatus_is_quiet (InManifest taken passed) h luck = record { moves = pending_forgotten; sound = tt }
  getstatus_is_quiet stage h luck = record { moves = stays; sound = h }

  -- GETSTATE is quiet in each stage in which closed bytes are an offer.
  getstate_is_quiet : (stage : Stage) → ClosedWasOffered offers stage → PlanIsQuiet c offers (At stage) (plan c i stage GetState)
  getstate_is_quiet InAppIdle h luck = record { moves = stays; sound = tt }
  getstate_is_quiet (InDownloadBusy before block number passed) h luck = record { moves = pending_forgotten; sound = tt }
  getstate_is_quiet (InManifest taken passed) h luck = record { moves = pending_forgotten; sound = tt }
  getstate_is_quiet stage h luck = record { moves = stays; sound = h }

  -- A request that transfers no block is quiet in each stage in which closed bytes are an offer.
  pub blockless_request_is_quiet : (r : Request) (stage : Stage) → IsBlocklessRequest r → ClosedWasOffered offers stage
      → PlanIsQuiet c offers (At stage) (plan c i stage r)
  blockless_request_is_quiet GetStatus stage p h luck = getstatus_is_quiet stage h luck
  blockless_request_is_quiet GetState stage p h luck = getstate_is_quiet stage h luck
  blockless_request_is_quiet (Dnload number body) stage p h luck = elim p [ ]
  blockless_request_is_quiet (Upload number size) stage p h luck = elim p [ ]
  blockless_request_is_quiet OtherRequest stage p h luck = elim p [ ]
  blockless_request_is_quiet r InAppIdle p h luck = record { moves = pending_forgotten; sound = tt }
  blockless_request_is_quiet r stage p h luck = record { moves = pending_forgotten; sound = tt }

  -- Time that passes is quiet in each stage in which closed bytes are an offer.
  pub passing_time_is_quiet : (ms : ℕ) (stage : Stage) → ClosedWasOffered offers stage → PlanIsQuiet c offers (At stage) (time_plan c stage ms)
  passing_time_is_quiet ms (InAppDetach timer passed) h luck =
      let P : Plan → Type 0 = λ p. IsQuiet offers (At (InAppDetach timer passed)) (plan_outcome i p luck).after in
      holds_in_both_branches P (ms == 0) _ _ (record { moves = stays; sound = tt })
      (holds_in_both_branches P c.will_detach _ _ (record { moves = stays; sound = tt })
      (holds_in_both_branches P (nat_le (max 1 timer) (passed + ms)) _ _ (record { moves = stays; sound = tt })
      (record { moves = stays; sound = tt })))
  passing_time_is_quiet ms (InDownloadBusy before block number passed) h luck =
      let s = InDownloadBusy before block number passed in
      let P : Plan → Type 0 = λ p. IsQuiet offers (At s) (plan_outcome i p luck).after in
      holds_in_both_branches P (ms == 0) _ _ (record { moves = stays; sound = tt })
      (holds_in_both_branches P (nat_le (block_ms c.pace c.busy (length before) (length block)) (passed + ms)) _ _
      (write_of_pending_is_quiet s before block _ _ number (InDownloadSyncWritten (before ++ block) number) refl refl tt luck)
      (record { moves = stays; sound = tt }))
  passing_time_is_quiet ms (InManifest taken passed) h luck =
      let s = InManifest taken passed in
      let P : Plan → Type 0 = λ p. IsQuiet offers (At s) (plan_outcome i p luck).after in
      holds_in_both_branches P (ms == 0) _ _ (record { moves = stays; sound = h })
      (holds_in_both_branches P (nat_le (image_ms c.pace c.manifest (length taken)) (passed + ms)) _ _
      (holds_in_both_branches (λ st. IsQuiet offers (At s) (plan_outcome i (Commits taken Ack st (λ fault. Ack)) luck).after) c.tolerant
      InManifestSyncComplete
      InManifestWaitReset
      (commit_of_offer_is_quiet s taken Ack (λ fault. Ack) InManifestSyncComplete refl h refl tt luck)
      (commit_of_offer_is_quiet s taken Ack (λ fault. Ack) InManifestWaitReset refl h refl tt luck))
      (record { moves = stays; sound = h }))
  passing_time_is_quiet ms stage h luck = record { moves = stays; sound = h }

  -- A reset of the bus is quiet in each stage.
  pub bus_reset_is_quiet : (stage : Stage) → IsQuiet offers (At stage) (after_reset (At stage))
  bus_reset_is_quiet (InAppDetach timer passed) = record { moves = pending_forgotten; sound = tt }
  bus_reset_is_quiet stage = record { moves = pending_forgotten; sound = tt }

-- Two quiet changes of a situation in a row are one quiet change.
pub quiet_situations_compose : {offers : List (List ℕ)} {a b d : Situation} → IsQuiet offers a b → IsQuiet offers b d → IsQuiet offers a d
quiet_situations_compose x y = record { moves = quiet_moves_compose x.moves y.moves; sound = y.sound }
