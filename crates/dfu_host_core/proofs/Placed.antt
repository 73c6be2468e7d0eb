-- The address of the payload's bytes in memory doesn't matter to the host that a record holds.
use Rattle.std.proofs.Common.{◌≡◌, ◌⊎◌, inl, inr, ℕ, ◌==◌, Bool, true, false, if◌then◌else◌, List, [], Option, Some, None, refl, sym, ap, ◌∙◌, subst}
use Rattle.std.proofs.lemmas.Option.{same_Some, none-some}
use Rattle.std.specs.Prelude.{option_and_then, option_map}
use Rattle.std.specs.Borrow.{Bor}
use Rattle.dfu_host.specs.declared.goal.Goal.{Goal}
use Rattle.dfu_host.specs.declared.goal.Goal.TheVariants as goal
use Rattle.dfu_host.specs.declared.parts.Parts.{Parts}
use Rattle.dfu_host.specs.declared.phase.Phase.{Phase}
use Rattle.dfu_host.specs.Goals.{payload_of}
use Rattle.dfu_host.specs.InParts.{ArePartsOfSession, host_of}
use Rattle.dfu_host_core.specs.PhaseNumbers.{phase_at}
use Rattle.dfu_host_core.specs.Sessions.{IsRecord, parts_in, parts_of}
use Rattle.dfu_host_core.specs.declared.session.DfuSession.{DfuSession}

-- The parts `found` are those of a session that has the same host as the parts `a`, with any memory.
pub record SameHost (q : Bor (List ℕ)) (a : Parts) (found : Option Parts) : Type 0 where
  pub parts : Parts
  pub says : found ≡ Some parts
  pub sound : ArePartsOfSession parts
  pub host : (memory : List ℕ) → host_of memory parts ≡ host_of memory a

-- Goal that the first true test of four selects; None if all four are false.
abbrev tested_goal : (b1 b2 b3 b4 : Bool) → (payload : Bor (List ℕ)) → Option Goal
tested_goal b1 b2 b3 b4 payload =
    if b1 then Some (goal.Load payload)
    else if b2 then Some goal.Fetch
    else if b3 then Some (goal.Verify payload)
    else if b4 then Some (goal.Compare payload)
    else None

-- A slice with the address of another slice and the given bytes.
abbrev slice_at : Bor (List ℕ) → List ℕ → Bor (List ℕ)
slice_at q bytes = record { ref_ptr = q.ref_ptr; now = bytes }

module _ (r : DfuSession) (p q : Bor (List ℕ)) (same : p.now ≡ q.now) (a : Parts) where
  -- The parts of a record with a goal and a phase; None if the goal or the phase is None.
  abbrev found : Option Goal → Option Phase → Option Parts
  found o ph = option_and_then (λ g. option_map (parts_in r g) ph) o

  -- If the payload of a record's goal moves to another address, the record's parts have the same host.
  goal_elsewhere_fits_host : (make : Bor (List ℕ) → Goal) (ph : Phase)
      → ((bytes : List ℕ) → ArePartsOfSession (parts_in r (make (slice_at p bytes)) ph) →
      ArePartsOfSession (parts_in r (make (slice_at q bytes)) ph))
      → ((bytes memory : List ℕ)
      → host_of memory (parts_in r (make (slice_at q bytes)) ph) ≡ host_of memory (parts_in r (make (slice_at p bytes)) ph))
      → parts_in r (make p) ph ≡ a → ArePartsOfSession a → SameHost q a (Some (parts_in r (make q) ph))
  goal_elsewhere_fits_host make ph sound host e session = record {
    parts = parts_in r (make q) ph;
    says = refl;
    sound = sound q.now (subst (λ (x : List ℕ). ArePartsOfSession (parts_in r (make (slice_at p x)) ph)) same (subst ArePartsOfSession (sym
        e) session));
    host = λ memory. host q.now memory
        ∙ (λ i. host_of memory (parts_in r (make (slice_at p (sym same i))) ph))
        ∙ ap (host_of memory) e;
  }

  -- If a record's payload moves to another address, the parts with the goal that four tests select have the same host.
  parts_elsewhere_fit_host : (b1 b2 b3 b4 : Bool) (ph : Option Phase) → found (tested_goal b1 b2 b3 b4 p) ph ≡ Some a → ArePartsOfSession a
      → SameHost q a (found (tested_goal b1 b2 b3 b4 q) ph)
  parts_elsewhere_fit_host true b2 b3 b4 None e session = absurd (none-some a e)
  parts_elsewhere_fit_host true b2 b3 b4 (Some ph) e session =
      goal_elsewhere_fits_host goal.Load ph (λ bytes s. record { some = s.some; transfers = s.transfers; within = s.within }) (λ bytes
      memory. refl)
      (same_Some _ _ e) session
  parts_elsewhere_fit_host false true b3 b4 None e session = absurd (none-some a e)
  parts_elsewhere_fit_host false true b3 b4 (Some ph) e session =
      record { parts = a; says = e; sound = session; host = λ memory. refl }
  parts_elsewhere_fit_host false false true b4 None e session = absurd (none-some a e)
  parts_elsewhere_fit_host false false true b4 (Some ph) e session =
      goal_elsewhere_fits_host goal.Verify ph (λ bytes s. record { some = s.some; transfers = s.transfers; within = s.within }) (λ bytes
      memory. refl)
      (same_Some _ _ e) session
  parts_elsewhere_fit_host false false false true None e session = absurd (none-some a e)
  parts_elsewhere_fit_host false false false true (Some ph) e session =
      goal_elsewhere_fits_host goal.Compare ph (λ bytes s. record { some = s.some; transfers = s.transfers; within = s.within }) (λ bytes
      memory. refl)
      (same_Some _ _ e) session
  parts_elsewhere_fit_host false false false false ph e session = absurd (none-some a e)

-- If a record's payload moves to another address, the record holds the same host.
pub record_fits_elsewhere : (r : DfuSession) (p q : Bor (List ℕ)) (a : Parts) → p.now ≡ q.now → IsRecord r p a → SameHost q a (parts_of r q)
record_fits_elsewhere r p q a same is =
    parts_elsewhere_fit_host r p q same a (r.goal == 1) (r.goal == 2) (r.goal == 3) (r.goal == 4) (phase_at r.phase r.number r.more)
    is.says is.sound

-- The payload of a record's goal is the payload that was passed with the record, or empty.
module _ (r : DfuSession) (p : Bor (List ℕ)) (a : Parts) where
  -- If four tests select a goal and the phase is known, the goal's payload is the record's, or empty.
  found_goal_has_payload_or_empty : (b1 b2 b3 b4 : Bool) (ph : Option Phase) →
      option_and_then (λ g. option_map (parts_in r g) ph) (tested_goal b1 b2 b3 b4 p) ≡ Some a
      → (payload_of a.goal ≡ p.now) ⊎ (payload_of a.goal ≡ [])
  found_goal_has_payload_or_empty true b2 b3 b4 None e = absurd (none-some a e)
  found_goal_has_payload_or_empty true b2 b3 b4 (Some ph) e = inl (sym (ap (λ (x : Parts). payload_of x.goal) (same_Some _ _ e)))
  found_goal_has_payload_or_empty false true b3 b4 None e = absurd (none-some a e)
  found_goal_has_payload_or_empty false true b3 b4 (Some ph) e = inr (sym (ap (λ (x : Parts). payload_of x.goal) (same_Some _ _ e)))
  found_goal_has_payload_or_empty false false true b4 None e = absurd (none-some a e)
  found_goal_has_payload_or_empty false false true b4 (Some ph) e = inl (sym (ap (λ (x : Parts). payload_of x.goal) (same_Some _ _ e)))
  found_goal_has_payload_or_empty false false false true None e = absurd (none-some a e)
  found_goal_has_payload_or_empty false false false true (Some ph) e = inl (sym (ap (λ (x : Parts). payload_of x.goal) (same_Some _ _ e)))
  found_goal_has_payload_or_empty false false false false ph e = absurd (none-some a e)

-- The payload of a session's goal is the payload of its record, or empty.
pub goal_has_record_payload_or_empty : (r : DfuSession) (p : Bor (List ℕ)) (a : Parts) → IsRecord r p a → (payload_of a.goal
    ≡ p.now) ⊎ (payload_of a.goal ≡ [])
goal_has_record_payload_or_empty r p a is =
    found_goal_has_payload_or_empty r p a (r.goal == 1) (r.goal == 2) (r.goal == 3) (r.goal == 4) (phase_at r.phase r.number r.more) is.says
