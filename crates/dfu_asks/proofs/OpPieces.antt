-- Pieces of the operations of a sequence.
use Rattle.std.proofs.Common.{◌≡◌, ℕ, zero, suc, ◌+◌, ◌*◌, ◌^◌, ◌≤◌, List, [], ◌∷◌, ◌++◌, take, drop, Option, Some, refl, sym, ◌∙◌, ap, subst, arith}
use Rattle.std.proofs.lemmas.List.{append_assoc, append-nil}
use Rattle.std.proofs.lemmas.Option.{none-some, same_Some}
use Rattle.dfu_slots.specs.declared.operation.Op.{Op}
use Rattle.dfu_slots.specs.declared.sequence.Sequence.{Sequence}
use Rattle.dfu_slots.specs.Operations.{op_at, operations}
use Rattle.dfu_asks.specs.declared.pending_writes.WriteInputs.{WriteInputs}
use Rattle.dfu_asks.specs.declared.cut.Cut.{Cut}
use Rattle.dfu_asks.specs.Steps.{Step, step_writes}
use Rattle.dfu_asks.specs.Carried.{total, IsStepPiece}
use Rattle.dfu_asks.specs.Jobs.{input_grain}
use Rattle.dfu_asks.specs.OpSteps.{op_steps, ops_steps, op_steps_at}
use Rattle.dfu_asks.proofs.Pieces.{first_piece_is_in_joined, later_piece_is_in_joined}
use Rattle.dfu_asks.proofs.JobPieces.{step_list_totals_add_up}

module _ (s : WriteInputs) (front : List ℕ) where
  -- If operation number n is `o`, `op_steps_at` gives the steps of `o` for the number n.
  pub numbered_op_has_op_steps : (os : List Op) (n : ℕ) (o : Op) → op_at os n ≡ Some o → op_steps_at s front os n ≡ op_steps s front o
  numbered_op_has_op_steps [] n o is = absurd (none-some o is)
  numbered_op_has_op_steps (p ∷ os) zero o is = ap (λ (q : Op). op_steps s front q) (same_Some _ _ is)
  numbered_op_has_op_steps (p ∷ os) (suc n) o is = numbered_op_has_op_steps os n o is

  -- If a search with this sector size finds operation number n, `op_steps_at` gives the steps of this operation for the number n.
  pub found_op_has_steps : (q : Sequence) (n size : ℕ) (found : Option Op) (o p : Op) → size ≡ s.sector.size
      → found ≡ op_at (operations (record { unit = s.unit; sector = size }) q) n → found ≡ Some o → o ≡ p
      → op_steps s front p ≡ op_steps_at s front (operations (input_grain s) q) n
  found_op_has_steps q n size found o p size_is found_is is same = sym (numbered_op_has_op_steps (operations (input_grain s) q) n p
      (ap (λ (k : ℕ). op_at (operations (record { unit = s.unit; sector = k }) q) n) (sym size_is) ∙ sym found_is ∙ is
      ∙ ap (λ (x : Op). Some x) same))

  -- The first n + 1 operations have the steps of the first n, followed by those of operation number n.
  steps_grow_by_next_op : (os : List Op) (n : ℕ) → ops_steps s front (take (suc n) os) ≡ ops_steps s front (take n os)
      ++ op_steps_at s front os n
  steps_grow_by_next_op [] zero = refl
  steps_grow_by_next_op [] (suc n) = refl
  steps_grow_by_next_op (p ∷ os) zero = append-nil (op_steps s front p)
  steps_grow_by_next_op (p ∷ os) (suc n) =
      ap (λ (l : List Step). op_steps s front p ++ l) (steps_grow_by_next_op os n)
      ∙ sym (append_assoc (op_steps s front p) (ops_steps s front (take n os)) (op_steps_at s front os n))

  -- The steps of a sequence split into those before operation number n, its own, and those after it.
  steps_split_at_op : (os : List Op) (n : ℕ) → ops_steps s front os
      ≡ ops_steps s front (take n os) ++ (op_steps_at s front os n ++ ops_steps s front (drop (suc n) os))
  steps_split_at_op [] zero = refl
  steps_split_at_op [] (suc n) = refl
  steps_split_at_op (p ∷ os) zero = refl
  steps_split_at_op (p ∷ os) (suc n) =
      ap (λ (l : List Step). op_steps s front p ++ l) (steps_split_at_op os n)
      ∙ sym (append_assoc (op_steps s front p) (ops_steps s front (take n os))
      (op_steps_at s front os n ++ ops_steps s front (drop (suc n) os)))

-- A search has passed the first n operations of a sequence: all their bytes are written.
pub record OpsSearched (q : Sequence) (old now : Cut) (n : ℕ) : Type 0 where
  pub inputs : now.inputs ≡ old.inputs
  pub front : now.front ≡ old.front
  pub count : total (step_writes (ops_steps old.inputs old.front (take n (operations (input_grain old.inputs) q)))) + now.rest ≡ old.rest
  pub near : old.rest ≤ now.rest + n * 2 ^ 19

module _ {q : Sequence} {old now : Cut} {n : ℕ} (so : OpsSearched q old now n) where
  abbrev ops : List Op
  ops = operations (input_grain old.inputs) q

  -- A piece of the next operation is a piece of the sequence.
  pub piece_of_next_op_found : (p : Step) → IsStepPiece (op_steps_at now.inputs now.front (operations (input_grain now.inputs) q) n)
      now.rest
      p
      → IsStepPiece (ops_steps old.inputs old.front ops) old.rest p
  piece_of_next_op_found p piece =
      subst (λ (ss : List Step). IsStepPiece ss old.rest p) (sym (steps_split_at_op old.inputs old.front ops n))
      (later_piece_is_in_joined (ops_steps old.inputs old.front (take n ops)) _ old.rest now.rest p so.count
      (first_piece_is_in_joined (op_steps_at old.inputs old.front ops n) (ops_steps old.inputs old.front (drop (suc n) ops)) now.rest p
      (subst (λ (f : List ℕ). IsStepPiece (op_steps_at old.inputs f ops n) now.rest p) so.front
      (subst (λ (s : WriteInputs). IsStepPiece (op_steps_at s now.front (operations (input_grain s) q) n) now.rest p) so.inputs piece))))

  -- A search passes one more operation if all its bytes are written.
  pub search_passes_next_op : (next : Cut) → (next.inputs ≡ now.inputs) × (next.front ≡ now.front)
      → total (step_writes (op_steps_at now.inputs now.front (operations (input_grain now.inputs) q) n)) + next.rest ≡ now.rest
      → now.rest ≤ next.rest + 2 ^ 19 → OpsSearched q old next (n + 1)
  search_passes_next_op next same behind past =
      let mine = op_steps_at old.inputs old.front ops n in
      let count : total (step_writes mine) + next.rest ≡ now.rest =
      subst (λ (f : List ℕ). total (step_writes (op_steps_at old.inputs f ops n)) + next.rest ≡ now.rest) so.front
      (subst (λ (s : WriteInputs). total (step_writes (op_steps_at s now.front (operations (input_grain s) q) n)) + next.rest ≡ now.rest)
      so.inputs behind) in
      let e : suc n ≡ n + 1 = omega arith in
      let all : total (step_writes (ops_steps old.inputs old.front (take (suc n) ops))) + next.rest ≡ old.rest = omega (
        arith,
        ap (λ (ss : List Step). total (step_writes ss)) (steps_grow_by_next_op old.inputs old.front ops n),
        step_list_totals_add_up (ops_steps old.inputs old.front (take n ops)) mine,
        count,
        so.count,
      ) in
      record {
        inputs = same.0 ∙ so.inputs;
        front = same.1 ∙ so.front;
        count = subst (λ (k : ℕ). total (step_writes (ops_steps old.inputs old.front (take k ops))) + next.rest ≡ old.rest) e all;
        near = omega (arith, so.near, past);
      }
