-- Lemmas about operations that are performed one after the other.
use Rattle.std.proofs.Common.{◌≡◌, ℕ, zero, suc, ◌+◌, List, [], ◌∷◌, ◌++◌, take, drop, Some, None, refl, sym, ◌∙◌, ap, subst, arith}
use Rattle.std.proofs.lemmas.List.{append_assoc, append-nil}
use Rattle.std.proofs.lemmas.Option.{none-some, same_Some}
use Rattle.dfu_slots.specs.declared.operation.Op.{Op}
use Rattle.dfu_slots.specs.declared.fault.WriteFault.{WriteFault}
use Rattle.dfu_slots.specs.Medium.{MediumState, Write, AllWrites, BrokenWrites}
use Rattle.dfu_slots.specs.Operations.{op_writes, ops_writes, op_at}
use Rattle.dfu_slots.specs.inside.Carry.{MayCarryOp, MayCarryAll}
use Rattle.dfu_slots.proofs.Series.{writes_keep_grain, two_lists_work_as_one, first_part_may_break, second_part_may_break}

-- The first n operations of a list are performed, and the others may be performed.
pub record FirstOpsCarried (m now : MediumState) (held block header : List ℕ) (os : List Op) (n : ℕ) : Type 0 where
  pub done : AllWrites m (ops_writes m.grain.sector held block header (take n os)) now
  pub may : MayCarryAll now held block header (drop n os)

-- The first n + 1 operations of a list are the first n and operation n.
next_op_follows_first_ops : (os : List Op) (n : ℕ) (o : Op) → op_at os n ≡ Some o → take (suc n) os ≡ take n os ++ o ∷ []
next_op_follows_first_ops [] n o is = absurd (none-some o is)
next_op_follows_first_ops (p ∷ os) zero o is = ap (λ (q : Op). q ∷ []) (same_Some _ _ is)
next_op_follows_first_ops (p ∷ os) (suc n) o is = ap (λ (l : List Op). p ∷ l) (next_op_follows_first_ops os n o is)

-- Without its first n operations a list begins with operation n.
rest_begins_with_op : (os : List Op) (n : ℕ) (o : Op) → op_at os n ≡ Some o → drop n os ≡ o ∷ drop (suc n) os
rest_begins_with_op [] n o is = absurd (none-some o is)
rest_begins_with_op (p ∷ os) zero o is = ap (λ (q : Op). q ∷ os) (same_Some _ _ is)
rest_begins_with_op (p ∷ os) (suc n) o is = rest_begins_with_op os n o is

-- If a list has no operation number n, its first n operations are all of them.
first_n_are_all : (os : List Op) (n : ℕ) → op_at os n ≡ None → take n os ≡ os
first_n_are_all [] zero is = refl
first_n_are_all [] (suc n) is = refl
first_n_are_all (p ∷ os) zero is = absurd (none-some p (sym is))
first_n_are_all (p ∷ os) (suc n) is = ap (λ (l : List Op). p ∷ l) (first_n_are_all os n is)

module _ (sector : ℕ) (held block header : List ℕ) where
  -- The writes of two lists of operations, appended, are the writes of the first followed by those of the second.
  ops_writes_append : (xs ys : List Op) → ops_writes sector held block header (xs ++ ys)
      ≡ ops_writes sector held block header xs ++ ops_writes sector held block header ys
  ops_writes_append [] ys = refl
  ops_writes_append (x ∷ xs) ys =
      ap (λ (l : List Write). op_writes sector held block header x ++ l) (ops_writes_append xs ys)
      ∙ sym (append_assoc (op_writes sector held block header x) (ops_writes sector held block header xs)
      (ops_writes sector held block header ys))

  -- The writes of the first n + 1 operations are those of the first n followed by those of operation n.
  ops_writes_to_next_op : (os : List Op) (n : ℕ) (o : Op) → op_at os n ≡ Some o → ops_writes sector held block header (take (suc n) os)
      ≡ ops_writes sector held block header (take n os) ++ op_writes sector held block header o
  ops_writes_to_next_op os n o is =
      ap (λ (l : List Op). ops_writes sector held block header l) (next_op_follows_first_ops os n o is)
      ∙ ops_writes_append (take n os) (o ∷ [])
      ∙ ap (λ (l : List Write). ops_writes sector held block header (take n os) ++ l)
      (append-nil (op_writes sector held block header o))

  -- The writes of a list are those of the operations before operation n, then those of operation n, and then those of the operations after
  -- it.
  ops_writes_cut_at_op : (os : List Op) (n : ℕ) (o : Op) → op_at os n ≡ Some o → ops_writes sector held block header os
      ≡ ops_writes sector held block header (take n os)
      ++ (op_writes sector held block header o ++ ops_writes sector held block header (drop (suc n) os))
  ops_writes_cut_at_op [] n o is = absurd (none-some o is)
  ops_writes_cut_at_op (p ∷ os) zero o is =
      ap (λ (q : Op). op_writes sector held block header q ++ ops_writes sector held block header os) (same_Some _ _ is)
  ops_writes_cut_at_op (p ∷ os) (suc n) o is =
      ap (λ (l : List Write). op_writes sector held block header p ++ l) (ops_writes_cut_at_op os n o is)
      ∙ sym (append_assoc (op_writes sector held block header p) (ops_writes sector held block header (take n os)) _)

module _ {m : MediumState} {held block header : List ℕ} {os : List Op} where
  module _ {mid : MediumState} {n : ℕ} (so : FirstOpsCarried m mid held block header os n) where
    ops_keep_grain : mid.grain ≡ m.grain
    ops_keep_grain = writes_keep_grain (ops_writes m.grain.sector held block header (take n os)) m mid so.done

    pub next_op_may_be_carried : (o : Op) → op_at os n ≡ Some o → MayCarryOp mid held block o
    next_op_may_be_carried o is = (subst (λ (l : List Op). MayCarryAll mid held block header l) (rest_begins_with_op os n o is) so.may).0

    -- After operation n is performed, the first n + 1 operations of the list are performed.
    pub next_op_carried : (o : Op) (now : MediumState) → op_at os n ≡ Some o
        → AllWrites mid (op_writes mid.grain.sector held block header o) now → FirstOpsCarried m now held block header os (n + 1)
    next_op_carried o now is all = let next : suc n ≡ n + 1 = omega arith in
        subst (λ (k : ℕ). FirstOpsCarried m now held block header os k) next (record {
          done = subst (λ (ws : List Write). AllWrites m ws now) (sym (ops_writes_to_next_op m.grain.sector held block header os n o is))
              (two_lists_work_as_one (ops_writes m.grain.sector held block header (take n os)) (op_writes m.grain.sector held block header
              o) m mid now
              so.done (subst (λ (k : ℕ). AllWrites mid (op_writes k held block header o) now) (λ i. (ops_keep_grain i).sector) all));
          may = (subst (λ (l : List Op). MayCarryAll mid held block header l) (rest_begins_with_op os n o is) so.may).1 now all;
        })

    -- If the next operation fails, its fault interrupts the writes of the list.
    pub next_op_broke_off : (o : Op) (now : MediumState) (fault : WriteFault) → op_at os n ≡ Some o
        → BrokenWrites fault mid (op_writes mid.grain.sector held block header o) now
        → BrokenWrites fault m (ops_writes m.grain.sector held block header os) now
    next_op_broke_off o now fault is broken =
        let mine = op_writes m.grain.sector held block header o in
        let rest = ops_writes m.grain.sector held block header (drop (suc n) os) in
        subst (λ (ws : List Write). BrokenWrites fault m ws now) (sym (ops_writes_cut_at_op m.grain.sector held block header os n o is))
        (second_part_may_break fault (ops_writes m.grain.sector held block header (take n os)) (mine ++ rest) m mid now so.done
        (first_part_may_break fault mine rest mid now
        (subst (λ (k : ℕ). BrokenWrites fault mid (op_writes k held block header o) now) (λ i. (ops_keep_grain i).sector) broken)))

    -- If no operation is left, all are performed.
    pub all_ops_carried : op_at os n ≡ None → AllWrites m (ops_writes m.grain.sector held block header os) mid
    all_ops_carried is = subst (λ (l : List Op). AllWrites m (ops_writes m.grain.sector held block header l) mid) (first_n_are_all os n is)
        so.done
