use Rattle.std.proofs.Common.{ℕ, List, ◌≡◌, ◌+◌, ◌-◌, ◌∙◌, length, slice_range, sym, ap, subst, refl, arith}
use Rattle.std.proofs.lemmas.Bool.{true≢false, eqb-true}
use Rattle.std.proofs.lemmas.List.{length-take-le}
use Rattle.dfu_slots.proofs.ReadBack.{ReadBack, cut_list_joins, read_bytes_are_there, nothing_read_back, read_piece_leaves_rest, missing_piece_misses_bytes, all_read_back}
use Rattle.dfu_slots.proofs.read.stands_at.Given as given
use Rattle.dfu_slots.proofs.read.stands_at.Goals.{After-are_same}
use Rattle.dfu_slots.proofs.read.stands_at.Goals as goal

-- The bytes that were read are those of the medium in the range of the next piece.
there : (g : given.Over) (c : goal.After-are_same g) → let m = (g.M.Medium.state c.args.medium.now).bytes in
    let place = length m - c.loop-rest.ahead in
    slice_range m place (place + length c.split_at.result.0.now) ≡ c.read.new.out
there g c = read_bytes_are_there (g.M.Medium.state c.args.medium.now).bytes c.split_at.result.0.now
    (ap (λ (n : ℕ). n - c.loop-rest.ahead) c.len-in-loop-rest.ensures)
    (length-take-le c.min-size.result c.loop-rest.buffer (omega (arith, c.min-size.ensures, c.min-size.array_long))
    ∙ sym c.split_at.ensures.front_len) c.read.ensures

pub loop-rest-init : goal.loop-rest-init
loop-rest-init g c =
    nothing_read_back (g.M.Medium.state c.args.medium.now).bytes c.args.at c.args.bytes.now c.requires.within c.len.result c.len.ensures

pub loop-rest-preserved : goal.loop-rest-preserved
loop-rest-preserved g c =
    let m : List ℕ = (g.M.Medium.state c.args.medium.now).bytes in
    subst (λ (n : ℕ). ReadBack m c.args.at c.args.bytes.now (c.loop-rest.ahead - n) c.split_at.result.1.now) c.split_at.ensures.front_len
    (read_piece_leaves_rest c.loop-rest.invariant c.split_at.result.0.now c.split_at.result.1.now
    (cut_list_joins c.min-size.result c.split_at.ensures.front c.split_at.ensures.back)
    (there g (goal.at.loop-rest-preserved g c).After-are_same ∙ c.are_same.ensures.0 c.if-not-are_same.false))

pub returns-then-not-are_same : goal.returns-then-not-are_same
returns-then-not-are_same g c = (
  λ t. absurd (true≢false (sym t)),
  λ all. absurd (missing_piece_misses_bytes c.loop-rest.invariant c.split_at.result.0.now c.split_at.result.1.now
      (cut_list_joins c.min-size.result c.split_at.ensures.front c.split_at.ensures.back)
      (λ s. true≢false (sym (c.are_same.ensures.1 (sym (there g (goal.at.returns-then-not-are_same g c).After-are_same) ∙ s))
      ∙ c.if-not-are_same.true)) all),
)

pub returns : goal.returns
returns g c =
    (λ t. all_read_back c.loop-rest.invariant (eqb-true _ _ (sym c.is_empty.ensures ∙ c.loop-rest-test.false)), λ all. refl)
