use Rattle.std.proofs.Common.{◌≡◌, ◌∙◌, ℕ, List, [], ◌∷◌, refl, ap}
use Rattle.std.proofs.lemmas.Result.{err_from_is_err_and}
use Rattle.dfu_sim.specs.Happening.{Fate, WriteHarm, Goes, harmed}
use Rattle.dfu_link.specs.LineContent.{HasTear, Go, hex_bytes, harm_fate}
use Rattle.dfu_link.specs.inside.Expected.{expectation_of, point_of_parts}
use Rattle.dfu_link.specs.declared.scripting.line.HarmKind.{HarmKind}
use Rattle.dfu_link.specs.declared.scripting.line.HarmKind.TheVariants as kind
use Rattle.dfu_link.proofs.FallLaws.{tear_without_memory_fails}
use Rattle.dfu_link.proofs.StepLaws.{event_line_is_done}
use Rattle.dfu_link.proofs.scripting.playing.play_harmed.Goals as goal

-- A line that harms a write has one event: the action of the host.
harmed_is_one_event : {fate given : Fate} {harm : WriteHarm} {writes : ℕ} {tear text : List ℕ} → fate ≡ given → harm
    ≡ harmed writes tear → tear ≡ text
    → Goes fate harm ∷ [] ≡ Goes given (harmed writes text) ∷ []
harmed_is_one_event {given = given} {harm = harm} {writes = writes} is how same = ap (λ (f : Fate). Goes f harm ∷ []) is
    ∙ ap (λ (h : WriteHarm). Goes given h ∷ []) (how ∙ ap (λ (t : List ℕ). harmed writes t) same)

harmed_action_has_tear : (kind : HarmKind) (harm : WriteHarm) → HasTear (Go (harm_fate kind) harm 1)
harmed_action_has_tear kind.Cut harm = tt
harmed_action_has_tear kind.Fail harm = tt
harmed_action_has_tear kind.Lie harm = tt

pub returns-in_err-torn : goal.returns-in_err-torn
returns-in_err-torn g c = λ given limits.
    let failed = err_from_is_err_and c.from_residual.result c.from_residual.ensures.1 in
    let harm = harmed c.args.writes (hex_bytes c.args.tear) in
    rw (failed.1, failed.2) (record {
      ok = tt;
      fault = λ k line e. tear_without_memory_fails (point_of_parts given c.args.check.now limits (expectation_of c.args.next.now)
          c.args.world.now.bench) k line
          (g.W.Write.contents c.args.writer.now) (Go (harm_fate c.args.harm) harm 1) c.in_err-torn.field-0.0 e (harmed_action_has_tear
          c.args.harm harm)
          c.in_err-torn.ensures.fault;
    })

pub returns : goal.returns
returns g c = λ given limits.
    event_line_is_done (Go (harm_fate c.args.harm) (harmed c.args.writes (hex_bytes c.args.tear)) 1) refl
    (harmed_is_one_event c.harmed-fate.ensures.fate c.harmed-fate.ensures.harm (c.deref.ensures.value ∙ c.in_ok-torn.ensures.ok))
    c.play_actions.ensures
