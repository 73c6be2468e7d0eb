-- An action of a live host with any fate is a step of the session machine.
use Rattle.std.proofs.Common.{◌≡◌, ℕ, suc, ◌<◌, Bool, List, length, Option, Some, refl, sym, subst}
use Rattle.dfu_device.specs.Stage.{Profile, InAppIdle}
use Rattle.dfu_device.specs.Outcome.{Situation, Luck}
use Rattle.dfu_host.specs.Blocks.{blocks, first_blocks}
use Rattle.dfu_host.specs.Phases.{Goal, LoadGoal, FetchGoal, VerifyGoal, CompareGoal, Task, Phase, Deed}
use Rattle.dfu_host.specs.Table.{deed, host_row, goal_after_reset}
use Rattle.dfu_host.specs.Host.{HostState, IsLivePhase}
use Rattle.dfu_sim.specs.Session.{Machine, LiveSession, LoadingPayload, AreFirstBlocks, IsInPlaceReport, TakesOrInstalls, takes_nothing, takes, installs, MayDrop, drops_nothing, drops, Kind, ActionKind, MachineStep, goes}
use Rattle.dfu_sim.specs.Happening.{Fate}
use Rattle.dfu_sim.specs.Delivery.{Delivery, delivery_of}
use Rattle.dfu_sim.specs.Opening.{task_for}
use Rattle.dfu_sim.specs.Play.{Link, uploaded_after, PlayResult, ActionResult, action_result, next_action_result}
use Rattle.dfu_sim.specs.LinkView.{HostSession}
use Rattle.dfu_sim.specs.LinkAgreement.{pending_of, ClosedWasOffered}
use Rattle.dfu_sim.specs.Agreement.{live_session_of_goal, live_session_of, IsLiveOffer}
use Rattle.dfu_sim.specs.Fact.{GoalFact, HasBlocks, HostFact, SessionFact}
use Rattle.dfu_sim.proofs.MovesWithoutBlocks.{Quiet, stays, pending_forgotten, commits}
use Rattle.dfu_sim.proofs.Blocks.{ImageMoves, moves_quietly, moves_by_block, moves_by_lost_block}
use Rattle.dfu_sim.proofs.GoDownload.{download_phase_goes_well}
use Rattle.dfu_sim.proofs.GoUpload.{upload_phase_goes_quietly}
use Rattle.dfu_sim.proofs.FateEffects.{UnlessRestarted, heard_fact_weakens}
use Rattle.dfu_sim.proofs.GoCommon.{GoesQuietly}
use Rattle.dfu_sim.proofs.GoCompare.{compare_phase_goes_quietly}
use Rattle.dfu_sim.proofs.GoalLaws.{Next, unchanged_goal_has_next_fact, verify_deed_is_load_deed, verify_phase_follows_load}
use Rattle.dfu_sim.proofs.HeardResults.{shown, goal_outcome_holds, task_of_descriptor_unique}

-- The machine takes a block, installs a payload or does neither, and then drops its pending bytes or keeps them.
record MachineMoves (t : ℕ) (m m' : Machine) : Type 0 where
  mid : Machine
  takes_or_installs_part : TakesOrInstalls t m mid
  drops_part : MayDrop mid m'

-- If the pending bytes are the first n blocks of the live payload, the machine may take block n.
taken : {p : List ℕ} (offers : List (List ℕ)) (t : ℕ) (i : List ℕ) (q : Option (List ℕ)) (up : List ℕ) (n : ℕ) (more : List ℕ)
    → n < length (blocks p t) → AreFirstBlocks p t n q → more ≡ first_blocks p t (suc n)
    → TakesOrInstalls t (shown offers i q (LoadingPayload p) up) (shown offers i (Some more) (LoadingPayload p) up)
taken {p = p} offers t i q up n more b f e = subst (λ (x : List ℕ). TakesOrInstalls t (shown offers i q (LoadingPayload p) up)
    (shown offers i (Some x) (LoadingPayload p) up)) (sym e) (takes n refl b f)

-- A quiet change of the image and the pending bytes is a move of the session machine, with any live session.
quiet_move_is_step : {offers : List (List ℕ)} {t : ℕ} {i j : List ℕ} {q r : Option (List ℕ)} (live : LiveSession) (up : List ℕ)
    → Quiet offers i q j r
    → MachineMoves t (shown offers i q live up) (shown offers j r live up)
quiet_move_is_step live up stays = record { mid = _; takes_or_installs_part = takes_nothing; drops_part = drops_nothing }
quiet_move_is_step live up pending_forgotten = record { mid = _; takes_or_installs_part = takes_nothing; drops_part = drops }
quiet_move_is_step live up (commits h) = record { mid = _; takes_or_installs_part = installs refl h; drops_part = drops_nothing }

-- A change of the image and the pending bytes in a download is a move of the session machine.
image_move_is_step : {offers : List (List ℕ)} {p : List ℕ} {t : ℕ} {i j : List ℕ} {q r : Option (List ℕ)} (up : List ℕ) →
    ImageMoves offers p t i q j r
    → MachineMoves t (shown offers i q (LoadingPayload p) up) (shown offers j r (LoadingPayload p) up)
image_move_is_step {p = p} up (moves_quietly q) = quiet_move_is_step (LoadingPayload p) up q
image_move_is_step {offers = offers} {p = p} {t = t} {i = i} {q = q} up (moves_by_block n more b f e) =
    record { mid = _; takes_or_installs_part = taken offers t i q up n more b f e; drops_part = drops_nothing }
image_move_is_step {offers = offers} {p = p} {t = t} {i = i} {q = q} up (moves_by_lost_block n more b f e) =
    record { mid = _; takes_or_installs_part = taken offers t i q up n more b f e; drops_part = drops }

-- An event is simulated: the session machine of the link makes a legal step with the report, and the facts of the link hold after it.
pub record IsSimulated (c : Profile) (offers : List (List ℕ)) (w : Link) (up : List ℕ) (kind : Kind) (r : PlayResult)
    (offers' : List (List ℕ)) : Type 0 where
  pub step : MachineStep c.tolerant c.transfer kind (shown offers w.device.image (pending_of w.device.stage) (live_session_of w.session) up)
      r.answer.report
      (shown offers' r.link.device.image (pending_of r.link.device.stage) (live_session_of r.link.session) (uploaded_after r.answer.gave
      up))
  pub sound : ClosedWasOffered offers' r.link.device.stage
  pub offer : IsLiveOffer offers' (live_session_of r.link.session)
  pub fact : SessionFact c r.link.device r.link.session
  pub done : IsInPlaceReport r.answer.report → r.link.device.stage ≡ InAppIdle

module _ (c : Profile) (sized : 0 < c.transfer) (offers : List (List ℕ)) where
  -- The result of an action is allowed: the session machine of the link moves, and the facts of the link hold unless the host learns of a
  -- restart.
  record EventResult (g : Goal) (phase : Phase) (s : Situation) (up : List ℕ) (d : ActionResult) : Type 0 where
    moves : MachineMoves c.transfer (shown offers s.image (pending_of s.stage) (live_session_of_goal g) up)
        (shown offers d.device.image (pending_of d.device.stage) (live_session_of_goal g) up)
    sound : ClosedWasOffered offers d.device.stage
    next : UnlessRestarted d.heard (Next c g d.device phase)

  -- If each fact of a goal implies that of the goal after the last reset, the result of a quiet action is allowed.
  quiet_action_has_result : (g : Goal) (phase : Phase) (s : Situation) (up : List ℕ) (d : ActionResult)
      → ((x : Phase) (y : Situation) → GoalFact c g x y → GoalFact c (goal_after_reset g) x y)
      → GoesQuietly c offers g (host_row (task_for c g) phase) s d → EventResult g phase s up d
  quiet_action_has_result g phase s up d f q = record {
    moves = quiet_move_is_step (live_session_of_goal g) up q.quiet.moves;
    sound = q.quiet.sound;
    next = heard_fact_weakens d.heard (λ heard. unchanged_goal_has_next_fact c g f d.device phase heard) q.next;
  }

  -- If the facts of the link hold, each action of its live host has an allowed result.
  live_host_action_has_result : (s : Situation) (g : Goal) (phase : Phase) (up : List ℕ) (delivery : Delivery) (l k : Luck) →
      ClosedWasOffered offers s.stage
      → IsLiveOffer offers (live_session_of_goal g) → IsLivePhase phase → GoalFact c g phase s → HasBlocks c g
      → EventResult g phase s up (action_result c s (deed (task_for c g) phase) delivery l k)
  live_host_action_has_result s (LoadGoal p) phase up delivery l k q o on f some =
      let d = action_result c s (deed (task_for c (LoadGoal p)) phase) delivery l k in
      let x = download_phase_goes_well c offers p some sized phase s on f q o delivery l k in
      record {
        moves = image_move_is_step up x.moves;
        sound = x.sound;
        next = heard_fact_weakens d.heard (λ heard. unchanged_goal_has_next_fact c (LoadGoal p) (λ x y h. h) d.device phase heard) x.next;
      }
  live_host_action_has_result s FetchGoal phase up delivery l k q o on f some =
      quiet_action_has_result FetchGoal phase s up _ (λ x y h. h) (upload_phase_goes_quietly c offers phase s on f q delivery l k)
  live_host_action_has_result s (VerifyGoal p) phase up delivery l k q o on f some =
      let d = action_result c s (deed (task_for c (LoadGoal p)) phase) delivery l k in
      let x = download_phase_goes_well c offers p some sized phase s on f q o delivery l k in
      subst (λ (z : Deed). EventResult (VerifyGoal p) phase s up (action_result c s z delivery l k)) (sym (verify_deed_is_load_deed c p
      phase)) (record {
        moves = image_move_is_step up x.moves;
        sound = x.sound;
        next = heard_fact_weakens d.heard (λ heard. verify_phase_follows_load c p d.device phase heard) x.next;
      })
  live_host_action_has_result s (CompareGoal p) phase up delivery l k q o on f some =
      quiet_action_has_result (CompareGoal p) phase s up _ (λ x y h. h) (compare_phase_goes_quietly c offers p some sized phase s on f q
      delivery l k)

  -- If the facts of a link hold, and its live host has the task for a goal, the host's action is a step of the session machine, and the
  -- facts still hold after it.
  goal_action_simulated : (s : Situation) (g : Goal) (phase : Phase) (left again : ℕ) (up : List ℕ) (fate : Fate) (l k : Luck) (room : Bool)
      → ClosedWasOffered offers s.stage → IsLiveOffer offers (live_session_of_goal g) → IsLivePhase phase → GoalFact c g phase s →
      HasBlocks c g
      → let w : Link = record {
        device = s;
        session = HostSession (record {
          task = task_for c g;
          phase = phase;
          actions = left;
          restarts = again;
        });
      } in IsSimulated c offers w up ActionKind (next_action_result c w w.session fate l k room) offers
  goal_action_simulated s g phase left again up fate l k room q o on f some =
      let d = action_result c s (deed (task_for c g) phase) (delivery_of fate) l k in
      let x = live_host_action_has_result s g phase up (delivery_of fate) l k q o on f some in
      let t = goal_outcome_holds c offers g s d.device up phase left again room d.heard on o some f x.next in
      record {
        step = goes x.moves.takes_or_installs_part x.moves.drops_part t.says;
        sound = x.sound;
        offer = t.offer;
        fact = t.fact;
        done
            = t.done;
      }

  -- If the facts of a link hold, each action of its live host is a step of the session machine, and the facts still hold after it.
  pub host_action_simulated : (s : Situation) (h : HostState) (up : List ℕ) (fate : Fate) (l k : Luck) (room : Bool)
      → ClosedWasOffered offers s.stage
      → IsLiveOffer offers (live_session_of_goal h.task.goal) → HostFact c s h
      → let w : Link = record { device = s; session = HostSession h } in IsSimulated c offers w up ActionKind
      (next_action_result c w w.session fate l k room) offers
  host_action_simulated s h up fate l k room q o f =
      subst (λ (task : Task). let w : Link = record {
        device = s;
        session = HostSession (record { task = task; phase = h.phase; actions = h.actions; restarts = h.restarts });
      } in
      IsSimulated c offers w up ActionKind (next_action_result c w w.session fate l k room) offers) (sym (task_of_descriptor_unique c h.task
      f.task_is))
      (goal_action_simulated s h.task.goal h.phase h.actions h.restarts up fate l k room q o f.on f.fact f.some)
