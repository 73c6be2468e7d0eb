-- For each link some session machine agrees with it, and a bench agrees with a machine exactly if its link does.
use Rattle.std.proofs.Common.{ℕ, List, [], ◌∷◌, ◌++◌, refl, sym, ap, ◌∙◌, subst, inl, inr}
use Rattle.dfu_slots.specs.Medium.Fuse.{Whole}
use Rattle.dfu_slots.specs.Image.{Active, active_image_on_other_fuse}
use Rattle.dfu_device.specs.Stage.{Stage, InManifestSync, InManifest}
use Rattle.dfu_host.specs.Phases.{Goal, LoadGoal, FetchGoal, VerifyGoal, CompareGoal}
use Rattle.dfu_sim.specs.Session.{Machine, IsOneOf}
use Rattle.dfu_sim.specs.Play.{Link}
use Rattle.dfu_sim.specs.LinkView.{Session, NoLiveSession, HostSession, LinkView}
use Rattle.dfu_sim.specs.LinkAgreement.{ClosedWasOffered, Agrees, NothingClosed, SomeMachineAgrees, FreshMachineAgrees, LinkAgreesOn, SessionsContinue}
use Rattle.dfu_sim.specs.Agreement.{intake_of_stage, pending_bytes_in, live_session_of_goal, live_session_of, IsClosedOffer, IsLiveOffer, AgreesOn}
use Rattle.dfu_sim.specs.Bytes.{link_of_bench}
use Rattle.dfu_sim.specs.Understood.{BenchImageIsActive}

-- Lemmas about the machines that agree with a link.

-- An element of the second of two lists is an element of both lists joined.
joined_list_has_second_list : (a b : List (List ℕ)) (x : List ℕ) → IsOneOf x b → IsOneOf x (a ++ b)
joined_list_has_second_list [] b x one = one
joined_list_has_second_list (y ∷ a) b x one = inr (joined_list_has_second_list a b x one)

-- Closed bytes of a stage as a list of one; the empty list if the stage has none.
abbrev pub closed_bytes_in : Stage → List (List ℕ)
closed_bytes_in (InManifestSync taken) = taken ∷ []
closed_bytes_in (InManifest taken passed) = taken ∷ []
closed_bytes_in stage = []

-- Payload of a goal as a list of one; the empty list if the goal has none.
abbrev pub goal_payload_in : Goal → List (List ℕ)
goal_payload_in (LoadGoal payload) = payload ∷ []
goal_payload_in FetchGoal = []
goal_payload_in (VerifyGoal payload) = payload ∷ []
goal_payload_in (CompareGoal payload) = payload ∷ []

-- Payload of the live session as a list of one; the empty list if no session with a payload is live.
abbrev pub live_payload_in : Session → List (List ℕ)
live_payload_in NoLiveSession = []
live_payload_in (HostSession h) = goal_payload_in h.task.goal

-- If the list of offers begins with the closed bytes of a stage, those are an offer.
pub closed_bytes_are_offer : (stage : Stage) (rest : List (List ℕ)) → IsClosedOffer (closed_bytes_in stage ++ rest) (intake_of_stage stage)
closed_bytes_are_offer (InManifestSync taken) rest = inl refl
closed_bytes_are_offer (InManifest taken passed) rest = inl refl
closed_bytes_are_offer stage rest = tt

-- If the list of offers ends with the payload of a goal, that payload is an offer.
goal_payload_is_offer : (goal : Goal) (a : List (List ℕ)) → IsLiveOffer (a ++ goal_payload_in goal) (live_session_of_goal goal)
goal_payload_is_offer FetchGoal a = tt
goal_payload_is_offer goal a = joined_list_has_second_list a (goal_payload_in goal) _ (inl refl)

-- If the list of offers ends with the payload of the live session, that payload is an offer.
pub live_payload_is_offer : (session : Session) (a : List (List ℕ)) → IsLiveOffer (a ++ live_payload_in session) (live_session_of session)
live_payload_is_offer NoLiveSession a = tt
live_payload_is_offer (HostSession h) a = goal_payload_is_offer h.task.goal a

-- Session machine with this active image and last upload, whose offers are the closed bytes of a stage and the payload of a session.
abbrev pub machine_from_parts : List ℕ → Stage → Session → List ℕ → Machine
machine_from_parts image stage session up = record {
  cur = image;
  offers = closed_bytes_in stage ++ live_payload_in session;
  pending = pending_bytes_in (intake_of_stage stage);
  live = live_session_of session;
  up = up;
}

-- Session machine with the image, the stage and the session of a link, and its last upload.
abbrev pub session_machine_of_link : Link → List ℕ → Machine
session_machine_of_link w up = machine_from_parts w.device.image w.device.stage w.session up

-- A link agrees with its `session_machine_of_link`.
pub machine_agrees : (w : Link) (up : List ℕ) → Agrees w up (session_machine_of_link w up)
machine_agrees w up = record {
  cur = refl;
  pending = refl;
  live = refl;
  up_is = refl;
  sound = closed_bytes_are_offer w.device.stage (live_payload_in w.session);
  offered = live_payload_is_offer w.session (closed_bytes_in w.device.stage);
}

-- For each link some session machine agrees with it.
pub some_machine_agrees : SomeMachineAgrees
some_machine_agrees w up = (session_machine_of_link w up, machine_agrees w up)

-- In a stage without closed bytes, the condition that closed bytes are an offer holds even without offers.
unclosed_stage_needs_no_offer : (stage : Stage) → NothingClosed stage → ClosedWasOffered [] stage
unclosed_stage_needs_no_offer (InManifestSync taken) h = elim h [ ]
unclosed_stage_needs_no_offer (InManifest taken passed) h = elim h [ ]
unclosed_stage_needs_no_offer stage h = tt

-- If no session is live and no closed bytes wait, the session machine without offers agrees with the link.
pub fresh_machine_agrees : FreshMachineAgrees
fresh_machine_agrees w none still = record {
  cur = refl;
  pending = refl;
  live = ap (λ (s : Session). live_session_of s) (sym none);
  up_is = refl;
  sound = unclosed_stage_needs_no_offer w.device.stage still;
  offered = subst (λ (s : Session). IsLiveOffer [] (live_session_of s)) (sym none) tt;
}

-- Lemmas about a bench and its link, which agree with the same machines.

-- A bench that shows the active image agrees with each machine that its link agrees with.
pub bench_agrees_as_link : LinkAgreesOn
bench_agrees_as_link b up m shows agrees = record {
  active = subst (λ (image : List ℕ). Active b.device.slots.medium image) (sym agrees.cur) shows;
  pending = agrees.pending;
  live = agrees.live;
  up_is = agrees.up_is;
  sound = agrees.sound;
  offered = agrees.offered;
}

-- If a bench agrees with a machine, its link does too, because the image that the bench shows is the only active one on its medium.
pub link_agrees_as_bench : BenchImageIsActive → (b : LinkView) (up : List ℕ) (m : Machine) → AgreesOn b up m → Agrees (link_of_bench b) up m
link_agrees_as_bench shown b up m agrees = record {
  cur = (shown b).1 m.cur agrees.active;
  pending = agrees.pending;
  live = agrees.live;
  up_is = agrees.up_is;
  sound = agrees.sound;
  offered = agrees.offered;
}

-- If a world has no session, a machine that agrees with it also agrees with the next world over its device, after the machine's last upload
-- was emptied.
pub sessions_go_on : SessionsContinue
sessions_go_on w m none agrees = record {
  active = active_image_on_other_fuse w.bench.device.slots.medium Whole m.cur agrees.active;
  pending = agrees.pending;
  live = agrees.live ∙ ap (λ (s : Session). live_session_of s) none;
  up_is = refl;
  sound = agrees.sound;
  offered = tt;
}
