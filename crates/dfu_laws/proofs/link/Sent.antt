-- Session facts after a host's request to a board, by the result that the host receives.
use Rattle.std.specs.Prelude.{◌≡◌, ℕ, ◌<◌, IsTrue, List, []}
use Rattle.std.proofs.Common.{inl, inr, refl, sym, ◌∙◌, subst}
use Rattle.dfu_wire.specs.declared.requests.Request.{Request}
use Rattle.dfu_device.specs.declared.answer.Answer.{Answer}
use Rattle.dfu_device.specs.declared.objection.Objection.{Objection}
use Rattle.dfu_device.specs.Stage.{Profile}
use Rattle.dfu_device.specs.DeviceView.{DeviceView, profile, situation}
use Rattle.dfu_device.specs.Rows.{Cause, Transfer, RefusingClose, Handles, Row}
use Rattle.dfu_host.specs.Phases.{Send, Deed, Heard, NoRoom, Nothing as NothingHeard}
use Rattle.dfu_host.specs.Table.{deed}
use Rattle.dfu_host.specs.Host.{HostState, wants_memory}
use Rattle.dfu_host.specs.Wire.{IsSetupOf}
use Rattle.dfu_sim.specs.declared.delivery.Response.TheVariants as response
use Rattle.dfu_sim.specs.Happening.{Pass, LostOut, LostBack, Twice, TwiceLostBack, Refusing}
use Rattle.dfu_sim.specs.Delivery.{delivery_of}
use Rattle.dfu_sim.specs.Play.{host_outcome}
use Rattle.dfu_sim.specs.LinkView.{HostSession}
use Rattle.dfu_sim.specs.Bytes.{ActionDelivered, unseen, once as once_there, again}
use Rattle.dfu_sim.specs.Agreement.{live_session_of, IsLiveOffer}
use Rattle.dfu_sim.specs.LinkAgreement.{ClosedWasOffered}
use Rattle.dfu_sim.specs.Fact.{SessionFact}
use Rattle.dfu_sim.specs.Simulation.{Simulation, ActiveImageWasOffered}
use Rattle.dfu_laws.specs.board.Board.{Board, Handle, RefuseClose, BoardReply, Answers, BoardStep}
use Rattle.dfu_laws.specs.board.Refines.{IsIdleBoard, IdleRunsRefineTable}
use Rattle.dfu_laws.specs.link.Calls.{CallReaches, lost, once, twice, ImageRefusedAtClose, close_refused_once, close_refused_then_repeated}
use Rattle.dfu_laws.specs.link.LinkSteps.{HeardOfReply}
use Rattle.dfu_laws.proofs.link.BoardCalls.{ServedByRow, served}
use Rattle.dfu_laws.proofs.link.Fixed.{row_keeps_profile}
use Rattle.dfu_laws.proofs.link.ActionFacts.{FactsAfterAction, action_keeps_session_facts}

-- The link may lose any reply, and then the host receives nothing.
pub any_reply_may_be_lost : (d : Deed) (says : BoardReply) → HeardOfReply d says NothingHeard
any_reply_may_be_lost d (Answers a out) = inl refl
any_reply_may_be_lost d says = refl

module _ (refines : IdleRunsRefineTable) (simulation : Simulation) (only : ActiveImageWasOffered) (c : Profile) (sized : 0 < c.transfer)
    (past : List (List ℕ)) (h : HostState) (q : Request) (setup body : List ℕ) (is : deed h.task h.phase ≡ Send q body)
    (asked : IsSetupOf q setup) (d : DeviceView) (e : profile d ≡ c) (sound : ClosedWasOffered past d.stage)
    (offered : IsLiveOffer past (live_session_of (HostSession h)))
    (f : SessionFact c (situation d) (HostSession h)) where
  -- The device changed from d to d', the host received a result, and the session facts hold again.
  abbrev pub FactsAfterHearing : DeviceView → Heard → Type 0
  FactsAfterHearing d' heard = FactsAfterAction c past (HostSession h) (situation d) (situation d') (host_outcome h heard)

  -- If the link loses the request, the session facts still hold.
  lost_request_keeps_facts : (heard : Heard) → heard ≡ NothingHeard → (heard ≡ NoRoom → IsTrue (wants_memory h.phase)) →
      FactsAfterHearing d heard
  lost_request_keeps_facts heard none room = action_keeps_session_facts simulation only c sized past d d h heard LostOut e sound offered f
      refl
      (subst (λ (x : Deed). ActionDelivered x (delivery_of LostOut) d d heard) (sym is)
      (setup, asked, record { came = response.Lost; out = []; reaches = unseen; hears = none })) room

  -- If the request arrives once, and the host receives its answer or nothing, the session facts hold again.
  request_once_keeps_facts : (d' : DeviceView) (a : Answer) (out : List ℕ) (heard : Heard) → Handles setup body d a out d'
      → HeardOfReply (Send q body) (Answers a out) heard → (heard ≡ NoRoom → IsTrue (wants_memory h.phase)) → FactsAfterHearing d' heard
  request_once_keeps_facts d' a out heard row hears room = elim hears [
    | inl none ↦ action_keeps_session_facts simulation only c sized past d d' h heard LostBack e sound offered f refl
        (subst (λ (y : Deed). ActionDelivered y (delivery_of LostBack) d d' heard) (sym is)
        (setup, asked, record { came = response.Answered a; out = out; reaches = once_there row; hears = none })) room
    | inr some ↦ action_keeps_session_facts simulation only c sized past d d' h heard Pass e sound offered f refl
        (subst (λ (y : Deed). ActionDelivered y (delivery_of Pass) d d' heard) (sym is)
        (setup, asked, record { came = response.Answered a; out = out; reaches = once_there row; hears = some })) room
  ]

  -- If the request arrives twice, and the host receives the second answer or nothing, the session facts hold again.
  request_twice_keeps_facts : (mid d' : DeviceView) (a x : Answer) (out said : List ℕ) (heard : Heard) → Handles setup body d x said mid
      → Handles setup body mid a out d' → HeardOfReply (Send q body) (Answers a out) heard
      → (heard ≡ NoRoom → IsTrue (wants_memory h.phase)) → FactsAfterHearing d' heard
  request_twice_keeps_facts mid d' a x out said heard row more hears room = elim hears [
    | inl none ↦ action_keeps_session_facts simulation only c sized past d d' h heard TwiceLostBack e sound offered f refl
        (subst (λ (y : Deed). ActionDelivered y (delivery_of TwiceLostBack) d d' heard) (sym is)
        (setup, asked, record { came = response.Answered a; out = out; reaches = again mid x said row more; hears = none })) room
    | inr some ↦ action_keeps_session_facts simulation only c sized past d d' h heard Twice e sound offered f refl
        (subst (λ (y : Deed). ActionDelivered y (delivery_of Twice) d d' heard) (sym is)
        (setup, asked, record { came = response.Answered a; out = out; reaches = again mid x said row more; hears = some })) room
  ]

  -- If the request closes a download, and the program refuses the image, the session facts hold again.
  refused_close_keeps_facts : (why : Objection) (d' : DeviceView) (a : Answer) (out : List ℕ) (heard : Heard) →
      Row d (RefusingClose setup why) a out d'
      → HeardOfReply (Send q body) (Answers a out) heard → (heard ≡ NoRoom → IsTrue (wants_memory h.phase)) → FactsAfterHearing d' heard
  refused_close_keeps_facts why d' a out heard row hears room = elim hears [
    | inl none ↦ action_keeps_session_facts simulation only c sized past d d' h heard (Refusing why LostBack) e sound offered f refl
        (subst (λ (y : Deed). ActionDelivered y (delivery_of (Refusing why LostBack)) d d' heard) (sym is)
        (setup, asked, record { came = response.Answered a; out = out; reaches = once_there (inl row); hears = none })) room
    | inr some ↦ action_keeps_session_facts simulation only c sized past d d' h heard (Refusing why Pass) e sound offered f refl
        (subst (λ (y : Deed). ActionDelivered y (delivery_of (Refusing why Pass)) d d' heard) (sym is)
        (setup, asked, record { came = response.Answered a; out = out; reaches = once_there (inl row); hears = some })) room
  ]

  -- If the program refuses the image at the close, and the same request arrives again, the session facts hold again.
  repeated_close_keeps_facts : (why : Objection) (mid d' : DeviceView) (a x : Answer) (out said : List ℕ) (heard : Heard)
      → Row d (RefusingClose setup why) x said mid
      → Handles setup body mid a out d' → HeardOfReply (Send q body) (Answers a out) heard
      → (heard ≡ NoRoom → IsTrue (wants_memory h.phase)) → FactsAfterHearing d' heard
  repeated_close_keeps_facts why mid d' a x out said heard row more hears room = elim hears [
    | inl none ↦ action_keeps_session_facts simulation only c sized past d d' h heard (Refusing why TwiceLostBack) e sound offered f refl
        (subst (λ (y : Deed). ActionDelivered y (delivery_of (Refusing why TwiceLostBack)) d d' heard) (sym is)
        (setup, asked, record { came = response.Answered a; out = out; reaches = again mid x said (inl row) more; hears = none })) room
    | inr some ↦ action_keeps_session_facts simulation only c sized past d d' h heard (Refusing why Twice) e sound offered f refl
        (subst (λ (y : Deed). ActionDelivered y (delivery_of (Refusing why Twice)) d d' heard) (sym is)
        (setup, asked, record { came = response.Answered a; out = out; reaches = again mid x said (inl row) more; hears = some })) room
  ]

  -- After a request the board represents a device with the profile c, and the session facts hold again for the result that the host
  -- received.
  pub record FactsAfterRequest (b' : Board) (heard : Heard) : Type 0 where
    pub device : DeviceView
    -- The board represents this device, without pending writes.
    pub idle : IsIdleBoard b' device
    pub profile_is : profile device ≡ c
    pub acted : FactsAfterHearing device heard

  -- If the request has one row, and the session facts hold after that row, `FactsAfterRequest` holds.
  one_row_keeps_facts : (b' : Board) (heard : Heard) (cause : Cause) (a : Answer) (out : List ℕ) (x : ServedByRow d cause a out b') →
      FactsAfterHearing x.device heard
      → FactsAfterRequest b' heard
  one_row_keeps_facts b' heard cause a out x acted =
      record { device = x.device; idle = x.idle; profile_is = row_keeps_profile d x.device cause a out x.row ∙ e; acted = acted }

  -- If the request has two rows, and the session facts hold after the second row, `FactsAfterRequest` holds.
  second_row_keeps_facts : (mid b' : Board) (heard : Heard) (cause : Cause) (a0 a : Answer) (out0 out : List ℕ) (x : ServedByRow d cause a0
      out0 mid)
      (y : ServedByRow x.device (Transfer setup body) a out b') → FactsAfterHearing y.device heard → FactsAfterRequest b' heard
  second_row_keeps_facts mid b' heard cause a0 a out0 out x y acted = record {
    device = y.device;
    idle = y.idle;
    profile_is = row_keeps_profile x.device y.device (Transfer setup body) a out y.row
        ∙ row_keeps_profile d x.device cause a0 out0 x.row ∙ e;
    acted = acted;
  }

  -- If the request is lost, or arrives once or twice, the session facts hold again.
  pub request_keeps_facts : (b b' : Board) (steps : List BoardStep) (says : BoardReply) (heard : Heard) → IsIdleBoard b d
      → CallReaches (Handle setup body) b steps says b' → HeardOfReply (Send q body) says heard
      → (heard ≡ NoRoom → IsTrue (wants_memory h.phase)) → FactsAfterRequest b' heard
  request_keeps_facts b _ _ _ heard k lost hears room = record {
    device = d;
    idle = k;
    profile_is = e;
    acted = lost_request_keeps_facts
        heard hears room;
  }
  request_keeps_facts b b' steps _ heard k (once {a = a} {out = out} serves) hears room =
      let x = served refines b b' d (Handle setup body) (Transfer setup body) steps a out refl k serves in
      one_row_keeps_facts b' heard (Transfer setup body) a out x (request_once_keeps_facts x.device a out heard x.row hears room)
  request_keeps_facts b b' _ _ heard k (twice {first = first} {second = second} {a = a} {x = a0} {out = out} {said = out0} {mid = mid}
      serves more)
      hears room =
      let x = served refines b mid d (Handle setup body) (Transfer setup body) first a0 out0 refl k serves in
      let y = served refines mid b' x.device (Handle setup body) (Transfer setup body) second a out refl x.idle more in
      second_row_keeps_facts mid b' heard (Transfer setup body) a0 a out0 out x y
      (request_twice_keeps_facts x.device y.device a a0 out out0 heard x.row y.row hears room)

  -- If the program refuses the image that the request closes, the session facts hold again.
  pub refused_image_keeps_facts : (why : Objection) (b b' : Board) (steps : List BoardStep) (says : BoardReply) (heard : Heard) →
      IsIdleBoard b d
      → ImageRefusedAtClose setup body why b steps says b' → HeardOfReply (Send q body) says heard
      → (heard ≡ NoRoom → IsTrue (wants_memory h.phase)) → FactsAfterRequest b' heard
  refused_image_keeps_facts why b b' steps _ heard k (close_refused_once {a = a} {out = out} serves) hears room =
      let x = served refines b b' d (RefuseClose setup why) (RefusingClose setup why) steps a out refl k serves in
      one_row_keeps_facts b' heard (RefusingClose setup why) a out x (refused_close_keeps_facts why x.device a out heard x.row hears room)
  refused_image_keeps_facts why b b' _ _ heard k (close_refused_then_repeated {first = first} {second = second} {a = a} {x = a0} {out =
      out} {said = out0} {mid = mid}
      serves more) hears room =
      let x = served refines b mid d (RefuseClose setup why) (RefusingClose setup why) first a0 out0 refl k serves in
      let y = served refines mid b' x.device (Handle setup body) (Transfer setup body) second a out refl x.idle more in
      second_row_keeps_facts mid b' heard (RefusingClose setup why) a0 a out0 out x y
      (repeated_close_keeps_facts why x.device y.device a a0 out out0 heard x.row y.row hears room)
