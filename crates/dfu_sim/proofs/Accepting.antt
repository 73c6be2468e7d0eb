-- Images of a link whose device's program enforces a check.
use Rattle.std.proofs.Common.{◌≡◌, ◌⊎◌, inl, inr, ℕ, Bool, true, List, [], ◌∷◌, Result, refl, sym, ap, ◌∙◌, subst}
use Rattle.dfu_slots.specs.Image.{Active}
use Rattle.dfu_slots.specs.StoreView.{SlotsState, image_of}
use Rattle.dfu_device.specs.Setting.{Setting}
use Rattle.dfu_device.specs.DeviceView.{profile}
use Rattle.dfu_sim.specs.declared.fault.LinkFault.{LinkFault}
use Rattle.dfu_sim.specs.Happening.{Happening, Offers, Uploads, Aborts, Goes, Passes, Resets, Cuts, Refuses}
use Rattle.dfu_sim.specs.LinkView.{LinkView, WorldView}
use Rattle.dfu_sim.specs.Play.{Answered}
use Rattle.dfu_sim.specs.Bytes.{link_of_bench}
use Rattle.dfu_sim.specs.EventResults.{EventMeaning, EventResult, refuses, happens, WorldEventResult}
use Rattle.dfu_sim.specs.Headline.{WasOffered, IsWaiting}
use Rattle.dfu_sim.specs.Accepting.{MayPlaceImage, LinkStep, HeedsCheckAtStep, image_of_world, LinkImagesAccepted, OfferedImagesAccepted}
use Rattle.dfu_sim.proofs.Placing.{HasNoWaitingImage}
use Rattle.dfu_sim.proofs.Placed.{play_places_waiting}
use Rattle.dfu_sim.proofs.Projected.{bytes_show}

-- An event either does not change the image that a bench shows, or it puts the waiting image in place. In the second case it is an action
-- of the host or time that passes, and no image waits after it.
abbrev EventPlacesOnBench : Happening → LinkView → LinkView → Type 0
EventPlacesOnBench h b b' = (image_of b'.device.slots ≡ image_of b.device.slots)
    ⊎ (MayPlaceImage h × IsWaiting b.device.stage (image_of b'.device.slots) × HasNoWaitingImage b'.device.stage)

-- If the play of a caller's event may put an image in place, the caller's event may too.
event_may_place_as_its_meaning : (s : Setting) (h e : Happening) → EventMeaning s h e → MayPlaceImage e → MayPlaceImage h
event_may_place_as_its_meaning s (Offers purpose file limits) e m may = subst MayPlaceImage m.2 may
event_may_place_as_its_meaning s (Uploads limits) e m may = subst MayPlaceImage m.1 may
event_may_place_as_its_meaning s Aborts e m may = subst MayPlaceImage m may
event_may_place_as_its_meaning s (Goes fate harm) e m may = tt
event_may_place_as_its_meaning s (Passes ms) e m may = tt
event_may_place_as_its_meaning s Resets e m may = subst MayPlaceImage m may
event_may_place_as_its_meaning s Cuts e m may = subst MayPlaceImage m may
event_may_place_as_its_meaning s (Refuses why) e m may = subst MayPlaceImage m may

-- The result of an event puts no image in place, except the waiting one.
event_result_places_waiting : (h : Happening) (b b' : LinkView) (told : Result Answered LinkFault) → EventResult b h b' told →
    EventPlacesOnBench h b b'
event_result_places_waiting h b b' told (refuses why) = inl refl
event_result_places_waiting h b b' told (happens {event = e} {answer = answer} means play) =
    elim (play_places_waiting (profile b.device) (link_of_bench b) (link_of_bench b') e answer (bytes_show b b' e answer play).play) [
      | inl same ↦ inl same
      | inr placed ↦ inr (event_may_place_as_its_meaning b.device.config h e means placed.0, placed.1, placed.2)
    ]

-- If the program enforces its check at a step, the image after the step is unchanged, or the check accepts it.
step_image_was_accepted : (check : List ℕ → Bool) (w : WorldView) (s : LinkStep) → WorldEventResult w s.happening s.after s.told →
    HeedsCheckAtStep check w s
    → (image_of_world s.after ≡ image_of_world w) ⊎ (check (image_of_world s.after) ≡ true)
step_image_was_accepted check w s come heeds = elim (event_result_places_waiting s.happening w.bench s.after.bench come.answer come.comes) [
  | inl same ↦ inl same
  | inr placed ↦ elim (heeds placed.0 (image_of_world s.after) placed.1) [
    | inl accepted ↦ inr accepted
    | inr waits ↦ absurd (placed.2 _ waits)
  ]
]

-- If the program enforces its check at each step, the image of the link after the steps is unchanged, or the check accepts it.
pub link_images_were_accepted : LinkImagesAccepted
link_images_were_accepted check w w' [] same heeds = inl (ap image_of_world same)
link_images_were_accepted check w w' (s ∷ rest) came heeds = elim (link_images_were_accepted check s.after w' rest came.1 heeds.1) [
  | inr accepted ↦ inr accepted
  | inl same ↦ elim (step_image_was_accepted check w s came.0 heeds.0) [
    | inl before ↦ inl (same ∙ before)
    | inr accepted ↦ inr (ap check same ∙ accepted)
  ]
]

module _ (only : (s : SlotsState) (image : List ℕ) → Active s.medium image → image ≡ image_of s) where
  -- If the program enforces its check, the active image is the factory image, or an offered payload that the check accepts.
  pub offered_images_are_accepted : OfferedImagesAccepted
  offered_images_are_accepted check w w' steps factory image past report first came heeds says active =
      let shown : image ≡ image_of_world w' = only w'.bench.device.slots image active in
      let known : says.image ≡ image_of_world w' = only w'.bench.device.slots says.image says.active in
      let begun : factory ≡ image_of_world w = only w.bench.device.slots factory first in
      elim (link_images_were_accepted check w w' steps came heeds) [
        | inl same ↦ inl (shown ∙ same ∙ sym begun)
        | inr accepted ↦ elim says.known [
          | inl is ↦ inl (shown ∙ sym known ∙ is)
          | inr was ↦ inr (
            subst (λ (x : List ℕ). WasOffered past x) (known ∙ sym shown) was,
            ap check shown ∙ accepted,
          )
        ]
      ]
