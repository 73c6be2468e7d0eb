use Rattle.std.proofs.Common.{◌≡◌, ◌⊎◌, inl, inr, ⊎_elim, ℕ, ◌+◌, List, ◌++◌, length, take, Result, Ok, Err, OnOk, OnErr, ◌∙◌, ap, arith}
use Rattle.dfu_slots.specs.StoreView.{SlotsState, image_of, spare_of}
use Rattle.dfu_examples.proofs.image.install.Goals as goal

-- After an image was put at offset 0, the data begins with the image.
front_is_image : (old mid image : List ℕ) → take (0 + length image) mid ≡ take 0 old ++ image → take (length image) mid ≡ image
front_is_image old mid image front =
    let same : length image ≡ 0 + length image = omega arith in ap (λ (n : ℕ). take n mid) same ∙ front

-- If an image was put and the commit succeeded, that image is active.
image_is_active : {T E : Type 0} (mid now : SlotsState) (image : List ℕ) (result : Result T E) → take (length image) (spare_of mid) ≡ image
    → OnOk result (image_of now ≡ take (length image) (spare_of mid)) → OnOk result (image_of now ≡ image)
image_is_active mid now image (Ok x) put done = done ∙ put
image_is_active mid now image (Err e) put done = tt

-- If an image was put and the commit failed, that image or the one before is active.
commit_leaves_old_or_new : {T E : Type 0} (was mid now : SlotsState) (image : List ℕ) (result : Result T E) →
    take (length image) (spare_of mid) ≡ image
    → image_of mid ≡ image_of was
    → OnErr result ((image_of now ≡ image_of mid) ⊎ (image_of now ≡ take (length image) (spare_of mid)))
    → OnErr result ((image_of now ≡ image_of was) ⊎ (image_of now ≡ image))
commit_leaves_old_or_new was mid now image (Ok x) put kept either = tt
commit_leaves_old_or_new was mid now image (Err e) put kept either = ⊎_elim (λ same. inl (same ∙ kept)) (λ new. inr (new ∙ put)) either

pub returns-clause-installed : goal.returns-clause-installed
returns-clause-installed g c = image_is_active c.put.new.self c.commit.new.self c.args.image.now c.commit.result
    (front_is_image (spare_of c.begin.new.self) (spare_of c.put.new.self) c.args.image.now c.in_ok-put.ensures.front) c.commit.ensures.image

pub returns-clause-old_or_new : goal.returns-clause-old_or_new
returns-clause-old_or_new g c =
    commit_leaves_old_or_new c.args.slots.now c.put.new.self c.commit.new.self c.args.image.now c.commit.result
    (front_is_image (spare_of c.begin.new.self) (spare_of c.put.new.self) c.args.image.now c.in_ok-put.ensures.front)
    (c.in_ok-put.ensures.image ∙ c.in_ok-begin.ensures.image) c.commit.ensures.kept
