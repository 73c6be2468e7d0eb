use Rattle.std.proofs.Common.{◌≡◌, List, length, refl, sym, ap, ◌∙◌, subst, arith}
use Rattle.dfu_formats.specs.dfuse.Reading.{Target}
use Rattle.dfu_formats.specs.dfuse.Images.{elements_for, image_fault}
use Rattle.dfu_formats.proofs.ImageLaws.{other_target_changes_nothing, matching_target_is_listed, target_over_room_is_too_many, listed_targets_are_all, missing_setting_is_fault, fitting_elements_have_no_fault}
use Rattle.dfu_formats.proofs.dfuse.file.File.listed.Goals as goal

pub loop-target-init : goal.loop-target-init
loop-target-init c = record {
  within = omega arith;
  size = refl;
  looked = record { number = omega arith; listed = refl; has_it = refl };
}

pub loop-target-preserved-in-Some-put : goal.loop-target-preserved-in-Some-put
loop-target-preserved-in-Some-put c =
    let s = c.args.setting in
    let put = c.in-Some-put.ensures.listed in
    let i = c.loop-target.invariant in record {
      within = put.1;
      size = c.in-Some-put.ensures.size ∙ i.size;
      looked = matching_target_is_listed s c.loop-target.room c.put.new.room c.loop-target.count c.in-Some-put.n c.loop-target.has_target
          c.loop-target.targets
          c.targets-targets.result c.next_target.new.self _ i.looked c.in-Some.ensures c.if-target-setting.true put.0 put.2;
    }

pub returns-in-None-clause-fault : goal.returns-in-None-clause-fault
returns-in-None-clause-fault c =
    let i = c.loop-target.invariant in
    let more = c.in-None.ensures.listed in
    let here = target_over_room_is_too_many c.args.setting (length c.args.room.now) c.loop-target.room c.loop-target.count
    c.loop-target.has_target c.loop-target.targets
    c.targets-targets.result c.next_target.new.self _ i.looked c.in-Some.ensures c.if-target-setting.true (omega (arith, more, i.size)) in
    subst (λ (all : List Target). image_fault (length c.args.room.now) c.args.setting all ≡ _) c.targets-targets.ensures here

pub loop-target-preserved : goal.loop-target-preserved
loop-target-preserved c =
    let i = c.loop-target.invariant in record {
      within = i.within;
      size = i.size;
      looked = other_target_changes_nothing c.args.setting c.loop-target.room c.loop-target.count c.loop-target.has_target
          c.loop-target.targets c.targets-targets.result
          c.next_target.new.self _ i.looked c.in-Some.ensures c.if-target-setting.false;
    }

pub returns-then-not-has_target-clause-fault : goal.returns-then-not-has_target-clause-fault
returns-then-not-has_target-clause-fault c =
    let i = c.loop-target.invariant in
    let end = listed_targets_are_all c.args.setting c.loop-target.room c.loop-target.count c.loop-target.has_target c.loop-target.targets
    c.targets-targets.result i.looked
    c.in_default.ensures.0 in
    subst (λ (all : List Target). image_fault (length c.args.room.now) c.args.setting all ≡ _) c.targets-targets.ensures
    (missing_setting_is_fault (length c.args.room.now) c.args.setting c.targets-targets.result (sym end.2 ∙ c.if-not-has_target.true))

pub returns-clause-listed : goal.returns-clause-listed
returns-clause-listed c =
    let i = c.loop-target.invariant in
    let end = listed_targets_are_all c.args.setting c.loop-target.room c.loop-target.count c.loop-target.has_target c.loop-target.targets
    c.targets-targets.result i.looked
    c.in_default.ensures.0 in
    let all = ap (elements_for c.args.setting) c.targets-targets.ensures in
    (omega (arith, end.0 ∙ ap length all), i.within, end.1 ∙ all)

pub returns-clause-fault : goal.returns-clause-fault
returns-clause-fault c =
    let i = c.loop-target.invariant in
    let end = listed_targets_are_all c.args.setting c.loop-target.room c.loop-target.count c.loop-target.has_target c.loop-target.targets
    c.targets-targets.result i.looked
    c.in_default.ensures.0 in
    subst (λ (all : List Target). image_fault (length c.args.room.now) c.args.setting all ≡ _) c.targets-targets.ensures
    (fitting_elements_have_no_fault (length c.args.room.now) c.args.setting c.targets-targets.result (sym end.2 ∙ c.if-not-has_target.false) (omega (arith, end.0, i.within, i.size)))
