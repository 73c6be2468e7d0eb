-- Each piece is programmed only once after an erase of its sector.
use Rattle.std.proofs.Common.{◌≡◌, ◌⊎◌, inl, inr, ◌<◌, ◌≤◌, ◌+◌, ◌%◌, ℕ, Bool, List, [], ◌∷◌, Option, Some, None, sym, ◌∙◌, ap, subst, arith}
use Rattle.std.proofs.lemmas.Bool.{cases_lt}
use Rattle.dfu_boot.specs.declared.install.due.Due.{Due}
use Rattle.dfu_boot.specs.declared.install.due.Due.TheVariants.{Refuse, Erase, Program, Start}
use Rattle.dfu_boot.specs.install.Area.{RangeMatchesImage, RangeIsBlank, start_of}
use Rattle.dfu_boot.specs.install.Allowed.{ImageByteDiffers}
use Rattle.dfu_boot.specs.install.Next.{IsNextDue, MayProgram}
use Rattle.dfu_boot.specs.install.OperationReport.{IsNoteOfDue}
use Rattle.dfu_boot.specs.install.Courses.{InstallMoment, IsInstallStep, IsInstallTrace, end_of_trace, IsErasedSinceProgram, ProgramsOnlyFresh}
use Rattle.dfu_boot.proofs.WholeStarts.{part_start_is_multiple, multiple_begins_its_part}
use Rattle.dfu_boot.proofs.Allowing.{part_of_difference_differs}

-- The pieces of the last operation's sector that begin after the operation's offset are fresh, that is, erased and not programmed since.
-- The piece at that offset is fresh if it is blank.
pub record IsSectorFreshFrom (run : List ℕ) (sector last : ℕ) (since : List Due) : Type 0 where
  pub after : (piece : ℕ) → last < piece → start_of sector last ≡ start_of sector piece → IsErasedSinceProgram sector piece since
  pub here : RangeIsBlank run last (last + 256) → IsErasedSinceProgram sector last since

-- If the offset of the last operation is known, the sector that contains this offset is fresh from the offset on.
abbrev pub IsFreshFromLastOn : ℕ → List ℕ → Option ℕ → List Due → Type 0
IsFreshFromLastOn sector run None since = Unit {0}
IsFreshFromLastOn sector run (Some last) since = IsSectorFreshFrom run sector last since

-- A piece that may be programmed is fresh.
programmable_piece_is_fresh : (run : List ℕ) (sector piece : ℕ) (last : Option ℕ) (since : List Due)
    → IsFreshFromLastOn sector run last since
    → MayProgram run sector last piece → IsErasedSinceProgram sector piece since
programmable_piece_is_fresh run sector piece None since keeps may = absurd may
programmable_piece_is_fresh run sector piece (Some last) since keeps (low, same, blank) = in_either_order (cases_lt last piece)
  where
    in_either_order : (last < piece) ⊎ (piece ≤ last) → IsErasedSinceProgram sector piece since
    in_either_order (inl less) = keeps.after piece less same
    in_either_order (inr le) =
        let e : last ≡ piece = omega (arith, low, le) in
        subst (λ (x : ℕ). IsErasedSinceProgram sector x since) e
        (keeps.here (subst (λ (x : ℕ). RangeIsBlank run x (x + 256)) (sym e) blank))

-- After an erase, the whole sector is fresh.
erase_makes_sector_fresh : (image run run' : List ℕ) (sector at : ℕ) (last last' : Option ℕ) (failed : Bool) (since : List Due)
    → IsNextDue image run sector last (Erase at) → IsNoteOfDue image run' sector (Erase at) failed last'
    → IsFreshFromLastOn sector run' last' (Erase at ∷ since)
erase_makes_sector_fresh image run run' sector at last None failed since does took = _
erase_makes_sector_fresh image run run' sector at last (Some x) failed since (ready, (d, e)) (worked, area, (is, erased)) =
    let whole : at % sector ≡ 0 = subst (λ (n : ℕ). n % sector ≡ 0) (sym e.is) (part_start_is_multiple sector d) in
    let begins : at ≡ start_of sector x = multiple_is_part_start at x is whole in record {
      after = λ piece more same. inl (begins ∙ same);
      here = λ blank. inl begins;
    }
  where
    multiple_is_part_start : (a b : ℕ) → a ≡ b → a % sector ≡ 0 → a ≡ start_of sector b
    multiple_is_part_start a b e whole = sym (multiple_begins_its_part sector a whole) ∙ ap (λ (n : ℕ). start_of sector n) e

-- If a blank piece differs from the image, the piece is not blank after it was programmed.
programmed_piece_is_not_blank : (image run run' : List ℕ) (piece : ℕ) → ImageByteDiffers image run piece (piece + 256) →
    RangeIsBlank run piece (piece + 256)
    → RangeMatchesImage image run' piece (piece + 256) → RangeIsBlank run' piece (piece + 256) → ⊥
programmed_piece_is_not_blank image run run' piece d blank same blank' =
    d.differs (blank d.at d.after d.before ∙ sym (blank' d.at d.after d.before) ∙ same d.at d.after d.before d.inside)

-- After a program, the later pieces of the same sector are fresh.
program_keeps_rest_fresh : (image run run' : List ℕ) (sector at : ℕ) (last last' : Option ℕ) (failed : Bool) (since : List Due)
    → IsFreshFromLastOn sector run last since → IsNextDue image run sector last (Program at)
    → IsNoteOfDue image run' sector (Program at) failed last'
    → IsFreshFromLastOn sector run' last' (Program at ∷ since)
program_keeps_rest_fresh image run run' sector at last None failed since keeps does took = _
program_keeps_rest_fresh image run run' sector at None (Some x) failed since keeps (ready, (d, e)) took = absurd e.may
program_keeps_rest_fresh image run run' sector at (Some last) (Some x) failed since keeps (ready, (d, e)) (
  worked,
  area,
  (
    is,
    (
      fits,
      same,
    ),
  ),
) = record {
  after = λ piece more in_sector. (
    λ (it : at ≡ piece). omega (arith, it, is, more),
    keeps.after piece (omega (arith, is, more, e.may.0)) (e.may.1 ∙ ap (λ (n : ℕ). start_of sector n) is ∙ in_sector),
  );
  here = λ blank. absurd (programmed_piece_is_not_blank image run run' at
      (part_of_difference_differs image run 256 at d (Some last) (omega arith) e.next e.is)
      e.may.2 (subst (λ (n : ℕ). RangeMatchesImage image run' n (n + 256)) (sym is) same)
      (subst (λ (n : ℕ). RangeIsBlank run' n (n + 256)) (sym is) blank));
}

-- After any operation, the sector of the last operation is fresh from the offset of that operation on.
operation_keeps_freshness : (image run run' : List ℕ) (sector : ℕ) (last last' : Option ℕ) (failed : Bool) (since : List Due) (due : Due)
    → IsFreshFromLastOn sector run last since → IsNextDue image run sector last due → IsNoteOfDue image run' sector due failed last'
    → IsFreshFromLastOn sector run' last' (due ∷ since)
operation_keeps_freshness image run run' sector last last' failed since (Erase at) keeps does took =
    erase_makes_sector_fresh image run run' sector at last last' failed since does took
operation_keeps_freshness image run run' sector last last' failed since (Program at) keeps does took =
    program_keeps_rest_fresh image run run' sector at last last' failed since keeps does took
operation_keeps_freshness image run run' sector last None failed since (Refuse refusal) keeps does took = _
operation_keeps_freshness image run run' sector last (Some x) failed since (Refuse refusal) keeps does took = absurd took.2
operation_keeps_freshness image run run' sector last None failed since Start keeps does took = _
operation_keeps_freshness image run run' sector last (Some x) failed since Start keeps does took = absurd took.2

-- After each event, the sector of the last operation is fresh from the offset of that operation on.
event_keeps_freshness : (sector : ℕ) (m next : InstallMoment) → IsInstallStep sector m next → IsFreshFromLastOn sector m.run m.last m.since
    → IsFreshFromLastOn sector next.run next.last next.since
event_keeps_freshness sector m next (inl c) keeps =
    subst (λ (l : List Due). IsFreshFromLastOn sector next.run next.last l) (sym c.since)
    (operation_keeps_freshness m.image m.run next.run sector m.last next.last c.failed m.since c.due keeps c.does c.took)
event_keeps_freshness sector m next (inr (inl lost)) keeps = subst (λ (l : Option ℕ). IsFreshFromLastOn sector next.run l next.since) (sym
    lost.last) _
event_keeps_freshness sector m next (inr (inr other)) keeps =
    subst (λ (r : List ℕ). IsFreshFromLastOn sector r next.last next.since) (sym other.run)
    (subst (λ (l : Option ℕ). IsFreshFromLastOn sector m.run l next.since) (sym other.last)
    (subst (λ (s : List Due). IsFreshFromLastOn sector m.run m.last s) (sym other.since) keeps))

-- After any events, the sector of the last operation is fresh from the offset of that operation on.
trace_keeps_freshness : (sector : ℕ) (m : InstallMoment) (rest : List InstallMoment) → IsInstallTrace sector m rest
    → IsFreshFromLastOn sector m.run m.last m.since
    → let e = end_of_trace m rest in IsFreshFromLastOn sector e.run e.last e.since
trace_keeps_freshness sector m [] course keeps = keeps
trace_keeps_freshness sector m (next ∷ rest) (step, course) keeps = trace_keeps_freshness sector next rest course (event_keeps_freshness
    sector m next step keeps)

pub programs_only_fresh : ProgramsOnlyFresh
programs_only_fresh sector at m rest none course (ready, (d, e)) =
    let end_ = end_of_trace m rest in
    let first = subst (λ (l : Option ℕ). IsFreshFromLastOn sector m.run l m.since) (sym none) _ in
    programmable_piece_is_fresh end_.run sector at end_.last end_.since (trace_keeps_freshness sector m rest course first) e.may
