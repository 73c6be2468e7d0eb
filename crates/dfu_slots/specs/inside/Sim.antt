-- State of the simulated medium, computed from its fields.
use Rattle.std.specs.Prelude.{ℕ, Bool, List, []}
use Rattle.dfu_slots.specs.Units.{Grain}
use Rattle.dfu_slots.specs.Medium.{MediumState, Fuse}
use Rattle.dfu_slots.specs.Medium.Fuse.{Whole as WholeFuse, Armed as ArmedFuse, Lying as LyingFuse, Stopped as StoppedFuse}
use Rattle.dfu_slots.specs.declared.sim.Mode.{Mode}
use Rattle.dfu_slots.specs.declared.sim.SimFuse.{SimFuse}
use Rattle.dfu_slots.specs.declared.sim.Mode.TheVariants.{Whole, Armed, Lying, Stopped}

-- Fuse that the fields of the simulated medium encode.
abbrev pub fuse_of_fields : Mode → ℕ → List ℕ → Bool → Fuse
fuse_of_fields Whole writes tear stop = WholeFuse
fuse_of_fields Armed writes tear stop = ArmedFuse writes tear stop
fuse_of_fields Lying writes tear stop = LyingFuse writes tear
fuse_of_fields Stopped writes tear stop = StoppedFuse

-- State of a simulated medium with these bytes, this fuse and this grain.
abbrev pub sim_state : List ℕ → SimFuse → Grain → MediumState
sim_state bytes fuse grain = record {
  bytes = bytes;
  failures = fuse.failures;
  fuse = fuse_of_fields fuse.mode fuse.writes fuse.tear.items fuse.stop;
  grain = grain;
  tag = [];
}
