use Rattle.std.proofs.Common.{rules, inl, inr, refl}
use Rattle.dfu_host_c.proofs.Maps.{found_range_has_its_number, unfound_number_has_no_range}
use Rattle.dfu_host_c.proofs.Refused.{call_is_refused_by_first_fault}
use Rattle.dfu_host_c.proofs.dfuse.map.dfuse_read_range.Goals as goal

pub returns-in-Err : goal.returns-in-Err
returns-in-Err c = record {
  outcome = inr (inr (call_is_refused_by_first_fault _ _ c.in-Err.is c.read.ensures.fault (search rules), refl));
}

pub returns-in-Some : goal.returns-in-Some
returns-in-Some c = record {
  outcome = inl (
    refl,
    record {
      map = c.in-Ok.map;
      pages = c.in-Some.pages.now;
      is_map = c.in-Ok.ensures.found;
      found = found_range_has_its_number _ _ _ _ _ c.ranges-2.ensures.value c.get.ensures.lookup c.in-Some.is;
      says = c.range_record.ensures;
    },
  );
}

pub returns-in-None : goal.returns-in-None
returns-in-None c = record {
  outcome = inr (inl (
    refl,
    record {
      map = c.in-Ok.map;
      is_map = c.in-Ok.ensures.found;
      none = unfound_number_has_no_range _ _ _ _ c.ranges-2.ensures.value c.get.ensures.lookup c.in-None.is;
    },
    refl,
  ));
}
