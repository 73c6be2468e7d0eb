use Rattle.std.proofs.Common.{rules, inl, inr, refl}
use Rattle.dfu_host_c.proofs.Beginnings.{successful_call_has_no_fault}
use Rattle.dfu_host_c.proofs.Refused.{call_is_refused_by_first_fault}
use Rattle.dfu_host_c.proofs.beginning.dfu_host_upload.Goals as goal

pub returns-in-Ok-upload : goal.returns-in-Ok-upload
returns-in-Ok-upload c = record {
  outcome = inl (record {
    functional = c.in-Ok.functional;
    is_functional = c.in-Ok.ensures.ok;
    accepted = successful_call_has_no_fault _ _ _ c.in-Ok-upload.is c.upload.ensures.refused;
    begun = c.start.ensures.begun _ c.in-Ok-upload.ensures.started;
    number_is = search rules;
  });
}

pub returns-in-Err-upload : goal.returns-in-Err-upload
returns-in-Err-upload c = record {
  outcome = inr (inr (
    record {
      functional = c.in-Ok.functional;
      is_functional = c.in-Ok.ensures.ok;
      refused = call_is_refused_by_first_fault _ _ c.in-Err-upload.is c.upload.ensures.refused (search rules);
    },
    refl,
  ));
}
