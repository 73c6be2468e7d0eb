use Rattle.std.proofs.Common.{sym, ◌∙◌, refl}
use Rattle.dfu_device.proofs.BodyLengths.{served_body_length_fits}
use Rattle.dfu_device.proofs.table.asked_row.Goals as goal

pub returns-then-not-is_served : goal.returns-then-not-is_served
returns-then-not-is_served c =
    let off = sym c.is_served.ensures ∙ c.if-not-is_served.true in
    record {
      row = record {
        read = c.decode-setup.result;
        request = c.request-request.result;
        fields = c.decode-setup.ensures.fields;
        asks = c.request-request.ensures.asks;
        asked_is_request_length = c.asked_length-asked.ensures;
        row = λ image spare block holds. rw (c.stall.ensures, off) refl;
      };
      possible = λ block s room filled. rw c.stall.ensures filled;
    }

pub returns : goal.returns
returns c =
    let on = sym c.is_served.ensures ∙ c.if-not-is_served.false in
    let fits = served_body_length_fits c.decode-setup.result c.request-request.result c.args.body.now c.request-request.ensures.asks on in
    record {
      row = record {
        read = c.decode-setup.result;
        request = c.request-request.result;
        fields = c.decode-setup.ensures.fields;
        asks = c.request-request.ensures.asks;
        asked_is_request_length = c.asked_length-asked.ensures;
        row = λ image spare block holds. rw on (c.decide.ensures.row image spare block c.args.body.now holds fits);
      };
      possible = c.decide.ensures.possible c.args.body.now fits;
    }
