use Rattle.std.proofs.Common.{◌≡◌, ◌&&◌, Bool, true, false, not, if◌then◌else◌, ℕ, ◌+◌, ◌≤◌, List, length, slice_range, Some, refl, sym, ◌∙◌, ap, subst, arith}
use Rattle.dfu_slots.specs.declared.fault.WriteFault.{WriteFault}
use Rattle.dfu_slots.specs.declared.fault.WriteFault.TheVariants.{Failed, NotVerified}
use Rattle.dfu_slots.specs.Medium.{Write}
use Rattle.dfu_slots.specs.StoreView.{SlotsState}
use Rattle.dfu_device.specs.declared.answer.Answer.{Answer}
use Rattle.dfu_device.specs.DeviceView.{DeviceView}
use Rattle.dfu_asks.specs.declared.reply.Reply.TheVariants as reply
use Rattle.dfu_asks.specs.Lent.{LentDevice, lent}
use Rattle.dfu_asks.specs.Due.{DueRowFails}
use Rattle.dfu_asks.specs.Steps.{Step}
use Rattle.dfu_asks.specs.declared.pending_writes.PendingWrites.{PendingWrites}
use Rattle.dfu_asks.specs.Carried.{total, bytes_after_writes, EndsAtPiece}
use Rattle.dfu_asks.specs.Asks.{writes_in, steps_in, device_in, device_of, IsWorkingForRow}
use Rattle.dfu_asks.specs.Calls.{CallCompleted, DevicePieceReported, piece_on_flash, piece_write_failed, piece_not_on_flash}
use Rattle.dfu_asks.proofs.Pieces.{next_piece_ends_at_piece}
use Rattle.dfu_asks.proofs.CallResults.{kept_work_is_unique, true_test_holds, not_true_if_false, asked_piece_is_unique, asked_piece_has_next_size, report_of_piece_is_accepted, failed_piece_ends_row, stored_piece_advances_series}
use Rattle.dfu_asks.proofs.asking.Asking.took.Goals as goal

-- If `went_well` is false although the operation didn't fail, the bytes of the piece are not on the flash.
unfailed_bad_piece_is_not_there : (failed stands : Bool) → not failed && stands ≡ false → failed ≡ false → stands ≡ false
unfailed_bad_piece_is_not_there true stands e works = cc
unfailed_bad_piece_is_not_there false stands e works = e

-- If `went_well` is true, the operation of the piece didn't fail.
works : (failed stands : Bool) → not failed && stands ≡ true → failed ≡ false
works true stands e = cc
works false stands e = refl

-- If `went_well` is true, the bytes of the piece are on the flash.
well_piece_is_on_flash : (failed stands : Bool) → not failed && stands ≡ true → stands ≡ true
well_piece_is_on_flash true stands e = cc
well_piece_is_on_flash false stands e = e

-- A piece that failed, or whose bytes are not on the flash, breaks off the row with its fault.
bad_piece_ends_row : (d : DeviceView) (len : ℕ) (s : SlotsState) (was : List ℕ) (p : Write) (failed : Bool) (flash out : List ℕ) (now :
    LentDevice)
    (out' : List ℕ) (x : Answer) (count : ℕ) (fault : WriteFault) → fault ≡ (if failed then Failed else NotVerified)
    → (failed ≡ false → ¬ (slice_range flash p.at (p.at + length p.bytes) ≡ p.bytes))
    → CallCompleted flash x count out out' now (λ y sent. DueRowFails fault len d y sent (device_in now flash))
    → DevicePieceReported d len s was p failed flash out now out' (reply.Answered x count)
bad_piece_ends_row d len s was p true flash out now out' x count fault is other ended =
    piece_write_failed x count refl refl
    (subst (λ (f : WriteFault). CallCompleted flash x count out out' now (λ y sent. DueRowFails f len d y sent (device_in now flash))) is
    ended)
bad_piece_ends_row d len s was p false flash out now out' x count fault is other ended =
    piece_not_on_flash x count refl (other refl) refl
    (subst (λ (f : WriteFault). CallCompleted flash x count out out' now (λ y sent. DueRowFails f len d y sent (device_in now flash))) is
    ended)

pub returns-then-not-went_well-clause-outcome : goal.returns-then-not-went_well-clause-outcome
returns-then-not-went_well-clause-outcome c = λ len s was before asks p piece torn.
    let a = lent c.args.self.now c.args.block.now c.args.held.now in
    let w = c.in-Some.work in
    let nx = c.look_at-len.ensures.next (omega (arith, c.if-len-eq0.false)) in
    let same : asks.work ≡ w = kept_work_is_unique asks.work w (sym asks.work_is ∙ c.in-Some.is) in
    let q = nx.piece in
    let one : p ≡ q = asked_piece_is_unique a w asks.work p q same piece nx.is in
    let fail = c.fail-answer in
    let now = lent fail.new.self c.args.block.now c.args.held.now in
    bad_piece_ends_row (device_of a s) len s was p.write c.args.failed c.args.flash.now c.args.out.now now fail.new.out
    fail.result.0 fail.result.1 c.fault_of.result c.fault_of.ensures
    (λ works st. not_true_if_false c.look_at-len.result.1
    (unfailed_bad_piece_is_not_there c.args.failed c.look_at-len.result.1 (sym c.went_well.ensures ∙ c.if-not-went_well.true) works)
    (nx.there.1
    (subst (λ (y : Step). slice_range c.args.flash.now y.write.at (y.write.at + length y.write.bytes) ≡ y.write.bytes) one st)))
    (failed_piece_ends_row a len s was before asks p piece c.args.flash.now torn c.fault_of.result now w.asked
    fail.result.0 fail.result.1 c.args.out.now fail.new.out (ap (λ (x : PendingWrites). x.asked) same)
    (fail.ensures.broken c.args.block.now c.args.held.now) (fail.ensures.notes c.args.block.now c.args.held.now) fail.ensures.gives)

pub returns-clause-outcome : goal.returns-clause-outcome
returns-clause-outcome c = λ len s was before asks p piece torn.
    let a = lent c.args.self.now c.args.block.now c.args.held.now in
    let flash = c.args.flash.now in
    let w = c.in-Some.work in
    let nx = c.look_at-len.ensures.next (omega (arith, c.if-len-eq0.false)) in
    let n = c.look_at-len.result.0 in
    let same : asks.work ≡ w = kept_work_is_unique asks.work w (sym asks.work_is ∙ c.in-Some.is) in
    let q = nx.piece in
    let one : p ≡ q = asked_piece_is_unique a w asks.work p q same piece nx.is in
    let on = true_test_holds c.look_at-len.result.1
    (well_piece_is_on_flash c.args.failed c.look_at-len.result.1 (sym c.went_well.ensures ∙ c.if-not-went_well.false)) in
    let there : slice_range flash p.write.at (p.write.at + length p.write.bytes) ≡ p.write.bytes =
    subst (λ (y : Step). slice_range flash y.write.at (y.write.at + length y.write.bytes) ≡ y.write.bytes) (sym one)
    (nx.there.0 on) in
    let size : length p.write.bytes ≡ n = asked_piece_has_next_size a w asks.work p flash _ _ same piece nx in
    let fits : p.write.at + length p.write.bytes ≤ length flash =
    omega (arith, nx.within on, ap (λ (y : Step). y.write.at) one, size) in
    let k : IsWorkingForRow a w len s was = subst (λ (x : PendingWrites). IsWorkingForRow a x len s was) same asks.working in
    let further : PendingWrites = record { job = w.job; asked = w.asked; done = w.done + n } in
    let stood : flash ≡ bytes_after_writes was (writes_in a w) (w.done + length p.write.bytes) =
    subst (λ (x : PendingWrites). flash ≡ bytes_after_writes was (writes_in a x) (x.done + length p.write.bytes)) same
    (stored_piece_advances_series a len s was before asks p piece flash torn fits there) in
    piece_on_flash (works c.args.failed c.look_at-len.result.1 (sym c.went_well.ensures ∙ c.if-not-went_well.false)) there
    (c.advance.ensures.outcome further len s was refl
    (record { medium = k.medium; store = k.store; sound = k.sound; due = k.due; noted = k.noted })
    (stood ∙ ap (λ (m : ℕ). bytes_after_writes was (writes_in a w) (w.done + m)) size)
    (subst (λ (m : ℕ). EndsAtPiece (steps_in a w) (w.done + m)) size
    (subst (λ (x : PendingWrites). EndsAtPiece (steps_in a x) (x.done + length p.write.bytes)) same
    (next_piece_ends_at_piece (steps_in a asks.work) asks.work.done p asks.reached piece))))

pub returns-then-not-went_well-clause-taken : goal.returns-then-not-went_well-clause-taken
returns-then-not-went_well-clause-taken c =
    let w = c.in-Some.work in
    let nx = c.look_at-len.ensures.next (omega (arith, c.if-len-eq0.false)) in
    report_of_piece_is_accepted (lent c.args.self.now c.args.block.now c.args.held.now) w nx.piece (length c.args.out.now)
    (omega (arith, c.if-out-lt6.false)) c.in-Some.is nx.is

pub returns-then-not-went_well-clause-another_piece : goal.returns-then-not-went_well-clause-another_piece
returns-then-not-went_well-clause-another_piece c = λ w p is piece.
    let a = lent c.args.self.now c.args.block.now c.args.held.now in
    let v = c.in-Some.work in
    let nx = c.look_at-len.ensures.next (omega (arith, c.if-len-eq0.false)) in
    let one : p ≡ nx.piece = asked_piece_is_unique a v w p nx.piece (kept_work_is_unique w v (sym is ∙ c.in-Some.is)) piece nx.is in (
      λ asks. cc,
      λ on. absurd (not_true_if_false c.look_at-len.result.1
          (unfailed_bad_piece_is_not_there c.args.failed c.look_at-len.result.1 (sym c.went_well.ensures ∙ c.if-not-went_well.true) on.well)
          (nx.there.1
          (subst (λ (y : Step). slice_range c.args.flash.now y.write.at (y.write.at + length y.write.bytes) ≡ y.write.bytes)
          one on.stands))),
    )

pub returns-clause-another_piece : goal.returns-clause-another_piece
returns-clause-another_piece c = λ w p is piece.
    let a = lent c.args.self.now c.args.block.now c.args.held.now in
    let v = c.in-Some.work in
    let nx = c.look_at-len.ensures.next (omega (arith, c.if-len-eq0.false)) in
    let same = kept_work_is_unique w v (sym is ∙ c.in-Some.is) in
    let one : p ≡ nx.piece = asked_piece_is_unique a v w p nx.piece same piece nx.is in
    let size : length p.write.bytes ≡ c.look_at-len.result.0 = asked_piece_has_next_size a v w p c.args.flash.now _ _ same piece nx in
    let further : PendingWrites = record { job = v.job; asked = v.asked; done = v.done + c.look_at-len.result.0 } in
    let all : total (writes_in a w) ≡ total (writes_in a v) = ap (λ (x : PendingWrites). total (writes_in a x)) same in
    let done : w.done ≡ v.done = ap (λ (x : PendingWrites). x.done) same in (
      λ asks. record {
        well = (works c.args.failed c.look_at-len.result.1 (sym c.went_well.ensures ∙ c.if-not-went_well.false));
        stands = subst (λ (y : Step). slice_range c.args.flash.now y.write.at (y.write.at + length y.write.bytes) ≡ y.write.bytes) (sym one)
            (nx.there.0 (true_test_holds c.look_at-len.result.1
            (well_piece_is_on_flash c.args.failed c.look_at-len.result.1 (sym c.went_well.ensures ∙ c.if-not-went_well.false))));
        more = omega (arith, (c.advance.ensures.more further refl).0 asks, size, all, done);
      },
      λ on. (c.advance.ensures.more further refl).1 (omega (arith, on.more, size, all, done)),
    )

pub returns-clause-piece_advances : goal.returns-clause-piece_advances
returns-clause-piece_advances c = λ asks w p is piece.
    let same = kept_work_is_unique w c.in-Some.work (sym is ∙ c.in-Some.is) in
    let size : length p.write.bytes ≡ c.look_at-len.result.0 =
    asked_piece_has_next_size (lent c.args.self.now c.args.block.now c.args.held.now) c.in-Some.work w p c.args.flash.now _ _ same piece
    (c.look_at-len.ensures.next (omega (arith, c.if-len-eq0.false))) in
    c.advance.ensures.kept asks
    ∙ (λ i. Some (record { job = (sym same i).job; asked = (sym same i).asked; done = (sym same i).done + sym size i }))

pub returns-then-len-eq0-clause-refused : goal.returns-then-len-eq0-clause-refused
returns-then-len-eq0-clause-refused c =
    let a = lent c.args.self.now c.args.block.now c.args.held.now in
    let v = c.in-Some.work in
    let le = c.look_at-len.ensures.none c.if-len-eq0.true in (
      omega (arith, c.if-out-lt6.false),
      λ w left.
          let same : w ≡ v = kept_work_is_unique w v (sym left.work_is ∙ c.in-Some.is) in
          omega (arith, le, left.left, ap (λ (x : PendingWrites). x.done) same, ap (λ (x : PendingWrites). total (writes_in a x)) same),
    )

pub returns-clause-taken : goal.returns-clause-taken
returns-clause-taken c =
    let w = c.in-Some.work in
    let nx = c.look_at-len.ensures.next (omega (arith, c.if-len-eq0.false)) in
    report_of_piece_is_accepted (lent c.args.self.now c.args.block.now c.args.held.now) w nx.piece (length c.args.out.now)
    (omega (arith, c.if-out-lt6.false)) c.in-Some.is nx.is
