use Rattle.std.proofs.Common.{◌≡◌, true, ℕ, ◌+◌, ◌≤◌, ◌++◌, length, take, OnOk, refl, sym, subst, arith}
use Rattle.dfu_slots.specs.StoreView.{spare_of, room_of}
use Rattle.dfu_slots.specs.Changes.{fault_of, ending_of}
use Rattle.dfu_device.specs.Parts.{is_put}
use Rattle.dfu_device.proofs.Calls.{first_block_ends_as_put, failed_begin_ends_calls, later_block_ends_as_put, put_bytes_need_begun_store, room_fits_spare_slot, put_bytes_count_as_put, failure_count_rose_since}
use Rattle.dfu_device.proofs.effects.put_block.Goals as goal

pub returns-then-written-gt0-clause-spare : goal.returns-then-written-gt0-clause-spare
returns-then-written-gt0-clause-spare g c = c.put.ensures.front

pub returns-in-Ok-clause-calls : goal.returns-in-Ok-clause-calls
returns-in-Ok-clause-calls g c =
    let none : c.args.written ≡ 0 = omega (arith, c.if-written-gt0.false) in
    let fits : 0 + length c.args.block.now ≤ room_of c.begin.new.self = omega (arith, c.requires.room, c.in-Ok.ensures.common.room) in
    first_block_ends_as_put c.args.slots.now c.begin.new.self c.put-in-Ok.new.self c.args.written c.args.block.now
    (ending_of c.put-in-Ok.result) none (c.in-Ok.ensures.common.call refl (omega arith))
    (c.put-in-Ok.ensures.common.call c.in-Ok.ensures.shut fits)

pub returns-in-Ok-clause-spare : goal.returns-in-Ok-clause-spare
returns-in-Ok-clause-spare g c =
    let none : c.args.written ≡ 0 = omega (arith, c.if-written-gt0.false) in
    subst (λ (k : ℕ). OnOk c.put-in-Ok.result (take (k + length c.args.block.now) (spare_of c.put-in-Ok.new.self) ≡ take k
    (spare_of c.args.slots.now) ++ c.args.block.now)) (sym none)
    c.put-in-Ok.ensures.front

pub returns-in-Err-clause-calls : goal.returns-in-Err-clause-calls
returns-in-Err-clause-calls g c =
    let none : c.args.written ≡ 0 = omega (arith, c.if-written-gt0.false) in
    failed_begin_ends_calls (fault_of c.in-Err.fault) c.args.slots.now c.begin.new.self c.args.written c.args.block.now none
    (c.in-Err.ensures.common.call refl (omega arith))

pub returns-in-Ok-clause-put : goal.returns-in-Ok-clause-put
returns-in-Ok-clause-put g c =
    let none : c.args.written ≡ 0 = omega (arith, c.if-written-gt0.false) in
    subst (λ (k : ℕ). OnOk c.put-in-Ok.result (is_put (k + length c.args.block.now) c.put-in-Ok.new.self ≡ true)) (sym none)
    (put_bytes_count_as_put c.put-in-Ok.result c.begin.new.self c.put-in-Ok.new.self
    (0 + length c.args.block.now) c.in-Ok.ensures.shut c.put-in-Ok.ensures.shut c.put-in-Ok.ensures.end)

pub returns-in-Ok-clause-err : goal.returns-in-Ok-clause-err
returns-in-Ok-clause-err g c =
    let fits : 0 + length c.args.block.now ≤ room_of c.begin.new.self = omega (arith, c.requires.room, c.in-Ok.ensures.common.room) in
    failure_count_rose_since c.put-in-Ok.result c.args.slots.now.medium.failures c.begin.new.self.medium.failures
    c.put-in-Ok.new.self.medium.failures
    (c.in-Ok.ensures.common.call refl (omega arith)).count (c.put-in-Ok.ensures.common.call c.in-Ok.ensures.shut fits).rose

pub returns-then-written-gt0-clause-calls : goal.returns-then-written-gt0-clause-calls
returns-then-written-gt0-clause-calls g c =
    let s = c.args.slots.now in
    let n = c.args.written in
    let begun = put_bytes_need_begun_store n s c.if-written-gt0.true c.requires.put in
    let fits : n ≤ room_of s = omega (arith, c.requires.room) in
    later_block_ends_as_put s c.put.new.self n c.args.block.now (ending_of c.put.result) c.if-written-gt0.true (room_fits_spare_slot s n
    c.requires.shape fits)
    (c.put.ensures.common.call begun c.requires.room)

pub returns-then-written-gt0-clause-put : goal.returns-then-written-gt0-clause-put
returns-then-written-gt0-clause-put g c =
    let begun = put_bytes_need_begun_store c.args.written c.args.slots.now c.if-written-gt0.true c.requires.put in
    put_bytes_count_as_put c.put.result c.args.slots.now c.put.new.self (c.args.written + length c.args.block.now) begun
    c.put.ensures.shut c.put.ensures.end

pub returns-then-written-gt0-clause-err : goal.returns-then-written-gt0-clause-err
returns-then-written-gt0-clause-err g c =
    let begun = put_bytes_need_begun_store c.args.written c.args.slots.now c.if-written-gt0.true c.requires.put in
    let count = c.args.slots.now.medium.failures in
    failure_count_rose_since c.put.result count count c.put.new.self.medium.failures (omega arith) (c.put.ensures.common.call begun
    c.requires.room).rose
