-- A verdict on a plan is true exactly if the plan stalls the request, for every outcome of its writes.
use Rattle.std.proofs.Common.{◌≡◌, ◌≢◌, Bool, true, false, ℕ, List, Some, inl, inr, sym}
use Rattle.std.proofs.lemmas.Bool.{true≢false}
use Rattle.dfu_slots.specs.declared.fault.WriteFault.{WriteFault}
use Rattle.dfu_slots.specs.declared.fault.WriteFault.TheVariants.{Failed, NotVerified}
use Rattle.dfu_device.specs.declared.answer.Answer.{Answer}
use Rattle.dfu_device.specs.declared.answer.Answer.TheVariants as answer
use Rattle.dfu_device.specs.Stage.{Reply, Ack, StatusOf, StateOf, Data, Stall}
use Rattle.dfu_device.specs.Table.{Plan, Sure, Writes, Commits}
use Rattle.dfu_device.specs.DeviceView.{DeviceView}
use Rattle.dfu_device.specs.Rows.{Done, ReplyAnswer}
use Rattle.dfu_asks.specs.Verdict.{is_stall, equal_bool_of_three, stall_verdict}

some_is_injective : {x y : Bool} → Some x ≡ Some y → x ≡ y
some_is_injective is = cc

stall_reply_answers_stall : (len : ℕ) (reply : Reply) (a : Answer) (out : List ℕ) → ReplyAnswer len reply a out → is_stall reply ≡ true →
    a ≡ answer.Stall
stall_reply_answers_stall len Stall a out says is = says.0
stall_reply_answers_stall len Ack a out says is = absurd (true≢false (sym is))
stall_reply_answers_stall len (StatusOf code poll state) a out says is = absurd (true≢false (sym is))
stall_reply_answers_stall len (StateOf state) a out says is = absurd (true≢false (sym is))
stall_reply_answers_stall len (Data bytes) a out says is = absurd (true≢false (sym is))

other_reply_is_no_stall : (len : ℕ) (reply : Reply) (a : Answer) (out : List ℕ) → ReplyAnswer len reply a out → is_stall reply ≡ false
    → a ≢ answer.Stall
other_reply_is_no_stall len Stall a out says is = absurd (true≢false is)
other_reply_is_no_stall len Ack a out says is = λ e. cc
other_reply_is_no_stall len (StatusOf code poll state) a out says is = λ e. cc
other_reply_is_no_stall len (StateOf state) a out says is = λ e. cc
other_reply_is_no_stall len (Data bytes) a out says is = λ e. cc

-- If three Bools agree on a value, each of them has this value.
equal_bool_is_each : (x y z b : Bool) → equal_bool_of_three x y z ≡ Some b → (x ≡ b) × (y ≡ b) × (z ≡ b)
equal_bool_is_each true true true b is = (cc, cc, cc)
equal_bool_is_each false false false b is = (cc, cc, cc)
equal_bool_is_each true true false b is = absurd (cc)
equal_bool_is_each true false true b is = absurd (cc)
equal_bool_is_each true false false b is = absurd (cc)
equal_bool_is_each false true true b is = absurd (cc)
equal_bool_is_each false true false b is = absurd (cc)
equal_bool_is_each false false true b is = absurd (cc)

-- If the three replies of a plan are all stalls, or none of them is, the same holds for the reply to each fault.
equal_bool_at_fault : (fault : WriteFault) (bad : WriteFault → Reply) (x b : Bool)
    → equal_bool_of_three x (is_stall (bad Failed)) (is_stall (bad NotVerified)) ≡ Some b
    → is_stall (bad fault) ≡ b
equal_bool_at_fault Failed bad x b is = (equal_bool_is_each x _ _ b is).1
equal_bool_at_fault NotVerified bad x b is = (equal_bool_is_each x _ _ b is).2

module _ (len : ℕ) (d : DeviceView) (a : Answer) (out : List ℕ) (d' : DeviceView) where
  -- The reply of an executed plan is a stall exactly if the verdict is true.
  done_reply_matches_verdict : (p : Plan) (b : Bool) → Done p len d a out d' → stall_verdict p ≡ Some b
      → (reply : Reply) × ReplyAnswer len reply a out × (is_stall reply ≡ b)
  done_reply_matches_verdict (Sure reply stage) b done is = (reply, done.0, some_is_injective is)
  done_reply_matches_verdict (Writes before block reply stage bad) b (inl (says, done)) is = (
    reply,
    says,
    (equal_bool_is_each _ _ _ b
        is).0,
  )
  done_reply_matches_verdict (Writes before block reply stage bad) b (inr (fault, says, done)) is = (
    bad fault,
    says,
    equal_bool_at_fault
        fault bad _ b is,
  )
  done_reply_matches_verdict (Commits taken reply stage bad) b (inl (says, done)) is = (reply, says, (equal_bool_is_each _ _ _ b is).0)
  done_reply_matches_verdict (Commits taken reply stage bad) b (inr (fault, says, done)) is = (
    bad fault,
    says,
    equal_bool_at_fault fault
        bad _ b is,
  )

  -- A plan whose verdict is true stalls the request.
  pub stalling_plan_stalls : (p : Plan) → Done p len d a out d' → stall_verdict p ≡ Some true → a ≡ answer.Stall
  stalling_plan_stalls p done is = let r = done_reply_matches_verdict p true done is in stall_reply_answers_stall len r.0 a out r.1 r.2

  -- A plan whose verdict is false doesn't stall the request.
  pub other_plan_does_not_stall : (p : Plan) → Done p len d a out d' → stall_verdict p ≡ Some false → a ≢ answer.Stall
  other_plan_does_not_stall p done is = let r = done_reply_matches_verdict p false done is in other_reply_is_no_stall len r.0 a out r.1 r.2
