-- Numbers that a program passes to dfu_host_take, as results for the host.
use Rattle.std.specs.Prelude.{◌≡◌, ℕ, pos, List, [], ◌∷◌, Some, IsTrue}
use Rattle.std.specs.Borrow.{Bor}
use Rattle.std.proofs.Common.{inl, inr, refl, sym, ap, ◌∙◌, subst}
use Rattle.std.proofs.lemmas.Option.{same_Some}
use Rattle.dfu_wire.specs.declared.requests.Request.{Request}
use Rattle.dfu_device.specs.declared.answer.Answer.TheVariants as answer
use Rattle.dfu_host.specs.declared.seen.Seen.{Seen}
use Rattle.dfu_host.specs.declared.seen.Seen.TheVariants as seen
use Rattle.dfu_host.specs.Phases.{Deed, Send, Heard, NoRoom, Waited, WasReset, Restarted}
use Rattle.dfu_host.specs.Table.{deed}
use Rattle.dfu_host.specs.Host.{HostState, after, aborted_host, wants_memory}
use Rattle.dfu_host.specs.Wire.{SeenMeaning, BytesMeaning}
use Rattle.dfu_host_core.specs.SeenNumbers.{seen_at}
use Rattle.dfu_host_core.specs.Runs.{CoreHost, CoreHostMatches, CoreTakeCall, CoreAbortCall, HostCall, HostStep, HostCallResult, HostMovesByCall, HostMoves, stays, moves, CoreSessionsRefineHosts}
use Rattle.dfu_laws.specs.board.Board.{BoardReply, Answers, Nothing, WritesDue}
use Rattle.dfu_laws.specs.link.LinkSteps.{HeardOfReply}
use Rattle.dfu_laws.specs.ends.Sessions.{HostTakeOk, SeenOfReply}

-- dfu_host_take took a number and bytes, and the host received the result that the number and the bytes encode. The record represents the
-- host after that result.
pub record HostHeardNumber (payload : List ℕ) (h : HostState) (number : ℕ) (bytes : List ℕ) (x' : CoreHost) : Type 0 where
  -- Slice of the bytes in memory.
  pub slice : Bor (List ℕ)
  pub same : slice.now ≡ bytes
  -- Result of this number and these bytes.
  pub word : Seen
  -- The number and the slice encode this result.
  pub is : seen_at number slice ≡ Some word
  pub heard : Heard
  -- For the host's request, the result has this meaning.
  pub hears : SeenMeaning (deed h.task h.phase) word heard
  -- The host lacks memory only in a phase in which it needs some.
  pub room : heard ≡ NoRoom → IsTrue (wants_memory h.phase)
  -- After the result, the record represents the host.
  pub now : CoreHostMatches payload x' (after h heard)

one_step_course_moves_host : {h now : HostState} {s : HostStep} → HostMoves h (s ∷ []) now → HostMovesByCall h s.call s.number now
one_step_course_moves_host (moves m stays) = m

-- A call on the record of a host changed the host, and the record represents the host after the call.
record HostMoved (payload : List ℕ) (h : HostState) (call : HostCall) (x' : CoreHost) : Type 0 where
  now : HostState
  -- After the call, the record represents this host.
  is : CoreHostMatches payload x' now
  -- The call returned 0, and changed the host to this one.
  move : HostMovesByCall h call (pos 0) now

module _ (refine : CoreSessionsRefineHosts) (payload : List ℕ) (x x' : CoreHost) (h : HostState) (here : CoreHostMatches payload x h) where
  moved : (call : HostCall) → HostCallResult payload x call (pos 0) x' → HostMoved payload h call x'
  moved call called =
      let s : HostStep = record { before = x; call = call; number = pos 0; after = x' } in
      let g = refine payload x x' h (s ∷ []) here (refl, called, refl) in
      record { now = g.now; is = g.is; move = one_step_course_moves_host g.goes }

  taken : (number : ℕ) (bytes : List ℕ) (now : HostState) → CoreHostMatches payload x' now →
      HostMovesByCall h (CoreTakeCall number bytes) (pos 0) now
      → HostHeardNumber payload h number bytes x'
  taken number bytes now is (inl (zero, s)) = record {
    slice = s.slice;
    same = s.same;
    word = s.word;
    is = s.is;
    heard = s.row.heard;
    hears = s.row.hears;
    room = s.row.room;
    now = subst (λ (y : HostState). CoreHostMatches payload x' y) s.row.same is;
  }
  taken number bytes now is (inr (number_is, none, same)) = absurd cc

  pub taken_is_heard : (number : ℕ) (bytes : List ℕ) → HostTakeOk payload x number bytes x' → HostHeardNumber payload h number bytes x'
  taken_is_heard number bytes given =
      let m = moved (CoreTakeCall number bytes) given in taken number bytes m.now m.is m.move

  pub abort_matches_aborted_host : HostCallResult payload x CoreAbortCall (pos 0) x' → CoreHostMatches payload x' (aborted_host h)
  abort_matches_aborted_host called =
      let m = moved CoreAbortCall called in subst (λ (y : HostState). CoreHostMatches payload x' y) m.move.1 m.is

-- A number and a slice have at most one result.
number_has_one_meaning : (k number : ℕ) (slice : Bor (List ℕ)) (w word : Seen) → seen_at k slice ≡ Some w → number ≡ k →
    seen_at number slice ≡ Some word
    → word ≡ w
number_has_one_meaning k number slice w word at same is =
    same_Some _ _ (sym is ∙ ap (λ (n : ℕ). seen_at n slice) same ∙ at)

module _ (payload : List ℕ) (h : HostState) (bytes : List ℕ) (x' : CoreHost) where
  number_means_word : (number k : ℕ) (w : Seen) → (t : HostHeardNumber payload h number bytes x') → number ≡ k → seen_at k t.slice
      ≡ Some w
      → SeenMeaning (deed h.task h.phase) w t.heard
  number_means_word number k w t same at =
      subst (λ (v : Seen). SeenMeaning (deed h.task h.phase) v t.heard) (number_has_one_meaning k number t.slice w t.word at same t.is)
      t.hears

  pub number_4_is_heard_as_wait : (t : HostHeardNumber payload h 4 bytes x') → t.heard ≡ Waited
  number_4_is_heard_as_wait t = number_means_word 4 4 seen.Waited t refl refl

  pub number_5_is_heard_as_reset : (t : HostHeardNumber payload h 5 bytes x') → t.heard ≡ WasReset
  number_5_is_heard_as_reset t = number_means_word 5 5 seen.WasReset t refl refl

  pub number_6_is_heard_as_restart : (t : HostHeardNumber payload h 6 bytes x') → t.heard ≡ Restarted
  number_6_is_heard_as_restart t = number_means_word 6 6 seen.Restarted t refl refl

  -- After a request the host receives the reply of the board, or nothing.
  pub reply_sent_back_is_heard : (says : BoardReply) (number : ℕ) (q : Request) (body : List ℕ) → deed h.task h.phase ≡ Send q body
      → (t : HostHeardNumber payload h number bytes x') → SeenOfReply says number bytes → HeardOfReply (Send q body) says t.heard
  reply_sent_back_is_heard (Answers answer.Ack out) number q body is t (inl n) = inr (number_means_word number 0 seen.Ack t n refl)
  reply_sent_back_is_heard (Answers answer.Ack out) number q body is t (inr n) = inl (number_means_word number 3 seen.Nothing t n refl)
  reply_sent_back_is_heard (Answers answer.Bytes out) number q body is t (inl (n, same)) =
      inr (subst (λ (l : List ℕ). BytesMeaning (Send q body) l t.heard) (t.same ∙ same)
      (subst (λ (d : Deed). BytesMeaning d t.slice.now t.heard) is (number_means_word number 1 (seen.Bytes t.slice) t n refl)))
  reply_sent_back_is_heard (Answers answer.Bytes out) number q body is t (inr n) = inl (number_means_word number 3 seen.Nothing t n refl)
  reply_sent_back_is_heard (Answers answer.Stall out) number q body is t (inl n) = inr (number_means_word number 2 seen.Stall t n refl)
  reply_sent_back_is_heard (Answers answer.Stall out) number q body is t (inr n) = inl (number_means_word number 3 seen.Nothing t n refl)
  reply_sent_back_is_heard Nothing number q body is t n = number_means_word number 3 seen.Nothing t n refl
  reply_sent_back_is_heard WritesDue number q body is t n = number_means_word number 3 seen.Nothing t n refl
