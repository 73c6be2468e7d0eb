-- Any list of calls moves a session in C as it moves the session's host.
use Rattle.std.proofs.Common.{◌≡◌, ◌⊎◌, inl, inr, ℕ, ℤ, ◌≤◌, List, [], ◌∷◌, take, Some, refl, sym, ap, ◌∙◌, subst, arith}
use Rattle.std.proofs.lemmas.Option.{same_Some}
use Rattle.std.specs.Prelude.{length}
use Rattle.std.specs.Borrow.{Bor}
use Rattle.dfu_host.specs.declared.goal.Goal.{Goal}
use Rattle.dfu_host.specs.declared.goal.Goal.TheVariants as goal
use Rattle.dfu_host.specs.declared.parts.Parts.{Parts}
use Rattle.dfu_host.specs.declared.report.Report.{Report}
use Rattle.dfu_host.specs.Goals.{CarriesPayload, goal_of, payload_of}
use Rattle.dfu_host.specs.Phases as table
use Rattle.dfu_host.specs.Phases.{Deed, Send, Wait, Reset, Done}
use Rattle.dfu_host.specs.Table.{deed}
use Rattle.dfu_host.specs.Host.{HostState, HostRow, aborted_host}
use Rattle.dfu_host.specs.InParts.{host_of, body_offset}
use Rattle.dfu_host_core.specs.Actions.{ActionRecord}
use Rattle.dfu_host_core.specs.ReportNumbers.{report_at}
use Rattle.dfu_host_core.specs.Sessions.{IsRecord, IsRecordAndBuffer, parts_of, host_in}
use Rattle.dfu_host_core.specs.BeginCalls.{IsInitialRecord}
use Rattle.dfu_host_core.specs.Calls.{HostTakeResult, HostAbortResult}
use Rattle.dfu_host_core.specs.Runs.{CoreHost, CoreHostMatches, HostCall, CoreTakeCall, CoreAbortCall, HostCallResult, HostMovesByCall, stays, moves, CoreSessionsRefineHosts, HasPayload, BegunSessionIsInitialHost, CoreSessionIsOneHost, NextIsHostAction}
use Rattle.dfu_host_core.specs.declared.action.DfuAction.{DfuAction}
use Rattle.dfu_host_core.specs.declared.session.DfuSession.{DfuSession}
use Rattle.dfu_host_core.proofs.Placed.{SameHost, record_fits_elsewhere, goal_has_record_payload_or_empty}

-- Facts of a session in C whose payload is now at another address.
module _ (payload : List ℕ) (x : CoreHost) (h : HostState) (here : CoreHostMatches payload x h) (q : Bor (List ℕ)) (same : q.now
    ≡ payload) where
  parts_elsewhere : SameHost q here.parts (parts_of x.kept q)
  parts_elsewhere = record_fits_elsewhere x.kept here.slice q here.parts (here.same ∙ sym same) here.held.stands

  -- The record holds these parts with the payload at the other address.
  is_record_elsewhere : IsRecord x.kept q parts_elsewhere.parts
  is_record_elsewhere = record { version_is = here.held.stands.version_is; says = parts_elsewhere.says; sound = parts_elsewhere.sound }

  -- The record and the buffer hold these parts with the payload at the other address.
  buffer_fits_elsewhere : IsRecordAndBuffer x.kept q x.buffer parts_elsewhere.parts
  buffer_fits_elsewhere = record { stands = is_record_elsewhere; room = here.held.room }

  -- All parts that a record can hold with the payload at the other address have the same host.
  recorded_host_is_same : (b : Parts) → IsRecord x.kept q b → (memory : List ℕ) → host_of memory b ≡ host_of memory here.parts
  recorded_host_is_same b is memory =
      let e : b ≡ parts_elsewhere.parts = same_Some _ _ (sym is.says ∙ parts_elsewhere.says) in
      ap (host_of memory) e ∙ parts_elsewhere.host memory

  -- All parts that the record can hold with the payload at the other address have the session's host.
  recorded_host_is_its_session : (b : Parts) → IsRecord x.kept q b → host_in x.kept x.buffer b ≡ h
  recorded_host_is_its_session b is = recorded_host_is_same b is (take x.kept.kept x.buffer) ∙ here.is

-- A session in C that did not change still matches the same host.
unchanged_session_is_same_host : (payload : List ℕ) (x x' : CoreHost) (h : HostState) → CoreHostMatches payload x h → x'.kept ≡ x.kept →
    x'.buffer ≡ x.buffer
    → CoreHostMatches payload x' h
unchanged_session_is_same_host payload x x' h here kept buffer =
    subst (λ (y : CoreHost). CoreHostMatches payload y h) (λ i. record { kept = sym kept i; buffer = sym buffer i }) here

-- The call moves the host, and the session after the call matches the moved host.
record CallMovesHost (payload : List ℕ) (h : HostState) (call : HostCall) (n : ℤ) (x' : CoreHost) : Type 0 where
  pub now : HostState
  pub is : CoreHostMatches payload x' now
  pub moves : HostMovesByCall h call n now

-- dfu_host_take moves the host by a row of its table, or changes nothing if no result has its number.
take_moves_host : (payload : List ℕ) (x x' : CoreHost) (h : HostState) (seen : ℕ) (bytes : List ℕ) (n : ℤ) (slice given : Bor (List ℕ))
    → CoreHostMatches payload x h → slice.now ≡ payload → given.now ≡ bytes
    → HostTakeResult x.kept slice x.buffer seen given n x'.kept x'.buffer → CallMovesHost payload h (CoreTakeCall seen bytes) n x'
take_moves_host payload x x' h seen bytes n slice given here same said (inl (number, t)) = record {
  now = host_in x'.kept x'.buffer t.next;
  is = record { slice = slice; same = same; parts = t.next; held = t.later; is = refl };
  moves = inl (
    number,
    record {
      slice = given;
      same = said;
      word = t.word;
      is = t.seen_is;
      row = subst (λ (g : HostState). HostRow g t.word (host_in x'.kept x'.buffer t.next))
          (recorded_host_is_its_session payload x h here slice same t.parts t.before.stands) t.row;
    },
  );
}
take_moves_host payload x x' h seen bytes n slice given here same said (inr (inl (number, none, kept, buffer))) =
    absurd (none (parts_elsewhere payload x h here slice same).parts (buffer_fits_elsewhere payload x h here slice same))
take_moves_host payload x x' h seen bytes n slice given here same said (inr (inr (number, stands, none, kept, buffer))) = record {
  now = h;
  is = unchanged_session_is_same_host payload x x' h here kept buffer;
  moves = inr (number, (given, said, none), refl);
}

-- dfu_host_abort puts the host in phase GiveUp, unless the host is done.
abort_moves_host : (payload : List ℕ) (x x' : CoreHost) (h : HostState) (n : ℤ) (slice : Bor (List ℕ)) → CoreHostMatches payload x h
    → slice.now ≡ payload → x'.buffer ≡ x.buffer → HostAbortResult x.kept slice n x'.kept → CallMovesHost payload h CoreAbortCall n x'
abort_moves_host payload x x' h n slice here same buffer (inl (number, g)) =
    let memory = take x'.kept.kept x'.buffer in
    let as_before : memory ≡ take x.kept.kept x.buffer = λ i. take (g.kept i) (buffer i) in
    record {
      now = host_in x'.kept x'.buffer g.next;
      is = record {
        slice = slice;
        same = same;
        parts = g.next;
        held = record {
          stands = g.later;
          room = subst (λ (l : List ℕ). x'.kept.kept ≤ length l) (sym buffer)
              (subst (λ (k : ℕ). k ≤ length x.buffer) (sym g.kept) here.held.room);
        };
        is = refl;
      };
      moves = (
        number,
        g.same memory ∙ ap aborted_host (ap (λ (m : List ℕ). host_of m g.parts) as_before
            ∙ recorded_host_is_its_session payload x h here slice same g.parts g.before),
      );
    }
abort_moves_host payload x x' h n slice here same buffer (inr (number, none, kept)) =
    absurd (none (parts_elsewhere payload x h here slice same).parts (is_record_elsewhere payload x h here slice same))

-- Every call moves the host by the rule of `HostMovesByCall`.
call_moves_host : (payload : List ℕ) (x x' : CoreHost) (h : HostState) (call : HostCall) (n : ℤ) → CoreHostMatches payload x h
    → HostCallResult payload x call n x' → CallMovesHost payload h call n x'
call_moves_host payload x x' h (CoreTakeCall seen bytes) n here c = take_moves_host payload x x' h seen bytes n c.0 c.1 here c.2 c.3 c.4
call_moves_host payload x x' h CoreAbortCall n here c = abort_moves_host payload x x' h n c.0 here c.1 c.2 c.3

pub core_sessions_refine_hosts : CoreSessionsRefineHosts
core_sessions_refine_hosts payload x x' h [] here run =
    record { now = h; is = subst (λ (y : CoreHost). CoreHostMatches payload y h) (sym run) here; goes = stays }
core_sessions_refine_hosts payload x x' h (s ∷ rest) here run =
    let one = call_moves_host payload s.before s.after h s.call s.number
    (subst (λ (y : CoreHost). CoreHostMatches payload y h) (sym run.0) here) run.1 in
    let all = core_sessions_refine_hosts payload s.after x' one.now rest one.is run.2 in
    record { now = all.now; is = all.is; goes = moves one.moves all.goes }

-- A new record without kept bytes matches its initial host, with any buffer.
begun_record_matches_its_host : (payload buffer : List ℕ) (r : DfuSession) (start : HostState) → IsInitialRecord r start →
    (slice : Bor (List ℕ))
    → slice.now ≡ payload → (p : Parts) → IsRecord r slice p → ((memory : List ℕ) → host_of memory p ≡ start)
    → r.kept ≡ 0 → CoreHostMatches payload (record { kept = r; buffer = buffer }) start
begun_record_matches_its_host payload buffer r start begun slice same p is host none = record {
  slice = slice;
  same = same;
  parts = p;
  held = record { stands = is; room = omega (arith, none) };
  is = host (take r.kept buffer);
}

-- A goal with this payload, or without a payload, carries a slice with these bytes.
goal_carries_slice : (payload : List ℕ) (g : Goal) (to : table.Goal) → goal_of g ≡ to → HasPayload to payload
    → (slice : Bor (List ℕ)) × (slice.now ≡ payload) × CarriesPayload slice g
goal_carries_slice payload (goal.Load given) to e has =
    (given, subst (λ (z : table.Goal). HasPayload z payload) (sym e) has, refl)
goal_carries_slice payload goal.Fetch to e has = (record { ref_ptr = (0, 0); now = payload }, refl, tt)
goal_carries_slice payload (goal.Verify given) to e has =
    (given, subst (λ (z : table.Goal). HasPayload z payload) (sym e) has, refl)
goal_carries_slice payload (goal.Compare given) to e has =
    (given, subst (λ (z : table.Goal). HasPayload z payload) (sym e) has, refl)

pub begun_session_is_initial_host : BegunSessionIsInitialHost
begun_session_is_initial_host payload buffer r start begun has =
    let c = goal_carries_slice payload begun.parts.goal start.task.goal (ap (λ (z : HostState). z.task.goal) (begun.begins [])) has in
    begun_record_matches_its_host payload buffer r start begun c.0 c.1 begun.parts (begun.stands c.0 c.2) begun.begins begun.nothing

pub core_session_is_one_host : CoreSessionIsOneHost
core_session_is_one_host payload x h h' here other =
    sym other.is ∙ recorded_host_is_its_session payload x h here other.slice other.same other.parts other.held.stands

-- If the record of an action contains the end of the session and a report, the deed of the host is Done with that report.
over_means_done : (payload : List ℕ) (from : ℕ) (d : Deed) (a : DfuAction) (report : Report) → ActionRecord payload from d a → a.what ≡ 3
    → report_at a.value a.code ≡ Some report → d ≡ Done report
over_means_done payload from (Send q body) a report t what is = absurd (omega (arith, t.what, what))
over_means_done payload from (Wait ms) a report t what is = absurd (omega (arith, t.action_number_matches, what))
over_means_done payload from Reset a report t what is = absurd (omega (arith, t.action_number_matches, what))
over_means_done payload from (Done other) a report t what is = ap Done (same_Some _ _ (sym t.final_report_matches ∙ is))

-- A record of a deed with an empty payload is also a record of the deed with any payload.
empty_payload_record_fits_any : (payload : List ℕ) (d : Deed) (a : DfuAction) (from : ℕ) → ActionRecord [] from d a →
    ActionRecord payload from d a
empty_payload_record_fits_any payload (Send q []) a from t = record {
  what = t.what;
  value = t.value;
  asked = t.asked;
  place = t.place;
  size = t.size;
  cut = refl;
  ends = omega (arith, t.ends);
  code = t.code;
}
empty_payload_record_fits_any payload (Send q (b ∷ body)) a from t = absurd (omega (arith, t.ends))
empty_payload_record_fits_any payload (Wait ms) a from t = t
empty_payload_record_fits_any payload Reset a from t = t
empty_payload_record_fits_any payload (Done report) a from t = t

-- If a record is that of a deed with the session's payload, it is also that of the deed with the program's payload, because the session's
-- payload is the program's or empty.
session_record_fits_program : (mine payload : List ℕ) (d : Deed) (a : DfuAction) (from : ℕ) → (mine ≡ payload) ⊎ (mine ≡ []) →
    ActionRecord mine from d a
    → ActionRecord payload from d a
session_record_fits_program mine payload d a from (inl same) t = subst (λ (l : List ℕ). ActionRecord l from d a) same t
session_record_fits_program mine payload d a from (inr none) t = empty_payload_record_fits_any payload d a from (subst (λ (l : List ℕ).
    ActionRecord l from d a) none t)

pub next_is_host_action : NextIsHostAction
next_is_host_action payload x h slice n a a' here same (inl (number, t)) =
    let memory = take x.kept.kept x.buffer in
    let e : host_of memory t.parts ≡ h = recorded_host_is_its_session payload x h here slice same t.parts t.stands in
    let from = body_offset t.parts.transfer t.parts.phase in
    let mine = payload_of t.parts.goal in
    let says : ActionRecord mine from (deed h.task h.phase) a' =
    subst (λ (g : HostState). ActionRecord mine from (deed g.task g.phase) a') e (t.tells memory) in
    record {
      number = number;
      from = from;
      tells = session_record_fits_program mine payload (deed h.task h.phase) a' from
          (subst (λ (l : List ℕ). (mine ≡ l) ⊎ (mine ≡ [])) same (goal_has_record_payload_or_empty x.kept slice t.parts t.stands)) says;
      report = λ report what is. over_means_done mine from (deed h.task h.phase) a' report says what is;
    }
next_is_host_action payload x h slice n a a' here same (inr (number, none, kept)) =
    absurd (none (parts_elsewhere payload x h here slice same).parts (is_record_elsewhere payload x h here slice same))
