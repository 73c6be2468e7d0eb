-- Bytes and pages of the memory that a session may change.
use Rattle.std.specs.Prelude.{◌≡◌, ℕ, ◌<◌, ◌≤◌, false}
use Rattle.dfuse_host.specs.declared.plan.Plan.{Plan}
use Rattle.dfuse_host.specs.declared.phase.Phase.{Phase}
use Rattle.dfuse_host.specs.declared.phase.Phase.TheVariants.{On, Over}
use Rattle.dfuse_host.specs.declared.work.Work.{Work}
use Rattle.dfuse_host.specs.declared.work.Work.TheVariants as work
use Rattle.dfuse_host.specs.declared.place.Place.{Place}
use Rattle.dfuse_host.specs.declared.command.Command.{Command}
use Rattle.dfuse_host.specs.declared.command.Command.TheVariants as command
use Rattle.dfuse_host.specs.declared.heard.Heard.{Heard}
use Rattle.dfuse_host.specs.declared.session.Session.{Session}
use Rattle.dfuse_host.specs.declared.limits.Limits.{Limits}
use Rattle.dfuse_host.specs.Plans.{page_start, page_end, front_end, write_end}
use Rattle.dfuse_host.specs.Commands.{command_of, end_of_work}
use Rattle.dfuse_host.specs.Refusing.{is_empty}
use Rattle.dfuse_host.specs.ReadBack.{HasByte, WasReadInWork, PhaseClosesAfterCompare}
use Rattle.dfuse_host.specs.Sessions.{initial_dfuse_session, session_after_heard}

-- The page that begins at `page` contains a byte of the image.
pub record IsTouchedPage (plan : Plan) (page : ℕ) : Type 0 where
  -- Address of a byte of the image on the page.
  pub byte : ℕ
  -- The image has a byte at this address.
  pub has : HasByte byte plan.image.now
  -- The page of the byte begins at `page`.
  pub is : page_start plan byte ≡ page

-- The address of a work that erases or writes has a byte of the image; for EraseAgain, its page contains one. A work Write is at or after
-- the end of the front.
abbrev pub WorkTouchesImage : Plan → Work → Type 0
WorkTouchesImage plan (work.Erase at) = HasByte at plan.image.now
WorkTouchesImage plan (work.EraseAgain page end) = IsTouchedPage plan page
WorkTouchesImage plan (work.Write at end) = HasByte at plan.image.now × (front_end plan ≤ at)
WorkTouchesImage plan (work.WriteFront at) = HasByte at plan.image.now
WorkTouchesImage plan w = Unit {0}

-- If the work of the phase erases or writes, its address has a byte of the image, or its page contains one.
abbrev pub PhaseTouchesImage : Plan → Phase → Type 0
PhaseTouchesImage plan (On s) = WorkTouchesImage plan s.work
PhaseTouchesImage plan (Over r) = Unit {0}

-- The command sets the pointer, erases a page that contains a byte of the image, or writes bytes of the image within one page.
abbrev pub ChangesOnlyImagePages : Plan → (end : ℕ) → Command → Type 0
ChangesOnlyImagePages plan end (command.SetAddress at) = Unit {0}
ChangesOnlyImagePages plan end (command.ErasePage page) = IsTouchedPage plan page
ChangesOnlyImagePages plan end (command.Write at) = (a : ℕ) → at ≤ a → a < write_end plan at end → HasByte a plan.image.now
    × (a < page_end plan at)

-- If the image isn't empty, the work of a new session touches it. After any result the next work also touches it, if the session reaches
-- the leave request only after the comparison.
abbrev pub WorkAlwaysTouchesImage : Type 0
WorkAlwaysTouchesImage =
    ((plan : Plan) (limits : Limits) → is_empty plan.image.now ≡ false → PhaseTouchesImage plan (initial_dfuse_session plan limits).phase)
    × ((s : Session) (h : Heard) → is_empty s.plan.image.now ≡ false → PhaseClosesAfterCompare s.phase → PhaseTouchesImage s.plan s.phase
    → PhaseTouchesImage s.plan (session_after_heard s h).phase)

-- The command of a work that touches the image sets the pointer, erases a page that contains a byte of the image, or writes only bytes of
-- the image.
abbrev pub OnlyTouchedPagesChange : Type 0
OnlyTouchedPagesChange = (plan : Plan) (w : Work) (p : Place) → WorkTouchesImage plan w →
    ChangesOnlyImagePages plan (end_of_work plan w) (command_of plan w p)

-- When a work that touches the image writes a byte of the front, the session has read back every byte after the front.
abbrev pub FrontIsWrittenLast : Type 0
FrontIsWrittenLast =
    (plan : Plan) (w : Work) (p : Place) (at a b : ℕ) → WorkTouchesImage plan w → command_of plan w p ≡ command.Write at → at ≤ a
    → a < front_end plan
    → front_end plan ≤ b → WasReadInWork plan w b
