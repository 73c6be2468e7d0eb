-- Reading a byte back during a session.
use Rattle.std.specs.Prelude.{◌≡◌, ℕ, List, ◌∷◌, ◌++◌, true}
use Rattle.dfuse_host.specs.declared.plan.Plan.{Plan}
use Rattle.dfuse_host.specs.declared.phase.Phase.TheVariants.{Over}
use Rattle.dfuse_host.specs.declared.seen.Seen.{Seen}
use Rattle.dfuse_host.specs.declared.report.Leaving.{Leaving}
use Rattle.dfuse_host.specs.declared.report.Report.TheVariants.{Verified}
use Rattle.dfuse_host.specs.declared.session.Session.{Session}
use Rattle.dfuse_host.specs.declared.limits.Limits.{Limits}
use Rattle.dfuse_host.specs.Refusing.{apart_from}
use Rattle.dfuse_host.specs.ReadBack.{HasByte, PhaseReadsBack}
use Rattle.dfuse_host.specs.Sessions.{SessionRow, SessionRows, initial_dfuse_session}

-- One of the results is an answer with which the session read the byte back and found it equal to the byte of the image.
pub record IsReadInRun (s : Session) (seens : List Seen) (s' : Session) (a : ℕ) : Type 0 where
  -- Results before the answer.
  pub before : List Seen
  -- Answer that contains the byte.
  pub answer : Seen
  -- Results after the answer.
  pub behind : List Seen
  -- Session that receives the answer.
  pub at : Session
  -- Session after the answer.
  pub next : Session
  -- The list of results consists of these three parts.
  pub cut : seens ≡ before ++ answer ∷ behind
  -- The results before the answer lead to the session that receives it.
  pub reached : SessionRows s before at
  -- The answer changes the session by a row of the table.
  pub row : SessionRow at answer next
  -- The session found the byte in the answer equal to the byte of the image.
  pub reads : PhaseReadsBack at.plan at.phase row.heard a
  -- The results after the answer lead to the last session.
  pub rest : SessionRows next behind s'

-- A session that ends as Verified has read back every byte of its image, if the elements ascend and don't overlap.
abbrev pub VerifiedReadEachByte : Type 0
VerifiedReadEachByte =
    (plan : Plan) (limits : Limits) (seens : List Seen) (s' : Session) (leaving : Leaving) (a : ℕ) → apart_from 0 plan.image.now ≡ true →
    SessionRows (initial_dfuse_session plan limits) seens s' → s'.phase ≡ Over (Verified leaving) → HasByte a plan.image.now →
    IsReadInRun (initial_dfuse_session plan limits) seens s' a
