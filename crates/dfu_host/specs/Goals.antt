-- Goals of sessions in the code.
use Rattle.std.specs.Prelude.{◌≡◌, ℕ, List, [], length}
use Rattle.dfu_host.specs.declared.goal.Goal.{Goal}
use Rattle.dfu_host.specs.declared.goal.Goal.TheVariants as goal
use Rattle.dfu_host.specs.Table as table
use Rattle.std.specs.Borrow.{Bor}

-- Goal in the table that corresponds to a goal of the code.
abbrev pub goal_of : Goal → table.Goal
goal_of (goal.Load payload) = table.LoadGoal payload.now
goal_of goal.Fetch = table.FetchGoal
goal_of (goal.Verify payload) = table.VerifyGoal payload.now
goal_of (goal.Compare payload) = table.CompareGoal payload.now

-- The payload that a session sends or compares; empty for an upload.
abbrev pub payload_of : Goal → List ℕ
payload_of (goal.Load payload) = payload.now
payload_of goal.Fetch = []
payload_of (goal.Verify payload) = payload.now
payload_of (goal.Compare payload) = payload.now

-- Size of the payload in bytes, or 1 for an upload, because the size of its image is not known yet.
abbrev pub size_of : Goal → ℕ
size_of (goal.Load payload) = length payload.now
size_of goal.Fetch = 1
size_of (goal.Verify payload) = length payload.now
size_of (goal.Compare payload) = length payload.now

-- The goal is to fetch the image.
abbrev pub IsFetch : Goal → Type 0
IsFetch (goal.Load payload) = ⊥
IsFetch goal.Fetch = Unit {0}
IsFetch (goal.Verify payload) = ⊥
IsFetch (goal.Compare payload) = ⊥

-- The goal is an upload, or its payload is the given slice.
abbrev pub CarriesPayload : Bor (List ℕ) → Goal → Type 0
CarriesPayload payload (goal.Load given) = given ≡ payload
CarriesPayload payload goal.Fetch = Unit {0}
CarriesPayload payload (goal.Verify given) = given ≡ payload
CarriesPayload payload (goal.Compare given) = given ≡ payload
