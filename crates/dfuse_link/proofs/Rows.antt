-- In each history the session changes by rows of the table, and it ends within its limit of actions.
use Rattle.std.proofs.Common.{[], ◌∷◌, arith}
use Rattle.dfuse_host.specs.declared.seen.Seen.{Seen}
use Rattle.dfuse_host.specs.Budget.{OverInTime}
use Rattle.dfuse_host.specs.Sessions.{SessionRow, seen_all, sees, initial_dfuse_session}
use Rattle.dfuse_link.specs.Chips.{Chip}
use Rattle.dfuse_link.specs.Histories.{sent, waited, restarted, so_far, passes, turns}
use Rattle.dfuse_link.specs.Promises.{HistoriesFollowRows, EndsWithinActions}
use Rattle.dfuse_link.proofs.Pairs.{DeviceAndSession, IsTurnOfBoth, device_with_session}

-- Each turn changes the session by a row of the table.
pub turn_is_session_row : (chip : Chip) (l l' : DeviceAndSession) (s : Seen) → IsTurnOfBoth chip l s l' → SessionRow l.session s l'.session
turn_is_session_row chip l l' s (sent q body reaction is comes seen row) = row
turn_is_session_row chip l l' s (waited ms is same seen row) = row
turn_is_session_row chip l l' s (restarted mid any way rests changed seen row) = row

pub histories_are_rows : HistoriesFollowRows
histories_are_rows chip d _ s _ [] so_far = seen_all
histories_are_rows chip d d' s s' seens (passes mid more rest) = histories_are_rows chip mid d' s s' seens rest
histories_are_rows chip d d' s s' (x ∷ seens) (turns {mid = mid} {at = at} turn rest) =
    sees (turn_is_session_row chip (device_with_session d s) (device_with_session mid at) x turn) (histories_are_rows chip mid d' at s'
    seens rest)

pub session_ends_within_actions : OverInTime → EndsWithinActions
session_ends_within_actions in_time chip plan limits d d' s seens history enough =
    in_time (initial_dfuse_session plan limits) s seens (histories_are_rows chip d d' (initial_dfuse_session plan limits) s seens history)
    (omega (arith, enough))
