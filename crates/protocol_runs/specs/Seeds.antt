-- Worked schedules: what a host with one thread does by a seed. The words are those of PCG32.
use Rattle.std.specs.Prelude.{◌≡◌, pos, Some, List, [], ◌∷◌}
use Rattle.protocol.specs.Events.{Event, Submit, Form, Admit, Arrive, Ask, Take, Run, Send, End, Complete, Sync, Note, Commit, Settle, Prepare, Vouch, Decide, Seal, Finish, Reply, Trim}
use Rattle.protocol.specs.Verdicts.{out_of_order}
use Rattle.protocol.specs.Runs.{reached}
use Rattle.protocol_schedule.specs.Draw.{schedule_of}
use Rattle.protocol_runs.specs.Examples.{verdicts_of, committed, transfer, doomed_by_order}

-- a transfer
abbrev pub transfer_by_1 : List Event
transfer_by_1 =
    Submit 0 ∷ Form 1 ∷ Arrive 1 0 ∷ Arrive 1 1 ∷ Take 1 0 ∷ Run 1 0 ∷ Send 1 0 ∷ Take 1 1 ∷ Sync 0 ∷ Run 1 1 ∷ Send 1 1 ∷ Take 1 0
    ∷ Run 1 0 ∷ Complete 1 1 ∷ End 1 0 ∷ Complete 1 0 ∷ Sync 0 ∷ Note 1 1 ∷ Note 1 0 ∷ Commit 1 ∷ Sync 0 ∷ Settle 1 ∷ Trim 1 1 ∷ Reply 0
    ∷ Trim 1 0 ∷ []

-- an ACT and a batch that meet on two actors: by this seed the ACT stands behind it on one and ahead of it on the other
abbrev pub meeting_by_1 : List Event
meeting_by_1 =
    Submit 0 ∷ Admit 1 ∷ Ask 1 0 ∷ Submit 1 ∷ Form 1 ∷ Run 1 0 ∷ Arrive 1 0 ∷ Arrive 1 1 ∷ Sync 0 ∷ Take 2 0 ∷ Send 1 0 ∷ Ask 1 1
    ∷ Finish 1 0 ∷ Reply 0 ∷ Run 2 0 ∷ Send 2 0 ∷ Finish 1 1 ∷ Take 2 1 ∷ Run 2 1 ∷ Send 2 1 ∷ Complete 1 1 ∷ Sync 0 ∷ Note 1 1
    ∷ Take 2 0 ∷ Run 2 0 ∷ Complete 1 0 ∷ Sync 0 ∷ Note 1 0 ∷ End 2 0 ∷ Commit 1 ∷ Sync 0 ∷ Settle 1 ∷ Trim 1 1 ∷ Reply 1 ∷ Trim 1 0
    ∷ []

-- by this one it is ahead on both
abbrev pub meeting_by_7 : List Event
meeting_by_7 =
    Submit 0 ∷ Submit 1 ∷ Admit 1 ∷ Ask 1 0 ∷ Form 1 ∷ Arrive 1 0 ∷ Take 2 0 ∷ Sync 0 ∷ Run 1 0 ∷ Send 1 0 ∷ Ask 1 1 ∷ Arrive 1 1
    ∷ Run 1 1 ∷ Send 1 1 ∷ Take 1 0 ∷ Run 1 0 ∷ End 1 0 ∷ Prepare 1 1 ∷ Prepare 1 0 ∷ Sync 0 ∷ Vouch 1 0 ∷ Vouch 1 1 ∷ Decide 1 ∷ Sync 0
    ∷ Seal 1 ∷ Reply 0 ∷ Finish 1 1 ∷ Finish 1 0 ∷ Run 2 0 ∷ Send 2 0 ∷ Take 2 1 ∷ Run 2 1 ∷ Send 2 1 ∷ Take 2 0 ∷ Run 2 0
    ∷ Complete 1 0 ∷ Complete 1 1 ∷ Sync 0 ∷ End 2 0 ∷ Note 1 0 ∷ Note 1 1 ∷ Commit 1 ∷ Sync 0 ∷ Settle 1 ∷ Trim 1 1 ∷ Trim 1 0
    ∷ Reply 1 ∷ []

-- Each schedule is whole: nothing is allowed at its end.
pub record SeedsPlay : Type 0 where
  pub transfers : schedule_of transfer 1 100 ≡ transfer_by_1
  pub crosses : schedule_of doomed_by_order 1 100 ≡ meeting_by_1
  pub stays_ahead : schedule_of doomed_by_order 7 100 ≡ meeting_by_7
  pub crossed : verdicts_of doomed_by_order (reached doomed_by_order meeting_by_1) ≡ Some (out_of_order 1 1 1) ∷ committed 1 0 2 (pos 55) ∷ []
  pub ahead : verdicts_of doomed_by_order (reached doomed_by_order meeting_by_7) ≡ committed 0 1 1 (pos 80) ∷ committed 1 0 2 (pos 85) ∷ []
