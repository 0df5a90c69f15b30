-- A long run: sixteen transactions of both kinds over three actors, from two coordinators and on two logs. Each of the 27 kinds of
-- events comes, and each kind of verdict.
use Rattle.std.specs.Prelude.{pos, None, Some, List, [], ◌∷◌, ◌++◌}
use Rattle.protocol.specs.Records.{BatchInfo, BatchComplete, BatchDone, ActPrepare, ActDone}
use Rattle.protocol.specs.Events.{Event, Submit, Pass, Form, Admit, Arrive, Ask, Take, Run, Send, End, Close, Complete, Sync, Note, Commit, Settle, Abort, Rollback, DropSub, DropControl, Prepare, Vouch, Decide, Seal, Finish, Reply, Trim}
use Rattle.protocol.specs.Verdicts.{died, out_of_order}
use Rattle.protocol_runs.specs.ExampleCode.{holding}
use Rattle.protocol_runs.specs.Examples.{text, on_logs, at_most, three_actors, put, move, bad, act_put, act_move, act_bad, committed, coded, batch_coded, cascaded, taken}
use Rattle.protocol_runs.specs.Lines.{Worked, Does, Ends, Fields, Images, Floor, Last, Numbers, Cascades, Records, Verdicts}

-- up to where an ACT asks for its second actor, which dooms it
abbrev pub first_events : List Event
first_events =
    Submit 0 ∷ Form 1 ∷ Submit 1 ∷ Pass 1 ∷ Arrive 1 1 ∷ Admit 2 ∷ Arrive 1 0 ∷ Sync 1 ∷ Submit 2 ∷ Submit 3 ∷ Submit 4 ∷ Ask 2 1
    ∷ Form 2 ∷ Arrive 2 1 ∷ Arrive 2 2 ∷ Take 3 2 ∷ Pass 0 ∷ Form 3 ∷ Admit 5 ∷ Arrive 3 0 ∷ Arrive 3 1 ∷ Submit 5 ∷ Sync 1 ∷ Take 4 1
    ∷ Submit 6 ∷ Sync 0 ∷ Ask 5 0 ∷ Run 3 2 ∷ Admit 6 ∷ Complete 2 2 ∷ Pass 1 ∷ Submit 7 ∷ Ask 6 2 ∷ End 3 2 ∷ Submit 8 ∷ Form 4
    ∷ Sync 0 ∷ Admit 8 ∷ Run 6 2 ∷ Arrive 4 2 ∷ Take 1 0 ∷ End 6 2 ∷ Arrive 4 0 ∷ Submit 9 ∷ Submit 10 ∷ Close 3 1 ∷ Submit 11
    ∷ Take 7 0 ∷ Ask 8 2 ∷ Run 1 0 ∷ Note 2 2 ∷ Submit 12 ∷ Send 1 0 ∷ Take 1 1 ∷ Run 1 1 ∷ Complete 1 1 ∷ Run 2 1 ∷ Send 1 1 ∷ Sync 1
    ∷ Send 2 1 ∷ []

-- up to where a batch has failed, and took two more along
abbrev pub second_events : List Event
second_events =
    Ask 2 2 ∷ Finish 2 1 ∷ Finish 2 2 ∷ Admit 9 ∷ Reply 1 ∷ Take 1 0 ∷ Ask 9 2 ∷ Complete 2 1 ∷ Sync 1 ∷ Note 2 1 ∷ Run 1 0 ∷ Reply 11
    ∷ Complete 1 0 ∷ Sync 0 ∷ Submit 13 ∷ Run 4 1 ∷ Complete 3 1 ∷ Sync 1 ∷ End 4 1 ∷ Submit 14 ∷ Close 4 0 ∷ Note 1 0 ∷ Complete 3 0
    ∷ Note 1 1 ∷ Note 3 1 ∷ End 1 0 ∷ Run 5 0 ∷ Submit 15 ∷ Sync 0 ∷ End 5 0 ∷ Commit 1 ∷ Sync 1 ∷ Note 3 0 ∷ Settle 1 ∷ Commit 2
    ∷ Sync 0 ∷ Prepare 5 0 ∷ Trim 1 1 ∷ Reply 0 ∷ Trim 1 0 ∷ Form 5 ∷ Settle 2 ∷ Reply 3 ∷ Trim 2 2 ∷ Abort 3 ∷ Form 6 ∷ Pass 0
    ∷ Reply 7 ∷ Trim 2 1 ∷ Reply 9 ∷ []

-- up to where all actors have rolled back and the last batches run
abbrev pub third_events : List Event
third_events =
    Reply 5 ∷ Finish 8 2 ∷ Rollback 1 ∷ DropSub 5 0 ∷ Finish 5 0 ∷ Rollback 2 ∷ Reply 4 ∷ Rollback 0 ∷ Sync 1 ∷ DropSub 5 2 ∷ Arrive 6 0
    ∷ Arrive 6 2 ∷ Form 7 ∷ Decide 6 ∷ Arrive 7 1 ∷ DropControl 10 ∷ Sync 0 ∷ Admit 14 ∷ Reply 6 ∷ Take 13 1 ∷ Run 13 1 ∷ End 13 1
    ∷ DropControl 11 ∷ Sync 1 ∷ Admit 15 ∷ Ask 14 0 ∷ Finish 6 2 ∷ Admit 16 ∷ Complete 7 1 ∷ Reply 2 ∷ Ask 16 1 ∷ Reply 13 ∷ Ask 15 1
    ∷ Run 16 1 ∷ Sync 1 ∷ Note 7 1 ∷ End 16 1 ∷ Prepare 16 1 ∷ Take 12 0 ∷ Run 12 0 ∷ Sync 1 ∷ Send 12 0 ∷ Vouch 16 1 ∷ Take 12 2
    ∷ Run 12 2 ∷ Complete 6 2 ∷ Sync 0 ∷ Note 6 2 ∷ Send 12 2 ∷ Take 12 0 ∷ []

-- and the rest
abbrev pub last_events : List Event
last_events =
    Run 12 0 ∷ Complete 6 0 ∷ Run 14 0 ∷ Sync 0 ∷ End 12 0 ∷ End 14 0 ∷ Note 6 0 ∷ Commit 6 ∷ Sync 0 ∷ Settle 6 ∷ Trim 6 0 ∷ Reply 15
    ∷ Decide 14 ∷ Finish 14 0 ∷ Commit 7 ∷ Sync 1 ∷ Settle 7 ∷ Reply 8 ∷ Trim 6 2 ∷ Reply 12 ∷ Trim 7 1 ∷ Decide 16 ∷ Sync 0 ∷ Seal 16
    ∷ Finish 16 1 ∷ Run 15 1 ∷ Send 15 1 ∷ Ask 15 0 ∷ Run 15 0 ∷ Send 15 0 ∷ Take 15 1 ∷ Run 15 1 ∷ End 15 1 ∷ Prepare 15 1 ∷ Sync 1
    ∷ Prepare 15 0 ∷ Reply 14 ∷ Vouch 15 1 ∷ Sync 0 ∷ Vouch 15 0 ∷ Decide 15 ∷ Sync 1 ∷ Seal 15 ∷ Finish 15 1 ∷ Finish 15 0 ∷ Reply 10 ∷ []

abbrev pub crowd_events : List Event
crowd_events = first_events ++ second_events ++ third_events ++ last_events

abbrev pub crowd : Worked
crowd = record {
  work = on_logs 2 (at_most 4 4 (text 2 2 three_actors (
      move 0 1 (pos 10) (0 ∷ 1 ∷ [])
      ∷ act_move 1 2 (pos 5)
      ∷ act_put 0 (pos 3)
      ∷ put 2 (pos 4) (1 ∷ 2 ∷ [])
      ∷ bad 1 (0 ∷ 1 ∷ [])
      ∷ act_move 2 0 (pos 7)
      ∷ act_move 2 1 (pos 300)
      ∷ put 0 (pos 1) (0 ∷ 2 ∷ [])
      ∷ act_bad 0
      ∷ move 2 0 (pos 6) (0 ∷ 2 ∷ [])
      ∷ act_move 1 0 (pos 2)
      ∷ act_put 2 (pos 9)
      ∷ put 1 (pos 8) (1 ∷ [])
      ∷ bad 2 (2 ∷ [])
      ∷ act_put 1 (pos 6)
      ∷ move 0 2 (pos 20) (0 ∷ 2 ∷ [])
      ∷ [])));
  lines =
      Does first_events
      ∷ Fields (pos 90 ∷ pos 105 ∷ pos 104 ∷ [])
      ∷ Images 0 (pos 100 ∷ [])
      ∷ Images 1 (pos 100 ∷ pos 110 ∷ [])
      ∷ Images 2 (pos 100 ∷ pos 104 ∷ [])
      ∷ Numbers 2 1 (Some 2)
      ∷ Numbers 5 3 (Some 4)
      ∷ Numbers 6 2 (Some 4)
      ∷ Numbers 8 4 None
      ∷ Does second_events
      ∷ Fields (pos 93 ∷ pos 111 ∷ pos 104 ∷ [])
      ∷ Images 0 (pos 90 ∷ [])
      ∷ Images 1 (pos 110 ∷ [])
      ∷ Images 2 (pos 104 ∷ [])
      ∷ Numbers 5 3 None
      ∷ Numbers 6 2 None
      ∷ Numbers 8 4 None
      ∷ Does third_events
      ∷ Fields (pos 70 ∷ pos 124 ∷ pos 124 ∷ [])
      ∷ Images 0 (pos 90 ∷ [])
      ∷ Images 1 (pos 110 ∷ pos 118 ∷ [])
      ∷ Images 2 (pos 104 ∷ [])
      ∷ Numbers 14 6 None
      ∷ Numbers 15 7 None
      ∷ Numbers 16 7 None
      ∷ Does last_events
      ∷ Ends
      ∷ Cascades (taken 3 5 4 1 9 ∷ [])
      ∷ Records 0 (BatchInfo 2 (1 ∷ 2 ∷ []) (3 ∷ []) ∷ BatchComplete 2 2 (holding (pos 104)) ∷ BatchInfo 4 (0 ∷ 2 ∷ []) (7 ∷ [])
      ∷ BatchComplete 1 0 (holding (pos 90)) ∷ BatchComplete 3 0 (holding (pos 90)) ∷ BatchDone 2 (pos 104 ∷ []) ∷ ActPrepare 5 0 (holding (pos 93))
      ∷ BatchInfo 6 (0 ∷ 2 ∷ []) (12 ∷ []) ∷ BatchComplete 6 2 (holding (pos 124)) ∷ BatchComplete 6 0 (holding (pos 70)) ∷ BatchDone 6 (pos 124 ∷ [])
      ∷ ActDone 16 7 3 (pos 124) (1 ∷ []) ∷ ActPrepare 15 0 (holding (pos 72)) ∷ [])
      ∷ Records 1 (BatchInfo 1 (0 ∷ 1 ∷ []) (1 ∷ []) ∷ BatchInfo 3 (0 ∷ 1 ∷ []) (4 ∷ []) ∷ BatchComplete 1 1 (holding (pos 110))
      ∷ BatchComplete 2 1 (holding (pos 110)) ∷ BatchComplete 3 1 (holding (pos 111)) ∷ BatchDone 1 (pos 110 ∷ [])
      ∷ BatchInfo 5 (0 ∷ 2 ∷ []) (10 ∷ 11 ∷ []) ∷ BatchInfo 7 (1 ∷ []) (13 ∷ []) ∷ BatchComplete 7 1 (holding (pos 118))
      ∷ ActPrepare 16 1 (holding (pos 124)) ∷ BatchDone 7 (pos 118 ∷ []) ∷ ActPrepare 15 1 (holding (pos 122)) ∷ ActDone 15 7 4 (pos 72) (0 ∷ 1 ∷ []) ∷ [])
      ∷ Floor 0 7
      ∷ Floor 1 7
      ∷ Floor 2 2
      ∷ Last 0 6
      ∷ Last 1 7
      ∷ Last 2 6
      ∷ Verdicts (committed 1 0 1 (pos 110) ∷ Some (out_of_order 4 2 2) ∷ cascaded 3 4 ∷ committed 2 0 3 (pos 104) ∷ batch_coded 3 1 9
      ∷ cascaded 3 4 ∷ coded 2 1 1 7 ∷ cascaded 3 4 ∷ coded 6 1 2 9 ∷ cascaded 3 4 ∷ committed 7 1 4 (pos 72) ∷ Some (died 2 8 9)
      ∷ committed 7 0 13 (pos 118) ∷ cascaded 3 4 ∷ committed 7 1 3 (pos 124) ∷ committed 6 0 12 (pos 124) ∷ [])
      ∷ Fields (pos 72 ∷ pos 122 ∷ pos 124 ∷ [])
      ∷ [];
}
