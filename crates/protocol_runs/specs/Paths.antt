-- Worked runs over several logs and coordinators, behind earlier runs, and through cascades.
use Rattle.std.specs.Prelude.{pos, None, List, [], ◌∷◌}
use Rattle.protocol.specs.Records.{BatchInfo, BatchComplete, BatchDone, ActPrepare, ActDone}
use Rattle.protocol.specs.Events.{Submit, Pass, Form, Admit, Arrive, Ask, Take, Run, Send, End, Close, Complete, Sync, Note, Commit, Abort, Rollback, DropSub, DropControl, Finish}
use Rattle.protocol_runs.specs.ExampleCode.{holding}
use Rattle.protocol_runs.specs.Examples.{text, on_logs, numbered_from, two_actors, three_actors, put, move, bad, act_put, act_move, committed, batch_coded, cascaded, taken}
use Rattle.protocol_runs.specs.Lines.{Worked, Does, Refuses, Ends, Field, Fields, Images, Floor, Last, Numbers, Results, Cascades, Records, Verdicts}

-- A transfer over two logs: actor 0 writes to log 0, actor 1 and batch 1 to log 1.
abbrev pub on_two_logs : Worked
on_two_logs = record {
  work = on_logs 2 (text 1 16 two_actors (move 0 1 (pos 30) (0 ∷ 1 ∷ []) ∷ []));
  lines =
      Ends
      ∷ Records 0 (BatchComplete 1 0 (holding (pos 70)) ∷ [])
      ∷ Records 1 (BatchInfo 1 (0 ∷ 1 ∷ []) (1 ∷ []) ∷ BatchComplete 1 1 (holding (pos 80)) ∷ BatchDone 1 (pos 80 ∷ []) ∷ [])
      ∷ Verdicts (committed 1 0 1 (pos 80) ∷ [])
      ∷ Fields (pos 70 ∷ pos 80 ∷ [])
      ∷ [];
}

-- Four logs, and earlier runs that ended with batch 10: ACT 6 stands behind that one. Its actors write to the logs 0
-- and 1, its commit record is in log 2, and batch 11 is in log 3.
abbrev pub above_earlier_runs : Worked
above_earlier_runs = record {
  work = numbered_from 6 11 4 (on_logs 4 (text 1 16 two_actors (act_move 0 1 (pos 30) ∷ put 0 (pos 5) (0 ∷ []) ∷ [])));
  lines =
      Does (Submit 0 ∷ Submit 1 ∷ Admit 6 ∷ [])
      ∷ Numbers 6 10 None
      ∷ Does (Ask 6 0 ∷ [])
      ∷ Floor 0 10
      ∷ Last 1 10
      ∷ Numbers 6 10 None
      ∷ Refuses (Form 1) 1
      ∷ Refuses (Admit 1) 1
      ∷ Ends
      ∷ Records 0 (ActPrepare 6 0 (holding (pos 70)) ∷ BatchComplete 11 0 (holding (pos 75)) ∷ [])
      ∷ Records 1 (ActPrepare 6 1 (holding (pos 80)) ∷ [])
      ∷ Records 2 (ActDone 6 10 4 (pos 80) (0 ∷ 1 ∷ []) ∷ [])
      ∷ Records 3 (BatchInfo 11 (0 ∷ []) (7 ∷ []) ∷ BatchDone 11 (pos 75 ∷ []) ∷ [])
      ∷ Floor 0 10
      ∷ Floor 1 10
      ∷ Last 0 11
      ∷ Verdicts (committed 10 1 4 (pos 80) ∷ committed 11 0 7 (pos 75) ∷ [])
      ∷ Fields (pos 75 ∷ pos 80 ∷ [])
      ∷ [];
}

-- PACTs wait at one coordinator and ACTs at the other. Only who has the token draws numbers, and the token goes on
-- once that one's queues are empty.
abbrev pub from_two_coordinators : Worked
from_two_coordinators = record {
  work = text 2 1 two_actors (
      put 0 (pos 1) (0 ∷ [])
      ∷ act_put 1 (pos 7)
      ∷ put 1 (pos 2) (1 ∷ [])
      ∷ act_put 0 (pos 8)
      ∷ []);
  lines =
      Refuses (Pass 1) 3
      ∷ Does (Submit 0 ∷ Submit 1 ∷ Submit 2 ∷ Submit 3 ∷ [])
      ∷ Refuses (Submit 4) 1
      ∷ Refuses (Pass 1) 2
      ∷ Refuses (Pass 0) 1
      ∷ Refuses (Admit 1) 2
      ∷ Does (Form 1 ∷ [])
      ∷ Refuses (Form 1) 1
      ∷ Does (Form 2 ∷ Pass 1 ∷ [])
      ∷ Refuses (Form 3) 2
      ∷ Does (Admit 3 ∷ Admit 4 ∷ [])
      ∷ Refuses (Pass 0) 3
      ∷ Refuses (Pass 1) 1
      ∷ Ends
      ∷ Verdicts (committed 1 0 1 (pos 101) ∷ committed 2 1 1 (pos 59) ∷ committed 2 0 2 (pos 52) ∷ committed 1 1 2 (pos 109) ∷ [])
      ∷ Fields (pos 109 ∷ pos 59 ∷ [])
      ∷ [];
}

-- Three batches fail, one after the other, and take along what is formed behind them. Actor 1, which has not rolled
-- back when the second one fails, rolls back once for two.
abbrev pub three_cascades : Worked
three_cascades = record {
  work = text 1 1 two_actors (
      bad 0 (0 ∷ [])
      ∷ put 1 (pos 1) (0 ∷ 1 ∷ [])
      ∷ bad 0 (0 ∷ [])
      ∷ put 0 (pos 2) (0 ∷ 1 ∷ [])
      ∷ act_put 1 (pos 7)
      ∷ bad 1 (1 ∷ [])
      ∷ put 1 (pos 5) (1 ∷ [])
      ∷ []);
  lines =
      Does (Submit 0 ∷ Submit 1 ∷ Submit 2 ∷ Submit 3 ∷ Submit 4 ∷ Submit 5 ∷ Submit 6 ∷ Form 1 ∷ Form 2 ∷ Arrive 2 1 ∷ Take 2 1 ∷ Run 2 1
      ∷ End 2 1 ∷ Admit 3 ∷ [])
      ∷ Does (Ask 3 1 ∷ Arrive 1 0 ∷ Take 1 0 ∷ Run 1 0 ∷ End 1 0 ∷ Abort 1 ∷ [])
      ∷ Verdicts (batch_coded 1 1 9 ∷ cascaded 1 0 ∷ None ∷ None ∷ cascaded 1 0 ∷ None ∷ None ∷ [])
      ∷ Cascades (taken 1 2 0 1 9 ∷ [])
      ∷ Refuses (Arrive 2 0) 2
      ∷ Does (DropSub 2 0 ∷ Rollback 0 ∷ Form 3 ∷ Arrive 3 0 ∷ Take 4 0 ∷ Run 4 0 ∷ Form 4 ∷ End 4 0 ∷ Abort 3 ∷ [])
      ∷ Cascades (taken 1 2 0 1 9 ∷ taken 3 4 2 1 9 ∷ [])
      ∷ Refuses (Arrive 4 1) 2
      ∷ Last 1 2
      ∷ Field 1 (pos 51)
      ∷ Does (Rollback 1 ∷ [])
      ∷ Last 1 0
      ∷ Field 1 (pos 50)
      ∷ Refuses (Rollback 1) 1
      ∷ Does (Form 5 ∷ Arrive 5 1 ∷ Take 6 1 ∷ Run 6 1 ∷ End 6 1 ∷ Abort 5 ∷ [])
      ∷ Cascades (taken 1 2 0 1 9 ∷ taken 3 4 2 1 9 ∷ taken 5 5 5 1 9 ∷ [])
      ∷ Ends
      ∷ Verdicts (batch_coded 1 1 9 ∷ cascaded 1 0 ∷ batch_coded 3 1 9 ∷ cascaded 3 2 ∷ cascaded 1 0 ∷ batch_coded 5 1 9 ∷ committed 6 0 7 (pos 55) ∷ [])
      ∷ Fields (pos 100 ∷ pos 55 ∷ [])
      ∷ [];
}

-- Two batches and an ACT ran on actor 0 when the first one fails on actor 1. The state before all three comes back,
-- and the ACT is finished on an actor on which it has no entry any more.
abbrev pub rollback_over_two_batches : Worked
rollback_over_two_batches = record {
  work = text 1 16 two_actors (
      put 0 (pos 1) (0 ∷ [])
      ∷ bad 1 (1 ∷ [])
      ∷ put 0 (pos 2) (0 ∷ [])
      ∷ act_put 0 (pos 7)
      ∷ []);
  lines =
      Does (Submit 0 ∷ Submit 1 ∷ Form 1 ∷ Submit 2 ∷ Form 2 ∷ Submit 3 ∷ Admit 4 ∷ Arrive 1 0 ∷ Arrive 1 1 ∷ Arrive 2 0 ∷ Ask 4 0 ∷ Take 1 0
      ∷ Run 1 0 ∷ End 1 0 ∷ [])
      ∷ Refuses (Take 4 0) 1
      ∷ Does (Take 3 0 ∷ [])
      ∷ Refuses (Run 3 0) 2
      ∷ Does (Complete 1 0 ∷ Run 3 0 ∷ End 3 0 ∷ [])
      ∷ Refuses (Run 4 0) 2
      ∷ Does (Complete 2 0 ∷ Run 4 0 ∷ [])
      ∷ Field 0 (pos 110)
      ∷ Images 0 (pos 100 ∷ pos 101 ∷ pos 103 ∷ [])
      ∷ Last 0 2
      ∷ Does (Take 2 1 ∷ Run 2 1 ∷ End 2 1 ∷ [])
      ∷ Refuses (Abort 2) 1
      ∷ Does (Abort 1 ∷ Rollback 0 ∷ [])
      ∷ Field 0 (pos 100)
      ∷ Images 0 []
      ∷ Last 0 0
      ∷ Refuses (End 4 0) 1
      ∷ Does (Finish 4 0 ∷ [])
      ∷ Field 0 (pos 100)
      ∷ Refuses (Finish 4 0) 2
      ∷ Ends
      ∷ Verdicts (cascaded 1 1 ∷ batch_coded 1 1 9 ∷ cascaded 1 1 ∷ cascaded 1 1 ∷ [])
      ∷ Fields (pos 100 ∷ pos 50 ∷ [])
      ∷ [];
}

-- A PACT leaves a declared actor alone. Whoever comes behind it there waits for its Close, which waits for its
-- result.
abbrev pub closing_late : Worked
closing_late = record {
  work = text 1 16 two_actors (put 0 (pos 5) (0 ∷ 1 ∷ []) ∷ put 1 (pos 3) (1 ∷ []) ∷ []);
  lines =
      Does (Submit 0 ∷ Submit 1 ∷ Form 1 ∷ Arrive 1 0 ∷ Arrive 1 1 ∷ Take 1 0 ∷ Take 2 1 ∷ Run 1 0 ∷ [])
      ∷ Refuses (Close 1 1) 1
      ∷ Refuses (Run 2 1) 3
      ∷ Does (End 1 0 ∷ [])
      ∷ Refuses (Close 1 0) 2
      ∷ Refuses (Run 2 1) 3
      ∷ Refuses (Complete 1 1) 3
      ∷ Does (Close 1 1 ∷ [])
      ∷ Refuses (Close 1 1) 2
      ∷ Does (Run 2 1 ∷ End 2 1 ∷ Complete 1 1 ∷ [])
      ∷ Ends
      ∷ Verdicts (committed 1 0 1 (pos 105) ∷ committed 1 0 2 (pos 53) ∷ [])
      ∷ Fields (pos 105 ∷ pos 53 ∷ [])
      ∷ [];
}

-- Batch 1 fails and takes batch 2 along. Controls of batch 2 run on, and pass the post, until their actors roll back,
-- and no result of theirs is noted.
abbrev pub running_while_aborted : Worked
running_while_aborted = record {
  work = text 1 16 three_actors (bad 0 (0 ∷ []) ∷ move 1 2 (pos 5) (1 ∷ 2 ∷ []) ∷ put 2 (pos 4) (2 ∷ []) ∷ []);
  lines =
      Does (Submit 0 ∷ Form 1 ∷ Submit 1 ∷ Submit 2 ∷ Form 2 ∷ Arrive 1 0 ∷ Arrive 2 1 ∷ Arrive 2 2 ∷ Take 1 0 ∷ Take 2 1 ∷ Take 3 2 ∷ Run 1 0
      ∷ End 1 0 ∷ Abort 1 ∷ [])
      ∷ Does (Run 2 1 ∷ Send 2 1 ∷ Take 2 2 ∷ Run 2 2 ∷ Run 3 2 ∷ [])
      ∷ Fields (pos 101 ∷ pos 95 ∷ pos 109 ∷ [])
      ∷ Images 2 (pos 100 ∷ [])
      ∷ Does (End 3 2 ∷ [])
      ∷ Results 2 (None ∷ None ∷ [])
      ∷ Refuses (Complete 2 1) 3
      ∷ Does (Complete 2 2 ∷ Sync 0 ∷ [])
      ∷ Refuses (Note 2 2) 1
      ∷ Does (Send 2 2 ∷ [])
      ∷ Refuses (DropSub 2 1) 1
      ∷ Does (DropControl 2 ∷ [])
      ∷ Refuses (Commit 2) 1
      ∷ Does (Rollback 1 ∷ Rollback 2 ∷ [])
      ∷ Fields (pos 101 ∷ pos 100 ∷ pos 100 ∷ [])
      ∷ Last 2 0
      ∷ Ends
      ∷ Verdicts (batch_coded 1 1 9 ∷ cascaded 1 0 ∷ cascaded 1 0 ∷ [])
      ∷ Fields (pos 100 ∷ pos 100 ∷ pos 100 ∷ [])
      ∷ [];
}

-- all of them
abbrev pub paths : List Worked
paths =
    on_two_logs
    ∷ above_earlier_runs
    ∷ from_two_coordinators
    ∷ three_cascades
    ∷ rollback_over_two_batches
    ∷ closing_late
    ∷ running_while_aborted
    ∷ []
