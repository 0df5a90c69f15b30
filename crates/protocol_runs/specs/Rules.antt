-- Worked runs of single rules: who changes the rule is refused by the run.
use Rattle.std.specs.Prelude.{pos, None, Some, List, [], ◌∷◌}
use Rattle.snap_base.specs.declared.transactions.TxResult.TheVariants.{Fail}
use Rattle.protocol.specs.Records.{ActPrepare, ActDone}
use Rattle.protocol.specs.Events.{Submit, Form, Admit, Arrive, Ask, Take, Run, Send, End, Close, Complete, Sync, Note, Commit, Settle, Abort, Rollback, Prepare, Vouch, Decide, Seal, Finish, Trim}
use Rattle.protocol.specs.Verdicts.{died, out_of_order}
use Rattle.protocol_runs.specs.ExampleCode.{holding}
use Rattle.protocol_runs.specs.Examples.{text, on_logs, at_most, two_actors, three_actors, put, move, bad, act_put, act_move, act_bad, act_peek, committed, coded, batch_coded, cascaded, taken}
use Rattle.protocol_runs.specs.Lines.{Worked, Does, Refuses, Ends, Field, Fields, Images, Floor, ReadFloor, Last, Numbers, Results, Cascades, Records, Verdicts}

-- An ACT that failed by its own code has its place all the same: the actor's floor rises to its before number.
abbrev pub floor_of_a_failure : Worked
floor_of_a_failure = record {
  work = text 1 16 two_actors (put 0 (pos 1) (0 ∷ []) ∷ act_move 0 1 (pos 300) ∷ []);
  lines =
      Does (Submit 0 ∷ Form 1 ∷ Arrive 1 0 ∷ Take 1 0 ∷ Run 1 0 ∷ End 1 0 ∷ Complete 1 0 ∷ Submit 1 ∷ Admit 2 ∷ Ask 2 0 ∷ Run 2 0 ∷ End 2 0 ∷ [])
      ∷ Numbers 2 1 None
      ∷ Refuses (Decide 2) 3
      ∷ Does (Sync 0 ∷ Note 1 0 ∷ Commit 1 ∷ Sync 0 ∷ Settle 1 ∷ Decide 2 ∷ [])
      ∷ Floor 0 0
      ∷ Does (Finish 2 0 ∷ [])
      ∷ Floor 0 1
      ∷ Ends
      ∷ Verdicts (committed 1 0 1 (pos 101) ∷ coded 1 1 1 7 ∷ [])
      ∷ Fields (pos 101 ∷ pos 50 ∷ [])
      ∷ [];
}

-- A rollback remembers the batch that was trimmed: the next ACT stands behind it.
abbrev pub trimmed_before_a_rollback : Worked
trimmed_before_a_rollback = record {
  work = text 1 1 two_actors (put 0 (pos 1) (0 ∷ []) ∷ bad 0 (0 ∷ []) ∷ act_put 0 (pos 7) ∷ []);
  lines =
      Does (Submit 0 ∷ Submit 1 ∷ Submit 2 ∷ Form 1 ∷ Arrive 1 0 ∷ Take 1 0 ∷ Run 1 0 ∷ End 1 0 ∷ Complete 1 0 ∷ Sync 0 ∷ Note 1 0 ∷ Commit 1
      ∷ Sync 0 ∷ Settle 1 ∷ Trim 1 0 ∷ [])
      ∷ Does (Form 2 ∷ Arrive 2 0 ∷ Take 2 0 ∷ Run 2 0 ∷ End 2 0 ∷ [])
      ∷ Last 0 2
      ∷ Field 0 (pos 102)
      ∷ Does (Abort 2 ∷ Rollback 0 ∷ [])
      ∷ Last 0 1
      ∷ Field 0 (pos 101)
      ∷ Does (Admit 3 ∷ Ask 3 0 ∷ [])
      ∷ Numbers 3 1 None
      ∷ Ends
      ∷ Verdicts (committed 1 0 1 (pos 101) ∷ batch_coded 2 1 9 ∷ committed 1 1 1 (pos 108) ∷ [])
      ∷ Fields (pos 108 ∷ pos 50 ∷ [])
      ∷ [];
}

-- A record counts from its Sync on: BatchComplete, BatchInfo, BatchDone, ActPrepare and ActDone.
abbrev pub durable_or_not : Worked
durable_or_not = record {
  work = on_logs 2 (text 1 16 two_actors (put 0 (pos 1) (0 ∷ []) ∷ act_put 1 (pos 7) ∷ []));
  lines =
      Does (Submit 0 ∷ Submit 1 ∷ Form 1 ∷ Arrive 1 0 ∷ Take 1 0 ∷ Run 1 0 ∷ End 1 0 ∷ Complete 1 0 ∷ [])
      ∷ Refuses (Note 1 0) 2
      ∷ Does (Sync 0 ∷ Note 1 0 ∷ [])
      ∷ Refuses (Commit 1) 4
      ∷ Does (Sync 1 ∷ Commit 1 ∷ [])
      ∷ Refuses (Settle 1) 2
      ∷ Does (Sync 1 ∷ Settle 1 ∷ [])
      ∷ Does (Admit 2 ∷ Ask 2 1 ∷ Run 2 1 ∷ End 2 1 ∷ Prepare 2 1 ∷ [])
      ∷ Refuses (Vouch 2 1) 2
      ∷ Does (Sync 1 ∷ Vouch 2 1 ∷ Decide 2 ∷ [])
      ∷ Refuses (Seal 2) 2
      ∷ Does (Sync 0 ∷ Seal 2 ∷ [])
      ∷ Refuses (Sync 0) 1
      ∷ Ends
      ∷ Verdicts (committed 1 0 1 (pos 101) ∷ committed 0 1 1 (pos 57) ∷ [])
      ∷ [];
}

-- An actor that has not rolled back yet takes neither an ACT nor a batch.
abbrev pub asking_in_a_stale_cell : Worked
asking_in_a_stale_cell = record {
  work = text 1 1 two_actors (bad 0 (0 ∷ 1 ∷ []) ∷ act_put 1 (pos 7) ∷ put 1 (pos 3) (1 ∷ []) ∷ []);
  lines =
      Does (Submit 0 ∷ Submit 1 ∷ Submit 2 ∷ Form 1 ∷ Arrive 1 0 ∷ Arrive 1 1 ∷ Take 1 0 ∷ Run 1 0 ∷ End 1 0 ∷ Abort 1 ∷ Admit 2 ∷ Form 2 ∷ [])
      ∷ Refuses (Ask 2 1) 4
      ∷ Refuses (Arrive 2 1) 3
      ∷ Does (Rollback 1 ∷ [])
      ∷ Refuses (Rollback 1) 1
      ∷ Does (Ask 2 1 ∷ Arrive 2 1 ∷ [])
      ∷ Numbers 2 0 (Some 2)
      ∷ Ends
      ∷ Verdicts (batch_coded 1 1 9 ∷ committed 0 1 1 (pos 57) ∷ committed 2 0 3 (pos 60) ∷ [])
      ∷ Fields (pos 100 ∷ pos 60 ∷ [])
      ∷ [];
}

-- The PACT with the greater tid fails first in time. The batch waits for the smaller one, which is blamed.
abbrev pub the_smaller_tid_is_blamed : Worked
the_smaller_tid_is_blamed = record {
  work = text 1 16 two_actors (bad 0 (0 ∷ []) ∷ bad 1 (1 ∷ []) ∷ []);
  lines =
      Does (Submit 0 ∷ Submit 1 ∷ Form 1 ∷ Arrive 1 0 ∷ Arrive 1 1 ∷ Take 1 0 ∷ Take 2 1 ∷ Run 2 1 ∷ End 2 1 ∷ [])
      ∷ Results 1 (None ∷ Some (Fail 9) ∷ [])
      ∷ Refuses (Abort 1) 2
      ∷ Does (Run 1 0 ∷ End 1 0 ∷ [])
      ∷ Results 1 (Some (Fail 9) ∷ Some (Fail 9) ∷ [])
      ∷ Refuses (Commit 1) 2
      ∷ Does (Abort 1 ∷ [])
      ∷ Cascades (taken 1 1 0 1 9 ∷ [])
      ∷ Ends
      ∷ Verdicts (batch_coded 1 1 9 ∷ cascaded 1 0 ∷ [])
      ∷ [];
}

-- An ACT that joins actor 1 before actor 0: its commit record names them in ascending order.
abbrev pub actors_of_a_commit : Worked
actors_of_a_commit = record {
  work = text 1 16 two_actors (act_move 1 0 (pos 5) ∷ []);
  lines =
      Does (Submit 0 ∷ Admit 1 ∷ Ask 1 1 ∷ Run 1 1 ∷ Send 1 1 ∷ Ask 1 0 ∷ Run 1 0 ∷ Send 1 0 ∷ Take 1 1 ∷ Run 1 1 ∷ End 1 1 ∷ Prepare 1 0
      ∷ Prepare 1 1 ∷ Sync 0 ∷ Vouch 1 0 ∷ [])
      ∷ Refuses (Decide 1) 2
      ∷ Does (Vouch 1 1 ∷ Decide 1 ∷ [])
      ∷ Records 0 (ActPrepare 1 0 (holding (pos 105)) ∷ ActPrepare 1 1 (holding (pos 45)) ∷ ActDone 1 0 1 (pos 105) (0 ∷ 1 ∷ []) ∷ [])
      ∷ Ends
      ∷ Verdicts (committed 0 1 1 (pos 105) ∷ [])
      ∷ Fields (pos 105 ∷ pos 45 ∷ [])
      ∷ [];
}

-- Two batches arrive behind an ACT. Its after number is the first of them, and stays so.
abbrev pub the_least_batch_behind : Worked
the_least_batch_behind = record {
  work = text 1 1 two_actors (act_move 0 1 (pos 3) ∷ put 0 (pos 1) (0 ∷ []) ∷ put 0 (pos 2) (0 ∷ []) ∷ []);
  lines =
      Does (Submit 0 ∷ Submit 1 ∷ Submit 2 ∷ Admit 1 ∷ Ask 1 0 ∷ [])
      ∷ Numbers 1 0 None
      ∷ Does (Form 1 ∷ Form 2 ∷ Arrive 1 0 ∷ [])
      ∷ Numbers 1 0 (Some 1)
      ∷ Does (Arrive 2 0 ∷ [])
      ∷ Numbers 1 0 (Some 1)
      ∷ Ends
      ∷ Verdicts (committed 0 1 1 (pos 53) ∷ committed 1 0 2 (pos 98) ∷ committed 2 0 3 (pos 100) ∷ [])
      ∷ Fields (pos 100 ∷ pos 53 ∷ [])
      ∷ [];
}

-- An ACT adds 1 and fails. It keeps nothing, can't be prepared, and the actor has its old state back.
abbrev pub failing_after_a_change : Worked
failing_after_a_change = record {
  work = text 1 16 two_actors (act_bad 0 ∷ put 0 (pos 5) (0 ∷ []) ∷ []);
  lines =
      Does (Submit 0 ∷ Submit 1 ∷ Admit 1 ∷ Ask 1 0 ∷ [])
      ∷ Refuses (Prepare 1 0) 1
      ∷ Does (Run 1 0 ∷ [])
      ∷ Field 0 (pos 101)
      ∷ Images 0 (pos 100 ∷ [])
      ∷ Does (End 1 0 ∷ [])
      ∷ Refuses (Prepare 1 0) 1
      ∷ Does (Decide 1 ∷ Form 1 ∷ Arrive 1 0 ∷ Take 2 0 ∷ [])
      ∷ Refuses (Run 2 0) 2
      ∷ Field 0 (pos 101)
      ∷ Does (Finish 1 0 ∷ [])
      ∷ Field 0 (pos 100)
      ∷ Images 0 []
      ∷ Ends
      ∷ Verdicts (coded 0 1 1 9 ∷ committed 1 0 2 (pos 105) ∷ [])
      ∷ Fields (pos 105 ∷ pos 50 ∷ [])
      ∷ [];
}

-- A transaction that comes back to an actor keeps the image of its first run there.
abbrev pub one_image_an_entry : Worked
one_image_an_entry = record {
  work = text 1 16 two_actors (move 0 1 (pos 30) (0 ∷ 1 ∷ []) ∷ []);
  lines =
      Does (Submit 0 ∷ Form 1 ∷ Arrive 1 0 ∷ Arrive 1 1 ∷ Take 1 0 ∷ Run 1 0 ∷ [])
      ∷ Images 0 (pos 100 ∷ [])
      ∷ Does (Send 1 0 ∷ Take 1 1 ∷ Run 1 1 ∷ [])
      ∷ Images 1 (pos 50 ∷ [])
      ∷ Does (Send 1 1 ∷ Take 1 0 ∷ Run 1 0 ∷ [])
      ∷ Images 0 (pos 100 ∷ [])
      ∷ Field 0 (pos 70)
      ∷ Ends
      ∷ Images 0 []
      ∷ Images 1 []
      ∷ Verdicts (committed 1 0 1 (pos 80) ∷ [])
      ∷ [];
}

-- An ACT is live until it is finished on all its actors, and not only until it is decided or sealed.
abbrev pub live_until_finished : Worked
live_until_finished = record {
  work = at_most 8 1 (text 1 16 two_actors (act_put 0 (pos 7) ∷ act_put 1 (pos 7) ∷ []));
  lines =
      Does (Submit 0 ∷ Submit 1 ∷ Admit 1 ∷ [])
      ∷ Refuses (Admit 2) 3
      ∷ Does (Ask 1 0 ∷ Run 1 0 ∷ End 1 0 ∷ Prepare 1 0 ∷ Sync 0 ∷ Vouch 1 0 ∷ Decide 1 ∷ [])
      ∷ Refuses (Admit 2) 3
      ∷ Does (Sync 0 ∷ Seal 1 ∷ [])
      ∷ Refuses (Admit 2) 3
      ∷ Does (Finish 1 0 ∷ Admit 2 ∷ [])
      ∷ Ends
      ∷ Verdicts (committed 0 1 1 (pos 107) ∷ committed 0 1 2 (pos 57) ∷ [])
      ∷ [];
}

-- An ACT that died at its first actor has none, and makes room at once.
abbrev pub dead_before_any_actor : Worked
dead_before_any_actor = record {
  work = at_most 8 2 (text 1 16 two_actors (act_put 0 (pos 7) ∷ act_put 0 (pos 8) ∷ act_put 1 (pos 9) ∷ []));
  lines =
      Does (Submit 0 ∷ Submit 1 ∷ Submit 2 ∷ Admit 1 ∷ Admit 2 ∷ Ask 1 0 ∷ [])
      ∷ Refuses (Admit 3) 3
      ∷ Does (Ask 2 0 ∷ Admit 3 ∷ [])
      ∷ Refuses (Finish 2 0) 2
      ∷ Ends
      ∷ Verdicts (committed 0 1 1 (pos 107) ∷ Some (died 0 1 2) ∷ committed 0 1 2 (pos 59) ∷ [])
      ∷ Fields (pos 107 ∷ pos 59 ∷ [])
      ∷ [];
}

-- A batch is live until it is trimmed on all its actors.
abbrev pub live_until_trimmed : Worked
live_until_trimmed = record {
  work = at_most 1 8 (text 1 1 two_actors (put 0 (pos 1) (0 ∷ 1 ∷ []) ∷ put 0 (pos 2) (0 ∷ []) ∷ []));
  lines =
      Does (Submit 0 ∷ Submit 1 ∷ Form 1 ∷ [])
      ∷ Refuses (Form 2) 3
      ∷ Does (Arrive 1 0 ∷ Arrive 1 1 ∷ Take 1 0 ∷ Run 1 0 ∷ End 1 0 ∷ Close 1 1 ∷ Complete 1 0 ∷ Complete 1 1 ∷ Sync 0 ∷ Note 1 0 ∷ Note 1 1
      ∷ Commit 1 ∷ Sync 0 ∷ Settle 1 ∷ Trim 1 0 ∷ [])
      ∷ Refuses (Form 2) 3
      ∷ Does (Trim 1 1 ∷ Form 2 ∷ [])
      ∷ Ends
      ∷ Verdicts (committed 1 0 1 (pos 101) ∷ committed 2 0 2 (pos 103) ∷ [])
      ∷ [];
}

-- Two ACTs that only read stand on an actor together, and the one behind may run first.
abbrev pub readers_together : Worked
readers_together = record {
  work = text 1 16 (pos 100 ∷ []) (act_peek 0 ∷ act_peek 0 ∷ []);
  lines =
      Does (Submit 0 ∷ Submit 1 ∷ Admit 1 ∷ Admit 2 ∷ Ask 2 0 ∷ Ask 1 0 ∷ Run 1 0 ∷ Run 2 0 ∷ [])
      ∷ Images 0 []
      ∷ Ends
      ∷ Verdicts (committed 0 1 1 (pos 100) ∷ committed 0 1 2 (pos 100) ∷ [])
      ∷ Fields (pos 100 ∷ [])
      ∷ [];
}

-- A writer dies of an older reader.
abbrev pub a_writer_dies : Worked
a_writer_dies = record {
  work = text 1 16 (pos 100 ∷ []) (act_peek 0 ∷ act_put 0 (pos 5) ∷ []);
  lines =
      Does (Submit 0 ∷ Submit 1 ∷ Admit 1 ∷ Admit 2 ∷ Ask 1 0 ∷ Ask 2 0 ∷ [])
      ∷ Ends
      ∷ Verdicts (committed 0 1 1 (pos 100) ∷ Some (died 0 1 2) ∷ [])
      ∷ Fields (pos 100 ∷ [])
      ∷ [];
}

-- A writer waits for the reader ahead of it, and has its number behind the reader's.
abbrev pub a_writer_waits : Worked
a_writer_waits = record {
  work = text 1 16 (pos 100 ∷ []) (act_put 0 (pos 5) ∷ act_peek 0 ∷ []);
  lines =
      Does (Submit 0 ∷ Submit 1 ∷ Admit 1 ∷ Admit 2 ∷ Ask 2 0 ∷ Ask 1 0 ∷ [])
      ∷ Refuses (Run 1 0) 2
      ∷ Ends
      ∷ Verdicts (committed 0 1 2 (pos 105) ∷ committed 0 1 1 (pos 100) ∷ [])
      ∷ Fields (pos 105 ∷ [])
      ∷ [];
}

-- A reader that leaves sealed raises the read floor, and leaves the write floor as it was.
abbrev pub two_floors : Worked
two_floors = record {
  work = text 1 16 two_actors (put 0 (pos 1) (0 ∷ []) ∷ act_peek 0 ∷ act_peek 0 ∷ act_put 0 (pos 7) ∷ []);
  lines =
      Does (Submit 0 ∷ Form 1 ∷ Arrive 1 0 ∷ Take 1 0 ∷ Run 1 0 ∷ End 1 0 ∷ Complete 1 0 ∷ Submit 1 ∷ Admit 2 ∷ Ask 2 0 ∷ Run 2 0 ∷ End 2 0 ∷ [])
      ∷ Does (Sync 0 ∷ Note 1 0 ∷ Commit 1 ∷ Sync 0 ∷ Settle 1 ∷ [])
      ∷ Floor 0 0
      ∷ ReadFloor 0 0
      ∷ Ends
      ∷ Floor 0 0
      ∷ ReadFloor 0 1
      ∷ [];
}

-- A reader that left sealed has its place behind batch 1, which was never on actor 0. A writer that comes there later stands
-- behind it all the same, and a reader need not.
abbrev pub a_writer_behind_one_that_read : Worked
a_writer_behind_one_that_read = record {
  work = text 1 16 three_actors (put 1 (pos 1) (1 ∷ 2 ∷ []) ∷ act_peek 0 ∷ act_move 0 1 (pos 5) ∷ act_move 1 2 (pos 3) ∷ act_put 0 (pos 7) ∷ act_peek 0 ∷ []);
  lines =
      Does (Submit 0 ∷ Form 1 ∷ Submit 1 ∷ Admit 2 ∷ Submit 2 ∷ Admit 3 ∷ Submit 3 ∷ Admit 4 ∷ Ask 4 1 ∷ Ask 3 0 ∷ Run 3 0 ∷ Send 3 0 ∷ Ask 3 1
      ∷ Ask 2 0 ∷ Arrive 1 1 ∷ Arrive 1 2 ∷ Run 4 1 ∷ Send 4 1 ∷ Ask 4 2 ∷ [])
      ∷ Numbers 2 1 None
      ∷ Does (Finish 4 1 ∷ Finish 4 2 ∷ Finish 3 0 ∷ Finish 3 1 ∷ Run 2 0 ∷ End 2 0 ∷ Prepare 2 0 ∷ Sync 0 ∷ Vouch 2 0 ∷ Take 1 1 ∷ Run 1 1 ∷ End 1 1
      ∷ Close 1 2 ∷ Complete 1 1 ∷ Complete 1 2 ∷ Sync 0 ∷ Note 1 1 ∷ Note 1 2 ∷ Commit 1 ∷ Sync 0 ∷ Settle 1 ∷ Decide 2 ∷ Sync 0 ∷ Seal 2
      ∷ Finish 2 0 ∷ [])
      ∷ Last 0 0
      ∷ Floor 0 0
      ∷ ReadFloor 0 1
      ∷ Does (Submit 4 ∷ Admit 5 ∷ Submit 5 ∷ Admit 6 ∷ Ask 6 0 ∷ Ask 5 0 ∷ [])
      ∷ Numbers 6 0 None
      ∷ Numbers 5 1 None
      ∷ Ends
      ∷ Verdicts (committed 1 0 1 (pos 101) ∷ committed 1 1 1 (pos 100) ∷ Some (out_of_order 1 1 2) ∷ Some (out_of_order 1 1 2) ∷ committed 1 1 3 (pos 107) ∷ committed 0 1 2 (pos 100) ∷ [])
      ∷ Fields (pos 107 ∷ pos 101 ∷ pos 100 ∷ [])
      ∷ [];
}

-- all of them
abbrev pub rules : List Worked
rules =
    floor_of_a_failure
    ∷ trimmed_before_a_rollback
    ∷ durable_or_not
    ∷ asking_in_a_stale_cell
    ∷ the_smaller_tid_is_blamed
    ∷ actors_of_a_commit
    ∷ the_least_batch_behind
    ∷ failing_after_a_change
    ∷ one_image_an_entry
    ∷ live_until_finished
    ∷ dead_before_any_actor
    ∷ live_until_trimmed
    ∷ readers_together
    ∷ a_writer_dies
    ∷ a_writer_waits
    ∷ two_floors
    ∷ a_writer_behind_one_that_read
    ∷ []
