-- Worked runs: texts with scripts of events, and what comes out.
use Rattle.std.specs.Prelude.{◌≡◌, ℕ, ℤ, pos, Option, None, Some, List, [], ◌∷◌, ◌++◌, length, map}
use Rattle.snap_base.specs.declared.transactions.Tx.{Tx}
use Rattle.snap_base.specs.declared.verdicts.Verdict.{Verdict}
use Rattle.snap_base.specs.declared.verdicts.Verdict.TheVariants as verdicts
use Rattle.protocol.specs.Fixed.{Fixed}
use Rattle.protocol.specs.Parts.{Act, Cascade, Machine}
use Rattle.protocol.specs.Events.{Event, DropSub, DropControl, Prepare, Decide, Reply, Submit, Pass, Form, Admit, Arrive, Ask, Take, Run, Send, End, Close, Complete, Sync, Note, Commit, Settle, Abort, Rollback, Trim}
use Rattle.protocol.specs.Words.{below}
use Rattle.protocol.specs.Conditions.{refusal}
use Rattle.protocol.specs.Effects.{after}
use Rattle.protocol.specs.Verdicts.{verdict, place, died, out_of_order, taken_along}
use Rattle.protocol.specs.Runs.{reached, opening}
use Rattle.protocol.specs.Candidates.{first_allowed, goes_on}
use Rattle.protocol_runs.specs.ExampleCode.{Script, scripts, field, holding, pact, act}

-- one log, batches of at most so many, at most eight live batches and ACTs
abbrev pub text : ℕ → ℕ → List ℤ → List Tx → Fixed Script
text coordinators batch values txs = record {
  text = record {
    coordinators = coordinators;
    logs = 1;
    batch = batch;
    batches = 8;
    acts = 8;
    txs = txs;
    opening = record { states = map holding values; next_tid = 1; next_bid = 1; next_c = 1 };
  };
  code = scripts (length values);
}

-- the same on so many logs
abbrev pub on_logs : ℕ → Fixed Script → Fixed Script
on_logs n w = record w { text = record w.text { logs = n } }

-- with at most so many live batches and live ACTs
abbrev pub at_most : ℕ → ℕ → Fixed Script → Fixed Script
at_most batches acts w = record w { text = record w.text { batches = batches; acts = acts } }

-- behind earlier runs: the next tid, batch number and commit number
abbrev pub numbered_from : ℕ → ℕ → ℕ → Fixed Script → Fixed Script
numbered_from tid bid c w = record w { text = record w.text { opening = record { states = w.text.opening.states; next_tid = tid; next_bid = bid; next_c = c } } }

-- what each event of a list is answered: 0, or the rule that refuses it
abbrev pub answers : Fixed Script → List Event → Machine Script → List ℕ
answers w [] s = []
answers w (e ∷ es) s = refusal w e s ∷ answers w es (after w e s)

abbrev pub verdicts_of : Fixed Script → Machine Script → List (Option Verdict)
verdicts_of w s = map (λ n. verdict n s.book s.desk) (below (length w.text.txs))

abbrev pub fields : Machine Script → List ℤ
fields s = map (λ c. field c.state) s.cells

-- a script, and then the first allowed event until none is allowed
abbrev pub played : Fixed Script → List Event → List Event
played w script = script ++ goes_on 100 w (reached w script) (first_allowed w (reached w script))

-- No event of the script is refused. When all is played, no event is left to choose, the transactions have
-- these verdicts, and the actors these fields.
pub record Plays (w : Fixed Script) (script : List Event) (vs : List (Option Verdict)) (fs : List ℤ) : Type 0 where
  pub allowed : answers w script (opening w) ≡ map (λ e. 0) script
  pub ends : first_allowed w (reached w (played w script)) ≡ None
  pub verdicts : verdicts_of w (reached w (played w script)) ≡ vs
  pub fields : fields (reached w (played w script)) ≡ fs

-- ---- verdicts

abbrev pub committed : ℕ → ℕ → ℕ → ℤ → Option Verdict
committed k side order v = Some (verdicts.Committed (place k side order) v)

abbrev pub coded : ℕ → ℕ → ℕ → ℕ → Option Verdict
coded k side order code = Some (verdicts.Code (place k side order) code)

abbrev pub batch_coded : ℕ → ℕ → ℕ → Option Verdict
batch_coded k at code = Some (verdicts.BatchCode (record { 0 = k }) at code)

abbrev pub cascaded : ℕ → ℕ → Option Verdict
cascaded k by = Some (taken_along k by)

-- ---- transactions

abbrev pub put : ℕ → ℤ → List ℕ → Tx
put a n actors = pact a 0 (n ∷ []) actors

abbrev pub move : ℕ → ℕ → ℤ → List ℕ → Tx
move a to n actors = pact a 1 (pos to ∷ n ∷ []) actors

abbrev pub bad : ℕ → List ℕ → Tx
bad a actors = pact a 2 [] actors

abbrev pub act_put : ℕ → ℤ → Tx
act_put a n = act a 0 (n ∷ [])

abbrev pub act_move : ℕ → ℕ → ℤ → Tx
act_move a to n = act a 1 (pos to ∷ n ∷ [])

abbrev pub act_bad : ℕ → Tx
act_bad a = act a 2 []

-- it only reads
abbrev pub act_peek : ℕ → Tx
act_peek a = act a 3 []

-- ---- cascades

-- the batches from one to another were taken along by a transaction, which failed with this code; the next commit
-- number of an ACT was at
abbrev pub taken : ℕ → ℕ → ℕ → ℕ → ℕ → Cascade
taken first upto by at code = record { first = first; upto = upto; by = by; at = at; code = code }

-- ---- a transfer in one batch

abbrev pub two_actors : List ℤ
two_actors = pos 100 ∷ pos 50 ∷ []

abbrev pub three_actors : List ℤ
three_actors = pos 100 ∷ pos 100 ∷ pos 100 ∷ []

abbrev pub transfer : Fixed Script
transfer = text 1 16 two_actors (move 0 1 (pos 30) (0 ∷ 1 ∷ []) ∷ [])

abbrev pub transfer_events : List Event
transfer_events =
    Submit 0 ∷ Form 1 ∷ Arrive 1 0 ∷ Arrive 1 1 ∷ Take 1 0 ∷ Run 1 0 ∷ Send 1 0 ∷ Take 1 1 ∷ Run 1 1 ∷ Send 1 1 ∷ Take 1 0 ∷ Run 1 0
    ∷ End 1 0 ∷ Complete 1 0 ∷ Complete 1 1 ∷ Sync 0 ∷ Note 1 0 ∷ Note 1 1 ∷ Commit 1 ∷ Sync 0 ∷ Settle 1 ∷ Reply 0 ∷ Trim 1 0 ∷ Trim 1 1 ∷ []

-- a PACT that leaves a declared actor alone
abbrev pub unused_actor : Fixed Script
unused_actor = text 1 16 two_actors (put 0 (pos 5) (0 ∷ 1 ∷ []) ∷ [])

-- ---- two batches on one actor, and the second one's message comes first

abbrev pub two_batches : Fixed Script
two_batches = text 1 1 (pos 0 ∷ []) (put 0 (pos 1) (0 ∷ []) ∷ put 0 (pos 2) (0 ∷ []) ∷ [])

abbrev pub two_batches_formed : List Event
two_batches_formed = Submit 0 ∷ Submit 1 ∷ Form 1 ∷ Form 2 ∷ []

-- two batches on one actor, formed by two coordinators between which the token goes
abbrev pub two_coordinators : Fixed Script
two_coordinators = text 2 1 (pos 0 ∷ []) (put 0 (pos 1) (0 ∷ []) ∷ put 0 (pos 2) (0 ∷ []) ∷ [])

abbrev pub two_coordinators_formed : List Event
two_coordinators_formed = Submit 0 ∷ Submit 1 ∷ Form 1 ∷ Pass 1 ∷ Form 2 ∷ []

-- ---- ACTs

abbrev pub act_transfer : Fixed Script
act_transfer = text 1 16 two_actors (act_move 0 1 (pos 30) ∷ [])

-- it moves more than there is
abbrev pub act_fails : Fixed Script
act_fails = text 1 16 two_actors (act_move 0 1 (pos 300) ∷ [])

-- two ACTs want each the actor that the other has, and the younger one dies
abbrev pub younger_dies : Fixed Script
younger_dies = text 1 16 two_actors (act_move 0 1 (pos 10) ∷ act_move 1 0 (pos 5) ∷ [])

-- an ACT stands behind a batch on one actor and ahead of it on the other
abbrev pub doomed_by_order : Fixed Script
doomed_by_order = text 1 16 two_actors (act_move 0 1 (pos 30) ∷ move 0 1 (pos 5) (0 ∷ 1 ∷ []) ∷ [])

abbrev pub doomed_by_order_script : List Event
doomed_by_order_script = Submit 0 ∷ Admit 1 ∷ Ask 1 0 ∷ Submit 1 ∷ Form 1 ∷ Arrive 1 1 ∷ Run 1 0 ∷ Send 1 0 ∷ Ask 1 1 ∷ Arrive 1 0 ∷ []

-- an ACT stands behind another one, whose number rises above the first one's after number
abbrev pub rise_through_another : Fixed Script
rise_through_another = text 1 16 three_actors (act_move 2 1 (pos 10) ∷ act_move 1 0 (pos 5) ∷ move 0 2 (pos 20) (0 ∷ 2 ∷ []) ∷ [])

abbrev pub rise_through_another_script : List Event
rise_through_another_script =
    Submit 0 ∷ Submit 1 ∷ Submit 2 ∷ Admit 1 ∷ Admit 2 ∷ Ask 1 2 ∷ Ask 2 1 ∷ Form 1 ∷ Arrive 1 0 ∷ Arrive 1 2 ∷ Run 1 2 ∷ Send 1 2 ∷ Ask 1 1
    ∷ Run 2 1 ∷ Send 2 1 ∷ Ask 2 0 ∷ []

-- two ACTs behind two batches; the one that came with the smaller number takes the greater one over
abbrev pub number_taken_over : Fixed Script
number_taken_over = text 1 1 three_actors (put 1 (pos 1) (1 ∷ []) ∷ put 0 (pos 1) (0 ∷ []) ∷ act_move 1 2 (pos 10) ∷ act_move 0 2 (pos 10) ∷ [])

abbrev pub number_taken_over_script : List Event
number_taken_over_script =
    Submit 0 ∷ Submit 1 ∷ Submit 2 ∷ Submit 3 ∷ Form 1 ∷ Form 2 ∷ Admit 3 ∷ Admit 4 ∷ Arrive 1 1 ∷ Arrive 2 0 ∷ Ask 3 1 ∷ Ask 4 0 ∷ Take 1 1 ∷ Take 2 0
    ∷ Run 1 1 ∷ Run 2 0 ∷ End 1 1 ∷ End 2 0 ∷ Complete 2 0 ∷ Run 4 0 ∷ Send 4 0 ∷ Ask 4 2 ∷ []

-- ---- cascades

-- the second of three batches fails, and takes the third along and an ACT behind it
abbrev pub cascade : Fixed Script
cascade = text 1 1 three_actors (put 0 (pos 1) (0 ∷ []) ∷ bad 1 (1 ∷ []) ∷ put 2 (pos 1) (2 ∷ []) ∷ act_put 2 (pos 7) ∷ act_put 0 (pos 7) ∷ [])

-- an ACT ran behind an aborted batch that had not run on this actor
abbrev pub undo_behind_abort : Fixed Script
undo_behind_abort = text 1 16 two_actors (bad 0 (0 ∷ 1 ∷ []) ∷ act_put 1 (pos 7) ∷ [])

abbrev pub ran_behind_abort : List Event
ran_behind_abort = Submit 0 ∷ Submit 1 ∷ Form 1 ∷ Admit 2 ∷ Arrive 1 0 ∷ Arrive 1 1 ∷ Take 1 0 ∷ Run 1 0 ∷ End 1 0 ∷ Close 1 1 ∷ Complete 1 1 ∷ Ask 2 1 ∷ Run 2 1 ∷ []

abbrev pub undone_behind_abort : List Event
undone_behind_abort = ran_behind_abort ++ (Abort 1 ∷ Rollback 1 ∷ [])

-- two batches, of which the first fails before the second one has come anywhere
abbrev pub dropped : Fixed Script
dropped = text 1 1 two_actors (bad 0 (0 ∷ []) ∷ put 1 (pos 1) (1 ∷ []) ∷ [])

abbrev pub dropped_script : List Event
dropped_script = Submit 0 ∷ Submit 1 ∷ Form 1 ∷ Form 2 ∷ Arrive 1 0 ∷ Take 1 0 ∷ Run 1 0 ∷ End 1 0 ∷ Abort 1 ∷ DropSub 2 1 ∷ DropControl 2 ∷ Rollback 0 ∷ []

-- an ACT that ended
abbrev pub act_ended : List Event
act_ended = Submit 0 ∷ Admit 1 ∷ Ask 1 0 ∷ Run 1 0 ∷ Send 1 0 ∷ Ask 1 1 ∷ Run 1 1 ∷ Send 1 1 ∷ Take 1 0 ∷ Run 1 0 ∷ End 1 0 ∷ []

-- an after number is forgotten when its batch is aborted
abbrev pub number_forgotten : Fixed Script
number_forgotten = text 1 1 two_actors (act_move 0 1 (pos 3) ∷ bad 1 (0 ∷ 1 ∷ []) ∷ put 1 (pos 1) (1 ∷ []) ∷ [])

abbrev pub forgotten_script : List Event
forgotten_script =
    Submit 0 ∷ Submit 1 ∷ Submit 2 ∷ Admit 1 ∷ Ask 1 0 ∷ Form 1 ∷ Arrive 1 0 ∷ Arrive 1 1 ∷ Take 2 1 ∷ Run 2 1 ∷ End 2 1 ∷ Abort 1 ∷ Rollback 0 ∷ Rollback 1
    ∷ Form 2 ∷ Arrive 2 1 ∷ Run 1 0 ∷ Send 1 0 ∷ Ask 1 1 ∷ []

-- an ACT's two numbers
abbrev pub before_and_after : Act → ℕ × Option ℕ
before_and_after x = (x.m, x.n)

-- ---- what they give, whichever way it is computed

-- PACTs: a transfer in 24 events, an actor that is declared and left alone, two batches on one actor, and the
-- same with two coordinators
pub record BatchesPlay : Type 0 where
  pub one_transfer : Plays transfer [] (committed 1 0 1 (pos 80) ∷ []) (pos 70 ∷ pos 80 ∷ [])
  pub in_24_events : played transfer [] ≡ transfer_events
  pub one_unused : Plays unused_actor [] (committed 1 0 1 (pos 105) ∷ []) (pos 105 ∷ pos 50 ∷ [])
  pub out_of_turn : refusal two_batches (Arrive 2 0) (reached two_batches two_batches_formed) ≡ 4
  pub both_commit : Plays two_batches two_batches_formed (committed 1 0 1 (pos 1) ∷ committed 2 0 2 (pos 3) ∷ []) (pos 3 ∷ [])
  pub with_two_coordinators : Plays two_coordinators two_coordinators_formed (committed 1 0 1 (pos 1) ∷ committed 2 0 2 (pos 3) ∷ []) (pos 3 ∷ [])
  pub token_passed : played two_coordinators [] ≡ played two_coordinators two_coordinators_formed

-- ACTs: one that moves, one that fails, two that meet, one that is doomed by its numbers, one that is doomed as
-- another one's number rises, and two behind two batches
pub record ActsPlay : Type 0 where
  pub moves : Plays act_transfer [] (committed 0 1 1 (pos 80) ∷ []) (pos 70 ∷ pos 80 ∷ [])
  pub fails : Plays act_fails [] (coded 0 1 1 7 ∷ []) (pos 100 ∷ pos 50 ∷ [])
  pub dies : Plays younger_dies [] (committed 0 1 1 (pos 60) ∷ Some (died 0 1 2) ∷ []) (pos 90 ∷ pos 60 ∷ [])
  pub doomed : Plays doomed_by_order doomed_by_order_script (Some (out_of_order 1 1 0) ∷ committed 1 0 2 (pos 55) ∷ []) (pos 95 ∷ pos 55 ∷ [])
  pub rises : Plays rise_through_another rise_through_another_script (Some (out_of_order 1 1 0) ∷ committed 1 1 1 (pos 85) ∷ committed 1 0 3 (pos 120) ∷ []) (pos 85 ∷ pos 95 ∷ pos 120 ∷ [])
  pub taken_over : Plays number_taken_over number_taken_over_script (committed 1 0 1 (pos 101) ∷ committed 2 0 2 (pos 101) ∷ committed 2 1 2 (pos 120) ∷ committed 2 1 1 (pos 110) ∷ []) (pos 91 ∷ pos 91 ∷ pos 120 ∷ [])

-- cascades: a batch that fails between two others, what an ACT did behind an aborted batch, and an after number
-- that is forgotten
pub record CascadesPlay : Type 0 where
  pub middle_fails : Plays cascade [] (committed 1 0 1 (pos 101) ∷ batch_coded 2 1 9 ∷ cascaded 2 1 ∷ cascaded 2 1 ∷ committed 1 1 1 (pos 108) ∷ []) (pos 108 ∷ pos 100 ∷ pos 100 ∷ [])
  pub ran : fields (reached undo_behind_abort ran_behind_abort) ≡ pos 101 ∷ pos 57 ∷ []
  pub undone : fields (reached undo_behind_abort undone_behind_abort) ≡ pos 101 ∷ pos 50 ∷ []
  pub all_undone : Plays undo_behind_abort undone_behind_abort (batch_coded 1 1 9 ∷ cascaded 1 0 ∷ []) (pos 100 ∷ pos 50 ∷ [])
  pub drops : Plays dropped dropped_script (batch_coded 1 1 9 ∷ cascaded 1 0 ∷ []) two_actors
  pub allowed : answers number_forgotten forgotten_script (opening number_forgotten) ≡ map (λ e. 0) forgotten_script
  pub forgotten : map before_and_after (reached number_forgotten forgotten_script).book.acts ≡ (2, None) ∷ []
  pub not_doomed : verdicts_of number_forgotten (reached number_forgotten forgotten_script) ≡ None ∷ batch_coded 1 1 9 ∷ None ∷ []

-- what does not exist makes a condition false, and the first false one is named
pub record RefusalsPlay : Type 0 where
  pub no_more_text : refusal transfer (Submit 1) (reached transfer (Submit 0 ∷ [])) ≡ 1
  pub no_pact_waits : refusal transfer (Form 1) (opening transfer) ≡ 2
  pub not_the_next_batch : refusal transfer (Form 2) (reached transfer (Submit 0 ∷ [])) ≡ 1
  pub not_an_act : refusal transfer (Ask 1 0) (reached transfer (Submit 0 ∷ Form 1 ∷ [])) ≡ 2
  pub not_placed : refusal transfer (Take 1 0) (reached transfer (Submit 0 ∷ Form 1 ∷ [])) ≡ 2
  pub no_tid : refusal transfer (Reply 0) (opening transfer) ≡ 2
  pub no_such_transaction : refusal transfer (Reply 1) (opening transfer) ≡ 1
  pub no_such_actor : refusal transfer (Rollback 5) (opening transfer) ≡ 1
  pub no_such_log : refusal transfer (Sync 1) (opening transfer) ≡ 1
  pub not_its_actor : refusal act_transfer (Prepare 1 99) (reached act_transfer act_ended) ≡ 2
  pub not_vouched : refusal act_transfer (Decide 1) (reached act_transfer act_ended) ≡ 2
