-- What is told can be told back.
use Rattle.std.proofs.Common.{◌≡◌, ℕ, pos, List, [], ◌∷◌, map, refl, ap, sym, ◌∙◌}
use Rattle.snap_base.specs.declared.ids.ActorId.{ActorId}
use Rattle.snap_base.specs.declared.ids.Tid.{Tid}
use Rattle.txn_records.specs.declared.records.Record.{Record}
use Rattle.txn_records.specs.declared.records.Record.TheVariants as records
use Rattle.protocol.specs.Records.{LogRecord, BatchInfo, BatchComplete, BatchDone, ActPrepare, ActDone}
use Rattle.log_set.specs.Told.{told, actor_of, tid_of}
use Rattle.log_set.specs.Laws.{ToldOnce}

abbrev actors_back : List ActorId → List ℕ
actors_back actors = map (λ (a : ActorId). a.0) actors

abbrev tids_back : List Tid → List ℕ
tids_back tids = map (λ (t : Tid). t.0) tids

-- a Genesis, a Checkpoint and the commits of format 1 are none of the machine's: any record does
abbrev told_back : Record → LogRecord
told_back (records.Genesis logs states) = BatchDone logs []
told_back (records.BatchInfo bid actors tids) = BatchInfo bid.0 (actors_back actors) (tids_back tids)
told_back (records.BatchComplete bid actor state) = BatchComplete bid.0 actor.0 state
told_back (records.BatchCommit bid) = BatchDone bid.0 []
told_back (records.ActPrepare tid actor state) = ActPrepare tid.0 actor.0 state
told_back (records.ActCommit tid m c actors) = ActDone tid.0 m.0 c (pos 0) (actors_back actors)
told_back (records.BatchDone bid values) = BatchDone bid.0 values
told_back (records.ActDone tid m c value actors) = ActDone tid.0 m.0 c value (actors_back actors)
told_back (records.Checkpoint generation next_tid next_bid next_c batches acts states) = BatchDone generation []

actors_again : (actors : List ℕ) → actors_back (map actor_of actors) ≡ actors
actors_again [] = refl
actors_again (a ∷ rest) = ap (λ (xs : List ℕ). a ∷ xs) (actors_again rest)

tids_again : (tids : List ℕ) → tids_back (map tid_of tids) ≡ tids
tids_again [] = refl
tids_again (t ∷ rest) = ap (λ (xs : List ℕ). t ∷ xs) (tids_again rest)

told_again : (r : LogRecord) → told_back (told r) ≡ r
told_again (BatchInfo bid actors tids) = ap (λ (xs : List ℕ). BatchInfo bid xs (tids_back (map tid_of tids))) (actors_again actors) ∙ ap (BatchInfo bid actors) (tids_again tids)
told_again (BatchComplete bid actor state) = refl
told_again (BatchDone bid values) = refl
told_again (ActPrepare tid actor state) = refl
told_again (ActDone tid m c value actors) = ap (ActDone tid m c value) (actors_again actors)

pub told_once : ToldOnce
told_once r q same = sym (told_again r) ∙ (ap told_back same ∙ told_again q)
