-- The run of a work from empty logs, as events are told of it.
use Rattle.std.specs.Prelude.{◌≡◌, refl, ℕ, Bool, List, length, map, Result, Ok, Err, MatchResult}
use Rattle.std.proofs.Common.{sym}
use Rattle.snap_base.specs.declared.transactions.Tx.{Tx}
use Rattle.snap_work.specs.Works.{Work}
use Rattle.protocol.specs.Fixed.{Text}
use Rattle.audit_words.specs.Inputs.{first_text}
use Rattle.audit_tale.specs.Settings.{IsSetting}
use Rattle.audit_tale.specs.declared.told.Told.{Told}
use Rattle.audit_tale.specs.declared.tale_no.TaleNo.{TaleNo}

-- its text has its setting
work_setting : (w : Work) (actors : ℕ) (txs : List Tx) → actors ≡ length w.states → txs ≡ w.txs → IsSetting w.coordinators w.batch actors txs (first_text w)
work_setting w actors txs e f = record { opening = record { coordinators_are = refl; actors_are = sym e; tid = refl; bid = refl; number = refl }; batch_is = refl; txs_are = sym f }

-- what is told of any such text is told of the work's
pub told_of_work : (w : Work) (f : Tx → Bool) (marks : List Bool) (actors : ℕ) (txs : List Tx) (r : Result Told TaleNo) (Tells : (Tx → Bool) → Text → Told → Type 0) (Refuses : Text → TaleNo → Type 0)
    → actors ≡ length w.states → txs ≡ w.txs → marks ≡ map f txs
    → MatchResult r (λ told. (g : Tx → Bool) (t : Text) → IsSetting w.coordinators w.batch actors txs t → marks ≡ map g txs → Tells g t told) (λ why. (t : Text) → IsSetting w.coordinators w.batch actors txs t → Refuses t why)
    → MatchResult r (Tells f (first_text w)) (Refuses (first_text w))
told_of_work w f marks actors txs (Ok told) Tells Refuses e s m h = h f (first_text w) (work_setting w actors txs e s) m
told_of_work w f marks actors txs (Err why) Tells Refuses e s m h = h (first_text w) (work_setting w actors txs e s)
