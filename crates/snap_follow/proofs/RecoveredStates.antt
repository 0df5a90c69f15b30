-- What a follower holds after two rounds over the same lists is what they recover to.
use Rattle.std.proofs.Common.{refl, ℕ, List, map, subst}
use Rattle.std.specs.Prelude.{Contains}
use Rattle.snap_base.specs.declared.transactions.State.{State}
use Rattle.txn_records.specs.declared.records.Record.{Record}
use Rattle.txn_records.specs.declared.records.Record.TheVariants.{BatchComplete, ActPrepare}
use Rattle.txn_records.specs.declared.keys.Key.{Key}
use Rattle.txn_records.specs.declared.keys.Key.TheVariants as keys
use Rattle.snap_recover.specs.Logs.{log_of}
use Rattle.snap_recover.specs.Opening.{Counts, IsStateOf, commit_of}
use Rattle.snap_recover.proofs.Lists.{all_of_each}
use Rattle.snap_recover.proofs.StatesOver.{Agree, over_alike}
use Rattle.snap_follow.specs.Followed.{HasCommit, CountsFor, IsFollowedState}
use Rattle.snap_follow.specs.Laws.{TwoRoundsRecover}
use Rattle.snap_follow.proofs.AlikeTold.{each_state}
use Rattle.snap_follow.proofs.TwoRounds.{two_rounds}

agree : (ks : List Key) (now : List (List Record)) → ((k : Key) → Contains ks k → HasCommit now k) → ((k : Key) → HasCommit now k → Contains ks k) → (a : ℕ) (r : Record) → Agree (CountsFor ks a) (Counts now a) r
agree ks now has all a (BatchComplete b actor s) = ((λ c. (c.2.0, subst (HasCommit now) c.2.1 (has c.0 c.1))), λ c. (keys.Commit b, all (keys.Commit b) c.1, (c.0, refl)))
agree ks now has all a (ActPrepare t actor s) = ((λ c. (c.2.0, subst (HasCommit now) c.2.1 (has c.0 c.1))), λ c. (keys.Act t, all (keys.Act t) c.1, (c.0, refl)))
agree ks now has all a r = ((λ c. absurd c.2), λ c. absurd c)

state_of : (ks : List Key) (now : List (List Record)) → ((k : Key) → Contains ks k → HasCommit now k) → ((k : Key) → HasCommit now k → Contains ks k)
    → (a : ℕ) (x s : State) → IsFollowedState ks now a x s → IsStateOf now a x s
state_of ks now has all a x s h = over_alike (CountsFor ks a) (Counts now a) (log_of now a) x s (all_of_each (Agree (CountsFor ks a) (Counts now a)) (log_of now a) (agree ks now has all a)) h

pub recovered : TwoRoundsRecover
recovered taken now first members states there h told = (
  record {
    ascend = h.ascend;
    each = h.each;
    all_batches = λ bid i. all (keys.Commit bid) i;
    all_acts = λ tid i. all (keys.Act tid) i;
  },
  each_state (IsFollowedState (map commit_of members) now) (IsStateOf now) (state_of (map commit_of members) now has all) 0 first states told,
)
  where
    has : (k : Key) → Contains (map commit_of members) k → HasCommit now k
    has k = (two_rounds taken now (map commit_of members) there h.takes k).0

    all : (k : Key) → HasCommit now k → Contains (map commit_of members) k
    all k = (two_rounds taken now (map commit_of members) there h.takes k).1
