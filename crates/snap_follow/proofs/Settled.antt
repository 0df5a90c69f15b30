-- Some are left out of a set, again and again, until none of it rests on one that is.
use Rattle.std.proofs.Common.{◌≡◌, ◌≢◌, ◌<◌, List, [], ◌∷◌, length, refl, subst}
use Rattle.std.specs.Prelude.{Contains}
use Rattle.snap_base.proofs.Lists.{nothing_left}
use Rattle.snap_base.specs.declared.transactions.State.{State}
use Rattle.txn_records.specs.declared.records.Record.{Record}
use Rattle.txn_records.specs.declared.keys.Key.{Key}
use Rattle.snap_recover.proofs.Lists.{contains_none, contains_here}
use Rattle.snap_follow.specs.declared.commits.Commits.{Commits}
use Rattle.snap_follow.specs.Passes.{IsInSet, AreLeaving, Settles, IsSettled, size}
use Rattle.snap_follow.proofs.Named.{RemovesAll}

pub settles_begin : (first : List State) (there taken : Commits) (now : List (List Record)) (set : Commits) → Settles first there taken now set set
settles_begin first there taken now set = record { within = λ k h. h; stay = λ k t h. h; kept = λ members firm within. within }

pub settles_step : (first : List State) (there taken : Commits) (now : List (List Record)) (old mid new : Commits) (leaving : List Key) → Settles first there taken now old mid → AreLeaving first there taken mid now leaving → RemovesAll leaving mid new → Settles first there taken now old new
settles_step first there taken now old mid new leaving h are removes = record {
  within = λ k n. h.within k ((removes k).0 n).0;
  stay = λ k t o. (removes k).1 (h.stay k t o, λ c. ((are k).0 c).0.1 t);
  kept = λ members firm within k m.
      let here = h.kept members firm within in
      (removes k).1 (here k m, λ c. let p = (are k).0 c in p.1.2.1 (here p.1.0 (firm k p.1.0 m p.0.1 p.1.1 p.1.2.0)));
}

pub settles_end : (first : List State) (there taken : Commits) (now : List (List Record)) (set : Commits) (leaving : List Key) → AreLeaving first there taken set now leaving → length leaving ≡ 0 → IsSettled first there taken now set
settles_end first there taken now set leaving are e k is_new rests = contains_none k (subst (λ (z : List Key). Contains z k) (nothing_left leaving e) ((are k).1 (is_new, rests)))

-- those that leave were there
pub leaving_named : (first : List State) (there taken : Commits) (now : List (List Record)) (set : Commits) (leaving : List Key) (k : Key) → AreLeaving first there taken set now leaving → Contains leaving k → IsInSet set k
leaving_named first there taken now set leaving k are c = ((are k).0 c).0.0

-- so the set gets smaller
pub gets_smaller : (first : List State) (there taken : Commits) (now : List (List Record)) (old new : Commits) (leaving ks : List Key) → AreLeaving first there taken old now leaving → ks ≡ leaving → length leaving ≢ 0 → ((k : Key) (more : List Key) → ks ≡ k ∷ more → IsInSet old k → size new < size old) → size new < size old
gets_smaller first there taken now old new [] ks are e some less = absurd (some refl)
gets_smaller first there taken now old new (k ∷ more) ks are e some less = less k more e (leaving_named first there taken now old (k ∷ more) k are (contains_here k more))
