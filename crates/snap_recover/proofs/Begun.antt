-- Genesis alone recovers to its states.
use Rattle.std.proofs.Common.{◌≡◌, ℕ, ◌+◌, inl, inr, List, [], ◌∷◌, refl, sym, subst, arith}
use Rattle.std.specs.List.{AllByRecursion, AllZip, enumerate_from}
use Rattle.std.proofs.Math.Nat.{mod-one}
use Rattle.snap_base.specs.declared.ids.Bid.{Bid}
use Rattle.snap_base.specs.declared.ids.Tid.{Tid}
use Rattle.snap_base.specs.declared.transactions.State.{State}
use Rattle.txn_records.specs.declared.records.Record.{Record}
use Rattle.txn_records.specs.declared.records.Record.TheVariants.{Genesis}
use Rattle.txn_records.specs.declared.keys.Key.TheVariants as keys
use Rattle.snap_recover.specs.Logs.{log_of, HasKey}
use Rattle.snap_recover.specs.Opening.{IsIn, IsActIn, Counts, IsStateOf, IsRecovered}
use Rattle.snap_recover.proofs.Lists.{contains_cases, contains_none}

-- with one log, each number writes to it
pub log_one : (rs : List Record) (n : ℕ) → log_of (rs ∷ []) n ≡ rs
log_one rs n = rw mod-one

genesis_commits : (states : List State) (b : Bid) → ¬ IsIn ((Genesis 1 states ∷ []) ∷ []) b
genesis_commits states b h =
    let here : HasKey (Genesis 1 states ∷ []) (keys.Commit b) = subst (λ (z : List Record). HasKey z (keys.Commit b)) (log_one (Genesis 1 states ∷ []) b.0) h in
    elim (contains_cases keys.Genesis (keys.Commit b) [] here) [ inl e ↦ absurd (cc) | inr g ↦ contains_none (keys.Commit b) g ]

genesis_acts : (states : List State) (t : Tid) → ¬ IsActIn ((Genesis 1 states ∷ []) ∷ []) t
genesis_acts states t h =
    let here : HasKey (Genesis 1 states ∷ []) (keys.Act t) = subst (λ (z : List Record). HasKey z (keys.Act t)) (log_one (Genesis 1 states ∷ []) t.0) h in
    elim (contains_cases keys.Genesis (keys.Act t) [] here) [ inl e ↦ absurd (cc) | inr g ↦ contains_none (keys.Act t) g ]

begun_states : (states all : List State) (n : ℕ) → AllZip (λ (x : ℕ × State) s. IsStateOf ((Genesis 1 all ∷ []) ∷ []) x.0 x.1 s) (enumerate_from n states) states
begun_states [] all n = tt
begun_states (s ∷ states) all n =
    let logs : List (List Record) = (Genesis 1 all ∷ []) ∷ [] in
    let quiet : AllByRecursion (λ r. ¬ Counts logs n r) (Genesis 1 all ∷ []) = (λ h. h, tt) in
    (inr (subst (AllByRecursion (λ r. ¬ Counts logs n r)) (sym (log_one (Genesis 1 all ∷ []) n)) quiet, refl), begun_states states all (n + 1))

pub begun_is_recovered : (states : List State) → IsRecovered ((Genesis 1 states ∷ []) ∷ [])
    (record { states = states; committed = []; next_tid = record { 0 = 1 }; next_bid = record { 0 = 1 }; next_c = 1 })
begun_is_recovered states = record {
  begun = (states, record { one = refl; range = (record { actors_below = tt; numbers_below = tt }, tt) }, begun_states states states 0);
  whole = λ b h. absurd (genesis_commits states b h);
  acts_whole = λ t h. absurd (genesis_acts states t h);
  valued = λ b h. absurd (genesis_commits states b h);
  committed = record { ascend = λ i j d l m. absurd (omega arith); each = tt; all_batches = λ b h. absurd (genesis_commits states b h); all_acts = λ t h. absurd (genesis_acts states t h) };
  next_tid = refl;
  next_bid = refl;
  next_c = refl;
}
