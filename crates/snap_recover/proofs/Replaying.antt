-- The states of actors as passes over the logs tell them.
use Rattle.std.proofs.Common.{◌≡◌, ℕ, suc, ◌+◌, ◌%◌, ◌<◌, ◌≤◌, inl, inr, List, [], ◌∷◌, ◌++◌, length, take, drop, set, get_or, refl, sym, ap, subst, ◌∙◌, arith}
use Rattle.std.proofs.Math.Nat.{mod-lt}
use Rattle.std.proofs.lemmas.Bool.{cases_eq}
use Rattle.std.proofs.lemmas.List.{get_or-set_same, get_or-set_other, length-set}
use Rattle.std.specs.List.{AllByRecursion, AllZip, enumerate_from}
use Rattle.snap_base.specs.declared.transactions.State.{State}
use Rattle.snap_base.proofs.Lists.{all_front, all_back}
use Rattle.txn_records.specs.declared.records.Record.{Record}
use Rattle.txn_records.specs.declared.records.Record.TheVariants.{Genesis, BatchInfo, BatchComplete, BatchCommit, ActPrepare, ActCommit, BatchDone, ActDone, Checkpoint}
use Rattle.snap_recover.specs.declared.kinds.Kind.TheVariants as kinds
use Rattle.snap_recover.specs.Logs.{all_of, states_in}
use Rattle.snap_recover.specs.Opening.{IsInRange, Counts, IsStateOf, AreStatesOf}
use Rattle.snap_recover.specs.Passes.{In, HasCommitted, RecordTellsState, StateOver, Replays}
use Rattle.snap_recover.proofs.Lists.{all_of_each, all_middle}
use Rattle.snap_recover.proofs.Homes.{at_log, below_cases}
use Rattle.snap_recover.proofs.Steps.{taken, split_at, logs_split}
use Rattle.snap_recover.proofs.StatesOver.{Agree, over_alike, over_quiet, over_counts}

-- ---- one pass

pub replays_none : (log logs : ℕ) (Bs As : ℕ → Type 0) (states : List State) → Replays log logs Bs As [] states states
replays_none log logs Bs As states = record { long = refl; here = λ a d l e. inr (tt, refl); elsewhere = λ a d l e. refl }

pub replays_quiet : (log logs : ℕ) (Bs As : ℕ → Type 0) (rs : List Record) (i : ℕ) (r : Record) (old new : List State) → i < length rs → r ≡ get_or rs i r
    → ((a : ℕ) → a % logs ≡ log → ¬ RecordTellsState Bs As a r) → Replays log logs Bs As (take i rs) old new → Replays log logs Bs As (take (i + 1) rs) old new
replays_quiet log logs Bs As rs i r old new l at quiet h =
    subst (λ (z : List Record). Replays log logs Bs As z old new) (sym (taken rs i r l at))
    (record { long = h.long; here = λ a d b e. over_quiet (RecordTellsState Bs As a) (take i rs) (r ∷ []) (get_or old a d) (get_or new a d) (quiet a e, tt) (h.here a d b e); elsewhere = h.elsewhere })

-- a record tells of one actor
tells_one : (Bs As : ℕ → Type 0) (a b : ℕ) (r : Record) → RecordTellsState Bs As a r → RecordTellsState Bs As b r → a ≡ b
tells_one Bs As a b (Genesis c s) t u = absurd t
tells_one Bs As a b (BatchInfo k x n) t u = absurd t
tells_one Bs As a b (BatchComplete k x s) t u = sym t.0 ∙ u.0
tells_one Bs As a b (BatchCommit k) t u = absurd t
tells_one Bs As a b (ActPrepare n x s) t u = sym t.0 ∙ u.0
tells_one Bs As a b (ActCommit n m c x) t u = absurd t
tells_one Bs As a b (BatchDone k v) t u = absurd t
tells_one Bs As a b (ActDone n m c v x) t u = absurd t
tells_one Bs As a b (Checkpoint v x y z p q ss) t u = absurd t

one_told : (log logs : ℕ) (Bs As : ℕ → Type 0) (rs : List Record) (r : Record) (k : ℕ) (s : State) (old mid : List State) → states_in r ≡ s ∷ [] → RecordTellsState Bs As k r → k % logs ≡ log → k < length old
    → Replays log logs Bs As rs old mid → Replays log logs Bs As (rs ++ r ∷ []) old (set mid k s)
one_told log logs Bs As rs r k s old mid told tells home low h = record {
  long = length-set mid k s ∙ h.long;
  here = λ a d b e.
      elim (cases_eq a k) [
        | inl same ↦
            let now : get_or (set mid k s) a d ≡ s = ap (λ (z : ℕ). get_or (set mid k s) z d) same ∙ get_or-set_same mid k s d (omega (arith, h.long)) in
            subst (λ (z : State). StateOver (RecordTellsState Bs As a) (rs ++ r ∷ []) (get_or old a d) z) (sym now)
            (over_counts (RecordTellsState Bs As a) rs r (get_or old a d) s told (subst (λ (z : ℕ). RecordTellsState Bs As z r) (sym same) tells))
        | inr apart ↦
            subst (λ (z : State). StateOver (RecordTellsState Bs As a) (rs ++ r ∷ []) (get_or old a d) z) (sym (get_or-set_other mid k a s d apart))
            (over_quiet (RecordTellsState Bs As a) rs (r ∷ []) (get_or old a d) (get_or mid a d) (λ t. apart (tells_one Bs As a k r t tells), tt) (h.here a d b e))
      ];
  elsewhere = λ a d b away. get_or-set_other mid k a s d (λ e. away (ap (λ (z : ℕ). z % logs) e ∙ home)) ∙ h.elsewhere a d b away;
}

pub replays_step : (log logs : ℕ) (Bs As : ℕ → Type 0) (rs : List Record) (i : ℕ) (r : Record) (k : ℕ) (s : State) (old mid : List State) → i < length rs → r ≡ get_or rs i r
    → states_in r ≡ s ∷ [] → RecordTellsState Bs As k r → k % logs ≡ log → k < length old → Replays log logs Bs As (take i rs) old mid → Replays log logs Bs As (take (i + 1) rs) old (set mid k s)
replays_step log logs Bs As rs i r k s old mid l at told tells home low h =
    subst (λ (z : List Record). Replays log logs Bs As z old (set mid k s)) (sym (taken rs i r l at))
    (one_told log logs Bs As (take i rs) r k s old mid told tells home low h)

-- the record's actor is one
tells_below : (n : ℕ) (Bs As : ℕ → Type 0) (k : ℕ) (r : Record) → RecordTellsState Bs As k r → IsInRange n r → k < n
tells_below n Bs As k (Genesis c s) t h = absurd t
tells_below n Bs As k (BatchInfo b x u) t h = absurd t
tells_below n Bs As k (BatchComplete b x s) t h = let low : x.0 < n = h.actors_below.0 in omega (arith, low, t.0)
tells_below n Bs As k (BatchCommit b) t h = absurd t
tells_below n Bs As k (ActPrepare u x s) t h = let low : x.0 < n = h.actors_below.0 in omega (arith, low, t.0)
tells_below n Bs As k (ActCommit u m c x) t h = absurd t
tells_below n Bs As k (BatchDone b v) t h = absurd t
tells_below n Bs As k (ActDone u m c v x) t h = absurd t
tells_below n Bs As k (Checkpoint v x y z p q ss) t h = absurd t

pub told_below : (n : ℕ) (Bs As : ℕ → Type 0) (rs : List Record) (i : ℕ) (r : Record) (k : ℕ) → i < length rs → r ≡ get_or rs i r → RecordTellsState Bs As k r
    → AllByRecursion (IsInRange n) rs → k < n
told_below n Bs As rs i r k l at tells range =
    tells_below n Bs As k r tells (all_middle (IsInRange n) (take i rs) r (drop (i + 1) rs) (subst (AllByRecursion (IsInRange n)) (split_at rs i r l at) range))

-- ---- over the logs

pub record StatesThrough (logs : List (List Record)) (i : ℕ) (first states : List State) : Type 0 where
  pub long : length states ≡ length first
  pub done : (a : ℕ) (d : State) → a < length first → a % length logs < i → IsStateOf logs a (get_or first a d) (get_or states a d)
  pub left : (a : ℕ) (d : State) → a < length first → i ≤ a % length logs → get_or states a d ≡ get_or first a d

pub states_begin : (logs : List (List Record)) (first : List State) → StatesThrough logs 0 first first
states_begin logs first = record { long = refl; done = λ a d l h. absurd (omega arith); left = λ a d l h. refl }

tells_counts : (logs : List (List Record)) (batches acts : List ℕ) (a : ℕ) (r : Record) → HasCommitted kinds.Batch logs batches → HasCommitted kinds.Act logs acts
    → Agree (RecordTellsState (In batches) (In acts) a) (Counts logs a) r
tells_counts logs batches acts a (Genesis c s) h g = (λ t. t, λ t. t)
tells_counts logs batches acts a (BatchInfo b x t) h g = (λ t. t, λ t. t)
tells_counts logs batches acts a (BatchComplete b x s) h g = (λ t. (t.0, (h.all b.0).0 t.1), λ t. (t.0, (h.all b.0).1 t.1))
tells_counts logs batches acts a (BatchCommit b) h g = (λ t. t, λ t. t)
tells_counts logs batches acts a (ActPrepare u x s) h g = (λ t. (t.0, (g.all u.0).0 t.1), λ t. (t.0, (g.all u.0).1 t.1))
tells_counts logs batches acts a (ActCommit u m c x) h g = (λ t. t, λ t. t)
tells_counts logs batches acts a (BatchDone b v) h g = (λ t. t, λ t. t)
tells_counts logs batches acts a (ActDone u m c v x) h g = (λ t. t, λ t. t)
tells_counts logs batches acts a (Checkpoint v x y z p q ss) h g = (λ t. t, λ t. t)

pub states_through : (logs : List (List Record)) (i : ℕ) (rs : List Record) (batches acts : List ℕ) (first old new : List State) → i < length logs → rs ≡ get_or logs i rs → HasCommitted kinds.Batch logs batches → HasCommitted kinds.Act logs acts
    → Replays i (length logs) (In batches) (In acts) rs old new → StatesThrough logs i first old → StatesThrough logs (i + 1) first new
states_through logs i rs batches acts first old new l at has_b has_a p h = record {
  long = p.long ∙ h.long;
  done = λ a d b low.
      elim (below_cases (a % length logs) i low) [
        | inl less ↦ subst (λ (z : State). IsStateOf logs a (get_or first a d) z) (sym (p.elsewhere a d (omega (arith, h.long)) (omega arith))) (h.done a d b less)
        | inr e ↦
            let told : StateOver (RecordTellsState (In batches) (In acts) a) rs (get_or first a d) (get_or new a d) =
            subst (λ (z : State). StateOver (RecordTellsState (In batches) (In acts) a) rs z (get_or new a d)) (h.left a d b (omega arith)) (p.here a d (omega (arith, h.long)) e) in
            let counted : StateOver (Counts logs a) rs (get_or first a d) (get_or new a d) =
            over_alike (RecordTellsState (In batches) (In acts) a) (Counts logs a) rs (get_or first a d) (get_or new a d) (all_of_each (Agree (RecordTellsState (In batches) (In acts) a) (Counts logs a)) rs (λ r. tells_counts logs batches acts a r has_b has_a)) told in
            subst (λ (z : List Record). StateOver (Counts logs a) z (get_or first a d) (get_or new a d)) (sym (at_log logs a i rs l at e)) counted
      ];
  left = λ a d b high. p.elsewhere a d (omega (arith, h.long)) (omega arith) ∙ h.left a d b (omega arith);
}

zip_by_places : {X : Type 0} (R : ℕ × X → X → Type 0) (n : ℕ) (xs ys : List X) → length ys ≡ length xs → ((k : ℕ) (d : X) → k < length xs → R (n + k, get_or xs k d) (get_or ys k d)) → AllZip R (enumerate_from n xs) ys
zip_by_places R n [] [] e h = tt
zip_by_places R n [] (y ∷ ys) e h = absurd (omega arith)
zip_by_places R n (x ∷ xs) [] e h = absurd (omega arith)
zip_by_places R n (x ∷ xs) (y ∷ ys) e h = (
  let same : n + 0 ≡ n = omega arith in subst (λ (z : ℕ). R (z, x) y) same (h 0 x (omega arith)),
  zip_by_places R (n + 1) xs ys (omega arith) (λ k d l. let same : n + suc k ≡ (n + 1) + k = omega arith in subst (λ (z : ℕ). R (z, get_or xs k d) (get_or ys k d)) same (h (suc k) d (omega arith))),
)

pub states_end : (logs : List (List Record)) (i : ℕ) (first states : List State) → 0 < length logs → length logs ≤ i → StatesThrough logs i first states → AreStatesOf logs first states
states_end logs i first states some l h =
    zip_by_places (λ (x : ℕ × State) s. IsStateOf logs x.0 x.1 s) 0 first states h.long
    (λ k d b. let same : 0 + k ≡ k = omega arith in subst (λ (z : ℕ). IsStateOf logs z (get_or first k d) (get_or states k d)) (sym same) (h.done k d b (let low = mod-lt k some in omega (arith, low))))

-- the records of one log
pub log_in_range : (n : ℕ) (logs : List (List Record)) (i : ℕ) (rs : List Record) → i < length logs → rs ≡ get_or logs i rs → AllByRecursion (IsInRange n) (all_of logs) → AllByRecursion (IsInRange n) rs
log_in_range n logs i rs l at h =
    all_front (IsInRange n) rs (all_of (drop (i + 1) logs)) (all_back (IsInRange n) (all_of (take i logs)) (rs ++ all_of (drop (i + 1) logs)) (subst (AllByRecursion (IsInRange n)) (logs_split logs i rs l at) h))
