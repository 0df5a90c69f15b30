-- Sets with whom each stands that changed an actor ahead of them: their transactions link, and their last record tells what they leave;
-- where one more commits.
use Rattle.std.specs.Prelude.{◌≡◌, refl, ◌⊎◌, ℕ, Bool, true, false, ◌&&◌, if◌then◌else◌, Option, Some, None, is_some, List, [], ◌∷◌, ◌++◌, filter}
use Rattle.std.specs.List.{AllByRecursion}
use Rattle.std.proofs.Common.{sym, ap, subst, inl, inr, ◌∙◌}
use Rattle.std.proofs.lemmas.List.{append-nil}
use Rattle.std.proofs.lemmas.Bool.{true≢false, or_cases, or_left, or_right, or_parts, and_from, cases_Bool, false_from_ne_true}
use Rattle.snap_base.specs.declared.transactions.State.{State}
use Rattle.protocol.specs.Parts.{Who}
use Rattle.protocol.specs.Words.{is_who, is_value}
use Rattle.protocol.specs.History.{View, Done}
use Rattle.protocol_laws.specs.Commits.{is_kept, Finds, left_as, left_of, StatesLink, last_state}
use Rattle.protocol_laws.proofs.first.Lists.{any_front, filter_join}
use Rattle.protocol_laws.proofs.machine.CommitLists.{links_more, last_more}
use Rattle.protocol_laws.proofs.machine.TrackLists.{is_who_true, is_who_refl}
use Rattle.protocol_theorems.specs.Order.{LeavesIt}
use Rattle.protocol_theorems.proofs.order.OrderImplied.{still_left}
use Rattle.protocol_theorems.proofs.sets.RowsAgree.{filter_same}
use Rattle.protocol_records.specs.Logged.{came_valued}
use Rattle.protocol_records.specs.Telling.{One, names, last_one}
use Rattle.protocol_records.proofs.crash.Durable.{any_back}
use Rattle.followed_runs.specs.Following.{is_ahead, ChangedAhead}
use Rattle.followed_runs.proofs.OneCommits.{in_either}
use Rattle.followed_runs.proofs.InOrder.{kept_other}
use Rattle.followed_runs.proofs.ChangedAhead.{changed_counts, same_last}

-- with each of them, where it committed, each that committed, changed the actor and has its record ahead
abbrev pub IsClosedAhead : (Who → Bool) → List Who → List Who → State → List One → Type 0
IsClosedAhead P kept readers first os = (z y : Who) → P y ≡ true → in_either kept readers y ≡ true → is_kept z kept ≡ true → ChangedAhead (λ v. is_kept v kept) first z y os → P z ≡ true

-- the members of a set that committed with a value
abbrev pub is_done_of : (Who → Bool) → Done → Bool
is_done_of P d = P d.who && is_value d.result

-- Its transactions link from the first state, and its last record tells what they leave.
pub record SetLinks (a : ℕ) (first : State) (kept : List Who) (P : Who → Bool) (os : List One) (ds : List Done) : Type 0 where
  pub links : StatesLink a first (filter (is_done_of P) ds)
  pub tells : last_one first (filter (λ o. P o.who && is_kept o.who kept) os) ≡ last_state a first (filter (is_done_of P) ds)

-- ---- transactions

pub links_behind : (a : ℕ) (s : State) (ds es : List Done) → StatesLink a s (ds ++ es) → StatesLink a (last_state a s ds) es
links_behind a s [] es l = l
links_behind a s (d ∷ ds) es l = links_behind a (left_of a d s) ds es l.1

failed_leaves : (b : Bool) (o : Option View) (s : State) → b ≡ false → left_as b o s ≡ s
failed_leaves true o s e = absurd (true≢false e)
failed_leaves false o s e = refl

pub record Leave (a : ℕ) (s t : State) (ds : List Done) : Type 0 where
  pub links : StatesLink a s ds
  pub last : last_state a s ds ≡ t

-- of one that committed, those with a value
pub of_own : (a : ℕ) (P : Who → Bool) (s : State) (ds : List Done) → AllByRecursion (λ d. P d.who ≡ true) ds → StatesLink a s ds → Leave a s (last_state a s ds) (filter (is_done_of P) ds)
of_own a P s [] p l = record { links = tt; last = refl }
of_own a P s (d ∷ ds) p l = by (P d.who) (is_value d.result) p.0 refl (of_own a P (left_of a d s) ds p.1 l.1)
  where
    by : (b v : Bool) → b ≡ true → is_value d.result ≡ v → Leave a (left_of a d s) (last_state a (left_of a d s) ds) (filter (is_done_of P) ds) → Leave a s (last_state a (left_of a d s) ds) (if b && v then d ∷ filter (is_done_of P) ds else filter (is_done_of P) ds)
    by true true p e k = record { links = (l.0, k.links); last = k.last }
    by true false p e k = subst (λ t. Leave a t (last_state a (left_of a d s) ds) (filter (is_done_of P) ds)) (failed_leaves (is_value d.result) (d.views a) s e) k
    by false v p e k = absurd (true≢false (sym p))

-- where none of them came to the actor
of_none : (a : ℕ) (P : Who → Bool) (s : State) (ds : List Done) → AllByRecursion (λ d. came_valued a d ≡ true → ⊥) ds → Leave a s s (filter (is_done_of P) ds)
of_none a P s [] n = record { links = tt; last = refl }
of_none a P s (d ∷ ds) n = by (P d.who) (is_value d.result) refl (d.views a) refl (of_none a P s ds n.1)
  where
    by : (b v : Bool) → is_value d.result ≡ v → (o : Option View) → d.views a ≡ o → Leave a s s (filter (is_done_of P) ds) → Leave a s s (if b && v then d ∷ filter (is_done_of P) ds else filter (is_done_of P) ds)
    by false v e o f k = k
    by true false e o f k = k
    by true true e (Some x) f k = absurd (n.0 (and_from (is_some (d.views a)) (is_value d.result) (ap is_some f) e))
    by true true e None f k = record {
      links = (subst (λ x. Finds x s) (sym f) tt, subst (λ t. StatesLink a t (filter (is_done_of P) ds)) (sym same) k.links);
      last = ap (λ t. last_state a t (filter (is_done_of P) ds)) same ∙ k.last;
    }
      where
        none : (c : Bool) → left_as c None s ≡ s
        none true = refl
        none false = refl

        same : left_of a d s ≡ s
        same = ap (λ x. left_as (is_value d.result) x s) f ∙ none (is_value d.result)

-- readers leave what they find
pub of_readers : (a : ℕ) (s : State) (ds : List Done) → AllByRecursion (λ d. d.reader ≡ true) ds → AllByRecursion (λ d. d.reader ≡ true → LeavesIt (d.views a)) ds → StatesLink a s ds → last_state a s ds ≡ s
of_readers a s [] r v l = refl
of_readers a s (d ∷ ds) r v l = of_readers a (left_of a d s) ds r.1 v.1 l.1 ∙ still_left a d s (v.0 r.0) l.0

-- none of them counts
left_out : (P : Who → Bool) (u : Who) (ds : List Done) → P u ≡ false → AllByRecursion (λ d. d.who ≡ u) ds → filter (is_done_of P) ds ≡ []
left_out P u [] e o = refl
left_out P u (d ∷ ds) e o = rw (ap P o.0 ∙ e, left_out P u ds e o.1) refl

pub own_in : (P : Who → Bool) (u : Who) (ds : List Done) → P u ≡ true → AllByRecursion (λ d. d.who ≡ u) ds → AllByRecursion (λ d. P d.who ≡ true) ds
own_in P u [] e o = tt
own_in P u (d ∷ ds) e o = (ap P o.0 ∙ e, own_in P u ds e o.1)

none_came : (a : ℕ) (u : Who) (os : List One) (ds : List Done) → names u os ≡ false → AllByRecursion (λ d. came_valued a d ≡ true → names u os ≡ true) ds → AllByRecursion (λ d. came_valued a d ≡ true → ⊥) ds
none_came a u os [] n c = tt
none_came a u os (d ∷ ds) n c = ((λ q. true≢false (sym (c.0 q) ∙ n)), none_came a u os ds n c.1)

-- ---- records

-- one more that counts, which is not in the set or has no record
same_counted : (P : Who → Bool) (kept : List Who) (u : Who) (os : List One) → (P u ≡ false) ⊎ (names u os ≡ false) → filter (λ o. P o.who && is_kept o.who (kept ++ u ∷ [])) os ≡ filter (λ o. P o.who && is_kept o.who kept) os
same_counted P kept u os h = filter_same (λ o. P o.who && is_kept o.who (kept ++ u ∷ [])) (λ o. P o.who && is_kept o.who kept) os (all os h)
  where
    here : (o : One) (os : List One) → (P u ≡ false) ⊎ (names u (o ∷ os) ≡ false) → (P o.who && is_kept o.who (kept ++ u ∷ [])) ≡ (P o.who && is_kept o.who kept)
    here o os (inr n) = ap (λ b. P o.who && b) (kept_other u o.who kept (or_parts (is_who u o.who) (names u os) n).0)
    here o os (inl e) = elim (cases_Bool (is_who u o.who)) [
      | inl q ↦ let f : P o.who ≡ false = ap P (sym (is_who_true u o.who q)) ∙ e in rw f refl
      | inr q ↦ ap (λ b. P o.who && b) (kept_other u o.who kept q)
    ]

    behind : (o : One) (os : List One) → (P u ≡ false) ⊎ (names u (o ∷ os) ≡ false) → (P u ≡ false) ⊎ (names u os ≡ false)
    behind o os (inl e) = inl e
    behind o os (inr n) = inr (or_parts (is_who u o.who) (names u os) n).1

    all : (os : List One) → (P u ≡ false) ⊎ (names u os ≡ false) → AllByRecursion (λ o. (P o.who && is_kept o.who (kept ++ u ∷ [])) ≡ (P o.who && is_kept o.who kept)) os
    all [] h = tt
    all (o ∷ os) h = (here o os h, all os (behind o os h))

none_counted : (P c : Who → Bool) (os : List One) → ((z : Who) → c z ≡ true → names z os ≡ true → ⊥) → filter (λ o. P o.who && c o.who) os ≡ []
none_counted P c [] n = refl
none_counted P c (o ∷ os) n = by (P o.who) (c o.who) refl (none_counted P c os (λ z k m. n z k (or_right (is_who z o.who) _ m)))
  where
    by : (p k : Bool) → c o.who ≡ k → filter (λ o. P o.who && c o.who) os ≡ [] → (if p && k then o ∷ filter (λ o. P o.who && c o.who) os else filter (λ o. P o.who && c o.who) os) ≡ []
    by p true e r = absurd (n o.who e (or_left (is_who o.who o.who) _ (is_who_refl o.who)))
    by true false e r = r
    by false false e r = r

-- whose record is the last one of those that count tells the state in each set that it is in
last_is : (P c : Who → Bool) (s t : State) (u : Who) (os : List One) → names u os ≡ true → P u ≡ true → c u ≡ true → ((z : Who) → c z ≡ true → is_ahead u z os ≡ true → is_who u z ≡ true) → last_one s (filter (λ o. P o.who && c o.who) os) ≡ last_one t (filter (λ o. true && c o.who) os)
last_is P c s t u [] n p k b = absurd (true≢false (sym n))
last_is P c s t u (o ∷ os) n p k b = by (names u os) refl (λ s t m. last_is P c s t u os m p k (λ z q i. b z q (or_right (is_who u o.who && names z os) _ i)))
  where
    start : (x y : Bool) → ((s t : State) → last_one s (filter (λ o. P o.who && c o.who) os) ≡ last_one t (filter (λ o. true && c o.who) os))
        → last_one s (if x && y then o ∷ filter (λ o. P o.who && c o.who) os else filter (λ o. P o.who && c o.who) os) ≡ last_one t (if true && y then o ∷ filter (λ o. true && c o.who) os else filter (λ o. true && c o.who) os)
    start true true r = r o.state o.state
    start true false r = r s t
    start false true r = r s o.state
    start false false r = r s t

    by : (m : Bool) → names u os ≡ m → ((s t : State) → names u os ≡ true → last_one s (filter (λ o. P o.who && c o.who) os) ≡ last_one t (filter (λ o. true && c o.who) os)) → last_one s (filter (λ o. P o.who && c o.who) (o ∷ os)) ≡ last_one t (filter (λ o. true && c o.who) (o ∷ os))
    by true m r = start (P o.who) (c o.who) (λ s t. r s t m)
    by false m r =
        let e : is_who u o.who ≡ true = elim (or_cases (is_who u o.who) (names u os) n) [ inl q ↦ q | inr q ↦ absurd (true≢false (sym q ∙ m)) ] in
        let none : (z : Who) → c z ≡ true → names z os ≡ true → ⊥ = λ z q i. true≢false (sym i ∙ subst (λ v. names v os ≡ false) (is_who_true u z (b z q (or_left (is_who u o.who && names z os) _ (and_from (is_who u o.who) (names z os) e i)))) m) in
        let pp : P o.who ≡ true = subst (λ v. P v ≡ true) (is_who_true u o.who e) p in
        let cc2 : c o.who ≡ true = subst (λ v. c v ≡ true) (is_who_true u o.who e) k in
        rw (pp, cc2) (ap (last_one o.state) (none_counted P c os none ∙ sym (none_counted (λ y. true) c os none)))

-- ---- one more commits

-- with the transactions of one that is not in the set
pub added_out : (a : ℕ) (first : State) (kept : List Who) (P : Who → Bool) (os : List One) (committed ds : List Done) → filter (is_done_of P) ds ≡ [] → SetLinks a first kept P os committed → SetLinks a first kept P os (committed ++ ds)
added_out a first kept P os committed ds e l =
    let same : filter (is_done_of P) committed ≡ filter (is_done_of P) (committed ++ ds) = sym (filter_join (is_done_of P) committed ds ∙ (ap (λ z. filter (is_done_of P) committed ++ z) e ∙ append-nil (filter (is_done_of P) committed))) in
    record { links = subst (StatesLink a first) same l.links; tells = l.tells ∙ ap (last_state a first) same }

-- with those of one of whom none came
added_none : (a : ℕ) (first : State) (kept : List Who) (P : Who → Bool) (os : List One) (committed ds : List Done) → AllByRecursion (λ d. came_valued a d ≡ true → ⊥) ds → SetLinks a first kept P os committed → SetLinks a first kept P os (committed ++ ds)
added_none a first kept P os committed ds n l =
    let x = of_none a P (last_state a first (filter (is_done_of P) committed)) ds n in
    record {
      links = subst (StatesLink a first) (sym (filter_join (is_done_of P) committed ds)) (links_more a first (filter (is_done_of P) committed) (filter (is_done_of P) ds) l.links x.links);
      tells = l.tells ∙ sym (ap (last_state a first) (filter_join (is_done_of P) committed ds) ∙ (last_more a first (filter (is_done_of P) committed) (filter (is_done_of P) ds) ∙ x.last));
    }

-- one that does not only read
pub writes_set : (a : ℕ) (first : State) (kept readers : List Who) (u : Who) (P : Who → Bool) (os : List One) (committed ds : List Done) → is_kept u kept ≡ false
    → ((z : Who) → in_either kept readers z ≡ true → is_ahead u z os ≡ true → ⊥) → AllByRecursion (λ d. d.who ≡ u) ds → AllByRecursion (λ d. came_valued a d ≡ true → names u os ≡ true) ds → StatesLink a first (committed ++ ds)
    → last_one first (filter (λ o. true && is_kept o.who kept) os) ≡ last_state a first committed → last_one first (filter (λ o. true && is_kept o.who (kept ++ u ∷ [])) os) ≡ last_state a first (committed ++ ds)
    → (IsClosedAhead P kept readers first os → SetLinks a first kept P os committed) → IsClosedAhead P (kept ++ u ∷ []) readers first os → SetLinks a first (kept ++ u ∷ []) P os (committed ++ ds)
writes_set a first kept readers u P os committed ds fresh not own came links old new before closed = by (cases_Bool (P u)) (cases_Bool (names u os))
  where
    counts : (z y : Who) → is_kept z kept ≡ true → ChangedAhead (λ v. is_kept v kept) first z y os → ChangedAhead (λ v. is_kept v (kept ++ u ∷ [])) first z y os
    counts z y kz h = changed_counts (λ v. is_kept v kept) (λ v. is_kept v (kept ++ u ∷ [])) first z y os (λ v i j. sym (kept_other u v kept (false_from_ne_true (is_who u v) (λ q. not z (or_left (is_kept z kept) _ kz) (subst (λ x. is_ahead x z os ≡ true) (sym (is_who_true u v q)) i))))) h

    still : (z : Who) → is_kept z kept ≡ true → is_kept z (kept ++ u ∷ []) ≡ true
    still z k = any_front (λ y. is_who y z) kept (u ∷ []) k

    self : is_kept u (kept ++ u ∷ []) ≡ true
    self = any_back (λ z. is_who z u) kept (u ∷ []) (or_left (is_who u u) false (is_who_refl u))

    was : SetLinks a first kept P os committed
    was = before (λ z y p ey kz h. closed z y p (elim (or_cases (is_kept y kept) (is_kept y readers) ey) [ inl q ↦ or_left (is_kept y (kept ++ u ∷ [])) _ (still y q) | inr q ↦ or_right (is_kept y (kept ++ u ∷ [])) _ q ]) (still z kz) (counts z y kz h))

    same : (P u ≡ false) ⊎ (names u os ≡ false) → SetLinks a first kept P os (committed ++ ds) → SetLinks a first (kept ++ u ∷ []) P os (committed ++ ds)
    same h l = record { links = l.links; tells = ap (last_one first) (same_counted P kept u os h) ∙ l.tells }

    by : (P u ≡ true) ⊎ (P u ≡ false) → (names u os ≡ true) ⊎ (names u os ≡ false) → SetLinks a first (kept ++ u ∷ []) P os (committed ++ ds)
    by (inr e) n = same (inl e) (added_out a first kept P os committed ds (left_out P u ds e own) was)
    by (inl e) (inr n) = same (inr n) (added_none a first kept P os committed ds (none_came a u os ds n came) was)
    by (inl e) (inl n) = record {
      links = subst (StatesLink a first) (sym (filter_join (is_done_of P) committed ds)) (links_more a first (filter (is_done_of P) committed) (filter (is_done_of P) ds) was.links x.links);
      tells =
          last_is P (λ v. is_kept v (kept ++ u ∷ [])) first first u os n e self (λ z k i. elim (cases_Bool (is_who u z)) [ inl q ↦ q | inr q ↦ absurd (not z (or_left (is_kept z kept) _ (sym (kept_other u z kept q) ∙ k)) i) ])
          ∙ (new ∙ (last_more a first committed ds ∙ (ap (λ t. last_state a t ds) (sym there) ∙ sym (ap (last_state a first) (filter_join (is_done_of P) committed ds) ∙ (last_more a first (filter (is_done_of P) committed) (filter (is_done_of P) ds) ∙ x.last)))));
    }
      where
        there : last_state a first (filter (is_done_of P) committed) ≡ last_state a first committed
        there = sym was.tells ∙ (same_last P kept first u os n fresh (λ z k i. not z (or_left (is_kept z kept) _ k) i) (λ z k h. closed z u e (or_left (is_kept u (kept ++ u ∷ [])) _ self) (still z k) (counts z u k h)) ∙ old)

        x : Leave a (last_state a first (filter (is_done_of P) committed)) (last_state a (last_state a first (filter (is_done_of P) committed)) ds) (filter (is_done_of P) ds)
        x = of_own a P (last_state a first (filter (is_done_of P) committed)) ds (own_in P u ds e own) (subst (λ s. StatesLink a s ds) (sym there) (links_behind a first committed ds links))

-- one that only reads
pub reads_set : (a : ℕ) (first : State) (kept readers : List Who) (u : Who) (P : Who → Bool) (os : List One) (committed ds : List Done) → is_kept u kept ≡ false
    → ((z : Who) → is_kept z kept ≡ true → is_ahead u z os ≡ true → ⊥) → AllByRecursion (λ d. d.who ≡ u) ds → AllByRecursion (λ d. came_valued a d ≡ true → names u os ≡ true) ds → AllByRecursion (λ d. d.reader ≡ true) ds → AllByRecursion (λ d. d.reader ≡ true → LeavesIt (d.views a)) ds
    → StatesLink a first (committed ++ ds) → last_one first (filter (λ o. true && is_kept o.who kept) os) ≡ last_state a first committed
    → (IsClosedAhead P kept readers first os → SetLinks a first kept P os committed) → IsClosedAhead P kept (readers ++ u ∷ []) first os → SetLinks a first kept P os (committed ++ ds)
reads_set a first kept readers u P os committed ds fresh not own came only leaves links old before closed = by (cases_Bool (P u)) (cases_Bool (names u os))
  where
    was : SetLinks a first kept P os committed
    was = before (λ z y p ey kz h. closed z y p (elim (or_cases (is_kept y kept) (is_kept y readers) ey) [ inl q ↦ or_left (is_kept y kept) _ q | inr q ↦ or_right (is_kept y kept) _ (any_front (λ v. is_who v y) readers (u ∷ []) q) ]) kz h)

    self : is_kept u (readers ++ u ∷ []) ≡ true
    self = any_back (λ z. is_who z u) readers (u ∷ []) (or_left (is_who u u) false (is_who_refl u))

    by : (P u ≡ true) ⊎ (P u ≡ false) → (names u os ≡ true) ⊎ (names u os ≡ false) → SetLinks a first kept P os (committed ++ ds)
    by (inr e) n = added_out a first kept P os committed ds (left_out P u ds e own) was
    by (inl e) (inr n) = added_none a first kept P os committed ds (none_came a u os ds n came) was
    by (inl e) (inl n) = record {
      links = subst (StatesLink a first) (sym (filter_join (is_done_of P) committed ds)) (links_more a first (filter (is_done_of P) committed) (filter (is_done_of P) ds) was.links x.links);
      tells = was.tells ∙ sym (ap (last_state a first) (filter_join (is_done_of P) committed ds) ∙ (last_more a first (filter (is_done_of P) committed) (filter (is_done_of P) ds) ∙ (x.last ∙ of_readers a (last_state a first (filter (is_done_of P) committed)) ds only leaves next)));
    }
      where
        there : last_state a first (filter (is_done_of P) committed) ≡ last_state a first committed
        there = sym was.tells ∙ (same_last P kept first u os n fresh not (λ z k h. closed z u e (or_right (is_kept u kept) _ self) k h) ∙ old)

        next : StatesLink a (last_state a first (filter (is_done_of P) committed)) ds
        next = subst (λ s. StatesLink a s ds) (sym there) (links_behind a first committed ds links)

        x : Leave a (last_state a first (filter (is_done_of P) committed)) (last_state a (last_state a first (filter (is_done_of P) committed)) ds) (filter (is_done_of P) ds)
        x = of_own a P (last_state a first (filter (is_done_of P) committed)) ds (own_in P u ds e own) next
