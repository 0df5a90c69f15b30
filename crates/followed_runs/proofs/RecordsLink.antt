-- Over every run: from the last state before the record of one that committed, its transactions go to the state that the record tells.
use Rattle.std.specs.Prelude.{◌≡◌, ◌≢◌, refl, ℕ, ◌%◌, ◌⊎◌, Bool, true, false, ◌&&◌, if◌then◌else◌, Option, Some, None, List, [], ◌∷◌, ◌++◌, filter, ⊤}
use Rattle.std.specs.List.{AllByRecursion}
use Rattle.std.proofs.Common.{sym, ap, subst, inl, inr, ◌∙◌}
use Rattle.std.proofs.lemmas.List.{append-nil}
use Rattle.std.proofs.lemmas.Bool.{true≢false, or_cases, or_left, or_right, or_from, and_parts, and_from, cases_Bool, false_from_ne_true}
use Rattle.snap_base.specs.declared.transactions.Tx.{Tx}
use Rattle.snap_base.specs.declared.transactions.State.{State}
use Rattle.protocol.specs.Facts.{Alone}
use Rattle.protocol.specs.Fixed.{Fixed}
use Rattle.protocol.specs.Parts.{Who, Machine}
use Rattle.protocol.specs.Events.{Event}
use Rattle.protocol.specs.Words.{is_who, is_value}
use Rattle.protocol.specs.Conditions.{IsAllowed}
use Rattle.protocol.specs.Effects.{after}
use Rattle.protocol.specs.Runs.{IsRun, reached}
use Rattle.protocol.specs.History.{View, Done, History, history, grown}
use Rattle.protocol_laws.specs.Commits.{is_kept, Finds, left_as, left_of, StatesLink, last_state}
use Rattle.protocol_laws.proofs.first.Lists.{filter_join}
use Rattle.protocol_laws.proofs.machine.CommitLists.{last_more}
use Rattle.protocol_laws.proofs.machine.TrackLists.{is_who_true, is_who_refl}
use Rattle.protocol_laws.proofs.machine.Good.{Given}
use Rattle.protocol_laws.proofs.machine.AllGood.{AllGood, along_good}
use Rattle.protocol_laws.proofs.machine.AllGood as all
use Rattle.protocol_records.specs.Telling.{One, told_states, names, last_one}
use Rattle.protocol_records.proofs.crash.CrashParts.{no_records}
use Rattle.protocol_records.proofs.crash.Durable.{any_back}
use Rattle.protocol_records.proofs.crash.NoneBehind.{Both, both_kept, both_opened}
use Rattle.protocol_records.proofs.crash.OnceKept.{AllOnce}
use Rattle.protocol_records.proofs.crash.RecoversKept.{ToldStep, told_step, first_of}
use Rattle.protocol_records.proofs.crash.ToldOnce.{OnceTold}
use Rattle.followed_runs.specs.Following.{is_ahead, ChangedAhead}
use Rattle.followed_runs.proofs.ReadersFirst.{told_at}
use Rattle.followed_runs.proofs.OneCommits.{in_either, Writes, Reads, Nobody, commits_now}
use Rattle.followed_runs.proofs.InOrder.{InOrder, order_kept, order_opened, kept_other}
use Rattle.followed_runs.proofs.SetLists.{is_done_of, of_own, own_in, links_behind}
use Rattle.followed_runs.proofs.SetsLink.{all_link, all_tell, no_values}

-- from the last state before each record of one that committed and does not only read
abbrev pub RecordsLink : ℕ → List Who → List Done → State → List One → Type 0
RecordsLink a kept ds s [] = ⊤
RecordsLink a kept ds s (o ∷ os) =
    (is_kept o.who kept ≡ true → StatesLink a s (filter (is_done_of (is_who o.who)) ds) × (last_state a s (filter (is_done_of (is_who o.who)) ds) ≡ o.state)) × RecordsLink a kept ds (if is_kept o.who kept then o.state else s) os

-- ---- who has changed the actor, and its record

none_left : (b : Bool) (s : State) → left_as b None s ≡ s
none_left true s = refl
none_left false s = refl

-- what goes on from two states goes on from one, or leaves it as it was
from_two : (a : ℕ) (s t : State) (ds : List Done) → StatesLink a s ds → StatesLink a t ds → (s ≡ t) ⊎ (last_state a t ds ≡ t)
from_two a s t [] l m = inr refl
from_two a s t (d ∷ ds) l m = by (d.views a) refl (from_two a (left_of a d s) (left_of a d t) ds l.1 m.1) l.0 m.0
  where
    by : (o : Option View) → d.views a ≡ o → (left_of a d s ≡ left_of a d t) ⊎ (last_state a (left_of a d t) ds ≡ left_of a d t) → Finds (d.views a) s → Finds (d.views a) t → (s ≡ t) ⊎ (last_state a (left_of a d t) ds ≡ t)
    by (Some v) e r f g = inl (sym (subst (λ x. Finds x s) e f) ∙ subst (λ x. Finds x t) e g)
    by None e r f g =
        let same : (u : State) → left_of a d u ≡ u = λ u. ap (λ x. left_as (is_value d.result) x u) e ∙ none_left (is_value d.result) u in
        elim r [ inl q ↦ inl (sym (same s) ∙ (q ∙ same t)) | inr q ↦ inr (q ∙ same t) ]

-- Who left another state than it found, and has its record ahead of one, changed the actor ahead of it.
pub change_is_told : (a : ℕ) (kept : List Who) (ds : List Done) (s found : State) (z y : Who) (os : List One) → RecordsLink a kept ds s os → is_kept z kept ≡ true → StatesLink a found (filter (is_done_of (is_who z)) ds) → last_state a found (filter (is_done_of (is_who z)) ds) ≢ found → is_ahead z y os ≡ true
    → ChangedAhead (λ v. is_kept v kept) s z y os
change_is_told a kept ds s found z y [] r k l n i = absurd (true≢false (sym i))
change_is_told a kept ds s found z y (o ∷ os) r k l n i = elim (or_cases (is_who z o.who && names y os) (is_ahead z y os) i) [
  | inl q ↦ let p = and_parts (is_who z o.who) (names y os) q in inl (p.0, (λ e. another (subst (λ v. is_kept v kept ≡ true → StatesLink a s (filter (is_done_of (is_who v)) ds) × (last_state a s (filter (is_done_of (is_who v)) ds) ≡ o.state)) (sym (is_who_true z o.who p.0)) r.0 k) e), p.1)
  | inr q ↦ inr (change_is_told a kept ds (if is_kept o.who kept then o.state else s) found z y os r.1 k l n q)
]
  where
    another : StatesLink a s (filter (is_done_of (is_who z)) ds) × (last_state a s (filter (is_done_of (is_who z)) ds) ≡ o.state) → o.state ≡ s → ⊥
    another h e = elim (from_two a s found (filter (is_done_of (is_who z)) ds) h.0 l) [
      | inl q ↦ n (subst (λ x. last_state a x (filter (is_done_of (is_who z)) ds) ≡ x) q (h.1 ∙ e))
      | inr q ↦ n q
    ]

-- ---- lists

-- what the others did is the same
others_same : (z u : Who) (committed ds : List Done) → is_who u z ≡ false → AllByRecursion (λ d. d.who ≡ u) ds → filter (is_done_of (is_who z)) (committed ++ ds) ≡ filter (is_done_of (is_who z)) committed
others_same z u committed ds n o = filter_join (is_done_of (is_who z)) committed ds ∙ (ap (λ l. filter (is_done_of (is_who z)) committed ++ l) (none ds o) ∙ append-nil (filter (is_done_of (is_who z)) committed))
  where
    other : is_who z u ≡ false
    other = false_from_ne_true (is_who z u) (λ q. true≢false (sym (subst (λ v. is_who v z ≡ true) (is_who_true z u q) (is_who_refl z)) ∙ n))

    none : (ds : List Done) → AllByRecursion (λ d. d.who ≡ u) ds → filter (is_done_of (is_who z)) ds ≡ []
    none [] o = refl
    none (d ∷ ds) o = rw (ap (is_who z) o.0 ∙ other, none ds o.1) refl

values_same : (z : Who) (committed ds : List Done) → AllByRecursion (λ d. is_value d.result ≡ false) ds → filter (is_done_of (is_who z)) (committed ++ ds) ≡ filter (is_done_of (is_who z)) committed
values_same z committed ds n = filter_join (is_done_of (is_who z)) committed ds ∙ (ap (λ l. filter (is_done_of (is_who z)) committed ++ l) (no_values (is_who z) ds n) ∙ append-nil (filter (is_done_of (is_who z)) committed))

-- before it commits it did nothing with a value
nothing_yet : (u : Who) (kept readers : List Who) (committed : List Done) → is_kept u kept ≡ false → is_kept u readers ≡ false → AllByRecursion (λ d. is_value d.result ≡ true → in_either kept readers d.who ≡ true) committed → filter (is_done_of (is_who u)) committed ≡ []
nothing_yet u kept readers [] f r h = refl
nothing_yet u kept readers (d ∷ ds) f r h = by (is_who u d.who) (is_value d.result) refl refl (nothing_yet u kept readers ds f r h.1)
  where
    by : (b v : Bool) → is_who u d.who ≡ b → is_value d.result ≡ v → filter (is_done_of (is_who u)) ds ≡ [] → (if b && v then d ∷ filter (is_done_of (is_who u)) ds else filter (is_done_of (is_who u)) ds) ≡ []
    by true true e g k = absurd (true≢false (sym (h.0 g) ∙ (ap (in_either kept readers) (sym (is_who_true u d.who e)) ∙ or_from (is_kept u kept) (is_kept u readers) f r)))
    by true false e g k = k
    by false v e g k = k

-- the same transactions of each
same_links : (a : ℕ) (kept : List Who) (ds es : List Done) (s : State) (os : List One) → ((z : Who) → is_kept z kept ≡ true → filter (is_done_of (is_who z)) es ≡ filter (is_done_of (is_who z)) ds) → RecordsLink a kept ds s os → RecordsLink a kept es s os
same_links a kept ds es s [] e r = tt
same_links a kept ds es s (o ∷ os) e r = ((λ k. subst (λ l. StatesLink a s l × (last_state a s l ≡ o.state)) (sym (e o.who k)) (r.0 k)), same_links a kept ds es (if is_kept o.who kept then o.state else s) os e r.1)

-- with a record more, of one that did not commit
record_more : (a : ℕ) (kept : List Who) (ds : List Done) (s : State) (os : List One) (n : One) → is_kept n.who kept ≡ false → RecordsLink a kept ds s os → RecordsLink a kept ds s (os ++ n ∷ [])
record_more a kept ds s [] n e r = ((λ k. absurd (true≢false (sym k ∙ e))), tt)
record_more a kept ds s (o ∷ os) n e r = (r.0, record_more a kept ds (if is_kept o.who kept then o.state else s) os n e r.1)

step_links : (a : ℕ) (kept readers : List Who) (ds : List Done) (s : State) (os os' : List One) → ToldStep kept readers os os' → RecordsLink a kept ds s os → RecordsLink a kept ds s os'
step_links a kept readers ds s os os' (inl e) r = subst (RecordsLink a kept ds s) (sym e) r
step_links a kept readers ds s os os' (inr n) r = subst (RecordsLink a kept ds s) (sym n.1) (record_more a kept ds s os n.0 n.2 r)

-- no record of one that committed
none_link : (a : ℕ) (kept : List Who) (ds : List Done) (s : State) (os : List One) → ((z : Who) → is_kept z kept ≡ true → names z os ≡ true → ⊥) → RecordsLink a kept ds s os
none_link a kept ds s [] n = tt
none_link a kept ds s (o ∷ os) n = ((λ k. absurd (n o.who k (or_left (is_who o.who o.who) _ (is_who_refl o.who)))), none_link a kept ds (if is_kept o.who kept then o.state else s) os (λ z k m. n z k (or_right (is_who z o.who) _ m)))

none_counts : (kept : List Who) (os : List One) → ((z : Who) → is_kept z kept ≡ true → names z os ≡ true → ⊥) → filter (λ o. true && is_kept o.who kept) os ≡ []
none_counts kept [] n = refl
none_counts kept (o ∷ os) n = let e : is_kept o.who kept ≡ false = false_from_ne_true (is_kept o.who kept) (λ q. n o.who q (or_left (is_who o.who o.who) _ (is_who_refl o.who))) in rw e (none_counts kept os (λ z k m. n z k (or_right (is_who z o.who) _ m)))

-- one more commits, and does not only read
writes_link : (a : ℕ) (kept : List Who) (u : Who) (committed ds : List Done) (now left s : State) (os : List One) → is_kept u kept ≡ false → OnceTold os → ((z : Who) → is_kept z kept ≡ true → is_ahead u z os ≡ true → ⊥)
    → ((z : Who) → is_who u z ≡ false → filter (is_done_of (is_who z)) (committed ++ ds) ≡ filter (is_done_of (is_who z)) committed) → StatesLink a now (filter (is_done_of (is_who u)) (committed ++ ds)) × (last_state a now (filter (is_done_of (is_who u)) (committed ++ ds)) ≡ left)
    → last_one s (filter (λ o. true && is_kept o.who kept) os) ≡ now → (names u os ≡ true → last_one s (filter (λ o. true && is_kept o.who (kept ++ u ∷ [])) os) ≡ left) → RecordsLink a kept committed s os → RecordsLink a (kept ++ u ∷ []) (committed ++ ds) s os
writes_link a kept u committed ds now left s [] fresh once not other own before behind r = tt
writes_link a kept u committed ds now left s (o ∷ os) fresh once not other own before behind r = elim (cases_Bool (is_who u o.who)) [
  | inl e ↦
      let v : u ≡ o.who = is_who_true u o.who e in
      let out : is_kept o.who kept ≡ false = ap (λ z. is_kept z kept) (sym v) ∙ fresh in
      let self : is_kept o.who (kept ++ u ∷ []) ≡ true = any_back (λ z. is_who z o.who) kept (u ∷ []) (or_left (is_who u o.who) false e) in
      let none : (z : Who) → is_kept z kept ≡ true → names z os ≡ true → ⊥ = λ z k m. not z k (or_left (is_who u o.who && names z os) _ (and_from (is_who u o.who) (names z os) e m)) in
      let none2 : (z : Who) → is_kept z (kept ++ u ∷ []) ≡ true → names z os ≡ true → ⊥ = λ z k m. elim (cases_Bool (is_who u z)) [
        | inl q ↦ true≢false (sym m ∙ (ap (λ x. names x os) (sym (is_who_true u z q) ∙ v) ∙ once.0))
        | inr q ↦ none z (sym (kept_other u z kept q) ∙ k) m
      ] in
      let here : s ≡ now = first (is_kept o.who kept) out (none_counts kept os none) before in
      let told : o.state ≡ left = second (is_kept o.who (kept ++ u ∷ [])) self (none_counts (kept ++ u ∷ []) os none2) (behind (or_left (is_who u o.who) _ e)) in (
        (λ k. subst (λ z. StatesLink a s (filter (is_done_of (is_who z)) (committed ++ ds)) × (last_state a s (filter (is_done_of (is_who z)) (committed ++ ds)) ≡ o.state)) v (subst (λ t. StatesLink a t (filter (is_done_of (is_who u)) (committed ++ ds)) × (last_state a t (filter (is_done_of (is_who u)) (committed ++ ds)) ≡ o.state)) (sym here) (own.0, own.1 ∙ sym told))),
        none_link a (kept ++ u ∷ []) (committed ++ ds) (if is_kept o.who (kept ++ u ∷ []) then o.state else s) os none2,
      )
  | inr e ↦ (
    (λ k. subst (λ l. StatesLink a s l × (last_state a s l ≡ o.state)) (sym (other o.who e)) (r.0 (sym (kept_other u o.who kept e) ∙ k))),
    subst (λ b. RecordsLink a (kept ++ u ∷ []) (committed ++ ds) (if b then o.state else s) os) (sym (kept_other u o.who kept e))
        (writes_link a kept u committed ds now left (if is_kept o.who kept then o.state else s) os fresh once.1 (λ z k i. not z k (or_right (is_who u o.who && names z os) _ i)) other own (third (λ v. is_kept v kept) (is_kept o.who kept) before)
        (λ m. subst (λ b. last_one (if b then o.state else s) (filter (λ o. true && is_kept o.who (kept ++ u ∷ [])) os) ≡ left) (kept_other u o.who kept e) (third (λ v. is_kept v (kept ++ u ∷ [])) (is_kept o.who (kept ++ u ∷ [])) (behind (or_right (is_who u o.who) _ m)))) r.1),
  )
]
  where
    first : (b : Bool) → b ≡ false → filter (λ o. true && is_kept o.who kept) os ≡ [] → last_one s (if true && b then o ∷ filter (λ o. true && is_kept o.who kept) os else filter (λ o. true && is_kept o.who kept) os) ≡ now → s ≡ now
    first true e n q = absurd (true≢false e)
    first false e n q = sym (ap (last_one s) n) ∙ q

    second : (b : Bool) → b ≡ true → filter (λ o. true && is_kept o.who (kept ++ u ∷ [])) os ≡ [] → last_one s (if true && b then o ∷ filter (λ o. true && is_kept o.who (kept ++ u ∷ [])) os else filter (λ o. true && is_kept o.who (kept ++ u ∷ [])) os) ≡ left → o.state ≡ left
    second true e n q = sym (ap (last_one o.state) n) ∙ q
    second false e n q = absurd (true≢false (sym e))

    third : {t : State} (c : Who → Bool) (b : Bool) → last_one s (if true && b then o ∷ filter (λ o. true && c o.who) os else filter (λ o. true && c o.who) os) ≡ t → last_one (if b then o.state else s) (filter (λ o. true && c o.who) os) ≡ t
    third c true q = q
    third c false q = q

-- ---- along a run

pub record Told {C : Type 0} (w : Fixed C) (Of : Tx → C → Type 0) (finish : C → List State → Alone) (s : Machine C) (h : History) : Type 0 where
  pub order : InOrder w Of finish s h
  pub both : Both w s h
  pub links : (a : ℕ) → RecordsLink a h.kept h.committed (first_of w a) (told_at w s a)

links_kept : {C : Type 0} (w : Fixed C) (Of : Tx → C → Type 0) (finish : C → List State → Alone) (e : Event) (s : Machine C) (h : History) → Given w Of finish → IsAllowed w e s → AllGood w Of finish s h → Told w Of finish s h → (a : ℕ) → RecordsLink a (grown w e s h).kept (grown w e s h).committed (first_of w a) (told_at w (after w e s) a)
unfolding AllOnce
links_kept {C} w Of finish e s h v ok g i a = by (commits_now w Of finish e s h v ok g i.order.known)
  where
    good : AllGood w Of finish (after w e s) (grown w e s h)
    good = all.kept w Of finish e s h v ok g

    order : InOrder w Of finish (after w e s) (grown w e s h)
    order = order_kept w Of finish e s h v ok g i.order

    new : (u : Who) (n : Writes w e s h u) → last_one (first_of w a) (filter (λ o. true && is_kept o.who (h.kept ++ u ∷ [])) (told_at w s a)) ≡ last_state a (first_of w a) (h.committed ++ n.one.ds)
    new u n =
        subst (λ k. last_one (first_of w a) (filter (λ o. true && is_kept o.who k) (told_at w s a)) ≡ last_state a (first_of w a) (h.committed ++ n.one.ds)) n.kept
        (subst (λ os. last_one (first_of w a) (filter (λ o. true && is_kept o.who (grown w e s h).kept) os) ≡ last_state a (first_of w a) (h.committed ++ n.one.ds)) (n.one.told a)
        (subst (λ ds. last_one (first_of w a) (filter (λ o. true && is_kept o.who (grown w e s h).kept) (told_at w (after w e s) a)) ≡ last_state a (first_of w a) ds) n.one.done
        (all_tell w Of finish (after w e s) (grown w e s h) a good order)))

    -- what it did goes from the state that all before it left to the one that all leave
    own : (u : Who) (n : Writes w e s h u) → StatesLink a (last_state a (first_of w a) h.committed) (filter (is_done_of (is_who u)) (h.committed ++ n.one.ds)) × (last_state a (last_state a (first_of w a) h.committed) (filter (is_done_of (is_who u)) (h.committed ++ n.one.ds)) ≡ last_state a (first_of w a) (h.committed ++ n.one.ds))
    own u n =
        let same : filter (is_done_of (is_who u)) n.one.ds ≡ filter (is_done_of (is_who u)) (h.committed ++ n.one.ds) = sym (filter_join (is_done_of (is_who u)) h.committed n.one.ds ∙ ap (λ l. l ++ filter (is_done_of (is_who u)) n.one.ds) (nothing_yet u h.kept h.kept_readers h.committed n.one.fresh n.one.unread i.order.done)) in
        let x = of_own a (is_who u) (last_state a (first_of w a) h.committed) n.one.ds (own_in (is_who u) u n.one.ds (is_who_refl u) n.one.own) (links_behind a (first_of w a) h.committed n.one.ds (subst (StatesLink a (first_of w a)) n.one.done (all_link w Of finish (after w e s) (grown w e s h) a good))) in
        (subst (StatesLink a (last_state a (first_of w a) h.committed)) same x.links, ap (last_state a (last_state a (first_of w a) h.committed)) (sym same) ∙ (x.last ∙ sym (last_more a (first_of w a) h.committed n.one.ds)))

    by : Nobody w e s h ⊎ (((u : Who) × Writes w e s h u) ⊎ ((u : Who) × Reads w e s h u)) → RecordsLink a (grown w e s h).kept (grown w e s h).committed (first_of w a) (told_at w (after w e s) a)
    by (inl n) =
        subst (λ k. RecordsLink a k (grown w e s h).committed (first_of w a) (told_at w (after w e s) a)) (sym n.kept)
        (subst (λ ds. RecordsLink a h.kept ds (first_of w a) (told_at w (after w e s) a)) (sym n.done)
        (same_links a h.kept h.committed (h.committed ++ n.ds) (first_of w a) (told_at w (after w e s) a) (λ z k. values_same z h.committed n.ds n.none)
        (step_links a h.kept h.kept_readers h.committed (first_of w a) (told_at w s a) (told_at w (after w e s) a) (told_step w Of finish e s h a ok g i.order.known.logs.acts i.order.known.logs.stand) (i.links a))))
    by (inr (inr m)) =
        let n = m.1 in
        subst (λ k. RecordsLink a k (grown w e s h).committed (first_of w a) (told_at w (after w e s) a)) (sym n.kept)
        (subst (λ ds. RecordsLink a h.kept ds (first_of w a) (told_at w (after w e s) a)) (sym n.one.done)
        (subst (RecordsLink a h.kept (h.committed ++ n.one.ds) (first_of w a)) (sym (n.one.told a))
        (same_links a h.kept h.committed (h.committed ++ n.one.ds) (first_of w a) (told_at w s a) (λ z k. others_same z m.0 h.committed n.one.ds (false_from_ne_true (is_who m.0 z) (λ q. true≢false (sym k ∙ (ap (λ x. is_kept x h.kept) (sym (is_who_true m.0 z q)) ∙ n.one.fresh)))) n.one.own) (i.links a))))
    by (inr (inl m)) =
        let n = m.1 in
        subst (λ k. RecordsLink a k (grown w e s h).committed (first_of w a) (told_at w (after w e s) a)) (sym n.kept)
        (subst (λ ds. RecordsLink a (h.kept ++ m.0 ∷ []) ds (first_of w a) (told_at w (after w e s) a)) (sym n.one.done)
        (subst (RecordsLink a (h.kept ++ m.0 ∷ []) (h.committed ++ n.one.ds) (first_of w a)) (sym (n.one.told a))
        (writes_link a h.kept m.0 h.committed n.one.ds (last_state a (first_of w a) h.committed) (last_state a (first_of w a) (h.committed ++ n.one.ds)) (first_of w a) (told_at w s a) n.one.fresh (i.both.once.once a) (λ z k q. n.not_ahead a z (or_left (is_kept z h.kept) _ k) q)
        (λ z q. others_same z m.0 h.committed n.one.ds q n.one.own) (own m.0 n) (all_tell w Of finish s h a g i.order) (λ q. new m.0 n) (i.links a))))

pub told : {C : Type 0} (w : Fixed C) (Of : Tx → C → Type 0) (finish : C → List State → Alone) (es : List Event) → Given w Of finish → IsRun w es → Told w Of finish (reached w es) (history w es)
told w Of finish es v run = along_good w Of finish (Told w Of finish) v
    (λ e s h ok g i. record { order = order_kept w Of finish e s h v ok g i.order; both = both_kept w Of finish e s h v ok g i.both; links = links_kept w Of finish e s h v ok g i })
    (record { order = order_opened w Of finish v; both = both_opened w; links = λ a. subst (λ rs. RecordsLink a [] [] (first_of w a) (told_states a rs)) (sym (no_records w.text.logs (a % w.text.logs))) tt }) es run
