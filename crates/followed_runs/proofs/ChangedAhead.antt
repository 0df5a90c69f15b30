-- Whose record changed the state ahead of whose among the records of an actor.
use Rattle.std.specs.Prelude.{◌≡◌, ◌≢◌, refl, ◌⊎◌, ℤ, Bool, true, false, ◌&&◌, if◌then◌else◌, List, [], ◌∷◌, ◌++◌, filter}
use Rattle.std.specs.Cmp.Lexicographic.{pointwise}
use Rattle.std.specs.Ordering.{int_eq}
use Rattle.std.proofs.Common.{sym, ap, subst, inl, inr, ◌∙◌}
use Rattle.std.proofs.lemmas.Bool.{true≢false, or_cases, or_left, or_right, or_parts, and_from, cases_Bool}
use Rattle.std.proofs.lemmas.Bool.Decides.{Decides-int_eq}
use Rattle.std.proofs.lemmas.Slice.Eq.{slice_eq-Decides}
use Rattle.snap_base.specs.declared.transactions.State.{State}
use Rattle.protocol.specs.Parts.{Who}
use Rattle.protocol.specs.Words.{is_who}
use Rattle.protocol_laws.specs.Commits.{is_kept}
use Rattle.protocol_laws.proofs.first.Lists.{any_front, any_join}
use Rattle.protocol_laws.proofs.machine.TrackLists.{is_who_true, is_who_refl}
use Rattle.protocol_records.specs.Telling.{One, names, last_one}
use Rattle.protocol_records.proofs.crash.Durable.{any_back}
use Rattle.followed_runs.specs.Following.{is_ahead, Changes, ChangedAhead}
use Rattle.followed_runs.proofs.Ahead.{ahead_first, ahead_second}
use Rattle.followed_runs.proofs.OneCommits.{in_either}
use Rattle.followed_runs.proofs.InOrder.{ReadersTell}

-- ---- two states are the same, or not

abbrev state_of : List ℤ → State
state_of xs = record { 0 = xs }

pub same_or_not : (s t : State) → (s ≡ t) ⊎ (s ≢ t)
same_or_not s t = by (cases_Bool (pointwise int_eq s.0 t.0))
  where
    by : ((pointwise int_eq s.0 t.0) ≡ true) ⊎ ((pointwise int_eq s.0 t.0) ≡ false) → (s ≡ t) ⊎ (s ≢ t)
    by (inl e) = inl (ap state_of ((slice_eq-Decides Decides-int_eq s.0 t.0 _ refl).0 e))
    by (inr e) = inr (λ q. true≢false (sym ((slice_eq-Decides Decides-int_eq s.0 t.0 _ refl).1 (ap (λ (z : State). z.0) q)) ∙ e))

-- ---- among records

-- who changed the actor ahead of one has its record ahead of it
pub changed_is_ahead : (c : Who → Bool) (s : State) (z y : Who) (os : List One) → ChangedAhead c s z y os → is_ahead z y os ≡ true
changed_is_ahead c s z y [] h = absurd h
changed_is_ahead c s z y (o ∷ os) (inl h) = or_left (is_who z o.who && names y os) _ (and_from (is_who z o.who) (names y os) h.0 h.2)
changed_is_ahead c s z y (o ∷ os) (inr h) = or_right (is_who z o.who && names y os) _ (changed_is_ahead c (if c o.who then o.state else s) z y os h)

-- whose record is the first one of these is ahead of all that have one behind it
head_ahead : (o : One) (y : Who) (os : List One) → names y os ≡ true → is_ahead o.who y (o ∷ os) ≡ true
head_ahead o y os n = or_left (is_who o.who o.who && names y os) _ (and_from (is_who o.who o.who) (names y os) (is_who_refl o.who) n)

-- where the same ones count, of those that are ahead of both
pub changed_counts : (c d : Who → Bool) (s : State) (z y : Who) (os : List One) → ((v : Who) → is_ahead v z os ≡ true → is_ahead v y os ≡ true → c v ≡ d v) → ChangedAhead c s z y os → ChangedAhead d s z y os
changed_counts c d s z y [] e h = h
changed_counts c d s z y (o ∷ os) e (inl h) = inl h
changed_counts c d s z y (o ∷ os) e (inr h) =
    let i = changed_is_ahead c (if c o.who then o.state else s) z y os h in
    inr (subst (λ b. ChangedAhead d (if b then o.state else s) z y os) (e o.who (head_ahead o z os (ahead_first z y os i)) (head_ahead o y os (ahead_second z y os i)))
    (changed_counts c d (if c o.who then o.state else s) z y os (λ v p q. e v (or_right (is_who v o.who && names z os) _ p) (or_right (is_who v o.who && names y os) _ q)) h))

-- in a front that names all records of the one behind
pub changed_cut : (c : Who → Bool) (s : State) (z y : Who) (os ms : List One) → names y ms ≡ false → ChangedAhead c s z y (os ++ ms) → ChangedAhead c s z y os
changed_cut c s z y [] ms n h = absurd (true≢false (sym (ahead_second z y ms (changed_is_ahead c s z y ms h)) ∙ n))
changed_cut c s z y (o ∷ os) ms n (inl h) = inl (h.0, h.1, elim (any_join (λ v. is_who y v.who) os ms h.2) [ inl v ↦ v | inr v ↦ absurd (true≢false (sym v ∙ n)) ])
changed_cut c s z y (o ∷ os) ms n (inr h) = inr (changed_cut c (if c o.who then o.state else s) z y os ms n h)

pub changed_more : (c : Who → Bool) (s : State) (z y : Who) (os ms : List One) → ChangedAhead c s z y os → ChangedAhead c s z y (os ++ ms)
changed_more c s z y [] ms h = absurd h
changed_more c s z y (o ∷ os) ms (inl h) = inl (h.0, h.1, any_front (λ v. is_who y v.who) os ms h.2)
changed_more c s z y (o ∷ os) ms (inr h) = inr (changed_more c (if c o.who then o.state else s) z y os ms h)

-- behind others, from the state that the last one of them that counts tells
pub changed_back : (c : Who → Bool) (s : State) (z y : Who) (xs os : List One) → ChangedAhead c (last_one s (filter (λ o. c o.who) xs)) z y os → ChangedAhead c s z y (xs ++ os)
changed_back c s z y [] os h = h
changed_back c s z y (x ∷ xs) os h = inr (changed_back c (if c x.who then x.state else s) z y xs os (subst (λ t. ChangedAhead c t z y os) (next (c x.who)) h))
  where
    next : (b : Bool) → last_one s (if b then x ∷ filter (λ o. c o.who) xs else filter (λ o. c o.who) xs) ≡ last_one (if b then x.state else s) (filter (λ o. c o.who) xs)
    next true = refl
    next false = refl

-- who changed it and has no record in the front did so behind it
pub changed_drop : (c : Who → Bool) (s : State) (z y : Who) (xs os : List One) → names z xs ≡ false → ChangedAhead c s z y (xs ++ os) → ChangedAhead c (last_one s (filter (λ o. c o.who) xs)) z y os
changed_drop c s z y [] os n h = h
changed_drop c s z y (x ∷ xs) os n (inl h) = absurd (true≢false (sym h.0 ∙ (or_parts (is_who z x.who) (names z xs) n).0))
changed_drop c s z y (x ∷ xs) os n (inr h) = subst (λ t. ChangedAhead c t z y os) (sym (next (c x.who))) (changed_drop c (if c x.who then x.state else s) z y xs os (or_parts (is_who z x.who) (names z xs) n).1 h)
  where
    next : (b : Bool) → last_one s (if b then x ∷ filter (λ o. c o.who) xs else filter (λ o. c o.who) xs) ≡ last_one (if b then x.state else s) (filter (λ o. c o.who) xs)
    next true = refl
    next false = refl

-- ---- who changed the actor

-- where the same ones count, of those that have a record
pub filter_named : (c d : Who → Bool) (os : List One) → ((v : Who) → names v os ≡ true → c v ≡ d v) → filter (λ o. c o.who) os ≡ filter (λ o. d o.who) os
filter_named c d [] e = refl
filter_named c d (o ∷ os) e = rw (e o.who (or_left (is_who o.who o.who) _ (is_who_refl o.who)), filter_named c d os (λ v n. e v (or_right (is_who v o.who) _ n))) refl

pub changes_counts : (c d : Who → Bool) (s : State) (z : Who) (os : List One) → ((v : Who) → names v os ≡ true → c v ≡ d v) → Changes c s z os → Changes d s z os
changes_counts c d s z [] e h = h
changes_counts c d s z (o ∷ os) e (inl h) = inl h
changes_counts c d s z (o ∷ os) e (inr h) = inr (subst (λ b. Changes d (if b then o.state else s) z os) (e o.who (or_left (is_who o.who o.who) _ (is_who_refl o.who))) (changes_counts c d (if c o.who then o.state else s) z os (λ v n. e v (or_right (is_who v o.who) _ n)) h))

-- with one that has a record behind all of these
pub changes_across : (c : Who → Bool) (s : State) (z y : Who) (xs os : List One) → names y os ≡ true → Changes c s z xs → ChangedAhead c s z y (xs ++ os)
changes_across c s z y [] os n h = absurd h
changes_across c s z y (x ∷ xs) os n (inl h) = inl (h.0, h.1, any_back (λ o. is_who y o.who) xs os n)
changes_across c s z y (x ∷ xs) os n (inr h) = inr (changes_across c (if c x.who then x.state else s) z y xs os n h)

-- Where all of a set count, and who counts and is not in it changed nothing, its last record tells the same.
pub same_told : (P c : Who → Bool) (s : State) (os : List One) → ((z : Who) → names z os ≡ true → P z ≡ true → c z ≡ true) → ((z : Who) → c z ≡ true → Changes c s z os → P z ≡ true) → last_one s (filter (λ o. P o.who) os) ≡ last_one s (filter (λ o. c o.who) os)
same_told P c s [] i k = refl
same_told P c s (o ∷ os) i k = by (P o.who) (c o.who) refl refl (same_told P c (if c o.who then o.state else s) os (λ z n p. i z (or_right (is_who z o.who) _ n) p) (λ z e h. k z e (inr h)))
  where
    by : (p b : Bool) → P o.who ≡ p → c o.who ≡ b → last_one (if c o.who then o.state else s) (filter (λ o. P o.who) os) ≡ last_one (if c o.who then o.state else s) (filter (λ o. c o.who) os)
        → last_one s (if p then o ∷ filter (λ o. P o.who) os else filter (λ o. P o.who) os) ≡ last_one s (if b then o ∷ filter (λ o. c o.who) os else filter (λ o. c o.who) os)
    by true true e f r = subst (λ b. last_one (if b then o.state else s) (filter (λ o. P o.who) os) ≡ last_one (if b then o.state else s) (filter (λ o. c o.who) os)) f r
    by false false e f r = subst (λ b. last_one (if b then o.state else s) (filter (λ o. P o.who) os) ≡ last_one (if b then o.state else s) (filter (λ o. c o.who) os)) f r
    by true false e f r = absurd (true≢false (sym (i o.who (or_left (is_who o.who o.who) _ (is_who_refl o.who)) e) ∙ f))
    by false true e f r = elim (same_or_not o.state s) [
      | inl q ↦ ap (λ x. last_one x (filter (λ o. P o.who) os)) (sym q) ∙ subst (λ b. last_one (if b then o.state else s) (filter (λ o. P o.who) os) ≡ last_one (if b then o.state else s) (filter (λ o. c o.who) os)) f r
      | inr q ↦ absurd (true≢false (sym (k o.who f (inl (is_who_refl o.who, q))) ∙ e))
    ]

-- ---- readers that committed tell the state before, so they may count or not

-- of those that are ahead of this one, these count: all of the kept, and of the others none but readers
abbrev pub CountsAhead : (Who → Bool) → List Who → List Who → Who → List One → Type 0
CountsAhead c kept readers y os = (v : Who) → is_ahead v y os ≡ true → (is_kept v kept ≡ true → c v ≡ true) × (c v ≡ true → in_either kept readers v ≡ true)

same_next : (c : Who → Bool) (kept readers : List Who) (s : State) (o : One) → (is_kept o.who kept ≡ true → c o.who ≡ true) → (c o.who ≡ true → in_either kept readers o.who ≡ true) → (is_kept o.who readers ≡ true → o.state ≡ s) → (if is_kept o.who kept then o.state else s) ≡ (if c o.who then o.state else s)
same_next c kept readers s o up down tell = by (is_kept o.who kept) (c o.who) refl refl
  where
    by : (k b : Bool) → is_kept o.who kept ≡ k → c o.who ≡ b → (if k then o.state else s) ≡ (if b then o.state else s)
    by true true e f = refl
    by false false e f = refl
    by true false e f = absurd (true≢false (sym (up e) ∙ f))
    by false true e f = elim (or_cases (is_kept o.who kept) (is_kept o.who readers) (down f)) [ inl q ↦ absurd (true≢false (sym q ∙ e)) | inr q ↦ sym (tell q) ]

counts_behind : (c : Who → Bool) (kept readers : List Who) (y : Who) (o : One) (os : List One) → CountsAhead c kept readers y (o ∷ os) → CountsAhead c kept readers y os
counts_behind c kept readers y o os k v i = k v (or_right (is_who v o.who && names y os) _ i)

pub to_counts : (c : Who → Bool) (kept readers : List Who) (s : State) (z y : Who) (os : List One) → CountsAhead c kept readers y os → ReadersTell kept readers s os → ChangedAhead (λ v. is_kept v kept) s z y os → ChangedAhead c s z y os
to_counts c kept readers s z y [] k t h = h
to_counts c kept readers s z y (o ∷ os) k t (inl h) = inl h
to_counts c kept readers s z y (o ∷ os) k t (inr h) =
    let u = k o.who (head_ahead o y os (ahead_second z y os (changed_is_ahead (λ v. is_kept v kept) (if is_kept o.who kept then o.state else s) z y os h))) in
    inr (subst (λ x. ChangedAhead c x z y os) (same_next c kept readers s o u.0 u.1 t.0) (to_counts c kept readers (if is_kept o.who kept then o.state else s) z y os (counts_behind c kept readers y o os k) t.1 h))

pub from_counts : (c : Who → Bool) (kept readers : List Who) (s : State) (z y : Who) (os : List One) → CountsAhead c kept readers y os → ReadersTell kept readers s os → ChangedAhead c s z y os → ChangedAhead (λ v. is_kept v kept) s z y os
from_counts c kept readers s z y [] k t h = h
from_counts c kept readers s z y (o ∷ os) k t (inl h) = inl h
from_counts c kept readers s z y (o ∷ os) k t (inr h) =
    let u = k o.who (head_ahead o y os (ahead_second z y os (changed_is_ahead c (if c o.who then o.state else s) z y os h))) in
    inr (from_counts c kept readers (if is_kept o.who kept then o.state else s) z y os (counts_behind c kept readers y o os k) t.1 (subst (λ x. ChangedAhead c x z y os) (sym (same_next c kept readers s o u.0 u.1 t.0)) h))

-- no reader changed it
pub no_reader : (kept readers : List Who) (s : State) (z y : Who) (os : List One) → ReadersTell kept readers s os → ChangedAhead (λ v. is_kept v kept) s z y os → is_kept z readers ≡ true → ⊥
no_reader kept readers s z y [] t h r = h
no_reader kept readers s z y (o ∷ os) t (inl h) r = h.1 (t.0 (subst (λ v. is_kept v readers ≡ true) (is_who_true z o.who h.0) r))
no_reader kept readers s z y (o ∷ os) t (inr h) r = no_reader kept readers (if is_kept o.who kept then o.state else s) z y os t.1 h r

-- ---- the last state that is told ahead of one

filter_only : (P : Who → Bool) (kept : List Who) (os : List One) → ((z : Who) → is_kept z kept ≡ true → names z os ≡ true → ⊥) → filter (λ o. P o.who && is_kept o.who kept) os ≡ []
filter_only P kept [] n = refl
filter_only P kept (o ∷ os) n = by (P o.who) (is_kept o.who kept) refl (filter_only P kept os (λ z k m. n z k (or_right (is_who z o.who) _ m)))
  where
    by : (p k : Bool) → is_kept o.who kept ≡ k → filter (λ o. P o.who && is_kept o.who kept) os ≡ [] → (if p && k then o ∷ filter (λ o. P o.who && is_kept o.who kept) os else filter (λ o. P o.who && is_kept o.who kept) os) ≡ []
    by p true e r = absurd (n o.who e (or_left (is_who o.who o.who) _ (is_who_refl o.who)))
    by true false e r = r
    by false false e r = r

-- Who is left out changed nothing ahead of the record of this one, and behind it is none of the kept: so the others tell the same.
pub same_last : (P : Who → Bool) (kept : List Who) (s : State) (u : Who) (os : List One) → names u os ≡ true → is_kept u kept ≡ false → ((z : Who) → is_kept z kept ≡ true → is_ahead u z os ≡ true → ⊥) → ((z : Who) → is_kept z kept ≡ true → ChangedAhead (λ v. is_kept v kept) s z u os → P z ≡ true)
    → last_one s (filter (λ o. P o.who && is_kept o.who kept) os) ≡ last_one s (filter (λ o. true && is_kept o.who kept) os)
same_last P kept s u [] n f b c = refl
same_last P kept s u (o ∷ os) n f b c = elim (cases_Bool (is_who u o.who)) [
  | inl e ↦
      let none : (z : Who) → is_kept z kept ≡ true → names z os ≡ true → ⊥ = λ z k m. b z k (or_left (is_who u o.who && names z os) _ (and_from (is_who u o.who) (names z os) e m)) in
      let out : is_kept o.who kept ≡ false = ap (λ z. is_kept z kept) (sym (is_who_true u o.who e)) ∙ f in
      here (P o.who) (is_kept o.who kept) out (filter_only P kept os none) (filter_only (λ y. true) kept os none)
  | inr e ↦ there (λ m. same_last P kept (if is_kept o.who kept then o.state else s) u os m f (λ z k i. b z k (or_right (is_who u o.who && names z os) _ i)) (λ z k h. c z k (inr h))) (elim (or_cases (is_who u o.who) (names u os) n) [ inl q ↦ absurd (true≢false (sym q ∙ e)) | inr q ↦ q ]) (is_kept o.who kept) (P o.who) refl refl
]
  where
    here : (p k : Bool) → k ≡ false → filter (λ o. P o.who && is_kept o.who kept) os ≡ [] → filter (λ o. true && is_kept o.who kept) os ≡ []
        → last_one s (if p && k then o ∷ filter (λ o. P o.who && is_kept o.who kept) os else filter (λ o. P o.who && is_kept o.who kept) os) ≡ last_one s (if true && k then o ∷ filter (λ o. true && is_kept o.who kept) os else filter (λ o. true && is_kept o.who kept) os)
    here p true e x y = absurd (true≢false e)
    here true false e x y = ap (last_one s) (x ∙ sym y)
    here false false e x y = ap (last_one s) (x ∙ sym y)

    there : (names u os ≡ true → last_one (if is_kept o.who kept then o.state else s) (filter (λ o. P o.who && is_kept o.who kept) os) ≡ last_one (if is_kept o.who kept then o.state else s) (filter (λ o. true && is_kept o.who kept) os)) → names u os ≡ true → (k p : Bool) → is_kept o.who kept ≡ k → P o.who ≡ p
        → last_one s (if p && k then o ∷ filter (λ o. P o.who && is_kept o.who kept) os else filter (λ o. P o.who && is_kept o.who kept) os) ≡ last_one s (if true && k then o ∷ filter (λ o. true && is_kept o.who kept) os else filter (λ o. true && is_kept o.who kept) os)
    there next m true true e g = subst (λ b. last_one (if b then o.state else s) (filter (λ o. P o.who && is_kept o.who kept) os) ≡ last_one (if b then o.state else s) (filter (λ o. true && is_kept o.who kept) os)) e (next m)
    there next m false true e g = subst (λ b. last_one (if b then o.state else s) (filter (λ o. P o.who && is_kept o.who kept) os) ≡ last_one (if b then o.state else s) (filter (λ o. true && is_kept o.who kept) os)) e (next m)
    there next m false false e g = subst (λ b. last_one (if b then o.state else s) (filter (λ o. P o.who && is_kept o.who kept) os) ≡ last_one (if b then o.state else s) (filter (λ o. true && is_kept o.who kept) os)) e (next m)
    there next m true false e g = elim (same_or_not o.state s) [
      | inl q ↦ ap (λ x. last_one x (filter (λ o. P o.who && is_kept o.who kept) os)) (sym q) ∙ subst (λ b. last_one (if b then o.state else s) (filter (λ o. P o.who && is_kept o.who kept) os) ≡ last_one (if b then o.state else s) (filter (λ o. true && is_kept o.who kept) os)) e (next m)
      | inr q ↦ absurd (true≢false (sym (c o.who e (inl (is_who_refl o.who, q, m))) ∙ g))
    ]
