-- Whose record stands ahead of whose among the records of an actor, and who was placed before whom.
use Rattle.std.specs.Prelude.{◌≡◌, Bool, true, false, ◌&&◌, ◌||◌, ◌⊎◌, List, [], ◌∷◌, ◌++◌}
use Rattle.std.specs.List.{AllByRecursion}
use Rattle.std.proofs.Common.{sym, ap, subst, inl, inr, ◌∙◌}
use Rattle.std.proofs.lemmas.Bool.{true≢false, or_cases, or_left, or_right, and_parts, and_from}
use Rattle.snap_base.specs.declared.transactions.State.{State}
use Rattle.protocol.specs.Parts.{Who}
use Rattle.protocol.specs.Words.{is_who}
use Rattle.protocol.specs.History.{Ran}
use Rattle.protocol_laws.specs.Commits.{is_kept, KeptFront}
use Rattle.protocol_laws.specs.Tracks.{Key}
use Rattle.protocol_laws.proofs.first.Lists.{any_front, any_join}
use Rattle.protocol_laws.proofs.machine.TrackLists.{is_who_true}
use Rattle.protocol_theorems.specs.Placed.{is_placed, PlacedOnce, InOrderOf}
use Rattle.protocol_theorems.proofs.order.ChainLists.{in_order_in}
use Rattle.protocol_records.specs.Logged.{is_on}
use Rattle.protocol_records.specs.Telling.{One, names, AllTells, NoneLater}
use Rattle.protocol_records.proofs.crash.ReadersOver.{IsBehind}
use Rattle.protocol_records.proofs.crash.RecoverLists.{tells_it}
use Rattle.protocol_records.proofs.crash.TellLists.{none_later}
use Rattle.followed_runs.specs.Following.{is_ahead}

-- ---- among records

-- who is ahead has a record, and who is behind
pub ahead_first : (y z : Who) (os : List One) → is_ahead y z os ≡ true → names y os ≡ true
ahead_first y z [] h = h
ahead_first y z (o ∷ os) h = elim (or_cases (is_who y o.who && names z os) (is_ahead y z os) h) [
  | inl e ↦ or_left (is_who y o.who) _ (and_parts (is_who y o.who) (names z os) e).0
  | inr e ↦ or_right (is_who y o.who) _ (ahead_first y z os e)
]

pub ahead_second : (y z : Who) (os : List One) → is_ahead y z os ≡ true → names z os ≡ true
ahead_second y z [] h = h
ahead_second y z (o ∷ os) h = elim (or_cases (is_who y o.who && names z os) (is_ahead y z os) h) [
  | inl e ↦ or_right (is_who z o.who) _ (and_parts (is_who y o.who) (names z os) e).1
  | inr e ↦ or_right (is_who z o.who) _ (ahead_second y z os e)
]

pub ahead_more : (y z : Who) (os ms : List One) → is_ahead y z os ≡ true → is_ahead y z (os ++ ms) ≡ true
ahead_more y z [] ms h = absurd (true≢false (sym h))
ahead_more y z (o ∷ os) ms h = elim (or_cases (is_who y o.who && names z os) (is_ahead y z os) h) [
  | inl e ↦ let p = and_parts (is_who y o.who) (names z os) e in or_left (is_who y o.who && names z (os ++ ms)) _ (and_from (is_who y o.who) (names z (os ++ ms)) p.0 (any_front (λ v. is_who z v.who) os ms p.1))
  | inr e ↦ or_right (is_who y o.who && names z (os ++ ms)) _ (ahead_more y z os ms e)
]

-- in a front that names all records of the one behind
pub ahead_cut : (y z : Who) (os ms : List One) → names z ms ≡ false → is_ahead y z (os ++ ms) ≡ true → is_ahead y z os ≡ true
ahead_cut y z [] ms n h = absurd (true≢false (sym (ahead_second y z ms h) ∙ n))
ahead_cut y z (o ∷ os) ms n h = elim (or_cases (is_who y o.who && names z (os ++ ms)) (is_ahead y z (os ++ ms)) h) [
  | inl e ↦ let p = and_parts (is_who y o.who) (names z (os ++ ms)) e in or_left (is_who y o.who && names z os) _ (and_from (is_who y o.who) (names z os) p.0 (in_front p.1))
  | inr e ↦ or_right (is_who y o.who && names z os) _ (ahead_cut y z os ms n e)
]
  where
    in_front : names z (os ++ ms) ≡ true → names z os ≡ true
    in_front q = elim (any_join (λ v. is_who z v.who) os ms q) [ inl v ↦ v | inr v ↦ absurd (true≢false (sym v ∙ n)) ]

-- with one record more
pub ahead_split : (y z : Who) (os : List One) (n : One) → is_ahead y z (os ++ n ∷ []) ≡ true → (is_ahead y z os ≡ true) ⊎ ((names y os ≡ true) × (is_who z n.who ≡ true))
ahead_split y z [] n h = elim (or_cases (is_who y n.who && false) false h) [ inl e ↦ absurd (true≢false (sym (and_parts (is_who y n.who) false e).1)) | inr e ↦ absurd (true≢false (sym e)) ]
ahead_split y z (o ∷ os) n h = elim (or_cases (is_who y o.who && names z (os ++ n ∷ [])) (is_ahead y z (os ++ n ∷ [])) h) [
  | inl e ↦
      let p = and_parts (is_who y o.who) (names z (os ++ n ∷ [])) e in
      elim (any_join (λ v. is_who z v.who) os (n ∷ []) p.1) [
        | inl q ↦ inl (or_left (is_who y o.who && names z os) _ (and_from (is_who y o.who) (names z os) p.0 q))
        | inr q ↦ elim (or_cases (is_who z n.who) false q) [ inl v ↦ inr (or_left (is_who y o.who) _ p.0, v) | inr v ↦ absurd (true≢false (sym v)) ]
      ]
  | inr e ↦ elim (ahead_split y z os n e) [
    | inl q ↦ inl (or_right (is_who y o.who && names z os) _ q)
    | inr q ↦ inr (or_right (is_who y o.who) _ q.0, q.1)
  ]
]

-- of two that have records one is ahead of the other
pub one_ahead : (y z : Who) (os : List One) → is_who y z ≡ false → names y os ≡ true → names z os ≡ true → (is_ahead y z os ≡ true) ⊎ (is_ahead z y os ≡ true)
one_ahead y z [] n a b = absurd (true≢false (sym a))
one_ahead y z (o ∷ os) n a b = elim (or_cases (is_who y o.who) (names y os) a) [
  | inl p ↦ elim (or_cases (is_who z o.who) (names z os) b) [
    | inl q ↦ absurd (true≢false (sym (subst (λ v. is_who y v ≡ true) (sym (is_who_true z o.who q)) p) ∙ n))
    | inr q ↦ inl (or_left (is_who y o.who && names z os) _ (and_from (is_who y o.who) (names z os) p q))
  ]
  | inr p ↦ elim (or_cases (is_who z o.who) (names z os) b) [
    | inl q ↦ inr (or_left (is_who z o.who && names y os) _ (and_from (is_who z o.who) (names y os) q p))
    | inr q ↦ elim (one_ahead y z os n p q) [ inl r ↦ inl (or_right (is_who y o.who && names z os) _ r) | inr r ↦ inr (or_right (is_who z o.who && names y os) _ r) ]
  ]
]

none_named : (readers : List Who) (z : Who) (os : List One) → AllByRecursion (λ v. is_kept v.who readers ≡ false) os → is_kept z readers ≡ true → names z os ≡ true → ⊥
none_named readers z [] h k e = true≢false (sym e)
none_named readers z (o ∷ os) h k e = elim (or_cases (is_who z o.who) (names z os) e) [ inl q ↦ true≢false (sym k ∙ (ap (λ v. is_kept v readers) (is_who_true z o.who q) ∙ h.0)) | inr q ↦ none_named readers z os h.1 k q ]

-- one that is open is ahead of no reader that committed
pub open_ahead : (f : Who → Bool) (readers : List Who) (y z : Who) (os : List One) → NoneLater f readers os → f y ≡ true → is_kept z readers ≡ true → is_ahead y z os ≡ true → ⊥
open_ahead f readers y z [] h fy kz e = true≢false (sym e)
open_ahead f readers y z (o ∷ os) h fy kz e = elim (or_cases (is_who y o.who && names z os) (is_ahead y z os) e) [
  | inl q ↦ let p = and_parts (is_who y o.who) (names z os) q in none_named readers z os (h.0 (subst (λ v. f v ≡ true) (is_who_true y o.who p.0) fy)) kz p.1
  | inr q ↦ open_ahead f readers y z os h.1 fy kz q
]

-- one that commits now is ahead of none that committed there
pub told_ahead : (rd : Who → Bool) (first : State) (y z : Who) (kept : List Who) (long : List Ran) (os : List One) → rd y ≡ false → is_kept y kept ≡ false → KeptFront kept long → is_on y long ≡ true → is_kept z kept ≡ true → is_on z long ≡ true → AllTells rd first os long → is_ahead y z os ≡ true → ⊥
told_ahead rd first y z kept long [] ry n f o kz oz t e = true≢false (sym e)
told_ahead rd first y z kept long (x ∷ os) ry n f o kz oz t e = elim (or_cases (is_who y x.who && names z os) (is_ahead y z os) e) [
  | inl q ↦ let p = and_parts (is_who y x.who) (names z os) q in true≢false (sym p.1 ∙ none_later first y x.state os z kept long n f o kz oz (tells_it rd first y x os long ry p.0 t))
  | inr q ↦ told_ahead rd first y z kept long os ry n f o kz oz t.1 q
]

-- what is so of each that has a record
pub of_named : (P : Who → Type 0) (y : Who) (os : List One) → AllByRecursion (λ o. P o.who) os → names y os ≡ true → P y
of_named P y [] h e = absurd (true≢false (sym e))
of_named P y (o ∷ os) h e = elim (or_cases (is_who y o.who) (names y os) e) [ inl q ↦ subst P (sym (is_who_true y o.who q)) h.0 | inr q ↦ of_named P y os h.1 q ]

-- ---- in the order of placing

abbrev pub is_before : Who → Who → List Who → Bool
is_before y z [] = false
is_before y z (x ∷ xs) = (is_who x y && is_placed z xs) || is_before y z xs

before_second : (y z : Who) (xs : List Who) → is_before y z xs ≡ true → is_placed z xs ≡ true
before_second y z [] h = h
before_second y z (x ∷ xs) h = elim (or_cases (is_who x y && is_placed z xs) (is_before y z xs) h) [
  | inl e ↦ or_right (is_who x z) _ (and_parts (is_who x y) (is_placed z xs) e).1
  | inr e ↦ or_right (is_who x z) _ (before_second y z xs e)
]

pub before_more : (y z : Who) (xs ms : List Who) → is_before y z xs ≡ true → is_before y z (xs ++ ms) ≡ true
before_more y z [] ms h = absurd (true≢false (sym h))
before_more y z (x ∷ xs) ms h = elim (or_cases (is_who x y && is_placed z xs) (is_before y z xs) h) [
  | inl e ↦ let p = and_parts (is_who x y) (is_placed z xs) e in or_left (is_who x y && is_placed z (xs ++ ms)) _ (and_from (is_who x y) (is_placed z (xs ++ ms)) p.0 (any_front (λ v. is_who v z) xs ms p.1))
  | inr e ↦ or_right (is_who x y && is_placed z (xs ++ ms)) _ (before_more y z xs ms e)
]

-- where nobody is placed twice, not both are before the other
pub before_once : (y z : Who) (xs : List Who) → PlacedOnce xs → is_before y z xs ≡ true → is_before z y xs ≡ true → ⊥
before_once y z [] o a b = true≢false (sym a)
before_once y z (x ∷ xs) o a b = elim (or_cases (is_who x y && is_placed z xs) (is_before y z xs) a) [
  | inl p ↦ again y (and_parts (is_who x y) (is_placed z xs) p).0 (elim (or_cases (is_who x z && is_placed y xs) (is_before z y xs) b) [ inl q ↦ (and_parts (is_who x z) (is_placed y xs) q).1 | inr q ↦ before_second z y xs q ])
  | inr p ↦ elim (or_cases (is_who x z && is_placed y xs) (is_before z y xs) b) [
    | inl q ↦ again z (and_parts (is_who x z) (is_placed y xs) q).0 (before_second y z xs p)
    | inr q ↦ before_once y z xs o.1 p q
  ]
]
  where
    again : (v : Who) → is_who x v ≡ true → is_placed v xs ≡ true → ⊥
    again v e i = true≢false (sym (subst (λ u. is_placed u xs ≡ true) (sym (is_who_true x v e)) i) ∙ o.0)

-- who stands ahead there was placed before
pub before_keys : (y z : Who) (ys : List Who) (ks : List Key) → InOrderOf ys ks → IsBehind y z ks → is_before y z ys ≡ true
before_keys y z [] [] h b = absurd b
before_keys y z [] (k ∷ ks) h b = absurd h
before_keys y z (x ∷ xs) [] h b = absurd b
before_keys y z (x ∷ xs) (k ∷ ks) (inl h) (inl b) = or_left (is_who x y && is_placed z xs) _ (and_from (is_who x y) (is_placed z xs) (subst (λ v. is_who v y ≡ true) h.0 b.0) (in_order_in z xs ks h.1 b.1))
before_keys y z (x ∷ xs) (k ∷ ks) (inl h) (inr b) = or_right (is_who x y && is_placed z xs) _ (before_keys y z xs ks h.1 b)
before_keys y z (x ∷ xs) (k ∷ ks) (inr h) b = or_right (is_who x y && is_placed z xs) _ (before_keys y z xs (k ∷ ks) h b)
