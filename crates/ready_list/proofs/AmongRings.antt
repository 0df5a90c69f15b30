-- Rings one behind the other: what is put into one of them, taken out of one, and found in them.
use Rattle.std.specs.Prelude.{◌≡◌, refl, ℕ, zero, suc, ◌+◌, ◌-◌, ◌^◌, ◌<◌, ◌≤◌, min, ◌==◌, nat_lt, ◌&&◌, ◌||◌, Bool, true, false, if◌then◌else◌, List, [], ◌∷◌, ◌++◌, drop, filter, length, slice_get, slice_index_or, take}
use Rattle.std.proofs.Common.{arith, sym, ap, subst, inl, inr, ◌∙◌}
use Rattle.std.proofs.lemmas.Bool.{cases_eq, cases_lt, or_left, or_right, lt-ltb, ltb-true, eq-eqb, ne_eqb}
use Rattle.std.proofs.lemmas.List.{append_assoc, length-append, drop_more}
use Rattle.std.proofs.lemmas.List.Elements.{filter-append}
use Rattle.protocol.specs.Events.{Event}
use Rattle.protocol.specs.Schedule.{Rank, rank, is_rank_below, IsBelowEach}
use Rattle.protocol_ready.specs.Ready.{put, without}
use Rattle.ready_list.specs.Order.{is_before, kind_of}
use Rattle.ready_list.specs.Rings.{RoomedRing, ring_at, events_at, spare_at, spares, AreOfKind, NoneAhead, all_events, AreByKind, AreRoomier, IsOneChanged}

-- ---- the same events in each ring

pub all_same : (old new : List RoomedRing) → ((k : ℕ) → events_at new k ≡ events_at old k) → all_events new ≡ all_events old
all_same [] [] h = refl
all_same [] (s ∷ ss) h = ap (λ es. es ++ all_events ss) (h zero) ∙ all_same [] ss (λ k. h (suc k))
all_same (r ∷ rs) [] h = all_same rs [] (λ k. h (suc k)) ∙ ap (λ es. es ++ all_events rs) (h zero)
all_same (r ∷ rs) (s ∷ ss) h = ap (λ es. es ++ all_events ss) (h zero) ∙ ap (λ es. r.events ++ es) (all_same rs ss (λ k. h (suc k)))

-- ---- the kinds from n on

abbrev pub AreFrom : ℕ → List RoomedRing → Type 0
AreFrom n rings = (k : ℕ) → AreOfKind (n + k) (events_at rings k)

pub from_first : (rings : List RoomedRing) → ((k : ℕ) → AreOfKind k (events_at rings k)) → AreFrom 0 rings
from_first rings h k = let e : k ≡ 0 + k = omega arith in subst (λ m. AreOfKind m (events_at rings k)) e (h k)

first_kind : (n : ℕ) (r : RoomedRing) (rs : List RoomedRing) → AreFrom n (r ∷ rs) → AreOfKind n r.events
first_kind n r rs h = let e : n + 0 ≡ n = omega arith in subst (λ m. AreOfKind m r.events) e (h zero)

more_kinds : (n : ℕ) (r : RoomedRing) (rs : List RoomedRing) → AreFrom n (r ∷ rs) → AreFrom (suc n) rs
more_kinds n r rs h k = let e : n + suc k ≡ suc n + k = omega arith in subst (λ m. AreOfKind m (events_at rs k)) e (h (suc k))

-- ---- the order by kinds

lower_kind : (f e : Event) → kind_of f < kind_of e → is_before f e ≡ true
lower_kind f e h = rw (lt-ltb (kind_of f) (kind_of e) h) refl

not_lower : (a b : ℕ) (x : Bool) → a < b → (nat_lt b a || ((b == a) && x)) ≡ false
not_lower a b x h = by (nat_lt b a) refl
  where
    by : (y : Bool) → nat_lt b a ≡ y → (nat_lt b a || ((b == a) && x)) ≡ false
    by true q = absurd (omega (arith, ltb-true b a q, h))
    by false q = rw (q, ne_eqb b a (λ z. absurd (omega (arith, z, h)))) refl

higher_kind : (f e : Event) → kind_of f < kind_of e → is_before e f ≡ false
higher_kind f e h = not_lower (kind_of f) (kind_of e) _ h

other_kind : (f e : Event) → (kind_of e ≡ kind_of f → ⊥) → (is_before f e || is_before e f) ≡ true
other_kind f e h = elim (cases_lt (kind_of f) (kind_of e)) [
  | inl x ↦ or_left (is_before f e) (is_before e f) (lower_kind f e x)
  | inr y ↦ or_right (is_before f e) (is_before e f) (lower_kind e f (omega (arith, y, h)))
]

below_append : (r : Rank) (xs ys : List Event) → IsBelowEach r xs → IsBelowEach r ys → IsBelowEach r (xs ++ ys)
below_append r [] ys h g = g
below_append r (x ∷ xs) ys h g = (h.0, below_append r xs ys h.1 g)

below_kind : (e : Event) (n : ℕ) (es : List Event) → kind_of e < n → AreOfKind n es → IsBelowEach (rank e) es
below_kind e n [] h a = tt
below_kind e n (x ∷ xs) h a = (lower_kind e x (omega (arith, h, a.0)), below_kind e n xs h a.1)

below_kinds : (e : Event) (n : ℕ) (rings : List RoomedRing) → kind_of e < n → AreFrom n rings → IsBelowEach (rank e) (all_events rings)
below_kinds e n [] h a = tt
below_kinds e n (r ∷ rs) h a = below_append (rank e) r.events (all_events rs) (below_kind e n r.events h (first_kind n r rs a)) (below_kinds e (suc n) rs (omega (arith, h)) (more_kinds n r rs a))

-- ---- putting in

put_ahead : (e : Event) (xs ys : List Event) → IsBelowEach (rank e) ys → put e (xs ++ ys) ≡ put e xs ++ ys
put_ahead e [] [] b = refl
put_ahead e [] (y ∷ ys) b = rw b.0 refl
put_ahead e (x ∷ xs) ys b = by (is_before e x) (is_before x e) (put e xs) (put e (xs ++ ys)) (put_ahead e xs ys b)
  where
    by : (c d : Bool) (p q : List Event) → q ≡ p ++ ys
        → (if c then e ∷ x ∷ (xs ++ ys) else if d then x ∷ q else x ∷ (xs ++ ys)) ≡ (if c then e ∷ x ∷ xs else if d then x ∷ p else x ∷ xs) ++ ys
    by true d p q h = refl
    by false true p q h = ap (λ l. x ∷ l) h
    by false false p q h = refl

put_behind : (e : Event) (n : ℕ) (xs ys : List Event) → AreOfKind n xs → n < kind_of e → put e (xs ++ ys) ≡ xs ++ put e ys
put_behind e n [] ys a h = refl
put_behind e n (x ∷ xs) ys a h =
    let low : kind_of x < kind_of e = omega (arith, h, a.0) in
    rw (higher_kind x e low, lower_kind x e low, put_behind e n xs ys a.1 h) refl

pub put_among : (n : ℕ) (old new : List RoomedRing) (e : Event) (k : ℕ) → AreFrom n old → kind_of e ≡ n + k → length new ≡ length old → k < length old
    → ((j : ℕ) → (j ≡ k → ⊥) → ring_at new j ≡ ring_at old j) → events_at new k ≡ put e (events_at old k) → all_events new ≡ put e (all_events old)
put_among n [] new e k a q l h o p = absurd (omega (arith, h))
put_among n (r ∷ rs) [] e k a q l h o p = absurd (omega (arith, l))
put_among n (r ∷ rs) (s ∷ ss) e zero a q l h o p =
    ap (λ es. es ++ all_events ss) p
    ∙ ap (λ es. put e r.events ++ es) (all_same rs ss (λ j. ap (λ x. x.events) (o (suc j) (λ z. absurd (omega (arith, z))))))
    ∙ sym (put_ahead e r.events (all_events rs) (below_kinds e (suc n) rs (omega (arith, q)) (more_kinds n r rs a)))
put_among n (r ∷ rs) (s ∷ ss) e (suc k) a q l h o p =
    let first : s.events ≡ r.events = ap (λ x. x.events) (o zero (λ z. absurd (omega (arith, z)))) in
    let more : all_events ss ≡ put e (all_events rs) =
    put_among (suc n) rs ss e k (more_kinds n r rs a) (omega (arith, q)) (omega (arith, l)) (omega (arith, h)) (λ j z. o (suc j) (λ y. z (omega (arith, y)))) p in
    ap (λ es. es ++ all_events ss) first ∙ ap (λ es. r.events ++ es) more ∙ sym (put_behind e n r.events (all_events rs) (first_kind n r rs a) (omega (arith, q)))

-- ---- taking out

without_append : (e : Event) (xs ys : List Event) → without e (xs ++ ys) ≡ without e xs ++ without e ys
without_append e xs ys = filter-append (λ x. is_rank_below (rank x) (rank e) || is_rank_below (rank e) (rank x)) xs ys

kept_kind : (e : Event) (n : ℕ) (es : List Event) → AreOfKind n es → (kind_of e ≡ n → ⊥) → without e es ≡ es
kept_kind e n [] a h = refl
kept_kind e n (x ∷ xs) a h = rw (other_kind x e (λ z. h (z ∙ a.0)), kept_kind e n xs a.1 h) refl

pub kept_kinds : (e : Event) (n : ℕ) (rings : List RoomedRing) → AreFrom n rings → ((k : ℕ) → k < length rings → kind_of e ≡ n + k → ⊥) → without e (all_events rings) ≡ all_events rings
kept_kinds e n [] a h = refl
kept_kinds e n (r ∷ rs) a h =
    without_append e r.events (all_events rs)
    ∙ ap (λ es. es ++ without e (all_events rs)) (kept_kind e n r.events (first_kind n r rs a) (λ z. h zero (omega arith) (omega (arith, z))))
    ∙ ap (λ es. r.events ++ es) (kept_kinds e (suc n) rs (more_kinds n r rs a) (λ k l z. h (suc k) (omega (arith, l)) (omega (arith, z))))

pub take_among : (n : ℕ) (old new : List RoomedRing) (e : Event) (k : ℕ) → AreFrom n old → kind_of e ≡ n + k → length new ≡ length old → k < length old
    → ((j : ℕ) → (j ≡ k → ⊥) → ring_at new j ≡ ring_at old j) → events_at new k ≡ without e (events_at old k) → all_events new ≡ without e (all_events old)
take_among n [] new e k a q l h o p = absurd (omega (arith, h))
take_among n (r ∷ rs) [] e k a q l h o p = absurd (omega (arith, l))
take_among n (r ∷ rs) (s ∷ ss) e zero a q l h o p =
    ap (λ es. es ++ all_events ss) p
    ∙ ap (λ es. without e r.events ++ es) (all_same rs ss (λ j. ap (λ x. x.events) (o (suc j) (λ z. absurd (omega (arith, z))))))
    ∙ ap (λ es. without e r.events ++ es) (sym (kept_kinds e (suc n) rs (more_kinds n r rs a) (λ j m z. absurd (omega (arith, q, z)))))
    ∙ sym (without_append e r.events (all_events rs))
take_among n (r ∷ rs) (s ∷ ss) e (suc k) a q l h o p =
    let first : s.events ≡ r.events = ap (λ x. x.events) (o zero (λ z. absurd (omega (arith, z)))) in
    let more : all_events ss ≡ without e (all_events rs) =
    take_among (suc n) rs ss e k (more_kinds n r rs a) (omega (arith, q)) (omega (arith, l)) (omega (arith, h)) (λ j z. o (suc j) (λ y. z (omega (arith, y)))) p in
    ap (λ es. es ++ all_events ss) first
    ∙ ap (λ es. r.events ++ es) more
    ∙ ap (λ es. es ++ without e (all_events rs)) (sym (kept_kind e n r.events (first_kind n r rs a) (λ z. absurd (omega (arith, q, z)))))
    ∙ sym (without_append e r.events (all_events rs))

-- ---- how many there are

pub counted_among : (old new : List RoomedRing) (k : ℕ) → length new ≡ length old → k < length old → ((j : ℕ) → (j ≡ k → ⊥) → ring_at new j ≡ ring_at old j)
    → length (all_events new) + length (events_at old k) ≡ length (all_events old) + length (events_at new k)
counted_among [] new k l h o = absurd (omega (arith, h))
counted_among (r ∷ rs) [] k l h o = absurd (omega (arith, l))
counted_among (r ∷ rs) (s ∷ ss) zero l h o =
    let more : length (all_events ss) ≡ length (all_events rs) = ap length (all_same rs ss (λ j. ap (λ x. x.events) (o (suc j) (λ z. absurd (omega (arith, z)))))) in
    omega (arith, more, length-append s.events (all_events ss), length-append r.events (all_events rs))
counted_among (r ∷ rs) (s ∷ ss) (suc k) l h o =
    let first : length s.events ≡ length r.events = ap (λ x. length x.events) (o zero (λ z. absurd (omega (arith, z)))) in
    let more : length (all_events ss) + length (events_at rs k) ≡ length (all_events rs) + length (events_at ss k) =
    counted_among rs ss k (omega (arith, l)) (omega (arith, h)) (λ j z. o (suc j) (λ y. z (omega (arith, y)))) in
    omega (arith, first, more, length-append s.events (all_events ss), length-append r.events (all_events rs))

-- ---- those of a kind

all_found : (k n : ℕ) (es : List Event) → AreOfKind n es → k ≡ n → filter (λ f. kind_of f == k) es ≡ es
all_found k n [] a h = refl
all_found k n (x ∷ xs) a h = let e : (kind_of x == k) ≡ true = eq-eqb (kind_of x) k (a.0 ∙ sym h) in rw (e, all_found k n xs a.1 h) refl

none_found : (k n : ℕ) (es : List Event) → AreOfKind n es → (k ≡ n → ⊥) → filter (λ f. kind_of f == k) es ≡ []
none_found k n [] a h = refl
none_found k n (x ∷ xs) a h = let e : (kind_of x == k) ≡ false = ne_eqb (kind_of x) k (λ z. h (sym z ∙ a.0)) in rw (e, none_found k n xs a.1 h) refl

none_behind : (k n : ℕ) (rings : List RoomedRing) → AreFrom n rings → k < n → filter (λ f. kind_of f == k) (all_events rings) ≡ []
none_behind k n [] a h = refl
none_behind k n (r ∷ rs) a h =
    filter-append (λ f. kind_of f == k) r.events (all_events rs)
    ∙ ap (λ es. es ++ filter (λ f. kind_of f == k) (all_events rs)) (none_found k n r.events (first_kind n r rs a) (λ z. absurd (omega (arith, h, z))))
    ∙ none_behind k (suc n) rs (more_kinds n r rs a) (omega (arith, h))

append_none : (es : List Event) → es ++ [] ≡ es
append_none [] = refl
append_none (e ∷ es) = ap (λ l. e ∷ l) (append_none es)

pub found_among : (k n i : ℕ) (rings : List RoomedRing) → AreFrom n rings → k ≡ n + i → filter (λ f. kind_of f == k) (all_events rings) ≡ events_at rings i
found_among k n i [] a h = refl
found_among k n zero (r ∷ rs) a h =
    filter-append (λ f. kind_of f == k) r.events (all_events rs)
    ∙ ap (λ es. es ++ filter (λ f. kind_of f == k) (all_events rs)) (all_found k n r.events (first_kind n r rs a) (omega (arith, h)))
    ∙ ap (λ es. r.events ++ es) (none_behind k (suc n) rs (more_kinds n r rs a) (omega (arith, h)))
    ∙ append_none r.events
found_among k n (suc i) (r ∷ rs) a h =
    filter-append (λ f. kind_of f == k) r.events (all_events rs)
    ∙ ap (λ es. es ++ filter (λ f. kind_of f == k) (all_events rs)) (none_found k n r.events (first_kind n r rs a) (λ z. absurd (omega (arith, h, z))))
    ∙ found_among k (suc n) i rs (more_kinds n r rs a) (omega (arith, h))

-- ---- the n-th

pub all_from : (rings : List RoomedRing) (k : ℕ) → NoneAhead rings k → all_events rings ≡ all_events (drop k rings)
all_from rings zero h = refl
all_from [] (suc k) h = refl
all_from (r ∷ rs) (suc k) h = ap (λ es. es ++ all_events rs) (h zero (omega arith)) ∙ all_from rs k (λ j l. h (suc j) (omega (arith, l)))

pub none_left : (rings : List RoomedRing) (k n : ℕ) → length rings ≤ k → slice_get (all_events (drop k rings)) n ≡ slice_get [] n
none_left [] zero n h = refl
none_left [] (suc k) n h = refl
none_left (r ∷ rs) zero n h = absurd (omega (arith, h))
none_left (r ∷ rs) (suc k) n h = none_left rs k n (omega (arith, h))

got_first : (xs ys : List Event) (i : ℕ) → i < length xs → slice_get (xs ++ ys) i ≡ slice_get xs i
got_first [] ys i h = absurd (omega (arith, h))
got_first (x ∷ xs) ys zero h = refl
got_first (x ∷ xs) ys (suc i) h = got_first xs ys i (omega (arith, h))

got_more : (xs ys : List Event) (i j : ℕ) → i ≡ length xs + j → slice_get (xs ++ ys) i ≡ slice_get ys j
got_more [] ys i j h = let e : i ≡ j = omega (arith, h) in ap (λ n. slice_get ys n) e
got_more (x ∷ xs) ys zero j h = absurd (omega (arith, h))
got_more (x ∷ xs) ys (suc i) j h = got_more xs ys i j (omega (arith, h))

pub got_here : (rings : List RoomedRing) (k n : ℕ) → k < length rings → n < length (events_at rings k) → slice_get (all_events (drop k rings)) n ≡ slice_get (events_at rings k) n
got_here rings k n h l = ap (λ rs. slice_get (all_events rs) n) (drop_more rings k (record { events = []; spare = 0 }) h) ∙ got_first (events_at rings k) (all_events (drop (k + 1) rings)) n l

pub got_behind : (rings : List RoomedRing) (k n m : ℕ) → k < length rings → n ≡ length (events_at rings k) + m → slice_get (all_events (drop k rings)) n ≡ slice_get (all_events (drop (k + 1) rings)) m
got_behind rings k n m h l = ap (λ rs. slice_get (all_events rs) n) (drop_more rings k (record { events = []; spare = 0 }) h) ∙ got_more (events_at rings k) (all_events (drop (k + 1) rings)) n m l

-- ---- the n-th, of the rings ahead of a place

up_to_next : (rings : List RoomedRing) (k : ℕ) → k < length rings → all_events (take (suc k) rings) ≡ all_events (take k rings) ++ events_at rings k
up_to_next [] k h = absurd (omega (arith, h))
up_to_next (r ∷ rs) zero h = append_none r.events
up_to_next (r ∷ rs) (suc k) h =
    ap (λ es. r.events ++ es) (up_to_next rs k (omega (arith, h)))
    ∙ sym (append_assoc r.events (all_events (take k rs)) (events_at rs k))

-- so many of them stand behind it
pub got_last : (rings : List RoomedRing) (k n left : ℕ) → k < length rings → n + left + 1 ≡ length (all_events (take (suc k) rings)) → left < length (events_at rings k)
    → slice_get (all_events (take (suc k) rings)) n ≡ slice_get (events_at rings k) (length (events_at rings k) - 1 - left)
got_last rings k n left h e l =
    let front : List Event = all_events (take k rings) in
    let here : List Event = events_at rings k in
    let many : length (all_events (take (suc k) rings)) ≡ length front + length here = ap length (up_to_next rings k h) ∙ length-append front here in
    let place : n ≡ length front + (length here - 1 - left) = omega (arith, e, many, l) in
    ap (λ es. slice_get es n) (up_to_next rings k h)
    ∙ ap (λ m. slice_get (front ++ here) m) place
    ∙ got_more front here (length front + (length here - 1 - left)) (length here - 1 - left) refl

pub got_ahead : (rings : List RoomedRing) (k n left : ℕ) → k < length rings → n + left + 1 ≡ length (all_events (take (suc k) rings)) → length (events_at rings k) ≤ left
    → (n + (left - length (events_at rings k)) + 1 ≡ length (all_events (take k rings))) × (slice_get (all_events (take (suc k) rings)) n ≡ slice_get (all_events (take k rings)) n)
got_ahead rings k n left h e l =
    let front : List Event = all_events (take k rings) in
    let here : List Event = events_at rings k in
    let many : length (all_events (take (suc k) rings)) ≡ length front + length here = ap length (up_to_next rings k h) ∙ length-append front here in
    (omega (arith, e, many, l), ap (λ es. slice_get es n) (up_to_next rings k h) ∙ got_first front here n (omega (arith, e, many, l)))

-- ---- more room

pub roomier_self : (rings : List RoomedRing) → AreRoomier rings rings
roomier_self rings = record { events = λ k. refl; spare = λ k. omega arith }

pub roomier_through : (old between new : List RoomedRing) → AreRoomier old between → AreRoomier between new → AreRoomier old new
roomier_through old between new h g = record { events = λ k. g.events k ∙ h.events k; spare = λ k. omega (arith, h.spare k, g.spare k) }

pub roomier_pushed : (rings : List RoomedRing) (r : RoomedRing) → r.events ≡ [] → AreRoomier rings (rings ++ r ∷ [])
roomier_pushed rings r h = record { events = λ k. same rings k; spare = λ k. more rings k }
  where
    same : (rs : List RoomedRing) (k : ℕ) → events_at (rs ++ r ∷ []) k ≡ events_at rs k
    same [] zero = h
    same [] (suc k) = refl
    same (s ∷ ss) zero = refl
    same (s ∷ ss) (suc k) = same ss k

    more : (rs : List RoomedRing) (k : ℕ) → spare_at rs k ≤ spare_at (rs ++ r ∷ []) k
    more [] zero = omega arith
    more [] (suc k) = omega arith
    more (s ∷ ss) zero = omega arith
    more (s ∷ ss) (suc k) = more ss k

-- for no more than can be counted
pub spare_is : (rings : List RoomedRing) (count k : ℕ) → slice_index_or (spares rings count) k 0 ≡ min (spare_at rings k) (2 ^ 64 - 1 - count)
spare_is [] count k = omega arith
spare_is (r ∷ rs) count zero = refl
spare_is (r ∷ rs) count (suc k) = spare_is rs count k

-- ---- what the list keeps to

pub keeps_roomier : (old new : List RoomedRing) (count first : ℕ) → AreByKind old count first → AreRoomier old new → AreByKind new count first
keeps_roomier old new count first h r = record {
  kinds = λ k. subst (λ es. AreOfKind k es) (sym (r.events k)) (h.kinds k);
  counted = h.counted ∙ sym (ap length (all_same old new r.events));
  ahead = λ j l. r.events j ∙ h.ahead j l;
}

put_kind : (k : ℕ) (e : Event) (es : List Event) → kind_of e ≡ k → AreOfKind k es → AreOfKind k (put e es)
put_kind k e [] q h = (q, tt)
put_kind k e (x ∷ xs) q h = by (is_before e x) (is_before x e) (put e xs) (put_kind k e xs q h.1)
  where
    by : (c d : Bool) (p : List Event) → AreOfKind k p → AreOfKind k (if c then e ∷ x ∷ xs else if d then x ∷ p else x ∷ xs)
    by true d p g = (q, h)
    by false true p g = (h.0, g)
    by false false p g = h

without_kind : (k : ℕ) (e : Event) (es : List Event) → AreOfKind k es → AreOfKind k (without e es)
without_kind k e [] h = tt
without_kind k e (x ∷ xs) h = by (is_before x e || is_before e x) (without e xs) (without_kind k e xs h.1)
  where
    by : (c : Bool) (p : List Event) → AreOfKind k p → AreOfKind k (if c then x ∷ p else p)
    by true p g = (h.0, g)
    by false p g = g

changed_kinds : (old new : List RoomedRing) (k : ℕ) → ((j : ℕ) → AreOfKind j (events_at old j)) → IsOneChanged k old new → AreOfKind k (events_at new k) → (j : ℕ) → AreOfKind j (events_at new j)
changed_kinds old new k h o g j = elim (cases_eq j k) [
  | inl x ↦ subst (λ n. AreOfKind n (events_at new n)) (sym x) g
  | inr y ↦ subst (λ r. AreOfKind j r.events) (sym (o.others j y)) (h j)
]

-- an event was put in
pub keeps_put : (old new : List RoomedRing) (count first k : ℕ) (e : Event) (more after next : ℕ) → AreByKind old count first → kind_of e ≡ k → k < length old → IsOneChanged k old new → events_at new k ≡ put e (events_at old k)
    → length (events_at new k) ≡ length (events_at old k) + more → after ≡ count + more → next ≤ first → next ≤ k → AreByKind new after next
keeps_put old new count first k e more after next h q l o p m a f g = record {
  kinds = changed_kinds old new k h.kinds o (subst (λ es. AreOfKind k es) (sym p) (put_kind k e (events_at old k) q (h.kinds k)));
  counted = omega (arith, a, m, h.counted, counted_among old new k o.many l o.others);
  ahead = λ j b. ap (λ r. r.events) (o.others j (λ z. absurd (omega (arith, z, b, g)))) ∙ h.ahead j (omega (arith, b, f));
}

pub list_put : (old new : List RoomedRing) (count first k : ℕ) (e : Event) → AreByKind old count first → kind_of e ≡ k → k < length old → IsOneChanged k old new → events_at new k ≡ put e (events_at old k) → all_events new ≡ put e (all_events old)
list_put old new count first k e h q l o p = put_among 0 old new e k (from_first old h.kinds) (omega (arith, q)) o.many l o.others p

-- an event was taken out
none_ahead_then : (old new : List RoomedRing) (first k : ℕ) (e : Event) → NoneAhead old first → IsOneChanged k old new → events_at new k ≡ without e (events_at old k) → NoneAhead new first
none_ahead_then old new first k e h o p j b = elim (cases_eq j k) [
  | inl x ↦ let none : events_at old k ≡ [] = ap (λ n. events_at old n) (sym x) ∙ h j b in ap (λ n. events_at new n) x ∙ p ∙ ap (λ es. without e es) none
  | inr y ↦ ap (λ r. r.events) (o.others j y) ∙ h j b
]

pub keeps_taken : (old new : List RoomedRing) (count first k : ℕ) (e : Event) (less after : ℕ) → AreByKind old count first → k < length old → IsOneChanged k old new → events_at new k ≡ without e (events_at old k)
    → length (events_at new k) + less ≡ length (events_at old k) → after + less ≡ count → AreByKind new after first
keeps_taken old new count first k e less after h l o p m a = record {
  kinds = changed_kinds old new k h.kinds o (subst (λ es. AreOfKind k es) (sym p) (without_kind k e (events_at old k) (h.kinds k)));
  counted = omega (arith, a, m, h.counted, counted_among old new k o.many l o.others);
  ahead = none_ahead_then old new first k e h.ahead o p;
}

pub list_taken : (old new : List RoomedRing) (count first k : ℕ) (e : Event) → AreByKind old count first → kind_of e ≡ k → k < length old → IsOneChanged k old new → events_at new k ≡ without e (events_at old k) → all_events new ≡ without e (all_events old)
list_taken old new count first k e h q l o p = take_among 0 old new e k (from_first old h.kinds) (omega (arith, q)) o.many l o.others p

pub none_taken : (rings : List RoomedRing) (count first k : ℕ) (e : Event) → AreByKind rings count first → kind_of e ≡ k → length rings ≤ k → all_events rings ≡ without e (all_events rings)
none_taken rings count first k e h q l = sym (kept_kinds e 0 rings (from_first rings h.kinds) (λ j m z. absurd (omega (arith, z, q, l, m))))

-- how much room there is where one ring has changed
pub spare_changed : (old new : List RoomedRing) (k less : ℕ) → IsOneChanged k old new → spare_at old k ≤ spare_at new k + less → (j : ℕ) → spare_at old j ≤ spare_at new j + less
spare_changed old new k less o h j = elim (cases_eq j k) [
  | inl x ↦ subst (λ n. spare_at old n ≤ spare_at new n + less) (sym x) h
  | inr y ↦ let same : spare_at new j ≡ spare_at old j = ap (λ r. r.spare) (o.others j y) in omega (arith, same)
]

pub kind_found : (rings : List RoomedRing) (count first k : ℕ) → AreByKind rings count first → filter (λ f. kind_of f == k) (all_events rings) ≡ events_at rings k
kind_found rings count first k h = found_among k 0 k rings (from_first rings h.kinds) (omega arith)

pub none_of_kind : (rings : List RoomedRing) (k : ℕ) → length rings ≤ k → events_at rings k ≡ []
none_of_kind [] k h = refl
none_of_kind (r ∷ rs) zero h = absurd (omega (arith, h))
none_of_kind (r ∷ rs) (suc k) h = none_of_kind rs k (omega (arith, h))

pub fewer_taken : (old new : List RoomedRing) (count first k less : ℕ) → AreByKind old count first → k < length old → IsOneChanged k old new → length (events_at new k) + less ≡ length (events_at old k) → less ≤ count
fewer_taken old new count first k less h l o m = omega (arith, m, h.counted, counted_among old new k o.many l o.others)

pub from_next : (rings : List RoomedRing) (count first next : ℕ) → AreByKind rings count first → NoneAhead rings next → AreByKind rings count next
from_next rings count first next h n = record { kinds = h.kinds; counted = h.counted; ahead = n }
