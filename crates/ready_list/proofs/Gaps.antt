-- Searching a gap, putting an event into it, and taking it out there.
use Rattle.std.specs.Prelude.{◌≡◌, refl, ℕ, zero, suc, ◌+◌, ◌<◌, ◌≤◌, ◌==◌, nat_lt, not, ◌&&◌, ◌||◌, Bool, true, false, List, [], ◌∷◌, length, map, slice_index_or}
use Rattle.std.specs.List.{insert, remove}
use Rattle.std.proofs.Common.{arith, sym, ap, subst, inl, inr, ◌∙◌}
use Rattle.std.proofs.lemmas.Bool.{true≢false, and_parts, cases_lt, eqb-true, or_right, ltb-true, lt-ltb, eq-eqb}
use Rattle.core_events.specs.Meant.{event_meant}
use Rattle.core_events.specs.declared.events.Event as code
use Rattle.protocol.specs.Events.{Event}
use Rattle.protocol.specs.Schedule.{Rank, rank, is_rank_below, IsBelowEach, AscendByRank}
use Rattle.protocol_ready.specs.Ready.{put, without}
use Rattle.ready_list.specs.Order.{is_before, is_lower, is_same, numbers, kind_of, at, IsGap, is_there}
use Rattle.ready_list.specs.Rings.{AreOfKind}
use Rattle.ready_list.specs.declared.places.Place.{Place}

-- what is cited of the order of ranks
abbrev pub Through : Type 0
Through = (x y z : Rank) → is_rank_below x y ≡ true → is_rank_below y z ≡ true → is_rank_below x z ≡ true

abbrev pub Apart : Type 0
Apart = (x : Rank) → is_rank_below x x ≡ false

abbrev pub Same : Type 0
Same = (x y : Rank) → is_rank_below x y ≡ false → is_rank_below y x ≡ false → x ≡ y

-- ---- the order, place by place

below_at : (r : Rank) (es : List Event) (i : ℕ) → IsBelowEach r es → i < length es → is_rank_below r (rank (at es i)) ≡ true
below_at r [] i b h = absurd (omega (arith, h))
below_at r (e ∷ es) zero b h = b.0
below_at r (e ∷ es) (suc i) b h = below_at r es i b.1 (omega (arith, h))

pub ascends_at : (es : List Event) (i j : ℕ) → AscendByRank es → i < j → j < length es → is_before (at es i) (at es j) ≡ true
ascends_at [] i j a h g = absurd (omega (arith, g))
ascends_at (e ∷ es) i zero a h g = absurd (omega (arith, h))
ascends_at (e ∷ es) zero (suc j) a h g = below_at (rank e) es j a.0 (omega (arith, g))
ascends_at (e ∷ es) (suc i) (suc j) a h g = ascends_at es i j a.1 (omega (arith, h)) (omega (arith, g))

-- ---- events of one kind

pub kind_at : (k : ℕ) (es : List Event) (i : ℕ) → AreOfKind k es → i < length es → kind_of (at es i) ≡ k
kind_at k [] i h l = absurd (omega (arith, l))
kind_at k (e ∷ es) zero h l = h.0
kind_at k (e ∷ es) (suc i) h l = kind_at k es i h.1 (omega (arith, l))

same_first : (a b : ℕ) (x : Bool) → a ≡ b → (nat_lt a b || ((a == b) && x)) ≡ x
same_first a b x h = by (nat_lt a b) refl
  where
    by : (y : Bool) → nat_lt a b ≡ y → (nat_lt a b || ((a == b) && x)) ≡ x
    by true q = absurd (omega (arith, ltb-true a b q, h))
    by false q = rw (q, eq-eqb a b h) refl

not_below : (a b c d : ℕ) → a ≡ b → c ≡ d → (nat_lt a b || ((a == b) && nat_lt c d)) ≡ false
not_below a b c d h g = same_first a b (nat_lt c d) h ∙ by (nat_lt c d) refl
  where
    by : (y : Bool) → nat_lt c d ≡ y → nat_lt c d ≡ false
    by true q = absurd (omega (arith, ltb-true c d q, g))
    by false q = q

-- of the same numbers neither are lower
not_lower : (p q : Place) → is_same p q ≡ true → (is_lower p q ≡ false) × (is_lower q p ≡ false)
not_lower p q h =
    let both : ((p.first == q.first) ≡ true) × ((p.second == q.second) ≡ true) = and_parts (p.first == q.first) (p.second == q.second) h in
    let a : p.first ≡ q.first = eqb-true p.first q.first both.0 in
    let b : p.second ≡ q.second = eqb-true p.second q.second both.1 in
    (not_below p.first q.first p.second q.second a b, not_below q.first p.first q.second p.second (sym a) (sym b))

-- their numbers alone are compared
pub by_numbers : (f e : Event) → kind_of f ≡ kind_of e → is_before f e ≡ is_lower (numbers f) (numbers e)
by_numbers f e h = same_first (kind_of f) (kind_of e) (is_lower (numbers f) (numbers e)) h

-- ---- the search: of what lies ahead all is before the event, of what lies behind nothing

pub record IsBetween (es : List Event) (e : Event) (low high : ℕ) : Type 0 where
  pub order : low ≤ high
  pub within : high ≤ length es
  pub ahead : (j : ℕ) → j < low → is_before (at es j) e ≡ true
  pub behind : (j : ℕ) → high ≤ j → j < length es → is_before (at es j) e ≡ false

pub at_first : (es : List Event) (e : Event) (n : ℕ) → n ≡ length es → IsBetween es e 0 n
at_first es e n h = record { order = omega arith; within = omega (arith, h); ahead = λ j g. absurd (omega (arith, g)); behind = λ j g k. absurd (omega (arith, h, g, k)) }

pub higher : (es : List Event) (e : Event) (low high middle : ℕ) → Through → AscendByRank es → IsBetween es e low high → middle < high → is_before (at es middle) e ≡ true → IsBetween es e (middle + 1) high
higher es e low high middle through a b m h = record {
  order = omega (arith, m);
  within = b.within;
  ahead = λ j g. elim (cases_lt j middle) [
    | inl x ↦ through (rank (at es j)) (rank (at es middle)) (rank e) (ascends_at es j middle a x (omega (arith, m, b.within))) h
    | inr y ↦ let q : j ≡ middle = omega (arith, g, y) in subst (λ n. is_before (at es n) e ≡ true) (sym q) h
  ];
  behind = b.behind;
}

pub lower : (es : List Event) (e : Event) (low high middle : ℕ) → Through → AscendByRank es → IsBetween es e low high → low ≤ middle → middle < high → is_before (at es middle) e ≡ false → IsBetween es e low middle
lower es e low high middle through a b m n h = record {
  order = m;
  within = omega (arith, n, b.within);
  ahead = b.ahead;
  behind = λ j g k. elim (cases_lt middle j) [
    | inl x ↦ by j x k (is_before (at es j) e) refl
    | inr y ↦ let q : j ≡ middle = omega (arith, g, y) in subst (λ n. is_before (at es n) e ≡ false) (sym q) h
  ];
}
  where
    by : (j : ℕ) → middle < j → j < length es → (c : Bool) → is_before (at es j) e ≡ c → is_before (at es j) e ≡ false
    by j x k true q = absurd (true≢false (sym (through (rank (at es middle)) (rank (at es j)) (rank e) (ascends_at es middle j a x k) q) ∙ h))
    by j x k false q = q

pub found : (es : List Event) (e : Event) (low high : ℕ) → IsBetween es e low high → high ≤ low → IsGap es e low
found es e low high b h = record { within = omega (arith, b.order, b.within); ahead = b.ahead; behind = λ j g k. b.behind j (omega (arith, b.order, h, g)) k }

pub all_ahead : (es : List Event) (e : Event) (last : ℕ) → Through → AscendByRank es → length es ≡ suc last → is_before (at es last) e ≡ true → IsGap es e (length es)
all_ahead es e last through a l h = record {
  within = omega arith;
  ahead = λ j g. elim (cases_lt j last) [
    | inl x ↦ through (rank (at es j)) (rank (at es last)) (rank e) (ascends_at es j last a x (omega (arith, l))) h
    | inr y ↦ let q : j ≡ last = omega (arith, g, y, l) in subst (λ n. is_before (at es n) e ≡ true) (sym q) h
  ];
  behind = λ j g k. absurd (omega (arith, g, k));
}

pub none_ahead : (es : List Event) (e : Event) → length es ≡ 0 → IsGap es e (length es)
none_ahead es e l = record { within = omega arith; ahead = λ j g. absurd (omega (arith, g, l)); behind = λ j g k. absurd (omega (arith, g, k)) }

-- ---- what is read of a list that is meant

pub mapped_at : {X : Type 0} (f : X → Event) (xs : List X) (i : ℕ) (x : X) → i < length xs → at (map f xs) i ≡ f (slice_index_or xs i x)
mapped_at f [] i x h = absurd (omega (arith, h))
mapped_at f (y ∷ xs) zero x h = refl
mapped_at f (y ∷ xs) (suc i) x h = mapped_at f xs i x (omega (arith, h))

pub mapped_length : {X : Type 0} (f : X → Event) (xs : List X) → length (map f xs) ≡ length xs
mapped_length f [] = refl
mapped_length f (x ∷ xs) = omega (arith, mapped_length f xs)

pub mapped_insert : {X : Type 0} (f : X → Event) (xs : List X) (i : ℕ) (x : X) → map f (insert xs i x) ≡ insert (map f xs) i (f x)
mapped_insert f [] zero x = refl
mapped_insert f [] (suc i) x = refl
mapped_insert f (y ∷ xs) zero x = refl
mapped_insert f (y ∷ xs) (suc i) x = ap (λ l. f y ∷ l) (mapped_insert f xs i x)

pub mapped_remove : {X : Type 0} (f : X → Event) (xs : List X) (i : ℕ) → map f (remove xs i) ≡ remove (map f xs) i
mapped_remove f [] zero = refl
mapped_remove f [] (suc i) = refl
mapped_remove f (y ∷ xs) zero = refl
mapped_remove f (y ∷ xs) (suc i) = ap (λ l. f y ∷ l) (mapped_remove f xs i)

pub same_length : (items : List code.Event) (es : List Event) → map event_meant items ≡ es → length items ≡ length es
same_length items es v = sym (mapped_length event_meant items) ∙ ap length v

pub read : (items : List code.Event) (es : List Event) (i : ℕ) (x : code.Event) (e : Event) (p : Place) (r b : Bool)
    → map event_meant items ≡ es → AreOfKind (kind_of e) es → i < length items → x ≡ slice_index_or items i x → p ≡ numbers e → r ≡ is_lower (numbers (event_meant x)) p → r ≡ b → is_before (at es i) e ≡ b
read items es i x e p r b v a h f n g k =
    let q : at es i ≡ event_meant x = subst (λ l. at l i ≡ event_meant x) v (mapped_at event_meant items i x h ∙ ap event_meant (sym f)) in
    let l : i < length es = omega (arith, h, same_length items es v) in
    let same : kind_of (event_meant x) ≡ kind_of e = ap kind_of (sym q) ∙ kind_at (kind_of e) es i a l in
    ap (λ y. is_before y e) q ∙ (by_numbers (event_meant x) e same ∙ (ap (λ y. is_lower (numbers (event_meant x)) y) (sym n) ∙ (sym g ∙ k)))

pub first_gap : (items : List code.Event) (es : List Event) (x : code.Event) (e : Event) → Through → AscendByRank es → map event_meant items ≡ es → AreOfKind (kind_of e) es → 0 < length items → x ≡ slice_index_or items 0 x
    → is_same (numbers (event_meant x)) (numbers e) ≡ true → IsGap es e 0
first_gap items es x e through a v k h f n =
    let first : is_before (at es 0) e ≡ false = read items es 0 x e (numbers e) false false v k h f refl (sym (not_lower (numbers (event_meant x)) (numbers e) n).0) refl in
    found es e 0 0 (lower es e 0 (length es) 0 through a (at_first es e (length es) refl) (omega arith) (omega (arith, h, same_length items es v)) first) (omega arith)

pub first_there : (items : List code.Event) (es : List Event) (x : code.Event) (e : Event) → map event_meant items ≡ es → 0 < length items → x ≡ slice_index_or items 0 x → is_same (numbers (event_meant x)) (numbers e) ≡ true → is_there es e 0 ≡ true
first_there items es x e v h f n =
    let q : at es 0 ≡ event_meant x = subst (λ l. at l 0 ≡ event_meant x) v (mapped_at event_meant items 0 x h ∙ ap event_meant (sym f)) in
    let l : 0 < length es = omega (arith, h, same_length items es v) in
    let m : is_lower (numbers e) (numbers (at es 0)) ≡ false = ap (λ y. is_lower (numbers e) (numbers y)) q ∙ (not_lower (numbers (event_meant x)) (numbers e) n).1 in
    rw (lt-ltb 0 (length es) l, m) refl

-- ---- putting in

tail_gap : (x : Event) (es : List Event) (e : Event) (i : ℕ) → IsGap (x ∷ es) e (suc i) → IsGap es e i
tail_gap x es e i g = record {
  within = omega (arith, g.within);
  ahead = λ j h. g.ahead (suc j) (omega (arith, h));
  behind = λ j h k. g.behind (suc j) (omega (arith, h)) (omega (arith, k));
}

asymmetric : (e f : Event) → Through → Apart → is_before e f ≡ true → is_before f e ≡ false
asymmetric e f through apart h = by (is_before f e) refl
  where
    by : (b : Bool) → is_before f e ≡ b → is_before f e ≡ false
    by true q = absurd (true≢false (sym (through (rank e) (rank f) (rank e) h q) ∙ apart (rank e)))
    by false q = q

put_there : (es : List Event) (e : Event) (i : ℕ) → Through → Apart → IsGap es e i → i < length es → is_before e (at es i) ≡ false → put e es ≡ es
put_there [] e i through apart g h n = absurd (omega (arith, h))
put_there (x ∷ es) e zero through apart g h n = let b : is_before x e ≡ false = g.behind 0 (omega arith) h in rw (n, b) refl
put_there (x ∷ es) e (suc i) through apart g h n =
    let b : is_before x e ≡ true = g.ahead 0 (omega arith) in
    let r : put e es ≡ es = put_there es e i through apart (tail_gap x es e i g) (omega (arith, h)) n in
    rw (b, asymmetric x e through apart b, r) refl

put_new : (es : List Event) (e : Event) (i : ℕ) → Through → Apart → IsGap es e i → (i < length es → is_before e (at es i) ≡ true) → put e es ≡ insert es i e
put_new [] e zero through apart g n = refl
put_new [] e (suc i) through apart g n = absurd (omega (arith, g.within))
put_new (x ∷ es) e zero through apart g n = let b : is_before e x ≡ true = n (omega arith) in rw b refl
put_new (x ∷ es) e (suc i) through apart g n =
    let b : is_before x e ≡ true = g.ahead 0 (omega arith) in
    let r : put e es ≡ insert es i e = put_new es e i through apart (tail_gap x es e i g) (λ h. n (omega (arith, h))) in
    rw (b, asymmetric x e through apart b, r) refl

-- by whether it is there
there_parts : (es : List Event) (e : Event) (i : ℕ) → AreOfKind (kind_of e) es → is_there es e i ≡ true → (i < length es) × (is_before e (at es i) ≡ false)
there_parts es e i a h = by (nat_lt i (length es)) refl (is_lower (numbers e) (numbers (at es i))) refl h
  where
    by : (x : Bool) → nat_lt i (length es) ≡ x → (y : Bool) → is_lower (numbers e) (numbers (at es i)) ≡ y → (x && not y) ≡ true → (i < length es) × (is_before e (at es i) ≡ false)
    by true p false q h = (ltb-true i (length es) p, by_numbers e (at es i) (sym (kind_at (kind_of e) es i a (ltb-true i (length es) p))) ∙ q)
    by true p true q h = absurd (true≢false (sym h))
    by false p y q h = absurd (true≢false (sym h))

not_there : (es : List Event) (e : Event) (i : ℕ) → AreOfKind (kind_of e) es → is_there es e i ≡ false → i < length es → is_before e (at es i) ≡ true
not_there es e i a h l = by_numbers e (at es i) (sym (kind_at (kind_of e) es i a l)) ∙ by (is_lower (numbers e) (numbers (at es i))) refl
  where
    by : (y : Bool) → is_lower (numbers e) (numbers (at es i)) ≡ y → is_lower (numbers e) (numbers (at es i)) ≡ true
    by true q = q
    by false q = absurd (true≢false (sym (rw (lt-ltb i (length es) l, q) refl) ∙ h))

pub put_where_there : (es : List Event) (e : Event) (i : ℕ) → AreOfKind (kind_of e) es → Through → Apart → IsGap es e i → is_there es e i ≡ true → es ≡ put e es
put_where_there es e i a through apart g h = let q = there_parts es e i a h in sym (put_there es e i through apart g q.0 q.1)

pub put_where_new : (es : List Event) (e : Event) (i : ℕ) → AreOfKind (kind_of e) es → Through → Apart → IsGap es e i → is_there es e i ≡ false → insert es i e ≡ put e es
put_where_new es e i a through apart g h = sym (put_new es e i through apart g (not_there es e i a h))

-- behind all, where the list has this length
pub put_behind : (es : List Event) (e : Event) (i : ℕ) → Through → Apart → i ≡ length es → IsGap es e (length es) → insert es i e ≡ put e es
put_behind es e i through apart n g = subst (λ m. insert es m e ≡ put e es) (sym n) (sym (put_new es e (length es) through apart g (λ h. absurd (omega (arith, h)))))

-- ---- taking out

kept_all : (e : Event) (es : List Event) → IsBelowEach (rank e) es → without e es ≡ es
kept_all e [] b = refl
kept_all e (x ∷ es) b = rw (or_right (is_before x e) (is_before e x) b.0, kept_all e es b.1) refl

below_more : (q r : Rank) (es : List Event) → Through → is_rank_below q r ≡ true → IsBelowEach r es → IsBelowEach q es
below_more q r [] through h g = tt
below_more q r (x ∷ es) through h g = (through q r (rank x) h g.0, below_more q r es through h g.1)

take_there : (es : List Event) (e : Event) (i : ℕ) → Same → AscendByRank es → IsGap es e i → i < length es → is_before e (at es i) ≡ false → without e es ≡ remove es i
take_there [] e i same a g h n = absurd (omega (arith, h))
take_there (x ∷ es) e zero same a g h n =
    let b : is_before x e ≡ false = g.behind 0 (omega arith) h in
    rw (b, n) (kept_all e es (subst (λ r. IsBelowEach r es) (sym (same (rank e) (rank x) n b)) a.0))
take_there (x ∷ es) e (suc i) same a g h n =
    let b : is_before x e ≡ true = g.ahead 0 (omega arith) in
    rw (b, take_there es e i same a.1 (tail_gap x es e i g) (omega (arith, h)) n) refl

take_none : (es : List Event) (e : Event) (i : ℕ) → Through → AscendByRank es → IsGap es e i → (i < length es → is_before e (at es i) ≡ true) → without e es ≡ es
take_none [] e i through a g n = refl
take_none (x ∷ es) e zero through a g n = let b : is_before e x ≡ true = n (omega arith) in kept_all e (x ∷ es) (b, below_more (rank e) (rank x) es through b a.0)
take_none (x ∷ es) e (suc i) through a g n =
    let b : is_before x e ≡ true = g.ahead 0 (omega arith) in
    rw (b, take_none es e i through a.1 (tail_gap x es e i g) (λ h. n (omega (arith, h)))) refl

pub take_where_there : (es : List Event) (e : Event) (i : ℕ) → AreOfKind (kind_of e) es → Same → AscendByRank es → IsGap es e i → is_there es e i ≡ true → remove es i ≡ without e es
take_where_there es e i k same a g h = let q = there_parts es e i k h in sym (take_there es e i same a g q.0 q.1)

pub take_where_none : (es : List Event) (e : Event) (i : ℕ) → AreOfKind (kind_of e) es → Through → AscendByRank es → IsGap es e i → is_there es e i ≡ false → es ≡ without e es
take_where_none es e i k through a g h = sym (take_none es e i through a g (not_there es e i k h))

-- ---- how many there are then

pub there_within : (es : List Event) (e : Event) (i : ℕ) → AreOfKind (kind_of e) es → is_there es e i ≡ true → i < length es
there_within es e i k h = (there_parts es e i k h).0

pub length_inserted : {X : Type 0} (xs : List X) (i : ℕ) (x : X) → length (insert xs i x) ≡ length xs + 1
length_inserted [] zero x = refl
length_inserted [] (suc i) x = refl
length_inserted (y ∷ xs) zero x = omega arith
length_inserted (y ∷ xs) (suc i) x = omega (arith, length_inserted xs i x)

pub length_removed : {X : Type 0} (xs : List X) (i : ℕ) → i < length xs → length (remove xs i) + 1 ≡ length xs
length_removed [] i h = absurd (omega (arith, h))
length_removed (y ∷ xs) zero h = omega arith
length_removed (y ∷ xs) (suc i) h = omega (arith, length_removed xs i (omega (arith, h)))
