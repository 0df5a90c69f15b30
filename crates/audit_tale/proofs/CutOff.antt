-- Numbers from a batch on: what a cascade leaves of the batches, of the cascades, and of what stands behind an ACT.
use Rattle.std.specs.Prelude.{◌≡◌, ◌⊎◌, refl, ℕ, zero, suc, ◌+◌, ◌-◌, ◌<◌, ◌≤◌, ◌==◌, nat_lt, nat_le, min, not, ◌&&◌, ◌||◌, Bool, true, false, if◌then◌else◌, Option, Some, None, option_map, List, [], ◌∷◌, ◌++◌, length, map, filter, take, drop, slice_get}
use Rattle.std.specs.List.{AllByRecursion}
use Rattle.std.proofs.Common.{arith, sym, ap, subst, inl, inr, ◌∙◌}
use Rattle.std.proofs.lemmas.Bool.{true≢false, cases_lt, eq-eqb, eqb-true, le-leb, le-ltb, leb-false, leb-true, lt-leb, lt-ltb, ltb-false, ltb-true, ne_eqb}
use Rattle.std.proofs.lemmas.List.{append-nil, take-append-drop}
use Rattle.std.proofs.lemmas.List.Elements.{filter-append}
use Rattle.std.proofs.lemmas.List.Folds.{list_any-append}
use Rattle.snap_base.proofs.Booleans.{and_false, and_true, first_false, or_false, second_false}
use Rattle.snap_base.specs.declared.ids.Bid.{Bid}
use Rattle.protocol.specs.OnRing.{Formed}
use Rattle.protocol.specs.Words.{is_among, least_of}
use Rattle.audit_words.specs.Seen.{Cut, was_taken_along, least}
use Rattle.audit_tale.specs.Cutting.{cut_act, least_below}
use Rattle.audit_tale.specs.Knows.{AreNumbered, bid_number}
use Rattle.audit_tale.specs.Touching.{lives}
use Rattle.audit_tale.specs.declared.tales.ActTale.{ActTale}
use Rattle.audit_tale.specs.declared.tales.Reason.TheVariants as reason

pub or_turned : (a b : Bool) → (a || b) ≡ (b || a)
or_turned true true = refl
or_turned true false = refl
or_turned false true = refl
or_turned false false = refl

-- ---- rising numbers

abbrev pub Rises : ℕ → List ℕ → Type 0
Rises n [] = Unit {0}
Rises n (x ∷ xs) = (n ≤ x) × Rises (x + 1) xs

rises_low : (m n : ℕ) (xs : List ℕ) → m ≤ n → Rises n xs → Rises m xs
rises_low m n [] l h = tt
rises_low m n (x ∷ xs) l h = (omega (arith, l, h.0), h.1)

pub rises_filter : (p : ℕ → Bool) (n : ℕ) (xs : List ℕ) → Rises n xs → Rises n (filter p xs)
rises_filter p n [] h = tt
rises_filter p n (x ∷ xs) h = by (p x) (rises_filter p (x + 1) xs h.1)
  where
    by : (b : Bool) → Rises (x + 1) (filter p xs) → Rises n (if b then x ∷ filter p xs else filter p xs)
    by true k = (h.0, k)
    by false k = rises_low n (x + 1) (filter p xs) (omega (arith, h.0)) k

pub bids_rise : (n : ℕ) (fs : List Formed) → AreNumbered n fs → Rises n (map (λ f. f.bid) fs)
bids_rise n [] h = tt
bids_rise n (f ∷ fs) h = (omega (arith, h.0), rises_low (f.bid + 1) (n + 1) (map (λ f. f.bid) fs) (omega (arith, h.0)) (bids_rise (n + 1) fs h.1))

rises_above : (n i b : ℕ) (xs : List ℕ) → Rises n xs → slice_get xs i ≡ Some b → n ≤ b
rises_above n i b [] h e = absurd (cc e)
rises_above n zero b (x ∷ xs) h e = let is : x ≡ b = cc e in omega (arith, is, h.0)
rises_above n (suc i) b (x ∷ xs) h e = omega (arith, h.0, rises_above (x + 1) i b xs h.1 e)

-- where the last of a front is below k, all of it is
front_below : (k n i b : ℕ) (xs : List ℕ) → Rises n xs → slice_get xs i ≡ Some b → b < k → AllByRecursion (λ x. x < k) (take (suc i) xs)
front_below k n i b [] h e l = absurd (cc e)
front_below k n zero b (x ∷ xs) h e l = let is : x ≡ b = cc e in (omega (arith, is, l), tt)
front_below k n (suc i) b (x ∷ xs) h e l = (omega (arith, rises_above (x + 1) i b xs h.1 e, l), front_below k (x + 1) i b xs h.1 e l)

pub below_cut : (k n left : ℕ) (xs : List ℕ) → Rises n xs → left ≤ length xs → ((b : ℕ) → 0 < left → slice_get xs (left - 1) ≡ Some b → b < k) → AllByRecursion (λ x. x < k) (take left xs)
below_cut k n zero xs h w l = tt
below_cut k n (suc i) xs h w l =
    let at : suc i - 1 ≡ i = omega arith in
    let b = one_there xs i (omega (arith, w)) in
    front_below k n i b.0 xs h b.1 (l b.0 (omega arith) (ap (slice_get xs) at ∙ b.1))
  where
    one_there : (xs : List ℕ) (i : ℕ) → i < length xs → (x : ℕ) × (slice_get xs i ≡ Some x)
    one_there [] i h = absurd (omega (arith, h))
    one_there (x ∷ xs) zero h = (x, refl)
    one_there (x ∷ xs) (suc i) h = one_there xs i (omega (arith, h))

-- ---- those from k on, and those below

keep_below : (k : ℕ) (xs : List ℕ) → AllByRecursion (λ x. x < k) xs → filter (λ x. nat_lt x k) xs ≡ xs
keep_below k [] h = refl
keep_below k (x ∷ xs) h = ap (λ (b : Bool). if b then x ∷ filter (λ y. nat_lt y k) xs else filter (λ y. nat_lt y k) xs) (lt-ltb x k h.0) ∙ ap (λ ys. x ∷ ys) (keep_below k xs h.1)

keep_none : (k : ℕ) (xs : List ℕ) → AllByRecursion (λ x. k ≤ x) xs → filter (λ x. nat_lt x k) xs ≡ []
keep_none k [] h = refl
keep_none k (x ∷ xs) h = ap (λ (b : Bool). if b then x ∷ filter (λ y. nat_lt y k) xs else filter (λ y. nat_lt y k) xs) (le-ltb x k h.0) ∙ keep_none k xs h.1

pub front_is : (k left : ℕ) (xs : List ℕ) → AllByRecursion (λ x. x < k) (take left xs) → AllByRecursion (λ x. k ≤ x) (drop left xs) → take left xs ≡ filter (λ x. nat_lt x k) xs
front_is k left xs f g =
    sym (ap (filter (λ x. nat_lt x k)) (sym (take-append-drop left xs))
    ∙ (filter-append (λ x. nat_lt x k) (take left xs) (drop left xs) ∙ (ap (λ ys. ys ++ filter (λ x. nat_lt x k) (drop left xs)) (keep_below k (take left xs) f) ∙ (ap (λ ys. take left xs ++ ys) (keep_none k (drop left xs) g) ∙ append-nil (take left xs)))))

none_below : (k j : ℕ) (xs : List ℕ) → AllByRecursion (λ x. x < k) xs → k ≤ j → is_among j xs ≡ false
none_below k j [] h l = refl
none_below k j (x ∷ xs) h l = ap (λ (b : Bool). b || is_among j xs) (ne_eqb x j (λ q. omega (arith, q, h.0, l))) ∙ none_below k j xs h.1 l

none_from : (k j : ℕ) (xs : List ℕ) → AllByRecursion (λ x. k ≤ x) xs → j < k → is_among j xs ≡ false
none_from k j [] h l = refl
none_from k j (x ∷ xs) h l = ap (λ (b : Bool). b || is_among j xs) (ne_eqb x j (λ q. omega (arith, q, h.0, l))) ∙ none_from k j xs h.1 l

pub back_is : (k left j : ℕ) (xs : List ℕ) → AllByRecursion (λ x. x < k) (take left xs) → AllByRecursion (λ x. k ≤ x) (drop left xs) → is_among j (drop left xs) ≡ (is_among j xs && nat_le k j)
back_is k left j xs f g = by (cases_lt j k)
  where
    both : is_among j xs ≡ (is_among j (take left xs) || is_among j (drop left xs))
    both = ap (is_among j) (sym (take-append-drop left xs)) ∙ list_any-append (λ x. x == j) (take left xs) (drop left xs)

    by : (j < k) ⊎ (k ≤ j) → is_among j (drop left xs) ≡ (is_among j xs && nat_le k j)
    by (inl l) = none_from k j (drop left xs) g l ∙ sym (ap (λ (b : Bool). is_among j xs && b) (lt-leb k j l) ∙ and_false (is_among j xs))
    by (inr l) = sym (ap (λ (b : Bool). is_among j xs && b) (le-leb k j l) ∙ (and_true (is_among j xs) ∙ (both ∙ ap (λ (b : Bool). b || is_among j (drop left xs)) (none_below k j (take left xs) f l))))

pub among_filter : (p : ℕ → Bool) (j : ℕ) (xs : List ℕ) → is_among j (filter p xs) ≡ (is_among j xs && p j)
among_filter p j [] = refl
among_filter p j (x ∷ xs) = by (p x) refl (x == j) refl (among_filter p j xs)
  where
    here : (x == j) ≡ true → p x ≡ p j
    here e = ap p (eqb-true x j e)

    by : (b : Bool) → p x ≡ b → (c : Bool) → (x == j) ≡ c → is_among j (filter p xs) ≡ (is_among j xs && p j) → is_among j (if b then x ∷ filter p xs else filter p xs) ≡ ((c || is_among j xs) && p j)
    by true q true e h = ap (λ (b : Bool). b || is_among j (filter p xs)) e ∙ (sym q ∙ here e)
    by true q false e h = ap (λ (b : Bool). b || is_among j (filter p xs)) e ∙ h
    by false q true e h = h ∙ (ap (λ (b : Bool). is_among j xs && b) (sym (here e) ∙ q) ∙ (and_false (is_among j xs) ∙ (sym q ∙ here e)))
    by false q false e h = h

pub bids_there : (n i : ℕ) (fs : List Formed) → AreNumbered n fs → i < length fs → is_among (n + i) (map (λ f. f.bid) fs) ≡ true
bids_there n i [] h l = absurd (omega (arith, l))
bids_there n zero (f ∷ fs) h l = ap (λ (b : Bool). b || is_among (n + 0) (map (λ f. f.bid) fs)) (eq-eqb f.bid (n + 0) (omega (arith, h.0)))
bids_there n (suc i) (f ∷ fs) h l =
    let same : n + suc i ≡ (n + 1) + i = omega arith in
    by (f.bid == (n + suc i)) (ap (λ (m : ℕ). is_among m (map (λ f. f.bid) fs)) same ∙ bids_there (n + 1) i fs h.1 (omega (arith, l)))
  where
    by : (b : Bool) → is_among (n + suc i) (map (λ f. f.bid) fs) ≡ true → (b || is_among (n + suc i) (map (λ f. f.bid) fs)) ≡ true
    by true e = refl
    by false e = e

pub bids_below : (n : ℕ) (fs : List Formed) → AreNumbered n fs → AllByRecursion (λ j. j < n + length fs) (map (λ f. f.bid) fs)
bids_below n [] h = tt
bids_below n (f ∷ fs) h = (omega (arith, h.0), subst (λ (m : ℕ). AllByRecursion (λ j. j < m) (map (λ f. f.bid) fs)) (omega arith) (bids_below (n + 1) fs h.1))

-- ---- one more cascade

pub cut_more : (j : ℕ) (c : Cut) (cuts : List Cut) → was_taken_along j (cuts ++ c ∷ []) ≡ (was_taken_along j cuts || (nat_le c.first j && nat_le j c.upto))
cut_more j c cuts = list_any-append (λ x. nat_le x.first j && nat_le j x.upto) cuts (c ∷ []) ∙ ap (λ (b : Bool). was_taken_along j cuts || b) (or_false (nat_le c.first j && nat_le j c.upto))

-- of the batches up to the last one those are left that are below its first
pub uncut_more : (c : Cut) (cuts : List Cut) (ks : List ℕ) → AllByRecursion (λ j. j ≤ c.upto) ks → filter (λ j. not (was_taken_along j (cuts ++ c ∷ []))) ks ≡ filter (λ j. nat_lt j c.first) (filter (λ j. not (was_taken_along j cuts)) ks)
uncut_more c cuts [] h = refl
uncut_more c cuts (k ∷ ks) h = ap (λ (b : Bool). if b then k ∷ filter (λ j. not (was_taken_along j (cuts ++ c ∷ []))) ks else filter (λ j. not (was_taken_along j (cuts ++ c ∷ []))) ks) test ∙ by (was_taken_along k cuts) (nat_lt k c.first) refl (uncut_more c cuts ks h.1)
  where
    first : nat_le c.first k ≡ not (nat_lt k c.first)
    first = at (cases_lt k c.first)
      where
        at : (k < c.first) ⊎ (c.first ≤ k) → nat_le c.first k ≡ not (nat_lt k c.first)
        at (inl l) = lt-leb c.first k l ∙ sym (ap not (lt-ltb k c.first l))
        at (inr l) = le-leb c.first k l ∙ sym (ap not (le-ltb k c.first l))

    test : not (was_taken_along k (cuts ++ c ∷ [])) ≡ not (was_taken_along k cuts || not (nat_lt k c.first))
    test = ap not (cut_more k c cuts ∙ ap (λ (b : Bool). was_taken_along k cuts || b) (ap (λ (b : Bool). nat_le c.first k && b) (le-leb k c.upto h.0) ∙ (and_true (nat_le c.first k) ∙ first)))

    by : (b d : Bool) → nat_lt k c.first ≡ d → filter (λ j. not (was_taken_along j (cuts ++ c ∷ []))) ks ≡ filter (λ j. nat_lt j c.first) (filter (λ j. not (was_taken_along j cuts)) ks)
        → (if not (b || not d) then k ∷ filter (λ j. not (was_taken_along j (cuts ++ c ∷ []))) ks else filter (λ j. not (was_taken_along j (cuts ++ c ∷ []))) ks)
        ≡ filter (λ j. nat_lt j c.first) (if not b then k ∷ filter (λ j. not (was_taken_along j cuts)) ks else filter (λ j. not (was_taken_along j cuts)) ks)
    by true d e g = g
    by false true e g = ap (λ zs. k ∷ zs) g ∙ sym (ap (λ (b : Bool). if b then k ∷ filter (λ j. nat_lt j c.first) (filter (λ j. not (was_taken_along j cuts)) ks) else filter (λ j. nat_lt j c.first) (filter (λ j. not (was_taken_along j cuts)) ks)) e)
    by false false e g = g ∙ sym (ap (λ (b : Bool). if b then k ∷ filter (λ j. nat_lt j c.first) (filter (λ j. not (was_taken_along j cuts)) ks) else filter (λ j. nat_lt j c.first) (filter (λ j. not (was_taken_along j cuts)) ks)) e)

-- no cascade began with a batch that none took along
pub none_first : (k : ℕ) (cuts : List Cut) → AllByRecursion (λ c. c.first ≤ c.upto) cuts → was_taken_along k cuts ≡ false → filter (λ c. c.first == k) cuts ≡ []
none_first k [] h e = refl
none_first k (c ∷ cuts) h e = by (c.first == k) refl (none_first k cuts h.1 (second_false (nat_le c.first k && nat_le k c.upto) (was_taken_along k cuts) e))
  where
    by : (b : Bool) → (c.first == k) ≡ b → filter (λ x. x.first == k) cuts ≡ [] → (if b then c ∷ filter (λ x. x.first == k) cuts else filter (λ x. x.first == k) cuts) ≡ []
    by true q g =
        let same : c.first ≡ k = eqb-true c.first k q in
        absurd (true≢false (sym (ap (λ (b : Bool). b && nat_le k c.upto) (le-leb c.first k (omega (arith, same))) ∙ le-leb k c.upto (omega (arith, same, h.0))) ∙ first_false (nat_le c.first k && nat_le k c.upto) (was_taken_along k cuts) e))
    by false q g = g

-- ---- what stands behind an ACT

abbrev pub least_cut : ℕ → Option ℕ → Option ℕ
least_cut k None = None
least_cut k (Some m) = if nat_le k m then None else Some m

pub least_left : (k n : ℕ) (js : List ℕ) → AllByRecursion (λ j. j < n) js → least (filter (λ j. nat_lt j k || not (nat_lt j n)) js) ≡ least_cut k (least js)
least_left k n [] h = refl
least_left k n (j ∷ js) h =
    ap (λ (b : Bool). least (if b then j ∷ filter (λ i. nat_lt i k || not (nat_lt i n)) js else filter (λ i. nat_lt i k || not (nat_lt i n)) js)) test
    ∙ by (nat_lt j k) refl (least_left k n js h.1)
  where
    test : (nat_lt j k || not (nat_lt j n)) ≡ nat_lt j k
    test = ap (λ (b : Bool). nat_lt j k || not b) (lt-ltb j n h.0) ∙ or_false (nat_lt j k)

    low : j < k → (o : Option ℕ) → Some (least_of j (least_cut k o)) ≡ least_cut k (Some (least_of j o))
    low l None = sym (ap (λ (b : Bool). if b then None else Some j) (lt-leb k j l))
    low l (Some m) = at (nat_le k m) refl ∙ sym (ap (λ (b : Bool). if b then None else Some (min j m)) (lt-leb k (min j m) (omega (arith, l))))
      where
        at : (b : Bool) → nat_le k m ≡ b → Some (least_of j (if b then None else Some m)) ≡ Some (min j m)
        at true e = ap Some (omega (arith, leb-true k m e, l))
        at false e = refl

    high : k ≤ j → (o : Option ℕ) → least_cut k o ≡ least_cut k (Some (least_of j o))
    high l None = sym (ap (λ (b : Bool). if b then None else Some j) (le-leb k j l))
    high l (Some m) = at (nat_le k m) refl
      where
        at : (b : Bool) → nat_le k m ≡ b → (if b then None else Some m) ≡ least_cut k (Some (min j m))
        at true e = sym (ap (λ (b : Bool). if b then None else Some (min j m)) (le-leb k (min j m) (omega (arith, leb-true k m e, l))))
        at false e =
            let small : m < k = leb-false k m e in
            ap Some (omega (arith, small, l)) ∙ sym (ap (λ (b : Bool). if b then None else Some (min j m)) (lt-leb k (min j m) (omega (arith, small))))

    by : (b : Bool) → nat_lt j k ≡ b → least (filter (λ i. nat_lt i k || not (nat_lt i n)) js) ≡ least_cut k (least js) → least (if b then j ∷ filter (λ i. nat_lt i k || not (nat_lt i n)) js else filter (λ i. nat_lt i k || not (nat_lt i n)) js) ≡ least_cut k (Some (least_of j (least js)))
    by true e rest = ap (λ (o : Option ℕ). Some (least_of j o)) rest ∙ low (ltb-true j k e) (least js)
    by false e rest = rest ∙ high (ltb-false j k e) (least js)

pub least_kept : (k : Bid) (o : Option Bid) → option_map bid_number (least_below k o) ≡ least_cut k.0 (option_map bid_number o)
least_kept k None = refl
least_kept k (Some j) = by (nat_le k.0 j.0)
  where
    by : (b : Bool) → option_map bid_number (if b then None else Some j) ≡ (if b then None else Some j.0)
    by true = refl
    by false = refl

-- ---- once is enough

pub cut_twice : (k : Bid) (x : ActTale) → cut_act k (cut_act k x) ≡ cut_act k x
cut_twice k x = by (lives x) refl (nat_le k.0 x.before.0) refl
  where
    below_twice : (o : Option Bid) → least_below k (least_below k o) ≡ least_below k o
    below_twice None = refl
    below_twice (Some j) = one (nat_le k.0 j.0) refl
      where
        one : (b : Bool) → nat_le k.0 j.0 ≡ b → least_below k (if b then None else Some j) ≡ (if b then None else Some j)
        one true e = refl
        one false e = ap (λ (b : Bool). if b then None else Some j) e

    y : ActTale
    y = record x { behind = least_below k x.behind }

    again : (l b : Bool) → b ≡ false → (if l then (if b then record y { given_up = Some (reason.Taken k) } else record y { behind = least_below k y.behind }) else y) ≡ y
    again true true e = absurd (true≢false e)
    again true false e = ap (λ (o : Option Bid). record x { behind = o }) (below_twice x.behind)
    again false b e = refl

    by : (l : Bool) → lives x ≡ l → (b : Bool) → nat_le k.0 x.before.0 ≡ b
        → cut_act k (if l then (if b then record x { given_up = Some (reason.Taken k) } else y) else x) ≡ (if l then (if b then record x { given_up = Some (reason.Taken k) } else y) else x)
    by true e true f = refl
    by true e false f = again (lives y) (nat_le k.0 x.before.0) f
    by false e b f = ap (λ (l : Bool). if l then (if nat_le k.0 x.before.0 then record x { given_up = Some (reason.Taken k) } else record x { behind = least_below k x.behind }) else x) e
