-- Parts of lists: who stands there once stands there once behind an event too; which ACTs began, and which are given up.
use Rattle.std.specs.Prelude.{◌≡◌, ◌≢◌, refl, ℕ, ◌==◌, nat_le, min, max, ◌&&◌, ◌||◌, Bool, true, false, if◌then◌else◌, Option, Some, None, is_some, List, [], ◌∷◌, ◌++◌, filter, map}
use Rattle.std.specs.List.{AllByRecursion, list_any}
use Rattle.std.proofs.Common.{arith, sym, ap, subst, ◌∙◌}
use Rattle.std.proofs.lemmas.Bool.{and_from, eq-eqb, eqb-true, false_from_ne_true, leb-false, leb-true, ne_eqb, or_from, or_left, or_right, true≢false}
use Rattle.snap_base.proofs.Booleans.{eqb_turned, first_false, or_false, second_false}
use Rattle.snap_base.proofs.Lists.{all_push, weaker}
use Rattle.protocol.specs.History.{with_at}
use Rattle.protocol.specs.Parts.{Who, OfBatch, OfAct}
use Rattle.protocol.specs.Spread.{reaches}
use Rattle.protocol.specs.Words.{greatest, is_who, least_of}
use Rattle.audit_words.specs.Happenings.{uncut_entries}
use Rattle.audit_words.specs.Seen.{Begun, Cut, Doom, Member, act_in, first_doom, has_its_place, was_taken_along, was_given_up, is_one_of_these, least}
use Rattle.audit_tale.specs.Stands.{AreApart}

-- ---- both tests

-- where the one tests make up the other ones, what fails of these fails of those
pub both_less : (a b c d : Bool) → (c ≡ true → a ≡ true) → (d ≡ true → b ≡ true) → (a && b) ≡ false → (c && d) ≡ false
both_less a b true true f g h = absurd (true≢false (sym (and_from a b (f refl) (g refl)) ∙ h))
both_less a b true false f g h = refl
both_less a b false d f g h = refl

-- ---- a value for each number

pub here : {X : Type 0} (n : ℕ) (v : X) (f : ℕ → X) → with_at n v f n ≡ v
here n v f = ap (λ (b : Bool). if b then v else f n) (eq-eqb n n refl)

pub elsewhere : {X : Type 0} (n i : ℕ) (v : X) (f : ℕ → X) → i ≢ n → with_at n v f i ≡ f i
elsewhere n i v f h = ap (λ (b : Bool). if b then v else f i) (ne_eqb i n h)

pub each_with : {X : Type 0} (P : ℕ → X → Type 0) (n : ℕ) (v : X) (f : ℕ → X) → P n v → ((i : ℕ) → P i (f i)) → (i : ℕ) → P i (with_at n v f i)
each_with P n v f here h i = by (i == n) refl
  where
    by : (b : Bool) → (i == n) ≡ b → P i (if b then v else f i)
    by true e = subst (λ (j : ℕ). P j v) (sym (eqb-true i n e)) here
    by false e = h i

-- the same of two values for each number
pub both_with : {X Y : Type 0} (P : X → Y → Type 0) (n : ℕ) (u : X) (v : Y) (f : ℕ → X) (g : ℕ → Y) → P u v → ((i : ℕ) → P (f i) (g i)) → (i : ℕ) → P (with_at n u f i) (with_at n v g i)
both_with P n u v f g here h i = by (i == n)
  where
    by : (b : Bool) → P (if b then u else f i) (if b then v else g i)
    by true = here
    by false = h i

-- ---- who stands somewhere

who_is : (who : Who) → is_who who who ≡ true
who_is (OfBatch k) = eq-eqb k k refl
who_is (OfAct t) = eq-eqb t t refl

there_more : (who last : Who) (ws : List Who) → is_one_of_these who ws ≡ true → is_one_of_these who (ws ++ last ∷ []) ≡ true
there_more who last [] h = absurd (true≢false (sym h))
there_more who last (v ∷ ws) h = by (is_who who v) h (there_more who last ws)
  where
    by : (b : Bool) → (b || is_one_of_these who ws) ≡ true → (is_one_of_these who ws ≡ true → is_one_of_these who (ws ++ last ∷ []) ≡ true) → (b || is_one_of_these who (ws ++ last ∷ [])) ≡ true
    by true e r = refl
    by false e r = r e

there_last : (who : Who) (ws : List Who) → is_one_of_these who (ws ++ who ∷ []) ≡ true
there_last who [] = or_left _ _ (who_is who)
there_last who (v ∷ ws) = or_right _ _ (there_last who ws)

-- one more is placed, and stands there
pub placed_push : (who : Who) (ps ws : List Who) → AllByRecursion (λ v. is_one_of_these v ps ≡ true) ws → AllByRecursion (λ v. is_one_of_these v (ps ++ who ∷ []) ≡ true) (ws ++ who ∷ [])
placed_push who ps ws h = all_push (λ v. is_one_of_these v (ps ++ who ∷ []) ≡ true) ws who (weaker (λ v. is_one_of_these v ps ≡ true) (λ v. is_one_of_these v (ps ++ who ∷ []) ≡ true) ws (λ v e. there_more v who ps e) h) (there_last who ps)

pub who_turned : (x y : Who) (b : Bool) → is_who x y ≡ b → is_who y x ≡ b
who_turned (OfBatch k) (OfBatch j) b e = eqb_turned k j b e
who_turned (OfBatch k) (OfAct t) b e = e
who_turned (OfAct t) (OfBatch k) b e = e
who_turned (OfAct t) (OfAct u) b e = eqb_turned t u b e

there_push : (who last : Who) (ws : List Who) → is_one_of_these who ws ≡ false → is_who who last ≡ false → is_one_of_these who (ws ++ last ∷ []) ≡ false
there_push who last [] h e = or_from _ _ e refl
there_push who last (v ∷ ws) h e = or_from _ _ (first_false _ _ h) (there_push who last ws (second_false _ _ h) e)

pub apart_push : (who : Who) (ws : List Who) → AreApart ws → is_one_of_these who ws ≡ false → AreApart (ws ++ who ∷ [])
apart_push who [] h n = (refl, tt)
apart_push who (v ∷ ws) h n = (there_push v who ws h.0 (who_turned who v false (first_false _ _ n)), apart_push who ws h.1 (second_false _ _ n))

there_less : (p : Who → Bool) (who : Who) (ws : List Who) → is_one_of_these who ws ≡ false → is_one_of_these who (filter p ws) ≡ false
there_less p who [] h = refl
there_less p who (v ∷ ws) h = by (p v) (there_less p who ws (second_false _ _ h))
  where
    by : (b : Bool) → is_one_of_these who (filter p ws) ≡ false → is_one_of_these who (if b then v ∷ filter p ws else filter p ws) ≡ false
    by true r = or_from _ _ (first_false _ _ h) r
    by false r = r

pub apart_less : (p : Who → Bool) (ws : List Who) → AreApart ws → AreApart (filter p ws)
apart_less p [] h = tt
apart_less p (v ∷ ws) h = by (p v) (apart_less p ws h.1)
  where
    by : (b : Bool) → AreApart (filter p ws) → AreApart (if b then v ∷ filter p ws else filter p ws)
    by true r = (there_less p v ws h.0, r)
    by false r = r

-- what stays of a schedule is a part of it
there_stays : (passed : Bool) (cuts : List Cut) (who : Who) (ws : List Who) → is_one_of_these who ws ≡ false → is_one_of_these who (uncut_entries passed cuts ws) ≡ false
there_stays passed cuts who [] h = refl
there_stays passed cuts who (OfBatch k ∷ ws) h = by (was_taken_along k cuts) (there_stays true cuts who ws (second_false _ _ h)) (there_stays passed cuts who ws (second_false _ _ h))
  where
    by : (b : Bool) → is_one_of_these who (uncut_entries true cuts ws) ≡ false → is_one_of_these who (uncut_entries passed cuts ws) ≡ false → is_one_of_these who (if b then uncut_entries true cuts ws else OfBatch k ∷ uncut_entries passed cuts ws) ≡ false
    by true r q = r
    by false r q = or_from _ _ (first_false _ _ h) q
there_stays true cuts who (OfAct t ∷ ws) h = there_stays true cuts who ws (second_false _ _ h)
there_stays false cuts who (OfAct t ∷ ws) h = or_from _ _ (first_false _ _ h) (there_stays false cuts who ws (second_false _ _ h))

pub apart_stays : (passed : Bool) (cuts : List Cut) (ws : List Who) → AreApart ws → AreApart (uncut_entries passed cuts ws)
apart_stays passed cuts [] h = tt
apart_stays passed cuts (OfBatch k ∷ ws) h = by (was_taken_along k cuts) (apart_stays true cuts ws h.1) (apart_stays passed cuts ws h.1)
  where
    by : (b : Bool) → AreApart (uncut_entries true cuts ws) → AreApart (uncut_entries passed cuts ws) → AreApart (if b then uncut_entries true cuts ws else OfBatch k ∷ uncut_entries passed cuts ws)
    by true r q = r
    by false r q = (there_stays passed cuts (OfBatch k) ws h.0, q)
apart_stays true cuts (OfAct t ∷ ws) h = apart_stays true cuts ws h.1
apart_stays false cuts (OfAct t ∷ ws) h = (there_stays false cuts (OfAct t) ws h.0, apart_stays false cuts ws h.1)

pub all_stays : (P : Who → Type 0) (passed : Bool) (cuts : List Cut) (ws : List Who) → AllByRecursion P ws → AllByRecursion P (uncut_entries passed cuts ws)
all_stays P passed cuts [] h = tt
all_stays P passed cuts (OfBatch k ∷ ws) h = by (was_taken_along k cuts) (all_stays P true cuts ws h.1) (all_stays P passed cuts ws h.1)
  where
    by : (b : Bool) → AllByRecursion P (uncut_entries true cuts ws) → AllByRecursion P (uncut_entries passed cuts ws) → AllByRecursion P (if b then uncut_entries true cuts ws else OfBatch k ∷ uncut_entries passed cuts ws)
    by true r q = r
    by false r q = (h.0, q)
all_stays P true cuts (OfAct t ∷ ws) h = all_stays P true cuts ws h.1
all_stays P false cuts (OfAct t ∷ ws) h = (h.0, all_stays P false cuts ws h.1)

-- who stands there is one of whom this holds
pub of_there : (P : Who → Type 0) (who : Who) (ws : List Who) → AllByRecursion P ws → is_one_of_these who ws ≡ true → P who
of_there P who [] h e = absurd (true≢false (sym e))
of_there P who (v ∷ ws) h e = by (is_who who v) refl e (of_there P who ws h.1)
  where
    same : (x y : Who) → is_who x y ≡ true → y ≡ x
    same (OfBatch k) (OfBatch j) q = ap (λ (i : ℕ). OfBatch i) (sym (eqb-true k j q))
    same (OfBatch k) (OfAct t) q = absurd (true≢false (sym q))
    same (OfAct t) (OfBatch k) q = absurd (true≢false (sym q))
    same (OfAct t) (OfAct u) q = ap (λ (i : ℕ). OfAct i) (sym (eqb-true t u q))

    by : (b : Bool) → is_who who v ≡ b → (b || is_one_of_these who ws) ≡ true → (is_one_of_these who ws ≡ true → P who) → P who
    by true q r f = subst P (same who v q) h.0
    by false q r f = f r

-- who was never placed there does not stand there
pub never_placed : (who : Who) (ps ws : List Who) → AllByRecursion (λ v. is_one_of_these v ps ≡ true) ws → is_one_of_these who ps ≡ false → is_one_of_these who ws ≡ false
never_placed who ps ws h n = false_from_ne_true (is_one_of_these who ws) (λ e. true≢false (sym (of_there (λ v. is_one_of_these v ps ≡ true) who ws h e) ∙ n))

-- ---- ACTs by their tids

-- what holds of each tid that is found holds of each ACT
pub all_by_tid : (P : ℕ → Type 0) (xs : List Begun) → ((t : ℕ) → is_some (act_in t xs) ≡ true → P t) → AllByRecursion (λ x. P x.tid) xs
all_by_tid P [] h = tt
all_by_tid P (x ∷ xs) h = (h x.tid (ap (λ (b : Bool). is_some (if b then Some x else act_in x.tid xs)) (eq-eqb x.tid x.tid refl)), all_by_tid P xs (λ t e. h t (by t (x.tid == t) e)))
  where
    by : (t : ℕ) (b : Bool) → is_some (act_in t xs) ≡ true → is_some (if b then Some x else act_in t xs) ≡ true
    by t true e = refl
    by t false e = e

-- and the other way round
pub of_tid : (P : ℕ → Type 0) (t : ℕ) (xs : List Begun) → AllByRecursion (λ x. P x.tid) xs → is_some (act_in t xs) ≡ true → P t
of_tid P t [] h e = absurd (true≢false (sym e))
of_tid P t (x ∷ xs) h e = by (x.tid == t) refl e (of_tid P t xs h.1)
  where
    by : (b : Bool) → (x.tid == t) ≡ b → is_some (if b then Some x else act_in t xs) ≡ true → (is_some (act_in t xs) ≡ true → P t) → P t
    by true q r f = subst P (eqb-true x.tid t q) h.0
    by false q r f = f r

-- one more ACT hides none
pub still_found : (t : ℕ) (y : Begun) (xs : List Begun) → is_some (act_in t xs) ≡ true → act_in t (xs ++ y ∷ []) ≡ act_in t xs
still_found t y [] e = absurd (true≢false (sym e))
still_found t y (x ∷ xs) e = by (x.tid == t) e (still_found t y xs)
  where
    by : (b : Bool) → is_some (if b then Some x else act_in t xs) ≡ true → (is_some (act_in t xs) ≡ true → act_in t (xs ++ y ∷ []) ≡ act_in t xs) → (if b then Some x else act_in t (xs ++ y ∷ [])) ≡ (if b then Some x else act_in t xs)
    by true q f = refl
    by false q f = f q

-- ---- dooms and members only grow

pub given_more : (t : ℕ) (ds es : List Doom) → was_given_up ds t ≡ true → was_given_up (ds ++ es) t ≡ true
given_more t [] es h = absurd (true≢false (sym h))
given_more t (d ∷ ds) es h = by (d.tid == t) h (given_more t ds es)
  where
    by : (b : Bool) → is_some (if b then Some d else first_doom t ds) ≡ true → (was_given_up ds t ≡ true → was_given_up (ds ++ es) t ≡ true) → is_some (if b then Some d else first_doom t (ds ++ es)) ≡ true
    by true e f = refl
    by false e f = f e

pub given_last : (t : ℕ) (ds es : List Doom) → was_given_up es t ≡ true → was_given_up (ds ++ es) t ≡ true
given_last t [] es h = h
given_last t (d ∷ ds) es h = by (d.tid == t) (given_last t ds es h)
  where
    by : (b : Bool) → was_given_up (ds ++ es) t ≡ true → is_some (if b then Some d else first_doom t (ds ++ es)) ≡ true
    by true r = refl
    by false r = r

-- each of these is given up, for a reason of its own
pub given_each : (g : Begun → Doom) (p : ℕ → Bool) (t : ℕ) (xs : List Begun) → ((x : Begun) → (g x).tid ≡ x.tid) → is_some (act_in t xs) ≡ true → p t ≡ true → was_given_up (map g (filter (λ x. p x.tid) xs)) t ≡ true
given_each g p t [] f e h = absurd (true≢false (sym e))
given_each g p t (x ∷ xs) f e h = by (x.tid == t) refl (p x.tid) refl e (λ k. given_each g p t xs f k h)
  where
    by : (b : Bool) → (x.tid == t) ≡ b → (c : Bool) → p x.tid ≡ c → is_some (if b then Some x else act_in t xs) ≡ true → (is_some (act_in t xs) ≡ true → was_given_up (map g (filter (λ x. p x.tid) xs)) t ≡ true)
        → was_given_up (map g (if c then x ∷ filter (λ x. p x.tid) xs else filter (λ x. p x.tid) xs)) t ≡ true
    by true q true r k i = ap (λ (b : Bool). is_some (if b then Some (g x) else first_doom t (map g (filter (λ x. p x.tid) xs)))) (eq-eqb (g x).tid t (f x ∙ eqb-true x.tid t q))
    by true q false r k i = absurd (true≢false (sym h ∙ (ap p (sym (eqb-true x.tid t q)) ∙ r)))
    by false q true r k i = given_last t (g x ∷ []) (map g (filter (λ x. p x.tid) xs)) (i k)
    by false q false r k i = i k

pub placed_more : (who : Who) (ms new : List Member) → has_its_place who ms ≡ true → has_its_place who (ms ++ new) ≡ true
placed_more who [] new h = absurd (true≢false (sym h))
placed_more who (m ∷ ms) new h = by (is_who who m.who) h (placed_more who ms new)
  where
    by : (b : Bool) → (b || has_its_place who ms) ≡ true → (has_its_place who ms ≡ true → has_its_place who (ms ++ new) ≡ true) → (b || has_its_place who (ms ++ new)) ≡ true
    by true e f = refl
    by false e f = f e

-- ---- the ends of sets

pub greatest_both : (xs ys : List ℕ) → greatest (xs ++ ys) ≡ max (greatest xs) (greatest ys)
greatest_both [] ys = omega arith
greatest_both (x ∷ xs) ys = omega (arith, greatest_both xs ys)

-- some number is not above m
reaches_some : (m : ℕ) (ks : List ℕ) → reaches m (least ks) ≡ list_any (λ k. nat_le k m) ks
reaches_some m [] = refl
reaches_some m (k ∷ ks) = by (least ks) (reaches_some m ks)
  where
    both : (j : ℕ) (a b c : Bool) → nat_le k m ≡ a → nat_le j m ≡ b → nat_le (min k j) m ≡ c → c ≡ (a || b)
    both j true b true e f g = refl
    both j true b false e f g = absurd (omega (arith, leb-true k m e, leb-false (min k j) m g))
    both j false true true e f g = refl
    both j false true false e f g = absurd (omega (arith, leb-true j m f, leb-false (min k j) m g))
    both j false false true e f g = absurd (omega (arith, leb-false k m e, leb-false j m f, leb-true (min k j) m g))
    both j false false false e f g = refl

    by : (o : Option ℕ) → reaches m o ≡ list_any (λ k. nat_le k m) ks → nat_le (least_of k o) m ≡ (nat_le k m || list_any (λ k. nat_le k m) ks)
    by None e = sym (ap (λ (b : Bool). nat_le k m || b) (sym e) ∙ or_false (nat_le k m))
    by (Some j) e = both j (nat_le k m) (nat_le j m) (nat_le (min k j) m) refl refl refl ∙ ap (λ (b : Bool). nat_le k m || b) e

-- where some go, the least rises
pub reaches_less : (p : ℕ → Bool) (m : ℕ) (ks : List ℕ) → reaches m (least (filter p ks)) ≡ true → reaches m (least ks) ≡ true
reaches_less p m ks h = reaches_some m ks ∙ any ks (sym (reaches_some m (filter p ks)) ∙ h)
  where
    any : (ks : List ℕ) → list_any (λ k. nat_le k m) (filter p ks) ≡ true → list_any (λ k. nat_le k m) ks ≡ true
    any [] e = e
    any (k ∷ ks) e = by (p k) e (any ks)
      where
        by : (b : Bool) → list_any (λ k. nat_le k m) (if b then k ∷ filter p ks else filter p ks) ≡ true → (list_any (λ k. nat_le k m) (filter p ks) ≡ true → list_any (λ k. nat_le k m) ks ≡ true) → (nat_le k m || list_any (λ k. nat_le k m) ks) ≡ true
        by true q r = more (nat_le k m) q r
          where
            more : (b : Bool) → (b || list_any (λ k. nat_le k m) (filter p ks)) ≡ true → (list_any (λ k. nat_le k m) (filter p ks) ≡ true → list_any (λ k. nat_le k m) ks ≡ true) → (b || list_any (λ k. nat_le k m) ks) ≡ true
            more true q r = refl
            more false q r = r q
        by false q r = or_right _ _ (r q)
