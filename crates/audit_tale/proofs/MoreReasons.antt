-- Who is given up, behind more reasons: each of the ACTs that a test names gets its own, and nobody gains from it any more.
use Rattle.std.specs.Prelude.{◌≡◌, refl, ℕ, zero, suc, ◌+◌, ◌<◌, ◌≤◌, ◌==◌, not, ◌&&◌, Bool, true, false, if◌then◌else◌, Option, Some, None, is_some, option_map, List, [], ◌∷◌, ◌++◌, length, map, filter, slice_get}
use Rattle.std.specs.List.{AllByRecursion, list_any}
use Rattle.std.specs.Option.{option_or}
use Rattle.std.proofs.Common.{arith, sym, ap, subst, ◌∙◌}
use Rattle.std.proofs.lemmas.Bool.{true≢false, eq-eqb, eqb-true, ne_eqb}
use Rattle.std.proofs.lemmas.List.Folds.{find-append}
use Rattle.std.proofs.lemmas.List.{length-map}
use Rattle.snap_base.proofs.Booleans.{first_true, not_false, second_true}
use Rattle.snap_base.proofs.Lists.{each_found, get_mapped}
use Rattle.protocol.specs.Fixed.{Text}
use Rattle.protocol.specs.Parts.{Pair, OfAct}
use Rattle.protocol.specs.Words.{is_among}
use Rattle.audit_words.specs.Seen.{Begun, Doom, Seen, first_doom, has_its_place, was_given_up, is_live}
use Rattle.audit_tale.specs.Knows.{AreDrawn, RiseFrom, TellsAct, begun_of, why_of}
use Rattle.audit_tale.specs.Stands.{IsSteadyPair, KnowsAll, TellsTies, actor_number, pair_behind}
use Rattle.audit_tale.specs.Touching.{AreEased, AreTouched, IsEased, gave_up, lives, where_touched}
use Rattle.audit_tale.specs.declared.tales.ActTale.{ActTale}
use Rattle.audit_tale.specs.declared.tales.Reason.{Reason}
use Rattle.audit_tale.specs.declared.told.ActTies.{ActTies}
use Rattle.audit_tale.specs.declared.told.Told.{Told}
use Rattle.audit_tale.proofs.Touched.{other_there}

-- ---- tids rise

pub tids_above : (n i : ℕ) (x : Begun) (xs : List Begun) → RiseFrom n xs → slice_get xs i ≡ Some x → n ≤ x.tid
tids_above n i x [] r e = absurd (cc e)
tids_above n zero x (y ∷ ys) r e = let is : y ≡ x = cc e in subst (λ (z : Begun). n ≤ z.tid) is r.0
tids_above n (suc i) x (y ∷ ys) r e = omega (arith, r.0, tids_above (y.tid + 1) i x ys r.1 e)

-- one place for a tid
pub one_place : (n i j : ℕ) (x y : Begun) (xs : List Begun) → RiseFrom n xs → slice_get xs i ≡ Some x → slice_get xs j ≡ Some y → x.tid ≡ y.tid → i ≡ j
one_place n i j x y [] r e f q = absurd (cc e)
one_place n zero zero x y (z ∷ zs) r e f q = refl
one_place n zero (suc j) x y (z ∷ zs) r e f q =
    let is : z ≡ x = cc e in
    absurd (omega (arith, tids_above (z.tid + 1) j y zs r.1 f, q, ap (λ (v : Begun). v.tid) is))
one_place n (suc i) zero x y (z ∷ zs) r e f q =
    let is : z ≡ y = cc f in
    absurd (omega (arith, tids_above (z.tid + 1) i x zs r.1 e, q, ap (λ (v : Begun). v.tid) is))
one_place n (suc i) (suc j) x y (z ∷ zs) r e f q = ap suc (one_place (z.tid + 1) i j x y zs r.1 e f q)

-- ---- the reasons of those that a test names

no_doom : (m n : ℕ) (p : Begun → Bool) (f : Begun → Doom) (xs : List Begun) → ((x : Begun) → (f x).tid ≡ x.tid) → RiseFrom n xs → m < n → first_doom m (map f (filter p xs)) ≡ None
no_doom m n p f [] same r l = refl
no_doom m n p f (x ∷ xs) same r l = by (p x) (no_doom m (x.tid + 1) p f xs same r.1 (omega (arith, r.0, l)))
  where
    by : (b : Bool) → first_doom m (map f (filter p xs)) ≡ None → first_doom m (map f (if b then x ∷ filter p xs else filter p xs)) ≡ None
    by true k = ap (λ (b : Bool). if b then Some (f x) else first_doom m (map f (filter p xs))) (ne_eqb (f x).tid m (λ q. omega (arith, q, same x, r.0, l))) ∙ k
    by false k = k

doom_new : (p : Begun → Bool) (f : Begun → Doom) (xs : List Begun) (n i : ℕ) (x : Begun) → ((x : Begun) → (f x).tid ≡ x.tid) → RiseFrom n xs → slice_get xs i ≡ Some x → first_doom x.tid (map f (filter p xs)) ≡ (if p x then Some (f x) else None)
doom_new p f [] n i x same r e = absurd (cc e)
doom_new p f (y ∷ ys) n zero x same r e = let is : y ≡ x = cc e in subst (λ (z : Begun). first_doom z.tid (map f (filter p (y ∷ ys))) ≡ (if p z then Some (f z) else None)) is (by (p y))
  where
    by : (b : Bool) → first_doom y.tid (map f (if b then y ∷ filter p ys else filter p ys)) ≡ (if b then Some (f y) else None)
    by true = ap (λ (b : Bool). if b then Some (f y) else first_doom y.tid (map f (filter p ys))) (eq-eqb (f y).tid y.tid (same y))
    by false = no_doom y.tid (y.tid + 1) p f ys same r.1 (omega arith)
doom_new p f (y ∷ ys) n (suc i) x same r e = by (p y) (doom_new p f ys (y.tid + 1) i x same r.1 e)
  where
    low : y.tid + 1 ≤ x.tid
    low = tids_above (y.tid + 1) i x ys r.1 e

    by : (b : Bool) → first_doom x.tid (map f (filter p ys)) ≡ (if p x then Some (f x) else None) → first_doom x.tid (map f (if b then y ∷ filter p ys else filter p ys)) ≡ (if p x then Some (f x) else None)
    by true k = ap (λ (b : Bool). if b then Some (f y) else first_doom x.tid (map f (filter p ys))) (ne_eqb (f y).tid x.tid (λ q. omega (arith, q, same y, low))) ∙ k
    by false k = k

-- who is live has no reason, and no place
pub not_doomed : (s : Seen) (t : ℕ) → is_live s t ≡ true → first_doom t s.dooms ≡ None
not_doomed s t e = by (first_doom t s.dooms) (not_false (was_given_up s.dooms t) (first_true (not (was_given_up s.dooms t)) (not (has_its_place (OfAct t) s.members)) e))
  where
    by : (o : Option Doom) → is_some o ≡ false → o ≡ None
    by None q = refl
    by (Some d) q = absurd (true≢false q)

pub doom_after : (p : Begun → Bool) (f : Begun → Doom) (s : Seen) (i : ℕ) (x : Begun) → AreDrawn s → ((x : Begun) → (f x).tid ≡ x.tid) → slice_get s.acts i ≡ Some x → (p x ≡ true → is_live s x.tid ≡ true)
    → first_doom x.tid (s.dooms ++ map f (filter p s.acts)) ≡ (if p x then Some (f x) else first_doom x.tid s.dooms)
doom_after p f s i x drawn same e live =
    find-append (λ d. d.tid == x.tid) s.dooms (map f (filter p s.acts)) ∙ (ap (option_or (first_doom x.tid s.dooms)) (doom_new p f s.acts 1 i x same drawn.rise e) ∙ by (p x) live)
  where
    none : (o : Option Doom) → option_or o None ≡ o
    none None = refl
    none (Some d) = refl

    by : (b : Bool) → (b ≡ true → is_live s x.tid ≡ true) → option_or (first_doom x.tid s.dooms) (if b then Some (f x) else None) ≡ (if b then Some (f x) else first_doom x.tid s.dooms)
    by true l = ap (λ (o : Option Doom). option_or o (Some (f x))) (not_doomed s x.tid (l refl))
    by false l = none (first_doom x.tid s.dooms)

-- who is given up stays so
pub still_given_up : (ds es : List Doom) (t : ℕ) → was_given_up ds t ≡ true → was_given_up (ds ++ es) t ≡ true
still_given_up ds es t h = ap is_some (find-append (λ d. d.tid == t) ds es) ∙ by (first_doom t ds) h
  where
    by : (o : Option Doom) → is_some o ≡ true → is_some (option_or o (first_doom t es)) ≡ true
    by None q = absurd (true≢false (sym q))
    by (Some d) q = refl

-- who is live behind more reasons was live before
pub was_live : (s new : Seen) (es : List Doom) (t : ℕ) → new.dooms ≡ s.dooms ++ es → new.members ≡ s.members → is_live new t ≡ true → is_live s t ≡ true
was_live s new es t d m e = by (was_given_up s.dooms t) refl
  where
    here : (not (was_given_up (s.dooms ++ es) t) && not (has_its_place (OfAct t) s.members)) ≡ true
    here = ap (λ (ds : List Doom). not (was_given_up ds t) && not (has_its_place (OfAct t) s.members)) (sym d) ∙ (ap (λ ms. not (was_given_up new.dooms t) && not (has_its_place (OfAct t) ms)) (sym m) ∙ e)

    by : (b : Bool) → was_given_up s.dooms t ≡ b → (not b && not (has_its_place (OfAct t) s.members)) ≡ true
    by true q = absurd (true≢false (sym (still_given_up s.dooms es t q) ∙ not_false (was_given_up (s.dooms ++ es) t) (first_true (not (was_given_up (s.dooms ++ es) t)) (not (has_its_place (OfAct t) s.members)) here)))
    by false q = second_true (not (was_given_up (s.dooms ++ es) t)) (not (has_its_place (OfAct t) s.members)) here

-- ---- as it is kept

-- it is kept that the ACT is given up, and that it is live
pub given_up_is : (s : Seen) (x : ActTale) → TellsAct s x → is_some x.given_up ≡ was_given_up s.dooms x.tid.0
given_up_is s x h = by x.given_up (first_doom x.tid.0 s.dooms) h.given_up
  where
    by : (r : Option Reason) (o : Option Doom) → option_map why_of r ≡ option_map (λ d. d.why) o → is_some r ≡ is_some o
    by None None e = refl
    by None (Some d) e = absurd (cc e)
    by (Some r) None e = absurd (cc e)
    by (Some r) (Some d) e = refl

pub lives_is : (s : Seen) (x : ActTale) → TellsAct s x → lives x ≡ is_live s x.tid.0
lives_is s x h = ap (λ (b : Bool). not b && not x.decided) (given_up_is s x h) ∙ ap (λ (b : Bool). not (was_given_up s.dooms x.tid.0) && not b) h.decided

-- ---- who gains from whom

gains_left : (ds : List Doom) (t : ℕ) (ps : List Pair) → filter (λ p. p.ahead == t) (filter (λ p. not (was_given_up ds p.ahead)) ps) ≡ (if was_given_up ds t then [] else filter (λ p. p.ahead == t) ps)
gains_left ds t [] = by (was_given_up ds t)
  where
    none : List Pair
    none = []

    by : (b : Bool) → none ≡ (if b then [] else [])
    by true = refl
    by false = refl
gains_left ds t (p ∷ ps) = by (p.ahead == t) refl (not (was_given_up ds p.ahead)) refl (was_given_up ds t) refl (gains_left ds t ps)
  where
    left : List Pair
    left = filter (λ q. not (was_given_up ds q.ahead)) ps

    same : (p.ahead == t) ≡ true → was_given_up ds p.ahead ≡ was_given_up ds t
    same e = ap (was_given_up ds) (eqb-true p.ahead t e)

    by : (b : Bool) → (p.ahead == t) ≡ b → (c : Bool) → not (was_given_up ds p.ahead) ≡ c → (g : Bool) → was_given_up ds t ≡ g → filter (λ q. q.ahead == t) left ≡ (if g then [] else filter (λ q. q.ahead == t) ps)
        → filter (λ q. q.ahead == t) (if c then p ∷ left else left) ≡ (if g then [] else (if b then p ∷ filter (λ q. q.ahead == t) ps else filter (λ q. q.ahead == t) ps))
    by true e true f true h k = absurd (true≢false (sym h ∙ (sym (same e) ∙ not_false (was_given_up ds p.ahead) f)))
    by true e true f false h k = ap (λ (b : Bool). if b then p ∷ filter (λ q. q.ahead == t) left else filter (λ q. q.ahead == t) left) e ∙ ap (λ zs. p ∷ zs) k
    by true e false f true h k = k
    by true e false f false h k = absurd (true≢false (sym (ap not (same e ∙ h)) ∙ f))
    by false e true f g h k = ap (λ (b : Bool). if b then p ∷ filter (λ q. q.ahead == t) left else filter (λ q. q.ahead == t) left) e ∙ k
    by false e false f g h k = k

-- nobody gains from who is given up
pub gains_none : (s : Seen) (t : ℕ) (ps : List Pair) → AllByRecursion (IsSteadyPair s) ps → was_given_up s.dooms t ≡ true → filter (λ p. p.ahead == t) ps ≡ []
gains_none s t [] h e = refl
gains_none s t (p ∷ ps) h e = by (p.ahead == t) refl (gains_none s t ps h.1 e)
  where
    by : (b : Bool) → (p.ahead == t) ≡ b → filter (λ q. q.ahead == t) ps ≡ [] → (if b then p ∷ filter (λ q. q.ahead == t) ps else filter (λ q. q.ahead == t) ps) ≡ []
    by true q k = absurd (true≢false (sym e ∙ (sym (ap (was_given_up s.dooms) (eqb-true p.ahead t q)) ∙ h.0.carries)))
    by false q k = k

pub ties_left : (s new : Seen) (t : ℕ) (hit : Bool) (y z : ActTies) → new.gains ≡ filter (λ p. not (was_given_up new.dooms p.ahead)) s.gains → new.left_sealed ≡ s.left_sealed → AllByRecursion (IsSteadyPair s) s.gains
    → (hit ≡ false → was_given_up new.dooms t ≡ was_given_up s.dooms t) → IsEased (hit && was_given_up new.dooms t) y z → TellsTies s t y → TellsTies new t z
ties_left s new t hit y z g l steady same eased h = record {
  waiters = ap (map (pair_behind t)) eased.waiters ∙ (by hit (was_given_up new.dooms t) refl refl ∙ sym (ap (filter (λ p. p.ahead == t)) g ∙ gains_left new.dooms t s.gains));
  left = λ a. ap (λ xs. is_among a (map actor_number xs)) eased.left ∙ (h.left a ∙ ap (λ f. list_any (λ x. x.tid == t) (f a)) (sym l));
}
  where
    by : (b c : Bool) → hit ≡ b → was_given_up new.dooms t ≡ c → map (pair_behind t) (if b && c then [] else y.waiters.items) ≡ (if c then [] else filter (λ p. p.ahead == t) s.gains)
    by true true q r = refl
    by true false q r = h.waiters
    by false true q r = h.waiters ∙ gains_none s t s.gains steady (sym (same q) ∙ r)
    by false false q r = h.waiters

-- who gains from whom, where some of the ACTs that are kept are changed
pub ties_now : (w : Text) (f : ActTale → ActTale) (test : ℕ → Bool) (t : Told) (acts : List ActTale) (ties : List ActTies) (s new : Seen) → ((x : ActTale) → (f x).tid.0 ≡ x.tid.0) → KnowsAll w t s → AllByRecursion (IsSteadyPair s) s.gains
    → AreTouched f test t.tale.acts.items acts → AllByRecursion (TellsAct new) acts → AreEased test acts t.ties.items ties → new.gains ≡ filter (λ p. not (was_given_up new.dooms p.ahead)) s.gains → new.left_sealed ≡ s.left_sealed
    → (i : ℕ) (z : ActTies) (b : Begun) → slice_get ties i ≡ Some z → slice_get s.acts i ≡ Some b → TellsTies new b.tid z
ties_now w f test t acts ties s new same h steady touch tells ease g l i z b e k =
    ties_left s new b.tid (test i) old.0 z g l steady unhit (subst (λ (q : Bool). IsEased (test i && q) old.0 z) gave (ease.each i old.0 z old.1 e)) (h.stands.ties i old.0 b old.1 k)
  where
    old : (y : ActTies) × (slice_get t.ties.items i ≡ Some y)
    old = other_there ties t.ties.items i z (sym ease.count) e

    -- the ACT, as it was kept and as it is
    act : (y : ActTale) × (slice_get t.tale.acts.items i ≡ Some y)
    act = other_there s.acts t.tale.acts.items i b (sym (length-map t.tale.acts.items begun_of) ∙ ap length h.names.acts) k

    begun_there : slice_get s.acts i ≡ Some (begun_of act.0)
    begun_there = ap (λ ys. slice_get ys i) (sym h.names.acts) ∙ get_mapped begun_of t.tale.acts.items i act.0 act.1

    is : begun_of act.0 ≡ b
    is = cc (begun_there, k)

    was_tid : act.0.tid.0 ≡ b.tid
    was_tid = ap (λ (y : Begun). y.tid) is

    now : ActTale
    now = where_touched f (test i) act.0

    here : slice_get acts i ≡ Some now
    here = touch i ∙ ap (option_map (where_touched f (test i))) act.1

    now_tid : (q : Bool) → (where_touched f q act.0).tid.0 ≡ act.0.tid.0
    now_tid true = same act.0
    now_tid false = refl

    gave : gave_up (slice_get acts i) ≡ was_given_up new.dooms b.tid
    gave = ap gave_up here ∙ (given_up_is new now (each_found (TellsAct new) acts i now here tells) ∙ ap (was_given_up new.dooms) (now_tid (test i) ∙ was_tid))

    -- of one that is not touched all is as before
    unhit : test i ≡ false → was_given_up new.dooms b.tid ≡ was_given_up s.dooms b.tid
    unhit q =
        sym gave ∙ (ap gave_up here ∙ (ap (λ (r : Bool). is_some (where_touched f r act.0).given_up) q ∙ (given_up_is s act.0 (each_found (TellsAct s) t.tale.acts.items i act.0 act.1 h.names.ends) ∙ ap (was_given_up s.dooms) was_tid)))
