-- What is known after an Ask: how far the numbers rise, and who is given up.
use Rattle.std.specs.Prelude.{◌≡◌, ◌≢◌, ◌⊎◌, refl, ℕ, ◌<◌, ◌≤◌, ◌==◌, nat_lt, max, not, ◌&&◌, Bool, true, false, if◌then◌else◌, Option, Some, None, List, [], ◌∷◌, ◌++◌, filter, length, map, slice_get, slice_index_or}
use Rattle.std.specs.List.{AllByRecursion}
use Rattle.std.proofs.Common.{arith, sym, ap, subst, inl, inr, ◌∙◌}
use Rattle.std.proofs.lemmas.Bool.{true≢false, eqb-true, eq-eqb, ltb-false}
use Rattle.snap_base.proofs.Booleans.{first_false, first_true, not_false, second_false, second_true, three_ways}
use Rattle.snap_base.proofs.Lists.{all_filter, all_front, all_join, all_map, all_push, both_all, map_twice, weaker}
use Rattle.snap_base.proofs.Options.{none_is_some}
use Rattle.snap_base.specs.declared.ids.Tid.{Tid}
use Rattle.snap_base.specs.declared.transactions.Tx.{Tx}
use Rattle.protocol.specs.Events.{Ask}
use Rattle.protocol.specs.Fixed.{Text}
use Rattle.protocol.specs.History.{sets_of, with_at}
use Rattle.protocol.specs.Parts.{Pair, Who, OfBatch, OfAct}
use Rattle.protocol.specs.Rivals.{Lock, rivals}
use Rattle.protocol.specs.Spread.{reaches}
use Rattle.protocol.specs.Words.{greatest, holds, is_among, least_older, least_of}
use Rattle.audit_words.specs.Happenings.{added, ahead_of, asks, cross_out, gain, give_up, happened, may_ask, met, ring_after, spread, tail_of, act_placed_last, with_pairs}
use Rattle.audit_words.specs.Seen.{Begun, Older, Seen, was_admitted, sets_cross, was_given_up, is_live, is_one_of_these, least, lock_in, tail_behind}
use Rattle.audit_tale.specs.GivenUp.{MayGiveUp}
use Rattle.audit_tale.specs.Knows.{owner_of}
use Rattle.audit_tale.specs.Risen.{AreRising, MayRise, risen}
use Rattle.audit_tale.specs.Rivalry.{locks, pairs_of, with_entry}
use Rattle.audit_tale.specs.Stands.{IsNamed, IsSound, IsSteadyPair, KnowsAll}
use Rattle.audit_tale.specs.declared.tales.ActTale.{ActTale}
use Rattle.audit_tale.specs.declared.tales.Owner.TheVariants as owners
use Rattle.audit_tale.specs.declared.told.ActorTale.{ActorTale}
use Rattle.audit_tale.specs.declared.told.Told.{Told}
use Rattle.audit_tale.proofs.Alike.{alike_known}
use Rattle.audit_tale.proofs.Dooms.{begun_there, own_before}
use Rattle.audit_tale.proofs.Spreads.{at_it, each_among, greatest_join, risen_else, risen_grows, risen_here, risen_is_spread}
use Rattle.audit_tale.proofs.Walks.{with_before}

-- ---- the event

pub ask_left : (reads : Tx → Bool) (w : Text) (t a : ℕ) (told : Told) (s : Seen) → may_ask w t a s ≡ false → KnowsAll w told s → KnowsAll w told (happened reads w (Ask t a) s)
unfolding added ring_after
ask_left reads w t a told s e h = subst (λ (b : Bool). KnowsAll w told (record (if b then asks t a (least_older t (met t a s)) s else s) { ring = s.ring })) (sym e) h

pub ask_dies : (reads : Tx → Bool) (w : Text) (t a older : ℕ) (told : Told) (s : Seen) → may_ask w t a s ≡ true → least_older t (met t a s) ≡ Some older → KnowsAll w told (give_up (record { tid = t; why = Older a older } ∷ []) s) → KnowsAll w told (happened reads w (Ask t a) s)
unfolding added ring_after
ask_dies reads w t a older told s e f h =
    subst (λ (b : Bool). KnowsAll w told (record (if b then asks t a (least_older t (met t a s)) s else s) { ring = s.ring })) (sym e)
    (subst (λ (o : Option ℕ). KnowsAll w told (record (asks t a o s) { ring = s.ring })) (sym f) h)

pub ask_stands : (reads : Tx → Bool) (w : Text) (t a : ℕ) (told : Told) (s : Seen) → may_ask w t a s ≡ true → least_older t (met t a s) ≡ None → KnowsAll w told (cross_out a (act_placed_last t a s)) → KnowsAll w told (happened reads w (Ask t a) s)
unfolding added ring_after
ask_stands reads w t a told s e f h =
    subst (λ (b : Bool). KnowsAll w told (record (if b then asks t a (least_older t (met t a s)) s else s) { ring = s.ring })) (sym e)
    (subst (λ (o : Option ℕ). KnowsAll w told (record (asks t a o s) { ring = s.ring })) (sym f) h)

-- ---- what an ACT gains

all_of_them : (xs : List Lock) → filter (λ x. true) xs ≡ xs
all_of_them [] = refl
all_of_them (x ∷ xs) = ap (λ (ys : List Lock). x ∷ ys) (all_of_them xs)

-- of those that left sealed: the floor that counts
floors : (b : ℕ → List ℕ) (l : Lock) (r : Bool) (xs : List Lock) → l.reader ≡ r → greatest (sets_of b (filter (rivals l) xs)) ≡ (if r then greatest (sets_of b (filter (λ x. not x.reader) xs)) else greatest (sets_of b xs))
floors b l true xs e = ap (λ (c : Bool). greatest (sets_of b (filter (λ x. not (c && x.reader)) xs))) e
floors b l false xs e = ap (λ (c : Bool). greatest (sets_of b (filter (λ x. not (c && x.reader)) xs))) e ∙ ap (λ (ys : List Lock). greatest (sets_of b ys)) (all_of_them xs)

-- what it gains, part by part
gain_parts : (t a : ℕ) (s : Seen) → greatest (gain t a s) ≡ max (greatest (s.kept a)) (max (greatest (sets_of s.before (filter (rivals (lock_in s.acts t)) (s.left_sealed a)))) (greatest (sets_of s.before (ahead_of t a s))))
gain_parts t a s =
    greatest_join (s.kept a) (sets_of s.before (filter (rivals (lock_in s.acts t)) (s.left_sealed a)) ++ sets_of s.before (ahead_of t a s))
    ∙ ap (max (greatest (s.kept a))) (greatest_join (sets_of s.before (filter (rivals (lock_in s.acts t)) (s.left_sealed a))) (sets_of s.before (ahead_of t a s)))

pub number_known : (w : Text) (t a i : ℕ) (d : ActTale) (x : ActorTale) (told : Told) (s : Seen) (ahead : List Tid) (own there behind number : ℕ) → KnowsAll w told s → owner_of t told.tale.owners.items ≡ Some (owners.Act i) → i < length told.tale.acts.items
    → slice_get told.actors.items a ≡ Some x → locks s ahead ≡ ahead_of t a s → own ≡ (slice_index_or told.tale.acts.items i d).before.0 → there ≡ max x.last.0 (if (slice_index_or told.tale.acts.items i d).reader then x.write_floor.0 else x.floor.0)
    → behind ≡ greatest (sets_of s.before (locks s ahead)) → number ≡ max own (max there behind) → number ≡ max (greatest (s.before t)) (greatest (gain t a s))
number_known w t a i d x told s ahead own there behind number h owned l e same own_is there_is behind_is is =
    let tells = h.stands.actors a x e in
    let before = own_before w i t d told.tale s h.names owned l in
    let reads : (lock_in s.acts t).reader ≡ (slice_index_or told.tale.acts.items i d).reader = ap (λ (o : Option Begun). holds (λ y. y.reader) o) (begun_there w i t d told.tale s h.names owned l) in
    let last : greatest (sets_of s.before (ahead_of t a s)) ≡ behind = sym (behind_is ∙ ap (λ (xs : List Lock). greatest (sets_of s.before xs)) same) in
    let floor = by (slice_index_or told.tale.acts.items i d).reader reads in
    omega (arith, own_is, before, there_is, is, last, floor, tells.last, gain_parts t a s)
  where
    by : (r : Bool) → (lock_in s.acts t).reader ≡ r → (if r then x.write_floor.0 else x.floor.0) ≡ greatest (sets_of s.before (filter (rivals (lock_in s.acts t)) (s.left_sealed a)))
    by true q = (h.stands.actors a x e).write_floor ∙ sym (floors s.before (lock_in s.acts t) true (s.left_sealed a) q)
    by false q = (h.stands.actors a x e).floor ∙ sym (floors s.before (lock_in s.acts t) false (s.left_sealed a) q)

-- ---- who is in the tail group

-- what holds of each ACT among these
abbrev pub OnAct : (ℕ → Type 0) → Who → Type 0
OnAct P (OfBatch k) = Unit {0}
OnAct P (OfAct t) = P t

tail_each : (P : ℕ → Type 0) (ts : List ℕ) (ws : List Who) → AllByRecursion P ts → AllByRecursion (OnAct P) ws → AllByRecursion P (tail_behind ts ws)
tail_each P ts [] all each = all
tail_each P ts (OfBatch k ∷ ws) all each = tail_each P [] ws tt each.1
tail_each P ts (OfAct t ∷ ws) all each = tail_each P (ts ++ t ∷ []) ws (all_push P ts t all each.0) each.1

-- an ACT, and another one than t
abbrev pub IsOther : Seen → ℕ → ℕ → Type 0
IsOther s t n = (was_admitted n s ≡ true) × (n ≢ t)

others_there : (s : Seen) (t : ℕ) (ws : List Who) → AllByRecursion (IsNamed s) ws → is_one_of_these (OfAct t) ws ≡ false → AllByRecursion (OnAct (IsOther s t)) ws
others_there s t [] all none = tt
others_there s t (OfBatch k ∷ ws) all none = (tt, others_there s t ws all.1 none)
others_there s t (OfAct n ∷ ws) all none =
    ((all.0, λ e. true≢false (sym (eq-eqb t n (sym e)) ∙ first_false (t == n) (is_one_of_these (OfAct t) ws) none)), others_there s t ws all.1 (second_false (t == n) (is_one_of_these (OfAct t) ws) none))

pub met_others : (t a : ℕ) (s : Seen) → AllByRecursion (IsNamed s) (s.entries a) → is_one_of_these (OfAct t) (s.entries a) ≡ false → AllByRecursion (λ x. IsOther s t x.tid) (met t a s)
met_others t a s named none =
    all_filter (λ x. IsOther s t x.tid) (rivals (lock_in s.acts t)) (tail_of a s) (all_map (lock_in s.acts) (λ x. IsOther s t x.tid) (tail_behind [] (s.entries a)) (tail_each (IsOther s t) [] (s.entries a) tt (others_there s t (s.entries a) named none)))

-- none of them is older
none_older : (t : ℕ) (xs : List Lock) → least_older t xs ≡ None → AllByRecursion (λ x. t ≤ x.tid) xs
none_older t [] e = tt
none_older t (x ∷ xs) e = by (nat_lt x.tid t) refl e (none_older t xs)
  where
    by : (b : Bool) → nat_lt x.tid t ≡ b → (if b then Some (least_of x.tid (least_older t xs)) else least_older t xs) ≡ None → (least_older t xs ≡ None → AllByRecursion (λ x. t ≤ x.tid) xs) → (t ≤ x.tid) × AllByRecursion (λ x. t ≤ x.tid) xs
    by true q k r = absurd (none_is_some (least_of x.tid (least_older t xs)) (sym k))
    by false q k r = (omega (arith, ltb-false x.tid t q), r k)

each_kept : (test : Lock → Bool) (xs : List Lock) → AllByRecursion (λ x. test x ≡ true) (filter test xs)
each_kept test [] = tt
each_kept test (x ∷ xs) = by (test x) refl (each_kept test xs)
  where
    by : (b : Bool) → test x ≡ b → AllByRecursion (λ x. test x ≡ true) (filter test xs) → AllByRecursion (λ x. test x ≡ true) (if b then x ∷ filter test xs else filter test xs)
    by true e r = (e, r)
    by false e r = r

sets_least : (b : ℕ → List ℕ) (xs : List Lock) → AllByRecursion (λ x. greatest (b x.tid) ≤ greatest (sets_of b xs)) xs
sets_least b [] = tt
sets_least b (x ∷ xs) = (
  omega (arith, greatest_join (b x.tid) (sets_of b xs)),
  weaker (λ y. greatest (b y.tid) ≤ greatest (sets_of b xs)) (λ y. greatest (b y.tid) ≤ greatest (sets_of b (x ∷ xs))) xs (λ y k. omega (arith, k, greatest_join (b x.tid) (sets_of b xs))) (sets_least b xs),
)

-- what holds of each that t stands behind now
pub record IsAhead (t a : ℕ) (s : Seen) (x : Lock) : Type 0 where
  pub there : was_admitted x.tid s ≡ true
  pub younger : t < x.tid
  pub carries : was_given_up s.dooms x.tid ≡ false
  pub below : greatest (s.before x.tid) ≤ greatest (gain t a s)

-- ---- an ACT that dies

pub may_die : (s : Seen) → IsSound s → MayGiveUp s
may_die s sound = record { rise = sound.drawn.rise; carries = weaker (IsSteadyPair s) (λ p. was_given_up s.dooms p.ahead ≡ false) s.gains (λ p k. k.carries) sound.steady.pairs }

pub still_going : (w : Text) (t a : ℕ) (s : Seen) → may_ask w t a s ≡ true → was_given_up s.dooms t ≡ false
still_going w t a s may =
    not_false (was_given_up s.dooms t) (first_true (not (was_given_up s.dooms t)) (not (is_one_of_these (OfAct t) (s.entries a))) (second_true (was_admitted t s && nat_lt a (length w.opening.states)) (not (was_given_up s.dooms t) && not (is_one_of_these (OfAct t) (s.entries a))) may))

-- whether it only reads, as it is kept
pub reader_known : (w : Text) (t i : ℕ) (x : ActTale) (told : Told) (s : Seen) → KnowsAll w told s → owner_of t told.tale.owners.items ≡ Some (owners.Act i) → i < length told.tale.acts.items → x ≡ slice_index_or told.tale.acts.items i x → x.reader ≡ (lock_in s.acts t).reader
reader_known w t i x told s h owned l e = ap (λ (y : ActTale). y.reader) e ∙ sym (ap (λ (o : Option Begun). holds (λ y. y.reader) o) (begun_there w i t x told.tale s h.names owned l))

-- ---- the rise

module _ (w : Text) (t a : ℕ) (s : Seen) (sound : IsSound s) (may : may_ask w t a s ≡ true) (first : least_older t (met t a s) ≡ None) where
  not_there : is_one_of_these (OfAct t) (s.entries a) ≡ false
  not_there = not_false (is_one_of_these (OfAct t) (s.entries a)) (second_true (not (was_given_up s.dooms t)) (not (is_one_of_these (OfAct t) (s.entries a))) (second_true (was_admitted t s && nat_lt a (length w.opening.states)) (not (was_given_up s.dooms t) && not (is_one_of_these (OfAct t) (s.entries a))) may))

  act_there : was_admitted t s ≡ true
  act_there = first_true (was_admitted t s) (nat_lt a (length w.opening.states)) (first_true (was_admitted t s && nat_lt a (length w.opening.states)) (not (was_given_up s.dooms t) && not (is_one_of_these (OfAct t) (s.entries a))) may)

  above : (n : ℕ) → n ≢ t → t ≤ n → t < n
  above n apart le = by (three_ways t n)
    where
      by : (t < n) ⊎ ((t ≡ n) ⊎ (n < t)) → t < n
      by (inl l) = l
      by (inr (inl e)) = absurd (apart (sym e))
      by (inr (inr l)) = absurd (omega (arith, l, le))

  pub are_ahead : AllByRecursion (IsAhead t a s) (ahead_of t a s)
  are_ahead =
      both_all (λ x. ((IsOther s t x.tid) × (t ≤ x.tid)) × (not (was_given_up s.dooms x.tid) ≡ true)) (λ x. greatest (s.before x.tid) ≤ greatest (sets_of s.before (ahead_of t a s))) (IsAhead t a s) (ahead_of t a s)
      (λ x k low. record { there = k.0.0.0; younger = above x.tid k.0.0.1 k.0.1; carries = not_false (was_given_up s.dooms x.tid) k.1; below = omega (arith, low, gain_parts t a s) })
      (both_all (λ x. (IsOther s t x.tid) × (t ≤ x.tid)) (λ x. not (was_given_up s.dooms x.tid) ≡ true) (λ x. ((IsOther s t x.tid) × (t ≤ x.tid)) × (not (was_given_up s.dooms x.tid) ≡ true)) (ahead_of t a s) (λ x k g. (k, g))
      (all_filter (λ x. (IsOther s t x.tid) × (t ≤ x.tid)) (λ x. not (was_given_up s.dooms x.tid)) (met t a s)
      (both_all (λ x. IsOther s t x.tid) (λ x. t ≤ x.tid) (λ x. (IsOther s t x.tid) × (t ≤ x.tid)) (met t a s) (λ x k g. (k, g)) (met_others t a s (sound.steady.entries a) not_there) (none_older t (met t a s) first)))
      (each_kept (λ x. not (was_given_up s.dooms x.tid)) (met t a s)))
      (sets_least s.before (ahead_of t a s))

  pub met_acts : (ts : List Tid) → locks s ts ≡ met t a s → AllByRecursion (λ x. was_admitted x.tid s ≡ true) (locks s ts)
  met_acts ts same =
      subst (AllByRecursion (λ x. was_admitted x.tid s ≡ true)) (sym same) (weaker (λ x. IsOther s t x.tid) (λ x. was_admitted x.tid s ≡ true) (met t a s) (λ x k. k.0) (met_others t a s (sound.steady.entries a) not_there))

  pub ahead_acts : (ts : List Tid) → locks s ts ≡ ahead_of t a s → AllByRecursion (λ x. was_admitted x.tid s ≡ true) (locks s ts)
  ahead_acts ts same = subst (AllByRecursion (λ x. was_admitted x.tid s ≡ true)) (sym same) (weaker (IsAhead t a s) (λ x. was_admitted x.tid s ≡ true) (ahead_of t a s) (λ x k. k.there) are_ahead)

  abbrev pub pair : Lock → Pair
  pair x = record { behind = t; ahead = x.tid; actor = a }

  -- what holds of the pairs before and of the new ones
  over_pairs : (P : Pair → Type 0) → AllByRecursion P s.gains → AllByRecursion (λ x. P (pair x)) (ahead_of t a s) → AllByRecursion P (with_pairs t a s)
  over_pairs P old new = all_join P s.gains (map pair (ahead_of t a s)) old (all_map pair P (ahead_of t a s) new)

  pub asked_pairs : (ahead : List Tid) → locks s ahead ≡ ahead_of t a s → s.gains ++ pairs_of t a ahead ≡ with_pairs t a s
  asked_pairs ahead same = ap (λ (ps : List Pair). s.gains ++ ps) (sym (map_twice pair (λ (u : Tid). lock_in s.acts u.0) ahead) ∙ ap (map pair) same)

  pub may_rise : MayRise (record (with_entry t a s) { gains = with_pairs t a s })
  may_rise = record {
    rise = sound.drawn.rise;
    behind = over_pairs (λ p. was_admitted p.behind s ≡ true) (weaker (IsSteadyPair s) (λ p. was_admitted p.behind s ≡ true) s.gains (λ p k. k.is_behind) sound.steady.pairs) (weaker (IsAhead t a s) (λ x. was_admitted t s ≡ true) (ahead_of t a s) (λ x k. act_there) are_ahead);
    sealed = λ b. weaker (λ x. (was_admitted x.tid s ≡ true) × (x ≡ lock_in s.acts x.tid)) (λ x. x ≡ lock_in s.acts x.tid) (s.left_sealed b) (λ x k. k.1) (sound.steady.sealed b);
  }

  pub may_cross : MayGiveUp (act_placed_last t a s)
  may_cross = record {
    rise = sound.drawn.rise;
    carries = over_pairs (λ p. was_given_up s.dooms p.ahead ≡ false) (weaker (IsSteadyPair s) (λ p. was_given_up s.dooms p.ahead ≡ false) s.gains (λ p k. k.carries) sound.steady.pairs) (weaker (IsAhead t a s) (λ x. was_given_up s.dooms x.tid ≡ false) (ahead_of t a s) (λ x k. k.carries) are_ahead);
  }

  module _ (m : ℕ) (us : List ℕ) (m_is : m ≡ max (greatest (s.before t)) (greatest (gain t a s))) (rising : AreRising m t us us (record (with_entry t a s) { gains = with_pairs t a s })) where
    -- along a pair, where the one ahead has risen
    up : (p : Pair) → (is_among p.ahead us ≡ true → m ≤ greatest (risen m us s.before p.behind)) → is_among p.ahead us ≡ true → greatest (risen m us s.before p.ahead) ≤ greatest (risen m us s.before p.behind)
    up p carried e = omega (arith, carried e, risen_here m us s.before p.ahead e, each_among (λ u. greatest (s.before u) ≤ m) us p.ahead rising.below e)

    old_closed : AllByRecursion (λ p. greatest (risen m us s.before p.ahead) ≤ greatest (risen m us s.before p.behind)) s.gains
    old_closed =
        both_all (IsSteadyPair s) (λ p. is_among p.ahead us ≡ true → m ≤ greatest (risen m us s.before p.behind)) (λ p. greatest (risen m us s.before p.ahead) ≤ greatest (risen m us s.before p.behind)) s.gains (λ p k c. by p k c (is_among p.ahead us) refl) sound.steady.pairs
        (all_front (λ p. is_among p.ahead us ≡ true → m ≤ greatest (risen m us s.before p.behind)) s.gains (map pair (ahead_of t a s)) rising.carried)
      where
        by : (p : Pair) → IsSteadyPair s p → (is_among p.ahead us ≡ true → m ≤ greatest (risen m us s.before p.behind)) → (b : Bool) → is_among p.ahead us ≡ b → greatest (risen m us s.before p.ahead) ≤ greatest (risen m us s.before p.behind)
        by p k c true e = up p c e
        by p k c false e = omega (arith, risen_else m us s.before p.ahead e, k.rises, risen_grows m us s.before p.behind)

    t_risen : greatest (risen m us s.before t) ≡ m
    t_risen = omega (arith, risen_here m us s.before t rising.first, m_is)

    new_closed : AllByRecursion (λ x. greatest (risen m us s.before x.tid) ≤ greatest (risen m us s.before t)) (ahead_of t a s)
    new_closed = weaker (IsAhead t a s) (λ x. greatest (risen m us s.before x.tid) ≤ greatest (risen m us s.before t)) (ahead_of t a s) (λ x k. by x k (is_among x.tid us) refl) are_ahead
      where
        by : (x : Lock) → IsAhead t a s x → (b : Bool) → is_among x.tid us ≡ b → greatest (risen m us s.before x.tid) ≤ greatest (risen m us s.before t)
        by x k true e = omega (arith, t_risen, risen_here m us s.before x.tid e, each_among (λ u. greatest (s.before u) ≤ m) us x.tid rising.below e)
        by x k false e = omega (arith, t_risen, risen_else m us s.before x.tid e, k.below, m_is)

    began_low : (u : ℕ) → greatest (with_at t (s.before t ++ gain t a s) s.before u) ≤ greatest (risen m us s.before u)
    began_low u = by (u == t) refl
      where
        by : (b : Bool) → (u == t) ≡ b → greatest (if b then s.before t ++ gain t a s else s.before u) ≤ greatest (risen m us s.before u)
        by true e = omega (arith, greatest_join (s.before t) (gain t a s), m_is, t_risen, ap (λ (n : ℕ). greatest (risen m us s.before n)) (eqb-true u t e))
        by false e = risen_grows m us s.before u

    began_high : (u : ℕ) → greatest (s.before u) ≤ greatest (with_at t (s.before t ++ gain t a s) s.before u)
    began_high u = by (u == t) refl
      where
        by : (b : Bool) → (u == t) ≡ b → greatest (s.before u) ≤ greatest (if b then s.before t ++ gain t a s else s.before u)
        by true e = omega (arith, greatest_join (s.before t) (gain t a s), ap (λ (n : ℕ). greatest (s.before n)) (eqb-true u t e))
        by false e = omega arith

    pub same_rise : (u : ℕ) → greatest (risen m us s.before u) ≡ greatest (spread (with_pairs t a s) s.acts (with_at t (s.before t ++ gain t a s) s.before) u)
    same_rise u =
        risen_is_spread m t us (with_pairs t a s) s.acts s.before (with_at t (s.before t ++ gain t a s) s.before) sound.drawn.rise
        (over_pairs (λ p. p.behind < p.ahead) (weaker (IsSteadyPair s) (λ p. p.behind < p.ahead) s.gains (λ p k. k.older) sound.steady.pairs) (weaker (IsAhead t a s) (λ x. t < x.tid) (ahead_of t a s) (λ x k. k.younger) are_ahead))
        may_rise.behind began_low began_high (omega (arith, ap greatest (at_it t (s.before t ++ gain t a s) s.before), greatest_join (s.before t) (gain t a s), m_is))
        (over_pairs (λ p. greatest (risen m us s.before p.ahead) ≤ greatest (risen m us s.before p.behind)) old_closed new_closed) rising.reached u

    -- so what is told has risen as it is to
    pub risen_known : (told : Told) → KnowsAll w told (with_before (risen m us s.before) (record (with_entry t a s) { gains = with_pairs t a s })) → KnowsAll w told (act_placed_last t a s)
    risen_known told h =
        alike_known w told (with_before (risen m us s.before) (record (with_entry t a s) { gains = with_pairs t a s })) (spread (with_pairs t a s) s.acts (with_at t (s.before t ++ gain t a s) s.before)) s.dooms (with_pairs t a s)
        (record { before = λ u. sym (same_rise u); dooms = λ u. refl; gains = λ u. refl }) h

    -- and who crosses now has risen
    pub crossed_rose : AllByRecursion (λ x. sets_cross (act_placed_last t a s) x.tid ≡ true → is_among x.tid us ≡ true) s.acts
    crossed_rose = weaker (λ x. sets_cross s x.tid ≡ false) (λ x. sets_cross (act_placed_last t a s) x.tid ≡ true → is_among x.tid us ≡ true) s.acts (λ x k q. by x k q (is_among x.tid us) refl) sound.steady.none_crossed
      where
        by : (x : Begun) → sets_cross s x.tid ≡ false → sets_cross (act_placed_last t a s) x.tid ≡ true → (b : Bool) → is_among x.tid us ≡ b → is_among x.tid us ≡ true
        by x k q true e = e
        by x k q false e =
            let same : greatest (s.before x.tid) ≡ greatest (spread (with_pairs t a s) s.acts (with_at t (s.before t ++ gain t a s) s.before) x.tid) = sym (risen_else m us s.before x.tid e) ∙ same_rise x.tid in
            absurd (true≢false (sym q ∙ (ap (λ (n : ℕ). is_live s x.tid && reaches n (least (s.behind x.tid))) (sym same) ∙ k)))
