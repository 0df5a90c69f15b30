-- The list that is kept from turn to turn.
use Rattle.std.proofs.Common.{◌≡◌, ℕ, zero, suc, ◌-◌, ◌<◌, ◌≤◌, Bool, true, false, ◌||◌, if◌then◌else◌, None, Some, Option, Result, Ok, Err, OnOk, Contains, ◌⊎◌, List, [], ◌∷◌, ◌++◌, length, map, filter, slice_get, slice_index_or, refl, sym, ap, subst, inl, inr, ◌∙◌, arith}
use Rattle.std.specs.Option.{option_map}
use Rattle.std.specs.Prelude.{IfSome}
use Rattle.std.proofs.lemmas.List.{length-append, length-map}
use Rattle.std.proofs.lemmas.Option.{slice_get_within, get_or_from_slice_get}
use Rattle.aml_slice.specs.Controls.{Rest}
use Rattle.snap_core.specs.core_events.declared.events.Event as code
use Rattle.snap_core.specs.core_events.Meant.{event_meant}
use Rattle.protocol.specs.Conditions.{IsAllowed}
use Rattle.protocol.specs.Events.{Event, Sync}
use Rattle.protocol.specs.Fixed.{Fixed}
use Rattle.protocol.specs.Parts.{Machine}
use Rattle.protocol.specs.Runs.{IsQuiet, reached}
use Rattle.protocol.specs.Schedule.{AscendByRank, IsEnabled, Rank, is_rank_below, pick, rank}
use Rattle.protocol_ready.specs.Ready.{without}
use Rattle.protocol_schedule.specs.Draw.{draw_of, word_of}
use Rattle.snap_core.specs.ready_renewal.Covering.{Covers, IsFirst}
use Rattle.snap_core.specs.Cores.{CoreState, IsAt, state_at}
use Rattle.snap_core.specs.ready_news.New.{IsForeseen}
use Rattle.snap_core.specs.snap_hand.Tables.{fixed_of}
use Rattle.solo_host.specs.Outside.{IsPicked}
use Rattle.solo_host.specs.Turns.{IsKeptFor, IsOneBehind, asks_outside}
use Rattle.solo_host.proofs.Picking.{none_enabled}

-- ---- the last one

read_mapped : (xs : List code.Event) (n : ℕ) (x : code.Event) → slice_get xs n ≡ Some x → slice_get (map event_meant xs) n ≡ Some (event_meant x)
read_mapped [] n x h = absurd (cc h)
read_mapped (y ∷ xs) zero x h = let q : y ≡ x = cc h in rw q refl
read_mapped (y ∷ xs) (suc n) x h = read_mapped xs n x h

read_last : (front : List Event) (e : Event) → slice_get (front ++ e ∷ []) (length front) ≡ Some e
read_last [] e = refl
read_last (x ∷ front) e = read_last front e

last_is : (xs : List code.Event) (x : code.Event) (front : List Event) (e : Event) → map event_meant xs ≡ front ++ e ∷ [] → slice_get xs (length xs - 1) ≡ Some x → event_meant x ≡ e
last_is xs x front e is h =
    let many = ap (λ (es : List Event). length es) is in
    let joined = length-append front (e ∷ []) in
    let same = length-map xs event_meant in
    let n : length xs - 1 ≡ length front = omega (arith, many, joined, same) in
    let there : slice_get (map event_meant xs) (length front) ≡ Some (event_meant x) = subst (λ k. slice_get (map event_meant xs) k ≡ Some (event_meant x)) n (read_mapped xs (length xs - 1) x h) in
    let both : Some (event_meant x) ≡ Some e = sym there ∙ (ap (λ (es : List Event). slice_get es (length front)) is ∙ read_last front e) in
    cc both

none_read : (xs : List code.Event) (n : ℕ) (x : code.Event) → map event_meant xs ≡ [] → slice_get xs n ≡ Some x → ⊥
none_read [] n x is h = cc h
none_read (y ∷ xs) n x is h = cc is

-- ---- it is renewed

pub renewed : {E : Type 0} (seed : ℕ) (core : CoreState) (xs : List code.Event) (x : code.Event) (old news new : List Event) (r : Result (Unit {0}) E) → slice_get xs (length xs - 1) ≡ Some x
    → IsAt core (map event_meant xs) → IsOneBehind seed (fixed_of core.tables) (map event_meant xs) old news
    → OnOk r ((es : List Event) → IsAt core (es ++ event_meant x ∷ []) → IsForeseen (fixed_of core.tables) (event_meant x) (state_at core es) news → IsKeptFor seed (fixed_of core.tables) (state_at core es) old → IsKeptFor seed (fixed_of core.tables) (state_at core (es ++ event_meant x ∷ [])) new)
    → OnOk r (IsKeptFor seed (fixed_of core.tables) (state_at core (map event_meant xs)) new)
renewed seed core xs x old news new (Err e) h at behind renews = tt
renewed seed core xs x old news new (Ok _) h at (inl none) renews = absurd (none_read xs (length xs - 1) x none h)
renewed seed core xs x old news new (Ok _) h at (inr ahead) renews =
    let last : event_meant x ≡ ahead.last = last_is xs x ahead.front ahead.last ahead.is h in
    let q : map event_meant xs ≡ ahead.front ++ event_meant x ∷ [] = ahead.is ∙ ap (λ e. ahead.front ++ e ∷ []) (sym last) in
    let foreseen = subst (λ (e : Event). IsForeseen (fixed_of core.tables) e (state_at core ahead.front) news) (sym last) ahead.foreseen in
    subst (λ (es : List Event). IsKeptFor seed (fixed_of core.tables) (state_at core es) new) (sym q) (renews ahead.front (subst (IsAt core) q at) foreseen ahead.kept)

-- by seed 0 a list that leaves no allowed event out is enough
pub covered : (seed : ℕ) (w : Fixed Rest) (s : Machine Rest) (list : List Event) → IsKeptFor seed w s list → Covers w s list
covered seed w s list (inl enabled) = record { all = λ f. (enabled.all f).1; ascends = enabled.ascends }
covered seed w s list (inr kept) = kept.1

pub advances : {E : Type 0} (seed : ℕ) (core : CoreState) (e : Event) (old news new : List Event) (r : Result (Unit {0}) E) → seed ≡ 0
    → OnOk r ((es : List Event) → IsAt core (es ++ e ∷ []) → IsForeseen (fixed_of core.tables) e (state_at core es) news → Covers (fixed_of core.tables) (state_at core es) old → Covers (fixed_of core.tables) (state_at core (es ++ e ∷ [])) new)
    → OnOk r ((es : List Event) → IsAt core (es ++ e ∷ []) → IsForeseen (fixed_of core.tables) e (state_at core es) news → IsKeptFor seed (fixed_of core.tables) (state_at core es) old → IsKeptFor seed (fixed_of core.tables) (state_at core (es ++ e ∷ [])) new)
advances seed core e old news new (Err n) zero_is goes = tt
advances seed core e old news new (Ok _) zero_is goes = λ es at foreseen kept. inr (zero_is, goes es at foreseen (covered seed (fixed_of core.tables) (state_at core es) old kept))

pub renews : {E : Type 0} (seed : ℕ) (core : CoreState) (e : Event) (old news new : List Event) (r : Result (Unit {0}) E) → (seed ≡ 0 → ⊥)
    → OnOk r ((es : List Event) → IsAt core (es ++ e ∷ []) → IsForeseen (fixed_of core.tables) e (state_at core es) news → IsEnabled (fixed_of core.tables) (state_at core es) old → IsEnabled (fixed_of core.tables) (state_at core (es ++ e ∷ [])) new)
    → OnOk r ((es : List Event) → IsAt core (es ++ e ∷ []) → IsForeseen (fixed_of core.tables) e (state_at core es) news → IsKeptFor seed (fixed_of core.tables) (state_at core es) old → IsKeptFor seed (fixed_of core.tables) (state_at core (es ++ e ∷ [])) new)
renews seed core e old news new (Err n) other goes = tt
renews seed core e old news new (Ok _) other goes = λ es at foreseen kept. elim kept [ inl enabled ↦ inl (goes es at foreseen enabled) | inr p ↦ absurd (other p.0) ]

-- ---- the next one is taken from it

-- what a list hands out is in it
pub read_there : (o : Option code.Event) (xs : List Event) (i : ℕ) → option_map event_meant o ≡ slice_get xs i → IfSome o (λ e. Contains xs (event_meant e))
read_there None xs i is = tt
read_there (Some e) xs i is = (i, slice_get_within xs i (event_meant e) (sym is), get_or_from_slice_get xs i (event_meant e) (event_meant e) (sym is))

-- by seed 0 it is the first
pub first_picked : (seed word : ℕ) (o : Option code.Event) (list : List Event) → seed ≡ 0
    → IfSome o (λ e. (w : Fixed Rest) (s : Machine Rest) → Covers w s list → IsAllowed w (event_meant e) s → IsFirst w s (event_meant e))
    → IfSome o (λ e. (w : Fixed Rest) (es : List Event) → word ≡ word_of seed (length es) → IsKeptFor seed w (reached w es) list → IsAllowed w (event_meant e) (reached w es) → IsPicked w seed es (event_meant e))
first_picked seed word None list zero_is first = tt
first_picked seed word (Some e) list zero_is first = λ w es drawn kept allowed.
    let is = first w (reached w es) (covered seed w (reached w es) list kept) allowed in
    record {
      all = is.all;
      enabled = is.enabled;
      place = subst (λ n. slice_get is.all (pick (draw_of n) (length es) (length is.all)) ≡ Some (event_meant e)) (sym zero_is) is.first;
    }

pub first_quiet : (seed : ℕ) (list : List Event) → ((w : Fixed Rest) (s : Machine Rest) → Covers w s list → IsQuiet w s)
    → (w : Fixed Rest) (s : Machine Rest) → IsKeptFor seed w s list → IsQuiet w s
first_quiet seed list quiet w s kept = quiet w s (covered seed w s list kept)

-- by another seed it is the one at the place that the word gives
pub word_picked : (seed word : ℕ) (o : Option code.Event) (list : List Event) → (seed ≡ 0 → ⊥)
    → IfSome o (λ e. (step : ℕ) → word ≡ word_of seed step → slice_get list (pick (draw_of seed) step (length list)) ≡ Some (event_meant e))
    → IfSome o (λ e. (w : Fixed Rest) (es : List Event) → word ≡ word_of seed (length es) → IsKeptFor seed w (reached w es) list → IsAllowed w (event_meant e) (reached w es) → IsPicked w seed es (event_meant e))
word_picked seed word None list other place = tt
word_picked seed word (Some e) list other place = λ w es drawn kept allowed. elim kept [
  | inl enabled ↦ record { all = list; enabled = enabled; place = place (length es) drawn }
  | inr p ↦ absurd (other p.0)
]

pub word_quiet : (seed : ℕ) (list : List Event) → (seed ≡ 0 → ⊥) → list ≡ [] → (w : Fixed Rest) (s : Machine Rest) → IsKeptFor seed w s list → IsQuiet w s
word_quiet seed list other none w s kept = elim kept [ inl enabled ↦ none_enabled w s list enabled none | inr p ↦ absurd (other p.0) ]

-- ---- a refused one is taken out

pub kept_without : (seed : ℕ) (w : Fixed Rest) (s : Machine Rest) (e : Event) (list new : List Event)
    → ((e : Event) (es : List Event) (f : Event) → Contains es f → Contains (without e es) f ⊎ (f ≡ e))
    → ((e : Event) (es : List Event) → AscendByRank es → AscendByRank (without e es))
    → Contains list e → (IsAllowed w e s → ⊥) → new ≡ without e list → IsKeptFor seed w s list → IsKeptFor seed w s new
kept_without seed w s e list new others order there refused taken (inl enabled) = absurd (refused ((enabled.all e).0 there))
kept_without seed w s e list new others order there refused taken (inr kept) = subst (IsKeptFor seed w s) (sym taken) (inr (
  kept.0,
  record {
    all = λ f ok. elim (others e list f (kept.1.all f ok)) [ inl a ↦ a | inr q ↦ absurd (refused (subst (λ g. IsAllowed w g s) q ok)) ];
    ascends = order e list kept.1.ascends;
  },
))

no_longer : {X : Type 0} (p : X → Bool) (xs : List X) → length (filter p xs) ≤ length xs
no_longer p [] = omega arith
no_longer p (x ∷ xs) = by (p x) (no_longer p xs)
  where
    by : (b : Bool) → length (filter p xs) ≤ length xs → length (if b then x ∷ filter p xs else filter p xs) ≤ length (x ∷ xs)
    by true h = omega (arith, h)
    by false h = omega (arith, h)

shorter_at : ((x : Rank) → is_rank_below x x ≡ false) → (e : Event) (es : List Event) (i : ℕ) → i < length es → slice_index_or es i e ≡ e → length (without e es) < length es
shorter_at apart e [] i h is = absurd (omega (arith, h))
shorter_at apart e (x ∷ es) zero h is =
    let same : x ≡ e = is in
    let out : (is_rank_below (rank x) (rank e) || is_rank_below (rank e) (rank x)) ≡ false = rw (same, apart (rank e)) refl in
    let rest : length (without e es) < length (x ∷ es) = omega (arith, no_longer (λ y. is_rank_below (rank y) (rank e) || is_rank_below (rank e) (rank y)) es) in
    subst (λ b. length (if b then x ∷ without e es else without e es) < length (x ∷ es)) (sym out) rest
shorter_at apart e (x ∷ es) (suc i) h is = by (is_rank_below (rank x) (rank e) || is_rank_below (rank e) (rank x)) (shorter_at apart e es i (omega (arith, h)) is)
  where
    by : (b : Bool) → length (without e es) < length es → length (if b then x ∷ without e es else without e es) < length (x ∷ es)
    by true r = omega (arith, r)
    by false r = omega (arith, r)

pub shorter : ((x : Rank) → is_rank_below x x ≡ false) → (e : Event) (list new : List Event) → Contains list e → new ≡ without e list → length new < length list
shorter apart e list new there taken = subst (λ xs. length xs < length list) (sym taken) (shorter_at apart e list there.0 there.1 there.2)

-- ---- it is listed anew

pub last_read : (xs ys : List code.Event) (x : code.Event) → ys ≡ xs → slice_get ys (length ys - 1) ≡ Some x → slice_get xs (length xs - 1) ≡ Some x
last_read xs ys x same h = subst (λ zs. slice_get zs (length zs - 1) ≡ Some x) same h

pub listed : {E : Type 0} (seed : ℕ) (core : CoreState) (es list : List Event) (r : Result (Unit {0}) E) → IsAt core es
    → OnOk r ((es : List Event) → IsAt core es → IsEnabled (fixed_of core.tables) (state_at core es) list)
    → OnOk r (IsKeptFor seed (fixed_of core.tables) (state_at core es) list)
listed seed core es list (Err e) at all = tt
listed seed core es list (Ok _) at all = inl (all es at)

-- ---- along the turns

pub first_behind : (seed : ℕ) (w : Fixed Rest) (xs : List code.Event) (list news : List Event) → xs ≡ [] → IsOneBehind seed w (map event_meant xs) list news
first_behind seed w xs list news none = inl (ap (map event_meant) none)

pub one_behind : (seed : ℕ) (w : Fixed Rest) (es kept list news : List Event) (e : Event) → kept ≡ es ++ e ∷ [] → IsKeptFor seed w (reached w es) list
    → IsForeseen w e (reached w es) news → IsOneBehind seed w kept list news
one_behind seed w es kept list news e more is foreseen = inr (record { front = es; last = e; is = more; kept = is; foreseen = foreseen })

-- of an event ahead of which nothing is done outside any list is foreseen, since it is no Sync
pub none_foreseen : (w : Fixed Rest) (e : Event) (s : Machine Rest) (news : List Event) → asks_outside e ≡ false → IsForeseen w e s news
none_foreseen w (Sync l) s news none = absurd (cc none)
none_foreseen w e s news none = λ sync. absurd (cc sync)
