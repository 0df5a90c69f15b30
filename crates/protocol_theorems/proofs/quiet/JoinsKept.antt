-- An ACT joins an actor once, one with a result has joined one, and where it has an entry it has not left.
use Rattle.std.specs.Prelude.{◌≡◌, refl, ℕ, ◌≤◌, ◌==◌, not, Bool, true, false, if◌then◌else◌, Some, is_some, List, [], ◌∷◌, ◌++◌, map, find}
use Rattle.std.specs.List.{AllByRecursion}
use Rattle.std.proofs.Common.{arith, sym, ap, subst, inl, inr, ◌∙◌}
use Rattle.std.proofs.lemmas.Bool.{true≢false, eqb-true, or_cases, not-true}
use Rattle.protocol.specs.Fixed.{Fixed}
use Rattle.protocol.specs.Parts.{Act, Joined, OfAct, Machine}
use Rattle.protocol.specs.Events.{Event, Admit, Ask, End, Decide, Finish}
use Rattle.protocol.specs.Words.{holds, is_empty, is_who, is_doomed, is_sealed, is_decided, act_of, joined_of, has_act, outcome_of}
use Rattle.protocol.specs.Conditions.{IsAllowed, conditions}
use Rattle.protocol.specs.Effects.{after, cell_at, no_cell}
use Rattle.protocol.specs.OnBook as book
use Rattle.protocol.specs.Numbers.{times, one_if}
use Rattle.protocol.specs.History.{History}
use Rattle.protocol_laws.specs.Told.{EachAct}
use Rattle.protocol_laws.specs.Tracks.{Key, key_of, is_key_among}
use Rattle.protocol_laws.proofs.first.Times
use Rattle.protocol_laws.proofs.machine.TrackLists
use Rattle.protocol_laws.proofs.machine.TracksKept.{held}
use Rattle.protocol_laws.proofs.machine.ControlWalk.{AllControls}
use Rattle.protocol_laws.proofs.machine.ActsFound as acts
use Rattle.protocol_laws.proofs.machine.ActsFound.{HoldsOpen}
use Rattle.protocol_laws.proofs.machine.ActResults.{NoneActed}
use Rattle.protocol_laws.proofs.machine.ActsKept.{Acts}
use Rattle.protocol_laws.proofs.machine.EntriesKept.{open_in, open_at, KeyOpen, KeysOpen, Left, Opened, Standing, none_left, mark_actor}
use Rattle.protocol_theorems.proofs.quiet.RowsKept.{act_key}
use Rattle.protocol_theorems.proofs.quiet.QuietKnown.{found_once}
use Rattle.protocol_theorems.proofs.quiet.QuietEnd.{each_at}
use Rattle.protocol_laws.proofs.first.Controls.{at_most_one}

-- ---- who has an entry has not left

pub key_open : (b : ℕ) (xs : List Act) (t : ℕ) (ks : List Key) → KeysOpen b xs ks → is_key_among (OfAct t) ks ≡ true → holds (open_at b) (act_of t xs) ≡ true
key_open b xs t [] h e = absurd (true≢false (sym e))
key_open b xs t (k ∷ ks) h e = elim (or_cases (is_who k.who (OfAct t)) (is_key_among (OfAct t) ks) e) [ inl q ↦ subst (KeyOpen b xs) (TrackLists.is_who_true k.who (OfAct t) q) h.0 | inr q ↦ key_open b xs t ks h.1 q ]

pub stands : {C : Type 0} (s : Machine C) → Opened s → (t a : ℕ) → has_act t (cell_at s a).entries ≡ true → holds (λ x. holds (λ p. not p.finished) (joined_of a x)) (act_of t s.book.acts) ≡ true
unfolding Opened
stands s g t a e = key_open a s.book.acts t (map key_of (cell_at s a).entries) (g a) (act_key t (cell_at s a).entries ∙ e)

-- ---- an actor is joined once

abbrev pub Apart : ℕ → Act → Type 0
Apart t x = (n : ℕ) → times n (map (λ p. p.actor) x.places) ≤ 1

unfoldable pub Joins : {C : Type 0} → Machine C → Type 0
Joins s = EachAct Apart s.book.acts

pub actors_marked : (a : ℕ) (f : Joined → Joined) (ps : List Joined) → ((p : Joined) → (f p).actor ≡ p.actor) → map (λ p. p.actor) (map (λ p. book.mark_if (p.actor == a) f p) ps) ≡ map (λ p. p.actor) ps
actors_marked a f [] i = refl
actors_marked a f (p ∷ ps) i = rw (mark_actor (p.actor == a) f p i, actors_marked a f ps i) refl

apart_holds : HoldsOpen Apart
apart_holds = record {
  numbered = λ t x n p. p;
  noted = λ t a x f i j p n. subst (λ z. times n z ≤ 1) (sym (actors_marked a f x.places i)) (p n);
  sealed = λ t x p. p;
  doomed = λ t x v l p. p;
  rises = λ t k x l p. p;
}

not_there : (a : ℕ) (ps : List Joined) → AllByRecursion (λ p. p.finished ≡ false) ps → (open_in a ps ≡ true → ⊥) → times a (map (λ p. p.actor) ps) ≡ 0
not_there a [] h k = refl
not_there a (p ∷ ps) h k = by (p.actor == a) refl h.0 k (not_there a ps h.1)
  where
    by : (v : Bool) → (p.actor == a) ≡ v → p.finished ≡ false → (holds (λ p. not p.finished) (if v then Some p else find (λ p. p.actor == a) ps) ≡ true → ⊥) → ((open_in a ps ≡ true → ⊥) → times a (map (λ p. p.actor) ps) ≡ 0) → times a (p.actor ∷ map (λ p. p.actor) ps) ≡ 0
    by true e f k r = absurd (k (rw f refl))
    by false e f k r = omega (arith, Times.times_cons a p.actor (map (λ p. p.actor) ps), ap one_if e, r k)

pub apart_more : (a : ℕ) (q : Joined) (ps : List Joined) → q.actor ≡ a → times a (map (λ p. p.actor) ps) ≡ 0 → ((n : ℕ) → times n (map (λ p. p.actor) ps) ≤ 1) → (n : ℕ) → times n (map (λ p. p.actor) (ps ++ q ∷ [])) ≤ 1
apart_more a q ps e z h n =
    rw (Times.map_join (λ p. p.actor) ps (q ∷ []))
    (by (q.actor == n) refl)
  where
    by : (v : Bool) → (q.actor == n) ≡ v → times n (map (λ p. p.actor) ps ++ q.actor ∷ []) ≤ 1
    by true f = let i : a ≡ n = sym e ∙ eqb-true q.actor n f in omega (arith, Times.times_append n (map (λ p. p.actor) ps) (q.actor ∷ []), Times.times_cons n q.actor [], at_most_one (q.actor == n), subst (λ z. times z (map (λ p. p.actor) ps) ≡ 0) i z)
    by false f = omega (arith, Times.times_append n (map (λ p. p.actor) ps) (q.actor ∷ []), Times.times_cons n q.actor [], ap one_if f, h n)

-- an actor that an ACT asks for, it has not joined
pub asks_new : {C : Type 0} (w : Fixed C) (t a : ℕ) (s : Machine C) (h : History) → IsAllowed w (Ask t a) s → AllControls (NoneActed s) s → Acts s h → Left s → Standing s → (x : Act) → act_of t s.book.acts ≡ Some x → times a (map (λ p. p.actor) x.places) ≡ 0
unfolding conditions Standing
asks_new w t a s h ok n i l d x e =
    not_there a x.places (none_left w s h t a x ok n i l e)
    (λ o. true≢false (sym (sym (act_key t (cell_at s a).entries) ∙ d t x e (not-true (is_doomed x.status) (subst (λ z. holds (λ x. not (is_doomed x.status)) z ≡ true) e ok.1.0)) a o) ∙ not-true (has_act t (cell_at s a).entries) (held (λ c. not (has_act t c.entries)) s.cells a no_cell ok.1.1.0)))

pub joins_kept : {C : Type 0} (w : Fixed C) (e : Event) (s : Machine C) (h : History) → IsAllowed w e s → AllControls (NoneActed s) s → Acts s h → Left s → Standing s → Joins s → Joins (after w e s)
unfolding Joins acts.ReadyToo
joins_kept w (Admit t) s h ok n i l d g = acts.acts_move w (Admit t) s Apart apart_holds (λ e n. omega arith) g
joins_kept w (Ask t a) s h ok n i l d g = acts.acts_move w (Ask t a) s Apart apart_holds (λ q x e p. apart_more a _ x.places refl (asks_new w t a s h ok n i l d x e) p) g
joins_kept w (End t a) s h ok n i l d g = acts.acts_move w (End t a) s Apart apart_holds (λ x r e p. p) g
joins_kept w (Decide t) s h ok n i l d g = acts.acts_move w (Decide t) s Apart apart_holds (λ x e p. p) g
joins_kept w (Finish t a) s h ok n i l d g = acts.acts_move w (Finish t a) s Apart apart_holds (λ x e p n. subst (λ z. times n z ≤ 1) (sym (actors_marked a book.has_left x.places (λ q. refl))) (p n)) g
joins_kept w e s h ok n i l d g = acts.acts_move w e s Apart apart_holds tt g

pub joined : {C : Type 0} (s : Machine C) → Joins s → (t : ℕ) (x : Act) → act_of t s.book.acts ≡ Some x → AllByRecursion (λ p. joined_of p.actor x ≡ Some p) x.places
unfolding Joins
joined s g t x e = each_at (λ p. joined_of p.actor x ≡ Some p) x.places (found_once (λ p. p.actor) x.places (g t x e))

-- ---- who has a result has joined an actor

abbrev pub Somewhere : ℕ → Act → Type 0
Somewhere t x = is_some x.result ≡ true → is_empty x.places ≡ false

unfoldable pub Arrived : {C : Type 0} → Machine C → Type 0
Arrived s = EachAct Somewhere s.book.acts

empty_map : {X : Type 0} (f : X → X) (xs : List X) → is_empty (map f xs) ≡ is_empty xs
empty_map f [] = refl
empty_map f (x ∷ xs) = refl

empty_more : {X : Type 0} (x : X) (xs : List X) → is_empty (xs ++ x ∷ []) ≡ false
empty_more x [] = refl
empty_more x (y ∷ xs) = refl

open_some : (a : ℕ) (ps : List Joined) → open_in a ps ≡ true → is_empty ps ≡ false
open_some a [] e = absurd (true≢false (sym e))
open_some a (p ∷ ps) e = refl

somewhere_holds : HoldsOpen Somewhere
somewhere_holds = record {
  numbered = λ t x n p. p;
  noted = λ t a x f i j p r. empty_map (λ p. book.mark_if (p.actor == a) f p) x.places ∙ p r;
  sealed = λ t x p. p;
  doomed = λ t x v l p. p;
  rises = λ t k x l p. p;
}

ended : {C : Type 0} (w : Fixed C) (t a : ℕ) (s : Machine C) → Opened s → Arrived s → (v : Bool) → has_act t (cell_at s a).entries ≡ v → Arrived (after w (End t a) s)
unfolding Arrived acts.ReadyToo after
ended w t a s o g true e = acts.acts_move w (End t a) s Somewhere somewhere_holds (λ x r f p q. open_some a x.places (subst (λ z. holds (λ x. holds (λ p. not p.finished) (joined_of a x)) z ≡ true) f (stands s o t a e))) g
ended w t a s o g false e = subst (λ v. EachAct Somewhere (if v then book.noted_from t (outcome_of t (cell_at s a).outbox) s.book.acts else s.book.acts)) (sym e) g

pub arrived_kept : {C : Type 0} (w : Fixed C) (e : Event) (s : Machine C) → Opened s → Arrived s → Arrived (after w e s)
unfolding Arrived acts.ReadyToo
arrived_kept w (Admit t) s o g = acts.acts_move w (Admit t) s Somewhere somewhere_holds (λ e r. absurd (true≢false (sym r))) g
arrived_kept w (Ask t a) s o g = acts.acts_move w (Ask t a) s Somewhere somewhere_holds (λ q x e p r. empty_more _ x.places) g
arrived_kept w (End t a) s o g = ended w t a s o g (has_act t (cell_at s a).entries) refl
arrived_kept w (Decide t) s o g = acts.acts_move w (Decide t) s Somewhere somewhere_holds (λ x e p. p) g
arrived_kept w (Finish t a) s o g = acts.acts_move w (Finish t a) s Somewhere somewhere_holds (λ x e p r. empty_map (λ p. book.mark_if (p.actor == a) book.has_left p) x.places ∙ p r) g
arrived_kept w e s o g = acts.acts_move w e s Somewhere somewhere_holds tt g

pub somewhere : {C : Type 0} (s : Machine C) (h : History) → Acts s h → Arrived s → (t : ℕ) (x : Act) → act_of t s.book.acts ≡ Some x → is_sealed x.status ≡ true → is_empty x.places ≡ false
unfolding Acts Arrived
somewhere s h i g t x e d = g t x e ((i t x e).ended (Rattle.std.proofs.lemmas.Bool.or_right (is_decided x.status) (is_sealed x.status) d))
