-- Parts that were moved from one hand to another: which are gone, and what both hands fit after an event on the one.
use Rattle.std.specs.List.{AllByRecursion}
use Rattle.std.specs.Option.{option_flatten}
use Rattle.std.proofs.Common.{◌≡◌, ℕ, zero, suc, ◌+◌, ◌<◌, ◌||◌, inl, inr, Bool, true, false, Option, Some, None, is_some, option_map, List, [], ◌∷◌, ◌++◌, length, map, take, slice_get, slice_set, refl, sym, ap, subst, ◌∙◌, arith}
use Rattle.std.proofs.lemmas.Bool.{true≢false}
use Rattle.std.proofs.lemmas.Bool.Decides.{eqb_tells}
use Rattle.std.proofs.lemmas.List.{length-map}
use Rattle.std.proofs.lemmas.Option.{slice_get_within}
use Rattle.snap_base.proofs.Lists.{all_next, get_mapped, get_behind}
use Rattle.aml_slice.specs.Controls.{Rest}
use Rattle.book_part.specs.Halves.{Shows}
use Rattle.core_rows.specs.OnRuns.{HasRun}
use Rattle.protocol.specs.Conditions.{IsAllowed}
use Rattle.protocol.specs.Effects.{after}
use Rattle.protocol.specs.Events.{Event, Part, LogPart, CellPart, part, footprint}
use Rattle.protocol.specs.Fixed.{Fixed}
use Rattle.protocol.specs.Footprints.{HasLogs, LeavesOthers}
use Rattle.protocol.specs.Laws.{AfterEveryRun}
use Rattle.protocol.specs.Parts.{Log, Cell, Machine}
use Rattle.protocol.specs.Words.{is_among}
use Rattle.snap_hand.specs.Hands.{Parts, Fits, Has, IsHandOf, are_there, is_at_hand, is_not_out}
use Rattle.snap_hand.specs.Shown.{Shown, TheRing, TheBook, ThePost, TheDesk, TheLog, TheCell, part_at, places, without}
use Rattle.footprint_rows.specs.Footprints.{AreBoth, StaysOrGoesOn}

-- ---- lists

pub all_taken : {X : Type 0} (Q : X → Type 0) (xs : List X) (n : ℕ) → length xs ≡ n → AllByRecursion Q (take n xs) → AllByRecursion Q xs
all_taken Q [] n e a = tt
all_taken Q (x ∷ xs) zero e a = absurd (omega (arith, e))
all_taken Q (x ∷ xs) (suc n) e a = (a.0, all_taken Q xs n (omega (arith, e)) a.1)

-- what is so of all is so of one that is among them
one_of : (Q : ℕ → Type 0) (js : List ℕ) (i : ℕ) → AllByRecursion Q js → is_among i js ≡ true → Q i
one_of Q [] i a e = absurd (true≢false (sym e))
one_of Q (j ∷ js) i a e = elim (eqb_tells j i) [
  | inl h ↦ subst Q h.1 a.0
  | inr h ↦ one_of Q js i a.1 (sym (ap (λ b. b || is_among i js) h.0) ∙ e)
]

left_some : {X : Type 0} (xs ys : List X) (i : ℕ) (x : X) → slice_get xs i ≡ Some x → slice_get (xs ++ ys) i ≡ Some x
left_some [] ys i x e = absurd (cc e)
left_some (y ∷ xs) ys zero x e = e
left_some (y ∷ xs) ys (suc i) x e = left_some xs ys i x e

-- ---- a place that is empty

not_out_false : (o : Option Bool) → is_not_out o ≡ false → o ≡ Some false
not_out_false None h = absurd (true≢false h)
not_out_false (Some true) h = absurd (true≢false h)
not_out_false (Some false) h = refl

-- a part is there, where the test says so
pub has_it : (h : Parts) (i : ℕ) (b : Bool) → b ≡ is_at_hand h i → b ≡ true → Has h i
has_it h i b is there out = true≢false (sym there ∙ is ∙ ap is_not_out out)

none_there : {X : Type 0} (xs : List (Option X)) (i : ℕ) → slice_get (map is_some xs) i ≡ Some false → option_flatten (slice_get xs i) ≡ None
none_there [] i h = refl
none_there (None ∷ xs) zero h = refl
none_there (Some x ∷ xs) zero h = absurd (cc h)
none_there (o ∷ xs) (suc i) h = none_there xs i h

pub free_at : (h : Parts) (i : ℕ) (b : Bool) → ((g : Parts) → map is_some (places g) ≡ are_there g) → b ≡ is_at_hand h i → b ≡ false → part_at h i ≡ None
free_at h i b told is lacks = none_there (places h) i (ap (λ bs. slice_get bs i) (told h) ∙ not_out_false (slice_get (are_there h) i) (sym is ∙ lacks))

set_none : {X : Type 0} (xs : List (Option X)) (i : ℕ) → option_flatten (slice_get (slice_set xs i None) i) ≡ None
set_none [] i = refl
set_none (o ∷ xs) zero = refl
set_none (o ∷ xs) (suc i) = set_none xs i

still_none : {X : Type 0} (xs : List (Option X)) (i j : ℕ) → option_flatten (slice_get xs j) ≡ None → option_flatten (slice_get (slice_set xs i None) j) ≡ None
still_none [] i j h = h
still_none (o ∷ xs) zero zero h = refl
still_none (o ∷ xs) zero (suc j) h = h
still_none (o ∷ xs) (suc i) zero h = h
still_none (o ∷ xs) (suc i) (suc j) h = still_none xs i j h

-- none of these parts is there
abbrev pub AreGone : Parts → List ℕ → Type 0
AreGone h is = AllByRecursion (λ i. part_at h i ≡ None) is

module _ (taken : (h : Parts) (i : ℕ) → places (without i h) ≡ slice_set (places h) i None) where
  gone_here : (h : Parts) (i : ℕ) → part_at (without i h) i ≡ None
  gone_here h i = ap (λ ps. option_flatten (slice_get ps i)) (taken h i) ∙ set_none (places h) i

  gone_still : (h : Parts) (i : ℕ) (js : List ℕ) → AreGone h js → AreGone (without i h) js
  gone_still h i [] a = tt
  gone_still h i (j ∷ js) a = (ap (λ ps. option_flatten (slice_get ps j)) (taken h i) ∙ still_none (places h) i j a.0, gone_still h i js a.1)

  pub gone_more : (h new : Parts) (is : List ℕ) (n i : ℕ) → slice_get is n ≡ Some i → new ≡ without i h → AreGone h (take n is) → AreGone new (take (n + 1) is)
  gone_more h new is n i e new_is a =
      subst (λ g. AreGone g (take (n + 1) is)) (sym new_is) (all_next (λ j. part_at (without i h) j ≡ None) is n i e (gone_still h i (take n is) a) (gone_here h i))

-- ---- what the hand without the footprint fits after the event

ring_is : (s t : Machine Rest) → part s 0 ≡ part t 0 → s.ring ≡ t.ring
ring_is s t e = cc e

book_is : (s t : Machine Rest) → part s 1 ≡ part t 1 → s.book ≡ t.book
book_is s t e = cc e

post_is : (s t : Machine Rest) → part s 2 ≡ part t 2 → s.post ≡ t.post
post_is s t e = cc e

desk_is : (s t : Machine Rest) → part s 3 ≡ part t 3 → s.desk ≡ t.desk
desk_is s t e = cc e

log_is : (ls : List Log) (cs : List (Part Rest)) (l : ℕ) (y : Log) → l < length ls → slice_get (map LogPart ls ++ cs) l ≡ Some (LogPart y) → slice_get ls l ≡ Some y
log_is [] cs l y h e = absurd (omega (arith, h))
log_is (z ∷ ls) cs zero y h e = cc e
log_is (z ∷ ls) cs (suc l) y h e = log_is ls cs l y (omega (arith, h)) e

cell_is : (cs : List (Cell Rest)) (a : ℕ) (x : Cell Rest) → slice_get (map CellPart cs) a ≡ Some (CellPart x) → slice_get cs a ≡ Some x
cell_is [] a x e = absurd (cc e)
cell_is (z ∷ cs) zero x e = cc e
cell_is (z ∷ cs) (suc a) x e = cell_is cs a x e

module _ (w : Fixed Rest) (h : Parts) (s t : Machine Rest) (fp : List ℕ) (in_hand : IsHandOf w h) (in_s : HasLogs w s) (in_t : HasLogs w t)
    (others : (i : ℕ) → is_among i fp ≡ false → part t i ≡ part s i) (gone : AreGone h fp) where
  same_part : (i : ℕ) (p : Shown) → part_at h i ≡ Some p → part t i ≡ part s i
  same_part i p here = by (is_among i fp) refl
    where
      by : (b : Bool) → is_among i fp ≡ b → part t i ≡ part s i
      by true e = absurd (cc (sym here ∙ one_of (λ j. part_at h j ≡ None) fp i gone e))
      by false e = others i e

  log_here : (l : ℕ) (x : _) → slice_get h.logs l ≡ Some (Some x) → part_at h (suc (suc (suc (suc l)))) ≡ Some (TheLog x)
  log_here l x e = ap option_flatten (left_some (map (option_map TheLog) h.logs) (map (option_map TheCell) h.cells) l (Some (TheLog x)) (get_mapped (option_map TheLog) h.logs l (Some x) e))

  cell_here : (a : ℕ) (x : Cell Rest) → slice_get h.cells a ≡ Some (Some x) → part_at h (suc (suc (suc (suc (w.text.logs + a))))) ≡ Some (TheCell x)
  cell_here a x e =
      let logs = length-map h.logs (option_map TheLog) in
      ap option_flatten
      (get_behind (map (option_map TheLog) h.logs) (map (option_map TheCell) h.cells) a (w.text.logs + a) (omega (arith, logs, in_hand.logs)) ∙ get_mapped (option_map TheCell) h.cells a (Some x) e)

  log_stays : (l : ℕ) (y : Log) → slice_get s.logs l ≡ Some y → part t (suc (suc (suc (suc l)))) ≡ part s (suc (suc (suc (suc l)))) → slice_get t.logs l ≡ Some y
  log_stays l y e same =
      log_is t.logs (map CellPart t.cells) l y (omega (arith, slice_get_within s.logs l y e, in_s, in_t))
      (same ∙ left_some (map LogPart s.logs) (map CellPart s.cells) l (LogPart y) (get_mapped LogPart s.logs l y e))

  cell_stays : (a : ℕ) (x : Cell Rest) → slice_get s.cells a ≡ Some x → part t (suc (suc (suc (suc (w.text.logs + a))))) ≡ part s (suc (suc (suc (suc (w.text.logs + a))))) → slice_get t.cells a ≡ Some x
  cell_stays a x e same =
      let logs_s = length-map {B = Part Rest} s.logs LogPart in
      let logs_t = length-map {B = Part Rest} t.logs LogPart in
      cell_is t.cells a x
      (
      sym (get_behind (map LogPart t.logs) (map CellPart t.cells) a (w.text.logs + a) (omega (arith, logs_t, in_t)))
      ∙ (same ∙ (get_behind (map LogPart s.logs) (map CellPart s.cells) a (w.text.logs + a) (omega (arith, logs_s, in_s)) ∙ get_mapped CellPart s.cells a x e))
      )

  pub fits_on : Fits h s → Fits h t
  fits_on f = record {
    ring = λ x e. ring_is t s (same_part 0 (TheRing x) (ap (option_map TheRing) e)) ∙ f.ring x e;
    book = λ x e. subst (Shows x) (sym (book_is t s (same_part 1 (TheBook x) (ap (option_map TheBook) e)))) (f.book x e);
    post = λ x e. post_is t s (same_part 2 (ThePost x) (ap (option_map ThePost) e)) ∙ f.post x e;
    desk = λ x e. desk_is t s (same_part 3 (TheDesk x) (ap (option_map TheDesk) e)) ∙ f.desk x e;
    logs = λ l x e.
        let old = f.logs l x e in
        (old.0, (log_stays l old.0 old.1.0 (same_part (suc (suc (suc (suc l)))) (TheLog x) (log_here l x e)), old.1.1));
    cells = λ a x e. cell_stays a x (f.cells a x e) (same_part (suc (suc (suc (suc (w.text.logs + a))))) (TheCell x) (cell_here a x e));
  }

-- ---- an event on the one hand

has_logs : (w : Fixed Rest) (s : Machine Rest) → AfterEveryRun (HasLogs {C = Rest}) → HasRun w s → HasLogs w s
has_logs w s law run = subst (HasLogs w) (sym run.is_reached) (law w run.events run.text run.run)

pub both_after : (w : Fixed Rest) (e : Event) (few new rest : Parts) (s : Machine Rest)
    → AfterEveryRun (HasLogs {C = Rest})
    → ((v : Fixed Rest) (d : Event) (u : Machine Rest) → HasLogs v u → LeavesOthers v d u)
    → ((v : Fixed Rest) (d : Event) (u : Machine Rest) → HasRun v u → IsAllowed v d u → HasRun v (after v d u))
    → HasRun w s → Fits few s → Fits rest s → IsHandOf w rest → AreGone rest (footprint w.text.logs e) → StaysOrGoesOn w e few new → AreBoth w new rest
both_after w e few new rest s logs others on run in_few in_rest places gone goes = elim (goes s run in_few) [
  | inl same ↦ record { state = s; run = run; first = same; second = in_rest }
  | inr taken ↦ record {
    state = after w e s;
    run = on w e s run taken.0;
    first = taken.1;
    second =
        fits_on w rest s (after w e s) (footprint w.text.logs e) places (has_logs w s logs run) (has_logs w (after w e s) logs (on w e s run taken.0))
        (others w e s (has_logs w s logs run)) gone in_rest;
  }
]
