-- The hand that a run begins with.
use Rattle.std.proofs.Common.{◌≡◌, ℕ, zero, suc, ◌≤◌, Bool, true, false, Option, Some, is_some, List, [], ◌∷◌, ◌++◌, length, map, replicate, slice_get, refl, sym, ap, subst, ◌∙◌, arith}
use Rattle.std.proofs.lemmas.List.{length-map, length-replicate}
use Rattle.snap_base.specs.declared.transactions.State.{State}
use Rattle.snap_base.proofs.Options.{is_same_some}
use Rattle.aml_slice.specs.Controls.{Rest}
use Rattle.core_rows.specs.book_part.Halves.{Halves, Shows}
use Rattle.core_rows.specs.log_set.Shown.{ShowsLog}
use Rattle.core_rows.specs.log_set.Logs.{LogList, no_records}
use Rattle.protocol.specs.Effects.{no_log}
use Rattle.protocol.specs.Fixed.{Fixed, base}
use Rattle.protocol.specs.Parts.{Ring, Post, Desk, Cell}
use Rattle.protocol.specs.Runs.{new_cell, opening, opening_book}
use Rattle.snap_hand.specs.Hands.{Parts, Fits, IsHandOf, IsWhole, are_there}
use Rattle.snap_hand.specs.Openings.{only_lists, opening_halves, opening_lists, with_opening_others, with_others}

-- ---- all are there

data AllTrue : List Bool → Type 0 where
  none : AllTrue []
  more : (bs : List Bool) → AllTrue bs → AllTrue (true ∷ bs)

true_at : (bs : List Bool) → AllTrue bs → (i : ℕ) → slice_get bs i ≡ Some false → ⊥
true_at [] none i e = absurd (cc e)
true_at (false ∷ bs) t i e = elim t [ ]
true_at (true ∷ bs) (more _ t) zero e = cc e
true_at (true ∷ bs) (more _ t) (suc i) e = true_at bs t i e

-- ---- lists of parts

made_at : {X : Type 0} (n : ℕ) (x y : X) (i : ℕ) → slice_get (replicate n x) i ≡ Some y → x ≡ y
made_at zero x y i e = absurd (cc e)
made_at (suc n) x y zero e = cc e
made_at (suc n) x y (suc i) e = made_at n x y i e

same_at : {X Y : Type 0} (n : ℕ) (x : X) (y z : Y) (i : ℕ) → slice_get (replicate n y) i ≡ Some z → slice_get (replicate n x) i ≡ Some x
same_at zero x y z i e = absurd (cc e)
same_at (suc n) x y z zero e = refl
same_at (suc n) x y z (suc i) e = same_at n x y z i e

mapped_at : {X Y : Type 0} (f : X → Y) (xs : List X) (i : ℕ) (y : Y) → slice_get (map (λ x. Some (f x)) xs) i ≡ Some (Some y) → slice_get (map f xs) i ≡ Some y
mapped_at f [] i y e = absurd (cc e)
mapped_at f (x ∷ xs) zero y e = cc e
mapped_at f (x ∷ xs) (suc i) y e = mapped_at f xs i y e

some_made : {X : Type 0} (n : ℕ) (x : X) → map is_some (replicate n (Some x)) ≡ replicate n true
some_made zero x = refl
some_made (suc n) x = ap (λ bs. true ∷ bs) (some_made n x)

all_made : (n : ℕ) (bs : List Bool) → AllTrue bs → AllTrue (replicate n true ++ bs)
all_made zero bs t = t
all_made (suc n) bs t = more _ (all_made n bs t)

all_mapped : {X Y : Type 0} (f : X → Y) (xs : List X) → AllTrue (map is_some (map (λ x. Some (f x)) xs))
all_mapped f [] = none
all_mapped f (x ∷ xs) = more _ (all_mapped f xs)

-- ---- the opening

abbrev pub opening_parts : Fixed Rest → Parts
opening_parts w = record {
  ring = Some (opening w).ring;
  book = Some (opening_halves w);
  post = Some (opening w).post;
  desk = Some (opening w).desk;
  logs = replicate w.text.logs (Some no_records);
  cells = map (λ s. Some (new_cell (base w.text) s)) w.text.opening.states;
}

no_log_shown : ShowsLog no_records no_log
no_log_shown = record { keys = refl; synced = refl; within = omega arith; waiting = refl }

pub opening_fits : (w : Fixed Rest) → Shows (opening_halves w) (opening_book w) → Fits (opening_parts w) (opening w)
opening_fits w shows = record {
  ring = λ x e. is_same_some e;
  book = λ x e. subst (λ h. Shows h (opening_book w)) (is_same_some e) shows;
  post = λ x e. is_same_some e;
  desk = λ x e. is_same_some e;
  logs = λ l x e. (no_log, (same_at w.text.logs no_log (Some no_records) (Some x) l e, subst (λ z. ShowsLog z no_log) (is_same_some (made_at w.text.logs (Some no_records) (Some x) l e)) no_log_shown));
  cells = λ a x e. mapped_at (new_cell (base w.text)) w.text.opening.states a x e;
}

pub opening_places : (w : Fixed Rest) → IsHandOf w (opening_parts w)
opening_places w = record {
  logs = length-replicate w.text.logs (Some no_records);
  cells = length-map w.text.opening.states (λ s. Some (new_cell {C = Rest} (base w.text) s));
  room = λ x e. subst (λ (h : Halves). length w.text.txs ≤ h.most) (is_same_some e) (omega arith);
}

pub opening_whole : (w : Fixed Rest) → IsWhole (opening_parts w)
opening_whole w i e =
    true_at (are_there (opening_parts w))
    (more _ (more _ (more _ (more _ (subst (λ bs. AllTrue (bs ++ map is_some (opening_parts w).cells)) (sym (some_made w.text.logs no_records)) (all_made w.text.logs _ (all_mapped (new_cell {C = Rest} (base w.text)) w.text.opening.states)))))))
    i e

-- ---- put together

pub lists_are : (w : Fixed Rest) (ls : List (Option LogList)) (cs : List (Option (Cell Rest))) → ls ≡ (opening_parts w).logs → cs ≡ (opening_parts w).cells
    → only_lists ls cs ≡ opening_lists w
lists_are w ls cs el ec = ap (λ z. only_lists z cs) el ∙ ap (only_lists (opening_parts w).logs) ec

pub others_are : (w : Fixed Rest) (h g1 g2 g3 g4 : Parts) (r : Ring) (b : Halves) (p : Post Rest) (d : Desk)
    → r ≡ (opening w).ring → b ≡ opening_halves w → p ≡ (opening w).post → d ≡ (opening w).desk
    → g1 ≡ record h { ring = Some r } → g2 ≡ record g1 { book = Some b } → g3 ≡ record g2 { post = Some p } → g4 ≡ record g3 { desk = Some d }
    → g4 ≡ with_opening_others w h
others_are w h g1 g2 g3 g4 r b p d er eb ep ed e1 e2 e3 e4 =
    e4
    ∙ (ap (λ (g : Parts). record g { desk = Some d }) (e3 ∙ ap (λ (g : Parts). record g { post = Some p }) (e2 ∙ ap (λ (g : Parts). record g { book = Some b }) e1))
    ∙ (ap (λ z. with_others z b p d h) er
    ∙ (ap (λ z. with_others (opening w).ring z p d h) eb
    ∙ (ap (λ z. with_others (opening w).ring (opening_halves w) z d h) ep
    ∙ ap (λ z. with_others (opening w).ring (opening_halves w) (opening w).post z h) ed))))

pub all_parts_are : (w : Fixed Rest) (h g : Parts) → h ≡ opening_lists w → g ≡ with_opening_others w h → g ≡ opening_parts w
all_parts_are w h g eh eg = eg ∙ ap (with_opening_others w) eh

pub cells_are : (w : Fixed Rest) (first : ℕ) (states : List State) (cs : List (Option (Cell Rest)))
    → cs ≡ map (λ s. Some (new_cell first s)) states → base w.text ≡ first → states ≡ w.text.opening.states → cs ≡ (opening_parts w).cells
cells_are w first states cs made from all =
    made ∙ (ap (λ n. map (λ s. Some (new_cell n s)) states) (sym from) ∙ ap (map (λ s. Some (new_cell (base w.text) s))) all)
