-- A hand by the numbers of its parts: its places, and that it fits a state where each part is one of the state.
use Rattle.std.proofs.Common.{◌≡◌, ℕ, zero, suc, ◌+◌, ◌-◌, Bool, true, false, is_some, List, [], ◌∷◌, ◌++◌, length, map, slice_get, option_map, Option, None, Some, IsSome, ap, sym, subst, refl, ◌∙◌, arith, true≢false}
use Rattle.std.specs.List.{AllByRecursion}
use Rattle.std.specs.Option.{option_flatten}
use Rattle.std.proofs.lemmas.List.{length-append, length-map}
use Rattle.aml_slice.specs.Controls.{Rest}
use Rattle.crew_parts.specs.Crews.{Stands}
use Rattle.crew_parts.specs.Shares.{ShareState}
use Rattle.snap_hand.specs.log_set.Shown.{ShowsLog}
use Rattle.snap_hand.specs.log_set.Logs.{LogList}
use Rattle.protocol.specs.Fixed.{Fixed}
use Rattle.protocol.specs.Parts.{Cell, Log, Machine}
use Rattle.protocol.specs.Runs.{reached}
use Rattle.snap_hand.specs.Hands.{Parts, Fits, Has, IsHandOf, are_there}
use Rattle.snap_hand.specs.Shown.{Shown, TheRing, TheBook, ThePost, TheDesk, TheLog, TheCell, IsPartOf, part_at, places}
use Rattle.snap_hand.specs.Steps.{OnSomeRun}
use Rattle.turn_table.specs.Places.{at, Covers}
use Rattle.crew_grip.specs.Grips.{GripState, IsGripOf, part_count, part_in}
use Rattle.crew_grip.proofs.ByNumber.{flat_at, map_there}
use Rattle.turn_table.proofs.ByPlace.{some_of}

pub part_is : (h : Parts) (i : ℕ) → part_at h i ≡ at (places h) i
part_is h i = flat_at (places h) i

pub places_many : (w : Fixed Rest) (h : Parts) → IsHandOf w h → length (places h) ≡ part_count w
places_many w h of =
    let whole = length-append (map (option_map TheLog) h.logs) (map (option_map TheCell) h.cells) in
    let logs = length-map h.logs (option_map TheLog) in
    let cells = length-map h.cells (option_map TheCell) in
    omega (arith, whole, logs, cells, of.logs, of.cells)

log_there : (logs : List (Option LogList)) (more : List (Option Shown)) (l : ℕ) (x : LogList) → slice_get logs l ≡ Some (Some x) → slice_get (map (option_map TheLog) logs ++ more) l ≡ Some (Some (TheLog x))
log_there [] more l x e = absurd (cc e)
log_there (y ∷ ys) more zero x e = ap (option_map (option_map TheLog)) e
log_there (y ∷ ys) more (suc l) x e = log_there ys more l x e

cell_first : (cells : List (Option (Cell Rest))) (a : ℕ) (x : Cell Rest) → slice_get cells a ≡ Some (Some x) → slice_get (map (option_map TheCell) cells) a ≡ Some (Some (TheCell x))
cell_first [] a x e = absurd (cc e)
cell_first (y ∷ ys) zero x e = ap (option_map (option_map TheCell)) e
cell_first (y ∷ ys) (suc a) x e = cell_first ys a x e

cell_there : (logs : List (Option LogList)) (cells : List (Option (Cell Rest))) (a n : ℕ) (x : Cell Rest) → n ≡ length logs + a → slice_get cells a ≡ Some (Some x)
    → slice_get (map (option_map TheLog) logs ++ map (option_map TheCell) cells) n ≡ Some (Some (TheCell x))
cell_there [] cells a n x is e =
    let same : n ≡ a = omega (arith, is) in
    subst (λ k. slice_get (map (option_map TheCell) cells) k ≡ Some (Some (TheCell x))) (sym same) (cell_first cells a x e)
cell_there (y ∷ ys) cells a zero x is e = absurd (omega (arith, is))
cell_there (y ∷ ys) cells a (suc n) x is e = cell_there ys cells a n x (omega (arith, is)) e

behind_four : (l : ℕ) → suc (suc (suc (suc l))) - 4 ≡ l
behind_four l = omega arith

-- A hand fits a state where each of its parts is a part of the state.
pub hand_fits : (w : Fixed Rest) (h : Parts) (s : Machine Rest) → IsHandOf w h → ((i : ℕ) (p : Shown) → part_at h i ≡ Some p → IsPartOf w s i p) → Fits h s
hand_fits w h s of each = record {
  ring = λ x e. (each 0 (TheRing x) (ap (option_map TheRing) e)).1;
  book = λ x e. (each 1 (TheBook x) (ap (option_map TheBook) e)).1.0;
  post = λ x e. (each 2 (ThePost x) (ap (option_map ThePost) e)).1;
  desk = λ x e. (each 3 (TheDesk x) (ap (option_map TheDesk) e)).1;
  logs = λ l x e. subst (λ k. (y : Log) × ((slice_get s.logs k ≡ Some y) × ShowsLog x y)) (behind_four l)
      (each (suc (suc (suc (suc l)))) (TheLog x) (ap option_flatten (log_there h.logs (map (option_map TheCell) h.cells) l x e))).1;
  cells = λ a x e. (
      let n : ℕ = length h.logs + a in
      let is = each (suc (suc (suc (suc n)))) (TheCell x) (ap option_flatten (cell_there h.logs h.cells a n x refl e)) in
      let here : suc (suc (suc (suc n))) - (4 + w.text.logs) ≡ a = omega (arith, of.logs) in
      subst (λ k. slice_get s.cells k ≡ Some x) here is.1);
}

part_from : (o : Option ShareState) (p : Shown) → part_in o ≡ Some p → (x : ShareState) × ((o ≡ Some x) × (x.part ≡ p))
part_from None p e = absurd (cc e)
part_from (Some x) p e = (x, (refl, cc e))

-- the share that is held where the hand has a part
pub held_part : (w : Fixed Rest) (held : List (Option ShareState)) (g : GripState) (i : ℕ) (p : Shown) → IsGripOf w held g → part_at g.hand i ≡ Some p
    → (x : ShareState) × ((at held i ≡ Some x) × (x.part ≡ p))
held_part w held g i p grip e = part_from (at held i) p (sym (grip.parts i) ∙ e)

-- so the hand of who holds parts of a run fits the state of the run
pub stands_fit : (w : Fixed Rest) (start : List ShareState) (held : List (Option ShareState)) (g : GripState) → (st : Stands w start held) → IsGripOf w held g → Fits g.hand (reached w st.events)
stands_fit w start held g st grip = hand_fits w g.hand (reached w st.events) grip.places (λ i p e. (
    let x = held_part w held g i p grip e in
    subst (IsPartOf w (reached w st.events) i) x.1.1 (st.come.parts i x.0 (st.held i x.0 x.1.0))))

pub on_some_run : (w : Fixed Rest) (start : List ShareState) (held : List (Option ShareState)) (g : GripState) → Stands w start held → IsGripOf w held g → OnSomeRun w g.hand
on_some_run w start held g st grip = record { state = reached w st.events; run = st.lead; fits = stands_fit w start held g st grip }

-- what is held is at hand
pub has_held : (w : Fixed Rest) (held : List (Option ShareState)) (g : GripState) (i : ℕ) → ((h : Parts) → map is_some (places h) ≡ are_there h) → IsGripOf w held g → IsSome (at held i) → Has g.hand i
has_held w held g i told grip some e =
    let x = some_of (at held i) some in
    let there : at (places g.hand) i ≡ Some x.0.part = sym (part_is g.hand i) ∙ (grip.parts i ∙ ap part_in x.1) in
    let yes : slice_get (are_there g.hand) i ≡ Some true = ap (λ bs. slice_get bs i) (sym (told g.hand)) ∙ map_there (places g.hand) i x.0.part there in
    true≢false (some_bool true false (sym yes ∙ e)) where
      some_bool : (a b : Bool) → Some a ≡ Some b → a ≡ b
      some_bool a b q = cc q

pub has_all : (w : Fixed Rest) (held : List (Option ShareState)) (g : GripState) (is : List ℕ) → ((h : Parts) → map is_some (places h) ≡ are_there h) → IsGripOf w held g → Covers (at held) is
    → AllByRecursion (Has g.hand) is
has_all w held g [] told grip c = tt
has_all w held g (i ∷ is) told grip c = (has_held w held g i told grip c.0, has_all w held g is told grip c.1)
