-- The parts that a hand has.
use Rattle.std.specs.List.{AllByRecursion}
use Rattle.std.proofs.Common.{◌≡◌, ℕ, zero, suc, ◌+◌, ◌<◌, nat_lt, get_or, option_map, true, false, Option, Some, None, is_some, List, [], ◌∷◌, ◌++◌, length, map, slice_get, refl, sym, ap, subst, ◌∙◌, arith}
use Rattle.std.proofs.lemmas.List.{length-map}
use Rattle.std.proofs.lemmas.Bool.{ltb-false, ltb-true}
use Rattle.std.proofs.lemmas.Option.{slice_get_past, slice_get_read}
use Rattle.snap_base.proofs.Options.{some_there, there_at}
use Rattle.snap_base.proofs.Lists.{get_left, get_behind}
use Rattle.aml_slice.specs.Controls.{Rest}
use Rattle.core_rows.specs.book_part.Halves.{Halves}
use Rattle.core_rows.specs.log_set.Logs.{LogList}
use Rattle.protocol.specs.Events.{log, cell}
use Rattle.protocol.specs.Parts.{Ring, Post, Desk, Cell}
use Rattle.snap_hand.specs.Hands.{Parts, Has, IsWhole}
use Rattle.snap_hand.proofs.InLists.{behind_four}

pub ring_there : (h : Parts) → Has h 0 → (x : Ring) × (h.ring ≡ Some x)
ring_there h f = some_there h.ring f

pub book_there : (h : Parts) → Has h 1 → (x : Halves) × (h.book ≡ Some x)
book_there h f = some_there h.book f

pub post_there : (h : Parts) → Has h 2 → (x : Post Rest) × (h.post ≡ Some x)
post_there h f = some_there h.post f

pub desk_there : (h : Parts) → Has h 3 → (x : Desk) × (h.desk ≡ Some x)
desk_there h f = some_there h.desk f

-- a log or a cell, by its place behind the four others
there_behind : (h : Parts) (i n : ℕ) → n ≡ 4 + i → Has h n → slice_get (map is_some h.logs ++ map is_some h.cells) i ≡ Some false → ⊥
there_behind h i n same f e = f (behind_four (is_some h.ring) (is_some h.book) (is_some h.post) (is_some h.desk) (map is_some h.logs ++ map is_some h.cells) i n same ∙ e)

pub log_there : (h : Parts) (l : ℕ) → Has h (log l) → l < length h.logs → (x : LogList) × (slice_get h.logs l ≡ Some (Some x))
log_there h l f within = there_at h.logs l within (λ e. there_behind h l (log l) refl f (get_left (map is_some h.logs) (map is_some h.cells) l (subst (λ n. l < n) (sym (length-map h.logs is_some)) within) ∙ e))

pub cell_there : (h : Parts) (logs a : ℕ) → length h.logs ≡ logs → Has h (cell logs a) → a < length h.cells → (x : Cell Rest) × (slice_get h.cells a ≡ Some (Some x))
cell_there h logs a same f within =
    there_at h.cells a within (λ e. there_behind h (logs + a) (cell logs a) (omega arith) f
    (get_behind (map is_some h.logs) (map is_some h.cells) a (logs + a) (ap (λ n. n + a) (sym same ∙ sym (length-map h.logs is_some))) ∙ e))

-- where all parts are at hand, some of them are
pub all_here : (h : Parts) → IsWhole h → (is : List ℕ) → AllByRecursion (Has h) is
all_here h whole [] = tt
all_here h whole (i ∷ is) = (whole i, all_here h whole is)

-- ---- whether a log or a cell is there, by what is kept

module _ {X Y : Type 0} (f : X → Y) where
  as_there : (o : Option X) → is_some (option_map f o) ≡ is_some o
  as_there None = refl
  as_there (Some x) = refl

  pub shown_at : (xs : List (Option X)) (i : ℕ) → slice_get (map is_some (map (option_map f) xs)) i ≡ option_map is_some (slice_get xs i)
  shown_at [] i = refl
  shown_at (o ∷ xs) zero = ap Some (as_there o)
  shown_at (o ∷ xs) (suc i) = shown_at xs i

  pub shown_read : (xs : List (Option X)) (i : ℕ) (o : Option X) → i < length (map (option_map f) xs) → o ≡ get_or xs i o → slice_get (map is_some (map (option_map f) xs)) i ≡ Some (is_some o)
  shown_read xs i o within is =
      shown_at xs i ∙ ap (option_map is_some) (slice_get_read xs (length xs) i o refl (subst (λ n. i < n) (length-map xs (option_map f)) within) is)

  -- the same of what `get` told
  pub shown_some : (xs ys : List (Option X)) (i : ℕ) (o : Option X) → ys ≡ xs → true ≡ nat_lt i (length ys) → o ≡ get_or ys i o → slice_get (map is_some (map (option_map f) xs)) i ≡ Some (is_some o)
  shown_some xs ys i o same within is =
      shown_at xs i ∙ ap (option_map is_some) (ap (λ zs. slice_get zs i) (sym same) ∙ slice_get_read ys (length ys) i o refl (ltb-true i (length ys) (sym within)) is)

  pub shown_none : (xs ys : List (Option X)) (i : ℕ) → ys ≡ xs → false ≡ nat_lt i (length ys) → slice_get (map is_some (map (option_map f) xs)) i ≡ None
  shown_none xs ys i same past =
      shown_at xs i ∙ ap (option_map is_some) (ap (λ zs. slice_get zs i) (sym same) ∙ slice_get_past ys i (ltb-false i (length ys) (sym past)))
