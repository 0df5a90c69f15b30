-- Parts that were taken out of a hand, changed and put back: the hand fits the state in which they changed so.
use Rattle.std.proofs.Common.{◌≡◌, ℕ, zero, suc, ◌≤◌, Option, Some, None, is_some, List, [], ◌∷◌, ◌++◌, length, map, slice_get, slice_set, refl, sym, ap, subst, ◌∙◌}
use Rattle.std.proofs.lemmas.List.{length-set}
use mathlib.Core.Logic.{dite}
use native.Mathlib.Decide.{ℕ_discrete}
use Rattle.aml_slice.specs.Controls.{Rest}
use Rattle.core_rows.specs.book_part.Halves.{Halves, Shows}
use Rattle.core_rows.specs.log_set.Shown.{ShowsLog}
use Rattle.core_rows.specs.log_set.Logs.{LogList}
use Rattle.protocol.specs.Fixed.{Fixed}
use Rattle.protocol.specs.Parts.{Ring, Book, Post, Desk, Log, Cell, Machine}
use Rattle.snap_hand.specs.Hands.{Parts, Fits, IsHandOf, are_there}
use Rattle.snap_hand.proofs.InLists.{set_other, set_same}

some_is : {X : Type 0} {x y : X} → Some x ≡ Some y → x ≡ y
some_is h = cc h

-- What shows in each place is so of the new list too, where it is so of what was put back, and the others stayed.
refit : {A B : Type 0} (P : A → Option B → Type 0) (xs : List (Option A)) (ys : List B) (i : ℕ) (new : A) (v : B)
    → ((j : ℕ) (x : A) → slice_get xs j ≡ Some (Some x) → P x (slice_get ys j))
    → P new (slice_get (slice_set ys i v) i)
    → (j : ℕ) (x : A) → slice_get (slice_set (slice_set xs i None) i (Some new)) j ≡ Some (Some x) → P x (slice_get (slice_set ys i v) j)
refit P xs ys i new v fits here j x there =
    dite
    (ℕ_discrete j i)
    (λ e. subst (λ k. P x (slice_get (slice_set ys i v) k)) (sym e)
    (subst (λ z. P z (slice_get (slice_set ys i v) i)) (some_is (set_same (slice_set xs i None) i (Some new) (Some x) (subst (λ k. slice_get (slice_set (slice_set xs i None) i (Some new)) k ≡ Some (Some x)) e there))) here))
    (λ n. subst (P x) (sym (set_other ys i j v n)) (fits j x (sym (set_other xs i j None n) ∙ (sym (set_other (slice_set xs i None) i j (Some new) n) ∙ there))))

module _ (h : Parts) (s : Machine Rest) (f : Fits h s) where
  pub ring_back : (x r : Ring) → r ≡ x → Fits (record h { ring = Some x }) (record s { ring = r })
  ring_back x r is = record { ring = λ y e. is ∙ some_is e; book = f.book; post = f.post; desk = f.desk; logs = f.logs; cells = f.cells }

  pub book_back : (x : Halves) (b : Book) → Shows x b → Fits (record h { book = Some x }) (record s { book = b })
  book_back x b is = record { ring = f.ring; book = λ y e. subst (λ z. Shows z b) (some_is e) is; post = f.post; desk = f.desk; logs = f.logs; cells = f.cells }

  pub post_back : (x p : Post Rest) → p ≡ x → Fits (record h { post = Some x }) (record s { post = p })
  post_back x p is = record { ring = f.ring; book = f.book; post = λ y e. is ∙ some_is e; desk = f.desk; logs = f.logs; cells = f.cells }

  pub desk_back : (x d : Desk) → d ≡ x → Fits (record h { desk = Some x }) (record s { desk = d })
  desk_back x d is = record { ring = f.ring; book = f.book; post = f.post; desk = λ y e. is ∙ some_is e; logs = f.logs; cells = f.cells }

  pub log_back : (l : ℕ) (x : LogList) (v : Log) → ((y : Log) × ((slice_get (slice_set s.logs l v) l ≡ Some y) × ShowsLog x y))
      → Fits (record h { logs = slice_set (slice_set h.logs l None) l (Some x) }) (record s { logs = slice_set s.logs l v })
  log_back l x v is = record {
    ring = f.ring;
    book = f.book;
    post = f.post;
    desk = f.desk;
    logs = refit (λ z o. (y : Log) × ((o ≡ Some y) × ShowsLog z y)) h.logs s.logs l x v f.logs is;
    cells = f.cells;
  }

  pub cell_back : (a : ℕ) (x v : Cell Rest) → slice_get (slice_set s.cells a v) a ≡ Some x
      → Fits (record h { cells = slice_set (slice_set h.cells a None) a (Some x) }) (record s { cells = slice_set s.cells a v })
  cell_back a x v is = record {
    ring = f.ring;
    book = f.book;
    post = f.post;
    desk = f.desk;
    logs = f.logs;
    cells = refit (λ z o. o ≡ Some z) h.cells s.cells a x v f.cells is;
  }

-- ---- the same part put back

pub same_back : {X : Type 0} (xs : List X) (i : ℕ) (x y : X) → slice_get xs i ≡ Some x → slice_set (slice_set xs i y) i x ≡ xs
same_back [] i x y h = refl
same_back (z ∷ xs) zero x y h = ap (λ u. u ∷ xs) (sym (cc h))
same_back (z ∷ xs) (suc i) x y h = ap (λ us. z ∷ us) (same_back xs i x y h)

-- ---- there are still places for all, and room in the book

module _ (w : Fixed Rest) (h : Parts) (i : IsHandOf w h) where
  pub hand_with_ring : (x : Option Ring) → IsHandOf w (record h { ring = x })
  hand_with_ring x = record { logs = i.logs; cells = i.cells; room = i.room }

  pub hand_with_post : (x : Option (Post Rest)) → IsHandOf w (record h { post = x })
  hand_with_post x = record { logs = i.logs; cells = i.cells; room = i.room }

  pub hand_with_desk : (x : Option Desk) → IsHandOf w (record h { desk = x })
  hand_with_desk x = record { logs = i.logs; cells = i.cells; room = i.room }

  pub hand_with_book : (old new : Halves) → h.book ≡ Some old → new.most ≡ old.most → IsHandOf w (record h { book = Some new })
  hand_with_book old new there same = record { logs = i.logs; cells = i.cells; room = λ x e. subst (λ n. length w.text.txs ≤ n) (sym same ∙ ap (λ z. z.most) (some_is e)) (i.room old there) }

  pub hand_with_log : (l : ℕ) (x : Option LogList) → IsHandOf w (record h { logs = slice_set (slice_set h.logs l None) l x })
  hand_with_log l x = record { logs = length-set (slice_set h.logs l None) l x ∙ (length-set h.logs l None ∙ i.logs); cells = i.cells; room = i.room }

  pub hand_with_cell : (a : ℕ) (x : Option (Cell Rest)) → IsHandOf w (record h { cells = slice_set (slice_set h.cells a None) a x })
  hand_with_cell a x = record { logs = i.logs; cells = length-set (slice_set h.cells a None) a x ∙ (length-set h.cells a None ∙ i.cells); room = i.room }

-- ---- the same parts are there

still_there : {X : Type 0} (xs : List (Option X)) (i : ℕ) (x y : X) → slice_get xs i ≡ Some (Some y) → map is_some (slice_set (slice_set xs i None) i (Some x)) ≡ map is_some xs
still_there [] i x y h = refl
still_there (z ∷ xs) zero x y h = ap (λ b. b ∷ map is_some xs) (sym (ap is_some (some_is h)))
still_there (z ∷ xs) (suc i) x y h = ap (λ bs. is_some z ∷ bs) (still_there xs i x y h)

module _ (h : Parts) where
  pub there_with_ring : (x y : Ring) → h.ring ≡ Some y → are_there (record h { ring = Some x }) ≡ are_there h
  there_with_ring x y there = ap (λ b. b ∷ is_some h.book ∷ is_some h.post ∷ is_some h.desk ∷ (map is_some h.logs ++ map is_some h.cells)) (sym (ap is_some there))

  pub there_with_book : (x y : Halves) → h.book ≡ Some y → are_there (record h { book = Some x }) ≡ are_there h
  there_with_book x y there = ap (λ b. is_some h.ring ∷ b ∷ is_some h.post ∷ is_some h.desk ∷ (map is_some h.logs ++ map is_some h.cells)) (sym (ap is_some there))

  pub there_with_post : (x y : Post Rest) → h.post ≡ Some y → are_there (record h { post = Some x }) ≡ are_there h
  there_with_post x y there = ap (λ b. is_some h.ring ∷ is_some h.book ∷ b ∷ is_some h.desk ∷ (map is_some h.logs ++ map is_some h.cells)) (sym (ap is_some there))

  pub there_with_desk : (x y : Desk) → h.desk ≡ Some y → are_there (record h { desk = Some x }) ≡ are_there h
  there_with_desk x y there = ap (λ b. is_some h.ring ∷ is_some h.book ∷ is_some h.post ∷ b ∷ (map is_some h.logs ++ map is_some h.cells)) (sym (ap is_some there))

  pub there_with_log : (l : ℕ) (x y : LogList) → slice_get h.logs l ≡ Some (Some y) → are_there (record h { logs = slice_set (slice_set h.logs l None) l (Some x) }) ≡ are_there h
  there_with_log l x y there = ap (λ bs. is_some h.ring ∷ is_some h.book ∷ is_some h.post ∷ is_some h.desk ∷ (bs ++ map is_some h.cells)) (still_there h.logs l x y there)

  pub there_with_cell : (a : ℕ) (x y : Cell Rest) → slice_get h.cells a ≡ Some (Some y) → are_there (record h { cells = slice_set (slice_set h.cells a None) a (Some x) }) ≡ are_there h
  there_with_cell a x y there = ap (λ bs. is_some h.ring ∷ is_some h.book ∷ is_some h.post ∷ is_some h.desk ∷ (map is_some h.logs ++ bs)) (still_there h.cells a x y there)
