-- What a call's steps come to, one after the other.
use Rattle.std.proofs.lemmas.List.{reverse-append}
use Rattle.std.proofs.Common.{◌≡◌, ℕ, zero, suc, ◌+◌, Bool, true, false, if◌then◌else◌, List, [], ◌∷◌, ◌++◌, map, reverse, length, take, set, get_or, append_assoc, add-one, arith, Option, Some, IfSome, IfNone, ap, sym, subst, refl, ◌∙◌}
use mathlib.Core.Option as maybe
use lib.ListN.{get_elem?}
use Rattle.atomic_table.specs.Table.{Me, rest}
use Rattle.turn_table.specs.declared.views.View.{View}
use Rattle.turn_table.specs.Places.{at}
use Rattle.turn_table.specs.Views.{handed, gained, lost}
use Rattle.turn_table.proofs.ByPlace.{put_here}
use Rattle.turn_table.proofs.Changes.{none_out}

module _ {S : Type 0} where
  abbrev value_in : List (ℕ × S) → S → S
  value_in [] d = d
  value_in (a ∷ l) d = a.1

  same_value : (i : ℕ) (l : List (ℕ × S)) (x y : S) → (i, x) ∷ [] ≡ (i, y) ∷ l → x ≡ y
  same_value i l x y h = ap (λ (m : List (ℕ × S)). value_in m x) h

module _ {S V : Type 0} where
  -- the one slot that is out is the first
  pub out_first : (me : Me S V) (w : V) (i : ℕ) (x : S) → me ≡ (w, (i, x) ∷ []) → me.1 ≡ (i, x) ∷ rest me.1
  out_first me w i x e = subst (λ (m : Me S V). m.1 ≡ (i, x) ∷ rest m.1) (sym e) refl

  -- what a slot is exchanged for is what it held
  pub out_value : (me : Me S V) (w : V) (i : ℕ) (x y : S) → me ≡ (w, (i, x) ∷ []) → me.1 ≡ (i, y) ∷ rest me.1 → x ≡ y
  out_value me w i x y e q = same_value i (rest me.1) x y (sym (ap (λ (m : Me S V). m.1) e) ∙ q)

  -- the slot after an exchange
  pub out_after : (me new : Me S V) (w : V) (i : ℕ) (x y : S) → me ≡ (w, (i, x) ∷ []) → new ≡ (me.0, (i, y) ∷ rest me.1) → new ≡ (w, (i, y) ∷ [])
  out_after me new w i x y e q = q ∙ ap (λ (m : Me S V). (m.0, (i, y) ∷ rest m.1)) e

  pub view_of : (me : Me S V) (w : V) (l : List (ℕ × S)) → me ≡ (w, l) → me.0 ≡ w
  view_of me w l e = ap (λ (m : Me S V). m.0) e

  pub slots_out : (me : Me S V) (w : V) (l : List (ℕ × S)) → me ≡ (w, l) → me.1 ≡ l
  slots_out me w l e = ap (λ (m : Me S V). m.1) e

module _ {P E : Type 0} where
  -- laid down, the view is as if no slot had been out
  pub laid : (u : View P E) (h : ℕ) (me new : Me (Option P) (View P E)) (l : List (ℕ × Option P)) → u.hand ≡ 0 → me ≡ (handed u h, l) → new ≡ (handed me.0 0, []) → new ≡ (u, [])
  laid u h me new l rest e q =
      q ∙ ap (λ (m : Me (Option P) (View P E)). none_out (handed m.0 0)) e ∙ ap (λ (n : ℕ). none_out (handed u n)) (sym rest)

  pub left : (v : View P E) (part h : ℕ) (me new : Me (Option P) (View P E)) (l : List (ℕ × Option P)) → v.hand ≡ 0 → me ≡ (handed v h, l) → new ≡ (handed (lost me.0 part) 0, []) → new ≡ (lost v part, [])
  left v part h me new l rest e q =
      q ∙ ap (λ (m : Me (Option P) (View P E)). none_out (handed (lost m.0 part) 0)) e ∙ ap (λ (n : ℕ). none_out (handed (lost v part) n)) (sym rest)

  pub holds_it : (v u : View P E) (part h n : ℕ) (p : P) → u ≡ handed (gained v part p n) h → at u.held part ≡ Some p
  holds_it v u part h n p e = ap (λ (w : View P E). at w.held part) e ∙ put_here v.held part (Some p)

  pub still_holds : (v u : View P E) (part h : ℕ) (p : P) → u ≡ handed v h → at v.held part ≡ Some p → at u.held part ≡ Some p
  still_holds v u part h p e q = ap (λ (w : View P E). at w.held part) e ∙ q

  pub has_out : (v u : View P E) (h : ℕ) → u ≡ handed v h → u.hand ≡ h
  has_out v u h e = ap (λ (w : View P E). w.hand) e

module _ {P : Type 0} where
  pub if_some : (o : Option P) (p : P) (F : P → Type 0) → Some p ≡ o → F p → IfSome o F
  if_some o p F e f = subst (λ (x : Option P). IfSome x F) e f

  pub if_none : (o : Option P) (p : P) (F : Type 0) → Some p ≡ o → IfNone o F
  if_none o p F e = subst (λ (x : Option P). IfNone x F) e tt

  -- of slots that are all full, the last one
  pub last_full : (ys : List (Option P)) (o : Option P) (ps : List P) → map Some ps ≡ ys ++ o ∷ [] → (qs : List P) × (q : P) × (ys ≡ map Some qs) × (o ≡ Some q)
  last_full [] o [] e = absurd (cc)
  last_full [] o (p ∷ ps) e = ([], p, refl, cc)
  last_full (y ∷ ys) o [] e = absurd (cc)
  last_full (y ∷ ys) o (p ∷ ps) e =
      let h : y ≡ Some p = cc in
      let t : map Some ps ≡ ys ++ o ∷ [] = cc in
      let r = last_full ys o ps t in
      (p ∷ r.0, r.1, (λ i. h i ∷ r.2 i), r.3)

module _ {P : Type 0} where
  pub some_map : (xs ys : List P) → map Some xs ≡ map Some ys → xs ≡ ys
  some_map [] [] e = refl
  some_map [] (y ∷ ys) e = absurd (cc)
  some_map (x ∷ xs) [] e = absurd (cc)
  some_map (x ∷ xs) (y ∷ ys) e =
      let h : x ≡ y = cc in
      let t : map Some xs ≡ map Some ys = cc in
      let r = some_map xs ys t in
      λ i. h i ∷ r i

  map_snoc : (xs : List P) (p : P) → map Some (xs ++ p ∷ []) ≡ map Some xs ++ Some p ∷ []
  map_snoc [] p = refl
  map_snoc (x ∷ xs) p = ap (λ (l : List (Option P)). Some x ∷ l) (map_snoc xs p)

  map_reverse : (xs : List P) → map Some (reverse xs) ≡ reverse (map Some xs)
  map_reverse [] = refl
  map_reverse (x ∷ xs) =
      ap (map Some) (reverse-append (x ∷ []) xs) ∙ map_snoc (reverse xs) x ∙ ap (λ (l : List (Option P)). l ++ Some x ∷ []) (map_reverse xs)
      ∙ sym (reverse-append (Some x ∷ []) (map Some xs))

  -- one more slot was emptied
  pub moved_back : (whole old left : List (Option P)) (xs : List P) (p : P) → whole ≡ old ++ reverse (map Some xs) → old ≡ left ++ Some p ∷ [] → whole ≡ left ++ reverse (map Some (xs ++ p ∷ []))
  moved_back whole old left xs p e q =
      let a : reverse (map Some (xs ++ p ∷ [])) ≡ Some p ∷ reverse (map Some xs) = ap reverse (map_snoc xs p) ∙ reverse-append (map Some xs) (Some p ∷ []) in
      e ∙ ap (λ (l : List (Option P)). l ++ reverse (map Some xs)) q ∙ append_assoc left (Some p ∷ []) (reverse (map Some xs)) ∙ ap (λ (l : List (Option P)). left ++ l) (sym a)

  -- all of them were
  pub restored : (whole left : List (Option P)) (xs ys ps : List P) → whole ≡ left ++ reverse (map Some xs) → length left ≡ 0 → ys ≡ reverse xs → whole ≡ map Some ps → ys ≡ ps
  restored whole [] xs ys ps e l r w = some_map ys ps (ap (map Some) r ∙ map_reverse xs ∙ sym e ∙ w)
  restored whole (o ∷ left) xs ys ps e l r w = absurd (omega arith)

  there : (ps : List P) (i : ℕ) (o : Option P) → get_elem? (map Some ps) i ≡ maybe.some o → (q : P) × (o ≡ Some q)
  there [] i o e = absurd (maybe.some-ne-none o (sym e))
  there (p ∷ ps) zero o e = (p, sym (maybe.some-injective (Some p) o e))
  there (p ∷ ps) (suc i) o e = there ps i o e

  -- a slot of a list that is full
  pub full_slot : (xs : List (Option P)) (ps : List P) (i : ℕ) (o : Option P) → xs ≡ map Some ps → get_elem? xs i ≡ maybe.some o → (q : P) × (o ≡ Some q)
  full_slot xs ps i o e q = there ps i o (ap (λ (l : List (Option P)). get_elem? l i) (sym e) ∙ q)

  -- one more element is taken
  take_next : (xs : List (Option P)) (i : ℕ) (o : Option P) → get_elem? xs i ≡ maybe.some o → take i xs ++ o ∷ [] ≡ take (suc i) xs
  take_next [] i o e = absurd (maybe.some-ne-none o (sym e))
  take_next (x ∷ xs) zero o e = λ k. maybe.some-injective o x (sym e) k ∷ []
  take_next (x ∷ xs) (suc i) o e = ap (λ (l : List (Option P)). x ∷ l) (take_next xs i o e)

  pub moved_out : (xs : List (Option P)) (i : ℕ) (ps new : List P) (o : Option P) (p : P) → get_elem? xs i ≡ maybe.some o → o ≡ Some p → map Some ps ≡ take i xs → new ≡ ps ++ p ∷ [] → map Some new ≡ take (i + 1) xs
  moved_out xs i ps new o p e s t n =
      ap (map Some) n ∙ map_snoc ps p ∙ ap (λ (l : List (Option P)). l ++ Some p ∷ []) t ∙ take_next xs i (Some p) (e ∙ ap (λ (u : Option P). maybe.some u) s) ∙ ap (λ (n : ℕ). take n xs) (sym (add-one i))

-- what was taken out is there no more, whatever the list's length
pub set_false : (fs : List Bool) (i : ℕ) → get_or (set fs i false) i false ≡ false
set_false [] i = refl
set_false (f ∷ fs) zero = refl
set_false (f ∷ fs) (suc i) = set_false fs i

-- what an append leaves where there is room
pub appended : {A : Type 0} (b : Bool) (new old more : List A) → b ≡ true → new ≡ (if b then old ++ more else old) → new ≡ old ++ more
appended b new old more t e = e ∙ ap (λ (c : Bool). if c then old ++ more else old) t
