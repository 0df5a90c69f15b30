-- What a step has to show so that the rule stays.
use Rattle.std.proofs.Common.{◌≡◌, ◌≢◌, ℕ, zero, suc, ◌+◌, ◌<◌, List, [], ◌∷◌, length, set, Option, Some, None, slice_get, slice_index, ap, sym, subst, refl, ◌∙◌, ⊎_elim, get_or-set_other, arith}
use Rattle.std.proofs.lemmas.Grind.{get_or-set_at}
use mathlib.Core.Option as maybe
use lib.ListN.{get_elem?}
use Rattle.atomic_table.specs.Table.{State, Me}
use Rattle.atomic_table.proofs.Lists.{at_set}
use Rattle.turn_table.specs.declared.views.View.{View}
use Rattle.turn_table.specs.Places.{at, one, times, once_below}
use Rattle.turn_table.specs.Runs.{Run}
use Rattle.turn_table.specs.Rule.{HoldsApart, Kept, Knows}
use Rattle.turn_table.proofs.ByPlace.{some_is_one}
use Rattle.turn_table.proofs.Sums.{total_set, total_one, total_two}

module _ {P E : Type 0} where
  -- a seat with no slot out, and with one
  abbrev pub none_out : View P E → Me (Option P) (View P E)
  none_out v = (v, [])

  abbrev pub one_out : View P E → ℕ → Option P → Me (Option P) (View P E)
  one_out v i x = (v, (i, x) ∷ [])

pub same_part : (a b : ℕ) → suc a ≡ suc b → a ≡ b
same_part a b h = omega arith

-- the words after a step on word i + 1
pub word_here : (ws : List ℕ) (i j n : ℕ) → j ≡ i → suc i < length ws → slice_index (set ws (suc i) n) (suc j) ≡ n
word_here ws i j n e h = get_or-set_at ws (suc i) (suc j) n 0 (ap suc e) h

pub word_else : (ws : List ℕ) (i j n : ℕ) → j ≢ i → slice_index (set ws (suc i) n) (suc j) ≡ slice_index ws (suc j)
word_else ws i j n ne = get_or-set_other ws (suc i) (suc j) n 0 (λ e. ne (omega arith))

pub word_first : (ws : List ℕ) (i n : ℕ) → slice_index (set ws (suc i) n) 0 ≡ slice_index ws 0
word_first ws i n = get_or-set_other ws (suc i) 0 n 0 (λ e. absurd (omega arith))

-- a load leaves each word
pub word_again : (ws : List ℕ) (i j : ℕ) → slice_index (set ws i (slice_index ws i)) j ≡ slice_index ws j
word_again [] i j = refl
word_again (w ∷ ws) zero zero = refl
word_again (w ∷ ws) zero (suc j) = refl
word_again (w ∷ ws) (suc i) zero = refl
word_again (w ∷ ws) (suc i) (suc j) = word_again ws i j

pub within : {V : Type 0} (l : List V) (i : ℕ) (v : V) → get_elem? l i ≡ maybe.some v → i < length l
within [] i v e = absurd (maybe.some-ne-none v (sym e))
within (x ∷ xs) zero v e = omega arith
within (x ∷ xs) (suc i) v e = let h = within xs i v e in omega arith

module _ {P E : Type 0} where
  -- where only slots changed, and each slot that the view counts on is still at home
  pub rehomed : (parts : List P) (history : List E) (homes others : List (maybe.Option (Option P))) (n : ℕ) (u : View P E)
      → Knows parts history homes n u
      → ((i : ℕ) (q : P) → at u.held i ≡ Some q → get_elem? homes i ≡ maybe.some (maybe.some None) → get_elem? others i ≡ maybe.some (maybe.some None))
      → Knows parts history others n u
  rehomed parts history homes others n u k h = record {
    held = λ i q e. ((k.held i q e).0, (k.held i q e).1, λ ne. h i q e ((k.held i q e).2 ne));
    stand = k.stand;
    bound = k.bound;
    since = k.since;
    live = k.live;
  }

module _ {P E : Type 0} (footprint : E → List ℕ) (happens : E → List P → List P → Type 0) (start : List P) where
  -- no two views hold one turn
  pub apart : (s : State (Option P) (View P E)) → Kept footprint happens start s → (j l : ℕ) (u v : View P E)
      → get_elem? s.views j ≡ maybe.some u → get_elem? s.views l ≡ maybe.some v → j ≢ l → (i : ℕ) (p q : P) → at v.held i ≡ Some p → at u.held i ≡ Some q → ⊥
  apart s k j l u v d e n i p q h g =
      let range : i < length start = ((k.each l v e).held i p h).0 in
      let t = total_two (λ (w : View P E). one (at w.held i)) s.views j l u v d e n in
      let w = k.turn i range in
      let b = k.binary i range in
      let o = some_is_one (at v.held i) p h in
      let m = some_is_one (at u.held i) q g in
      omega arith

  -- the word of a held turn is 1
  pub busy : (s : State (Option P) (View P E)) → Kept footprint happens start s → (j : ℕ) (v : View P E)
      → get_elem? s.views j ≡ maybe.some v → (i : ℕ) (p : P) → at v.held i ≡ Some p → slice_index s.words (suc i) ≡ 1
  busy s k j v e i p h =
      let range : i < length start = ((k.each j v e).held i p h).0 in
      let t = total_one (λ (w : View P E). one (at w.held i)) s.views j v e in
      let w = k.turn i range in
      let b = k.binary i range in
      let o = some_is_one (at v.held i) p h in
      omega arith

  -- nobody holds a turn whose word is 0
  pub untaken : (s : State (Option P) (View P E)) → Kept footprint happens start s → (j : ℕ) (v : View P E)
      → get_elem? s.views j ≡ maybe.some v → (i : ℕ) → i < length start → slice_index s.words (suc i) ≡ 0 → one (at v.held i) ≡ 0
  untaken s k j v e i range z =
      let t = total_one (λ (w : View P E). one (at w.held i)) s.views j v e in
      let w = k.turn i range in
      omega arith

  -- the view v became w
  pub change : (s : State (Option P) (View P E)) (k : Kept footprint happens start s) (id : ℕ) (v w : View P E)
      → get_elem? s.views id ≡ maybe.some v
      → (words : List ℕ) (homes : List (maybe.Option (Option P))) (history : List E) (parts : List P)
      → Run footprint happens start history parts
      → length words ≡ length s.words
      → length homes ≡ length s.homes
      → length parts ≡ length start
      → slice_index words 0 ≡ length history
      → ((x : ℕ) → times x w.entries + once_below x (length k.history) ≡ times x v.entries + once_below x (length history))
      → length w.entries + length k.history ≡ length v.entries + length history
      → w.weight + w.splits ≡ v.weight + v.splits
      → ((i : ℕ) → i < length start → one (at w.held i) + slice_index s.words (suc i) ≡ one (at v.held i) + slice_index words (suc i))
      → ((i : ℕ) → i < length start → slice_index words (suc i) < 2)
      → ((i : ℕ) → i < length start → slice_index words (suc i) ≡ 0 → (p : P) × (slice_get parts i ≡ Some p) × (get_elem? homes i ≡ maybe.some (maybe.some (Some p))))
      → Knows parts history homes (length start) w
      → ((j : ℕ) (u : View P E) → j ≢ id → get_elem? s.views j ≡ maybe.some u → Knows parts history homes (length start) u)
      → ((j : ℕ) (u : View P E) → j ≢ id → get_elem? s.views j ≡ maybe.some u → HoldsApart footprint w u)
      → ((j : ℕ) (u : View P E) → j ≢ id → get_elem? s.views j ≡ maybe.some u → HoldsApart footprint u w)
      → Kept footprint happens start record { words = words; homes = homes; views = set s.views id w }
  change s k id v w here words homes history parts run wide deep sized count numbers many weights turn binary free mine others from_others from_it = record {
    history = history;
    parts = parts;
    run = run;
    wide = wide ∙ k.wide;
    deep = deep ∙ k.deep;
    sized = sized;
    count = count;
    numbers = λ x. (let t = total_set (λ (u : View P E). times x u.entries) s.views id v w here in let q = numbers x in let b = k.numbers x in omega arith);
    many = (let t = total_set (λ (u : View P E). length u.entries) s.views id v w here in let b = k.many in omega arith);
    weights = (let t = total_set (λ (u : View P E). u.weight + u.splits) s.views id v w here in let b = k.weights in omega arith);
    turn = λ i h. (let t = total_set (λ (u : View P E). one (at u.held i)) s.views id v w here in let q = turn i h in let b = k.turn i h in omega arith);
    binary = binary;
    free = free;
    alone = λ j l x y there yonder ne. ⊎_elim
        (λ t. ⊎_elim
        (λ u. absurd (ne (t.0 ∙ sym u.0)))
        (λ u. subst (λ (z : View P E). HoldsApart footprint z y) t.1 (from_others l y u.0 u.1))
        (at_set s.views id l w y yonder))
        (λ t. ⊎_elim
        (λ u. subst (λ (z : View P E). HoldsApart footprint x z) u.1 (from_it j x t.0 t.1))
        (λ u. k.alone j l x y t.1 u.1 ne)
        (at_set s.views id l w y yonder))
        (at_set s.views id j w x there);
    each = λ j u e. ⊎_elim (λ t. subst (λ (x : View P E). Knows parts history homes (length start) x) t.1 mine) (λ t. others j u t.0 t.1) (at_set s.views id j w u e);
  }
