-- Rows of the book, and the ACTs that are seen in them.
use Rattle.std.proofs.Common.{◌≡◌, ℕ, zero, suc, ◌+◌, ◌<◌, ◌≤◌, refl, ap, ◌∙◌, arith, length, get_or, set, map, List, [], ◌∷◌}
use Rattle.std.specs.Prelude.{Option, None}
use Rattle.std.specs.List.{AllByRecursion}
use Rattle.std.proofs.lemmas.Bool.{cond-false, ne_eqb}
use Rattle.protocol.specs.Parts.{Act}
use Rattle.order_book.specs.Kept.{Kept, seen, without_after, forgotten, IsUnder}
use Rattle.order_book.specs.Changes.{changed_at}

-- a change of a row is a change of the ACT that is seen there
pub changed_row : (e at : ℕ) (f : Act → Act) (rows : List Kept) (y d : Kept) → at < length rows → seen e y ≡ f (seen e (get_or rows at d)) → map (seen e) (set rows at y) ≡ changed_at at f (map (seen e) rows)
changed_row e at f [] y d lt h = refl
changed_row e zero f (x ∷ xs) y d lt h = ap (λ (z : Act). z ∷ map (seen e) xs) h
changed_row e (suc at) f (x ∷ xs) y d lt h = ap (λ (zs : List Act). seen e x ∷ zs) (changed_row e at f xs y d (omega arith) h)

pub changed_past : (at : ℕ) (f : Act → Act) (xs : List Act) → length xs ≤ at → changed_at at f xs ≡ xs
changed_past at f [] le = refl
changed_past zero f (x ∷ xs) le = absurd (omega arith)
changed_past (suc at) f (x ∷ xs) le = ap (λ (zs : List Act). x ∷ zs) (changed_past at f xs (omega arith))

pub under_at : (e at : ℕ) (rows : List Kept) (d : Kept) → AllByRecursion (IsUnder e) rows → at < length rows → IsUnder e (get_or rows at d)
under_at e at [] d all lt = absurd (omega arith)
under_at e zero (x ∷ xs) d all lt = all.0
under_at e (suc at) (x ∷ xs) d all lt = under_at e at xs d all.1 (omega arith)

pub under_set : (e at : ℕ) (rows : List Kept) (y : Kept) → AllByRecursion (IsUnder e) rows → IsUnder e y → AllByRecursion (IsUnder e) (set rows at y)
under_set e at [] y all h = all
under_set e zero (x ∷ xs) y all h = (h, all.1)
under_set e (suc at) (x ∷ xs) y all h = (all.0, under_set e at xs y all.1 h)

-- one more cascade forgets all after numbers
seen_one_later : (e : ℕ) (x : Kept) → IsUnder e x → seen (e + 1) x ≡ forgotten (seen e x)
seen_one_later e x h = ap (λ (o : Option ℕ). record x.act { n = o }) (cond-false _ x.act.n None (ne_eqb x.under (e + 1) (λ (same : x.under ≡ e + 1). omega (arith, h, same))))

pub seen_later : (e : ℕ) (rows : List Kept) → AllByRecursion (IsUnder e) rows → map (seen (e + 1)) rows ≡ map forgotten (map (seen e) rows)
seen_later e [] all = refl
seen_later e (x ∷ xs) all = ap (λ (z : Act). z ∷ map (seen (e + 1)) xs) (seen_one_later e x all.0) ∙ ap (λ (zs : List Act). forgotten (seen e x) ∷ zs) (seen_later e xs all.1)

pub under_later : (e : ℕ) (rows : List Kept) → AllByRecursion (IsUnder e) rows → AllByRecursion (IsUnder (e + 1)) rows
under_later e [] all = all
under_later e (x ∷ xs) all = (omega (arith, all.0), under_later e xs all.1)

-- rows that are cut show no after number
pub seen_cut : (e : ℕ) (rows : List Kept) → map (seen 0) (map without_after rows) ≡ map forgotten (map (seen e) rows)
seen_cut e [] = refl
seen_cut e (x ∷ xs) = ap (λ (zs : List Act). forgotten (seen e x) ∷ zs) (seen_cut e xs)

pub under_cut : (rows : List Kept) → AllByRecursion (IsUnder 0) (map without_after rows)
under_cut [] = tt
under_cut (x ∷ xs) = (omega arith, under_cut xs)
