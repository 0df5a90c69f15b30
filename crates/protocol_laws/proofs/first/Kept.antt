-- What a change of one element, or of each, leaves of a list.
use Rattle.std.specs.Prelude.{◌≡◌, refl, ℕ, suc, zero, Bool, true, false, List, [], ◌∷◌, map, slice_index_or, slice_set}
use Rattle.protocol.specs.Parts.{Joined, Act, Pair, Declared, Batch, Log, Entry, Cell, Machine}
use Rattle.protocol.specs.Effects.{cell_at, log_at, puts, no_cell, no_log}
use Rattle.protocol.specs.Spread.{raised}
use Rattle.protocol.specs.OnBook as book
use Rattle.protocol.specs.OnDesk as desk
use Rattle.protocol.specs.OnCell as cell

-- ---- lists

pub map_kept : {X Y : Type 0} (g : X → Y) (f : X → X) (xs : List X) → ((x : X) → g (f x) ≡ g x) → map g (map f xs) ≡ map g xs
map_kept g f [] h = refl
map_kept g f (x ∷ xs) h = rw (h x, map_kept g f xs h) refl

pub map_set_kept : {X Y : Type 0} (g : X → Y) (xs : List X) (i : ℕ) (d y : X) → g y ≡ g (slice_index_or xs i d) → map g (slice_set xs i y) ≡ map g xs
map_set_kept g [] i d y h = refl
map_set_kept g (x ∷ xs) zero d y h = rw h refl
map_set_kept g (x ∷ xs) (suc i) d y h = rw (map_set_kept g xs i d y h) refl

-- ---- cells and logs

pub cells_kept : {C X : Type 0} (g : Cell C → X) (s : Machine C) (a : ℕ) (c : Cell C) → g c ≡ g (cell_at s a) → map g (puts s a c) ≡ map g s.cells
cells_kept g s a c h = map_set_kept g s.cells a no_cell c h

pub logs_kept : {C X : Type 0} (g : Log → X) (s : Machine C) (l : ℕ) (x : Log) → g x ≡ g (log_at s l) → map g (slice_set s.logs l x) ≡ map g s.logs
logs_kept g s l x h = map_set_kept g s.logs l no_log x h

-- ---- ACTs

pub act_if_kept : {X : Type 0} (g : Act → X) (b : Bool) (f : Act → Act) (x : Act) → g (f x) ≡ g x → g (book.change_if b f x) ≡ g x
act_if_kept g true f x h = h
act_if_kept g false f x h = refl

pub changed_act_kept : {X : Type 0} (g : Act → X) (t : ℕ) (f : Act → Act) (xs : List Act) → ((x : Act) → g (f x) ≡ g x) → map g (book.changed_act t f xs) ≡ map g xs
changed_act_kept g t f xs h = map_kept g _ xs (λ x. act_if_kept g _ f x (h x))

pub joined_if_kept : {X : Type 0} (g : Joined → X) (b : Bool) (f : Joined → Joined) (p : Joined) → g (f p) ≡ g p → g (book.mark_if b f p) ≡ g p
joined_if_kept g true f p h = h
joined_if_kept g false f p h = refl

-- the marks on an ACT's places that a change leaves
pub marked_kept : {X : Type 0} (g : Joined → X) (a : ℕ) (f : Joined → Joined) (x : Act) → ((p : Joined) → g (f p) ≡ g p) → map g (book.marked a f x).places ≡ map g x.places
marked_kept g a f x h = map_kept g _ x.places (λ p. joined_if_kept g _ f p (h p))

pub raised_kept : {X : Type 0} (g : Act → X) (pairs : List Pair) (xs : List Act) → ((x : Act) (m : ℕ) → g (record x { m = m }) ≡ g x) → map g (raised pairs xs) ≡ map g xs
raised_kept g pairs [] h = refl
raised_kept g pairs (x ∷ xs) h = rw (h x _, raised_kept g pairs xs h) refl

-- ---- batches

pub batch_if_kept : {X : Type 0} (g : Batch → X) (b : Bool) (f : Batch → Batch) (x : Batch) → g (f x) ≡ g x → g (desk.change_if b f x) ≡ g x
batch_if_kept g true f x h = h
batch_if_kept g false f x h = refl

pub changed_batch_kept : {X : Type 0} (g : Batch → X) (k : ℕ) (f : Batch → Batch) (xs : List Batch) → ((x : Batch) → g (f x) ≡ g x) → map g (desk.changed_batch k f xs) ≡ map g xs
changed_batch_kept g k f xs h = map_kept g _ xs (λ x. batch_if_kept g _ f x (h x))

pub declared_if_kept : {X : Type 0} (g : Declared → X) (b : Bool) (f : Declared → Declared) (p : Declared) → g (f p) ≡ g p → g (desk.mark_if b f p) ≡ g p
declared_if_kept g true f p h = h
declared_if_kept g false f p h = refl

pub batch_marked_kept : {X : Type 0} (g : Declared → X) (a : ℕ) (f : Declared → Declared) (b : Batch) → ((p : Declared) → g (f p) ≡ g p) → map g (desk.marked a f b).places ≡ map g b.places
batch_marked_kept g a f b h = map_kept g _ b.places (λ p. declared_if_kept g _ f p (h p))

-- ---- entries

pub done_in_kept : {X : Type 0} (g : Entry → X) (t : ℕ) (es : List Entry) → ((e : Entry) → g (cell.done_in t e) ≡ g e) → map g (map (cell.done_in t) es) ≡ map g es
done_in_kept g t es h = map_kept g (cell.done_in t) es h
