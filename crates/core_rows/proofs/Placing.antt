-- A cell in its place.
use Rattle.std.proofs.Common.{◌≡◌, ℕ, ◌<◌, Some, List, length, slice_get, slice_set, sym, ap, ◌∙◌}
use Rattle.std.proofs.lemmas.Option.{slice_get_within, get_or_from_slice_get, slice_get-get_or}
use Rattle.std.proofs.lemmas.List.{get_or-set_same}
use Rattle.std.proofs.Math.ListN.{length-set}
use Rattle.protocol.specs.Parts.{Cell, Log, Machine}
use Rattle.protocol.specs.Effects.{cell_at, no_cell, puts, log_at, no_log}

pub is_at : {C : Type 0} (s : Machine C) (a : ℕ) (c : Cell C) → slice_get s.cells a ≡ Some c → cell_at s a ≡ c
is_at s a c there = get_or_from_slice_get s.cells a c no_cell there

-- another one in its place
pub set_there : {X : Type 0} (xs : List X) (i : ℕ) (x y : X) → slice_get xs i ≡ Some x → slice_get (slice_set xs i y) i ≡ Some y
set_there xs i x y there =
    let in_range : i < length xs = slice_get_within xs i x there in
    let still : i < length (slice_set xs i y) = rw (length-set) in_range in
    slice_get-get_or (slice_set xs i y) i y still ∙ ap Some (get_or-set_same xs i y y in_range)

-- what a row makes of the cell that stood there
pub put_there : {C : Type 0} (s : Machine C) (a : ℕ) (c new : Cell C) (f : Cell C → Cell C) → slice_get s.cells a ≡ Some c → new ≡ f c → slice_get (puts s a (f (cell_at s a))) a ≡ Some new
put_there s a c new f there is = set_there s.cells a c (f (cell_at s a)) there ∙ ap Some (ap f (is_at s a c there) ∙ sym is)

-- what a row makes of the log that stood there
pub log_there : {C : Type 0} (s : Machine C) (l : ℕ) (x : Log) (f : Log → Log) → slice_get s.logs l ≡ Some x → slice_get (slice_set s.logs l (f (log_at s l))) l ≡ Some (f x)
log_there s l x f there = set_there s.logs l x (f (log_at s l)) there ∙ ap (λ y. Some (f y)) (get_or_from_slice_get s.logs l x no_log there)
