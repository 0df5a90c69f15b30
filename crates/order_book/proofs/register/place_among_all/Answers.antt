use Rattle.std.proofs.Common.{◌≡◌, ◌<◌, ◌≤◌, ℕ, sym, length, get_or}
use Rattle.std.specs.Prelude.{Ok, Err}
use Rattle.std.proofs.lemmas.List.Sorted.{searched}
use Rattle.order_book.proofs.Finding.{rises, position_is, position_between}
use Rattle.order_book.proofs.register.place_among_all.Goals as goal

pub returns-in-Ok : goal.returns-in-Ok
returns-in-Ok c =
    let s : (c.in-Ok.at < length c.args.tids.now) × (get_or c.args.tids.now c.in-Ok.at 0 ≡ c.args.t) = searched c.args.tids.now c.args.t (Ok c.in-Ok.at) c.in-Ok.ensures.position (λ i j le lt. rises c.args.tids.now i j c.requires le lt) in
    sym (position_is c.args.t c.args.tids.now c.in-Ok.at c.requires s.0 s.1)

pub returns-in-Err : goal.returns-in-Err
returns-in-Err c =
    let at : ℕ = c.in-Err.field-0 in
    let s : (at ≤ length c.args.tids.now) × ((k : ℕ) → k < at → get_or c.args.tids.now k 0 < c.args.t) × ((k : ℕ) → at ≤ k → k < length c.args.tids.now → c.args.t < get_or c.args.tids.now k 0) = searched c.args.tids.now c.args.t (Err at) c.in-Err.ensures.position (λ i j le lt. rises c.args.tids.now i j c.requires le lt) in
    sym (position_between c.args.t c.args.tids.now at s.1 s.2)
