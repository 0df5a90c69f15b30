use Rattle.std.proofs.Common.{◌<◌, length, sym, subst, arith}
use Rattle.std.specs.Prelude.{IsOk}
use Rattle.std.specs.List.{AllByRecursion}
use Rattle.abort_cascade.specs.Kept.{KeptCascades}
use Rattle.abort_cascade.proofs.Ascending.{ascend_more}
use Rattle.abort_cascade.proofs.cascades.Cascades.push.Goals as goal

pub invariant_of-self : goal.invariant_of-self
invariant_of-self c =
    let s = c.self.inside in
    let room : length s.list.items < s.most = subst (λ (x : KeptCascades). length x.list < x.most) (sym c.self.view_is) c.requires.room in
    let above = subst (λ (x : KeptCascades). AllByRecursion (λ y. y.upto < c.args.first.0) x.list) (sym c.self.view_is) c.requires.above in
    let ok : IsOk c.push-pushed.result = c.push-pushed.ensures.succeeds (omega (arith, room, c.self.invariant.2)) in
    let items = rw ok at c.push-pushed.ensures.items in
    let len = rw ok at c.push-pushed.ensures.len in
    (rw items (ascend_more 0 s.list.items _ c.self.invariant.0 (omega arith) c.requires.some above), omega (arith, len, room), omega (arith, c.push-pushed.ensures.capacity, c.self.invariant.2))
