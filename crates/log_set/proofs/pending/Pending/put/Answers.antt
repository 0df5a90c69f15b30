use Rattle.std.proofs.Common.{◌<◌, sym, subst, arith}
use Rattle.std.specs.Prelude.{IsOk}
use Rattle.std.specs.HashMap.{get}
use Rattle.log_set.specs.Logs.{PendingState}
use Rattle.log_set.specs.Keys.{key_eq}
use Rattle.log_set.proofs.Placing.{places_more}
use Rattle.log_set.proofs.pending.Pending.put.Goals as goal

pub invariant_of-self : goal.invariant_of-self
invariant_of-self c =
    let s = c.self.inside in
    let room = subst (λ (x : PendingState). 0 < x.spare) (sym c.self.view_is) c.requires in
    let ok : IsOk c.push-key.result = c.push-key.ensures.succeeds (omega (arith, room, s.keys.ok.0)) in
    let ok' : IsOk c.push-bytes.result = c.push-bytes.ensures.succeeds (omega (arith, room, s.waiting.ok.0)) in
    let items = rw ok at c.push-key.ensures.items in
    let len = rw ok at c.push-key.ensures.len in
    let len' = rw ok' at c.push-bytes.ensures.len in
    (rw items (places_more (get key_eq s.places) (get key_eq c.put_first.new.places) s.keys.items c.args.key c.len-place.result c.self.invariant.0 (omega (arith, c.len-place.ensures, s.keys.ok.0)) c.put_first.ensures.places), omega (arith, len, len', c.self.invariant.1, s.keys.ok.0, s.waiting.ok.0, c.push-key.new.self.ok.0, c.push-bytes.new.self.ok.0))
