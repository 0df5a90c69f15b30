use Rattle.std.proofs.Common.{◌≡◌, Some, List, [], ◌∷◌, length, slice_get, sym, subst, ap, arith}
use Rattle.std.specs.Prelude.{string_bytes}
use Rattle.std.proofs.lemmas.List.{length-append}
use Rattle.protocol.specs.Events.{Reply}
use Rattle.solo_host.specs.Together.{AreLeading}
use Rattle.solo_host.specs.declared.together.Line.{Line}
use Rattle.snap_core.specs.Cores.{state_at}
use Rattle.snap_core.specs.snap_hand.Tables.{fixed_of}
use Rattle.solo_host.proofs.Replying.{leading_more, none_leading}
use Rattle.solo_host.proofs.together.gather.Goals as goal

pub loop-place-init : goal.loop-place-init
loop-place-init c = record {
  many = ap length c.requires.none;
  leading = λ es at. none_leading (fixed_of c.args.core.now.tables) (state_at c.args.core.now es) c.args.list.now.events c.args.replies.now.items _ c.requires.none c.requires.empty;
}

pub loop-place-preserved : goal.loop-place-preserved
loop-place-preserved c =
    let w = fixed_of c.args.core.now.tables in
    let events = c.args.list.now.events in
    let had = c.loop-place.replies.items in
    let x : Line = record { tx = c.in-Some.tx; length = c.in_ok-length.length } in
    let more = ap (λ (xs : List Line). length xs) c.in_ok-push.ensures.items in
    let joined = length-append had (x ∷ []) in
    record {
      many = omega (arith, more, joined, c.loop-place.invariant.many);
      leading = λ es at. subst (λ (xs : List Line). AreLeading w (state_at c.args.core.now es) events xs (string_bytes c.add_line.new.text)) (sym c.in_ok-push.ensures.items)
          (leading_more w (state_at c.args.core.now es) events had x (string_bytes c.loop-place.text) (string_bytes c.add_line.new.text) (c.loop-place.invariant.leading es at)
          (subst (λ n. slice_get events n ≡ Some (Reply c.in-Some.tx.0)) (sym c.loop-place.invariant.many) c.in-Some.ensures.there)
          (record { allowed = c.in-Some.ensures.allowed es at; long = (c.in_ok-length.ensures es at).1 }) (c.in_ok-length.ensures es at).0);
    }
