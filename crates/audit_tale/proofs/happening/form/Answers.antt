use Rattle.std.proofs.Common.{refl}
use Rattle.std.proofs.lemmas.Bool.{MatchBool-at_false, MatchBool-at_true}
use Rattle.audit_tale.proofs.Adding.{formed_stands}
use Rattle.audit_tale.proofs.happening.form.Goals as goal

pub returns-then-not-branch : goal.returns-then-not-branch
returns-then-not-branch c reads w s e f sound h = MatchBool-at_false _ _ c.if-not-branch.true (c.in_ok-form.ensures reads w s e f sound.drawn h.names)

pub returns : goal.returns
returns c reads w s e f sound h =
    let met = MatchBool-at_true _ _ c.if-not-branch.false (c.in_ok-form.ensures reads w s e f sound.drawn h.names) in (
      met.0,
      formed_stands reads w c.args.k c.args.told.now _ _ s sound h met.0 met.1 (record { came = c.new.ensures.items; is_cut = refl; fall = refl }) (record { actors = refl; ways = c.in_ok-push.ensures.items; ties = refl; uncut = c.in_ok-push-2.ensures.items; going = refl }),
    )
