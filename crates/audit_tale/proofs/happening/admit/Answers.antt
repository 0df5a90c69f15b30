use Rattle.std.proofs.Common.{◌≡◌, length, refl, rules}
use Rattle.std.proofs.lemmas.Bool.{MatchBool-at_true}
use Rattle.audit_tale.proofs.Adding.{admitted_stands}
use Rattle.audit_tale.proofs.happening.admit.Goals as goal

pub returns : goal.returns
returns c reads w s o marks waits sound h =
    let many : c.len-at.result ≡ length c.args.told.now.tale.acts.items = search rules in
    let met = MatchBool-at_true _ _ c.if-not-branch.false (c.in_ok-admit.ensures reads w s o marks waits sound.drawn h.names) in (
      met.0,
      admitted_stands reads w c.args.t.0 c.len-at.result c.args.told.now _ _ s sound h met.0 met.1 many (record { waiters = c.new.ensures.items; left = c.new-2.ensures.items }) (record { actors = refl; ways = refl; ties = c.in_ok-push.ensures.items; uncut = refl; going = c.in_ok-push-2.ensures.items }),
    )
