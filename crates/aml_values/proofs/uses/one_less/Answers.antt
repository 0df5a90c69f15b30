use Rattle.std.proofs.Common.{◌≤◌, ◌<◌, get_or, length, ap, sym, ◌∙◌, arith}
use Rattle.aml_check.specs.Meaning.{used}
use Rattle.aml_values.proofs.Declared.{used_later, used_up, used_taken, used_never, element}
use Rattle.aml_values.proofs.uses.one_less.Goals as goal

pub returns-then-uses-at-eq0 : goal.returns-then-uses-at-eq0
returns-then-uses-at-eq0 c =
    let us = c.loop-at.uses in
    let h : c.loop-at.at < length us = omega (arith, ap length c.loop-at.invariant.1) in
    (ap (used c.args.actor) (sym c.loop-at.invariant.1) ∙ used_up c.args.actor us c.loop-at.at (get_or us c.loop-at.at (record { 0 = 0 }, 0)) h (element us c.loop-at.at (record { 0 = 0 }, 0) h) c.if-uses-at.true c.if-uses-at-eq0.true c.loop-at.invariant.0, c.loop-at.invariant.1)

pub returns-then-uses-at : goal.returns-then-uses-at
returns-then-uses-at c =
    let us = c.loop-at.uses in
    let h : c.loop-at.at < length us = omega (arith, ap length c.loop-at.invariant.1) in
    ap (used c.args.actor) (sym c.loop-at.invariant.1) ∙ used_taken c.args.actor us c.loop-at.at (get_or us c.loop-at.at (record { 0 = 0 }, 0)) h (element us c.loop-at.at (record { 0 = 0 }, 0) h) c.if-uses-at.true c.if-uses-at-eq0.false c.loop-at.invariant.0

pub loop-at-preserved : goal.loop-at-preserved
loop-at-preserved c =
    let us = c.loop-at.uses in
    let h : c.loop-at.at < length us = omega (arith, ap length c.loop-at.invariant.1) in
    (used_later c.args.actor us c.loop-at.at (get_or us c.loop-at.at (record { 0 = 0 }, 0)) h (element us c.loop-at.at (record { 0 = 0 }, 0) h) c.if-uses-at.false c.loop-at.invariant.0, c.loop-at.invariant.1)

pub returns : goal.returns
returns c =
    let us = c.loop-at.uses in
    let past : length us ≤ c.loop-at.at = omega (arith, ap length c.loop-at.invariant.1) in
    (ap (used c.args.actor) (sym c.loop-at.invariant.1) ∙ used_never c.args.actor us c.loop-at.at past c.loop-at.invariant.0, c.loop-at.invariant.1)
