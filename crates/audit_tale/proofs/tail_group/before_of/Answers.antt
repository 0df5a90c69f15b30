use Rattle.std.proofs.Common.{ap, ◌∙◌}
use Rattle.snap_base.proofs.Options.{is_no_none}
use Rattle.audit_words.specs.Seen.{act_in}
use Rattle.audit_tale.specs.declared.tales.ActTale.{ActTale}
use Rattle.audit_tale.proofs.Dooms.{own_before}
use Rattle.audit_tale.proofs.tail_group.before_of.Goals as goal

pub returns-in_default : goal.returns-in_default
returns-in_default c w s h there = absurd (is_no_none (act_in c.args.t.0 s.acts) (c.in_default.ensures w s h) there)

pub returns : goal.returns
returns c w s h there = ap (λ (x : ActTale). x.before.0) c.index.ensures ∙ own_before w c.in-Some.at c.args.t.0 c.index.result.now c.args.tale.now s h c.in-Some.ensures.0 c.in-Some.ensures.1
