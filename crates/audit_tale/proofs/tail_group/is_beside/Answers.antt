use Rattle.std.proofs.Common.{Option, ap, sym, ◌∙◌}
use Rattle.protocol.specs.Words.{holds}
use Rattle.audit_words.specs.Seen.{Begun}
use Rattle.audit_tale.specs.declared.tales.ActTale.{ActTale}
use Rattle.audit_tale.proofs.Dooms.{begun_there}
use Rattle.audit_tale.proofs.Tails.{beside_by}
use Rattle.audit_tale.proofs.tail_group.is_beside.Goals as goal

pub returns-in_default : goal.returns-in_default
returns-in_default c w s h = beside_by c.args.reader _ _ c.if-not-reader.false (sym (ap (λ (o : Option Begun). holds (λ x. x.reader) o) (c.in_default.ensures w s h)))

pub returns : goal.returns
returns c w s h =
    beside_by c.args.reader _ _ c.if-not-reader.false
    (ap (λ (x : ActTale). x.reader) c.index.ensures ∙ sym (ap (λ (o : Option Begun). holds (λ x. x.reader) o) (begun_there w c.in-Some.at c.args.t.0 c.index.result.now c.args.tale.now s h c.in-Some.ensures.0 c.in-Some.ensures.1)))
