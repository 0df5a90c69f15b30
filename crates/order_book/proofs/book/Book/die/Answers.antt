use Rattle.std.proofs.Common.{sym, ◌∙◌}
use Rattle.std.specs.Prelude.{◌==◌}
use Rattle.snap_base.specs.declared.verdicts.Verdict.{Verdict}
use Rattle.protocol.specs.Parts.{Act}
use Rattle.protocol.specs.Verdicts.{died}
use Rattle.protocol.specs.OnBook.{change_if, doomed_by}
use Rattle.order_book.proofs.Walked.{kept, one_rests, dooms_rests}
use Rattle.order_book.proofs.book.Book.die.Goals as goal

pub invariant_of-self : goal.invariant_of-self
invariant_of-self c =
    let why : Verdict = died c.args.a.0 c.args.older.0 c.args.t.0 in
    kept c.self.inside.pairs.items c.self.inside.pairs.items (λ (x : Act). change_if (x.tid == c.args.t.0) (doomed_by why) x) c.self.inside.register c.change.new.self c.self.inside.walked.items c.keep_walked.new.walked.items
    (λ x e. one_rests c.self.inside.pairs.items (doomed_by why) (x.tid == c.args.t.0) x (dooms_rests c.self.inside.pairs.items x.tid x.status why) e)
    c.self.invariant (c.change.ensures ∙ sym (c.place_of-at.ensures.changes (doomed_by why))) (rw c.as_slice.ensures.value at c.keep_walked.ensures)
