use Rattle.std.proofs.Common.{◌≡◌, ◌∙◌, sym, arith}
use Rattle.aml_check.specs.Transactions.{AreAscending}
use Rattle.work_text.proofs.UseWords.{use_words_one}
use Rattle.work_text.proofs.uses.declared_uses.Goals as goal

pub returns-then-not-are_ascending : goal.returns-then-not-are_ascending
returns-then-not-are_ascending c uses h =
    let read = rw c.in-Some.is at c.in_ok-uses.ensures in
    let same : uses ≡ c.in-Some.uses.items = use_words_one c.args.actors uses c.in-Some.uses.items (omega arith) h.each read.1 (sym h.spelled ∙ read.0) in
    let up : AreAscending c.deref.result.now = rw (c.deref.ensures.value, ← same) h.ascending in
    cc (c.are_ascending.ensures.1 up)
