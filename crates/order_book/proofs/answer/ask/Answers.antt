use Rattle.std.proofs.Common.{sym, ap, ◌∙◌}
use Rattle.std.specs.Option.{option_map}
use Rattle.protocol.specs.Meant.{tid_number}
use Rattle.order_book.specs.Asked.{wait_die_answer}
use Rattle.order_book.proofs.Locks.{older_of_tids, some_wait}
use Rattle.order_book.proofs.answer.ask.Goals as goal

pub returns-in-Some : goal.returns-in-Some
returns-in-Some c locks are =
    let older = older_of_tids c.args.me.0 c.args.rivals.now locks are ∙ (sym c.oldest_before.ensures ∙ ap (option_map tid_number) c.in-Some.is) in
    sym (ap (λ o. wait_die_answer o c.args.rivals.now) older)

pub returns-in-None-2 : goal.returns-in-None-2
returns-in-None-2 c locks are =
    let none = older_of_tids c.args.me.0 c.args.rivals.now locks are ∙ (sym c.oldest_before.ensures ∙ ap (option_map tid_number) c.in-None-2.is) in
    some_wait c.args.rivals.now (sym c.is_empty.ensures ∙ c.if-is_empty.false) ∙ sym (ap (λ o. wait_die_answer o c.args.rivals.now) none)
