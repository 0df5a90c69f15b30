use Rattle.trace_text.proofs.Events.{none_some, numbers_cut, numbers_whole, some_one, some_two}
use Rattle.trace_text.proofs.lines.numbers_of.Goals as goal

pub returns-in_err-n-in-Some-clause-only : goal.returns-in_err-n-in-Some-clause-only
returns-in_err-n-in-Some-clause-only c n second small fits is =
    let parts = numbers_cut c.args.text.now _ _ n second c.in-Some.ensures.0 c.in-Some.ensures.1 small fits is in
    absurd (none_some (c.in_err-n-in-Some.ensures.only n small parts.3))

pub returns-in_err-a-in-Some-clause-only : goal.returns-in_err-a-in-Some-clause-only
returns-in_err-a-in-Some-clause-only c n second small fits is =
    let parts = numbers_cut c.args.text.now _ _ n second c.in-Some.ensures.0 c.in-Some.ensures.1 small fits is in
    absurd (none_some (c.in_err-a-in-Some.ensures.only parts.0 parts.2 parts.4))

pub returns-in_ok-a-in-Some-clause-only : goal.returns-in_ok-a-in-Some-clause-only
returns-in_ok-a-in-Some-clause-only c n second small fits is =
    let parts = numbers_cut c.args.text.now _ _ n second c.in-Some.ensures.0 c.in-Some.ensures.1 small fits is in
    some_two (c.in_ok-n-in-Some.ensures.only n small parts.3) (c.in_ok-a-in-Some.ensures.only parts.0 parts.2 parts.4) parts.1

pub returns-in_err-n-in-None-clause-only : goal.returns-in_err-n-in-None-clause-only
returns-in_err-n-in-None-clause-only c n second small fits is =
    let whole = numbers_whole c.args.text.now n second c.in-None.ensures is in
    absurd (none_some (c.in_err-n-in-None.ensures.only n small whole.1))

pub returns-in_ok-n-in-None-clause-only : goal.returns-in_ok-n-in-None-clause-only
returns-in_ok-n-in-None-clause-only c n second small fits is =
    let whole = numbers_whole c.args.text.now n second c.in-None.ensures is in
    some_one (c.in_ok-n-in-None.ensures.only n small whole.1) whole.0
