use Rattle.std.proofs.Common.{◌%◌, sym, subst, ◌∙◌, arith}
use Rattle.protocol.specs.Events.{Decide}
use Rattle.protocol.specs.Conditions.{conditions}
use Rattle.protocol.specs.Effects.{after, act_commit, added}
use Rattle.protocol.specs.Words.{act_of}
use Rattle.protocol_laws.proofs.first.PairsFound.{found_tid}
use Rattle.book_part.specs.Halves.{Shows}
use Rattle.log_set.specs.Shown.{ShowsLog}
use Rattle.core_rows.proofs.Rules.{allowed_where}
use Rattle.core_rows.proofs.Placing.{log_there}
use Rattle.core_rows.proofs.Commits.{spelled}
use Rattle.core_rows.proofs.deciding.decide.Goals as goal

pub add_commit-requires : goal.add_commit-requires
add_commit-requires g c =
    let ok = allowed_where c.requires.text (Decide c.args.t.0) c.requires.state (c.decide_refusal-rule.ensures c.requires.text c.requires.state c.requires.run (c.requires.shows.0, c.requires.shows.1, c.requires.shows.2) ∙ c.if-rule-ne0.false) in
    spelled c.in_ok-commit.commit c.requires.state.book.next_c c.args.t.0 (act_of c.args.t.0 c.requires.state.book.acts) (c.in_ok-commit.ensures c.requires.state.book c.requires.shows.1)
    (λ x is. (found_tid c.args.t.0 c.requires.state.book.acts x is, (c.rows_may.ensures c.requires.text c.requires.state c.requires.run).tells_act c.args.t.0 x ok is))

pub decide-number-requires-clause-ready : goal.decide-number-requires-clause-ready
unfolding conditions
decide-number-requires-clause-ready g c =
    let ok = allowed_where c.requires.text (Decide c.args.t.0) c.requires.state (c.decide_refusal-rule.ensures c.requires.text c.requires.state c.requires.run (c.requires.shows.0, c.requires.shows.1, c.requires.shows.2) ∙ c.if-rule-ne0.false) in
    c.conditions_are_met_in_halves.ensures.decides c.args.book.now c.requires.state.book c.args.t.0 c.requires.shows.1 ok.0 ok.1.0

pub decide-number-requires-clause-fits : goal.decide-number-requires-clause-fits
decide-number-requires-clause-fits g c =
    let fits = (c.rows_may.ensures c.requires.text c.requires.state c.requires.run).cs_fit in
    let same = c.conditions_are_met_in_halves.ensures.numbers c.args.book.now c.requires.state.book c.requires.shows.1 in
    omega (arith, fits, same)

pub returns-clause-ok : goal.returns-clause-ok
unfolding after
returns-clause-ok g c w s r shows =
    let ok = allowed_where w (Decide c.args.t.0) s (c.decide_refusal-rule.ensures w s r (shows.0, shows.1, shows.2) ∙ c.if-rule-ne0.false) in
    let records = c.in_ok-commit.ensures s.book shows.1 in
    let commits = act_commit s.book.next_c (act_of c.args.t.0 s.book.acts) in (
      ok,
      (
        subst (λ h. Shows h (after w (Decide c.args.t.0) s).book) (sym c.decide-number.ensures.decided) (c.books_go_on.ensures w (Decide c.args.t.0) s c.args.book.now r shows.1 ok),
        shows.2,
        (added commits shows.3.0, (log_there s (c.args.t.0 % w.text.logs) shows.3.0 (added commits) shows.3.1.0, subst (λ rs. ShowsLog c.add_commit.new.log.log (added rs shows.3.0)) records (c.in_ok-add_commit.ensures.shows shows.3.0 shows.3.1.1))),
      ),
    )
