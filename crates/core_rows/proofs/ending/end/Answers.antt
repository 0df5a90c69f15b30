use Rattle.std.proofs.Common.{◌≡◌, Some, ap, is_some, sym, subst, ◌∙◌}
use Rattle.std.specs.Option.{option_and_then}
use Rattle.protocol.specs.Events.{End}
use Rattle.protocol.specs.Conditions.{conditions}
use Rattle.protocol.specs.Effects.{after, cell_at}
use Rattle.protocol.specs.OnCell.{outcome_taken}
use Rattle.protocol.specs.OnDesk.{pact_ended}
use Rattle.protocol.specs.Words.{has_act, holds, is_ended, outcome_of}
use Rattle.book_part.specs.Halves.{Shows}
use Rattle.cell_part.specs.Contents.{outcome_result}
use Rattle.core_rows.proofs.Rules.{allowed_where}
use Rattle.core_rows.proofs.Placing.{is_at, put_there}
use Rattle.core_rows.proofs.Ended.{has_result, halves_noted, desk_noted}
use Rattle.core_rows.proofs.ending.end.Goals as goal

pub unwrap-ended-requires : goal.unwrap-ended-requires
unfolding conditions
unwrap-ended-requires g c =
    let ok = allowed_where c.requires.text (End c.args.t.0 c.args.a.0) c.requires.state (c.end_refusal-rule.ensures c.requires.text c.requires.state c.requires.run c.requires.shows.2 ∙ c.if-rule-ne0.false) in
    let there = ap (holds (λ y. holds (λ x. is_ended x.next) (outcome_of c.args.t.0 y.outbox))) (sym c.requires.shows.2) ∙ ok.0 in
    ap is_some c.ended_with.ensures ∙ has_result (outcome_of c.args.t.0 c.args.cell.now.cell.outbox) there

pub note_result-requires : goal.note_result-requires
note_result-requires g c is =
    let ok = allowed_where c.requires.text (End c.args.t.0 c.args.a.0) c.requires.state (c.end_refusal-rule.ensures c.requires.text c.requires.state c.requires.run c.requires.shows.2 ∙ c.if-rule-ne0.false) in
    let here = ap (λ y. has_act c.args.t.0 y.entries) (is_at c.requires.state c.args.a.0 c.args.cell.now.cell c.requires.shows.2) ∙ (sym c.has_act-is_act.ensures ∙ is) in
    ((c.rows_may.ensures c.requires.text c.requires.state c.requires.run).halves (End c.args.t.0 c.args.a.0) c.args.book.now.orders c.args.book.now.votes ok c.requires.shows.0.0 here).1

pub returns-clause-ok : goal.returns-clause-ok
unfolding after
returns-clause-ok g c w s r shows =
    let ok = allowed_where w (End c.args.t.0 c.args.a.0) s (c.end_refusal-rule.ensures w s r shows.2 ∙ c.if-rule-ne0.false) in
    let here = is_at s c.args.a.0 c.args.cell.now.cell shows.2 in
    let act = ap (λ y. has_act c.args.t.0 y.entries) here ∙ sym c.has_act-is_act.ensures in
    let found : option_and_then outcome_result (outcome_of c.args.t.0 (cell_at s c.args.a.0).outbox) ≡ Some c.unwrap-ended.result =
    ap (λ y. option_and_then outcome_result (outcome_of c.args.t.0 y.outbox)) here ∙ (sym c.ended_with.ensures ∙ c.unwrap-ended.ensures) in
    let halves = halves_noted c.args.book.now c.args.t.0 (has_act c.args.t.0 (cell_at s c.args.a.0).entries) c.has_act-is_act.result (outcome_of c.args.t.0 (cell_at s c.args.a.0).outbox) c.unwrap-ended.result act found in
    let noted = desk_noted c.args.desk.now c.args.t.0 (has_act c.args.t.0 (cell_at s c.args.a.0).entries) c.has_act-is_act.result (outcome_of c.args.t.0 (cell_at s c.args.a.0).outbox) c.unwrap-ended.result act found in (
      ok,
      (
        subst (λ h. Shows h (after w (End c.args.t.0 c.args.a.0) s).book) (sym (c.in_ok-note_result.ensures.book ∙ halves)) (c.books_go_on.ensures w (End c.args.t.0 c.args.a.0) s c.args.book.now r shows.0 ok),
        ap (pact_ended c.args.t.0 (has_act c.args.t.0 (cell_at s c.args.a.0).entries) (outcome_of c.args.t.0 (cell_at s c.args.a.0).outbox)) shows.1 ∙ (noted ∙ sym c.in_ok-note_result.ensures.desk),
        put_there s c.args.a.0 c.args.cell.now.cell _ (outcome_taken c.args.t.0) shows.2 c.take_outcome-noted.ensures.taken,
      ),
    )
