use Rattle.std.proofs.Common.{◌+◌, ◌-◌, ◌<◌, ◌≤◌, ◌^◌, IsTrue, length, arith, ap, sym, subst, ◌∙◌}
use Rattle.std.specs.List.{AllByRecursion}
use Rattle.protocol.specs.Events.{Abort}
use Rattle.protocol.specs.Conditions.{conditions}
use Rattle.protocol.specs.Effects.{after}
use Rattle.protocol.specs.OnRing.{cut}
use Rattle.protocol.specs.OnDesk.{batches_aborted}
use Rattle.protocol.specs.Words.{batch_of}
use Rattle.batch_table.specs.Askings.{is_next_open, has_failed_pact, failed_in}
use Rattle.book_part.specs.Halves.{Shows}
use Rattle.core_rows.proofs.Rules.{allowed_where}
use Rattle.core_rows.proofs.Failing.{failed_is, cascaded_halves}
use Rattle.core_rows.proofs.aborting.abort.Goals as goal

pub unwrap-code-requires : goal.unwrap-code-requires
unfolding conditions
unwrap-code-requires g c =
    let ok = allowed_where c.requires.text (Abort c.args.k.0) c.requires.state (c.abort_refusal-rule.ensures c.requires.text c.requires.state c.requires.run c.requires.shows.3 ∙ c.if-rule-ne0.false) in
    c.first_failed.ensures.some ∙ (ap (λ d. has_failed_pact c.args.k.0 d.batches) (sym c.requires.shows.3) ∙ ok.1.0)

pub cut-requires : goal.cut-requires
cut-requires g c =
    let h : c.args.ring.now.epoch + 1 < 2 ^ 63 = subst (λ x. x.epoch + 1 < 2 ^ 63) c.requires.shows.1 (c.rows_may.ensures c.requires.text c.requires.state c.requires.run).epochs_fit in
    omega (arith, h)

pub abort-requires-clause-room : goal.abort-requires-clause-room
abort-requires-clause-room g c =
    let ok = allowed_where c.requires.text (Abort c.args.k.0) c.requires.state (c.abort_refusal-rule.ensures c.requires.text c.requires.state c.requires.run c.requires.shows.3 ∙ c.if-rule-ne0.false) in
    let few : length c.args.book.now.cascades < length c.requires.text.text.txs = subst (λ xs. length xs < length c.requires.text.text.txs) c.requires.shows.2.1 ((c.rows_may.ensures c.requires.text c.requires.state c.requires.run).aborts_room c.args.k.0 ok) in
    let room : length c.requires.text.text.txs ≤ c.args.book.now.most = c.requires.shows.0 in
    omega (arith, few, room)

pub abort-requires-clause-some : goal.abort-requires-clause-some
abort-requires-clause-some g c =
    let ok = allowed_where c.requires.text (Abort c.args.k.0) c.requires.state (c.abort_refusal-rule.ensures c.requires.text c.requires.state c.requires.run c.requires.shows.3 ∙ c.if-rule-ne0.false) in
    subst (λ n. c.args.k.0 ≤ n) (ap (λ x. x.next_bid - 1) c.requires.shows.1 ∙ (ap (λ n. n - 1) (sym c.next_bid-next.ensures) ∙ sym c.saturating_sub.ensures)) ((c.rows_may.ensures c.requires.text c.requires.state c.requires.run).aborts_some c.args.k.0 ok)

pub abort-requires-clause-above : goal.abort-requires-clause-above
abort-requires-clause-above g c =
    let ok = allowed_where c.requires.text (Abort c.args.k.0) c.requires.state (c.abort_refusal-rule.ensures c.requires.text c.requires.state c.requires.run c.requires.shows.3 ∙ c.if-rule-ne0.false) in
    subst (AllByRecursion (λ y. y.upto < c.args.k.0)) c.requires.shows.2.1 ((c.rows_may.ensures c.requires.text c.requires.state c.requires.run).aborts_above c.args.k.0 ok)

pub abort_from-requires-clause-next : goal.abort_from-requires-clause-next
unfolding conditions
abort_from-requires-clause-next g c =
    let ok = allowed_where c.requires.text (Abort c.args.k.0) c.requires.state (c.abort_refusal-rule.ensures c.requires.text c.requires.state c.requires.run c.requires.shows.3 ∙ c.if-rule-ne0.false) in
    subst (λ d. IsTrue (is_next_open c.args.k.0 d.batches)) c.requires.shows.3 ok.0

pub returns-clause-ok : goal.returns-clause-ok
unfolding after
returns-clause-ok g c w s r shows =
    let ok = allowed_where w (Abort c.args.k.0) s (c.abort_refusal-rule.ensures w s r shows.2 ∙ c.if-rule-ne0.false) in
    let told = failed_is (batch_of c.args.k.0 s.desk.batches) c.unwrap-code.result (sym c.unwrap-code.ensures ∙ (c.first_failed.ensures.failed ∙ ap (λ d. failed_in c.args.k.0 d.batches) (sym shows.2))) in
    let upto = c.saturating_sub.ensures ∙ (ap (λ n. n - 1) c.next_bid-next.ensures ∙ ap (λ x. x.next_bid - 1) (sym shows.0)) in (
      ok,
      (
        ap cut shows.0 ∙ sym c.cut.ensures,
        subst (λ h. Shows h (after w (Abort c.args.k.0) s).book) (sym (c.abort.ensures ∙ cascaded_halves c.args.book.now c.args.k.0 _ _ _ _ _ _ upto (sym told.0) (sym told.1))) (c.books_go_on.ensures w (Abort c.args.k.0) s c.args.book.now r shows.1 ok),
        ap (batches_aborted c.args.k.0) shows.2 ∙ sym c.abort_from.ensures,
      ),
    )
