use Rattle.std.proofs.Common.{◌≡◌, ◌+◌, ◌<◌, ◌^◌, None, is_some, length, arith, ap, sym, subst, ◌∙◌}
use Rattle.std.specs.List.{All}
use Rattle.protocol.specs.Events.{Admit}
use Rattle.protocol.specs.Effects.{after}
use Rattle.protocol.specs.OnRing.{admitted}
use Rattle.protocol.specs.OnPost.{first_control}
use Rattle.protocol.specs.OnPost as post
use Rattle.protocol.specs.Parts.{OfAct}
use Rattle.protocol.specs.Words.{control_of}
use Rattle.post_box.specs.Posting.{control_posted}
use Rattle.book_part.specs.Halves.{Shows}
use Rattle.core_rows.proofs.Rules.{allowed_where}
use Rattle.core_rows.proofs.Waiting.{first_waits, admitted_is, admitted_halves, told_first}
use Rattle.core_rows.proofs.admitting.admit.Goals as goal

pub unwrap-requires : goal.unwrap-requires
unwrap-requires g c =
    let w = c.requires.run.text in
    let s = c.requires.run.state in
    let h = c.requires.run.shows in
    let ok = allowed_where w (Admit c.args.t.0) s (c.admit_refusal-rule.ensures w s c.requires.run.run (h.2, h.4, h.5) ∙ c.if-rule-ne0.false) in
    ap is_some (c.next_act.ensures ∙ first_waits w s c.args.t.0 c.args.ring.now ok h.4)

pub first_control-requires-clause-in_text : goal.first_control-requires-clause-in_text
first_control-requires-clause-in_text g c =
    let w = c.requires.run.text in
    let s = c.requires.run.state in
    let h = c.requires.run.shows in
    let ok = allowed_where w (Admit c.args.t.0) s (c.admit_refusal-rule.ensures w s c.requires.run.run (h.2, h.4, h.5) ∙ c.if-rule-ne0.false) in
    let numbers = admitted_is w s c.args.t.0 c.args.ring.now c.next_act.result c.unwrap.result ok h.4 c.next_act.ensures c.unwrap.ensures in
    subst (λ n. n < length c.args.txs.now) (sym numbers.1)
    (subst (λ xs. post.next_act s.ring < length xs) h.0 (c.next_act_is_of_the_text.ensures w s c.args.t.0 c.requires.run.run ok))

pub admit-requires : goal.admit-requires
admit-requires g c =
    let w = c.requires.run.text in
    let s = c.requires.run.state in
    let h = c.requires.run.shows in
    let ok = allowed_where w (Admit c.args.t.0) s (c.admit_refusal-rule.ensures w s c.requires.run.run (h.2, h.4, h.5) ∙ c.if-rule-ne0.false) in
    let numbers = admitted_is w s c.args.t.0 c.args.ring.now c.next_act.result c.unwrap.result ok h.4 c.next_act.ensures c.unwrap.ensures in
    subst (λ t. All (λ x. x.tid < t) c.args.book.now.orders.acts) (sym numbers.0)
    ((c.rows_may.ensures w s c.requires.run.run).admits_act c.args.t.0 c.args.book.now.orders c.args.book.now.votes ok h.5.0)

pub admit-admitted-requires : goal.admit-admitted-requires
admit-admitted-requires g c =
    let w = c.requires.run.text in
    let s = c.requires.run.state in
    let h : c.args.ring.now.next_tid + w.text.batch < 2 ^ 63 = subst (λ x. x.next_tid + w.text.batch < 2 ^ 63) c.requires.run.shows.4 (c.rows_may.ensures w s c.requires.run.run).tids_fit in
    omega (arith, h)

pub post_first-requires-clause-fresh : goal.post_first-requires-clause-fresh
post_first-requires-clause-fresh g c =
    let w = c.requires.run.text in
    let s = c.requires.run.state in
    let h = c.requires.run.shows in
    let ok = allowed_where w (Admit c.args.t.0) s (c.admit_refusal-rule.ensures w s c.requires.run.run (h.2, h.4, h.5) ∙ c.if-rule-ne0.false) in
    let numbers = admitted_is w s c.args.t.0 c.args.ring.now c.next_act.result c.unwrap.result ok h.4 c.next_act.ensures c.unwrap.ensures in
    let tid = ap (λ m. m.tid) (c.in_ok-control.ensures w (OfAct c.args.t.0) h.0 h.1) ∙ numbers.0 in
    let new = subst (λ n. control_of n s.post.controls ≡ None) (sym tid) ((c.rows_may.ensures w s c.requires.run.run).admits_control c.args.t.0 ok) in
    subst (λ p. control_of c.in_ok-control.control.tid.0 p.controls ≡ None) (h.6 ∙ sym c.room.ensures.messages) new

pub returns-clause-ok : goal.returns-clause-ok
unfolding after
returns-clause-ok g c w s r h =
    let ok = allowed_where w (Admit c.args.t.0) s (c.admit_refusal-rule.ensures w s r (h.3, h.5, h.6) ∙ c.if-rule-ne0.false) in
    let numbers = admitted_is w s c.args.t.0 c.args.ring.now c.next_act.result c.unwrap.result ok h.5 c.next_act.ensures c.unwrap.ensures in
    let reads = h.2 (record { 0 = c.args.t.0 }) (record { 0 = post.next_act s.ring }) (first_waits w s c.args.t.0 c.args.ring.now ok h.5) (c.next_act_is_of_the_text.ensures w s c.args.t.0 r ok) in
    let first = c.in_ok-control.ensures w (OfAct c.unwrap.result.0.0) h.0 h.1
    ∙ (ap (λ t. first_control w (OfAct t) t c.unwrap.result.1.0) numbers.0
    ∙ ap (λ n. first_control w (OfAct c.args.t.0) c.args.t.0 n) numbers.1) in (
      ok,
      (
        ap admitted h.5 ∙ sym (told_first w s c.args.t.0 c.args.ring.now _ ok h.5 c.admit-admitted.result c.admit-admitted.ensures.value c.admit-admitted.ensures.some),
        subst (λ x. Shows x (after w (Admit c.args.t.0) s).book)
            (sym (c.in_ok-admit.ensures.ok ∙ admitted_halves c.args.book.now _ _ _ _ _ _ _ _ numbers.0 numbers.1 (sym reads) (sym h.4)))
            (c.books_go_on.ensures w (Admit c.args.t.0) s c.args.book.now r h.6 ok),
        ap (control_posted (first_control w (OfAct c.args.t.0) c.args.t.0 (post.next_act s.ring))) (h.7 ∙ sym c.room.ensures.messages)
            ∙ (ap (λ m. control_posted m c.room.new.self.messages) (sym first) ∙ sym c.post_first.ensures.messages),
      ),
    )
