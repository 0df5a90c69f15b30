use Rattle.std.proofs.Common.{Some, map, ap, sym, subst, arith, ◌∙◌}
use Rattle.std.specs.Option.{option_map}
use Rattle.protocol.specs.Meant.{sub_batch, tid_number}
use Rattle.protocol.specs.Events.{Arrive}
use Rattle.protocol.specs.Effects.{after}
use Rattle.protocol.specs.OnBook.{tids_on}
use Rattle.protocol.specs.OnCell.{batch_placed}
use Rattle.protocol.specs.OnPost.{sub_taken}
use Rattle.protocol.specs.Words.{sub_of}
use Rattle.post_box.specs.declared.head.SubHead.{SubHead}
use Rattle.book_part.specs.Halves.{Shows}
use Rattle.core_rows.proofs.Rules.{allowed_where}
use Rattle.core_rows.proofs.Placing.{is_at, put_there}
use Rattle.core_rows.proofs.Found.{same_some, is_some_where_told}
use Rattle.core_rows.proofs.SubBatches.{is_under_way, comes_next, is_found, told_length, arrived_halves}
use Rattle.core_rows.proofs.arriving.arrive.Goals as goal

pub unwrap-head-requires : goal.unwrap-head-requires
unwrap-head-requires g c =
    let ok = allowed_where c.requires.text (Arrive c.args.k.0 c.args.a.0) c.requires.state (c.arrive_refusal-rule.ensures c.requires.text c.requires.state c.requires.run c.requires.shows ∙ c.if-rule-ne0.false) in
    sym (same_some _ _ _ _ c.sub_head.ensures.epoch) ∙ is_under_way c.requires.text c.requires.state c.args.post.now c.args.k.0 c.args.a.0 ok c.requires.shows.1

pub unwrap-sub-requires : goal.unwrap-sub-requires
unwrap-sub-requires g c =
    let ok = allowed_where c.requires.text (Arrive c.args.k.0 c.args.a.0) c.requires.state (c.arrive_refusal-rule.ensures c.requires.text c.requires.state c.requires.run c.requires.shows ∙ c.if-rule-ne0.false) in
    is_some_where_told sub_batch _ _ c.take_sub.ensures.value (is_under_way c.requires.text c.requires.state c.args.post.now c.args.k.0 c.args.a.0 ok c.requires.shows.1)

pub arrive-requires-2-clause-epoch : goal.arrive-requires-2-clause-epoch
arrive-requires-2-clause-epoch g c =
    let ok = allowed_where c.requires.text (Arrive c.args.k.0 c.args.a.0) c.requires.state (c.arrive_refusal-rule.ensures c.requires.text c.requires.state c.requires.run c.requires.shows ∙ c.if-rule-ne0.false) in
    let is = ap (λ p. sub_of c.args.k.0 c.args.a.0 p.subs) c.requires.shows.1 ∙ is_found _ _ _ c.take_sub.ensures.value c.unwrap-sub.ensures in
    (comes_next c.requires.text c.requires.state c.args.cell.now.cell c.args.k.0 c.args.a.0 _ ok c.requires.shows.2 is).0 ∙ ap (λ y. y.epoch) (sym c.room.ensures.unchanged)

pub arrive-requires-2-clause-before : goal.arrive-requires-2-clause-before
arrive-requires-2-clause-before g c =
    let ok = allowed_where c.requires.text (Arrive c.args.k.0 c.args.a.0) c.requires.state (c.arrive_refusal-rule.ensures c.requires.text c.requires.state c.requires.run c.requires.shows ∙ c.if-rule-ne0.false) in
    let is = ap (λ p. sub_of c.args.k.0 c.args.a.0 p.subs) c.requires.shows.1 ∙ is_found _ _ _ c.take_sub.ensures.value c.unwrap-sub.ensures in
    (comes_next c.requires.text c.requires.state c.args.cell.now.cell c.args.k.0 c.args.a.0 _ ok c.requires.shows.2 is).1 ∙ ap (λ y. y.tail) (sym c.room.ensures.unchanged)

pub arrive-requires-2-clause-tids : goal.arrive-requires-2-clause-tids
arrive-requires-2-clause-tids g c =
    let is = is_found _ _ _ c.take_sub.ensures.value c.unwrap-sub.ensures in
    let told = sym (ap (option_map (λ (h : SubHead). h.tids)) c.unwrap-head.ensures) ∙ c.sub_head.ensures.tids in
    omega (arith, told_length _ _ _ told is, c.in_ok-room.ensures.tids)

pub returns-clause-ok : goal.returns-clause-ok
unfolding after
returns-clause-ok g c w s r shows =
    let ok = allowed_where w (Arrive c.args.k.0 c.args.a.0) s (c.arrive_refusal-rule.ensures w s r shows ∙ c.if-rule-ne0.false) in
    let is = is_found _ _ _ c.take_sub.ensures.value c.unwrap-sub.ensures in
    let here = is_at s c.args.a.0 c.args.cell.now.cell shows.2 in
    let acts = ap (map tid_number) c.deref.ensures.value ∙ (c.in_ok-acts.ensures ∙ (ap (λ y. tids_on y.entries) c.room.ensures.unchanged ∙ ap (λ y. tids_on y.entries) (sym here))) in
    let bid = (c.what_is_found_has_its_number.ensures.sub c.args.k.0 c.args.a.0 c.args.post.now.messages.subs _ is).0 in (
      ok,
      (
        subst (λ h. Shows h (after w (Arrive c.args.k.0 c.args.a.0) s).book) (sym (c.arrive.ensures ∙ arrived_halves c.args.book.now c.args.k.0 c.args.a.0 _ _ acts)) (c.books_go_on.ensures w (Arrive c.args.k.0 c.args.a.0) s c.args.book.now r shows.0 ok),
        ap (sub_taken c.args.k.0 c.args.a.0) shows.1 ∙ sym c.take_sub.ensures.messages,
        put_there s c.args.a.0 c.args.cell.now.cell _ (batch_placed c.args.k.0 (sub_of c.args.k.0 c.args.a.0 s.post.subs)) shows.2
            (c.arrive-2.ensures.placed ∙ (ap (batch_placed _ (Some (sub_batch c.unwrap-sub.result))) c.room.ensures.unchanged
            ∙ (ap (λ n. batch_placed n (Some (sub_batch c.unwrap-sub.result)) c.args.cell.now.cell) bid
            ∙ (ap (λ o. batch_placed c.args.k.0 o c.args.cell.now.cell) (sym is)
            ∙ ap (λ p. batch_placed c.args.k.0 (sub_of c.args.k.0 c.args.a.0 p.subs) c.args.cell.now.cell) (sym shows.1))))),
      ),
    )
