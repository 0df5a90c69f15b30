use Rattle.std.proofs.Common.{◌≡◌, ◌+◌, ◌<◌, ◌^◌, ◌%◌, [], ◌∷◌, length, map, arith, ap, sym, subst, ◌∙◌}
use Rattle.protocol.specs.Events.{Form}
use Rattle.protocol.specs.Effects.{after, added}
use Rattle.protocol.specs.OnDesk.{batch_formed}
use Rattle.protocol.specs.OnPost.{first_control, posted_batch}
use Rattle.protocol.specs.OnRing.{formed, planned, next_actors, next_pacts}
use Rattle.protocol.specs.Parts.{OfBatch}
use Rattle.protocol.specs.Records.{BatchInfo}
use Rattle.batch_table.specs.Joining.{AllTxsBelow, MayJoin}
use Rattle.log_set.specs.Items.{item_of}
use Rattle.log_set.specs.Shown.{ShowsLog}
use Rattle.log_set.specs.Told.{told}
use Rattle.txn_records.specs.Records.{IsRecord}
use Rattle.core_rows.specs.Begun.{ControlsAreNew, SubsAreNew, first_message}
use Rattle.core_rows.proofs.Begun.{controls_are_new}
use Rattle.core_rows.proofs.Placing.{log_there}
use Rattle.core_rows.proofs.Planned.{plan_is, info_is, few, as_many, posted_is}
use Rattle.core_rows.proofs.Rules.{allowed_where}
use Rattle.core_rows.proofs.forming.form.Goals as goal

pub next_batch-requires : goal.next_batch-requires
next_batch-requires g c =
    let w = c.requires.run.text in
    let s = c.requires.run.state in
    let h = c.requires.run.shows in
    let fits : c.args.ring.now.next_tid + w.text.batch < 2 ^ 63 = subst (λ x. x.next_tid + w.text.batch < 2 ^ 63) h.4 (c.rows_may.ensures w s c.requires.run.run).tids_fit in
    let most : w.text.batch ≡ c.args.most = h.3 in
    omega (arith, fits, most)

pub first_controls-requires-clause-in_text : goal.first_controls-requires-clause-in_text
first_controls-requires-clause-in_text g c =
    let w = c.requires.run.text in
    let s = c.requires.run.state in
    let h = c.requires.run.shows in
    let may = c.rows_may.ensures w s c.requires.run.run in
    let ok = allowed_where w (Form c.args.k.0) s (c.form_refusal-rule.ensures w s c.requires.run.run (h.2, h.4, h.6) ∙ c.if-rule-ne0.false) in
    let is = plan_is w s c.args.k.0 c.args.most c.args.txs.now c.args.ring.now c.in_ok-plan.plan ok c.in_ok-plan.ensures h.0 h.3 h.4 in
    subst (AllTxsBelow (length c.args.txs.now)) (sym (c.pacts_of.ensures ∙ ap (λ f. f.pacts) is))
    (subst (λ n. AllTxsBelow n (planned w.text c.args.k.0 s.ring).pacts) (may.replied ∙ ap length h.0) (may.forms_batch c.args.k.0 ok).in_text)

pub of-requires : goal.of-requires
of-requires g c =
    let w = c.requires.run.text in
    let s = c.requires.run.state in
    let h = c.requires.run.shows in
    let may = c.rows_may.ensures w s c.requires.run.run in
    let ok = allowed_where w (Form c.args.k.0) s (c.form_refusal-rule.ensures w s c.requires.run.run (h.2, h.4, h.6) ∙ c.if-rule-ne0.false) in
    let is = plan_is w s c.args.k.0 c.args.most c.args.txs.now c.args.ring.now c.in_ok-plan.plan ok c.in_ok-plan.ensures h.0 h.3 h.4 in
    subst IsRecord (sym c.in_ok-info.ensures) (info_is w s c.args.k.0 c.in_ok-plan.plan may ok is)

pub make_room-requires-clause-few_subs : goal.make_room-requires-clause-few_subs
make_room-requires-clause-few_subs g c =
    let w = c.requires.run.text in
    let s = c.requires.run.state in
    let h = c.requires.run.shows in
    let may = c.rows_may.ensures w s c.requires.run.run in
    let ok = allowed_where w (Form c.args.k.0) s (c.form_refusal-rule.ensures w s c.requires.run.run (h.2, h.4, h.6) ∙ c.if-rule-ne0.false) in
    let is = plan_is w s c.args.k.0 c.args.most c.args.txs.now c.args.ring.now c.in_ok-plan.plan ok c.in_ok-plan.ensures h.0 h.3 h.4 in
    omega (arith, c.actor_count.ensures, (few w s c.args.k.0 c.in_ok-plan.plan may ok is).0)

pub make_room-requires-clause-few_controls : goal.make_room-requires-clause-few_controls
make_room-requires-clause-few_controls g c =
    let w = c.requires.run.text in
    let s = c.requires.run.state in
    let h = c.requires.run.shows in
    let may = c.rows_may.ensures w s c.requires.run.run in
    let ok = allowed_where w (Form c.args.k.0) s (c.form_refusal-rule.ensures w s c.requires.run.run (h.2, h.4, h.6) ∙ c.if-rule-ne0.false) in
    let is = plan_is w s c.args.k.0 c.args.most c.args.txs.now c.args.ring.now c.in_ok-plan.plan ok c.in_ok-plan.ensures h.0 h.3 h.4 in
    let messages = c.in_ok-firsts.ensures w (OfBatch c.in_ok-plan.plan.bid) h.0 h.1 ∙ ap (map (λ p. first_control w (OfBatch c.in_ok-plan.plan.bid) p.tid p.tx)) c.pacts_of.ensures in
    omega (arith, as_many _ _ c.in_ok-firsts.firsts.items c.in_ok-plan.plan.pacts messages, (few w s c.args.k.0 c.in_ok-plan.plan may ok is).1)

pub add-requires : goal.add-requires
add-requires g c =
    let w = c.requires.run.text in
    let s = c.requires.run.state in
    let h = c.requires.run.shows in
    let may = c.rows_may.ensures w s c.requires.run.run in
    let ok = allowed_where w (Form c.args.k.0) s (c.form_refusal-rule.ensures w s c.requires.run.run (h.2, h.4, h.6) ∙ c.if-rule-ne0.false) in
    let is = plan_is w s c.args.k.0 c.args.most c.args.txs.now c.args.ring.now c.in_ok-plan.plan ok c.in_ok-plan.ensures h.0 h.3 h.4 in
    subst (λ f. MayJoin f.bid f.pacts c.args.desk.now) (sym is) (subst (MayJoin c.args.k.0 (planned w.text c.args.k.0 s.ring).pacts) h.6 (may.forms_batch c.args.k.0 ok))

pub form-requires-clause-planned : goal.form-requires-clause-planned
form-requires-clause-planned g c = (c.requires.run.text.text, c.in_ok-plan.ensures c.requires.run.text.text c.requires.run.shows.0 c.requires.run.shows.3)

pub form-requires-clause-tids : goal.form-requires-clause-tids
form-requires-clause-tids g c =
    let w = c.requires.run.text in
    let s = c.requires.run.state in
    let h = c.requires.run.shows in
    let may = c.rows_may.ensures w s c.requires.run.run in
    let ok = allowed_where w (Form c.args.k.0) s (c.form_refusal-rule.ensures w s c.requires.run.run (h.2, h.4, h.6) ∙ c.if-rule-ne0.false) in
    let is = plan_is w s c.args.k.0 c.args.most c.args.txs.now c.args.ring.now c.in_ok-plan.plan ok c.in_ok-plan.ensures h.0 h.3 h.4 in
    let fits : c.args.ring.now.next_tid + length c.in_ok-plan.plan.pacts < 2 ^ 63 =
    subst (λ r. r.next_tid + length c.in_ok-plan.plan.pacts < 2 ^ 63) h.4 (subst (λ f. s.ring.next_tid + length f.pacts < 2 ^ 63) (sym is) (may.forms_tids c.args.k.0)) in
    omega (arith, fits)

pub form-requires-clause-bids : goal.form-requires-clause-bids
form-requires-clause-bids g c =
    let w = c.requires.run.text in
    let s = c.requires.run.state in
    let fits : c.args.ring.now.next_bid + 1 < 2 ^ 63 = subst (λ x. x.next_bid + 1 < 2 ^ 63) c.requires.run.shows.4 (c.rows_may.ensures w s c.requires.run.run).bids_fit in
    omega (arith, fits)

pub post_batch-requires-clause-fresh_subs : goal.post_batch-requires-clause-fresh_subs
post_batch-requires-clause-fresh_subs g c =
    let w = c.requires.run.text in
    let s = c.requires.run.state in
    let h = c.requires.run.shows in
    let may = c.rows_may.ensures w s c.requires.run.run in
    let ok = allowed_where w (Form c.args.k.0) s (c.form_refusal-rule.ensures w s c.requires.run.run (h.2, h.4, h.6) ∙ c.if-rule-ne0.false) in
    let is = plan_is w s c.args.k.0 c.args.most c.args.txs.now c.args.ring.now c.in_ok-plan.plan ok c.in_ok-plan.ensures h.0 h.3 h.4 in
    subst (λ p. SubsAreNew p.subs c.in_ok-plan.plan.subs) (h.5 ∙ sym c.make_room.ensures.messages)
    (subst (λ f. SubsAreNew s.post.subs f.subs) (sym is) (may.forms_subs c.args.k.0 ok))

pub post_batch-requires-clause-fresh_controls : goal.post_batch-requires-clause-fresh_controls
post_batch-requires-clause-fresh_controls g c =
    let w = c.requires.run.text in
    let s = c.requires.run.state in
    let h = c.requires.run.shows in
    let may = c.rows_may.ensures w s c.requires.run.run in
    let ok = allowed_where w (Form c.args.k.0) s (c.form_refusal-rule.ensures w s c.requires.run.run (h.2, h.4, h.6) ∙ c.if-rule-ne0.false) in
    let is = plan_is w s c.args.k.0 c.args.most c.args.txs.now c.args.ring.now c.in_ok-plan.plan ok c.in_ok-plan.ensures h.0 h.3 h.4 in
    let messages = c.in_ok-firsts.ensures w (OfBatch c.in_ok-plan.plan.bid) h.0 h.1 ∙ ap (map (λ p. first_control w (OfBatch c.in_ok-plan.plan.bid) p.tid p.tx)) c.pacts_of.ensures in
    let all = messages ∙ ap (λ f. map (λ q. first_control w (OfBatch f.bid) q.tid q.tx) f.pacts) is in
    let new = controls_are_new w c.args.k.0 s.post.controls (planned w.text c.args.k.0 s.ring).pacts (may.forms_controls c.args.k.0 ok) in
    subst (λ p. ControlsAreNew p.controls (map (first_message (OfBatch c.in_ok-plan.plan.bid)) c.in_ok-firsts.firsts.items)) (h.5 ∙ sym c.make_room.ensures.messages)
    (subst (ControlsAreNew s.post.controls) (sym all) new)

pub returns-clause-ok : goal.returns-clause-ok
unfolding after
returns-clause-ok g c w s r h =
    let ok = allowed_where w (Form c.args.k.0) s (c.form_refusal-rule.ensures w s r (h.2, h.4, h.6) ∙ c.if-rule-ne0.false) in
    let is = plan_is w s c.args.k.0 c.args.most c.args.txs.now c.args.ring.now c.in_ok-plan.plan ok c.in_ok-plan.ensures h.0 h.3 h.4 in
    let messages = c.in_ok-firsts.ensures w (OfBatch c.in_ok-plan.plan.bid) h.0 h.1 ∙ ap (map (λ p. first_control w (OfBatch c.in_ok-plan.plan.bid) p.tid p.tx)) c.pacts_of.ensures in
    let plan = c.in_ok-plan.plan in
    let info = BatchInfo c.args.k.0 (next_actors w.text s.ring) (map (λ p. p.tid) (next_pacts w.text s.ring)) in
    let item = c.in_ok-item.ensures ∙ (ap item_of c.in_ok-info.ensures ∙ ap (λ f. item_of (told (BatchInfo f.bid f.actors (map (λ p. p.tid) f.pacts)))) is) in (
      ok,
      (
        ap (λ f. formed f w.text.batch s.ring) (sym is) ∙ (ap (formed plan w.text.batch) h.4 ∙ sym (c.form.ensures w.text (c.in_ok-plan.ensures w.text h.0 h.3))),
        ap (λ f. posted_batch w f s.post) (sym is)
            ∙ (ap (posted_batch w plan) (h.5 ∙ sym c.make_room.ensures.messages)
            ∙ (posted_is w plan c.make_room.new.post.messages _ messages
            ∙ sym c.post_batch.ensures)),
        ap (λ f. batch_formed f s.desk) (sym is) ∙ (ap (batch_formed plan) h.6 ∙ sym c.in_ok-add.ensures.ok),
        (
          added (info ∷ []) h.7.0,
          (
            log_there s (c.args.k.0 % w.text.logs) h.7.0 (added (info ∷ [])) h.7.1.0,
            c.put.ensures.shows h.7.0 info item (subst (λ l. ShowsLog l h.7.0) (sym c.room.ensures.log) h.7.1.1),
          ),
        ),
      ),
    )
