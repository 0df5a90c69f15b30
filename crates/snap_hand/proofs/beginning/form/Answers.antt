use Rattle.std.proofs.Common.{◌≡◌, ◌<◌, ◌%◌, Some, None, length, slice_set, refl, sym, ap, subst, ◌∙◌}
use Rattle.std.proofs.lemmas.List.{length-set}
use Rattle.core_rows.specs.Showing.{ShowsDesk, ShowsLogAt, ShowsPost, ShowsRing}
use Rattle.snap_hand.specs.Hands.{Parts}
use Rattle.snap_hand.specs.Tables.{fixed_of}
use Rattle.snap_hand.proofs.Begins.{log_is_in, log_is_there, form_stepped}
use Rattle.snap_hand.proofs.Held.{ring_there, post_there, desk_there}
use Rattle.snap_hand.proofs.Stepping.{of_run}
use Rattle.snap_hand.proofs.InBoxes.{lent, lent_log, lent_post}
use Rattle.snap_hand.proofs.beginning.form.Goals as goal

pub take_log-log-requires : goal.take_log-log-requires
take_log-log-requires c = log_is_there (fixed_of c.args.tables.now) c.args.hand.now c.args.k.0 c.log_of-l.result c.requires.tables.accepted c.requires.asked.places c.log_of-l.ensures c.requires.asked.parts.1.1.1.0

pub take_ring-ring-requires : goal.take_ring-ring-requires
take_ring-ring-requires c = let x = ring_there c.args.hand.now c.requires.asked.parts.0 in (x.0, ap (λ h. h.ring) c.take_log-log.ensures.taken ∙ x.1)

pub take_post-post-requires : goal.take_post-post-requires
take_post-post-requires c = let x = post_there c.args.hand.now c.requires.asked.parts.1.0 in (x.0, ap (λ h. h.post) c.take_ring-ring.ensures.taken ∙ (ap (λ h. h.post) c.take_log-log.ensures.taken ∙ x.1))

pub take_desk-desk-requires : goal.take_desk-desk-requires
take_desk-desk-requires c = let x = desk_there c.args.hand.now c.requires.asked.parts.1.1.0 in (x.0, ap (λ h. h.desk) c.take_post-post.ensures.taken ∙ (ap (λ h. h.desk) c.take_ring-ring.ensures.taken ∙ (ap (λ h. h.desk) c.take_log-log.ensures.taken ∙ x.1)))

pub form_on-step-requires-clause-run : goal.form_on-step-requires-clause-run
form_on-step-requires-clause-run c =
    let ring = sym (ap (λ (h : Parts). h.ring) c.take_log-log.ensures.taken) ∙ (lent _ _ _ c.take_ring-ring.ensures.there c.deref_mut.ensures.value) in
    let post = sym (ap (λ (h : Parts). h.post) c.take_ring-ring.ensures.taken ∙ ap (λ (h : Parts). h.post) c.take_log-log.ensures.taken) ∙ (lent_post _ _ _ c.take_post-post.ensures.there c.deref_mut-2.ensures.value) in
    let desk = sym (ap (λ (h : Parts). h.desk) c.take_post-post.ensures.taken ∙ (ap (λ (h : Parts). h.desk) c.take_ring-ring.ensures.taken ∙ ap (λ (h : Parts). h.desk) c.take_log-log.ensures.taken)) ∙ (lent _ _ _ c.take_desk-desk.ensures.there c.deref_mut-3.ensures.value) in
    of_run (fixed_of c.args.tables.now) c.args.hand.now _ (λ s f. (refl, f.ring _ ring, f.post _ post, f.desk _ desk, subst (λ l. ShowsLogAt l c.deref_mut-4.result.now s) c.log_of-l.ensures (f.logs c.log_of-l.result _ (lent_log _ _ _ c.take_log-log.ensures.there c.deref_mut-4.ensures.value)))) c.requires.asked.some

pub put_log-requires : goal.put_log-requires
put_log-requires c =
    let same = ap (λ (h : Parts). h.logs) c.put_desk.ensures ∙ (ap (λ (h : Parts). h.logs) c.put_post.ensures ∙ (ap (λ (h : Parts). h.logs) c.put_ring.ensures
    ∙ (ap (λ (h : Parts). h.logs) c.take_desk-desk.ensures.taken ∙ (ap (λ (h : Parts). h.logs) c.take_post-post.ensures.taken ∙ (ap (λ (h : Parts). h.logs) c.take_ring-ring.ensures.taken ∙ ap (λ (h : Parts). h.logs) c.take_log-log.ensures.taken))))) in
    subst (λ xs. c.log_of-l.result < length xs) (sym same)
    (subst (λ n. c.log_of-l.result < n) (sym (length-set c.args.hand.now.logs c.log_of-l.result None))
    (log_is_in (fixed_of c.args.tables.now) c.args.hand.now c.args.k.0 c.log_of-l.result c.requires.tables.accepted c.requires.asked.places c.log_of-l.ensures))

pub returns : goal.returns
returns c =
    let old = c.args.hand.now in
    let l = c.log_of-l.result in
    let ring = sym (ap (λ (h : Parts). h.ring) c.take_log-log.ensures.taken) ∙ (lent _ _ _ c.take_ring-ring.ensures.there c.deref_mut.ensures.value) in
    let post = sym (ap (λ (h : Parts). h.post) c.take_ring-ring.ensures.taken ∙ ap (λ (h : Parts). h.post) c.take_log-log.ensures.taken) ∙ (lent_post _ _ _ c.take_post-post.ensures.there c.deref_mut-2.ensures.value) in
    let desk = sym (ap (λ (h : Parts). h.desk) c.take_post-post.ensures.taken ∙ (ap (λ (h : Parts). h.desk) c.take_ring-ring.ensures.taken ∙ ap (λ (h : Parts). h.desk) c.take_log-log.ensures.taken)) ∙ (lent _ _ _ c.take_desk-desk.ensures.there c.deref_mut-3.ensures.value) in
    form_stepped (fixed_of c.args.tables.now) old c.put_log.new.self c.args.k.0 l
    c.deref_mut.result.now c.form_on-step.new.ring c.deref_mut-2.result.now.messages c.form_on-step.new.post.messages c.deref_mut-3.result.now c.form_on-step.new.desk c.deref_mut-4.result.now c.form_on-step.new.log
    (λ w s. (w ≡ fixed_of c.args.tables.now) × ShowsRing c.deref_mut.result.now s × ShowsPost c.deref_mut-2.result.now s × ShowsDesk c.deref_mut-3.result.now s × ShowsLogAt (c.args.k.0 % w.text.logs) c.deref_mut-4.result.now s)
    c.form_on-step.result c.requires.asked.places c.log_of-l.ensures ring post desk (lent_log _ _ _ c.take_log-log.ensures.there c.deref_mut-4.ensures.value)
    (λ s f. (refl, f.ring _ ring, f.post _ post, f.desk _ desk, subst (λ m. ShowsLogAt m c.deref_mut-4.result.now s) c.log_of-l.ensures (f.logs l _ (lent_log _ _ _ c.take_log-log.ensures.there c.deref_mut-4.ensures.value))))
    (c.put_log.ensures ∙ ap (λ (h : Parts). record h { logs = slice_set h.logs l (Some c.form_on-step.new.log.log) })
    (c.put_desk.ensures ∙ ap (λ (h : Parts). record h { desk = Some c.form_on-step.new.desk })
    (c.put_post.ensures ∙ ap (λ (h : Parts). record h { post = Some c.form_on-step.new.post.messages })
    (c.put_ring.ensures ∙ ap (λ (h : Parts). record h { ring = Some c.form_on-step.new.ring })
    (c.take_desk-desk.ensures.taken ∙ ap (λ (h : Parts). record h { desk = None })
    (c.take_post-post.ensures.taken ∙ ap (λ (h : Parts). record h { post = None })
    (c.take_ring-ring.ensures.taken ∙ ap (λ (h : Parts). record h { ring = None }) c.take_log-log.ensures.taken)))))))
    c.form_on-step.ensures.ok c.form_on-step.ensures.no c.form_on-step.ensures.unchanged
