use Rattle.std.proofs.Common.{◌≡◌, ℕ, length, rules, [], ◌∷◌, ◌++◌, ap, refl, sym, subst, ◌∙◌}
use Rattle.std.specs.Prelude.{false, slice_index_or}
use Rattle.protocol.specs.Conditions.{AllTrue}
use Rattle.protocol.specs.Events.{Admit}
use Rattle.protocol.specs.OnPost.{next_act}
use Rattle.protocol.specs.Parts.{Ring}
use Rattle.audit_words.specs.Audited.{ring_conditions}
use Rattle.audit_tale.specs.declared.tales.Owner.TheVariants as owners
use Rattle.audit_tale.proofs.Beginning.{admitted_known, first_is, fresh_is}
use Rattle.audit_tale.proofs.Readers.{reader_known}
use Rattle.audit_tale.proofs.Rings.{act_waits, admit_met}
use Rattle.audit_tale.proofs.telling.admit.Goals as goal

pub returns-in_ok-push-in-Some-2 : goal.returns-in_ok-push-in-Some-2
returns-in_ok-push-in-Some-2 c reads w s o marks waits drawn h =
    let many : c.len.result ≡ length c.args.tale.now.acts.items = search rules in
    let old : Ring = c.args.tale.now.ring in
    let is = first_is old.next_tid _ (c.in-Some.tid, c.in-Some.tx) c.in-Some.ensures.value in
    let drawn_next : c.args.t.0 ≡ s.ring.next_tid = c.if-t-next_tid.false ∙ (c.next_tid.ensures ∙ ap (λ (r : Ring). r.next_tid) h.ring) in
    let met = admit_met w c.args.t.0 old c.admit.new.self (c.if-t-next_tid.false ∙ c.next_tid.ensures) (act_waits old _ (sym c.in-Some.ensures.value)) c.in-Some.ensures.some in
    let there : AllTrue (ring_conditions w (Admit c.args.t.0) s.ring) = subst (λ (r : Ring). AllTrue (ring_conditions w (Admit c.args.t.0) r)) h.ring met.0 in
    let next : c.in-Some.tx.0 ≡ next_act s.ring = is.1 ∙ ap next_act h.ring in
    let reader = c.is_reader.ensures ∙ (ap (λ n. slice_index_or c.args.reads.now n false) next ∙ reader_known reads c.args.reads.now w s.ring marks waits there.1.0) in (
      there,
      admitted_known reads w c.args.t.0 c.args.tale.now _ s o drawn h drawn_next
          (record {
            ring = c.in-Some.ensures.some;
            batches = refl;
            acts = c.in_ok-push-in-Some-2.ensures.items ∙ ap (λ y. c.args.tale.now.acts.items ++ y ∷ [])
                (c.begun.ensures ∙ fresh_is c.in-Some.tid c.in-Some.tx c.is_reader.result _ c.args.t.0 (next_act s.ring) (is.0 ∙ sym (c.if-t-next_tid.false ∙ c.next_tid.ensures)) next reader);
            owners = c.in_ok-push-in-Some.ensures.items ∙ ap (λ z. c.args.tale.now.owners.items ++ z ∷ []) (ap (λ (k : ℕ). owners.Act k) many);
            members = refl;
            settled = refl;
            next_c = refl;
          }),
    )
