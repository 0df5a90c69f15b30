use Rattle.std.proofs.Common.{◌≡◌, ◌≤◌, length, arith, refl, ap, sym, subst, ◌∙◌}
use Rattle.protocol.specs.Conditions.{AllTrue}
use Rattle.protocol.specs.Events.{Form}
use Rattle.protocol.specs.OnRing.{Formed, formed, next_pacts, planned}
use Rattle.protocol.specs.Parts.{Ring}
use Rattle.audit_words.specs.Audited.{ring_conditions}
use Rattle.audit_tale.specs.Knows.{AddsBatch}
use Rattle.audit_tale.proofs.Beginning.{formed_known}
use Rattle.audit_tale.proofs.Rings.{few_pacts, form_met, not_empty, some_text}
use Rattle.audit_tale.proofs.telling.form.Goals as goal

pub form-requires-clause-planned : goal.form-requires-clause-planned
form-requires-clause-planned c = (some_text 1 c.args.batch 0 c.args.txs.now, c.in-Ok.ensures.ok (some_text 1 c.args.batch 0 c.args.txs.now) refl refl)

pub form-requires-clause-tids : goal.form-requires-clause-tids
form-requires-clause-tids c =
    let w = some_text 1 c.args.batch 0 c.args.txs.now in
    let few : length (next_pacts w c.args.tale.now.ring) ≤ c.args.batch = few_pacts w c.args.tale.now.ring in
    omega (arith, ap (λ f. length f.pacts) (c.in-Ok.ensures.ok w refl refl), few)

pub returns-in_ok-add_batch-in-Ok : goal.returns-in_ok-add_batch-in-Ok
returns-in_ok-add_batch-in-Ok c reads w s f g drawn h =
    let old : Ring = c.args.tale.now.ring in
    let is : c.args.k.0 ≡ old.next_bid = omega arith in
    let same : c.args.k.0 ≡ s.ring.next_bid = is ∙ ap (λ (r : Ring). r.next_bid) h.ring in
    let p : c.in-Ok.formed ≡ planned w c.args.k.0 old = c.in-Ok.ensures.ok w f g ∙ ap (λ b. planned w b old) (sym is) in
    let after : c.form.new.self ≡ formed (planned w c.args.k.0 old) w.batch old = c.form.ensures w (c.in-Ok.ensures.ok w f g) ∙ ap (λ x. formed x w.batch old) p in
    let met = form_met w c.args.k.0 old c.form.new.self is (not_empty _ (λ e. c.in-Ok.ensures.empty.1 e)) after in (
      subst (λ (r : Ring). AllTrue (ring_conditions w (Form c.args.k.0) r)) h.ring met.0,
      formed_known reads w c.args.k.0 c.args.tale.now (record c.args.tale.now { ring = c.form.new.self }) _ s drawn h same after refl refl refl refl refl refl (subst (λ (x : Formed). AddsBatch x (record c.args.tale.now { ring = c.form.new.self }) c.add_batch.new.tale) (p ∙ ap (planned w c.args.k.0) h.ring) c.in_ok-add_batch-in-Ok.ensures),
    )
