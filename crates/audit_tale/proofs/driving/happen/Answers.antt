use Rattle.std.proofs.Common.{Bool, MatchBool, ap, sym, subst, ◌∙◌, map}
use Rattle.std.proofs.lemmas.Result.{IfOk-weaker}
use Rattle.snap_base.specs.declared.transactions.Tx.{Tx}
use Rattle.core_events.specs.declared.events.Event as code
use Rattle.core_events.specs.Meant.{event_meant}
use Rattle.protocol.specs.Conditions.{AllTrue}
use Rattle.protocol.specs.Fixed.{Text}
use Rattle.audit_words.specs.Audited.{ring_conditions}
use Rattle.audit_words.specs.Happenings.{happened}
use Rattle.audit_words.specs.Seen.{Seen}
use Rattle.audit_tale.specs.declared.told.Told.{Told}
use Rattle.audit_tale.specs.Stands.{KnowsAll}
use Rattle.audit_tale.proofs.Driven.{nothing_to_meet, other_event}
use Rattle.audit_tale.proofs.driving.happen.Goals as goal

-- the event meets the first clause and what is kept has gone on, or it does not
abbrev Goes : (Tx → Bool) → Text → Seen → Told → Bool → code.Event → Type 0
Goes f w s new b e = MatchBool b (AllTrue (ring_conditions w (event_meant e) s.ring) × KnowsAll w new (happened f w (event_meant e) s)) (¬ AllTrue (ring_conditions w (event_meant e) s.ring))

pub returns-in-Pass : goal.returns-in-Pass
returns-in-Pass c f w s g m o sound fits h = subst (Goes f w s c.pass.new.told c.pass.result) (sym c.in-Pass.is) (c.pass.ensures f w s g.opening.coordinators_are h)

pub returns-in-Form : goal.returns-in-Form
returns-in-Form c = IfOk-weaker c.form.result _ _ (λ yes q f w s g m o sound fits h. subst (Goes f w s c.form.new.told yes) (sym c.in-Form.is) (q f w s g.txs_are g.batch_is sound h)) c.form.ensures

pub returns-in-Admit : goal.returns-in-Admit
returns-in-Admit c = IfOk-weaker c.admit.result _ _ (λ yes q f w s g m o sound fits h. subst (Goes f w s c.admit.new.told yes) (sym c.in-Admit.is) (q f w s g.opening.bid (m ∙ ap (map f) (sym g.txs_are)) o sound h)) c.admit.ensures

pub returns-in_ok-tell-in_default : goal.returns-in_ok-tell-in_default
returns-in_ok-tell-in_default c f w s g m o sound fits h =
    (nothing_to_meet w c.args.event s.ring (other_event c.args.event c.in_default.not-Submit c.in_default.not-Pass c.in_default.not-Form c.in_default.not-Admit), c.in_ok-tell-in_default.ensures f w s sound fits h)
