use Rattle.std.proofs.Common.{length, map, ap, refl, sym, ◌∙◌}
use Rattle.std.specs.Prelude.{slice_get}
use Rattle.std.proofs.lemmas.Option.{slice_get_read}
use Rattle.std.proofs.lemmas.Result.{IfOk-weaker}
use Rattle.snap_base.proofs.Lists.{map_twice}
use Rattle.snap_base.proofs.Options.{is_no_none}
use Rattle.protocol.specs.Meant.{tid_number}
use Rattle.audit_words.specs.Seen.{act_in}
use Rattle.audit_tale.specs.Risen.{tids}
use Rattle.audit_tale.specs.declared.told.Waiter.{Waiter}
use Rattle.audit_tale.proofs.Walks.{waiting_known}
use Rattle.audit_tale.proofs.rising.waiting.Goals as goal

pub returns-in_default : goal.returns-in_default
returns-in_default c w s h there = absurd (is_no_none (act_in c.args.u.0 s.acts) (c.in_default.ensures w s h.names) there)

pub returns : goal.returns
returns c = IfOk-weaker c.waiter_tids.result _ _
    (λ vs e w s h there. ap tids e ∙ (map_twice tid_number (λ (x : Waiter). x.tid) c.as_slice.result.now
    ∙ (ap (map (λ (x : Waiter). x.tid.0)) c.as_slice.ensures.value
    ∙ waiting_known w c.args.u.0 c.in-Some.at c.args.told.now c.in-Some-get.ties.now s h c.in-Some.ensures.0 c.in-Some.ensures.1
    (ap (λ xs. slice_get xs c.in-Some.at) (sym c.deref.ensures.value) ∙ slice_get_read c.deref.result.now (length c.deref.result.now) c.in-Some.at c.in-Some-get.ties.now refl c.in-Some-get.ensures.lookup.3.0 c.in-Some-get.ensures.lookup.1))))
    c.waiter_tids.ensures
