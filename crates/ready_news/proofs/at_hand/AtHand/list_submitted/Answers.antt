use Rattle.std.proofs.Common.{◌++◌, [], ◌∷◌, ap, subst, ◌∙◌, OnOk}
use Rattle.ready_listing.specs.Listed.{Adds}
use Rattle.protocol.specs.Events.{Submit}
use Rattle.snap_hand.specs.Tables.{text_of}
use Rattle.ready_news.specs.InRing.{admits, admits_first, forms, forms_first, passes, is_first}
use Rattle.ready_news.proofs.Common.{adds_three, ok_both}
use Rattle.ready_news.proofs.at_hand.AtHand.list_submitted.Goals as goal

pub returns : goal.returns
returns c b s =
    let w = text_of c.args.self.now.tables.now in
    let d = c.args.self.now.desk.now in
    let r = c.args.self.now.ring.now in
    let n = c.args.n.0 in
    let old = c.args.news.now.items in
    let submit = c.push_one.new.events.items in
    let pass = c.list_pass.new.news.items in
    let form = c.list_form.new.news.items in
    let new = c.list_admit.new.news.items in
    let submitted = subst (λ k. Adds old submit (Submit k ∷ [])) c.next_tx.ensures c.in_ok-push_one.ensures in
    let formed = subst (λ p. Adds pass form (forms p w d r)) (c.is_first.ensures ∙ ap (is_first n) c.first_pact.ensures) c.in_ok-list_form.ensures in
    let admitted = subst (λ p. OnOk c.list_admit.result (Adds form new (admits p w b r))) (c.is_first-2.ensures ∙ ap (is_first n) c.first_act.ensures) (c.list_admit.ensures b s) in
    ok_both c.list_admit.result old form new ((Submit r.next_tx ∷ []) ++ (passes w.coordinators r ++ forms_first n w d r)) (admits_first n w b r)
    (adds_three old submit pass form (Submit r.next_tx ∷ []) (passes w.coordinators r) (forms_first n w d r) submitted c.in_ok-list_pass.ensures formed) admitted
