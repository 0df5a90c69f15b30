use Rattle.std.proofs.Common.{◌≡◌, ◌∙◌, Some, ap, sym, subst, length, arith, refl}
use Rattle.std.proofs.lemmas.List.{length-map}
use Rattle.std.proofs.lemmas.Option.{slice_get_read}
use Rattle.audit_words.specs.Seen.{batch_in}
use Rattle.audit_tale.specs.Knows.{formed_of}
use Rattle.audit_tale.specs.Stands.{TellsWay}
use Rattle.audit_tale.specs.declared.tales.BatchTale.{BatchTale}
use Rattle.audit_tale.proofs.Lowered.{comes_is, nobody_comes, none_comes}
use Rattle.audit_tale.proofs.WhoIsTold.{batch_nowhere, batch_there}
use Rattle.audit_tale.proofs.arriving.comes.Goals as goal

pub returns-then-a-len-clause-value : goal.returns-then-a-len-clause-value
returns-then-a-len-clause-value c w s sound fits h = sym (nobody_comes w c.args.k.0 c.args.a.0 s fits (omega (arith, h.stands.count)))

pub returns-in_default-clause-value : goal.returns-in_default-clause-value
returns-in_default-clause-value c w s sound fits h =
    sym (none_comes c.args.k.0 c.args.a.0 s (batch_nowhere w c.args.k.0 c.args.told.now.tale s sound.drawn h.names
    (c.in_default.ensures (h.stands.batches ∙ (sym (ap length h.names.batches) ∙ length-map c.args.told.now.tale.batches.items formed_of)))))

pub returns-clause-value : goal.returns-clause-value
returns-clause-value c w s sound fits h =
    let t = c.args.told.now in
    let at = c.in-Some.at in
    let formed : batch_in c.args.k.0 s.batches ≡ Some c.index.result.now.formed = batch_there w c.args.k.0 at c.index.result.now t.tale s sound.drawn h.names c.in-Some.ensures.0 c.in-Some.ensures.1 ∙ ap (λ (b : BatchTale). Some b.formed) (sym c.index.ensures) in
    let way : TellsWay s c.args.k.0 c.index-2.result.now = subst (λ n. TellsWay s n c.index-2.result.now) (sym c.in-Some.ensures.0) (h.stands.ways at c.index-2.result.now (slice_get_read t.ways.items (length t.ways.items) at c.index-2.result.now refl c.in-Some.ensures.2 c.index-2.ensures)) in
    c.goes_on.ensures ∙ comes_is c.args.k.0 c.args.a s c.index.result.now.formed c.index-2.result.now formed way
