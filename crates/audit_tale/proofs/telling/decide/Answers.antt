use Rattle.std.proofs.Common.{true, [], ◌∷◌, ◌++◌, map, ap, refl, sym, ◌∙◌}
use Rattle.std.specs.Prelude.{slice_index_or, slice_set}
use Rattle.std.proofs.lemmas.List.{map-append}
use Rattle.snap_base.proofs.Lists.{each_at, read_same}
use Rattle.audit_words.specs.Seen.{Member}
use Rattle.audit_tale.specs.Knows.{TellsAct, member_of}
use Rattle.audit_tale.specs.declared.tales.ActTale.{ActTale}
use Rattle.audit_tale.proofs.WhoIsTold.{decide_done, decide_nowhere, decided_known, member_known}
use Rattle.audit_tale.proofs.telling.decide.Goals as goal

pub returns-in_default : goal.returns-in_default
returns-in_default c reads w s drawn h = decide_nowhere reads w c.args.t.0 c.args.tale.now s h (c.in_default.ensures w s h)

pub returns-then-act : goal.returns-then-act
returns-then-act c reads w s drawn h =
    decide_done reads w c.args.t.0 c.in-Some.at c.index.result.now c.args.tale.now s h c.in-Some.ensures.0 c.in-Some.ensures.1 (ap (λ (x : ActTale). x.decided) (sym c.index.ensures) ∙ c.if-act.true)

pub returns : goal.returns
returns c reads w s drawn h =
    decided_known reads w c.args.t.0 c.in-Some.at c.index.result.now c.args.tale.now _ s drawn h c.in-Some.ensures.0 c.in-Some.ensures.1 (ap (λ (x : ActTale). x.decided) (sym c.index.ensures) ∙ c.if-act.false)
    (record {
      ring = refl;
      batches = refl;
      acts = ap (λ (x : ActTale). slice_set c.args.tale.now.acts.items c.in-Some.at (record x { decided = true })) (c.index_mut.ensures.value ∙ read_same c.args.tale.now.acts.items c.in-Some.at c.index_mut.result.now c.index.result.now c.in-Some.ensures.1);
      owners = refl;
      members = ap (map member_of) c.in_ok-push.ensures.items
          ∙ (map-append member_of c.args.tale.now.members.items (c.decided.result ∷ [])
          ∙ ap (λ (m : Member). map member_of c.args.tale.now.members.items ++ m ∷ []) (c.decided.ensures ∙ member_known w s (slice_index_or c.args.tale.now.acts.items c.in-Some.at c.index.result.now) c.index.result.now c.args.tale.now.next_c c.index.ensures (each_at (TellsAct s) c.args.tale.now.acts.items c.in-Some.at c.index.result.now c.in-Some.ensures.1 h.ends) h.number));
      settled = refl;
      next_c = refl;
    })
