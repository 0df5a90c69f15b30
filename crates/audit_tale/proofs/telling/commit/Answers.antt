use Rattle.std.proofs.Common.{◌≡◌, true, ◌++◌, map, ap, refl, sym, ◌∙◌}
use Rattle.std.specs.Prelude.{slice_index_or, slice_set}
use Rattle.snap_base.proofs.Lists.{read_same}
use Rattle.audit_words.specs.Happenings.{pact_member}
use Rattle.audit_tale.specs.Knows.{member_of}
use Rattle.audit_tale.specs.declared.tales.BatchTale.{BatchTale}
use Rattle.audit_tale.proofs.WhoIsTold.{commit_done, commit_nowhere, committed_known}
use Rattle.audit_tale.proofs.telling.commit.Goals as goal

pub returns-in_default : goal.returns-in_default
returns-in_default c reads w s drawn h = commit_nowhere reads w c.args.k.0 c.args.tale.now s drawn h c.in_default.ensures

pub returns-then-index : goal.returns-then-index
returns-then-index c reads w s drawn h =
    commit_done reads w c.args.k.0 c.in-Some.at c.index.result.now c.args.tale.now s drawn h c.in-Some.ensures.0 c.in-Some.ensures.1 (ap (λ (b : BatchTale). b.committed) (sym c.index.ensures) ∙ c.if-index.true)

pub returns : goal.returns
returns c reads w s drawn h =
    let b : BatchTale = slice_index_or c.args.tale.now.batches.items c.in-Some.at c.index.result.now in
    let same : c.index-2.result.now ≡ b = c.index-2.ensures ∙ read_same c.args.tale.now.batches.items c.in-Some.at c.index-2.result.now c.index.result.now c.in-Some.ensures.1 in
    committed_known reads w c.args.k.0 c.in-Some.at c.index.result.now c.args.tale.now _ s drawn h c.in-Some.ensures.0 c.in-Some.ensures.1 (ap (λ (x : BatchTale). x.committed) (sym c.index.ensures) ∙ c.if-index.false)
    (record {
      ring = refl;
      batches = ap (λ (x : BatchTale). slice_set c.args.tale.now.batches.items c.in-Some.at (record x { committed = true })) (c.index_mut.ensures.value ∙ read_same c.args.tale.now.batches.items c.in-Some.at c.index_mut.result.now c.index.result.now c.in-Some.ensures.1);
      acts = refl;
      owners = refl;
      members = c.in_ok-add_members.ensures ∙ ap (λ (x : BatchTale). map member_of c.args.tale.now.members.items ++ map (pact_member x.formed.bid) x.formed.pacts) same;
      settled = refl;
      next_c = refl;
    })
