-- Lists tell one thing of a member.
use Rattle.std.proofs.Common.{◌≡◌, List, sym, ap, subst, ◌∙◌}
use Rattle.snap_base.specs.declared.ids.Bid.{Bid}
use Rattle.snap_base.specs.declared.ids.Tid.{Tid}
use Rattle.txn_records.specs.declared.records.Record.{Record}
use Rattle.snap_recover.specs.declared.openings.Kept.{Kept}
use Rattle.snap_recover.specs.declared.openings.Kept.TheVariants as kept
use Rattle.snap_recover.specs.Logs.{values_in}
use Rattle.snap_recover.specs.Opening.{IsInfoOf, IsCommitOf, IsActOf, IsKeptIn, commit_of}
use Rattle.snap_recover.proofs.OneOpening.{one_info, one_commit, one_act}

pub one_kept : (logs : List (List Record)) (a b : Kept) → IsKeptIn logs a → IsKeptIn logs b → commit_of a ≡ commit_of b → a ≡ b
one_kept logs (kept.Batch k t v) (kept.Batch j u w) p q e =
    let same : k ≡ j = cc in
    let info : IsInfoOf logs j p.1.0 t = subst (λ (z : Bid). IsInfoOf logs z p.1.0 t) same p.1.1 in
    let tids : t ≡ u = (one_info logs j p.1.0 q.1.0 t u info q.1.1).1 in
    let commit : IsCommitOf logs j p.2.0 = subst (λ (z : Bid). IsCommitOf logs z p.2.0) same p.2.1 in
    let values : v ≡ w = p.2.2 ∙ ap values_in (one_commit logs j p.2.0 q.2.0 commit q.2.1) ∙ sym q.2.2 in
    cc
one_kept logs (kept.Batch k t v) (kept.Act u n d w) p q e = absurd (cc)
one_kept logs (kept.Act t m c v) (kept.Batch j u w) p q e = absurd (cc)
one_kept logs (kept.Act t m c v) (kept.Act u n d w) p q e =
    let same : t ≡ u = cc in
    let act : IsActOf logs u m c v p.0 = subst (λ (z : Tid). IsActOf logs z m c v p.0) same p.1 in
    let all = one_act logs u m n c d v w p.0 q.0 act q.1 in
    let batches : m ≡ n = all.0 in
    let commits : c ≡ d = all.1 in
    let values : v ≡ w = all.2 in
    cc
