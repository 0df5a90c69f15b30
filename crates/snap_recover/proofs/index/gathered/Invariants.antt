use Rattle.std.proofs.Common.{ℕ}
use Rattle.snap_recover.specs.Passes.{In, InPair, commit_key, part_key, info_key}
use Rattle.snap_recover.proofs.Homes.{Through}
use Rattle.snap_recover.proofs.Placing.{InfosThrough}
use Rattle.snap_recover.proofs.index.gathered.Given as goal

abbrev pub invariant-loop-i : goal.invariant-loop-i
invariant-loop-i l = record {
  committed : Through (λ (n : ℕ). n) (commit_key l.kind) l.logs l.i (In l.index.committed.items);
  parts : Through (λ (x : ℕ × ℕ). x.1) (part_key l.kind) l.logs l.i (InPair l.index.parts.items);
  infos : InfosThrough (info_key l.kind) l.logs l.i l.index.infos.items;
}
