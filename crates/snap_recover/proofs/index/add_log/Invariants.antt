use Rattle.std.proofs.Common.{take}
use Rattle.snap_recover.specs.Passes.{info_key, AddsCommits, AddsParts, AddsInfos}
use Rattle.snap_recover.proofs.index.add_log.Given as goal

abbrev pub invariant-loop-at : goal.invariant-loop-at
invariant-loop-at l = record {
  committed : AddsCommits l.kind l.log l.logs (take l.at l.rs) l.initial.index.committed.items l.index.committed.items;
  parts : AddsParts l.kind l.log l.logs (take l.at l.rs) l.initial.index.parts.items l.index.parts.items;
  infos : AddsInfos (info_key l.kind) l.log l.logs (take l.at l.rs) l.initial.index.infos.items l.index.infos.items;
}
