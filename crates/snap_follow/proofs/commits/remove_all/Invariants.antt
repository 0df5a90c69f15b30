use Rattle.std.proofs.Common.{◌≡◌, take}
use Rattle.snap_follow.proofs.Named.{RemovesAll, Shrinks}
use Rattle.snap_follow.proofs.commits.remove_all.Given as goal

abbrev pub invariant-loop-key : goal.invariant-loop-key
invariant-loop-key l = record {
  others : RemovesAll (take l.key-index l.gone) l.initial.set l.set;
  fewer : Shrinks l.gone l.key-index l.initial.set l.set;
  first : l.key-index ≡ 0 → l.set ≡ l.initial.set;
}
