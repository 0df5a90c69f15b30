use Rattle.std.proofs.Common.{◌≡◌, ◌≤◌, ◌++◌, drop, length, take}
use Rattle.protocol.specs.Meant.{who_meant}
use Rattle.audit_tale.specs.Leaves.{cut_by, goes_by, staying, staying_by}
use Rattle.audit_tale.proofs.leaving.drop_cut.Given as goal

abbrev pub invariant-loop-at : goal.invariant-loop-at
invariant-loop-at l = record {
  within : l.put ≤ l.at;
  long : length l.entries.items ≡ length l.fn.entries.items;
  rest : drop l.at l.entries.items ≡ drop l.at l.fn.entries.items;
  done : take l.put l.entries.items ++ staying (λ passed who. goes_by (cut_by l.ways) passed (who_meant who)) l.passed (drop l.at l.fn.entries.items) ≡ staying_by l.ways l.fn.entries.items;
}
