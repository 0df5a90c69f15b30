use Rattle.std.proofs.Common.{◌≡◌, take}
use Rattle.gate_log.specs.Bytes.{magic}
use Rattle.gate_log.proofs.reads.differs_at.Given as goal

abbrev pub invariant-loop-i : goal.invariant-loop-i
invariant-loop-i l = take l.i l.bytes ≡ take l.i magic
