use Rattle.std.proofs.Common.{◌≡◌, Bool, map, take}
use Rattle.snap_base.specs.declared.transactions.Tx.{Tx}
use Rattle.protocol.specs.Fixed.{Text}
use Rattle.audit_tale.specs.Settings.{IsSetting, meant}
use Rattle.audit_tale.specs.Tellings.{IsTold}
use Rattle.audit_tale.proofs.driving.told_by.Given as goal

abbrev pub invariant-loop-i : goal.invariant-loop-i
invariant-loop-i l =
    (only_reads : Tx → Bool) (w : Text) → IsSetting l.coordinators l.batch l.actors l.txs w → l.reads ≡ map only_reads l.txs → IsTold only_reads w (meant (take l.i l.events)) l.told
