use Rattle.std.proofs.Common.{◌≡◌, ◌+◌, ◌-◌, ◌≤◌, Some, length, take}
use Rattle.protocol.specs.Fixed.{Text}
use Rattle.protocol.specs.Words.{greatest}
use Rattle.audit_words.specs.Seen.{Seen}
use Rattle.audit_tale.specs.Knows.{owner_of}
use Rattle.audit_tale.specs.Risen.{HasRisen, MayRise, lower, tids}
use Rattle.audit_tale.specs.Stands.{KnowsAll}
use Rattle.audit_tale.specs.declared.tales.Owner.TheVariants as owners
use Rattle.audit_tale.proofs.rising.rise.Given as goal

abbrev pub invariant-loop-next : goal.invariant-loop-next
invariant-loop-next l = record {
  within : l.next ≤ length l.rising.items;
  knows : (w : Text) (s : Seen) → MayRise s → KnowsAll w l.fn.told s → owner_of l.fn.t.0 l.fn.told.tale.owners.items ≡ Some (owners.Act l.at) → greatest (s.before l.fn.t.0) ≤ l.number.0 → HasRisen w l.number.0 l.fn.t.0 (tids l.rising.items) (take l.next (tids l.rising.items)) l.told s;
}

abbrev pub decreases-loop-next : goal.decreases-loop-next
decreases-loop-next l = (lower l.number.0 l.told.tale.acts.items + length l.rising.items) - l.next
