use Rattle.std.proofs.Common.{◌≡◌, ℕ, ◌+◌, ◌≤◌, true, List, ◌++◌, length, take}
use Rattle.std.specs.List.{AllByRecursion}
use Rattle.protocol.specs.Fixed.{Text}
use Rattle.protocol.specs.Words.{greatest, is_among}
use Rattle.audit_words.specs.Seen.{Seen, was_admitted}
use Rattle.audit_tale.specs.Risen.{HasRisen, MayRise, lower, risen, tids}
use Rattle.audit_tale.proofs.rising.lift_waiters.Given as goal

abbrev pub invariant-loop-v : goal.invariant-loop-v
invariant-loop-v l = record {
  longer : length l.fn.rising.items ≤ length l.rising.items;
  fewer : lower l.number.0 l.told.tale.acts.items + length l.rising.items ≡ lower l.number.0 l.fn.told.tale.acts.items + length l.fn.rising.items;
  more : (us : List ℕ) × (tids l.rising.items ≡ tids l.fn.rising.items ++ us);
  knows : (w : Text) (s : Seen) (t : ℕ) (visited : List ℕ) → MayRise s → is_among l.fn.u.0 (tids l.fn.rising.items) ≡ true → HasRisen w l.number.0 t (tids l.fn.rising.items) visited l.fn.told s
      → HasRisen w l.number.0 t (tids l.rising.items) visited l.told s × AllByRecursion (λ v. was_admitted v s ≡ true → l.number.0 ≤ greatest (risen l.number.0 (tids l.rising.items) s.before v)) (take l.v-index (tids l.v-items));
}
