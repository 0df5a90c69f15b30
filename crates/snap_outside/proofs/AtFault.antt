-- Calls that end at the first that fails, one after the other.
use Rattle.std.proofs.Common.{◌≡◌, ℕ, Result, Ok, Err, IsOk, IsErr, refl, ◌∙◌}
use Rattle.snap_outside.specs.Causes.{EndsAtFault}

-- no call was made
pub no_call : (fine : Type 0) (faults late : ℕ) → EndsAtFault fine faults late faults late
no_call fine faults late = record { quiet = λ _. refl; none_late = λ _. refl }

-- the last call failed
pub failed_call : {T E : Type 0} (r : Result T E) (f0 l0 f1 l1 : ℕ) → IsErr r → (f0 ≡ 0 → l1 ≡ l0) → EndsAtFault (IsOk r) f0 l0 f1 l1
failed_call (Ok x) f0 l0 f1 l1 is none = absurd (cc is)
failed_call (Err e) f0 l0 f1 l1 is none = record { quiet = λ ok. absurd (cc ok); none_late = none }

-- some were made, of which none failed, and then others
pub calls_join : {fine goes : Type 0} (f0 l0 f1 l1 f2 l2 : ℕ) → fine → EndsAtFault fine f0 l0 f1 l1 → EndsAtFault goes f1 l1 f2 l2 → EndsAtFault goes f0 l0 f2 l2
calls_join f0 l0 f1 l1 f2 l2 ok a b = record {
  quiet = λ is. b.quiet is ∙ a.quiet ok;
  none_late = λ none. b.none_late (a.quiet ok ∙ none) ∙ a.none_late none;
}

-- what tells more surely that none failed
pub surely : {fine sure : Type 0} (f0 l0 f1 l1 : ℕ) → (sure → fine) → EndsAtFault fine f0 l0 f1 l1 → EndsAtFault sure f0 l0 f1 l1
surely f0 l0 f1 l1 tells a = record { quiet = λ is. a.quiet (tells is); none_late = a.none_late }
