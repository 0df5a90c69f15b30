-- From what was read to what the whole input stands for.
use Rattle.std.proofs.Common.{◌≡◌, ℕ, ◌<◌, ◌≤◌, List, ◌++◌, length, Option, None, Some, IfSome, Result, Err, refl, sym, ap, ◌∙◌, subst, inl, inr, arith, length-append, append-nil}
use Rattle.std.specs.Io.KnownBytes.{Consumes, IsAtEnd}
use Rattle.std.proofs.KnownBytes.{Consumes-whole}
use Rattle.std.proofs.lemmas.Bool.{cases_lt}
use Rattle.snap_work.specs.declared.faults.Limit.TheVariants as limit
use Rattle.snap_work.specs.declared.faults.WorkCause.TheVariants as cause
use Rattle.snap_work.specs.declared.faults.WorkFault.{WorkFault}
use Rattle.snap_work.specs.Works.{Work}
use Rattle.work_gen.specs.work_text.Reads.{Reads, IsWork, IsFirstWorkFault}
use Rattle.snap_run.specs.Uses.{Reading}
use Rattle.snap_run.specs.Answers.{ReadsEnough, OfText}
use Rattle.snap_run.specs.Audits.{IsTooLong, OfInput}

-- ---- the input

-- the one thing that a text is read as which is too long
too_long : (text : List ℕ) (r : Result Work WorkFault) → 8388608 < length text → Reads text r → r ≡ Err (record { line = 0; cause = cause.Limit limit.Input 8388609 })
too_long text r long (inl h) = h.1
too_long text r long (inr (inl h)) = absurd (omega (arith, h.0, long))
too_long text r long (inr (inr h)) = absurd (omega (arith, h.0, long))

-- two texts that are too long have the same first fault
long_fault : (text other : List ℕ) (f : WorkFault) → 8388608 < length text → 8388608 < length other → IsFirstWorkFault text f → IsFirstWorkFault other f
long_fault text other f long longer h = inl (longer, too_long text (Err f) long h)

-- what was read has this first fault, and so has the input, of which it is all, or too much
pub fault_of_input : (old new : Option (List ℕ)) (bytes : List ℕ) (f : WorkFault) → Consumes old new bytes → (length bytes ≤ 8388608 → IsAtEnd new)
    → IsFirstWorkFault bytes f → IfSome old (λ input. IsFirstWorkFault input f)
fault_of_input None new bytes f moved whole h = tt
fault_of_input (Some xs) None bytes f moved whole h = absurd moved
fault_of_input (Some xs) (Some ys) bytes f moved whole h = elim (cases_lt 8388608 (length bytes)) [
  | inr short ↦ subst (λ t. IsFirstWorkFault t f) (sym (moved ∙ ap (λ l. bytes ++ l) (whole short) ∙ append-nil bytes)) h
  | inl long ↦ long_fault bytes xs f long (omega (arith, ap length moved, length-append bytes ys)) h
]

-- so much was read
pub reads_enough : (r : Reading) (bytes : List ℕ) (f : WorkFault) → Consumes r.left_before r.left_after bytes → (length bytes ≤ 8388608 → IsAtEnd r.left_after) → length bytes ≤ 8388609
    → IsFirstWorkFault bytes f → ReadsEnough r (λ read. IsFirstWorkFault read f)
reads_enough r bytes f moved whole most fault =
    (bytes, moved, elim (cases_lt 8388608 (length bytes)) [ inr short ↦ inl (whole short) | inl long ↦ inr (omega arith) ], fault)

-- what was read of a known input, to its end, is the input
pub known_input : (r : Reading) (input bytes : List ℕ) → r.left_before ≡ Some input → Consumes r.left_before r.left_after bytes → IsAtEnd r.left_after → bytes ≡ input
known_input r input bytes known moved end =
    subst (λ (left : Option (List ℕ)). IfSome left (λ (all : List ℕ). bytes ≡ all)) known (Consumes-whole r.left_before r.left_after bytes (λ (all : List ℕ). bytes ≡ all) moved end refl)

-- what was read stands for a work
pub of_text : (r : Reading) (bytes : List ℕ) (w : Work) → IsWork bytes w → length bytes ≤ 8388608 → Consumes r.left_before r.left_after bytes → (length bytes ≤ 8388608 → IsAtEnd r.left_after)
    → OfText r (λ v. v ≡ w)
of_text r bytes w work short moved whole = (bytes, moved, whole short, w, work, refl)

-- what was read is not too long
pub of_input : (r : Reading) (bytes : List ℕ) (P : List ℕ → Type 0) → P bytes → length bytes ≤ 8388608 → Consumes r.left_before r.left_after bytes → (length bytes ≤ 8388608 → IsAtEnd r.left_after)
    → OfInput r P
of_input r bytes P holds short moved whole = (bytes, moved, whole short, short, holds)

-- so much was read, and so much the input has
longer : (old new : Option (List ℕ)) (bytes : List ℕ) → 8388608 < length bytes → Consumes old new bytes → IfSome old (λ input. 8388608 < length input)
longer None new bytes long moved = tt
longer (Some xs) None bytes long moved = absurd moved
longer (Some xs) (Some ys) bytes long moved = omega (arith, ap length moved, length-append bytes ys, long)

-- more was read than an input may have
pub is_too_long : (r : Reading) (bytes : List ℕ) → 8388608 < length bytes → length bytes ≤ 8388609 → Consumes r.left_before r.left_after bytes → IsTooLong r
is_too_long r bytes long most moved = ((bytes, moved, omega (arith, long, most)), longer r.left_before r.left_after bytes long moved)
