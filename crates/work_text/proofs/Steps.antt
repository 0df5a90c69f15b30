-- How readings follow one another.
use Rattle.std.proofs.Common.{◌≡◌, ℕ, List, refl}
use Rattle.std.specs.Prelude.{Some, None, Ok, Err}
use Rattle.work_text.specs.Lines.{Line, next}
use Rattle.work_text.specs.Readings.{ReadingOf, IsNo, fault, ◌>>=◌}
use Rattle.work_text.specs.Reads.{line}
use Rattle.snap_work.specs.declared.faults.WorkCause.TheVariants.{BadHeader}
use Rattle.snap_work.specs.declared.faults.WorkNo.{WorkNo}
use Rattle.snap_work.specs.declared.faults.WorkNo.TheVariants as no

-- a fault of the first part is one of the whole
pub stops : {A B : Type 0} (first : ReadingOf A) (next : A → ReadingOf B) (e : WorkNo) → IsNo first e → IsNo (first >>= next) e
stops first next (no.Fault f) h = (Err f, h, refl)
stops first next no.Memory h = tt

-- behind a first part
pub goes : {A B : Type 0} (first : ReadingOf A) (next : A → ReadingOf B) (x : A) (e : WorkNo) → first (Ok x) → IsNo (next x) e → IsNo (first >>= next) e
goes first next x (no.Fault f) h k = (Ok x, h, k)
goes first next x no.Memory h k = tt

-- the next line that says something
pub line_found : {A : Type 0} (last : ℕ) (ls behind : List Line) (l : Line) (x : A) (reading : Line → ReadingOf A) → next ls ≡ Some (l, behind) → reading l (Ok x) → line last ls reading (Ok (x, behind))
line_found last ls behind l x reading e h = rw e (Ok x, h, refl)

pub line_fails : {A : Type 0} (last : ℕ) (ls behind : List Line) (l : Line) (reading : Line → ReadingOf A) (f : WorkNo) → next ls ≡ Some (l, behind) → IsNo (reading l) f → IsNo (line last ls reading) f
line_fails last ls behind l reading (no.Fault f) e h = rw e (Err f, h, refl)
line_fails last ls behind l reading no.Memory e h = tt

pub line_lacks : {A : Type 0} (last : ℕ) (ls : List Line) (reading : Line → ReadingOf A) → next ls ≡ None → line last ls reading (Err (fault last BadHeader))
line_lacks last ls reading e = rw e refl
