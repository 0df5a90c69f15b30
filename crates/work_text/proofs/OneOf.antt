-- Parts of a text that are read as one thing.
use Rattle.std.proofs.Common.{◌≡◌, ℕ, Bool, true, false, List, sym, ap, ◌∙◌}
use Rattle.std.specs.Prelude.{Option, Some, None, Ok, Err, Result}
use Rattle.snap_work.specs.declared.faults.WorkFault.{WorkFault}
use Rattle.snap_work.specs.declared.faults.WorkCause.{WorkCause}
use Rattle.snap_work.specs.declared.faults.WorkCause.TheVariants.{BadHeader}
use Rattle.work_text.specs.Lines.{Line, next}
use Rattle.work_text.specs.Readings.{ReadingOf, fault, gives, fails, Goes, ◌>>=◌, only, whether}
use Rattle.work_text.specs.Reads.{by_next, line}

-- what a part is read as is one thing
pub record IsOne {A : Type 0} (reading : ReadingOf A) : Type 0 where
  pub same : (r s : Result A WorkFault) → reading r → reading s → r ≡ s

pub one_gives : {A : Type 0} (x : A) → IsOne (gives x)
one_gives x = record { same = λ r s h k. h ∙ sym k }

pub one_fails : {A : Type 0} (line : ℕ) (cause : WorkCause) → IsOne (fails {A = A} line cause)
one_fails line cause = record { same = λ r s h k. h ∙ sym k }

pub one_only : {A : Type 0} (t : Bool) (line : ℕ) (cause : WorkCause) (reading : ReadingOf A) → IsOne reading → IsOne (only t line cause reading)
one_only true line cause reading one = one
one_only false line cause reading one = one_fails line cause

pub one_whether : {A : Type 0} (t : Bool) (first other : ReadingOf A) → IsOne first → IsOne other → IsOne (whether t first other)
one_whether true first other one two = one
one_whether false first other one two = two

goes_same : {A B : Type 0} (next : A → ReadingOf B) (first : ReadingOf A) (more : (x : A) → first (Ok x) → IsOne (next x)) (x : Result A WorkFault) → first x → (r s : Result B WorkFault) → Goes next x r → Goes next x s → r ≡ s
goes_same next first more (Ok x) h r s g d = (more x h).same r s g d
goes_same next first more (Err f) h r s g d = g ∙ sym d

then_same : {A B : Type 0} (first : ReadingOf A) (next : A → ReadingOf B) → IsOne first → ((x : A) → first (Ok x) → IsOne (next x)) → (r s : Result B WorkFault) → (first >>= next) r → (first >>= next) s → r ≡ s
then_same first next one more r s (x, h, g) (y, k, d) = let e : y ≡ x = one.same y x k h in goes_same next first more x h r s g (rw e at d)

pub one_then : {A B : Type 0} (first : ReadingOf A) (next : A → ReadingOf B) → IsOne first → ((x : A) → first (Ok x) → IsOne (next x)) → IsOne (first >>= next)
one_then first next one more = record { same = then_same first next one more }

one_by_next : {A : Type 0} (last : ℕ) (found : Option (Line × List Line)) (reading : Line → ReadingOf A) → ((l : Line) → IsOne (reading l)) → IsOne (by_next last found reading)
one_by_next last None reading all = one_fails last BadHeader
one_by_next last (Some found) reading all = one_then (reading found.0) (λ x. gives (x, found.1)) (all found.0) (λ x h. one_gives (x, found.1))

pub one_line : {A : Type 0} (last : ℕ) (ls : List Line) (reading : Line → ReadingOf A) → ((l : Line) → IsOne (reading l)) → IsOne (line last ls reading)
one_line last ls reading all = one_by_next last (next ls) reading all

-- ---- what stands behind another part

pub ok_parts : {A B : Type 0} (first : ReadingOf A) (next : A → ReadingOf B) (y : B) → (first >>= next) (Ok y) → (x : A) × first (Ok x) × next x (Ok y)
ok_parts first next y (Ok x, h, g) = (x, h, g)
ok_parts first next y (Err f, h, g) = cc

pub ok_same : {A : Type 0} (x y : A) → ◌≡◌ {A = Result A WorkFault} (Ok x) (Ok y) → x ≡ y
ok_same x y e = cc

ok_first : {A : Type 0} (x y : A × List Line) → ◌≡◌ {A = Result (A × List Line) WorkFault} (Ok x) (Ok y) → x.0 ≡ y.0
ok_first x y e = ap (λ (z : _ × List Line). z.0) (ok_same x y e)

by_next_ok : {A : Type 0} (last : ℕ) (found : Option (Line × List Line)) (reading : Line → ReadingOf A) (x : A × List Line) → by_next last found reading (Ok x) → (l : Line) × reading l (Ok x.0)
by_next_ok last None reading x h = cc
by_next_ok last (Some found) reading x h =
    let p = ok_parts (reading found.0) (λ y. gives (y, found.1)) x h in
    let same : x.0 ≡ p.0 = ok_first x (p.0, found.1) p.2 in
    (found.0, rw same p.1)

pub line_ok : {A : Type 0} (last : ℕ) (ls : List Line) (reading : Line → ReadingOf A) (x : A × List Line) → line last ls reading (Ok x) → (l : Line) × reading l (Ok x.0)
line_ok last ls reading x h = by_next_ok last (next ls) reading x h

pub same_fault : (f g : WorkFault) → f.line ≡ g.line → f.cause ≡ g.cause → f ≡ g
same_fault f g e d = ap (λ line. fault line f.cause) e ∙ ap (fault g.line) d
