-- The end of a text within the whole.
use Rattle.std.proofs.Common.{◌≡◌, ℕ, ◌+◌, ◌≤◌, List, length, refl, ap, inl, inr}
use Rattle.std.specs.Str.{IsUtf8, IsValidUpTo}
use Rattle.std.specs.List.{count_by}
use Rattle.snap_base.specs.Lines.{lines}
use Rattle.snap_work.specs.declared.faults.WorkCause.TheVariants.{NotUtf8}
use Rattle.std.specs.Prelude.{◌==◌, take, Option, None, Ok, Err, Result}
use Rattle.snap_base.specs.declared.transactions.State.{State}
use Rattle.snap_base.specs.declared.transactions.Tx.{Tx}
use Rattle.aml_tree.specs.Tree.{CheckedMethod}
use Rattle.work_text.specs.Lines.{Line, numbered}
use Rattle.work_text.specs.Readings.{IsNo, Is, ReadingOf, gives, ◌>>=◌}
use Rattle.work_text.specs.Reads.{work_with, tail, line, program_lines, reads_lines, Reads, IsFirstWorkFault}
use Rattle.snap_work.specs.declared.faults.WorkFault.{WorkFault}
use Rattle.work_text.specs.Actors.{states_in}
use Rattle.snap_work.specs.Works.{Work}
use Rattle.work_text.specs.Endings.{ending}
use Rattle.snap_work.specs.declared.faults.WorkNo.{WorkNo}
use Rattle.snap_work.specs.declared.faults.WorkNo.TheVariants as no

abbrev pub whole : ℕ → ℕ → ℕ → ℕ → ℕ → List CheckedMethod → ℕ → List Line → ReadingOf Work
whole c l b s a p n ls = tail p n None ls >>= λ t. gives (work_with (record { coordinators = c; logs = l; batch = b; batches = s; acts = a; program = p; actors = n }) t.0 t.1)

abbrev pub put : ℕ → ℕ → ℕ → ℕ → ℕ → List CheckedMethod → List State × List Tx → Work
put c l b s a p x = record { coordinators = c; logs = l; batch = b; batches = s; acts = a; program = p; states = x.0; txs = x.1 }

pub whole_found : (c l b s a : ℕ) (p : List CheckedMethod) (n : ℕ) (ls : List Line) (x : List State × List Tx) → ending p n ls (Ok x) → whole c l b s a p n ls (Ok (put c l b s a p x))
whole_found c l b s a p n ls x (Ok t, h, e) =
    let same : x ≡ (states_in t.0 0 n, t.1) = cc in
    (Ok t, h, ap (λ y. Ok (put c l b s a p y)) same)
whole_found c l b s a p n ls x (Err f, h, e) = cc

pub whole_fails : (c l b s a : ℕ) (p : List CheckedMethod) (n : ℕ) (ls : List Line) (e : WorkNo) → IsNo (ending p n ls) e → IsNo (whole c l b s a p n ls) e
whole_fails c l b s a p n ls (no.Fault f) (Ok t, h, e) = cc
whole_fails c l b s a p n ls (no.Fault f) (Err g, h, e) = (Err g, h, let same : f ≡ g = cc in ap (λ y. Err y) same)
whole_fails c l b s a p n ls no.Memory h = tt

pub whole_put : (c l b s a : ℕ) (p : List CheckedMethod) (n : ℕ) (ls : List Line) (x : List State × List Tx) (w : Work) → w ≡ put c l b s a p x → ending p n ls (Ok x) → whole c l b s a p n ls (Ok w)
whole_put c l b s a p n ls x w e h = rw e (whole_found c l b s a p n ls x h)

-- the number behind the last line is one
pub at_last : {A : Type 0} (m n : ℕ) (ls : List Line) (reading : Line → ReadingOf A) (x : Result (A × List Line) WorkFault) → m ≡ n → line m ls reading x → line n ls reading x
at_last m n ls reading x e h = rw e at h

pub no_at_last : {A : Type 0} (m n : ℕ) (ls : List Line) (reading : Line → ReadingOf A) (f : WorkNo) → m ≡ n → IsNo (line m ls reading) f → IsNo (line n ls reading) f
no_at_last m n ls reading (no.Fault f) e h = rw e at h
no_at_last m n ls reading no.Memory e h = tt

pub at_program : (m n before : ℕ) (up : Option (List (List ℕ) × List Line)) (x : Result (List CheckedMethod × List Line) WorkFault) → m ≡ n → program_lines m before up x → program_lines n before up x
at_program m n before up x e h = rw e at h

pub no_at_program : (m n before : ℕ) (up : Option (List (List ℕ) × List Line)) (f : WorkNo) → m ≡ n → IsNo (program_lines m before up) f → IsNo (program_lines n before up) f
no_at_program m n before up (no.Fault f) e h = rw e at h
no_at_program m n before up no.Memory e h = tt

-- ---- the text

pub text_reads : {A : Type 0} (view : A → Work) (text : List ℕ) (r : Result A WorkNo) → length text ≤ 8388608 → IsUtf8 text → Is view r (reads_lines (1 + length (lines text)) (numbered 1 (lines text))) → Is view r (Reads text)
text_reads view text (Ok x) short utf8 h = inr (inr (short, utf8, h))
text_reads view text (Err (no.Fault f)) short utf8 h = inr (inr (short, utf8, h))
text_reads view text (Err no.Memory) short utf8 h = tt

pub first_fault : (text : List ℕ) (why : WorkNo) (f : WorkFault) → IsNo (Reads text) why → why ≡ no.Fault f → IsFirstWorkFault text f
first_fault text (no.Fault g) f h e = let same : g ≡ f = cc in rw same at h
first_fault text no.Memory f h e = cc

pub no_utf8 : (text : List ℕ) (n m line : ℕ) (why : WorkNo) → length text ≤ 8388608 → IsValidUpTo text n → m ≡ n → line ≡ 1 + count_by (λ b. b == 10) (take m text) → why ≡ no.Fault (record { line = line; cause = NotUtf8 }) → IsNo (Reads text) why
no_utf8 text n m line why short v e l w = rw (w, l, e) (inr (inl (short, (n, record { within = v.short; front = v.front; longest = λ k lt le. v.longest k lt }, refl))))
