-- The lines that ask for transactions, one after the other.
use Rattle.std.proofs.Common.{◌≡◌, ℕ, ◌+◌, List, [], ◌∷◌, ◌++◌, length, refl, sym, ap, subst, append_assoc, append-nil, length-append, Ok, Err, Result}
use Rattle.snap_base.specs.declared.transactions.Tx.{Tx}
use Rattle.aml_tree.specs.Tree.{CheckedMethod}
use Rattle.snap_work.specs.declared.faults.WorkFault.{WorkFault}
use Rattle.snap_work.specs.declared.faults.WorkNo.{WorkNo}
use Rattle.snap_work.specs.declared.faults.WorkNo.TheVariants as no
use Rattle.work_text.specs.Lines.{Line}
use Rattle.work_text.specs.Readings.{IsNo}
use Rattle.work_text.specs.Transactions.{transaction}
use Rattle.work_text.specs.Reads.{transactions}

abbrev onto_asked : List Tx → Result (List Tx) WorkFault → Result (List Tx) WorkFault
onto_asked front (Ok more) = Ok (front ++ more)
onto_asked front (Err f) = Err f

onto_none : (x : Result (List Tx) WorkFault) → x ≡ onto_asked [] x
onto_none (Ok x) = refl
onto_none (Err f) = refl

onto_one : (front : List Tx) (tx : Tx) (x : Result (List Tx) WorkFault) → onto_asked front (onto_asked (tx ∷ []) x) ≡ onto_asked (front ++ tx ∷ []) x
onto_one front tx (Ok x) = ap (λ (ts : List Tx). Ok ts) (sym (append_assoc front (tx ∷ []) x))
onto_one front tx (Err f) = refl

-- the lines from a start up to here ask for these transactions
pub record AreAsked (p : List CheckedMethod) (count : ℕ) (start here : List Line) (txs : List Tx) : Type 0 where
  pub goes : (x : Result (List Tx) WorkFault) → transactions p count (length txs) here x → transactions p count 0 start (onto_asked txs x)

pub none_asked : (p : List CheckedMethod) (count : ℕ) (start : List Line) → AreAsked p count start start []
none_asked p count start = record { goes = λ x h. subst (transactions p count 0 start) (onto_none x) h }

goes_on : (p : List CheckedMethod) (count before : ℕ) (l : Line) (behind : List Line) (tx : Tx) → transaction p count before l (Ok tx) → (x : Result (List Tx) WorkFault)
    → transactions p count (before + 1) behind x → transactions p count before (l ∷ behind) (onto_asked (tx ∷ []) x)
goes_on p count before l behind tx h (Ok x) g = (Ok tx, h, (Ok x, g, refl))
goes_on p count before l behind tx h (Err f) g = (Ok tx, h, (Err f, g, refl))

pub one_asked : (p : List CheckedMethod) (count : ℕ) (start here : List Line) (txs : List Tx) (l : Line) (behind : List Line) (tx : Tx) (before : ℕ) → AreAsked p count start here txs → here ≡ l ∷ behind → before ≡ length txs
    → transaction p count before l (Ok tx) → AreAsked p count start behind (txs ++ tx ∷ [])
one_asked p count start here txs l behind tx before s e b h = record {
  goes = λ x g. subst (transactions p count 0 start) (onto_one txs tx x)
      (s.goes (onto_asked (tx ∷ []) x) (rw e (goes_on p count (length txs) l behind tx (rw b at h) x (rw length-append at g))));
}

pub all_asked : (p : List CheckedMethod) (count : ℕ) (start here : List Line) (txs : List Tx) → AreAsked p count start here txs → here ≡ [] → transactions p count 0 start (Ok txs)
all_asked p count start here txs s e = subst (λ (ts : List Tx). transactions p count 0 start (Ok ts)) (append-nil txs) (s.goes (Ok []) (rw e refl))

fails_at : (p : List CheckedMethod) (count before : ℕ) (l : Line) (behind : List Line) (f : WorkFault) → transaction p count before l (Err f) → transactions p count before (l ∷ behind) (Err f)
fails_at p count before l behind f h = (Err f, h, refl)

pub none_more : (p : List CheckedMethod) (count : ℕ) (start here : List Line) (txs : List Tx) (l : Line) (behind : List Line) (why : WorkNo) (before : ℕ) → AreAsked p count start here txs → here ≡ l ∷ behind → before ≡ length txs
    → IsNo (transaction p count before l) why → IsNo (transactions p count 0 start) why
none_more p count start here txs l behind (no.Fault f) before s e b h = s.goes (Err f) (rw e (fails_at p count (length txs) l behind f (rw b at h)))
none_more p count start here txs l behind no.Memory before s e b h = tt
