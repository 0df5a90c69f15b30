-- The end of a text, by its two parts.
use Rattle.std.proofs.Common.{◌≡◌, ℕ, Bool, true, false, List, [], ◌∷◌, refl, ap, Option, Some, None, Ok, Err, Result}
use Rattle.snap_base.specs.declared.transactions.State.{State}
use Rattle.snap_base.specs.declared.transactions.Tx.{Tx}
use Rattle.aml_tree.specs.Tree.{CheckedMethod}
use Rattle.snap_work.specs.declared.faults.WorkFault.{WorkFault}
use Rattle.snap_work.specs.declared.faults.WorkNo.{WorkNo}
use Rattle.snap_work.specs.declared.faults.WorkNo.TheVariants as no
use Rattle.work_text.specs.Lines.{Line, words, says, said, next}
use Rattle.work_text.specs.Readings.{ReadingOf, IsNo, Goes, gives, ◌>>=◌}
use Rattle.work_text.specs.Actors.{Named, actor, states_in}
use Rattle.work_text.specs.Reads.{first_is_actor, tail, transactions}
use Rattle.work_text.specs.Endings.{named_lines, states, ending}

-- ---- the lines that say something

said_by : (t : Bool) (l : Line) (ls : List Line) → says l.bytes ≡ t → (found : Line × List Line) → next (l ∷ ls) ≡ Some found → (next ls ≡ Some found → said ls ≡ found.0 ∷ said found.1) → said (l ∷ ls) ≡ found.0 ∷ said found.1
said_by true l ls e found h more = let same : Some (l, ls) ≡ Some found = rw e at h in let one : (l, ls) ≡ found = cc in rw e (ap (λ (x : Line × List Line). x.0 ∷ said x.1) one)
said_by false l ls e found h more = rw e (more (rw e at h))

pub said_found : (ls : List Line) (found : Line × List Line) → next ls ≡ Some found → said ls ≡ found.0 ∷ said found.1
said_found [] found e = cc
said_found (l ∷ ls) found e = said_by (says l.bytes) l ls refl found e (said_found ls found)

none_by : (t : Bool) (l : Line) (ls : List Line) → says l.bytes ≡ t → next (l ∷ ls) ≡ None → (next ls ≡ None → said ls ≡ []) → said (l ∷ ls) ≡ []
none_by true l ls e h more = let same : Some (l, ls) ≡ None = rw e at h in cc
none_by false l ls e h more = rw e (more (rw e at h))

pub said_none : (ls : List Line) → next ls ≡ None → said ls ≡ []
said_none [] e = refl
said_none (l ∷ ls) e = none_by (says l.bytes) l ls refl e (said_none ls)

-- ---- first the actors, then the transactions

abbrev after : List CheckedMethod → ℕ → List Named × List Line → ReadingOf (List Named × List Tx)
after p count a = transactions p count 0 a.1 >>= λ t. gives (a.0, t)

abbrev first_named : ℕ → Option ℕ → Line → List Line → ReadingOf (List Named × List Line)
first_named count last l ls = actor count last l >>= λ n. named_lines count (Some n.actor) ls >>= λ more. gives (n ∷ more.0, more.1)

abbrev named_first : List CheckedMethod → ℕ → Option ℕ → Line → List Line → ReadingOf (List Named × List Tx)
named_first p count last l ls = actor count last l >>= λ n. tail p count (Some n.actor) ls >>= λ more. gives (n ∷ more.0, more.1)

abbrev Joins : List CheckedMethod → ℕ → Option ℕ → List Line → Type 0
Joins p count last ls = (x : Result (List Named × List Line) WorkFault) (r : Result (List Named × List Tx) WorkFault) → named_lines count last ls x → Goes (after p count) x r → tail p count last ls r

join_txs : (p : List CheckedMethod) (count : ℕ) (last : Option ℕ) (l : Line) (ls : List Line) (rec : (n : Named) → Joins p count (Some n.actor) ls) (r : Result (List Named × List Tx) WorkFault) (n : Named)
    → actor count last l (Ok n) → (m : List Named × List Line) → named_lines count (Some n.actor) ls (Ok m) → after p count (n ∷ m.0, m.1) r → named_first p count last l ls r
join_txs p count last l ls rec r n h m k (Err f, t, e) = (Ok n, h, (Err f, rec n (Ok m) (Err f) k (Err f, t, refl), e))
join_txs p count last l ls rec r n h m k (Ok ts, t, e) = (Ok n, h, (Ok (m.0, ts), rec n (Ok m) (Ok (m.0, ts)) k (Ok ts, t, refl), e))

join_named : (p : List CheckedMethod) (count : ℕ) (last : Option ℕ) (l : Line) (ls : List Line) (rec : (n : Named) → Joins p count (Some n.actor) ls) (x : Result (List Named × List Line) WorkFault) (r : Result (List Named × List Tx) WorkFault)
    → first_named count last l ls x → Goes (after p count) x r → named_first p count last l ls r
join_named p count last l ls rec x r (Err f, h, e) g = (Err f, h, (rw e at g))
join_named p count last l ls rec x r (Ok n, h, (Err f, k, e)) g = (Ok n, h, (Err f, rec n (Err f) (Err f) k refl, (rw e at g)))
join_named p count last l ls rec x r (Ok n, h, (Ok m, k, e)) g = join_txs p count last l ls rec r n h m k (rw e at g)

join_by : (t : Bool) (p : List CheckedMethod) (count : ℕ) (last : Option ℕ) (l : Line) (ls : List Line) (rec : (n : Named) → Joins p count (Some n.actor) ls) → first_is_actor (words l.bytes) ≡ t → Joins p count last (l ∷ ls)
join_by true p count last l ls rec is x r h g = rw is (join_named p count last l ls rec x r (rw is at h) g)
join_by false p count last l ls rec is x r h g = let e : x ≡ Ok ([], l ∷ ls) = rw is at h in rw is (rw e at g)

no_lines : (p : List CheckedMethod) (count : ℕ) (r : Result (List Named × List Tx) WorkFault) → after p count ([], []) r → r ≡ Ok ([], [])
no_lines p count r (x, h, g) = rw h at g

joins : (p : List CheckedMethod) (count : ℕ) (last : Option ℕ) (ls : List Line) → Joins p count last ls
joins p count last [] x r h g = no_lines p count r (rw h at g)
joins p count last (l ∷ ls) x r h g = join_by (first_is_actor (words l.bytes)) p count last l ls (λ n. joins p count (Some n.actor) ls) refl x r h g

-- ---- the end

pub end_found : (p : List CheckedMethod) (count : ℕ) (ls behind : List Line) (given : List State) (txs : List Tx) → states count ls (Ok (given, behind)) → transactions p count 0 behind (Ok txs) → ending p count ls (Ok (given, txs))
end_found p count ls behind given txs (Err f, h, e) a = cc
end_found p count ls behind given txs (Ok s, h, e) a =
    let first : ◌≡◌ {A = List State × List Line} (given, behind) (states_in s.0 0 count, s.1) = cc in
    let same : behind ≡ s.1 = ap (λ (x : List State × List Line). x.1) first in
    let all : given ≡ states_in s.0 0 count = ap (λ (x : List State × List Line). x.0) first in
    (Ok (s.0, txs), joins p count None ls (Ok s) (Ok (s.0, txs)) h (Ok txs, (rw same at a), refl), rw all refl)

pub end_stops : (p : List CheckedMethod) (count : ℕ) (ls : List Line) (why : WorkNo) → IsNo (states count ls) why → IsNo (ending p count ls) why
end_stops p count ls (no.Fault f) (Ok s, h, e) = cc
end_stops p count ls (no.Fault f) (Err g, h, e) = let same : f ≡ g = cc in (Err g, joins p count None ls (Err g) (Err g) h refl, ap (λ (y : WorkFault). Err y) same)
end_stops p count ls no.Memory h = tt

pub end_fails : (p : List CheckedMethod) (count : ℕ) (ls behind : List Line) (given : List State) (why : WorkNo) → states count ls (Ok (given, behind)) → IsNo (transactions p count 0 behind) why → IsNo (ending p count ls) why
end_fails p count ls behind given no.Memory s a = tt
end_fails p count ls behind given (no.Fault f) (Err g, h, e) a = cc
end_fails p count ls behind given (no.Fault f) (Ok s, h, e) a =
    let first : ◌≡◌ {A = List State × List Line} (given, behind) (states_in s.0 0 count, s.1) = cc in
    let same : behind ≡ s.1 = ap (λ (x : List State × List Line). x.1) first in
    (Err f, joins p count None ls (Ok s) (Err f) h (Err f, (rw same at a), refl), refl)
