-- The lines behind the number of actors: each actor's, and then each transaction's.
use Rattle.std.proofs.Common.{◌≡◌, ℕ, pos, zero, suc, ◌+◌, ◌<◌, ◌≤◌, Bool, true, false, List, [], ◌∷◌, ◌++◌, map, codes, refl, arith, ap, sym, ◌∙◌}
use Rattle.std.specs.Prelude.{Option, Some, IfSome, Result, Ok}
use Rattle.std.specs.List.{range_with_len}
use Rattle.std.specs.Fmt.{decimal, signed_decimal}
use Rattle.std.proofs.lemmas.Fmt.{decimal-digits_of}
use Rattle.snap_base.specs.declared.transactions.Tx.{Tx}
use Rattle.snap_work.specs.declared.faults.WorkFault.{WorkFault}
use Rattle.work_text.specs.Lines.{Line, words, numbered}
use Rattle.work_text.specs.Readings.{ReadingOf, ◌>>=◌, gives, whether}
use Rattle.work_text.specs.Actors.{Named, actor}
use Rattle.work_text.specs.Reads.{first_is_actor, transactions, tail}
use Rattle.work_gen.specs.Generated.{drawn, transaction_line, actor_line}
use Rattle.work_gen.proofs.Asked.{tx_of, line_asks, no_actor}
use Rattle.work_gen.proofs.Methods.{program}
use Rattle.work_gen.proofs.Plain.{plain_number, words_front}
use Rattle.work_gen.proofs.Ranges.{is_drawn}

first_by : {A : Type 0} (t : Bool) (first other : ReadingOf A) (r : Result A WorkFault) → t ≡ true → first r → whether t first other r
first_by t first other r e h = rw e h

other_by : {A : Type 0} (t : Bool) (first other : ReadingOf A) (r : Result A WorkFault) → t ≡ false → other r → whether t first other r
other_by t first other r e h = rw e h

-- ---- transactions

abbrev pub line_at : ℕ → ℕ → List ℕ
line_at seed k = transaction_line (drawn seed k)

abbrev pub tx_at : ℕ → ℕ → Tx
tx_at seed k = tx_of (drawn seed k)

asked : (seed i n before k : ℕ) → before + n ≤ 20000 → transactions program 256 before (numbered k (map (line_at seed) (range_with_len i n))) (Ok (map (tx_at seed) (range_with_len i n)))
asked seed i zero before k le = refl
asked seed i (suc n) before k le = (
  Ok (tx_at seed i),
  line_asks (drawn seed i) before (record { number = k; bytes = line_at seed i }) refl (is_drawn seed i) (omega arith),
  (Ok (map (tx_at seed) (range_with_len (i + 1) n)), asked seed (i + 1) n (before + 1) (k + 1) (omega arith), refl),
)

tail_asked : (seed i n k : ℕ) (last : Option ℕ) → n ≤ 20000 → tail program 256 last (numbered k (map (line_at seed) (range_with_len i n))) (Ok ([], map (tx_at seed) (range_with_len i n)))
tail_asked seed i zero k last le = refl
tail_asked seed i (suc n) k last le =
    other_by (first_is_actor (words (line_at seed i))) _ _ _ (no_actor (drawn seed i) (is_drawn seed i))
    (Ok (map (tx_at seed) (range_with_len i (suc n))), asked seed i (suc n) 0 k (omega arith), refl)

-- ---- actors

abbrev pub named_at : ℕ → Named
named_at a = record { actor = a; values = pos 1000 ∷ pos 1000 ∷ [] }

thousand : signed_decimal (pos 1000) ≡ codes "1000"
thousand = decimal-digits_of 1000 (omega arith) (omega arith)

actor_words : (a : ℕ) → a < 256 → words (actor_line a) ≡ codes "actor" ∷ decimal a ∷ map signed_decimal (pos 1000 ∷ pos 1000 ∷ [])
actor_words a lt =
    ap (λ ws. codes "actor" ∷ ws) (words_front (decimal a) (codes "1000 1000") (plain_number a (omega (arith, lt))))
    ∙ ap (λ w. codes "actor" ∷ decimal a ∷ w ∷ w ∷ []) (sym thousand)

is_actor : (a k : ℕ) (last : Option ℕ) → a < 256 → IfSome last (λ before. before < a) → actor 256 last (record { number = k; bytes = actor_line a }) (Ok (named_at a))
is_actor a k last lt above = (
  record {
    spelled = actor_words a lt;
    known = lt;
    ascends = above;
    some = omega arith;
    fit = (omega arith, (omega arith, tt));
  },
  omega arith,
)

-- a line that names an actor, and the lines behind it
abbrev named_first : Option ℕ → Line → List Line → ReadingOf (List Named × List Tx)
named_first last l ls = actor 256 last l >>= λ n. tail program 256 (Some n.actor) ls >>= λ more. gives (n ∷ more.0, more.1)

-- and one that asks for a transaction, as all behind it
abbrev asked_first : Line → List Line → ReadingOf (List Named × List Tx)
asked_first l ls = transactions program 256 0 (l ∷ ls) >>= λ txs. gives ([], txs)

abbrev pub lines_from : ℕ → ℕ → ℕ → ℕ → ℕ → List Line
lines_from seed n a m k = numbered k (map actor_line (range_with_len a m) ++ map (line_at seed) (range_with_len 0 n))

abbrev pub tail_from : ℕ → ℕ → ℕ → ℕ → Result (List Named × List Tx) WorkFault
tail_from seed n a m = Ok (map named_at (range_with_len a m), map (tx_at seed) (range_with_len 0 n))

one_named : (seed n a m k : ℕ) (last : Option ℕ) → actor 256 last (record { number = k; bytes = actor_line a }) (Ok (named_at a)) → tail program 256 (Some a) (lines_from seed n (a + 1) m (k + 1)) (tail_from seed n (a + 1) m)
    → named_first last (record { number = k; bytes = actor_line a }) (lines_from seed n (a + 1) m (k + 1)) (tail_from seed n a (suc m))
one_named seed n a m k last h rest = (Ok (named_at a), h, (tail_from seed n (a + 1) m, rest, refl))

pub all_named : (seed n a m k : ℕ) (last : Option ℕ) → n ≤ 20000 → a + m ≤ 256 → IfSome last (λ before. before < a) → tail program 256 last (lines_from seed n a m k) (tail_from seed n a m)
all_named seed n a zero k last le most above = tail_asked seed 0 n k last le
all_named seed n a (suc m) k last le most above =
    first_by (first_is_actor (words (actor_line a))) (named_first last (record { number = k; bytes = actor_line a }) (lines_from seed n (a + 1) m (k + 1))) (asked_first (record { number = k; bytes = actor_line a }) (lines_from seed n (a + 1) m (k + 1))) _ (ap first_is_actor (actor_words a (omega arith)))
    (one_named seed n a m k last (is_actor a k last (omega arith) above) (all_named seed n (a + 1) m (k + 1) (Some a) le (omega arith) (omega arith)))
