-- The generated text stands for a work.
use Rattle.std.proofs.Common.{◌≡◌, ℕ, ◌+◌, ◌≤◌, Bool, true, List, [], ◌∷◌, ◌++◌, length, map, drop, codes, refl, arith, ap, sym, ◌∙◌, subst, inr, length-append}
use Rattle.std.specs.Prelude.{None, Ok}
use Rattle.std.specs.List.{AllByRecursion, range_with_len}
use Rattle.std.proofs.lemmas.Fmt.{decimal-digits_of, decimal_digit}
use Rattle.std.proofs.lemmas.List.FromFn.{length-map-range_with_len}
use Rattle.snap_base.specs.Lines.{lines}
use Rattle.snap_base.specs.declared.transactions.Tx.{Tx}
use Rattle.snap_work.specs.Works.{Work}
use Rattle.work_text.specs.Lines.{Line, numbered, says, said}
use Rattle.work_text.specs.Actors.{Named}
use Rattle.work_text.specs.Settings.{setting, coordinators, logs, batch, batches, acts, actors}
use Rattle.work_text.specs.Reads.{Setup, work_with, tail, reads_lines, IsWork}
use Rattle.work_gen.specs.Generated.{head_lines, actor_line, actor_lines, transaction_lines, generated_lines, generated_text}
use Rattle.work_gen.proofs.Methods.{methods, program, program_text, checked}
use Rattle.work_gen.proofs.Plain.{IsKept, lines_of, utf8_of, length_of}
use Rattle.work_gen.proofs.Ranges.{kept_head, kept_actors, kept_transactions}
use Rattle.work_gen.proofs.Tails.{named_at, tx_at, all_named}

-- ---- the settings

four : setting coordinators (record { number = 2; bytes = codes "coordinators 4" }) (Ok 4)
four = ((ap (λ ds. codes "coordinators " ++ ds) (sym (decimal_digit 4 (omega arith))), omega arith), omega arith, omega arith)

two : setting logs (record { number = 3; bytes = codes "logs 2" }) (Ok 2)
two = ((ap (λ ds. codes "logs " ++ ds) (sym (decimal_digit 2 (omega arith))), omega arith), omega arith, omega arith)

thirty_two : setting batch (record { number = 4; bytes = codes "batch 32" }) (Ok 32)
thirty_two = ((ap (λ ds. codes "batch " ++ ds) (sym (decimal-digits_of 32 (omega arith) (omega arith))), omega arith), omega arith, omega arith)

eight : setting batches (record { number = 5; bytes = codes "batches 8" }) (Ok 8)
eight = ((ap (λ ds. codes "batches " ++ ds) (sym (decimal_digit 8 (omega arith))), omega arith), omega arith, omega arith)

sixteen : setting acts (record { number = 6; bytes = codes "acts 16" }) (Ok 16)
sixteen = ((ap (λ ds. codes "acts " ++ ds) (sym (decimal-digits_of 16 (omega arith) (omega arith))), omega arith), omega arith, omega arith)

many : setting actors (record { number = 14; bytes = codes "actors 256" }) (Ok 256)
many = ((ap (λ ds. codes "actors " ++ ds) (sym (decimal-digits_of 256 (omega arith) (omega arith))), omega arith), omega arith, omega arith)

-- ---- the lines in their order

abbrev behind : ℕ → List (List ℕ) → List Line
behind k body = numbered (k + 1) (drop k (head_lines ++ body))

abbrev set_up : Setup
set_up = record { coordinators = 4; logs = 2; batch = 32; batches = 8; acts = 16; program = program; actors = 256 }

reads_all : (last : ℕ) (body : List (List ℕ)) (named : List Named) (txs : List Tx) → tail program 256 None (said (numbered 15 body)) (Ok (named, txs)) → reads_lines last (numbered 1 (head_lines ++ body)) (Ok (work_with set_up named txs))
reads_all last body named txs h = (
  Ok (1, behind 1 body),
  (Ok 1, refl, refl),
  (
    Ok (4, behind 2 body),
    (Ok 4, four, refl),
    (
      Ok (2, behind 3 body),
      (Ok 2, two, refl),
      (
        Ok (32, behind 4 body),
        (Ok 32, thirty_two, refl),
        (
          Ok (8, behind 5 body),
          (Ok 8, eight, refl),
          (
            Ok (16, behind 6 body),
            (Ok 16, sixteen, refl),
            (
              Ok (7, behind 7 body),
              (Ok 7, refl, refl),
              (
                Ok (program, behind 13 body),
                (Ok program, (methods, program_text, checked), refl),
                (
                  Ok (256, numbered 15 body),
                  (Ok 256, many, refl),
                  (Ok (named, txs), h, refl),
                ),
              ),
            ),
          ),
        ),
      ),
    ),
  ),
)

-- ---- no line is skipped

said_by : (t : Bool) (l : Line) (ls : List Line) → says l.bytes ≡ t → t ≡ true → said ls ≡ ls → said (l ∷ ls) ≡ l ∷ ls
said_by t l ls e f h = rw (e, f, h) refl

all_said : (k : ℕ) (ls : List (List ℕ)) → AllByRecursion IsKept ls → said (numbered k ls) ≡ numbered k ls
all_said k [] all = refl
all_said k (l ∷ ls) all = said_by true (record { number = k; bytes = l }) (numbered (k + 1) ls) all.0.said refl (all_said (k + 1) ls all.1)

all_append : (xs ys : List (List ℕ)) → AllByRecursion IsKept xs → AllByRecursion IsKept ys → AllByRecursion IsKept (xs ++ ys)
all_append [] ys f g = g
all_append (x ∷ xs) ys f g = (f.0, all_append xs ys f.1 g)

-- ---- the text

abbrev body : ℕ → ℕ → List (List ℕ)
body n seed = actor_lines 256 ++ transaction_lines seed n

kept_body : (n seed : ℕ) → AllByRecursion IsKept (body n seed)
kept_body n seed = all_append (actor_lines 256) (transaction_lines seed n) (kept_actors 0 256 (omega arith)) (kept_transactions seed 0 n)

kept_lines : (n seed : ℕ) → AllByRecursion IsKept (generated_lines n seed)
kept_lines n seed = all_append head_lines (body n seed) kept_head (kept_body n seed)

abbrev txs : ℕ → ℕ → List Tx
txs n seed = map (tx_at seed) (range_with_len 0 n)

abbrev work : ℕ → ℕ → Work
work n seed = work_with set_up (map named_at (range_with_len 0 256)) (txs n seed)

reads : (n seed last : ℕ) → n ≤ 20000 → reads_lines last (numbered 1 (generated_lines n seed)) (Ok (work n seed))
reads n seed last le =
    reads_all last (body n seed) (map named_at (range_with_len 0 256)) (txs n seed)
    (subst (λ ls. tail program 256 None ls (Ok (map named_at (range_with_len 0 256), txs n seed))) (sym (all_said 15 (body n seed) (kept_body n seed))) (all_named seed n 0 256 15 None le (omega arith) tt))

counted : (n seed : ℕ) → length (generated_lines n seed) ≡ 270 + n
counted n seed =
    length-append head_lines (body n seed)
    ∙ ap (λ k. 14 + k) (length-append (actor_lines 256) (transaction_lines seed n)
    ∙ ap (λ k. k + length (transaction_lines seed n)) (length-map-range_with_len actor_line 0 256)
    ∙ ap (λ k. 256 + k) (length-map-range_with_len _ 0 n))
    ∙ omega arith

is_work : (n seed : ℕ) → n ≤ 20000 → IsWork (generated_text n seed) (work n seed)
is_work n seed le =
    let same : lines (generated_text n seed) ≡ generated_lines n seed = lines_of (generated_lines n seed) (kept_lines n seed) in
    let here = reads n seed (1 + length (lines (generated_text n seed))) le in
    inr (inr (
      omega (arith, length_of (generated_lines n seed) (kept_lines n seed), counted n seed, le),
      utf8_of (generated_lines n seed) (kept_lines n seed),
      subst (λ ls. reads_lines (1 + length (lines (generated_text n seed))) (numbered 1 ls) (Ok (work n seed))) (sym same) here,
    ))

pub generated : (n seed : ℕ) → n ≤ 20000 → (w : Work) × IsWork (generated_text n seed) w × (length w.txs ≡ n)
generated n seed le = (work n seed, is_work n seed le, length-map-range_with_len (tx_at seed) 0 n)
