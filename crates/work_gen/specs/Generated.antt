-- The text of a work that a seed draws.
use Rattle.std.specs.Prelude.{ℕ, ◌+◌, ◌*◌, ◌%◌, ◌==◌, nat_lt, nat_le, if◌then◌else◌, List, [], ◌∷◌, ◌++◌, map, codes}
use Rattle.std.specs.List.{range_with_len}
use Rattle.std.specs.Fmt.{decimal}
use Rattle.rand_pcg.specs.Lcg.{Lcg, started, increment_of, advance}
use Rattle.rand_pcg.specs.Pcg.{multiplier_64, output_xsh_rr}
use Rattle.work_text.specs.Lines.{text_of}
use Rattle.work_gen.specs.declared.draws.Method.{Method}
use Rattle.work_gen.specs.declared.draws.Method.TheVariants.{Balance, Deposit, Savings, Amalgamate, Check}
use Rattle.work_gen.specs.declared.draws.Drawn.{Drawn}

-- ---- what is drawn

-- the words of a seed are those of PCG32 on stream 1: word i is the output of the generator's state after i steps
abbrev pub text_generator : ℕ → Lcg
text_generator seed = started 64 multiplier_64 seed (increment_of 64 1)

abbrev pub word : ℕ → ℕ → ℕ
word seed i = output_xsh_rr (advance 64 multiplier_64 i (text_generator seed)).state

abbrev pub method_of : ℕ → Method
method_of n =
    if n == 0 then Balance else (if n == 1 then Deposit else (if n == 2 then Savings else (if n == 3 then Amalgamate else Check)))

-- the n-th of the actors other than one
abbrev pub other_than : ℕ → ℕ → ℕ
other_than actor n = if nat_le actor n then n + 1 else n

-- transaction i takes five words
abbrev pub drawn : ℕ → ℕ → Drawn
drawn seed i = record {
  method = method_of (word seed (5 * i) % 5);
  actor = word seed (5 * i + 1) % 256;
  other = other_than (word seed (5 * i + 1) % 256) (word seed (5 * i + 2) % 255);
  amount = 1 + word seed (5 * i + 3) % 50;
  is_act = word seed (5 * i + 4) % 4 == 0;
}

-- ---- its line

abbrev pub name : Method → List ℕ
name Balance = codes "balance"
name Deposit = codes "deposit"
name Savings = codes "savings"
name Amalgamate = codes "amalgamate"
name Check = codes "check"

-- the argument, with a blank in front
abbrev pub argument : Method → ℕ → ℕ → List ℕ
argument Balance other amount = []
argument Deposit other amount = codes " " ++ decimal amount
argument Savings other amount = codes " " ++ decimal amount
argument Amalgamate other amount = codes " " ++ decimal other
argument Check other amount = codes " " ++ decimal amount

-- one access of an actor, or of each of two, with a blank in front
abbrev pub one_use : ℕ → List ℕ
one_use actor = codes " " ++ (decimal actor ++ codes ":1")

abbrev pub two_uses : ℕ → ℕ → List ℕ
two_uses first second = codes " " ++ (decimal first ++ (codes ":1 " ++ (decimal second ++ codes ":1")))

-- the actors of a PACT, ascending
abbrev pub uses : Method → ℕ → ℕ → List ℕ
uses Amalgamate actor other = if nat_lt actor other then two_uses actor other else two_uses other actor
uses Balance actor other = one_use actor
uses Deposit actor other = one_use actor
uses Savings actor other = one_use actor
uses Check actor other = one_use actor

abbrev pub call : Drawn → List ℕ
call d = codes " " ++ (decimal d.actor ++ (codes " " ++ (name d.method ++ argument d.method d.other d.amount)))

abbrev pub transaction_line : Drawn → List ℕ
transaction_line d =
    if d.is_act
    then codes "act" ++ call d
    else codes "pact" ++ (call d ++ (codes " uses" ++ uses d.method d.actor d.other))

-- ---- the text

abbrev pub program_lines : List (List ℕ)
program_lines =
    codes "method balance() { return f0 + f1; }"
    ∷ codes "method deposit(v) { f0 = f0 + v; return f0; }"
    ∷ codes "method savings(v) { f1 = f1 + v; return f1; }"
    ∷ codes "method amalgamate(b) { let s = f0 + f1; f0 = 0; f1 = 0; let r = call b deposit(s); return r; }"
    ∷ codes "method check(v) { if f0 + f1 < v { f0 = f0 - v - 1; return f0; } f0 = f0 - v; return f0; }"
    ∷ []

abbrev pub setting_lines : List (List ℕ)
setting_lines =
    codes "snapper 1" ∷ codes "coordinators 4" ∷ codes "logs 2"
    ∷ codes "batch 32" ∷ codes "batches 8" ∷ codes "acts 16" ∷ []

abbrev pub head_lines : List (List ℕ)
head_lines = setting_lines ++ codes "program" ∷ (program_lines ++ codes "end" ∷ codes "actors 256" ∷ [])

abbrev pub actor_line : ℕ → List ℕ
actor_line actor = codes "actor " ++ (decimal actor ++ codes " 1000 1000")

abbrev pub actor_lines : ℕ → List (List ℕ)
actor_lines count = map actor_line (range_with_len 0 count)

abbrev pub transaction_lines : ℕ → ℕ → List (List ℕ)
transaction_lines seed n = map (λ i. transaction_line (drawn seed i)) (range_with_len 0 n)

abbrev pub generated_lines : ℕ → ℕ → List (List ℕ)
generated_lines n seed = head_lines ++ (actor_lines 256 ++ transaction_lines seed n)

-- a line feed ends each line
abbrev pub generated_text : ℕ → ℕ → List ℕ
generated_text n seed = text_of (generated_lines n seed)
