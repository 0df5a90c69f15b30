-- Reading names, as the functions of the code read them.
use Rattle.std.proofs.Common.{◌≡◌, ℕ, ◌+◌, ◌<◌, ◌≤◌, nat_lt, nat_le, true, false, List, [], ◌∷◌, Option, Some, None, refl, sym, ap, subst, slice_get, rules, tests}
use Rattle.aml_tokens.specs.declared.tokens.TextCause.TheVariants.{Unexpected, TooMany, NumberRange}
use Rattle.aml_tokens.specs.declared.tokens.Word.{Word}
use Rattle.aml_tokens.specs.Token.{Token}
use Rattle.aml_tokens.specs.Token as token
use Rattle.aml_parser.specs.declared.readers.ReadNo.{ReadNo}
use Rattle.aml_parser.specs.declared.readers.ReadNo.TheVariants as no
use Rattle.aml_tree.specs.Limits.{named, parameter, code_mark}
use Rattle.aml_parser.specs.Items.{Item, Called, New, Parameter, Failing, Block, Plain, Names, Parametrizes, Codes, single}
use Rattle.aml_tree.specs.Tree.{End}
use Rattle.aml_parser.specs.Reading.{Fault, FailsToRead, Takes, StopsAt, there, is_name, brace_there, number_there}
use Rattle.aml_parser.proofs.Steps.{takes_none, takes_by, stops_limit, stops_none, NoBegin}

not_named : (o : Option Token) → there is_name o ≡ false → NoBegin Called o × NoBegin New o × NoBegin Parameter o
not_named None e = (λ s at. refl, λ s at. refl, λ s at. refl)
not_named (Some (token.Name w)) e = absurd cc
not_named (Some _) e = (refl, refl, refl)

at_end : {ts : List Token} {i : Item} {v : _} {names at after end : ℕ} → end ≡ at + 1 → Takes ts (i ∷ []) v names at after (at + 1) → Takes ts (i ∷ []) v names at after end
at_end {ts} {i} {v} {names} {at} {after} {end} e x = subst (λ (n : ℕ). Takes ts (i ∷ []) v names at after n) (sym e) x

pub called_takes : (ts : List Token) (names at end : ℕ) (w : Word) → slice_get ts at ≡ Some (token.Name w) → end ≡ at + 1 → Takes ts (Called ∷ []) (w, tt) names at names end
called_takes ts names at end w is e = at_end e (takes_by ts Called (token.Name w) (single Plain w) tt names at names (at + 1) is refl refl (takes_none ts names (at + 1)))

pub called_stops : (ts : List Token) (names at : ℕ) (fault : Fault) → fault ≡ (at, Unexpected) → there is_name (slice_get ts at) ≡ false → StopsAt ts (Called ∷ []) names at fault
called_stops ts names at fault e none = subst (λ (f : Fault). StopsAt ts (Called ∷ []) names at f) (sym e) (stops_none ts Called names at (slice_get ts at) refl (not_named (slice_get ts at) none).0)

few_names : (names : ℕ) → names < 32 → named names ≡ None
few_names names lt = let e : nat_lt names 32 ≡ true = search (rules, tests) in rw e refl

many_names : (names : ℕ) → 32 ≤ names → named names ≡ Some TooMany
many_names names le = let e : nat_lt names 32 ≡ false = search (rules, tests) in rw e refl

pub new_takes : (ts : List Token) (names at end : ℕ) (w : Word) → slice_get ts at ≡ Some (token.Name w) → end ≡ at + 1 → names < 32 → Takes ts (New ∷ []) (w, tt) names at (names + 1) end
new_takes ts names at end w is e lt = at_end e (takes_by ts New (token.Name w) (single Names w) tt names at (names + 1) (at + 1) is refl (few_names names lt) (takes_none ts (names + 1) (at + 1)))

pub new_stops : (ts : List Token) (names at : ℕ) (fault : Fault) → fault ≡ (at, Unexpected) → there is_name (slice_get ts at) ≡ false → StopsAt ts (New ∷ []) names at fault
new_stops ts names at fault e none = subst (λ (f : Fault). StopsAt ts (New ∷ []) names at f) (sym e) (stops_none ts New names at (slice_get ts at) refl (not_named (slice_get ts at) none).1)

pub new_many : (ts : List Token) (names at : ℕ) (w : Word) → slice_get ts at ≡ Some (token.Name w) → 32 ≤ names → StopsAt ts (New ∷ []) names at (at, TooMany)
new_many ts names at w is le = stops_limit ts New (token.Name w) (single Names w) names at TooMany is refl (many_names names le)

few_parameters : (names : ℕ) → names < 8 → parameter names ≡ None
few_parameters names lt = let e : nat_lt names 8 ≡ true = search (rules, tests) in rw e refl

many_parameters : (names : ℕ) → 8 ≤ names → parameter names ≡ Some TooMany
many_parameters names le = let e : nat_lt names 8 ≡ false = search (rules, tests) in rw e refl

pub parameter_takes : (ts : List Token) (names at end : ℕ) (w : Word) → slice_get ts at ≡ Some (token.Name w) → end ≡ at + 1 → names < 8 → Takes ts (Parameter ∷ []) (w, tt) names at (names + 1) end
parameter_takes ts names at end w is e lt = at_end e (takes_by ts Parameter (token.Name w) (single Parametrizes w) tt names at (names + 1) (at + 1) is refl (few_parameters names lt) (takes_none ts (names + 1) (at + 1)))

pub parameter_stops : (ts : List Token) (names at : ℕ) (fault : Fault) → fault ≡ (at, Unexpected) → there is_name (slice_get ts at) ≡ false → StopsAt ts (Parameter ∷ []) names at fault
parameter_stops ts names at fault e none = subst (λ (f : Fault). StopsAt ts (Parameter ∷ []) names at f) (sym e) (stops_none ts Parameter names at (slice_get ts at) refl (not_named (slice_get ts at) none).2)

pub parameter_many : (ts : List Token) (names at : ℕ) (w : Word) → slice_get ts at ≡ Some (token.Name w) → 8 ≤ names → StopsAt ts (Parameter ∷ []) names at (at, TooMany)
parameter_many ts names at w is le = stops_limit ts Parameter (token.Name w) (single Parametrizes w) names at TooMany is refl (many_parameters names le)

-- ---- no name there

abbrev pub NotNamed : List Token → ℕ → Fault → Type 0
NotNamed ts at fault = (fault ≡ (at, Unexpected)) × (there is_name (slice_get ts at) ≡ false)

pub called_fails : (ts : List Token) (at : ℕ) (e : ReadNo) → FailsToRead (NotNamed ts at) e → FailsToRead (λ fault. (names : ℕ) → StopsAt ts (Called ∷ []) names at fault) e
called_fails ts at no.Memory h = tt
called_fails ts at (no.At place cause) h = λ names. called_stops ts names at (place, cause) h.0 h.1

pub new_fails : (ts : List Token) (names at : ℕ) (e : ReadNo) → FailsToRead (NotNamed ts at) e → FailsToRead (λ fault. StopsAt ts (New ∷ []) names at fault) e
new_fails ts names at no.Memory h = tt
new_fails ts names at (no.At place cause) h = new_stops ts names at (place, cause) h.0 h.1

pub parameter_fails : (ts : List Token) (names at : ℕ) (e : ReadNo) → FailsToRead (NotNamed ts at) e → FailsToRead (λ fault. StopsAt ts (Parameter ∷ []) names at fault) e
parameter_fails ts names at no.Memory h = tt
parameter_fails ts names at (no.At place cause) h = parameter_stops ts names at (place, cause) h.0 h.1

-- ---- the end of a block

brace_is : (o : Option Token) (line : ℕ) → brace_there o ≡ Some line → o ≡ Some (token.CloseBrace line)
brace_is None line e = absurd cc
brace_is (Some (token.CloseBrace l)) line e = let same : l ≡ line = cc in ap (λ (n : ℕ). Some (token.CloseBrace n)) same
brace_is (Some _) line e = absurd cc

pub brace_takes : (ts : List Token) (depth names at line : ℕ) → brace_there (slice_get ts at) ≡ Some line → Takes ts (Block depth ∷ []) (End line, tt) names at names (at + 1)
brace_takes ts depth names at line is = takes_by ts (Block depth) (token.CloseBrace line) (single Plain (End line)) tt names at names (at + 1) (brace_is (slice_get ts at) line is) refl refl (takes_none ts names (at + 1))

-- ---- the code behind `fail`

number_is : (o : Option Token) (n : ℕ) → number_there o ≡ Some n → o ≡ Some (token.Number n)
number_is None n e = absurd cc
number_is (Some (token.Number m)) n e = let same : m ≡ n = cc in ap (λ (k : ℕ). Some (token.Number k)) same
number_is (Some _) n e = absurd cc

no_number : (o : Option Token) → number_there o ≡ None → NoBegin Failing o
no_number None e = λ s at. refl
no_number (Some (token.Number m)) e = absurd cc
no_number (Some _) e = refl

in_range : (n : ℕ) → 1 ≤ n → n ≤ 999 → code_mark n ≡ None
in_range n a b = let x : nat_le 1 n ≡ true = search (rules, tests) in let y : nat_le n 999 ≡ true = search (rules, tests) in rw (x, y) refl

below_range : (n : ℕ) → n < 1 → code_mark n ≡ Some NumberRange
below_range n a = let x : nat_le 1 n ≡ false = search (rules, tests) in rw x refl

above_range : (n : ℕ) → 999 < n → code_mark n ≡ Some NumberRange
above_range n a = let x : nat_le 1 n ≡ true = search (rules, tests) in let y : nat_le n 999 ≡ false = search (rules, tests) in rw (x, y) refl

pub failing_takes : (ts : List Token) (names at n : ℕ) → number_there (slice_get ts at) ≡ Some n → 1 ≤ n → n ≤ 999 → Takes ts (Failing ∷ []) (n, tt) names at names (at + 1)
failing_takes ts names at n is a b = takes_by ts Failing (token.Number n) (single (Codes n) n) tt names at names (at + 1) (number_is (slice_get ts at) n is) refl (in_range n a b) (takes_none ts names (at + 1))

pub failing_below : (ts : List Token) (names at n : ℕ) → number_there (slice_get ts at) ≡ Some n → n < 1 → StopsAt ts (Failing ∷ []) names at (at, NumberRange)
failing_below ts names at n is a = stops_limit ts Failing (token.Number n) (single (Codes n) n) names at NumberRange (number_is (slice_get ts at) n is) refl (below_range n a)

pub failing_above : (ts : List Token) (names at n : ℕ) → number_there (slice_get ts at) ≡ Some n → 999 < n → StopsAt ts (Failing ∷ []) names at (at, NumberRange)
failing_above ts names at n is a = stops_limit ts Failing (token.Number n) (single (Codes n) n) names at NumberRange (number_is (slice_get ts at) n is) refl (above_range n a)

pub failing_none : (ts : List Token) (names at : ℕ) → number_there (slice_get ts at) ≡ None → StopsAt ts (Failing ∷ []) names at (at, Unexpected)
failing_none ts names at none = stops_none ts Failing names at (slice_get ts at) refl (no_number (slice_get ts at) none)
