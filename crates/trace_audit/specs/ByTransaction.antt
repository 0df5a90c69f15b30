-- What is found by the number of a transaction: where the first element of a list that names it stands, and the batch that it is
-- told failed with it.
use Rattle.std.specs.Prelude.{◌≡◌, ℕ, ◌<◌, ◌==◌, Bool, false, Option, Some, None, List, [], ◌∷◌, length, find, slice_get, slice_set, ⊤}
use Rattle.std.specs.List.{list_any}
use Rattle.snap_base.specs.declared.ids.Bid.{Bid}
use Rattle.snap_base.specs.declared.verdicts.Verdict.TheVariants as verdicts
use Rattle.protocol.specs.Parts.{Pact}
use Rattle.audit_words.specs.Audited.{EachLine}
use Rattle.audit_words.specs.Clauses.{is_answered}
use Rattle.audit_words.specs.Papers.{Line, Reply}
use Rattle.audit_tale.specs.declared.tales.ActTale.{ActTale}
use Rattle.audit_tale.specs.declared.tales.BatchTale.{BatchTale}

-- ---- places

-- the place that was noted first, or else this one
abbrev pub first_noted : ℕ → Option (Option ℕ) → Option ℕ
first_noted at None = Some at
first_noted at (Some None) = Some at
first_noted at (Some (Some i)) = Some i

-- the element at this place names transaction n; one that is not among those that are kept is left out
abbrev pub noted : ℕ → ℕ → List (Option ℕ) → List (Option ℕ)
noted n at places = slice_set places n (first_noted at (slice_get places n))

-- it names the transactions of these PACTs
abbrev pub all_noted : ℕ → List Pact → List (Option ℕ) → List (Option ℕ)
all_noted at [] places = places
all_noted at (p ∷ ps) places = all_noted at ps (noted p.tx at places)

-- where the first element that passes stands
abbrev pub PointsTo : {X : Type 0} → (X → Bool) → List X → Option ℕ → Type 0
PointsTo p xs None = find p xs ≡ None
PointsTo p xs (Some i) = (i < length xs) × (find p xs ≡ slice_get xs i)

-- for each transaction that is kept, where the first element that names it stands
abbrev pub IsIndex : {X : Type 0} → (ℕ → X → Bool) → List X → List (Option ℕ) → Type 0
IsIndex names xs places = (n : ℕ) (o : Option ℕ) → slice_get places n ≡ Some o → PointsTo (names n) xs o

-- it is the ACT of transaction n
abbrev pub is_act_for : ℕ → ActTale → Bool
is_act_for n x = x.tx.0 == n

-- a PACT of the batch is transaction n
abbrev pub has_pact : ℕ → BatchTale → Bool
has_pact n b = list_any (λ q. q.tx == n) b.formed.pacts

-- ---- lines

-- a reply is the first one to its transaction, which is one of so many
abbrev pub IsNewReply : ℕ → List Line → Line → Type 0
IsNewReply txs front (Reply n v) = (n < txs) × (is_answered n front ≡ false)
IsNewReply txs front _ = ⊤

-- each transaction is answered once at most
abbrev pub AreAnswers : ℕ → List Line → Type 0
AreAnswers txs ls = EachLine (IsNewReply txs) [] ls

-- a line that tells that a batch failed with a transaction is noted there
abbrev pub code_noted : Line → List (Option Bid) → List (Option Bid)
code_noted (Reply n (verdicts.BatchCode k at code)) codes = slice_set codes n (Some k)
code_noted _ codes = codes

-- batch k is noted
abbrev pub is_noted : ℕ → Option (Option Bid) → Bool
is_noted k None = false
is_noted k (Some None) = false
is_noted k (Some (Some j)) = j.0 == k
