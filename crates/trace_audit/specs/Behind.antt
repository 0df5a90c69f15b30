-- Clauses with those behind them: that they hold, and which of them is false first, and where.
use Rattle.std.specs.Prelude.{ℕ, List, [], length}
use Rattle.protocol.specs.Fixed.{Text}
use Rattle.audit_words.specs.Audited.{EachLine, HasShape, IsShapeOff, LinesOff, OrBehind, ShapeOf}
use Rattle.audit_words.specs.Clauses.{Language, TellsEvidence, TellsMeaning, TellsOrder, TellsPlace}
use Rattle.audit_words.specs.Papers.{Line}
use Rattle.audit_words.specs.Seen.{Seen}

-- ---- they hold

-- the evidence
abbrev pub HasEvidence : Language → Text → Seen → List Line → Type 0
HasEvidence p w s ls = EachLine (TellsEvidence p.meaning w s ls) [] ls

-- the order of placing, and the evidence
abbrev pub HasOrder : Language → Text → Seen → List Line → Type 0
HasOrder p w s ls = EachLine (TellsOrder s) [] ls × HasEvidence p w s ls

-- what the language means, and those behind it
abbrev pub HasMeaning : Language → Text → Seen → List Line → Type 0
HasMeaning p w s ls = EachLine (TellsMeaning p.meaning w ls) [] ls × HasOrder p w s ls

-- the places, and those behind them
abbrev pub HasPlaces : Language → Text → Seen → List Line → Type 0
HasPlaces p w s ls = EachLine (TellsPlace s) [] ls × HasMeaning p w s ls

-- the shape, and those behind it
abbrev pub HasForm : Language → Text → Seen → List Line → Type 0
HasForm p w s ls = ShapeOf HasShape w s ls × HasPlaces p w s ls

-- ---- one of them is false first

abbrev pub IsEvidenceOff : Language → Text → Seen → List Line → ℕ → ℕ → Type 0
IsEvidenceOff p w s ls = LinesOff (TellsEvidence p.meaning w s ls) ls 6 (λ clause at. ⊥)

abbrev pub IsOrderOff : Language → Text → Seen → List Line → ℕ → ℕ → Type 0
IsOrderOff p w s ls = LinesOff (TellsOrder s) ls 5 (IsEvidenceOff p w s ls)

abbrev pub IsMeaningOff : Language → Text → Seen → List Line → ℕ → ℕ → Type 0
IsMeaningOff p w s ls = LinesOff (TellsMeaning p.meaning w ls) ls 4 (IsOrderOff p w s ls)

abbrev pub IsPlaceOff : Language → Text → Seen → List Line → ℕ → ℕ → Type 0
IsPlaceOff p w s ls = LinesOff (TellsPlace s) ls 3 (IsMeaningOff p w s ls)

abbrev pub IsFormOff : Language → Text → Seen → List Line → ℕ → ℕ → Type 0
IsFormOff p w s ls = OrBehind (ShapeOf HasShape w s ls) (IsShapeOff (length w.txs) (length w.opening.states) (length s.settled) ls) 2 (IsPlaceOff p w s ls)
