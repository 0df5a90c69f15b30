-- On which actors a PACT can stand undone.
use Rattle.std.specs.Prelude.{◌≡◌, ℕ, Bool, true}
use Rattle.protocol.specs.Conditions.{cell_is}
use Rattle.protocol.specs.Fixed.{Text, Fixed, declared, tx_at}
use Rattle.protocol.specs.Parts.{Desk, Machine}
use Rattle.protocol.specs.Words.{holds, is_among, has_undone}
use Rattle.batch_table.specs.Listed.{pact_tx}

-- the PACT has declared the actor
abbrev pub has_declared : Text → Desk → ℕ → ℕ → Bool
has_declared w d t a = holds (λ n. is_among a (declared (tx_at w n))) (pact_tx t d.batches)

-- on those alone that it has declared
abbrev pub UndoneHaveDeclared : {C : Type 0} → Fixed C → Machine C → Type 0
UndoneHaveDeclared w s = (t a : ℕ) → cell_is (λ c. has_undone t c.entries) a s ≡ true → has_declared w.text s.desk t a ≡ true
