-- The language is a meaning that the clauses can take: who fails leaves nothing, and one after the other is its serial execution.
use Rattle.std.specs.Prelude.{◌≡◌, refl, ℕ, ℤ, false, Some, Result, Ok, Err, List, [], ◌∷◌}
use Rattle.std.proofs.Common.{ap}
use Rattle.std.proofs.lemmas.Bool.{true≢false}
use Rattle.snap_base.specs.declared.transactions.State.{State}
use Rattle.snap_base.specs.declared.transactions.Tx.{Tx}
use Rattle.aml_slice.specs.aml_tree.Tree.{CheckedMethod}
use Rattle.aml_slice.specs.aml_check.Meaning as meaning
use Rattle.aml_slice.specs.aml_check.Meaning.{Progress, ended_alone}
use Rattle.protocol.specs.Words.{is_value}
use Rattle.snap_base.specs.Outcomes.{Serial}
use Rattle.audit_words.specs.Clauses.{LeavesNothing, serial}

stays : (world : List State) (r : Result (ℤ × Progress) ℕ) → is_value (Some (ended_alone world r).result) ≡ false → (ended_alone world r).world ≡ world
stays world (Ok x) h = absurd (true≢false h)
stays world (Err code) h = refl

pub leaves_nothing : (p : List CheckedMethod) → LeavesNothing (λ world tx. meaning.alone p world tx)
leaves_nothing p world tx h = stays world _ h

pub same_serial : (p : List CheckedMethod) (world : List State) (txs : List Tx) → serial (λ world tx. meaning.alone p world tx) world txs ≡ meaning.serial p world txs
same_serial p world [] = refl
same_serial p world (tx ∷ txs) =
    let first = meaning.alone p world tx in
    ap (λ (rest : Serial). record { results = first.result ∷ rest.results; world = rest.world }) (same_serial p first.world txs)
