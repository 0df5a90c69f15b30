-- A serial execution, one transaction more.
use Rattle.std.proofs.Common.{◌≡◌, ℕ, ◌+◌, ◌<◌, List, [], ◌∷◌, ◌++◌, length, take, get_or, refl, sym, ap, ◌∙◌}
use Rattle.std.proofs.lemmas.List.{take_more}
use Rattle.snap_base.specs.declared.transactions.State.{State}
use Rattle.snap_base.specs.declared.transactions.Tx.{Tx}
use Rattle.snap_base.specs.declared.transactions.TxResult.{TxResult}
use Rattle.aml_tree.specs.Tree.{CheckedMethod}
use Rattle.snap_base.specs.Outcomes.{Alone, Serial}
use Rattle.aml_check.specs.Meaning.{alone, serial}

abbrev pub serial_run : List TxResult → List State → Serial
serial_run results world = record { results = results; world = world }

abbrev then_one : Serial → Alone → Serial
then_one run after = serial_run (run.results ++ after.result ∷ []) after.world

serial-push : (p : List CheckedMethod) (world : List State) (txs : List Tx) (tx : Tx) → serial p world (txs ++ tx ∷ []) ≡ then_one (serial p world txs) (alone p (serial p world txs).world tx)
serial-push p world [] tx = refl
serial-push p world (x ∷ txs) tx =
    ap (λ (run : Serial). serial_run ((alone p world x).result ∷ run.results) run.world) (serial-push p (alone p world x).world txs tx)

pub serial_more : (p : List CheckedMethod) (world now : List State) (txs : List Tx) (i : ℕ) (tx : Tx) (results : List TxResult) (result : TxResult) (next : List State) → i < length txs → tx ≡ get_or txs i tx → serial p world (take i txs) ≡ serial_run results now → alone p now tx ≡ record { result = result; world = next } → serial p world (take (i + 1) txs) ≡ serial_run (results ++ result ∷ []) next
serial_more p world now txs i tx results result next h is so_far one =
    ap (serial p world) (take_more txs i tx h ∙ ap (λ t. take i txs ++ t ∷ []) (sym is))
    ∙ serial-push p world (take i txs) tx
    ∙ ap (λ (run : Serial). then_one run (alone p run.world tx)) so_far
    ∙ ap (then_one (serial_run results now)) one
