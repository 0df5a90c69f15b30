-- What a transaction alone leaves is as many states as it found; so is what several leave, one after the other.
use Rattle.std.specs.Prelude.{◌≡◌, refl, ℕ, zero, suc, ◌+◌, List, [], ◌∷◌, length, slice_set}
use Rattle.std.proofs.Common.{◌∙◌}
use Rattle.std.proofs.lemmas.List.{length-set}
use Rattle.snap_base.specs.declared.next.Next.{Next}
use Rattle.snap_base.specs.declared.next.Next.TheVariants.{Go, Ended}
use Rattle.snap_base.specs.declared.transactions.State.{State}
use Rattle.snap_base.specs.declared.transactions.Tx.{Tx}
use Rattle.snap_base.specs.declared.transactions.TxResult.{TxResult}
use Rattle.snap_base.specs.declared.transactions.TxResult.TheVariants as result
use Rattle.aml_check.specs.Meaning.{state_at}
use Rattle.aml_slice.specs.Controls.{Rest, moves_left}
use Rattle.aml_slice.specs.Finishing.{finished, finished_in, goes_on}
use Rattle.aml_slice.specs.Slicing.{slice_end}
use Rattle.aml_tree.specs.Tree.{CheckedMethod}
use Rattle.machine_laws.specs.MethodCode.{finish, method_code}
use Rattle.protocol.specs.Facts.{Alone, alone, serial, undone}

goes_on_many : (n : ℕ) (more : Rest → List State → Alone) (w : List State) (next : Next Rest) → length w ≡ n → ((d : Rest) → length (more d w).world ≡ n) → length (goes_on more w next).world ≡ n
goes_on_many n more w (Go b d) size on = on d
goes_on_many n more w (Ended r) size on = size

finished_many : (f : ℕ) (p : List CheckedMethod) (count : ℕ) (c : Rest) (w : List State) (n : ℕ) → length w ≡ n → length (finished_in f p count c w).world ≡ n
finished_many zero p count c w n size = size
finished_many (suc f) p count c w n size =
    let x = slice_end p count c (state_at w c.top.actor) in
    let same = length-set w c.top.actor x.state ∙ size in
    goes_on_many n (finished_in f p count) (slice_set w c.top.actor x.state) x.next same (λ d. finished_many f p count d (slice_set w c.top.actor x.state) n same)

undone_many : (r : TxResult) (old new : List State) → length new ≡ length old → length (undone old r new).world ≡ length old
undone_many (result.Value v) old new e = e
undone_many (result.Fail code) old new e = refl

alone_as_many : (p : List CheckedMethod) (count : ℕ) (world : List State) (tx : Tx) → length (alone (method_code p count) (finish p count) world tx).world ≡ length world
alone_as_many p count world tx =
    let c = (method_code p count).start 0 tx in
    undone_many (finished p count c world).result world (finished p count c world).world (finished_many (moves_left c + 1) p count c world (length world) refl)

pub serial_as_many : (p : List CheckedMethod) (count : ℕ) (world : List State) (txs : List Tx) → length (serial (method_code p count) (finish p count) world txs).world ≡ length world
serial_as_many p count world [] = refl
serial_as_many p count world (tx ∷ txs) = serial_as_many p count (alone (method_code p count) (finish p count) world tx).world txs ∙ alone_as_many p count world tx
