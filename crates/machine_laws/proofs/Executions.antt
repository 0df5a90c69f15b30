-- Executions as the machine has them are those that the language means.
use Rattle.std.proofs.Common.{◌≡◌, ℕ, zero, suc, ◌+◌, List, [], ◌∷◌, length, set, refl, sym, ap, ◌∙◌}
use Rattle.std.specs.List.{AllByRecursion}
use Rattle.std.proofs.lemmas.List.{length-set}
use Rattle.snap_base.specs.declared.ids.Tid.{Tid}
use Rattle.snap_base.specs.declared.transactions.State.{State}
use Rattle.snap_base.specs.declared.transactions.Tx.{Tx}
use Rattle.snap_base.specs.declared.transactions.TxResult.{TxResult}
use Rattle.snap_base.specs.declared.transactions.TxResult.TheVariants as result
use Rattle.aml_tree.specs.Tree.{CheckedMethod}
use Rattle.aml_check.specs.Meaning.{state_at}
use Rattle.aml_check.specs.Meaning as meaning
use Rattle.aml_check.specs.Transactions.{IsTransaction}
use Rattle.snap_base.specs.declared.next.Next.{Next}
use Rattle.snap_base.specs.declared.next.Next.TheVariants.{Go, Ended}
use Rattle.aml_slice.specs.Controls.{Rest, moves_left}
use Rattle.aml_slice.specs.Slicing.{slice_end, started}
use Rattle.aml_slice.specs.Wholes.{world_after}
use Rattle.aml_slice.specs.Finishing.{goes_on, finished_in, finished}
use Rattle.protocol.specs.Facts.{Alone, undone, alone, Serial, serial}
use Rattle.machine_laws.specs.MethodCode.{tid_of, method_code, finish}

abbrev ended : List CheckedMethod → ℕ → Tid → Tx → List State → Alone
ended p count tid tx w = record { result = (finished p count (started tid tx) w).result; world = world_after (finished p count (started tid tx) w).result w (finished p count (started tid tx) w).world }

-- what the sliced executor promises: its slices, one after the other, give what the transaction means
abbrev pub Promised : List CheckedMethod → ℕ → Type 0
Promised p count = (tid : Tid) (tx : Tx) (w : List State) → IsTransaction p count tx → length w ≡ count → meaning.alone p w tx ≡ ended p count tid tx w

undone_so : (w v : List State) (r : TxResult) → undone w r v ≡ record { result = r; world = world_after r w v }
undone_so w v (result.Value x) = refl
undone_so w v (result.Fail code) = refl

pub alone_so : (p : List CheckedMethod) (count : ℕ) (w : List State) (tx : Tx) → Promised p count → length w ≡ count → IsTransaction p count tx → alone (method_code p count) (finish p count) w tx ≡ meaning.alone p w tx
alone_so p count w tx promised size is =
    undone_so w (finished p count (started (tid_of 0) tx) w).world (finished p count (started (tid_of 0) tx) w).result
    ∙ sym (promised (tid_of 0) tx w is size)

-- ---- a world keeps its actors

goes_on_size : (n : ℕ) (more : Rest → List State → Alone) (w : List State) (next : Next Rest) → length w ≡ n → ((d : Rest) → length (more d w).world ≡ n) → length (goes_on more w next).world ≡ n
goes_on_size n more w (Go b d) size on = on d
goes_on_size n more w (Ended r) size on = size

finished_in_size : (f : ℕ) (p : List CheckedMethod) (count : ℕ) (c : Rest) (w : List State) (n : ℕ) → length w ≡ n → length (finished_in f p count c w).world ≡ n
finished_in_size zero p count c w n size = size
finished_in_size (suc f) p count c w n size =
    let x = slice_end p count c (state_at w c.top.actor) in
    let same = length-set w c.top.actor x.state ∙ size in
    goes_on_size n (finished_in f p count) (set w c.top.actor x.state) x.next same (λ d. finished_in_size f p count d (set w c.top.actor x.state) n same)

world_after_size : (r : TxResult) (w v : List State) (n : ℕ) → length w ≡ n → length v ≡ n → length (world_after r w v) ≡ n
world_after_size (result.Value x) w v n old new = new
world_after_size (result.Fail code) w v n old new = old

alone_size : (p : List CheckedMethod) (count : ℕ) (w : List State) (tx : Tx) → Promised p count → length w ≡ count → IsTransaction p count tx → length (meaning.alone p w tx).world ≡ count
alone_size p count w tx promised size is =
    let c = started (tid_of 0) tx in
    ap (λ (x : Alone). length x.world) (promised (tid_of 0) tx w is size)
    ∙ world_after_size (finished p count c w).result w (finished p count c w).world count size (finished_in_size (moves_left c + 1) p count c w count size)

-- ---- one after the other

abbrev before_rest : Alone → Serial → Serial
before_rest first rest = record { results = first.result ∷ rest.results; world = rest.world }

pub serial_so : (p : List CheckedMethod) (count : ℕ) (w : List State) (txs : List Tx) → Promised p count → length w ≡ count → AllByRecursion (IsTransaction p count) txs → serial (method_code p count) (finish p count) w txs ≡ meaning.serial p w txs
serial_so p count w [] promised size all = refl
serial_so p count w (tx ∷ txs) promised size all =
    ap (λ (first : Alone). before_rest first (serial (method_code p count) (finish p count) first.world txs)) (alone_so p count w tx promised size all.0)
    ∙ ap (before_rest (meaning.alone p w tx)) (serial_so p count (meaning.alone p w tx).world txs promised (alone_size p count w tx promised size all.0) all.1)
