-- What the machine and the language say of one transaction of a program leaves as many states as it found; and each PACT that the
-- events of a run tell is a transaction of the text.
use Rattle.std.specs.Prelude.{◌≡◌, refl, ℕ, zero, suc, ◌+◌, ◌<◌, ◌==◌, Bool, true, false, if◌then◌else◌, Some, List, [], ◌∷◌, length, map, slice_set}
use Rattle.std.specs.List.{AllByRecursion}
use Rattle.std.proofs.Common.{sym, ap, subst, ◌∙◌}
use Rattle.std.proofs.lemmas.Bool.{eq-eqb, or_left, or_right}
use Rattle.std.proofs.lemmas.List.{length-set}
use Rattle.snap_base.specs.declared.next.Next.{Next}
use Rattle.snap_base.specs.declared.next.Next.TheVariants.{Go, Ended}
use Rattle.snap_base.specs.declared.transactions.State.{State}
use Rattle.snap_base.specs.declared.transactions.Tx.{Tx}
use Rattle.snap_base.specs.declared.transactions.TxResult.{TxResult}
use Rattle.snap_base.specs.declared.transactions.TxResult.TheVariants as result
use Rattle.snap_base.proofs.Options.{none_is_some, same_some}
use Rattle.aml_slice.specs.aml_check.Meaning.{state_at}
use Rattle.aml_slice.specs.Controls.{Rest, moves_left}
use Rattle.aml_slice.specs.Finishing.{finished, finished_in, goes_on}
use Rattle.aml_slice.specs.Slicing.{slice_end}
use Rattle.aml_slice.specs.aml_tree.Tree.{CheckedMethod}
use Rattle.machine_laws.specs.MethodCode.{finish, method_code}
use Rattle.protocol.specs.Events.{Event}
use Rattle.protocol.specs.Facts.{Alone, alone, undone}
use Rattle.protocol.specs.Fixed.{Fixed}
use Rattle.protocol.specs.Numbers.{TransactionsInOnePlace}
use Rattle.protocol.specs.OnRing.{Formed}
use Rattle.protocol.specs.Parts.{Batch, Pact}
use Rattle.protocol.specs.Runs.{reached}
use Rattle.protocol.specs.Words.{batch_of, is_among}
use Rattle.protocol_theorems.specs.Sizes.{SizesHold}
use Rattle.audit_words.specs.Happenings.{seen}
use Rattle.audit_words.specs.Seen.{batch_in}
use Rattle.audit_laws.specs.Names.{NamesAreSeen}
use Rattle.audit_laws.proofs.Premises.{batch_in_text}

-- ---- as many states

goes_on_many : (n : ℕ) (more : Rest → List State → Alone) (w : List State) (next : Next Rest) → length w ≡ n → ((d : Rest) → length (more d w).world ≡ n) → length (goes_on more w next).world ≡ n
goes_on_many n more w (Go b d) size on = on d
goes_on_many n more w (Ended r) size on = size

finished_many : (f : ℕ) (p : List CheckedMethod) (count : ℕ) (c : Rest) (w : List State) (n : ℕ) → length w ≡ n → length (finished_in f p count c w).world ≡ n
finished_many zero p count c w n size = size
finished_many (suc f) p count c w n size =
    let x = slice_end p count c (state_at w c.top.actor) in
    let same = length-set w c.top.actor x.state ∙ size in
    goes_on_many n (finished_in f p count) (slice_set w c.top.actor x.state) x.next same (λ d. finished_many f p count d (slice_set w c.top.actor x.state) n same)

undone_many : (r : TxResult) (old new : List State) → length new ≡ length old → length (undone old r new).world ≡ length old
undone_many (result.Value v) old new e = e
undone_many (result.Fail code) old new e = refl

pub alone_as_many : (p : List CheckedMethod) (count : ℕ) (world : List State) (tx : Tx) → length (alone (method_code p count) (finish p count) world tx).world ≡ length world
alone_as_many p count world tx =
    let c = (method_code p count).start 0 tx in
    undone_many (finished p count c world).result world (finished p count c world).world (finished_many (moves_left c + 1) p count c world (length world) refl)

-- ---- PACTs that are told

batch_back : (k : ℕ) (x : Formed) (xs : List Formed) (bs : List Batch) → map (λ y. y.bid) xs ≡ map (λ b. b.bid) bs → map (λ y. map (λ p. p.tx) y.pacts) xs ≡ map (λ b. map (λ p. p.tx) b.pacts) bs → batch_in k xs ≡ Some x
    → (b : Batch) × ((batch_of k bs ≡ Some b) × (map (λ p. p.tx) x.pacts ≡ map (λ p. p.tx) b.pacts))
batch_back k x [] [] e f i = absurd (none_is_some x i)
batch_back k x [] (b ∷ bs) e f i = absurd (cc e)
batch_back k x (y ∷ xs) [] e f i = absurd (cc e)
batch_back k x (y ∷ xs) (b ∷ bs) e f i =
    let j : y.bid ≡ b.bid = cc e in
    let js : map (λ (z : Formed). z.bid) xs ≡ map (λ (z : Batch). z.bid) bs = cc e in
    let u : map (λ (p : Pact). p.tx) y.pacts ≡ map (λ (p : Pact). p.tx) b.pacts = cc f in
    let us : map (λ (z : Formed). map (λ (p : Pact). p.tx) z.pacts) xs ≡ map (λ (z : Batch). map (λ (p : Pact). p.tx) z.pacts) bs = cc f in
    by (y.bid == k) (ap (λ (n : ℕ). n == k) (sym j)) u i (batch_back k x xs bs js us)
  where
    by : (q : Bool) → (b.bid == k) ≡ q → map (λ p. p.tx) y.pacts ≡ map (λ p. p.tx) b.pacts → (if q then Some y else batch_in k xs) ≡ Some x
        → (batch_in k xs ≡ Some x → (c : Batch) × ((batch_of k bs ≡ Some c) × (map (λ p. p.tx) x.pacts ≡ map (λ p. p.tx) c.pacts)))
        → (c : Batch) × ((batch_of k (b ∷ bs) ≡ Some c) × (map (λ p. p.tx) x.pacts ≡ map (λ p. p.tx) c.pacts))
    by true q u i r = (b, (ap (λ (d : Bool). if d then Some b else batch_of k bs) q, ap (λ (z : Formed). map (λ (p : Pact). p.tx) z.pacts) (sym (same_some y x i)) ∙ u))
    by false q u i r = let c = r i in (c.0, (ap (λ (d : Bool). if d then Some b else batch_of k bs) q ∙ c.1.0, c.1.1))

-- what holds of each number holds of who has one
each_named : (P : ℕ → Type 0) (ps : List Pact) → ((n : ℕ) → is_among n (map (λ p. p.tx) ps) ≡ true → P n) → AllByRecursion (λ p. P p.tx) ps
each_named P [] f = tt
each_named P (p ∷ ps) f = (f p.tx (or_left (p.tx == p.tx) (is_among p.tx (map (λ (q : Pact). q.tx) ps)) (eq-eqb p.tx p.tx refl)), each_named P ps (λ n h. f n (or_right (p.tx == n) (is_among n (map (λ (q : Pact). q.tx) ps)) h)))

pub pacts_in_text : {C : Type 0} (w : Fixed C) (es : List Event) → NamesAreSeen w es → TransactionsInOnePlace w (reached w es) → SizesHold w (reached w es)
    → (k : ℕ) (x : Formed) → batch_in k (seen w.code.only_reads w.text es).batches ≡ Some x → AllByRecursion (λ q. q.tx < length w.text.txs) x.pacts
pacts_in_text w es names once sizes k x e =
    let s = reached w es in
    let b = batch_back k x (seen w.code.only_reads w.text es).batches s.desk.batches names.names.bids names.names.batch_txs e in
    each_named (λ n. n < length w.text.txs) x.pacts
    (λ n h. batch_in_text w s n k b.0 once sizes b.1.0 (subst (λ (ns : List ℕ). is_among n ns ≡ true) b.1.1 h))
