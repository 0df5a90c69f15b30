-- What became of a transaction, as the book and the desk tell it.
use Rattle.std.specs.Prelude.{ℕ, ◌==◌, if◌then◌else◌, Option, Some, None, List, [], ◌∷◌, find}
use Rattle.snap_base.specs.declared.transactions.TxResult.{TxResult}
use Rattle.snap_base.specs.declared.transactions.TxResult.TheVariants.{Value, Fail}
use Rattle.snap_base.specs.declared.verdicts.Place.{Place}
use Rattle.snap_base.specs.declared.verdicts.Verdict.{Verdict}
use Rattle.snap_base.specs.declared.verdicts.Verdict.TheVariants as verdicts
use Rattle.protocol.specs.Parts.{Status, Live, Doomed, Decided, Sealed, Act, Cascade, Book, Pact, Stage, Formed, Committing, Settled, Batch, Desk}
use Rattle.protocol.specs.Words.{covers}

-- ---- verdicts over numbers

abbrev pub place : ℕ → ℕ → ℕ → Place
place k side order = record { batch = record { 0 = k }; side = side; order = order }

-- a PACT's place in the serial order
abbrev pub pact_place : ℕ → ℕ → Place
pact_place k t = place k 0 t

-- an ACT's place
abbrev pub act_place : ℕ → ℕ → Place
act_place m c = place m 1 c

abbrev pub died : ℕ → ℕ → ℕ → Verdict
died a older own = verdicts.Died (record { 0 = a }) (record { 0 = older }) (record { 0 = own })

abbrev pub out_of_order : ℕ → ℕ → ℕ → Verdict
out_of_order m n a = verdicts.Order (record { 0 = m }) (record { 0 = n }) (record { 0 = a })

abbrev pub taken_along : ℕ → ℕ → Verdict
taken_along k by = verdicts.Cascade (record { 0 = k }) (record { 0 = by })

-- what became of PACT n of a batch that a cascade took along
abbrev pub aborted_by : Cascade → ℕ → Verdict
aborted_by c n = if c.by == n then verdicts.BatchCode (record { 0 = c.first }) c.at c.code else taken_along c.first c.by

-- at its place, with its own result
abbrev pub ended_at : Place → Option TxResult → Option Verdict
ended_at p (Some (Value v)) = Some (verdicts.Committed p v)
ended_at p (Some (Fail code)) = Some (verdicts.Code p code)
ended_at p None = None

-- ---- of a PACT

abbrev pub settled_verdict : Stage → Place → Option TxResult → Option Verdict
settled_verdict Formed p r = None
settled_verdict Committing p r = None
settled_verdict Settled p r = ended_at p r

-- by the cascade that covers its batch, where there is one
abbrev pub pact_verdict : Option Cascade → Batch → Pact → Option Verdict
pact_verdict (Some c) b p = Some (aborted_by c p.tx)
pact_verdict None b p = settled_verdict b.stage (pact_place b.bid p.tid) p.result

-- ---- of an ACT

abbrev pub act_verdict : Status → ℕ → Option TxResult → Option Verdict
act_verdict Live m r = None
act_verdict (Doomed v) m r = Some v
act_verdict (Decided c) m r = None
act_verdict (Sealed c) m r = ended_at (act_place m c) r

-- ---- of a transaction of the text

abbrev pub or_else : {X : Type 0} → Option X → Option X → Option X
or_else None y = y
or_else (Some x) y = Some x

abbrev pub verdict_in_batch : List Cascade → ℕ → Batch → List Pact → Option Verdict
verdict_in_batch cascades n b [] = None
verdict_in_batch cascades n b (p ∷ ps) = if p.tx == n then pact_verdict (find (covers b.bid) cascades) b p else verdict_in_batch cascades n b ps

abbrev pub verdict_of_pact : List Cascade → ℕ → List Batch → Option Verdict
verdict_of_pact cascades n [] = None
verdict_of_pact cascades n (b ∷ bs) = or_else (verdict_in_batch cascades n b b.pacts) (verdict_of_pact cascades n bs)

abbrev pub verdict_of_act : ℕ → List Act → Option Verdict
verdict_of_act n [] = None
verdict_of_act n (x ∷ xs) = if x.tx == n then act_verdict x.status x.m x.result else verdict_of_act n xs

-- None where it has no verdict yet
abbrev pub verdict : ℕ → Book → Desk → Option Verdict
verdict n b d = or_else (verdict_of_pact b.cascades n d.batches) (verdict_of_act n b.acts)
