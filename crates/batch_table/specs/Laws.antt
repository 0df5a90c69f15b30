-- The desk's laws: what it is asked is what the event table asks of it, and the batch that is planned may join.
use Rattle.std.specs.Prelude.{◌≡◌, ℕ, ◌-◌, ◌≤◌, Bool, Option, Some, is_some, List, length, slice_get}
use Rattle.protocol.specs.Fixed.{Fixed, IsText}
use Rattle.protocol.specs.Parts.{Machine}
use Rattle.protocol.specs.Events.{Form, Close, Note, Commit, Settle, Abort, Reply, Trim}
use Rattle.protocol.specs.Words.{pact_result}
use Rattle.protocol.specs.OnRing.{planned}
use Rattle.protocol.specs.Conditions.{conditions, IsAllowed}
use Rattle.protocol.specs.Numbers.{NumbersDrawnOnce, TransactionsInOnePlace}
use Rattle.protocol.specs.Settling.{BatchesSettleInOrder}
use Rattle.batch_table.specs.Askings.{is_next_open, has_ended_well, is_noted_everywhere, awaits_note, awaits_settling, awaits_trim, has_failed_pact, awaits_reply}
use Rattle.batch_table.specs.Joining.{MayJoin}

-- a condition by its number, from 1 on
abbrev pub condition : ℕ → List Bool → Option Bool
condition n bs = slice_get bs (n - 1)

-- each asking is the event table's condition
pub record AsksTheTable {C : Type 0} (w : Fixed C) (s : Machine C) : Type 0 where
  pub close : (t a : ℕ) → condition 1 (conditions w (Close t a) s) ≡ Some (is_some (pact_result t s.desk.batches))
  pub note : (k a : ℕ) → condition 1 (conditions w (Note k a) s) ≡ Some (awaits_note k a s.desk.batches)
  pub commit_next : (k : ℕ) → condition 1 (conditions w (Commit k) s) ≡ Some (is_next_open k s.desk.batches)
  pub commit_ended : (k : ℕ) → condition 2 (conditions w (Commit k) s) ≡ Some (has_ended_well k s.desk.batches)
  pub commit_noted : (k : ℕ) → condition 3 (conditions w (Commit k) s) ≡ Some (is_noted_everywhere k s.desk.batches)
  pub settle : (k : ℕ) → condition 1 (conditions w (Settle k) s) ≡ Some (awaits_settling k s.desk.batches)
  pub abort_next : (k : ℕ) → condition 1 (conditions w (Abort k) s) ≡ Some (is_next_open k s.desk.batches)
  pub abort_failed : (k : ℕ) → condition 2 (conditions w (Abort k) s) ≡ Some (has_failed_pact k s.desk.batches)
  pub reply : (n : ℕ) → condition 1 (conditions w (Reply n) s) ≡ Some (awaits_reply n s.desk)
  pub trim : (k a : ℕ) → condition 1 (conditions w (Trim k a) s) ≡ Some (awaits_trim k a s.desk.batches)

-- Where batch k may be formed, on a state as runs have it, the batch that is planned may join the desk.
abbrev pub PlannedMayJoin : {C : Type 0} → Fixed C → Machine C → Type 0
PlannedMayJoin w s =
    IsText w.text → NumbersDrawnOnce w s → TransactionsInOnePlace w s → BatchesSettleInOrder w s → s.ring.next_tx ≤ length s.desk.replied
    → (k : ℕ) → IsAllowed w (Form k) s → MayJoin k (planned w.text k s.ring).pacts s.desk
