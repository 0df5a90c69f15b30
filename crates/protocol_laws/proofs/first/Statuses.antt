-- Statuses of ACTs and stages of batches, as events change them.
use Rattle.protocol.specs.Parts.{Act, Batch, Committing, Decided, Doomed, Formed, Live, Sealed, Settled, Stage, Status}
use Rattle.protocol.specs.Words.{is_committing, is_decided, is_doomed, is_formed, is_live_status, is_ordered, is_settled, is_value}
use Rattle.snap_base.specs.declared.transactions.TxResult.{TxResult}
use Rattle.snap_base.specs.declared.verdicts.Verdict.{Verdict}
use Rattle.std.proofs.Common.{sym}
use Rattle.std.proofs.lemmas.Bool.{true≢false}
use Rattle.std.specs.Prelude.{◌≡◌, if◌then◌else◌, Bool, None, Option, Some, false, is_some, refl, true, ℕ}
use Rattle.protocol.specs.OnBook as book
use Rattle.protocol.specs.OnDesk as desk

pub live_unordered : (st : Status) → is_live_status st ≡ true → is_ordered st ≡ false
live_unordered Live e = refl
live_unordered (Doomed v) e = refl
live_unordered (Decided c) e = absurd (true≢false (sym e))
live_unordered (Sealed c) e = absurd (true≢false (sym e))

pub committing_not_formed : (st : Stage) → is_committing st ≡ true → is_formed st ≡ false
committing_not_formed Formed e = absurd (true≢false (sym e))
committing_not_formed Committing e = refl
committing_not_formed Settled e = refl

pub settled_not_formed : (st : Stage) → is_settled st ≡ true → is_formed st ≡ false
settled_not_formed Formed e = absurd (true≢false (sym e))
settled_not_formed Committing e = refl
settled_not_formed Settled e = refl

pub ordered_sealed : (st : Status) → is_ordered (book.sealed_status st) ≡ is_ordered st
ordered_sealed Live = refl
ordered_sealed (Doomed v) = refl
ordered_sealed (Decided c) = refl
ordered_sealed (Sealed c) = refl

pub doomed_decided : (c : ℕ) (b : Bool) (st : Status) → is_doomed st ≡ true → is_doomed (book.decided_status c b st) ≡ true
doomed_decided c b Live h = absurd (true≢false (sym h))
doomed_decided c b (Doomed v) h = refl
doomed_decided c b (Decided d) h = absurd (true≢false (sym h))
doomed_decided c b (Sealed d) h = absurd (true≢false (sym h))

pub doomed_sealed : (st : Status) → is_doomed st ≡ true → is_doomed (book.sealed_status st) ≡ true
doomed_sealed Live h = h
doomed_sealed (Doomed v) h = refl
doomed_sealed (Decided d) h = absurd (true≢false (sym h))
doomed_sealed (Sealed d) h = h

pub sealed_doomed : (st : Status) → is_doomed (book.sealed_status st) ≡ is_doomed st
sealed_doomed Live = refl
sealed_doomed (Doomed v) = refl
sealed_doomed (Decided c) = refl
sealed_doomed (Sealed c) = refl

pub decided_doomed : (c : ℕ) (b : Bool) (st : Status) → is_doomed (book.decided_status c b st) ≡ is_doomed st
decided_doomed c true Live = refl
decided_doomed c false Live = refl
decided_doomed c b (Doomed v) = refl
decided_doomed c b (Decided d) = refl
decided_doomed c b (Sealed d) = refl

pub value_some : (r : Option TxResult) → is_value r ≡ true → is_some r ≡ true
value_some None e = absurd (true≢false (sym e))
value_some (Some x) e = refl

pub ordered_decided : (c : ℕ) (b : Bool) (st : Status) → is_ordered st ≡ true → is_ordered (book.decided_status c b st) ≡ true
ordered_decided c b Live h = absurd (true≢false (sym h))
ordered_decided c b (Doomed v) h = h
ordered_decided c b (Decided d) h = h
ordered_decided c b (Sealed d) h = h

pub sealed_not_decided : (st : Status) → is_decided (book.sealed_status st) ≡ false
sealed_not_decided Live = refl
sealed_not_decided (Doomed v) = refl
sealed_not_decided (Decided c) = refl
sealed_not_decided (Sealed c) = refl

pub live_not_doomed : (st : Status) → is_live_status st ≡ true → is_doomed st ≡ false
live_not_doomed Live e = refl
live_not_doomed (Doomed v) e = absurd (true≢false (sym e))
live_not_doomed (Decided c) e = refl
live_not_doomed (Sealed c) e = refl

pub not_doomed_decided : (c : ℕ) (b : Bool) (st : Status) → is_doomed (book.decided_status c b st) ≡ false → is_doomed st ≡ false
not_doomed_decided c b Live e = refl
not_doomed_decided c b (Doomed v) e = e
not_doomed_decided c b (Decided d) e = refl
not_doomed_decided c b (Sealed d) e = refl

pub live_decided : (c : ℕ) (b : Bool) (s : Status) → is_live_status (book.decided_status c b s) ≡ true → is_live_status s ≡ true
live_decided c true Live h = refl
live_decided c false Live h = refl
live_decided c b (Doomed v) h = h
live_decided c b (Decided d) h = h
live_decided c b (Sealed d) h = h

pub live_sealed : (s : Status) → is_live_status (book.sealed_status s) ≡ true → is_live_status s ≡ true
live_sealed Live h = h
live_sealed (Doomed v) h = h
live_sealed (Decided d) h = absurd (true≢false (sym h))
live_sealed (Sealed d) h = h

pub live_if : (b : Bool) (v : Verdict) (st : Status) → is_live_status (if b then Doomed v else st) ≡ true → is_live_status st ≡ true
live_if true v st e = absurd (true≢false (sym e))
live_if false v st e = e

pub ordered_not_live : (st : Status) → is_ordered st ≡ true → is_live_status st ≡ false
ordered_not_live Live e = absurd (true≢false (sym e))
ordered_not_live (Doomed v) e = refl
ordered_not_live (Decided c) e = refl
ordered_not_live (Sealed c) e = refl

pub committing_not_settled : (st : Stage) → is_committing st ≡ true → is_settled st ≡ false
committing_not_settled Committing e = refl
committing_not_settled Settled e = absurd (true≢false (sym e))
committing_not_settled _ e = refl

pub if_bid : (v : Bool) (f : Batch → Batch) (b : Batch) → (f b).bid ≡ b.bid → (desk.change_if v f b).bid ≡ b.bid
if_bid true f b h = h
if_bid false f b h = refl

pub if_tid : (v : Bool) (f : Act → Act) (x : Act) → (f x).tid ≡ x.tid → (book.change_if v f x).tid ≡ x.tid
if_tid true f x h = h
if_tid false f x h = refl
