-- What the parts of a state have to tell, each by itself, so that all that may be allowed is looked at, or of it what is
-- asked for: a test tells which events are. Nobody has to tell of what is over: of a batch only what it still waits for, of
-- an ACT only where it has not left, of answers only those that are due.
use Rattle.std.specs.Prelude.{◌≡◌, ℕ, Bool, true, false, is_some, Some, List, slice_get, Contains}
use Rattle.protocol.specs.Fixed.{Fixed, Text}
use Rattle.protocol.specs.Parts.{Ring, Book, Post, Desk, Log, Cell, Machine}
use Rattle.protocol.specs.Events.{Event, Submit, Pass, Form, Admit, Arrive, Ask, Take, Run, Send, End, Close, Complete, Sync, Note, Commit, Settle, Abort, Rollback, DropSub, DropControl, Prepare, Vouch, Decide, Seal, Finish, Reply, Trim}
use Rattle.protocol.specs.Words.{has_control_to, has_undone}
use Rattle.protocol.specs.Verdicts.{verdict}
use Rattle.protocol.specs.Conditions.{is_idle_at, is_idle, epoch, is_in_text, next_holder, lacks_pacts, lacks_acts, is_under_way, has_control, is_of_earlier_epoch, waits_in, has_gone_on, has_ended_on, lacks_completion, has_unsynced, is_next_open, awaits_note, awaits_settling, awaits_trim, awaits_reply, gives_value, is_not_prepared, awaits_vouch, awaits_decision, awaits_seal, may_leave, has_not_left}

-- the next transaction, the token, the next batch and the next ACT
pub record RingTells (asked : Event → Bool) (w : Text) (r : Ring) (es : List Event) : Type 0 where
  pub submit : asked (Submit r.next_tx) ≡ true → is_in_text r.next_tx w ≡ true → Contains es (Submit r.next_tx)
  pub pass : asked (Pass (next_holder w r)) ≡ true → is_idle_at r.holder r ≡ true → is_idle r ≡ false → Contains es (Pass (next_holder w r))
  pub form : asked (Form r.next_bid) ≡ true → lacks_pacts r ≡ false → Contains es (Form r.next_bid)
  pub admit : asked (Admit r.next_tid) ≡ true → lacks_acts r ≡ false → Contains es (Admit r.next_tid)

-- each sub-batch, and each control
pub record PostTells {C : Type 0} (asked : Event → Bool) (p : Post C) (es : List Event) : Type 0 where
  pub arrive : (k a : ℕ) → asked (Arrive k a) ≡ true → is_under_way k a p ≡ true → Contains es (Arrive k a)
  pub drop_sub : (k a : ℕ) → asked (DropSub k a) ≡ true → is_under_way k a p ≡ true → Contains es (DropSub k a)
  pub ask : (t a : ℕ) → asked (Ask t a) ≡ true → has_control_to t a p.controls ≡ true → Contains es (Ask t a)
  pub take : (t a : ℕ) → asked (Take t a) ≡ true → has_control_to t a p.controls ≡ true → Contains es (Take t a)
  pub drop_control : (t : ℕ) → asked (DropControl t) ≡ true → has_control t p ≡ true → Contains es (DropControl t)

-- of actor a: both boxes, the batches that are not complete, the PACTs that are not done, and whether it is behind, where
-- there were so many cascades
pub record CellTells {C : Type 0} (asked : Event → Bool) (cascades a : ℕ) (c : Cell C) (es : List Event) : Type 0 where
  pub run : (t : ℕ) → asked (Run t a) ≡ true → waits_in t c ≡ true → Contains es (Run t a)
  pub send : (t : ℕ) → asked (Send t a) ≡ true → has_gone_on t c ≡ true → Contains es (Send t a)
  pub end : (t : ℕ) → asked (End t a) ≡ true → has_ended_on t c ≡ true → Contains es (End t a)
  pub close : (t : ℕ) → asked (Close t a) ≡ true → has_undone t c.entries ≡ true → Contains es (Close t a)
  pub complete : (k : ℕ) → asked (Complete k a) ≡ true → lacks_completion k c ≡ true → Contains es (Complete k a)
  pub rollback : asked (Rollback a) ≡ true → is_of_earlier_epoch cascades c ≡ true → Contains es (Rollback a)

-- of log l: whether a record waits
abbrev pub LogTells : (Event → Bool) → ℕ → Log → List Event → Type 0
LogTells asked l g es = asked (Sync l) ≡ true → has_unsynced g ≡ true → Contains es (Sync l)

-- the least open batch; of open ones the actors that are not noted; who commits; of settled ones the actors that are not
-- trimmed
pub record DeskTells (asked : Event → Bool) (d : Desk) (es : List Event) : Type 0 where
  pub note : (k a : ℕ) → asked (Note k a) ≡ true → awaits_note k a d.batches ≡ true → Contains es (Note k a)
  pub commit : (k : ℕ) → asked (Commit k) ≡ true → is_next_open k d.batches ≡ true → Contains es (Commit k)
  pub abort : (k : ℕ) → asked (Abort k) ≡ true → is_next_open k d.batches ≡ true → Contains es (Abort k)
  pub settle : (k : ℕ) → asked (Settle k) ≡ true → awaits_settling k d.batches ≡ true → Contains es (Settle k)
  pub trim : (k a : ℕ) → asked (Trim k a) ≡ true → awaits_trim k a d.batches ≡ true → Contains es (Trim k a)

-- of the ACTs that ended and are not given up the actors that are not prepared, and those that are prepared and not vouched;
-- who ended and is live; who is decided; and of those that are given up or sealed the actors that they have not left
pub record BookTells (asked : Event → Bool) (b : Book) (es : List Event) : Type 0 where
  pub prepare : (t a : ℕ) → asked (Prepare t a) ≡ true → gives_value t b.acts ≡ true → is_not_prepared t a b.acts ≡ true → Contains es (Prepare t a)
  pub vouch : (t a : ℕ) → asked (Vouch t a) ≡ true → awaits_vouch t a b.acts ≡ true → Contains es (Vouch t a)
  pub decide : (t : ℕ) → asked (Decide t) ≡ true → awaits_decision t b.acts ≡ true → Contains es (Decide t)
  pub seal : (t : ℕ) → asked (Seal t) ≡ true → awaits_seal t b.acts ≡ true → Contains es (Seal t)
  pub finish : (t a : ℕ) → asked (Finish t a) ≡ true → may_leave t b.acts ≡ true → has_not_left t a b.acts ≡ true → Contains es (Finish t a)

-- the transactions that have a verdict and no answer
abbrev pub AnswersTell : (Event → Bool) → Book → Desk → List Event → Type 0
AnswersTell asked b d es = (n : ℕ) → asked (Reply n) ≡ true → awaits_reply n d ≡ true → is_some (verdict n b d) ≡ true → Contains es (Reply n)

pub record PartsTell {C : Type 0} (asked : Event → Bool) (w : Fixed C) (s : Machine C) (es : List Event) : Type 0 where
  pub ring : RingTells asked w.text s.ring es
  pub post : PostTells asked s.post es
  pub cells : (a : ℕ) (c : Cell C) → slice_get s.cells a ≡ Some c → CellTells asked (epoch s.book) a c es
  pub logs : (l : ℕ) (g : Log) → slice_get s.logs l ≡ Some g → LogTells asked l g es
  pub desk : DeskTells asked s.desk es
  pub book : BookTells asked s.book es
  pub answers : AnswersTell asked s.book s.desk es
