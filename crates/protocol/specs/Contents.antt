-- What a state holds, content by content, and which contents each event may change.
use Rattle.std.specs.Prelude.{◌≡◌, ℕ, Bool, false, List, [], ◌∷◌, map}
use Rattle.protocol.specs.Parts.{Entry, BatchEntry, ActEntry, Machine}
use Rattle.protocol.specs.Events.{Event, Submit, Pass, Form, Admit, Arrive, Ask, Take, Run, Send, End, Close, Complete, Sync, Note, Commit, Settle, Abort, Rollback, DropSub, DropControl, Prepare, Vouch, Decide, Seal, Finish, Reply, Trim}
use Rattle.protocol.specs.Words.{is_among, is_reader_entry, who_of}

pub data Content : Type 0 where
  -- the ring
  Holder : Content
  NextTx : Content
  NextTid : Content
  NextBid : Content
  RingEpoch : Content
  Lasts : Content
  PactQueues : Content
  ActQueues : Content
  -- the book
  NextC : Content
  Cascades : Content
  Pairs : Content
  ActTids : Content
  ActTxs : Content
  ActReaders : Content
  Befores : Content
  Afters : Content
  ActActors : Content
  PreparedMarks : Content
  VouchedMarks : Content
  FinishedMarks : Content
  ActResults : Content
  Statuses : Content
  -- the post
  Subs : Content
  Controls : Content
  -- the desk
  Bids : Content
  BatchActors : Content
  BatchTids : Content
  BatchTxs : Content
  NotedMarks : Content
  TrimmedMarks : Content
  PactResults : Content
  Stages : Content
  AbortedMarks : Content
  SettledBatch : Content
  Replied : Content
  -- the logs
  Records : Content
  SyncedCounts : Content
  -- the cells, each over all actors
  States : Content
  Images : Content
  CellEpochs : Content
  LastPlaced : Content
  LastTrimmed : Content
  Tails : Content
  Floors : Content
  EntryOwners : Content
  EntryTids : Content
  EntryReaders : Content
  DoneMarks : Content
  CompleteMarks : Content
  Inboxes : Content
  Outboxes : Content

-- ---- what each is in a state

abbrev pub slot_tids : Entry → List ℕ
slot_tids (BatchEntry b) = map (λ s. s.tid) b.slots
slot_tids (ActEntry x) = []

abbrev pub slot_marks : Entry → List Bool
slot_marks (BatchEntry b) = map (λ s. s.done) b.slots
slot_marks (ActEntry x) = []

abbrev pub complete_mark : Entry → Bool
complete_mark (BatchEntry b) = b.complete
complete_mark (ActEntry x) = false

-- two states have the same there
abbrev pub IsSame : {C : Type 0} → Content → Machine C → Machine C → Type 0
IsSame Holder s t = t.ring.holder ≡ s.ring.holder
IsSame NextTx s t = t.ring.next_tx ≡ s.ring.next_tx
IsSame NextTid s t = t.ring.next_tid ≡ s.ring.next_tid
IsSame NextBid s t = t.ring.next_bid ≡ s.ring.next_bid
IsSame RingEpoch s t = t.ring.epoch ≡ s.ring.epoch
IsSame Lasts s t = t.ring.lasts ≡ s.ring.lasts
IsSame PactQueues s t = t.ring.pacts ≡ s.ring.pacts
IsSame ActQueues s t = t.ring.acts ≡ s.ring.acts
IsSame NextC s t = t.book.next_c ≡ s.book.next_c
IsSame Cascades s t = t.book.cascades ≡ s.book.cascades
IsSame Pairs s t = t.book.pairs ≡ s.book.pairs
IsSame ActTids s t = map (λ x. x.tid) t.book.acts ≡ map (λ x. x.tid) s.book.acts
IsSame ActTxs s t = map (λ x. x.tx) t.book.acts ≡ map (λ x. x.tx) s.book.acts
IsSame ActReaders s t = map (λ x. x.reader) t.book.acts ≡ map (λ x. x.reader) s.book.acts
IsSame Befores s t = map (λ x. x.m) t.book.acts ≡ map (λ x. x.m) s.book.acts
IsSame Afters s t = map (λ x. x.n) t.book.acts ≡ map (λ x. x.n) s.book.acts
IsSame ActActors s t = map (λ x. map (λ p. p.actor) x.places) t.book.acts ≡ map (λ x. map (λ p. p.actor) x.places) s.book.acts
IsSame PreparedMarks s t = map (λ x. map (λ p. p.prepared) x.places) t.book.acts ≡ map (λ x. map (λ p. p.prepared) x.places) s.book.acts
IsSame VouchedMarks s t = map (λ x. map (λ p. p.vouched) x.places) t.book.acts ≡ map (λ x. map (λ p. p.vouched) x.places) s.book.acts
IsSame FinishedMarks s t = map (λ x. map (λ p. p.finished) x.places) t.book.acts ≡ map (λ x. map (λ p. p.finished) x.places) s.book.acts
IsSame ActResults s t = map (λ x. x.result) t.book.acts ≡ map (λ x. x.result) s.book.acts
IsSame Statuses s t = map (λ x. x.status) t.book.acts ≡ map (λ x. x.status) s.book.acts
IsSame Subs s t = t.post.subs ≡ s.post.subs
IsSame Controls s t = t.post.controls ≡ s.post.controls
IsSame Bids s t = map (λ b. b.bid) t.desk.batches ≡ map (λ b. b.bid) s.desk.batches
IsSame BatchActors s t = map (λ b. map (λ p. p.actor) b.places) t.desk.batches ≡ map (λ b. map (λ p. p.actor) b.places) s.desk.batches
IsSame BatchTids s t = map (λ b. map (λ p. p.tid) b.pacts) t.desk.batches ≡ map (λ b. map (λ p. p.tid) b.pacts) s.desk.batches
IsSame BatchTxs s t = map (λ b. map (λ p. p.tx) b.pacts) t.desk.batches ≡ map (λ b. map (λ p. p.tx) b.pacts) s.desk.batches
IsSame NotedMarks s t = map (λ b. map (λ p. p.noted) b.places) t.desk.batches ≡ map (λ b. map (λ p. p.noted) b.places) s.desk.batches
IsSame TrimmedMarks s t = map (λ b. map (λ p. p.trimmed) b.places) t.desk.batches ≡ map (λ b. map (λ p. p.trimmed) b.places) s.desk.batches
IsSame PactResults s t = map (λ b. map (λ p. p.result) b.pacts) t.desk.batches ≡ map (λ b. map (λ p. p.result) b.pacts) s.desk.batches
IsSame Stages s t = map (λ b. b.stage) t.desk.batches ≡ map (λ b. b.stage) s.desk.batches
IsSame AbortedMarks s t = map (λ b. b.aborted) t.desk.batches ≡ map (λ b. b.aborted) s.desk.batches
IsSame SettledBatch s t = t.desk.settled ≡ s.desk.settled
IsSame Replied s t = t.desk.replied ≡ s.desk.replied
IsSame Records s t = map (λ l. l.records) t.logs ≡ map (λ l. l.records) s.logs
IsSame SyncedCounts s t = map (λ l. l.synced) t.logs ≡ map (λ l. l.synced) s.logs
IsSame States s t = map (λ c. c.state) t.cells ≡ map (λ c. c.state) s.cells
IsSame Images s t = map (λ c. c.images) t.cells ≡ map (λ c. c.images) s.cells
IsSame CellEpochs s t = map (λ c. c.epoch) t.cells ≡ map (λ c. c.epoch) s.cells
IsSame LastPlaced s t = map (λ c. c.last) t.cells ≡ map (λ c. c.last) s.cells
IsSame LastTrimmed s t = map (λ c. c.last_trimmed) t.cells ≡ map (λ c. c.last_trimmed) s.cells
IsSame Tails s t = map (λ c. c.tail) t.cells ≡ map (λ c. c.tail) s.cells
IsSame Floors s t = map (λ c. c.floors) t.cells ≡ map (λ c. c.floors) s.cells
IsSame EntryOwners s t = map (λ c. map who_of c.entries) t.cells ≡ map (λ c. map who_of c.entries) s.cells
IsSame EntryTids s t = map (λ c. map slot_tids c.entries) t.cells ≡ map (λ c. map slot_tids c.entries) s.cells
IsSame EntryReaders s t = map (λ c. map is_reader_entry c.entries) t.cells ≡ map (λ c. map is_reader_entry c.entries) s.cells
IsSame DoneMarks s t = map (λ c. map slot_marks c.entries) t.cells ≡ map (λ c. map slot_marks c.entries) s.cells
IsSame CompleteMarks s t = map (λ c. map complete_mark c.entries) t.cells ≡ map (λ c. map complete_mark c.entries) s.cells
IsSame Inboxes s t = map (λ c. c.inbox) t.cells ≡ map (λ c. c.inbox) s.cells
IsSame Outboxes s t = map (λ c. c.outbox) t.cells ≡ map (λ c. c.outbox) s.cells

-- ---- which an event may change

-- Where entries come or go, their marks do too.
abbrev pub changes : Event → List Content
changes (Submit n) = NextTx ∷ PactQueues ∷ ActQueues ∷ []
changes (Pass c) = Holder ∷ []
changes (Form k) = NextTid ∷ NextBid ∷ Lasts ∷ PactQueues ∷ Subs ∷ Controls ∷ Bids ∷ BatchActors ∷ BatchTids ∷ BatchTxs ∷ NotedMarks ∷ TrimmedMarks ∷ PactResults ∷ Stages ∷ AbortedMarks ∷ Records ∷ []
changes (Admit t) = NextTid ∷ ActQueues ∷ ActTids ∷ ActTxs ∷ ActReaders ∷ Befores ∷ Afters ∷ ActActors ∷ PreparedMarks ∷ VouchedMarks ∷ FinishedMarks ∷ ActResults ∷ Statuses ∷ Controls ∷ []
changes (Arrive k a) = Afters ∷ Statuses ∷ Subs ∷ LastPlaced ∷ Tails ∷ EntryOwners ∷ EntryTids ∷ EntryReaders ∷ DoneMarks ∷ CompleteMarks ∷ []
changes (Ask t a) = Befores ∷ ActActors ∷ PreparedMarks ∷ VouchedMarks ∷ FinishedMarks ∷ Statuses ∷ Pairs ∷ Controls ∷ EntryOwners ∷ EntryTids ∷ EntryReaders ∷ DoneMarks ∷ CompleteMarks ∷ Inboxes ∷ []
changes (Take t a) = Controls ∷ Inboxes ∷ []
changes (Run t a) = States ∷ Images ∷ DoneMarks ∷ Inboxes ∷ Outboxes ∷ []
changes (Send t a) = Controls ∷ Outboxes ∷ []
changes (End t a) = ActResults ∷ PactResults ∷ Outboxes ∷ []
changes (Close t a) = DoneMarks ∷ []
changes (Complete k a) = CompleteMarks ∷ Records ∷ []
changes (Sync l) = SyncedCounts ∷ []
changes (Note k a) = NotedMarks ∷ []
changes (Commit k) = Stages ∷ Records ∷ []
changes (Settle k) = Stages ∷ SettledBatch ∷ []
changes (Abort k) = RingEpoch ∷ Lasts ∷ Cascades ∷ Afters ∷ Statuses ∷ AbortedMarks ∷ []
changes (Rollback a) = States ∷ Images ∷ CellEpochs ∷ LastPlaced ∷ Tails ∷ EntryOwners ∷ EntryTids ∷ EntryReaders ∷ DoneMarks ∷ CompleteMarks ∷ Inboxes ∷ Outboxes ∷ []
changes (DropSub k a) = Subs ∷ []
changes (DropControl t) = Controls ∷ []
changes (Prepare t a) = PreparedMarks ∷ Records ∷ []
changes (Vouch t a) = VouchedMarks ∷ []
changes (Decide t) = NextC ∷ Statuses ∷ Records ∷ []
changes (Seal t) = Statuses ∷ []
changes (Finish t a) = FinishedMarks ∷ Pairs ∷ States ∷ Images ∷ Floors ∷ EntryOwners ∷ EntryTids ∷ EntryReaders ∷ DoneMarks ∷ CompleteMarks ∷ Inboxes ∷ Outboxes ∷ []
changes (Reply n) = Replied ∷ []
changes (Trim k a) = TrimmedMarks ∷ Images ∷ LastTrimmed ∷ EntryOwners ∷ EntryTids ∷ EntryReaders ∷ DoneMarks ∷ CompleteMarks ∷ []

abbrev pub number : Content → ℕ
number Holder = 0
number NextTx = 1
number NextTid = 2
number NextBid = 3
number RingEpoch = 4
number Lasts = 5
number PactQueues = 6
number ActQueues = 7
number NextC = 8
number Cascades = 9
number Pairs = 10
number ActTids = 11
number ActTxs = 12
number Befores = 13
number Afters = 14
number ActActors = 15
number PreparedMarks = 16
number VouchedMarks = 17
number FinishedMarks = 18
number ActResults = 19
number Statuses = 20
number Subs = 21
number Controls = 22
number Bids = 23
number BatchActors = 24
number BatchTids = 25
number BatchTxs = 26
number NotedMarks = 27
number TrimmedMarks = 28
number PactResults = 29
number Stages = 30
number AbortedMarks = 31
number SettledBatch = 32
number Replied = 33
number Records = 34
number SyncedCounts = 35
number States = 36
number Images = 37
number CellEpochs = 38
number LastPlaced = 39
number LastTrimmed = 40
number Tails = 41
number Floors = 42
number EntryOwners = 43
number EntryTids = 44
number DoneMarks = 45
number CompleteMarks = 46
number Inboxes = 47
number Outboxes = 48
number ActReaders = 49
number EntryReaders = 50

abbrev pub is_changed : Content → Event → Bool
is_changed c e = is_among (number c) (map number (changes e))
