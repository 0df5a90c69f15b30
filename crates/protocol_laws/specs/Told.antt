-- What committed, beside the batches and the ACTs: each of them has its place exactly where it is among those that committed.
use Rattle.std.specs.Prelude.{◌≡◌, ℕ, ◌+◌, ◌≤◌, ◌==◌, Bool, true, false, ◌⊎◌, Option, Some, is_some, List, [], ◌∷◌, ◌++◌, ⊤}
use Rattle.std.specs.List.{AllByRecursion}
use Rattle.snap_base.specs.declared.transactions.TxResult.{TxResult}
use Rattle.snap_base.specs.declared.verdicts.Place.{Place}
use Rattle.protocol.specs.Parts.{Act, Batch, Pact, Who, OfBatch, OfAct, Status, Live, Doomed, Decided, Sealed, Machine}
use Rattle.protocol.specs.Words.{is_value, is_formed, act_of, batch_of}
use Rattle.protocol.specs.Verdicts.{pact_place, act_place}
use Rattle.protocol.specs.History.{Done, History}
use Rattle.protocol_laws.specs.Commits.{is_kept}
use Rattle.protocol_laws.specs.Linked.{PlacesDiffer}

-- a fact of each ACT that is found under its tid
abbrev pub EachAct : (ℕ → Act → Type 0) → List Act → Type 0
EachAct P acts = (t : ℕ) (x : Act) → act_of t acts ≡ Some x → P t x

-- a fact of each batch that is found under its number
abbrev pub EachBatch : (ℕ → Batch → Type 0) → List Batch → Type 0
EachBatch P bs = (k : ℕ) (b : Batch) → batch_of k bs ≡ Some b → P k b

-- ---- from batches and ACTs to what committed

-- one of these is of this batch or ACT, with this tid, transaction, place and result
pub record AmongDone (y : Who) (t n : ℕ) (p : Place) (r : Option TxResult) (ds : List Done) : Type 0 where
  pub done : Done
  pub front : List Done
  pub rest : List Done
  pub splits : ds ≡ front ++ done ∷ rest
  pub who : done.who ≡ y
  pub tid : done.tid ≡ t
  pub tx : done.tx ≡ n
  pub place : done.place ≡ p
  pub result : done.result ≡ r

-- among these is transaction n, at this place, with this result
pub record IsAmongDone (n : ℕ) (p : Place) (r : TxResult) (ds : List Done) : Type 0 where
  pub done : Done
  pub front : List Done
  pub rest : List Done
  pub splits : ds ≡ front ++ done ∷ rest
  pub tx : done.tx ≡ n
  pub place : done.place ≡ p
  pub result : done.result ≡ Some r

-- it is decided or sealed, as this number of the commits of ACTs
abbrev pub has_number : ℕ → Status → Bool
has_number c Live = false
has_number c (Doomed v) = false
has_number c (Decided d) = d == c
has_number c (Sealed d) = d == c

abbrev pub ActTold : List Done → ℕ → Act → Type 0
ActTold ds t x = (c : ℕ) → has_number c x.status ≡ true → AmongDone (OfAct t) t x.tx (act_place x.m c) x.result ds

abbrev pub PactTold : List Done → ℕ → Pact → Type 0
PactTold ds k p = AmongDone (OfBatch k) p.tid p.tx (pact_place k p.tid) p.result ds × (is_some p.result ≡ true)

abbrev pub BatchTold : List Done → ℕ → Batch → Type 0
BatchTold ds k b = is_formed b.stage ≡ false → AllByRecursion (PactTold ds k) b.pacts

-- ---- and the other way round

pub record IsDoneOfAct (d : Done) (x : Act) : Type 0 where
  pub c : ℕ
  pub at : has_number c x.status ≡ true
  pub tid : d.tid ≡ x.tid
  pub tx : d.tx ≡ x.tx
  pub place : d.place ≡ act_place x.m c
  pub result : d.result ≡ x.result

pub record DoneFrom (acts : List Act) (t : ℕ) (d : Done) : Type 0 where
  pub there : is_some (act_of t acts) ≡ true
  pub is_it : EachAct (λ u x. u ≡ t → IsDoneOfAct d x) acts

pub record IsDonePact (k : ℕ) (d : Done) (p : Pact) : Type 0 where
  pub tid : d.tid ≡ p.tid
  pub tx : d.tx ≡ p.tx
  pub place : d.place ≡ pact_place k p.tid
  pub result : d.result ≡ p.result
  pub ended : is_some p.result ≡ true

abbrev pub AnyPact : (Pact → Type 0) → List Pact → Type 0
AnyPact P [] = ⊥
AnyPact P (p ∷ ps) = P p ⊎ AnyPact P ps

pub record PactFrom (bs : List Batch) (keep : List Who) (k : ℕ) (d : Done) : Type 0 where
  pub kept : is_kept (OfBatch k) keep ≡ true
  pub is_it : EachBatch (λ j b. j ≡ k → AnyPact (IsDonePact k d) b.pacts) bs

abbrev pub FromBatches : List Batch → List Who → List Done → Type 0
FromBatches bs kept ds = AllByRecursion (λ d. (k : ℕ) → d.who ≡ OfBatch k → PactFrom bs kept k d) ds

-- ---- what is known of them

abbrev pub PactsAscend : ℕ → List Pact → Type 0
PactsAscend low [] = ⊤
PactsAscend low (p ∷ ps) = (low ≤ p.tid) × PactsAscend (p.tid + 1) ps

-- what committed of a batch has a value
abbrev pub Valued : List Done → Type 0
Valued ds = AllByRecursion (λ d. (k : ℕ) → d.who ≡ OfBatch k → is_value d.result ≡ true) ds

pub record CommittedTold {C : Type 0} (s : Machine C) (h : History) : Type 0 where
  pub differ : PlacesDiffer h.committed
  pub values : Valued h.committed
  pub acts_told : EachAct (ActTold h.committed) s.book.acts
  pub acts_from : AllByRecursion (λ d. (t : ℕ) → d.who ≡ OfAct t → DoneFrom s.book.acts t d) h.committed
  pub pacts_told : EachBatch (BatchTold h.committed) s.desk.batches
  pub pacts_from : FromBatches s.desk.batches h.kept h.committed
  -- the PACTs of a batch stand by their tids
  pub numbered : (k : ℕ) (b : Batch) → batch_of k s.desk.batches ≡ Some b → PactsAscend 0 b.pacts
