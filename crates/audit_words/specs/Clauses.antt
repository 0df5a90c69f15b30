-- What each line of a report has to say, beside the lines before it, by what the events tell and by what the language means.
use Rattle.std.specs.Prelude.{◌≡◌, ◌≢◌, ℕ, ◌+◌, ◌==◌, ◌<◌, ◌≤◌, nat_le, Bool, true, false, not, ◌&&◌, ◌||◌, ◌⊎◌, if◌then◌else◌, ⊤}
use Rattle.std.specs.Prelude.{Option, Some, None, List, [], ◌∷◌, ◌++◌, length, map, filter, find}
use Rattle.std.specs.List.{AllByRecursion, list_any}
use Rattle.snap_base.specs.declared.transactions.State.{State}
use Rattle.snap_base.specs.declared.transactions.Tx.{Tx}
use Rattle.snap_base.specs.declared.transactions.TxResult.{TxResult}
use Rattle.snap_base.specs.declared.transactions.TxResult.TheVariants.{Value, Fail}
use Rattle.snap_base.specs.declared.verdicts.Place.{Place}
use Rattle.snap_base.specs.declared.verdicts.Verdict.{Verdict}
use Rattle.snap_base.specs.declared.verdicts.Verdict.TheVariants as verdicts
use Rattle.snap_base.specs.Outcomes.{Alone, Serial}
use Rattle.snap_report.specs.Lines.{shown_fields}
use Rattle.protocol.specs.Fixed.{Text, tx_at}
use Rattle.protocol.specs.Facts.{state_in}
use Rattle.protocol.specs.Parts.{Pact, Who, OfBatch, OfAct}
use Rattle.protocol.specs.OnRing.{Formed}
use Rattle.protocol.specs.Words.{is_value, count}
use Rattle.protocol.specs.Report.{is_committed}
use Rattle.protocol.specs.History.{Done}
use Rattle.protocol.specs.Chains.{by_place, counts}
use Rattle.audit_words.specs.Seen.{Begun, Why, Older, Crossed, Taken, Member, Seen, batch_in, first_doom}
use Rattle.audit_words.specs.Orders.{seen_history, RiseTo}
use Rattle.audit_words.specs.Papers.{Line, Reply, Actor, End, Kept, Recovered}

-- ---- the shape of a report

-- the verdict that nobody knows what became of a transaction
abbrev pub is_unsure : Verdict → Bool
is_unsure (verdicts.Unsure l) = true
is_unsure _ = false

-- one of the lines is the reply to transaction n
abbrev pub is_answered : ℕ → List Line → Bool
is_answered n [] = false
is_answered n (Reply m v ∷ ls) = (m == n) || is_answered n ls
is_answered n (_ ∷ ls) = is_answered n ls

-- the line is a reply that tells of a commit
abbrev pub tells_commit : Line → Bool
tells_commit (Reply n v) = is_committed v
tells_commit _ = false

-- the line is a reply that tells of anything else
abbrev pub tells_other : Line → Bool
tells_other (Reply n v) = not (is_committed v)
tells_other _ = false

-- Of so many transactions and actors, with so many batches that settled. First the replies, one to each transaction; then the
-- actors by number; then the end, with what the replies count.
abbrev pub MayFollow : ℕ → ℕ → ℕ → List Line → Line → Type 0
MayFollow txs actors settled front (Reply n v) = (length front < txs) × (n < txs) × (is_unsure v ≡ false) × (is_answered n front ≡ false)
MayFollow txs actors settled front (Actor a fields) = (length front ≡ txs + a) × (a < actors)
MayFollow txs actors settled front (End x y z) = (length front ≡ txs + actors) × (x ≡ count tells_commit front) × (y ≡ count tells_other front) × (z ≡ settled)
MayFollow txs actors settled front (Kept p v) = ⊥
MayFollow txs actors settled front (Recovered x y t k c) = ⊥

-- ---- places

-- the second one is of no smaller batch than the first
abbrev pub IsNotBelow : Who → Who → Type 0
IsNotBelow (OfBatch k) (OfBatch j) = k ≤ j
IsNotBelow (OfBatch k) (OfAct t) = ⊤
IsNotBelow (OfAct t) other = ⊤

-- Transaction n has this place; and no smaller batch committed after its own.
pub record IsPlacedAt (n : ℕ) (p : Place) (members : List Member) : Type 0 where
  pub member : Member
  pub front : List Member
  pub rest : List Member
  pub splits : members ≡ front ++ member ∷ rest
  pub tx : member.tx ≡ n
  pub place : member.place ≡ p
  pub in_order : AllByRecursion (λ m. IsNotBelow member.who m.who) rest

-- who is told a place has it; and only an ACT fails there
abbrev pub TellsPlace : Seen → List Line → Line → Type 0
TellsPlace s front (Reply n (verdicts.Committed p v)) = IsPlacedAt n p s.members
TellsPlace s front (Reply n (verdicts.Code p code)) = (p.side ≡ 1) × IsPlacedAt n p s.members
TellsPlace s front _ = ⊤

-- ---- what the language means

-- of each transaction alone, from the states that it finds: its result, and the states that it leaves
abbrev pub Meaning : Type 0
Meaning = List State → Tx → Alone

-- the language, as far as papers speak of it
pub record Language : Type 0 where
  pub meaning : Meaning
  -- of a transaction, whether its method only reads
  pub reads : Tx → Bool

-- who fails leaves nothing
abbrev pub LeavesNothing : Meaning → Type 0
LeavesNothing m = (world : List State) (tx : Tx) → is_value (Some (m world tx).result) ≡ false → (m world tx).world ≡ world

-- one transaction alone after the other
abbrev pub serial : Meaning → List State → List Tx → Serial
serial m world [] = record { results = []; world = world }
serial m world (tx ∷ txs) =
    let first = m world tx in
    let rest = serial m first.world txs in
    record { results = first.result ∷ rest.results; world = rest.world }

-- transaction n at its place, with the result that it is told
abbrev pub done_at : ℕ → Place → TxResult → Done
done_at n p r = record { who = OfAct n; tid = n; tx = n; place = p; result = Some r; reader = false; views = λ a. None }

-- who is told a value or a code has a place, and no other has one
abbrev pub located_by : ℕ → Verdict → List Done
located_by n (verdicts.Committed p v) = done_at n p (Value v) ∷ []
located_by n (verdicts.Code p code) = done_at n p (Fail code) ∷ []
located_by n _ = []

-- who is told a place
abbrev pub located : List Line → List Done
located [] = []
located (Reply n v ∷ ls) = located_by n v ++ located ls
located (_ ∷ ls) = located ls

-- a committed one leaves what it leaves alone; who fails leaves nothing
abbrev pub world_left_by : Meaning → Text → List State → Done → List State
world_left_by m w world d = if is_value d.result then (m world (tx_at w d.tx)).world else world

-- the states behind all of these
abbrev pub world_behind : Meaning → Text → List State → List Done → List State
world_behind m w world [] = world
world_behind m w world (d ∷ ds) = world_behind m w (world_left_by m w world d) ds

-- what each of them gives alone, behind those committed before it
abbrev pub given : Meaning → Text → List State → List Done → List (ℕ × TxResult)
given m w world [] = []
given m w world (d ∷ ds) = (d.tx, (m world (tx_at w d.tx)).result) ∷ given m w (world_left_by m w world d) ds

-- what is given to transaction n
abbrev pub given_to : ℕ → List (ℕ × TxResult) → Option TxResult
given_to n [] = None
given_to n (x ∷ xs) = if x.0 == n then Some x.1 else given_to n xs

-- what is given to those of a report, in the order of their places, from the states of the text
abbrev pub given_in : Meaning → Text → List Line → List (ℕ × TxResult)
given_in m w ls = given m w w.opening.states (by_place (located ls))

-- the states that those of a report leave
abbrev pub last_world : Meaning → Text → List Line → List State
last_world m w ls = world_behind m w w.opening.states (by_place (located ls))

-- each reply with a place tells what the transaction gives there, and each actor the state that the committed ones leave
abbrev pub TellsMeaning : Meaning → Text → List Line → List Line → Line → Type 0
TellsMeaning m w ls front (Reply n (verdicts.Committed q v)) = given_to n (given_in m w ls) ≡ Some (Value v)
TellsMeaning m w ls front (Reply n (verdicts.Code q code)) = given_to n (given_in m w ls) ≡ Some (Fail code)
TellsMeaning m w ls front (Actor a fields) = fields ≡ shown_fields (state_in (last_world m w ls) a).0
TellsMeaning m w ls front _ = ⊤

-- ---- the order of placing

-- whoever was placed before the transaction on some actor, and has its place, has it below the transaction's
abbrev pub TellsOrder : Seen → List Line → Line → Type 0
TellsOrder s front (Reply n v) = RiseTo n (seen_history s)
TellsOrder s front _ = ⊤

-- ---- evidence

-- the states that these leave, one by one in the order of their places
abbrev pub world_left_below : Meaning → Text → ℕ → ℕ → List Line → List State
world_left_below m w k c ls = (serial m w.opening.states (map (λ d. tx_at w d.tx) (filter (counts k c) (by_place (located ls))))).world

-- all but the last are values, and that is this failure
pub record FailsLast (code : ℕ) (results : List TxResult) : Type 0 where
  pub values : List TxResult
  pub splits : results ≡ values ++ Fail code ∷ []
  pub all : AllByRecursion (λ r. is_value (Some r) ≡ true) values

-- Batch k was aborted when the next Decide would have drawn number c; transaction n is one of its PACTs; and behind what counts
-- its PACTs, by tid, give values up to that one, which fails.
pub record FailsItsBatch (m : Meaning) (w : Text) (s : Seen) (ls : List Line) (n k c code : ℕ) : Type 0 where
  pub batch : Formed
  pub pact : Pact
  pub front : List Pact
  pub rest : List Pact
  pub aborted : list_any (λ x. (x.first == k) && (x.at == c)) s.cuts ≡ true
  pub found : batch_in k s.batches ≡ Some batch
  pub splits : batch.pacts ≡ front ++ pact ∷ rest
  pub tx : pact.tx ≡ n
  pub fails : FailsLast code (serial m (world_left_below m w k c ls) (map (λ q. tx_at w q.tx) (front ++ pact ∷ []))).results

-- transaction n is an ACT, and first given up so
pub record IsGivenUpFor (s : Seen) (n : ℕ) (why : Why) : Type 0 where
  pub act : Begun
  pub found : find (λ x. x.tx == n) s.acts ≡ Some act
  pub doom : first_doom act.tid s.dooms ≡ Some (record { tid = act.tid; why = why })

-- transaction n is an ACT that died on an actor, with this tid
pub record HasDied (s : Seen) (n a older own : ℕ) : Type 0 where
  pub given_up : IsGivenUpFor s n (Older a older)
  pub own_tid : given_up.act.tid ≡ own

-- the batch of transaction n was formed before batch k was aborted, and is not below it
pub record IsTakenPact (s : Seen) (n k : ℕ) : Type 0 where
  pub batch : Formed
  pub found : find (λ b. list_any (λ q. q.tx == n) b.pacts) s.batches ≡ Some batch
  pub reached : list_any (λ x. (x.first == k) && (nat_le k batch.bid && nat_le batch.bid x.upto)) s.cuts ≡ true

-- transaction n is told that it failed with batch k
abbrev pub tells_batch_code : ℕ → ℕ → Line → Bool
tells_batch_code n k (Reply m (verdicts.BatchCode j at code)) = (m == n) && (j.0 == k)
tells_batch_code n k _ = false

-- Transaction `by` is told that batch k failed with it, and that cascade took transaction n along.
pub record IsTakenAlong (s : Seen) (ls : List Line) (n k by : ℕ) : Type 0 where
  pub told : list_any (tells_batch_code by k) ls ≡ true
  pub taken : (IsTakenPact s n k × (n ≢ by)) ⊎ IsGivenUpFor s n (Taken k)

-- whoever is told that it was aborted has its evidence in the events
abbrev pub TellsEvidence : Meaning → Text → Seen → List Line → List Line → Line → Type 0
TellsEvidence m w s ls front (Reply n (verdicts.BatchCode k at code)) = FailsItsBatch m w s ls n k.0 at code
TellsEvidence m w s ls front (Reply n (verdicts.Cascade k by)) = IsTakenAlong s ls n k.0 by.0
TellsEvidence m w s ls front (Reply n (verdicts.Died a older own)) = HasDied s n a.0 older.0 own.0
TellsEvidence m w s ls front (Reply n (verdicts.Order before behind a)) = IsGivenUpFor s n (Crossed before.0 behind.0 a.0)
TellsEvidence m w s ls front _ = ⊤
