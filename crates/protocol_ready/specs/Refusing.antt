-- Which events an event may refuse that were allowed before it: what the event takes, ends or cuts is what they ask for. It is a
-- test of the two alone, so it may hold of an event that stays allowed.
use Rattle.std.specs.Prelude.{◌≡◌, ℕ, ◌==◌, Bool, true, false, not, ◌&&◌, ◌||◌, Option, Some, None, List, Contains, ◌⊎◌}
use Rattle.snap_base.specs.declared.transactions.State.{State}
use Rattle.protocol.specs.Fixed.{Fixed}
use Rattle.protocol.specs.Facts.{Alone}
use Rattle.protocol.specs.Parts.{Machine}
use Rattle.protocol.specs.Events.{Event, Submit, Pass, Form, Admit, Arrive, Ask, Take, Run, Send, End, Close, Complete, Sync, Note, Commit, Settle, Abort, Rollback, DropSub, DropControl, Prepare, Vouch, Decide, Seal, Finish, Reply, Trim}
use Rattle.protocol.specs.Conditions.{IsAllowed}
use Rattle.protocol.specs.Effects.{after}
use Rattle.protocol.specs.Runs.{reached}
use Rattle.protocol.specs.Schedule.{AscendByRank, IsEnabled}
use Rattle.protocol_ready.specs.Touched.{is_touched, is_abort}

-- ---- which transaction, batch or actor an event changes, and how

-- the transaction whose control it takes out of the post
abbrev pub taken_by : Event → Option ℕ
taken_by (Ask t a) = Some t
taken_by (Take t a) = Some t
taken_by (DropControl t) = Some t
taken_by _ = None

-- the transaction whose outcome it takes, or whose place on an actor
abbrev pub handed_on_by : Event → Option ℕ
handed_on_by (Send t a) = Some t
handed_on_by (End t a) = Some t
handed_on_by (Finish t a) = Some t
handed_on_by _ = None

-- the ACT that leaves an actor
abbrev pub left_by : Event → Option ℕ
left_by (Finish t a) = Some t
left_by _ = None

-- the PACT that may be done on its actor then
abbrev pub done_by : Event → Option ℕ
done_by (Run t a) = Some t
done_by (Close t a) = Some t
done_by _ = None

-- the ACT whose result or status it changes
abbrev pub fated_by : Event → Option ℕ
fated_by (End t a) = Some t
fated_by (Decide t) = Some t
fated_by (Seal t) = Some t
fated_by _ = None

-- the ACT whose vote on an actor it adds, or that leaves one
abbrev pub moved_by : Event → Option ℕ
moved_by (Prepare t a) = Some t
moved_by (Finish t a) = Some t
moved_by _ = None

-- the ACT whose vote on an actor is known to be durable then
abbrev pub vouched_by : Event → Option ℕ
vouched_by (Vouch t a) = Some t
vouched_by _ = None

-- the batch that commits
abbrev pub committed_by : Event → Option ℕ
committed_by (Commit k) = Some k
committed_by _ = None

-- the actor to which a sub-batch comes, or whose sub-batches are counted anew
abbrev pub reached_by : Event → Option ℕ
reached_by (Arrive k a) = Some a
reached_by (DropSub k a) = Some a
reached_by (Rollback a) = Some a
reached_by _ = None

-- the actor from whose schedule batches go
abbrev pub cut_by : Event → Option ℕ
cut_by (Rollback a) = Some a
cut_by (Trim k a) = Some a
cut_by _ = None

-- the actor that is rolled back
abbrev pub rolled_back_by : Event → Option ℕ
rolled_back_by (Rollback a) = Some a
rolled_back_by _ = None

abbrev pub is_at : ℕ → Option ℕ → Bool
is_at n None = false
is_at n (Some m) = m == n

-- a transaction joins a queue
abbrev pub is_submit : Event → Bool
is_submit (Submit n) = true
is_submit _ = false

-- a batch leaves its queue, and its PACTs get their numbers
abbrev pub is_form : Event → Bool
is_form (Form k) = true
is_form _ = false

-- ACTs may be given up by it, also others than its own
abbrev pub spreads : Event → Bool
spreads (Arrive k a) = true
spreads (Ask t a) = true
spreads _ = false

-- more ACTs may be live behind it
abbrev pub is_ask : Event → Bool
is_ask (Ask t a) = true
is_ask _ = false

-- whether a batch may commit, or has failed, may change with it
abbrev pub is_on_batches : Event → Bool
is_on_batches (Form k) = true
is_on_batches (End t a) = true
is_on_batches (Settle k) = true
is_on_batches _ = false

abbrev pub is_settle : Event → Bool
is_settle (Settle k) = true
is_settle _ = false

-- ---- what may be refused, but the event itself

abbrev pub is_in_reach : Event → Event → Bool
is_in_reach e (Submit n) = false
is_in_reach e (Pass c) = is_submit e
is_in_reach e (Form k) = false
is_in_reach e (Admit t) = is_form e || is_ask e
is_in_reach e (Arrive k a) = is_at a (reached_by e)
is_in_reach e (Ask t a) = spreads e || (is_at a (rolled_back_by e) || is_at t (taken_by e))
is_in_reach e (Take t a) = is_at a (cut_by e) || (is_at t (taken_by e) || is_at t (left_by e))
is_in_reach e (Run t a) = is_at a (cut_by e) || is_at t (left_by e)
is_in_reach e (Send t a) = is_at a (rolled_back_by e) || is_at t (handed_on_by e)
is_in_reach e (End t a) = is_at a (rolled_back_by e) || is_at t (handed_on_by e)
is_in_reach e (Close t a) = is_at a (cut_by e) || is_at t (done_by e)
is_in_reach e (Complete k a) = is_at a (cut_by e)
is_in_reach e (Sync l) = false
is_in_reach e (Note k a) = is_at k (committed_by e)
is_in_reach e (Commit k) = is_on_batches e
is_in_reach e (Settle k) = false
is_in_reach e (Abort k) = is_on_batches e || is_at k (committed_by e)
is_in_reach e (Rollback a) = is_at a (rolled_back_by e)
is_in_reach e (DropSub k a) = is_at a (reached_by e)
is_in_reach e (DropControl t) = is_at t (taken_by e)
is_in_reach e (Prepare t a) = spreads e || is_at t (fated_by e)
is_in_reach e (Vouch t a) = spreads e || (is_at t (fated_by e) || is_at t (moved_by e))
is_in_reach e (Decide t) = (spreads e || is_settle e) || (is_at t (fated_by e) || is_at t (vouched_by e))
is_in_reach e (Seal t) = is_at t (fated_by e)
is_in_reach e (Finish t a) = is_at t (fated_by e)
is_in_reach e (Reply n) = false
is_in_reach e (Trim k a) = false

abbrev pub is_reply : Event → Bool
is_reply (Reply n) = true
is_reply _ = false

-- a cascade may refuse all but replies: what a transaction is told stands
abbrev pub may_refuse : Event → Event → Bool
may_refuse e f = (is_abort e && not (is_reply f)) || is_in_reach e f

-- ---- the laws

-- An event that was just taken is not allowed right behind itself.
abbrev pub RefusesItself : {C : Type 0} → Fixed C → Machine C → Type 0
RefusesItself w s = (e : Event) → IsAllowed w e s → IsAllowed w e (after w e s) → ⊥

-- What an event may not refuse, and is another one, stays allowed.
abbrev pub KeepsOthers : {C : Type 0} → Fixed C → (C → List State → Alone) → List Event → Type 0
KeepsOthers w finish es = (e f : Event) → IsAllowed w e (reached w es) → may_refuse e f ≡ false → (f ≡ e → ⊥) → IsAllowed w f (reached w es) → IsAllowed w f (after w e (reached w es))

-- Ascending events that were the allowed ones before an event, and are so after it: only what it may refuse was asked again, and
-- the event itself, and is out where it is refused; and what it has made allowed has come in.
pub record IsRenewed {C : Type 0} (w : Fixed C) (e : Event) (s : Machine C) (old new : List Event) : Type 0 where
  pub only : (f : Event) → Contains new f → IsAllowed w f (after w e s) ⊎ (Contains old f × (may_refuse e f ≡ false))
  pub own : IsAllowed w e (after w e s) ⊎ (Contains new e → ⊥)
  pub kept : (f : Event) → Contains old f → IsAllowed w f (after w e s) → Contains new f
  pub told : (f : Event) → is_touched w e s f ≡ true → (IsAllowed w f s → ⊥) → IsAllowed w f (after w e s) → Contains new f
  pub ascends : AscendByRank old → AscendByRank new

-- So renewed, all allowed events before an event are all allowed ones after it.
abbrev pub RenewedAreEnabled : {C : Type 0} → Fixed C → (C → List State → Alone) → List Event → Type 0
RenewedAreEnabled w finish es = (e : Event) (old new : List Event) → IsAllowed w e (reached w es) → IsRenewed w e (reached w es) old new → IsEnabled w (reached w es) old → IsEnabled w (after w e (reached w es)) new
