-- A follower who looks at the devices of a run while it goes on, and what every look owes.
use Rattle.std.specs.Prelude.{◌≡◌, ℕ, ◌+◌, ◌<◌, Bool, true, false, ◌||◌, Option, Some, None, List, [], ◌∷◌, ◌++◌, length, map, Contains, ⊤}
use Rattle.snap_base.specs.declared.transactions.State.{State}
use Rattle.aml_tree.specs.Tree.{CheckedMethod}
use Rattle.protocol.specs.Chains.{by_place}
use Rattle.protocol.specs.Events.{Event}
use Rattle.protocol.specs.Fixed.{Text}
use Rattle.protocol.specs.History.{Done}
use Rattle.protocol.specs.Parts.{Who}
use Rattle.protocol_laws.specs.Commits.{is_kept}
use Rattle.protocol_records.specs.Crash.{HasMember}
use Rattle.followed_runs.specs.Following.{IsClosedByChange, followed}
use Rattle.followed_logs.specs.OnRecords.{HasReadNothing, IsRunsFront, in_first, key_of}
use Rattle.followed_meant.specs.AsMeant.{meant_from}
use Rattle.log_compact.specs.Sets.{point_in, without_point}
use Rattle.record_log.specs.Records.{HoldsRecords}
use Rattle.run_opening.specs.Opens.{records_at}
use Rattle.run_recovery.specs.Crashes.{earlier}
use Rattle.run_recovery.specs.OneRun.{TheRun, history_in}
use Rattle.run_recovery.specs.Runs.{text_of}
use Rattle.snap_follow.specs.Refusals.{IsNotFollowed}
use Rattle.snap_follow.specs.Rounds.{Following, IsRound, StartsWith, list_at, taken_by}
use Rattle.snap_follow.specs.declared.refusals.FollowNo.{FollowNo}
use Rattle.snap_follow.specs.declared.refusals.FollowNo.TheVariants.{Memory}
use Rattle.txn_records.specs.declared.records.Record.{Record}
use Rattle.txn_records.specs.declared.records.Record.TheVariants.{Genesis}
use Rattle.followed_bytes.specs.Readings.{IsReadingOf}

-- ---- looks

-- What the devices show as he looks; the records that the bytes of the logs in use hold; and what he knows then.
pub record Look (r : TheRun) : Type 0 where
  pub bytes : ℕ → List ℕ
  pub shown : IsReadingOf r bytes
  pub lists : List (List Record)
  pub as_many : length lists ≡ r.work.logs
  pub held : (l : ℕ) → l < r.work.logs → HoldsRecords (bytes (r.devices.head + l)) (records_at lists l)
  pub known : Following

-- each log is looked at at no earlier moment than any in the look before
abbrev pub IsNoEarlier : (r : TheRun) → Option (Look r) → Look r → Type 0
IsNoEarlier r None y = ⊤
IsNoEarlier r (Some x) y = (l i : ℕ) → (more : List Event) × ((y.shown.moment i).events ≡ (x.shown.moment l).events ++ more)

-- each look goes on from the one before it, by a round over the records that it found
abbrev pub GoOnLooking : (r : TheRun) → Following → Option (Look r) → List (Look r) → Type 0
GoOnLooking r f before [] = ⊤
GoOnLooking r f before (y ∷ ys) = (IsNoEarlier r before y × IsRound f y.lists y.known) × GoOnLooking r y.known (Some y) ys

-- what he knows behind the looks, and the last of them
abbrev pub known_behind : (r : TheRun) → Following → List (Look r) → Following
known_behind r f [] = f
known_behind r f (y ∷ ys) = known_behind r y.known ys

abbrev pub look_behind : (r : TheRun) → Option (Look r) → List (Look r) → Option (Look r)
look_behind r before [] = before
look_behind r before (y ∷ ys) = look_behind r (Some y) ys

-- As the run's first event came, the first log held Genesis, or Genesis and a checkpoint that tells the states with which the run began,
-- and the other logs held nothing.
pub record IsAloneOnLogs (r : TheRun) : Type 0 where
  pub front : List Record
  pub is_front : IsRunsFront r.work.logs r.opening.states front
  pub held : earlier r ≡ in_first r.work.logs front

-- these records are Genesis alone, or Genesis and a checkpoint behind it
abbrev pub IsBareFront : List Record → Type 0
IsBareFront front = (count : ℕ) × (first : List State) × (without_point front (point_in front) ≡ Genesis count first ∷ [])

-- ---- what every look owes

-- These, one after the other in the order of their places, from the text's opening, as the language means each: they give the results that
-- they had, and leave the states that are told.
pub record HasMeantStates (p : List CheckedMethod) (w : Text) (ds : List Done) (told : Option (List State)) : Type 0 where
  pub results : map Some (meant_from p w w.opening.states ds).results ≡ map (λ d. d.result) (by_place ds)
  pub states : told ≡ Some (meant_from p w w.opening.states ds).world

pub record LookStands (p : List CheckedMethod) (r : TheRun) (taken : Who → Bool) (y : Look r) : Type 0 where
  -- these are whom he has taken, and nobody else
  pub members : Who → Bool
  pub held : (w : Who) → members w ≡ true → Contains (taken_by y.known) (key_of w)
  pub of_all : (w : Who) → Contains (taken_by y.known) (key_of w) → members w ≡ true
  -- who was taken stays
  pub none_lost : (w : Who) → taken w ≡ true → members w ≡ true
  -- who is a member has committed with a value, a reader or not
  pub all_done : (w : Who) → members w ≡ true → (is_kept w (history_in r).kept || is_kept w (history_in r).kept_readers) ≡ true
  -- with each member all that committed with a value, and that the run places before it on an actor that it or its batch changed
  pub closed : IsClosedByChange (λ t. HasMember t (followed members (history_in r))) (history_in r)
  -- the members give their results by their meaning, and leave the states that he tells
  pub meant : HasMeantStates p (text_of r.work r.opening) (followed members (history_in r)) y.known.states

abbrev pub AllLooksStand : (p : List CheckedMethod) (r : TheRun) → (Who → Bool) → List (Look r) → Type 0
AllLooksStand p r taken [] = ⊤
AllLooksStand p r taken (y ∷ ys) = (s : LookStands p r taken y) × AllLooksStand p r s.members ys

-- ---- laws

-- Whatever the devices of the run show at his looks, and when he looks, each look owes this.
abbrev pub LooksTellMeantStates : List CheckedMethod → TheRun → Type 0
LooksTellMeantStates p r =
    (f : Following) (ys : List (Look r)) → IsAloneOnLogs r → HasReadNothing f → GoOnLooking r f None ys → AllLooksStand p r (λ w. false) ys

-- all that was there in the look before is there in this one
abbrev pub IsStillThere : (r : TheRun) → Option (Look r) → Look r → Type 0
IsStillThere r None y = ⊤
IsStillThere r (Some x) y = (l : ℕ) → l < r.work.logs → StartsWith (list_at y.lists l) (list_at x.lists l)

-- And whatever they show at the next one, its round is refused for want of memory alone.
abbrev pub LooksGoOn : TheRun → Type 0
LooksGoOn r =
    (f : Following) (ys : List (Look r)) (next : Look r) (no : FollowNo) → IsAloneOnLogs r → HasReadNothing f → GoOnLooking r f None ys
    → IsNoEarlier r (look_behind r None ys) next → IsStillThere r (look_behind r None ys) next
    → IsNotFollowed (known_behind r f ys).before next.lists no → no ≡ Memory
