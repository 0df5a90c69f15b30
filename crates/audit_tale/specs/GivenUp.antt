-- Who is given up, one ACT at a time, and whom nobody gains from any more.
use Rattle.std.specs.Prelude.{◌≡◌, ◌≢◌, ℕ, not, ◌&&◌, Bool, false, Some, is_some, option_map, List, map, filter, length, slice_get}
use Rattle.std.specs.List.{AllByRecursion}
use Rattle.protocol.specs.Spread.{reaches}
use Rattle.protocol.specs.Words.{is_among}
use Rattle.audit_words.specs.Happenings.{crossing}
use Rattle.audit_words.specs.Seen.{Doom, Seen, sets_cross, was_given_up}
use Rattle.audit_tale.specs.Knows.{RiseFrom, bid_number}
use Rattle.audit_tale.specs.declared.tales.ActTale.{ActTale}
use Rattle.audit_tale.specs.declared.told.ActTies.{ActTies}
use Rattle.audit_tale.specs.declared.told.Waiter.{Waiter}

-- what is asked of what is told, so that one more may be given up
pub record MayGiveUp (s : Seen) : Type 0 where
  pub rise : RiseFrom 1 s.acts
  pub carries : AllByRecursion (λ p. was_given_up s.dooms p.ahead ≡ false) s.gains

-- why those of these ACTs are given up whose sets cross
abbrev pub crossings : ℕ → List ℕ → Seen → List Doom
crossings a us s = map (crossing a s) (filter (λ x. sets_cross s x.tid && is_among x.tid us) s.acts)

-- it is live as it is kept, and crosses
abbrev pub crosses : ActTale → Bool
crosses x = (not (is_some x.given_up) && not x.decided) && reaches x.before.0 (option_map bid_number x.behind)

-- the waiters of the ACT at a place change so, and nothing else
pub record ChangesWaiters (at : ℕ) (f : List Waiter → List Waiter) (old new : List ActTies) : Type 0 where
  pub count : length new ≡ length old
  pub here : (x y : ActTies) → slice_get old at ≡ Some x → slice_get new at ≡ Some y → (y.waiters.items ≡ f x.waiters.items) × (y.left.items ≡ x.left.items)
  pub others : (i : ℕ) → i ≢ at → slice_get new i ≡ slice_get old i
