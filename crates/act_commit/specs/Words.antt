-- What is asked of the votes.
use Rattle.std.specs.Prelude.{ℕ, nat_le, Bool, ◌&&◌, ◌||◌, is_some, Option, Some, None, List, [], map}
use Rattle.std.specs.Option.{option_map}
use Rattle.snap_base.specs.declared.transactions.TxResult.{TxResult}
pub use Rattle.snap_base.specs.States.{actor_numbers}
use Rattle.protocol.specs.Parts.{Status, Live, Doomed, Decided, Sealed, Act, Book}
use Rattle.protocol.specs.Words.{is_failure, is_live_status, is_vouched_everywhere, act_of, holds}
use Rattle.protocol.specs.Effects.{ascending}

-- the number of an ACT's commit and how it ended, where it is sealed
abbrev pub sealing_of : Status → Option TxResult → Option (ℕ × TxResult)
sealing_of Live r = None
sealing_of (Doomed why) r = None
sealing_of (Decided c) r = None
sealing_of (Sealed c) r = option_map (λ e. (c, e)) r

abbrev pub sealing_by : Option Act → Option (ℕ × TxResult)
sealing_by None = None
sealing_by (Some x) = sealing_of x.status x.result

-- the actors that it joined, as its commit record has them
abbrev pub actors_by : Option Act → List ℕ
actors_by None = []
actors_by (Some x) = ascending (map (λ p. p.actor) x.places)

-- it ended, and is neither decided nor sealed
abbrev pub is_undecided : Act → Bool
is_undecided x = is_some x.result && is_live_status x.status

-- it failed, or is vouched on all its actors
abbrev pub is_ready : Act → Bool
is_ready x = is_failure x.result || is_vouched_everywhere x

-- the conditions of a decision that the votes know, and that its batches up to m are settled
abbrev pub votes_may_decide : ℕ → ℕ → ℕ → Book → Bool
votes_may_decide t m settled b = holds is_undecided (act_of t b.acts) && (holds is_ready (act_of t b.acts) && nat_le m settled)
