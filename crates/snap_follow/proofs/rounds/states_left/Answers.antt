use Rattle.std.proofs.Common.{List, length, Bor, sym, subst, ◌∙◌}
use Rattle.std.specs.List.{AllByRecursion}
use Rattle.snap_base.specs.declared.transactions.State.{State}
use Rattle.txn_records.specs.declared.records.Record.{Record}
use Rattle.snap_recover.specs.Logs.{all_of}
use Rattle.snap_recover.specs.Opening.{IsInRange}
use Rattle.snap_follow.proofs.AlikeLists.{chosen_all}
use Rattle.snap_follow.proofs.Founds.{range_of}
use Rattle.snap_follow.proofs.rounds.states_left.Goals as goal

pub replayed-requires-clause-range : goal.replayed-requires-clause-range
replayed-requires-clause-range c =
    let first = c.in-Some.first in
    let range = range_of (λ (f : Bor (List State)). f.now) (all_of c.args.now.now) c.args.first first c.in-Some.is c.requires.range in
    subst (λ (z : List State). AllByRecursion (IsInRange (length z)) (all_of c.as_slice.result.now)) (sym c.as_slice-2.ensures)
    (subst (λ (z : List (List Record)). AllByRecursion (IsInRange (length first.now)) (all_of z)) (sym (c.as_slice.ensures ∙ c.in_ok-some.ensures)) (chosen_all (IsInRange (length first.now)) c.args.set.now c.args.now.now range))
