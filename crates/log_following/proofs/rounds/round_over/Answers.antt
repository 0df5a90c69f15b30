use Rattle.std.proofs.Common.{List, refl, subst, arith, rules}
use Rattle.txn_records.specs.declared.records.Record.{Record}
use Rattle.log_compact.specs.Refusals.{IsCheckpointRefused}
use Rattle.log_following.specs.Rounds.{MayBeRead}
use Rattle.log_following.proofs.Named.{refused_below, stray_below}
use Rattle.log_following.proofs.rounds.round_over.Goals as goal

pub of_checkpoint-requires : goal.of_checkpoint-requires
of_checkpoint-requires c =
    omega (arith, c.requires.few, stray_below c.args.lists c.in-Some.no (subst (λ (ls : List (List Record)). IsCheckpointRefused ls c.in-Some.no) c.as_slice.ensures c.in-Some.ensures))

pub returns-in-Some : goal.returns-in-Some
returns-in-Some c =
    (refl, c.of_checkpoint.ensures c.args.follower.now.before c.args.lists (subst (λ (ls : List (List Record)). IsCheckpointRefused ls c.in-Some.no) c.as_slice.ensures c.in-Some.ensures))

pub of_round-requires : goal.of_round-requires
of_round-requires c =
    let may : MayBeRead c.as_slice.result.now = search rules in
    omega (arith, c.requires.few, refused_below c.args.follower.now.before c.args.lists c.in-Err.no c.requires.some (subst (λ (ls : List (List Record)). MayBeRead ls) c.as_slice.ensures may) c.in-Err.ensures.refused)
