use Rattle.std.proofs.Common.{inl, refl, subst, arith}
use Rattle.log_compact.specs.declared.refusals.CheckpointNo.{CheckpointNo}
use Rattle.log_compact.specs.Refusals.{IsCheckpointRefused}
use Rattle.log_following.proofs.refusals.of_checkpoint.Goals as goal

pub returns-in-Stray : goal.returns-in-Stray
returns-in-Stray c = λ before lists not. (refl, (c.in-Stray.log, refl, subst (λ (no : CheckpointNo). IsCheckpointRefused lists no) c.in-Stray.is not))

pub returns-in-Range : goal.returns-in-Range
returns-in-Range c = λ before lists not. (refl, (0, omega arith, inl (subst (λ (no : CheckpointNo). IsCheckpointRefused lists no) c.in-Range.is not)))
