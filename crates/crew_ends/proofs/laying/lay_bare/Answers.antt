use Rattle.std.proofs.Common.{◌∙◌, ◌∷◌, ap, arith, reverse}
use Rattle.crew_ends.specs.Lists.{besides_of}
use Rattle.crew_ends.proofs.LaidOut.{one_bare}
use Rattle.crew_ends.proofs.laying.lay_bare.Goals as goal

pub loop-laid-preserved : goal.loop-laid-preserved
loop-laid-preserved g c = record {
  parts = c.lay_last.ensures.parts ∙ c.loop-laid.invariant.parts;
  besides = one_bare c.loop-laid._laid (besides_of (reverse c.args.shares.now.items)) (besides_of (reverse c.loop-laid.shares.items)) (besides_of (reverse c.lay_last.new.shares.items)) c.loop-laid.invariant.besides
      (c.lay_last.ensures.besides ∙ ap (λ b. b ∷ besides_of (reverse c.loop-laid.shares.items)) c.bare.ensures);
  fewer = omega arith;
  more = omega arith;
  room = c.lay_last.ensures.room ∙ c.loop-laid.invariant.room;
}
