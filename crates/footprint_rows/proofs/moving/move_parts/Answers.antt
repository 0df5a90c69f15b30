use Rattle.std.proofs.Common.{◌≡◌, None, sym, subst, arith}
use Rattle.snap_hand.specs.Hands.{Fits, IsHandOf}
use Rattle.snap_hand.specs.Shown.{part_at}
use Rattle.snap_hand.specs.Tables.{fixed_of}
use Rattle.footprint_rows.proofs.Moved.{gone_more, all_taken}
use Rattle.footprint_rows.proofs.moving.move_parts.Goals as goal

pub loop-n-init : goal.loop-n-init
loop-n-init c = record { gone = tt; from = c.requires.from; to = c.requires.to; fits = λ s f g. (f, g) }

pub move_part-requires-clause-both : goal.move_part-requires-clause-both
move_part-requires-clause-both c =
    let b = c.requires.both in
    let now = c.loop-n.invariant.fits b.state b.first b.second in
    record { state = b.state; run = b.run; first = now.0; second = now.1 }

pub loop-n-preserved : goal.loop-n-preserved
loop-n-preserved c =
    let w = fixed_of c.args.tables.now in
    let i = c.part.result in
    let left = c.move_part.ensures.gone in
    record {
      gone = gone_more c.places_are_set.ensures.without c.loop-n.from c.move_part.new.from c.args.parts.now c.loop-n.n i c.part.ensures left c.loop-n.invariant.gone;
      from = subst (IsHandOf w) (sym left) (c.taking_fits.ensures.stays w c.loop-n.from i c.loop-n.invariant.from);
      to = c.move_part.ensures.places;
      fits = λ s f g.
          let now = c.loop-n.invariant.fits s f g in
          (subst (λ h. Fits h s) (sym left) (c.taking_fits.ensures.fits c.loop-n.from s i now.0), c.move_part.ensures.fits s now.0 now.1);
    }

pub returns-clause-gone : goal.returns-clause-gone
returns-clause-gone c = all_taken (λ i. part_at c.loop-n.from i ≡ None) c.args.parts.now c.loop-n.n (omega (arith, c.len-n-end.ensures, c.loop-n-test.false)) c.loop-n.invariant.gone
