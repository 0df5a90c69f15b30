use Rattle.std.proofs.Common.{◌≡◌, ◌++◌, ◌∷◌, [], sym, ap, ◌∙◌, arith, false}
use Rattle.std.specs.Prelude.{codes}
use Rattle.std.specs.Str.{bytes_eq}
use Rattle.work_text.specs.Cursors.{ahead, line_of}
use Rattle.work_text.proofs.Ends.{front_more, text_more}
use Rattle.work_text.proofs.program.program_end.Goals as goal

pub loop-line-preserved : goal.loop-line-preserved
loop-line-preserved c =
    let other : bytes_eq c.in-Some.line.bytes.now (codes "end") ≡ false = ap (λ w. bytes_eq c.in-Some.line.bytes.now w) (sym c.as_slice.ensures) ∙ sym c.eq.ensures ∙ c.if-eq.false in
    let s = c.loop-line.invariant.same in
    record {
      same = (
        s.0 ++ c.in-Some.line.bytes.now ∷ [],
        front_more (ahead c.args.cursor) (ahead c.loop-line.at) (ahead c.in-Some.behind) (line_of c.in-Some.line) s.0 s.1 c.in-Some.ensures.found other,
        λ some. text_more c.loop-line.at.rest.now c.args.cursor.rest.now c.in-Some.behind.rest.now c.in-Some.line.bytes.now s.0 (s.2 c.in-Some.ensures.some) (c.in-Some.ensures.feed some),
      );
      end = c.in-Some.ensures.onward.0 ∙ c.loop-line.invariant.end;
      short = c.in-Some.ensures.onward.1;
      behind = omega (arith, c.in-Some.ensures.onward.2, c.loop-line.invariant.behind);
    }
