use Rattle.std.proofs.Common.{sym, ◌∙◌, arith}
use Rattle.aml_tokens.proofs.Fronts.{piece_ends, piece_goes_on}
use Rattle.aml_tokens.proofs.pieces.piece_end.Goals as goal

pub returns-then-not-joins-clause-piece : goal.returns-then-not-joins-clause-piece
returns-then-not-joins-clause-piece c =
    sym c.loop-end.invariant ∙ piece_ends c.args.text.now c.args.start c.loop-end.end (omega arith) (omega arith) (sym c.joins.ensures ∙ c.if-not-joins.true)

pub loop-end-preserved : goal.loop-end-preserved
loop-end-preserved c =
    piece_goes_on c.args.text.now c.args.start c.loop-end.end (omega arith) (omega arith) (sym c.joins.ensures ∙ c.if-not-joins.false) ∙ c.loop-end.invariant
