use Rattle.turn_table.proofs.Histories.{run_join, run_cut}
use Rattle.turn_table.proofs.laws.runs_join.Goals as goal

pub returns-clause-join : goal.returns-clause-join
returns-clause-join g c start middle end es more first then = let t = c.args.tables.now in run_join (g.P.Piece.footprint t) (g.P.Piece.happens t) start middle end es more first then

pub returns-clause-cut : goal.returns-clause-cut
returns-clause-cut g c start end es more run = let t = c.args.tables.now in run_cut (g.P.Piece.footprint t) (g.P.Piece.happens t) start end es more run
