use Rattle.std.proofs.Common.{sym}
use Rattle.aml_parser.proofs.Ends.{token_fault, piece_fault, end_fault}
use Rattle.aml_parser.proofs.parse.fault_at.Goals as goal

pub returns-in-Some : goal.returns-in-Some
returns-in-Some c = token_fault c.args.text.now c.args.starts.now c.args.place c.in-Some.at c.args.cause c.fault_of.result c.requires.starts (sym c.in-Some.ensures) c.requires.stops c.fault_of.ensures

pub returns-in-Some-piece : goal.returns-in-Some-piece
returns-in-Some-piece c =
    piece_fault c.args.text.now c.args.starts.now c.args.piece c.args.place c.in-Some-piece.at c.args.cause c.in-Some-piece.cause c.fault_of-in-Some-piece.result
    c.requires.starts (sym c.in_default.ensures) c.requires.stops c.requires.piece c.in-Some-piece.is c.fault_of-in-Some-piece.ensures

pub returns-in-None : goal.returns-in-None
returns-in-None c =
    end_fault c.args.text.now c.args.starts.now c.args.piece c.args.place c.args.cause c.fault_of-in-None.result c.requires.starts (sym c.in_default.ensures) c.requires.stops c.requires.piece c.in-None.is c.fault_of-in-None.ensures
