use Rattle.std.proofs.Common.{[], ◌∷◌, ◌++◌, map}
use Rattle.aml_tokens.specs.declared.tokens.Symbol.TheVariants as symbol
use Rattle.aml_tokens.specs.Token.{Name, Sign}
use Rattle.aml_tree.specs.Tree.{block_tree}
use Rattle.aml_tree.specs.Grammar.{listed, name_spelling, read_spelling, block_spelling}
use Rattle.aml_print.proofs.PrintingSteps.{and_then}
use Rattle.aml_print.proofs.print.write_method.Goals as goal

pub returns : goal.returns
returns c =
    let m = c.args.method.now in
    let names = listed (map name_spelling m.parameters) in
    let body = block_spelling (block_tree m.body) in
    let w0 = c.write_read.new.writer in
    let w1 = c.write_symbol.new.writer in
    let w2 = c.write_word.new.writer in
    let w3 = c.write_symbol-2.new.writer in
    let w4 = c.write_parameters.new.writer in
    let w5 = c.write_symbol-3.new.writer in
    let w6 = c.write_symbol-4.new.writer in
    let w7 = c.write_block.new.writer in
    and_then c.args.writer.now w0 w7 (read_spelling m.is_read) (Sign symbol.Method ∷ Name m.name ∷ Sign symbol.Open ∷ (names ++ Sign symbol.Close ∷ Sign symbol.OpenBrace ∷ body)) c.in_ok-write_read.ensures
    (and_then w0 w1 w7 (Sign symbol.Method ∷ []) (Name m.name ∷ Sign symbol.Open ∷ (names ++ Sign symbol.Close ∷ Sign symbol.OpenBrace ∷ body)) c.in_ok-write_symbol.ensures
    (and_then w1 w2 w7 (Name m.name ∷ []) (Sign symbol.Open ∷ (names ++ Sign symbol.Close ∷ Sign symbol.OpenBrace ∷ body)) c.in_ok-write_word.ensures
    (and_then w2 w3 w7 (Sign symbol.Open ∷ []) (names ++ Sign symbol.Close ∷ Sign symbol.OpenBrace ∷ body) c.in_ok-write_symbol-2.ensures
    (and_then w3 w4 w7 names (Sign symbol.Close ∷ Sign symbol.OpenBrace ∷ body) (rw c.as_slice.ensures at c.in_ok-write_parameters.ensures)
    (and_then w4 w5 w7 (Sign symbol.Close ∷ []) (Sign symbol.OpenBrace ∷ body) c.in_ok-write_symbol-3.ensures
    (and_then w5 w6 w7 (Sign symbol.OpenBrace ∷ []) body c.in_ok-write_symbol-4.ensures c.in_ok-write_block.ensures))))))
