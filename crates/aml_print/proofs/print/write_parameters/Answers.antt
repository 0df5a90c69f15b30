use Rattle.std.proofs.Common.{[], ◌∷◌, ◌++◌, sym, ap, ◌∙◌, map, take}
use Rattle.aml_tokens.specs.Token.{Name}
use Rattle.aml_tree.specs.Grammar.{listed, name_spelling}
use Rattle.aml_print.specs.Printing.{after, comma_before}
use Rattle.aml_print.proofs.PrintingSteps.{none_written, and_then, listed_more}
use Rattle.aml_print.proofs.print.write_parameters.Goals as goal

pub loop-at-init : goal.loop-at-init
loop-at-init c = none_written c.args.writer.now

pub loop-at-preserved : goal.loop-at-preserved
loop-at-preserved c =
    let words = c.args.words.now in
    let at = c.loop-at.at in
    let word = c.index-words-at.result in
    and_then c.args.writer.now c.loop-at.writer c.write_word.new.writer (listed (map name_spelling (take at words))) (comma_before at ++ Name word ∷ []) c.loop-at.invariant
    (and_then c.loop-at.writer c.write_comma.new.writer c.write_word.new.writer (comma_before at) (Name word ∷ []) c.in_ok-write_comma.ensures c.in_ok-write_word.ensures)
    ∙ ap (after c.args.writer.now) (sym (listed_more name_spelling words at word c.loop-at-test.true c.index-words-at.is))
