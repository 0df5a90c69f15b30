use Rattle.std.proofs.Common.{◌≡◌, ℕ, ◌≤◌, List, length, ap, ◌∙◌, string_bytes, subst, sym}
use Rattle.std.specs.Str.{IsUtf8}
use Rattle.std.proofs.lemmas.Str.{IsUtf8-from_ascii}
use Rattle.aml_tokens.specs.declared.limits.TheConstants.{LONGEST_PROGRAM}
use Rattle.aml_tokens.specs.Writing.{Written}
use Rattle.aml_tree.specs.Tree.{program_tree}
use Rattle.aml_tree.specs.Grammar.{program_spelling}
use Rattle.aml_tree.specs.Programs.{IsProgram, IsTextOfProgram}
use Rattle.aml_print.specs.Printing.{after}
use Rattle.aml_print.proofs.PrintingLines.{line_of, after_is, printed, printed_again}
use Rattle.aml_print.proofs.PrintingTokens.{program_tokens}
use Rattle.aml_print.proofs.print.print_program.Goals as goal

pub returns : goal.returns
returns c =
    let written : c.write_methods.new.writer ≡ after c.new-writer.result (program_spelling (program_tree c.args.program.now)) = rw c.as_slice.ensures at c.in_ok-write_methods.ensures in
    let bytes : c.into_text.result.items ≡ line_of (program_tree c.args.program.now) =
    c.into_text.ensures ∙ ap (λ (w : Written). w.text) (written ∙ ap (λ (w : Written). after w (program_spelling (program_tree c.args.program.now))) c.new-writer.ensures) ∙ after_is (program_tree c.args.program.now) in
    let line : IsProgram (program_tree c.args.program.now) → string_bytes c.text_of.result ≡ line_of (program_tree c.args.program.now) = λ h.
    c.text_of.ensures (subst IsUtf8 (sym bytes) (IsUtf8-from_ascii (line_of (program_tree c.args.program.now)) (c.tokens_are_read.ensures.ascii (program_spelling (program_tree c.args.program.now)) (program_tokens (program_tree c.args.program.now) h.grammar.methods)))) ∙ bytes in
    record {
      written = line;
      read = λ h fits. subst (λ (text : List ℕ). IsTextOfProgram text (program_tree c.args.program.now)) (sym (line h)) (printed c.tokens_are_read.ensures.read (program_tree c.args.program.now) h (subst (λ (text : List ℕ). length text ≤ LONGEST_PROGRAM) (line h) fits));
      again = λ source h. subst (λ (text : List ℕ). IsTextOfProgram text (program_tree c.args.program.now)) (sym (line h.program)) (printed_again c.written_is_read.ensures (program_tree c.args.program.now) source h);
    }
