use Rattle.std.proofs.Common.{◌≡◌, ◌++◌, string_bytes}
use Rattle.work_text.specs.Lines.{text_of}
use Rattle.work_gen.specs.Generated.{transaction_lines}
use Rattle.work_gen.proofs.texts.push_transactions.Given as goal

-- the lines so far are appended
abbrev pub invariant-loop-place : goal.invariant-loop-place
invariant-loop-place l = string_bytes l.text ≡ string_bytes l.fn.text ++ text_of (transaction_lines l.fn.seed l.place)
