use Rattle.std.proofs.Common.{◌≡◌, length, take, drop, ap, sym, refl, ◌∙◌, ◌++◌}
use Rattle.std.proofs.Math.Seq.{take-append_seam}
use Rattle.std.proofs.lemmas.List.{take-append-drop}
use Rattle.std.specs.Fmt.{decimal}
use Rattle.work_text.proofs.Lists.{same_bytes}
use Rattle.work_text.proofs.settings.number_behind.Goals as goal

pub returns-in_err-strip_prefix-clause-only : goal.returns-in_err-strip_prefix-clause-only
returns-in_err-strip_prefix-clause-only c n fits e =
    let front : take (length c.args.word.now) c.args.line.now ≡ c.args.word.now = ap (take (length c.args.word.now)) e ∙ take-append_seam c.args.word.now (decimal n) in
    cc ((same_bytes (sym c.in_err-strip_prefix.ensures.cases)).1 front)

pub returns-clause-found : goal.returns-clause-found
returns-clause-found c =
    let w = c.in_ok-strip_prefix.ensures.cases in
    let front : take (length c.args.word.now) c.args.line.now ≡ c.args.word.now = (same_bytes (sym w.0)).0 refl in
    let rest : drop (length c.args.word.now) c.args.line.now ≡ decimal c.in_ok-number.number = sym w.1 ∙ c.in_ok-number.ensures.found in
    sym (take-append-drop (length c.args.word.now) c.args.line.now) ∙ ap (λ xs. xs ++ drop (length c.args.word.now) c.args.line.now) front ∙ ap (λ xs. c.args.word.now ++ xs) rest
