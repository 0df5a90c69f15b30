use Rattle.std.proofs.Common.{◌≡◌, ◌∙◌, sym, codes, rules, string_bytes}
use Rattle.command_words.proofs.Usage.{option_wrong}
use Rattle.command_words.proofs.runs.read_run.Goals as goal

pub returns-then-eq : goal.returns-then-eq
returns-then-eq c =
    let is : c.as_str-name.result.now ≡ codes "--workers" = search rules in
    let spelled : string_bytes c.in-Some.option.now ≡ codes "--workers" = sym c.as_str-name.ensures.value ∙ is in
    rw (c.in-Some.ensures.cases.0, spelled) c.read_workers.ensures

pub returns : goal.returns
returns c =
    let first : (c.as_str-name.result.now ≡ codes "--workers" → ⊥) = search rules in
    let second : (c.as_str-name.result.now ≡ codes "--seed" → ⊥) = search rules in
    rw c.in-Some.ensures.cases.0 (option_wrong _ _ (λ e. first (c.as_str-name.ensures.value ∙ e)) (λ e. second (c.as_str-name.ensures.value ∙ e)))
