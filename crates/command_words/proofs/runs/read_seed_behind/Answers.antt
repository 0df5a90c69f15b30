use Rattle.std.proofs.Common.{◌≡◌, ◌∙◌, sym, codes, rules, string_bytes}
use Rattle.command_words.proofs.Usage.{seed_wanted}
use Rattle.command_words.proofs.runs.read_seed_behind.Goals as goal

pub returns-then-ne : goal.returns-then-ne
returns-then-ne c =
    let other : (c.as_str.result.now ≡ codes "--seed" → ⊥) = search rules in
    rw c.in-Some.ensures.cases.0 (seed_wanted _ _ (λ e. other (c.as_str.ensures.value ∙ e)))

pub returns : goal.returns
returns c =
    let is : c.as_str.result.now ≡ codes "--seed" = search rules in
    let spelled : string_bytes c.in-Some.option.now ≡ codes "--seed" = sym c.as_str.ensures.value ∙ is in
    rw (c.in-Some.ensures.cases.0, spelled) c.read_last_seed.ensures
