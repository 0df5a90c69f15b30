use Rattle.std.proofs.Common.{◌≡◌, ◌<◌, ◌∙◌, sym, length, arith, rules, string_bytes}
use Rattle.std.proofs.lemmas.List.{nil_from_length, length-map}
use Rattle.std.specs.Fmt.{decimal}
use Rattle.command_words.proofs.Usage.{last_seed_lacks, last_seed_wrong, too_many_seeds}
use Rattle.command_words.proofs.runs.read_last_seed.Goals as goal

pub returns-in_default : goal.returns-in_default
returns-in_default c = rw (nil_from_length c.args.words.now c.in_default.ensures.cases) last_seed_lacks

pub returns-in_default-natural : goal.returns-in_default-natural
returns-in_default-natural c = rw c.in-Some.ensures.cases.0
    (last_seed_wrong _ _ (λ n fits is. c.in_default-natural.not-Some n (c.natural.ensures.only n fits (c.as_bytes.ensures.value ∙ is))))

pub returns-then-not-is_empty : goal.returns-then-not-is_empty
returns-then-not-is_empty c =
    let spelled : string_bytes c.in-Some.word.now ≡ decimal c.in-Some-natural.seed = sym c.as_bytes.ensures.value ∙ c.in-Some-natural.ensures.found in
    let some : 0 < length c.in-Some.rest.now = search rules in
    rw (c.in-Some.ensures.cases.0, spelled) (too_many_seeds c.in-Some-natural.seed _ (search rules) (omega (arith, length-map c.in-Some.rest.now (λ s. string_bytes s), some)))
