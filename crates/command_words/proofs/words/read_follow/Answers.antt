use Rattle.std.proofs.Common.{◌≡◌, ◌<◌, ◌∙◌, sym, length, arith, rules, string_bytes}
use Rattle.std.proofs.lemmas.List.{nil_from_length, length-map}
use Rattle.std.specs.Fmt.{decimal}
use Rattle.command_words.proofs.UsageOfRounds.{rounds_lack, rounds_wrong, too_many_rounds}
use Rattle.command_words.proofs.words.read_follow.Goals as goal

pub returns-in_default : goal.returns-in_default
returns-in_default c = rw (nil_from_length c.args.words.now c.in_default.ensures.cases) rounds_lack

pub returns-in_default-rounds_of : goal.returns-in_default-rounds_of
returns-in_default-rounds_of c = rw c.in-Some.ensures.cases.0
    (rounds_wrong _ _ (λ n some few is. c.in_default-rounds_of.not-Some n (c.rounds_of.ensures.only n some few (c.as_bytes.ensures.value ∙ is))))

pub returns-then-not-is_empty : goal.returns-then-not-is_empty
returns-then-not-is_empty c =
    let found = c.in-Some-rounds_of.ensures.found in
    let spelled : string_bytes c.in-Some.word.now ≡ decimal c.in-Some-rounds_of.rounds = sym c.as_bytes.ensures.value ∙ found.0 in
    let some : 0 < length c.in-Some.rest.now = search rules in
    rw (c.in-Some.ensures.cases.0, spelled) (too_many_rounds c.in-Some-rounds_of.rounds _ found.1 found.2 (omega (arith, length-map c.in-Some.rest.now (λ s. string_bytes s), some)))
