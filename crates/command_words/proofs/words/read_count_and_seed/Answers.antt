use Rattle.std.proofs.Common.{◌≡◌, ◌∙◌, sym, string_bytes}
use Rattle.std.proofs.lemmas.List.{nil_from_length}
use Rattle.std.specs.Fmt.{decimal}
use Rattle.command_words.proofs.UsageOfCounts.{count_lacks, count_wrong, last_lacks, last_wrong}
use Rattle.command_words.proofs.words.read_count_and_seed.Goals as goal

pub returns-in_default-clause-fault : goal.returns-in_default-clause-fault
returns-in_default-clause-fault c = λ name takes. rw (nil_from_length c.args.words.now c.in_default.ensures.cases) (count_lacks name takes)

pub returns-in_default-count_of-clause-fault : goal.returns-in_default-count_of-clause-fault
returns-in_default-count_of-clause-fault c = λ name takes.
    rw c.in-Some.ensures.cases.0
    (count_wrong name _ _ takes (λ n few is. c.in_default-count_of.not-Some n (c.count_of.ensures.only n few (c.as_bytes.ensures.value ∙ is))))

pub returns-in_default-split_first-clause-fault : goal.returns-in_default-split_first-clause-fault
returns-in_default-split_first-clause-fault c = λ name takes.
    let found = c.in-Some-count_of.ensures.found in
    let spelled : string_bytes c.in-Some.word.now ≡ decimal c.in-Some-count_of.count = sym c.as_bytes.ensures.value ∙ found.0 in
    rw (c.in-Some.ensures.cases.0, spelled, nil_from_length c.in-Some.rest.now c.in_default-split_first.ensures.cases) (last_lacks name c.in-Some-count_of.count takes found.1)

pub returns-in_default-natural-clause-fault : goal.returns-in_default-natural-clause-fault
returns-in_default-natural-clause-fault c = λ name takes.
    let found = c.in-Some-count_of.ensures.found in
    let spelled : string_bytes c.in-Some.word.now ≡ decimal c.in-Some-count_of.count = sym c.as_bytes.ensures.value ∙ found.0 in
    rw (c.in-Some.ensures.cases.0, spelled, c.in-Some-split_first.ensures.cases.0)
    (last_wrong name c.in-Some-count_of.count _ _ takes found.1 (λ n fits is. c.in_default-natural.not-Some n (c.natural.ensures.only n fits (c.as_bytes-2.ensures.value ∙ is))))
