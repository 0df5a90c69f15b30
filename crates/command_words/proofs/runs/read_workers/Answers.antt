use Rattle.std.proofs.Common.{◌≡◌, ◌<◌, ◌∙◌, sym, length, arith, rules, string_bytes}
use Rattle.std.proofs.lemmas.List.{nil_from_length, length-map}
use Rattle.std.specs.Fmt.{decimal}
use Rattle.command_words.proofs.Usage.{workers_lack, workers_wrong, none_behind}
use Rattle.command_words.proofs.runs.read_workers.Goals as goal

pub returns-in_default : goal.returns-in_default
returns-in_default c = rw (nil_from_length c.args.words.now c.in_default.ensures.cases) workers_lack

pub returns-in_default-workers_of : goal.returns-in_default-workers_of
returns-in_default-workers_of c = rw c.in-Some.ensures.cases.0
    (workers_wrong _ _ (λ n few is. c.in_default-workers_of.not-Some n (c.workers_of.ensures.only n few (c.as_bytes.ensures.value ∙ is))))

pub returns-then-not-is_empty : goal.returns-then-not-is_empty
returns-then-not-is_empty c =
    let found = c.in-Some-workers_of.ensures.found in
    let spelled : string_bytes c.in-Some.word.now ≡ decimal c.in-Some-workers_of.workers = sym c.as_bytes.ensures.value ∙ found.0 in
    let some : 0 < length c.in-Some.rest.now = search rules in
    rw (c.in-Some.ensures.cases.0, spelled) (none_behind c.in-Some-workers_of.workers _ (search rules) found.1 (omega (arith, length-map c.in-Some.rest.now (λ s. string_bytes s), some)))
