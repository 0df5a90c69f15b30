use Rattle.std.proofs.Common.{◌∙◌}
use Rattle.std.proofs.lemmas.List.{nil_from_length}
use Rattle.command_words.proofs.Usage.{seed_lacks, seed_wrong}
use Rattle.command_words.proofs.runs.read_seed.Goals as goal

pub returns-in_default : goal.returns-in_default
returns-in_default c = rw (nil_from_length c.args.words.now c.in_default.ensures.cases) seed_lacks

pub returns-in_default-natural : goal.returns-in_default-natural
returns-in_default-natural c = rw c.in-Some.ensures.cases.0
    (seed_wrong _ _ (λ n fits is. c.in_default-natural.not-Some n (c.natural.ensures.only n fits (c.as_bytes.ensures.value ∙ is))))
