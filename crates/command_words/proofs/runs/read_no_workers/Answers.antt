use Rattle.std.proofs.Common.{◌≡◌, ◌∙◌, codes, rules}
use Rattle.command_words.proofs.Usage.{workers_wanted}
use Rattle.command_words.proofs.runs.read_no_workers.Goals as goal

pub returns-then-ne : goal.returns-then-ne
returns-then-ne c =
    let other : (c.as_str.result.now ≡ codes "--workers" → ⊥) = search rules in
    rw c.in-Some.ensures.cases.0 (workers_wanted c.args.seed _ _ c.ranges.seed.fits (λ e. other (c.as_str.ensures.value ∙ e)))
