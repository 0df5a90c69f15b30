use Rattle.std.proofs.Common.{◌≡◌, ◌∙◌, codes, rules}
use Rattle.command_words.proofs.UsageOfCounts.{bench_option_wrong}
use Rattle.command_words.proofs.words.read_bench_workers.Goals as goal

pub returns-then-ne : goal.returns-then-ne
returns-then-ne c =
    let other : (c.as_str.result.now ≡ codes "--workers" → ⊥) = search rules in
    rw c.in-Some.ensures.cases.0 (bench_option_wrong c.args.count c.args.seed _ _ c.requires c.ranges.seed.fits (λ e. other (c.as_str.ensures.value ∙ e)))
