use Rattle.std.proofs.Common.{◌<◌, refl, inl, length, codes, arith, rules, string_bytes}
use Rattle.std.proofs.lemmas.List.{length-map}
use Rattle.command_words.proofs.UsageOfCounts.{gen_too_many}
use Rattle.command_words.proofs.words.read_gen.Goals as goal

pub returns-in_err-count : goal.returns-in_err-count
returns-in_err-count c = search (c.in_err-count.ensures.fault (codes "gen") (inl refl), rules)

pub returns-then-not-is_empty : goal.returns-then-not-is_empty
returns-then-not-is_empty c =
    let found = c.in_ok-count.ensures.found in
    let some : 0 < length c.in_ok-count.rest.now = search rules in
    rw found.0 (gen_too_many c.in_ok-count.count c.in_ok-count.seed _ found.1 found.2 (omega (arith, length-map c.in_ok-count.rest.now (λ s. string_bytes s), some)))
