use Rattle.std.proofs.Common.{◌≡◌, ◌≤◌, ◌<◌, ◌∙◌, ℕ, Option, Some, IfSome, sym, subst, length, arith, rules, string_bytes}
use Rattle.std.proofs.lemmas.List.{nil_from_length, length-map}
use Rattle.std.specs.Fmt.{decimal}
use Rattle.command_words.proofs.Usage.{last_none_lacks, last_none_wrong, too_many_workers}
use Rattle.command_words.proofs.runs.read_last_zero.Goals as goal

pub returns-in_default : goal.returns-in_default
returns-in_default c = rw (nil_from_length c.args.words.now c.in_default.ensures.cases) (last_none_lacks c.args.seed c.ranges.seed.fits)

pub returns-then-ne : goal.returns-then-ne
returns-then-ne c =
    let other : (c.workers_of.result ≡ Some 0 → ⊥) = search rules in
    rw c.in-Some.ensures.cases.0 (last_none_wrong c.args.seed _ _ c.ranges.seed.fits (λ is. other (c.workers_of.ensures.only 0 (omega arith) (c.as_bytes.ensures.value ∙ is))))

pub returns-then-not-is_empty : goal.returns-then-not-is_empty
returns-then-not-is_empty c =
    let zero : c.workers_of.result ≡ Some 0 = search rules in
    let found = subst (λ (r : Option ℕ). IfSome r (λ n. (c.as_bytes.result.now ≡ decimal n) × (n ≤ 8))) zero c.workers_of.ensures.found in
    let spelled : string_bytes c.in-Some.word.now ≡ decimal 0 = sym c.as_bytes.ensures.value ∙ found.0 in
    let some : 0 < length c.in-Some.rest.now = search rules in
    rw (c.in-Some.ensures.cases.0, spelled) (too_many_workers c.args.seed _ c.ranges.seed.fits (omega (arith, length-map c.in-Some.rest.now (λ s. string_bytes s), some)))
