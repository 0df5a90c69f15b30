use Rattle.std.proofs.Common.{◌≡◌, ◌∙◌, codes, rules}
use Rattle.std.proofs.lemmas.List.{nil_from_length}
use Rattle.command_words.proofs.Usage.{no_words, first_wrong}
use Rattle.command_words.proofs.words.read_words.Goals as goal

pub returns-in_default : goal.returns-in_default
returns-in_default c = rw (nil_from_length c.args.words.now c.in_default.ensures.cases) no_words

pub returns : goal.returns
returns c =
    let run : (c.as_str-word.result.now ≡ codes "run" → ⊥) = search rules in
    let recover : (c.as_str-word.result.now ≡ codes "recover" → ⊥) = search rules in
    let migrate : (c.as_str-word.result.now ≡ codes "migrate" → ⊥) = search rules in
    let compact : (c.as_str-word.result.now ≡ codes "compact" → ⊥) = search rules in
    let follow : (c.as_str-word.result.now ≡ codes "follow" → ⊥) = search rules in
    let audit : (c.as_str-word.result.now ≡ codes "audit" → ⊥) = search rules in
    let gen : (c.as_str-word.result.now ≡ codes "gen" → ⊥) = search rules in
    let bench : (c.as_str-word.result.now ≡ codes "bench" → ⊥) = search rules in
    rw c.in-Some.ensures.cases.0
    (first_wrong _ _ (λ e. run (c.as_str-word.ensures.value ∙ e)) (λ e. recover (c.as_str-word.ensures.value ∙ e)) (λ e. migrate (c.as_str-word.ensures.value ∙ e)) (λ e. compact (c.as_str-word.ensures.value ∙ e))
    (λ e. follow (c.as_str-word.ensures.value ∙ e)) (λ e. audit (c.as_str-word.ensures.value ∙ e)) (λ e. gen (c.as_str-word.ensures.value ∙ e)) (λ e. bench (c.as_str-word.ensures.value ∙ e)))
