use Rattle.std.proofs.Common.{◌≡◌, ◌++◌, string_bytes, ap, ◌∙◌}
use Rattle.work_text.specs.Lines.{text_of}
use Rattle.work_gen.specs.Generated.{head_lines, actor_lines, transaction_lines}
use Rattle.work_gen.proofs.Growing.{parts}
use Rattle.work_gen.proofs.texts.generate.Goals as goal

pub returns : goal.returns
returns c =
    let head : string_bytes c.push_str.new.self ≡ text_of head_lines = c.in_ok-push_str.ensures.bytes ∙ ap (λ t. t ++ c.head.result.now) c.in_ok-text.ensures.bytes ∙ c.head.ensures in
    ap (λ v. v.items) c.into_bytes.ensures.value
    ∙ c.in_ok-push_transactions.ensures
    ∙ ap (λ t. t ++ text_of (transaction_lines c.args.seed c.args.n)) (c.in_ok-push_actors.ensures ∙ ap (λ t. t ++ text_of (actor_lines 256)) head)
    ∙ parts c.args.n c.args.seed
