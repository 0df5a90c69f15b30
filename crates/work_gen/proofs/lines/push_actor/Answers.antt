use Rattle.std.proofs.Common.{◌++◌, codes, string_bytes, ap, ◌∙◌, append_assoc}
use Rattle.std.specs.Fmt.{decimal}
use Rattle.work_gen.proofs.lines.push_actor.Goals as goal

pub returns : goal.returns
returns c =
    let old = string_bytes c.args.text.now in
    let number = decimal c.args.actor in
    c.in_ok-push_str-2.ensures.bytes
    ∙ ap (λ t. t ++ codes " 1000 1000\n") (c.in_ok-push_number.ensures ∙ ap (λ t. t ++ number) c.in_ok-push_str.ensures.bytes)
    ∙ append_assoc (old ++ codes "actor ") number (codes " 1000 1000\n")
    ∙ append_assoc old (codes "actor ") (number ++ codes " 1000 1000\n")
