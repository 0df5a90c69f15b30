use Rattle.std.proofs.Common.{List, ap, ◌∙◌, rules}
use Rattle.std.specs.List.{filter}
use Rattle.std.proofs.lemmas.Fn.{filter_same}
use Rattle.snap_recover.specs.declared.openings.Kept.{Kept}
use Rattle.snap_follow.specs.Passes.{is_member}
use Rattle.snap_follow.proofs.choosing.members_of.Goals as goal

pub returns : goal.returns
returns c =
    c.from_vec.ensures
    ∙ filter_same _ (is_member c.args.set.now) _ (λ x b f' k. search rules) _ _ c.retain.ensures.filtered
    ∙ ap (λ (z : List Kept). filter (is_member c.args.set.now) z) c.into_vec-members.ensures
