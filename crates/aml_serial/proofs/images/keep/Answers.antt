use Rattle.std.proofs.Common.{◌==◌, List, set, sym, ap, ◌∙◌}
use Rattle.std.specs.List.{list_any}
use Rattle.std.proofs.lemmas.List.{get_or_default}
use Rattle.aml_check.specs.Meaning.{zero_state}
use Rattle.aml_serial.specs.declared.images.BeforeImage.{BeforeImage}
use Rattle.aml_serial.specs.Images.{put_back}
use Rattle.aml_serial.proofs.PuttingBack.{kept_already, kept_last}
use Rattle.aml_serial.proofs.images.keep.Goals as goal

pub returns-then-is_kept-clause-kept : goal.returns-then-is_kept-clause-kept
returns-then-is_kept-clause-kept c t =
    let a = c.args.actor in
    kept_already a t c.args.images.now.items c.args.world.now
    (ap (list_any (λ (image : BeforeImage). image.actor == c.args.actor)) (sym c.deref.ensures.value) ∙ sym c.is_kept.ensures ∙ c.if-is_kept.true)

pub returns-clause-kept : goal.returns-clause-kept
returns-clause-kept c t =
    ap (λ (images : List BeforeImage). put_back images (set c.args.world.now c.args.actor t)) c.in_ok-push.ensures.items
    ∙ kept_last c.args.actor _ t zero_state c.args.images.now.items c.args.world.now
    (ap (list_any (λ (image : BeforeImage). image.actor == c.args.actor)) (sym c.deref.ensures.value) ∙ sym c.is_kept.ensures ∙ c.if-is_kept.false)
    (get_or_default c.args.world.now c.args.actor _ zero_state c.requires.actor)
