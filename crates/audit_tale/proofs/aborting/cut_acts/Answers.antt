use Rattle.std.proofs.Common.{◌≡◌, ℕ, Bool, List, ap, arith, refl, sym, ◌∙◌}
use Rattle.std.specs.Prelude.{filter, slice_get}
use Rattle.std.specs.Vec.{with_items}
use Rattle.std.proofs.lemmas.List.{with_items_is}
use Rattle.protocol.specs.Words.{holds, is_among}
use Rattle.audit_tale.specs.Cutting.{cut_act}
use Rattle.audit_tale.specs.Touching.{lives}
use Rattle.audit_tale.specs.declared.tales.ActTale.{ActTale}
use Rattle.audit_tale.proofs.Touched.{eased_along, touched_along}
use Rattle.audit_tale.proofs.aborting.cut_acts.Goals as goal

pub returns : goal.returns
returns c =
    let t = c.args.told.now in
    let among : List ℕ → ℕ → Bool = λ ns i. is_among i ns in
    let acts : (with_items t.tale.acts c.cut_each.new.acts).items ≡ c.cut_each.new.acts = with_items_is t.tale.acts c.cut_each.new.acts (omega arith) in
    let ties : (with_items t.ties c.ease_each.new.ties).items ≡ c.ease_each.new.ties = with_items_is t.ties c.ease_each.new.ties (omega arith) in
    record {
      acts = touched_along (cut_act c.args.k) _ _ _ _ _ _ (ap among c.as_slice.ensures.value) c.as_mut_slice.ensures.value (sym acts) c.cut_each.ensures;
      ties = eased_along _ _ _ _ _ _ _ _ (ap among c.as_slice-2.ensures.value) c.as_slice-3.ensures.value c.as_mut_slice-2.ensures.value (sym ties) c.ease_each.ensures;
      going = c.keep_going.ensures ∙ ap (λ (ys : List ActTale). filter (λ i. holds lives (slice_get ys i)) t.going.items) c.as_slice-4.ensures.value;
      rest = refl;
    }
