use Rattle.std.proofs.Common.{◌≡◌, List, ap, refl, length, arith, ◌∙◌, sym}
use Rattle.std.specs.Vec.{with_items}
use Rattle.std.proofs.lemmas.List.{with_items_is}
use Rattle.std.proofs.lemmas.Option.{slice_get_read}
use Rattle.snap_base.specs.declared.transactions.Who.{Who}
use Rattle.audit_tale.specs.Coming.{is_kept_among, lowered_act}
use Rattle.audit_tale.specs.declared.tales.Owner.{Owner}
use Rattle.audit_tale.specs.declared.told.ActorTale.{ActorTale}
use Rattle.audit_tale.proofs.Touched.{eased_along, touched_along}
use Rattle.audit_tale.proofs.arriving.lower_there.Goals as goal

pub returns : goal.returns
returns c x e =
    let t = c.args.told.now in
    let got = slice_get_read t.actors.items (length t.actors.items) c.args.a.0 c.index.result.now refl (omega arith) c.index.ensures in
    let here : c.index.result.now ≡ x = cc (got, e) in
    let entries : c.as_slice-entries.result.now ≡ x.entries.items = c.as_slice-entries.ensures.value ∙ ap (λ (y : ActorTale). y.entries.items) here in
    let test = ap (λ (es : List Who). is_kept_among c.as_slice-owners.result.now es) entries ∙ ap (λ (os : List Owner). is_kept_among os x.entries.items) c.as_slice-owners.ensures.value in
    let acts : (with_items t.tale.acts c.lower_all.new.acts).items ≡ c.lower_all.new.acts = with_items_is t.tale.acts c.lower_all.new.acts (omega arith) in
    let ties : (with_items t.ties c.ease_all.new.ties).items ≡ c.ease_all.new.ties = with_items_is t.ties c.ease_all.new.ties (omega arith) in
    record {
      acts = touched_along (lowered_act c.args.k c.args.a) _ _ _ _ _ _ test c.as_mut_slice.ensures.value (sym acts) c.lower_all.ensures;
      ties = eased_along _ _ _ _ _ _ _ _ test c.as_slice.ensures.value c.as_mut_slice-2.ensures.value (sym ties) c.ease_all.ensures;
      rest = refl;
    }
