use Rattle.std.proofs.Common.{◌≡◌, ◌+◌, List, ap, refl, sym, subst, ◌∙◌}
use Rattle.std.specs.Prelude.{slice_get, slice_set}
use Rattle.snap_base.proofs.Lists.{read_same}
use Rattle.audit_tale.specs.Risen.{left_in, lifted_along, lower}
use Rattle.audit_tale.specs.declared.tales.ActTale.{ActTale}
use Rattle.audit_tale.proofs.Lifts.{lower_set, raised_known}
use Rattle.audit_tale.proofs.rising.raise.Goals as goal

pub returns : goal.returns
returns c =
    record {
      fewer = λ d h. subst (λ (xs : List ActTale). lower c.args.number.0 xs + 1 ≡ lower c.args.number.0 c.args.told.now.tale.acts.items)
          (sym (ap (λ (x : ActTale). slice_set c.args.told.now.tale.acts.items c.args.at (record x { before = c.args.number })) (c.index_mut.ensures.value ∙ read_same c.args.told.now.tale.acts.items c.args.at c.index_mut.result.now d c.requires)))
          (lower_set c.args.number.0 c.args.at d c.args.told.now.tale.acts.items c.requires h);
      knows = λ w s u may k owned le. raised_known w c.args.at c.args.number.0 u c.index.result.now c.args.told.now _ s may k owned c.requires le
          (record {
            ring = refl;
            batches = refl;
            acts = ap (λ (x : ActTale). slice_set c.args.told.now.tale.acts.items c.args.at (record x { before = c.args.number })) (c.index_mut.ensures.value ∙ read_same c.args.told.now.tale.acts.items c.args.at c.index_mut.result.now c.index.result.now c.requires);
            owners = refl;
            members = refl;
            settled = refl;
            next_c = refl;
            actors = c.lift_left.ensures ∙ ap (λ (x : ActTale). lifted_along (left_in (slice_get c.args.told.now.ties.items c.args.at)) c.args.number.0 x.reader c.args.told.now.actors.items) c.index.ensures;
            ways = refl;
            ties = refl;
            uncut = refl;
            going = refl;
          });
    }
