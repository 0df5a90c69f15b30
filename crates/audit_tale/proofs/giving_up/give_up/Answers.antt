use Rattle.std.proofs.Common.{Some, ap, refl}
use Rattle.std.specs.Prelude.{slice_set}
use Rattle.audit_tale.specs.declared.tales.ActTale.{ActTale}
use Rattle.audit_tale.proofs.Dooms.{given_up_known}
use Rattle.audit_tale.proofs.giving_up.give_up.Goals as goal

pub returns : goal.returns
returns c w s u may h owned still =
    given_up_known w c.args.at u c.args.why c.index_mut.result.now c.args.told.now _ s may h owned c.requires still
    (record {
      ring = refl;
      batches = refl;
      acts = ap (λ (x : ActTale). slice_set c.args.told.now.tale.acts.items c.args.at (record x { given_up = Some c.args.why })) c.index_mut.ensures.value;
      owners = refl;
      members = refl;
      settled = refl;
      next_c = refl;
      actors = refl;
      ways = refl;
      ties = c.forget_waiters.ensures;
      uncut = refl;
      going = refl;
    })
