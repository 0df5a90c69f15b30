use Rattle.std.proofs.Common.{◌≡◌, ℕ, List, ap, ◌∙◌, subst}
use Rattle.std.specs.Prelude.{None, Option, slice_index_or}
use Rattle.std.specs.Option.{option_map}
use Rattle.protocol.specs.Cutting.{Ascends}
use Rattle.protocol.specs.Meant.{tid_number}
use Rattle.order_book.specs.Registered.{tid_with}
use Rattle.order_book.proofs.Finding.{first_is, found_with}
use Rattle.order_book.proofs.register.Register.act_with.Goals as goal

pub returns : goal.returns
returns c =
    let told : option_map tid_number c.tid_at.result ≡ tid_with c.args.tx.0 c.self.inside.acts =
    c.tid_at.ensures ∙ (ap (λ (os : List (Option ℕ)). slice_index_or os c.args.tx.0 None) c.as_slice.ensures.value ∙ c.self.invariant.found c.args.tx.0) in
    rw (← c.self.view_is) (record {
      first = told ∙ first_is c.args.tx.0 c.self.inside.acts;
      found = found_with c.args.tx.0 c.self.inside.acts c.tid_at.result (subst Ascends c.self.invariant.listed c.self.invariant.rising) told;
    })
