use Rattle.std.proofs.Common.{List, ap, ◌∙◌, subst}
use Rattle.std.specs.Prelude.{filter}
use Rattle.protocol.specs.Cutting.{Ascends}
use Rattle.protocol.specs.Parts.{Act}
use Rattle.protocol.specs.Words.{act_of, holds, is_doomed, is_live_act}
use Rattle.order_book.specs.Registered.{tids_of_acts}
use Rattle.order_book.proofs.Living.{given_up_among}
use Rattle.order_book.proofs.register.Register.given_up.Goals as goal

pub leaving-requires : goal.leaving-requires
leaving-requires c = c.self.invariant.counted

pub returns : goal.returns
returns c =
    c.in_ok-tids.ensures
    ∙ given_up_among c.self.inside.acts (subst Ascends c.self.invariant.listed c.self.invariant.rising)
    ∙ ap (λ (xs : List Act). filter (λ t. holds (λ x. is_doomed x.status) (act_of t xs)) (tids_of_acts (filter is_live_act xs))) c.self.view_is
