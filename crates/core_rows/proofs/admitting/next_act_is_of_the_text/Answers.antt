use Rattle.std.proofs.Common.{sym, subst}
use Rattle.core_rows.proofs.Waiting.{next_act_is_of_text}
use Rattle.core_rows.proofs.admitting.next_act_is_of_the_text.Goals as goal
use Rattle.protocol.specs.Numbers.{TransactionsInOnePlace}
use Rattle.protocol_theorems.specs.Sizes.{SizesHold}

pub returns : goal.returns
returns g c w s t r ok = next_act_is_of_text w s t
    (subst (SizesHold w) (sym r.is_reached) (c.sizes_hold.ensures w r.events r.text r.run))
    (subst (TransactionsInOnePlace w) (sym r.is_reached) (c.transactions_are_in_one_place.ensures w r.events r.text r.run)) ok
