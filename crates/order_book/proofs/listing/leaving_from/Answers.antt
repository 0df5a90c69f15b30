use Rattle.std.proofs.Common.{ap, map, sym, take, ◌∙◌}
use Rattle.protocol.specs.Meant.{tid_number}
use Rattle.order_book.specs.Kept.{tid_kept}
use Rattle.order_book.proofs.Living.{none_leaving}
use Rattle.order_book.proofs.listing.leaving_from.Goals as goal

pub loop-at-init : goal.loop-at-init
loop-at-init c = record {
  within = c.requires.within;
  listed = ap (map tid_number) c.new-tids.ensures.items ∙ sym (ap (map tid_kept) (none_leaving (take c.args.first c.args.rows.now) c.requires.none));
}
