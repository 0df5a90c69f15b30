use Rattle.std.proofs.Common.{rules}
use Rattle.std.proofs.lemmas.Fn.{filter_same}
use Rattle.order_book.specs.Walking.{is_walked_at}
use Rattle.order_book.proofs.walk.keep_walked.Goals as goal

pub returns : goal.returns
returns c = filter_same _ (is_walked_at c.args.pairs.now c.args.register.now) _ (λ x b f' k. search rules) _ _ c.retain.ensures.filtered
