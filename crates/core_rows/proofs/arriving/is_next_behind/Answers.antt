use Rattle.std.proofs.Common.{◌==◌}
use Rattle.core_rows.proofs.Found.{test_of_told, nothing_told}
use Rattle.core_rows.proofs.arriving.is_next_behind.Goals as goal

pub returns-in-Some : goal.returns-in-Some
returns-in-Some g c = test_of_told (λ n. n == c.args.tail.0) (λ m. m.prev) _ _ c.in-Some.ensures.prev

pub returns-in-None : goal.returns-in-None
returns-in-None g c = nothing_told (λ n. n == c.args.tail.0) (λ m. m.prev) _ c.in-None.ensures.prev
