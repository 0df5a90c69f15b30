use Rattle.std.proofs.Common.{refl, inr, codes, rules}
use Rattle.command_words.proofs.words.read_bench.Goals as goal

pub returns-in_err-count : goal.returns-in_err-count
returns-in_err-count c = search (c.in_err-count.ensures.fault (codes "bench") (inr refl), rules)
