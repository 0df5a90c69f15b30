use Rattle.solo_host.proofs.KeptList.{first_picked, first_quiet, read_there, word_picked, word_quiet}
use Rattle.solo_host.proofs.picks.by_seed.Goals as goal

pub returns-then-seed-eq0-clause-some : goal.returns-then-seed-eq0-clause-some
returns-then-seed-eq0-clause-some c = first_picked c.args.seed c.args.word c.front.result c.args.list.now.events c.if-seed-eq0.true c.front.ensures.some

pub returns-then-seed-eq0-clause-none : goal.returns-then-seed-eq0-clause-none
returns-then-seed-eq0-clause-none c none = first_quiet c.args.seed c.args.list.now.events (c.front.ensures.none none)

pub returns-then-seed-eq0-clause-there : goal.returns-then-seed-eq0-clause-there
returns-then-seed-eq0-clause-there c = read_there c.front.result c.args.list.now.events 0 c.front.ensures.front

pub returns-else-seed-eq0-clause-some : goal.returns-else-seed-eq0-clause-some
returns-else-seed-eq0-clause-some c = word_picked c.args.seed c.args.word c.by_word.result c.args.list.now.events c.if-seed-eq0.false c.by_word.ensures.some

pub returns-else-seed-eq0-clause-none : goal.returns-else-seed-eq0-clause-none
returns-else-seed-eq0-clause-none c none = word_quiet c.args.seed c.args.list.now.events c.if-seed-eq0.false (c.by_word.ensures.none none)
