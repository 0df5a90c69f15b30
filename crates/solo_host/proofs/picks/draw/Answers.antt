use Rattle.solo_host.proofs.Words.{word_drawn, words_go_on}
use Rattle.solo_host.proofs.picks.draw.Goals as goal

pub returns-clause-word : goal.returns-clause-word
returns-clause-word c = word_drawn c.next_word.result c.args.generator.now c.next_word.new.self c.next_word.ensures

pub returns-clause-drawn : goal.returns-clause-drawn
returns-clause-drawn c = words_go_on c.next_word.result c.args.generator.now c.next_word.new.self c.next_word.ensures
