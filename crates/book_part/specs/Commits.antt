-- The commit record of an ACT.
use Rattle.std.specs.Prelude.{Option, Some, None, List, [], ◌∷◌}
use Rattle.protocol.specs.Records.{LogRecord, ActDone}
use Rattle.act_commit.specs.Words.{actor_numbers}
use Rattle.book_part.specs.declared.commit.Commit.{Commit}

abbrev pub records_of : Option Commit → List LogRecord
records_of None = []
records_of (Some c) = ActDone c.tid.0 c.before.0 c.number c.value (actor_numbers c.actors) ∷ []
