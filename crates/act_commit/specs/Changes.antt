-- What is noted of an ACT that ended.
use Rattle.std.specs.Prelude.{IsTrue, Option, ⊤}
use Rattle.protocol.specs.Parts.{Joined, Act}
use Rattle.protocol.specs.Words.{holds}
use Rattle.protocol.specs.OnBook.{marked, is_prepared, is_vouched, decided_as, sealed}
use Rattle.act_commit.specs.Words.{is_ready}
use Rattle.act_commit.specs.declared.seats.Mark.{Mark}
use Rattle.act_commit.specs.declared.seats.Mark.TheVariants.{Prepared, Vouched}
use Rattle.act_commit.specs.declared.vote.Change.{Change}
use Rattle.act_commit.specs.declared.vote.Change.TheVariants.{Marked, Decided, Sealed}

abbrev pub marking_of : Mark → Joined → Joined
marking_of Prepared = is_prepared
marking_of Vouched = is_vouched

abbrev pub change_of : Change → Act → Act
change_of (Marked mark actor) = marked actor.0 (marking_of mark)
change_of (Decided number) = decided_as number
change_of Sealed = sealed

-- an ACT is decided only where it failed or is vouched on all its actors
abbrev pub MayChange : Change → Option Act → Type 0
MayChange (Marked mark actor) x = ⊤
MayChange (Decided number) x = IsTrue (holds is_ready x)
MayChange Sealed x = ⊤
