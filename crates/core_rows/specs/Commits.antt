-- The commit record of an ACT, where it has one.
use Rattle.std.specs.Prelude.{Option, Some, None, ⊤}
use Rattle.book_part.specs.declared.commit.Commit.{Commit}
use Rattle.txn_records.specs.Records.{IsAct}

-- what the record says, if there is one, can be spelled
abbrev pub HasSpelling : Option Commit → Type 0
HasSpelling None = ⊤
HasSpelling (Some c) = IsAct c.tid c.before c.number c.actors
