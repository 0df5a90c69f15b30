-- Which command the words are.
use Rattle.std.specs.Prelude.{ℕ, List}
use Rattle.command_words.specs.declared.commands.Command.{Command}
use Rattle.command_words.specs.declared.commands.Command.TheVariants.{Run, Recover, Migrate, Compact, Follow, Audit, Gen, Bench}
use Rattle.command_words.specs.Words.{IsRunCommand, IsRecover, IsMigrate, IsCompact, IsFollow, IsAudit, IsGen, IsBench}

abbrev pub IsCommand : List (List ℕ) → Command → Type 0
IsCommand words (Run n s) = IsRunCommand words n s
IsCommand words Recover = IsRecover words
IsCommand words Migrate = IsMigrate words
IsCommand words Compact = IsCompact words
IsCommand words (Follow n) = IsFollow words n
IsCommand words Audit = IsAudit words
IsCommand words (Gen count s) = IsGen words count s
IsCommand words (Bench count s n) = IsBench words count s n
