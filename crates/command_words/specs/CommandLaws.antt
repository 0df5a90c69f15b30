-- What holds of every list of words. A law of `src/laws.rt` says it, and a proof that rests on it takes it as a premise.
use Rattle.std.specs.Prelude.{◌≡◌, ℕ, List}
use Rattle.command_words.specs.declared.commands.Command.{Command}
use Rattle.command_words.specs.Commands.{IsCommand}

abbrev pub OneCommand : Type 0
OneCommand = (words : List (List ℕ)) (a b : Command) → IsCommand words a → IsCommand words b → a ≡ b
