-- How many workers words ask for.
use Rattle.std.specs.Prelude.{◌≡◌, ◌⊎◌, ℕ, List}
use Rattle.command_words.specs.declared.commands.Command.{Command}
use Rattle.command_words.specs.declared.commands.Command.TheVariants.{Run, Recover, Migrate, Compact, Follow, Audit, Gen, Bench}
use Rattle.command_words.specs.Commands.{IsCommand}
use Rattle.command_words.specs.Words.{IsForm}

abbrev pub workers_in : Command → ℕ
workers_in (Run n s) = n
workers_in Recover = 0
workers_in Migrate = 0
workers_in Compact = 0
workers_in (Follow n) = 0
workers_in Audit = 0
workers_in (Gen count s) = 0
workers_in (Bench count s n) = n

-- the words are a form, which says so many; or they are none, and ask for no workers
abbrev pub AskFor : List (List ℕ) → ℕ → Type 0
AskFor words n = ((c : Command) × IsCommand words c × (n ≡ workers_in c)) ⊎ ((¬ IsForm words) × (n ≡ 0))
