-- Only private contracts cite this; the rule is Reads.antt.
-- The end of a text as the reader takes it.
use Rattle.std.specs.Prelude.{ℕ, List, [], ◌∷◌, Option, None, Some}
use Rattle.snap_base.specs.declared.transactions.State.{State}
use Rattle.snap_base.specs.declared.transactions.Tx.{Tx}
use Rattle.aml_tree.specs.Tree.{CheckedMethod}
use Rattle.work_text.specs.Lines.{Line, words}
use Rattle.work_text.specs.Readings.{ReadingOf, gives, ◌>>=◌, whether}
use Rattle.work_text.specs.Actors.{Named, actor, states_in}
use Rattle.work_text.specs.Reads.{first_is_actor, tail}

-- the actors that the first lines name, and the lines behind these; the actor named last, if any
abbrev pub named_lines : ℕ → Option ℕ → List Line → ReadingOf (List Named × List Line)
named_lines count last [] = gives ([], [])
named_lines count last (l ∷ ls) =
    whether (first_is_actor (words l.bytes))
    (actor count last l >>= λ n. named_lines count (Some n.actor) ls >>= λ more. gives (n ∷ more.0, more.1))
    (gives ([], l ∷ ls))

-- the states that the first lines give so many actors, and the lines behind these
abbrev pub states : ℕ → List Line → ReadingOf (List State × List Line)
states count ls = named_lines count None ls >>= λ x. gives (states_in x.0 0 count, x.1)

-- all states, and the transactions
abbrev pub ending : List CheckedMethod → ℕ → List Line → ReadingOf (List State × List Tx)
ending p actors ls = tail p actors None ls >>= λ t. gives (states_in t.0 0 actors, t.1)
