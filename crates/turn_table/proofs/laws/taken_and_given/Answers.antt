use Rattle.std.proofs.Common.{◌≡◌, ◌≢◌, ℕ, List, Option, None, ap, ◌∙◌}
use mathlib.Core.Logic.{dite}
use native.Mathlib.Decide.{ℕ_discrete}
use Rattle.turn_table.specs.Places.{at, put_at, IsIdle}
use Rattle.turn_table.proofs.ByPlace.{put_here, put_else}
use Rattle.turn_table.proofs.laws.taken_and_given.Goals as goal

given_back : {P : Type 0} (held : List (Option P)) (i : ℕ) → ((j : ℕ) → j ≢ i → at held j ≡ None) → IsIdle (put_at held i None)
given_back held i rest j =
    dite (ℕ_discrete j i) (λ e. ap (λ (k : ℕ). at (put_at held i None) k) e ∙ put_here held i None) (λ ne. put_else held i j None ne ∙ rest j ne)

pub returns-clause-alone : goal.returns-clause-alone
returns-clause-alone g c = given_back

pub returns-clause-at_once : goal.returns-clause-at_once
returns-clause-at_once g c = λ held i x idle. given_back (put_at held i x) i (λ j ne. put_else held i j x ne ∙ idle j)

pub returns-clause-after_an_event : goal.returns-clause-after_an_event
returns-clause-after_an_event g c =
    λ held i x y idle. given_back (put_at (put_at held i x) i y) i (λ j ne. put_else (put_at held i x) i j y ne ∙ put_else held i j x ne ∙ idle j)
