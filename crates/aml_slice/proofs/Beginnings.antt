-- An allowance from which nothing is taken is that of a transaction's beginning.
use Rattle.std.proofs.Common.{◌≡◌, ℕ, Option, List, [], ap, ◌∙◌, option_map}
use Rattle.snap_base.specs.declared.ids.ActorId.{ActorId}
use Rattle.snap_base.specs.declared.transactions.State.{State}
use Rattle.snap_base.specs.declared.transactions.Tx.{Tx}
use Rattle.aml_check.specs.Meaning.{Progress, beginning, declaration}
use Rattle.aml_slice.specs.declared.allowances.Allowance.{Allowance}
use Rattle.aml_slice.specs.Views.{progress_with}

pub nothing_taken : (a : Allowance) (tx : Tx) (w : List State) → a.calls ≡ 0 → a.actors.items ≡ [] → option_map (λ us. us.items) a.left ≡ declaration tx.kind tx.uses → progress_with a 0 w ≡ beginning w tx
nothing_taken a tx w no_calls no_actors left =
    ap (λ (n : ℕ). let q : Progress = record { world = w; statements = 0; calls = n; actors = a.actors.items; left = option_map (λ us. us.items) a.left } in q) no_calls
    ∙ ap (λ (bs : List ℕ). let q : Progress = record { world = w; statements = 0; calls = 0; actors = bs; left = option_map (λ us. us.items) a.left } in q) no_actors
    ∙ ap (λ (o : Option (List (ActorId × ℕ))). let q : Progress = record { world = w; statements = 0; calls = 0; actors = []; left = o } in q) left
