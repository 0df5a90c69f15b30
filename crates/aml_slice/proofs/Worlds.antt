-- One actor's state in a world.
use Rattle.std.proofs.Common.{◌≡◌, ℕ, ◌<◌, List, length, set, refl, sym, ap, ◌∙◌, arith}
use Rattle.std.proofs.lemmas.List.{get_or-set_same, set-get_or, length-set}
use Rattle.snap_base.specs.declared.transactions.State.{State}
use Rattle.aml_check.specs.Meaning.{state_at, zero_state}
use Rattle.aml_resume.specs.Resuming.{HasReached}
use Rattle.aml_slice.specs.Controls.{Rest, progress_in}
use Rattle.aml_slice.specs.Wholes.{Holds}

pub same_state : (w : List State) (own : ℕ) (s : State) → state_at w own ≡ s → set w own s ≡ w
same_state w own s e = ap (set w own) (sym e) ∙ set-get_or w own zero_state

pub holds_at : (count own : ℕ) (s : State) (c : Rest) (w : List State) → own < count → Holds count own s w → HasReached own s c.statements (progress_in c w)
holds_at count own s c w known h = record { known = omega (arith, known, h.size); state = h.state; statements = refl }

pub holds_set : (count own : ℕ) (s t : State) (w : List State) → own < count → Holds count own s w → Holds count own t (set w own t)
holds_set count own s t w known h = record {
  size = length-set w own t ∙ h.size;
  state = get_or-set_same w own t zero_state (let inside : own < length w = omega (arith, known, h.size) in inside);
}
