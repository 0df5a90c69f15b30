use Rattle.std.proofs.Common.{ℤ, List, ap}
use Rattle.std.proofs.lemmas.Bool.Decides.{Decides-int_eq}
use Rattle.std.proofs.lemmas.Slice.Eq.{slice_eq-Decides}
use Rattle.snap_base.specs.declared.transactions.State.{State}
use Rattle.snap_follow.proofs.comparing.is_same_state.Goals as goal

pub returns : goal.returns
returns c =
    let fields = slice_eq-Decides Decides-int_eq c.args.a.now.0 c.args.b.now.0 c.eq.result c.eq.ensures in
    ((λ t. ap (λ (z : List ℤ). record { 0 = z }) (fields.0 t)), λ e. fields.1 (ap (λ (s : State). s.0) e))
