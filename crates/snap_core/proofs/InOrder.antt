-- The verdicts of one transaction more.
use Rattle.std.proofs.Common.{◌≡◌, ℕ, zero, suc, ◌+◌, Option, List, [], ◌∷◌, ◌++◌, map, sym, ap, subst, ◌∙◌, arith}
use Rattle.std.proofs.lemmas.List.{map_push}
use Rattle.snap_base.specs.declared.verdicts.Verdict.{Verdict}
use Rattle.aml_slice.specs.Controls.{Rest}
use Rattle.protocol.specs.Events.{Event}
use Rattle.protocol.specs.Numbers.{from}
use Rattle.protocol.specs.Parts.{Machine}
use Rattle.protocol.specs.Verdicts.{verdict}
use Rattle.snap_core.specs.AllVerdicts.{verdicts_in}
use Rattle.snap_core.specs.Cores.{CoreState, IsAt, state_at}

from_more : (n k : ℕ) → from n (suc k) ≡ from n k ++ (n + k) ∷ []
from_more n zero = ap (λ i. i ∷ []) (let e : n ≡ n + 0 = omega arith in e)
from_more n (suc k) = ap (λ is. n ∷ is) (from_more (n + 1) k ∙ ap (λ i. from (n + 1) k ++ i ∷ []) (let e : (n + 1) + k ≡ n + suc k = omega arith in e))

more_in : (s : Machine Rest) (k : ℕ) → verdicts_in s (k + 1) ≡ verdicts_in s k ++ verdict k s.book s.desk ∷ []
more_in s k =
    ap (λ n. verdicts_in s n) (let e : k + 1 ≡ suc k = omega arith in e)
    ∙ (ap (map (λ n. verdict n s.book s.desk)) (from_more 0 k ∙ ap (λ i. from 0 k ++ i ∷ []) (let e : 0 + k ≡ k = omega arith in e))
    ∙ map_push (λ n. verdict n s.book s.desk) (from 0 k) k)

abbrev pub AreFirst : CoreState → List (Option Verdict) → ℕ → Type 0
AreFirst core all k = (es : List Event) → IsAt core es → all ≡ verdicts_in (state_at core es) k

pub one_more_verdict : (core : CoreState) (k : ℕ) (all new : List (Option Verdict)) (v : Option Verdict)
    → AreFirst core all k → new ≡ all ++ v ∷ [] → ((es : List Event) → IsAt core es → v ≡ verdict k (state_at core es).book (state_at core es).desk)
    → AreFirst core new (k + 1)
one_more_verdict core k all new v first pushed is es at =
    pushed
    ∙ (ap (λ x. all ++ x ∷ []) (is es at)
    ∙ (ap (λ xs. xs ++ verdict k (state_at core es).book (state_at core es).desk ∷ []) (first es at)
    ∙ sym (more_in (state_at core es) k)))

pub all_verdicts : (core : CoreState) (all : List (Option Verdict)) (k n : ℕ) → AreFirst core all k → k ≡ n → AreFirst core all n
all_verdicts core all k n first e = subst (AreFirst core all) e first
