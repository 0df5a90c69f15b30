-- A run whose actor has moved on, and an expression that is counted in it.
use Rattle.std.proofs.Common.{◌≡◌, ℕ, ◌+◌, ℤ, nat_lt, Bool, true, false, if◌then◌else◌, Result, Ok, Err, List, refl, sym, ap, ◌∙◌, arith}
use Rattle.std.proofs.lemmas.List.{length-set, get_or-set_same, set-set, set-get_or}
use Rattle.std.proofs.Math.ListN.{set}
use Rattle.snap_base.specs.declared.transactions.State.{State}
use Rattle.aml_tree.specs.Tree.{Expr}
use Rattle.aml_check.specs.Meaning.{◌>>=◌, Progress, too_many_statements, statement_begun, state_at, zero_state, value_of}
use Rattle.aml_resume.specs.Resuming.{HasReached, moved}
use Rattle.aml_resume.specs.Pausing.{counted_value}

pub at_moved : (own : ℕ) (s t : State) (n k : ℕ) (r : Progress) → HasReached own s n r → HasReached own t k (moved own t k r)
at_moved own s t n k r h = record {
  known = omega (arith, length-set r.world own t, h.known);
  state = get_or-set_same r.world own t zero_state h.known;
  statements = refl;
}

pub moved_twice : (own : ℕ) (t u : State) (k j : ℕ) (r : Progress) → moved own u j (moved own t k r) ≡ moved own u j r
moved_twice own t u k j r = ap (λ (w : List State). record r { world = w; statements = j }) (set-set r.world own t u)

same_world : (own : ℕ) (s : State) (n : ℕ) (r : Progress) → HasReached own s n r → set r.world own s ≡ r.world
same_world own s n r h = ap (λ (x : State). set r.world own x) (sym h.state) ∙ set-get_or r.world own zero_state

-- with the state and the count that it has, it is as it was
pub moved_same : (own : ℕ) (s : State) (n : ℕ) (r : Progress) → HasReached own s n r → moved own s n r ≡ r
moved_same own s n r h = ap (λ (w : List State). record r { world = w; statements = n }) (same_world own s n r h) ∙ ap (λ (m : ℕ). record r { statements = m }) (sym h.statements)

-- ---- a counted expression

abbrev pub with_run : Progress → Result ℤ ℕ → Result (ℤ × Progress) ℕ
with_run p o = o >>= λ v. Ok (v, p)

abbrev pub counted_result : Result Progress ℕ → (Progress → Result ℤ ℕ) → Result (ℤ × Progress) ℕ
counted_result m V = m >>= λ p. with_run p (V p)

-- a statement that counts before an expression is computed
abbrev pub counted : ℕ → List ℤ → Expr ℕ → Progress → Result (ℤ × Progress) ℕ
counted own vs e r = counted_result (statement_begun r) (λ q. value_of own vs (state_at q.world own) e)

started : (own : ℕ) (s : State) (n : ℕ) (r : Progress) → HasReached own s n r → (let one_more : Progress = record r { statements = r.statements + 1 } in one_more) ≡ moved own s (n + 1) r
started own s n r h = ap (λ (m : ℕ). record r { statements = m + 1 }) h.statements ∙ ap (λ (w : List State). record r { world = w; statements = n + 1 }) (sym (same_world own s n r h))

abbrev pub counted_so : ℕ → State → Progress → Result (ℤ × ℕ) ℕ → Result (ℤ × Progress) ℕ
counted_so own s r o = o >>= λ x. Ok (x.0, moved own s x.1 r)

with_value : (own : ℕ) (s : State) (k : ℕ) (r q : Progress) (o : Result ℤ ℕ) → q ≡ moved own s k r → (o >>= λ v. Ok (v, q)) ≡ counted_so own s r (o >>= λ v. Ok (v, k))
with_value own s k r q (Ok v) e = ap (λ (z : Progress). let x : Result (ℤ × Progress) ℕ = Ok (v, z) in x) e
with_value own s k r q (Err code) e = refl

by_test : (b : Bool) (own : ℕ) (vs : List ℤ) (s : State) (n : ℕ) (e : Expr ℕ) (r : Progress) → HasReached own s n r
    → ((if b then Ok (record r { statements = r.statements + 1 }) else Err too_many_statements) >>= λ q. value_of own vs (state_at q.world own) e >>= λ v. Ok (v, q))
    ≡ counted_so own s r ((if b then Ok (n + 1) else Err too_many_statements) >>= λ k. value_of own vs s e >>= λ v. Ok (v, k))
by_test true own vs s n e r h =
    ap (λ (x : State). value_of own vs x e >>= λ v. Ok (v, let one_more : Progress = record r { statements = r.statements + 1 } in one_more)) h.state
    ∙ with_value own s (n + 1) r (record r { statements = r.statements + 1 }) (value_of own vs s e) (started own s n r h)
by_test false own vs s n e r h = refl

pub counted_here : (own : ℕ) (vs : List ℤ) (s : State) (n : ℕ) (e : Expr ℕ) (r : Progress) → HasReached own s n r → counted own vs e r ≡ counted_so own s r (counted_value own vs s n e)
counted_here own vs s n e r h =
    by_test (nat_lt r.statements 10000) own vs s n e r h
    ∙ ap (λ (m : ℕ). counted_so own s r ((if nat_lt m 10000 then Ok (n + 1) else Err too_many_statements) >>= λ k. value_of own vs s e >>= λ v. Ok (v, k))) h.statements
