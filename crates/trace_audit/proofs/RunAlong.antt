-- The run by places, one reply further: what is given to each transaction, and the states behind.
use Rattle.std.specs.Prelude.{◌≡◌, refl, ℕ, zero, suc, ◌<◌, ◌==◌, Bool, true, false, if◌then◌else◌, Option, Some, None, List, [], ◌∷◌, ◌++◌, length, slice_get, slice_index_or, slice_set, unwrap_or}
use Rattle.std.proofs.Common.{arith, sym, ap, subst, ◌∙◌}
use Rattle.std.proofs.lemmas.Bool.{true≢false, eqb-true, eq-eqb}
use Rattle.std.proofs.lemmas.List.{length-set}
use Rattle.snap_base.proofs.Lists.{get_other}
use Rattle.snap_base.specs.declared.transactions.State.{State}
use Rattle.snap_base.specs.declared.transactions.TxResult.{TxResult}
use Rattle.protocol.specs.Fixed.{Text, tx_at}
use Rattle.protocol.specs.History.{Done}
use Rattle.audit_words.specs.Clauses.{Meaning, given, given_to, world_left_by, world_behind}
use Rattle.trace_audit.specs.Meanings.{Walked}

-- ---- one more of them

given_push : (m : Meaning) (w : Text) (world : List State) (ds : List Done) (d : Done)
    → given m w world (ds ++ d ∷ []) ≡ given m w world ds ++ (d.tx, (m (world_behind m w world ds) (tx_at w d.tx)).result) ∷ []
given_push m w world [] d = refl
given_push m w world (x ∷ ds) d = ap (λ (gs : List (ℕ × TxResult)). (x.tx, (m world (tx_at w x.tx)).result) ∷ gs) (given_push m w (world_left_by m w world x) ds d)

behind_push : (m : Meaning) (w : Text) (world : List State) (ds : List Done) (d : Done) → world_behind m w world (ds ++ d ∷ []) ≡ world_left_by m w (world_behind m w world ds) d
behind_push m w world [] d = refl
behind_push m w world (x ∷ ds) d = behind_push m w (world_left_by m w world x) ds d

-- what was given first, or else this
abbrev pub later : Option TxResult → Bool → TxResult → Option TxResult
later (Some y) b r = Some y
later None true r = Some r
later None false r = None

given_to_push : (n k : ℕ) (r : TxResult) (xs : List (ℕ × TxResult)) → given_to n (xs ++ (k, r) ∷ []) ≡ later (given_to n xs) (k == n) r
given_to_push n k r [] = by (k == n)
  where
    by : (b : Bool) → (if b then Some r else None) ≡ later None b r
    by true = refl
    by false = refl
given_to_push n k r (x ∷ xs) = by (x.0 == n) (given_to_push n k r xs)
  where
    by : (b : Bool) → given_to n (xs ++ (k, r) ∷ []) ≡ later (given_to n xs) (k == n) r
        → (if b then Some x.1 else given_to n (xs ++ (k, r) ∷ [])) ≡ later (if b then Some x.1 else given_to n xs) (k == n) r
    by true e = refl
    by false e = e

-- ---- the results by transaction

set_same : (xs : List (Option TxResult)) (n : ℕ) (x : Option TxResult) → n < length xs → slice_get (slice_set xs n x) n ≡ Some x
set_same [] n x h = absurd (omega (arith, h))
set_same (y ∷ ys) zero x h = refl
set_same (y ∷ ys) (suc n) x h = set_same ys n x (omega (arith, h))

pub read_there : (xs : List (Option TxResult)) (n : ℕ) (x : Option TxResult) → slice_get xs n ≡ Some x → slice_index_or xs n None ≡ x
read_there [] n x h = absurd (cc h)
read_there (y ∷ ys) zero x h = cc h
read_there (y ∷ ys) (suc n) x h = read_there ys n x h

first_stays : (o : Option TxResult) (r : TxResult) → Some (unwrap_or o r) ≡ later o true r
first_stays None r = refl
first_stays (Some y) r = refl

others_stay : (o : Option TxResult) (r : TxResult) → o ≡ later o false r
others_stay None r = refl
others_stay (Some y) r = refl

results_next : (n k : ℕ) (r : TxResult) (results : List (Option TxResult)) (xs : List (ℕ × TxResult)) → n < length results → slice_get results n ≡ Some (given_to n xs)
    → slice_get (slice_set results k (Some (unwrap_or (slice_index_or results k None) r))) n ≡ Some (given_to n (xs ++ (k, r) ∷ []))
results_next n k r results xs h e = by (k == n) refl ∙ ap (λ (o : Option TxResult). Some o) (sym (given_to_push n k r xs))
  where
    by : (b : Bool) → (k == n) ≡ b → slice_get (slice_set results k (Some (unwrap_or (slice_index_or results k None) r))) n ≡ Some (later (given_to n xs) (k == n) r)
    by true f =
        let same : k ≡ n = eqb-true k n f in
        subst (λ (i : ℕ). slice_get (slice_set results i (Some (unwrap_or (slice_index_or results i None) r))) n ≡ Some (later (given_to n xs) (k == n) r)) (sym same)
        (set_same results n (Some (unwrap_or (slice_index_or results n None) r)) h
        ∙ ap (λ (o : Option TxResult). Some (Some (unwrap_or o r))) (read_there results n (given_to n xs) e)
        ∙ ap (λ (o : Option TxResult). Some o) (first_stays (given_to n xs) r ∙ ap (λ (b : Bool). later (given_to n xs) b r) (sym f)))
    by false f =
        get_other results n k (Some (unwrap_or (slice_index_or results k None) r)) (λ q. true≢false (sym (eq-eqb k n q) ∙ f))
        ∙ e ∙ ap (λ (o : Option TxResult). Some o) (others_stay (given_to n xs) r ∙ ap (λ (b : Bool). later (given_to n xs) b r) (sym f))

-- ---- the run

-- one further
pub walked_next : (m : Meaning) (w : Text) (ds : List Done) (results : List (Option TxResult)) (world next : List State) (d : Done) (r : TxResult) → Walked m w ds results world
    → r ≡ (m world (tx_at w d.tx)).result → next ≡ world_left_by m w world d → length next ≡ length world
    → Walked m w (ds ++ d ∷ []) (slice_set results d.tx (Some (unwrap_or (slice_index_or results d.tx None) r))) next
walked_next m w ds results world next d r k gives leaves long =
    let states = w.opening.states in
    let given_here : r ≡ (m (world_behind m w states ds) (tx_at w d.tx)).result = gives ∙ ap (λ (ss : List State). (m ss (tx_at w d.tx)).result) k.left in
    record {
      many = length-set results d.tx (Some (unwrap_or (slice_index_or results d.tx None) r)) ∙ k.many;
      each = λ n h. results_next n d.tx r results (given m w states ds) (subst (λ (l : ℕ). n < l) (sym k.many) h) (k.each n h)
          ∙ ap (λ (gs : List (ℕ × TxResult)). Some (given_to n gs)) (ap (λ (x : TxResult). given m w states ds ++ (d.tx, x) ∷ []) given_here ∙ sym (given_push m w states ds d));
      actors = long ∙ k.actors;
      left = leaves ∙ ap (λ (ss : List State). world_left_by m w ss d) k.left ∙ sym (behind_push m w states ds d);
    }
