-- More turns than there are statements left change nothing, and a loop leaves no more variables than it found.
use Rattle.std.proofs.Common.{◌≡◌, ℕ, zero, suc, ◌+◌, ◌-◌, ◌≤◌, ℤ, nat_lt, Bool, true, false, if◌then◌else◌, Result, Ok, Err, List, length, take, refl, sym, ap, ◌∙◌, arith}
use Rattle.std.proofs.lemmas.Bool.Decides.{nat_tests}
use Rattle.std.proofs.lemmas.List.{take_all, length-take}
use Rattle.aml_tree.specs.Tree.{Expr, Code, While}
use Rattle.aml_check.specs.Meaning.{◌>>=◌, Progress, Exit, Goes, Gives, Caller, too_many_statements, statement_begun, state_at, value_of, is_nonzero, block, behind, turns}
use Rattle.aml_resume.specs.Resuming.{AtLeast, keeping, Rises}
use Rattle.aml_resume.proofs.Rising.{Going, block_rises}

-- ---- turns

begun_late : (r : Progress) → 10000 ≤ r.statements → statement_begun r ≡ Err too_many_statements
begun_late r late =
    let t : nat_lt r.statements 10000 ≡ false = grind (arith, nat_tests) in
    ap (λ (b : Bool). if b then Ok (record r { statements = r.statements + 1 }) else Err too_many_statements) t

abbrev turn : Going → ℕ → Expr ℕ → Going → List ℤ → ℤ → Progress → Result (Exit × Progress) ℕ
turn next own e body vs v r = if is_nonzero v then behind vs (body vs r) next else Ok (Goes vs, r)

abbrev turn_from : Going → ℕ → Expr ℕ → Going → List ℤ → Progress → Result (Exit × Progress) ℕ
turn_from next own e body vs r = value_of own vs (state_at r.world own) e >>= λ v. turn next own e body vs v r

same_begun_by : (b : Bool) (r : Progress) (f g : Progress → Result (Exit × Progress) ℕ) → ((q : Progress) → q.statements ≡ r.statements + 1 → f q ≡ g q)
    → ((if b then Ok (record r { statements = r.statements + 1 }) else Err too_many_statements) >>= f) ≡ ((if b then Ok (record r { statements = r.statements + 1 }) else Err too_many_statements) >>= g)
same_begun_by true r f g h = h (record r { statements = r.statements + 1 }) refl
same_begun_by false r f g h = refl

same_value : (o : Result ℤ ℕ) (f g : ℤ → Result (Exit × Progress) ℕ) → ((v : ℤ) → f v ≡ g v) → (o >>= f) ≡ (o >>= g)
same_value (Ok v) f g h = h v
same_value (Err code) f g h = refl

same_test : (b : Bool) (x y z : Result (Exit × Progress) ℕ) → x ≡ y → (if b then x else z) ≡ (if b then y else z)
same_test true x y z h = h
same_test false x y z h = refl

same_behind : (n : ℕ) (vs : List ℤ) (o : Result (Exit × Progress) ℕ) (f g : Going) → AtLeast n o → ((ws : List ℤ) (q : Progress) → n ≤ q.statements → f ws q ≡ g ws q) → behind vs o f ≡ behind vs o g
same_behind n vs (Ok (Goes inner, r)) f g h on = on _ r h
same_behind n vs (Ok (Gives v, r)) f g h on = refl
same_behind n vs (Err code) f g h on = refl

none_left : (n own : ℕ) (e : Expr ℕ) (body : Going) (vs : List ℤ) (r : Progress) → 10001 ≤ r.statements → turns n own e body vs r ≡ Err too_many_statements
none_left zero own e body vs r late = refl
none_left (suc n) own e body vs r late =
    let past : 10000 ≤ r.statements = omega arith in
    ap (λ (o : Result Progress ℕ). o >>= turn_from (turns n own e body) own e body vs) (begun_late r past)

pub enough_turns : (n m own : ℕ) (e : Expr ℕ) (body : Going) → ((vs : List ℤ) (r : Progress) → AtLeast r.statements (body vs r)) → (vs : List ℤ) (r : Progress) → 10001 ≤ n + r.statements → 10001 ≤ m + r.statements → turns n own e body vs r ≡ turns m own e body vs r
enough_turns zero m own e body h vs r few less = sym (none_left m own e body vs r (omega (arith, few)))
enough_turns (suc n) zero own e body h vs r few less = none_left (suc n) own e body vs r (omega (arith, less))
enough_turns (suc n) (suc m) own e body h vs r few less =
    same_begun_by (nat_lt r.statements 10000) r (turn_from (turns n own e body) own e body vs) (turn_from (turns m own e body) own e body vs) (λ q one.
    same_value (value_of own vs (state_at q.world own) e) (λ v. turn (turns n own e body) own e body vs v q) (λ v. turn (turns m own e body) own e body vs v q) (λ v.
    same_test (is_nonzero v) (behind vs (body vs q) (turns n own e body)) (behind vs (body vs q) (turns m own e body)) (Ok (Goes vs, q))
    (same_behind q.statements vs (body vs q) (turns n own e body) (turns m own e body) (h vs q) (λ ws z l.
    enough_turns n m own e body h ws z (omega (arith, few, one, l)) (omega (arith, less, one, l))))))

-- ---- variables

abbrev NoLonger : ℕ → Result (Exit × Progress) ℕ → Type 0
NoLonger n (Ok (Goes variables, r)) = length variables ≤ n
NoLonger n (Ok (Gives v, r)) = Unit {0}
NoLonger n (Err code) = Unit {0}

short_begun : (n : ℕ) (o : Result Progress ℕ) (f : Progress → Result (Exit × Progress) ℕ) → ((q : Progress) → NoLonger n (f q)) → NoLonger n (o >>= f)
short_begun n (Ok q) f h = h q
short_begun n (Err code) f h = tt

short_value : (n : ℕ) (o : Result ℤ ℕ) (f : ℤ → Result (Exit × Progress) ℕ) → ((v : ℤ) → NoLonger n (f v)) → NoLonger n (o >>= f)
short_value n (Ok v) f h = h v
short_value n (Err code) f h = tt

short_test : (n : ℕ) (b : Bool) (x y : Result (Exit × Progress) ℕ) → NoLonger n x → NoLonger n y → NoLonger n (if b then x else y)
short_test n true x y h k = h
short_test n false x y h k = k

short_behind : (n : ℕ) (vs : List ℤ) (o : Result (Exit × Progress) ℕ) (next : Going) → ((ws : List ℤ) (q : Progress) → length ws ≤ length vs → NoLonger n (next ws q)) → NoLonger n (behind vs o next)
short_behind n vs (Ok (Goes inner, r)) next h = h (take (length vs) inner) r (omega (arith, length-take (length vs) inner))
short_behind n vs (Ok (Gives v, r)) next h = tt
short_behind n vs (Err code) next h = tt

short_turns : (n k own : ℕ) (e : Expr ℕ) (body : Going) (vs : List ℤ) (r : Progress) → length vs ≤ k → NoLonger k (turns n own e body vs r)
short_turns zero k own e body vs r few = tt
short_turns (suc n) k own e body vs r few =
    short_begun k (statement_begun r) (turn_from (turns n own e body) own e body vs) (λ q.
    short_value k (value_of own vs (state_at q.world own) e) (λ v. turn (turns n own e body) own e body vs v q) (λ v.
    short_test k (is_nonzero v) (behind vs (body vs q) (turns n own e body)) (Ok (Goes vs, q))
    (short_behind k vs (body vs q) (turns n own e body) (λ ws z l. short_turns n k own e body ws z (omega (arith, l, few))))
    few))

same_kept : (n : ℕ) (us : List ℤ) (o : Result (Exit × Progress) ℕ) (next : Going) → length us ≤ n → NoLonger (length us) o → keeping n o next ≡ behind us o next
same_kept n us (Ok (Goes inner, r)) next few short = ap (λ (ws : List ℤ). next ws r) (take_all n inner (omega (arith, short, few)) ∙ sym (take_all (length us) inner short))
same_kept n us (Ok (Gives v, r)) next few short = refl
same_kept n us (Err code) next few short = refl

-- a loop that goes on with turns enough is the loop from there
pub while_again : (call : Caller) → Rises call → (m own n : ℕ) (e : Expr ℕ) (b rest : Code ℕ ℕ) (us : List ℤ) (r : Progress) → length us ≤ n → 10001 ≤ m + r.statements
    → keeping n (turns m own e (block call own b) us r) (block call own rest) ≡ block call own (While e b rest) us r
while_again call rises m own n e b rest us r few enough =
    let body : Going = block call own b in
    let all : 10001 ≤ (10001 - r.statements) + r.statements = omega arith in
    ap (λ (o : Result (Exit × Progress) ℕ). keeping n o (block call own rest)) (enough_turns m (10001 - r.statements) own e body (block_rises call rises own b) us r enough all)
    ∙ same_kept n us (turns (10001 - r.statements) own e body us r) (block call own rest) few (short_turns (10001 - r.statements) (length us) own e body us r (let same : length us ≤ length us = omega arith in same))
