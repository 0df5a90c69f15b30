-- Where a method is paused: at a place of its body, once the value is there, and at a call that its program allows.
use Rattle.std.proofs.Common.{◌≡◌, ℕ, zero, suc, ◌+◌, ◌-◌, ◌≤◌, min, Bool, true, false, if◌then◌else◌, ℤ, Result, Ok, Err, List, [], ◌∷◌, ◌++◌, length, take, set, refl, sym, ap, ◌∙◌, subst, arith, length-append}
use Rattle.std.proofs.lemmas.List.{length-take, length-set}
use Rattle.snap_base.specs.declared.transactions.State.{State}
use Rattle.aml_tree.specs.Tree.{Expr, Code, End, Let, Call, Set, SetField, If, IfElse, While, Fail, Return, CheckedMethod}
use Rattle.aml_check.specs.Closed.{IsClosedCall}
use Rattle.aml_check.specs.Meaning.{◌>>=◌, value_of, values_of, with_field, is_nonzero}
use Rattle.aml_resume.specs.declared.places.Spot.{Spot}
use Rattle.aml_resume.specs.Places.{behind_some, HasInner, inner_of, after_inner, place_behind, kept, IsPlace, IsRunnable}
use Rattle.aml_resume.specs.Pausing.{Pause, Through, Returned, Calling, Failed, unless_failed, one_more, counted_value, around, spot, loop_pause, block_pause, pause_from, given_at_end}
use Rattle.aml_resume.specs.Resuming.{IsAllowedPause, PausesWhereAllowed}
use Rattle.aml_resume.proofs.Behinds.{behind_more}
use Rattle.aml_resume.proofs.PausesFrom.{behind_place}

-- behind a block that had so many variables in view there are no fewer; a call is at a place of the block
abbrev pub Placed : List CheckedMethod → Code ℕ ℕ → ℕ → Pause → Type 0
Placed p b least (Through vs t k) = least ≤ length vs
Placed p b least (Returned v t k) = Unit {0}
Placed p b least (Calling target m arguments g t k) = IsPlace p (length g.variables + 1) b g.path g.next × (least ≤ kept (length g.variables + 1) g.path) × IsClosedCall p m (length arguments)
Placed p b least (Failed code t k) = Unit {0}

fewer_placed : (p : List CheckedMethod) (b : Code ℕ ℕ) (m n : ℕ) (x : Pause) → m ≤ n → Placed p b n x → Placed p b m x
fewer_placed p b m n (Through vs t k) less h = omega (arith, less, h)
fewer_placed p b m n (Returned v t k) less h = tt
fewer_placed p b m n (Calling target q arguments g t k) less h = (h.0, omega (arith, less, h.1), h.2)
fewer_placed p b m n (Failed code t k) less h = tt

placed_value : {A : Type 0} (p : List CheckedMethod) (b : Code ℕ ℕ) (n : ℕ) (s : State) (j : ℕ) (o : Result A ℕ) (go : A → Pause) → ((x : A) → o ≡ Ok x → Placed p b n (go x)) → Placed p b n (unless_failed s j o go)
placed_value p b n s j (Ok x) go h = h x refl
placed_value p b n s j (Err code) go h = tt

placed_test : (t : Bool) (p : List CheckedMethod) (b : Code ℕ ℕ) (n : ℕ) (x y : Pause) → Placed p b n x → Placed p b n y → Placed p b n (if t then x else y)
placed_test true p b n x y h k = h
placed_test false p b n x y h k = k

-- a spot of the block around an inner block, behind which so many variables are in view
pub record Fits (p : List CheckedMethod) (b first : Code ℕ ℕ) (q : Spot) : Type 0 where
  pub has : HasInner q.other (behind_some q.at b)
  pub inner : inner_of q.other (behind_some q.at b) ≡ first
  pub after : IsRunnable p q.keep (after_inner (behind_some q.at b))

placed_around : (p : List CheckedMethod) (b first : Code ℕ ℕ) (q : Spot) (x : Pause) (go : List ℤ → State → ℕ → Pause) → Fits p b first q → Placed p first q.keep x → ((ws : List ℤ) (t : State) (k : ℕ) → length ws ≡ q.keep → Placed p b q.keep (go ws t k)) → Placed p b q.keep (around q x go)
placed_around p b first q (Through vs t k) go fits h on = on (take q.keep vs) t k (omega (arith, length-take q.keep vs, h))
placed_around p b first q (Returned v t k) go fits h on = tt
placed_around p b first q (Calling target m arguments g t k) go fits h on =
    let P : Code ℕ ℕ → Type 0 = λ c. IsPlace p (length g.variables + 1) c g.path g.next in
    ((fits.has, subst P (sym fits.inner) h.0, h.1, fits.after), (let same : q.keep ≤ q.keep = omega arith in same), h.2)
placed_around p b first q (Failed code t k) go fits h on = tt

values_by : (o : Result ℤ ℕ) (f : ℤ → Result (List ℤ) ℕ) (xs : List ℤ) (n : ℕ) → ((v : ℤ) (ys : List ℤ) → f v ≡ Ok ys → length ys ≡ n) → (o >>= f) ≡ Ok xs → length xs ≡ n
values_by (Ok v) f xs n h e = h v xs e
values_by (Err code) f xs n h e = absurd cc

longer_by_one : (o : Result (List ℤ) ℕ) (v : ℤ) (ys : List ℤ) (n : ℕ) → ((xs : List ℤ) → o ≡ Ok xs → length xs ≡ n) → (o >>= λ vs. Ok (v ∷ vs)) ≡ Ok ys → length ys ≡ suc n
longer_by_one (Ok vs) v ys n h e = let same : ys ≡ v ∷ vs = cc in ap length same ∙ ap suc (h vs refl)
longer_by_one (Err code) v ys n h e = absurd cc

values_length : (own : ℕ) (vs : List ℤ) (s : State) (es : List (Expr ℕ)) (xs : List ℤ) → values_of own vs s es ≡ Ok xs → length xs ≡ length es
values_length own vs s [] xs e = let same : xs ≡ [] = cc in ap length same
values_length own vs s (e ∷ es) xs is =
    values_by (value_of own vs s e) (λ v. values_of own vs s es >>= λ ys. Ok (v ∷ ys)) xs (suc (length es)) (λ v ys.
    longer_by_one (values_of own vs s es) v ys (length es) (λ zs. values_length own vs s es zs)) is

turning_placed : (p : List CheckedMethod) (f at own : ℕ) (e : Expr ℕ) (body b : Code ℕ ℕ) (next : List ℤ → State → ℕ → Pause) (n : ℕ) → Fits p b body (record { at = at; other = false; keep = n })
    → ((ws : List ℤ) (t : State) (k : ℕ) → length ws ≡ n → Placed p body n (block_pause own 0 body ws t k)) → ((ws : List ℤ) (t : State) (k : ℕ) → length ws ≡ n → Placed p b n (next ws t k))
    → (vs : List ℤ) (s : State) (j : ℕ) → length vs ≡ n → Placed p b n (loop_pause f at own e (block_pause own 0 body) next vs s j)
turning_placed p zero at own e body b next n fits h on vs s j same = tt
turning_placed p (suc f) at own e body b next n fits h on vs s j same =
    placed_value p b n s (min (j + 1) 10000) (counted_value own vs s j e) (λ x. if is_nonzero x.0 then around (spot at false vs) (block_pause own 0 body vs s x.1) (loop_pause f at own e (block_pause own 0 body) next) else next vs s x.1) (λ x is.
    placed_test (is_nonzero x.0) p b n (around (spot at false vs) (block_pause own 0 body vs s x.1) (loop_pause f at own e (block_pause own 0 body) next)) (next vs s x.1)
    (let P : ℕ → Type 0 = λ m. Placed p b n (around (record { at = at; other = false; keep = m }) (block_pause own 0 body vs s x.1) (loop_pause f at own e (block_pause own 0 body) next)) in
    subst P (sym same) (placed_around p b body (record { at = at; other = false; keep = n }) (block_pause own 0 body vs s x.1) (loop_pause f at own e (block_pause own 0 body) next) fits (h vs s x.1 same) (λ ws t k. turning_placed p f at own e body b next n fits h on ws t k)))
    (on vs s x.1 same))

pub paused_placed : (p : List CheckedMethod) (own : ℕ) (c b : Code ℕ ℕ) (at : ℕ) → behind_some at b ≡ c → (vs : List ℤ) (s : State) (n : ℕ) → IsRunnable p (length vs) c → Placed p b (length vs) (block_pause own at c vs s n)
paused_placed p own (End line) b at here vs s n h = omega arith
paused_placed p own (Let line v e rest) b at here vs s n h =
    let more : behind_some (at + 1) b ≡ rest = behind_more at b ∙ ap (behind_some 1) here in
    placed_value p b (length vs) s (min (n + 1) 10000) (counted_value own vs s n e) (λ x. block_pause own (at + 1) rest (vs ++ x.0 ∷ []) s x.1) (λ x is.
    let longer : length (vs ++ x.0 ∷ []) ≡ length vs + 1 = length-append vs (x.0 ∷ []) in
    fewer_placed p b (length vs) (length (vs ++ x.0 ∷ [])) (block_pause own (at + 1) rest (vs ++ x.0 ∷ []) s x.1) (omega (arith, longer))
    (paused_placed p own rest b (at + 1) more (vs ++ x.0 ∷ []) s x.1 (subst (λ m. IsRunnable p m rest) (sym longer) (h.0.2, omega (arith, h.1)))))
paused_placed p own (Call line v e m es rest) b at here vs s n h =
    let more : behind_some (at + 1) b ≡ rest = behind_more at b ∙ ap (behind_some 1) here in
    placed_value p b (length vs) s (min (n + 1) 10000) (counted_value own vs s n e) (λ x. unless_failed s x.1 (values_of own vs s es) (λ xs. Calling x.0 m xs (record { path = []; next = at + 1; variables = vs }) s x.1)) (λ x is.
    placed_value p b (length vs) s x.1 (values_of own vs s es) (λ xs. Calling x.0 m xs (record { path = []; next = at + 1; variables = vs }) s x.1) (λ xs given.
    (subst (λ (c : Code ℕ ℕ). IsRunnable p (length vs + 1) c) (sym more) (h.0.4, omega (arith, h.1)), omega arith, subst (λ (k : ℕ). IsClosedCall p m k) (sym (values_length own vs s es xs given)) h.0.2)))
paused_placed p own (Set v e rest) b at here vs s n h =
    let more : behind_some (at + 1) b ≡ rest = behind_more at b ∙ ap (behind_some 1) here in
    placed_value p b (length vs) s (min (n + 1) 10000) (counted_value own vs s n e) (λ x. block_pause own (at + 1) rest (set vs v x.0) s x.1) (λ x is.
    let same : length (set vs v x.0) ≡ length vs = length-set vs v x.0 in
    fewer_placed p b (length vs) (length (set vs v x.0)) (block_pause own (at + 1) rest (set vs v x.0) s x.1) (omega (arith, same))
    (paused_placed p own rest b (at + 1) more (set vs v x.0) s x.1 (subst (λ m. IsRunnable p m rest) (sym same) (h.0.2, h.1))))
paused_placed p own (SetField line f e rest) b at here vs s n h =
    let more : behind_some (at + 1) b ≡ rest = behind_more at b ∙ ap (behind_some 1) here in
    placed_value p b (length vs) s (min (n + 1) 10000) (counted_value own vs s n e) (λ x. block_pause own (at + 1) rest vs (with_field s f x.0) x.1) (λ x is.
    paused_placed p own rest b (at + 1) more vs (with_field s f x.0) x.1 (h.0.2, h.1))
paused_placed p own (If e first rest) b at here vs s n h =
    let more : behind_some (at + 1) b ≡ rest = behind_more at b ∙ ap (behind_some 1) here in
    let on : IsRunnable p (length vs) rest = (h.0.2, omega (arith, h.1)) in
    let fits : Fits p b first (spot at false vs) = record {
      has = subst (HasInner false) (sym here) tt;
      inner = ap (inner_of false) here;
      after = subst (IsRunnable p (length vs)) (sym (ap after_inner here)) on;
    } in
    placed_value p b (length vs) s (min (n + 1) 10000) (counted_value own vs s n e) (λ x. if is_nonzero x.0 then around (spot at false vs) (block_pause own 0 first vs s x.1) (block_pause own (at + 1) rest) else block_pause own (at + 1) rest vs s x.1) (λ x is.
    placed_test (is_nonzero x.0) p b (length vs) (around (spot at false vs) (block_pause own 0 first vs s x.1) (block_pause own (at + 1) rest)) (block_pause own (at + 1) rest vs s x.1)
    (placed_around p b first (spot at false vs) (block_pause own 0 first vs s x.1) (block_pause own (at + 1) rest) fits
    (paused_placed p own first first 0 refl vs s x.1 (h.0.1, omega (arith, h.1)))
    (λ ws t k same. subst (λ m. Placed p b m (block_pause own (at + 1) rest ws t k)) same (paused_placed p own rest b (at + 1) more ws t k (subst (λ m. IsRunnable p m rest) (sym same) on))))
    (paused_placed p own rest b (at + 1) more vs s x.1 on))
paused_placed p own (IfElse e first other rest) b at here vs s n h =
    let more : behind_some (at + 1) b ≡ rest = behind_more at b ∙ ap (behind_some 1) here in
    let on : IsRunnable p (length vs) rest = (h.0.3, omega (arith, h.1)) in
    let fits : Fits p b first (spot at false vs) = record {
      has = subst (HasInner false) (sym here) tt;
      inner = ap (inner_of false) here;
      after = subst (IsRunnable p (length vs)) (sym (ap after_inner here)) on;
    } in
    let fits_other : Fits p b other (spot at true vs) = record {
      has = subst (HasInner true) (sym here) tt;
      inner = ap (inner_of true) here;
      after = subst (IsRunnable p (length vs)) (sym (ap after_inner here)) on;
    } in
    let behind_it : (ws : List ℤ) (t : State) (k : ℕ) → length ws ≡ length vs → Placed p b (length vs) (block_pause own (at + 1) rest ws t k) = λ ws t k same.
    subst (λ m. Placed p b m (block_pause own (at + 1) rest ws t k)) same (paused_placed p own rest b (at + 1) more ws t k (subst (λ m. IsRunnable p m rest) (sym same) on)) in
    placed_value p b (length vs) s (min (n + 1) 10000) (counted_value own vs s n e) (λ x. if is_nonzero x.0 then around (spot at false vs) (block_pause own 0 first vs s x.1) (block_pause own (at + 1) rest) else around (spot at true vs) (block_pause own 0 other vs s x.1) (block_pause own (at + 1) rest)) (λ x is.
    placed_test (is_nonzero x.0) p b (length vs) (around (spot at false vs) (block_pause own 0 first vs s x.1) (block_pause own (at + 1) rest)) (around (spot at true vs) (block_pause own 0 other vs s x.1) (block_pause own (at + 1) rest))
    (placed_around p b first (spot at false vs) (block_pause own 0 first vs s x.1) (block_pause own (at + 1) rest) fits (paused_placed p own first first 0 refl vs s x.1 (h.0.1, omega (arith, h.1))) behind_it)
    (placed_around p b other (spot at true vs) (block_pause own 0 other vs s x.1) (block_pause own (at + 1) rest) fits_other (paused_placed p own other other 0 refl vs s x.1 (h.0.2, omega (arith, h.1))) behind_it))
paused_placed p own (While e body rest) b at here vs s n h =
    let more : behind_some (at + 1) b ≡ rest = behind_more at b ∙ ap (behind_some 1) here in
    let on : IsRunnable p (length vs) rest = (h.0.2, omega (arith, h.1)) in
    let fits : Fits p b body (record { at = at; other = false; keep = length vs }) = record {
      has = subst (HasInner false) (sym here) tt;
      inner = ap (inner_of false) here;
      after = subst (IsRunnable p (length vs)) (sym (ap after_inner here)) h;
    } in
    turning_placed p (10001 - n) at own e body b (block_pause own (at + 1) rest) (length vs) fits
    (λ ws t k same. subst (λ m. Placed p body m (block_pause own 0 body ws t k)) same (paused_placed p own body body 0 refl ws t k (subst (λ m. IsRunnable p m body) (sym same) (h.0.1, omega (arith, h.1)))))
    (λ ws t k same. subst (λ m. Placed p b m (block_pause own (at + 1) rest ws t k)) same (paused_placed p own rest b (at + 1) more ws t k (subst (λ m. IsRunnable p m rest) (sym same) on)))
    vs s n refl
paused_placed p own (Fail code rest) b at here vs s n h = placed_value p b (length vs) s n (one_more n) (Failed code s) (λ x is. tt)
paused_placed p own (Return e rest) b at here vs s n h = placed_value p b (length vs) s (min (n + 1) 10000) (counted_value own vs s n e) (λ x. Returned x.0 s x.1) (λ x is. tt)

-- The same from a place of a block on.
pub from_placed : (p : List CheckedMethod) (own : ℕ) (b : Code ℕ ℕ) (qs : List Spot) (next : ℕ) (vs : List ℤ) (s : State) (n : ℕ) → IsPlace p (length vs) b qs next → Placed p b (kept (length vs) qs) (pause_from own b qs next vs s n)
from_placed p own b [] next vs s n place = paused_placed p own (behind_some next b) b next refl vs s n place
from_placed p own b (q ∷ qs) next vs s n place =
    let c = behind_some q.at b in
    placed_around p b (inner_of q.other c) q (pause_from own (inner_of q.other c) qs next vs s n) (block_pause own (place_behind q.at c) (after_inner c)) (record { has = place.0; inner = refl; after = place.3 })
    (fewer_placed p (inner_of q.other c) q.keep (kept (length vs) qs) (pause_from own (inner_of q.other c) qs next vs s n) place.2 (from_placed p own (inner_of q.other c) qs next vs s n place.1))
    (λ ws t k same. subst (λ m. Placed p b m (block_pause own (place_behind q.at c) (after_inner c) ws t k)) same
    (paused_placed p own (after_inner c) b (place_behind q.at c) (behind_place q.other q.at b c refl place.0) ws t k (subst (λ m. IsRunnable p m (after_inner c)) (sym same) place.3)))

-- ---- the law

allowed : (p : List CheckedMethod) (b : Code ℕ ℕ) (least : ℕ) (x : Pause) → Placed p b least x → IsAllowedPause p b (given_at_end x)
allowed p b least (Through vs t k) h = tt
allowed p b least (Returned v t k) h = tt
allowed p b least (Calling target m arguments g t k) h = (h.0, h.2)
allowed p b least (Failed code t k) h = tt

pub where_allowed : PausesWhereAllowed
where_allowed p own body f s n place =
    allowed p body (kept (length f.variables) f.path) (pause_from own body f.path f.next f.variables s n) (from_placed p own body f.path f.next f.variables s n place)
