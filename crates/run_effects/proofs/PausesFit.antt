-- Where a method pauses, its values are within 64 bits, and the state that it leaves is one.
use Rattle.std.specs.Prelude.{ℕ, zero, suc, ◌+◌, ◌-◌, ◌<◌, ◌^◌, min, nat_lt, Bool, true, false, if◌then◌else◌, ℤ, Result, Ok, Err, List, [], ◌∷◌, ◌++◌, take, slice_set}
use Rattle.snap_base.specs.declared.transactions.State.{State}
use Rattle.snap_base.proofs.Lists.{all_push, all_take}
use Rattle.aml_slice.specs.aml_tree.Tree.{Expr, Code, End, Let, Call, Set, SetField, If, IfElse, While, Fail, Return}
use Rattle.aml_slice.specs.aml_check.declared.limits.TheConstants.{MOST_STATEMENTS}
use Rattle.aml_slice.specs.aml_check.Meaning.{too_many_statements, with_field, is_nonzero, value_of, values_of}
use Rattle.aml_slice.specs.aml_resume.declared.places.Spot.{Spot}
use Rattle.aml_slice.specs.aml_resume.Places.{Standing, behind_some, inner_of, after_inner, place_behind}
use Rattle.aml_slice.specs.aml_resume.Pausing.{Pause, Through, Returned, Calling, Failed, unless_failed, one_more, counted_value, counting, spot, around, loop_pause, block_pause, pause_from, given_at_end, method_pause}
use Rattle.record_log.specs.txn_records.Records.{IsState}
use Rattle.run_effects.proofs.Elements.{all_set}
use Rattle.run_effects.proofs.ValuesFit.{Has, has_bind, Each, Fits, AllFit, Small, nought_fits, value_fits, values_fit, with_field_is_state}

abbrev pub FitPause : Pause → Type 0
FitPause (Through vs s n) = AllFit vs × IsState s
FitPause (Returned v s n) = Fits v × IsState s
FitPause (Calling target m arguments standing s n) = AllFit arguments × AllFit standing.variables × IsState s
FitPause (Failed code s n) = IsState s

-- from variables and a state that fit
abbrev pub FitFrom : (List ℤ → State → ℕ → Pause) → Type 0
FitFrom next = (vs : List ℤ) (s : State) (n : ℕ) → AllFit vs → IsState s → FitPause (next vs s n)

choice : (b : Bool) (x y : Pause) → FitPause x → FitPause y → FitPause (if b then x else y)
choice true x y p q = p
choice false x y p q = q

unless_fit : {A : Type 0} (P : A → Type 0) (s : State) (n : ℕ) (m : Result A ℕ) (next : A → Pause) → IsState s → Has P m → ((x : A) → P x → FitPause (next x)) → FitPause (unless_failed s n m next)
unless_fit P s n (Ok x) next is h k = k x h
unless_fit P s n (Err code) next is h k = is

one_more_any : (n : ℕ) → Has (λ k. Unit {0}) (one_more n)
one_more_any n = by (nat_lt n MOST_STATEMENTS)
  where
    by : (b : Bool) → Has (λ k. Unit {0}) (if b then Ok (n + 1) else Err too_many_statements)
    by true = tt
    by false = tt

counting_fit : (own : ℕ) (vs : List ℤ) (s : State) (n : ℕ) (e : Expr ℕ) (next : ℤ × ℕ → Pause) → own < 2 ^ 63 → AllFit vs → IsState s → Small e → ((x : ℤ × ℕ) → Fits x.0 → FitPause (next x)) → FitPause (counting own vs s n e next)
counting_fit own vs s n e next few all is small k =
    unless_fit (λ (x : ℤ × ℕ). Fits x.0) s (min (n + 1) MOST_STATEMENTS) (counted_value own vs s n e) next is
    (has_bind (λ k. Unit {0}) (λ (x : ℤ × ℕ). Fits x.0) (one_more n) _ (one_more_any n) (λ j _. has_bind Fits (λ (x : ℤ × ℕ). Fits x.0) (value_of own vs s e) _ (value_fits own vs s e few all is.fields small) (λ v fits. fits)))
    k

around_fit : (q : Spot) (p : Pause) (next : List ℤ → State → ℕ → Pause) → FitPause p → FitFrom next → FitPause (around q p next)
around_fit q (Through vs s n) next h k = k (take q.keep vs) s n (all_take Fits q.keep vs h.0) h.1
around_fit q (Returned v s n) next h k = h
around_fit q (Calling target m arguments standing s n) next h k = h
around_fit q (Failed code s n) next h k = h

loop_fit : (more at own : ℕ) (condition : Expr ℕ) (body next : List ℤ → State → ℕ → Pause) → own < 2 ^ 63 → Small condition → FitFrom body → FitFrom next → FitFrom (loop_pause more at own condition body next)
loop_fit zero at own condition body next few small b k = λ vs s n all is. is
loop_fit (suc more) at own condition body next few small b k = λ vs s n all is.
    counting_fit own vs s n condition _ few all is small (λ x fits.
    choice (is_nonzero x.0) _ _ (around_fit (spot at false vs) (body vs s x.1) (loop_pause more at own condition body next) (b vs s x.1 all is) (loop_fit more at own condition body next few small b k)) (k vs s x.1 all is))

pub block_fit : (own at : ℕ) (b : Code ℕ ℕ) → own < 2 ^ 63 → Each Small b → FitFrom (block_pause own at b)
block_fit own at (End line) few small = λ vs s n all is. (all, is)
block_fit own at (Let line v value rest) few small = λ vs s n all is.
    counting_fit own vs s n value _ few all is small.0 (λ x fits. block_fit own (at + 1) rest few small.1 (vs ++ x.0 ∷ []) s x.1 (all_push Fits vs x.0 all fits) is)
block_fit own at (Call line v target m arguments rest) few small = λ vs s n all is.
    counting_fit own vs s n target _ few all is small.0 (λ x fits. unless_fit AllFit s x.1 (values_of own vs s arguments) _ is (values_fit own vs s arguments few all is.fields small.1) (λ xs h. (h, all, is)))
block_fit own at (Set v value rest) few small = λ vs s n all is.
    counting_fit own vs s n value _ few all is small.0 (λ x fits. block_fit own (at + 1) rest few small.1 (slice_set vs v x.0) s x.1 (all_set Fits vs v x.0 fits all) is)
block_fit own at (SetField line k value rest) few small = λ vs s n all is.
    counting_fit own vs s n value _ few all is small.0 (λ x fits. block_fit own (at + 1) rest few small.1 vs (with_field s k x.0) x.1 all (with_field_is_state s k x.0 fits is))
block_fit own at (If condition first rest) few small = λ vs s n all is.
    counting_fit own vs s n condition _ few all is small.0 (λ x fits.
    choice (is_nonzero x.0) _ _ (around_fit (spot at false vs) (block_pause own 0 first vs s x.1) (block_pause own (at + 1) rest) (block_fit own 0 first few small.1 vs s x.1 all is) (block_fit own (at + 1) rest few small.2)) (block_fit own (at + 1) rest few small.2 vs s x.1 all is))
block_fit own at (IfElse condition first other rest) few small = λ vs s n all is.
    counting_fit own vs s n condition _ few all is small.0 (λ x fits.
    choice (is_nonzero x.0) _ _
    (around_fit (spot at false vs) (block_pause own 0 first vs s x.1) (block_pause own (at + 1) rest) (block_fit own 0 first few small.1 vs s x.1 all is) (block_fit own (at + 1) rest few small.3))
    (around_fit (spot at true vs) (block_pause own 0 other vs s x.1) (block_pause own (at + 1) rest) (block_fit own 0 other few small.2 vs s x.1 all is) (block_fit own (at + 1) rest few small.3)))
block_fit own at (While condition body rest) few small = λ vs s n all is.
    loop_fit (1 + MOST_STATEMENTS - n) at own condition (block_pause own 0 body) (block_pause own (at + 1) rest) few small.0 (block_fit own 0 body few small.1) (block_fit own (at + 1) rest few small.2) vs s n all is
block_fit own at (Fail code rest) few small = λ vs s n all is. unless_fit (λ k. Unit {0}) s n (one_more n) (Failed code s) is (one_more_any n) (λ k _. is)
block_fit own at (Return value rest) few small = λ vs s n all is. counting_fit own vs s n value _ few all is small.0 (λ x fits. (fits, is))

-- ---- from the places where it stands

behind_small : (n : ℕ) (b : Code ℕ ℕ) → Each Small b → Each Small (behind_some n b)
behind_small zero b h = h
behind_small (suc n) (End line) h = h
behind_small (suc n) (Let line v value rest) h = behind_small n rest h.1
behind_small (suc n) (Call line v target m arguments rest) h = behind_small n rest h.2
behind_small (suc n) (Set v value rest) h = behind_small n rest h.1
behind_small (suc n) (SetField line k value rest) h = behind_small n rest h.1
behind_small (suc n) (If condition first rest) h = behind_small n rest h.2
behind_small (suc n) (IfElse condition first other rest) h = behind_small n rest h.3
behind_small (suc n) (While condition body rest) h = behind_small n rest h.2
behind_small (suc n) (Fail code rest) h = behind_small n rest h
behind_small (suc n) (Return value rest) h = behind_small n rest h.1

inner_small : (other : Bool) (b : Code ℕ ℕ) → Each Small b → Each Small (inner_of other b)
inner_small other (If condition first rest) h = h.1
inner_small other (While condition body rest) h = h.1
inner_small true (IfElse condition first second rest) h = h.2
inner_small false (IfElse condition first second rest) h = h.1
inner_small other (End line) h = tt
inner_small other (Let line v value rest) h = tt
inner_small other (Call line v target m arguments rest) h = tt
inner_small other (Set v value rest) h = tt
inner_small other (SetField line k value rest) h = tt
inner_small other (Fail code rest) h = tt
inner_small other (Return value rest) h = tt

after_small : (b : Code ℕ ℕ) → Each Small b → Each Small (after_inner b)
after_small (If condition first rest) h = h.2
after_small (IfElse condition first second rest) h = h.3
after_small (While condition body rest) h = h
after_small (End line) h = tt
after_small (Let line v value rest) h = tt
after_small (Call line v target m arguments rest) h = tt
after_small (Set v value rest) h = tt
after_small (SetField line k value rest) h = tt
after_small (Fail code rest) h = tt
after_small (Return value rest) h = tt

from_fit : (own : ℕ) (b : Code ℕ ℕ) (qs : List Spot) (next : ℕ) → own < 2 ^ 63 → Each Small b → FitFrom (pause_from own b qs next)
from_fit own b [] next few small = λ vs s n all is. block_fit own next (behind_some next b) few (behind_small next b small) vs s n all is
from_fit own b (q ∷ qs) next few small = λ vs s n all is.
    around_fit q (pause_from own (inner_of q.other (behind_some q.at b)) qs next vs s n) (block_pause own (place_behind q.at (behind_some q.at b)) (after_inner (behind_some q.at b)))
    (from_fit own (inner_of q.other (behind_some q.at b)) qs next few (inner_small q.other (behind_some q.at b) (behind_small q.at b small)) vs s n all is)
    (block_fit own (place_behind q.at (behind_some q.at b)) (after_inner (behind_some q.at b)) few (after_small (behind_some q.at b) (behind_small q.at b small)))

end_fit : (p : Pause) → FitPause p → FitPause (given_at_end p)
end_fit (Through vs s n) h = (nought_fits, h.1)
end_fit (Returned v s n) h = h
end_fit (Calling target m arguments standing s n) h = h
end_fit (Failed code s n) h = h

pub method_fit : (own : ℕ) (body : Code ℕ ℕ) (standing : Standing) (s : State) (n : ℕ) → own < 2 ^ 63 → Each Small body → AllFit standing.variables → IsState s → FitPause (method_pause own body standing s n)
method_fit own body standing s n few small all is = end_fit (pause_from own body standing.path standing.next standing.variables s n) (from_fit own body standing.path standing.next few small standing.variables s n all is)
