-- A method that goes on from a place is paused as the meaning has it.
use Rattle.std.proofs.Common.{◌≡◌, ℕ, Bool, true, false, ℤ, Result, Ok, Err, List, [], ◌∷◌, ◌++◌, refl, ap, ◌∙◌}
use Rattle.snap_base.specs.declared.transactions.State.{State}
use Rattle.aml_tree.specs.Tree.{Code, End, Let, Call, Set, SetField, If, IfElse, While, Fail, Return, CheckedMethod}
use Rattle.aml_check.specs.Meaning.{◌>>=◌, Progress, Caller, block, given}
use Rattle.aml_resume.specs.declared.places.Spot.{Spot}
use Rattle.aml_resume.specs.Places.{Standing, behind_some, HasInner, inner_of, after_inner, place_behind, IsPlace}
use Rattle.aml_resume.specs.Pausing.{Pause, Through, Returned, Calling, Failed, block_pause, pause_from, given_at_end}
use Rattle.aml_resume.specs.Resuming.{HasReached, IsCounted, moved, Rises, resumed, keeping, gives, goes_on, PausesAsMeant, CountsRise}
use Rattle.aml_resume.proofs.Behinds.{behind_more}
use Rattle.aml_resume.proofs.MovedRuns.{at_moved}
use Rattle.aml_resume.proofs.Pauses.{R, block_goes, again, inner_goes, pauses, from_counts}

pub behind_place : (other : Bool) (at : ℕ) (b c : Code ℕ ℕ) → behind_some at b ≡ c → HasInner other c → behind_some (place_behind at c) b ≡ after_inner c
behind_place other at b (If e first rest) is h = behind_more at b ∙ ap (behind_some 1) is
behind_place other at b (IfElse e first second rest) is h = behind_more at b ∙ ap (behind_some 1) is
behind_place other at b (While e body rest) is h = is
behind_place false at b (End line) is h = absurd h
behind_place true at b (End line) is h = absurd h
behind_place false at b (Let line v e rest) is h = absurd h
behind_place true at b (Let line v e rest) is h = absurd h
behind_place false at b (Call line v e m es rest) is h = absurd h
behind_place true at b (Call line v e m es rest) is h = absurd h
behind_place false at b (Set v e rest) is h = absurd h
behind_place true at b (Set v e rest) is h = absurd h
behind_place false at b (SetField line k e rest) is h = absurd h
behind_place true at b (SetField line k e rest) is h = absurd h
behind_place false at b (Fail code rest) is h = absurd h
behind_place true at b (Fail code rest) is h = absurd h
behind_place false at b (Return e rest) is h = absurd h
behind_place true at b (Return e rest) is h = absurd h

pub pauses_from : (p : List CheckedMethod) (call : Caller) → Rises call → (own m : ℕ) (b : Code ℕ ℕ) (qs : List Spot) (next : ℕ) (vs : List ℤ) (s : State) (n : ℕ) (r : Progress) → IsPlace p m b qs next → HasReached own s n r
    → resumed call own b qs next vs r ≡ block_goes own b call r (pause_from own b qs next vs s n)
pauses_from p call rises own m b [] next vs s n r place h = pauses call rises own (behind_some next b) b next refl vs s n r h
pauses_from p call rises own m b (q ∷ qs) next vs s n r place h =
    let c = behind_some q.at b in
    let behind_it = block_pause own (place_behind q.at c) (after_inner c) in
    ap (λ (o : R). keeping q.keep o (block call own (after_inner c))) (pauses_from p call rises own m (inner_of q.other c) qs next vs s n r place.1 h)
    ∙ inner_goes own q (inner_of q.other c) (after_inner c) b call r (pause_from own (inner_of q.other c) qs next vs s n) (block_pause own (place_behind q.at c) (after_inner c)) refl refl (λ ws t j.
    pauses call rises own (after_inner c) b (place_behind q.at c) (behind_place q.other q.at b c refl place.0) ws t j (moved own t j r) (at_moved own s t n j r h)
    ∙ again own b call r t j (block_pause own (place_behind q.at c) (after_inner c) ws t j))

-- ---- laws

given_after : (o : Result (ℤ × Progress) ℕ) (f : ℤ × Progress → R) → given (o >>= f) ≡ (o >>= λ x. given (f x))
given_after (Ok x) f = refl
given_after (Err code) f = refl

given_so : (call : Caller) (own : ℕ) (body : Code ℕ ℕ) (f : Standing) (r : Progress) (x : Pause) → resumed call own body f.path f.next f.variables r ≡ block_goes own body call r x → gives call own body f r ≡ goes_on call own body r (given_at_end x)
given_so call own body f r (Through vs t k) e = ap given e
given_so call own body f r (Returned v t k) e = ap given e
given_so call own body f r (Calling target m arguments g t k) e = ap given e ∙ given_after (call target m arguments (moved own t k r)) (λ x. resumed call own body g.path g.next (g.variables ++ x.0 ∷ []) x.1)
given_so call own body f r (Failed code t k) e = ap given e

pub as_meant : PausesAsMeant
as_meant p call own more body f s n r rises place h =
    given_so call own body f r (pause_from own body f.path f.next f.variables s n) (pauses_from p call rises own more body f.path f.next f.variables s n r place h)

counted_at_end : (n : ℕ) (x : Pause) → IsCounted n x → IsCounted n (given_at_end x)
counted_at_end n (Through vs t k) h = h
counted_at_end n (Returned v t k) h = h
counted_at_end n (Calling target m arguments g t k) h = h
counted_at_end n (Failed code t k) h = h

pub rising_counts : CountsRise
rising_counts own body f s n few = counted_at_end n (pause_from own body f.path f.next f.variables s n) (from_counts own body f.path f.next f.variables s n few)
