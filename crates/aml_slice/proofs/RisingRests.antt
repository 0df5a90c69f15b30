-- The rests of transactions take no statements back.
use Rattle.std.proofs.Common.{◌≡◌, ℕ, zero, suc, ◌-◌, ◌≤◌, ◌==◌, Bool, true, false, if◌then◌else◌, ℤ, Result, Ok, Err, List, [], ◌∷◌, length, refl, arith}
use Rattle.aml_tree.specs.Tree.{Code, CheckedMethod}
use Rattle.aml_check.specs.Names.{method_at}
use Rattle.aml_check.specs.Meaning.{◌>>=◌, Progress, Exit, Goes, Gives, Caller, block, given, called, actor_of, admitted, too_deep}
use Rattle.aml_resume.specs.declared.places.Spot.{Spot}
use Rattle.aml_resume.specs.Places.{behind_some, inner_of, after_inner}
use Rattle.aml_resume.specs.Resuming.{AtLeast, BlocksRise, CallsRise, keeping, resumed, Rises}
use Rattle.aml_resume.proofs.Rising.{by_equation, of_equation, fewer, after_any, after_both, given_rises, refused_by}
use Rattle.aml_slice.specs.Controls.{Frame, with_given}
use Rattle.aml_slice.specs.Wholes.{Callers, frame_gives, value_to}
use Rattle.aml_slice.specs.Moments.{Others, Rise, near, as_meant}
use Rattle.aml_slice.proofs.Admissions.{admits}

-- ---- by parts

-- a call that is admitted counts no statement
after_admission : {B : Type 0} (a : ℕ) (r : Progress) (f : Progress → Result (B × Progress) ℕ) → ((q : Progress) → r.statements ≤ q.statements → AtLeast r.statements (f q)) → (o : Result Progress ℕ) → admitted a r ≡ o → AtLeast r.statements (o >>= f)
after_admission a r f h (Ok q) e = h q (let same = (admits a r q e).statements in omega (arith, same))
after_admission a r f h (Err code) e = tt

-- ---- rests

keeping_rises : (n k : ℕ) (o : Result (Exit × Progress) ℕ) (next : List ℤ → Progress → Result (Exit × Progress) ℕ) → AtLeast n o → ((ws : List ℤ) (q : Progress) → n ≤ q.statements → AtLeast n (next ws q)) → AtLeast n (keeping k o next)
keeping_rises n k (Ok (Goes inner, r)) next h on = on _ r h
keeping_rises n k (Ok (Gives v, r)) next h on = h
keeping_rises n k (Err code) next h on = tt

resumed_rises : BlocksRise → (call : Caller) → Rises call → (own : ℕ) (b : Code ℕ ℕ) (path : List Spot) (next : ℕ) (vs : List ℤ) (r : Progress) → AtLeast r.statements (resumed call own b path next vs r)
resumed_rises blocks call rising own b [] next vs r = blocks call rising own (behind_some next b) vs r
resumed_rises blocks call rising own b (q ∷ qs) next vs r =
    keeping_rises r.statements q.keep (resumed call own (inner_of q.other (behind_some q.at b)) qs next vs r) (block call own (after_inner (behind_some q.at b)))
    (resumed_rises blocks call rising own (inner_of q.other (behind_some q.at b)) qs next vs r)
    (λ ws z l. fewer r.statements z.statements (block call own (after_inner (behind_some q.at b)) ws z) l (blocks call rising own (after_inner (behind_some q.at b)) ws z))

frame_rises : BlocksRise → (callers : Callers) → ((n : ℕ) → Rises (callers n)) → (p : List CheckedMethod) (below : ℕ) (f : Frame) (r : Progress) → AtLeast r.statements (frame_gives callers p below f r)
frame_rises blocks callers rising p below f r =
    given_rises r.statements (resumed (callers (15 - below)) f.actor (method_at p f.method).body f.standing.path f.standing.next f.standing.variables r)
    (resumed_rises blocks (callers (15 - below)) (rising (15 - below)) f.actor (method_at p f.method).body f.standing.path f.standing.next f.standing.variables r)

value_rises : BlocksRise → (callers : Callers) → ((n : ℕ) → Rises (callers n)) → (p : List CheckedMethod) (fs : List Frame) (v : ℤ) (r : Progress) → AtLeast r.statements (value_to callers p fs v r)
value_rises blocks callers rising p [] v r = omega arith
value_rises blocks callers rising p (f ∷ fs) v r =
    after_both r.statements (frame_gives callers p (length fs) (with_given f v) r) (λ x. value_to callers p fs x.0 x.1)
    (frame_rises blocks callers rising p (length fs) (with_given f v) r)
    (λ x l. fewer r.statements x.1.statements (value_to callers p fs x.0 x.1) l (value_rises blocks callers rising p fs x.0 x.1))

-- others as the meaning has them
pub as_meant_rise : BlocksRise → CallsRise → (p : List CheckedMethod) (fs : List Frame) → Rise (as_meant p fs)
as_meant_rise blocks calls p fs = record {
  call = λ more a m arguments r q v e.
      of_equation r.statements _ v q (given_rises r.statements (block (called p more) a (method_at p m).body arguments r) (blocks (called p more) (calls p more) a (method_at p m).body arguments r)) e;
  back = λ x r q v e. of_equation r.statements (value_to (called p) p fs x r) v q (value_rises blocks (called p) (calls p) p fs x r) e;
}

by_actor_rises : BlocksRise → (p : List CheckedMethod) (own : ℕ) (o : Others) → Rise o → (inside : Caller) → Rises inside → (more a m : ℕ) (arguments : List ℤ) (r : Progress) (b : Bool)
    → AtLeast r.statements (if b then given (block inside a (method_at p m).body arguments r) else o.call more a m arguments r)
by_actor_rises blocks p own o rise inside rising more a m arguments r true =
    given_rises r.statements (block inside a (method_at p m).body arguments r) (blocks inside rising a (method_at p m).body arguments r)
by_actor_rises blocks p own o rise inside rising more a m arguments r false = by_equation r.statements (o.call more a m arguments r) (λ v q e. rise.call more a m arguments r q v e)

near_by : BlocksRise → (p : List CheckedMethod) (own : ℕ) (o : Others) → Rise o → (more : ℕ) → Rises (near p own o more) → (target : ℤ) (m : ℕ) (arguments : List ℤ) (r : Progress) → AtLeast r.statements (near p own o (suc more) target m arguments r)
near_by blocks p own o rise more rising target m arguments r =
    after_any r.statements (actor_of (length r.world) target) _ (λ a.
    after_admission a r _ (λ q k.
    fewer r.statements q.statements _ k (by_actor_rises blocks p own o rise (near p own o more) rising more a m arguments q (a == own))) (admitted a r) refl)

-- calls as the own actor sees them
pub near_rises : BlocksRise → (p : List CheckedMethod) (own : ℕ) (o : Others) → Rise o → (more : ℕ) → Rises (near p own o more)
near_rises blocks p own o rise zero target m arguments r q v e = refused_by (actor_of (length r.world) target) too_deep v q r.statements e
near_rises blocks p own o rise (suc more) target m arguments r q v e =
    of_equation r.statements _ v q (near_by blocks p own o rise more (near_rises blocks p own o rise more) target m arguments r) e
