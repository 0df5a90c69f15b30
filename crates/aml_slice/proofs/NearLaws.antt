-- With the others as the meaning has them, what the own actor sees is the meaning.
use Rattle.std.proofs.Common.{◌≡◌, ℕ, zero, suc, ◌==◌, Bool, true, false, if◌then◌else◌, ℤ, Result, List, [], ◌∷◌, length, refl, ap, ◌∙◌}
use mathlib.Core.Path.{fun_ext}
use Rattle.snap_base.specs.declared.transactions.State.{State}
use Rattle.aml_tree.specs.Tree.{CheckedMethod}
use Rattle.aml_check.specs.Names.{method_at}
use Rattle.aml_check.specs.Meaning.{◌>>=◌, Progress, Caller, called, actor_of, admitted, block, given}
use Rattle.aml_slice.specs.Controls.{Frame, Rest, progress_in, with_given}
use Rattle.aml_slice.specs.Wholes.{Callers, frame_gives, value_to, rest_gives}
use Rattle.aml_slice.specs.Moments.{Others, by_actor, near, value_near, gives_near, elsewhere, as_meant}
use Rattle.aml_slice.proofs.Binding.{same_either}

same_callers : (c d : Caller) → ((target : ℤ) (m : ℕ) (arguments : List ℤ) (r : Progress) → c target m arguments r ≡ d target m arguments r) → c ≡ d
same_callers c d h = fun_ext (λ target. fun_ext (λ m. fun_ext (λ arguments. fun_ext (λ r. h target m arguments r))))

by_actor_meant : (p : List CheckedMethod) (own : ℕ) (fs : List Frame) (inside : Caller) (more : ℕ) → inside ≡ called p more → (a m : ℕ) (arguments : List ℤ) (r : Progress)
    → by_actor p own (as_meant p fs) inside more a m arguments r ≡ given (block (called p more) a (method_at p m).body arguments r)
by_actor_meant p own fs inside more e a m arguments r =
    ap (λ (c : Caller). by_actor p own (as_meant p fs) c more a m arguments r) e ∙ same_either (a == own) (given (block (called p more) a (method_at p m).body arguments r))

pub near_meant : (p : List CheckedMethod) (own : ℕ) (fs : List Frame) (more : ℕ) → near p own (as_meant p fs) more ≡ called p more
near_meant p own fs zero = same_callers _ _ (λ target m arguments r. refl)
near_meant p own fs (suc more) = same_callers _ _ (λ target m arguments r.
    let inside : near p own (as_meant p fs) more ≡ called p more = near_meant p own fs more in
    let each : (λ (a : ℕ). admitted a r >>= λ (q : Progress). by_actor p own (as_meant p fs) (near p own (as_meant p fs) more) more a m arguments q)
    ≡ (λ (a : ℕ). admitted a r >>= λ (q : Progress). given (block (called p more) a (method_at p m).body arguments q)) =
    fun_ext (λ a. ap (λ (f : Progress → Result (ℤ × Progress) ℕ). admitted a r >>= f) (fun_ext (λ q. by_actor_meant p own fs (near p own (as_meant p fs) more) more inside a m arguments q))) in
    ap (λ (f : ℕ → Result (ℤ × Progress) ℕ). actor_of (length r.world) target >>= f) each)

frame_meant : (p : List CheckedMethod) (own : ℕ) (fs : List Frame) (below : ℕ) (f : Frame) (r : Progress) → frame_gives (near p own (as_meant p fs)) p below f r ≡ frame_gives (called p) p below f r
frame_meant p own fs below f r = ap (λ (cs : Callers). frame_gives cs p below f r) (fun_ext (λ n. near_meant p own fs n))

value_by : (p : List CheckedMethod) (own : ℕ) (f : Frame) (fs : List Frame) (v : ℤ) (r : Progress) (b : Bool)
    → ((x : ℤ × Progress) → value_near p own (as_meant p (elsewhere own fs)) fs x.0 x.1 ≡ value_to (called p) p fs x.0 x.1)
    → (let o : Others = as_meant p (if b then elsewhere own fs else f ∷ fs) in
    (if b then (frame_gives (near p own o) p (length fs) (with_given f v) r >>= λ x. value_near p own o fs x.0 x.1) else o.back v r) ≡ value_to (called p) p (f ∷ fs) v r)
value_by p own f fs v r true h =
    ap (λ (k : Result (ℤ × Progress) ℕ). k >>= λ x. value_near p own (as_meant p (elsewhere own fs)) fs x.0 x.1) (frame_meant p own (elsewhere own fs) (length fs) (with_given f v) r)
    ∙ ap (λ (k : ℤ × Progress → Result (ℤ × Progress) ℕ). frame_gives (called p) p (length fs) (with_given f v) r >>= k) (fun_ext h)
value_by p own f fs v r false h = refl

-- frames that wait make of a value what the meaning makes of it
pub value_meant : (p : List CheckedMethod) (own : ℕ) (fs : List Frame) (v : ℤ) (r : Progress) → value_near p own (as_meant p (elsewhere own fs)) fs v r ≡ value_to (called p) p fs v r
value_meant p own [] v r = refl
value_meant p own (f ∷ fs) v r = value_by p own f fs v r (f.actor == own) (λ x. value_meant p own fs x.0 x.1)

-- the rest of a transaction gives what the meaning gives
pub gives_meant : (p : List CheckedMethod) (c : Rest) (w : List State) → gives_near p (as_meant p (elsewhere c.top.actor c.waiting)) c w ≡ rest_gives p c w
gives_meant p c w =
    ap (λ (k : Result (ℤ × Progress) ℕ). k >>= λ x. value_near p c.top.actor (as_meant p (elsewhere c.top.actor c.waiting)) c.waiting x.0 x.1) (frame_meant p c.top.actor (elsewhere c.top.actor c.waiting) (length c.waiting) c.top (progress_in c w))
    ∙ ap (λ (k : ℤ × Progress → Result (ℤ × Progress) ℕ). frame_gives (called p) p (length c.waiting) c.top (progress_in c w) >>= k) (fun_ext (λ x. value_meant p c.top.actor c.waiting x.0 x.1))
