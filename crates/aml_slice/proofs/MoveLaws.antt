-- What one move gives: the end, a call, or a return, each on the own actor or on another.
use Rattle.std.proofs.Common.{◌≡◌, ◌≢◌, ℕ, zero, suc, ◌+◌, ◌-◌, ◌<◌, inl, inr, Bool, if◌then◌else◌, ℤ, Result, Ok, Err, List, [], ◌∷◌, length, set, refl, sym, ap, ◌∙◌, arith}
use mathlib.Core.Path.{fun_ext}
use Rattle.std.proofs.lemmas.List.{length-set}
use Rattle.std.proofs.lemmas.Bool.{eq-eqb, ne_eqb}
use Rattle.snap_base.specs.declared.transactions.State.{State}
use Rattle.snap_base.specs.declared.transactions.TxResult.TheVariants as result
use Rattle.aml_tree.specs.Tree.{CheckedMethod}
use Rattle.aml_check.specs.Names.{method_at}
use Rattle.aml_check.specs.Meaning.{◌>>=◌, Progress, actor_of, admitted, too_deep, block, given}
use Rattle.aml_resume.specs.declared.exits.Exit.{Exit}
use Rattle.aml_resume.specs.declared.exits.Exit.TheVariants as exit
use Rattle.aml_resume.specs.Places.{Standing, with_value}
use Rattle.aml_resume.specs.Resuming.{gives, moved}
use Rattle.aml_slice.specs.Controls.{Frame, Rest, progress_in, with_given, fresh}
use Rattle.aml_slice.specs.Wholes.{frame_gives, Holds}
use Rattle.aml_slice.specs.Moments.{Others, Rise, by_actor, near, value_near, gives_near, elsewhere, EndsWith, CallsAway, ReturnsAway}
use Rattle.aml_slice.specs.Views.{NextFrame, Enters, RefusesCall}
use Rattle.aml_slice.proofs.Moving.{Ran, GoesOn}
use Rattle.aml_slice.proofs.Binding.{bind_assoc}
use Rattle.aml_slice.proofs.RisingRests.{near_rises}
use Rattle.aml_slice.proofs.Worlds.{holds_at}

-- a frame that runs on an actor, above others that wait
abbrev stands : List CheckedMethod → ℕ → Others → Frame → List Frame → Progress → Result (ℤ × Progress) ℕ
stands p a o f fs r = frame_gives (near p a o) p (length fs) f r >>= λ x. value_near p a o fs x.0 x.1

abbrev by_test : List CheckedMethod → ℕ → Others → Frame → List Frame → ℤ → Progress → Bool → Result (ℤ × Progress) ℕ
by_test p own o f fs v r b = if b then stands p own o (with_given f v) fs r else o.back v r

value_own : (p : List CheckedMethod) (own : ℕ) (o : Others) (f : Frame) (fs : List Frame) (v : ℤ) (r : Progress) → f.actor ≡ own → value_near p own o (f ∷ fs) v r ≡ stands p own o (with_given f v) fs r
value_own p own o f fs v r same = ap (by_test p own o f fs v r) (eq-eqb f.actor own same)

value_away : (p : List CheckedMethod) (own : ℕ) (o : Others) (f : Frame) (fs : List Frame) (v : ℤ) (r : Progress) → f.actor ≢ own → value_near p own o (f ∷ fs) v r ≡ o.back v r
value_away p own o f fs v r other = ap (by_test p own o f fs v r) (ne_eqb f.actor own other)

elsewhere_own : (own : ℕ) (f : Frame) (fs : List Frame) → f.actor ≡ own → elsewhere own (f ∷ fs) ≡ elsewhere own fs
elsewhere_own own f fs same = ap (λ (b : Bool). if b then elsewhere own fs else f ∷ fs) (eq-eqb f.actor own same)

elsewhere_away : (own : ℕ) (f : Frame) (fs : List Frame) → f.actor ≢ own → elsewhere own (f ∷ fs) ≡ f ∷ fs
elsewhere_away own f fs other = ap (λ (b : Bool). if b then elsewhere own fs else f ∷ fs) (ne_eqb f.actor own other)

-- ---- the run of the frame

-- the run so far, with the new state
run_then : (p : List CheckedMethod) (c d : Rest) (s t : State) (arguments : List ℤ) (e : Result Exit ℕ) → Ran p c d s t arguments e → (w : List State) → moved c.top.actor t d.statements (progress_in c w) ≡ progress_in d (set w c.top.actor t)
run_then p c d s t arguments e ran w =
    sym (ap (λ (z : Rest). let q : Progress = record { world = set w c.top.actor t; statements = d.statements; calls = z.calls; actors = z.actors; left = z.left } in q) ran.others)

waiting_then : (p : List CheckedMethod) (c d : Rest) (s t : State) (arguments : List ℤ) (e : Result Exit ℕ) → Ran p c d s t arguments e → d.waiting ≡ c.waiting
waiting_then p c d s t arguments e ran = ap (λ (z : Rest). z.waiting) ran.others

gave : (p : List CheckedMethod) (count : ℕ) (c d : Rest) (s t : State) (arguments : List ℤ) (v : ℤ) → Ran p c d s t arguments (Ok (exit.Gives v)) → c.top.actor < count
    → (o : Others) → Rise o → (w : List State) → Holds count c.top.actor s w → gives_near p o c w ≡ value_near p c.top.actor o d.waiting v (progress_in d (set w c.top.actor t))
gave p count c d s t arguments v ran known o rise w h =
    let own = c.top.actor in
    ap (λ (k : Result (ℤ × Progress) ℕ). k >>= λ x. value_near p c.top.actor o c.waiting x.0 x.1)
    (ran.runs (near p c.top.actor o (15 - length c.waiting)) (near_rises ran.blocks p c.top.actor o rise (15 - length c.waiting)) (progress_in c w) (holds_at count c.top.actor s c w known h))
    ∙ ap (value_near p c.top.actor o c.waiting v) (run_then p c d s t arguments (Ok (exit.Gives v)) ran w)
    ∙ ap (λ (fs : List Frame). value_near p c.top.actor o fs v (progress_in d (set w c.top.actor t))) (sym (waiting_then p c d s t arguments (Ok (exit.Gives v)) ran))

-- ---- the end

pub fails : (p : List CheckedMethod) (count : ℕ) (c d : Rest) (s t : State) (arguments : List ℤ) (code : ℕ) → Ran p c d s t arguments (Err code) → c.top.actor < count → EndsWith p count c s t (result.Fail code)
fails p count c d s t arguments code ran known o rise w h =
    ap (λ (k : Result (ℤ × Progress) ℕ). k >>= λ x. value_near p c.top.actor o c.waiting x.0 x.1)
    (ran.runs (near p c.top.actor o (15 - length c.waiting)) (near_rises ran.blocks p c.top.actor o rise (15 - length c.waiting)) (progress_in c w) (holds_at count c.top.actor s c w known h))

pub ends : (p : List CheckedMethod) (count : ℕ) (c d : Rest) (s t : State) (arguments : List ℤ) (v : ℤ) → Ran p c d s t arguments (Ok (exit.Gives v)) → c.top.actor < count → d.waiting ≡ [] → EndsWith p count c s t (result.Value v)
ends p count c d s t arguments v ran known none o rise w h = (
  progress_in d (set w c.top.actor t),
  gave p count c d s t arguments v ran known o rise w h ∙ ap (λ (fs : List Frame). value_near p c.top.actor o fs v (progress_in d (set w c.top.actor t))) none,
  refl,
)

-- ---- a return

returned : (p : List CheckedMethod) (o : Others) (d e : Rest) (v : ℤ) (f : Frame) (w : List State) → e ≡ record d { top = with_given f v; waiting = e.waiting } → stands p f.actor o (with_given f v) e.waiting (progress_in d w) ≡ gives_near p o e w
returned p o d e v f w is = sym (ap (λ (z : Rest). stands p z.top.actor o z.top e.waiting (let q : Progress = record { world = w; statements = z.statements; calls = z.calls; actors = z.actors; left = z.left } in q)) is)

pub return_stays : (p : List CheckedMethod) (count : ℕ) (c d e : Rest) (s t : State) (arguments : List ℤ) (v : ℤ) (a : ℕ) → Ran p c d s t arguments (Ok (exit.Gives v)) → c.top.actor < count → NextFrame d e v a → a ≡ c.top.actor → GoesOn p count c s t e
return_stays p count c d e s t arguments v a ran known next stays =
    let f = next.0 in
    let same : f.actor ≡ c.top.actor = sym next.3 ∙ stays in
    record {
      gives = λ o rise w h.
          gave p count c d s t arguments v ran known o rise w h
          ∙ ap (λ (fs : List Frame). value_near p c.top.actor o fs v (progress_in d (set w c.top.actor t))) next.1
          ∙ value_own p c.top.actor o f e.waiting v (progress_in d (set w c.top.actor t)) same
          ∙ ap (λ (b : ℕ). stands p b o (with_given f v) e.waiting (progress_in d (set w c.top.actor t))) (sym same)
          ∙ returned p o d e v f (set w c.top.actor t) next.2;
      below = sym (elsewhere_own c.top.actor f e.waiting same) ∙ ap (elsewhere c.top.actor) (sym next.1 ∙ waiting_then p c d s t arguments (Ok (exit.Gives v)) ran);
    }

pub return_away : (p : List CheckedMethod) (count : ℕ) (c d e : Rest) (s t : State) (arguments : List ℤ) (v : ℤ) (a : ℕ) → Ran p c d s t arguments (Ok (exit.Gives v)) → c.top.actor < count → NextFrame d e v a → a ≢ c.top.actor → ReturnsAway p count c s t e
return_away p count c d e s t arguments v a ran known next away =
    let f = next.0 in
    let other : f.actor ≢ c.top.actor = λ same. away (next.3 ∙ same) in
    record {
      value = v;
      frame = f;
      waited = ap (elsewhere c.top.actor) (sym (waiting_then p c d s t arguments (Ok (exit.Gives v)) ran) ∙ next.1) ∙ elsewhere_away c.top.actor f e.waiting other;
      takes = ap (λ (z : Rest). z.top) next.2;
      gives = λ o rise w h.
          gave p count c d s t arguments v ran known o rise w h
          ∙ ap (λ (fs : List Frame). value_near p c.top.actor o fs v (progress_in d (set w c.top.actor t))) next.1
          ∙ value_away p c.top.actor o f e.waiting v (progress_in d (set w c.top.actor t)) other
          ∙ ap (o.back v) (sym (ap (λ (z : Rest). let q : Progress = record { world = set w c.top.actor t; statements = z.statements; calls = z.calls; actors = z.actors; left = z.left } in q) next.2));
    }

-- ---- a call

abbrev behind_call : List CheckedMethod → Rest → Others → Rest → ℤ × Progress → Result (ℤ × Progress) ℕ
behind_call p c o z x = value_near p c.top.actor o (z.top ∷ z.waiting) x.0 x.1

asked_there : (p : List CheckedMethod) (c : Rest) (o : Others) (g : Standing) (k : ℕ) (x : ℤ × Progress)
    → (gives (near p c.top.actor o (15 - length c.waiting)) c.top.actor (method_at p c.top.method).body (with_value g x.0) x.1 >>= λ y. value_near p c.top.actor o c.waiting y.0 y.1)
    ≡ behind_call p c o (record c { top = record c.top { standing = g }; statements = k }) x
asked_there p c o g k x = sym (value_own p c.top.actor o (record c.top { standing = g }) c.waiting x.0 x.1 refl)

asked : (p : List CheckedMethod) (count : ℕ) (c d : Rest) (s t : State) (arguments : List ℤ) (target : ℤ) (m : ℕ) → Ran p c d s t arguments (Ok (exit.Asks target m)) → c.top.actor < count
    → (o : Others) → Rise o → (w : List State) → Holds count c.top.actor s w
    → gives_near p o c w ≡ (near p c.top.actor o (15 - length d.waiting) target m arguments (progress_in d (set w c.top.actor t)) >>= behind_call p c o d)
asked p count c d s t arguments target m ran known o rise w h =
    let n = 15 - length c.waiting in
    let g = d.top.standing in
    ap (λ (k : Result (ℤ × Progress) ℕ). k >>= λ x. value_near p c.top.actor o c.waiting x.0 x.1)
    (ran.runs (near p c.top.actor o (15 - length c.waiting)) (near_rises ran.blocks p c.top.actor o rise (15 - length c.waiting)) (progress_in c w) (holds_at count c.top.actor s c w known h))
    ∙ bind_assoc (near p c.top.actor o (15 - length c.waiting) target m arguments (moved c.top.actor t d.statements (progress_in c w))) (λ x. gives (near p c.top.actor o (15 - length c.waiting)) c.top.actor (method_at p c.top.method).body (with_value d.top.standing x.0) x.1) (λ x. value_near p c.top.actor o c.waiting x.0 x.1)
    ∙ ap (λ (k : ℤ × Progress → Result (ℤ × Progress) ℕ). near p c.top.actor o (15 - length c.waiting) target m arguments (moved c.top.actor t d.statements (progress_in c w)) >>= k) (fun_ext (λ x. asked_there p c o d.top.standing d.statements x))
    ∙ ap (λ (z : Rest). near p c.top.actor o (15 - length z.waiting) target m arguments (moved c.top.actor t d.statements (progress_in c w)) >>= behind_call p c o z) (sym ran.others)
    ∙ ap (λ (q : Progress). near p c.top.actor o (15 - length d.waiting) target m arguments q >>= behind_call p c o d) (run_then p c d s t arguments (Ok (exit.Asks target m)) ran w)

-- ---- refused

near_no_actor : (p : List CheckedMethod) (own : ℕ) (o : Others) (n : ℕ) (target : ℤ) (m : ℕ) (arguments : List ℤ) (r : Progress) (code : ℕ) → actor_of (length r.world) target ≡ Err code → near p own o n target m arguments r ≡ Err code
near_no_actor p own o zero target m arguments r code none = ap (λ (x : Result ℕ ℕ). let y : Result (ℤ × Progress) ℕ = (x >>= λ a. Err too_deep) in y) none
near_no_actor p own o (suc n) target m arguments r code none = ap (λ (x : Result ℕ ℕ). x >>= λ a. admitted a r >>= λ q. by_actor p own o (near p own o n) n a m arguments q) none

near_deep : (p : List CheckedMethod) (own : ℕ) (o : Others) (n : ℕ) (target : ℤ) (m : ℕ) (arguments : List ℤ) (r : Progress) (a : ℕ) → n ≡ 0 → actor_of (length r.world) target ≡ Ok a → near p own o n target m arguments r ≡ Err too_deep
near_deep p own o zero target m arguments r a none is = ap (λ (x : Result ℕ ℕ). let y : Result (ℤ × Progress) ℕ = (x >>= λ a. Err too_deep) in y) is
near_deep p own o (suc n) target m arguments r a none is = absurd (omega arith)

near_more : (p : List CheckedMethod) (own : ℕ) (o : Others) (n k : ℕ) (target : ℤ) (m : ℕ) (arguments : List ℤ) (r : Progress) (a : ℕ) → n ≡ k + 1 → actor_of (length r.world) target ≡ Ok a
    → near p own o n target m arguments r ≡ (admitted a r >>= λ q. by_actor p own o (near p own o k) k a m arguments q)
near_more p own o zero k target m arguments r a more is = absurd (omega arith)
near_more p own o (suc n) k target m arguments r a more is =
    ap (λ (x : Result ℕ ℕ). x >>= λ a. admitted a r >>= λ q. by_actor p own o (near p own o n) n a m arguments q) is
    ∙ ap (λ (j : ℕ). admitted a r >>= λ q. by_actor p own o (near p own o j) j a m arguments q) (let same : n ≡ k = omega arith in same)

size_then : (count own : ℕ) (s t : State) (w : List State) → Holds count own s w → length (set w own t) ≡ count
size_then count own s t w h = length-set w own t ∙ h.size

there : (count : ℕ) (target : ℤ) (w : List State) (x : Result ℕ ℕ) → length w ≡ count → actor_of count target ≡ x → actor_of (length w) target ≡ x
there count target w x size is = ap (λ n. actor_of n target) size ∙ is

near_refused : (p : List CheckedMethod) (count own : ℕ) (o : Others) (d : Rest) (target : ℤ) (m : ℕ) (arguments : List ℤ) (code : ℕ) (w : List State) → length w ≡ count → RefusesCall count d target code
    → near p own o (15 - length d.waiting) target m arguments (progress_in d w) ≡ Err code
near_refused p count own o d target m arguments code w size (inl none) = near_no_actor p own o (15 - length d.waiting) target m arguments (progress_in d w) code (there count target w (Err code) size none)
near_refused p count own o d target m arguments code w size (inr (a, is, inl deep)) =
    near_deep p own o (15 - length d.waiting) target m arguments (progress_in d w) a (omega (arith, deep.0)) (there count target w (Ok a) size is) ∙ ap (λ n. Err n) (sym deep.1)
near_refused p count own o d target m arguments code w size (inr (a, is, inr stops)) =
    near_more p own o (15 - length d.waiting) (14 - length d.waiting) target m arguments (progress_in d w) a (omega (arith, stops.0)) (there count target w (Ok a) size is)
    ∙ ap (λ (x : Result Progress ℕ). x >>= λ q. by_actor p own o (near p own o (14 - length d.waiting)) (14 - length d.waiting) a m arguments q) (stops.1 w)

pub refused : (p : List CheckedMethod) (count : ℕ) (c d : Rest) (s t : State) (arguments : List ℤ) (target : ℤ) (m code : ℕ) → Ran p c d s t arguments (Ok (exit.Asks target m)) → c.top.actor < count → RefusesCall count d target code → EndsWith p count c s t (result.Fail code)
refused p count c d s t arguments target m code ran known why o rise w h =
    asked p count c d s t arguments target m ran known o rise w h
    ∙ ap (λ (x : Result (ℤ × Progress) ℕ). x >>= behind_call p c o d) (near_refused p count c.top.actor o d target m arguments code (set w c.top.actor t) (size_then count c.top.actor s t w h) why)

-- ---- admitted

entered : (p : List CheckedMethod) (count own : ℕ) (o : Others) (d e : Rest) (target : ℤ) (m : ℕ) (arguments : List ℤ) (a : ℕ) (w : List State) → length w ≡ count → Enters count d e target m arguments a
    → near p own o (15 - length d.waiting) target m arguments (progress_in d w) ≡ by_actor p own o (near p own o (15 - length e.waiting)) (15 - length e.waiting) a m arguments (progress_in e w)
entered p count own o d e target m arguments a w size enters =
    near_more p own o (15 - length d.waiting) (15 - length e.waiting) target m arguments (progress_in d w) a (omega (arith, enters.few, ap length enters.frames.1)) (there count target w (Ok a) size enters.actor)
    ∙ ap (λ (x : Result Progress ℕ). x >>= λ q. by_actor p own o (near p own o (15 - length e.waiting)) (15 - length e.waiting) a m arguments q) (enters.admits w)

call_below : (p : List CheckedMethod) (count : ℕ) (c d e : Rest) (s t : State) (arguments : List ℤ) (target : ℤ) (m a : ℕ) → Ran p c d s t arguments (Ok (exit.Asks target m)) → Enters count d e target m arguments a → elsewhere c.top.actor e.waiting ≡ elsewhere c.top.actor c.waiting
call_below p count c d e s t arguments target m a ran enters =
    ap (elsewhere c.top.actor) enters.frames.1
    ∙ elsewhere_own c.top.actor d.top d.waiting (ap (λ (z : Rest). z.top.actor) ran.others)
    ∙ ap (elsewhere c.top.actor) (waiting_then p c d s t arguments (Ok (exit.Asks target m)) ran)

pub call_stays : (p : List CheckedMethod) (count : ℕ) (c d e : Rest) (s t : State) (arguments : List ℤ) (target : ℤ) (m a : ℕ) → Ran p c d s t arguments (Ok (exit.Asks target m)) → c.top.actor < count → Enters count d e target m arguments a → a ≡ c.top.actor → GoesOn p count c s t e
call_stays p count c d e s t arguments target m a ran known enters stays = record {
  gives = λ o rise w h.
      asked p count c d s t arguments target m ran known o rise w h
      ∙ ap (λ (x : Result (ℤ × Progress) ℕ). x >>= behind_call p c o d)
      (entered p count c.top.actor o d e target m arguments a (set w c.top.actor t) (size_then count c.top.actor s t w h) enters
      ∙ ap (λ (b : Bool). if b then given (block (near p c.top.actor o (15 - length e.waiting)) a (method_at p m).body arguments (progress_in e (set w c.top.actor t))) else o.call (15 - length e.waiting) a m arguments (progress_in e (set w c.top.actor t))) (eq-eqb a c.top.actor stays))
      ∙ ap (λ (fs : List Frame). given (block (near p c.top.actor o (15 - length e.waiting)) a (method_at p m).body arguments (progress_in e (set w c.top.actor t))) >>= λ x. value_near p c.top.actor o fs x.0 x.1) (sym enters.frames.1)
      ∙ ap (λ (b : ℕ). stands p b o (fresh a m arguments) e.waiting (progress_in e (set w c.top.actor t))) (sym stays)
      ∙ ap (λ (f : Frame). stands p f.actor o f e.waiting (progress_in e (set w c.top.actor t))) (sym enters.frames.0);
  below = call_below p count c d e s t arguments target m a ran enters;
}

pub call_away : (p : List CheckedMethod) (count : ℕ) (c d e : Rest) (s t : State) (arguments : List ℤ) (target : ℤ) (m a : ℕ) → Ran p c d s t arguments (Ok (exit.Asks target m)) → c.top.actor < count → Enters count d e target m arguments a → a ≢ c.top.actor → CallsAway p count c s t e
call_away p count c d e s t arguments target m a ran known enters away = record {
  begins = (ap (λ (f : Frame). f.standing.path) enters.frames.0, ap (λ (f : Frame). f.standing.next) enters.frames.0);
  below = call_below p count c d e s t arguments target m a ran enters;
  gives = λ o rise w h.
      asked p count c d s t arguments target m ran known o rise w h
      ∙ ap (λ (x : Result (ℤ × Progress) ℕ). x >>= behind_call p c o d)
      (entered p count c.top.actor o d e target m arguments a (set w c.top.actor t) (size_then count c.top.actor s t w h) enters
      ∙ ap (λ (b : Bool). if b then given (block (near p c.top.actor o (15 - length e.waiting)) a (method_at p m).body arguments (progress_in e (set w c.top.actor t))) else o.call (15 - length e.waiting) a m arguments (progress_in e (set w c.top.actor t))) (ne_eqb a c.top.actor away))
      ∙ ap (λ (fs : List Frame). o.call (15 - length e.waiting) a m arguments (progress_in e (set w c.top.actor t)) >>= λ x. value_near p c.top.actor o fs x.0 x.1) (sym enters.frames.1)
      ∙ ap (λ (f : Frame). o.call (15 - length e.waiting) f.actor f.method f.standing.variables (progress_in e (set w c.top.actor t)) >>= λ x. value_near p c.top.actor o e.waiting x.0 x.1) (sym enters.frames.0);
}
