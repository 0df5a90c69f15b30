-- What a control keeps in one move.
use Rattle.std.proofs.Common.{◌≡◌, ℕ, ◌+◌, ◌<◌, ◌≤◌, inl, inr, ℤ, Ok, Option, List, [], ◌∷◌, length, sym, ap, ◌∙◌, subst, arith, length-append}
use Rattle.std.specs.List.{AllByRecursion, Contains}
use Rattle.snap_base.specs.declared.ids.ActorId.{ActorId}
use Rattle.snap_base.specs.declared.transactions.State.{State}
use Rattle.snap_base.proofs.Lists.{each_read, weaker}
use Rattle.aml_tree.specs.Tree.{Code, CheckedMethod}
use Rattle.aml_check.specs.Names.{method_at, no_method}
use Rattle.aml_check.specs.Closed.{IsClosedMethod, IsClosedProgram, nesting}
use Rattle.aml_resume.specs.declared.exits.Exit.TheVariants as exit
use Rattle.aml_resume.specs.declared.places.Spot.{Spot}
use Rattle.aml_resume.specs.Places.{IsPlace, IsRunnable, Standing, behind_some, inner_of}
use Rattle.aml_resume.specs.Pausing.{Calling, method_pause}
use Rattle.aml_resume.specs.Resuming.{IsAllowedPause, PausesWhereAllowed}
use Rattle.aml_resume.proofs.Behinds.{deep_inside, some_level}
use Rattle.aml_slice.specs.Controls.{Frame, Rest, IsFrame, IsRest, StandsOn, HasLeft, progress_in, with_given, fresh}
use Rattle.aml_slice.specs.Views.{NextFrame, HasPlace, Enters}
use Rattle.aml_slice.proofs.Moving.{Ran, Follows}
use Rattle.aml_slice.proofs.Admissions.{Admits, admits}

-- ---- frames

-- a value takes the place that was left for it
given_frame : (p : List CheckedMethod) (count : ℕ) (f : Frame) (v : ℤ) → IsFrame p count 1 f → IsFrame p count 0 (with_given f v)
given_frame p count f v h =
    let P : ℕ → Type 0 = λ n. IsPlace p n (method_at p f.method).body f.standing.path f.standing.next in
    record {
      known = h.known;
      has_method = h.has_method;
      place = subst P (omega (arith, length-append f.standing.variables (v ∷ []))) h.place;
    }

pub fresh_frame : (p : List CheckedMethod) (count a m : ℕ) (arguments : List ℤ) → IsClosedProgram p → a < count → m < length p → length arguments ≡ length (method_at p m).parameters → IsFrame p count 0 (fresh a m arguments)
fresh_frame p count a m arguments closed known has fits =
    let method = each_read (IsClosedMethod p) p m no_method closed.methods has in
    let P : ℕ → Type 0 = λ n. IsRunnable p n (method_at p m).body in
    record {
      known = known;
      has_method = has;
      place = subst P (omega (arith, fits)) (method.body, method.variables);
    }

-- ---- a return

record Waited (p : List CheckedMethod) (count : ℕ) (c : Rest) (f : Frame) (fs : List Frame) : Type 0 where
  frame : IsFrame p count 1 f
  frames : AllByRecursion (IsFrame p count 1) fs
  visited : Contains c.actors f.actor
  visited_below : AllByRecursion (λ (g : Frame). Contains c.actors g.actor) fs
  length_is : length c.waiting ≡ 1 + length fs
  stands : (a : ℕ) → StandsOn (f ∷ fs) a → StandsOn c.waiting a

waited : (p : List CheckedMethod) (count : ℕ) (c : Rest) (f : Frame) (fs : List Frame) → IsRest p count c → c.waiting ≡ f ∷ fs → Waited p count c f fs
waited p count c f fs is e =
    let all = subst (AllByRecursion (IsFrame p count 1)) e is.waiting in
    let below = subst (AllByRecursion (λ (g : Frame). Contains c.actors g.actor)) e is.visited_below in
    record {
      frame = all.0;
      frames = all.1;
      visited = below.0;
      visited_below = below.1;
      length_is = omega (arith, ap length e);
      stands = λ a h. (let P : List Frame → Type 0 = λ gs. StandsOn gs a in subst P (sym e) h);
    }

pub follows_return : (p : List CheckedMethod) (count : ℕ) (c d e : Rest) (s t : State) (arguments : List ℤ) (v : ℤ) (a : ℕ) → IsRest p count c → Ran p c d s t arguments (Ok (exit.Gives v)) → NextFrame d e v a → Follows p count c e
follows_return p count c d e s t arguments v a is ran next =
    let f = next.0 in
    let from_d : c.waiting ≡ d.waiting = sym (ap (λ (z : Rest). z.waiting) ran.others) in
    let w = waited p count c f e.waiting is (from_d ∙ next.1) in
    let top_is : e.top ≡ with_given f v = ap (λ (z : Rest). z.top) next.2 in
    let statements_is : e.statements ≡ d.statements = ap (λ (z : Rest). z.statements) next.2 in
    let calls_is : e.calls ≡ c.calls = ap (λ (z : Rest). z.calls) next.2 ∙ ap (λ (z : Rest). z.calls) ran.others in
    let actors_is : e.actors ≡ c.actors = ap (λ (z : Rest). z.actors) next.2 ∙ ap (λ (z : Rest). z.actors) ran.others in
    let left_is : e.left ≡ c.left = ap (λ (z : Rest). z.left) next.2 ∙ ap (λ (z : Rest). z.left) ran.others in
    let tid_is : e.tid ≡ c.tid = ap (λ (z : Rest). z.tid) next.2 ∙ ap (λ (z : Rest). z.tid) ran.others in
    let F : Frame → Type 0 = IsFrame p count 0 in
    let V : List ℕ → Type 0 = λ bs. Contains bs f.actor in
    let T : Frame → Type 0 = λ g. Contains e.actors g.actor in
    let B : List ℕ → Type 0 = λ bs. AllByRecursion (λ (g : Frame). Contains bs g.actor) e.waiting in
    let actor_is : e.top.actor ≡ f.actor = ap (λ (g : Frame). g.actor) top_is in
    record {
      rest = record {
        top = subst F (sym top_is) (given_frame p count f v w.frame);
        waiting = w.frames;
        open_calls = omega (arith, w.length_is, is.open_calls);
        statements = omega (arith, statements_is, ran.count);
        calls = (omega (arith, calls_is, is.calls.0), omega (arith, calls_is, is.calls.1));
        actors = omega (arith, ap length actors_is, is.actors);
        visited = subst T (sym top_is) (subst V (sym actors_is) w.visited);
        visited_below = subst B (sym actors_is) w.visited_below;
      };
      tid = tid_is;
      fewer = omega (arith, calls_is, w.length_is);
      visited = λ b h. (let W : List ℕ → Type 0 = λ bs. Contains bs b in subst W (sym actors_is) h);
      declares = λ us h. (us, left_is ∙ h);
      rests = λ us h b on. (let L : Option (List (ActorId × ℕ)) → Type 0 = λ o. HasLeft o b in
          elim on [
            | inl (inl here) ↦ inl (inr (w.stands b (inl (sym actor_is ∙ here))))
            | inl (inr below) ↦ inl (inr (w.stands b (inr below)))
            | inr left ↦ inr (subst L left_is left)
          ]);
    }

-- ---- a call

pub follows_call : (p : List CheckedMethod) (count : ℕ) (c d e : Rest) (s t : State) (arguments : List ℤ) (target : ℤ) (m a : ℕ) → IsClosedProgram p → IsRest p count c → Ran p c d s t arguments (Ok (exit.Asks target m)) → Enters count d e target m arguments a → Follows p count c e
follows_call p count c d e s t arguments target m a closed is ran enters =
    let waiting_is : d.waiting ≡ c.waiting = ap (λ (z : Rest). z.waiting) ran.others in
    let calls_is : d.calls ≡ c.calls = ap (λ (z : Rest). z.calls) ran.others in
    let actors_is : d.actors ≡ c.actors = ap (λ (z : Rest). z.actors) ran.others in
    let left_is : d.left ≡ c.left = ap (λ (z : Rest). z.left) ran.others in
    let top_is : d.top ≡ record c.top { standing = d.top.standing } = ap (λ (z : Rest). z.top) ran.others in
    let actor_is : d.top.actor ≡ c.top.actor = ap (λ (f : Frame). f.actor) top_is in
    let took : Admits a (progress_in d []) (progress_in e []) = admits a (progress_in d []) (progress_in e []) (enters.admits []) in
    let F : Frame → Type 0 = IsFrame p count 0 in
    let G : Frame → Type 0 = IsFrame p count 1 in
    let kept : (b : ℕ) → Contains c.actors b → Contains e.actors b = λ b h. took.kept b (let W : List ℕ → Type 0 = λ bs. Contains bs b in subst W (sym actors_is) h) in
    let old : IsFrame p count 1 (record c.top { standing = d.top.standing }) = record { known = is.top.known; has_method = is.top.has_method; place = ran.asks.0 } in
    let below : List Frame → Type 0 = AllByRecursion (λ (g : Frame). Contains e.actors g.actor) in
    let standing_below : AllByRecursion (λ (g : Frame). Contains e.actors g.actor) c.waiting = weaker (λ (g : Frame). Contains c.actors g.actor) (λ (g : Frame). Contains e.actors g.actor) c.waiting (λ g h. kept g.actor h) is.visited_below in
    let T : Frame → Type 0 = λ g. Contains e.actors g.actor in
    record {
      rest = record {
        top = subst F (sym enters.frames.0) (fresh_frame p count a m arguments closed enters.known ran.asks.1.0 ran.asks.1.1);
        waiting = subst (AllByRecursion G) (sym enters.frames.1) (subst G (sym top_is) old, subst (AllByRecursion G) (sym waiting_is) is.waiting);
        open_calls = omega (arith, ap length enters.frames.1, enters.few);
        statements = omega (arith, took.statements, ran.count);
        calls = (omega (arith, took.calls.0), took.calls.1);
        actors = took.few (omega (arith, ap length actors_is, is.actors));
        visited = subst T (sym enters.frames.0) took.visited;
        visited_below = subst below (sym enters.frames.1) (subst T (sym top_is) (kept c.top.actor is.visited), subst below (sym waiting_is) standing_below);
      };
      tid = enters.tid ∙ ap (λ (z : Rest). z.tid) ran.others;
      fewer = omega (arith, took.calls.0, took.calls.1, calls_is, ap length enters.frames.1, ap length waiting_is);
      visited = kept;
      declares = λ us h. took.still us (left_is ∙ h);
      rests = λ us h b on. (
          let L : Option (List (ActorId × ℕ)) → ℕ → Type 0 = HasLeft in
          let M : Option (List (ActorId × ℕ)) → Type 0 = λ o. HasLeft o b in
          let N : Option (List (ActorId × ℕ)) → Type 0 = λ o. HasLeft o a in
          let S : List Frame → Type 0 = λ gs. StandsOn gs b in
          let R : ℕ → Type 0 = λ x. HasLeft c.left x in
          elim on [
            | inl (inl here) ↦ inr (subst R (sym (ap (λ (f : Frame). f.actor) enters.frames.0) ∙ here) (subst N left_is (took.was_left us (left_is ∙ h))))
            | inl (inr under) ↦ inl (elim (subst S enters.frames.1 under) [ inl top ↦ inl (sym actor_is ∙ top) | inr deep ↦ inr (subst S waiting_is deep) ])
            | inr left ↦ inr (subst M left_is (took.left b left))
          ]);
    }

-- ---- room

place_fits : (p : List CheckedMethod) (n : ℕ) (b : Code ℕ ℕ) (path : List Spot) (next : ℕ) → IsPlace p n b path next → n ≤ 32
place_fits p n b [] next h = omega (arith, h.1)
place_fits p n b (q ∷ qs) next h = place_fits p n (inner_of q.other (behind_some q.at b)) qs next h.1

-- a frame that waits has room for the value
pub frames_have_place : (p : List CheckedMethod) (count : ℕ) (fs : List Frame) → AllByRecursion (IsFrame p count 1) fs → HasPlace fs
frames_have_place p count [] h = tt
frames_have_place p count (f ∷ fs) h = (place_fits p (length f.standing.variables + 1) (method_at p f.method).body f.standing.path f.standing.next h.0.place, frames_have_place p count fs h.1)

-- fewer blocks are open than the block has levels
path_deep : (p : List CheckedMethod) (n : ℕ) (b : Code ℕ ℕ) (path : List Spot) (next : ℕ) → IsPlace p n b path next → length path < nesting b
path_deep p n b [] next h = omega (arith, some_level b)
path_deep p n b (q ∷ qs) next h = omega (arith, deep_inside q.other q.at b h.0, path_deep p n (inner_of q.other (behind_some q.at b)) qs next h.1)

-- the frame that runs has few variables and few open blocks where it comes to wait
pub asks_small : (p : List CheckedMethod) (count : ℕ) (c : Rest) (s t : State) (g : Standing) (n : ℕ) (target : ℤ) (m : ℕ) (arguments : List ℤ) → PausesWhereAllowed → IsClosedProgram p → IsRest p count c → Calling target m arguments g t n ≡ method_pause c.top.actor (method_at p c.top.method).body c.top.standing s c.statements → (length g.variables ≤ 32) × (length g.path ≤ 32)
asks_small p count c s t g n target m arguments allowed closed is asks =
    let method = each_read (IsClosedMethod p) p c.top.method no_method closed.methods is.top.has_method in
    let P : ℕ → Type 0 = λ k. IsPlace p k (method_at p c.top.method).body c.top.standing.path c.top.standing.next in
    let from : IsPlace p (length c.top.standing.variables) (method_at p c.top.method).body c.top.standing.path c.top.standing.next = subst P (let same : length c.top.standing.variables + 0 ≡ length c.top.standing.variables = omega arith in same) is.top.place in
    let there : IsAllowedPause p (method_at p c.top.method).body (Calling target m arguments g t n) = subst (IsAllowedPause p (method_at p c.top.method).body) (sym asks) (allowed p c.top.actor (method_at p c.top.method).body c.top.standing s c.statements from) in (
      omega (arith, place_fits p (length g.variables + 1) (method_at p c.top.method).body g.path g.next there.0),
      omega (arith, path_deep p (length g.variables + 1) (method_at p c.top.method).body g.path g.next there.0, method.deep),
    )
