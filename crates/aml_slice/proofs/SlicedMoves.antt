-- What moves and slices make of a control, as the function has them.
use Rattle.std.proofs.Common.{◌≡◌, ◌≢◌, ℕ, zero, suc, ◌+◌, ◌<◌, ◌≤◌, inl, inr, nat_lt, ◌==◌, Bool, true, false, if◌then◌else◌, ℤ, pos, negsuc, Result, Ok, Err, Option, Some, None, List, [], ◌∷◌, ◌++◌, length, refl, ap, ◌∙◌, subst, arith}
use Rattle.std.specs.List.{list_any}
use Rattle.std.proofs.lemmas.Bool.{eqb-true, eqb-false}
use Rattle.std.proofs.lemmas.Bool.Decides.{nat_tests}
use Rattle.snap_base.specs.declared.ids.ActorId.{ActorId}
use Rattle.snap_base.specs.declared.transactions.State.{State}
use Rattle.snap_base.specs.declared.transactions.TxResult.TheVariants as result
use Rattle.aml_tree.specs.Tree.{CheckedMethod}
use Rattle.aml_check.specs.Closed.{IsClosedProgram}
use Rattle.aml_check.specs.Names.{method_at}
use Rattle.aml_check.specs.Meaning.{◌>>=◌, Progress, actor_of, no_actor, too_many_calls, too_many_actors, too_deep, one_call, with_actor, declared, by_declaration, with_left, used, admitted}
use Rattle.aml_resume.specs.declared.exits.Exit.TheVariants as exit
use Rattle.aml_resume.specs.Places.{IsPlace, Standing}
use Rattle.aml_resume.specs.Pausing.{Pause, Through, Returned, Calling, Failed, method_pause}
use Rattle.aml_resume.specs.Resuming.{IsAllowedPause, IsCounted}
use Rattle.snap_base.specs.declared.next.Next.{Next}
use Rattle.snap_base.specs.declared.next.Next.TheVariants.{Go}
use Rattle.aml_slice.specs.Controls.{Frame, Rest, IsRest, progress_in, with_given, moves_left}
use Rattle.aml_slice.specs.Slicing.{Move, To, Out, unless_refused, returned, entered, moved_by, move, SliceEnd, actor_id, after_move, slice_end_in, slice_end}
use Rattle.aml_slice.specs.Wholes.{IsRestKept}
use Rattle.aml_slice.specs.Moments.{EndsWith, IsMoment, IsHandedOn}
use Rattle.aml_slice.specs.Views.{NextFrame, Enters}
use Rattle.aml_slice.proofs.Moving.{PauseLaws, RunsTo, Ran, Advances, Reaches}
use Rattle.aml_slice.proofs.MoveLaws.{fails, ends, return_stays, return_away, refused, call_stays, call_away}
use Rattle.aml_slice.proofs.Following.{follows_return, follows_call}
use Rattle.aml_slice.proofs.Reaching.{no_move, one_more, ends_there, goes_there, hands_on}
use Rattle.aml_slice.proofs.KeptRests.{ends_kept, goes_kept}

-- ---- a call is admitted in one world as in another

abbrev pub there : List State → Result Progress ℕ → Result Progress ℕ
there w (Ok q) = Ok (record q { world = w })
there w (Err code) = Err code

bind_there : (w : List State) (o : Result Progress ℕ) (f : Progress → Result Progress ℕ) → ((q : Progress) → f (record q { world = w }) ≡ there w (f q)) → (there w o >>= f) ≡ there w (o >>= f)
bind_there w (Ok q) f h = h q
bind_there w (Err code) f h = refl

calls_by : (b : Bool) (r : Progress) (w : List State) → (let o : Result Progress ℕ = (if b then Ok (record r { world = w; calls = r.calls + 1 }) else Err too_many_calls) in o) ≡ there w (if b then Ok (record r { calls = r.calls + 1 }) else Err too_many_calls)
calls_by true r w = refl
calls_by false r w = refl

actor_by : (b c : Bool) (a : ℕ) (r : Progress) (w : List State) → (let o : Result Progress ℕ = (if b then Ok (record r { world = w }) else (if c then Ok (record r { world = w; actors = r.actors ++ a ∷ [] }) else Err too_many_actors)) in o) ≡ there w (if b then Ok r else (if c then Ok (record r { actors = r.actors ++ a ∷ [] }) else Err too_many_actors))
actor_by true c a r w = refl
actor_by false true a r w = refl
actor_by false false a r w = refl

left_by : (r : Progress) (w : List State) (o : Option (List (ActorId × ℕ))) → with_left (record r { world = w }) o ≡ there w (with_left r o)
left_by r w None = refl
left_by r w (Some us) = refl

declared_by : (a : ℕ) (r : Progress) (w : List State) (o : Option (List (ActorId × ℕ))) → by_declaration a (record r { world = w }) o ≡ there w (by_declaration a r o)
declared_by a r w None = refl
declared_by a r w (Some us) = left_by r w (used a us)

pub admitted_there : (a : ℕ) (r : Progress) (w : List State) → admitted a (record r { world = w }) ≡ there w (admitted a r)
admitted_there a r w =
    ap (λ (o : Result Progress ℕ). o >>= λ q. with_actor a q >>= λ z. declared a z) (calls_by (nat_lt r.calls 64) r w)
    ∙ bind_there w (one_call r) (λ q. with_actor a q >>= λ z. declared a z) (λ q.
    ap (λ (o : Result Progress ℕ). o >>= λ z. declared a z) (actor_by (list_any (λ b. b == a) q.actors) (nat_lt (length q.actors) 16) a q w)
    ∙ bind_there w (with_actor a q) (λ z. declared a z) (λ z. declared_by a z w z.left))

-- ---- one move

abbrev pub Well : List CheckedMethod → ℕ → Rest → State → Move → Type 0
Well p count c s (To d t) = Advances p count c s t d (Ok d.top.actor)
Well p count c s (Out r t) = EndsWith p count c s t r

-- the frame that runs has come to a place
abbrev mid : Rest → Standing → ℕ → Rest
mid c g n = record c { top = record c.top { standing = g }; statements = n }

by_waiting : (p : List CheckedMethod) (count : ℕ) (c : Rest) (s t : State) (v : ℤ) (n : ℕ) → IsRest p count c → Ran p c (mid c c.top.standing n) s t [] (Ok (exit.Gives v)) → (fs : List Frame) → c.waiting ≡ fs → Well p count c s (returned c fs v t n)
by_waiting p count c s t v n is ran [] none = ends p count c (mid c c.top.standing n) s t [] v ran is.top.known none
by_waiting p count c s t v n is ran (f ∷ fs) some =
    let d = mid c c.top.standing n in
    let e : Rest = record c { top = with_given f v; waiting = fs; statements = n } in
    let next : NextFrame (mid c c.top.standing n) (record c { top = with_given f v; waiting = fs; statements = n }) v f.actor = (f, some, refl, refl) in (
      follows_return p count c (mid c c.top.standing n) (record c { top = with_given f v; waiting = fs; statements = n }) s t [] v f.actor is ran next,
      refl,
      λ stays. return_stays p count c (mid c c.top.standing n) (record c { top = with_given f v; waiting = fs; statements = n }) s t [] v f.actor ran is.top.known next stays,
      λ away. inr (return_away p count c (mid c c.top.standing n) (record c { top = with_given f v; waiting = fs; statements = n }) s t [] v f.actor ran is.top.known next away),
    )

number_within : (b : Bool) (n count a : ℕ) → nat_lt n count ≡ b → (let o : Result ℕ ℕ = (if b then Ok n else Err no_actor) in o ≡ Ok a) → a < count
number_within true n count a test e =
    let same : n ≡ a = cc in
    let below : n < count = grind (arith, nat_tests) in
    omega (arith, same, below)
number_within false n count a test e = absurd cc

actor_within : (count : ℕ) (target : ℤ) (a : ℕ) → actor_of count target ≡ Ok a → a < count
actor_within count (pos n) a e = number_within (nat_lt n count) n count a refl e
actor_within count (negsuc n) a e = absurd cc

by_admission : (p : List CheckedMethod) (count : ℕ) (c : Rest) (s t : State) (target : ℤ) (m : ℕ) (arguments : List ℤ) (g : Standing) (n a : ℕ) → IsClosedProgram p → IsRest p count c → Ran p c (mid c g n) s t arguments (Ok (exit.Asks target m)) → actor_of count target ≡ Ok a → length c.waiting < 15
    → (o : Result Progress ℕ) → admitted a (progress_in (mid c g n) []) ≡ o → Well p count c s (unless_refused t o (λ q. To (entered c g a m arguments q) t))
by_admission p count c s t target m arguments g n a closed is ran there_is few (Err code) e =
    refused p count c (mid c g n) s t arguments target m code ran is.top.known (inr (a, there_is, inr (few, λ w. admitted_there a (progress_in (mid c g n) []) w ∙ ap (there w) e)))
by_admission p count c s t target m arguments g n a closed is ran there_is few (Ok q) e =
    let enters : Enters count (mid c g n) (entered c g a m arguments q) target m arguments a = record {
      actor = there_is;
      known = actor_within count target a there_is;
      few = few;
      admits = λ w. admitted_there a (progress_in (mid c g n) []) w ∙ ap (there w) e;
      frames = (refl, refl);
      tid = refl;
    } in (
      follows_call p count c (mid c g n) (entered c g a m arguments q) s t arguments target m a closed is ran enters,
      refl,
      λ stays. call_stays p count c (mid c g n) (entered c g a m arguments q) s t arguments target m a ran is.top.known enters stays,
      λ away. inl (call_away p count c (mid c g n) (entered c g a m arguments q) s t arguments target m a ran is.top.known enters away),
    )

by_depth : (p : List CheckedMethod) (count : ℕ) (c : Rest) (s t : State) (target : ℤ) (m : ℕ) (arguments : List ℤ) (g : Standing) (n a : ℕ) → IsClosedProgram p → IsRest p count c → Ran p c (mid c g n) s t arguments (Ok (exit.Asks target m)) → actor_of count target ≡ Ok a
    → (b : Bool) → nat_lt (length c.waiting) 15 ≡ b → Well p count c s (if b then unless_refused t (admitted a (progress_in (mid c g n) [])) (λ q. To (entered c g a m arguments q) t) else Out (result.Fail too_deep) t)
by_depth p count c s t target m arguments g n a closed is ran there_is true test =
    let few : length c.waiting < 15 = grind (arith, nat_tests) in
    by_admission p count c s t target m arguments g n a closed is ran there_is few (admitted a (progress_in (mid c g n) [])) refl
by_depth p count c s t target m arguments g n a closed is ran there_is false test =
    let deep : 15 ≤ length c.waiting = grind (arith, nat_tests) in
    refused p count c (mid c g n) s t arguments target m too_deep ran is.top.known (inr (a, there_is, inl (deep, refl)))

by_actor : (p : List CheckedMethod) (count : ℕ) (c : Rest) (s t : State) (target : ℤ) (m : ℕ) (arguments : List ℤ) (g : Standing) (n : ℕ) → IsClosedProgram p → IsRest p count c → Ran p c (mid c g n) s t arguments (Ok (exit.Asks target m))
    → (o : Result ℕ ℕ) → actor_of count target ≡ o → Well p count c s (unless_refused t o (λ a. if nat_lt (length c.waiting) 15 then unless_refused t (admitted a (progress_in (mid c g n) [])) (λ q. To (entered c g a m arguments q) t) else Out (result.Fail too_deep) t))
by_actor p count c s t target m arguments g n closed is ran (Ok a) e = by_depth p count c s t target m arguments g n a closed is ran e (nat_lt (length c.waiting) 15) refl
by_actor p count c s t target m arguments g n closed is ran (Err code) e = refused p count c (mid c g n) s t arguments target m code ran is.top.known (inl e)

by_pause : PauseLaws → (p : List CheckedMethod) (count : ℕ) (c : Rest) (s : State) → IsClosedProgram p → IsRest p count c → (x : Pause) → RunsTo c.top.actor (method_at p c.top.method).body c.top.standing s c.statements x → IsAllowedPause p (method_at p c.top.method).body x → IsCounted c.statements x
    → Well p count c s (moved_by count c x)
by_pause laws p count c s closed is (Through vs t n) runs allowed counts =
    by_waiting p count c s t (pos 0) n is (record { runs = runs; asks = tt; count = counts.1; others = refl; blocks = laws.blocks }) c.waiting refl
by_pause laws p count c s closed is (Returned v t n) runs allowed counts =
    by_waiting p count c s t v n is (record { runs = runs; asks = tt; count = counts.1; others = refl; blocks = laws.blocks }) c.waiting refl
by_pause laws p count c s closed is (Calling target m arguments g t n) runs allowed counts =
    by_actor p count c s t target m arguments g n closed is (record { runs = runs; asks = allowed; count = counts.1; others = refl; blocks = laws.blocks }) (actor_of count target) refl
by_pause laws p count c s closed is (Failed code t n) runs allowed counts =
    fails p count c (mid c c.top.standing n) s t [] code (record { runs = runs; asks = tt; count = counts.1; others = refl; blocks = laws.blocks }) is.top.known

pub one_move : PauseLaws → (p : List CheckedMethod) (count : ℕ) (c : Rest) (s : State) → IsClosedProgram p → IsRest p count c → Well p count c s (move p count c s)
one_move laws p count c s closed is =
    let P : ℕ → Type 0 = λ n. IsPlace p n (method_at p c.top.method).body c.top.standing.path c.top.standing.next in
    let place : IsPlace p (length c.top.standing.variables) (method_at p c.top.method).body c.top.standing.path c.top.standing.next = subst P (let same : length c.top.standing.variables + 0 ≡ length c.top.standing.variables = omega arith in same) is.top.place in
    by_pause laws p count c s closed is (method_pause c.top.actor (method_at p c.top.method).body c.top.standing s c.statements)
    (λ call rises r at. laws.meant p call c.top.actor (length c.top.standing.variables) (method_at p c.top.method).body c.top.standing s c.statements r rises place at)
    (laws.allowed p c.top.actor (method_at p c.top.method).body c.top.standing s c.statements place)
    (laws.counts c.top.actor (method_at p c.top.method).body c.top.standing s c.statements is.statements)

-- ---- slices

pub record SlicesOn (p : List CheckedMethod) (count : ℕ) (c : Rest) (s t : State) (n : Next Rest) : Type 0 where
  pub moment : IsMoment p count c s t n
  pub kept : IsRestKept p count c s t n
  pub handed_on : IsHandedOn p count c n

abbrev pub SlicesWell : List CheckedMethod → ℕ → Rest → State → SliceEnd → Type 0
SlicesWell p count c s x = SlicesOn p count c s x.state x.next

by_test : PauseLaws → (p : List CheckedMethod) (count : ℕ) (first : Rest) (s t u : State) (c d : Rest) (more : Rest → State → SliceEnd) → first.top.actor < count → Reaches p count first s t c → Advances p count c t u d (Ok d.top.actor)
    → (Reaches p count first s u d → SlicesWell p count first s (more d u)) → (b : Bool) → (d.top.actor == first.top.actor) ≡ b → SlicesWell p count first s (if b then more d u else record { state = u; next = Go (actor_id d.top.actor) d })
by_test laws p count first s t u c d more known so_far well on true test = on (one_more p count first s t u c d d.top.actor known so_far well.0 well.1 (eqb-true d.top.actor first.top.actor test) well.2)
by_test laws p count first s t u c d more known so_far well on false test =
    let other : d.top.actor ≢ first.top.actor = eqb-false d.top.actor first.top.actor test in
    let away : d.top.actor ≢ c.top.actor = λ same. other (same ∙ so_far.actor) in
    let goes = goes_there p count first s t u c d known so_far (well.3 away) in
    record { moment = goes; kept = goes_kept laws p count first s u d goes; handed_on = hands_on p count first s t c d (actor_id d.top.actor) so_far well.0 refl other }

by_move : PauseLaws → (p : List CheckedMethod) (count : ℕ) (first : Rest) (s t : State) (c : Rest) (more : Rest → State → SliceEnd) → first.top.actor < count → Reaches p count first s t c → ((d : Rest) (u : State) → moves_left d + 1 ≤ moves_left c → Reaches p count first s u d → SlicesWell p count first s (more d u))
    → (x : Move) → Well p count c t x → SlicesWell p count first s (after_move first.top.actor more x)
by_move laws p count first s t c more known so_far on (To d u) well = by_test laws p count first s t u c d more known so_far well (on d u well.0.fewer) (d.top.actor == first.top.actor) refl
by_move laws p count first s t c more known so_far on (Out r u) well =
    let last = ends_there p count first s t u c r known so_far well in
    record { moment = last; kept = ends_kept laws p count first s u r last; handed_on = tt }

slices_from : PauseLaws → (f : ℕ) (p : List CheckedMethod) (count : ℕ) (first : Rest) (s t : State) (c : Rest) → IsClosedProgram p → first.top.actor < count → Reaches p count first s t c → moves_left c + 1 ≤ f → SlicesWell p count first s (slice_end_in f p count first.top.actor c t)
slices_from laws zero p count first s t c closed known so_far enough = absurd (omega (arith, enough))
slices_from laws (suc f) p count first s t c closed known so_far enough =
    by_move laws p count first s t c (slice_end_in f p count first.top.actor) known so_far
    (λ d u fewer reaches. slices_from laws f p count first s u d closed known reaches (omega (arith, enough, fewer)))
    (move p count c t) (one_move laws p count c t closed so_far.rest)

-- A slice of the function ends at the first moment, keeps the rest, and hands on a rest.
pub slices_well : PauseLaws → (p : List CheckedMethod) (count : ℕ) (c : Rest) (s : State) → IsClosedProgram p → IsRest p count c → SlicesWell p count c s (slice_end p count c s)
slices_well laws p count c s closed is = slices_from laws (moves_left c + 1) p count c s s c closed is.top.known (no_move p count c s is) (omega arith)
