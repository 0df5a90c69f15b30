-- The lines that give actors their states, one after the other.
use Rattle.std.proofs.Common.{◌≡◌, ◌≢◌, ℕ, zero, suc, ◌+◌, ◌<◌, ◌≤◌, ◌==◌, Bool, true, false, if◌then◌else◌, List, [], ◌∷◌, ◌++◌, length, set, refl, sym, ap, ◌∙◌, subst, arith, append_assoc, append-nil, Option, Some, None, Ok, Err, Result}
use Rattle.std.specs.Prelude.{IfSome}
use Rattle.std.specs.List.{AllByRecursion}
use Rattle.std.proofs.lemmas.Bool.{ne_eqb, eq-eqb, eqb-true}
use Rattle.snap_base.specs.declared.transactions.State.{State}
use Rattle.snap_base.proofs.Lists.{all_push}
use Rattle.snap_work.specs.declared.faults.WorkFault.{WorkFault}
use Rattle.snap_work.specs.declared.faults.WorkNo.{WorkNo}
use Rattle.snap_work.specs.declared.faults.WorkNo.TheVariants as no
use Rattle.work_text.specs.Lines.{Line, words}
use Rattle.work_text.specs.Readings.{IsNo}
use Rattle.work_text.specs.Actors.{Named, actor, state_with, state_in, states_in}
use Rattle.work_text.specs.Reads.{first_is_actor}
use Rattle.work_text.specs.Endings.{named_lines, states}

-- ---- one more state

abbrev AreBefore : ℕ → List Named → Type 0
AreBefore actor named = AllByRecursion (λ (m : Named). m.actor < actor) named

state_by : (t : Bool) (m n : Named) (a : ℕ) (rest more : State) → (m.actor == a) ≡ t → m.actor < n.actor → more ≡ (if n.actor == a then state_with n.values else rest)
    → (if m.actor == a then state_with m.values else more) ≡ (if n.actor == a then state_with n.values else (if m.actor == a then state_with m.values else rest))
state_by true m n a rest more e lt h =
    let here : m.actor ≡ a = eqb-true m.actor a e in
    rw (e, ne_eqb n.actor a (λ same. omega (arith, same, here, lt))) refl
state_by false m n a rest more e lt h = rw e h

state_more : (named : List Named) (n : Named) (a : ℕ) → AreBefore n.actor named → state_in (named ++ n ∷ []) a ≡ (if n.actor == a then state_with n.values else state_in named a)
state_more [] n a before = refl
state_more (m ∷ named) n a before = state_by (m.actor == a) m n a (state_in named a) (state_in (named ++ n ∷ []) a) refl before.0 (state_more named n a before.1)

other_state : (named : List Named) (n : Named) (a : ℕ) → AreBefore n.actor named → n.actor ≢ a → state_in (named ++ n ∷ []) a ≡ state_in named a
other_state named n a before other = state_more named n a before ∙ ap (λ (t : Bool). if t then state_with n.values else state_in named a) (ne_eqb n.actor a other)

own_state : (named : List Named) (n : Named) (a : ℕ) → AreBefore n.actor named → n.actor ≡ a → state_in (named ++ n ∷ []) a ≡ state_with n.values
own_state named n a before own = state_more named n a before ∙ ap (λ (t : Bool). if t then state_with n.values else state_in named a) (eq-eqb n.actor a own)

states_behind : (named : List Named) (n : Named) (a count : ℕ) → AreBefore n.actor named → n.actor < a → states_in (named ++ n ∷ []) a count ≡ states_in named a count
states_behind named n a zero before lt = refl
states_behind named n a (suc count) before lt =
    ap (λ s. s ∷ states_in (named ++ n ∷ []) (a + 1) count) (other_state named n a before (λ same. omega (arith, same, lt)))
    ∙ ap (λ ss. state_in named a ∷ ss) (states_behind named n (a + 1) count before (omega arith))

states_more : (named : List Named) (n : Named) (a count k : ℕ) → AreBefore n.actor named → n.actor ≡ a + k → k < count
    → states_in (named ++ n ∷ []) a count ≡ set (states_in named a count) k (state_with n.values)
states_more named n a zero k before e lt = absurd (omega arith)
states_more named n a (suc count) zero before e lt =
    ap (λ s. s ∷ states_in (named ++ n ∷ []) (a + 1) count) (own_state named n a before (omega (arith, e)))
    ∙ ap (λ ss. state_with n.values ∷ ss) (states_behind named n (a + 1) count before (omega (arith, e)))
states_more named n a (suc count) (suc k) before e lt =
    ap (λ s. s ∷ states_in (named ++ n ∷ []) (a + 1) count) (other_state named n a before (λ same. omega (arith, same, e)))
    ∙ ap (λ ss. state_in named a ∷ ss) (states_more named n (a + 1) count k before (omega (arith, e)) (omega arith))

pub length-states_in : (named : List Named) (a count : ℕ) → length (states_in named a count) ≡ count
length-states_in named a zero = refl
length-states_in named a (suc count) = ap suc (length-states_in named (a + 1) count)

pub zero_more : (a count : ℕ) → states_in [] a (suc count) ≡ states_in [] a count ++ state_with [] ∷ []
zero_more a zero = refl
zero_more a (suc count) = ap (λ ss. state_with [] ∷ ss) (zero_more (a + 1) count)

-- ---- one more line

abbrev onto_named : List Named → Result (List Named × List Line) WorkFault → Result (List Named × List Line) WorkFault
onto_named front (Ok x) = Ok (front ++ x.0, x.1)
onto_named front (Err f) = Err f

onto_none : (x : Result (List Named × List Line) WorkFault) → x ≡ onto_named [] x
onto_none (Ok x) = refl
onto_none (Err f) = refl

onto_one : (front : List Named) (n : Named) (x : Result (List Named × List Line) WorkFault) → onto_named front (onto_named (n ∷ []) x) ≡ onto_named (front ++ n ∷ []) x
onto_one front n (Ok x) = ap (λ ns. Ok (ns, x.1)) (sym (append_assoc front (n ∷ []) x.0))
onto_one front n (Err f) = refl

-- none is above the last one
abbrev AreUpTo : Option ℕ → List Named → Type 0
AreUpTo None named = named ≡ []
AreUpTo (Some last) named = AllByRecursion (λ (m : Named). m.actor ≤ last) named

-- the lines from a start up to here name actors, and the states are those that they give
pub record AreGiven (count : ℕ) (start : List Line) (last : Option ℕ) (here : List Line) (given : List State) : Type 0 where
  pub named : List Named
  pub same : given ≡ states_in named 0 count
  pub upto : AreUpTo last named
  pub goes : (x : Result (List Named × List Line) WorkFault) → named_lines count last here x → named_lines count None start (onto_named named x)

pub none_given : (count : ℕ) (start : List Line) (given : List State) → given ≡ states_in [] 0 count → AreGiven count start None start given
none_given count start given e = record { named = []; same = e; upto = refl; goes = λ x h. subst (named_lines count None start) (onto_none x) h }

all_before : (actor last : ℕ) (named : List Named) → last < actor → AllByRecursion (λ (m : Named). m.actor ≤ last) named → AreBefore actor named
all_before actor last [] lt all = tt
all_before actor last (m ∷ named) lt all = (omega (arith, all.0), all_before actor last named lt all.1)

before : (last : Option ℕ) (actor : ℕ) (named : List Named) → AreUpTo last named → IfSome last (λ m. m < actor) → AreBefore actor named
before None actor named upto ascends = rw upto tt
before (Some last) actor named upto ascends = all_before actor last named ascends upto

all_upto : (actor : ℕ) (named : List Named) → AreBefore actor named → AllByRecursion (λ (m : Named). m.actor ≤ actor) named
all_upto actor [] all = tt
all_upto actor (m ∷ named) all = (omega (arith, all.0), all_upto actor named all.1)

goes_on : (count : ℕ) (last : Option ℕ) (l : Line) (behind : List Line) (n : Named) → first_is_actor (words l.bytes) ≡ true → actor count last l (Ok n) → (x : Result (List Named × List Line) WorkFault)
    → named_lines count (Some n.actor) behind x → named_lines count last (l ∷ behind) (onto_named (n ∷ []) x)
goes_on count last l behind n is h (Ok x) g = rw is (Ok n, h, (Ok x, g, refl))
goes_on count last l behind n is h (Err f) g = rw is (Ok n, h, (Err f, g, refl))

pub one_given : (count : ℕ) (start : List Line) (last : Option ℕ) (here : List Line) (given : List State) (l : Line) (behind : List Line) (n : Named) (next : List State)
    → AreGiven count start last here given → here ≡ l ∷ behind → first_is_actor (words l.bytes) ≡ true → actor count last l (Ok n) → next ≡ set given n.actor (state_with n.values) → AreGiven count start (Some n.actor) behind next
one_given count start last here given l behind n next s e is h put =
    let low : AreBefore n.actor s.named = before last n.actor s.named s.upto h.0.ascends in
    record {
      named = s.named ++ n ∷ [];
      same = put ∙ ap (λ ss. set ss n.actor (state_with n.values)) s.same ∙ sym (states_more s.named n 0 count n.actor low (omega arith) h.0.known);
      upto = all_push (λ (m : Named). m.actor ≤ n.actor) s.named n (all_upto n.actor s.named low) (omega arith);
      goes = λ x g. subst (named_lines count None start) (onto_one s.named n x) (s.goes (onto_named (n ∷ []) x) (rw e (goes_on count last l behind n is h x g)));
    }

-- ---- the end of these lines

fails_at : (count : ℕ) (last : Option ℕ) (l : Line) (behind : List Line) (f : WorkFault) → first_is_actor (words l.bytes) ≡ true → actor count last l (Err f) → named_lines count last (l ∷ behind) (Err f)
fails_at count last l behind f is h = rw is (Err f, h, refl)

pub no_states : (count : ℕ) (start : List Line) (last : Option ℕ) (here : List Line) (given : List State) (l : Line) (behind : List Line) (why : WorkNo)
    → AreGiven count start last here given → here ≡ l ∷ behind → first_is_actor (words l.bytes) ≡ true → IsNo (actor count last l) why → IsNo (states count start) why
no_states count start last here given l behind (no.Fault f) s e is h = (Err f, s.goes (Err f) (rw e (fails_at count last l behind f is h)), refl)
no_states count start last here given l behind no.Memory s e is h = tt

ends_at : (count : ℕ) (last : Option ℕ) (l : Line) (behind : List Line) → first_is_actor (words l.bytes) ≡ false → named_lines count last (l ∷ behind) (Ok ([], l ∷ behind))
ends_at count last l behind is = rw is refl

given_up : (count : ℕ) (start : List Line) (last : Option ℕ) (here : List Line) (given : List State) → AreGiven count start last here given → named_lines count last here (Ok ([], here)) → states count start (Ok (given, here))
given_up count start last here given s h = (Ok (s.named ++ [], here), s.goes (Ok ([], here)) h, ap (λ (ss : List State). Ok (ss, here)) (s.same ∙ ap (λ ns. states_in ns 0 count) (sym (append-nil s.named))))

pub other_line : (count : ℕ) (start : List Line) (last : Option ℕ) (here : List Line) (given : List State) (l : Line) (behind : List Line) → AreGiven count start last here given → here ≡ l ∷ behind → first_is_actor (words l.bytes) ≡ false
    → states count start (Ok (given, here))
other_line count start last here given l behind s e is = given_up count start last here given s (rw e (ends_at count last l behind is))

pub no_line : (count : ℕ) (start : List Line) (last : Option ℕ) (here : List Line) (given : List State) → AreGiven count start last here given → here ≡ [] → states count start (Ok (given, here))
no_line count start last here given s e = given_up count start last here given s (rw e refl)
