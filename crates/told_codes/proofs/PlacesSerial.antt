-- Those that are told a place are serial with nobody else: whoever is left out of them wrote nothing that one of them found.
use Rattle.std.specs.Prelude.{◌≡◌, refl, ℕ, ◌<◌, not, Bool, true, false, ◌&&◌, if◌then◌else◌, Option, Some, None, is_some, List, [], ◌∷◌, length, filter}
use Rattle.std.specs.List.{AllByRecursion, list_any}
use Rattle.std.proofs.Common.{sym, ap, subst, inl, inr, ◌∙◌}
use Rattle.std.proofs.lemmas.Bool.{cases_Bool, true≢false, or_left, or_right, and_parts, false_from_ne_true}
use Rattle.snap_base.specs.declared.transactions.State.{State}
use Rattle.protocol.specs.Fixed.{Fixed}
use Rattle.protocol.specs.Facts.{Alone, state_in}
use Rattle.protocol.specs.Parts.{Who, Machine}
use Rattle.protocol.specs.Words.{is_who, is_value}
use Rattle.protocol.specs.History.{View, Done, History}
use Rattle.protocol.specs.Chains.{by_place, is_place_below, RivalsRise, IsSerial}
use Rattle.protocol_laws.specs.Commits.{Finds, left_as, left_of, StatesLink, last_state}
use Rattle.protocol_laws.specs.Linked.{came_to, visitors, IsExplained}
use Rattle.protocol_laws.proofs.first.Lists.{all_filter}
use Rattle.protocol_laws.proofs.machine.TrackLists
use Rattle.protocol_theorems.specs.Order.{LeavesIt, OrderFacts}
use Rattle.protocol_theorems.proofs.order.ByPlace.{all_sorted}
use Rattle.protocol_theorems.proofs.order.OrderImplied.{LinkedFrom, passes, still_left, serial_results, sorted_links}
use Rattle.told_codes.proofs.WritersPast.{wrote_at, came_too, WritersPast}

-- ---- who is left out

-- behind who wrote on the actor and is left out nobody of the rest came there
abbrev pub NoneBehind : ℕ → (Done → Bool) → List Done → Type 0
NoneBehind a test [] = Unit {0}
NoneBehind a test (d ∷ ds) = (test d ≡ false → wrote_at a d ≡ true → AllByRecursion (λ e. test e ≡ true → came_to a e ≡ false) ds) × NoneBehind a test ds

-- where the rest are over, and nobody is left out that is over and has a value
pub none_behind : (over : Who → Bool) (test : Done → Bool) (a : ℕ) (ds : List Done) → ((d : Done) → test d ≡ true → over d.who ≡ true) → ((d : Done) → test d ≡ false → is_value d.result ≡ true → over d.who ≡ false) → WritersPast over a ds → NoneBehind a test ds
none_behind over test a [] i o h = tt
none_behind over test a (d ∷ ds) i o h = ((λ n q. behind (o d n (and_parts (is_value d.result) (not d.reader) (and_parts (came_to a d) (is_value d.result && not d.reader) q).1).0) ds (h.0 q)), none_behind over test a ds i o h.1)
  where
    behind : over d.who ≡ false → (es : List Done) → (list_any (came_too a d) es ≡ true → over d.who ≡ true) → AllByRecursion (λ e. test e ≡ true → came_to a e ≡ false) es
    behind n [] f = tt
    behind n (e ∷ es) f = (
      (λ t. false_from_ne_true (came_to a e) (λ c. true≢false (sym (f (or_left (came_too a d e) _ (came c (other (i e t))))) ∙ n))),
      behind n es (λ q. f (or_right (came_too a d e) _ q)),
    )
      where
        other : over e.who ≡ true → is_who d.who e.who ≡ false
        other t = false_from_ne_true (is_who d.who e.who) (λ q. true≢false (sym t ∙ (ap over (sym (TrackLists.is_who_true d.who e.who q)) ∙ n)))

        came : came_to a e ≡ true → is_who d.who e.who ≡ false → came_too a d e ≡ true
        came c t = rw (c, t) refl

-- ---- the rest links

leaves_nothing : (b : Bool) (o : Option View) (s : State) → b ≡ false → left_as b o s ≡ s
leaves_nothing true o s e = absurd (true≢false e)
leaves_nothing false o s e = refl

-- who did not write there leaves what was there
pub wrote_nothing : (a : ℕ) (d : Done) (s : State) → wrote_at a d ≡ false → (d.reader ≡ true → LeavesIt (d.views a)) → Finds (d.views a) s → left_of a d s ≡ s
wrote_nothing a d s n k f = elim (cases_Bool (came_to a d)) [
  | inr c ↦ passes a d s c
  | inl c ↦ elim (cases_Bool (is_value d.result)) [
    | inr v ↦ leaves_nothing (is_value d.result) (d.views a) s v
    | inl v ↦ elim (cases_Bool d.reader) [
      | inl r ↦ still_left a d s (k r) f
      | inr r ↦ absurd (true≢false (sym (wrote c v r) ∙ n))
    ]
  ]
]
  where
    wrote : came_to a d ≡ true → is_value d.result ≡ true → d.reader ≡ false → wrote_at a d ≡ true
    wrote c v r = rw (c, v, r) refl

none_came : (a : ℕ) (s : State) (test : Done → Bool) (ds : List Done) → AllByRecursion (λ e. test e ≡ true → came_to a e ≡ false) ds → StatesLink a s (filter test ds)
none_came a s test [] h = tt
none_came a s test (d ∷ ds) h = by (test d) refl (λ t. none_came a t test ds h.1)
  where
    found : (o : Option View) → is_some o ≡ false → Finds o s
    found None e = tt
    found (Some v) e = absurd (true≢false e)

    by : (b : Bool) → test d ≡ b → ((t : State) → StatesLink a t (filter test ds)) → StatesLink a s (if b then d ∷ filter test ds else filter test ds)
    by true e k = (found (d.views a) (h.0 e), k (left_of a d s))
    by false e k = k s

pub rest_links : (a : ℕ) (s : State) (test : Done → Bool) (ds : List Done) → NoneBehind a test ds → AllByRecursion (λ d. d.reader ≡ true → LeavesIt (d.views a)) ds → StatesLink a s ds → StatesLink a s (filter test ds)
rest_links a s test [] m k l = tt
rest_links a s test (d ∷ ds) m k l = by (test d) refl (rest_links a (left_of a d s) test ds m.1 k.1 l.1)
  where
    out : test d ≡ false → StatesLink a (left_of a d s) (filter test ds) → StatesLink a s (filter test ds)
    out e h = elim (cases_Bool (wrote_at a d)) [
      | inr n ↦ subst (λ t. StatesLink a t (filter test ds)) (wrote_nothing a d s n k.0 l.0) h
      | inl q ↦ none_came a s test ds (m.0 e q)
    ]

    by : (b : Bool) → test d ≡ b → StatesLink a (left_of a d s) (filter test ds) → StatesLink a s (if b then d ∷ filter test ds else filter test ds)
    by true e h = (l.0, h)
    by false e h = out e h

-- where all that wrote there is of the rest, it leaves there what all leave
pub rest_leaves : (a : ℕ) (s : State) (test : Done → Bool) (ds : List Done) → AllByRecursion (λ d. wrote_at a d ≡ true → test d ≡ true) ds → AllByRecursion (λ d. d.reader ≡ true → LeavesIt (d.views a)) ds → StatesLink a s ds → last_state a s (filter test ds) ≡ last_state a s ds
rest_leaves a s test [] i k l = refl
rest_leaves a s test (d ∷ ds) i k l = by (test d) refl (rest_leaves a (left_of a d s) test ds i.1 k.1 l.1)
  where
    by : (b : Bool) → test d ≡ b → last_state a (left_of a d s) (filter test ds) ≡ last_state a (left_of a d s) ds → last_state a s (if b then d ∷ filter test ds else filter test ds) ≡ last_state a (left_of a d s) ds
    by true e g = g
    by false e g = ap (λ z. last_state a z (filter test ds)) (sym (wrote_nothing a d s (false_from_ne_true (wrote_at a d) (λ q. true≢false (sym (i.0 q) ∙ e))) k.0 l.0)) ∙ g

-- ---- a part of what rises rises

pub rise_filter : (test : Done → Bool) (ds : List Done) → RivalsRise ds → RivalsRise (filter test ds)
rise_filter test [] h = tt
rise_filter test (d ∷ ds) h = by (test d) (rise_filter test ds h.1)
  where
    by : (b : Bool) → RivalsRise (filter test ds) → RivalsRise (if b then d ∷ filter test ds else filter test ds)
    by true k = (all_filter (λ e. (d.reader && e.reader) ≡ false → is_place_below d.place e.place ≡ true) test ds h.0, k)
    by false k = k

pub visitors_filter : (a : ℕ) (test : Done → Bool) (ds : List Done) → visitors a (filter test ds) ≡ filter test (visitors a ds)
visitors_filter a test [] = refl
visitors_filter a test (d ∷ ds) = by (test d) refl (came_to a d) refl (visitors_filter a test ds)
  where
    by : (b : Bool) → test d ≡ b → (c : Bool) → came_to a d ≡ c → visitors a (filter test ds) ≡ filter test (visitors a ds) → visitors a (if b then d ∷ filter test ds else filter test ds) ≡ filter test (if c then d ∷ visitors a ds else visitors a ds)
    by true e true f k = rw (e, f) (ap (λ l. d ∷ l) k)
    by true e false f k = rw f k
    by false e true f k = rw e k
    by false e false f k = k

-- ---- the rest is serial

pub rest_serial : {C : Type 0} (w : Fixed C) (finish : C → List State → Alone) (s : Machine C) (h : History) (test : Done → Bool) → OrderFacts w finish s h → ((a : ℕ) → a < length w.text.opening.states → NoneBehind a test h.committed) → IsSerial w finish (filter test h.committed)
unfolding LinkedFrom
rest_serial w finish s h test f missed =
    serial_results w finish (by_place (filter test h.committed)) w.text.opening.states refl (all_sorted (IsExplained w finish) (filter test h.committed) (all_filter (IsExplained w finish) test h.committed f.explained))
    (λ a k. sorted_links a (state_in w.text.opening.states a) (filter test h.committed) (subst RivalsRise (sym (visitors_filter a test h.committed)) (rise_filter test (visitors a h.committed) (f.rise a k)))
    (all_filter (λ d. d.reader ≡ true → LeavesIt (d.views a)) test h.committed (f.still a)) (rest_links a (state_in w.text.opening.states a) test h.committed (missed a k) (f.still a) (f.linked a k)))
