-- Those of a set whose states link, one after the other from a world that has the opening's state on each actor to which they came.
use Rattle.std.specs.Prelude.{◌≡◌, refl, ℕ, ◌<◌, Bool, true, false, ◌&&◌, ◌⊎◌, if◌then◌else◌, Option, Some, None, is_some, List, [], ◌∷◌, length, map, filter}
use Rattle.std.specs.List.{AllByRecursion}
use Rattle.std.proofs.Common.{arith, sym, subst, inl, inr, ◌∙◌, ap}
use Rattle.std.proofs.lemmas.Bool.{true≢false}
use Rattle.snap_base.specs.declared.transactions.State.{State}
use Rattle.protocol.specs.Fixed.{Fixed}
use Rattle.protocol.specs.Facts.{Alone, state_in, serial}
use Rattle.protocol.specs.Parts.{Who, Machine}
use Rattle.protocol.specs.Words.{is_value}
use Rattle.protocol.specs.History.{View, Done, History}
use Rattle.protocol.specs.Chains.{by_place, txs_of, is_place_below, RivalsRise}
use Rattle.protocol_laws.specs.Commits.{Finds, left_of, StatesLink, last_state}
use Rattle.protocol_laws.specs.Linked.{came_to, visitors, IsExplained}
use Rattle.protocol_laws.proofs.first.Lists.{all_filter}
use Rattle.protocol_theorems.specs.Order.{LeavesIt, OrderFacts}
use Rattle.protocol_theorems.proofs.order.ByPlace.{all_sorted}
use Rattle.protocol_theorems.proofs.order.OrderImplied.{LinkedFrom, serial_results, serial_length, serial_states, sorted_links, sorted_last}

-- a part of what rises rises
rise_filter : (test : Done → Bool) (ds : List Done) → RivalsRise ds → RivalsRise (filter test ds)
rise_filter test [] h = tt
rise_filter test (d ∷ ds) h = by (test d) (rise_filter test ds h.1)
  where
    by : (b : Bool) → RivalsRise (filter test ds) → RivalsRise (if b then d ∷ filter test ds else filter test ds)
    by true k = (all_filter (λ e. (d.reader && e.reader) ≡ false → is_place_below d.place e.place ≡ true) test ds h.0, k)
    by false k = k

-- who came, of a part
visitors_filter : (a : ℕ) (test : Done → Bool) (ds : List Done) → visitors a (filter test ds) ≡ filter test (visitors a ds)
visitors_filter a test [] = refl
visitors_filter a test (d ∷ ds) = by (test d) refl (came_to a d) refl (visitors_filter a test ds)
  where
    by : (b : Bool) → test d ≡ b → (c : Bool) → came_to a d ≡ c → visitors a (filter test ds) ≡ filter test (visitors a ds) → visitors a (if b then d ∷ filter test ds else filter test ds) ≡ filter test (if c then d ∷ visitors a ds else visitors a ds)
    by true e true f k = rw (e, f) (ap (λ l. d ∷ l) k)
    by true e false f k = rw f k
    by false e true f k = rw e k
    by false e false f k = k

-- where none of them came states link
none_link : (a : ℕ) (s : State) (ds : List Done) → AllByRecursion (λ d. came_to a d ≡ false) ds → StatesLink a s ds
none_link a s [] h = tt
none_link a s (d ∷ ds) h = (found (d.views a) h.0, none_link a (left_of a d s) ds h.1)
  where
    found : (o : Option View) → is_some o ≡ false → Finds o s
    found None e = tt
    found (Some v) e = absurd (true≢false e)

pub record SerialFrom {C : Type 0} (w : Fixed C) (finish : C → List State → Alone) (world : List State) (ms : List Done) : Type 0 where
  pub results : map Some (serial w.code finish world (txs_of w (by_place ms))).results ≡ map (λ d. d.result) (by_place ms)
  pub as_many : length (serial w.code finish world (txs_of w (by_place ms))).world ≡ length world
  pub states : (a : ℕ) → a < length world → state_in (serial w.code finish world (txs_of w (by_place ms))).world a ≡ last_state a (state_in world a) ms

pub parts_serial_from : {C : Type 0} (w : Fixed C) (finish : C → List State → Alone) (s : Machine C) (h : History) (test : Who → Bool) (world : List State) → OrderFacts w finish s h → length world ≡ length w.text.opening.states
    → ((a : ℕ) → a < length w.text.opening.states → AllByRecursion (λ d. came_to a d ≡ false) (filter (λ d. test d.who && is_value d.result) h.committed) ⊎ (state_in world a ≡ state_in w.text.opening.states a))
    → ((a : ℕ) → a < length w.text.opening.states → StatesLink a (state_in w.text.opening.states a) (filter (λ d. test d.who && is_value d.result) h.committed)) → SerialFrom w finish world (filter (λ d. test d.who && is_value d.result) h.committed)
unfolding LinkedFrom
parts_serial_from {C} w finish s h test world f many there links = record {
  results = serial_results w finish (by_place ms) world many explained sorted;
  as_many = serial_length w finish (by_place ms) world many explained sorted;
  states = λ a k. serial_states w finish (by_place ms) world many explained sorted a k ∙ sorted_last a (state_in world a) ms (rise a (omega (arith, k, many))) (left a) (linked a (omega (arith, k, many)));
}
  where
    ms : List Done
    ms = filter (λ d. test d.who && is_value d.result) h.committed

    explained : AllByRecursion (IsExplained w finish) (by_place ms)
    explained = all_sorted (IsExplained w finish) ms (all_filter (IsExplained w finish) _ h.committed f.explained)

    rise : (a : ℕ) → a < length w.text.opening.states → RivalsRise (visitors a ms)
    rise a k = subst RivalsRise (sym (visitors_filter a (λ d. test d.who && is_value d.result) h.committed)) (rise_filter (λ d. test d.who && is_value d.result) (visitors a h.committed) (f.rise a k))

    left : (a : ℕ) → AllByRecursion (λ d. d.reader ≡ true → LeavesIt (d.views a)) ms
    left a = all_filter (λ d. d.reader ≡ true → LeavesIt (d.views a)) (λ d. test d.who && is_value d.result) h.committed (f.still a)

    linked : (a : ℕ) → a < length w.text.opening.states → StatesLink a (state_in world a) ms
    linked a k = elim (there a k) [
      | inl e ↦ none_link a (state_in world a) ms e
      | inr e ↦ subst (λ z. StatesLink a z ms) (sym e) (links a k)
    ]

    sorted : LinkedFrom world (by_place ms)
    sorted = λ a k. sorted_links a (state_in world a) ms (rise a (omega (arith, k, many))) (left a) (linked a (omega (arith, k, many)))
