-- Floors on all actors, event by event.
use Rattle.std.specs.Prelude.{◌≡◌, refl, ℕ, zero, suc, ◌<◌, ◌≤◌, ◌==◌, max, Bool, true, false, ◌&&◌, ◌||◌, if◌then◌else◌, Option, Some, None, List, [], ◌∷◌, ◌++◌, length, map, filter, slice_index_or}
use Rattle.std.specs.List.{AllByRecursion}
use Rattle.std.proofs.Common.{arith, sym, ap, subst, ◌∙◌}
use Rattle.std.proofs.lemmas.List.{append-nil}
use Rattle.std.proofs.lemmas.Bool.{eqb-true, eq-eqb, and_parts, and_from, or_right}
use Rattle.snap_base.specs.declared.transactions.State.{State}
use Rattle.protocol.specs.Fixed.{Fixed, base}
use Rattle.protocol.specs.Rivals.{Lock}
use Rattle.protocol.specs.Parts.{Act, FloorPair, Cell, Machine}
use Rattle.protocol.specs.Events.{Event, Arrive, Ask, Take, Run, Send, End, Close, Complete, Rollback, Finish, Trim}
use Rattle.protocol.specs.Words.{holds, greatest, is_decided, is_sealed, act_of, sub_of}
use Rattle.protocol.specs.Conditions.{IsAllowed, conditions, epoch}
use Rattle.protocol.specs.Effects.{after, cell_at, no_cell}
use Rattle.protocol.specs.Runs.{opening, new_cell}
use Rattle.protocol.specs.OnCell as cell
use Rattle.protocol.specs.History.{History, no_history, grown, seals}
use Rattle.protocol_theorems.specs.Floors.{is_kind, number_or_0, number_in, FloorIs}
use Rattle.protocol_laws.specs.Highs.{own_floor}
use Rattle.protocol_laws.proofs.machine.DecidedStays.{is_fixed}
use Rattle.protocol_laws.proofs.machine.TracksKept.{beside, beside_same, in_range, arrives}
use Rattle.protocol_laws.proofs.machine.TurnsKept.{one_is}
use Rattle.protocol_laws.proofs.machine.ShowsKept as shows
use Rattle.protocol_laws.proofs.first.Lists.{all_join, filter_join, weaker}
use Rattle.protocol_laws.proofs.first.EpochsKept.{greatest_more}

-- ---- one that is sealed stays so, with its number

abbrev pub is_sealed_as : ℕ → Act → Bool
is_sealed_as n x = is_sealed x.status && (x.m == n)

sealed_fixed : (n : ℕ) (x : Act) → is_sealed_as n x ≡ true → is_fixed n x ≡ true
sealed_fixed n x h = let p = and_parts (is_sealed x.status) (x.m == n) h in and_from (is_decided x.status || is_sealed x.status) (x.m == n) (or_right (is_decided x.status) _ p.0) p.1

-- no event unseals
abbrev pub is_sealed_act : Act → Bool
is_sealed_act x = is_sealed x.status

-- a status that is sealed before is not live or doomed, and stays
sealed_later : {C : Type 0} (w : Fixed C) (e : Event) (s : Machine C) (t : ℕ) → holds is_sealed_act (act_of t s.book.acts) ≡ true → holds is_sealed_act (act_of t (after w e s).book.acts) ≡ true
sealed_later w e s t h = Rattle.protocol_laws.proofs.machine.ActsGrow.grown_holds is_sealed_act s.book.acts (after w e s).book.acts t (λ x y k q. k.sealed q) (Rattle.protocol_laws.proofs.machine.ActsGrow.acts_grow w e s) h

-- the number that the book has of it stays
number_stays : {C : Type 0} (w : Fixed C) (e : Event) (s : Machine C) (h : History) (t : ℕ) → shows.Owed e s h → holds is_sealed_act (act_of t s.book.acts) ≡ true → number_or_0 (act_of t (after w e s).book.acts) ≡ number_or_0 (act_of t s.book.acts)
number_stays w e s h t o q =
    let x = one_is is_sealed_act (act_of t s.book.acts) q in
    let f : holds (is_fixed x.0.m) (act_of t s.book.acts) ≡ true = subst (λ z. holds (is_fixed x.0.m) z ≡ true) (sym x.1) (sealed_fixed x.0.m x.0 (and_from (is_sealed x.0.status) (x.0.m == x.0.m) x.2 (eq-eqb x.0.m x.0.m refl))) in
    let y = one_is (is_fixed x.0.m) (act_of t (after w e s).book.acts) (shows.fixed_stays w e s h x.0.m t o f) in
    ap number_or_0 y.1 ∙ (eqb-true y.0.m x.0.m (and_parts (is_decided y.0.status || is_sealed y.0.status) (y.0.m == x.0.m) y.2).1 ∙ sym (ap number_or_0 x.1))

numbers_stay : {C : Type 0} (w : Fixed C) (e : Event) (s : Machine C) (h : History) (xs : List Lock) → shows.Owed e s h → AllByRecursion (λ x. holds is_sealed_act (act_of x.tid s.book.acts) ≡ true) xs → map (number_in (after w e s).book.acts) xs ≡ map (number_in s.book.acts) xs
numbers_stay w e s h [] o q = refl
numbers_stay w e s h (x ∷ xs) o q = rw (number_stays w e s h x.tid o q.0, numbers_stay w e s h xs o q.1) refl

pub floor_stays : {C : Type 0} (w : Fixed C) (e : Event) (s : Machine C) (h : History) (first floor : ℕ) (xs : List Lock) → shows.Owed e s h → FloorIs first s.book.acts floor xs → FloorIs first (after w e s).book.acts floor xs
floor_stays w e s h first floor xs o g = record {
  sealed = weaker _ _ xs (λ x q. sealed_later w e s x.tid q) g.sealed;
  floor_is = g.floor_is ∙ ap (λ z. max first (greatest z)) (sym (numbers_stay w e s h xs o g.sealed));
}

-- of both kinds
abbrev pub Both : ℕ → List Act → FloorPair → List Lock → Type 0
Both first acts floors xs = (r : Bool) → FloorIs first acts (own_floor r floors) (filter (is_kind r) xs)

both_stay : {C : Type 0} (w : Fixed C) (e : Event) (s : Machine C) (h : History) (first : ℕ) (floors : FloorPair) (xs : List Lock) → shows.Owed e s h → Both first s.book.acts floors xs → Both first (after w e s).book.acts floors xs
both_stay w e s h first floors xs o g = λ r. floor_stays w e s h first (own_floor r floors) (filter (is_kind r) xs) o (g r)

-- ---- an ACT leaves

map_last : (acts : List Act) (xs : List Lock) (x : Lock) → map (number_in acts) (xs ++ x ∷ []) ≡ map (number_in acts) xs ++ number_in acts x ∷ []
map_last acts [] x = refl
map_last acts (y ∷ ys) x = rw (map_last acts ys x) refl

-- those of one kind, with one more
kind_more : (r : Bool) (xs : List Lock) (x : Lock) → filter (is_kind r) (xs ++ x ∷ []) ≡ filter (is_kind r) xs ++ (if is_kind r x then x ∷ [] else [])
kind_more r xs x = filter_join (is_kind r) xs (x ∷ [])

-- by the book before it; the numbers are the same after it
leaves : (first : ℕ) (acts acts' : List Act) (floors : FloorPair) (t : ℕ) (xs : List Lock) (o : Option Act) → act_of t acts ≡ o → (holds is_sealed_act (act_of t acts) ≡ true → holds is_sealed_act (act_of t acts') ≡ true)
    → (holds is_sealed_act (act_of t acts) ≡ true → number_or_0 (act_of t acts') ≡ number_or_0 (act_of t acts)) → Both first acts' floors xs → Both first acts' (cell.floors_after floors o) (xs ++ seals t o)
leaves first acts acts' floors t xs None e k n g = subst (Both first acts' floors) (sym (append-nil xs)) g
leaves first acts acts' floors t xs (Some x) e k n g = by (is_sealed x.status) refl
  where
    one : (r : Bool) → holds is_sealed_act (act_of t acts') ≡ true → number_or_0 (act_of t acts') ≡ x.m → (v : Bool) → FloorIs first acts' (own_floor r (cell.raised_floors v x.m floors)) (filter (is_kind r) xs ++ (if is_kind r (record { tid = t; reader = v }) then record { tid = t; reader = v } ∷ [] else []))
    one true here num true = record {
      sealed = all_join _ (filter (is_kind true) xs) (record { tid = t; reader = true } ∷ []) (g true).sealed (here, tt);
      floor_is = rw (map_last acts' (filter (is_kind true) xs) (record { tid = t; reader = true }), greatest_more (map (number_in acts') (filter (is_kind true) xs)) (number_in acts' (record { tid = t; reader = true }))) (omega (arith, (g true).floor_is, num));
    }
    one true here num false = subst (FloorIs first acts' floors.read) (sym (append-nil (filter (is_kind true) xs))) (g true)
    one false here num true = subst (FloorIs first acts' floors.write) (sym (append-nil (filter (is_kind false) xs))) (g false)
    one false here num false = record {
      sealed = all_join _ (filter (is_kind false) xs) (record { tid = t; reader = false } ∷ []) (g false).sealed (here, tt);
      floor_is = rw (map_last acts' (filter (is_kind false) xs) (record { tid = t; reader = false }), greatest_more (map (number_in acts') (filter (is_kind false) xs)) (number_in acts' (record { tid = t; reader = false }))) (omega (arith, (g false).floor_is, num));
    }

    by : (b : Bool) → is_sealed x.status ≡ b → Both first acts' (if b then cell.raised_floors x.reader x.m floors else floors) (xs ++ (if b then record { tid = t; reader = x.reader } ∷ [] else []))
    by false q = subst (Both first acts' floors) (sym (append-nil xs)) g
    by true q =
        let here : holds is_sealed_act (act_of t acts) ≡ true = subst (λ o. holds is_sealed_act o ≡ true) (sym e) q in
        let num : number_or_0 (act_of t acts') ≡ x.m = n here ∙ ap number_or_0 e in
        λ r. subst (FloorIs first acts' (own_floor r (cell.raised_floors x.reader x.m floors))) (sym (kind_more r xs (record { tid = t; reader = x.reader }))) (one r (k here) num x.reader)

-- ---- all events

abbrev pub At : {C : Type 0} → ℕ → List Act → ℕ → Cell C → List Lock → Type 0
At first acts a c left = Both first acts c.floors left

unfoldable pub Floors : {C : Type 0} → Fixed C → Machine C → History → Type 0
Floors w s h = (a : ℕ) → At (base w.text) s.book.acts a (cell_at s a) (h.left_sealed a)

pub floors_kept : {C : Type 0} (w : Fixed C) (e : Event) (s : Machine C) (h : History) → IsAllowed w e s → shows.Owed e s h → Floors w s h → Floors w (after w e s) (grown w e s h)
unfolding Floors shows.Owed conditions after grown
floors_kept w (Arrive k a) s h ok o g = beside_same (At (base w.text) (after w (Arrive k a) s).book.acts) s.cells a _ h.left_sealed (arrives (epoch s.book) a (λ c. c.epoch == epoch s.book) s.cells (sub_of k a s.post.subs) ok.1.1.0) (λ x. x) (λ b. both_stay w (Arrive k a) s h (base w.text) (cell_at s b).floors (h.left_sealed b) o (g b))
floors_kept w (Ask t a) s h ok o g = beside_same (At (base w.text) (after w (Ask t a) s).book.acts) s.cells a _ h.left_sealed (in_range _ s.cells a ok.1.1.0) (λ x. x) (λ b. both_stay w (Ask t a) s h (base w.text) (cell_at s b).floors (h.left_sealed b) o (g b))
floors_kept w (Take t a) s h ok o g = beside_same (At (base w.text) s.book.acts) s.cells a _ h.left_sealed (in_range _ s.cells a ok.1.0) (λ x. x) g
floors_kept w (Run t a) s h ok o g = beside_same (At (base w.text) s.book.acts) s.cells a _ h.left_sealed (in_range _ s.cells a ok.0) (λ x. x) g
floors_kept w (Send t a) s h ok o g = beside_same (At (base w.text) s.book.acts) s.cells a _ h.left_sealed (in_range _ s.cells a ok.0) (λ x. x) g
floors_kept w (End t a) s h ok o g = beside_same (At (base w.text) (after w (End t a) s).book.acts) s.cells a _ h.left_sealed (in_range _ s.cells a ok.0) (λ x. x) (λ b. both_stay w (End t a) s h (base w.text) (cell_at s b).floors (h.left_sealed b) o (g b))
floors_kept w (Close t a) s h ok o g = beside_same (At (base w.text) s.book.acts) s.cells a _ h.left_sealed (in_range _ s.cells a ok.1.0) (λ x. x) g
floors_kept w (Complete k a) s h ok o g = beside_same (At (base w.text) s.book.acts) s.cells a _ h.left_sealed (in_range _ s.cells a ok.0) (λ x. x) g
floors_kept w (Rollback a) s h ok o g = beside_same (At (base w.text) s.book.acts) s.cells a _ h.left_sealed (in_range _ s.cells a ok.0) (λ x. x) g
floors_kept w (Finish t a) s h ok o g =
    beside (At (base w.text) (after w (Finish t a) s).book.acts) s.cells a _ _ h.left_sealed o
    (leaves (base w.text) s.book.acts (after w (Finish t a) s).book.acts (cell_at s a).floors t (h.left_sealed a) (act_of t s.book.acts) refl (sealed_later w (Finish t a) s t) (number_stays w (Finish t a) s h t o))
    (λ b. both_stay w (Finish t a) s h (base w.text) (cell_at s b).floors (h.left_sealed b) o (g b))
floors_kept w (Trim k a) s h ok o g = beside_same (At (base w.text) s.book.acts) s.cells a _ h.left_sealed o (λ x. x) g
floors_kept w e s h ok o g = λ b. both_stay w e s h (base w.text) (cell_at s b).floors (h.left_sealed b) o (g b)

-- ---- no floor is below the first one

abbrev pub Low : {C : Type 0} → ℕ → ℕ → ℕ → Cell C → Unit {0} → Type 0
Low n first a c x = (r : Bool) → a < n → first ≤ own_floor r c.floors

unfoldable pub Based : {C : Type 0} → Fixed C → Machine C → Type 0
Based w s = (a : ℕ) (r : Bool) → a < length w.text.opening.states → base w.text ≤ own_floor r (cell_at s a).floors

pub based_kept : {C : Type 0} (w : Fixed C) (e : Event) (s : Machine C) (h : History) → IsAllowed w e s → shows.Owed e s h → Based w s → Based w (after w e s)
unfolding Based shows.Owed conditions after
based_kept w (Arrive k a) s h ok o g = beside_same (Low (length w.text.opening.states) (base w.text)) s.cells a _ (λ b. tt) (arrives (epoch s.book) a (λ c. c.epoch == epoch s.book) s.cells (sub_of k a s.post.subs) ok.1.1.0) (λ x. x) g
based_kept w (Ask t a) s h ok o g = beside_same (Low (length w.text.opening.states) (base w.text)) s.cells a _ (λ b. tt) (in_range _ s.cells a ok.1.1.0) (λ x. x) g
based_kept w (Take t a) s h ok o g = beside_same (Low (length w.text.opening.states) (base w.text)) s.cells a _ (λ b. tt) (in_range _ s.cells a ok.1.0) (λ x. x) g
based_kept w (Run t a) s h ok o g = beside_same (Low (length w.text.opening.states) (base w.text)) s.cells a _ (λ b. tt) (in_range _ s.cells a ok.0) (λ x. x) g
based_kept w (Send t a) s h ok o g = beside_same (Low (length w.text.opening.states) (base w.text)) s.cells a _ (λ b. tt) (in_range _ s.cells a ok.0) (λ x. x) g
based_kept w (End t a) s h ok o g = beside_same (Low (length w.text.opening.states) (base w.text)) s.cells a _ (λ b. tt) (in_range _ s.cells a ok.0) (λ x. x) g
based_kept w (Close t a) s h ok o g = beside_same (Low (length w.text.opening.states) (base w.text)) s.cells a _ (λ b. tt) (in_range _ s.cells a ok.1.0) (λ x. x) g
based_kept w (Complete k a) s h ok o g = beside_same (Low (length w.text.opening.states) (base w.text)) s.cells a _ (λ b. tt) (in_range _ s.cells a ok.0) (λ x. x) g
based_kept w (Rollback a) s h ok o g = beside_same (Low (length w.text.opening.states) (base w.text)) s.cells a _ (λ b. tt) (in_range _ s.cells a ok.0) (λ x. x) g
based_kept w (Finish t a) s h ok o g = beside_same (Low (length w.text.opening.states) (base w.text)) s.cells a _ (λ b. tt) o (λ x r l. omega (arith, x r l, shows.own_rises r (cell_at s a).floors (act_of t s.book.acts))) g
based_kept w (Trim k a) s h ok o g = beside_same (Low (length w.text.opening.states) (base w.text)) s.cells a _ (λ b. tt) o (λ x. x) g
based_kept w e s h ok o g = g

-- ---- over every run

pub record FloorsStand {C : Type 0} (w : Fixed C) (s : Machine C) (h : History) : Type 0 where
  pub floors : Floors w s h
  pub based : Based w s

pub opened : {C : Type 0} (w : Fixed C) → FloorsStand w (opening w) no_history
unfolding Floors Based
opened {C} w = record { floors = λ a r. record { sealed = tt; floor_is = low r w.text.opening.states a }; based = λ a r l. high r w.text.opening.states a l }
  where
    low : (r : Bool) (states : List State) (a : ℕ) → max (base w.text) (own_floor r (slice_index_or (map (new_cell {C = C} (base w.text)) states) a no_cell).floors) ≡ max (base w.text) 0
    low true [] a = refl
    low false [] a = refl
    low true (x ∷ xs) zero = omega arith
    low false (x ∷ xs) zero = omega arith
    low r (x ∷ xs) (suc a) = low r xs a

    high : (r : Bool) (states : List State) (a : ℕ) → a < length states → base w.text ≤ own_floor r (slice_index_or (map (new_cell {C = C} (base w.text)) states) a no_cell).floors
    high r [] a l = absurd (omega (arith, l))
    high true (x ∷ xs) zero l = omega arith
    high false (x ∷ xs) zero l = omega arith
    high r (x ∷ xs) (suc a) l = high r xs a (omega (arith, l))

pub floor_is : {C : Type 0} (w : Fixed C) (s : Machine C) (h : History) → FloorsStand w s h → (a : ℕ) (r : Bool) → a < length w.text.opening.states → own_floor r (cell_at s a).floors ≡ max (base w.text) (greatest (map (number_in s.book.acts) (filter (is_kind r) (h.left_sealed a))))
unfolding Floors Based
floor_is w s h g a r l = omega (arith, (g.floors a r).floor_is, g.based a r l)
