-- The tests on the members and actors that are kept tell the order of placing of `audit_words`.
use Rattle.std.specs.Prelude.{◌≡◌, refl, ℕ, zero, suc, ◌<◌, ◌≤◌, ◌==◌, not, Bool, true, false, ◌&&◌, ◌||◌, if◌then◌else◌, is_some, MatchBool, Option, Some, None, List, [], ◌∷◌, ◌++◌, length, filter, map, slice_get}
use Rattle.std.specs.List.{AllByRecursion, flat_map}
use Rattle.std.proofs.Common.{arith, sym, ap, subst, inl, inr, ◌∙◌}
use Rattle.std.proofs.lemmas.Bool.{and_from, and_parts, cases_lt, ne_eqb}
use Rattle.std.proofs.lemmas.List.{map-append}
use Rattle.snap_base.proofs.Lists.{all_filter, all_join, map_twice, one_at}
use Rattle.snap_base.specs.declared.ids.Tid.{Tid}
use Rattle.snap_base.specs.declared.transactions.Who as whose
use Rattle.snap_base.specs.declared.transactions.Who.TheVariants.{Batch, Act}
use Rattle.snap_base.specs.declared.verdicts.Place.{Place}
use Rattle.protocol.specs.Chains.{Precedes, chain, stands_for}
use Rattle.protocol.specs.Fixed.{Text}
use Rattle.protocol.specs.History.{Done}
use Rattle.protocol.specs.Meant.{tid_number, who_meant}
use Rattle.protocol.specs.Parts.{Who, OfBatch, OfAct}
use Rattle.protocol.specs.Words.{is_among}
use Rattle.audit_words.specs.Clauses.{TellsOrder}
use Rattle.audit_words.specs.Orders.{RiseTo, seen_done, seen_history, seen_view}
use Rattle.audit_words.specs.Papers.{Line, Reply}
use Rattle.audit_words.specs.Seen.{Member, Seen}
use Rattle.audit_tale.specs.Knows.{member_of}
use Rattle.audit_tale.specs.Stands.{KnowsAll}
use Rattle.audit_tale.specs.declared.tales.MemberTale.{MemberTale}
use Rattle.audit_tale.specs.declared.told.ActorTale.{ActorTale}
use Rattle.audit_tale.specs.declared.told.Told.{Told}
use Rattle.trace_audit.specs.Risen.{TellsChains, all_rise, chain_of, is_above, is_of_act, is_of_batch, line_rises, mark_of, readers_top, rises_to, standing, writers_top}
use Rattle.trace_audit.proofs.Rising.{chain_of_pairs, done_of, pairs_of_chain}

-- ---- the chain of an actor

filter_map : {X Y : Type 0} (p : Y → Bool) (f : X → Y) (xs : List X) → filter p (map f xs) ≡ map f (filter (λ x. p (f x)) xs)
filter_map p f [] = refl
filter_map p f (x ∷ xs) = by (p (f x)) (filter_map p f xs)
  where
    by : (b : Bool) → filter p (map f xs) ≡ map f (filter (λ x. p (f x)) xs) → (if b then f x ∷ filter p (map f xs) else filter p (map f xs)) ≡ map f (if b then x ∷ filter (λ x. p (f x)) xs else filter (λ x. p (f x)) xs)
    by true e = ap (λ z. f x ∷ z) e
    by false e = e

filter_twice : (p q r : MemberTale → Bool) (xs : List MemberTale) → ((x : MemberTale) → r x ≡ (p x && q x)) → filter r xs ≡ filter q (filter p xs)
filter_twice p q r [] h = refl
filter_twice p q r (x ∷ xs) h = ap (λ (b : Bool). if b then x ∷ filter r xs else filter r xs) (h x) ∙ by (p x) (q x) refl (filter_twice p q r xs h)
  where
    by : (b c : Bool) → q x ≡ c → filter r xs ≡ filter q (filter p xs) → (if b && c then x ∷ filter r xs else filter r xs) ≡ filter q (if b then x ∷ filter p xs else filter p xs)
    by true c g e = ap (λ (z : List MemberTale). if c then x ∷ z else z) e ∙ ap (λ (d : Bool). if d then x ∷ filter q (filter p xs) else filter q (filter p xs)) (sym g)
    by false c g e = e

filter_same : (p q : MemberTale → Bool) (xs : List MemberTale) → ((x : MemberTale) → p x ≡ q x) → filter p xs ≡ filter q xs
filter_same p q [] h = refl
filter_same p q (x ∷ xs) h = ap (λ (b : Bool). if b then x ∷ filter p xs else filter p xs) (h x) ∙ ap (λ (z : List MemberTale). if q x then x ∷ z else z) (filter_same p q xs h)

seen_there : (b : Bool) → is_some (seen_view b) ≡ b
seen_there true = refl
seen_there false = refl

for_batch : (s : Seen) (a k : ℕ) (ran : List Tid) (m : MemberTale) → map tid_number ran ≡ s.ran a → stands_for a (OfBatch k) (done_of s.ran m) ≡ (is_of_batch k m.who && is_among m.tid.0 (map tid_number ran))
for_batch s a k ran m e = ap (λ (b : Bool). is_of_batch k m.who && b) (seen_there (is_among m.tid.0 (s.ran a)) ∙ ap (is_among m.tid.0) (sym e))

for_act : (s : Seen) (a t : ℕ) (m : MemberTale) → stands_for a (OfAct t) (done_of s.ran m) ≡ is_of_act t m.who
for_act s a t m = by (is_of_act t m.who)
  where
    by : (b : Bool) → (b && true) ≡ b
    by true = refl
    by false = refl

one_stands : (s : Seen) (a : ℕ) (ms : List MemberTale) (ran : List Tid) (who : whose.Who) → map tid_number ran ≡ s.ran a
    → filter (stands_for a (who_meant who)) (map (done_of s.ran) ms) ≡ map (done_of s.ran) (standing ms ran who)
one_stands s a ms ran (Batch k) e = filter_map (stands_for a (OfBatch k.0)) (done_of s.ran) ms
    ∙ ap (map (done_of s.ran)) (filter_twice (λ m. is_of_batch k.0 m.who) (λ m. is_among m.tid.0 (map tid_number ran)) (λ m. stands_for a (OfBatch k.0) (done_of s.ran m)) ms (λ m. for_batch s a k.0 ran m e))
one_stands s a ms ran (Act t) e = filter_map (stands_for a (OfAct t.0)) (done_of s.ran) ms
    ∙ ap (map (done_of s.ran)) (filter_same (λ m. stands_for a (OfAct t.0) (done_of s.ran m)) (λ m. is_of_act t.0 m.who) ms (λ m. for_act s a t.0 m))

all_stand : (s : Seen) (a : ℕ) (ms : List MemberTale) (ran : List Tid) (ws : List whose.Who) → map tid_number ran ≡ s.ran a
    → flat_map (λ who. filter (stands_for a who) (map (done_of s.ran) ms)) (map who_meant ws) ≡ map (done_of s.ran) (flat_map (standing ms ran) ws)
all_stand s a ms ran [] e = refl
all_stand s a ms ran (who ∷ ws) e =
    ap (λ (z : List Done). z ++ flat_map (λ who. filter (stands_for a who) (map (done_of s.ran) ms)) (map who_meant ws)) (one_stands s a ms ran who e)
    ∙ (ap (λ (z : List Done). map (done_of s.ran) (standing ms ran who) ++ z) (all_stand s a ms ran ws e)
    ∙ sym (map-append (done_of s.ran) (standing ms ran who) (flat_map (standing ms ran) ws)))

chain_told : (s : Seen) (ms : List MemberTale) (xs : List ActorTale) (a : ℕ) (x : ActorTale) → TellsChains s ms xs → slice_get xs a ≡ Some x → chain a (seen_history s) ≡ map (done_of s.ran) (chain_of ms x)
chain_told s ms xs a x k e =
    ap (λ (z : List Member). flat_map (λ who. filter (stands_for a who) (map (seen_done s.ran) z)) (s.placed a)) (sym k.members)
    ∙ (ap (λ (z : List Who). flat_map (λ who. filter (stands_for a who) (map (seen_done s.ran) (map member_of ms))) z) (sym (k.placed a x e))
    ∙ (ap (λ (z : List Done). flat_map (λ who. filter (stands_for a who) z) (map who_meant x.placed.items)) (map_twice (seen_done s.ran) member_of ms)
    ∙ all_stand s a ms x.ran.items x.placed.items (k.ran a x e)))

no_chain : (s : Seen) (ms : List MemberTale) (xs : List ActorTale) (a : ℕ) → TellsChains s ms xs → length xs ≤ a → chain a (seen_history s) ≡ []
no_chain s ms xs a k h = ap (λ (z : List Who). flat_map (λ who. filter (stands_for a who) (map (seen_done s.ran) s.members)) z) (k.nobody a h)

-- ---- a transaction

at_actor : (n : ℕ) (ms : List MemberTale) (xs : List ActorTale) (a : ℕ) (x : ActorTale) → all_rise n ms xs ≡ true → slice_get xs a ≡ Some x → rises_to n None None (chain_of ms x) ≡ true
at_actor n ms [] a x h e = absurd (cc)
at_actor n ms (y ∷ xs) zero x h e = let same : y ≡ x = cc in subst (λ (z : ActorTale). rises_to n None None (chain_of ms z) ≡ true) same (and_parts (rises_to n None None (chain_of ms y)) (all_rise n ms xs) h).0
at_actor n ms (y ∷ xs) (suc a) x h e = at_actor n ms xs a x (and_parts (rises_to n None None (chain_of ms y)) (all_rise n ms xs) h).1 e

by_actors : (n : ℕ) (ms : List MemberTale) (xs : List ActorTale) → ((a : ℕ) (x : ActorTale) → slice_get xs a ≡ Some x → rises_to n None None (chain_of ms x) ≡ true) → all_rise n ms xs ≡ true
by_actors n ms [] h = refl
by_actors n ms (x ∷ xs) h = and_from (rises_to n None None (chain_of ms x)) (all_rise n ms xs) (h 0 x refl) (by_actors n ms xs (λ a y e. h (suc a) y e))

none_precedes : (t u : ℕ) (p : Precedes t u []) → ⊥
none_precedes t u p = by p.front p.splits
  where
    by : (front : List Done) → [] ≡ front ++ p.first ∷ (p.between ++ p.second ∷ p.rest) → ⊥
    by [] e = cc
    by (x ∷ front) e = cc

rises_told : (s : Seen) (ms : List MemberTale) (xs : List ActorTale) (n : ℕ) → TellsChains s ms xs → all_rise n ms xs ≡ true → RiseTo n (seen_history s)
rises_told s ms xs n k h a t u p e = elim (cases_lt a (length xs)) [
  | inl less ↦
      let one = one_at xs a less in
      pairs_of_chain s.ran n (chain_of ms one.0) (at_actor n ms xs a one.0 h one.1) t u (subst (Precedes t u) (chain_told s ms xs a one.0 k one.1) p) e
  | inr more ↦ absurd (none_precedes t u (subst (Precedes t u) (no_chain s ms xs a k more) p))
]

told_rises : (s : Seen) (ms : List MemberTale) (xs : List ActorTale) (n : ℕ) → TellsChains s ms xs → RiseTo n (seen_history s) → all_rise n ms xs ≡ true
told_rises s ms xs n k h = by_actors n ms xs (λ a x e. chain_of_pairs s.ran n (chain_of ms x) (λ t u p q. h a t u (subst (Precedes t u) (sym (chain_told s ms xs a x k e)) p) q))

-- ---- a transaction that no member is of

rises_past : (n many : ℕ) (writers readers : Option Place) (ms : List MemberTale) → many ≤ n → AllByRecursion (λ m. m.tx.0 < many) ms → rises_to n writers readers ms ≡ true
rises_past n many writers readers [] h k = refl
rises_past n many writers readers (m ∷ ms) h k =
    let no : (m.tx.0 == n) ≡ false = ne_eqb m.tx.0 n (λ e. omega (arith, h, k.0, e)) in
    ap (λ (b : Bool). (not b || is_above writers readers m) && rises_to n (writers_top writers m) (readers_top readers m) ms) no
    ∙ rises_past n many (writers_top writers m) (readers_top readers m) ms h k.1

stand_below : (many : ℕ) (ms : List MemberTale) (ran : List Tid) (ws : List whose.Who) → AllByRecursion (λ m. m.tx.0 < many) ms → AllByRecursion (λ m. m.tx.0 < many) (flat_map (standing ms ran) ws)
stand_below many ms ran [] h = tt
stand_below many ms ran (who ∷ ws) h = all_join (λ m. m.tx.0 < many) (standing ms ran who) (flat_map (standing ms ran) ws) (one who) (stand_below many ms ran ws h)
  where
    one : (who : whose.Who) → AllByRecursion (λ m. m.tx.0 < many) (standing ms ran who)
    one (Batch k) = all_filter (λ m. m.tx.0 < many) (λ m. is_among m.tid.0 (map tid_number ran)) (filter (λ m. is_of_batch k.0 m.who) ms) (all_filter (λ m. m.tx.0 < many) (λ m. is_of_batch k.0 m.who) ms h)
    one (Act t) = all_filter (λ m. m.tx.0 < many) (λ m. is_of_act t.0 m.who) ms h

rise_past : (n many : ℕ) (ms : List MemberTale) (xs : List ActorTale) → many ≤ n → AllByRecursion (λ m. m.tx.0 < many) ms → all_rise n ms xs ≡ true
rise_past n many ms [] h k = refl
rise_past n many ms (x ∷ xs) h k = and_from (rises_to n None None (chain_of ms x)) (all_rise n ms xs) (rises_past n many None None (chain_of ms x) h (stand_below many ms x.ran.items x.placed.items k)) (rise_past n many ms xs h k)

mark_past : (marks : List Bool) (n : ℕ) → length marks ≤ n → mark_of marks n ≡ true
mark_past [] n h = refl
mark_past (b ∷ marks) zero h = absurd (omega (arith, h))
mark_past (b ∷ marks) (suc n) h = mark_past marks n (omega (arith, h))

marks_told : (ms : List MemberTale) (xs : List ActorTale) (marks : List Bool) → AllByRecursion (λ m. m.tx.0 < length marks) ms → ((n : ℕ) → n < length marks → mark_of marks n ≡ all_rise n ms xs) → (n : ℕ) → mark_of marks n ≡ all_rise n ms xs
marks_told ms xs marks l h n = elim (cases_lt n (length marks)) [
  | inl less ↦ h n less
  | inr more ↦ mark_past marks n more ∙ sym (rise_past n (length marks) ms xs more l)
]

-- ---- a line

when : {P : Type 0} (b : Bool) → (b ≡ true → P) → (P → b ≡ true) → MatchBool b P (¬ P)
when true f g = f refl
when false f g = λ p. absurd (by (g p))
  where
    by : false ≡ true → ⊥
    by e = cc

pub order_decides : (s : Seen) (ms : List MemberTale) (xs : List ActorTale) (marks : List Bool) → TellsChains s ms xs → AllByRecursion (λ m. m.tx.0 < length marks) ms → ((n : ℕ) → n < length marks → mark_of marks n ≡ all_rise n ms xs)
    → (front : List Line) (l : Line) → MatchBool (line_rises marks l) (TellsOrder s front l) (¬ TellsOrder s front l)
order_decides s ms xs marks k l h front (Reply n v) = when (mark_of marks n) (λ e. rises_told s ms xs n k (sym (marks_told ms xs marks l h n) ∙ e)) (λ r. marks_told ms xs marks l h n ∙ told_rises s ms xs n k r)
order_decides s ms xs marks k l h front _ = tt

-- ---- all that is known tells the chains

pub known_chains : (w : Text) (t : Told) (s : Seen) → KnowsAll w t s → TellsChains s t.tale.members.items t.actors.items
known_chains w t s k = record {
  members = k.names.members;
  placed = λ a x e. (k.stands.actors a x e).placed;
  ran = λ a x e. (k.stands.actors a x e).ran;
  nobody = λ a h. (k.stands.nobody a h).1;
}
