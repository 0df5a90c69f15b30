-- No two that have their place have the same one: a batch gets its places once, each of its PACTs by its own tid, and each ACT draws a
-- number of its own. So no two places that papers in order tell are equal.
use Rattle.std.specs.Prelude.{◌≡◌, ◌≢◌, refl, ℕ, ◌+◌, ◌<◌, ◌≤◌, ◌==◌, nat_lt, Bool, true, false, ◌&&◌, ◌||◌, if◌then◌else◌, ◌⊎◌, Option, Some, None, List, [], ◌∷◌, ◌++◌, map, ⊤}
use Rattle.std.specs.List.{AllByRecursion}
use Rattle.std.proofs.Common.{arith, sym, ap, subst, inl, inr, ◌∙◌}
use Rattle.std.proofs.lemmas.Bool.{true≢false, and_from, cases_lt, eq-eqb, lt-ltb, or_left, or_parts, or_right}
use Rattle.std.proofs.lemmas.List.{append-nil}
use Rattle.snap_base.proofs.Lists.{all_found, all_join, all_push, both_all, weaker}
use Rattle.snap_base.specs.declared.transactions.Tx.{Tx}
use Rattle.snap_base.specs.declared.verdicts.Place.{Place}
use Rattle.snap_base.specs.declared.verdicts.Verdict.TheVariants as verdicts
use Rattle.protocol.specs.Chains.{is_place_below, PlacesRise}
use Rattle.protocol.specs.Events.{Event, Form, Arrive, Ask, Commit, Settle, Abort, Decide, Finish}
use Rattle.protocol.specs.Fixed.{Text}
use Rattle.protocol.specs.History.{Done}
use Rattle.protocol.specs.OnRing.{Formed, numbered, planned}
use Rattle.protocol.specs.Parts.{Pact, OfBatch, OfAct}
use Rattle.protocol.specs.Verdicts.{pact_place}
use Rattle.protocol.specs.Words.{count, is_act_who, is_who, least_older}
use Rattle.protocol_laws.specs.Linked.{PlacesDiffer}
use Rattle.protocol_theorems.proofs.Lemmas.{rises_sorted}
use Rattle.audit_words.specs.Audited.{Audited, EachLine}
use Rattle.audit_words.specs.Clauses.{IsPlacedAt, Language, TellsPlace, located}
use Rattle.audit_words.specs.Happenings.{act_member, added, comes, committing, deciding, happened, may_abort, may_ask, met, pact_member, seen, seen_from}
use Rattle.audit_words.specs.Papers.{Line, Reply}
use Rattle.audit_words.specs.Seen.{Begun, Member, Seen, act_in, batch_in, has_its_place, nothing_seen}
use Rattle.audit_words.specs.Serial.{told}
use Rattle.audit_laws.proofs.LinesTell.{TxsDiffer, located_once}
use Rattle.audit_laws.proofs.NamesSeen.{asked, batches_stay, either}
use Rattle.audit_laws.proofs.SimulatedLists.{count_join}

-- ---- of two places that are not the same one is below the other

tried : (a b : ℕ) (x y : Bool) → (a ≡ b → (x ≡ true) ⊎ (y ≡ true)) → ((nat_lt a b || ((a == b) && x)) ≡ true) ⊎ ((nat_lt b a || ((b == a) && y)) ≡ true)
tried a b x y k = elim (cases_lt a b) [
  | inl l ↦ inl (or_left (nat_lt a b) ((a == b) && x) (lt-ltb a b l))
  | inr g ↦ elim (cases_lt b a) [
    | inl l ↦ inr (or_left (nat_lt b a) ((b == a) && y) (lt-ltb b a l))
    | inr h ↦
        let e : a ≡ b = omega (arith, g, h) in
        elim (k e) [
          | inl q ↦ inl (or_right (nat_lt a b) ((a == b) && x) (and_from (a == b) x (eq-eqb a b e) q))
          | inr q ↦ inr (or_right (nat_lt b a) ((b == a) && y) (and_from (b == a) y (eq-eqb b a (sym e)) q))
        ]
  ]
]

same_parts : (p q : Place) → p.batch.0 ≡ q.batch.0 → p.side ≡ q.side → p.order ≡ q.order → p ≡ q
same_parts p q e f g = ap (at p.side p.order) e ∙ (ap (λ (s : ℕ). at s p.order q.batch.0) f ∙ ap (λ (o : ℕ). at q.side o q.batch.0) g)
  where
    at : ℕ → ℕ → ℕ → Place
    at side order k = record { batch = record { 0 = k }; side = side; order = order }

either_below : (p q : Place) → p ≢ q → (is_place_below p q ≡ true) ⊎ (is_place_below q p ≡ true)
either_below p q n = tried p.batch.0 q.batch.0 _ _ (λ e. tried p.side q.side _ _ (λ f. by e f))
  where
    by : p.batch.0 ≡ q.batch.0 → p.side ≡ q.side → (nat_lt p.order q.order ≡ true) ⊎ (nat_lt q.order p.order ≡ true)
    by e f = elim (cases_lt p.order q.order) [
      | inl l ↦ inl (lt-ltb p.order q.order l)
      | inr g ↦ elim (cases_lt q.order p.order) [
        | inl l ↦ inr (lt-ltb q.order p.order l)
        | inr h ↦ absurd (n (same_parts p q e f (omega (arith, g, h))))
      ]
    ]

-- ---- the PACTs of a batch

-- each tid is above the one before it
abbrev TidsRise : ℕ → List Pact → Type 0
TidsRise low [] = ⊤
TidsRise low (p ∷ ps) = (low ≤ p.tid) × TidsRise (p.tid + 1) ps

numbered_rise : (t : ℕ) (ns : List ℕ) → TidsRise t (numbered t ns)
numbered_rise t [] = tt
numbered_rise t (n ∷ ns) = (omega arith, numbered_rise (t + 1) ns)

from_any : (low : ℕ) (ps : List Pact) → TidsRise low ps → TidsRise 0 ps
from_any low [] h = tt
from_any low (p ∷ ps) h = (omega arith, h.1)

above : (low : ℕ) (ps : List Pact) → TidsRise low ps → AllByRecursion (λ p. low ≤ p.tid) ps
above low [] h = tt
above low (p ∷ ps) h = (h.0, weaker (λ (q : Pact). p.tid + 1 ≤ q.tid) (λ (q : Pact). low ≤ q.tid) ps (λ q l. omega (arith, l, h.0)) (above (p.tid + 1) ps h.1))

-- ---- who has its place

abbrev PlacesApart : List Member → Type 0
PlacesApart [] = ⊤
PlacesApart (m ∷ ms) = AllByRecursion (λ x. m.place ≢ x.place) ms × PlacesApart ms

-- its place is that of a PACT of its batch, or it is an ACT's, with a number below c
abbrev IsSeated : ℕ → Member → Type 0
IsSeated c m = ((k : ℕ) × ((m.who ≡ OfBatch k) × (m.place ≡ pact_place k m.tid))) ⊎ ((m.place.side ≡ 1) × (m.place.order < c))

abbrev acts_in : List Member → ℕ
acts_in ms = count (λ m. is_act_who m.who) ms

-- the ACTs among these have drawn numbers from c on
record AreSeated (c : ℕ) (ms : List Member) : Type 0 where
  seated : AllByRecursion (IsSeated (c + acts_in ms)) ms
  apart : PlacesApart ms

seated_below : (c d : ℕ) → c ≤ d → (m : Member) → IsSeated c m → IsSeated d m
seated_below c d l m (inl k) = inl k
seated_below c d l m (inr k) = inr (k.0, omega (arith, l, k.1))

apart_join : (xs ys : List Member) → PlacesApart xs → PlacesApart ys → AllByRecursion (λ x. AllByRecursion (λ y. x.place ≢ y.place) ys) xs → PlacesApart (xs ++ ys)
apart_join [] ys h k a = k
apart_join (x ∷ xs) ys h k a = (all_join (λ y. x.place ≢ y.place) xs ys h.0 a.0, apart_join xs ys h.1 k a.1)

nobody : (k : ℕ) (ms : List Member) → has_its_place (OfBatch k) ms ≡ false → AllByRecursion (λ m. is_who (OfBatch k) m.who ≡ false) ms
nobody k [] h = tt
nobody k (m ∷ ms) h = let q = or_parts (is_who (OfBatch k) m.who) (has_its_place (OfBatch k) ms) h in (q.0, nobody k ms q.1)

-- ---- a batch commits

others_above : (k t : ℕ) (ps : List Pact) → AllByRecursion (λ q. t + 1 ≤ q.tid) ps → AllByRecursion (λ m. pact_place k t ≢ m.place) (map (pact_member k) ps)
others_above k t [] h = tt
others_above k t (q ∷ ps) h = (λ e. let f : t ≡ q.tid = ap (λ (z : Place). z.order) e in absurd (omega (arith, f, h.0)), others_above k t ps h.1)

pacts_apart : (k low : ℕ) (ps : List Pact) → TidsRise low ps → PlacesApart (map (pact_member k) ps)
pacts_apart k low [] h = tt
pacts_apart k low (p ∷ ps) h = (others_above k p.tid ps (above (p.tid + 1) ps h.1), pacts_apart k (p.tid + 1) ps h.1)

pacts_seated : (c k : ℕ) (ps : List Pact) → AllByRecursion (IsSeated c) (map (pact_member k) ps)
pacts_seated c k [] = tt
pacts_seated c k (p ∷ ps) = (inl (k, (refl, refl)), pacts_seated c k ps)

-- nobody else has a place of the batch
no_pact : (c k t : ℕ) (m : Member) → IsSeated c m → is_who (OfBatch k) m.who ≡ false → m.place ≢ pact_place k t
no_pact c k t m (inl (j, (w, q))) n e =
    let same : j ≡ k = ap (λ (z : Place). z.batch.0) (sym q ∙ e) in
    absurd (true≢false (sym (eq-eqb k j (sym same)) ∙ (ap (is_who (OfBatch k)) (sym w) ∙ n)))
no_pact c k t m (inr (s, l)) n e = let side : m.place.side ≡ 0 = ap (λ (z : Place). z.side) e in absurd (omega (arith, s, side))

none_of_these : (c k : ℕ) (m : Member) (ps : List Pact) → IsSeated c m → is_who (OfBatch k) m.who ≡ false → AllByRecursion (λ y. m.place ≢ y.place) (map (pact_member k) ps)
none_of_these c k m [] s n = tt
none_of_these c k m (p ∷ ps) s n = (no_pact c k p.tid m s n, none_of_these c k m ps s n)

committing_seated : (c k : ℕ) (o : Option Formed) (ms : List Member) → ((b : Formed) → o ≡ Some b → TidsRise 0 b.pacts) → AreSeated c ms → AreSeated c (ms ++ committing k o ms)
committing_seated c k None ms f h = subst (AreSeated c) (sym (append-nil ms)) h
committing_seated c k (Some b) ms f h = by (has_its_place (OfBatch k) ms) refl
  where
    by : (z : Bool) → has_its_place (OfBatch k) ms ≡ z → AreSeated c (ms ++ (if z then [] else map (pact_member k) b.pacts))
    by true e = subst (AreSeated c) (sym (append-nil ms)) h
    by false e =
        let new = map (pact_member k) b.pacts in
        record {
          seated = all_join (IsSeated (c + acts_in (ms ++ new))) ms new
              (weaker (IsSeated (c + acts_in ms)) (IsSeated (c + acts_in (ms ++ new))) ms (seated_below (c + acts_in ms) (c + acts_in (ms ++ new)) (omega (arith, count_join ms new))) h.seated)
              (pacts_seated (c + acts_in (ms ++ new)) k b.pacts);
          apart = apart_join ms new h.apart (pacts_apart k 0 b.pacts (f b refl))
              (both_all (IsSeated (c + acts_in ms)) (λ (m : Member). is_who (OfBatch k) m.who ≡ false) (λ (m : Member). AllByRecursion (λ y. m.place ≢ y.place) new) ms
              (λ m s n. none_of_these (c + acts_in ms) k m b.pacts s n) h.seated (nobody k ms e));
        }

-- ---- an ACT is decided

no_act : (c : ℕ) (m : Member) (p : Place) → IsSeated c m → p.side ≡ 1 → p.order ≡ c → m.place ≢ p
no_act c m p (inl (j, (w, q))) s o e = let side : 0 ≡ p.side = ap (λ (z : Place). z.side) (sym q ∙ e) in absurd (omega (arith, s, side))
no_act c m p (inr (t, l)) s o e = let order : m.place.order ≡ p.order = ap (λ (z : Place). z.order) e in absurd (omega (arith, l, o, order))

deciding_seated : (w : Text) (t : Seen) (o : Option Begun) → AreSeated w.opening.next_c t.members → AreSeated w.opening.next_c (t.members ++ deciding w o t)
deciding_seated w t None h = subst (AreSeated w.opening.next_c) (sym (append-nil t.members)) h
deciding_seated w t (Some x) h = by (has_its_place (OfAct x.tid) t.members)
  where
    by : (z : Bool) → AreSeated w.opening.next_c (t.members ++ (if z then [] else act_member w t x ∷ []))
    by true = subst (AreSeated w.opening.next_c) (sym (append-nil t.members)) h
    by false =
        let c = w.opening.next_c in
        let ms = t.members in
        let m = act_member w t x in
        let one : acts_in (m ∷ []) ≡ 1 = refl in
        let more : acts_in (ms ++ m ∷ []) ≡ acts_in ms + 1 = count_join ms (m ∷ []) in
        record {
          seated = all_push (IsSeated (c + acts_in (ms ++ m ∷ []))) ms m
              (weaker (IsSeated (c + acts_in ms)) (IsSeated (c + acts_in (ms ++ m ∷ []))) ms (seated_below (c + acts_in ms) (c + acts_in (ms ++ m ∷ [])) (omega (arith, more))) h.seated)
              (inr (refl, omega (arith, more)));
          apart = apart_join ms (m ∷ []) h.apart (tt, tt)
              (weaker (IsSeated (c + acts_in ms)) (λ (y : Member). AllByRecursion (λ z. y.place ≢ z.place) (m ∷ [])) ms (λ y s. (no_act (c + acts_in ms) y m.place s refl refl, tt)) h.seated);
        }

-- ---- along the events

abbrev is_placing : Event → Bool
is_placing (Commit k) = true
is_placing (Decide t) = true
is_placing _ = false

members_stay : (r : Tx → Bool) (w : Text) (e : Event) (t : Seen) → is_placing e ≡ false → (added r w e t).members ≡ t.members
unfolding added
members_stay r w (Commit k) t h = absurd (true≢false h)
members_stay r w (Decide u) t h = absurd (true≢false h)
members_stay r w (Arrive k a) t h = either (λ x. x.members) (comes k a t) _ t refl
members_stay r w (Ask u a) t h = either (λ x. x.members) (may_ask w u a t) _ t (asked (λ x. x.members) u a (least_older u (met u a t)) t (λ older. refl) refl)
members_stay r w (Settle k) t h = either (λ x. x.members) _ _ t refl
members_stay r w (Abort k) t h = either (λ x. x.members) (may_abort k t) _ t refl
members_stay r w (Finish u a) t h = either (λ x. x.members) _ _ t refl
members_stay r w e t h = refl

abbrev BatchesRise : Seen → Type 0
BatchesRise t = AllByRecursion (λ (b : Formed). TidsRise 0 b.pacts) t.batches

batches_kept : (r : Tx → Bool) (w : Text) (e : Event) (t : Seen) → BatchesRise t → BatchesRise (happened r w e t)
unfolding added
batches_kept r w (Form k) t h = all_push (λ (b : Formed). TidsRise 0 b.pacts) t.batches (planned w k t.ring) h (from_any t.ring.next_tid _ (numbered_rise t.ring.next_tid _))
batches_kept r w e t h = subst (AllByRecursion (λ (b : Formed). TidsRise 0 b.pacts)) (sym (batches_stay r w e t refl)) h

members_kept : (r : Tx → Bool) (w : Text) (e : Event) (t : Seen) → BatchesRise t → AreSeated w.opening.next_c t.members → AreSeated w.opening.next_c (happened r w e t).members
unfolding added
members_kept r w (Commit k) t b h =
    committing_seated w.opening.next_c k (batch_in k t.batches) t.members (λ x e. (all_found (λ (y : Formed). TidsRise 0 y.pacts) (λ (y : Formed). y.bid == k) t.batches x b e).0) h
members_kept r w (Decide u) t b h = deciding_seated w t (act_in u t.acts) h
members_kept r w e t b h = subst (AreSeated w.opening.next_c) (sym (members_stay r w e t refl)) h

seated_along : (r : Tx → Bool) (w : Text) (es : List Event) (t : Seen) → BatchesRise t → AreSeated w.opening.next_c t.members → AreSeated w.opening.next_c (seen_from r w es t).members
seated_along r w [] t b h = h
seated_along r w (e ∷ es) t b h = seated_along r w es (happened r w e t) (batches_kept r w e t b) (members_kept r w e t b h)

members_apart : (r : Tx → Bool) (w : Text) (es : List Event) → PlacesApart (seen r w es).members
members_apart r w es = (seated_along r w es (nothing_seen w) tt (record { seated = tt; apart = tt })).apart

-- ---- who is told the same place is the same transaction

abbrev IsHeld : ℕ → Place → List Member → Type 0
IsHeld n p [] = ⊥
IsHeld n p (m ∷ ms) = ((m.tx ≡ n) × (m.place ≡ p)) ⊎ IsHeld n p ms

held_in : (n : ℕ) (p : Place) (front : List Member) (m : Member) (rest : List Member) → m.tx ≡ n → m.place ≡ p → IsHeld n p (front ++ m ∷ rest)
held_in n p [] m rest e f = inl (e, f)
held_in n p (x ∷ front) m rest e f = inr (held_in n p front m rest e f)

held : (n : ℕ) (p : Place) (ms : List Member) → IsPlacedAt n p ms → IsHeld n p ms
held n p ms h = subst (IsHeld n p) (sym h.splits) (held_in n p h.front h.member h.rest h.tx h.place)

nobody_else : (x : Member) (n : ℕ) (p : Place) (ms : List Member) → AllByRecursion (λ y. x.place ≢ y.place) ms → x.place ≡ p → IsHeld n p ms → ⊥
nobody_else x n p [] h e i = i
nobody_else x n p (y ∷ ms) h e (inl a) = h.0 (e ∙ sym a.1)
nobody_else x n p (y ∷ ms) h e (inr i) = nobody_else x n p ms h.1 e i

one_holder : (n m : ℕ) (p : Place) (ms : List Member) → PlacesApart ms → IsHeld n p ms → IsHeld m p ms → n ≡ m
one_holder n m p [] h i j = absurd i
one_holder n m p (x ∷ ms) h (inl a) (inl b) = sym a.0 ∙ b.0
one_holder n m p (x ∷ ms) h (inl a) (inr j) = absurd (nobody_else x m p ms h.0 a.1 j)
one_holder n m p (x ∷ ms) h (inr i) (inl b) = absurd (nobody_else x n p ms h.0 b.1 i)
one_holder n m p (x ∷ ms) h (inr i) (inr j) = one_holder n m p ms h.1 i j

-- ---- the report

abbrev HoldsItsPlace : List Member → Done → Type 0
HoldsItsPlace ms d = IsHeld d.tx d.place ms

located_held : (t : Seen) (front ls : List Line) → EachLine (TellsPlace t) front ls → AllByRecursion (HoldsItsPlace t.members) (located ls)
located_held t front [] h = tt
located_held t front (Reply n (verdicts.Committed p v) ∷ ls) h = (held n p t.members h.0, located_held t (front ++ Reply n (verdicts.Committed p v) ∷ []) ls h.1)
located_held t front (Reply n (verdicts.Code p c) ∷ ls) h = (held n p t.members (h.0).1, located_held t (front ++ Reply n (verdicts.Code p c) ∷ []) ls h.1)
located_held t front (Reply n v ∷ ls) h = located_held t (front ++ Reply n v ∷ []) ls h.1
located_held t front (l ∷ ls) h = located_held t (front ++ l ∷ []) ls h.1

located_differ : (ms : List Member) (ds : List Done) → PlacesApart ms → TxsDiffer ds → AllByRecursion (HoldsItsPlace ms) ds → PlacesDiffer ds
located_differ ms [] a t h = tt
located_differ ms (d ∷ ds) a t h = (
  both_all (λ (e : Done). d.tx ≢ e.tx) (HoldsItsPlace ms) (λ (e : Done). (is_place_below d.place e.place ≡ true) ⊎ (is_place_below e.place d.place ≡ true)) ds
      (λ e n j. either_below d.place e.place (λ q. n (one_holder d.tx e.tx e.place ms a (subst (λ (p : Place). IsHeld d.tx p ms) q h.0) j))) t.0 h.1,
  located_differ ms ds a t.1 h.1,
)

pub told_places_rise : (p : Language) (w : Text) (es : List Event) (ls : List Line) → Audited p w es ls → PlacesRise (told ls)
told_places_rise p w es ls a =
    let t = seen p.reads w es in
    rises_sorted (located ls) (located_differ t.members (located ls) (members_apart p.reads w es) (located_once _ _ _ [] ls a.shape.each).differ (located_held t [] ls a.places))
