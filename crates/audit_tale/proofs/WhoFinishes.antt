-- What Finish adds to what is known: an ACT leaves an actor, sealed or not, and nobody gains from it there any more.
use Rattle.std.specs.Prelude.{◌≡◌, ◌≢◌, refl, ℕ, zero, suc, ◌+◌, ◌<◌, ◌≤◌, ◌==◌, not, ◌&&◌, ◌||◌, Bool, true, false, if◌then◌else◌, Option, Some, None, is_some, List, [], ◌∷◌, ◌++◌, filter, length, map, slice_get, slice_set}
use Rattle.std.specs.List.{list_any}
use Rattle.std.proofs.Common.{arith, sym, ap, subst, ◌∙◌}
use Rattle.std.proofs.lemmas.Bool.{eq-eqb, eqb-false, eqb-true, false_from_ne_true, ne_eqb, true≢false}
use Rattle.std.proofs.lemmas.List.{append-nil, length-set, map-append}
use Rattle.std.proofs.lemmas.List.Concat.{flat_map-append}
use Rattle.std.proofs.lemmas.List.Elements.{filter-append}
use Rattle.std.proofs.lemmas.List.Folds.{list_any-append}
use Rattle.snap_base.proofs.Booleans.{and_false, or_false}
use Rattle.snap_base.proofs.Lists.{all_found, each_found, get_mapped, get_other}
use Rattle.snap_base.proofs.Options.{is_same_some, is_some_map}
use Rattle.snap_base.specs.declared.ids.ActorId.{ActorId}
use Rattle.snap_base.specs.declared.transactions.Tx.{Tx}
use Rattle.snap_base.specs.declared.transactions.Who as code
use Rattle.protocol.specs.Events.{Finish}
use Rattle.protocol.specs.Fixed.{Text}
use Rattle.protocol.specs.History.{sets_of, with_at}
use Rattle.protocol.specs.Meant.{tid_number, who_meant}
use Rattle.protocol.specs.Parts.{Pair, Who, OfAct}
use Rattle.protocol.specs.Rivals.{Lock}
use Rattle.protocol.specs.Words.{greatest, holds, is_among, is_who}
use Rattle.audit_words.specs.Happenings.{added, happened, left, ring_after, left_as_sealed}
use Rattle.audit_words.specs.Seen.{Begun, Doom, Seen, act_in, first_doom, has_its_place, was_given_up, is_one_of_these}
use Rattle.audit_tale.specs.Knows.{RiseFrom, TellsAct, act_by, begun_of, bid_number, owner_of, why_of}
use Rattle.audit_tale.specs.Leaves.{LeavesActor, Unties, risen}
use Rattle.audit_tale.specs.Stands.{IsNamed, IsSound, KnowsAll, TellsActor, TellsTies, actor_number, pair_behind}
use Rattle.audit_tale.specs.declared.tales.ActTale.{ActTale}
use Rattle.audit_tale.specs.declared.tales.Owner.{Owner}
use Rattle.audit_tale.specs.declared.tales.Owner.TheVariants as owners
use Rattle.audit_tale.specs.declared.told.ActTies.{ActTies}
use Rattle.audit_tale.specs.declared.told.ActorTale.{ActorTale}
use Rattle.audit_tale.specs.declared.told.Told.{Told}
use Rattle.audit_tale.proofs.OnOneActor.{Change, IsOn, SetsActor, changed, on_actor_known, set_here}
use Rattle.audit_tale.proofs.SteadyLists.{elsewhere, greatest_both, here, of_there}
use Rattle.audit_tale.proofs.WhoLeaves.{mapped_filter, there_meant}

-- ---- ACTs have tids of their own

rise_above : (low j : ℕ) (xs : List Begun) (c : Begun) → RiseFrom low xs → slice_get xs j ≡ Some c → low ≤ c.tid
rise_above low j [] c h e = absurd (cc e)
rise_above low zero (x ∷ xs) c h e = let is : x ≡ c = cc e in omega (arith, h.0, ap (λ (y : Begun). y.tid) is)
rise_above low (suc j) (x ∷ xs) c h e = omega (arith, rise_above (x.tid + 1) j xs c h.1 e, h.0)

one_place : (low i j : ℕ) (xs : List Begun) (b c : Begun) → RiseFrom low xs → slice_get xs i ≡ Some b → slice_get xs j ≡ Some c → b.tid ≡ c.tid → i ≡ j
one_place low i j [] b c h e f q = absurd (cc e)
one_place low zero zero (x ∷ xs) b c h e f q = refl
one_place low zero (suc j) (x ∷ xs) b c h e f q = let is : x ≡ b = cc e in absurd (omega (arith, rise_above (x.tid + 1) j xs c h.1 f, ap (λ (y : Begun). y.tid) is, q))
one_place low (suc i) zero (x ∷ xs) b c h e f q = let is : x ≡ c = cc f in absurd (omega (arith, rise_above (x.tid + 1) i xs b h.1 e, ap (λ (y : Begun). y.tid) is, q))
one_place low (suc i) (suc j) (x ∷ xs) b c h e f q = ap suc (one_place (x.tid + 1) i j xs b c h.1 e f q)

-- ---- who gains from whom

abbrev still_waiting : ℕ → ℕ → Pair → Bool
still_waiting t a p = not ((p.ahead == t) && (p.actor == a))

waiters_gone : (t a : ℕ) (ps : List Pair) → filter (λ p. p.ahead == t) (filter (still_waiting t a) ps) ≡ filter (λ p. not (p.actor == a)) (filter (λ p. p.ahead == t) ps)
waiters_gone t a [] = refl
waiters_gone t a (p ∷ ps) = by (p.ahead == t) (p.actor == a) refl refl (waiters_gone t a ps)
  where
    by : (b c : Bool) → (p.ahead == t) ≡ b → (p.actor == a) ≡ c → filter (λ p. p.ahead == t) (filter (still_waiting t a) ps) ≡ filter (λ p. not (p.actor == a)) (filter (λ p. p.ahead == t) ps)
        → filter (λ p. p.ahead == t) (if not (b && c) then p ∷ filter (still_waiting t a) ps else filter (still_waiting t a) ps) ≡ filter (λ p. not (p.actor == a)) (if b then p ∷ filter (λ p. p.ahead == t) ps else filter (λ p. p.ahead == t) ps)
    by true true e f r = r ∙ sym (ap (λ (c : Bool). if not c then p ∷ filter (λ p. not (p.actor == a)) (filter (λ p. p.ahead == t) ps) else filter (λ p. not (p.actor == a)) (filter (λ p. p.ahead == t) ps)) f)
    by true false e f r =
        ap (λ (b : Bool). if b then p ∷ filter (λ p. p.ahead == t) (filter (still_waiting t a) ps) else filter (λ p. p.ahead == t) (filter (still_waiting t a) ps)) e
        ∙ (ap (λ (qs : List Pair). p ∷ qs) r
        ∙ sym (ap (λ (c : Bool). if not c then p ∷ filter (λ p. not (p.actor == a)) (filter (λ p. p.ahead == t) ps) else filter (λ p. not (p.actor == a)) (filter (λ p. p.ahead == t) ps)) f))
    by false c e f r = ap (λ (b : Bool). if b then p ∷ filter (λ p. p.ahead == t) (filter (still_waiting t a) ps) else filter (λ p. p.ahead == t) (filter (still_waiting t a) ps)) e ∙ r

waiters_of_others : (t u a : ℕ) (ps : List Pair) → u ≢ t → filter (λ p. p.ahead == u) (filter (still_waiting t a) ps) ≡ filter (λ p. p.ahead == u) ps
waiters_of_others t u a [] n = refl
waiters_of_others t u a (p ∷ ps) n = by (p.ahead == t) (p.actor == a) refl (waiters_of_others t u a ps n)
  where
    by : (b c : Bool) → (p.ahead == t) ≡ b → filter (λ p. p.ahead == u) (filter (still_waiting t a) ps) ≡ filter (λ p. p.ahead == u) ps
        → filter (λ p. p.ahead == u) (if not (b && c) then p ∷ filter (still_waiting t a) ps else filter (still_waiting t a) ps) ≡ filter (λ p. p.ahead == u) (p ∷ ps)
    by true true e r = r ∙ sym (ap (λ (b : Bool). if b then p ∷ filter (λ p. p.ahead == u) ps else filter (λ p. p.ahead == u) ps) (ne_eqb p.ahead u (λ q. n (sym q ∙ eqb-true p.ahead t e))))
    by true false e r = ap (λ (qs : List Pair). if p.ahead == u then p ∷ qs else qs) r
    by false c e r = ap (λ (qs : List Pair). if p.ahead == u then p ∷ qs else qs) r

-- ---- who left sealed

abbrev lock : ℕ → Bool → Lock
lock t r = record { tid = t; reader = r }

abbrev one_if : {X : Type 0} → Bool → X → List X
one_if b x = if b then x ∷ [] else []

left_more : (i : ℕ) (b : Bool) (a : ActorId) (ls : List ActorId) → is_among i (map actor_number (ls ++ one_if b a)) ≡ (is_among i (map actor_number ls) || (b && (a.0 == i)))
left_more i true a ls =
    ap (is_among i) (map-append actor_number ls (a ∷ []))
    ∙ (list_any-append (λ x. x == i) (map actor_number ls) (a.0 ∷ []) ∙ ap (λ (b : Bool). is_among i (map actor_number ls) || b) (or_false (a.0 == i)))
left_more i false a ls = ap (λ (xs : List ActorId). is_among i (map actor_number xs)) (append-nil ls) ∙ sym (or_false (is_among i (map actor_number ls)))

sealed_more : (u t : ℕ) (b r : Bool) (ls : List Lock) → list_any (λ l. l.tid == u) (ls ++ one_if b (lock t r)) ≡ (list_any (λ l. l.tid == u) ls || (b && (t == u)))
sealed_more u t true r ls = list_any-append (λ l. l.tid == u) ls (lock t r ∷ []) ∙ ap (λ (b : Bool). list_any (λ l. l.tid == u) ls || b) (or_false (t == u))
sealed_more u t false r ls = ap (list_any (λ l. l.tid == u)) (append-nil ls) ∙ sym (or_false (list_any (λ l. l.tid == u) ls))

floor_more : (before : ℕ → List ℕ) (t : ℕ) (b r : Bool) (ls : List Lock) → greatest (sets_of before (ls ++ one_if b (lock t r))) ≡ risen b (greatest (before t)) (greatest (sets_of before ls))
floor_more before t true r ls =
    ap greatest (flat_map-append (λ (x : Lock). before x.tid) ls (lock t r ∷ []) ∙ ap (λ (ks : List ℕ). sets_of before ls ++ ks) (append-nil (before t))) ∙ greatest_both (sets_of before ls) (before t)
floor_more before t false r ls = ap (λ (xs : List Lock). greatest (sets_of before xs)) (append-nil ls)

writers_more : (t : ℕ) (b r : Bool) (ls : List Lock) → filter (λ l. not l.reader) (ls ++ one_if b (lock t r)) ≡ filter (λ l. not l.reader) ls ++ one_if (b && not r) (lock t r)
writers_more t true true ls = filter-append (λ (l : Lock). not l.reader) ls (lock t true ∷ [])
writers_more t true false ls = filter-append (λ (l : Lock). not l.reader) ls (lock t false ∷ [])
writers_more t false r ls = filter-append (λ (l : Lock). not l.reader) ls []

-- ---- an ACT that does not stand there

finish_left : (reads : Tx → Bool) (w : Text) (t a : ℕ) (s : Seen) → is_one_of_these (OfAct t) (s.entries a) ≡ false → happened reads w (Finish t a) s ≡ s
unfolding added ring_after
finish_left reads w t a s e = ap (λ (b : Bool). record (if b then left t a s else s) { ring = s.ring }) e

pub finished_before : (reads : Tx → Bool) (w : Text) (t a : ℕ) (told : Told) (s : Seen) → is_one_of_these (OfAct t) (s.entries a) ≡ false → KnowsAll w told s → KnowsAll w told (happened reads w (Finish t a) s)
finished_before reads w t a told s e h = subst (KnowsAll w told) (sym (finish_left reads w t a s e)) h

pub finished_nobody : (reads : Tx → Bool) (w : Text) (t a : ℕ) (told : Told) (s : Seen) → IsSound s → act_in t s.acts ≡ None → KnowsAll w told s → KnowsAll w told (happened reads w (Finish t a) s)
finished_nobody reads w t a told s sound n h =
    finished_before reads w t a told s (false_from_ne_true (is_one_of_these (OfAct t) (s.entries a)) (λ e. true≢false (sym (of_there (IsNamed s) (OfAct t) (s.entries a) (sound.steady.entries a) e) ∙ ap is_some n))) h

pub finished_nowhere : (reads : Tx → Bool) (w : Text) (t a : ℕ) (told : Told) (s : Seen) → length told.actors.items ≤ a → KnowsAll w told s → KnowsAll w told (happened reads w (Finish t a) s)
finished_nowhere reads w t a told s l h = finished_before reads w t a told s (ap (is_one_of_these (OfAct t)) (h.stands.nobody a l).0) h

-- whether the ACT stands there
pub stands_known : (t a : ℕ) (x : ActorTale) (ws : List code.Who) (b : Bool) (s : Seen) → TellsActor s a x → ws ≡ x.entries.items → b ≡ list_any (λ who. is_who (who_meant who) (OfAct t)) ws → is_one_of_these (OfAct t) (s.entries a) ≡ b
stands_known t a x ws b s h e q = sym (q ∙ (there_meant (OfAct t) ws ∙ (ap (λ (us : List code.Who). is_one_of_these (OfAct t) (map who_meant us)) e ∙ ap (is_one_of_these (OfAct t)) h.entries)))

-- ---- an ACT leaves

abbrev finish_change : ℕ → ℕ → Seen → Change
finish_change t a s = record {
  ran = s.ran;
  entries = with_at a (filter (λ y. not (is_who y (OfAct t))) (s.entries a)) s.entries;
  kept = s.kept;
  left_sealed = with_at a (s.left_sealed a ++ left_as_sealed t s) s.left_sealed;
  gains = filter (λ p. not ((p.ahead == t) && (p.actor == a))) s.gains;
}

finish_seen : (reads : Tx → Bool) (w : Text) (t a : ℕ) (s : Seen) → is_one_of_these (OfAct t) (s.entries a) ≡ true → happened reads w (Finish t a) s ≡ changed (finish_change t a s) s
unfolding added ring_after
finish_seen reads w t a s e = ap (λ (b : Bool). record (if b then left t a s else s) { ring = s.ring }) e

finish_on : (t a : ℕ) (s : Seen) → IsOn a (finish_change t a s) s
finish_on t a s = record {
  ran = λ i n. refl;
  entries = λ i n. elsewhere a i (filter (λ y. not (is_who y (OfAct t))) (s.entries a)) s.entries n;
  kept = λ i n. refl;
  left_sealed = λ i n. elsewhere a i (s.left_sealed a ++ left_as_sealed t s) s.left_sealed n;
}

-- the ACT that is kept at this place, with this tid
pub record IsKeptAt (w : Text) (t place : ℕ) (x : ActTale) (told : Told) : Type 0 where
  pub owner : owner_of t told.tale.owners.items ≡ Some (owners.Act place)
  pub act : slice_get told.tale.acts.items place ≡ Some x

begun_here : (w : Text) (t place : ℕ) (x : ActTale) (told : Told) (s : Seen) → IsKeptAt w t place x told → KnowsAll w told s → slice_get s.acts place ≡ Some (begun_of x)
begun_here w t place x told s k h = ap (λ (xs : List Begun). slice_get xs place) (sym h.names.acts) ∙ get_mapped begun_of told.tale.acts.items place x k.act

found_here : (w : Text) (t place : ℕ) (x : ActTale) (told : Told) (s : Seen) → IsKeptAt w t place x told → KnowsAll w told s → act_in t s.acts ≡ Some (begun_of x)
found_here w t place x told s k h = h.names.owners t ∙ (ap (λ (o : Option Owner). act_by o s.acts) k.owner ∙ begun_here w t place x told s k h)

tid_is : (w : Text) (t place : ℕ) (x : ActTale) (told : Told) (s : Seen) → IsKeptAt w t place x told → IsSound s → KnowsAll w told s → x.tid.0 ≡ t
tid_is w t place x told s k sound h = eqb-true x.tid.0 t (all_found (λ y. y.tid < s.ring.next_tid) (λ y. y.tid == t) s.acts (begun_of x) sound.drawn.acts (found_here w t place x told s k h)).1

-- it leaves sealed
abbrev leaves_sealed : ℕ → Seen → Bool
leaves_sealed t s = has_its_place (OfAct t) s.members && not (was_given_up s.dooms t)

sealed_known : (t : ℕ) (x : ActTale) (s : Seen) → x.tid.0 ≡ t → TellsAct s x → (x.decided && not (is_some x.given_up)) ≡ leaves_sealed t s
sealed_known t x s e h = subst (λ (u : ℕ). (x.decided && not (is_some x.given_up)) ≡ leaves_sealed u s) e (ap (λ (b : Bool). b && not (is_some x.given_up)) h.decided ∙ ap (λ (b : Bool). has_its_place (OfAct x.tid.0) s.members && not b) same)
  where
    same : is_some x.given_up ≡ was_given_up s.dooms x.tid.0
    same = sym (is_some_map why_of x.given_up) ∙ (ap is_some h.given_up ∙ is_some_map (λ (d : Doom). d.why) (first_doom x.tid.0 s.dooms))

seals_here : (t : ℕ) (x : ActTale) (s : Seen) → act_in t s.acts ≡ Some (begun_of x) → left_as_sealed t s ≡ one_if (leaves_sealed t s) (lock t x.reader)
seals_here t x s e = ap (λ (o : Option Begun). one_if (leaves_sealed t s) (lock t (holds (λ y. y.reader) o))) e

-- the actor as it is now
actor_left : (t a : ℕ) (x : ActTale) (sealed : Bool) (y z : ActorTale) (s : Seen) → x.tid.0 ≡ t → x.before.0 ≡ greatest (s.before t) → sealed ≡ leaves_sealed t s → left_as_sealed t s ≡ one_if (leaves_sealed t s) (lock t x.reader) → LeavesActor x sealed y z → TellsActor s a y
    → TellsActor (changed (finish_change t a s) s) a z
actor_left t a x sealed y z s e m q l k old = record {
  entries = ap (map who_meant) k.entries ∙ (mapped_filter who_meant (λ who. not (is_who who (OfAct x.tid.0))) y.entries.items
      ∙ (ap (λ (ws : List Who). filter (λ who. not (is_who who (OfAct x.tid.0))) ws) old.entries ∙ (ap (λ (u : ℕ). filter (λ who. not (is_who who (OfAct u))) (s.entries a)) e ∙ sym (here a (filter (λ y. not (is_who y (OfAct t))) (s.entries a)) s.entries))));
  placed = ap (map who_meant) k.placed ∙ old.placed;
  ran = ap (map tid_number) k.ran ∙ old.ran;
  kept = ap (map bid_number) k.kept ∙ old.kept;
  last = ap bid_number k.last ∙ old.last;
  floor = k.floor ∙ (risen_same q m old.floor ∙ (sym (floor_more s.before t (leaves_sealed t s) x.reader (s.left_sealed a)) ∙ ap (λ (ls : List Lock). greatest (sets_of s.before ls)) now));
  write_floor = k.write_floor ∙ (risen_same (ap (λ (b : Bool). b && not x.reader) q) m old.write_floor
      ∙ (sym (floor_more s.before t (leaves_sealed t s && not x.reader) x.reader (filter (λ l. not l.reader) (s.left_sealed a)))
      ∙ (ap (λ (ls : List Lock). greatest (sets_of s.before ls)) (sym (writers_more t (leaves_sealed t s) x.reader (s.left_sealed a))) ∙ ap (λ (ls : List Lock). greatest (sets_of s.before (filter (λ l. not l.reader) ls))) now)));
}
  where
    now : s.left_sealed a ++ one_if (leaves_sealed t s) (lock t x.reader) ≡ with_at a (s.left_sealed a ++ left_as_sealed t s) s.left_sealed a
    now = ap (λ (ls : List Lock). s.left_sealed a ++ ls) (sym l) ∙ sym (here a (s.left_sealed a ++ left_as_sealed t s) s.left_sealed)

    risen_same : {b c : Bool} {i j m n : ℕ} → b ≡ c → i ≡ j → m ≡ n → risen b i m ≡ risen c j n
    risen_same e f g = cc

-- the ties of the ACT as they are now
ties_left : (t : ℕ) (a : ActorId) (sealed r : Bool) (y z : ActTies) (s : Seen) → sealed ≡ leaves_sealed t s → left_as_sealed t s ≡ one_if (leaves_sealed t s) (lock t r) → Unties a sealed y z → TellsTies s t y → TellsTies (changed (finish_change t a.0 s) s) t z
ties_left t a sealed r y z s q l k old = record {
  waiters = ap (map (pair_behind t)) k.waiters ∙ (mapped_filter (pair_behind t) (λ p. not (p.actor == a.0)) y.waiters.items ∙ (ap (λ (ps : List Pair). filter (λ p. not (p.actor == a.0)) ps) old.waiters ∙ sym (waiters_gone t a.0 s.gains)));
  left = λ i. ap (λ (ids : List ActorId). is_among i (map actor_number ids)) k.left ∙ (left_more i sealed a y.left.items ∙ by i (i == a.0) refl);
}
  where
    by : (i : ℕ) (b : Bool) → (i == a.0) ≡ b → (is_among i (map actor_number y.left.items) || (sealed && (a.0 == i))) ≡ list_any (λ l. l.tid == t) (if b then s.left_sealed a.0 ++ left_as_sealed t s else s.left_sealed i)
    by i true e =
        let same : i ≡ a.0 = eqb-true i a.0 e in
        ap (λ (b : Bool). b || (sealed && (a.0 == i))) (old.left i ∙ ap (λ (j : ℕ). list_any (λ l. l.tid == t) (s.left_sealed j)) same)
        ∙ (ap (λ (b : Bool). list_any (λ l. l.tid == t) (s.left_sealed a.0) || (sealed && b)) (eq-eqb a.0 i (sym same) ∙ sym (eq-eqb t t refl))
        ∙ (ap (λ (b : Bool). list_any (λ l. l.tid == t) (s.left_sealed a.0) || (b && (t == t))) q
        ∙ (sym (sealed_more t t (leaves_sealed t s) r (s.left_sealed a.0)) ∙ ap (λ (ls : List Lock). list_any (λ l. l.tid == t) (s.left_sealed a.0 ++ ls)) (sym l))))
    by i false e =
        ap (λ (b : Bool). is_among i (map actor_number y.left.items) || (sealed && b)) (ne_eqb a.0 i (λ z. eqb-false i a.0 e (sym z)))
        ∙ (ap (λ (b : Bool). is_among i (map actor_number y.left.items) || b) (and_false sealed) ∙ (or_false (is_among i (map actor_number y.left.items)) ∙ old.left i))

-- those of the others are as they were
ties_others : (t u a : ℕ) (r : Bool) (y : ActTies) (s : Seen) → u ≢ t → left_as_sealed t s ≡ one_if (leaves_sealed t s) (lock t r) → TellsTies s u y → TellsTies (changed (finish_change t a s) s) u y
ties_others t u a r y s n l old = record {
  waiters = old.waiters ∙ sym (waiters_of_others t u a s.gains n);
  left = λ i. old.left i ∙ by i (i == a) refl;
}
  where
    by : (i : ℕ) (b : Bool) → (i == a) ≡ b → list_any (λ l. l.tid == u) (s.left_sealed i) ≡ list_any (λ l. l.tid == u) (if b then s.left_sealed a ++ left_as_sealed t s else s.left_sealed i)
    by i true e =
        ap (λ (j : ℕ). list_any (λ l. l.tid == u) (s.left_sealed j)) (eqb-true i a e)
        ∙ sym (ap (λ (ls : List Lock). list_any (λ l. l.tid == u) (s.left_sealed a ++ ls)) l
        ∙ (sealed_more u t (leaves_sealed t s) r (s.left_sealed a)
        ∙ (ap (λ (b : Bool). list_any (λ l. l.tid == u) (s.left_sealed a) || (leaves_sealed t s && b)) (ne_eqb t u (λ z. n (sym z)))
        ∙ (ap (λ (b : Bool). list_any (λ l. l.tid == u) (s.left_sealed a) || b) (and_false (leaves_sealed t s)) ∙ or_false (list_any (λ l. l.tid == u) (s.left_sealed a))))))
    by i false e = refl

pub finished_known : (reads : Tx → Bool) (w : Text) (t place : ℕ) (a : ActorId) (x : ActTale) (sealed : Bool) (y z : ActorTale) (u v : ActTies) (told new : Told) (s : Seen)
    → IsKeptAt w t place x told → sealed ≡ (x.decided && not (is_some x.given_up)) → is_one_of_these (OfAct t) (s.entries a.0) ≡ true
    → slice_get told.actors.items a.0 ≡ Some y → a.0 < length told.actors.items → LeavesActor x sealed y z → SetsActor a.0 z told new
    → slice_get told.ties.items place ≡ Some u → new.ties.items ≡ slice_set told.ties.items place v → Unties a sealed u v
    → IsSound s → KnowsAll w told s → KnowsAll w new (happened reads w (Finish t a.0) s)
finished_known reads w t place a x sealed y z u v told new s k q e is l leaves sets was ties unties sound h =
    subst (KnowsAll w new) (sym (finish_seen reads w t a.0 s e)) (on_actor_known w a.0 z told new (finish_change t a.0 s) s (finish_on t a.0 s) sets l
    (actor_left t a.0 x sealed y z s tid (ends.before ∙ ap (λ (j : ℕ). greatest (s.before j)) tid) seal lock_is leaves (h.stands.actors a.0 y is))
    (ap length ties ∙ length-set told.ties.items place v)
    (λ i m b n o. at i m b (i == place) refl n o) h)
  where
    found : act_in t s.acts ≡ Some (begun_of x)
    found = found_here w t place x told s k h

    tid : x.tid.0 ≡ t
    tid = tid_is w t place x told s k sound h

    ends : TellsAct s x
    ends = each_found (TellsAct s) told.tale.acts.items place x k.act h.names.ends

    seal : sealed ≡ leaves_sealed t s
    seal = q ∙ sealed_known t x s tid ends

    lock_is : left_as_sealed t s ≡ one_if (leaves_sealed t s) (lock t x.reader)
    lock_is = seals_here t x s found

    place_is : slice_get s.acts place ≡ Some (begun_of x)
    place_is = begun_here w t place x told s k h

    at : (i : ℕ) (m : ActTies) (b : Begun) (c : Bool) → (i == place) ≡ c → slice_get new.ties.items i ≡ Some m → slice_get s.acts i ≡ Some b → TellsTies (changed (finish_change t a.0 s) s) b.tid m
    at i m b true j n o =
        let same : i ≡ place = eqb-true i place j in
        let is : v ≡ m = set_here told.ties.items place v m (ap (λ (zs : List ActTies). slice_get zs place) (sym ties) ∙ (ap (slice_get new.ties.items) (sym same) ∙ n)) in
        let who : begun_of x ≡ b = is_same_some (sym place_is ∙ (ap (slice_get s.acts) (sym same) ∙ o)) in
        let named : t ≡ b.tid = sym tid ∙ ap (λ (y : Begun). y.tid) who in
        let old : TellsTies s t u = subst (λ (j : ℕ). TellsTies s j u) tid (h.stands.ties place u (begun_of x) was place_is) in
        subst (λ (j : ℕ). TellsTies (changed (finish_change t a.0 s) s) j m) named (subst (TellsTies (changed (finish_change t a.0 s) s) t) is (ties_left t a sealed x.reader u v s seal lock_is unties old))
    at i m b false j n o =
        let other : i ≢ place = eqb-false i place j in
        ties_others t b.tid a.0 x.reader m s (λ c. other (one_place 1 i place s.acts b (begun_of x) sound.drawn.rise o place_is (c ∙ sym tid))) lock_is
        (h.stands.ties i m b (sym (get_other told.ties.items i place v (λ c. other (sym c))) ∙ (ap (λ (zs : List ActTies). slice_get zs i) (sym ties) ∙ n)) o)
