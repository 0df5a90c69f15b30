-- What an Ask adds to what is known: whether it changes anything, what stands on the actor, who waits for whom, and how far the
-- numbers rise.
use Rattle.std.specs.Prelude.{◌≡◌, ◌≢◌, refl, ℕ, zero, suc, ◌+◌, ◌<◌, ◌==◌, nat_lt, not, ◌&&◌, Bool, true, false, if◌then◌else◌, Option, Some, None, is_some, List, [], ◌∷◌, ◌++◌, filter, length, map, slice_get, slice_index_or, slice_set, take}
use Rattle.std.proofs.Common.{append_assoc, arith, sym, ap, subst, ◌∙◌}
use Rattle.std.proofs.lemmas.Bool.{true≢false, eqb-true, eq-eqb, lt-ltb, ne_eqb}
use Rattle.std.proofs.lemmas.List.{append-nil, map-append, take_more}
use Rattle.std.proofs.lemmas.Option.{slice_get-get_or}
use Rattle.std.proofs.lemmas.List.Elements.{filter-append}
use Rattle.std.proofs.lemmas.List.Folds.{list_any-append}
use Rattle.snap_base.proofs.Booleans.{and_false, or_false}
use Rattle.snap_base.proofs.Lists.{one_at, weaker}
use Rattle.snap_base.proofs.Options.{is_same_some, none_is_some}
use Rattle.snap_base.specs.declared.ids.ActorId.{ActorId}
use Rattle.snap_base.specs.declared.ids.Tid.{Tid}
use Rattle.snap_base.specs.declared.transactions.Who.TheVariants.{Act}
use Rattle.protocol.specs.Fixed.{Text}
use Rattle.protocol.specs.History.{sets_of, with_at}
use Rattle.protocol.specs.Meant.{tid_number, who_meant}
use Rattle.protocol.specs.Parts.{Pair, Who, OfBatch, OfAct}
use Rattle.protocol.specs.Words.{greatest, is_among, is_who}
use Rattle.audit_words.specs.Happenings.{may_ask}
use Rattle.audit_words.specs.Seen.{Begun, Seen, act_in, was_admitted, was_given_up, is_one_of_these}
use Rattle.audit_tale.specs.GivenUp.{ChangesWaiters}
use Rattle.audit_tale.specs.Knows.{Knows, RiseFrom, TellsAct, TellsBatch, begun_of, bid_number, owner_of}
use Rattle.audit_tale.specs.Rivalry.{Enters, pairs_of, with_entry}
use Rattle.audit_tale.specs.Stands.{KnowsAll, Stands, TellsActor, TellsTies, actor_number, pair_behind}
use Rattle.audit_tale.specs.declared.tales.ActTale.{ActTale}
use Rattle.audit_tale.specs.declared.tales.Owner.TheVariants as owners
use Rattle.audit_tale.specs.declared.told.ActTies.{ActTies}
use Rattle.audit_tale.specs.declared.told.ActorTale.{ActorTale}
use Rattle.audit_tale.specs.declared.told.Told.{Told}
use Rattle.audit_tale.specs.declared.told.Waiter.{Waiter}
use Rattle.audit_tale.proofs.Dooms.{begun_there, one_place, own_given_up, own_tid}
use Rattle.audit_tale.proofs.Lifts.{get_set}
use Rattle.audit_tale.proofs.Walks.{ties_there}
use Rattle.audit_tale.proofs.WhoIsTold.{begun_at}

-- ---- whether an Ask changes anything

module _ (w : Text) (t a : ℕ) (told : Told) (s : Seen) (h : KnowsAll w told s) where
  pub asks_nobody : act_in t s.acts ≡ None → may_ask w t a s ≡ false
  asks_nobody e = ap (λ (o : Option Begun). (is_some o && nat_lt a (length w.opening.states)) && (not (was_given_up s.dooms t) && not (is_one_of_these (OfAct t) (s.entries a)))) e

  last_false : (b c : Bool) → (b && (c && false)) ≡ false
  last_false true true = refl
  last_false true false = refl
  last_false false c = refl

  pub asks_given_up : (i : ℕ) (d : ActTale) → owner_of t told.tale.owners.items ≡ Some (owners.Act i) → i < length told.tale.acts.items → is_some (slice_index_or told.tale.acts.items i d).given_up ≡ true → may_ask w t a s ≡ false
  asks_given_up i d owned l e =
      ap (λ (b : Bool). (was_admitted t s && nat_lt a (length w.opening.states)) && (not b && not (is_one_of_these (OfAct t) (s.entries a)))) (sym (own_given_up w i t d told.tale s h.names owned l) ∙ e) ∙ and_false (was_admitted t s && nat_lt a (length w.opening.states))

  -- who stands on an actor that exists
  pub entries_there : (x : ActorTale) → slice_get told.actors.items a ≡ Some x → map who_meant x.entries.items ≡ s.entries a
  entries_there x e = (h.stands.actors a x e).entries

  pub asks_again : (x : ActorTale) → slice_get told.actors.items a ≡ Some x → is_one_of_these (OfAct t) (map who_meant x.entries.items) ≡ true → may_ask w t a s ≡ false
  asks_again x e there =
      ap (λ (b : Bool). (was_admitted t s && nat_lt a (length w.opening.states)) && (not (was_given_up s.dooms t) && not b)) (ap (is_one_of_these (OfAct t)) (sym (entries_there x e)) ∙ there) ∙ last_false (was_admitted t s && nat_lt a (length w.opening.states)) (not (was_given_up s.dooms t))

  pub asks_rightly : (i : ℕ) (d : ActTale) (x : ActorTale) → owner_of t told.tale.owners.items ≡ Some (owners.Act i) → i < length told.tale.acts.items → is_some (slice_index_or told.tale.acts.items i d).given_up ≡ false → a < length told.actors.items
      → slice_get told.actors.items a ≡ Some x → is_one_of_these (OfAct t) (map who_meant x.entries.items) ≡ false → may_ask w t a s ≡ true
  asks_rightly i d x owned l e near f none =
      ap (λ (o : Option Begun). (is_some o && nat_lt a (length w.opening.states)) && (not (was_given_up s.dooms t) && not (is_one_of_these (OfAct t) (s.entries a)))) (begun_there w i t d told.tale s h.names owned l)
      ∙ (ap (λ (b : Bool). b && (not (was_given_up s.dooms t) && not (is_one_of_these (OfAct t) (s.entries a)))) (lt-ltb a (length w.opening.states) (omega (arith, near, h.stands.count)))
      ∙ (ap (λ (b : Bool). not b && not (is_one_of_these (OfAct t) (s.entries a))) (sym (own_given_up w i t d told.tale s h.names owned l) ∙ e)
      ∙ ap (λ (b : Bool). not b) (ap (is_one_of_these (OfAct t)) (sym (entries_there x f)) ∙ none)))

-- ---- one more stands on the actor

at_entry : (a b : ℕ) (x : List Who) (f : ℕ → List Who) (c : Bool) → (b == a) ≡ c → with_at a x f b ≡ (if c then x else f b)
at_entry a b x f c e = ap (λ (z : Bool). if z then x else f b) e

no_batch_comes : (k t a b : ℕ) (s : Seen) → is_one_of_these (OfBatch k) (with_at a (s.placed a ++ OfAct t ∷ []) s.placed b) ≡ is_one_of_these (OfBatch k) (s.placed b)
no_batch_comes k t a b s = by (b == a) refl
  where
    by : (c : Bool) → (b == a) ≡ c → is_one_of_these (OfBatch k) (if c then s.placed a ++ OfAct t ∷ [] else s.placed b) ≡ is_one_of_these (OfBatch k) (s.placed b)
    by true e = list_any-append (is_who (OfBatch k)) (s.placed a) (OfAct t ∷ []) ∙ (or_false (is_one_of_these (OfBatch k) (s.placed a)) ∙ ap (λ (n : ℕ). is_one_of_these (OfBatch k) (s.placed n)) (sym (eqb-true b a e)))
    by false e = refl

-- what is kept after it has entered
pub record EntersAt (a : ℕ) (t : Tid) (old new : Told) : Type 0 where
  pub tale : new.tale ≡ old.tale
  pub count : length new.actors.items ≡ length old.actors.items
  pub here : (x y : ActorTale) → slice_get old.actors.items a ≡ Some x → slice_get new.actors.items a ≡ Some y → Enters t x y
  pub others : (b : ℕ) → b ≢ a → slice_get new.actors.items b ≡ slice_get old.actors.items b
  pub ways : new.ways.items ≡ old.ways.items
  pub ties : new.ties.items ≡ old.ties.items
  pub uncut : new.uncut.items ≡ old.uncut.items
  pub going : new.going.items ≡ old.going.items

names_entry : (w : Text) (t a : ℕ) (told : Told) (s : Seen) → Knows w told.tale s → Knows w told.tale (with_entry t a s)
names_entry w t a told s h = record {
  ring = h.ring;
  batches = h.batches;
  marks = weaker (TellsBatch s) (TellsBatch (with_entry t a s)) told.tale.batches.items (λ b k. record { committed = k.committed; settled = k.settled }) h.marks;
  acts = h.acts;
  ends = weaker (TellsAct s) (TellsAct (with_entry t a s)) told.tale.acts.items (λ x k. record { before = k.before; behind = k.behind; given_up = k.given_up; decided = k.decided }) h.ends;
  owners = h.owners;
  kept = h.kept;
  drawn = h.drawn;
  members = h.members;
  settled = h.settled;
  number = h.number;
}

pub entered_known : (w : Text) (a : ℕ) (t : Tid) (old new : Told) (s : Seen) → KnowsAll w old s → a < length old.actors.items → EntersAt a t old new → KnowsAll w new (with_entry t.0 a s)
entered_known w a t old new s h near c = record { names = subst (λ z. Knows w z (with_entry t.0 a s)) (sym c.tale) (names_entry w t.0 a old s h.names); stands = there }
  where
    actor : (b : ℕ) (y : ActorTale) → slice_get new.actors.items b ≡ Some y → TellsActor (with_entry t.0 a s) b y
    actor b y e = by (b == a) refl
      where
        by : (q : Bool) → (b == a) ≡ q → TellsActor (with_entry t.0 a s) b y
        by true q =
            let i : b ≡ a = eqb-true b a q in
            let x = one_at old.actors.items a near in
            let k = c.here x.0 y x.1 (ap (slice_get new.actors.items) (sym i) ∙ e) in
            let f = h.stands.actors a x.0 x.1 in
            record {
              entries = ap (map who_meant) k.entries ∙ (map-append who_meant x.0.entries.items (Act t ∷ []) ∙ (ap (λ (ws : List Who). ws ++ OfAct t.0 ∷ []) f.entries ∙ sym (at_entry a b (s.entries a ++ OfAct t.0 ∷ []) s.entries true q)));
              placed = ap (map who_meant) k.placed ∙ (map-append who_meant x.0.placed.items (Act t ∷ []) ∙ (ap (λ (ws : List Who). ws ++ OfAct t.0 ∷ []) f.placed ∙ sym (at_entry a b (s.placed a ++ OfAct t.0 ∷ []) s.placed true q)));
              ran = ap (map tid_number) k.ran ∙ (f.ran ∙ ap s.ran (sym i));
              kept = ap (map bid_number) k.kept ∙ (f.kept ∙ ap s.kept (sym i));
              last = ap (λ z. z.0) k.last ∙ (f.last ∙ ap (λ (n : ℕ). greatest (s.kept n)) (sym i));
              floor = ap (λ z. z.0) k.floor ∙ (f.floor ∙ ap (λ (n : ℕ). greatest (sets_of s.before (s.left_sealed n))) (sym i));
              write_floor = ap (λ z. z.0) k.write_floor ∙ (f.write_floor ∙ ap (λ (n : ℕ). greatest (sets_of s.before (filter (λ l. not l.reader) (s.left_sealed n)))) (sym i));
            }
        by false q =
            let f = h.stands.actors b y (sym (c.others b (λ i. true≢false (sym (eq-eqb b a i) ∙ q))) ∙ e) in
            record {
              entries = f.entries ∙ sym (at_entry a b (s.entries a ++ OfAct t.0 ∷ []) s.entries false q);
              placed = f.placed ∙ sym (at_entry a b (s.placed a ++ OfAct t.0 ∷ []) s.placed false q);
              ran = f.ran;
              kept = f.kept;
              last = f.last;
              floor = f.floor;
              write_floor = f.write_floor;
            }

    there : Stands w new (with_entry t.0 a s)
    there = record {
      count = c.count ∙ h.stands.count;
      actors = actor;
      nobody = λ b far. let k = h.stands.nobody b (omega (arith, far, c.count)) in let apart : b ≢ a = λ i. omega (arith, far, near, c.count, i) in
          (at_entry a b (s.entries a ++ OfAct t.0 ∷ []) s.entries false (ne_eqb b a apart) ∙ k.0, at_entry a b (s.placed a ++ OfAct t.0 ∷ []) s.placed false (ne_eqb b a apart) ∙ k.1);
      batches = ap length c.ways ∙ h.stands.batches;
      ways = λ i x e. let k = h.stands.ways i x (ap (λ ys. slice_get ys i) (sym c.ways) ∙ e) in record { came = λ b. k.came b ∙ sym (no_batch_comes (i + 1) t.0 a b s); is_cut = k.is_cut; fall = k.fall };
      cuts = h.stands.cuts;
      uncut = ap (map bid_number) c.uncut ∙ h.stands.uncut;
      acts = ap length c.ties ∙ h.stands.acts;
      ties = λ i x b e f. let k = h.stands.ties i x b (ap (λ ys. slice_get ys i) (sym c.ties) ∙ e) f in record { waiters = k.waiters; left = k.left };
      going = λ i b e live. ap (is_among i) c.going ∙ h.stands.going i b e live;
    }

-- ---- one more stands behind another one

abbrev pub with_gain : Pair → Seen → Seen
with_gain p s = record s { gains = s.gains ++ p ∷ [] }

-- what is kept then
pub record WaitsAt (i : ℕ) (x : Waiter) (old new : Told) : Type 0 where
  pub tale : new.tale ≡ old.tale
  pub actors : new.actors.items ≡ old.actors.items
  pub ways : new.ways.items ≡ old.ways.items
  pub ties : ChangesWaiters i (λ ws. ws ++ x ∷ []) old.ties.items new.ties.items
  pub uncut : new.uncut.items ≡ old.uncut.items
  pub going : new.going.items ≡ old.going.items

gains_more : (v : ℕ) (p : Pair) (gs : List Pair) (c : Bool) → (p.ahead == v) ≡ c → filter (λ q. q.ahead == v) (gs ++ p ∷ []) ≡ filter (λ q. q.ahead == v) gs ++ (if c then p ∷ [] else [])
gains_more v p gs c e = filter-append (λ q. q.ahead == v) gs (p ∷ []) ∙ ap (λ (b : Bool). filter (λ q. q.ahead == v) gs ++ (if b then p ∷ [] else [])) e

gains_same : (v : ℕ) (p : Pair) (gs : List Pair) → p.ahead ≢ v → filter (λ q. q.ahead == v) gs ≡ filter (λ q. q.ahead == v) (gs ++ p ∷ [])
gains_same v p gs n = sym (gains_more v p gs false (ne_eqb p.ahead v n) ∙ append-nil (filter (λ q. q.ahead == v) gs))

-- who is found has the tid that is looked for; so who is not found is none of the list
absent : (u j : ℕ) (xs : List Begun) (b : Begun) → act_in u xs ≡ None → slice_get xs j ≡ Some b → u ≢ b.tid
absent u j [] b none e q = none_is_some b e
absent u zero (x ∷ xs) b none e q = let same : x ≡ b = is_same_some e in none_is_some x (sym none ∙ ap (λ (c : Bool). if c then Some x else act_in u xs) (eq-eqb x.tid u (ap (λ (z : Begun). z.tid) same ∙ sym q)))
absent u (suc j) (x ∷ xs) b none e q = rest (x.tid == u) none (λ k. absent u j xs b k e q)
  where
    rest : (c : Bool) → (if c then Some x else act_in u xs) ≡ None → (act_in u xs ≡ None → ⊥) → ⊥
    rest true k r = none_is_some x (sym k)
    rest false k r = r k

module _ (w : Text) (p : Pair) (s : Seen) where
  names_gain : (told : Told) → Knows w told.tale s → Knows w told.tale (with_gain p s)
  names_gain told h = record {
    ring = h.ring;
    batches = h.batches;
    marks = weaker (TellsBatch s) (TellsBatch (with_gain p s)) told.tale.batches.items (λ b k. record { committed = k.committed; settled = k.settled }) h.marks;
    acts = h.acts;
    ends = weaker (TellsAct s) (TellsAct (with_gain p s)) told.tale.acts.items (λ x k. record { before = k.before; behind = k.behind; given_up = k.given_up; decided = k.decided }) h.ends;
    owners = h.owners;
    kept = h.kept;
    drawn = h.drawn;
    members = h.members;
    settled = h.settled;
    number = h.number;
  }

  stands_gain : (old new : Told) → Stands w old s → new.actors.items ≡ old.actors.items → new.ways.items ≡ old.ways.items → new.uncut.items ≡ old.uncut.items → new.going.items ≡ old.going.items → length new.ties.items ≡ length old.ties.items
      → ((i : ℕ) (x : ActTies) (b : Begun) → slice_get new.ties.items i ≡ Some x → slice_get s.acts i ≡ Some b → TellsTies (with_gain p s) b.tid x) → Stands w new (with_gain p s)
  stands_gain old new h actors ways uncut going many ties = record {
    count = ap length actors ∙ h.count;
    actors = λ a z e. let f = h.actors a z (ap (λ ys. slice_get ys a) (sym actors) ∙ e) in record { entries = f.entries; placed = f.placed; ran = f.ran; kept = f.kept; last = f.last; floor = f.floor; write_floor = f.write_floor };
    nobody = λ a far. h.nobody a (omega (arith, far, ap length actors));
    batches = ap length ways ∙ h.batches;
    ways = λ j y e. let f = h.ways j y (ap (λ ys. slice_get ys j) (sym ways) ∙ e) in record { came = f.came; is_cut = f.is_cut; fall = f.fall };
    cuts = h.cuts;
    uncut = ap (map bid_number) uncut ∙ h.uncut;
    acts = many ∙ h.acts;
    ties = ties;
    going = λ j b e live. ap (is_among j) going ∙ h.going j b e live;
  }

  -- behind one that is no ACT
  pub nobody_waits : (told : Told) → KnowsAll w told s → act_in p.ahead s.acts ≡ None → KnowsAll w told (with_gain p s)
  nobody_waits told h none = record {
    names = names_gain told h.names;
    stands = stands_gain told told h.stands refl refl refl refl refl (λ i x b e f. let k = h.stands.ties i x b e f in record { waiters = k.waiters ∙ gains_same b.tid p s.gains (absent p.ahead i s.acts b none f); left = k.left });
  }

-- behind the ACT at place i
pub waits_known : (w : Text) (i u : ℕ) (d : ActTale) (t : Tid) (a : ActorId) (old new : Told) (s : Seen) → RiseFrom 1 s.acts → KnowsAll w old s → owner_of u old.tale.owners.items ≡ Some (owners.Act i) → i < length old.tale.acts.items
    → WaitsAt i (record { tid = t; actor = a }) old new → KnowsAll w new (with_gain (record { behind = t.0; ahead = u; actor = a.0 }) s)
waits_known w i u d t a old new s rise h owned l c = record {
  names = subst (λ z. Knows w z (with_gain pair s)) (sym c.tale) (names_gain w pair s old h.names);
  stands = stands_gain w pair s old new h.stands c.actors c.ways c.uncut c.going c.ties.count (λ j x b e f. by j x b e f (j == i) refl);
}
  where
    pair : Pair
    pair = record { behind = t.0; ahead = u; actor = a.0 }

    x : ActTale
    x = slice_index_or old.tale.acts.items i d

    by : (j : ℕ) (y : ActTies) (b : Begun) → slice_get new.ties.items j ≡ Some y → slice_get s.acts j ≡ Some b → (q : Bool) → (j == i) ≡ q → TellsTies (with_gain (record { behind = t.0; ahead = u; actor = a.0 }) s) b.tid y
    by j y b e f true q =
        let same : j ≡ i = eqb-true j i q in
        let got : slice_get s.acts i ≡ Some (begun_of (slice_index_or old.tale.acts.items i d)) = ap (λ ys. slice_get ys i) (sym h.names.acts) ∙ begun_at i d old.tale.acts.items l in
        let mine : begun_of (slice_index_or old.tale.acts.items i d) ≡ b = is_same_some (sym got ∙ (ap (slice_get s.acts) (sym same) ∙ f)) in
        let tid : b.tid ≡ u = ap (λ (z : Begun). z.tid) (sym mine) ∙ own_tid w i u d old.tale s h.names owned l in
        let z = one_at old.ties.items i (ties_there w i old s h l) in
        let changed = c.ties.here z.0 y z.1 (ap (slice_get new.ties.items) (sym same) ∙ e) in
        let was = h.stands.ties i z.0 b z.1 (ap (slice_get s.acts) (sym same) ∙ f) in
        record {
          waiters = ap (map (pair_behind b.tid)) changed.0
              ∙ (map-append (pair_behind b.tid) z.0.waiters.items (record { tid = t; actor = a } ∷ [])
              ∙ (ap (λ (gs : List Pair). gs ++ record { behind = t.0; ahead = b.tid; actor = a.0 } ∷ []) was.waiters
              ∙ (ap (λ (n : ℕ). filter (λ q. q.ahead == b.tid) s.gains ++ record { behind = t.0; ahead = n; actor = a.0 } ∷ []) tid
              ∙ sym (gains_more b.tid (record { behind = t.0; ahead = u; actor = a.0 }) s.gains true (eq-eqb u b.tid (sym tid))))));
          left = λ v. ap (λ zs. is_among v (map actor_number zs)) changed.1 ∙ was.left v;
        }
    by j y b e f false q =
        let apart : j ≢ i = λ k. true≢false (sym (eq-eqb j i k) ∙ q) in
        let got : slice_get s.acts i ≡ Some (begun_of (slice_index_or old.tale.acts.items i d)) = ap (λ ys. slice_get ys i) (sym h.names.acts) ∙ begun_at i d old.tale.acts.items l in
        let other : u ≢ b.tid = λ k. apart (one_place 1 j i s.acts b (begun_of (slice_index_or old.tale.acts.items i d)) rise f got (sym k ∙ sym (own_tid w i u d old.tale s h.names owned l))) in
        let was = h.stands.ties j y b (sym (c.ties.others j apart) ∙ e) f in
        record { waiters = was.waiters ∙ gains_same b.tid (record { behind = t.0; ahead = u; actor = a.0 }) s.gains other; left = was.left }

-- ---- the steps

pub enters_here : (a : ℕ) (t : Tid) (d z : ActorTale) (xs : List ActorTale) → a < length xs → d ≡ slice_index_or xs a d → Enters t d z → (x y : ActorTale) → slice_get xs a ≡ Some x → slice_get (slice_set xs a z) a ≡ Some y → Enters t x y
enters_here a t d z xs near is h x y e f =
    let was : slice_get xs a ≡ Some d = slice_get-get_or xs a d near ∙ ap Some (sym is) in
    let one : z ≡ y = is_same_some (sym (get_set xs a z d was) ∙ f) in
    let two : d ≡ x = is_same_some (sym was ∙ e) in
    subst (λ (v : ActorTale). Enters t x v) one (subst (λ (v : ActorTale). Enters t v z) two h)

pub pairs_next : (gs : List Pair) (t a : ℕ) (us : List Tid) (i : ℕ) (d : Tid) → i < length us → (gs ++ pairs_of t a (take i us)) ++ record { behind = t; ahead = (slice_index_or us i d).0; actor = a } ∷ [] ≡ gs ++ pairs_of t a (take (i + 1) us)
pairs_next gs t a us i d l =
    append_assoc gs (pairs_of t a (take i us)) (record { behind = t; ahead = (slice_index_or us i d).0; actor = a } ∷ [])
    ∙ ap (λ (ps : List Pair). gs ++ ps) (sym (ap (pairs_of t a) (take_more us i d l) ∙ map-append (λ (u : Tid). record { behind = t; ahead = u.0; actor = a }) (take i us) (slice_index_or us i d ∷ [])))
