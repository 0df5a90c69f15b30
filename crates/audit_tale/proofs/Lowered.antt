-- A batch comes to an actor: it stands behind the ACTs there, and who crosses so is given up.
use Rattle.std.specs.Prelude.{◌≡◌, ◌≢◌, ◌⊎◌, refl, ℕ, zero, suc, ◌+◌, ◌-◌, ◌<◌, ◌≤◌, ◌==◌, nat_le, min, max, not, ◌&&◌, ◌||◌, Bool, true, false, if◌then◌else◌, Option, Some, None, is_some, option_map, unwrap_or, List, [], ◌∷◌, ◌++◌, length, map, filter, slice_get}
use Rattle.std.specs.List.{AllByRecursion, list_any}
use Rattle.std.proofs.Common.{arith, sym, ap, subst, inl, inr, ◌∙◌}
use Rattle.std.proofs.lemmas.Bool.{true≢false, cases_eq, eq-eqb, eqb-false, eqb-true, ne_eqb}
use Rattle.std.proofs.lemmas.List.{map-append}
use Rattle.std.proofs.lemmas.List.Folds.{list_any-append}
use Rattle.snap_base.proofs.Booleans.{eqb_turned, first_true, or_false, or_true}
use Rattle.snap_base.proofs.Lists.{all_found, each_found, get_mapped, weaker}
use Rattle.snap_base.specs.declared.ids.ActorId.{ActorId}
use Rattle.snap_base.specs.declared.ids.Bid.{Bid}
use Rattle.snap_base.specs.declared.transactions.Tx.{Tx}
use Rattle.snap_base.specs.declared.transactions.Who as whose
use Rattle.snap_base.specs.declared.transactions.Who.TheVariants.{Batch, Act}
use Rattle.protocol.specs.Events.{Arrive}
use Rattle.protocol.specs.Fixed.{Text}
use Rattle.protocol.specs.History.{sets_of, with_at}
use Rattle.protocol.specs.Meant.{tid_number, who_meant}
use Rattle.protocol.specs.OnRing.{Formed}
use Rattle.protocol.specs.Parts.{Who, OfBatch, OfAct}
use Rattle.protocol.specs.Spread.{reaches}
use Rattle.protocol.specs.Words.{greatest, is_among, is_who, least_of}
use Rattle.audit_words.specs.Happenings.{added, comes, cross_out, crossing, happened, ring_after, batch_placed_last}
use Rattle.audit_words.specs.Seen.{Begun, Crossed, Doom, Seen, act_in, acts_among, batch_in, first_doom, goes_to, has_its_place, sets_cross, was_taken_along, was_given_up, is_live, is_one_of_these, least}
use Rattle.audit_tale.specs.Coming.{CameThere, IsJoined, Joins, Lowers, crossing_of, is_act_at, is_kept_among, lesser, lowered_act}
use Rattle.audit_tale.specs.Fitting.{FitsTale}
use Rattle.audit_tale.specs.Knows.{AreDrawn, IsKept, Knows, RiseFrom, TellsAct, TellsBatch, act_by, begun_of, bid_number, formed_of, member_of, owner_of, why_of}
use Rattle.audit_tale.specs.Stands.{IsSound, KnowsAll, Stands, TellsActor, TellsTies, TellsWay, actor_number, cuts_from}
use Rattle.audit_tale.specs.Touching.{lives, where_touched}
use Rattle.audit_tale.specs.declared.tales.ActTale.{ActTale}
use Rattle.audit_tale.specs.declared.tales.Owner.{Owner}
use Rattle.audit_tale.specs.declared.tales.Owner.TheVariants as owners
use Rattle.audit_tale.specs.declared.tales.Reason.TheVariants as reason
use Rattle.audit_tale.specs.declared.tales.Tale.{Tale}
use Rattle.audit_tale.specs.declared.told.ActTies.{ActTies}
use Rattle.audit_tale.specs.declared.told.ActorTale.{ActorTale}
use Rattle.audit_tale.specs.declared.told.BatchWay.{BatchWay}
use Rattle.audit_tale.specs.declared.told.Told.{Told}
use Rattle.audit_tale.proofs.MoreReasons.{doom_after, lives_is, not_doomed, one_place, ties_now, was_live}
use Rattle.audit_tale.proofs.Touched.{any_map, other_there, there, touched_all, touched_map, unchanged}

-- ---- the least of some numbers, and the greatest

pub least_push : (k : ℕ) (ks : List ℕ) → least (ks ++ k ∷ []) ≡ Some (least_of k (least ks))
least_push k [] = refl
least_push k (j ∷ js) = ap (λ (o : Option ℕ). Some (least_of j o)) (least_push k js) ∙ by (least js)
  where
    by : (o : Option ℕ) → Some (min j (least_of k o)) ≡ Some (min k (least_of j o))
    by None = ap Some (omega arith)
    by (Some m) = ap Some (omega arith)

greatest_push : (k : ℕ) (ks : List ℕ) → greatest (ks ++ k ∷ []) ≡ max (greatest ks) k
greatest_push k [] = omega arith
greatest_push k (j ∷ js) = omega (arith, greatest_push k js)

-- ---- where the ACT of a tid is kept

pub act_found : (n i : ℕ) (x : Begun) (xs : List Begun) → RiseFrom n xs → slice_get xs i ≡ Some x → act_in x.tid xs ≡ Some x
act_found n i x [] r e = absurd (cc e)
act_found n zero x (y ∷ ys) r e =
    let is : y ≡ x = cc e in
    ap (λ (b : Bool). if b then Some y else act_in x.tid ys) (eq-eqb y.tid x.tid (ap (λ (z : Begun). z.tid) is)) ∙ ap Some is
act_found n (suc i) x (y ∷ ys) r e = by (y.tid == x.tid) refl (act_found (y.tid + 1) i x ys r.1 e)
  where
    by : (b : Bool) → (y.tid == x.tid) ≡ b → act_in x.tid ys ≡ Some x → (if b then Some y else act_in x.tid ys) ≡ Some x
    by true q k = let same : zero ≡ suc i = one_place n zero (suc i) y x (y ∷ ys) r refl e (eqb-true y.tid x.tid q) in absurd (omega (arith, same))
    by false q k = k

pub is_owned : (w : Text) (t : Tale) (s : Seen) (i m : ℕ) (x : Begun) → AreDrawn s → Knows w t s → slice_get s.acts i ≡ Some x → is_act_at i (owner_of m t.owners.items) ≡ (x.tid == m)
is_owned w t s i m x drawn h e = by (owner_of m t.owners.items) (h.owners m)
  where
    -- no other tid than its own finds it
    finds : x.tid ≡ m → act_in m s.acts ≡ Some x
    finds q = subst (λ (n : ℕ). act_in n s.acts ≡ Some x) q (act_found 1 i x s.acts drawn.rise e)

    lost : act_in m s.acts ≡ None → false ≡ (x.tid == m)
    lost q = sym (ne_eqb x.tid m (λ r. absurd (cc (q, finds r))))

    by : (o : Option Owner) → act_in m s.acts ≡ act_by o s.acts → is_act_at i o ≡ (x.tid == m)
    by None q = lost q
    by (Some (owners.Pact k)) q = lost q
    by (Some (owners.Act at)) q = here (at == i) refl
      where
        here : (b : Bool) → (at == i) ≡ b → b ≡ (x.tid == m)
        here true r =
            let same : at ≡ i = eqb-true at i r in
            let is : act_in m s.acts ≡ Some x = q ∙ (ap (slice_get s.acts) same ∙ e) in
            sym (all_found (λ z. z.tid ≡ z.tid) (λ z. z.tid == m) s.acts x (all_same s.acts) is).1
          where
            all_same : (xs : List Begun) → AllByRecursion (λ z. z.tid ≡ z.tid) xs
            all_same [] = tt
            all_same (z ∷ zs) = (refl, all_same zs)
        here false r = sym (ne_eqb x.tid m (λ g. eqb-false at i r (one_place 1 at i x x s.acts drawn.rise (sym q ∙ finds g) e refl)))

pub is_kept_there : (w : Text) (t : Tale) (s : Seen) (i : ℕ) (x : Begun) (ws : List whose.Who) → AreDrawn s → Knows w t s → slice_get s.acts i ≡ Some x → is_kept_among t.owners.items ws i ≡ is_among x.tid (acts_among (map who_meant ws))
is_kept_there w t s i x [] drawn h e = refl
is_kept_there w t s i x (Batch k ∷ ws) drawn h e = is_kept_there w t s i x ws drawn h e
is_kept_there w t s i x (Act u ∷ ws) drawn h e =
    ap (λ (b : Bool). b || is_kept_among t.owners.items ws i) (is_owned w t s i u.0 x drawn h e ∙ sym (eqb_turned x.tid u.0 (x.tid == u.0) refl)) ∙ ap (λ (b : Bool). (u.0 == x.tid) || b) (is_kept_there w t s i x ws drawn h e)

-- ---- an ACT with one more batch behind it

-- the same ends
pub kept_act : (s new : Seen) (x : ActTale) → new.before ≡ s.before → new.members ≡ s.members → first_doom x.tid.0 new.dooms ≡ first_doom x.tid.0 s.dooms → (is_live s x.tid.0 ≡ true → new.behind x.tid.0 ≡ s.behind x.tid.0) → TellsAct s x → TellsAct new x
kept_act s new x b m d k h = record {
  before = h.before ∙ ap (λ (f : ℕ → List ℕ). greatest (f x.tid.0)) (sym b);
  behind = λ q. let live : is_live s x.tid.0 ≡ true = ap (λ (o : Option Doom). not (is_some o) && not (has_its_place (OfAct x.tid.0) s.members)) (sym d) ∙ (ap (λ ms. not (was_given_up new.dooms x.tid.0) && not (has_its_place (OfAct x.tid.0) ms)) (sym m) ∙ q) in h.behind live ∙ ap least (sym (k live));
  given_up = h.given_up ∙ ap (option_map (λ d. d.why)) (sym d);
  decided = h.decided ∙ ap (has_its_place (OfAct x.tid.0)) (sym m);
}

-- the batch stands behind the ACT, which crosses now or does not
act_lowered : (k : Bid) (a : ActorId) (s new : Seen) (x : ActTale) → is_live s x.tid.0 ≡ true → new.before ≡ s.before → new.members ≡ s.members → new.behind x.tid.0 ≡ s.behind x.tid.0 ++ k.0 ∷ []
    → first_doom x.tid.0 new.dooms ≡ (if reaches (greatest (s.before x.tid.0)) (least (new.behind x.tid.0)) then Some (record { tid = x.tid.0; why = Crossed (greatest (s.before x.tid.0)) (unwrap_or (least (new.behind x.tid.0)) 0) a.0 }) else first_doom x.tid.0 s.dooms)
    → TellsAct s x → TellsAct new (record x { behind = Some (lesser k x.behind); given_up = crossing_of x.before (lesser k x.behind) a })
act_lowered k a s new x live b m more d h = record {
  before = h.before ∙ ap (λ (f : ℕ → List ℕ). greatest (f x.tid.0)) (sym b);
  behind = λ q. sym least_is;
  given_up = each (nat_le n x.before.0) ∙ ap (option_map (λ d. d.why)) (sym now);
  decided = h.decided ∙ ap (has_its_place (OfAct x.tid.0)) (sym m);
}
  where
    n : ℕ
    n = least_of k.0 (option_map bid_number x.behind)

    least_is : least (new.behind x.tid.0) ≡ Some n
    least_is = ap least more ∙ (least_push k.0 (s.behind x.tid.0) ∙ ap (λ (o : Option ℕ). Some (least_of k.0 o)) (sym (h.behind live)))

    -- its ends, as they are kept
    now : first_doom x.tid.0 new.dooms ≡ (if nat_le n x.before.0 then Some (record { tid = x.tid.0; why = Crossed x.before.0 n a.0 }) else first_doom x.tid.0 s.dooms)
    now =
        d ∙ (ap (λ (o : Option ℕ). if reaches (greatest (s.before x.tid.0)) o then Some (record { tid = x.tid.0; why = Crossed (greatest (s.before x.tid.0)) (unwrap_or o 0) a.0 }) else first_doom x.tid.0 s.dooms) least_is
        ∙ ap (λ (j : ℕ). if nat_le n j then Some (record { tid = x.tid.0; why = Crossed j n a.0 }) else first_doom x.tid.0 s.dooms) (sym h.before))

    each : (c : Bool) → option_map why_of (if c then Some (reason.Crossed x.before (lesser k x.behind) a) else None)
        ≡ option_map (λ d. d.why) (if c then Some (record { tid = x.tid.0; why = Crossed x.before.0 n a.0 }) else first_doom x.tid.0 s.dooms)
    each true = refl
    each false = sym (ap (option_map (λ d. d.why)) (not_doomed s x.tid.0 live))

act_arrived : (k : Bid) (a : ActorId) (i : ℕ) (s : Seen) (x : ActTale) → IsSound s → slice_get s.acts i ≡ Some (begun_of x) → TellsAct s x
    → TellsAct (cross_out a.0 (batch_placed_last k.0 a.0 s)) (where_touched (lowered_act k a) (is_among x.tid.0 (acts_among (s.entries a.0))) x)
act_arrived k a i s x sound e h = by (is_among x.tid.0 (acts_among (s.entries a.0))) refl
  where
    mid : Seen
    mid = batch_placed_last k.0 a.0 s

    new : Seen
    new = cross_out a.0 mid

    t : ℕ
    t = x.tid.0

    doom : first_doom t new.dooms ≡ (if sets_cross mid t then Some (crossing a.0 mid (begun_of x)) else first_doom t s.dooms)
    doom = doom_after (λ y. sets_cross mid y.tid) (crossing a.0 mid) s i (begun_of x) sound.drawn (λ y. refl) e (λ q. first_true (is_live s t) (reaches (greatest (s.before t)) (least (mid.behind t))) q)

    -- who does not cross has its reason as before
    no_doom : sets_cross mid t ≡ false → first_doom t new.dooms ≡ first_doom t s.dooms
    no_doom q = doom ∙ ap (λ (b : Bool). if b then Some (crossing a.0 mid (begun_of x)) else first_doom t s.dooms) q

    same : (b : Bool) → is_among t (acts_among (s.entries a.0)) ≡ b → mid.behind t ≡ (if b then s.behind t ++ k.0 ∷ [] else s.behind t)
    same b q = ap (λ (c : Bool). if c then s.behind t ++ k.0 ∷ [] else s.behind t) q

    by : (b : Bool) → is_among t (acts_among (s.entries a.0)) ≡ b → TellsAct new (where_touched (lowered_act k a) b x)
    by false q =
        let none : sets_cross mid t ≡ false = ap (λ (ks : List ℕ). is_live s t && reaches (greatest (s.before t)) (least ks)) (same false q) ∙ each_found (λ y. sets_cross s y.tid ≡ false) s.acts i (begun_of x) e sound.steady.none_crossed in
        kept_act s new x refl refl (no_doom none) (λ l. same false q) h
    by true q = go (lives x) refl
      where
        go : (l : Bool) → lives x ≡ l → TellsAct new (if l then record x { behind = Some (lesser k x.behind); given_up = crossing_of x.before (lesser k x.behind) a } else x)
        go true l =
            let live : is_live s t ≡ true = sym (lives_is s x h) ∙ l in
            act_lowered k a s new x live refl refl (same true q)
            (doom ∙ ap (λ (b : Bool). if b && reaches (greatest (s.before t)) (least (mid.behind t)) then Some (crossing a.0 mid (begun_of x)) else first_doom t s.dooms) live) h
        go false l =
            let dead : is_live s t ≡ false = sym (lives_is s x h) ∙ l in
            kept_act s new x refl refl (no_doom (ap (λ (b : Bool). b && reaches (greatest (s.before t)) (least (mid.behind t))) dead)) (λ live. absurd (true≢false (sym live ∙ dead))) h

elsewhere : {X : Type 0} (n i : ℕ) (x : X) (f : ℕ → X) → i ≢ n → with_at n x f i ≡ f i
elsewhere n i x f h = ap (λ (b : Bool). if b then x else f i) (ne_eqb i n h)

-- ---- an actor with one more batch, and a batch on one more actor

joined_actor : (k : Bid) (a : ℕ) (s new : Seen) (x y : ActorTale) → new.before ≡ s.before → new.ran ≡ s.ran → new.left_sealed ≡ s.left_sealed → new.entries a ≡ s.entries a ++ OfBatch k.0 ∷ [] → new.placed a ≡ s.placed a ++ OfBatch k.0 ∷ []
    → new.kept a ≡ s.kept a ++ k.0 ∷ [] → IsJoined k x y → TellsActor s a x → TellsActor new a y
joined_actor k a s new x y b r l e p c j h = record {
  entries = ap (map who_meant) j.entries ∙ (map-append who_meant x.entries.items (Batch k ∷ []) ∙ (ap (λ ws. ws ++ OfBatch k.0 ∷ []) h.entries ∙ sym e));
  placed = ap (map who_meant) j.placed ∙ (map-append who_meant x.placed.items (Batch k ∷ []) ∙ (ap (λ ws. ws ++ OfBatch k.0 ∷ []) h.placed ∙ sym p));
  ran = ap (map tid_number) j.ran ∙ (h.ran ∙ ap (λ (f : ℕ → List ℕ). f a) (sym r));
  kept = ap (map bid_number) j.kept ∙ (map-append bid_number x.kept.items (k ∷ []) ∙ (ap (λ ks. ks ++ k.0 ∷ []) h.kept ∙ sym c));
  last = omega (arith, j.last, h.last, ap greatest c, greatest_push k.0 (s.kept a));
  floor = j.floor ∙ (h.floor ∙ (ap (λ f. greatest (sets_of f (s.left_sealed a))) (sym b) ∙ ap (λ f. greatest (sets_of new.before (f a))) (sym l)));
  write_floor = j.write_floor ∙ (h.write_floor ∙ (ap (λ f. greatest (sets_of f (filter (λ x. not x.reader) (s.left_sealed a)))) (sym b) ∙ ap (λ f. greatest (sets_of new.before (filter (λ x. not x.reader) (f a)))) (sym l)));
}

-- the same on the others
pub kept_actor : (a : ℕ) (s new : Seen) (x : ActorTale) → new.before ≡ s.before → new.ran ≡ s.ran → new.left_sealed ≡ s.left_sealed → new.entries a ≡ s.entries a → new.placed a ≡ s.placed a → new.kept a ≡ s.kept a → TellsActor s a x → TellsActor new a x
kept_actor a s new x b r l e p c h = record {
  entries = h.entries ∙ sym e;
  placed = h.placed ∙ sym p;
  ran = h.ran ∙ ap (λ (f : ℕ → List ℕ). f a) (sym r);
  kept = h.kept ∙ sym c;
  last = h.last ∙ ap greatest (sym c);
  floor = h.floor ∙ (ap (λ f. greatest (sets_of f (s.left_sealed a))) (sym b) ∙ ap (λ f. greatest (sets_of new.before (f a))) (sym l));
  write_floor = h.write_floor ∙ (ap (λ f. greatest (sets_of f (filter (λ x. not x.reader) (s.left_sealed a)))) (sym b) ∙ ap (λ f. greatest (sets_of new.before (filter (λ x. not x.reader) (f a)))) (sym l));
}

there_push : (who other : Who) (ws : List Who) → is_one_of_these who (ws ++ other ∷ []) ≡ (is_one_of_these who ws || is_who who other)
there_push who other ws = list_any-append (is_who who) ws (other ∷ []) ∙ ap (λ (b : Bool). is_one_of_these who ws || b) (or_false (is_who who other))

among_push : (n m : ℕ) (ns : List ℕ) → is_among n (ns ++ m ∷ []) ≡ (is_among n ns || (m == n))
among_push n m ns = list_any-append (λ x. x == n) ns (m ∷ []) ∙ ap (λ (b : Bool). is_among n ns || b) (or_false (m == n))

-- batch k was placed on actor a
come_way : (k a : ℕ) (actor : ActorId) (s new : Seen) (x y : BatchWay) → actor.0 ≡ a → new.cuts ≡ s.cuts → new.placed ≡ with_at a (s.placed a ++ OfBatch k ∷ []) s.placed → CameThere actor x y → TellsWay s k x → TellsWay new k y
come_way k a actor s new x y is c p j h = record {
  came = λ b. ap (λ bs. is_among b (map actor_number bs)) j.came
      ∙ (ap (is_among b) (map-append actor_number x.came.items (actor ∷ []))
      ∙ (among_push b actor.0 (map actor_number x.came.items) ∙ (ap (λ (q : Bool). q || (actor.0 == b)) (h.came b) ∙ (by b (b == a) refl ∙ sym (ap (λ f. is_one_of_these (OfBatch k) (f b)) p)))));
  is_cut = j.is_cut ∙ (h.is_cut ∙ ap (was_taken_along k) (sym c));
  fall = ap (cuts_from k) j.fall ∙ (h.fall ∙ ap (filter (λ c. c.first == k)) (sym c));
}
  where
    by : (b : ℕ) (q : Bool) → (b == a) ≡ q → (is_one_of_these (OfBatch k) (s.placed b) || (actor.0 == b)) ≡ is_one_of_these (OfBatch k) (if q then s.placed a ++ OfBatch k ∷ [] else s.placed b)
    by b true q =
        let same : b ≡ a = eqb-true b a q in
        (ap (λ (r : Bool). is_one_of_these (OfBatch k) (s.placed b) || r) (eq-eqb actor.0 b (is ∙ sym same)) ∙ or_true (is_one_of_these (OfBatch k) (s.placed b)))
        ∙ sym (there_push (OfBatch k) (OfBatch k) (s.placed a) ∙ (ap (λ (r : Bool). is_one_of_these (OfBatch k) (s.placed a) || r) (eq-eqb k k refl) ∙ or_true (is_one_of_these (OfBatch k) (s.placed a))))
    by b false q = ap (λ (r : Bool). is_one_of_these (OfBatch k) (s.placed b) || r) (ne_eqb actor.0 b (λ r. eqb-false b a q (sym r ∙ is))) ∙ or_false (is_one_of_these (OfBatch k) (s.placed b))

-- another one was not
kept_way : (j k a : ℕ) (s new : Seen) (x : BatchWay) → j ≢ k → new.cuts ≡ s.cuts → new.placed ≡ with_at a (s.placed a ++ OfBatch k ∷ []) s.placed → TellsWay s j x → TellsWay new j x
kept_way j k a s new x n c p h = record {
  came = λ b. h.came b ∙ (by b (b == a) refl ∙ sym (ap (λ f. is_one_of_these (OfBatch j) (f b)) p));
  is_cut = h.is_cut ∙ ap (was_taken_along j) (sym c);
  fall = h.fall ∙ ap (filter (λ c. c.first == j)) (sym c);
}
  where
    by : (b : ℕ) (q : Bool) → (b == a) ≡ q → is_one_of_these (OfBatch j) (s.placed b) ≡ is_one_of_these (OfBatch j) (if q then s.placed a ++ OfBatch k ∷ [] else s.placed b)
    by b true q =
        ap (λ (i : ℕ). is_one_of_these (OfBatch j) (s.placed i)) (eqb-true b a q)
        ∙ sym (there_push (OfBatch j) (OfBatch k) (s.placed a) ∙ (ap (λ (r : Bool). is_one_of_these (OfBatch j) (s.placed a) || r) (ne_eqb j k n) ∙ or_false (is_one_of_these (OfBatch j) (s.placed a))))
    by b false q = refl

-- ---- whether a batch comes

-- the others of its list, in the words of the code
pub listed_is : (a : ActorId) (bs : List ActorId) → list_any (λ (b : ActorId). b.0 == a.0) bs ≡ is_among a.0 (map actor_number bs)
listed_is a bs = sym (any_map (λ x. x == a.0) actor_number bs)

pub comes_is : (k : ℕ) (a : ActorId) (s : Seen) (f : Formed) (x : BatchWay) → batch_in k s.batches ≡ Some f → TellsWay s k x → (is_among a.0 f.actors && (not (list_any (λ (b : ActorId). b.0 == a.0) x.came.items) && not x.is_cut)) ≡ comes k a.0 s
comes_is k a s f x e h =
    ap (λ (b : Bool). is_among a.0 f.actors && (not b && not x.is_cut)) (listed_is a x.came.items ∙ h.came a.0)
    ∙ (ap (λ (b : Bool). is_among a.0 f.actors && (not (is_one_of_these (OfBatch k) (s.placed a.0)) && not b)) h.is_cut
    ∙ ap (λ (o : Option Formed). goes_to a.0 o && (not (is_one_of_these (OfBatch k) (s.placed a.0)) && not (was_taken_along k s.cuts))) (sym e))

pub none_comes : (k a : ℕ) (s : Seen) → batch_in k s.batches ≡ None → comes k a s ≡ false
none_comes k a s e = ap (λ (o : Option Formed). goes_to a o && (not (is_one_of_these (OfBatch k) (s.placed a)) && not (was_taken_along k s.cuts))) e

-- no batch goes to an actor that does not exist
pub nobody_comes : (w : Text) (k a : ℕ) (s : Seen) → FitsTale w s → length w.opening.states ≤ a → comes k a s ≡ false
nobody_comes w k a s h l = by (batch_in k s.batches) refl
  where
    none : (bs : List ℕ) → AllByRecursion (λ b. b < length w.opening.states) bs → is_among a bs ≡ false
    none [] g = refl
    none (b ∷ bs) g = ap (λ (q : Bool). q || is_among a bs) (ne_eqb b a (λ q. omega (arith, q, g.0, l))) ∙ none bs g.1

    by : (o : Option Formed) → batch_in k s.batches ≡ o → comes k a s ≡ false
    by None e = none_comes k a s e
    by (Some f) e =
        ap (λ (o : Option Formed). goes_to a o && (not (is_one_of_these (OfBatch k) (s.placed a)) && not (was_taken_along k s.cuts))) e
        ∙ ap (λ (q : Bool). q && (not (is_one_of_these (OfBatch k) (s.placed a)) && not (was_taken_along k s.cuts))) (none f.actors (all_found (λ b. AllByRecursion (λ c. c < length w.opening.states) b.actors) (λ b. b.bid == k) s.batches f h.actors e).0)

-- ---- once is enough

pub lowered_twice : (k : Bid) (a : ActorId) (x : ActTale) → lowered_act k a (lowered_act k a x) ≡ lowered_act k a x
lowered_twice k a x = by (lives x) refl
  where
    n : Bid
    n = lesser k x.behind

    y : ActTale
    y = record x { behind = Some n; given_up = crossing_of x.before n a }

    least_kept : lesser k (Some n) ≡ n
    least_kept = one x.behind
      where
        one : (o : Option Bid) → lesser k (Some (lesser k o)) ≡ lesser k o
        one None = ap (λ (m : ℕ). record { 0 = m }) (omega arith)
        one (Some j) = ap (λ (m : ℕ). record { 0 = m }) (omega arith)

    again : (b : Bool) → (if b then record y { behind = Some (lesser k y.behind); given_up = crossing_of y.before (lesser k y.behind) a } else y) ≡ y
    again true = ap (λ (m : Bid). record x { behind = Some m; given_up = crossing_of x.before m a }) least_kept
    again false = refl

    by : (b : Bool) → lives x ≡ b → lowered_act k a (if b then y else x) ≡ (if b then y else x)
    by true e = again (lives y)
    by false e = ap (λ (b : Bool). if b then y else x) e

-- ---- the event

arrive_seen : (reads : Tx → Bool) (w : Text) (k a : ℕ) (s : Seen) → comes k a s ≡ true → happened reads w (Arrive k a) s ≡ cross_out a (batch_placed_last k a s)
unfolding added ring_after
arrive_seen reads w k a s e = ap (λ (b : Bool). record (if b then cross_out a (batch_placed_last k a s) else s) { ring = s.ring }) e

arrive_left : (reads : Tx → Bool) (w : Text) (k a : ℕ) (s : Seen) → comes k a s ≡ false → happened reads w (Arrive k a) s ≡ s
unfolding added ring_after
arrive_left reads w k a s e = ap (λ (b : Bool). record (if b then cross_out a (batch_placed_last k a s) else s) { ring = s.ring }) e

pub nothing_comes : (reads : Tx → Bool) (w : Text) (k a : ℕ) (t : Told) (s : Seen) → comes k a s ≡ false → KnowsAll w t s → KnowsAll w t (happened reads w (Arrive k a) s)
nothing_comes reads w k a t s e h = subst (KnowsAll w t) (sym (arrive_left reads w k a s e)) h

pub arrived_known : (reads : Tx → Bool) (w : Text) (k : Bid) (a : ActorId) (x : ActorTale) (t mid new : Told) (s : Seen) → IsSound s → KnowsAll w t s → comes k.0 a.0 s ≡ true → slice_get t.actors.items a.0 ≡ Some x → 1 ≤ k.0
    → Lowers k a x.entries.items t mid → Joins k a mid new → KnowsAll w new (happened reads w (Arrive k.0 a.0) s)
arrived_known reads w k a x t mid new s sound h come here one c j = subst (KnowsAll w new) (sym (arrive_seen reads w k.0 a.0 s come)) (record { names = names; stands = stands })
  where
    after : Seen
    after = cross_out a.0 (batch_placed_last k.0 a.0 s)

    tale : new.tale ≡ record t.tale { acts = mid.tale.acts }
    tale = ap (λ (m : Told). m.tale) j.rest ∙ ap (λ (m : Told). m.tale) c.rest

    acts_same : new.tale.acts.items ≡ mid.tale.acts.items
    acts_same = ap (λ (m : Told). m.tale.acts.items) j.rest

    -- it stands there where it is among those that are told
    hits : (i : ℕ) (y : Begun) → slice_get s.acts i ≡ Some y → is_kept_among t.tale.owners.items x.entries.items i ≡ is_among y.tid (acts_among (s.entries a.0))
    hits i y e = is_kept_there w t.tale s i y x.entries.items sound.drawn h.names e ∙ ap (λ ws. is_among y.tid (acts_among ws)) (h.stands.actors a.0 x here).entries

    begun_there : (i : ℕ) (y : ActTale) → slice_get t.tale.acts.items i ≡ Some y → slice_get s.acts i ≡ Some (begun_of y)
    begun_there i y e = ap (λ ys. slice_get ys i) (sym h.names.acts) ∙ get_mapped begun_of t.tale.acts.items i y e

    acts_now : AllByRecursion (TellsAct after) mid.tale.acts.items
    acts_now = touched_all (TellsAct s) (TellsAct after) (lowered_act k a) (is_kept_among t.tale.owners.items x.entries.items) t.tale.acts.items mid.tale.acts.items c.acts
        (λ i y e g. subst (λ (b : Bool). TellsAct after (where_touched (lowered_act k a) b y)) (sym (hits i (begun_of y) (begun_there i y e))) (act_arrived k a i s y sound (begun_there i y e) g)) h.names.ends

    begun_kept : (b : Bool) (y : ActTale) → begun_of (if b then record y { behind = Some (lesser k y.behind); given_up = crossing_of y.before (lesser k y.behind) a } else y) ≡ begun_of y
    begun_kept true y = refl
    begun_kept false y = refl

    begun_same : map begun_of mid.tale.acts.items ≡ map begun_of t.tale.acts.items
    begun_same = touched_map begun_of (lowered_act k a) (is_kept_among t.tale.owners.items x.entries.items) t.tale.acts.items mid.tale.acts.items (λ y. begun_kept (lives y) y) c.acts

    names : Knows w new.tale after
    names = record {
      ring = ap (λ (q : Tale). q.ring) tale ∙ h.names.ring;
      batches = ap (λ (q : Tale). map formed_of q.batches.items) tale ∙ h.names.batches;
      marks = subst (λ (q : Tale). AllByRecursion (TellsBatch after) q.batches.items) (sym tale) (weaker (TellsBatch s) (TellsBatch after) t.tale.batches.items (λ b m. record { committed = m.committed; settled = m.settled }) h.names.marks);
      acts = ap (map begun_of) acts_same ∙ (begun_same ∙ h.names.acts);
      ends = subst (AllByRecursion (TellsAct after)) (sym acts_same) acts_now;
      owners = λ n. h.names.owners n ∙ ap (λ (q : Tale). act_by (owner_of n q.owners.items) s.acts) (sym tale);
      kept = subst (λ (q : Tale). AllByRecursion (IsKept (length s.acts)) q.owners.items) (sym tale) h.names.kept;
      drawn = h.names.drawn ∙ ap (λ (q : Tale). length q.owners.items + 1) (sym tale);
      members = ap (λ (q : Tale). map member_of q.members.items) tale ∙ h.names.members;
      settled = ap (λ (q : Tale). q.settled) tale ∙ h.names.settled;
      number = ap (λ (q : Tale). q.next_c) tale ∙ h.names.number;
    }

    actors_mid : mid.actors.items ≡ t.actors.items
    actors_mid = ap (λ (m : Told). m.actors.items) c.rest

    ways_mid : mid.ways.items ≡ t.ways.items
    ways_mid = ap (λ (m : Told). m.ways.items) c.rest

    -- ---- the actors

    actor_now : (b : ℕ) (y : ActorTale) → slice_get new.actors.items b ≡ Some y → TellsActor after b y
    actor_now b y e = by (cases_eq b a.0)
      where
        at_a : {X : Type 0} (f : ℕ → X) (z : X) → with_at a.0 z f a.0 ≡ z
        at_a f z = ap (λ (q : Bool). if q then z else f a.0) (eq-eqb a.0 a.0 refl)

        by : (b ≡ a.0) ⊎ (b ≡ a.0 → ⊥) → TellsActor after b y
        by (inl q) =
            subst (λ (i : ℕ). TellsActor after i y) (sym q)
            (joined_actor k a.0 s after x y refl refl refl (at_a s.entries (s.entries a.0 ++ OfBatch k.0 ∷ [])) (at_a s.placed (s.placed a.0 ++ OfBatch k.0 ∷ [])) (at_a s.kept (s.kept a.0 ++ k.0 ∷ []))
            (j.actors.here x y (ap (λ xs. slice_get xs a.0) actors_mid ∙ here) (subst (λ (i : ℕ). slice_get new.actors.items i ≡ Some y) q e)) (h.stands.actors a.0 x here))
        by (inr n) =
            kept_actor b s after y refl refl refl (elsewhere a.0 b (s.entries a.0 ++ OfBatch k.0 ∷ []) s.entries n) (elsewhere a.0 b (s.placed a.0 ++ OfBatch k.0 ∷ []) s.placed n) (elsewhere a.0 b (s.kept a.0 ++ k.0 ∷ []) s.kept n)
            (h.stands.actors b y (ap (λ xs. slice_get xs b) (sym actors_mid) ∙ unchanged (IsJoined k) a.0 b mid.actors.items new.actors.items y j.actors n e))

    actors_many : length new.actors.items ≡ length t.actors.items
    actors_many = j.actors.count ∙ ap length actors_mid

    -- ---- the batches

    way_now : (i : ℕ) (y : BatchWay) → slice_get new.ways.items i ≡ Some y → TellsWay after (i + 1) y
    way_now i y e = by (cases_eq i (k.0 - 1))
      where
        by : (i ≡ k.0 - 1) ⊎ (i ≡ k.0 - 1 → ⊥) → TellsWay after (i + 1) y
        by (inl q) =
            let old = other_there new.ways.items t.ways.items i y (ap length (sym ways_mid) ∙ sym j.ways.count) e in
            let number : k.0 ≡ i + 1 = omega (arith, q, one) in
            subst (λ (m : ℕ). TellsWay after m y) number
            (come_way k.0 a.0 a s after old.0 y refl refl refl
            (j.ways.here old.0 y (ap (λ xs. slice_get xs (k.0 - 1)) ways_mid ∙ subst (λ (m : ℕ). slice_get t.ways.items m ≡ Some old.0) q old.1) (subst (λ (m : ℕ). slice_get new.ways.items m ≡ Some y) q e))
            (subst (λ (m : ℕ). TellsWay s m old.0) (sym number) (h.stands.ways i old.0 old.1)))
        by (inr n) = kept_way (i + 1) k.0 a.0 s after y (λ q. n (omega (arith, q))) refl refl (h.stands.ways i y (ap (λ xs. slice_get xs i) (sym ways_mid) ∙ unchanged (CameThere a) (k.0 - 1) i mid.ways.items new.ways.items y j.ways n e))

    -- ---- who gains from whom

    tie_now : (i : ℕ) (z : ActTies) (b : Begun) → slice_get new.ties.items i ≡ Some z → slice_get s.acts i ≡ Some b → TellsTies after b.tid z
    tie_now i z b e f =
        ties_now w (lowered_act k a) (is_kept_among t.tale.owners.items x.entries.items) t mid.tale.acts.items mid.ties.items s after (λ y. ap (λ (q : Begun). q.tid) (begun_kept (lives y) y)) h sound.steady.pairs c.acts acts_now c.ties refl refl
        i z b (ap (λ (m : Told). slice_get m.ties.items i) (sym j.rest) ∙ e) f

    stands : Stands w new after
    stands = record {
      count = actors_many ∙ h.stands.count;
      actors = actor_now;
      nobody = λ b l. let n : b ≢ a.0 = λ q. omega (arith, q, l, actors_many, there t.actors.items a.0 x here) in
          let before = h.stands.nobody b (omega (arith, l, actors_many)) in
          (elsewhere a.0 b (s.entries a.0 ++ OfBatch k.0 ∷ []) s.entries n ∙ before.0, elsewhere a.0 b (s.placed a.0 ++ OfBatch k.0 ∷ []) s.placed n ∙ before.1);
      batches = j.ways.count ∙ (ap length ways_mid ∙ h.stands.batches);
      ways = way_now;
      cuts = h.stands.cuts;
      uncut = ap (λ (m : Told). map bid_number m.uncut.items) (j.rest ∙ ap (λ (m : Told). record m { actors = new.actors; ways = new.ways }) c.rest) ∙ h.stands.uncut;
      acts = ap (λ (m : Told). length m.ties.items) j.rest ∙ (c.ties.count ∙ h.stands.acts);
      ties = tie_now;
      going = λ i b e l. subst (λ (m : Told). is_among i m.going.items ≡ true) (sym (j.rest ∙ ap (λ (m : Told). record m { actors = new.actors; ways = new.ways }) c.rest)) (h.stands.going i b e (was_live s after (map (crossing a.0 (batch_placed_last k.0 a.0 s)) (filter (λ y. sets_cross (batch_placed_last k.0 a.0 s) y.tid) s.acts)) b.tid refl refl l));
    }
