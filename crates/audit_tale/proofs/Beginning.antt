-- What Form and Admit add to what is known: a batch or an ACT begins, and tids are drawn.
use Rattle.std.specs.Prelude.{slice_index_or, ◌≡◌, ◌≢◌, refl, ℕ, zero, suc, ◌+◌, ◌<◌, ◌≤◌, ◌==◌, ◌-◌, ◌⊎◌, ◌||◌, ◌&&◌, not, Bool, true, false, if◌then◌else◌, Option, Some, None, option_map, List, [], ◌∷◌, ◌++◌, length, map, replicate, slice_get}
use Rattle.std.specs.List.{AllByRecursion}
use Rattle.std.proofs.Common.{arith, sym, ap, subst, inl, inr, ◌∙◌}
use Rattle.std.proofs.lemmas.Bool.{eq-eqb, eqb-false, eqb-true, ne_eqb}
use Rattle.std.proofs.lemmas.List.{length-append, length-map, length-replicate, map-append}
use Rattle.std.proofs.lemmas.Option.{slice_get_past}
use Rattle.snap_base.proofs.Booleans.{three_ways}
use Rattle.snap_base.proofs.Lists.{all_join, all_push, get_behind, get_left, none_passes, weaker}
use Rattle.snap_base.specs.declared.ids.Tid.{Tid}
use Rattle.snap_base.specs.declared.ids.TxNo.{TxNo}
use Rattle.snap_base.specs.declared.transactions.Tx.{Tx}
use Rattle.token_ring.specs.Asked.{first_with}
use Rattle.protocol.specs.Events.{Admit, Form}
use Rattle.protocol.specs.Fixed.{Text, base, tx_at}
use Rattle.protocol.specs.History.{with_at}
use Rattle.protocol.specs.OnPost.{next_act}
use Rattle.protocol.specs.OnRing.{Formed, admitted, formed, planned}
use Rattle.protocol.specs.Parts.{Ring, Who, OfBatch, OfAct}
use Rattle.protocol.specs.Words.{greatest, is_among, is_who}
use Rattle.audit_words.specs.Happenings.{added, happened, ring_after, with_begun}
use Rattle.audit_words.specs.Seen.{Begun, Doom, Member, Seen, act_in, first_doom, has_its_place, was_given_up, least}
use Rattle.audit_tale.specs.declared.tales.ActTale.{ActTale}
use Rattle.audit_tale.specs.declared.tales.BatchTale.{BatchTale}
use Rattle.audit_tale.specs.declared.tales.Owner.{Owner}
use Rattle.audit_tale.specs.declared.tales.Owner.TheVariants as owners
use Rattle.audit_tale.specs.declared.tales.Tale.{Tale}
use Rattle.audit_tale.specs.Knows.{AddsBatch, AreDrawn, IsDrawn, IsKept, Knows, TellsAct, TellsBatch, act_by, begun_of, formed_of, member_of, owner_of}

-- ---- who has not drawn its number has nothing

no_place_yet : (r : Ring) (who : Who) (ms : List Member) → (IsDrawn r who → ⊥) → AllByRecursion (λ m. IsDrawn r m.who) ms → has_its_place who ms ≡ false
no_place_yet r who [] n h = refl
no_place_yet r who (m ∷ ms) n h = ap (λ (b : Bool). b || has_its_place who ms) (other who m.who n h.0) ∙ no_place_yet r who ms n h.1
  where
    other : (x y : Who) → (IsDrawn r x → ⊥) → IsDrawn r y → is_who x y ≡ false
    other (OfBatch k) (OfBatch j) f g = ne_eqb k j (λ q. f (subst (λ (i : ℕ). i < r.next_bid) (sym q) g))
    other (OfBatch k) (OfAct t) f g = refl
    other (OfAct t) (OfBatch k) f g = refl
    other (OfAct t) (OfAct u) f g = ne_eqb t u (λ q. f (subst (λ (i : ℕ). i < r.next_tid) (sym q) g))

not_settled_yet : (n k : ℕ) (ks : List ℕ) → n ≤ k → AllByRecursion (λ j. j < n) ks → is_among k ks ≡ false
not_settled_yet n k [] l h = refl
not_settled_yet n k (j ∷ ks) l h = ap (λ (b : Bool). b || is_among k ks) (ne_eqb j k (λ q. omega (arith, q, l, h.0))) ∙ not_settled_yet n k ks l h.1

no_doom_yet : (n : ℕ) (ds : List Doom) → AllByRecursion (λ d. d.tid < n) ds → first_doom n ds ≡ None
no_doom_yet n ds h = none_passes (λ d. d.tid == n) ds (weaker (λ d. d.tid < n) (λ d. (d.tid == n) ≡ false) ds (λ d l. ne_eqb d.tid n (λ q. omega (arith, q, l))) h)

no_act_yet : (n : ℕ) (xs : List Begun) → AllByRecursion (λ x. x.tid < n) xs → act_in n xs ≡ None
no_act_yet n xs h = none_passes (λ x. x.tid == n) xs (weaker (λ x. x.tid < n) (λ x. (x.tid == n) ≡ false) xs (λ x l. ne_eqb x.tid n (λ q. omega (arith, q, l))) h)

-- ---- one more ACT is found by its tid

find_last : (n : ℕ) (y : Begun) (xs : List Begun) → y.tid ≡ n → act_in n xs ≡ None → act_in n (xs ++ y ∷ []) ≡ Some y
find_last n y [] e h = ap (λ (b : Bool). if b then Some y else None) (eq-eqb y.tid n e)
find_last n y (x ∷ xs) e h = by (x.tid == n) h (find_last n y xs e)
  where
    by : (b : Bool) → (if b then Some x else act_in n xs) ≡ None → (act_in n xs ≡ None → act_in n (xs ++ y ∷ []) ≡ Some y) → (if b then Some x else act_in n (xs ++ y ∷ [])) ≡ Some y
    by true q f = absurd (cc q)
    by false q f = f q

find_other : (j : ℕ) (y : Begun) (xs : List Begun) → y.tid ≢ j → act_in j (xs ++ y ∷ []) ≡ act_in j xs
find_other j y [] n = ap (λ (b : Bool). if b then Some y else None) (ne_eqb y.tid j n)
find_other j y (x ∷ xs) n = ap (λ (o : Option Begun). if x.tid == j then Some x else o) (find_other j y xs n)

by_kept : (o : Option Owner) (xs : List Begun) (y : Begun) → ((p : ℕ) → o ≡ Some (owners.Act p) → p < length xs) → act_by o (xs ++ y ∷ []) ≡ act_by o xs
by_kept None xs y h = refl
by_kept (Some (owners.Pact k)) xs y h = refl
by_kept (Some (owners.Act p)) xs y h = get_left xs (y ∷ []) p (h p refl)

kept_at : (many : ℕ) (os : List Owner) (i p : ℕ) → AllByRecursion (IsKept many) os → slice_get os i ≡ Some (owners.Act p) → p < many
kept_at many [] i p h e = absurd (cc e)
kept_at many (o ∷ os) zero p h e = let is : o ≡ owners.Act p = cc e in subst (IsKept many) is h.0
kept_at many (o ∷ os) (suc i) p h e = kept_at many os i p h.1 e

owners_more : (n j : ℕ) (os : List Owner) (xs : List Begun) (y : Begun) → y.tid ≡ n → n ≡ length os + 1 → act_in n xs ≡ None → AllByRecursion (IsKept (length xs)) os → ((i : ℕ) → act_in i xs ≡ act_by (owner_of i os) xs)
    → act_in j (xs ++ y ∷ []) ≡ act_by (owner_of j (os ++ owners.Act (length xs) ∷ [])) (xs ++ y ∷ [])
owners_more n j os xs y e l none all h = by j (j == n) refl
  where
    last : owner_of n (os ++ owners.Act (length xs) ∷ []) ≡ Some (owners.Act (length xs))
    last = let same : n ≡ suc (length os) = omega (arith, l) in ap (λ (m : ℕ). owner_of m (os ++ owners.Act (length xs) ∷ [])) same ∙ get_behind os (owners.Act (length xs) ∷ []) 0 (length os) (omega arith)

    here : act_in n (xs ++ y ∷ []) ≡ act_by (owner_of n (os ++ owners.Act (length xs) ∷ [])) (xs ++ y ∷ [])
    here = find_last n y xs e none ∙ sym (ap (λ (o : Option Owner). act_by o (xs ++ y ∷ [])) last ∙ get_behind xs (y ∷ []) 0 (length xs) (omega arith))

    there : (i : ℕ) → i ≢ n → owner_of i (os ++ owners.Act (length xs) ∷ []) ≡ owner_of i os
    there zero f = refl
    there (suc i) f = below (three_ways i (length os))
      where
        below : (i < length os) ⊎ ((i ≡ length os) ⊎ (length os < i)) → slice_get (os ++ owners.Act (length xs) ∷ []) i ≡ slice_get os i
        below (inl q) = get_left os (owners.Act (length xs) ∷ []) i q
        below (inr (inl q)) = absurd (f (omega (arith, q, l)))
        below (inr (inr q)) = slice_get_past (os ++ owners.Act (length xs) ∷ []) i (omega (arith, q, length-append os (owners.Act (length xs) ∷ []))) ∙ sym (slice_get_past os i (omega (arith, q)))

    kept : (i p : ℕ) → owner_of i os ≡ Some (owners.Act p) → p < length xs
    kept zero p q = absurd (cc q)
    kept (suc i) p q = kept_at (length xs) os i p all q

    by : (i : ℕ) (b : Bool) → (i == n) ≡ b → act_in i (xs ++ y ∷ []) ≡ act_by (owner_of i (os ++ owners.Act (length xs) ∷ [])) (xs ++ y ∷ [])
    by i true q = subst (λ (m : ℕ). act_in m (xs ++ y ∷ []) ≡ act_by (owner_of m (os ++ owners.Act (length xs) ∷ [])) (xs ++ y ∷ [])) (sym (eqb-true i n q)) here
    by i false q =
        find_other i y xs (λ g. eqb-false i n q (sym g ∙ e))
        ∙ (h i ∙ sym (ap (λ (o : Option Owner). act_by o (xs ++ y ∷ [])) (there i (eqb-false i n q)) ∙ by_kept (owner_of i os) xs y (kept i)))

-- ---- an ACT begins

pub admit_seen : (reads : Tx → Bool) (w : Text) (n : ℕ) (s : Seen) → happened reads w (Admit n) s ≡ record (with_begun reads w n (next_act s.ring) s) { ring = admitted s.ring }
unfolding added ring_after
admit_seen reads w n s = refl

pub marks_kept : (s new : Seen) (bs : List BatchTale) → new.members ≡ s.members → new.settled ≡ s.settled → AllByRecursion (TellsBatch s) bs → AllByRecursion (TellsBatch new) bs
marks_kept s new [] e f h = tt
marks_kept s new (b ∷ bs) e f h = (record { committed = by h.0.committed; settled = h.0.settled ∙ ap (is_among b.formed.bid) (sym f) }, marks_kept s new bs e f h.1)
  where
    by : (b.committed ≡ has_its_place (OfBatch b.formed.bid) s.members) ⊎ (b.formed.pacts ≡ []) → (b.committed ≡ has_its_place (OfBatch b.formed.bid) new.members) ⊎ (b.formed.pacts ≡ [])
    by (inl q) = inl (q ∙ ap (has_its_place (OfBatch b.formed.bid)) (sym e))
    by (inr q) = inr q

abbrev pub begun_tale : ℕ → ℕ → Bool → ActTale
begun_tale n tx reader = record { tid = record { 0 = n }; tx = record { 0 = tx }; reader = reader; before = record { 0 = 0 }; behind = None; given_up = None; decided = false }

-- what the ends of an ACT's sets rest on, seen at another moment
pub record SameEnds (t : ℕ) (s new : Seen) : Type 0 where
  pub before : new.before t ≡ s.before t
  pub behind : new.behind t ≡ s.behind t

ends_kept : (s new : Seen) (n : ℕ) (xs : List ActTale) → new.members ≡ s.members → new.dooms ≡ s.dooms → ((t : ℕ) → t ≢ n → SameEnds t s new) → AllByRecursion (λ x. x.tid.0 ≢ n) xs → AllByRecursion (TellsAct s) xs → AllByRecursion (TellsAct new) xs
ends_kept s new n [] e f g o h = tt
ends_kept s new n (x ∷ xs) e f g o h = (one (g x.tid.0 o.0), ends_kept s new n xs e f g o.1 h.1)
  where
    one : SameEnds x.tid.0 s new → TellsAct new x
    one k = record {
      before = h.0.before ∙ ap greatest (sym k.before);
      behind = λ q. h.0.behind (ap (λ (ms : List Member). not (was_given_up s.dooms x.tid.0) && not (has_its_place (OfAct x.tid.0) ms)) (sym e) ∙ (ap (λ (ds : List Doom). not (was_given_up ds x.tid.0) && not (has_its_place (OfAct x.tid.0) new.members)) (sym f) ∙ q)) ∙ ap least (sym k.behind);
      given_up = h.0.given_up ∙ ap (λ (ds : List Doom). option_map (λ d. d.why) (first_doom x.tid.0 ds)) (sym f);
      decided = h.0.decided ∙ ap (has_its_place (OfAct x.tid.0)) (sym e);
    }

pub at_other : {X : Type 0} (n t : ℕ) (x : X) (f : ℕ → X) → t ≢ n → with_at n x f t ≡ f t
at_other n t x f h = ap (λ (b : Bool). if b then x else f t) (ne_eqb t n h)

pub at_same : {X : Type 0} (n : ℕ) (x : X) (f : ℕ → X) → with_at n x f n ≡ x
at_same n x f = ap (λ (b : Bool). if b then x else f n) (eq-eqb n n refl)

-- the ACT that begins
fresh_ends : (w : Text) (n tx : ℕ) (reader : Bool) (s new : Seen) → w.opening.next_bid ≡ 1 → new.before n ≡ base w ∷ [] → new.behind n ≡ [] → first_doom n new.dooms ≡ None → has_its_place (OfAct n) new.members ≡ false → TellsAct new (begun_tale n tx reader)
fresh_ends w n tx reader s new o e f g h = record {
  before = let none : base w ≡ 0 = omega (arith, o) in sym (ap greatest e ∙ ap (λ (k : ℕ). greatest (k ∷ [])) none);
  behind = λ q. sym (ap least f);
  given_up = sym (ap (option_map (λ d. d.why)) g);
  decided = sym h;
}

-- none of the ACTs so far has this tid
other_tids : (n : ℕ) (xs : List ActTale) → AllByRecursion (λ x. x.tid < n) (map begun_of xs) → AllByRecursion (λ x. x.tid.0 ≢ n) xs
other_tids n [] h = tt
other_tids n (x ∷ xs) h = (λ q. omega (arith, q, h.0), other_tids n xs h.1)

wider : (m n : ℕ) (os : List Owner) → m ≤ n → AllByRecursion (IsKept m) os → AllByRecursion (IsKept n) os
wider m n [] l h = tt
wider m n (o ∷ os) l h = (one o h.0, wider m n os l h.1)
  where
    one : (o : Owner) → IsKept m o → IsKept n o
    one (owners.Pact k) g = tt
    one (owners.Act i) g = omega (arith, l, g)

-- the tale after an ACT has begun
pub record BeginsAct (y : ActTale) (old new : Tale) : Type 0 where
  pub ring : new.ring ≡ admitted old.ring
  pub batches : new.batches.items ≡ old.batches.items
  pub acts : new.acts.items ≡ old.acts.items ++ y ∷ []
  pub owners : new.owners.items ≡ old.owners.items ++ owners.Act (length old.acts.items) ∷ []
  pub members : new.members.items ≡ old.members.items
  pub settled : new.settled ≡ old.settled
  pub next_c : new.next_c ≡ old.next_c

pub admitted_known : (reads : Tx → Bool) (w : Text) (n : ℕ) (t new : Tale) (s : Seen) → w.opening.next_bid ≡ 1 → AreDrawn s → Knows w t s → n ≡ s.ring.next_tid
    → BeginsAct (begun_tale n (next_act s.ring) (reads (tx_at w (next_act s.ring)))) t new → Knows w new (happened reads w (Admit n) s)
admitted_known reads w n t new s o drawn h e c = subst (Knows w new) (sym (admit_seen reads w n s)) there
  where
    reader : Bool
    reader = reads (tx_at w (next_act s.ring))

    y : ActTale
    y = begun_tale n (next_act s.ring) reader

    after : Seen
    after = record (with_begun reads w n (next_act s.ring) s) { ring = admitted s.ring }

    below : AllByRecursion (λ x. x.tid < n) s.acts
    below = subst (λ (m : ℕ). AllByRecursion (λ x. x.tid < m) s.acts) (sym e) drawn.acts

    many : length t.acts.items ≡ length s.acts
    many = sym (length-map t.acts.items begun_of) ∙ ap length h.acts

    unplaced : has_its_place (OfAct n) s.members ≡ false
    unplaced = no_place_yet s.ring (OfAct n) s.members (λ q. omega (arith, q, e)) drawn.members

    same : (u : ℕ) → u ≢ n → SameEnds u s after
    same u f = record { before = at_other n u (base w ∷ []) s.before f; behind = at_other n u [] s.behind f }

    there : Knows w new after
    there = record {
      ring = c.ring ∙ ap admitted h.ring;
      batches = ap (map formed_of) c.batches ∙ h.batches;
      marks = subst (AllByRecursion (TellsBatch after)) (sym c.batches) (marks_kept s after t.batches.items refl refl h.marks);
      acts = ap (map begun_of) c.acts ∙ (map-append begun_of t.acts.items (y ∷ []) ∙ ap (λ (xs : List Begun). xs ++ begun_of y ∷ []) h.acts);
      ends = subst (AllByRecursion (TellsAct after)) (sym c.acts)
          (all_push (TellsAct after) t.acts.items y
          (ends_kept s after n t.acts.items refl refl same (other_tids n t.acts.items (subst (AllByRecursion (λ x. x.tid < n)) (sym h.acts) below)) h.ends)
          (fresh_ends w n (next_act s.ring) reader s after o (at_same n (base w ∷ []) s.before) (at_same n [] s.behind) (no_doom_yet n s.dooms (subst (λ (m : ℕ). AllByRecursion (λ d. d.tid < m) s.dooms) (sym e) drawn.dooms)) unplaced));
      owners = λ j. subst (λ (os : List Owner). act_in j (s.acts ++ begun_of y ∷ []) ≡ act_by (owner_of j os) (s.acts ++ begun_of y ∷ [])) (sym c.owners)
          (subst (λ (m : ℕ). act_in j (s.acts ++ begun_of y ∷ []) ≡ act_by (owner_of j (t.owners.items ++ owners.Act m ∷ [])) (s.acts ++ begun_of y ∷ [])) (sym many)
          (owners_more n j t.owners.items s.acts (begun_of y) refl (e ∙ h.drawn) (no_act_yet n s.acts below) h.kept h.owners));
      kept = subst (AllByRecursion (IsKept (length (s.acts ++ begun_of y ∷ [])))) (sym c.owners)
          (all_push (IsKept (length (s.acts ++ begun_of y ∷ []))) t.owners.items (owners.Act (length t.acts.items))
          (wider (length s.acts) (length (s.acts ++ begun_of y ∷ [])) t.owners.items (omega (arith, length-append s.acts (begun_of y ∷ []))) h.kept)
          (omega (arith, many, length-append s.acts (begun_of y ∷ []))));
      drawn = omega (arith, h.drawn, ap length c.owners, length-append t.owners.items (owners.Act (length t.acts.items) ∷ []));
      members = ap (map member_of) c.members ∙ h.members;
      settled = c.settled ∙ h.settled;
      number = c.next_c ∙ h.number;
    }

-- ---- a batch begins

pub ends_same : (s new : Seen) (xs : List ActTale) → new.members ≡ s.members → new.dooms ≡ s.dooms → new.before ≡ s.before → new.behind ≡ s.behind → AllByRecursion (TellsAct s) xs → AllByRecursion (TellsAct new) xs
ends_same s new [] e f g k h = tt
ends_same s new (x ∷ xs) e f g k h = (one, ends_same s new xs e f g k h.1)
  where
    one : TellsAct new x
    one = record {
      before = h.0.before ∙ ap (λ (z : ℕ → List ℕ). greatest (z x.tid.0)) (sym g);
      behind = λ q. h.0.behind (ap (λ (ms : List Member). not (was_given_up s.dooms x.tid.0) && not (has_its_place (OfAct x.tid.0) ms)) (sym e) ∙ (ap (λ (ds : List Doom). not (was_given_up ds x.tid.0) && not (has_its_place (OfAct x.tid.0) new.members)) (sym f) ∙ q)) ∙ ap (λ (z : ℕ → List ℕ). least (z x.tid.0)) (sym k);
      given_up = h.0.given_up ∙ ap (λ (ds : List Doom). option_map (λ d. d.why) (first_doom x.tid.0 ds)) (sym f);
      decided = h.0.decided ∙ ap (has_its_place (OfAct x.tid.0)) (sym e);
    }

pub form_seen : (reads : Tx → Bool) (w : Text) (k : ℕ) (s : Seen) → happened reads w (Form k) s ≡ record s { ring = formed (planned w k s.ring) w.batch s.ring; batches = s.batches ++ planned w k s.ring ∷ [] }
unfolding added ring_after
form_seen reads w k s = refl

-- tids of PACTs are no ACT's
pacts_owned : (k many count : ℕ) → AllByRecursion (IsKept many) (replicate count (owners.Pact (record { 0 = k })))
pacts_owned k many zero = tt
pacts_owned k many (suc count) = (tt, pacts_owned k many count)

by_pact : (k count i : ℕ) (xs : List Begun) → act_by (slice_get (replicate count (owners.Pact (record { 0 = k }))) i) xs ≡ None
by_pact k zero i xs = refl
by_pact k (suc count) zero xs = refl
by_pact k (suc count) (suc i) xs = by_pact k count i xs

owners_formed : (k count j : ℕ) (os : List Owner) (xs : List Begun) → act_in j xs ≡ act_by (owner_of j os) xs → act_in j xs ≡ act_by (owner_of j (os ++ replicate count (owners.Pact (record { 0 = k })))) xs
owners_formed k count zero os xs h = h
owners_formed k count (suc i) os xs h = by (three_ways i (length os))
  where
    past : length os ≤ i → act_in (suc i) xs ≡ act_by (slice_get (os ++ replicate count (owners.Pact (record { 0 = k }))) i) xs
    past l =
        (h ∙ ap (λ (o : Option Owner). act_by o xs) (slice_get_past os i l))
        ∙ sym (ap (λ (o : Option Owner). act_by o xs) (get_behind os (replicate count (owners.Pact (record { 0 = k }))) (i - length os) i (omega arith)) ∙ by_pact k count (i - length os) xs)

    by : (i < length os) ⊎ ((i ≡ length os) ⊎ (length os < i)) → act_in (suc i) xs ≡ act_by (slice_get (os ++ replicate count (owners.Pact (record { 0 = k }))) i) xs
    by (inl l) = h ∙ ap (λ (o : Option Owner). act_by o xs) (sym (get_left os (replicate count (owners.Pact (record { 0 = k }))) i l))
    by (inr (inl q)) = past (omega (arith, q))
    by (inr (inr q)) = past (omega (arith, q))

pub formed_known : (reads : Tx → Bool) (w : Text) (k : ℕ) (t mid new : Tale) (s : Seen) → AreDrawn s → Knows w t s → k ≡ s.ring.next_bid
    → mid.ring ≡ formed (planned w k t.ring) w.batch t.ring → mid.batches.items ≡ t.batches.items → mid.owners.items ≡ t.owners.items → mid.acts.items ≡ t.acts.items → mid.members.items ≡ t.members.items → mid.settled ≡ t.settled → mid.next_c ≡ t.next_c
    → AddsBatch (planned w k s.ring) mid new → Knows w new (happened reads w (Form k) s)
formed_known reads w k t mid new s drawn h e r b os xs ms z n c = subst (Knows w new) (sym (form_seen reads w k s)) there
  where
    f : Formed
    f = planned w k s.ring

    after : Seen
    after = record s { ring = formed f w.batch s.ring; batches = s.batches ++ f ∷ [] }

    none : List Owner
    none = replicate (length f.pacts) (owners.Pact (record { 0 = f.bid }))

    there : Knows w new after
    there = record {
      ring = c.ring ∙ (r ∙ ap (λ (x : Ring). formed (planned w k x) w.batch x) h.ring);
      batches = ap (map formed_of) (c.batches ∙ ap (λ bs. bs ++ record { formed = f; committed = false; settled = false } ∷ []) b) ∙ (map-append formed_of t.batches.items (record { formed = f; committed = false; settled = false } ∷ []) ∙ ap (λ (fs : List Formed). fs ++ f ∷ []) h.batches);
      marks = subst (AllByRecursion (TellsBatch after)) (sym (c.batches ∙ ap (λ bs. bs ++ record { formed = f; committed = false; settled = false } ∷ []) b))
          (all_push (TellsBatch after) t.batches.items (record { formed = f; committed = false; settled = false }) (marks_kept s after t.batches.items refl refl h.marks)
          (record { committed = inl (sym (no_place_yet s.ring (OfBatch k) s.members (λ q. omega (arith, q, e)) drawn.members)); settled = sym (not_settled_yet s.ring.next_bid k s.settled (omega (arith, e)) drawn.settled) }));
      acts = ap (map begun_of) (c.acts ∙ xs) ∙ h.acts;
      ends = subst (AllByRecursion (TellsAct after)) (sym (c.acts ∙ xs)) (ends_same s after t.acts.items refl refl refl refl h.ends);
      owners = λ j. subst (λ (ps : List Owner). act_in j s.acts ≡ act_by (owner_of j ps) s.acts) (sym (c.owners ∙ ap (λ ps. ps ++ none) os)) (owners_formed f.bid (length f.pacts) j t.owners.items s.acts (h.owners j));
      kept = subst (AllByRecursion (IsKept (length s.acts))) (sym (c.owners ∙ ap (λ ps. ps ++ none) os)) (all_join (IsKept (length s.acts)) t.owners.items none h.kept (pacts_owned f.bid (length s.acts) (length f.pacts)));
      drawn = omega (arith, h.drawn, ap length (c.owners ∙ ap (λ ps. ps ++ none) os), length-append t.owners.items none, length-replicate (length f.pacts) (owners.Pact (record { 0 = f.bid })));
      members = ap (map member_of) (c.members ∙ ms) ∙ h.members;
      settled = c.settled ∙ (z ∙ h.settled);
      number = c.next_c ∙ (n ∙ h.number);
    }

-- ---- the ACT that the ring admits

pub first_is : (t : ℕ) (ns : List ℕ) (x : Tid × TxNo) → Some x ≡ first_with t ns → (x.0.0 ≡ t) × (x.1.0 ≡ slice_index_or ns 0 0)
first_is t [] x e = absurd (cc e)
first_is t (n ∷ ns) x e = let h : x ≡ (record { 0 = t }, record { 0 = n }) = cc e in (ap (λ (z : Tid × TxNo). z.0.0) h, ap (λ (z : Tid × TxNo). z.1.0) h)

abbrev pub fresh_act : Tid → TxNo → Bool → ActTale
fresh_act tid tx reader = record { tid = tid; tx = tx; reader = reader; before = record { 0 = 0 }; behind = None; given_up = None; decided = false }

pub fresh_is : (tid : Tid) (tx : TxNo) (r q : Bool) (n m : ℕ) → tid.0 ≡ n → tx.0 ≡ m → r ≡ q → fresh_act tid tx r ≡ begun_tale n m q
fresh_is tid tx r q n m e f g =
    ap (λ (k : ℕ). fresh_act (record { 0 = k }) tx r) e ∙ (ap (λ (k : ℕ). fresh_act (record { 0 = n }) (record { 0 = k }) r) f ∙ ap (λ (b : Bool). begun_tale n m b) g)
