-- What holds between two events, holds before the first one and along every event that meets the first clause.
use Rattle.std.specs.Prelude.{◌≡◌, refl, ◌≢◌, ℕ, ◌+◌, ◌<◌, ◌≤◌, ◌==◌, nat_lt, ◌&&◌, ◌||◌, ◌⊎◌, not, Bool, true, false, if◌then◌else◌, Option, Some, None, is_some, List, [], ◌∷◌, ◌++◌, filter, length, map}
use Rattle.std.specs.List.{AllByRecursion}
use Rattle.std.proofs.Common.{arith, sym, ap, subst, inl, inr, ◌∙◌}
use Rattle.std.proofs.lemmas.Bool.{and_left, and_right, eq-eqb, eqb-true, ltb-false, or_left, or_right, true≢false}
use Rattle.snap_base.proofs.Booleans.{first_true, not_false, second_true, three_ways}
use Rattle.snap_base.proofs.Lists.{all_filter, all_join, all_map, all_push, both_all, weaker}
use Rattle.snap_base.specs.declared.transactions.Tx.{Tx}
use Rattle.protocol.specs.Conditions.{AllTrue}
use Rattle.protocol.specs.Events.{Event, Form, Admit, Arrive, Ask, Run, Commit, Settle, Abort, Rollback, Decide, Finish, Trim}
use Rattle.protocol.specs.Fixed.{Text, base, tx_at}
use Rattle.protocol.specs.History.{with_at}
use Rattle.protocol.specs.OnPost.{next_act}
use Rattle.protocol.specs.OnRing.{Formed, planned}
use Rattle.protocol.specs.Parts.{Pair, Ring, Who, OfBatch, OfAct}
use Rattle.protocol.specs.Rivals.{Lock, rivals}
use Rattle.protocol.specs.Spread.{reaches}
use Rattle.protocol.specs.Words.{greatest, holds, is_among, is_who, least_of, least_older}
use Rattle.audit_words.specs.Audited.{ring_conditions}
use Rattle.audit_words.specs.Happenings.{added, ahead_of, asks, comes, committing, crossing, cross_out, deciding, gain, give_up, happened, left, may_abort, may_ask, met, ring_after, cut_entries_gone, left_as_sealed, spread, uncut_entries, tail_of, taken_by, act_placed_last, batch_placed_last, with_begun, with_cut, with_pairs}
use Rattle.audit_words.specs.Seen.{Begun, Doom, Member, Older, Seen, act_in, acts_among, batch_in, goes_to, was_taken_along, has_its_place, was_admitted, was_formed, sets_cross, was_given_up, is_live, is_one_of_these, least, lock_in, nothing_seen, tail_behind}
use Rattle.audit_tale.specs.Knows.{AreDrawn, AreNumbered}
use Rattle.audit_tale.specs.Stands.{AreApart, AreSteady, IsNamed, IsSound, IsSteadyPair}
use Rattle.audit_tale.proofs.SteadyLists.{all_by_tid, all_stays, apart_less, apart_push, apart_stays, both_less, both_with, each_with, elsewhere, given_each, given_last, given_more, never_placed, of_there, of_tid, placed_more, placed_push, reaches_less, still_found}
use Rattle.audit_tale.proofs.SteadySpread.{IsOlder, Rises, spread_rises}

-- ---- what is left of it while some are given up

-- a pair, whether or not the one ahead is given up
pub record IsLoosePair (s : Seen) (p : Pair) : Type 0 where
  pub older : p.behind < p.ahead
  pub is_behind : was_admitted p.behind s ≡ true
  pub is_ahead : was_admitted p.ahead s ≡ true
  pub rises : greatest (s.before p.ahead) ≤ greatest (s.before p.behind)

-- a pair, whatever its sets are: the one behind is the older one, and both began
pub record IsOrderedPair (s : Seen) (p : Pair) : Type 0 where
  pub older : p.behind < p.ahead
  pub is_behind : was_admitted p.behind s ≡ true
  pub is_ahead : was_admitted p.ahead s ≡ true

-- all but that nobody's sets cross
pub record AreLoose (s : Seen) : Type 0 where
  pub pairs : AllByRecursion (IsLoosePair s) s.gains
  pub entries : (a : ℕ) → AllByRecursion (IsNamed s) (s.entries a)
  pub apart : (a : ℕ) → AreApart (s.entries a)
  pub placed : (a : ℕ) → AllByRecursion (λ who. is_one_of_these who (s.placed a) ≡ true) (s.entries a)
  pub kept : (a : ℕ) → AllByRecursion (λ k. k < s.ring.next_bid) (s.kept a)
  pub behind : (t : ℕ) → AllByRecursion (λ k. k < s.ring.next_bid) (s.behind t)
  pub sealed : (a : ℕ) → AllByRecursion (λ x. (was_admitted x.tid s ≡ true) × (x ≡ lock_in s.acts x.tid)) (s.left_sealed a)

loose : (s : Seen) → AreSteady s → AreLoose s
loose s h = record {
  pairs = weaker (IsSteadyPair s) (IsLoosePair s) s.gains (λ p q. record { older = q.older; is_behind = q.is_behind; is_ahead = q.is_ahead; rises = q.rises }) h.pairs;
  entries = h.entries;
  apart = h.apart;
  placed = h.placed;
  kept = h.kept;
  behind = h.behind;
  sealed = h.sealed;
}

-- the same pairs, where nobody else is given up and no set changes
same_pairs : (s new : Seen) (ps : List Pair) → new.acts ≡ s.acts → new.dooms ≡ s.dooms → new.before ≡ s.before → AllByRecursion (IsSteadyPair s) ps → AllByRecursion (IsSteadyPair new) ps
same_pairs s new ps a d b h = weaker (IsSteadyPair s) (IsSteadyPair new) ps (λ p q. one p q) h
  where
    one : (p : Pair) → IsSteadyPair s p → IsSteadyPair new p
    one p q = record {
      older = q.older;
      is_behind = ap (λ (xs : List Begun). is_some (act_in p.behind xs)) a ∙ q.is_behind;
      is_ahead = ap (λ (xs : List Begun). is_some (act_in p.ahead xs)) a ∙ q.is_ahead;
      carries = ap (λ (ds : List Doom). was_given_up ds p.ahead) d ∙ q.carries;
      rises = subst (λ (f : ℕ → List ℕ). greatest (f p.ahead) ≤ greatest (f p.behind)) (sym b) q.rises;
    }

-- the ring alone goes on
with_ring : (s : Seen) (r : Ring) → s.ring.next_bid ≤ r.next_bid → AreSteady s → AreSteady (record s { ring = r })
with_ring s r l h = record {
  pairs = same_pairs s (record s { ring = r }) s.gains refl refl refl h.pairs;
  none_crossed = h.none_crossed;
  entries = λ a. weaker (IsNamed s) (IsNamed (record s { ring = r })) (s.entries a) named (h.entries a);
  apart = h.apart;
  placed = h.placed;
  kept = λ a. weaker (λ k. k < s.ring.next_bid) (λ k. k < r.next_bid) (s.kept a) (λ k q. omega (arith, q, l)) (h.kept a);
  behind = λ t. weaker (λ k. k < s.ring.next_bid) (λ k. k < r.next_bid) (s.behind t) (λ k q. omega (arith, q, l)) (h.behind t);
  sealed = h.sealed;
}
  where
    named : (who : Who) → IsNamed s who → IsNamed (record s { ring = r }) who
    named (OfBatch k) q = omega (arith, q, l)
    named (OfAct t) q = q

-- ---- who is given up

-- nobody lives again
live_less : (t : ℕ) (s new : Seen) → (was_given_up s.dooms t ≡ true → was_given_up new.dooms t ≡ true) → (has_its_place (OfAct t) s.members ≡ true → has_its_place (OfAct t) new.members ≡ true) → is_live new t ≡ true → is_live s t ≡ true
live_less t s new f g h = by (was_given_up s.dooms t) (has_its_place (OfAct t) s.members) f g h
  where
    by : (b c : Bool) → (b ≡ true → was_given_up new.dooms t ≡ true) → (c ≡ true → has_its_place (OfAct t) new.members ≡ true) → is_live new t ≡ true → (not b && not c) ≡ true
    by false false f g h = refl
    by true c f g h = absurd (true≢false (sym (f refl) ∙ not_false _ (first_true _ _ h)))
    by false true f g h = absurd (true≢false (sym (g refl) ∙ not_false _ (second_true _ _ h)))

-- nobody crosses who did not
crossed_less : (t : ℕ) (s new : Seen) → (was_given_up s.dooms t ≡ true → was_given_up new.dooms t ≡ true) → (has_its_place (OfAct t) s.members ≡ true → has_its_place (OfAct t) new.members ≡ true)
    → (reaches (greatest (new.before t)) (least (new.behind t)) ≡ true → reaches (greatest (s.before t)) (least (s.behind t)) ≡ true) → sets_cross s t ≡ false → sets_cross new t ≡ false
crossed_less t s new f g r h = both_less (is_live s t) (reaches (greatest (s.before t)) (least (s.behind t))) (is_live new t) (reaches (greatest (new.before t)) (least (new.behind t))) (live_less t s new f g) r h

given_up_steady : (ds : List Doom) (s : Seen) → AreLoose s → AllByRecursion (λ x. sets_cross (give_up ds s) x.tid ≡ false) s.acts → AreSteady (give_up ds s)
given_up_steady ds s h none = record {
  pairs = carrying s.gains h.pairs;
  none_crossed = none;
  entries = h.entries;
  apart = h.apart;
  placed = h.placed;
  kept = h.kept;
  behind = h.behind;
  sealed = h.sealed;
}
  where
    carrying : (ps : List Pair) → AllByRecursion (IsLoosePair s) ps → AllByRecursion (IsSteadyPair (give_up ds s)) (filter (λ p. not (was_given_up (s.dooms ++ ds) p.ahead)) ps)
    carrying [] k = tt
    carrying (p ∷ ps) k = by (was_given_up (s.dooms ++ ds) p.ahead) refl (carrying ps k.1)
      where
        by : (b : Bool) → was_given_up (s.dooms ++ ds) p.ahead ≡ b → AllByRecursion (IsSteadyPair (give_up ds s)) (filter (λ p. not (was_given_up (s.dooms ++ ds) p.ahead)) ps)
            → AllByRecursion (IsSteadyPair (give_up ds s)) (if not b then p ∷ filter (λ p. not (was_given_up (s.dooms ++ ds) p.ahead)) ps else filter (λ p. not (was_given_up (s.dooms ++ ds) p.ahead)) ps)
        by true e r = r
        by false e r = (record { older = k.0.older; is_behind = k.0.is_behind; is_ahead = k.0.is_ahead; carries = e; rises = k.0.rises }, r)

-- of a steady one some are given up
more_given_up : (ds : List Doom) (s : Seen) → AreSteady s → AreSteady (give_up ds s)
more_given_up ds s h = given_up_steady ds s (loose s h)
    (weaker (λ x. sets_cross s x.tid ≡ false) (λ x. sets_cross (give_up ds s) x.tid ≡ false) s.acts (λ x q. crossed_less x.tid s (give_up ds s) (given_more x.tid s.dooms ds) (λ p. p) (λ p. p) q) h.none_crossed)

-- exactly whose sets cross are given up, so nobody's do
crossed_out_steady : (a : ℕ) (s : Seen) → AreLoose s → AreSteady (cross_out a s)
crossed_out_steady a s h = given_up_steady ds s h (all_by_tid (λ t. sets_cross (give_up ds s) t ≡ false) s.acts (λ t e. by t (sets_cross s t) refl e))
  where
    ds : List Doom
    ds = map (crossing a s) (filter (λ x. sets_cross s x.tid) s.acts)

    by : (t : ℕ) (b : Bool) → sets_cross s t ≡ b → was_admitted t s ≡ true → sets_cross (give_up ds s) t ≡ false
    by t true q e =
        let given : was_given_up (s.dooms ++ ds) t ≡ true = given_last t s.dooms ds (given_each (crossing a s) (sets_cross s) t s.acts (λ x. refl) e q) in
        and_left _ _ (and_left _ _ (ap not given))
    by t false q e = crossed_less t s (give_up ds s) (given_more t s.dooms ds) (λ p. p) (λ p. p) q

-- ---- a batch is placed

formed_below : (n k : ℕ) (fs : List Formed) → AreNumbered n fs → is_some (batch_in k fs) ≡ true → k < n + length fs
formed_below n k [] h e = absurd (true≢false (sym e))
formed_below n k (f ∷ fs) h e = by (f.bid == k) refl e (formed_below (n + 1) k fs h.1)
  where
    by : (b : Bool) → (f.bid == k) ≡ b → is_some (if b then Some f else batch_in k fs) ≡ true → (is_some (batch_in k fs) ≡ true → k < (n + 1) + length fs) → k < n + length (f ∷ fs)
    by true q g r = omega (arith, eqb-true f.bid k q, h.0)
    by false q g r = omega (arith, r g)

goes_somewhere : (a : ℕ) (o : Option Formed) → goes_to a o ≡ true → is_some o ≡ true
goes_somewhere a None e = e
goes_somewhere a (Some f) e = refl

arrived_loose : (k a : ℕ) (s : Seen) → comes k a s ≡ true → AreDrawn s → AreSteady s → AreLoose (batch_placed_last k a s)
arrived_loose k a s c drawn h = record {
  pairs = weaker (IsSteadyPair s) (IsLoosePair (batch_placed_last k a s)) s.gains (λ p q. record { older = q.older; is_behind = q.is_behind; is_ahead = q.is_ahead; rises = q.rises }) h.pairs;
  entries = each_with (λ i ws. AllByRecursion (IsNamed s) ws) a (s.entries a ++ OfBatch k ∷ []) s.entries (all_push (IsNamed s) (s.entries a) (OfBatch k) (h.entries a) below) h.entries;
  apart = each_with (λ i ws. AreApart ws) a (s.entries a ++ OfBatch k ∷ []) s.entries (apart_push (OfBatch k) (s.entries a) (h.apart a) (never_placed (OfBatch k) (s.placed a) (s.entries a) (h.placed a) new)) h.apart;
  placed = both_with (λ ps ws. AllByRecursion (λ who. is_one_of_these who ps ≡ true) ws) a (s.placed a ++ OfBatch k ∷ []) (s.entries a ++ OfBatch k ∷ []) s.placed s.entries (placed_push (OfBatch k) (s.placed a) (s.entries a) (h.placed a)) h.placed;
  kept = each_with (λ i ks. AllByRecursion (λ j. j < s.ring.next_bid) ks) a (s.kept a ++ k ∷ []) s.kept (all_push (λ j. j < s.ring.next_bid) (s.kept a) k (h.kept a) below) h.kept;
  behind = λ t. too t (is_among t (acts_among (s.entries a)));
  sealed = h.sealed;
}
  where
    below : k < s.ring.next_bid
    below = omega (arith, formed_below 1 k s.batches drawn.batches (goes_somewhere a (batch_in k s.batches) (first_true (goes_to a (batch_in k s.batches)) (not (is_one_of_these (OfBatch k) (s.placed a)) && not (was_taken_along k s.cuts)) c)), drawn.next_bid)

    new : is_one_of_these (OfBatch k) (s.placed a) ≡ false
    new = not_false (is_one_of_these (OfBatch k) (s.placed a))
        (first_true (not (is_one_of_these (OfBatch k) (s.placed a))) (not (was_taken_along k s.cuts)) (second_true (goes_to a (batch_in k s.batches)) (not (is_one_of_these (OfBatch k) (s.placed a)) && not (was_taken_along k s.cuts)) c))

    too : (t : ℕ) (b : Bool) → AllByRecursion (λ j. j < s.ring.next_bid) (if b then s.behind t ++ k ∷ [] else s.behind t)
    too t true = all_push (λ j. j < s.ring.next_bid) (s.behind t) k (h.behind t) below
    too t false = h.behind t

-- ---- an ACT asks

-- who is found behind the last batch stands there
tail_there : (P : ℕ → Type 0) (ts : List ℕ) (ws : List Who) → AllByRecursion P ts → ((t : ℕ) → is_one_of_these (OfAct t) ws ≡ true → P t) → AllByRecursion P (tail_behind ts ws)
tail_there P ts [] h f = h
tail_there P ts (OfBatch k ∷ ws) h f = tail_there P [] ws tt f
tail_there P ts (OfAct t ∷ ws) h f = tail_there P (ts ++ t ∷ []) ws (all_push P ts t h (f t (or_left _ _ (eq-eqb t t refl)))) (λ u e. f u (or_right _ _ e))

-- where nobody older is met, nobody there is older
none_older : (t : ℕ) (xs : List Lock) → least_older t xs ≡ None → AllByRecursion (λ x. t ≤ x.tid) xs
none_older t [] e = tt
none_older t (x ∷ xs) e = by (nat_lt x.tid t) refl e (none_older t xs)
  where
    by : (b : Bool) → nat_lt x.tid t ≡ b → (if b then Some (least_of x.tid (least_older t xs)) else least_older t xs) ≡ None → (least_older t xs ≡ None → AllByRecursion (λ x. t ≤ x.tid) xs) → AllByRecursion (λ x. t ≤ x.tid) (x ∷ xs)
    by true q r f = absurd (true≢false (ap is_some r))
    by false q r f = (ltb-false x.tid t q, f r)

-- of whom this ACT gains: it stands there, and is younger
pub record IsYounger (t a : ℕ) (s : Seen) (x : Lock) : Type 0 where
  pub younger : t < x.tid
  pub began : was_admitted x.tid s ≡ true

met_younger : (t a : ℕ) (s : Seen) → is_one_of_these (OfAct t) (s.entries a) ≡ false → least_older t (met t a s) ≡ None → AreSteady s → AllByRecursion (IsYounger t a s) (ahead_of t a s)
met_younger t a s n e h = all_filter (IsYounger t a s) (λ x. not (was_given_up s.dooms x.tid)) (met t a s)
    (both_all (λ x. t ≤ x.tid) (λ x. is_one_of_these (OfAct x.tid) (s.entries a) ≡ true) (IsYounger t a s) (met t a s) (λ x l k. one x l k) (none_older t (met t a s) e)
    (all_filter (λ x. is_one_of_these (OfAct x.tid) (s.entries a) ≡ true) (rivals (lock_in s.acts t)) (tail_of a s)
    (all_map (lock_in s.acts) (λ x. is_one_of_these (OfAct x.tid) (s.entries a) ≡ true) (tail_behind [] (s.entries a)) (tail_there (λ u. is_one_of_these (OfAct u) (s.entries a) ≡ true) [] (s.entries a) tt (λ u q. q)))))
  where
    one : (x : Lock) → t ≤ x.tid → is_one_of_these (OfAct x.tid) (s.entries a) ≡ true → IsYounger t a s x
    one x l k = record {
      younger = above (λ q. true≢false (sym (subst (λ (u : ℕ). is_one_of_these (OfAct u) (s.entries a) ≡ true) q k) ∙ n));
      began = of_there (IsNamed s) (OfAct x.tid) (s.entries a) (h.entries a) k;
    }
      where
        above : (x.tid ≡ t → ⊥) → t < x.tid
        above f = by (three_ways t x.tid)
          where
            by : (t < x.tid) ⊎ ((t ≡ x.tid) ⊎ (x.tid < t)) → t < x.tid
            by (inl q) = q
            by (inr (inl q)) = absurd (f (sym q))
            by (inr (inr q)) = absurd (omega (arith, q, l))

asked_loose : (w : Text) (t a : ℕ) (s : Seen) → may_ask w t a s ≡ true → least_older t (met t a s) ≡ None → AreDrawn s → AreSteady s → AreLoose (act_placed_last t a s)
asked_loose w t a s m e drawn h = record {
  pairs = both_all (IsOrderedPair s) (Rises after) (IsLoosePair (act_placed_last t a s)) (with_pairs t a s) (λ p q r. record { older = q.older; is_behind = q.is_behind; is_ahead = q.is_ahead; rises = r }) pairs
      (spread_rises (with_pairs t a s) 1 s.acts first drawn.rise (weaker (IsOrderedPair s) (IsOlder s.acts) (with_pairs t a s) (λ p q. record { older = q.older; began = q.is_behind }) pairs));
  entries = each_with (λ i ws. AllByRecursion (IsNamed s) ws) a (s.entries a ++ OfAct t ∷ []) s.entries (all_push (IsNamed s) (s.entries a) (OfAct t) (h.entries a) act) h.entries;
  apart = each_with (λ i ws. AreApart ws) a (s.entries a ++ OfAct t ∷ []) s.entries (apart_push (OfAct t) (s.entries a) (h.apart a) new) h.apart;
  placed = both_with (λ ps ws. AllByRecursion (λ who. is_one_of_these who ps ≡ true) ws) a (s.placed a ++ OfAct t ∷ []) (s.entries a ++ OfAct t ∷ []) s.placed s.entries (placed_push (OfAct t) (s.placed a) (s.entries a) (h.placed a)) h.placed;
  kept = h.kept;
  behind = h.behind;
  sealed = h.sealed;
}
  where
    act : was_admitted t s ≡ true
    act = first_true (was_admitted t s) (nat_lt a (length w.opening.states))
        (first_true (was_admitted t s && nat_lt a (length w.opening.states)) (not (was_given_up s.dooms t) && not (is_one_of_these (OfAct t) (s.entries a))) m)

    new : is_one_of_these (OfAct t) (s.entries a) ≡ false
    new = not_false (is_one_of_these (OfAct t) (s.entries a))
        (second_true (not (was_given_up s.dooms t)) (not (is_one_of_these (OfAct t) (s.entries a))) (second_true (was_admitted t s && nat_lt a (length w.opening.states)) (not (was_given_up s.dooms t) && not (is_one_of_these (OfAct t) (s.entries a))) m))

    first : ℕ → List ℕ
    first = with_at t (s.before t ++ gain t a s) s.before

    after : ℕ → List ℕ
    after = spread (with_pairs t a s) s.acts first

    pairs : AllByRecursion (IsOrderedPair s) (with_pairs t a s)
    pairs = all_join (IsOrderedPair s) s.gains (map (λ x. record { behind = t; ahead = x.tid; actor = a }) (ahead_of t a s)) (weaker (IsSteadyPair s) (IsOrderedPair s) s.gains (λ p q. record { older = q.older; is_behind = q.is_behind; is_ahead = q.is_ahead }) h.pairs)
        (all_map (λ (x : Lock). record { behind = t; ahead = x.tid; actor = a }) (IsOrderedPair s) (ahead_of t a s) (weaker (IsYounger t a s) (λ x. IsOrderedPair s (record { behind = t; ahead = x.tid; actor = a })) (ahead_of t a s) (λ x q. record { older = q.younger; is_behind = act; is_ahead = q.began }) (met_younger t a s new e h)))

asks_steady : (w : Text) (t a : ℕ) (s : Seen) (o : Option ℕ) → least_older t (met t a s) ≡ o → may_ask w t a s ≡ true → AreDrawn s → AreSteady s → AreSteady (asks t a o s)
asks_steady w t a s (Some older) e m drawn h = more_given_up (record { tid = t; why = Older a older } ∷ []) s h
asks_steady w t a s None e m drawn h = crossed_out_steady a (act_placed_last t a s) (asked_loose w t a s m e drawn h)

-- ---- a cascade

cut_steady : (w : Text) (k : ℕ) (s : Seen) → AreSteady s → AreSteady (with_cut w k s)
cut_steady w k s h = record {
  pairs = same_pairs s (with_cut w k s) s.gains refl refl refl h.pairs;
  none_crossed = weaker (λ x. sets_cross s x.tid ≡ false) (λ x. sets_cross (with_cut w k s) x.tid ≡ false) s.acts
      (λ x q. crossed_less x.tid s (with_cut w k s) (λ p. p) (λ p. p) (reaches_less (λ j. nat_lt j k || not (nat_lt j s.ring.next_bid)) (greatest (s.before x.tid)) (s.behind x.tid)) q) h.none_crossed;
  entries = h.entries;
  apart = h.apart;
  placed = h.placed;
  kept = h.kept;
  behind = λ t. all_filter (λ j. j < s.ring.next_bid) (λ j. nat_lt j k || not (nat_lt j s.ring.next_bid)) (s.behind t) (h.behind t);
  sealed = h.sealed;
}

-- ---- an ACT begins

begun_steady : (reads : Tx → Bool) (w : Text) (t n : ℕ) (s : Seen) → t ≡ s.ring.next_tid → AreDrawn s → AreSteady s → AreSteady (with_begun reads w t n s)
begun_steady reads w t n s e drawn h = record {
  pairs = weaker (IsSteadyPair s) (IsSteadyPair new) s.gains (λ p q. pair p q) h.pairs;
  none_crossed = all_push (λ x. sets_cross new x.tid ≡ false) s.acts y (all_by_tid (λ u. sets_cross new u ≡ false) s.acts (λ u q. old u q)) here;
  entries = λ a. weaker (IsNamed s) (IsNamed new) (s.entries a) named (h.entries a);
  apart = h.apart;
  placed = h.placed;
  kept = h.kept;
  behind = each_with (λ i ks. AllByRecursion (λ k. k < s.ring.next_bid) ks) t [] s.behind tt h.behind;
  sealed = λ a. weaker (λ x. (was_admitted x.tid s ≡ true) × (x ≡ lock_in s.acts x.tid)) (λ x. (was_admitted x.tid new ≡ true) × (x ≡ lock_in new.acts x.tid)) (s.left_sealed a)
      (λ x q. (still x.tid q.0, q.1 ∙ ap (λ (o : Option Begun). record { tid = x.tid; reader = holds (λ x. x.reader) o }) (sym (still_found x.tid y s.acts q.0)))) (h.sealed a);
}
  where
    new : Seen
    new = with_begun reads w t n s

    y : Begun
    y = record { tid = t; tx = n; reader = reads (tx_at w n) }

    still : (u : ℕ) → was_admitted u s ≡ true → was_admitted u new ≡ true
    still u q = ap is_some (still_found u y s.acts q) ∙ q

    -- it is another one
    other : (u : ℕ) → was_admitted u s ≡ true → u ≢ t
    other u q z = omega (arith, of_tid (λ v. v < s.ring.next_tid) u s.acts drawn.acts q, e, z)

    same : (u : ℕ) (v : List ℕ) (f : ℕ → List ℕ) → was_admitted u s ≡ true → with_at t v f u ≡ f u
    same u v f q = elsewhere t u v f (other u q)

    pair : (p : Pair) → IsSteadyPair s p → IsSteadyPair new p
    pair p q = record {
      older = q.older;
      is_behind = still p.behind q.is_behind;
      is_ahead = still p.ahead q.is_ahead;
      carries = q.carries;
      rises = omega (arith, q.rises, ap greatest (same p.ahead (base w ∷ []) s.before q.is_ahead), ap greatest (same p.behind (base w ∷ []) s.before q.is_behind));
    }

    old : (u : ℕ) → was_admitted u s ≡ true → sets_cross new u ≡ false
    old u q = crossed_less u s new (λ p. p) (λ p. p) (subst (λ (z : List ℕ). reaches (greatest z) (least (new.behind u)) ≡ true → reaches (greatest (s.before u)) (least (s.behind u)) ≡ true) (sym (same u (base w ∷ []) s.before q))
        (subst (λ (z : List ℕ). reaches (greatest (s.before u)) (least z) ≡ true → reaches (greatest (s.before u)) (least (s.behind u)) ≡ true) (sym (same u [] s.behind q)) (λ p. p)))
        (of_tid (λ v. sets_cross s v ≡ false) u s.acts h.none_crossed q)

    here : sets_cross new t ≡ false
    here = and_right _ _ (ap (λ (b : Bool). reaches (greatest (new.before t)) (least (if b then [] else s.behind t))) (eq-eqb t t refl))

    named : (who : Who) → IsNamed s who → IsNamed new who
    named (OfBatch k) q = q
    named (OfAct u) q = still u q

-- ---- who gets its place

placed_steady : (ms : List Member) (s : Seen) → AreSteady s → AreSteady (record s { members = s.members ++ ms })
placed_steady ms s h = record {
  pairs = same_pairs s (record s { members = s.members ++ ms }) s.gains refl refl refl h.pairs;
  none_crossed = weaker (λ x. sets_cross s x.tid ≡ false) (λ x. sets_cross (record s { members = s.members ++ ms }) x.tid ≡ false) s.acts (λ x q. crossed_less x.tid s (record s { members = s.members ++ ms }) (λ p. p) (placed_more (OfAct x.tid) s.members ms) (λ p. p) q) h.none_crossed;
  entries = h.entries;
  apart = h.apart;
  placed = h.placed;
  kept = h.kept;
  behind = h.behind;
  sealed = h.sealed;
}

-- ---- who leaves

-- on one actor there are fewer
fewer_steady : (a : ℕ) (ws : List Who) (ks : List ℕ) (s : Seen) → AllByRecursion (IsNamed s) ws → AreApart ws → AllByRecursion (λ who. is_one_of_these who (s.placed a) ≡ true) ws → AllByRecursion (λ k. k < s.ring.next_bid) ks → AreSteady s
    → AreSteady (record s { entries = with_at a ws s.entries; kept = with_at a ks s.kept })
fewer_steady a ws ks s n apart p k h = record {
  pairs = same_pairs s (record s { entries = with_at a ws s.entries; kept = with_at a ks s.kept }) s.gains refl refl refl h.pairs;
  none_crossed = h.none_crossed;
  entries = each_with (λ i us. AllByRecursion (IsNamed s) us) a ws s.entries n h.entries;
  apart = each_with (λ i us. AreApart us) a ws s.entries apart h.apart;
  placed = each_with (λ i us. AllByRecursion (λ who. is_one_of_these who (s.placed i) ≡ true) us) a ws s.entries p h.placed;
  kept = each_with (λ i js. AllByRecursion (λ j. j < s.ring.next_bid) js) a ks s.kept k h.kept;
  behind = h.behind;
  sealed = h.sealed;
}

rolled_steady : (a : ℕ) (s : Seen) → AreSteady s → AreSteady (cut_entries_gone a s)
rolled_steady a s h = fewer_steady a (uncut_entries false s.cuts (s.entries a)) (filter (λ k. not (was_taken_along k s.cuts)) (s.kept a)) s
    (all_stays (IsNamed s) false s.cuts (s.entries a) (h.entries a))
    (apart_stays false s.cuts (s.entries a) (h.apart a))
    (all_stays (λ who. is_one_of_these who (s.placed a) ≡ true) false s.cuts (s.entries a) (h.placed a))
    (all_filter (λ k. k < s.ring.next_bid) (λ k. not (was_taken_along k s.cuts)) (s.kept a) (h.kept a)) h

-- some entries go
without_steady : (p : Who → Bool) (a : ℕ) (s : Seen) → AreSteady s → AreSteady (record s { entries = with_at a (filter p (s.entries a)) s.entries })
without_steady p a s h = record {
  pairs = same_pairs s (record s { entries = with_at a (filter p (s.entries a)) s.entries }) s.gains refl refl refl h.pairs;
  none_crossed = h.none_crossed;
  entries = each_with (λ i us. AllByRecursion (IsNamed s) us) a (filter p (s.entries a)) s.entries (all_filter (IsNamed s) p (s.entries a) (h.entries a)) h.entries;
  apart = each_with (λ i us. AreApart us) a (filter p (s.entries a)) s.entries (apart_less p (s.entries a) (h.apart a)) h.apart;
  placed = each_with (λ i us. AllByRecursion (λ who. is_one_of_these who (s.placed i) ≡ true) us) a (filter p (s.entries a)) s.entries (all_filter (λ who. is_one_of_these who (s.placed a) ≡ true) p (s.entries a) (h.placed a)) h.placed;
  kept = h.kept;
  behind = h.behind;
  sealed = h.sealed;
}

left_steady : (t a : ℕ) (s : Seen) → is_one_of_these (OfAct t) (s.entries a) ≡ true → AreSteady s → AreSteady (left t a s)
left_steady t a s e h = let rest = without_steady (λ y. not (is_who y (OfAct t))) a s h in record {
  pairs = same_pairs s (left t a s) (left t a s).gains refl refl refl (all_filter (IsSteadyPair s) (λ p. not ((p.ahead == t) && (p.actor == a))) s.gains h.pairs);
  none_crossed = h.none_crossed;
  entries = rest.entries;
  apart = rest.apart;
  placed = rest.placed;
  kept = h.kept;
  behind = h.behind;
  sealed = each_with (λ i xs. AllByRecursion (λ x. (was_admitted x.tid s ≡ true) × (x ≡ lock_in s.acts x.tid)) xs) a (s.left_sealed a ++ left_as_sealed t s) s.left_sealed
      (all_join (λ x. (was_admitted x.tid s ≡ true) × (x ≡ lock_in s.acts x.tid)) (s.left_sealed a) (left_as_sealed t s) (h.sealed a) (by (has_its_place (OfAct t) s.members && not (was_given_up s.dooms t)))) h.sealed;
}
  where
    by : (b : Bool) → AllByRecursion (λ x. (was_admitted x.tid s ≡ true) × (x ≡ lock_in s.acts x.tid)) (if b then lock_in s.acts t ∷ [] else [])
    by true = ((of_there (IsNamed s) (OfAct t) (s.entries a) (h.entries a) e, refl), tt)
    by false = tt

-- ---- each event

-- what the ring's own events make of the rest
added_steady : (reads : Tx → Bool) (w : Text) (e : Event) (s : Seen) → AllTrue (ring_conditions w e s.ring) → AreDrawn s → AreSteady s → AreSteady (added reads w e s)
unfolding added
added_steady reads w (Form k) s m drawn h = record {
  pairs = same_pairs s (record s { batches = s.batches ++ planned w k s.ring ∷ [] }) s.gains refl refl refl h.pairs;
  none_crossed = h.none_crossed;
  entries = h.entries;
  apart = h.apart;
  placed = h.placed;
  kept = h.kept;
  behind = h.behind;
  sealed = h.sealed;
}
added_steady reads w (Admit t) s m drawn h = begun_steady reads w t (next_act s.ring) s (eqb-true t s.ring.next_tid m.0) drawn h
added_steady reads w (Arrive k a) s m drawn h = by (comes k a s) refl
  where
    by : (b : Bool) → comes k a s ≡ b → AreSteady (if b then cross_out a (batch_placed_last k a s) else s)
    by true e = crossed_out_steady a (batch_placed_last k a s) (arrived_loose k a s e drawn h)
    by false e = h
added_steady reads w (Ask t a) s m drawn h = by (may_ask w t a s) refl
  where
    by : (b : Bool) → may_ask w t a s ≡ b → AreSteady (if b then asks t a (least_older t (met t a s)) s else s)
    by true e = asks_steady w t a s (least_older t (met t a s)) refl e drawn h
    by false e = h
added_steady reads w (Run t a) s m drawn h = record {
  pairs = same_pairs s (record s { ran = with_at a (s.ran a ++ t ∷ []) s.ran }) s.gains refl refl refl h.pairs;
  none_crossed = h.none_crossed;
  entries = h.entries;
  apart = h.apart;
  placed = h.placed;
  kept = h.kept;
  behind = h.behind;
  sealed = h.sealed;
}
added_steady reads w (Commit k) s m drawn h = placed_steady (committing k (batch_in k s.batches) s.members) s h
added_steady reads w (Settle k) s m drawn h = by (was_formed k s && not (is_among k s.settled))
  where
    by : (b : Bool) → AreSteady (if b then record s { settled = s.settled ++ k ∷ [] } else s)
    by true = record {
      pairs = same_pairs s (record s { settled = s.settled ++ k ∷ [] }) s.gains refl refl refl h.pairs;
      none_crossed = h.none_crossed;
      entries = h.entries;
      apart = h.apart;
      placed = h.placed;
      kept = h.kept;
      behind = h.behind;
      sealed = h.sealed;
    }
    by false = h
added_steady reads w (Abort k) s m drawn h = by (may_abort k s)
  where
    by : (b : Bool) → AreSteady (if b then with_cut w k (give_up (taken_by k s) s) else s)
    by true = cut_steady w k (give_up (taken_by k s) s) (more_given_up (taken_by k s) s h)
    by false = h
added_steady reads w (Rollback a) s m drawn h = rolled_steady a s h
added_steady reads w (Decide t) s m drawn h = placed_steady (deciding w (act_in t s.acts) s) s h
added_steady reads w (Finish t a) s m drawn h = by (is_one_of_these (OfAct t) (s.entries a)) refl
  where
    by : (b : Bool) → is_one_of_these (OfAct t) (s.entries a) ≡ b → AreSteady (if b then left t a s else s)
    by true e = left_steady t a s e h
    by false e = h
added_steady reads w (Trim k a) s m drawn h = without_steady (λ y. not (is_who y (OfBatch k))) a s h
added_steady reads w _ s m drawn h = h

-- the rest leaves the ring
ring_left : (reads : Tx → Bool) (w : Text) (e : Event) (s : Seen) → (added reads w e s).ring ≡ s.ring
unfolding added
ring_left reads w (Arrive k a) s = by (comes k a s)
  where
    by : (b : Bool) → (if b then cross_out a (batch_placed_last k a s) else s).ring ≡ s.ring
    by true = refl
    by false = refl
ring_left reads w (Ask t a) s = by (may_ask w t a s) (least_older t (met t a s))
  where
    by : (b : Bool) (o : Option ℕ) → (if b then asks t a o s else s).ring ≡ s.ring
    by true None = refl
    by true (Some older) = refl
    by false o = refl
ring_left reads w (Settle k) s = by (was_formed k s && not (is_among k s.settled))
  where
    by : (b : Bool) → (if b then record s { settled = s.settled ++ k ∷ [] } else s).ring ≡ s.ring
    by true = refl
    by false = refl
ring_left reads w (Abort k) s = by (may_abort k s)
  where
    by : (b : Bool) → (if b then with_cut w k (give_up (taken_by k s) s) else s).ring ≡ s.ring
    by true = refl
    by false = refl
ring_left reads w (Finish t a) s = by (is_one_of_these (OfAct t) (s.entries a))
  where
    by : (b : Bool) → (if b then left t a s else s).ring ≡ s.ring
    by true = refl
    by false = refl
ring_left reads w _ s = refl

-- numbers of batches only rise
bids_rise : (w : Text) (e : Event) (r : Ring) → r.next_bid ≤ (ring_after w e r).next_bid
unfolding ring_after
bids_rise w (Form k) r = omega arith
bids_rise w (Admit t) r = omega arith
bids_rise w _ r = omega arith

-- one event, and the first moment

pub steady_on : (reads : Tx → Bool) (w : Text) (e : Event) (s : Seen) → w.opening.next_bid ≡ 1 → AllTrue (ring_conditions w e s.ring) → IsSound s → AreSteady (happened reads w e s)
steady_on reads w e s o m h =
    with_ring (added reads w e s) (ring_after w e s.ring) (omega (arith, bids_rise w e s.ring, ap (λ (r : Ring). r.next_bid) (ring_left reads w e s))) (added_steady reads w e s m h.drawn h.steady)

pub steady_first : (w : Text) → AreSteady (nothing_seen w)
steady_first w = record {
  pairs = tt;
  none_crossed = tt;
  entries = λ a. tt;
  apart = λ a. tt;
  placed = λ a. tt;
  kept = λ a. tt;
  behind = λ t. tt;
  sealed = λ a. tt;
}
