-- The halves of a book stay fit.
use Rattle.std.specs.Prelude.{◌≡◌, refl, ℕ, ◌≤◌, ◌==◌, nat_le, Bool, true, false, ◌&&◌, ◌||◌, if◌then◌else◌, Option, Some, None, is_some, option_map, List, [], ◌∷◌, ◌++◌, map, find}
use Rattle.std.specs.List.{AllByRecursion}
use Rattle.std.proofs.Common.{arith, sym, ap, subst, ◌∙◌}
use Rattle.std.proofs.lemmas.Bool.{true≢false, eqb-true, and_parts}
use Rattle.snap_base.specs.declared.transactions.TxResult.{TxResult}
use Rattle.snap_base.proofs.Booleans.{eqb_turned}
use Rattle.protocol.specs.Rivals.{Lock}
use Rattle.protocol.specs.Parts.{Joined, Status, Live, Doomed, Decided, Sealed, Act, Pair, Book}
use Rattle.protocol.specs.Words.{holds, is_among, act_of, joined_of, is_live_status, is_doomed, is_decided, is_ordered, is_value}
use Rattle.protocol.specs.Numbers.{times, one_if}
use Rattle.protocol.specs.Spread.{crossed_out, raised, doomed_by_order}
use Rattle.protocol.specs.Verdicts.{died}
use Rattle.protocol.specs.OnBook as book
use Rattle.protocol.specs.BookParts.{not_voted}
use Rattle.protocol_laws.specs.OneWay.{actors_of}
use Rattle.protocol_theorems.specs.BookFits.{IsOrder, IsVoted, IsVotedBy, BookFits}
use Rattle.protocol_laws.proofs.first.Lists.{all_join, all_map, all_of, both_all, weaker}
use Rattle.protocol_laws.proofs.first.Times
use Rattle.protocol_theorems.proofs.quiet.JoinsKept.{apart_more, actors_marked}
use Rattle.protocol_theorems.proofs.halves.VotedActs as voted
use Rattle.protocol_theorems.proofs.halves.BookEquations.{IsLiveAt}
use Rattle.protocol_theorems.proofs.halves.OrdersFit.{Goes, OrdersFit, Known, go, each_found, each_map, some_act, known_changed, goes_all, changed_like, crossed_like, dooms_like, raised_like, goes_one}
use Rattle.protocol_laws.proofs.first.Statuses.{live_unordered, ordered_sealed, sealed_doomed}

-- ---- the events on orders

pub admits : (vs xs : List Act) (t n : ℕ) (rd : Bool) (m : ℕ) → act_of t xs ≡ None → act_of t vs ≡ None → OrdersFit vs xs → OrdersFit vs (xs ++ book.new_act t n rd m ∷ [])
admits vs xs t n rd m e f g = record {
  apart = λ k. subst (λ z. times k z ≤ 1) (sym (Times.map_join (λ x. x.tid) xs (book.new_act t n rd m ∷ []))) (once k);
  bare = all_join IsOrder xs _ g.bare (record { result = refl; undecided = refl; unvoted = tt; once = λ k. omega arith }, tt);
  voted = all_join (λ x. IsVotedBy (act_of x.tid vs) x) xs _ g.voted (subst (λ z. IsVotedBy z (book.new_act t n rd m)) (sym f) refl, tt);
}
  where
    zero_times : (ns : List ℕ) → is_among t ns ≡ false → times t ns ≡ 0
    zero_times [] h = refl
    zero_times (k ∷ ns) h = let p = Rattle.std.proofs.lemmas.Bool.or_parts (k == t) (is_among t ns) h in omega (arith, Times.times_cons t k ns, ap one_if p.0, zero_times ns p.1)

    most : (b : Bool) → one_if b ≤ 1
    most true = omega arith
    most false = omega arith

    once : (k : ℕ) → times k (map (λ x. x.tid) xs ++ t ∷ []) ≤ 1
    once k = by (t == k) refl
      where
        by : (b : Bool) → (t == k) ≡ b → times k (map (λ x. x.tid) xs ++ t ∷ []) ≤ 1
        by true q = let i : t ≡ k = eqb-true t k q in omega (arith, Times.times_append k (map (λ x. x.tid) xs) (t ∷ []), Times.times_cons k t [], most (t == k), subst (λ z. times z (map (λ x. x.tid) xs) ≡ 0) i (zero_times (map (λ x. x.tid) xs) (sym (some_act t xs) ∙ ap is_some e)))
        by false q = omega (arith, Times.times_append k (map (λ x. x.tid) xs) (t ∷ []), Times.times_cons k t [], ap one_if q, g.apart k)

pub known_more : (xs vs : List Act) (y : Act) → Known xs vs → Known (xs ++ y ∷ []) vs
known_more xs vs y h = weaker (λ v. is_some (act_of v.tid xs) ≡ true) (λ v. is_some (act_of v.tid (xs ++ y ∷ [])) ≡ true) vs (λ v k. more v.tid xs k) h
  where
    more : (n : ℕ) (zs : List Act) → is_some (act_of n zs) ≡ true → is_some (act_of n (zs ++ y ∷ [])) ≡ true
    more n [] k = absurd (true≢false (sym k))
    more n (z ∷ zs) k = by (z.tid == n) k (more n zs)
      where
        by : (b : Bool) → is_some (if b then Some z else act_of n zs) ≡ true → (is_some (act_of n zs) ≡ true → is_some (act_of n (zs ++ y ∷ [])) ≡ true) → is_some (if b then Some z else act_of n (zs ++ y ∷ [])) ≡ true
        by true k f = refl
        by false k f = f k

pub arrives : (vs xs : List Act) (k a : ℕ) (tids : List ℕ) → OrdersFit vs xs → OrdersFit vs (doomed_by_order a (map (book.lowered k tids) xs))
arrives vs xs k a tids g = goes_all vs _ (crossed_out a) (crossed_like a) (goes_all vs xs (book.lowered k tids) (λ x. record { tid = refl; result = refl; places = refl; ordered = refl; decided = refl }) g)

-- an ACT that votes do not know yet joins one more actor
join_goes : (vs : List Act) (a m : ℕ) (x : Act) → times a (actors_of x.places) ≡ 0 → act_of x.tid vs ≡ None → Goes vs vs x (book.joins a m x)
join_goes vs a m x z n = (
  refl,
  λ g h. (
    record {
      result = g.result;
      undecided = g.undecided;
      unvoted = all_join (λ p. (p.prepared || p.vouched) ≡ false) x.places _ g.unvoted (refl, tt);
      once = apart_more a _ x.places refl z g.once;
    },
    subst (λ v. IsVotedBy v (book.joins a m x)) (sym n) (subst (λ v. IsVotedBy v x) n h),
  ),
)

no_times : (a : ℕ) (ps : List Joined) → find (λ p. p.actor == a) ps ≡ None → times a (actors_of ps) ≡ 0
no_times a [] e = refl
no_times a (p ∷ ps) e = by (p.actor == a) refl e (no_times a ps)
  where
    by : (b : Bool) → (p.actor == a) ≡ b → (if b then Some p else find (λ p. p.actor == a) ps) ≡ None → (find (λ p. p.actor == a) ps ≡ None → times a (actors_of ps) ≡ 0) → times a (p.actor ∷ actors_of ps) ≡ 0
    by true q e k = absurd (cc e)
    by false q e k = omega (arith, Times.times_cons a p.actor (actors_of ps), ap one_if q, k e)

pub asks : (vs xs : List Act) (ps : List Pair) (older : Option ℕ) (group : List Lock) (t a m : ℕ) → ((x : Act) → act_of t xs ≡ Some x → joined_of a x ≡ None) → act_of t vs ≡ None → OrdersFit vs xs
    → (b : Book) → b.acts ≡ xs → OrdersFit vs (book.asked_acts older group t a m b)
asks vs xs ps (Some older) group t a m j n g b e = subst (λ z. OrdersFit vs (book.changed_act t (book.doomed_by (died a older t)) z)) (sym e)
    (goes_all vs xs (λ x. book.change_if (x.tid == t) (book.doomed_by (died a older t)) x) (λ x. changed_like (x.tid == t) (book.doomed_by (died a older t)) x (dooms_like x x.n (is_live_status x.status) _ (λ q. q))) g)
asks vs xs ps None group t a m j n g b e = subst (λ z. OrdersFit vs (doomed_by_order a (raised (b.pairs ++ book.new_pairs t a group z) (book.changed_act t (book.joins a m) z)))) (sym e)
    (goes_all vs _ (crossed_out a) (crossed_like a) (go vs vs _ _ (raised_like vs (b.pairs ++ book.new_pairs t a group xs) (book.changed_act t (book.joins a m) xs))
    (go vs vs xs _ (each_map (Goes vs vs) (λ x. book.change_if (x.tid == t) (book.joins a m) x) xs (weaker (λ x. act_of x.tid xs ≡ Some x) _ xs (λ x f. goes_one vs vs t (book.joins a m) x (λ i. own x f i) (λ i. refl)) (each_found xs g.apart))) g)))
  where
    own : (x : Act) → act_of x.tid xs ≡ Some x → (x.tid == t) ≡ true → Goes vs vs x (book.joins a m x)
    own x f i = let q : x.tid ≡ t = eqb-true x.tid t i in join_goes vs a m x (no_times a x.places (j x (subst (λ z. act_of z xs ≡ Some x) q f))) (ap (λ z. act_of z vs) q ∙ n)

asked_changes : (vs : List Act) (older : Option ℕ) (group : List Lock) (t a m : ℕ) (b : Book) → map (λ x. x.tid) (book.asked_acts older group t a m b) ≡ map (λ x. x.tid) b.acts
asked_changes vs (Some older) group t a m b = Rattle.protocol_laws.proofs.first.Kept.changed_act_kept (λ x. x.tid) t _ b.acts (λ x. refl)
asked_changes vs None group t a m b =
    Rattle.protocol_laws.proofs.first.Kept.map_kept (λ x. x.tid) (crossed_out a) _ (λ x. refl)
    ∙ (Rattle.protocol_laws.proofs.first.Kept.raised_kept (λ x. x.tid) _ _ (λ x m. refl) ∙ Rattle.protocol_laws.proofs.first.Kept.changed_act_kept (λ x. x.tid) t _ b.acts (λ x. refl))

left_marks : (a : ℕ) (ps : List Joined) → AllByRecursion (λ p. (p.prepared || p.vouched) ≡ false) ps → AllByRecursion (λ p. (p.prepared || p.vouched) ≡ false) (map (λ p. book.mark_if (p.actor == a) book.has_left p) ps)
left_marks a ps h = all_map (λ p. (p.prepared || p.vouched) ≡ false) (λ p. (p.prepared || p.vouched) ≡ false) (λ p. book.mark_if (p.actor == a) book.has_left p) ps (λ p k. by p (p.actor == a) k) h
  where
    by : (p : Joined) (b : Bool) → (p.prepared || p.vouched) ≡ false → ((book.mark_if b book.has_left p).prepared || (book.mark_if b book.has_left p).vouched) ≡ false
    by p true k = k
    by p false k = k

leave_goes : (vs : List Act) (a : ℕ) (x : Act) → Goes vs vs x (book.marked a book.has_left x)
leave_goes vs a x = (
  refl,
  λ g h. (
    record {
      result = g.result;
      undecided = g.undecided;
      unvoted = left_marks a x.places g.unvoted;
      once = λ n. subst (λ z. times n z ≤ 1) (sym (actors_marked a book.has_left x.places (λ p. refl))) (g.once n);
    },
    by (act_of x.tid vs) h,
  ),
)
  where
    by : (v : Option Act) → IsVotedBy v x → IsVotedBy v (book.marked a book.has_left x)
    by None h = h
    by (Some v) h = record { ended = h.ended; actors = h.actors ∙ sym (actors_marked a book.has_left x.places (λ p. refl)); undoomed = h.undoomed; placed = h.placed }

pub finishes : (vs xs : List Act) (t a : ℕ) → OrdersFit vs xs → OrdersFit vs (book.changed_act t (book.marked a book.has_left) xs)
finishes vs xs t a g = go vs vs xs _ (each_map (Goes vs vs) (λ x. book.change_if (x.tid == t) (book.marked a book.has_left) x) xs (all_of _ xs (λ x. goes_one vs vs t (book.marked a book.has_left) x (λ e. leave_goes vs a x) (λ e. refl)))) g

pub cascades : (vs xs : List Act) (k by : ℕ) → OrdersFit vs xs → OrdersFit vs (map (book.cascaded k by) xs)
cascades vs xs k by g = goes_all vs xs (book.cascaded k by) (λ x. dooms_like x None (is_live_status x.status && nat_le k x.m) _ (λ e. (and_parts (is_live_status x.status) (nat_le k x.m) e).0)) g

-- ---- the events on votes

keep_orders : (vs us xs : List Act) → AllByRecursion (λ x. IsOrder x → IsVotedBy (act_of x.tid vs) x → IsVotedBy (act_of x.tid us) x) xs → OrdersFit vs xs → OrdersFit us xs
keep_orders vs us xs h g = record {
  apart = g.apart;
  bare = g.bare;
  voted = both_all IsOrder (λ x. (IsOrder x → IsVotedBy (act_of x.tid us) x)) (λ x. IsVotedBy (act_of x.tid us) x) xs (λ x i f. f i) g.bare (both_all (λ x. IsOrder x → IsVotedBy (act_of x.tid vs) x → IsVotedBy (act_of x.tid us) x) (λ x. IsVotedBy (act_of x.tid vs) x) _ xs (λ x f k i. f i k) h g.voted);
}

no_votes_actors : (actors : List ℕ) → actors_of (map not_voted actors) ≡ actors
no_votes_actors [] = refl
no_votes_actors (a ∷ actors) = ap (λ z. a ∷ z) (no_votes_actors actors)

first_fit : (t : ℕ) (r : TxResult) (actors : List ℕ) (x : Act) → actors ≡ actors_of x.places → is_ordered x.status ≡ false → IsVoted (voted.first_votes t r actors) x
first_fit t r actors x e h = record { ended = refl; actors = no_votes_actors actors ∙ e; undoomed = refl; placed = sym h }

pub ends : (t : ℕ) (r : TxResult) (vs xs : List Act) (z : Act) → act_of t xs ≡ Some z → act_of t vs ≡ None → OrdersFit vs xs → OrdersFit (vs ++ voted.first_votes t r (actors_of z.places) ∷ []) xs
ends t r vs xs z e n g = keep_orders vs us xs (weaker (λ x. act_of x.tid xs ≡ Some x) _ xs (λ x f i h. by x f h (x.tid == t) refl) (each_found xs g.apart)) g
  where
    us : List Act
    us = vs ++ voted.first_votes t r (actors_of z.places) ∷ []

    by : (x : Act) → act_of x.tid xs ≡ Some x → IsVotedBy (act_of x.tid vs) x → (b : Bool) → (x.tid == t) ≡ b → IsVotedBy (act_of x.tid (vs ++ voted.first_votes t r (actors_of z.places) ∷ [])) x
    by x f h true q =
        let i : x.tid ≡ t = eqb-true x.tid t q in
        let k : act_of x.tid vs ≡ None = ap (λ m. act_of m vs) i ∙ n in
        let same : Some z ≡ Some x = sym e ∙ (ap (λ m. act_of m xs) (sym i) ∙ f) in
        let is : z ≡ x = cc same in
        subst (λ v. IsVotedBy v x) (sym (voted.found_behind x.tid (voted.first_votes t r (actors_of z.places)) vs k (eqb_turned x.tid t true q)))
        (first_fit t r (actors_of z.places) x (ap (λ y. actors_of y.places) is) (subst (λ v. IsVotedBy v x) k h))
    by x f h false q = subst (λ v. IsVotedBy v x) (sym (voted.found_ahead x.tid (voted.first_votes t r (actors_of z.places)) vs (eqb_turned x.tid t false q))) h

changed_votes : (t : ℕ) (f : Act → Act) → ((y : Act) → (f y).tid ≡ y.tid) → ((y x : Act) → IsVoted y x → IsVoted (f y) x) → (vs xs : List Act) → OrdersFit vs xs → OrdersFit (book.changed_act t f vs) xs
changed_votes t f i k vs xs g = keep_orders vs (book.changed_act t f vs) xs (all_of _ xs (λ x j h. by x (x.tid == t) refl (act_of x.tid vs) refl h)) g
  where
    by : (x : Act) (b : Bool) → (x.tid == t) ≡ b → (o : Option Act) → act_of x.tid vs ≡ o → IsVotedBy (act_of x.tid vs) x → IsVotedBy (act_of x.tid (book.changed_act t f vs)) x
    by x false e o q h = subst (λ v. IsVotedBy v x) (sym (voted.found_other t x.tid f i e vs)) h
    by x true e None q h = subst (λ v. IsVotedBy v x) (sym (voted.found_changed t x.tid f i true e vs ∙ ap (option_map f) q)) (subst (λ v. IsVotedBy v x) q h)
    by x true e (Some y) q h = subst (λ v. IsVotedBy v x) (sym (voted.found_own t x.tid f i e vs y q)) (k y x (subst (λ v. IsVotedBy v x) q h))

pub votes : (t a : ℕ) (f : Joined → Joined) → voted.IsVote f → (vs xs : List Act) → OrdersFit vs xs → OrdersFit (book.changed_act t (book.marked a f) vs) xs
votes t a f i vs xs g = changed_votes t (book.marked a f) (λ y. refl) (λ y x h. record { ended = h.ended; actors = actors_marked a f y.places i.actor ∙ h.actors; undoomed = h.undoomed; placed = h.placed }) vs xs g

pub seals : (t : ℕ) (vs xs : List Act) → OrdersFit vs xs → OrdersFit (book.changed_act t book.sealed vs) xs
seals t vs xs g = changed_votes t book.sealed (λ y. refl) (λ y x h. record { ended = h.ended; actors = h.actors; undoomed = sealed_doomed y.status ∙ h.undoomed; placed = ordered_sealed y.status ∙ h.placed }) vs xs g

-- ---- a decision is of both

live_left : (st : Status) → is_ordered st ≡ false → is_doomed st ≡ false → is_live_status st ≡ true
live_left Live h k = refl
live_left (Doomed v) h k = absurd (true≢false k)
live_left (Decided c) h k = absurd (true≢false h)
live_left (Sealed c) h k = absurd (true≢false h)

pub live_at : (t : ℕ) (vs xs : List Act) → is_some (act_of t vs) ≡ true → holds (λ x. is_live_status x.status) (act_of t xs) ≡ true → OrdersFit vs xs → AllByRecursion (IsLiveAt t vs) xs
live_at t vs xs v l g = both_all (λ x. act_of x.tid xs ≡ Some x) (λ x. IsOrder x × IsVotedBy (act_of x.tid vs) x) (IsLiveAt t vs) xs (λ x f h i. by x f h i (act_of x.tid vs) refl) (each_found xs g.apart) (both_all IsOrder (λ x. IsVotedBy (act_of x.tid vs) x) _ xs (λ x i h. (i, h)) g.bare g.voted)
  where
    by : (x : Act) → act_of x.tid xs ≡ Some x → IsOrder x × IsVotedBy (act_of x.tid vs) x → (x.tid == t) ≡ true → (o : Option Act) → act_of x.tid vs ≡ o → (x.result ≡ None) × ((is_live_status x.status ≡ true) × ((y : Act) × ((act_of x.tid vs ≡ Some y) × (is_live_status y.status ≡ true))))
    by x f h i None q = absurd (true≢false (sym (subst (λ z. is_some z ≡ true) (ap (λ m. act_of m vs) (sym (eqb-true x.tid t i)) ∙ q) v)))
    by x f h i (Some y) q =
        let live : is_live_status x.status ≡ true = subst (λ z. holds (λ x. is_live_status x.status) z ≡ true) (ap (λ m. act_of m xs) (sym (eqb-true x.tid t i)) ∙ f) l in
        let k : IsVoted y x = subst (λ z. IsVotedBy z x) q h.1 in
        (h.0.result, (live, (y, (q, live_left y.status (k.placed ∙ live_unordered x.status live) k.undoomed))))

decided_live : (c : ℕ) (b : Bool) (st : Status) → is_live_status st ≡ true → (is_ordered (book.decided_status c b st) ≡ true) × (is_doomed (book.decided_status c b st) ≡ false)
decided_live c true Live h = (refl, refl)
decided_live c false Live h = (refl, refl)
decided_live c b (Doomed v) h = absurd (true≢false (sym h))
decided_live c b (Decided d) h = absurd (true≢false (sym h))
decided_live c b (Sealed d) h = absurd (true≢false (sym h))

place_undecided : (r : Option TxResult) (st : Status) → r ≡ None → is_decided st ≡ false → is_decided (book.decided_status 0 (is_value r) st) ≡ false
place_undecided r Live e h = ap (λ r. is_decided (if is_value r then Decided 0 else Sealed 0)) e
place_undecided r (Doomed v) e h = refl
place_undecided r (Decided c) e h = h
place_undecided r (Sealed c) e h = refl

pub decides : (t c : ℕ) (vs xs : List Act) → AllByRecursion (IsLiveAt t vs) xs → OrdersFit vs xs → OrdersFit (book.changed_act t (book.decided_as c) vs) (book.changed_act t (book.decided_as 0) xs)
decides t c vs xs l g = go vs us xs _ (each_map (Goes vs us) (λ x. book.change_if (x.tid == t) (book.decided_as 0) x) xs
    (weaker (IsLiveAt t vs) _ xs (λ x k. goes_one vs us t (book.decided_as 0) x (λ e. own x k e) (λ e. voted.found_other t x.tid (book.decided_as c) (λ y. refl) e vs)) l)) g
  where
    us : List Act
    us = book.changed_act t (book.decided_as c) vs

    own : (x : Act) → IsLiveAt t vs x → (x.tid == t) ≡ true → Goes vs (book.changed_act t (book.decided_as c) vs) x (book.decided_as 0 x)
    own x k e = let f = k e in (
      refl,
      λ i h. (
        record {
          result = i.result;
          undecided = place_undecided x.result x.status i.result i.undecided;
          unvoted = i.unvoted;
          once = i.once;
        },
        subst (λ v. IsVotedBy v (book.decided_as 0 x)) (sym (voted.found_own t x.tid (book.decided_as c) (λ y. refl) e vs f.1.1.0 f.1.1.1.0))
            (let q : IsVoted f.1.1.0 x = subst (λ v. IsVotedBy v x) f.1.1.1.0 h in record {
              ended = q.ended;
              actors = q.actors;
              undoomed = (decided_live c (is_value f.1.1.0.result) f.1.1.0.status f.1.1.1.1).1;
              placed = (decided_live c (is_value f.1.1.0.result) f.1.1.0.status f.1.1.1.1).0 ∙ sym (decided_live 0 (is_value x.result) x.status f.1.0).0;
            }),
      ),
    )

-- ---- the whole record

pub orders_of : (o v : Book) → BookFits o v → OrdersFit v.acts o.acts
orders_of o v f = record { apart = f.apart; bare = f.bare; voted = f.voted }

pub fits_of : (o v : Book) → OrdersFit v.acts o.acts → Known o.acts v.acts → BookFits o v
fits_of o v f k = record { apart = f.apart; bare = f.bare; voted = f.voted; known = k }

pub known_act : (xs vs : List Act) (t : ℕ) (f : Act → Act) → ((y : Act) → (f y).tid ≡ y.tid) → Known xs vs → Known xs (book.changed_act t f vs)
known_act xs vs t f i h = known_changed xs vs t f i h

pub asked_tids : (older : Option ℕ) (group : List Lock) (t a m : ℕ) (b : Book) → map (λ x. x.tid) (book.asked_acts older group t a m b) ≡ map (λ x. x.tid) b.acts
asked_tids older group t a m b = asked_changes [] older group t a m b

pub arrived_tids : (k a : ℕ) (tids : List ℕ) (xs : List Act) → map (λ x. x.tid) (doomed_by_order a (map (book.lowered k tids) xs)) ≡ map (λ x. x.tid) xs
arrived_tids k a tids xs = Rattle.protocol_laws.proofs.first.Kept.map_kept (λ x. x.tid) (crossed_out a) (map (book.lowered k tids) xs) (λ x. refl) ∙ Rattle.protocol_laws.proofs.first.Kept.map_kept (λ x. x.tid) (book.lowered k tids) xs (λ x. refl)

pub cascaded_tids : (k by : ℕ) (xs : List Act) → map (λ x. x.tid) (map (book.cascaded k by) xs) ≡ map (λ x. x.tid) xs
cascaded_tids k by xs = Rattle.protocol_laws.proofs.first.Kept.map_kept (λ x. x.tid) (book.cascaded k by) xs (λ x. refl)

pub changed_tids : (t : ℕ) (f : Act → Act) → ((x : Act) → (f x).tid ≡ x.tid) → (xs : List Act) → map (λ x. x.tid) (book.changed_act t f xs) ≡ map (λ x. x.tid) xs
changed_tids t f i xs = Rattle.protocol_laws.proofs.first.Kept.changed_act_kept (λ x. x.tid) t f xs i
