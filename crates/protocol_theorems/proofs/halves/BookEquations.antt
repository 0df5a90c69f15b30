-- What an event makes of a book of two halves.
use Rattle.std.specs.Prelude.{◌≡◌, refl, ℕ, ◌==◌, nat_le, Bool, true, false, ◌&&◌, Option, Some, None, is_some, List, [], ◌∷◌, ◌++◌, map}
use Rattle.std.specs.List.{AllByRecursion}
use Rattle.std.proofs.Common.{sym, ap, subst, ◌∙◌}
use Rattle.std.proofs.lemmas.Bool.{true≢false, eqb-true}
use Rattle.snap_base.specs.declared.transactions.TxResult.{TxResult}
use Rattle.snap_base.proofs.Booleans.{eqb_turned}
use Rattle.protocol.specs.Fixed.{Next, Go, Ended}
use Rattle.protocol.specs.Rivals.{Lock}
use Rattle.protocol.specs.Parts.{Joined, Act, Pair, Cascade, Book, Outcome}
use Rattle.protocol.specs.Words.{act_of, is_live_status, Failure}
use Rattle.protocol.specs.Spread.{crossed_out, raised, reaches, doomed_by_order}
use Rattle.protocol.specs.Verdicts.{died, taken_along}
use Rattle.protocol.specs.OnBook as book
use Rattle.protocol.specs.BookParts.{act_by, with_votes, book_of, has_place, orders_cascaded}
use Rattle.protocol_theorems.specs.BookFits.{IsOrder, IsVoted, IsVotedBy, votes_ended, votes_for}
use Rattle.protocol_laws.proofs.first.Lists.{both_all, weaker}
use Rattle.protocol_laws.proofs.first.Times
use Rattle.protocol_theorems.proofs.halves.ActWithVotes
use Rattle.protocol_theorems.proofs.halves.VotedActs as voted

-- other ACTs
booked : (c : ℕ) (cs : List Cascade) (ps : List Pair) (xs ys : List Act) → xs ≡ ys → let b : Book = record { next_c = c; cascades = cs; acts = xs; pairs = ps } in let d : Book = record { next_c = c; cascades = cs; acts = ys; pairs = ps } in b ≡ d
booked c cs ps xs ys e = ap (λ xs. let b : Book = record { next_c = c; cascades = cs; acts = xs; pairs = ps } in b) e

pub admits : (o v : Book) (cs : List Cascade) (t n : ℕ) (rd : Bool) (m : ℕ) → act_of t v.acts ≡ None → book.act_admitted t n rd m (book_of o v cs) ≡ book_of (book.act_admitted t n rd m o) v cs
admits o v cs t n rd m e = booked v.next_c cs o.pairs _ _
    (ap (λ z. with_votes v.acts o.acts ++ act_by z (book.new_act t n rd m) ∷ []) (sym e) ∙ sym (Times.map_join (λ x. act_by (act_of x.tid v.acts) x) o.acts (book.new_act t n rd m ∷ [])))

crossed_by : (a : ℕ) (v : Option Act) (x : Act) → crossed_out a (act_by v x) ≡ act_by v (crossed_out a x)
crossed_by a v x = ap (λ st. let y : Act = record (act_by v x) { status = st } in y) (ActWithVotes.doom_if v x.status _ _ _ (ap (λ z. z && reaches x.m x.n) (ActWithVotes.live_by v x.status)))

by_order : (a : ℕ) (vs xs : List Act) → doomed_by_order a (with_votes vs xs) ≡ with_votes vs (doomed_by_order a xs)
by_order a vs xs = ActWithVotes.map_orders vs (crossed_out a) xs (λ x. crossed_by a (act_of x.tid vs) x)

pub arrives : (o v : Book) (cs : List Cascade) (k a : ℕ) (tids : List ℕ) → book.batch_arrived k a tids (book_of o v cs) ≡ book_of (book.batch_arrived k a tids o) v cs
arrives o v cs k a tids = booked v.next_c cs o.pairs _ _
    (ap (doomed_by_order a) (ActWithVotes.map_orders v.acts (book.lowered k tids) o.acts (λ x. refl)) ∙ by_order a v.acts (map (book.lowered k tids) o.acts))

pub dies : (o v : Book) (cs : List Cascade) (older : ℕ) (group : List Lock) (t a m : ℕ) → book.act_asked (Some older) group t a m (book_of o v cs) ≡ book_of (book.act_asked (Some older) group t a m o) v cs
dies o v cs older group t a m = booked v.next_c cs o.pairs _ _
    (ActWithVotes.change_orders v.acts t (book.doomed_by (died a older t)) o.acts (λ x e. ap (λ st. let y : Act = record (act_by (act_of x.tid v.acts) x) { status = st } in y) (ActWithVotes.doom_if (act_of x.tid v.acts) x.status _ _ _ (ActWithVotes.live_by (act_of x.tid v.acts) x.status))))

joined : (vs : List Act) (t a m : ℕ) (xs : List Act) → act_of t vs ≡ None → book.changed_act t (book.joins a m) (with_votes vs xs) ≡ with_votes vs (book.changed_act t (book.joins a m) xs)
joined vs t a m xs e = ActWithVotes.change_orders vs t (book.joins a m) xs (λ x i. let n : act_of x.tid vs ≡ None = ap (λ z. act_of z vs) (eqb-true x.tid t i) ∙ e in
    subst (λ z. book.joins a m (act_by z x) ≡ act_by z (book.joins a m x)) (sym n) (voted.act_joins a m x))

pub asks : (o v : Book) (cs : List Cascade) (older : Option ℕ) (group : List Lock) (t a m : ℕ) → act_of t v.acts ≡ None → book.act_asked older group t a m (book_of o v cs) ≡ book_of (book.act_asked older group t a m o) v cs
asks o v cs (Some older) group t a m e = dies o v cs older group t a m
asks o v cs None group t a m e =
    ap (λ ps. let b : Book = record (book_of o v cs) { acts = doomed_by_order a (raised (o.pairs ++ ps) (book.changed_act t (book.joins a m) (with_votes v.acts o.acts))); pairs = o.pairs ++ ps } in b) (ActWithVotes.new_pairs_by v.acts t a group o.acts)
    ∙ booked v.next_c cs ps _ _
    (ap (λ xs. doomed_by_order a (raised ps xs)) (joined v.acts t a m o.acts e)
    ∙ (ap (doomed_by_order a) (ActWithVotes.raised_by ps v.acts (book.changed_act t (book.joins a m) o.acts)) ∙ by_order a v.acts (raised ps (book.changed_act t (book.joins a m) o.acts))))
  where
    ps : List Pair
    ps = o.pairs ++ book.new_pairs t a group o.acts

-- ---- it ends

-- for one that is changed, and for all others
each_voted : (vs us : List Act) (t : ℕ) (f : Act → Act) (x : Act) → ((x.tid == t) ≡ true → f (act_by (act_of x.tid vs) x) ≡ act_by (act_of x.tid us) x) → ((x.tid == t) ≡ false → act_of x.tid us ≡ act_of x.tid vs)
    → book.change_if (x.tid == t) f (act_by (act_of x.tid vs) x) ≡ act_by (act_of x.tid us) x
each_voted vs us t f x own other = by (x.tid == t) refl
  where
    by : (b : Bool) → (x.tid == t) ≡ b → book.change_if b f (act_by (act_of x.tid vs) x) ≡ act_by (act_of x.tid us) x
    by true e = own e
    by false e = ap (λ z. act_by z x) (sym (other e))

ends_with : (t : ℕ) (r : TxResult) (actors : List ℕ) (vs xs : List Act) → act_of t vs ≡ None → AllByRecursion IsOrder xs → book.changed_act t (book.with_result r) (with_votes vs xs) ≡ with_votes (vs ++ voted.first_votes t r actors ∷ []) xs
ends_with t r actors vs xs n h = ActWithVotes.map_votes vs us (λ x. book.change_if (x.tid == t) (book.with_result r) x) xs
    (weaker IsOrder _ xs (λ x k. each_voted vs us t (book.with_result r) x (own x k) (λ e. voted.found_ahead x.tid new vs (eqb_turned x.tid t false e))) h)
  where
    new : Act
    new = voted.first_votes t r actors

    us : List Act
    us = vs ++ voted.first_votes t r actors ∷ []

    own : (x : Act) → IsOrder x → (x.tid == t) ≡ true → book.with_result r (act_by (act_of x.tid vs) x) ≡ act_by (act_of x.tid (vs ++ voted.first_votes t r actors ∷ [])) x
    own x k e = let q : act_of x.tid vs ≡ None = ap (λ z. act_of z vs) (eqb-true x.tid t e) ∙ n in
        ap (λ z. book.with_result r (act_by z x)) q ∙ (voted.act_ends t r actors x k.unvoted ∙ ap (λ z. act_by z x) (sym (voted.found_behind x.tid (voted.first_votes t r actors) vs q (eqb_turned x.tid t true e))))

pub ends : {C : Type 0} (o v : Book) (cs : List Cascade) (t : ℕ) (is_act : Bool) (actors : List ℕ) (x : Option (Outcome C)) → AllByRecursion IsOrder o.acts → (is_act ≡ true → act_of t v.acts ≡ None) → book.act_ended t is_act x (book_of o v cs) ≡ book_of o (votes_ended t is_act actors x v) cs
ends o v cs t false actors x h n = refl
ends {C} o v cs t true actors None h n = refl
ends {C} o v cs t true actors (Some x) h n = by x.next
  where
    by : (z : Next C) → record (book_of o v cs) { acts = book.noted_for t z (with_votes v.acts o.acts) } ≡ book_of o (votes_for t actors z v) cs
    by (Go b control) = refl
    by (Ended r) = booked v.next_c cs o.pairs _ _ (ends_with t r actors v.acts o.acts (n refl) h)

-- ---- it is voted on

voted_on : (t a : ℕ) (f : Joined → Joined) → voted.IsVote f → (vs xs : List Act) → is_some (act_of t vs) ≡ true → AllByRecursion (λ x. IsVotedBy (act_of x.tid vs) x) xs → book.changed_act t (book.marked a f) (with_votes vs xs) ≡ with_votes (book.changed_act t (book.marked a f) vs) xs
voted_on t a f i vs xs n h = ActWithVotes.map_votes vs (book.changed_act t (book.marked a f) vs) (λ x. book.change_if (x.tid == t) (book.marked a f) x) xs
    (weaker (λ x. IsVotedBy (act_of x.tid vs) x) _ xs (λ x k. each_voted vs (book.changed_act t (book.marked a f) vs) t (book.marked a f) x (λ e. own x (act_of x.tid vs) refl k e) (λ e. voted.found_other t x.tid (book.marked a f) (λ y. refl) e vs)) h)
  where
    own : (x : Act) (w : Option Act) → act_of x.tid vs ≡ w → IsVotedBy (act_of x.tid vs) x → (x.tid == t) ≡ true → book.marked a f (act_by (act_of x.tid vs) x) ≡ act_by (act_of x.tid (book.changed_act t (book.marked a f) vs)) x
    own x None q k e = absurd (true≢false (sym (subst (λ z. is_some z ≡ true) (sym (ap (λ z. act_of z vs) (eqb-true x.tid t e)) ∙ q) n)))
    own x (Some y) q k e =
        let g : IsVoted y x = subst (λ z. IsVotedBy z x) q k in
        ap (λ z. book.marked a f (act_by z x)) q ∙ (voted.act_marked a f i y x g.actors ∙ ap (λ z. act_by z x) (sym (voted.found_own t x.tid (book.marked a f) (λ y. refl) e vs y q)))

pub prepares : (o v : Book) (cs : List Cascade) (t a : ℕ) → is_some (act_of t v.acts) ≡ true → AllByRecursion (λ x. IsVotedBy (act_of x.tid v.acts) x) o.acts → book.act_prepared t a (book_of o v cs) ≡ book_of o (book.act_prepared t a v) cs
prepares o v cs t a n h = booked v.next_c cs o.pairs _ _ (voted_on t a book.is_prepared voted.prepares v.acts o.acts n h)

pub vouches : (o v : Book) (cs : List Cascade) (t a : ℕ) → is_some (act_of t v.acts) ≡ true → AllByRecursion (λ x. IsVotedBy (act_of x.tid v.acts) x) o.acts → book.act_vouched t a (book_of o v cs) ≡ book_of o (book.act_vouched t a v) cs
vouches o v cs t a n h = booked v.next_c cs o.pairs _ _ (voted_on t a book.is_vouched voted.vouches v.acts o.acts n h)

-- ---- it is decided, and sealed

-- an ACT of the orders with this tid is live, and so is its vote
abbrev pub IsLiveAt : ℕ → List Act → Act → Type 0
IsLiveAt t vs x = (x.tid == t) ≡ true → (x.result ≡ None) × ((is_live_status x.status ≡ true) × ((y : Act) × ((act_of x.tid vs ≡ Some y) × (is_live_status y.status ≡ true))))

decided_with : (t c : ℕ) (vs xs : List Act) → AllByRecursion (IsLiveAt t vs) xs → book.changed_act t (book.decided_as c) (with_votes vs xs) ≡ with_votes (book.changed_act t (book.decided_as c) vs) (book.changed_act t (book.decided_as 0) xs)
decided_with t c vs xs h = ActWithVotes.map_both vs (book.changed_act t (book.decided_as c) vs) (λ x. book.change_if (x.tid == t) (book.decided_as c) x) (λ x. book.change_if (x.tid == t) (book.decided_as 0) x) xs
    (weaker (IsLiveAt t vs) _ xs (λ x k. by x k (x.tid == t) refl) h)
  where
    by : (x : Act) → IsLiveAt t vs x → (b : Bool) → (x.tid == t) ≡ b → book.change_if b (book.decided_as c) (act_by (act_of x.tid vs) x) ≡ act_by (act_of (book.change_if b (book.decided_as 0) x).tid (book.changed_act t (book.decided_as c) vs)) (book.change_if b (book.decided_as 0) x)
    by x k true e = let g = k e in
        ap (λ z. book.decided_as c (act_by z x)) g.1.1.1.0 ∙ (voted.act_decides c g.1.1.0 x g.0 g.1.0 g.1.1.1.1 ∙ ap (λ z. act_by z (book.decided_as 0 x)) (sym (voted.found_own t x.tid (book.decided_as c) (λ y. refl) e vs g.1.1.0 g.1.1.1.0)))
    by x k false e = ap (λ z. act_by z x) (sym (voted.found_other t x.tid (book.decided_as c) (λ y. refl) e vs))

pub decides : (o v : Book) (cs : List Cascade) (t : ℕ) → AllByRecursion (IsLiveAt t v.acts) o.acts → book.act_decided t (book_of o v cs) ≡ book_of (has_place t o) (book.act_decided t v) cs
decides o v cs t h = booked _ cs o.pairs _ _ (decided_with t v.next_c v.acts o.acts h)

sealed_with : (t : ℕ) (vs xs : List Act) → AllByRecursion IsOrder xs → AllByRecursion (λ x. IsVotedBy (act_of x.tid vs) x) xs → book.changed_act t book.sealed (with_votes vs xs) ≡ with_votes (book.changed_act t book.sealed vs) xs
sealed_with t vs xs g h = ActWithVotes.map_votes vs (book.changed_act t book.sealed vs) (λ x. book.change_if (x.tid == t) book.sealed x) xs
    (both_all IsOrder (λ x. IsVotedBy (act_of x.tid vs) x) _ xs (λ x i k. each_voted vs (book.changed_act t book.sealed vs) t book.sealed x (λ e. own x (act_of x.tid vs) refl i k e) (λ e. voted.found_other t x.tid book.sealed (λ y. refl) e vs)) g h)
  where
    own : (x : Act) (w : Option Act) → act_of x.tid vs ≡ w → IsOrder x → IsVotedBy (act_of x.tid vs) x → (x.tid == t) ≡ true → book.sealed (act_by (act_of x.tid vs) x) ≡ act_by (act_of x.tid (book.changed_act t book.sealed vs)) x
    own x None q i k e =
        ap (λ z. book.sealed (act_by z x)) q ∙ (voted.seals_none x (subst (λ z. IsVotedBy z x) q k)
        ∙ ap (λ z. act_by z x) (sym (voted.found_changed t x.tid book.sealed (λ y. refl) true e vs ∙ ap (Rattle.std.specs.Prelude.option_map book.sealed) q)))
    own x (Some y) q i k e =
        ap (λ z. book.sealed (act_by z x)) q ∙ (voted.seals_some y x i.undecided ∙ ap (λ z. act_by z x) (sym (voted.found_own t x.tid book.sealed (λ y. refl) e vs y q)))

pub seals : (o v : Book) (cs : List Cascade) (t : ℕ) → AllByRecursion IsOrder o.acts → AllByRecursion (λ x. IsVotedBy (act_of x.tid v.acts) x) o.acts → book.act_sealed t (book_of o v cs) ≡ book_of o (book.act_sealed t v) cs
seals o v cs t g h = booked v.next_c cs o.pairs _ _ (sealed_with t v.acts o.acts g h)

-- ---- it leaves an actor, and a cascade

pub finishes : (o v : Book) (cs : List Cascade) (t a : ℕ) → book.act_finished t a (book_of o v cs) ≡ book_of (book.act_finished t a o) v cs
finishes o v cs t a = booked v.next_c cs _ _ _ (ActWithVotes.change_orders v.acts t (book.marked a book.has_left) o.acts (λ x e. voted.act_leaves a (act_of x.tid v.acts) x))

cascaded_by : (k by : ℕ) (v : Option Act) (x : Act) → book.cascaded k by (act_by v x) ≡ act_by v (book.cascaded k by x)
cascaded_by k by v x = ap (λ st. let y : Act = record (act_by v x) { n = None; status = st } in y) (ActWithVotes.doom_if v x.status (taken_along k by) _ _ (ap (λ z. z && nat_le k x.m) (ActWithVotes.live_by v x.status)))

pub aborts : (o v : Book) (cs : List Cascade) (k upto : ℕ) (why : Option Failure)
    → book.batch_aborted k upto why (book_of o v cs) ≡ book_of (orders_cascaded k (book.failed_tx why) o) v (cs ++ record { first = k; upto = upto; by = book.failed_tx why; at = v.next_c; code = book.failed_code why } ∷ [])
aborts o v cs k upto why = booked v.next_c _ o.pairs _ _ (ActWithVotes.map_orders v.acts (book.cascaded k (book.failed_tx why)) o.acts (λ x. cascaded_by k (book.failed_tx why) (act_of x.tid v.acts) x))
