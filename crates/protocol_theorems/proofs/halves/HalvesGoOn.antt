-- The halves of the book go on as the halves of the book after each event, over every run.
use Rattle.std.specs.Prelude.{◌≡◌, refl, ℕ, zero, suc, ◌≤◌, ◌==◌, Bool, true, false, not, ◌&&◌, ◌||◌, Option, Some, None, is_some, List, [], ◌∷◌, length, map, find}
use Rattle.std.proofs.Common.{arith, sym, ap, subst, ◌∙◌}
use Rattle.std.proofs.lemmas.Bool.{true≢false, eqb-true, and_parts, or_parts}
use Rattle.snap_base.specs.declared.transactions.State.{State}
use Rattle.snap_base.specs.declared.transactions.Tx.{Tx}
use Rattle.snap_base.proofs.Options.{none_mapped, pair_mapped}
use Rattle.protocol.specs.Fixed.{Fixed, Next, Go, Ended, base, is_reader}
use Rattle.protocol.specs.Facts.{Alone}
use Rattle.protocol.specs.Rests.{IsRest, IsTxIn}
use Rattle.protocol.specs.Laws.{AfterEveryRunWithHistory}
use Rattle.protocol.specs.Parts.{Joined, Act, Cascade, Book, Outcome, Machine}
use Rattle.protocol.specs.Events.{Event, Admit, Arrive, Ask, End, Abort, Prepare, Vouch, Decide, Seal, Finish}
use Rattle.protocol.specs.Words.{holds, act_of, joined_of, has_act, outcome_of, is_value, is_live_act, is_live_status, is_doomed, is_decided, is_ended, lock_of, floor_at}
use Rattle.protocol.specs.Conditions.{IsAllowed, conditions}
use Rattle.protocol.specs.Effects.{after, cell_at, no_cell}
use Rattle.protocol.specs.Runs.{IsRun, reached}
use Rattle.protocol.specs.History.{History, history}
use Rattle.protocol.specs.Numbers.{times, one_if}
use Rattle.protocol.specs.OnPost.{next_act}
use Rattle.protocol.specs.OnBook as book
use Rattle.protocol.specs.BookParts.{book_of, act_by, place_by, result_by, has_place, orders_cascaded}
use Rattle.protocol_laws.specs.OneWay.{actors_of}
use Rattle.protocol_theorems.specs.BookFits.{BookFits, IsOfHalves, IsOrder, IsVotedBy, HalvesMeet, HalvesGoOn, actors_at, orders_after, votes_after, votes_ended, votes_for}
use Rattle.protocol_laws.proofs.first.Lists.{all_found, all_join}
use Rattle.protocol_laws.proofs.first.Times
use Rattle.protocol_laws.proofs.machine.TracksKept.{held}
use Rattle.protocol_laws.proofs.machine.TurnsKept.{one_is}
use Rattle.protocol_laws.proofs.machine.ActResults as results
use Rattle.protocol_laws.proofs.machine.ActsKept.{Acts}
use Rattle.protocol_laws.proofs.machine.AllGood.{AllGood, all_good, none_allowed}
use Rattle.protocol_theorems.proofs.quiet.JoinsKept as joins
use Rattle.protocol_theorems.proofs.halves.ActWithVotes
use Rattle.protocol_theorems.proofs.halves.VotedActs as voted
use Rattle.protocol_theorems.proofs.halves.BookEquations as equations
use Rattle.protocol_theorems.proofs.halves.OrdersFit.{OrdersFit, Known, known_on}
use Rattle.protocol_theorems.proofs.halves.FitsKept as fits
use Rattle.protocol_theorems.proofs.halves.HalvesAsked as asked
use Rattle.protocol_laws.proofs.first.Statuses.{value_some}

-- ---- what the events make of them

whole : (b o v : Book) (cs : List Cascade) → b ≡ book_of o v cs → BookFits o v → IsOfHalves b o v
whole b o v cs e f = record { is = e ∙ ap (book_of o v) (sym (ap (λ z. z.cascades) e)); fits = f }

-- only orders change, or only votes
order_fits : (o v : Book) (xs : List Act) → BookFits o v → OrdersFit v.acts xs → map (λ x. x.tid) xs ≡ map (λ x. x.tid) o.acts → (p : Book) → p.acts ≡ xs → BookFits p v
order_fits o v xs f g e p q = fits.fits_of p v (subst (OrdersFit v.acts) (sym q) g) (subst (λ z. Known z v.acts) (sym q) (known_on o.acts xs v.acts e f.known))

ended_fits : {C : Type 0} (o v : Book) (t : ℕ) (z : Act) → act_of t o.acts ≡ Some z → act_of t v.acts ≡ None → BookFits o v → (x : Next C) → BookFits o (votes_for t (actors_of z.places) x v)
ended_fits o v t z e n f (Go b control) = f
ended_fits o v t z e n f (Ended r) = fits.fits_of o _ (fits.ends t r v.acts o.acts z e n (fits.orders_of o v f))
    (all_join (λ y. is_some (act_of y.tid o.acts) ≡ true) v.acts _ f.known (ap is_some e, tt))

end_fits : {C : Type 0} (o v : Book) (t : ℕ) (b : Bool) (x : Option (Outcome C)) → (b ≡ true → (is_some (act_of t o.acts) ≡ true) × (act_of t v.acts ≡ None)) → BookFits o v → BookFits o (votes_ended t b (actors_at (act_of t o.acts)) x v)
end_fits o v t false x m f = f
end_fits o v t true None m f = f
end_fits {C} o v t true (Some x) m f = by (act_of t o.acts) refl (m refl).0
  where
    by : (z : Option Act) → act_of t o.acts ≡ z → is_some z ≡ true → BookFits o (votes_for t (actors_at z) x.next v)
    by None e h = absurd (true≢false (sym h))
    by (Some z) e h = ended_fits o v t z e (m refl).1 f x.next

pub step : {C : Type 0} (w : Fixed C) (e : Event) (s : Machine C) (o v : Book) → IsOfHalves s.book o v → HalvesMeet e s o v → IsOfHalves (after w e s).book (orders_after w e s o) (votes_after e s o v)
unfolding after
step w (Admit t) s o v i m = whole _ _ _ s.book.cascades
    (ap (book.act_admitted t (next_act s.ring) (is_reader w (next_act s.ring)) (base w.text)) i.is ∙ equations.admits o v s.book.cascades t (next_act s.ring) (is_reader w (next_act s.ring)) (base w.text) m.1)
    (fits.fits_of (book.act_admitted t (next_act s.ring) (is_reader w (next_act s.ring)) (base w.text) o) v (fits.admits v.acts o.acts t (next_act s.ring) (is_reader w (next_act s.ring)) (base w.text) m.0 m.1 (fits.orders_of o v i.fits)) (fits.known_more o.acts v.acts _ i.fits.known))
step w (Arrive k a) s o v i m =
    let tids = book.tids_on (cell_at s a).entries in
    whole _ _ _ s.book.cascades (ap (book.batch_arrived k a tids) i.is ∙ equations.arrives o v s.book.cascades k a tids)
    (order_fits o v (book.batch_arrived k a tids o).acts i.fits (fits.arrives v.acts o.acts k a tids (fits.orders_of o v i.fits)) (fits.arrived_tids k a tids o.acts) (book.batch_arrived k a tids o) refl)
step w (Ask t a) s o v i m =
    let older = book.in_the_way (lock_of t s.book.acts) (cell_at s a).entries in
    let group = book.met (lock_of t s.book.acts) (cell_at s a).entries in
    let low = Rattle.std.specs.Prelude.max (cell_at s a).last (floor_at t s.book.acts (cell_at s a)) in
    whole _ _ _ s.book.cascades (ap (book.act_asked older group t a low) i.is ∙ equations.asks o v s.book.cascades older group t a low m.1)
    (order_fits o v (book.asked_acts older group t a low o) i.fits (fits.asks v.acts o.acts o.pairs older group t a low m.0 m.1 (fits.orders_of o v i.fits) o refl) (fits.asked_tids older group t a low o) (book.act_asked older group t a low o) refl)
step w (End t a) s o v i m =
    let x = outcome_of t (cell_at s a).outbox in
    let b = has_act t (cell_at s a).entries in
    whole _ _ _ s.book.cascades (ap (book.act_ended t b x) i.is ∙ equations.ends o v s.book.cascades t b (actors_at (act_of t o.acts)) x i.fits.bare (λ q. (m q).1)) (end_fits o v t b x m i.fits)
step w (Abort k) s o v i m =
    whole _ _ _ _ (ap (book.batch_aborted k _ (book.why k s.desk)) i.is ∙ equations.aborts o v s.book.cascades k _ (book.why k s.desk))
    (order_fits o v (orders_cascaded k (book.failed_tx (book.why k s.desk)) o).acts i.fits (fits.cascades v.acts o.acts k (book.failed_tx (book.why k s.desk)) (fits.orders_of o v i.fits)) (fits.cascaded_tids k (book.failed_tx (book.why k s.desk)) o.acts) (orders_cascaded k (book.failed_tx (book.why k s.desk)) o) refl)
step w (Prepare t a) s o v i m = whole _ _ _ s.book.cascades (ap (book.act_prepared t a) i.is ∙ equations.prepares o v s.book.cascades t a m i.fits.voted)
    (fits.fits_of o (book.act_prepared t a v) (fits.votes t a book.is_prepared voted.prepares v.acts o.acts (fits.orders_of o v i.fits)) (fits.known_act o.acts v.acts t (book.marked a book.is_prepared) (λ y. refl) i.fits.known))
step w (Vouch t a) s o v i m = whole _ _ _ s.book.cascades (ap (book.act_vouched t a) i.is ∙ equations.vouches o v s.book.cascades t a m i.fits.voted)
    (fits.fits_of o (book.act_vouched t a v) (fits.votes t a book.is_vouched voted.vouches v.acts o.acts (fits.orders_of o v i.fits)) (fits.known_act o.acts v.acts t (book.marked a book.is_vouched) (λ y. refl) i.fits.known))
step w (Decide t) s o v i m =
    let l = fits.live_at t v.acts o.acts m.0 m.1 (fits.orders_of o v i.fits) in
    whole _ _ _ s.book.cascades (ap (book.act_decided t) i.is ∙ equations.decides o v s.book.cascades t l)
    (fits.fits_of (has_place t o) (book.act_decided t v) (fits.decides t v.next_c v.acts o.acts l (fits.orders_of o v i.fits))
    (known_on o.acts (has_place t o).acts (book.act_decided t v).acts (fits.changed_tids t (book.decided_as 0) (λ x. refl) o.acts) (fits.known_act o.acts v.acts t (book.decided_as v.next_c) (λ y. refl) i.fits.known)))
step w (Seal t) s o v i m = whole _ _ _ s.book.cascades (ap (book.act_sealed t) i.is ∙ equations.seals o v s.book.cascades t i.fits.bare i.fits.voted)
    (fits.fits_of o (book.act_sealed t v) (fits.seals t v.acts o.acts (fits.orders_of o v i.fits)) (fits.known_act o.acts v.acts t book.sealed (λ y. refl) i.fits.known))
step w (Finish t a) s o v i m = whole _ _ _ s.book.cascades (ap (book.act_finished t a) i.is ∙ equations.finishes o v s.book.cascades t a)
    (order_fits o v (book.act_finished t a o).acts i.fits (fits.finishes v.acts o.acts t a (fits.orders_of o v i.fits)) (fits.changed_tids t (book.marked a book.has_left) (λ x. refl) o.acts) (book.act_finished t a o) refl)
step w e s o v i m = record { is = i.is; fits = i.fits }

-- ---- what an allowed event finds in them

-- one of the book is one of the orders, with its votes
pub record Halved (o v : Book) (t : ℕ) (x : Act) : Type 0 where
  pub order : Act
  pub found : act_of t o.acts ≡ Some order
  pub is : act_by (act_of t v.acts) order ≡ x
  pub bare : IsOrder order
  pub votes : IsVotedBy (act_of t v.acts) order

pub halved : (b o v : Book) (t : ℕ) (x : Act) → IsOfHalves b o v → act_of t b.acts ≡ Some x → Halved o v t x
halved b o v t x i e =
    let q = pair_mapped (act_by (act_of t v.acts)) (act_of t o.acts) x (sym (ap (λ z. act_of t z.acts) i.is ∙ ActWithVotes.found_by v.acts t o.acts) ∙ e) in
    let d = all_found IsOrder (λ x. x.tid == t) o.acts q.0 i.fits.bare q.1.0 in
    let u = all_found (λ x. IsVotedBy (act_of x.tid v.acts) x) (λ x. x.tid == t) o.acts q.0 i.fits.voted q.1.0 in
    record { order = q.0; found = q.1.0; is = q.1.1; bare = d.0; votes = subst (λ n. IsVotedBy (act_of n v.acts) q.0) (eqb-true q.0.tid t d.1) u.0 }

-- who has no result has no votes, and who has one has
no_votes : (v : Option Act) (x : Act) → IsVotedBy v x → result_by v ≡ None → v ≡ None
no_votes None x h e = refl
no_votes (Some y) x h e = absurd (true≢false (sym h.ended ∙ ap is_some e))

some_votes : (v : Option Act) → is_some (result_by v) ≡ true → is_some v ≡ true
some_votes None e = e
some_votes (Some y) e = refl

unended : {C : Type 0} (s : Machine C) (o v : Book) (t : ℕ) (x : Act) → IsOfHalves s.book o v → act_of t s.book.acts ≡ Some x → results.NoActResult t s.book.acts → act_of t v.acts ≡ None
unended s o v t x i e n = let g = halved s.book o v t x i e in no_votes (act_of t v.acts) g.order g.votes (ap (λ z. z.result) g.is ∙ n t x e refl)

has_ended : (b o v : Book) (t : ℕ) (x : Act) → IsOfHalves b o v → act_of t b.acts ≡ Some x → is_some x.result ≡ true → is_some (act_of t v.acts) ≡ true
has_ended b o v t x i e h = let g = halved b o v t x i e in some_votes (act_of t v.acts) (ap (λ z. is_some z.result) g.is ∙ h)

-- a tid that is above all that were drawn
undrawn : {C : Type 0} (s : Machine C) (h : History) (t : ℕ) → Acts s h → s.ring.next_tid ≤ t → act_of t s.book.acts ≡ None
unfolding Acts
undrawn s h t g l = by (act_of t s.book.acts) refl
  where
    by : (z : Option Act) → act_of t s.book.acts ≡ z → z ≡ None
    by None e = refl
    by (Some x) e = absurd (omega (arith, (g t x e).drawn, l))

unknown : (o v : Book) (t : ℕ) → BookFits o v → act_of t o.acts ≡ None → act_of t v.acts ≡ None
unknown o v t f e = by (act_of t v.acts) refl
  where
    by : (z : Option Act) → act_of t v.acts ≡ z → z ≡ None
    by None q = refl
    by (Some y) q = let g = all_found (λ y. is_some (act_of y.tid o.acts) ≡ true) (λ y. y.tid == t) v.acts y f.known q in
        absurd (true≢false (sym g.0 ∙ (ap (λ n. is_some (act_of n o.acts)) (eqb-true y.tid t g.1) ∙ ap is_some e)))

-- it has not joined the actor
actors_by : (v : Option Act) (ps : List Joined) → actors_of (map (place_by v) ps) ≡ actors_of ps
actors_by v [] = refl
actors_by v (p ∷ ps) = ActWithVotes.cons_eq _ _ _ _ (ActWithVotes.place_actor v p) (actors_by v ps)

unjoined : (a : ℕ) (ps : List Joined) → times a (actors_of ps) ≡ 0 → find (λ p. p.actor == a) ps ≡ None
unjoined a [] h = refl
unjoined a (p ∷ ps) h = by (p.actor == a) refl (unjoined a ps)
  where
    by : (b : Bool) → (p.actor == a) ≡ b → (times a (actors_of ps) ≡ 0 → find (λ p. p.actor == a) ps ≡ None) → (Rattle.std.specs.Prelude.cond b (Some p) (find (λ p. p.actor == a) ps)) ≡ None
    by true e k = absurd (omega (arith, h, Times.times_cons a p.actor (actors_of ps), ap one_if e))
    by false e k = k (omega (arith, h, Times.times_cons a p.actor (actors_of ps)))

-- who is prepared somewhere has votes
prepared_votes : (a : ℕ) (v : Option Act) (x : Act) → IsOrder x → holds (λ p. p.prepared && not p.vouched) (joined_of a (act_by v x)) ≡ true → is_some v ≡ true
prepared_votes a (Some y) x g h = refl
prepared_votes a None x g h =
    let p = one_is (λ p. p.prepared && not p.vouched) (find (λ p. p.actor == a) x.places) (subst (λ ps. holds (λ p. p.prepared && not p.vouched) (find (λ p. p.actor == a) ps) ≡ true) (ActWithVotes.places_none x.places) h) in
    let q = all_found (λ p. (p.prepared || p.vouched) ≡ false) (λ p. p.actor == a) x.places p.0 g.unvoted p.1 in
    absurd (true≢false (sym (and_parts p.0.prepared (not p.0.vouched) p.2).0 ∙ (or_parts p.0.prepared p.0.vouched q.0).0))

pub meets : {C : Type 0} (w : Fixed C) (Of : Tx → C → Type 0) (finish : C → List State → Alone) (e : Event) (s : Machine C) (h : History) → IsAllowed w e s → AllGood w Of finish s h → (o v : Book) → IsOfHalves s.book o v → HalvesMeet e s o v
unfolding conditions
meets w Of finish (Admit t) s h ok g o v i =
    let e : act_of t s.book.acts ≡ None = undrawn s h t g.acts (omega (arith, eqb-true t s.ring.next_tid ok.0)) in
    let f : act_of t o.acts ≡ None = none_mapped (act_by (act_of t v.acts)) (act_of t o.acts) (sym (ap (λ z. act_of t z.acts) i.is ∙ ActWithVotes.found_by v.acts t o.acts) ∙ e) in
    (f, unknown o v t i.fits f)
meets w Of finish (Ask t a) s h ok g o v i =
    let x = one_is (λ x. not (is_doomed x.status)) (act_of t s.book.acts) ok.1.0 in
    let new = joins.asks_new w t a s h ok g.none g.acts g.left g.standing x.0 x.1 in
    let d = halved s.book o v t x.0 i x.1 in
    let none : times a (actors_of d.order.places) ≡ 0 = ap (times a) (sym (actors_by (act_of t v.acts) d.order.places) ∙ ap (λ z. actors_of z.places) d.is) ∙ new in
    ((λ y f. let same : Some d.order ≡ Some y = sym d.found ∙ f in let q : d.order ≡ y = cc same in subst (λ z. joined_of a z ≡ None) q (unjoined a d.order.places none)), unended s o v t x.0 i x.1 (results.posted_none t a s ok.0 g.none))
meets w Of finish (End t a) s h ok g o v i = λ q.
    let x = one_is _ (act_of t s.book.acts) (joins.stands s g.opened t a q) in
    let d = halved s.book o v t x.0 i x.1 in
    (ap is_some d.found, unended s o v t x.0 i x.1 (results.outcome_none (λ x. is_ended x.next) t a s (held (λ c. holds (λ x. is_ended x.next) (outcome_of t c.outbox)) s.cells a no_cell ok.0) g.none))
meets w Of finish (Prepare t a) s h ok g o v i =
    let x = one_is (λ x. is_value x.result && not (is_doomed x.status)) (act_of t s.book.acts) ok.0 in
    has_ended s.book o v t x.0 i x.1 (value_some x.0.result (and_parts (is_value x.0.result) (not (is_doomed x.0.status)) x.2).0)
meets w Of finish (Vouch t a) s h ok g o v i =
    let x = one_is (λ x. is_live_act x && (not (is_doomed x.status) && holds (λ p. p.prepared && not p.vouched) (joined_of a x))) (act_of t s.book.acts) ok.0 in
    let p = (and_parts (not (is_doomed x.0.status)) _ (and_parts (is_live_act x.0) _ x.2).1).1 in
    let d = halved s.book o v t x.0 i x.1 in
    prepared_votes a (act_of t v.acts) d.order d.bare (subst (λ z. holds (λ p. p.prepared && not p.vouched) (joined_of a z) ≡ true) (sym d.is) p)
meets w Of finish (Decide t) s h ok g o v i =
    let x = one_is (λ x. is_some x.result && is_live_status x.status) (act_of t s.book.acts) ok.0 in
    let p = and_parts (is_some x.0.result) (is_live_status x.0.status) x.2 in
    let d = halved s.book o v t x.0 i x.1 in
    (has_ended s.book o v t x.0 i x.1 p.0, ap (holds (λ x. is_live_status x.status)) d.found ∙ (sym (ActWithVotes.live_by (act_of t v.acts) d.order.status) ∙ (ap (λ z. is_live_status z.status) d.is ∙ p.1)))
meets w Of finish (Seal t) s h ok g o v i =
    let x = one_is (λ x. is_decided x.status) (act_of t s.book.acts) ok.0 in
    let d = halved s.book o v t x.0 i x.1 in
    sym (asked.decided_by (act_of t v.acts) d.order d.votes) ∙ (ap (λ z. is_decided z.status) d.is ∙ x.2)
meets w Of finish e s h ok g o v i = tt

pub halves_go_on : {C : Type 0} → AfterEveryRunWithHistory (HalvesGoOn {C = C})
halves_go_on {C} w finish es f t run = by es run (length w.text.opening.states) refl
  where
    by : (es : List Event) → IsRun w es → (n : ℕ) → length w.text.opening.states ≡ n → HalvesGoOn w finish (reached w es) (history w es)
    by es run (suc n) l = λ e o v ok i.
        let m = meets w (IsRest w.code (IsTxIn w.text)) finish e (reached w es) (history w es) ok (all_good w (IsRest w.code (IsTxIn w.text)) finish es (record { text = t; actors = omega (arith, l); facts = f }) run) o v i in
        (m, step w e (reached w es) o v i m)
    by [] run zero l = λ e o v ok i. absurd (none_allowed w e t l ok)
    by (e ∷ es) run zero l = absurd (none_allowed w e t l run.0)
