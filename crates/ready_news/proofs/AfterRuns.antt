-- What is used of the ACTs and the batches before an event, and after it, holds after every run.
use Rattle.std.specs.Prelude.{◌≡◌, refl, ℕ, zero, suc, ◌+◌, ◌<◌, ◌≤◌, ◌==◌, not, Bool, true, false, ◌&&◌, is_some, Option, Some, None, List, [], ◌∷◌, length, map, find}
use Rattle.std.specs.List.{list_any, AllByRecursion}
use Rattle.std.proofs.Common.{arith, sym, ap, subst, inl, inr, ◌∙◌}
use Rattle.std.proofs.lemmas.Bool.{and_parts, eqb-true, or_cases, false≢true, or_left, or_right}
use Rattle.aml_slice.specs.Controls.{Rest}
use Rattle.snap_hand.specs.core_rows.OnRuns.{HasRun}
use Rattle.snap_base.specs.declared.transactions.State.{State}
use Rattle.snap_base.specs.declared.transactions.Tx.{Tx}
use Rattle.protocol.specs.Effects.{cell_at, log_at}
use Rattle.protocol.specs.Events.{Event}
use Rattle.protocol.specs.Facts.{Alone}
use Rattle.protocol.specs.Fixed.{Fixed, Go, IsText, base}
use Rattle.protocol.specs.History.{Ran, Stands, Gone, History, history, batches_in}
use Rattle.protocol.specs.Numbers.{from, flat, times, NumbersDrawnOnce}
use Rattle.protocol.specs.Parts.{Joined, Act, Cascade, ControlMessage, Entry, BatchEntry, ActEntry, OfBatch, OfAct, Machine}
use Rattle.protocol.specs.Rests.{HasFacts, IsRest, IsTxIn}
use Rattle.protocol.specs.Runs.{IsRun, reached}
use Rattle.protocol.specs.Words.{is_empty, is_among, holds, act_of, joined_of, acts_on, control_of, has_act, has_control_to, is_live_status, is_settled, is_aborted}
use Rattle.protocol_theorems.specs.Sets.{NumbersStand, is_ahead, StandsBehind, least_in}
use Rattle.protocol_laws.proofs.first.Drawn.{numbers_drawn_once}
use Rattle.protocol_laws.proofs.first.Lists.{all_found, both_all}
use Rattle.protocol_laws.proofs.first.SettlingKept.{batches_settle_in_order}
use Rattle.protocol_laws.proofs.first.Times
use Rattle.protocol_laws.proofs.machine.ActResults.{NoActResult}
use Rattle.protocol_laws.proofs.machine.ActsFound.{found_tid}
use Rattle.protocol_laws.proofs.machine.AllGood.{all_good, none_allowed}
use Rattle.protocol_laws.proofs.machine.Good.{Given}
use Rattle.protocol_theorems.proofs.order.NamesKept as names
use Rattle.protocol_theorems.proofs.order.NamesKept.{Named}
use Rattle.protocol_theorems.proofs.quiet.JoinsKept.{stands}
use Rattle.protocol_theorems.proofs.quiet.LeftFalls.{once_most}
use Rattle.protocol_theorems.proofs.quiet.NoControls.{InBook, Own, all_known}
use Rattle.protocol_theorems.proofs.quiet.QuietKnown.{numbered, settled_results}
use Rattle.protocol_theorems.proofs.sets.NumbersStand.{numbers_stand}
use Rattle.protocol_ready.proofs.Listing.{held}
use Rattle.protocol_records.specs.RecordLaws.{TellsOf}
use Rattle.protocol_records.specs.Logged.{is_on, has_joined, OnJoined}
use Rattle.protocol_records.proofs.crash.ActsOver.{acts_end_whole}
use Rattle.protocol_records.proofs.crash.CrashParts.{logs_hold}
use Rattle.protocol_records.proofs.recording.RecordsHold.{all_told}
use Rattle.ready_news.proofs.GivenUp.{Known}
use Rattle.ready_news.proofs.OffActors.{off_actors}

-- ---- who has an after number stands on an actor

-- who is ahead of a batch there is on the actor
ahead_on : (t k : ℕ) (rs : List Ran) → is_ahead t k rs ≡ true → is_on (OfAct t) rs ≡ true
ahead_on t k [] h = absurd (false≢true h)
ahead_on t k (Stands (OfBatch j) c ss ∷ rs) h = ahead_on t k rs h
ahead_on t k (Stands (OfAct u) c ss ∷ rs) h =
    elim (or_cases ((u == t) && is_among k (batches_in rs)) (is_ahead t k rs) h) [
      | inl a ↦ or_left (u == t) (is_on (OfAct t) rs) (and_parts (u == t) (is_among k (batches_in rs)) a).0
      | inr b ↦ or_right (u == t) (is_on (OfAct t) rs) (ahead_on t k rs b)
    ]
ahead_on t k (Gone y ss ∷ rs) h = or_right _ (is_on (OfAct t) rs) (ahead_on t k rs h)

some_place : (test : Joined → Bool) (ps : List Joined) → list_any test ps ≡ true → is_empty ps ≡ false
some_place test [] g = absurd (false≢true g)
some_place test (p ∷ ps) g = refl

none_some : (j : ℕ) → None ≡ Some j → ⊥
none_some j e = cc e

some_behind : (cs : List Cascade) (long : ℕ → List Ran) (t j : ℕ) (n : Option ℕ) (ks : List ℕ) → n ≡ least_in ks → AllByRecursion (StandsBehind cs long t) ks → n ≡ Some j → (a : ℕ) × (is_on (OfAct t) (long a) ≡ true)
some_behind cs long t j n [] e h g = absurd (none_some j (sym e ∙ g))
some_behind cs long t j n (k ∷ ks) e h g = (h.0.1.0, ahead_on t k (long h.0.1.0) h.0.1.1)

placed : (a : ℕ) (o : Option Act) (x : Act) → o ≡ Some x → holds (has_joined a) o ≡ true → is_empty x.places ≡ false
placed a o x e h = some_place (λ p. p.actor == a) x.places (subst (λ z. holds (has_joined a) z ≡ true) e h)

module _ (w : Fixed Rest) (finish : Rest → List State → Alone) (s : Machine Rest) (h : History) (numbers : NumbersStand w finish s h) (joined : OnJoined s h) where
  pub numbered_known : (t j : ℕ) (x : Act) → act_of t s.book.acts ≡ Some x → is_live_status x.status ≡ true → x.n ≡ Some j → (x.m < j) × (is_empty x.places ≡ false)
  unfolding OnJoined
  numbered_known t j x found live e =
      let least = numbers.after_is_least t x found live in
      let on = some_behind s.book.cascades h.long x.tid j x.n (h.behind x.tid) least.0 least.1 e in
      let tid : x.tid ≡ t = found_tid t x s.book.acts found in
      let place : holds (has_joined on.0) (act_of t s.book.acts) ≡ true = subst (λ u. holds (has_joined on.0) (act_of u s.book.acts) ≡ true) tid (joined x.tid on.0 on.1) in
      (numbers.before_below_after t j x found live e, placed on.0 (act_of t s.book.acts) x found place)

-- ---- an ACT's control is its own

-- the transaction of a control that is an ACT's is that ACT
abbrev pub IsOwn : ControlMessage Rest → Type 0
IsOwn m = (u : ℕ) → m.who ≡ OfAct u → u ≡ m.tid

batch_is_none : (k u : ℕ) → OfAct u ≡ OfBatch k → ⊥
batch_is_none k u e = cc e

act_is : (t u : ℕ) → OfAct u ≡ OfAct t → u ≡ t
act_is t u e = cc e

own : (s : Machine Rest) (h : History) (m : ControlMessage Rest) → Named s h → InBook s m.tid (Go m.to m.control) → m.who ≡ h.owners m.tid → IsOwn m
own s h m n (inl p) o u e = absurd (batch_is_none p.0 u (sym e ∙ (o ∙ names.batch_owns s.ring.next_tid p.0 m.tid h.owners h.trails s.desk.batches n.pacts p.1)))
own s h m n (inr p) o u e = act_is m.tid u (sym e ∙ (o ∙ (names.act_owns s.ring.next_tid m.tid h.owners h.trails (λ x. true) s.book.acts (there (act_of m.tid s.book.acts) p) n.acts).1))
  where
    there : (y : Option Act) → is_some y ≡ true → holds (λ x. true) y ≡ true
    there None g = g
    there (Some x) g = refl

-- ---- an ACT whose control is on its way has no result

unended : (s : Machine Rest) → AllByRecursion (λ m. NoActResult m.tid s.book.acts) s.post.controls → (t a : ℕ) → has_control_to t a s.post.controls ≡ true → holds (λ x. is_some x.result) (act_of t s.book.acts) ≡ true → ⊥
unended s none t a h g =
    let m = held (λ m. m.to == a) (control_of t s.post.controls) h in
    let own = all_found (λ m. NoActResult m.tid s.book.acts) (λ m. m.tid == t) s.post.controls m.it none m.is in
    let x = held (λ x. is_some x.result) (act_of t s.book.acts) g in
    false≢true (sym (ap is_some (own.0 t x.it x.is (sym (eqb-true m.it.tid t own.1)))) ∙ x.does)

-- ---- all of it

pub record Holding (w : Fixed Rest) (s : Machine Rest) : Type 0 where
  pub known : Known s.book.acts
  -- who is on an actor's schedule joined an actor
  pub stand : (a t : ℕ) (x : Act) → has_act t (cell_at s a).entries ≡ true → act_of t s.book.acts ≡ Some x → is_empty x.places ≡ false
  -- a batch that has settled has all results
  pub results : AllByRecursion (λ b. is_settled b.stage ≡ true → AllByRecursion (λ p. is_some p.result ≡ true) b.pacts) s.desk.batches
  pub bids : map (λ b. b.bid) s.desk.batches ≡ from w.text.opening.next_bid (length s.desk.batches)
  pub next_bid : s.ring.next_bid ≡ w.text.opening.next_bid + length s.desk.batches
  pub first_bid : 1 ≤ w.text.opening.next_bid
  -- who joined no actor has the before number that all begin with
  pub low : (t : ℕ) (x : Act) → act_of t s.book.acts ≡ Some x → is_empty x.places ≡ true → x.m ≡ base w.text
  pub own : AllByRecursion IsOwn s.post.controls
  pub none : (t a : ℕ) → has_control_to t a s.post.controls ≡ true → holds (λ x. is_some x.result) (act_of t s.book.acts) ≡ true → ⊥
  -- a batch is marked aborted where a cascade covers it, and records are of batches that are there
  pub marked : AllByRecursion (λ b. b.aborted ≡ is_aborted b.bid s.book.cascades) s.desk.batches
  pub told : (l : ℕ) → AllByRecursion (TellsOf s.desk.batches s.book.acts) (log_at s l).records

all_more : {X : Type 0} {P Q : X → Type 0} → ((x : X) → P x → Q x) → (xs : List X) → AllByRecursion P xs → AllByRecursion Q xs
all_more f [] h = tt
all_more f (x ∷ xs) h = (f x h.0, all_more f xs h.1)

acts_once : (w : Fixed Rest) (s : Machine Rest) → NumbersDrawnOnce w s → (t : ℕ) → times t (map (λ x. x.tid) s.book.acts) ≤ 1
acts_once w s d t = omega (arith, d.tids t, Times.times_append t (flat (map (λ b. map (λ p. p.tid) b.pacts) s.desk.batches)) (map (λ x. x.tid) s.book.acts), once_most w.text.opening.next_tid s.ring.next_tid t)

joined_place : (a : ℕ) (x : Act) (ps : List Joined) → holds (λ p. not p.finished) (find (λ p. p.actor == a) ps) ≡ true → is_empty ps ≡ false
joined_place a x [] h = absurd (false≢true h)
joined_place a x (p ∷ ps) h = refl

stood : (a : ℕ) (o : Option Act) (x : Act) → o ≡ Some x → holds (λ x. holds (λ p. not p.finished) (joined_of a x)) o ≡ true → is_empty x.places ≡ false
stood a o x e h = joined_place a x x.places (subst (λ z. holds (λ x. holds (λ p. not p.finished) (joined_of a x)) z ≡ true) e h)

known_at : (w : Fixed Rest) (finish : Rest → List State → Alone) (es : List Event) → HasFacts w finish → IsText w.text → IsRun w es → Known (reached w es).book.acts
known_at w finish es f v run = record {
  once = acts_once w (reached w es) (numbers_drawn_once w es v run);
  ends = acts_end_whole w finish es f v run;
  numbers = by es run (length w.text.opening.states) refl;
}
  where
    Of : Tx → Rest → Type 0
    Of = IsRest w.code (IsTxIn w.text)

    by : (es : List Event) → IsRun w es → (n : ℕ) → length w.text.opening.states ≡ n → (t j : ℕ) (x : Act) → act_of t (reached w es).book.acts ≡ Some x → is_live_status x.status ≡ true → x.n ≡ Some j → (x.m < j) × (is_empty x.places ≡ false)
    by es run (suc n) l =
        let g : Given w Of finish = record { text = v; actors = omega (arith, l); facts = f } in
        numbered_known w finish (reached w es) (history w es) (numbers_stand w finish es f v run) (logs_hold w Of finish es g run).joined
    by [] run zero l = λ t j x e. absurd (cc e)
    by (e ∷ es) run zero l = absurd (none_allowed w e v l run.0)

stand_at : (w : Fixed Rest) (finish : Rest → List State → Alone) (es : List Event) → HasFacts w finish → IsText w.text → IsRun w es → (a t : ℕ) (x : Act) → has_act t (cell_at (reached w es) a).entries ≡ true → act_of t (reached w es).book.acts ≡ Some x → is_empty x.places ≡ false
stand_at w finish es f v run = by es run (length w.text.opening.states) refl
  where
    Of : Tx → Rest → Type 0
    Of = IsRest w.code (IsTxIn w.text)

    by : (es : List Event) → IsRun w es → (n : ℕ) → length w.text.opening.states ≡ n → (a t : ℕ) (x : Act) → has_act t (cell_at (reached w es) a).entries ≡ true → act_of t (reached w es).book.acts ≡ Some x → is_empty x.places ≡ false
    by es run (suc n) l a t x on e =
        let g : Given w Of finish = record { text = v; actors = omega (arith, l); facts = f } in
        stood a (act_of t (reached w es).book.acts) x e (stands (reached w es) (all_good w Of finish es g run).opened t a on)
    by [] run zero l a t x on e = absurd (cc e)
    by (e ∷ es) run zero l a t x on i = absurd (none_allowed w e v l run.0)

own_at : (w : Fixed Rest) (finish : Rest → List State → Alone) (es : List Event) → HasFacts w finish → IsText w.text → IsRun w es → AllByRecursion IsOwn (reached w es).post.controls
unfolding Own
own_at w finish es f v run = by es run (length w.text.opening.states) refl
  where
    Of : Tx → Rest → Type 0
    Of = IsRest w.code (IsTxIn w.text)

    by : (es : List Event) → IsRun w es → (n : ℕ) → length w.text.opening.states ≡ n → AllByRecursion IsOwn (reached w es).post.controls
    by es run (suc n) l =
        let s = reached w es in
        let h = history w es in
        let i = all_known w Of finish es (record { text = v; actors = omega (arith, l); facts = f }) run in
        both_all (λ m. InBook s m.tid (Go m.to m.control)) (λ m. m.who ≡ h.owners m.tid) IsOwn s.post.controls (λ m b o. own s h m i.held.whole.ordered.named b o) i.in_desk.posted i.own
    by [] run zero l = tt
    by (e ∷ es) run zero l = absurd (none_allowed w e v l run.0)

none_at : (w : Fixed Rest) (finish : Rest → List State → Alone) (es : List Event) → HasFacts w finish → IsText w.text → IsRun w es → AllByRecursion (λ m. NoActResult m.tid (reached w es).book.acts) (reached w es).post.controls
none_at w finish es f v run = by es run (length w.text.opening.states) refl
  where
    Of : Tx → Rest → Type 0
    Of = IsRest w.code (IsTxIn w.text)

    by : (es : List Event) → IsRun w es → (n : ℕ) → length w.text.opening.states ≡ n → AllByRecursion (λ m. NoActResult m.tid (reached w es).book.acts) (reached w es).post.controls
    by es run (suc n) l = (all_good w Of finish es (record { text = v; actors = omega (arith, l); facts = f }) run).none.posted
    by [] run zero l = tt
    by (e ∷ es) run zero l = absurd (none_allowed w e v l run.0)

holding_at : (w : Fixed Rest) (finish : Rest → List State → Alone) (es : List Event) → HasFacts w finish → IsText w.text → IsRun w es → Holding w (reached w es)
holding_at w finish es f v run = record {
  known = known_at w finish es f v run;
  stand = stand_at w finish es f v run;
  results = all_more (λ b e. settled_results w es run b.bid b e) (reached w es).desk.batches (numbered w (reached w es) (numbers_drawn_once w es v run)).batches;
  bids = (numbers_drawn_once w es v run).bids;
  next_bid = (numbers_drawn_once w es v run).next_bid;
  first_bid = v.bids;
  low = off_actors w es run;
  own = own_at w finish es f v run;
  none = unended (reached w es) (none_at w finish es f v run);
  marked = (batches_settle_in_order w es v run).marked;
  told = all_told {C = Rest} w finish es f v run;
}

pub holding : (w : Fixed Rest) (s : Machine Rest) → HasRun w s → Holding w s
holding w s r = subst (Holding w) (sym r.is_reached) (holding_at w r.finish r.events r.facts r.text r.run)

-- ---- who is on the schedule

pub on_schedule : (t : ℕ) (es : List Entry) → is_among t (map (λ x. x.tid) (acts_on es)) ≡ true → has_act t es ≡ true
on_schedule t [] h = h
on_schedule t (BatchEntry b ∷ es) h = on_schedule t es h
on_schedule t (ActEntry x ∷ es) h =
    elim (or_cases (x.tid == t) (is_among t (map (λ x. x.tid) (acts_on es))) h) [
      | inl a ↦ or_left (x.tid == t) (has_act t es) a
      | inr b ↦ or_right (x.tid == t) (has_act t es) (on_schedule t es b)
    ]
