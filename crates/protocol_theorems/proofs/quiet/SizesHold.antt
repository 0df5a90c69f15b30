-- How many of each there are, and how far numbers are.
use Rattle.std.specs.Prelude.{◌≡◌, refl, ℕ, zero, suc, ◌+◌, ◌%◌, ◌<◌, ◌≤◌, ◌==◌, Bool, true, false, ◌&&◌, if◌then◌else◌, Some, is_some, List, [], ◌∷◌, ◌++◌, length, take, replicate}
use Rattle.std.specs.List.{AllByRecursion}
use Rattle.std.proofs.Common.{arith, sym, ap, subst, inl, inr, ◌∙◌}
use Rattle.std.proofs.lemmas.Bool.{true≢false, and_parts, eqb-true}
use Rattle.std.proofs.lemmas.List.{length-replicate}
use Rattle.std.proofs.Math.Nat.{mod-lt}
use Rattle.protocol.specs.Fixed.{Fixed, IsText, is_pact, tx_at}
use Rattle.protocol.specs.Laws.{AfterEveryRun}
use Rattle.protocol.specs.Parts.{Status, Live, Doomed, Decided, Sealed, Act, Cascade, Machine}
use Rattle.protocol.specs.Words.{count, is_value, is_live_status, is_ordered, act_of}
use Rattle.protocol.specs.Numbers.{one_if}
use Rattle.protocol.specs.Contents.{NextTid, ActTids}
use Rattle.protocol.specs.Events.{Event, Submit, Pass, Form, Admit, Abort, Decide}
use Rattle.protocol.specs.Conditions.{IsAllowed, conditions, queue}
use Rattle.protocol.specs.Effects.{after}
use Rattle.protocol.specs.Runs.{opening, new_cell, reached}
use Rattle.protocol.specs.OnRing as ring
use Rattle.protocol.specs.OnBook as book
use Rattle.protocol.specs.Settling.{CascadesAscend}
use Rattle.protocol_laws.specs.OneWay.{EachBecame, StatusWent, ActWent}
use Rattle.protocol.specs.Left.{total}
use Rattle.protocol_theorems.specs.Sizes.{SizesHold}
use Rattle.protocol_laws.proofs.first.Along.{along}
use Rattle.protocol_laws.proofs.first.Frames.{frame}
use Rattle.protocol_laws.proofs.first.Drawn.{length_numbered}
use Rattle.protocol_laws.proofs.first.Leaves.{logs_stay}
use Rattle.protocol_laws.proofs.first.EpochsKept as epochs
use Rattle.protocol_laws.proofs.first.SettlingKept as settling
use Rattle.protocol_laws.proofs.first.OneWayActs.{acts_went}
use Rattle.protocol_laws.proofs.first.Times
use Rattle.protocol_laws.proofs.machine.TurnsKept.{one_is}
use Rattle.protocol_theorems.proofs.quiet.LeftRing.{joined_most, left_falls, some_taken}
use Rattle.protocol_theorems.proofs.quiet.QuietKnown as known
use Rattle.protocol_theorems.proofs.quiet.LimitsHold.{count_cons}
use Rattle.protocol_laws.proofs.first.RangesNamed.{cells_stay}
use Rattle.protocol_laws.proofs.first.EpochsKept.{length_lasts}

-- ---- the ring

pub record Ringed {C : Type 0} (w : Fixed C) (s : Machine C) : Type 0 where
  pub holder : s.ring.holder < w.text.coordinators
  pub pacts : length s.ring.pacts ≡ w.text.coordinators
  pub acts : length s.ring.acts ≡ w.text.coordinators
  pub lasts : length s.ring.lasts ≡ length w.text.opening.states
  -- what waits has no tid yet
  pub tids : s.ring.next_tid + (total length s.ring.pacts + total length s.ring.acts) ≤ w.text.opening.next_tid + s.ring.next_tx
  -- a batch has drawn a tid at least
  pub bids : s.ring.next_bid + w.text.opening.next_tid ≤ s.ring.next_tid + w.text.opening.next_bid

joined_if : (b : Bool) (c n : ℕ) (ps qs : List (List ℕ)) → total length (if b then ring.joined_at c n ps else ps) + total length (if b then qs else ring.joined_at c n qs) ≤ total length ps + total length qs + 1
joined_if true c n ps qs = omega (arith, joined_most c n ps)
joined_if false c n ps qs = omega (arith, joined_most c n qs)

length_if : (b : Bool) (c n : ℕ) (qs : List (List ℕ)) → (length (if b then ring.joined_at c n qs else qs) ≡ length qs) × (length (if b then qs else ring.joined_at c n qs) ≡ length qs)
length_if true c n qs = (Times.length_set qs c (queue qs c ++ n ∷ []), refl)
length_if false c n qs = (refl, Times.length_set qs c (queue qs c ++ n ∷ []))

ring_kept : {C : Type 0} (w : Fixed C) → IsText w.text → (e : Event) (s : Machine C) → IsAllowed w e s → Ringed w s → Ringed w (after w e s)
unfolding conditions after
ring_kept w v (Submit n) s ok h =
    let b = is_pact (tx_at w.text n) in
    let c = n % w.text.coordinators in
    record {
      holder = h.holder;
      pacts = (length_if b c n s.ring.pacts).0 ∙ h.pacts;
      acts = (length_if b c n s.ring.acts).1 ∙ h.acts;
      lasts = h.lasts;
      tids = omega (arith, h.tids, joined_if b c n s.ring.pacts s.ring.acts);
      bids = h.bids;
    }
ring_kept w v (Pass c) s ok h = record {
  holder = subst (λ z. z < w.text.coordinators) (sym (eqb-true c ((s.ring.holder + 1) % w.text.coordinators) ok.0)) (below (s.ring.holder + 1) w.text.coordinators v.some_coordinators);
  pacts = h.pacts;
  acts = h.acts;
  lasts = h.lasts;
  tids = h.tids;
  bids = h.bids;
}
  where
    below : (m n : ℕ) → 1 ≤ n → m % n < n
    below m n l = mod-lt m l
ring_kept w v (Form k) s ok h =
    let own = take w.text.batch (queue s.ring.pacts s.ring.holder) in
    let as_many : length (ring.next_pacts w.text s.ring) ≡ length own = length_numbered s.ring.next_tid own in
    record {
      holder = h.holder;
      pacts = Times.length_set s.ring.pacts s.ring.holder _ ∙ h.pacts;
      acts = h.acts;
      lasts = length_lasts k (ring.next_actors w.text s.ring) s.ring.lasts ∙ h.lasts;
      tids = omega (arith, h.tids, as_many, left_falls s.ring.holder w.text.batch s.ring.pacts ok.1.0);
      bids = omega (arith, h.bids, as_many, some_taken w.text.batch (queue s.ring.pacts s.ring.holder) v.some_batch ok.1.0);
    }
ring_kept w v (Admit t) s ok h = record {
  holder = h.holder;
  pacts = h.pacts;
  acts = Times.length_set s.ring.acts s.ring.holder _ ∙ h.acts;
  lasts = h.lasts;
  tids = omega (arith, h.tids, left_falls s.ring.holder 1 s.ring.acts ok.1.0, some_taken 1 (queue s.ring.acts s.ring.holder) (omega arith) ok.1.0);
  bids = omega (arith, h.bids);
}
ring_kept w v (Abort k) s ok h = record {
  holder = h.holder;
  pacts = h.pacts;
  acts = h.acts;
  lasts = length-replicate (length s.ring.lasts) 0 ∙ h.lasts;
  tids = h.tids;
  bids = h.bids;
}
ring_kept w v e s ok h = record { holder = h.holder; pacts = h.pacts; acts = h.acts; lasts = h.lasts; tids = h.tids; bids = h.bids }

abbrev nobody : List ℕ
nobody = []

none_wait : (n : ℕ) → total length (replicate n nobody) ≡ 0
none_wait zero = refl
none_wait (suc n) = omega (arith, none_wait n)

ring_opened : {C : Type 0} (w : Fixed C) → IsText w.text → Ringed w (opening w)
ring_opened w v = record {
  holder = omega (arith, v.some_coordinators);
  pacts = length-replicate w.text.coordinators [];
  acts = length-replicate w.text.coordinators [];
  lasts = length-replicate (length w.text.opening.states) 0;
  tids = omega (arith, none_wait w.text.coordinators);
  bids = omega arith;
}

-- ---- numbers of commits

ordered_went : (st su : Status) → StatusWent st su → is_ordered st ≡ true → is_ordered su ≡ true
ordered_went Live su h e = absurd (true≢false (sym e))
ordered_went (Doomed v) su h e = absurd (true≢false (sym e))
ordered_went (Decided c) su (inl h) e = ap is_ordered h
ordered_went (Decided c) su (inr h) e = ap is_ordered h
ordered_went (Sealed c) su h e = ap is_ordered h

abbrev placed : Act → Bool
placed x = is_ordered x.status

one_more : (b c : Bool) → (b ≡ true → c ≡ true) → one_if b ≤ one_if c
one_more true c h = omega (arith, ap one_if (h refl))
one_more false c h = omega arith

placed_became : (xs ys : List Act) → EachBecame ActWent xs ys → count placed xs ≤ count placed ys
placed_became [] ys h = omega arith
placed_became (x ∷ xs) [] h = absurd h
placed_became (x ∷ xs) (y ∷ ys) h = omega (arith, placed_became xs ys h.1, count_cons placed x xs, count_cons placed y ys, one_more (placed x) (placed y) (ordered_went x.status y.status h.0.status))

decided_live : (c : ℕ) (b : Bool) (st : Status) → is_live_status st ≡ true → (is_ordered st ≡ false) × (is_ordered (book.decided_status c b st) ≡ true)
decided_live c true Live h = (refl, refl)
decided_live c false Live h = (refl, refl)
decided_live c b (Doomed v) h = absurd (true≢false (sym h))
decided_live c b (Decided d) h = absurd (true≢false (sym h))
decided_live c b (Sealed d) h = absurd (true≢false (sym h))

placed_more : (t c : ℕ) (x : Act) (xs : List Act) → act_of t xs ≡ Some x → is_live_status x.status ≡ true → EachBecame ActWent xs (book.changed_act t (book.decided_as c) xs) → count placed xs + 1 ≤ count placed (book.changed_act t (book.decided_as c) xs)
placed_more t c x [] e l h = absurd (cc e)
placed_more t c x (y ∷ ys) e l h = by (y.tid == t) refl e (placed_more t c x ys)
  where
    rest : count placed ys ≤ count placed (book.changed_act t (book.decided_as c) ys)
    rest = placed_became ys (book.changed_act t (book.decided_as c) ys) h.1

    by : (b : Bool) → (y.tid == t) ≡ b → (if b then Some y else act_of t ys) ≡ Some x → (act_of t ys ≡ Some x → is_live_status x.status ≡ true → EachBecame ActWent ys (book.changed_act t (book.decided_as c) ys) → count placed ys + 1 ≤ count placed (book.changed_act t (book.decided_as c) ys))
        → count placed (y ∷ ys) + 1 ≤ count placed (book.change_if (y.tid == t) (book.decided_as c) y ∷ book.changed_act t (book.decided_as c) ys)
    by true q f k =
        let i : y ≡ x = cc f in
        let d = decided_live c (is_value y.result) y.status (subst (λ z. is_live_status z.status ≡ true) (sym i) l) in
        omega (arith, rest, count_cons placed y ys, count_cons placed (book.change_if (y.tid == t) (book.decided_as c) y) (book.changed_act t (book.decided_as c) ys), ap one_if d.0, ap one_if (ap (λ b. placed (book.change_if b (book.decided_as c) y)) q ∙ d.1))
    by false q f k =
        omega (arith, k f l h.1, count_cons placed y ys, count_cons placed (book.change_if (y.tid == t) (book.decided_as c) y) (book.changed_act t (book.decided_as c) ys), ap one_if (ap (λ b. placed (book.change_if b (book.decided_as c) y)) q))

count_most : {X : Type 0} (p : X → Bool) (xs : List X) → count p xs ≤ length xs
count_most p [] = omega arith
count_most p (x ∷ xs) = omega (arith, count_most p xs, count_cons p x xs, one (p x))
  where
    one : (b : Bool) → one_if b ≤ 1
    one true = omega arith
    one false = omega arith

pub record Counted {C : Type 0} (w : Fixed C) (s : Machine C) : Type 0 where
  pub cs : s.book.next_c ≤ w.text.opening.next_c + count placed s.book.acts
  pub acts : length s.book.acts + w.text.opening.next_tid ≤ s.ring.next_tid

cs_kept : {C : Type 0} (w : Fixed C) (e : Event) (s : Machine C) → IsAllowed w e s → s.book.next_c ≤ w.text.opening.next_c + count placed s.book.acts → (after w e s).book.next_c ≤ w.text.opening.next_c + count placed (after w e s).book.acts
unfolding conditions after
cs_kept w (Decide t) s ok h =
    let x = one_is (λ x. is_some x.result && is_live_status x.status) (act_of t s.book.acts) ok.0 in
    omega (arith, h, placed_more t s.book.next_c x.0 s.book.acts x.1 (and_parts (is_some x.0.result) (is_live_status x.0.status) x.2).1 (acts_went w (Decide t) s))
cs_kept w e s ok h = omega (arith, h, placed_became s.book.acts (after w e s).book.acts (acts_went w e s))

acts_kept : {C : Type 0} (w : Fixed C) (e : Event) (s : Machine C) → length s.book.acts + w.text.opening.next_tid ≤ s.ring.next_tid → length (after w e s).book.acts + w.text.opening.next_tid ≤ (after w e s).ring.next_tid
unfolding after
acts_kept w (Form k) s h = omega (arith, h)
acts_kept w (Admit t) s h = omega (arith, h, Times.length_join s.book.acts (book.new_act t (Rattle.protocol.specs.OnPost.next_act s.ring) (Rattle.protocol.specs.Fixed.is_reader w (Rattle.protocol.specs.OnPost.next_act s.ring)) (Rattle.protocol.specs.Fixed.base w.text) ∷ []))
acts_kept w e s h = omega (arith, h, as_many, frame w e s NextTid refl)
  where
    as_many : length (after w e s).book.acts ≡ length s.book.acts
    as_many = sym (Times.length_map (λ x. x.tid) (after w e s).book.acts) ∙ (ap length (frame w e s ActTids refl) ∙ Times.length_map (λ x. x.tid) s.book.acts)

-- ---- cascades

pub cascades_most : (low high : ℕ) (cs : List Cascade) → CascadesAscend low cs → AllByRecursion (λ c. c.upto < high) cs → low ≤ high → low + length cs ≤ high
cascades_most low high [] h g l = omega (arith, l)
cascades_most low high (c ∷ cs) h g l = omega (arith, cascades_most (c.upto + 1) high cs h.2 g.1 (omega (arith, g.0)), h.0, h.1)

-- ---- the law

pub sizes_hold : {C : Type 0} → AfterEveryRun (SizesHold {C = C})
sizes_hold {C} w es v run =
    let s = reached w es in
    let r = along w (Ringed w) (ring_kept w v) es (opening w) run (ring_opened w v) in
    let k = known.counts w es run in
    let c = along w (Counted w) (λ e s ok h. record { cs = cs_kept w e s ok h.cs; acts = acts_kept w e s h.acts }) es (opening w) run (record { cs = omega arith; acts = omega arith }) in
    record {
      holder = r.holder;
      pacts = r.pacts;
      acts = r.acts;
      lasts = r.lasts;
      cells = along w (λ s. length s.cells ≡ length w.text.opening.states) (λ e s ok h. cells_stay w e s ∙ h) es (opening w) run (Times.length_map (new_cell (Rattle.protocol.specs.Fixed.base w.text)) w.text.opening.states);
      logs = along w (λ s. length s.logs ≡ w.text.logs) (λ e s ok h. logs_stay w e s h) es (opening w) run (length-replicate w.text.logs Rattle.protocol.specs.Effects.no_log);
      replied = k.replies;
      next_tx = k.few;
      next_tid = omega (arith, r.tids);
      next_bid = omega (arith, r.tids, r.bids);
      next_c = omega (arith, c.cs, c.acts, count_most placed s.book.acts, r.tids);
      cascades = omega (arith, cascades_most w.text.opening.next_bid s.ring.next_bid s.book.cascades (settling.batches_settle_in_order w es v run).cascades_ascend (epochs.epochs_agree w es v run).ended (omega (arith, least)), r.tids, r.bids);
    }
  where
    least : w.text.opening.next_bid ≤ (reached w es).ring.next_bid
    least = along w (λ s. w.text.opening.next_bid ≤ s.ring.next_bid) (λ e s ok h. omega (arith, h, (Rattle.protocol_laws.proofs.first.OneWay.went_on w e s ok).next_bid)) es (opening w) run (omega arith)
