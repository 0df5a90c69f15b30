-- What events tell of names is the machine's, event by event.
use Rattle.std.specs.Prelude.{◌≡◌, refl, ℕ, ◌+◌, ◌-◌, ◌<◌, ◌==◌, nat_le, not, Bool, true, false, ◌&&◌, ◌||◌, if◌then◌else◌, Option, Some, None, is_some, List, [], ◌∷◌, ◌++◌, length, map}
use Rattle.std.specs.List.{AllByRecursion}
use Rattle.std.proofs.Common.{arith, sym, ap, subst, ◌∙◌}
use Rattle.std.proofs.lemmas.Bool.{true≢false, eqb-true, eq-eqb, leb-true, and_parts}
use Rattle.std.proofs.lemmas.List.{map-append}
use Rattle.snap_base.proofs.Booleans.{or_false, or_true}
use Rattle.snap_base.specs.declared.transactions.Tx.{Tx}
use Rattle.protocol.specs.Conditions.{IsAllowed, conditions}
use Rattle.protocol.specs.Contents.{Content, IsSame, is_changed, Bids, BatchActors, BatchTids, BatchTxs, ActTids, ActTxs, ActReaders, Cascades, Stages}
use Rattle.protocol.specs.Effects.{after}
use Rattle.protocol.specs.Events.{Event, Form, Admit, Arrive, Ask, Commit, Settle, Abort, Finish}
use Rattle.protocol.specs.Fixed.{Fixed, Text, tx_at}
use Rattle.protocol.specs.OnDesk as desk
use Rattle.protocol.specs.OnDesk.{change_if, changed_batch, with_stage}
use Rattle.protocol.specs.OnPost.{next_act}
use Rattle.protocol.specs.OnRing.{Formed, planned}
use Rattle.protocol.specs.Parts as parts
use Rattle.protocol.specs.Parts.{Batch, Cascade, Machine, Stage, Committing, Settled}
use Rattle.protocol.specs.Runs.{opening, reached, state_after, EachAllowed, IsRun}
use Rattle.protocol.specs.Words.{is_among, holds, batch_of, is_settled, is_formed, is_committing, is_open, least_older}
use Rattle.protocol_theorems.specs.Sizes.{AllFindRoom, FindsRoom}
use Rattle.audit_words.specs.Seen.{Begun, Cut, Seen, batch_in, was_formed, was_taken_along, nothing_seen}
use Rattle.audit_words.specs.Happenings.{added, asks, comes, give_up, happened, may_abort, may_ask, met, ring_after, seen_from, taken_by, with_cut}
use Rattle.run_effects.specs.Laws.{BatchesAreCounted, settles}
use Rattle.audit_laws.specs.Names.{NamesAreSeen, TellsNames}
use Rattle.audit_laws.proofs.RepliesOnce.{among_join}
use Rattle.audit_laws.proofs.RunsMeet.{ring_is}

abbrev pub Frames : (C : Type 0) → Type 0
Frames C = (w : Fixed C) (e : Event) (s : Machine C) (q : Content) → is_changed q e ≡ false → IsSame q s (after w e s)

-- ---- what an event leaves of what was told

pub either : {X : Type 0} (f : Seen → X) (b : Bool) (x y : Seen) → f x ≡ f y → f (if b then x else y) ≡ f y
either f true x y h = h
either f false x y h = refl

pub asked : {X : Type 0} (f : Seen → X) (t a : ℕ) (o : Option ℕ) (s : Seen) → ((older : ℕ) → f (asks t a (Some older) s) ≡ f s) → f (asks t a None s) ≡ f s → f (asks t a o s) ≡ f s
asked f t a (Some older) s h k = h older
asked f t a None s h k = k

abbrev is_form : Event → Bool
is_form (Form k) = true
is_form _ = false

pub batches_stay : (r : Tx → Bool) (w : Text) (e : Event) (t : Seen) → is_form e ≡ false → (added r w e t).batches ≡ t.batches
unfolding added
batches_stay r w (Form k) t h = absurd (true≢false h)
batches_stay r w (Arrive k a) t h = either (λ x. x.batches) (comes k a t) _ t refl
batches_stay r w (Ask u a) t h = either (λ x. x.batches) (may_ask w u a t) _ t (asked (λ x. x.batches) u a (least_older u (met u a t)) t (λ older. refl) refl)
batches_stay r w (Settle k) t h = either (λ x. x.batches) (was_formed k t && not (is_among k t.settled)) _ t refl
batches_stay r w (Abort k) t h = either (λ x. x.batches) (may_abort k t) _ t refl
batches_stay r w (Finish u a) t h = either (λ x. x.batches) _ _ t refl
batches_stay r w e t h = refl

abbrev is_admit : Event → Bool
is_admit (Admit t) = true
is_admit _ = false

acts_stay : (r : Tx → Bool) (w : Text) (e : Event) (t : Seen) → is_admit e ≡ false → (added r w e t).acts ≡ t.acts
unfolding added
acts_stay r w (Admit u) t h = absurd (true≢false h)
acts_stay r w (Arrive k a) t h = either (λ x. x.acts) (comes k a t) _ t refl
acts_stay r w (Ask u a) t h = either (λ x. x.acts) (may_ask w u a t) _ t (asked (λ x. x.acts) u a (least_older u (met u a t)) t (λ older. refl) refl)
acts_stay r w (Settle k) t h = either (λ x. x.acts) (was_formed k t && not (is_among k t.settled)) _ t refl
acts_stay r w (Abort k) t h = either (λ x. x.acts) (may_abort k t) _ t refl
acts_stay r w (Finish u a) t h = either (λ x. x.acts) _ _ t refl
acts_stay r w e t h = refl

abbrev is_abort : Event → Bool
is_abort (Abort k) = true
is_abort _ = false

pub cuts_stay : (r : Tx → Bool) (w : Text) (e : Event) (t : Seen) → is_abort e ≡ false → (added r w e t).cuts ≡ t.cuts
unfolding added
cuts_stay r w (Abort k) t h = absurd (true≢false h)
cuts_stay r w (Arrive k a) t h = either (λ x. x.cuts) (comes k a t) _ t refl
cuts_stay r w (Ask u a) t h = either (λ x. x.cuts) (may_ask w u a t) _ t (asked (λ x. x.cuts) u a (least_older u (met u a t)) t (λ older. refl) refl)
cuts_stay r w (Settle k) t h = either (λ x. x.cuts) (was_formed k t && not (is_among k t.settled)) _ t refl
cuts_stay r w (Finish u a) t h = either (λ x. x.cuts) _ _ t refl
cuts_stay r w e t h = refl

abbrev is_settle : Event → Bool
is_settle (Settle k) = true
is_settle _ = false

settled_stays : (r : Tx → Bool) (w : Text) (e : Event) (t : Seen) → is_settle e ≡ false → (added r w e t).settled ≡ t.settled
unfolding added
settled_stays r w (Settle k) t h = absurd (true≢false h)
settled_stays r w (Arrive k a) t h = either (λ x. x.settled) (comes k a t) _ t refl
settled_stays r w (Ask u a) t h = either (λ x. x.settled) (may_ask w u a t) _ t (asked (λ x. x.settled) u a (least_older u (met u a t)) t (λ older. refl) refl)
settled_stays r w (Abort k) t h = either (λ x. x.settled) (may_abort k t) _ t refl
settled_stays r w (Finish u a) t h = either (λ x. x.settled) _ _ t refl
settled_stays r w e t h = refl

-- ---- lists

new_actors : (xs : List ℕ) → map (λ p. p.actor) (map desk.new_declared xs) ≡ xs
new_actors [] = refl
new_actors (x ∷ xs) = ap (λ ys. x ∷ ys) (new_actors xs)

one_more : {X Y : Type 0} (f : X → Y) (xs : List X) (ys : List Y) (x : X) → map f xs ≡ ys → map f (xs ++ x ∷ []) ≡ ys ++ f x ∷ []
one_more f xs ys x h = map-append f xs (x ∷ []) ∙ ap (λ zs. zs ++ f x ∷ []) h

-- ---- batches

formed_there : (k : ℕ) (xs : List Formed) → is_some (batch_in k xs) ≡ is_among k (map (λ b. b.bid) xs)
formed_there k [] = refl
formed_there k (x ∷ xs) = by (x.bid == k) (formed_there k xs)
  where
    by : (c : Bool) → is_some (batch_in k xs) ≡ is_among k (map (λ b. b.bid) xs) → is_some (if c then Some x else batch_in k xs) ≡ (c || is_among k (map (λ b. b.bid) xs))
    by true e = refl
    by false e = e

batch_there : (k : ℕ) (xs : List Batch) → is_some (batch_of k xs) ≡ is_among k (map (λ b. b.bid) xs)
batch_there k [] = refl
batch_there k (x ∷ xs) = by (x.bid == k) (batch_there k xs)
  where
    by : (c : Bool) → is_some (batch_of k xs) ≡ is_among k (map (λ b. b.bid) xs) → is_some (if c then Some x else batch_of k xs) ≡ (c || is_among k (map (λ b. b.bid) xs))
    by true e = refl
    by false e = e

-- a batch of the desk is told
told_batch : {C : Type 0} (w : Fixed C) (s : Machine C) (t : Seen) (k : ℕ) → TellsNames w s t → is_some (batch_of k s.desk.batches) ≡ true → was_formed k t ≡ true
told_batch w s t k h e = formed_there k t.batches ∙ (ap (is_among k) h.bids ∙ (sym (batch_there k s.desk.batches) ∙ e))

some_there : (p : Batch → Bool) (o : Option Batch) → holds p o ≡ true → is_some o ≡ true
some_there p None h = absurd (true≢false (sym h))
some_there p (Some b) h = refl

stage_is : (p q : Batch → Bool) (o : Option Batch) → ((b : Batch) → p b ≡ true → q b ≡ false) → holds p o ≡ true → holds q o ≡ false
stage_is p q None k h = refl
stage_is p q (Some b) k h = k b h

-- by numbers and stages alone
same_stages : (k : ℕ) (bs cs : List Batch) → map (λ b. b.bid) bs ≡ map (λ b. b.bid) cs → map (λ b. b.stage) bs ≡ map (λ b. b.stage) cs → holds (λ b. is_settled b.stage) (batch_of k bs) ≡ holds (λ b. is_settled b.stage) (batch_of k cs)
same_stages k [] [] e f = refl
same_stages k [] (c ∷ cs) e f = absurd (cc e)
same_stages k (b ∷ bs) [] e f = absurd (cc e)
same_stages k (b ∷ bs) (c ∷ cs) e f =
    let i : b.bid ≡ c.bid = cc e in
    let j : map (λ (x : Batch). x.bid) bs ≡ map (λ (x : Batch). x.bid) cs = cc e in
    let g : b.stage ≡ c.stage = cc f in
    let l : map (λ (x : Batch). x.stage) bs ≡ map (λ (x : Batch). x.stage) cs = cc f in
    by (b.bid == k) (c.bid == k) (ap (λ (n : ℕ). n == k) i) (ap is_settled g) (same_stages k bs cs j l)
  where
    by : (u v : Bool) → u ≡ v → is_settled b.stage ≡ is_settled c.stage → holds (λ b. is_settled b.stage) (batch_of k bs) ≡ holds (λ b. is_settled b.stage) (batch_of k cs)
        → holds (λ b. is_settled b.stage) (if u then Some b else batch_of k bs) ≡ holds (λ b. is_settled b.stage) (if v then Some c else batch_of k cs)
    by true true x g r = g
    by true false x g r = absurd (true≢false x)
    by false true x g r = absurd (true≢false (sym x))
    by false false x g r = r

-- one more, that is only formed
more_formed : (k : ℕ) (bs : List Batch) (n : Batch) → is_settled n.stage ≡ false → holds (λ b. is_settled b.stage) (batch_of k (bs ++ n ∷ [])) ≡ holds (λ b. is_settled b.stage) (batch_of k bs)
more_formed k [] n h = by (n.bid == k)
  where
    by : (c : Bool) → holds (λ b. is_settled b.stage) (if c then Some n else None) ≡ false
    by true = h
    by false = refl
more_formed k (b ∷ bs) n h = by (b.bid == k) (more_formed k bs n h)
  where
    by : (c : Bool) → holds (λ b. is_settled b.stage) (batch_of k (bs ++ n ∷ [])) ≡ holds (λ b. is_settled b.stage) (batch_of k bs)
        → holds (λ b. is_settled b.stage) (if c then Some b else batch_of k (bs ++ n ∷ [])) ≡ holds (λ b. is_settled b.stage) (if c then Some b else batch_of k bs)
    by true e = refl
    by false e = e

-- a change of stage
same_bid : (c : Bool) (st : Stage) (b : Batch) → (change_if c (with_stage st) b).bid ≡ b.bid
same_bid true st b = refl
same_bid false st b = refl

other_stage : (j k : ℕ) (st : Stage) (bs : List Batch) → (j == k) ≡ false → holds (λ b. is_settled b.stage) (batch_of k (changed_batch j (with_stage st) bs)) ≡ holds (λ b. is_settled b.stage) (batch_of k bs)
other_stage j k st [] h = refl
other_stage j k st (b ∷ bs) h =
    subst (λ (n : ℕ). holds (λ x. is_settled x.stage) (if n == k then Some (change_if (b.bid == j) (with_stage st) b) else batch_of k (changed_batch j (with_stage st) bs)) ≡ holds (λ x. is_settled x.stage) (batch_of k (b ∷ bs))) (sym (same_bid (b.bid == j) st b))
    (by (b.bid == k) refl (b.bid == j) refl (other_stage j k st bs h))
  where
    by : (u : Bool) → (b.bid == k) ≡ u → (v : Bool) → (b.bid == j) ≡ v → holds (λ x. is_settled x.stage) (batch_of k (changed_batch j (with_stage st) bs)) ≡ holds (λ x. is_settled x.stage) (batch_of k bs)
        → holds (λ x. is_settled x.stage) (if u then Some (change_if v (with_stage st) b) else batch_of k (changed_batch j (with_stage st) bs)) ≡ holds (λ x. is_settled x.stage) (if u then Some b else batch_of k bs)
    by true e true f r = absurd (true≢false (sym (eq-eqb j k (sym (eqb-true b.bid j f) ∙ eqb-true b.bid k e)) ∙ h))
    by true e false f r = refl
    by false e v f r = r

own_stage : (j : ℕ) (st : Stage) (bs : List Batch) → is_some (batch_of j bs) ≡ true → holds (λ b. is_settled b.stage) (batch_of j (changed_batch j (with_stage st) bs)) ≡ is_settled st
own_stage j st [] h = absurd (true≢false (sym h))
own_stage j st (b ∷ bs) h =
    subst (λ (n : ℕ). holds (λ x. is_settled x.stage) (if n == j then Some (change_if (b.bid == j) (with_stage st) b) else batch_of j (changed_batch j (with_stage st) bs)) ≡ is_settled st) (sym (same_bid (b.bid == j) st b))
    (by (b.bid == j) h (own_stage j st bs))
  where
    by : (u : Bool) → is_some (if u then Some b else batch_of j bs) ≡ true → (is_some (batch_of j bs) ≡ true → holds (λ x. is_settled x.stage) (batch_of j (changed_batch j (with_stage st) bs)) ≡ is_settled st)
        → holds (λ x. is_settled x.stage) (if u then Some (change_if u (with_stage st) b) else batch_of j (changed_batch j (with_stage st) bs)) ≡ is_settled st
    by true e r = refl
    by false e r = r e

-- ---- cascades

not_cut : (k : ℕ) (cuts : List Cut) (cs : List Cascade) → map (λ c. c.first) cuts ≡ map (λ c. c.first) cs → map (λ c. c.upto) cuts ≡ map (λ c. c.upto) cs → AllByRecursion (λ c. c.upto < k) cs → was_taken_along k cuts ≡ false
not_cut k [] cs e f h = refl
not_cut k (x ∷ cuts) [] e f h = absurd (cc e)
not_cut k (x ∷ cuts) (c ∷ cs) e f h =
    let i : x.upto ≡ c.upto = cc f in
    let j : map (λ (y : Cut). y.first) cuts ≡ map (λ (y : Cascade). y.first) cs = cc e in
    let l : map (λ (y : Cut). y.upto) cuts ≡ map (λ (y : Cascade). y.upto) cs = cc f in
    by (nat_le x.first k) (nat_le k x.upto) (above k x.upto (omega (arith, i, h.0))) (not_cut k cuts cs j l h.1)
  where
    above : (a b : ℕ) → b < a → nat_le a b ≡ false
    above a b l = by (nat_le a b) refl
      where
        by : (c : Bool) → nat_le a b ≡ c → c ≡ false
        by true e = absurd (omega (arith, leb-true a b e, l))
        by false e = refl

    by : (a b : Bool) → b ≡ false → was_taken_along k cuts ≡ false → ((a && b) || was_taken_along k cuts) ≡ false
    by a true e r = absurd (true≢false e)
    by true false e r = r
    by false false e r = r

-- ---- event by event

module _ {C : Type 0} (w : Fixed C) (fr : Frames C) where
  ring_kept : (e : Event) (s : Machine C) (t : Seen) → TellsNames w s t → (happened w.code.only_reads w.text e t).ring ≡ (after w e s).ring
  ring_kept e s t h = ap (ring_after w.text e) h.ring ∙ sym (ring_is w e s)

  bids_kept : (e : Event) (s : Machine C) (t : Seen) → TellsNames w s t → map (λ b. b.bid) (happened w.code.only_reads w.text e t).batches ≡ map (λ b. b.bid) (after w e s).desk.batches
  unfolding added after
  bids_kept (Form k) s t h = one_more (λ (b : Formed). b.bid) t.batches _ (planned w.text k t.ring) h.bids ∙ sym (map-append (λ (b : Batch). b.bid) s.desk.batches _)
  bids_kept e s t h = ap (map (λ (b : Formed). b.bid)) (batches_stay w.code.only_reads w.text e t refl) ∙ (h.bids ∙ sym (fr w e s Bids refl))

  actors_kept : (e : Event) (s : Machine C) (t : Seen) → TellsNames w s t → map (λ b. b.actors) (happened w.code.only_reads w.text e t).batches ≡ map (λ b. map (λ p. p.actor) b.places) (after w e s).desk.batches
  unfolding added after
  actors_kept (Form k) s t h =
      one_more (λ (b : Formed). b.actors) t.batches _ (planned w.text k t.ring) h.actors
      ∙ (ap (λ (r : parts.Ring). map (λ (b : Batch). map (λ p. p.actor) b.places) s.desk.batches ++ (planned w.text k r).actors ∷ []) h.ring
      ∙ (ap (λ (xs : List ℕ). map (λ (b : Batch). map (λ p. p.actor) b.places) s.desk.batches ++ xs ∷ []) (sym (new_actors (planned w.text k s.ring).actors))
      ∙ sym (map-append (λ (b : Batch). map (λ p. p.actor) b.places) s.desk.batches (desk.new_batch (planned w.text k s.ring).bid (planned w.text k s.ring).actors (planned w.text k s.ring).pacts ∷ []))))
  actors_kept e s t h = ap (map (λ (b : Formed). b.actors)) (batches_stay w.code.only_reads w.text e t refl) ∙ (h.actors ∙ sym (fr w e s BatchActors refl))

  batch_tids_kept : (e : Event) (s : Machine C) (t : Seen) → TellsNames w s t → map (λ b. map (λ p. p.tid) b.pacts) (happened w.code.only_reads w.text e t).batches ≡ map (λ b. map (λ p. p.tid) b.pacts) (after w e s).desk.batches
  unfolding added after
  batch_tids_kept (Form k) s t h =
      one_more (λ (b : Formed). map (λ p. p.tid) b.pacts) t.batches _ (planned w.text k t.ring) h.batch_tids
      ∙ (ap (λ (r : parts.Ring). map (λ (b : Batch). map (λ p. p.tid) b.pacts) s.desk.batches ++ map (λ p. p.tid) (planned w.text k r).pacts ∷ []) h.ring
      ∙ sym (map-append (λ (b : Batch). map (λ p. p.tid) b.pacts) s.desk.batches (desk.new_batch (planned w.text k s.ring).bid (planned w.text k s.ring).actors (planned w.text k s.ring).pacts ∷ [])))
  batch_tids_kept e s t h = ap (map (λ (b : Formed). map (λ p. p.tid) b.pacts)) (batches_stay w.code.only_reads w.text e t refl) ∙ (h.batch_tids ∙ sym (fr w e s BatchTids refl))

  batch_txs_kept : (e : Event) (s : Machine C) (t : Seen) → TellsNames w s t → map (λ b. map (λ p. p.tx) b.pacts) (happened w.code.only_reads w.text e t).batches ≡ map (λ b. map (λ p. p.tx) b.pacts) (after w e s).desk.batches
  unfolding added after
  batch_txs_kept (Form k) s t h =
      one_more (λ (b : Formed). map (λ p. p.tx) b.pacts) t.batches _ (planned w.text k t.ring) h.batch_txs
      ∙ (ap (λ (r : parts.Ring). map (λ (b : Batch). map (λ p. p.tx) b.pacts) s.desk.batches ++ map (λ p. p.tx) (planned w.text k r).pacts ∷ []) h.ring
      ∙ sym (map-append (λ (b : Batch). map (λ p. p.tx) b.pacts) s.desk.batches (desk.new_batch (planned w.text k s.ring).bid (planned w.text k s.ring).actors (planned w.text k s.ring).pacts ∷ [])))
  batch_txs_kept e s t h = ap (map (λ (b : Formed). map (λ p. p.tx) b.pacts)) (batches_stay w.code.only_reads w.text e t refl) ∙ (h.batch_txs ∙ sym (fr w e s BatchTxs refl))

  tids_kept : (e : Event) (s : Machine C) (t : Seen) → TellsNames w s t → map (λ x. x.tid) (happened w.code.only_reads w.text e t).acts ≡ map (λ x. x.tid) (after w e s).book.acts
  unfolding added after
  tids_kept (Admit u) s t h = one_more (λ (x : Begun). x.tid) t.acts _ _ h.tids ∙ sym (map-append (λ (x : parts.Act). x.tid) s.book.acts _)
  tids_kept e s t h = ap (map (λ (x : Begun). x.tid)) (acts_stay w.code.only_reads w.text e t refl) ∙ (h.tids ∙ sym (fr w e s ActTids refl))

  txs_kept : (e : Event) (s : Machine C) (t : Seen) → TellsNames w s t → map (λ x. x.tx) (happened w.code.only_reads w.text e t).acts ≡ map (λ x. x.tx) (after w e s).book.acts
  unfolding added after
  txs_kept (Admit u) s t h =
      one_more (λ (x : Begun). x.tx) t.acts _ (record { tid = u; tx = next_act t.ring; reader = w.code.only_reads (tx_at w.text (next_act t.ring)) }) h.txs
      ∙ (ap (λ (r : parts.Ring). map (λ (x : parts.Act). x.tx) s.book.acts ++ next_act r ∷ []) h.ring ∙ sym (map-append (λ (x : parts.Act). x.tx) s.book.acts _))
  txs_kept e s t h = ap (map (λ (x : Begun). x.tx)) (acts_stay w.code.only_reads w.text e t refl) ∙ (h.txs ∙ sym (fr w e s ActTxs refl))

  readers_kept : (e : Event) (s : Machine C) (t : Seen) → TellsNames w s t → map (λ x. x.reader) (happened w.code.only_reads w.text e t).acts ≡ map (λ x. x.reader) (after w e s).book.acts
  unfolding added after
  readers_kept (Admit u) s t h =
      one_more (λ (x : Begun). x.reader) t.acts _ (record { tid = u; tx = next_act t.ring; reader = w.code.only_reads (tx_at w.text (next_act t.ring)) }) h.readers
      ∙ (ap (λ (r : parts.Ring). map (λ (x : parts.Act). x.reader) s.book.acts ++ w.code.only_reads (tx_at w.text (next_act r)) ∷ []) h.ring ∙ sym (map-append (λ (x : parts.Act). x.reader) s.book.acts _))
  readers_kept e s t h = ap (map (λ (x : Begun). x.reader)) (acts_stay w.code.only_reads w.text e t refl) ∙ (h.readers ∙ sym (fr w e s ActReaders refl))

  -- an Abort is told
  pub aborts : (k : ℕ) (s : Machine C) (t : Seen) → FindsRoom w (Abort k) s → IsAllowed w (Abort k) s → TellsNames w s t → may_abort k t ≡ true
  unfolding conditions
  aborts k s t room ok h =
      both (was_formed k t) (was_taken_along k t.cuts) (told_batch w s t k h (some_there _ (batch_of k s.desk.batches) ok.0)) (not_cut k t.cuts s.book.cascades h.firsts h.uptos room.0)
    where
      both : (a b : Bool) → a ≡ true → b ≡ false → (a && not b) ≡ true
      both true false e f = refl
      both true true e f = absurd (true≢false f)
      both false b e f = absurd (true≢false (sym e))

  chosen : {X : Type 0} (f : Seen → X) (b : Bool) (x y : Seen) → b ≡ true → f (if b then x else y) ≡ f x
  chosen f true x y e = refl
  chosen f false x y e = absurd (true≢false (sym e))

  firsts_kept : (e : Event) (s : Machine C) (t : Seen) → FindsRoom w e s → IsAllowed w e s → TellsNames w s t → map (λ c. c.first) (happened w.code.only_reads w.text e t).cuts ≡ map (λ c. c.first) (after w e s).book.cascades
  unfolding added after
  firsts_kept (Abort k) s t room ok h =
      ap (map (λ (c : Cut). c.first)) (chosen (λ x. x.cuts) (may_abort k t) (with_cut w.text k (give_up (taken_by k t) t)) t (aborts k s t room ok h))
      ∙ (one_more (λ (c : Cut). c.first) t.cuts _ _ h.firsts ∙ sym (map-append (λ (c : Cascade). c.first) s.book.cascades _))
  firsts_kept e s t room ok h = ap (map (λ (c : Cut). c.first)) (cuts_stay w.code.only_reads w.text e t refl) ∙ (h.firsts ∙ ap (map (λ (c : Cascade). c.first)) (sym (fr w e s Cascades refl)))

  uptos_kept : (e : Event) (s : Machine C) (t : Seen) → FindsRoom w e s → IsAllowed w e s → TellsNames w s t → map (λ c. c.upto) (happened w.code.only_reads w.text e t).cuts ≡ map (λ c. c.upto) (after w e s).book.cascades
  unfolding added after
  uptos_kept (Abort k) s t room ok h =
      ap (map (λ (c : Cut). c.upto)) (chosen (λ x. x.cuts) (may_abort k t) (with_cut w.text k (give_up (taken_by k t) t)) t (aborts k s t room ok h))
      ∙ (one_more (λ (c : Cut). c.upto) t.cuts _ _ h.uptos
      ∙ (ap (λ (r : parts.Ring). map (λ (c : Cascade). c.upto) s.book.cascades ++ (r.next_bid - 1) ∷ []) h.ring ∙ sym (map-append (λ (c : Cascade). c.upto) s.book.cascades _)))
  uptos_kept e s t room ok h = ap (map (λ (c : Cut). c.upto)) (cuts_stay w.code.only_reads w.text e t refl) ∙ (h.uptos ∙ ap (map (λ (c : Cascade). c.upto)) (sym (fr w e s Cascades refl)))

  -- a Settle is told
  settles_too : (j : ℕ) (s : Machine C) (t : Seen) → IsAllowed w (Settle j) s → TellsNames w s t → (was_formed j t && not (is_among j t.settled)) ≡ true
  unfolding conditions
  settles_too j s t ok h =
      both (was_formed j t) (is_among j t.settled) (told_batch w s t j h (some_there _ (batch_of j s.desk.batches) ok.0))
      (h.settled j ∙ stage_is (λ b. is_committing b.stage && not b.aborted) (λ b. is_settled b.stage) (batch_of j s.desk.batches) (λ b p. committing b.stage (and_parts (is_committing b.stage) (not b.aborted) p).0) ok.0)
    where
      both : (a b : Bool) → a ≡ true → b ≡ false → (a && not b) ≡ true
      both true false e f = refl
      both true true e f = absurd (true≢false f)
      both false b e f = absurd (true≢false (sym e))

      committing : (st : Stage) → is_committing st ≡ true → is_settled st ≡ false
      committing parts.Formed e = refl
      committing Committing e = refl
      committing Settled e = absurd (true≢false (sym e))

  settled_kept : (e : Event) (s : Machine C) (t : Seen) → IsAllowed w e s → TellsNames w s t → (k : ℕ) → is_among k (happened w.code.only_reads w.text e t).settled ≡ holds (λ b. is_settled b.stage) (batch_of k (after w e s).desk.batches)
  unfolding added after conditions
  settled_kept (Form j) s t ok h k = h.settled k ∙ sym (more_formed k s.desk.batches _ refl)
  settled_kept (Commit j) s t ok h k = h.settled k ∙ sym (by (j == k) refl)
    where
      formed : (st : Stage) → is_formed st ≡ true → is_settled st ≡ false
      formed parts.Formed e = refl
      formed Committing e = absurd (true≢false (sym e))
      formed Settled e = absurd (true≢false (sym e))

      was : holds (λ b. is_settled b.stage) (batch_of j s.desk.batches) ≡ false
      was = stage_is _ (λ b. is_settled b.stage) (batch_of j s.desk.batches) (λ b p. formed b.stage (and_parts (is_formed b.stage) (not b.aborted) (and_parts (is_open b) _ p).0).0) ok.0

      by : (c : Bool) → (j == k) ≡ c → holds (λ b. is_settled b.stage) (batch_of k (changed_batch j (with_stage Committing) s.desk.batches)) ≡ holds (λ b. is_settled b.stage) (batch_of k s.desk.batches)
      by true e = subst (λ (n : ℕ). holds (λ b. is_settled b.stage) (batch_of n (changed_batch j (with_stage Committing) s.desk.batches)) ≡ holds (λ b. is_settled b.stage) (batch_of n s.desk.batches)) (eqb-true j k e)
          (own_stage j Committing s.desk.batches (some_there _ (batch_of j s.desk.batches) ok.0) ∙ sym was)
      by false e = other_stage j k Committing s.desk.batches e
  settled_kept (Settle j) s t ok h k =
      ap (is_among k) (chosen (λ x. x.settled) (was_formed j t && not (is_among j t.settled)) _ t (settles_too j s t ok h)) ∙ (among_join k t.settled (j ∷ []) ∙ by (j == k) refl)
    where
      by : (c : Bool) → (j == k) ≡ c → (is_among k t.settled || (c || false)) ≡ holds (λ b. is_settled b.stage) (batch_of k (changed_batch j (with_stage Settled) s.desk.batches))
      by true e = or_true (is_among k t.settled) ∙ sym (subst (λ (n : ℕ). holds (λ b. is_settled b.stage) (batch_of n (changed_batch j (with_stage Settled) s.desk.batches)) ≡ true) (eqb-true j k e) (own_stage j Settled s.desk.batches (some_there _ (batch_of j s.desk.batches) ok.0)))
      by false e = or_false (is_among k t.settled) ∙ (h.settled k ∙ sym (other_stage j k Settled s.desk.batches e))
  settled_kept e s t ok h k = ap (is_among k) (settled_stays w.code.only_reads w.text e t refl) ∙ (h.settled k ∙ same_stages k s.desk.batches (after w e s).desk.batches (sym (fr w e s Bids refl)) (sym (fr w e s Stages refl)))

  pub names_kept : (e : Event) (s : Machine C) (t : Seen) → FindsRoom w e s → IsAllowed w e s → TellsNames w s t → TellsNames w (after w e s) (happened w.code.only_reads w.text e t)
  names_kept e s t room ok h = record {
    ring = ring_kept e s t h;
    bids = bids_kept e s t h;
    actors = actors_kept e s t h;
    batch_tids = batch_tids_kept e s t h;
    batch_txs = batch_txs_kept e s t h;
    tids = tids_kept e s t h;
    txs = txs_kept e s t h;
    readers = readers_kept e s t h;
    firsts = firsts_kept e s t room ok h;
    uptos = uptos_kept e s t room ok h;
    settled = settled_kept e s t ok h;
  }

  -- ---- a run

  Rooms : Machine C → Type 0
  Rooms s = (fs : List Event) → EachAllowed w fs s → AllFindRoom w (state_after w fs s)

  settles_one : (e : Event) (es : List Event) → settles (e ∷ es) ≡ settles (e ∷ []) + settles es
  settles_one (Settle k) es = omega arith
  settles_one e es = plus (settles es)
    where
      plus : (n : ℕ) → n ≡ 0 + n
      plus n = omega arith

  along : (es : List Event) (s : Machine C) (t : Seen) → Rooms s → EachAllowed w es s → TellsNames w s t → TellsNames w (state_after w es s) (seen_from w.code.only_reads w.text es t)
  unfolding Rooms
  along [] s t rooms run h = h
  along (e ∷ es) s t rooms run h = along es (after w e s) (happened w.code.only_reads w.text e t) (λ fs r. rooms (e ∷ fs) (run.0, r)) run.1 (names_kept e s t (rooms [] tt e run.0) run.0 h)

  one_count : (e : Event) (s : Machine C) (t : Seen) → IsAllowed w e s → TellsNames w s t → length (happened w.code.only_reads w.text e t).settled ≡ length t.settled + settles (e ∷ [])
  unfolding added
  one_count (Settle k) s t ok h = ap (λ (xs : List ℕ). length xs) (chosen (λ x. x.settled) (was_formed k t && not (is_among k t.settled)) _ t (settles_too k s t ok h)) ∙ longer t.settled
    where
      longer : (xs : List ℕ) → length (xs ++ k ∷ []) ≡ length xs + 1
      longer [] = refl
      longer (x ∷ xs) = omega (arith, longer xs)
  one_count e s t ok h = ap (λ (xs : List ℕ). length xs) (settled_stays w.code.only_reads w.text e t refl) ∙ plus (length t.settled)
    where
      plus : (n : ℕ) → n ≡ n + 0
      plus n = omega arith

  count_along : (es : List Event) (s : Machine C) (t : Seen) → Rooms s → EachAllowed w es s → TellsNames w s t → length (seen_from w.code.only_reads w.text es t).settled ≡ length t.settled + settles es
  unfolding Rooms
  count_along [] s t rooms run h = omega arith
  count_along (e ∷ es) s t rooms run h =
      omega (arith, count_along es (after w e s) (happened w.code.only_reads w.text e t) (λ fs r. rooms (e ∷ fs) (run.0, r)) run.1 (names_kept e s t (rooms [] tt e run.0) run.0 h), one_count e s t run.0 h, settles_one e es)

  pub at_opening : TellsNames w (opening w) (nothing_seen w.text)
  at_opening = record { ring = refl; bids = refl; actors = refl; batch_tids = refl; batch_txs = refl; tids = refl; txs = refl; readers = refl; firsts = refl; uptos = refl; settled = λ k. refl }

  pub names_along : (es : List Event) → ((fs : List Event) → IsRun w fs → AllFindRoom w (reached w fs)) → BatchesAreCounted w → IsRun w es → NamesAreSeen w es
  unfolding Rooms
  names_along es rooms counted run = record {
    names = along es (opening w) (nothing_seen w.text) rooms run at_opening;
    count = omega (arith, count_along es (opening w) (nothing_seen w.text) rooms run at_opening, counted es run);
  }
