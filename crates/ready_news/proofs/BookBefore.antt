-- What an ACT may go on with after an event, it could go on with before it, but for what the event is made for.
use Rattle.std.specs.Prelude.{◌≡◌, refl, ℕ, ◌≤◌, ◌%◌, ◌==◌, nat_le, max, not, Bool, true, false, ◌&&◌, ◌||◌, if◌then◌else◌, is_some, Option, Some, None, List, [], ◌∷◌, ◌++◌, length, map}
use Rattle.std.specs.List.{list_all, AllByRecursion}
use Rattle.std.proofs.Common.{sym, subst, inl, inr, ◌∙◌}
use Rattle.std.proofs.lemmas.Bool.{and_parts, and_from, or_cases, or_right}
use Rattle.aml_slice.specs.Controls.{Rest}
use Rattle.snap_base.specs.declared.transactions.TxResult.{TxResult}
use Rattle.snap_base.specs.declared.verdicts.Verdict.{Verdict}
use Rattle.snap_hand.specs.core_rows.OnRuns.{HasRun}
use Rattle.protocol.specs.Conditions.{IsAllowed, conditions}
use Rattle.protocol.specs.Effects.{after, cell_at}
use Rattle.protocol.specs.Events.{Admit, End, Abort, Prepare, Vouch, Decide, Seal, Finish}
use Rattle.protocol.specs.Fixed.{Fixed, Next, Go, Ended, base, is_reader}
use Rattle.protocol.specs.OnBook.{mark_if, marked, new_act, with_result, noted_for, noted_from, decided_as, decided_status, sealed, sealed_status, has_left, cascaded, failed_tx, why}
use Rattle.protocol.specs.OnPost.{next_act}
use Rattle.protocol.specs.Parts.{Status, Live, Doomed, Decided, Sealed, Joined, Act, Outcome, Log, Machine}
use Rattle.protocol.specs.Records.{is_prepare}
use Rattle.protocol.specs.Verdicts.{taken_along}
use Rattle.protocol.specs.Words.{is_empty, holds, act_of, joined_of, has_act, outcome_of, is_value, is_failure, is_live_status, is_doomed, is_decided, is_sealed, is_live_act, is_vouched_everywhere}
use Rattle.protocol_laws.proofs.first.Drawn.{numbers_drawn_once}
use Rattle.protocol_records.proofs.recording.RecordsTold.{holds_weaker}
use Rattle.protocol_ready.proofs.Sound.{sound}
use Rattle.protocol_ready.proofs.TouchedListed.{no}
use Rattle.protocol_ready.proofs.TouchedParts.{durable_stays}
use Rattle.ready_news.proofs.InPost.{holds_back, changed_back}

-- who is given up
abbrev pub is_out : Act → Bool
is_out x = is_doomed x.status

-- what the book asks of an ACT that is vouched for
abbrev unvouched : ℕ → Act → Bool
unvouched a x = is_live_act x && (not (is_doomed x.status) && holds (λ p. p.prepared && not p.vouched) (joined_of a x))

-- who may leave its actors, and is not given up, is sealed
pub is_over : (o : Option Act) → (holds is_out o ≡ true → ⊥) → holds (λ x. is_doomed x.status || is_sealed x.status) o ≡ true → holds (λ x. is_sealed x.status) o ≡ true
is_over None stays h = no h
is_over (Some x) stays h = elim (or_cases (is_doomed x.status) (is_sealed x.status) h) [ inl d ↦ absurd (stays d) | inr e ↦ e ]

-- no log has more durable than it holds
abbrev pub SyncedWithin : Machine Rest → Type 0
SyncedWithin s = AllByRecursion (λ (g : Log). g.synced ≤ length g.records) s.logs

pub synced_within : (w : Fixed Rest) (s : Machine Rest) → HasRun w s → SyncedWithin s
synced_within w s r = subst SyncedWithin (sym r.is_reached) (sound w r.events (λ w es text run. numbers_drawn_once w es text run) r.text r.run).synced

-- ---- an ACT that is new has nothing to go on with

admitted_same : (t : ℕ) (p : Act → Bool) (n : Act) (xs : List Act) → (p n ≡ true → ⊥) → holds p (act_of t (xs ++ n ∷ [])) ≡ true → act_of t (xs ++ n ∷ []) ≡ act_of t xs
admitted_same t p n [] none h = by (n.tid == t) h
  where
    by : (b : Bool) → holds p (if b then Some n else None) ≡ true → (if b then Some n else None) ≡ None
    by true g = absurd (none g)
    by false g = refl
admitted_same t p n (x ∷ xs) none h = by (x.tid == t) h (admitted_same t p n xs none)
  where
    by : (b : Bool) → holds p (if b then Some x else act_of t (xs ++ n ∷ [])) ≡ true → (holds p (act_of t (xs ++ n ∷ [])) ≡ true → act_of t (xs ++ n ∷ []) ≡ act_of t xs)
        → (if b then Some x else act_of t (xs ++ n ∷ [])) ≡ (if b then Some x else act_of t xs)
    by true g i = refl
    by false g i = i g

module _ (w : Fixed Rest) (v : ℕ) (s : Machine Rest) (t : ℕ) where
  abbrev comer : Act
  comer = new_act v (next_act s.ring) (is_reader w (next_act s.ring)) (base w.text)

  pub admit_prepare : (a : ℕ) → IsAllowed w (Prepare t a) (after w (Admit v) s) → IsAllowed w (Prepare t a) s
  unfolding conditions after
  admit_prepare a h =
      let same = admitted_same t (λ x. is_value x.result && not (is_doomed x.status)) comer s.book.acts (λ g. no g) h.0 in
      (subst (λ o. holds (λ x. is_value x.result && not (is_doomed x.status)) o ≡ true) same h.0, (subst (λ o. holds (λ x. holds (λ p. not p.prepared) (joined_of a x)) o ≡ true) same h.1.0, tt))

  pub admit_vouch : (a : ℕ) → IsAllowed w (Vouch t a) (after w (Admit v) s) → IsAllowed w (Vouch t a) s
  unfolding conditions after
  admit_vouch a h =
      let same = admitted_same t (unvouched a) comer s.book.acts (λ g. no g) h.0 in
      (subst (λ o. holds (unvouched a) o ≡ true) same h.0, h.1)

  pub admit_decide : IsAllowed w (Decide t) (after w (Admit v) s) → IsAllowed w (Decide t) s
  unfolding conditions after
  admit_decide h =
      let same = admitted_same t (λ x. is_some x.result && is_live_status x.status) comer s.book.acts (λ g. no g) h.0 in (
        subst (λ o. holds (λ x. is_some x.result && is_live_status x.status) o ≡ true) same h.0,
        (
          subst (λ o. holds (λ x. is_failure x.result || is_vouched_everywhere x) o ≡ true) same h.1.0,
          (subst (λ o. holds (λ x. nat_le x.m (max s.desk.settled (base w.text))) o ≡ true) same h.1.1.0, tt),
        ),
      )

  pub admit_seal : IsAllowed w (Seal t) (after w (Admit v) s) → IsAllowed w (Seal t) s
  unfolding conditions after
  admit_seal h =
      let same = admitted_same t (λ x. is_decided x.status) comer s.book.acts (λ g. no g) h.0 in
      (subst (λ o. holds (λ x. is_decided x.status) o ≡ true) same h.0, h.1)

  pub admit_finish : (a : ℕ) → IsAllowed w (Finish t a) (after w (Admit v) s) → IsAllowed w (Finish t a) s
  unfolding conditions after
  admit_finish a h =
      let same = admitted_same t (λ x. is_doomed x.status || is_sealed x.status) comer s.book.acts (λ g. no g) h.0 in
      (subst (λ o. holds (λ x. is_doomed x.status || is_sealed x.status) o ≡ true) same h.0, (subst (λ o. holds (λ x. holds (λ p. not p.finished) (joined_of a x)) o ≡ true) same h.1.0, tt))

-- ---- an ACT that ends: votes, seals and leaving do not read a result

ended_back : (p : Act → Bool) → ((x : Act) (r : TxResult) → p (with_result r x) ≡ true → p x ≡ true) → (u t : ℕ) (is_act : Bool) (o : Option (Outcome Rest)) (acts : List Act)
    → holds p (act_of t (if is_act then noted_from u o acts else acts)) ≡ true → holds p (act_of t acts) ≡ true
ended_back p back u t false o acts h = h
ended_back p back u t true None acts h = h
ended_back p back u t true (Some x) acts h = by x.next h
  where
    by : (n : Next Rest) → holds p (act_of t (noted_for u n acts)) ≡ true → holds p (act_of t acts) ≡ true
    by (Go b control) g = g
    by (Ended r) g = changed_back p u (with_result r) (λ x. refl) (λ x. back x r) t acts g

module _ (w : Fixed Rest) (v c : ℕ) (s : Machine Rest) (t : ℕ) where
  pub end_vouch : (a : ℕ) → IsAllowed w (Vouch t a) (after w (End v c) s) → IsAllowed w (Vouch t a) s
  unfolding conditions after
  end_vouch a h = (ended_back (unvouched a) (λ x r g. g) v t (has_act v (cell_at s c).entries) (outcome_of v (cell_at s c).outbox) s.book.acts h.0, h.1)

  pub end_seal : IsAllowed w (Seal t) (after w (End v c) s) → IsAllowed w (Seal t) s
  unfolding conditions after
  end_seal h = (ended_back (λ x. is_decided x.status) (λ x r g. g) v t (has_act v (cell_at s c).entries) (outcome_of v (cell_at s c).outbox) s.book.acts h.0, h.1)

  pub end_finish : (a : ℕ) → IsAllowed w (Finish t a) (after w (End v c) s) → IsAllowed w (Finish t a) s
  unfolding conditions after
  end_finish a h = (
    ended_back (λ x. is_doomed x.status || is_sealed x.status) (λ x r g. g) v t (has_act v (cell_at s c).entries) (outcome_of v (cell_at s c).outbox) s.book.acts h.0,
    (ended_back (λ x. holds (λ p. not p.finished) (joined_of a x)) (λ x r g. g) v t (has_act v (cell_at s c).entries) (outcome_of v (cell_at s c).outbox) s.book.acts h.1.0, tt),
  )

-- ---- an ACT that is decided or sealed is given up where it was

decided_doom : (c : ℕ) (valued : Bool) (st : Status) → is_doomed (decided_status c valued st) ≡ is_doomed st
decided_doom c true Live = refl
decided_doom c false Live = refl
decided_doom c valued (Doomed v) = refl
decided_doom c valued (Decided d) = refl
decided_doom c valued (Sealed d) = refl

sealed_doom : (st : Status) → is_doomed (sealed_status st) ≡ is_doomed st
sealed_doom Live = refl
sealed_doom (Doomed v) = refl
sealed_doom (Decided c) = refl
sealed_doom (Sealed c) = refl

sealed_live : (st : Status) → is_live_status (sealed_status st) ≡ is_live_status st
sealed_live Live = refl
sealed_live (Doomed v) = refl
sealed_live (Decided c) = refl
sealed_live (Sealed c) = refl

-- whether it gives a value, and waits to be vouched for, by whether it is given up
abbrev values : Act → Bool → Bool
values x doomed = is_value x.result && not doomed

abbrev waits : ℕ → Act → Bool → Bool
waits a x doomed = not (if is_empty x.places then doomed else list_all (λ p. p.finished) x.places) && (not doomed && holds (λ p. p.prepared && not p.vouched) (joined_of a x))

module _ (w : Fixed Rest) (v : ℕ) (s : Machine Rest) (t : ℕ) where
  pub decide_prepare : (a : ℕ) → IsAllowed w (Prepare t a) (after w (Decide v) s) → IsAllowed w (Prepare t a) s
  unfolding conditions after
  decide_prepare a h = (
    changed_back (λ x. values x (is_doomed x.status)) v (decided_as s.book.next_c) (λ x. refl) (λ x g. subst (λ d. values x d ≡ true) (decided_doom s.book.next_c (is_value x.result) x.status) g) t s.book.acts h.0,
    (changed_back (λ x. holds (λ p. not p.prepared) (joined_of a x)) v (decided_as s.book.next_c) (λ x. refl) (λ x g. g) t s.book.acts h.1.0, tt),
  )

  pub decide_vouch : (a : ℕ) → SyncedWithin s → IsAllowed w (Vouch t a) (after w (Decide v) s) → IsAllowed w (Vouch t a) s
  unfolding conditions after
  decide_vouch a within h = (
    changed_back (λ x. waits a x (is_doomed x.status)) v (decided_as s.book.next_c) (λ x. refl) (λ x g. subst (λ d. waits a x d ≡ true) (decided_doom s.book.next_c (is_value x.result) x.status) g) t s.book.acts h.0,
    (sym (durable_stays w (Decide v) s (is_prepare t a) (a % w.text.logs) within refl) ∙ h.1.0, tt),
  )

  pub seal_prepare : (a : ℕ) → IsAllowed w (Prepare t a) (after w (Seal v) s) → IsAllowed w (Prepare t a) s
  unfolding conditions after
  seal_prepare a h = (
    changed_back (λ x. values x (is_doomed x.status)) v sealed (λ x. refl) (λ x g. subst (λ d. values x d ≡ true) (sealed_doom x.status) g) t s.book.acts h.0,
    (changed_back (λ x. holds (λ p. not p.prepared) (joined_of a x)) v sealed (λ x. refl) (λ x g. g) t s.book.acts h.1.0, tt),
  )

  pub seal_vouch : (a : ℕ) → IsAllowed w (Vouch t a) (after w (Seal v) s) → IsAllowed w (Vouch t a) s
  unfolding conditions after
  seal_vouch a h = (changed_back (λ x. waits a x (is_doomed x.status)) v sealed (λ x. refl) (λ x g. subst (λ d. waits a x d ≡ true) (sealed_doom x.status) g) t s.book.acts h.0, h.1)

  pub seal_decide : IsAllowed w (Decide t) (after w (Seal v) s) → IsAllowed w (Decide t) s
  unfolding conditions after
  seal_decide h = (
    changed_back (λ x. is_some x.result && is_live_status x.status) v sealed (λ x. refl) (λ x g. subst (λ l. (is_some x.result && l) ≡ true) (sealed_live x.status) g) t s.book.acts h.0,
    (
      changed_back (λ x. is_failure x.result || is_vouched_everywhere x) v sealed (λ x. refl) (λ x g. g) t s.book.acts h.1.0,
      (changed_back (λ x. nat_le x.m (max s.desk.settled (base w.text))) v sealed (λ x. refl) (λ x g. g) t s.book.acts h.1.1.0, tt),
    ),
  )

-- ---- an ACT that leaves an actor was live where it is

own_more : (f x : Bool) → not x ≡ true → not (f && x) ≡ true
own_more true x h = h
own_more false x h = refl

own_same : (f x y : Bool) → (not x ≡ true → not y ≡ true) → not (f && x) ≡ true → not (f && y) ≡ true
own_same true x y g h = g h
own_same false x y g h = refl

still_unfinished : (c : ℕ) (ps : List Joined) → not (list_all (λ p. p.finished) (map (λ p. mark_if (p.actor == c) has_left p) ps)) ≡ true → not (list_all (λ p. p.finished) ps) ≡ true
still_unfinished c [] h = h
still_unfinished c (p ∷ ps) h = by (p.actor == c) h (still_unfinished c ps)
  where
    by : (b : Bool) → not ((mark_if b has_left p).finished && list_all (λ p. p.finished) (map (λ p. mark_if (p.actor == c) has_left p) ps)) ≡ true
        → (not (list_all (λ p. p.finished) (map (λ p. mark_if (p.actor == c) has_left p) ps)) ≡ true → not (list_all (λ p. p.finished) ps) ≡ true)
        → not (p.finished && list_all (λ p. p.finished) ps) ≡ true
    by true g rest = own_more p.finished (list_all (λ p. p.finished) ps) (rest g)
    by false g rest = own_same p.finished (list_all (λ p. p.finished) (map (λ p. mark_if (p.actor == c) has_left p) ps)) (list_all (λ p. p.finished) ps) rest g

still_lives : (c : ℕ) (d : Bool) (ps : List Joined) → not (if is_empty (map (λ p. mark_if (p.actor == c) has_left p) ps) then d else list_all (λ p. p.finished) (map (λ p. mark_if (p.actor == c) has_left p) ps)) ≡ true
    → not (if is_empty ps then d else list_all (λ p. p.finished) ps) ≡ true
still_lives c d [] h = h
still_lives c d (p ∷ ps) h = still_unfinished c (p ∷ ps) h

still_unvouched : (c a : ℕ) (x : Act) → unvouched a (marked c has_left x) ≡ true → unvouched a x ≡ true
still_unvouched c a x h =
    let q : Joined → Bool = λ p. p.prepared && not p.vouched in
    let r = and_parts (is_live_act (marked c has_left x)) (not (is_doomed x.status) && holds q (joined_of a (marked c has_left x))) h in
    let o = and_parts (not (is_doomed x.status)) (holds q (joined_of a (marked c has_left x))) r.1 in
    and_from (is_live_act x) (not (is_doomed x.status) && holds q (joined_of a x)) (still_lives c (is_doomed x.status) x.places r.0)
    (and_from (not (is_doomed x.status)) (holds q (joined_of a x)) o.0
    (holds_back q (λ p. p.actor == a) (λ p. mark_if (p.actor == c) has_left p) (λ p. same p (p.actor == c)) (λ p. back p (p.actor == c)) x.places o.1))
  where
    same : (p : Joined) (b : Bool) → ((mark_if b has_left p).actor == a) ≡ (p.actor == a)
    same p true = refl
    same p false = refl

    back : (p : Joined) (b : Bool) → ((mark_if b has_left p).prepared && not (mark_if b has_left p).vouched) ≡ true → (p.prepared && not p.vouched) ≡ true
    back p true g = g
    back p false g = g

pub finish_vouch : (w : Fixed Rest) (v c : ℕ) (s : Machine Rest) (t a : ℕ) → IsAllowed w (Vouch t a) (after w (Finish v c) s) → IsAllowed w (Vouch t a) s
unfolding conditions after
finish_vouch w v c s t a h = (changed_back (unvouched a) v (marked c has_left) (λ x. refl) (λ x. still_unvouched c a x) t s.book.acts h.0, h.1)

-- ---- a cascade

cascaded_undone : (p : Act → Bool) → ((x : Act) (v : Verdict) → p (record x { n = None; status = Doomed v }) ≡ true → ⊥) → ((x : Act) → p (record x { n = None }) ≡ true → p x ≡ true)
    → (k by : ℕ) (x : Act) → p (cascaded k by x) ≡ true → p x ≡ true
cascaded_undone p none plain k by x h = at (is_live_status x.status && nat_le k x.m) h
  where
    at : (b : Bool) → p (record x { n = None; status = if b then Doomed (taken_along k by) else x.status }) ≡ true → p x ≡ true
    at true g = absurd (none x (taken_along k by) g)
    at false g = plain x g

module _ (w : Fixed Rest) (k : ℕ) (s : Machine Rest) (t : ℕ) where
  cascade_back : (p : Act → Bool) → ((x : Act) → p (cascaded k (failed_tx (why k s.desk)) x) ≡ true → p x ≡ true) → holds p (act_of t (map (cascaded k (failed_tx (why k s.desk))) s.book.acts)) ≡ true → holds p (act_of t s.book.acts) ≡ true
  cascade_back p back h = holds_back p (λ x. x.tid == t) (cascaded k (failed_tx (why k s.desk))) (λ x. refl) back s.book.acts h

  pub abort_prepare : (a : ℕ) → IsAllowed w (Prepare t a) (after w (Abort k) s) → IsAllowed w (Prepare t a) s
  unfolding conditions after
  abort_prepare a h = (
    cascade_back (λ x. is_value x.result && not (is_doomed x.status)) (cascaded_undone (λ x. is_value x.result && not (is_doomed x.status)) (λ x v g. no (and_parts (is_value x.result) false g).1) (λ x g. g) k (failed_tx (why k s.desk))) h.0,
    (cascade_back (λ x. holds (λ p. not p.prepared) (joined_of a x)) (λ x g. g) h.1.0, tt),
  )

  pub abort_vouch : (a : ℕ) → IsAllowed w (Vouch t a) (after w (Abort k) s) → IsAllowed w (Vouch t a) s
  unfolding conditions after
  abort_vouch a h = (cascade_back (unvouched a) (cascaded_undone (unvouched a) (λ x v g. no (and_parts (is_live_act (record x { status = Doomed v })) false g).1) (λ x g. g) k (failed_tx (why k s.desk))) h.0, h.1)

  pub abort_decide : IsAllowed w (Decide t) (after w (Abort k) s) → IsAllowed w (Decide t) s
  unfolding conditions after
  abort_decide h = (
    cascade_back (λ x. is_some x.result && is_live_status x.status) (cascaded_undone (λ x. is_some x.result && is_live_status x.status) (λ x v g. no (and_parts (is_some x.result) false g).1) (λ x g. g) k (failed_tx (why k s.desk))) h.0,
    (
      cascade_back (λ x. is_failure x.result || is_vouched_everywhere x) (λ x g. g) h.1.0,
      (cascade_back (λ x. nat_le x.m (max s.desk.settled (base w.text))) (λ x g. g) h.1.1.0, tt),
    ),
  )

  pub abort_seal : IsAllowed w (Seal t) (after w (Abort k) s) → IsAllowed w (Seal t) s
  unfolding conditions after
  abort_seal h = (cascade_back (λ x. is_decided x.status) (cascaded_undone (λ x. is_decided x.status) (λ x v g. no g) (λ x g. g) k (failed_tx (why k s.desk))) h.0, h.1)

  -- of one that is not given up
  pub abort_finish : (a : ℕ) → (holds is_out (act_of t (after w (Abort k) s).book.acts) ≡ true → ⊥) → IsAllowed w (Finish t a) (after w (Abort k) s) → IsAllowed w (Finish t a) s
  unfolding conditions after
  abort_finish a stays h = (
    holds_weaker (λ x. is_sealed x.status) (λ x. is_doomed x.status || is_sealed x.status) (act_of t s.book.acts) (λ x g. or_right (is_doomed x.status) (is_sealed x.status) g)
        (cascade_back (λ x. is_sealed x.status) (cascaded_undone (λ x. is_sealed x.status) (λ x v g. no g) (λ x g. g) k (failed_tx (why k s.desk))) (is_over _ stays h.0)),
    (cascade_back (λ x. holds (λ p. not p.finished) (joined_of a x)) (λ x g. g) h.1.0, tt),
  )
