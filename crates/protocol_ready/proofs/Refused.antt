-- What an event may not refuse stays allowed.
use Rattle.std.specs.Prelude.{◌≡◌, refl, ℕ, zero, suc, ◌%◌, ◌==◌, is_some, Bool, true, false, not, ◌&&◌, ◌||◌, if◌then◌else◌, Option, Some, None, List, [], ◌∷◌, ◌++◌, length, map, filter, slice_get}
use Rattle.std.specs.List.{list_all}
use Rattle.std.proofs.Common.{sym, ap, subst, ◌∙◌}
use Rattle.std.proofs.lemmas.Bool.{eqb-true, and_parts, or_parts, true≢false, or_from}
use Rattle.protocol.specs.Fixed.{Fixed}
use Rattle.protocol.specs.Records.{LogRecord, is_info, is_complete, is_commit, is_prepare, is_act_commit}
use Rattle.protocol.specs.Parts.{Who, OfBatch, OfAct, Status, Live, Doomed, Decided, Sealed, Act, Joined, Batch, ControlMessage, Log, Machine}
use Rattle.protocol.specs.Events.{Event, Submit, Pass, Form, Admit, Arrive, Ask, Take, Run, Send, End, Close, Complete, Sync, Note, Commit, Settle, Abort, Rollback, DropSub, DropControl, Prepare, Vouch, Decide, Seal, Finish, Reply, Trim}
use Rattle.protocol.specs.Words.{is_empty, holds, count, is_value, is_aborted, is_doomed, is_decided, act_of, joined_of, is_live_act, is_finished_everywhere, is_live_batch, is_next_to_commit, is_durable, control_of, is_going, is_ended}
use Rattle.protocol.specs.Verdicts.{verdict}
use Rattle.protocol.specs.Conditions.{AllTrue, IsAllowed, conditions, is_given_up, epoch}
use Rattle.protocol.specs.Contents.{Content, Statuses, FinishedMarks, AbortedMarks, TrimmedMarks, IsSame, is_changed}
use Rattle.protocol.specs.Effects.{after}
use Rattle.protocol.specs.Runs.{EachAllowed, state_after, reached, opening}
use Rattle.protocol_verdicts.specs.Evidence.{VerdictsStay}
use Rattle.snap_base.specs.declared.verdicts.Verdict.{Verdict}
use Rattle.protocol_laws.proofs.first.Lists.{some_held}
use Rattle.protocol_laws.specs.OneWay.{EachBecame, ActWent, LogGrew, StatusWent, WentOn}
use Rattle.protocol_ready.specs.Touched.{IsSound, is_abort, reads_changed, changes_note, changes_trim, changes_replied}
use Rattle.protocol_ready.specs.Refusing.{taken_by, handed_on_by, left_by, done_by, fated_by, moved_by, vouched_by, committed_by, cut_by, rolled_back_by, is_at, is_form, spreads, is_ask, is_on_batches, is_settle, is_in_reach, is_reply}
use Rattle.protocol_ready.proofs.Cited.{Framed}
use Rattle.protocol_ready.proofs.Reached as reach
use Rattle.protocol_ready.proofs.TouchedEvents.{untouched}
use Rattle.protocol_ready.proofs.Remaining.{both_apart, control_went, inbox_went, outbox_went, new_went, not_doomed_went, result_went}
use Rattle.protocol_ready.proofs.Dooming.{trimmed_form, arrived_seal, asked_seal, arrived_finish, asked_finish, arrived_admit, decided_admit, sealed_admit, finished_admit}
use Rattle.protocol_ready.proofs.Waiting.{Stays, never, submit_went, submitted_form, submitted_admit, pass_went, posted_sub, posted_drop, sync_went, settle_stage, trim_stage, note_stage, commit_stage, abort_stage, formed_note, formed_settle, formed_trim, noted_more, admitted_prepare, admitted_vouch, admitted_decide, admitted_seal, admitted_finish}
use Rattle.protocol_ready.proofs.Standing.{entry_went, clear_went, turn_went, undone_went, lacking_went, ahead_went, all_done_went}
use Rattle.protocol_ready.proofs.TouchedParts.{epoch_stays}
use Rattle.protocol_ready.proofs.TouchedActs.{act_test, plain, vouch_bears}
use Rattle.protocol_ready.proofs.TouchedBatches.{open_test, note_test, trim_test, commits_test, pacts_test, noted_test, replied_stays, cascades_stay}
use Rattle.protocol_ready.proofs.TouchedVerdicts.{next_stays}

-- ---- how many are live

abbrev pub are_left : List Bool → Status → Bool
are_left marks st = if is_empty marks then is_doomed st else list_all (λ b. b) marks

pub all_marks : {X : Type 0} (f : X → Bool) (xs : List X) → list_all f xs ≡ list_all (λ b. b) (map f xs)
all_marks f [] = refl
all_marks f (x ∷ xs) = rw (all_marks f xs) refl

pub finished_as : (x : Act) → is_finished_everywhere x ≡ are_left (map (λ p. p.finished) x.places) x.status
finished_as x = by x.places
  where
    by : (ps : List Joined) → (if is_empty ps then is_doomed x.status else list_all (λ p. p.finished) ps) ≡ are_left (map (λ p. p.finished) ps) x.status
    by [] = refl
    by (p ∷ ps) = rw (all_marks (λ p. p.finished) ps) refl

pub act_as : (x y : Act) → map (λ p. p.finished) y.places ≡ map (λ p. p.finished) x.places → y.status ≡ x.status → is_live_act y ≡ is_live_act x
act_as x y e f = ap not (finished_as y ∙ rw (e, f) refl ∙ sym (finished_as x))

pub batch_as : (x y : Batch) → map (λ p. p.trimmed) y.places ≡ map (λ p. p.trimmed) x.places → y.aborted ≡ x.aborted → is_live_batch y ≡ is_live_batch x
batch_as x y e f = rw (f, all_marks (λ p. p.trimmed) y.places, all_marks (λ p. p.trimmed) x.places, e) refl

pub one_more : {X : Type 0} (p q : Bool) (x y : X) (xs ys : List X) → q ≡ p → length ys ≡ length xs → length (if q then y ∷ ys else ys) ≡ length (if p then x ∷ xs else xs)
one_more true true x y xs ys e f = ap suc f
one_more false false x y xs ys e f = f
one_more true false x y xs ys e f = absurd (true≢false (sym e))
one_more false true x y xs ys e f = absurd (true≢false e)

pub live_acts : (xs ys : List Act) → map (λ x. map (λ p. p.finished) x.places) ys ≡ map (λ x. map (λ p. p.finished) x.places) xs → map (λ x. x.status) ys ≡ map (λ x. x.status) xs → count is_live_act ys ≡ count is_live_act xs
live_acts [] [] e f = refl
live_acts [] (y ∷ ys) e f = absurd (cc e)
live_acts (x ∷ xs) [] e f = absurd (cc e)
live_acts (x ∷ xs) (y ∷ ys) e f = one_more (is_live_act x) (is_live_act y) x y (filter is_live_act xs) (filter is_live_act ys) (act_as x y (cc e) (cc f)) (live_acts xs ys (cc e) (cc f))

pub live_batches : (xs ys : List Batch) → map (λ b. map (λ p. p.trimmed) b.places) ys ≡ map (λ b. map (λ p. p.trimmed) b.places) xs → map (λ b. b.aborted) ys ≡ map (λ b. b.aborted) xs → count is_live_batch ys ≡ count is_live_batch xs
live_batches [] [] e f = refl
live_batches [] (y ∷ ys) e f = absurd (cc e)
live_batches (x ∷ xs) [] e f = absurd (cc e)
live_batches (x ∷ xs) (y ∷ ys) e f = one_more (is_live_batch x) (is_live_batch y) x y (filter is_live_batch xs) (filter is_live_batch ys) (batch_as x y (cc e) (cc f)) (live_batches xs ys (cc e) (cc f))

pub form_went : {C : Type 0} (w : Fixed C) (e : Event) (s : Machine C) (k : ℕ) → ((q : Content) → is_changed q e ≡ false → IsSame q s (after w e s)) → is_abort e ≡ false → IsAllowed w e s → (Form k ≡ e → ⊥) → Stays w e s (Form k)
unfolding conditions after
form_went w (Submit n) s k same z al apart h = submitted_form w n s k h
form_went w (Pass d) s k same z al apart h = absurd (never _ (and_parts _ _ al.1.0).0 h.1.0)
form_went w (Form j) s k same z al apart h = absurd (apart (ap Form (eqb-true k _ h.0 ∙ sym (eqb-true j _ al.0))))
form_went w (Abort j) s k same z al apart h = absurd (true≢false z)
form_went w (Trim j a) s k same z al apart h = trimmed_form w j a s k h
form_went w e s k same z al apart h = rw (live_batches s.desk.batches (after w e s).desk.batches (same TrimmedMarks refl) (same AbortedMarks refl)) h

pub admit_went : {C : Type 0} (w : Fixed C) (e : Event) (s : Machine C) (t : ℕ) → ((q : Content) → is_changed q e ≡ false → IsSame q s (after w e s)) → is_abort e ≡ false → IsAllowed w e s → (is_form e || is_ask e) ≡ false → (Admit t ≡ e → ⊥) → Stays w e s (Admit t)
unfolding conditions after
admit_went w (Submit n) s t same z al g apart h = submitted_admit w n s t h
admit_went w (Pass d) s t same z al g apart h = absurd (never _ (and_parts _ _ al.1.0).1 h.1.0)
admit_went w (Form j) s t same z al g apart h = absurd (true≢false g)
admit_went w (Admit u) s t same z al g apart h = absurd (apart (ap Admit (eqb-true t _ h.0 ∙ sym (eqb-true u _ al.0))))
admit_went w (Abort j) s t same z al g apart h = absurd (true≢false z)
admit_went w (Arrive k a) s t same z al g apart h = arrived_admit w k a s t h
admit_went w (Ask u a) s t same z al g apart h = absurd (true≢false g)
admit_went w (Decide u) s t same z al g apart h = decided_admit w u s t h
admit_went w (Seal u) s t same z al g apart h = sealed_admit w u s t h
admit_went w (Finish u a) s t same z al g apart h = finished_admit w u a s t h
admit_went w e s t same z al g apart h = rw (live_acts s.book.acts (after w e s).book.acts (same FinishedMarks refl) (same Statuses refl)) h

-- ---- what goes one way

durable_went : (test : LogRecord → Bool) (gs hs : List Log) (l : ℕ) → EachBecame LogGrew gs hs → holds (is_durable test) (slice_get gs l) ≡ true → holds (is_durable test) (slice_get hs l) ≡ true
durable_went test [] hs l went h = absurd (true≢false (sym h))
durable_went test (g ∷ gs) [] l went h = absurd went
durable_went test (g ∷ gs) (k ∷ hs) zero went h = went.0.durable test h
durable_went test (g ∷ gs) (k ∷ hs) (suc l) went h = durable_went test gs hs l went.1 h

doomed_went : (st to : Status) → StatusWent st to → is_doomed st ≡ true → is_doomed to ≡ true
doomed_went Live to went h = absurd (true≢false (sym h))
doomed_went (Doomed v) to went h = ap is_doomed went
doomed_went (Decided c) to went h = absurd (true≢false (sym h))
doomed_went (Sealed c) to went h = absurd (true≢false (sym h))

act_doomed_went : (t : ℕ) (xs ys : List Act) → EachBecame ActWent xs ys → holds (λ x. is_doomed x.status) (act_of t xs) ≡ true → holds (λ x. is_doomed x.status) (act_of t ys) ≡ true
act_doomed_went t [] ys went h = absurd (true≢false (sym h))
act_doomed_went t (x ∷ xs) [] went h = absurd went
act_doomed_went t (x ∷ xs) (y ∷ ys) went h = rw (ap (λ n. n == t) went.0.tid) (by (x.tid == t) h (act_doomed_went t xs ys went.1))
  where
    by : (b : Bool) → holds (λ x. is_doomed x.status) (if b then Some x else act_of t xs) ≡ true
        → (holds (λ x. is_doomed x.status) (act_of t xs) ≡ true → holds (λ x. is_doomed x.status) (act_of t ys) ≡ true)
        → holds (λ x. is_doomed x.status) (if b then Some y else act_of t ys) ≡ true
    by true i r = doomed_went x.status y.status went.0.status i
    by false i r = r i

given_up_went : {C : Type 0} (w : Fixed C) (e : Event) (s : Machine C) (o : Option (ControlMessage C)) → is_abort e ≡ false → EachBecame ActWent s.book.acts (after w e s).book.acts
    → holds (λ m. is_given_up m.who s.book) o ≡ true → holds (λ m. is_given_up m.who (after w e s).book) o ≡ true
given_up_went w e s None z went h = h
given_up_went w e s (Some m) z went h = by m.who h
  where
    by : (who : Who) → is_given_up who s.book ≡ true → is_given_up who (after w e s).book ≡ true
    by (OfBatch k) g = ap (is_aborted k) (cascades_stay w e s z) ∙ g
    by (OfAct t) g = act_doomed_went t s.book.acts (after w e s).book.acts went g

-- ---- the event itself is another one

other_note : (e : Event) (k a : ℕ) → (Note k a ≡ e → ⊥) → changes_note e k a ≡ false
other_note (Note j b) k a n = both_apart Note j k b a n
other_note _ k a n = refl

other_trim : (e : Event) (k a : ℕ) → (Trim k a ≡ e → ⊥) → changes_trim e k a ≡ false
other_trim (Trim j b) k a n = both_apart Trim j k b a n
other_trim _ k a n = refl

other_reply : (e : Event) (m : ℕ) → (Reply m ≡ e → ⊥) → changes_replied e m ≡ false
other_reply (Reply j) m n = by (j == m) refl
  where
    by : (x : Bool) → (j == m) ≡ x → x ≡ false
    by true p = absurd (n (ap Reply (sym (eqb-true j m p))))
    by false p = refl
other_reply _ m n = refl

-- ---- each kind

-- what reads nothing that is changed
unread : {C : Type 0} (w : Fixed C) (e : Event) (s : Machine C) (f : Event) → Framed w → IsSound w s → IsAllowed w e s → is_abort e ≡ false → reads_changed w e s f ≡ false → Stays w e s f
unread w e s f framed ok al z h = subst AllTrue (sym (untouched w s framed e f ok al (or_from (is_abort e) (reads_changed w e s f) z h)))

-- whatever the event, a transaction that has a verdict is answered
reply_stays : {C : Type 0} (w : Fixed C) (e : Event) (s : Machine C) (n : ℕ)
    → ((m : ℕ) → is_some (verdict m s.book s.desk) ≡ true → is_some (verdict m (after w e s).book (after w e s).desk) ≡ true)
    → (Reply n ≡ e → ⊥) → Stays w e s (Reply n)
unfolding conditions
reply_stays w e s n told apart allowed = rw (replied_stays w e s n (other_reply e n apart)) (allowed.0, (told n allowed.1.0, tt))

keeps : {C : Type 0} (w : Fixed C) (e : Event) (s : Machine C) (f : Event) → Framed w → IsSound w s → WentOn s (after w e s)
    → ((n : ℕ) → is_some (verdict n s.book s.desk) ≡ true → is_some (verdict n (after w e s).book (after w e s).desk) ≡ true)
    → IsAllowed w e s → is_abort e ≡ false → is_in_reach e f ≡ false → (f ≡ e → ⊥) → Stays w e s f
unfolding conditions
keeps w e s (Submit n) framed ok went told al z h apart allowed = submit_went w e s n z al apart allowed
keeps w e s (Pass c) framed ok went told al z h apart allowed = pass_went w e s c z al h apart allowed
keeps w e s (Form k) framed ok went told al z h apart allowed = form_went w e s k (framed e s) z al apart allowed
keeps w e s (Admit t) framed ok went told al z h apart allowed = admit_went w e s t (framed e s) z al h apart allowed
keeps w (Form j) s (Arrive k a) framed ok went told al z h apart allowed = posted_sub w j s k a allowed
keeps w e s (Arrive k a) framed ok went told al z h apart allowed =
    unread w e s (Arrive k a) framed ok al z (or_from _ _ (or_from _ _ refl (reach.sub e k a h)) (or_from _ _ (reach.reached_epochs e a h) (reach.tails e a h))) allowed
keeps w e s (Ask t a) framed ok went told al z h apart allowed =
    let o = or_parts (spreads e) (is_at a (rolled_back_by e) || is_at t (taken_by e)) h in
    let q = or_parts (is_at a (rolled_back_by e)) (is_at t (taken_by e)) o.1 in
    rw (control_went w e s t q.1 (some_held _ _ allowed.0), cascades_stay w e s z, epoch_stays w e s a (λ n. n == epoch s.book) (reach.epochs e a q.0))
    (allowed.0, (not_doomed_went w e s t z o.0 allowed.1.0, (new_went w e s t a o.0 q.0 allowed.1.1.0, allowed.1.1.1)))
keeps w e s (Take t a) framed ok went told al z h apart allowed =
    let o = or_parts (is_at a (cut_by e)) (is_at t (taken_by e) || is_at t (left_by e)) h in
    let q = or_parts (is_at t (taken_by e)) (is_at t (left_by e)) o.1 in
    rw (control_went w e s t q.0 (some_held _ _ allowed.0)) (allowed.0, (entry_went w e s t a o.0 q.1 allowed.1.0, tt))
keeps w e s (Run t a) framed ok went told al z h apart allowed =
    let o = or_parts (is_at a (cut_by e)) (is_at t (left_by e)) h in
    (inbox_went w e s t a o.0 o.1 apart allowed.0, (clear_went w e s t a o.0 o.1 allowed.1.0, (turn_went w e s t a o.0 o.1 allowed.1.1.0, tt)))
keeps w e s (Send t a) framed ok went told al z h apart allowed =
    let o = or_parts (is_at a (rolled_back_by e)) (is_at t (handed_on_by e)) h in
    (outbox_went w e s t a (λ x. is_going x.next) o.0 o.1 allowed.0, tt)
keeps w e s (End t a) framed ok went told al z h apart allowed =
    let o = or_parts (is_at a (rolled_back_by e)) (is_at t (handed_on_by e)) h in
    (outbox_went w e s t a (λ x. is_ended x.next) o.0 o.1 allowed.0, tt)
keeps w e s (Close t a) framed ok went told al z h apart allowed =
    let o = or_parts (is_at a (cut_by e)) (is_at t (done_by e)) h in
    (result_went w e s t allowed.0, (undone_went w e s t a o.0 o.1 allowed.1.0, tt))
keeps w e s (Complete k a) framed ok went told al z h apart allowed = (lacking_went w e s k a h apart allowed.0, (ahead_went w e s k a h allowed.0 allowed.1.0, (all_done_went w e s k a h allowed.1.1.0, tt)))
keeps w e s (Sync l) framed ok went told al z h apart allowed = sync_went w e s l apart allowed
keeps w (Form j) s (Note k a) framed ok went told al z h apart allowed = (
  formed_note w j s k a allowed.0,
  (durable_went (is_complete k a) s.logs (after w (Form j) s).logs (a % w.text.logs) went.logs allowed.1.0, tt),
)
keeps w e s (Note k a) framed ok went told al z h apart allowed = (
  note_test w e s k a z (note_stage w e s k a refl h al allowed) (other_note e k a apart) ∙ allowed.0,
  (durable_went (is_complete k a) s.logs (after w e s).logs (a % w.text.logs) went.logs allowed.1.0, tt),
)
keeps w (Note j b) s (Commit k) framed ok went told al z h apart allowed = (
  rw (next_stays w (Note j b) s k (framed (Note j b) s) ok.bids al z refl, open_test w (Note j b) s k (is_next_to_commit k s.desk.batches) z refl) allowed.0,
  (
    pacts_test w (Note j b) s k (list_all (λ p. is_value p.result)) z refl refl ∙ allowed.1.0,
    (noted_more w j b s k allowed.1.1.0, (durable_went (is_info k) s.logs (after w (Note j b) s).logs (k % w.text.logs) went.logs allowed.1.1.1.0, tt)),
  ),
)
keeps w e s (Commit k) framed ok went told al z h apart allowed =
    let st = commit_stage e k h apart in (
      rw (next_stays w e s k (framed e s) ok.bids al z (reach.next e k h), open_test w e s k (is_next_to_commit k s.desk.batches) z st) allowed.0,
      (
        pacts_test w e s k (list_all (λ p. is_value p.result)) z st (reach.results e s k h) ∙ allowed.1.0,
        (noted_test w e s k z st refl ∙ allowed.1.1.0, (durable_went (is_info k) s.logs (after w e s).logs (k % w.text.logs) went.logs allowed.1.1.1.0, tt)),
      ),
    )
keeps w (Form j) s (Settle k) framed ok went told al z h apart allowed = (
  formed_settle w j s k allowed.0,
  (durable_went (is_commit k) s.logs (after w (Form j) s).logs (k % w.text.logs) went.logs allowed.1.0, tt),
)
keeps w e s (Settle k) framed ok went told al z h apart allowed = (
  commits_test w e s k z (settle_stage w e s k refl al apart allowed) ∙ allowed.0,
  (durable_went (is_commit k) s.logs (after w e s).logs (k % w.text.logs) went.logs allowed.1.0, tt),
)
keeps w e s (Abort k) framed ok went told al z h apart allowed =
    let o = or_parts (is_on_batches e) (is_at k (committed_by e)) h in
    unread w e s (Abort k) framed ok al z (or_from _ _ (abort_stage e k o.0 o.1) (or_from _ _ (reach.results e s k o.0) (reach.next e k o.0))) allowed
keeps w e s (Rollback a) framed ok went told al z h apart allowed = unread w e s (Rollback a) framed ok al z (reach.epochs e a h) allowed
keeps w (Form j) s (DropSub k a) framed ok went told al z h apart allowed = posted_drop w j s k a allowed
keeps w e s (DropSub k a) framed ok went told al z h apart allowed = unread w e s (DropSub k a) framed ok al z (or_from _ _ refl (reach.sub e k a h)) allowed
keeps w e s (DropControl t) framed ok went told al z h apart allowed =
    rw (control_went w e s t h allowed.0) (allowed.0, (given_up_went w e s (control_of t s.post.controls) z went.acts allowed.1.0, tt))
keeps w (Admit u) s (Prepare t a) framed ok went told al z h apart allowed = admitted_prepare w u s t a allowed
keeps w e s (Prepare t a) framed ok went told al z h apart allowed =
    let o = or_parts (spreads e) (is_at t (fated_by e)) h in
    unread w e s (Prepare t a) framed ok al z (or_from _ _ (reach.acts e s t refl o.0 o.1) (reach.prepares e t a apart)) allowed
keeps w (Admit u) s (Vouch t a) framed ok went told al z h apart allowed = admitted_vouch w u s t a allowed
keeps w e s (Vouch t a) framed ok went told al z h apart allowed =
    let o = or_parts (spreads e) (is_at t (fated_by e) || is_at t (moved_by e)) h in
    let q = or_parts (is_at t (fated_by e)) (is_at t (moved_by e)) o.1 in (
      act_test w e s t (λ x. is_live_act x && (not (is_doomed x.status) && holds (λ p. p.prepared && not p.vouched) (joined_of a x))) (λ x. refl) (vouch_bears e t a (or_from _ _ (reach.prepared e t a q.1) (reach.vouches e t a apart)) (reach.left e t q.1)) z (reach.acts e s t refl o.0 q.0) ∙ allowed.0,
      (durable_went (is_prepare t a) s.logs (after w e s).logs (a % w.text.logs) went.logs allowed.1.0, tt),
    )
keeps w (Admit u) s (Decide t) framed ok went told al z h apart allowed = admitted_decide w u s t allowed
keeps w e s (Decide t) framed ok went told al z h apart allowed =
    let o = or_parts (spreads e || is_settle e) (is_at t (fated_by e) || is_at t (vouched_by e)) h in
    let p = or_parts (spreads e) (is_settle e) o.0 in
    let q = or_parts (is_at t (fated_by e)) (is_at t (vouched_by e)) o.1 in
    unread w e s (Decide t) framed ok al z (or_from _ _ (reach.acts e s t refl p.0 q.0) (or_from _ _ (reach.votes e t q.1) (reach.settled e p.1))) allowed
keeps w (Admit u) s (Seal t) framed ok went told al z h apart allowed = admitted_seal w u s t allowed
keeps w (Arrive k b) s (Seal t) framed ok went told al z h apart allowed = arrived_seal w k b s t allowed
keeps w (Ask u b) s (Seal t) framed ok went told al z h apart allowed = asked_seal w u b s t allowed
keeps w e s (Seal t) framed ok went told al z h apart allowed = (
  act_test w e s t (λ x. is_decided x.status) (λ x. refl) (plain (λ x. is_decided x.status) e t (λ b f x. refl)) z (reach.acts e s t refl refl h) ∙ allowed.0,
  (durable_went (is_act_commit t) s.logs (after w e s).logs (t % w.text.logs) went.logs allowed.1.0, tt),
)
keeps w (Admit u) s (Finish t a) framed ok went told al z h apart allowed = admitted_finish w u s t a allowed
keeps w (Arrive k b) s (Finish t a) framed ok went told al z h apart allowed = arrived_finish w k b s t a allowed
keeps w (Ask u b) s (Finish t a) framed ok went told al z h apart allowed = asked_finish w u b s t a allowed
keeps w e s (Finish t a) framed ok went told al z h apart allowed =
    unread w e s (Finish t a) framed ok al z (or_from _ _ (reach.acts e s t refl refl h) (reach.finishes e t a apart)) allowed
keeps w e s (Reply n) framed ok went told al z h apart allowed = reply_stays w e s n told apart allowed
keeps w (Form j) s (Trim k a) framed ok went told al z h apart allowed = (formed_trim w j s k a allowed.0, tt)
keeps w e s (Trim k a) framed ok went told al z h apart allowed = (trim_test w e s k a z (trim_stage w e s k a refl al allowed) (other_trim e k a apart) ∙ allowed.0, tt)

not_both : (b : Bool) → (b && true) ≡ false → b ≡ false
not_both true h = h
not_both false h = h

-- the same of any event: a cascade may refuse all but replies
pub keeps_all : {C : Type 0} (w : Fixed C) (e : Event) (s : Machine C) (f : Event) → Framed w → IsSound w s → WentOn s (after w e s)
    → ((n : ℕ) → is_some (verdict n s.book s.desk) ≡ true → is_some (verdict n (after w e s).book (after w e s).desk) ≡ true)
    → IsAllowed w e s → (is_abort e && not (is_reply f)) ≡ false → is_in_reach e f ≡ false → (f ≡ e → ⊥) → Stays w e s f
keeps_all w e s (Reply n) framed ok went told al z h apart = reply_stays w e s n told apart
keeps_all w e s f framed ok went told al z h apart = keeps w e s f framed ok went told al (not_both (is_abort e) z) h apart

-- ---- a run and one event more

one_after : {C : Type 0} (w : Fixed C) (es : List Event) (e : Event) (s : Machine C) → state_after w (es ++ e ∷ []) s ≡ after w e (state_after w es s)
one_after w [] e s = refl
one_after w (d ∷ es) e s = one_after w es e (after w d s)

pub one_event_more : {C : Type 0} (w : Fixed C) (es : List Event) (e : Event) (s : Machine C) → EachAllowed w es s → IsAllowed w e (state_after w es s) → EachAllowed w (es ++ e ∷ []) s
one_event_more w [] e s run ok = (ok, tt)
one_event_more w (d ∷ es) e s run ok = (run.0, one_event_more w es e (after w d s) run.1 ok)

-- a verdict stays
pub verdict_stays_told : {C : Type 0} (w : Fixed C) (es : List Event) (e : Event) (n : ℕ) → VerdictsStay w (es ++ e ∷ [])
    → is_some (verdict n (reached w es).book (reached w es).desk) ≡ true → is_some (verdict n (after w e (reached w es)).book (after w e (reached w es)).desk) ≡ true
verdict_stays_told w es e n stay told = by (verdict n (reached w es).book (reached w es).desk) refl told
  where
    by : (v : Option Verdict) → verdict n (reached w es).book (reached w es).desk ≡ v → is_some v ≡ true → is_some (verdict n (after w e (reached w es)).book (after w e (reached w es)).desk) ≡ true
    by None q t = absurd (true≢false (sym t))
    by (Some v) q t = ap is_some (subst (λ s. verdict n s.book s.desk ≡ Some v) (one_after w es e (opening w)) (stay es (e ∷ []) refl n v q))
