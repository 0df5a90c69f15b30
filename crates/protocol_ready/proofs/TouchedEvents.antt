-- An event leaves the conditions of the events that it does not touch.
use Rattle.std.specs.Prelude.{◌≡◌, refl, find, nat_lt, ℕ, ◌%◌, ◌==◌, nat_le, max, is_some, Bool, false, not, ◌&&◌, ◌||◌, Option, Some, None, [], ◌∷◌, slice_get}
use Rattle.std.specs.List.{list_all}
use Rattle.std.proofs.Common.{ap}
use Rattle.std.proofs.lemmas.Bool.{or_parts, true≢false}
use Rattle.protocol.specs.Fixed.{Fixed, base}
use Rattle.protocol.specs.Records.{is_info, is_complete, is_commit, is_prepare, is_act_commit}
use Rattle.protocol.specs.Parts.{SubBatch, Who, OfBatch, OfAct, ControlMessage, Machine}
use Rattle.protocol.specs.Events.{Event, Submit, Pass, Form, Admit, Arrive, Ask, Take, Run, Send, End, Close, Complete, Sync, Note, Commit, Settle, Abort, Rollback, DropSub, DropControl, Prepare, Vouch, Decide, Seal, Finish, Reply, Trim}
use Rattle.protocol.specs.Words.{holds, is_next_to_commit, first_failed, sub_of, is_clear, is_turn_of, is_entry_of, is_complete_batch, is_batch_entry, is_all_done, ahead, is_going, is_ended, is_value, is_failure, is_doomed, is_decided, is_sealed, is_live_status, is_live_act, is_vouched_everywhere, joined_of, control_of, is_aborted}
use Rattle.protocol.specs.Conditions.{IsAllowed, conditions, is_given_up, epoch}
use Rattle.protocol.specs.Effects.{after}
use Rattle.protocol_ready.specs.Touched.{changes_doom, reads_changed, changes_inbox, changes_entries, changes_done, changes_marks, changes_epoch, changes_tail, changes_control, changes_act, changes_prepared, changes_vouched, changes_finished, changes_votes, changes_left, changes_who, changes_boxes, changes_stage, changes_note, changes_noted, changes_results, changes_next, makes_durable, is_abort, IsSound, LeavesUntouched}
use Rattle.protocol.specs.Contents.{Content, IsSame, is_changed}
use Rattle.protocol_ready.proofs.Cited.{Framed}
use Rattle.protocol_ready.proofs.TouchedParts.{inbox_stays, outbox_stays, has_act_stays, has_entry_stays, undone_stays, marks_stay, epoch_stays, tail_stays, log_stays, durable_stays, sub_stays, control_stays}
use Rattle.protocol_ready.proofs.TouchedActs.{doom_test, act_test, plain, prepared_bears, finished_bears, votes_bear, vouch_bears}
use Rattle.protocol_ready.proofs.TouchedBatches.{open_test, note_test, trim_test, commits_test, pacts_test, noted_test, result_stays, settled_stays, replied_stays, cascades_stay}
use Rattle.protocol_ready.proofs.TouchedVerdicts.{next_stays, verdict_stays}

-- whose control is given up
given_up : {C : Type 0} (w : Fixed C) (e : Event) (s : Machine C) (o : Option (ControlMessage C)) → is_abort e ≡ false → holds (λ m. changes_who e s m.who) o ≡ false
    → holds (λ m. is_given_up m.who (after w e s).book) o ≡ holds (λ m. is_given_up m.who s.book) o
given_up w e s None z h = refl
given_up w e s (Some m) z h = by m.who h
  where
    by : (who : Who) → changes_who e s who ≡ false → is_given_up who (after w e s).book ≡ is_given_up who s.book
    by (OfBatch k) g = ap (is_aborted k) (cascades_stay w e s z)
    by (OfAct t) g = doom_test w e s t (λ b. b) z g

-- a message's epoch and the batch before it
arrives : {C : Type 0} (w : Fixed C) (e : Event) (s : Machine C) (a : ℕ) (o : Option SubBatch) (x y : Bool) → changes_tail e a ≡ false
    → x ∷ y ∷ holds (λ m. (m.epoch == epoch s.book) && holds (λ c. c.epoch == epoch s.book) (slice_get s.cells a)) o ∷ holds (λ m. holds (λ c. m.prev == c.tail) (slice_get (after w e s).cells a)) o ∷ []
    ≡ x ∷ y ∷ holds (λ m. (m.epoch == epoch s.book) && holds (λ c. c.epoch == epoch s.book) (slice_get s.cells a)) o ∷ holds (λ m. holds (λ c. m.prev == c.tail) (slice_get s.cells a)) o ∷ []
arrives w e s a None x y h = refl
arrives w e s a (Some m) x y h = rw (tail_stays w e s a (λ n. m.prev == n) h) refl

stays : {C : Type 0} (w : Fixed C) (s : Machine C) (e f : Event) → ((q : Content) → is_changed q e ≡ false → IsSame q s (after w e s)) → IsSound w s → IsAllowed w e s → is_abort e ≡ false → reads_changed w e s f ≡ false → conditions w f (after w e s) ≡ conditions w f s
unfolding conditions
stays w s e (Submit n) same ok al z h = absurd (true≢false h)
stays w s e (Pass c) same ok al z h = absurd (true≢false h)
stays w s e (Form k) same ok al z h = absurd (true≢false h)
stays w s e (Admit t) same ok al z h = absurd (true≢false h)
stays w s e (Arrive k a) same ok al z h =
    let o = or_parts _ _ h in
    let q = or_parts (changes_epoch e a) (changes_tail e a) o.1 in
    rw (sub_stays w e s k a o.0, cascades_stay w e s z, epoch_stays w e s a (λ n. n == epoch s.book) q.0) (arrives w e s a (sub_of k a s.post.subs) _ _ q.1)
stays w s e (Ask t a) same ok al z h =
    let o = or_parts (changes_control w e s t) _ h in
    let q = or_parts (changes_doom e s t) _ o.1 in
    let r = or_parts (changes_entries e a) (changes_epoch e a) q.1 in
    rw (control_stays w e s t o.0, has_act_stays w e s t a r.0, cascades_stay w e s z, epoch_stays w e s a (λ n. n == epoch s.book) r.1, doom_test w e s t not z q.0) refl
stays w s e (Take t a) same ok al z h =
    let o = or_parts (changes_control w e s t) (changes_entries e a) h in
    rw (control_stays w e s t o.0, has_entry_stays w e s t a o.1) refl
stays w s e (Run t a) same ok al z h =
    let o = or_parts (changes_boxes e a || changes_inbox e t a) (changes_entries e a || changes_marks w e s a) h in
    rw (inbox_stays w e s t a o.0, marks_stay w e s a (is_clear t) o.1, marks_stay w e s a (λ es. holds (is_turn_of t) (find (is_entry_of t) es)) o.1) refl
stays w s e (Send t a) same ok al z h = rw (outbox_stays w e s t a (holds (λ x. is_going x.next)) h) refl
stays w s e (End t a) same ok al z h = rw (outbox_stays w e s t a (holds (λ x. is_ended x.next)) h) refl
stays w s e (Close t a) same ok al z h =
    let o = or_parts _ (changes_entries e a || changes_done w e s t a) h in
    let q = or_parts (changes_entries e a) (changes_done w e s t a) o.1 in
    rw (result_stays w e s t o.0, undone_stays w e s t a q.0 q.1) refl
stays w s e (Complete k a) same ok al z h =
    rw (marks_stay w e s a (λ es. holds (λ e. not (is_complete_batch e)) (find (is_batch_entry k) es)) h, marks_stay w e s a (λ es. list_all is_complete_batch (ahead (is_batch_entry k) es)) h, marks_stay w e s a (λ es. holds is_all_done (find (is_batch_entry k) es)) h) refl
stays w s e (Sync l) same ok al z h = rw (log_stays w e s l h) refl
stays w s e (Note k a) same ok al z h =
    let o = or_parts (changes_stage e k) _ h in
    let q = or_parts (changes_note e k a) _ o.1 in
    rw (note_test w e s k a z o.0 q.0, durable_stays w e s (is_complete k a) (a % w.text.logs) ok.synced q.1) refl
stays w s e (Commit k) same ok al z h =
    let o = or_parts (changes_stage e k) _ h in
    let q = or_parts (changes_noted e k) _ o.1 in
    let r = or_parts (changes_results e s k) _ q.1 in
    let n = or_parts (changes_next e k) _ r.1 in
    rw (next_stays w e s k same ok.bids al z n.0, open_test w e s k (is_next_to_commit k s.desk.batches) z o.0, pacts_test w e s k (list_all (λ p. is_value p.result)) z o.0 r.0, noted_test w e s k z o.0 q.0, durable_stays w e s (is_info k) (k % w.text.logs) ok.synced n.1) refl
stays w s e (Settle k) same ok al z h =
    let o = or_parts (changes_stage e k) _ h in
    rw (commits_test w e s k z o.0, durable_stays w e s (is_commit k) (k % w.text.logs) ok.synced o.1) refl
stays w s e (Abort k) same ok al z h =
    let o = or_parts (changes_stage e k) _ h in
    let q = or_parts (changes_results e s k) _ o.1 in
    rw (next_stays w e s k same ok.bids al z q.1, open_test w e s k (is_next_to_commit k s.desk.batches) z o.0, pacts_test w e s k (λ ps. is_some (first_failed ps)) z o.0 q.0) refl
stays w s e (Rollback a) same ok al z h = rw (cascades_stay w e s z, epoch_stays w e s a (λ n. nat_lt n (epoch s.book)) h) refl
stays w s e (DropSub k a) same ok al z h = rw (sub_stays w e s k a h, cascades_stay w e s z) refl
stays w s e (DropControl t) same ok al z h =
    let o = or_parts (changes_control w e s t) _ h in
    rw (control_stays w e s t o.0, given_up w e s (control_of t s.post.controls) z o.1) refl
stays w s e (Prepare t a) same ok al z h =
    let o = or_parts (changes_act e s t) (changes_prepared e t a) h in
    rw (act_test w e s t (λ x. is_value x.result && not (is_doomed x.status)) (λ x. refl) (plain (λ x. is_value x.result && not (is_doomed x.status)) e t (λ b f x. refl)) z o.0, act_test w e s t (λ x. holds (λ p. not p.prepared) (joined_of a x)) (λ x. refl) (prepared_bears e t a o.1) z o.0) refl
stays w s e (Vouch t a) same ok al z h =
    let o = or_parts (changes_act e s t) _ h in
    let q = or_parts (changes_prepared e t a || changes_vouched e t a) _ o.1 in
    let r = or_parts (changes_left e t) (makes_durable e s (is_prepare t a) (a % w.text.logs)) q.1 in
    rw (act_test w e s t (λ x. is_live_act x && (not (is_doomed x.status) && holds (λ p. p.prepared && not p.vouched) (joined_of a x))) (λ x. refl) (vouch_bears e t a q.0 r.0) z o.0, durable_stays w e s (is_prepare t a) (a % w.text.logs) ok.synced r.1) refl
stays w s e (Decide t) same ok al z h =
    let o = or_parts (changes_act e s t) _ h in
    let q = or_parts (changes_votes e t) _ o.1 in
    rw (settled_stays w e s q.1, act_test w e s t (λ x. is_some x.result && is_live_status x.status) (λ x. refl) (plain (λ x. is_some x.result && is_live_status x.status) e t (λ b f x. refl)) z o.0, act_test w e s t (λ x. is_failure x.result || is_vouched_everywhere x) (λ x. refl) (votes_bear e t q.0) z o.0, act_test w e s t (λ x. nat_le x.m (max s.desk.settled (base w.text))) (λ x. refl) (plain (λ x. nat_le x.m (max s.desk.settled (base w.text))) e t (λ b f x. refl)) z o.0) refl
stays w s e (Seal t) same ok al z h =
    let o = or_parts (changes_act e s t) (makes_durable e s (is_act_commit t) (t % w.text.logs)) h in
    rw (act_test w e s t (λ x. is_decided x.status) (λ x. refl) (plain (λ x. is_decided x.status) e t (λ b f x. refl)) z o.0, durable_stays w e s (is_act_commit t) (t % w.text.logs) ok.synced o.1) refl
stays w s e (Finish t a) same ok al z h =
    let o = or_parts (changes_act e s t) (changes_finished e t a) h in
    rw (act_test w e s t (λ x. is_doomed x.status || is_sealed x.status) (λ x. refl) (plain (λ x. is_doomed x.status || is_sealed x.status) e t (λ b f x. refl)) z o.0, act_test w e s t (λ x. holds (λ p. not p.finished) (joined_of a x)) (λ x. refl) (finished_bears e t a o.1) z o.0) refl
stays w s e (Reply n) same ok al z h =
    let o = or_parts _ _ h in
    rw (replied_stays w e s n o.0, verdict_stays w e s n ok.bids al z o.1) refl
stays w s e (Trim k a) same ok al z h =
    let o = or_parts (changes_stage e k) _ h in
    rw (trim_test w e s k a z o.0 o.1) refl

pub untouched : {C : Type 0} (w : Fixed C) (s : Machine C) → Framed w → LeavesUntouched w s
untouched w s framed e f ok al h =
    let o = or_parts (is_abort e) (reads_changed w e s f) h in
    stays w s e f (framed e s) ok al o.0 o.1
