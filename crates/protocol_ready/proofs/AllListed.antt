-- What is allowed and touched is listed for the event, and what is allowed lies in the state; what is not touched is allowed where
-- it was.
use Rattle.std.specs.Prelude.{◌≡◌, refl, ℕ, ◌%◌, ◌==◌, ◌<◌, nat_lt, is_some, Bool, true, false, not, ◌&&◌, ◌||◌, Option, Some, None, List, [], ◌∷◌, ◌++◌, length, filter, slice_get, ◌↔◌}
use Rattle.std.proofs.Common.{sym, ap, subst, inl, inr, ◌∙◌}
use Rattle.std.proofs.lemmas.Bool.{eqb-true, eq-eqb, and_parts}
use Rattle.snap_base.proofs.Booleans.{either_way}
use Rattle.protocol.specs.Fixed.{Fixed}
use Rattle.protocol.specs.Records.{is_info, is_complete, is_commit, is_prepare, is_act_commit}
use Rattle.protocol.specs.Parts.{Who, OfBatch, OfAct, Act, Batch, ControlMessage, Machine}
use Rattle.protocol.specs.Events.{Event, Submit, Pass, Form, Admit, Arrive, Ask, Take, Run, Send, End, Close, Complete, Sync, Note, Commit, Settle, Abort, Rollback, DropSub, DropControl, Prepare, Vouch, Decide, Seal, Finish, Reply, Trim}
use Rattle.protocol.specs.Words.{holds, below, is_who, control_of, act_of, joined_of, batch_of, is_open, is_next_to_commit, is_complete_batch, is_going, is_ended, is_doomed, is_live_act, is_live_status}
use Rattle.protocol.specs.Conditions.{AllTrue, IsAllowed, conditions}
use Rattle.protocol.specs.Effects.{after}
use Rattle.protocol_ready.specs.Touched
use Rattle.protocol_ready.specs.Touched.{IsSound, is_touched, reads_changed, changes_who, changes_act}
use Rattle.protocol_ready.specs.Ready
use Rattle.protocol_ready.specs.Lying.{live_groups, live, of_batch, next_of_ring, on_entries, on_marks, on_boxes, on_epoch, comings, arrivals, runs_on, on_control, drops, of_act, on_stage, on_settled}
use Rattle.protocol_ready.specs.Ready.{groups, by_changes}
use Rattle.protocol_ready.proofs.Cited.{Framed}
use Rattle.protocol_ready.proofs.Listing.{Has, has_below, is_within, has_left, has_right, has_map, has_filter, has_flat_map, has_at, held, found_in}
use Rattle.protocol_ready.proofs.Offered as offered
use Rattle.protocol_ready.proofs.TouchedListed as listed
use Rattle.protocol_ready.proofs.TouchedEvents.{untouched}

-- ---- one place in the list of lists

at : {C : Type 0} (w : Fixed C) (e : Event) (s t : Machine C) (n : ℕ) (xs : List Event) (f : Event) → slice_get (groups w e s t) n ≡ Some xs → Has xs f → Has (by_changes w e s t) f
at w e s t n xs f h g = has_at (groups w e s t) n xs f h g

-- ---- each kind

-- the control of an ACT that is given up
drop_of : {C : Type 0} (w : Fixed C) (e : Event) (s t : Machine C) (u : ℕ) (m : ControlMessage C) → control_of u t.post.controls ≡ Some m → changes_who e s m.who ≡ true → Has (Ready.by_doom e s t) (DropControl u)
drop_of w e s t u m h g =
    let r = found_in (λ m. m.tid == u) t.post.controls m h in
    by m.who refl g r.0 (eqb-true m.tid u r.1)
  where
    by : (who : Who) → m.who ≡ who → changes_who e s who ≡ true → Has t.post.controls m → m.tid ≡ u → Has (Ready.by_doom e s t) (DropControl u)
    by (OfBatch k) i q has tid = listed.no q
    by (OfAct v) i q has tid =
        let yes : is_who (OfAct v) m.who ≡ true = ap (is_who (OfAct v)) i ∙ eq-eqb v v refl in
        listed.dooms e s t v (DropControl u) q ((has_right (on_control v t) _ _ (subst (λ n. Has (drops v t) (DropControl n)) tid (has_map (λ m. DropControl m.tid) (filter (λ m. is_who (OfAct v) m.who) t.post.controls) m (has_filter (λ m. is_who (OfAct v) m.who) t.post.controls m has yes)))))

-- an event of an ACT
by_act : {C : Type 0} (w : Fixed C) (e : Event) (s t : Machine C) (u : ℕ) (f : Event) → changes_act e s u ≡ true → Has (of_act u (act_of u t.book.acts)) f → Has (by_changes w e s t) f
by_act w e s t u f h g = at w e s t 11 (Ready.by_acts e s t) f refl (listed.acts e s t u f h g)

by_votes : {C : Type 0} (w : Fixed C) (e : Event) (s t : Machine C) (f : Event) → Has (Ready.by_votes e t) f → Has (by_changes w e s t) f
by_votes w e s t f g = at w e s t 21 (Ready.by_votes e t) f refl g

by_stage : {C : Type 0} (w : Fixed C) (e : Event) (s t : Machine C) (k : ℕ) (f : Event) → Touched.changes_stage e k ≡ true → Has (on_stage k t) f → Has (by_changes w e s t) f
by_stage w e s t k f h g = at w e s t 12 (Ready.by_stage e t) f refl (listed.stages e t k f h g)

by_fresh : {C : Type 0} (w : Fixed C) (e : Event) (s t : Machine C) (f : Event) → Has (Ready.by_fresh e s) f → Has (by_changes w e s t) f
by_fresh w e s t f g = at w e s t 10 (Ready.by_fresh e s) f refl g

by_entries : {C : Type 0} (w : Fixed C) (e : Event) (s t : Machine C) (a : ℕ) (f : Event) → Touched.changes_entries e a ≡ true → Has (on_entries a t) f → Has (by_changes w e s t) f
by_entries w e s t a f h g = at w e s t 4 (Ready.by_entries e t) f refl (listed.entries e t a f h g)

by_marks : {C : Type 0} (w : Fixed C) (e : Event) (s t : Machine C) (a : ℕ) (f : Event) → Touched.changes_marks w e s a ≡ true → Has (on_marks a t) f → Has (by_changes w e s t) f
by_marks w e s t a f h g = at w e s t 20 (Ready.by_mark w e s t) f refl (listed.marks w e s t a f h g)

by_control : {C : Type 0} (w : Fixed C) (e : Event) (s t : Machine C) (u : ℕ) (f : Event) → Touched.changes_control w e s u ≡ true → Has (on_control u t) f → Has (by_changes w e s t) f
by_control w e s t u f h g = at w e s t 7 (Ready.by_control w e s t) f refl (listed.controls w e s t u f h g)

-- all smaller batches are over now, or it is a new one
by_next : {C : Type 0} (w : Fixed C) (e : Event) (s t : Machine C) (k : ℕ) (x : Bool) (f : Event) → Touched.changes_next e k ≡ true → holds (λ b. is_open b && x) (batch_of k t.desk.batches) ≡ true → Has (Commit k ∷ Abort k ∷ []) f → Has (Ready.by_next e t) f
by_next w (Form j) s t k x f h g i = offered.in_ends k t.desk.batches (λ b. is_open b && x) (λ b. is_open b && nat_lt j b.bid) f g (λ b y q. rw ((and_parts (is_open b) x y).0, q, h) refl) i
by_next w (Settle j) s t k x f h g i = offered.in_ends k t.desk.batches (λ b. is_open b && x) is_open f g (λ b y q. (and_parts (is_open b) x y).0) i
by_next w _ s t k x f h g i = listed.no h

by_settled : {C : Type 0} (e : Event) (t : Machine C) (u : ℕ) → Touched.changes_settled e ≡ true → holds (λ x. is_some x.result && is_live_status x.status) (act_of u t.book.acts) ≡ true → Has (Ready.by_settled e t) (Decide u)
by_settled (Settle j) t u h g =
    let x = held (λ x. is_some x.result && is_live_status x.status) (act_of u t.book.acts) g in
    let r = found_in (λ x. x.tid == u) t.book.acts x.it x.is in
    subst (λ n. Has (on_settled t) (Decide n)) (eqb-true x.it.tid u r.1) (has_map (λ x. Decide x.tid) _ x.it (has_filter (λ x. is_some x.result && is_live_status x.status) t.book.acts x.it r.0 x.does))
by_settled _ t u h g = listed.no h

-- a state in which a control of t that the event does not change is the same as before
abbrev pub HasControls : {C : Type 0} → Fixed C → Event → Machine C → Machine C → Type 0
HasControls w e s t = (u : ℕ) → Touched.changes_control w e s u ≡ false → control_of u t.post.controls ≡ control_of u s.post.controls

drop_control : {C : Type 0} (w : Fixed C) (e : Event) (s t : Machine C) (u : ℕ) → HasControls w e s t → is_some (control_of u t.post.controls) ≡ true → (Touched.changes_control w e s u || holds (λ m. changes_who e s m.who) (control_of u s.post.controls)) ≡ true
    → Has (by_changes w e s t) (DropControl u)
drop_control w e s t u same h g = by (Touched.changes_control w e s u) refl g
  where
    by : (b : Bool) → Touched.changes_control w e s u ≡ b → (b || holds (λ m. changes_who e s m.who) (control_of u s.post.controls)) ≡ true → Has (by_changes w e s t) (DropControl u)
    by true q i = by_control w e s t u (DropControl u) q (offered.drop_in_control u t h)
    by false q i =
        let m = held (λ m. changes_who e s m.who) (control_of u s.post.controls) i in
        at w e s t 22 (Ready.by_doom e s t) _ refl (drop_of w e s t u m.it (same u q ∙ m.is) m.does)

pub listed_all : {C : Type 0} (w : Fixed C) (e : Event) (s t : Machine C) → HasControls w e s t → (f : Event) → IsAllowed w f t → reads_changed w e s f ≡ true → Has (by_changes w e s t) f
unfolding conditions
listed_all w e s t same (Submit n) ok h = at w e s t 0 (next_of_ring w t) _ refl (inl (ap Submit (sym (eqb-true n _ (and_parts (n == t.ring.next_tx) _ ok.0).0))))
listed_all w e s t same (Pass c) ok h = at w e s t 0 (next_of_ring w t) _ refl (inr (inl (ap Pass (sym (eqb-true c _ ok.0)))))
listed_all w e s t same (Form k) ok h = at w e s t 0 (next_of_ring w t) _ refl (inr (inr (inl (ap Form (sym (eqb-true k _ ok.0))))))
listed_all w e s t same (Admit u) ok h = at w e s t 0 (next_of_ring w t) _ refl (inr (inr (inr (inl (ap Admit (sym (eqb-true u _ ok.0)))))))
listed_all w e s t same (Arrive k a) ok h =
    either_way _ _ h
    (λ x. either_way (Touched.changes_subs e k) (Touched.changes_sub e k a) x
    (λ y. at w e s t 8 (Ready.by_subs e t) _ refl (listed.all_subs e t k _ y (offered.in_subs k a t _ ok.0 (inl refl))))
    (λ y. at w e s t 8 (Ready.by_subs e t) _ refl (listed.one_sub e t k a y).0))
    (λ x. either_way (Touched.changes_epoch e a) (Touched.changes_tail e a) x
    (λ y. at w e s t 5 (Ready.by_epoch e t) _ refl (listed.epochs e t a _ y (inr (has_left (arrivals a t) _ _ (offered.in_arrivals k a t ok.0)))))
    (λ y. at w e s t 6 (Ready.by_tail e t) _ refl (listed.tails e t a _ y (offered.in_arrivals k a t ok.0))))
listed_all w e s t same (Ask u a) ok h =
    let on = offered.in_comings u a t (Ask u a) ok.0 (inl refl) in
    let control = offered.in_control u a t (Ask u a) ok.0 (inl refl) in
    either_way (Touched.changes_control w e s u) _ h
    (λ x. by_control w e s t u _ x control)
    (λ x. either_way (Touched.changes_doom e s u) _ x
    (λ y. at w e s t 22 (Ready.by_doom e s t) _ refl (listed.dooms e s t u _ y (has_left (on_control u t) _ _ control)))
    (λ y. either_way (Touched.changes_entries e a) (Touched.changes_epoch e a) y
    (λ z. by_entries w e s t a _ z (has_left (comings a t) _ _ on))
    (λ z. at w e s t 5 (Ready.by_epoch e t) _ refl (listed.epochs e t a _ z (inr (has_right (arrivals a t) _ _ on))))))
listed_all w e s t same (Take u a) ok h =
    either_way (Touched.changes_control w e s u) (Touched.changes_entries e a) h
    (λ x. by_control w e s t u _ x (offered.in_control u a t (Take u a) ok.0 (inr (inl refl))))
    (λ x. by_entries w e s t a _ x (has_left (comings a t) _ _ (offered.in_comings u a t (Take u a) ok.0 (inr (inl refl)))))
listed_all w e s t same (Run u a) ok h =
    let on = offered.in_runs u a t ok.0 in
    either_way _ (Touched.changes_entries e a || Touched.changes_marks w e s a) h
    (λ x. either_way (Touched.changes_boxes e a) (Touched.changes_inbox e u a) x
    (λ y. at w e s t 1 (Ready.by_boxes e t) _ refl (listed.boxes e t a _ y (has_left (runs_on a t) _ _ on)))
    (λ y. at w e s t 2 (Ready.by_inbox e) _ refl (listed.inbox e u a y)))
    (λ x. either_way (Touched.changes_entries e a) (Touched.changes_marks w e s a) x
    (λ y. by_entries w e s t a _ y (has_right (comings a t) _ _ (has_left (runs_on a t) _ _ on)))
    (λ y. by_marks w e s t a _ y (has_left (runs_on a t) _ _ on)))
listed_all w e s t same (Send u a) ok h =
    either_way (Touched.changes_boxes e a) (Touched.changes_outbox e u a) h
    (λ y. at w e s t 1 (Ready.by_boxes e t) _ refl (listed.boxes e t a _ y (has_right (runs_on a t) _ _ (offered.in_sends u a t (λ x. is_going x.next) _ ok.0 (inl refl)))))
    (λ y. at w e s t 3 (Ready.by_outbox e) _ refl (listed.outbox e u a y).0)
listed_all w e s t same (End u a) ok h =
    either_way (Touched.changes_boxes e a) (Touched.changes_outbox e u a) h
    (λ y. at w e s t 1 (Ready.by_boxes e t) _ refl (listed.boxes e t a _ y (has_right (runs_on a t) _ _ (offered.in_sends u a t (λ x. is_ended x.next) _ ok.0 (inr (inl refl))))))
    (λ y. at w e s t 3 (Ready.by_outbox e) _ refl (listed.outbox e u a y).1)
listed_all w e s t same (Close u a) ok h =
    either_way (Touched.changes_result w e s u) (Touched.changes_entries e a || Touched.changes_done w e s u a) h
    (λ x. at w e s t 15 (Ready.by_result w e s t) _ refl (listed.result w e s t u _ x (offered.close_in_result u a t ok.1.0)))
    (λ x. either_way (Touched.changes_entries e a) (Touched.changes_done w e s u a) x
    (λ y. by_entries w e s t a _ y (offered.in_entries a t _ (offered.close_in u a t ok.1.0)))
    (λ y. at w e s t 20 (Ready.by_mark w e s t) _ refl (listed.dones w e s t u a y)))
listed_all w e s t same (Complete k a) ok h =
    either_way (Touched.changes_entries e a) (Touched.changes_marks w e s a) h
    (λ x. by_entries w e s t a _ x (offered.in_entries a t _ (offered.complete_in k a t (λ e. not (is_complete_batch e)) ok.0)))
    (λ x. by_marks w e s t a _ x (offered.complete_in_marks k a t (λ e. not (is_complete_batch e)) ok.0))
listed_all w e s t same (Sync l) ok h = at w e s t 9 (Ready.by_log w e) _ refl (listed.logs w e l h)
listed_all w e s t same (Note k a) ok h =
    either_way (Touched.changes_stage e k) _ h
    (λ x. by_stage w e s t k _ x (offered.in_declared k a (batch_of k t.desk.batches) is_open (λ p. not p.noted) _ ok.0 (inl refl)))
    (λ x. either_way (Touched.changes_note e k a) _ x
    (λ y. at w e s t 13 (Ready.by_marks e) _ refl (listed.notes e k a y))
    (λ y. by_fresh w e s t _ (listed.records e s (is_complete k a) (a % w.text.logs) _ (listed.of_complete k a) y)))
listed_all w e s t same (Commit k) ok h =
    either_way (Touched.changes_stage e k) _ h
    (λ x. by_stage w e s t k _ x (offered.in_batch k (batch_of k t.desk.batches) _ _ ok.0 (inl refl)))
    (λ x. either_way (Touched.changes_noted e k) _ x
    (λ y. at w e s t 13 (Ready.by_marks e) _ refl (listed.noted e k y))
    (λ y. either_way (Touched.changes_results e s k) _ y
    (λ z. at w e s t 14 (Ready.by_results e s) _ refl (listed.results e s k _ z (inl refl)))
    (λ z. either_way (Touched.changes_next e k) _ z
    (λ v. at w e s t 16 (Ready.by_next e t) _ refl (by_next w e s t k (is_next_to_commit k t.desk.batches) _ v ok.0 (inl refl)))
    (λ v. by_fresh w e s t _ (listed.records e s (is_info k) (k % w.text.logs) _ (listed.of_info k) v)))))
listed_all w e s t same (Settle k) ok h =
    either_way (Touched.changes_stage e k) _ h
    (λ x. by_stage w e s t k _ x (offered.in_batch k (batch_of k t.desk.batches) _ _ ok.0 (inr (inl refl))))
    (λ x. by_fresh w e s t _ (listed.records e s (is_commit k) (k % w.text.logs) _ (listed.of_commit k) x))
listed_all w e s t same (Abort k) ok h =
    either_way (Touched.changes_stage e k) _ h
    (λ x. by_stage w e s t k _ x (offered.in_batch k (batch_of k t.desk.batches) _ _ ok.0 (inr (inr (inl refl)))))
    (λ x. either_way (Touched.changes_results e s k) _ x
    (λ y. at w e s t 14 (Ready.by_results e s) _ refl (listed.results e s k _ y (inr (inl refl))))
    (λ y. at w e s t 16 (Ready.by_next e t) _ refl (by_next w e s t k (is_next_to_commit k t.desk.batches) _ y ok.0 (inr (inl refl)))))
listed_all w e s t same (Rollback a) ok h = at w e s t 5 (Ready.by_epoch e t) _ refl (listed.epochs e t a _ h (inl refl))
listed_all w e s t same (DropSub k a) ok h =
    either_way (Touched.changes_subs e k) (Touched.changes_sub e k a) h
    (λ y. at w e s t 8 (Ready.by_subs e t) _ refl (listed.all_subs e t k _ y (offered.in_subs k a t _ ok.0 (inr (inl refl)))))
    (λ y. at w e s t 8 (Ready.by_subs e t) _ refl (listed.one_sub e t k a y).1)
listed_all w e s t same (DropControl u) ok h = drop_control w e s t u same ok.0 h
listed_all w e s t same (Prepare u a) ok h =
    either_way (changes_act e s u) (Touched.changes_prepared e u a) h
    (λ x. by_act w e s t u _ x (offered.in_place u a _ (λ p. not p.prepared) _ ok.1.0 (inl refl)))
    (λ x. by_votes w e s t _ (listed.prepared e t u a x).0)
listed_all w e s t same (Vouch u a) ok h =
    either_way (changes_act e s u) _ h
    (λ x. by_act w e s t u _ x (offered.in_place u a _ (λ p. p.prepared && not p.vouched) _ (vouched u a (act_of u t.book.acts) ok.0) (inr (inl refl))))
    (λ x. either_way (Touched.changes_prepared e u a || Touched.changes_vouched e u a) _ x
    (λ y. either_way (Touched.changes_prepared e u a) (Touched.changes_vouched e u a) y
    (λ z. by_votes w e s t _ (listed.prepared e t u a z).1)
    (λ z. by_votes w e s t _ (listed.vouched e t u a z)))
    (λ y. either_way (Touched.changes_left e u) _ y
    (λ z. by_votes w e s t _ (listed.left e t u _ z (offered.in_vouches u a _ (λ p. p.prepared && not p.vouched) (vouched u a (act_of u t.book.acts) ok.0))))
    (λ z. by_fresh w e s t _ (listed.records e s (is_prepare u a) (a % w.text.logs) _ (listed.of_prepare u a) z))))
  where
    vouched : (u a : ℕ) (o : Option Act) → holds (λ x. is_live_act x && (not (is_doomed x.status) && holds (λ p. p.prepared && not p.vouched) (joined_of a x))) o ≡ true → holds (λ x. holds (λ p. p.prepared && not p.vouched) (joined_of a x)) o ≡ true
    vouched u a None h = h
    vouched u a (Some x) h = (and_parts (not (is_doomed x.status)) _ (and_parts (is_live_act x) _ h).1).1
listed_all w e s t same (Decide u) ok h =
    either_way (changes_act e s u) _ h
    (λ x. by_act w e s t u _ x (offered.in_act u _ _ _ ok.0 (inl refl)))
    (λ x. either_way (Touched.changes_votes e u) _ x
    (λ y. by_votes w e s t _ (listed.votes e t u y))
    (λ y. at w e s t 17 (Ready.by_settled e t) _ refl (by_settled e t u y ok.0)))
listed_all w e s t same (Seal u) ok h =
    either_way (changes_act e s u) _ h
    (λ x. by_act w e s t u _ x (offered.in_act u _ _ _ ok.0 (inr (inl refl))))
    (λ x. by_fresh w e s t _ (listed.records e s (is_act_commit u) (u % w.text.logs) _ (listed.of_act_commit u) x))
listed_all w e s t same (Finish u a) ok h =
    either_way (changes_act e s u) (Touched.changes_finished e u a) h
    (λ x. by_act w e s t u _ x (offered.in_place u a _ (λ p. not p.finished) _ ok.1.0 (inr (inr (inl refl)))))
    (λ x. by_votes w e s t _ (listed.finished e t u a x))
listed_all w e s t same (Reply n) ok h =
    either_way (Touched.changes_replied e n) _ h
    (λ x. at w e s t 18 (Ready.by_replied e) _ refl (listed.replied e n x))
    (λ x. at w e s t 19 (Ready.by_verdict w e s) _ refl (listed.verdicts w e s n x))
listed_all w e s t same (Trim k a) ok h =
    either_way (Touched.changes_stage e k) (Touched.changes_trim e k a) h
    (λ x. by_stage w e s t k _ x (offered.in_declared_settled k a (batch_of k t.desk.batches) _ ok.0 (inr (inl refl))))
    (λ x. at w e s t 13 (Ready.by_marks e) _ refl (listed.trims e k a x))

-- ---- after a cascade, and at the opening

at_all : {C : Type 0} (w : Fixed C) (t : Machine C) (n : ℕ) (xs : List Event) (f : Event) → slice_get (live_groups w t) n ≡ Some xs → Has xs f → Has (live w t) f
at_all w t n xs f h g = has_at (live_groups w t) n xs f h g

on_cell : {C : Type 0} (w : Fixed C) (t : Machine C) (a : ℕ) (f : Event) → a < length t.cells → Has (on_boxes a t ++ (on_epoch a t ++ on_entries a t)) f → Has (live w t) f
on_cell w t a f h g = at_all w t 1 _ f refl (has_flat_map (λ a. on_boxes a t ++ (on_epoch a t ++ on_entries a t)) (below (length t.cells)) a f (has_below a (length t.cells) h) g)

in_entries_of : {C : Type 0} (t : Machine C) (a : ℕ) (f : Event) → Has (on_entries a t) f → Has (on_boxes a t ++ (on_epoch a t ++ on_entries a t)) f
in_entries_of t a f g = has_right (on_boxes a t) _ f (has_right (on_epoch a t) _ f g)

of_acts : {C : Type 0} (w : Fixed C) (t : Machine C) (u : ℕ) (p : Act → Bool) (f : Event) → holds p (act_of u t.book.acts) ≡ true → Has (of_act u (act_of u t.book.acts)) f → Has (live w t) f
of_acts w t u p f h g = at_all w t 4 _ f refl (offered.act_in_all u t p f h g)

of_batches : {C : Type 0} (w : Fixed C) (t : Machine C) (k : ℕ) (p : Batch → Bool) (f : Event) → holds p (batch_of k t.desk.batches) ≡ true → Has (of_batch k (batch_of k t.desk.batches)) f → Has (live w t) f
of_batches w t k p f h g = at_all w t 5 _ f refl (offered.batch_in_all k t p f h g)

pub live_all : {C : Type 0} (w : Fixed C) (t : Machine C) (f : Event) → IsAllowed w f t → Has (live w t) f
unfolding conditions
live_all w t (Submit n) ok = at_all w t 0 _ _ refl (inl (ap Submit (sym (eqb-true n _ (and_parts (n == t.ring.next_tx) _ ok.0).0))))
live_all w t (Pass c) ok = at_all w t 0 _ _ refl (inr (inl (ap Pass (sym (eqb-true c _ ok.0)))))
live_all w t (Form k) ok = at_all w t 0 _ _ refl (inr (inr (inl (ap Form (sym (eqb-true k _ ok.0))))))
live_all w t (Admit u) ok = at_all w t 0 _ _ refl (inr (inr (inr (inl (ap Admit (sym (eqb-true u _ ok.0)))))))
live_all w t (Arrive k a) ok = at_all w t 2 _ _ refl (offered.in_all_subs k a t _ ok.0 (inl refl))
live_all w t (Ask u a) ok = on_cell w t a _ (offered.cell_found _ t a ok.1.1.0).within (in_entries_of t a _ (has_left (comings a t) _ _ (offered.in_comings u a t _ ok.0 (inl refl))))
live_all w t (Take u a) ok = on_cell w t a _ (offered.cell_found _ t a ok.1.0).within (in_entries_of t a _ (has_left (comings a t) _ _ (offered.in_comings u a t _ ok.0 (inr (inl refl)))))
live_all w t (Run u a) ok = on_cell w t a _ (offered.cell_found _ t a ok.0).within (has_left (on_boxes a t) _ _ (has_left (runs_on a t) _ _ (offered.in_runs u a t ok.0)))
live_all w t (Send u a) ok = on_cell w t a _ (offered.cell_found _ t a ok.0).within (has_left (on_boxes a t) _ _ (has_right (runs_on a t) _ _ (offered.in_sends u a t (λ x. is_going x.next) _ ok.0 (inl refl))))
live_all w t (End u a) ok = on_cell w t a _ (offered.cell_found _ t a ok.0).within (has_left (on_boxes a t) _ _ (has_right (runs_on a t) _ _ (offered.in_sends u a t (λ x. is_ended x.next) _ ok.0 (inr (inl refl)))))
live_all w t (Close u a) ok = on_cell w t a _ (offered.cell_found _ t a ok.1.0).within (in_entries_of t a _ (offered.in_entries a t _ (offered.close_in u a t ok.1.0)))
live_all w t (Complete k a) ok = on_cell w t a _ (offered.cell_found _ t a ok.0).within (in_entries_of t a _ (offered.in_entries a t _ (offered.complete_in k a t (λ e. not (is_complete_batch e)) ok.0)))
live_all w t (Sync l) ok = let g = held (λ g. nat_lt g.synced (length g.records)) (slice_get t.logs l) ok.0 in at_all w t 6 _ _ refl (has_map Sync (below (length t.logs)) l (has_below l (length t.logs) (is_within t.logs l g.it g.is)))
live_all w t (Note k a) ok = of_batches w t k _ _ ok.0 (offered.in_declared k a (batch_of k t.desk.batches) is_open (λ p. not p.noted) _ ok.0 (inl refl))
live_all w t (Commit k) ok = of_batches w t k _ _ ok.0 (offered.in_batch k (batch_of k t.desk.batches) _ _ ok.0 (inl refl))
live_all w t (Settle k) ok = of_batches w t k _ _ ok.0 (offered.in_batch k (batch_of k t.desk.batches) _ _ ok.0 (inr (inl refl)))
live_all w t (Abort k) ok = of_batches w t k _ _ ok.0 (offered.in_batch k (batch_of k t.desk.batches) _ _ ok.0 (inr (inr (inl refl))))
live_all w t (Rollback a) ok = on_cell w t a _ (offered.cell_found _ t a ok.0).within (has_right (on_boxes a t) _ _ (has_left (on_epoch a t) _ _ (inl refl)))
live_all w t (DropSub k a) ok = at_all w t 2 _ _ refl (offered.in_all_subs k a t _ ok.0 (inr (inl refl)))
live_all w t (DropControl u) ok = let m = offered.control_found u t.post.controls ok.0 in at_all w t 3 _ _ refl (has_flat_map (λ m. DropControl m.tid ∷ []) t.post.controls m.it _ m.has (inl (ap DropControl m.tid)))
live_all w t (Prepare u a) ok = of_acts w t u _ _ ok.1.0 (offered.in_place u a _ (λ p. not p.prepared) _ ok.1.0 (inl refl))
live_all w t (Vouch u a) ok = of_acts w t u _ _ ok.0 (offered.in_place u a _ (λ p. p.prepared && not p.vouched) _ (vouched u a (act_of u t.book.acts) ok.0) (inr (inl refl)))
  where
    vouched : (u a : ℕ) (o : Option Act) → holds (λ x. is_live_act x && (not (is_doomed x.status) && holds (λ p. p.prepared && not p.vouched) (joined_of a x))) o ≡ true → holds (λ x. holds (λ p. p.prepared && not p.vouched) (joined_of a x)) o ≡ true
    vouched u a None h = h
    vouched u a (Some x) h = (and_parts (not (is_doomed x.status)) _ (and_parts (is_live_act x) _ h).1).1
live_all w t (Decide u) ok = of_acts w t u _ _ ok.0 (offered.in_act u _ _ _ ok.0 (inl refl))
live_all w t (Seal u) ok = of_acts w t u _ _ ok.0 (offered.in_act u _ _ _ ok.0 (inr (inl refl)))
live_all w t (Finish u a) ok = of_acts w t u _ _ ok.0 (offered.in_place u a _ (λ p. not p.finished) _ ok.1.0 (inr (inr (inl refl))))
live_all w t (Reply n) ok = let r = held not (slice_get t.desk.replied n) ok.0 in at_all w t 7 _ _ refl (has_map Reply (below (length t.desk.replied)) n (has_below n (length t.desk.replied) (is_within t.desk.replied n r.it r.is)))
live_all w t (Trim k a) ok = of_batches w t k _ _ ok.0 (offered.in_declared_settled k a (batch_of k t.desk.batches) _ ok.0 (inr (inl refl)))

-- ---- who is not touched

pub stays_allowed : {C : Type 0} (w : Fixed C) (e : Event) (s : Machine C) (f : Event) → Framed w → IsSound w s → IsAllowed w e s → is_touched w e s f ≡ false → IsAllowed w f s ↔ IsAllowed w f (after w e s)
stays_allowed w e s f framed ok al h = let q = untouched w s framed e f ok al h in (λ x. subst AllTrue (sym q) x, λ x. subst AllTrue q x)
