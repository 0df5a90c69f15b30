-- A control lies at an actor only where its transaction has an entry; so whose it is, the post knows.
use Rattle.std.specs.Prelude.{◌≡◌, refl, ℕ, ◌==◌, not, Bool, true, false, ◌||◌, ◌&&◌, if◌then◌else◌, Option, Some, None, is_some, List, [], ◌∷◌, ◌++◌, map, filter}
use Rattle.std.specs.List.{AllByRecursion, list_any}
use Rattle.std.proofs.Common.{sym, ap, subst, inl, inr, ◌∙◌}
use Rattle.std.proofs.lemmas.List.{append-nil}
use Rattle.std.proofs.lemmas.Bool.{true≢false, eqb-true, eq-eqb, or_cases, or_left, or_right, or_parts, and_parts}
use Rattle.protocol.specs.Rivals.{Lock}
use Rattle.protocol.specs.Fixed.{Fixed, Sliced}
use Rattle.protocol.specs.Parts.{Batch, Pact, Cascade, Slot, ControlMessage, Waiting, Entry, BatchEntry, ActEntry, Cell, Machine, Stage, Formed, Committing, Settled}
use Rattle.protocol.specs.Events.{Event, Arrive, Ask, Take, Run, Send, End, Close, Complete, Rollback, Finish, Trim}
use Rattle.protocol.specs.Words.{holds, names_pact, names_slot, is_settled, is_formed, batch_of, declared_of, who_of, is_entry_of, is_act_entry, is_batch_entry, has_entry, control_of, waiting_of, sub_of, lock_of}
use Rattle.protocol.specs.Conditions.{IsAllowed, conditions}
use Rattle.protocol.specs.Effects.{after, cell_at, no_cell}
use Rattle.protocol.specs.OnBook as book
use Rattle.protocol.specs.OnCell as cell
use Rattle.protocol_laws.specs.FromDesk.{is_pact_of, EntryOf, FromDesk}
use Rattle.protocol_laws.proofs.machine.ControlWalk.{AllControls}
use Rattle.protocol_laws.proofs.machine.Resting.{NoneNoted, NoResult}
use Rattle.protocol_laws.proofs.machine.RunOwed.{Valued, has_results}
use Rattle.protocol_laws.proofs.machine.TracksKept.{held}
use Rattle.protocol_laws.proofs.machine.TurnsKept.{one_is}
use Rattle.protocol_laws.proofs.machine.FromDeskKept.{one_cell}
use Rattle.protocol_laws.proofs.first.Lists.{all_filter, all_found, all_join, both_all, weaker}

abbrev pub In : {X : Type 0} → List Entry → (X → ℕ) → List X → Type 0
In es f ys = AllByRecursion (λ y. has_entry (f y) es ≡ true) ys

abbrev pub BoxedAt : {C : Type 0} → ℕ → Cell C → Type 0
BoxedAt b c = In c.entries (λ x. x.tid) c.inbox × In c.entries (λ x. x.tid) c.outbox

unfoldable pub Boxed : {C : Type 0} → Machine C → Type 0
Boxed s = (a : ℕ) → BoxedAt a (cell_at s a)

in_more : {X : Type 0} (es fs : List Entry) (f : X → ℕ) (ys : List X) → ((u : ℕ) → has_entry u es ≡ true → has_entry u fs ≡ true) → In es f ys → In fs f ys
in_more es fs f ys k h = weaker (λ y. has_entry (f y) es ≡ true) (λ y. has_entry (f y) fs ≡ true) ys (λ y p. k (f y) p) h

in_gone : {X : Type 0} (es fs gone : List Entry) (f : X → ℕ) (ys : List X) → ((u : ℕ) → cell.is_tid_among u gone ≡ false → has_entry u es ≡ true → has_entry u fs ≡ true) → In es f ys → In fs f (filter (λ y. not (cell.is_tid_among (f y) gone)) ys)
in_gone es fs gone f [] k h = tt
in_gone es fs gone f (y ∷ ys) k h = by (cell.is_tid_among (f y) gone) refl (in_gone es fs gone f ys k h.1)
  where
    by : (v : Bool) → cell.is_tid_among (f y) gone ≡ v → In fs f (filter (λ y. not (cell.is_tid_among (f y) gone)) ys) → In fs f (if not v then y ∷ filter (λ y. not (cell.is_tid_among (f y) gone)) ys else filter (λ y. not (cell.is_tid_among (f y) gone)) ys)
    by true e g = g
    by false e g = (k (f y) e h.0, g)

join : (u : ℕ) (es fs : List Entry) → has_entry u es ≡ true → has_entry u (es ++ fs) ≡ true
join u [] fs h = absurd (true≢false (sym h))
join u (e ∷ es) fs h = elim (or_cases (is_entry_of u e) (has_entry u es) h) [ inl q ↦ or_left (is_entry_of u e) _ q | inr q ↦ or_right (is_entry_of u e) _ (join u es fs q) ]

own : (t : Lock) (es : List Entry) → has_entry t.tid (es ++ ActEntry t ∷ []) ≡ true
own t [] = or_left (t.tid == t.tid) _ (eq-eqb t.tid t.tid refl)
own t (e ∷ es) = or_right (is_entry_of t.tid e) _ (own t es)

slots_done : (u t : ℕ) (ss : List Slot) → list_any (λ s. s.tid == u) (map (cell.done_if t) ss) ≡ list_any (λ s. s.tid == u) ss
slots_done u t [] = refl
slots_done u t (s ∷ ss) = ap (λ z. (s.tid == u) || z) (slots_done u t ss)

done : (u t : ℕ) (es : List Entry) → has_entry u (map (cell.done_in t) es) ≡ has_entry u es
done u t [] = refl
done u t (BatchEntry b ∷ es) = rw (slots_done u t b.slots, done u t es) refl
done u t (ActEntry x ∷ es) = ap (λ z. (x.tid == u) || z) (done u t es)

complete : (u k : ℕ) (es : List Entry) → has_entry u (map (cell.complete_in k) es) ≡ has_entry u es
complete u k [] = refl
complete u k (BatchEntry b ∷ es) = ap (λ z. names_slot u b || z) (complete u k es)
complete u k (ActEntry x ∷ es) = ap (λ z. (x.tid == u) || z) (complete u k es)

staying : (u : ℕ) (cs : List Cascade) (es : List Entry) → cell.is_tid_among u (cell.going cs es) ≡ false → has_entry u es ≡ true → has_entry u (cell.staying cs es) ≡ true
staying u cs [] n h = h
staying u cs (e ∷ es) n h = by (cell.is_cut cs (who_of e)) n (staying u cs es)
  where
    by : (v : Bool) → cell.is_tid_among u (if v then e ∷ es else cell.going cs es) ≡ false → (cell.is_tid_among u (cell.going cs es) ≡ false → has_entry u es ≡ true → has_entry u (cell.staying cs es) ≡ true) → has_entry u (if v then [] else e ∷ cell.staying cs es) ≡ true
    by true n r = absurd (true≢false (sym h ∙ n))
    by false n r = elim (or_cases (is_entry_of u e) (has_entry u es) h) [ inl q ↦ or_left (is_entry_of u e) _ q | inr q ↦ or_right (is_entry_of u e) _ (r n q) ]

left : (u t : ℕ) (es : List Entry) → cell.is_tid_among u (cell.own_entries t es) ≡ false → has_entry u es ≡ true → has_entry u (filter (λ e. not (is_act_entry t e)) es) ≡ true
left u t [] n h = h
left u t (BatchEntry b ∷ es) n h = elim (or_cases (names_slot u b) (has_entry u es) h) [ inl q ↦ or_left (names_slot u b) _ q | inr q ↦ or_right (names_slot u b) _ (left u t es n q) ]
left u t (ActEntry x ∷ es) n h = by (x.tid == t) n (left u t es)
  where
    by : (v : Bool) → cell.is_tid_among u (if v then ActEntry x ∷ cell.own_entries t es else cell.own_entries t es) ≡ false → (cell.is_tid_among u (cell.own_entries t es) ≡ false → has_entry u es ≡ true → has_entry u (filter (λ e. not (is_act_entry t e)) es) ≡ true)
        → has_entry u (if not v then ActEntry x ∷ filter (λ e. not (is_act_entry t e)) es else filter (λ e. not (is_act_entry t e)) es) ≡ true
    by true n r = let p = or_parts (x.tid == u) (cell.is_tid_among u (cell.own_entries t es)) n in elim (or_cases (x.tid == u) (has_entry u es) h) [ inl q ↦ absurd (true≢false (sym q ∙ p.0)) | inr q ↦ r p.1 q ]
    by false n r = elim (or_cases (x.tid == u) (has_entry u es) h) [ inl q ↦ or_left (x.tid == u) _ q | inr q ↦ or_right (x.tid == u) _ (r n q) ]

-- who has a control is no PACT of a batch whose PACTs all have results
trimmed : (a k u : ℕ) (bs : List Batch) (es : List Entry) → (is_pact_of u k bs ≡ true → ⊥) → AllByRecursion (EntryOf a bs) es → has_entry u es ≡ true → has_entry u (filter (λ e. not (is_batch_entry k e)) es) ≡ true
trimmed a k u bs [] n f h = h
trimmed a k u bs (ActEntry x ∷ es) n f h = elim (or_cases (x.tid == u) (has_entry u es) h) [ inl q ↦ or_left (x.tid == u) _ q | inr q ↦ or_right (x.tid == u) _ (trimmed a k u bs es n f.1 q) ]
trimmed a k u bs (BatchEntry b ∷ es) n f h = by (b.bid == k) refl (trimmed a k u bs es n f.1)
  where
    named : (ss : List Slot) → list_any (λ s. s.tid == u) ss ≡ true → AllByRecursion (λ s. is_pact_of s.tid b.bid bs ≡ true) ss → is_pact_of u b.bid bs ≡ true
    named [] e g = absurd (true≢false (sym e))
    named (s ∷ ss) e g = elim (or_cases (s.tid == u) (list_any (λ s. s.tid == u) ss) e) [ inl q ↦ subst (λ z. is_pact_of z b.bid bs ≡ true) (eqb-true s.tid u q) g.0 | inr q ↦ named ss q g.1 ]

    by : (v : Bool) → (b.bid == k) ≡ v → (has_entry u es ≡ true → has_entry u (filter (λ e. not (is_batch_entry k e)) es) ≡ true) → has_entry u (if not v then BatchEntry b ∷ filter (λ e. not (is_batch_entry k e)) es else filter (λ e. not (is_batch_entry k e)) es) ≡ true
    by true e r = elim (or_cases (names_slot u b) (has_entry u es) h) [ inl q ↦ absurd (n (subst (λ z. is_pact_of u z bs ≡ true) (eqb-true b.bid k e) (named b.slots q f.0.1))) | inr q ↦ r q ]
    by false e r = elim (or_cases (names_slot u b) (has_entry u es) h) [ inl q ↦ or_left (names_slot u b) _ q | inr q ↦ or_right (names_slot u b) _ (r q) ]

pub with_results : (u k : ℕ) (b : Batch) (bs : List Batch) → batch_of k bs ≡ Some b → has_results b.pacts ≡ true → NoResult u bs → is_pact_of u k bs ≡ true → ⊥
with_results u k b bs e h n p = among b.pacts (subst (λ o. holds (names_pact u) o ≡ true) e p) h (all_found (λ b. AllByRecursion (λ p. p.tid ≡ u → p.result ≡ None) b.pacts) (λ b. b.bid == k) bs b n e).0
  where
    among : (ps : List Pact) → list_any (λ p. p.tid == u) ps ≡ true → has_results ps ≡ true → AllByRecursion (λ p. p.tid ≡ u → p.result ≡ None) ps → ⊥
    among [] q h n = true≢false (sym q)
    among (p ∷ ps) q h n =
        let v = and_parts (is_some p.result) (has_results ps) h in
        elim (or_cases (p.tid == u) (list_any (λ p. p.tid == u) ps) q) [ inl i ↦ true≢false (sym v.0 ∙ ap is_some (n.0 (eqb-true p.tid u i))) | inr i ↦ among ps i v.1 n.1 ]

came : {C : Type 0} (es : List Entry) (t : ℕ) (cs : List (ControlMessage C)) (o : Option (ControlMessage C)) → control_of t cs ≡ o → has_entry t es ≡ true → In es (λ x. x.tid) (cell.arrived o)
came es t cs None e h = tt
came {C} es t cs (Some m) e h = (subst (λ z. has_entry z es ≡ true) (sym (tid_of cs e)) h, tt)
  where
    tid_of : (cs : List (ControlMessage C)) → control_of t cs ≡ Some m → m.tid ≡ t
    tid_of [] e = absurd (cc e)
    tid_of (x ∷ cs) e = by (x.tid == t) refl e (tid_of cs)
      where
        by : (v : Bool) → (x.tid == t) ≡ v → (if v then Some x else control_of t cs) ≡ Some m → (control_of t cs ≡ Some m → m.tid ≡ t) → m.tid ≡ t
        by true q e r = let i : x ≡ m = cc e in subst (λ z. z.tid ≡ t) i (eqb-true x.tid t q)
        by false q e r = r e

ask : {C : Type 0} (t : Lock) (o : Option ℕ) (es : List Entry) (cs : List (ControlMessage C)) (ins : List (Waiting C)) → In es (λ x. x.tid) ins → In (es ++ cell.act_entries t o) (λ x. x.tid) (ins ++ cell.where_placed o (control_of t.tid cs))
ask t None es cs ins h = all_join (λ x. has_entry x.tid (es ++ cell.act_entries t None) ≡ true) ins (cell.arrived (control_of t.tid cs)) (in_more es (es ++ cell.act_entries t None) (λ x. x.tid) ins (λ u q. join u es (cell.act_entries t None) q) h) (came (es ++ cell.act_entries t None) t.tid cs (control_of t.tid cs) refl (own t es))
ask t (Some older) es cs ins h = rw (append-nil es, append-nil ins) h

out_of : {C : Type 0} (es : List Entry) (t : ℕ) (o : Option (Sliced C)) → has_entry t es ≡ true → In es (λ x. x.tid) (cell.outcomes t o)
out_of es t None h = tt
out_of es t (Some r) h = (h, tt)

run_entries : (v : Bool) (t u : ℕ) (es : List Entry) → has_entry u es ≡ true → has_entry u (if v then map (cell.done_in t) es else es) ≡ true
run_entries true t u es h = done u t es ∙ h
run_entries false t u es h = h

waits : {C : Type 0} (es : List Entry) (t : ℕ) (ins : List (Waiting C)) → is_some (waiting_of t ins) ≡ true → In es (λ x. x.tid) ins → has_entry t es ≡ true
waits es t [] e h = absurd (true≢false (sym e))
waits es t (x ∷ ins) e h = by (x.tid == t) refl e (λ q. waits es t ins q h.1)
  where
    by : (v : Bool) → (x.tid == t) ≡ v → is_some (if v then Some x else waiting_of t ins) ≡ true → (is_some (waiting_of t ins) ≡ true → has_entry t es ≡ true) → has_entry t es ≡ true
    by true q e r = subst (λ z. has_entry z es ≡ true) (eqb-true x.tid t q) h.0
    by false q e r = r e

trims : {C : Type 0} (w : Fixed C) (s : Machine C) (k a u : ℕ) → IsAllowed w (Trim k a) s → Valued s → NoResult u s.desk.batches → is_pact_of u k s.desk.batches ≡ true → ⊥
unfolding conditions Valued
trims w s k a u ok v n p =
    let b = one_is (λ b. is_settled b.stage && (not b.aborted && holds (λ p. not p.trimmed) (declared_of a b))) (batch_of k s.desk.batches) ok.0 in
    with_results u k b.0 s.desk.batches b.1 (v k b.0 b.1 (later b.0.stage (and_parts (is_settled b.0.stage) (not b.0.aborted && holds (λ p. not p.trimmed) (declared_of a b.0)) b.2).0)) n p
  where
    later : (st : Stage) → is_settled st ≡ true → is_formed st ≡ false
    later Formed t = absurd (true≢false (sym t))
    later Committing t = refl
    later Settled t = refl

pub boxed_kept : {C : Type 0} (w : Fixed C) (e : Event) (s : Machine C) → IsAllowed w e s → AllControls (NoneNoted s) s → Valued s → FromDesk s → Boxed s → Boxed (after w e s)
unfolding Boxed after conditions
boxed_kept w (Arrive k a) s ok n v d g = let new = (cell_at s a).entries ++ cell.batch_entries k (sub_of k a s.post.subs) in one_cell BoxedAt s.cells a _ (λ z. (in_more (cell_at s a).entries new (λ x. x.tid) (cell_at s a).inbox (λ u q. join u (cell_at s a).entries (cell.batch_entries k (sub_of k a s.post.subs)) q) z.0, in_more (cell_at s a).entries new (λ x. x.tid) (cell_at s a).outbox (λ u q. join u (cell_at s a).entries (cell.batch_entries k (sub_of k a s.post.subs)) q) z.1)) g
boxed_kept w (Ask t a) s ok n v d g = one_cell BoxedAt s.cells a _ (λ z. (ask (lock_of t s.book.acts) (book.in_the_way (lock_of t s.book.acts) (cell_at s a).entries) (cell_at s a).entries s.post.controls (cell_at s a).inbox z.0, in_more (cell_at s a).entries ((cell_at s a).entries ++ cell.act_entries (lock_of t s.book.acts) (book.in_the_way (lock_of t s.book.acts) (cell_at s a).entries)) (λ x. x.tid) (cell_at s a).outbox (λ u q. join u (cell_at s a).entries (cell.act_entries (lock_of t s.book.acts) (book.in_the_way (lock_of t s.book.acts) (cell_at s a).entries)) q) z.1)) g
boxed_kept w (Take t a) s ok n v d g = one_cell BoxedAt s.cells a _ (λ z. (all_join (λ x. has_entry x.tid (cell_at s a).entries ≡ true) (cell_at s a).inbox _ z.0 (came (cell_at s a).entries t s.post.controls (control_of t s.post.controls) refl (held (λ c. has_entry t c.entries) s.cells a no_cell ok.1.0)), z.1)) g
boxed_kept w (Run t a) s ok n v d g =
    let q = cell.is_done_after w.code a (cell.slice_of w.code t (cell_at s a)) in
    let new = if q then map (cell.done_in t) (cell_at s a).entries else (cell_at s a).entries in
    one_cell BoxedAt s.cells a (cell.slice_run w.code t a (cell_at s a)) (λ z. (
      all_filter (λ x. has_entry x.tid new ≡ true) _ (cell_at s a).inbox (in_more (cell_at s a).entries new (λ x. x.tid) (cell_at s a).inbox (λ u i. run_entries q t u (cell_at s a).entries i) z.0),
      all_join (λ x. has_entry x.tid new ≡ true) (cell_at s a).outbox _ (in_more (cell_at s a).entries new (λ x. x.tid) (cell_at s a).outbox (λ u i. run_entries q t u (cell_at s a).entries i) z.1)
          (out_of new t (cell.slice_of w.code t (cell_at s a)) (run_entries q t t (cell_at s a).entries (waits (cell_at s a).entries t (cell_at s a).inbox (held (λ c. is_some (waiting_of t c.inbox)) s.cells a no_cell ok.0) z.0))),
    )) g
boxed_kept w (Send t a) s ok n v d g = one_cell BoxedAt s.cells a _ (λ z. (z.0, all_filter (λ x. has_entry x.tid (cell_at s a).entries ≡ true) _ (cell_at s a).outbox z.1)) g
boxed_kept w (End t a) s ok n v d g = one_cell BoxedAt s.cells a _ (λ z. (z.0, all_filter (λ x. has_entry x.tid (cell_at s a).entries ≡ true) _ (cell_at s a).outbox z.1)) g
boxed_kept w (Close t a) s ok n v d g = let new = map (cell.done_in t) (cell_at s a).entries in one_cell BoxedAt s.cells a _ (λ z. (in_more (cell_at s a).entries new (λ x. x.tid) (cell_at s a).inbox (λ u q. done u t (cell_at s a).entries ∙ q) z.0, in_more (cell_at s a).entries new (λ x. x.tid) (cell_at s a).outbox (λ u q. done u t (cell_at s a).entries ∙ q) z.1)) g
boxed_kept w (Complete k a) s ok n v d g = let new = map (cell.complete_in k) (cell_at s a).entries in one_cell BoxedAt s.cells a _ (λ z. (in_more (cell_at s a).entries new (λ x. x.tid) (cell_at s a).inbox (λ u q. complete u k (cell_at s a).entries ∙ q) z.0, in_more (cell_at s a).entries new (λ x. x.tid) (cell_at s a).outbox (λ u q. complete u k (cell_at s a).entries ∙ q) z.1)) g
boxed_kept w (Rollback a) s ok n v d g = let new = cell.staying s.book.cascades (cell_at s a).entries in let gone = cell.going s.book.cascades (cell_at s a).entries in one_cell BoxedAt s.cells a _ (λ z. (in_gone (cell_at s a).entries new gone (λ x. x.tid) (cell_at s a).inbox (λ u i q. staying u s.book.cascades (cell_at s a).entries i q) z.0, in_gone (cell_at s a).entries new gone (λ x. x.tid) (cell_at s a).outbox (λ u i q. staying u s.book.cascades (cell_at s a).entries i q) z.1)) g
boxed_kept w (Finish t a) s ok n v d g = let new = filter (λ e. not (is_act_entry t e)) (cell_at s a).entries in let gone = cell.own_entries t (cell_at s a).entries in one_cell BoxedAt s.cells a _ (λ z. (in_gone (cell_at s a).entries new gone (λ x. x.tid) (cell_at s a).inbox (λ u i q. left u t (cell_at s a).entries i q) z.0, in_gone (cell_at s a).entries new gone (λ x. x.tid) (cell_at s a).outbox (λ u i q. left u t (cell_at s a).entries i q) z.1)) g
boxed_kept w (Trim k a) s ok n v d g = let new = filter (λ e. not (is_batch_entry k e)) (cell_at s a).entries in one_cell BoxedAt s.cells a (cell.batch_left k (cell_at s a)) (λ z. (
  both_all (λ x. NoResult x.tid s.desk.batches) (λ x. has_entry x.tid (cell_at s a).entries ≡ true) (λ x. has_entry x.tid new ≡ true) (cell_at s a).inbox (λ x r q. trimmed a k x.tid s.desk.batches (cell_at s a).entries (trims w s k a x.tid ok v r) (d.entries a) q) (n.inboxes a) z.0,
  both_all (λ x. NoResult x.tid s.desk.batches) (λ x. has_entry x.tid (cell_at s a).entries ≡ true) (λ x. has_entry x.tid new ≡ true) (cell_at s a).outbox (λ x r q. trimmed a k x.tid s.desk.batches (cell_at s a).entries (trims w s k a x.tid ok v r) (d.entries a) q) (n.outboxes a) z.1,
)) g
boxed_kept w e s ok n v d g = g
