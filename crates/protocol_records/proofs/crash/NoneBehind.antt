-- No record of a state of a member lies behind a cut.
use Rattle.std.specs.Prelude.{◌≡◌, refl, ℕ, ◌%◌, ◌==◌, not, Bool, true, false, ◌&&◌, ◌||◌, Some, is_some, List, [], ◌∷◌, ◌++◌, map, drop, find}
use Rattle.std.specs.List.{list_any}
use Rattle.std.proofs.Common.{sym, ap, subst, inl, inr, ◌∙◌}
use Rattle.std.proofs.lemmas.Bool.{true≢false, or_cases, or_left, or_right, and_parts, eqb-true, false_from_ne_true, not-true}
use Rattle.snap_base.specs.declared.transactions.Tx.{Tx}
use Rattle.snap_base.specs.declared.transactions.State.{State}
use Rattle.snap_base.proofs.Options.{same_some}
use Rattle.protocol.specs.Facts.{Alone}
use Rattle.protocol.specs.Fixed.{Fixed}
use Rattle.protocol.specs.Records.{LogRecord, is_complete, is_prepare}
use Rattle.protocol.specs.Parts.{Joined, Declared, OfBatch, OfAct, Machine}
use Rattle.protocol.specs.Events.{Event, Complete}
use Rattle.protocol.specs.Words.{holds, is_among, is_formed, is_value, is_complete_batch, is_batch_entry, declared_of, act_of, batch_of}
use Rattle.protocol.specs.Conditions.{IsAllowed, conditions}
use Rattle.protocol.specs.Effects.{after, cell_at, no_cell, log_at}
use Rattle.protocol.specs.Runs.{opening, IsRun, reached}
use Rattle.protocol.specs.History.{History, no_history, history, grown}
use Rattle.protocol_laws.specs.Tracks.{key_of}
use Rattle.protocol_laws.specs.Marks.{Known, Marked}
use Rattle.protocol.specs.Moments.{IsCut, left_in}
use Rattle.protocol_records.proofs.crash.KeptAll.{batch_kept, act_kept}
use Rattle.protocol_records.specs.Logged.{logged_at, actors_of_batch, has_joined, BatchesSure, ActsSure, Prepared}
use Rattle.protocol_records.specs.Telling.{told_states}
use Rattle.protocol_records.specs.Crash.{is_in}
use Rattle.protocol_laws.proofs.machine.TracksKept.{held}
use Rattle.protocol_laws.proofs.machine.TurnsKept.{one_is}
use Rattle.protocol_laws.proofs.machine.Good.{Given}
use Rattle.protocol_laws.proofs.machine.AllGood.{AllGood, along_good}
use Rattle.protocol_laws.proofs.machine.ActsKept.{Acts}
use Rattle.protocol_laws.proofs.machine.ActsOwed.{good_keys}
use Rattle.protocol_theorems.proofs.sets.AfterSets.{among_all}
use Rattle.protocol_records.proofs.crash.KeptSure.{declared_at, there_is}
use Rattle.protocol_records.proofs.crash.BatchesSure.{actors_stay}
use Rattle.protocol_records.proofs.crash.TellsKept.{told_join, told_all, batch_unmarked, differ_at}
use Rattle.protocol_records.proofs.crash.RecoverLists.{filter_none}
use Rattle.protocol_records.proofs.crash.RecoversKept.{named_batch, named_act}
use Rattle.protocol_records.proofs.crash.ToldOnce.{OnceTold, once_apart}
use Rattle.protocol_records.proofs.crash.OnceKept.{Declares, Once, AllOnce, new_record, once_step, marked_step}
use Rattle.protocol_records.proofs.crash.CrashParts.{Logs, NoneBehind, take_drop, in_kept}
use Rattle.protocol_records.proofs.crash.CrashWhole.{noted_in, vouched_in}

found_actor : (a : ℕ) (ps : List Declared) → is_some (find (λ p. p.actor == a) ps) ≡ true → is_among a (map (λ p. p.actor) ps) ≡ true
found_actor a [] h = absurd (true≢false (sym h))
found_actor a (p ∷ ps) h = by (p.actor == a) h (found_actor a ps)
  where
    by : (v : Bool) → is_some (Rattle.std.specs.Prelude.if◌then◌else◌ v (Some p) (find (λ p. p.actor == a) ps)) ≡ true → (is_some (find (λ p. p.actor == a) ps) ≡ true → is_among a (map (λ p. p.actor) ps) ≡ true) → (v || is_among a (map (λ p. p.actor) ps)) ≡ true
    by true h r = refl
    by false h r = r h

declares_step : {C : Type 0} (w : Fixed C) (Of : Tx → C → Type 0) (finish : C → List State → Alone) (e : Event) (s : Machine C) (h : History) → IsAllowed w e s → AllGood w Of finish s h → Declares w s → Declares w (after w e s)
unfolding Declares conditions
declares_step w Of finish e s h ok g d = λ k a q. elim (new_record w e s (is_complete k a) (a % w.text.logs) (λ j xs ts. refl) (λ j vs. refl) (λ u n c v xs. refl) q) [
  | inl v ↦ let z = d k a v in (z.0, actors_stay w e s k z.0 z.1, z.2)
  | inr v ↦ elim v [
    | inl j ↦ let u = and_parts (j.0 == k) (j.1 == a) j.3 in let z = own j.0 j.1 (subst (λ i. IsAllowed w i s) j.2 ok) in
        (z.0, actors_stay w e s k z.0 (ap (λ i. actors_of_batch (batch_of i s.desk.batches)) (sym (eqb-true j.0 k u.0)) ∙ z.1), subst (λ i. is_among i z.0 ≡ true) (eqb-true j.1 a u.1) z.2)
    | inr j ↦ absurd (true≢false (sym j.3))
  ]
]
  where
    own : (k a : ℕ) → IsAllowed w (Complete k a) s → (xs : List ℕ) × (actors_of_batch (batch_of k s.desk.batches) ≡ Some xs) × (is_among a xs ≡ true)
    own k a ok =
        let u = batch_unmarked k (cell_at s a).entries (held (λ c. holds (λ e. not (is_complete_batch e)) (find (is_batch_entry k) c.entries)) s.cells a no_cell ok.0) (differ_at w s h a g.good.tracked) in
        let b = one_is (λ b. is_some (declared_of a b)) (batch_of k s.desk.batches) (declared_at a k s.desk.batches (map key_of (cell_at s a).entries) u.1 (good_keys a s.desk.batches (cell_at s a).entries (g.good.from_desk.entries a))) in
        (map (λ p. p.actor) b.0.places, ap actors_of_batch b.1, found_actor a b.0.places b.2)

pub none_behind : {C : Type 0} (w : Fixed C) (Of : Tx → C → Type 0) (finish : C → List State → Alone) (s : Machine C) (h : History) (kept : ℕ → ℕ) (a : ℕ) → IsCut s kept → AllGood w Of finish s h → Logs w s h → Once w s → NoneBehind w s kept a
unfolding NoneBehind AllOnce Declares Known Marked BatchesSure ActsSure Acts Prepared
none_behind w Of finish s h kept a c g l o = filter_none (λ o. is_in w.text.logs (left_in s kept) o.who) (told_states a rest) (told_all (λ y. is_in w.text.logs (left_in s kept) y ≡ false) a rest
    (λ k q. false_from_ne_true (is_in w.text.logs (left_in s kept) (OfBatch k)) (λ e. once_apart (OfBatch k) (told_states a cut) (told_states a rest) once (named_batch k a cut (batch_in k q e)) (named_batch k a rest q)))
    (λ t q. false_from_ne_true (is_in w.text.logs (left_in s kept) (OfAct t)) (λ e. once_apart (OfAct t) (told_states a cut) (told_states a rest) once (named_act t a cut (act_in t q e)) (named_act t a rest q))))
  where
    cut : List LogRecord
    cut = left_in s kept (a % w.text.logs)

    rest : List LogRecord
    rest = drop (kept (a % w.text.logs)) (log_at s (a % w.text.logs)).records

    whole : (log_at s (a % w.text.logs)).records ≡ left_in s kept (a % w.text.logs) ++ drop (kept (a % w.text.logs)) (log_at s (a % w.text.logs)).records
    whole = take_drop (kept (a % w.text.logs)) (log_at s (a % w.text.logs)).records

    once : OnceTold (told_states a (left_in s kept (a % w.text.logs)) ++ told_states a (drop (kept (a % w.text.logs)) (log_at s (a % w.text.logs)).records))
    once = subst OnceTold (ap (told_states a) whole ∙ told_join a (left_in s kept (a % w.text.logs)) (drop (kept (a % w.text.logs)) (log_at s (a % w.text.logs)).records)) (o.once a)

    all_there : (p : LogRecord → Bool) → list_any p (drop (kept (a % w.text.logs)) (log_at s (a % w.text.logs)).records) ≡ true → logged_at p s.logs (a % w.text.logs) ≡ true
    all_there p q = ap (list_any p) whole ∙ Rattle.protocol_records.proofs.crash.Durable.any_back p (left_in s kept (a % w.text.logs)) (drop (kept (a % w.text.logs)) (log_at s (a % w.text.logs)).records) q

    batch_in : (k : ℕ) → list_any (is_complete k a) (drop (kept (a % w.text.logs)) (log_at s (a % w.text.logs)).records) ≡ true → is_in w.text.logs (left_in s kept) (OfBatch k) ≡ true → list_any (is_complete k a) (left_in s kept (a % w.text.logs)) ≡ true
    batch_in k q e =
        let kk = batch_kept w Of finish s h k g (in_kept w s h kept (OfBatch k) l.written e) in
        let b = one_is (λ x. true) (batch_of k s.desk.batches) (there_is (batch_of k s.desk.batches) (g.good.known k kk)) in
        let m = g.good.marked k b.0 b.1 in
        let d = o.declares k a (all_there (is_complete k a) q) in
        let same = same_some d.0 (map (λ p. p.actor) b.0.places) (sym d.1 ∙ ap actors_of_batch b.1) in
        among_all (λ a. list_any (is_complete k a) (left_in s kept (a % w.text.logs)) ≡ true) a (map (λ p. p.actor) b.0.places) (subst (λ z. is_among a z ≡ true) same d.2) (noted_in w s kept k b.0.places c (m.all_noted (not-true (is_formed b.0.stage) (sym m.known ∙ kk))) (l.batches k b.0 b.1).noted)

    place_among : (ps : List Joined) → list_any (λ p. p.actor == a) ps ≡ true → is_among a (map (λ p. p.actor) ps) ≡ true
    place_among [] e = e
    place_among (p ∷ ps) e = elim (or_cases (p.actor == a) _ e) [ inl q ↦ or_left (p.actor == a) _ q | inr q ↦ or_right (p.actor == a) _ (place_among ps q) ]

    act_in : (t : ℕ) → list_any (is_prepare t a) (drop (kept (a % w.text.logs)) (log_at s (a % w.text.logs)).records) ≡ true → is_in w.text.logs (left_in s kept) (OfAct t) ≡ true → list_any (is_prepare t a) (left_in s kept (a % w.text.logs)) ≡ true
    act_in t q e =
        let kk = in_kept w s h kept (OfAct t) l.written e in
        let x = one_is (λ x. is_value x.result && has_joined a x) (act_of t s.book.acts) (l.prepared t a (all_there (is_prepare t a) q)) in
        let u = and_parts (is_value x.0.result) (has_joined a x.0) x.2 in
        let v = act_kept w Of finish s h t x.0 g x.1 kk in
        among_all (λ a. list_any (is_prepare t a) (left_in s kept (a % w.text.logs)) ≡ true) a (map (λ p. p.actor) x.0.places) (place_among x.0.places u.1) (vouched_in w s kept t x.0.places c ((l.acts t x.0 x.1).everywhere v.0 v.1) (l.acts t x.0 x.1).vouched)

-- ---- over every run

pub record Both {C : Type 0} (w : Fixed C) (s : Machine C) (h : History) : Type 0 where
  pub logs : Logs w s h
  pub once : Once w s

pub both_opened : {C : Type 0} (w : Fixed C) → Both w (opening w) no_history
unfolding AllOnce Declares Rattle.protocol_records.proofs.crash.OnceKept.MarkedPrepared
both_opened w = record {
  logs = Rattle.protocol_records.proofs.crash.CrashParts.logs_opened w;
  once = record {
    once = λ a. subst (λ rs. OnceTold (told_states a rs)) (sym (Rattle.protocol_records.proofs.crash.CrashParts.no_records w.text.logs (a % w.text.logs))) tt;
    marked = λ t a e. absurd (Rattle.protocol_records.proofs.crash.CrashParts.none_logged (is_prepare t a) w.text.logs (a % w.text.logs) e);
    declares = λ k a e. absurd (Rattle.protocol_records.proofs.crash.CrashParts.none_logged (is_complete k a) w.text.logs (a % w.text.logs) e);
  };
}

pub both_kept : {C : Type 0} (w : Fixed C) (Of : Tx → C → Type 0) (finish : C → List State → Alone) (e : Event) (s : Machine C) (h : History) → Given w Of finish → IsAllowed w e s → AllGood w Of finish s h → Both w s h → Both w (after w e s) (grown w e s h)
both_kept w Of finish e s h v ok g b = record {
  logs = Rattle.protocol_records.proofs.crash.CrashParts.logs_kept w Of finish e s h v ok g b.logs;
  once = record { once = once_step w Of finish e s h ok g b.logs.telling b.once.marked b.once.once; marked = marked_step w e s ok b.once.marked; declares = declares_step w Of finish e s h ok g b.once.declares };
}

pub both_hold : {C : Type 0} (w : Fixed C) (Of : Tx → C → Type 0) (finish : C → List State → Alone) (es : List Event) → Given w Of finish → IsRun w es → Both w (reached w es) (history w es)
both_hold w Of finish es v run = along_good w Of finish (Both w) v (λ e s h ok g b. both_kept w Of finish e s h v ok g b) (both_opened w) es run
