-- Over every run: on each actor the records of those that committed stand in the order of commits, readers of one another aside; who
-- has one ahead is sure; and a reader's record tells the last state before it.
use Rattle.std.specs.Prelude.{◌≡◌, refl, ℕ, ◌%◌, not, Bool, true, false, ◌&&◌, ◌||◌, ◌⊎◌, if◌then◌else◌, is_some, List, [], ◌∷◌, ◌++◌, filter, ⊤}
use Rattle.std.specs.List.{AllByRecursion}
use Rattle.std.proofs.Common.{sym, ap, subst, inl, inr, ◌∙◌}
use Rattle.std.proofs.lemmas.Bool.{true≢false, or_cases, or_left, or_right, or_from, or_parts, and_parts, and_from, cases_Bool, false_from_ne_true, not-true}
use Rattle.snap_base.specs.declared.transactions.Tx.{Tx}
use Rattle.snap_base.specs.declared.transactions.State.{State}
use Rattle.protocol.specs.Facts.{Alone}
use Rattle.protocol.specs.Fixed.{Fixed}
use Rattle.protocol.specs.Parts.{Who, Machine}
use Rattle.protocol.specs.Events.{Event}
use Rattle.protocol.specs.Words.{is_who, is_value}
use Rattle.protocol.specs.Conditions.{IsAllowed}
use Rattle.protocol.specs.Effects.{after, cell_at}
use Rattle.protocol.specs.Runs.{opening, IsRun, reached}
use Rattle.protocol.specs.History.{Done, History, no_history, history, grown}
use Rattle.protocol_laws.specs.Commits.{is_kept, reads_who}
use Rattle.protocol_laws.proofs.first.Lists.{all_join, any_front, weaker, both_all}
use Rattle.protocol_laws.proofs.machine.TrackLists.{is_who_true, is_who_refl}
use Rattle.protocol_laws.proofs.machine.Good.{Given}
use Rattle.protocol_laws.proofs.machine.AllGood.{AllGood, along_good}
use Rattle.protocol_theorems.proofs.order.LastLaw as last
use Rattle.protocol_records.specs.Logged.{is_sure, came_valued, came_rival, IsThere, AllThere}
use Rattle.protocol_records.specs.Telling.{One, told_states, names, last_one, ToldRead, NoneLater, RecoversEachActor, ToldReads, is_uncommitted_writer, AllNoneLater}
use Rattle.protocol_records.proofs.crash.CrashParts.{logs_kept, logs_opened, no_records}
use Rattle.protocol_records.proofs.crash.Durable.{any_back, sure_stays}
use Rattle.protocol_records.proofs.crash.ReadersAside.{reads_told, none_later_kept}
use Rattle.protocol_records.proofs.crash.RecoverLists.{kept_end}
use Rattle.protocol_records.proofs.crash.RecoversKept.{ToldStep, told_step, recovers_kept, first_of}
use Rattle.followed_runs.specs.Following.{is_ahead}
use Rattle.followed_runs.proofs.Ahead.{ahead_first, ahead_more, ahead_split, one_ahead}
use Rattle.followed_runs.proofs.ReadersFirst.{told_at, is_pending, readers_first, was_last, pending_before}
use Rattle.followed_runs.proofs.OneCommits.{in_either, Known, OneMore, Writes, Reads, Nobody, commits_now}

-- ---- who has a record ahead of one of a rival is sure

abbrev pub SureAhead : (Who → Bool) → List Who → List Who → List One → Type 0
SureAhead sure kept readers os = (y z : Who) → in_either kept readers y ≡ true → in_either kept readers z ≡ true → (is_kept y kept || is_kept z kept) ≡ true → is_who y z ≡ false → is_ahead y z os ≡ true → sure y ≡ true

-- a record more, of one that did not commit, stands behind
pub ahead_step : (kept readers : List Who) (y z : Who) (os os' : List One) → ToldStep kept readers os os' → in_either kept readers z ≡ true → is_ahead y z os' ≡ true → is_ahead y z os ≡ true
ahead_step kept readers y z os os' (inl e) k i = subst (λ l. is_ahead y z l ≡ true) e i
ahead_step kept readers y z os os' (inr n) k i = elim (ahead_split y z os n.0 (subst (λ l. is_ahead y z l ≡ true) n.1 i)) [
  | inl q ↦ q
  | inr q ↦ absurd (true≢false (sym k ∙ (ap (in_either kept readers) (is_who_true z n.0.who q.1) ∙ or_from (is_kept n.0.who kept) (is_kept n.0.who readers) n.2 n.3)))
]

sure_more : (sure sure' : Who → Bool) (kept readers : List Who) (os os' : List One) → ((y : Who) → sure y ≡ true → sure' y ≡ true) → ToldStep kept readers os os' → SureAhead sure kept readers os → SureAhead sure' kept readers os'
sure_more sure sure' kept readers os os' up t h y z ey ez k n i = up y (h y z ey ez k n (ahead_step kept readers y z os os' t ez i))

-- one of them, or the one that commits now
old_or_new : (kept readers : List Who) (u y : Who) → in_either (kept ++ u ∷ []) readers y ≡ true → (in_either kept readers y ≡ true) ⊎ (is_who u y ≡ true)
old_or_new kept readers u y e = elim (or_cases (is_kept y (kept ++ u ∷ [])) (is_kept y readers) e) [
  | inl q ↦ elim (kept_end u y kept q) [ inl v ↦ inl (or_left (is_kept y kept) _ v) | inr v ↦ inr v ]
  | inr q ↦ inl (or_right (is_kept y kept) _ q)
]

old_or_reader : (kept readers : List Who) (u y : Who) → in_either kept (readers ++ u ∷ []) y ≡ true → (in_either kept readers y ≡ true) ⊎ (is_who u y ≡ true)
old_or_reader kept readers u y e = elim (or_cases (is_kept y kept) (is_kept y (readers ++ u ∷ [])) e) [
  | inl q ↦ inl (or_left (is_kept y kept) _ q)
  | inr q ↦ elim (kept_end u y readers q) [ inl v ↦ inl (or_right (is_kept y kept) _ v) | inr v ↦ inr v ]
]

-- one that had committed is not the one that does now
pub not_new : (kept readers : List Who) (u y : Who) → is_kept u kept ≡ false → is_kept u readers ≡ false → in_either kept readers y ≡ true → is_who u y ≡ true → ⊥
not_new kept readers u y f r e q = true≢false (sym e ∙ (ap (in_either kept readers) (sym (is_who_true u y q)) ∙ or_from (is_kept u kept) (is_kept u readers) f r))

was_kept : (kept readers : List Who) (u y : Who) → is_kept u kept ≡ false → is_kept u readers ≡ false → in_either kept readers y ≡ true → is_kept y (kept ++ u ∷ []) ≡ true → is_kept y kept ≡ true
was_kept kept readers u y f r e k = elim (kept_end u y kept k) [ inl v ↦ v | inr v ↦ absurd (not_new kept readers u y f r e v) ]

both_new : (u y z : Who) → is_who u y ≡ true → is_who u z ≡ true → is_who y z ≡ false → ⊥
both_new u y z p q n = true≢false (sym (subst (λ v. is_who v z ≡ true) (is_who_true u y p) q) ∙ n)

sure_writes : (sure sure' : Who → Bool) (kept readers : List Who) (u : Who) (os : List One) → ((y : Who) → sure y ≡ true → sure' y ≡ true) → is_kept u kept ≡ false → is_kept u readers ≡ false
    → ((z : Who) → in_either kept readers z ≡ true → is_ahead u z os ≡ true → ⊥) → ((z : Who) → in_either kept readers z ≡ true → is_ahead z u os ≡ true → sure z ≡ true) → SureAhead sure kept readers os → SureAhead sure' (kept ++ u ∷ []) readers os
sure_writes sure sure' kept readers u os up f r n s h y z ey ez k other i = elim (old_or_new kept readers u y ey) [
  | inl oy ↦ elim (old_or_new kept readers u z ez) [
    | inl oz ↦ up y (h y z oy oz (elim (or_cases (is_kept y (kept ++ u ∷ [])) (is_kept z (kept ++ u ∷ [])) k) [ inl q ↦ or_left (is_kept y kept) _ (was_kept kept readers u y f r oy q) | inr q ↦ or_right (is_kept y kept) _ (was_kept kept readers u z f r oz q) ]) other i)
    | inr nz ↦ up y (s y oy (subst (λ v. is_ahead y v os ≡ true) (sym (is_who_true u z nz)) i))
  ]
  | inr ny ↦ elim (old_or_new kept readers u z ez) [
    | inl oz ↦ absurd (n z oz (subst (λ v. is_ahead v z os ≡ true) (sym (is_who_true u y ny)) i))
    | inr nz ↦ absurd (both_new u y z ny nz other)
  ]
]

sure_reads : (sure sure' : Who → Bool) (kept readers : List Who) (u : Who) (os : List One) → ((y : Who) → sure y ≡ true → sure' y ≡ true) → is_kept u kept ≡ false
    → ((z : Who) → is_kept z kept ≡ true → is_ahead u z os ≡ true → ⊥) → ((z : Who) → is_kept z kept ≡ true → is_ahead z u os ≡ true → sure z ≡ true) → SureAhead sure kept readers os → SureAhead sure' kept (readers ++ u ∷ []) os
sure_reads sure sure' kept readers u os up f n s h y z ey ez k other i = elim (old_or_reader kept readers u y ey) [
  | inl oy ↦ elim (old_or_reader kept readers u z ez) [
    | inl oz ↦ up y (h y z oy oz k other i)
    | inr nz ↦ up y (s y (elim (or_cases (is_kept y kept) (is_kept z kept) k) [ inl q ↦ q | inr q ↦ absurd (no_writer z nz q) ]) (subst (λ v. is_ahead y v os ≡ true) (sym (is_who_true u z nz)) i))
  ]
  | inr ny ↦ elim (old_or_reader kept readers u z ez) [
    | inl oz ↦ absurd (n z (elim (or_cases (is_kept y kept) (is_kept z kept) k) [ inl q ↦ absurd (no_writer y ny q) | inr q ↦ q ]) (subst (λ v. is_ahead v z os ≡ true) (sym (is_who_true u y ny)) i))
    | inr nz ↦ absurd (both_new u y z ny nz other)
  ]
]
  where
    no_writer : (v : Who) → is_who u v ≡ true → is_kept v kept ≡ true → ⊥
    no_writer v e k = true≢false (sym k ∙ (ap (λ x. is_kept x kept) (sym (is_who_true u v e)) ∙ f))

-- ---- a reader's record tells the last state before it, of those that committed and do not only read

abbrev pub ReadersTell : List Who → List Who → State → List One → Type 0
ReadersTell kept readers s [] = ⊤
ReadersTell kept readers s (o ∷ os) = (is_kept o.who readers ≡ true → o.state ≡ s) × ReadersTell kept readers (if is_kept o.who kept then o.state else s) os

tell_one : (kept readers : List Who) (s : State) (os : List One) (n : One) → is_kept n.who readers ≡ false → ReadersTell kept readers s os → ReadersTell kept readers s (os ++ n ∷ [])
tell_one kept readers s [] n e h = ((λ q. absurd (true≢false (sym q ∙ e))), tt)
tell_one kept readers s (o ∷ os) n e h = (h.0, tell_one kept readers (if is_kept o.who kept then o.state else s) os n e h.1)

tell_more : (kept readers : List Who) (s : State) (os os' : List One) → ToldStep kept readers os os' → ReadersTell kept readers s os → ReadersTell kept readers s os'
tell_more kept readers s os os' (inl e) h = subst (ReadersTell kept readers s) (sym e) h
tell_more kept readers s os os' (inr n) h = subst (ReadersTell kept readers s) (sym n.1) (tell_one kept readers s os n.0 n.3 h)

pub kept_other : (u y : Who) (kept : List Who) → is_who u y ≡ false → is_kept y (kept ++ u ∷ []) ≡ is_kept y kept
kept_other u y [] e = rw e refl
kept_other u y (z ∷ zs) e = ap (λ v. is_who z y || v) (kept_other u y zs e)

nobody_told : (kept readers : List Who) (s : State) (os : List One) → ((z : Who) → is_kept z readers ≡ true → names z os ≡ true → ⊥) → ReadersTell kept readers s os
nobody_told kept readers s [] n = tt
nobody_told kept readers s (o ∷ os) n = ((λ q. absurd (n o.who q (or_left (is_who o.who o.who) _ (is_who_refl o.who)))), nobody_told kept readers (if is_kept o.who kept then o.state else s) os (λ z k m. n z k (or_right (is_who z o.who) _ m)))

tell_writes : (kept readers : List Who) (u : Who) (s : State) (os : List One) → ((z : Who) → is_kept z readers ≡ true → is_ahead u z os ≡ true → ⊥) → ReadersTell kept readers s os → ReadersTell (kept ++ u ∷ []) readers s os
tell_writes kept readers u s [] n h = tt
tell_writes kept readers u s (o ∷ os) n h = (
  h.0,
  elim (cases_Bool (is_who u o.who)) [
    | inl e ↦ nobody_told (kept ++ u ∷ []) readers (if is_kept o.who (kept ++ u ∷ []) then o.state else s) os (λ z k m. n z k (or_left (is_who u o.who && names z os) _ (and_from (is_who u o.who) (names z os) e m)))
    | inr e ↦ subst (λ b. ReadersTell (kept ++ u ∷ []) readers (if b then o.state else s) os) (sym (kept_other u o.who kept e)) (tell_writes kept readers u (if is_kept o.who kept then o.state else s) os (λ z k i. n z k (or_right (is_who u o.who && names z os) _ i)) h.1)
  ],
)

tell_unnamed : (kept readers : List Who) (u : Who) (s : State) (os : List One) → names u os ≡ false → ReadersTell kept readers s os → ReadersTell kept (readers ++ u ∷ []) s os
tell_unnamed kept readers u s [] n h = tt
tell_unnamed kept readers u s (o ∷ os) n h = let p = or_parts (is_who u o.who) (names u os) n in ((λ q. h.0 (sym (kept_other u o.who readers p.0) ∙ q)), tell_unnamed kept readers u (if is_kept o.who kept then o.state else s) os p.1 h.1)

none_counts : (p : Who → Bool) (os : List One) → ((z : Who) → p z ≡ true → names z os ≡ true → ⊥) → filter (λ o. p o.who) os ≡ []
none_counts p [] n = refl
none_counts p (o ∷ os) n = let e : p o.who ≡ false = false_from_ne_true (p o.who) (λ q. n o.who q (or_left (is_who o.who o.who) _ (is_who_refl o.who))) in rw e (none_counts p os (λ z k m. n z k (or_right (is_who z o.who) _ m)))

tell_reads : (kept readers : List Who) (u : Who) (now s : State) (os : List One) → is_kept u kept ≡ false → ((z : Who) → is_kept z kept ≡ true → is_ahead u z os ≡ true → ⊥) → AllByRecursion (λ o. is_who u o.who ≡ true → o.state ≡ now) os
    → last_one s (filter (λ o. is_kept o.who kept) os) ≡ now → ReadersTell kept readers s os → ReadersTell kept (readers ++ u ∷ []) s os
tell_reads kept readers u now s [] f n st l h = tt
tell_reads kept readers u now s (o ∷ os) f n st l h = (
  (λ q. elim (kept_end u o.who readers q) [ inl v ↦ h.0 v | inr v ↦ st.0 v ∙ sym (here v) ]),
  tell_reads kept readers u now (if is_kept o.who kept then o.state else s) os f (λ z k i. n z k (or_right (is_who u o.who && names z os) _ i)) st.1 (next (is_kept o.who kept) l) h.1,
)
  where
    next : (b : Bool) → last_one s (if b then o ∷ filter (λ o. is_kept o.who kept) os else filter (λ o. is_kept o.who kept) os) ≡ now → last_one (if b then o.state else s) (filter (λ o. is_kept o.who kept) os) ≡ now
    next true e = e
    next false e = e

    -- behind its record none counts
    here : is_who u o.who ≡ true → s ≡ now
    here v =
        let out : is_kept o.who kept ≡ false = ap (λ x. is_kept x kept) (sym (is_who_true u o.who v)) ∙ f in
        let none : filter (λ o. is_kept o.who kept) os ≡ [] = none_counts (λ y. is_kept y kept) os (λ z k m. n z k (or_left (is_who u o.who && names z os) _ (and_from (is_who u o.who) (names z os) v m))) in
        subst (λ l. last_one s l ≡ now) none (subst (λ b. last_one s (if b then o ∷ filter (λ o. is_kept o.who kept) os else filter (λ o. is_kept o.who kept) os) ≡ now) out l)

-- ---- of two rivals that came to the actor and committed, the record of the first one is ahead

abbrev pub DoneAhead : ℕ → List One → List Done → Type 0
DoneAhead a os [] = ⊤
DoneAhead a os (d ∷ ds) = AllByRecursion (λ e. came_valued a d ≡ true → came_rival a d e ≡ true → is_ahead d.who e.who os ≡ true) ds × DoneAhead a os ds

done_more : (a : ℕ) (os os' : List One) (ds : List Done) → ((y z : Who) → is_ahead y z os ≡ true → is_ahead y z os' ≡ true) → DoneAhead a os ds → DoneAhead a os' ds
done_more a os os' [] k h = tt
done_more a os os' (d ∷ ds) k h = (weaker (λ e. came_valued a d ≡ true → came_rival a d e ≡ true → is_ahead d.who e.who os ≡ true) (λ e. came_valued a d ≡ true → came_rival a d e ≡ true → is_ahead d.who e.who os' ≡ true) ds (λ e f p q. k d.who e.who (f p q)) h.0, done_more a os os' ds k h.1)

done_own : (a : ℕ) (u : Who) (os : List One) (ds : List Done) → AllByRecursion (λ d. d.who ≡ u) ds → DoneAhead a os ds
done_own a u os [] h = tt
done_own a u os (d ∷ ds) h = (weaker (λ e. e.who ≡ u) (λ e. came_valued a d ≡ true → came_rival a d e ≡ true → is_ahead d.who e.who os ≡ true) ds (λ e i p q. absurd (none e i q)) h.1, done_own a u os ds h.1)
  where
    none : (e : Done) → e.who ≡ u → came_rival a d e ≡ true → ⊥
    none e i q =
        let p = and_parts (not (is_who d.who e.who)) (not (d.reader && e.reader)) (and_parts (came_valued a e) _ q).1 in
        true≢false (sym (is_who_refl d.who) ∙ (ap (λ z. is_who d.who z) (h.0 ∙ sym i) ∙ not-true (is_who d.who e.who) p.0))

done_join : (a : ℕ) (os : List One) (ds es : List Done) → AllByRecursion (λ d. AllByRecursion (λ e. came_valued a d ≡ true → came_rival a d e ≡ true → is_ahead d.who e.who os ≡ true) es) ds → DoneAhead a os ds → DoneAhead a os es → DoneAhead a os (ds ++ es)
done_join a os [] es k h g = g
done_join a os (d ∷ ds) es k h g = (all_join (λ e. came_valued a d ≡ true → came_rival a d e ≡ true → is_ahead d.who e.who os ≡ true) ds es h.0 k.0, done_join a os ds es k.1 h.1 g)

-- those without a value are no rivals
done_failed : (a : ℕ) (os : List One) (ds es : List Done) → AllByRecursion (λ e. is_value e.result ≡ false) es → DoneAhead a os ds → DoneAhead a os (ds ++ es)
done_failed a os ds es n h = done_join a os ds es (each ds) h (own es n)
  where
    no_rival : (d e : Done) → is_value e.result ≡ false → came_rival a d e ≡ true → ⊥
    no_rival d e i q = true≢false (sym (and_parts (is_some (e.views a)) (is_value e.result) (and_parts (came_valued a e) _ q).0).1 ∙ i)

    each : (ds : List Done) → AllByRecursion (λ d. AllByRecursion (λ e. came_valued a d ≡ true → came_rival a d e ≡ true → is_ahead d.who e.who os ≡ true) es) ds
    each [] = tt
    each (d ∷ ds) = (weaker (λ e. is_value e.result ≡ false) (λ e. came_valued a d ≡ true → came_rival a d e ≡ true → is_ahead d.who e.who os ≡ true) es (λ e i p q. absurd (no_rival d e i q)) n, each ds)

    own : (es : List Done) → AllByRecursion (λ e. is_value e.result ≡ false) es → DoneAhead a os es
    own [] n = tt
    own (d ∷ ds) n = (weaker (λ e. is_value e.result ≡ false) (λ e. came_valued a d ≡ true → came_rival a d e ≡ true → is_ahead d.who e.who os ≡ true) ds (λ e i p q. absurd (no_rival d e i q)) n.1, own ds n.1)

-- ---- all of it, along a run

pub record InOrder {C : Type 0} (w : Fixed C) (Of : Tx → C → Type 0) (finish : C → List State → Alone) (s : Machine C) (h : History) : Type 0 where
  pub known : Known w Of finish s h
  pub sure : (a : ℕ) → SureAhead (is_sure w.text.logs s.logs) h.kept h.kept_readers (told_at w s a)
  pub tells : (a : ℕ) → ReadersTell h.kept h.kept_readers (first_of w a) (told_at w s a)
  pub came : (a : ℕ) → AllByRecursion (λ d. came_valued a d ≡ true → names d.who (told_at w s a) ≡ true) h.committed
  pub done : AllByRecursion (λ d. is_value d.result ≡ true → in_either h.kept h.kept_readers d.who ≡ true) h.committed
  pub done_ahead : (a : ℕ) → DoneAhead a (told_at w s a) h.committed

known_kept : {C : Type 0} (w : Fixed C) (Of : Tx → C → Type 0) (finish : C → List State → Alone) (e : Event) (s : Machine C) (h : History) → Given w Of finish → IsAllowed w e s → AllGood w Of finish s h → Known w Of finish s h → Known w Of finish (after w e s) (grown w e s h)
known_kept {C} w Of finish e s h v ok g b = record {
  logs = logs_kept w Of finish e s h v ok g b.logs;
  whole = last.kept w Of finish e s h v ok g b.whole;
  recovers = recovers_kept w Of finish e s h v ok g b.logs.batches b.logs.acts b.logs.stand b.logs.joined b.logs.prepared b.logs.there b.logs.telling b.whole b.recovers;
  reads = reads_told w Of finish e s h ok g b.logs.acts b.logs.stand b.logs.prepared b.reads;
  none_later = none_later_kept w Of finish e s h v ok g b.whole b.logs.acts b.logs.stand b.logs.prepared b.logs.telling b.none_later;
  first = readers_first w Of finish e s h ok g b.whole b.logs.acts b.logs.stand b.logs.prepared b.first;
  last = λ a y z p k i. later a y z p k i (commits_now w Of finish e s h v ok g b);
}
  where
    old : (a : ℕ) (y z : Who) → is_pending (after w e s).book.acts y ≡ true → is_kept z h.kept ≡ true → is_ahead y z (told_at w (after w e s) a) ≡ true → ⊥
    old a y z p k i = was_last w Of finish e s h a y z ok g b.logs.acts b.logs.stand b.logs.prepared b.last p k i

    later : (a : ℕ) (y z : Who) → is_pending (after w e s).book.acts y ≡ true → is_kept z (grown w e s h).kept ≡ true → is_ahead y z (told_at w (after w e s) a) ≡ true → Nobody w e s h ⊎ (((u : Who) × Writes w e s h u) ⊎ ((u : Who) × Reads w e s h u)) → ⊥
    later a y z p k i (inl n) = old a y z p (subst (λ l. is_kept z l ≡ true) n.kept k) i
    later a y z p k i (inr (inr r)) = old a y z p (subst (λ l. is_kept z l ≡ true) r.1.kept k) i
    later a y z p k i (inr (inl r)) = elim (kept_end r.0 z h.kept (subst (λ l. is_kept z l ≡ true) r.1.kept k)) [
      | inl q ↦ old a y z p q i
      | inr q ↦
          let j : is_ahead y r.0 (told_at w s a) ≡ true = subst (λ v. is_ahead y v (told_at w s a) ≡ true) (sym (is_who_true r.0 z q)) (subst (λ os. is_ahead y z os ≡ true) (r.1.one.told a) i) in
          r.1.pending a y (pending_before w e s a y ok b.logs.prepared p (ahead_first y r.0 (told_at w s a) j)) j
    ]

pub grows : (kept readers : List Who) (y z : Who) (os os' : List One) → ToldStep kept readers os os' → is_ahead y z os ≡ true → is_ahead y z os' ≡ true
grows kept readers y z os os' (inl e) i = subst (λ l. is_ahead y z l ≡ true) (sym e) i
grows kept readers y z os os' (inr n) i = subst (λ l. is_ahead y z l ≡ true) (sym n.1) (ahead_more y z os (n.0 ∷ []) i)

named_more : (kept readers : List Who) (y : Who) (os os' : List One) → ToldStep kept readers os os' → names y os ≡ true → names y os' ≡ true
named_more kept readers y os os' (inl e) i = ap (names y) e ∙ i
named_more kept readers y os os' (inr n) i = ap (names y) n.1 ∙ any_front (λ o. is_who y o.who) os (n.0 ∷ []) i

-- nobody gets its place with a value
nobody_kept : {C : Type 0} (w : Fixed C) (Of : Tx → C → Type 0) (finish : C → List State → Alone) (e : Event) (s : Machine C) (h : History) → Given w Of finish → IsAllowed w e s → AllGood w Of finish s h → InOrder w Of finish s h → Nobody w e s h → InOrder w Of finish (after w e s) (grown w e s h)
nobody_kept {C} w Of finish e s h v ok g i n = record {
  known = known_kept w Of finish e s h v ok g i.known;
  sure = λ a. subst (λ k. SureAhead (is_sure w.text.logs (after w e s).logs) k (grown w e s h).kept_readers (told_at w (after w e s) a)) (sym n.kept) (subst (λ k. SureAhead (is_sure w.text.logs (after w e s).logs) h.kept k (told_at w (after w e s) a)) (sym n.readers)
      (sure_more (is_sure w.text.logs s.logs) (is_sure w.text.logs (after w e s).logs) h.kept h.kept_readers (told_at w s a) (told_at w (after w e s) a) (λ y q. sure_stays w e s y q) (told a) (i.sure a)));
  tells = λ a. subst (λ k. ReadersTell k (grown w e s h).kept_readers (first_of w a) (told_at w (after w e s) a)) (sym n.kept) (subst (λ k. ReadersTell h.kept k (first_of w a) (told_at w (after w e s) a)) (sym n.readers)
      (tell_more h.kept h.kept_readers (first_of w a) (told_at w s a) (told_at w (after w e s) a) (told a) (i.tells a)));
  came = λ a. subst (AllByRecursion (λ d. came_valued a d ≡ true → names d.who (told_at w (after w e s) a) ≡ true)) (sym n.done) (all_join (λ d. came_valued a d ≡ true → names d.who (told_at w (after w e s) a) ≡ true) h.committed n.ds
      (weaker (λ d. came_valued a d ≡ true → names d.who (told_at w s a) ≡ true) (λ d. came_valued a d ≡ true → names d.who (told_at w (after w e s) a) ≡ true) h.committed (λ d k q. named_more h.kept h.kept_readers d.who (told_at w s a) (told_at w (after w e s) a) (told a) (k q)) (i.came a))
      (weaker (λ d. is_value d.result ≡ false) (λ d. came_valued a d ≡ true → names d.who (told_at w (after w e s) a) ≡ true) n.ds (λ d k q. absurd (true≢false (sym (and_parts (is_some (d.views a)) (is_value d.result) q).1 ∙ k))) n.none));
  done = subst (λ k. AllByRecursion (λ d. is_value d.result ≡ true → in_either k (grown w e s h).kept_readers d.who ≡ true) (grown w e s h).committed) (sym n.kept) (subst (λ k. AllByRecursion (λ d. is_value d.result ≡ true → in_either h.kept k d.who ≡ true) (grown w e s h).committed) (sym n.readers)
      (subst (AllByRecursion (λ d. is_value d.result ≡ true → in_either h.kept h.kept_readers d.who ≡ true)) (sym n.done) (all_join (λ d. is_value d.result ≡ true → in_either h.kept h.kept_readers d.who ≡ true) h.committed n.ds i.done
      (weaker (λ d. is_value d.result ≡ false) (λ d. is_value d.result ≡ true → in_either h.kept h.kept_readers d.who ≡ true) n.ds (λ d k q. absurd (true≢false (sym q ∙ k))) n.none))));
  done_ahead = λ a. subst (DoneAhead a (told_at w (after w e s) a)) (sym n.done) (done_failed a (told_at w (after w e s) a) h.committed n.ds n.none (done_more a (told_at w s a) (told_at w (after w e s) a) h.committed (λ y z q. grows h.kept h.kept_readers y z (told_at w s a) (told_at w (after w e s) a) (told a) q) (i.done_ahead a)));
}
  where
    told : (a : ℕ) → ToldStep h.kept h.kept_readers (told_at w s a) (told_at w (after w e s) a)
    told a = told_step w Of finish e s h a ok g i.known.logs.acts i.known.logs.stand

-- what is so of those that committed before, and of the one that does now
came_more : {C : Type 0} (w : Fixed C) (e : Event) (s : Machine C) (h : History) (u : Who) (a : ℕ) → OneMore w e s h u → AllByRecursion (λ d. came_valued a d ≡ true → names d.who (told_at w s a) ≡ true) h.committed → AllByRecursion (λ d. came_valued a d ≡ true → names d.who (told_at w (after w e s) a) ≡ true) (grown w e s h).committed
came_more w e s h u a o k = subst (λ os. AllByRecursion (λ d. came_valued a d ≡ true → names d.who os ≡ true) (grown w e s h).committed) (sym (o.told a)) (subst (AllByRecursion (λ d. came_valued a d ≡ true → names d.who (told_at w s a) ≡ true)) (sym o.done) (all_join (λ d. came_valued a d ≡ true → names d.who (told_at w s a) ≡ true) h.committed o.ds k
    (both_all (λ d. d.who ≡ u) (λ d. came_valued a d ≡ true → names u (told_at w s a) ≡ true) (λ d. came_valued a d ≡ true → names d.who (told_at w s a) ≡ true) o.ds (λ d j f q. subst (λ y. names y (told_at w s a) ≡ true) (sym j) (f q)) o.own (o.came a))))

-- each of those that committed before, with each of the new ones
new_pairs : {C : Type 0} (w : Fixed C) (e : Event) (s : Machine C) (h : History) (u : Who) (a : ℕ) (o : OneMore w e s h u) → AllByRecursion (λ d. (came_valued a d ≡ true → names d.who (told_at w s a) ≡ true) × ((e : Done) → came_valued a d ≡ true → came_rival a d e ≡ true → e.who ≡ u → is_ahead u d.who (told_at w s a) ≡ true → ⊥)) h.committed
    → AllByRecursion (λ d. AllByRecursion (λ e. came_valued a d ≡ true → came_rival a d e ≡ true → is_ahead d.who e.who (told_at w s a) ≡ true) o.ds) h.committed
new_pairs {C} w e s h u a o all = weaker (λ d. (came_valued a d ≡ true → names d.who (told_at w s a) ≡ true) × ((e : Done) → came_valued a d ≡ true → came_rival a d e ≡ true → e.who ≡ u → is_ahead u d.who (told_at w s a) ≡ true → ⊥)) (λ d. AllByRecursion (λ e. came_valued a d ≡ true → came_rival a d e ≡ true → is_ahead d.who e.who (told_at w s a) ≡ true) o.ds) h.committed
    (λ d k. both_all (λ e. e.who ≡ u) (λ e. came_valued a e ≡ true → names u (told_at w s a) ≡ true) (λ e. came_valued a d ≡ true → came_rival a d e ≡ true → is_ahead d.who e.who (told_at w s a) ≡ true) o.ds (λ e j f p q. one d e k j f p q) o.own (o.came a)) all
  where
    one : (d e : Done) → (came_valued a d ≡ true → names d.who (told_at w s a) ≡ true) × ((e : Done) → came_valued a d ≡ true → came_rival a d e ≡ true → e.who ≡ u → is_ahead u d.who (told_at w s a) ≡ true → ⊥) → e.who ≡ u → (came_valued a e ≡ true → names u (told_at w s a) ≡ true) → came_valued a d ≡ true → came_rival a d e ≡ true → is_ahead d.who e.who (told_at w s a) ≡ true
    one d e k j f p q =
        let c = and_parts (came_valued a e) (not (is_who d.who e.who) && not (d.reader && e.reader)) q in
        let other : is_who d.who u ≡ false = subst (λ y. is_who d.who y ≡ false) j (not-true (is_who d.who e.who) (and_parts (not (is_who d.who e.who)) (not (d.reader && e.reader)) c.1).0) in
        subst (λ y. is_ahead d.who y (told_at w s a) ≡ true) (sym j) (elim (one_ahead d.who u (told_at w s a) other (k.0 p) (f c.0)) [ inl r ↦ r | inr r ↦ absurd (k.1 e p q j r) ])

-- one more that does not only read
writes_kept : {C : Type 0} (w : Fixed C) (Of : Tx → C → Type 0) (finish : C → List State → Alone) (e : Event) (s : Machine C) (h : History) (u : Who) → Given w Of finish → IsAllowed w e s → AllGood w Of finish s h → InOrder w Of finish s h → Writes w e s h u → InOrder w Of finish (after w e s) (grown w e s h)
writes_kept {C} w Of finish e s h u v ok g i n = record {
  known = known_kept w Of finish e s h v ok g i.known;
  sure = λ a. subst (λ k. SureAhead (is_sure w.text.logs (after w e s).logs) k (grown w e s h).kept_readers (told_at w (after w e s) a)) (sym n.kept) (subst (λ k. SureAhead (is_sure w.text.logs (after w e s).logs) (h.kept ++ u ∷ []) k (told_at w (after w e s) a)) (sym n.readers)
      (subst (SureAhead (is_sure w.text.logs (after w e s).logs) (h.kept ++ u ∷ []) h.kept_readers) (sym (n.one.told a)) (sure_writes (is_sure w.text.logs s.logs) (is_sure w.text.logs (after w e s).logs) h.kept h.kept_readers u (told_at w s a) (λ y q. sure_stays w e s y q) n.one.fresh n.one.unread (n.not_ahead a) (n.sure a) (i.sure a))));
  tells = λ a. subst (λ k. ReadersTell k (grown w e s h).kept_readers (first_of w a) (told_at w (after w e s) a)) (sym n.kept) (subst (λ k. ReadersTell (h.kept ++ u ∷ []) k (first_of w a) (told_at w (after w e s) a)) (sym n.readers)
      (subst (ReadersTell (h.kept ++ u ∷ []) h.kept_readers (first_of w a)) (sym (n.one.told a)) (tell_writes h.kept h.kept_readers u (first_of w a) (told_at w s a) (λ z k q. n.not_ahead a z (or_right (is_kept z h.kept) _ k) q) (i.tells a))));
  came = λ a. came_more w e s h u a n.one (i.came a);
  done = subst (λ k. AllByRecursion (λ d. is_value d.result ≡ true → in_either k (grown w e s h).kept_readers d.who ≡ true) (grown w e s h).committed) (sym n.kept) (subst (λ k. AllByRecursion (λ d. is_value d.result ≡ true → in_either (h.kept ++ u ∷ []) k d.who ≡ true) (grown w e s h).committed) (sym n.readers)
      (subst (AllByRecursion (λ d. is_value d.result ≡ true → in_either (h.kept ++ u ∷ []) h.kept_readers d.who ≡ true)) (sym n.one.done) (all_join (λ d. is_value d.result ≡ true → in_either (h.kept ++ u ∷ []) h.kept_readers d.who ≡ true) h.committed n.one.ds
      (weaker (λ d. is_value d.result ≡ true → in_either h.kept h.kept_readers d.who ≡ true) (λ d. is_value d.result ≡ true → in_either (h.kept ++ u ∷ []) h.kept_readers d.who ≡ true) h.committed (λ d k q. more d.who (k q)) i.done)
      (weaker (λ d. d.who ≡ u) (λ d. is_value d.result ≡ true → in_either (h.kept ++ u ∷ []) h.kept_readers d.who ≡ true) n.one.ds (λ d j q. or_left (is_kept d.who (h.kept ++ u ∷ [])) _ (subst (λ y. is_kept y (h.kept ++ u ∷ []) ≡ true) (sym j) self_kept)) n.one.own))));
  done_ahead = λ a. subst (λ os. DoneAhead a os (grown w e s h).committed) (sym (n.one.told a)) (subst (DoneAhead a (told_at w s a)) (sym n.one.done) (done_join a (told_at w s a) h.committed n.one.ds
      (new_pairs w e s h u a n.one (both_all (λ d. came_valued a d ≡ true → names d.who (told_at w s a) ≡ true) (λ d. is_value d.result ≡ true → in_either h.kept h.kept_readers d.who ≡ true) _ h.committed (λ d p q. (p, (λ x c r j y. n.not_ahead a d.who (q (and_parts (is_some (d.views a)) (is_value d.result) c).1) y))) (i.came a) i.done))
      (i.done_ahead a) (done_own a u (told_at w s a) n.one.ds n.one.own)));
}
  where
    self_kept : is_kept u (h.kept ++ u ∷ []) ≡ true
    self_kept = any_back (λ z. is_who z u) h.kept (u ∷ []) (or_left (is_who u u) false (is_who_refl u))

    more : (y : Who) → in_either h.kept h.kept_readers y ≡ true → in_either (h.kept ++ u ∷ []) h.kept_readers y ≡ true
    more y q = elim (or_cases (is_kept y h.kept) (is_kept y h.kept_readers) q) [ inl r ↦ or_left (is_kept y (h.kept ++ u ∷ [])) _ (any_front (λ z. is_who z y) h.kept (u ∷ []) r) | inr r ↦ or_right (is_kept y (h.kept ++ u ∷ [])) _ r ]

-- one more that only reads
reads_kept : {C : Type 0} (w : Fixed C) (Of : Tx → C → Type 0) (finish : C → List State → Alone) (e : Event) (s : Machine C) (h : History) (u : Who) → Given w Of finish → IsAllowed w e s → AllGood w Of finish s h → InOrder w Of finish s h → Reads w e s h u → InOrder w Of finish (after w e s) (grown w e s h)
unfolding AllThere
reads_kept {C} w Of finish e s h u v ok g i n = record {
  known = known_kept w Of finish e s h v ok g i.known;
  sure = λ a. subst (λ k. SureAhead (is_sure w.text.logs (after w e s).logs) k (grown w e s h).kept_readers (told_at w (after w e s) a)) (sym n.kept) (subst (λ k. SureAhead (is_sure w.text.logs (after w e s).logs) h.kept k (told_at w (after w e s) a)) (sym n.readers)
      (subst (SureAhead (is_sure w.text.logs (after w e s).logs) h.kept (h.kept_readers ++ u ∷ [])) (sym (n.one.told a)) (sure_reads (is_sure w.text.logs s.logs) (is_sure w.text.logs (after w e s).logs) h.kept h.kept_readers u (told_at w s a) (λ y q. sure_stays w e s y q) n.one.fresh (n.not_ahead a) (n.sure a) (i.sure a))));
  tells = λ a. subst (λ k. ReadersTell k (grown w e s h).kept_readers (first_of w a) (told_at w (after w e s) a)) (sym n.kept) (subst (λ k. ReadersTell h.kept k (first_of w a) (told_at w (after w e s) a)) (sym n.readers)
      (subst (ReadersTell h.kept (h.kept_readers ++ u ∷ []) (first_of w a)) (sym (n.one.told a)) (elim (cases_Bool (names u (told_at w s a))) [
        | inl m ↦ tell_reads h.kept h.kept_readers u (cell_at s a).state (first_of w a) (told_at w s a) n.one.fresh (n.not_ahead a) (n.state a m) (n.last a m) (i.tells a)
        | inr m ↦ tell_unnamed h.kept h.kept_readers u (first_of w a) (told_at w s a) m (i.tells a)
      ])));
  came = λ a. came_more w e s h u a n.one (i.came a);
  done = subst (λ k. AllByRecursion (λ d. is_value d.result ≡ true → in_either k (grown w e s h).kept_readers d.who ≡ true) (grown w e s h).committed) (sym n.kept) (subst (λ k. AllByRecursion (λ d. is_value d.result ≡ true → in_either h.kept k d.who ≡ true) (grown w e s h).committed) (sym n.readers)
      (subst (AllByRecursion (λ d. is_value d.result ≡ true → in_either h.kept (h.kept_readers ++ u ∷ []) d.who ≡ true)) (sym n.one.done) (all_join (λ d. is_value d.result ≡ true → in_either h.kept (h.kept_readers ++ u ∷ []) d.who ≡ true) h.committed n.one.ds
      (weaker (λ d. is_value d.result ≡ true → in_either h.kept h.kept_readers d.who ≡ true) (λ d. is_value d.result ≡ true → in_either h.kept (h.kept_readers ++ u ∷ []) d.who ≡ true) h.committed (λ d k q. more d.who (k q)) i.done)
      (weaker (λ d. d.who ≡ u) (λ d. is_value d.result ≡ true → in_either h.kept (h.kept_readers ++ u ∷ []) d.who ≡ true) n.one.ds (λ d j q. or_right (is_kept d.who h.kept) _ (subst (λ y. is_kept y (h.kept_readers ++ u ∷ []) ≡ true) (sym j) self_kept)) n.one.own))));
  done_ahead = λ a. subst (λ os. DoneAhead a os (grown w e s h).committed) (sym (n.one.told a)) (subst (DoneAhead a (told_at w s a)) (sym n.one.done) (done_join a (told_at w s a) h.committed n.one.ds (rivals a)
      (i.done_ahead a) (done_own a u (told_at w s a) n.one.ds n.one.own)));
}
  where
    self_kept : is_kept u (h.kept_readers ++ u ∷ []) ≡ true
    self_kept = any_back (λ z. is_who z u) h.kept_readers (u ∷ []) (or_left (is_who u u) false (is_who_refl u))

    more : (y : Who) → in_either h.kept h.kept_readers y ≡ true → in_either h.kept (h.kept_readers ++ u ∷ []) y ≡ true
    more y q = elim (or_cases (is_kept y h.kept) (is_kept y h.kept_readers) q) [ inl r ↦ or_left (is_kept y h.kept) _ r | inr r ↦ or_right (is_kept y h.kept) _ (any_front (λ z. is_who z y) h.kept_readers (u ∷ []) r) ]

    -- a rival of a reader does not only read
    ahead : (a : ℕ) (d x : Done) → IsThere h.kept h.long d → (came_valued a d ≡ true → names d.who (told_at w s a) ≡ true) → x.who ≡ u → x.reader ≡ true → (came_valued a x ≡ true → names u (told_at w s a) ≡ true) → came_valued a d ≡ true → came_rival a d x ≡ true → is_ahead d.who x.who (told_at w s a) ≡ true
    ahead a d x th nd j r f p q =
        let c = and_parts (came_valued a x) (not (is_who d.who x.who) && not (d.reader && x.reader)) q in
        let k = and_parts (not (is_who d.who x.who)) (not (d.reader && x.reader)) c.1 in
        let other : is_who d.who u ≡ false = subst (λ y. is_who d.who y ≡ false) j (not-true (is_who d.who x.who) k.0) in
        let writes : d.reader ≡ false = false_from_ne_true d.reader (λ e. true≢false (sym (and_from d.reader x.reader e r) ∙ not-true (d.reader && x.reader) k.1)) in
        subst (λ y. is_ahead d.who y (told_at w s a) ≡ true) (sym j) (elim (one_ahead d.who u (told_at w s a) other (nd p) (f c.0)) [ inl m ↦ m | inr m ↦ absurd (n.not_ahead a d.who (th.known (and_parts (is_some (d.views a)) (is_value d.result) p).1 writes) m) ])

    rivals : (a : ℕ) → AllByRecursion (λ d. AllByRecursion (λ x. came_valued a d ≡ true → came_rival a d x ≡ true → is_ahead d.who x.who (told_at w s a) ≡ true) n.one.ds) h.committed
    rivals a = both_all (IsThere h.kept h.long) (λ d. came_valued a d ≡ true → names d.who (told_at w s a) ≡ true) (λ d. AllByRecursion (λ x. came_valued a d ≡ true → came_rival a d x ≡ true → is_ahead d.who x.who (told_at w s a) ≡ true) n.one.ds) h.committed
        (λ d th nd. both_all (λ x. (x.who ≡ u) × (x.reader ≡ true)) (λ x. came_valued a x ≡ true → names u (told_at w s a) ≡ true) (λ x. came_valued a d ≡ true → came_rival a d x ≡ true → is_ahead d.who x.who (told_at w s a) ≡ true) n.one.ds (λ x j f p q. ahead a d x th nd j.0 j.1 f p q)
        (both_all (λ x. x.who ≡ u) (λ x. x.reader ≡ true) (λ x. (x.who ≡ u) × (x.reader ≡ true)) n.one.ds (λ x p q. (p, q)) n.one.own n.by_readers) (n.one.came a)) i.known.logs.there (i.came a)

pub order_kept : {C : Type 0} (w : Fixed C) (Of : Tx → C → Type 0) (finish : C → List State → Alone) (e : Event) (s : Machine C) (h : History) → Given w Of finish → IsAllowed w e s → AllGood w Of finish s h → InOrder w Of finish s h → InOrder w Of finish (after w e s) (grown w e s h)
order_kept w Of finish e s h v ok g i = elim (commits_now w Of finish e s h v ok g i.known) [
  | inl n ↦ nobody_kept w Of finish e s h v ok g i n
  | inr n ↦ elim n [ inl m ↦ writes_kept w Of finish e s h m.0 v ok g i m.1 | inr m ↦ reads_kept w Of finish e s h m.0 v ok g i m.1 ]
]

pub order_opened : {C : Type 0} (w : Fixed C) (Of : Tx → C → Type 0) (finish : C → List State → Alone) → Given w Of finish → InOrder w Of finish (opening w) no_history
unfolding RecoversEachActor ToldReads AllNoneLater
order_opened {C} w Of finish v = record {
  known = record {
    logs = logs_opened w;
    whole = last.opened w Of finish v;
    recovers = λ a P f. ap (λ os. last_one (first_of w a) (filter (λ o. P o.who && false) os)) (empty a);
    reads = λ a. subst (AllByRecursion (ToldRead [])) (sym (empty a)) tt;
    none_later = λ a. subst (NoneLater (is_uncommitted_writer (reads_who []) [] []) []) (sym (empty a)) tt;
    first = λ a y z p r i. absurd (none a y z i);
    last = λ a y z p k i. none a y z i;
  };
  sure = λ a y z ey ez k n i. absurd (none a y z i);
  tells = λ a. subst (ReadersTell [] [] (first_of w a)) (sym (empty a)) tt;
  came = λ a. tt;
  done = tt;
  done_ahead = λ a. tt;
}
  where
    empty : (a : ℕ) → told_at w (opening w) a ≡ []
    empty a = ap (told_states a) (no_records w.text.logs (a % w.text.logs))

    none : (a : ℕ) (y z : Who) → is_ahead y z (told_at w (opening w) a) ≡ true → ⊥
    none a y z i = true≢false (sym (subst (λ os. is_ahead y z os ≡ true) (empty a) i))

pub in_order : {C : Type 0} (w : Fixed C) (Of : Tx → C → Type 0) (finish : C → List State → Alone) (es : List Event) → Given w Of finish → IsRun w es → InOrder w Of finish (reached w es) (history w es)
in_order w Of finish es v run = along_good w Of finish (InOrder w Of finish) v (λ e s h ok g i. order_kept w Of finish e s h v ok g i) (order_opened w Of finish v) es run
