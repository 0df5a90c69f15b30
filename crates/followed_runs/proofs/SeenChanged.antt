-- Who is seen: all that changed an actor ahead of it is read with it, and what is read tells just these.
use Rattle.std.specs.Prelude.{◌≡◌, ℕ, ◌%◌, true, false, List}
use Rattle.std.specs.List.{list_any}
use Rattle.std.proofs.Common.{sym, ap, subst, inl, inr, ◌∙◌}
use Rattle.std.proofs.lemmas.Bool.{or_cases, or_left, cases_Bool}
use Rattle.snap_base.specs.declared.transactions.Tx.{Tx}
use Rattle.snap_base.specs.declared.transactions.State.{State}
use Rattle.protocol.specs.Facts.{Alone}
use Rattle.protocol.specs.Fixed.{Fixed}
use Rattle.protocol.specs.Records.{LogRecord, is_commit, is_act_commit}
use Rattle.protocol.specs.Parts.{Who, OfBatch, OfAct}
use Rattle.protocol.specs.Events.{Event}
use Rattle.protocol.specs.Words.{is_who}
use Rattle.protocol.specs.Runs.{reached}
use Rattle.protocol.specs.History.{history}
use Rattle.protocol.specs.Moments.{left_in}
use Rattle.protocol_laws.specs.Commits.{is_kept}
use Rattle.protocol_laws.proofs.first.Lists.{any_front}
use Rattle.protocol_laws.proofs.machine.TrackLists.{is_who_true}
use Rattle.protocol_records.specs.Logged.{WrittenHaveValues}
use Rattle.protocol_records.specs.Telling.{told_states}
use Rattle.protocol_records.specs.Crash.{is_in}
use Rattle.protocol_records.proofs.crash.RecoversKept.{first_of}
use Rattle.followed_runs.specs.Following.{ChangedAhead}
use Rattle.followed_runs.proofs.ReadersFirst.{told_at}
use Rattle.followed_runs.proofs.OneCommits.{in_either}
use Rattle.followed_runs.proofs.InOrder.{in_order}
use Rattle.followed_runs.proofs.Seen.{Seen, NoLess, Listed, in_more, told_rest, none_beyond, ahead_seen}
use Rattle.followed_runs.proofs.ChangedAhead.{changed_is_ahead, changed_cut, changed_more, CountsAhead, to_counts, from_counts, no_reader}

-- whose commit record is read committed with a value
pub read_committed : {C : Type 0} (w : Fixed C) (Of : Tx → C → Type 0) (finish : C → List State → Alone) (es : List Event) (now : ℕ → List LogRecord) (y : Who) → Listed w Of finish es now → is_in w.text.logs now y ≡ true → in_either (history w es).kept (history w es).kept_readers y ≡ true
unfolding WrittenHaveValues
read_committed w Of finish es now (OfBatch k) x h = (in_order w Of finish es x.given x.run).known.logs.written (OfBatch k) (let m = x.rest (k % w.text.logs) in ap (list_any (is_commit k)) m.1 ∙ any_front (is_commit k) (now (k % w.text.logs)) m.0 h)
read_committed w Of finish es now (OfAct t) x h = (in_order w Of finish es x.given x.run).known.logs.written (OfAct t) (let m = x.rest (t % w.text.logs) in ap (list_any (is_act_commit t)) m.1 ∙ any_front (is_act_commit t) (now (t % w.text.logs)) m.0 h)

-- of those ahead of one that is seen, the commit records of all that do not only read are read
counted : {C : Type 0} (w : Fixed C) (Of : Tx → C → Type 0) (finish : C → List State → Alone) (es : List Event) (now : ℕ → List LogRecord) (a : ℕ) (y : Who) → Listed w Of finish es now → Seen w es now y
    → CountsAhead (is_in w.text.logs now) (history w es).kept (history w es).kept_readers y (told_at w (reached w es) a)
unfolding NoLess
counted w Of finish es now a y x s v i = (
  (λ k. elim (cases_Bool (is_who v y)) [
    | inl j ↦ subst (λ u. is_in w.text.logs now u ≡ true) (sym (is_who_true v y j)) (in_more w.text.logs (left_in (reached w s.events) s.cut) now y s.within s.has)
    | inr j ↦ (ahead_seen w Of finish es now a y v x s (or_left (is_kept v (history w es).kept) _ k) (or_left (is_kept v (history w es).kept) _ k) j i).1
  ]),
  (λ k. read_committed w Of finish es now v x k),
)

-- Who committed and changed the actor ahead of one that is seen is read, and what is read tells that it changed it.
pub changed_seen : {C : Type 0} (w : Fixed C) (Of : Tx → C → Type 0) (finish : C → List State → Alone) (es : List Event) (now : ℕ → List LogRecord) (a : ℕ) (y z : Who) → Listed w Of finish es now → Seen w es now y
    → is_kept z (history w es).kept ≡ true → is_who z y ≡ false → ChangedAhead (λ v. is_kept v (history w es).kept) (first_of w a) z y (told_at w (reached w es) a)
    → (is_in w.text.logs now z ≡ true) × ChangedAhead (is_in w.text.logs now) (first_of w a) z y (told_states a (now (a % w.text.logs)))
changed_seen w Of finish es now a y z x s k j h = (
  (ahead_seen w Of finish es now a y z x s (or_left (is_kept z (history w es).kept) _ k) (or_left (is_kept z (history w es).kept) _ k) j (changed_is_ahead (λ v. is_kept v (history w es).kept) (first_of w a) z y (told_at w (reached w es) a) h)).1,
  changed_cut (is_in w.text.logs now) (first_of w a) z y (told_states a (now (a % w.text.logs))) (told_states a (x.rest (a % w.text.logs)).0) (none_beyond w Of finish es now a y x s)
      (subst (ChangedAhead (is_in w.text.logs now) (first_of w a) z y) (told_rest w Of finish es now a x)
      (to_counts (is_in w.text.logs now) (history w es).kept (history w es).kept_readers (first_of w a) z y (told_at w (reached w es) a) (counted w Of finish es now a y x s) ((in_order w Of finish es x.given x.run).tells a) h)),
)

-- Whose commit record is read, and of whom what is read tells that it changed an actor ahead of one that is seen, is in the same cut.
pub told_in_cut : {C : Type 0} (w : Fixed C) (Of : Tx → C → Type 0) (finish : C → List State → Alone) (es : List Event) (now : ℕ → List LogRecord) (a : ℕ) (y z : Who) → Listed w Of finish es now → (s : Seen w es now y)
    → is_in w.text.logs now z ≡ true → ChangedAhead (is_in w.text.logs now) (first_of w a) z y (told_states a (now (a % w.text.logs))) → is_in w.text.logs (left_in (reached w s.events) s.cut) z ≡ true
told_in_cut {C} w Of finish es now a y z x s i h = elim (cases_Bool (is_who z y)) [
  | inl j ↦ subst (λ u. is_in w.text.logs (left_in (reached w s.events) s.cut) u ≡ true) (sym (is_who_true z y j)) s.has
  | inr j ↦ (ahead_seen w Of finish es now a y z x s (or_left (is_kept z (history w es).kept) _ kept) (or_left (is_kept z (history w es).kept) _ kept) j (changed_is_ahead (λ v. is_kept v (history w es).kept) (first_of w a) z y (told_at w (reached w es) a) changed)).0
]
  where
    changed : ChangedAhead (λ v. is_kept v (history w es).kept) (first_of w a) z y (told_at w (reached w es) a)
    changed =
        from_counts (is_in w.text.logs now) (history w es).kept (history w es).kept_readers (first_of w a) z y (told_at w (reached w es) a) (counted w Of finish es now a y x s) ((in_order w Of finish es x.given x.run).tells a)
        (subst (ChangedAhead (is_in w.text.logs now) (first_of w a) z y) (sym (told_rest w Of finish es now a x)) (changed_more (is_in w.text.logs now) (first_of w a) z y (told_states a (now (a % w.text.logs))) (told_states a (x.rest (a % w.text.logs)).0) h))

    kept : is_kept z (history w es).kept ≡ true
    kept = elim (or_cases (is_kept z (history w es).kept) (is_kept z (history w es).kept_readers) (read_committed w Of finish es now z x i)) [
      | inl q ↦ q
      | inr q ↦ absurd (no_reader (history w es).kept (history w es).kept_readers (first_of w a) z y (told_at w (reached w es) a) ((in_order w Of finish es x.given x.run).tells a) changed q)
    ]
