-- How a run goes on from one of its moments: records are added only of who had not committed, and who had not committed then, but has a
-- record ahead of a rival that had, does not commit any more.
use Rattle.std.specs.Prelude.{◌≡◌, ℕ, true, false, List, [], ◌∷◌, ◌++◌}
use Rattle.std.specs.List.{AllByRecursion}
use Rattle.std.proofs.Common.{sym, ap, subst, inl, inr, ◌∙◌}
use Rattle.std.proofs.lemmas.List.{append-nil}
use Rattle.std.proofs.lemmas.Bool.{true≢false, or_cases, or_left, or_right, or_from, false_from_ne_true}
use Rattle.snap_base.specs.declared.transactions.Tx.{Tx}
use Rattle.snap_base.specs.declared.transactions.State.{State}
use Rattle.protocol.specs.Facts.{Alone}
use Rattle.protocol.specs.Fixed.{Fixed}
use Rattle.protocol.specs.Parts.{Who, Machine}
use Rattle.protocol.specs.Events.{Event}
use Rattle.protocol.specs.Words.{is_who}
use Rattle.protocol.specs.Conditions.{IsAllowed}
use Rattle.protocol.specs.Effects.{after}
use Rattle.protocol.specs.Runs.{EachAllowed, state_after}
use Rattle.protocol.specs.History.{History, history_after, grown}
use Rattle.protocol_laws.specs.Commits.{is_kept}
use Rattle.protocol_laws.proofs.first.Lists.{all_join, any_front, join_assoc, weaker}
use Rattle.protocol_laws.proofs.machine.TrackLists.{is_who_true}
use Rattle.protocol_laws.proofs.machine.Good.{Given}
use Rattle.protocol_laws.proofs.machine.AllGood.{AllGood}
use Rattle.protocol_laws.proofs.machine.AllGood as all
use Rattle.protocol_records.specs.Telling.{One}
use Rattle.protocol_records.proofs.crash.RecoverLists.{kept_end}
use Rattle.protocol_records.proofs.crash.RecoversKept.{ToldStep, told_step}
use Rattle.followed_runs.specs.Following.{is_ahead}
use Rattle.followed_runs.proofs.Ahead.{ahead_more}
use Rattle.followed_runs.proofs.ReadersFirst.{told_at}
use Rattle.followed_runs.proofs.OneCommits.{in_either, Nobody, Writes, Reads, commits_now}
use Rattle.followed_runs.proofs.InOrder.{not_new, InOrder, order_kept}

pub record GoesOn {C : Type 0} (w : Fixed C) (s : Machine C) (h : History) (s' : Machine C) (h' : History) : Type 0 where
  pub told : (a : ℕ) → (more : List One) × ((told_at w s' a ≡ told_at w s a ++ more) × AllByRecursion (λ o. in_either h.kept h.kept_readers o.who ≡ false) more)
  pub kept : (y : Who) → is_kept y h.kept ≡ true → is_kept y h'.kept ≡ true
  pub readers : (y : Who) → is_kept y h.kept_readers ≡ true → is_kept y h'.kept_readers ≡ true
  pub out : (a : ℕ) (y z : Who) → in_either h.kept h.kept_readers y ≡ true → is_ahead z y (told_at w s a) ≡ true → is_kept z h.kept ≡ false → (is_kept y h.kept ≡ true → is_kept z h.kept_readers ≡ false)
      → (is_kept z h'.kept ≡ false) × (is_kept y h'.kept ≡ true → is_kept z h'.kept_readers ≡ false)

-- ---- an event

told_of : (kept readers : List Who) (os os' : List One) → ToldStep kept readers os os' → (more : List One) × ((os' ≡ os ++ more) × AllByRecursion (λ o. in_either kept readers o.who ≡ false) more)
told_of kept readers os os' (inl e) = ([], (e ∙ sym (append-nil os), tt))
told_of kept readers os os' (inr n) = (n.0 ∷ [], (n.1, (or_from (is_kept n.0.who kept) (is_kept n.0.who readers) n.2 n.3, tt)))

of_nobody : {C : Type 0} (w : Fixed C) (Of : Tx → C → Type 0) (finish : C → List State → Alone) (e : Event) (s : Machine C) (h : History) → IsAllowed w e s → AllGood w Of finish s h → InOrder w Of finish s h → Nobody w e s h → GoesOn w s h (after w e s) (grown w e s h)
of_nobody w Of finish e s h ok g i n = record {
  told = λ a. told_of h.kept h.kept_readers (told_at w s a) (told_at w (after w e s) a) (told_step w Of finish e s h a ok g i.known.logs.acts i.known.logs.stand);
  kept = λ y k. subst (λ l. is_kept y l ≡ true) (sym n.kept) k;
  readers = λ y k. subst (λ l. is_kept y l ≡ true) (sym n.readers) k;
  out = λ a y z ey ahead f r. (subst (λ l. is_kept z l ≡ false) (sym n.kept) f, (λ k. subst (λ l. is_kept z l ≡ false) (sym n.readers) (r (subst (λ l. is_kept y l ≡ true) n.kept k))));
}

of_writes : {C : Type 0} (w : Fixed C) (e : Event) (s : Machine C) (h : History) (u : Who) → Writes w e s h u → GoesOn w s h (after w e s) (grown w e s h)
of_writes w e s h u m = record {
  told = λ a. ([], (m.one.told a ∙ sym (append-nil (told_at w s a)), tt));
  kept = λ y k. subst (λ l. is_kept y l ≡ true) (sym m.kept) (any_front (λ z. is_who z y) h.kept (u ∷ []) k);
  readers = λ y k. subst (λ l. is_kept y l ≡ true) (sym m.readers) k;
  out = λ a y z ey ahead f r. (
    false_from_ne_true (is_kept z (grown w e s h).kept) (λ k. elim (kept_end u z h.kept (subst (λ l. is_kept z l ≡ true) m.kept k)) [
      | inl q ↦ true≢false (sym q ∙ f)
      | inr q ↦ m.not_ahead a y ey (subst (λ v. is_ahead v y (told_at w s a) ≡ true) (sym (is_who_true u z q)) ahead)
    ]),
    (λ k. subst (λ l. is_kept z l ≡ false) (sym m.readers) (r (elim (kept_end u y h.kept (subst (λ l. is_kept y l ≡ true) m.kept k)) [ inl q ↦ q | inr q ↦ absurd (not_new h.kept h.kept_readers u y m.one.fresh m.one.unread ey q) ]))),
  );
}

of_reads : {C : Type 0} (w : Fixed C) (e : Event) (s : Machine C) (h : History) (u : Who) → Reads w e s h u → GoesOn w s h (after w e s) (grown w e s h)
of_reads w e s h u m = record {
  told = λ a. ([], (m.one.told a ∙ sym (append-nil (told_at w s a)), tt));
  kept = λ y k. subst (λ l. is_kept y l ≡ true) (sym m.kept) k;
  readers = λ y k. subst (λ l. is_kept y l ≡ true) (sym m.readers) (any_front (λ z. is_who z y) h.kept_readers (u ∷ []) k);
  out = λ a y z ey ahead f r. (
    subst (λ l. is_kept z l ≡ false) (sym m.kept) f,
    (λ k. let ky = subst (λ l. is_kept y l ≡ true) m.kept k in false_from_ne_true (is_kept z (grown w e s h).kept_readers) (λ i. elim (kept_end u z h.kept_readers (subst (λ l. is_kept z l ≡ true) m.readers i)) [
      | inl q ↦ true≢false (sym q ∙ r ky)
      | inr q ↦ m.not_ahead a y ky (subst (λ v. is_ahead v y (told_at w s a) ≡ true) (sym (is_who_true u z q)) ahead)
    ])),
  );
}

one_goes : {C : Type 0} (w : Fixed C) (Of : Tx → C → Type 0) (finish : C → List State → Alone) (e : Event) (s : Machine C) (h : History) → Given w Of finish → IsAllowed w e s → AllGood w Of finish s h → InOrder w Of finish s h → GoesOn w s h (after w e s) (grown w e s h)
one_goes w Of finish e s h v ok g i = elim (commits_now w Of finish e s h v ok g i.known) [
  | inl n ↦ of_nobody w Of finish e s h ok g i n
  | inr n ↦ elim n [ inl m ↦ of_writes w e s h m.0 m.1 | inr m ↦ of_reads w e s h m.0 m.1 ]
]

-- ---- some events

pub either_on : {C : Type 0} (w : Fixed C) (s s' : Machine C) (h h' : History) (y : Who) → GoesOn w s h s' h' → in_either h.kept h.kept_readers y ≡ true → in_either h'.kept h'.kept_readers y ≡ true
either_on w s s' h h' y g e = elim (or_cases (is_kept y h.kept) (is_kept y h.kept_readers) e) [ inl q ↦ or_left (is_kept y h'.kept) _ (g.kept y q) | inr q ↦ or_right (is_kept y h'.kept) _ (g.readers y q) ]

then_goes : {C : Type 0} (w : Fixed C) (s s1 s2 : Machine C) (h h1 h2 : History) → GoesOn w s h s1 h1 → GoesOn w s1 h1 s2 h2 → GoesOn w s h s2 h2
then_goes w s s1 s2 h h1 h2 p q = record {
  told = λ a.
      let x = p.told a in
      let z = q.told a in (
        x.0 ++ z.0,
        (
          z.1.0 ∙ (ap (λ l. l ++ z.0) x.1.0 ∙ join_assoc (told_at w s a) x.0 z.0),
          all_join (λ o. in_either h.kept h.kept_readers o.who ≡ false) x.0 z.0 x.1.1
              (weaker (λ o. in_either h1.kept h1.kept_readers o.who ≡ false) (λ o. in_either h.kept h.kept_readers o.who ≡ false) z.0 (λ o n. false_from_ne_true (in_either h.kept h.kept_readers o.who) (λ e. true≢false (sym (either_on w s s1 h h1 o.who p e) ∙ n))) z.1.1),
        ),
      );
  kept = λ y k. q.kept y (p.kept y k);
  readers = λ y k. q.readers y (p.readers y k);
  out = λ a y z ey ahead f r.
      let x = p.told a in
      let o = p.out a y z ey ahead f r in
      q.out a y z (either_on w s s1 h h1 y p ey) (subst (λ os. is_ahead z y os ≡ true) (sym x.1.0) (ahead_more z y (told_at w s a) x.0 ahead)) o.0 o.1;
}

pub goes_on : {C : Type 0} (w : Fixed C) (Of : Tx → C → Type 0) (finish : C → List State → Alone) (es : List Event) (s : Machine C) (h : History) → Given w Of finish → EachAllowed w es s → AllGood w Of finish s h → InOrder w Of finish s h → GoesOn w s h (state_after w es s) (history_after w es s h)
goes_on w Of finish [] s h v run g i = record {
  told = λ a. ([], (sym (append-nil (told_at w s a)), tt));
  kept = λ y k. k;
  readers = λ y k. k;
  out = λ a y z ey ahead f r. (f, r);
}
goes_on w Of finish (e ∷ es) s h v run g i =
    then_goes w s (after w e s) (state_after w es (after w e s)) h (grown w e s h) (history_after w es (after w e s) (grown w e s h)) (one_goes w Of finish e s h v run.0 g i)
    (goes_on w Of finish es (after w e s) (grown w e s h) v run.1 (all.kept w Of finish e s h v run.0 g) (order_kept w Of finish e s h v run.0 g i))
