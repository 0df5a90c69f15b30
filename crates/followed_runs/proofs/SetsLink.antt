-- Over every run: each set with which each stands that changed an actor ahead of them links, and its last record tells what it leaves.
use Rattle.std.specs.Prelude.{◌≡◌, refl, ℕ, ◌%◌, ◌⊎◌, Bool, true, false, ◌&&◌, if◌then◌else◌, is_some, List, [], ◌∷◌, ◌++◌, filter}
use Rattle.std.specs.List.{AllByRecursion}
use Rattle.std.proofs.Common.{sym, ap, subst, inl, inr, ◌∙◌}
use Rattle.std.proofs.lemmas.List.{append-nil}
use Rattle.snap_base.specs.declared.transactions.Tx.{Tx}
use Rattle.snap_base.specs.declared.transactions.State.{State}
use Rattle.protocol.specs.Facts.{Alone}
use Rattle.protocol.specs.Fixed.{Fixed}
use Rattle.protocol.specs.Parts.{Who, Machine}
use Rattle.protocol.specs.Events.{Event}
use Rattle.protocol.specs.Words.{is_value}
use Rattle.protocol.specs.Conditions.{IsAllowed}
use Rattle.protocol.specs.Effects.{after}
use Rattle.protocol.specs.Runs.{opening, IsRun, reached}
use Rattle.protocol.specs.History.{Done, History, history, grown}
use Rattle.protocol_laws.specs.Commits.{is_kept, StatesLink, last_state}
use Rattle.protocol_laws.proofs.first.Lists.{filter_join, all_back}
use Rattle.protocol_laws.proofs.machine.CommitsKept.{Committed}
use Rattle.protocol_laws.proofs.machine.Good.{Given}
use Rattle.protocol_laws.proofs.machine.AllGood.{AllGood, along_good}
use Rattle.protocol_laws.proofs.machine.AllGood as all
use Rattle.protocol_theorems.specs.Order.{LeavesIt}
use Rattle.protocol_records.specs.Logged.{is_on}
use Rattle.protocol_records.specs.Telling.{One, told_states, FrontIn, last_one, writes, RecoversEachActor}
use Rattle.protocol_records.proofs.crash.CrashParts.{no_records}
use Rattle.protocol_records.proofs.crash.RecoverLists.{all_in}
use Rattle.protocol_records.proofs.crash.RecoversKept.{ToldStep, told_step, first_of}
use Rattle.followed_runs.specs.Following.{ChangedAhead}
use Rattle.followed_runs.proofs.ReadersFirst.{told_at}
use Rattle.followed_runs.proofs.OneCommits.{Writes, Reads, Nobody, commits_now}
use Rattle.followed_runs.proofs.InOrder.{InOrder, order_kept, order_opened}
use Rattle.followed_runs.proofs.ChangedAhead.{changed_more}
use Rattle.followed_runs.proofs.SetLists.{IsClosedAhead, is_done_of, SetLinks, added_out, writes_set, reads_set}

abbrev pub AllSets : {C : Type 0} → Fixed C → Machine C → History → Type 0
AllSets w s h = (a : ℕ) (P : Who → Bool) → IsClosedAhead P h.kept h.kept_readers (first_of w a) (told_at w s a) → SetLinks a (first_of w a) h.kept P (told_at w s a) h.committed

pub record SetsLink {C : Type 0} (w : Fixed C) (Of : Tx → C → Type 0) (finish : C → List State → Alone) (s : Machine C) (h : History) : Type 0 where
  pub order : InOrder w Of finish s h
  pub sets : AllSets w s h

-- ---- all that committed

front_all : (on : Who → Bool) (ys : List Who) → FrontIn (λ y. true) on ys
front_all on [] = tt
front_all on (y ∷ ys) = ((λ e q. refl), front_all on ys)

writers_all : (a : ℕ) (ds : List Done) → AllByRecursion (λ d. is_some (d.views a) ≡ true → writes d ≡ true → (true && writes d) ≡ true) ds
writers_all a [] = tt
writers_all a (d ∷ ds) = ((λ e q. q), writers_all a ds)

pub all_link : {C : Type 0} (w : Fixed C) (Of : Tx → C → Type 0) (finish : C → List State → Alone) (s : Machine C) (h : History) (a : ℕ) → AllGood w Of finish s h → StatesLink a (first_of w a) h.committed
unfolding Committed
all_link w Of finish s h a g = (g.good.committed a).links

-- the last record of those that committed tells what all of them leave
pub all_tell : {C : Type 0} (w : Fixed C) (Of : Tx → C → Type 0) (finish : C → List State → Alone) (s : Machine C) (h : History) (a : ℕ) → AllGood w Of finish s h → InOrder w Of finish s h → last_one (first_of w a) (filter (λ o. true && is_kept o.who h.kept) (told_at w s a)) ≡ last_state a (first_of w a) h.committed
unfolding RecoversEachActor Committed
all_tell w Of finish s h a g i =
    i.known.recovers a (λ y. true) (front_all (λ y. is_on y (h.long a)) h.kept)
    ∙ all_in a (λ d. true && writes d) (first_of w a) h.committed (writers_all a h.committed) (i.known.whole.ordered.stills a) (g.good.committed a).links

-- ---- an event with which nobody commits with a value

counted_same : (P : Who → Bool) (kept readers : List Who) (os os' : List One) → ToldStep kept readers os os' → filter (λ o. P o.who && is_kept o.who kept) os' ≡ filter (λ o. P o.who && is_kept o.who kept) os
counted_same P kept readers os os' (inl e) = ap (filter (λ o. P o.who && is_kept o.who kept)) e
counted_same P kept readers os os' (inr n) = ap (filter (λ o. P o.who && is_kept o.who kept)) n.1 ∙ (filter_join (λ o. P o.who && is_kept o.who kept) os (n.0 ∷ []) ∙ (ap (λ z. filter (λ o. P o.who && is_kept o.who kept) os ++ z) (none (P n.0.who)) ∙ append-nil (filter (λ o. P o.who && is_kept o.who kept) os)))
  where
    none : (b : Bool) → (if b && is_kept n.0.who kept then n.0 ∷ [] else []) ≡ []
    none true = rw n.2 refl
    none false = refl

changed_grows : (c : Who → Bool) (kept readers : List Who) (s : State) (z y : Who) (os os' : List One) → ToldStep kept readers os os' → ChangedAhead c s z y os → ChangedAhead c s z y os'
changed_grows c kept readers s z y os os' (inl e) h = subst (ChangedAhead c s z y) (sym e) h
changed_grows c kept readers s z y os os' (inr n) h = subst (ChangedAhead c s z y) (sym n.1) (changed_more c s z y os (n.0 ∷ []) h)

pub no_values : (P : Who → Bool) (ds : List Done) → AllByRecursion (λ d. is_value d.result ≡ false) ds → filter (is_done_of P) ds ≡ []
no_values P [] n = refl
no_values P (d ∷ ds) n = by (P d.who) (no_values P ds n.1)
  where
    by : (b : Bool) → filter (is_done_of P) ds ≡ [] → (if b && is_value d.result then d ∷ filter (is_done_of P) ds else filter (is_done_of P) ds) ≡ []
    by true r = rw n.0 r
    by false r = r

nobody_set : (a : ℕ) (first : State) (kept readers : List Who) (P : Who → Bool) (os os' : List One) (committed ds : List Done) → ToldStep kept readers os os' → AllByRecursion (λ d. is_value d.result ≡ false) ds
    → (IsClosedAhead P kept readers first os → SetLinks a first kept P os committed) → IsClosedAhead P kept readers first os' → SetLinks a first kept P os' (committed ++ ds)
nobody_set a first kept readers P os os' committed ds t n before closed =
    let l = added_out a first kept P os committed ds (no_values P ds n) (before (λ z y p ey kz h. closed z y p ey kz (changed_grows (λ v. is_kept v kept) kept readers first z y os os' t h))) in
    record { links = l.links; tells = ap (last_one first) (counted_same P kept readers os os' t) ∙ l.tells }

-- ---- each event

sets_kept : {C : Type 0} (w : Fixed C) (Of : Tx → C → Type 0) (finish : C → List State → Alone) (e : Event) (s : Machine C) (h : History) → Given w Of finish → IsAllowed w e s → AllGood w Of finish s h → SetsLink w Of finish s h → AllSets w (after w e s) (grown w e s h)
sets_kept {C} w Of finish e s h v ok g i = λ a P closed. by a P closed (commits_now w Of finish e s h v ok g i.order.known)
  where
    good : AllGood w Of finish (after w e s) (grown w e s h)
    good = all.kept w Of finish e s h v ok g

    order : InOrder w Of finish (after w e s) (grown w e s h)
    order = order_kept w Of finish e s h v ok g i.order

    SetAt : ℕ → (Who → Bool) → List Who → List Who → List One → List Done → Type 0
    SetAt a P kept readers os ds = IsClosedAhead P kept readers (first_of w a) os → SetLinks a (first_of w a) kept P os ds

    by : (a : ℕ) (P : Who → Bool) → IsClosedAhead P (grown w e s h).kept (grown w e s h).kept_readers (first_of w a) (told_at w (after w e s) a) → Nobody w e s h ⊎ (((u : Who) × Writes w e s h u) ⊎ ((u : Who) × Reads w e s h u)) → SetLinks a (first_of w a) (grown w e s h).kept P (told_at w (after w e s) a) (grown w e s h).committed
    by a P closed (inl n) =
        subst (λ k. IsClosedAhead P k (grown w e s h).kept_readers (first_of w a) (told_at w (after w e s) a) → SetLinks a (first_of w a) k P (told_at w (after w e s) a) (grown w e s h).committed) (sym n.kept)
        (subst (λ k. IsClosedAhead P h.kept k (first_of w a) (told_at w (after w e s) a) → SetLinks a (first_of w a) h.kept P (told_at w (after w e s) a) (grown w e s h).committed) (sym n.readers)
        (subst (λ ds. IsClosedAhead P h.kept h.kept_readers (first_of w a) (told_at w (after w e s) a) → SetLinks a (first_of w a) h.kept P (told_at w (after w e s) a) ds) (sym n.done)
        (nobody_set a (first_of w a) h.kept h.kept_readers P (told_at w s a) (told_at w (after w e s) a) h.committed n.ds (told_step w Of finish e s h a ok g i.order.known.logs.acts i.order.known.logs.stand) n.none (i.sets a P))))
        closed
    by a P closed (inr (inl m)) =
        let n = m.1 in
        subst (λ k. IsClosedAhead P k (grown w e s h).kept_readers (first_of w a) (told_at w (after w e s) a) → SetLinks a (first_of w a) k P (told_at w (after w e s) a) (grown w e s h).committed) (sym n.kept)
        (subst (λ k. IsClosedAhead P (h.kept ++ m.0 ∷ []) k (first_of w a) (told_at w (after w e s) a) → SetLinks a (first_of w a) (h.kept ++ m.0 ∷ []) P (told_at w (after w e s) a) (grown w e s h).committed) (sym n.readers)
        (subst (λ os. IsClosedAhead P (h.kept ++ m.0 ∷ []) h.kept_readers (first_of w a) os → SetLinks a (first_of w a) (h.kept ++ m.0 ∷ []) P os (grown w e s h).committed) (sym (n.one.told a))
        (subst (λ ds. IsClosedAhead P (h.kept ++ m.0 ∷ []) h.kept_readers (first_of w a) (told_at w s a) → SetLinks a (first_of w a) (h.kept ++ m.0 ∷ []) P (told_at w s a) ds) (sym n.one.done)
        (writes_set a (first_of w a) h.kept h.kept_readers m.0 P (told_at w s a) h.committed n.one.ds n.one.fresh (n.not_ahead a) n.one.own (n.one.came a)
        (subst (StatesLink a (first_of w a)) n.one.done (all_link w Of finish (after w e s) (grown w e s h) a good)) (all_tell w Of finish s h a g i.order)
        (subst (λ k. last_one (first_of w a) (filter (λ o. true && is_kept o.who k) (told_at w s a)) ≡ last_state a (first_of w a) (h.committed ++ n.one.ds)) n.kept
        (subst (λ os. last_one (first_of w a) (filter (λ o. true && is_kept o.who (grown w e s h).kept) os) ≡ last_state a (first_of w a) (h.committed ++ n.one.ds)) (n.one.told a)
        (subst (λ ds. last_one (first_of w a) (filter (λ o. true && is_kept o.who (grown w e s h).kept) (told_at w (after w e s) a)) ≡ last_state a (first_of w a) ds) n.one.done
        (all_tell w Of finish (after w e s) (grown w e s h) a good order))))
        (i.sets a P)))))
        closed
    by a P closed (inr (inr m)) =
        let n = m.1 in
        subst (λ k. IsClosedAhead P k (grown w e s h).kept_readers (first_of w a) (told_at w (after w e s) a) → SetLinks a (first_of w a) k P (told_at w (after w e s) a) (grown w e s h).committed) (sym n.kept)
        (subst (λ k. IsClosedAhead P h.kept k (first_of w a) (told_at w (after w e s) a) → SetLinks a (first_of w a) h.kept P (told_at w (after w e s) a) (grown w e s h).committed) (sym n.readers)
        (subst (λ os. IsClosedAhead P h.kept (h.kept_readers ++ m.0 ∷ []) (first_of w a) os → SetLinks a (first_of w a) h.kept P os (grown w e s h).committed) (sym (n.one.told a))
        (subst (λ ds. IsClosedAhead P h.kept (h.kept_readers ++ m.0 ∷ []) (first_of w a) (told_at w s a) → SetLinks a (first_of w a) h.kept P (told_at w s a) ds) (sym n.one.done)
        (reads_set a (first_of w a) h.kept h.kept_readers m.0 P (told_at w s a) h.committed n.one.ds n.one.fresh (n.not_ahead a) n.one.own (n.one.came a) n.by_readers
        (all_back (λ d. d.reader ≡ true → LeavesIt (d.views a)) h.committed n.one.ds (subst (AllByRecursion (λ d. d.reader ≡ true → LeavesIt (d.views a))) n.one.done (order.known.whole.ordered.stills a)))
        (subst (StatesLink a (first_of w a)) n.one.done (all_link w Of finish (after w e s) (grown w e s h) a good)) (all_tell w Of finish s h a g i.order)
        (i.sets a P)))))
        closed

pub sets_link : {C : Type 0} (w : Fixed C) (Of : Tx → C → Type 0) (finish : C → List State → Alone) (es : List Event) → Given w Of finish → IsRun w es → SetsLink w Of finish (reached w es) (history w es)
sets_link {C} w Of finish es v run = along_good w Of finish (SetsLink w Of finish) v (λ e s h ok g i. record { order = order_kept w Of finish e s h v ok g i.order; sets = sets_kept w Of finish e s h v ok g i }) (record { order = order_opened w Of finish v; sets = λ a P closed. record { links = tt; tells = empty a P } }) es run
  where
    empty : (a : ℕ) (P : Who → Bool) → last_one (first_of w a) (filter (λ o. P o.who && is_kept o.who []) (told_at w (opening w) a)) ≡ first_of w a
    empty a P = ap (λ rs. last_one (first_of w a) (filter (λ o. P o.who && false) (told_states a rs))) (no_records w.text.logs (a % w.text.logs))
