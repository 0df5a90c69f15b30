-- What a round takes is closed over the run's own order: with each member all that was placed before it on an actor and changed it.
use Rattle.std.specs.Prelude.{◌≡◌, refl, ℕ, not, Bool, true, false, ◌&&◌, if◌then◌else◌, is_some, List, [], ◌∷◌, ◌++◌, filter}
use Rattle.std.specs.List.{AllByRecursion}
use Rattle.std.proofs.Common.{sym, ap, subst, inl, inr, ◌∙◌}
use Rattle.std.proofs.lemmas.Bool.{true≢false, and_parts, and_from, cases_Bool}
use Rattle.snap_base.specs.declared.transactions.Tx.{Tx}
use Rattle.snap_base.specs.declared.transactions.State.{State}
use Rattle.protocol.specs.Facts.{Alone}
use Rattle.protocol.specs.Fixed.{Fixed}
use Rattle.protocol.specs.Parts.{Who}
use Rattle.protocol.specs.Events.{Event}
use Rattle.protocol.specs.Words.{is_who, is_value}
use Rattle.protocol.specs.Runs.{IsRun, reached}
use Rattle.protocol.specs.History.{Done, History, Ran, history}
use Rattle.protocol.specs.Chains.{chain, Precedes}
use Rattle.protocol_laws.specs.Commits.{is_kept}
use Rattle.protocol_laws.specs.Linked.{came_to, visitors}
use Rattle.protocol_laws.proofs.first.Lists.{all_back, all_filter, all_mid, filter_join}
use Rattle.protocol_laws.proofs.machine.TrackLists.{is_who_true}
use Rattle.protocol_laws.proofs.machine.Good.{Given}
use Rattle.protocol_theorems.specs.Order.{LeavesIt, Shuffled}
use Rattle.protocol_theorems.specs.OrderCases.{EachBehind}
use Rattle.protocol_theorems.proofs.order.CasesHold.{shuffled_behind}
use Rattle.protocol_theorems.proofs.order.OrderImplied.{shuffled_all}
use Rattle.protocol_records.specs.Crash.{HasMember}
use Rattle.protocol_records.specs.Logged.{IsThere, AllThere, came_valued, came_rival}
use Rattle.protocol_records.specs.Telling.{One}
use Rattle.protocol_records.proofs.crash.IsClosedKept.{Both, both}
use Rattle.protocol_records.proofs.crash.RecoversKept.{first_of}
use Rattle.protocol_records.proofs.crash.TidsDiffer.{pairs}
use Rattle.followed_runs.specs.Following.{is_ahead, followed, HasChanged, IsClosedByChange}
use Rattle.followed_runs.proofs.ReadersFirst.{told_at}
use Rattle.followed_runs.proofs.OneCommits.{in_either}
use Rattle.followed_runs.proofs.InOrder.{DoneAhead}
use Rattle.followed_runs.proofs.RecordsLink.{Told, told, change_is_told}
use Rattle.followed_runs.proofs.SetLists.{IsClosedAhead, is_done_of, of_readers}

-- ---- lists

-- where both committed with a value, and are not of one batch, the record of the first one is ahead
abbrev IsAheadOf : List One → Done → Done → Type 0
IsAheadOf os d e = is_value d.result ≡ true → is_value e.result ≡ true → is_who d.who e.who ≡ false → (d.reader && e.reader) ≡ false → is_ahead d.who e.who os ≡ true

behind_all : (a : ℕ) (d : Done) (os : List One) (es : List Done) → came_to a d ≡ true → AllByRecursion (λ e. came_valued a d ≡ true → came_rival a d e ≡ true → is_ahead d.who e.who os ≡ true) es → AllByRecursion (IsAheadOf os d) (visitors a es)
behind_all a d os [] c h = tt
behind_all a d os (e ∷ es) c h = by (came_to a e) refl (behind_all a d os es c h.1)
  where
    by : (b : Bool) → came_to a e ≡ b → AllByRecursion (IsAheadOf os d) (visitors a es) → AllByRecursion (IsAheadOf os d) (if b then e ∷ visitors a es else visitors a es)
    by true ce k = ((λ v u n r. h.0 (and_from (is_some (d.views a)) (is_value d.result) c v) (and_from (came_valued a e) (not (is_who d.who e.who) && not (d.reader && e.reader)) (and_from (is_some (e.views a)) (is_value e.result) ce u) (and_from (not (is_who d.who e.who)) (not (d.reader && e.reader)) (ap not n) (ap not r)))), k)
    by false ce k = k

each_ahead : (a : ℕ) (os : List One) (ds : List Done) → DoneAhead a os ds → EachBehind (IsAheadOf os) (visitors a ds)
each_ahead a os [] h = tt
each_ahead a os (d ∷ ds) h = by (came_to a d) refl (each_ahead a os ds h.1)
  where
    by : (b : Bool) → came_to a d ≡ b → EachBehind (IsAheadOf os) (visitors a ds) → EachBehind (IsAheadOf os) (if b then d ∷ visitors a ds else visitors a ds)
    by true c k = (behind_all a d os ds c h.0, k)
    by false c k = k

of_two : (R : Done → Done → Type 0) (ds front between rest : List Done) (x y : Done) → ds ≡ front ++ x ∷ (between ++ y ∷ rest) → EachBehind (λ d e. (d.reader && e.reader) ≡ false → R d e) ds → (x.reader && y.reader) ≡ false → R x y
of_two R ds front between rest x y e h r = at front (subst (EachBehind (λ d e. (d.reader && e.reader) ≡ false → R d e)) e h)
  where
    at : (front : List Done) → EachBehind (λ d e. (d.reader && e.reader) ≡ false → R d e) (front ++ x ∷ (between ++ y ∷ rest)) → R x y
    at [] k = all_mid (λ e. (x.reader && e.reader) ≡ false → R x e) y between rest k.0 r
    at (z ∷ zs) k = at zs k.1

all_pass : (p : Done → Bool) (ds : List Done) → AllByRecursion (λ d. p d ≡ true) (filter p ds)
all_pass p [] = tt
all_pass p (d ∷ ds) = by (p d) refl (all_pass p ds)
  where
    by : (b : Bool) → p d ≡ b → AllByRecursion (λ d. p d ≡ true) (filter p ds) → AllByRecursion (λ d. p d ≡ true) (if b then d ∷ filter p ds else filter p ds)
    by true e k = (e, k)
    by false e k = k

-- who is of this batch or ACT, and has a value, only reads, where it is not kept
only_reads : (z : Who) (kept : List Who) (long : ℕ → List Ran) (ds : List Done) → is_kept z kept ≡ false → AllByRecursion (IsThere kept long) ds → AllByRecursion (λ d. d.reader ≡ true) (filter (is_done_of (is_who z)) ds)
only_reads z kept long [] n t = tt
only_reads z kept long (d ∷ ds) n t = by (is_who z d.who) (is_value d.result) refl refl (only_reads z kept long ds n t.1)
  where
    by : (b v : Bool) → is_who z d.who ≡ b → is_value d.result ≡ v → AllByRecursion (λ d. d.reader ≡ true) (filter (is_done_of (is_who z)) ds) → AllByRecursion (λ d. d.reader ≡ true) (if b && v then d ∷ filter (is_done_of (is_who z)) ds else filter (is_done_of (is_who z)) ds)
    by true true e v k = (elim (cases_Bool d.reader) [ inl q ↦ q | inr q ↦ absurd (true≢false (sym (t.0.known v q) ∙ (ap (λ y. is_kept y kept) (sym (is_who_true z d.who e)) ∙ n))) ], k)
    by true false e v k = k
    by false v e u k = k

-- ---- closed

pub closed_by_change : {C : Type 0} (w : Fixed C) (Of : Tx → C → Type 0) (finish : C → List State → Alone) (es : List Event) (P : Who → Bool) → Given w Of finish → IsRun w es
    → ((a : ℕ) → IsClosedAhead P (history w es).kept (history w es).kept_readers (first_of w a) (told_at w (reached w es) a)) → IsClosedByChange (λ t. HasMember t (followed P (history w es))) (history w es)
unfolding AllThere
closed_by_change {C} w Of finish es P v run closed t u mine before value = record {
  done = value.done;
  front = filter (is_done_of P) value.front;
  rest = filter (is_done_of P) value.rest;
  splits = ap (filter (is_done_of P)) value.splits ∙ (filter_join (is_done_of P) value.front (value.done ∷ value.rest) ∙ ap (λ l. filter (is_done_of P) value.front ++ l) first_kept);
  is_it = value.is_it;
}
  where
    h : History
    h = history w es

    a : ℕ
    a = before.0

    p : Precedes t u (chain a (history w es))
    p = before.1

    changed : HasChanged a p.first.who (history w es)
    changed = before.2

    end : Both w Of finish (reached w es) (history w es)
    end = both w Of finish es v run

    all : Told w Of finish (reached w es) (history w es)
    all = told w Of finish es v run

    along : Shuffled (chain a (history w es)) (visitors a (history w es).committed)
    along = (end.whole.ordered.chained.chains a).chain

    unique : AllByRecursion (λ d. AllByRecursion (λ e. e.tid ≡ d.tid → e ≡ d) (history w es).committed) (chain a (history w es))
    unique = shuffled_all (λ d. AllByRecursion (λ e. e.tid ≡ d.tid → e ≡ d) (history w es).committed) (chain a (history w es)) (visitors a (history w es).committed) along
        (all_filter (λ d. AllByRecursion (λ e. e.tid ≡ d.tid → e ≡ d) (history w es).committed) (came_to a) (history w es).committed (pairs (history w es).committed end.owned.differ))

    own_first : AllByRecursion (λ e. e.tid ≡ p.first.tid → e ≡ p.first) (history w es).committed
    own_first = all_mid (λ d. AllByRecursion (λ e. e.tid ≡ d.tid → e ≡ d) (history w es).committed) p.first p.front (p.between ++ p.second ∷ p.rest) (subst (AllByRecursion (λ d. AllByRecursion (λ e. e.tid ≡ d.tid → e ≡ d) (history w es).committed)) p.splits unique)

    own_second : AllByRecursion (λ e. e.tid ≡ p.second.tid → e ≡ p.second) (history w es).committed
    own_second =
        all_mid (λ d. AllByRecursion (λ e. e.tid ≡ d.tid → e ≡ d) (history w es).committed) p.second p.between p.rest
        (all_back (λ d. AllByRecursion (λ e. e.tid ≡ d.tid → e ≡ d) (history w es).committed) p.front (p.first ∷ (p.between ++ p.second ∷ p.rest)) (subst (AllByRecursion (λ d. AllByRecursion (λ e. e.tid ≡ d.tid → e ≡ d) (history w es).committed)) p.splits unique)).1

    is_first : value.done ≡ p.first
    is_first = all_mid (λ e. e.tid ≡ p.first.tid → e ≡ p.first) value.done value.front value.rest (subst (AllByRecursion (λ e. e.tid ≡ p.first.tid → e ≡ p.first)) value.splits own_first) (value.is_it ∙ sym p.is_first)

    is_second : mine.done ≡ p.second
    is_second = all_mid (λ e. e.tid ≡ p.second.tid → e ≡ p.second) mine.done mine.front mine.rest (subst (AllByRecursion (λ e. e.tid ≡ p.second.tid → e ≡ p.second)) mine.splits (all_filter (λ e. e.tid ≡ p.second.tid → e ≡ p.second) (is_done_of P) (history w es).committed own_second)) (mine.is_it ∙ sym p.is_second)

    member : (P p.second.who ≡ true) × (is_value p.second.result ≡ true)
    member = and_parts (P p.second.who) (is_value p.second.result) (subst (λ d. is_done_of P d ≡ true) is_second (all_mid (λ d. is_done_of P d ≡ true) mine.done mine.front mine.rest (subst (AllByRecursion (λ d. is_done_of P d ≡ true)) mine.splits (all_pass (is_done_of P) (history w es).committed))))

    valued : is_value p.first.result ≡ true
    valued = subst (λ d. is_value d.result ≡ true) is_first value.value

    -- who only reads changed nothing
    kept : is_kept p.first.who (history w es).kept ≡ true
    kept = elim (cases_Bool (is_kept p.first.who (history w es).kept)) [
      | inl q ↦ q
      | inr q ↦ absurd (changed.another (of_readers a changed.found (followed (is_who p.first.who) (history w es)) (only_reads p.first.who (history w es).kept (history w es).long (history w es).committed q all.order.known.logs.there)
          (all_filter (λ d. d.reader ≡ true → LeavesIt (d.views a)) (is_done_of (is_who p.first.who)) (history w es).committed (all.order.known.whole.ordered.stills a)) changed.links))
    ]

    in_second : in_either (history w es).kept (history w es).kept_readers p.second.who ≡ true
    in_second = subst (λ d. is_value d.result ≡ true → in_either (history w es).kept (history w es).kept_readers d.who ≡ true) is_second
        (all_mid (λ d. is_value d.result ≡ true → in_either (history w es).kept (history w es).kept_readers d.who ≡ true) mine.done mine.front mine.rest (subst (AllByRecursion (λ d. is_value d.result ≡ true → in_either (history w es).kept (history w es).kept_readers d.who ≡ true)) mine.splits (all_filter (λ d. is_value d.result ≡ true → in_either (history w es).kept (history w es).kept_readers d.who ≡ true) (is_done_of P) (history w es).committed all.order.done))) member.1

    taken : P p.first.who ≡ true
    taken = elim (cases_Bool (is_who p.first.who p.second.who)) [
      | inl q ↦ subst (λ y. P y ≡ true) (sym (is_who_true p.first.who p.second.who q)) member.0
      | inr q ↦ closed a p.first.who p.second.who member.0 in_second kept (change_is_told a (history w es).kept (history w es).committed (first_of w a) changed.found p.first.who p.second.who (told_at w (reached w es) a) (all.links a) kept changed.links changed.another
          (of_two (IsAheadOf (told_at w (reached w es) a)) (chain a (history w es)) p.front p.between p.rest p.first p.second p.splits (shuffled_behind (IsAheadOf (told_at w (reached w es) a)) (chain a (history w es)) (visitors a (history w es).committed) along (each_ahead a (told_at w (reached w es) a) (history w es).committed (all.order.done_ahead a))) p.rivals valued member.1 q p.rivals))
    ]

    first_kept : filter (is_done_of P) (value.done ∷ value.rest) ≡ value.done ∷ filter (is_done_of P) value.rest
    first_kept = rw (subst (λ d. P d.who ≡ true) (sym is_first) taken, value.value) refl
