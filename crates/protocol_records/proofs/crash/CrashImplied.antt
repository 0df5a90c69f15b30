-- Members among whom nobody is missed on any actor are serial, and a moment is a cut.
use Rattle.std.specs.Prelude.{◌≡◌, refl, ℕ, zero, suc, ◌<◌, ◌≤◌, Bool, true, false, ◌&&◌, if◌then◌else◌, Option, Some, None, is_some, List, [], ◌∷◌, ◌++◌, length, filter, replicate, slice_index_or, slice_set}
use Rattle.std.specs.List.{AllByRecursion}
use Rattle.std.proofs.Common.{arith, sym, ap, subst, inl, inr, ◌∙◌}
use Rattle.std.proofs.lemmas.Bool.{cases_Bool, true≢false}
use Rattle.snap_base.specs.declared.transactions.State.{State}
use Rattle.protocol.specs.Fixed.{Fixed}
use Rattle.protocol.specs.Facts.{Alone, state_in}
use Rattle.protocol.specs.Records.{LogRecord}
use Rattle.protocol.specs.Parts.{Who, Log, Machine}
use Rattle.protocol.specs.Events.{Event, Form, Complete, Sync, Commit, Prepare, Decide}
use Rattle.protocol.specs.Words.{is_value}
use Rattle.protocol.specs.Conditions.{IsAllowed}
use Rattle.protocol.specs.Effects.{after, log_at, no_log, added}
use Rattle.protocol.specs.Runs.{opening, EachAllowed, IsRun, reached}
use Rattle.protocol.specs.History.{View, Done, History}
use Rattle.protocol.specs.Chains.{by_place, is_place_below, RivalsRise, serial_run, IsSerial}
use Rattle.protocol_laws.specs.Commits.{Finds, left_as, left_of, StatesLink, last_state}
use Rattle.protocol_laws.specs.Linked.{came_to, visitors, IsExplained}
use Rattle.protocol_records.specs.Crash.{NoneMissed, members, is_in}
use Rattle.protocol.specs.Moments.{Moment, IsCut, IsLeft}
use Rattle.protocol_theorems.specs.Order.{LeavesIt, OrderFacts}
use Rattle.protocol_laws.proofs.first.Along.{along}
use Rattle.protocol_theorems.proofs.order.ByPlace.{all_sorted}
use Rattle.protocol_laws.proofs.first.Lists.{all_filter, weaker}
use Rattle.protocol_theorems.proofs.order.OrderImplied.{LinkedFrom, passes, still_left, serial_results, serial_states, sorted_links, sorted_last}
use Rattle.protocol_laws.proofs.first.Times

-- ---- who has no value leaves nothing

leaves_nothing : (b : Bool) (o : Option View) (s : State) → b ≡ false → left_as b o s ≡ s
leaves_nothing true o s e = absurd (true≢false e)
leaves_nothing false o s e = refl

-- a part of what rises rises
rise_filter : (test : Done → Bool) (ds : List Done) → RivalsRise ds → RivalsRise (filter test ds)
rise_filter test [] h = tt
rise_filter test (d ∷ ds) h = by (test d) (rise_filter test ds h.1)
  where
    by : (b : Bool) → RivalsRise (filter test ds) → RivalsRise (if b then d ∷ filter test ds else filter test ds)
    by true k = (all_filter (λ e. (d.reader && e.reader) ≡ false → is_place_below d.place e.place ≡ true) test ds h.0, k)
    by false k = k

-- who came, of a part
visitors_filter : (a : ℕ) (test : Done → Bool) (ds : List Done) → visitors a (filter test ds) ≡ filter test (visitors a ds)
visitors_filter a test [] = refl
visitors_filter a test (d ∷ ds) = by (test d) refl (came_to a d) refl (visitors_filter a test ds)
  where
    by : (b : Bool) → test d ≡ b → (c : Bool) → came_to a d ≡ c → visitors a (filter test ds) ≡ filter test (visitors a ds) → visitors a (if b then d ∷ filter test ds else filter test ds) ≡ filter test (if c then d ∷ visitors a ds else visitors a ds)
    by true e true f k = rw (e, f) (ap (λ l. d ∷ l) k)
    by true e false f k = rw f k
    by false e true f k = rw e k
    by false e false f k = k

-- where none of them came states link
none_link : (a : ℕ) (s : State) (test : Done → Bool) (ds : List Done) → AllByRecursion (λ e. test e ≡ true → is_some (e.views a) ≡ false) ds → StatesLink a s (filter test ds)
none_link a s test [] h = tt
none_link a s test (d ∷ ds) h = by (test d) refl (λ t. none_link a t test ds h.1)
  where
    found : (o : Option View) → is_some o ≡ false → Finds o s
    found None e = tt
    found (Some v) e = absurd (true≢false e)

    by : (b : Bool) → test d ≡ b → ((t : State) → StatesLink a t (filter test ds)) → StatesLink a s (if b then d ∷ filter test ds else filter test ds)
    by true e k = (found (d.views a) (h.0 e), k (left_of a d s))
    by false e k = k s

-- who is left out of what links leaves nothing, or nobody came behind it
pub links_members : (a : ℕ) (s : State) (test : Done → Bool) (ds : List Done) → NoneMissed a test ds → AllByRecursion (λ d. d.reader ≡ true → LeavesIt (d.views a)) ds → StatesLink a s ds → StatesLink a s (filter test ds)
links_members a s test [] m k l = tt
links_members a s test (d ∷ ds) m k l = by (test d) refl (links_members a (left_of a d s) test ds m.1 k.1 l.1)
  where
    out : test d ≡ false → StatesLink a (left_of a d s) (filter test ds) → StatesLink a s (filter test ds)
    out e h = elim (cases_Bool (came_to a d)) [
      | inr c ↦ subst (λ t. StatesLink a t (filter test ds)) (passes a d s c) h
      | inl c ↦ elim (cases_Bool (is_value d.result)) [
        | inr v ↦ subst (λ t. StatesLink a t (filter test ds)) (leaves_nothing (is_value d.result) (d.views a) s v) h
        | inl v ↦ elim (cases_Bool d.reader) [
          | inl r ↦ subst (λ t. StatesLink a t (filter test ds)) (still_left a d s (k.0 r) l.0) h
          | inr r ↦ none_link a s test ds (weaker (λ e. test e ≡ true → (d.reader && e.reader) ≡ false → is_some (e.views a) ≡ false) (λ e. test e ≡ true → is_some (e.views a) ≡ false) ds (λ e k q. k q (rw r refl)) (m.0 e c v))
        ]
      ]
    ]

    by : (b : Bool) → test d ≡ b → StatesLink a (left_of a d s) (filter test ds) → StatesLink a s (if b then d ∷ filter test ds else filter test ds)
    by true e h = (l.0, h)
    by false e h = out e h

-- all members have values
pub are_valued : (test : Who → Bool) (ds : List Done) → AllByRecursion (λ d. is_value d.result ≡ true) (filter (λ d. test d.who && is_value d.result) ds)
are_valued test [] = tt
are_valued test (d ∷ ds) = by (test d.who) (is_value d.result) refl (are_valued test ds)
  where
    by : (b c : Bool) → is_value d.result ≡ c → AllByRecursion (λ d. is_value d.result ≡ true) (filter (λ d. test d.who && is_value d.result) ds)
        → AllByRecursion (λ d. is_value d.result ≡ true) (if b && c then d ∷ filter (λ d. test d.who && is_value d.result) ds else filter (λ d. test d.who && is_value d.result) ds)
    by true true e k = (e, k)
    by true false e k = k
    by false c e k = k

-- ---- the serial half of a crash

pub record Members {C : Type 0} (w : Fixed C) (finish : C → List State → Alone) (ms : List Done) : Type 0 where
  pub serial : IsSerial w finish ms
  pub states : (a : ℕ) → a < length w.text.opening.states → state_in (serial_run w finish ms).world a ≡ last_state a (state_in w.text.opening.states a) ms

-- those with a value that pass a test, where nobody is missed
pub parts_serial : {C : Type 0} (w : Fixed C) (finish : C → List State → Alone) (s : Machine C) (h : History) (test : Who → Bool) → OrderFacts w finish s h
    → ((a : ℕ) → a < length w.text.opening.states → NoneMissed a (λ d. test d.who && is_value d.result) h.committed) → Members w finish (filter (λ d. test d.who && is_value d.result) h.committed)
unfolding LinkedFrom
parts_serial {C} w finish s h test f missed = record {
  serial = serial_results w finish (by_place ms) w.text.opening.states refl explained sorted;
  states = λ a k. serial_states w finish (by_place ms) w.text.opening.states refl explained sorted a k ∙ sorted_last a (state_in w.text.opening.states a) ms (rise a k) (left a) (linked a k);
}
  where
    ms : List Done
    ms = filter (λ d. test d.who && is_value d.result) h.committed

    explained : AllByRecursion (IsExplained w finish) (by_place ms)
    explained = all_sorted (IsExplained w finish) ms (all_filter (IsExplained w finish) _ h.committed f.explained)

    rise : (a : ℕ) → a < length w.text.opening.states → RivalsRise (visitors a ms)
    rise a k = subst RivalsRise (sym (visitors_filter a (λ d. test d.who && is_value d.result) h.committed)) (rise_filter (λ d. test d.who && is_value d.result) (visitors a h.committed) (f.rise a k))

    left : (a : ℕ) → AllByRecursion (λ d. d.reader ≡ true → LeavesIt (d.views a)) ms
    left a = all_filter (λ d. d.reader ≡ true → LeavesIt (d.views a)) (λ d. test d.who && is_value d.result) h.committed (f.still a)

    linked : (a : ℕ) → a < length w.text.opening.states → StatesLink a (state_in w.text.opening.states a) ms
    linked a k = links_members a (state_in w.text.opening.states a) (λ d. test d.who && is_value d.result) h.committed (missed a k) (f.still a) (f.linked a k)

    sorted : LinkedFrom w.text.opening.states (by_place ms)
    sorted = λ a k. sorted_links a (state_in w.text.opening.states a) ms (rise a k) (left a) (linked a k)

pub members_serial : {C : Type 0} (w : Fixed C) (finish : C → List State → Alone) (s : Machine C) (h : History) (logs : ℕ → List LogRecord) → OrderFacts w finish s h
    → ((a : ℕ) → a < length w.text.opening.states → NoneMissed a (λ d. is_in w.text.logs logs d.who && is_value d.result) h.committed) → Members w finish (members w.text.logs logs h)
members_serial w finish s h logs f missed = parts_serial w finish s h (is_in w.text.logs logs) f missed

-- ---- a moment is a cut

SyncedWithin : {C : Type 0} → Machine C → Type 0
SyncedWithin s = AllByRecursion (λ g. g.synced ≤ length g.records) s.logs

set_within : (logs : List Log) (l : ℕ) (g : Log) → g.synced ≤ length g.records → AllByRecursion (λ g. g.synced ≤ length g.records) logs → AllByRecursion (λ g. g.synced ≤ length g.records) (slice_set logs l g)
set_within [] l g k h = tt
set_within (x ∷ xs) zero g k h = (k, h.1)
set_within (x ∷ xs) (suc l) g k h = (h.0, set_within xs l g k h.1)

get_within : (logs : List Log) (l : ℕ) → AllByRecursion (λ g. g.synced ≤ length g.records) logs → (slice_index_or logs l no_log).synced ≤ length (slice_index_or logs l no_log).records
get_within [] l h = omega arith
get_within (x ∷ xs) zero h = h.0
get_within (x ∷ xs) (suc l) h = get_within xs l h.1

adds_within : (rs : List LogRecord) (g : Log) → g.synced ≤ length g.records → (added rs g).synced ≤ length (added rs g).records
adds_within rs g h = omega (arith, h, Times.length_join g.records rs)

within_kept : {C : Type 0} (w : Fixed C) (e : Event) (s : Machine C) → IsAllowed w e s → SyncedWithin s → SyncedWithin (after w e s)
unfolding SyncedWithin after
within_kept w (Form k) s ok h = set_within s.logs _ _ (adds_within _ (log_at s _) (get_within s.logs _ h)) h
within_kept w (Complete k a) s ok h = set_within s.logs _ _ (adds_within _ (log_at s _) (get_within s.logs _ h)) h
within_kept w (Sync l) s ok h = set_within s.logs l _ (omega arith) h
within_kept w (Commit k) s ok h = set_within s.logs _ _ (adds_within _ (log_at s _) (get_within s.logs _ h)) h
within_kept w (Prepare t a) s ok h = set_within s.logs _ _ (adds_within _ (log_at s _) (get_within s.logs _ h)) h
within_kept w (Decide t) s ok h = set_within s.logs _ _ (adds_within _ (log_at s _) (get_within s.logs _ h)) h
within_kept w e s ok h = h

no_logs : (n : ℕ) → AllByRecursion (λ g. g.synced ≤ length g.records) (replicate n no_log)
no_logs zero = tt
no_logs (suc n) = (omega arith, no_logs n)

-- the part of a run up to a moment is a run
pub front_runs : {C : Type 0} (w : Fixed C) (es fs : List Event) → IsRun w (es ++ fs) → IsRun w es
front_runs w es fs run = from w es fs (opening w) run
  where
    from : {C : Type 0} (w : Fixed C) (es fs : List Event) (s : Machine C) → EachAllowed w (es ++ fs) s → EachAllowed w es s
    from w [] fs s r = tt
    from w (e ∷ es) fs s r = (r.0, from w es fs (after w e s) r.1)

pub moment_is_cut : {C : Type 0} (w : Fixed C) (es : List Event) (m : Moment w es) (kept : ℕ → ℕ) → IsRun w es → IsLeft w es m kept → IsCut (reached w m.events) kept
unfolding SyncedWithin
moment_is_cut w es m kept run left =
    let s = reached w m.events in
    let h : SyncedWithin s = along w SyncedWithin (within_kept w) m.events (opening w) (front_runs w m.events m.later (subst (λ xs. IsRun w xs) m.splits run)) (no_logs w.text.logs) in
    record {
      all_synced = λ l. elim (left.whole l) [ inl e ↦ omega (arith, e) | inr e ↦ omega (arith, e, get_within s.logs l h) ];
      no_more = λ l. elim (left.whole l) [ inl e ↦ omega (arith, e, get_within s.logs l h) | inr e ↦ omega (arith, e) ];
    }
