-- The groups of a run: one more event, and what is synced.
use Rattle.std.specs.Prelude.{◌≡◌, refl, ℕ, zero, suc, ◌%◌, ◌≤◌, ◌==◌, nat_lt, Bool, true, false, if◌then◌else◌, List, [], ◌∷◌, ◌++◌, length, take, drop, replicate, slice_get, slice_index_or, slice_set}
use Rattle.std.proofs.Common.{arith, sym, ap, subst, ◌∙◌}
use Rattle.std.proofs.lemmas.Bool.{eqb-true, eqb-false, true≢false}
use Rattle.std.proofs.lemmas.List.{append-nil, map-append, take-append-drop, take-append-le, append_assoc}
use Rattle.std.proofs.lemmas.List.Concat.{flat_map-cons}
use Rattle.std.proofs.lemmas.Grind.{flat_map-append}
use Rattle.std.proofs.Math.Seq.{take-length}
use Rattle.protocol.specs.Conditions.{IsAllowed, conditions}
use Rattle.protocol.specs.Effects.{after, log_at, no_log, added, synced}
use Rattle.protocol.specs.Events.{Event, Form, Complete, Sync, Commit, Prepare, Decide}
use Rattle.protocol.specs.Fixed.{Fixed}
use Rattle.protocol.specs.Parts.{Log, Machine}
use Rattle.protocol.specs.Records.{LogRecord}
use Rattle.protocol.specs.Runs.{opening, reached, state_after, EachAllowed, IsRun}
use Rattle.protocol.specs.Words.{holds}
use Rattle.record_log.specs.Growth.{all_records}
use Rattle.snap_hand.specs.log_set.Told.{told, all_told}
use Rattle.record_log.specs.txn_records.declared.records.Record.{Record}
use Rattle.run_effects.specs.Groups.{waiting, durable, group_by, groups_from, groups_of}

-- ---- one more event

pub groups_longer : {C : Type 0} (w : Fixed C) (l : ℕ) (es : List Event) (e : Event) (s : Machine C) → groups_from w l (es ++ e ∷ []) s ≡ groups_from w l es s ++ group_by l e (state_after w es s)
groups_longer w l [] e s = append-nil (group_by l e s)
groups_longer w l (d ∷ es) e s = ap (λ gs. group_by l d s ++ gs) (groups_longer w l es e (after w d s)) ∙ sym (append_assoc (group_by l d s) (groups_from w l es (after w d s)) (group_by l e (state_after w es (after w d s))))

-- ---- one log

-- no more is synced than is there
abbrev pub Within : Log → Type 0
Within g = g.synced ≤ length g.records

durable_added : (rs : List LogRecord) (g : Log) → Within g → durable (added rs g) ≡ durable g
durable_added rs g h = ap all_told (take-append-le g.synced g.records rs h)

within_added : (rs : List LogRecord) (g : Log) → Within g → Within (added rs g)
within_added rs g h = omega (arith, h, longer g.records rs)
  where
    longer : (xs ys : List LogRecord) → length xs ≤ length (xs ++ ys)
    longer [] ys = omega arith
    longer (x ∷ xs) ys = omega (arith, longer xs ys)

durable_synced : (g : Log) → durable (synced g) ≡ durable g ++ waiting g
durable_synced g = ap all_told (take-length g.records ∙ sym (take-append-drop g.synced g.records)) ∙ map-append told (take g.synced g.records) (drop g.synced g.records)

-- ---- one log among all

at_set : (P : Log → Type 0) (gs : List Log) (k l : ℕ) (g : Log) → (k ≡ l → P g) → P (slice_index_or gs l no_log) → P (slice_index_or (slice_set gs k g) l no_log)
at_set P [] k l g p q = q
at_set P (x ∷ gs) zero zero g p q = p refl
at_set P (x ∷ gs) zero (suc l) g p q = q
at_set P (x ∷ gs) (suc k) zero g p q = q
at_set P (x ∷ gs) (suc k) (suc l) g p q = at_set P gs k l g (λ e. p (ap suc e)) q

set_there : (gs : List Log) (l : ℕ) (g : Log) → holds (λ x. nat_lt x.synced (length x.records)) (slice_get gs l) ≡ true → slice_index_or (slice_set gs l g) l no_log ≡ g
set_there [] l g h = absurd (true≢false (sym h))
set_there (x ∷ gs) zero g h = refl
set_there (x ∷ gs) (suc l) g h = set_there gs l g h

pub set_elsewhere : (gs : List Log) (k l : ℕ) (g : Log) → (k ≡ l → ⊥) → slice_index_or (slice_set gs k g) l no_log ≡ slice_index_or gs l no_log
set_elsewhere [] k l g h = refl
set_elsewhere (x ∷ gs) zero zero g h = absurd (h refl)
set_elsewhere (x ∷ gs) zero (suc l) g h = refl
set_elsewhere (x ∷ gs) (suc k) zero g h = refl
set_elsewhere (x ∷ gs) (suc k) (suc l) g h = set_elsewhere gs k l g (λ e. h (ap suc e))

-- ---- one event

-- what an event made of a log: what became durable is the group
record Went (g h : Log) (groups : List (List Record)) : Type 0 where
  within : Within h
  is : durable h ≡ durable g ++ all_records groups

went_on : (g : Log) → Within g → Went g g []
went_on g h = record { within = h; is = sym (append-nil (durable g)) }

went_added : (rs : List LogRecord) (g : Log) → Within g → Went g (added rs g) []
went_added rs g h = record { within = within_added rs g h; is = durable_added rs g h ∙ sym (append-nil (durable g)) }

one_group : (group : List Record) → all_records (group ∷ []) ≡ group
one_group group = flat_map-cons (λ (g : List Record). g) group [] ∙ append-nil group

went_synced : (g : Log) → Went g (synced g) (waiting g ∷ [])
went_synced g = record { within = omega arith; is = durable_synced g ∙ ap (λ rs. durable g ++ rs) (sym (one_group (waiting g))) }

one_added : {C : Type 0} (s : Machine C) (k l : ℕ) (rs : List LogRecord) → Within (log_at s l) → Went (log_at s l) (slice_index_or (slice_set s.logs k (added rs (log_at s k))) l no_log) []
one_added s k l rs h = at_set (λ g. Went (log_at s l) g []) s.logs k l (added rs (log_at s k)) (λ e. subst (λ j. Went (log_at s l) (added rs (log_at s j)) []) (sym e) (went_added rs (log_at s l) h)) (went_on (log_at s l) h)

one_synced : {C : Type 0} (s : Machine C) (k l : ℕ) → holds (λ g. nat_lt g.synced (length g.records)) (slice_get s.logs k) ≡ true → Within (log_at s l)
    → Went (log_at s l) (slice_index_or (slice_set s.logs k (synced (log_at s k))) l no_log) (if k == l then waiting (log_at s l) ∷ [] else [])
one_synced s k l ok h = by (k == l) refl
  where
    by : (b : Bool) → (k == l) ≡ b → Went (log_at s l) (slice_index_or (slice_set s.logs k (synced (log_at s k))) l no_log) (if b then waiting (log_at s l) ∷ [] else [])
    by true e =
        subst (λ j. Went (log_at s j) (slice_index_or (slice_set s.logs k (synced (log_at s k))) j no_log) (waiting (log_at s j) ∷ [])) (eqb-true k l e)
        (subst (λ g. Went (log_at s k) g (waiting (log_at s k) ∷ [])) (sym (set_there s.logs k (synced (log_at s k)) ok)) (went_synced (log_at s k)))
    by false e = subst (λ g. Went (log_at s l) g []) (sym (set_elsewhere s.logs k l (synced (log_at s k)) (eqb-false k l e))) (went_on (log_at s l) h)

event_went : {C : Type 0} (w : Fixed C) (l : ℕ) (e : Event) (s : Machine C) → IsAllowed w e s → Within (log_at s l) → Went (log_at s l) (log_at (after w e s) l) (group_by l e s)
unfolding conditions after
event_went w l (Form k) s ok h = one_added s (k % w.text.logs) l _ h
event_went w l (Complete k a) s ok h = one_added s (a % w.text.logs) l _ h
event_went w l (Sync k) s ok h = one_synced s k l ok.0 h
event_went w l (Commit k) s ok h = one_added s (k % w.text.logs) l _ h
event_went w l (Prepare t a) s ok h = one_added s (a % w.text.logs) l _ h
event_went w l (Decide t) s ok h = one_added s (t % w.text.logs) l _ h
event_went w l _ s ok h = went_on (log_at s l) h

-- ---- a run

run_went : {C : Type 0} (w : Fixed C) (l : ℕ) (es : List Event) (s : Machine C) → EachAllowed w es s → Within (log_at s l) → durable (log_at s l) ++ all_records (groups_from w l es s) ≡ durable (log_at (state_after w es s) l)
run_went w l [] s run h = append-nil (durable (log_at s l))
run_went w l (e ∷ es) s run h =
    let one = event_went w l e s run.0 h in
    let rest = run_went w l es (after w e s) run.1 one.within in
    ap (λ rs. durable (log_at s l) ++ rs) (flat_map-append (λ (g : List Record). g) (group_by l e s) (groups_from w l es (after w e s)))
    ∙ (sym (append_assoc (durable (log_at s l)) (all_records (group_by l e s)) (all_records (groups_from w l es (after w e s))))
    ∙ (ap (λ rs. rs ++ all_records (groups_from w l es (after w e s))) (sym one.is) ∙ rest))

nothing_there : (n l : ℕ) → slice_index_or (replicate n no_log) l no_log ≡ no_log
nothing_there zero l = refl
nothing_there (suc n) zero = refl
nothing_there (suc n) (suc l) = nothing_there n l

pub groups_durable : {C : Type 0} (w : Fixed C) (l : ℕ) (es : List Event) → IsRun w es → all_records (groups_of w l es) ≡ durable (log_at (reached w es) l)
groups_durable w l es run =
    let e = nothing_there w.text.logs l in
    ap (λ g. durable g ++ all_records (groups_of w l es)) (sym e) ∙ run_went w l es (opening w) run (subst Within (sym e) (omega arith))
