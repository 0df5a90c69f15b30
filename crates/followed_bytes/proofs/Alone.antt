-- A run whose logs held no record stands alone on them; and so does one whose logs held Genesis, or Genesis and a checkpoint.
use Rattle.std.specs.Prelude.{◌≡◌, refl, ℕ, zero, suc, ◌+◌, ◌-◌, ◌≤◌, Bool, List, [], ◌∷◌, ◌++◌, filter, length, map, replicate}
use Rattle.std.specs.List.{AllByRecursion}
use Rattle.std.proofs.Common.{inl, inr, arith, sym, ap, subst, ◌∙◌}
use Rattle.std.proofs.lemmas.List.{append-nil}
use Rattle.snap_base.specs.declared.transactions.State.{State}
use Rattle.followed_logs.specs.OnRecords.{IsRunsFront, in_first}
use Rattle.log_compact.specs.Points.{plains}
use Rattle.log_compact.specs.Sets.{plain_lists}
use Rattle.log_opening.specs.Devices.{Device}
use Rattle.protocol.specs.Events as machine
use Rattle.run_opening.specs.Begins.{AreEmpty, GoesOn}
use Rattle.run_opening.specs.Opens.{with_first}
use Rattle.run_opening.specs.Starts.{IsStart, first_record}
use Rattle.run_recovery.specs.OneRun.{the_run}
use Rattle.run_recovery.specs.Runs.{HasRunWork}
use Rattle.run_recovery.specs.Schedules.{Schedule}
use Rattle.snap_recover.specs.Logs.{all_of, is_genesis}
use Rattle.snap_recover.specs.Opening.{IsRecovered}
use Rattle.snap_recover.specs.declared.openings.Opening.{Opening}
use Rattle.snap_work.specs.Kept.{KeepsLimits}
use Rattle.snap_work.specs.Works.{Work}
use Rattle.txn_records.specs.declared.records.Record.{Record}
use Rattle.txn_records.specs.declared.records.Record.TheVariants.{Genesis}
use Rattle.followed_bytes.specs.Looks.{IsAloneOnLogs, IsBareFront}

pub empties : (rss : List (List Record)) → AreEmpty rss → rss ≡ replicate (length rss) []
empties [] h = refl
empties (rs ∷ rss) h = ap (λ z. z ∷ rss) h.0 ∙ ap (λ (z : List (List Record)). [] ∷ z) (empties rss h.1)

only_first : (n : ℕ) (rss : List (List Record)) (added : List Record) → length rss ≡ n → 1 ≤ n → AreEmpty rss → with_first rss added ≡ in_first n added
only_first n [] added e some h = absurd (omega (arith, e, some))
only_first n (rs ∷ rss) added e some h =
    let less : length rss ≡ n - 1 = omega (arith, e) in
    ap (λ (z : List Record). (z ++ added) ∷ rss) h.0 ∙ ap (λ (z : List (List Record)). added ∷ z) (empties rss h.1 ∙ ap (λ (k : ℕ). replicate k []) less)

begins : (n : ℕ) (rss : List (List Record)) (states : List State) (o : Opening) (added : List Record) → length rss ≡ n → AreEmpty rss → IsStart rss states o added → IsRunsFront n o.states added
begins n rss states o added e empty (inl new) =
    let is : first_record (length rss) states ∷ [] ≡ first_record n o.states ∷ [] = ap (λ (k : ℕ). first_record k states ∷ []) e ∙ ap (λ (p : Opening). first_record n p.states ∷ []) (sym new.1) in
    subst (IsRunsFront n o.states) (sym (new.2 ∙ is)) refl
begins n rss states o added e empty (inr on) = absurd (on.0.some empty)

pub first_alone : (w : Work) (schedule : Schedule) (o : Opening) (es : List machine.Event) (failed : ℕ → Bool) (before after : List Device) → KeepsLimits w → (run : HasRunWork w schedule o es failed before after)
    → AreEmpty run.devices.records → IsAloneOnLogs (the_run run)
first_alone w schedule o es failed before after limits run empty =
    let d = run.devices in
    record { front = d.added; is_front = begins w.logs d.records w.states o d.added d.as_many empty d.start; held = only_first w.logs d.records d.added d.as_many limits.logs.0 empty }

-- ---- behind Genesis, or behind it and a checkpoint

-- what recovery promises of logs that hold Genesis alone
abbrev pub Begun : Type 0
Begun =
    (count : ℕ) (others : List (List Record)) (states : List State) → count ≡ length others + 1 → AllByRecursion (λ (rs : List Record). rs ≡ []) others
    → IsRecovered ((Genesis count states ∷ []) ∷ others) (record { states = states; committed = []; next_tid = record { 0 = 1 }; next_bid = record { 0 = 1 }; next_c = 1 })

abbrev pub OneOpening : Type 0
OneOpening = (logs : List (List Record)) (o p : Opening) → IsRecovered logs o → IsRecovered logs p → o ≡ p

nothing_plain : (n : ℕ) → AllByRecursion (λ (rs : List Record). rs ≡ []) (map plains (replicate n []))
nothing_plain zero = tt
nothing_plain (suc n) = (refl, nothing_plain n)

nothing_long : (n : ℕ) → length (map plains (replicate n [])) ≡ n
nothing_long zero = refl
nothing_long (suc n) = ap suc (nothing_long n)

pub nothing_added : (rss : List (List Record)) → with_first rss [] ≡ rss
nothing_added [] = refl
nothing_added (rs ∷ rss) = ap (λ (z : List Record). z ∷ rss) (append-nil rs)

-- Genesis tells how many logs there are, and the states are its own
record TellsStates (count : ℕ) (first : List State) (others : List (List Record)) (o : Opening) : Type 0 where
  many : count ≡ length others + 1
  states : o.states ≡ first

tells : Begun → OneOpening → (count : ℕ) (first : List State) (others : List (List Record)) (o : Opening) → AllByRecursion (λ (rs : List Record). rs ≡ []) others → IsRecovered ((Genesis count first ∷ []) ∷ others) o → TellsStates count first others o
tells begun one count first others o empty x =
    let begins_so : Genesis count first ∷ filter is_genesis (all_of others) ≡ Genesis (length ((Genesis count first ∷ []) ∷ others)) x.begun.0 ∷ [] = x.begun.1.one in
    let same : count ≡ length ((Genesis count first ∷ []) ∷ others) = cc in
    let many : count ≡ length others + 1 = omega (arith, same) in
    record { many = many; states = ap (λ (p : Opening). p.states) (one ((Genesis count first ∷ []) ∷ others) o _ x (begun count others first many empty)) }

front_is : Begun → OneOpening → (n : ℕ) (front : List Record) (rss : List (List Record)) (states : List State) (o : Opening) → 1 ≤ n → IsBareFront front → rss ≡ in_first n front → GoesOn rss states o → IsRunsFront n o.states front
front_is begun one n front rss states o some bare is on =
    let others = map plains (replicate (n - 1) []) in
    let f = on.folded in
    let x : IsRecovered (plain_lists (in_first n front)) f.1.found = subst (λ (ls : List (List Record)). IsRecovered (plain_lists ls) f.1.found) is f.1.recovered in
    let y : IsRecovered ((Genesis bare.0 bare.1 ∷ []) ∷ others) f.1.found = subst (λ (z : List Record). IsRecovered (z ∷ others) f.1.found) bare.2 x in
    let t = tells begun one bare.0 bare.1 others f.1.found (nothing_plain (n - 1)) y in
    let many : bare.0 ≡ n = omega (arith, t.many, nothing_long (n - 1), some) in
    let same : bare.1 ≡ o.states = sym t.states ∙ (sym f.1.states ∙ ap (λ (p : Opening). p.states) f.2) in
    bare.2 ∙ (ap (λ (k : ℕ). Genesis k bare.1 ∷ []) many ∙ ap (λ (ss : List State). Genesis n ss ∷ []) same)

pub bare_alone : Begun → OneOpening → (w : Work) (schedule : Schedule) (o : Opening) (es : List machine.Event) (failed : ℕ → Bool) (before after : List Device) → KeepsLimits w → (run : HasRunWork w schedule o es failed before after)
    → (front : List Record) → IsBareFront front → run.devices.records ≡ in_first w.logs front → IsAloneOnLogs (the_run run)
bare_alone begun one w schedule o es failed before after limits run front bare is = by run.devices.start
  where
    by : IsStart run.devices.records w.states o run.devices.added → IsAloneOnLogs (the_run run)
    by (inl new) = first_alone w schedule o es failed before after limits run new.0
    by (inr on) = record {
      front = front;
      is_front = front_is begun one w.logs front run.devices.records w.states o limits.logs.0 bare is on.0;
      held = ap (λ (rs : List Record). with_first run.devices.records rs) on.1 ∙ (nothing_added run.devices.records ∙ is);
    }
