-- What lists that a run grew fold to: the checkpoint is the same, and without it the lists grew by the same records.
use Rattle.std.proofs.Common.{◌≡◌, ℕ, suc, ◌+◌, max, Bool, true, false, List, [], ◌∷◌, ◌++◌, length, map, refl, sym, ap, subst, ◌∙◌, arith, Option, Some, None}
use Rattle.std.specs.Prelude.{if◌then◌else◌}
use Rattle.std.specs.List.{AllByRecursion}
use Rattle.protocol.specs.Facts.{Alone}
use Rattle.protocol.specs.Fixed.{Fixed}
use Rattle.protocol.specs.History.{History}
use Rattle.protocol.specs.Parts.{Machine}
use Rattle.protocol.specs.Records.{LogRecord, BatchInfo, BatchComplete, BatchDone, ActPrepare, ActDone}
use Rattle.snap_base.specs.declared.transactions.State.{State}
use Rattle.txn_records.specs.declared.records.Record.{Record}
use Rattle.txn_records.specs.declared.records.Record.TheVariants as records
use Rattle.log_set.specs.Told.{told, all_told}
use Rattle.snap_recover.specs.declared.openings.Kept.{Kept}
use Rattle.snap_recover.specs.declared.openings.Kept.TheVariants as kept
use Rattle.snap_recover.specs.Logs.{tids_in, bids_in, commits_in, is_genesis}
use Rattle.snap_recover.specs.Opening.{next_of, IsRecovered}
use Rattle.recovery_laws.specs.Grown.{grown, grown_from, all_in, BeginsFrom, BeginsWith, opening_found}
use Rattle.recovery_laws.specs.Joined.{RecoversFrom}
use Rattle.recovery_laws.proofs.WrittenLists.{grown_genesis}
use Rattle.log_compact.specs.declared.folds.Folded.{Folded}
use Rattle.log_compact.specs.Points.{Point, point_told, IsPlain, is_plain, plains}
use Rattle.log_compact.specs.Sets.{OfPoint, IsPointInRange, IsFirstList, IsFolded, HasNoStray, number_of, point_in, point_of, states_at, restated, without_point, plain_lists, count_batches, count_acts}
use Rattle.compact_laws.specs.Steps.{fold_after}

-- ---- what a run writes

-- a run writes no checkpoint
pub told_plain : (r : LogRecord) → IsPlain (told r)
told_plain (BatchInfo k actors tids) = refl
told_plain (BatchComplete k a st) = refl
told_plain (BatchDone k vs) = refl
told_plain (ActPrepare t a st) = refl
told_plain (ActDone t m c v actors) = refl

all_plain : (rs : List LogRecord) → AllByRecursion IsPlain (all_told rs)
all_plain [] = tt
all_plain (r ∷ rs) = (told_plain r, all_plain rs)

plain_join : (xs ys : List Record) → AllByRecursion IsPlain xs → AllByRecursion IsPlain ys → AllByRecursion IsPlain (xs ++ ys)
plain_join [] ys h g = g
plain_join (x ∷ xs) ys h g = (h.0, plain_join xs ys h.1 g)

told_plains : (rs : List LogRecord) → plains (all_told rs) ≡ all_told rs
told_plains [] = refl
told_plains (BatchInfo k actors tids ∷ rs) = ap (λ z. told (BatchInfo k actors tids) ∷ z) (told_plains rs)
told_plains (BatchComplete k a st ∷ rs) = ap (λ z. told (BatchComplete k a st) ∷ z) (told_plains rs)
told_plains (BatchDone k vs ∷ rs) = ap (λ z. told (BatchDone k vs) ∷ z) (told_plains rs)
told_plains (ActPrepare t a st ∷ rs) = ap (λ z. told (ActPrepare t a st) ∷ z) (told_plains rs)
told_plains (ActDone t m c v actors ∷ rs) = ap (λ z. told (ActDone t m c v actors) ∷ z) (told_plains rs)

plains_join : (xs : List Record) (rs : List LogRecord) → plains (xs ++ all_told rs) ≡ plains xs ++ all_told rs
plains_join [] rs = told_plains rs
plains_join (x ∷ xs) rs = by (is_plain x) (plains_join xs rs)
  where
    by : (b : Bool) → plains (xs ++ all_told rs) ≡ plains xs ++ all_told rs → (if b then x ∷ plains (xs ++ all_told rs) else plains (xs ++ all_told rs)) ≡ (if b then x ∷ plains xs else plains xs) ++ all_told rs
    by true same = ap (λ z. x ∷ z) same
    by false same = same

-- ---- the first list

-- only the checkpoint that stood in second place before stands there now
same_point : (xs : List Record) (rs : List LogRecord) → point_in (xs ++ all_told rs) ≡ point_in xs
same_point [] [] = refl
same_point [] (r ∷ []) = refl
same_point [] (BatchInfo k actors tids ∷ r ∷ rs) = refl
same_point [] (BatchComplete k a st ∷ r ∷ rs) = refl
same_point [] (BatchDone k vs ∷ r ∷ rs) = refl
same_point [] (ActPrepare t a st ∷ r ∷ rs) = refl
same_point [] (ActDone t m c v actors ∷ r ∷ rs) = refl
same_point (x ∷ []) [] = refl
same_point (x ∷ []) (r ∷ rs) = by (is_genesis x)
  where
    by : (b : Bool) → (if b then point_told (told r) else None) ≡ None
    by true = told_plain r
    by false = refl
same_point (x ∷ y ∷ xs) rs = refl

-- the states in first place are those of the first record alone
same_states : (x : Record) (xs ys : List Record) → states_at (x ∷ xs) ≡ states_at (x ∷ ys)
same_states (records.Genesis count states) xs ys = refl
same_states (records.BatchInfo bid actors tids) xs ys = refl
same_states (records.BatchComplete bid actor state) xs ys = refl
same_states (records.BatchCommit bid) xs ys = refl
same_states (records.ActPrepare tid actor state) xs ys = refl
same_states (records.ActCommit tid m c actors) xs ys = refl
same_states (records.BatchDone bid values) xs ys = refl
same_states (records.ActDone tid m c value actors) xs ys = refl
same_states (records.Checkpoint generation next_tid next_bid next_c batches acts states) xs ys = refl

grown_first : (xs : List Record) (rs : List LogRecord) (p : Option Point) → point_in xs ≡ p → IsFirstList xs p → IsFirstList (xs ++ all_told rs) p
grown_first xs rs None e h = plain_join xs (all_told rs) h (all_plain rs)
grown_first [] rs (Some p) e h = absurd (cc e)
grown_first (x ∷ []) rs (Some p) e h = absurd (cc e)
grown_first (x ∷ y ∷ xs) rs (Some p) e h = (ap length (same_states x (y ∷ (xs ++ all_told rs)) (y ∷ xs)) ∙ h.0, plain_join xs (all_told rs) h.1 (all_plain rs))

grown_without : (xs : List Record) (rs : List LogRecord) (p : Option Point) → point_in xs ≡ p → without_point (xs ++ all_told rs) p ≡ without_point xs p ++ all_told rs
grown_without xs rs None e = plains_join xs rs
grown_without [] rs (Some p) e = absurd (cc e)
grown_without (x ∷ []) rs (Some p) e = absurd (cc e)
grown_without (x ∷ y ∷ xs) rs (Some p) e = ap (λ z. map (restated p.states) (x ∷ []) ++ z) (plains_join xs rs)

-- ---- the lists

plains_grown : (n : ℕ) (lists : List (List Record)) (logs : ℕ → List LogRecord) → map plains (grown_from n lists logs) ≡ grown_from n (map plains lists) logs
plains_grown n [] logs = refl
plains_grown n (xs ∷ lists) logs =
    ap (λ z. z ∷ map plains (grown_from (n + 1) lists logs)) (plains_join xs (logs n))
    ∙ ap (λ z. (plains xs ++ all_told (logs n)) ∷ z) (plains_grown (n + 1) lists logs)

pub plain_grown : (lists : List (List Record)) (logs : ℕ → List LogRecord) → plain_lists (grown lists logs) ≡ grown (plain_lists lists) logs
plain_grown [] logs = refl
plain_grown (xs ∷ lists) logs =
    ap (λ z. z ∷ map plains (grown_from 1 lists logs)) (ap (without_point (xs ++ all_told (logs 0))) (same_point xs (logs 0)) ∙ grown_without xs (logs 0) (point_in xs) refl)
    ∙ ap (λ z. (without_point xs (point_in xs) ++ all_told (logs 0)) ∷ z) (plains_grown 1 lists logs)

all_plain_grown : (n : ℕ) (lists : List (List Record)) (logs : ℕ → List LogRecord) → AllByRecursion (AllByRecursion IsPlain) lists → AllByRecursion (AllByRecursion IsPlain) (grown_from n lists logs)
all_plain_grown n [] logs h = tt
all_plain_grown n (xs ∷ lists) logs h = (plain_join xs (all_told (logs n)) h.0 (all_plain (logs n)), all_plain_grown (n + 1) lists logs h.1)

no_stray_grown : (lists : List (List Record)) (logs : ℕ → List LogRecord) → HasNoStray lists → HasNoStray (grown lists logs)
no_stray_grown [] logs h = tt
no_stray_grown (xs ∷ lists) logs h = (
  subst (IsFirstList (xs ++ all_told (logs 0))) (sym (same_point xs (logs 0))) (grown_first xs (logs 0) (point_in xs) refl h.0),
  all_plain_grown 1 lists logs h.1,
)

point_grown : (lists : List (List Record)) (logs : ℕ → List LogRecord) → point_of (grown lists logs) ≡ point_of lists
point_grown [] logs = refl
point_grown (xs ∷ lists) logs = same_point xs (logs 0)

pub lists_long : (lists : List (List Record)) → length (plain_lists lists) ≡ length lists
lists_long [] = refl
lists_long (xs ∷ lists) = ap (λ n. suc n) (mapped lists)
  where
    mapped : (xss : List (List Record)) → length (map plains xss) ≡ length xss
    mapped [] = refl
    mapped (x ∷ xss) = ap (λ n. suc n) (mapped xss)

-- ---- what they fold to

batches_join : (ks js : List Kept) → count_batches (ks ++ js) ≡ count_batches ks + count_batches js
batches_join [] js = omega arith
batches_join (kept.Batch bid tids values ∷ ks) js = omega (arith, batches_join ks js)
batches_join (kept.Act tid m c value ∷ ks) js = batches_join ks js

acts_join : (ks js : List Kept) → count_acts (ks ++ js) ≡ count_acts ks + count_acts js
acts_join [] js = omega arith
acts_join (kept.Batch bid tids values ∷ ks) js = acts_join ks js
acts_join (kept.Act tid m c value ∷ ks) js = omega (arith, acts_join ks js)

-- A run that begins with what its logs fold to begins with the states to which they recover without the checkpoint, and with no
-- smaller numbers.
pub begins_from : {C : Type 0} (w : Fixed C) (lists : List (List Record)) (f : Folded) (d : IsFolded lists f) → BeginsWith w.text f.opening → BeginsFrom w.text d.found
begins_from w lists f d b = record {
  states = sym d.states ∙ b.states;
  next_tid = omega (arith, b.next_tid, d.next_tid);
  next_bid = omega (arith, b.next_bid, d.next_bid);
  next_c = omega (arith, b.next_c, d.next_c);
}

pub grown_folds : {C : Type 0} (w : Fixed C) (finish : C → List State → Alone) (lists : List (List Record)) (f : Folded) (s : Machine C) (h : History) (logs : ℕ → List LogRecord) (d : IsFolded lists f)
    → RecoversFrom w finish (plain_lists lists) d.found s h logs → BeginsWith w.text f.opening → IsFolded (grown lists logs) (fold_after w f s logs)
grown_folds w finish lists f s h logs d r b =
    let point = point_grown lists logs in
    let all = all_in w.text.logs logs s in
    record {
      no_stray = no_stray_grown lists logs d.no_stray;
      in_range = subst (OfPoint IsPointInRange) (sym point) d.in_range;
      found = opening_found w (plain_lists lists) d.found s logs;
      recovered = subst (λ z. IsRecovered z (opening_found w (plain_lists lists) d.found s logs)) (sym (plain_grown lists logs)) r.recovered;
      states = refl;
      next_tid = omega (arith, r.next_tid, b.next_tid, d.next_tid, r.no_less_tid) ∙ ap (λ z. max (next_of tids_in (grown (plain_lists lists) logs)) (number_of (λ p. p.next_tid) z)) (sym point);
      next_bid = omega (arith, r.next_bid, b.next_bid, d.next_bid, r.no_less_bid) ∙ ap (λ z. max (next_of bids_in (grown (plain_lists lists) logs)) (number_of (λ p. p.next_bid) z)) (sym point);
      next_c = omega (arith, r.next_c, b.next_c, d.next_c, r.no_less_c) ∙ ap (λ z. max (next_of commits_in (grown (plain_lists lists) logs)) (number_of (λ p. p.next_c) z)) (sym point);
      batches = omega (arith, d.batches, batches_join d.found.committed all, ap (number_of (λ p. p.batches)) point);
      acts = omega (arith, d.acts, acts_join d.found.committed all, ap (number_of (λ p. p.acts)) point);
      first = d.first ∙ ap states_at (sym (grown_genesis 0 lists logs));
      generation = d.generation ∙ ap (number_of (λ p. p.generation)) (sym point);
      since = ap (λ z. z ++ all) d.since;
    }
