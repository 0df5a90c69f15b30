-- Behind each step there is a set that folds.
use Rattle.std.proofs.Common.{zero, suc, ◌≡◌, ℕ, ◌+◌, inl, inr, List, [], ◌∷◌, length, map, refl, sym, ap, subst, ◌∙◌, arith}
use Rattle.std.specs.List.{range_with_len}
use Rattle.protocol.specs.History.{history}
use Rattle.protocol.specs.Runs.{reached}
use Rattle.protocol_records.specs.Crash.{AtEveryMoment, CrashHolds}
use Rattle.protocol_records.specs.SeveralRuns.{CutRun, MayBe, logs_left}
use Rattle.txn_records.specs.declared.records.Record.{Record}
use Rattle.recovery_laws.specs.Grown.{BeginsWith}
use Rattle.recovery_laws.specs.Joined.{AtEveryMomentFrom, RecoversFrom}
use Rattle.snap_recover.specs.declared.openings.Opening.{Opening}
use Rattle.log_compact.specs.declared.folds.Folded.{Folded}
use Rattle.log_compact.specs.Finding.{IsUsed, OneUse}
use Rattle.log_compact.specs.Sets.{IsFolded, IsSameFold, logs_from, plain_lists, IsSet, OneFold}
use Rattle.log_compact.specs.Compacting.{other_side, IsBefore, ClearingKeeps, CompactingKeeps}
use Rattle.compact_laws.specs.Steps.{with_run, BeginsOn, fold_after, left_by, fold_left, Step, Run, Clear, Compact, GoOn, SetHolds, StepsStand}
use Rattle.compact_laws.proofs.ListsGrown.{begins_from, grown_folds, lists_long}
use Rattle.compact_laws.proofs.RunsOnSets.{set_stays, lists_grew}

-- ---- the same fold

same_fold : (f g : Folded) → f ≡ g → IsSameFold f g
same_fold f g e = record {
  states = ap (λ (x : Folded). x.opening.states) (sym e);
  next_tid = ap (λ (x : Folded). x.opening.next_tid) (sym e);
  next_bid = ap (λ (x : Folded). x.opening.next_bid) (sym e);
  next_c = ap (λ (x : Folded). x.opening.next_c) (sym e);
  batches = ap (λ (x : Folded). x.batches) (sym e);
  acts = ap (λ (x : Folded). x.acts) (sym e);
  first = ap (λ (x : Folded). x.first) (sym e);
}

then : (f g h : Folded) → IsSameFold f g → IsSameFold g h → IsSameFold f h
then f g h x y = record { states = y.states ∙ x.states; next_tid = y.next_tid ∙ x.next_tid; next_bid = y.next_bid ∙ x.next_bid; next_c = y.next_c ∙ x.next_c; batches = y.batches ∙ x.batches; acts = y.acts ∙ x.acts; first = y.first ∙ x.first }

-- ---- a run

range_long : (devices : ℕ → List Record) (from n : ℕ) → length (map devices (range_with_len from n)) ≡ n
range_long devices from zero = refl
range_long devices from (suc n) = omega (arith, range_long devices (from + 1) n)

run_holds : {C : Type 0} → AtEveryMoment (CrashHolds {C = C}) → AtEveryMomentFrom (RecoversFrom {C = C}) → (devices : ℕ → List Record) (head many : ℕ) (f : Folded) (x : CutRun C) → SetHolds devices head many f → MayBe x → BeginsOn x.fixed.text many f
    → (CrashHolds x.fixed x.finish x.events (reached x.fixed x.moment.events) (history x.fixed x.moment.events) (logs_left x)
    × ((o : Opening) × RecoversFrom x.fixed x.finish (plain_lists (logs_from devices head many)) o (reached x.fixed x.moment.events) (history x.fixed x.moment.events) (logs_left x)))
    × SetHolds (left_by devices head many x) head many (fold_left f x)
run_holds {C} crash recovers devices head many f x s v b = ((crash x.fixed x.finish x.events x.moment x.kept v.facts v.text v.run v.left, (s.folded.found, r)), record { some = s.some; set = set_stays devices head many f.generation (logs_left x) s.some s.set; folded = folded })
  where
    long : length (plain_lists (logs_from devices head many)) ≡ x.fixed.text.logs
    long = lists_long (logs_from devices head many) ∙ (range_long devices head many ∙ sym b.logs)

    with_it : BeginsWith x.fixed.text f.opening
    with_it = record { states = sym b.states; next_tid = sym b.next_tid; next_bid = sym b.next_bid; next_c = sym b.next_c }

    r : RecoversFrom x.fixed x.finish (plain_lists (logs_from devices head many)) s.folded.found (reached x.fixed x.moment.events) (history x.fixed x.moment.events) (logs_left x)
    r = recovers x.fixed x.finish x.events x.moment x.kept (plain_lists (logs_from devices head many)) s.folded.found v.facts v.text v.run v.left long s.folded.recovered (begins_from x.fixed (logs_from devices head many) f s.folded with_it)

    folded : IsFolded (logs_from (with_run devices head many (logs_left x)) head many) (fold_after x.fixed f (reached x.fixed x.moment.events) (logs_left x))
    folded = subst (λ z. IsFolded z (fold_after x.fixed f (reached x.fixed x.moment.events) (logs_left x))) (sym (lists_grew devices head many (logs_left x))) (grown_folds x.fixed x.finish (logs_from devices head many) f (reached x.fixed x.moment.events) (history x.fixed x.moment.events) (logs_left x) s.folded r with_it)

-- ---- step by step

clear_holds : ClearingKeeps → (devices now : ℕ → List Record) (head many : ℕ) (f : Folded) → SetHolds devices head many f → IsBefore devices now (other_side head many) many → SetHolds now head many f
clear_holds clears devices now head many f s b = let k = clears devices now (many + 1) head many f.generation s.some (inl s.set) b in record { some = s.some; set = still k.0; folded = subst (λ z. IsFolded z f) (sym k.1) s.folded }
  where
    -- where there is a set as many logs are in use as it has
    still : IsUsed now (many + 1) head many f.generation → IsSet now head many f.generation
    still (inl set) = set
    still (inr none) = absurd (omega (arith, none.2))

pub steps : {C : Type 0} → AtEveryMoment (CrashHolds {C = C}) → AtEveryMomentFrom (RecoversFrom {C = C}) → ClearingKeeps → CompactingKeeps → OneUse → OneFold → (devices : ℕ → List Record) (head many : ℕ) (f : Folded) (xs : List (Step C)) → SetHolds devices head many f → GoOn devices head many f xs → StepsStand devices head many f xs
steps crash recovers clears keeps use_of fold devices head many f [] s g = s
steps crash recovers clears keeps use_of fold devices head many f (Run x ∷ xs) s g =
    let r = run_holds crash recovers devices head many f x s g.0.0 g.0.1 in
    ((s, r.0.0, r.0.1), steps crash recovers clears keeps use_of fold (left_by devices head many x) head many (fold_left f x) xs r.1 g.1)
steps crash recovers clears keeps use_of fold devices head many f (Clear now ∷ xs) s g = (s, steps crash recovers clears keeps use_of fold now head many f xs (clear_holds clears devices now head many f s g.0.1) g.1)
steps crash recovers clears keeps use_of fold devices head many f (Compact now next h ∷ xs) s g =
    let k = keeps devices now head many f g.0.0 g.0.1 in
    let i = use_of now 1 k.head many k.fold.generation next many h.generation k.used (inl g.0.2) in
    let same = same_fold k.fold h (fold (logs_from now next many) k.fold h (subst (λ z. IsFolded (logs_from now z many) k.fold) i.0 k.folded) g.0.3) in
    ((s, then f k.fold h k.same same), steps crash recovers clears keeps use_of fold now next many h xs (record { some = s.some; set = g.0.2; folded = g.0.3 }) g.1)
