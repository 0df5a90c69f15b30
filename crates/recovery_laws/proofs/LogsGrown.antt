-- What logs that a run grew recover to.
use Rattle.std.specs.Prelude.{◌≡◌, refl, ℕ, suc, ◌+◌, ◌≤◌, max, List, [], ◌∷◌, length}
use Rattle.std.specs.List.{AllByRecursion, AllZip, enumerate_from}
use Rattle.std.proofs.Common.{arith, sym, ap, subst, ◌∙◌}
use Rattle.snap_base.specs.declared.transactions.State.{State}
use Rattle.snap_base.proofs.Lists.{zip_length}
use Rattle.protocol.specs.Fixed.{Text, Fixed}
use Rattle.protocol.specs.Records.{LogRecord}
use Rattle.protocol.specs.Parts.{Machine}
use Rattle.protocol_records.specs.Crash as crash
use Rattle.protocol_records.specs.NextNumbers.{next_tid_of, next_bid_of, next_c_of}
use Rattle.txn_records.specs.declared.records.Record.{Record}
use Rattle.txn_records.specs.declared.records.Record.TheVariants.{Genesis}
use Rattle.snap_recover.specs.declared.openings.Opening.{Opening}
use Rattle.snap_recover.specs.Logs.{tids_in, bids_in, commits_in}
use Rattle.snap_recover.specs.Opening.{IsStateOf, greatest, next_of, IsInRange, IsRecovered}
use Rattle.log_set.specs.Told.{all_told}
use Rattle.recovery_laws.specs.Grown.{grown, opening_after, opening_found, BeginsWith, BeginsFrom}
use Rattle.recovery_laws.proofs.WrittenLists.{tids_written, bids_written, cs_written, grown_length, grown_genesis, grown_all, all_from, grown_greatest, greatest_written}
use Rattle.recovery_laws.proofs.KnownLogs.{Known}
use Rattle.recovery_laws.proofs.WholesGrown.{whole_grown, act_whole_grown}
use Rattle.recovery_laws.proofs.StatesGrown.{states_grown}
use Rattle.recovery_laws.proofs.CommittedGrown.{committed_grown, valued_grown}

enumerated : (n : ℕ) (xs : List State) → length (enumerate_from n xs) ≡ length xs
enumerated n [] = refl
enumerated n (x ∷ xs) = ap suc (enumerated (n + 1) xs)

pub found : {C : Type 0} (w : Fixed C) (earlier : List (List Record)) (o : Opening) (s : Machine C) (logs : ℕ → List LogRecord) → Known w earlier o s logs → IsRecovered (grown earlier logs) (opening_found w earlier o s logs)
found {C} w earlier o s logs g =
    let b = g.before.begun in
    let long : length b.0 ≡ length w.text.opening.states = sym (enumerated 0 b.0) ∙ (zip_length (λ (x : ℕ × State) t. IsStateOf earlier x.0 x.1 t) (enumerate_from 0 b.0) o.states b.2 ∙ ap length g.begins.states) in
    record {
      begun = (
        b.0,
        record {
          one = grown_genesis 0 earlier logs ∙ (b.1.one ∙ ap (λ n. Genesis n b.0 ∷ []) (sym (grown_length 0 earlier logs)));
          range = grown_all (IsInRange (length b.0)) 0 earlier logs b.1.range (λ l. subst (λ n. AllByRecursion (IsInRange n) (all_told (logs l))) (sym long) (g.range l));
        },
        states_grown w earlier o s logs 0 b.0 w.text.opening.states g (subst (λ z. AllZip (λ (x : ℕ × State) t. IsStateOf earlier x.0 x.1 t) (enumerate_from 0 b.0) z) g.begins.states b.2),
      );
      whole = λ x h. whole_grown w earlier o s logs x g h;
      acts_whole = λ t h. act_whole_grown w earlier o s logs t g h;
      valued = λ b h. valued_grown w earlier o s logs b g h;
      committed = committed_grown w earlier o s logs g;
      next_tid = refl;
      next_bid = refl;
      next_c = refl;
    }

-- the next numbers of the run are those that its logs tell, or the ones with which it began
pub record NumbersFound {C : Type 0} (w : Fixed C) (earlier : List (List Record)) (o : Opening) (logs : ℕ → List LogRecord) : Type 0 where
  pub next_tid : next_tid_of w logs ≡ max w.text.opening.next_tid (next_of tids_in (grown earlier logs))
  pub next_bid : next_bid_of w logs ≡ max w.text.opening.next_bid (next_of bids_in (grown earlier logs))
  pub next_c : next_c_of w logs ≡ max w.text.opening.next_c (next_of commits_in (grown earlier logs))
  pub no_less_tid : o.next_tid.0 ≤ next_of tids_in (grown earlier logs)
  pub no_less_bid : o.next_bid.0 ≤ next_of bids_in (grown earlier logs)
  pub no_less_c : o.next_c ≤ next_of commits_in (grown earlier logs)

pub numbers_found : {C : Type 0} (w : Fixed C) (earlier : List (List Record)) (o : Opening) (s : Machine C) (logs : ℕ → List LogRecord) → Known w earlier o s logs → NumbersFound w earlier o logs
numbers_found w earlier o s logs g = record {
  next_tid = omega (arith, g.before.next_tid, g.begins.next_tid, grown_greatest tids_in crash.tids_in 0 earlier logs (λ l. tids_written (logs l)), ap (λ n. greatest (all_from crash.tids_in logs 0 n)) g.many, greatest_written crash.tids_in logs w.text.logs);
  next_bid = omega (arith, g.before.next_bid, g.begins.next_bid, grown_greatest bids_in crash.bids_in 0 earlier logs (λ l. bids_written (logs l)), ap (λ n. greatest (all_from crash.bids_in logs 0 n)) g.many, greatest_written crash.bids_in logs w.text.logs);
  next_c = omega (arith, g.before.next_c, g.begins.next_c, grown_greatest commits_in crash.cs_in 0 earlier logs (λ l. cs_written (logs l)), ap (λ n. greatest (all_from crash.cs_in logs 0 n)) g.many, greatest_written crash.cs_in logs w.text.logs);
  no_less_tid = omega (arith, g.before.next_tid, g.begins.next_tid, grown_greatest tids_in crash.tids_in 0 earlier logs (λ l. tids_written (logs l)), ap (λ n. greatest (all_from crash.tids_in logs 0 n)) g.many, greatest_written crash.tids_in logs w.text.logs);
  no_less_bid = omega (arith, g.before.next_bid, g.begins.next_bid, grown_greatest bids_in crash.bids_in 0 earlier logs (λ l. bids_written (logs l)), ap (λ n. greatest (all_from crash.bids_in logs 0 n)) g.many, greatest_written crash.bids_in logs w.text.logs);
  no_less_c = omega (arith, g.before.next_c, g.begins.next_c, grown_greatest commits_in crash.cs_in 0 earlier logs (λ l. cs_written (logs l)), ap (λ n. greatest (all_from crash.cs_in logs 0 n)) g.many, greatest_written crash.cs_in logs w.text.logs);
}

-- where the run began with just what was recovered, they are its next numbers
pub recovers : {C : Type 0} (w : Fixed C) (earlier : List (List Record)) (o : Opening) (s : Machine C) (logs : ℕ → List LogRecord) → BeginsWith w.text o → Known w earlier o s logs
    → IsRecovered (grown earlier logs) (opening_after w o s logs)
recovers w earlier o s logs b g =
    let r = found w earlier o s logs g in
    let n = numbers_found w earlier o s logs g in
    record {
      begun = r.begun;
      whole = r.whole;
      acts_whole = r.acts_whole;
      valued = r.valued;
      committed = r.committed;
      next_tid = omega (arith, b.next_tid, n.next_tid, n.no_less_tid);
      next_bid = omega (arith, b.next_bid, n.next_bid, n.no_less_bid);
      next_c = omega (arith, b.next_c, n.next_c, n.no_less_c);
    }

-- a run that begins with what its logs recovered to begins with no smaller numbers
pub begins_from : (w : Text) (o : Opening) → BeginsWith w o → BeginsFrom w o
begins_from w o b = record { states = b.states; next_tid = omega (arith, b.next_tid); next_bid = omega (arith, b.next_bid); next_c = omega (arith, b.next_c) }
