-- A round over what is found is refused for want of memory alone.
use Rattle.std.specs.Prelude.{◌≡◌, refl, ℕ, zero, suc, ◌+◌, ◌-◌, ◌≤◌, ◌<◌, ◌%◌, Bool, true, false, if◌then◌else◌, Option, Some, None, List, [], ◌∷◌, ◌++◌, length, replicate}
use Rattle.std.specs.List.{AllByRecursion, list_any}
use Rattle.std.proofs.Common.{arith, sym, ap, subst, mod-lt, inl, inr, ◌∙◌, append_assoc}
use Rattle.std.proofs.lemmas.Bool.{true≢false, eq-eqb}
use Rattle.snap_base.specs.declared.ids.Bid.{Bid}
use Rattle.snap_base.specs.declared.transactions.State.{State}
use Rattle.snap_base.proofs.Lists.{all_join, all_front, all_back}
use Rattle.protocol.specs.Fixed.{Opening}
use Rattle.protocol.specs.Records as machine
use Rattle.protocol.specs.Records.{LogRecord, is_info, is_commit}
use Rattle.protocol.specs.Parts.{OfBatch, OfAct}
use Rattle.protocol.specs.Words.{count}
use Rattle.protocol_laws.proofs.first.Lists.{any_front}
use Rattle.protocol_records.specs.Crash.{is_in}
use Rattle.protocol_records.specs.RecordLaws.{RecordKey, has_key, OfInfo, OfCommit, OfActCommit}
use Rattle.protocol_records.specs.SeveralRuns.{CutRun}
use Rattle.followed_runs.specs.FollowingRuns.{RunsReading, runs_read, runs_before, InEveryRunsRound, RecordsReadOnce}
use Rattle.txn_records.specs.declared.records.Record.{Record}
use Rattle.txn_records.specs.declared.records.Record.TheVariants.{Genesis}
use Rattle.snap_recover.specs.declared.openings.Opening as recovery
use Rattle.snap_recover.specs.Logs.{all_of, geneses}
use Rattle.snap_recover.specs.Opening.{IsIn, HasItsValues, IsInRange, IsRecovered}
use Rattle.log_set.specs.Told.{all_told}
use Rattle.recovery_laws.specs.Grown.{grown_from, grown}
use Rattle.recovery_laws.specs.Joined.{AtEveryMomentFrom, RecoversFrom}
use Rattle.recovery_laws.proofs.WrittenLists.{written_join, grown_length, grown_genesis}
use Rattle.log_compact.specs.Sets.{plain_lists}
use Rattle.snap_follow.specs.declared.refusals.FollowNo.{FollowNo}
use Rattle.snap_follow.specs.declared.refusals.FollowNo.TheVariants.{Memory}
use Rattle.snap_follow.specs.Refusals.{IsNotFollowed}
use Rattle.snap_follow.specs.Laws.{RefusedForMemoryAlone}
use Rattle.snap_follow.specs.Rounds.{Following, StartsWith, list_at, GrowFrom, AreReadable, AreSeenWhole}
use Rattle.followed_logs.specs.OnRecords.{AreOnLogs, in_first, Finding, lists_found, reading_of, IsLaterFinding, known_then, found_last, FollowersAreNotRefused}
use Rattle.followed_logs.proofs.Written.{OnlyGenesis, in_commit}
use Rattle.followed_logs.proofs.Fronts.{plain_front, plain_found, front_only, front_genesis, first_long, others_none, front_at, list_grown}
use Rattle.followed_logs.proofs.Found.{Found, found_then, nothing_at, was_read}
use Rattle.followed_logs.proofs.Behind.{all_left, all_recovered}
use Rattle.followed_logs.proofs.LaterReads.{ReadLater, reads}
use Rattle.followed_logs.proofs.Whole.{batch_whole, act_whole, its_values, any_middle}

-- ---- what holds of longer lists

all_shorter : (P : Record → Type 0) (n : ℕ) (begun : List (List Record)) (logs all : ℕ → List LogRecord) → ((l : ℕ) → (more : List LogRecord) × (all l ≡ logs l ++ more)) → AllByRecursion P (all_of (grown_from n begun all)) → AllByRecursion P (all_of (grown_from n begun logs))
all_shorter P n [] logs all g h = tt
all_shorter P n (rs ∷ rss) logs all g h =
    let m = g n in
    let e : rs ++ all_told (all n) ≡ (rs ++ all_told (logs n)) ++ all_told m.0 = ap (λ z. rs ++ all_told z) m.1 ∙ (ap (λ z. rs ++ z) (written_join (logs n) m.0) ∙ sym (append_assoc rs (all_told (logs n)) (all_told m.0))) in
    all_join P (rs ++ all_told (logs n)) (all_of (grown_from (n + 1) rss logs))
    (all_front P (rs ++ all_told (logs n)) (all_told m.0) (subst (AllByRecursion P) e (all_front P (rs ++ all_told (all n)) (all_of (grown_from (n + 1) rss all)) h)))
    (all_shorter P (n + 1) rss logs all g (all_back P (rs ++ all_told (all n)) (all_of (grown_from (n + 1) rss all)) h))

-- ---- what is found

-- what stands there behind all runs recovers
abbrev pub Behind : {C : Type 0} → ℕ → Opening → List (CutRun C) → Type 0
Behind many o xs = (q : recovery.Opening) × IsRecovered (grown (plain_front many o.states true) (runs_read xs (all_left xs))) q

module _ {C : Type 0} (many : ℕ) (o : Opening) (front : List Record) (xs : List (CutRun C)) (g : AreOnLogs many o front xs) (once : RecordsReadOnce C) (behind : Behind many o xs) (alone : RefusedForMemoryAlone) where
  genesis_behind : geneses (grown (plain_front many o.states true) (runs_read xs (all_left xs))) ≡ Genesis many o.states ∷ []
  genesis_behind = grown_genesis 0 (plain_front many o.states true) (runs_read xs (all_left xs)) ∙ front_genesis many o.states true

  readable : (f : Following) (before : Option (Finding xs)) (now : Finding xs) → ReadLater many xs (runs_before xs (reading_of xs before)) now.reading → AreReadable (plain_lists (lists_found many front xs now))
  readable f before now r = by now.is_begun refl
    where
      lists_are : plain_lists (lists_found many front xs now) ≡ grown (plain_front many o.states now.is_begun) (runs_read xs now.reading)
      lists_are = plain_found many o.states front xs now g.is_front

      genesis_is : geneses (grown (plain_front many o.states now.is_begun) (runs_read xs now.reading)) ≡ (if now.is_begun then Genesis many o.states ∷ [] else [])
      genesis_is = grown_genesis 0 (plain_front many o.states now.is_begun) (runs_read xs now.reading) ∙ front_genesis many o.states now.is_begun

      by : (b : Bool) → now.is_begun ≡ b → AreReadable (plain_lists (lists_found many front xs now))
      by false e = inl (ap geneses lists_are ∙ (genesis_is ∙ ap (λ (v : Bool). if v then Genesis many o.states ∷ [] else []) e))
      by true e =
          let are : plain_lists (lists_found many front xs now) ≡ grown (plain_front many o.states true) (runs_read xs now.reading) = lists_are ∙ ap (λ v. grown (plain_front many o.states v) (runs_read xs now.reading)) e in
          let long : many ≡ length (grown (plain_front many o.states true) (runs_read xs now.reading)) = sym (grown_length 0 (plain_front many o.states true) (runs_read xs now.reading) ∙ (front_only many o.states true g.some_logs).many_are) in
          let b = behind.1.begun in
          let both : Genesis (length (grown (plain_front many o.states true) (runs_read xs (all_left xs)))) b.0 ∷ [] ≡ Genesis many o.states ∷ [] = sym b.1.one ∙ genesis_behind in
          let states : b.0 ≡ o.states = cc both in
          subst AreReadable (sym are) (inr (
            o.states,
            record {
              one = (grown_genesis 0 (plain_front many o.states true) (runs_read xs now.reading) ∙ front_genesis many o.states true) ∙ ap (λ n. Genesis n o.states ∷ []) long;
              range = all_shorter (IsInRange (length o.states)) 0 (plain_front many o.states true) (runs_read xs now.reading) (runs_read xs (all_left xs)) r.all
                  (subst (λ z. AllByRecursion (IsInRange (length z)) (all_of (grown (plain_front many o.states true) (runs_read xs (all_left xs))))) states b.1.range);
            },
          ))

  -- of each key at most one record is in its log
  one_read : (n : ℕ) (k : RecordKey) (r : RunsReading xs) → count (has_key k) (runs_read xs r (n % many)) ≤ 1
  one_read n k r = once many o xs r g.some_actors g.same_logs g.go_on (n % many) (mod-lt n g.some_logs) k

  whole : (f : Following) (before : Option (Finding xs)) (now : Finding xs) → Found many front xs f before → ReadLater many xs (runs_before xs (reading_of xs before)) now.reading
      → AreSeenWhole (plain_lists f.before) (plain_lists (lists_found many front xs now))
  whole f before now h r = subst (AreSeenWhole (plain_lists f.before)) (sym (plain_found many o.states front xs now g.is_front)) (record {
    batches = λ bid i. batch_whole many o.states (plain_front many o.states now.is_begun) (runs_read xs now.reading) g.some_logs bare bid.0 (one_read bid.0 (OfInfo bid.0) now.reading) (r.whole_batches bid.0 (batch_read bid i));
    acts = λ tid i. act_whole many o.states (plain_front many o.states now.is_begun) (runs_read xs now.reading) g.some_logs bare tid.0 (one_read tid.0 (OfActCommit tid.0) now.reading) (r.whole_acts tid.0 (was_read many o.states front xs f before (OfAct tid.0) g.some_logs g.is_front h i));
    valued = λ bid i. values bid (batch_read bid i);
  })
    where
      bare : OnlyGenesis many o.states (plain_front many o.states now.is_begun)
      bare = front_only many o.states now.is_begun g.some_logs

      batch_read : (bid : Bid) → IsIn (plain_lists f.before) bid → is_in many (runs_before xs (reading_of xs before)) (OfBatch bid.0) ≡ true
      batch_read bid i = was_read many o.states front xs f before (OfBatch bid.0) g.some_logs g.is_front h i

      values : (bid : Bid) → is_in many (runs_before xs (reading_of xs before)) (OfBatch bid.0) ≡ true → HasItsValues (grown (plain_front many o.states now.is_begun) (runs_read xs now.reading)) bid
      values bid i =
          let k = bid.0 in
          let m = r.all (k % many) in
          let less = r.no_less (k % many) in
          let x = r.whole_batches k i in
          let info = ap (list_any (is_info k)) x.info ∙ any_middle (is_info k) x.front x.rest (machine.BatchInfo k x.actors x.tids) (eq-eqb k k refl) in
          let commit = ap (list_any (is_commit k)) less.1 ∙ any_front (is_commit k) (runs_before xs (reading_of xs before) (k % many)) less.0 i in
          let last = ap (list_any (is_commit k)) m.1 ∙ any_front (is_commit k) (runs_read xs now.reading (k % many)) m.0 commit in
          its_values many o.states (plain_front many o.states true) (plain_front many o.states now.is_begun) (runs_read xs now.reading) (runs_read xs (all_left xs)) g.some_logs (front_only many o.states true g.some_logs) bare k m.0 m.1 info commit
          (one_read k (OfInfo k) (all_left xs)) (one_read k (OfCommit k) (all_left xs))
          (behind.1.valued bid (in_commit many o.states (plain_front many o.states true) (runs_read xs (all_left xs)) (OfBatch k) g.some_logs (front_only many o.states true g.some_logs) last))

  -- ---- what was there is still there

  front_stays : (b c : Bool) (was is more : List LogRecord) (i : ℕ) → (b ≡ true → c ≡ true) → (b ≡ false → i ≡ 0 → was ≡ []) → is ≡ was ++ more
      → StartsWith (front_at (if c then front else []) i ++ all_told is) (front_at (if b then front else []) i ++ all_told was)
  unfolding front_at
  front_stays b c was is more (suc i) t n e = (all_told more, ap all_told e ∙ written_join was more)
  front_stays true false was is more zero t n e = absurd (true≢false (sym (t refl)))
  front_stays true true was is more zero t n e = (all_told more, ap (λ z. front ++ all_told z) e ∙ (ap (λ z. front ++ z) (written_join was more) ∙ sym (append_assoc front (all_told was) (all_told more))))
  front_stays false c was is more zero t n e = let none : all_told was ≡ [] = ap all_told (n refl refl) in ((if c then front else []) ++ all_told is, ap (λ z. z ++ ((if c then front else []) ++ all_told is)) (sym none))

  grow : (f : Following) (before : Option (Finding xs)) (now : Finding xs) → Found many front xs f before → IsLaterFinding xs before now → ReadLater many xs (runs_before xs (reading_of xs before)) now.reading
      → GrowFrom f.before (lists_found many front xs now)
  grow f None now h later r log l = (list_at (lists_found many front xs now) log, ap (λ z. z ++ list_at (lists_found many front xs now) log) (sym (nothing_at f.before log h)))
  grow f (Some x) now h later r log l =
      let long : length (lists_found many front xs now) ≡ many = grown_length 0 (in_first many (if now.is_begun then front else [])) (runs_read xs now.reading) ∙ first_long many (if now.is_begun then front else []) g.some_logs in
      let low : log < many = omega (arith, l, long) in
      let m = r.no_less log in
      let there = list_grown many (if now.is_begun then front else []) (runs_read xs now.reading) log g.some_logs low in
      let here = ap (λ ls. list_at ls log) h ∙ list_grown many (if x.is_begun then front else []) (runs_read xs x.reading) log g.some_logs low in
      subst (λ z. StartsWith z (list_at f.before log)) (sym there)
      (subst (λ z. StartsWith (front_at (if now.is_begun then front else []) log ++ all_told (runs_read xs now.reading log)) z) (sym here)
      (front_stays x.is_begun now.is_begun (runs_read xs x.reading log) (runs_read xs now.reading log) m.0 log later.still_begun (λ e i. ap (runs_read xs x.reading) i ∙ x.bare e) m.1))

  pub unrefused : (f : Following) (before : Option (Finding xs)) (now : Finding xs) (no : FollowNo) → Found many front xs f before → IsLaterFinding xs before now → ReadLater many xs (runs_before xs (reading_of xs before)) now.reading
      → IsNotFollowed f.before (lists_found many front xs now) no → no ≡ Memory
  unrefused f before now why h later r = alone f.before (lists_found many front xs now) why (grow f before now h later r) (readable f before now r) (whole f before now h r)

-- what recovery promises of logs that hold Genesis alone
abbrev pub Begun : Type 0
Begun =
    (count : ℕ) (others : List (List Record)) (states : List State) → count ≡ length others + 1 → AllByRecursion (λ (rs : List Record). rs ≡ []) others
    → IsRecovered ((Genesis count states ∷ []) ∷ others) (record { states = states; committed = []; next_tid = record { 0 = 1 }; next_bid = record { 0 = 1 }; next_c = 1 })

behind_all : {C : Type 0} → AtEveryMomentFrom (RecoversFrom {C = C}) → Begun → (many : ℕ) (o : Opening) (front : List Record) (xs : List (CutRun C)) → AreOnLogs many o front xs → Behind many o xs
unfolding plain_front
behind_all law begun many o front xs g =
    let first : recovery.Opening = record { states = o.states; committed = []; next_tid = record { 0 = 1 }; next_bid = record { 0 = 1 }; next_c = 1 } in
    let others : List (List Record) = replicate (many - 1) [] in
    let long = first_long many (Genesis many o.states ∷ []) g.some_logs in
    all_recovered law many (plain_front many o.states true) o first xs long g.same_logs g.go_on (begun many others o.states (omega (arith, long)) (others_none (many - 1)))
    refl (omega arith) (omega arith) (omega arith)

pub followers_not_refused : {C : Type 0} → InEveryRunsRound C → RecordsReadOnce C → AtEveryMomentFrom (RecoversFrom {C = C}) → Begun → RefusedForMemoryAlone → FollowersAreNotRefused C
followers_not_refused law once recovers begun alone many o front xs f ys next why g new h later =
    let before = found_last xs None ys in
    unrefused many o front xs g once (behind_all recovers begun many o front xs g) alone (known_then xs f ys) before next why
    (found_then many front xs f None ys new.nothing h) later
    (reads law many o xs (reading_of xs before) next.reading g.some_actors g.same_logs g.go_on later.later)
