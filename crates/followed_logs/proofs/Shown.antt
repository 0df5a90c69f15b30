-- A round over written records takes as many as it may of the machine's, and so what was seen is shown.
use Rattle.std.specs.Prelude.{◌≡◌, refl, ℕ, zero, suc, ◌%◌, ◌⊎◌, Bool, true, false, if◌then◌else◌, Some, None, List, [], ◌∷◌, ◌++◌, length, map, slice_index_or, Contains}
use Rattle.std.specs.List.{AllByRecursion, filter}
use Rattle.std.proofs.Common.{sym, ap, subst, inl, inr, ◌∙◌}
use Rattle.std.proofs.lemmas.Bool.{true≢false, cases_Bool, false_from_ne_true}
use Rattle.protocol.specs.Fixed.{Opening}
use Rattle.protocol.specs.Facts.{state_in}
use Rattle.protocol.specs.Parts.{Who, OfBatch, OfAct}
use Rattle.protocol_records.specs.Crash.{is_in}
use Rattle.protocol_records.specs.SeveralRuns.{CutRun}
use Rattle.followed_runs.specs.Following as follow
use Rattle.followed_runs.specs.FollowingRuns.{RunsReading, runs_read, runs_before, SeenIsShownBehindRuns}
use Rattle.txn_records.specs.declared.records.Record.{Record}
use Rattle.txn_records.specs.declared.records.Record.TheVariants.{Genesis}
use Rattle.txn_records.specs.declared.keys.Key.{Key}
use Rattle.txn_records.specs.declared.keys.Key.TheVariants as keys
use Rattle.txn_records.specs.Records.{key}
use Rattle.recovery_laws.specs.Grown.{grown}
use Rattle.snap_recover.specs.Logs.{HasKey, all_of}
use Rattle.snap_recover.specs.Opening.{AreBegunWith}
use Rattle.snap_recover.proofs.Growing.{has_left, has_right}
use Rattle.snap_recover.proofs.Lists.{contains_cases, contains_here, contains_there, contains_none, contains_left, contains_right, contains_append, all_contains}
use Rattle.log_compact.specs.Sets.{plain_lists}
use Rattle.snap_follow.specs.Followed.{HasCommit, StandsAhead, MayTake}
use Rattle.snap_follow.specs.Rounds.{Following, taken_by, AreReadable, IsRound}
use Rattle.followed_logs.specs.OnRecords.{key_of, AreOnLogs, Finding, lists_found, FollowRound, HasReadNothing, FollowersShowWhatWasFound}
use Rattle.followed_logs.proofs.Keys.{is_taken, taken_is, is_then_taken}
use Rattle.followed_logs.proofs.Written.{in_commit, commit_in}
use Rattle.followed_logs.proofs.WrittenBack.{written_ahead}
use Rattle.followed_logs.proofs.Fronts.{plain_front, plain_found, front_only}
use Rattle.followed_logs.proofs.Rounds.{knows_nothing, knows_then, may_take, begun_genesis}

-- ---- a set as a list of keys

of_key : (Who → Bool) → Key → Bool
of_key m (keys.Commit bid) = m (OfBatch bid.0)
of_key m (keys.Act tid) = m (OfAct tid.0)
of_key m k = false

of_its_key : (m : Who → Bool) (w : Who) → of_key m (key_of w) ≡ m w
unfolding of_key
of_its_key m (OfBatch k) = refl
of_its_key m (OfAct t) = refl

-- it is the key of one of them
record IsOf (m : Who → Bool) (k : Key) : Type 0 where
  who : Who
  same : k ≡ key_of who
  held : m who ≡ true

key_is : (m : Who → Bool) (k : Key) → of_key m k ≡ true → IsOf m k
unfolding of_key
key_is m (keys.Commit bid) e = record { who = OfBatch bid.0; same = refl; held = e }
key_is m (keys.Act tid) e = record { who = OfAct tid.0; same = refl; held = e }
key_is m k e = absurd (true≢false (sym e))

pub commit_who : (lists : List (List Record)) (k : Key) → HasCommit lists k → (w : Who) × (k ≡ key_of w)
commit_who lists keys.Genesis h = absurd h
commit_who lists (keys.Info bid) h = absurd h
commit_who lists (keys.Complete bid actor) h = absurd h
commit_who lists (keys.Commit bid) h = (OfBatch bid.0, refl)
commit_who lists (keys.Prepare tid actor) h = absurd h
commit_who lists (keys.Act tid) h = (OfAct tid.0, refl)
commit_who lists keys.Checkpoint h = absurd h

each_is : (m : Key → Bool) (ks : List Key) → AllByRecursion (λ k. m k ≡ true) (filter m ks)
each_is m [] = tt
each_is m (k ∷ ks) = by (m k) refl (each_is m ks)
  where
    by : (b : Bool) → m k ≡ b → AllByRecursion (λ j. m j ≡ true) (filter m ks) → AllByRecursion (λ j. m j ≡ true) (if b then k ∷ filter m ks else filter m ks)
    by true e h = (e, h)
    by false e h = h

in_filter : (m : Key → Bool) (ks : List Key) (j : Key) → Contains ks j → m j ≡ true → Contains (filter m ks) j
in_filter m [] j c e = absurd (contains_none j c)
in_filter m (k ∷ ks) j c e = by (m k) refl (contains_cases k j ks c) (λ i. in_filter m ks j i e)
  where
    by : (b : Bool) → m k ≡ b → (k ≡ j) ⊎ Contains ks j → (Contains ks j → Contains (filter m ks) j) → Contains (if b then k ∷ filter m ks else filter m ks) j
    by true f (inl s) rest = subst (Contains (k ∷ filter m ks)) s (contains_here k (filter m ks))
    by true f (inr i) rest = contains_there k j (filter m ks) (rest i)
    by false f (inl s) rest = absurd (true≢false (sym e ∙ sym (ap m s) ∙ f))
    by false f (inr i) rest = rest i

key_of_all : (lists : List (List Record)) (i : ℕ) (k : Key) → HasKey (slice_index_or lists i []) k → HasKey (all_of lists) k
key_of_all [] i k h = absurd (contains_none k h)
key_of_all (rs ∷ lists) zero k h = has_left rs (all_of lists) k h
key_of_all (rs ∷ lists) (suc i) k h = has_right rs (all_of lists) k (key_of_all lists i k h)

read_key : (lists : List (List Record)) (w : Who) → HasCommit lists (key_of w) → HasKey (all_of lists) (key_of w)
read_key lists (OfBatch k) h = key_of_all lists (k % length lists) (key_of (OfBatch k)) h
read_key lists (OfAct t) h = key_of_all lists (t % length lists) (key_of (OfAct t)) h

-- those that were taken, and those of them whose commits are in the lists
as_keys : List Key → List (List Record) → (Who → Bool) → List Key
as_keys ks lists m = ks ++ filter (of_key m) (map key (all_of lists))

from_keys : (ks : List Key) (lists : List (List Record)) (m : Who → Bool) (k : Key) → Contains (as_keys ks lists m) k → Contains ks k ⊎ IsOf m k
unfolding as_keys
from_keys ks lists m k c = elim (contains_append ks (filter (of_key m) (map key (all_of lists))) k c) [
  | inl t ↦ inl t
  | inr t ↦ inr (key_is m k (all_contains (λ j. of_key m j ≡ true) (filter (of_key m) (map key (all_of lists))) k (each_is (of_key m) (map key (all_of lists))) t))
]

taken_key : (ks : List Key) (lists : List (List Record)) (m : Who → Bool) (k : Key) → Contains ks k → Contains (as_keys ks lists m) k
unfolding as_keys
taken_key ks lists m k c = contains_left ks (filter (of_key m) (map key (all_of lists))) k c

in_keys : (ks : List Key) (lists : List (List Record)) (m : Who → Bool) (w : Who) → m w ≡ true → HasCommit lists (key_of w) → Contains (as_keys ks lists m) (key_of w)
unfolding as_keys
in_keys ks lists m w e h =
    contains_right ks (filter (of_key m) (map key (all_of lists))) (key_of w) (in_filter (of_key m) (map key (all_of lists)) (key_of w) (read_key lists w h) (of_its_key m w ∙ e))

not_yet : (ks : List Key) (w : Who) (k : Key) → k ≡ key_of w → ¬ Contains ks k → is_taken ks w ≡ false
not_yet ks w k e n = false_from_ne_true (is_taken ks w) (λ i. n (subst (Contains ks) (sym e) (taken_is ks w i)))

-- ---- what was read

in_read : {C : Type 0} (many : ℕ) (xs : List (CutRun C)) (r : RunsReading xs) (w : Who) → is_in many (runs_before xs (Some r)) w ≡ true → is_in many (runs_read xs r) w ≡ true
in_read many xs r (OfBatch k) e = e
in_read many xs r (OfAct t) e = e

none_before : {C : Type 0} (many : ℕ) (xs : List (CutRun C)) (w : Who) → is_in many (runs_before xs None) w ≡ true → ⊥
none_before many xs (OfBatch k) e = true≢false (sym e)
none_before many xs (OfAct t) e = true≢false (sym e)

module _ {C : Type 0} (many : ℕ) (o : Opening) (front : List Record) (xs : List (CutRun C)) (g : AreOnLogs many o front xs) where
  commit_found : (x : Finding xs) (w : Who) → is_in many (runs_read xs x.reading) w ≡ true → HasCommit (plain_lists (lists_found many front xs x)) (key_of w)
  commit_found x w i =
      subst (λ ls. HasCommit ls (key_of w)) (sym (plain_found many o.states front xs x g.is_front))
      (in_commit many o.states (plain_front many o.states x.is_begun) (runs_read xs x.reading) w g.some_logs (front_only many o.states x.is_begun g.some_logs) i)

  found_commit : (x : Finding xs) (w : Who) → HasCommit (plain_lists (lists_found many front xs x)) (key_of w) → is_in many (runs_read xs x.reading) w ≡ true
  found_commit x w h =
      commit_in many o.states (plain_front many o.states x.is_begun) (runs_read xs x.reading) w g.some_logs (front_only many o.states x.is_begun g.some_logs)
      (subst (λ ls. HasCommit ls (key_of w)) (plain_found many o.states front xs x g.is_front) h)

  begun_with : (y : FollowRound xs) → y.found.is_begun ≡ true → AreReadable (plain_lists (lists_found many front xs y.found)) → AreBegunWith (grown (plain_front many o.states y.found.is_begun) (runs_read xs y.found.reading)) o.states
  begun_with y b (inl h) = let bad : [] ≡ Genesis many o.states ∷ [] = sym h ∙ begun_genesis many o front xs g y b in absurd (cc bad)
  begun_with y b (inr (first, begun)) =
      let same : Genesis (length (plain_lists (lists_found many front xs y.found))) first ∷ [] ≡ Genesis many o.states ∷ [] = sym begun.one ∙ begun_genesis many o front xs g y b in
      let e : first ≡ o.states = cc same in
      subst (λ ls. AreBegunWith ls o.states) (plain_found many o.states front xs y.found g.is_front) (subst (AreBegunWith (plain_lists (lists_found many front xs y.found))) e begun)

  -- ---- the second round of two

  module _ (x y : FollowRound xs) (r : IsRound x.known (lists_found many front xs y.found) y.known) (e : x.known.before ≡ lists_found many front xs x.found) (b : y.found.is_begun ≡ true) where
    ahead_machine : (j k : Key) (z w : Who) → j ≡ key_of z → k ≡ key_of w → StandsAhead (plain_lists (lists_found many front xs y.found)) j k → follow.StandsAhead many (state_in o.states) (runs_read xs y.found.reading) z w
    ahead_machine j k z w ez ew a =
        written_ahead many o.states (plain_front many o.states y.found.is_begun) (runs_read xs y.found.reading) z w g.some_logs (front_only many o.states y.found.is_begun g.some_logs) (begun_with y b r.readable)
        (subst (λ ls. StandsAhead ls (key_of z) (key_of w)) (plain_found many o.states front xs y.found g.is_front)
        (subst (λ v. StandsAhead (plain_lists (lists_found many front xs y.found)) v (key_of w)) ez (subst (StandsAhead (plain_lists (lists_found many front xs y.found)) j) ew a)))

    module _ (m : Who → Bool) (t : follow.MayTake many (state_in o.states) (is_taken (taken_by x.known)) (runs_before xs (Some x.found.reading)) (runs_read xs y.found.reading) m) where
      was_there : (w : Who) → m w ≡ true → is_taken (taken_by x.known) w ≡ false → HasCommit (plain_lists x.known.before) (key_of w)
      was_there w i n = subst (λ ls. HasCommit (plain_lists ls) (key_of w)) (sym e) (commit_found x.found w (in_read many xs x.found.reading w (t.seen w i n)))

      has_key : (w : Who) → m w ≡ true → Contains (as_keys (taken_by x.known) (plain_lists x.known.before) m) (key_of w)
      has_key w i = elim (cases_Bool (is_taken (taken_by x.known) w)) [
        | inl q ↦ taken_key (taken_by x.known) (plain_lists x.known.before) m (key_of w) (taken_is (taken_by x.known) w q)
        | inr q ↦ in_keys (taken_by x.known) (plain_lists x.known.before) m w i (was_there w i q)
      ]

      seen_key : (k : Key) → Contains (as_keys (taken_by x.known) (plain_lists x.known.before) m) k → ¬ Contains (taken_by x.known) k → IsOf m k
      seen_key k c n = elim (from_keys (taken_by x.known) (plain_lists x.known.before) m k c) [ inl q ↦ absurd (n q) | inr q ↦ q ]

      may_keys : MayTake (taken_by x.known) (plain_lists x.known.before) (plain_lists (lists_found many front xs y.found)) (as_keys (taken_by x.known) (plain_lists x.known.before) m)
      may_keys = record {
        stay = λ k c. taken_key (taken_by x.known) (plain_lists x.known.before) m k c;
        seen = λ k c n. let p = seen_key k c n in subst (HasCommit (plain_lists x.known.before)) (sym p.same) (was_there p.who p.held (not_yet (taken_by x.known) p.who k p.same n));
        rest_on = λ k j c n a h.
            let p = seen_key k c n in
            let q = commit_who (plain_lists (lists_found many front xs y.found)) j h in
            subst (Contains (as_keys (taken_by x.known) (plain_lists x.known.before) m)) (sym q.1) (has_key q.0
            (t.rest_on p.who q.0 p.held (not_yet (taken_by x.known) p.who k p.same n) (ahead_machine j k q.0 p.who q.1 p.same a)
            (found_commit y.found q.0 (subst (HasCommit (plain_lists (lists_found many front xs y.found))) q.1 h))));
      }

    takes_most : follow.TakesMost many (state_in o.states) (is_taken (taken_by x.known)) (runs_before xs (Some x.found.reading)) (runs_read xs y.found.reading) (is_taken (taken_by y.known))
    takes_most = record {
      may = may_take many o front xs g x.known (Some x.found) (is_taken (taken_by x.known)) y (knows_then many front xs x e) r.members.takes.may;
      greatest = λ m t w i. is_then_taken (taken_by y.known) w (r.members.takes.greatest (as_keys (taken_by x.known) (plain_lists x.known.before) m) (may_keys m t) (key_of w) (has_key m t w i));
    }

  -- the first round takes nobody
  takes_first : (f : Following) (x : FollowRound xs) → HasReadNothing f → IsRound f (lists_found many front xs x.found) x.known
      → follow.TakesMost many (state_in o.states) (λ z. false) (runs_before xs None) (runs_read xs x.found.reading) (is_taken (taken_by x.known))
  takes_first f x n r = record {
    may = may_take many o front xs g f None (λ z. false) x (knows_nothing many front xs f n) r.members.takes.may;
    greatest = λ m t w i. absurd (none_before many xs w (t.seen w i refl));
  }

pub seen_is_shown : {C : Type 0} → SeenIsShownBehindRuns C → FollowersShowWhatWasFound C
seen_is_shown law many o front xs f earlier x y g n h b k c =
    let w = commit_who (plain_lists (lists_found many front xs earlier)) k c in
    subst (Contains (taken_by y.known)) (sym w.1) (taken_is (taken_by y.known) w.0
    (law many o xs earlier.reading (record { reading = x.found.reading; members = is_taken (taken_by x.known) }) (record { reading = y.found.reading; members = is_taken (taken_by y.known) }) g.some_actors g.same_logs g.go_on h.0.0.later
    ((tt, takes_first many o front xs g f x n h.0.1), ((h.1.0.0.later, takes_most many o front xs g x y h.1.0.1 h.0.1.before b), tt)) w.0
    (found_commit many o front xs g earlier w.0 (subst (HasCommit (plain_lists (lists_found many front xs earlier))) w.1 c))))
