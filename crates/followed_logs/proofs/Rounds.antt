-- The rounds over written records are rounds over the machine's.
use Rattle.std.specs.Prelude.{◌≡◌, refl, ℕ, suc, ◌+◌, Bool, true, false, if◌then◌else◌, Option, Some, None, List, [], ◌∷◌, length, Contains}
use Rattle.std.specs.List.{enumerate_from}
use Rattle.std.proofs.Common.{sym, ap, subst, inl, inr, ◌∙◌}
use Rattle.std.proofs.lemmas.Bool.{true≢false}
use Rattle.snap_base.specs.declared.transactions.State.{State}
use Rattle.snap_base.proofs.Lists.{zip_length}
use Rattle.protocol.specs.Fixed.{Opening}
use Rattle.protocol.specs.Facts.{state_in}
use Rattle.protocol.specs.Parts.{Who}
use Rattle.protocol_records.specs.SeveralRuns.{CutRun}
use Rattle.followed_runs.specs.Following as follow
use Rattle.followed_runs.specs.FollowingRuns.{RunsRound, runs_read, runs_before, GoOnRunsRounds, AllRunsRoundsStand, InEveryRunsRound, RunsRoundStands}
use Rattle.txn_records.specs.declared.records.Record.{Record}
use Rattle.txn_records.specs.declared.records.Record.TheVariants.{Genesis}
use Rattle.recovery_laws.proofs.WrittenLists.{grown_genesis}
use Rattle.snap_recover.specs.Logs.{geneses}
use Rattle.snap_recover.specs.Opening.{commit_of}
use Rattle.snap_recover.proofs.Lists.{contains_none}
use Rattle.log_compact.specs.Sets.{plain_lists}
use Rattle.snap_follow.specs.Followed.{HasCommit, StandsAhead, MayTake, IsFollowedState, AreFollowedStates}
use Rattle.snap_follow.specs.Rounds.{Following, taken_by, HasStates}
use Rattle.followed_logs.specs.OnRecords.{key_of, AreOnLogs, Finding, lists_found, reading_of, FollowRound, HasReadNothing, GoOnFollowing, HasTheirStates, AllFollowStand, FollowersTellSerialStates}
use Rattle.followed_logs.proofs.Keys.{is_taken, taken_is, is_then_taken, not_taken}
use Rattle.followed_logs.proofs.Written.{in_commit, ahead_written, states_written}
use Rattle.followed_logs.proofs.Fronts.{plain_front, plain_found, front_only, front_genesis}
use Rattle.followed_logs.proofs.Found.{Found, was_read}

-- ---- what is known before a round

-- these are the members, and the lists are those that were found
pub record Knows {C : Type 0} (many : ℕ) (front : List Record) (xs : List (CutRun C)) (f : Following) (o : Option (Finding xs)) (taken : Who → Bool) : Type 0 where
  held : (w : Who) → taken w ≡ true → Contains (taken_by f) (key_of w)
  others : (w : Who) → taken w ≡ false → ¬ Contains (taken_by f) (key_of w)
  lists : Found many front xs f o

pub knows_nothing : {C : Type 0} (many : ℕ) (front : List Record) (xs : List (CutRun C)) (f : Following) → HasReadNothing f → Knows many front xs f None (λ y. false)
knows_nothing many front xs f n = record {
  held = λ w e. absurd (true≢false (sym e));
  others = λ w e h. contains_none (key_of w) (subst (λ ms. Contains (Rattle.std.specs.Prelude.map commit_of ms) (key_of w)) n.nobody h);
  lists = n.nothing;
}

pub knows_then : {C : Type 0} (many : ℕ) (front : List Record) (xs : List (CutRun C)) (y : FollowRound xs) → y.known.before ≡ lists_found many front xs y.found → Knows many front xs y.known (Some y.found) (is_taken (taken_by y.known))
knows_then many front xs y e = record {
  held = λ w i. taken_is (taken_by y.known) w i;
  others = λ w i. not_taken (taken_by y.known) w i;
  lists = e;
}

-- ---- a round

round_of : {C : Type 0} {xs : List (CutRun C)} → FollowRound xs → RunsRound xs
round_of y = record { reading = y.found.reading; members = is_taken (taken_by y.known) }

rounds_of : {C : Type 0} {xs : List (CutRun C)} → List (FollowRound xs) → List (RunsRound xs)
rounds_of [] = []
rounds_of (y ∷ ys) = round_of y ∷ rounds_of ys

module _ {C : Type 0} (many : ℕ) (o : Opening) (front : List Record) (xs : List (CutRun C)) (g : AreOnLogs many o front xs) where
  pub may_take : (f : Following) (before : Option (Finding xs)) (taken : Who → Bool) (y : FollowRound xs) → Knows many front xs f before taken
      → MayTake (taken_by f) (plain_lists f.before) (plain_lists (lists_found many front xs y.found)) (taken_by y.known)
      → follow.MayTake many (state_in o.states) taken (runs_before xs (reading_of xs before)) (runs_read xs y.found.reading) (is_taken (taken_by y.known))
  may_take f before taken y k m =
      let begun = plain_front many o.states y.found.is_begun in
      let only = front_only many o.states y.found.is_begun g.some_logs in
      let are = plain_found many o.states front xs y.found g.is_front in
      record {
        stay = λ w e. is_then_taken (taken_by y.known) w (m.stay (key_of w) (k.held w e));
        seen = λ w e n. was_read many o.states front xs f before w g.some_logs g.is_front k.lists (m.seen (key_of w) (taken_is (taken_by y.known) w e) (k.others w n));
        rest_on = λ w z e n a i. is_then_taken (taken_by y.known) z (m.rest_on (key_of w) (key_of z) (taken_is (taken_by y.known) w e) (k.others w n)
            (subst (λ ls. StandsAhead ls (key_of z) (key_of w)) (sym are) (ahead_written many o.states begun (runs_read xs y.found.reading) z w g.some_logs only a))
            (subst (λ ls. HasCommit ls (key_of z)) (sym are) (in_commit many o.states begun (runs_read xs y.found.reading) z g.some_logs only i)));
      }

  go_on : (f : Following) (before : Option (Finding xs)) (taken : Who → Bool) (ys : List (FollowRound xs)) → Knows many front xs f before taken → GoOnFollowing many front xs f before ys
      → GoOnRunsRounds many (state_in o.states) xs (reading_of xs before) taken (rounds_of ys)
  unfolding round_of rounds_of
  go_on f before taken [] k h = tt
  go_on f before taken (y ∷ ys) k h = (
    (h.0.0.later, may_take f before taken y k h.0.1.members.takes.may),
    go_on y.known (Some y.found) (is_taken (taken_by y.known)) ys (knows_then many front xs y h.0.1.before) h.1,
  )

  -- ---- its states

  enumerated : (n : ℕ) (ss : List State) → length (enumerate_from n ss) ≡ length ss
  enumerated n [] = refl
  enumerated n (s ∷ ss) = ap suc (enumerated (n + 1) ss)

  pub begun_genesis : (y : FollowRound xs) → y.found.is_begun ≡ true → geneses (plain_lists (lists_found many front xs y.found)) ≡ Genesis many o.states ∷ []
  begun_genesis y b =
      ap geneses (plain_found many o.states front xs y.found g.is_front)
      ∙ (grown_genesis 0 (plain_front many o.states y.found.is_begun) (runs_read xs y.found.reading)
      ∙ (front_genesis many o.states y.found.is_begun ∙ ap (λ (v : Bool). if v then Genesis many o.states ∷ [] else []) b))

  has_states : (old : Option (List State)) (y : FollowRound xs) (before : Option (Finding xs)) (taken : Who → Bool) → HasStates (plain_lists (lists_found many front xs y.found)) y.known.members old y.known.states
      → RunsRoundStands many o xs taken (runs_before xs (reading_of xs before)) y.found.reading (is_taken (taken_by y.known)) → y.found.is_begun ≡ true → HasTheirStates many o xs y (is_taken (taken_by y.known))
  has_states old y before taken (inl h) s b = let bad : [] ≡ Genesis many o.states ∷ [] = sym h.0 ∙ begun_genesis y b in absurd (cc bad)
  has_states old y before taken (inr (first, states, begun, are, told)) s b =
      let same : Genesis (length (plain_lists (lists_found many front xs y.found))) first ∷ [] ≡ Genesis many o.states ∷ [] = sym begun.one ∙ begun_genesis y b in
      let e : first ≡ o.states = cc same in
      let mine : AreFollowedStates (taken_by y.known) (plain_lists (lists_found many front xs y.found)) o.states states = subst (λ z. AreFollowedStates (taken_by y.known) (plain_lists (lists_found many front xs y.found)) z states) e told in (
        states,
        are,
        sym (zip_length (λ (x : ℕ × State) t. IsFollowedState (taken_by y.known) (plain_lists (lists_found many front xs y.found)) x.0 x.1 t) (enumerate_from 0 o.states) states mine) ∙ enumerated 0 o.states,
        (λ a l. states_written many (plain_front many o.states y.found.is_begun) (runs_read xs y.found.reading) (taken_by y.known) o.states states a g.some_logs (front_only many o.states y.found.is_begun g.some_logs)
            (subst (λ ls. AreFollowedStates (taken_by y.known) ls o.states states) (plain_found many o.states front xs y.found g.is_front) mine) l ∙ s.states a l),
      )

  stand : (f : Following) (before : Option (Finding xs)) (taken : Who → Bool) (ys : List (FollowRound xs)) → GoOnFollowing many front xs f before ys → AllRunsRoundsStand many o xs (reading_of xs before) taken (rounds_of ys) → AllFollowStand many o xs before taken ys
  unfolding round_of rounds_of
  stand f before taken [] h s = tt
  stand f before taken (y ∷ ys) h s = (
    record {
      members = is_taken (taken_by y.known);
      held = λ w e. taken_is (taken_by y.known) w e;
      of_all = λ w e. is_then_taken (taken_by y.known) w e;
      stands = s.0;
      states = has_states f.states y before taken h.0.1.states s.0;
    },
    stand y.known (Some y.found) (is_taken (taken_by y.known)) ys h.1 s.1,
  )

pub followers_tell : {C : Type 0} → InEveryRunsRound C → FollowersTellSerialStates C
followers_tell law many o front xs f ys g new h =
    stand many o front xs g f None (λ y. false) ys h
    (law many o xs (rounds_of ys) g.some_actors g.same_logs g.go_on (go_on many o front xs g f None (λ y. false) ys (knows_nothing many front xs f new) h))
