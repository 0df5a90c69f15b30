-- What is found in lists without a checkpoint is what a round finds.
use Rattle.std.proofs.Common.{◌≡◌, ◌<◌, inl, inr, true, ◌↔◌, Option, Some, None, MatchOption, List, [], ◌∷◌, length, map, sym, ap, subst, ◌∙◌}
use Rattle.std.specs.Prelude.{⊤, Contains, slice_get}
use Rattle.std.specs.List.{AllByRecursion, filter}
use Rattle.std.proofs.lemmas.List.Kept.{AllPairs-filter}
use Rattle.snap_base.specs.declared.ids.Bid.{Bid}
use Rattle.snap_base.specs.declared.ids.Tid.{Tid}
use Rattle.snap_base.specs.declared.transactions.State.{State}
use Rattle.snap_base.proofs.Lists.{all_filter, weaker}
use Rattle.txn_records.specs.declared.records.Record.{Record}
use Rattle.txn_records.specs.declared.records.Record.TheVariants.{Genesis}
use Rattle.txn_records.specs.declared.keys.Key.{Key}
use Rattle.txn_records.specs.declared.keys.Key.TheVariants as keys
use Rattle.snap_recover.specs.declared.openings.Kept.{Kept}
use Rattle.snap_recover.specs.declared.openings.Kept.TheVariants as kept
use Rattle.snap_recover.specs.Logs.{geneses, log_of}
use Rattle.snap_recover.specs.Opening.{IsIn, IsActIn, IsKeptIn, IsCommitted, AreBegunWith, AreWhollyCommitted, ComesBefore, IsInRange, commit_of}
use Rattle.snap_recover.proofs.Lists.{all_contains, contains_map, contains_unmap}
use Rattle.snap_recover.proofs.OneOpening.{act_is_in}
use Rattle.log_compact.specs.Sets.{plain_lists}
use Rattle.snap_follow.specs.declared.commits.Commits.{Commits}
use Rattle.snap_follow.specs.declared.refusals.FollowNo.{FollowNo}
use Rattle.snap_follow.specs.declared.refusals.FollowNo.TheVariants.{Back, TwoGenesis, LogCount, Range, Missing, Values, Memory}
use Rattle.snap_follow.specs.declared.rounds.Found.{Found}
use Rattle.snap_follow.specs.Finding.{IsSettledFrom, LeavesStates, AreFoundStates, IsFound, newer_states}
use Rattle.snap_follow.specs.Followed.{HasCommit, IsFirstState, StandsAhead, TakesMost, AreMembers}
use Rattle.snap_follow.specs.Passes.{IsInSet, HasAllCommits, HasMembers, BeginsWith, AreFirstStates, IsAheadOf, Settles, IsSettled, chosen_lists, is_member, IsNotWhole}
use Rattle.snap_follow.specs.Refusals.{IsNotFollowed}
use Rattle.snap_follow.specs.Rounds.{Following, HasStates, IsRound, AreInLists, GrowFrom, AreReadable, AreSeenWhole}
use Rattle.snap_follow.proofs.Alike.{each_is, in_filter}
use Rattle.snap_follow.proofs.AlikeLists.{chosen_alike, batches_of, acts_of, committed_is_named, commit_of_plain, commit_grown}
use Rattle.snap_follow.proofs.AlikeTold.{in_alike, act_in_alike, kept_batch_alike, kept_act_alike, states_alike, batches_whole, acts_whole, all_valued, lacking_alike, lacking_values_alike}
use Rattle.snap_follow.proofs.Changes.{ahead_alike}
use Rattle.snap_follow.proofs.Decisions.{one_begun}
use Rattle.snap_follow.proofs.Named.{named_or_not}

-- ---- a set of commits that stand in the lists

-- the lists with the commits of the set alone have just those
both_ways : (set : Commits) (now : List (List Record)) → ((k : Key) → IsInSet set k → HasCommit now k) → (k : Key) → HasCommit (chosen_lists set now) k ↔ IsInSet set k
both_ways set now there keys.Genesis = ((λ h. h), λ h. h)
both_ways set now there (keys.Info bid) = ((λ h. h), λ h. h)
both_ways set now there (keys.Complete bid actor) = ((λ h. h), λ h. h)
both_ways set now there (keys.Commit bid) = (
  committed_is_named set now (keys.Commit bid),
  λ h. in_alike (batches_of set) (acts_of set) now (chosen_lists set now) (sym (chosen_alike set now)) bid h (there (keys.Commit bid) h),
)
both_ways set now there (keys.Prepare tid actor) = ((λ h. h), λ h. h)
both_ways set now there (keys.Act tid) = (
  committed_is_named set now (keys.Act tid),
  λ h. act_in_alike (batches_of set) (acts_of set) now (chosen_lists set now) (sym (chosen_alike set now)) tid h (there (keys.Act tid) h),
)
both_ways set now there keys.Checkpoint = ((λ h. h), λ h. h)

kept_has : (logs : List (List Record)) (x : Kept) → IsKeptIn logs x → HasCommit logs (commit_of x)
kept_has logs (kept.Batch bid tids values) h = h.0
kept_has logs (kept.Act tid m c value) h = act_is_in logs tid m c value h.0 h.1

-- who is told in the lists with these commits alone is told alike in the lists
one_kept_there : (set : Commits) (now : List (List Record)) (x : Kept) → IsInSet set (commit_of x) → IsKeptIn (chosen_lists set now) x → IsKeptIn now x
one_kept_there set now (kept.Batch bid tids values) on h = kept_batch_alike (batches_of set) (acts_of set) (chosen_lists set now) now (chosen_alike set now) bid tids values on h
one_kept_there set now (kept.Act tid m c value) on h = kept_act_alike (batches_of set) (acts_of set) (chosen_lists set now) now (chosen_alike set now) tid m c value on h

kept_there : (set : Commits) (now : List (List Record)) (members : List Kept) → AllByRecursion (IsKeptIn (chosen_lists set now)) members → AllByRecursion (IsKeptIn now) members
kept_there set now members h =
    weaker (IsKeptIn (chosen_lists set now)) (IsKeptIn now) members (λ x k. one_kept_there set now x (committed_is_named set now (commit_of x) (kept_has (chosen_lists set now) x k)) k) h

-- ---- those of the whole that a set names

member_named : (set : Commits) (x : Kept) → is_member set x ≡ true → IsInSet set (commit_of x)
member_named set (kept.Batch bid tids values) e = e
member_named set (kept.Act tid m c value) e = e

named_member : (set : Commits) (x : Kept) → IsInSet set (commit_of x) → is_member set x ≡ true
named_member set (kept.Batch bid tids values) e = e
named_member set (kept.Act tid m c value) e = e

-- what is committed has whoever has a commit
committed_has : (logs : List (List Record)) (members : List Kept) → IsCommitted logs members → (k : Key) → HasCommit logs k → Contains (map commit_of members) k
committed_has logs members c keys.Genesis h = absurd h
committed_has logs members c (keys.Info bid) h = absurd h
committed_has logs members c (keys.Complete bid actor) h = absurd h
committed_has logs members c (keys.Commit bid) h = c.all_batches bid h
committed_has logs members c (keys.Prepare tid actor) h = absurd h
committed_has logs members c (keys.Act tid) h = c.all_acts tid h
committed_has logs members c keys.Checkpoint h = absurd h

-- of the whole a set within it leaves just its own
members_are : (set : Commits) (logs : List (List Record)) (whole : List Kept) → ((k : Key) → IsInSet set k → HasCommit logs k) → IsCommitted logs whole → (k : Key) → Contains (map commit_of (filter (is_member set) whole)) k ↔ IsInSet set k
members_are set logs whole there c k = (in_set, in_members)
  where
    in_set : Contains (map commit_of (filter (is_member set) whole)) k → IsInSet set k
    in_set h =
        let r = contains_unmap commit_of (filter (is_member set) whole) k h in
        subst (IsInSet set) r.2 (member_named set r.0 (all_contains (λ x. is_member set x ≡ true) (filter (is_member set) whole) r.0 (each_is (is_member set) whole) r.1))

    in_members : IsInSet set k → Contains (map commit_of (filter (is_member set) whole)) k
    in_members h =
        let r = contains_unmap commit_of whole k (committed_has logs whole c k (there k h)) in
        let on : is_member set r.0 ≡ true = named_member set r.0 (subst (IsInSet set) (sym r.2) h) in
        subst (Contains (map commit_of (filter (is_member set) whole))) r.2 (contains_map commit_of (filter (is_member set) whole) r.0 (in_filter (is_member set) whole r.0 r.1 on))

-- who stands ahead of whom by the set of all commits, and by the first states, does so in the lists
ahead_of : (now : List (List Record)) (first : List State) (there : Commits) → HasAllCommits now there → AreFirstStates now first → (j k : Key) → IsAheadOf first there now j k → StandsAhead now j k
ahead_of now first there has begun j k (a, h) = (a, ahead_alike (IsInSet there) (HasCommit now) (BeginsWith first) (IsFirstState now) has begun a j k (log_of now a) h)

ahead_in : (now : List (List Record)) (first : List State) (there : Commits) → HasAllCommits now there → AreFirstStates now first → (j k : Key) → StandsAhead now j k → IsAheadOf first there now j k
ahead_in now first there has begun j k (a, h) =
    (a, ahead_alike (HasCommit now) (IsInSet there) (IsFirstState now) (BeginsWith first) (λ i. ((has i).1, (has i).0)) (λ b s. ((begun b s).1, (begun b s).0)) a j k (log_of now a) h)

takes_those : (taken_before : List Key) (before now : List (List Record)) (first : List State) (taken there seen set : Commits) (members : List Key) → AreFirstStates now first
    → ((k : Key) → IsInSet taken k ↔ Contains taken_before k) → ((k : Key) → IsInSet seen k ↔ HasCommit before k) → ((k : Key) → Contains taken_before k → HasCommit before k) → HasAllCommits now there
    → Settles first there taken now seen set → IsSettled first there taken now set → ((k : Key) → Contains members k ↔ IsInSet set k) → TakesMost taken_before before now members
takes_those taken_before before now first taken there seen set members begun is_taken is_seen was has settles settled are = record {
  may = record {
    stay = λ k t. (are k).1 (settles.stay k ((is_taken k).1 t) ((is_seen k).1 (was k t)));
    seen = λ k m new. (is_seen k).0 (settles.within k ((are k).0 m));
    rest_on = λ k j m new ahead c. elim (named_or_not set j) [
      | inl on ↦ (are j).1 on
      | inr off ↦ absurd (settled k ((are k).0 m, λ t. new ((is_taken k).0 t)) (j, ahead_in now first there has begun j k ahead, ((has j).1 c, off)))
    ];
  };
  greatest = λ others may k o.
      (are k).1 (settles.kept others
      (λ i j m new ahead c. may.rest_on i j m (λ t. new ((is_taken i).1 t)) (ahead_of now first there has begun j i ahead) ((has j).0 c))
      (λ i m. (is_seen i).1 (elim (named_or_not taken i) [
        | inl t ↦ was i ((is_taken i).0 t)
        | inr t ↦ may.seen i m (λ c. t ((is_taken i).1 c))
      ]))
      k o);
}

-- ---- states

found_states : {X : Type 0} (get : X → List State) (set : Commits) (now : List (List Record)) (members : List Kept) (first : Option X) (found : Option (List State))
    → ((k : Key) → IsInSet set k → HasCommit now k) → ((k : Key) → Contains (map commit_of members) k ↔ IsInSet set k)
    → MatchOption first (geneses now ≡ []) (λ x. AreBegunWith now (get x)) → MatchOption first (found ≡ None) (λ x. LeavesStates set now (get x) found)
    → AreFoundStates now members found
found_states get set now members None found there are b s = inl (b, s)
found_states get set now members (Some x) found there are b (states, e, told) =
    let ways = both_ways set now there in
    inr (
      get x,
      states,
      b,
      e,
      states_alike (batches_of set) (acts_of set) (chosen_lists set now) now (chosen_alike set now) (map commit_of members)
          (λ bid. ((λ h. (are (keys.Commit bid)).1 ((ways (keys.Commit bid)).0 h)), λ h. (ways (keys.Commit bid)).1 ((are (keys.Commit bid)).0 h)))
          (λ tid. ((λ h. (are (keys.Act tid)).1 ((ways (keys.Act tid)).0 h)), λ h. (ways (keys.Act tid)).1 ((are (keys.Act tid)).0 h)))
          (get x) states told,
    )

-- ---- what is lacking

-- of those whose commits were seen the lists have just these
seen_batches : (seen : Commits) (before now : List (List Record)) → ((k : Key) → IsInSet seen k ↔ HasCommit before k) → ((k : Key) → HasCommit before k → HasCommit now k)
    → (bid : Bid) → (IsIn before bid → batches_of seen bid.0 ≡ true) × (IsIn (chosen_lists seen now) bid ↔ IsIn before bid)
seen_batches seen before now is_seen grown bid =
    let w = both_ways seen now (λ k h. grown k ((is_seen k).0 h)) (keys.Commit bid) in
    let s = is_seen (keys.Commit bid) in
    (s.1, ((λ h. s.0 (w.0 h)), λ h. w.1 (s.1 h)))

seen_acts : (seen : Commits) (before now : List (List Record)) → ((k : Key) → IsInSet seen k ↔ HasCommit before k) → ((k : Key) → HasCommit before k → HasCommit now k)
    → (tid : Tid) → (IsActIn before tid → acts_of seen tid.0 ≡ true) × (IsActIn (chosen_lists seen now) tid ↔ IsActIn before tid)
seen_acts seen before now is_seen grown tid =
    let w = both_ways seen now (λ k h. grown k ((is_seen k).0 h)) (keys.Act tid) in
    let s = is_seen (keys.Act tid) in
    (s.1, ((λ h. s.0 (w.0 h)), λ h. w.1 (s.1 h)))

seen_whole : (seen : Commits) (before now : List (List Record)) (whole : List Kept) → AreWhollyCommitted (chosen_lists seen now) whole → ((k : Key) → IsInSet seen k ↔ HasCommit before k) → ((k : Key) → HasCommit before k → HasCommit now k) → AreSeenWhole before now
seen_whole seen before now whole r is_seen grown =
    let al = chosen_alike seen now in
    let batches = seen_batches seen before now is_seen grown in
    let acts = seen_acts seen before now is_seen grown in
    record {
      batches = batches_whole (batches_of seen) (acts_of seen) (chosen_lists seen now) now al before batches acts r.whole;
      acts = acts_whole (batches_of seen) (acts_of seen) (chosen_lists seen now) now al before batches acts r.acts_whole;
      valued = all_valued (batches_of seen) (acts_of seen) (chosen_lists seen now) now al before batches acts r.valued;
    }

-- ---- the whole

-- what holds where there is a Genesis
pub range_of : {X : Type 0} (get : X → List State) (rs : List Record) (first : Option X) (x : X) → first ≡ Some x → MatchOption first ⊤ (λ f. AllByRecursion (IsInRange (length (get f))) rs) → AllByRecursion (IsInRange (length (get x))) rs
range_of {X} get rs first x e h = subst (λ (z : Option X). MatchOption z ⊤ (λ f. AllByRecursion (IsInRange (length (get f))) rs)) e h

-- what the first parts of a round tell of each other
pub record Parts (before : List (List Record)) (members : List Kept) (lists now : List (List Record)) (seen : Commits) : Type 0 where
  pub some : 0 < length lists
  pub as_many : length lists ≡ length before
  pub are_in : AreInLists before members
  pub grow : GrowFrom before lists
  pub is_plain : now ≡ plain_lists lists
  pub is_seen : HasAllCommits before seen

-- its Genesis, if there is one
abbrev pub IsFirst : {X : Type 0} (get : X → List State) (now : List (List Record)) (first : Option X) → Type 0
IsFirst get now first = MatchOption first (geneses now ≡ []) (λ x. AreBegunWith now (get x))

pub readable : {X : Type 0} (get : X → List State) (now : List (List Record)) (first : Option X) → IsFirst get now first → AreReadable now
readable get now None b = inl b
readable get now (Some x) b = inr (get x, b)

seen_plain : (before : List (List Record)) (seen : Commits) → HasAllCommits before seen → (k : Key) → IsInSet seen k ↔ HasCommit (plain_lists before) k
seen_plain before seen h k = ((λ n. (commit_of_plain before k).1 ((h k).0 n)), λ n. (h k).1 ((commit_of_plain before k).0 n))

grown_plain : (before lists : List (List Record)) → length lists ≡ length before → 0 < length lists → GrowFrom before lists → (k : Key) → HasCommit (plain_lists before) k → HasCommit (plain_lists lists) k
grown_plain before lists len some grow k h = (commit_of_plain lists k).1 (commit_grown before lists len some grow k ((commit_of_plain before k).0 h))

-- the states that are handed on are the first ones, as far as the lists tell them
are_first : {X : Type 0} (get : X → List State) (now : List (List Record)) (first : Option X) (begun : List State) → IsFirst get now first → MatchOption first (begun ≡ []) (λ x. begun ≡ get x) → AreFirstStates now begun
are_first get now None begun none e a s = (
  (λ h. let both : ◌≡◌ {A = Option State} None (Some s) = sym (ap (λ (z : List State). slice_get z a) e) ∙ h in absurd (cc both)),
  λ h. let both : ◌≡◌ {A = List Record} [] (Genesis (length now) h.0 ∷ []) = sym none ∙ h.1.one in absurd (cc both),
)
are_first get now (Some x) begun b e a s = (
  (λ h. (get x, b, sym (ap (λ (z : List State). slice_get z a) e) ∙ h)),
  λ h. ap (λ (z : List State). slice_get z a) (e ∙ one_begun now (get x) h.0 b h.1) ∙ h.2,
)

-- the rest of them, in lists without a checkpoint
pub record Rest {X : Type 0} (get : X → List State) (members : List Kept) (now : List (List Record)) (taken seen set : Commits) (first : Option X) (begun : List State) (whole : List Kept) (f : Found) : Type 0 where
  pub begins : IsFirst get now first
  pub begun_is : MatchOption first (begun ≡ []) (λ x. begun ≡ get x)
  pub whole_is : AreWhollyCommitted (chosen_lists seen now) whole
  pub is_taken : HasMembers members taken
  pub settled : IsSettledFrom now begun taken seen set
  pub states : MatchOption first (f.states ≡ None) (λ x. LeavesStates set now (get x) f.states)
  pub those : f.members ≡ filter (is_member set) whole

found_plain : {X : Type 0} (get : X → List State) (before : List (List Record)) (members : List Kept) (lists : List (List Record)) (taken seen set : Commits) (first : Option X) (begun : List State) (whole : List Kept) (f : Found)
    → Parts before members lists (plain_lists lists) seen → Rest get members (plain_lists lists) taken seen set first begun whole f → IsFound before members lists f
found_plain get before members lists taken seen set first begun whole f p h =
    let is_seen = seen_plain before seen p.is_seen in
    let grown = grown_plain before lists p.as_many p.some p.grow in
    let seen_there : (k : Key) → IsInSet seen k → HasCommit (plain_lists lists) k = λ k n. grown k ((is_seen k).0 n) in
    let within : (k : Key) → IsInSet set k → IsInSet seen k = h.settled.settles.within in
    let there : (k : Key) → IsInSet set k → HasCommit (plain_lists lists) k = λ k n. seen_there k (within k n) in
    let chosen_there : (k : Key) → IsInSet set k → HasCommit (chosen_lists seen (plain_lists lists)) k = λ k n. (both_ways seen (plain_lists lists) seen_there k).1 (within k n) in
    let are = members_are set (chosen_lists seen (plain_lists lists)) whole chosen_there h.whole_is.committed in
    let was : (k : Key) → Contains (map commit_of members) k → HasCommit (plain_lists before) k = λ k c. (commit_of_plain before k).1 (p.are_in k c) in
    let taken_so : TakesMost (map commit_of members) (plain_lists before) (plain_lists lists) (map commit_of (filter (is_member set) whole)) =
    takes_those (map commit_of members) (plain_lists before) (plain_lists lists) begun taken h.settled.there seen set (map commit_of (filter (is_member set) whole)) (are_first get (plain_lists lists) first begun h.begins h.begun_is) h.is_taken is_seen was h.settled.has h.settled.settles h.settled.settled are in
    let all_kept : AllByRecursion (IsKeptIn (plain_lists lists)) (filter (is_member set) whole) =
    all_filter (IsKeptIn (plain_lists lists)) (is_member set) whole (kept_there seen (plain_lists lists) whole h.whole_is.committed.each) in
    record {
      grow = p.grow;
      readable = readable get (plain_lists lists) first h.begins;
      whole = seen_whole seen (plain_lists before) (plain_lists lists) whole h.whole_is is_seen grown;
      members = subst (AreMembers (map commit_of members) (plain_lists before) (plain_lists lists)) (sym h.those)
          (record { takes = taken_so; ascend = AllPairs-filter ComesBefore (is_member set) whole h.whole_is.committed.ascend; each = all_kept });
      states = subst (λ (z : List Kept). AreFoundStates (plain_lists lists) z f.states) (sym h.those)
          (found_states get set (plain_lists lists) (filter (is_member set) whole) first f.states there are h.begins h.states);
      are_in = subst (AreInLists lists) (sym h.those) (λ k c. (commit_of_plain lists k).0 (there k ((are k).0 c)));
    }

pub is_found : {X : Type 0} (get : X → List State) (before : List (List Record)) (members : List Kept) (lists now : List (List Record)) (taken seen set : Commits) (first : Option X) (begun : List State) (whole : List Kept) (f : Found)
    → Parts before members lists now seen → Rest get members now taken seen set first begun whole f → IsFound before members lists f
is_found get before members lists now taken seen set first begun whole f p h =
    found_plain get before members lists taken seen set first begun whole f (subst (λ (z : List (List Record)). Parts before members lists z seen) p.is_plain p)
    (subst (λ (z : List (List Record)). Rest get members z taken seen set first begun whole f) p.is_plain h)

-- ---- refusals

lacks_plain : (before : List (List Record)) (members : List Kept) (lists : List (List Record)) (seen : Commits) (cause : FollowNo) → Parts before members lists (plain_lists lists) seen → AreReadable (plain_lists lists)
    → IsNotWhole (chosen_lists seen (plain_lists lists)) cause → IsNotFollowed before lists cause
lacks_plain before members lists seen (Back log) p r h = absurd h
lacks_plain before members lists seen TwoGenesis p r h = absurd h
lacks_plain before members lists seen (LogCount count found) p r h = absurd h
lacks_plain before members lists seen (Range k log) p r h = absurd h
lacks_plain before members lists seen (Missing k log) p r lack =
    let is_seen = seen_plain before seen p.is_seen in
    let grown = grown_plain before lists p.as_many p.some p.grow in (
      p.grow,
      r,
      lacking_alike (batches_of seen) (acts_of seen) (chosen_lists seen (plain_lists lists)) (plain_lists lists) (chosen_alike seen (plain_lists lists)) (plain_lists before)
          (seen_batches seen (plain_lists before) (plain_lists lists) is_seen grown) (seen_acts seen (plain_lists before) (plain_lists lists) is_seen grown) k log lack,
    )
lacks_plain before members lists seen (Values k log count found) p r (none, lack) =
    let is_seen = seen_plain before seen p.is_seen in
    let grown = grown_plain before lists p.as_many p.some p.grow in
    let al = chosen_alike seen (plain_lists lists) in
    let batches = seen_batches seen (plain_lists before) (plain_lists lists) is_seen grown in
    let acts = seen_acts seen (plain_lists before) (plain_lists lists) is_seen grown in (
      p.grow,
      r,
      (
        batches_whole (batches_of seen) (acts_of seen) (chosen_lists seen (plain_lists lists)) (plain_lists lists) al (plain_lists before) batches acts none.0,
        acts_whole (batches_of seen) (acts_of seen) (chosen_lists seen (plain_lists lists)) (plain_lists lists) al (plain_lists before) batches acts none.1,
      ),
      lacking_values_alike (batches_of seen) (acts_of seen) (chosen_lists seen (plain_lists lists)) (plain_lists lists) al (plain_lists before) batches acts k log count found lack,
    )
lacks_plain before members lists seen Memory p r h = tt

pub lacks : (before : List (List Record)) (members : List Kept) (lists now : List (List Record)) (seen : Commits) (cause : FollowNo) → Parts before members lists now seen → AreReadable now
    → IsNotWhole (chosen_lists seen now) cause → IsNotFollowed before lists cause
lacks before members lists now seen cause p r h =
    lacks_plain before members lists seen cause (subst (λ (z : List (List Record)). Parts before members lists z seen) p.is_plain p) (subst AreReadable p.is_plain r)
    (subst (λ (z : List (List Record)). IsNotWhole (chosen_lists seen z) cause) p.is_plain h)

-- ---- and the follower that knows it

newer_has : (now : List (List Record)) (members : List Kept) (found old new : Option (List State)) → AreFoundStates now members found → new ≡ newer_states found old → HasStates now members old new
newer_has now members found old new (inl p) e = inl (p.0, e ∙ ap (λ (z : Option (List State)). newer_states z old) p.1)
newer_has now members found old new (inr p) e = inr (p.0, p.1, p.2, e ∙ ap (λ (z : Option (List State)). newer_states z old) p.3, p.4)

pub round_made : (f g : Following) (lists : List (List Record)) (found : Found) → IsFound f.before f.members lists found → g.before ≡ lists → g.members ≡ found.members → g.states ≡ newer_states found.states f.states → IsRound f lists g
round_made f g lists found h before members states = record {
  grow = h.grow;
  readable = h.readable;
  whole = h.whole;
  before = before;
  members = subst (AreMembers (map commit_of f.members) (plain_lists f.before) (plain_lists lists)) (sym members) h.members;
  states = newer_has (plain_lists lists) g.members found.states f.states g.states (subst (λ (z : List Kept). AreFoundStates (plain_lists lists) z found.states) (sym members) h.states) states;
}
