-- Lists that differ in nothing that counts tell the same of those that count.
use Rattle.std.proofs.Common.{◌≡◌, ℕ, ℤ, ◌+◌, ◌%◌, inl, inr, Bool, true, Option, List, [], ◌∷◌, ◌++◌, refl, sym, ap, subst, ◌∙◌}
use Rattle.std.specs.Prelude.{◌↔◌, Contains}
use Rattle.std.specs.List.{AllZip, enumerate_from}
use Rattle.snap_base.specs.declared.ids.ActorId.{ActorId}
use Rattle.snap_base.specs.declared.ids.Bid.{Bid}
use Rattle.snap_base.specs.declared.ids.Tid.{Tid}
use Rattle.snap_base.specs.declared.transactions.State.{State}
use Rattle.snap_base.proofs.Lists.{weaker}
use Rattle.txn_records.specs.declared.records.Record.{Record}
use Rattle.txn_records.specs.declared.records.Record.TheVariants.{BatchInfo, BatchComplete, BatchCommit, ActPrepare, ActCommit, BatchDone, ActDone}
use Rattle.txn_records.specs.declared.keys.Key.{Key}
use Rattle.txn_records.specs.declared.keys.Key.TheVariants as keys
use Rattle.txn_records.specs.Records.{key}
use Rattle.snap_recover.specs.declared.openings.Kept.TheVariants as kept
use Rattle.snap_recover.specs.Logs.{log_of}
use Rattle.snap_recover.specs.Opening.{IsIn, IsInfoOf, IsCommitOf, HasItsValues, HasCompleted, IsBatchWhole, IsActIn, act_record, IsActOf, HasPrepared, IsActWhole, Counts, IsStateOf, AreStatesOf, IsKeptIn}
use Rattle.snap_recover.specs.Passes.{StateOver}
use Rattle.snap_recover.specs.Refusals.{LacksInfo, LacksComplete, LacksPrepare, LacksValues, IsFirstBatchLacking, IsFirstActLacking, IsFirstLacking, IsFirstLackingValues}
use Rattle.snap_recover.proofs.StatesOver.{Agree, over_alike}
use Rattle.snap_recover.proofs.Lists.{all_of_each}
use Rattle.snap_follow.specs.Followed.{CountsFor, IsFollowedState, AreFollowedStates}
use Rattle.snap_follow.specs.Refusals.{IsFirstSeenBatchLacking, IsFirstSeenActLacking, IsFirstSeenLacking, AreSeenBatchesWhole, IsFirstSeenLackingValues}
use Rattle.snap_follow.proofs.Alike.{Keeps, matters, AreAlike, same_length, last_alike, key_alike, none_alike}

-- ---- what counts

info_counts : (B T : ℕ → Bool) (bid : Bid) → Keeps (matters B T) (λ r. key r ≡ keys.Info bid)
info_counts B T bid (BatchInfo b actors tids) e = refl
info_counts B T bid r e = absurd (cc e)

complete_counts : (B T : ℕ → Bool) (bid : Bid) (actor : ActorId) → Keeps (matters B T) (λ r. key r ≡ keys.Complete bid actor)
complete_counts B T bid actor (BatchComplete b a state) e = refl
complete_counts B T bid actor r e = absurd (cc e)

prepare_counts : (B T : ℕ → Bool) (tid : Tid) (actor : ActorId) → Keeps (matters B T) (λ r. key r ≡ keys.Prepare tid actor)
prepare_counts B T tid actor (ActPrepare t a state) e = refl
prepare_counts B T tid actor r e = absurd (cc e)

commit_counts : (B T : ℕ → Bool) (bid : Bid) → B bid.0 ≡ true → Keeps (matters B T) (λ r. key r ≡ keys.Commit bid)
commit_counts B T bid on (BatchCommit b) e = let same : bid ≡ b = cc e in subst (λ (z : Bid). B z.0 ≡ true) same on
commit_counts B T bid on (BatchDone b values) e = let same : bid ≡ b = cc e in subst (λ (z : Bid). B z.0 ≡ true) same on
commit_counts B T bid on r e = absurd (cc e)

act_counts : (B T : ℕ → Bool) (tid : Tid) → T tid.0 ≡ true → Keeps (matters B T) (λ r. key r ≡ keys.Act tid)
act_counts B T tid on (ActCommit t m c actors) e = let same : tid ≡ t = cc e in subst (λ (z : Tid). T z.0 ≡ true) same on
act_counts B T tid on (ActDone t m c value actors) e = let same : tid ≡ t = cc e in subst (λ (z : Tid). T z.0 ≡ true) same on
act_counts B T tid on r e = absurd (cc e)

told_counts : (B T : ℕ → Bool) (members : List Key) (a : ℕ) → Keeps (matters B T) (CountsFor members a)
told_counts B T members a (BatchComplete b actor state) h = refl
told_counts B T members a (ActPrepare t actor state) h = refl
told_counts B T members a r h = absurd h.2

-- ---- one batch, and one undeclared transaction

module _ (B T : ℕ → Bool) (xs ys : List (List Record)) (al : AreAlike B T xs ys) where
  pub in_alike : (bid : Bid) → B bid.0 ≡ true → IsIn xs bid → IsIn ys bid
  in_alike bid on h = key_alike B T (keys.Commit bid) (commit_counts B T bid on) xs ys al bid.0 h

  pub act_in_alike : (tid : Tid) → T tid.0 ≡ true → IsActIn xs tid → IsActIn ys tid
  act_in_alike tid on h = key_alike B T (keys.Act tid) (act_counts B T tid on) xs ys al tid.0 h

  info_alike : (bid : Bid) (actors : List ActorId) (tids : List Tid) → IsInfoOf xs bid actors tids → IsInfoOf ys bid actors tids
  info_alike bid actors tids h = last_alike B T (λ r. key r ≡ keys.Info bid) (info_counts B T bid) xs ys al bid.0 (BatchInfo bid actors tids) h

  commit_alike : (bid : Bid) (r : Record) → B bid.0 ≡ true → IsCommitOf xs bid r → IsCommitOf ys bid r
  commit_alike bid r on h = last_alike B T (λ x. key x ≡ keys.Commit bid) (commit_counts B T bid on) xs ys al bid.0 r h

  act_alike : (tid : Tid) (m : Bid) (c : ℕ) (value : Option ℤ) (actors : List ActorId) → T tid.0 ≡ true → IsActOf xs tid m c value actors → IsActOf ys tid m c value actors
  act_alike tid m c value actors on h = last_alike B T (λ r. key r ≡ keys.Act tid) (act_counts B T tid on) xs ys al tid.0 (act_record tid m c value actors) h

  completed_alike : (bid : Bid) (actor : ActorId) → HasCompleted xs bid actor → HasCompleted ys bid actor
  completed_alike bid actor h = key_alike B T (keys.Complete bid actor) (complete_counts B T bid actor) xs ys al actor.0 h

  prepared_alike : (tid : Tid) (actor : ActorId) → HasPrepared xs tid actor → HasPrepared ys tid actor
  prepared_alike tid actor h = key_alike B T (keys.Prepare tid actor) (prepare_counts B T tid actor) xs ys al actor.0 h

  pub whole_alike : (bid : Bid) → IsBatchWhole xs bid → IsBatchWhole ys bid
  whole_alike bid (actors, tids, info, all) = (actors, tids, info_alike bid actors tids info, weaker (HasCompleted xs bid) (HasCompleted ys bid) actors (completed_alike bid) all)

  pub act_whole_alike : (tid : Tid) → T tid.0 ≡ true → IsActWhole xs tid → IsActWhole ys tid
  act_whole_alike tid on (m, c, value, actors, act, all) = (m, c, value, actors, act_alike tid m c value actors on act, weaker (HasPrepared xs tid) (HasPrepared ys tid) actors (prepared_alike tid) all)

  pub valued_alike : (bid : Bid) → B bid.0 ≡ true → HasItsValues xs bid → HasItsValues ys bid
  valued_alike bid on h = record {
    actors = h.actors;
    tids = h.tids;
    commit = h.commit;
    info_is = info_alike bid h.actors h.tids h.info_is;
    commit_is = commit_alike bid h.commit on h.commit_is;
    fits = h.fits;
  }

  pub kept_batch_alike : (bid : Bid) (tids : List Tid) (values : List ℤ) → B bid.0 ≡ true → IsKeptIn xs (kept.Batch bid tids values) → IsKeptIn ys (kept.Batch bid tids values)
  kept_batch_alike bid tids values on h = (
    in_alike bid on h.0,
    (h.1.0, info_alike bid h.1.0 tids h.1.1),
    (h.2.0, commit_alike bid h.2.0 on h.2.1, h.2.2),
  )

  pub kept_act_alike : (tid : Tid) (m : Bid) (c : ℕ) (value : Option ℤ) → T tid.0 ≡ true → IsKeptIn xs (kept.Act tid m c value) → IsKeptIn ys (kept.Act tid m c value)
  kept_act_alike tid m c value on h = (h.0, act_alike tid m c value h.0 on h.1)

  -- ---- states

  pub state_alike : (members : List Key) → ((bid : Bid) → IsIn xs bid ↔ Contains members (keys.Commit bid)) → ((tid : Tid) → IsActIn xs tid ↔ Contains members (keys.Act tid))
      → (a : ℕ) (first s : State) → IsStateOf xs a first s → IsFollowedState members ys a first s
  state_alike members batches acts a first s h = over (over_alike (Counts xs a) (CountsFor members a) (log_of xs a) first s (all_of_each (Agree (Counts xs a) (CountsFor members a)) (log_of xs a) agree) h)
    where
      agree : (r : Record) → Agree (Counts xs a) (CountsFor members a) r
      agree (BatchComplete bid actor state) = ((λ p. (keys.Commit bid, (batches bid).0 p.1, (p.0, refl))), λ p. (p.2.0, (batches bid).1 (subst (Contains members) p.2.1 p.1)))
      agree (ActPrepare tid actor state) = ((λ p. (keys.Act tid, (acts tid).0 p.1, (p.0, refl))), λ p. (p.2.0, (acts tid).1 (subst (Contains members) p.2.1 p.1)))
      agree r = ((λ p. absurd p), λ p. absurd p.2)

      over : StateOver (CountsFor members a) (log_of xs a) first s → IsFollowedState members ys a first s
      over (inl (r, told, last)) = inl (r, told, last_alike B T (CountsFor members a) (told_counts B T members a) xs ys al a r last)
      over (inr (none, same)) = inr (none_alike B T (CountsFor members a) (told_counts B T members a) xs ys al a none, same)

pub each_state : (P Q : ℕ → State → State → Type 0) → ((a : ℕ) (x s : State) → P a x s → Q a x s) → (n : ℕ) (first states : List State)
    → AllZip (λ (x : ℕ × State) s. P x.0 x.1 s) (enumerate_from n first) states → AllZip (λ (x : ℕ × State) s. Q x.0 x.1 s) (enumerate_from n first) states
each_state P Q f n [] [] h = tt
each_state P Q f n [] (s ∷ states) h = elim h [ ]
each_state P Q f n (x ∷ first) [] h = elim h [ ]
each_state P Q f n (x ∷ first) (s ∷ states) h = (f n x s h.0, each_state P Q f (n + 1) first states h.1)

pub states_alike : (B T : ℕ → Bool) (xs ys : List (List Record)) → AreAlike B T xs ys → (members : List Key) → ((bid : Bid) → IsIn xs bid ↔ Contains members (keys.Commit bid)) → ((tid : Tid) → IsActIn xs tid ↔ Contains members (keys.Act tid))
    → (first states : List State) → AreStatesOf xs first states → AreFollowedStates members ys first states
states_alike B T xs ys al members batches acts first states h = each_state (IsStateOf xs) (IsFollowedState members ys) (state_alike B T xs ys al members batches acts) 0 first states h

-- ---- what is lacking

module _ (B T : ℕ → Bool) (xs ys : List (List Record)) (al : AreAlike B T xs ys) (before : List (List Record)) (batches : (bid : Bid) → (IsIn before bid → B bid.0 ≡ true) × (IsIn xs bid ↔ IsIn before bid)) (acts : (tid : Tid) → (IsActIn before tid → T tid.0 ≡ true) × (IsActIn xs tid ↔ IsActIn before tid)) where
  lacks_info : (bid : Bid) (k : Key) (log : ℕ) → LacksInfo xs bid k log → LacksInfo ys bid k log
  lacks_info bid k log (e, at, none) = (
    e,
    at ∙ ap (λ (n : ℕ). bid.0 % n) (same_length B T xs ys al),
    λ h. none (key_alike B T k (λ r q. info_counts B T bid r (q ∙ e)) ys xs (sym al) bid.0 h),
  )

  lacks_complete : (bid : Bid) (k : Key) (log : ℕ) → LacksComplete xs bid k log → LacksComplete ys bid k log
  lacks_complete bid k log (front, behind, actor, tids, info, all, e, at, none) = (
    front,
    behind,
    actor,
    tids,
    info_alike B T xs ys al bid (front ++ actor ∷ behind) tids info,
    weaker (HasCompleted xs bid) (HasCompleted ys bid) front (completed_alike B T xs ys al bid) all,
    e,
    at ∙ ap (λ (n : ℕ). actor.0 % n) (same_length B T xs ys al),
    λ h. none (completed_alike B T ys xs (sym al) bid actor h),
  )

  lacks_prepare : (tid : Tid) (k : Key) (log : ℕ) → T tid.0 ≡ true → LacksPrepare xs tid k log → LacksPrepare ys tid k log
  lacks_prepare tid k log on (front, behind, actor, m, c, value, act, all, e, at, none) = (
    front,
    behind,
    actor,
    m,
    c,
    value,
    act_alike B T xs ys al tid m c value (front ++ actor ∷ behind) on act,
    weaker (HasPrepared xs tid) (HasPrepared ys tid) front (prepared_alike B T xs ys al tid) all,
    e,
    at ∙ ap (λ (n : ℕ). actor.0 % n) (same_length B T xs ys al),
    λ h. none (prepared_alike B T ys xs (sym al) tid actor h),
  )

  lacks_values : (bid : Bid) (k : Key) (log count found : ℕ) → B bid.0 ≡ true → LacksValues xs bid k log count found → LacksValues ys bid k log count found
  lacks_values bid k log count found on (actors, tids, values, info, commit, e, f, ne, is, at) = (
    actors,
    tids,
    values,
    info_alike B T xs ys al bid actors tids info,
    commit_alike B T xs ys al bid (BatchDone bid values) on commit,
    e,
    f,
    ne,
    is,
    at ∙ ap (λ (n : ℕ). bid.0 % n) (same_length B T xs ys al),
  )

  batch_lacking : (k : Key) (log : ℕ) → IsFirstBatchLacking xs k log → IsFirstSeenBatchLacking before ys k log
  batch_lacking k log (bid, i, lower, lack) = (
    bid,
    (batches bid).1.0 i,
    (λ b low j. whole_alike B T xs ys al b (lower b low ((batches b).1.1 j))),
    elim lack [ inl h ↦ inl (lacks_info bid k log h) | inr h ↦ inr (lacks_complete bid k log h) ],
  )

  act_lacking : (k : Key) (log : ℕ) → IsFirstActLacking xs k log → IsFirstSeenActLacking before ys k log
  act_lacking k log (tid, i, lower, lack) = (
    tid,
    (acts tid).1.0 i,
    (λ t low j. act_whole_alike B T xs ys al t ((acts t).0 j) (lower t low ((acts t).1.1 j))),
    lacks_prepare tid k log ((acts tid).0 ((acts tid).1.0 i)) lack,
  )

  pub batches_whole : ((bid : Bid) → IsIn xs bid → IsBatchWhole xs bid) → AreSeenBatchesWhole before ys
  batches_whole all bid i = whole_alike B T xs ys al bid (all bid ((batches bid).1.1 i))

  pub acts_whole : ((tid : Tid) → IsActIn xs tid → IsActWhole xs tid) → (tid : Tid) → IsActIn before tid → IsActWhole ys tid
  acts_whole all tid i = act_whole_alike B T xs ys al tid ((acts tid).0 i) (all tid ((acts tid).1.1 i))

  pub all_valued : ((bid : Bid) → IsIn xs bid → HasItsValues xs bid) → (bid : Bid) → IsIn before bid → HasItsValues ys bid
  all_valued all bid i = valued_alike B T xs ys al bid ((batches bid).0 i) (all bid ((batches bid).1.1 i))

  pub lacking_alike : (k : Key) (log : ℕ) → IsFirstLacking xs k log → IsFirstSeenLacking before ys k log
  lacking_alike k log (inl h) = inl (batch_lacking k log h)
  lacking_alike k log (inr h) = inr (batches_whole h.0, act_lacking k log h.1)

  pub lacking_values_alike : (k : Key) (log count found : ℕ) → IsFirstLackingValues xs k log count found → IsFirstSeenLackingValues before ys k log count found
  lacking_values_alike k log count found (bid, i, lower, lack) = (
    bid,
    (batches bid).1.0 i,
    (λ b low j. valued_alike B T xs ys al b ((batches b).0 j) (lower b low ((batches b).1.1 j))),
    lacks_values bid k log count found ((batches bid).0 ((batches bid).1.0 i)) lack,
  )
