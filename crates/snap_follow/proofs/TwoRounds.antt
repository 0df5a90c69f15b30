-- Two rounds over the same lists take all that are in.
use Rattle.std.proofs.Common.{inl, inr, List, map}
use Rattle.std.specs.List.{Contains}
use Rattle.txn_records.specs.declared.keys.Key.{Key}
use Rattle.txn_records.specs.Records.{key}
use Rattle.snap_recover.specs.Logs.{all_of}
use Rattle.snap_follow.specs.Followed.{HasCommit, MayTake}
use Rattle.snap_follow.specs.Laws.{TwoRoundsTakeAll}
use Rattle.snap_follow.proofs.Deciding.{among, has_commit, those, those_are, are_those}
use Rattle.snap_follow.proofs.Taking.{read_key}

pub two_rounds : TwoRoundsTakeAll
two_rounds taken now members there t k = (back, λ c. t.greatest all may k (are_those (HasCommit now) (has_commit now) (map key (all_of now)) k (read_key now k c) c))
  where
    back : Contains members k → HasCommit now k
    back h = elim (among taken k) [ inl i ↦ there k i | inr i ↦ t.may.seen k h i ]

    all : List Key
    all = those (HasCommit now) (has_commit now) (map key (all_of now))

    in_all : (j : Key) → HasCommit now j → Contains (those (HasCommit now) (has_commit now) (map key (all_of now))) j
    in_all j c = are_those (HasCommit now) (has_commit now) (map key (all_of now)) j (read_key now j c) c

    may : MayTake taken now now (those (HasCommit now) (has_commit now) (map key (all_of now)))
    may = record {
      stay = λ j i. in_all j (there j i);
      seen = λ j h n. (those_are (HasCommit now) (has_commit now) (map key (all_of now)) j h).1;
      rest_on = λ j i h n a c. in_all i c;
    }
