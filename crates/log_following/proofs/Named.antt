-- The log that is named where a round is refused is one of those in use.
use Rattle.std.proofs.Common.{◌≡◌, ℕ, suc, ◌<◌, ◌≤◌, ◌%◌, inl, inr, List, [], ◌∷◌, length, refl, ap, arith}
use Rattle.std.proofs.lemmas.List.{length-map}
use Rattle.std.proofs.Math.Nat.{mod-lt}
use Rattle.txn_records.specs.declared.keys.Key.{Key}
use Rattle.txn_records.specs.declared.records.Record.{Record}
use Rattle.snap_recover.specs.declared.refusals.RecoverNo.TheVariants as recover
use Rattle.log_compact.specs.declared.refusals.CheckpointNo.{CheckpointNo}
use Rattle.log_compact.specs.declared.refusals.CheckpointNo.TheVariants as checkpoint
use Rattle.log_compact.specs.declared.refusals.FoldNo.TheVariants as fold
use Rattle.log_compact.specs.Points.{plains}
use Rattle.log_compact.specs.Refusals.{IsCheckpointRefused}
use Rattle.log_compact.specs.Sets.{plain_lists}
use Rattle.log_opening.proofs.Folding.{named_below}
use Rattle.snap_follow.specs.declared.refusals.FollowNo.{FollowNo}
use Rattle.snap_follow.specs.declared.refusals.FollowNo.TheVariants as follow
use Rattle.snap_follow.specs.Refusals.{IsFirstSeenLacking, IsNotFollowed}
use Rattle.log_following.specs.Rounds.{MayBeRead, log_refused, stray_log}

pub stray_below : (lists : List (List Record)) (no : CheckpointNo) → IsCheckpointRefused lists no → stray_log no ≤ length lists
stray_below lists (checkpoint.Stray log) why = named_below lists (fold.Stray log) why
stray_below lists checkpoint.Range why = omega arith

plain_many : (lists : List (List Record)) → length (plain_lists lists) ≡ length lists
plain_many [] = refl
plain_many (rs ∷ lists) = ap (λ (n : ℕ). suc n) (length-map lists plains)

-- the log that a number falls to
fallen : (lists : List (List Record)) (n log : ℕ) → 1 ≤ length lists → log ≡ n % length (plain_lists lists) → log ≤ length lists
fallen lists n log some is =
    let more : 0 < length (plain_lists lists) = omega (arith, some, plain_many lists) in
    omega (arith, is, mod-lt n more, plain_many lists)

lacking_below : (before lists : List (List Record)) (k : Key) (log : ℕ) → 1 ≤ length lists → IsFirstSeenLacking before (plain_lists lists) k log → log ≤ length lists
lacking_below before lists k log some (inl (bid, there, whole, inl info)) = fallen lists _ log some info.1
lacking_below before lists k log some (inl (bid, there, whole, inr complete)) = fallen lists _ log some complete.7
lacking_below before lists k log some (inr act) = fallen lists _ log some act.1.3.9

pub refused_below : (before lists : List (List Record)) (no : FollowNo) → 1 ≤ length lists → MayBeRead lists → IsNotFollowed before lists no → log_refused no ≤ length lists
refused_below before lists (follow.Back log) some may why = omega (arith, why.low)
refused_below before lists follow.TwoGenesis some may why = omega arith
refused_below before lists (follow.LogCount kept found) some may why = omega arith
refused_below before lists (follow.Range k log) some may why = named_below lists (fold.Recover (recover.Range k log)) (may.0, may.1, (λ e. cc), why.1)
refused_below before lists (follow.Missing k log) some may why = lacking_below (plain_lists before) lists k log some why.2
refused_below before lists (follow.Values k log kept found) some may why = fallen lists _ log some why.3.3.9
refused_below before lists follow.Memory some may why = omega arith
