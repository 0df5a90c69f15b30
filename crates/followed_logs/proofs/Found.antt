-- What a follower's lists were before a round.
use Rattle.std.specs.Prelude.{◌≡◌, refl, ℕ, ◌%◌, ◌≤◌, true, Option, Some, None, List, [], ◌∷◌, map, Contains, zero, suc, slice_index_or, length}
use Rattle.std.specs.List.{AllByRecursion}
use Rattle.std.proofs.Common.{ap, subst, ◌∙◌}
use Rattle.snap_base.specs.declared.transactions.State.{State}
use Rattle.protocol.specs.Parts.{Who, OfBatch, OfAct}
use Rattle.protocol_records.specs.Crash.{is_in}
use Rattle.protocol_records.specs.SeveralRuns.{CutRun}
use Rattle.followed_runs.specs.FollowingRuns.{runs_read, runs_before}
use Rattle.txn_records.specs.declared.records.Record.{Record}
use Rattle.txn_records.specs.Records.{key}
use Rattle.snap_recover.proofs.Lists.{contains_none}
use Rattle.log_compact.specs.Points.{plains}
use Rattle.log_compact.specs.Sets.{plain_lists, point_in, without_point}
use Rattle.snap_follow.specs.Followed.{HasCommit}
use Rattle.snap_follow.specs.Rounds.{Following}
use Rattle.followed_logs.specs.OnRecords.{key_of, IsRunsFront, Finding, lists_found, reading_of, FollowRound, GoOnFollowing, known_then, found_last}
use Rattle.followed_logs.proofs.Written.{commit_in}
use Rattle.followed_logs.proofs.Fronts.{plain_front, plain_found, front_only}

-- the lists of its last round are what that one found, and there are none where there was no round yet
abbrev pub Found : {C : Type 0} (many : ℕ) (front : List Record) (xs : List (CutRun C)) → Following → Option (Finding xs) → Type 0
Found many front xs f None = AllByRecursion (λ rs. rs ≡ []) f.before
Found many front xs f (Some x) = f.before ≡ lists_found many front xs x

pub found_then : {C : Type 0} (many : ℕ) (front : List Record) (xs : List (CutRun C)) (f : Following) (o : Option (Finding xs)) (ys : List (FollowRound xs)) → Found many front xs f o → GoOnFollowing many front xs f o ys
    → Found many front xs (known_then xs f ys) (found_last xs o ys)
found_then many front xs f o [] h g = h
found_then many front xs f o (y ∷ ys) h g = found_then many front xs y.known (Some y.found) ys g.0.1.before g.1

-- ---- nothing is in the lists of one that has read nothing

plain_nothing : (lists : List (List Record)) → AllByRecursion (λ rs. rs ≡ []) lists → AllByRecursion (λ rs. rs ≡ []) (plain_lists lists)
plain_nothing [] h = tt
plain_nothing (rs ∷ lists) h = (ap (λ z. without_point z (point_in z)) h.0, rest lists h.1)
  where
    rest : (ls : List (List Record)) → AllByRecursion (λ rs. rs ≡ []) ls → AllByRecursion (λ rs. rs ≡ []) (map plains ls)
    rest [] k = tt
    rest (x ∷ ls) k = (ap plains k.0, rest ls k.1)

pub nothing_at : (lists : List (List Record)) (i : ℕ) → AllByRecursion (λ rs. rs ≡ []) lists → slice_index_or lists i [] ≡ []
nothing_at [] i h = refl
nothing_at (x ∷ xs) zero h = h.0
nothing_at (x ∷ xs) (suc i) h = nothing_at xs i h.1

none_has : (lists : List (List Record)) (w : Who) → AllByRecursion (λ rs. rs ≡ []) lists → HasCommit lists (key_of w) → ⊥
none_has lists (OfBatch k) h c = contains_none (key_of (OfBatch k)) (subst (λ rs. Contains (map key rs) (key_of (OfBatch k))) (nothing_at lists (k % length lists) h) c)
none_has lists (OfAct t) h c = contains_none (key_of (OfAct t)) (subst (λ rs. Contains (map key rs) (key_of (OfAct t))) (nothing_at lists (t % length lists) h) c)

-- of nobody a commit is in the lists of one that has read nothing
pub none_found : (lists : List (List Record)) (w : Who) → AllByRecursion (λ rs. rs ≡ []) lists → HasCommit (plain_lists lists) (key_of w) → ⊥
none_found lists w h c = none_has (plain_lists lists) w (plain_nothing lists h) c

-- whose commit is in its lists, of that it was read
pub was_read : {C : Type 0} (many : ℕ) (first : List State) (front : List Record) (xs : List (CutRun C)) (f : Following) (o : Option (Finding xs)) (w : Who) → 1 ≤ many → IsRunsFront many first front → Found many front xs f o
    → HasCommit (plain_lists f.before) (key_of w) → is_in many (runs_before xs (reading_of xs o)) w ≡ true
was_read many first front xs f None w some i h c = absurd (none_has (plain_lists f.before) w (plain_nothing f.before h) c)
was_read many first front xs f (Some x) w some i h c =
    commit_in many first (plain_front many first x.is_begun) (runs_read xs x.reading) w some (front_only many first x.is_begun some)
    (subst (λ ls. HasCommit ls (key_of w)) (ap plain_lists h ∙ plain_found many first front xs x i) c)
