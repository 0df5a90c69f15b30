-- A round over lists that fold is not refused.
use Rattle.std.proofs.Common.{◌≡◌, ℕ, zero, suc, ◌%◌, inl, inr, List, [], ◌∷◌, ◌++◌, length, map, refl, sym, ap, subst, ◌∙◌}
use Rattle.std.proofs.lemmas.List.{append-nil}
use Rattle.std.specs.List.{AllByRecursion}
use Rattle.snap_base.specs.declared.ids.Bid.{Bid}
use Rattle.snap_base.specs.declared.ids.Tid.{Tid}
use Rattle.txn_records.specs.declared.keys.Key.{Key}
use Rattle.txn_records.specs.declared.keys.Key.TheVariants as keys
use Rattle.txn_records.specs.declared.records.Record.{Record}
use Rattle.snap_recover.specs.declared.causes.LogCause.{LogCause}
use Rattle.snap_recover.specs.declared.causes.LogCause.TheVariants as cause
use Rattle.snap_recover.specs.declared.refusals.RecoverNo.{RecoverNo}
use Rattle.snap_recover.specs.declared.refusals.RecoverNo.TheVariants as recover
use Rattle.snap_recover.specs.Logs.{HasKey, log_of}
use Rattle.snap_recover.specs.Opening.{IsActIn, IsIn}
use Rattle.snap_recover.specs.Refusals.{IsRefused}
use Rattle.snap_recover.proofs.Lists.{contains_none}
use Rattle.log_compact.specs.declared.folds.Folded.{Folded}
use Rattle.log_compact.specs.declared.refusals.FoldNo.TheVariants as fold
use Rattle.log_compact.specs.Folds.{RefusedAreNotFolded}
use Rattle.log_compact.specs.Points.{plains}
use Rattle.log_compact.specs.Sets.{IsFolded, plain_lists}
use Rattle.snap_follow.specs.Refusals.{IsFirstSeenLacking, IsFirstSeenLackingValues, IsNoneMissing}
use Rattle.snap_follow.specs.Rounds.{AreReadable, StartsWith, list_at}
use Rattle.log_following.specs.FollowLaws.{AreAlike}
use Rattle.log_following.specs.Rounds.{IsRoundCause, MayBeRead}

-- ---- lists of nothing

abbrev AreEmpty : List (List Record) → Type 0
AreEmpty lists = AllByRecursion (λ (rs : List Record). rs ≡ []) lists

empty_at : (lists : List (List Record)) (log : ℕ) → AreEmpty lists → list_at lists log ≡ []
empty_at [] log all = refl
empty_at (rs ∷ lists) zero all = all.0
empty_at (rs ∷ lists) (suc log) all = empty_at lists log all.1

plains_empty : (lists : List (List Record)) → AreEmpty lists → AreEmpty (map plains lists)
plains_empty [] all = tt
plains_empty (rs ∷ lists) all = (ap plains all.0, plains_empty lists all.1)

plain_empty : (lists : List (List Record)) → AreEmpty lists → AreEmpty (plain_lists lists)
plain_empty [] all = tt
plain_empty (rs ∷ lists) all = (subst (λ (l : List Record). list_at (plain_lists (l ∷ lists)) 0 ≡ []) (sym all.0) refl, plains_empty lists all.1)

has_none : (lists : List (List Record)) (n : ℕ) (k : Key) → AreEmpty lists → HasKey (log_of lists n) k → ⊥
has_none lists n k all has = contains_none k (subst (λ (rs : List Record). HasKey rs k) (empty_at lists (n % length lists) all) has)

no_batch : (lists : List (List Record)) (bid : Bid) → AreEmpty lists → IsIn (plain_lists lists) bid → ⊥
no_batch lists bid all has = has_none (plain_lists lists) bid.0 (keys.Commit bid) (plain_empty lists all) has

no_act : (lists : List (List Record)) (tid : Tid) → AreEmpty lists → IsActIn (plain_lists lists) tid → ⊥
no_act lists tid all has = has_none (plain_lists lists) tid.0 (keys.Act tid) (plain_empty lists all) has

-- ---- what the round before read is there

begins : (before lists : List (List Record)) (log : ℕ) → AreAlike before lists → StartsWith (list_at lists log) (list_at before log)
begins before lists log (inl same) = ([], sym (append-nil (list_at before log) ∙ ap (λ (ls : List (List Record)). list_at ls log) same))
begins before lists log (inr none) = (list_at lists log, ap (λ (l : List Record). l ++ list_at lists log) (sym (empty_at before log none)))

-- of lists of which the round before read nothing it lacks nothing
none_lacking : (before lists : List (List Record)) (k : Key) (log : ℕ) → AreEmpty before → IsFirstSeenLacking (plain_lists before) (plain_lists lists) k log → ⊥
none_lacking before lists k log none (inl batch) = no_batch before batch.0 none batch.1
none_lacking before lists k log none (inr act) = no_act before act.1.0 none act.1.1

module _ (never : RefusedAreNotFolded) (lists : List (List Record)) (f : Folded) (on : IsFolded lists f) where
  not_recovery : MayBeRead lists → (why : RecoverNo) → ¬ (why ≡ recover.Memory) → IsRefused (plain_lists lists) why → ⊥
  not_recovery may why known is = never lists (fold.Recover why) f (λ e. cc) (may.0, may.1, known, is) on

  lacks_none : (before : List (List Record)) (k : Key) (log : ℕ) → AreAlike before lists → MayBeRead lists → AreReadable (plain_lists lists)
      → IsFirstSeenLacking (plain_lists before) (plain_lists lists) k log → ⊥
  lacks_none before k log alike may (inl none) lacks = not_recovery may recover.NoGenesis (λ e. cc) none
  lacks_none before k log (inl same) may (inr begun) lacks =
      not_recovery may (recover.Missing k log) (λ e. cc) (begun.0, begun.1, subst (λ (ls : List (List Record)). IsFirstSeenLacking (plain_lists ls) (plain_lists lists) k log) same lacks)
  lacks_none before k log (inr none) may (inr begun) lacks = none_lacking before lists k log none lacks

  lacks_no_values : (before : List (List Record)) (k : Key) (log kept found : ℕ) → AreAlike before lists → MayBeRead lists → AreReadable (plain_lists lists)
      → IsNoneMissing (plain_lists before) (plain_lists lists) → IsFirstSeenLackingValues (plain_lists before) (plain_lists lists) k log kept found → ⊥
  lacks_no_values before k log kept found alike may (inl none) whole lacks = not_recovery may recover.NoGenesis (λ e. cc) none
  lacks_no_values before k log kept found (inl same) may (inr begun) whole lacks =
      not_recovery may (recover.Values k log kept found) (λ e. cc) (
        begun.0,
        begun.1,
        subst (λ (ls : List (List Record)). IsNoneMissing (plain_lists ls) (plain_lists lists)) same whole,
        subst (λ (ls : List (List Record)). IsFirstSeenLackingValues (plain_lists ls) (plain_lists lists) k log kept found) same lacks,
      )
  lacks_no_values before k log kept found (inr none) may (inr begun) whole lacks = no_batch before lacks.0 none lacks.1

  pub never_refused : (before : List (List Record)) (log : ℕ) (c : LogCause) → AreAlike before lists → IsRoundCause before lists log c → ⊥
  never_refused before log cause.NotALog alike why = why
  never_refused before log cause.Damage alike why = why
  never_refused before log cause.OldFormat alike why = why
  never_refused before log cause.BadRecord alike why = why
  never_refused before log cause.Stray alike why = never lists (fold.Stray log) f (λ e. cc) why on
  never_refused before log cause.Back alike why = why.1.is_back (begins before lists log alike)
  never_refused before log cause.NoGenesis alike why = why
  never_refused before log cause.TwoGenesis alike why = not_recovery why.1 recover.TwoGenesis (λ e. cc) why.2.1
  never_refused before log (cause.LogCount kept found) alike why = not_recovery why.1 (recover.LogCount kept found) (λ e. cc) why.2.1
  never_refused before log (cause.Range k) alike (inl why) = never lists (fold.Range k log) f (λ e. cc) why on
  never_refused before log (cause.Range k) alike (inr why) = not_recovery why.0 (recover.Range k log) (λ e. cc) why.1.1
  never_refused before log (cause.Missing k) alike why = lacks_none before k log alike why.0 why.1.1 why.1.2
  never_refused before log (cause.Values k kept found) alike why = lacks_no_values before k log kept found alike why.0 why.1.1 why.1.2 why.1.3
  never_refused before log (cause.Spent number) alike why = why
  never_refused before log (cause.Differs what kept text) alike why = why
