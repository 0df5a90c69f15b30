-- The log that is named where logs fold to nothing is one of them.
use Rattle.std.proofs.Common.{◌≡◌, ℕ, suc, ◌<◌, ◌≤◌, ◌%◌, inl, inr, List, [], ◌∷◌, ◌++◌, length, refl, ap, arith, length-append}
use Rattle.std.proofs.lemmas.List.{length-map}
use Rattle.std.proofs.Math.Nat.{mod-lt}
use Rattle.snap_base.specs.declared.transactions.State.{State}
use Rattle.txn_records.specs.declared.keys.Key.{Key}
use Rattle.txn_records.specs.declared.records.Record.{Record}
use Rattle.txn_records.specs.declared.records.Record.TheVariants.{Genesis}
use Rattle.snap_recover.specs.declared.refusals.RecoverNo.TheVariants as recover
use Rattle.snap_recover.specs.Logs.{geneses}
use Rattle.snap_recover.specs.Opening.{AreBegunWith}
use Rattle.snap_recover.specs.Refusals.{IsFirstLacking}
use Rattle.log_compact.specs.declared.refusals.FoldNo.{FoldNo}
use Rattle.log_compact.specs.declared.refusals.FoldNo.TheVariants as fold
use Rattle.log_compact.specs.Points.{plains}
use Rattle.log_compact.specs.Refusals.{IsNotFolded}
use Rattle.log_compact.specs.Sets.{plain_lists}
use Rattle.log_opening.specs.Found.{log_named}

plain_many : (lists : List (List Record)) → length (plain_lists lists) ≡ length lists
plain_many [] = refl
plain_many (rs ∷ lists) = ap (λ (n : ℕ). suc n) (length-map lists plains)

some_lists : (lists : List (List Record)) (first : List State) → AreBegunWith lists first → 0 < length lists
some_lists [] first is = absurd (let none : geneses [] ≡ Genesis 0 first ∷ [] = is.one in cc)
some_lists (rs ∷ lists) first is = omega arith

-- the log that a number falls to
fallen : (lists : List (List Record)) (first : List State) (n log : ℕ) → AreBegunWith lists first → log ≡ n % length lists → log ≤ length lists
fallen lists first n log is same = omega (arith, same, mod-lt n (some_lists lists first is))

lacking_below : (lists : List (List Record)) (first : List State) (k : Key) (log : ℕ) → AreBegunWith lists first → IsFirstLacking lists k log → log ≤ length lists
lacking_below lists first k log is (inl (bid, there, whole, inl info)) = fallen lists first _ log is info.1
lacking_below lists first k log is (inl (bid, there, whole, inr complete)) = fallen lists first _ log is complete.7
lacking_below lists first k log is (inr act) = fallen lists first _ log is act.1.3.9

pub named_below : (lists : List (List Record)) (no : FoldNo) → IsNotFolded lists no → log_named no ≤ length lists
named_below lists (fold.Stray log) why =
    let size = ap (λ (l : List (List Record)). length l) why.3 in
    omega (arith, why.4, size, length-append why.0 (why.2 ∷ why.1))
named_below lists (fold.Range k log) why = omega (arith, why.2)
named_below lists (fold.Recover recover.NoGenesis) why = omega arith
named_below lists (fold.Recover recover.TwoGenesis) why = omega arith
named_below lists (fold.Recover (recover.LogCount kept found)) why = omega arith
named_below lists (fold.Recover (recover.Range k log)) why =
    let at = why.3.3 in
    let size = ap (λ (l : List (List Record)). length l) at.4 in
    omega (arith, at.5, size, length-append at.0 ((at.2 ++ why.3.1 ∷ at.3) ∷ at.1), plain_many lists)
named_below lists (fold.Recover (recover.Missing k log)) why = omega (arith, lacking_below (plain_lists lists) why.3.0 k log why.3.1 why.3.2, plain_many lists)
named_below lists (fold.Recover (recover.Values k log kept found)) why =
    omega (arith, fallen (plain_lists lists) why.3.0 _ log why.3.1 why.3.3.3.9, plain_many lists)
named_below lists (fold.Recover recover.Memory) why = omega arith
named_below lists fold.Memory why = omega arith
