-- The states that logs of records recover to.
use Rattle.std.proofs.Common.{◌≡◌, ℕ, ◌+◌, ◌%◌, ◌≤◌, inl, inr, zero, suc, List, [], ◌∷◌, length, get_or, filter, refl, sym, ap, subst, arith}
use Rattle.std.proofs.lemmas.List.Elements.{recursion_from_All, All-from_recursion, All-filter}
use Rattle.std.specs.List.{AllByRecursion, AllZip, enumerate_from}
use Rattle.snap_base.specs.declared.transactions.State.{State}
use Rattle.snap_base.proofs.Lists.{all_join}
use Rattle.txn_records.specs.declared.records.Record.{Record}
use Rattle.txn_records.specs.declared.records.Record.TheVariants.{Genesis, BatchInfo, BatchComplete, BatchCommit, ActPrepare, ActCommit, BatchDone, ActDone, Checkpoint}
use Rattle.txn_records.specs.Records.{IsState, IsRecord, IsGenesis}
use Rattle.snap_recover.specs.declared.openings.Opening.{Opening}
use Rattle.snap_recover.specs.Logs.{all_of, is_genesis, states_in}
use Rattle.snap_recover.specs.Opening.{IsStateOf, IsRecovered}
use Rattle.snap_recover.proofs.Lists.{all_middle}

each_or : {X : Type 0} (P : X → Type 0) (xs : List X) (n : ℕ) (d : X) → AllByRecursion P xs → P d → P (get_or xs n d)
each_or P [] n d all none = none
each_or P (x ∷ xs) zero d all none = all.0
each_or P (x ∷ xs) (suc n) d all none = each_or P xs n d all.1 none

all_records : (logs : List (List Record)) → AllByRecursion (AllByRecursion IsRecord) logs → AllByRecursion IsRecord (all_of logs)
all_records [] are = tt
all_records (rs ∷ logs) are = all_join IsRecord rs (all_of logs) are.0 (all_records logs are.1)

genesis_is : (logs : List (List Record)) (o : Opening) (recovered : IsRecovered logs o) → AllByRecursion (AllByRecursion IsRecord) logs → IsGenesis (length logs) recovered.begun.0
genesis_is logs o recovered are =
    (subst (λ (l : List Record). AllByRecursion IsRecord l) recovered.begun.1.one
    (recursion_from_All IsRecord (filter is_genesis (all_of logs)) (All-filter is_genesis IsRecord (all_of logs) (All-from_recursion IsRecord (all_of logs) (all_records logs are))))).0

told_is : (r : Record) (s : State) → IsRecord r → states_in r ≡ s ∷ [] → IsState s
told_is (Genesis l t) s is e = absurd (cc)
told_is (BatchInfo b a t) s is e = absurd (cc)
told_is (BatchComplete b a t) s is e = let same : t ≡ s = cc in subst IsState same is.is_state
told_is (BatchCommit b) s is e = absurd (cc)
told_is (ActPrepare u a t) s is e = let same : t ≡ s = cc in subst IsState same is.is_state
told_is (ActCommit u m c a) s is e = absurd (cc)
told_is (BatchDone b v) s is e = absurd (cc)
told_is (ActDone u m c v a) s is e = absurd (cc)
told_is (Checkpoint v x y z p q ss) s is e = absurd (cc)

state_is : (logs : List (List Record)) (a : ℕ) (first s : State) → AllByRecursion (AllByRecursion IsRecord) logs → IsState first → IsStateOf logs a first s → IsState s
state_is logs a first s are is (inl (r, told, last)) =
    told_is r s
    (all_middle IsRecord last.0 r last.1
    (subst (λ (l : List Record). AllByRecursion IsRecord l) last.2 (each_or (AllByRecursion IsRecord) logs (a % length logs) [] are tt)))
    told
state_is logs a first s are is (inr same) = subst IsState (sym same.1) is

states_are : (logs : List (List Record)) (n : ℕ) (first states : List State) → AllByRecursion (AllByRecursion IsRecord) logs → AllByRecursion IsState first
    → AllZip (λ (x : ℕ × State) s. IsStateOf logs x.0 x.1 s) (enumerate_from n first) states → (length states ≡ length first) × AllByRecursion IsState states
states_are logs n [] [] are is all = (refl, tt)
states_are logs n [] (s ∷ states) are is all = absurd all
states_are logs n (f ∷ first) [] are is all = absurd all
states_are logs n (f ∷ first) (s ∷ states) are is all =
    let more = states_are logs (n + 1) first states are is.1 all.1 in
    (ap suc more.0, (state_is logs n f s are is.0 all.0, more.1))

pub recovered_states : (logs : List (List Record)) (o : Opening) → AllByRecursion (AllByRecursion IsRecord) logs → IsRecovered logs o → AllByRecursion IsState o.states
recovered_states logs o are recovered =
    (states_are logs 0 recovered.begun.0 o.states are (genesis_is logs o recovered are).each recovered.begun.2).1

pub recovered_few : (logs : List (List Record)) (o : Opening) → AllByRecursion (AllByRecursion IsRecord) logs → IsRecovered logs o → length o.states ≤ 256
recovered_few logs o are recovered =
    let genesis = genesis_is logs o recovered are in
    omega (arith, genesis.few, (states_are logs 0 recovered.begun.0 o.states are genesis.each recovered.begun.2).0)
