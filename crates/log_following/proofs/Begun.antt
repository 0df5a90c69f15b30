-- The first list of a follower begins with Genesis, so it knows states, and no more than Genesis tells.
use Rattle.std.proofs.Common.{◌≡◌, ℕ, zero, suc, ◌+◌, ◌<◌, ◌≤◌, inl, inr, List, [], ◌∷◌, ◌++◌, length, get_or, map, take, refl, sym, ◌∙◌, ap, subst, arith, Option, Some, None}
use Rattle.std.proofs.lemmas.List.FromFn.{length-enumerate_from}
use Rattle.std.proofs.lemmas.Slice.Zip.{AllZip-long}
use Rattle.std.specs.List.{AllByRecursion, AllZip, enumerate_from}
use Rattle.snap_base.specs.declared.transactions.State.{State}
use Rattle.snap_outside.specs.Disk.{DeviceHistory}
use Rattle.gate_log.specs.declared.logs.LogItem.{LogItem}
use Rattle.gate_log.specs.Bytes.{IsLog, IsPlacedLogAt}
use Rattle.gate_log.specs.LogLaws.{LogAtIsLog, PlacedIsLogAt}
use Rattle.gate_log.specs.Opened.{bytes_of}
use Rattle.txn_records.specs.declared.records.Record.{Record}
use Rattle.txn_records.specs.declared.records.Record.TheVariants.{Genesis}
use Rattle.txn_records.specs.Records.{IsRecord}
use Rattle.record_log.specs.RecordLogLaws.{OpenedHeld}
use Rattle.record_log.specs.Records.{AreItemsOf, HoldsRecords}
use Rattle.snap_recover.specs.Logs.{geneses}
use Rattle.log_compact.specs.Finding.{lists_at}
use Rattle.log_compact.specs.Fronts.{FrontsOfRecords, IsFront}
use Rattle.log_compact.specs.Points.{Point, plains}
use Rattle.log_compact.specs.Sets.{HasNoStray, IsFirstList, IsSet, plain_lists, point_in, states_at, without_point}
use Rattle.log_reading.specs.Read.{IsReadFrom}
use Rattle.log_reading.specs.ReadLaws.{ReadIsOpened}
use Rattle.log_opening.specs.Found.{ArePlaced}
use Rattle.log_opening.specs.Upgrades.{items_at}
use Rattle.log_opening.proofs.Numbers.{each_zip}
use Rattle.snap_follow.specs.Rounds.{Following, IsRound, list_at}
use Rattle.log_following.specs.Steps.{HaveFronts, used_of}
use Rattle.log_following.proofs.WhatIsRead.{used_at, used_length}

-- the first list begins with a Genesis of no more states than a record may list
pub record IsBegunList (rs : List Record) : Type 0 where
  pub count : ℕ
  pub first : List State
  pub more : List Record
  pub is : rs ≡ Genesis count first ∷ more
  pub few : length first ≤ 256

pub record IsBegun (known : Following) : Type 0 where
  pub list : IsBegunList (list_at known.before 0)
  pub states : List State
  pub known_states : known.states ≡ Some states
  pub few : length states ≤ 256

-- ---- a round

-- Genesis stays in front where the checkpoint is left out, with as many states
record HasGenesis (rs : List Record) (count : ℕ) : Type 0 where
  first : List State
  more : List Record
  is : rs ≡ Genesis count first ∷ more
  few : length first ≤ 256

without : (count : ℕ) (first : List State) (more : List Record) (p : Option Point) → length first ≤ 256 → IsFirstList (Genesis count first ∷ more) p → HasGenesis (without_point (Genesis count first ∷ more) p) count
without count first more None few fit = record { first = first; more = plains more; is = refl; few = few }
without count first more (Some p) few fit = record { first = p.states; more = _; is = refl; few = omega (arith, few, fit.0) }

same_first : (lists : List (List Record)) (count many : ℕ) (first states : List State) (more : List Record) (others : List (List Record)) → lists ≡ (Genesis count first ∷ more) ∷ others
    → geneses lists ≡ Genesis many states ∷ [] → states ≡ first
same_first lists count many first states more others is one =
    let all : geneses ((Genesis count first ∷ more) ∷ others) ≡ Genesis many states ∷ [] = subst (λ (ls : List (List Record)). geneses ls ≡ Genesis many states ∷ []) is one in
    sym (ap (λ (rs : List Record). states_at rs) all)

none_first : (lists : List (List Record)) (count : ℕ) (first : List State) (more : List Record) (others : List (List Record)) → lists ≡ (Genesis count first ∷ more) ∷ others → geneses lists ≡ [] → ⊥
none_first lists count first more others is none =
    let all : geneses ((Genesis count first ∷ more) ∷ others) ≡ [] = subst (λ (ls : List (List Record)). geneses ls ≡ []) is none in cc

few_states : (before known : Following) (rs : List Record) (others lists : List (List Record)) → lists ≡ rs ∷ others → IsBegunList rs → HasNoStray lists → IsRound before lists known → IsBegun known
few_states before known rs others lists split begun no_stray round = record {
  list = subst (λ (ls : List (List Record)). IsBegunList (list_at ls 0)) (sym (round.before ∙ split)) begun;
  states = found.0;
  known_states = found.1;
  few = found.2;
} where
  fit : HasNoStray (rs ∷ others)
  fit = subst (λ (ls : List (List Record)). HasNoStray ls) split no_stray

  genesis : HasGenesis (without_point rs (point_in rs)) begun.count
  genesis = subst (λ (xs : List Record). IsFirstList xs (point_in xs) → HasGenesis (without_point xs (point_in xs)) begun.count) (sym begun.is)
      (λ (ok : IsFirstList (Genesis begun.count begun.first ∷ begun.more) (point_in (Genesis begun.count begun.first ∷ begun.more))).
      without begun.count begun.first begun.more (point_in (Genesis begun.count begun.first ∷ begun.more)) begun.few ok) fit.0

  plain : plain_lists lists ≡ (Genesis begun.count genesis.first ∷ genesis.more) ∷ map plains others
  plain = ap (λ (ls : List (List Record)). plain_lists ls) split ∙ ap (λ (l : List Record). l ∷ map plains others) genesis.is

  found : (states : List State) × (known.states ≡ Some states) × (length states ≤ 256)
  found = elim (round.states) [
    | inl none ↦ absurd (none_first (plain_lists lists) begun.count genesis.first genesis.more (map plains others) plain none.0)
    | inr new ↦
        let same : new.0 ≡ genesis.first = same_first (plain_lists lists) begun.count (length (plain_lists lists)) genesis.first new.0 genesis.more (map plains others) plain new.2.one in
        let size : length new.1 ≡ length new.0 = AllZip-long _ (enumerate_from 0 new.0) new.1 new.4 ∙ length-enumerate_from 0 new.0 in
        (new.1, new.3, omega (arith, size, ap (λ (ss : List State). length ss) same, genesis.few))
  ]

first_split : (lists : List (List Record)) → 1 ≤ length lists → (others : List (List Record)) × (lists ≡ list_at lists 0 ∷ others)
first_split [] some = absurd (omega (arith, some))
first_split (rs ∷ lists) some = (lists, refl)

pub begun_by : (before known : Following) (lists : List (List Record)) → 1 ≤ length lists → IsBegunList (list_at lists 0) → HasNoStray lists → IsRound before lists known → IsBegun known
begun_by before known lists some begun no_stray round =
    let split = first_split lists some in few_states before known (list_at lists 0) split.0 lists split.1 begun no_stray round

-- a list that has grown begins with it still
grown_list : (rs old : List Record) (rest : List Record) → rs ≡ old ++ rest → IsBegunList old → IsBegunList rs
grown_list rs old rest grown begun = record {
  count = begun.count;
  first = begun.first;
  more = begun.more ++ rest;
  is = grown ∙ ap (λ (l : List Record). l ++ rest) begun.is;
  few = begun.few;
}

pub begun_more : (before known : Following) (lists : List (List Record)) → 1 ≤ length lists → IsBegun before → HasNoStray lists → IsRound before lists known → IsBegun known
begun_more before known lists some begun no_stray round =
    let grew = round.grow 0 (omega (arith, some)) in
    begun_by before known lists some (grown_list (list_at lists 0) (list_at before.before 0) grew.0 grew.1 begun.list) no_stray round

-- ---- the first round

no_items : (items : List LogItem) → bytes_of items ≡ [] → items ≡ []
no_items [] none = refl
no_items (i ∷ items) none = absurd (cc none)

placed_read : LogAtIsLog → PlacedIsLogAt → (bytes : List ℕ) (end : ℕ) (items : List LogItem) → IsPlacedLogAt bytes end items → IsReadFrom bytes items × IsLog bytes (bytes_of items)
placed_read at placed bytes end items is = (
  record {
    short = λ short. let few : length bytes ≤ 9 = short in elim log [ inl none ↦ no_items items none.1 | inr long ↦ absurd (let more : 9 < length bytes = long.0 in omega (arith, few, more)) ];
    long = λ _. (end, is);
  },
  log,
) where
  log : IsLog bytes (bytes_of items)
  log = at bytes end (bytes_of items) (placed bytes end items is)

begins_so : (rs front rest : List Record) (count : ℕ) (first : List State) → front ≡ take 2 rs → front ≡ Genesis count first ∷ rest → (more : List Record) × (rs ≡ Genesis count first ∷ more)
begins_so [] front rest count first same begins = absurd (let bad : [] ≡ Genesis count first ∷ rest = sym same ∙ begins in cc)
begins_so (r ∷ rs) front rest count first same begins =
    let both : r ∷ take 1 rs ≡ Genesis count first ∷ rest = sym same ∙ begins in
    let head : r ≡ Genesis count first = ap (λ (l : List Record). get_or l 0 r) both in
    (rs, ap (λ (x : Record). x ∷ rs) head)

module _ (opened : ReadIsOpened) (at : LogAtIsLog) (placed : PlacedIsLogAt) (held : OpenedHeld) (fronts_are : FrontsOfRecords) where
  -- records behind the front that tells the set
  front_records : (items : List LogItem) (rs front : List Record) → ArePlaced items → AreItemsOf items rs → IsFront (bytes_of items) front → front ≡ take 2 rs
  front_records items rs front are rs_are is =
      let bytes = are.0 in
      let read = placed_read at placed bytes are.1 items are.2 in
      let h : DeviceHistory = record { first = bytes; ops = [] } in
      let now = opened h items read.0 in
      let holds : HoldsRecords bytes rs = held h now.0 now.1 items rs now.2 rs_are in
      fronts_are.one bytes rs front holds (bytes_of items, read.1, is)

  all_placed_at : (items : List (List LogItem)) (d : ℕ) → d < length items → AllByRecursion ArePlaced items → ArePlaced (items_at items d)
  all_placed_at [] d lt all = absurd (omega (arith, lt))
  all_placed_at (is ∷ items) zero lt all = all.0
  all_placed_at (is ∷ items) (suc d) lt all = all_placed_at items d (omega (arith, lt)) all.1

  pub first_begun : (items : List (List LogItem)) (fronts lists : List (List Record)) (head count generation : ℕ) → length items ≡ 4 → AllByRecursion ArePlaced items → HaveFronts items fronts
      → IsSet (lists_at fronts) head count generation → 1 ≤ count → head + count ≤ 4 → AllZip AreItemsOf (used_of head count items) lists → IsBegunList (list_at lists 0)
  first_begun items fronts lists head count generation four all have set some within are =
      let low : head < 3 = set.is_head.low in
      let here : head < length items = omega (arith, low, four) in
      let size : length (used_of head count items) ≡ count = used_length head count items (omega (arith, within, four)) in
      let mine : AreItemsOf (items_at (used_of head count items) 0) (list_at lists 0) = each_zip AreItemsOf (used_of head count items) lists [] [] 0 are (omega (arith, some, size)) in
      let place : head + 0 ≡ head = omega arith in
      let same : items_at (used_of head count items) 0 ≡ items_at items head = used_at head count 0 items (omega (arith, some)) ∙ ap (λ (d : ℕ). items_at items d) place in
      let front : IsFront (bytes_of (items_at items head)) (lists_at fronts head) =
      each_zip (λ (is : List LogItem) (front : List Record). IsFront (bytes_of is) front) items fronts [] [] head have here in
      let told : lists_at fronts head ≡ take 2 (list_at lists 0) =
      front_records (items_at items head) (list_at lists 0) (lists_at fronts head) (all_placed_at items head here all) (subst (λ (is : List LogItem). AreItemsOf is (list_at lists 0)) same mine) front in
      let begins = begins_so (list_at lists 0) (lists_at fronts head) set.is_head.rest count set.first told set.is_head.begins in
      let genesis : AllByRecursion IsRecord (Genesis count set.first ∷ set.is_head.rest) = subst (λ (l : List Record). AllByRecursion IsRecord l) set.is_head.begins front.each in
      record { count = count; first = set.first; more = begins.0; is = begins.1; few = genesis.0.few }
