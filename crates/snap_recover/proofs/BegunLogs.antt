-- Genesis alone, in log 0 of several logs, recovers to its states.
use Rattle.std.proofs.Common.{◌≡◌, ℕ, ◌+◌, ◌%◌, inl, inr, List, [], ◌∷◌, ◌++◌, zero, suc, length, filter, refl, sym, ◌∙◌, ap, subst, arith}
use Rattle.std.specs.Prelude.{slice_index_or}
use Rattle.std.specs.List.{AllByRecursion, AllZip, flat_map, enumerate_from}
use Rattle.snap_base.specs.declared.ids.Bid.{Bid}
use Rattle.snap_base.specs.declared.ids.Tid.{Tid}
use Rattle.snap_base.specs.declared.transactions.State.{State}
use Rattle.txn_records.specs.declared.records.Record.{Record}
use Rattle.txn_records.specs.declared.records.Record.TheVariants.{Genesis}
use Rattle.txn_records.specs.declared.keys.Key.{Key}
use Rattle.txn_records.specs.declared.keys.Key.TheVariants as keys
use Rattle.snap_recover.specs.Logs.{all_of, log_of, HasKey, tids_in, bids_in, commits_in, is_genesis, geneses}
use Rattle.snap_recover.specs.Opening.{IsInRange, IsIn, IsActIn, Counts, IsStateOf, IsRecovered, greatest, next_of}
use Rattle.snap_recover.proofs.Lists.{contains_cases, contains_none}

abbrev AreEmpty : List (List Record) → Type 0
AreEmpty logs = AllByRecursion (λ (rs : List Record). rs ≡ []) logs

empty_at : (others : List (List Record)) (i : ℕ) → AreEmpty others → slice_index_or others i [] ≡ []
empty_at [] i all = refl
empty_at (rs ∷ others) zero all = all.0
empty_at (rs ∷ others) (suc i) all = empty_at others i all.1

all_of_empty : (others : List (List Record)) → AreEmpty others → all_of others ≡ []
all_of_empty [] all = refl
all_of_empty (rs ∷ others) all = ap (λ (l : List Record). l ++ all_of others) all.0 ∙ all_of_empty others all.1

module _ (first : Record) (others : List (List Record)) (empty : AreEmpty others) where
  abbrev logs : List (List Record)
  logs = (first ∷ []) ∷ others

  -- a log holds the one record, or none
  at_place : (P : List Record → Type 0) (i : ℕ) → P (first ∷ []) → P [] → P (slice_index_or logs i [])
  at_place P zero one none = one
  at_place P (suc i) one none = subst P (sym (empty_at others i empty)) none

  pub in_log : (P : List Record → Type 0) (n : ℕ) → P (first ∷ []) → P [] → P (log_of logs n)
  in_log P n one none = at_place P (n % length logs) one none

  pub all_of_one : all_of logs ≡ first ∷ []
  all_of_one = ap (λ (l : List Record). first ∷ l) (all_of_empty others empty)

module _ (count : ℕ) (others : List (List Record)) (states : List State) (size : count ≡ length others + 1) (empty : AreEmpty others) where
  abbrev first : Record
  first = Genesis count states

  abbrev all : List (List Record)
  all = (first ∷ []) ∷ others

  -- a key that is none of Genesis stands in no log
  has_none : (k : Key) (n : ℕ) → ¬ (k ≡ keys.Genesis) → ¬ HasKey (log_of all n) k
  has_none k n other = in_log first others empty (λ rs. ¬ HasKey rs k) n
      (λ here. elim (contains_cases keys.Genesis k [] here) [ inl e ↦ other (sym e) | inr g ↦ contains_none k g ])
      (λ here. contains_none k here)

  no_commit : (b : Bid) → ¬ IsIn all b
  no_commit b = has_none (keys.Commit b) b.0 (λ e. cc)

  no_act : (t : Tid) → ¬ IsActIn all t
  no_act t = has_none (keys.Act t) t.0 (λ e. cc)

  first_states : (ss : List State) (n : ℕ) → AllZip (λ (x : ℕ × State) s. IsStateOf all x.0 x.1 s) (enumerate_from n ss) ss
  first_states [] n = tt
  first_states (s ∷ ss) n =
      (inr (in_log first others empty (λ rs. AllByRecursion (λ r. ¬ Counts all n r) rs) n ((λ h. h), tt) tt, refl), first_states ss (n + 1))

  one : all_of all ≡ first ∷ []
  one = all_of_one first others empty

  begun_with : geneses all ≡ Genesis (length all) states ∷ []
  begun_with = ap (λ (l : List Record). filter is_genesis l) one ∙ ap (λ (n : ℕ). Genesis n states ∷ []) (omega (arith, size))

  -- Genesis has no number
  next : (numbers : Record → List ℕ) → numbers first ≡ [] → 1 ≡ next_of numbers all
  next numbers none =
      ap (λ (l : List ℕ). greatest (l ++ []) + 1) (sym none) ∙ ap (λ (l : List Record). greatest (flat_map numbers l) + 1) (sym one)

  pub begun_logs_are_recovered : IsRecovered all (record { states = states; committed = []; next_tid = record { 0 = 1 }; next_bid = record { 0 = 1 }; next_c = 1 })
  begun_logs_are_recovered = record {
    begun = (
      states,
      record { one = begun_with; range = subst (λ (l : List Record). AllByRecursion (IsInRange (length states)) l) (sym one) (record { actors_below = tt; numbers_below = tt }, tt) },
      first_states states 0,
    );
    whole = λ b h. absurd (no_commit b h);
    acts_whole = λ t h. absurd (no_act t h);
    valued = λ b h. absurd (no_commit b h);
    committed = record { ascend = λ i j d l m. absurd (omega arith); each = tt; all_batches = λ b h. absurd (no_commit b h); all_acts = λ t h. absurd (no_act t h) };
    next_tid = next tids_in refl;
    next_bid = next bids_in refl;
    next_c = next commits_in refl;
  }
