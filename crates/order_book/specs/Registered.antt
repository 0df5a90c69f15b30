-- All ACTs in the order of their admission, with what finds and counts them.
use Rattle.std.specs.Prelude.{◌≡◌, ℕ, ◌==◌, max, Bool, true, if◌then◌else◌, Option, Some, None, List, [], ◌∷◌, map, slice_get, slice_index_or}
use Rattle.std.specs.List.{AllByRecursion}
use Rattle.protocol.specs.Cutting.{Ascends}
use Rattle.protocol.specs.Parts.{Act, Pair}
use Rattle.protocol.specs.Words.{count, is_doomed, is_live_act, act_of}
use Rattle.protocol.specs.OnBook.{changed_act}
use Rattle.order_book.specs.Changes.{changed_at}

abbrev pub tids_of_acts : List Act → List ℕ
tids_of_acts acts = map (λ x. x.tid) acts

-- the tid of the first ACT of a transaction
abbrev pub tid_with : ℕ → List Act → Option ℕ
tid_with n [] = None
tid_with n (x ∷ xs) = if x.tx == n then Some x.tid else tid_with n xs

-- the tids ascend; by transaction there is the tid of its first ACT; and so many are live
pub record IsRegistered (acts : List Act) (tids : List ℕ) (by_tx : List (Option ℕ)) (live : ℕ) : Type 0 where
  pub listed : tids ≡ tids_of_acts acts
  pub rising : Ascends tids
  pub found : (n : ℕ) → slice_index_or by_tx n None ≡ tid_with n acts
  pub counted : live ≡ count is_live_act acts

-- ---- the place of an ACT: the length of the list where there is none

pub record IsPlaceOfAct (t at : ℕ) (acts : List Act) : Type 0 where
  pub found : act_of t acts ≡ slice_get acts at
  -- who changes the ACT there changes ACT t, and nobody else
  pub changes : (f : Act → Act) → changed_act t f acts ≡ changed_at at f acts
  pub only : AllByRecursion (λ x. (x.tid == t) ≡ true → act_of t acts ≡ Some x) acts

-- ---- by transaction

-- the one that was there, or else this one
abbrev pub first_kept : Option ℕ → Bool → ℕ → Option ℕ
first_kept (Some k) b t = Some k
first_kept None b t = if b then Some t else None

-- ---- what pairs bring

-- the before number of an ACT that is there and not doomed, or 0
abbrev pub before_undoomed : Option Act → ℕ
before_undoomed None = 0
before_undoomed (Some x) = if is_doomed x.status then 0 else x.m

-- the greatest number that a pair brings to ACT t from one of the others
abbrev pub brought_by : List Pair → ℕ → List Act → ℕ
brought_by [] t others = 0
brought_by (p ∷ ps) t others = max (if p.behind == t then before_undoomed (act_of p.ahead others) else 0) (brought_by ps t others)
