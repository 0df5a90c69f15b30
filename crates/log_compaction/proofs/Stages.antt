-- What one stage behind the other makes of each log.
use Rattle.std.proofs.Common.{◌≡◌, ◌≢◌, ℕ, ◌+◌, ◌≤◌, inl, inr, Bool, true, List, [], ◌++◌, append-nil, append_assoc, Option, Result, Ok, Err, refl, sym, ◌∙◌, ap, subst, arith}
use Rattle.std.specs.Prelude.{◌⊎◌, ◌==◌, false, if◌then◌else◌, MatchResult}
use Rattle.std.proofs.lemmas.Bool.{cases_Bool, cases_lt, eqb-true, eqb-false}
use Rattle.snap_outside.specs.declared.devices.DevOp.{DevOp}
use Rattle.snap_outside.specs.Disk.{DeviceHistory, AddsAll, AddsUpToFault}
use Rattle.snap_outside.specs.Moments.{adds_nothing, adds_join}
use Rattle.gate_log.specs.Appends.{clear_ops}
use Rattle.gate_log.specs.Bytes.{FIRST_GATE}
use Rattle.gate_log.specs.State.{LogState, log_at}
use Rattle.log_compact.specs.Compacting.{other_side, IsOnSide}
use Rattle.log_compact.specs.OnDevices.{IsFront}
use Rattle.log_compact.specs.Sides.{AreDone, IsDoneUpTo}
use Rattle.log_compact.proofs.Moments.{on_side, side_of}
use Rattle.log_compaction.specs.Ready.{IsBlank, IsNotBlank, IsSecond, IsNotSecond, second_ops}

-- ---- sides

-- a set of one log or two, and the other side
pub record AreSides (head other logs : ℕ) : Type 0 where
  pub is_other : other ≡ other_side head logs
  pub some : 1 ≤ logs
  pub few : logs ≤ 2
  pub side : (head ≡ 0) ⊎ (head ≡ logs)

pub other_low : (head other logs : ℕ) → AreSides head other logs → other + logs ≤ 4
other_low head other logs sides = subst (λ (o : ℕ). o + logs ≤ 4) (sym sides.is_other) (by (head == 0))
  where
    by : (b : Bool) → (if b then logs else 0) + logs ≤ 4
    by true = omega (arith, sides.few)
    by false = omega (arith, sides.few)

pub head_low : (head other logs : ℕ) → AreSides head other logs → head + logs ≤ 4
head_low head other logs sides = elim sides.side [ inl first ↦ omega (arith, first, sides.few) | inr second ↦ omega (arith, second, sides.few) ]

pub other_here : (head other logs : ℕ) → AreSides head other logs → IsOnSide other logs other
other_here head other logs sides = record { behind = omega arith; before = omega (arith, sides.some) }

pub sides_apart : (head other logs : ℕ) → AreSides head other logs → (d : ℕ) → IsOnSide head logs d → ¬ IsOnSide other logs d
sides_apart head other logs sides d on = subst (λ (o : ℕ). ¬ IsOnSide o logs d) (sym sides.is_other) (side_of head logs turned sides.some d on)
  where
    turned : (head ≡ 0) ⊎ (logs ≡ head)
    turned = elim sides.side [ inl first ↦ inl first | inr second ↦ inr (sym second) ]

-- where a device is: the first of the other side, or on that side, or on the old one, or on none
pub data Spot (head other logs d : ℕ) : Type 0 where
  First : d ≡ other → Spot head other logs d
  Other : IsOnSide other logs d → d ≢ other → Spot head other logs d
  Old : ¬ IsOnSide other logs d → IsOnSide head logs d → Spot head other logs d
  Away : ¬ IsOnSide other logs d → ¬ IsOnSide head logs d → Spot head other logs d

pub spot : (head other logs d : ℕ) → Spot head other logs d
spot head other logs d = by (cases_Bool (d == other)) (on_side other logs d) (on_side head logs d)
  where
    by : ((d == other) ≡ true) ⊎ ((d == other) ≡ false) → IsOnSide other logs d ⊎ ¬ IsOnSide other logs d → IsOnSide head logs d ⊎ ¬ IsOnSide head logs d → Spot head other logs d
    by (inl e) a b = First (eqb-true d other e)
    by (inr e) (inl a) b = Other a (eqb-false d other e)
    by (inr e) (inr a) (inl b) = Old a b
    by (inr e) (inr a) (inr b) = Away a b

-- ---- operations that are added

-- what a device got: some front of these operations
abbrev pub AddsFront : Option DeviceHistory → Option DeviceHistory → List DevOp → Type 0
AddsFront old new ops = (made : List DevOp) × IsFront made ops × AddsAll old new made

pub front_all : (old new : Option DeviceHistory) (ops : List DevOp) → AddsAll old new ops → AddsFront old new ops
front_all old new ops adds = (ops, ([], sym (append-nil ops)), adds)

pub front_none : (old new : Option DeviceHistory) (ops : List DevOp) → new ≡ old → AddsFront old new ops
front_none old new ops same = ([], (ops, refl), adds_nothing old new same)

pub front_cut : (old new : Option DeviceHistory) (ops : List DevOp) → AddsUpToFault old new ops → AddsFront old new ops
front_cut old new ops adds = (adds.0, (adds.1.left, adds.1.whole), adds.2)

-- operations that are added, and then others up to a fault
cut_behind : (old mid new : Option DeviceHistory) (xs ys : List DevOp) → AddsAll old mid xs → AddsUpToFault mid new ys → AddsUpToFault old new (xs ++ ys)
cut_behind old mid new xs ys first behind = (
  xs ++ behind.0,
  record {
    left = behind.1.left;
    some = behind.1.some;
    whole = ap (λ (ops : List DevOp). xs ++ ops) behind.1.whole ∙ sym (append_assoc xs behind.0 behind.1.left);
  },
  adds_join old mid new xs behind.0 first behind.2,
)

-- ---- one log

-- a log that is cleared is made one of format 2, or its device fails
pub ready_behind : {T E : Type 0} (r : Result T E) (old mid new : LogState) → AddsAll old.told mid.told (clear_ops old.end) → mid.end ≡ FIRST_GATE → mid.format ≡ old.format → old.faults ≤ mid.faults
    → MatchResult r (λ _. IsSecond mid new) (λ _. IsNotSecond mid new) → MatchResult r (λ _. IsBlank old new) (λ _. IsNotBlank old new)
ready_behind (Ok x) old mid new adds gate format later is = record {
  adds = adds_join old.told mid.told new.told (clear_ops old.end) (second_ops old.format) adds (subst (λ (n : ℕ). AddsAll mid.told new.told (second_ops n)) format is.adds);
  second = is.second;
  gate = is.gate ∙ gate;
  ready = is.ready;
  later = omega (arith, later, is.later);
}
ready_behind (Err e) old mid new adds gate format later is = record {
  adds = cut_behind old.told mid.told new.told (clear_ops old.end) (second_ops old.format) adds (subst (λ (n : ℕ). AddsUpToFault mid.told new.told (second_ops n)) format is.adds);
  rose = omega (arith, later, is.rose);
  later = omega (arith, later, is.later);
}

-- ---- logs that are done one after the other

pub off_same : (Done : LogState → LogState → Type 0) (from logs d : ℕ) (a b : List LogState) → AreDone Done from (from + logs) a b → ¬ IsOnSide from logs d → log_at b d ≡ log_at a d
off_same Done from logs d a b done off = elim (cases_lt d from) [
  | inl low ↦ done.before d low
  | inr high ↦ elim (cases_lt d (from + logs)) [ inl here ↦ absurd (off (record { behind = high; before = here })) | inr past ↦ done.behind d past ]
]

pub off_same_up : (Done Failed : LogState → LogState → Type 0) (from logs n d : ℕ) (a b : List LogState) → IsDoneUpTo Done Failed from (from + logs) n a b → ¬ IsOnSide from logs d → log_at b d ≡ log_at a d
off_same_up Done Failed from logs n d a b up off = elim (cases_lt d from) [
  | inl low ↦ up.before d low
  | inr high ↦ elim (cases_lt d (from + logs)) [ inl here ↦ absurd (off (record { behind = high; before = here })) | inr past ↦ up.behind d (omega (arith, past, up.asked)) ]
]
