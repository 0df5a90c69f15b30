-- What the stages of a compaction make of each device, from what each of them leaves of the logs.
use Rattle.std.proofs.Common.{◌≡◌, ◌≢◌, ℕ, ◌+◌, ◌<◌, ◌≤◌, inl, inr, List, [], ◌++◌, length, drop, append-nil, Option, Some, None, refl, sym, ◌∙◌, ap, subst, arith}
use Rattle.std.specs.Prelude.{◌⊎◌}
use Rattle.std.proofs.Math.Seq.{drop-append_seam, drop-length}
use Rattle.snap_base.proofs.Booleans.{three_ways}
use Rattle.snap_outside.specs.declared.devices.DevOp.{DevOp}
use Rattle.snap_outside.specs.Disk.{DeviceHistory, content, with_ops, AddsAll}
use Rattle.snap_outside.specs.Moments.{adds_nothing, adds_join}
use Rattle.gate_log.specs.Appends.{append_ops, clear_ops, upgrading_ops}
use Rattle.gate_log.specs.Bytes.{format_in}
use Rattle.gate_log.specs.Device.{HasFormat}
use Rattle.gate_log.specs.State.{LogState, log_at, IsUntouched}
use Rattle.txn_records.specs.declared.records.Record.{Record}
use Rattle.record_log.specs.Records.{spelled}
use Rattle.log_compact.specs.Compacting.{IsOnSide}
use Rattle.log_compact.specs.OnDevices.{OpenDevice, IsFront, AreMade, cleared_ops, ready_ops, group_ops}
use Rattle.log_compact.specs.Sides.{AreDone, IsDoneUpTo, IsCleared, IsClearFailed}
use Rattle.log_compaction.specs.declared.writes.CompactionNo.{CompactionNo}
use Rattle.log_compaction.specs.declared.writes.CompactionNo.TheVariants.{Device, Memory}
use Rattle.log_compaction.specs.Ready.{AreAppendNo, AreOfFormat, IsBlank, IsNotBlank, GetsGroup, FailsGroup, log_ready_ops, second_ops}
use Rattle.log_compaction.specs.Written.{AreOn, AreAllMade, IsAllWritten, WritesSoFar, TellMore}
use Rattle.log_compact.proofs.Moments.{on_side}
use Rattle.log_compaction.proofs.Stages.{AreSides, other_low, head_low, other_here, sides_apart, Spot, First, Other, Old, Away, spot, AddsFront, front_all, front_none, front_cut, off_same, off_same_up}

-- ---- one device

-- the operations that a device tells now and did not tell before
added : Option DeviceHistory → Option DeviceHistory → List DevOp
added None new = []
added (Some h) None = []
added (Some h) (Some g) = drop (length h.ops) g.ops

added_is : (old new : Option DeviceHistory) (h : DeviceHistory) (ops : List DevOp) → old ≡ Some h → AddsAll old new ops → added old new ≡ ops
unfolding added
added_is None new h ops is adds = absurd cc
added_is (Some k) new h ops is adds = ap (λ (t : Option DeviceHistory). added (Some k) t) adds ∙ drop-append_seam k.ops ops

added_none : (told : Option DeviceHistory) → added told told ≡ []
unfolding added
added_none None = refl
added_none (Some h) = drop-length h.ops

tells : (old new : Option DeviceHistory) (h : DeviceHistory) (ops : List DevOp) → old ≡ Some h → AddsAll old new ops → new ≡ Some (with_ops h ops)
tells old new h ops is adds = subst (λ (t : Option DeviceHistory). AddsAll t new ops) is adds

-- what makes a log of this format one of format 2 is what makes the bytes of its device such a log
pub upgrades_same : (told : Option DeviceHistory) (h : DeviceHistory) (format : ℕ) → told ≡ Some h → HasFormat told format → second_ops format ≡ upgrading_ops (content h)
upgrades_same told h format is has =
    let same : format ≡ format_in (content h) = (subst (λ (t : Option DeviceHistory). HasFormat t format) is has).1 in
    ap second_ops same

-- ---- all devices

-- one device got no call
abbrev IsStill : List LogState → List LogState → ℕ → Type 0
IsStill old new d = (log_at new d).told ≡ (log_at old d).told

still : (old new : List LogState) (d : ℕ) → log_at new d ≡ log_at old d → IsStill old new d
still old new d same = ap (λ (l : LogState). l.told) same

abbrev Adds : List LogState → List LogState → ℕ → List DevOp → Type 0
Adds old new d ops = AddsAll (log_at old d).told (log_at new d).told ops

adds_then_still : (old mid new : List LogState) (d : ℕ) (ops : List DevOp) → Adds old mid d ops → IsStill mid new d → Adds old new d ops
adds_then_still old mid new d ops adds same = subst (λ (t : Option DeviceHistory). AddsAll (log_at old d).told t ops) (sym same) adds

still_then_front : (old mid new : List LogState) (d : ℕ) (ops : List DevOp) → IsStill old mid d → AddsFront (log_at mid d).told (log_at new d).told ops → AddsFront (log_at old d).told (log_at new d).told ops
still_then_front old mid new d ops same adds = subst (λ (t : Option DeviceHistory). AddsFront t (log_at new d).told ops) same adds

module _ (old : List LogState) (devices : ℕ → OpenDevice) (on : AreOn old devices) (format : AreOfFormat old) (four : length old ≡ 4) where
  -- what was made of a device since
  pub made : List LogState → ℕ → List DevOp
  made new d = added (log_at old d).told (log_at new d).told

  made_is : (new : List LogState) (d : ℕ) (ops : List DevOp) → d < 4 → Adds old new d ops → made new d ≡ ops
  unfolding made
  made_is new d ops lt adds = added_is (log_at old d).told (log_at new d).told (devices d).history ops (on.told d lt) adds

  made_none : (new : List LogState) (d : ℕ) → IsStill old new d → made new d ≡ []
  unfolding made
  made_none new d same = ap (λ (t : Option DeviceHistory). added (log_at old d).told t) same ∙ added_none (log_at old d).told

  made_front : (new : List LogState) (d : ℕ) (ops : List DevOp) → d < 4 → AddsFront (log_at old d).told (log_at new d).told ops → IsFront (made new d) ops
  made_front new d ops lt adds = subst (λ (xs : List DevOp). IsFront xs ops) (sym (made_is new d adds.0 lt adds.2)) adds.1

  -- Some operations were made of each device.
  told_more : (new : List LogState) → ((d : ℕ) → d < 4 → (ops : List DevOp) × Adds old new d ops) → TellMore devices new (made new)
  told_more new each d lt =
      tells (log_at old d).told (log_at new d).told (devices d).history (each d lt).0 (on.told d lt) (each d lt).1
      ∙ ap (λ (ops : List DevOp). Some (with_ops (devices d).history ops)) (sym (made_is new d (each d lt).0 lt (each d lt).1))

  clear_is : (d : ℕ) → d < 4 → clear_ops (log_at old d).end ≡ cleared_ops (devices d)
  clear_is d lt = ap clear_ops (on.ends d lt)

  ready_is : (d : ℕ) → d < 4 → log_ready_ops (log_at old d) ≡ ready_ops (devices d)
  ready_is d lt =
      ap (λ (ops : List DevOp). ops ++ second_ops (log_at old d).format) (clear_is d lt)
      ∙ ap (λ (ops : List DevOp). cleared_ops (devices d) ++ ops) (upgrades_same (log_at old d).told (devices d).history (log_at old d).format (on.told d lt) (format d (omega (arith, lt, four))).formatted)

  -- the two sides, of which the group is for the first log of the other one
  module _ (head other logs : ℕ) (group : List Record) (sides : AreSides head other logs) where
    low : other + logs ≤ 4
    low = other_low head other logs sides

    here : IsOnSide other logs other
    here = other_here head other logs sides

    apart : (d : ℕ) → IsOnSide head logs d → ¬ IsOnSide other logs d
    apart = sides_apart head other logs sides

    -- the devices tell what was made, and that is some moment of a compaction
    pub record IsMoment (new : List LogState) : Type 0 where
      pub told : TellMore devices new (made new)
      pub moment : AreMade devices (made new) head other logs group

    pub written : (new : List LogState) → IsMoment new → WritesSoFar devices new head logs group
    written new is = record { made = made new; told = is.told; moment = subst (λ (o : ℕ). AreMade devices (made new) head o logs group) sides.is_other is.moment }

    -- nothing failed
    pub record IsEnd (new : List LogState) : Type 0 where
      pub told : TellMore devices new (made new)
      pub whole : AreAllMade devices (made new) head other logs group

    pub all_written : (new : List LogState) → IsEnd new → IsAllWritten devices new head logs group
    all_written new is = record { made = made new; told = is.told; whole = subst (λ (o : ℕ). AreAllMade devices (made new) head o logs group) sides.is_other is.whole }

    -- that is the last moment
    pub end_moment : (new : List LogState) → IsEnd new → IsMoment new
    end_moment new end = record {
      told = end.told;
      moment = inr (inr (record {
        first = end.whole.first;
        side = end.whole.side;
        old = λ d off on. subst (λ (ops : List DevOp). IsFront ops (cleared_ops (devices d))) (sym (end.whole.old d on)) ([], sym (append-nil (cleared_ops (devices d))));
        rest = end.whole.rest;
      }));
    }

    off_one : (d : ℕ) → d ≢ other → ¬ IsOnSide other 1 d
    off_one d apart_from on = apart_from (omega (arith, on.behind, on.before))

    not_first : (d : ℕ) → ¬ IsOnSide other logs d → d ≢ other
    not_first d off same = off (subst (IsOnSide other logs) (sym same) here)

    -- ---- the other side is made ready

    moment_ready : (new : List LogState) → ((d : ℕ) → IsOnSide other logs d → AddsFront (log_at old d).told (log_at new d).told (log_ready_ops (log_at old d)))
        → ((d : ℕ) → ¬ IsOnSide other logs d → IsStill old new d) → IsMoment new
    moment_ready new side rest = record {
      told = told_more new (λ d lt. each d (on_side other logs d));
      moment = inl (record {
        side = λ d on. let lt : d < 4 = omega (arith, on.before, low) in subst (λ (ops : List DevOp). IsFront (made new d) ops) (ready_is d lt) (made_front new d (log_ready_ops (log_at old d)) lt (side d on));
        rest = λ d off. made_none new d (rest d off);
      });
    }
      where
        each : (d : ℕ) → IsOnSide other logs d ⊎ ¬ IsOnSide other logs d → (ops : List DevOp) × Adds old new d ops
        each d (inl on) = ((side d on).0, (side d on).2)
        each d (inr off) = ([], adds_nothing (log_at old d).told (log_at new d).told (rest d off))

    pub nothing_made : IsMoment old
    nothing_made = moment_ready old (λ d on. front_none (log_at old d).told (log_at old d).told (log_ready_ops (log_at old d)) refl) (λ d off. refl)

    pub ready_stopped : (new : List LogState) (n : ℕ) → IsDoneUpTo IsBlank IsNotBlank other (other + logs) n old new → IsMoment new
    ready_stopped new n up = moment_ready new (λ d on. side d on (three_ways d n)) (λ d off. still old new d (off_same_up IsBlank IsNotBlank other logs n d old new up off))
      where
        side : (d : ℕ) → IsOnSide other logs d → (d < n) ⊎ ((d ≡ n) ⊎ (n < d)) → AddsFront (log_at old d).told (log_at new d).told (log_ready_ops (log_at old d))
        side d on (inl less) = front_all (log_at old d).told (log_at new d).told (log_ready_ops (log_at old d)) (up.there d on.behind less).adds
        side d on (inr (inl same)) =
            subst (λ (i : ℕ). AddsFront (log_at old i).told (log_at new i).told (log_ready_ops (log_at old i))) (sym same)
            (front_cut (log_at old n).told (log_at new n).told (log_ready_ops (log_at old n)) up.failed.adds)
        side d on (inr (inr past)) = front_none (log_at old d).told (log_at new d).told (log_ready_ops (log_at old d)) (still old new d (up.behind d past))

    module _ (mid : List LogState) (done : AreDone IsBlank other (other + logs) old mid) where
      ready_at : (d : ℕ) → IsOnSide other logs d → Adds old mid d (log_ready_ops (log_at old d))
      ready_at d on = (done.there d on.behind on.before).adds

      off_still : (d : ℕ) → ¬ IsOnSide other logs d → IsStill old mid d
      off_still d off = still old mid d (off_same IsBlank other logs d old mid done off)

      append_lacked : (new : List LogState) → ((l : ℕ) → IsUntouched (log_at mid l) (log_at new l)) → IsMoment new
      append_lacked new same = moment_ready new
          (λ d on. front_all (log_at old d).told (log_at new d).told (log_ready_ops (log_at old d)) (adds_then_still old mid new d (log_ready_ops (log_at old d)) (ready_at d on) (same d).told))
          (λ d off. (same d).told ∙ off_still d off)

      -- ---- the group is appended

      gate_first : append_ops (log_at mid other).end (spelled group) ≡ group_ops group
      gate_first = ap (λ (end : ℕ). append_ops end (spelled group)) (done.there other here.behind here.before).gate

      append_stopped : (new : List LogState) → IsDoneUpTo (GetsGroup group) (FailsGroup group) other (other + 1) other mid new → IsMoment new
      append_stopped new up = record {
        told = told_more new (λ d lt. each d (spot head other logs d));
        moment = inr (inl (record {
          front = up.failed.adds.0;
          some = (up.failed.adds.1.left, sym gate_first ∙ up.failed.adds.1.whole);
          first = made_is new other (log_ready_ops (log_at old other) ++ up.failed.adds.0) (omega (arith, here.before, low)) first
              ∙ ap (λ (ops : List DevOp). ops ++ up.failed.adds.0) (ready_is other (omega (arith, here.before, low)));
          side = λ d on apart_from. let lt : d < 4 = omega (arith, on.before, low) in made_is new d (log_ready_ops (log_at old d)) lt (side d on apart_from) ∙ ready_is d lt;
          rest = λ d off. made_none new d (rest d off);
        }));
      }
        where
          first : Adds old new other (log_ready_ops (log_at old other) ++ up.failed.adds.0)
          first = adds_join (log_at old other).told (log_at mid other).told (log_at new other).told (log_ready_ops (log_at old other)) up.failed.adds.0 (ready_at other here) up.failed.adds.2

          side : (d : ℕ) → IsOnSide other logs d → d ≢ other → Adds old new d (log_ready_ops (log_at old d))
          side d on apart_from =
              adds_then_still old mid new d (log_ready_ops (log_at old d)) (ready_at d on)
              (still mid new d (off_same_up (GetsGroup group) (FailsGroup group) other 1 other d mid new up (off_one d apart_from)))

          rest : (d : ℕ) → ¬ IsOnSide other logs d → IsStill old new d
          rest d off = still mid new d (off_same_up (GetsGroup group) (FailsGroup group) other 1 other d mid new up (off_one d (not_first d off))) ∙ off_still d off

          each : (d : ℕ) → Spot head other logs d → (ops : List DevOp) × Adds old new d ops
          each d (First same) = subst (λ (i : ℕ). (ops : List DevOp) × Adds old new i ops) (sym same) (log_ready_ops (log_at old other) ++ up.failed.adds.0, first)
          each d (Other on apart_from) = (log_ready_ops (log_at old d), side d on apart_from)
          each d (Old off on) = ([], adds_nothing (log_at old d).told (log_at new d).told (rest d off))
          each d (Away off away) = ([], adds_nothing (log_at old d).told (log_at new d).told (rest d off))

      pub append_ended : (new : List LogState) (no : CompactionNo) → AreAppendNo other group mid new no → IsMoment new
      append_ended new (Device log) is = append_stopped new is.1
      append_ended new Memory is = append_lacked new is

      -- ---- the old side is cleared

      module _ (late : List LogState) (appended : AreDone (GetsGroup group) other (other + 1) mid late) where
        late_same : (d : ℕ) → ¬ IsOnSide other logs d → log_at late d ≡ log_at old d
        late_same d off = off_same (GetsGroup group) other 1 d mid late appended (off_one d (not_first d off)) ∙ off_same IsBlank other logs d old mid done off

        first_late : Adds old late other (log_ready_ops (log_at old other) ++ group_ops group)
        first_late =
            subst (λ (ops : List DevOp). Adds old late other (log_ready_ops (log_at old other) ++ ops)) gate_first
            (adds_join (log_at old other).told (log_at mid other).told (log_at late other).told (log_ready_ops (log_at old other)) (append_ops (log_at mid other).end (spelled group)) (ready_at other here)
            (appended.there other (omega arith) (omega arith)).adds)

        side_late : (d : ℕ) → IsOnSide other logs d → d ≢ other → Adds old late d (log_ready_ops (log_at old d))
        side_late d on apart_from =
            adds_then_still old mid late d (log_ready_ops (log_at old d)) (ready_at d on) (still mid late d (off_same (GetsGroup group) other 1 d mid late appended (off_one d apart_from)))

        -- what the clearing leaves alone
        module _ (new : List LogState) (quiet : (d : ℕ) → ¬ IsOnSide head logs d → IsStill late new d) where
          first_new : Adds old new other (log_ready_ops (log_at old other) ++ group_ops group)
          first_new = adds_then_still old late new other (log_ready_ops (log_at old other) ++ group_ops group) first_late (quiet other (λ on. apart other on here))

          made_first : made new other ≡ ready_ops (devices other) ++ group_ops group
          made_first =
              made_is new other (log_ready_ops (log_at old other) ++ group_ops group) (omega (arith, here.before, low)) first_new
              ∙ ap (λ (ops : List DevOp). ops ++ group_ops group) (ready_is other (omega (arith, here.before, low)))

          side_new : (d : ℕ) → IsOnSide other logs d → d ≢ other → Adds old new d (log_ready_ops (log_at old d))
          side_new d on apart_from = adds_then_still old late new d (log_ready_ops (log_at old d)) (side_late d on apart_from) (quiet d (λ back. apart d back on))

          made_side : (d : ℕ) → IsOnSide other logs d → d ≢ other → made new d ≡ ready_ops (devices d)
          made_side d on apart_from = let lt : d < 4 = omega (arith, on.before, low) in made_is new d (log_ready_ops (log_at old d)) lt (side_new d on apart_from) ∙ ready_is d lt

          rest_new : (d : ℕ) → ¬ IsOnSide other logs d → ¬ IsOnSide head logs d → IsStill old new d
          rest_new d off away = quiet d away ∙ still old late d (late_same d off)

          told_new : ((d : ℕ) → IsOnSide head logs d → (ops : List DevOp) × Adds old new d ops) → TellMore devices new (made new)
          told_new back = told_more new (λ d lt. each d (spot head other logs d))
            where
              each : (d : ℕ) → Spot head other logs d → (ops : List DevOp) × Adds old new d ops
              each d (First same) = subst (λ (i : ℕ). (ops : List DevOp) × Adds old new i ops) (sym same) (log_ready_ops (log_at old other) ++ group_ops group, first_new)
              each d (Other on apart_from) = (log_ready_ops (log_at old d), side_new d on apart_from)
              each d (Old off on) = back d on
              each d (Away off away) = ([], adds_nothing (log_at old d).told (log_at new d).told (rest_new d off away))

        pub clear_stopped : (new : List LogState) (n : ℕ) → IsDoneUpTo IsCleared IsClearFailed head (head + logs) n late new → IsMoment new
        clear_stopped new n up = record {
          told = told_new new quiet (λ d on. ((front d on (three_ways d n)).0, (front d on (three_ways d n)).2));
          moment = inr (inr (record {
            first = made_first new quiet;
            side = made_side new quiet;
            old = λ d off on. let lt : d < 4 = omega (arith, on.before, head_low head other logs sides) in
                subst (λ (ops : List DevOp). IsFront (made new d) ops) (clear_is d lt) (made_front new d (clear_ops (log_at old d).end) lt (front d on (three_ways d n)));
            rest = λ d off away. made_none new d (rest_new new quiet d off away);
          }));
        }
          where
            quiet : (d : ℕ) → ¬ IsOnSide head logs d → IsStill late new d
            quiet d off = still late new d (off_same_up IsCleared IsClearFailed head logs n d late new up off)

            since : (d : ℕ) → (d < n) ⊎ ((d ≡ n) ⊎ (n < d)) → IsOnSide head logs d → AddsFront (log_at late d).told (log_at new d).told (clear_ops (log_at late d).end)
            since d (inl less) on = front_all (log_at late d).told (log_at new d).told (clear_ops (log_at late d).end) (up.there d on.behind less).adds
            since d (inr (inl same)) on =
                subst (λ (i : ℕ). AddsFront (log_at late i).told (log_at new i).told (clear_ops (log_at late i).end)) (sym same)
                (front_cut (log_at late n).told (log_at new n).told (clear_ops (log_at late n).end) up.failed.adds)
            since d (inr (inr past)) on = front_none (log_at late d).told (log_at new d).told (clear_ops (log_at late d).end) (still late new d (up.behind d past))

            front : (d : ℕ) → IsOnSide head logs d → (d < n) ⊎ ((d ≡ n) ⊎ (n < d)) → AddsFront (log_at old d).told (log_at new d).told (clear_ops (log_at old d).end)
            front d on way = subst (λ (l : LogState). AddsFront l.told (log_at new d).told (clear_ops l.end)) (late_same d (apart d on)) (since d way on)

        pub all_done : (new : List LogState) → AreDone IsCleared head (head + logs) late new → IsEnd new
        all_done new cleared = record {
          told = told_new new quiet (λ d on. (clear_ops (log_at old d).end, back d on));
          whole = record {
            first = made_first new quiet;
            side = made_side new quiet;
            old = λ d on. let lt : d < 4 = omega (arith, on.before, head_low head other logs sides) in made_is new d (clear_ops (log_at old d).end) lt (back d on) ∙ clear_is d lt;
            rest = λ d off away. made_none new d (rest_new new quiet d off away);
          };
        }
          where
            quiet : (d : ℕ) → ¬ IsOnSide head logs d → IsStill late new d
            quiet d off = still late new d (off_same IsCleared head logs d late new cleared off)

            back : (d : ℕ) → IsOnSide head logs d → Adds old new d (clear_ops (log_at old d).end)
            back d on = subst (λ (l : LogState). AddsAll l.told (log_at new d).told (clear_ops l.end)) (late_same d (apart d on)) (cleared.there d on.behind on.before).adds
