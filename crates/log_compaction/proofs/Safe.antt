-- What a crash in a compaction leaves of the four devices folds to what the logs in use folded to.
use Rattle.std.proofs.Common.{◌≡◌, ℕ, zero, suc, ◌<◌, ◌≤◌, inl, inr, List, [], ◌∷◌, ◌++◌, length, drop, append-nil, append_assoc, refl, sym, ◌∙◌, ap, subst, arith, Option, Some, None}
use Rattle.std.specs.Prelude.{◌⊎◌}
use Rattle.std.specs.List.{AllZip}
use Rattle.std.proofs.Math.Seq.{drop-append_seam}
use Rattle.std.proofs.lemmas.Bool.{cases_lt}
use Rattle.snap_outside.specs.declared.devices.DevOp.{DevOp}
use Rattle.snap_outside.specs.Disk.{DeviceHistory, Disk, disk, disk_after, content, settled, with_ops, IsImage}
use Rattle.snap_outside.specs.Moments.{disk_join}
use Rattle.gate_log.specs.Bytes.{IsLog}
use Rattle.gate_log.specs.Device.{DeviceLog}
use Rattle.gate_log.specs.Opened.{opening_ops, Opened, MayBeMade}
use Rattle.gate_log.specs.declared.opens.OpenNo.TheVariants as refusal
use Rattle.txn_records.specs.declared.records.Record.{Record}
use Rattle.record_log.specs.Records.{spelled, HoldsRecords}
use Rattle.log_compact.specs.declared.folds.Folded.{Folded}
use Rattle.log_compact.specs.Compacting.{AreSameOrNext, IsOnSide, MayCompact, group_for, other_side}
use Rattle.log_compact.specs.OnDevices.{AreImages, AreMade, Held, IsFront, OpenDevice, cleared_ops, group_ops, open_on, ready_ops, records_on}
use Rattle.log_compact.specs.Sets.{logs_from}
use Rattle.log_compact.proofs.Moments.{other_on, side_used}
use Rattle.log_compact.proofs.OnDevices.{at_front, disk_with}
use Rattle.log_opening.specs.Devices.{Device, device_at, OnlyOpened}
use Rattle.log_opening.specs.Found.{IsTouched}
use Rattle.log_opening.specs.Kept.{AreFolded}
use Rattle.log_opening.proofs.Numbers.{each_zip}
use Rattle.log_compaction.specs.Compacted.{IsUnspentFold}
use Rattle.log_compaction.specs.Crashes.{CrashInCompaction, FoldsAgain, IsOpenAs}
use Rattle.log_compaction.specs.Fits.{AreNoneSpent}
use Rattle.log_compaction.proofs.InUse.{CrashLaws, folded_are, lists_are, same_fold, same_many, some, used_fold}
use Rattle.log_compaction.proofs.Stages.{AreSides, AddsFront, front_all, front_cut, front_none, head_low, other_low}

-- ---- what a device got

-- the operations that a history has more
grown : Option DeviceHistory → ℕ → List DevOp
grown None n = []
grown (Some h) n = drop n h.ops

same_more : (h : DeviceHistory) (told : Option DeviceHistory) (xs ys : List DevOp) → told ≡ Some (with_ops h xs) → told ≡ Some (with_ops h ys) → xs ≡ ys
unfolding grown
same_more h told xs ys first second =
    sym (drop-append_seam h.ops xs) ∙ ap (λ (t : Option DeviceHistory). grown t (length h.ops)) (sym first ∙ second) ∙ drop-append_seam h.ops ys

-- a device that got no call but those of opening got a front of opening's operations
opened_front : CrashLaws → (h : DeviceHistory) (told new : Option DeviceHistory) → told ≡ Some h → (new ≡ told) ⊎ (OnlyOpened told new ⊎ MayBeMade told new) → AddsFront (Some h) new (opening_ops (content h))
opened_front laws h told new is (inl same) = front_none (Some h) new (opening_ops (content h)) (same ∙ is)
opened_front laws h told new is (inr (inl opened)) =
    let here : Opened (Some h) new opened.0 opened.1 = subst (λ (t : Option DeviceHistory). Opened t new opened.0 opened.1) is opened.2 in
    front_all (Some h) new (opening_ops (content h)) (laws.opening_adds h new opened.0 opened.1 here)
opened_front laws h told new is (inr (inr made)) =
    let here : MayBeMade (Some h) new = subst (λ (t : Option DeviceHistory). MayBeMade t new) is made in
    front_cut (Some h) new (opening_ops (content h)) (laws.refusal_adds h new refusal.Device here)

-- so what is made of it is one, too
front_of_front : (h : DeviceHistory) (new : Option DeviceHistory) (made more ops : List DevOp) → new ≡ Some (with_ops h (made ++ more)) → AddsFront (Some h) new ops → IsFront made ops
front_of_front h new made more ops is got =
    let same : made ++ more ≡ got.0 = same_more h new (made ++ more) got.0 is got.2 in
    (more ++ got.1.0, got.1.1 ∙ ap (λ (xs : List DevOp). xs ++ got.1.0) (sym same) ∙ append_assoc made more got.1.0)

-- a device that tells what it holds is one of those that there are
told_within : (ds : List Device) (d : ℕ) (h : DeviceHistory) → (device_at ds d).told ≡ Some h → d < length ds
told_within [] zero h is = absurd cc
told_within [] (suc d) h is = absurd cc
told_within (x ∷ ds) zero h is = omega arith
told_within (x ∷ ds) (suc d) h is = omega (arith, told_within ds d h is)

pub own_image : (bytes : List ℕ) → IsImage (settled bytes) bytes
own_image bytes = record { no_shorter = omega arith; no_longer = omega arith; fixed = λ i lt fixed. refl }

-- ---- moments

first_low : 0 < 4
first_low = omega arith

-- a device that holds records, whatever it holds
abbrev open_of : Held → OpenDevice
open_of x = record { history = x.history; end = x.end }

-- where the devices of the sides are the same
made_same : (a b : ℕ → OpenDevice) (made : ℕ → List DevOp) (head other logs : ℕ) (group : List Record) → ((d : ℕ) → IsOnSide other logs d → a d ≡ b d) → ((d : ℕ) → IsOnSide head logs d → a d ≡ b d) → IsOnSide other logs other
    → AreMade a made head other logs group → AreMade b made head other logs group
made_same a b made head other logs group there back here (inl ready) =
    inl (record { side = λ d on. subst (λ (x : OpenDevice). IsFront (made d) (ready_ops x)) (there d on) (ready.side d on); rest = ready.rest })
made_same a b made head other logs group there back here (inr (inl put)) = inr (inl (record {
  front = put.front;
  some = put.some;
  first = subst (λ (x : OpenDevice). made other ≡ ready_ops x ++ put.front) (there other here) put.first;
  side = λ d on apart. subst (λ (x : OpenDevice). made d ≡ ready_ops x) (there d on) (put.side d on apart);
  rest = put.rest;
}))
made_same a b made head other logs group there back here (inr (inr old)) = inr (inr (record {
  first = subst (λ (x : OpenDevice). made other ≡ ready_ops x ++ group_ops group) (there other here) old.first;
  side = λ d on apart. subst (λ (x : OpenDevice). made d ≡ ready_ops x) (there d on) (old.side d on apart);
  old = λ d off on. subst (λ (x : OpenDevice). IsFront (made d) (cleared_ops x)) (back d on) (old.old d off on);
  rest = old.rest;
}))

-- the devices of no side got nothing
nothing_away : (devices : ℕ → OpenDevice) (made : ℕ → List DevOp) (head other logs : ℕ) (group : List Record) (d : ℕ) → ¬ IsOnSide other logs d → ¬ IsOnSide head logs d → AreMade devices made head other logs group → made d ≡ []
nothing_away devices made head other logs group d off away (inl ready) = ready.rest d off
nothing_away devices made head other logs group d off away (inr (inl put)) = put.rest d off
nothing_away devices made head other logs group d off away (inr (inr old)) = old.rest d off away

pub none_spent : (f : Folded) → IsUnspentFold f → AreNoneSpent f
none_spent f low = record {
  generation = omega (arith, low.1.1.1.0);
  next_tid = omega (arith, low.0);
  next_bid = omega (arith, low.1.0);
  next_c = omega (arith, low.1.1.0);
  batches = omega (arith, low.1.1.1.1.0);
  acts = omega (arith, low.1.1.1.1.1.0);
}

-- ---- a crash

module _ (laws : CrashLaws) (before after : List Device) (a : AreFolded before) (held : ℕ → List Record) (images : ℕ → List ℕ) (crash : CrashInCompaction before after a.head (length a.lists) a.fold held images) where
  pub told : (d : ℕ) → d < 4 → (device_at before d).told ≡ Some (crash.histories d)
  told d lt = let at = crash.each d lt in at.0.told ∙ ap (λ (h : DeviceHistory). Some h) at.1

  pub holds : (d : ℕ) → d < 4 → HoldsRecords (content (crash.histories d)) (held d)
  holds d lt = let at = crash.each d lt in subst (λ (h : DeviceHistory). HoldsRecords (content h) (held d)) at.1 at.0.holds

  pub durable : (d : ℕ) → d < 4 → disk (crash.histories d) ≡ settled (content (crash.histories d))
  durable d lt = let at = crash.each d lt in subst (λ (h : DeviceHistory). disk h ≡ settled (content h)) at.1 at.0.durable

  pub left : (d : ℕ) → d < 4 → IsImage (disk_after (crash.made d) (disk (crash.histories d))) (images d)
  left d lt = let at = crash.each d lt in subst (λ (h : DeviceHistory). IsImage (disk_after (crash.made d) (disk h)) (images d)) at.1 at.0.left

  -- while it is opened, it is left what it held
  pub opening_leaves : (d : ℕ) → d < 4 → (made : List DevOp) (image : List ℕ) → IsFront made (opening_ops (content (crash.histories d))) → IsImage (disk_after made (disk (crash.histories d))) image → IsLog image (spelled (held d))
  opening_leaves d lt made image front is =
      at_front (disk (crash.histories d)) made (opening_ops (content (crash.histories d))) (λ (z : List ℕ). IsLog z (spelled (held d))) image
      (laws.opening_keeps (crash.histories d) (spelled (held d)) (durable d lt) (holds d lt).log) front is

  -- all are being opened
  opening_folds : ((d : ℕ) → d < 4 → IsFront (crash.made d) (opening_ops (content (crash.histories d)))) → FoldsAgain held a.head (length a.lists) a.fold images
  opening_folds front = record {
    now = held;
    holds = λ d lt. record { log = opening_leaves d lt (crash.made d) (images d) (front d lt) (left d lt); each = (holds d lt).each };
    head = a.head;
    fold = a.fold;
    used = used_fold laws before crash.histories told held holds a;
    folded = folded_are laws before crash.histories told held holds a;
    same = record { states = refl; next_tid = refl; next_bid = refl; next_c = refl; batches = refl; acts = refl; first = refl };
    which = inl (refl, refl, refl);
  }

  -- no device got another call
  pub touched_front : AllZip IsTouched before after → (d : ℕ) → d < 4 → IsFront (crash.made d) (opening_ops (content (crash.histories d)))
  touched_front all d lt =
      let rest = (crash.each d lt).2 in
      let one : IsTouched (device_at before d) (device_at after d) = each_zip IsTouched before after _ _ d all (told_within before d (crash.histories d) (told d lt)) in
      front_of_front (crash.histories d) (device_at after d).told (crash.made d) rest.0 (opening_ops (content (crash.histories d))) rest.1
      (opened_front laws (crash.histories d) (device_at before d).told (device_at after d).told (told d lt) one.opened)

  pub touched_folds : AllZip IsTouched before after → FoldsAgain held a.head (length a.lists) a.fold images
  touched_folds all = opening_folds (touched_front all)

  -- ---- all are open, and the logs in use are being compacted

  module _ (few : length a.lists ≤ 2) (low : IsUnspentFold a.fold) (devices : ℕ → OpenDevice) (more : ℕ → List DevOp) (open_as : (d : ℕ) → d < 4 → IsOpenAs (crash.histories d) (devices d) × (crash.made d ≡ opening_ops (content (crash.histories d)) ++ more d)) (moment : AreMade devices more a.head (other_side a.head (length a.lists)) (length a.lists) (group_for (length a.lists) a.fold)) where
    -- the disk of an open device
    pub disk_open : (d : ℕ) → d < 4 → disk (devices d).history ≡ disk_after (opening_ops (content (crash.histories d))) (disk (crash.histories d))
    disk_open d lt = ap disk (open_as d lt).0.history ∙ disk_with (crash.histories d) (opening_ops (content (crash.histories d)))

    pub open_log : (d : ℕ) → d < 4 → DeviceLog (devices d).history (devices d).end (spelled (held d))
    open_log d lt =
        let at = (open_as d lt).0 in
        let bytes = content (devices d).history in
        let ops = opening_ops (content (crash.histories d)) in
        let image : IsImage (disk_after ops (disk (crash.histories d))) bytes = subst (λ (z : Disk). IsImage z bytes) (sym at.log.1.quiet ∙ disk_open d lt) (own_image bytes) in
        let kept : IsLog bytes (spelled (held d)) = opening_leaves d lt ops bytes ([], sym (append-nil ops)) image in
        let same : at.log.0 ≡ spelled (held d) = laws.list bytes at.log.0 (spelled (held d)) (laws.lists bytes (devices d).end at.log.0 at.log.1.log) kept in
        subst (λ (items : List (List ℕ)). DeviceLog (devices d).history (devices d).end items) same at.log.1

    abbrev pub held_at : (d : ℕ) → d < 4 → Held
    held_at d lt = record { history = (devices d).history; end = (devices d).end; records = held d; holds = record { log = open_log d lt; each = (holds d lt).each } }

    -- behind the last device one that is there
    abbrev pick : (d : ℕ) → (d < 4) ⊎ (4 ≤ d) → Held
    pick d (inl lt) = held_at d lt
    pick d (inr past) = held_at 0 first_low

    abbrev picked : ℕ → Held
    picked d = pick d (cases_lt d 4)

    pick_open : (d : ℕ) → d < 4 → (c : (d < 4) ⊎ (4 ≤ d)) → open_of (pick d c) ≡ devices d
    pick_open d lt (inl l) = refl
    pick_open d lt (inr past) = absurd (omega (arith, lt, past))

    open_same : (d : ℕ) → d < 4 → devices d ≡ open_on picked d
    open_same d lt = sym (pick_open d lt (cases_lt d 4))

    pick_records : (d : ℕ) → d < 4 → (c : (d < 4) ⊎ (4 ≤ d)) → (pick d c).records ≡ held d
    pick_records d lt (inl l) = refl
    pick_records d lt (inr past) = absurd (omega (arith, lt, past))

    picked_holds : (d : ℕ) → d < 4 → HoldsRecords (content (crash.histories d)) (records_on picked d)
    picked_holds d lt = subst (λ (rs : List Record). HoldsRecords (content (crash.histories d)) rs) (sym (pick_records d lt (cases_lt d 4))) (holds d lt)

    abbrev pick_image : (d : ℕ) → (d < 4) ⊎ (4 ≤ d) → List ℕ
    pick_image d (inl lt) = images d
    pick_image d (inr past) = content (held_at 0 first_low).history

    abbrev picked_image : ℕ → List ℕ
    picked_image d = pick_image d (cases_lt d 4)

    image_same : (d : ℕ) → d < 4 → (c : (d < 4) ⊎ (4 ≤ d)) → pick_image d c ≡ images d
    image_same d lt (inl l) = refl
    image_same d lt (inr past) = absurd (omega (arith, lt, past))

    sides : AreSides a.head (other_side a.head (length a.lists)) (length a.lists)
    sides = record {
      is_other = refl;
      some = some laws before crash.histories told held holds a;
      few = few;
      side = elim (side_used held 1 a.head (length a.lists) a.fold.generation (used_fold laws before crash.histories told held holds a)) [ inl first ↦ inl first | inr second ↦ inr (sym second) ];
    }

    -- those behind the last one got nothing
    none_past : (d : ℕ) → 4 ≤ d → more d ≡ []
    none_past d past =
        let low_other = other_low a.head (other_side a.head (length a.lists)) (length a.lists) sides in
        let low_head = head_low a.head (other_side a.head (length a.lists)) (length a.lists) sides in
        nothing_away devices more a.head (other_side a.head (length a.lists)) (length a.lists) (group_for (length a.lists) a.fold) d
        (λ on. omega (arith, on.before, low_other, past)) (λ on. omega (arith, on.before, low_head, past)) moment

    -- what is left of an open device
    pub left_open : (d : ℕ) → d < 4 → IsImage (disk_after (more d) (disk (devices d).history)) (images d)
    left_open d lt =
        let ops = opening_ops (content (crash.histories d)) in
        let same : disk_after (crash.made d) (disk (crash.histories d)) ≡ disk_after (more d) (disk (devices d).history) =
        ap (λ (xs : List DevOp). disk_after xs (disk (crash.histories d))) (open_as d lt).1 ∙ disk_join ops (more d) (disk (crash.histories d)) ∙ ap (disk_after (more d)) (sym (disk_open d lt)) in
        subst (λ (z : Disk). IsImage z (images d)) same (left d lt)

    pick_left : (d : ℕ) (c : (d < 4) ⊎ (4 ≤ d)) → IsImage (disk_after (more d) (disk (pick d c).history)) (pick_image d c)
    pick_left d (inl lt) = left_open d lt
    pick_left d (inr past) =
        let x = held_at 0 first_low in
        let same : settled (content x.history) ≡ disk_after (more d) (disk x.history) = sym x.holds.log.quiet ∙ ap (λ (xs : List DevOp). disk_after xs (disk x.history)) (sym (none_past d past)) in
        subst (λ (z : Disk). IsImage z (content x.history)) same (own_image (content x.history))

    all_left : AreImages picked more picked_image
    all_left d = pick_left d (cases_lt d 4)

    all_made : AreMade (open_on picked) more a.head (other_side a.head (length a.lists)) (length a.lists) (group_for (length a.lists) a.fold)
    all_made =
        let low_other = other_low a.head (other_side a.head (length a.lists)) (length a.lists) sides in
        let low_head = head_low a.head (other_side a.head (length a.lists)) (length a.lists) sides in
        made_same devices (open_on picked) more a.head (other_side a.head (length a.lists)) (length a.lists) (group_for (length a.lists) a.fold)
        (λ d on. open_same d (omega (arith, on.before, low_other))) (λ d on. open_same d (omega (arith, on.before, low_head))) (other_on a.head (length a.lists) sides.some) moment

    may : MayCompact (records_on picked) a.head (length a.lists) a.fold
    may =
        let room = none_spent a.fold low in
        record {
          used = used_fold laws before crash.histories told (records_on picked) picked_holds a;
          some = some laws before crash.histories told held holds a;
          few = few;
          folded = folded_are laws before crash.histories told (records_on picked) picked_holds a;
          generation = room.generation;
          next_tid = room.next_tid;
          next_bid = room.next_bid;
          next_c = room.next_c;
          batches = room.batches;
          acts = room.acts;
        }

    -- of the logs in use they are the same
    picked_lists : logs_from (records_on picked) a.head (length a.lists) ≡ logs_from held a.head (length a.lists)
    picked_lists = sym (lists_are laws before crash.histories told (records_on picked) picked_holds a) ∙ lists_are laws before crash.histories told held holds a

    which_are : (now : ℕ → List Record) (head : ℕ) (g : Folded) → AreSameOrNext (records_on picked) now a.head head (length a.lists) a.fold g → AreSameOrNext held now a.head head (length a.lists) a.fold g
    which_are now head g (inl still) = inl (still.0, still.1 ∙ picked_lists, still.2)
    which_are now head g (inr next) = inr next

    pub compacting_folds : FoldsAgain held a.head (length a.lists) a.fold images
    compacting_folds =
        let fits = laws.fits a.lists (length a.lists) a.fold a.given.each a.folded refl (some laws before crash.histories told held holds a) (omega (arith, few)) (none_spent a.fold low) in
        let end = laws.crashed picked more a.head (length a.lists) a.fold picked_image may fits.1 all_made all_left in
        record {
          now = end.now;
          holds = λ d lt. subst (λ (z : List ℕ). HoldsRecords z (end.now d)) (image_same d lt (cases_lt d 4)) (end.are_logs d);
          head = end.folds.head;
          fold = end.folds.fold;
          used = end.folds.used;
          folded = end.folds.folded;
          same = end.folds.same;
          which = which_are end.now end.folds.head end.folds.fold end.folds.which;
        }

  -- the logs in use are not refused
  module _ (few : length a.lists ≤ 2) (low : IsUnspentFold a.fold) where
    pub begun_folds : FoldsAgain held a.head (length a.lists) a.fold images
    begun_folds = elim (crash.moment) [ inl front ↦ opening_folds front | inr at ↦ compacting_folds few low at.0 at.1 at.2 at.3 ]

  pub same_numbers : (b : AreFolded before) → (length b.lists ≡ length a.lists) × (b.fold ≡ a.fold)
  same_numbers b = (same_many laws before crash.histories told held holds b a, same_fold laws before crash.histories told held holds b a)
