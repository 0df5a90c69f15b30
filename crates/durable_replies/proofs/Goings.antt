-- How a play goes on from a point where from there each call fails: to an end, with nothing more made and nothing more printed; and what a
-- crash at the point leaves is what it leaves there.
use Rattle.std.specs.Prelude.{◌≡◌, refl, ℕ, ◌<◌, ◌==◌, ◌⊎◌, Bool, true, false, if◌then◌else◌, List, [], ◌∷◌, ◌++◌}
use Rattle.std.proofs.Common.{sym, ap, subst, ◌∙◌, inl, inr}
use Rattle.std.proofs.lemmas.List.{append-nil, append_assoc}
use Rattle.std.proofs.lemmas.List.Concat.{flat_map-append}
use Rattle.core_events.specs.declared.events.Event.{Event}
use Rattle.snap_outside.proofs.Images.{image_is, read_image, read_kept}
use Rattle.snap_outside.specs.Disk.{DeviceHistory, Disk, disk, disk_after, settled, IsImage}
use Rattle.snap_outside.specs.Moments.{disk_join}
use Rattle.snap_outside.specs.declared.devices.DevOp.{DevOp}
use Rattle.snap_outside.specs.declared.devices.DevOp.TheVariants.{Write, Sync}
use Rattle.snap_report.specs.declared.statuses.Status.{Status}
use Rattle.durable_replies.specs.Bodies.{Answer, Failed, Body, Ends, Calls, Length, Read, Change, Print, Trace, Take, Room}
use Rattle.durable_replies.specs.Durable.{CrashAt}
use Rattle.durable_replies.specs.Plays.{Outside, Happening, Made, Broke, device, op_on, ops_on, printed_at, printed_in, part_of, failed, failed_behind, Play, stands, goes}

-- one play, and one that goes on from its point
pub play_join : (o : Outside) (b mid rest : Body) (past point all : List Happening) → Play o b past mid point → Play o mid point rest all → Play o b past rest all
play_join o b mid rest past point all stands more = more
play_join o b mid rest past point all (goes {next = next} {past = before} {new = new} {a = a} may first) more = goes may (play_join o (next a) mid rest (before ++ new) point all first more)

-- ---- each call fails

-- the body ends behind these, in which no device got an operation and nothing was printed
record Broken (o : Outside) (b : Body) (hs : List Happening) : Type 0 where
  more : List Happening
  status : Status
  kept : List Event
  play : Play o b hs (Ends status kept) (hs ++ more)
  made : (d : ℕ) → ops_on d more ≡ []
  printed : printed_in more ≡ []

breaks_down : (o : Outside) (b : Body) (hs : List Happening) → Broken o b hs
breaks_down o (Ends s kept) hs = record {
  more = [];
  status = s;
  kept = kept;
  play = subst (Play o (Ends s kept) hs (Ends s kept)) (sym (append-nil hs)) stands;
  made = λ d. refl;
  printed = refl;
}
breaks_down o (Calls c next) hs =
    let later = breaks_down o (next Failed) (hs ++ Broke (part_of c) ∷ []) in
    record {
      more = Broke (part_of c) ∷ later.more;
      status = later.status;
      kept = later.kept;
      play = subst (Play o (Calls c next) hs (Ends later.status later.kept)) (append_assoc hs (Broke (part_of c) ∷ []) later.more) (goes (failed c) later.play);
      made = λ d. later.made d;
      printed = later.printed;
    }

-- ---- from a point

pub ops_join : (d : ℕ) (xs ys : List Happening) → ops_on d (xs ++ ys) ≡ ops_on d xs ++ ops_on d ys
ops_join d xs ys = flat_map-append (op_on d) xs ys

pub printed_join : (xs ys : List Happening) → printed_in (xs ++ ys) ≡ printed_in xs ++ printed_in ys
printed_join xs ys = flat_map-append printed_at xs ys

-- with nothing more made on a device
pub no_more_ops : (d : ℕ) (xs ys : List Happening) → ops_on d ys ≡ [] → ops_on d (xs ++ ys) ≡ ops_on d xs
no_more_ops d xs ys none = ops_join d xs ys ∙ (ap (λ (z : List DevOp). ops_on d xs ++ z) none ∙ append-nil (ops_on d xs))

pub no_more_printed : (xs ys : List Happening) → printed_in ys ≡ [] → printed_in (xs ++ ys) ≡ printed_in xs
no_more_printed xs ys none = printed_join xs ys ∙ (ap (λ (z : List ℕ). printed_in xs ++ z) none ∙ append-nil (printed_in xs))

-- The body goes on to an end, in all with these. What was printed is what was at the point, and what a crash at the point left of the devices
-- is what one leaves of them now.
pub record Settled (o : Outside) (b : Body) (past : List Happening) (hs : List Happening) (images : ℕ → List ℕ) : Type 0 where
  pub all : List Happening
  pub status : Status
  pub kept : List Event
  pub play : Play o b past (Ends status kept) all
  pub printed : printed_in all ≡ printed_in hs
  pub left : (d : ℕ) → d < 4 → IsImage (disk_after (ops_on d all) (disk (o.devices d))) (images d)

abbrev LeftAt : Outside → List Happening → (ℕ → List ℕ) → Type 0
LeftAt o hs images = (d : ℕ) → d < 4 → IsImage (disk_after (ops_on d hs) (disk (o.devices d))) (images d)

moved : (o : Outside) (hs more : List Happening) (images : ℕ → List ℕ) → ((d : ℕ) → ops_on d more ≡ ops_on d hs) → LeftAt o hs images → LeftAt o more images
moved o hs more images same left d lt = subst (λ (ops : List DevOp). IsImage (disk_after ops (disk (o.devices d))) (images d)) (sym (same d)) (left d lt)

-- nothing of the next call was made
settles : (o : Outside) (b : Body) (hs : List Happening) (images : ℕ → List ℕ) → LeftAt o hs images → Settled o b hs hs images
settles o b hs images left =
    let broken = breaks_down o b hs in
    record {
      all = hs ++ broken.more;
      status = broken.status;
      kept = broken.kept;
      play = broken.play;
      printed = no_more_printed hs broken.more broken.printed;
      left = moved o hs (hs ++ broken.more) images (λ d. no_more_ops d hs broken.more (broken.made d)) left;
    }

-- a write was made, and its call fails
written : (o : Outside) (d at : ℕ) (bytes : List ℕ) (next : Answer → Body) (hs : List Happening) (images : ℕ → List ℕ)
    → LeftAt o (hs ++ Made d (Write at bytes) ∷ []) images → Settled o (Calls (Change d (Write at bytes)) next) hs hs images
written o d at bytes next hs images left =
    let new : List Happening = Made d (Write at bytes) ∷ Broke (device d) ∷ [] in
    let broken = breaks_down o (next Failed) (hs ++ new) in
    let same : (e : ℕ) → ops_on e ((hs ++ new) ++ broken.more) ≡ ops_on e (hs ++ Made d (Write at bytes) ∷ []) =
    λ e. no_more_ops e (hs ++ new) broken.more (broken.made e) ∙ (ops_join e hs new ∙ sym (ops_join e hs (Made d (Write at bytes) ∷ []))) in
    record {
      all = (hs ++ new) ++ broken.more;
      status = broken.status;
      kept = broken.kept;
      play = goes (failed_behind d at bytes) broken.play;
      printed = no_more_printed (hs ++ new) broken.more broken.printed ∙ no_more_printed hs new refl;
      left = moved o (hs ++ Made d (Write at bytes) ∷ []) ((hs ++ new) ++ broken.more) images same left;
    }

-- what a sync leaves might be left before it
before_sync : (h : DeviceHistory) (ops : List DevOp) (image : List ℕ) → IsImage (disk_after (ops ++ Sync ∷ []) (disk h)) image → IsImage (disk_after ops (disk h)) image
before_sync h ops image left =
    let now : IsImage (settled (disk_after ops (disk h)).now) image = subst (λ (k : Disk). IsImage k image) (disk_join ops (Sync ∷ []) (disk h)) left in
    subst (IsImage (disk_after ops (disk h))) (sym (image_is (disk_after ops (disk h)).now image now)) (read_kept ops (disk h) (read_image h.ops h.first))

synced : (o : Outside) (d : ℕ) (hs : List Happening) (images : ℕ → List ℕ) → LeftAt o (hs ++ Made d Sync ∷ []) images → LeftAt o hs images
synced o d hs images left e lt = by (d == e) (subst (λ (ops : List DevOp). IsImage (disk_after ops (disk (o.devices e))) (images e)) (ops_join e hs (Made d Sync ∷ [])) (left e lt))
  where
    by : (t : Bool) → IsImage (disk_after (ops_on e hs ++ ((if t then Sync ∷ [] else []) ++ [])) (disk (o.devices e))) (images e) → IsImage (disk_after (ops_on e hs) (disk (o.devices e))) (images e)
    by true k = before_sync (o.devices e) (ops_on e hs) (images e) k
    by false k = subst (λ (ops : List DevOp). IsImage (disk_after ops (disk (o.devices e))) (images e)) (append-nil (ops_on e hs)) k

-- at a call of a device
changing : (o : Outside) (d : ℕ) (op : DevOp) (next : Answer → Body) (hs : List Happening) (images : ℕ → List ℕ) → LeftAt o (hs ++ Made d op ∷ []) images
    → Settled o (Calls (Change d op) next) hs hs images
changing o d (Write at bytes) next hs images left = written o d at bytes next hs images left
changing o d Sync next hs images left = settles o (Calls (Change d Sync) next) hs images (synced o d hs images left)

none_under : (o : Outside) (hs under : List Happening) (images : ℕ → List ℕ) → LeftAt o (hs ++ under) images → under ≡ [] → LeftAt o hs images
none_under o hs under images left none = subst (λ (xs : List Happening). LeftAt o xs images) (ap (λ (xs : List Happening). hs ++ xs) none ∙ append-nil hs) left

at_point : (o : Outside) (rest : Body) (hs : List Happening) (images : ℕ → List ℕ) → CrashAt o hs rest images → Settled o rest hs hs images
at_point o (Ends s kept) hs images crash = settles o (Ends s kept) hs images (none_under o hs crash.under images crash.left crash.may)
at_point o (Calls (Length d) next) hs images crash = settles o (Calls (Length d) next) hs images (none_under o hs crash.under images crash.left crash.may)
at_point o (Calls (Read d at room) next) hs images crash = settles o (Calls (Read d at room) next) hs images (none_under o hs crash.under images crash.left crash.may)
at_point o (Calls (Print bytes) next) hs images crash = settles o (Calls (Print bytes) next) hs images (none_under o hs crash.under images crash.left crash.may)
at_point o (Calls (Trace bytes) next) hs images crash = settles o (Calls (Trace bytes) next) hs images (none_under o hs crash.under images crash.left crash.may)
at_point o (Calls (Take room) next) hs images crash = settles o (Calls (Take room) next) hs images (none_under o hs crash.under images crash.left crash.may)
at_point o (Calls (Room bytes) next) hs images crash = settles o (Calls (Room bytes) next) hs images (none_under o hs crash.under images crash.left crash.may)
at_point o (Calls (Change d op) next) hs images crash = by crash.may
  where
    by : (crash.under ≡ []) ⊎ (crash.under ≡ Made d op ∷ []) → Settled o (Calls (Change d op) next) hs hs images
    by (inl none) = settles o (Calls (Change d op) next) hs images (none_under o hs crash.under images crash.left none)
    by (inr made) = changing o d op next hs images (subst (λ (xs : List Happening). LeftAt o (hs ++ xs) images) made crash.left)

-- a play that was cut off at a crash, gone on with
pub goes_on : (o : Outside) (b rest : Body) (hs : List Happening) (images : ℕ → List ℕ) → Play o b [] rest hs → CrashAt o hs rest images → Settled o b [] hs images
goes_on o b rest hs images play crash =
    let more = at_point o rest hs images crash in
    record {
      all = more.all;
      status = more.status;
      kept = more.kept;
      play = play_join o b rest (Ends more.status more.kept) [] hs more.all play more.play;
      printed = more.printed;
      left = more.left;
    }
