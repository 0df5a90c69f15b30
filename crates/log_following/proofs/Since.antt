-- What is read of devices that hold what they held is what they held.
use Rattle.std.proofs.Common.{ℕ, List, refl, ◌∙◌, subst, arith, Option}
use Rattle.std.specs.Prelude.{IfSome}
use Rattle.snap_outside.specs.Causes.{Rose}
use Rattle.snap_outside.specs.Disk.{DeviceHistory, content}
use Rattle.gate_log.specs.declared.logs.LogItem.{LogItem}
use Rattle.gate_log.specs.declared.opens.OpenNo.{OpenNo}
use Rattle.gate_log.specs.Opened.{Refused}
use Rattle.log_reading.specs.Read.{IsReadFrom}
use Rattle.log_opening.specs.Devices.{Device, device_at}
use Rattle.log_opening.specs.Upgrades.{items_at}
use Rattle.log_opening.specs.declared.refusals.LogsNo.{LogsNo}
use Rattle.log_compact.specs.declared.checkpoints.Counts.{Counts}
use Rattle.snap_follow.specs.Rounds.{Following}
use Rattle.log_following.specs.Steps.{IsNextRound}
use Rattle.log_following.specs.Readings.{AreAllRead, AreUntouched, IsNoItems, IsNotRead, IsReadOn, IsLeftAsItWas, IsUnread, no_log, no_memory}

pub never_touched : (before : List Device) → AreUntouched before before
never_touched before = record { many = refl; each = λ d. record { told = refl; later = omega arith } }

pub untouched_since : (before now after : List Device) → AreUntouched before now → AreUntouched now after → AreUntouched before after
untouched_since before now after one next = record {
  many = next.many ∙ one.many;
  each = λ d. record { told = (next.each d).told ∙ (one.each d).told; later = omega (arith, (one.each d).later, (next.each d).later) };
}

pub read_on_since : (before now : Device) (items : List LogItem) → IsLeftAsItWas before now → IsReadOn now items → IsReadOn before items
read_on_since before now items same read = subst (λ (t : Option DeviceHistory). IfSome t (λ h. IsReadFrom (content h) items)) same.told read

pub read_since : (before now : List Device) (items : List (List LogItem)) → AreUntouched before now → AreAllRead now items → AreAllRead before items
read_since before now items same read = record {
  many = read.many;
  each = λ d lt. read_on_since (device_at before d) (device_at now d) (items_at items d) (same.each d) (read.each d lt);
}

pub unread_since : (before now after : Device) (why : OpenNo) → IsLeftAsItWas before now → IsUnread now after why → IsUnread before after why
unread_since before now after why same is = record {
  refused = subst (λ (t : Option DeviceHistory). Refused t after.told why) same.told is.refused;
  failed = λ e. let rose : Rose now.faults after.faults = is.failed e in omega (arith, rose, same.later);
}

not_read_since : (before now after : List Device) (log : ℕ) (why : OpenNo) → AreUntouched before now → IsNotRead now after log why → IsNotRead before after log why
not_read_since before now after log why same is = record {
  there = is.there;
  unread = unread_since (device_at before log) (device_at now log) (device_at after log) why (same.each log) is.unread;
  below = λ d lt. let items = is.below d lt in (items.0, read_on_since (device_at before d) (device_at now d) items.0 (same.each d) items.1);
}

pub no_items_since : (before now after : List Device) (no : LogsNo) → AreUntouched before now → IsNoItems now after no → IsNoItems before after no
no_items_since before now after _ same no_memory = no_memory
no_items_since before now after _ same (no_log log why is) = no_log log why (not_read_since before now after log why same is)

-- a round over what was read of them is one over what they held
pub next_since : (before now : List Device) (head count : ℕ) (f known : Following) (counts : Counts) → AreUntouched before now → IsNextRound now head count f known counts
    → IsNextRound before head count f known counts
next_since before now head count f known counts same next = record {
  items = next.items;
  read = read_since before now next.items same next.read;
  lists = next.lists;
  are = next.are;
  may = next.may;
  round = next.round;
  counted = next.counted;
}
