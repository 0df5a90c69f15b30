use Rattle.std.specs.Prelude.{[]}
use Rattle.snap_outside.specs.Disk.{DeviceHistory}
use Rattle.followed_bytes.proofs.laws.what_reading_finds_is_held.Goals as goal

pub returns : goal.returns
returns c bytes items rs read are =
    let h : DeviceHistory = record { first = bytes; ops = [] } in
    let found = c.read_is_opened.ensures h items read in
    c.opened_holds.ensures.before h found.0 found.1 items rs found.2 are
