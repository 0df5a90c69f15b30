use Rattle.std.proofs.Common.{rules, ◌≡◌, subst, List, ℕ, take}
use Rattle.snap_outside.specs.Disk.{IsImage}
use Rattle.snap_outside.specs.Images.{filled_image}
use Rattle.snap_outside.specs.MemoryLog.{disk_at}
use Rattle.snap_outside.proofs.Images.{read_image, synced_image, filled_is_image}
use Rattle.snap_outside.proofs.memory.MemLog.image.Goals as goal
use Rattle.snap_outside.proofs.memory.MemLog.image.Goals.{in-0, in-2, in_default}

pub returns-clause-image : goal.returns-clause-image
returns-clause-image c =
    let d = disk_at c.args.self.now c.args.ops in
    let read : IsImage d d.now = read_image (take c.args.ops c.args.self.now.ops.items) c.args.self.now.first in
    let P : List ℕ → Type 0 = λ image. IsImage d image in
    elim c.match-choice.branch [
      | in-0 w ↦ let same : d.synced ≡ c.match-choice.result.items = search rules in subst P same (synced_image d read)
      | in-2 w ↦ let same : d.now ≡ c.match-choice.result.items = search rules in subst P same read
      | in_default w ↦ let same : filled_image c.args.choice d ≡ c.match-choice.result.items = search rules in subst P same (filled_is_image c.args.choice d read)
    ]
