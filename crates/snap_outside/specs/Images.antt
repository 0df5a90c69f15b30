-- Three of the things that a crash may leave of a disk: what the sync fixed, what a read gives, and what a
-- read gives with each place that is not fixed filled with one byte. The first two are fields of the disk.
use Rattle.std.specs.Prelude.{ℕ, ◌-◌, min, List, [], ◌∷◌, length, replicate}
use Rattle.snap_outside.specs.Disk.{Disk, overwritten}

-- bytes with a range of them filled, as far as they go: from where, how long
abbrev pub filled : ℕ → (ℕ × ℕ) → List ℕ → List ℕ
filled byte range old = overwritten old range.0 (replicate (min range.1 (length old - range.0)) byte)

-- bytes with each of the ranges filled
abbrev pub all_filled : ℕ → List (ℕ × ℕ) → List ℕ → List ℕ
all_filled byte [] old = old
all_filled byte (range ∷ ranges) old = filled byte range (all_filled byte ranges old)

-- each range written since the sync is filled, and all past the synced end
abbrev pub filled_image : ℕ → Disk → List ℕ
filled_image byte d = all_filled byte (record { 0 = length d.synced; 1 = length d.now } ∷ d.loose) d.now
