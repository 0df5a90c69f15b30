-- Short texts and their first faults.
use Rattle.std.proofs.Common.{◌≡◌, [], ◌∷◌, Some, Ok, Err, codes, refl}
use Rattle.snap_base.specs.Lines.{lines}
use Rattle.snap_work.specs.declared.faults.WorkCause.TheVariants as cause
use Rattle.work_text.specs.Lines.{numbered, up_to_end}
use Rattle.work_text.specs.Reads.{reads_lines}
use Rattle.work_text.specs.Readings.{fault}

-- the last line may lack its line feed
last_line : (lines (codes "a\nb") ≡ codes "a" ∷ codes "b" ∷ []) × (lines (codes "a\nb\n") ≡ codes "a" ∷ codes "b" ∷ []) × (lines [] ≡ []) × (lines (codes "\n") ≡ [] ∷ [])
last_line = (refl, refl, refl, refl)

-- the program's lines are not skipped, and `end` is exactly that
program_of_three_lines : up_to_end (numbered 8 (codes "# a" ∷ [] ∷ codes "end " ∷ codes "end" ∷ codes "b" ∷ [])) ≡ Some (codes "# a" ∷ [] ∷ codes "end " ∷ [], record { number = 12; bytes = codes "b" } ∷ [])
program_of_three_lines = refl

empty_text : reads_lines 1 [] (Err (fault 1 cause.BadHeader))
empty_text = (Err (fault 1 cause.BadHeader), refl, refl)

other_header : reads_lines 2 (numbered 1 (lines (codes "snapper 2\n"))) (Err (fault 1 cause.BadHeader))
other_header = (Err (fault 1 cause.BadHeader), (Err (fault 1 cause.BadHeader), refl, refl), refl)

-- a comment has a number too
ends_too_early : reads_lines 3 (numbered 1 (lines (codes "# a\nsnapper 1\n"))) (Err (fault 3 cause.BadHeader))
ends_too_early = (Ok (2, []), (Ok 2, refl, refl), (Err (fault 3 cause.BadHeader), refl, refl))
