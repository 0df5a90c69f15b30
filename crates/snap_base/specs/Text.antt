-- How places and verdicts are printed.
use Rattle.std.specs.Prelude.{ℕ, List, ◌++◌, codes}
use Rattle.std.specs.Fmt.{decimal, signed_decimal}
use Rattle.snap_base.specs.declared.verdicts.Place.{Place}
use Rattle.snap_base.specs.declared.verdicts.Verdict.{Verdict}
use Rattle.snap_base.specs.declared.verdicts.Verdict.TheVariants.{Committed, Code, BatchCode, Cascade, Died, Order, Unsure}

-- a place: its batch, its side and its order, with points between them
abbrev pub place_text : Place → List ℕ
place_text p = decimal p.batch.0 ++ (codes "." ++ (decimal p.side ++ (codes "." ++ decimal p.order)))

-- what became of a transaction, as its reply tells it
abbrev pub verdict_text : Verdict → List ℕ
verdict_text (Committed place value) = codes "committed " ++ (place_text place ++ (codes " " ++ signed_decimal value))
verdict_text (Code place code) = codes "code " ++ (place_text place ++ (codes " " ++ decimal code))
verdict_text (BatchCode batch at code) = codes "batchcode " ++ (decimal batch.0 ++ (codes " " ++ (decimal at ++ (codes " " ++ decimal code))))
verdict_text (Cascade batch by) = codes "cascade " ++ (decimal batch.0 ++ (codes " " ++ decimal by.0))
verdict_text (Died actor older own) =
    codes "died actor " ++ (decimal actor.0 ++ (codes " older " ++ (decimal older.0 ++ (codes " own " ++ decimal own.0))))
verdict_text (Order before after actor) =
    codes "order before " ++ (decimal before.0 ++ (codes " after " ++ (decimal after.0 ++ (codes " actor " ++ decimal actor.0))))
verdict_text (Unsure log) = codes "unsure " ++ decimal log
