use Rattle.std.proofs.Common.{◌≡◌, ◌++◌, string_bytes, take}
use Rattle.std.specs.Prelude.{codes}
use Rattle.std.specs.List.{flat_map}
use Rattle.std.specs.Fmt.{decimal, signed_decimal}
use Rattle.snap_report.proofs.lines.actor_line.Given as goal

-- the fields so far are printed
abbrev pub invariant-loop-value : goal.invariant-loop-value
invariant-loop-value l =
    string_bytes l.line ≡ codes "actor " ++ (decimal l.fn.actor.0 ++ flat_map (λ z. codes " " ++ signed_decimal z) (take l.value-index l.value-items))
