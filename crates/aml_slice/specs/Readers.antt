-- A transaction all of whose open calls are of methods that promise only to read.
use Rattle.std.specs.Prelude.{IsTrue, List, ◌∷◌, ⊤}
use Rattle.std.specs.List.{AllByRecursion}
use Rattle.aml_tree.specs.Tree.{CheckedMethod}
use Rattle.aml_check.specs.Names.{method_at}
use Rattle.snap_base.specs.declared.next.Next.{Next}
use Rattle.snap_base.specs.declared.next.Next.TheVariants.{Go, Ended}
use Rattle.aml_slice.specs.Controls.{Frame, Rest}

abbrev pub IsReading : List CheckedMethod → Frame → Type 0
IsReading p f = IsTrue (method_at p f.method).is_read

abbrev pub AllReading : List CheckedMethod → Rest → Type 0
AllReading p c = AllByRecursion (IsReading p) (c.top ∷ c.waiting)

-- so is what a slice hands on
abbrev pub HandsOnReading : List CheckedMethod → Next Rest → Type 0
HandsOnReading p (Go b d) = AllReading p d
HandsOnReading p (Ended r) = ⊤
