-- Members that are kept in groups, each group by a number.
use Rattle.std.specs.Prelude.{ℕ, ◌==◌, if◌then◌else◌, List, [], ◌∷◌, map, slice_index_or, Vec}
use Rattle.std.specs.declared.alloc.Global.{Global}
use Rattle.audit_tale.specs.declared.tales.MemberTale.{MemberTale}

abbrev pub group_items : Vec MemberTale Global → List MemberTale
group_items g = g.items

-- the members of group k; none where there is no such group
abbrev pub group_at : List (Vec MemberTale Global) → ℕ → List MemberTale
group_at groups k = slice_index_or (map group_items groups) k []

-- what group k gains when the member is put into group n
abbrev pub gained : ℕ → ℕ → MemberTale → List MemberTale
gained n k m = if k == n then m ∷ [] else []
