-- What shows of a part that stands in a box shows of it where the box lends it.
use Rattle.std.proofs.Common.{◌≡◌, Option, Some, sym, ap, ◌∙◌}
use Rattle.aml_slice.specs.Controls.{Rest}
use Rattle.core_rows.specs.cell_part.Room.{Roomed}
use Rattle.core_rows.specs.log_set.Logs.{LogList, PendingState}
use Rattle.core_rows.specs.post_box.PostBox.{PostBox}
use Rattle.protocol.specs.Parts.{Cell, Post}

-- the ring, the book or the desk
pub lent : {X : Type 0} (o : Option X) (x y : X) → o ≡ Some x → y ≡ x → o ≡ Some y
lent o x y at is = at ∙ ap Some (sym is)

pub lent_post : (o : Option (Post Rest)) (x y : PostBox Rest) → o ≡ Some x.messages → y ≡ x → o ≡ Some y.messages
lent_post o x y at is = at ∙ ap (λ (z : PostBox Rest). Some z.messages) (sym is)

pub lent_log : (o : Option (Option LogList)) (x y : PendingState) → o ≡ Some (Some x.log) → y ≡ x → o ≡ Some (Some y.log)
lent_log o x y at is = at ∙ ap (λ (z : PendingState). Some (Some z.log)) (sym is)

pub lent_cell : (o : Option (Option (Cell Rest))) (x y : Roomed Rest) → o ≡ Some (Some x.cell) → y ≡ x → o ≡ Some (Some y.cell)
lent_cell o x y at is = at ∙ ap (λ (z : Roomed Rest). Some (Some z.cell)) (sym is)
