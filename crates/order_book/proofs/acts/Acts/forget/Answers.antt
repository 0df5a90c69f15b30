use Rattle.std.proofs.Common.{◌∙◌, ℕ, ap, map}
use Rattle.order_book.specs.Kept.{seen}
use Rattle.order_book.proofs.Rows.{seen_later, seen_cut, under_cut}
use Rattle.order_book.proofs.acts.Acts.forget.Goals as goal

pub invariant_of-self-in-None : goal.invariant_of-self-in-None
invariant_of-self-in-None c = rw c.cut_rows.ensures (under_cut c.self.inside.rows.items)

pub returns-in-Some : goal.returns-in-Some
returns-in-Some c =
    rw (← c.self.view_is) (ap (λ (n : ℕ). map (seen n) c.self.inside.rows.items) c.in-Some.ensures.1 ∙ seen_later c.self.inside.epoch c.self.inside.rows.items c.self.invariant)

pub returns-in-None : goal.returns-in-None
returns-in-None c = rw (c.cut_rows.ensures, ← c.self.view_is) (seen_cut c.self.inside.epoch c.self.inside.rows.items)
