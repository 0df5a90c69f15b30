use Rattle.std.specs.Prelude.{refl, None}
use Rattle.std.proofs.Common.{arith}
use Rattle.protocol_theorems.proofs.halves.BookEquations as equations
use Rattle.protocol_theorems.proofs.halves.FitsKept.{live_at, orders_of}
use Rattle.protocol_theorems.proofs.books.books_are_of_parts.Goals as goal

pub returns-clause-begins : goal.returns-clause-begins
returns-clause-begins g f = λ w. record { is = refl; fits = record { apart = λ n. omega arith; bare = tt; voted = tt; known = tt } }

pub returns-clause-admits : goal.returns-clause-admits
returns-clause-admits g f = equations.admits

pub returns-clause-arrives : goal.returns-clause-arrives
returns-clause-arrives g f = equations.arrives

pub returns-clause-dies : goal.returns-clause-dies
returns-clause-dies g f = equations.dies

pub returns-clause-joins : goal.returns-clause-joins
returns-clause-joins g f = λ o v cs group t a m e. equations.asks o v cs None group t a m e

pub returns-clause-ends : goal.returns-clause-ends
returns-clause-ends g f = λ o v cs t is_act actors x h n. equations.ends o v cs t is_act actors x h.bare n

pub returns-clause-prepares : goal.returns-clause-prepares
returns-clause-prepares g f = λ o v cs t a h n. equations.prepares o v cs t a n h.voted

pub returns-clause-vouches : goal.returns-clause-vouches
returns-clause-vouches g f = λ o v cs t a h n. equations.vouches o v cs t a n h.voted

pub returns-clause-decides : goal.returns-clause-decides
returns-clause-decides g f = λ o v cs t h n l. equations.decides o v cs t (live_at t v.acts o.acts n l (orders_of o v h))

pub returns-clause-seals : goal.returns-clause-seals
returns-clause-seals g f = λ o v cs t h. equations.seals o v cs t h.bare h.voted

pub returns-clause-finishes : goal.returns-clause-finishes
returns-clause-finishes g f = equations.finishes

pub returns-clause-aborts : goal.returns-clause-aborts
returns-clause-aborts g f = equations.aborts
