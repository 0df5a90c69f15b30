-- Kind and numbers are of one event.
use Rattle.std.specs.Prelude.{◌≡◌, refl, ℕ, true}
use Rattle.std.proofs.Common.{sym}
use Rattle.std.proofs.lemmas.Bool.{eqb-true, and_parts}
use Rattle.protocol.specs.Events.{Event}
use Rattle.protocol.specs.Schedule.{rank, ranked}
use Rattle.protocol_ready.proofs.Ordered.{one_event}
use Rattle.ready_list.specs.Order.{is_one}

one_rank : (k l f g m n : ℕ) → k ≡ l → f ≡ g → m ≡ n → ranked k f m ≡ ranked l g n
one_rank k l f g m n d e h = rw (d, e, h) refl

pub one : (e f : Event) → is_one e f ≡ true → f ≡ e
one e f h =
    let p = and_parts _ _ h in
    let q = and_parts _ _ p.1 in
    sym (one_event e f (one_rank _ _ _ _ _ _ (eqb-true (rank e).kind (rank f).kind p.0) (eqb-true (rank e).first (rank f).first q.0) (eqb-true (rank e).second (rank f).second q.1)))
