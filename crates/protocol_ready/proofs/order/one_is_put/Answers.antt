use Rattle.std.proofs.Common.{sym, inl, inr}
use Rattle.protocol_ready.specs.Ready.{put}
use Rattle.protocol_ready.proofs.Listing.{from_has, to_has}
use Rattle.protocol_ready.proofs.Ordered.{put_from, put_has}
use Rattle.protocol_ready.proofs.order.one_is_put.Goals as goal

pub returns : goal.returns
returns c e es f = (
  (λ h. elim (put_from e es f (to_has (put e es) f h)) [ inl same ↦ inl (sym same) | inr there ↦ inr (from_has es f there) ]),
  (λ h. from_has (put e es) f (put_has e es f (elim h [ inl same ↦ inl (sym same) | inr there ↦ inr (to_has es f there) ]))),
)
