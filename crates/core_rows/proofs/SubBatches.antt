-- A sub-batch that comes to an actor.
use Rattle.std.proofs.Common.{◌≡◌, ℕ, ◌==◌, true, List, Option, Some, is_some, map, length, sym, ap, ◌∙◌}
use Rattle.std.specs.Prelude.{◌&&◌, slice_get}
use Rattle.std.specs.Option.{option_map}
use Rattle.std.proofs.lemmas.Bool.{and_parts, eqb-true}
use Rattle.std.proofs.lemmas.List.{length-map}
use Rattle.snap_base.specs.declared.transactions.SubBatch as base
use Rattle.protocol.specs.Meant.{sub_batch, tid_number}
use Rattle.protocol.specs.OnBook.{batch_arrived}
use Rattle.protocol.specs.Parts.{SubBatch, Cell, Machine}
use Rattle.protocol.specs.Events.{Arrive}
use Rattle.protocol.specs.Conditions.{conditions, epoch, IsAllowed}
use Rattle.protocol.specs.Fixed.{Fixed}
use Rattle.protocol.specs.Words.{holds, sub_of}
use Rattle.book_part.specs.Halves.{Halves}
use Rattle.post_box.specs.PostBox.{PostBox}

-- it is under way
pub is_under_way : {C : Type 0} (w : Fixed C) (s : Machine C) (p : PostBox C) (k a : ℕ) → IsAllowed w (Arrive k a) s → s.post ≡ p.messages → is_some (sub_of k a p.messages.subs) ≡ true
unfolding conditions
is_under_way w s p k a ok shows = ap (λ q. is_some (sub_of k a q.subs)) (sym shows) ∙ ok.0

-- it is of the cell's epoch, and the batch before it is the cell's last one
pub comes_next : {C : Type 0} (w : Fixed C) (s : Machine C) (c : Cell C) (k a : ℕ) (m : SubBatch) → IsAllowed w (Arrive k a) s → slice_get s.cells a ≡ Some c → sub_of k a s.post.subs ≡ Some m
    → (m.epoch ≡ c.epoch) × (m.prev ≡ c.tail)
unfolding conditions
comes_next w s c k a m ok shows is =
    let epochs = and_parts (m.epoch == epoch s.book) (c.epoch == epoch s.book)
    (ap (λ o. (m.epoch == epoch s.book) && holds (λ x. x.epoch == epoch s.book) o) (sym shows)
    ∙ (ap (holds (λ n. (n.epoch == epoch s.book) && holds (λ x. x.epoch == epoch s.book) (slice_get s.cells a))) (sym is) ∙ ok.1.1.0)) in
    let before = ap (λ o. holds (λ x. m.prev == x.tail) o) (sym shows) ∙ (ap (holds (λ n. holds (λ x. n.prev == x.tail) (slice_get s.cells a))) (sym is) ∙ ok.1.1.1.0) in
    (eqb-true m.epoch (epoch s.book) epochs.0 ∙ sym (eqb-true c.epoch (epoch s.book) epochs.1), eqb-true m.prev c.tail before)

-- what is taken is what was found
pub is_found : (r : Option base.SubBatch) (o : Option SubBatch) (s : base.SubBatch) → option_map sub_batch r ≡ o → r ≡ Some s → o ≡ Some (sub_batch s)
is_found r o s told is = sym told ∙ ap (option_map sub_batch) is

pub arrived_halves : (h : Halves) (k a : ℕ) (ts us : List ℕ) → ts ≡ us → record h { orders = batch_arrived k a ts h.orders } ≡ record h { orders = batch_arrived k a us h.orders }
arrived_halves h k a ts us e = ap (λ x. record h { orders = batch_arrived k a x h.orders }) e

-- so many tids were told
pub told_length : (n : ℕ) (o : Option SubBatch) (s : base.SubBatch) → Some n ≡ option_map (λ m. length m.tids) o → o ≡ Some (sub_batch s) → n ≡ length s.tids
told_length n o s told is =
    let e : Some n ≡ Some (length (map tid_number s.tids)) = told ∙ ap (option_map (λ (m : SubBatch). length m.tids)) is in
    let same : n ≡ length (map tid_number s.tids) = cc in
    same ∙ length-map s.tids tid_number
