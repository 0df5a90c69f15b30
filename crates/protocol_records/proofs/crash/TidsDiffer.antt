-- No two committed transactions have one tid.
use Rattle.std.specs.Prelude.{◌≡◌, refl, ℕ, ◌+◌, ◌<◌, ◌==◌, false, Some, List, [], ◌∷◌, ◌++◌, map}
use Rattle.std.specs.List.{AllByRecursion}
use Rattle.std.proofs.Common.{arith, sym, ap, subst, ◌∙◌}
use Rattle.std.proofs.lemmas.Bool.{eqb-true, ne_eqb, or_parts, true≢false}
use Rattle.protocol.specs.Fixed.{Fixed}
use Rattle.protocol.specs.Parts.{Pact, Who, OfBatch, OfAct, Machine}
use Rattle.protocol.specs.Events.{Event, Form, Admit, Commit, Decide}
use Rattle.protocol.specs.Words.{is_who}
use Rattle.protocol.specs.Conditions.{IsAllowed, conditions}
use Rattle.protocol.specs.Effects.{after}
use Rattle.protocol.specs.OnRing as ring
use Rattle.protocol.specs.History.{History, Done, grown, with_at, done_pact, done_batch, done_act}
use Rattle.protocol_laws.specs.Told.{PactsAscend}
use Rattle.protocol_theorems.specs.Placed.{has_done}
use Rattle.protocol_laws.proofs.machine.TrackLists.{is_who_refl}
use Rattle.protocol_laws.proofs.machine.CommitsKept as chain
use Rattle.protocol_laws.proofs.machine.TrailsKept.{new_tids}
use Rattle.protocol_theorems.proofs.order.NamesKept.{Named, IsNamed, AllNamed, owned_below}
use Rattle.protocol_laws.proofs.first.Lists.{all_join, all_found, weaker, both_all}

abbrev pub TidsDiffer : List Done → Type 0
TidsDiffer [] = Unit {0}
TidsDiffer (d ∷ ds) = AllByRecursion (λ e. d.tid ≡ e.tid → ⊥) ds × TidsDiffer ds

pub record Owned {C : Type 0} (s : Machine C) (h : History) : Type 0 where
  pub owner : AllByRecursion (λ d. (d.tid < s.ring.next_tid) × (h.owners d.tid ≡ d.who)) h.committed
  pub differ : TidsDiffer h.committed

differ_join : (xs ys : List Done) → TidsDiffer xs → TidsDiffer ys → AllByRecursion (λ d. AllByRecursion (λ e. d.tid ≡ e.tid → ⊥) ys) xs → TidsDiffer (xs ++ ys)
differ_join [] ys h g k = g
differ_join (x ∷ xs) ys h g k = (all_join _ xs ys h.0 k.0, differ_join xs ys h.1 g k.1)

-- whoever is another one has other tids
apart : (owners : ℕ → Who) (who : Who) (d : Done) (new : List Done) → owners d.tid ≡ d.who → is_who who d.who ≡ false → AllByRecursion (λ e. owners e.tid ≡ who) new → AllByRecursion (λ e. d.tid ≡ e.tid → ⊥) new
apart owners who d [] o n h = tt
apart owners who d (e ∷ es) o n h = ((λ q. true≢false (sym (is_who_refl who) ∙ subst (λ z. is_who who z ≡ false) (sym o ∙ (ap owners q ∙ h.0)) n)), apart owners who d es o n h.1)

all_apart : (next : ℕ) (owners : ℕ → Who) (who : Who) (ds new : List Done) → has_done ds who ≡ false → AllByRecursion (λ d. (d.tid < next) × (owners d.tid ≡ d.who)) ds → AllByRecursion (λ e. owners e.tid ≡ who) new → AllByRecursion (λ d. AllByRecursion (λ e. d.tid ≡ e.tid → ⊥) new) ds
all_apart next owners who [] new n h k = tt
all_apart next owners who (d ∷ ds) new n h k = let p = or_parts (is_who who d.who) (has_done ds who) n in (apart owners who d new h.0.1 p.0 k, all_apart next owners who ds new p.1 h.1 k)

pacts_differ : (k low : ℕ) (h : History) (ps : List Pact) → PactsAscend low ps → TidsDiffer (map (done_pact k h) ps)
pacts_differ k low h [] a = tt
pacts_differ k low h (p ∷ ps) a = (above p.tid (p.tid + 1) ps (omega arith) a.1, pacts_differ k (p.tid + 1) h ps a.1)
  where
    above : (t from : ℕ) (qs : List Pact) → t < from → PactsAscend from qs → AllByRecursion (λ e. t ≡ e.tid → ⊥) (map (done_pact k h) qs)
    above t from [] l a = tt
    above t from (q ∷ qs) l a = ((λ e. omega (arith, e, l, a.0)), above t (q.tid + 1) qs (omega (arith, l, a.0)) a.1)

pacts_owned : (k next : ℕ) (h : History) (ps : List Pact) → AllNamed next h.owners h.trails (OfBatch k) (map (λ p. p.tid) ps) (map (λ p. p.tx) ps) → AllByRecursion (λ d. (d.tid < next) × (h.owners d.tid ≡ d.who)) (map (done_pact k h) ps)
pacts_owned k next h [] n = tt
pacts_owned k next h (p ∷ ps) n = ((n.0.low, n.0.owner), pacts_owned k next h ps n.1)

batch_who : (k next : ℕ) (h : History) (ps : List Pact) → AllNamed next h.owners h.trails (OfBatch k) (map (λ p. p.tid) ps) (map (λ p. p.tx) ps) → AllByRecursion (λ d. h.owners d.tid ≡ OfBatch k) (map (done_pact k h) ps)
batch_who k next h [] n = tt
batch_who k next h (p ∷ ps) n = (n.0.owner, batch_who k next h ps n.1)

-- What commits has not committed before.
unfoldable pub NotDone : {C : Type 0} → Event → Machine C → History → Type 0
NotDone (Commit k) s h = has_done h.committed (OfBatch k) ≡ false
NotDone (Decide t) s h = has_done h.committed (OfAct t) ≡ false
NotDone _ s h = Unit {0}

pub kept : {C : Type 0} (w : Fixed C) (e : Event) (s : Machine C) (h : History) → IsAllowed w e s → chain.Assumed e s h → NotDone e s h → Named s h → Owned s h → Owned (after w e s) (grown w e s h)
unfolding NotDone chain.Assumed conditions after grown
kept w (Form k) s h ok m n g o = record {
  owner = weaker _ _ h.committed (λ d i. (omega (arith, i.0), owned_below k (ring.next_pacts w.text s.ring) s.ring.next_tid d.tid h.owners (new_tids s.ring.next_tid s.ring.next_tid _ (omega arith)) i.0 ∙ i.1)) o.owner;
  differ = o.differ;
}
kept w (Admit t) s h ok m n g o = record {
  owner = weaker _ _ h.committed (λ d i. (omega (arith, i.0), other d.tid (ne_eqb d.tid t (λ q. omega (arith, q, i.0, eqb-true t s.ring.next_tid ok.0))) ∙ i.1)) o.owner;
  differ = o.differ;
}
  where
    other : (u : ℕ) → (u == t) ≡ false → with_at t (OfAct t) h.owners u ≡ h.owners u
    other u e = rw e refl
kept w (Commit k) s h ok m n g o =
    let named = all_found (λ b. AllNamed s.ring.next_tid h.owners h.trails (OfBatch b.bid) (map (λ p. p.tid) b.pacts) (map (λ p. p.tx) b.pacts)) (λ b. b.bid == k) s.desk.batches m.0 g.pacts m.1.is_it in
    let own : AllNamed s.ring.next_tid h.owners h.trails (OfBatch k) (map (λ p. p.tid) m.0.pacts) (map (λ p. p.tx) m.0.pacts) = subst (λ z. AllNamed s.ring.next_tid h.owners h.trails (OfBatch z) (map (λ p. p.tid) m.0.pacts) (map (λ p. p.tx) m.0.pacts)) (eqb-true m.0.bid k named.1) named.0 in
    record {
      owner = all_join _ h.committed _ o.owner (subst (λ z. AllByRecursion (λ d. (d.tid < s.ring.next_tid) × (h.owners d.tid ≡ d.who)) (done_batch k h z)) (sym m.1.is_it) (pacts_owned k s.ring.next_tid h m.0.pacts own));
      differ = subst (λ z. TidsDiffer (h.committed ++ done_batch k h z)) (sym m.1.is_it) (differ_join h.committed (map (done_pact k h) m.0.pacts) o.differ (pacts_differ k 0 h m.0.pacts m.1.ascend) (all_apart s.ring.next_tid h.owners (OfBatch k) h.committed _ n o.owner (batch_who k s.ring.next_tid h m.0.pacts own)));
    }
kept w (Decide t) s h ok m n g o =
    let named = all_found (λ x. IsNamed s.ring.next_tid h.owners h.trails (OfAct x.tid) x.tid x.tx) (λ x. x.tid == t) s.book.acts m.0 g.acts m.1.is_it in
    record {
      owner = all_join _ h.committed _ o.owner (subst (λ z. AllByRecursion (λ d. (d.tid < s.ring.next_tid) × (h.owners d.tid ≡ d.who)) (done_act s.book.next_c h z)) (sym m.1.is_it) ((named.0.low, named.0.owner), tt));
      differ = subst (λ z. TidsDiffer (h.committed ++ done_act s.book.next_c h z)) (sym m.1.is_it)
          (differ_join h.committed (done_act s.book.next_c h (Some m.0)) o.differ (tt, tt) (all_apart s.ring.next_tid h.owners (OfAct t) h.committed (done_act s.book.next_c h (Some m.0)) n o.owner (subst (λ z. h.owners m.0.tid ≡ OfAct z) m.1.tid named.0.owner, tt)));
    }
kept w e s h ok m n g o = record { owner = o.owner; differ = o.differ }

-- of two with one tid each is the other one
pub pairs : (ds : List Done) → TidsDiffer ds → AllByRecursion (λ d. AllByRecursion (λ e. e.tid ≡ d.tid → e ≡ d) ds) ds
pairs [] h = tt
pairs (x ∷ xs) h = (
  ((λ q. refl), weaker _ (λ e. e.tid ≡ x.tid → e ≡ x) xs (λ e n q. absurd (n (sym q))) h.0),
  both_all (λ d. x.tid ≡ d.tid → ⊥) (λ d. AllByRecursion (λ e. e.tid ≡ d.tid → e ≡ d) xs) (λ d. (x.tid ≡ d.tid → x ≡ d) × AllByRecursion (λ e. e.tid ≡ d.tid → e ≡ d) xs) xs (λ d n i. ((λ q. absurd (n q)), i)) h.0 (pairs xs h.1),
)
