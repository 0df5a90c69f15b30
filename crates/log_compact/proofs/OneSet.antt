-- There is one set at most, and it folds to one thing at most.
use Rattle.std.proofs.Common.{◌≡◌, ℕ, ◌+◌, ◌<◌, ◌≤◌, ◌⊎◌, max, inl, inr, List, ◌∷◌, sym, ap, subst, ◌∙◌, arith}
use Rattle.snap_base.specs.declared.transactions.State.{State}
use Rattle.txn_records.specs.declared.records.Record.{Record}
use Rattle.txn_records.specs.declared.records.Record.TheVariants.{Genesis}
use Rattle.snap_recover.specs.declared.openings.Opening.{Opening}
use Rattle.snap_recover.specs.Opening.{IsRecovered}
use Rattle.log_compact.specs.Sets.{IsHead, generation_of, plain_lists, point_of, number_of, count_batches, count_acts, OneSet, OneFold}

as_many : (log : List Record) (d many other : ℕ) (first states : List State) → IsHead d log many first → IsHead d log other states → many ≡ other
as_many log d many other first states h k = let same : Genesis many first ∷ h.rest ≡ Genesis other states ∷ k.rest = sym h.begins ∙ k.begins in cc

pub one_set : OneSet
one_set devices a b many other g h x y = by (x.greatest b other y.first y.is_head) (y.greatest a many x.first x.is_head)
  where
    told : a ≡ b → generation_of (devices b) ≡ g → (a ≡ b) × (many ≡ other) × (g ≡ h)
    told e i = (e, as_many (devices b) b many other x.first y.first (subst (λ z. IsHead z (devices z) many x.first) e x.is_head) y.is_head, sym i ∙ sym y.its)

    by : (generation_of (devices b) < g) ⊎ ((generation_of (devices b) ≡ g) × (a ≤ b)) → (generation_of (devices a) < h) ⊎ ((generation_of (devices a) ≡ h) × (b ≤ a)) → (a ≡ b) × (many ≡ other) × (g ≡ h)
    by (inl p) (inl q) = absurd (omega (arith, p, q, x.its, y.its))
    by (inl p) (inr q) = absurd (omega (arith, p, q.0, x.its, y.its))
    by (inr p) (inl q) = absurd (omega (arith, p.0, q, x.its, y.its))
    by (inr p) (inr q) = told (omega (arith, p.1, q.1)) p.0

abbrev OneOpening : Type 0
OneOpening = (logs : List (List Record)) (o p : Opening) → IsRecovered logs o → IsRecovered logs p → o ≡ p

pub one_fold : OneOpening → OneFold
one_fold one lists f g x y =
    let same : x.found ≡ y.found = one (plain_lists lists) x.found y.found x.recovered y.recovered in
    let states : f.opening.states ≡ g.opening.states = x.states ∙ (ap (λ (o : Opening). o.states) same ∙ sym y.states) in
    let since : f.opening.committed ≡ g.opening.committed = x.since ∙ (ap (λ (o : Opening). o.committed) same ∙ sym y.since) in
    let tid : f.opening.next_tid.0 ≡ g.opening.next_tid.0 = x.next_tid ∙ (ap (λ (o : Opening). max o.next_tid.0 (number_of (λ p. p.next_tid) (point_of lists))) same ∙ sym y.next_tid) in
    let bid : f.opening.next_bid.0 ≡ g.opening.next_bid.0 = x.next_bid ∙ (ap (λ (o : Opening). max o.next_bid.0 (number_of (λ p. p.next_bid) (point_of lists))) same ∙ sym y.next_bid) in
    let c : f.opening.next_c ≡ g.opening.next_c = x.next_c ∙ (ap (λ (o : Opening). max o.next_c (number_of (λ p. p.next_c) (point_of lists))) same ∙ sym y.next_c) in
    let batches : f.batches ≡ g.batches = x.batches ∙ (ap (λ (o : Opening). count_batches o.committed + number_of (λ p. p.batches) (point_of lists)) same ∙ sym y.batches) in
    let acts : f.acts ≡ g.acts = x.acts ∙ (ap (λ (o : Opening). count_acts o.committed + number_of (λ p. p.acts) (point_of lists)) same ∙ sym y.acts) in
    let first : f.first ≡ g.first = x.first ∙ sym y.first in
    let generation : f.generation ≡ g.generation = x.generation ∙ sym y.generation in
    λ i. record {
      opening = record { states = states i; committed = since i; next_tid = record { 0 = tid i }; next_bid = record { 0 = bid i }; next_c = c i };
      first = first i;
      generation = generation i;
      batches = batches i;
      acts = acts i;
    }
