use Rattle.std.proofs.Common.{◌≡◌, ℕ, ◌+◌, ◌-◌, ◌<◌, ◌≤◌, suc, List, length, take, arith, ap, sym, subst, ◌∙◌}
use Rattle.std.specs.List.{slice_get}
use Rattle.std.proofs.lemmas.List.{get_or_read}
use Rattle.ready_list.specs.Rings.{RoomedRing, all_events, events_at, ring_at}
use Rattle.ready_list.proofs.AmongRings.{got_ahead, got_last}
use Rattle.ready_list.proofs.rings.nth_to.Goals as goal

next_of : (k : ℕ) → 0 < k → k ≡ suc (k - 1)
next_of k h = omega (arith, h)

-- of the rings ahead of a place, which is not 0
abbrev IsAt : List RoomedRing → (n left : ℕ) → ℕ → Type 0
IsAt rings n left k = (n + left + 1 ≡ length (all_events (take k rings))) × (slice_get (all_events rings) n ≡ slice_get (all_events (take k rings)) n)

pub returns-then-left-count : goal.returns-then-left-count
returns-then-left-count c =
    let rings : List RoomedRing = c.args.kinds.now in
    let place : ℕ = c.loop-k.k - 1 in
    let next : c.loop-k.k ≡ suc place = next_of c.loop-k.k c.loop-k-test.true in
    let within : place < length rings = omega (arith, next, c.loop-k.invariant.0) in
    let here : c.index-kinds-k.result ≡ ring_at rings place = get_or_read rings place c.index-kinds-k.result within c.index-kinds-k.is _ in
    let many : c.count-count.result ≡ length (events_at rings place) = c.count-count.ensures ∙ ap (λ (r : RoomedRing). length r.events) here in
    λ n e.
    let p : IsAt rings n c.loop-k.left (suc place) = subst (IsAt rings n c.loop-k.left) next (c.loop-k.invariant.1 n e) in
    c.nth.ensures
    ∙ (ap (λ (r : RoomedRing). slice_get r.events (c.count-count.result - 1 - c.loop-k.left)) here
    ∙ (ap (λ (m : ℕ). slice_get (events_at rings place) (m - 1 - c.loop-k.left)) many
    ∙ sym (p.1 ∙ got_last rings place n c.loop-k.left within p.0 (omega (arith, many, c.if-left-count.true)))))

pub loop-k-preserved : goal.loop-k-preserved
loop-k-preserved c =
    let rings : List RoomedRing = c.args.kinds.now in
    let place : ℕ = c.loop-k.k - 1 in
    let next : c.loop-k.k ≡ suc place = next_of c.loop-k.k c.loop-k-test.true in
    let within : place < length rings = omega (arith, next, c.loop-k.invariant.0) in
    let here : c.index-kinds-k.result ≡ ring_at rings place = get_or_read rings place c.index-kinds-k.result within c.index-kinds-k.is _ in
    let many : c.count-count.result ≡ length (events_at rings place) = c.count-count.ensures ∙ ap (λ (r : RoomedRing). length r.events) here in (
      omega (arith, next, c.loop-k.invariant.0),
      λ n e.
          let p : IsAt rings n c.loop-k.left (suc place) = subst (IsAt rings n c.loop-k.left) next (c.loop-k.invariant.1 n e) in
          let q = got_ahead rings place n c.loop-k.left within p.0 (omega (arith, many, c.if-left-count.false)) in
          (omega (arith, q.0, many), p.1 ∙ q.1),
    )
