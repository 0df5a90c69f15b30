-- The shares that a crew begins with.
use Rattle.std.proofs.Common.{◌≡◌, ℕ, zero, suc, ◌+◌, ◌<◌, ◌≤◌, ◌^◌, false, Some, List, [], ◌∷◌, length, slice_get, subst, ◌∙◌, arith}
use Rattle.std.specs.List.{AllByRecursion}
use Rattle.snap_base.proofs.Lists.{one_at}
use Rattle.aml_slice.specs.Controls.{Rest}
use Rattle.crew_ends.specs.Ends.{AreBeside}
use Rattle.crew_ends.specs.Lists.{parts_of}
use Rattle.crew_ends.proofs.Ending.{shares_begin}
use Rattle.crew_parts.specs.Crews.{AreFirstShares}
use Rattle.crew_parts.specs.Shares.{OutputState, ShareState}
use Rattle.gate_log.specs.State.{LogState}
use Rattle.gate_log.specs.declared.limits.TheConstants.{FARTHEST_END}
use Rattle.protocol.specs.Fixed.{Fixed}
use Rattle.protocol.specs.Runs.{opening}
use Rattle.run_effects.specs.record_log.declared.limits.TheConstants.{FARTHEST_APPEND}
use Rattle.snap_hand.specs.Shown.{Shown, AreAllParts}

at_of : {X : Type 0} (P : X → Type 0) (xs : List X) (i : ℕ) (x : X) → AllByRecursion P xs → slice_get xs i ≡ Some x → P x
at_of P [] i x all h = absurd (cc h)
at_of P (y ∷ xs) zero x all h = subst P (cc h) all.0
at_of P (y ∷ xs) (suc i) x all h = at_of P xs i x all.1 h

pub begin : (w : Fixed Rest) (xs : List ShareState) (ps : List Shown) (logs : List LogState) (out : OutputState)
    → parts_of xs ≡ ps → AreAllParts w (opening w) ps → AreBeside logs out xs → length logs ≡ w.text.logs
    → AllByRecursion (λ l. l.shut ≡ false) logs → AllByRecursion (λ l. l.end ≤ FARTHEST_END + 2 ^ 32) logs → out.failed ≡ false → AreFirstShares w xs
begin w xs ps logs out same parts beside many ready ends fresh =
    let all = shares_begin w xs ps same parts in
    record {
      many = all.0;
      parts = all.1;
      journals = λ l x within at.
          let inside : l < length logs = omega (arith, many, within) in
          let j = one_at logs l inside in
          record {
            journal = j.0;
            is = beside.logs l x inside at ∙ j.1;
            ready = at_of (λ (k : LogState). k.shut ≡ false) logs l j.0 ready j.1;
            near = near j.0.end (at_of (λ (k : LogState). k.end ≤ FARTHEST_END + 2 ^ 32) logs l j.0 ends j.1);
          };
      output = λ x at. record { output = out; is = beside.desk x at; ready = fresh };
    } where
      near : (n : ℕ) → n ≤ FARTHEST_END + 2 ^ 32 → n ≤ FARTHEST_APPEND
      near n h = omega (arith, h)
