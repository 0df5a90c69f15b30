-- What is found by a number has this number.
use Rattle.std.proofs.Common.{◌≡◌, ℕ, ◌==◌, Bool, true, List, [], ◌∷◌, Some, subst, eqb-true}
use Rattle.std.specs.Prelude.{◌&&◌}
use Rattle.std.specs.List.{find}
use Rattle.std.proofs.lemmas.Bool.{cond_both, and_parts}
use Rattle.protocol.specs.Parts.{ControlMessage, Outcome, SubBatch}
use Rattle.protocol.specs.Words.{control_of, outcome_of, sub_of}

found_passes : {X : Type 0} (p : X → Bool) (xs : List X) (x : X) → find p xs ≡ Some x → p x ≡ true
found_passes p [] x h = cc
found_passes p (y ∷ ys) x h =
    cond_both (p y) (Some y) (find p ys) (λ o. o ≡ Some x → p x ≡ true) (λ e f. let same : y ≡ x = cc in subst (λ z. p z ≡ true) same e) (λ e f. found_passes p ys x f) h

pub control_tid : {C : Type 0} (t : ℕ) (controls : List (ControlMessage C)) (m : ControlMessage C) → control_of t controls ≡ Some m → m.tid ≡ t
control_tid t controls m h = eqb-true m.tid t (found_passes (λ x. x.tid == t) controls m h)

pub outcome_tid : {C : Type 0} (t : ℕ) (outbox : List (Outcome C)) (x : Outcome C) → outcome_of t outbox ≡ Some x → x.tid ≡ t
outcome_tid t outbox x h = eqb-true x.tid t (found_passes (λ x. x.tid == t) outbox x h)

pub sub_numbers : (k a : ℕ) (subs : List SubBatch) (m : SubBatch) → sub_of k a subs ≡ Some m → (m.bid ≡ k) × (m.actor ≡ a)
sub_numbers k a subs m h =
    let both = and_parts (m.bid == k) (m.actor == a) (found_passes (λ x. (x.bid == k) && (x.actor == a)) subs m h) in
    (eqb-true m.bid k both.0, eqb-true m.actor a both.1)
