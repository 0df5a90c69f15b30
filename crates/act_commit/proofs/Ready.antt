-- Who is ready stays so, whatever is noted.
use Rattle.std.proofs.Common.{◌≡◌, ℕ, Bool, true, false, ◌||◌, Some, List, [], ◌∷◌, ◌++◌, length, take, map, refl, ap, ◌∙◌, arith}
use Rattle.std.specs.Prelude.{◌==◌}
use Rattle.std.specs.List.{list_all}
use Rattle.std.proofs.lemmas.Bool.{and_parts, and_from}
use Rattle.std.proofs.lemmas.List.{take-append-le, take_all}
use Rattle.snap_base.specs.declared.transactions.TxResult.{TxResult}
use Rattle.snap_base.specs.declared.transactions.TxResult.TheVariants.{Value, Fail}
use Rattle.protocol.specs.Parts.{Joined}
use Rattle.protocol.specs.Words.{is_failure}
use Rattle.protocol.specs.OnBook.{mark_if}
use Rattle.act_commit.specs.declared.seats.Mark.{Mark}
use Rattle.act_commit.specs.declared.seats.Mark.TheVariants.{Prepared, Vouched}
use Rattle.act_commit.specs.Changes.{marking_of}

stays_vouched : (mark : Mark) (b : Bool) (p : Joined) → p.vouched ≡ true → (mark_if b (marking_of mark) p).vouched ≡ true
stays_vouched mark false p h = h
stays_vouched Prepared true p h = h
stays_vouched Vouched true p h = refl

marked_ready : (mark : Mark) (a : ℕ) (seats : List Joined) → list_all (λ p. p.vouched) seats ≡ true → list_all (λ p. p.vouched) (map (λ p. mark_if (p.actor == a) (marking_of mark) p) seats) ≡ true
marked_ready mark a [] h = refl
marked_ready mark a (p ∷ ps) h =
    let both = and_parts p.vouched (list_all (λ q. q.vouched) ps) h in
    and_from (mark_if (p.actor == a) (marking_of mark) p).vouched (list_all (λ q. q.vouched) (map (λ q. mark_if (q.actor == a) (marking_of mark) q) ps)) (stays_vouched mark (p.actor == a) p both.0) (marked_ready mark a ps both.1)

-- seats that are marked leave an ACT ready
pub ready_after : (r : TxResult) (mark : Mark) (a : ℕ) (seats marks : List Joined) → marks ≡ map (λ p. mark_if (p.actor == a) (marking_of mark) p) seats
    → (is_failure (Some r) || list_all (λ p. p.vouched) seats) ≡ true → (is_failure (Some r) || list_all (λ p. p.vouched) marks) ≡ true
ready_after (Value v) mark a seats marks is h = ap (λ ps. list_all (λ (p : Joined). p.vouched) ps) is ∙ marked_ready mark a seats h
ready_after (Fail code) mark a seats marks is h = refl

-- what a slice of all elements leaves
pub written_back : {X : Type 0} (k : ℕ) (xs ys : List X) → length xs ≡ k → take k (xs ++ ys) ≡ xs
written_back k xs ys e = take-append-le k xs ys (omega (arith, e)) ∙ take_all k xs (omega (arith, e))
