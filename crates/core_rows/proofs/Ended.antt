-- An outcome that ended its transaction, and what it makes of the halves of the book and of the desk.
use Rattle.std.proofs.Common.{◌≡◌, ℕ, Bool, true, false, if◌then◌else◌, Option, Some, None, is_some, List, map, refl, sym, ap, ◌∙◌}
use Rattle.std.specs.Option.{option_and_then}
use Rattle.snap_base.specs.declared.transactions.TxResult.{TxResult}
use Rattle.protocol.specs.BookParts.{votes_begin}
use Rattle.protocol.specs.Fixed.{Next, Go, Ended}
use Rattle.protocol.specs.OnDesk.{noted_for, pact_ended, with_results}
use Rattle.protocol.specs.Parts.{Batch, Book, Desk, Outcome}
use Rattle.protocol.specs.Words.{act_of, holds, is_ended}
use Rattle.protocol_theorems.specs.BookFits.{actors_at, votes_ended, votes_for}
use Rattle.book_part.specs.Halves.{Halves}
use Rattle.cell_part.specs.Contents.{next_result, outcome_result}

next_ended : {C : Type 0} (n : Next C) → is_ended n ≡ true → is_some (next_result n) ≡ true
next_ended (Go actor control) h = absurd (cc h)
next_ended (Ended r) h = refl

-- it has a result
pub has_result : {C : Type 0} (o : Option (Outcome C)) → holds (λ x. is_ended x.next) o ≡ true → is_some (option_and_then outcome_result o) ≡ true
has_result None h = absurd (cc h)
has_result (Some x) h = next_ended x.next h

votes_of_next : {C : Type 0} (t : ℕ) (actors : List ℕ) (n : Next C) (r : TxResult) (v : Book) → next_result n ≡ Some r → votes_begin t r actors v ≡ votes_for t actors n v
votes_of_next t actors (Go actor control) r v h = absurd (cc h)
votes_of_next t actors (Ended q) r v h = let e : r ≡ q = cc h in ap (λ x. votes_begin t x actors v) e

votes_noted : {C : Type 0} (t : ℕ) (is_act : Bool) (actors : List ℕ) (o : Option (Outcome C)) (r : TxResult) (v : Book) → option_and_then outcome_result o ≡ Some r
    → (if is_act then votes_begin t r actors v else v) ≡ votes_ended t is_act actors o v
votes_noted t false actors o r v h = refl
votes_noted t true actors None r v h = absurd (cc h)
votes_noted t true actors (Some x) r v h = votes_of_next t actors x.next r v h

batches_of_next : {C : Type 0} (t : ℕ) (n : Next C) (r : TxResult) (batches : List Batch) → next_result n ≡ Some r → noted_for t n batches ≡ map (with_results t r) batches
batches_of_next t (Go actor control) r batches h = absurd (cc h)
batches_of_next t (Ended q) r batches h = let e : q ≡ r = cc h in ap (λ x. map (with_results t x) batches) e

desk_of : {C : Type 0} (d : Desk) (t : ℕ) (is_act : Bool) (o : Option (Outcome C)) (r : TxResult) → option_and_then outcome_result o ≡ Some r
    → pact_ended t is_act o d ≡ record d { batches = if is_act then d.batches else map (with_results t r) d.batches }
desk_of d t true o r h = refl
desk_of d t false None r h = absurd (cc h)
desk_of d t false (Some x) r h = ap (λ batches. record d { batches = batches }) (batches_of_next t x.next r d.batches h)

-- the result of an ACT is noted in the book
pub halves_noted : {C : Type 0} (h : Halves) (t : ℕ) (has_act is_act : Bool) (o : Option (Outcome C)) (r : TxResult) → has_act ≡ is_act → option_and_then outcome_result o ≡ Some r
    → record h { votes = if is_act then votes_begin t r (actors_at (act_of t h.orders.acts)) h.votes else h.votes } ≡ record h { votes = votes_ended t has_act (actors_at (act_of t h.orders.acts)) o h.votes }
halves_noted h t has_act is_act o r same found =
    ap (λ v. record h { votes = v }) (votes_noted t is_act (actors_at (act_of t h.orders.acts)) o r h.votes found ∙ ap (λ b. votes_ended t b (actors_at (act_of t h.orders.acts)) o h.votes) (sym same))

-- that of a PACT at the desk
pub desk_noted : {C : Type 0} (d : Desk) (t : ℕ) (has_act is_act : Bool) (o : Option (Outcome C)) (r : TxResult) → has_act ≡ is_act → option_and_then outcome_result o ≡ Some r
    → pact_ended t has_act o d ≡ record d { batches = if is_act then d.batches else map (with_results t r) d.batches }
desk_noted d t has_act is_act o r same found = ap (λ b. pact_ended t b o d) same ∙ desk_of d t is_act o r found
