-- No more batches are formed than the text has transactions; and the desk of a whole hand.
use Rattle.std.proofs.Common.{◌≡◌, ◌≤◌, Bool, filter, Some, List, length, sym, subst, arith}
use Rattle.std.proofs.lemmas.List.Sums.{count_by-le-length, length-filter}
use Rattle.aml_slice.specs.Controls.{Rest}
use Rattle.snap_hand.specs.core_rows.OnRuns.{HasRun}
use Rattle.protocol.specs.Fixed.{Fixed, IsText}
use Rattle.protocol.specs.Events.{Event}
use Rattle.protocol.specs.Numbers.{NumbersDrawnOnce}
use Rattle.protocol.specs.Parts.{Desk, Machine}
use Rattle.protocol.specs.Runs.{IsRun, reached}
use Rattle.protocol_theorems.specs.Sizes.{SizesHold}
use Rattle.snap_hand.proofs.Held.{desk_there}
use Rattle.snap_hand.specs.Hands.{Parts, IsWhole}

pub few_batches : (w : Fixed Rest) (s : Machine Rest) → HasRun w s
    → ((v : Fixed Rest) (es : List Event) → IsText v.text → IsRun v es → SizesHold v (reached v es))
    → ((v : Fixed Rest) (es : List Event) → IsText v.text → IsRun v es → NumbersDrawnOnce v (reached v es))
    → length s.desk.batches ≤ 20000
few_batches w s is sizes drawn =
    let a = sizes w is.events is.text is.run in
    let b = drawn w is.events is.text is.run in
    let next = a.next_bid in
    let all = b.next_bid in
    let submitted = a.next_tx in
    let few = is.text.few_txs in
    subst (λ (z : Machine Rest). length z.desk.batches ≤ 20000) (sym is.is_reached) (omega arith)

pub count_few : {X : Type 0} (p : X → Bool) (xs : List X) → length (filter p xs) ≤ length xs
count_few p xs = subst (λ n. n ≤ length xs) (sym (length-filter p xs)) (count_by-le-length p xs)

pub desk_of_whole : (h : Parts) → IsWhole h → (x : Desk) × (h.desk ≡ Some x)
desk_of_whole h whole = desk_there h (whole 3)
