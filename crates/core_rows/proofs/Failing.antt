-- The PACT that failed, and what its failure makes of the book.
use Rattle.std.proofs.Common.{◌≡◌, ℕ, Option, Some, None, ap, sym, ◌∙◌}
use Rattle.std.specs.Option.{option_map, option_and_then}
use Rattle.snap_base.specs.declared.ids.TxNo.{TxNo}
use Rattle.protocol.specs.BookParts.{orders_cascaded}
use Rattle.protocol.specs.OnBook.{failure_of, failed_tx, failed_code}
use Rattle.protocol.specs.Parts.{Batch}
use Rattle.protocol.specs.Words.{Failure, first_failed}
use Rattle.batch_table.specs.Askings.{failure_shown}
use Rattle.book_part.specs.After.{with_cascade}
use Rattle.book_part.specs.Halves.{Halves}

shown_is : (f : Option Failure) (x : TxNo × ℕ) → Some x ≡ option_map failure_shown f → (failed_tx f ≡ x.0.0) × (failed_code f ≡ x.1)
shown_is None x same = absurd (cc same)
shown_is (Some f) x same = let e : x ≡ failure_shown f = cc same in (ap (λ y. y.0.0) (sym e), ap (λ y. y.1) (sym e))

pub failed_is : (o : Option Batch) (x : TxNo × ℕ) → Some x ≡ option_and_then (λ b. option_map failure_shown (first_failed b.pacts)) o → (failed_tx (failure_of o) ≡ x.0.0) × (failed_code (failure_of o) ≡ x.1)
failed_is None x same = absurd (cc same)
failed_is (Some b) x same = shown_is (first_failed b.pacts) x same

pub cascaded_halves : (h : Halves) (k upto by code last n why : ℕ) → upto ≡ last → by ≡ n → code ≡ why
    → record h { orders = orders_cascaded k by h.orders; cascades = with_cascade k upto by code h } ≡ record h { orders = orders_cascaded k n h.orders; cascades = with_cascade k last n why h }
cascaded_halves h k upto by code last n why p q r =
    ap (λ x. record h { orders = orders_cascaded k by h.orders; cascades = with_cascade k x by code h }) p
    ∙ (ap (λ x. record h { orders = orders_cascaded k x h.orders; cascades = with_cascade k last x code h }) q
    ∙ ap (λ x. record h { orders = orders_cascaded k n h.orders; cascades = with_cascade k last n x h }) r)
