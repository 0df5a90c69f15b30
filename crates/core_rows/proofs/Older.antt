-- An ACT that asks, and the cell that it asks.
use Rattle.std.proofs.Common.{◌≡◌, ℕ, false, List, [], ◌∷◌, map, refl, ap, sym, ◌∙◌}
use Rattle.snap_base.specs.declared.ids.Tid.{Tid}
use Rattle.protocol.specs.Meant.{tid_number}
use Rattle.book_part.specs.order_book.Asked.{AreLocksOf, locks_of}
use Rattle.protocol.specs.OnBook.{act_asked, met}
use Rattle.protocol.specs.Parts.{Entry}
use Rattle.protocol.specs.Rivals.{Lock}
use Rattle.protocol.specs.Words.{least_older}
use Rattle.book_part.specs.Halves.{Halves}

pub asked_halves : (h : Halves) (t a : ℕ) (l : List Lock) (m n : ℕ) → m ≡ n → record h { orders = act_asked (least_older t l) l t a m h.orders } ≡ record h { orders = act_asked (least_older t l) l t a n h.orders }
asked_halves h t a l m n p = ap (λ x. record h { orders = act_asked (least_older t l) l t a x h.orders }) p

-- the rivals that a cell tells of one that reads or not are those that the ACT with this lock meets there
pub rivals_met : (tids : List Tid) (x y : Lock) (told entries : List Entry) → map tid_number tids ≡ map (λ z. z.tid) (met x told) → x ≡ y → told ≡ entries → AreLocksOf tids (met y entries)
rivals_met tids x y told entries are locks same = sym (are ∙ (ap (λ l. map (λ z. z.tid) (met l told)) locks ∙ ap (λ es. map (λ z. z.tid) (met y es)) same))

tids_back : (ns : List ℕ) → map (λ (x : Lock). x.tid) (map (λ (t : ℕ). record { tid = t; reader = false }) ns) ≡ ns
tids_back [] = refl
tids_back (n ∷ ns) = ap (λ (xs : List ℕ). n ∷ xs) (tids_back ns)

-- as of ACTs that write
pub same_tids : (tids : List Tid) → AreLocksOf tids (locks_of tids)
same_tids tids = tids_back (map tid_number tids)
