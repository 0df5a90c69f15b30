-- Slices one after the other keep what a control means, and give what its transaction gives alone.
use Rattle.std.proofs.Common.{◌≡◌, ℕ, zero, suc, ◌+◌, ◌≤◌, ℤ, Result, Ok, Err, List, [], length, set, refl, ap, ◌∙◌, arith}
use Rattle.std.proofs.lemmas.List.{length-set}
use Rattle.snap_base.specs.declared.ids.Tid.{Tid}
use Rattle.snap_base.specs.declared.transactions.State.{State}
use Rattle.snap_base.specs.declared.transactions.Tx.{Tx}
use Rattle.snap_base.specs.declared.transactions.TxResult.{TxResult}
use Rattle.snap_base.specs.declared.transactions.TxResult.TheVariants as result
use Rattle.aml_tree.specs.Tree.{CheckedMethod}
use Rattle.aml_check.specs.Closed.{IsClosedProgram}
use Rattle.snap_base.specs.Outcomes.{Alone}
use Rattle.aml_check.specs.Meaning.{Progress, alone, ended_alone, state_at, admitted, beginning, declaration}
use Rattle.aml_check.specs.Transactions.{IsTransaction}
use Rattle.snap_base.specs.declared.next.Next.{Next}
use Rattle.snap_base.specs.declared.next.Next.TheVariants.{Go, Ended}
use Rattle.aml_slice.specs.Controls.{Rest, IsRest, progress_in, moves_left}
use Rattle.aml_slice.specs.Slicing.{slice_end, started}
use Rattle.aml_slice.specs.Wholes.{rest_gives, Holds, EndsRest, world_after, BeginsTransaction}
use Rattle.aml_slice.specs.Finishing.{goes_on, after_slice, finished_in, finished}
use Rattle.aml_slice.proofs.Moving.{PauseLaws}
use Rattle.aml_slice.proofs.SlicedMoves.{SlicesOn, slices_well, there, admitted_there}
use Rattle.aml_slice.proofs.Roots.{root_admitted, root_begins}
use Rattle.aml_slice.proofs.ExactStarts.{declared_so}

-- ---- fuel

same_on : (p : List CheckedMethod) (count : ℕ) (c : Rest) (s t : State) (w : List State) (x : Next Rest) (more other : Rest → List State → Alone) → SlicesOn p count c s t x
    → ((d : Rest) (v : List State) → IsRest p count d → moves_left d + 1 ≤ moves_left c → more d v ≡ other d v) → goes_on more w x ≡ goes_on other w x
same_on p count c s t w (Go b d) more other well h = h d w well.handed_on.rest well.handed_on.fewer
same_on p count c s t w (Ended r) more other well h = refl

enough : PauseLaws → (f g : ℕ) (p : List CheckedMethod) (count : ℕ) (c : Rest) (w : List State) → IsClosedProgram p → IsRest p count c → moves_left c + 1 ≤ f → moves_left c + 1 ≤ g → finished_in f p count c w ≡ finished_in g p count c w
enough laws zero g p count c w closed is few less = absurd (omega (arith, few))
enough laws (suc f) zero p count c w closed is few less = absurd (omega (arith, less))
enough laws (suc f) (suc g) p count c w closed is few less =
    let s = state_at w c.top.actor in
    let x = slice_end p count c (state_at w c.top.actor) in
    same_on p count c s x.state (set w c.top.actor x.state) x.next (finished_in f p count) (finished_in g p count) (slices_well laws p count c s closed is)
    (λ d v rest fewer. enough laws f g p count d v closed rest (omega (arith, few, fewer)) (omega (arith, less, fewer)))

-- A slice keeps what the control gives at the end.
pub slices_keep : PauseLaws → (p : List CheckedMethod) (count : ℕ) (c : Rest) (w : List State) → IsClosedProgram p → IsRest p count c → finished p count c w ≡ after_slice (finished p count) c w (slice_end p count c (state_at w c.top.actor))
slices_keep laws p count c w closed is =
    let s = state_at w c.top.actor in
    let x = slice_end p count c (state_at w c.top.actor) in
    let one : moves_left c + 1 ≡ suc (moves_left c) = omega arith in
    ap (λ (f : ℕ). finished_in f p count c w) one
    ∙ same_on p count c s x.state (set w c.top.actor x.state) x.next (finished_in (moves_left c) p count) (finished p count) (slices_well laws p count c s closed is)
    (λ d v rest fewer. enough laws (moves_left c) (moves_left d + 1) p count d v closed rest fewer (omega arith))

-- ---- the meaning

abbrev Means : Result (ℤ × Progress) ℕ → TxResult → List State → Type 0
Means o (result.Value v) after = (q : Progress) × (o ≡ Ok (v, q)) × (q.world ≡ after)
Means o (result.Fail code) after = o ≡ Err code

means_also : (o m : Result (ℤ × Progress) ℕ) (r : TxResult) (after : List State) → o ≡ m → Means m r after → Means o r after
means_also o m (result.Value v) after e h = (h.0, e ∙ h.1, h.2)
means_also o m (result.Fail code) after e h = e ∙ h

ends_mean : (p : List CheckedMethod) (count : ℕ) (c : Rest) (w : List State) (s t : State) (r : TxResult) → Holds count c.top.actor s w → EndsRest p count c s t r → Means (rest_gives p c w) r (set w c.top.actor t)
ends_mean p count c w s t (result.Value v) h ends = ends w h
ends_mean p count c w s t (result.Fail code) h ends = ends w h

on_means : (p : List CheckedMethod) (count : ℕ) (c : Rest) (w : List State) (s t : State) (x : Next Rest) (more : Rest → List State → Alone) → Holds count c.top.actor s w → SlicesOn p count c s t x
    → ((d : Rest) → IsRest p count d → moves_left d + 1 ≤ moves_left c → Means (rest_gives p d (set w c.top.actor t)) (more d (set w c.top.actor t)).result (more d (set w c.top.actor t)).world)
    → Means (rest_gives p c w) (goes_on more (set w c.top.actor t) x).result (goes_on more (set w c.top.actor t) x).world
on_means p count c w s t (Go b d) more h well rest =
    means_also (rest_gives p c w) (rest_gives p d (set w c.top.actor t)) (more d (set w c.top.actor t)).result (more d (set w c.top.actor t)).world (well.kept w h) (rest d well.handed_on.rest well.handed_on.fewer)
on_means p count c w s t (Ended r) more h well rest = ends_mean p count c w s t r h well.kept

finishes : PauseLaws → (f : ℕ) (p : List CheckedMethod) (count : ℕ) (c : Rest) (w : List State) → IsClosedProgram p → IsRest p count c → length w ≡ count → moves_left c + 1 ≤ f → Means (rest_gives p c w) (finished_in f p count c w).result (finished_in f p count c w).world
finishes laws zero p count c w closed is size few = absurd (omega (arith, few))
finishes laws (suc f) p count c w closed is size few =
    let s = state_at w c.top.actor in
    let x = slice_end p count c (state_at w c.top.actor) in
    on_means p count c w s x.state x.next (finished_in f p count) (record { size = size; state = refl }) (slices_well laws p count c s closed is)
    (λ d rest fewer. finishes laws f p count d (set w c.top.actor x.state) closed rest (length-set w c.top.actor x.state ∙ size) (omega (arith, few, fewer)))

so_ended : (w : List State) (o : Result (ℤ × Progress) ℕ) (r : TxResult) (after : List State) → Means o r after → ended_alone w o ≡ record { result = r; world = world_after r w after }
so_ended w o (result.Value v) after h = ap (ended_alone w) h.1 ∙ ap (λ (z : List State). let a : Alone = record { result = result.Value v; world = z } in a) h.2
so_ended w o (result.Fail code) after h = ap (ended_alone w) h

-- ---- a transaction

root_by : (p : List CheckedMethod) (n : ℕ) (tx : Tx) (o : Result Progress ℕ) → IsTransaction p n tx → admitted tx.actor.0 (beginning [] tx) ≡ o → (q : Progress) × (admitted tx.actor.0 (beginning [] tx) ≡ Ok q)
root_by p n tx (Ok q) is e = (q, e)
root_by p n tx (Err code) is e = absurd (root_admitted p n [] tx code is e)

started_admits : (p : List CheckedMethod) (n : ℕ) (tid : Tid) (tx : Tx) → IsTransaction p n tx → (w : List State) → admitted tx.actor.0 (beginning w tx) ≡ Ok (progress_in (started tid tx) w)
started_admits p n tid tx is w =
    let r = root_by p n tx (admitted tx.actor.0 (beginning [] tx)) is refl in
    admitted_there tx.actor.0 (beginning [] tx) w
    ∙ ap (there w) (r.1 ∙ ap (λ (q : Progress). let o : Result Progress ℕ = Ok q in o) (declared_so tx.actor.0 r.0 (declaration tx.kind tx.uses) r.1))

pub started_begins : (p : List CheckedMethod) (n : ℕ) (tid : Tid) (tx : Tx) → IsClosedProgram p → IsTransaction p n tx → BeginsTransaction p tid tx (started tid tx)
started_begins p n tid tx closed is = root_begins p n tid tx (started tid tx) closed is (started_admits p n tid tx is) refl refl refl

-- The slices of a transaction, one after the other on the states that are found, give what it gives alone.
pub finished_alone : PauseLaws → (p : List CheckedMethod) (count : ℕ) (tid : Tid) (tx : Tx) (w : List State) → IsClosedProgram p → IsTransaction p count tx → length w ≡ count
    → alone p w tx ≡ record { result = (finished p count (started tid tx) w).result; world = world_after (finished p count (started tid tx) w).result w (finished p count (started tid tx) w).world }
finished_alone laws p count tid tx w closed is size =
    let begins = started_begins p count tid tx closed is in
    let a = finished p count (started tid tx) w in
    begins.whole w (omega (arith, is.actor, size))
    ∙ so_ended w (rest_gives p (started tid tx) w) a.result a.world (finishes laws (moves_left (started tid tx) + 1) p count (started tid tx) w closed (begins.rest count is.actor) size (omega arith))
