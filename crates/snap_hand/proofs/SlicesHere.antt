-- The slice of a program's code, as the closure of a hand runs it.
use Rattle.std.proofs.Common.{◌≡◌, ℕ, Bool, true, false, ◌==◌, if◌then◌else◌, Some, None, List, [], ◌∷◌, length, slice_get, slice_set, sym, ap, subst, ◌∙◌}
use Rattle.std.specs.Prelude.{find}
use Rattle.std.specs.List.{AllByRecursion}
use Rattle.std.proofs.lemmas.Option.{get_or_from_slice_get}
use Rattle.snap_base.specs.declared.transactions.State.{State}
use Rattle.aml_slice.specs.aml_tree.Tree.{CheckedMethod}
use Rattle.aml_check.specs.Checked.{methods_of}
use Rattle.aml_slice.specs.Controls.{Rest, IsRest}
use Rattle.core_rows.specs.OnRuns.{HasRun}
use Rattle.machine_laws.specs.MethodCode.{method_code}
use Rattle.machine_laws.specs.Controls.{MayRunOn, ControlsMayRun}
use Rattle.machine_laws.specs.Programs.{AfterEveryRunOf}
use Rattle.protocol.specs.Effects.{cell_at, no_cell}
use Rattle.protocol.specs.Fixed.{Next}
use Rattle.protocol.specs.OnCell.{is_through}
use Rattle.protocol.specs.Parts.{Waiting, Cell, Machine}
use Rattle.protocol.specs.Words.{waiting_of}
use Rattle.snap_hand.specs.Tables.{AreTables, fixed_of, text_of}
use Rattle.snap_hand.specs.declared.tables.Tables.{Tables}
use Rattle.snap_hand.specs.Hands.{Parts}
use Rattle.snap_hand.proofs.Refits.{same_back}

-- what holds of all holds of the one that is found
found : {X : Type 0} (P : X → Type 0) (p : X → Bool) (xs : List X) (x : X) → AllByRecursion P xs → find p xs ≡ Some x → P x
found P p [] x h e = absurd (cc e)
found {X} P p (y ∷ ys) x h e = by (p y) e (found P p ys x h.1)
  where
    by : (b : Bool) → (if b then Some y else find p ys) ≡ Some x → (find p ys ≡ Some x → P x) → P x
    by true q k = let same : y ≡ x = cc q in subst P same h.0
    by false q k = k q

-- a control that waits on an actor may run there
pub waits_may_run : (t : Tables) (s : Machine Rest) (tid a : ℕ) (c : Cell Rest) (x : Waiting Rest) → AreTables t → AfterEveryRunOf (methods_of t.work.program) (ControlsMayRun (methods_of t.work.program)) → HasRun (fixed_of t) s
    → slice_get s.cells a ≡ Some c → waiting_of tid c.inbox ≡ Some x → IsRest (methods_of t.work.program) (length t.opening.states) x.control
waits_may_run t s tid a c x is law run there waits =
    let p = methods_of t.work.program in
    let P : Waiting Rest → Type 0 = λ y. MayRunOn p (fixed_of t) a y.control in
    let all : AllByRecursion P (cell_at s a).inbox = subst (λ z. AllByRecursion P (cell_at z a).inbox) (sym run.is_reached) ((law (text_of t) run.events is run.run).inboxes a) in
    (found P (λ y. y.tid == tid) c.inbox x (subst (λ z. AllByRecursion P z.inbox) (get_or_from_slice_get s.cells a c no_cell there) all) waits).0

-- a slice over so many actors, at the state where it ran
pub sliced_so : (p : List CheckedMethod) (n m a : ℕ) (control : Rest) (now old left : State) (next : Next Rest) (through : Bool) → n ≡ m → now ≡ old
    → (method_code p n).slice control now ≡ record { state = left; next = next } → is_through (method_code p n) a next ≡ through
    → ((method_code p m).slice control old ≡ record { state = left; next = next }) × (is_through (method_code p m) a next ≡ through)
sliced_so p n m a control now old left next through count state ran told =
    let at_old = subst (λ s. (method_code p n).slice control s ≡ record { state = left; next = next }) state ran in
    subst (λ k. ((method_code p k).slice control old ≡ record { state = left; next = next }) × (is_through (method_code p k) a next ≡ through)) count (at_old, told)

-- ---- a cell that is put back

pub put_back : (old mid new : Parts) (a : ℕ) (x : Cell Rest) → mid ≡ record old { cells = slice_set old.cells a None } → new ≡ record mid { cells = slice_set mid.cells a (Some x) }
    → new ≡ record old { cells = slice_set (slice_set old.cells a None) a (Some x) }
put_back old mid new a x taken put = put ∙ ap (λ (h : Parts). record h { cells = slice_set h.cells a (Some x) }) taken

pub same_cell : (old new : Parts) (a : ℕ) (x y : Cell Rest) → slice_get old.cells a ≡ Some (Some x) → new ≡ record old { cells = slice_set (slice_set old.cells a None) a (Some y) } → y ≡ x → new ≡ old
same_cell old new a x y there put same =
    put
    ∙ (ap (λ z. record old { cells = slice_set (slice_set old.cells a None) a (Some z) }) same
    ∙ ap (λ cs. record old { cells = cs }) (same_back old.cells a (Some x) None there))
