-- A slice that the code's closure ran is the slice of the machine.
use Rattle.std.proofs.Common.{◌≡◌, ℕ, Bool, Some, MutBor, ap, sym, subst, ◌∙◌}
use Rattle.std.specs.Fn.{Once, FnOnceReturns}
use Rattle.protocol.specs.Meant.{next_meant}
use Rattle.snap_base.specs.declared.transactions.State.{State}
use Rattle.protocol.specs.Fixed.{Code, Sliced}
use Rattle.protocol.specs.Fixed as machine
use Rattle.protocol.specs.OnCell.{is_through, slice_run}
use Rattle.protocol.specs.Parts.{Cell, Waiting}
use Rattle.protocol.specs.Words.{waiting_of}
use Rattle.cell_part.specs.Running.{begun, written, ended}
use Rattle.snap_base.specs.declared.next.Next.{Next}
use Rattle.core_rows.specs.Slices.{Slices}

-- a cell that ends as the code's slice leaves it, and through where that is through
as_code : {C : Type 0} (code : Code C) (t a : ℕ) (c : Cell C) (slice : Sliced C) (state : State) (next : machine.Next C) (through : Bool)
    → slice ≡ record { state = state; next = next } → is_through code a next ≡ through
    → ended t slice.next (is_through code a slice.next) (written slice.state (begun t c)) ≡ slice_run code t a c
    → ended t next through (written state (begun t c)) ≡ slice_run code t a c
as_code code t a c slice state next through same is_so law =
    ap (λ b. ended t next b (written state (begun t c))) (sym is_so)
    ∙ (ap (λ r. ended t r.next (is_through code a r.next) (written r.state (begun t c))) (sym same)
    ∙ law)

-- it begins, the closure is called with the control that waited, and it ends with what the closure told
pub ran : {C F : Type 0} (g : Once F (MutBor State × (C × Unit {0})) ((Next C × Bool) × (MutBor State × Unit {0}))) (f : F) (code : Code C) (t a : ℕ) (c mid end : Cell C) (x : Waiting C) (control : C) (state left : MutBor State) (next : Next C) (through : Bool)
    → Slices g f code t a c → waiting_of t c.inbox ≡ Some x → x.control ≡ control → state.now ≡ c.state
    → FnOnceReturns g f (state, (control, tt)) ((next, through), (left, tt))
    → mid ≡ begun t c → end ≡ ended t (next_meant next) through (written left.now mid)
    → (let r = code.slice x.control c.state in ended t r.next (is_through code a r.next) (written r.state (begun t c)) ≡ slice_run code t a c)
    → end ≡ slice_run code t a c
ran g f code t a c mid end x control state left next through slices waits same now called began ends law =
    let did = slices x waits state left next through now (subst (λ y. FnOnceReturns g f (state, (y, tt)) ((next, through), (left, tt))) (sym same) called) in
    ends
    ∙ (ap (λ m. ended t (next_meant next) through (written left.now m)) began
    ∙ as_code code t a c (code.slice x.control c.state) left.now (next_meant next) through did.0 did.1 law)
