-- A slice keeps what the rest of its transaction gives by the meaning.
use Rattle.std.proofs.Common.{◌≡◌, ℕ, ◌-◌, inl, inr, ℤ, Result, List, [], length, set, sym, ap, ◌∙◌}
use mathlib.Core.Path.{fun_ext}
use Rattle.snap_base.specs.declared.transactions.State.{State}
use Rattle.snap_base.specs.declared.transactions.TxResult.{TxResult}
use Rattle.snap_base.specs.declared.transactions.TxResult.TheVariants as result
use Rattle.aml_tree.specs.Tree.{CheckedMethod}
use Rattle.aml_check.specs.Names.{method_at}
use Rattle.aml_check.specs.Meaning.{◌>>=◌, Progress, block, called, given}
use Rattle.aml_resume.specs.declared.places.Spot.{Spot}
use Rattle.aml_resume.specs.Resuming.{resumed}
use Rattle.aml_slice.specs.Controls.{Frame, Rest, progress_in}
use Rattle.aml_slice.specs.Wholes.{frame_gives, value_to, EndsRest, KeepsRest}
use Rattle.aml_slice.specs.Moments.{as_meant, value_near, elsewhere, EndsWith, CallsAway, ReturnsAway, GoesAway}
use Rattle.aml_slice.proofs.Moving.{PauseLaws}
use Rattle.aml_slice.proofs.RisingRests.{as_meant_rise}
use Rattle.aml_slice.proofs.NearLaws.{value_meant, gives_meant}

pub ends_kept : PauseLaws → (p : List CheckedMethod) (count : ℕ) (c : Rest) (s t : State) (e : TxResult) → EndsWith p count c s t e → EndsRest p count c s t e
ends_kept laws p count c s t (result.Value v) ends = λ w h. (
    let fs = elsewhere c.top.actor c.waiting in
    let last = ends (as_meant p fs) (as_meant_rise laws.blocks laws.calls p fs) w h in
    (last.0, sym (gives_meant p c w) ∙ last.1, last.2))
ends_kept laws p count c s t (result.Fail code) ends = λ w h. (
    let fs = elsewhere c.top.actor c.waiting in
    sym (gives_meant p c w) ∙ ends (as_meant p fs) (as_meant_rise laws.blocks laws.calls p fs) w h)

at_beginning : (p : List CheckedMethod) (d : Rest) (r : Progress) → d.top.standing.path ≡ [] → d.top.standing.next ≡ 0
    → given (block (called p (15 - length d.waiting)) d.top.actor (method_at p d.top.method).body d.top.standing.variables r) ≡ frame_gives (called p) p (length d.waiting) d.top r
at_beginning p d r no_path first =
    ap (λ n. given (resumed (called p (15 - length d.waiting)) d.top.actor (method_at p d.top.method).body [] n d.top.standing.variables r)) (sym first)
    ∙ ap (λ (qs : List Spot). given (resumed (called p (15 - length d.waiting)) d.top.actor (method_at p d.top.method).body qs d.top.standing.next d.top.standing.variables r)) (sym no_path)

calls_kept : PauseLaws → (p : List CheckedMethod) (count : ℕ) (c : Rest) (s t : State) (d : Rest) → CallsAway p count c s t d → KeepsRest p count c s t d
calls_kept laws p count c s t d calls = λ w h. (
    let fs = elsewhere c.top.actor c.waiting in
    let r = progress_in d (set w c.top.actor t) in
    sym (gives_meant p c w)
    ∙ calls.gives (as_meant p fs) (as_meant_rise laws.blocks laws.calls p fs) w h
    ∙ ap (λ (gs : List Frame). given (block (called p (15 - length d.waiting)) d.top.actor (method_at p d.top.method).body d.top.standing.variables (progress_in d (set w c.top.actor t))) >>= λ x. value_near p c.top.actor (as_meant p gs) d.waiting x.0 x.1) (sym calls.below)
    ∙ ap (λ (k : ℤ × Progress → Result (ℤ × Progress) ℕ). given (block (called p (15 - length d.waiting)) d.top.actor (method_at p d.top.method).body d.top.standing.variables (progress_in d (set w c.top.actor t))) >>= k) (fun_ext (λ x. value_meant p c.top.actor d.waiting x.0 x.1))
    ∙ ap (λ (k : Result (ℤ × Progress) ℕ). k >>= λ x. value_to (called p) p d.waiting x.0 x.1) (at_beginning p d (progress_in d (set w c.top.actor t)) calls.begins.0 calls.begins.1))

returns_kept : PauseLaws → (p : List CheckedMethod) (count : ℕ) (c : Rest) (s t : State) (d : Rest) → ReturnsAway p count c s t d → KeepsRest p count c s t d
returns_kept laws p count c s t d returns = λ w h. (
    let fs = elsewhere c.top.actor c.waiting in
    sym (gives_meant p c w)
    ∙ returns.gives (as_meant p fs) (as_meant_rise laws.blocks laws.calls p fs) w h
    ∙ ap (λ (gs : List Frame). value_to (called p) p gs returns.value (progress_in d (set w c.top.actor t))) returns.waited
    ∙ ap (λ (f : Frame). frame_gives (called p) p (length d.waiting) f (progress_in d (set w c.top.actor t)) >>= λ x. value_to (called p) p d.waiting x.0 x.1) (sym returns.takes))

pub goes_kept : PauseLaws → (p : List CheckedMethod) (count : ℕ) (c : Rest) (s t : State) (d : Rest) → GoesAway p count c s t d → KeepsRest p count c s t d
goes_kept laws p count c s t d (inl calls) = calls_kept laws p count c s t d calls
goes_kept laws p count c s t d (inr returns) = returns_kept laws p count c s t d returns
