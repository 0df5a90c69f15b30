-- A control at its beginning is the function's.
use Rattle.std.proofs.Common.{◌≡◌, ℕ, Ok, Option, Some, None, unwrap_or, List, [], ◌∷◌, refl, sym, ap, ◌∙◌}
use Rattle.snap_base.specs.declared.ids.ActorId.{ActorId}
use Rattle.snap_base.specs.declared.ids.Tid.{Tid}
use Rattle.snap_base.specs.declared.transactions.State.{State}
use Rattle.snap_base.specs.declared.transactions.Tx.{Tx}
use Rattle.aml_check.specs.Meaning.{Progress, admitted, beginning, declaration, by_declaration, with_left, used}
use Rattle.aml_slice.specs.Controls.{Frame, Rest, progress_in, fresh}
use Rattle.aml_slice.specs.Slicing.{root_used, started}

abbrev pub called_once : ℕ → Option (List (ActorId × ℕ)) → Progress
called_once a o = record { world = []; statements = 0; calls = 1; actors = a ∷ []; left = o }

left_so : (a : ℕ) (us : List (ActorId × ℕ)) (q : Progress) (o : Option (List (ActorId × ℕ))) → used a us ≡ o → with_left (called_once a (Some us)) o ≡ Ok q → q ≡ called_once a (root_used a (Some us))
left_so a us q None is e = absurd cc
left_so a us q (Some vs) is e =
    let same : called_once a (Some vs) ≡ q = cc in
    sym same ∙ ap (λ (o : Option (List (ActorId × ℕ))). called_once a (Some (unwrap_or o us))) (sym is)

pub declared_so : (a : ℕ) (q : Progress) (o : Option (List (ActorId × ℕ))) → by_declaration a (called_once a o) o ≡ Ok q → q ≡ called_once a (root_used a o)
declared_so a q None e = let same : called_once a None ≡ q = cc in sym same
declared_so a q (Some us) e = left_so a us q (used a us) refl e

pub started_so : (tid : Tid) (tx : Tx) (c : Rest) → ((w : List State) → admitted tx.actor.0 (beginning w tx) ≡ Ok (progress_in c w)) → c.top ≡ fresh tx.actor.0 tx.method tx.args → c.waiting ≡ [] → c.tid ≡ tid → c ≡ started tid tx
started_so tid tx c admits top none id =
    let a = tx.actor.0 in
    let e : progress_in c [] ≡ called_once tx.actor.0 (root_used tx.actor.0 (declaration tx.kind tx.uses)) = declared_so tx.actor.0 (progress_in c []) (declaration tx.kind tx.uses) (admits []) in
    ap (λ (q : Progress). let y : Rest = record c { statements = q.statements; calls = q.calls; actors = q.actors; left = q.left } in y) e
    ∙ ap (λ (f : Frame). let y : Rest = record (started tid tx) { tid = c.tid; waiting = c.waiting; top = f } in y) top
    ∙ ap (λ (fs : List Frame). let y : Rest = record (started tid tx) { tid = c.tid; waiting = fs } in y) none
    ∙ ap (λ (t : Tid). let y : Rest = record (started tid tx) { tid = t } in y) id
