-- What a read gives stays tied to the operations that were kept, whether a step succeeded or not.
use Rattle.std.proofs.Common.{◌≡◌, ℕ, List, [], ◌∷◌, ◌++◌, sym, ap, ◌∙◌, Result, Ok, Err, OnOk, OnErr, is_ok, if◌then◌else◌}
use Rattle.snap_outside.proofs.Replays.{after_one_more}
use Rattle.snap_outside.specs.Disk.{Disk, settled, overwritten, content_of}
use Rattle.snap_outside.specs.declared.devices.DevOp.{DevOp}
use Rattle.snap_outside.specs.declared.devices.DevOp.TheVariants.{Write, Sync}

pub write_keeps : {T E : Type 0} (result : Result T E) (first old new : List ℕ) (ops more : List DevOp) (at : ℕ) (piece : List ℕ)
    → old ≡ content_of first ops
    → OnOk result (new ≡ overwritten old at piece) → OnOk result (more ≡ ops ++ Write at piece ∷ [])
    → OnErr result (new ≡ old) → OnErr result (more ≡ ops)
    → new ≡ content_of first more
write_keeps (Ok _) first old new ops more at piece same wrote kept _ _ =
    wrote ∙ ap (λ (l : List ℕ). overwritten l at piece) same
    ∙ sym (ap (λ (d : Disk). d.now) (after_one_more ops (Write at piece) (settled first)))
    ∙ ap (content_of first) (sym kept)
write_keeps (Err _) first old new ops more at piece same _ _ stood none = stood ∙ same ∙ ap (content_of first) (sym none)

pub sync_keeps : {T E : Type 0} (result : Result T E) (first now : List ℕ) (ops more : List DevOp)
    → now ≡ content_of first ops
    → more ≡ (if is_ok result then ops ++ Sync ∷ [] else ops)
    → now ≡ content_of first more
sync_keeps (Ok _) first now ops more same kept =
    same ∙ sym (ap (λ (d : Disk). d.now) (after_one_more ops Sync (settled first))) ∙ ap (content_of first) (sym kept)
sync_keeps (Err _) first now ops more same none = same ∙ ap (content_of first) (sym none)
