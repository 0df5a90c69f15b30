-- The events of the acts so far.
use Rattle.std.proofs.Common.{◌≡◌, ℕ, suc, ◌+◌, ◌<◌, List, [], ◌∷◌, ◌++◌, length, take, get_or, ap, ◌∙◌, append-nil, arith}
use Rattle.std.proofs.Math.Seq.{take-suc}
use Rattle.crew_parts.specs.Acts.{meant}
use Rattle.crew_parts.specs.Crews.{added, kept}
use Rattle.crew_parts.specs.declared.acts.Act.{Act}
use Rattle.crew_parts.proofs.LeftAlone.{kept-append}

pub kept_more : (acts : List Act) (i : ℕ) (d : Act) → i < length acts → kept (take (i + 1) acts) ≡ kept (take i acts) ++ added (get_or acts i d).done (meant (get_or acts i d))
kept_more acts i d lt =
    let one : i + 1 ≡ suc i = omega arith in
    ap (λ n. kept (take n acts)) one ∙ ap kept (take-suc acts i d lt) ∙ kept-append (take i acts) (get_or acts i d ∷ [])
    ∙ ap (λ es. kept (take i acts) ++ es) (append-nil (added (get_or acts i d).done (meant (get_or acts i d))))
