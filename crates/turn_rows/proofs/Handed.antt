-- What holds of passes that were lent to workers and are handed in with one more.
use Rattle.std.proofs.Common.{◌≡◌, ℕ, List, [], ◌∷◌, ◌++◌, length, take, drop}
use Rattle.std.specs.List.{All}
use Rattle.std.proofs.lemmas.List.Elements.{All-same, All-push, All-append, All-take, All-drop}

pub handed_in : {X : Type 0} (old new items : List X) (x : X) (n : ℕ) (P : X → Type 0) → items ≡ take n (new ++ drop (length new) old) ++ x ∷ []
    → All P old → All P new → P x → All P items
handed_in old new items x n P is before after one =
    let left = drop (length new) old in
    All-same P items (take n (new ++ left) ++ x ∷ []) is
    (All-push P (take n (new ++ left)) x (All-take P n (new ++ left) (All-append P new left after (All-drop P (length new) old before))) one)
