-- Lists that begin alike.
use Rattle.std.proofs.Common.{◌≡◌, ◌≢◌, ℕ, zero, suc, ◌+◌, ◌<◌, ◌≤◌, List, [], ◌∷◌, ◌++◌, length, take, drop, get_or, refl, sym, ap, ◌∙◌, arith}
use Rattle.std.proofs.lemmas.List.{take_all, take-append-drop, length-append, get_or_default}
use Rattle.snap_base.proofs.Lists.{read_same}
use Rattle.txn_records.specs.declared.records.Record.{Record}
use Rattle.snap_recover.proofs.Steps.{taken}
use Rattle.snap_follow.specs.Rounds.{StartsWith, list_at}

-- ---- one element more

pub alike_more : {X : Type 0} (xs ys : List X) (i : ℕ) (x y : X) → i < length xs → i < length ys → x ≡ get_or xs i x → y ≡ get_or ys i y → x ≡ y → take i xs ≡ take i ys → take (i + 1) xs ≡ take (i + 1) ys
alike_more xs ys i x y l m at there e h = taken xs i x l at ∙ ap (λ z. z ++ x ∷ []) h ∙ ap (λ z. take i ys ++ z ∷ []) e ∙ sym (taken ys i y m there)

pub alike_all : {X : Type 0} (xs ys : List X) (i : ℕ) → length xs ≤ i → length ys ≤ i → take i xs ≡ take i ys → xs ≡ ys
alike_all xs ys i l m h = sym (take_all i xs l) ∙ h ∙ take_all i ys m

pub not_alike : {X : Type 0} (xs ys : List X) (i : ℕ) (x y : X) → i < length xs → x ≡ get_or xs i x → y ≡ get_or ys i y → x ≢ y → xs ≢ ys
not_alike xs ys i x y l at there ne e = ne (at ∙ read_same xs i x y l ∙ ap (λ z. get_or z i y) e ∙ sym there)

-- ---- records

front_at : (front rest : List Record) (i : ℕ) (d : Record) → i < length front → get_or (front ++ rest) i d ≡ get_or front i d
front_at [] rest i d l = absurd (omega (arith, l))
front_at (x ∷ front) rest zero d l = refl
front_at (x ∷ front) rest (suc i) d l = front_at front rest i d (omega (arith, l))

pub begins : (rs front : List Record) (i : ℕ) → length front ≤ i → take i rs ≡ take i front → StartsWith rs front
begins rs front i l h = (drop i rs, sym (take-append-drop i rs) ∙ ap (λ (z : List Record). z ++ drop i rs) (h ∙ take_all i front l))

pub begins_not : (rs front : List Record) (i : ℕ) (r s : Record) → i < length rs → i < length front → r ≡ get_or rs i r → s ≡ get_or front i s → r ≢ s → ¬ StartsWith rs front
begins_not rs front i r s l m at there ne (rest, e) =
    ne (at ∙ ap (λ (z : List Record). get_or z i r) e ∙ front_at front rest i r m ∙ read_same front i r s m ∙ sym there)

pub too_short : (rs front : List Record) → length rs < length front → ¬ StartsWith rs front
too_short rs front l (rest, e) = absurd (omega (arith, l, ap (λ (z : List Record). length z) e, length-append front rest))

pub listed : (lists : List (List Record)) (i : ℕ) (rs : List Record) → i < length lists → rs ≡ get_or lists i rs → list_at lists i ≡ rs
listed lists i rs l at = get_or_default lists i [] rs l ∙ sym at
