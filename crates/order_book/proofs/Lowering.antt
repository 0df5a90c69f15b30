-- A batch behind some ACTs, met one after the other.
use Rattle.std.proofs.Common.{◌≡◌, ℕ, refl, ap, sym, ◌∙◌, arith, map, List, [], ◌∷◌, ◌++◌}
use Rattle.std.specs.Prelude.{◌==◌, ◌||◌, Bool, true, false, if◌then◌else◌, Option, Some, None}
use Rattle.snap_base.proofs.Booleans.{or_assoc, or_false}
use Rattle.protocol.specs.Parts.{Act}
use Rattle.protocol.specs.Words.{is_among, least_of}
use Rattle.protocol.specs.OnBook.{change_if, changed_act, lowered}
use Rattle.order_book.specs.Changes.{lowered_to}
use Rattle.order_book.proofs.Finding.{eqb_turned}

pub lowered_none : (k : ℕ) (acts : List Act) → acts ≡ map (lowered k []) acts
lowered_none k [] = refl
lowered_none k (x ∷ xs) = ap (λ (zs : List Act). x ∷ zs) (lowered_none k xs)

least_again : (k : ℕ) (n : Option ℕ) → least_of k (Some (least_of k n)) ≡ least_of k n
least_again k None = omega arith
least_again k (Some y) = omega arith

number_more : (k : ℕ) (n : Option ℕ) (b c : Bool)
    → (if b then Some (least_of k (if c then Some (least_of k n) else n)) else (if c then Some (least_of k n) else n)) ≡ (if c || b then Some (least_of k n) else n)
number_more k n true true = ap (λ (m : ℕ). Some m) (least_again k n)
number_more k n true false = refl
number_more k n false true = refl
number_more k n false false = refl

number_changed : (k : ℕ) (b : Bool) (x : Act) → change_if b (lowered_to k) x ≡ record x { n = if b then Some (least_of k x.n) else x.n }
number_changed k true x = refl
number_changed k false x = refl

among_push : (n : ℕ) (ts : List ℕ) (t : ℕ) → is_among n (ts ++ t ∷ []) ≡ (is_among n ts || (t == n))
among_push n [] t = or_false (t == n)
among_push n (s ∷ ts) t = ap (λ (b : Bool). (s == n) || b) (among_push n ts t) ∙ or_assoc (s == n) (is_among n ts) (t == n)

lowered_one : (k t : ℕ) (ts : List ℕ) (x : Act) → change_if (x.tid == t) (lowered_to k) (lowered k ts x) ≡ lowered k (ts ++ t ∷ []) x
lowered_one k t ts x =
    number_changed k (x.tid == t) (lowered k ts x)
    ∙ ap (λ (o : Option ℕ). record x { n = o })
    (number_more k x.n (x.tid == t) (is_among x.tid ts)
    ∙ (ap (λ (b : Bool). if is_among x.tid ts || b then Some (least_of k x.n) else x.n) (sym (eqb_turned x.tid t (x.tid == t) refl))
    ∙ ap (λ (b : Bool). if b then Some (least_of k x.n) else x.n) (sym (among_push x.tid ts t))))

pub lowered_more : (k t : ℕ) (ts : List ℕ) (acts : List Act) → changed_act t (lowered_to k) (map (lowered k ts) acts) ≡ map (lowered k (ts ++ t ∷ [])) acts
lowered_more k t ts [] = refl
lowered_more k t ts (x ∷ xs) = ap (λ (z : Act). z ∷ changed_act t (lowered_to k) (map (lowered k ts) xs)) (lowered_one k t ts x) ∙ ap (λ (zs : List Act). lowered k (ts ++ t ∷ []) x ∷ zs) (lowered_more k t ts xs)
