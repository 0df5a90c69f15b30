-- Texts that are made of whole lines; a whole line in a front of such a text is one of these.
use Rattle.std.specs.Prelude.{◌≡◌, refl, ℕ, ◌==◌, ◌⊎◌, Bool, true, false, List, [], ◌∷◌, ◌++◌, length}
use Rattle.std.specs.List.{AllByRecursion, flat_map}
use Rattle.std.proofs.Common.{arith, sym, ap, subst, ◌∙◌, inl, inr}
use Rattle.std.proofs.lemmas.Bool.{eqb-true}
use Rattle.std.proofs.lemmas.List.{append-nil, append_assoc, length-append}
use Rattle.std.proofs.lemmas.List.Concat.{flat_map-append}
use Rattle.snap_base.proofs.Lists.{all_join, weaker}
use Rattle.trace_text.specs.Reads.{LacksByte}
use Rattle.trace_text.proofs.Cuts.{cut_one}
use Rattle.audit_words.specs.Papers.{AreWhole, ended}

-- nothing, or one whole line, which has P
abbrev pub IsChunk : (List ℕ → Type 0) → List ℕ → Type 0
IsChunk P c = (c ≡ []) ⊎ ((body : List ℕ) × (c ≡ ended body) × LacksByte 10 body × P c)

abbrev pub joined : List (List ℕ) → List ℕ
joined cs = flat_map (λ (c : List ℕ). c) cs

-- the text is made of lines that have P
pub record Lined (P : List ℕ → Type 0) (text : List ℕ) : Type 0 where
  pub chunks : List (List ℕ)
  pub each : AllByRecursion (IsChunk P) chunks
  pub is : text ≡ joined chunks

-- ---- how it comes to be so

pub lined_nothing : (P : List ℕ → Type 0) → Lined P []
lined_nothing P = record { chunks = []; each = tt; is = refl }

pub lined_line : (P : List ℕ → Type 0) (body : List ℕ) → LacksByte 10 body → P (ended body) → Lined P (ended body)
lined_line P body lacks p = record { chunks = ended body ∷ []; each = (inr (body, refl, lacks, p), tt); is = sym (append-nil (ended body)) }

pub lined_join : (P : List ℕ → Type 0) (x y : List ℕ) → Lined P x → Lined P y → Lined P (x ++ y)
lined_join P x y a b = record {
  chunks = a.chunks ++ b.chunks;
  each = all_join (IsChunk P) a.chunks b.chunks a.each b.each;
  is = ap (λ (z : List ℕ). z ++ y) a.is ∙ (ap (λ (z : List ℕ). joined a.chunks ++ z) b.is ∙ sym (flat_map-append (λ (c : List ℕ). c) a.chunks b.chunks));
}

pub lined_all : {X : Type 0} (P : List ℕ → Type 0) (line : X → List ℕ) (xs : List X) → ((x : X) → Lined P (line x)) → Lined P (flat_map line xs)
lined_all P line [] each = lined_nothing P
lined_all P line (x ∷ xs) each = lined_join P (line x) (flat_map line xs) (each x) (lined_all P line xs each)

chunk_weaker : (P Q : List ℕ → Type 0) → ((line : List ℕ) → P line → Q line) → (c : List ℕ) → IsChunk P c → IsChunk Q c
chunk_weaker P Q then c (inl none) = inl none
chunk_weaker P Q then c (inr line) = inr (line.0, line.1, line.2, then c line.3)

pub lined_weaker : (P Q : List ℕ → Type 0) (text : List ℕ) → ((line : List ℕ) → P line → Q line) → Lined P text → Lined Q text
lined_weaker P Q text then a = record { chunks = a.chunks; each = weaker (IsChunk P) (IsChunk Q) a.chunks (chunk_weaker P Q then) a.each; is = a.is }

-- ---- its first line

-- whole lines, cut behind the first of them
record Cut (front : List ℕ) : Type 0 where
  body : List ℕ
  rest : List ℕ
  lacks : LacksByte 10 body
  splits : front ≡ body ++ 10 ∷ rest
  whole : AreWhole rest

first_line : (g : List ℕ) → Cut (ended g)
first_line [] = record { body = []; rest = []; lacks = tt; splits = refl; whole = inl refl }
first_line (x ∷ g) = by (x == 10) refl (first_line g)
  where
    by : (t : Bool) → (x == 10) ≡ t → Cut (ended g) → Cut (ended (x ∷ g))
    by true e more = record { body = []; rest = ended g; lacks = tt; splits = ap (λ (z : ℕ). z ∷ ended g) (eqb-true x 10 e); whole = inr (g, refl) }
    by false e more = record { body = x ∷ more.body; rest = more.rest; lacks = (e, more.lacks); splits = ap (λ (zs : List ℕ). x ∷ zs) more.splits; whole = more.whole }

ended_front : (body rest : List ℕ) → ended body ++ rest ≡ body ++ 10 ∷ rest
ended_front body rest = append_assoc body (10 ∷ []) rest

nothing_behind : (front body rest : List ℕ) → front ++ (ended body ++ rest) ≡ [] → ⊥
nothing_behind front body rest e =
    let l : length (front ++ (ended body ++ rest)) ≡ 0 = ap length e in
    omega (arith, l, length-append front (ended body ++ rest), length-append (ended body) rest, length-append body (10 ∷ []))

-- ---- a whole line in it

-- one chunk on, where this is known of the others
module _ (P : List ℕ → Type 0) (c : List ℕ) (cs : List (List ℕ)) (body rest : List ℕ) (lacks : LacksByte 10 body)
    (again : (front : List ℕ) → AreWhole front → front ++ (ended body ++ rest) ≡ joined cs → P (ended body)) where
  behind_line : (line : List ℕ) → c ≡ ended line → LacksByte 10 line → P c → (front : List ℕ) → AreWhole front → front ++ (ended body ++ rest) ≡ c ++ joined cs → P (ended body)
  behind_line line is free p front (inl none) e =
      let begins : body ++ 10 ∷ rest ≡ line ++ 10 ∷ joined cs =
      sym (ended_front body rest) ∙ (ap (λ (z : List ℕ). z ++ (ended body ++ rest)) (sym none) ∙ (e ∙ (ap (λ (z : List ℕ). z ++ joined cs) is ∙ ended_front line (joined cs)))) in
      subst P (is ∙ ap (λ (z : List ℕ). ended z) (sym (cut_one 10 body rest line (joined cs) lacks free begins).0)) p
  behind_line line is free p front (inr whole) e =
      let cut = first_line whole.0 in
      let first : front ≡ cut.body ++ 10 ∷ cut.rest = whole.1 ∙ cut.splits in
      let begins : cut.body ++ 10 ∷ (cut.rest ++ (ended body ++ rest)) ≡ line ++ 10 ∷ joined cs =
      sym (append_assoc cut.body (10 ∷ cut.rest) (ended body ++ rest)) ∙ (ap (λ (z : List ℕ). z ++ (ended body ++ rest)) (sym first) ∙ (e ∙ (ap (λ (z : List ℕ). z ++ joined cs) is ∙ ended_front line (joined cs)))) in
      again cut.rest cut.whole (cut_one 10 cut.body (cut.rest ++ (ended body ++ rest)) line (joined cs) cut.lacks free begins).1

  behind_chunk : IsChunk P c → (front : List ℕ) → AreWhole front → front ++ (ended body ++ rest) ≡ c ++ joined cs → P (ended body)
  behind_chunk (inl none) front whole e = again front whole (e ∙ ap (λ (z : List ℕ). z ++ joined cs) none)
  behind_chunk (inr line) front whole e = behind_line line.0 line.1 line.2 line.3 front whole e

among_chunks : (P : List ℕ → Type 0) (cs : List (List ℕ)) → AllByRecursion (IsChunk P) cs → (body rest : List ℕ) → LacksByte 10 body
    → (front : List ℕ) → AreWhole front → front ++ (ended body ++ rest) ≡ joined cs → P (ended body)
among_chunks P [] each body rest lacks front whole e = absurd (nothing_behind front body rest e)
among_chunks P (c ∷ cs) each body rest lacks front whole e = behind_chunk P c cs body rest lacks (among_chunks P cs each.1 body rest lacks) each.0 front whole e

-- a whole line in the text has P
pub line_has : (P : List ℕ → Type 0) (text front body rest : List ℕ) → Lined P text → AreWhole front → LacksByte 10 body → text ≡ front ++ (ended body ++ rest) → P (ended body)
line_has P text front body rest a whole lacks e = among_chunks P a.chunks a.each body rest lacks front whole (sym e ∙ a.is)
