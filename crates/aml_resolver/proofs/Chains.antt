-- Operators that join operands from the left: their faults and their names, one link after the other.
use Rattle.std.proofs.Common.{◌≡◌, ℕ, ◌+◌, ◌<◌, List, [], ◌∷◌, ◌++◌, length, take, drop, get_or, map, refl, sym, ap, ◌∙◌, subst, append_assoc, append-nil}
use Rattle.std.specs.List.{flat_map}
use Rattle.std.proofs.lemmas.List.{take_more, take-append-drop, map-append}
use Rattle.std.proofs.lemmas.List.Concat.{flat_map-append}
use Rattle.snap_base.proofs.Lists.{flat_step}
use Rattle.aml_tokens.specs.declared.tokens.Word.{Word}
use Rattle.aml_tree.specs.declared.trees.Link.{Link}
use Rattle.aml_tree.specs.Tree.{Expr, Binary, chain_tree}
use Rattle.aml_resolver.specs.declared.faults.CheckNo.{CheckNo}
use Rattle.aml_resolver.specs.declared.faults.CheckNo.TheVariants.{Fault, Memory}
use Rattle.aml_resolver.specs.declared.faults.CheckFault.{CheckFault}
use Rattle.aml_resolver.specs.Names.{checked_expression}
use Rattle.aml_resolver.specs.Faults.{faults}
use Rattle.aml_resolver.specs.Resolving.{Refuses, links_faults, checked_links}

-- ---- first faults of several parts

pub refuses_more : (fs gs : List CheckFault) (e : CheckNo) → Refuses fs e → Refuses (fs ++ gs) e
refuses_more fs gs (Fault f) h = (h.0 ++ gs, ap (λ hs. hs ++ gs) h.1)
refuses_more fs gs Memory h = tt

pub refuses_behind : (fs gs : List CheckFault) (e : CheckNo) → fs ≡ [] → Refuses gs e → Refuses (fs ++ gs) e
refuses_behind fs gs e none h = let P : List CheckFault → Type 0 = λ hs. Refuses (hs ++ gs) e in subst P (sym none) h

pub both_faultless : (fs gs : List CheckFault) → fs ≡ [] → gs ≡ [] → fs ++ gs ≡ []
both_faultless fs gs e f = ap (λ hs. hs ++ gs) e ∙ f

-- ---- a list of parts, of which those before a place have no fault

flat-map : {A B C : Type 0} (f : B → List C) (g : A → B) (xs : List A) → flat_map f (map g xs) ≡ flat_map (λ y. f (g y)) xs
flat-map f g [] = refl
flat-map f g (x ∷ xs) = ap (λ zs. f (g x) ++ zs) (flat-map f g xs)

pub parts_refuse : {A : Type 0} (f : A → List CheckFault) (xs : List A) (i : ℕ) (x : A) (e : CheckNo) → i < length xs → x ≡ get_or xs i x → flat_map f (take i xs) ≡ [] → Refuses (f x) e → Refuses (flat_map f xs) e
parts_refuse f xs i x e h is none here =
    let P : List CheckFault → Type 0 = λ hs. Refuses hs e in
    let so_far : Refuses (flat_map f (take (i + 1) xs)) e = subst P (sym (flat_step f xs i x h is)) (refuses_behind (flat_map f (take i xs)) (f x) e none here) in
    subst P (sym (ap (flat_map f) (sym (take-append-drop (i + 1) xs)) ∙ flat_map-append f (take (i + 1) xs) (drop (i + 1) xs))) (refuses_more (flat_map f (take (i + 1) xs)) (flat_map f (drop (i + 1) xs)) e so_far)

-- the same of parts that are views of the elements
pub mapped_refuse : {A B : Type 0} (f : B → List CheckFault) (g : A → B) (xs : List A) (i : ℕ) (x : A) (e : CheckNo) → i < length xs → x ≡ get_or xs i x → flat_map f (map g (take i xs)) ≡ [] → Refuses (f (g x)) e → Refuses (flat_map f (map g xs)) e
mapped_refuse f g xs i x e h is none here =
    let P : List CheckFault → Type 0 = λ hs. Refuses hs e in
    subst P (sym (flat-map f g xs)) (parts_refuse (λ y. f (g y)) xs i x e h is (sym (flat-map f g (take i xs)) ∙ none) here)

pub parts_more : {A : Type 0} (f : A → List CheckFault) (xs : List A) (i : ℕ) (x : A) → i < length xs → x ≡ get_or xs i x → flat_map f (take i xs) ≡ [] → f x ≡ [] → flat_map f (take (i + 1) xs) ≡ []
parts_more f xs i x h is none here = flat_step f xs i x h is ∙ both_faultless (flat_map f (take i xs)) (f x) none here

pub map_next : {A B : Type 0} (f : A → B) (xs : List A) (i : ℕ) (x : A) → i < length xs → x ≡ get_or xs i x → map f (take (i + 1) xs) ≡ map f (take i xs) ++ f x ∷ []
map_next f xs i x h is = ap (map f) (take_more xs i x h ∙ ap (λ y. take i xs ++ y ∷ []) (sym is)) ∙ map-append f (take i xs) (x ∷ [])

-- ---- chains

pub chain_faults : (names : List (List ℕ)) (e : Expr Word) (ls : List (Link (Expr Word))) → faults names (chain_tree e ls) ≡ faults names e ++ links_faults names ls
chain_faults names e [] = sym (append-nil (faults names e))
chain_faults names e (l ∷ ls) = chain_faults names (Binary l.operator e l.operand) ls ∙ append_assoc (faults names e) (faults names l.operand) (links_faults names ls)

pub chain_checked : (names : List (List ℕ)) (e : Expr Word) (ls : List (Link (Expr Word))) → checked_expression names (chain_tree e ls) ≡ chain_tree (checked_expression names e) (checked_links names ls)
chain_checked names e [] = refl
chain_checked names e (l ∷ ls) = chain_checked names (Binary l.operator e l.operand) ls

pub chain_refuses : (names : List (List ℕ)) (e : Expr Word) (ls : List (Link (Expr Word))) (f : CheckNo) → Refuses (faults names e) f → Refuses (faults names (chain_tree e ls)) f
chain_refuses names e ls f h =
    let P : List CheckFault → Type 0 = λ hs. Refuses hs f in
    subst P (sym (chain_faults names e ls)) (refuses_more (faults names e) (links_faults names ls) f h)

pub links_refuse : (names : List (List ℕ)) (e : Expr Word) (ls : List (Link (Expr Word))) (f : CheckNo) → faults names e ≡ [] → Refuses (links_faults names ls) f → Refuses (faults names (chain_tree e ls)) f
links_refuse names e ls f none h =
    let P : List CheckFault → Type 0 = λ hs. Refuses hs f in
    subst P (sym (chain_faults names e ls)) (refuses_behind (faults names e) (links_faults names ls) f none h)

pub chain_resolves : (names : List (List ℕ)) (e : Expr Word) (ls : List (Link (Expr Word))) (c d : Expr ℕ) (cs : List (Link (Expr ℕ))) → (faults names e ≡ []) × (c ≡ checked_expression names e) → (links_faults names ls ≡ []) × (cs ≡ checked_links names ls) → d ≡ chain_tree c cs → (faults names (chain_tree e ls) ≡ []) × (d ≡ checked_expression names (chain_tree e ls))
chain_resolves names e ls c d cs first rest is = (
  chain_faults names e ls ∙ both_faultless (faults names e) (links_faults names ls) first.0 rest.0,
  is ∙ ap (λ t. chain_tree t cs) first.1 ∙ ap (chain_tree (checked_expression names e)) rest.1 ∙ sym (chain_checked names e ls),
)
