-- Words that declare actors, and actors that ascend.
use Rattle.std.proofs.Common.{◌≡◌, ℕ, ◌+◌, ◌<◌, ◌≤◌, ◌^◌, List, [], ◌∷◌, ◌++◌, length, get_or, drop, map, refl, sym, ap, ◌∙◌, arith, zero, suc, append_assoc, true, eqb, Bor}
use Rattle.std.specs.Prelude.{codes, Contains, Option, Some, None, MatchOption}
use Rattle.std.specs.List.{AllByRecursion, list_any}
use Rattle.std.specs.Fmt.{decimal}
use Rattle.std.proofs.lemmas.Fmt.{decimal_injective}
use Rattle.std.proofs.lemmas.Bool.{eq-eqb}
use Rattle.std.proofs.lemmas.List.{length-map, length-drop, get_or-map}
use Rattle.std.proofs.lemmas.List.Folds.{Any-from_list_any, list_any_at}
use Rattle.std.proofs.lemmas.Map.Views.{exact_unsigned_eq}
use Rattle.snap_base.specs.declared.ids.ActorId.{ActorId}
use Rattle.snap_base.specs.declared.transactions.Kind.{Kind}
use Rattle.snap_base.specs.declared.transactions.Kind.TheVariants.{Pact}
use Rattle.aml_check.specs.Transactions.{AreAscending, IsUse}
use Rattle.work_text.specs.Transactions.{use_word, uses_words, AreUses}
use Rattle.work_text.specs.Parts.{AreDeclared}
use Rattle.work_text.proofs.Words.{cut_one, decimal_free}
use Rattle.work_text.proofs.Lists.{drop_step}
use Rattle.work_text.proofs.ActorLines.{behind as words_behind}

-- ---- words that declare actors declare them in one way

abbrev use_at : ℕ → ℕ → ActorId × ℕ
use_at actor calls = record { 0 = record { 0 = actor }; 1 = calls }

use_word_one : (actors : ℕ) (u v : ActorId × ℕ) → actors < 2 ^ 16 → IsUse actors u → IsUse actors v → use_word u ≡ use_word v → u ≡ v
use_word_one actors u v small h k e =
    let parts : decimal u.0.0 ++ 58 ∷ decimal u.1 ≡ decimal v.0.0 ++ 58 ∷ decimal v.1 = sym (append_assoc (decimal u.0.0) (58 ∷ []) (decimal u.1)) ∙ e ∙ append_assoc (decimal v.0.0) (58 ∷ []) (decimal v.1) in
    let both = cut_one (decimal u.0.0) (decimal u.1) (decimal v.0.0) (decimal v.1) (decimal_free u.0.0 (omega (arith, h.actor))) (decimal_free v.0.0 (omega (arith, k.actor))) parts in
    let actor : u.0.0 ≡ v.0.0 = decimal_injective u.0.0 v.0.0 (omega (arith, h.actor)) (omega (arith, k.actor)) both.0 in
    let calls : u.1 ≡ v.1 = decimal_injective u.1 v.1 (omega (arith, h.calls)) (omega (arith, k.calls)) both.1 in
    ap (λ a. use_at a u.1) actor ∙ ap (λ n. use_at v.0.0 n) calls

pub use_words_one : (actors : ℕ) (us vs : List (ActorId × ℕ)) → actors < 2 ^ 16 → AllByRecursion (IsUse actors) us → AllByRecursion (IsUse actors) vs → map use_word us ≡ map use_word vs → us ≡ vs
use_words_one actors [] [] small h k e = refl
use_words_one actors [] (v ∷ vs) small h k e = cc
use_words_one actors (u ∷ us) [] small h k e = cc
use_words_one actors (u ∷ us) (v ∷ vs) small h k e =
    let word : use_word u ≡ use_word v = cc in
    let words : map use_word us ≡ map use_word vs = cc in
    ap (λ w. w ∷ us) (use_word_one actors u v small h.0 k.0 word) ∙ ap (λ ws. v ∷ ws) (use_words_one actors us vs small h.1 k.1 words)

-- ---- ascending, by places

pub ascending_at : (us : List (ActorId × ℕ)) (i j : ℕ) (d e : ActorId × ℕ) → AreAscending us → j ≡ i + 1 → j < length us → (get_or us i d).0.0 < (get_or us j e).0.0
ascending_at [] i j d e h s lt = absurd (omega arith)
ascending_at (u ∷ []) i j d e h s lt = absurd (omega arith)
ascending_at (u ∷ v ∷ us) i zero d e h s lt = absurd (omega arith)
ascending_at (u ∷ v ∷ us) zero (suc zero) d e h s lt = h.0
ascending_at (u ∷ v ∷ us) zero (suc (suc j)) d e h s lt = absurd (omega arith)
ascending_at (u ∷ v ∷ us) (suc i) (suc j) d e h s lt = ascending_at (v ∷ us) i j d e h.1 (omega arith) (omega arith)

pub ascending_by : (us : List (ActorId × ℕ)) → ((d : ActorId × ℕ) (i : ℕ) → suc i < length us → (get_or us i d).0.0 < (get_or us (suc i) d).0.0) → AreAscending us
ascending_by [] h = tt
ascending_by (u ∷ []) h = tt
ascending_by (u ∷ v ∷ us) h = (h u 0 (omega arith), ascending_by (v ∷ us) (λ d i lt. h d (suc i) (omega arith)))

-- ---- the words behind a call's arguments, of a PACT

pub pact_declares : (kind : Kind) (actors : ℕ) (ws behind : List (Bor (List ℕ))) (us : List (ActorId × ℕ)) → kind ≡ Pact → behind ≡ drop 1 ws → 2 ≤ length ws → get_or (map (λ word. word.now) ws) 0 [] ≡ codes "uses"
    → AreDeclared actors (map (λ word. word.now) behind) us → (map (λ word. word.now) ws ≡ uses_words kind us) × AreUses kind actors us
pact_declares kind actors ws behind us k b two first h =
    let words : drop 1 (map (λ (word : Bor (List ℕ)). word.now) ws) ≡ map use_word us = sym (words_behind ws 1) ∙ sym (ap (map (λ (word : Bor (List ℕ)). word.now)) b) ∙ h.spelled in
    let number : length ws ≡ length (map (λ (word : Bor (List ℕ)). word.now) ws) = sym (length-map ws (λ (word : Bor (List ℕ)). word.now)) in
    rw k (
      drop_step (map (λ (word : Bor (List ℕ)). word.now) ws) 0 (codes "uses") (map use_word us) (omega (arith, two, number)) first words,
      (omega (arith, two, number, ap length words, length-drop 1 (map (λ (word : Bor (List ℕ)). word.now) ws), length-map us use_word), h.each, h.ascending),
    )

pub pact_declares_not : (kind : Kind) (actors : ℕ) (ws behind : List (Bor (List ℕ))) (us : List (ActorId × ℕ)) → kind ≡ Pact → behind ≡ drop 1 ws → ((vs : List (ActorId × ℕ)) → ¬ AreDeclared actors (map (λ word. word.now) behind) vs)
    → AreUses kind actors us → map (λ word. word.now) ws ≡ uses_words kind us → ⊥
pact_declares_not kind actors ws behind us k b none are e =
    let all : AreUses Pact actors us = rw k at are in
    let words : map (λ (word : Bor (List ℕ)). word.now) ws ≡ uses_words Pact us = rw k at e in
    none us (record { spelled = ap (map (λ (word : Bor (List ℕ)). word.now)) b ∙ words_behind ws 1 ∙ ap (drop 1) words; each = all.1; ascending = all.2 })

pub match_weaker : {X : Type 0} (r : Option X) (A B : Type 0) (P Q : X → Type 0) → (A → B) → ((x : X) → P x → Q x) → MatchOption r A P → MatchOption r B Q
match_weaker None A B P Q none some h = none h
match_weaker (Some x) A B P Q none some h = some x h

-- ---- an actor among those that are declared

pub is_among : (us : List (ActorId × ℕ)) (root : ℕ) → list_any (λ (u : ActorId × ℕ). eqb u.0.0 root) us ≡ true → Contains (map (λ (u : ActorId × ℕ). u.0.0) us) root
is_among us root e =
    let one = Any-from_list_any (λ (u : ActorId × ℕ). eqb u.0.0 root) us e in (
      one.0,
      omega (arith, one.2, length-map us (λ (u : ActorId × ℕ). u.0.0)),
      get_or-map (λ (u : ActorId × ℕ). u.0.0) us one.0 one.1 root one.2 ∙ ap (λ (u : ActorId × ℕ). u.0.0) one.3 ∙ exact_unsigned_eq one.1.0.0 root one.4,
    )

pub among_is : (us : List (ActorId × ℕ)) (root : ℕ) → Contains (map (λ (u : ActorId × ℕ). u.0.0) us) root → list_any (λ (u : ActorId × ℕ). eqb u.0.0 root) us ≡ true
among_is us root h =
    let lt : h.0 < length us = omega (arith, h.1, length-map us (λ (u : ActorId × ℕ). u.0.0)) in
    list_any_at (λ (u : ActorId × ℕ). eqb u.0.0 root) us h.0 (use_at 0 0) lt (eq-eqb _ root (sym (get_or-map (λ (u : ActorId × ℕ). u.0.0) us h.0 (use_at 0 0) root lt) ∙ h.2))
