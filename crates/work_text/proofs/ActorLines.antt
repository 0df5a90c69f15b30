-- A line that names an actor, by its words.
use Rattle.std.proofs.Common.{◌≡◌, ℕ, ℤ, List, [], ◌∷◌, length, get_or, map, drop, sym, ap, ◌∙◌, arith, Bor}
use Rattle.std.specs.Prelude.{Option, codes}
use Rattle.std.specs.Fmt.{decimal, signed_decimal}
use Rattle.std.proofs.lemmas.List.{length-map, drop-map, length-drop}
use Rattle.work_text.specs.Lines.{words}
use Rattle.work_text.specs.Actors.{Named, Names}
use Rattle.work_text.specs.Parts.{AreNumbers, NamesActor}
use Rattle.work_text.proofs.Lists.{drop_step}

pub behind : (ws : List (Bor (List ℕ))) (m : ℕ) → map (λ word. word.now) (drop m ws) ≡ drop m (map (λ word. word.now) ws)
behind ws m = sym (drop-map (λ (word : Bor (List ℕ)). word.now) m ws)

names : (xs : List (List ℕ)) (actors : ℕ) (last : Option ℕ) (line : List ℕ) (a : ℕ) (values : List ℤ) → xs ≡ words line → NamesActor actors last xs a → AreNumbers (drop 2 xs) values → Names actors last line (record { actor = a; values = values })
names xs actors last line a values e h numbers = record {
  spelled = sym e ∙ drop_step xs 0 _ _ (omega (arith, h.count)) h.first (drop_step xs 1 _ _ (omega (arith, h.count)) h.second numbers.0);
  known = h.known;
  ascends = h.ascends;
  some = omega (arith, h.count, length-drop 2 xs, ap length numbers.0, length-map values signed_decimal);
  fit = numbers.1;
}

pub line_names : (ws : List (Bor (List ℕ))) (actors : ℕ) (last : Option ℕ) (line : List ℕ) (a : ℕ) (values : List ℤ) (mid : List (Bor (List ℕ))) → mid ≡ drop 2 ws → map (λ word. word.now) ws ≡ words line → NamesActor actors last (map (λ word. word.now) ws) a
    → AreNumbers (map (λ word. word.now) mid) values → Names actors last line (record { actor = a; values = values })
line_names ws actors last line a values mid m e h numbers = names _ actors last line a values e h (rw (ap (map (λ (word : Bor (List ℕ)). word.now)) m ∙ behind ws 2) at numbers)

by_words : (xs : List (List ℕ)) (actors : ℕ) (last : Option ℕ) (line : List ℕ) (n : Named) → xs ≡ words line → Names actors last line n → NamesActor actors last xs n.actor
by_words xs actors last line n e h =
    let same : xs ≡ codes "actor" ∷ decimal n.actor ∷ map signed_decimal n.values = e ∙ h.spelled in
    record {
      count = omega (arith, ap length same, length-map n.values signed_decimal, h.some);
      first = ap (λ ws. get_or ws 0 []) same;
      second = ap (λ ws. get_or ws 1 []) same;
      known = h.known;
      ascends = h.ascends;
    }

pub no_name : (ws : List (Bor (List ℕ))) (actors : ℕ) (last : Option ℕ) (line : List ℕ) (n : Named) → map (λ word. word.now) ws ≡ words line → ((a : ℕ) → ¬ NamesActor actors last (map (λ word. word.now) ws) a) → ¬ Names actors last line n
no_name ws actors last line n e none h = none n.actor (by_words _ actors last line n e h)

pub no_values : (ws : List (Bor (List ℕ))) (actors : ℕ) (last : Option ℕ) (line : List ℕ) (n : Named) (mid : List (Bor (List ℕ))) → mid ≡ drop 2 ws → map (λ word. word.now) ws ≡ words line → ((values : List ℤ) → ¬ AreNumbers (map (λ word. word.now) mid) values) → ¬ Names actors last line n
no_values ws actors last line n mid m e none h = none n.values (ap (map (λ (word : Bor (List ℕ)). word.now)) m ∙ behind ws 2 ∙ ap (drop 2) (e ∙ h.spelled), h.fit)
