-- There is one choice of the logs in use; the records in front of each log tell it; and the first Genesis makes a set.
use Rattle.std.proofs.Common.{◌≡◌, ℕ, ◌<◌, ◌≤◌, ◌⊎◌, inl, inr, true, false, List, [], ◌∷◌, take, refl, sym, ap, subst, ◌∙◌, arith}
use Rattle.std.specs.Prelude.{◌==◌}
use Rattle.std.proofs.lemmas.Bool.{cases_Bool, eqb-true, eqb-false}
use Rattle.snap_base.specs.declared.transactions.State.{State}
use Rattle.txn_records.specs.declared.records.Record.{Record}
use Rattle.txn_records.specs.declared.records.Record.TheVariants.{Genesis}
use Rattle.log_compact.specs.Finding.{HasNoSet, IsUsed, OneUse, AreFronts, FrontsTell, BegunIsSet}
use Rattle.log_compact.specs.Sets.{IsHead, generation_of, IsSet, OneSet}
use Rattle.log_compact.proofs.Moments.{kept_head}

pub one_use : OneSet → OneUse
one_use one devices many head logs generation other more later (inl s) (inl t) = one devices head other logs more generation later s t
one_use one devices many head logs generation other more later (inl s) (inr n) = absurd (n.0 head logs s.first s.is_head)
one_use one devices many head logs generation other more later (inr n) (inl s) = absurd (n.0 other more s.first s.is_head)
one_use one devices many head logs generation other more later (inr n) (inr k) = (n.1 ∙ sym k.1, n.2 ∙ sym k.2, n.3 ∙ sym k.3)

-- ---- the first two records

head_cut : (log : List Record) (d many : ℕ) (states : List State) → IsHead d log many states → IsHead d (take 2 log) many states
head_cut [] d many states h = absurd (cc h.begins)
head_cut (r ∷ rs) d many states h = record { low = h.low; rest = take 1 rs; begins = ap (λ z. z ∷ take 1 rs) first; side = h.side }
  where
    first : r ≡ Genesis many states
    first = cc h.begins

head_whole : (log : List Record) (d many : ℕ) (states : List State) → IsHead d (take 2 log) many states → IsHead d log many states
head_whole [] d many states h = absurd (cc h.begins)
head_whole (r ∷ rs) d many states h = record { low = h.low; rest = rs; begins = ap (λ z. z ∷ rs) first; side = h.side }
  where
    first : r ≡ Genesis many states
    first = cc h.begins

generation_cut : (log : List Record) → generation_of (take 2 log) ≡ generation_of log
generation_cut [] = refl
generation_cut (r ∷ []) = refl
generation_cut (r ∷ x ∷ rs) = refl

-- each head of the ones is one of the others, with its generation
record AreHeads (a b : ℕ → List Record) : Type 0 where
  there : (d many : ℕ) (states : List State) → IsHead d (a d) many states → IsHead d (b d) many states
  back : (d many : ℕ) (states : List State) → IsHead d (b d) many states → IsHead d (a d) many states
  generation : (d : ℕ) → d < 3 → generation_of (a d) ≡ generation_of (b d)

turned : (a b : ℕ → List Record) → AreHeads a b → AreHeads b a
turned a b t = record { there = t.back; back = t.there; generation = λ d low. sym (t.generation d low) }

same_heads : (devices fronts : ℕ → List Record) → AreFronts devices fronts → AreHeads devices fronts
same_heads devices fronts e = record {
  there = λ d many states h. subst (λ z. IsHead d z many states) (sym (e d h.low)) (head_cut (devices d) d many states h);
  back = λ d many states h. head_whole (devices d) d many states (subst (λ z. IsHead d z many states) (e d h.low) h);
  generation = λ d low. sym (ap generation_of (e d low) ∙ generation_cut (devices d));
}

same_set : (a b : ℕ → List Record) → AreHeads a b → (head logs generation : ℕ) → IsSet a head logs generation → IsSet b head logs generation
same_set a b t head logs generation s = record {
  first = s.first;
  is_head = t.there head logs s.first s.is_head;
  its = s.its ∙ t.generation head s.is_head.low;
  greatest = λ d many states h. subst (λ z. (z < generation) ⊎ ((z ≡ generation) × (head ≤ d))) (t.generation d h.low) (s.greatest d many states (t.back d many states h));
}

same_none : (a b : ℕ → List Record) → AreHeads a b → HasNoSet a → HasNoSet b
same_none a b t none = λ d many states h. none d many states (t.back d many states h)

same_use : (a b : ℕ → List Record) → AreHeads a b → (many head logs generation : ℕ) → IsUsed a many head logs generation → IsUsed b many head logs generation
same_use a b t many head logs generation (inl s) = inl (same_set a b t head logs generation s)
same_use a b t many head logs generation (inr n) = inr (same_none a b t n.0, n.1, n.2, n.3)

pub fronts_tell : FrontsTell
fronts_tell devices fronts e =
    let t = same_heads devices fronts e in
    let u = turned devices fronts t in
    record {
      set = λ head logs generation. (same_set devices fronts t head logs generation, same_set fronts devices u head logs generation);
      none = (same_none devices fronts t, same_none fronts devices u);
      used = λ many head logs generation. (same_use devices fronts t many head logs generation, same_use fronts devices u many head logs generation);
    }

-- ---- the first Genesis

pub begun_is_set : BegunIsSet
begun_is_set devices now logs states none first rest = record {
  first = states;
  is_head = record { low = omega arith; rest = []; begins = first; side = inl refl };
  its = sym (ap generation_of first);
  greatest = λ d many others h. by d many others h (cases_Bool (d == 0));
}
  where
    by : (d many : ℕ) (others : List State) → IsHead d (now d) many others → ((d == 0) ≡ true) ⊎ ((d == 0) ≡ false) → (generation_of (now d) < 0) ⊎ ((generation_of (now d) ≡ 0) × (0 ≤ d))
    by d many others h (inl e) = inr (ap (λ z. generation_of (now z)) (eqb-true d 0 e) ∙ ap generation_of first, omega arith)
    by d many others h (inr e) =
        let i : now d ≡ devices d = kept_head devices now d many others (rest d (eqb-false d 0 e)) h in
        absurd (none d many others (subst (λ z. IsHead d z many others) i h))
