-- The best of three heads is the set.
use Rattle.std.proofs.Common.{◌≡◌, ℕ, ◌+◌, ◌<◌, ◌≤◌, ◌⊎◌, inl, inr, Bool, true, false, List, refl, sym, ap, subst, ◌∙◌, arith, Option, Some, None}
use Rattle.std.specs.Prelude.{nat_lt, if◌then◌else◌}
use Rattle.std.proofs.lemmas.Bool.{cases_lt, ltb-true, ltb-false}
use Rattle.snap_base.specs.declared.transactions.State.{State}
use Rattle.txn_records.specs.declared.records.Record.{Record}
use Rattle.log_compact.specs.declared.founds.Found.{Found}
use Rattle.log_compact.specs.Finding.{better, IsHeadIn, IsFoundSet}
use Rattle.log_compact.specs.Sets.{IsHead, generation_of}

-- this generation is below, or it is the same and stands no earlier
abbrev IsNoBetter : (ℕ → List Record) → Found → ℕ → Type 0
IsNoBetter devices f d = (generation_of (devices d) < f.generation) ⊎ ((generation_of (devices d) ≡ f.generation) × (f.head ≤ d))

-- the best head of the devices below this one, or there is none
abbrev IsBest : (ℕ → List Record) → ℕ → Option Found → Type 0
IsBest devices n None = (d many : ℕ) (states : List State) → d < n → ¬ IsHead d (devices d) many states
IsBest devices n (Some f) =
    (f.head < n) × (f.generation ≡ generation_of (devices f.head)) × ((first : List State) × IsHead f.head (devices f.head) f.logs first)
    × ((d many : ℕ) (states : List State) → d < n → IsHead d (devices d) many states → IsNoBetter devices f d)

none_yet : (devices : ℕ → List Record) → IsBest devices 0 None
none_yet devices d many states low h = omega (arith, low)

-- a device is below the next number where it is below this one, or is it
below : (n d : ℕ) → d < n + 1 → (d < n) ⊎ (d ≡ n)
below n d l = elim (cases_lt d n) [ inl k ↦ inl k | inr k ↦ inr (omega (arith, l, k)) ]

found_at : (devices : ℕ → List Record) (n : ℕ) (f : Found) → IsHeadIn n (devices n) (Some f) → (f.generation ≡ generation_of (devices f.head)) × ((first : List State) × IsHead f.head (devices f.head) f.logs first)
found_at devices n f h = (h.1 ∙ ap (λ d. generation_of (devices d)) (sym h.0), (h.2.0, subst (λ d. IsHead d (devices d) f.logs h.2.0) (sym h.0) h.2.1))

-- a head stands at the device that it is found at
its : (devices : ℕ → List Record) (n d : ℕ) (f : Found) → IsHeadIn n (devices n) (Some f) → d ≡ n → (f.head ≡ d) × (generation_of (devices d) ≡ f.generation)
its devices n d f h e = (h.0 ∙ sym e, ap (λ z. generation_of (devices z)) e ∙ sym h.1)

none_step : (devices : ℕ → List Record) (n : ℕ) (h : Option Found) → IsBest devices n None → IsHeadIn n (devices n) h → IsBest devices (n + 1) h
none_step devices n None b h = λ d many states low k. elim (below n d low) [ inl l ↦ b d many states l k | inr e ↦ h many states (subst (λ z. IsHead z (devices z) many states) e k) ]
none_step devices n (Some f) b h =
    let g = found_at devices n f h in (
      omega (arith, h.0),
      g.0,
      g.1,
      λ d many states low k. elim (below n d low) [
        | inl l ↦ absurd (b d many states l k)
        | inr e ↦ let i = its devices n d f h e in inr (i.1, omega (arith, i.0))
      ],
    )

some_step : (devices : ℕ → List Record) (n : ℕ) (f : Found) (h : Option Found) → IsBest devices n (Some f) → IsHeadIn n (devices n) h → IsBest devices (n + 1) (better (Some f) h)
some_step devices n f None b h = (omega (arith, b.0), b.1, b.2, λ d many states low k. elim (below n d low) [ inl l ↦ b.3 d many states l k | inr e ↦ absurd (h many states (subst (λ z. IsHead z (devices z) many states) e k)) ])
some_step devices n f (Some g) b h = by (nat_lt f.generation g.generation) refl
  where
    by : (c : Bool) → nat_lt f.generation g.generation ≡ c → IsBest devices (n + 1) (if c then Some g else Some f)
    by true e =
        let l : f.generation < g.generation = ltb-true f.generation g.generation e in
        let at = found_at devices n g h in (
          omega (arith, h.0),
          at.0,
          at.1,
          λ d many states low k. elim (below n d low) [
            | inl j ↦ elim (b.3 d many states j k) [ inl q ↦ inl (omega (arith, q, l)) | inr q ↦ inl (omega (arith, q.0, l)) ]
            | inr i ↦ let t = its devices n d g h i in inr (t.1, omega (arith, t.0))
          ],
        )
    by false e =
        let l : g.generation ≤ f.generation = ltb-false f.generation g.generation e in (
          omega (arith, b.0),
          b.1,
          b.2,
          λ d many states low k. elim (below n d low) [
            | inl j ↦ b.3 d many states j k
            | inr i ↦ let t = its devices n d g h i in either d t.1 l (omega (arith, b.0, i))
          ],
        )
      where
        either : (d : ℕ) → generation_of (devices d) ≡ g.generation → g.generation ≤ f.generation → f.head ≤ d → IsNoBetter devices f d
        either d e l low = elim (cases_lt g.generation f.generation) [ inl k ↦ inl (omega (arith, e, k)) | inr k ↦ inr (omega (arith, e, k, l), low) ]

step : (devices : ℕ → List Record) (n : ℕ) (best h : Option Found) → IsBest devices n best → IsHeadIn n (devices n) h → IsBest devices (n + 1) (better best h)
step devices n None h b k = none_step devices n h b k
step devices n (Some f) h b k = some_step devices n f h b k

best_is_set : (devices : ℕ → List Record) (best : Option Found) → IsBest devices 3 best → IsFoundSet devices best
best_is_set devices None b = λ d many states h. b d many states h.low h
best_is_set devices (Some f) b = record { first = b.2.0; is_head = b.2.1; its = b.1; greatest = λ d many states h. b.3 d many states h.low h }

pub three_heads : (devices : ℕ → List Record) (a b c : Option Found) → IsHeadIn 0 (devices 0) a → IsHeadIn 1 (devices 1) b → IsHeadIn 2 (devices 2) c → IsFoundSet devices (better (better a b) c)
three_heads devices a b c x y z =
    best_is_set devices (better (better a b) c) (step devices 2 (better a b) c (step devices 1 a b (step devices 0 None a (none_yet devices) x) y) z)
