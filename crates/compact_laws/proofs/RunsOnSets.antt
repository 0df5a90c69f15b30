-- What a run leaves of a set: the same head, and lists that the run grew.
use Rattle.std.proofs.Common.{◌≡◌, ℕ, zero, suc, ◌+◌, ◌-◌, ◌<◌, ◌≤◌, ◌⊎◌, inl, inr, Bool, true, false, List, [], ◌∷◌, ◌++◌, map, refl, sym, ap, subst, ◌∙◌, arith}
use Rattle.std.specs.Prelude.{nat_le, nat_lt, ◌&&◌, if◌then◌else◌}
use Rattle.std.specs.List.{range_with_len}
use Rattle.std.proofs.lemmas.Bool.{le-leb, lt-ltb}
use Rattle.snap_base.specs.declared.transactions.State.{State}
use Rattle.protocol.specs.Records.{LogRecord, BatchInfo, BatchComplete, BatchDone, ActPrepare, ActDone}
use Rattle.txn_records.specs.declared.records.Record.{Record}
use Rattle.txn_records.specs.declared.records.Record.TheVariants as records
use Rattle.log_set.specs.Told.{all_told}
use Rattle.recovery_laws.specs.Grown.{grown, grown_from}
use Rattle.log_compact.specs.Finding.{HasNoSet}
use Rattle.log_compact.specs.Sets.{IsHead, generation_of, logs_from, number_of}
use Rattle.compact_laws.specs.Stays.{SetStays, UsedStays}
use Rattle.compact_laws.specs.Steps.{with_run}
use Rattle.compact_laws.proofs.ListsGrown.{told_plain}

-- ---- one list

-- behind a first record what a run writes changes no generation
same_generation : (x : Record) (xs : List Record) (rs : List LogRecord) → generation_of ((x ∷ xs) ++ all_told rs) ≡ generation_of (x ∷ xs)
same_generation x [] [] = refl
same_generation x [] (r ∷ rs) = ap (number_of (λ p. p.generation)) (told_plain r)
same_generation x (y ∷ xs) rs = refl

-- a run writes no Genesis
no_genesis : (rs : List LogRecord) (count : ℕ) (first : List State) (rest : List Record) → all_told rs ≡ records.Genesis count first ∷ rest → ⊥
no_genesis [] count first rest e = cc e
no_genesis (BatchInfo k actors tids ∷ rs) count first rest e = cc e
no_genesis (BatchComplete k a st ∷ rs) count first rest e = cc e
no_genesis (BatchDone k vs ∷ rs) count first rest e = cc e
no_genesis (ActPrepare t a st ∷ rs) count first rest e = cc e
no_genesis (ActDone t m c v actors ∷ rs) count first rest e = cc e

-- ---- the devices

on_it : (devices : ℕ → List Record) (head many d : ℕ) (logs : ℕ → List LogRecord) → head ≤ d → d < head + many → with_run devices head many logs d ≡ devices d ++ all_told (logs (d - head))
on_it devices head many d logs l k = rw (le-leb head d l, lt-ltb d (head + many) k) refl

-- with or without the run's records
either : (devices : ℕ → List Record) (head many d : ℕ) (logs : ℕ → List LogRecord) → (with_run devices head many logs d ≡ devices d) ⊎ (with_run devices head many logs d ≡ devices d ++ all_told (logs (d - head)))
either devices head many d logs = by (nat_le head d && nat_lt d (head + many))
  where
    by : (b : Bool) → ((if b then devices d ++ all_told (logs (d - head)) else devices d) ≡ devices d) ⊎ ((if b then devices d ++ all_told (logs (d - head)) else devices d) ≡ devices d ++ all_told (logs (d - head)))
    by true = inr refl
    by false = inl refl

-- a head was one before, and of the same generation
old_head : (es : List Record) (rs : List LogRecord) (d many : ℕ) (states : List State) → IsHead d (es ++ all_told rs) many states → IsHead d es many states × (generation_of (es ++ all_told rs) ≡ generation_of es)
old_head [] rs d many states h = absurd (no_genesis rs many states h.rest h.begins)
old_head (e ∷ es) rs d many states h = (record { low = h.low; rest = es; begins = ap (λ z. z ∷ es) first; side = h.side }, same_generation e es rs)
  where
    first : e ≡ records.Genesis many states
    first = cc h.begins

pub set_stays : SetStays
set_stays devices head many generation logs some s =
    let h = on_it devices head many head logs (omega arith) (omega (arith, some)) in
    let rs = all_told (logs (head - head)) in
    record {
      first = s.first;
      is_head = record { low = s.is_head.low; rest = s.is_head.rest ++ rs; begins = h ∙ ap (λ z. z ++ rs) s.is_head.begins; side = s.is_head.side };
      its = s.its ∙ (ap generation_of s.is_head.begins ∙ (sym (same_generation (records.Genesis many s.first) s.is_head.rest (logs (head - head))) ∙ ap generation_of (sym (h ∙ ap (λ z. z ++ rs) s.is_head.begins))));
      greatest = λ d m states k. elim (either devices head many d logs) [
        | inl e ↦ subst (λ z. (generation_of z < generation) ⊎ ((generation_of z ≡ generation) × (head ≤ d))) (sym e) (s.greatest d m states (subst (λ z. IsHead d z m states) e k))
        | inr e ↦ let o = old_head (devices d) (logs (d - head)) d m states (subst (λ z. IsHead d z m states) e k) in
            subst (λ z. (z < generation) ⊎ ((z ≡ generation) × (head ≤ d))) (sym (ap generation_of e ∙ o.1)) (s.greatest d m states o.0)
      ];
    }

none_stays : (devices : ℕ → List Record) (head many : ℕ) (logs : ℕ → List LogRecord) → HasNoSet devices → HasNoSet (with_run devices head many logs)
none_stays devices head many logs none = λ d m states k. elim (either devices head many d logs) [
  | inl e ↦ none d m states (subst (λ z. IsHead d z m states) e k)
  | inr e ↦ none d m states (old_head (devices d) (logs (d - head)) d m states (subst (λ z. IsHead d z m states) e k)).0
]

pub used_stays : SetStays → UsedStays
used_stays stays devices many head count generation logs some (inl s) = inl (stays devices head count generation logs some s)
used_stays stays devices many head count generation logs some (inr n) = inr (none_stays devices head count logs n.0, n.1, n.2, n.3)

-- ---- the lists

-- the logs in use, from the n-th one on
behind : (devices : ℕ → List Record) (head many n from : ℕ) (logs : ℕ → List LogRecord) → head + n ≡ from → (count : ℕ) → n + count ≤ many → map (with_run devices head many logs) (range_with_len from count) ≡ grown_from n (map devices (range_with_len from count)) logs
behind devices head many n from logs e zero l = refl
behind devices head many n from logs e (suc count) l =
    let i : from - head ≡ n = omega (arith, e) in
    ap (λ z. z ∷ map (with_run devices head many logs) (range_with_len (from + 1) count)) (on_it devices head many from logs (omega (arith, e)) (omega (arith, e, l)) ∙ ap (λ z. devices from ++ all_told (logs z)) i)
    ∙ ap (λ z. (devices from ++ all_told (logs n)) ∷ z) (behind devices head many (n + 1) (from + 1) logs (omega (arith, e)) count (omega (arith, l)))

-- the lists as the run leaves them
pub lists_grew : (devices : ℕ → List Record) (head many : ℕ) (logs : ℕ → List LogRecord) → logs_from (with_run devices head many logs) head many ≡ grown (logs_from devices head many) logs
lists_grew devices head many logs = behind devices head many 0 head logs (omega arith) many (omega arith)
