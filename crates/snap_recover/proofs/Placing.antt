-- The place of the last record that tells the actors of each, as passes over the logs find it.
use Rattle.std.proofs.Common.{◌≡◌, ◌≢◌, ℕ, ◌+◌, ◌%◌, ◌<◌, ◌≤◌, inl, inr, Option, Some, None, List, [], ◌∷◌, ◌++◌, length, take, get_or, refl, sym, ap, subst, ◌∙◌, arith, append_assoc}
use Rattle.std.proofs.Math.Nat.{mod-lt}
use Rattle.std.proofs.lemmas.Bool.{cases_eq}
use Rattle.std.proofs.lemmas.List.{length-take-le}
use Rattle.std.specs.List.Sorted.{IsNonDecreasingBy}
use Rattle.snap_base.specs.declared.ids.Bid.{Bid}
use Rattle.snap_base.specs.declared.ids.Tid.{Tid}
use Rattle.snap_base.proofs.Lists.{all_join}
use Rattle.txn_records.specs.declared.records.Record.{Record}
use Rattle.txn_records.specs.declared.keys.Key.{Key}
use Rattle.txn_records.specs.Records.{key}
use Rattle.snap_recover.specs.declared.kinds.Kind.{Kind}
use Rattle.snap_recover.specs.declared.kinds.Kind.TheVariants as kinds
use Rattle.snap_recover.specs.Logs.{HasKey, log_of}
use Rattle.snap_recover.specs.Passes.{last_at, IsLastPlaced, IsPlacedBy, AddsInfo, AddsInfos, TellsInfos, HasInfos, info_key, commit_key, bid_at, tid_at}
use Rattle.snap_recover.proofs.Lists.{all_contains, contains_unmap}
use Rattle.snap_recover.proofs.Homes.{at_log, below_cases}
use Rattle.snap_recover.proofs.Searching.{got_here, got_other}
use Rattle.snap_recover.proofs.Steps.{taken}

placed_quiet : (k : Key) (rs : List Record) (r : Record) (old new : Option ℕ) → key r ≢ k → IsLastPlaced k rs old new → IsLastPlaced k (rs ++ r ∷ []) old new
placed_quiet k rs r old new h (inl (place, e, (front, behind, x, is, at, it, quiet))) =
    inl (
      place,
      e,
      (
        front,
        behind ++ r ∷ [],
        x,
        ap (λ (z : List Record). z ++ r ∷ []) is ∙ append_assoc front (x ∷ behind) (r ∷ []),
        at,
        it,
        all_join (λ y. key y ≢ k) behind (r ∷ []) quiet (h, tt),
      ),
    )
placed_quiet k rs r old new h (inr (quiet, e)) = inr (all_join (λ y. key y ≢ k) rs (r ∷ []) quiet (h, tt), e)

placed_here : (k : Key) (place : ℕ) (rs : List Record) (r : Record) (old : Option ℕ) → key r ≡ k → place ≡ length rs → IsLastPlaced k (rs ++ r ∷ []) old (Some place)
placed_here k place rs r old it at = inl (place, refl, (rs, [], r, refl, at, it, tt))

pub infos_apart : (kind : Kind) (n m : ℕ) → info_key kind n ≡ info_key kind m → n ≡ m
infos_apart kinds.Batch n m e = let same : bid_at n ≡ bid_at m = cc in ap (λ (b : Bid). b.0) same
infos_apart kinds.Act n m e = let same : tid_at n ≡ tid_at m = cc in ap (λ (t : Tid). t.0) same

pub commits_apart : (n m : ℕ) → commit_key kinds.Batch n ≡ commit_key kinds.Batch m → n ≡ m
commits_apart n m e = let same : bid_at n ≡ bid_at m = cc in ap (λ (b : Bid). b.0) same

pub infos_none : (key_at : ℕ → Key) (log logs : ℕ) (places : List (ℕ × ℕ)) → AddsInfos key_at log logs [] places places
infos_none key_at log logs places n = (λ e. inr (tt, refl), λ e. refl)

-- one record
pub info_quiet : (key_at : ℕ → Key) (log logs at : ℕ) (r : Record) (places : List (ℕ × ℕ)) → ((n : ℕ) → n % logs ≡ log → key r ≢ key_at n) → AddsInfo key_at log logs at r places places
info_quiet key_at log logs at r places quiet n = (λ e. inr (quiet n e, refl), λ e. refl)

pub info_here : (key_at : ℕ → Key) → ((n m : ℕ) → key_at n ≡ key_at m → n ≡ m) → (log logs at k : ℕ) (r : Record) (old new : List (ℕ × ℕ)) → k % logs ≡ log → key r ≡ key_at k → new ≡ old ++ (k, at) ∷ [] → AddsInfo key_at log logs at r old new
info_here key_at apart log logs at k r old new home is u n = (
  λ here. elim (cases_eq k n) [
    | inl e ↦ inl (is ∙ ap key_at e, got_here k n at old new u e)
    | inr ne ↦ inr (λ e. ne (apart k n (sym is ∙ e)), got_other k n at old new u ne)
  ],
  λ away. got_other k n at old new u (λ e. away (ap (λ (z : ℕ). z % logs) (sym e) ∙ home)),
)

-- a record more
placed_more : (k : Key) (at : ℕ) (rs : List Record) (r : Record) (old mid new : Option ℕ) → at ≡ length rs → IsLastPlaced k rs old mid → IsPlacedBy k at r mid new → IsLastPlaced k (rs ++ r ∷ []) old new
placed_more k at rs r old mid new len h (inl (is, e)) = subst (λ (z : Option ℕ). IsLastPlaced k (rs ++ r ∷ []) old z) (sym e) (placed_here k at rs r old is len)
placed_more k at rs r old mid new len h (inr (other, e)) = subst (λ (z : Option ℕ). IsLastPlaced k (rs ++ r ∷ []) old z) (sym e) (placed_quiet k rs r old mid other h)

pub infos_step : (key_at : ℕ → Key) (log logs : ℕ) (rs : List Record) (i : ℕ) (r : Record) (old mid new : List (ℕ × ℕ)) → i < length rs → r ≡ get_or rs i r
    → AddsInfos key_at log logs (take i rs) old mid → AddsInfo key_at log logs i r mid new → AddsInfos key_at log logs (take (i + 1) rs) old new
infos_step key_at log logs rs i r old mid new l at h g =
    subst (λ (z : List Record). AddsInfos key_at log logs z old new) (sym (taken rs i r l at))
    (λ n. (
      λ here. placed_more (key_at n) i (take i rs) r (last_at old n) (last_at mid n) (last_at new n) (sym (length-take-le i rs (omega arith))) ((h n).0 here) ((g n).0 here),
      λ away. (g n).1 away ∙ (h n).1 away,
    ))

-- ---- over the logs

abbrev pub InfosThrough : (ℕ → Key) → List (List Record) → ℕ → List (ℕ × ℕ) → Type 0
InfosThrough key_at logs i places = (n : ℕ) →
    ((n % length logs < i → IsLastPlaced (key_at n) (log_of logs n) None (last_at places n)) × (i ≤ n % length logs → last_at places n ≡ None))

pub infos_begin : (key_at : ℕ → Key) (logs : List (List Record)) (places : List (ℕ × ℕ)) → places ≡ [] → InfosThrough key_at logs 0 places
infos_begin key_at logs places e n = (λ l. absurd (omega arith), λ l. ap (λ (z : List (ℕ × ℕ)). last_at z n) e)

pub infos_through : (key_at : ℕ → Key) (logs : List (List Record)) (i : ℕ) (rs : List Record) (old new : List (ℕ × ℕ)) → i < length logs → rs ≡ get_or logs i rs
    → AddsInfos key_at i (length logs) rs old new → InfosThrough key_at logs i old → InfosThrough key_at logs (i + 1) new
infos_through key_at logs i rs old new l at adds h n = (
  λ low. elim (below_cases (n % length logs) i low) [
    | inl less ↦ subst (λ (z : Option ℕ). IsLastPlaced (key_at n) (log_of logs n) None z) (sym ((adds n).1 (omega arith))) ((h n).0 less)
    | inr e ↦
        let none : last_at old n ≡ None = (h n).1 (omega arith) in
        subst (λ (z : List Record). IsLastPlaced (key_at n) z None (last_at new n)) (sym (at_log logs n i rs l at e))
        (subst (λ (z : Option ℕ). IsLastPlaced (key_at n) rs z (last_at new n)) none ((adds n).0 e))
  ],
  λ high. (adds n).1 (omega arith) ∙ (h n).1 (omega arith),
)

pub infos_end : (key_at : ℕ → Key) (logs : List (List Record)) (i : ℕ) (places : List (ℕ × ℕ)) → 0 < length logs → length logs ≤ i → InfosThrough key_at logs i places → TellsInfos key_at logs places
infos_end key_at logs i places some l h n = (h n).0 (let low = mod-lt n some in omega (arith, low))

pub infos_settled : (key_at : ℕ → Key) (logs : List (List Record)) (old new : List (ℕ × ℕ)) → IsNonDecreasingBy (λ (x : ℕ × ℕ). x.0) new → ((n : ℕ) → last_at new n ≡ last_at old n) → TellsInfos key_at logs old → HasInfos key_at logs new
infos_settled key_at logs old new up same h = record { ascend = up; all = λ n. subst (λ (z : Option ℕ). IsLastPlaced (key_at n) (log_of logs n) None z) (sym (same n)) (h n) }

-- what stands in its log has a place
pub placed_some : (k : Key) (rs : List Record) (now : Option ℕ) → now ≡ None → IsLastPlaced k rs None now → ¬ HasKey rs k
placed_some k rs now e (inl (place, is, at)) h = let bad : Some place ≡ None = sym is ∙ e in absurd (cc)
placed_some k rs now e (inr (quiet, is)) h = let r = contains_unmap key rs k h in all_contains (λ x. key x ≢ k) rs r.0 quiet r.1 r.2
