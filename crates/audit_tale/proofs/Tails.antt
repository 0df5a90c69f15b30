-- Those of a tail group that are in the way of an ACT, one after the other.
use Rattle.std.specs.Prelude.{◌≡◌, ℕ, zero, suc, ◌+◌, ◌<◌, ◌≤◌, max, not, ◌&&◌, Bool, true, false, if◌then◌else◌, List, [], ◌∷◌, ◌++◌, drop, filter, length, map, slice_index_or}
use Rattle.std.specs.List.{AllByRecursion}
use Rattle.std.proofs.Common.{arith, append_assoc, sym, ap, ◌∙◌}
use Rattle.std.proofs.lemmas.Bool.{true≢false}
use Rattle.std.proofs.lemmas.List.{append-nil, drop_all, drop_more, map-append}
use Rattle.snap_base.proofs.Lists.{map_twice}
use Rattle.snap_base.specs.declared.ids.Tid.{Tid}
use Rattle.snap_base.specs.declared.transactions.Who as code
use Rattle.protocol.specs.History.{sets_of}
use Rattle.protocol.specs.Meant.{tid_number, who_meant}
use Rattle.protocol.specs.Rivals.{Lock}
use Rattle.protocol.specs.Words.{greatest}
use Rattle.audit_words.specs.Happenings.{met}
use Rattle.audit_words.specs.Seen.{Seen, lock_in, tail_behind}
use Rattle.audit_tale.specs.Risen.{tids}
use Rattle.audit_tale.specs.Rivalry.{locks}
use Rattle.audit_tale.proofs.Spreads.{greatest_join}

-- ---- those that pass

pub filter_next : (s : Seen) (f : Lock → Bool) (ts : List Tid) (i : ℕ) (d : Tid) (kept new : List Tid) (out : Bool) (all : List Lock) → i < length ts → not out ≡ f (lock_in s.acts (slice_index_or ts i d).0)
    → new ≡ (if out then kept else kept ++ slice_index_or ts i d ∷ []) → locks s kept ++ filter f (locks s (drop i ts)) ≡ all → locks s new ++ filter f (locks s (drop (i + 1) ts)) ≡ all
filter_next s f ts i d kept new out all l e n h = by out e n
  where
    was : locks s kept ++ filter f (locks s (slice_index_or ts i d ∷ drop (i + 1) ts)) ≡ all
    was = sym (ap (λ (z : List Tid). locks s kept ++ filter f (locks s z)) (drop_more ts i d l)) ∙ h

    by : (b : Bool) → not b ≡ f (lock_in s.acts (slice_index_or ts i d).0) → new ≡ (if b then kept else kept ++ slice_index_or ts i d ∷ []) → locks s new ++ filter f (locks s (drop (i + 1) ts)) ≡ all
    by true q k =
        ap (λ (z : List Tid). locks s z ++ filter f (locks s (drop (i + 1) ts))) k
        ∙ (ap (λ (b : Bool). locks s kept ++ (if b then lock_in s.acts (slice_index_or ts i d).0 ∷ filter f (locks s (drop (i + 1) ts)) else filter f (locks s (drop (i + 1) ts)))) q ∙ was)
    by false q k =
        ap (λ (z : List Tid). locks s z ++ filter f (locks s (drop (i + 1) ts))) k
        ∙ (ap (λ (z : List Lock). z ++ filter f (locks s (drop (i + 1) ts))) (map-append (λ (t : Tid). lock_in s.acts t.0) kept (slice_index_or ts i d ∷ []))
        ∙ (append_assoc (locks s kept) (lock_in s.acts (slice_index_or ts i d).0 ∷ []) (filter f (locks s (drop (i + 1) ts)))
        ∙ (ap (λ (b : Bool). locks s kept ++ (if b then lock_in s.acts (slice_index_or ts i d).0 ∷ filter f (locks s (drop (i + 1) ts)) else filter f (locks s (drop (i + 1) ts)))) q ∙ was)))

pub filter_end : (s : Seen) (f : Lock → Bool) (ts : List Tid) (i : ℕ) (kept : List Tid) (all : List Lock) → length ts ≤ i → locks s kept ++ filter f (locks s (drop i ts)) ≡ all → locks s kept ≡ all
filter_end s f ts i kept all l h = sym (ap (λ (z : List Tid). locks s kept ++ filter f (locks s z)) (drop_all i ts l) ∙ append-nil (locks s kept)) ∙ h

-- what holds of each lock holds of the one at a place
pub each_lock : (s : Seen) (P : Lock → Type 0) (ts : List Tid) (i : ℕ) (d : Tid) → i < length ts → AllByRecursion P (locks s ts) → P (lock_in s.acts (slice_index_or ts i d).0)
each_lock s P [] i d l all = absurd (omega (arith, l))
each_lock s P (t ∷ ts) zero d l all = all.0
each_lock s P (t ∷ ts) (suc i) d l all = each_lock s P ts i d (omega (arith, l)) all.1

-- ---- from the end on

pub greatest_next : (s : Seen) (i j : ℕ) (ts : List Tid) (d : Tid) (acc new one : ℕ) → i < length ts → j ≡ i + 1 → acc ≡ greatest (sets_of s.before (locks s (drop j ts))) → one ≡ greatest (s.before (slice_index_or ts i d).0) → new ≡ max one acc
    → new ≡ greatest (sets_of s.before (locks s (drop i ts)))
greatest_next s i j ts d acc new one l e h o n =
    omega (arith, n, o, h ∙ ap (λ (k : ℕ). greatest (sets_of s.before (locks s (drop k ts)))) e, ap (λ (z : List Tid). greatest (sets_of s.before (locks s z))) (drop_more ts i d l), greatest_join (s.before (slice_index_or ts i d).0) (sets_of s.before (locks s (drop (i + 1) ts))))

-- ---- those that are in the way of ACT t

pub met_known : (s : Seen) (t a : ℕ) (es : List code.Who) (tail met_there : List Tid) (reader : Bool) → tids tail ≡ tail_behind [] (map who_meant es) → map who_meant es ≡ s.entries a → reader ≡ (lock_in s.acts t).reader
    → locks s met_there ≡ filter (λ x. not (reader && x.reader)) (locks s tail) → locks s met_there ≡ met t a s
met_known s t a es tail met_there reader group there reads h =
    h ∙ (ap (λ (b : Bool). filter (λ x. not (b && x.reader)) (locks s tail)) reads
    ∙ ap (filter (λ x. not ((lock_in s.acts t).reader && x.reader))) (sym (map_twice (lock_in s.acts) tid_number tail) ∙ ap (map (lock_in s.acts)) (group ∙ ap (tail_behind []) there)))

-- one that only reads stands beside who only reads
pub beside_by : (reader b r : Bool) → reader ≡ true → b ≡ r → b ≡ (reader && r)
beside_by true b r e f = f
beside_by false b r e f = absurd (true≢false (sym e))

-- at the front
pub greatest_end : (s : Seen) (i : ℕ) (ts : List Tid) (acc : ℕ) → i ≡ 0 → acc ≡ greatest (sets_of s.before (locks s (drop i ts))) → acc ≡ greatest (sets_of s.before (locks s ts))
greatest_end s i ts acc e h = h ∙ ap (λ (k : ℕ). greatest (sets_of s.before (locks s (drop k ts)))) e
