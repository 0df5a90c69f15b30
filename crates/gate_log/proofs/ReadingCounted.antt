-- A piece behind its length is read as it was written, and in no other way.
use Rattle.std.proofs.Common.{◌≡◌, ℕ, ◌^◌, ◌<◌, ◌≤◌, List, ◌++◌, length, take, drop, refl, sym, ap, ◌∙◌, append_assoc, arith}
use Rattle.std.specs.Int.{Width, w16, w32, byte_len, from_be_bytes, to_be_bytes}
use Rattle.std.proofs.lemmas.List.{take_at, drop_at, length-append}
use Rattle.std.proofs.lemmas.Nat.{from_be_bytes-to_be_bytes_2, from_be_bytes-to_be_bytes_4}
use Rattle.snap_base.proofs.Lists.{same_front}
use Rattle.gate_log.specs.Reading.{counted_piece}

-- numbers below the limit are those that the width holds
pub record IsWide (w : Width) (limit : ℕ) : Type 0 where
  pub len : (n : ℕ) → length (to_be_bytes w n) ≡ byte_len w
  pub again : (n : ℕ) → n < limit → from_be_bytes w (to_be_bytes w n) ≡ n

pub wide16 : IsWide w16 (2 ^ 16)
wide16 = record {
  len = λ n. refl;
  again = λ n lt. from_be_bytes-to_be_bytes_2 n lt;
}

pub wide32 : IsWide w32 (2 ^ 32)
wide32 = record {
  len = λ n. refl;
  again = λ n lt. from_be_bytes-to_be_bytes_4 n lt;
}

-- where a piece stands behind its length, this is what is read
pub counted_read : (w : Width) (limit : ℕ) → IsWide w limit → (piece rest bytes : List ℕ) → length piece < limit → bytes ≡ counted_piece w piece ++ rest
    → (byte_len w ≤ length bytes) × (from_be_bytes w (take (byte_len w) bytes) ≡ length piece) × (drop (byte_len w) bytes ≡ piece ++ rest)
counted_read w limit wide piece rest bytes lt e =
    let front : List ℕ = to_be_bytes w (length piece) in
    let len : length front ≡ byte_len w = wide.len (length piece) in
    let regrouped : bytes ≡ front ++ (piece ++ rest) = e ∙ append_assoc front piece rest in (
      omega (arith, ap length regrouped, length-append front (piece ++ rest), len),
      ap (λ (b : List ℕ). from_be_bytes w (take (byte_len w) b)) regrouped ∙ ap (from_be_bytes w) (take_at front (piece ++ rest) (byte_len w) len) ∙ wide.again (length piece) lt,
      ap (drop (byte_len w)) regrouped ∙ drop_at front (piece ++ rest) (byte_len w) len,
    )

-- bytes begin with one counted piece
pub counted_same : (w : Width) (limit : ℕ) → IsWide w limit → (a x b y : List ℕ) → length a < limit → length b < limit → counted_piece w a ++ x ≡ counted_piece w b ++ y → (a ≡ b) × (x ≡ y)
counted_same w limit wide a x b y la lb e =
    let p = counted_read w limit wide a x (counted_piece w a ++ x) la refl in
    let q = counted_read w limit wide b y (counted_piece w a ++ x) lb e in
    same_front a x b y (sym p.1 ∙ q.1) (sym p.2 ∙ q.2)
