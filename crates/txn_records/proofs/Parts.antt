-- The parts of records: how each is read, and what may stand behind it.
use Rattle.std.proofs.Common.{◌≡◌, ◌≢◌, ℕ, ℤ, ◌+◌, ◌-◌, ◌^◌, ◌<◌, ◌≤◌, List, [], ◌∷◌, ◌++◌, length, take, set, refl, sym, ap, subst, ◌∙◌, arith, FitsSigned, Fits, to_z, of_z}
use Rattle.std.specs.List.{AllByRecursion, flat_map}
use Rattle.std.specs.Int.{w16, w64, to_be_bytes, cast_unsigned, cast_signed}
use Rattle.std.proofs.lemmas.List.{take_all}
use Rattle.std.proofs.lemmas.Grind.{take-set_at}
use Rattle.std.proofs.Math.ListN.{length-set}
use Rattle.std.proofs.lemmas.Int.{to_z-of_z, of_z-to_z}
use Rattle.std.proofs.Math.Facts.{sfits_to_z}
use Rattle.snap_base.specs.declared.ids.ActorId.{ActorId}
use Rattle.snap_base.specs.declared.ids.Tid.{Tid}
use Rattle.snap_base.specs.declared.transactions.State.{State}
use Rattle.txn_records.specs.declared.numbers.Stop.{Stop}
use Rattle.txn_records.specs.Records.{IsState, field_bytes, state_bytes}
use Rattle.txn_records.specs.Stops.{Stops, IsWhyUnread, Any, Nil, Seq}
use Rattle.txn_records.specs.Numbers.{Between}
use Rattle.txn_records.proofs.OneRecord.{SpelledApart, apart_through, apart16, apart64, Below, fields_apart, bits_below, actor_bytes, tid_bytes}
use Rattle.txn_records.proofs.Stopping.{stops_alike, stops_here}
use Rattle.txn_records.proofs.Lists.{fails_alike, Lists, Roomy}
use Rattle.txn_records.proofs.SoFar.{ListSoFar, list_begins, list_more}

-- ---- fields

field_of_bits : (n : ℕ) → n < 2 ^ 64 → field_bytes (cast_signed w64 n) ≡ to_be_bytes w64 n
unfolding field_bytes
field_of_bits n lt = ap (to_be_bytes w64) (of_z-to_z w64 n lt)

field_is : (z : ℤ) → field_bytes z ≡ to_be_bytes w64 (cast_unsigned w64 z)
unfolding field_bytes
field_is z = refl

signed_fits : (n : ℕ) → n < 2 ^ 64 → FitsSigned w64 (cast_signed w64 n)
signed_fits n lt = let f : Fits w64 n = record { fits = lt } in sfits_to_z f

pub fails_field : (bytes : List ℕ) (stop : Stop) → IsWhyUnread (Seq (Between 0 18446744073709551615) (to_be_bytes w64) (λ n. Any)) bytes stop → IsWhyUnread (Seq (FitsSigned w64) field_bytes (λ z. Any)) bytes stop
fails_field bytes stop s = fails_alike (Seq (Between 0 18446744073709551615) (to_be_bytes w64) (λ n. Any)) (Seq (FitsSigned w64) field_bytes (λ z. Any)) bytes stop
    (λ f w. (cast_signed w64 w.0, w.1, signed_fits w.0 (omega (arith, w.2)), tt, w.4 ∙ ap (λ (z : List ℕ). z ++ w.1) (sym (field_of_bits w.0 (omega (arith, w.2))))))
    (λ f w. (cast_unsigned w64 w.0, w.1, (omega arith, omega (arith, bits_below w.0 w.2)), tt, w.4 ∙ ap (λ (z : List ℕ). z ++ w.1) (field_is w.0))) s

pub field_found : (bytes rest : List ℕ) (n : ℕ) (z : ℤ) → Between 0 18446744073709551615 n × (bytes ≡ to_be_bytes w64 n ++ rest) → z ≡ cast_signed w64 n → FitsSigned w64 z × (bytes ≡ field_bytes z ++ rest)
field_found bytes rest n z p ez =
    let small : n < 2 ^ 64 = omega (arith, p.0) in
    (subst (FitsSigned w64) (sym ez) (signed_fits n small), p.1 ∙ ap (λ (y : List ℕ). y ++ rest) (sym (ap field_bytes ez ∙ field_of_bits n small)))

abbrev pub Fields : List ℕ → Type 0
Fields = Seq IsState state_bytes (λ s. Any)

state_is : (s : State) → state_bytes s ≡ flat_map field_bytes s.0
unfolding state_bytes
state_is s = refl

pub state_stops : (bytes : List ℕ) (left : ℕ) → Stops (Lists (FitsSigned w64) field_bytes 16) bytes left → Stops Fields bytes left
state_stops bytes left s = stops_alike (Lists (FitsSigned w64) field_bytes 16) Fields bytes left
    (λ f w. let state : State = record { 0 = w.0 } in (state, w.1, record { len = w.2.0; fields = w.2.1 }, tt, w.4 ∙ ap (λ (z : List ℕ). z ++ w.1) (sym (state_is state))))
    (λ f w. (w.0.0, w.1, (w.2.len, w.2.fields), tt, w.4 ∙ ap (λ (z : List ℕ). z ++ w.1) (state_is w.0))) s

pub state_begins : (bytes : List ℕ) (fields : List ℤ) → ListSoFar (FitsSigned w64) field_bytes Fields bytes bytes (take 0 fields) 0 (16 - 0)
state_begins bytes fields =
    let s = list_begins (FitsSigned w64) field_bytes bytes 16 [] refl in
    record { len = refl; each = tt; spelled = refl; behind = λ stop t. state_stops bytes stop (s.behind stop t) }

pub state_more : (bytes rest after : List ℕ) (fields : List ℤ) (i n : ℕ) (z : ℤ) → i < 16 → length fields ≡ 16 → Between 0 18446744073709551615 n → z ≡ cast_signed w64 n → rest ≡ to_be_bytes w64 n ++ after
    → ListSoFar (FitsSigned w64) field_bytes Fields bytes rest (take i fields) i (16 - i)
    → ListSoFar (FitsSigned w64) field_bytes Fields bytes after (take (i + 1) (set fields i (to_z w64 (of_z w64 z)))) (i + 1) (16 - (i + 1)) × (length (set fields i (to_z w64 (of_z w64 z))) ≡ 16)
state_more bytes rest after fields i n z lt len range ez e s =
    let small : n < 2 ^ 64 = omega (arith, range) in
    let fits : FitsSigned w64 z = subst (FitsSigned w64) (sym ez) (signed_fits n small) in
    let kept : to_z w64 (of_z w64 z) ≡ z = to_z-of_z w64 z fits in
    let within : i < length fields = omega (arith, len) in
    let longer : take (i + 1) (set fields i (to_z w64 (of_z w64 z))) ≡ take i fields ++ z ∷ [] = take-set_at fields i (i + 1) (to_z w64 (of_z w64 z)) refl within ∙ ap (λ (y : ℤ). take i fields ++ y ∷ []) kept in
    let spelled : rest ≡ field_bytes z ++ after = e ∙ ap (λ (y : List ℕ). y ++ after) (sym (ap field_bytes ez ∙ field_of_bits n small)) in (
      list_more (FitsSigned w64) field_bytes fields_apart Fields bytes rest after (take i fields) (take (i + 1) (set fields i (to_z w64 (of_z w64 z)))) z i 16 lt fits spelled longer s,
      length-set fields i (to_z w64 (of_z w64 z)) ∙ len,
    )

-- ---- ascending numbers

pub roomy_actors : (low n : ℕ) → SpelledApart (Roomy (λ (a : ActorId). a.0) low (2 ^ 16) n) actor_bytes
roomy_actors low n = apart_through (Roomy (λ (a : ActorId). a.0) low (2 ^ 16) n) (Below (2 ^ 16)) (λ (a : ActorId). a.0) (to_be_bytes w16) (λ a p. omega (arith, p)) (λ a b p q e. ap (λ (m : ℕ). let z : ActorId = record { 0 = m } in z) e) apart16

pub roomy_tids : (low n : ℕ) → SpelledApart (Roomy (λ (t : Tid). t.0) low (2 ^ 64) n) tid_bytes
roomy_tids low n = apart_through (Roomy (λ (t : Tid). t.0) low (2 ^ 64) n) (Below (2 ^ 64)) (λ (t : Tid). t.0) (to_be_bytes w64) (λ a p. omega (arith, p)) (λ a b p q e. ap (λ (m : ℕ). let z : Tid = record { 0 = m } in z) e) apart64

pub fails_actor : (low high n : ℕ) (bytes : List ℕ) (stop : Stop) → high + n + 1 ≡ 65536 → IsWhyUnread (Seq (Between low high) (to_be_bytes w16) (λ n. Any)) bytes stop → IsWhyUnread (Seq (Roomy (λ (a : ActorId). a.0) low (2 ^ 16) n) actor_bytes (λ a. Any)) bytes stop
fails_actor low high n bytes stop e s = fails_alike (Seq (Between low high) (to_be_bytes w16) (λ n. Any)) (Seq (Roomy (λ (a : ActorId). a.0) low (2 ^ 16) n) actor_bytes (λ a. Any)) bytes stop
    (λ f w. let a : ActorId = record { 0 = w.0 } in (a, w.1, (w.2.0, omega (arith, w.2)), tt, w.4))
    (λ f w. (w.0.0, w.1, (w.2.0, omega (arith, w.2)), tt, w.4)) s

pub fails_tid : (low high n : ℕ) (bytes : List ℕ) (stop : Stop) → high + n + 1 ≡ 2 ^ 64 → IsWhyUnread (Seq (Between low high) (to_be_bytes w64) (λ n. Any)) bytes stop → IsWhyUnread (Seq (Roomy (λ (t : Tid). t.0) low (2 ^ 64) n) tid_bytes (λ a. Any)) bytes stop
fails_tid low high n bytes stop e s = fails_alike (Seq (Between low high) (to_be_bytes w64) (λ n. Any)) (Seq (Roomy (λ (t : Tid). t.0) low (2 ^ 64) n) tid_bytes (λ a. Any)) bytes stop
    (λ f w. let a : Tid = record { 0 = w.0 } in (a, w.1, (w.2.0, omega (arith, w.2)), tt, w.4))
    (λ f w. (w.0.0, w.1, (w.2.0, omega (arith, w.2)), tt, w.4)) s

-- ---- the end

pub end_stops : (bytes : List ℕ) → bytes ≢ [] → Stops Nil bytes (length bytes)
end_stops [] some = absurd (some refl)
end_stops (b ∷ x) some = stops_here Nil (b ∷ x) ([], refl) (λ f y p e. let bad : [] ≡ b ∷ y = sym p ∙ e in cc)

pub state_found : (bytes rest : List ℕ) (fields : List ℤ) (i : ℕ) → 16 ≤ i → i ≤ 16 → length fields ≡ 16 → ListSoFar (FitsSigned w64) field_bytes Fields bytes rest (take i fields) i (16 - i)
    → let s : State = record { 0 = fields } in IsState s × (bytes ≡ state_bytes s ++ rest)
state_found bytes rest fields i l u len s =
    let whole : take i fields ≡ fields = take_all i fields (omega (arith, len)) in
    let state : State = record { 0 = fields } in (
      record { len = len; fields = subst (AllByRecursion (FitsSigned w64)) whole s.each },
      s.spelled ∙ ap (λ (z : List ℤ). flat_map field_bytes z ++ rest) whole ∙ ap (λ (z : List ℕ). z ++ rest) (sym (state_is state)),
    )
