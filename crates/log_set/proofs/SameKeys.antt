-- Two keys are the same where `==` says so.
use Rattle.std.proofs.Common.{◌≡◌, true, eqb, refl, ap, ◌∙◌}
use Rattle.std.proofs.lemmas.Bool.{eqb-true, and_parts, false≢true}
use Rattle.txn_records.specs.declared.keys.Key.{Key}
use Rattle.txn_records.specs.declared.keys.Key.TheVariants.{Genesis, Info, Complete, Commit, Prepare, Act, Checkpoint}
use Rattle.log_set.specs.Keys.{is_key, key_eq}

pub key_eq-is_key : (j k : Key) → key_eq j k ≡ is_key j k
key_eq-is_key Genesis Genesis = refl
key_eq-is_key (Info j) (Info k) = refl
key_eq-is_key (Complete j a) (Complete k b) = refl
key_eq-is_key (Commit j) (Commit k) = refl
key_eq-is_key (Prepare j a) (Prepare k b) = refl
key_eq-is_key (Act j) (Act k) = refl
key_eq-is_key Checkpoint Checkpoint = refl
key_eq-is_key Genesis _ = refl
key_eq-is_key (Info j) _ = refl
key_eq-is_key (Complete j a) _ = refl
key_eq-is_key (Commit j) _ = refl
key_eq-is_key (Prepare j a) _ = refl
key_eq-is_key (Act j) _ = refl
key_eq-is_key Checkpoint _ = refl

pub key_same : (j k : Key) → is_key j k ≡ true → j ≡ k
key_same Genesis Genesis h = refl
key_same (Info j) (Info k) h = ap (λ n. Info (record { 0 = n })) (eqb-true j.0 k.0 h)
key_same (Complete j a) (Complete k b) h =
    let both = and_parts (eqb j.0 k.0) (eqb a.0 b.0) h in
    ap (λ n. Complete (record { 0 = n }) a) (eqb-true j.0 k.0 both.0) ∙ ap (λ n. Complete k (record { 0 = n })) (eqb-true a.0 b.0 both.1)
key_same (Commit j) (Commit k) h = ap (λ n. Commit (record { 0 = n })) (eqb-true j.0 k.0 h)
key_same (Prepare j a) (Prepare k b) h =
    let both = and_parts (eqb j.0 k.0) (eqb a.0 b.0) h in
    ap (λ n. Prepare (record { 0 = n }) a) (eqb-true j.0 k.0 both.0) ∙ ap (λ n. Prepare k (record { 0 = n })) (eqb-true a.0 b.0 both.1)
key_same (Act j) (Act k) h = ap (λ n. Act (record { 0 = n })) (eqb-true j.0 k.0 h)
key_same Checkpoint Checkpoint h = refl
key_same Genesis _ h = absurd (false≢true h)
key_same (Info j) _ h = absurd (false≢true h)
key_same (Complete j a) _ h = absurd (false≢true h)
key_same (Commit j) _ h = absurd (false≢true h)
key_same (Prepare j a) _ h = absurd (false≢true h)
key_same (Act j) _ h = absurd (false≢true h)
key_same Checkpoint _ h = absurd (false≢true h)
