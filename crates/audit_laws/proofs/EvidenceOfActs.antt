-- An ACT that is told why it was given up is given up so by the events.
use Rattle.std.specs.Prelude.{◌≡◌, refl, ℕ, ◌==◌, Bool, true, false, ◌⊎◌, if◌then◌else◌, Option, Some, None, List, [], ◌∷◌, find, map}
use Rattle.std.specs.List.{AllByRecursion}
use Rattle.std.proofs.Common.{sym, ap, subst, inl, inr, ◌∙◌}
use Rattle.std.proofs.lemmas.Bool.{true≢false, eqb-true}
use Rattle.snap_base.specs.declared.transactions.TxResult.{TxResult}
use Rattle.snap_base.specs.declared.transactions.TxResult.TheVariants.{Value, Fail}
use Rattle.snap_base.specs.declared.verdicts.Place.{Place}
use Rattle.snap_base.specs.declared.verdicts.Verdict.{Verdict}
use Rattle.snap_base.specs.declared.verdicts.Verdict.TheVariants as verdicts
use Rattle.snap_base.proofs.Options.{none_is_some, same_some}
use Rattle.protocol.specs.Parts.{Act, Decided, Doomed, Live, Sealed, Status}
use Rattle.protocol.specs.Verdicts.{act_place, act_verdict, ended_at, or_else, verdict_of_act}
use Rattle.audit_words.specs.Clauses.{HasDied, IsGivenUpFor}
use Rattle.audit_words.specs.Seen.{Begun, Crossed, Doom, Older, Seen, Taken, first_doom}
use Rattle.audit_laws.specs.Acts.{doom, reason}

-- the verdicts that tell a place
abbrev pub tells_place : Verdict → Bool
tells_place (verdicts.Committed p v) = true
tells_place (verdicts.Code p c) = true
tells_place _ = false

pub one_of_both : {X : Type 0} (o r : Option X) (x : X) → or_else o r ≡ Some x → (o ≡ Some x) ⊎ ((o ≡ None) × (r ≡ Some x))
one_of_both None r x e = inr (refl, e)
one_of_both (Some y) r x e = inl e

pub ended_places : (p : Place) (r : Option TxResult) (v : Verdict) → ended_at p r ≡ Some v → tells_place v ≡ true
ended_places p None v e = absurd (none_is_some v e)
ended_places p (Some (Value z)) v e = subst (λ (u : Verdict). tells_place u ≡ true) (same_some (verdicts.Committed p z) v e) refl
ended_places p (Some (Fail c)) v e = subst (λ (u : Verdict). tells_place u ≡ true) (same_some (verdicts.Code p c) v e) refl

-- without a place it is doomed so
doomed_as : (st : Status) (m : ℕ) (r : Option TxResult) (v : Verdict) → tells_place v ≡ false → act_verdict st m r ≡ Some v → st ≡ Doomed v
doomed_as Live m r v h e = absurd (none_is_some v e)
doomed_as (Doomed u) m r v h e = ap Doomed (same_some u v e)
doomed_as (Decided c) m r v h e = absurd (none_is_some v e)
doomed_as (Sealed c) m r v h e = absurd (true≢false (sym (ended_places (act_place m c) r v e) ∙ h))

-- ---- the ACT with the transaction

pub record ActTold (bs : List Begun) (ds : List Doom) (n : ℕ) (v : Verdict) : Type 0 where
  pub act : Begun
  pub found : find (λ b. b.tx == n) bs ≡ Some act
  pub why : first_doom act.tid ds ≡ reason act.tid (Doomed v)

pub act_told : (n : ℕ) (v : Verdict) (ds : List Doom) (bs : List Begun) (xs : List Act) → map (λ b. b.tid) bs ≡ map (λ x. x.tid) xs → map (λ b. b.tx) bs ≡ map (λ x. x.tx) xs → AllByRecursion (λ x. first_doom x.tid ds ≡ reason x.tid x.status) xs
    → tells_place v ≡ false → verdict_of_act n xs ≡ Some v → ActTold bs ds n v
act_told n v ds [] [] i j h p e = absurd (none_is_some v e)
act_told n v ds [] (x ∷ xs) i j h p e = absurd (cc i)
act_told n v ds (b ∷ bs) [] i j h p e = absurd (cc i)
act_told n v ds (b ∷ bs) (x ∷ xs) i j h p e =
    let t : b.tid ≡ x.tid = cc i in
    let ts : map (λ (y : Begun). y.tid) bs ≡ map (λ (y : Act). y.tid) xs = cc i in
    let u : b.tx ≡ x.tx = cc j in
    let us : map (λ (y : Begun). y.tx) bs ≡ map (λ (y : Act). y.tx) xs = cc j in
    by (x.tx == n) (ap (λ (m : ℕ). m == n) u) t e (act_told n v ds bs xs ts us h.1 p)
  where
    by : (c : Bool) → (b.tx == n) ≡ c → b.tid ≡ x.tid → (if c then act_verdict x.status x.m x.result else verdict_of_act n xs) ≡ Some v → (verdict_of_act n xs ≡ Some v → ActTold bs ds n v) → ActTold (b ∷ bs) ds n v
    by true q t e r = record {
      act = b;
      found = ap (λ (c : Bool). if c then Some b else find (λ (y : Begun). y.tx == n) bs) q;
      why = subst (λ (z : ℕ). first_doom z ds ≡ reason z (Doomed v)) (sym t) (h.0 ∙ ap (reason x.tid) (doomed_as x.status x.m x.result v p e));
    }
    by false q t e r = let k = r e in record { act = k.act; found = ap (λ (c : Bool). if c then Some b else find (λ (y : Begun). y.tx == n) bs) q ∙ k.found; why = k.why }

-- ---- the reason

-- a reason is of the ACT with its tid
doom_is : (u : ℕ) (ds : List Doom) (d : Doom) → first_doom u ds ≡ Some d → d.tid ≡ u
doom_is u [] d e = absurd (none_is_some d e)
doom_is u (x ∷ ds) d e = by (x.tid == u) refl e (doom_is u ds d)
  where
    by : (b : Bool) → (x.tid == u) ≡ b → (if b then Some x else first_doom u ds) ≡ Some d → (first_doom u ds ≡ Some d → d.tid ≡ u) → d.tid ≡ u
    by true q e r = ap (λ (z : Doom). z.tid) (sym (same_some x d e)) ∙ eqb-true x.tid u q
    by false q e r = r e

pub died_told : (s : Seen) (n a older own : ℕ) → ActTold s.acts s.dooms n (verdicts.Died (record { 0 = a }) (record { 0 = older }) (record { 0 = own })) → HasDied s n a older own
died_told s n a older own k =
    let i : own ≡ (k.act).tid = doom_is (k.act).tid s.dooms (doom own (Older a older)) k.why in
    record { given_up = record { act = k.act; found = k.found; doom = k.why ∙ ap (λ (z : ℕ). Some (doom z (Older a older))) i }; own_tid = sym i }

pub crossed_told : (s : Seen) (n m k a : ℕ) → ActTold s.acts s.dooms n (verdicts.Order (record { 0 = m }) (record { 0 = k }) (record { 0 = a })) → IsGivenUpFor s n (Crossed m k a)
crossed_told s n m k a h = record { act = h.act; found = h.found; doom = h.why }

pub taken_told : (s : Seen) (n k by : ℕ) → ActTold s.acts s.dooms n (verdicts.Cascade (record { 0 = k }) (record { 0 = by })) → IsGivenUpFor s n (Taken k)
taken_told s n k by h = record { act = h.act; found = h.found; doom = h.why }
