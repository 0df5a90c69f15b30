-- Of two calls the second knows what the first did, where a commit that was found before a call is taken by its second round.
use Rattle.std.specs.Prelude.{◌≡◌, refl, ℕ, ◌⊎◌, Option, Some, None, List, [], ◌∷◌, ◌++◌, map, Contains}
use Rattle.std.proofs.Common.{arith, sym, ap, subst, inl, inr, ◌∙◌}
use Rattle.std.proofs.lemmas.Bool.{cases_Bool}
use Rattle.protocol.specs.Parts.{Who, OfBatch, OfAct}
use Rattle.protocol_laws.proofs.first.Lists.{join_assoc}
use Rattle.protocol_records.specs.SeveralRuns.{CutRun}
use Rattle.followed_runs.specs.FollowingRuns.{Where, IsNoEarlier, IsStill}
use Rattle.txn_records.specs.declared.records.Record.{Record}
use Rattle.txn_records.specs.declared.keys.Key.{Key}
use Rattle.snap_recover.specs.declared.openings.Kept.{Kept}
use Rattle.snap_recover.specs.declared.openings.Kept.TheVariants as kept
use Rattle.snap_recover.specs.Opening.{commit_of}
use Rattle.snap_recover.proofs.Lists.{contains_none, contains_unmap}
use Rattle.log_compact.specs.Sets.{plain_lists}
use Rattle.snap_follow.specs.Followed.{HasCommit}
use Rattle.snap_follow.specs.Rounds.{Following, taken_by}
use Rattle.followed_logs.specs.OnRecords.{key_of, Finding, lists_found, IsLaterFinding, FollowRound, GoOnFollowing, known_then, found_last, FollowersShowWhatWasFound, FollowersKnowMoreLater}
use Rattle.followed_logs.proofs.Keys.{is_taken, taken_is, not_taken}
use Rattle.followed_logs.proofs.Shown.{commit_who}
use Rattle.followed_logs.proofs.Found.{Found, none_found}

-- ---- readings

earlier_earlier : {C : Type 0} (xs : List (CutRun C)) (l i j : ℕ) (p : Where xs l) (q : Where xs i) (t : Where xs j) → IsNoEarlier xs l i p q → IsNoEarlier xs i j q t → IsNoEarlier xs l j p t
earlier_earlier [] l i j p q t a b = tt
earlier_earlier (x ∷ xs) l i j None q t a b = tt
earlier_earlier (x ∷ xs) l i j (Some p) None t a b = absurd a
earlier_earlier (x ∷ xs) l i j (Some p) (Some q) None a b = absurd b
earlier_earlier (x ∷ xs) l i j (Some (inl p)) (Some (inl q)) (Some (inl t)) a b = (a.0 ++ b.0, b.1 ∙ (ap (λ z. z ++ b.0) a.1 ∙ join_assoc p.events a.0 b.0))
earlier_earlier (x ∷ xs) l i j (Some (inl p)) (Some q) (Some (inr t)) a b = tt
earlier_earlier (x ∷ xs) l i j (Some (inl p)) (Some (inr q)) (Some (inl t)) a b = absurd b
earlier_earlier (x ∷ xs) l i j (Some (inr p)) (Some (inl q)) (Some t) a b = absurd a
earlier_earlier (x ∷ xs) l i j (Some (inr p)) (Some (inr q)) (Some (inl t)) a b = absurd b
earlier_earlier (x ∷ xs) l i j (Some (inr p)) (Some (inr q)) (Some (inr t)) a b = earlier_earlier xs l i j p q t a b

still_still : {C : Type 0} (xs : List (CutRun C)) (l : ℕ) (p q t : Where xs l) → IsStill xs l p q → IsStill xs l q t → IsStill xs l p t
still_still [] l p q t a b = tt
still_still (x ∷ xs) l None q t a b = tt
still_still (x ∷ xs) l (Some p) None t a b = absurd a
still_still (x ∷ xs) l (Some p) (Some q) None a b = absurd b
still_still (x ∷ xs) l (Some (inl p)) (Some (inl q)) (Some (inl t)) a b = omega (arith, a, b)
still_still (x ∷ xs) l (Some (inl p)) (Some q) (Some (inr t)) a b = tt
still_still (x ∷ xs) l (Some (inl p)) (Some (inr q)) (Some (inl t)) a b = absurd b
still_still (x ∷ xs) l (Some (inr p)) (Some (inl q)) (Some t) a b = absurd a
still_still (x ∷ xs) l (Some (inr p)) (Some (inr q)) (Some (inl t)) a b = absurd b
still_still (x ∷ xs) l (Some (inr p)) (Some (inr q)) (Some (inr t)) a b = still_still xs l p q t a b

later_later : {C : Type 0} (xs : List (CutRun C)) (x y z : Finding xs) → IsLaterFinding xs (Some x) y → IsLaterFinding xs (Some y) z → IsLaterFinding xs (Some x) z
later_later xs x y z a b = record {
  later = record {
    moments = λ l i. earlier_earlier xs l i i (x.reading l) (y.reading i) (z.reading i) (a.later.moments l i) (b.later.moments i i);
    still = λ l. still_still xs l (x.reading l) (y.reading l) (z.reading l) (a.later.still l) (b.later.still l);
  };
  still_begun = λ e. b.still_begun (a.still_begun e);
}

-- ---- what was taken was found

-- its commit was found, at no later moment than the last finding
record WasFound {C : Type 0} (many : ℕ) (front : List Record) (xs : List (CutRun C)) (o : Option (Finding xs)) (k : Key) : Type 0 where
  finding : Finding xs
  is_there : HasCommit (plain_lists (lists_found many front xs finding)) k
  before : (q : Finding xs) → IsLaterFinding xs o q → IsLaterFinding xs (Some finding) q

kept_who : (k : Kept) → (w : Who) × (commit_of k ≡ key_of w)
kept_who (kept.Batch bid tids values) = (OfBatch bid.0, refl)
kept_who (kept.Act tid m c value) = (OfAct tid.0, refl)

taken_who : (f : Following) (k : Key) → Contains (taken_by f) k → (w : Who) × (k ≡ key_of w)
taken_who f k c = let p = contains_unmap commit_of f.members k c in let w = kept_who p.0 in (w.0, sym p.2 ∙ w.1)

-- a member was taken before, or it was not
new_or_old : (f g : Following) (k : Key) → Contains (taken_by g) k → Contains (taken_by f) k ⊎ ¬ Contains (taken_by f) k
new_or_old f g k c =
    let w = taken_who g k c in
    elim (cases_Bool (is_taken (taken_by f) w.0)) [
      | inl e ↦ inl (subst (Contains (taken_by f)) (sym w.1) (taken_is (taken_by f) w.0 e))
      | inr e ↦ inr (λ i. not_taken (taken_by f) w.0 e (subst (Contains (taken_by f)) w.1 i))
    ]

module _ {C : Type 0} (many : ℕ) (front : List Record) (xs : List (CutRun C)) where
  seen_before : (f : Following) (o : Option (Finding xs)) (k : Key) → Found many front xs f o → HasCommit (plain_lists f.before) k → WasFound many front xs o k
  seen_before f None k e h = absurd (let w = commit_who (plain_lists f.before) k h in none_found f.before w.0 e (subst (HasCommit (plain_lists f.before)) w.1 h))
  seen_before f (Some x) k e h = record { finding = x; is_there = subst (λ ls. HasCommit (plain_lists ls) k) e h; before = λ q l. l }

  goes_on : (o : Option (Finding xs)) (x : Finding xs) (k : Key) → IsLaterFinding xs o x → WasFound many front xs o k → WasFound many front xs (Some x) k
  goes_on o x k l w = record { finding = w.finding; is_there = w.is_there; before = λ q m. later_later xs w.finding x q (w.before x l) m }

  was_found : (f : Following) (o : Option (Finding xs)) (ys : List (FollowRound xs)) → Found many front xs f o → ((k : Key) → Contains (taken_by f) k → WasFound many front xs o k) → GoOnFollowing many front xs f o ys
      → (k : Key) → Contains (taken_by (known_then xs f ys)) k → WasFound many front xs (found_last xs o ys) k
  was_found f o [] e t h k c = t k c
  was_found f o (y ∷ ys) e t h k c = was_found y.known (Some y.found) ys h.0.1.before one h.1 k c
    where
      by : (j : Key) → Contains (taken_by y.known) j → Contains (taken_by f) j ⊎ ¬ Contains (taken_by f) j → WasFound many front xs o j
      by j i (inl p) = t j p
      by j i (inr p) = seen_before f o j e (h.0.1.members.takes.may.seen j i p)

      one : (j : Key) → Contains (taken_by y.known) j → WasFound many front xs (Some y.found) j
      one j i = goes_on o y.found j h.0.0 (by j i (new_or_old f y.known j i))

  -- whom the rounds took stays
  stays : (f : Following) (o : Option (Finding xs)) (ys : List (FollowRound xs)) → GoOnFollowing many front xs f o ys → (k : Key) → Contains (taken_by f) k → Contains (taken_by (known_then xs f ys)) k
  stays f o [] h k c = c
  stays f o (y ∷ ys) h k c = stays y.known (Some y.found) ys h.1 k (h.0.1.members.takes.may.stay k c)

pub second_knows_more : {C : Type 0} → FollowersShowWhatWasFound C → FollowersKnowMoreLater C
second_knows_more shown many o front xs f g ys x y zs on n m h u b k c =
    let w = was_found many front xs f None ys n.nothing (λ j i. absurd (contains_none j (subst (λ ms. Contains (map commit_of ms) j) n.nobody i))) h k c in
    stays many front xs y.known (Some y.found) zs u.1.1 k
    (shown many o front xs g w.finding x y on m ((w.before x.found u.0.0, u.0.1), (u.1.0, tt)) b k w.is_there)
