-- Batches along a long schedule, event by event.
use Rattle.std.specs.Prelude.{◌≡◌, refl, ℕ, suc, ◌+◌, ◌-◌, ◌<◌, ◌≤◌, ◌==◌, nat_lt, nat_le, Bool, true, false, ◌||◌, if◌then◌else◌, List, [], ◌∷◌, ◌++◌, length, map, filter}
use Rattle.std.specs.List.{AllByRecursion}
use Rattle.std.proofs.Common.{arith, sym, subst, inl, inr, ◌∙◌}
use Rattle.std.proofs.lemmas.List.{append-nil, append_assoc}
use Rattle.std.proofs.lemmas.Bool.{eqb-true, leb-true, ltb-true, le-leb, lt-ltb, and_parts, and_from, or_cases, or_from, true≢false, cases_Bool, cases_lt, false_from_ne_true, lt-leb, and_left}
use Rattle.protocol.specs.Cutting.{Ascends}
use Rattle.protocol.specs.Parts.{Cascade, Who, OfBatch, OfAct}
use Rattle.protocol.specs.Words.{covers, is_aborted, epoch_of, is_who}
use Rattle.protocol.specs.OnCell.{is_cut}
use Rattle.protocol.specs.History.{Slice, Ran, Stands, Gone, batches_in, batch_in, not_run, ran_in, completed, left_for_good, without_standing, long_staying}
use Rattle.protocol_laws.specs.Tracks.{keys_in, is_key_among, NoneGone, CutIsEnd}
use Rattle.protocol_laws.specs.Places.{has_gone, IsFirm, FirmUpToGone, FirmUpTo, FitsCell, Places}
use Rattle.protocol_laws.proofs.first.EpochsKept as epochs
use Rattle.protocol_laws.proofs.first.SettlingKeys as keys
use Rattle.protocol_laws.proofs.first.Times
use Rattle.protocol_laws.proofs.machine.TrackLists
use Rattle.protocol_laws.proofs.first.Lists.{all_back, all_front, all_join, both_all, weaker}

-- ---- epochs

pub epoch_mono : (j k : ℕ) (cs : List Cascade) → j ≤ k → epoch_of j cs ≤ epoch_of k cs
epoch_mono j k [] l = omega arith
epoch_mono j k (c ∷ cs) l = by (nat_lt c.upto j) (nat_lt c.upto k) refl refl (epoch_mono j k cs l)
  where
    by : (p q : Bool) → nat_lt c.upto j ≡ p → nat_lt c.upto k ≡ q → epoch_of j cs ≤ epoch_of k cs
        → length (if p then c ∷ filter (λ c. nat_lt c.upto j) cs else filter (λ c. nat_lt c.upto j) cs) ≤ length (if q then c ∷ filter (λ c. nat_lt c.upto k) cs else filter (λ c. nat_lt c.upto k) cs)
    by true true e f g = omega (arith, g)
    by true false e f g = absurd (true≢false (sym (lt-ltb c.upto k (omega (arith, ltb-true c.upto j e, l))) ∙ f))
    by false true e f g = omega (arith, g)
    by false false e f g = g

-- behind an aborted batch, who is of no later epoch is aborted too
pub suffix : (x k : ℕ) (cs : List Cascade) → is_aborted x cs ≡ true → x ≤ k → epoch_of k cs ≤ epoch_of x cs → is_aborted k cs ≡ true
suffix x k [] a l h = absurd (true≢false (sym a))
suffix x k (c ∷ cs) a l h = by (nat_lt c.upto x) (nat_lt c.upto k) refl refl (covers x c) refl a h (suffix x k cs)
  where
    or_true : (b : Bool) → (b || true) ≡ true
    or_true true = refl
    or_true false = refl

    by : (p q : Bool) → nat_lt c.upto x ≡ p → nat_lt c.upto k ≡ q → (v : Bool) → covers x c ≡ v → (v || is_aborted x cs) ≡ true
        → length (if q then c ∷ filter (λ c. nat_lt c.upto k) cs else filter (λ c. nat_lt c.upto k) cs) ≤ length (if p then c ∷ filter (λ c. nat_lt c.upto x) cs else filter (λ c. nat_lt c.upto x) cs)
        → (is_aborted x cs ≡ true → x ≤ k → epoch_of k cs ≤ epoch_of x cs → is_aborted k cs ≡ true) → (covers k c || is_aborted k cs) ≡ true
    by p q e f true u a h r =
        let v = and_parts (nat_le c.first x) (nat_le x c.upto) u in
        elim (cases_lt c.upto k) [
          | inl g ↦ absurd (omega (arith, count p q e f (leb-true x c.upto v.1) (lt-ltb c.upto k g) h, epoch_mono x k cs l))
          | inr g ↦ rw (and_from (nat_le c.first k) (nat_le k c.upto) (le-leb c.first k (omega (arith, l, leb-true c.first x v.0))) (le-leb k c.upto g)) refl
        ]
      where
        count : (p q : Bool) → nat_lt c.upto x ≡ p → nat_lt c.upto k ≡ q → x ≤ c.upto → nat_lt c.upto k ≡ true
            → length (if q then c ∷ filter (λ c. nat_lt c.upto k) cs else filter (λ c. nat_lt c.upto k) cs) ≤ length (if p then c ∷ filter (λ c. nat_lt c.upto x) cs else filter (λ c. nat_lt c.upto x) cs)
            → suc (epoch_of k cs) ≤ epoch_of x cs
        count true q e f l m h = absurd (omega (arith, ltb-true c.upto x e, l))
        count false true e f l m h = h
        count false false e f l m h = absurd (true≢false (sym m ∙ f))
    by true true e f false u a h r = rw (r a l (omega (arith, h))) (or_true (covers k c))
    by true false e f false u a h r = absurd (true≢false (sym (lt-ltb c.upto k (omega (arith, ltb-true c.upto x e, l))) ∙ f))
    by false true e f false u a h r = rw (r a l (omega (arith, h))) (or_true (covers k c))
    by false false e f false u a h r = rw (r a l h) (or_true (covers k c))

-- ---- batches of a long schedule

pub batches_join : (xs ys : List Ran) → batches_in (xs ++ ys) ≡ batches_in xs ++ batches_in ys
batches_join [] ys = refl
batches_join (Stands y c ss ∷ xs) ys = rw (batches_join xs ys) (sym (append_assoc (batch_in y) (batches_in xs) (batches_in ys)))
batches_join (Gone y ss ∷ xs) ys = rw (batches_join xs ys) (sym (append_assoc (batch_in y) (batches_in xs) (batches_in ys)))

pub batches_ran : (who : Who) (x : Slice) (rs : List Ran) → batches_in (map (ran_in who x) rs) ≡ batches_in rs
batches_ran who x [] = refl
batches_ran who x (Stands y c ss ∷ rs) = rw (batches_ran who x rs) refl
batches_ran who x (Gone y ss ∷ rs) = rw (batches_ran who x rs) refl

pub batches_completed : (k : ℕ) (rs : List Ran) → batches_in (map (completed k) rs) ≡ batches_in rs
batches_completed k [] = refl
batches_completed k (Stands y c ss ∷ rs) = rw (batches_completed k rs) refl
batches_completed k (Gone y ss ∷ rs) = rw (batches_completed k rs) refl

pub batches_left : (who : Who) (rs : List Ran) → batches_in (map (left_for_good who) rs) ≡ batches_in rs
batches_left who [] = refl
batches_left who (Stands y c ss ∷ rs) = by (is_who y who) (batches_left who rs)
  where
    by : (b : Bool) → batches_in (map (left_for_good who) rs) ≡ batches_in rs → batches_in ((if b then Gone y ss else Stands y c ss) ∷ map (left_for_good who) rs) ≡ batch_in y ++ batches_in rs
    by true h = rw h refl
    by false h = rw h refl
batches_left who (Gone y ss ∷ rs) = rw (batches_left who rs) refl

no_batch : (y : Who) (t : ℕ) → is_who y (OfAct t) ≡ true → batch_in y ≡ []
no_batch (OfBatch k) t e = absurd (true≢false (sym e))
no_batch (OfAct u) t e = refl

pub batches_without_act : (t : ℕ) (rs : List Ran) → batches_in (without_standing (OfAct t) rs) ≡ batches_in rs
batches_without_act t [] = refl
batches_without_act t (Stands y c ss ∷ rs) = by (is_who y (OfAct t)) refl (batches_without_act t rs)
  where
    by : (b : Bool) → is_who y (OfAct t) ≡ b → batches_in (without_standing (OfAct t) rs) ≡ batches_in rs → batches_in (if b then without_standing (OfAct t) rs else Stands y c ss ∷ without_standing (OfAct t) rs) ≡ batch_in y ++ batches_in rs
    by true e h = rw (no_batch y t e, h) refl
    by false e h = rw h refl
batches_without_act t (Gone y ss ∷ rs) = rw (batches_without_act t rs) refl

ascends_more : (k : ℕ) (ks : List ℕ) → AllByRecursion (λ j. j < k) ks → Ascends ks → Ascends (ks ++ k ∷ [])
ascends_more k [] a h = (tt, tt)
ascends_more k (j ∷ js) a h = (all_join (λ i. j < i) js (k ∷ []) h.0 (a.0, tt), ascends_more k js a.1 h.1)

pub ascends_back : (xs ys : List ℕ) → Ascends (xs ++ ys) → Ascends ys
ascends_back [] ys h = h
ascends_back (x ∷ xs) ys h = ascends_back xs ys h.1

-- what a rollback leaves of the batches
pub stay_all : (P : ℕ → Type 0) (cs : List Cascade) (rs : List Ran) → AllByRecursion P (batches_in rs) → AllByRecursion P (batches_in (long_staying cs rs))
stay_all P cs [] h = tt
stay_all P cs (Stands y c ss ∷ rs) h = by (is_cut cs y) (stay_all P cs rs (all_back P (batch_in y) (batches_in rs) h))
  where
    by : (b : Bool) → AllByRecursion P (batches_in (long_staying cs rs)) → AllByRecursion P (batches_in (if b then [] else Stands y c ss ∷ long_staying cs rs))
    by true g = tt
    by false g = all_join P (batch_in y) (batches_in (long_staying cs rs)) (all_front P (batch_in y) (batches_in rs) h) g
stay_all P cs (Gone y ss ∷ rs) h = all_join P (batch_in y) (batches_in (long_staying cs rs)) (all_front P (batch_in y) (batches_in rs) h) (stay_all P cs rs (all_back P (batch_in y) (batches_in rs) h))

ascends_in : (y : Who) (ks js : List ℕ) → ((P : ℕ → Type 0) → AllByRecursion P ks → AllByRecursion P js) → Ascends (batch_in y ++ ks) → Ascends js → Ascends (batch_in y ++ js)
ascends_in (OfBatch k) ks js f h g = (f (λ j. k < j) h.0, g)
ascends_in (OfAct t) ks js f h g = g

stay_ascends : (cs : List Cascade) (rs : List Ran) → Ascends (batches_in rs) → Ascends (batches_in (long_staying cs rs))
stay_ascends cs [] h = tt
stay_ascends cs (Stands y c ss ∷ rs) h = by (is_cut cs y) (stay_ascends cs rs (ascends_back (batch_in y) (batches_in rs) h))
  where
    by : (b : Bool) → Ascends (batches_in (long_staying cs rs)) → Ascends (batches_in (if b then [] else Stands y c ss ∷ long_staying cs rs))
    by true g = tt
    by false g = ascends_in y (batches_in rs) (batches_in (long_staying cs rs)) (λ P q. stay_all P cs rs q) h g
stay_ascends cs (Gone y ss ∷ rs) h = ascends_in y (batches_in rs) (batches_in (long_staying cs rs)) (λ P q. stay_all P cs rs q) h (stay_ascends cs rs (ascends_back (batch_in y) (batches_in rs) h))

-- ---- firm

gone_more : (who : Who) (rs : List Ran) → has_gone (rs ++ not_run who ∷ []) ≡ has_gone rs
gone_more who [] = refl
gone_more who (Stands y c ss ∷ rs) = gone_more who rs
gone_more who (Gone y ss ∷ rs) = refl

firm_more : (n : ℕ) (cs : List Cascade) (who : Who) (rs : List Ran) → FirmUpToGone n cs rs → FirmUpToGone n cs (rs ++ not_run who ∷ [])
firm_more n cs who [] h = (λ e. absurd (true≢false (sym e)), tt)
firm_more n cs who (Stands y c ss ∷ rs) h = (λ e. h.0 (sym (gone_more who rs) ∙ e), firm_more n cs who rs h.1)
firm_more n cs who (Gone y ss ∷ rs) h = (h.0, firm_more n cs who rs h.1)

gone_ran : (who : Who) (x : Slice) (rs : List Ran) → has_gone (map (ran_in who x) rs) ≡ has_gone rs
gone_ran who x [] = refl
gone_ran who x (Stands y c ss ∷ rs) = gone_ran who x rs
gone_ran who x (Gone y ss ∷ rs) = refl

pub firm_ran : (n : ℕ) (cs : List Cascade) (who : Who) (x : Slice) (rs : List Ran) → FirmUpToGone n cs rs → FirmUpToGone n cs (map (ran_in who x) rs)
firm_ran n cs who x [] h = tt
firm_ran n cs who x (Stands y c ss ∷ rs) h = (λ e. h.0 (sym (gone_ran who x rs) ∙ e), firm_ran n cs who x rs h.1)
firm_ran n cs who x (Gone y ss ∷ rs) h = (h.0, firm_ran n cs who x rs h.1)

gone_completed : (k : ℕ) (rs : List Ran) → has_gone (map (completed k) rs) ≡ has_gone rs
gone_completed k [] = refl
gone_completed k (Stands y c ss ∷ rs) = gone_completed k rs
gone_completed k (Gone y ss ∷ rs) = refl

pub firm_completed : (n : ℕ) (cs : List Cascade) (k : ℕ) (rs : List Ran) → FirmUpToGone n cs rs → FirmUpToGone n cs (map (completed k) rs)
firm_completed n cs k [] h = tt
firm_completed n cs k (Stands y c ss ∷ rs) h = (λ e. h.0 (sym (gone_completed k rs) ∙ e), firm_completed n cs k rs h.1)
firm_completed n cs k (Gone y ss ∷ rs) h = (h.0, firm_completed n cs k rs h.1)

gone_without : (who : Who) (rs : List Ran) → has_gone (without_standing who rs) ≡ has_gone rs
gone_without who [] = refl
gone_without who (Stands y c ss ∷ rs) = by (is_who y who) (gone_without who rs)
  where
    by : (b : Bool) → has_gone (without_standing who rs) ≡ has_gone rs → has_gone (if b then without_standing who rs else Stands y c ss ∷ without_standing who rs) ≡ has_gone rs
    by true h = h
    by false h = h
gone_without who (Gone y ss ∷ rs) = refl

pub firm_without : (n : ℕ) (cs : List Cascade) (who : Who) (rs : List Ran) → FirmUpToGone n cs rs → FirmUpToGone n cs (without_standing who rs)
firm_without n cs who [] h = tt
firm_without n cs who (Stands y c ss ∷ rs) h = by (is_who y who) (firm_without n cs who rs h.1)
  where
    by : (b : Bool) → FirmUpToGone n cs (without_standing who rs) → FirmUpToGone n cs (if b then without_standing who rs else Stands y c ss ∷ without_standing who rs)
    by true g = g
    by false g = (λ e. h.0 (sym (gone_without who rs) ∙ e), g)
firm_without n cs who (Gone y ss ∷ rs) h = (h.0, firm_without n cs who rs h.1)

gone_staying : (cs : List Cascade) (rs : List Ran) → has_gone (long_staying cs rs) ≡ true → has_gone rs ≡ true
gone_staying cs [] h = h
gone_staying cs (Stands y c ss ∷ rs) h = by (is_cut cs y) h (gone_staying cs rs)
  where
    by : (b : Bool) → has_gone (if b then [] else Stands y c ss ∷ long_staying cs rs) ≡ true → (has_gone (long_staying cs rs) ≡ true → has_gone rs ≡ true) → has_gone rs ≡ true
    by true e k = absurd (true≢false (sym e))
    by false e k = k e
gone_staying cs (Gone y ss ∷ rs) h = refl

pub firm_staying : (n : ℕ) (cs ds : List Cascade) (rs : List Ran) → FirmUpToGone n cs rs → FirmUpToGone n cs (long_staying ds rs)
firm_staying n cs ds [] h = tt
firm_staying n cs ds (Stands y c ss ∷ rs) h = by (is_cut ds y) (firm_staying n cs ds rs h.1)
  where
    by : (b : Bool) → FirmUpToGone n cs (long_staying ds rs) → FirmUpToGone n cs (if b then [] else Stands y c ss ∷ long_staying ds rs)
    by true g = tt
    by false g = (λ e. h.0 (gone_staying ds rs e), g)
firm_staying n cs ds (Gone y ss ∷ rs) h = (h.0, firm_staying n cs ds rs h.1)

gone_left : (who : Who) (rs : List Ran) → has_gone (map (left_for_good who) rs) ≡ true → (has_gone rs || is_key_among who (keys_in rs)) ≡ true
gone_left who [] h = h
gone_left who (Stands y c ss ∷ rs) h = by (is_who y who) h (gone_left who rs)
  where
    or_true : (b : Bool) → (b || true) ≡ true
    or_true true = refl
    or_true false = refl

    by : (b : Bool) → has_gone ((if b then Gone y ss else Stands y c ss) ∷ map (left_for_good who) rs) ≡ true → (has_gone (map (left_for_good who) rs) ≡ true → (has_gone rs || is_key_among who (keys_in rs)) ≡ true)
        → (has_gone rs || (b || is_key_among who (keys_in rs))) ≡ true
    by true e k = or_true (has_gone rs)
    by false e k = k e
gone_left who (Gone y ss ∷ rs) h = refl

pub firm_left : (n : ℕ) (cs : List Cascade) (who : Who) (rs : List Ran) → FirmUpTo n cs who rs → FirmUpToGone n cs rs → FirmUpToGone n cs (map (left_for_good who) rs)
firm_left n cs who [] u h = tt
firm_left n cs who (Stands y c ss ∷ rs) u h = by (is_who y who) u.0 (firm_left n cs who rs u.1 h.1)
  where
    by : (b : Bool) → ((b || is_key_among who (keys_in rs)) ≡ true → IsFirm n cs y) → FirmUpToGone n cs (map (left_for_good who) rs) → FirmUpToGone n cs ((if b then Gone y ss else Stands y c ss) ∷ map (left_for_good who) rs)
    by true f g = (f refl, g)
    by false f g = (λ e. elim (or_cases (has_gone rs) (is_key_among who (keys_in rs)) (gone_left who rs e)) [ inl p ↦ h.0 p | inr q ↦ f q ], g)
firm_left n cs who (Gone y ss ∷ rs) u h = (h.0, firm_left n cs who rs u h.1)

-- where what is firm stays so
pub firm_each : (n m : ℕ) (cs ds : List Cascade) (rs : List Ran) → ((k : ℕ) → (k ≤ n) × (is_aborted k cs ≡ false) → (k ≤ m) × (is_aborted k ds ≡ false)) → FirmUpToGone n cs rs → FirmUpToGone m ds rs
firm_each n m cs ds [] f h = tt
firm_each n m cs ds (Stands (OfBatch k) c ss ∷ rs) f h = (λ e. f k (h.0 e), firm_each n m cs ds rs f h.1)
firm_each n m cs ds (Stands (OfAct t) c ss ∷ rs) f h = (λ e. tt, firm_each n m cs ds rs f h.1)
firm_each n m cs ds (Gone (OfBatch k) ss ∷ rs) f h = (f k h.0, firm_each n m cs ds rs f h.1)
firm_each n m cs ds (Gone (OfAct t) ss ∷ rs) f h = (tt, firm_each n m cs ds rs f h.1)

-- so a rollback cuts the end of the long schedule
none_gone : (rs : List Ran) → has_gone rs ≡ false → NoneGone rs
none_gone [] h = tt
none_gone (Stands y c ss ∷ rs) h = none_gone rs h
none_gone (Gone y ss ∷ rs) h = absurd (true≢false h)

firm_not_cut : (n : ℕ) (cs : List Cascade) (y : Who) → is_cut cs y ≡ true → IsFirm n cs y → ⊥
firm_not_cut n cs (OfBatch k) e f = true≢false (sym e ∙ f.1)
firm_not_cut n cs (OfAct t) e f = true≢false (sym e)

pub cut_is_end : (n : ℕ) (cs : List Cascade) (rs : List Ran) → FirmUpToGone n cs rs → CutIsEnd cs rs
cut_is_end n cs [] h = tt
cut_is_end n cs (Stands y c ss ∷ rs) h = (λ e. none_gone rs (false_from_ne_true (has_gone rs) (λ g. firm_not_cut n cs y e (h.0 g))), cut_is_end n cs rs h.1)
cut_is_end n cs (Gone y ss ∷ rs) h = cut_is_end n cs rs h.1

-- ---- a settled batch: all ahead of it are firm

-- what holds of all batches holds of one that stands there
pub at_key : (P : ℕ → Type 0) (k : ℕ) (rs : List Ran) → is_key_among (OfBatch k) (keys_in rs) ≡ true → AllByRecursion P (batches_in rs) → P k
at_key P k [] e h = absurd (true≢false (sym e))
at_key P k (Stands y c ss ∷ rs) e h = elim (or_cases (is_who y (OfBatch k)) (is_key_among (OfBatch k) (keys_in rs)) e) [
  | inl q ↦ (all_front P (k ∷ []) (batches_in rs) (subst (λ z. AllByRecursion P (batch_in z ++ batches_in rs)) (TrackLists.is_who_true y (OfBatch k) q) h)).0
  | inr q ↦ at_key P k rs q (all_back P (batch_in y) (batches_in rs) h)
]
at_key P k (Gone y ss ∷ rs) e h = at_key P k rs e (all_back P (batch_in y) (batches_in rs) h)

pub firm_up_to : (next n : ℕ) (cs : List Cascade) (ep tail k : ℕ) (rs : List Ran) → k ≤ n → is_aborted k cs ≡ false → AllByRecursion (FitsCell next cs ep tail) (batches_in rs) → Ascends (batches_in rs) → FirmUpTo n cs (OfBatch k) rs
firm_up_to next n cs ep tail k [] l a f h = tt
firm_up_to next n cs ep tail k (Stands (OfAct t) c ss ∷ rs) l a f h = (λ e. tt, firm_up_to next n cs ep tail k rs l a f h)
firm_up_to next n cs ep tail k (Stands (OfBatch x) c ss ∷ rs) l a f h = (own, firm_up_to next n cs ep tail k rs l a f.1 h.1)
  where
    own : ((x == k) || is_key_among (OfBatch k) (keys_in rs)) ≡ true → (x ≤ n) × (is_aborted x cs ≡ false)
    own e = elim (or_cases (x == k) (is_key_among (OfBatch k) (keys_in rs)) e) [
      | inl q ↦ let g : x ≡ k = eqb-true x k q in (omega (arith, g, l), rw g a)
      | inr q ↦
          let g : x < k = at_key (λ j. x < j) k rs q h.0 in
          let m = at_key (FitsCell next cs ep tail) k rs q f.1 in
          (omega (arith, g, l), false_from_ne_true (is_aborted x cs) (λ b. true≢false (sym (suffix x k cs b (omega (arith, g)) (omega (arith, f.0.aborted b, m.placed))) ∙ a)))
    ]
firm_up_to next n cs ep tail k (Gone (OfAct t) ss ∷ rs) l a f h = firm_up_to next n cs ep tail k rs l a f h
firm_up_to next n cs ep tail k (Gone (OfBatch x) ss ∷ rs) l a f h = firm_up_to next n cs ep tail k rs l a f.1 h.1

-- ---- the whole, event by event

pub same_batches : (next n : ℕ) (cs : List Cascade) (ep tail : ℕ) (rs rs' : List Ran) → batches_in rs' ≡ batches_in rs → FirmUpToGone n cs rs' → Places next n cs ep tail rs → Places next n cs ep tail rs'
same_batches next n cs ep tail rs rs' e f h = record { behind = h.behind; fit = rw e h.fit; ascends = rw e h.ascends; firm = f }

pub place_act : (next n : ℕ) (cs : List Cascade) (ep tail t : ℕ) (rs : List Ran) → Places next n cs ep tail rs → Places next n cs ep tail (rs ++ not_run (OfAct t) ∷ [])
place_act next n cs ep tail t rs h = same_batches next n cs ep tail rs _ (batches_join rs (not_run (OfAct t) ∷ []) ∙ append-nil (batches_in rs)) (firm_more n cs (OfAct t) rs h.firm) h

-- a batch of the cell's epoch, behind the tail
pub place_batch : (next n : ℕ) (cs : List Cascade) (ep tail k : ℕ) (rs : List Ran) → k < next → epoch_of k cs ≡ ep → tail < k → Places next n cs ep tail rs → Places next n cs ep k (rs ++ not_run (OfBatch k) ∷ [])
place_batch next n cs ep tail k rs l e m h =
    let below : AllByRecursion (λ j. j < k) (batches_in rs) = weaker (FitsCell next cs ep tail) (λ j. j < k) (batches_in rs) (λ j f. less j f) h.fit in
    record {
      behind = h.behind;
      fit = rw (batches_join rs (not_run (OfBatch k) ∷ [])) (all_join (FitsCell next cs ep k) (batches_in rs) (k ∷ []) (keys_all (batches_in rs) h.fit) (record { formed = l; placed = omega (arith, e); aborted = λ q. e; is_last = λ q. omega arith }, tt));
      ascends = rw (batches_join rs (not_run (OfBatch k) ∷ [])) (ascends_more k (batches_in rs) below h.ascends);
      firm = firm_more n cs (OfBatch k) rs h.firm;
    }
  where
    less : (j : ℕ) → FitsCell next cs ep tail j → j < k
    less j f = elim (cases_lt j k) [ inl a ↦ a | inr b ↦ absurd (omega (arith, b, m, f.is_last (omega (arith, f.placed, e, epoch_mono k j cs b)))) ]

    keys_all : (ks : List ℕ) → AllByRecursion (FitsCell next cs ep tail) ks → AllByRecursion (FitsCell next cs ep k) ks
    keys_all ks g = weaker (FitsCell next cs ep tail) (FitsCell next cs ep k) ks (λ j f. record { formed = f.formed; placed = f.placed; aborted = f.aborted; is_last = λ q. omega (arith, m, f.is_last q) }) g

-- where no aborted one stays
stay_fits : (next n : ℕ) (cs : List Cascade) (ep tail : ℕ) (rs : List Ran) → ep < length cs → AllByRecursion (FitsCell next cs ep tail) (batches_in rs) → FirmUpToGone n cs rs → AllByRecursion (FitsCell next cs (length cs) 0) (batches_in (long_staying cs rs))
stay_fits next n cs ep tail [] l f h = tt
stay_fits next n cs ep tail (Stands (OfAct t) c ss ∷ rs) l f h = stay_fits next n cs ep tail rs l f h.1
stay_fits next n cs ep tail (Stands (OfBatch k) c ss ∷ rs) l f h = by (is_aborted k cs) refl (stay_fits next n cs ep tail rs l f.1 h.1)
  where
    by : (b : Bool) → is_aborted k cs ≡ b → AllByRecursion (FitsCell next cs (length cs) 0) (batches_in (long_staying cs rs)) → AllByRecursion (FitsCell next cs (length cs) 0) (batches_in (if b then [] else Stands (OfBatch k) c ss ∷ long_staying cs rs))
    by true e g = tt
    by false e g = (record { formed = f.0.formed; placed = epochs.epoch_most k cs; aborted = λ q. absurd (true≢false (sym q ∙ e)); is_last = λ q. absurd (omega (arith, q, l, f.0.placed)) }, g)
stay_fits next n cs ep tail (Gone (OfAct t) ss ∷ rs) l f h = stay_fits next n cs ep tail rs l f h.1
stay_fits next n cs ep tail (Gone (OfBatch k) ss ∷ rs) l f h =
    (record { formed = f.0.formed; placed = epochs.epoch_most k cs; aborted = λ q. absurd (true≢false (sym q ∙ h.0.1)); is_last = λ q. absurd (omega (arith, q, l, f.0.placed)) }, stay_fits next n cs ep tail rs l f.1 h.1)

pub roll_back : (next n : ℕ) (cs : List Cascade) (ep tail : ℕ) (rs : List Ran) → ep < length cs → Places next n cs ep tail rs → Places next n cs (length cs) 0 (long_staying cs rs)
roll_back next n cs ep tail rs l h = record {
  behind = omega arith;
  fit = stay_fits next n cs ep tail rs l h.fit h.firm;
  ascends = stay_ascends cs rs h.ascends;
  firm = firm_staying n cs cs rs h.firm;
}

pub leave_batch : (next n : ℕ) (cs : List Cascade) (ep tail k : ℕ) (rs : List Ran) → k ≤ n → is_aborted k cs ≡ false → Places next n cs ep tail rs → Places next n cs ep tail (map (left_for_good (OfBatch k)) rs)
leave_batch next n cs ep tail k rs l a h =
    same_batches next n cs ep tail rs _ (batches_left (OfBatch k) rs) (firm_left n cs (OfBatch k) rs (firm_up_to next n cs ep tail k rs l a h.fit h.ascends) h.firm) h

-- a cascade, from a number above the last settled one up to the last formed one
pub cascade : (next n : ℕ) (cs : List Cascade) (c : Cascade) (ep tail : ℕ) (rs : List Ran) → c.upto ≡ next - 1 → n < c.first → AllByRecursion (λ d. d.first ≤ c.first) cs → Places next n cs ep tail rs → Places next n (cs ++ c ∷ []) ep tail rs
cascade next n cs c ep tail rs u l firsts h = record {
  behind = omega (arith, h.behind, Times.length_join cs (c ∷ []));
  fit = weaker (FitsCell next cs ep tail) (FitsCell next (cs ++ c ∷ []) ep tail) (batches_in rs) (λ k f. one k f) h.fit;
  ascends = h.ascends;
  firm = firm_each n n cs (cs ++ c ∷ []) rs (λ k f. (f.0, keys.aborted_more k cs c ∙ or_from (is_aborted k cs) (covers k c) f.1 (and_left (nat_le c.first k) (nat_le k c.upto) (lt-leb c.first k (omega (arith, f.0, l)))))) h.firm;
}
  where
    one : (k : ℕ) → FitsCell next cs ep tail k → FitsCell next (cs ++ c ∷ []) ep tail k
    one k f =
        let e : epoch_of k (cs ++ c ∷ []) ≡ epoch_of k cs = epochs.epoch_more k cs c (omega (arith, u, f.formed)) in
        record {
          formed = f.formed;
          placed = omega (arith, e, f.placed);
          aborted = λ q. e ∙ elim (cases_Bool (is_aborted k cs)) [
            | inl a ↦ f.aborted a
            | inr b ↦ elim (or_cases (is_aborted k cs) (covers k c) (sym (keys.aborted_more k cs c) ∙ q)) [
              | inl a ↦ f.aborted a
              | inr v ↦ full (epochs.epoch_all k cs (both_all (λ d. d.first ≤ c.first) (λ d. covers k d ≡ false) (λ d. d.upto < k) cs (λ d p q. past d p q (leb-true c.first k (and_parts (nat_le c.first k) (nat_le k c.upto) v).0)) firsts (keys.not_covered k cs b)))
            ]
          ];
          is_last = λ q. f.is_last (sym e ∙ q);
        }
      where
        full : epoch_of k cs ≡ length cs → epoch_of k cs ≡ ep
        full e = omega (arith, e, f.placed, h.behind)

        past : (d : Cascade) → d.first ≤ c.first → covers k d ≡ false → c.first ≤ k → d.upto < k
        past d p q l = elim (cases_lt d.upto k) [ inl u ↦ u | inr v ↦ absurd (true≢false (sym (and_from (nat_le d.first k) (nat_le k d.upto) (le-leb d.first k (omega (arith, p, l))) (le-leb k d.upto v)) ∙ q)) ]

pub settle : (next n m : ℕ) (cs : List Cascade) (ep tail : ℕ) (rs : List Ran) → n ≤ m → Places next n cs ep tail rs → Places next m cs ep tail rs
settle next n m cs ep tail rs l h = record { behind = h.behind; fit = h.fit; ascends = h.ascends; firm = firm_each n m cs cs rs (λ k f. (omega (arith, f.0, l), f.1)) h.firm }

pub form : (next n : ℕ) (cs : List Cascade) (ep tail : ℕ) (rs : List Ran) → Places next n cs ep tail rs → Places (next + 1) n cs ep tail rs
form next n cs ep tail rs h = record {
  behind = h.behind;
  fit = weaker (FitsCell next cs ep tail) (FitsCell (next + 1) cs ep tail) (batches_in rs) (λ k f. record { formed = omega (arith, f.formed); placed = f.placed; aborted = f.aborted; is_last = f.is_last }) h.fit;
  ascends = h.ascends;
  firm = h.firm;
}

pub none_among : (k : ℕ) (next n : ℕ) (cs : List Cascade) (ep tail : ℕ) (rs : List Ran) → epoch_of k cs ≡ ep → tail < k → Places next n cs ep tail rs → is_key_among (OfBatch k) (keys_in rs) ≡ false
none_among k next n cs ep tail rs e m h = false_from_ne_true (is_key_among (OfBatch k) (keys_in rs)) (λ q. omega (arith, m, (at_key (FitsCell next cs ep tail) k rs q h.fit).is_last e))
