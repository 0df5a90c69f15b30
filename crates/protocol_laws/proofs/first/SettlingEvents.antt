-- Settling and cascades over keys, event by event.
use Rattle.std.specs.Prelude.{◌≡◌, ◌≢◌, refl, ℕ, ◌+◌, ◌-◌, ◌<◌, ◌≤◌, ◌==◌, nat_le, Bool, true, false, ◌&&◌, ◌||◌, ◌⊎◌, List, [], ◌∷◌, ◌++◌, map}
use Rattle.std.specs.List.{AllByRecursion}
use Rattle.std.proofs.Common.{arith, sym, ap, subst, inl, inr, ◌∙◌}
use Rattle.std.proofs.lemmas.Bool.{eqb-true, eqb-false, leb-true, le-leb, and_from, or_left, or_right, or_cases, true≢false, cases_lt}
use Rattle.protocol.specs.Parts.{Stage, Formed, Committing, Settled, Cascade}
use Rattle.protocol.specs.Words.{covers, is_aborted, is_formed, is_committing, is_settled}
use Rattle.protocol_laws.proofs.first.SettlingKeys.{Key, IsIn, Rises, rises_more, rises_top, rises_within, one_key, is_over, OverBelow, Settle, in_more, in_front, in_map, mapped_in, rises_map, over_map, ascend_higher, none_covers, firsts, aborted_more, not_covered, ascend_more, over_at, over_from, over_more}
use Rattle.protocol_laws.proofs.first.Lists.{both_all, weaker}

-- ---- a batch is formed

pub new_key : ℕ → Key
new_key k = record { bid = k; stage = Formed; aborted = false }

pub new_is : (k : ℕ) → new_key k ≡ record { bid = k; stage = Formed; aborted = false }
unfolding new_key
new_is k = refl

pub form : (low next settled : ℕ) (cs : List Cascade) (xs : List Key) → Settle low next settled cs xs → Settle low (next + 1) settled cs (xs ++ new_key next ∷ [])
unfolding new_key
form low next settled cs xs h =
    let x : Key = record { bid = next; stage = Formed; aborted = false } in
    let within : settled + 1 ≤ next = elim h.reached [ inl e ↦ omega (arith, e, h.some, rises_top low next xs h.rises) | inr r ↦ omega (arith, r.3, (rises_within low next r.0 xs h.rises r.1).1) ] in
    record {
      some = h.some;
      rises = rises_more low next xs x refl h.rises;
      marked = λ y i. elim (in_more y x xs i) [ inl a ↦ h.marked y a | inr b ↦ subst (λ z. z.aborted ≡ is_aborted z.bid cs) b (sym (none_covers low next cs h.ascend)) ];
      formed = λ y i q. elim (in_more y x xs i) [ inl a ↦ h.formed y a q | inr b ↦ subst (λ z. is_formed z.stage ≡ true) b refl ];
      based = h.based;
      reached = elim h.reached [ inl e ↦ inl e | inr r ↦ inr (r.0, in_front r.0 x xs r.1, r.2, r.3) ];
      most = λ y i q. elim (in_more y x xs i) [ inl a ↦ h.most y a q | inr b ↦ absurd (true≢false (sym q ∙ sym (ap (λ z. is_settled z.stage) b))) ];
      below_settled = over_more (settled + 1) xs x within h.below_settled;
      below_committing = λ y i q. elim (in_more y x xs i) [
        | inl a ↦ over_more y.bid xs x (omega (arith, (rises_within low next y xs h.rises a).1)) (h.below_committing y a q)
        | inr b ↦ absurd (true≢false (sym q ∙ sym (ap (λ z. is_committing z.stage) b)))
      ];
      below_cascades = both_all (λ c. OverBelow c.first xs) (λ c. c.first < next) (λ c. OverBelow c.first (xs ++ x ∷ [])) cs (λ c a b. over_more c.first xs x (omega (arith, b)) a) h.below_cascades (firsts low next cs h.ascend);
      ascend = ascend_higher low next cs h.ascend;
    }

-- ---- a batch commits, or settles

pub stage_if : Bool → Stage → Key → Key
stage_if true st x = record x { stage = st }
stage_if false st x = x

pub restaged : ℕ → Stage → Key → Key
restaged k st x = stage_if (x.bid == k) st x

pub restaged_cons : (k : ℕ) (st : Stage) (x : Key) (xs : List Key) → stage_if (x.bid == k) st x ∷ map (restaged k st) xs ≡ map (restaged k st) (x ∷ xs)
unfolding restaged
restaged_cons k st x xs = refl

pub staged : (st : Stage) (x : Key) → record x { stage = st } ≡ stage_if true st x
unfolding stage_if
staged st x = refl

pub unstaged : (st : Stage) (x : Key) → x ≡ stage_if false st x
unfolding stage_if
unstaged st x = refl

restaged_bid : (k : ℕ) (st : Stage) (x : Key) → (restaged k st x).bid ≡ x.bid
unfolding restaged stage_if
restaged_bid k st x = by (x.bid == k)
  where
    by : (b : Bool) → (stage_if b st x).bid ≡ x.bid
    by true = refl
    by false = refl

-- another one stays, and this one is what it becomes
restaged_cases : (k : ℕ) (st : Stage) (x : Key) → ((x.bid ≡ k) × (restaged k st x ≡ record x { stage = st })) ⊎ ((x.bid ≢ k) × (restaged k st x ≡ x))
unfolding restaged stage_if
restaged_cases k st x = by (x.bid == k) refl
  where
    by : (b : Bool) → (x.bid == k) ≡ b → ((x.bid ≡ k) × (stage_if b st x ≡ record x { stage = st })) ⊎ ((x.bid ≢ k) × (stage_if b st x ≡ x))
    by true e = inl (eqb-true x.bid k e, refl)
    by false e = inr (eqb-false x.bid k e, refl)

pub not_settled : (y : Key) → is_formed y.stage ≡ true → is_settled y.stage ≡ false
not_settled y h = by y.stage h
  where
    by : (st : Stage) → is_formed st ≡ true → is_settled st ≡ false
    by Formed h = refl
    by Committing h = absurd (true≢false (sym h))
    by Settled h = absurd (true≢false (sym h))

committing_only : (y : Key) → is_committing y.stage ≡ true → is_settled y.stage ≡ false
committing_only y h = by y.stage h
  where
    by : (st : Stage) → is_committing st ≡ true → is_settled st ≡ false
    by Formed h = refl
    by Committing h = refl
    by Settled h = absurd (true≢false (sym h))

-- a key after the change, and where it comes from
record Was (k : ℕ) (st : Stage) (y0 : Key) (xs : List Key) (y : Key) : Type 0 where
  old : Key
  was_in : IsIn old xs
  bid : y.bid ≡ old.bid
  aborted : y.aborted ≡ old.aborted
  which : ((old ≡ y0) × (y.stage ≡ st)) ⊎ ((old.bid ≢ k) × (y ≡ old))

was : (low next k : ℕ) (st : Stage) (y0 : Key) (xs : List Key) → Rises low next xs → IsIn y0 xs → y0.bid ≡ k → (y : Key) → IsIn y (map (restaged k st) xs) → Was k st y0 xs y
was low next k st y0 xs r i0 e0 y i =
    let g = in_map (restaged k st) y xs i in
    elim (restaged_cases k st g.0) [
      | inl a ↦ record {
        old = g.0;
        was_in = g.1;
        bid = sym (ap (λ z. z.bid) g.2) ∙ ap (λ z. z.bid) a.1;
        aborted = sym (ap (λ z. z.aborted) g.2) ∙ ap (λ z. z.aborted) a.1;
        which = inl (one_key low next g.0 y0 xs r g.1 i0 (a.0 ∙ sym e0), sym (ap (λ z. z.stage) g.2) ∙ ap (λ z. z.stage) a.1);
      }
      | inr b ↦ record {
        old = g.0;
        was_in = g.1;
        bid = sym (ap (λ z. z.bid) g.2) ∙ ap (λ z. z.bid) b.1;
        aborted = sym (ap (λ z. z.aborted) g.2) ∙ ap (λ z. z.aborted) b.1;
        which = inr (b.0, sym g.2 ∙ b.1);
      }
    ]

-- who is over stays so, where the changed one was not settled before
stays_over : (low next k : ℕ) (st : Stage) (y0 : Key) (xs : List Key) → Rises low next xs → IsIn y0 xs → y0.bid ≡ k → is_settled y0.stage ≡ false → (x : Key) → IsIn x xs → is_over x ≡ true → is_over (restaged k st x) ≡ true
stays_over low next k st y0 xs r i0 e0 s0 x i h = elim (restaged_cases k st x) [
  | inl a ↦ let same : x ≡ y0 = one_key low next x y0 xs r i i0 (a.0 ∙ sym e0) in
      let ab : x.aborted ≡ true = elim (or_cases x.aborted (is_settled x.stage) h) [ inl p ↦ p | inr q ↦ absurd (true≢false (sym q ∙ (ap (λ z. is_settled z.stage) same ∙ s0))) ] in
      subst (λ z. (z.aborted || is_settled z.stage) ≡ true) (sym a.1) (or_left x.aborted (is_settled st) ab)
  | inr b ↦ subst (λ z. (z.aborted || is_settled z.stage) ≡ true) (sym b.1) h
]

pub commit : (low next settled k : ℕ) (cs : List Cascade) (xs : List Key) (y0 : Key) → IsIn y0 xs → y0.bid ≡ k → is_formed y0.stage ≡ true → y0.aborted ≡ false → OverBelow k xs
    → Settle low next settled cs xs → Settle low next settled cs (map (restaged k Committing) xs)
commit low next settled k cs xs y0 i0 e0 f0 a0 over h =
    let s0 = not_settled y0 f0 in
    let W = was low next k Committing y0 xs h.rises i0 e0 in
    let mono : (j : ℕ) → OverBelow j xs → OverBelow j (map (restaged k Committing) xs) = λ j. over_map (restaged k Committing) j xs (restaged_bid k Committing) (stays_over low next k Committing y0 xs h.rises i0 e0 s0) in
    record {
      some = h.some;
      rises = rises_map low next (restaged k Committing) xs (restaged_bid k Committing) h.rises;
      marked = λ y i. let g = W y i in g.aborted ∙ (h.marked g.old g.was_in ∙ ap (λ n. is_aborted n cs) (sym g.bid));
      formed = λ y i q. let g = W y i in elim g.which [ inl a ↦ absurd (true≢false (sym q ∙ (g.aborted ∙ (ap (λ z. z.aborted) a.0 ∙ a0)))) | inr b ↦ subst (λ z. is_formed z.stage ≡ true) (sym b.1) (h.formed g.old g.was_in (sym g.aborted ∙ q)) ];
      based = h.based;
      reached = elim h.reached [ inl e ↦ inl e | inr r ↦ inr (reach r.0 r.1 r.2 r.3 s0) ];
      most = λ y i q. let g = W y i in elim g.which [ inl a ↦ absurd (true≢false (sym q ∙ ap is_settled a.1)) | inr b ↦ omega (arith, g.bid, h.most g.old g.was_in (sym (ap (λ z. is_settled z.stage) b.1) ∙ q)) ];
      below_settled = mono (settled + 1) h.below_settled;
      below_committing = λ y i q. let g = W y i in elim g.which [
        | inl a ↦ subst (λ n. OverBelow n (map (restaged k Committing) xs)) (sym (g.bid ∙ (ap (λ z. z.bid) a.0 ∙ e0))) (mono k over)
        | inr b ↦ subst (λ n. OverBelow n (map (restaged k Committing) xs)) (sym g.bid) (mono g.old.bid (h.below_committing g.old g.was_in (sym (ap (λ z. is_committing z.stage) b.1) ∙ q)))
      ];
      below_cascades = weaker (λ c. OverBelow c.first xs) (λ c. OverBelow c.first (map (restaged k Committing) xs)) cs (λ c o. mono c.first o) h.below_cascades;
      ascend = h.ascend;
    }
  where
    reach : (z : Key) → IsIn z xs → is_settled z.stage ≡ true → z.bid ≡ settled → is_settled y0.stage ≡ false → (y : Key) × IsIn y (map (restaged k Committing) xs) × (is_settled y.stage ≡ true) × (y.bid ≡ settled)
    reach z iz sz ez s0 = elim (restaged_cases k Committing z) [
      | inl a ↦ absurd (true≢false (sym sz ∙ (ap (λ v. is_settled v.stage) (one_key low next z y0 xs h.rises iz i0 (a.0 ∙ sym e0)) ∙ s0)))
      | inr b ↦ (restaged k Committing z, mapped_in (restaged k Committing) z xs iz, ap (λ v. is_settled v.stage) b.1 ∙ sz, ap (λ v. v.bid) b.1 ∙ ez)
    ]

pub settle : (low next settled k : ℕ) (cs : List Cascade) (xs : List Key) (y0 : Key) → IsIn y0 xs → y0.bid ≡ k → is_committing y0.stage ≡ true → y0.aborted ≡ false
    → Settle low next settled cs xs → Settle low next k cs (map (restaged k Settled) xs)
settle low next settled k cs xs y0 i0 e0 f0 a0 h =
    let s0 = committing_only y0 f0 in
    let later : settled < k = above (is_over y0) refl (λ l. over_at (settled + 1) xs y0 h.below_settled i0 (omega (arith, l, e0))) (rw (a0, s0) refl) in
    let W = was low next k Settled y0 xs h.rises i0 e0 in
    let mono : (j : ℕ) → OverBelow j xs → OverBelow j (map (restaged k Settled) xs) = λ j. over_map (restaged k Settled) j xs (restaged_bid k Settled) (stays_over low next k Settled y0 xs h.rises i0 e0 s0) in
    record {
      some = h.some;
      rises = rises_map low next (restaged k Settled) xs (restaged_bid k Settled) h.rises;
      marked = λ y i. let g = W y i in g.aborted ∙ (h.marked g.old g.was_in ∙ ap (λ n. is_aborted n cs) (sym g.bid));
      formed = λ y i q. let g = W y i in elim g.which [ inl a ↦ absurd (true≢false (sym q ∙ (g.aborted ∙ (ap (λ z. z.aborted) a.0 ∙ a0)))) | inr b ↦ subst (λ z. is_formed z.stage ≡ true) (sym b.1) (h.formed g.old g.was_in (sym g.aborted ∙ q)) ];
      based = omega (arith, h.based, later);
      reached = inr (elim (restaged_cases k Settled y0) [ inl a ↦ (restaged k Settled y0, mapped_in (restaged k Settled) y0 xs i0, ap (λ v. is_settled v.stage) a.1, ap (λ v. v.bid) a.1 ∙ e0) | inr b ↦ absurd (b.0 e0) ]);
      most = λ y i q. let g = W y i in elim g.which [ inl a ↦ omega (arith, g.bid, ap (λ z. z.bid) a.0, e0) | inr b ↦ omega (arith, later, g.bid, h.most g.old g.was_in (sym (ap (λ z. is_settled z.stage) b.1) ∙ q)) ];
      below_settled = over_from (k + 1) (map (restaged k Settled) xs) (λ y i l. let g = W y i in elim g.which [
        | inl a ↦ rw a.1 (or_right y.aborted true refl)
        | inr b ↦ over_at k (map (restaged k Settled) xs) y (mono k (subst (λ n. OverBelow n xs) e0 (h.below_committing y0 i0 f0))) i (strictly y.bid k (omega (arith, l)) (λ e. b.0 (sym g.bid ∙ e)))
      ]);
      below_committing = λ y i q. let g = W y i in elim g.which [
        | inl a ↦ absurd (true≢false (sym q ∙ ap is_committing a.1))
        | inr b ↦ subst (λ n. OverBelow n (map (restaged k Settled) xs)) (sym g.bid) (mono g.old.bid (h.below_committing g.old g.was_in (sym (ap (λ z. is_committing z.stage) b.1) ∙ q)))
      ];
      below_cascades = weaker (λ c. OverBelow c.first xs) (λ c. OverBelow c.first (map (restaged k Settled) xs)) cs (λ c o. mono c.first o) h.below_cascades;
      ascend = h.ascend;
    }
  where
    strictly : (m n : ℕ) → m ≤ n → m ≢ n → m < n
    strictly m n l e = elim (cases_lt m n) [ inl a ↦ a | inr b ↦ absurd (e (omega (arith, l, b))) ]

    above : (b : Bool) → is_over y0 ≡ b → (k ≤ settled → is_over y0 ≡ true) → is_over y0 ≡ false → settled < k
    above b e f g = elim (cases_lt settled k) [ inl a ↦ a | inr c ↦ absurd (true≢false (sym (f c) ∙ g)) ]

-- ---- a batch is aborted, and takes all behind it along

pub taken_key : ℕ → Key → Key
taken_key k x = record x { aborted = x.aborted || nat_le k x.bid }

pub taken_cons : (k : ℕ) (x : Key) (xs : List Key) → record { bid = x.bid; stage = x.stage; aborted = x.aborted || nat_le k x.bid } ∷ map (taken_key k) xs ≡ map (taken_key k) (x ∷ xs)
unfolding taken_key
taken_cons k x xs = refl

pub abort : (low next settled k : ℕ) (cs : List Cascade) (xs : List Key) (y0 : Key) (c : Cascade) → c.first ≡ k → c.upto ≡ next - 1 → IsIn y0 xs → y0.bid ≡ k → is_formed y0.stage ≡ true → y0.aborted ≡ false → OverBelow k xs
    → Settle low next settled cs xs → Settle low next settled (cs ++ c ∷ []) (map (taken_key k) xs)
unfolding taken_key
abort low next settled k cs xs y0 c ef eu i0 e0 f0 a0 over h =
    let s0 : is_over y0 ≡ false = rw (a0, not_settled y0 f0) refl in
    let w0 = rises_within low next y0 xs h.rises i0 in
    let take : Key → Key = λ x. record x { aborted = x.aborted || nat_le k x.bid } in
    let mono : (j : ℕ) → OverBelow j xs → OverBelow j (map take xs) = λ j. over_map take j xs (λ x. refl) (λ x i q. elim (or_cases x.aborted (is_settled x.stage) q) [ inl a ↦ or_left (x.aborted || nat_le k x.bid) (is_settled x.stage) (or_left x.aborted (nat_le k x.bid) a) | inr b ↦ or_right (x.aborted || nat_le k x.bid) (is_settled x.stage) b ]) in
    let ups : AllByRecursion (λ d. d.upto < c.first) cs = both_all (λ d. covers k d ≡ false) (λ d. OverBelow d.first xs) (λ d. d.upto < c.first) cs (λ d p o. omega (arith, ef, past d p o s0)) (not_covered k cs (subst (λ n. is_aborted n cs ≡ false) e0 (sym (h.marked y0 i0) ∙ a0))) h.below_cascades in
    record {
      some = h.some;
      rises = rises_map low next take xs (λ x. refl) h.rises;
      marked = λ y i. let g = in_map take y xs i in subst (λ z. z.aborted ≡ is_aborted z.bid (cs ++ c ∷ [])) g.2 (marks g.0 (h.marked g.0 g.1) (rises_within low next g.0 xs h.rises g.1).1);
      formed = λ y i q. let g = in_map take y xs i in subst (λ z. is_formed z.stage ≡ true) g.2 (still_formed g.0 g.1 s0 (sym (ap (λ z. z.aborted) (sym g.2)) ∙ q));
      based = h.based;
      reached = elim h.reached [ inl e ↦ inl e | inr r ↦ inr (take r.0, mapped_in take r.0 xs r.1, r.2, r.3) ];
      most = λ y i q. let g = in_map take y xs i in omega (arith, ap (λ z. z.bid) g.2, h.most g.0 g.1 (ap (λ z. is_settled z.stage) g.2 ∙ q));
      below_settled = mono (settled + 1) h.below_settled;
      below_committing = λ y i q. let g = in_map take y xs i in subst (λ z. OverBelow z.bid (map take xs)) g.2 (mono g.0.bid (h.below_committing g.0 g.1 (ap (λ z. is_committing z.stage) g.2 ∙ q)));
      below_cascades = all_end (λ d. OverBelow d.first (map take xs)) cs c (weaker (λ d. OverBelow d.first xs) (λ d. OverBelow d.first (map take xs)) cs (λ d o. mono d.first o) h.below_cascades) (subst (λ n. OverBelow n (map take xs)) (sym ef) (mono k over));
      ascend = ascend_more low next cs c (omega (arith, ef, e0, w0.0)) (omega (arith, ef, eu, e0, w0.1)) (omega (arith, eu, w0.1)) ups h.ascend;
    }
  where
    past : (d : Cascade) → covers k d ≡ false → OverBelow d.first xs → is_over y0 ≡ false → d.upto < k
    past d p o s0 = elim (cases_lt k d.first) [
      | inl a ↦ absurd (true≢false (sym (over_at d.first xs y0 o i0 (omega (arith, a, e0))) ∙ s0))
      | inr b ↦ elim (cases_lt d.upto k) [ inl u ↦ u | inr v ↦ absurd (true≢false (sym (and_from (nat_le d.first k) (nat_le k d.upto) (le-leb d.first k b) (le-leb k d.upto v)) ∙ p)) ]
    ]

    and_true : (b : Bool) → (b && true) ≡ b
    and_true true = refl
    and_true false = refl

    marks : (x : Key) → x.aborted ≡ is_aborted x.bid cs → x.bid < next → (x.aborted || nat_le k x.bid) ≡ is_aborted x.bid (cs ++ c ∷ [])
    marks x e l = sym (aborted_more x.bid cs c ∙ (ap (λ b. b || covers x.bid c) (sym e) ∙ ap (λ b. x.aborted || b) (rw (ef, le-leb x.bid c.upto (omega (arith, eu, l))) (and_true (nat_le k x.bid)))))

    all_end : (P : Cascade → Type 0) (ds : List Cascade) (d : Cascade) → AllByRecursion P ds → P d → AllByRecursion P (ds ++ d ∷ [])
    all_end P [] d h p = (p, tt)
    all_end P (e ∷ es) d h p = (h.0, all_end P es d h.1 p)

    still_formed : (x : Key) → IsIn x xs → is_over y0 ≡ false → (x.aborted || nat_le k x.bid) ≡ true → is_formed x.stage ≡ true
    still_formed x i s0 q = elim (or_cases x.aborted (nat_le k x.bid) q) [ inl a ↦ h.formed x i a | inr b ↦ by x.stage refl (leb-true k x.bid b) ]
      where
        by : (st : Stage) → x.stage ≡ st → k ≤ x.bid → is_formed st ≡ true
        by Formed e l = refl
        by Settled e l = absurd (true≢false (sym (over_at (settled + 1) xs y0 h.below_settled i0 (omega (arith, e0, l, h.most x i (ap is_settled e)))) ∙ s0))
        by Committing e l = elim (cases_lt k x.bid) [
          | inl m ↦ absurd (true≢false (sym (over_at x.bid xs y0 (h.below_committing x i (ap is_committing e)) i0 (omega (arith, m, e0))) ∙ s0))
          | inr n ↦ absurd (true≢false (sym f0 ∙ (sym (ap (λ z. is_formed z.stage) (one_key low next x y0 xs h.rises i i0 (omega (arith, l, n, e0)))) ∙ ap is_formed e)))
        ]
