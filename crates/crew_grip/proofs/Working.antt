-- One part more is held, or one less.
use Rattle.std.proofs.Common.{◌≡◌, ℕ, ◌+◌, ◌<◌, ◌≤◌, true, inl, inr, List, length, slice_set, Option, None, Some, is_some, ap, sym, subst, refl, ◌∙◌, arith, true≢false, lt_of_not-le}
use mathlib.Core.Logic.{dite}
use native.Mathlib.Decide.{dec_le}
use Rattle.std.proofs.lemmas.Bool.Decides.{eqb_tells}
use Rattle.std.proofs.lemmas.List.{length-set}
use Rattle.std.proofs.lemmas.Option.{slice_get_within}
use Rattle.aml_slice.specs.Controls.{Rest}
use Rattle.crew_parts.specs.Acts.{MayDo, touched}
use Rattle.crew_parts.specs.Crews.{AreFirstShares, Stands}
use Rattle.crew_parts.specs.Shares.{ShareState}
use Rattle.crew_parts.specs.declared.acts.Act.{Act}
use Rattle.protocol.specs.Fixed.{Fixed}
use Rattle.protocol.specs.Parts.{Machine}
use Rattle.protocol.specs.Runs.{reached}
use Rattle.snap_hand.specs.Hands.{Parts, IsHandOf}
use Rattle.snap_hand.specs.Shown.{Shown, Belongs, IsPartOf, part_at, places, with_part, without}
use Rattle.snap_hand.specs.Tables.{fixed_of}
use Rattle.snap_hand.specs.declared.tables.Tables.{Tables}
use Rattle.turn_table.specs.Places.{Ascending, at, put_at}
use Rattle.turn_table.specs.Runs.{Fits}
use Rattle.turn_table.specs.Views.{lost}
use Rattle.turn_table.specs.declared.limits.TheConstants.{MOST_ENTRIES}
use Rattle.turn_table.specs.declared.views.View.{View}
use Rattle.crew_grip.specs.Grips.{GripState, IsGripOf, beside_in, joined, part_count, part_in, share_at}
use Rattle.crew_grip.proofs.ByNumber.{set_here, set_else, set_none}
use Rattle.turn_table.proofs.ByPlace.{put_here, put_else}
use Rattle.crew_grip.proofs.HandsHold.{part_is, places_many}

module _ (w : Fixed Rest) (held : List (Option ShareState)) (g : GripState) (grip : IsGripOf w held g) (i : ℕ) where
  -- with this share
  pub with_share : (x : ShareState) (hand : Parts) → i < part_count w → IsHandOf w hand → places hand ≡ slice_set (places g.hand) i (Some x.part)
      → IsGripOf w (put_at held i (Some x)) (record { hand = hand; besides = slice_set g.besides i (Some x.beside) })
  with_share x hand within of put = record {
    places = of;
    many = length-set g.besides i (Some x.beside) ∙ grip.many;
    parts = λ j. part_is hand j ∙ (ap (λ ps. at ps j) put ∙ elim (eqb_tells i j) [
      | inl h ↦ subst (λ k. at (slice_set (places g.hand) i (Some x.part)) k ≡ part_in (at (put_at held i (Some x)) k)) h.1
          (set_here (places g.hand) i (Some x.part) (omega (arith, within, places_many w g.hand grip.places)) ∙ sym (ap part_in (put_here held i (Some x))))
      | inr h ↦ set_else (places g.hand) i j (Some x.part) h.1 ∙ (sym (part_is g.hand j) ∙ (grip.parts j ∙ sym (ap part_in (put_else held i j (Some x) (λ e. h.1 (sym e))))))
    ]);
    besides = λ j. elim (eqb_tells i j) [
      | inl h ↦ subst (λ k. at (slice_set g.besides i (Some x.beside)) k ≡ beside_in (at (put_at held i (Some x)) k)) h.1
          (set_here g.besides i (Some x.beside) (omega (arith, within, grip.many)) ∙ sym (ap beside_in (put_here held i (Some x))))
      | inr h ↦ set_else g.besides i j (Some x.beside) h.1 ∙ (grip.besides j ∙ sym (ap beside_in (put_else held i j (Some x) (λ e. h.1 (sym e)))))
    ];
  }

  -- without what was there
  pub without_share : (hand : Parts) → IsHandOf w hand → places hand ≡ slice_set (places g.hand) i None
      → IsGripOf w (put_at held i None) (record { hand = hand; besides = slice_set g.besides i None })
  without_share hand of put = record {
    places = of;
    many = length-set g.besides i None ∙ grip.many;
    parts = λ j. part_is hand j ∙ (ap (λ ps. at ps j) put ∙ elim (eqb_tells i j) [
      | inl h ↦ subst (λ k. at (slice_set (places g.hand) i None) k ≡ part_in (at (put_at held i None) k)) h.1
          (set_none (places g.hand) i ∙ sym (ap part_in (put_here held i None)))
      | inr h ↦ set_else (places g.hand) i j None h.1 ∙ (sym (part_is g.hand j) ∙ (grip.parts j ∙ sym (ap part_in (put_else held i j None (λ e. h.1 (sym e))))))
    ]);
    besides = λ j. elim (eqb_tells i j) [
      | inl h ↦ subst (λ k. at (slice_set g.besides i None) k ≡ beside_in (at (put_at held i None) k)) h.1
          (set_none g.besides i ∙ sym (ap beside_in (put_here held i None)))
      | inr h ↦ set_else g.besides i j None h.1 ∙ (grip.besides j ∙ sym (ap beside_in (put_else held i j None (λ e. h.1 (sym e)))))
    ];
  }

  -- what is held there
  pub share_is : share_at g i ≡ at held i
  share_is = ap (λ o. joined o (at g.besides i)) (grip.parts i) ∙ (ap (joined (part_in (at held i))) (grip.besides i) ∙ same (at held i)) where
    same : (o : Option ShareState) → joined (part_in o) (beside_in o) ≡ o
    same None = refl
    same (Some x) = refl

  -- a share is held where something stands beside a part
  pub share_there : is_some (at g.besides i) ≡ true → (x : ShareState) × (share_at g i ≡ Some x)
  share_there some = from (at held i) (sym (ap is_some (grip.besides i)) ∙ some) share_is where
    from : (o : Option ShareState) → is_some (beside_in o) ≡ true → share_at g i ≡ o → (x : ShareState) × (share_at g i ≡ Some x)
    from None e is = absurd (true≢false (sym e))
    from (Some x) e is = (x, is)

  pub nothing_held : at g.besides i ≡ None → at held i ≡ None
  nothing_held e = from (at held i) (sym (grip.besides i) ∙ e) where
    from : (o : Option ShareState) → beside_in o ≡ None → o ≡ None
    from None f = refl
    from (Some x) f = absurd (cc f)

  pub no_part : at g.besides i ≡ None → part_at g.hand i ≡ None
  no_part e = grip.parts i ∙ ap part_in (nothing_held e)

-- what is not held any more
pub still_stands : (w : Fixed Rest) (start : List ShareState) (held new : List (Option ShareState)) → Stands w start held → ((i : ℕ) (x : ShareState) → at new i ≡ Some x → at held i ≡ Some x) → Stands w start new
still_stands w start held new st fewer = record { events = st.events; now = st.now; come = st.come; lead = st.lead; held = λ i x e. st.held i x (fewer i x e) }

pub fewer : (held : List (Option ShareState)) (i j : ℕ) (x : ShareState) → at (put_at held i None) j ≡ Some x → at held j ≡ Some x
fewer held i j x e = elim (eqb_tells i j) [
  | inl h ↦ absurd (none_some x (sym (subst (λ k. at (put_at held i None) k ≡ None) h.1 (put_here held i None)) ∙ e))
  | inr h ↦ sym (put_else held i j None (λ e. h.1 (sym e))) ∙ e
] where
  none_some : (x : ShareState) → None ≡ Some x → ⊥
  none_some x q = cc q

pub stays_none : (held : List (Option ShareState)) (i j : ℕ) → at held j ≡ None → at (put_at held i None) j ≡ None
stays_none held i j e = elim (eqb_tells i j) [
  | inl h ↦ subst (λ k. at (put_at held i None) k ≡ None) h.1 (put_here held i None)
  | inr h ↦ put_else held i j None (λ e. h.1 (sym e)) ∙ e
]

-- no part has a number past all parts
pub none_past : (w : Fixed Rest) (start : List ShareState) (held : List (Option ShareState)) (n : ℕ) → Stands w start held → length start ≡ n → (i : ℕ) → n ≤ i → at held i ≡ None
none_past w start held n st many i past = from (at held i) refl where
  from : (o : Option ShareState) → at held i ≡ o → o ≡ None
  from None e = refl
  from (Some x) e = (let within = slice_get_within st.now i x (st.held i x e) in absurd (omega (arith, past, many, st.come.many, within)))

-- one number more
pub given_next : (old new : List (Option ShareState)) (n : ℕ) → ((i : ℕ) → i < n → at old i ≡ None) → at new n ≡ None → ((i : ℕ) → at old i ≡ None → at new i ≡ None) → (i : ℕ) → i < n + 1 → at new i ≡ None
given_next old new n before given others i lt = dite (dec_le n i)
    (λ le. (let same : n ≡ i = omega (arith, le, lt) in subst (λ k. at new k ≡ None) same given))
    (λ nle. others i (before i (lt_of_not-le nle)))

-- all of them
pub all_given : (w : Fixed Rest) (start : List ShareState) (held : List (Option ShareState)) (n m : ℕ) → Stands w start held → length start ≡ n → ((i : ℕ) → i < m → at held i ≡ None) → n ≤ m → (i : ℕ) → at held i ≡ None
all_given w start held n m st many before past i = dite (dec_le m i)
    (λ le. none_past w start held n st many i (omega (arith, le, past)))
    (λ nle. before i (lt_of_not-le nle))

-- ---- in what the code has at hand

pub took : (w : Fixed Rest) (held : List (Option ShareState)) (g g1 : GripState) (i : ℕ) (x : ShareState) (s : Machine Rest)
    → ((w : Fixed Rest) (h : Parts) (s : Machine Rest) (i : ℕ) (p : Shown) → IsHandOf w h → IsPartOf w s i p → IsHandOf w (with_part i p h))
    → ((w : Fixed Rest) (h : Parts) (s : Machine Rest) (i : ℕ) (p : Shown) → IsHandOf w h → IsPartOf w s i p → Belongs h i p)
    → ((h : Parts) (i : ℕ) (p : Shown) → Belongs h i p → places (with_part i p h) ≡ slice_set (places h) i (Some p))
    → IsGripOf w held g → i < part_count w → IsPartOf w s i x.part → g1 ≡ record { hand = with_part i x.part g.hand; besides = slice_set g.besides i (Some x.beside) }
    → IsGripOf w (put_at held i (Some x)) g1
took w held g g1 i x s stays belongs sets grip within part is =
    subst (IsGripOf w (put_at held i (Some x))) (sym is)
    (with_share w held g grip i x (with_part i x.part g.hand) within (stays w g.hand s i x.part grip.places part) (sets g.hand i x.part (belongs w g.hand s i x.part grip.places part)))

pub gave : (w : Fixed Rest) (held : List (Option ShareState)) (g g1 : GripState) (i : ℕ)
    → ((w : Fixed Rest) (h : Parts) (i : ℕ) → IsHandOf w h → IsHandOf w (without i h))
    → ((h : Parts) (i : ℕ) → places (without i h) ≡ slice_set (places h) i None)
    → IsGripOf w held g → g1 ≡ record { hand = without i g.hand; besides = slice_set g.besides i None } → IsGripOf w (put_at held i None) g1
gave w held g g1 i stays sets grip is =
    subst (IsGripOf w (put_at held i None)) (sym is) (without_share w held g grip i (without i g.hand) (stays w g.hand i grip.places) (sets g.hand i))

-- what a pass knows, said of the table's own tables
pub stands_now : (t u : Tables) → t ≡ u
    → ((start : List ShareState) (held : List (Option ShareState)) (entries : List (ℕ × Act)) → AreFirstShares (fixed_of t) start → Fits (touched t) (MayDo t) start held entries → Stands (fixed_of t) start held)
    → (start : List ShareState) (held : List (Option ShareState)) (entries : List (ℕ × Act)) → AreFirstShares (fixed_of u) start → Fits (touched u) (MayDo u) start held entries → Stands (fixed_of u) start held
stands_now t u same law =
    subst (λ v. (start : List ShareState) (held : List (Option ShareState)) (entries : List (ℕ × Act)) → AreFirstShares (fixed_of v) start → Fits (touched v) (MayDo v) start held entries → Stands (fixed_of v) start held) same law

-- what is held of a run is a part of its state
pub part_of_run : (w : Fixed Rest) (start : List ShareState) (held : List (Option ShareState)) (i : ℕ) (x : ShareState) → (st : Stands w start held) → at held i ≡ Some x → IsPartOf w (reached w st.events) i x.part
part_of_run w start held i x st here = st.come.parts i x (st.held i x here)

-- what was given back is held no more, and all else as before
pub gave_stands : (w : Fixed Rest) (start : List ShareState) (held new : List (Option ShareState)) (i : ℕ) → Stands w start held → new ≡ put_at held i None → Stands w start new
gave_stands w start held new i st is = subst (Stands w start) (sym is) (still_stands w start held (put_at held i None) st (λ j x e. fewer held i j x e))

-- and so it is of the acts that have led to that
pub gave_fits : (t : Tables) (start : List ShareState) (v u : View ShareState Act) (i : ℕ) → Fits (touched t) (MayDo t) start v.held v.entries → u ≡ lost v i → Fits (touched t) (MayDo t) start u.held u.entries
gave_fits t start v u i fits is =
    subst (λ (x : View ShareState Act). Fits (touched t) (MayDo t) start x.held x.entries) (sym is) (fits.0, fits.1, fits.2, λ j p e. fits.3 j p (fewer v.held i j p e), fits.4)

-- and its pass has room
pub has_room : (t u : Tables) → t ≡ u
    → ((start : List ShareState) (held : List (Option ShareState)) (entries : List (ℕ × Act)) → AreFirstShares (fixed_of t) start → Fits (touched t) (MayDo t) start held entries → Ascending entries → length entries < MOST_ENTRIES)
    → (start : List ShareState) (held : List (Option ShareState)) (entries known : List (ℕ × Act)) → AreFirstShares (fixed_of u) start → Fits (touched u) (MayDo u) start held known → entries ≡ known → Ascending entries
    → length entries < MOST_ENTRIES
has_room t u same law start held entries known begins fits is rises =
    subst (λ v. AreFirstShares (fixed_of v) start → Fits (touched v) (MayDo v) start held entries → length entries < MOST_ENTRIES) same (λ b f. law start held entries b f rises)
    begins (subst (Fits (touched u) (MayDo u) start held) (sym is) fits)
