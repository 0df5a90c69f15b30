-- What is asked again, taken out and put in makes the allowed events after an event.
use Rattle.std.proofs.Common.{◌≡◌, ℕ, zero, suc, ◌+◌, ◌<◌, ◌≤◌, get_or, slice_index_or, ◌==◌, Bool, true, false, Contains, ◌↔◌, ◌⊎◌, List, [], ◌∷◌, ◌++◌, length, map, take, refl, sym, ap, subst, inl, inr, ◌∙◌, arith}
use Rattle.std.specs.Prelude.{◌||◌, Option, Some, None}
use Rattle.std.specs.List.{list_any}
use Rattle.std.proofs.lemmas.Bool.{and_left, and_right, eqb-true, eq-eqb, or_cases, or_from, or_left, or_right, true≢false}
use Rattle.std.proofs.lemmas.List.{map-append, map_more, take_all, take_more}
use Rattle.std.proofs.lemmas.List.Folds.{list_any-append}
use Rattle.std.proofs.lemmas.List.Elements.{Contains-append_cases, Contains-append_left, Contains-append_right}
use Rattle.aml_slice.specs.Controls.{Rest}
use Rattle.core_events.specs.Meant.{event_meant}
use Rattle.core_events.specs.declared.events.Event as code
use Rattle.snap_hand.specs.core_rows.OnRuns.{HasRun}
use Rattle.protocol.specs.Conditions.{IsAllowed, refusal}
use Rattle.protocol.specs.Effects.{after}
use Rattle.protocol.specs.Events.{Event}
use Rattle.protocol.specs.Fixed.{Fixed}
use Rattle.protocol.specs.Laws.{AfterEveryRun, OfEveryRun}
use Rattle.protocol.specs.Parts.{Machine}
use Rattle.protocol.specs.Schedule.{AscendByRank, IsEnabled}
use Rattle.protocol_ready.specs.Ready.{put, without}
use Rattle.protocol_ready.specs.Refusing.{IsRenewed, RefusesItself, RenewedAreEnabled, may_refuse}
use Rattle.protocol_ready.proofs.Listing.{from_filter, from_has, has_filter, to_has}
use Rattle.protocol_ready.specs.Telling.{PartsTell}
use Rattle.protocol_ready.specs.Touched.{is_touched}
use Rattle.ready_list.specs.Order.{first_of, kind_of}
use Rattle.ready_list.specs.Reaches.{is_among, is_reached}
use Rattle.ready_renewal.specs.Asked.{AreAsked, AreRefused, IsAllowedOn, IsAsked, IsPutIn, IsRefusedOn, IsSettled, IsWith, IsWithAll, IsWithout, is_of, of_kind, of_kinds}
use Rattle.snap_hand.specs.Hands.{Parts}
use Rattle.ready_news.specs.New.{IsBehind, IsForeseen, is_new}

-- ---- lists

one_only : (y f : Event) → Contains (y ∷ []) f → f ≡ y
one_only y f c = at c.0 c.1 c.2
  where
    at : (i : ℕ) → i < length (y ∷ []) → slice_index_or (y ∷ []) i f ≡ f → f ≡ y
    at zero h e = sym e
    at (suc i) h e = absurd (omega (arith, h))

just_one : (y : Event) → Contains (y ∷ []) y
just_one y = (0, omega arith, refl)

pub none_in : (f : Event) → Contains [] f → ⊥
none_in f c = omega (arith, c.1)

-- of one more of those that are gone over
more_cases : (xs : List code.Event) (i : ℕ) (x : code.Event) (f : Event) → i < length xs → x ≡ get_or xs i x → Contains (map event_meant (take (i + 1) xs)) f
    → Contains (map event_meant (take i xs)) f ⊎ (f ≡ event_meant x)
more_cases xs i x f within is c = elim (Contains-append_cases (map event_meant (take i xs)) (event_meant (get_or xs i x) ∷ []) f (subst (λ v. Contains v f) (map_more event_meant xs i x within) c)) [
  | inl a ↦ inl a
  | inr b ↦ inr (one_only (event_meant (get_or xs i x)) f b ∙ ap event_meant (sym is))
]

more_left : (xs : List code.Event) (i : ℕ) (x : code.Event) (f : Event) → i < length xs → Contains (map event_meant (take i xs)) f → Contains (map event_meant (take (i + 1) xs)) f
more_left xs i x f within c = subst (λ v. Contains v f) (sym (map_more event_meant xs i x within)) (Contains-append_left (map event_meant (take i xs)) (event_meant (get_or xs i x) ∷ []) f c)

more_last : (xs : List code.Event) (i : ℕ) (x : code.Event) → i < length xs → x ≡ get_or xs i x → Contains (map event_meant (take (i + 1) xs)) (event_meant x)
more_last xs i x within is =
    subst (λ v. Contains v (event_meant x)) (sym (map_more event_meant xs i x within))
    (Contains-append_right (map event_meant (take i xs)) (event_meant (get_or xs i x) ∷ []) (event_meant x) (subst (λ y. Contains (event_meant y ∷ []) (event_meant x)) is (just_one (event_meant x))))

-- ---- what is taken out

pub none_out : (es : List Event) → IsWithout [] es es
none_out es = record { only = λ f c. (c, none_in f); kept = λ f c. inl c; ascends = λ a. a }

pub one_out : (xs : List code.Event) (i : ℕ) (x : code.Event) (old list new : List Event) → i < length xs → x ≡ get_or xs i x
    → ((e : Event) (es : List Event) (f : Event) → Contains (without e es) f → Contains es f × (f ≡ e → ⊥))
    → ((e : Event) (es : List Event) (f : Event) → Contains es f → Contains (without e es) f ⊎ (f ≡ e))
    → ((e : Event) (es : List Event) → AscendByRank es → AscendByRank (without e es))
    → IsWithout (map event_meant (take i xs)) old list → new ≡ without (event_meant x) list → IsWithout (map event_meant (take (i + 1) xs)) old new
one_out xs i x old list new within is others kept order so_far same = subst (IsWithout (map event_meant (take (i + 1) xs)) old) (sym same) (record {
  only = λ f c.
      let r = others (event_meant x) list f c in
      let p = so_far.only f r.0 in
      (p.0, λ g. elim (more_cases xs i x f within is g) [ inl a ↦ p.1 a | inr b ↦ r.1 b ]);
  kept = λ f c. elim (so_far.kept f c) [
    | inl a ↦ elim (kept (event_meant x) list f a) [ inl b ↦ inl b | inr q ↦ inr (subst (Contains (map event_meant (take (i + 1) xs))) (sym q) (more_last xs i x within is)) ]
    | inr b ↦ inr (more_left xs i x f within b)
  ];
  ascends = λ a. order (event_meant x) list (so_far.ascends a);
})

pub all_out : (xs : List code.Event) (i : ℕ) (old new : List Event) → length xs ≤ i → IsWithout (map event_meant (take i xs)) old new → IsWithout (map event_meant xs) old new
all_out xs i old new past so_far = subst (λ v. IsWithout (map event_meant v) old new) (take_all i xs past) so_far

-- ---- what is put in

pub looked_put : (w : Fixed Rest) (h : Parts) (e : Event) (old new : List Event) → new ≡ put e old
    → ((e : Event) (es : List Event) (f : Event) → Contains (put e es) f ↔ ((f ≡ e) ⊎ Contains es f))
    → ((e : Event) (es : List Event) → AscendByRank es → AscendByRank (put e es))
    → IsAllowedOn w h e → IsPutIn w h e old new
looked_put w h e old new same one order allowed = subst (λ v. IsPutIn w h e old v) (sym same) (record {
  only = λ f c. elim ((one e old f).0 c) [ inl s ↦ inr (subst (IsAllowedOn w h) (sym s) allowed) | inr i ↦ inl i ];
  kept = λ f c. (one e old f).1 (inr c);
  due = inl ((one e old e).1 (inl refl));
  ascends = order e old;
})

pub looked_none : (w : Fixed Rest) (h : Parts) (e : Event) (old : List Event) → IsRefusedOn w h e → IsPutIn w h e old old
looked_none w h e old refused = record { only = λ f c. inl c; kept = λ f c. c; due = inr refused; ascends = λ a. a }

pub with_none : (w : Fixed Rest) (h : Parts) (es : List Event) → IsWith w h [] es es
with_none w h es = record { only = λ f c. inl c; kept = λ f c. c; due = λ f c. absurd (none_in f c); ascends = λ a. a }

pub one_in : (w : Fixed Rest) (h : Parts) (xs : List code.Event) (i : ℕ) (x : code.Event) (old list new : List Event) → i < length xs → x ≡ get_or xs i x
    → IsWith w h (map event_meant (take i xs)) old list → IsPutIn w h (event_meant x) list new → IsWith w h (map event_meant (take (i + 1) xs)) old new
one_in w h xs i x old list new within is so_far looked = record {
  only = λ f c. elim (looked.only f c) [ inl a ↦ so_far.only f a | inr allowed ↦ inr allowed ];
  kept = λ f c. looked.kept f (so_far.kept f c);
  due = λ f c. elim (more_cases xs i x f within is c) [
    | inl a ↦ elim (so_far.due f a) [ inl b ↦ inl (looked.kept f b) | inr r ↦ inr r ]
    | inr q ↦ subst (λ g. Contains new g ⊎ IsRefusedOn w h g) (sym q) looked.due
  ];
  ascends = λ a. looked.ascends (so_far.ascends a);
}

pub all_in : (w : Fixed Rest) (h : Parts) (xs : List code.Event) (i : ℕ) (old new : List Event) → length xs ≤ i → IsWith w h (map event_meant (take i xs)) old new → IsWith w h (map event_meant xs) old new
all_in w h xs i old new past so_far = subst (λ v. IsWith w h (map event_meant v) old new) (take_all i xs past) so_far

-- ---- what is put in with none asked

pub with_nothing : (es : List Event) → IsWithAll [] es es
with_nothing es = record { only = λ f c. inl c; kept = λ f c. c; all = λ f c. absurd (none_in f c); ascends = λ a. a }

pub one_put : (xs : List code.Event) (i : ℕ) (x : code.Event) (old list new : List Event) → i < length xs → x ≡ get_or xs i x
    → ((e : Event) (es : List Event) (f : Event) → Contains (put e es) f ↔ ((f ≡ e) ⊎ Contains es f))
    → ((e : Event) (es : List Event) → AscendByRank es → AscendByRank (put e es))
    → IsWithAll (map event_meant (take i xs)) old list → new ≡ put (event_meant x) list → IsWithAll (map event_meant (take (i + 1) xs)) old new
one_put xs i x old list new within is one order so_far same = subst (IsWithAll (map event_meant (take (i + 1) xs)) old) (sym same) (record {
  only = λ f c. elim ((one (event_meant x) list f).0 c) [
    | inl q ↦ inr (subst (Contains (map event_meant (take (i + 1) xs))) (sym q) (more_last xs i x within is))
    | inr a ↦ elim (so_far.only f a) [ inl b ↦ inl b | inr b ↦ inr (more_left xs i x f within b) ]
  ];
  kept = λ f c. (one (event_meant x) list f).1 (inr (so_far.kept f c));
  all = λ f c. elim (more_cases xs i x f within is c) [ inl a ↦ (one (event_meant x) list f).1 (inr (so_far.all f a)) | inr q ↦ (one (event_meant x) list f).1 (inl q) ];
  ascends = λ a. order (event_meant x) list (so_far.ascends a);
})

pub all_put : (xs : List code.Event) (i : ℕ) (old new : List Event) → length xs ≤ i → IsWithAll (map event_meant (take i xs)) old new → IsWithAll (map event_meant xs) old new
all_put xs i old new past so_far = subst (λ v. IsWithAll (map event_meant v) old new) (take_all i xs past) so_far

-- ---- what is refused

pub not_reached : (w : Fixed Rest) (h : Parts) (e f : Event) (gone : List Event) → may_refuse e f ≡ false → IsAsked w h e f gone gone
not_reached w h e f gone no_way = record { out = λ g c. inl c; kept = λ g c. c; asked = inr (inr no_way) }

pub not_asked : (w : Fixed Rest) (h : Parts) (e f : Event) (gone : List Event) → f ≡ e → IsAsked w h e f gone gone
not_asked w h e f gone same = record { out = λ g c. inl c; kept = λ g c. c; asked = inr (inl same) }

pub still_allowed : (w : Fixed Rest) (h : Parts) (e f : Event) (gone : List Event) → IsAllowedOn w h f → IsAsked w h e f gone gone
still_allowed w h e f gone allowed = record { out = λ g c. inl c; kept = λ g c. c; asked = inl (inr allowed) }

pub now_gone : (w : Fixed Rest) (h : Parts) (e : Event) (f : code.Event) (gone new : List code.Event) → new ≡ gone ++ f ∷ [] → IsRefusedOn w h (event_meant f) → IsAsked w h e (event_meant f) (map event_meant gone) (map event_meant new)
now_gone w h e f gone new same refused = subst (λ v. IsAsked w h e (event_meant f) (map event_meant gone) v) (sym (ap (map event_meant) same ∙ mapped gone)) (record {
  out = λ g c. elim (Contains-append_cases (map event_meant gone) (event_meant f ∷ []) g c) [ inl a ↦ inl a | inr b ↦ inr (subst (IsRefusedOn w h) (sym (one_only (event_meant f) g b)) refused) ];
  kept = λ g c. Contains-append_left (map event_meant gone) (event_meant f ∷ []) g c;
  asked = inl (inl (Contains-append_right (map event_meant gone) (event_meant f ∷ []) (event_meant f) (just_one (event_meant f))));
})
  where
    mapped : (xs : List code.Event) → map event_meant (xs ++ f ∷ []) ≡ map event_meant xs ++ event_meant f ∷ []
    mapped [] = refl
    mapped (x ∷ xs) = rw (mapped xs) refl

-- what was asked for again goes on as it was while more is
raised : (w : Fixed Rest) (h : Parts) (e f : Event) (gone new : List Event) → (Contains gone f → Contains new f) → IsSettled w h e f gone → IsSettled w h e f new
raised w h e f gone new kept (inl (inl c)) = inl (inl (kept c))
raised w h e f gone new kept (inl (inr allowed)) = inl (inr allowed)
raised w h e f gone new kept (inr no_way) = inr no_way

pub none_asked : (w : Fixed Rest) (h : Parts) (e : Event) (gone : List Event) → AreAsked w h e [] gone gone
none_asked w h e gone = record { out = λ g c. inl c; kept = λ g c. c; asked = λ f c. absurd (none_in f c) }

pub none_of_none : (w : Fixed Rest) (h : Parts) (e : Event) (xs : List code.Event) (gone : List Event) → length xs ≡ 0 → AreAsked w h e (map event_meant xs) gone gone
none_of_none w h e [] gone q = none_asked w h e gone
none_of_none w h e (x ∷ xs) gone q = absurd (omega (arith, q))

pub one_asked : (w : Fixed Rest) (h : Parts) (e : Event) (xs : List code.Event) (i : ℕ) (x : code.Event) (old gone new : List Event) → i < length xs → x ≡ get_or xs i x
    → AreAsked w h e (map event_meant (take i xs)) old gone → IsAsked w h e (event_meant x) gone new → AreAsked w h e (map event_meant (take (i + 1) xs)) old new
one_asked w h e xs i x old gone new within is so_far one = record {
  out = λ g c. elim (one.out g c) [ inl a ↦ so_far.out g a | inr r ↦ inr r ];
  kept = λ g c. one.kept g (so_far.kept g c);
  asked = λ f c. elim (more_cases xs i x f within is c) [
    | inl a ↦ raised w h e f gone new (one.kept f) (so_far.asked f a)
    | inr q ↦ subst (λ g. IsSettled w h e g new) (sym q) one.asked
  ];
}

pub all_asked : (w : Fixed Rest) (h : Parts) (e : Event) (xs : List code.Event) (i : ℕ) (old new : List Event) → length xs ≤ i → AreAsked w h e (map event_meant (take i xs)) old new → AreAsked w h e (map event_meant xs) old new
all_asked w h e xs i old new past so_far = subst (λ v. AreAsked w h e (map event_meant v) old new) (take_all i xs past) so_far

-- ---- kind by kind

-- they stand in two pieces
pub both_asked : (w : Fixed Rest) (h : Parts) (e : Event) (head tail : List code.Event) (es old middle new : List Event) → map event_meant (head ++ tail) ≡ es
    → AreAsked w h e (map event_meant head) old middle → AreAsked w h e (map event_meant tail) middle new → AreAsked w h e es old new
both_asked w h e head tail es old middle new same ahead behind = record {
  out = λ g c. elim (behind.out g c) [ inl a ↦ ahead.out g a | inr r ↦ inr r ];
  kept = λ g c. behind.kept g (ahead.kept g c);
  asked = λ f c. elim (Contains-append_cases (map event_meant head) (map event_meant tail) f (subst (λ v. Contains v f) (sym same ∙ map-append event_meant head tail) c)) [
    | inl a ↦ raised w h e f middle new (behind.kept f) (ahead.asked f a)
    | inr b ↦ behind.asked f b
  ];
}

in_kinds : (kinds : List ℕ) (number : Option ℕ) (es : List Event) (f : Event) → Contains es f → list_any (is_of number f) kinds ≡ true → Contains (of_kinds kinds number es) f
in_kinds kinds number es f c h = from_has (of_kinds kinds number es) f (has_filter (λ g. list_any (is_of number g) kinds) es f (to_has es f c) h)

pub no_kinds : (w : Fixed Rest) (h : Parts) (e : Event) (number : Option ℕ) (es gone : List Event) → AreAsked w h e (of_kinds [] number es) gone gone
no_kinds w h e number es gone = record {
  out = λ g c. inl c;
  kept = λ g c. c;
  asked = λ f c. absurd (true≢false (sym (from_filter (λ g. list_any (is_of number g) []) es f (to_has (of_kinds [] number es) f c)).1));
}

any_more : (test : ℕ → Bool) (kinds : List ℕ) (i d : ℕ) → i < length kinds → list_any test (take (i + 1) kinds) ≡ true → (list_any test (take i kinds) ≡ true) ⊎ (test (get_or kinds i d) ≡ true)
any_more test kinds i d l h =
    let both : (list_any test (take i kinds) || list_any test (get_or kinds i d ∷ [])) ≡ true =
    sym (list_any-append test (take i kinds) (get_or kinds i d ∷ [])) ∙ (sym (ap (list_any test) (take_more kinds i d l)) ∙ h) in
    elim (or_cases (list_any test (take i kinds)) (list_any test (get_or kinds i d ∷ [])) both) [
      | inl a ↦ inl a
      | inr b ↦ elim (or_cases (test (get_or kinds i d)) false b) [ inl a ↦ inr a | inr z ↦ absurd (true≢false (sym z)) ]
    ]

pub one_kind : (w : Fixed Rest) (h : Parts) (e : Event) (kinds : List ℕ) (i kind d : ℕ) (number : Option ℕ) (es old gone new : List Event) → i < length kinds → kind ≡ get_or kinds i d
    → AreAsked w h e (of_kinds (take i kinds) number es) old gone → AreAsked w h e (of_kind kind number es) gone new → AreAsked w h e (of_kinds (take (i + 1) kinds) number es) old new
one_kind w h e kinds i kind d number es old gone new within is so_far one = record {
  out = λ g c. elim (one.out g c) [ inl a ↦ so_far.out g a | inr r ↦ inr r ];
  kept = λ g c. one.kept g (so_far.kept g c);
  asked = λ f c.
      let p = from_filter (λ g. list_any (is_of number g) (take (i + 1) kinds)) es f (to_has (of_kinds (take (i + 1) kinds) number es) f c) in
      elim (any_more (is_of number f) kinds i d within p.1) [
        | inl a ↦ raised w h e f gone new (one.kept f) (so_far.asked f (in_kinds (take i kinds) number es f (from_has es f p.0) a))
        | inr b ↦ one.asked f (from_has (of_kind kind number es) f (has_filter (λ g. is_of number g kind) es f p.0 (subst (λ k. is_of number f k ≡ true) (sym is) b)))
      ];
}

pub all_kinds : (w : Fixed Rest) (h : Parts) (e : Event) (kinds : List ℕ) (i : ℕ) (number : Option ℕ) (es old new : List Event) → length kinds ≤ i
    → AreAsked w h e (of_kinds (take i kinds) number es) old new → AreAsked w h e (of_kinds kinds number es) old new
all_kinds w h e kinds i number es old new past so_far = subst (λ ks. AreAsked w h e (of_kinds ks number es) old new) (take_all i kinds past) so_far

-- what is among kinds in the words of the reach is so in those of the list
of_any : (kinds : List ℕ) (f : Event) → is_among kinds f ≡ true → list_any (is_of None f) kinds ≡ true
of_any [] f h = h
of_any (k ∷ ks) f h = elim (or_cases (k == kind_of f) (is_among ks f) h) [
  | inl a ↦ or_left (is_of None f k) (list_any (is_of None f) ks) (eq-eqb (kind_of f) k (sym (eqb-true k (kind_of f) a)))
  | inr b ↦ or_right (is_of None f k) (list_any (is_of None f) ks) (of_any ks f b)
]

of_number : (kinds : List ℕ) (n : ℕ) (f : Event) → is_among kinds f ≡ true → n ≡ first_of f → list_any (is_of (Some n) f) kinds ≡ true
of_number [] n f h q = h
of_number (k ∷ ks) n f h q = elim (or_cases (k == kind_of f) (is_among ks f) h) [
  | inl a ↦
      let one : is_of (Some n) f k ≡ true = rw (eq-eqb (kind_of f) k (sym (eqb-true k (kind_of f) a)), eq-eqb (first_of f) n (sym q)) refl in
      or_left (is_of (Some n) f k) (list_any (is_of (Some n) f) ks) one
  | inr b ↦ or_right (is_of (Some n) f k) (list_any (is_of (Some n) f) ks) (of_number ks n f b q)
]

-- All that the event reaches was asked for: in the words of the code, of an event that is the same.
pub all_reached : (w : Fixed Rest) (h : Parts) (d e : code.Event) (es none first second last : List Event) (wholly on_actor numbered : List ℕ) (actor number : ℕ) → d ≡ e
    → ((f : Event) → may_refuse (event_meant d) f ≡ is_reached wholly on_actor actor numbered number f) → none ≡ []
    → AreAsked w h (event_meant d) (of_kinds wholly None es) none first → AreAsked w h (event_meant d) (of_kinds on_actor None es) first second
    → AreAsked w h (event_meant d) (of_kinds numbered (Some number) es) second last → AreRefused w h (event_meant e) es last
all_reached w h d e es none first second last wholly on_actor numbered actor number same reach empty one two three = subst (λ x. AreRefused w h (event_meant x) es last) same (record {
  out = λ f c. elim (three.out f c) [ inl a ↦ elim (two.out f a) [ inl b ↦ elim (one.out f b) [ inl g ↦ absurd (none_in f (subst (λ v. Contains v f) empty g)) | inr r ↦ r ] | inr r ↦ r ] | inr r ↦ r ];
  all = λ f c. by f c (is_among wholly f) refl (is_among on_actor f) refl (is_among numbered f) refl (number == first_of f) refl;
})
  where
    by : (f : Event) → Contains es f → (a : Bool) → is_among wholly f ≡ a → (b : Bool) → is_among on_actor f ≡ b → (c : Bool) → is_among numbered f ≡ c → (n : Bool) → (number == first_of f) ≡ n
        → IsSettled w h (event_meant d) f last
    by f i true p b q c r n s = raised w h (event_meant d) f first last (λ g. three.kept f (two.kept f g)) (one.asked f (in_kinds wholly None es f i (of_any wholly f p)))
    by f i false p true q c r n s = raised w h (event_meant d) f second last (three.kept f) (two.asked f (in_kinds on_actor None es f i (of_any on_actor f q)))
    by f i false p false q true r true s = three.asked f (in_kinds numbered (Some number) es f i (of_number numbered number f r (eqb-true number (first_of f) s)))
    by f i false p false q true r false s = inr (inr (reach f ∙ or_from _ _ p (or_from _ _ (and_left _ _ q) (and_right _ _ s))))
    by f i false p false q false r n s = inr (inr (reach f ∙ or_from _ _ p (or_from _ _ (and_left _ _ q) (and_left _ _ r))))

-- ---- together

pub new_is : (w : Fixed Rest) (e : Event) (s : Machine Rest) (f : Event) → ((s : Machine Rest) → (refusal w f s ≡ 0) ↔ IsAllowed w f s) → is_touched w e s f ≡ true → (IsAllowed w f s → ⊥) → IsAllowed w f (after w e s) → is_new w e s f ≡ true
new_is w e s f ruled touched before now = by (refusal w f s == 0) refl
  where
    by : (b : Bool) → (refusal w f s == 0) ≡ b → is_new w e s f ≡ true
    by true q = absurd (before ((ruled s).0 (eqb-true (refusal w f s) 0 q)))
    by false q = rw (touched, q, eq-eqb (refusal w f (after w e s)) 0 ((ruled (after w e s)).1 now)) refl

-- what was there stays where it is allowed, but for the event itself, which is not allowed right behind itself
pub renewed : (w : Fixed Rest) (h : Parts) (e : Event) (ahead news gone old middle new : List Event)
    → ((w : Fixed Rest) (e : Event) (s : Machine Rest) → HasRun w s → IsAllowed w e s → HasRun w (after w e s))
    → ((w : Fixed Rest) (e : Event) (s : Machine Rest) → (refusal w e s ≡ 0) ↔ IsAllowed w e s)
    → ((asked : Event → Bool) (w : Fixed Rest) (s : Machine Rest) (es : List Event) → PartsTell asked w s es → (f : Event) → asked f ≡ true → IsAllowed w f s → Contains es f)
    → OfEveryRun (RenewedAreEnabled {C = Rest}) → AfterEveryRun (RefusesItself {C = Rest})
    → ((e : Event) (es : List Event) (f : Event) → Contains (without e es) f → Contains es f × (f ≡ e → ⊥))
    → ((e : Event) (es : List Event) (f : Event) → Contains es f → Contains (without e es) f ⊎ (f ≡ e))
    → ((e : Event) (es : List Event) → AscendByRank es → AscendByRank (without e es))
    → ((s : Machine Rest) → IsBehind w e s h → IsForeseen w e s ahead → PartsTell (is_new w e s) w (after w e s) news)
    → AreRefused w h e old gone → IsWithout gone (without e old) middle → IsWith w h news middle new
    → (s : Machine Rest) → IsBehind w e s h → IsForeseen w e s ahead → IsEnabled w s old → IsEnabled w (after w e s) new
renewed w h e ahead news gone old middle new on ruled tells enabled once others kept order told out less more s is foreseen =
    let run = is.run in
    subst (λ t. IsAllowed w e t → IsRenewed w e t old new → IsEnabled w t old → IsEnabled w (after w e t) new) (sym run.is_reached) (enabled w run.finish run.events run.facts run.text run.run e old new) is.allowed (record {
      only = λ f c. elim (more.only f c) [
        | inl a ↦
            let p = less.only f a in
            let q = others e old f p.0 in
            elim (out.all f q.0) [ inl b ↦ elim b [ inl g ↦ absurd (p.1 g) | inr allowed ↦ inl (here f allowed) ] | inr n ↦ elim n [ inl itself ↦ absurd (q.1 itself) | inr no_way ↦ inr (q.0, no_way) ] ]
        | inr allowed ↦ inl (here f allowed)
      ];
      own = inr (λ c. elim (more.only e c) [ inl a ↦ (others e old e (less.only e a).0).1 refl | inr allowed ↦ own e is.allowed (here e allowed) ]);
      kept = λ f c now. elim (kept e old f c) [
        | inl b ↦ elim (less.kept f b) [ inl a ↦ more.kept f a | inr g ↦ absurd (out.out f g (after w e s) later is.fits now) ]
        | inr same ↦ absurd (own e is.allowed (subst (λ g. IsAllowed w g (after w e s)) same now))
      ];
      told = λ f touched before now. elim (more.due f (tells (is_new w e s) w (after w e s) news (told s is foreseen) f (new_is w e s f (ruled w f) touched before now) now)) [ inl c ↦ c | inr r ↦ absurd (r (after w e s) later is.fits now) ];
      ascends = λ a. more.ascends (less.ascends (order e old a));
    })
  where
    later : HasRun w (after w e s)
    later = on w e s is.run is.allowed

    own : RefusesItself w s
    own = subst (RefusesItself w) (sym is.run.is_reached) (once w is.run.events is.run.text is.run.run)

    here : (f : Event) → IsAllowedOn w h f → IsAllowed w f (after w e s)
    here f allowed = allowed (after w e s) later is.fits
