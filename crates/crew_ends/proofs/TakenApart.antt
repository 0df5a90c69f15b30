-- Shares that are taken apart, from the last one on.
use Rattle.std.proofs.Common.{◌≡◌, ℕ, zero, suc, ◌+◌, ◌<◌, option_map, Option, Some, None, List, [], ◌∷◌, ◌++◌, length, map, reverse, slice_get, sym, ap, subst, ◌∙◌, arith, append-nil}
use Rattle.std.proofs.lemmas.List.{length-map}
use Rattle.std.proofs.lemmas.Option.{slice_get-map, slice_get_within}
use Rattle.snap_base.proofs.Lists.{get_mapped, nothing_left}
use Rattle.snap_base.proofs.Options.{some_value}
use Rattle.crew_ends.specs.Ends.{AreBeside}
use Rattle.crew_ends.specs.Lists.{EndsWithJournal, EndsWithOutput, HaveJournals, HaveOutput, besides_of, gathered, journals_of, parts_of, taken}
use Rattle.snap_hand.specs.protocol_laws.OneWay.{IsFront}
use Rattle.crew_ends.proofs.OneOver.{get_behind, get_of_front, get_seam, last_of}
use Rattle.crew_parts.specs.Shares.{BesideState, OutputState, ShareState}
use Rattle.gate_log.specs.State.{LogState}
use Rattle.protocol.specs.Events.{desk, log}
use Rattle.snap_hand.specs.Shown.{shown}
use Rattle.snap_hand.specs.declared.parts.Part.{Part}

pub as_many : (xs : List ShareState) (n : ℕ) → length xs ≡ n → length (besides_of xs) ≡ n
as_many xs n h = length-map xs (λ (x : ShareState). x.beside) ∙ h

-- ---- the last of what is left

-- what stands at a number in a front that ends there
last_at : (all cur front : List BesideState) (b : BesideState) (n : ℕ) → IsFront cur all → cur ≡ front ++ b ∷ [] → length front ≡ n → slice_get all n ≡ Some b
last_at all cur front b n of is count =
    get_of_front cur all n of (subst (λ bs. n < length bs) (sym is) (longer front b n count))
    ∙ (ap (λ bs. slice_get bs n) is ∙ get_seam front [] b n count) where
      longer : (bs : List BesideState) (c : BesideState) (m : ℕ) → length bs ≡ m → m < length (bs ++ c ∷ [])
      longer [] c m h = omega (arith, h)
      longer (x ∷ bs) c zero h = absurd (omega (arith, h))
      longer (x ∷ bs) c (suc m) h = omega (arith, longer bs c m (omega (arith, h)))

pub ends_with_journal : (n k : ℕ) (all cur : List BesideState) → HaveJournals n all → IsFront cur all → length cur ≡ suc (log k) → k < n → (j : LogState) × EndsWithJournal j cur
ends_with_journal n k all cur have of count within =
    let r = last_of cur (log k) count in
    let there = some_value r.1.0.journal (have k r.1.0 within (last_at all cur r.0 r.1.0 (log k) of r.1.1.0 r.1.1.1)) in
    (there.0, record { front = r.0; last = r.1.0; is = r.1.1.0; there = there.1 })

pub ends_with_output : (all cur : List BesideState) → HaveOutput all → IsFront cur all → length cur ≡ 4 → (o : OutputState) × EndsWithOutput o cur
ends_with_output all cur have of count =
    let r = last_of cur 3 count in
    let there = some_value r.1.0.output (have r.1.0 (last_at all cur r.0 r.1.0 3 of r.1.1.0 r.1.1.1)) in
    (there.0, record { front = r.0; last = r.1.0; is = r.1.1.0; there = there.1 })

pub have_front : (n : ℕ) (some all : List BesideState) → IsFront some all → HaveJournals n all → HaveJournals n some
have_front n some all front have l b within at = have l b within (get_of_front some all (log l) front (slice_get_within some (log l) b at) ∙ at)

-- ---- one share less

last_same : {X : Type 0} (xs ys : List X) (x y : X) → xs ++ x ∷ [] ≡ ys ++ y ∷ [] → x ≡ y
last_same [] [] x y h = cc h
last_same [] (z ∷ []) x y h = absurd (cc h)
last_same [] (z ∷ w ∷ ys) x y h = absurd (cc h)
last_same (z ∷ []) [] x y h = absurd (cc h)
last_same (z ∷ w ∷ xs) [] x y h = absurd (cc h)
last_same (z ∷ xs) (w ∷ ys) x y h = last_same xs ys x y (cc h)

pub journal_there : (j : LogState) (bs front : List BesideState) (b : BesideState) → EndsWithJournal j bs → bs ≡ front ++ b ∷ [] → b.journal ≡ Some j
journal_there j bs front b ends is = ap (λ (c : BesideState). c.journal) (last_same front ends.front b ends.last (sym is ∙ ends.is)) ∙ ends.there

pub output_there : (o : OutputState) (bs front : List BesideState) (b : BesideState) → EndsWithOutput o bs → bs ≡ front ++ b ∷ [] → b.output ≡ Some o
output_there o bs front b ends is = ap (λ (c : BesideState). c.output) (last_same front ends.front b ends.last (sym is ∙ ends.is)) ∙ ends.there

-- ---- all of them

pub all_taken : (xs ys : List ShareState) (ps : List Part) → taken xs ps ≡ taken ys [] → length xs ≡ 0 → map shown (reverse ps) ≡ parts_of ys
all_taken xs ys ps same none = ap (λ zs. taken zs ps) (sym (nothing_left xs none)) ∙ (same ∙ append-nil (parts_of ys))

journal_is : (o : Option LogState) (j : Option LogState) → option_map Some o ≡ Some j → j ≡ o
journal_is None j h = absurd (cc h)
journal_is (Some k) j h = sym (cc h)

-- what was taken stood beside the shares
module _ (xs : List ShareState) (logs four : List BesideState) (js : List LogState) (out : OutputState)
    (count : length logs ≡ 4 + length (reverse js)) (end : length four ≡ 4)
    (first : IsFront logs (besides_of xs)) (next : IsFront four logs)
    (all : gathered four js ≡ gathered logs []) (desk_is : EndsWithOutput out four) where
  besides_there : (i : ℕ) (x : ShareState) → i < length logs → slice_get xs i ≡ Some x → slice_get logs i ≡ Some x.beside
  besides_there i x within at = sym (get_of_front logs (besides_of xs) i first within) ∙ get_mapped (λ (y : ShareState). y.beside) xs i x at

  log_there : (l : ℕ) (x : ShareState) → l < length (reverse js) → slice_get xs (log l) ≡ Some x → x.beside.journal ≡ slice_get (reverse js) l
  log_there l x within at =
      let inside : log l < length logs = omega (arith, count, within) in
      let one : slice_get (journals_of logs) (log l) ≡ Some x.beside.journal = get_mapped (λ (b : BesideState). b.journal) logs (log l) x.beside (besides_there (log l) x inside at) in
      let same : gathered four js ≡ journals_of logs = all ∙ append-nil (journals_of logs) in
      let behind : slice_get (gathered four js) (log l) ≡ slice_get (map Some (reverse js)) l =
      get_behind (journals_of four) (map Some (reverse js)) 4 l (length-map four (λ (b : BesideState). b.journal) ∙ end) in
      journal_is (slice_get (reverse js) l) x.beside.journal
      (sym (slice_get-map Some (reverse js) l) ∙ (sym behind ∙ (ap (λ zs. slice_get zs (log l)) same ∙ one)))

  desk_there : (x : ShareState) → slice_get xs desk ≡ Some x → x.beside.output ≡ Some out
  desk_there x at =
      let inside : 3 < length logs = omega (arith, count) in
      let here : slice_get logs 3 ≡ Some x.beside = besides_there 3 x inside at in
      let last : slice_get logs 3 ≡ Some desk_is.last = last_at logs four desk_is.front desk_is.last 3 next desk_is.is (front_count desk_is.front desk_is.last (sym (ap length desk_is.is) ∙ end)) in
      let e : desk_is.last ≡ x.beside = some_same (sym last ∙ here) in
      sym (ap (λ (b : BesideState). b.output) e) ∙ desk_is.there where
        some_same : {a b : BesideState} → Some a ≡ Some b → a ≡ b
        some_same h = cc h

        front_count : (bs : List BesideState) (b : BesideState) → length (bs ++ b ∷ []) ≡ 4 → length bs ≡ 3
        front_count bs b h = less bs b 3 h where
          less : (cs : List BesideState) (c : BesideState) (n : ℕ) → length (cs ++ c ∷ []) ≡ suc n → length cs ≡ n
          less [] c n h = omega (arith, h)
          less (d ∷ cs) c zero h = absurd (none_longer cs c h) where
            none_longer : (es : List BesideState) (f : BesideState) → suc (length (es ++ f ∷ [])) ≡ 1 → ⊥
            none_longer [] f h = omega (arith, h)
            none_longer (g ∷ es) f h = omega (arith, h)
          less (d ∷ cs) c (suc n) h = omega (arith, less cs c n (omega (arith, h)))

  pub stood_beside : (ks : List LogState) → ks ≡ reverse js → AreBeside ks out xs
  stood_beside ks is = subst (λ (ls : List LogState). AreBeside ls out xs) (sym is) (record { logs = log_there; desk = desk_there })
