-- A line sets one number, and names one actor.
use Rattle.std.proofs.Common.{◌≡◌, ◌⊎◌, ℕ, ◌<◌, ◌≤◌, List, [], ◌∷◌, length, get_or, drop, map, refl, sym, ap, ◌∙◌, arith, inl, inr}
use Rattle.std.specs.Prelude.{Option, Ok, Err, Result, ℤ, FitsSigned}
use Rattle.std.specs.Int.{w64}
use Rattle.std.specs.List.{AllByRecursion}
use Rattle.std.specs.Fmt.{decimal, signed_decimal}
use Rattle.std.specs.Str.{bytes_eq}
use Rattle.std.proofs.lemmas.List.{append_cancel_left}
use Rattle.std.proofs.lemmas.Fmt.{decimal_injective, signed_decimal_injective}
use lib.Signed.{mag}
use Rattle.decimal_words.proofs.Spellings.{magnitude}
use Rattle.snap_work.specs.declared.faults.WorkFault.{WorkFault}
use Rattle.snap_work.specs.declared.faults.WorkCause.{WorkCause}
use Rattle.snap_work.specs.declared.faults.WorkCause.TheVariants as cause
use Rattle.snap_work.specs.declared.faults.Limit.TheVariants as limit
use Rattle.work_text.specs.Lines.{Line}
use Rattle.work_text.specs.Readings.{gives}
use Rattle.work_text.specs.Settings.{Setting, Sets, SettingFault, setting}
use Rattle.work_text.specs.Actors.{Named, Names, ActorFault, actor}
use Rattle.work_text.specs.Reads.{exactly}
use Rattle.work_text.proofs.OneOf.{IsOne, one_gives, one_only, same_fault}

-- ---- numbers

one_sets : (s : Setting) (line : List ℕ) (m n : ℕ) → Sets s line m → Sets s line n → m ≡ n
one_sets s line m n h k = decimal_injective m n h.1 k.1 (append_cancel_left s.word (decimal m) (decimal n) (sym h.0 ∙ k.0))

-- the line sets no number, or one out of the range
abbrev SetsNone : Setting → List ℕ → WorkCause → Type 0
SetsNone s line why = ((why ≡ cause.BadHeader) × ((n : ℕ) → ¬ Sets s line n)) ⊎ ((n : ℕ) × (why ≡ cause.Limit s.which n) × Sets s line n × ((n < 1) ⊎ (s.most < n)))

sets_none : (s : Setting) (line : List ℕ) (why : WorkCause) → SettingFault s line why → SetsNone s line why
sets_none s line cause.BadHeader h = inl (refl, h)
sets_none s line (cause.Limit which found) h = inr (found, ap (λ w. cause.Limit w found) h.0, h.1, h.2)
sets_none s line cause.NotUtf8 h = absurd h
sets_none s line (cause.Program p) h = absurd h
sets_none s line cause.BadActor h = absurd h
sets_none s line cause.BadTx h = absurd h
sets_none s line cause.RootNotDeclared h = absurd h

out_of_range : (m n most : ℕ) → m ≡ n → 1 ≤ m → m ≤ most → (n < 1) ⊎ (most < n) → ⊥
out_of_range m n most e low high (inl lt) = omega (arith, e, low, lt)
out_of_range m n most e low high (inr gt) = omega (arith, e, high, gt)

set_or_not : (s : Setting) (line : List ℕ) (m : ℕ) (why : WorkCause) → Sets s line m → 1 ≤ m → m ≤ s.most → SetsNone s line why → ⊥
set_or_not s line m why h low high (inl f) = f.1 m h
set_or_not s line m why h low high (inr f) = out_of_range m f.0 s.most (one_sets s line m f.0 h f.2) low high f.3

one_cause : (s : Setting) (line : List ℕ) (c d : WorkCause) → SetsNone s line c → SetsNone s line d → c ≡ d
one_cause s line c d (inl f) (inl g) = f.0 ∙ sym g.0
one_cause s line c d (inl f) (inr g) = absurd (f.1 g.0 g.2)
one_cause s line c d (inr f) (inl g) = absurd (g.1 f.0 f.2)
one_cause s line c d (inr f) (inr g) = f.1 ∙ ap (cause.Limit s.which) (one_sets s line f.0 g.0 f.2 g.2) ∙ sym g.1

setting_same : (s : Setting) (l : Line) (r t : Result ℕ WorkFault) → setting s l r → setting s l t → r ≡ t
setting_same s l (Ok m) (Ok n) h k = ap (λ (x : ℕ). Ok x) (one_sets s l.bytes m n h.0 k.0)
setting_same s l (Ok m) (Err f) h k = absurd (set_or_not s l.bytes m f.cause h.0 h.1 h.2 (sets_none s l.bytes f.cause k.1))
setting_same s l (Err f) (Ok n) h k = absurd (set_or_not s l.bytes n f.cause k.0 k.1 k.2 (sets_none s l.bytes f.cause h.1))
setting_same s l (Err f) (Err g) h k =
    ap (λ (x : WorkFault). Err x) (same_fault f g (h.0 ∙ sym k.0) (one_cause s l.bytes f.cause g.cause (sets_none s l.bytes f.cause h.1) (sets_none s l.bytes g.cause k.1)))

pub one_setting : (s : Setting) (l : Line) → IsOne (setting s l)
one_setting s l = record { same = setting_same s l }

pub one_exactly : (bytes : List ℕ) (l : Line) → IsOne (exactly bytes l)
one_exactly bytes l = one_only (bytes_eq l.bytes bytes) l.number cause.BadHeader (gives l.number) (one_gives l.number)

-- ---- values

pub numbers_one : (xs ys : List ℤ) → map signed_decimal xs ≡ map signed_decimal ys → AllByRecursion (FitsSigned w64) xs → AllByRecursion (FitsSigned w64) ys → xs ≡ ys
numbers_one [] [] e f g = refl
numbers_one [] (y ∷ ys) e f g = cc
numbers_one (x ∷ xs) [] e f g = cc
numbers_one (x ∷ xs) (y ∷ ys) e f g =
    let first : signed_decimal x ≡ signed_decimal y = cc in
    let more : map signed_decimal xs ≡ map signed_decimal ys = cc in
    ap (λ z. z ∷ xs) (signed_decimal_injective x y (magnitude x f.0) (magnitude y g.0) first) ∙ ap (λ zs. y ∷ zs) (numbers_one xs ys more f.1 g.1)

-- ---- actors

one_names : (actors : ℕ) (last : Option ℕ) (line : List ℕ) (m n : Named) → actors ≤ 256 → Names actors last line m → Names actors last line n → m ≡ n
one_names actors last line m n few h k =
    let both = sym h.spelled ∙ k.spelled in
    let number : decimal m.actor ≡ decimal n.actor = ap (λ ws. get_or ws 1 []) both in
    let same : m.actor ≡ n.actor = decimal_injective m.actor n.actor (omega (arith, h.known, few)) (omega (arith, k.known, few)) number in
    let values : m.values ≡ n.values = numbers_one m.values n.values (ap (drop 2) both) h.fit k.fit in
    let make : ℕ → List ℤ → Named = λ a v. record { actor = a; values = v } in
    ap (λ a. make a m.values) same ∙ ap (make n.actor) values

-- the line names no actor, or gives it too many values
abbrev NamesNone : ℕ → Option ℕ → List ℕ → WorkCause → Type 0
NamesNone actors last line why =
    ((why ≡ cause.BadActor) × ((n : Named) → ¬ Names actors last line n)) ⊎ ((n : Named) × (why ≡ cause.Limit limit.Fields (length n.values)) × Names actors last line n × (16 < length n.values))

names_none : (actors : ℕ) (last : Option ℕ) (line : List ℕ) (why : WorkCause) → ActorFault actors last line why → NamesNone actors last line why
names_none actors last line cause.BadActor h = inl (refl, h)
names_none actors last line (cause.Limit which found) h = inr (h.1, ap (λ w. cause.Limit w found) h.0 ∙ ap (cause.Limit limit.Fields) h.3, h.2, omega (arith, h.3, h.4))
names_none actors last line cause.NotUtf8 h = absurd h
names_none actors last line cause.BadHeader h = absurd h
names_none actors last line (cause.Program p) h = absurd h
names_none actors last line cause.BadTx h = absurd h
names_none actors last line cause.RootNotDeclared h = absurd h

named_or_not : (actors : ℕ) (last : Option ℕ) (line : List ℕ) (m : Named) (why : WorkCause) → actors ≤ 256 → Names actors last line m → length m.values ≤ 16 → NamesNone actors last line why → ⊥
named_or_not actors last line m why few h le (inl f) = f.1 m h
named_or_not actors last line m why few h le (inr f) = omega (arith, ap (λ (n : Named). length n.values) (one_names actors last line m f.0 few h f.2), le, f.3)

one_no_name : (actors : ℕ) (last : Option ℕ) (line : List ℕ) (c d : WorkCause) → actors ≤ 256 → NamesNone actors last line c → NamesNone actors last line d → c ≡ d
one_no_name actors last line c d few (inl f) (inl g) = f.0 ∙ sym g.0
one_no_name actors last line c d few (inl f) (inr g) = absurd (f.1 g.0 g.2)
one_no_name actors last line c d few (inr f) (inl g) = absurd (g.1 f.0 f.2)
one_no_name actors last line c d few (inr f) (inr g) = f.1 ∙ ap (λ (n : Named). cause.Limit limit.Fields (length n.values)) (one_names actors last line f.0 g.0 few f.2 g.2) ∙ sym g.1

actor_same : (actors : ℕ) (last : Option ℕ) (l : Line) → actors ≤ 256 → (r s : Result Named WorkFault) → actor actors last l r → actor actors last l s → r ≡ s
actor_same actors last l few (Ok m) (Ok n) h k = ap (λ (x : Named). Ok x) (one_names actors last l.bytes m n few h.0 k.0)
actor_same actors last l few (Ok m) (Err f) h k = absurd (named_or_not actors last l.bytes m f.cause few h.0 h.1 (names_none actors last l.bytes f.cause k.1))
actor_same actors last l few (Err f) (Ok n) h k = absurd (named_or_not actors last l.bytes n f.cause few k.0 k.1 (names_none actors last l.bytes f.cause h.1))
actor_same actors last l few (Err f) (Err g) h k =
    ap (λ (x : WorkFault). Err x) (same_fault f g (h.0 ∙ sym k.0) (one_no_name actors last l.bytes f.cause g.cause few (names_none actors last l.bytes f.cause h.1) (names_none actors last l.bytes g.cause k.1)))

pub one_actor : (actors : ℕ) (last : Option ℕ) (l : Line) → actors ≤ 256 → IsOne (actor actors last l)
one_actor actors last l few = record { same = actor_same actors last l few }
