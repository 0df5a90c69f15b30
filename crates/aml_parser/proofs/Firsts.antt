-- The first fault of a list of tokens is where reading it as a program stops.
use Rattle.std.proofs.Common.{◌≡◌, ◌≢◌, ℕ, zero, suc, ◌+◌, ◌<◌, ◌≤◌, List, [], ◌∷◌, ◌++◌, length, take, Some, None, Result, Ok, Err, refl, sym, ap, subst, ◌∙◌, append_assoc, inl, inr, ◌⊎◌, slice_get, arith}
use Rattle.std.proofs.lemmas.List.{append-nil}
use Rattle.std.specs.List.{AllByRecursion}
use Rattle.aml_tokens.specs.declared.tokens.TextCause.{TextCause}
use Rattle.aml_tokens.specs.declared.tokens.TextCause.TheVariants.{Unexpected}
use Rattle.aml_tokens.specs.Token.{Token}
use Rattle.aml_tokens.specs.Names.{IsToken}
use Rattle.aml_tree.specs.Tree.{TextMethod}
use Rattle.aml_tree.specs.Grammar.{program_spelling, IsGrammatical}
use Rattle.aml_tree.specs.Limits.{Mark, program_marks}
use Rattle.aml_tree.specs.Programs.{IsUnmarked}
use Rattle.aml_parser.specs.Faults.{BeginsProgram, IsDeadEnd, IsClear, IsUnexpected, PassesLimit}
use Rattle.aml_parser.specs.Items.{Methods, Values}
use Rattle.aml_parser.specs.Reading.{Fault, ◌>>=◌, read, program}
use Rattle.aml_parser.proofs.ReadLaws.{fine, halt, ok_same, err_same, bound_is, bound_err, passing_all, sound, steady}
use Rattle.aml_parser.proofs.Again.{IsLimit, again}
use Rattle.aml_parser.proofs.Viable.{Passes, Cut, viable}

-- ---- marks and where a reading stops

pub first_mark : {A : Type 0} (ms : List Mark) (at : ℕ) (x : A) (f : Fault) → passing_all ms at (fine x) ≡ Err f → (j : ℕ) × (f.0 ≡ at + j) × (slice_get ms j ≡ Some (Some f.1))
first_mark [] at x f e = absurd cc
first_mark {A} (Some c ∷ ms) at x f e =
    let same = err_same A (at, c) f e in
    let place : at ≡ f.0 = ap (λ (f : Fault). f.0) same in
    (0, omega (arith, place), ap (λ (f : Fault). Some (Some f.1)) same)
first_mark (None ∷ ms) at x f e =
    let more = first_mark ms (at + 1) x f e in (suc more.0, omega (arith, more.1), more.2)

pub marked_stops : {A : Type 0} (ms : List Mark) (k at : ℕ) (x : A) (c : TextCause) → slice_get ms k ≡ Some (Some c) → (f : Fault) × (passing_all ms at (fine x) ≡ Err f) × (f.0 ≤ at + k) × (f.0 ≡ at + k → f.1 ≡ c)
marked_stops [] k at x c e = absurd cc
marked_stops (None ∷ ms) zero at x c e = absurd cc
marked_stops (Some d ∷ ms) zero at x c e = ((at, d), refl, omega arith, λ _. cc)
marked_stops (Some d ∷ ms) (suc k) at x c e = ((at, d), refl, omega arith, λ same. absurd (omega (arith, same)))
marked_stops (None ∷ ms) (suc k) at x c e =
    let more = marked_stops ms k (at + 1) x c e in (more.0, more.1, omega (arith, more.2), λ same. more.3 (omega (arith, same)))

pub unmarked_before : (k j : ℕ) (ms : List Mark) (c : TextCause) → AllByRecursion IsUnmarked (take k ms) → slice_get ms j ≡ Some (Some c) → k ≤ j
unmarked_before zero j ms c h e = omega arith
unmarked_before (suc k) j [] c h e = absurd cc
unmarked_before (suc k) zero (m ∷ ms) c h e = let none = h.0 in absurd cc
unmarked_before (suc k) (suc j) (m ∷ ms) c h e = let le = unmarked_before k j ms c h.1 e in omega (arith, le)

limit_at : (ms : List Mark) (j : ℕ) (c : TextCause) → AllByRecursion IsLimit ms → slice_get ms j ≡ Some (Some c) → c ≢ Unexpected
limit_at [] j c h e same = absurd cc
limit_at (m ∷ ms) zero c h e same = let mark : m ≡ Some Unexpected = cc in h.0 mark
limit_at (m ∷ ms) (suc j) c h e same = limit_at ms j c h.1 e same

passing_none : {A : Type 0} (ms : List Mark) (at : ℕ) (x : A) → AllByRecursion IsUnmarked ms → passing_all ms at (fine x) ≡ Ok x
passing_none [] at x h = refl
passing_none (m ∷ ms) at x h = rw h.0 (passing_none ms (at + 1) x h.1)

-- ---- lists that begin alike

pub take_less : (j k : ℕ) (ts : List Token) → j ≤ k → (more : List Token) × (take k ts ≡ take j ts ++ more)
take_less zero k ts le = (take k ts, refl)
take_less (suc j) zero ts le = absurd (omega (arith, le))
take_less (suc j) (suc k) [] le = ([], refl)
take_less (suc j) (suc k) (t ∷ ts) le = let more = take_less j k ts (omega (arith, le)) in (more.0, ap (λ (us : List Token). t ∷ us) more.1)

record At (k : ℕ) (ts : List Token) : Type 0 where
  before : List Token
  token : Token
  behind : List Token
  whole : ts ≡ before ++ token ∷ behind
  size : length before ≡ k
  front : take (suc k) ts ≡ before ++ token ∷ []

token_there : (k : ℕ) (ts : List Token) → k < length ts → At k ts
token_there k [] lt = absurd (omega (arith, lt))
token_there zero (t ∷ ts) lt = record { before = []; token = t; behind = ts; whole = refl; size = refl; front = refl }
token_there (suc k) (t ∷ ts) lt =
    let x = token_there k ts (omega (arith, lt)) in
    record { before = t ∷ x.before; token = x.token; behind = x.behind; whole = ap (λ (us : List Token). t ∷ us) x.whole; size = omega (arith, x.size); front = ap (λ (us : List Token). t ∷ us) x.front }

abbrev pub program_read : List Token → Result (Values (Methods 0 ∷ [])) Fault
program_read ts = read (Methods 0 ∷ []) 0 0 ts

-- lists that begin with the same tokens up to the k-th stop alike there or before
pub alike : (k : ℕ) (ts us more : List Token) (fault : Fault) → k < length ts → us ≡ take (suc k) ts ++ more → fault.0 ≤ k → (program_read ts ≡ Err fault → program_read us ≡ Err fault) × (program_read us ≡ Err fault → program_read ts ≡ Err fault)
alike k ts us more fault lt e le =
    let x = token_there k ts lt in
    let same : us ≡ x.before ++ x.token ∷ more = e ∙ ap (λ (vs : List Token). vs ++ more) x.front ∙ append_assoc x.before (x.token ∷ []) more in
    let near : fault.0 ≤ 0 + length x.before = omega (arith, le, x.size) in (
      λ stop. ap program_read same ∙ steady x.before x.token x.behind more (Methods 0 ∷ []) 0 0 fault near (ap program_read (sym x.whole) ∙ stop),
      λ stop. ap program_read x.whole ∙ steady x.before x.token more x.behind (Methods 0 ∷ []) 0 0 fault near (ap program_read (sym same) ∙ stop),
    )

-- ---- programs

pub record ReadAgain (p : List TextMethod) (ts : List Token) : Type 0 where
  pub reads : program_read ts ≡ passing_all (program_marks p) 0 (fine (p, tt))
  pub limits : AllByRecursion IsLimit (program_marks p)

pub program_again : (p : List TextMethod) (ts : List Token) → IsGrammatical p → program_spelling p ≡ ts → ReadAgain p ts
program_again p ts g e =
    let a = again ts (Methods 0 ∷ []) 0 0 (p, tt) (sym e ∙ sym (append-nil (program_spelling p))) (((λ _. g.some), g.methods), tt) refl in
    record {
      reads = a.reads ∙ ap (λ (ms : List Mark). passing_all ms 0 (fine (p, tt))) (append-nil (program_marks p));
      limits = subst (λ (ms : List Mark). AllByRecursion IsLimit ms) (append-nil (program_marks p)) a.limits;
    }

pub record IsWhole (p : List TextMethod) (ts : List Token) : Type 0 where
  pub grammar : IsGrammatical p
  pub spelled : ts ≡ program_spelling p
  pub limits : AllByRecursion IsUnmarked (program_marks p)

pub program_sound : (ts : List Token) (p : List TextMethod) → AllByRecursion IsToken ts → program ts ≡ Ok p → IsWhole p ts
program_sound ts p h e =
    let b = bound_is (program_read ts) (λ vs. Ok vs.0) p e in
    let w = sound ts (Methods 0 ∷ []) 0 0 b.0 h b.1 in
    subst (λ (q : List TextMethod). IsWhole q ts) (ok_same b.0.0 p b.2)
    (record {
      grammar = record { some = w.fits.0.0 refl; methods = w.fits.0.1 };
      spelled = w.tokens ∙ append-nil (program_spelling b.0.0);
      limits = subst (λ (ms : List Mark). AllByRecursion IsUnmarked ms) (append-nil (program_marks b.0.0)) w.unmarked;
    })

pub whole_read : (ts : List Token) (p : List TextMethod) → IsWhole p ts → program ts ≡ Ok p
whole_read ts p w = ap (λ (r : Result (Values (Methods 0 ∷ [])) Fault). r >>= λ vs. Ok vs.0) ((program_again p ts w.grammar (sym w.spelled)).reads ∙ passing_none (program_marks p) 0 (p, tt) w.limits)

pub read_stops : (ts : List Token) (fault : Fault) → program ts ≡ Err fault → program_read ts ≡ Err fault
read_stops ts fault e = bound_err (program_read ts) (λ vs. vs.0) fault e

pub stops_read : (ts : List Token) (fault : Fault) → program_read ts ≡ Err fault → program ts ≡ Err fault
stops_read ts fault e = ap (λ (r : Result (Values (Methods 0 ∷ [])) Fault). r >>= λ vs. Ok vs.0) e

-- ---- what reading gives is the first fault

pub program_cut : (ts : List Token) (fault : Fault) → AllByRecursion IsToken ts → program ts ≡ Err fault → Cut (Methods 0 ∷ []) 0 0 ts fault
program_cut ts fault h e = viable ts (Methods 0 ∷ []) 0 0 fault h (read_stops ts fault e)

pub cut_begins : (ts : List Token) (fault : Fault) (x : Cut (Methods 0 ∷ []) 0 0 ts fault) → BeginsProgram (take x.gone ts) x.values.0
cut_begins ts fault x = record { grammar = record { some = x.fits.0.0 refl; methods = x.fits.0.1 }; goes = (x.more, sym (append-nil (program_spelling x.values.0)) ∙ x.goes) }

pub limit_begins : (ts : List Token) (fault : Fault) (x : Cut (Methods 0 ∷ []) 0 0 ts fault) → Passes (Methods 0 ∷ []) 0 ts x.gone fault.1 x.values → BeginsProgram (take (suc x.gone) ts) x.values.0
limit_begins ts fault x l = record { grammar = record { some = x.fits.0.0 refl; methods = x.fits.0.1 }; goes = (l.more, sym (append-nil (program_spelling x.values.0)) ∙ l.goes) }

pub clear_there : (ts : List Token) (fault : Fault) → AllByRecursion IsToken ts → program ts ≡ Err fault → (fault.0 ≤ length ts) × IsClear ts fault.0
clear_there ts fault h e =
    let x = program_cut ts fault h e in
    let place : x.gone ≡ fault.0 = omega (arith, x.place) in (
      omega (arith, x.place, x.within),
      subst (λ (k : ℕ). IsClear ts k) place (
        x.values.0,
        cut_begins ts fault x,
        subst (λ (ms : List Mark). AllByRecursion IsUnmarked (take x.gone ms)) (append-nil (program_marks x.values.0)) x.unmarked,
      ),
    )

dead_end : (ts : List Token) (k : ℕ) → k < length ts → program ts ≡ Err (k, Unexpected) → IsDeadEnd (take (suc k) ts)
dead_end ts k lt e p begins =
    let a = program_again p (program_spelling p) begins.grammar refl in
    let stop = (alike k ts (program_spelling p) begins.goes.0 (k, Unexpected) lt begins.goes.1 (omega arith)).0 (read_stops ts (k, Unexpected) e) in
    let m = first_mark (program_marks p) 0 (p, tt) (k, Unexpected) (sym a.reads ∙ stop) in
    limit_at (program_marks p) m.0 Unexpected a.limits m.2 refl

pub wrong_there : (ts : List Token) (k : ℕ) (c : TextCause) → AllByRecursion IsToken ts → program ts ≡ Err (k, c) → k < length ts → ((c ≡ Unexpected) × IsUnexpected ts k) ⊎ PassesLimit ts k c
wrong_there ts k c h e lt =
    let x = program_cut ts (k, c) h e in
    let place : x.gone ≡ k = omega (arith, x.place) in
    let next : suc x.gone ≡ k + 1 = omega (arith, x.place) in
    let one_more : suc k ≡ k + 1 = omega arith in
    elim x.cause [
      | inl same ↦ inl (
        same,
        record {
          within = lt;
          stops = subst (λ (n : ℕ). IsDeadEnd (take n ts)) one_more (dead_end ts k lt (e ∙ ap (λ (d : TextCause). halt (List TextMethod) (k, d)) same));
        },
      )
      | inr limit ↦ inr (record {
        within = lt;
        passes = (
          x.values.0,
          subst (λ (n : ℕ). BeginsProgram (take n ts) x.values.0) next (limit_begins ts (k, c) x limit),
          ap (λ (n : ℕ). slice_get (program_marks x.values.0) n) (sym place) ∙ ap (λ (ms : List Mark). slice_get ms x.gone) (sym (append-nil (program_marks x.values.0))) ∙ limit.marked,
        );
      })
    ]

pub end_unexpected : (ts : List Token) (k : ℕ) (c : TextCause) → AllByRecursion IsToken ts → program ts ≡ Err (k, c) → length ts ≤ k → (k ≡ length ts) × (c ≡ Unexpected)
end_unexpected ts k c h e le =
    let x = program_cut ts (k, c) h e in (
      omega (arith, x.place, x.within, le),
      elim x.cause [
        | inl same ↦ same
        | inr limit ↦ absurd (omega (arith, x.place, limit.within, le))
      ],
    )

pub none_whole : (ts : List Token) (k : ℕ) → program ts ≡ Err (k, Unexpected) → (p : List TextMethod) → IsGrammatical p → program_spelling p ≢ ts
none_whole ts k e p g same =
    let a = program_again p ts g same in
    let m = first_mark (program_marks p) 0 (p, tt) (k, Unexpected) (sym a.reads ∙ read_stops ts (k, Unexpected) e) in
    limit_at (program_marks p) m.0 Unexpected a.limits m.2 refl
