-- A list of tokens has one first fault, and none where it is a program.
use Rattle.std.proofs.Common.{◌≡◌, ℕ, zero, suc, ◌+◌, ◌≤◌, List, ◌++◌, length, take, drop, Result, Ok, Err, refl, sym, ap, subst, ◌∙◌, append_assoc, inl, inr, ◌⊎◌, arith}
use Rattle.std.proofs.lemmas.Bool.{cases_lt}
use Rattle.std.proofs.lemmas.List.{take-append-drop}
use Rattle.std.specs.List.{AllByRecursion}
use Rattle.aml_tokens.specs.Names.{IsToken}
use Rattle.aml_tokens.specs.declared.tokens.TextCause.{TextCause}
use Rattle.aml_tokens.specs.declared.tokens.TextCause.TheVariants.{Unexpected}
use Rattle.aml_tokens.specs.Token.{Token}
use Rattle.aml_tree.specs.Tree.{TextMethod}
use Rattle.aml_tree.specs.Grammar.{program_spelling}
use Rattle.aml_tree.specs.Limits.{program_marks}
use Rattle.aml_parser.specs.Faults.{BeginsProgram, IsClear, IsUnexpected, PassesLimit}
use Rattle.aml_parser.specs.Reading.{Fault, program}
use Rattle.aml_parser.proofs.ReadLaws.{halt}
use Rattle.aml_parser.proofs.Firsts.{first_mark, marked_stops, unmarked_before, take_less, alike, program_again, program_sound, read_stops, stops_read, program_cut, cut_begins, limit_begins, end_unexpected}

-- reading does not stop before a place up to which a program goes and passes no limit
clear_before : (ts : List Token) (k : ℕ) (fault : Fault) → k ≤ length ts → IsClear ts k → program ts ≡ Err fault → k ≤ fault.0
clear_before ts zero fault within clear e = omega arith
clear_before ts (suc k) fault within clear e =
    elim (cases_lt fault.0 (suc k)) [
      | inr le ↦ le
      | inl lt ↦
          let p = clear.0 in
          let a = program_again p (program_spelling p) clear.1.grammar refl in
          let stop = (alike k ts (program_spelling p) clear.1.goes.0 fault (omega (arith, within)) clear.1.goes.1 (omega (arith, lt))).0 (read_stops ts fault e) in
          let m = first_mark (program_marks p) 0 (p, tt) fault (sym a.reads ∙ stop) in
          let le = unmarked_before (suc k) m.0 (program_marks p) fault.1 clear.2 m.2 in
          absurd (omega (arith, le, lt, m.1))
    ]

one_more : (k : ℕ) → k + 1 ≡ suc k
one_more k = omega arith

same_fault : (f : Fault) (k : ℕ) (c : TextCause) → f.0 ≡ k → f.1 ≡ c → f ≡ (k, c)
same_fault f k c a b = ap (λ (n : ℕ). (n, f.1)) a ∙ ap (λ (d : TextCause). (k, d)) b

pub limit_stops : (ts : List Token) (k : ℕ) (c : TextCause) → IsClear ts k → PassesLimit ts k c → program ts ≡ Err (k, c)
limit_stops ts k c clear limit =
    let p = limit.passes.0 in
    let begins = limit.passes.1 in
    let a = program_again p (program_spelling p) begins.grammar refl in
    let m = marked_stops (program_marks p) k 0 (p, tt) c limit.passes.2 in
    let le : m.0.0 ≤ k = omega (arith, m.2) in
    let goes : program_spelling p ≡ take (suc k) ts ++ begins.goes.0 = begins.goes.1 ∙ ap (λ (n : ℕ). take n ts ++ begins.goes.0) (one_more k) in
    let stop = stops_read ts m.0 ((alike k ts (program_spelling p) begins.goes.0 m.0 limit.within goes le).1 (a.reads ∙ m.1)) in
    let not_before = clear_before ts k m.0 (omega (arith, limit.within)) clear stop in
    let place : m.0.0 ≡ k = omega (arith, le, not_before) in
    stop ∙ ap (λ (f : Fault). halt (List TextMethod) f) (same_fault m.0 k c place (m.3 (omega (arith, place))))

-- how a reading went
gone : (ts : List Token) → ((p : List TextMethod) × (program ts ≡ Ok p)) ⊎ ((f : Fault) × (program ts ≡ Err f))
gone ts = by (program ts) refl
  where
    by : (r : Result (List TextMethod) Fault) → program ts ≡ r → ((p : List TextMethod) × (program ts ≡ Ok p)) ⊎ ((f : Fault) × (program ts ≡ Err f))
    by (Ok p) e = inl (p, e)
    by (Err f) e = inr (f, e)

pub unexpected_stops : (ts : List Token) (k : ℕ) → AllByRecursion IsToken ts → IsClear ts k → IsUnexpected ts k → program ts ≡ Err (k, Unexpected)
unexpected_stops ts k h clear wrong =
    elim (gone ts) [
      | inl read ↦
          let w = program_sound ts read.0 h read.1 in
          absurd (wrong.stops read.0 (record { grammar = w.grammar; goes = (drop (k + 1) ts, sym w.spelled ∙ sym (take-append-drop (k + 1) ts)) }))
      | inr stop ↦
          let f = stop.0 in
          let le = clear_before ts k f (omega (arith, wrong.within)) clear stop.1 in
          let x = program_cut ts f h stop.1 in
          elim (cases_lt k f.0) [
            | inl lt ↦
                let begins = cut_begins ts f x in
                let less = take_less (k + 1) x.gone ts (omega (arith, lt, x.place)) in
                absurd (wrong.stops x.values.0 (record {
                  grammar = begins.grammar;
                  goes = (less.0 ++ begins.goes.0, begins.goes.1 ∙ ap (λ (us : List Token). us ++ begins.goes.0) less.1 ∙ append_assoc (take (k + 1) ts) less.0 begins.goes.0);
                }))
            | inr not_behind ↦
                let place : f.0 ≡ k = omega (arith, le, not_behind) in
                elim x.cause [
                  | inl same ↦ stop.1 ∙ ap (λ (f : Fault). halt (List TextMethod) f) (same_fault f k Unexpected place same)
                  | inr limit ↦
                      let next : suc x.gone ≡ k + 1 = omega (arith, x.place, place) in
                      absurd (wrong.stops x.values.0 (subst (λ (n : ℕ). BeginsProgram (take n ts) x.values.0) next (limit_begins ts f x limit)))
                ]
          ]
    ]

pub clear_whole : (ts : List Token) → AllByRecursion IsToken ts → IsClear ts (length ts) → ((p : List TextMethod) × (program ts ≡ Ok p)) ⊎ (program ts ≡ Err (length ts, Unexpected))
clear_whole ts h clear =
    elim (gone ts) [
      | inl read ↦ inl read
      | inr stop ↦
          let le = clear_before ts (length ts) stop.0 (omega arith) clear stop.1 in
          let end = end_unexpected ts stop.0.0 stop.0.1 h stop.1 le in
          inr (stop.1 ∙ ap (λ (f : Fault). halt (List TextMethod) f) (same_fault stop.0 (length ts) Unexpected end.0 end.1))
    ]
