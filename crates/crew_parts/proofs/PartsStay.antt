-- A part of a state is one of each state that has the same part under its number; and what waits on a log is the same then.
use Rattle.std.proofs.Common.{◌≡◌, ℕ, zero, suc, ◌+◌, ◌-◌, ◌<◌, Option, None, Some, option_map, List, [], ◌∷◌, length, slice_get, get_or, refl, sym, ap, subst, ◌∙◌, arith}
use Rattle.aml_slice.specs.Controls.{Rest}
use Rattle.snap_hand.specs.book_part.Halves.{Shows}
use Rattle.protocol.specs.Effects.{log_at, no_log}
use Rattle.protocol.specs.Events.{Part, LogPart, CellPart, part, log}
use Rattle.protocol.specs.Fixed.{Fixed}
use Rattle.protocol.specs.Parts.{Log, Cell, Machine}
use Rattle.protocol_laws.proofs.first.PartsByNumber.{part_log, part_cell}
use Rattle.snap_hand.specs.Shown.{Shown, TheRing, TheBook, ThePost, TheDesk, TheLog, TheCell, IsPartOf}

ring_is : (s t : Machine Rest) → part s 0 ≡ part t 0 → s.ring ≡ t.ring
ring_is s t e = cc e

pub book_is : (s t : Machine Rest) → part s 1 ≡ part t 1 → s.book ≡ t.book
book_is s t e = cc e

post_is : (s t : Machine Rest) → part s 2 ≡ part t 2 → s.post ≡ t.post
post_is s t e = cc e

pub desk_is : (s t : Machine Rest) → part s 3 ≡ part t 3 → s.desk ≡ t.desk
desk_is s t e = cc e

same_log : (x y : Option Log) → option_map {U = Part Rest} LogPart x ≡ option_map LogPart y → x ≡ y
same_log None None e = refl
same_log None (Some y) e = absurd (cc e)
same_log (Some x) None e = absurd (cc e)
same_log (Some x) (Some y) e = cc e

same_cell : (x y : Option (Cell Rest)) → option_map {U = Part Rest} CellPart x ≡ option_map CellPart y → x ≡ y
same_cell None None e = refl
same_cell None (Some y) e = absurd (cc e)
same_cell (Some x) None e = absurd (cc e)
same_cell (Some x) (Some y) e = cc e

at_number : (s t : Machine Rest) (i j : ℕ) → i ≡ j → part t i ≡ part s i → part s j ≡ part t j
at_number s t i j e same = sym (subst (λ k. part t k ≡ part s k) e same)

abbrev get_default : Log → Option Log → Log
get_default d None = d
get_default d (Some x) = x

pub log_stays : (s t : Machine Rest) (l : ℕ) → l < length s.logs → l < length t.logs → part t (log l) ≡ part s (log l) → slice_get s.logs l ≡ slice_get t.logs l
log_stays s t l in_s in_t same = same_log (slice_get s.logs l) (slice_get t.logs l) (sym (part_log s l in_s) ∙ (sym same ∙ part_log t l in_t))

module _ (w : Fixed Rest) (s t : Machine Rest) (in_s : length s.logs ≡ w.text.logs) (in_t : length t.logs ≡ w.text.logs) where
  pub part_stays : (i : ℕ) (p : Shown) → part t i ≡ part s i → IsPartOf w s i p → IsPartOf w t i p
  part_stays i (TheRing x) same of = (of.0, sym (ring_is s t (at_number s t i 0 of.0 same)) ∙ of.1)
  part_stays i (TheBook x) same of = (of.0, (subst (Shows x) (book_is s t (at_number s t i 1 of.0 same)) of.1.0, of.1.1))
  part_stays i (ThePost x) same of = (of.0, sym (post_is s t (at_number s t i 2 of.0 same)) ∙ of.1)
  part_stays i (TheDesk x) same of = (of.0, sym (desk_is s t (at_number s t i 3 of.0 same)) ∙ of.1)
  part_stays i (TheLog x) same of =
      let l : ℕ = i - 4 in
      let here : i ≡ 4 + l = omega (arith, of.0.0) in
      let within : l < w.text.logs = omega (arith, of.0.0, of.0.1) in
      let moved = log_stays s t l (omega (arith, within, in_s)) (omega (arith, within, in_t)) (subst (λ k. part t k ≡ part s k) here same) in
      (of.0, (of.1.0, (sym moved ∙ of.1.1.0, of.1.1.1)))
  part_stays i (TheCell x) same of =
      let a : ℕ = i - (4 + w.text.logs) in
      let here : i ≡ 4 + w.text.logs + a = omega (arith, of.0.0) in
      let moved = same_cell (slice_get s.cells a) (slice_get t.cells a) (sym (part_cell s w.text.logs a in_s) ∙ (at_number s t i (4 + w.text.logs + a) here same ∙ part_cell t w.text.logs a in_t)) in
      (of.0, sym moved ∙ of.1)

  pub same_log_at : (l : ℕ) → l < w.text.logs → part t (log l) ≡ part s (log l) → log_at s l ≡ log_at t l
  same_log_at l within same =
      or_default s.logs l ∙ (ap (get_default no_log) (log_stays s t l (omega (arith, within, in_s)) (omega (arith, within, in_t)) same) ∙ sym (or_default t.logs l)) where
        or_default : (xs : List Log) (i : ℕ) → get_or xs i no_log ≡ get_default no_log (slice_get xs i)
        or_default [] i = refl
        or_default (x ∷ xs) zero = refl
        or_default (x ∷ xs) (suc i) = or_default xs i
