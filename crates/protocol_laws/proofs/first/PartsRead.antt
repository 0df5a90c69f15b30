-- An event reads its parts alone: where two states have the same parts in its footprint, it is allowed in both or
-- in neither, and makes the same of them.
use Rattle.std.specs.Prelude.{◌≡◌, refl, ℕ, zero, suc, ◌+◌, ◌<◌, ◌≤◌, ◌%◌, Option, Some, None, option_map, List, [], ◌∷◌, length, slice_get, slice_set, slice_index_or}
use Rattle.std.proofs.Common.{arith, sym, ap, mod-lt, inl, inr, ◌∙◌}
use Rattle.std.proofs.lemmas.Bool.{cases_lt}
use Rattle.std.proofs.lemmas.Option.{slice_get_past}
use Rattle.snap_base.proofs.Lists.{set_outside}
use Rattle.protocol.specs.Fixed.{Fixed}
use Rattle.protocol.specs.Parts.{Log, Cell, Machine}
use Rattle.protocol.specs.Events.{Event, Submit, Pass, Form, Admit, Arrive, Ask, Take, Run, Send, End, Close, Complete, Sync, Note, Commit, Settle, Abort, Rollback, DropSub, DropControl, Prepare, Vouch, Decide, Seal, Finish, Reply, Trim, Part, LogPart, CellPart, part, footprint}
use Rattle.protocol.specs.Conditions.{conditions}
use Rattle.protocol.specs.Effects.{after, log_at, synced, no_cell, no_log}
use Rattle.protocol.specs.Footprints.{HasLogs, SameOn, ReadsItsParts}
use Rattle.protocol_laws.proofs.first.Times
use Rattle.protocol_laws.proofs.first.PartsByNumber.{part_log, part_cell}

-- ---- the same parts

ring_is : {C : Type 0} (s t : Machine C) → part s 0 ≡ part t 0 → s.ring ≡ t.ring
ring_is s t e = cc e

book_is : {C : Type 0} (s t : Machine C) → part s 1 ≡ part t 1 → s.book ≡ t.book
book_is s t e = cc e

post_is : {C : Type 0} (s t : Machine C) → part s 2 ≡ part t 2 → s.post ≡ t.post
post_is s t e = cc e

desk_is : {C : Type 0} (s t : Machine C) → part s 3 ≡ part t 3 → s.desk ≡ t.desk
desk_is s t e = cc e

same_log : {C : Type 0} (x y : Option Log) → option_map {U = Part C} LogPart x ≡ option_map LogPart y → x ≡ y
same_log None None e = refl
same_log None (Some y) e = absurd (cc e)
same_log (Some x) None e = absurd (cc e)
same_log (Some x) (Some y) e = cc e

same_cell : {C : Type 0} (x y : Option (Cell C)) → option_map CellPart x ≡ option_map CellPart y → x ≡ y
same_cell None None e = refl
same_cell None (Some y) e = absurd (cc e)
same_cell (Some x) None e = absurd (cc e)
same_cell (Some x) (Some y) e = cc e

log_is : {C : Type 0} (s t : Machine C) (l : ℕ) → l < length s.logs → l < length t.logs → part s (4 + l) ≡ part t (4 + l) → slice_get s.logs l ≡ slice_get t.logs l
log_is {C} s t l p q e = same_log {C = C} (slice_get s.logs l) (slice_get t.logs l) (sym (part_log s l p) ∙ (e ∙ part_log t l q))

cell_is : {C : Type 0} (s t : Machine C) (logs a : ℕ) → length s.logs ≡ logs → length t.logs ≡ logs → part s (4 + logs + a) ≡ part t (4 + logs + a) → slice_get s.cells a ≡ slice_get t.cells a
cell_is s t logs a p q e = same_cell (slice_get s.cells a) (slice_get t.cells a) (sym (part_cell s logs a p) ∙ (e ∙ part_cell t logs a q))

get_default : {X : Type 0} → X → Option X → X
get_default d None = d
get_default d (Some x) = x

or_default : {X : Type 0} (xs : List X) (i : ℕ) (d : X) → slice_index_or xs i d ≡ get_default d (slice_get xs i)
unfolding get_default
or_default [] i d = refl
or_default (x ∷ xs) zero d = refl
or_default (x ∷ xs) (suc i) d = or_default xs i d

set_get : {X : Type 0} (xs : List X) (i : ℕ) (x : X) → slice_get (slice_set xs i x) i ≡ option_map (λ z. x) (slice_get xs i)
set_get [] i x = refl
set_get (y ∷ ys) zero x = refl
set_get (y ∷ ys) (suc i) x = set_get ys i x

at_get : {X : Type 0} (xs ys : List X) (i : ℕ) (d : X) → slice_get xs i ≡ slice_get ys i → slice_index_or xs i d ≡ slice_index_or ys i d
at_get xs ys i d e = or_default xs i d ∙ (ap (get_default d) e ∙ sym (or_default ys i d))

set_lt : {X : Type 0} (xs : List X) (i : ℕ) (x : X) → i < length xs → i < length (slice_set xs i x)
set_lt xs i x h = omega (arith, h, Times.length_set xs i x)

set_same : {X : Type 0} (xs ys : List X) (i : ℕ) (x y : X) → slice_get xs i ≡ slice_get ys i → x ≡ y → slice_get (slice_set xs i x) i ≡ slice_get (slice_set ys i y) i
set_same xs ys i x y e f = set_get xs i x ∙ (ap (option_map (λ z. x)) e ∙ (rw f refl ∙ sym (set_get ys i y)))

-- a log and a cell of the states after
log_after : {C : Type 0} (s t : Machine C) (l : ℕ) → l < length s.logs → l < length t.logs → slice_get s.logs l ≡ slice_get t.logs l → part s (4 + l) ≡ part t (4 + l)
log_after s t l p q e = part_log s l p ∙ (ap (option_map LogPart) e ∙ sym (part_log t l q))

cell_after : {C : Type 0} (s t : Machine C) (logs a : ℕ) → length s.logs ≡ logs → length t.logs ≡ logs → slice_get s.cells a ≡ slice_get t.cells a → part s (4 + logs + a) ≡ part t (4 + logs + a)
cell_after s t logs a p q e = part_cell s logs a p ∙ (ap (option_map CellPart) e ∙ sym (part_cell t logs a q))

-- ---- event by event

reads_submit : {C : Type 0} (w : Fixed C) (n : ℕ) (s t : Machine C) → HasLogs w s → HasLogs w t → 1 ≤ w.text.logs → SameOn (footprint w.text.logs (Submit n)) s t → ReadsItsParts w (Submit n) s t
unfolding conditions after
reads_submit w n s t p q some h =
    let er = ring_is s t h.0 in
    record { asks = rw (er) refl; parts = (rw (er) refl, tt) }

reads_pass : {C : Type 0} (w : Fixed C) (c : ℕ) (s t : Machine C) → HasLogs w s → HasLogs w t → 1 ≤ w.text.logs → SameOn (footprint w.text.logs (Pass c)) s t → ReadsItsParts w (Pass c) s t
unfolding conditions after
reads_pass w c s t p q some h =
    let er = ring_is s t h.0 in
    record { asks = rw (er) refl; parts = (rw (er) refl, tt) }

reads_form : {C : Type 0} (w : Fixed C) (k : ℕ) (s t : Machine C) → HasLogs w s → HasLogs w t → 1 ≤ w.text.logs → SameOn (footprint w.text.logs (Form k)) s t → ReadsItsParts w (Form k) s t
unfolding conditions after
reads_form w k s t p q some h =
    let er = ring_is s t h.0 in
    let ep = post_is s t h.1.0 in
    let ed = desk_is s t h.1.1.0 in
    let lt : k % w.text.logs < w.text.logs = mod-lt k some in
    let ls : k % w.text.logs < length s.logs = omega (arith, lt, p) in
    let lr : k % w.text.logs < length t.logs = omega (arith, lt, q) in
    let lg = log_is s t (k % w.text.logs) ls lr h.1.1.1.0 in
    let la = at_get s.logs t.logs (k % w.text.logs) no_log lg in
    record { asks = rw (er, ed) refl; parts = (rw (er) refl, (rw (er, ep) refl, (rw (er, ed) refl, (log_after (after w (Form k) s) (after w (Form k) t) (k % w.text.logs) (set_lt s.logs (k % w.text.logs) _ ls) (set_lt t.logs (k % w.text.logs) _ lr) (set_same s.logs t.logs (k % w.text.logs) _ _ lg (rw (er, la) refl)), tt)))) }

reads_admit : {C : Type 0} (w : Fixed C) (i : ℕ) (s t : Machine C) → HasLogs w s → HasLogs w t → 1 ≤ w.text.logs → SameOn (footprint w.text.logs (Admit i)) s t → ReadsItsParts w (Admit i) s t
unfolding conditions after
reads_admit w i s t p q some h =
    let er = ring_is s t h.0 in
    let eb = book_is s t h.1.0 in
    let ep = post_is s t h.1.1.0 in
    record { asks = rw (er, eb) refl; parts = (rw (er) refl, (rw (er, eb) refl, (rw (er, ep) refl, tt))) }

reads_arrive : {C : Type 0} (w : Fixed C) (k a : ℕ) (s t : Machine C) → HasLogs w s → HasLogs w t → 1 ≤ w.text.logs → SameOn (footprint w.text.logs (Arrive k a)) s t → ReadsItsParts w (Arrive k a) s t
unfolding conditions after
reads_arrive w k a s t p q some h =
    let eb = book_is s t h.0 in
    let ep = post_is s t h.1.0 in
    let cg = cell_is s t w.text.logs a p q h.1.1.0 in
    let ca = at_get s.cells t.cells a no_cell cg in
    record { asks = rw (ep, eb, cg) refl; parts = (rw (eb, ca) refl, (rw (ep) refl, (cell_after (after w (Arrive k a) s) (after w (Arrive k a) t) w.text.logs a p q (set_same s.cells t.cells a _ _ cg (rw (ep, ca) refl)), tt))) }

reads_ask : {C : Type 0} (w : Fixed C) (i a : ℕ) (s t : Machine C) → HasLogs w s → HasLogs w t → 1 ≤ w.text.logs → SameOn (footprint w.text.logs (Ask i a)) s t → ReadsItsParts w (Ask i a) s t
unfolding conditions after
reads_ask w i a s t p q some h =
    let eb = book_is s t h.0 in
    let ep = post_is s t h.1.0 in
    let cg = cell_is s t w.text.logs a p q h.1.1.0 in
    let ca = at_get s.cells t.cells a no_cell cg in
    record { asks = rw (ep, eb, cg) refl; parts = (rw (eb, ca) refl, (rw (ep) refl, (cell_after (after w (Ask i a) s) (after w (Ask i a) t) w.text.logs a p q (set_same s.cells t.cells a _ _ cg (rw (ep, eb, ca) refl)), tt))) }

reads_take : {C : Type 0} (w : Fixed C) (i a : ℕ) (s t : Machine C) → HasLogs w s → HasLogs w t → 1 ≤ w.text.logs → SameOn (footprint w.text.logs (Take i a)) s t → ReadsItsParts w (Take i a) s t
unfolding conditions after
reads_take w i a s t p q some h =
    let ep = post_is s t h.0 in
    let cg = cell_is s t w.text.logs a p q h.1.0 in
    let ca = at_get s.cells t.cells a no_cell cg in
    record { asks = rw (ep, cg) refl; parts = (rw (ep) refl, (cell_after (after w (Take i a) s) (after w (Take i a) t) w.text.logs a p q (set_same s.cells t.cells a _ _ cg (rw (ep, ca) refl)), tt)) }

reads_run : {C : Type 0} (w : Fixed C) (i a : ℕ) (s t : Machine C) → HasLogs w s → HasLogs w t → 1 ≤ w.text.logs → SameOn (footprint w.text.logs (Run i a)) s t → ReadsItsParts w (Run i a) s t
unfolding conditions after
reads_run w i a s t p q some h =
    let cg = cell_is s t w.text.logs a p q h.0 in
    let ca = at_get s.cells t.cells a no_cell cg in
    record { asks = rw (cg) refl; parts = (cell_after (after w (Run i a) s) (after w (Run i a) t) w.text.logs a p q (set_same s.cells t.cells a _ _ cg (rw (ca) refl)), tt) }

reads_send : {C : Type 0} (w : Fixed C) (i a : ℕ) (s t : Machine C) → HasLogs w s → HasLogs w t → 1 ≤ w.text.logs → SameOn (footprint w.text.logs (Send i a)) s t → ReadsItsParts w (Send i a) s t
unfolding conditions after
reads_send w i a s t p q some h =
    let ep = post_is s t h.0 in
    let cg = cell_is s t w.text.logs a p q h.1.0 in
    let ca = at_get s.cells t.cells a no_cell cg in
    record { asks = rw (cg) refl; parts = (rw (ep, ca) refl, (cell_after (after w (Send i a) s) (after w (Send i a) t) w.text.logs a p q (set_same s.cells t.cells a _ _ cg (rw (ca) refl)), tt)) }

reads_end : {C : Type 0} (w : Fixed C) (i a : ℕ) (s t : Machine C) → HasLogs w s → HasLogs w t → 1 ≤ w.text.logs → SameOn (footprint w.text.logs (End i a)) s t → ReadsItsParts w (End i a) s t
unfolding conditions after
reads_end w i a s t p q some h =
    let eb = book_is s t h.0 in
    let ed = desk_is s t h.1.0 in
    let cg = cell_is s t w.text.logs a p q h.1.1.0 in
    let ca = at_get s.cells t.cells a no_cell cg in
    record { asks = rw (cg) refl; parts = (rw (eb, ca) refl, (rw (ed, ca) refl, (cell_after (after w (End i a) s) (after w (End i a) t) w.text.logs a p q (set_same s.cells t.cells a _ _ cg (rw (ca) refl)), tt))) }

reads_close : {C : Type 0} (w : Fixed C) (i a : ℕ) (s t : Machine C) → HasLogs w s → HasLogs w t → 1 ≤ w.text.logs → SameOn (footprint w.text.logs (Close i a)) s t → ReadsItsParts w (Close i a) s t
unfolding conditions after
reads_close w i a s t p q some h =
    let ed = desk_is s t h.0 in
    let cg = cell_is s t w.text.logs a p q h.1.0 in
    let ca = at_get s.cells t.cells a no_cell cg in
    record { asks = rw (ed, cg) refl; parts = (h.0, (cell_after (after w (Close i a) s) (after w (Close i a) t) w.text.logs a p q (set_same s.cells t.cells a _ _ cg (rw (ca) refl)), tt)) }

reads_complete : {C : Type 0} (w : Fixed C) (k a : ℕ) (s t : Machine C) → HasLogs w s → HasLogs w t → 1 ≤ w.text.logs → SameOn (footprint w.text.logs (Complete k a)) s t → ReadsItsParts w (Complete k a) s t
unfolding conditions after
reads_complete w k a s t p q some h =
    let lt : a % w.text.logs < w.text.logs = mod-lt a some in
    let ls : a % w.text.logs < length s.logs = omega (arith, lt, p) in
    let lr : a % w.text.logs < length t.logs = omega (arith, lt, q) in
    let lg = log_is s t (a % w.text.logs) ls lr h.0 in
    let la = at_get s.logs t.logs (a % w.text.logs) no_log lg in
    let cg = cell_is s t w.text.logs a p q h.1.0 in
    let ca = at_get s.cells t.cells a no_cell cg in
    record { asks = rw (cg) refl; parts = (log_after (after w (Complete k a) s) (after w (Complete k a) t) (a % w.text.logs) (set_lt s.logs (a % w.text.logs) _ ls) (set_lt t.logs (a % w.text.logs) _ lr) (set_same s.logs t.logs (a % w.text.logs) _ _ lg (rw (la, ca) refl)), (cell_after (after w (Complete k a) s) (after w (Complete k a) t) w.text.logs a (Times.length_set s.logs _ _ ∙ p) (Times.length_set t.logs _ _ ∙ q) (set_same s.cells t.cells a _ _ cg (rw (ca) refl)), tt)) }

reads_note : {C : Type 0} (w : Fixed C) (k a : ℕ) (s t : Machine C) → HasLogs w s → HasLogs w t → 1 ≤ w.text.logs → SameOn (footprint w.text.logs (Note k a)) s t → ReadsItsParts w (Note k a) s t
unfolding conditions after
reads_note w k a s t p q some h =
    let ed = desk_is s t h.0 in
    let lt : a % w.text.logs < w.text.logs = mod-lt a some in
    let ls : a % w.text.logs < length s.logs = omega (arith, lt, p) in
    let lr : a % w.text.logs < length t.logs = omega (arith, lt, q) in
    let lg = log_is s t (a % w.text.logs) ls lr h.1.0 in
    let la = at_get s.logs t.logs (a % w.text.logs) no_log lg in
    record { asks = rw (ed, lg) refl; parts = (rw (ed) refl, (log_after (after w (Note k a) s) (after w (Note k a) t) (a % w.text.logs) ls lr lg, tt)) }

reads_commit : {C : Type 0} (w : Fixed C) (k : ℕ) (s t : Machine C) → HasLogs w s → HasLogs w t → 1 ≤ w.text.logs → SameOn (footprint w.text.logs (Commit k)) s t → ReadsItsParts w (Commit k) s t
unfolding conditions after
reads_commit w k s t p q some h =
    let ed = desk_is s t h.0 in
    let lt : k % w.text.logs < w.text.logs = mod-lt k some in
    let ls : k % w.text.logs < length s.logs = omega (arith, lt, p) in
    let lr : k % w.text.logs < length t.logs = omega (arith, lt, q) in
    let lg = log_is s t (k % w.text.logs) ls lr h.1.0 in
    let la = at_get s.logs t.logs (k % w.text.logs) no_log lg in
    record { asks = rw (ed, lg) refl; parts = (rw (ed) refl, (log_after (after w (Commit k) s) (after w (Commit k) t) (k % w.text.logs) (set_lt s.logs (k % w.text.logs) _ ls) (set_lt t.logs (k % w.text.logs) _ lr) (set_same s.logs t.logs (k % w.text.logs) _ _ lg (rw (la, ed) refl)), tt)) }

reads_settle : {C : Type 0} (w : Fixed C) (k : ℕ) (s t : Machine C) → HasLogs w s → HasLogs w t → 1 ≤ w.text.logs → SameOn (footprint w.text.logs (Settle k)) s t → ReadsItsParts w (Settle k) s t
unfolding conditions after
reads_settle w k s t p q some h =
    let ed = desk_is s t h.0 in
    let lt : k % w.text.logs < w.text.logs = mod-lt k some in
    let ls : k % w.text.logs < length s.logs = omega (arith, lt, p) in
    let lr : k % w.text.logs < length t.logs = omega (arith, lt, q) in
    let lg = log_is s t (k % w.text.logs) ls lr h.1.0 in
    let la = at_get s.logs t.logs (k % w.text.logs) no_log lg in
    record { asks = rw (ed, lg) refl; parts = (rw (ed) refl, (log_after (after w (Settle k) s) (after w (Settle k) t) (k % w.text.logs) ls lr lg, tt)) }

reads_abort : {C : Type 0} (w : Fixed C) (k : ℕ) (s t : Machine C) → HasLogs w s → HasLogs w t → 1 ≤ w.text.logs → SameOn (footprint w.text.logs (Abort k)) s t → ReadsItsParts w (Abort k) s t
unfolding conditions after
reads_abort w k s t p q some h =
    let er = ring_is s t h.0 in
    let eb = book_is s t h.1.0 in
    let ed = desk_is s t h.1.1.0 in
    record { asks = rw (ed) refl; parts = (rw (er) refl, (rw (er, eb, ed) refl, (rw (ed) refl, tt))) }

reads_rollback : {C : Type 0} (w : Fixed C) (a : ℕ) (s t : Machine C) → HasLogs w s → HasLogs w t → 1 ≤ w.text.logs → SameOn (footprint w.text.logs (Rollback a)) s t → ReadsItsParts w (Rollback a) s t
unfolding conditions after
reads_rollback w a s t p q some h =
    let eb = book_is s t h.0 in
    let cg = cell_is s t w.text.logs a p q h.1.0 in
    let ca = at_get s.cells t.cells a no_cell cg in
    record { asks = rw (eb, cg) refl; parts = (h.0, (cell_after (after w (Rollback a) s) (after w (Rollback a) t) w.text.logs a p q (set_same s.cells t.cells a _ _ cg (rw (eb, ca) refl)), tt)) }

reads_dropsub : {C : Type 0} (w : Fixed C) (k a : ℕ) (s t : Machine C) → HasLogs w s → HasLogs w t → 1 ≤ w.text.logs → SameOn (footprint w.text.logs (DropSub k a)) s t → ReadsItsParts w (DropSub k a) s t
unfolding conditions after
reads_dropsub w k a s t p q some h =
    let eb = book_is s t h.0 in
    let ep = post_is s t h.1.0 in
    record { asks = rw (ep, eb) refl; parts = (h.0, (rw (ep) refl, tt)) }

reads_dropcontrol : {C : Type 0} (w : Fixed C) (i : ℕ) (s t : Machine C) → HasLogs w s → HasLogs w t → 1 ≤ w.text.logs → SameOn (footprint w.text.logs (DropControl i)) s t → ReadsItsParts w (DropControl i) s t
unfolding conditions after
reads_dropcontrol w i s t p q some h =
    let eb = book_is s t h.0 in
    let ep = post_is s t h.1.0 in
    record { asks = rw (ep, eb) refl; parts = (h.0, (rw (ep) refl, tt)) }

reads_prepare : {C : Type 0} (w : Fixed C) (i a : ℕ) (s t : Machine C) → HasLogs w s → HasLogs w t → 1 ≤ w.text.logs → SameOn (footprint w.text.logs (Prepare i a)) s t → ReadsItsParts w (Prepare i a) s t
unfolding conditions after
reads_prepare w i a s t p q some h =
    let eb = book_is s t h.0 in
    let lt : a % w.text.logs < w.text.logs = mod-lt a some in
    let ls : a % w.text.logs < length s.logs = omega (arith, lt, p) in
    let lr : a % w.text.logs < length t.logs = omega (arith, lt, q) in
    let lg = log_is s t (a % w.text.logs) ls lr h.1.0 in
    let la = at_get s.logs t.logs (a % w.text.logs) no_log lg in
    let cg = cell_is s t w.text.logs a p q h.1.1.0 in
    let ca = at_get s.cells t.cells a no_cell cg in
    record { asks = rw (eb) refl; parts = (rw (eb) refl, (log_after (after w (Prepare i a) s) (after w (Prepare i a) t) (a % w.text.logs) (set_lt s.logs (a % w.text.logs) _ ls) (set_lt t.logs (a % w.text.logs) _ lr) (set_same s.logs t.logs (a % w.text.logs) _ _ lg (rw (la, ca) refl)), (cell_after (after w (Prepare i a) s) (after w (Prepare i a) t) w.text.logs a (Times.length_set s.logs _ _ ∙ p) (Times.length_set t.logs _ _ ∙ q) cg, tt))) }

reads_vouch : {C : Type 0} (w : Fixed C) (i a : ℕ) (s t : Machine C) → HasLogs w s → HasLogs w t → 1 ≤ w.text.logs → SameOn (footprint w.text.logs (Vouch i a)) s t → ReadsItsParts w (Vouch i a) s t
unfolding conditions after
reads_vouch w i a s t p q some h =
    let eb = book_is s t h.0 in
    let lt : a % w.text.logs < w.text.logs = mod-lt a some in
    let ls : a % w.text.logs < length s.logs = omega (arith, lt, p) in
    let lr : a % w.text.logs < length t.logs = omega (arith, lt, q) in
    let lg = log_is s t (a % w.text.logs) ls lr h.1.0 in
    let la = at_get s.logs t.logs (a % w.text.logs) no_log lg in
    record { asks = rw (eb, lg) refl; parts = (rw (eb) refl, (log_after (after w (Vouch i a) s) (after w (Vouch i a) t) (a % w.text.logs) ls lr lg, tt)) }

reads_decide : {C : Type 0} (w : Fixed C) (i : ℕ) (s t : Machine C) → HasLogs w s → HasLogs w t → 1 ≤ w.text.logs → SameOn (footprint w.text.logs (Decide i)) s t → ReadsItsParts w (Decide i) s t
unfolding conditions after
reads_decide w i s t p q some h =
    let eb = book_is s t h.0 in
    let ed = desk_is s t h.1.0 in
    let lt : i % w.text.logs < w.text.logs = mod-lt i some in
    let ls : i % w.text.logs < length s.logs = omega (arith, lt, p) in
    let lr : i % w.text.logs < length t.logs = omega (arith, lt, q) in
    let lg = log_is s t (i % w.text.logs) ls lr h.1.1.0 in
    let la = at_get s.logs t.logs (i % w.text.logs) no_log lg in
    record { asks = rw (eb, ed) refl; parts = (rw (eb) refl, (h.1.0, (log_after (after w (Decide i) s) (after w (Decide i) t) (i % w.text.logs) (set_lt s.logs (i % w.text.logs) _ ls) (set_lt t.logs (i % w.text.logs) _ lr) (set_same s.logs t.logs (i % w.text.logs) _ _ lg (rw (la, eb) refl)), tt))) }

reads_seal : {C : Type 0} (w : Fixed C) (i : ℕ) (s t : Machine C) → HasLogs w s → HasLogs w t → 1 ≤ w.text.logs → SameOn (footprint w.text.logs (Seal i)) s t → ReadsItsParts w (Seal i) s t
unfolding conditions after
reads_seal w i s t p q some h =
    let eb = book_is s t h.0 in
    let lt : i % w.text.logs < w.text.logs = mod-lt i some in
    let ls : i % w.text.logs < length s.logs = omega (arith, lt, p) in
    let lr : i % w.text.logs < length t.logs = omega (arith, lt, q) in
    let lg = log_is s t (i % w.text.logs) ls lr h.1.0 in
    let la = at_get s.logs t.logs (i % w.text.logs) no_log lg in
    record { asks = rw (eb, lg) refl; parts = (rw (eb) refl, (log_after (after w (Seal i) s) (after w (Seal i) t) (i % w.text.logs) ls lr lg, tt)) }

reads_finish : {C : Type 0} (w : Fixed C) (i a : ℕ) (s t : Machine C) → HasLogs w s → HasLogs w t → 1 ≤ w.text.logs → SameOn (footprint w.text.logs (Finish i a)) s t → ReadsItsParts w (Finish i a) s t
unfolding conditions after
reads_finish w i a s t p q some h =
    let eb = book_is s t h.0 in
    let cg = cell_is s t w.text.logs a p q h.1.0 in
    let ca = at_get s.cells t.cells a no_cell cg in
    record { asks = rw (eb) refl; parts = (rw (eb) refl, (cell_after (after w (Finish i a) s) (after w (Finish i a) t) w.text.logs a p q (set_same s.cells t.cells a _ _ cg (rw (eb, ca) refl)), tt)) }

reads_reply : {C : Type 0} (w : Fixed C) (n : ℕ) (s t : Machine C) → HasLogs w s → HasLogs w t → 1 ≤ w.text.logs → SameOn (footprint w.text.logs (Reply n)) s t → ReadsItsParts w (Reply n) s t
unfolding conditions after
reads_reply w n s t p q some h =
    let eb = book_is s t h.0 in
    let ed = desk_is s t h.1.0 in
    record { asks = rw (ed, eb) refl; parts = (h.0, (rw (ed) refl, tt)) }

reads_trim : {C : Type 0} (w : Fixed C) (k a : ℕ) (s t : Machine C) → HasLogs w s → HasLogs w t → 1 ≤ w.text.logs → SameOn (footprint w.text.logs (Trim k a)) s t → ReadsItsParts w (Trim k a) s t
unfolding conditions after
reads_trim w k a s t p q some h =
    let ed = desk_is s t h.0 in
    let cg = cell_is s t w.text.logs a p q h.1.0 in
    let ca = at_get s.cells t.cells a no_cell cg in
    record { asks = rw (ed) refl; parts = (rw (ed) refl, (cell_after (after w (Trim k a) s) (after w (Trim k a) t) w.text.logs a p q (set_same s.cells t.cells a _ _ cg (rw (ca) refl)), tt)) }

reads_sync : {C : Type 0} (w : Fixed C) (l : ℕ) (s t : Machine C) → HasLogs w s → HasLogs w t → SameOn (footprint w.text.logs (Sync l)) s t → ReadsItsParts w (Sync l) s t
unfolding conditions after
reads_sync w l s t p q h = elim (cases_lt l w.text.logs) [ inl a ↦ there a | inr b ↦ past b ]
  where
    there : l < w.text.logs → ReadsItsParts w (Sync l) s t
    there lt =
        let ls : l < length s.logs = omega (arith, lt, p) in
        let lr : l < length t.logs = omega (arith, lt, q) in
        let lg = log_is s t l ls lr h.0 in
        let la = at_get s.logs t.logs l no_log lg in
        record { asks = rw lg refl; parts = (log_after (after w (Sync l) s) (after w (Sync l) t) l (set_lt s.logs l _ ls) (set_lt t.logs l _ lr) (set_same s.logs t.logs l _ _ lg (rw la refl)), tt) }

    past : w.text.logs ≤ l → ReadsItsParts w (Sync l) s t
    past b = record {
      asks = rw (slice_get_past s.logs l (omega (arith, b, p)), slice_get_past t.logs l (omega (arith, b, q))) refl;
      parts = (rw (set_outside s.logs l (synced (log_at s l)) (omega (arith, b, p)), set_outside t.logs l (synced (log_at t l)) (omega (arith, b, q))) h.0, tt);
    }

pub reads_its_parts : {C : Type 0} (w : Fixed C) (e : Event) (s t : Machine C) → HasLogs w s → HasLogs w t → 1 ≤ w.text.logs → SameOn (footprint w.text.logs e) s t → ReadsItsParts w e s t
reads_its_parts w (Submit n) s t p q some h = reads_submit w n s t p q some h
reads_its_parts w (Pass c) s t p q some h = reads_pass w c s t p q some h
reads_its_parts w (Form k) s t p q some h = reads_form w k s t p q some h
reads_its_parts w (Admit i) s t p q some h = reads_admit w i s t p q some h
reads_its_parts w (Arrive k a) s t p q some h = reads_arrive w k a s t p q some h
reads_its_parts w (Ask i a) s t p q some h = reads_ask w i a s t p q some h
reads_its_parts w (Take i a) s t p q some h = reads_take w i a s t p q some h
reads_its_parts w (Run i a) s t p q some h = reads_run w i a s t p q some h
reads_its_parts w (Send i a) s t p q some h = reads_send w i a s t p q some h
reads_its_parts w (End i a) s t p q some h = reads_end w i a s t p q some h
reads_its_parts w (Close i a) s t p q some h = reads_close w i a s t p q some h
reads_its_parts w (Complete k a) s t p q some h = reads_complete w k a s t p q some h
reads_its_parts w (Sync l) s t p q some h = reads_sync w l s t p q h
reads_its_parts w (Note k a) s t p q some h = reads_note w k a s t p q some h
reads_its_parts w (Commit k) s t p q some h = reads_commit w k s t p q some h
reads_its_parts w (Settle k) s t p q some h = reads_settle w k s t p q some h
reads_its_parts w (Abort k) s t p q some h = reads_abort w k s t p q some h
reads_its_parts w (Rollback a) s t p q some h = reads_rollback w a s t p q some h
reads_its_parts w (DropSub k a) s t p q some h = reads_dropsub w k a s t p q some h
reads_its_parts w (DropControl i) s t p q some h = reads_dropcontrol w i s t p q some h
reads_its_parts w (Prepare i a) s t p q some h = reads_prepare w i a s t p q some h
reads_its_parts w (Vouch i a) s t p q some h = reads_vouch w i a s t p q some h
reads_its_parts w (Decide i) s t p q some h = reads_decide w i s t p q some h
reads_its_parts w (Seal i) s t p q some h = reads_seal w i s t p q some h
reads_its_parts w (Finish i a) s t p q some h = reads_finish w i a s t p q some h
reads_its_parts w (Reply n) s t p q some h = reads_reply w n s t p q some h
reads_its_parts w (Trim k a) s t p q some h = reads_trim w k a s t p q some h
