-- What the parts of a whole hand count together.
use Rattle.std.proofs.Common.{◌≡◌, ℕ, suc, ◌+◌, ◌-◌, ◌^◌, ◌<◌, min, Option, Some, None, option_map, List, [], ◌∷◌, length, map, drop, slice_get, refl, sym, ap, ◌∙◌, arith}
use Rattle.std.proofs.lemmas.List.{length-map, length-drop}
use Rattle.aml_slice.specs.Controls.{Rest}
use Rattle.core_rows.specs.book_part.Halves.{Halves, Shows}
use Rattle.core_rows.proofs.book_part.Shown.{is_book}
use Rattle.core_rows.specs.log_set.Shown.{ShowsLog, told_bytes}
use Rattle.core_rows.specs.log_set.Logs.{LogList}
use Rattle.protocol.specs.BookParts.{with_votes}
use Rattle.protocol.specs.Conditions.{epoch}
use Rattle.protocol.specs.Events.{cell, log}
use Rattle.protocol.specs.Fixed.{Code, Fixed}
use Rattle.protocol.specs.Left.{act_left, act_tids, batch_left, cell_left, control_left, left, log_left, reply_left, ring_left, sub_left, total}
use Rattle.protocol.specs.Parts.{Act, Desk, Log, Machine, Post, Ring}
use Rattle.snap_hand.specs.Hands.{IsWhole, Parts}
use Rattle.snap_hand.specs.Left.{FitsAll, of_part}
use Rattle.snap_hand.proofs.Held.{cell_there, log_there}

-- ---- up to the greatest number

pub capped : (sum x y a b : ℕ) → sum ≡ min (x + y) (2 ^ 64 - 1) → x ≡ min a (2 ^ 64 - 1) → y ≡ min b (2 ^ 64 - 1) → sum ≡ min (a + b) (2 ^ 64 - 1)
capped sum x y a b s p q = omega arith

-- ---- places that are all filled

total_parts : {X Y : Type 0} (f : X → ℕ) (g : Y → ℕ) (os : List (Option X)) (ys : List Y)
    → length ys ≡ length os
    → ((i : ℕ) → i < length os → (x : X) × (slice_get os i ≡ Some (Some x)))
    → ((i : ℕ) (x : X) → slice_get os i ≡ Some (Some x) → (y : Y) × ((slice_get ys i ≡ Some y) × (f x ≡ g y)))
    → total (of_part f) os ≡ total g ys
total_parts f g [] [] many there fits = refl
total_parts f g [] (y ∷ ys) many there fits = absurd (omega arith)
total_parts f g (o ∷ os) [] many there fits = absurd (omega arith)
total_parts f g (None ∷ os) (y ∷ ys) many there fits = let here = (there 0 (omega arith)).1 in absurd (cc here)
total_parts f g (Some x ∷ os) (y ∷ ys) many there fits =
    let here = fits 0 x refl in
    let at = here.1.0 in
    let same : here.0 ≡ y = cc at in
    let first : f x ≡ g y = here.1.1 ∙ ap g same in
    let rest : total (of_part f) os ≡ total g ys = total_parts f g os ys (omega arith) (λ i within. there (suc i) (omega (arith, within))) (λ i z e. fits (suc i) z e) in
    λ j. first j + rest j

-- the same of places as they are kept
pub total_kept : {X Z : Type 0} (h : Z → X) (f : X → ℕ) (os : List (Option Z)) → total (λ o. of_part f (option_map h o)) os ≡ total (of_part f) (map (option_map h) os)
total_kept h f [] = refl
total_kept h f (o ∷ os) = ap (λ n. of_part f (option_map h o) + n) (total_kept h f os)

-- ---- logs and cells

abbrev pub log_waits : LogList → ℕ
log_waits list = length list.waiting

log_waits_is : (list : LogList) (g : Log) → ShowsLog list g → log_waits list ≡ log_left g
log_waits_is list g shows = ap length shows.waiting ∙ length-map (drop g.synced g.records) told_bytes ∙ length-drop g.synced g.records

module _ (h : Parts) (s : Machine Rest) (whole : IsWhole h) (all : FitsAll h s) where
  logs_of_hand : total (of_part log_waits) h.logs ≡ total log_left s.logs
  logs_of_hand =
      total_parts log_waits log_left h.logs s.logs all.logs (λ l within. log_there h l (whole (log l)) within)
      (λ l x e. let y = all.fits.logs l x e in (y.0, (y.1.0, log_waits_is x y.0 y.1.1)))

  cells_of_hand : (code : Code Rest) (tids acts : List ℕ) (e : ℕ) → tids ≡ acts → total (of_part (cell_left code tids e)) h.cells ≡ total (cell_left code acts e) s.cells
  cells_of_hand code tids acts e same =
      total_parts (cell_left code tids e) (cell_left code acts e) h.cells s.cells all.cells (λ a within. cell_there h (length h.logs) a refl (whole (cell (length h.logs) a)) within)
      (λ a x at. (x, (all.fits.cells a x at, ap (λ ts. cell_left code ts e x) same)))

-- ---- ACTs

tids_with_votes : (votes acts : List Act) → map (λ x. x.tid) (with_votes votes acts) ≡ map (λ x. x.tid) acts
tids_with_votes votes [] = refl
tids_with_votes votes (x ∷ xs) = ap (λ ts. x.tid ∷ ts) (tids_with_votes votes xs)

abbrev pub tids_in : Halves → List ℕ
tids_in b = map (λ x. x.tid) b.orders.acts

tids_shown : (b : Halves) (s : Machine Rest) → Shows b s.book → tids_in b ≡ act_tids s
tids_shown b s shows = sym (tids_with_votes b.votes.acts b.orders.acts) ∙ ap (λ k. map (λ x. x.tid) k.acts) (sym (is_book b s.book shows))

-- ---- all parts

-- what each part counts, where these are the ACTs
abbrev pub by_part : Fixed Rest → Machine Rest → List ℕ → Ring → Post Rest → Desk → ℕ → ℕ → ℕ
by_part w s tids r p d logs cells =
    ((((ring_left w r + total act_left s.book.acts)
    + (total sub_left p.subs + total (control_left w.code tids) p.controls))
    + (total batch_left d.batches + total reply_left d.replied))
    + logs) + cells

pub hand_left : (w : Fixed Rest) (h : Parts) (s : Machine Rest) (r : Ring) (b : Halves) (p : Post Rest) (d : Desk)
    → IsWhole h → FitsAll h s → h.ring ≡ Some r → h.book ≡ Some b → h.post ≡ Some p → h.desk ≡ Some d
    → by_part w s (tids_in b) r p d (total (of_part log_waits) h.logs) (total (of_part (cell_left w.code (tids_in b) (epoch s.book))) h.cells) ≡ left w s
hand_left w h s r b p d whole all ring book post desk =
    let tids = tids_shown b s (all.fits.book b book) in
    let is_ring = sym (all.fits.ring r ring) in
    let is_post = sym (all.fits.post p post) in
    let is_desk = sym (all.fits.desk d desk) in
    let logs = logs_of_hand h s whole all in
    let cells = cells_of_hand h s whole all w.code (tids_in b) (act_tids s) (epoch s.book) tids in
    let parts : by_part w s (tids_in b) r p d (total (of_part log_waits) h.logs) (total (of_part (cell_left w.code (tids_in b) (epoch s.book))) h.cells)
    ≡ by_part w s (act_tids s) s.ring s.post s.desk (total log_left s.logs) (total (cell_left w.code (act_tids s) (epoch s.book)) s.cells) =
    λ j. by_part w s (tids j) (is_ring j) (is_post j) (is_desk j) (logs j) (cells j) in
    omega (arith, parts)
