-- Events at a log of the hand: the log by the number that writes to it, and what is put back beside it.
use Rattle.std.proofs.Common.{◌≡◌, ℕ, ◌%◌, true, Some, None, Result, Ok, Err, OnOk, OnErr, IfErr, slice_get, slice_set, sym, ap, subst, ◌∙◌}
use Rattle.aml_slice.specs.Controls.{Rest}
use Rattle.core_rows.specs.book_part.Halves.{Halves}
use Rattle.core_rows.specs.cell_part.Room.{Roomed}
use Rattle.core_rows.specs.Showing.{ShowsBook, ShowsCell, ShowsDesk, ShowsLogAt}
use Rattle.core_rows.specs.Taken.{IsNo, IsRule, IsTaken}
use Rattle.core_rows.specs.declared.step_no.StepNo.{StepNo}
use Rattle.core_rows.specs.log_set.Logs.{LogList, PendingState}
use Rattle.protocol.specs.Conditions.{IsAllowed}
use Rattle.protocol.specs.Effects.{after}
use Rattle.protocol.specs.Events.{Event, log}
use Rattle.protocol.specs.Fixed.{Fixed}
use Rattle.protocol.specs.Parts.{Cell, Desk, Log, Machine}
use Rattle.snap_hand.specs.Hands.{Parts, Fits, IsHandOf, are_there}
use Rattle.snap_hand.specs.Steps.{IsTakenOn, IsStep, may_want}
use Rattle.snap_hand.proofs.Refits.{book_back, cell_back, desk_back, log_back, hand_with_book, hand_with_cell, hand_with_desk, hand_with_log, same_back, there_with_book, there_with_cell, there_with_desk, there_with_log}
use Rattle.snap_hand.proofs.Stepping.{stepped, stepped_freely}

-- ---- the log that a number writes to

pub log_shown : (h : Parts) (s : Machine Rest) → Fits h s → (l k : ℕ) → l ≡ k → (p : PendingState) → slice_get h.logs l ≡ Some (Some p.log) → ShowsLogAt k p s
log_shown h s f l k e p there = subst (λ m. ShowsLogAt m p s) e (f.logs l p.log there)

-- ---- a row that is taken

pub taken_on : (w : Fixed Rest) (e : Event) (old new : Parts) (Old New : Fixed Rest → Machine Rest → Type 0)
    → ((s : Machine Rest) → Fits old s → Old w s) → ((s : Machine Rest) → Fits old s → New w (after w e s) → Fits new (after w e s))
    → IsTaken {C = Rest} e Old New → IsTakenOn w e old new
taken_on w e old new Old New shows back ok = λ s r f. (let t : IsAllowed w e s × New w (after w e s) = ok w s r (shows s f) in (t.0, back s f t.1))

-- both parts are as before
pub both_same : {E : Type 0} (r : Result (Unit {0}) E) (A B : Type 0) → OnErr r A → OnErr r B → OnErr r (A × B)
both_same (Ok x) A B p q = tt
both_same (Err e) A B p q = (p, q)

-- ---- parts taken out and put back

abbrev lifted : ℕ → Parts → Parts
lifted l z = record z { logs = slice_set z.logs l None }

abbrev laid : ℕ → LogList → Parts → Parts
laid l x z = record z { logs = slice_set z.logs l (Some x) }

abbrev with_desk : Desk → Parts → Parts
with_desk d z = record z { desk = Some d }

abbrev with_book : Halves → Parts → Parts
with_book b z = record z { book = Some b }

abbrev with_log : Parts → ℕ → LogList → Parts
with_log h l x = record h { logs = slice_set (slice_set h.logs l None) l (Some x) }

-- the log as it was
same_log : (h : Parts) (l : ℕ) (x y : LogList) → slice_get h.logs l ≡ Some (Some x) → y ≡ x → with_log h l y ≡ h
same_log h l x y there q = ap (λ z. with_log h l z) q ∙ ap (λ ls. record h { logs = ls }) (same_back h.logs l (Some x) None there)

same_desk : (h : Parts) (d c : Desk) → h.desk ≡ Some d → c ≡ d → with_desk c h ≡ h
same_desk h d c there q = ap (λ o. record h { desk = o }) (ap Some q ∙ sym there)

same_book : (h : Parts) (b c : Halves) → h.book ≡ Some b → c ≡ b → with_book c h ≡ h
same_book h b c there q = ap (λ o. record h { book = o }) (ap Some q ∙ sym there)

-- ---- the desk, beside a log that is read

pub on_desk : (w : Fixed Rest) (e : Event) (h mid new : Parts) (n l : ℕ) (d d2 : Desk) (p : PendingState) (r : Result (Unit {0}) StepNo)
    → ((s : Machine Rest) → after w e s ≡ record s { desk = (after w e s).desk })
    → IsHandOf w h → l ≡ n % w.text.logs
    → h.desk ≡ Some d → mid ≡ record h { desk = None } → slice_get mid.logs l ≡ Some (Some p.log) → new ≡ record mid { desk = Some d2 }
    → OnOk r (IsTaken {C = Rest} e (λ v s. ShowsDesk d s × ShowsLogAt (n % v.text.logs) p s) (λ v s. ShowsDesk d2 s × ShowsLogAt (n % v.text.logs) p s))
    → IfErr r (IsNo {C = Rest} e (λ v s. ShowsDesk d s × ShowsLogAt (n % v.text.logs) p s)) → IfErr r IsRule → OnErr r (d2 ≡ d)
    → IsStep w e h new r
on_desk w e h mid new n l d d2 p r only i at there out log back ok not_now rule same =
    let is : new ≡ with_desk d2 h = back ∙ ap (with_desk d2) out in
    let shows : (s : Machine Rest) → Fits h s → ShowsDesk d s × ShowsLogAt (n % w.text.logs) p s = λ s f. (f.desk d there, log_shown h s f l (n % w.text.logs) at p (sym (ap (λ z. slice_get z.logs l) out) ∙ log)) in
    stepped_freely w e h new (λ v s. ShowsDesk d s × ShowsLogAt (n % v.text.logs) p s)
    (IsTaken {C = Rest} e (λ v s. ShowsDesk d s × ShowsLogAt (n % v.text.logs) p s) (λ v s. ShowsDesk d2 s × ShowsLogAt (n % v.text.logs) p s))
    (d2 ≡ d) r shows rule ok
    (λ t. (
      taken_on w e h new (λ v s. ShowsDesk d s × ShowsLogAt (n % v.text.logs) p s) (λ v s. ShowsDesk d2 s × ShowsLogAt (n % v.text.logs) p s) shows
          (λ s f g. subst (λ z. Fits z (after w e s)) (sym is) (subst (Fits (with_desk d2 h)) (sym (only s)) (desk_back h s f d2 (after w e s).desk g.0))) t,
      subst (IsHandOf w) (sym is) (hand_with_desk w h i (Some d2)),
      ap are_there is ∙ there_with_desk h d2 d there,
    ))
    not_now same (λ q. is ∙ same_desk h d d2 there q)

-- ---- the book, beside a log that is read

pub on_book : (w : Fixed Rest) (e : Event) (h mid new : Parts) (n l : ℕ) (b b2 : Halves) (p : PendingState) (r : Result (Unit {0}) StepNo)
    → ((s : Machine Rest) → after w e s ≡ record s { book = (after w e s).book })
    → IsHandOf w h → l ≡ n % w.text.logs
    → h.book ≡ Some b → mid ≡ record h { book = None } → slice_get mid.logs l ≡ Some (Some p.log) → new ≡ record mid { book = Some b2 }
    → OnOk r (IsTaken {C = Rest} e (λ v s. ShowsBook b s × ShowsLogAt (n % v.text.logs) p s) (λ v s. ShowsBook b2 s × ShowsLogAt (n % v.text.logs) p s))
    → b2.most ≡ b.most
    → IfErr r (IsNo {C = Rest} e (λ v s. ShowsBook b s × ShowsLogAt (n % v.text.logs) p s)) → IfErr r IsRule → OnErr r (b2 ≡ b)
    → IsStep w e h new r
on_book w e h mid new n l b b2 p r only i at there out log back ok room not_now rule same =
    let is : new ≡ with_book b2 h = back ∙ ap (with_book b2) out in
    let shows : (s : Machine Rest) → Fits h s → ShowsBook b s × ShowsLogAt (n % w.text.logs) p s = λ s f. (f.book b there, log_shown h s f l (n % w.text.logs) at p (sym (ap (λ z. slice_get z.logs l) out) ∙ log)) in
    stepped_freely w e h new (λ v s. ShowsBook b s × ShowsLogAt (n % v.text.logs) p s)
    (IsTaken {C = Rest} e (λ v s. ShowsBook b s × ShowsLogAt (n % v.text.logs) p s) (λ v s. ShowsBook b2 s × ShowsLogAt (n % v.text.logs) p s))
    (b2 ≡ b) r shows rule ok
    (λ t. (
      taken_on w e h new (λ v s. ShowsBook b s × ShowsLogAt (n % v.text.logs) p s) (λ v s. ShowsBook b2 s × ShowsLogAt (n % v.text.logs) p s) shows
          (λ s f g. subst (λ z. Fits z (after w e s)) (sym is) (subst (Fits (with_book b2 h)) (sym (only s)) (book_back h s f b2 (after w e s).book g.0))) t,
      subst (IsHandOf w) (sym is) (hand_with_book w h i b b2 there room),
      ap are_there is ∙ there_with_book h b2 b there,
    ))
    not_now same (λ q. is ∙ same_book h b b2 there q)

-- ---- one log

pub on_log : (w : Fixed Rest) (e : Event) (h mid new : Parts) (l : ℕ) (p p2 : PendingState) (v : Machine Rest → Log) (r : Result (Unit {0}) StepNo)
    → ((s : Machine Rest) → after w e s ≡ record s { logs = slice_set s.logs l (v s) })
    → IsHandOf w h
    → slice_get h.logs l ≡ Some (Some p.log) → mid ≡ record h { logs = slice_set h.logs l None } → new ≡ record mid { logs = slice_set mid.logs l (Some p2.log) }
    → OnOk r (IsTaken {C = Rest} e (λ _ s. ShowsLogAt l p s) (λ _ s. ShowsLogAt l p2 s))
    → IfErr r (IsNo {C = Rest} e (λ _ s. ShowsLogAt l p s)) → IfErr r IsRule → OnErr r (p2 ≡ p)
    → IsStep w e h new r
on_log w e h mid new l p p2 v r only i there out back ok not_now rule same =
    let is : new ≡ with_log h l p2.log = back ∙ ap (laid l p2.log) out in
    let shows : (s : Machine Rest) → Fits h s → ShowsLogAt l p s = λ s f. f.logs l p.log there in
    stepped_freely w e h new (λ _ s. ShowsLogAt l p s) (IsTaken {C = Rest} e (λ _ s. ShowsLogAt l p s) (λ _ s. ShowsLogAt l p2 s)) (p2 ≡ p) r shows rule ok
    (λ t. (
      taken_on w e h new (λ _ s. ShowsLogAt l p s) (λ _ s. ShowsLogAt l p2 s) shows
          (λ s f g. subst (λ z. Fits z (after w e s)) (sym is) (subst (Fits (with_log h l p2.log)) (sym (only s)) (log_back h s f l p2.log (v s) (subst (λ z. ShowsLogAt l p2 z) (only s) g)))) t,
      subst (IsHandOf w) (sym is) (hand_with_log w h i l (Some p2.log)),
      ap are_there is ∙ there_with_log h l p2.log p.log there,
    ))
    not_now same (λ q. is ∙ same_log h l p.log p2.log there (ap (λ z. z.log) q))

-- ---- the desk and a log

pub on_desk_and_log : (w : Fixed Rest) (e : Event) (h one two three new : Parts) (n l : ℕ) (d d2 : Desk) (p p2 : PendingState) (v : Machine Rest → Log) (r : Result (Unit {0}) StepNo)
    → ((s : Machine Rest) → after w e s ≡ record s { desk = (after w e s).desk; logs = slice_set s.logs (n % w.text.logs) (v s) })
    → IsHandOf w h → may_want e ≡ true → l ≡ n % w.text.logs
    → h.desk ≡ Some d → one ≡ record h { desk = None } → slice_get one.logs l ≡ Some (Some p.log) → two ≡ lifted l one
    → three ≡ with_desk d2 two → new ≡ laid l p2.log three
    → OnOk r (IsTaken {C = Rest} e (λ v s. ShowsDesk d s × ShowsLogAt (n % v.text.logs) p s) (λ v s. ShowsDesk d2 s × ShowsLogAt (n % v.text.logs) p2 s))
    → IfErr r (IsNo {C = Rest} e (λ v s. ShowsDesk d s × ShowsLogAt (n % v.text.logs) p s)) → OnErr r (d2 ≡ d) → OnErr r (p2.log ≡ p.log)
    → IsStep w e h new r
on_desk_and_log w e h one two three new n l d d2 p p2 v r only i may at there out1 log out2 back1 back2 ok not_now same1 same2 =
    let k : ℕ = n % w.text.logs in
    let here : slice_get h.logs l ≡ Some (Some p.log) = sym (ap (λ z. slice_get z.logs l) out1) ∙ log in
    let is : new ≡ with_log (with_desk d2 h) l p2.log = back2 ∙ ap (laid l p2.log) (back1 ∙ ap (with_desk d2) (out2 ∙ ap (lifted l) out1)) in
    let at_k : new ≡ with_log (with_desk d2 h) k p2.log = is ∙ ap (λ m. with_log (with_desk d2 h) m p2.log) at in
    let shows : (s : Machine Rest) → Fits h s → ShowsDesk d s × ShowsLogAt k p s = λ s f. (f.desk d there, log_shown h s f l k at p here) in
    stepped w e h new (λ v s. ShowsDesk d s × ShowsLogAt (n % v.text.logs) p s)
    (IsTaken {C = Rest} e (λ v s. ShowsDesk d s × ShowsLogAt (n % v.text.logs) p s) (λ v s. ShowsDesk d2 s × ShowsLogAt (n % v.text.logs) p2 s))
    ((d2 ≡ d) × (p2.log ≡ p.log)) r shows may ok
    (λ t. (
      taken_on w e h new (λ v s. ShowsDesk d s × ShowsLogAt (n % v.text.logs) p s) (λ v s. ShowsDesk d2 s × ShowsLogAt (n % v.text.logs) p2 s) shows
          (λ s f g. subst (λ z. Fits z (after w e s)) (sym at_k) (subst (Fits (with_log (with_desk d2 h) k p2.log)) (sym (only s))
          (log_back (with_desk d2 h) (record s { desk = (after w e s).desk }) (desk_back h s f d2 (after w e s).desk g.0) k p2.log (v s) (subst (λ z. ShowsLogAt k p2 z) (only s) g.1)))) t,
      subst (IsHandOf w) (sym at_k) (hand_with_log w (with_desk d2 h) (hand_with_desk w h i (Some d2)) k (Some p2.log)),
      ap are_there is ∙ (there_with_log (with_desk d2 h) l p2.log p.log here ∙ there_with_desk h d2 d there),
    ))
    not_now (both_same r (d2 ≡ d) (p2.log ≡ p.log) same1 same2)
    (λ q. is ∙ (ap (λ z. with_log z l p2.log) (same_desk h d d2 there q.0) ∙ same_log h l p.log p2.log here q.1))

-- ---- the book and a log, beside what else is read

pub on_book_and_log : (w : Fixed Rest) (e : Event) (h one two three new : Parts) (n l : ℕ) (b b2 : Halves) (p p2 : PendingState) (v : Machine Rest → Log)
    (Old New : Fixed Rest → Machine Rest → Type 0) (r : Result (Unit {0}) StepNo)
    → ((s : Machine Rest) → after w e s ≡ record s { book = (after w e s).book; logs = slice_set s.logs (n % w.text.logs) (v s) })
    → IsHandOf w h → may_want e ≡ true → l ≡ n % w.text.logs
    → h.book ≡ Some b → one ≡ record h { book = None } → slice_get one.logs l ≡ Some (Some p.log) → two ≡ lifted l one
    → three ≡ with_book b2 two → new ≡ laid l p2.log three
    → ((s : Machine Rest) → Fits h s → Old w s) → ((s : Machine Rest) → New w s → ShowsBook b2 s × ShowsLogAt (n % w.text.logs) p2 s)
    → OnOk r (IsTaken {C = Rest} e Old New) → b2.most ≡ b.most
    → IfErr r (IsNo {C = Rest} e Old) → OnErr r (b2 ≡ b) → OnErr r (p2.log ≡ p.log)
    → IsStep w e h new r
on_book_and_log w e h one two three new n l b b2 p p2 v Old New r only i may at there out1 log out2 back1 back2 shows tells ok room not_now same1 same2 =
    let k : ℕ = n % w.text.logs in
    let here : slice_get h.logs l ≡ Some (Some p.log) = sym (ap (λ z. slice_get z.logs l) out1) ∙ log in
    let is : new ≡ with_log (with_book b2 h) l p2.log = back2 ∙ ap (laid l p2.log) (back1 ∙ ap (with_book b2) (out2 ∙ ap (lifted l) out1)) in
    let at_k : new ≡ with_log (with_book b2 h) k p2.log = is ∙ ap (λ m. with_log (with_book b2 h) m p2.log) at in
    stepped w e h new Old (IsTaken {C = Rest} e Old New) ((b2 ≡ b) × (p2.log ≡ p.log)) r shows may ok
    (λ t. (
      taken_on w e h new Old New shows
          (λ s f g. (let told : ShowsBook b2 (after w e s) × ShowsLogAt k p2 (after w e s) = tells (after w e s) g in
          subst (λ z. Fits z (after w e s)) (sym at_k) (subst (Fits (with_log (with_book b2 h) k p2.log)) (sym (only s))
          (log_back (with_book b2 h) (record s { book = (after w e s).book }) (book_back h s f b2 (after w e s).book told.0) k p2.log (v s) (subst (λ z. ShowsLogAt k p2 z) (only s) told.1))))) t,
      subst (IsHandOf w) (sym at_k) (hand_with_log w (with_book b2 h) (hand_with_book w h i b b2 there room) k (Some p2.log)),
      ap are_there is ∙ (there_with_log (with_book b2 h) l p2.log p.log here ∙ there_with_book h b2 b there),
    ))
    not_now (both_same r (b2 ≡ b) (p2.log ≡ p.log) same1 same2)
    (λ q. is ∙ (ap (λ z. with_log z l p2.log) (same_book h b b2 there q.0) ∙ same_log h l p.log p2.log here q.1))

-- ---- a log and a cell

abbrev lifted_cell : ℕ → Parts → Parts
lifted_cell a z = record z { cells = slice_set z.cells a None }

abbrev laid_cell : ℕ → Cell Rest → Parts → Parts
laid_cell a x z = record z { cells = slice_set z.cells a (Some x) }

abbrev with_cell : Parts → ℕ → Cell Rest → Parts
with_cell h a x = record h { cells = slice_set (slice_set h.cells a None) a (Some x) }

same_cell : (h : Parts) (a : ℕ) (x y : Cell Rest) → slice_get h.cells a ≡ Some (Some x) → y ≡ x → with_cell h a y ≡ h
same_cell h a x y there q = ap (λ z. with_cell h a z) q ∙ ap (λ cs. record h { cells = cs }) (same_back h.cells a (Some x) None there)

pub on_log_and_cell : (w : Fixed Rest) (e : Event) (h one two three new : Parts) (n l a : ℕ) (p p2 : PendingState) (c c2 : Roomed Rest) (v : Machine Rest → Log) (u : Machine Rest → Cell Rest) (r : Result (Unit {0}) StepNo)
    → ((s : Machine Rest) → after w e s ≡ record s { logs = slice_set s.logs (n % w.text.logs) (v s); cells = slice_set s.cells a (u s) })
    → IsHandOf w h → may_want e ≡ true → l ≡ n % w.text.logs
    → slice_get h.logs l ≡ Some (Some p.log) → one ≡ lifted l h → slice_get one.cells a ≡ Some (Some c.cell) → two ≡ lifted_cell a one
    → three ≡ laid l p2.log two → new ≡ laid_cell a c2.cell three
    → OnOk r (IsTaken {C = Rest} e (λ v s. ShowsLogAt (n % v.text.logs) p s × ShowsCell a c s) (λ v s. ShowsLogAt (n % v.text.logs) p2 s × ShowsCell a c2 s))
    → IfErr r (IsNo {C = Rest} e (λ v s. ShowsLogAt (n % v.text.logs) p s × ShowsCell a c s)) → OnErr r (p2.log ≡ p.log) → OnErr r (c2 ≡ c)
    → IsStep w e h new r
on_log_and_cell w e h one two three new n l a p p2 c c2 v u r only i may at there out1 cell out2 back1 back2 ok not_now same1 same2 =
    let k : ℕ = n % w.text.logs in
    let here : slice_get h.cells a ≡ Some (Some c.cell) = sym (ap (λ z. slice_get z.cells a) out1) ∙ cell in
    let is : new ≡ with_cell (with_log h l p2.log) a c2.cell = back2 ∙ ap (laid_cell a c2.cell) (back1 ∙ ap (laid l p2.log) (out2 ∙ ap (lifted_cell a) out1)) in
    let at_k : new ≡ with_cell (with_log h k p2.log) a c2.cell = is ∙ ap (λ m. with_cell (with_log h m p2.log) a c2.cell) at in
    let shows : (s : Machine Rest) → Fits h s → ShowsLogAt k p s × ShowsCell a c s = λ s f. (log_shown h s f l k at p there, f.cells a c.cell here) in
    stepped w e h new (λ v s. ShowsLogAt (n % v.text.logs) p s × ShowsCell a c s)
    (IsTaken {C = Rest} e (λ v s. ShowsLogAt (n % v.text.logs) p s × ShowsCell a c s) (λ v s. ShowsLogAt (n % v.text.logs) p2 s × ShowsCell a c2 s))
    ((p2.log ≡ p.log) × (c2 ≡ c)) r shows may ok
    (λ t. (
      taken_on w e h new (λ v s. ShowsLogAt (n % v.text.logs) p s × ShowsCell a c s) (λ v s. ShowsLogAt (n % v.text.logs) p2 s × ShowsCell a c2 s) shows
          (λ s f g. subst (λ z. Fits z (after w e s)) (sym at_k) (subst (Fits (with_cell (with_log h k p2.log) a c2.cell)) (sym (only s))
          (cell_back (with_log h k p2.log) (record s { logs = slice_set s.logs k (v s) })
          (log_back h s f k p2.log (v s) (subst (λ z. ShowsLogAt k p2 z) (only s) g.0)) a c2.cell (u s) (subst (λ z. ShowsCell a c2 z) (only s) g.1)))) t,
      subst (IsHandOf w) (sym at_k) (hand_with_cell w (with_log h k p2.log) (hand_with_log w h i k (Some p2.log)) a (Some c2.cell)),
      ap are_there is ∙ (there_with_cell (with_log h l p2.log) a c2.cell c.cell here ∙ there_with_log h l p2.log p.log there),
    ))
    not_now (both_same r (p2.log ≡ p.log) (c2 ≡ c) same1 same2)
    (λ q. is ∙ (ap (λ z. with_cell z a c2.cell) (same_log h l p.log p2.log there q.0) ∙ same_cell h a c.cell c2.cell here (ap (λ z. z.cell) q.1)))
