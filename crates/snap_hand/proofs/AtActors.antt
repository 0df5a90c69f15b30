-- Events at an actor of the hand: that it is there, or which rule refuses where it is not, and what is put back with its cell.
use Rattle.std.proofs.Common.{◌≡◌, ℕ, ◌<◌, ◌==◌, ◌&&◌, ◌↔◌, Bool, true, false, not, nat_lt, Option, Some, None, Result, Ok, Err, OnOk, OnErr, IfErr, length, slice_get, slice_set, refl, sym, ap, subst, ◌∙◌, arith}
use Rattle.std.proofs.lemmas.List.{length-set}
use Rattle.std.proofs.lemmas.Option.{slice_get_within}
use Rattle.aml_slice.specs.Controls.{Rest}
use Rattle.core_rows.specs.book_part.Halves.{Halves}
use Rattle.core_rows.specs.cell_part.Room.{Roomed}
use Rattle.core_rows.specs.core_facts.RowsMay.{RowsMay}
use Rattle.core_rows.specs.OnRuns.{HasRun}
use Rattle.core_rows.specs.Showing.{ShowsBook, ShowsCell, ShowsDesk, ShowsPost}
use Rattle.core_rows.specs.Taken.{IsNo, IsOfRun, IsRule, IsTaken}
use Rattle.core_rows.specs.declared.step_no.StepNo.{StepNo}
use Rattle.core_rows.specs.declared.step_no.StepNo.TheVariants.{NotNow}
use Rattle.core_rows.specs.post_box.PostBox.{PostBox}
use Rattle.protocol.specs.Conditions.{IsAllowed, refusal, conditions, epoch}
use Rattle.protocol.specs.Effects.{after}
use Rattle.protocol.specs.Events.{Event, Arrive, Ask, Take, Close, Finish, Trim, cell}
use Rattle.protocol.specs.Fixed.{Fixed}
use Rattle.protocol.specs.Laws.{AfterEveryRun}
use Rattle.protocol.specs.Parts.{Cell, Desk, Machine, Post}
use Rattle.protocol.specs.Words.{holds, declared_of, has_entry, has_undone, is_settled, joined_of, sub_of}
use Rattle.protocol_laws.specs.Ranges.{NumbersInRange, ActInRange, BatchInRange, IsActor}
use Rattle.snap_hand.specs.Hands.{Parts, Fits, Has, IsHandOf, are_there}
use Rattle.snap_hand.specs.Steps.{MayBeAsked, OnSomeRun, IsRefusalOn, IsStep, IsTakenOn, may_want}
use Rattle.snap_hand.proofs.Held.{cell_there}
use Rattle.snap_hand.proofs.LogSteps.{both_same}
use Rattle.snap_hand.proofs.Nowhere.{below, no_actor, not_an_actor, refuses, found, same_number}
use Rattle.snap_hand.proofs.Refits.{book_back, cell_back, desk_back, post_back, hand_with_book, hand_with_cell, hand_with_desk, hand_with_post, same_back, there_with_book, there_with_cell, there_with_desk, there_with_post}
use Rattle.snap_hand.proofs.Stepping.{of_run, stepped, stepped_freely, refused}

-- ---- whether there is one

pub cell_held : (w : Fixed Rest) (h : Parts) (a : ℕ) (b : Bool) → IsHandOf w h → Has h (cell w.text.logs a) → b ≡ nat_lt a (length h.cells) → b ≡ true → (x : Cell Rest) × (slice_get h.cells a ≡ Some (Some x))
cell_held w h a b i has e there = cell_there h w.text.logs a i.logs has (below a (length h.cells) b e there)

-- ---- where it does not exist, a rule refuses

-- an event that is never allowed at an actor that does not exist
pub refused_nowhere : (w : Fixed Rest) (e : Event) (h : Parts) (a rule : ℕ) (b : Bool) → MayBeAsked w e h
    → ((s : Machine Rest) → slice_get s.cells a ≡ None → IsAllowed w e s → ⊥)
    → ((v : Fixed Rest) (s : Machine Rest) → HasRun v s → RowsMay v s)
    → ((v : Fixed Rest) (d : Event) (s : Machine Rest) → (refusal v d s ≡ 0) ↔ IsAllowed v d s)
    → b ≡ nat_lt a (length h.cells) → b ≡ false → IsRefusalOn w e h rule → IsStep w e h h (Err (NotNow rule))
refused_nowhere w e h a rule b asked never may law there out is =
    refused w e h rule (refuses w e h rule asked.some is (λ s. (law w e s).0) (λ s r ok. never s (no_actor w s h a b (may w s r) asked.places there out) ok)) is

-- one that names an actor that exists
pub refused_at_none : (w : Fixed Rest) (e : Event) (h : Parts) (a rule : ℕ) (b : Bool) → MayBeAsked w e h
    → ((s : Machine Rest) → NumbersInRange w s → IsAllowed w e s → IsActor w a)
    → AfterEveryRun (NumbersInRange {C = Rest})
    → ((v : Fixed Rest) (d : Event) (s : Machine Rest) → (refusal v d s ≡ 0) ↔ IsAllowed v d s)
    → b ≡ nat_lt a (length h.cells) → b ≡ false → IsRefusalOn w e h rule → IsStep w e h h (Err (NotNow rule))
refused_at_none w e h a rule b asked named ranges law there out is =
    refused w e h rule
    (refuses w e h rule asked.some is (λ s. (law w e s).0)
    (λ s r ok. not_an_actor w h a b asked.places there out (named s (subst (NumbersInRange w) (sym r.is_reached) (ranges w r.events r.text r.run)) ok)))
    is

-- one whose first condition is the actor's
pub refused_first : (w : Fixed Rest) (e : Event) (h : Parts) (a : ℕ) (b : Bool) → MayBeAsked w e h
    → ((s : Machine Rest) → slice_get s.cells a ≡ None → refusal w e s ≡ 1)
    → ((v : Fixed Rest) (s : Machine Rest) → HasRun v s → RowsMay v s)
    → b ≡ nat_lt a (length h.cells) → b ≡ false → IsStep w e h h (Err (NotNow 1))
refused_first w e h a b asked first may there out =
    refused w e h 1 (omega arith) (λ s r f. first s (no_actor w s h a b (may w s r) asked.places there out))

met : {X : Type 0} (test : X → Bool) (o : Option X) → o ≡ None → holds test o ≡ true → ⊥
met test o none h = absurd (cc (ap (holds test) none))

met_never : {X : Type 0} (test : X → Bool) (o : Option X) → ((x : X) → test x ≡ true → ⊥) → holds test o ≡ true → ⊥
met_never test None never h = absurd (cc h)
met_never test (Some x) never h = never x h

pub never_arrives : (w : Fixed Rest) (k a : ℕ) (s : Machine Rest) → slice_get s.cells a ≡ None → IsAllowed w (Arrive k a) s → ⊥
unfolding conditions
never_arrives w k a s none ok = met_never (λ m. holds (λ c. m.prev == c.tail) (slice_get s.cells a)) (sub_of k a s.post.subs) (λ m. met (λ c. m.prev == c.tail) (slice_get s.cells a) none) ok.1.1.1.0

pub never_asks : (w : Fixed Rest) (t a : ℕ) (s : Machine Rest) → slice_get s.cells a ≡ None → IsAllowed w (Ask t a) s → ⊥
unfolding conditions
never_asks w t a s none ok = met (λ c. c.epoch == epoch s.book) (slice_get s.cells a) none ok.1.1.1.0

pub never_taken : (w : Fixed Rest) (t a : ℕ) (s : Machine Rest) → slice_get s.cells a ≡ None → IsAllowed w (Take t a) s → ⊥
unfolding conditions
never_taken w t a s none ok = met (λ c. has_entry t c.entries) (slice_get s.cells a) none ok.1.0

pub never_closes : (w : Fixed Rest) (t a : ℕ) (s : Machine Rest) → slice_get s.cells a ≡ None → IsAllowed w (Close t a) s → ⊥
unfolding conditions
never_closes w t a s none ok = met (λ c. has_undone t c.entries) (slice_get s.cells a) none ok.1.0

last_of : (a b c : Bool) → (a && (b && c)) ≡ true → c ≡ true
last_of true true c h = h
last_of true false c h = absurd (cc h)
last_of false b c h = absurd (cc h)

pub finishes_somewhere : (w : Fixed Rest) (t a : ℕ) (s : Machine Rest) → NumbersInRange w s → IsAllowed w (Finish t a) s → IsActor w a
unfolding conditions
finishes_somewhere w t a s r ok =
    let x = found (ActInRange w s) (λ y. y.tid == t) (λ y. holds (λ p. not p.finished) (joined_of a y)) s.book.acts r.acts ok.1.0 in
    let p = found (λ y. IsActor w y.actor) (λ y. y.actor == a) (λ y. not y.finished) x.0.places x.1.0.actors x.1.2 in
    subst (IsActor w) (same_number p.0.actor a p.1.1) p.1.0

pub trims_somewhere : (w : Fixed Rest) (k a : ℕ) (s : Machine Rest) → NumbersInRange w s → IsAllowed w (Trim k a) s → IsActor w a
unfolding conditions
trims_somewhere w k a s r ok =
    let x = found (BatchInRange w s) (λ y. y.bid == k) (λ b. is_settled b.stage && (not b.aborted && holds (λ p. not p.trimmed) (declared_of a b))) s.desk.batches r.batches ok.0 in
    let p = found (λ y. IsActor w y.actor) (λ y. y.actor == a) (λ y. not y.trimmed) x.0.places x.1.0.actors (last_of (is_settled x.0.stage) (not x.0.aborted) (holds (λ p. not p.trimmed) (declared_of a x.0)) x.1.2) in
    subst (IsActor w) (same_number p.0.actor a p.1.1) p.1.0

-- ---- parts taken out and put back

abbrev pub with_book : Halves → Parts → Parts
with_book b z = record z { book = Some b }

abbrev pub with_post : Post Rest → Parts → Parts
with_post p z = record z { post = Some p }

abbrev pub with_desk : Desk → Parts → Parts
with_desk d z = record z { desk = Some d }

abbrev pub no_post : Parts → Parts
no_post z = record z { post = None }

abbrev pub no_desk : Parts → Parts
no_desk z = record z { desk = None }

abbrev pub lifted : ℕ → Parts → Parts
lifted a z = record z { cells = slice_set z.cells a None }

abbrev pub laid : ℕ → Cell Rest → Parts → Parts
laid a x z = record z { cells = slice_set z.cells a (Some x) }

abbrev pub with_cell : Parts → ℕ → Cell Rest → Parts
with_cell h a x = record h { cells = slice_set (slice_set h.cells a None) a (Some x) }

same_cell : (h : Parts) (a : ℕ) (x y : Cell Rest) → slice_get h.cells a ≡ Some (Some x) → y ≡ x → with_cell h a y ≡ h
same_cell h a x y there q = ap (λ z. with_cell h a z) q ∙ ap (λ cs. record h { cells = cs }) (same_back h.cells a (Some x) None there)

same_book : (h : Parts) (b c : Halves) → h.book ≡ Some b → c ≡ b → with_book c h ≡ h
same_book h b c there q = ap (λ o. record h { book = o }) (ap Some q ∙ sym there)

same_post : (h : Parts) (b c : Post Rest) → h.post ≡ Some b → c ≡ b → with_post c h ≡ h
same_post h b c there q = ap (λ o. record h { post = o }) (ap Some q ∙ sym there)

same_desk : (h : Parts) (b c : Desk) → h.desk ≡ Some b → c ≡ b → with_desk c h ≡ h
same_desk h b c there q = ap (λ o. record h { desk = o }) (ap Some q ∙ sym there)

-- what is the same of them is so of what they show
pub err_same : {X Y E : Type 0} (f : X → Y) (x y : X) (r : Result (Unit {0}) E) → OnErr r (x ≡ y) → OnErr r (f x ≡ f y)
err_same f x y (Ok _) h = tt
err_same f x y (Err _) h = ap f h

pub err_nothing : {X E : Type 0} (x : X) (r : Result (Unit {0}) E) → OnErr r (x ≡ x)
err_nothing x (Ok _) = tt
err_nothing x (Err _) = refl

-- the place of a cell that was taken out is still there
pub place_kept : (h out new : Parts) (a : ℕ) (x : Cell Rest) → slice_get h.cells a ≡ Some (Some x) → out ≡ lifted a h → new.cells ≡ out.cells → a < length new.cells
place_kept h out new a x there gone same =
    subst (λ cs. a < length cs) (sym (same ∙ ap (λ z. z.cells) gone)) (subst (λ n. a < n) (sym (length-set h.cells a None)) (slice_get_within h.cells a (Some x) there))

-- ---- the parts that were taken out show a state that a run has come to

pub post_and_cell_shown : (w : Fixed Rest) (h one : Parts) (a : ℕ) (p : PostBox Rest) (c : Roomed Rest) → OnSomeRun w h
    → h.post ≡ Some p.messages → one ≡ record h { post = None } → slice_get one.cells a ≡ Some (Some c.cell)
    → IsOfRun {C = Rest} (λ v s. ShowsPost p s × ShowsCell a c s)
post_and_cell_shown w h one a p c some there out stood =
    of_run w h (λ v s. ShowsPost p s × ShowsCell a c s) (λ s f. (f.post p.messages there, f.cells a c.cell (sym (ap (λ z. slice_get z.cells a) out) ∙ stood))) some

pub desk_and_cell_shown : (w : Fixed Rest) (h one : Parts) (a : ℕ) (d : Desk) (c : Roomed Rest) → OnSomeRun w h
    → h.desk ≡ Some d → one ≡ record h { desk = None } → slice_get one.cells a ≡ Some (Some c.cell)
    → IsOfRun {C = Rest} (λ v s. ShowsDesk d s × ShowsCell a c s)
desk_and_cell_shown w h one a d c some there out stood =
    of_run w h (λ v s. ShowsDesk d s × ShowsCell a c s) (λ s f. (f.desk d there, f.cells a c.cell (sym (ap (λ z. slice_get z.cells a) out) ∙ stood))) some

pub book_post_and_cell_shown : (w : Fixed Rest) (h one two : Parts) (a : ℕ) (b : Halves) (p : PostBox Rest) (c : Roomed Rest) → OnSomeRun w h
    → h.book ≡ Some b → one ≡ record h { book = None } → one.post ≡ Some p.messages → two ≡ record one { post = None } → slice_get two.cells a ≡ Some (Some c.cell)
    → IsOfRun {C = Rest} (λ v s. ShowsBook b s × ShowsPost p s × ShowsCell a c s)
book_post_and_cell_shown w h one two a b p c some there out1 posted out2 stood =
    of_run w h (λ v s. ShowsBook b s × ShowsPost p s × ShowsCell a c s)
    (λ s f. (f.book b there, f.post p.messages (sym (ap (λ z. z.post) out1) ∙ posted), f.cells a c.cell (sym (ap (λ z. slice_get z.cells a) (out2 ∙ ap no_post out1)) ∙ stood)))
    some

pub book_desk_and_cell_shown : (w : Fixed Rest) (h one two : Parts) (a : ℕ) (b : Halves) (d : Desk) (c : Roomed Rest) → OnSomeRun w h
    → h.book ≡ Some b → one ≡ record h { book = None } → one.desk ≡ Some d → two ≡ record one { desk = None } → slice_get two.cells a ≡ Some (Some c.cell)
    → IsOfRun {C = Rest} (λ v s. ShowsBook b s × ShowsDesk d s × ShowsCell a c s)
book_desk_and_cell_shown w h one two a b d c some there out1 desk out2 stood =
    of_run w h (λ v s. ShowsBook b s × ShowsDesk d s × ShowsCell a c s)
    (λ s f. (f.book b there, f.desk d (sym (ap (λ z. z.desk) out1) ∙ desk), f.cells a c.cell (sym (ap (λ z. slice_get z.cells a) (out2 ∙ ap no_desk out1)) ∙ stood)))
    some

-- ---- a row that is taken: `g` is the hand and `m` the state before the cell is put

at_cell : (w : Fixed Rest) (e : Event) (h g new : Parts) (a : ℕ) (c2 : Roomed Rest) (m : Machine Rest → Machine Rest) (u : Machine Rest → Cell Rest) (Old New : Fixed Rest → Machine Rest → Type 0)
    → ((s : Machine Rest) → after w e s ≡ record (m s) { cells = slice_set (m s).cells a (u s) })
    → new ≡ with_cell g a c2.cell → IsHandOf w g → (y : Cell Rest) → slice_get g.cells a ≡ Some (Some y) → are_there g ≡ are_there h
    → ((s : Machine Rest) → Fits h s → Old w s) → ((s : Machine Rest) → Fits h s → New w (after w e s) → Fits g (m s))
    → ((s : Machine Rest) → New w s → ShowsCell a c2 s)
    → IsTaken {C = Rest} e Old New → IsTakenOn w e h new × IsHandOf w new × (are_there new ≡ are_there h)
at_cell w e h g new a c2 m u Old New only is i y stood same shows front tells ok = (
  (λ s r f.
      let t : IsAllowed w e s × New w (after w e s) = ok w s r (shows s f) in (
        t.0,
        subst (λ z. Fits z (after w e s)) (sym is) (subst (Fits (with_cell g a c2.cell)) (sym (only s))
            (cell_back g (m s) (front s f t.1) a c2.cell (u s) (subst (λ z. ShowsCell a c2 z) (only s) (tells (after w e s) t.1)))),
      )),
  subst (IsHandOf w) (sym is) (hand_with_cell w g i a (Some c2.cell)),
  ap are_there is ∙ (there_with_cell g a c2.cell y stood ∙ same),
)

-- ---- the post and a cell

pub on_post_and_cell : (w : Fixed Rest) (e : Event) (h one two three new : Parts) (a : ℕ) (p p2 : PostBox Rest) (c c2 : Roomed Rest) (u : Machine Rest → Cell Rest) (r : Result (Unit {0}) StepNo)
    → ((s : Machine Rest) → after w e s ≡ record s { post = (after w e s).post; cells = slice_set s.cells a (u s) })
    → IsHandOf w h → may_want e ≡ true
    → h.post ≡ Some p.messages → one ≡ record h { post = None } → slice_get one.cells a ≡ Some (Some c.cell) → two ≡ lifted a one
    → three ≡ with_post p2.messages two → new ≡ laid a c2.cell three
    → OnOk r (IsTaken {C = Rest} e (λ v s. ShowsPost p s × ShowsCell a c s) (λ v s. ShowsPost p2 s × ShowsCell a c2 s))
    → IfErr r (IsNo {C = Rest} e (λ v s. ShowsPost p s × ShowsCell a c s)) → OnErr r (p2.messages ≡ p.messages) → OnErr r (c2.cell ≡ c.cell)
    → IsStep w e h new r
on_post_and_cell w e h one two three new a p p2 c c2 u r only i may there out1 stood out2 back1 back2 ok refusing same1 same2 =
    let here : slice_get h.cells a ≡ Some (Some c.cell) = sym (ap (λ z. slice_get z.cells a) out1) ∙ stood in
    let g : Parts = with_post p2.messages h in
    let is : new ≡ with_cell g a c2.cell = back2 ∙ ap (laid a c2.cell) (back1 ∙ ap (with_post p2.messages) (out2 ∙ ap (lifted a) out1)) in
    let shows : (s : Machine Rest) → Fits h s → ShowsPost p s × ShowsCell a c s = λ s f. (f.post p.messages there, f.cells a c.cell here) in
    stepped w e h new (λ v s. ShowsPost p s × ShowsCell a c s)
    (IsTaken {C = Rest} e (λ v s. ShowsPost p s × ShowsCell a c s) (λ v s. ShowsPost p2 s × ShowsCell a c2 s))
    ((p2.messages ≡ p.messages) × (c2.cell ≡ c.cell)) r shows may ok
    (at_cell w e h g new a c2 (λ s. record s { post = (after w e s).post }) u (λ v s. ShowsPost p s × ShowsCell a c s) (λ v s. ShowsPost p2 s × ShowsCell a c2 s)
    only is (hand_with_post w h i (Some p2.messages)) c.cell here (there_with_post h p2.messages p.messages there) shows (λ s f t. post_back h s f p2.messages (after w e s).post t.0) (λ s t. t.1))
    refusing (both_same r (p2.messages ≡ p.messages) (c2.cell ≡ c.cell) same1 same2)
    (λ q. is ∙ (ap (λ z. with_cell z a c2.cell) (same_post h p.messages p2.messages there q.0) ∙ same_cell h a c.cell c2.cell here q.1))

-- ---- the book, the post and a cell

pub on_book_post_and_cell : (w : Fixed Rest) (e : Event) (h one two three four five new : Parts) (a : ℕ) (b b2 : Halves) (p p2 : PostBox Rest) (c c2 : Roomed Rest) (u : Machine Rest → Cell Rest) (r : Result (Unit {0}) StepNo)
    → ((s : Machine Rest) → after w e s ≡ record s { book = (after w e s).book; post = (after w e s).post; cells = slice_set s.cells a (u s) })
    → IsHandOf w h → may_want e ≡ true
    → h.book ≡ Some b → one ≡ record h { book = None } → one.post ≡ Some p.messages → two ≡ record one { post = None } → slice_get two.cells a ≡ Some (Some c.cell) → three ≡ lifted a two
    → four ≡ with_book b2 three → five ≡ with_post p2.messages four → new ≡ laid a c2.cell five
    → OnOk r (IsTaken {C = Rest} e (λ v s. ShowsBook b s × ShowsPost p s × ShowsCell a c s) (λ v s. ShowsBook b2 s × ShowsPost p2 s × ShowsCell a c2 s))
    → b2.most ≡ b.most
    → IfErr r (IsNo {C = Rest} e (λ v s. ShowsBook b s × ShowsPost p s × ShowsCell a c s)) → OnErr r (b2 ≡ b) → OnErr r (p2.messages ≡ p.messages) → OnErr r (c2.cell ≡ c.cell)
    → IsStep w e h new r
on_book_post_and_cell w e h one two three four five new a b b2 p p2 c c2 u r only i may there out1 posted out2 stood out3 back1 back2 back3 ok room refusing same1 same2 same3 =
    let posted_here : h.post ≡ Some p.messages = sym (ap (λ z. z.post) out1) ∙ posted in
    let here : slice_get h.cells a ≡ Some (Some c.cell) = sym (ap (λ z. slice_get z.cells a) (out2 ∙ ap no_post out1)) ∙ stood in
    let k : Parts = with_book b2 h in
    let g : Parts = with_post p2.messages k in
    let is : new ≡ with_cell g a c2.cell = back3 ∙ ap (laid a c2.cell) (back2 ∙ ap (with_post p2.messages) (back1 ∙ ap (with_book b2) (out3 ∙ ap (lifted a) (out2 ∙ ap no_post out1)))) in
    let shows : (s : Machine Rest) → Fits h s → ShowsBook b s × ShowsPost p s × ShowsCell a c s = λ s f. (f.book b there, f.post p.messages posted_here, f.cells a c.cell here) in
    stepped w e h new (λ v s. ShowsBook b s × ShowsPost p s × ShowsCell a c s)
    (IsTaken {C = Rest} e (λ v s. ShowsBook b s × ShowsPost p s × ShowsCell a c s) (λ v s. ShowsBook b2 s × ShowsPost p2 s × ShowsCell a c2 s))
    ((b2 ≡ b) × ((p2.messages ≡ p.messages) × (c2.cell ≡ c.cell))) r shows may ok
    (at_cell w e h g new a c2 (λ s. record s { book = (after w e s).book; post = (after w e s).post }) u (λ v s. ShowsBook b s × ShowsPost p s × ShowsCell a c s) (λ v s. ShowsBook b2 s × ShowsPost p2 s × ShowsCell a c2 s)
    only is (hand_with_post w k (hand_with_book w h i b b2 there room) (Some p2.messages)) c.cell here (there_with_post k p2.messages p.messages posted_here ∙ there_with_book h b2 b there) shows
    (λ s f t. post_back k (record s { book = (after w e s).book }) (book_back h s f b2 (after w e s).book t.0) p2.messages (after w e s).post t.1) (λ s t. t.2))
    refusing (both_same r (b2 ≡ b) ((p2.messages ≡ p.messages) × (c2.cell ≡ c.cell)) same1 (both_same r (p2.messages ≡ p.messages) (c2.cell ≡ c.cell) same2 same3))
    (λ q. is ∙ (ap (λ z. with_cell (with_post p2.messages z) a c2.cell) (same_book h b b2 there q.0) ∙ (ap (λ z. with_cell z a c2.cell) (same_post h p.messages p2.messages posted_here q.1.0) ∙ same_cell h a c.cell c2.cell here q.1.1)))

-- ---- the book, the desk and a cell

pub on_book_desk_and_cell : (w : Fixed Rest) (e : Event) (h one two three four five new : Parts) (a : ℕ) (b b2 : Halves) (d d2 : Desk) (c c2 : Roomed Rest) (u : Machine Rest → Cell Rest) (r : Result (Unit {0}) StepNo)
    → ((s : Machine Rest) → after w e s ≡ record s { book = (after w e s).book; desk = (after w e s).desk; cells = slice_set s.cells a (u s) })
    → IsHandOf w h → may_want e ≡ true
    → h.book ≡ Some b → one ≡ record h { book = None } → one.desk ≡ Some d → two ≡ record one { desk = None } → slice_get two.cells a ≡ Some (Some c.cell) → three ≡ lifted a two
    → four ≡ with_book b2 three → five ≡ with_desk d2 four → new ≡ laid a c2.cell five
    → OnOk r (IsTaken {C = Rest} e (λ v s. ShowsBook b s × ShowsDesk d s × ShowsCell a c s) (λ v s. ShowsBook b2 s × ShowsDesk d2 s × ShowsCell a c2 s))
    → b2.most ≡ b.most
    → IfErr r (IsNo {C = Rest} e (λ v s. ShowsBook b s × ShowsDesk d s × ShowsCell a c s)) → OnErr r (b2 ≡ b) → OnErr r (d2 ≡ d) → OnErr r (c2.cell ≡ c.cell)
    → IsStep w e h new r
on_book_desk_and_cell w e h one two three four five new a b b2 d d2 c c2 u r only i may there out1 desk out2 stood out3 back1 back2 back3 ok room refusing same1 same2 same3 =
    let desk_here : h.desk ≡ Some d = sym (ap (λ z. z.desk) out1) ∙ desk in
    let here : slice_get h.cells a ≡ Some (Some c.cell) = sym (ap (λ z. slice_get z.cells a) (out2 ∙ ap no_desk out1)) ∙ stood in
    let k : Parts = with_book b2 h in
    let g : Parts = with_desk d2 k in
    let is : new ≡ with_cell g a c2.cell = back3 ∙ ap (laid a c2.cell) (back2 ∙ ap (with_desk d2) (back1 ∙ ap (with_book b2) (out3 ∙ ap (lifted a) (out2 ∙ ap no_desk out1)))) in
    let shows : (s : Machine Rest) → Fits h s → ShowsBook b s × ShowsDesk d s × ShowsCell a c s = λ s f. (f.book b there, f.desk d desk_here, f.cells a c.cell here) in
    stepped w e h new (λ v s. ShowsBook b s × ShowsDesk d s × ShowsCell a c s)
    (IsTaken {C = Rest} e (λ v s. ShowsBook b s × ShowsDesk d s × ShowsCell a c s) (λ v s. ShowsBook b2 s × ShowsDesk d2 s × ShowsCell a c2 s))
    ((b2 ≡ b) × ((d2 ≡ d) × (c2.cell ≡ c.cell))) r shows may ok
    (at_cell w e h g new a c2 (λ s. record s { book = (after w e s).book; desk = (after w e s).desk }) u (λ v s. ShowsBook b s × ShowsDesk d s × ShowsCell a c s) (λ v s. ShowsBook b2 s × ShowsDesk d2 s × ShowsCell a c2 s)
    only is (hand_with_desk w k (hand_with_book w h i b b2 there room) (Some d2)) c.cell here (there_with_desk k d2 d desk_here ∙ there_with_book h b2 b there) shows
    (λ s f t. desk_back k (record s { book = (after w e s).book }) (book_back h s f b2 (after w e s).book t.0) d2 (after w e s).desk t.1) (λ s t. t.2))
    refusing (both_same r (b2 ≡ b) ((d2 ≡ d) × (c2.cell ≡ c.cell)) same1 (both_same r (d2 ≡ d) (c2.cell ≡ c.cell) same2 same3))
    (λ q. is ∙ (ap (λ z. with_cell (with_desk d2 z) a c2.cell) (same_book h b b2 there q.0) ∙ (ap (λ z. with_cell z a c2.cell) (same_desk h d d2 desk_here q.1.0) ∙ same_cell h a c.cell c2.cell here q.1.1)))

-- ---- the desk and a cell

pub on_desk_and_cell : (w : Fixed Rest) (e : Event) (h one two three new : Parts) (a : ℕ) (d d2 : Desk) (c c2 : Roomed Rest) (u : Machine Rest → Cell Rest) (r : Result (Unit {0}) StepNo)
    → ((s : Machine Rest) → after w e s ≡ record s { desk = (after w e s).desk; cells = slice_set s.cells a (u s) })
    → IsHandOf w h
    → h.desk ≡ Some d → one ≡ record h { desk = None } → slice_get one.cells a ≡ Some (Some c.cell) → two ≡ lifted a one
    → three ≡ with_desk d2 two → new ≡ laid a c2.cell three
    → OnOk r (IsTaken {C = Rest} e (λ v s. ShowsDesk d s × ShowsCell a c s) (λ v s. ShowsDesk d2 s × ShowsCell a c2 s))
    → IfErr r (IsNo {C = Rest} e (λ v s. ShowsDesk d s × ShowsCell a c s)) → IfErr r IsRule → OnErr r (d2 ≡ d) → OnErr r (c2.cell ≡ c.cell)
    → IsStep w e h new r
on_desk_and_cell w e h one two three new a d d2 c c2 u r only i there out1 stood out2 back1 back2 ok refusing rule same1 same2 =
    let here : slice_get h.cells a ≡ Some (Some c.cell) = sym (ap (λ z. slice_get z.cells a) out1) ∙ stood in
    let g : Parts = with_desk d2 h in
    let is : new ≡ with_cell g a c2.cell = back2 ∙ ap (laid a c2.cell) (back1 ∙ ap (with_desk d2) (out2 ∙ ap (lifted a) out1)) in
    let shows : (s : Machine Rest) → Fits h s → ShowsDesk d s × ShowsCell a c s = λ s f. (f.desk d there, f.cells a c.cell here) in
    stepped_freely w e h new (λ v s. ShowsDesk d s × ShowsCell a c s)
    (IsTaken {C = Rest} e (λ v s. ShowsDesk d s × ShowsCell a c s) (λ v s. ShowsDesk d2 s × ShowsCell a c2 s))
    ((d2 ≡ d) × (c2.cell ≡ c.cell)) r shows rule ok
    (at_cell w e h g new a c2 (λ s. record s { desk = (after w e s).desk }) u (λ v s. ShowsDesk d s × ShowsCell a c s) (λ v s. ShowsDesk d2 s × ShowsCell a c2 s)
    only is (hand_with_desk w h i (Some d2)) c.cell here (there_with_desk h d2 d there) shows (λ s f t. desk_back h s f d2 (after w e s).desk t.0) (λ s t. t.1))
    refusing (both_same r (d2 ≡ d) (c2.cell ≡ c.cell) same1 same2)
    (λ q. is ∙ (ap (λ z. with_cell z a c2.cell) (same_desk h d d2 there q.0) ∙ same_cell h a c.cell c2.cell here q.1))

-- ---- the book and a cell

pub on_book_and_cell : (w : Fixed Rest) (e : Event) (h one two three new : Parts) (a : ℕ) (b b2 : Halves) (c c2 : Roomed Rest) (u : Machine Rest → Cell Rest) (r : Result (Unit {0}) StepNo)
    → ((s : Machine Rest) → after w e s ≡ record s { book = (after w e s).book; cells = slice_set s.cells a (u s) })
    → IsHandOf w h
    → h.book ≡ Some b → one ≡ record h { book = None } → slice_get one.cells a ≡ Some (Some c.cell) → two ≡ lifted a one
    → three ≡ with_book b2 two → new ≡ laid a c2.cell three
    → OnOk r (IsTaken {C = Rest} e (λ v s. ShowsBook b s × ShowsCell a c s) (λ v s. ShowsBook b2 s × ShowsCell a c2 s))
    → b2.most ≡ b.most
    → IfErr r (IsNo {C = Rest} e (λ v s. ShowsBook b s × ShowsCell a c s)) → IfErr r IsRule → OnErr r (b2 ≡ b) → OnErr r (c2.cell ≡ c.cell)
    → IsStep w e h new r
on_book_and_cell w e h one two three new a b b2 c c2 u r only i there out1 stood out2 back1 back2 ok room refusing rule same1 same2 =
    let here : slice_get h.cells a ≡ Some (Some c.cell) = sym (ap (λ z. slice_get z.cells a) out1) ∙ stood in
    let g : Parts = with_book b2 h in
    let is : new ≡ with_cell g a c2.cell = back2 ∙ ap (laid a c2.cell) (back1 ∙ ap (with_book b2) (out2 ∙ ap (lifted a) out1)) in
    let shows : (s : Machine Rest) → Fits h s → ShowsBook b s × ShowsCell a c s = λ s f. (f.book b there, f.cells a c.cell here) in
    stepped_freely w e h new (λ v s. ShowsBook b s × ShowsCell a c s)
    (IsTaken {C = Rest} e (λ v s. ShowsBook b s × ShowsCell a c s) (λ v s. ShowsBook b2 s × ShowsCell a c2 s))
    ((b2 ≡ b) × (c2.cell ≡ c.cell)) r shows rule ok
    (at_cell w e h g new a c2 (λ s. record s { book = (after w e s).book }) u (λ v s. ShowsBook b s × ShowsCell a c s) (λ v s. ShowsBook b2 s × ShowsCell a c2 s)
    only is (hand_with_book w h i b b2 there room) c.cell here (there_with_book h b2 b there) shows (λ s f t. book_back h s f b2 (after w e s).book t.0) (λ s t. t.1))
    refusing (both_same r (b2 ≡ b) (c2.cell ≡ c.cell) same1 same2)
    (λ q. is ∙ (ap (λ z. with_cell z a c2.cell) (same_book h b b2 there q.0) ∙ same_cell h a c.cell c2.cell here q.1))
