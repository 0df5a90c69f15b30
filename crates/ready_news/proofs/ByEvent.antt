-- What each part lists is among what is listed by the event.
use Rattle.std.specs.Prelude.{◌≡◌, refl, ℕ, zero, suc, Bool, true, false, Option, Some, None, List, [], ◌∷◌, ◌++◌, map, slice_get, Contains}
use Rattle.std.specs.List.{flat_map}
use Rattle.std.proofs.Common.{inl, inr, sym, subst, append-nil}
use Rattle.std.proofs.lemmas.List.Elements.{Contains-append_left, Contains-append_right, Contains-append_cases}
use Rattle.std.proofs.lemmas.Option.{same_Some}
use Rattle.aml_slice.specs.Controls.{Rest}
use Rattle.protocol.specs.Events.{Event, Submit, Pass, Form, Admit, Arrive, Ask, Take, Run, Send, End, Close, Complete, Note, Commit, Settle, Abort, Rollback, DropControl, Prepare, Vouch, Decide, Seal, Finish, Trim}
use Rattle.protocol.specs.Fixed.{Text}
use Rattle.protocol.specs.Parts.{Book, Cell, Desk, Post, Ring}
use Rattle.protocol_ready.proofs.Listing.{to_has}
use Rattle.snap_base.specs.declared.ids.Bid.{Bid}
use Rattle.snap_hand.specs.Hands.{Parts}
use Rattle.ready_news.specs.ByEvent.{aborted_lists, listed, lists, of_all_gone, of_all_gone_if, of_gone, of_look}
use Rattle.ready_news.specs.GivenUp.{given_up_by, given_up_if, given_up_tids, may_have_acts}
use Rattle.ready_news.specs.InAnswers.{answers_listed, of_acts_with, of_batches, of_over, of_tx}
use Rattle.ready_news.specs.InBook.{book_listed, deciding_of, leaving_of, preparing_of}
use Rattle.ready_news.specs.InCells.{cells_listed, of_shown, on_changed, put_there, wakes}
use Rattle.ready_news.specs.InDesk.{by_desk, next_ends, trims_of}
use Rattle.ready_news.specs.InPost.{arrivals_to, comings_to, followers, of_drop, of_drops_with, of_post, of_sent, post_listed, takes_by}
use Rattle.ready_news.specs.InRing.{admits_any, all_next, forms_any, logs_listed, passes, ring_listed}
use Rattle.ready_news.specs.Looks.{looks_of, names_of}
use Rattle.ready_news.proofs.Common.{Among}

-- nothing is there
none : (xs : List Event) → Among [] xs
none xs f i = absurd (to_has [] f i)

-- two lists
both_in : (xs ys zs : List Event) → Among xs zs → Among ys zs → Among (xs ++ ys) zs
both_in xs ys zs h g f i = elim (Contains-append_cases xs ys f i) [ inl x ↦ h f x | inr y ↦ g f y ]

-- of what a cell shows, both
shown_in : (f g : Cell Rest → List Event) (zs : List Event) (o : Option (Option (Cell Rest))) → Among (of_shown f o) zs → Among (of_shown g o) zs → Among (of_shown (λ c. f c ++ g c) o) zs
shown_in f g zs None h k x i = h x i
shown_in f g zs (Some None) h k x i = h x i
shown_in f g zs (Some (Some c)) h k x i = both_in (f c) (g c) zs h k x i

-- ---- those that are given up

-- of each of some
each_in : (part whole : ℕ → List Event) → ((t : ℕ) → Among (part t) (whole t)) → (ts : List ℕ) → Among (flat_map part ts) (flat_map whole ts)
each_in part whole h [] f i = i
each_in part whole h (t ∷ ts) f i = elim (Contains-append_cases (part t) (flat_map part ts) f i) [
  | inl x ↦ Contains-append_left (whole t) (flat_map whole ts) f (h t f x)
  | inr y ↦ Contains-append_right (whole t) (flat_map whole ts) f (each_in part whole h ts f y)
]

module _ (b : Book) where
  gone_in : (part : ℕ → List Event) → ((t : ℕ) → Among (part t) (of_gone b t)) → Among (flat_map part (given_up_tids b)) (of_all_gone b)
  gone_in part h = each_in part (of_gone b) h (given_up_tids b)

  gone_if_in : (part : ℕ → List Event) → ((t : ℕ) → Among (part t) (of_gone b t)) → (c : Bool) → Among (flat_map part (given_up_if c b)) (of_all_gone_if c b)
  gone_if_in part h true f i = gone_in part h f i
  gone_if_in part h false f i = i

  drop_in : (t : ℕ) → Among (of_drop t) (of_gone b t)
  drop_in t f i = Contains-append_left (DropControl t ∷ []) (leaving_of b t ++ of_tx b t) f i

  leaving_in : (t : ℕ) → Among (leaving_of b t) (of_gone b t)
  leaving_in t f i = Contains-append_right (DropControl t ∷ []) (leaving_of b t ++ of_tx b t) f (Contains-append_left (leaving_of b t) (of_tx b t) f i)

  tx_in : (t : ℕ) → Among (of_tx b t) (of_gone b t)
  tx_in t f i = Contains-append_right (DropControl t ∷ []) (leaving_of b t ++ of_tx b t) f (Contains-append_right (leaving_of b t) (of_tx b t) f i)

-- ---- one of several lists

one_in : {A : Type 0} (f : A → List Event) (ls : List A) (n : ℕ) (xs : List Event) → slice_get (map f ls) n ≡ Some xs → Among xs (flat_map f ls)
one_in f [] n xs e g i = absurd (cc e)
one_in f (a ∷ ls) zero xs e g i = Contains-append_left (f a) (flat_map f ls) g (subst (λ v. Contains v g) (sym (same_Some (f a) xs e)) i)
one_in f (a ∷ ls) (suc n) xs e g i = Contains-append_right (f a) (flat_map f ls) g (one_in f ls n xs e g i)

-- ---- part by part

module _ (w : Text) (h : Parts) (next : Option Bid) (r : Ring) (b : Book) (p : Post Rest) (d : Desk) where
  abbrev all : Event → List Event
  all e = listed w h next r b p d e

  -- the list of this number
  nth : (e : Event) (n : ℕ) (xs : List Event) → slice_get (lists w h next r b p d e) n ≡ Some xs → Among xs (all e)
  nth e n xs is = one_in (of_look w h next r b p d (names_of e)) (looks_of e) n xs is

  -- of the lists that are listed where batch k is aborted, the one of this number
  nth_aborted : (k n : ℕ) (xs : List Event) → slice_get (map (λ ys. ys) (aborted_lists w h r b p d k)) n ≡ Some xs → Among xs (all (Abort k))
  nth_aborted k n xs is f i = nth (Abort k) 0 (flat_map (λ ys. ys) (aborted_lists w h r b p d k)) refl f (one_in (λ ys. ys) (aborted_lists w h r b p d k) n xs is f i)

  -- of an actor at which the event changes what may go on: what it put there itself, and what may go on
  changed_in : (e : Event) (a m n : ℕ) → slice_get (lists w h next r b p d e) m ≡ Some (of_shown (put_there e h.desk a) (slice_get h.cells a)) → slice_get (lists w h next r b p d e) n ≡ Some (of_shown (wakes a) (slice_get h.cells a)) → Among (of_shown (on_changed e h.desk a) (slice_get h.cells a)) (all e)
  changed_in e a m n put woken = shown_in (put_there e h.desk a) (wakes a) (all e) (slice_get h.cells a) (nth e m (of_shown (put_there e h.desk a) (slice_get h.cells a)) put) (nth e n (of_shown (wakes a) (slice_get h.cells a)) woken)

  -- of those that fell where batch k has arrived at actor a
  fallen_in : (k a : ℕ) → Among (of_all_gone_if (may_have_acts (slice_get h.cells a)) b) (all (Arrive k a))
  fallen_in k a = nth (Arrive k a) 5 (of_all_gone_if (may_have_acts (slice_get h.cells a)) b) refl

  -- what the ring has next, behind the token
  next_in : (e : Event) (n : ℕ) → slice_get (lists w h next r b p d e) n ≡ Some (passes w.coordinators r) → slice_get (lists w h next r b p d e) (suc n) ≡ Some (forms_any w d r) → slice_get (lists w h next r b p d e) (suc (suc n)) ≡ Some (admits_any w b r) → Among (all_next w d b r) (all e)
  next_in e n token batch act = both_in (passes w.coordinators r ++ forms_any w d r) (admits_any w b r) (all e)
      (both_in (passes w.coordinators r) (forms_any w d r) (all e) (nth e n (passes w.coordinators r) token) (nth e (suc n) (forms_any w d r) batch))
      (nth e (suc (suc n)) (admits_any w b r) act)

  pub ring_in : (e : Event) → Among (ring_listed e w d b r) (all e)
  ring_in (Submit n) = nth (Submit n) 0 (ring_listed (Submit n) w d b r) refl
  ring_in (Pass c) = next_in (Pass c) 0 refl refl refl
  ring_in (Form k) = next_in (Form k) 3 refl refl refl
  ring_in (Admit t) = both_in (passes w.coordinators r) (admits_any w b r) (all (Admit t)) (nth (Admit t) 1 (passes w.coordinators r) refl) (nth (Admit t) 2 (admits_any w b r) refl)
  ring_in (Arrive k a) = nth (Arrive k a) 4 (ring_listed (Arrive k a) w d b r) refl
  ring_in (Ask t a) = nth (Ask t a) 1 (ring_listed (Ask t a) w d b r) refl
  ring_in (Abort k) = nth_aborted k 0 (ring_listed (Abort k) w d b r) refl
  ring_in (Decide t) = nth (Decide t) 1 (ring_listed (Decide t) w d b r) refl
  ring_in (Seal t) = nth (Seal t) 0 (ring_listed (Seal t) w d b r) refl
  ring_in (Finish t a) = nth (Finish t a) 2 (ring_listed (Finish t a) w d b r) refl
  ring_in (Trim k a) = λ f i. nth (Trim k a) 1 (forms_any w d r) refl f (subst (λ xs. Contains xs f) (append-nil (forms_any w d r)) i)
  ring_in e = none (all e)

  pub cells_in : (e : Event) → Among (cells_listed w e h) (all e)
  cells_in (Arrive k a) = changed_in (Arrive k a) a 0 1 refl refl
  cells_in (Ask t a) = nth (Ask t a) 0 (cells_listed w (Ask t a) h) refl
  cells_in (Take t a) = nth (Take t a) 0 (cells_listed w (Take t a) h) refl
  cells_in (Run t a) = changed_in (Run t a) a 0 1 refl refl
  cells_in (End t a) = nth (End t a) 0 (cells_listed w (End t a) h) refl
  cells_in (Close t a) = nth (Close t a) 0 (cells_listed w (Close t a) h) refl
  cells_in (Complete k a) = nth (Complete k a) 0 (cells_listed w (Complete k a) h) refl
  cells_in (Abort k) = nth_aborted k 1 (cells_listed w (Abort k) h) refl
  cells_in (Rollback a) = nth (Rollback a) 0 (cells_listed w (Rollback a) h) refl
  cells_in (Finish t a) = nth (Finish t a) 0 (cells_listed w (Finish t a) h) refl
  cells_in (Trim k a) = nth (Trim k a) 0 (cells_listed w (Trim k a) h) refl
  cells_in e = none (all e)

  pub logs_in : (e : Event) → Among (logs_listed w.logs h.logs e) (all e)
  logs_in (Form k) = nth (Form k) 1 (logs_listed w.logs h.logs (Form k)) refl
  logs_in (Complete k a) = nth (Complete k a) 1 (logs_listed w.logs h.logs (Complete k a)) refl
  logs_in (Commit k) = nth (Commit k) 1 (logs_listed w.logs h.logs (Commit k)) refl
  logs_in (Prepare t a) = nth (Prepare t a) 0 (logs_listed w.logs h.logs (Prepare t a)) refl
  logs_in (Decide t) = nth (Decide t) 0 (logs_listed w.logs h.logs (Decide t)) refl
  logs_in e = none (all e)

  of_post_in : (e : Event) → Among (of_post e h.cells d p) (all e)
  of_post_in (Form k) = nth (Form k) 0 (of_post (Form k) h.cells d p) refl
  of_post_in (Arrive k a) = both_in (followers k a p) (takes_by k a (slice_get h.cells a) p) (all (Arrive k a)) (nth (Arrive k a) 2 (followers k a p) refl) (nth (Arrive k a) 3 (takes_by k a (slice_get h.cells a) p) refl)
  of_post_in (Abort k) = nth_aborted k 2 (of_post (Abort k) h.cells d p) refl
  of_post_in (Rollback a) = both_in (arrivals_to a p) (comings_to a p) (all (Rollback a)) (nth (Rollback a) 1 (arrivals_to a p) refl) (nth (Rollback a) 2 (comings_to a p) refl)
  of_post_in (Finish t a) = nth (Finish t a) 1 (of_post (Finish t a) h.cells d p) refl
  of_post_in e = none (all e)

  of_sent_in : (e : Event) → Among (of_sent e h.cells b p) (all e)
  of_sent_in (Admit t) = nth (Admit t) 0 (of_sent (Admit t) h.cells b p) refl
  of_sent_in (Send t a) = nth (Send t a) 0 (of_sent (Send t a) h.cells b p) refl
  of_sent_in e = none (all e)

  of_drops_in : (e : Event) → Among (of_drops_with e (given_up_by e h.cells b)) (all e)
  of_drops_in (Arrive k a) = λ f i. fallen_in k a f (gone_if_in b of_drop (drop_in b) (may_have_acts (slice_get h.cells a)) f i)
  of_drops_in (Ask t a) = λ f i. nth (Ask t a) 3 (of_all_gone b) refl f (gone_in b of_drop (drop_in b) f i)
  of_drops_in e = none (all e)

  pub post_in : (e : Event) → Among (post_listed e h.cells b d p) (all e)
  post_in e = both_in (of_post e h.cells d p) (of_sent e h.cells b p ++ of_drops_with e (given_up_by e h.cells b)) (all e) (of_post_in e) (both_in (of_sent e h.cells b p) (of_drops_with e (given_up_by e h.cells b)) (all e) (of_sent_in e) (of_drops_in e))

  pub desk_in : (e : Event) → Among (by_desk next d e) (all e)
  desk_in (Form k) = nth (Form k) 2 (by_desk next d (Form k)) refl
  desk_in (End t a) = nth (End t a) 1 (by_desk next d (End t a)) refl
  desk_in (Note k a) = nth (Note k a) 0 (by_desk next d (Note k a)) refl
  desk_in (Commit k) = nth (Commit k) 0 (by_desk next d (Commit k)) refl
  desk_in (Settle k) = both_in (trims_of d k) (next_ends d next) (all (Settle k)) (nth (Settle k) 0 (trims_of d k) refl) (nth (Settle k) 1 (next_ends d next) refl)
  desk_in (Abort k) = nth_aborted k 3 (by_desk next d (Abort k)) refl
  desk_in e = none (all e)

  pub book_in : (e : Event) → Among (book_listed e h.cells b) (all e)
  book_in (Arrive k a) = λ f i. fallen_in k a f (gone_if_in b (leaving_of b) (leaving_in b) (may_have_acts (slice_get h.cells a)) f i)
  book_in (Ask t a) = λ f i. nth (Ask t a) 3 (of_all_gone b) refl f (gone_in b (leaving_of b) (leaving_in b) f i)
  book_in (End t a) = both_in (deciding_of b t) (preparing_of b t) (all (End t a)) (nth (End t a) 2 (deciding_of b t) refl) (nth (End t a) 3 (preparing_of b t) refl)
  book_in (Settle k) = nth (Settle k) 3 (book_listed (Settle k) h.cells b) refl
  book_in (Abort k) = λ f i. nth_aborted k 5 (of_all_gone b) refl f (gone_in b (leaving_of b) (leaving_in b) f i)
  book_in (Vouch t a) = nth (Vouch t a) 0 (book_listed (Vouch t a) h.cells b) refl
  book_in (Decide t) = nth (Decide t) 2 (book_listed (Decide t) h.cells b) refl
  book_in (Seal t) = nth (Seal t) 1 (book_listed (Seal t) h.cells b) refl
  book_in e = none (all e)

  of_batches_in : (e : Event) → Among (of_batches r.next_bid d e) (all e)
  of_batches_in (Settle k) = nth (Settle k) 2 (of_batches r.next_bid d (Settle k)) refl
  of_batches_in (Abort k) = nth_aborted k 4 (of_batches r.next_bid d (Abort k)) refl
  of_batches_in e = none (all e)

  of_acts_in : (e : Event) → Among (of_acts_with b e (given_up_by e h.cells b)) (all e)
  of_acts_in (Arrive k a) = λ f i. fallen_in k a f (gone_if_in b (of_tx b) (tx_in b) (may_have_acts (slice_get h.cells a)) f i)
  of_acts_in (Ask t a) = both_in (of_over b t) (flat_map (of_tx b) (given_up_tids b)) (all (Ask t a)) (nth (Ask t a) 2 (of_over b t) refl) (λ f i. nth (Ask t a) 3 (of_all_gone b) refl f (gone_in b (of_tx b) (tx_in b) f i))
  of_acts_in (End t a) = nth (End t a) 4 (of_acts_with b (End t a) (given_up_by (End t a) h.cells b)) refl
  of_acts_in (Abort k) = λ f i. nth_aborted k 5 (of_all_gone b) refl f (gone_in b (of_tx b) (tx_in b) f i)
  of_acts_in (Decide t) = nth (Decide t) 3 (of_acts_with b (Decide t) (given_up_by (Decide t) h.cells b)) refl
  of_acts_in (Seal t) = nth (Seal t) 2 (of_acts_with b (Seal t) (given_up_by (Seal t) h.cells b)) refl
  of_acts_in e = none (all e)

  pub answers_in : (e : Event) → Among (answers_listed r.next_bid e h.cells b d) (all e)
  answers_in e = both_in (of_batches r.next_bid d e) (of_acts_with b e (given_up_by e h.cells b)) (all e) (of_batches_in e) (of_acts_in e)
