-- Where no ACT stands on an actor, none is given up by an arrival there: nothing is new of what ACTs wait for, of replies, and of
-- controls that may be dropped.
use Rattle.std.specs.Prelude.{◌≡◌, refl, ℕ, ◌==◌, Bool, true, false, ◌&&◌, Option, Some, None, List, [], ◌∷◌, ◌++◌, ◌⊎◌, map, filter, slice_get}
use Rattle.std.specs.List.{list_any, flat_map}
use Rattle.std.proofs.Common.{arith, sym, subst, inl, inr}
use Rattle.std.proofs.lemmas.Bool.{true≢false, and_parts, false_from_ne_true}
use Rattle.aml_slice.specs.Controls.{Rest}
use Rattle.listing_facts.specs.hybrid_schedule.Schedules.{is_any_act}
use Rattle.protocol.specs.Effects.{after, cell_at}
use Rattle.protocol.specs.Events.{Event, Arrive, Ask, Abort, Prepare, Vouch, Decide, Seal, Finish, Reply, DropControl}
use Rattle.protocol.specs.Fixed.{Fixed}
use Rattle.protocol.specs.OnBook.{lowered, tids_on}
use Rattle.protocol.specs.OnCell.{batch_entries, batch_placed}
use Rattle.protocol.specs.Parts.{Act, Book, Cell, Entry, BatchEntry, ActEntry, Machine}
use Rattle.protocol.specs.Spread.{is_crossed, reaches}
use Rattle.protocol.specs.Words.{control_of, is_live_status, sub_of}
use Rattle.protocol_ready.specs.Telling.{BookTells, AnswersTell}
use Rattle.protocol_ready.specs.Touched.{is_touched, changes_act, crossed_tids, has_crossed_act}
use Rattle.protocol_ready.proofs.Listing.{Has, any_of, from_filter}
use Rattle.snap_hand.specs.Hands.{Parts}
use Rattle.ready_news.specs.GivenUp.{given_up_by, given_up_if, given_up_tids, may_have_acts}
use Rattle.ready_news.specs.InAnswers.{of_acts, of_acts_with, of_tx}
use Rattle.ready_news.specs.InBook.{by_book, by_book_with, leaving_of}
use Rattle.ready_news.specs.InPost.{of_drop, of_drops, of_drops_with}
use Rattle.ready_news.specs.New.{IsBehind, is_new}
use Rattle.ready_news.proofs.AfterRuns.{Holding}
use Rattle.ready_news.proofs.Common.{new_is_touched}
use Rattle.ready_news.proofs.GivenUp.{found_is, from_map, numbered}
use Rattle.ready_news.proofs.PostTold.{first_only, not_who, put_there}

-- ---- all that are given up are listed, or the event is such an arrival

abbrev pub IsIdle : Event → List (Option (Cell Rest)) → Type 0
IsIdle (Arrive k a) cells = may_have_acts (slice_get cells a) ≡ false
IsIdle _ cells = ⊥

-- of each of them the same
all_or_none : (f : ℕ → List Event) (c : Bool) (b : Book) → (flat_map f (given_up_if c b) ≡ flat_map f (given_up_tids b)) ⊎ (c ≡ false)
all_or_none f true b = inl refl
all_or_none f false b = inr refl

pub drops_are : (e : Event) (cells : List (Option (Cell Rest))) (b : Book) → (of_drops_with e (given_up_by e cells b) ≡ of_drops e b) ⊎ IsIdle e cells
drops_are (Arrive k a) cells b = all_or_none of_drop (may_have_acts (slice_get cells a)) b
drops_are (Ask t a) cells b = inl refl
drops_are e cells b = inl refl

pub acts_are : (e : Event) (cells : List (Option (Cell Rest))) (b : Book) → (of_acts_with b e (given_up_by e cells b) ≡ of_acts b e) ⊎ IsIdle e cells
acts_are (Arrive k a) cells b = all_or_none (of_tx b) (may_have_acts (slice_get cells a)) b
acts_are (Ask t a) cells b = inl refl
acts_are (Abort k) cells b = inl refl
acts_are e cells b = inl refl

pub book_is : (e : Event) (cells : List (Option (Cell Rest))) (b : Book) → (by_book_with b e (given_up_by e cells b) ≡ by_book b e) ⊎ IsIdle e cells
book_is (Arrive k a) cells b = all_or_none (leaving_of b) (may_have_acts (slice_get cells a)) b
book_is (Ask t a) cells b = inl refl
book_is (Abort k) cells b = inl refl
book_is e cells b = inl refl

-- ---- no ACT stands there

none_on : (es more : List Entry) → list_any is_any_act (es ++ more) ≡ false → tids_on es ≡ []
none_on [] more h = refl
none_on (BatchEntry b ∷ es) more h = none_on es more h
none_on (ActEntry x ∷ es) more h = absurd (true≢false h)

none_stand : (w : Fixed Rest) (s : Machine Rest) (k a : ℕ) (h : Parts) → IsBehind w (Arrive k a) s h → IsIdle (Arrive k a) h.cells → tids_on (cell_at s a).entries ≡ []
unfolding after
none_stand w s k a h behind idle = by (slice_get h.cells a) refl idle
  where
    by : (o : Option (Option (Cell Rest))) → slice_get h.cells a ≡ o → may_have_acts o ≡ false → tids_on (cell_at s a).entries ≡ []
    by None e f = absurd (true≢false f)
    by (Some None) e f = absurd (true≢false f)
    by (Some (Some c)) e f =
        let same = put_there s.cells a (batch_placed k (sub_of k a s.post.subs) (cell_at s a)) c (behind.fits.cells a c e) in
        none_on (cell_at s a).entries (batch_entries k (sub_of k a s.post.subs)) (subst (λ z. list_any is_any_act z.entries ≡ false) same f)

-- ---- so no numbers cross

module _ (w : Fixed Rest) (s : Machine Rest) (k a : ℕ) (before : Holding w s) (none : tids_on (cell_at s a).entries ≡ []) where
  uncrossed : (y : Act) → Has (map (lowered k (tids_on (cell_at s a).entries)) s.book.acts) y → is_crossed y ≡ true → ⊥
  uncrossed y has crosses =
      let x = from_map (lowered k (tids_on (cell_at s a).entries)) s.book.acts y has in
      by x.0 x.1.0 (subst (λ tids. is_crossed (lowered k tids x.0) ≡ true) none (subst (λ z. is_crossed z ≡ true) (sym x.1.1) crosses))
    where
      by : (x : Act) → Has s.book.acts x → is_crossed (lowered k [] x) ≡ true → ⊥
      by x there c =
          let both = and_parts (is_live_status x.status) (reaches x.m x.n) c in
          let j = numbered x.m x.n both.1 in
          let low = before.known.numbers x.tid j.0 x (found_is s.book.acts x (before.known.once x.tid) there) both.0 j.1.0 in
          absurd (omega (arith, low.0, j.1.1))

  no_act : (t : ℕ) → changes_act (Arrive k a) s t ≡ true → ⊥
  no_act t h =
      let acts = map (lowered k (tids_on (cell_at s a).entries)) s.book.acts in
      let n = any_of (λ u. u == t) (crossed_tids acts) h in
      let x = from_map (λ x. x.tid) (filter is_crossed acts) n.it n.has in
      let c = from_filter is_crossed acts x.0 x.1.0 in
      uncrossed x.0 c.0 c.1

  no_verdict : (n : ℕ) → has_crossed_act n (map (lowered k (tids_on (cell_at s a).entries)) s.book.acts) ≡ true → ⊥
  no_verdict n h =
      let x = any_of (λ x. is_crossed x && (x.tx == n)) (map (lowered k (tids_on (cell_at s a).entries)) s.book.acts) h in
      uncrossed x.it x.has (and_parts (is_crossed x.it) (x.it.tx == n) x.does).0

  no_drop : (t : ℕ) → is_touched w (Arrive k a) s (DropControl t) ≡ true → ⊥
  no_drop t h = not_who (Arrive k a) s (control_of t s.post.controls) (λ u. false_from_ne_true (changes_act (Arrive k a) s u) (no_act u)) h

  book_quiet : (es : List Event) → BookTells (is_new w (Arrive k a) s) (after w (Arrive k a) s).book es
  book_quiet es =
      let touched = new_is_touched w (Arrive k a) s in
      record {
        prepare = λ t c q h g. absurd (no_act t (first_only (changes_act (Arrive k a) s t) (touched (Prepare t c) q)));
        vouch = λ t c q h. absurd (no_act t (first_only (changes_act (Arrive k a) s t) (touched (Vouch t c) q)));
        decide = λ t q h. absurd (no_act t (first_only (changes_act (Arrive k a) s t) (touched (Decide t) q)));
        seal = λ t q h. absurd (no_act t (first_only (changes_act (Arrive k a) s t) (touched (Seal t) q)));
        finish = λ t c q h g. absurd (no_act t (first_only (changes_act (Arrive k a) s t) (touched (Finish t c) q)));
      }

  answers_quiet : (es : List Event) → AnswersTell (is_new w (Arrive k a) s) (after w (Arrive k a) s).book (after w (Arrive k a) s).desk es
  answers_quiet es n q h v = absurd (no_verdict n (new_is_touched w (Arrive k a) s (Reply n) q))

-- ---- by the event

module _ (w : Fixed Rest) (s : Machine Rest) (h : Parts) (before : Holding w s) where
  pub idle_book : (e : Event) → IsBehind w e s h → IsIdle e h.cells → (es : List Event) → BookTells (is_new w e s) (after w e s).book es
  idle_book (Arrive k a) behind idle es = book_quiet w s k a before (none_stand w s k a h behind idle) es
  idle_book _ behind idle es = absurd idle

  pub idle_answers : (e : Event) → IsBehind w e s h → IsIdle e h.cells → (es : List Event) → AnswersTell (is_new w e s) (after w e s).book (after w e s).desk es
  idle_answers (Arrive k a) behind idle es = answers_quiet w s k a before (none_stand w s k a h behind idle) es
  idle_answers _ behind idle es = absurd idle

  pub idle_drops : (e : Event) → IsBehind w e s h → IsIdle e h.cells → (t : ℕ) → is_new w e s (DropControl t) ≡ true → ⊥
  idle_drops (Arrive k a) behind idle t q = no_drop w s k a before (none_stand w s k a h behind idle) t (new_is_touched w (Arrive k a) s (DropControl t) q)
  idle_drops _ behind idle t q = idle
