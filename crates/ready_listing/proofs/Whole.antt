-- Whatever is allowed, and has its footprint at hand, is among what the parts at hand list.
use Rattle.std.specs.List.{flat_map}
use Rattle.std.specs.Prelude.{filter}
use Rattle.std.proofs.Common.{◌≡◌, ℕ, zero, suc, ◌+◌, ◌%◌, ◌<◌, ◌≤◌, inl, inr, Bool, true, Contains, Option, Some, None, List, [], ◌∷◌, ◌++◌, length, slice_get, refl, sym, ap, subst, ◌∙◌, arith}
use Rattle.std.proofs.lemmas.Bool.{true≢false, cases_lt}
use Rattle.std.proofs.lemmas.List.Elements.{Contains-append_left, Contains-append_right}
use Rattle.std.proofs.lemmas.List.Elements.{filter-append}
use Rattle.std.proofs.lemmas.Option.{same_Some, slice_get_within}
use Rattle.snap_base.proofs.Options.{is_no_none}
use Rattle.snap_base.proofs.Lists.{one_at}
use Rattle.aml_slice.specs.Controls.{Rest}
use Rattle.listing_facts.specs.book_part.Halves.{Halves}
use Rattle.listing_facts.specs.batch_table.Listed.{is_unreplied, unreplied_below}
use Rattle.listing_facts.specs.Listing.{PostLists, CellLists, DeskLists, BookLists, AnswersList}
use Rattle.protocol.specs.Conditions.{epoch}
use Rattle.protocol.specs.Events.{Event, Submit, Pass, Form, Admit, Arrive, Ask, Take, Run, Send, End, Close, Complete, Sync, Note, Commit, Settle, Abort, Rollback, DropSub, DropControl, Prepare, Vouch, Decide, Seal, Finish, Reply, Trim, footprint, ring, book, post, desk, cell}
use Rattle.protocol.specs.Fixed.{Fixed}
use Rattle.protocol.specs.Parts.{Ring, Post, Desk, Log, Cell, Machine}
use Rattle.protocol.specs.Words.{below}
use Rattle.protocol_theorems.specs.Sizes.{SizesHold}
use Rattle.protocol_ready.specs.Telling.{PartsTell, RingTells, PostTells, CellTells, LogTells, DeskTells, BookTells, AnswersTell}
use Rattle.snap_hand.specs.Hands.{Parts, Fits, IsHandOf, is_at_hand, is_not_out}
use Rattle.ready_listing.specs.Chosen.{is_asked}
use Rattle.ready_listing.specs.Listed.{on_ring, on_post, on_cell, of_log, on_desk, on_book, on_replies, of_some, of_place, on_place, upto_of, on_hand}
use Rattle.ready_listing.proofs.Lists.{first_of_all, in_flat_map, in_below, all_has, placed}
use Rattle.ready_listing.proofs.Parts.{cell_shown, cell_is_out}
use Rattle.ready_listing.proofs.Told.{post_lists, cell_lists, desk_lists, book_lists, answers_list}

-- below more there are more
more_below : (p : ℕ → Bool) (n m x : ℕ) → n ≤ m → Contains (filter p (below n)) x → Contains (filter p (below m)) x
more_below p n zero x h c = let same : n ≡ 0 = omega (arith, h) in subst (λ k. Contains (filter p (below k)) x) same c
more_below p n (suc m) x h c = elim (cases_lt m n) [
  | inl lt ↦ let same : n ≡ suc m = omega (arith, h, lt) in subst (λ k. Contains (filter p (below k)) x) same c
  | inr le ↦ subst (λ v. Contains v x) (sym (filter-append p (below m) (m ∷ []))) (Contains-append_left (filter p (below m)) (filter p (m ∷ [])) x (more_below p n m x le c))
]

module _ (w : Fixed Rest) (h : Parts) (s : Machine Rest) (fits : Fits h s) (places : IsHandOf w h) (sizes : SizesHold w s) where
  -- a part of what is asked for is there
  has_part : (f : Event) (i : ℕ) → is_asked w h f ≡ true → (n : ℕ) → slice_get (footprint w.text.logs f) n ≡ Some i → is_at_hand h i ≡ true
  has_part f i q n e = all_has (is_at_hand h) (footprint w.text.logs f) i q (placed (footprint w.text.logs f) n i e)

  module _ (es : List Event) where
    ring_tells : ((f : Event) → Contains (of_some (on_ring w.text.coordinators) h.ring) f → Contains es f) → RingTells (is_asked w h) w.text s.ring es
    ring_tells more = by h.ring refl
      where
        by : (o : Option Ring) → h.ring ≡ o → RingTells (is_asked w h) w.text s.ring es
        by None e = record {
          submit = λ q a. absurd (is_no_none h.ring e (has_part (Submit s.ring.next_tx) ring q 0 refl));
          pass = λ q a b. absurd (is_no_none h.ring e (has_part (Pass ((s.ring.holder + 1) % w.text.coordinators)) ring q 0 refl));
          form = λ q a. absurd (is_no_none h.ring e (has_part (Form s.ring.next_bid) ring q 0 refl));
          admit = λ q a. absurd (is_no_none h.ring e (has_part (Admit s.ring.next_tid) ring q 0 refl));
        }
        by (Some r) e =
            let had : (f : Event) (i : ℕ) → slice_get (on_ring w.text.coordinators r) i ≡ Some f → Contains es f = λ f i g. more f (subst (λ o. Contains (of_some (on_ring w.text.coordinators) o) f) (sym e) (placed (on_ring w.text.coordinators r) i f g)) in
            let tells : RingTells (is_asked w h) w.text r es = record {
              submit = λ q a. had (Submit r.next_tx) 0 refl;
              pass = λ q a b. had (Pass ((r.holder + 1) % w.text.coordinators)) 1 refl;
              form = λ q a. had (Form r.next_bid) 2 refl;
              admit = λ q a. had (Admit r.next_tid) 3 refl;
            } in
            subst (λ x. RingTells (is_asked w h) w.text x es) (sym (fits.ring r e)) tells

    post_tells : ((p : Post Rest) → PostLists (is_asked w h) p es → PostTells (is_asked w h) p es) → ((f : Event) → Contains (of_some on_post h.post) f → Contains es f) → PostTells (is_asked w h) s.post es
    post_tells enough more = by h.post refl
      where
        by : (o : Option (Post Rest)) → h.post ≡ o → PostTells (is_asked w h) s.post es
        by None e = record {
          arrive = λ k a q g. absurd (is_no_none h.post e (has_part (Arrive k a) post q 1 refl));
          drop_sub = λ k a q g. absurd (is_no_none h.post e (has_part (DropSub k a) post q 1 refl));
          ask = λ t a q g. absurd (is_no_none h.post e (has_part (Ask t a) post q 1 refl));
          take = λ t a q g. absurd (is_no_none h.post e (has_part (Take t a) post q 0 refl));
          drop_control = λ t q g. absurd (is_no_none h.post e (has_part (DropControl t) post q 1 refl));
        }
        by (Some p) e = subst (λ x. PostTells (is_asked w h) x es) (sym (fits.post p e)) (enough p (post_lists (is_asked w h) es p (λ f g. more f (subst (λ o. Contains (of_some on_post o) f) (sym e) g))))

    desk_tells : ((d : Desk) → DeskLists (is_asked w h) d es → DeskTells (is_asked w h) d es) → ((f : Event) → Contains (of_some on_desk h.desk) f → Contains es f) → DeskTells (is_asked w h) s.desk es
    desk_tells enough more = by h.desk refl
      where
        by : (o : Option Desk) → h.desk ≡ o → DeskTells (is_asked w h) s.desk es
        by None e = record {
          note = λ k a q g. absurd (is_no_none h.desk e (has_part (Note k a) desk q 0 refl));
          commit = λ k q g. absurd (is_no_none h.desk e (has_part (Commit k) desk q 0 refl));
          abort = λ k q g. absurd (is_no_none h.desk e (has_part (Abort k) desk q 2 refl));
          settle = λ k q g. absurd (is_no_none h.desk e (has_part (Settle k) desk q 0 refl));
          trim = λ k a q g. absurd (is_no_none h.desk e (has_part (Trim k a) desk q 0 refl));
        }
        by (Some d) e = subst (λ x. DeskTells (is_asked w h) x es) (sym (fits.desk d e)) (enough d (desk_lists (is_asked w h) es d (λ f g. more f (subst (λ o. Contains (of_some on_desk o) f) (sym e) g))))

    book_tells : (BookLists (is_asked w h) s.book es → BookTells (is_asked w h) s.book es) → ((f : Event) → Contains (of_some (λ x. on_book s.book) h.book) f → Contains es f) → BookTells (is_asked w h) s.book es
    book_tells enough more = by h.book refl
      where
        by : (o : Option Halves) → h.book ≡ o → BookTells (is_asked w h) s.book es
        by None e = record {
          prepare = λ t a q g i. absurd (is_no_none h.book e (has_part (Prepare t a) book q 0 refl));
          vouch = λ t a q g. absurd (is_no_none h.book e (has_part (Vouch t a) book q 0 refl));
          decide = λ t q g. absurd (is_no_none h.book e (has_part (Decide t) book q 0 refl));
          seal = λ t q g. absurd (is_no_none h.book e (has_part (Seal t) book q 0 refl));
          finish = λ t a q g i. absurd (is_no_none h.book e (has_part (Finish t a) book q 0 refl));
        }
        by (Some b) e = enough (book_lists (is_asked w h) es s.book (λ f g. more f (subst (λ o. Contains (of_some (λ x. on_book s.book) o) f) (sym e) g)))

    upto_enough : (d : Desk) (x : ℕ) → Contains (unreplied_below s.ring.next_tx d.replied) x → Contains (unreplied_below (upto_of w.text h.ring) d.replied) x
    upto_enough d x c = by h.ring refl
      where
        by : (o : Option Ring) → h.ring ≡ o → Contains (unreplied_below (upto_of w.text h.ring) d.replied) x
        by None e = subst (λ o. Contains (unreplied_below (upto_of w.text o) d.replied) x) (sym e) (more_below (is_unreplied d.replied) s.ring.next_tx (length w.text.txs) x sizes.next_tx c)
        by (Some r) e = subst (λ o. Contains (unreplied_below (upto_of w.text o) d.replied) x) (sym e) (subst (λ y. Contains (unreplied_below y.next_tx d.replied) x) (fits.ring r e) c)

    answers_tell : (AnswersList (is_asked w h) s.ring.next_tx s.desk es → AnswersTell (is_asked w h) s.book s.desk es) → ((f : Event) → Contains (of_some (on_replies (upto_of w.text h.ring)) h.desk) f → Contains es f) → AnswersTell (is_asked w h) s.book s.desk es
    answers_tell enough more = by h.desk refl
      where
        by : (o : Option Desk) → h.desk ≡ o → AnswersTell (is_asked w h) s.book s.desk es
        by None e = λ n q a v. absurd (is_no_none h.desk e (has_part (Reply n) desk q 1 refl))
        by (Some d) e =
            let upto = upto_of w.text h.ring in
            let lists = answers_list (is_asked w h) es upto d (λ f g. more f (subst (λ o. Contains (of_some (on_replies upto) o) f) (sym e) g)) in
            enough (λ n c. lists n (upto_enough d n (subst (λ x. Contains (unreplied_below s.ring.next_tx x.replied) n) (fits.desk d e) c)))

    -- the actor exists
    within_cells : (a : ℕ) (c : Cell Rest) → slice_get s.cells a ≡ Some c → a < length h.cells
    within_cells a c e = subst (λ n. a < n) (sizes.cells ∙ sym places.cells) (slice_get_within s.cells a c e)

    cell_tells : ((cascades a : ℕ) (c : Cell Rest) → CellLists (is_asked w h) cascades a c es → CellTells (is_asked w h) cascades a c es)
        → ((f : Event) → Contains (flat_map (on_place h) (below (length h.cells))) f → Contains es f)
        → (a : ℕ) (c : Cell Rest) → slice_get s.cells a ≡ Some c → CellTells (is_asked w h) (epoch s.book) a c es
    cell_tells enough more a c at = by (one_at h.cells a (within_cells a c at)).0 (one_at h.cells a (within_cells a c at)).1
      where
        by : (o : Option (Cell Rest)) → slice_get h.cells a ≡ Some o → CellTells (is_asked w h) (epoch s.book) a c es
        by None e =
            let gone : is_at_hand h (cell w.text.logs a) ≡ true → ⊥ = λ q. true≢false (sym q ∙ (ap is_not_out (cell_shown h w.text.logs a places.logs) ∙ cell_is_out h a e)) in
            record {
              run = λ t q g. absurd (gone (has_part (Run t a) (cell w.text.logs a) q 0 refl));
              send = λ t q g. absurd (gone (has_part (Send t a) (cell w.text.logs a) q 1 refl));
              end = λ t q g. absurd (gone (has_part (End t a) (cell w.text.logs a) q 2 refl));
              close = λ t q g. absurd (gone (has_part (Close t a) (cell w.text.logs a) q 1 refl));
              complete = λ k q g. absurd (gone (has_part (Complete k a) (cell w.text.logs a) q 1 refl));
              rollback = λ q g. absurd (gone (has_part (Rollback a) (cell w.text.logs a) q 1 refl));
            }
        by (Some x) e =
            let same : x ≡ c = same_Some x c (sym (fits.cells a x e) ∙ at) in
            let had : (f : Event) → Contains (on_cell a x) f → Contains es f = λ f g. more f (in_flat_map (on_place h) (below (length h.cells)) a f (in_below a (length h.cells) (within_cells a c at)) (subst (λ o. Contains (of_place a o) f) (sym e) g)) in
            subst (λ y. CellTells (is_asked w h) (epoch s.book) a y es) same (enough (epoch s.book) a x (cell_lists (is_asked w h) es (epoch s.book) a x had))

    log_tells : ((f : Event) → Contains (flat_map of_log (below w.text.logs)) f → Contains es f) → (l : ℕ) (g : Log) → slice_get s.logs l ≡ Some g → LogTells (is_asked w h) l g es
    log_tells more l g at q a = more (Sync l) (in_flat_map of_log (below w.text.logs) l (Sync l) (in_below l w.text.logs (subst (λ n. l < n) sizes.logs (slice_get_within s.logs l g at))) (first_of_all [] (Sync l)))

  -- ---- all of them

  pub parts_tell : ((asked : Event → Bool) (p : Post Rest) (es : List Event) → PostLists asked p es → PostTells asked p es)
      → ((asked : Event → Bool) (cascades a : ℕ) (c : Cell Rest) (es : List Event) → CellLists asked cascades a c es → CellTells asked cascades a c es)
      → ((asked : Event → Bool) (d : Desk) (es : List Event) → DeskLists asked d es → DeskTells asked d es)
      → ((asked : Event → Bool) (es : List Event) → BookLists asked s.book es → BookTells asked s.book es)
      → ((asked : Event → Bool) (es : List Event) → AnswersList asked s.ring.next_tx s.desk es → AnswersTell asked s.book s.desk es)
      → PartsTell (is_asked w h) w s (on_hand w.text h s.book)
  parts_tell post_enough cell_enough desk_enough book_enough answers_enough =
      let asked = is_asked w h in
      let es = on_hand w.text h s.book in
      let replies = of_some (on_replies (upto_of w.text h.ring)) h.desk in
      let books = of_some (λ x. on_book s.book) h.book in
      let desks = of_some on_desk h.desk in
      let logs = flat_map of_log (below w.text.logs) in
      let cells = flat_map (on_place h) (below (length h.cells)) in
      let posts = of_some on_post h.post in
      let rings = of_some (on_ring w.text.coordinators) h.ring in
      let from_books : (f : Event) → Contains (books ++ replies) f → Contains es f = λ f c.
      Contains-append_right rings _ f (Contains-append_right posts _ f (Contains-append_right cells _ f (Contains-append_right logs _ f (Contains-append_right desks _ f c)))) in
      let from_logs : (f : Event) → Contains (logs ++ (desks ++ (books ++ replies))) f → Contains es f = λ f c.
      Contains-append_right rings _ f (Contains-append_right posts _ f (Contains-append_right cells _ f c)) in
      record {
        ring = ring_tells es (λ f c. Contains-append_left rings _ f c);
        post = post_tells es (λ p. post_enough asked p es) (λ f c. Contains-append_right rings _ f (Contains-append_left posts _ f c));
        cells = cell_tells es (λ cascades a c. cell_enough asked cascades a c es) (λ f c. Contains-append_right rings _ f (Contains-append_right posts _ f (Contains-append_left cells _ f c)));
        logs = log_tells es (λ f c. from_logs f (Contains-append_left logs _ f c));
        desk = desk_tells es (λ d. desk_enough asked d es) (λ f c. from_logs f (Contains-append_right logs _ f (Contains-append_left desks _ f c)));
        book = book_tells es (book_enough asked es) (λ f c. from_books f (Contains-append_left books _ f c));
        answers = answers_tell es (answers_enough asked es) (λ f c. from_books f (Contains-append_right books _ f c));
      }
