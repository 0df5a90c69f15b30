-- What has all that a part lists has what the part is to list.
use Rattle.std.specs.List.{flat_map}
use Rattle.std.proofs.Common.{◌≡◌, ℕ, Bool, Contains, Some, List, [], ◌∷◌, ◌++◌, map, slice_get, refl}
use Rattle.std.proofs.lemmas.List.Elements.{Contains-append_left, Contains-append_right}
use Rattle.aml_slice.specs.Controls.{Rest}
use Rattle.listing_facts.specs.batch_table.Listed.{actors_in, going_batches, unreplied_below}
use Rattle.listing_facts.specs.book_part.Listed.{live_tids}
use Rattle.listing_facts.specs.hybrid_schedule.Listed.{incomplete_on, undone_on}
use Rattle.listing_facts.specs.Listing.{PostLists, CellLists, DeskLists, BookLists, AnswersList}
use Rattle.listing_facts.specs.post_box.Listed.{control_places, sub_places}
use Rattle.protocol.specs.Events.{Event, Arrive, Ask, Take, Run, Send, End, Close, Complete, Note, Commit, Settle, Abort, Rollback, DropSub, DropControl, Prepare, Vouch, Decide, Seal, Finish, Reply, Trim}
use Rattle.protocol.specs.Parts.{Book, Post, Desk, Cell}
use Rattle.protocol.specs.Words.{act_of, batch_of}
use Rattle.protocol_theorems.specs.BookFits.{actors_at}
use Rattle.ready_listing.specs.Listed.{of_sub, of_control, on_post, of_waiting, of_outcome, of_undone, of_incomplete, on_boxes, on_schedule, on_cell, of_declared, of_batch, on_desk, of_joined, of_act, on_book, of_reply, on_replies}
use Rattle.ready_listing.proofs.Lists.{first_of_all, in_flat_map, placed}

-- ---- what each part lists, among more

module _ (asked : Event → Bool) (es : List Event) where
  pub post_lists : (p : Post Rest) → ((f : Event) → Contains (on_post p) f → Contains es f) → PostLists asked p es
  post_lists p more = record {
    subs = λ k a h.
        let one : (f : Event) (i : ℕ) → slice_get (of_sub (k, a)) i ≡ Some f → Contains es f = λ f i e. more f (Contains-append_left (flat_map of_sub (sub_places p.subs)) (flat_map of_control (control_places p.controls)) f (in_flat_map of_sub (sub_places p.subs) (k, a) f h (placed (of_sub (k, a)) i f e))) in
        ((λ q. one (Arrive k a) 0 refl), (λ q. one (DropSub k a) 1 refl));
    controls = λ t a h.
        let one : (f : Event) (i : ℕ) → slice_get (of_control (t, a)) i ≡ Some f → Contains es f = λ f i e. more f (Contains-append_right (flat_map of_sub (sub_places p.subs)) (flat_map of_control (control_places p.controls)) f (in_flat_map of_control (control_places p.controls) (t, a) f h (placed (of_control (t, a)) i f e))) in
        ((λ q. one (Ask t a) 0 refl), (λ q. one (Take t a) 1 refl), (λ q. one (DropControl t) 2 refl));
  }

  pub cell_lists : (cascades a : ℕ) (c : Cell Rest) → ((f : Event) → Contains (on_cell a c) f → Contains es f) → CellLists asked cascades a c es
  cell_lists cascades a c more =
      let rest : (f : Event) → Contains (on_boxes a c ++ on_schedule a c) f → Contains es f = λ f g. more f (Contains-append_right (Rollback a ∷ []) (on_boxes a c ++ on_schedule a c) f g) in
      let boxes : (f : Event) → Contains (on_boxes a c) f → Contains es f = λ f g. rest f (Contains-append_left (on_boxes a c) (on_schedule a c) f g) in
      let schedule : (f : Event) → Contains (on_schedule a c) f → Contains es f = λ f g. rest f (Contains-append_right (on_boxes a c) (on_schedule a c) f g) in
      let runs = flat_map (of_waiting a) (map (λ x. x.tid) c.inbox) in
      let left = flat_map (of_outcome a) (map (λ x. x.tid) c.outbox) in
      let closes = flat_map (of_undone a) (undone_on c.entries) in
      let completes = flat_map (of_incomplete a) (incomplete_on c.entries) in
      record {
        waiting = λ t h q. boxes (Run t a) (Contains-append_left runs left (Run t a) (in_flat_map (of_waiting a) (map (λ x. x.tid) c.inbox) t (Run t a) h (first_of_all [] (Run t a))));
        outcomes = λ t h.
            let one : (f : Event) (i : ℕ) → slice_get (of_outcome a t) i ≡ Some f → Contains es f = λ f i e. boxes f (Contains-append_right runs left f (in_flat_map (of_outcome a) (map (λ x. x.tid) c.outbox) t f h (placed (of_outcome a t) i f e))) in
            ((λ q. one (Send t a) 0 refl), (λ q. one (End t a) 1 refl));
        undone = λ t h q. schedule (Close t a) (Contains-append_left closes completes (Close t a) (in_flat_map (of_undone a) (undone_on c.entries) t (Close t a) h (first_of_all [] (Close t a))));
        incomplete = λ k h q. schedule (Complete k a) (Contains-append_right closes completes (Complete k a) (in_flat_map (of_incomplete a) (incomplete_on c.entries) k (Complete k a) h (first_of_all [] (Complete k a))));
        behind = λ h q. more (Rollback a) (Contains-append_left (Rollback a ∷ []) (on_boxes a c ++ on_schedule a c) (Rollback a) (first_of_all [] (Rollback a)));
      }

  pub desk_lists : (d : Desk) → ((f : Event) → Contains (on_desk d) f → Contains es f) → DeskLists asked d es
  desk_lists d more =
      let one : (k : ℕ) → Contains (going_batches d) k → (f : Event) → Contains (of_batch d k) f → Contains es f = λ k h f g. more f (in_flat_map (of_batch d) (going_batches d) k f h g) in
      let rest : ℕ → List Event = λ k. flat_map (of_declared k) (actors_in (batch_of k d.batches)) in
      let ends : ℕ → List Event = λ k. Commit k ∷ Settle k ∷ Abort k ∷ [] in
      record {
        batches = λ k h. (
          (λ q. one k h (Commit k) (Contains-append_left (ends k) (rest k) (Commit k) (placed (ends k) 0 (Commit k) refl))),
          (λ q. one k h (Settle k) (Contains-append_left (ends k) (rest k) (Settle k) (placed (ends k) 1 (Settle k) refl))),
          (λ q. one k h (Abort k) (Contains-append_left (ends k) (rest k) (Abort k) (placed (ends k) 2 (Abort k) refl))),
        );
        actors = λ k a h i.
            let on : (f : Event) (n : ℕ) → slice_get (of_declared k a) n ≡ Some f → Contains es f = λ f n e. one k h f (Contains-append_right (ends k) (rest k) f (in_flat_map (of_declared k) (actors_in (batch_of k d.batches)) a f i (placed (of_declared k a) n f e))) in
            ((λ q. on (Note k a) 0 refl), (λ q. on (Trim k a) 1 refl));
      }

  pub book_lists : (b : Book) → ((f : Event) → Contains (on_book b) f → Contains es f) → BookLists asked b es
  book_lists b more =
      let one : (t : ℕ) → Contains (live_tids b) t → (f : Event) → Contains (of_act b t) f → Contains es f = λ t h f g. more f (in_flat_map (of_act b) (live_tids b) t f h g) in
      let rest : ℕ → List Event = λ t. flat_map (of_joined t) (actors_at (act_of t b.acts)) in
      let ends : ℕ → List Event = λ t. Decide t ∷ Seal t ∷ [] in
      record {
        acts = λ t h. (
          (λ q. one t h (Decide t) (Contains-append_left (ends t) (rest t) (Decide t) (placed (ends t) 0 (Decide t) refl))),
          (λ q. one t h (Seal t) (Contains-append_left (ends t) (rest t) (Seal t) (placed (ends t) 1 (Seal t) refl))),
        );
        actors = λ t a h i.
            let on : (f : Event) (n : ℕ) → slice_get (of_joined t a) n ≡ Some f → Contains es f = λ f n e. one t h f (Contains-append_right (ends t) (rest t) f (in_flat_map (of_joined t) (actors_at (act_of t b.acts)) a f i (placed (of_joined t a) n f e))) in
            ((λ q. on (Prepare t a) 0 refl), (λ q. on (Vouch t a) 1 refl), (λ q. on (Finish t a) 2 refl));
      }

  pub answers_list : (upto : ℕ) (d : Desk) → ((f : Event) → Contains (on_replies upto d) f → Contains es f) → AnswersList asked upto d es
  answers_list upto d more n h q = more (Reply n) (in_flat_map of_reply (unreplied_below upto d.replied) n (Reply n) h (first_of_all [] (Reply n)))
