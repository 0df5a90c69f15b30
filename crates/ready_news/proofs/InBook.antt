-- What is listed of ACTs tells what is new there.
use Rattle.std.specs.Prelude.{◌≡◌, ◌↔◌, refl, ℕ, ◌≤◌, ◌==◌, not, Bool, true, false, ◌&&◌, ◌||◌, is_some, Option, Some, None, List, [], map, filter, Contains}
use Rattle.std.specs.List.{flat_map}
use Rattle.std.proofs.Common.{sym, ap, subst, inl, inr, ◌∙◌}
use Rattle.std.proofs.lemmas.Bool.{true≢false, false≢true, and_parts, and_from, or_cases, eqb-true, cases_Bool}
use Rattle.std.proofs.lemmas.List.Elements.{Contains-append_left, Contains-append_right}
use Rattle.aml_slice.specs.Controls.{Rest}
use Rattle.book_part.specs.Listed.{live_tids}
use Rattle.ready_listing.proofs.Lists.{first_of_all, in_flat_map}
use Rattle.listing_facts.specs.Listing.{BookLists}
use Rattle.protocol.specs.Conditions.{IsAllowed, conditions, refusal, is_given_up, gives_value, is_not_prepared, awaits_vouch, awaits_decision, failed_or_vouched, awaits_seal, may_leave, has_not_left}
use Rattle.protocol.specs.Effects.{after, cell_at}
use Rattle.protocol.specs.Events.{Event, Admit, Arrive, Ask, End, Sync, Settle, Abort, Prepare, Vouch, Decide, Seal, Finish}
use Rattle.protocol.specs.Fixed.{Fixed}
use Rattle.protocol.specs.Numbers.{times}
use Rattle.protocol.specs.OnBook.{lowered, tids_on}
use Rattle.protocol.specs.Parts.{Status, Live, Doomed, Decided, Sealed, Joined, Act, Book, OfAct, Machine}
use Rattle.protocol.specs.Spread.{is_crossed, crossed_out, doomed_by_order}
use Rattle.protocol.specs.Words.{is_among, holds, act_of, joined_of, is_value, is_live_status, is_doomed, is_decided, is_live_act}
use Rattle.protocol_theorems.specs.BookFits.{actors_at}
use Rattle.protocol_ready.specs.Telling.{BookTells}
use Rattle.protocol_ready.specs.Touched.{crossed_tids, changes_act}
use Rattle.protocol_ready.proofs.Listing.{Has, from_has, to_has, has_map, has_filter, from_filter, any_of, held, found_in}
use Rattle.protocol_ready.proofs.TouchedListed.{no}
use Rattle.ready_news.specs.GivenUp.{given_up_tids}
use Rattle.ready_news.specs.InBook.{only, deciding_of, preparing_on, preparing_if, preparing_of, leaving_on, leaving_if, leaving_of, of_fallen, by_book}
use Rattle.ready_news.specs.New.{is_new, is_sync}
use Rattle.ready_news.proofs.BookBefore.{SyncedWithin, is_out, admit_prepare, admit_vouch, admit_decide, admit_seal, admit_finish, end_vouch, end_seal, end_finish, decide_prepare, decide_vouch, seal_prepare, seal_vouch, seal_decide, finish_vouch, abort_prepare, abort_vouch, abort_decide, abort_seal, abort_finish}
use Rattle.ready_news.proofs.Common.{Among}
use Rattle.ready_news.proofs.GivenUp.{found_is, from_map}
use Rattle.ready_news.proofs.NotDurable.{AddedOnce, unvouched_yet, unsealed_yet}
use Rattle.ready_news.proofs.PostTold.{asks_of}

-- where the list of all that are live is enough
abbrev pub Enough : Book → Type 0
Enough b = (asked : Event → Bool) (es : List Event) → BookLists asked b es → BookTells asked b es

-- the law of the rows
abbrev pub Ruled : Type 0
Ruled = (w : Fixed Rest) (e : Event) (s : Machine Rest) → (refusal w e s ≡ 0) ↔ IsAllowed w e s

-- ---- what is allowed is among what is listed of its ACT

only_has : (p : Bool) (f : Event) → p ≡ true → Contains (only p f) f
only_has true f h = first_of_all [] f
only_has false f h = absurd (false≢true h)

preparing_has : (p : Bool) (b : Book) (t : ℕ) (f : Event) → p ≡ true → Contains (flat_map (preparing_on b t) (actors_at (act_of t b.acts))) f → Contains (preparing_if p b t) f
preparing_has true b t f h c = c
preparing_has false b t f h c = absurd (false≢true h)

leaving_has : (p : Bool) (b : Book) (t : ℕ) (f : Event) → p ≡ true → Contains (flat_map (leaving_on b t) (actors_at (act_of t b.acts))) f → Contains (leaving_if p b t) f
leaving_has true b t f h c = c
leaving_has false b t f h c = absurd (false≢true h)

actor_has : (q : Joined → Bool) (t a : ℕ) (b : Book) → holds (λ x. holds q (joined_of a x)) (act_of t b.acts) ≡ true → Contains (actors_at (act_of t b.acts)) a
actor_has q t a b h =
    let x = held (λ x. holds q (joined_of a x)) (act_of t b.acts) h in
    let p = held q (joined_of a x.it) x.does in
    let r = found_in (λ p. p.actor == a) x.it.places p.it p.is in
    subst (λ o. Contains (actors_at o) a) (sym x.is) (from_has (map (λ p. p.actor) x.it.places) a (subst (λ n. Has (map (λ p. p.actor) x.it.places) n) (eqb-true p.it.actor a r.1) (has_map (λ p. p.actor) x.it.places p.it r.0)))

module _ (w : Fixed Rest) (s : Machine Rest) (t : ℕ) where
  decide_in : IsAllowed w (Decide t) s → Contains (deciding_of s.book t) (Decide t)
  unfolding conditions
  decide_in h = only_has (awaits_decision t s.book.acts && failed_or_vouched t s.book.acts) (Decide t) (and_from (awaits_decision t s.book.acts) (failed_or_vouched t s.book.acts) h.0 h.1.0)

  prepare_in : (a : ℕ) → IsAllowed w (Prepare t a) s → Contains (preparing_of s.book t) (Prepare t a)
  unfolding conditions
  prepare_in a h =
      preparing_has (gives_value t s.book.acts) s.book t (Prepare t a) h.0
      (in_flat_map (preparing_on s.book t) (actors_at (act_of t s.book.acts)) a (Prepare t a) (actor_has (λ p. not p.prepared) t a s.book h.1.0) (only_has (is_not_prepared t a s.book.acts) (Prepare t a) h.1.0))

  leave_in : (a : ℕ) → IsAllowed w (Finish t a) s → Contains (leaving_of s.book t) (Finish t a)
  unfolding conditions
  leave_in a h =
      leaving_has (may_leave t s.book.acts) s.book t (Finish t a) h.0
      (in_flat_map (leaving_on s.book t) (actors_at (act_of t s.book.acts)) a (Finish t a) (actor_has (λ p. not p.finished) t a s.book h.1.0) (only_has (has_not_left t a s.book.acts) (Finish t a) h.1.0))

none_tells : (b : Book) (asked : Event → Bool) (es : List Event) → ((t a : ℕ) → asked (Prepare t a) ≡ false) → ((t a : ℕ) → asked (Vouch t a) ≡ false) → ((t : ℕ) → asked (Decide t) ≡ false) → ((t : ℕ) → asked (Seal t) ≡ false) → ((t a : ℕ) → asked (Finish t a) ≡ false) → BookTells asked b es
none_tells b asked es p v d s f = record {
  prepare = λ t a q h g. absurd (true≢false (sym q ∙ p t a));
  vouch = λ t a q h. absurd (true≢false (sym q ∙ v t a));
  decide = λ t q h. absurd (true≢false (sym q ∙ d t));
  seal = λ t q h. absurd (true≢false (sym q ∙ s t));
  finish = λ t a q h g. absurd (true≢false (sym q ∙ f t a));
}

-- ---- where nothing is new but the leaving of those that are given up

pub record OnlyLeaving (asked : Event → Bool) (b : Book) : Type 0 where
  pub prepare : (t a : ℕ) → asked (Prepare t a) ≡ true → ⊥
  pub vouch : (t a : ℕ) → asked (Vouch t a) ≡ true → ⊥
  pub decide : (t : ℕ) → asked (Decide t) ≡ true → ⊥
  pub seal : (t : ℕ) → asked (Seal t) ≡ true → ⊥
  pub finish : (t a : ℕ) → asked (Finish t a) ≡ true → holds is_out (act_of t b.acts) ≡ true

module _ (w : Fixed Rest) (e : Event) (s : Machine Rest) (ruled : Ruled) (es : List Event) (enough : Enough (after w e s).book) where
  fallen_told : OnlyLeaving (is_new w e s) (after w e s).book → Among (of_fallen (after w e s).book) es → BookTells (is_new w e s) (after w e s).book es
  fallen_told leaving more =
      let b = (after w e s).book in
      let g = asks_of w e s ruled in
      enough (is_new w e s) es (record {
        acts = λ t i. ((λ q. absurd (leaving.decide t q)), (λ q. absurd (leaving.seal t q)));
        actors = λ t a i j. (
          (λ q. absurd (leaving.prepare t a q)),
          (λ q. absurd (leaving.vouch t a q)),
          (λ q.
              let fallen : Contains (given_up_tids b) t = from_has (given_up_tids b) t (has_filter (λ t. is_given_up (OfAct t) b) (live_tids b) t (to_has (live_tids b) t i) (leaving.finish t a q)) in
              more (Finish t a) (in_flat_map (leaving_of b) (given_up_tids b) t (Finish t a) fallen (leave_in w (after w e s) t a (g.allowed (Finish t a) q)))),
        );
      })

-- ---- who crosses at an arrival is given up after it

is_out_then : (a : ℕ) (x : Act) → is_crossed x ≡ true → is_out (crossed_out a x) ≡ true
is_out_then a x c = rw c refl

crossed_is_out : (a t : ℕ) (acts now : List Act) → now ≡ doomed_by_order a acts → ((u : ℕ) → times u (map (λ x. x.tid) now) ≤ 1) → is_among t (crossed_tids acts) ≡ true → holds is_out (act_of t now) ≡ true
crossed_is_out a t acts now is once h =
    let n = any_of (λ u. u == t) (crossed_tids acts) h in
    let x = from_map (λ x. x.tid) (filter is_crossed acts) n.it n.has in
    let c = from_filter is_crossed acts x.0 x.1.0 in
    let has : Has now (crossed_out a x.0) = subst (λ xs. Has xs (crossed_out a x.0)) (sym is) (has_map (crossed_out a) acts x.0 c.0) in
    let found : act_of x.0.tid now ≡ Some (crossed_out a x.0) = found_is now (crossed_out a x.0) (once x.0.tid) has in
    subst (λ u. holds is_out (act_of u now) ≡ true) (x.1.1 ∙ eqb-true n.it t n.does) (ap (holds is_out) found ∙ is_out_then a x.0 c.1)

-- all that an arrival changes
abbrev pub AreOut : ℕ → ℕ → Machine Rest → Book → Type 0
AreOut k a s b = (t : ℕ) → changes_act (Arrive k a) s t ≡ true → holds is_out (act_of t b.acts) ≡ true

pub are_out : (w : Fixed Rest) (k a : ℕ) (s : Machine Rest) → ((t : ℕ) → times t (map (λ x. x.tid) (after w (Arrive k a) s).book.acts) ≤ 1) → AreOut k a s (after w (Arrive k a) s).book
unfolding after
are_out w k a s once t h = crossed_is_out a t (map (lowered k (tids_on (cell_at s a).entries)) s.book.acts) (after w (Arrive k a) s).book.acts refl once h

-- of who is given up nothing but the leaving of its actors is to be done
both : (p q : Act → Bool) (o : Option Act) → ((x : Act) → p x ≡ true → q x ≡ true → ⊥) → holds p o ≡ true → holds q o ≡ true → ⊥
both p q None f g h = false≢true h
both p q (Some x) f g h = f x g h

not_out : (x : Act) → not (is_out x) ≡ true → is_out x ≡ true → ⊥
not_out x g h = true≢false (sym g ∙ ap not h)

live_not_out : (st : Status) → is_live_status st ≡ true → is_doomed st ≡ true → ⊥
live_not_out Live g h = false≢true h
live_not_out (Doomed v) g h = false≢true g
live_not_out (Decided c) g h = false≢true h
live_not_out (Sealed c) g h = false≢true h

decided_not_out : (st : Status) → is_decided st ≡ true → is_doomed st ≡ true → ⊥
decided_not_out Live g h = false≢true h
decided_not_out (Doomed v) g h = false≢true g
decided_not_out (Decided c) g h = false≢true h
decided_not_out (Sealed c) g h = false≢true h

module _ (b : Book) (t : ℕ) (out : holds is_out (act_of t b.acts) ≡ true) where
  pub out_prepares : gives_value t b.acts ≡ true → ⊥
  out_prepares h = both (λ x. is_value x.result && not (is_doomed x.status)) is_out (act_of t b.acts) (λ x g. not_out x (and_parts (is_value x.result) (not (is_doomed x.status)) g).1) h out

  pub out_vouches : (a : ℕ) → awaits_vouch t a b.acts ≡ true → ⊥
  out_vouches a h =
      both (λ x. is_live_act x && (not (is_doomed x.status) && holds (λ p. p.prepared && not p.vouched) (joined_of a x))) is_out (act_of t b.acts)
      (λ x g. not_out x (and_parts (not (is_doomed x.status)) (holds (λ p. p.prepared && not p.vouched) (joined_of a x)) (and_parts (is_live_act x) (not (is_doomed x.status) && holds (λ p. p.prepared && not p.vouched) (joined_of a x)) g).1).0) h out

  pub out_decides : awaits_decision t b.acts ≡ true → ⊥
  out_decides h = both (λ x. is_some x.result && is_live_status x.status) is_out (act_of t b.acts) (λ x g. live_not_out x.status (and_parts (is_some x.result) (is_live_status x.status) g).1) h out

  pub out_seals : awaits_seal t b.acts ≡ true → ⊥
  out_seals h = both (λ x. is_decided x.status) is_out (act_of t b.acts) (λ x g. decided_not_out x.status g) h out

-- ---- whom the event touches

first : (x y : Bool) → (x || y) ≡ true → (y ≡ true → ⊥) → x ≡ true
first x y h n = elim (or_cases x y h) [ inl e ↦ e | inr e ↦ absurd (n e) ]

-- a number, behind tests that are false
one : (u t : ℕ) (x y : Bool) → (((u == t) || x) || y) ≡ true → (x ≡ true → ⊥) → (y ≡ true → ⊥) → u ≡ t
one u t x y h n m = eqb-true u t (first (u == t) x (first ((u == t) || x) y h m) n)

-- ---- by an arrival

arrival_leaves : (w : Fixed Rest) (k a : ℕ) (s : Machine Rest) → Ruled → AreOut k a s (after w (Arrive k a) s).book → OnlyLeaving (is_new w (Arrive k a) s) (after w (Arrive k a) s).book
unfolding conditions
arrival_leaves w k a s ruled out =
    let b = (after w (Arrive k a) s).book in
    let g = asks_of w (Arrive k a) s ruled in
    record {
      prepare = λ t c q. out_prepares b t (out t (first (changes_act (Arrive k a) s t) false (g.touched (Prepare t c) q) no)) (g.allowed (Prepare t c) q).0;
      vouch = λ t c q. out_vouches b t (out t (first (changes_act (Arrive k a) s t) false (g.touched (Vouch t c) q) no)) c (g.allowed (Vouch t c) q).0;
      decide = λ t q. out_decides b t (out t (first (changes_act (Arrive k a) s t) false (g.touched (Decide t) q) no)) (g.allowed (Decide t) q).0;
      seal = λ t q. out_seals b t (out t (first (changes_act (Arrive k a) s t) false (g.touched (Seal t) q) no)) (g.allowed (Seal t) q).0;
      finish = λ t c q. out t (first (changes_act (Arrive k a) s t) false (g.touched (Finish t c) q) no);
    }

-- ---- by a cascade

abort_leaves : (w : Fixed Rest) (k : ℕ) (s : Machine Rest) → Ruled → OnlyLeaving (is_new w (Abort k) s) (after w (Abort k) s).book
abort_leaves w k s ruled =
    let b = (after w (Abort k) s).book in
    let g = asks_of w (Abort k) s ruled in
    record {
      prepare = λ t a q. g.refused (Prepare t a) q (abort_prepare w k s t a (g.allowed (Prepare t a) q));
      vouch = λ t a q. g.refused (Vouch t a) q (abort_vouch w k s t a (g.allowed (Vouch t a) q));
      decide = λ t q. g.refused (Decide t) q (abort_decide w k s t (g.allowed (Decide t) q));
      seal = λ t q. g.refused (Seal t) q (abort_seal w k s t (g.allowed (Seal t) q));
      finish = λ t a q. elim (cases_Bool (holds is_out (act_of t b.acts))) [
        | inl o ↦ o
        | inr i ↦ absurd (g.refused (Finish t a) q (abort_finish w k s t a (λ o. true≢false (sym o ∙ i)) (g.allowed (Finish t a) q)))
      ];
    }

-- ---- by event

module _ (w : Fixed Rest) (s : Machine Rest) (ruled : Ruled) (es : List Event) where
  admit_told : (v : ℕ) → BookTells (is_new w (Admit v) s) (after w (Admit v) s).book es
  admit_told v =
      let g = asks_of w (Admit v) s ruled in
      record {
        prepare = λ t a q h i. absurd (g.refused (Prepare t a) q (admit_prepare w v s t a (g.allowed (Prepare t a) q)));
        vouch = λ t a q h. absurd (g.refused (Vouch t a) q (admit_vouch w v s t a (g.allowed (Vouch t a) q)));
        decide = λ t q h. absurd (g.refused (Decide t) q (admit_decide w v s t (g.allowed (Decide t) q)));
        seal = λ t q h. absurd (g.refused (Seal t) q (admit_seal w v s t (g.allowed (Seal t) q)));
        finish = λ t a q h i. absurd (g.refused (Finish t a) q (admit_finish w v s t a (g.allowed (Finish t a) q)));
      }

  end_told : (v c : ℕ) → Among (by_book (after w (End v c) s).book (End v c)) es → BookTells (is_new w (End v c) s) (after w (End v c) s).book es
  end_told v c more =
      let z = after w (End v c) s in
      let g = asks_of w (End v c) s ruled in
      record {
        prepare = λ t a q h i.
            let own = one v t false false (g.touched (Prepare t a) q) no no in
            more (Prepare t a) (Contains-append_right (deciding_of z.book v) (preparing_of z.book v) (Prepare t a) (subst (λ n. Contains (preparing_of z.book n) (Prepare t a)) (sym own) (prepare_in w z t a (g.allowed (Prepare t a) q))));
        vouch = λ t a q h. absurd (g.refused (Vouch t a) q (end_vouch w v c s t a (g.allowed (Vouch t a) q)));
        decide = λ t q h.
            let own = one v t false false (g.touched (Decide t) q) no no in
            more (Decide t) (Contains-append_left (deciding_of z.book v) (preparing_of z.book v) (Decide t) (subst (λ n. Contains (deciding_of z.book n) (Decide t)) (sym own) (decide_in w z t (g.allowed (Decide t) q))));
        seal = λ t q h. absurd (g.refused (Seal t) q (end_seal w v c s t (g.allowed (Seal t) q)));
        finish = λ t a q h i. absurd (g.refused (Finish t a) q (end_finish w v c s t a (g.allowed (Finish t a) q)));
      }

  pub prepare_told : (v c : ℕ) → SyncedWithin s → AddedOnce (after w (Prepare v c) s) → IsAllowed w (Prepare v c) s → BookTells (is_new w (Prepare v c) s) (after w (Prepare v c) s).book es
  prepare_told v c within once allowed =
      let g = asks_of w (Prepare v c) s ruled in
      record {
        prepare = λ t a q h i.
            let own = and_parts (c == a) (v == t) (g.touched (Prepare t a) q) in
            absurd (g.refused (Prepare t a) q (subst (λ n. IsAllowed w (Prepare n a) s) (eqb-true v t own.1) (subst (λ n. IsAllowed w (Prepare v n) s) (eqb-true c a own.0) allowed)));
        vouch = λ t a q h.
            let own = and_parts (c == a) (v == t) (first ((c == a) && (v == t)) false (first (((c == a) && (v == t)) || false) false (g.touched (Vouch t a) q) no) no) in
            absurd (unvouched_yet w v c s within once (subst (λ n. IsAllowed w (Vouch n c) (after w (Prepare v c) s)) (sym (eqb-true v t own.1)) (subst (λ n. IsAllowed w (Vouch t n) (after w (Prepare v c) s)) (sym (eqb-true c a own.0)) (g.allowed (Vouch t a) q))));
        decide = λ t q h. absurd (no q);
        seal = λ t q h. absurd (no q);
        finish = λ t a q h i. absurd (no q);
      }

  vouch_told : (v c : ℕ) → IsAllowed w (Vouch v c) s → Among (by_book (after w (Vouch v c) s).book (Vouch v c)) es → BookTells (is_new w (Vouch v c) s) (after w (Vouch v c) s).book es
  vouch_told v c allowed more =
      let z = after w (Vouch v c) s in
      let g = asks_of w (Vouch v c) s ruled in
      record {
        prepare = λ t a q h i. absurd (no q);
        vouch = λ t a q h.
            let own = and_parts (c == a) (v == t) (first ((c == a) && (v == t)) false (g.touched (Vouch t a) q) no) in
            absurd (g.refused (Vouch t a) q (subst (λ n. IsAllowed w (Vouch n a) s) (eqb-true v t own.1) (subst (λ n. IsAllowed w (Vouch v n) s) (eqb-true c a own.0) allowed)));
        decide = λ t q h.
            let own = eqb-true v t (first (v == t) false (g.touched (Decide t) q) no) in
            more (Decide t) (subst (λ n. Contains (deciding_of z.book n) (Decide t)) (sym own) (decide_in w z t (g.allowed (Decide t) q)));
        seal = λ t q h. absurd (no q);
        finish = λ t a q h i. absurd (no q);
      }

  decide_told : (v : ℕ) → SyncedWithin s → AddedOnce (after w (Decide v) s) → IsAllowed w (Decide v) s → Among (by_book (after w (Decide v) s).book (Decide v)) es → BookTells (is_new w (Decide v) s) (after w (Decide v) s).book es
  decide_told v within once allowed more =
      let z = after w (Decide v) s in
      let g = asks_of w (Decide v) s ruled in
      record {
        prepare = λ t a q h i. absurd (g.refused (Prepare t a) q (decide_prepare w v s t a (g.allowed (Prepare t a) q)));
        vouch = λ t a q h. absurd (g.refused (Vouch t a) q (decide_vouch w v s t a within (g.allowed (Vouch t a) q)));
        decide = λ t q h.
            let own = one v t false false (g.touched (Decide t) q) no no in
            absurd (g.refused (Decide t) q (subst (λ n. IsAllowed w (Decide n) s) own allowed));
        seal = λ t q h.
            let own = one v t false false (g.touched (Seal t) q) no no in
            absurd (unsealed_yet w v s within once allowed (subst (λ n. IsAllowed w (Seal n) z) (sym own) (g.allowed (Seal t) q)));
        finish = λ t a q h i.
            let own = one v t false false (g.touched (Finish t a) q) no no in
            more (Finish t a) (subst (λ n. Contains (leaving_of z.book n) (Finish t a)) (sym own) (leave_in w z t a (g.allowed (Finish t a) q)));
      }

  seal_told : (v : ℕ) → IsAllowed w (Seal v) s → Among (by_book (after w (Seal v) s).book (Seal v)) es → BookTells (is_new w (Seal v) s) (after w (Seal v) s).book es
  seal_told v allowed more =
      let z = after w (Seal v) s in
      let g = asks_of w (Seal v) s ruled in
      record {
        prepare = λ t a q h i. absurd (g.refused (Prepare t a) q (seal_prepare w v s t a (g.allowed (Prepare t a) q)));
        vouch = λ t a q h. absurd (g.refused (Vouch t a) q (seal_vouch w v s t a (g.allowed (Vouch t a) q)));
        decide = λ t q h. absurd (g.refused (Decide t) q (seal_decide w v s t (g.allowed (Decide t) q)));
        seal = λ t q h.
            let own = one v t false false (g.touched (Seal t) q) no no in
            absurd (g.refused (Seal t) q (subst (λ n. IsAllowed w (Seal n) s) own allowed));
        finish = λ t a q h i.
            let own = one v t false false (g.touched (Finish t a) q) no no in
            more (Finish t a) (subst (λ n. Contains (leaving_of z.book n) (Finish t a)) (sym own) (leave_in w z t a (g.allowed (Finish t a) q)));
      }

  finish_told : (v c : ℕ) → IsAllowed w (Finish v c) s → BookTells (is_new w (Finish v c) s) (after w (Finish v c) s).book es
  finish_told v c allowed =
      let g = asks_of w (Finish v c) s ruled in
      record {
        prepare = λ t a q h i. absurd (no q);
        vouch = λ t a q h. absurd (g.refused (Vouch t a) q (finish_vouch w v c s t a (g.allowed (Vouch t a) q)));
        decide = λ t q h. absurd (no q);
        seal = λ t q h. absurd (no q);
        finish = λ t a q h i.
            let own = and_parts (c == a) (v == t) (g.touched (Finish t a) q) in
            absurd (g.refused (Finish t a) q (subst (λ n. IsAllowed w (Finish n a) s) (eqb-true v t own.1) (subst (λ n. IsAllowed w (Finish v n) s) (eqb-true c a own.0) allowed)));
      }

  settle_told : (k : ℕ) → Enough (after w (Settle k) s).book → Among (by_book (after w (Settle k) s).book (Settle k)) es → BookTells (is_new w (Settle k) s) (after w (Settle k) s).book es
  settle_told k enough more =
      let z = after w (Settle k) s in
      let g = asks_of w (Settle k) s ruled in
      enough (is_new w (Settle k) s) es (record {
        acts = λ t i. ((λ q. more (Decide t) (in_flat_map (deciding_of z.book) (live_tids z.book) t (Decide t) i (decide_in w z t (g.allowed (Decide t) q)))), (λ q. absurd (no q)));
        actors = λ t a i j. ((λ q. absurd (no q)), (λ q. absurd (no q)), (λ q. absurd (no q)));
      })

-- what is used of some events besides
abbrev pub Besides : Fixed Rest → Event → Machine Rest → Type 0
Besides w (Arrive k a) s = AreOut k a s (after w (Arrive k a) s).book
Besides w (Ask u a) s = OnlyLeaving (is_new w (Ask u a) s) (after w (Ask u a) s).book
Besides w _ s = Unit {0}

pub book_told : (w : Fixed Rest) (e : Event) (s : Machine Rest) (es : List Event) → IsAllowed w e s → Ruled → SyncedWithin s → AddedOnce (after w e s) → Enough (after w e s).book → Besides w e s → is_sync e ≡ false → Among (by_book (after w e s).book e) es → BookTells (is_new w e s) (after w e s).book es
book_told w (Arrive k a) s es allowed ruled within once enough out other more = fallen_told w (Arrive k a) s ruled es enough (arrival_leaves w k a s ruled out) more
book_told w (Ask t a) s es allowed ruled within once enough asks other more = fallen_told w (Ask t a) s ruled es enough asks more
book_told w (Abort k) s es allowed ruled within once enough out other more = fallen_told w (Abort k) s ruled es enough (abort_leaves w k s ruled) more
book_told w (Sync l) s es allowed ruled within once enough out other more = absurd (true≢false other)
book_told w (Settle k) s es allowed ruled within once enough out other more = settle_told w s ruled es k enough more
book_told w (Admit v) s es allowed ruled within once enough out other more = admit_told w s ruled es v
book_told w (End v c) s es allowed ruled within once enough out other more = end_told w s ruled es v c more
book_told w (Prepare v c) s es allowed ruled within once enough out other more = prepare_told w s ruled es v c within once allowed
book_told w (Vouch v c) s es allowed ruled within once enough out other more = vouch_told w s ruled es v c allowed more
book_told w (Decide v) s es allowed ruled within once enough out other more = decide_told w s ruled es v within once allowed more
book_told w (Seal v) s es allowed ruled within once enough out other more = seal_told w s ruled es v allowed more
book_told w (Finish v c) s es allowed ruled within once enough out other more = finish_told w s ruled es v c allowed
book_told w e s es allowed ruled within once enough out other more = none_tells (after w e s).book _ es (λ t a. refl) (λ t a. refl) (λ t. refl) (λ t. refl) (λ t a. refl)
