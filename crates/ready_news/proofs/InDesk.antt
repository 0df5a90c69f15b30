-- What is listed of batches tells what is new there.
use Rattle.std.specs.Prelude.{◌≡◌, ◌↔◌, refl, ℕ, ◌==◌, not, Bool, true, false, ◌&&◌, if◌then◌else◌, Option, Some, None, List, [], ◌∷◌, Contains}
use Rattle.std.proofs.Common.{sym, subst, ◌∙◌}
use Rattle.std.proofs.lemmas.Bool.{true≢false, and_parts, both_ways, and_from, eqb-true}
use Rattle.std.proofs.lemmas.List.Elements.{Contains-append_left, Contains-append_right}
use Rattle.aml_slice.specs.Controls.{Rest}
use Rattle.snap_base.specs.declared.ids.Bid.{Bid}
use Rattle.snap_base.proofs.Booleans.{either_way, not_so}
use Rattle.listing_facts.specs.batch_table.Askings.{is_next_open, awaits_settling}
use Rattle.listing_facts.specs.batch_table.Listed.{actors_in, is_number}
use Rattle.ready_listing.specs.Listed.{on_desk}
use Rattle.ready_listing.proofs.Lists.{first_of_all, in_flat_map}
use Rattle.ready_listing.proofs.Told.{desk_lists}
use Rattle.listing_facts.specs.Listing.{DeskLists}
use Rattle.listing_facts.proofs.PartsEnough.{actor_has}
use Rattle.protocol.specs.Conditions.{IsAllowed, conditions, refusal, has_ended_well, has_failed_pact, is_noted_everywhere}
use Rattle.protocol.specs.Effects.{after}
use Rattle.protocol.specs.Events.{Event, Form, End, Sync, Note, Commit, Settle, Abort, Trim}
use Rattle.protocol.specs.Fixed.{Fixed}
use Rattle.protocol.specs.OnDesk as desk
use Rattle.protocol.specs.Parts.{Stage, Committing, Settled, Batch, Desk, Machine}
use Rattle.protocol.specs.Words.{holds, is_committing, is_settled, batch_of, declared_of, is_open, is_next_to_commit}
use Rattle.protocol_ready.specs.Telling.{DeskTells}
use Rattle.protocol_ready.specs.Touched.{is_touched}
use Rattle.protocol_ready.proofs.Again.{note_fails, trim_fails}
use Rattle.protocol_ready.proofs.Listing.{held}
use Rattle.ready_news.specs.InBook.{only}
use Rattle.ready_news.specs.InDesk.{commit_of, abort_of, ends_of, next_ends, of_trim, trims_of, by_desk}
use Rattle.ready_news.specs.New.{is_new, is_sync}
use Rattle.ready_news.proofs.AfterRuns.{Holding}
use Rattle.ready_news.proofs.NewBatch.{fresh, formed_no, formed_note}
use Rattle.ready_news.proofs.Common.{Among, new_is_touched, new_is_allowed}

-- ---- a batch, and one of its actors

abbrev pub IsToNote : ℕ → ℕ → Desk → Type 0
IsToNote k a d = holds (λ b. is_open b && holds (λ p. not p.noted) (declared_of a b)) (batch_of k d.batches) ≡ true

abbrev pub IsToTrim : ℕ → ℕ → Desk → Type 0
IsToTrim k a d = holds (λ b. is_settled b.stage && (not b.aborted && holds (λ p. not p.trimmed) (declared_of a b))) (batch_of k d.batches) ≡ true

-- of a settled batch an actor that is not trimmed
trim_in : (k a : ℕ) (d : Desk) → IsToTrim k a d → Contains (trims_of d k) (Trim k a)
trim_in k a d h =
    let b = held (λ b. is_settled b.stage && (not b.aborted && holds (λ p. not p.trimmed) (declared_of a b))) (batch_of k d.batches) h in
    let parts = and_parts (is_settled b.it.stage) (not b.it.aborted && holds (λ p. not p.trimmed) (declared_of a b.it)) b.does in
    let rest = and_parts (not b.it.aborted) (holds (λ p. not p.trimmed) (declared_of a b.it)) parts.1 in
    let p = held (λ p. not p.trimmed) (declared_of a b.it) rest.1 in
    in_flat_map (of_trim k) (actors_in (batch_of k d.batches)) a (Trim k a) (actor_has k a d b.it p.it b.is p.is) (first_of_all [] (Trim k a))

-- ---- how a batch may end

only_has : (b : Bool) (f : Event) → b ≡ true → Contains (only b f) f
only_has true f h = first_of_all [] f
only_has false f h = not_so h

-- what is allowed to commit, or to be aborted, is listed as such
commit_has : (w : Fixed Rest) (x : Machine Rest) (k : ℕ) → IsAllowed w (Commit k) x → Contains (commit_of x.desk k) (Commit k)
unfolding conditions
commit_has w x k c =
    let noted = is_noted_everywhere k x.desk.batches in
    let ended = has_ended_well k x.desk.batches in
    only_has (noted && ended) (Commit k) (and_from noted ended c.1.1.0 c.1.0)

abort_has : (w : Fixed Rest) (x : Machine Rest) (k : ℕ) → IsAllowed w (Abort k) x → Contains (abort_of x.desk k) (Abort k)
unfolding conditions
abort_has w x k c = only_has (has_failed_pact k x.desk.batches) (Abort k) c.1.0

next_has : (d : Desk) (k : ℕ) (f : Event) (next : Option Bid) → is_number k next ≡ true → Contains (ends_of d k) f → Contains (next_ends d next) f
next_has d k f None h c = not_so h
next_has d k f (Some n) h c = subst (λ i. Contains (ends_of d i) f) (sym (eqb-true n.0 k h)) c

-- ---- a mark that was just made

noted_no : (w : Fixed Rest) (s : Machine Rest) (d : Desk) (j b k a : ℕ) → (after w (Note j b) s).desk ≡ d → ((j == k) && (b == a)) ≡ true → IsToNote k a d → ⊥
unfolding after
noted_no w s d j b k a same here due =
    let p = and_parts (j == k) (b == a) here in
    let its : IsToNote j b d = subst (λ i. IsToNote i b d) (sym (eqb-true j k p.0)) (subst (λ i. IsToNote k i d) (sym (eqb-true b a p.1)) due) in
    both_ways _ (note_fails j b s.desk.batches) (subst (IsToNote j b) (sym same) its)

pub trimmed_no : (w : Fixed Rest) (s : Machine Rest) (d : Desk) (j b k a : ℕ) → (after w (Trim j b) s).desk ≡ d → ((j == k) && (b == a)) ≡ true → IsToTrim k a d → ⊥
unfolding after
trimmed_no w s d j b k a same here due =
    let p = and_parts (j == k) (b == a) here in
    let its : IsToTrim j b d = subst (λ i. IsToTrim i b d) (sym (eqb-true j k p.0)) (subst (λ i. IsToTrim k i d) (sym (eqb-true b a p.1)) due) in
    both_ways _ (trim_fails j b s.desk.batches) (subst (IsToTrim j b) (sym same) its)

-- ---- a batch that was just brought to a stage

staged_fails : (j : ℕ) (st : Stage) (test : Batch → Bool) (bs : List Batch) → ((b : Batch) → test (desk.with_stage st b) ≡ false) → holds test (batch_of j (desk.changed_batch j (desk.with_stage st) bs)) ≡ false
staged_fails j st test [] fails = refl
staged_fails j st test (b ∷ bs) fails = by (b.bid == j) refl (staged_fails j st test bs fails)
  where
    by : (v : Bool) → (b.bid == j) ≡ v → holds test (batch_of j (desk.changed_batch j (desk.with_stage st) bs)) ≡ false
        → holds test (if (desk.change_if v (desk.with_stage st) b).bid == j then Some (desk.change_if v (desk.with_stage st) b) else batch_of j (desk.changed_batch j (desk.with_stage st) bs)) ≡ false
    by true e r = rw e (fails b)
    by false e r = rw e r

staged_no : (j k : ℕ) (st : Stage) (test : Batch → Bool) (bs : List Batch) → ((b : Batch) → test (desk.with_stage st b) ≡ false) → (j == k) ≡ true → holds test (batch_of k (desk.changed_batch j (desk.with_stage st) bs)) ≡ true → ⊥
staged_no j k st test bs fails here h =
    both_ways (holds test (batch_of j (desk.changed_batch j (desk.with_stage st) bs))) (staged_fails j st test bs fails)
    (subst (λ i. holds test (batch_of i (desk.changed_batch j (desk.with_stage st) bs)) ≡ true) (sym (eqb-true j k here)) h)

committing_no : (w : Fixed Rest) (s : Machine Rest) (d : Desk) (j k : ℕ) (test : Batch → Bool) → (after w (Commit j) s).desk ≡ d → ((b : Batch) → test (desk.with_stage Committing b) ≡ false) → (j == k) ≡ true → holds test (batch_of k d.batches) ≡ true → ⊥
unfolding after
committing_no w s d j k test same fails here h = staged_no j k Committing test s.desk.batches fails here (subst (λ x. holds test (batch_of k x.batches) ≡ true) (sym same) h)

settled_no : (w : Fixed Rest) (s : Machine Rest) (d : Desk) (j k : ℕ) (test : Batch → Bool) → (after w (Settle j) s).desk ≡ d → ((b : Batch) → test (desk.with_stage Settled b) ≡ false) → (j == k) ≡ true → holds test (batch_of k d.batches) ≡ true → ⊥
unfolding after
settled_no w s d j k test same fails here h = staged_no j k Settled test s.desk.batches fails here (subst (λ x. holds test (batch_of k x.batches) ≡ true) (sym same) h)

-- what is asked of it by a note, a trim, a settling, and an end
abbrev noting : ℕ → Batch → Bool
noting a b = is_open b && holds (λ p. not p.noted) (declared_of a b)

abbrev trimming : ℕ → Batch → Bool
trimming a b = is_settled b.stage && (not b.aborted && holds (λ p. not p.trimmed) (declared_of a b))

abbrev settling : Batch → Bool
settling b = is_committing b.stage && not b.aborted

abbrev ending : ℕ → Desk → Batch → Bool
ending k d b = is_open b && is_next_to_commit k d.batches

-- ---- after each event

module _ (w : Fixed Rest) (s : Machine Rest) (before : Holding w s) (d : Desk) (next : Option Bid)
    (is_the_next : (k : ℕ) → is_next_open k d.batches ≡ is_number k next) where
  all : (asked : Event → Bool) → DeskLists asked d (on_desk d)
  all asked = desk_lists asked (on_desk d) d (λ f c. c)

  new_no : (j k : ℕ) (test : Batch → Bool) → IsAllowed w (Form j) s → (after w (Form j) s).desk ≡ d → test (fresh w s j) ≡ false → (j == k) ≡ true → holds test (batch_of k d.batches) ≡ true → ⊥
  new_no j k test ok same fails here h = formed_no w s j k test before ok fails here (subst (λ x. holds test (batch_of k x.batches) ≡ true) (sym same) h)

  commits : (k : ℕ) → is_next_open k d.batches ≡ true → Contains (commit_of d k) (Commit k) → Contains (next_ends d next) (Commit k)
  commits k g c = next_has d k (Commit k) next (sym (is_the_next k) ∙ g) (Contains-append_left (commit_of d k) (abort_of d k) (Commit k) c)

  aborts : (k : ℕ) → is_next_open k d.batches ≡ true → Contains (abort_of d k) (Abort k) → Contains (next_ends d next) (Abort k)
  aborts k g c = next_has d k (Abort k) next (sym (is_the_next k) ∙ g) (Contains-append_right (commit_of d k) (abort_of d k) (Abort k) c)

  module _ (enough : (asked : Event → Bool) → DeskLists asked d (on_desk d) → DeskTells asked d (on_desk d)) where
    tells_all : (asked : Event → Bool) → DeskTells asked d (on_desk d)
    tells_all asked = enough asked (all asked)

    note_listed : (e : Event) (k a : ℕ) → IsAllowed w e s → is_sync e ≡ false → (after w e s).desk ≡ d → is_touched w e s (Note k a) ≡ true → IsToNote k a d → IsAllowed w (Note k a) (after w e s) → Contains (by_desk next d e) (Note k a)
    note_listed (Form j) k a ok other same h g c = either_way (j == k) false h (λ q. absurd (formed_note w s j k a before ok q c)) (λ q. not_so q)
    note_listed (Commit j) k a ok other same h g c = either_way (j == k) false h (λ q. absurd (committing_no w s d j k (noting a) same (λ b. refl) q g)) (λ q. not_so q)
    note_listed (Settle j) k a ok other same h g c = either_way (j == k) false h (λ q. absurd (settled_no w s d j k (noting a) same (λ b. refl) q g)) (λ q. not_so q)
    note_listed (Note j b) k a ok other same h g c = either_way ((j == k) && (b == a)) false h (λ q. absurd (noted_no w s d j b k a same q g)) (λ q. not_so q)
    note_listed (Sync l) k a ok other same h g c = absurd (true≢false other)
    note_listed (Abort j) k a ok other same h g c = (tells_all (λ f. true)).note k a refl g
    note_listed _ k a ok other same h g c = not_so h

    trim_listed : (e : Event) (k a : ℕ) → IsAllowed w e s → (after w e s).desk ≡ d → is_touched w e s (Trim k a) ≡ true → IsToTrim k a d → Contains (by_desk next d e) (Trim k a)
    trim_listed (Form j) k a ok same h g = either_way (j == k) false h (λ q. absurd (new_no j k (trimming a) ok same refl q g)) (λ q. not_so q)
    trim_listed (Commit j) k a ok same h g = either_way (j == k) false h (λ q. absurd (committing_no w s d j k (trimming a) same (λ b. refl) q g)) (λ q. not_so q)
    trim_listed (Settle j) k a ok same h g =
        either_way (j == k) false h (λ q. Contains-append_left (trims_of d j) (next_ends d next) (Trim k a) (subst (λ i. Contains (trims_of d i) (Trim k a)) (sym (eqb-true j k q)) (trim_in k a d g))) (λ q. not_so q)
    trim_listed (Trim j b) k a ok same h g = absurd (trimmed_no w s d j b k a same h g)
    trim_listed (Abort j) k a ok same h g = (tells_all (λ f. true)).trim k a refl g
    trim_listed _ k a ok same h g = not_so h

    settle_listed : (e : Event) (k : ℕ) → IsAllowed w e s → is_sync e ≡ false → (after w e s).desk ≡ d → is_touched w e s (Settle k) ≡ true → awaits_settling k d.batches ≡ true → Contains (by_desk next d e) (Settle k)
    settle_listed (Form j) k ok other same h g = either_way (j == k) false h (λ q. absurd (new_no j k settling ok same refl q g)) (λ q. not_so q)
    settle_listed (Commit j) k ok other same h g = either_way (j == k) false h (λ q. subst (λ i. Contains (Settle j ∷ []) (Settle i)) (eqb-true j k q) (first_of_all [] (Settle j))) (λ q. not_so q)
    settle_listed (Settle j) k ok other same h g = either_way (j == k) false h (λ q. absurd (settled_no w s d j k settling same (λ b. refl) q g)) (λ q. not_so q)
    settle_listed (Sync l) k ok other same h g = absurd (true≢false other)
    settle_listed (Abort j) k ok other same h g = (tells_all (λ f. true)).settle k refl g
    settle_listed _ k ok other same h g = not_so h

    commit_listed : (e : Event) (k : ℕ) → is_sync e ≡ false → (after w e s).desk ≡ d → is_touched w e s (Commit k) ≡ true → is_next_open k d.batches ≡ true → Contains (commit_of d k) (Commit k) → Contains (by_desk next d e) (Commit k)
    commit_listed (Form j) k other same h g c = commits k g c
    commit_listed (Settle j) k other same h g c = Contains-append_right (trims_of d j) (next_ends d next) (Commit k) (commits k g c)
    commit_listed (End t b) k other same h g c = commits k g c
    commit_listed (Sync l) k other same h g c = absurd (true≢false other)
    commit_listed (Commit j) k other same h g c = either_way (j == k) false h (λ q. absurd (committing_no w s d j k (ending k d) same (λ b. refl) q g)) (λ q. not_so q)
    commit_listed (Note j b) k other same h g c = either_way (j == k) false h (λ q. subst (λ i. Contains (commit_of d i) (Commit k)) (sym (eqb-true j k q)) c) (λ q. not_so q)
    commit_listed (Abort j) k other same h g c = (tells_all (λ f. true)).commit k refl g
    commit_listed _ k other same h g c = not_so h

    abort_listed : (e : Event) (k : ℕ) → (after w e s).desk ≡ d → is_touched w e s (Abort k) ≡ true → is_next_open k d.batches ≡ true → Contains (abort_of d k) (Abort k) → Contains (by_desk next d e) (Abort k)
    abort_listed (Form j) k same h g c = aborts k g c
    abort_listed (Settle j) k same h g c = Contains-append_right (trims_of d j) (next_ends d next) (Abort k) (aborts k g c)
    abort_listed (End t b) k same h g c = aborts k g c
    abort_listed (Commit j) k same h g c = either_way (j == k) false h (λ q. absurd (committing_no w s d j k (ending k d) same (λ b. refl) q g)) (λ q. not_so q)
    abort_listed (Abort j) k same h g c = (tells_all (λ f. true)).abort k refl g
    abort_listed _ k same h g c = not_so h

    -- all that is listed is among those
    pub desk_told : (e : Event) (es : List Event) → ((w : Fixed Rest) (e : Event) (s : Machine Rest) → (refusal w e s ≡ 0) ↔ IsAllowed w e s) → IsAllowed w e s → is_sync e ≡ false → (after w e s).desk ≡ d → Among (by_desk next d e) es → DeskTells (is_new w e s) (after w e s).desk es
    desk_told e es ruled ok other same more =
        let touched : (f : Event) → is_new w e s f ≡ true → is_touched w e s f ≡ true = λ f q. new_is_touched w e s f q in
        let may : (f : Event) → is_new w e s f ≡ true → IsAllowed w f (after w e s) = λ f q. new_is_allowed w e s f q ruled in
        subst (λ x. DeskTells (is_new w e s) x es) (sym same) (record {
          note = λ k a q h. more (Note k a) (note_listed e k a ok other same (touched (Note k a) q) h (may (Note k a) q));
          commit = λ k q h. more (Commit k) (commit_listed e k other same (touched (Commit k) q) h (subst (λ x. Contains (commit_of x k) (Commit k)) same (commit_has w (after w e s) k (may (Commit k) q))));
          abort = λ k q h. more (Abort k) (abort_listed e k same (touched (Abort k) q) h (subst (λ x. Contains (abort_of x k) (Abort k)) same (abort_has w (after w e s) k (may (Abort k) q))));
          settle = λ k q h. more (Settle k) (settle_listed e k ok other same (touched (Settle k) q) h);
          trim = λ k a q h. more (Trim k a) (trim_listed e k a ok same (touched (Trim k a) q) h);
        })
