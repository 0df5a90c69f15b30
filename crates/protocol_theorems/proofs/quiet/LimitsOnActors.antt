-- How much lies on an actor, over every run.
use Rattle.std.specs.Prelude.{◌≡◌, refl, ℕ, zero, suc, ◌+◌, ◌<◌, ◌≤◌, ◌==◌, Bool, true, false, not, ◌&&◌, ◌||◌, if◌then◌else◌, Option, Some, None, is_some, List, [], ◌∷◌, ◌++◌, length, map, filter, find, slice_get, slice_index_or}
use Rattle.std.specs.List.{AllByRecursion, list_all}
use Rattle.std.proofs.Common.{arith, sym, ap, subst, ◌∙◌}
use Rattle.std.proofs.lemmas.Bool.{true≢false, and_parts, or_right, eqb-true, eq-eqb}
use Rattle.snap_base.specs.declared.transactions.State.{State}
use Rattle.snap_base.specs.declared.transactions.Tx.{Tx}
use Rattle.protocol.specs.Rivals.{Lock}
use Rattle.protocol.specs.Fixed.{Fixed, base}
use Rattle.protocol.specs.Facts.{Alone}
use Rattle.protocol.specs.Rests.{IsRest, IsTxIn}
use Rattle.protocol.specs.Laws.{AfterEveryRunWithHistory}
use Rattle.protocol.specs.Parts.{Act, SubBatch, Cascade, Entry, BatchEntry, ActEntry, Who, Cell, Machine}
use Rattle.protocol.specs.Words.{holds, count, is_among, act_of, batch_of, joined_of, declared_of, sub_of, is_aborted, is_live_act, is_live_batch, is_batch_entry, is_act_entry, is_entry_of, is_clear, is_over_for, ahead, is_who, who_of, who_on, image_of, batches_on, acts_on, has_act, lock_of}
use Rattle.protocol.specs.Numbers.{times, one_if}
use Rattle.protocol.specs.Events.{Event, Arrive, Ask, Take, Run, Send, End, Close, Complete, Rollback, Finish, Trim}
use Rattle.protocol.specs.Conditions.{IsAllowed, conditions, epoch}
use Rattle.protocol.specs.Effects.{after, cell_at, no_cell}
use Rattle.protocol.specs.Runs.{opening, IsRun, reached, state_after, EachAllowed}
use Rattle.protocol.specs.OnBook as book
use Rattle.protocol.specs.OnCell as cell
use Rattle.protocol.specs.History.{Slice, Ran, Stands, Gone, History, history}
use Rattle.protocol.specs.Epochs.{CellsAgree}
use Rattle.protocol_laws.specs.Tracks.{key_of, keys_in, is_key_among, first_image, images_in}
use Rattle.protocol_theorems.specs.OnActors.{LimitsHold}
use Rattle.protocol_laws.proofs.first.CellEpochs as cells
use Rattle.protocol_laws.proofs.first.SettlingKept as settling
use Rattle.protocol_laws.proofs.first.Times
use Rattle.protocol_laws.proofs.machine.TrackLists.{is_who_sym, image_past, is_who_refl, among_entries}
use Rattle.protocol_laws.proofs.machine.TracksKept.{Tracked, held}
use Rattle.protocol_laws.proofs.machine.TurnsKept.{one_is}
use Rattle.protocol_laws.proofs.machine.Good.{Given, no_entries}
use Rattle.protocol_laws.proofs.machine.AllGood.{AllGood, all_good, none_allowed}
use Rattle.protocol_theorems.proofs.quiet.SubPlaces as places
use Rattle.protocol_theorems.proofs.quiet.SubsArrive as subs
use Rattle.protocol_theorems.proofs.quiet.RowsKept as rows
use Rattle.protocol_theorems.proofs.quiet.JoinsKept as joins
use Rattle.protocol_theorems.proofs.quiet.QuietKnown as known
use Rattle.protocol_theorems.proofs.quiet.QuietRuns.{Known, known_after}
use Rattle.protocol_theorems.proofs.quiet.LieInOrder.{no_cell_at}
use Rattle.protocol_theorems.proofs.quiet.LimitsHold.{most, acts_differ, batches_differ, two_kinds, stands_live, waits_live}
use Rattle.protocol_theorems.proofs.quiet.LimitsKept.{live_few}
use Rattle.protocol_laws.proofs.first.Lists.{some_held}
use Rattle.protocol_laws.proofs.first.Times.{length_join}

-- ---- a law of all runs, used at each step

join_allowed : {C : Type 0} (w : Fixed C) (front : List Event) (e : Event) (s : Machine C) → EachAllowed w front s → IsAllowed w e (state_after w front s) → EachAllowed w (front ++ e ∷ []) s × (state_after w (front ++ e ∷ []) s ≡ after w e (state_after w front s))
join_allowed w [] e s run ok = ((ok, tt), refl)
join_allowed w (x ∷ front) e s run ok = let r = join_allowed w front e (after w x s) run.1 ok in ((run.0, r.0), r.1)

pub along_law : {C : Type 0} (w : Fixed C) (L P : Machine C → Type 0) → ((es : List Event) → IsRun w es → L (reached w es)) → ((e : Event) (s : Machine C) → IsAllowed w e s → L s → P s → P (after w e s)) → P (opening w) → (es : List Event) → IsRun w es → P (reached w es)
along_law {C} w L P law step start es run = go [] es tt start run
  where
    go : (front es : List Event) → IsRun w front → P (reached w front) → EachAllowed w es (reached w front) → P (state_after w es (reached w front))
    go front [] r p all = p
    go front (e ∷ es) r p all =
        let j = join_allowed w front e (opening w) r all.0 in
        subst (λ s. P (state_after w es s)) j.1 (go (front ++ e ∷ []) es j.0 (subst P (sym j.1) (step e (reached w front) all.0 (law front r) p)) (subst (EachAllowed w es) (sym j.1) all.1))

-- ---- the ACTs on an actor

each_on : (P : ℕ → Type 0) (es : List Entry) → ((t : ℕ) → has_act t es ≡ true → P t) → AllByRecursion P (map (λ x. x.tid) (acts_on es))
each_on P [] k = tt
each_on P (BatchEntry b ∷ es) k = each_on P es (λ t e. k t (or_right (is_act_entry t (BatchEntry b)) (has_act t es) e))
each_on P (ActEntry x ∷ es) k = (k x.tid (ap (λ b. b || has_act x.tid es) (eq-eqb x.tid x.tid refl)), each_on P es (λ t e. k t (or_right (x.tid == t) (has_act t es) e)))

act_lives : (acts : List Act) (t a : ℕ) → holds (λ x. holds (λ p. not p.finished) (joined_of a x)) (act_of t acts) ≡ true → holds is_live_act (act_of t acts) ≡ true
act_lives acts t a h = let x = one_is (λ x. holds (λ p. not p.finished) (joined_of a x)) (act_of t acts) h in ap (holds is_live_act) x.1 ∙ stands_live a x.0 x.2

pub few_acts : {C : Type 0} (w : Fixed C) (Of : Tx → C → Type 0) (finish : C → List State → Alone) (s : Machine C) (h : History) (a : ℕ) → AllGood w Of finish s h → length (acts_on (cell_at s a).entries) ≤ count is_live_act s.book.acts
unfolding Tracked
few_acts w Of finish s h a g =
    let es = (cell_at s a).entries in
    let m = most (λ x. x.tid) is_live_act s.book.acts (map (λ x. x.tid) (acts_on es)) (λ n. acts_differ n es (g.good.tracked a).differ)
    (each_on (λ t. holds is_live_act (act_of t s.book.acts) ≡ true) es (λ t e. act_lives s.book.acts t a (joins.stands s g.opened t a e))) in
    omega (arith, m, Times.length_map (λ x. x.tid) (acts_on es))

-- ---- the batches on an actor

on_act : (t : Lock) (o : Option ℕ) (es : List Entry) → length (batches_on (es ++ cell.act_entries t o)) ≤ length (batches_on es)
on_act t None [] = omega arith
on_act t (Some older) [] = omega arith
on_act t o (BatchEntry b ∷ es) = omega (arith, on_act t o es)
on_act t o (ActEntry x ∷ es) = on_act t o es

on_done : (t : ℕ) (es : List Entry) → length (batches_on (map (cell.done_in t) es)) ≤ length (batches_on es)
on_done t [] = omega arith
on_done t (BatchEntry b ∷ es) = omega (arith, on_done t es)
on_done t (ActEntry x ∷ es) = on_done t es

on_complete : (k : ℕ) (es : List Entry) → length (batches_on (map (cell.complete_in k) es)) ≤ length (batches_on es)
on_complete k [] = omega arith
on_complete k (BatchEntry b ∷ es) = omega (arith, on_complete k es)
on_complete k (ActEntry x ∷ es) = on_complete k es

on_filter : (p : Entry → Bool) (es : List Entry) → length (batches_on (filter p es)) ≤ length (batches_on es)
on_filter p [] = omega arith
on_filter p (e ∷ es) = by (p e) e (on_filter p es)
  where
    by : (b : Bool) (e : Entry) → length (batches_on (filter p es)) ≤ length (batches_on es) → length (batches_on (if b then e ∷ filter p es else filter p es)) ≤ length (batches_on (e ∷ es))
    by true (BatchEntry b) k = omega (arith, k)
    by true (ActEntry x) k = k
    by false (BatchEntry b) k = omega (arith, k)
    by false (ActEntry x) k = k

on_staying : (cs : List Cascade) (es : List Entry) → length (batches_on (cell.staying cs es)) ≤ length (batches_on es)
on_staying cs [] = omega arith
on_staying cs (e ∷ es) = by (cell.is_cut cs (who_of e)) e (on_staying cs es)
  where
    by : (b : Bool) (e : Entry) → length (batches_on (cell.staying cs es)) ≤ length (batches_on es) → length (batches_on (if b then [] else e ∷ cell.staying cs es)) ≤ length (batches_on (e ∷ es))
    by true (BatchEntry b) k = omega arith
    by true (ActEntry x) k = omega arith
    by false (BatchEntry b) k = omega (arith, k)
    by false (ActEntry x) k = k

on_run : (b : Bool) (t : ℕ) (es : List Entry) → length (batches_on (if b then map (cell.done_in t) es else es)) ≤ length (batches_on es)
on_run true t es = on_done t es
on_run false t es = omega arith

on_batch : (k : ℕ) (o : Option SubBatch) (es : List Entry) → length (batches_on (es ++ cell.batch_entries k o)) ≤ suc (length (batches_on es))
on_batch k None [] = omega arith
on_batch k (Some m) [] = omega arith
on_batch k o (BatchEntry b ∷ es) = omega (arith, on_batch k o es)
on_batch k o (ActEntry x ∷ es) = on_batch k o es

batch_lives : {C : Type 0} (w : Fixed C) (s : Machine C) (k a : ℕ) → settling.Settling w s → is_aborted k s.book.cascades ≡ false → places.waits_at k a s.desk.batches ≡ true → holds is_live_batch (batch_of k s.desk.batches) ≡ true
batch_lives w s k a g n h =
    let b = one_is (λ b. holds (λ p. not p.trimmed) (declared_of a b)) (batch_of k s.desk.batches) h in
    ap (holds is_live_batch) b.1 ∙ waits_live a b.0 (settling.mark_is w s k b.0 b.1 g ∙ n) b.2

each_among : (P : ℕ → Type 0) (ks : List ℕ) → ((k : ℕ) → is_among k ks ≡ true → P k) → AllByRecursion P ks
each_among P [] f = tt
each_among P (k ∷ ks) f = (f k (ap (λ b. b || is_among k ks) (eq-eqb k k refl)), each_among P ks (λ j e. f j (or_right (k == j) (is_among j ks) e)))

-- one more may come
arrives : {C : Type 0} (w : Fixed C) (k a : ℕ) (s : Machine C) → IsAllowed w (Arrive k a) s → Known w s → CellsAgree w s → suc (length (batches_on (cell_at s a).entries)) ≤ count is_live_batch s.desk.batches
unfolding conditions rows.Rows places.InOnePlace
arrives w k a s ok i c =
    let es = (cell_at s a).entries in
    let m = one_is (λ m. (m.epoch == epoch s.book) && holds (λ c. c.epoch == epoch s.book) (slice_get s.cells a)) (sub_of k a s.post.subs) ok.1.1.0 in
    let v = and_parts (m.0.epoch == epoch s.book) (holds (λ c. c.epoch == epoch s.book) (slice_get s.cells a)) m.2 in
    let now : (cell_at s a).epoch ≡ epoch s.book = eqb-true (cell_at s a).epoch (epoch s.book) (held (λ c. c.epoch == epoch s.book) s.cells a no_cell v.1) in
    let new : is_aborted k s.book.cascades ≡ false = Rattle.std.proofs.lemmas.Bool.not-true (is_aborted k s.book.cascades) ok.1.0 in
    let own = subs.on_way w s i.placed k a new ok.0 in
    let none : times k (batches_on es) ≡ 0 = omega (arith, i.placed.one a k new, places.count_found (places.is_to k a) s.post.subs ok.0, places.one_most (places.waits_at k a s.desk.batches)) in
    most (λ b. b.bid) is_live_batch s.desk.batches (k ∷ batches_on es) (apart k (batches_on es) none (λ n. batches_differ n es (i.rows a).differ))
    (batch_lives w s k a i.settling new own, each_among (λ j. holds is_live_batch (batch_of j s.desk.batches) ≡ true) (batches_on es) (λ j e. let n = known.cell_present w s c a j now e in batch_lives w s j a i.settling n (subs.on_schedule w s i.placed j a n e)))
  where
    apart : (k : ℕ) (ks : List ℕ) → times k ks ≡ 0 → ((n : ℕ) → times n ks ≤ 1) → (n : ℕ) → times n (k ∷ ks) ≤ 1
    apart k ks z d n = by (k == n) refl (Times.times_cons n k ks)
      where
        by : (b : Bool) → (k == n) ≡ b → times n (k ∷ ks) ≡ one_if b + times n ks → times n (k ∷ ks) ≤ 1
        by true e f = omega (arith, f, subst (λ z. times z ks ≡ 0) (eqb-true k n e) z)
        by false e f = omega (arith, f, d n)

abbrev pub Few : {C : Type 0} → Fixed C → Machine C → Type 0
Few w s = (a : ℕ) → length (batches_on (cell_at s a).entries) ≤ w.text.batches

one_cell : {C : Type 0} (P : Cell C → Type 0) (cs : List (Cell C)) (a : ℕ) (c : Cell C) → (P (slice_index_or cs a no_cell) → P c) → ((b : ℕ) → P (slice_index_or cs b no_cell)) → (b : ℕ) → P (slice_index_or (Rattle.std.specs.Prelude.slice_set cs a c) b no_cell)
one_cell P [] a c k h b = h b
one_cell P (x ∷ cs) zero c k h zero = k (h zero)
one_cell P (x ∷ cs) zero c k h (suc b) = h (suc b)
one_cell P (x ∷ cs) (suc a) c k h zero = h zero
one_cell P (x ∷ cs) (suc a) c k h (suc b) = one_cell P cs a c k (λ b. h (suc b)) b

pub record Steady {C : Type 0} (w : Fixed C) (s : Machine C) : Type 0 where
  pub known : Known w s
  pub cells : CellsAgree w s
  pub live : count is_live_batch s.desk.batches ≤ w.text.batches

few_kept : {C : Type 0} (w : Fixed C) (e : Event) (s : Machine C) → IsAllowed w e s → Steady w s → Few w s → Few w (after w e s)
unfolding after
few_kept {C} w (Arrive k a) s ok g h = one_cell (λ c. length (batches_on c.entries) ≤ w.text.batches) s.cells a _ (λ l. omega (arith, on_batch k (sub_of k a s.post.subs) (cell_at s a).entries, arrives w k a s ok g.known g.cells, g.live)) h
few_kept {C} w (Ask t a) s ok g h = one_cell (λ c. length (batches_on c.entries) ≤ w.text.batches) s.cells a _ (λ l. omega (arith, l, on_act (lock_of t s.book.acts) (book.in_the_way (lock_of t s.book.acts) (cell_at s a).entries) (cell_at s a).entries)) h
few_kept {C} w (Take t a) s ok g h = one_cell (λ c. length (batches_on c.entries) ≤ w.text.batches) s.cells a _ (λ l. l) h
few_kept {C} w (Run t a) s ok g h = one_cell (λ c. length (batches_on c.entries) ≤ w.text.batches) s.cells a _ (λ l. omega (arith, l, on_run (cell.is_done_after w.code a (cell.slice_of w.code t (cell_at s a))) t (cell_at s a).entries)) h
few_kept {C} w (Send t a) s ok g h = one_cell (λ c. length (batches_on c.entries) ≤ w.text.batches) s.cells a _ (λ l. l) h
few_kept {C} w (End t a) s ok g h = one_cell (λ c. length (batches_on c.entries) ≤ w.text.batches) s.cells a _ (λ l. l) h
few_kept {C} w (Close t a) s ok g h = one_cell (λ c. length (batches_on c.entries) ≤ w.text.batches) s.cells a _ (λ l. omega (arith, l, on_done t (cell_at s a).entries)) h
few_kept {C} w (Complete k a) s ok g h = one_cell (λ c. length (batches_on c.entries) ≤ w.text.batches) s.cells a _ (λ l. omega (arith, l, on_complete k (cell_at s a).entries)) h
few_kept {C} w (Rollback a) s ok g h = one_cell (λ c. length (batches_on c.entries) ≤ w.text.batches) s.cells a _ (λ l. omega (arith, l, on_staying s.book.cascades (cell_at s a).entries)) h
few_kept {C} w (Finish t a) s ok g h = one_cell (λ c. length (batches_on c.entries) ≤ w.text.batches) s.cells a _ (λ l. omega (arith, l, on_filter (λ e. not (is_act_entry t e)) (cell_at s a).entries)) h
few_kept {C} w (Trim k a) s ok g h = one_cell (λ c. length (batches_on c.entries) ≤ w.text.batches) s.cells a _ (λ l. omega (arith, l, on_filter (λ e. not (is_batch_entry k e)) (cell_at s a).entries)) h
few_kept w e s ok g h = h

pub few_batches : {C : Type 0} (w : Fixed C) (Of : Tx → C → Type 0) (finish : C → List State → Alone) (es : List Event) → Given w Of finish → IsRun w es → Few w (reached w es)
few_batches {C} w Of finish es v run = along_law w (Steady w) (Few w)
    (λ fs r. record { known = known_after w fs v.text v.actors r; cells = cells.cells_agree w fs v.text r; live = (live_few w Of finish fs v r).batches })
    (few_kept w)
    (λ a. let e : length (batches_on (cell_at (opening w) a).entries) ≡ 0 = ap (λ es. length (batches_on es)) (no_entries C (base w.text) w.text.opening.states a) in omega (arith, e)) es run

-- ---- images

image_one : (y : Who) (ss : List Slice) → length (first_image y ss) ≤ 1
image_one y [] = omega arith
image_one y (x ∷ xs) = omega arith

few_images : (rs : List Ran) → length (images_in rs) ≤ length (keys_in rs)
few_images [] = omega arith
few_images (Stands y c ss ∷ rs) = omega (arith, few_images rs, image_one y ss, length_join (first_image y ss) (images_in rs))
few_images (Gone y ss ∷ rs) = few_images rs

-- one that stands there without an image leaves room
fewer_images : (who : Who) (rs : List Ran) → is_key_among who (keys_in rs) ≡ true → is_some (image_of who (images_in rs)) ≡ false → length (images_in rs) < length (keys_in rs)
fewer_images who [] h n = absurd (true≢false (sym h))
fewer_images who (Gone y ss ∷ rs) h n = fewer_images who rs h n
fewer_images who (Stands y c ss ∷ rs) h n = by (is_who y who) refl h n (fewer_images who rs)
  where
    own : (ss : List Slice) → is_who y who ≡ true → is_some (image_of who (first_image y ss ++ images_in rs)) ≡ false → length (first_image y ss ++ images_in rs) < suc (length (keys_in rs))
    own [] e k = omega (arith, few_images rs)
    own (x ∷ xs) e k = absurd (true≢false (sym (ap (λ b. is_some (if b then Some (record { who = y; state = x.found }) else image_of who (images_in rs))) (is_who_sym who y ∙ e)) ∙ k))

    by : (b : Bool) → is_who y who ≡ b → (b || is_key_among who (keys_in rs)) ≡ true → is_some (image_of who (first_image y ss ++ images_in rs)) ≡ false → (is_key_among who (keys_in rs) ≡ true → is_some (image_of who (images_in rs)) ≡ false → length (images_in rs) < length (keys_in rs)) → length (first_image y ss ++ images_in rs) < suc (length (keys_in rs))
    by true e k m r = own ss e m
    by false e k m r = omega (arith, r k (sym (ap is_some (image_past who y ss (images_in rs) e)) ∙ m), image_one y ss, length_join (first_image y ss) (images_in rs))

-- who runs has an entry
runs_on : (t : ℕ) (es : List Entry) → is_some (find (is_entry_of t) es) ≡ true → cell.is_entry_among (who_on t es) es ≡ true
runs_on t [] h = absurd (true≢false (sym h))
runs_on t (e ∷ es) h = by (is_entry_of t e) h (runs_on t es)
  where
    by : (b : Bool) → is_some (if b then Some e else find (is_entry_of t) es) ≡ true → (is_some (find (is_entry_of t) es) ≡ true → cell.is_entry_among (who_on t es) es ≡ true) → (is_who (who_of e) (if b then who_of e else who_on t es) || cell.is_entry_among (if b then who_of e else who_on t es) es) ≡ true
    by true k r = ap (λ b. b || cell.is_entry_among (who_of e) es) (is_who_refl (who_of e))
    by false k r = or_right (is_who (who_of e) (who_on t es)) (cell.is_entry_among (who_on t es) es) (r k)

entry_there : {C : Type 0} (w : Fixed C) (t a : ℕ) (s : Machine C) → IsAllowed w (Run t a) s → is_some (find (is_entry_of t) (cell_at s a).entries) ≡ true
unfolding conditions
entry_there w t a s ok = some_held (λ own. list_all (is_over_for own) (ahead (is_entry_of t) (cell_at s a).entries)) (find (is_entry_of t) (cell_at s a).entries) (held (λ c. is_clear t c.entries) s.cells a no_cell ok.1.0)

key_length : {C : Type 0} (w : Fixed C) (s : Machine C) (h : History) (a : ℕ) → Tracked w s h → (length (cell_at s a).images ≤ length (cell_at s a).entries) × ((who : Who) → cell.is_entry_among who (cell_at s a).entries ≡ true → is_some (image_of who (cell_at s a).images) ≡ false → length (cell_at s a).images < length (cell_at s a).entries)
unfolding Tracked
key_length w s h a t =
    let x = t a in
    let as_long : length (keys_in (h.long a)) ≡ length (cell_at s a).entries = ap length (sym x.stands) ∙ Times.length_map key_of (cell_at s a).entries in
    let images = ap length x.images_are in (
      omega (arith, few_images (h.long a), as_long, images),
      λ who e n. omega (arith, as_long, images, fewer_images who (h.long a) (ap (is_key_among who) (sym x.stands) ∙ (sym (among_entries who (cell_at s a).entries) ∙ e)) (ap (λ is. is_some (image_of who is)) (sym x.images_are) ∙ n)),
    )

-- ---- the law

pub limits_hold : {C : Type 0} → AfterEveryRunWithHistory (LimitsHold {C = C})
limits_hold {C} w finish es f t run = by es run (length w.text.opening.states) refl
  where
    by : (es : List Event) → IsRun w es → (n : ℕ) → length w.text.opening.states ≡ n → LimitsHold w finish (reached w es) (history w es)
    by es run (suc n) l =
        let Of : Tx → C → Type 0 = IsRest w.code (IsTxIn w.text) in
        let v : Given w Of finish = record { text = t; actors = omega (arith, l); facts = f } in
        let s = reached w es in
        let g = all_good w Of finish es v run in
        let few = live_few w Of finish es v run in
        let batches = few_batches w Of finish es v run in
        let acts = λ (a : ℕ). few_acts w Of finish s (history w es) a g in
        record {
          live_batches = few.batches;
          live_acts = few.acts;
          batches = batches;
          acts = λ a. omega (arith, acts a, few.acts);
          images = λ a. omega (arith, (key_length w s (history w es) a g.good.tracked).0, two_kinds (cell_at s a).entries, batches a, acts a, few.acts);
          room = λ u a ok n. omega (arith, (key_length w s (history w es) a g.good.tracked).1 (who_on u (cell_at s a).entries) (runs_on u (cell_at s a).entries (entry_there w u a s ok)) n, two_kinds (cell_at s a).entries, batches a, acts a, few.acts);
        }
    by [] run zero l = record {
      live_batches = omega arith;
      live_acts = omega arith;
      batches = λ a. let e : length (batches_on (cell_at (opening w) a).entries) ≡ 0 = ap (λ c. length (batches_on c.entries)) (no_cell_at (base w.text) w.text.opening.states a l) in omega (arith, e);
      acts = λ a. let e : length (acts_on (cell_at (opening w) a).entries) ≡ 0 = ap (λ c. length (acts_on c.entries)) (no_cell_at (base w.text) w.text.opening.states a l) in omega (arith, e);
      images = λ a. let e : length (cell_at (opening w) a).images ≡ 0 = ap (λ c. length c.images) (no_cell_at (base w.text) w.text.opening.states a l) in omega (arith, e);
      room = λ u a ok n. absurd (none_allowed w (Run u a) t l ok);
    }
    by (e ∷ es) run zero l = absurd (none_allowed w e t l run.0)
