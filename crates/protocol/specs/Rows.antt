-- The rows of the table that `Conditions` and `Effects` say more shortly than they were agreed, in the agreed words:
-- when Abort and Reply are allowed, and what Arrive, Ask, Abort, Rollback and Finish do. All other rows are word for word
-- those. On every run both tables allow the same, refuse by the same numbers, and give the same states
-- (protocol_theorems, `rows_are_as_agreed`, `conditions_are_as_agreed`, `numbers_are_carried_through_all_pairs`,
-- `who_has_ended_has_a_verdict`).
use Rattle.std.specs.Prelude.{◌≡◌, ℕ, ◌-◌, ◌==◌, ◌≤◌, nat_le, max, Bool, true, false, not, ◌&&◌, ◌||◌, ◌↔◌, if◌then◌else◌, Option, Some, None, is_some, unwrap_or, List, [], ◌∷◌, ◌++◌, length, map, filter, find, slice_get}
use Rattle.std.specs.List.{AllByRecursion, list_any, list_all}
use Rattle.snap_base.specs.declared.transactions.State.{State}
use Rattle.snap_base.specs.declared.transactions.TxResult.{TxResult}
use Rattle.snap_base.specs.declared.transactions.TxResult.TheVariants.{Value, Fail}
use Rattle.snap_base.specs.declared.verdicts.Verdict.{Verdict}
use Rattle.protocol.specs.Fixed.{Fixed}
use Rattle.protocol.specs.Rivals.{Lock}
use Rattle.protocol.specs.Parts.{Doomed, Act, Pair, Book, Cascade, Pact, Batch, Desk, Entry, BatchEntry, ActEntry, Cell, Machine}
use Rattle.protocol.specs.Events.{Event, Arrive, Ask, Abort, Rollback, Finish, Reply}
use Rattle.protocol.specs.Words.{holds, is_value, is_failure, is_aborted, is_doomed, is_sealed, is_settled, is_ordered, is_open, is_next_to_commit, is_live_act, is_act_entry, has_act, act_of, batch_of, batches_on, greatest, Failure, lock_of, floor_at}
use Rattle.protocol.specs.Verdicts.{died, out_of_order, taken_along, verdict}
use Rattle.protocol.specs.Spread.{stands_behind, reaches, raised}
use Rattle.protocol.specs.OnBook.{changed_act, lowered, failed_tx, failed_code, tids_on, joins, new_pairs, asked_pairs, met, in_the_way}
use Rattle.protocol.specs.OnCell.{own_entries, state_before, images_without, inbox_without, outbox_without, is_undone_act, floors_after}
use Rattle.protocol.specs.Conditions.{conditions, IsAllowed}
use Rattle.protocol.specs.Effects.{after, cell_at, puts}
use Rattle.protocol.specs.Facts.{Alone}
use Rattle.protocol.specs.History.{History}

-- ---- rise: along every pair whose ACT ahead is not doomed, whatever the status of the one behind

abbrev pub carries : List Pair → Act → Act → Bool
carries pairs x u = not (is_doomed u.status) && stands_behind pairs x.tid u.tid

abbrev pub risen : List Pair → List Act → List Act
risen pairs [] = []
risen pairs (x ∷ xs) = record x { m = max x.m (greatest (map (λ u. u.m) (filter (carries pairs x) (risen pairs xs)))) } ∷ risen pairs xs

-- A number is carried through all pairs: these numbers, one for each tid, are not below the ACTs' own, and rise along every
-- pair that carries.
pub record IsCarriedOn (pairs : List Pair) (acts : List Act) (number : ℕ → ℕ) : Type 0 where
  pub reaches : AllByRecursion (λ x. x.m ≤ number x.tid) acts
  pub closed : AllByRecursion (λ x. AllByRecursion (λ u. carries pairs x u ≡ true → number u.tid ≤ number x.tid) acts) acts

-- and no further than that: they are the least such numbers
pub record IsCarried (pairs : List Pair) (acts : List Act) (number : ℕ → ℕ) : Type 0 where
  pub on : IsCarriedOn pairs acts number
  pub least : (other : ℕ → ℕ) → IsCarriedOn pairs acts other → AllByRecursion (λ x. number x.tid ≤ other x.tid) acts

abbrev pub renumbered : (ℕ → ℕ) → Act → Act
renumbered number x = record x { m = number x.tid }

-- these are the ACTs once their numbers are carried through all pairs
pub record AreCarried (pairs : List Pair) (acts risen : List Act) : Type 0 where
  pub number : ℕ → ℕ
  pub is_carried : IsCarried pairs acts number
  pub are : risen ≡ map (renumbered number) acts

-- ---- doom: of each that has not left all its actors, is not doomed, and whose numbers cross

abbrev pub crosses : Act → Bool
crosses x = is_live_act x && (not (is_doomed x.status) && reaches x.m x.n)

abbrev pub dooms : ℕ → Act → Act
dooms a x = record x { status = if crosses x then Doomed (out_of_order x.m (unwrap_or x.n 0) a) else x.status }

-- who dies keeps an earlier doom
abbrev pub dies : Verdict → Act → Act
dies v x = record x { status = if is_doomed x.status then x.status else Doomed v }

abbrev pub asks : Option ℕ → List Lock → ℕ → ℕ → ℕ → Book → List Act
asks (Some older) group t a m b = changed_act t (dies (died a older t)) b.acts
asks None group t a m b = map (dooms a) (risen (b.pairs ++ new_pairs t a group b.acts) (changed_act t (joins a m) b.acts))

-- ---- abort: for a PACT that failed, where all smaller tids of its batch ended with a value

abbrev pub is_blamed : List Pact → Pact → Bool
is_blamed pacts p = is_failure p.result && list_all (λ q. nat_le p.tid q.tid || is_value q.result) pacts

abbrev pub failure_as : ℕ → Option TxResult → Option Failure
failure_as n None = None
failure_as n (Some (Value v)) = None
failure_as n (Some (Fail code)) = Some (record { tx = n; code = code })

abbrev pub failure_in : Option Pact → Option Failure
failure_in None = None
failure_in (Some p) = failure_as p.tx p.result

abbrev pub blamed : List Pact → Option Failure
blamed pacts = failure_in (find (is_blamed pacts) pacts)

abbrev pub blamed_in : Option Batch → Option Failure
blamed_in None = None
blamed_in (Some b) = blamed b.pacts

abbrev pub blame : ℕ → Desk → Option Failure
blame k d = blamed_in (batch_of k d.batches)

-- ---- abort: of each that has not left all its actors, and is neither doomed nor decided, who stands behind the batch is given up

abbrev pub is_taken : ℕ → Act → Bool
is_taken k x = is_live_act x && (not (is_doomed x.status) && (not (is_ordered x.status) && nat_le k x.m))

abbrev pub takes : ℕ → ℕ → Act → Act
takes k by x = record x { n = None; status = if is_taken k x then Doomed (taken_along k by) else x.status }

-- ---- rollback: the aborted batches go, and the ACTs behind the first of them

-- what stays of a schedule; the flag tells whether an aborted batch was passed
abbrev pub stays : Bool → List Cascade → List Entry → List Entry
stays passed cascades [] = []
stays passed cascades (BatchEntry b ∷ es) = if is_aborted b.bid cascades then stays true cascades es else BatchEntry b ∷ stays passed cascades es
stays passed cascades (ActEntry x ∷ es) = if passed then stays passed cascades es else ActEntry x ∷ stays passed cascades es

-- what goes
abbrev pub goes : Bool → List Cascade → List Entry → List Entry
goes passed cascades [] = []
goes passed cascades (BatchEntry b ∷ es) = if is_aborted b.bid cascades then BatchEntry b ∷ goes true cascades es else goes passed cascades es
goes passed cascades (ActEntry x ∷ es) = if passed then ActEntry x ∷ goes passed cascades es else goes passed cascades es

abbrev pub rolls_back : {C : Type 0} → List Cascade → Cell C → Cell C
rolls_back cascades c = record c {
  state = state_before (goes false cascades c.entries) c.state c.images;
  images = images_without (goes false cascades c.entries) c.images;
  epoch = length cascades;
  last = max c.last_trimmed (greatest (batches_on (stays false cascades c.entries)));
  tail = 0;
  entries = stays false cascades c.entries;
  inbox = inbox_without (goes false cascades c.entries) c.inbox;
  outbox = outbox_without (goes false cascades c.entries) c.outbox;
}

-- ---- an ACT leaves: by what its own entry took

abbrev pub left_by_act : {C : Type 0} → ℕ → Option Act → Cell C → Cell C
left_by_act t x c = record c {
  state = if is_undone_act x then state_before (own_entries t c.entries) c.state c.images else c.state;
  images = images_without (own_entries t c.entries) c.images;
  floors = floors_after c.floors x;
  entries = filter (λ e. not (is_act_entry t e)) c.entries;
  inbox = inbox_without (own_entries t c.entries) c.inbox;
  outbox = outbox_without (own_entries t c.entries) c.outbox;
}

-- where it has no entry the cell stays as it is
abbrev pub leaves : {C : Type 0} → ℕ → Option Act → Cell C → Cell C
leaves t x c = if has_act t c.entries then left_by_act t x c else c

-- ---- a reply: to who has ended

abbrev pub has_pact : ℕ → Batch → Bool
has_pact n b = list_any (λ p. p.tx == n) b.pacts

-- its batch is settled or aborted, or its ACT is doomed or sealed
abbrev pub has_ended : ℕ → Book → Desk → Bool
has_ended n b d =
    list_any (λ x. has_pact n x && (is_settled x.stage || is_aborted x.bid b.cascades)) d.batches
    || holds (λ x. is_doomed x.status || is_sealed x.status) (find (λ x. x.tx == n) b.acts)

-- ---- the table as it was agreed: when an event is allowed

unfoldable pub conditions_as_agreed : {C : Type 0} → Fixed C → Event → Machine C → List Bool
conditions_as_agreed w (Abort k) s =
    holds (λ b. is_open b && is_next_to_commit k s.desk.batches) (batch_of k s.desk.batches)
    ∷ holds (λ b. is_some (blamed b.pacts)) (batch_of k s.desk.batches) ∷ []
conditions_as_agreed w (Reply n) s =
    holds not (slice_get s.desk.replied n)
    ∷ has_ended n s.book s.desk ∷ []
conditions_as_agreed w e s = conditions w e s

-- ---- and what it makes of a state

unfoldable pub as_agreed : {C : Type 0} → Fixed C → Event → Machine C → Machine C
as_agreed w (Arrive k a) s = record (after w (Arrive k a) s) {
  book = record s.book { acts = map (dooms a) (map (lowered k (tids_on (cell_at s a).entries)) s.book.acts) };
}
as_agreed w (Ask t a) s = record (after w (Ask t a) s) {
  book = record s.book {
    acts = asks (in_the_way (lock_of t s.book.acts) (cell_at s a).entries) (met (lock_of t s.book.acts) (cell_at s a).entries) t a (max (cell_at s a).last (floor_at t s.book.acts (cell_at s a))) s.book;
    pairs = asked_pairs (in_the_way (lock_of t s.book.acts) (cell_at s a).entries) (met (lock_of t s.book.acts) (cell_at s a).entries) t a s.book;
  };
}
as_agreed w (Abort k) s = record (after w (Abort k) s) {
  book = record s.book {
    cascades = s.book.cascades ++ record { first = k; upto = s.ring.next_bid - 1; by = failed_tx (blame k s.desk); at = s.book.next_c; code = failed_code (blame k s.desk) } ∷ [];
    acts = map (takes k (failed_tx (blame k s.desk))) s.book.acts;
  };
}
as_agreed w (Rollback a) s = record s { cells = puts s a (rolls_back s.book.cascades (cell_at s a)) }
as_agreed w (Finish t a) s = record (after w (Finish t a) s) { cells = puts s a (leaves t (act_of t s.book.acts) (cell_at s a)) }
as_agreed w e s = after w e s

-- ---- that both tables agree

-- An allowed event leaves the state that the agreed row leaves.
abbrev pub RowsAgree : {C : Type 0} → Fixed C → (C → List State → Alone) → Machine C → History → Type 0
RowsAgree w finish s h = (e : Event) → IsAllowed w e s → after w e s ≡ as_agreed w e s

-- Each condition of an event holds exactly where the agreed one does.
abbrev pub ConditionsAgree : {C : Type 0} → Fixed C → (C → List State → Alone) → Machine C → History → Type 0
ConditionsAgree w finish s h = (e : Event) → conditions w e s ≡ conditions_as_agreed w e s

-- Where an ACT is placed, one pass over the ACTs carries numbers through all pairs, and nothing else does.
abbrev pub RisesAgree : {C : Type 0} → Fixed C → (C → List State → Alone) → Machine C → History → Type 0
RisesAgree w finish s h =
    (t a : ℕ) → IsAllowed w (Ask t a) s → in_the_way (lock_of t s.book.acts) (cell_at s a).entries ≡ None
    → let pairs = s.book.pairs ++ new_pairs t a (met (lock_of t s.book.acts) (cell_at s a).entries) s.book.acts in
    let acts = changed_act t (joins a (max (cell_at s a).last (floor_at t s.book.acts (cell_at s a)))) s.book.acts in
    (ys : List Act) → AreCarried pairs acts ys ↔ (ys ≡ raised pairs acts)

-- A transaction has a verdict exactly where it has ended.
abbrev pub VerdictsAgree : {C : Type 0} → Fixed C → (C → List State → Alone) → Machine C → History → Type 0
VerdictsAgree w finish s h = (n : ℕ) → is_some (verdict n s.book s.desk) ≡ has_ended n s.book s.desk
