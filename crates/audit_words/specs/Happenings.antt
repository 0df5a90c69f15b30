-- What each event adds to what was told. No event but those of the coordinators is asked whether it was allowed; what names
-- nothing that is there, or what is there already, changes nothing. Of a transaction `reads` tells whether its method only reads.
use Rattle.std.specs.Prelude.{ℕ, ◌-◌, ◌==◌, nat_lt, nat_le, Bool, true, false, not, ◌&&◌, ◌||◌, if◌then◌else◌, Option, Some, None, unwrap_or, List, [], ◌∷◌, ◌++◌, map, filter, length}
use Rattle.snap_base.specs.declared.transactions.Tx.{Tx}
use Rattle.protocol.specs.Fixed.{Text, base, tx_at}
use Rattle.protocol.specs.Rivals.{Lock, rivals}
use Rattle.protocol.specs.Parts.{Ring, Pact, Pair, Who, OfBatch, OfAct}
use Rattle.protocol.specs.Events.{Event, Submit, Pass, Form, Admit, Arrive, Ask, Run, Commit, Settle, Abort, Rollback, Decide, Finish, Trim}
use Rattle.protocol.specs.OnRing.{Formed, submitted, passed, planned, formed, admitted, cut}
use Rattle.protocol.specs.OnPost.{next_act}
use Rattle.protocol.specs.Verdicts.{pact_place, act_place}
use Rattle.protocol.specs.Words.{is_among, is_who, least_older, greatest}
use Rattle.protocol.specs.History.{with_at, behind_too, sets_of, gains_over}
use Rattle.audit_words.specs.Seen.{Begun, Older, Crossed, Taken, Doom, Cut, Member, Seen, nothing_seen, batch_in, was_formed, goes_to, was_taken_along, is_one_of_these}
use Rattle.audit_words.specs.Seen.{act_in, was_admitted, lock_in, was_given_up, has_its_place, is_live, acts_among, tail_behind, least, sets_cross, next_c}

-- ---- who is given up

-- these are given up, and nobody gains from them any more
abbrev pub give_up : List Doom → Seen → Seen
give_up ds s = record s { dooms = s.dooms ++ ds; gains = filter (λ p. not (was_given_up (s.dooms ++ ds) p.ahead)) s.gains }

-- why an ACT whose sets cross is given up: the greatest batch before it, the least behind it, and the actor
abbrev pub crossing : ℕ → Seen → Begun → Doom
crossing a s x = record { tid = x.tid; why = Crossed (greatest (s.before x.tid)) (unwrap_or (least (s.behind x.tid)) 0) a }

-- at an event on actor a each ACT whose sets cross is given up
abbrev pub cross_out : ℕ → Seen → Seen
cross_out a s = give_up (map (crossing a s) (filter (λ x. sets_cross s x.tid) s.acts)) s

-- ---- an ACT begins

-- transaction n, with tid t: the last batch of earlier runs stands before it
abbrev pub with_begun : (Tx → Bool) → Text → ℕ → ℕ → Seen → Seen
with_begun reads w t n s = record s {
  acts = s.acts ++ record { tid = t; tx = n; reader = reads (tx_at w n) } ∷ [];
  before = with_at t (base w ∷ []) s.before;
  behind = with_at t [] s.behind;
}

-- ---- a batch is placed

-- it goes to the actor, was never placed there, and no cascade took it along
abbrev pub comes : ℕ → ℕ → Seen → Bool
comes k a s = goes_to a (batch_in k s.batches) && (not (is_one_of_these (OfBatch k) (s.placed a)) && not (was_taken_along k s.cuts))

-- the batch stands last on the actor, behind the ACTs that are there
abbrev pub batch_placed_last : ℕ → ℕ → Seen → Seen
batch_placed_last k a s = record s {
  placed = with_at a (s.placed a ++ OfBatch k ∷ []) s.placed;
  entries = with_at a (s.entries a ++ OfBatch k ∷ []) s.entries;
  kept = with_at a (s.kept a ++ k ∷ []) s.kept;
  behind = behind_too k (acts_among (s.entries a)) s.behind;
}

-- ---- an ACT asks

-- it is an ACT that is not given up, the actor exists, and it does not stand there
abbrev pub may_ask : Text → ℕ → ℕ → Seen → Bool
may_ask w t a s = (was_admitted t s && nat_lt a (length w.opening.states)) && (not (was_given_up s.dooms t) && not (is_one_of_these (OfAct t) (s.entries a)))

-- the tail group: who stands behind the last batch
abbrev pub tail_of : ℕ → Seen → List Lock
tail_of a s = map (lock_in s.acts) (tail_behind [] (s.entries a))

-- those of the tail group that the ACT can't stand beside: its rivals
abbrev pub met : ℕ → ℕ → Seen → List Lock
met t a s = filter (rivals (lock_in s.acts t)) (tail_of a s)

-- the rivals there that are not given up
abbrev pub ahead_of : ℕ → ℕ → Seen → List Lock
ahead_of t a s = filter (λ x. not (was_given_up s.dooms x.tid)) (met t a s)

-- What an ACT gains at its Ask: the batches that are kept there, the sets of its rivals that left sealed, and those of its rivals
-- in the tail group.
abbrev pub gain : ℕ → ℕ → Seen → List ℕ
gain t a s = s.kept a ++ (sets_of s.before (filter (rivals (lock_in s.acts t)) (s.left_sealed a)) ++ sets_of s.before (ahead_of t a s))

-- the ACT stands behind each of them there
abbrev pub with_pairs : ℕ → ℕ → Seen → List Pair
with_pairs t a s = s.gains ++ map (λ x. record { behind = t; ahead = x.tid; actor = a }) (ahead_of t a s)

-- Each ACT gains what those have that it stands behind. Who stands behind another one is older, so the youngest comes first.
abbrev pub spread : List Pair → List Begun → (ℕ → List ℕ) → ℕ → List ℕ
spread pairs [] before = before
spread pairs (x ∷ xs) before = gains_over pairs x.tid (spread pairs xs before)

-- the ACT stands last on the actor; its set grows, and with it the sets of those that stand behind it elsewhere
abbrev pub act_placed_last : ℕ → ℕ → Seen → Seen
act_placed_last t a s = record s {
  placed = with_at a (s.placed a ++ OfAct t ∷ []) s.placed;
  entries = with_at a (s.entries a ++ OfAct t ∷ []) s.entries;
  before = spread (with_pairs t a s) s.acts (with_at t (s.before t ++ gain t a s) s.before);
  gains = with_pairs t a s;
}

-- Where an older one is in its way, the ACT is given up by the least of these; else it is placed.
abbrev pub asks : ℕ → ℕ → Option ℕ → Seen → Seen
asks t a (Some older) s = give_up (record { tid = t; why = Older a older } ∷ []) s
asks t a None s = cross_out a (act_placed_last t a s)

-- ---- a cascade

-- the batch was formed, and no cascade took it along
abbrev pub may_abort : ℕ → Seen → Bool
may_abort k s = was_formed k s && not (was_taken_along k s.cuts)

-- each live ACT that has this batch, or a later one, before it
abbrev pub taken_by : ℕ → Seen → List Doom
taken_by k s = map (λ x. record { tid = x.tid; why = Taken k }) (filter (λ x. is_live s x.tid && nat_le k (greatest (s.before x.tid))) s.acts)

-- every batch that was formed, from this one on, is cut off, and stands behind nobody any more
abbrev pub with_cut : Text → ℕ → Seen → Seen
with_cut w k s = record s {
  cuts = s.cuts ++ record { first = k; upto = s.ring.next_bid - 1; at = next_c w s } ∷ [];
  behind = λ t. filter (λ j. nat_lt j k || not (nat_lt j s.ring.next_bid)) (s.behind t);
}

-- ---- a rollback: the cut batches go, and the ACTs behind the first of them

-- what stays; the flag tells whether a cut batch was passed
abbrev pub uncut_entries : Bool → List Cut → List Who → List Who
uncut_entries passed cuts [] = []
uncut_entries passed cuts (OfBatch k ∷ ws) = if was_taken_along k cuts then uncut_entries true cuts ws else OfBatch k ∷ uncut_entries passed cuts ws
uncut_entries passed cuts (OfAct t ∷ ws) = if passed then uncut_entries passed cuts ws else OfAct t ∷ uncut_entries passed cuts ws

-- the actor loses its cut batches, and the ACTs behind the first of them
abbrev pub cut_entries_gone : ℕ → Seen → Seen
cut_entries_gone a s = record s {
  entries = with_at a (uncut_entries false s.cuts (s.entries a)) s.entries;
  kept = with_at a (filter (λ k. not (was_taken_along k s.cuts)) (s.kept a)) s.kept;
}

-- ---- who gets its place

-- a PACT at its place: in its batch, by its tid
abbrev pub pact_member : ℕ → Pact → Member
pact_member k p = record { who = OfBatch k; tid = p.tid; tx = p.tx; place = pact_place k p.tid; reader = false }

-- the batch's PACTs, where it is formed and has none yet
abbrev pub committing : ℕ → Option Formed → List Member → List Member
committing k None members = []
committing k (Some b) members = if has_its_place (OfBatch k) members then [] else map (pact_member k) b.pacts

-- an ACT at its place: behind the greatest batch before it, with the number that is drawn next
abbrev pub act_member : Text → Seen → Begun → Member
act_member w s x = record { who = OfAct x.tid; tid = x.tid; tx = x.tx; place = act_place (greatest (s.before x.tid)) (next_c w s); reader = x.reader }

-- the ACT, where it has none yet
abbrev pub deciding : Text → Option Begun → Seen → List Member
deciding w None s = []
deciding w (Some x) s = if has_its_place (OfAct x.tid) s.members then [] else act_member w s x ∷ []

-- ---- an ACT leaves

-- the ACT leaves sealed, where it has its place and is not given up
abbrev pub left_as_sealed : ℕ → Seen → List Lock
left_as_sealed t s = if has_its_place (OfAct t) s.members && not (was_given_up s.dooms t) then lock_in s.acts t ∷ [] else []

-- the ACT leaves the actor, and nobody gains from it there any more
abbrev pub left : ℕ → ℕ → Seen → Seen
left t a s = record s {
  entries = with_at a (filter (λ y. not (is_who y (OfAct t))) (s.entries a)) s.entries;
  left_sealed = with_at a (s.left_sealed a ++ left_as_sealed t s) s.left_sealed;
  gains = filter (λ p. not ((p.ahead == t) && (p.actor == a))) s.gains;
}

-- ---- the ring alone

-- what an event makes of the ring
unfoldable pub ring_after : Text → Event → Ring → Ring
ring_after w (Submit n) r = submitted w n r
ring_after w (Pass c) r = passed c r
ring_after w (Form k) r = formed (planned w k r) w.batch r
ring_after w (Admit t) r = admitted r
ring_after w (Abort k) r = cut r
ring_after w _ r = r

-- ---- the table: what an event adds to the rest

-- the events that are not named here tell nothing of their own
unfoldable pub added : (Tx → Bool) → Text → Event → Seen → Seen
added reads w (Form k) s = record s { batches = s.batches ++ planned w k s.ring ∷ [] }
added reads w (Admit t) s = with_begun reads w t (next_act s.ring) s
added reads w (Arrive k a) s = if comes k a s then cross_out a (batch_placed_last k a s) else s
added reads w (Ask t a) s = if may_ask w t a s then asks t a (least_older t (met t a s)) s else s
added reads w (Run t a) s = record s { ran = with_at a (s.ran a ++ t ∷ []) s.ran }
added reads w (Commit k) s = record s { members = s.members ++ committing k (batch_in k s.batches) s.members }
added reads w (Settle k) s = if was_formed k s && not (is_among k s.settled) then record s { settled = s.settled ++ k ∷ [] } else s
added reads w (Abort k) s = if may_abort k s then with_cut w k (give_up (taken_by k s) s) else s
added reads w (Rollback a) s = cut_entries_gone a s
added reads w (Decide t) s = record s { members = s.members ++ deciding w (act_in t s.acts) s }
added reads w (Finish t a) s = if is_one_of_these (OfAct t) (s.entries a) then left t a s else s
added reads w (Trim k a) s = record s { entries = with_at a (filter (λ y. not (is_who y (OfBatch k))) (s.entries a)) s.entries }
added reads w _ s = s

-- what is told behind one more event
abbrev pub happened : (Tx → Bool) → Text → Event → Seen → Seen
happened reads w e s = record (added reads w e s) { ring = ring_after w e s.ring }

-- what is told behind some events
abbrev pub seen_from : (Tx → Bool) → Text → List Event → Seen → Seen
seen_from reads w [] s = s
seen_from reads w (e ∷ es) s = seen_from reads w es (happened reads w e s)

-- what the events of a run tell in all
abbrev pub seen : (Tx → Bool) → Text → List Event → Seen
seen reads w es = seen_from reads w es (nothing_seen w)
