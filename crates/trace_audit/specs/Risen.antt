-- Whether places rise to a transaction along the chains, by tests on the members, and on who was placed and who ran on an actor.
use Rattle.std.specs.Prelude.{◌≡◌, ℕ, ◌==◌, ◌≤◌, Bool, true, not, ◌&&◌, ◌||◌, if◌then◌else◌, Option, Some, None, List, [], ◌∷◌, length, map, filter, slice_get, slice_index_or, Vec}
use Rattle.std.specs.List.{flat_map, list_all}
use Rattle.std.specs.declared.alloc.Global.{Global}
use Rattle.snap_base.specs.declared.ids.Tid.{Tid}
use Rattle.snap_base.specs.declared.transactions.Who as whose
use Rattle.snap_base.specs.declared.transactions.Who.TheVariants.{Batch, Act}
use Rattle.snap_base.specs.declared.verdicts.Place.{Place}
use Rattle.protocol.specs.Chains.{is_place_below}
use Rattle.protocol.specs.Meant.{tid_number, who_meant}
use Rattle.protocol.specs.Parts.{OfBatch, OfAct}
use Rattle.protocol.specs.Words.{is_among, is_who}
use Rattle.audit_words.specs.Papers.{Line, Reply}
use Rattle.audit_words.specs.Seen.{Seen}
use Rattle.audit_tale.specs.Knows.{member_of}
use Rattle.audit_tale.specs.declared.tales.MemberTale.{MemberTale}
use Rattle.audit_tale.specs.declared.told.ActorTale.{ActorTale}
use Rattle.trace_audit.specs.Grouped.{group_at}

-- ---- along one chain

-- the place is above the greatest one, if there is one
abbrev pub above_top : Option Place → Place → Bool
above_top None p = true
above_top (Some q) p = is_place_below q p

-- the greatest place with this one
abbrev pub topped : Option Place → Place → Option Place
topped None p = Some p
topped (Some q) p = if is_place_below q p then Some p else Some q

-- the greatest place of those that don't only read, with this member
abbrev pub writers_top : Option Place → MemberTale → Option Place
writers_top top m = if m.reader then top else topped top m.place

-- the greatest place of those that only read, with this member
abbrev pub readers_top : Option Place → MemberTale → Option Place
readers_top top m = if m.reader then topped top m.place else top

-- its place is above that of each that it can't pass: a reader passes readers
abbrev pub is_above : Option Place → Option Place → MemberTale → Bool
is_above writers readers m = above_top writers m.place && (m.reader || above_top readers m.place)

-- behind who has these greatest places, each of transaction n is above
abbrev pub rises_to : ℕ → Option Place → Option Place → List MemberTale → Bool
rises_to n writers readers [] = true
rises_to n writers readers (m ∷ ms) = (not (m.tx.0 == n) || is_above writers readers m) && rises_to n (writers_top writers m) (readers_top readers m) ms

-- ---- who stands on a chain

abbrev pub is_of_batch : ℕ → whose.Who → Bool
is_of_batch k who = is_who (OfBatch k) (who_meant who)

abbrev pub is_of_act : ℕ → whose.Who → Bool
is_of_act t who = is_who (OfAct t) (who_meant who)

-- for whom one stands that was placed: a batch for its PACTs that ran there, an ACT for itself
abbrev pub standing : List MemberTale → List Tid → whose.Who → List MemberTale
standing ms ran (Batch k) = filter (λ m. is_among m.tid.0 (map tid_number ran)) (filter (λ m. is_of_batch k.0 m.who) ms)
standing ms ran (Act t) = filter (λ m. is_of_act t.0 m.who) ms

-- the chain of an actor
abbrev pub chain_of : List MemberTale → ActorTale → List MemberTale
chain_of ms x = flat_map (standing ms x.ran.items) x.placed.items

-- along each actor's chain places rise to transaction n
abbrev pub all_rise : ℕ → List MemberTale → List ActorTale → Bool
all_rise n ms xs = list_all (λ x. rises_to n None None (chain_of ms x)) xs

-- ---- what is kept on the way

-- the mark of transaction n; true where there is none
abbrev pub mark_of : List Bool → ℕ → Bool
mark_of marks n = slice_index_or marks n true

-- places rise to n so far, and along the rest behind who has these greatest places
abbrev pub still_rises : ℕ → List Bool → Option Place → Option Place → List MemberTale → Bool
still_rises n marks writers readers rest = mark_of marks n && rises_to n writers readers rest

-- the actor with this stamp was the last on which t ran
abbrev pub has_stamp : List ℕ → ℕ → ℕ → Bool
has_stamp stamps stamp t = slice_index_or stamps t 0 == stamp

-- members by batch and by tid
pub record AreGrouped (ms : List MemberTale) (by_batch by_tid : List (Vec MemberTale Global)) : Type 0 where
  pub batches : (k : ℕ) → group_at by_batch k ≡ filter (λ m. is_of_batch k m.who) ms
  pub acts : (t : ℕ) → group_at by_tid t ≡ filter (λ m. is_of_act t m.who) ms

-- for whom one stands, by groups and stamps
abbrev pub stamped : List (Vec MemberTale Global) → List (Vec MemberTale Global) → List ℕ → ℕ → whose.Who → List MemberTale
stamped batches acts stamps stamp (Batch k) = filter (λ m. has_stamp stamps stamp m.tid.0) (group_at batches k.0)
stamped batches acts stamps stamp (Act t) = group_at acts t.0

-- a reply is off exactly where its transaction's mark is false
abbrev pub line_rises : List Bool → Line → Bool
line_rises marks (Reply n v) = mark_of marks n
line_rises marks _ = true

-- ---- what events tell

-- What is kept of members and actors is what events tell of the chains; nobody comes where no actor is.
pub record TellsChains (s : Seen) (ms : List MemberTale) (xs : List ActorTale) : Type 0 where
  pub members : map member_of ms ≡ s.members
  pub placed : (a : ℕ) (x : ActorTale) → slice_get xs a ≡ Some x → map who_meant x.placed.items ≡ s.placed a
  pub ran : (a : ℕ) (x : ActorTale) → slice_get xs a ≡ Some x → map tid_number x.ran.items ≡ s.ran a
  pub nobody : (a : ℕ) → length xs ≤ a → s.placed a ≡ []
