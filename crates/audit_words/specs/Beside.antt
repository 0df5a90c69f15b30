-- What events tell of places, beside the history that proofs carry: what is used of a run for the third and the fifth clause.
use Rattle.std.specs.Prelude.{◌≡◌, ℕ, ◌<◌, ◌≤◌, false, Some, is_some, List, [], ◌∷◌, length, ⊤}
use Rattle.std.specs.List.{AllByRecursion}
use Rattle.snap_base.specs.declared.verdicts.Place.{Place}
use Rattle.snap_base.specs.declared.verdicts.Verdict.TheVariants as verdicts
use Rattle.protocol.specs.Events.{Event}
use Rattle.protocol.specs.Fixed.{Fixed, Text}
use Rattle.protocol.specs.History.{Done, History, history}
use Rattle.protocol.specs.Runs.{reached}
use Rattle.protocol.specs.Verdicts.{verdict}
use Rattle.protocol.specs.Words.{is_act_who, is_among}
use Rattle.audit_words.specs.Clauses.{IsNotBelow}
use Rattle.audit_words.specs.Seen.{Member, Seen}

-- the same transaction, at the same place, a reader or not; and where a PACT ran, the events say so
pub record TellsDone (ran : ℕ → List ℕ) (m : Member) (d : Done) : Type 0 where
  pub who : m.who ≡ d.who
  pub tid : m.tid ≡ d.tid
  pub tx : m.tx ≡ d.tx
  pub place : m.place ≡ d.place
  pub reader : m.reader ≡ d.reader
  pub views : (a : ℕ) → is_act_who d.who ≡ false → is_among m.tid (ran a) ≡ is_some (d.views a)

-- the same ones, in the same order
abbrev pub EachTold : (ℕ → List ℕ) → List Member → List Done → Type 0
EachTold ran [] [] = ⊤
EachTold ran [] (d ∷ ds) = ⊥
EachTold ran (m ∷ ms) [] = ⊥
EachTold ran (m ∷ ms) (d ∷ ds) = TellsDone ran m d × EachTold ran ms ds

-- who was placed on the actors of the text, in that order, and who has its place, in that order
pub record TellsPlaced (w : Text) (h : History) (t : Seen) : Type 0 where
  pub placed : (a : ℕ) → a < length w.opening.states → t.placed a ≡ h.placed a
  pub beyond : (a : ℕ) → length w.opening.states ≤ a → t.placed a ≡ []
  pub members : EachTold t.ran t.members h.committed

-- no smaller batch committed behind it
abbrev pub BatchesRise : List Done → Type 0
BatchesRise [] = ⊤
BatchesRise (d ∷ ds) = AllByRecursion (λ e. IsNotBelow d.who e.who) ds × BatchesRise ds

-- Batches commit in the order of their numbers, and none but an ACT fails at a place.
pub record CommitsStand {C : Type 0} (w : Fixed C) (es : List Event) : Type 0 where
  pub rise : BatchesRise (history w es).committed
  pub codes : (n : ℕ) (p : Place) (c : ℕ) → verdict n (reached w es).book (reached w es).desk ≡ Some (verdicts.Code p c) → p.side ≡ 1
