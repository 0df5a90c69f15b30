-- What events tell of names, beside the machine: the ring, the numbers and the transactions of batches and ACTs, which ACTs only
-- read, how far cascades reach, and which batches settled.
use Rattle.std.specs.Prelude.{◌≡◌, ℕ, List, length, map}
use Rattle.protocol.specs.Events.{Event}
use Rattle.protocol.specs.Fixed.{Fixed}
use Rattle.protocol.specs.Parts.{Machine}
use Rattle.protocol.specs.Report.{report}
use Rattle.protocol.specs.Runs.{reached}
use Rattle.protocol.specs.Words.{is_among, holds, is_settled, batch_of}
use Rattle.audit_words.specs.Happenings.{seen}
use Rattle.audit_words.specs.Seen.{Seen}

pub record TellsNames {C : Type 0} (w : Fixed C) (s : Machine C) (t : Seen) : Type 0 where
  pub ring : t.ring ≡ s.ring
  pub bids : map (λ b. b.bid) t.batches ≡ map (λ b. b.bid) s.desk.batches
  pub actors : map (λ b. b.actors) t.batches ≡ map (λ b. map (λ p. p.actor) b.places) s.desk.batches
  pub batch_tids : map (λ b. map (λ p. p.tid) b.pacts) t.batches ≡ map (λ b. map (λ p. p.tid) b.pacts) s.desk.batches
  pub batch_txs : map (λ b. map (λ p. p.tx) b.pacts) t.batches ≡ map (λ b. map (λ p. p.tx) b.pacts) s.desk.batches
  pub tids : map (λ x. x.tid) t.acts ≡ map (λ x. x.tid) s.book.acts
  pub txs : map (λ x. x.tx) t.acts ≡ map (λ x. x.tx) s.book.acts
  pub readers : map (λ x. x.reader) t.acts ≡ map (λ x. x.reader) s.book.acts
  pub firsts : map (λ c. c.first) t.cuts ≡ map (λ c. c.first) s.book.cascades
  pub uptos : map (λ c. c.upto) t.cuts ≡ map (λ c. c.upto) s.book.cascades
  pub settled : (k : ℕ) → is_among k t.settled ≡ holds (λ b. is_settled b.stage) (batch_of k s.desk.batches)

-- of the events of a run
pub record NamesAreSeen {C : Type 0} (w : Fixed C) (es : List Event) : Type 0 where
  pub names : TellsNames w (reached w es) (seen w.code.only_reads w.text es)
  pub count : length (seen w.code.only_reads w.text es).settled ≡ (report es (reached w es)).batches
