-- A batch that was aborted fails with a transaction exactly where a serial run of what counts finds it.
use Rattle.std.specs.Prelude.{◌≡◌, ℕ, ◌==◌, ◌&&◌, Bool, true, false, MatchBool, Option, Some, None, List, filter}
use Rattle.std.specs.List.{list_any}
use Rattle.std.proofs.Common.{sym, ap, ◌∙◌}
use Rattle.std.proofs.lemmas.Bool.{true≢false}
use Rattle.snap_base.proofs.Options.{none_is_some, same_some}
use Rattle.protocol.specs.Fixed.{Text}
use Rattle.protocol.specs.OnRing.{Formed}
use Rattle.audit_words.specs.Clauses.{FailsItsBatch, Meaning, world_left_below}
use Rattle.audit_words.specs.Papers.{Line}
use Rattle.audit_words.specs.Seen.{Cut, Seen, batch_in}
use Rattle.audit_tale.specs.Stands.{cuts_from}
use Rattle.audit_tale.specs.declared.told.Fall.{Fall}
use Rattle.trace_audit.specs.Failures.{first_fails}
use Rattle.trace_audit.proofs.Evidences.{any_filtered, decides}
use Rattle.trace_audit.proofs.FirstFailures.{fails_among, first_among}

-- ---- the batch

-- a cascade began with batch k when this number would have been drawn
abbrev pub is_aborted_at : Seen → ℕ → ℕ → Bool
is_aborted_at s k c = list_any (λ x. (x.first == k) && (x.at == c)) s.cuts

pub aborted_so : (s : Seen) (k c : ℕ) (o : Option Fall) (b : Bool) → cuts_from k o ≡ filter (λ x. x.first == k) s.cuts → b ≡ list_any (λ x. x.at == c) (cuts_from k o) → b ≡ is_aborted_at s k c
aborted_so s k c o b f e = e ∙ (ap (list_any (λ x. x.at == c)) f ∙ any_filtered (λ (x : Cut). x.first == k) (λ x. x.at == c) s.cuts)

pub not_aborted : (m : Meaning) (w : Text) (s : Seen) (ls : List Line) (n k c code : ℕ) → is_aborted_at s k c ≡ false → ¬ FailsItsBatch m w s ls n k c code
not_aborted m w s ls n k c code e g = true≢false (sym g.aborted ∙ e)

pub not_formed : (m : Meaning) (w : Text) (s : Seen) (ls : List Line) (n k c code : ℕ) → batch_in k s.batches ≡ None → ¬ FailsItsBatch m w s ls n k c code
not_formed m w s ls n k c code e g = none_is_some g.batch (sym e ∙ g.found)

pub fails_is : (m : Meaning) (w : Text) (s : Seen) (ls : List Line) (n k c code : ℕ) (f : Formed) (r : Bool) → is_aborted_at s k c ≡ true → batch_in k s.batches ≡ Some f
    → r ≡ first_fails m w.txs n code (world_left_below m w k c ls) f.pacts → MatchBool r (FailsItsBatch m w s ls n k c code) (¬ FailsItsBatch m w s ls n k c code)
fails_is m w s ls n k c code f r aborted found e = decides r (FailsItsBatch m w s ls n k c code) yes back
  where
    yes : r ≡ true → FailsItsBatch m w s ls n k c code
    yes q =
        let g = fails_among m w.txs n code (world_left_below m w k c ls) f.pacts (sym e ∙ q) in
        record { batch = f; pact = g.pact; front = g.front; rest = g.rest; aborted = aborted; found = found; splits = g.splits; tx = g.tx; fails = g.fails }

    back : FailsItsBatch m w s ls n k c code → r ≡ true
    back g =
        let same : f ≡ g.batch = same_some f g.batch (sym found ∙ g.found) in
        e ∙ (ap (λ (x : Formed). first_fails m w.txs n code (world_left_below m w k c ls) x.pacts) same
        ∙ (ap (first_fails m w.txs n code (world_left_below m w k c ls)) g.splits ∙ first_among m w.txs n code (world_left_below m w k c ls) g.front g.pact g.rest g.tx g.fails))
