-- What events tell of ACTs, beside the machine: why each that is given up is so, and the commit number that is drawn next.
use Rattle.std.specs.Prelude.{◌≡◌, ℕ, Option, Some, None, List}
use Rattle.std.specs.List.{AllByRecursion}
use Rattle.snap_base.specs.declared.verdicts.Verdict.TheVariants as verdicts
use Rattle.protocol.specs.Events.{Event}
use Rattle.protocol.specs.Fixed.{Fixed}
use Rattle.protocol.specs.Parts.{Doomed, Status}
use Rattle.protocol.specs.Runs.{reached}
use Rattle.audit_words.specs.Happenings.{seen}
use Rattle.audit_words.specs.Seen.{Crossed, Doom, Older, Taken, Why, first_doom, next_c}

-- this one is given up, for this reason
abbrev pub doom : ℕ → Why → Doom
doom t why = record { tid = t; why = why }

-- The first reason of the ACT with this tid, by its status: it died of an older one, its two sets crossed, or a cascade took it
-- along. One with any other status has none.
abbrev pub reason : ℕ → Status → Option Doom
reason t (Doomed (verdicts.Died a older own)) = Some (doom own.0 (Older a.0 older.0))
reason t (Doomed (verdicts.Order m n a)) = Some (doom t (Crossed m.0 n.0 a.0))
reason t (Doomed (verdicts.Cascade k by)) = Some (doom t (Taken k.0))
reason t _ = None

pub record ActsAreSeen {C : Type 0} (w : Fixed C) (es : List Event) : Type 0 where
  -- why an ACT is first given up is why it is doomed; it is not given up where it is not doomed
  pub reasons : AllByRecursion (λ x. first_doom x.tid (seen w.code.only_reads w.text es).dooms ≡ reason x.tid x.status) (reached w es).book.acts
  pub next_c : next_c w.text (seen w.code.only_reads w.text es) ≡ (reached w es).book.next_c
