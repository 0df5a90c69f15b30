-- What events tell, where all of them meet the first clause; and why they tell nothing.
use Rattle.std.specs.Prelude.{Bool, List, ⊤}
use Rattle.snap_base.specs.declared.transactions.Tx.{Tx}
use Rattle.protocol.specs.Events.{Event}
use Rattle.protocol.specs.Fixed.{Text}
use Rattle.audit_words.specs.Audited.{EachMeets, IsFirstNotMet}
use Rattle.audit_words.specs.Happenings.{seen}
use Rattle.audit_words.specs.Seen.{first_ring}
use Rattle.audit_tale.specs.declared.tale_no.TaleNo.{TaleNo}
use Rattle.audit_tale.specs.declared.tale_no.TaleNo.TheVariants as no
use Rattle.audit_tale.specs.declared.told.Told.{Told}
use Rattle.audit_tale.specs.Fitting.{FitsTale}
use Rattle.audit_tale.specs.Settings.{AreOfText}
use Rattle.audit_tale.specs.Stands.{IsSound, KnowsAll}

-- They meet the first clause, and all that they tell is known.
pub record IsTold (only_reads : Tx → Bool) (w : Text) (es : List Event) (t : Told) : Type 0 where
  pub meets : EachMeets w es (first_ring w)
  pub known : KnowsAll w t (seen only_reads w es)
  pub sound : IsSound (seen only_reads w es)
  pub fits : FitsTale w (seen only_reads w es)
  pub waits : AreOfText w (seen only_reads w es).ring

-- the first event that does not meet it
abbrev pub IsTaleNo : Text → List Event → TaleNo → Type 0
IsTaleNo w es (no.Event at) = IsFirstNotMet w es at
IsTaleNo w es no.Memory = ⊤
