-- What events tell of where PACTs ran.
use Rattle.std.specs.Prelude.{◌≡◌, ℕ, false, is_some, List}
use Rattle.std.specs.List.{AllByRecursion}
use Rattle.protocol.specs.Events.{Event}
use Rattle.protocol.specs.Fixed.{Fixed}
use Rattle.protocol.specs.History.{Done, history}
use Rattle.protocol.specs.Words.{is_act_who, is_among}
use Rattle.audit_words.specs.Happenings.{seen}

-- a PACT ran on an actor exactly where the events say so
abbrev pub RunsAsTold : (ℕ → List ℕ) → Done → Type 0
RunsAsTold ran d = is_act_who d.who ≡ false → (a : ℕ) → is_among d.tid (ran a) ≡ is_some (d.views a)

-- so it is of each that committed
abbrev pub RunsAreSeen : {C : Type 0} → Fixed C → List Event → Type 0
RunsAreSeen w es = AllByRecursion (RunsAsTold (seen w.code.only_reads w.text es).ran) (history w es).committed
