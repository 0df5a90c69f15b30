-- What the tables are in the words of the machine: their work and opening as its text, with the methods of the program as code.
use Rattle.aml_slice.specs.Controls.{Rest}
use Rattle.machine_text.specs.Texts as texts
use Rattle.protocol.specs.Fixed.{Text, Fixed}
use Rattle.snap_hand.specs.declared.tables.Tables.{Tables}
use Rattle.snap_work.specs.Works.{work_of}

abbrev pub text_of : Tables → Text
text_of t = texts.text_of (work_of t.work) t.opening

abbrev pub fixed_of : Tables → Fixed Rest
fixed_of t = texts.machine_of (work_of t.work) t.opening

-- an accepted text, whose transactions may be asked of its program, and an opening for it
abbrev pub AreTables : Tables → Type 0
AreTables t = texts.IsAccepted (work_of t.work) t.opening
