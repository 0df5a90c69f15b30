use Rattle.std.proofs.Common.{refl, true}
use Rattle.protocol.specs.Effects.{after}
use Rattle.protocol_ready.specs.Touched.{is_touched}
use Rattle.protocol_ready.proofs.PartsTold.{told}
use Rattle.protocol_ready.proofs.laws.parts_tell_all.Goals as goal

pub returns-clause-told : goal.returns-clause-told
returns-clause-told g c asked w s es p f meant ok = told asked w s es p f meant ok

pub returns-clause-all : goal.returns-clause-all
returns-clause-all g c w s es p f lies ok = told (λ f. true) w s es p f refl ok

pub returns-clause-renewed : goal.returns-clause-renewed
returns-clause-renewed g c w e s all es had p = record { had = had; listed = λ f q lies ok. told (is_touched w e s) w (after w e s) es p f q ok }
