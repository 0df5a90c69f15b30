use Rattle.snap_hand.proofs.Numbered.{places_with, places_without, places_tell}
use Rattle.snap_hand.proofs.part_laws.places_are_set.Goals as goal

pub returns-clause-with : goal.returns-clause-with
returns-clause-with c = places_with

pub returns-clause-without : goal.returns-clause-without
returns-clause-without c = places_without

pub returns-clause-told : goal.returns-clause-told
returns-clause-told c = places_tell
