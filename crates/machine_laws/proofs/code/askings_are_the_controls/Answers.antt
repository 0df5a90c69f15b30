use Rattle.machine_laws.proofs.Askings.{rests_told, rests_tells, among_told, among_tells}
use Rattle.machine_laws.proofs.code.askings_are_the_controls.Goals as goal

pub returns : goal.returns
returns c = record {
  rests = λ d a. (rests_told d a, rests_tells d a);
  visited = λ d a. (among_told a d.actors, among_tells a d.actors);
}
