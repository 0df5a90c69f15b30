use Rattle.crew_ends.proofs.Ending.{journals_driven, outputs_goes, still_due}
use Rattle.crew_ends.proofs.laws.crews_drive.Goals as goal

pub returns-clause-journals : goal.returns-clause-journals
returns-clause-journals c w start now es old new before after begun come first last olds news = journals_driven w start now es old new before after begun come first last olds news

pub returns-clause-output : goal.returns-clause-output
returns-clause-output c w start now es old new before after begun come first last = outputs_goes w start now es old new before after begun come first last

pub returns-clause-due : goal.returns-clause-due
returns-clause-due c w start now es new after begun come last news = still_due w start now es new after begun come last news
