-- What a value of Told asks for.
use Rattle.run_work.specs.Runs.{Printing, reporting, summing}
use Rattle.run_work.specs.declared.printings.Told.{Told}
use Rattle.run_work.specs.declared.printings.Told.TheVariants as told

abbrev pub printing_of : Told → Printing
printing_of told.Report = reporting
printing_of told.Summary = summing
