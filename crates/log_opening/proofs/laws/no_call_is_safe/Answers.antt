use Rattle.log_opening.proofs.Opening.{all_untouched}
use Rattle.log_opening.proofs.laws.no_call_is_safe.Goals as goal

pub returns : goal.returns
returns c = all_untouched
