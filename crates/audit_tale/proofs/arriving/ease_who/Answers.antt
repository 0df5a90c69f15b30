use Rattle.audit_tale.specs.Coming.{is_kept_at}
use Rattle.audit_tale.proofs.Touched.{eased_as}
use Rattle.audit_tale.proofs.arriving.ease_who.Goals as goal

pub returns-in-Some : goal.returns-in-Some
returns-in-Some c = eased_as _ (λ i. is_kept_at c.args.owners.now i c.args.who) c.args.acts.now c.args.ties.now c.ease_at.new.ties c.in-Some.ensures c.ease_at.ensures
