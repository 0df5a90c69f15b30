use Rattle.followed_bytes.proofs.Readings.{all_read}
use Rattle.followed_bytes.proofs.laws.readings_are_findings.Goals as goal

pub returns : goal.returns
returns c = all_read c.groups_are_whole.ensures.moment c.groups_grow.ensures.durable
