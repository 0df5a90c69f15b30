use Rattle.std.proofs.Common.{ap, sym, ◌∙◌}
use Rattle.protocol.specs.Conditions.{conditions}
use Rattle.protocol.specs.Records.{is_prepare}
use Rattle.protocol.specs.Words.{holds, is_durable}
use Rattle.core_rows.proofs.Rules.{refused, two}
use Rattle.core_rows.proofs.voting.vouch_refusal.Goals as goal

pub returns : goal.returns
unfolding conditions
returns g c w s r shows = refused w _ s _ _ (two
    (sym (c.is_to_vouch-to_vouch.ensures s.book shows.0))
    (ap (holds (is_durable (is_prepare c.args.t.0 c.args.a.0))) shows.1.1.0 ∙ sym (c.has_prepare-durable.ensures shows.1.0 shows.1.1.1))) c.first_no.ensures
