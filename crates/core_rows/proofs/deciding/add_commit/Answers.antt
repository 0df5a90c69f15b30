use Rattle.std.proofs.Common.{rules, ℤ, FitsSigned, ap, sym, subst, ◌∙◌}
use Rattle.protocol.specs.Effects.{added}
use Rattle.protocol.specs.Records.{ActDone}
use Rattle.book_part.specs.Commits.{records_of}
use Rattle.log_set.specs.Shown.{ShowsLog}
use Rattle.txn_records.specs.Records.{actor_numbers, IsActDone}
use Rattle.std.proofs.Math.Facts.{to_z-of_z}
use Rattle.std.specs.Int.{w64}
use Rattle.txn_records.specs.declared.records.Record.TheVariants as records
use Rattle.core_rows.specs.Commits.{HasSpelling}
use Rattle.core_rows.proofs.Commits.{is_done, nothing_added, told_commit}
use Rattle.core_rows.proofs.deciding.add_commit.Goals as goal

pub add-requires : goal.add-requires
add-requires c =
    let own = c.in-Some.field-0 in
    let fits : FitsSigned w64 own.value = search rules in
    subst (λ (v : ℤ). IsActDone own.tid own.before own.number v own.actors) (sym (to_z-of_z {w = w64} {z = own.value} fits))
    (is_done own.tid own.before own.number own.value own.actors (subst HasSpelling c.in-Some.is c.requires) fits)

pub returns-in_ok-add-in-Some-clause-shows : goal.returns-in_ok-add-in-Some-clause-shows
returns-in_ok-add-in-Some-clause-shows c l shows =
    let own = c.in-Some.field-0 in
    let fits : FitsSigned w64 own.value = search rules in
    subst (λ o. ShowsLog c.add.new.self.log (added (records_of o) l)) (sym c.in-Some.is)
    (c.in_ok-add-in-Some.ensures.shows l (ActDone own.tid.0 own.before.0 own.number own.value (actor_numbers own.actors))
    (ap (λ (v : ℤ). records.ActDone own.tid own.before own.number v own.actors) (to_z-of_z {w = w64} {z = own.value} fits) ∙ told_commit own) shows)

pub returns-in-None-clause-shows : goal.returns-in-None-clause-shows
returns-in-None-clause-shows c l shows =
    subst (λ o. ShowsLog c.args.log.now.log (added (records_of o) l)) (sym c.in-None.is) (subst (ShowsLog c.args.log.now.log) (sym (nothing_added l)) shows)
