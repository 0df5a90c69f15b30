use Rattle.std.proofs.Common.{Option, subst}
use Rattle.log_compact.specs.declared.founds.Found.{Found}
use Rattle.log_compact.specs.Finding.{IsFoundSet, lists_at}
use Rattle.log_following.proofs.WhatIsRead.{set_within}
use Rattle.log_following.proofs.following.set_in.Goals as goal

pub returns-in-Ok-Some-clause-within : goal.returns-in-Ok-Some-clause-within
returns-in-Ok-Some-clause-within c =
    let set = c.in-Ok-Some.set in
    let told = c.in-Ok-Some.ensures in
    set_within c.args.items.now told.0 set.head set.logs set.generation c.requires told.1 (subst (λ (f : Option Found). IsFoundSet (lists_at told.0) f) c.in-Ok-Some.field-0-is told.2)
