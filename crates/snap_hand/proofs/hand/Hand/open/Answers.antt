use Rattle.std.proofs.Common.{length, sym, subst}
use Rattle.protocol.specs.Runs.{opening}
use Rattle.snap_hand.specs.Hands.{Fits, IsHandOf, IsWhole}
use Rattle.snap_hand.specs.Tables.{fixed_of}
use Rattle.snap_hand.proofs.Opens.{all_parts_are, opening_fits, opening_places, opening_whole}
use Rattle.snap_hand.proofs.hand.Hand.open.Goals as goal

pub returns-clause-fits : goal.returns-clause-fits
returns-clause-fits c =
    let w = fixed_of c.args.tables.now in
    subst (λ h. Fits h (opening w)) (sym (all_parts_are w c.in_ok-hand.hand c.put_others.new.self c.in_ok-hand.ensures c.in_ok-put_others.ensures))
    (opening_fits w (c.halves_stay_of_their_book.ensures.begins w (length w.text.txs)))

pub returns-clause-places : goal.returns-clause-places
returns-clause-places c =
    let w = fixed_of c.args.tables.now in
    subst (IsHandOf w) (sym (all_parts_are w c.in_ok-hand.hand c.put_others.new.self c.in_ok-hand.ensures c.in_ok-put_others.ensures)) (opening_places w)

pub returns-clause-whole : goal.returns-clause-whole
returns-clause-whole c =
    let w = fixed_of c.args.tables.now in
    subst IsWhole (sym (all_parts_are w c.in_ok-hand.hand c.put_others.new.self c.in_ok-hand.ensures c.in_ok-put_others.ensures)) (opening_whole w)
