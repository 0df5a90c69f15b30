use Rattle.std.proofs.Common.{◌∙◌, List, Option, None, ap, sym, subst, arith}
use Rattle.crew_parts.specs.Shares.{ShareState}
use Rattle.snap_hand.specs.Tables.{fixed_of}
use Rattle.turn_table.specs.Places.{at}
use Rattle.crew_grip.specs.Grips.{IsGripOf}
use Rattle.crew_grip.proofs.ByNumber.{at_within, none_of}
use Rattle.turn_table.proofs.ByPlace.{put_here, some_of}
use Rattle.crew_grip.proofs.Working.{gave, gave_fits, gave_stands, nothing_held, share_is, share_there, stays_none}
use Rattle.crew_grip.proofs.grips.Grip.give.Goals as goal

pub returns-then-not-holds-clause-given : goal.returns-then-not-holds-clause-given
returns-then-not-holds-clause-given g c = nothing_held _ _ c.args.self.now c.requires.work.grip c.args.part (none_of _ (sym c.holds.ensures ∙ c.if-not-holds.true))

pub take_share-share-requires-clause-there : goal.take_share-share-requires-clause-there
take_share-share-requires-clause-there g c = share_there _ _ c.args.self.now c.requires.work.grip c.args.part (sym c.holds.ensures ∙ c.if-not-holds.false)

pub take_share-share-requires-clause-within : goal.take_share-share-requires-clause-within
take_share-share-requires-clause-within g c =
    let beside = some_of (at c.args.self.now.besides c.args.part) (sym c.holds.ensures ∙ c.if-not-holds.false) in
    at_within c.args.self.now.besides c.args.part beside.0 beside.1

pub give_part-requires-clause-part : goal.give_part-requires-clause-part
give_part-requires-clause-part g c =
    let beside = some_of (at c.args.self.now.besides c.args.part) (sym c.holds.ensures ∙ c.if-not-holds.false) in
    let within = at_within c.args.self.now.besides c.args.part beside.0 beside.1 in
    omega (arith, within, c.args.turns.now.counted, c.requires.crew.begins.many, c.requires.work.grip.many)

pub give_part-requires-clause-held : goal.give_part-requires-clause-held
give_part-requires-clause-held g c = sym (share_is _ _ c.args.self.now c.requires.work.grip c.args.part) ∙ c.take_share-share.ensures.taken

pub returns-clause-work : goal.returns-clause-work
returns-clause-work g c =
    let w = fixed_of c.args.turns.now.table.shared.key.tables.value in
    let held = c.args.pass.now.seat.me.0.held in
    let is = ap (λ v. v.held) c.give_part.ensures.view in
    record {
      own = c.give_part.ensures.own;
      grip =
          subst (λ (hs : List (Option ShareState)). IsGripOf w hs c.take_share-share.new.self) (sym is)
          (gave w held c.args.self.now c.take_share-share.new.self c.args.part c.taking_fits.ensures.stays c.places_are_set.ensures.without c.requires.work.grip c.take_share-share.ensures.left);
      stands = gave_stands w _ _ _ c.args.part c.requires.work.stands is;
      fits =
          gave_fits c.args.turns.now.table.shared.key.tables.value c.args.turns.now.table.shared.key.parts.value.items c.args.pass.now.seat.me.0 c.give_part.new.pass.seat.me.0 c.args.part
          c.requires.work.fits c.give_part.ensures.view;
    }

pub returns-clause-given : goal.returns-clause-given
returns-clause-given g c = ap (λ v. at v.held c.args.part) c.give_part.ensures.view ∙ put_here _ c.args.part None

pub returns-clause-others : goal.returns-clause-others
returns-clause-others g c i none = ap (λ v. at v.held i) c.give_part.ensures.view ∙ stays_none _ c.args.part i none
