use Rattle.std.proofs.Common.{◌∙◌, List, Option, Some, is_some, ap, sym, subst, arith}
use Rattle.snap_base.proofs.Options.{is_some_map}
use Rattle.crew_parts.specs.Acts.{MayDo, touched}
use Rattle.crew_parts.specs.Shares.{ShareState}
use Rattle.protocol.specs.Runs.{reached}
use Rattle.snap_hand.specs.Shown.{Belongs}
use Rattle.snap_hand.specs.Tables.{fixed_of}
use Rattle.turn_table.specs.Places.{at, put_at}
use Rattle.turn_table.specs.Runs.{Fits}
use Rattle.crew_grip.specs.Grips.{IsGripOf}
use Rattle.crew_grip.proofs.ByNumber.{none_of}
use Rattle.turn_table.proofs.ByPlace.{put_else}
use Rattle.crew_grip.proofs.Working.{no_part, part_of_run, stands_now, took}
use Rattle.crew_grip.proofs.grips.Grip.take.Goals as goal

pub returns-then-holds-clause-held : goal.returns-then-holds-clause-held
returns-then-holds-clause-held g c is =
    sym (is_some_map (λ x. x.beside) _) ∙ (ap is_some (sym (c.requires.work.grip.besides c.args.part)) ∙ (sym c.holds.ensures ∙ c.if-holds.true))

pub put_share-requires-clause-kind : goal.put_share-requires-clause-kind
put_share-requires-clause-kind g c =
    let t = c.args.turns.now.table.shared.key.tables.value in
    let w = fixed_of t in
    let start = c.args.turns.now.table.shared.key.parts.value.items in
    let x = c.in-Some.held.value in
    let st = stands_now c.tables.result.now t c.tables.ensures c.passes_stand.ensures.knows start _ _ c.requires.crew.begins c.in-Some.ensures.fits in
    subst (λ (y : ShareState). Belongs c.args.self.now.hand c.args.part y.part) (sym c.open-share.ensures.1)
    (c.putting_fits.ensures.belongs w c.args.self.now.hand (reached w st.events) c.args.part x.part c.requires.work.grip.places (part_of_run w start _ c.args.part x st c.in-Some.ensures.value))

pub put_share-requires-clause-free : goal.put_share-requires-clause-free
put_share-requires-clause-free g c = no_part _ _ c.args.self.now c.requires.work.grip c.args.part (none_of _ (sym c.holds.ensures ∙ c.if-holds.false))

pub put_share-requires-clause-within : goal.put_share-requires-clause-within
put_share-requires-clause-within g c = omega (arith, c.requires.part, c.args.turns.now.counted, c.requires.crew.begins.many, c.requires.work.grip.many)

pub returns-clause-work : goal.returns-clause-work
returns-clause-work g c =
    let t = c.args.turns.now.table.shared.key.tables.value in
    let w = fixed_of t in
    let start = c.args.turns.now.table.shared.key.parts.value.items in
    let held = c.args.pass.now.seat.me.0.held in
    let x = c.open-share.result.1 in
    let is = c.in-Some.ensures.value ∙ ap Some (sym c.open-share.ensures.1) in
    let st = stands_now c.tables.result.now t c.tables.ensures c.passes_stand.ensures.knows start _ _ c.requires.crew.begins c.in-Some.ensures.fits in
    record {
      own = c.take.ensures.own;
      grip =
          subst (λ (hs : List (Option ShareState)). IsGripOf w hs c.put_share.new.self) (sym (ap (λ v. v.held) c.in-Some.ensures.some.1.1 ∙ ap (λ (y : ShareState). put_at held c.args.part (Some y)) (sym c.open-share.ensures.1)))
          (took w held c.args.self.now c.put_share.new.self c.args.part x (reached w st.events)
          c.putting_fits.ensures.stays c.putting_fits.ensures.belongs c.places_are_set.ensures.with c.requires.work.grip
          (omega (arith, c.requires.part, c.args.turns.now.counted, c.requires.crew.begins.many)) (part_of_run w start _ c.args.part x st is) c.put_share.ensures);
      stands = st;
      fits = subst (λ es. Fits (touched t) (MayDo t) start c.take.new.pass.seat.me.0.held es) c.take.new.pass.same c.in-Some.ensures.fits;
    }

pub returns-clause-held : goal.returns-clause-held
returns-clause-held g c is = ap is_some c.in-Some.ensures.value

pub returns-clause-others : goal.returns-clause-others
returns-clause-others g c i other = ap (λ v. at v.held i) c.in-Some.ensures.some.1.1 ∙ put_else _ c.args.part i _ other
