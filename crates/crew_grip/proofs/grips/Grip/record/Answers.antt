use Rattle.std.proofs.Common.{ℕ, ◌∙◌, ap, sym, subst}
use Rattle.crew_parts.specs.Acts.{MayDo, meant, touched}
use Rattle.protocol.specs.Events.{footprint}
use Rattle.snap_hand.specs.Tables.{fixed_of, text_of}
use Rattle.turn_table.specs.Places.{at, held_after, values}
use Rattle.turn_table.specs.Runs.{Fits, May}
use Rattle.crew_grip.specs.Grips.{IsGripOf, share_at}
use Rattle.crew_grip.proofs.ByNumber.{after_else}
use Rattle.crew_grip.proofs.Recording.{grip_after, may_be_made}
use Rattle.crew_grip.proofs.Working.{stands_now}
use Rattle.crew_grip.proofs.grips.Grip.record.Goals as goal

pub record-requires-clause-held : goal.record-requires-clause-held
record-requires-clause-held g c =
    let t = c.args.turns.now.table.shared.key.tables.value in
    let w = fixed_of t in
    let acted = c.requires.acted in
    let made = may_be_made w c.args.pass.now.seat.me.0.held acted.0 c.args.self.now (footprint (text_of t).logs (meant c.args.act)) c.args.act.done (meant c.args.act) acted.1.0 acted.1.1.0 acted.1.1.1
    c.places_are_set.ensures.told (c.taking_fits.ensures.is w) in
    subst (λ (n : ℕ). May (touched t) (MayDo t) (at c.args.pass.now.seat.me.0.held) c.args.act (values (share_at c.args.self.now) (footprint n (meant c.args.act)))) (sym acted.1.1.1.places.logs)
    (made.0, record { goes = made.1; broken = acted.1.1.1.broken })

pub returns-clause-work : goal.returns-clause-work
returns-clause-work g c =
    let t = c.args.turns.now.table.shared.key.tables.value in
    let w = fixed_of t in
    let start = c.args.turns.now.table.shared.key.parts.value.items in
    let acted = c.requires.acted in
    let held = c.args.pass.now.seat.me.0.held in
    let is = footprint (text_of t).logs (meant c.args.act) in
    let after = grip_after w held acted.0 c.args.self.now is c.args.act.done (meant c.args.act) acted.1.0 acted.1.1.0 acted.1.1.1 c.places_are_set.ensures.told in
    let now = subst (λ (n : ℕ). IsGripOf w (held_after held is (values (share_at c.args.self.now) (footprint n (meant c.args.act)))) c.args.self.now) (sym acted.1.1.1.places.logs) after in
    record {
      own = c.record.ensures.own;
      grip = subst (λ hs. IsGripOf w hs c.args.self.now) (sym (ap (λ v. v.held) c.record.ensures.view)) now;
      stands = stands_now c.tables.result.now t c.tables.ensures c.passes_stand.ensures.knows start _ _ c.requires.crew.begins c.record.ensures.fits;
      fits = subst (λ es. Fits (touched t) (MayDo t) start c.record.new.pass.seat.me.0.held es) c.record.new.pass.same c.record.ensures.fits;
    }

pub returns-clause-others : goal.returns-clause-others
returns-clause-others g c i out =
    let t = c.args.turns.now.table.shared.key.tables.value in
    ap (λ v. at v.held i) c.record.ensures.view
    ∙ (after_else c.args.pass.now.seat.me.0.held (footprint (text_of t).logs (meant c.args.act)) _ i out ∙ c.requires.acted.1.1.0.others i out)
