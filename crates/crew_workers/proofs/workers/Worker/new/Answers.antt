use Rattle.std.proofs.Common.{◌≡◌, [], None, Some, ap, refl, subst, sym}
use Rattle.crew_parts.specs.Acts.{MayDo, touched}
use Rattle.crew_parts.specs.Crews.{AreFirstShares, Stands}
use Rattle.snap_hand.specs.Tables.{fixed_of}
use Rattle.turn_table.specs.Places.{IsIdle}
use Rattle.turn_table.specs.Runs.{Fits}
use Rattle.turn_table.specs.Words.{opening_of, tables_of}
use Rattle.crew_grip.specs.Grips.{IsGripOf}
use Rattle.crew_workers.proofs.workers.Worker.new.Goals as goal

pub returns-clause-free : goal.returns-clause-free
returns-clause-free g c =
    let start = opening_of c.args.turns.now in
    let held = c.split-pass.result.seat.me.0.held in
    let idle : IsIdle held = subst (λ v. IsIdle v.held) (sym c.split-pass.ensures.new) (λ i. refl) in
    record {
      work = record {
        own = c.split-pass.ensures.own.1;
        grip = subst (λ t. IsGripOf (fixed_of t) held c.in_ok-grip.grip) c.tables-2.ensures (c.in_ok-grip.ensures held idle);
        fits = subst (λ v. Fits (touched (tables_of c.args.turns.now)) (MayDo (tables_of c.args.turns.now)) start v.held v.entries) (sym c.split-pass.ensures.new) ([], start, refl, λ i p e. nothing p e, tt);
        stands = subst (λ t. AreFirstShares (fixed_of t) start → IsIdle held → Stands (fixed_of t) start held) c.tables.ensures (λ b i. c.passes_stand.ensures.idle start held b i) c.requires.crew.begins idle;
      };
      idle = idle;
      whole = ap (λ v. v.splits) c.split-pass.ensures.new;
    } where
      nothing : {X : Type 0} {Y : Type 0} (x : X) → None ≡ Some x → Y
      nothing x e = absurd (cc e)
