use Rattle.std.proofs.Common.{◌≡◌, ℕ, ◌<◌, ◌⊎◌, inl, inr, List, [], ◌∷◌, ◌++◌, ap, subst, ◌∙◌, append_assoc}
use Rattle.crew_parts.specs.Acts.{MayDo, touched}
use Rattle.crew_parts.specs.Devices.{told_at}
use Rattle.crew_parts.specs.declared.acts.Act.{Act}
use Rattle.protocol.specs.Events.{log}
use Rattle.snap_hand.specs.Tables.{fixed_of}
use Rattle.turn_table.specs.Runs.{Run}
use Rattle.crew_parts.proofs.DevicesStand.{GoesOn, found}
use Rattle.crew_parts.proofs.UnderWay.{Crew}
use Rattle.crew_parts.proofs.LeftAlone.{later_is, no_more_acts}
use Rattle.crew_parts.proofs.laws.devices_stand_at_moments.Goals as goal

pub returns : goal.returns
returns g c start s u told now end begins later tells =
    let t = c.args.tables.now in
    let w = fixed_of t in
    let crew : Crew w = record { laws = c.laws_of_runs.ensures; start = start; begun = begins; join = c.runs_join.ensures.join; cut = c.runs_join.ensures.cut } in
    let on = c.histories_go_on.ensures.more start s u now end later in
    let goes : (l : ℕ) → l < w.text.logs → (told l ≡ told_at now.parts l) ⊎ GoesOn w crew now.history on.0 end.history now.parts end.parts on.1 now.run end.run l (told l) =
    λ l within. elim (tells l within) [
      | inl same ↦ inl same
      | inr h ↦ (
          let hold = h.0 in
          let left = c.what_is_held_is_left.ensures start s hold.last (log l) hold.place now hold.before hold.order.0 hold.on in
          let next = c.histories_go_on.ensures.next start hold.last hold.next hold.before hold.after hold.act hold.order.1 hold.recorded in
          let one : hold.after.history ≡ hold.before.history ++ hold.act ∷ [] = no_more_acts hold.before.history hold.after.history hold.act next.0 _ _ next.1 hold.before.count hold.after.count hold.alone in
          let rest = c.histories_go_on.ensures.more start hold.next u hold.after end hold.order.2 in
          inr (record {
            more = left.0;
            act = hold.act;
            rest = rest.0;
            made = hold.after.parts;
            splits = later_is end.history now.history hold.before.history left.0 (hold.act ∷ rest.0) on.0 on.1 left.1 (rest.1 ∙ (ap (λ (acts : List Act). acts ++ rest.0) one ∙ append_assoc hold.before.history (hold.act ∷ []) rest.0));
            leave = left.2;
            run = subst (λ (acts : List Act). Run (touched t) (MayDo t) start acts hold.after.parts) (one ∙ ap (λ (acts : List Act). acts ++ hold.act ∷ []) left.1) hold.after.run;
            through = h.1;
          }))
    ] in
    let all = found w crew now.history on.0 end.history now.parts end.parts on.1 now.run end.run told goes in
    record {
      moment = all.moment;
      so_far = all.so_far;
      each = λ l x j h gate first within at is grew ends. all.each l within h gate first (record { share = x; journal = j; at = at; is = is; grew = grew; end = ends });
    }
