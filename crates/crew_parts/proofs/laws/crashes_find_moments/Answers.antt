use Rattle.std.proofs.Common.{inl, inr, List, [], ◌∷◌, refl, sym, ap, subst, ◌∙◌, append-nil}
use Rattle.crew_parts.specs.Acts.{MayDo, touched}
use Rattle.crew_parts.specs.Crews.{kept}
use Rattle.crew_parts.specs.declared.acts.Act.{Act}
use Rattle.protocol.specs.Events.{log}
use Rattle.protocol.specs.Moments.{IsUnderWay}
use Rattle.snap_hand.specs.Tables.{fixed_of}
use Rattle.turn_table.specs.Runs.{Run}
use Rattle.crew_parts.proofs.LeftAlone.{kept-append, later_is, none_touches}
use Rattle.crew_parts.proofs.UnderWay.{Crew, still_under_way, under_way}
use Rattle.crew_parts.proofs.laws.crashes_find_moments.Goals as goal

pub returns : goal.returns
returns g c start s u begun now end begins later holds =
    let t = c.args.tables.now in
    let w = fixed_of t in
    let crew : Crew w = record { laws = c.laws_of_runs.ensures; start = start; begun = begins; join = c.runs_join.ensures.join; cut = c.runs_join.ensures.cut } in
    let on = c.histories_go_on.ensures.more start s u now end later in
    record {
      moment = record {
        events = kept now.history;
        later = kept on.0;
        splits = ap kept on.1 ∙ kept-append now.history on.0;
        has_begun = begun;
        begun = λ l is.
            let within = (holds l is).0 in
            let h = (holds l is).1 in
            let left = c.what_is_held_is_left.ensures start s h.last (log l) h.place now h.rule h.behind h.on in
            elim h.ends [
              | inl same ↦ (
                  let back = c.histories_go_on.ensures.none start h.last u h.rule end h.before same in
                  let rest = later_is end.history now.history h.rule.history left.0 [] on.0 on.1 left.1 (back ∙ sym (append-nil h.rule.history)) in
                  subst (λ (acts : List Act). IsUnderWay w.text.logs l (kept acts)) (sym (rest ∙ append-nil left.0)) (still_under_way w.text.logs l (kept left.0) (none_touches w.text.logs l left.0 left.2)))
              | inr next ↦ (
                  let back = c.histories_go_on.ensures.next start h.last u h.rule end next.0 h.before next.2 in
                  let rest = later_is end.history now.history h.rule.history left.0 (next.0 ∷ back.0) on.0 on.1 left.1 back.1 in
                  let run = subst (λ (acts : List Act). Run (touched t) (MayDo t) start acts end.parts) back.1 end.run in
                  subst (λ (acts : List Act). IsUnderWay w.text.logs l (kept acts)) (sym rest)
                  (under_way w crew l within
                  h.rule.history left.0 next.0 back.0 end.parts left.2 next.1 run))
            ];
      };
      so_far = refl;
      under_way = refl;
    }
