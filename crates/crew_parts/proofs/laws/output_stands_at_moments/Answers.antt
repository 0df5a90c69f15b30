use Rattle.std.proofs.Common.{◌≡◌, inl, inr, List, [], ◌∷◌, ◌++◌, sym, ap, subst, ◌∙◌}
use Rattle.std.proofs.lemmas.List.{append_cancel_left}
use Rattle.crew_parts.specs.Acts.{MayDo, touched}
use Rattle.crew_parts.specs.declared.acts.Act.{Act}
use Rattle.protocol.specs.Events.{book, desk}
use Rattle.snap_hand.specs.Tables.{fixed_of}
use Rattle.turn_table.specs.Runs.{AllLeave, Run}
use Rattle.crew_parts.proofs.LeftAlone.{no_more_acts}
use Rattle.crew_parts.proofs.OutputStands.{stands_between, stands_told}
use Rattle.crew_parts.proofs.UnderWay.{Crew}
use Rattle.crew_parts.proofs.laws.output_stands_at_moments.Goals as goal

pub returns : goal.returns
returns g c start s u taken now begins takes =
    let t = c.args.tables.now in
    let w = fixed_of t in
    let crew : Crew w = record { laws = c.laws_of_runs.ensures; start = start; begun = begins; join = c.runs_join.ensures.join; cut = c.runs_join.ensures.cut } in
    elim takes [
      | inl same ↦ stands_told w crew now.history now.parts now.run taken same
      | inr h ↦ (
          let hold = h.0 in
          let of_book = c.what_is_held_is_left.ensures start s hold.last book hold.place now hold.before hold.order.0 hold.on_book in
          let of_desk = c.what_is_held_is_left.ensures start s hold.last desk hold.place now hold.before hold.order.0 hold.on_desk in
          let same : of_desk.0 ≡ of_book.0 = append_cancel_left now.history of_desk.0 of_book.0 (sym of_desk.1 ∙ of_book.1) in
          let next = c.histories_go_on.ensures.next start hold.last hold.next hold.before hold.after hold.act hold.order.1 hold.recorded in
          let one : hold.after.history ≡ hold.before.history ++ hold.act ∷ [] = no_more_acts hold.before.history hold.after.history hold.act next.0 _ _ next.1 hold.before.count hold.after.count hold.alone in
          stands_between w crew now.history now.parts now.run taken of_book.0 hold.act hold.after.parts of_book.2 (subst (AllLeave (touched t) desk) same of_desk.2)
          (subst (λ (acts : List Act). Run (touched t) (MayDo t) start acts hold.after.parts) (one ∙ ap (λ (acts : List Act). acts ++ hold.act ∷ []) of_book.1) hold.after.run) h.1)
    ]
