use Rattle.std.proofs.Common.{◌≡◌, Some, None, map, ap, sym, ◌∙◌}
use Rattle.std.specs.Prelude.{slice_get}
use Rattle.std.specs.Option.{option_map}
use Rattle.std.proofs.lemmas.Option.{slice_get-get_or}
use Rattle.std.proofs.lemmas.Result.{on_ok_weaker}
use Rattle.protocol.specs.Meant.{tid_number, who_meant}
use Rattle.protocol.specs.Words.{least_older}
use Rattle.audit_words.specs.Happenings.{met}
use Rattle.audit_tale.specs.Rivalry.{locks}
use Rattle.audit_tale.proofs.Asked.{ask_dies, ask_left, ask_stands, may_die, reader_known, still_going}
use Rattle.audit_tale.proofs.Tails.{met_known}
use Rattle.audit_tale.proofs.asking.ask.Goals as goal

pub returns-in_default : goal.returns-in_default
returns-in_default c reads w s sound h = ask_left reads w c.args.t.0 c.args.a.0 c.args.told.now s (c.in_default.ensures w s h) h

pub returns-in_default-least_older : goal.returns-in_default-least_older
returns-in_default-least_older c = on_ok_weaker c.stand.result
    (λ stood reads w s sound h.
    let may = c.in-Some.ensures.3 w s h in
    let here : slice_get c.args.told.now.actors.items c.args.a.0 ≡ Some c.index-2.result.now = slice_get-get_or c.args.told.now.actors.items c.args.a.0 c.index-2.result.now c.in-Some.ensures.1 ∙ ap Some (sym c.index-2.ensures) in
    let entries : map who_meant c.as_slice.result.now ≡ s.entries c.args.a.0 = ap (map who_meant) c.as_slice.ensures.value ∙ (h.stands.actors c.args.a.0 c.index-2.result.now here).entries in
    let rivals : locks s c.in_ok-met.met.items ≡ met c.args.t.0 c.args.a.0 s =
    met_known s c.args.t.0 c.args.a.0 c.as_slice.result.now c.as_slice-2.result.now c.in_ok-met.met.items c.index.result.now.reader (ap (map tid_number) c.as_slice-2.ensures.value ∙ c.in_ok-tail.ensures) entries
    (reader_known w c.args.t.0 c.in-Some.at c.index.result.now c.args.told.now s h c.in-Some.ensures.2 c.in-Some.ensures.0 c.index.ensures) (c.in_ok-met.ensures w s h.names) in
    let first : least_older c.args.t.0 (met c.args.t.0 c.args.a.0 s) ≡ None = ap (least_older c.args.t.0) (sym (ap (locks s) c.as_slice-3.ensures.value ∙ rivals)) ∙ (sym (c.least_older.ensures s) ∙ ap (option_map tid_number) c.in_default-least_older.is) in
    ask_stands reads w c.args.t.0 c.args.a.0 c.stand.new.told s may first (stood w s sound h c.in-Some.ensures.2 may (ap (locks s) c.as_slice-in_default-least_older.ensures.value ∙ rivals) first))
    c.stand.ensures

pub returns : goal.returns
returns c reads w s sound h =
    let may = c.in-Some.ensures.3 w s h in
    let here : slice_get c.args.told.now.actors.items c.args.a.0 ≡ Some c.index-2.result.now = slice_get-get_or c.args.told.now.actors.items c.args.a.0 c.index-2.result.now c.in-Some.ensures.1 ∙ ap Some (sym c.index-2.ensures) in
    let entries : map who_meant c.as_slice.result.now ≡ s.entries c.args.a.0 = ap (map who_meant) c.as_slice.ensures.value ∙ (h.stands.actors c.args.a.0 c.index-2.result.now here).entries in
    let rivals : locks s c.in_ok-met.met.items ≡ met c.args.t.0 c.args.a.0 s =
    met_known s c.args.t.0 c.args.a.0 c.as_slice.result.now c.as_slice-2.result.now c.in_ok-met.met.items c.index.result.now.reader (ap (map tid_number) c.as_slice-2.ensures.value ∙ c.in_ok-tail.ensures) entries
    (reader_known w c.args.t.0 c.in-Some.at c.index.result.now c.args.told.now s h c.in-Some.ensures.2 c.in-Some.ensures.0 c.index.ensures) (c.in_ok-met.ensures w s h.names) in
    let older : least_older c.args.t.0 (met c.args.t.0 c.args.a.0 s) ≡ Some c.in-Some-least_older.older.0 = ap (least_older c.args.t.0) (sym (ap (locks s) c.as_slice-3.ensures.value ∙ rivals)) ∙ (sym (c.least_older.ensures s) ∙ ap (option_map tid_number) c.in-Some-least_older.is) in
    ask_dies reads w c.args.t.0 c.args.a.0 c.in-Some-least_older.older.0 c.give_up.new.told s may older (c.give_up.ensures w s c.args.t.0 (may_die s sound) h c.in-Some.ensures.2 (still_going w c.args.t.0 c.args.a.0 s may))
