use Rattle.std.proofs.Common.{◌≡◌, ◌++◌, ap, sym, subst, ◌∙◌, map}
use Rattle.std.specs.Prelude.{◌==◌, filter}
use Rattle.std.proofs.lemmas.List.{map-append}
use Rattle.std.proofs.lemmas.List.Elements.{filter-append}
use Rattle.core_events.specs.Meant.{event_meant}
use Rattle.protocol.specs.Schedule.{AscendByRank}
use Rattle.ready_list.specs.Order.{first_of}
use Rattle.ready_list.proofs.FirstNumbers.{no_fall, no_fall_ahead, no_fall_behind}
use Rattle.ready_list.proofs.ring.Ring.numbered.Goals as goal

pub with_number-requires : goal.with_number-requires
with_number-requires c =
    let head = c.as_slices.result.0.now in
    let tail = c.as_slices.result.1.now in
    let v : map event_meant c.self.inside.events.items ≡ c.args.self.now.events = ap (λ r. r.events) c.self.view_is in
    no_fall_ahead head tail (no_fall c.requires.0 (head ++ tail) c.args.self.now.events (ap (map event_meant) c.as_slices.ensures.items ∙ v) c.requires.1 (subst AscendByRank v c.self.invariant))

pub with_number-requires-2 : goal.with_number-requires-2
with_number-requires-2 c =
    let head = c.as_slices.result.0.now in
    let tail = c.as_slices.result.1.now in
    let v : map event_meant c.self.inside.events.items ≡ c.args.self.now.events = ap (λ r. r.events) c.self.view_is in
    no_fall_ahead head tail (no_fall c.requires.0 (head ++ tail) c.args.self.now.events (ap (map event_meant) c.as_slices.ensures.items ∙ v) c.requires.1 (subst AscendByRank v c.self.invariant))

pub with_number-requires-3 : goal.with_number-requires-3
with_number-requires-3 c =
    let head = c.as_slices.result.0.now in
    let tail = c.as_slices.result.1.now in
    let v : map event_meant c.self.inside.events.items ≡ c.args.self.now.events = ap (λ r. r.events) c.self.view_is in
    no_fall_behind head tail (no_fall c.requires.0 (head ++ tail) c.args.self.now.events (ap (map event_meant) c.as_slices.ensures.items ∙ v) c.requires.1 (subst AscendByRank v c.self.invariant))

pub returns : goal.returns
returns c =
    let head = c.as_slices.result.0.now in
    let tail = c.as_slices.result.1.now in
    let v : map event_meant c.self.inside.events.items ≡ c.args.self.now.events = ap (λ r. r.events) c.self.view_is in
    let those = filter (λ f. first_of f == c.args.number) in
    map-append event_meant c.with_number-2.result.now c.with_number-3.result.now
    ∙ ap (λ l. l ++ map event_meant c.with_number-3.result.now) c.with_number-2.ensures
    ∙ ap (λ l. those (map event_meant head) ++ l) c.with_number-3.ensures
    ∙ sym (filter-append (λ f. first_of f == c.args.number) (map event_meant head) (map event_meant tail))
    ∙ ap those (sym (map-append event_meant head tail) ∙ ap (map event_meant) c.as_slices.ensures.items ∙ v)
