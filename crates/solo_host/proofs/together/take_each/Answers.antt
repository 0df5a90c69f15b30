use Rattle.std.proofs.Common.{◌+◌, List, [], ◌∷◌, length, map, refl, sym, subst, ap, ◌∙◌, slice_index_or, arith}
use Rattle.std.proofs.lemmas.List.{get_or_default, length-append, length-drop, length-map}
use Rattle.protocol.specs.Conditions.{IsAllowed}
use Rattle.protocol.specs.Effects.{after}
use Rattle.protocol.specs.Events.{Event, Reply}
use Rattle.protocol.specs.Parts.{Machine}
use Rattle.protocol.specs.Runs.{IsRun, reached}
use Rattle.aml_slice.specs.Controls.{Rest}
use Rattle.snap_core.specs.core_events.Meant.{event_meant}
use Rattle.snap_core.specs.ready_renewal.Covering.{Covers}
use Rattle.snap_core.specs.snap_hand.Tables.{fixed_of}
use Rattle.snap_core.specs.snap_hand.declared.tables.Tables.{Tables}
use Rattle.solo_host.specs.declared.together.Line.{Line}
use Rattle.solo_host.proofs.Replying.{all_between, all_whole, behind, between_all, between_cut, between_on, cut_short, here_allowed}
use Rattle.solo_host.proofs.together.take_each.Goals as goal

pub loop-line-init : goal.loop-line-init
loop-line-init c = record {
  at = c.requires.at;
  tables = refl;
  between = all_between _ _ _ _ c.requires.next;
  covers = c.requires.covers;
  drawn = c.requires.drawn;
  room = c.requires.room;
  more = omega arith;
}

pub take_reply-requires-clause-allowed : goal.take_reply-requires-clause-allowed
take_reply-requires-clause-allowed c =
    let w = fixed_of c.args.core.now.tables in
    let i = c.loop-line.line-index in
    let kept = map event_meant c.loop-line.kept.items in
    let d : Line = record { tx = record { 0 = 0 }; length = 0 } in
    let x : Line = slice_index_or c.args.replies.now i d in
    subst (λ (t : Tables). IsAllowed (fixed_of t) (Reply x.tx.0) (reached (fixed_of t) kept)) (sym c.loop-line.invariant.tables)
    (here_allowed w (map event_meant c.args.kept.now.items) c.args.replies.now c.args.taken kept i x c.loop-line.left c.loop-line-test.true (get_or_default c.args.replies.now i x d c.loop-line-test.true) c.loop-line.invariant.between)

pub take_reply-requires-clause-covers : goal.take_reply-requires-clause-covers
take_reply-requires-clause-covers c =
    let kept = map event_meant c.loop-line.kept.items in
    subst (λ (t : Tables). Covers (fixed_of t) (reached (fixed_of t) kept) c.loop-line.list.events) (sym c.loop-line.invariant.tables) c.loop-line.invariant.covers

pub take_reply-requires-clause-room : goal.take_reply-requires-clause-room
take_reply-requires-clause-room c =
    let rest = length-drop c.loop-line.line-index c.args.replies.now in
    omega (arith, rest, c.loop-line-test.true, c.loop-line.invariant.room)

pub returns-then-left-line-clause-goes : goal.returns-then-left-line-clause-goes
returns-then-left-line-clause-goes c start now a =
    let w = fixed_of c.args.core.now.tables in
    let i = c.loop-line.line-index in
    let d : Line = record { tx = record { 0 = 0 }; length = 0 } in
    let x : Line = slice_index_or c.args.replies.now i d in
    between_cut w (map event_meant c.args.kept.now.items) c.args.replies.now c.args.taken (map event_meant c.loop-line.kept.items) i x c.loop-line.left c.loop-line-test.true (get_or_default c.args.replies.now i x d c.loop-line-test.true) c.loop-line.invariant.between
    c.if-left-line.true start now a

pub returns-then-left-line-clause-cut : goal.returns-then-left-line-clause-cut
returns-then-left-line-clause-cut c _ =
    let w = fixed_of c.args.core.now.tables in
    let i = c.loop-line.line-index in
    let d : Line = record { tx = record { 0 = 0 }; length = 0 } in
    let x : Line = slice_index_or c.args.replies.now i d in
    cut_short w (map event_meant c.args.kept.now.items) c.args.replies.now c.args.taken (map event_meant c.loop-line.kept.items) i x c.loop-line.left c.loop-line-test.true (get_or_default c.args.replies.now i x d c.loop-line-test.true) c.loop-line.invariant.between
    c.if-left-line.true

pub loop-line-preserved : goal.loop-line-preserved
loop-line-preserved c =
    let w = fixed_of c.args.core.now.tables in
    let i = c.loop-line.line-index in
    let kept = map event_meant c.loop-line.kept.items in
    let new = map event_meant c.take_reply.new.kept.items in
    let d : Line = record { tx = record { 0 = 0 }; length = 0 } in
    let x : Line = slice_index_or c.args.replies.now i d in
    let same = c.loop-line.invariant.tables in
    let run : IsRun w kept = subst (λ (t : Tables). IsRun (fixed_of t) kept) same c.loop-line.invariant.at.run in
    let here = length-drop i c.args.replies.now in
    let next = length-drop (i + 1) c.args.replies.now in
    let longer = ap (λ (es : List Event). length es) c.take_reply.ensures.kept in
    let joined = length-append kept (Reply x.tx.0 ∷ []) in
    let had = length-map c.loop-line.kept.items event_meant in
    let has = length-map c.take_reply.new.kept.items event_meant in
    record {
      at = c.take_reply.ensures.at;
      tables = c.take_reply.ensures.tables ∙ same;
      between =
          between_on w (map event_meant c.args.kept.now.items) c.args.replies.now c.args.taken kept i x c.loop-line.left c.loop-line-test.true (get_or_default c.args.replies.now i x d c.loop-line-test.true) c.loop-line.invariant.between
          new c.requires.runs run c.if-left-line.false c.take_reply.ensures.kept;
      covers = subst (λ (s : Machine Rest). Covers w s c.take_reply.new.list.events) (sym (ap (λ (es : List Event). reached w es) c.take_reply.ensures.kept ∙ behind w kept (Reply x.tx.0)))
          (subst (λ (t : Tables). Covers (fixed_of t) (after (fixed_of t) (Reply x.tx.0) (reached (fixed_of t) kept)) c.take_reply.new.list.events) same c.take_reply.ensures.covers);
      drawn = c.take_reply.ensures.drawn;
      room = omega (arith, here, next, c.loop-line-test.true, c.loop-line.invariant.room, c.take_reply.ensures.many, c.take_reply.ensures.room);
      more = omega (arith, longer, joined, had, has, c.loop-line.invariant.more);
    }

pub returns-clause-goes : goal.returns-clause-goes
returns-clause-goes c start now a =
    between_all (fixed_of c.args.core.now.tables) (map event_meant c.args.kept.now.items) c.args.replies.now c.args.taken (map event_meant c.loop-line.kept.items) c.loop-line.line-index c.loop-line.left c.loop-line-test.false c.loop-line.invariant.between start now a

pub returns-clause-all : goal.returns-clause-all
returns-clause-all c _ =
    all_whole (fixed_of c.args.core.now.tables) (map event_meant c.args.kept.now.items) c.args.replies.now c.args.taken (map event_meant c.loop-line.kept.items) c.loop-line.line-index c.loop-line.left c.loop-line-test.false c.loop-line.invariant.between
