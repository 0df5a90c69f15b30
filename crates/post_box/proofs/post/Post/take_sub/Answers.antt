use Rattle.std.proofs.Common.{Some, map, ap, sym, ◌∙◌}
use Rattle.std.specs.Option.{option_map}
use Rattle.protocol.specs.Meant.{sub_batch}
use Rattle.protocol.specs.OnPost.{sub_taken}
use Rattle.protocol.specs.Words.{sub_of}
use Rattle.post_box.specs.Shown.{sub_whole, sub_shown, control_shown}
use Rattle.post_box.proofs.Machine.{asks_sub, sub_of-shown, without_sub-shown, post_of}
use Rattle.post_box.proofs.Tallied.{left_of, tally_left}
use Rattle.post_box.proofs.post.Post.take_sub.Goals as goal

pub returns-in_err-rest-clause-value : goal.returns-in_err-rest-clause-value
returns-in_err-rest-clause-value g c =
    ap (option_map sub_batch) c.from_residual.ensures
    ∙ ap (option_map (sub_whole c.args.bid.0 c.args.a.0)) c.in_err-rest.ensures.value
    ∙ sym (sub_of-shown _ c.args.bid.0 c.args.a.0 (asks_sub (record { bid = c.args.bid; actor = c.args.a })) c.self.inside.subs.entries)
    ∙ ap (λ v. sub_of c.args.bid.0 c.args.a.0 v.messages.subs) c.self.view_is

pub returns-in_err-rest-clause-messages : goal.returns-in_err-rest-clause-messages
returns-in_err-rest-clause-messages g c =
    ap (λ es. post_of (map sub_shown es) (map control_shown c.self.inside.controls.entries)) c.in_err-rest.ensures.entries
    ∙ ap (λ subs. post_of subs (map control_shown c.self.inside.controls.entries)) (without_sub-shown _ c.args.bid.0 c.args.a.0 (asks_sub (record { bid = c.args.bid; actor = c.args.a })) c.self.inside.subs.entries)
    ∙ ap (λ v. sub_taken c.args.bid.0 c.args.a.0 v.messages) c.self.view_is

pub returns-clause-value : goal.returns-clause-value
returns-clause-value g c =
    ap (λ s. Some (sub_batch s)) c.whole.ensures
    ∙ ap (option_map (sub_whole c.args.bid.0 c.args.a.0)) c.in_ok-rest.ensures.value
    ∙ sym (sub_of-shown _ c.args.bid.0 c.args.a.0 (asks_sub (record { bid = c.args.bid; actor = c.args.a })) c.self.inside.subs.entries)
    ∙ ap (λ v. sub_of c.args.bid.0 c.args.a.0 v.messages.subs) c.self.view_is

pub returns-clause-messages : goal.returns-clause-messages
returns-clause-messages g c =
    ap (λ es. post_of (map sub_shown es) (map control_shown c.self.inside.controls.entries)) c.in_ok-rest.ensures.entries
    ∙ ap (λ subs. post_of subs (map control_shown c.self.inside.controls.entries)) (without_sub-shown _ c.args.bid.0 c.args.a.0 (asks_sub (record { bid = c.args.bid; actor = c.args.a })) c.self.inside.subs.entries)
    ∙ ap (λ v. sub_taken c.args.bid.0 c.args.a.0 v.messages) c.self.view_is

pub invariant_of-self : goal.invariant_of-self
invariant_of-self g c = tally_left _ c.self.inside.counts.items c.self.inside.subs.entries c.take.new.self.entries c.in_err-rest.ensures.entries c.self.invariant

pub invariant_of-self-2 : goal.invariant_of-self-2
invariant_of-self-2 g c =
    c.count_out.ensures c.self.inside.subs.entries c.take.new.self.entries
    (left_of _ c.args.bid.0 c.args.a.0 (asks_sub (record { bid = c.args.bid; actor = c.args.a })) c.self.inside.subs.entries c.take.new.self.entries c.in_ok-rest.ensures.entries c.in_ok-rest.rest c.in_ok-rest.ensures.value)
    c.self.invariant
