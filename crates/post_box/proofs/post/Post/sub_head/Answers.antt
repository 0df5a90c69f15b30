use Rattle.std.proofs.Common.{Some, map, length, ap, sym, ◌∙◌}
use Rattle.std.specs.Option.{option_map}
use Rattle.protocol.specs.Meant.{tid_number}
use Rattle.protocol.specs.Words.{sub_of}
use Rattle.post_box.specs.declared.head.SubHead.{SubHead}
use Rattle.post_box.specs.declared.kept.SubRest.{SubRest}
use Rattle.post_box.proofs.ByKey.{length-map_same}
use Rattle.post_box.proofs.Machine.{asks_sub, told_of_sub}
use Rattle.post_box.proofs.post.Post.sub_head.Goals as goal

pub returns-in_err-rest-clause-epoch : goal.returns-in_err-rest-clause-epoch
returns-in_err-rest-clause-epoch g c =
    ap (option_map (λ (h : SubHead). h.epoch)) c.from_residual.ensures
    ∙ ap (option_map (λ (r : SubRest). r.epoch)) c.in_err-rest.ensures
    ∙ told_of_sub (λ m. m.epoch) _ c.args.bid.0 c.args.a.0 (asks_sub (record { bid = c.args.bid; actor = c.args.a })) c.self.inside.subs.entries
    ∙ ap (λ v. option_map (λ m. m.epoch) (sub_of c.args.bid.0 c.args.a.0 v.messages.subs)) c.self.view_is

pub returns-clause-epoch : goal.returns-clause-epoch
returns-clause-epoch g c =
    ap (λ h. Some h.epoch) c.head.ensures
    ∙ ap (option_map (λ (r : SubRest). r.epoch)) c.in_ok-rest.ensures
    ∙ told_of_sub (λ m. m.epoch) _ c.args.bid.0 c.args.a.0 (asks_sub (record { bid = c.args.bid; actor = c.args.a })) c.self.inside.subs.entries
    ∙ ap (λ v. option_map (λ m. m.epoch) (sub_of c.args.bid.0 c.args.a.0 v.messages.subs)) c.self.view_is

pub returns-in_err-rest-clause-prev : goal.returns-in_err-rest-clause-prev
returns-in_err-rest-clause-prev g c =
    ap (option_map (λ (h : SubHead). h.prev.0)) c.from_residual.ensures
    ∙ ap (option_map (λ (r : SubRest). r.prev.0)) c.in_err-rest.ensures
    ∙ told_of_sub (λ m. m.prev) _ c.args.bid.0 c.args.a.0 (asks_sub (record { bid = c.args.bid; actor = c.args.a })) c.self.inside.subs.entries
    ∙ ap (λ v. option_map (λ m. m.prev) (sub_of c.args.bid.0 c.args.a.0 v.messages.subs)) c.self.view_is

pub returns-clause-prev : goal.returns-clause-prev
returns-clause-prev g c =
    ap (λ h. Some h.prev.0) c.head.ensures
    ∙ ap (option_map (λ (r : SubRest). r.prev.0)) c.in_ok-rest.ensures
    ∙ told_of_sub (λ m. m.prev) _ c.args.bid.0 c.args.a.0 (asks_sub (record { bid = c.args.bid; actor = c.args.a })) c.self.inside.subs.entries
    ∙ ap (λ v. option_map (λ m. m.prev) (sub_of c.args.bid.0 c.args.a.0 v.messages.subs)) c.self.view_is

pub returns-in_err-rest-clause-tids : goal.returns-in_err-rest-clause-tids
returns-in_err-rest-clause-tids g c =
    ap (option_map (λ (h : SubHead). h.tids)) c.from_residual.ensures
    ∙ ap (option_map (λ (r : SubRest). length (map tid_number r.tids))) c.in_err-rest.ensures
    ∙ told_of_sub (λ m. length m.tids) _ c.args.bid.0 c.args.a.0 (asks_sub (record { bid = c.args.bid; actor = c.args.a })) c.self.inside.subs.entries
    ∙ ap (λ v. option_map (λ m. length m.tids) (sub_of c.args.bid.0 c.args.a.0 v.messages.subs)) c.self.view_is

pub returns-clause-tids : goal.returns-clause-tids
returns-clause-tids g c =
    ap (λ h. Some h.tids) c.head.ensures ∙ ap Some (sym (length-map_same tid_number c.in_ok-rest.rest.now.tids))
    ∙ ap (option_map (λ (r : SubRest). length (map tid_number r.tids))) c.in_ok-rest.ensures
    ∙ told_of_sub (λ m. length m.tids) _ c.args.bid.0 c.args.a.0 (asks_sub (record { bid = c.args.bid; actor = c.args.a })) c.self.inside.subs.entries
    ∙ ap (λ v. option_map (λ m. length m.tids) (sub_of c.args.bid.0 c.args.a.0 v.messages.subs)) c.self.view_is
