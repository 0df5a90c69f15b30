use Rattle.std.proofs.Common.{not, filter, ap, sym, ◌∙◌, subst}
use Rattle.std.specs.Map.{lookup}
use Rattle.std.specs.Option.{option_map}
use Rattle.post_box.specs.Order.{IsNumbered}
use Rattle.post_box.specs.Kept.{entry_number, in_posting_order}
use Rattle.post_box.proofs.ByKey.{found, taken, taken_numbered}
use Rattle.post_box.proofs.posted.Posted.take.Goals as goal

pub returns-in_err-numbered-clause-value : goal.returns-in_err-numbered-clause-value
returns-in_err-numbered-clause-value g c =
    c.from_residual.ensures ∙ ap (option_map (λ v. v.message)) c.in_err-numbered.ensures.value
    ∙ sym (found g.met.K.Eq.laws c.args.key.now c.self.inside.next c.self.inside.messages.entries c.self.invariant.0 c.self.invariant.1)
    ∙ ap (λ v. lookup (g.K.PartialEq.eq c.args.key.now) v.entries) c.self.view_is

pub returns-in_err-numbered-clause-entries : goal.returns-in_err-numbered-clause-entries
returns-in_err-numbered-clause-entries g c =
    ap (in_posting_order c.self.inside.next) c.in_err-numbered.ensures.entries
    ∙ taken g.met.K.Eq.laws c.args.key.now c.self.inside.next c.self.inside.messages.entries c.self.invariant.0 c.self.invariant.1
    ∙ ap (λ v. filter (λ entry. not (g.K.PartialEq.eq c.args.key.now entry.0)) v.entries) c.self.view_is

pub invariant_of-self-2 : goal.invariant_of-self-2
invariant_of-self-2 g c = (
  c.in_ok-numbered.ensures.unique,
  subst (IsNumbered entry_number c.self.inside.next) (sym c.in_ok-numbered.ensures.entries)
      (taken_numbered g.met.K.Eq.laws c.args.key.now c.self.inside.next c.self.inside.messages.entries c.self.invariant.0 c.self.invariant.1),
)

pub returns-clause-value : goal.returns-clause-value
returns-clause-value g c =
    ap (option_map (λ v. v.message)) c.in_ok-numbered.ensures.value
    ∙ sym (found g.met.K.Eq.laws c.args.key.now c.self.inside.next c.self.inside.messages.entries c.self.invariant.0 c.self.invariant.1)
    ∙ ap (λ v. lookup (g.K.PartialEq.eq c.args.key.now) v.entries) c.self.view_is

pub returns-clause-entries : goal.returns-clause-entries
returns-clause-entries g c =
    ap (in_posting_order c.self.inside.next) c.in_ok-numbered.ensures.entries
    ∙ taken g.met.K.Eq.laws c.args.key.now c.self.inside.next c.self.inside.messages.entries c.self.invariant.0 c.self.invariant.1
    ∙ ap (λ v. filter (λ entry. not (g.K.PartialEq.eq c.args.key.now entry.0)) v.entries) c.self.view_is
