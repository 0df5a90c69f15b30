use Rattle.std.proofs.Common.{◌≡◌, ◌+◌, ℕ, List, ap, sym, ◌∙◌, arith, length, drop, length-drop}
use Rattle.std.specs.Prelude.{◌==◌, true, false}
use Rattle.std.specs.List.{position_or_len}
use Rattle.std.proofs.lemmas.List.{take_rest, length-map}
use Rattle.order_book.proofs.Finding.{rising_drop, position_small}
use Rattle.order_book.proofs.Carrying.{number_behind}
use Rattle.order_book.proofs.register.Register.number_of.Goals as goal

pub place_in-requires : goal.place_in-requires
place_in-requires c =
    rw (take_rest c.as_slice-tids.result.now (c.args.at + 1), c.as_slice-tids.ensures.value)
    (rising_drop (c.args.at + 1) c.self.inside.tids.items c.self.invariant.rising)

pub overflow_add-place : goal.overflow_add-place
overflow_add-place c =
    let tids : List ℕ = c.as_slice-tids.result.now in
    let r : c.place_in.result ≡ position_or_len (λ n. n == c.args.t.0) (drop (c.args.at + 1) tids) = c.place_in.ensures ∙ ap (λ (ns : List ℕ). position_or_len (λ n. n == c.args.t.0) ns) (take_rest tids (c.args.at + 1)) in
    omega (
      arith,
      r,
      position_small c.args.t.0 (drop (c.args.at + 1) tids),
      length-drop (c.args.at + 1) tids,
      ap length c.as_slice-tids.ensures.value,
      c.self.inside.tids.ok.0,
      c.self.inside.tids.small,
      c.requires,
      ap length c.self.view_is,
      ap length c.self.invariant.listed,
      length-map c.self.inside.acts (λ x. x.tid),
    )

pub returns-then-is_given_up : goal.returns-then-is_given_up
returns-then-is_given_up c =
    let tids : List ℕ = c.as_slice-tids.result.now in
    let r : c.place_in.result ≡ position_or_len (λ n. n == c.args.t.0) (drop (c.args.at + 1) tids) = c.place_in.ensures ∙ ap (λ (ns : List ℕ). position_or_len (λ n. n == c.args.t.0) ns) (take_rest tids (c.args.at + 1)) in
    rw (← c.self.view_is)
    (number_behind c.args.t.0 (c.args.at + 1) (c.args.at + 1 + c.place_in.result) c.self.inside.acts tids true (c.as_slice-tids.ensures.value ∙ c.self.invariant.listed)
    (ap (λ (k : ℕ). c.args.at + 1 + k) r) (sym c.if-is_given_up.true ∙ c.is_given_up.ensures))

pub returns-else-is_given_up : goal.returns-else-is_given_up
returns-else-is_given_up c =
    let tids : List ℕ = c.as_slice-tids.result.now in
    let r : c.place_in.result ≡ position_or_len (λ n. n == c.args.t.0) (drop (c.args.at + 1) tids) = c.place_in.ensures ∙ ap (λ (ns : List ℕ). position_or_len (λ n. n == c.args.t.0) ns) (take_rest tids (c.args.at + 1)) in
    rw (← c.self.view_is)
    (c.before-else-is_given_up.ensures
    ∙ number_behind c.args.t.0 (c.args.at + 1) (c.args.at + 1 + c.place_in.result) c.self.inside.acts tids false (c.as_slice-tids.ensures.value ∙ c.self.invariant.listed)
    (ap (λ (k : ℕ). c.args.at + 1 + k) r) (sym c.if-is_given_up.false ∙ c.is_given_up.ensures))
