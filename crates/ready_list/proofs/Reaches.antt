-- The kinds of which an event may refuse events tell which events it may refuse.
use Rattle.std.specs.Prelude.{◌≡◌, refl, ℕ, ◌==◌, Bool, true, false, ◌||◌, List}
use Rattle.std.proofs.Common.{ap, sym, ◌∙◌}
use Rattle.protocol.specs.Events.{Event, Submit, Pass, Form, Admit, Arrive, Ask, Take, Run, Send, End, Close, Complete, Sync, Note, Commit, Settle, Abort, Rollback, DropSub, DropControl, Prepare, Vouch, Decide, Seal, Finish, Reply, Trim}
use Rattle.protocol_ready.specs.Refusing.{may_refuse}
use Rattle.ready_list.specs.Order.{first_of}
use Rattle.ready_list.specs.Reaches.{is_reached, kinds_wholly, kinds_on_actor, actor_of, kinds_numbered}

or_false : (b : Bool) → (b || false) ≡ b
or_false true = refl
or_false false = refl

false_or : (b : Bool) → b ≡ (b || false)
false_or true = refl
false_or false = refl

pub told_by_kinds : (e f : Event) → may_refuse e f ≡ is_reached (kinds_wholly e) (kinds_on_actor e) (actor_of e) (kinds_numbered e) (first_of e) f
told_by_kinds (Submit n) (Reply m) = refl
told_by_kinds (Pass c) (Reply m) = refl
told_by_kinds (Form k) (Reply m) = refl
told_by_kinds (Admit t) (Reply m) = refl
told_by_kinds (Arrive k a) (Arrive j b) = false_or (a == b)
told_by_kinds (Arrive k a) (DropSub j b) = false_or (a == b)
told_by_kinds (Arrive k a) (Reply m) = refl
told_by_kinds (Ask t a) (Take u b) = or_false (t == u)
told_by_kinds (Take t a) (Take u b) = or_false (t == u)
told_by_kinds (Run t a) (Reply m) = refl
told_by_kinds (Send t a) (Reply m) = refl
told_by_kinds (End t a) (Vouch u b) = or_false (t == u)
told_by_kinds (End t a) (Decide u) = or_false (t == u)
told_by_kinds (End t a) (Reply m) = refl
told_by_kinds (Close t a) (Reply m) = refl
told_by_kinds (Complete k a) (Reply m) = refl
told_by_kinds (Sync l) (Reply m) = refl
told_by_kinds (Note k a) (Reply m) = refl
told_by_kinds (Commit k) (Reply m) = refl
told_by_kinds (Settle k) (Reply m) = refl
told_by_kinds (Abort k) (Reply m) = refl
told_by_kinds (Rollback a) (Arrive k b) = false_or (a == b)
told_by_kinds (Rollback a) (DropSub k b) = false_or (a == b)
told_by_kinds (Rollback a) (Complete k b) = false_or (a == b)
told_by_kinds (DropSub k a) (Arrive j b) = false_or (a == b)
told_by_kinds (DropSub k a) (DropSub j b) = false_or (a == b)
told_by_kinds (DropSub k a) (Reply m) = refl
told_by_kinds (DropControl t) (Take u b) = or_false (t == u)
told_by_kinds (Prepare t a) (Reply m) = refl
told_by_kinds (Vouch t a) (Reply m) = refl
told_by_kinds (Decide t) (Vouch u b) = or_false (t == u)
told_by_kinds (Decide t) (Decide u) = or_false (t == u)
told_by_kinds (Decide t) (Reply m) = refl
told_by_kinds (Seal t) (Vouch u b) = or_false (t == u)
told_by_kinds (Seal t) (Decide u) = or_false (t == u)
told_by_kinds (Seal t) (Reply m) = refl
told_by_kinds (Finish t a) (Reply m) = refl
told_by_kinds (Reply n) (Reply m) = refl
told_by_kinds (Trim k a) (Complete j b) = false_or (a == b)
told_by_kinds _ _ = refl

pub reached : (e f : Event) (wholly on_actor numbered : List ℕ) (actor number : ℕ)
    → wholly ≡ kinds_wholly e → on_actor ≡ kinds_on_actor e → actor ≡ actor_of e → numbered ≡ kinds_numbered e → number ≡ first_of e → may_refuse e f ≡ is_reached wholly on_actor actor numbered number f
reached e f wholly on_actor numbered actor number w o a n m =
    told_by_kinds e f
    ∙ ap (λ x. is_reached x (kinds_on_actor e) (actor_of e) (kinds_numbered e) (first_of e) f) (sym w)
    ∙ ap (λ x. is_reached wholly x (actor_of e) (kinds_numbered e) (first_of e) f) (sym o)
    ∙ ap (λ x. is_reached wholly on_actor x (kinds_numbered e) (first_of e) f) (sym a)
    ∙ ap (λ x. is_reached wholly on_actor actor x (first_of e) f) (sym n)
    ∙ ap (λ x. is_reached wholly on_actor actor numbered x f) (sym m)
