-- Clauses are looked at one by one: where one holds, those behind it tell the rest.
use Rattle.std.specs.Prelude.{◌≡◌, ℕ, Option, Some, None, Result, Ok, Err, List, IfOk, MatchOption}
use Rattle.std.proofs.Common.{subst, sym, inr}
use Rattle.snap_base.specs.declared.memory.Memory.{Memory}
use Rattle.protocol.specs.Fixed.{Text}
use Rattle.audit_words.specs.Audited.{OrBehind}
use Rattle.audit_words.specs.Seen.{Seen}
use Rattle.audit_tale.specs.Stands.{IsSound, KnowsAll}
use Rattle.audit_tale.specs.declared.tales.MemberTale.{MemberTale}
use Rattle.audit_tale.specs.declared.told.ActorTale.{ActorTale}
use Rattle.audit_tale.specs.declared.told.Told.{Told}
use Rattle.trace_audit.specs.Risen.{TellsChains}
use Rattle.trace_audit.proofs.ChainsTold.{known_chains}

-- nothing is off
pub none_off : (A : Type 0) (B : ℕ → Type 0) (at : Option ℕ) → at ≡ None → MatchOption at A B → A
none_off A B at e h = subst (λ (z : Option ℕ). MatchOption z A B) e h

-- this place is off
pub some_off : (A : Type 0) (B : ℕ → Type 0) (at : Option ℕ) (i : ℕ) → at ≡ Some i → MatchOption at A B → B i
some_off A B at i e h = subst (λ (z : Option ℕ). MatchOption z A B) e h

-- a clause holds of all that is known, and this is told of those behind it
pub go_behind : (w : Text) (t : Told) (number : ℕ) (Holds : Seen → Type 0) (Off : Seen → ℕ → Type 0) (Rest : Seen → Type 0) (Behind : Seen → ℕ → ℕ → Type 0) (r : Result (Option (ℕ × ℕ)) Memory)
    → ((s : Seen) → KnowsAll w t s → Holds s) → IfOk r (λ off. (s : Seen) → IsSound s → KnowsAll w t s → MatchOption off (Rest s) (λ x. Behind s x.0 x.1))
    → IfOk r (λ off. (s : Seen) → IsSound s → KnowsAll w t s → MatchOption off (Holds s × Rest s) (λ x. OrBehind (Holds s) (Off s) number (Behind s) x.0 x.1))
go_behind w t number Holds Off Rest Behind (Ok None) holds rest = λ s sound known. (holds s known, rest s sound known)
go_behind w t number Holds Off Rest Behind (Ok (Some x)) holds rest = λ s sound known. inr (holds s known, rest s sound known)
go_behind w t number Holds Off Rest Behind (Err e) holds rest = tt

-- all that is known tells the chains, by the lists of its members and actors
pub told_chains : (w : Text) (t : Told) (s : Seen) (ms : List MemberTale) (xs : List ActorTale) → ms ≡ t.tale.members.items → xs ≡ t.actors.items → KnowsAll w t s → TellsChains s ms xs
told_chains w t s ms xs members actors known = subst (λ (z : List MemberTale). TellsChains s z xs) (sym members) (subst (λ (z : List ActorTale). TellsChains s t.tale.members.items z) (sym actors) (known_chains w t s known))
