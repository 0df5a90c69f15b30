-- Moves on one actor, one after the other.
use Rattle.std.proofs.Common.{◌≡◌, ◌≢◌, ℕ, ◌-◌, ◌<◌, inl, inr, List, length, set, refl, sym, ap, ◌∙◌, subst, arith}
use Rattle.std.proofs.lemmas.List.{set-set}
use Rattle.snap_base.specs.declared.ids.ActorId.{ActorId}
use Rattle.snap_base.specs.declared.transactions.State.{State}
use Rattle.snap_base.specs.declared.transactions.TxResult.{TxResult}
use Rattle.snap_base.specs.declared.transactions.TxResult.TheVariants as result
use Rattle.aml_tree.specs.Tree.{CheckedMethod}
use Rattle.aml_check.specs.Meaning.{◌>>=◌}
use Rattle.aml_slice.specs.Controls.{Rest, IsRest, progress_in}
use Rattle.aml_slice.specs.Wholes.{Holds}
use Rattle.aml_slice.specs.Moments.{value_near, gives_near, elsewhere, EndsWith, CallsAway, ReturnsAway, GoesAway, HandsOn}
use Rattle.aml_slice.proofs.Moving.{Follows, GoesOn, Reaches}
use Rattle.aml_slice.proofs.Worlds.{same_state, holds_set}

pub no_move : (p : List CheckedMethod) (count : ℕ) (c : Rest) (s : State) → IsRest p count c → Reaches p count c s s c
no_move p count c s is = record {
  rest = is;
  actor = refl;
  tid = refl;
  fewer = omega arith;
  visited = λ a h. h;
  declares = λ us h. (us, h);
  rests = λ us h a on. on;
  goes = record { gives = λ o rise w h. ap (gives_near p o c) (sym (same_state w c.top.actor s h.state)); below = refl };
}

-- the world behind the moves so far
behind : (p : List CheckedMethod) (count : ℕ) (first : Rest) (s t : State) (c : Rest) → Reaches p count first s t c → (w : List State) → first.top.actor < count → Holds count first.top.actor s w → Holds count c.top.actor t (set w first.top.actor t)
behind p count first s t c r w known h =
    let P : ℕ → Type 0 = λ a. Holds count a t (set w first.top.actor t) in
    subst P (sym r.actor) (holds_set count first.top.actor s t w known h)

-- two states one after the other
last_state : (p : List CheckedMethod) (count : ℕ) (first : Rest) (s t : State) (c : Rest) → Reaches p count first s t c → (w : List State) (u : State) → set (set w first.top.actor t) c.top.actor u ≡ set w first.top.actor u
last_state p count first s t c r w u = ap (λ a. set (set w first.top.actor t) a u) r.actor ∙ set-set w first.top.actor t u

pub one_more : (p : List CheckedMethod) (count : ℕ) (first : Rest) (s t u : State) (c d : Rest) (a : ℕ) → first.top.actor < count → Reaches p count first s t c → Follows p count c d → d.top.actor ≡ a → a ≡ first.top.actor → (a ≡ c.top.actor → GoesOn p count c t u d) → Reaches p count first s u d
one_more p count first s t u c d a known r follows stands stays goes_on =
    let on = goes_on (stays ∙ sym r.actor) in
    record {
      rest = follows.rest;
      actor = stands ∙ stays;
      tid = follows.tid ∙ r.tid;
      fewer = omega (arith, follows.fewer, r.fewer);
      visited = λ b h. follows.visited b (r.visited b h);
      declares = λ us h. (let vs = r.declares us h in follows.declares vs.0 vs.1);
      rests = λ us h b at. (let vs = r.declares us h in r.rests us h b (follows.rests vs.0 vs.1 b at));
      goes = record {
        gives = λ o rise w h.
            r.goes.gives o rise w h
            ∙ on.gives o rise (set w first.top.actor t) (behind p count first s t c r w known h)
            ∙ ap (gives_near p o d) (last_state p count first s t c r w u);
        below = ap (λ b. elsewhere b d.waiting) (sym r.actor) ∙ on.below ∙ ap (λ b. elsewhere b c.waiting) r.actor ∙ r.goes.below;
      };
    }

pub ends_there : (p : List CheckedMethod) (count : ℕ) (first : Rest) (s t u : State) (c : Rest) (e : TxResult) → first.top.actor < count → Reaches p count first s t c → EndsWith p count c t u e → EndsWith p count first s u e
ends_there p count first s t u c (result.Value v) known r ends = λ o rise w h. (
    let last = ends o rise (set w first.top.actor t) (behind p count first s t c r w known h) in
    (last.0, r.goes.gives o rise w h ∙ last.1, last.2 ∙ last_state p count first s t c r w u))
ends_there p count first s t u c (result.Fail code) known r ends = λ o rise w h. r.goes.gives o rise w h ∙ ends o rise (set w first.top.actor t) (behind p count first s t c r w known h)

calls_there : (p : List CheckedMethod) (count : ℕ) (first : Rest) (s t u : State) (c d : Rest) → first.top.actor < count → Reaches p count first s t c → CallsAway p count c t u d → CallsAway p count first s u d
calls_there p count first s t u c d known r calls = record {
  begins = calls.begins;
  below = ap (λ b. elsewhere b d.waiting) (sym r.actor) ∙ calls.below ∙ ap (λ b. elsewhere b c.waiting) r.actor ∙ r.goes.below;
  gives = λ o rise w h.
      r.goes.gives o rise w h
      ∙ calls.gives o rise (set w first.top.actor t) (behind p count first s t c r w known h)
      ∙ ap (λ (z : List State). o.call (15 - length d.waiting) d.top.actor d.top.method d.top.standing.variables (progress_in d z) >>= λ x. value_near p c.top.actor o d.waiting x.0 x.1) (last_state p count first s t c r w u)
      ∙ ap (λ (b : ℕ). o.call (15 - length d.waiting) d.top.actor d.top.method d.top.standing.variables (progress_in d (set w first.top.actor u)) >>= λ x. value_near p b o d.waiting x.0 x.1) r.actor;
}

returns_there : (p : List CheckedMethod) (count : ℕ) (first : Rest) (s t u : State) (c d : Rest) → first.top.actor < count → Reaches p count first s t c → ReturnsAway p count c t u d → ReturnsAway p count first s u d
returns_there p count first s t u c d known r returns = record {
  value = returns.value;
  frame = returns.frame;
  waited = sym r.goes.below ∙ ap (λ b. elsewhere b c.waiting) (sym r.actor) ∙ returns.waited;
  takes = returns.takes;
  gives = λ o rise w h.
      r.goes.gives o rise w h
      ∙ returns.gives o rise (set w first.top.actor t) (behind p count first s t c r w known h)
      ∙ ap (λ (z : List State). o.back returns.value (progress_in d z)) (last_state p count first s t c r w u);
}

pub goes_there : (p : List CheckedMethod) (count : ℕ) (first : Rest) (s t u : State) (c d : Rest) → first.top.actor < count → Reaches p count first s t c → GoesAway p count c t u d → GoesAway p count first s u d
goes_there p count first s t u c d known r (inl calls) = inl (calls_there p count first s t u c d known r calls)
goes_there p count first s t u c d known r (inr returns) = inr (returns_there p count first s t u c d known r returns)

pub hands_on : (p : List CheckedMethod) (count : ℕ) (first : Rest) (s t : State) (c d : Rest) (b : ActorId) → Reaches p count first s t c → Follows p count c d → d.top.actor ≡ b.0 → b.0 ≢ first.top.actor → HandsOn p count first b d
hands_on p count first s t c d b r follows stands other = record {
  rest = follows.rest;
  at = stands;
  other = other;
  tid = follows.tid ∙ r.tid;
  fewer = omega (arith, follows.fewer, r.fewer);
  visited = λ a h. follows.visited a (r.visited a h);
  declares = λ us h. (let vs = r.declares us h in follows.declares vs.0 vs.1);
  rests = λ us h a on. (let vs = r.declares us h in r.rests us h a (follows.rests vs.0 vs.1 a on));
}
