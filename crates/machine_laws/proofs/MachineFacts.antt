-- The facts that the machine uses, from what the sliced executor promises of beginnings and slices.
use Rattle.std.proofs.Common.{◌≡◌, ℕ, ◌<◌, inl, true, Some, unwrap_or, List, set, refl, ◌∙◌, subst, arith}
use Rattle.std.specs.Prelude.{IsTrue}
use Rattle.protocol.specs.Meant.{next_meant}
use Rattle.snap_base.specs.declared.ids.ActorId.{ActorId}
use Rattle.snap_base.specs.declared.ids.Tid.{Tid}
use Rattle.snap_base.specs.declared.transactions.Kind.{Kind}
use Rattle.snap_base.specs.declared.transactions.Kind.TheVariants.{Pact, Act}
use Rattle.snap_base.specs.declared.transactions.State.{State}
use Rattle.snap_base.specs.declared.transactions.Tx.{Tx}
use Rattle.aml_tree.specs.Tree.{CheckedMethod}
use Rattle.aml_check.specs.Meaning.{state_at, declaration, used}
use Rattle.aml_check.specs.Transactions.{IsTransaction}
use Rattle.snap_base.specs.declared.next.Next as slices
use Rattle.snap_base.specs.declared.next.Next.TheVariants as slice
use Rattle.aml_check.specs.Names.{method_at}
use Rattle.aml_slice.specs.Controls.{Rest, IsRest}
use Rattle.aml_slice.specs.Readers.{AllReading, HandsOnReading}
use Rattle.aml_slice.specs.Slicing.{actor_id, slice_end, started, root_used}
use Rattle.aml_slice.specs.Wholes.{BeginsTransaction}
use Rattle.aml_slice.specs.Moments.{HandsOn, IsHandedOn}
use Rattle.aml_slice.specs.Finishing.{goes_on, after_slice, finished}
use Rattle.protocol.specs.Fixed.{Go, is_pact_kind, declared}
use Rattle.protocol.specs.Facts.{Facts, rest_of}
use Rattle.machine_laws.specs.MethodCode.{tid_of, method_code, IsRestOf, finish}
use Rattle.machine_laws.proofs.Askings.{rests_told, rests_tells, among_told, among_tells}
use Rattle.machine_laws.proofs.Naming.{only_named}

-- what the sliced executor promises
pub record Promises (p : List CheckedMethod) (count : ℕ) : Type 0 where
  pub begins : (tid : Tid) (tx : Tx) → IsTransaction p count tx → BeginsTransaction p tid tx (started tid tx)
  pub hands_on : (c : Rest) (s : State) → IsRest p count c → IsHandedOn p count c (slice_end p count c s).next
  pub begins_reading : (tid : Tid) (tx : Tx) → IsTrue (method_at p tx.method).is_read → AllReading p (started tid tx)
  pub leaves : (c : Rest) (s : State) → AllReading p c → (slice_end p count c s).state ≡ s
  pub hands_on_reading : (c : Rest) (s : State) → AllReading p c → HandsOnReading p (slice_end p count c s).next
  pub keeps : (c : Rest) (w : List State) → IsRest p count c → finished p count c w ≡ after_slice (finished p count) c w (slice_end p count c (state_at w c.top.actor))

-- a PACT has a declaration
pact_kind : (kind : Kind) → is_pact_kind kind ≡ true → kind ≡ Pact
pact_kind Pact h = refl
pact_kind Act h = absurd cc

declares_some : (kind : Kind) (uses : List (ActorId × ℕ)) (a : ℕ) → is_pact_kind kind ≡ true → (left : List (ActorId × ℕ)) × (root_used a (declaration kind uses) ≡ Some left)
declares_some Pact uses a h = (unwrap_or (used a uses) uses, refl)
declares_some Act uses a h = absurd cc

-- what goes to another actor was handed on
handed_by : (p : List CheckedMethod) (count : ℕ) (c : Rest) (b : ℕ) (d : Rest) (next : slices.Next Rest) → IsHandedOn p count c next → next_meant next ≡ Go b d → HandsOn p count c (actor_id b) d
handed_by p count c b d (slice.Go e f) on is =
    let there : e.0 ≡ b = cc in
    let same : f ≡ d = cc in
    let P : ℕ → Type 0 = λ z. HandsOn p count c (actor_id z) d in
    let Q : Rest → Type 0 = λ z. HandsOn p count c e z in
    subst P there (subst Q same on)
handed_by p count c b d (slice.Ended r) on is = absurd cc

handed : (p : List CheckedMethod) (count : ℕ) (tx : Tx) (c d : Rest) (s : State) (b : ℕ) → Promises p count → IsRestOf p count tx c → next_meant (slice_end p count c s).next ≡ Go b d → HandsOn p count c (actor_id b) d
handed p count tx c d s b promises is e = handed_by p count c b d (slice_end p count c s).next (promises.hands_on c s is.rest) e

-- of a transaction that only reads, so does what was handed on
reading_by : (p : List CheckedMethod) (b : ℕ) (d : Rest) (next : slices.Next Rest) → HandsOnReading p next → next_meant next ≡ Go b d → AllReading p d
reading_by p b d (slice.Go e f) on is =
    let same : f ≡ d = cc in
    subst (AllReading p) same on
reading_by p b d (slice.Ended r) on is = absurd cc

-- what becomes of a transaction behind a slice
finish_behind : (p : List CheckedMethod) (count : ℕ) (w : List State) (next : slices.Next Rest) → goes_on (finished p count) w next ≡ rest_of (finish p count) (next_meant next) w
finish_behind p count w (slice.Go b d) = refl
finish_behind p count w (slice.Ended r) = refl

pub machine_facts : (p : List CheckedMethod) (count : ℕ) → Promises p count → Facts count (method_code p count) (IsTransaction p count) (IsRestOf p count) (finish p count)
machine_facts p count promises = record {
  starts = λ t tx is. record { rest = (promises.begins (tid_of t) tx is).rest count is.actor; declares = λ pact. declares_some tx.kind tx.uses tx.actor.0 pact; reads = λ reader. promises.begins_reading (tid_of t) tx reader };
  stays = λ tx c d b x. (
      let is = x.of_it in
      let on = handed p count tx c d x.from b promises is x.goes in
      record {
        rest = on.rest;
        declares = λ pact. (let uses = is.declares pact in on.declares uses.0 uses.1);
        reads = λ reader. reading_by p b d (slice_end p count c x.from).next (promises.hands_on_reading c x.from (is.reads reader)) x.goes;
      });
  begins_at_root = λ t tx. refl;
  goes_elsewhere = λ tx c d b x. (
      let on = handed p count tx c d x.from b promises x.of_it x.goes in
      (on.at, on.other, subst (λ z. z < count) on.at on.rest.top.known));
  rests_where_it_stands = λ tx c pact is. rests_tells c c.top.actor (inl (inl refl));
  rests_on_declared = λ t tx a is pact on. among_tells a (declared tx) ((promises.begins (tid_of t) tx is).declared (pact_kind tx.kind pact) a (rests_told (started (tid_of t) tx) a on));
  rests_no_further = λ tx c d a b pact x rests. (
      let on = handed p count tx c d x.from b promises x.of_it x.goes in
      let uses = x.of_it.declares pact in
      rests_tells c a (on.rests uses.0 uses.1 a (rests_told d a rests)));
  stood_here = λ tx c is. among_tells c.top.actor c.actors is.rest.visited;
  stood_before = λ tx c d a b x stood. among_tells a d.actors ((handed p count tx c d x.from b promises x.of_it x.goes).visited a (among_told a c.actors stood));
  few_actors = λ tx c is. is.rest.actors;
  few_visits = λ t tx. omega arith;
  one_visit = λ tx c is. omega arith;
  visits_fall = λ tx c d b x. (let on = handed p count tx c d x.from b promises x.of_it x.goes in omega (arith, on.fewer));
  readers_leave = λ tx c s reader is. promises.leaves c s (is.reads reader);
  only_named_by_tid = λ t u tx w. only_named (tid_of t) p count (started (tid_of u) tx) w;
  slices_keep_the_meaning = λ tx c w is here.
      promises.keeps c w is.rest
      ∙ finish_behind p count (set w c.top.actor (slice_end p count c (state_at w c.top.actor)).state) (slice_end p count c (state_at w c.top.actor)).next;
}
