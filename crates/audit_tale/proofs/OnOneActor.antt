-- An event on one actor: what it changes there, and what is known of all else.
use Rattle.std.specs.Prelude.{◌≡◌, ◌≢◌, refl, ℕ, zero, suc, ◌+◌, ◌<◌, ◌≤◌, ◌==◌, not, Bool, true, false, Some, List, [], ◌∷◌, filter, length, map, slice_get, slice_set}
use Rattle.std.specs.List.{list_any}
use Rattle.std.proofs.Common.{arith, sym, ap, subst, ◌∙◌}
use Rattle.std.proofs.lemmas.Bool.{eqb-false, eqb-true}
use Rattle.std.proofs.lemmas.List.{length-set}
use Rattle.std.proofs.lemmas.Option.{slice_get_past}
use Rattle.snap_base.proofs.Lists.{get_other, weaker}
use Rattle.snap_base.proofs.Options.{none_is_some}
use Rattle.protocol.specs.Fixed.{Text}
use Rattle.protocol.specs.History.{sets_of}
use Rattle.protocol.specs.Parts.{Pair, Who}
use Rattle.protocol.specs.Rivals.{Lock}
use Rattle.protocol.specs.Words.{greatest, is_among}
use Rattle.audit_words.specs.Seen.{Begun, Seen}
use Rattle.audit_tale.specs.Knows.{Knows, TellsAct, TellsBatch, bid_number}
use Rattle.audit_tale.specs.Stands.{KnowsAll, TellsActor, TellsTies, TellsWay}
use Rattle.audit_tale.specs.declared.tales.Tale.{Tale}
use Rattle.audit_tale.specs.declared.told.ActTies.{ActTies}
use Rattle.audit_tale.specs.declared.told.ActorTale.{ActorTale}
use Rattle.audit_tale.specs.declared.told.BatchWay.{BatchWay}
use Rattle.audit_tale.specs.declared.told.Told.{Told}

-- what an event on an actor may change
pub record Change : Type 0 where
  pub ran : ℕ → List ℕ
  pub entries : ℕ → List Who
  pub kept : ℕ → List ℕ
  pub left_sealed : ℕ → List Lock
  pub gains : List Pair

abbrev pub changed : Change → Seen → Seen
changed c s = record s { ran = c.ran; entries = c.entries; kept = c.kept; left_sealed = c.left_sealed; gains = c.gains }

-- it changes nothing on any other actor
pub record IsOn (a : ℕ) (c : Change) (s : Seen) : Type 0 where
  pub ran : (i : ℕ) → i ≢ a → c.ran i ≡ s.ran i
  pub entries : (i : ℕ) → i ≢ a → c.entries i ≡ s.entries i
  pub kept : (i : ℕ) → i ≢ a → c.kept i ≡ s.kept i
  pub left_sealed : (i : ℕ) → i ≢ a → c.left_sealed i ≡ s.left_sealed i

-- the actor is another one, and all else that is told is left, but for who gains from whom
pub record SetsActor (a : ℕ) (y : ActorTale) (t new : Told) : Type 0 where
  pub tale : new.tale ≡ t.tale
  pub actors : new.actors.items ≡ slice_set t.actors.items a y
  pub ways : new.ways.items ≡ t.ways.items
  pub uncut : new.uncut.items ≡ t.uncut.items
  pub going : new.going.items ≡ t.going.items

pub set_here : {X : Type 0} (xs : List X) (i : ℕ) (y x : X) → slice_get (slice_set xs i y) i ≡ Some x → y ≡ x
set_here [] i y x e = absurd (cc e)
set_here (z ∷ xs) zero y x e = cc e
set_here (z ∷ xs) (suc i) y x e = set_here xs i y x e

names_kept : (w : Text) (t : Tale) (c : Change) (s : Seen) → Knows w t s → Knows w t (changed c s)
names_kept w t c s h = record {
  ring = h.ring;
  batches = h.batches;
  marks = weaker (TellsBatch s) (TellsBatch (changed c s)) t.batches.items (λ b m. record { committed = m.committed; settled = m.settled }) h.marks;
  acts = h.acts;
  ends = weaker (TellsAct s) (TellsAct (changed c s)) t.acts.items (λ x e. record { before = e.before; behind = e.behind; given_up = e.given_up; decided = e.decided }) h.ends;
  owners = h.owners;
  kept = h.kept;
  drawn = h.drawn;
  members = h.members;
  settled = h.settled;
  number = h.number;
}

other_kept : (a i : ℕ) (c : Change) (s : Seen) (x : ActorTale) → IsOn a c s → i ≢ a → TellsActor s i x → TellsActor (changed c s) i x
other_kept a i c s x on n h = record {
  entries = h.entries ∙ sym (on.entries i n);
  placed = h.placed;
  ran = h.ran ∙ sym (on.ran i n);
  kept = h.kept ∙ sym (on.kept i n);
  last = h.last ∙ ap greatest (sym (on.kept i n));
  floor = h.floor ∙ ap (λ (ls : List Lock). greatest (sets_of s.before ls)) (sym (on.left_sealed i n));
  write_floor = h.write_floor ∙ ap (λ (ls : List Lock). greatest (sets_of s.before (filter (λ l. not l.reader) ls))) (sym (on.left_sealed i n));
}

way_kept : (k : ℕ) (c : Change) (s : Seen) (x : BatchWay) → TellsWay s k x → TellsWay (changed c s) k x
way_kept k c s x h = record { came = h.came; is_cut = h.is_cut; fall = h.fall }

-- who gains from whom is as it was
pub ties_kept : (t : ℕ) (c : Change) (s : Seen) (x : ActTies) → c.gains ≡ s.gains → c.left_sealed ≡ s.left_sealed → TellsTies s t x → TellsTies (changed c s) t x
ties_kept t c s x g l h = record {
  waiters = h.waiters ∙ ap (λ (ps : List Pair). filter (λ p. p.ahead == t) ps) (sym g);
  left = λ a. h.left a ∙ ap (λ (f : ℕ → List Lock). list_any (λ l. l.tid == t) (f a)) (sym l);
}

-- the actor is known as it is now
pub on_actor_known : (w : Text) (a : ℕ) (y : ActorTale) (t new : Told) (c : Change) (s : Seen) → IsOn a c s → SetsActor a y t new → a < length t.actors.items → TellsActor (changed c s) a y
    → length new.ties.items ≡ length t.ties.items → ((i : ℕ) (x : ActTies) (b : Begun) → slice_get new.ties.items i ≡ Some x → slice_get s.acts i ≡ Some b → TellsTies (changed c s) b.tid x) → KnowsAll w t s → KnowsAll w new (changed c s)
on_actor_known w a y t new c s on sets l here many ties h = record {
  names = subst (λ (z : Tale). Knows w z (changed c s)) (sym sets.tale) (names_kept w t.tale c s h.names);
  stands = record {
    count = long ∙ h.stands.count;
    actors = λ i x e. at i x (i == a) refl e;
    nobody = λ i m. let old = h.stands.nobody i (omega (arith, m, long)) in (on.entries i (λ q. omega (arith, q, m, long, l)) ∙ old.0, old.1);
    batches = ap length sets.ways ∙ h.stands.batches;
    ways = λ i x e. way_kept (i + 1) c s x (h.stands.ways i x (ap (λ (xs : List BatchWay). slice_get xs i) (sym sets.ways) ∙ e));
    cuts = h.stands.cuts;
    uncut = ap (map bid_number) sets.uncut ∙ h.stands.uncut;
    acts = many ∙ h.stands.acts;
    ties = ties;
    going = λ i b e q. ap (is_among i) sets.going ∙ h.stands.going i b e q;
  };
}
  where
    long : length new.actors.items ≡ length t.actors.items
    long = ap length sets.actors ∙ length-set t.actors.items a y

    at : (i : ℕ) (x : ActorTale) (b : Bool) → (i == a) ≡ b → slice_get new.actors.items i ≡ Some x → TellsActor (changed c s) i x
    at i x true q e =
        let same : i ≡ a = eqb-true i a q in
        let is : y ≡ x = set_here t.actors.items a y x (ap (λ (xs : List ActorTale). slice_get xs a) (sym sets.actors) ∙ (ap (slice_get new.actors.items) (sym same) ∙ e)) in
        subst (λ (j : ℕ). TellsActor (changed c s) j x) (sym same) (subst (TellsActor (changed c s) a) is here)
    at i x false q e =
        let n : i ≢ a = eqb-false i a q in
        other_kept a i c s x on n (h.stands.actors i x (sym (get_other t.actors.items i a y (λ z. n (sym z))) ∙ (ap (λ (xs : List ActorTale). slice_get xs i) (sym sets.actors) ∙ e)))

-- where there is no such actor, nothing that is told changes
pub no_actor_known : (w : Text) (a : ℕ) (t : Told) (c : Change) (s : Seen) → IsOn a c s → length t.actors.items ≤ a → c.entries a ≡ [] → c.gains ≡ s.gains → c.left_sealed ≡ s.left_sealed → KnowsAll w t s → KnowsAll w t (changed c s)
no_actor_known w a t c s on l none g sealed h = record {
  names = names_kept w t.tale c s h.names;
  stands = record {
    count = h.stands.count;
    actors = λ i x e. other_kept a i c s x on (λ q. no_such t.actors.items i x (omega (arith, q, l)) e) (h.stands.actors i x e);
    nobody = λ i m. (empty i (i == a) refl m, (h.stands.nobody i m).1);
    batches = h.stands.batches;
    ways = λ i x e. way_kept (i + 1) c s x (h.stands.ways i x e);
    cuts = h.stands.cuts;
    uncut = h.stands.uncut;
    acts = h.stands.acts;
    ties = λ i x b e q. ties_kept b.tid c s x g sealed (h.stands.ties i x b e q);
    going = h.stands.going;
  };
}
  where
    no_such : (xs : List ActorTale) (i : ℕ) (x : ActorTale) → length xs ≤ i → slice_get xs i ≡ Some x → ⊥
    no_such xs i x m e = none_is_some x (sym (slice_get_past xs i m) ∙ e)

    empty : (i : ℕ) (b : Bool) → (i == a) ≡ b → length t.actors.items ≤ i → c.entries i ≡ []
    empty i true q m = ap c.entries (eqb-true i a q) ∙ none
    empty i false q m = on.entries i (eqb-false i a q) ∙ (h.stands.nobody i m).0
