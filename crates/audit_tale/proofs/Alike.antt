-- What is known depends on the sets before ACTs by their greatest alone, and on who is given up and who gains from whom ACT by
-- ACT: their order does not matter.
use Rattle.std.specs.Prelude.{◌≡◌, refl, ℕ, ◌==◌, not, ◌&&◌, Option, is_some, option_map, List, [], ◌∷◌, filter}
use Rattle.std.proofs.Common.{arith, sym, ap, ◌∙◌}
use Rattle.snap_base.proofs.Lists.{weaker}
use Rattle.protocol.specs.Fixed.{Text}
use Rattle.protocol.specs.History.{sets_of}
use Rattle.protocol.specs.Parts.{Pair, OfAct}
use Rattle.protocol.specs.Rivals.{Lock}
use Rattle.protocol.specs.Words.{greatest}
use Rattle.audit_words.specs.Seen.{Doom, Seen, first_doom, has_its_place, is_live}
use Rattle.audit_tale.specs.Knows.{Knows, TellsAct, TellsBatch}
use Rattle.audit_tale.specs.Stands.{KnowsAll, Stands, TellsActor}
use Rattle.audit_tale.specs.declared.tales.ActTale.{ActTale}
use Rattle.audit_tale.specs.declared.told.ActorTale.{ActorTale}
use Rattle.audit_tale.specs.declared.told.Told.{Told}
use Rattle.audit_tale.proofs.Spreads.{greatest_join}

abbrev pub with_these : (ℕ → List ℕ) → List Doom → List Pair → Seen → Seen
with_these b ds gs s = record s { before = b; dooms = ds; gains = gs }

-- these tell the same
pub record AreAlike (b : ℕ → List ℕ) (ds : List Doom) (gs : List Pair) (s : Seen) : Type 0 where
  pub before : (u : ℕ) → greatest (b u) ≡ greatest (s.before u)
  pub dooms : (u : ℕ) → first_doom u ds ≡ first_doom u s.dooms
  pub gains : (u : ℕ) → filter (λ p. p.ahead == u) gs ≡ filter (λ p. p.ahead == u) s.gains

pub same_sets : (b c : ℕ → List ℕ) (xs : List Lock) → ((u : ℕ) → greatest (b u) ≡ greatest (c u)) → greatest (sets_of b xs) ≡ greatest (sets_of c xs)
same_sets b c [] e = refl
same_sets b c (x ∷ xs) e = omega (arith, greatest_join (b x.tid) (sets_of b xs), greatest_join (c x.tid) (sets_of c xs), e x.tid, same_sets b c xs e)

module _ (w : Text) (told : Told) (s : Seen) (b : ℕ → List ℕ) (ds : List Doom) (gs : List Pair) (same : AreAlike b ds gs s) where
  live_alike : (u : ℕ) → is_live (with_these b ds gs s) u ≡ is_live s u
  live_alike u = ap (λ (o : Option Doom). not (is_some o) && not (has_its_place (OfAct u) s.members)) (same.dooms u)

  act_alike : (x : ActTale) → TellsAct s x → TellsAct (with_these b ds gs s) x
  act_alike x h = record {
    before = h.before ∙ sym (same.before x.tid.0);
    behind = λ q. h.behind (sym (live_alike x.tid.0) ∙ q);
    given_up = h.given_up ∙ ap (λ (o : Option Doom). option_map (λ d. d.why) o) (sym (same.dooms x.tid.0));
    decided = h.decided;
  }

  actor_alike : (a : ℕ) (x : ActorTale) → TellsActor s a x → TellsActor (with_these b ds gs s) a x
  actor_alike a x h = record {
    entries = h.entries;
    placed = h.placed;
    ran = h.ran;
    kept = h.kept;
    last = h.last;
    floor = h.floor ∙ sym (same_sets b s.before (s.left_sealed a) same.before);
    write_floor = h.write_floor ∙ sym (same_sets b s.before (filter (λ l. not l.reader) (s.left_sealed a)) same.before);
  }

  pub alike_knows : Knows w told.tale s → Knows w told.tale (with_these b ds gs s)
  alike_knows h = record {
    ring = h.ring;
    batches = h.batches;
    marks = weaker (TellsBatch s) (TellsBatch (with_these b ds gs s)) told.tale.batches.items (λ x k. record { committed = k.committed; settled = k.settled }) h.marks;
    acts = h.acts;
    ends = weaker (TellsAct s) (TellsAct (with_these b ds gs s)) told.tale.acts.items act_alike h.ends;
    owners = h.owners;
    kept = h.kept;
    drawn = h.drawn;
    members = h.members;
    settled = h.settled;
    number = h.number;
  }

  pub alike_stands : Stands w told s → Stands w told (with_these b ds gs s)
  alike_stands h = record {
    count = h.count;
    actors = λ a x e. actor_alike a x (h.actors a x e);
    nobody = h.nobody;
    batches = h.batches;
    ways = λ i x e. let k = h.ways i x e in record { came = k.came; is_cut = k.is_cut; fall = k.fall };
    cuts = h.cuts;
    uncut = h.uncut;
    acts = h.acts;
    ties = λ i x y e f. let k = h.ties i x y e f in record { waiters = k.waiters ∙ sym (same.gains y.tid); left = k.left };
    going = λ i y e live. h.going i y e (sym (live_alike y.tid) ∙ live);
  }

  pub alike_known : KnowsAll w told s → KnowsAll w told (with_these b ds gs s)
  alike_known h = record { names = alike_knows h.names; stands = alike_stands h.stands }
