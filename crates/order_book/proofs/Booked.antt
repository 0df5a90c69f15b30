-- What the calls make of the ACTs and of the places that are walked, over plain lists.
use Rattle.std.proofs.Common.{◌≡◌, ℕ, refl, ap, sym, ◌∙◌, subst, map, List, [], ◌∷◌, ◌++◌}
use Rattle.std.specs.Prelude.{◌==◌, nat_le, not, ◌&&◌, ◌||◌, Bool, true, false, Option, Some, unwrap_or, filter}
use Rattle.std.specs.List.{AllByRecursion}
use Rattle.std.proofs.lemmas.Bool.{false≢true}
use Rattle.snap_base.proofs.Booleans.{or_assoc, or_false}
use Rattle.protocol.specs.Rivals.{Lock}
use Rattle.protocol.specs.Parts.{Act, Pair, Status, Live, Doomed, Decided, Sealed}
use Rattle.protocol.specs.Words.{is_doomed, is_live_status, holds, act_of}
use Rattle.protocol.specs.Spread.{raised, reaches, crossed_out, doomed_by_order}
use Rattle.protocol.specs.Verdicts.{out_of_order, taken_along}
use Rattle.protocol.specs.OnBook.{change_if, changed_act, joins, lowered, cascaded, is_doomed_act, new_pairs}
use Rattle.order_book.specs.Kept.{forgotten}
use Rattle.order_book.specs.Changes.{changed_along, raised_along, taken_along_from}
use Rattle.order_book.specs.Walking.{is_behind, is_walked, is_walked_at, places_of}
use Rattle.order_book.proofs.Finding.{eqb_turned}
use Rattle.order_book.proofs.Walked.{walked_as, raised_walked, crossed_walked, taken_walked, places_same, places_raised, all_refl, kept, gives_up_rests}

-- ---- whose numbers cross is given up

pub crossed_acts : (pairs : List Pair) (a : ℕ) (acts new : List Act) (walked : List ℕ) → walked ≡ places_of (is_walked pairs) 0 acts → new ≡ changed_along walked (crossed_out a) acts → new ≡ doomed_by_order a acts
crossed_acts pairs a acts new walked was e = e ∙ (ap (λ (ats : List ℕ). changed_along ats (crossed_out a) acts) was ∙ crossed_walked pairs a acts)

pub crossed_left : (pairs : List Pair) (a : ℕ) (acts new : List Act) (walked left : List ℕ) → walked ≡ places_of (is_walked pairs) 0 acts → new ≡ doomed_by_order a acts → left ≡ filter (is_walked_at pairs new) walked → left ≡ places_of (is_walked pairs) 0 new
crossed_left pairs a acts new walked left was e told =
    kept pairs pairs (crossed_out a) acts new walked left (λ x h. gives_up_rests pairs x.tid x.status (reaches x.m x.n) (out_of_order x.m (unwrap_or x.n 0) a) h) was e told

-- ---- a batch behind some of them

pub lowered_walked : (pairs : List Pair) (k : ℕ) (ts : List ℕ) (acts new : List Act) (walked : List ℕ) → walked ≡ places_of (is_walked pairs) 0 acts → new ≡ map (lowered k ts) acts → walked ≡ places_of (is_walked pairs) 0 new
lowered_walked pairs k ts acts new walked was e =
    was ∙ (places_same (is_walked pairs) (is_walked pairs) (lowered k ts) 0 acts (all_refl (is_walked pairs) (is_walked pairs) (lowered k ts) (λ x. refl) acts)
    ∙ ap (λ (zs : List Act). places_of (is_walked pairs) 0 zs) (sym e))

-- ---- a cascade

forgets_taken : (k by : ℕ) (acts : List Act) → map forgotten (map (taken_along_from k by) acts) ≡ map (cascaded k by) acts
forgets_taken k by [] = refl
forgets_taken k by (x ∷ xs) = ap (λ (zs : List Act). cascaded k by x ∷ zs) (forgets_taken k by xs)

taken_acts : (pairs : List Pair) (k by : ℕ) (acts mid : List Act) (walked : List ℕ) → walked ≡ places_of (is_walked pairs) 0 acts → mid ≡ changed_along walked (taken_along_from k by) acts → mid ≡ map (taken_along_from k by) acts
taken_acts pairs k by acts mid walked was e = e ∙ (ap (λ (ats : List ℕ). changed_along ats (taken_along_from k by) acts) was ∙ taken_walked pairs k by acts)

pub cascaded_acts : (pairs : List Pair) (k by : ℕ) (acts mid new : List Act) (walked : List ℕ) → walked ≡ places_of (is_walked pairs) 0 acts → mid ≡ changed_along walked (taken_along_from k by) acts → new ≡ map forgotten mid → new ≡ map (cascaded k by) acts
cascaded_acts pairs k by acts mid new walked was e f = f ∙ (ap (λ (zs : List Act). map forgotten zs) (taken_acts pairs k by acts mid walked was e) ∙ forgets_taken k by acts)

pub cascaded_left : (pairs : List Pair) (k by : ℕ) (acts mid new : List Act) (walked left : List ℕ) → walked ≡ places_of (is_walked pairs) 0 acts → mid ≡ changed_along walked (taken_along_from k by) acts → new ≡ map forgotten mid
    → left ≡ filter (is_walked_at pairs mid) walked → left ≡ places_of (is_walked pairs) 0 new
cascaded_left pairs k by acts mid new walked left was e f told =
    kept pairs pairs (taken_along_from k by) acts mid walked left (λ x h. gives_up_rests pairs x.tid x.status (nat_le k x.m) (taken_along k by) h) was (taken_acts pairs k by acts mid walked was e) told
    ∙ (places_same (is_walked pairs) (is_walked pairs) forgotten 0 mid (all_refl (is_walked pairs) (is_walked pairs) forgotten (λ x. refl) mid)
    ∙ ap (λ (zs : List Act). places_of (is_walked pairs) 0 zs) (sym f))

-- ---- one joins an actor

behind_append : (ps qs : List Pair) (t : ℕ) → is_behind (ps ++ qs) t ≡ (is_behind ps t || is_behind qs t)
behind_append [] qs t = refl
behind_append (p ∷ ps) qs t = ap (λ (b : Bool). (p.behind == t) || b) (behind_append ps qs t) ∙ or_assoc (p.behind == t) (is_behind ps t) (is_behind qs t)

abbrev pub pair_of : ℕ → ℕ → Lock → Pair
pair_of t a x = record { behind = t; ahead = x.tid; actor = a }

others_behind : (t a u : ℕ) (group : List Lock) → (t == u) ≡ false → is_behind (map (pair_of t a) group) u ≡ false
others_behind t a u [] e = refl
others_behind t a u (x ∷ xs) e = ap (λ (b : Bool). b || is_behind (map (pair_of t a) xs) u) e ∙ others_behind t a u xs e

-- of another one nothing is said by the new pairs
behind_same : (pairs : List Pair) (t a u : ℕ) (group : List Lock) (all : List Act) → (u == t) ≡ false → is_behind (pairs ++ new_pairs t a group all) u ≡ is_behind pairs u
behind_same pairs t a u group all e =
    behind_append pairs (new_pairs t a group all) u
    ∙ (ap (λ (b : Bool). is_behind pairs u || b) (others_behind t a u (filter (λ (x : Lock). not (is_doomed_act all x)) group) (eqb_turned u t false e))
    ∙ or_false (is_behind pairs u))

undoomed_same : (ps qs : List Pair) (t : ℕ) (st : Status) → not (is_doomed st) ≡ true → walked_as ps t st ≡ walked_as qs t st
undoomed_same ps qs t Live e = refl
undoomed_same ps qs t (Doomed why) e = absurd (false≢true e)
undoomed_same ps qs t (Decided c) e = refl
undoomed_same ps qs t (Sealed c) e = refl

joins_walked : (pairs : List Pair) (a m : ℕ) (b : Bool) (x : Act) → is_walked pairs x ≡ is_walked pairs (change_if b (joins a m) x)
joins_walked pairs a m true x = refl
joins_walked pairs a m false x = refl

walked_later : (pairs : List Pair) (t a : ℕ) (group : List Lock) (all : List Act) (x : Act) → holds (λ (y : Act). not (is_doomed y.status)) (act_of t all) ≡ true → ((x.tid == t) ≡ true → act_of t all ≡ Some x)
    → (b : Bool) → (x.tid == t) ≡ b → is_walked pairs x ≡ is_walked (pairs ++ new_pairs t a group all) x
walked_later pairs t a group all x live only true e =
    undoomed_same pairs (pairs ++ new_pairs t a group all) x.tid x.status (subst (λ (o : Option Act). holds (λ (y : Act). not (is_doomed y.status)) o ≡ true) (only e) live)
walked_later pairs t a group all x live only false e =
    ap (λ (b : Bool). is_live_status x.status || (is_doomed x.status && b)) (sym (behind_same pairs t a x.tid group all e))

all_walked_later : (pairs : List Pair) (t a m : ℕ) (group : List Lock) (all : List Act) → holds (λ (y : Act). not (is_doomed y.status)) (act_of t all) ≡ true
    → (acts : List Act) → AllByRecursion (λ (x : Act). (x.tid == t) ≡ true → act_of t all ≡ Some x) acts
    → AllByRecursion (λ (x : Act). is_walked pairs x ≡ is_walked (pairs ++ new_pairs t a group all) (change_if (x.tid == t) (joins a m) x)) acts
all_walked_later pairs t a m group all live [] only = tt
all_walked_later pairs t a m group all live (x ∷ xs) only = (
  walked_later pairs t a group all x live only.0 (x.tid == t) refl ∙ joins_walked (pairs ++ new_pairs t a group all) a m (x.tid == t) x,
  all_walked_later pairs t a m group all live xs only.1,
)

pub joined_walked : (pairs later : List Pair) (t a m : ℕ) (group : List Lock) (acts new : List Act) (walked : List ℕ) → holds (λ (y : Act). not (is_doomed y.status)) (act_of t acts) ≡ true
    → AllByRecursion (λ (x : Act). (x.tid == t) ≡ true → act_of t acts ≡ Some x) acts → walked ≡ places_of (is_walked pairs) 0 acts → later ≡ pairs ++ new_pairs t a group acts → new ≡ changed_act t (joins a m) acts
    → walked ≡ places_of (is_walked later) 0 new
joined_walked pairs later t a m group acts new walked live only was p e =
    was ∙ (places_same (is_walked pairs) (is_walked (pairs ++ new_pairs t a group acts)) (λ (x : Act). change_if (x.tid == t) (joins a m) x) 0 acts (all_walked_later pairs t a m group acts live acts only)
    ∙ (ap (λ (ps : List Pair). places_of (is_walked ps) 0 (changed_act t (joins a m) acts)) (sym p)
    ∙ ap (λ (zs : List Act). places_of (is_walked later) 0 zs) (sym e)))

raised_acts : (pairs : List Pair) (acts : List Act) (walked : List ℕ) → walked ≡ places_of (is_walked pairs) 0 acts → raised_along pairs walked acts ≡ raised pairs acts
raised_acts pairs acts walked was = ap (λ (ats : List ℕ). raised_along pairs ats acts) was ∙ raised_walked pairs acts

pub spread_acts : (pairs : List Pair) (a : ℕ) (acts new : List Act) (walked : List ℕ) → walked ≡ places_of (is_walked pairs) 0 acts → new ≡ changed_along walked (crossed_out a) (raised_along pairs walked acts) → new ≡ doomed_by_order a (raised pairs acts)
spread_acts pairs a acts new walked was e =
    crossed_acts pairs a (raised pairs acts) new walked (was ∙ places_raised pairs pairs 0 acts) (e ∙ ap (λ (zs : List Act). changed_along walked (crossed_out a) zs) (raised_acts pairs acts walked was))

pub spread_left : (pairs : List Pair) (a : ℕ) (acts new : List Act) (walked left : List ℕ) → walked ≡ places_of (is_walked pairs) 0 acts → new ≡ doomed_by_order a (raised pairs acts) → left ≡ filter (is_walked_at pairs new) walked → left ≡ places_of (is_walked pairs) 0 new
spread_left pairs a acts new walked left was e told = crossed_left pairs a (raised pairs acts) new walked left (was ∙ places_raised pairs pairs 0 acts) e told
