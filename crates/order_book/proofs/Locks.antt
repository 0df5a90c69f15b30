-- What an ACT meets on an actor, by the tids of the locks alone.
use Rattle.std.proofs.Common.{◌≡◌, ℕ, refl, ap, ◌∙◌, length, map, List, [], ◌∷◌, ◌++◌}
use Rattle.std.specs.Prelude.{◌==◌, Bool, true, false, nat_lt, not, if◌then◌else◌, Option, Some, None, filter}
use Rattle.std.proofs.lemmas.Bool.{true≢false}
use Rattle.snap_base.specs.declared.ids.Tid.{Tid}
use Rattle.protocol.specs.Rivals.{Lock}
use Rattle.protocol.specs.Parts.{Act, Pair, Book}
use Rattle.protocol.specs.Words.{least_of, least_older}
use Rattle.protocol.specs.Spread.{raised, doomed_by_order}
use Rattle.protocol.specs.OnBook.{changed_act, joins, is_doomed_act, new_pairs, act_asked}
use Rattle.order_book.specs.declared.answer.Answer.TheVariants.{Wait}
use Rattle.order_book.specs.Asked.{AreLocksOf, locks_of, free_or_wait}

-- the same locks, as of ACTs that write
abbrev pub writer : ℕ → Lock
writer t = record { tid = t; reader = false }

abbrev pub writers : List Lock → List Lock
writers locks = map writer (map (λ (x : Lock). x.tid) locks)

-- ---- the oldest of them

older_of_writers : (t : ℕ) (locks : List Lock) → least_older t locks ≡ least_older t (writers locks)
older_of_writers t [] = refl
older_of_writers t (x ∷ xs) = ap (λ (o : Option ℕ). if nat_lt x.tid t then Some (least_of x.tid o) else o) (older_of_writers t xs)

pub older_of_tids : (t : ℕ) (tids : List Tid) (locks : List Lock) → AreLocksOf tids locks → least_older t locks ≡ least_older t (locks_of tids)
older_of_tids t tids locks e = older_of_writers t locks ∙ ap (λ (ns : List ℕ). least_older t (map writer ns)) e

pub some_wait : (rivals : List Tid) → (length rivals == 0) ≡ false → Wait ≡ free_or_wait rivals
some_wait [] e = absurd (true≢false e)
some_wait (t ∷ ts) e = refl

-- ---- the pairs with them

abbrev pub pair_with : ℕ → ℕ → Lock → Pair
pair_with t a x = record { behind = t; ahead = x.tid; actor = a }

pairs_if : (t a : ℕ) (b : Bool) (x : Lock) (xs ys : List Lock) → map (pair_with t a) xs ≡ map (pair_with t a) ys → map (pair_with t a) (if b then x ∷ xs else xs) ≡ map (pair_with t a) (if b then writer x.tid ∷ ys else ys)
pairs_if t a true x xs ys e = ap (λ (ps : List Pair). pair_with t a x ∷ ps) e
pairs_if t a false x xs ys e = e

pairs_of_writers : (t a : ℕ) (acts : List Act) (locks : List Lock) → new_pairs t a locks acts ≡ new_pairs t a (writers locks) acts
pairs_of_writers t a acts [] = refl
pairs_of_writers t a acts (x ∷ xs) =
    pairs_if t a (not (is_doomed_act acts x)) x (filter (λ (y : Lock). not (is_doomed_act acts y)) xs) (filter (λ (y : Lock). not (is_doomed_act acts y)) (writers xs)) (pairs_of_writers t a acts xs)

pairs_of_tids : (t a : ℕ) (acts : List Act) (tids : List Tid) (locks : List Lock) → AreLocksOf tids locks → new_pairs t a locks acts ≡ new_pairs t a (locks_of tids) acts
pairs_of_tids t a acts tids locks e = pairs_of_writers t a acts locks ∙ ap (λ (ns : List ℕ). new_pairs t a (map writer ns) acts) e

-- ---- what the book is once the ACT has its place

pub placed_by_tids : (t a m : ℕ) (b : Book) (tids : List Tid) (locks : List Lock) → AreLocksOf tids locks → act_asked None locks t a m b ≡ act_asked None (locks_of tids) t a m b
placed_by_tids t a m b tids locks e =
    ap (λ (made : List Pair). record b { acts = doomed_by_order a (raised (b.pairs ++ made) (changed_act t (joins a m) b.acts)); pairs = b.pairs ++ made })
    (pairs_of_tids t a b.acts tids locks e)
