-- What goes on behind an inner block.
use Rattle.std.proofs.Common.{◌≡◌, ℕ, ◌≤◌, ℤ, Result, Ok, Err, List, [], ◌∷◌, length, refl}
use Rattle.aml_tree.specs.Tree.{Code}
use Rattle.aml_check.specs.Meaning.{◌>>=◌, Progress, Exit, Goes, Gives, Caller, block, behind}
use Rattle.aml_resume.specs.declared.places.Spot.{Spot}
use Rattle.aml_resume.specs.Places.{inner_of, behind_some, after_inner}
use Rattle.aml_resume.specs.Resuming.{AtLeast, keeping, resumed, Rises}
use Rattle.aml_resume.proofs.Rising.{Going, fewer, block_rises}

pub behind_keeping : (vs : List ℤ) (o : Result (Exit × Progress) ℕ) (next : Going) → behind vs o next ≡ keeping (length vs) o next
behind_keeping vs (Ok (Goes inner, r)) next = refl
behind_keeping vs (Ok (Gives v, r)) next = refl
behind_keeping vs (Err code) next = refl

pub keeping_after : (n : ℕ) (o : Result (ℤ × Progress) ℕ) (f : ℤ × Progress → Result (Exit × Progress) ℕ) (next : Going) → keeping n (o >>= f) next ≡ (o >>= λ x. keeping n (f x) next)
keeping_after n (Ok x) f next = refl
keeping_after n (Err code) f next = refl

-- what goes on is the same at each value that a call gives
pub same_after : {B : Type 0} (o : Result (ℤ × Progress) ℕ) (f g : ℤ × Progress → Result B ℕ) → ((v : ℤ) (q : Progress) → o ≡ Ok (v, q) → f (v, q) ≡ g (v, q)) → (o >>= f) ≡ (o >>= g)
same_after (Ok x) f g h = h x.0 x.1 refl
same_after (Err code) f g h = refl

keeping_rises : (m n : ℕ) (o : Result (Exit × Progress) ℕ) (next : Going) → AtLeast m o → ((ws : List ℤ) (q : Progress) → m ≤ q.statements → AtLeast m (next ws q)) → AtLeast m (keeping n o next)
keeping_rises m n (Ok (Goes inner, r)) next h on = on _ r h
keeping_rises m n (Ok (Gives v, r)) next h on = h
keeping_rises m n (Err code) next h on = tt

-- a block that goes on from a place takes no statements back
pub resumed_rises : (call : Caller) → Rises call → (own : ℕ) (b : Code ℕ ℕ) (qs : List Spot) (next : ℕ) (vs : List ℤ) (r : Progress) → AtLeast r.statements (resumed call own b qs next vs r)
resumed_rises call rises own b [] next vs r = block_rises call rises own (behind_some next b) vs r
resumed_rises call rises own b (q ∷ qs) next vs r =
    keeping_rises r.statements q.keep (resumed call own (inner_of q.other (behind_some q.at b)) qs next vs r) (block call own (after_inner (behind_some q.at b)))
    (resumed_rises call rises own (inner_of q.other (behind_some q.at b)) qs next vs r)
    (λ ws z l. fewer r.statements z.statements (block call own (after_inner (behind_some q.at b)) ws z) l (block_rises call rises own (after_inner (behind_some q.at b)) ws z))
