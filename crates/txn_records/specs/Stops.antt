-- Where bytes stop being the front of any text of a language.
use Rattle.std.specs.Prelude.{◌≡◌, ◌≢◌, ℕ, List, [], ◌++◌, length, take, ⊤}
use Rattle.txn_records.specs.declared.numbers.Stop.{Stop}
use Rattle.txn_records.specs.declared.numbers.Stop.TheVariants.{Left, Memory}

-- A text of the language begins with `front`, none goes on behind it as the bytes do, and the bytes are
-- none. So `left` of the bytes lie from the first one on at which no text goes on.
pub record Stops (F : List ℕ → Type 0) (bytes : List ℕ) (left : ℕ) : Type 0 where
  pub front : List ℕ
  pub behind : List ℕ
  pub parts : bytes ≡ front ++ behind
  pub left_is : length behind ≡ left
  pub goes : (f : List ℕ) × (rest : List ℕ) × F f × (f ≡ front ++ rest)
  pub stops : (f y : List ℕ) → F f → f ≡ front ++ (take 1 behind ++ y) → (behind ≡ []) × (y ≢ [])

-- anything
abbrev pub Any : List ℕ → Type 0
Any f = ⊤

-- nothing
abbrev pub Nil : List ℕ → Type 0
Nil f = f ≡ []

-- a thing, and behind it a text of a language that it chooses
abbrev pub Seq : {X : Type 0} → (X → Type 0) → (X → List ℕ) → (X → List ℕ → Type 0) → List ℕ → Type 0
Seq {X} Is spell G f = (x : X) × (g : List ℕ) × Is x × G x g × (f ≡ spell x ++ g)

-- why nothing was read
abbrev pub IsWhyUnread : (List ℕ → Type 0) → List ℕ → Stop → Type 0
IsWhyUnread F bytes (Left left) = Stops F bytes left
IsWhyUnread F bytes Memory = ⊤
