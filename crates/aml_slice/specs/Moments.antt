-- When a slice ends: at the first moment at which its transaction calls or returns to another actor, or ends. The
-- rest of a transaction is seen as from the actor on which it stands, whatever other actors make of it: the
-- meaning in which calls of other actors, and values that are returned to them, are left open.
use Rattle.std.specs.Prelude.{◌≡◌, ◌≢◌, ℕ, zero, suc, ◌+◌, ◌-◌, ◌≤◌, ◌⊎◌, ◌==◌, if◌then◌else◌, ℤ, Result, Ok, Err, Some, List, [], ◌∷◌, length, slice_set, Contains, ⊤}
use Rattle.snap_base.specs.declared.ids.ActorId.{ActorId}
use Rattle.snap_base.specs.declared.transactions.State.{State}
use Rattle.snap_base.specs.declared.transactions.TxResult.{TxResult}
use Rattle.snap_base.specs.declared.transactions.TxResult.TheVariants as result
use Rattle.aml_tree.specs.Tree.{CheckedMethod}
use Rattle.aml_check.specs.Names.{method_at}
use Rattle.aml_check.specs.Meaning.{◌>>=◌, Progress, Caller, actor_of, admitted, too_deep, block, field_at, given, called}
use Rattle.snap_base.specs.declared.next.Next.{Next}
use Rattle.snap_base.specs.declared.next.Next.TheVariants.{Go, Ended}
use Rattle.aml_slice.specs.Controls.{Frame, Rest, IsRest, RestsOn, most_waiting, moves_left, progress_in, with_given}
use Rattle.aml_slice.specs.Wholes.{Callers, Holds, frame_gives, value_to}

-- ---- what the own actor sees

-- what a call of another actor gives that has been admitted, by how many more may be open; and what becomes
-- of a value that is returned to another actor
pub record Others : Type 0 where
  pub call : ℕ → ℕ → ℕ → List ℤ → Progress → Result (ℤ × Progress) ℕ
  pub back : ℤ → Progress → Result (ℤ × Progress) ℕ

-- others never take statements back
pub record Rise (o : Others) : Type 0 where
  pub call : (more a m : ℕ) (arguments : List ℤ) (r q : Progress) (v : ℤ) → o.call more a m arguments r ≡ Ok (v, q) → r.statements ≤ q.statements
  pub back : (x : ℤ) (r q : Progress) (v : ℤ) → o.back x r ≡ Ok (v, q) → r.statements ≤ q.statements

-- a call of the own actor runs its method, and another one is left to the others
abbrev pub by_actor : List CheckedMethod → ℕ → Others → Caller → ℕ → ℕ → ℕ → List ℤ → Progress → Result (ℤ × Progress) ℕ
by_actor p own o inside more a m arguments r =
    if a == own then given (block inside a (method_at p m).body arguments r) else o.call more a m arguments r

abbrev pub near : List CheckedMethod → ℕ → Others → Callers
near p own o zero target m arguments r = actor_of (length r.world) target >>= λ a. Err too_deep
near p own o (suc more) target m arguments r =
    actor_of (length r.world) target >>= λ a. admitted a r >>= λ r. by_actor p own o (near p own o more) more a m arguments r

-- what frames that wait on the own actor make of a value, up to the first that waits on another
abbrev pub value_near : List CheckedMethod → ℕ → Others → List Frame → ℤ → Progress → Result (ℤ × Progress) ℕ
value_near p own o [] v r = Ok (v, r)
value_near p own o (f ∷ fs) v r =
    if f.actor == own
    then (frame_gives (near p own o) p (length fs) (with_given f v) r >>= λ x. value_near p own o fs x.0 x.1)
    else o.back v r

abbrev pub gives_near : List CheckedMethod → Others → Rest → List State → Result (ℤ × Progress) ℕ
gives_near p o c w =
    frame_gives (near p c.top.actor o) p (length c.waiting) c.top (progress_in c w) >>= λ x. value_near p c.top.actor o c.waiting x.0 x.1

-- the frames that wait, from the first on that waits on another actor
abbrev pub elsewhere : ℕ → List Frame → List Frame
elsewhere own [] = []
elsewhere own (f ∷ fs) = if f.actor == own then elsewhere own fs else f ∷ fs

-- others as the meaning has them, where these frames wait elsewhere
abbrev pub as_meant : List CheckedMethod → List Frame → Others
as_meant p fs = record {
  call = λ more a m arguments r. given (block (called p more) a (method_at p m).body arguments r);
  back = value_to (called p) p fs;
}

-- ---- where a slice ends

-- a value or a code, whatever the world holds elsewhere
abbrev pub EndsWith : List CheckedMethod → ℕ → Rest → State → State → TxResult → Type 0
EndsWith p count c s t (result.Value v) =
    (o : Others) → Rise o → (w : List State) → Holds count c.top.actor s w
    → (q : Progress) × (gives_near p o c w ≡ Ok (v, q)) × (q.world ≡ slice_set w c.top.actor t)
EndsWith p count c s t (result.Fail code) =
    (o : Others) → Rise o → (w : List State) → Holds count c.top.actor s w → gives_near p o c w ≡ Err code

-- a call of another actor: its method stands at its beginning with the arguments, and the others wait
pub record CallsAway (p : List CheckedMethod) (count : ℕ) (c : Rest) (s t : State) (d : Rest) : Type 0 where
  pub begins : (d.top.standing.path ≡ []) × (d.top.standing.next ≡ 0)
  pub below : elsewhere c.top.actor d.waiting ≡ elsewhere c.top.actor c.waiting
  pub gives : (o : Others) → Rise o → (w : List State) → Holds count c.top.actor s w
      → gives_near p o c w
      ≡ (o.call (most_waiting - length d.waiting) d.top.actor d.top.method d.top.standing.variables (progress_in d (slice_set w c.top.actor t))
      >>= λ x. value_near p c.top.actor o d.waiting x.0 x.1)

-- a value for a frame that waits on another actor
pub record ReturnsAway (p : List CheckedMethod) (count : ℕ) (c : Rest) (s t : State) (d : Rest) : Type 0 where
  pub value : ℤ
  pub frame : Frame
  pub waited : elsewhere c.top.actor c.waiting ≡ frame ∷ d.waiting
  pub takes : d.top ≡ with_given frame value
  pub gives : (o : Others) → Rise o → (w : List State) → Holds count c.top.actor s w
      → gives_near p o c w ≡ o.back value (progress_in d (slice_set w c.top.actor t))

-- It ends at the first moment at which the transaction calls or returns to another actor.
abbrev pub GoesAway : List CheckedMethod → ℕ → Rest → State → State → Rest → Type 0
GoesAway p count c s t d = CallsAway p count c s t d ⊎ ReturnsAway p count c s t d

-- A slice ends at the first moment at which the transaction calls or returns to another actor, or ends: this
-- is what it does whatever other actors make of calls and values.
abbrev pub IsMoment : List CheckedMethod → ℕ → Rest → State → State → Next Rest → Type 0
IsMoment p count c s t (Go b d) = GoesAway p count c s t d
IsMoment p count c s t (Ended r) = EndsWith p count c s t r

-- ---- what a slice hands on

-- the rest of the same transaction, on another actor
pub record HandsOn (p : List CheckedMethod) (count : ℕ) (c : Rest) (b : ActorId) (d : Rest) : Type 0 where
  pub rest : IsRest p count d
  pub at : d.top.actor ≡ b.0
  pub other : b.0 ≢ c.top.actor
  pub tid : d.tid ≡ c.tid
  pub fewer : moves_left d + 1 ≤ moves_left c
  pub visited : (a : ℕ) → Contains c.actors a → Contains d.actors a
  -- a PACT stays one, and comes to stand only where it rested before
  pub declares : (us : List (ActorId × ℕ)) → c.left ≡ Some us → (vs : List (ActorId × ℕ)) × (d.left ≡ Some vs)
  pub rests : (us : List (ActorId × ℕ)) → c.left ≡ Some us → (a : ℕ) → RestsOn d a → RestsOn c a

abbrev pub IsHandedOn : List CheckedMethod → ℕ → Rest → Next Rest → Type 0
IsHandedOn p count c (Go b d) = HandsOn p count c b d
IsHandedOn p count c (Ended r) = ⊤

-- ---- two ends of one slice

-- to the same actor, or with the same result
abbrev pub IsSameEnd : Next Rest → Next Rest → Type 0
IsSameEnd (Go b d) (Go c e) = d.top.actor ≡ e.top.actor
IsSameEnd (Go b d) (Ended r) = ⊥
IsSameEnd (Ended r) (Go c e) = ⊥
IsSameEnd (Ended r) (Ended q) = r ≡ q

-- with the same state, where the transaction goes on or has a value
abbrev pub IsSameState : Next Rest → State → State → Type 0
IsSameState (Go b d) t u = (k : ℕ) → field_at t k ≡ field_at u k
IsSameState (Ended (result.Value v)) t u = (k : ℕ) → field_at t k ≡ field_at u k
IsSameState (Ended (result.Fail code)) t u = ⊤
