-- Only private contracts cite this; the rules are Names.antt and Faults.antt.
-- What checking a part of a program gives: the part with its names resolved where it has no fault, and
-- else its first fault.
use Rattle.std.specs.Prelude.{◌≡◌, ℕ, ◌+◌, ◌≤◌, Bool, Result, Ok, Err, List, [], ◌∷◌, length, take, map, ⊤}
use Rattle.std.specs.List.{flat_map}
use Rattle.aml_tokens.specs.declared.tokens.Word.{Word}
use Rattle.aml_tree.specs.declared.trees.Link.{Link}
use Rattle.aml_tree.specs.declared.trees.Statement.{Statement}
use Rattle.aml_tree.specs.Tree.{Expr, Code, Onto, TextMethod, statement_tree}
use Rattle.aml_tree.specs.Limits.{lets}
use Rattle.aml_check.specs.Names.{method_names}
use Rattle.aml_resolver.specs.Names.{checked_expression, checked_block}
use Rattle.aml_resolver.specs.Faults.{faults, block_faults}
use Rattle.aml_resolver.specs.declared.faults.CheckFault.{CheckFault}
use Rattle.aml_resolver.specs.declared.faults.CheckNo.{CheckNo}
use Rattle.aml_resolver.specs.declared.faults.CheckNo.TheVariants.{Fault, Memory}

-- the first of these faults
abbrev pub IsFirstFaultOf : List CheckFault → CheckFault → Type 0
IsFirstFaultOf faults f = (more : List CheckFault) × (faults ≡ f ∷ more)

abbrev pub Refuses : List CheckFault → CheckNo → Type 0
Refuses faults (Fault f) = IsFirstFaultOf faults f
Refuses faults Memory = ⊤

-- the view of what is given is this
abbrev pub Resolves : {T A : Type 0} → (T → A) → List CheckFault → A → Result T CheckNo → Type 0
Resolves view faults resolved (Ok c) = (faults ≡ []) × (view c ≡ resolved)
Resolves view faults resolved (Err e) = Refuses faults e

-- what only asks for faults
abbrev pub Passes : {T : Type 0} → List CheckFault → Result T CheckNo → Type 0
Passes faults (Ok c) = faults ≡ []
Passes faults (Err e) = Refuses faults e

-- operators with their operands
abbrev pub links_faults : List (List ℕ) → List (Link (Expr Word)) → List CheckFault
links_faults names ls = flat_map (λ (l : Link (Expr Word)). faults names l.operand) ls

abbrev pub checked_links : List (List ℕ) → List (Link (Expr Word)) → List (Link (Expr ℕ))
checked_links names ls = map (λ (l : Link (Expr Word)). record { operator = l.operator; operand = checked_expression names l.operand }) ls

-- ---- statements, each as what it makes of the rest of its block

-- A statement without a fault, in a method that promises only to read or does not, and the same with its
-- names resolved: behind it the next names are
-- visible, the old ones first, and no more are new than the statement declares.
pub record Continues (p : List TextMethod) (is_read : Bool) (names next : List (List ℕ)) (statement : Onto Word Word) (resolved : Onto ℕ ℕ) : Type 0 where
  pub faultless : (rest : Code Word Word) → block_faults p is_read names (statement rest) ≡ block_faults p is_read next rest
  pub placed : (rest : Code Word Word) → resolved (checked_block (method_names p) next rest) ≡ checked_block (method_names p) names (statement rest)
  pub kept : take (length names) next ≡ names
  pub room : (rest : Code Word Word) → length next + lets rest ≤ length names + lets (statement rest)

abbrev pub StepsTo : List TextMethod → Bool → List (List ℕ) → List (List ℕ) → Onto Word Word → Result (Statement ℕ ℕ) CheckNo → Type 0
StepsTo p is_read names next statement (Ok c) = Continues p is_read names next statement (statement_tree c)
StepsTo p is_read names next statement (Err e) = (rest : Code Word Word) → Refuses (block_faults p is_read names (statement rest)) e
