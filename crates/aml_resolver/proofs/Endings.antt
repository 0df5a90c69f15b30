-- A block ends as its last statement does, and its last line is its closing brace's.
use Rattle.std.proofs.Common.{◌≡◌, ℕ, ◌+◌, Bool, List, [], ◌∷◌, length, take, drop, get_or, refl, ap, ◌∙◌, arith}
use Rattle.std.proofs.lemmas.List.{drop_all}
use Rattle.aml_tokens.specs.declared.tokens.Word.{Word}
use Rattle.aml_tree.specs.declared.trees.Statement.{Statement}
use Rattle.aml_tree.specs.declared.trees.Statement.TheOpen.{Statement-F}
use Rattle.aml_tree.specs.Tree.{Code, End, Onto, statement_step, statement_tree, statements_tree}
use Rattle.aml_check.specs.Closed.{if_last, ends}
use Rattle.aml_resolver.specs.Faults.{last_line}
use Rattle.aml_tree.specs.TreeRules.{layer}
use Rattle.aml_resolver.proofs.StatementSteps.{split_at}

-- the rest of a block that has a statement
abbrev GoesOn : Code Word Word → Type 0
GoesOn rest = (a b : Bool) → if_last rest a b ≡ b

goes_step : (x : Statement-F Word Word (Onto Word Word)) (rest : Code Word Word) → GoesOn (statement_step x rest)
goes_step (Statement-F.Let line v value) rest a b = refl
goes_step (Statement-F.Call line v target m arguments) rest a b = refl
goes_step (Statement-F.Set v value) rest a b = refl
goes_step (Statement-F.SetField line k value) rest a b = refl
goes_step (Statement-F.If condition first) rest a b = refl
goes_step (Statement-F.IfElse condition first other) rest a b = refl
goes_step (Statement-F.While condition body) rest a b = refl
goes_step (Statement-F.Fail code) rest a b = refl
goes_step (Statement-F.Return value) rest a b = refl

goes_on : (s : Statement Word Word) (rest : Code Word Word) → GoesOn (statement_tree s rest)
goes_on s rest = let l = layer s in rw l.1 (goes_step l.0 rest)

ends_step : (x : Statement-F Word Word (Onto Word Word)) (rest : Code Word Word) → GoesOn rest → ends (statement_step x rest) ≡ ends rest
ends_step (Statement-F.Let line v value) rest goes = refl
ends_step (Statement-F.Call line v target m arguments) rest goes = refl
ends_step (Statement-F.Set v value) rest goes = refl
ends_step (Statement-F.SetField line k value) rest goes = refl
ends_step (Statement-F.If condition first) rest goes = refl
ends_step (Statement-F.IfElse condition first other) rest goes = goes _ (ends rest)
ends_step (Statement-F.While condition body) rest goes = refl
ends_step (Statement-F.Fail code) rest goes = goes _ (ends rest)
ends_step (Statement-F.Return value) rest goes = goes _ (ends rest)

ends_onto : (s : Statement Word Word) (rest : Code Word Word) → GoesOn rest → ends (statement_tree s rest) ≡ ends rest
ends_onto s rest goes = let l = layer s in rw l.1 (ends_step l.0 rest goes)

goes_behind : (ss : List (Statement Word Word)) (rest : Code Word Word) → GoesOn rest → GoesOn (statements_tree ss rest)
goes_behind [] rest goes = goes
goes_behind (s ∷ ss) rest goes = goes_on s (statements_tree ss rest)

ends_behind : (ss : List (Statement Word Word)) (rest : Code Word Word) → GoesOn rest → ends (statements_tree ss rest) ≡ ends rest
ends_behind [] rest goes = refl
ends_behind (s ∷ ss) rest goes = ends_onto s (statements_tree ss rest) (goes_behind ss rest goes) ∙ ends_behind ss rest goes

pub ends_last : (ss : List (Statement Word Word)) (i : ℕ) (s : Statement Word Word) (line : ℕ) → i + 1 ≡ length ss → s ≡ get_or ss i s → ends (statements_tree ss (End line)) ≡ ends (statement_tree s (End line))
ends_last ss i s line count is =
    let none : drop (i + 1) ss ≡ [] = drop_all (i + 1) ss (omega arith) in
    ap ends (split_at ss i s (End line) (omega arith) is ∙ ap (λ ts. statements_tree (take i ss) (statement_tree s (statements_tree ts (End line)))) none)
    ∙ ends_behind (take i ss) (statement_tree s (End line)) (goes_on s (End line))

line_step : (x : Statement-F Word Word (Onto Word Word)) (rest : Code Word Word) → last_line (statement_step x rest) ≡ last_line rest
line_step (Statement-F.Let line v value) rest = refl
line_step (Statement-F.Call line v target m arguments) rest = refl
line_step (Statement-F.Set v value) rest = refl
line_step (Statement-F.SetField line k value) rest = refl
line_step (Statement-F.If condition first) rest = refl
line_step (Statement-F.IfElse condition first other) rest = refl
line_step (Statement-F.While condition body) rest = refl
line_step (Statement-F.Fail code) rest = refl
line_step (Statement-F.Return value) rest = refl

pub line_last : (ss : List (Statement Word Word)) (line : ℕ) → last_line (statements_tree ss (End line)) ≡ line
line_last [] line = refl
line_last (s ∷ ss) line =
    let l = layer s in
    let here : last_line (statement_tree s (statements_tree ss (End line))) ≡ last_line (statements_tree ss (End line)) = rw l.1 (line_step l.0 (statements_tree ss (End line))) in
    here ∙ line_last ss line
