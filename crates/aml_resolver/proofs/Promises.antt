-- A method that promises only to read and has no fault keeps the promise.
use Rattle.std.proofs.Common.{◌≡◌, ℕ, ◌<◌, ◌+◌, Bool, true, false, if◌then◌else◌, Option, Some, None, IfSome, unwrap_or, List, [], ◌∷◌, ◌++◌, length, refl, ap, ◌∙◌, arith}
use Rattle.std.specs.Prelude.{IsTrue}
use Rattle.std.specs.List.{flat_map}
use Rattle.std.proofs.lemmas.List.{get_or-map, length-map}
use Rattle.aml_tokens.specs.declared.tokens.Word.{Word}
use Rattle.aml_tree.specs.Tree.{Code, End, Let, Call, Set, SetField, If, IfElse, While, Fail, Return, TextMethod, CheckedMethod}
use Rattle.aml_check.specs.Names.{method_names, method_at, no_method}
use Rattle.aml_check.specs.Closed.{OnlyReads}
use Rattle.aml_resolver.specs.Names.{place_of, placed, checked_block, checked_method, checked_program}
use Rattle.aml_resolver.specs.Faults.{unknown, duplicate, faults, call_faults_at, call_faults, is_writer_at, is_writer, promise_faults, block_faults}
use Rattle.aml_resolver.proofs.ClosedParts.{none_left, none_right, place_in}

-- the method at a place promises only to read once names are resolved, if it did before
same_promise : (p : List TextMethod) (place : ℕ) → place < length p → (method_at (checked_program p) place).is_read ≡ (method_at p place).is_read
same_promise p place h = ap (λ (m : CheckedMethod). m.is_read) (get_or-map (checked_method (method_names p)) p place no_method no_method h)

reads_by : (b : Bool) (line : ℕ) → promise_faults (if b then false else true) line ≡ [] → b ≡ true
reads_by true line e = refl
reads_by false line e = absurd cc

called_by : (p : List TextMethod) (w : Word) (n line : ℕ) (o : Option ℕ) → IfSome o (λ j. j < 0 + length (method_names p)) → promise_faults (is_writer_at p o) line ≡ [] → call_faults_at p w n o ≡ []
    → IsTrue (method_at (checked_program p) (unwrap_or o (length (method_names p)))).is_read
called_by p w n line (Some place) inside kept known =
    let h : place < length p = omega (arith, inside, length-map p (λ (m : TextMethod). m.name.name)) in
    same_promise p place h ∙ reads_by (method_at p place).is_read line kept
called_by p w n line None inside kept known = absurd cc

called_reads : (p : List TextMethod) (w : Word) (n line : ℕ) → promise_faults (is_writer p w) line ≡ [] → call_faults p w n ≡ [] → IsTrue (method_at (checked_program p) (placed (method_names p) w)).is_read
called_reads p w n line kept known = called_by p w n line (place_of (method_names p) w.name) (place_in 0 (method_names p) w.name) kept known

pub keeps_promise : (p : List TextMethod) (ns : List (List ℕ)) (b : Code Word Word) → block_faults p true ns b ≡ [] → OnlyReads (checked_program p) (checked_block (method_names p) ns b)
keeps_promise p ns (End line) none = tt
keeps_promise p ns (Let line v value rest) none =
    let later = none_right (duplicate ns v) (faults ns value ++ block_faults p true (ns ++ v.name ∷ []) rest) none in
    keeps_promise p (ns ++ v.name ∷ []) rest (none_right (faults ns value) (block_faults p true (ns ++ v.name ∷ []) rest) later)
keeps_promise p ns (Call line v target m arguments rest) none =
    let behind = block_faults p true (ns ++ v.name ∷ []) rest in
    let all = flat_map (faults ns) arguments in
    let n = length arguments in
    let a = none_right (promise_faults (is_writer p m) line) (duplicate ns v ++ (faults ns target ++ (call_faults p m n ++ (all ++ behind)))) none in
    let b = none_right (duplicate ns v) (faults ns target ++ (call_faults p m n ++ (all ++ behind))) a in
    let c = none_right (faults ns target) (call_faults p m n ++ (all ++ behind)) b in
    let d = none_right (call_faults p m n) (all ++ behind) c in (
      called_reads p m n line (none_left (promise_faults (is_writer p m) line) (duplicate ns v ++ (faults ns target ++ (call_faults p m n ++ (all ++ behind)))) none) (none_left (call_faults p m n) (all ++ behind) c),
      keeps_promise p (ns ++ v.name ∷ []) rest (none_right all behind d),
    )
keeps_promise p ns (Set v value rest) none =
    let later = none_right (unknown ns v) (faults ns value ++ block_faults p true ns rest) none in
    keeps_promise p ns rest (none_right (faults ns value) (block_faults p true ns rest) later)
keeps_promise p ns (SetField line k value rest) none = cc
keeps_promise p ns (If condition first rest) none =
    let later = none_right (faults ns condition) (block_faults p true ns first ++ block_faults p true ns rest) none in (
      keeps_promise p ns first (none_left (block_faults p true ns first) (block_faults p true ns rest) later),
      keeps_promise p ns rest (none_right (block_faults p true ns first) (block_faults p true ns rest) later),
    )
keeps_promise p ns (IfElse condition first other rest) none =
    let one = none_right (faults ns condition) (block_faults p true ns first ++ (block_faults p true ns other ++ block_faults p true ns rest)) none in
    let two = none_right (block_faults p true ns first) (block_faults p true ns other ++ block_faults p true ns rest) one in (
      keeps_promise p ns first (none_left (block_faults p true ns first) (block_faults p true ns other ++ block_faults p true ns rest) one),
      keeps_promise p ns other (none_left (block_faults p true ns other) (block_faults p true ns rest) two),
      keeps_promise p ns rest (none_right (block_faults p true ns other) (block_faults p true ns rest) two),
    )
keeps_promise p ns (While condition body rest) none =
    let later = none_right (faults ns condition) (block_faults p true ns body ++ block_faults p true ns rest) none in (
      keeps_promise p ns body (none_left (block_faults p true ns body) (block_faults p true ns rest) later),
      keeps_promise p ns rest (none_right (block_faults p true ns body) (block_faults p true ns rest) later),
    )
keeps_promise p ns (Fail code rest) none = keeps_promise p ns rest none
keeps_promise p ns (Return value rest) none = keeps_promise p ns rest (none_right (faults ns value) (block_faults p true ns rest) none)
