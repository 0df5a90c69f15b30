-- Statements whose parts have no fault, each with the names that are visible behind it; and blocks, a
-- statement more.
use Rattle.std.proofs.Common.{◌≡◌, ℕ, Bool, ◌&&◌, zero, suc, ◌+◌, ◌≤◌, ◌<◌, List, [], ◌∷◌, ◌++◌, length, take, drop, get_or, map, refl, sym, ap, ◌∙◌, subst, arith, length-append, length-take}
use Rattle.std.specs.List.{flat_map}
use Rattle.std.proofs.lemmas.List.{take_more, take_all, take-append-le, drop_more, take-append-drop}
use Rattle.aml_tokens.specs.declared.tokens.Word.{Word}
use Rattle.aml_tree.specs.declared.trees.Statement.{Statement}
use Rattle.aml_tree.specs.Tree.{Expr, Code, End, Let, Call, Set, SetField, If, IfElse, While, Fail, Return, Onto, TextMethod, statement_tree, statements_tree}
use Rattle.aml_tree.specs.Limits.{lets}
use Rattle.aml_resolver.specs.declared.faults.CheckNo.{CheckNo}
use Rattle.aml_resolver.specs.declared.faults.CheckFault.{CheckFault}
use Rattle.aml_check.specs.Names.{method_names}
use Rattle.aml_resolver.specs.Names.{placed, checked_expression, checked_block}
use Rattle.aml_resolver.specs.Faults.{faults, unknown, duplicate, is_writer, promise_faults, call_faults, block_faults}
use Rattle.aml_resolver.specs.Resolving.{Continues, Refuses}
use Rattle.aml_tree.specs.TreeRules.{put_last, lets_onto}

-- ---- lists of faults

pub none : (fs gs : List CheckFault) → fs ≡ [] → fs ++ gs ≡ gs
none fs gs e = ap (λ hs. hs ++ gs) e

-- ---- names

take_whole : (xs : List (List ℕ)) → take (length xs) xs ≡ xs
take_whole xs = take_all (length xs) xs (omega arith)

take_front : (xs : List (List ℕ)) (x : List ℕ) → take (length xs) (xs ++ x ∷ []) ≡ xs
take_front xs x = let h : length xs ≤ length xs = omega arith in rw take-append-le (take_whole xs)

-- ---- statements without blocks

pub let_goes : (p : List TextMethod) (r : Bool) (names next : List (List ℕ)) (line : ℕ) (v : Word) (value : Expr Word) (s : Onto ℕ ℕ) (k : ℕ) (c : Expr ℕ)
    → duplicate names v ≡ [] → (faults names value ≡ []) × (c ≡ checked_expression names value) → k ≡ length names → next ≡ names ++ v.name ∷ [] → ((rest : Code ℕ ℕ) → s rest ≡ Let line k c rest)
    → Continues p r names next (Let line v value) s
let_goes p r names next line v value s k c new here place is tree =
    let P : List (List ℕ) → Type 0 = λ ns. Continues p r names ns (Let line v value) s in
    subst P (sym is) (record {
      faultless = λ rest. none (duplicate names v) (faults names value ++ block_faults p r (names ++ v.name ∷ []) rest) new ∙ none (faults names value) (block_faults p r (names ++ v.name ∷ []) rest) here.0;
      placed = λ rest.
          let behind = checked_block (method_names p) (names ++ v.name ∷ []) rest in
          tree behind ∙ ap (λ j. Let line j c behind) place ∙ ap (λ d. Let line (length names) d behind) here.1;
      kept = take_front names v.name;
      room = λ rest. rw length-append (omega arith);
    })

pub call_goes : (p : List TextMethod) (r : Bool) (names next : List (List ℕ)) (line : ℕ) (v : Word) (target : Expr Word) (m : Word) (values : List (Expr Word)) (s : Onto ℕ ℕ) (k : ℕ) (actor : Expr ℕ) (callee : ℕ) (given : List (Expr ℕ))
    → promise_faults (r && is_writer p m) line ≡ [] → duplicate names v ≡ [] → (faults names target ≡ []) × (actor ≡ checked_expression names target) → (call_faults p m (length values) ≡ []) × (callee ≡ placed (method_names p) m)
    → (flat_map (faults names) values ≡ []) × (given ≡ map (checked_expression names) values) → k ≡ length names → next ≡ names ++ v.name ∷ [] → ((rest : Code ℕ ℕ) → s rest ≡ Call line k actor callee given rest)
    → Continues p r names next (Call line v target m values) s
call_goes p r names next line v target m values s k actor callee given kept new here method all place is tree =
    let P : List (List ℕ) → Type 0 = λ ns. Continues p r names ns (Call line v target m values) s in
    subst P (sym is) (record {
      faultless = λ rest.
          let behind = block_faults p r (names ++ v.name ∷ []) rest in
          none (promise_faults (r && is_writer p m) line) (duplicate names v ++ (faults names target ++ (call_faults p m (length values) ++ (flat_map (faults names) values ++ behind)))) kept
          ∙ none (duplicate names v) (faults names target ++ (call_faults p m (length values) ++ (flat_map (faults names) values ++ behind))) new
          ∙ none (faults names target) (call_faults p m (length values) ++ (flat_map (faults names) values ++ behind)) here.0
          ∙ none (call_faults p m (length values)) (flat_map (faults names) values ++ behind) method.0
          ∙ none (flat_map (faults names) values) behind all.0;
      placed = λ rest.
          let behind = checked_block (method_names p) (names ++ v.name ∷ []) rest in
          tree behind
          ∙ ap (λ j. Call line j actor callee given behind) place
          ∙ ap (λ d. Call line (length names) d callee given behind) here.1
          ∙ ap (λ j. Call line (length names) (checked_expression names target) j given behind) method.1
          ∙ ap (λ ds. Call line (length names) (checked_expression names target) (placed (method_names p) m) ds behind) all.1;
      kept = take_front names v.name;
      room = λ rest. rw length-append (omega arith);
    })

pub set_goes : (p : List TextMethod) (r : Bool) (names : List (List ℕ)) (v : Word) (value : Expr Word) (s : Onto ℕ ℕ) (k : ℕ) (c : Expr ℕ)
    → (unknown names v ≡ []) × (k ≡ placed names v) → (faults names value ≡ []) × (c ≡ checked_expression names value) → ((rest : Code ℕ ℕ) → s rest ≡ Set k c rest)
    → Continues p r names names (Set v value) s
set_goes p r names v value s k c known here tree = record {
  faultless = λ rest. none (unknown names v) (faults names value ++ block_faults p r names rest) known.0 ∙ none (faults names value) (block_faults p r names rest) here.0;
  placed = λ rest.
      let behind = checked_block (method_names p) names rest in
      tree behind ∙ ap (λ j. Set j c behind) known.1 ∙ ap (λ d. Set (placed names v) d behind) here.1;
  kept = take_whole names;
  room = λ rest. omega arith;
}

pub field_goes : (p : List TextMethod) (r : Bool) (names : List (List ℕ)) (line k : ℕ) (value : Expr Word) (s : Onto ℕ ℕ) (c : Expr ℕ)
    → promise_faults r line ≡ [] → (faults names value ≡ []) × (c ≡ checked_expression names value) → ((rest : Code ℕ ℕ) → s rest ≡ SetField line k c rest)
    → Continues p r names names (SetField line k value) s
field_goes p r names line k value s c kept here tree = record {
  faultless = λ rest. none (promise_faults r line) (faults names value ++ block_faults p r names rest) kept ∙ none (faults names value) (block_faults p r names rest) here.0;
  placed = λ rest. tree (checked_block (method_names p) names rest) ∙ ap (λ d. SetField line k d (checked_block (method_names p) names rest)) here.1;
  kept = take_whole names;
  room = λ rest. omega arith;
}

pub return_goes : (p : List TextMethod) (r : Bool) (names : List (List ℕ)) (value : Expr Word) (s : Onto ℕ ℕ) (c : Expr ℕ)
    → (faults names value ≡ []) × (c ≡ checked_expression names value) → ((rest : Code ℕ ℕ) → s rest ≡ Return c rest)
    → Continues p r names names (Return value) s
return_goes p r names value s c here tree = record {
  faultless = λ rest. none (faults names value) (block_faults p r names rest) here.0;
  placed = λ rest. tree (checked_block (method_names p) names rest) ∙ ap (λ d. Return d (checked_block (method_names p) names rest)) here.1;
  kept = take_whole names;
  room = λ rest. omega arith;
}

pub fail_goes : (p : List TextMethod) (r : Bool) (names : List (List ℕ)) (code : ℕ) (s : Onto ℕ ℕ) → ((rest : Code ℕ ℕ) → s rest ≡ Fail code rest) → Continues p r names names (Fail code) s
fail_goes p r names code s tree = record {
  faultless = λ rest. refl;
  placed = λ rest. tree (checked_block (method_names p) names rest);
  kept = take_whole names;
  room = λ rest. omega arith;
}

-- ---- statements with blocks

-- a block without a fault, and the same with its names resolved
abbrev pub IsResolved : List TextMethod → Bool → List (List ℕ) → Code Word Word → Code ℕ ℕ → Type 0
IsResolved p r names b c = (block_faults p r names b ≡ []) × (c ≡ checked_block (method_names p) names b)

pub if_goes : (p : List TextMethod) (r : Bool) (names : List (List ℕ)) (condition : Expr Word) (first : Code Word Word) (s : Onto ℕ ℕ) (c : Expr ℕ) (a : Code ℕ ℕ)
    → (faults names condition ≡ []) × (c ≡ checked_expression names condition) → IsResolved p r names first a → ((rest : Code ℕ ℕ) → s rest ≡ If c a rest)
    → Continues p r names names (If condition first) s
if_goes p r names condition first s c a here then tree = record {
  faultless = λ rest. none (faults names condition) (block_faults p r names first ++ block_faults p r names rest) here.0 ∙ none (block_faults p r names first) (block_faults p r names rest) then.0;
  placed = λ rest.
      let behind = checked_block (method_names p) names rest in
      tree behind ∙ ap (λ d. If d a behind) here.1 ∙ ap (λ t. If (checked_expression names condition) t behind) then.1;
  kept = take_whole names;
  room = λ rest. omega arith;
}

pub while_goes : (p : List TextMethod) (r : Bool) (names : List (List ℕ)) (condition : Expr Word) (body : Code Word Word) (s : Onto ℕ ℕ) (c : Expr ℕ) (a : Code ℕ ℕ)
    → (faults names condition ≡ []) × (c ≡ checked_expression names condition) → IsResolved p r names body a → ((rest : Code ℕ ℕ) → s rest ≡ While c a rest)
    → Continues p r names names (While condition body) s
while_goes p r names condition body s c a here then tree = record {
  faultless = λ rest. none (faults names condition) (block_faults p r names body ++ block_faults p r names rest) here.0 ∙ none (block_faults p r names body) (block_faults p r names rest) then.0;
  placed = λ rest.
      let behind = checked_block (method_names p) names rest in
      tree behind ∙ ap (λ d. While d a behind) here.1 ∙ ap (λ t. While (checked_expression names condition) t behind) then.1;
  kept = take_whole names;
  room = λ rest. omega arith;
}

pub if_else_goes : (p : List TextMethod) (r : Bool) (names : List (List ℕ)) (condition : Expr Word) (first other : Code Word Word) (s : Onto ℕ ℕ) (c : Expr ℕ) (a b : Code ℕ ℕ)
    → (faults names condition ≡ []) × (c ≡ checked_expression names condition) → IsResolved p r names first a → IsResolved p r names other b → ((rest : Code ℕ ℕ) → s rest ≡ IfElse c a b rest)
    → Continues p r names names (IfElse condition first other) s
if_else_goes p r names condition first other s c a b here then otherwise tree = record {
  faultless = λ rest.
      none (faults names condition) (block_faults p r names first ++ (block_faults p r names other ++ block_faults p r names rest)) here.0
      ∙ none (block_faults p r names first) (block_faults p r names other ++ block_faults p r names rest) then.0
      ∙ none (block_faults p r names other) (block_faults p r names rest) otherwise.0;
  placed = λ rest.
      let behind = checked_block (method_names p) names rest in
      tree behind
      ∙ ap (λ d. IfElse d a b behind) here.1
      ∙ ap (λ t. IfElse (checked_expression names condition) t b behind) then.1
      ∙ ap (λ t. IfElse (checked_expression names condition) (checked_block (method_names p) names first) t behind) otherwise.1;
  kept = take_whole names;
  room = λ rest. omega arith;
}

-- ---- blocks

pub none_yet : (p : List TextMethod) (r : Bool) (names : List (List ℕ)) → Continues p r names names (statements_tree []) (statements_tree [])
none_yet p r names = record { faultless = λ rest. refl; placed = λ rest. refl; kept = take_whole names; room = λ rest. omega arith }

take_within : (m n : ℕ) (xs : List (List ℕ)) → m ≤ n → take m (take n xs) ≡ take m xs
take_within zero n xs h = refl
take_within (suc m) zero xs h = absurd (omega (arith, h))
take_within (suc m) (suc n) [] h = refl
take_within (suc m) (suc n) (x ∷ xs) h = ap (λ ys. x ∷ ys) (take_within m n xs (omega (arith, h)))

kept_longer : (a b c : List (List ℕ)) → take (length a) b ≡ a → take (length b) c ≡ b → take (length a) c ≡ a
kept_longer a b c first second =
    let short : length a ≤ length b = omega (arith, ap length first, length-take (length a) b) in
    sym (take_within (length a) (length b) c short) ∙ ap (take (length a)) second ∙ first

pub block_goes : (p : List TextMethod) (r : Bool) (names before next : List (List ℕ)) (ss : List (Statement Word Word)) (i : ℕ) (s : Statement Word Word) (cs ds : List (Statement ℕ ℕ)) (c : Statement ℕ ℕ)
    → i < length ss → s ≡ get_or ss i s → Continues p r names before (statements_tree (take i ss)) (statements_tree cs) → Continues p r before next (statement_tree s) (statement_tree c)
    → ((rest : Code ℕ ℕ) → statements_tree ds rest ≡ statements_tree cs (statement_tree c rest))
    → Continues p r names next (statements_tree (take (i + 1) ss)) (statements_tree ds)
block_goes p r names before next ss i s cs ds c h is first second tree =
    let e : take (i + 1) ss ≡ take i ss ++ s ∷ [] = take_more ss i s h ∙ ap (λ t. take i ss ++ t ∷ []) (sym is) in
    let P : List (Statement Word Word) → Type 0 = λ ts. Continues p r names next (statements_tree ts) (statements_tree ds) in
    subst P (sym e) (record {
      faultless = λ rest. ap (block_faults p r names) (put_last (take i ss) s rest) ∙ first.faultless (statement_tree s rest) ∙ second.faultless rest;
      placed = λ rest.
          tree (checked_block (method_names p) next rest)
          ∙ ap (statements_tree cs) (second.placed rest)
          ∙ first.placed (statement_tree s rest)
          ∙ ap (checked_block (method_names p) names) (sym (put_last (take i ss) s rest));
      kept = kept_longer names before next first.kept second.kept;
      room = λ rest. omega (arith, first.room (statement_tree s rest), second.room rest, ap lets (put_last (take i ss) s rest));
    })

statements_append : (ss ts : List (Statement Word Word)) (rest : Code Word Word) → statements_tree (ss ++ ts) rest ≡ statements_tree ss (statements_tree ts rest)
statements_append [] ts rest = refl
statements_append (s ∷ ss) ts rest = ap (statement_tree s) (statements_append ss ts rest)

-- the rest of a block, from the statement at a place on
pub split_at : (ss : List (Statement Word Word)) (i : ℕ) (s : Statement Word Word) (rest : Code Word Word) → i < length ss → s ≡ get_or ss i s → statements_tree ss rest ≡ statements_tree (take i ss) (statement_tree s (statements_tree (drop (i + 1) ss) rest))
split_at ss i s rest h is =
    ap (λ t. statements_tree t rest) (sym (take-append-drop i ss) ∙ ap (λ t. take i ss ++ t) (drop_more ss i s h ∙ ap (λ x. x ∷ drop (i + 1) ss) (sym is)))
    ∙ statements_append (take i ss) (s ∷ drop (i + 1) ss) rest

drop_here : (ss : List (Statement Word Word)) (i : ℕ) (s : Statement Word Word) (rest : Code Word Word) → i < length ss → s ≡ get_or ss i s → statements_tree (drop i ss) rest ≡ statement_tree s (statements_tree (drop (i + 1) ss) rest)
drop_here ss i s rest h is = ap (λ ts. statements_tree ts rest) (drop_more ss i s h ∙ ap (λ t. t ∷ drop (i + 1) ss) (sym is))

pub room_here : (n : ℕ) (ss : List (Statement Word Word)) (i : ℕ) (s : Statement Word Word) → i < length ss → s ≡ get_or ss i s → n + lets (statements_tree (drop i ss) (End 0)) ≤ 32 → n + lets (statement_tree s (End 0)) ≤ 32
room_here n ss i s h is fits =
    let behind = statements_tree (drop (i + 1) ss) (End 0) in
    omega (arith, lets_onto s behind, ap lets (drop_here ss i s (End 0) h is))

lets_line : (ss : List (Statement Word Word)) (line : ℕ) → lets (statements_tree ss (End line)) ≡ lets (statements_tree ss (End 0))
lets_line [] line = refl
lets_line (s ∷ ss) line = omega (arith, lets_onto s (statements_tree ss (End line)), lets_onto s (statements_tree ss (End 0)), lets_line ss line)

pub room_first : (n : ℕ) (ss : List (Statement Word Word)) (line : ℕ) → n + lets (statements_tree ss (End line)) ≤ 32 → n + lets (statements_tree ss (End 0)) ≤ 32
room_first n ss line fits = omega (arith, lets_line ss line)

pub room_next : (n m : ℕ) (ss : List (Statement Word Word)) (i : ℕ) (s : Statement Word Word) → i < length ss → s ≡ get_or ss i s → n + lets (statements_tree (drop i ss) (End 0)) ≤ 32
    → ((rest : Code Word Word) → m + lets rest ≤ n + lets (statement_tree s rest)) → m + lets (statements_tree (drop (i + 1) ss) (End 0)) ≤ 32
room_next n m ss i s h is fits room =
    omega (arith, room (statements_tree (drop (i + 1) ss) (End 0)), ap lets (drop_here ss i s (End 0) h is))

pub block_refuses : (p : List TextMethod) (r : Bool) (names next : List (List ℕ)) (ss : List (Statement Word Word)) (i : ℕ) (s : Statement Word Word) (cs : List (Statement ℕ ℕ)) (line : ℕ) (e : CheckNo)
    → i < length ss → s ≡ get_or ss i s → Continues p r names next (statements_tree (take i ss)) (statements_tree cs) → ((rest : Code Word Word) → Refuses (block_faults p r next (statement_tree s rest)) e)
    → Refuses (block_faults p r names (statements_tree ss (End line))) e
block_refuses p r names next ss i s cs line e h is so_far refused =
    let behind = statements_tree (drop (i + 1) ss) (End line) in
    let P : List CheckFault → Type 0 = λ fs. Refuses fs e in
    subst P (sym (ap (block_faults p r names) (split_at ss i s (End line) h is) ∙ so_far.faultless (statement_tree s behind))) (refused behind)
