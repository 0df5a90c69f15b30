-- Where a method stands in flat code.
use Rattle.std.proofs.Common.{◌≡◌, ℕ, zero, suc, ◌+◌, ◌≤◌, ◌<◌, min, Bool, true, false, ℤ, Result, Option, Some, None, List, [], ◌∷◌, length, take, drop, reverse, get_or, set, refl, sym, ap, ◌∙◌, subst, arith, ◌⊎◌, inl, inr}
use Rattle.std.specs.List.{slice_get}
use Rattle.std.proofs.lemmas.Option.{slice_get_read}
use Rattle.std.proofs.lemmas.List.Elements.{All-get_or, All-from_recursion}
use Rattle.std.proofs.lemmas.List.{get_or-set_same, drop_more, take_more, drop_all, take_all, reverse-append, length-map, length-reverse, length-take, reverse-reverse}
use Rattle.snap_base.specs.declared.transactions.State.{State}
use Rattle.aml_tree.specs.Tree.{Code, End, Let, Call, Set, SetField, If, IfElse, While, Fail, Return, CheckedMethod}
use Rattle.aml_flat.specs.declared.operations.BlockPlace.{BlockPlace}
use Rattle.aml_flat.specs.declared.operations.Operation.{Operation}
use Rattle.aml_flat.specs.declared.operations.Operation.TheVariants as op
use Rattle.aml_flat.specs.Flat.{count_of, flat_tree, AllLie, Lies, LiesAt}
use Rattle.aml_flat.proofs.Laying.{Told, told, found}
use Rattle.aml_check.specs.Closed.{IsClosedMethod, IsClosedProgram, nesting}
use Rattle.aml_check.specs.Names.{method_at, no_method}
use Rattle.aml_resume.specs.declared.exits.Exit.{Exit}
use Rattle.aml_resume.specs.declared.places.Spot.{Spot}
use Rattle.aml_resume.specs.Places.{Standing, behind_some, HasInner, IsPlace, IsRunnable, after_inner, inner_of, kept, place_behind}
use Rattle.aml_resume.specs.Pausing.{Pause, block_pause, given_at_end, method_pause, pause_of}
use Rattle.aml_resume.specs.Machine.{Outer, onward, IsLeft, AreLeft, Leads, Enters, opened_of}
use Rattle.aml_resume.proofs.Behinds.{all_behind, behind_lies, deep_inside, deep_some, inner_within, less_or_not, some_level}
use Rattle.aml_resume.proofs.Leading.{left_set}

-- ---- the body of a method

pub body_lies : (ops : List Operation) (qs : List BlockPlace) (ms : List CheckedMethod) (i : ℕ) (d : BlockPlace) → AllLie ops qs ms → i < length ms → LiesAt ops (get_or qs i d) (method_at ms i).body
body_lies ops [] [] i d h few = absurd (omega (arith, few))
body_lies ops [] (m ∷ ms) i d h few = absurd h
body_lies ops (t ∷ qs) [] i d h few = absurd h
body_lies ops (t ∷ qs) (m ∷ ms) zero d h few = h.0
body_lies ops (t ∷ qs) (m ∷ ms) (suc i) d h few = body_lies ops qs ms i d h.1 (omega (arith, few))

pub as_many : (ops : List Operation) (qs : List BlockPlace) (ms : List CheckedMethod) → AllLie ops qs ms → length qs ≡ length ms
as_many ops [] [] h = refl
as_many ops [] (m ∷ ms) h = absurd h
as_many ops (t ∷ qs) [] h = absurd h
as_many ops (t ∷ qs) (m ∷ ms) h = ap suc (as_many ops qs ms h.1)

-- ---- an inner block

record Opening (ops : List Operation) (other : Bool) (at : ℕ) (c : Code ℕ ℕ) (inner : BlockPlace) (behind : ℕ) : Type 0 where
  inside : LiesAt ops inner (inner_of other c)
  after : Lies ops behind (place_behind at c) (after_inner c)
  early : place_behind at c ≤ behind
  deep : nesting (after_inner c) ≤ nesting c

abbrev got : Option (BlockPlace × ℕ) → BlockPlace × ℕ
got (Some x) = x
got None = (record { first = 0; count = 0 }, 0)

abbrev some_number : Option (BlockPlace × ℕ) → ℕ
some_number (Some x) = 1
some_number None = 0

opening : (ops : List Operation) (other : Bool) (at : ℕ) (c d : Code ℕ ℕ) (to inner : BlockPlace) (from behind : ℕ) → c ≡ d → (let o : Option (BlockPlace × ℕ) = Some (to, from) in o ≡ Some (inner, behind)) → Opening ops other at d to from → Opening ops other at c inner behind
opening ops other at c d to inner from behind is same h =
    let P : Code ℕ ℕ → Type 0 = λ x. Opening ops other at x inner behind in
    let Q : BlockPlace × ℕ → Type 0 = λ x. Opening ops other at d x.0 x.1 in
    subst P (sym is) (subst Q (ap got same) h)

no_opening : (x : BlockPlace × ℕ) → (let o : Option (BlockPlace × ℕ) = None in o ≡ Some x) → ⊥
no_opening x h = let e : 0 ≡ 1 = ap some_number h in omega (arith, e)

opens_by : (ops : List Operation) (other : Bool) (from at : ℕ) (c : Code ℕ ℕ) (o : Operation) (inner : BlockPlace) (behind : ℕ) → at ≤ from → HasInner other c → Lies ops from at c → Told ops from at c o → opened_of other from o ≡ Some (inner, behind) → Opening ops other at c inner behind
opens_by ops false from at c (op.If place e to) inner behind early has lies t is =
    opening ops false at c (If (flat_tree e) t.0 t.1) to inner (from + 1) behind t.3 is (record { inside = t.4; after = t.5; early = omega (arith, early); deep = omega arith })
opens_by ops true from at c (op.If place e to) inner behind early has lies t is = absurd (subst (HasInner true) t.3 has)
opens_by ops false from at c (op.IfElse place e to otherwise) inner behind early has lies t is =
    opening ops false at c (IfElse (flat_tree e) t.0 t.1 t.2) to inner (from + 1) behind t.4 is (record { inside = t.5; after = t.7; early = omega (arith, early); deep = omega arith })
opens_by ops true from at c (op.IfElse place e to otherwise) inner behind early has lies t is =
    opening ops true at c (IfElse (flat_tree e) t.0 t.1 t.2) otherwise inner (from + 1) behind t.4 is (record { inside = t.6; after = t.7; early = omega (arith, early); deep = omega arith })
opens_by ops false from at c (op.While place e to) inner behind early has lies t is = opening ops false at c (While (flat_tree e) t.0 t.1) to inner from behind t.3 is (record { inside = t.4; after = (let P : Code ℕ ℕ → Type 0 = λ x. Lies ops from at x in subst P t.3 lies); early = early; deep = omega arith })
opens_by ops true from at c (op.While place e to) inner behind early has lies t is = absurd (subst (HasInner true) t.3 has)
opens_by ops false from at c op.End inner behind early has lies t is = absurd (no_opening (inner, behind) is)
opens_by ops true from at c op.End inner behind early has lies t is = absurd (no_opening (inner, behind) is)
opens_by ops false from at c (op.Let e) inner behind early has lies t is = absurd (no_opening (inner, behind) is)
opens_by ops true from at c (op.Let e) inner behind early has lies t is = absurd (no_opening (inner, behind) is)
opens_by ops false from at c (op.Call place e method es) inner behind early has lies t is = absurd (no_opening (inner, behind) is)
opens_by ops true from at c (op.Call place e method es) inner behind early has lies t is = absurd (no_opening (inner, behind) is)
opens_by ops false from at c (op.Set variable e) inner behind early has lies t is = absurd (no_opening (inner, behind) is)
opens_by ops true from at c (op.Set variable e) inner behind early has lies t is = absurd (no_opening (inner, behind) is)
opens_by ops false from at c (op.SetField field e) inner behind early has lies t is = absurd (no_opening (inner, behind) is)
opens_by ops true from at c (op.SetField field e) inner behind early has lies t is = absurd (no_opening (inner, behind) is)
opens_by ops false from at c (op.Fail c2) inner behind early has lies t is = absurd (no_opening (inner, behind) is)
opens_by ops true from at c (op.Fail c2) inner behind early has lies t is = absurd (no_opening (inner, behind) is)
opens_by ops false from at c (op.Return e) inner behind early has lies t is = absurd (no_opening (inner, behind) is)
opens_by ops true from at c (op.Return e) inner behind early has lies t is = absurd (no_opening (inner, behind) is)

-- an operation of a statement with an inner block has one
none_opened : (ops : List Operation) (other : Bool) (from at : ℕ) (c : Code ℕ ℕ) (o : Operation) → HasInner other c → Told ops from at c o → opened_of other from o ≡ None → ⊥
none_opened ops false from at c (op.If place e to) has t is = no_opening _ (sym is)
none_opened ops true from at c (op.If place e to) has t is = no_opening _ (sym is)
none_opened ops false from at c (op.IfElse place e to otherwise) has t is = no_opening _ (sym is)
none_opened ops true from at c (op.IfElse place e to otherwise) has t is = no_opening _ (sym is)
none_opened ops false from at c (op.While place e to) has t is = no_opening _ (sym is)
none_opened ops true from at c (op.While place e to) has t is = no_opening _ (sym is)
none_opened ops false from at c op.End has t is = subst (HasInner false) t.1 has
none_opened ops true from at c op.End has t is = subst (HasInner true) t.1 has
none_opened ops false from at c (op.Let e) has t is = subst (HasInner false) t.3 has
none_opened ops true from at c (op.Let e) has t is = subst (HasInner true) t.3 has
none_opened ops false from at c (op.Call place e method es) has t is = subst (HasInner false) t.4 has
none_opened ops true from at c (op.Call place e method es) has t is = subst (HasInner true) t.4 has
none_opened ops false from at c (op.Set variable e) has t is = subst (HasInner false) t.1 has
none_opened ops true from at c (op.Set variable e) has t is = subst (HasInner true) t.1 has
none_opened ops false from at c (op.SetField field e) has t is = subst (HasInner false) t.2 has
none_opened ops true from at c (op.SetField field e) has t is = subst (HasInner true) t.2 has
none_opened ops false from at c (op.Fail c2) has t is = subst (HasInner false) t.1 has
none_opened ops true from at c (op.Fail c2) has t is = subst (HasInner true) t.1 has
none_opened ops false from at c (op.Return e) has t is = subst (HasInner false) t.1 has
none_opened ops true from at c (op.Return e) has t is = subst (HasInner true) t.1 has

-- ---- one block further in

pub there : (p : List CheckedMethod) (ops : List Operation) (own : ℕ) (q : Spot) (qs entered : List Spot) (next : ℕ) (positions : List ℕ) (block : BlockPlace) (vs : List ℤ) (s : State) (n : ℕ) (whole : Pause) → (l : Enters p ops own (q ∷ qs) entered next positions block vs s n whole) → (block.first + q.at < length ops) × (length entered < 32)
there p ops own q qs entered next positions block vs s n whole l =
    let has = l.place.0 in
    let within = inner_within q.at l.left q.other has in
    let lies = behind_lies ops block.first q.at l.left l.lies.1 (omega (arith, within)) in
    let same : length entered ≡ length l.outer = ap length l.spots ∙ length-map l.outer (λ (x : Outer). x.spot) in
    ((found ops (block.first + q.at) q.at (behind_some q.at l.left) lies).within, omega (arith, same, some_level l.left, l.deep))

pub never_none : (p : List CheckedMethod) (ops : List Operation) (own : ℕ) (q : Spot) (qs entered : List Spot) (next : ℕ) (positions : List ℕ) (block : BlockPlace) (vs : List ℤ) (s : State) (n : ℕ) (whole : Pause) → (l : Enters p ops own (q ∷ qs) entered next positions block vs s n whole) → (o : Operation) → slice_get ops (block.first + q.at) ≡ Some o → opened_of q.other (block.first + q.at) o ≡ None → ⊥
never_none p ops own q qs entered next positions block vs s n whole l o is none =
    let has = l.place.0 in
    let lies = behind_lies ops block.first q.at l.left l.lies.1 (omega (arith, inner_within q.at l.left q.other has)) in
    none_opened ops q.other (block.first + q.at) q.at (behind_some q.at l.left) o has (told ops (block.first + q.at) q.at (behind_some q.at l.left) o is lies) none

pub enters_on : (p : List CheckedMethod) (ops : List Operation) (own : ℕ) (q : Spot) (qs entered : List Spot) (next : ℕ) (positions : List ℕ) (block : BlockPlace) (vs : List ℤ) (s : State) (n : ℕ) (whole : Pause) → (l : Enters p ops own (q ∷ qs) entered next positions block vs s n whole) → (o : Operation) (inner : BlockPlace) (behind depth : ℕ) (later : List ℕ) → slice_get ops (block.first + q.at) ≡ Some o → opened_of q.other (block.first + q.at) o ≡ Some (inner, behind) → later ≡ set positions depth behind → depth ≡ length entered → length positions ≡ 32
    → Enters p ops own qs (q ∷ entered) next later inner vs s n whole
enters_on p ops own q qs entered next positions block vs s n whole l o inner behind depth later is opened moved count wide =
    let has = l.place.0 in
    let c = behind_some q.at l.left in
    let lies = behind_lies ops block.first q.at l.left l.lies.1 (omega (arith, inner_within q.at l.left q.other has)) in
    let x : Opening ops q.other q.at c inner behind = opens_by ops q.other (block.first + q.at) q.at c o inner behind (omega arith) has lies (told ops (block.first + q.at) q.at c o is lies) opened in
    let same : depth ≡ length l.outer = count ∙ ap length l.spots ∙ length-map l.outer (λ (x : Outer). x.spot) in
    let D : ℕ → List ℕ → Type 0 = λ i xs. xs ≡ set positions i behind in
    let new : later ≡ set positions (length l.outer) behind = subst (λ i. D i later) same moved in
    let room : length l.outer < length positions = omega (arith, wide, some_level l.left, l.deep) in
    let L : ℕ → Type 0 = λ i. IsLeft p ops i (place_behind q.at c) (length l.outer) q.keep (after_inner c) in
    let first : L behind = record { lies = x.after; runnable = l.place.3; deep = omega (arith, x.deep, deep_some q.at l.left, l.deep); early = x.early } in
    let A : List ℕ → Type 0 = λ xs. AreLeft p ops xs (kept (length vs) qs) (record { spot = q; at = place_behind q.at c; code = after_inner c } ∷ l.outer) in
    record {
      outer = record { spot = q; at = place_behind q.at c; code = after_inner c } ∷ l.outer;
      left = inner_of q.other c;
      lies = x.inside;
      place = l.place.1;
      deep = omega (arith, deep_inside q.other q.at l.left has, l.deep);
      behind = subst A (sym new) (l.place.2, subst L (sym (get_or-set_same positions (length l.outer) behind 0 room)) first, left_set p ops positions (length l.outer) behind q.keep l.outer (omega arith) l.behind);
      spots = ap (λ ps. q ∷ ps) l.spots;
      meant = l.meant;
    }

-- ---- the place in the innermost block

behind_min : (i : ℕ) (b : Code ℕ ℕ) → behind_some i b ≡ behind_some (min i (count_of b)) b
behind_min zero b = ap (λ j. behind_some j b) (let e : 0 ≡ min 0 (count_of b) = omega arith in e)
behind_min (suc i) (End line) = ap (λ j. behind_some j (End line)) (let e : 0 ≡ min (suc i) 0 = omega arith in e)
behind_min (suc i) (Let line v value rest) = behind_min i rest ∙ ap (λ j. behind_some j (Let line v value rest)) (let e : suc (min i (count_of rest)) ≡ min (suc i) (1 + count_of rest) = omega arith in e)
behind_min (suc i) (Call line v target m arguments rest) = behind_min i rest ∙ ap (λ j. behind_some j (Call line v target m arguments rest)) (let e : suc (min i (count_of rest)) ≡ min (suc i) (1 + count_of rest) = omega arith in e)
behind_min (suc i) (Set v value rest) = behind_min i rest ∙ ap (λ j. behind_some j (Set v value rest)) (let e : suc (min i (count_of rest)) ≡ min (suc i) (1 + count_of rest) = omega arith in e)
behind_min (suc i) (SetField line k value rest) = behind_min i rest ∙ ap (λ j. behind_some j (SetField line k value rest)) (let e : suc (min i (count_of rest)) ≡ min (suc i) (1 + count_of rest) = omega arith in e)
behind_min (suc i) (If condition first rest) = behind_min i rest ∙ ap (λ j. behind_some j (If condition first rest)) (let e : suc (min i (count_of rest)) ≡ min (suc i) (1 + count_of rest) = omega arith in e)
behind_min (suc i) (IfElse condition first other rest) = behind_min i rest ∙ ap (λ j. behind_some j (IfElse condition first other rest)) (let e : suc (min i (count_of rest)) ≡ min (suc i) (1 + count_of rest) = omega arith in e)
behind_min (suc i) (While condition body rest) = behind_min i rest ∙ ap (λ j. behind_some j (While condition body rest)) (let e : suc (min i (count_of rest)) ≡ min (suc i) (1 + count_of rest) = omega arith in e)
behind_min (suc i) (Fail code rest) = behind_min i rest ∙ ap (λ j. behind_some j (Fail code rest)) (let e : suc (min i (count_of rest)) ≡ min (suc i) (1 + count_of rest) = omega arith in e)
behind_min (suc i) (Return value rest) = behind_min i rest ∙ ap (λ j. behind_some j (Return value rest)) (let e : suc (min i (count_of rest)) ≡ min (suc i) (1 + count_of rest) = omega arith in e)

anywhere : (own i j k : ℕ) (b : Code ℕ ℕ) (vs : List ℤ) (s : State) (n : ℕ) → count_of b ≤ k → block_pause own i (behind_some k b) vs s n ≡ block_pause own j (behind_some k b) vs s n
anywhere own i j k b vs s n past =
    let e = all_behind k b past in
    ap (λ c. block_pause own i c vs s n) e.1 ∙ sym (ap (λ c. block_pause own j c vs s n) e.1)

same_place : (own next : ℕ) (b : Code ℕ ℕ) (vs : List ℤ) (s : State) (n : ℕ) → ((next < count_of b) ⊎ (count_of b ≤ next)) → block_pause own next (behind_some next b) vs s n ≡ block_pause own (min next (count_of b)) (behind_some next b) vs s n
same_place own next b vs s n (inl less) = ap (λ i. block_pause own i (behind_some next b) vs s n) (let e : next ≡ min next (count_of b) = omega (arith, less) in e)
same_place own next b vs s n (inr past) = anywhere own next (min next (count_of b)) next b vs s n past

pub at_last : (p : List CheckedMethod) (ops : List Operation) (own : ℕ) (entered : List Spot) (next : ℕ) (positions : List ℕ) (block : BlockPlace) (vs : List ℤ) (s : State) (n : ℕ) (whole : Pause) → (l : Enters p ops own [] entered next positions block vs s n whole) → (to : ℕ) → to ≡ block.first + min next block.count → Leads p ops own entered positions to vs s n whole
at_last p ops own entered next positions block vs s n whole l to is =
    let b = l.left in
    let i = min next (count_of b) in
    let c = behind_some i b in
    let there : to ≡ block.first + i = omega (arith, is, l.lies.0) in
    let lies = behind_lies ops block.first i b l.lies.1 (omega arith) in
    let P : ℕ → Type 0 = λ x. Lies ops x i c in
    record {
      outer = l.outer;
      at = i;
      left = c;
      here = record { lies = subst P (sym there) lies; runnable = subst (IsRunnable p (length vs)) (behind_min next b) l.place; deep = omega (arith, deep_some i b, l.deep); early = omega (arith, there) };
      behind = l.behind;
      spots = l.spots;
      meant = l.meant ∙ ap (λ (x : Pause). given_at_end (onward own l.outer x)) (same_place own next b vs s n (less_or_not next (count_of b)) ∙ ap (λ d. block_pause own i d vs s n) (behind_min next b));
    }

pub last_within : (p : List CheckedMethod) (ops : List Operation) (own : ℕ) (entered : List Spot) (next : ℕ) (positions : List ℕ) (block : BlockPlace) (vs : List ℤ) (s : State) (n : ℕ) (whole : Pause) → (l : Enters p ops own [] entered next positions block vs s n whole) → block.first + min next block.count < length ops
last_within p ops own entered next positions block vs s n whole l =
    let i = min next (count_of l.left) in
    let lies = behind_lies ops block.first i l.left l.lies.1 (omega arith) in
    omega (arith, (found ops (block.first + i) i (behind_some i l.left) lies).within, l.lies.0)

-- ---- along the path

-- the open block at a place of the path
abbrev pub spot_in : List Spot → ℕ → Spot
spot_in path i = get_or path i (record { at = 0; other = false; keep = 0 })

at_spot : (path : List Spot) (i : ℕ) → i < length path → (drop i path ≡ spot_in path i ∷ drop (i + 1) path) × (reverse (take (i + 1) path) ≡ spot_in path i ∷ reverse (take i path))
at_spot path i h =
    let none : Spot = record { at = 0; other = false; keep = 0 } in
    (drop_more path i none h, ap reverse (take_more path i none h) ∙ reverse-append (take i path) (spot_in path i ∷ []))

-- ---- at the beginning

pub enters_first : (p : List CheckedMethod) (ops : List Operation) (own : ℕ) (body : Code ℕ ℕ) (q : BlockPlace) (f : Standing) (positions : List ℕ) (s : State) (n : ℕ) → LiesAt ops q body → IsPlace p (length f.variables) body f.path f.next → nesting body ≤ 32
    → Enters p ops own f.path [] f.next positions q f.variables s n (method_pause own body f s n)
enters_first p ops own body q f positions s n lies place deep = record { outer = []; left = body; lies = lies; place = place; deep = omega (arith, deep); behind = tt; spots = refl; meant = refl }

-- the same, where the code has each list as a slice
pub begins : (p : List CheckedMethod) (ops given : List Operation) (own : ℕ) (body : Code ℕ ℕ) (q : BlockPlace) (items path : List Spot) (next : ℕ) (positions : List ℕ) (vs us : List ℤ) (s : State) (n : ℕ) → LiesAt ops q body → IsPlace p (length vs) body (reverse items) next → nesting body ≤ 32 → given ≡ ops → path ≡ reverse items → us ≡ vs
    → Enters p given own path [] next positions q us s n (method_pause own body (record { path = reverse items; next = next; variables = vs }) s n)
begins p ops given own body q items path next positions vs us s n lies place deep same_ops same_path same_values =
    let whole = method_pause own body (record { path = reverse items; next = next; variables = vs }) s n in
    let P : List Operation → List Spot → List ℤ → Type 0 = λ os ps ws. Enters p os own ps [] next positions q ws s n whole in
    subst (λ os. P os path us) (sym same_ops) (subst (λ ps. P ops ps us) (sym same_path) (subst (λ ws. P ops (reverse items) ws) (sym same_values) (enters_first p ops own body q (record { path = reverse items; next = next; variables = vs }) positions s n lies place deep)))

pub leads_on : (p : List CheckedMethod) (ops : List Operation) (own : ℕ) (path items : List Spot) (positions : List ℕ) (from : ℕ) (us vs : List ℤ) (s : State) (n : ℕ) (whole : Pause) → Leads p ops own (reverse path) positions from us s n whole → path ≡ items → us ≡ vs → Leads p ops own (reverse items) positions from vs s n whole
leads_on p ops own path items positions from us vs s n whole l same_path same_values =
    let P : List Spot → List ℤ → Type 0 = λ ps ws. Leads p ops own (reverse ps) positions from ws s n whole in
    subst (λ ps. P ps vs) same_path (subst (λ ws. P path ws) same_values l)

pub body_deep : (p : List CheckedMethod) (m : ℕ) → IsClosedProgram p → m < length p → nesting (method_at p m).body ≤ 32
body_deep p m closed few = (All-get_or (IsClosedMethod p) p m no_method few (All-from_recursion (IsClosedMethod p) p closed.methods)).deep

pub op_here : (ops : List Operation) (i : ℕ) (x o : Operation) → i < length ops → x ≡ get_or ops i x → x ≡ o → slice_get ops i ≡ Some o
op_here ops i x o h is same = slice_get_read ops (length ops) i x refl h is ∙ ap (λ y. let r : Option Operation = Some y in r) same

counted_path : (path : List Spot) (i : ℕ) → i ≤ length path → i ≡ length (reverse (take i path))
counted_path path i h = sym (length-reverse (take i path) ∙ length-take i path ∙ (let m : min i (length path) ≡ i = omega (arith, h) in m))

opened_here : (p : List CheckedMethod) (ops : List Operation) (own : ℕ) (path : List Spot) (i next : ℕ) (positions : List ℕ) (block : BlockPlace) (vs : List ℤ) (s : State) (n : ℕ) (whole : Pause) → (l : Enters p ops own (drop i path) (reverse (take i path)) next positions block vs s n whole) → i < length path → Enters p ops own (spot_in path i ∷ drop (i + 1) path) (reverse (take i path)) next positions block vs s n whole
opened_here p ops own path i next positions block vs s n whole l h = let P : List Spot → Type 0 = λ qs. Enters p ops own qs (reverse (take i path)) next positions block vs s n whole in subst P (at_spot path i h).0 l

pub within_here : (p : List CheckedMethod) (ops : List Operation) (own : ℕ) (path : List Spot) (i next : ℕ) (positions : List ℕ) (block : BlockPlace) (vs : List ℤ) (s : State) (n : ℕ) (whole : Pause) → (l : Enters p ops own (drop i path) (reverse (take i path)) next positions block vs s n whole) → i < length path → (block.first + (spot_in path i).at < length ops) × (i < 32)
within_here p ops own path i next positions block vs s n whole l h =
    let t = there p ops own (spot_in path i) (drop (i + 1) path) (reverse (take i path)) next positions block vs s n whole (opened_here p ops own path i next positions block vs s n whole l h) in
    (t.0, omega (arith, t.1, counted_path path i (omega (arith, h))))

pub not_none : (p : List CheckedMethod) (ops : List Operation) (own : ℕ) (path : List Spot) (i next : ℕ) (positions : List ℕ) (block : BlockPlace) (vs : List ℤ) (s : State) (n : ℕ) (whole : Pause) → (l : Enters p ops own (drop i path) (reverse (take i path)) next positions block vs s n whole) → i < length path → (from : ℕ) (o : Operation) → from ≡ block.first + (spot_in path i).at → slice_get ops from ≡ Some o → opened_of (spot_in path i).other from o ≡ None → ⊥
not_none p ops own path i next positions block vs s n whole l h from o sum here none =
    let P : ℕ → Type 0 = λ x. slice_get ops x ≡ Some o in
    let Q : ℕ → Type 0 = λ x. opened_of (spot_in path i).other x o ≡ None in
    never_none p ops own (spot_in path i) (drop (i + 1) path) (reverse (take i path)) next positions block vs s n whole (opened_here p ops own path i next positions block vs s n whole l h) o (subst P sum here) (subst Q sum none)

pub enters_next : (p : List CheckedMethod) (ops : List Operation) (own : ℕ) (path : List Spot) (i next : ℕ) (positions : List ℕ) (block : BlockPlace) (vs : List ℤ) (s : State) (n : ℕ) (whole : Pause) → (l : Enters p ops own (drop i path) (reverse (take i path)) next positions block vs s n whole) → i < length path → (from : ℕ) (o : Operation) (inner : BlockPlace) (behind : ℕ) → from ≡ block.first + (spot_in path i).at → slice_get ops from ≡ Some o → opened_of (spot_in path i).other from o ≡ Some (inner, behind) → length positions ≡ 32
    → Enters p ops own (drop (i + 1) path) (reverse (take (i + 1) path)) next (set positions i behind) inner vs s n whole
enters_next p ops own path i next positions block vs s n whole l h from o inner behind sum here opened wide =
    let P : List Spot → Type 0 = λ qs. Enters p ops own (drop (i + 1) path) qs next (set positions i behind) inner vs s n whole in
    let Q : ℕ → Type 0 = λ x. slice_get ops x ≡ Some o in
    let R : ℕ → Type 0 = λ x. opened_of (spot_in path i).other x o ≡ Some (inner, behind) in
    subst P (sym (at_spot path i h).1)
    (enters_on p ops own (spot_in path i) (drop (i + 1) path) (reverse (take i path)) next positions block vs s n whole (opened_here p ops own path i next positions block vs s n whole l h) o inner behind i (set positions i behind) (subst Q sum here) (subst R sum opened) refl (counted_path path i (omega (arith, h))) wide)

done : (p : List CheckedMethod) (ops : List Operation) (own : ℕ) (path : List Spot) (i next : ℕ) (positions : List ℕ) (block : BlockPlace) (vs : List ℤ) (s : State) (n : ℕ) (whole : Pause) → (l : Enters p ops own (drop i path) (reverse (take i path)) next positions block vs s n whole) → length path ≤ i → Enters p ops own [] (reverse path) next positions block vs s n whole
done p ops own path i next positions block vs s n whole l past =
    let P : List Spot → List Spot → Type 0 = λ qs rs. Enters p ops own qs (reverse rs) next positions block vs s n whole in
    subst (λ rs. P [] rs) (take_all i path past) (subst (λ qs. P qs (take i path)) (drop_all i path past) l)

pub enters_done : (p : List CheckedMethod) (ops : List Operation) (own : ℕ) (path : List Spot) (i next : ℕ) (positions : List ℕ) (block : BlockPlace) (vs : List ℤ) (s : State) (n : ℕ) (whole : Pause) → (l : Enters p ops own (drop i path) (reverse (take i path)) next positions block vs s n whole) → length path ≤ i → (to : ℕ) → to ≡ block.first + min next block.count → Leads p ops own (reverse path) positions to vs s n whole
enters_done p ops own path i next positions block vs s n whole l past to is = at_last p ops own (reverse path) next positions block vs s n whole (done p ops own path i next positions block vs s n whole l past) to is

pub done_within : (p : List CheckedMethod) (ops : List Operation) (own : ℕ) (path : List Spot) (i next : ℕ) (positions : List ℕ) (block : BlockPlace) (vs : List ℤ) (s : State) (n : ℕ) (whole : Pause) → (l : Enters p ops own (drop i path) (reverse (take i path)) next positions block vs s n whole) → length path ≤ i → block.first + min next block.count < length ops
done_within p ops own path i next positions block vs s n whole l past = last_within p ops own (reverse path) next positions block vs s n whole (done p ops own path i next positions block vs s n whole l past)

-- the path lies the other way round while operations run
pub told_again : (r : Result Exit ℕ) (items given : List Spot) (next : ℕ) (vs xs : List ℤ) (s : State) (n : ℕ) → given ≡ reverse items → pause_of r (record { path = reverse given; next = next; variables = vs }) xs s n ≡ pause_of r (record { path = items; next = next; variables = vs }) xs s n
told_again r items given next vs xs s n is = ap (λ (qs : List Spot). pause_of r (record { path = qs; next = next; variables = vs }) xs s n) (ap reverse is ∙ reverse-reverse items)
