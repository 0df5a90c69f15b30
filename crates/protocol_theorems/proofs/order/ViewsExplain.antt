-- What a transaction's slices explain, its views explain.
use Rattle.std.specs.Prelude.{◌≡◌, refl, ℕ, ◌<◌, ◌≤◌, ◌==◌, Bool, true, false, if◌then◌else◌, Option, Some, None, List, [], ◌∷◌, length, filter}
use Rattle.std.specs.List.{AllByRecursion}
use Rattle.std.proofs.Common.{arith, sym, ap, subst, inl, inr, ◌∙◌}
use Rattle.std.proofs.lemmas.Bool.{eqb-true, eqb-false, ne_eqb, cases_lt}
use Rattle.snap_base.specs.declared.transactions.State.{State}
use Rattle.snap_base.specs.declared.transactions.Tx.{Tx}
use Rattle.snap_base.specs.declared.transactions.TxResult.{TxResult}
use Rattle.snap_base.specs.declared.transactions.TxResult.TheVariants.{Value, Fail}
use Rattle.protocol.specs.Fixed.{Fixed, Ended, tx_at}
use Rattle.protocol.specs.Facts.{Alone, Facts, alone, or_undone, state_in}
use Rattle.protocol.specs.Parts.{Who}
use Rattle.protocol.specs.Words.{is_who, is_value}
use Rattle.protocol.specs.History.{View, Done, Slice, Step, Trail, Ran, Stands, Gone, view_in, last_left, slices_of}
use Rattle.protocol_laws.specs.Tracks.{Linked, slices_in}
use Rattle.protocol_laws.specs.Turns.{Rising}
use Rattle.protocol_laws.specs.Trails.{walked, Explained, on_actor}
use Rattle.protocol_laws.specs.Commits.{Finds, left_by, left_as}
use Rattle.protocol_laws.specs.Linked.{Agrees, IsExplained}
use Rattle.protocol_laws.proofs.machine.TrackLists.{linked_parts}
use Rattle.protocol_laws.proofs.machine.TrailsKept.{walks_from, walked_length}
use Rattle.protocol.specs.Rests.{IsTxIn}

-- ---- the slices of one, among those of a batch in the order of tids

abbrev pub own_slices : ℕ → List Slice → List Slice
own_slices t ss = filter (λ x. x.tid == t) ss

none_above : (t low : ℕ) (ss : List Slice) → t < low → Rising low ss → own_slices t ss ≡ []
none_above t low [] l r = refl
none_above t low (x ∷ xs) l r = rw (ne_eqb x.tid t (λ q. omega (arith, q, l, r.0))) (none_above t x.tid xs (omega (arith, l, r.0)) r.1)

stays_above : (t low : ℕ) (s : State) (ss : List Slice) → t < low → Rising low ss → last_left t s ss ≡ s
stays_above t low s [] l r = refl
stays_above t low s (x ∷ xs) l r = rw (ne_eqb x.tid t (λ q. omega (arith, q, l, r.0))) (stays_above t x.tid s xs (omega (arith, l, r.0)) r.1)

-- those that go on from a slice of it are one block
rest_links : (t : ℕ) (s to : State) (ss : List Slice) → Rising t ss → Linked s ss to → Linked s (own_slices t ss) (last_left t s ss)
rest_links t s to [] r l = refl
rest_links t s to (x ∷ xs) r l = by (x.tid == t) refl (rest_links t x.left to xs)
  where
    by : (b : Bool) → (x.tid == t) ≡ b → (Rising t xs → Linked x.left xs to → Linked x.left (own_slices t xs) (last_left t x.left xs)) → Linked s (if b then x ∷ own_slices t xs else own_slices t xs) (last_left t (if b then x.left else s) xs)
    by true e k = (l.0, k (subst (λ z. Rising z xs) (eqb-true x.tid t e) r.1) l.1)
    by false e k =
        let above : t < x.tid = strictly (eqb-false x.tid t e) in
        rw (none_above t x.tid xs above r.1, stays_above t x.tid s xs above r.1) refl
      where
        strictly : (x.tid ≡ t → ⊥) → t < x.tid
        strictly n = elim (cases_lt t x.tid) [ inl a ↦ a | inr c ↦ absurd (n (omega (arith, r.0, c))) ]

-- from the state that its view found, they link to the one that its view left
pub block_links : (t low : ℕ) (last to s : State) (ss : List Slice) → Rising low ss → Linked last ss to → Finds (view_in t ss) s → Linked s (own_slices t ss) (left_by (view_in t ss) s)
block_links t low last to s [] r l f = refl
block_links t low last to s (x ∷ xs) r l f = by (x.tid == t) refl f (block_links t x.tid x.left to s xs r.1 l.1)
  where
    by : (b : Bool) → (x.tid == t) ≡ b → Finds (if b then Some (record { found = x.found; left = last_left t x.left xs }) else view_in t xs) s → (Finds (view_in t xs) s → Linked s (own_slices t xs) (left_by (view_in t xs) s))
        → Linked s (if b then x ∷ own_slices t xs else own_slices t xs) (left_by (if b then Some (record { found = x.found; left = last_left t x.left xs }) else view_in t xs) s)
    by true e f k = (f, rest_links t x.left to xs (subst (λ z. Rising z xs) (eqb-true x.tid t e) r.1) l.1)
    by false e f k = k f

-- without slices, no view
pub no_own : (t : ℕ) (ss : List Slice) → own_slices t ss ≡ [] → view_in t ss ≡ None
no_own t [] e = refl
no_own t (x ∷ xs) e = by (x.tid == t) e (no_own t xs)
  where
    by : (b : Bool) → (if b then x ∷ own_slices t xs else own_slices t xs) ≡ [] → (own_slices t xs ≡ [] → view_in t xs ≡ None) → (if b then Some (record { found = x.found; left = last_left t x.left xs }) else view_in t xs) ≡ None
    by true q k = absurd (cc q)
    by false q k = k q

-- those of who stands link among themselves
pub own_linked : (who : Who) (first last : State) (rs : List Ran) → Linked first (slices_in rs) last → (from : State) × ((to : State) × Linked from (slices_of who rs) to)
own_linked who first last [] l = (first, (last, l))
own_linked who first last (Gone y ss ∷ rs) l = let p = linked_parts first last ss (slices_in rs) l in own_linked who p.0 last rs p.2
own_linked who first last (Stands y c ss ∷ rs) l = let p = linked_parts first last ss (slices_in rs) l in by (is_who y who) p.0 p.1 (own_linked who p.0 last rs p.2)
  where
    by : (b : Bool) (mid : State) → Linked first ss mid → (from : State) × ((to : State) × Linked from (slices_of who rs) to) → (from : State) × ((to : State) × Linked from (if b then ss else slices_of who rs) to)
    by true mid h k = (first, (mid, h))
    by false mid h k = k

-- ---- steps

none_outside : (a t n : ℕ) (xs : List Step) → n ≤ a → AllByRecursion (λ x. x.actor < n) xs → on_actor a t xs ≡ []
none_outside a t n [] l h = refl
none_outside a t n (x ∷ xs) l h = rw (ne_eqb x.actor a (λ q. omega (arith, q, l, h.0))) (none_outside a t n xs l h.1)

-- ---- a transaction at its end

undone_result : (world new : List State) (r : TxResult) → (or_undone world (record { result = r; world = new })).result ≡ r
undone_result world new (Value v) = refl
undone_result world new (Fail code) = refl

undone_length : (world new : List State) (r : TxResult) → length new ≡ length world → length (or_undone world (record { result = r; world = new })).world ≡ length world
undone_length world new (Value v) e = e
undone_length world new (Fail code) e = refl

undone_state : (world new : List State) (r : TxResult) (a : ℕ) (s : State) → state_in new a ≡ s → state_in (or_undone world (record { result = r; world = new })).world a ≡ (if is_value (Some r) then s else state_in world a)
undone_state world new (Value v) a s e = e
undone_state world new (Fail code) a s e = refl

left_if : (b : Bool) (o : Option View) (s : State) → (if b then left_by o s else s) ≡ left_as b o s
left_if true o s = refl
left_if false o s = refl

-- On each actor the trail has the slices that the views were taken from, and these link.
pub record Tied (d : Done) (r : Trail) (t : ℕ) (a : ℕ) : Type 0 where
  pub slices : List Slice
  pub low : ℕ
  pub from : State
  pub to : State
  pub same : on_actor a t r.steps ≡ own_slices t slices
  pub view : d.views a ≡ view_in t slices
  pub rising : Rising low slices
  pub links : Linked from slices to

pub views_explain : {C : Type 0} (w : Fixed C) (Of : Tx → C → Type 0) (finish : C → List State → Alone) (d : Done) (r : Trail) (t : ℕ) (v : TxResult)
    → Facts (length w.text.opening.states) w.code (IsTxIn w.text) Of finish → Explained w Of finish r t (Ended v) → d.result ≡ Some v → r.tx ≡ d.tx
    → AllByRecursion (λ x. x.actor < length w.text.opening.states) r.steps → ((a : ℕ) → Tied d r t a) → IsExplained w finish d
views_explain w Of finish d r t v facts e is same within tied = λ world n agrees.
    let walk = walks_from t r.steps world (λ a. left_by (d.views a) (state_in world a)) (subst (λ z. AllByRecursion (λ x. x.actor < z) r.steps) (sym n) within) (λ a. at world n agrees a) in
    let new = walked r.steps world in
    let whole : finish (w.code.start 0 (tx_at w.text d.tx)) world ≡ record { result = v; world = new } =
    facts.only_named_by_tid 0 t (tx_at w.text d.tx) world ∙ (ap (λ k. finish (w.code.start t (tx_at w.text k)) world) (sym same) ∙ e.meaning world n walk.0) in
    let once : alone w.code finish world (tx_at w.text d.tx) ≡ or_undone world (record { result = v; world = new }) = ap (or_undone world) whole in
    record {
      result = ap (λ z. Some z.result) once ∙ (ap Some (undone_result world new v) ∙ sym is);
      as_many = ap (λ z. length z.world) once ∙ undone_length world new v (walked_length r.steps world);
      leaves = λ a k. ap (λ z. state_in z.world a) once ∙ (undone_state world new v a (left_by (d.views a) (state_in world a)) (walk.1 a)
          ∙ (left_if (is_value (Some v)) (d.views a) (state_in world a) ∙ sym (ap (λ z. left_as (is_value z) (d.views a) (state_in world a)) is)));
    }
  where
    found : (world : List State) → length world ≡ length w.text.opening.states → Agrees d.views world → (a : ℕ) (x : Tied d r t a) → Finds (d.views a) (state_in world a)
    found world n agrees a x = elim (cases_lt a (length world)) [
      | inl l ↦ agrees a l
      | inr l ↦
          let none : own_slices t x.slices ≡ [] = sym x.same ∙ none_outside a t (length w.text.opening.states) r.steps (omega (arith, l, n)) within in
          subst (λ o. Finds o (state_in world a)) (sym (x.view ∙ no_own t x.slices none)) tt
    ]

    at : (world : List State) → length world ≡ length w.text.opening.states → Agrees d.views world → (a : ℕ) → Linked (state_in world a) (on_actor a t r.steps) (left_by (d.views a) (state_in world a))
    at world n agrees a =
        let x = tied a in
        let f : Finds (view_in t x.slices) (state_in world a) = subst (λ o. Finds o (state_in world a)) x.view (found world n agrees a x) in
        let l = block_links t x.low x.from x.to (state_in world a) x.slices x.rising x.links f in
        subst (λ ss. Linked (state_in world a) ss (left_by (d.views a) (state_in world a))) (sym x.same) (subst (λ o. Linked (state_in world a) (own_slices t x.slices) (left_by o (state_in world a))) (sym x.view) l)
