-- Who changes an actor along its log, as records are added.
use Rattle.std.proofs.Common.{◌≡◌, ℕ, ◌⊎◌, inl, inr, ◌↔◌, List, [], ◌∷◌, ◌++◌, refl, sym, ap, subst, ◌∙◌, append_assoc}
use Rattle.std.specs.List.{AllByRecursion}
use Rattle.snap_base.specs.declared.transactions.State.{State}
use Rattle.snap_base.proofs.Lists.{all_join, all_back, all_front, weaker}
use Rattle.txn_records.specs.declared.records.Record.{Record}
use Rattle.txn_records.specs.declared.records.Record.TheVariants.{BatchComplete, ActPrepare}
use Rattle.txn_records.specs.declared.keys.Key.{Key}
use Rattle.snap_recover.specs.Logs.{states_in}
use Rattle.snap_follow.specs.Followed.{Tells, TellsOf, IsLeftBy, IsAnother, HasChanged, ChangesAhead}

-- ---- a record tells of one actor, of one transaction, and one state

pub tells_one : (a b : ℕ) (k j : Key) (r : Record) → Tells a k r → Tells b j r → (a ≡ b) × (k ≡ j)
tells_one a b k j (BatchComplete bid actor state) h g = (sym h.0 ∙ g.0, h.1 ∙ sym g.1)
tells_one a b k j (ActPrepare tid actor state) h g = (sym h.0 ∙ g.0, h.1 ∙ sym g.1)
tells_one a b k j r h g = absurd h

-- a record that tells this state tells no other one
pub one_told : (r : Record) (s t : State) → states_in r ≡ s ∷ [] → states_in r ≡ t ∷ [] → s ≡ t
one_told r s t e f = let both : ◌≡◌ {A = List State} (s ∷ []) (t ∷ []) = sym e ∙ f in cc both

-- ---- what stands before an element of a longer list

pub no_split : (front : List Record) (own : Record) (behind : List Record) → ¬ (◌≡◌ {A = List Record} [] (front ++ own ∷ behind))
no_split [] own behind q = absurd (cc q)
no_split (y ∷ ys) own behind q = absurd (cc q)

pub Split : List Record → Record → List Record → Record → List Record → Type 0
Split rs r front own behind = ((own ≡ r) × (front ≡ rs)) ⊎ ((b : List Record) × (rs ≡ front ++ own ∷ b) × (behind ≡ b ++ r ∷ []))

pub split_more : (rs : List Record) (r : Record) (front : List Record) (own : Record) (behind : List Record) → rs ++ r ∷ [] ≡ front ++ own ∷ behind → Split rs r front own behind
unfolding Split
split_more [] r [] own behind e = let same : own ≡ r = cc e in inl (same, refl)
split_more [] r (x ∷ front) own behind e = let bad : [] ≡ front ++ own ∷ behind = cc e in absurd (no_split front own behind bad)
split_more (x ∷ rs) r [] own behind e =
    let same : x ≡ own = cc e in
    let tail : behind ≡ rs ++ r ∷ [] = cc e in
    inr (rs, ap (λ (z : Record). z ∷ rs) same, tail)
split_more (x ∷ rs) r (y ∷ front) own behind e =
    let same : y ≡ x = cc e in
    let tail : rs ++ r ∷ [] ≡ front ++ own ∷ behind = cc e in
    elim (split_more rs r front own behind tail) [
      | inl p ↦ inl (p.0, ap (λ (z : Record). z ∷ front) same ∙ ap (λ (z : List Record). x ∷ z) p.1)
      | inr p ↦ inr (p.0, ap (λ (z : List Record). x ∷ z) p.1 ∙ ap (λ (z : Record). z ∷ (front ++ own ∷ p.0)) (sym same), p.2)
    ]

-- ---- a record more

module _ (Counts : Key → Type 0) (Begins : ℕ → State → Type 0) where
  -- the state that is left is the one that the record tells, where it is of one that counts, and else the one of before
  pub left_more : (a : ℕ) (rs : List Record) (r : Record) (s : State) → IsLeftBy Counts Begins a (rs ++ r ∷ []) s
      ↔ (((states_in r ≡ s ∷ []) × TellsOf Counts a r) ⊎ (¬ TellsOf Counts a r × IsLeftBy Counts Begins a rs s))
  unfolding Split
  left_more a rs r s = (there, back)
    where
      there : IsLeftBy Counts Begins a (rs ++ r ∷ []) s → ((states_in r ≡ s ∷ []) × TellsOf Counts a r) ⊎ (¬ TellsOf Counts a r × IsLeftBy Counts Begins a rs s)
      there (inl (x, told, (front, behind, e, p, quiet))) = elim (split_more rs r front x behind e) [
        | inl q ↦ inl (subst (λ (z : Record). states_in z ≡ s ∷ []) q.0 told, subst (TellsOf Counts a) q.0 p)
        | inr q ↦
            let parts : AllByRecursion (λ (z : Record). ¬ TellsOf Counts a z) (q.0 ++ r ∷ []) = subst (AllByRecursion (λ (z : Record). ¬ TellsOf Counts a z)) q.2 quiet in
            inr ((all_back (λ (z : Record). ¬ TellsOf Counts a z) q.0 (r ∷ []) parts).0, inl (x, told, (front, q.0, q.1, p, all_front (λ (z : Record). ¬ TellsOf Counts a z) q.0 (r ∷ []) parts)))
      ]
      there (inr (quiet, b)) = inr ((all_back (λ (z : Record). ¬ TellsOf Counts a z) rs (r ∷ []) quiet).0, inr (all_front (λ (z : Record). ¬ TellsOf Counts a z) rs (r ∷ []) quiet, b))

      back : ((states_in r ≡ s ∷ []) × TellsOf Counts a r) ⊎ (¬ TellsOf Counts a r × IsLeftBy Counts Begins a rs s) → IsLeftBy Counts Begins a (rs ++ r ∷ []) s
      back (inl (told, p)) = inl (r, told, (rs, [], refl, p, tt))
      back (inr (n, inl (x, told, (front, behind, e, p, quiet)))) =
          inl (x, told, (front, behind ++ r ∷ [], ap (λ (z : List Record). z ++ r ∷ []) e ∙ append_assoc front (x ∷ behind) (r ∷ []), p, all_join (λ (z : Record). ¬ TellsOf Counts a z) behind (r ∷ []) quiet (n, tt)))
      back (inr (n, inr (quiet, b))) = inr (all_join (λ (z : Record). ¬ TellsOf Counts a z) rs (r ∷ []) quiet (n, tt), b)

  -- of no records it is the first one
  pub left_none : (a : ℕ) (s : State) → IsLeftBy Counts Begins a [] s ↔ Begins a s
  left_none a s = (there, λ b. inr (tt, b))
    where
      there : IsLeftBy Counts Begins a [] s → Begins a s
      there (inl (x, told, (front, behind, e, p, quiet))) = absurd (no_split front x behind e)
      there (inr (quiet, b)) = b

  pub changed_more : (a : ℕ) (k : Key) (rs : List Record) (r : Record) → HasChanged Counts Begins a k (rs ++ r ∷ []) → HasChanged Counts Begins a k rs ⊎ (Tells a k r × IsAnother Counts Begins a rs r)
  unfolding Split
  changed_more a k rs r h = elim (split_more rs r h.front h.own h.behind h.splits) [
    | inl p ↦ inr (subst (Tells a k) p.0 h.is_own, subst (λ (z : List Record). IsAnother Counts Begins a z r) p.1 (subst (IsAnother Counts Begins a h.front) p.0 h.another))
    | inr p ↦ inl (record { front = h.front; own = h.own; behind = p.0; splits = p.1; is_own = h.is_own; another = h.another })
  ]

  pub changed_keeps : (a : ℕ) (k : Key) (rs more : List Record) → HasChanged Counts Begins a k rs → HasChanged Counts Begins a k (rs ++ more)
  changed_keeps a k rs more h = record {
    front = h.front;
    own = h.own;
    behind = h.behind ++ more;
    splits = ap (λ (z : List Record). z ++ more) h.splits ∙ append_assoc h.front (h.own ∷ h.behind) more;
    is_own = h.is_own;
    another = h.another;
  }

  pub changed_here : (a : ℕ) (k : Key) (rs : List Record) (r : Record) → Tells a k r → IsAnother Counts Begins a rs r → HasChanged Counts Begins a k (rs ++ r ∷ [])
  changed_here a k rs r t n = record { front = rs; own = r; behind = []; splits = refl; is_own = t; another = n }

  pub changed_none : (a : ℕ) (k : Key) → ¬ HasChanged Counts Begins a k []
  changed_none a k h = no_split h.front h.own h.behind h.splits

  pub ahead_more : (a : ℕ) (j k : Key) (rs : List Record) (r : Record) → ChangesAhead Counts Begins a j k (rs ++ r ∷ []) → ChangesAhead Counts Begins a j k rs ⊎ (Tells a k r × HasChanged Counts Begins a j rs)
  unfolding Split
  ahead_more a j k rs r h = elim (split_more rs r h.front h.own h.behind h.splits) [
    | inl p ↦ inr (subst (Tells a k) p.0 h.is_own, subst (HasChanged Counts Begins a j) p.1 h.ahead)
    | inr p ↦ inl (record { front = h.front; own = h.own; behind = p.0; splits = p.1; is_own = h.is_own; ahead = h.ahead })
  ]

  pub ahead_keeps : (a : ℕ) (j k : Key) (rs more : List Record) → ChangesAhead Counts Begins a j k rs → ChangesAhead Counts Begins a j k (rs ++ more)
  ahead_keeps a j k rs more h = record {
    front = h.front;
    own = h.own;
    behind = h.behind ++ more;
    splits = ap (λ (z : List Record). z ++ more) h.splits ∙ append_assoc h.front (h.own ∷ h.behind) more;
    is_own = h.is_own;
    ahead = h.ahead;
  }

  pub ahead_here : (a : ℕ) (j k : Key) (rs : List Record) (r : Record) → Tells a k r → HasChanged Counts Begins a j rs → ChangesAhead Counts Begins a j k (rs ++ r ∷ [])
  ahead_here a j k rs r t h = record { front = rs; own = r; behind = []; splits = refl; is_own = t; ahead = h }

  pub ahead_none : (a : ℕ) (j k : Key) → ¬ ChangesAhead Counts Begins a j k []
  ahead_none a j k h = no_split h.front h.own h.behind h.splits

-- ---- those that count told in two ways

module _ (C D : Key → Type 0) (B E : ℕ → State → Type 0) (there : (k : Key) → C k ↔ D k) (begun : (a : ℕ) (s : State) → B a s ↔ E a s) where
  told_alike : (a : ℕ) (r : Record) → TellsOf D a r → TellsOf C a r
  told_alike a r (k, c, t) = (k, (there k).1 c, t)

  left_alike : (a : ℕ) (rs : List Record) (s : State) → IsLeftBy D E a rs s → IsLeftBy C B a rs s
  left_alike a rs s (inl (r, told, (front, behind, e, p, quiet))) =
      inl (r, told, (front, behind, e, told_alike a r p, weaker (λ (z : Record). ¬ TellsOf D a z) (λ (z : Record). ¬ TellsOf C a z) behind (λ z n q. n (q.0, (there q.0).0 q.1, q.2)) quiet))
  left_alike a rs s (inr (quiet, b)) = inr (weaker (λ (z : Record). ¬ TellsOf D a z) (λ (z : Record). ¬ TellsOf C a z) rs (λ z n q. n (q.0, (there q.0).0 q.1, q.2)) quiet, (begun a s).1 b)

  changed_alike : (a : ℕ) (k : Key) (rs : List Record) → HasChanged C B a k rs → HasChanged D E a k rs
  changed_alike a k rs h = record {
    front = h.front;
    own = h.own;
    behind = h.behind;
    splits = h.splits;
    is_own = h.is_own;
    another = λ s l. h.another s (left_alike a h.front s l);
  }

  pub ahead_alike : (a : ℕ) (j k : Key) (rs : List Record) → ChangesAhead C B a j k rs → ChangesAhead D E a j k rs
  ahead_alike a j k rs h = record { front = h.front; own = h.own; behind = h.behind; splits = h.splits; is_own = h.is_own; ahead = changed_alike a j h.front h.ahead }
