-- The rests of a transaction, and the facts of code over a text's own transactions, as the laws over runs ask for them.
use Rattle.std.specs.Prelude.{◌≡◌, refl, ℕ, ◌<◌, List, [], ◌∷◌, length}
use Rattle.std.proofs.Common.{sym, subst}
use Rattle.snap_base.specs.declared.transactions.State.{State}
use Rattle.snap_base.specs.declared.transactions.Tx.{Tx}
use Rattle.protocol.specs.Fixed.{Text, Fixed, Code, Go, tx_at}
use Rattle.protocol.specs.Facts.{Alone, Steps, Facts}

-- slices on these states, one after the other, lead from one control to another one
abbrev pub Leads : {C : Type 0} → Code C → C → List State → C → Type 0
Leads code c [] d = c ≡ d
Leads {C} code c (s ∷ ss) d = (b : ℕ) × ((e : C) × (((code.slice c s).next ≡ Go b e) × Leads code e ss d))

-- The control is a rest of the transaction, whatever states its slices are given: the least relation that the facts allow.
abbrev pub IsRest : {C : Type 0} → Code C → (Tx → Type 0) → Tx → C → Type 0
IsRest code Allowed tx c = Allowed tx × ((t : ℕ) × ((ss : List State) × Leads code (code.start t tx) ss c))

-- the text has it
pub record IsTxIn (w : Text) (tx : Tx) : Type 0 where
  pub number : ℕ
  pub there : number < length w.txs
  pub is_it : tx_at w number ≡ tx

-- `finish` tells what the rests of the text's transactions mean, and the code has the facts of them.
abbrev pub HasFacts : {C : Type 0} → Fixed C → (C → List State → Alone) → Type 0
HasFacts w finish = Facts (length w.text.opening.states) w.code (IsTxIn w.text) (IsRest w.code (IsTxIn w.text)) finish

-- ---- code that has the facts of more transactions, or of another relation, has these

leads_more : {C : Type 0} (code : Code C) (c : C) (ss : List State) (d e : C) (s : State) (b : ℕ) → Leads code c ss d → (code.slice d s).next ≡ Go b e → (rs : List State) × Leads code c rs e
leads_more code c [] d e s b l q = (s ∷ [], (b, (e, (subst (λ x. (code.slice x s).next ≡ Go b e) (sym l) q, refl))))
leads_more code c (r ∷ rs) d e s b l q = let m = leads_more code l.1.0 rs d e s b l.1.1.1 q in (r ∷ m.0, (l.0, (l.1.0, (l.1.1.0, m.1))))

leads_of : {C : Type 0} (actors : ℕ) (code : Code C) (Allowed : Tx → Type 0) (Of : Tx → C → Type 0) (finish : C → List State → Alone) (tx : Tx) → Facts actors code Allowed Of finish → (c : C) (ss : List State) (d : C) → Of tx c → Leads code c ss d → Of tx d
leads_of actors code Allowed Of finish tx f c [] d o l = subst (λ x. Of tx x) l o
leads_of actors code Allowed Of finish tx f c (s ∷ ss) d o l = leads_of actors code Allowed Of finish tx f l.1.0 ss d (f.stays tx c l.1.0 l.0 (record { from = s; of_it = o; goes = l.1.1.0 })) l.1.1.1

pub facts_of_rests : {C : Type 0} (actors : ℕ) (code : Code C) (Allowed Fewer : Tx → Type 0) (Of : Tx → C → Type 0) (finish : C → List State → Alone) → ((tx : Tx) → Fewer tx → Allowed tx) → Facts actors code Allowed Of finish → Facts actors code Fewer (IsRest code Fewer) finish
facts_of_rests {C} actors code Allowed Fewer Of finish fewer f = record {
  starts = λ t tx is. (is, (t, ([], refl)));
  stays = λ tx c d b x. let r = x.of_it in let m = leads_more code (code.start r.1.0 tx) r.1.1.0 c d x.from b r.1.1.1 x.goes in (r.0, (r.1.0, m));
  begins_at_root = f.begins_at_root;
  goes_elsewhere = λ tx c d b x. f.goes_elsewhere tx c d b (step tx c d b x);
  rests_where_it_stands = λ tx c p r. f.rests_where_it_stands tx c p (of tx c r);
  rests_on_declared = λ t tx a is. f.rests_on_declared t tx a (fewer tx is);
  rests_no_further = λ tx c d a b p x. f.rests_no_further tx c d a b p (step tx c d b x);
  stood_here = λ tx c r. f.stood_here tx c (of tx c r);
  stood_before = λ tx c d a b x. f.stood_before tx c d a b (step tx c d b x);
  few_actors = λ tx c r. f.few_actors tx c (of tx c r);
  few_visits = f.few_visits;
  one_visit = λ tx c r. f.one_visit tx c (of tx c r);
  visits_fall = λ tx c d b x. f.visits_fall tx c d b (step tx c d b x);
  readers_leave = λ tx c s e r. f.readers_leave tx c s e (of tx c r);
  only_named_by_tid = f.only_named_by_tid;
  slices_keep_the_meaning = λ tx c world r l. f.slices_keep_the_meaning tx c world (of tx c r) l;
}
  where
    of : (tx : Tx) (c : C) → IsRest code Fewer tx c → Of tx c
    of tx c r = leads_of actors code Allowed Of finish tx f (code.start r.1.0 tx) r.1.1.0 c (f.starts r.1.0 tx (fewer tx r.0)) r.1.1.1

    step : (tx : Tx) (c d : C) (b : ℕ) → Steps code (IsRest code Fewer) tx c b d → Steps code Of tx c b d
    step tx c d b x = record { from = x.from; of_it = of tx c x.of_it; goes = x.goes }
