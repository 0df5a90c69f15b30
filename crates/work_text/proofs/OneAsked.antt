-- A line asks for one transaction.
use Rattle.std.proofs.Common.{◌≡◌, ◌⊎◌, ℕ, ◌+◌, ◌<◌, ◌≤◌, List, [], ◌∷◌, ◌++◌, length, get_or, take, drop, map, refl, sym, ap, ◌∙◌, arith, inl, inr, append_assoc}
use Rattle.std.specs.Prelude.{Ok, Err, Result, ℤ}
use Rattle.std.specs.List.{AllByRecursion}
use Rattle.std.specs.Fmt.{decimal, signed_decimal}
use Rattle.std.proofs.lemmas.List.{length-map}
use Rattle.std.proofs.lemmas.Fmt.{decimal_injective}
use Rattle.std.proofs.Math.Seq.{take-append_seam, drop-append_seam}
use Rattle.snap_base.specs.declared.ids.ActorId.{ActorId}
use Rattle.snap_base.specs.declared.transactions.Kind.{Kind}
use Rattle.snap_base.specs.declared.transactions.Kind.TheVariants.{Pact, Act}
use Rattle.snap_base.specs.declared.transactions.Tx.{Tx}
use Rattle.aml_tree.specs.Tree.{CheckedMethod}
use Rattle.aml_check.specs.Names.{method_at, method_names}
use Rattle.aml_check.specs.Closed.{AreDistinct}
use Rattle.aml_check.specs.Transactions.{IsUse}
use Rattle.snap_work.specs.declared.faults.WorkFault.{WorkFault}
use Rattle.snap_work.specs.declared.faults.WorkCause.{WorkCause}
use Rattle.snap_work.specs.declared.faults.WorkCause.TheVariants as cause
use Rattle.snap_work.specs.declared.faults.Limit.{Limit}
use Rattle.snap_work.specs.declared.faults.Limit.TheVariants as limit
use Rattle.work_text.specs.Lines.{Line}
use Rattle.work_text.specs.Transactions.{use_word, kind_word, uses_words, transaction_words, AreUses, Asks, DeclaresRoot, LimitFault, TransactionFault, transaction}
use Rattle.work_text.proofs.OneOf.{IsOne, same_fault}
use Rattle.work_text.proofs.OneLine.{numbers_one}
use Rattle.work_text.proofs.Words.{cut_one, decimal_free, method_one}

-- ---- words

kind_one : (k l : Kind) → kind_word k ≡ kind_word l → k ≡ l
kind_one Pact Pact e = refl
kind_one Pact Act e = absurd (omega (arith, ap length e))
kind_one Act Pact e = absurd (omega (arith, ap length e))
kind_one Act Act e = refl

use_one : (actors : ℕ) (u v : ActorId × ℕ) → actors ≤ 256 → use_word u ≡ use_word v → IsUse actors u → IsUse actors v → u ≡ v
use_one actors u v few e h k =
    let cut = cut_one (decimal u.0.0) (decimal u.1) (decimal v.0.0) (decimal v.1) (decimal_free u.0.0 (omega (arith, h.actor, few))) (decimal_free v.0.0 (omega (arith, k.actor, few)))
    (sym (append_assoc (decimal u.0.0) (58 ∷ []) (decimal u.1)) ∙ e ∙ append_assoc (decimal v.0.0) (58 ∷ []) (decimal v.1)) in
    let actor : u.0.0 ≡ v.0.0 = decimal_injective u.0.0 v.0.0 (omega (arith, h.actor, few)) (omega (arith, k.actor, few)) cut.0 in
    let calls : u.1 ≡ v.1 = decimal_injective u.1 v.1 (omega (arith, h.calls.1)) (omega (arith, k.calls.1)) cut.1 in
    let make : ℕ → ℕ → ActorId × ℕ = λ a n. (record { 0 = a }, n) in
    ap (λ a. make a u.1) actor ∙ ap (make v.0.0) calls

declared_one : (actors : ℕ) (us vs : List (ActorId × ℕ)) → actors ≤ 256 → map use_word us ≡ map use_word vs → AllByRecursion (IsUse actors) us → AllByRecursion (IsUse actors) vs → us ≡ vs
declared_one actors [] [] few e h k = refl
declared_one actors [] (v ∷ vs) few e h k = cc
declared_one actors (u ∷ us) [] few e h k = cc
declared_one actors (u ∷ us) (v ∷ vs) few e h k =
    let first : use_word u ≡ use_word v = ap (λ ws. get_or ws 0 []) e in
    let more : map use_word us ≡ map use_word vs = ap (drop 1) e in
    ap (λ x. x ∷ us) (use_one actors u v few first h.0 k.0) ∙ ap (λ xs. v ∷ xs) (declared_one actors us vs few more h.1 k.1)

uses_one : (k l : Kind) (actors : ℕ) (us vs : List (ActorId × ℕ)) → k ≡ l → actors ≤ 256 → uses_words k us ≡ uses_words l vs → AreUses k actors us → AreUses l actors vs → us ≡ vs
uses_one Pact Pact actors us vs same few e h k = declared_one actors us vs few (ap (drop 1) e) h.1 k.1
uses_one Pact Act actors us vs same few e h k = cc
uses_one Act Pact actors us vs same few e h k = cc
uses_one Act Act actors us vs same few e h k = h ∙ sym k

split_one : {A : Type 0} (xs ys zs ws : List A) → length xs ≡ length zs → xs ++ ys ≡ zs ++ ws → (xs ≡ zs) × (ys ≡ ws)
split_one xs ys zs ws len e = (
  sym (take-append_seam xs ys) ∙ ap (take (length xs)) e ∙ ap (λ n. take n (zs ++ ws)) len ∙ take-append_seam zs ws,
  sym (drop-append_seam xs ys) ∙ ap (drop (length xs)) e ∙ ap (λ n. drop n (zs ++ ws)) len ∙ drop-append_seam zs ws,
)

-- ---- transactions

pub asks_one : (p : List CheckedMethod) (actors : ℕ) (line : List ℕ) (tx ty : Tx) → AreDistinct (method_names p) → actors ≤ 256 → Asks p actors line tx → Asks p actors line ty → tx ≡ ty
asks_one p actors line tx ty distinct few h k =
    let both : transaction_words p tx ≡ transaction_words p ty = sym h.spelled ∙ k.spelled in
    let kind : tx.kind ≡ ty.kind = kind_one tx.kind ty.kind (ap (λ ws. get_or ws 0 []) both) in
    let number : decimal tx.actor.0 ≡ decimal ty.actor.0 = ap (λ ws. get_or ws 1 []) both in
    let actor : tx.actor.0 ≡ ty.actor.0 = decimal_injective tx.actor.0 ty.actor.0 (omega (arith, h.actor, few)) (omega (arith, k.actor, few)) number in
    let method : tx.method ≡ ty.method = method_one p distinct tx.method ty.method h.method k.method (ap (λ ws. get_or ws 2 []) both) in
    let len : length (map signed_decimal tx.args) ≡ length (map signed_decimal ty.args) =
    length-map tx.args signed_decimal ∙ h.arguments ∙ ap (λ m. length (method_at p m).parameters) method ∙ sym k.arguments ∙ sym (length-map ty.args signed_decimal) in
    let behind = split_one (map signed_decimal tx.args) (uses_words tx.kind tx.uses) (map signed_decimal ty.args) (uses_words ty.kind ty.uses) len (ap (drop 3) both) in
    let args : tx.args ≡ ty.args = numbers_one tx.args ty.args behind.0 h.values k.values in
    let uses : tx.uses ≡ ty.uses = uses_one tx.kind ty.kind actors tx.uses ty.uses kind few behind.1 h.uses k.uses in
    let make : Kind → ℕ → ℕ → List ℤ → List (ActorId × ℕ) → Tx = λ c a m vs us. record { kind = c; actor = record { 0 = a }; method = m; args = vs; uses = us } in
    ap (λ c. make c tx.actor.0 tx.method tx.args tx.uses) kind ∙ ap (λ a. make ty.kind a tx.method tx.args tx.uses) actor ∙ ap (λ m. make ty.kind ty.actor.0 m tx.args tx.uses) method
    ∙ ap (λ vs. make ty.kind ty.actor.0 ty.method vs tx.uses) args ∙ ap (make ty.kind ty.actor.0 ty.method ty.args) uses

-- ---- faults

-- what is wrong with a transaction that a line asks for
abbrev IsRefused : ℕ → Tx → WorkCause → Type 0
IsRefused before tx why =
    ((why ≡ cause.Limit limit.Uses (length tx.uses)) × (16 < length tx.uses))
    ⊎ ((why ≡ cause.Limit limit.Transactions (before + 1)) × (length tx.uses ≤ 16) × (20000 < before + 1))
    ⊎ ((why ≡ cause.RootNotDeclared) × (length tx.uses ≤ 16) × (before < 20000) × ¬ DeclaresRoot tx.kind tx.actor.0 tx.uses)

one_refusal : (before : ℕ) (tx : Tx) (c d : WorkCause) → IsRefused before tx c → IsRefused before tx d → c ≡ d
one_refusal before tx c d (inl f) (inl g) = f.0 ∙ sym g.0
one_refusal before tx c d (inl f) (inr (inl g)) = absurd (omega (arith, f.1, g.1))
one_refusal before tx c d (inl f) (inr (inr g)) = absurd (omega (arith, f.1, g.1))
one_refusal before tx c d (inr (inl f)) (inl g) = absurd (omega (arith, f.1, g.1))
one_refusal before tx c d (inr (inl f)) (inr (inl g)) = f.0 ∙ sym g.0
one_refusal before tx c d (inr (inl f)) (inr (inr g)) = absurd (omega (arith, f.2, g.2))
one_refusal before tx c d (inr (inr f)) (inl g) = absurd (omega (arith, f.1, g.1))
one_refusal before tx c d (inr (inr f)) (inr (inl g)) = absurd (omega (arith, f.2, g.2))
one_refusal before tx c d (inr (inr f)) (inr (inr g)) = f.0 ∙ sym g.0

not_refused : (before : ℕ) (tx : Tx) (c : WorkCause) → length tx.uses ≤ 16 → before < 20000 → DeclaresRoot tx.kind tx.actor.0 tx.uses → IsRefused before tx c → ⊥
not_refused before tx c few room root (inl f) = omega (arith, f.1, few)
not_refused before tx c few room root (inr (inl f)) = omega (arith, f.2, room)
not_refused before tx c few room root (inr (inr f)) = f.3 root

-- the line asks for nothing, or for what is refused
abbrev AsksNone : List CheckedMethod → ℕ → ℕ → List ℕ → WorkCause → Type 0
AsksNone p actors before line why = ((why ≡ cause.BadTx) × ((tx : Tx) → ¬ Asks p actors line tx)) ⊎ ((tx : Tx) × Asks p actors line tx × IsRefused before tx why)

limit_none : (p : List CheckedMethod) (actors before : ℕ) (line : List ℕ) (which : Limit) (found : ℕ) → LimitFault p actors before line which found → (tx : Tx) × Asks p actors line tx × IsRefused before tx (cause.Limit which found)
limit_none p actors before line limit.Uses found h = (h.0, h.1, inl (ap (cause.Limit limit.Uses) h.2, omega (arith, h.2, h.3)))
limit_none p actors before line limit.Transactions found h = (h.0, h.1, inr (inl (ap (cause.Limit limit.Transactions) h.3, h.2, omega (arith, h.3, h.4))))
limit_none p actors before line limit.Input found h = absurd h
limit_none p actors before line limit.Coordinators found h = absurd h
limit_none p actors before line limit.Logs found h = absurd h
limit_none p actors before line limit.Batch found h = absurd h
limit_none p actors before line limit.Batches found h = absurd h
limit_none p actors before line limit.Acts found h = absurd h
limit_none p actors before line limit.Actors found h = absurd h
limit_none p actors before line limit.Fields found h = absurd h

asks_none : (p : List CheckedMethod) (actors before : ℕ) (line : List ℕ) (why : WorkCause) → TransactionFault p actors before line why → AsksNone p actors before line why
asks_none p actors before line cause.BadTx h = inl (refl, h)
asks_none p actors before line (cause.Limit which found) h = inr (limit_none p actors before line which found h)
asks_none p actors before line cause.RootNotDeclared h = inr (h.0, h.1, inr (inr (refl, h.2, h.3, h.4)))
asks_none p actors before line cause.NotUtf8 h = absurd h
asks_none p actors before line cause.BadHeader h = absurd h
asks_none p actors before line (cause.Program q) h = absurd h
asks_none p actors before line cause.BadActor h = absurd h

-- a program whose methods are told apart, and not too many actors
pub record AreToldApart (p : List CheckedMethod) (actors : ℕ) : Type 0 where
  pub distinct : AreDistinct (method_names p)
  pub few : actors ≤ 256

asks_or_not : (p : List CheckedMethod) (actors before : ℕ) (line : List ℕ) (tx : Tx) (why : WorkCause) → AreToldApart p actors → Asks p actors line tx → length tx.uses ≤ 16 → before < 20000 → DeclaresRoot tx.kind tx.actor.0 tx.uses
    → AsksNone p actors before line why → ⊥
asks_or_not p actors before line tx why apart h few room root (inl f) = f.1 tx h
asks_or_not p actors before line tx why apart h few room root (inr f) =
    let same : f.0 ≡ tx = asks_one p actors line f.0 tx apart.distinct apart.few f.1 h in
    not_refused before tx why few room root (rw same at f.2)

one_cause : (p : List CheckedMethod) (actors before : ℕ) (line : List ℕ) (c d : WorkCause) → AreToldApart p actors → AsksNone p actors before line c → AsksNone p actors before line d → c ≡ d
one_cause p actors before line c d apart (inl f) (inl g) = f.0 ∙ sym g.0
one_cause p actors before line c d apart (inl f) (inr g) = absurd (f.1 g.0 g.1)
one_cause p actors before line c d apart (inr f) (inl g) = absurd (g.1 f.0 f.1)
one_cause p actors before line c d apart (inr f) (inr g) =
    let same : f.0 ≡ g.0 = asks_one p actors line f.0 g.0 apart.distinct apart.few f.1 g.1 in
    one_refusal before g.0 c d (rw same at f.2) g.2

transaction_same : (p : List CheckedMethod) (actors before : ℕ) (l : Line) → AreToldApart p actors → (r s : Result Tx WorkFault) → transaction p actors before l r → transaction p actors before l s → r ≡ s
transaction_same p actors before l apart (Ok tx) (Ok ty) h k = ap (λ (x : Tx). Ok x) (asks_one p actors l.bytes tx ty apart.distinct apart.few h.0 k.0)
transaction_same p actors before l apart (Ok tx) (Err f) h k = absurd (asks_or_not p actors before l.bytes tx f.cause apart h.0 h.1 h.2 h.3 (asks_none p actors before l.bytes f.cause k.1))
transaction_same p actors before l apart (Err f) (Ok ty) h k = absurd (asks_or_not p actors before l.bytes ty f.cause apart k.0 k.1 k.2 k.3 (asks_none p actors before l.bytes f.cause h.1))
transaction_same p actors before l apart (Err f) (Err g) h k =
    ap (λ (x : WorkFault). Err x) (same_fault f g (h.0 ∙ sym k.0) (one_cause p actors before l.bytes f.cause g.cause apart (asks_none p actors before l.bytes f.cause h.1) (asks_none p actors before l.bytes g.cause k.1)))

pub one_transaction : (p : List CheckedMethod) (actors before : ℕ) (l : Line) → AreToldApart p actors → IsOne (transaction p actors before l)
one_transaction p actors before l apart = record { same = transaction_same p actors before l apart }
