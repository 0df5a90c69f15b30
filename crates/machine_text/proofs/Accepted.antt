-- A work that keeps the limits is an accepted text of the machine, with each opening with which it may begin.
use Rattle.std.proofs.Common.{◌≡◌, ℕ, zero, suc, ◌<◌, ◌≤◌, ◌==◌, ◌||◌, Bool, true, List, [], ◌∷◌, length, map, sym, ap, subst, arith}
use Rattle.std.specs.Prelude.{slice_index_or}
use Rattle.std.specs.List.{AllByRecursion, list_any}
use Rattle.std.proofs.lemmas.Bool.{eq-eqb, or_right}
use Rattle.snap_base.specs.declared.ids.ActorId.{ActorId}
use Rattle.snap_base.specs.declared.transactions.Kind.{Kind}
use Rattle.snap_base.specs.declared.transactions.Kind.TheVariants.{Pact, Act}
use Rattle.snap_base.specs.declared.transactions.Tx.{Tx}
use Rattle.aml_check.specs.Transactions as asked
use Rattle.aml_tree.specs.Tree.{CheckedMethod}
use Rattle.protocol.specs.Fixed.{is_pact_kind, IsTxOf, IsUseInRange, HasFewUses, IsText}
use Rattle.machine_text.specs.Texts.{text_of, IsAccepted, MayBegin}
use Rattle.snap_recover.specs.declared.openings.Opening.{Opening}
use Rattle.snap_work.specs.Kept.{KeepsLimits}
use Rattle.snap_work.specs.Works.{Work}

-- ---- what a transaction declares

abbrev Uses : Type 0
Uses = List (ActorId × ℕ)

uses_below : (actors : ℕ) (us : Uses) → AllByRecursion (asked.IsUse actors) us → AllByRecursion (λ a. a < actors) (map (λ (u : ActorId × ℕ). u.0.0) us)
uses_below actors [] all = tt
uses_below actors (u ∷ us) all = (all.0.actor, uses_below actors us all.1)

uses_called : (actors : ℕ) (us : Uses) → AllByRecursion (asked.IsUse actors) us → AllByRecursion IsUseInRange us
uses_called actors [] all = tt
uses_called actors (u ∷ us) all = (all.0.calls, uses_called actors us all.1)

-- what a list contains, a test finds there
found_at : (n : ℕ) (xs : List ℕ) (k : ℕ) → k < length xs → slice_index_or xs k n ≡ n → list_any (λ a. a == n) xs ≡ true
found_at n [] k below is = absurd (omega (arith, below))
found_at n (x ∷ xs) zero below is = ap (λ (b : Bool). b || list_any (λ a. a == n) xs) (eq-eqb x n is)
found_at n (x ∷ xs) (suc k) below is = or_right (x == n) (list_any (λ a. a == n) xs) (found_at n xs k (omega (arith, below)) is)

below_of : (actors root : ℕ) (k : Kind) (us : Uses) → asked.Declares actors root k us → AllByRecursion (λ a. a < actors) (map (λ (u : ActorId × ℕ). u.0.0) us)
below_of actors root Pact us d = uses_below actors us d.each
below_of actors root Act us d = rw d tt

roots_of : (actors root : ℕ) (k : Kind) (us : Uses) → asked.Declares actors root k us → is_pact_kind k ≡ true → list_any (λ a. a == root) (map (λ (u : ActorId × ℕ). u.0.0) us) ≡ true
roots_of actors root Pact us d e = let own = d.root_declared in found_at root (map (λ (u : ActorId × ℕ). u.0.0) us) own.0 own.1 own.2
roots_of actors root Act us d e = cc

few_of : (actors root : ℕ) (k : Kind) (us : Uses) → asked.Declares actors root k us → length us ≤ 16
few_of actors root Pact us d = d.few
few_of actors root Act us d = rw d (omega arith)

called_of : (actors root : ℕ) (k : Kind) (us : Uses) → asked.Declares actors root k us → AllByRecursion IsUseInRange us
called_of actors root Pact us d = uses_called actors us d.each
called_of actors root Act us d = rw d tt

tx_of : (p : List CheckedMethod) (actors : ℕ) (tx : Tx) → asked.IsTransaction p actors tx → IsTxOf actors tx
tx_of p actors tx is = record {
  root_exists = is.actor;
  declared_exist = below_of actors tx.actor.0 tx.kind tx.uses is.declares;
  declares_root = roots_of actors tx.actor.0 tx.kind tx.uses is.declares;
}

uses_of : (p : List CheckedMethod) (actors : ℕ) (tx : Tx) → asked.IsTransaction p actors tx → HasFewUses tx
uses_of p actors tx is = record {
  few = few_of actors tx.actor.0 tx.kind tx.uses is.declares;
  calls = called_of actors tx.actor.0 tx.kind tx.uses is.declares;
}

each_so : (P Q : Tx → Type 0) (txs : List Tx) → ((tx : Tx) → P tx → Q tx) → AllByRecursion P txs → AllByRecursion Q txs
each_so P Q [] so all = tt
each_so P Q (tx ∷ txs) so all = (so tx all.0, each_so P Q txs so all.1)

-- ---- the text

text_accepted : (w : Work) (o : Opening) → KeepsLimits w → MayBegin w o → AllByRecursion (asked.IsTransaction w.program (length o.states)) w.txs → IsText (text_of w o)
text_accepted w o kept begins asks = record {
  some_coordinators = kept.coordinators.0;
  few_coordinators = kept.coordinators.1;
  some_logs = kept.logs.0;
  few_logs = kept.logs.1;
  some_batch = kept.batch.0;
  small_batch = kept.batch.1;
  some_batches = kept.batches.0;
  few_batches = kept.batches.1;
  some_acts = kept.acts.0;
  few_acts = kept.acts.1;
  few_actors = omega (arith, begins.actors, kept.few_actors);
  txs = each_so (asked.IsTransaction w.program (length o.states)) (IsTxOf (length o.states)) w.txs (tx_of w.program (length o.states)) asks;
  uses = each_so (asked.IsTransaction w.program (length o.states)) HasFewUses w.txs (uses_of w.program (length o.states)) asks;
  few_txs = kept.few_transactions;
  tids = begins.some_tid;
  tids_fit = omega (arith, begins.tids);
  bids = begins.some_bid;
  bids_fit = omega (arith, begins.bids);
  cs = begins.some_c;
  cs_fit = omega (arith, begins.cs);
}

pub accepted : (w : Work) (o : Opening) → KeepsLimits w → MayBegin w o → IsAccepted w o
accepted w o kept begins =
    let asks = subst (λ (count : ℕ). AllByRecursion (asked.IsTransaction w.program count) w.txs) (sym begins.actors) kept.transactions in
    record { accepted = text_accepted w o kept begins asks; asks = asks }
