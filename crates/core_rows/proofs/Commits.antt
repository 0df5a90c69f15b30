-- The commit record of an ACT that is decided: it can be spelled, and it is the machine's.
use Rattle.std.proofs.Common.{◌≡◌, ℕ, ℤ, FitsSigned, ◌^◌, Bool, true, false, if◌then◌else◌, Option, Some, None, List, [], ◌∷◌, length, map, refl, ap, sym, subst, ◌∙◌, arith}
use Rattle.std.proofs.lemmas.List.{append-nil, length-map}
use Rattle.snap_base.specs.declared.ids.ActorId.{ActorId}
use Rattle.snap_base.specs.declared.ids.Bid.{Bid}
use Rattle.snap_base.specs.declared.ids.Tid.{Tid}
use Rattle.std.specs.Int.{w64}
use Rattle.protocol.specs.Effects.{act_commit, added, ascending}
use Rattle.protocol.specs.Parts.{Act, Log}
use Rattle.protocol.specs.Records.{ActDone}
use Rattle.protocol.specs.Words.{is_value, value_of}
use Rattle.book_part.specs.Commits.{records_of}
use Rattle.book_part.specs.declared.commit.Commit.{Commit}
use Rattle.core_facts.specs.RowsMay.{IsActRecord}
use Rattle.log_set.specs.Told.{actor_of, told}
use Rattle.txn_records.specs.Records.{Ascend, actor_numbers, IsAct, IsActDone}
use Rattle.txn_records.specs.declared.records.Record.TheVariants as records
use Rattle.core_rows.specs.Commits.{HasSpelling}

-- ---- it can be spelled

-- the numbers of the record are those of the ACT
is_act : (c : Commit) (t m n : ℕ) (actors : List ℕ) → c.tid.0 ≡ t → c.before.0 ≡ m → c.number ≡ n → actor_numbers c.actors ≡ actors → IsActRecord t m n actors → IsAct c.tid c.before c.number c.actors
is_act c t m n actors tid before number same r =
    let len : length c.actors ≡ length actors = sym (length-map c.actors (λ (a : ActorId). a.0)) ∙ ap length same in
    record {
      tid_fits = omega (arith, tid, r.tid_fits);
      m_fits = omega (arith, before, r.m_fits);
      c_fits = omega (arith, number, r.c_fits);
      some = omega (arith, len, r.some);
      few = omega (arith, len, r.few);
      ascend = subst (Ascend 0 (2 ^ 16)) (sym same) r.ascend;
    }

pub spelled : (c : Option Commit) (n t : ℕ) (o : Option Act) → records_of c ≡ act_commit n o → ((x : Act) → o ≡ Some x → (x.tid ≡ t) × IsActRecord t x.m n (ascending (map (λ p. p.actor) x.places))) → HasSpelling c
spelled None n t o same facts = tt
spelled (Some c) n t None same facts = absurd (cc same)
spelled (Some c) n t (Some x) same facts = by (is_value x.result) same
  where
    by : (b : Bool) → (ActDone c.tid.0 c.before.0 c.number c.value (actor_numbers c.actors) ∷ []) ≡ (if b then ActDone x.tid x.m n (value_of x.result) (ascending (map (λ p. p.actor) x.places)) ∷ [] else []) → HasSpelling (Some c)
    by false same = absurd (cc same)
    by true same =
        let f = facts x refl in
        let tid : c.tid.0 ≡ x.tid = cc same in
        let before : c.before.0 ≡ x.m = cc same in
        let number : c.number ≡ n = cc same in
        let actors : actor_numbers c.actors ≡ ascending (map (λ p. p.actor) x.places) = cc same in
        is_act c t x.m n (ascending (map (λ p. p.actor) x.places)) (tid ∙ f.0) before number actors f.1

-- with a value of 64 bits
pub is_done : (tid : Tid) (m : Bid) (c : ℕ) (value : ℤ) (actors : List ActorId) → IsAct tid m c actors → FitsSigned w64 value → IsActDone tid m c value actors
is_done tid m c value actors h fits = record { tid_fits = h.tid_fits; m_fits = h.m_fits; c_fits = h.c_fits; value_fits = fits; some = h.some; few = h.few; ascend = h.ascend }

-- ---- it is the machine's

same_actors : (actors : List ActorId) → map actor_of (actor_numbers actors) ≡ actors
same_actors [] = refl
same_actors (a ∷ others) = ap (λ xs. a ∷ xs) (same_actors others)

pub told_commit : (c : Commit) → records.ActDone c.tid c.before c.number c.value c.actors ≡ told (ActDone c.tid.0 c.before.0 c.number c.value (actor_numbers c.actors))
told_commit c = ap (λ xs. records.ActDone c.tid c.before c.number c.value xs) (sym (same_actors c.actors))

-- where there is no record the log stays
pub nothing_added : (l : Log) → added [] l ≡ l
nothing_added l = ap (λ xs. record l { records = xs }) (append-nil l.records)
