-- What is out of an event's reach is not changed by it.
use Rattle.std.specs.Prelude.{◌≡◌, refl, ℕ, ◌==◌, Bool, true, false}
use Rattle.std.proofs.lemmas.Bool.{true≢false, and_right, or_from}
use Rattle.protocol.specs.Parts.{Machine}
use Rattle.protocol.specs.Events.{Event, Form, Admit, Arrive, Ask, End, Settle, Rollback, DropSub, Prepare, Vouch, Decide, Seal, Finish}
use Rattle.protocol_ready.specs.Touched
use Rattle.protocol_ready.specs.Refusing.{reached_by, rolled_back_by, fated_by, moved_by, vouched_by, is_at, spreads, is_on_batches, is_settle}
use Rattle.protocol_ready.proofs.Remaining.{both_apart}

-- ---- by the actor

pub epochs : (e : Event) (a : ℕ) → is_at a (rolled_back_by e) ≡ false → Touched.changes_epoch e a ≡ false
epochs (Rollback b) a h = h
epochs _ a h = refl

pub reached_epochs : (e : Event) (a : ℕ) → is_at a (reached_by e) ≡ false → Touched.changes_epoch e a ≡ false
reached_epochs (Rollback b) a h = h
reached_epochs _ a h = refl

pub tails : (e : Event) (a : ℕ) → is_at a (reached_by e) ≡ false → Touched.changes_tail e a ≡ false
tails (Arrive k b) a h = h
tails (Rollback b) a h = h
tails _ a h = refl

pub sub : (e : Event) (k a : ℕ) → is_at a (reached_by e) ≡ false → Touched.changes_sub e k a ≡ false
sub (Arrive j b) k a h = and_right (j == k) (b == a) h
sub (DropSub j b) k a h = and_right (j == k) (b == a) h
sub _ k a h = refl

-- ---- by the batch

pub results : {C : Type 0} (e : Event) (s : Machine C) (k : ℕ) → is_on_batches e ≡ false → Touched.changes_results e s k ≡ false
results (End t a) s k h = absurd (true≢false h)
results _ s k h = refl

pub next : (e : Event) (k : ℕ) → is_on_batches e ≡ false → Touched.changes_next e k ≡ false
next (Form j) k h = absurd (true≢false h)
next (Settle j) k h = absurd (true≢false h)
next _ k h = refl

pub settled : (e : Event) → is_settle e ≡ false → Touched.changes_settled e ≡ false
settled (Settle j) h = absurd (true≢false h)
settled _ h = refl

-- ---- by the transaction

abbrev pub is_admit : Event → Bool
is_admit (Admit t) = true
is_admit _ = false

pub acts : {C : Type 0} (e : Event) (s : Machine C) (t : ℕ) → is_admit e ≡ false → spreads e ≡ false → is_at t (fated_by e) ≡ false → Touched.changes_act e s t ≡ false
acts (Admit u) s t f h g = absurd (true≢false f)
acts (Arrive k a) s t f h g = absurd (true≢false h)
acts (Ask u a) s t f h g = absurd (true≢false h)
acts (End u a) s t f h g = or_from (u == t) false g refl
acts (Decide u) s t f h g = or_from (u == t) false g refl
acts (Seal u) s t f h g = or_from (u == t) false g refl
acts _ s t f h g = refl

pub prepared : (e : Event) (t a : ℕ) → is_at t (moved_by e) ≡ false → Touched.changes_prepared e t a ≡ false
prepared (Prepare u b) t a h = and_right (b == a) (u == t) h
prepared _ t a h = refl

pub votes : (e : Event) (t : ℕ) → is_at t (vouched_by e) ≡ false → Touched.changes_votes e t ≡ false
votes (Vouch u b) t h = h
votes _ t h = refl

pub left : (e : Event) (t : ℕ) → is_at t (moved_by e) ≡ false → Touched.changes_left e t ≡ false
left (Finish u b) t h = h
left _ t h = refl

-- ---- the event itself is another one

pub prepares : (e : Event) (t a : ℕ) → (Prepare t a ≡ e → ⊥) → Touched.changes_prepared e t a ≡ false
prepares (Prepare u b) t a n = both_apart (λ b u. Prepare u b) b a u t n
prepares _ t a n = refl

pub vouches : (e : Event) (t a : ℕ) → (Vouch t a ≡ e → ⊥) → Touched.changes_vouched e t a ≡ false
vouches (Vouch u b) t a n = both_apart (λ b u. Vouch u b) b a u t n
vouches _ t a n = refl

pub finishes : (e : Event) (t a : ℕ) → (Finish t a ≡ e → ⊥) → Touched.changes_finished e t a ≡ false
finishes (Finish u b) t a n = both_apart (λ b u. Finish u b) b a u t n
finishes _ t a n = refl
