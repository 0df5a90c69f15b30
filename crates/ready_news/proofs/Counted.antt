-- How many batches and ACTs are live stays the same with an event that may not free any.
use Rattle.std.proofs.Common.{◌≡◌, false, refl}
use Rattle.std.proofs.lemmas.Bool.{true≢false}
use Rattle.aml_slice.specs.Controls.{Rest}
use Rattle.protocol.specs.Contents.{Content, FinishedMarks, Statuses, TrimmedMarks, AbortedMarks, IsSame, is_changed}
use Rattle.protocol.specs.Effects.{after}
use Rattle.protocol.specs.Events.{Event, Form, Admit, Arrive, Ask, Abort, Decide, Seal, Finish, Trim}
use Rattle.protocol.specs.Fixed.{Fixed}
use Rattle.protocol.specs.Parts.{Machine}
use Rattle.protocol.specs.Words.{count, is_live_act, is_live_batch}
use Rattle.protocol_ready.proofs.Refused.{live_acts, live_batches}
use Rattle.ready_news.specs.InRing.{changes_ring, frees_acts, frees_batches}

-- the law of what an event leaves
abbrev pub Framed : Fixed Rest → Type 0
Framed w = (e : Event) (s : Machine Rest) (q : Content) → is_changed q e ≡ false → IsSame q s (after w e s)

pub acts_counted : (w : Fixed Rest) (e : Event) (s : Machine Rest) → ((q : Content) → is_changed q e ≡ false → IsSame q s (after w e s)) → changes_ring e ≡ false → frees_acts e ≡ false → count is_live_act (after w e s).book.acts ≡ count is_live_act s.book.acts
acts_counted w (Admit t) s same h g = absurd (true≢false h)
acts_counted w (Abort k) s same h g = absurd (true≢false h)
acts_counted w (Arrive k a) s same h g = absurd (true≢false g)
acts_counted w (Ask t a) s same h g = absurd (true≢false g)
acts_counted w (Decide t) s same h g = absurd (true≢false g)
acts_counted w (Seal t) s same h g = absurd (true≢false g)
acts_counted w (Finish t a) s same h g = absurd (true≢false g)
acts_counted w e s same h g = live_acts s.book.acts (after w e s).book.acts (same FinishedMarks refl) (same Statuses refl)

pub batches_counted : (w : Fixed Rest) (e : Event) (s : Machine Rest) → ((q : Content) → is_changed q e ≡ false → IsSame q s (after w e s)) → changes_ring e ≡ false → frees_batches e ≡ false → count is_live_batch (after w e s).desk.batches ≡ count is_live_batch s.desk.batches
batches_counted w (Form k) s same h g = absurd (true≢false h)
batches_counted w (Abort k) s same h g = absurd (true≢false h)
batches_counted w (Trim k a) s same h g = absurd (true≢false g)
batches_counted w e s same h g = live_batches s.desk.batches (after w e s).desk.batches (same TrimmedMarks refl) (same AbortedMarks refl)
