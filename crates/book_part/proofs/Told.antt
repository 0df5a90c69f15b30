-- What records and verdicts tell of an ACT, by what orders (x) and votes (y) have of it.
use Rattle.std.specs.Prelude.{◌≡◌, refl, ℕ, ℤ, true, false, if◌then◌else◌, Option, Some, None, option_map, List, [], ◌∷◌, map}
use Rattle.std.proofs.Common.{sym, ap, subst, ◌∙◌}
use Rattle.std.proofs.lemmas.Bool.{true≢false}
use Rattle.snap_base.specs.declared.transactions.TxResult.{TxResult}
use Rattle.snap_base.specs.declared.verdicts.Verdict.{Verdict}
use Rattle.protocol.specs.Parts.{Status, Live, Doomed, Decided, Sealed, Act, Book}
use Rattle.protocol.specs.Records.{LogRecord, ActDone}
use Rattle.protocol.specs.Words.{count, act_of, is_live_act, is_value, value_of, is_doomed, is_ordered}
use Rattle.protocol.specs.Effects.{ascending, act_commit}
use Rattle.protocol.specs.Verdicts.{verdict_of_act, act_verdict}
use Rattle.protocol.specs.BookParts.{act_by, place_by, result_by}
use Rattle.protocol_theorems.specs.BookFits.{IsVoted, IsVotedBy, act_with, placed_verdict, verdict_by, verdict_of_halves}
use Rattle.protocol_theorems.proofs.Lemmas.{found_by, live_count, place_actor, verdict_of}
use Rattle.book_part.proofs.Mapped.{map_each}
use Rattle.order_book.specs.Asked.{before_of, doom_in, tid_of_act}
use Rattle.act_commit.specs.Words.{actors_by, sealing_by, sealing_of}
use Rattle.book_part.specs.Halves.{Halves, Shows}
use Rattle.book_part.specs.Told.{told_verdict, sealed_verdict, votes_or_doom}
use Rattle.book_part.proofs.Shown.{IsAt, is_book, stands, found_tid}

-- ---- the commit record

abbrev pub committed : ℕ → ℕ → Option Act → Option Act → List LogRecord
committed t c x y = if is_value (result_by y) then ActDone t (before_of x) c (value_of (result_by y)) (actors_by y) ∷ [] else []

actors_kept : (y x : Act) → IsVoted y x → map (λ p. p.actor) (map (place_by (Some y)) x.places) ≡ map (λ p. p.actor) y.places
actors_kept y x e = map_each (λ p. p.actor) (place_by (Some y)) (λ p. p.actor) x.places (λ p. place_actor (Some y) p) ∙ sym e.actors

pub commits : (t c : ℕ) (x y : Option Act) → ((z : Act) → x ≡ Some z → z.tid ≡ t) → IsAt x y → act_commit c (option_map (act_by y) x) ≡ committed t c x y
commits t c None y i e = sym (ap (committed t c None) e)
commits t c (Some x) None i e = refl
commits t c (Some x) (Some y) i e =
    ap (λ ns. if is_value y.result then ActDone x.tid x.m c (value_of y.result) (ascending ns) ∷ [] else []) (actors_kept y x e.1)
    ∙ ap (λ n. if is_value y.result then ActDone n x.m c (value_of y.result) (actors_by (Some y)) ∷ [] else []) (i x refl)

-- ---- verdicts

abbrev pub verdict_at : Option Act → Option Act → Option Verdict
verdict_at None y = None
verdict_at (Some x) y = verdict_by y x.m x.status

sealed_told : (m : ℕ) (r : Option TxResult) (st : Status) → is_doomed st ≡ false → sealed_verdict m (sealing_of st r) ≡ act_verdict st m r
sealed_told m r Live d = refl
sealed_told m r (Doomed why) d = absurd (true≢false d)
sealed_told m r (Decided c) d = refl
sealed_told m None (Sealed c) d = refl
sealed_told m (Some r) (Sealed c) d = refl

votes_told : (m : ℕ) (y : Option Act) (x : Act) → IsVotedBy y x → sealed_verdict m (sealing_by y) ≡ placed_verdict y m
votes_told m None x e = refl
votes_told m (Some y) x e = sealed_told m y.result y.status e.undoomed

of_status : (s : Option (ℕ × TxResult)) (y : Option Act) (m : ℕ) (st : Status) → sealed_verdict m s ≡ placed_verdict y m → votes_or_doom (if is_ordered st then Some m else None) (doom_in st) s ≡ verdict_by y m st
of_status s y m Live e = refl
of_status s y m (Doomed why) e = refl
of_status s y m (Decided c) e = e
of_status s y m (Sealed c) e = e

pub told : (x y : Option Act) → IsAt x y → told_verdict x y ≡ verdict_at x y
told None y e = refl
told (Some x) y e = of_status (sealing_by y) y x.m x.status (votes_told x.m y x e.1)

pub shown_verdict : (h : Halves) (b : Book) (n : ℕ) → Shows h b → verdict_of_act n b.acts ≡ verdict_of_halves h.votes.acts (act_with n h.orders.acts)
shown_verdict h b n s = ap (λ (b : Book). verdict_of_act n b.acts) (is_book h b s) ∙ verdict_of n h.votes.acts h.orders.acts s.0.fits.voted

-- the first ACT of the transaction has this tid
of_first : (vs : List Act) (t : ℕ) (z : Option Act) → Some t ≡ tid_of_act z → verdict_at z (act_of t vs) ≡ verdict_of_halves vs z
of_first vs t None e = absurd (cc e)
of_first vs t (Some x) e = let i : t ≡ x.tid = cc e in ap (λ k. verdict_by (act_of k vs) x.m x.status) i

some_at : (h : Halves) (b : Book) (n t : ℕ) → Shows h b → Some t ≡ tid_of_act (act_with n h.orders.acts) → act_of t h.orders.acts ≡ act_with n h.orders.acts → told_verdict (act_of t h.orders.acts) (act_of t h.votes.acts) ≡ verdict_of_act n b.acts
some_at h b n t s e f =
    told (act_of t h.orders.acts) (act_of t h.votes.acts) (stands h b t s)
    ∙ (ap (λ z. verdict_at z (act_of t h.votes.acts)) f
    ∙ (of_first h.votes.acts t (act_with n h.orders.acts) e
    ∙ sym (shown_verdict h b n s)))

pub verdict_some : (k h : Halves) → k ≡ h → (b : Book) (n t : ℕ) → Shows h b → Some t ≡ tid_of_act (act_with n k.orders.acts) → act_of t k.orders.acts ≡ act_with n k.orders.acts → told_verdict (act_of t h.orders.acts) (act_of t h.votes.acts) ≡ verdict_of_act n b.acts
verdict_some k h i b n t s e f = some_at h b n t s (subst (λ z. Some t ≡ tid_of_act (act_with n z.orders.acts)) i e) (subst (λ z. act_of t z.orders.acts ≡ act_with n z.orders.acts) i f)

none_first : (vs : List Act) (z : Option Act) → None ≡ tid_of_act z → None ≡ verdict_of_halves vs z
none_first vs None e = refl
none_first vs (Some x) e = absurd (cc e)

pub verdict_none : (k h : Halves) → k ≡ h → (b : Book) (n : ℕ) → Shows h b → None ≡ tid_of_act (act_with n k.orders.acts) → None ≡ verdict_of_act n b.acts
verdict_none k h i b n s e = none_first h.votes.acts (act_with n h.orders.acts) (subst (λ z. None ≡ tid_of_act (act_with n z.orders.acts)) i e) ∙ sym (shown_verdict h b n s)

shown_commits : (h : Halves) (b : Book) (t : ℕ) → Shows h b → act_commit b.next_c (act_of t b.acts) ≡ committed t h.votes.next_c (act_of t h.orders.acts) (act_of t h.votes.acts)
shown_commits h b t s =
    ap (λ (b : Book). act_commit b.next_c (act_of t b.acts)) (is_book h b s)
    ∙ (ap (act_commit h.votes.next_c) (found_by h.votes.acts t h.orders.acts)
    ∙ commits t h.votes.next_c (act_of t h.orders.acts) (act_of t h.votes.acts) (λ z e. found_tid t h.orders z e) (stands h b t s))

pub no_commit : (k h : Halves) → k ≡ h → (b : Book) (t : ℕ) → Shows h b → false ≡ is_value (result_by (act_of t k.votes.acts)) → [] ≡ act_commit b.next_c (act_of t b.acts)
no_commit k h i b t s e =
    let y = act_of t k.votes.acts in
    ap (λ z. if z then ActDone t (before_of (act_of t k.orders.acts)) k.votes.next_c (value_of (result_by y)) (actors_by y) ∷ [] else []) e
    ∙ sym (shown_commits k b t (subst (λ z. Shows z b) (sym i) s))

pub one_commit : (k h : Halves) → k ≡ h → (b : Book) (t m c : ℕ) (v : ℤ) (actors : List ℕ) → Shows h b → true ≡ is_value (result_by (act_of t k.votes.acts)) → m ≡ before_of (act_of t k.orders.acts) → c ≡ k.votes.next_c
    → v ≡ value_of (result_by (act_of t k.votes.acts)) → actors ≡ actors_by (act_of t k.votes.acts) → (ActDone t m c v actors ∷ []) ≡ act_commit b.next_c (act_of t b.acts)
one_commit k h i b t m c v actors s e f g valued j =
    let x = act_of t k.orders.acts in
    let y = act_of t k.votes.acts in
    ap (λ z. ActDone t z c v actors ∷ []) f
    ∙ (ap (λ z. ActDone t (before_of x) z v actors ∷ []) g
    ∙ (ap (λ z. ActDone t (before_of x) k.votes.next_c z actors ∷ []) valued
    ∙ (ap (λ z. ActDone t (before_of x) k.votes.next_c (value_of (result_by y)) z ∷ []) j
    ∙ (ap (λ z. if z then ActDone t (before_of x) k.votes.next_c (value_of (result_by y)) (actors_by y) ∷ [] else []) e
    ∙ sym (shown_commits k b t (subst (λ z. Shows z b) (sym i) s))))))

-- ---- live ones

pub live_shown : (k h : Halves) → k ≡ h → (b : Book) → Shows h b → count is_live_act k.orders.acts ≡ count is_live_act b.acts
live_shown k h i b s = sym (ap (λ (b : Book). count is_live_act b.acts) (is_book k b (subst (λ z. Shows z b) (sym i) s)) ∙ live_count k.votes.acts k.orders.acts)
