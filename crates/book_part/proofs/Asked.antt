-- What is asked of an ACT with its votes, by what orders (x) and votes (y) have of it.
use Rattle.std.specs.Prelude.{◌≡◌, refl, ℕ, ◌==◌, nat_le, Bool, true, false, not, ◌&&◌, ◌||◌, if◌then◌else◌, Option, Some, None, is_some, option_map, List, [], ◌∷◌, length, map, find}
use Rattle.std.specs.List.{AllByRecursion, list_all}
use Rattle.std.proofs.Common.{arith, sym, ap, ◌∙◌}
use Rattle.std.proofs.lemmas.Bool.{and_parts, ne_eqb, or_parts, true≢false}
use Rattle.protocol.specs.Parts.{Joined, Act, Book}
use Rattle.protocol.specs.Words.{act_of, holds, is_empty, joined_of, is_live_act, is_live_status, is_doomed, is_decided, is_sealed, is_value, is_failure, is_vouched_everywhere}
use Rattle.protocol.specs.OnCell.{is_undone_act}
use Rattle.protocol.specs.BookParts.{act_by, place_by, result_by}
use Rattle.protocol_theorems.specs.BookFits.{IsOrder, IsVotedBy}
use Rattle.protocol_laws.proofs.Lemmas.{all_found}
use Rattle.protocol_theorems.proofs.Lemmas.{decided_by, doomed_by, holds_map, joined_found, left_mark, live_act_by, live_by, sealed_by, vote_mark, vouched_by}
use Rattle.order_book.specs.Asked.{before_of, joined_in, tx_of}
use Rattle.act_commit.specs.Words.{is_ready}
use Rattle.book_part.specs.Halves.{Halves, Shows}
use Rattle.book_part.proofs.Shown.{IsAt, answers, stands}

reader : (x y : Option Act) → IsAt x y → holds (λ z. z.reader) (option_map (act_by y) x) ≡ holds (λ z. z.reader) x
reader x y e = holds_map (λ z. z.reader) (act_by y) x (λ z. refl)

undoomed : (x y : Option Act) → IsAt x y → holds (λ z. not (is_doomed z.status)) (option_map (act_by y) x) ≡ holds (λ z. not (is_doomed z.status)) x
undoomed x y e = holds_map (λ z. not (is_doomed z.status)) (act_by y) x (λ z. ap not (doomed_by y z.status))

doomed : (x y : Option Act) → IsAt x y → holds (λ z. is_doomed z.status) (option_map (act_by y) x) ≡ holds (λ z. is_doomed z.status) x
doomed x y e = holds_map (λ z. is_doomed z.status) (act_by y) x (λ z. doomed_by y z.status)

value : (x y : Option Act) → IsAt x y → holds (λ z. is_value z.result && not (is_doomed z.status)) (option_map (act_by y) x) ≡ (is_value (result_by y) && holds (λ z. not (is_doomed z.status)) x)
value None y e = sym (ap (λ v. is_value (result_by v) && false) e)
value (Some x) y e = ap (λ d. is_value (result_by y) && not d) (doomed_by y x.status)

-- ---- marks

-- what is prepared or vouched of one without votes
unvoted : (f : Bool → Bool → Bool) (a : ℕ) (x : Act) → IsOrder x → holds (λ p. f p.prepared p.vouched) (joined_of a (act_by None x)) ≡ holds (λ p. f false false) (joined_of a x)
unvoted f a x e = ap (holds (λ p. f p.prepared p.vouched)) (joined_found a None x.places) ∙ by (joined_of a x) refl
  where
    by : (o : Option Joined) → joined_of a x ≡ o → holds (λ p. f p.prepared p.vouched) (option_map (place_by None) o) ≡ holds (λ p. f false false) o
    by None q = refl
    by (Some p) q =
        let u = or_parts p.prepared p.vouched (all_found (λ p. (p.prepared || p.vouched) ≡ false) (λ p. p.actor == a) x.places p e.unvoted q).0 in
        ap (λ b. f b p.vouched) u.0 ∙ ap (λ b. f false b) u.1

holds_all : {X : Type 0} (o : Option X) → holds (λ p. true) o ≡ is_some o
holds_all None = refl
holds_all (Some p) = refl

holds_none : {X : Type 0} (o : Option X) → holds (λ p. false) o ≡ false
holds_none None = refl
holds_none (Some p) = refl

abbrev pub unprepared_by : ℕ → Option Act → Option Act → Bool
unprepared_by a x y = if is_some (result_by y) then holds (λ z. holds (λ p. not p.prepared) (joined_of a z)) y else is_some (find (λ p. p.actor == a) (joined_in x))

unprepared : (a : ℕ) (x y : Option Act) → IsAt x y → holds (λ z. holds (λ p. not p.prepared) (joined_of a z)) (option_map (act_by y) x) ≡ unprepared_by a x y
unprepared a None y e = sym (ap (unprepared_by a None) e)
unprepared a (Some x) None e = unvoted (λ p v. not p) a x e.0 ∙ holds_all (joined_of a x)
unprepared a (Some x) (Some y) e =
    vote_mark (λ p v. not p) a y x e.1.actors
    ∙ sym (ap (λ b. if b then holds (λ p. not p.prepared) (joined_of a y) else is_some (joined_of a x)) e.1.ended)

abbrev pub to_vouch_by : ℕ → Option Act → Option Act → Bool
to_vouch_by a x y = holds is_live_act x && (holds (λ z. not (is_doomed z.status)) x && holds (λ z. holds (λ p. p.prepared && not p.vouched) (joined_of a z)) y)

to_vouch : (a : ℕ) (x y : Option Act) → IsAt x y → holds (λ z. is_live_act z && (not (is_doomed z.status) && holds (λ p. p.prepared && not p.vouched) (joined_of a z))) (option_map (act_by y) x) ≡ to_vouch_by a x y
to_vouch a None y e = refl
to_vouch a (Some x) y e =
    ap (λ b. b && (not (is_doomed (act_by y x).status) && holds (λ p. p.prepared && not p.vouched) (joined_of a (act_by y x)))) (live_act_by y x)
    ∙ (ap (λ b. is_live_act x && (not b && holds (λ p. p.prepared && not p.vouched) (joined_of a (act_by y x)))) (doomed_by y x.status)
    ∙ ap (λ b. is_live_act x && (not (is_doomed x.status) && b)) (marks y e.1))
  where
    marks : (y : Option Act) → IsVotedBy y x → holds (λ p. p.prepared && not p.vouched) (joined_of a (act_by y x)) ≡ holds (λ z. holds (λ p. p.prepared && not p.vouched) (joined_of a z)) y
    marks None k = unvoted (λ p v. p && not v) a x e.0 ∙ holds_none (joined_of a x)
    marks (Some y) k = vote_mark (λ p v. p && not v) a y x k.actors

standing : (a : ℕ) (x y : Option Act) → IsAt x y → holds (λ z. holds (λ p. not p.finished) (joined_of a z)) (option_map (act_by y) x) ≡ holds (λ z. holds (λ p. not p.finished) (joined_of a z)) x
standing a x y e = holds_map (λ z. holds (λ p. not p.finished) (joined_of a z)) (act_by y) x (λ z. left_mark not a y z)

-- ---- decisions

to_decide : (x y : Option Act) → IsAt x y → holds (λ z. is_some z.result && is_live_status z.status) (option_map (act_by y) x) ≡ (is_some (result_by y) && holds (λ z. is_live_status z.status) x)
to_decide None y e = sym (ap (λ v. is_some (result_by v) && false) e)
to_decide (Some x) y e = ap (λ d. is_some (result_by y) && d) (live_by y x.status)

abbrev pub ready_by : Option Act → Option Act → Bool
ready_by x y = if is_some (result_by y) then holds is_ready y else is_some x && is_empty (joined_in x)

pub empty_by_length : (ps : List Joined) → (length ps == 0) ≡ is_empty ps
empty_by_length [] = refl
empty_by_length (p ∷ ps) = ne_eqb (length (p ∷ ps)) 0 (λ e. absurd (omega (arith, e)))

none_vouched : (ps : List Joined) → AllByRecursion (λ p. (p.prepared || p.vouched) ≡ false) ps → list_all (λ p. p.vouched) (map (place_by None) ps) ≡ is_empty ps
none_vouched [] h = refl
none_vouched (p ∷ ps) h = ap (λ b. b && list_all (λ p. p.vouched) (map (place_by None) ps)) (or_parts p.prepared p.vouched h.0).1

ready : (x y : Option Act) → IsAt x y → holds (λ z. is_failure z.result || is_vouched_everywhere z) (option_map (act_by y) x) ≡ ready_by x y
ready None y e = sym (ap (ready_by None) e)
ready (Some x) None e = none_vouched x.places e.0.unvoted
ready (Some x) (Some y) e =
    ap (λ b. is_failure y.result || b) (vouched_by y x e.1.actors e.0.once)
    ∙ sym (ap (λ b. if b then is_ready y else is_empty x.places) e.1.ended)

behind : (n : ℕ) (x y : Option Act) → IsAt x y → holds (λ z. nat_le z.m n) (option_map (act_by y) x) ≡ (is_some x && nat_le (before_of x) n)
behind n None y e = refl
behind n (Some x) y e = refl

decided : (x y : Option Act) → IsAt x y → holds (λ z. is_decided z.status) (option_map (act_by y) x) ≡ holds (λ z. is_decided z.status) y
decided None y e = sym (ap (holds (λ z. is_decided z.status)) e)
decided (Some x) y e = decided_by y x e.1

sealed : (x y : Option Act) → IsAt x y → holds (λ z. is_sealed z.status) (option_map (act_by y) x) ≡ holds (λ z. is_sealed z.status) y
sealed None y e = sym (ap (holds (λ z. is_sealed z.status)) e)
sealed (Some x) y e = sealed_by y x e.1

may_leave : (x y : Option Act) → IsAt x y → holds (λ z. is_doomed z.status || is_sealed z.status) (option_map (act_by y) x) ≡ (holds (λ z. is_doomed z.status) x || holds (λ z. is_sealed z.status) y)
may_leave None y e = sym (ap (λ v. false || holds (λ z. is_sealed z.status) v) e)
may_leave (Some x) y e = ap (λ b. b || is_sealed (act_by y x).status) (doomed_by y x.status) ∙ ap (λ b. is_doomed x.status || b) (sealed_by y x e.1)

-- ---- what is told

undone : (x y : Option Act) → IsAt x y → is_undone_act (option_map (act_by y) x) ≡ (holds (λ z. is_doomed z.status) x || is_failure (result_by y))
undone None y e = sym (ap (λ v. false || is_failure (result_by v)) e)
undone (Some x) y e = ap (λ b. b || is_failure (result_by y)) (doomed_by y x.status)

tx : (x y : Option Act) → IsAt x y → tx_of (option_map (act_by y) x) ≡ tx_of x
tx None y e = refl
tx (Some x) y e = refl

begun : (x y : Option Act) → IsAt x y → holds (λ z. is_some z.result || is_doomed z.status) (option_map (act_by y) x) ≡ (is_some (result_by y) || holds (λ z. is_doomed z.status) x)
begun None y e = sym (ap (λ v. is_some (result_by v) || false) e)
begun (Some x) y e = ap (λ b. is_some (result_by y) || b) (doomed_by y x.status)

before : (x y : Option Act) → IsAt x y → before_of (option_map (act_by y) x) ≡ before_of x
before None y e = refl
before (Some x) y e = refl

-- ---- of a book that halves h show, where the code has its own, k

pub reader_shown : (k h : Halves) → k ≡ h → (b : Book) (t : ℕ) → Shows h b → (holds (λ z. z.reader) (act_of t k.orders.acts)) ≡ holds (λ z. z.reader) (act_of t b.acts)
reader_shown = answers (λ o. holds (λ z. z.reader) o) (λ x y. holds (λ z. z.reader) x) reader

pub undoomed_shown : (k h : Halves) → k ≡ h → (b : Book) (t : ℕ) → Shows h b → (holds (λ z. not (is_doomed z.status)) (act_of t k.orders.acts)) ≡ holds (λ z. not (is_doomed z.status)) (act_of t b.acts)
undoomed_shown = answers (λ o. holds (λ z. not (is_doomed z.status)) o) (λ x y. holds (λ z. not (is_doomed z.status)) x) undoomed

pub doomed_shown : (k h : Halves) → k ≡ h → (b : Book) (t : ℕ) → Shows h b → (holds (λ z. is_doomed z.status) (act_of t k.orders.acts)) ≡ holds (λ z. is_doomed z.status) (act_of t b.acts)
doomed_shown = answers (λ o. holds (λ z. is_doomed z.status) o) (λ x y. holds (λ z. is_doomed z.status) x) doomed

pub value_shown : (k h : Halves) → k ≡ h → (b : Book) (t : ℕ) → Shows h b → (is_value (result_by (act_of t k.votes.acts)) && holds (λ z. not (is_doomed z.status)) (act_of t k.orders.acts)) ≡ holds (λ z. is_value z.result && not (is_doomed z.status)) (act_of t b.acts)
value_shown = answers (λ o. holds (λ z. is_value z.result && not (is_doomed z.status)) o) (λ x y. is_value (result_by y) && holds (λ z. not (is_doomed z.status)) x) value

pub unprepared_shown : (a : ℕ) (k h : Halves) → k ≡ h → (b : Book) (t : ℕ) → Shows h b → (unprepared_by a (act_of t k.orders.acts) (act_of t k.votes.acts)) ≡ holds (λ z. holds (λ p. not p.prepared) (joined_of a z)) (act_of t b.acts)
unprepared_shown a = answers (λ o. holds (λ z. holds (λ p. not p.prepared) (joined_of a z)) o) (λ x y. unprepared_by a x y) (unprepared a)

pub to_vouch_shown : (a : ℕ) (k h : Halves) → k ≡ h → (b : Book) (t : ℕ) → Shows h b → (to_vouch_by a (act_of t k.orders.acts) (act_of t k.votes.acts)) ≡ holds (λ z. is_live_act z && (not (is_doomed z.status) && holds (λ p. p.prepared && not p.vouched) (joined_of a z))) (act_of t b.acts)
to_vouch_shown a = answers (λ o. holds (λ z. is_live_act z && (not (is_doomed z.status) && holds (λ p. p.prepared && not p.vouched) (joined_of a z))) o) (λ x y. to_vouch_by a x y) (to_vouch a)

pub standing_shown : (a : ℕ) (k h : Halves) → k ≡ h → (b : Book) (t : ℕ) → Shows h b → (holds (λ z. holds (λ p. not p.finished) (joined_of a z)) (act_of t k.orders.acts)) ≡ holds (λ z. holds (λ p. not p.finished) (joined_of a z)) (act_of t b.acts)
standing_shown a = answers (λ o. holds (λ z. holds (λ p. not p.finished) (joined_of a z)) o) (λ x y. holds (λ z. holds (λ p. not p.finished) (joined_of a z)) x) (standing a)

pub to_decide_shown : (k h : Halves) → k ≡ h → (b : Book) (t : ℕ) → Shows h b → (is_some (result_by (act_of t k.votes.acts)) && holds (λ z. is_live_status z.status) (act_of t k.orders.acts)) ≡ holds (λ z. is_some z.result && is_live_status z.status) (act_of t b.acts)
to_decide_shown = answers (λ o. holds (λ z. is_some z.result && is_live_status z.status) o) (λ x y. is_some (result_by y) && holds (λ z. is_live_status z.status) x) to_decide

pub ready_shown : (k h : Halves) → k ≡ h → (b : Book) (t : ℕ) → Shows h b → (ready_by (act_of t k.orders.acts) (act_of t k.votes.acts)) ≡ holds (λ z. is_failure z.result || is_vouched_everywhere z) (act_of t b.acts)
ready_shown = answers (λ o. holds (λ z. is_failure z.result || is_vouched_everywhere z) o) (λ x y. ready_by x y) ready

pub behind_shown : (n : ℕ) (k h : Halves) → k ≡ h → (b : Book) (t : ℕ) → Shows h b → (is_some (act_of t k.orders.acts) && nat_le (before_of (act_of t k.orders.acts)) n) ≡ holds (λ z. nat_le z.m n) (act_of t b.acts)
behind_shown n = answers (λ o. holds (λ z. nat_le z.m n) o) (λ x y. is_some x && nat_le (before_of x) n) (behind n)

pub decided_shown : (k h : Halves) → k ≡ h → (b : Book) (t : ℕ) → Shows h b → (holds (λ z. is_decided z.status) (act_of t k.votes.acts)) ≡ holds (λ z. is_decided z.status) (act_of t b.acts)
decided_shown = answers (λ o. holds (λ z. is_decided z.status) o) (λ x y. holds (λ z. is_decided z.status) y) decided

pub sealed_shown : (k h : Halves) → k ≡ h → (b : Book) (t : ℕ) → Shows h b → (holds (λ z. is_sealed z.status) (act_of t k.votes.acts)) ≡ holds (λ z. is_sealed z.status) (act_of t b.acts)
sealed_shown = answers (λ o. holds (λ z. is_sealed z.status) o) (λ x y. holds (λ z. is_sealed z.status) y) sealed

pub may_leave_shown : (k h : Halves) → k ≡ h → (b : Book) (t : ℕ) → Shows h b → (holds (λ z. is_doomed z.status) (act_of t k.orders.acts) || holds (λ z. is_sealed z.status) (act_of t k.votes.acts)) ≡ holds (λ z. is_doomed z.status || is_sealed z.status) (act_of t b.acts)
may_leave_shown = answers (λ o. holds (λ z. is_doomed z.status || is_sealed z.status) o) (λ x y. holds (λ z. is_doomed z.status) x || holds (λ z. is_sealed z.status) y) may_leave

pub undone_shown : (k h : Halves) → k ≡ h → (b : Book) (t : ℕ) → Shows h b → (holds (λ z. is_doomed z.status) (act_of t k.orders.acts) || is_failure (result_by (act_of t k.votes.acts))) ≡ is_undone_act (act_of t b.acts)
undone_shown = answers (λ o. is_undone_act o) (λ x y. holds (λ z. is_doomed z.status) x || is_failure (result_by y)) undone

pub before_shown : (k h : Halves) → k ≡ h → (b : Book) (t : ℕ) → Shows h b → (before_of (act_of t k.orders.acts)) ≡ before_of (act_of t b.acts)
before_shown = answers (λ o. before_of o) (λ x y. before_of x) before

pub tx_shown : (k h : Halves) → k ≡ h → (b : Book) (t : ℕ) → Shows h b → (tx_of (act_of t k.orders.acts)) ≡ tx_of (act_of t b.acts)
tx_shown = answers (λ o. tx_of o) (λ x y. tx_of x) tx

pub begun_shown : (k h : Halves) → k ≡ h → (b : Book) (t : ℕ) → Shows h b → (is_some (result_by (act_of t k.votes.acts)) || holds (λ z. is_doomed z.status) (act_of t k.orders.acts)) ≡ holds (λ z. is_some z.result || is_doomed z.status) (act_of t b.acts)
begun_shown = answers (λ o. holds (λ z. is_some z.result || is_doomed z.status) o) (λ x y. is_some (result_by y) || holds (λ z. is_doomed z.status) x) begun

ready_since : (x y : Option Act) → (is_some (result_by y) && holds (λ z. is_live_status z.status) x) ≡ true → ready_by x y ≡ true → holds is_ready y ≡ true
ready_since x y e f = ap (λ b. if b then holds is_ready y else is_some x && is_empty (joined_in x)) (sym (and_parts (is_some (result_by y)) (holds (λ z. is_live_status z.status) x) e).0) ∙ f

pub ready_if_to_decide : (h : Halves) (b : Book) (t : ℕ) → Shows h b → holds (λ z. is_some z.result && is_live_status z.status) (act_of t b.acts) ≡ true → holds (λ z. is_failure z.result || is_vouched_everywhere z) (act_of t b.acts) ≡ true → holds is_ready (act_of t h.votes.acts) ≡ true
ready_if_to_decide h b t s e f = ready_since (act_of t h.orders.acts) (act_of t h.votes.acts) (to_decide_shown h h refl b t s ∙ e) (ready_shown h h refl b t s ∙ f)

-- ---- one that neither ended nor is given up

no_votes : (x y : Option Act) → IsAt x y → (is_some (result_by y) || holds (λ z. is_doomed z.status) x) ≡ false → y ≡ None
no_votes None y e h = e
no_votes (Some x) None e h = refl
no_votes (Some x) (Some y) e h = absurd (true≢false (sym e.1.ended ∙ (or_parts (is_some y.result) (is_doomed x.status) h).0))

module _ (h : Halves) (b : Book) (t : ℕ) (s : Shows h b) (not_begun : holds (λ z. is_some z.result || is_doomed z.status) (act_of t b.acts) ≡ false) where
  without : act_of t h.votes.acts ≡ None
  without = no_votes (act_of t h.orders.acts) (act_of t h.votes.acts) (stands h b t s) (begun_shown h h refl b t s ∙ not_begun)

  pub not_decided : holds (λ z. is_decided z.status) (act_of t b.acts) ≡ false
  not_decided = sym (decided_shown h h refl b t s) ∙ ap (holds (λ z. is_decided z.status)) without

  pub not_sealed : holds (λ z. is_sealed z.status) (act_of t b.acts) ≡ false
  not_sealed = sym (sealed_shown h h refl b t s) ∙ ap (holds (λ z. is_sealed z.status)) without

  pub not_to_vouch : (a : ℕ) → holds (λ z. is_live_act z && (not (is_doomed z.status) && holds (λ p. p.prepared && not p.vouched) (joined_of a z))) (act_of t b.acts) ≡ false
  not_to_vouch a =
      sym (to_vouch_shown a h h refl b t s)
      ∙ (ap (λ y. to_vouch_by a (act_of t h.orders.acts) y) without ∙ neither (holds is_live_act (act_of t h.orders.acts)) (holds (λ z. not (is_doomed z.status)) (act_of t h.orders.acts)))
    where
      neither : (c d : Bool) → (c && (d && false)) ≡ false
      neither true true = refl
      neither true false = refl
      neither false d = refl
