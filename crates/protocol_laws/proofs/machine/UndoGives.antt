-- An undo gives the state before the first run of what is undone, over every run.
use Rattle.std.specs.Prelude.{◌≡◌, refl, ℕ, zero, suc, Bool, true, false, if◌then◌else◌, List, [], ◌∷◌, ◌++◌, length, map, ◌||◌}
use Rattle.std.proofs.Common.{arith, sym, ap, subst, ◌∙◌}
use Rattle.std.proofs.lemmas.Bool.{eq-eqb}
use Rattle.std.proofs.lemmas.List.{append-nil, append_assoc}
use Rattle.snap_base.specs.declared.transactions.State.{State}
use Rattle.snap_base.specs.declared.transactions.Tx.{Tx}
use Rattle.protocol.specs.Fixed.{Fixed}
use Rattle.protocol.specs.Facts.{Alone, state_in}
use Rattle.protocol.specs.Rests.{IsRest, IsTxIn}
use Rattle.protocol.specs.Laws.{AfterEveryRunWithHistory}
use Rattle.protocol.specs.Parts.{Cascade, Who, OfAct, Machine}
use Rattle.protocol.specs.Words.{act_of, is_who}
use Rattle.protocol.specs.Events.{Event, Rollback, Finish}
use Rattle.protocol.specs.Effects.{after, cell_at}
use Rattle.protocol.specs.Runs.{IsRun, reached}
use Rattle.protocol.specs.OnCell as cell
use Rattle.protocol.specs.History.{Slice, Ran, Stands, Gone, History, history, grown, long_staying, without_standing, left_for_good, slices_of, with_at, is_reader_act}
use Rattle.protocol_laws.specs.Tracks.{key_of, keys_in, Differ, slices_in, Linked, InOrder, Tracks}
use Rattle.protocol_laws.specs.Undo.{long_going, first_found, end_state, IsUndone, UndoGives}
use Rattle.protocol_laws.proofs.machine.TrackLists
use Rattle.protocol_laws.proofs.machine.TrackLists.{without_nothing, linked_parts}
use Rattle.protocol_laws.proofs.machine.TracksKept.{Tracked}
use Rattle.protocol_laws.proofs.machine.Good.{Given}
use Rattle.protocol_laws.proofs.machine.AllGood.{AllGood, all_good, kept, none_allowed}

-- ---- slices that link

pub ends_at : (first last : State) (xs : List Slice) → Linked first xs last → last ≡ end_state first xs
ends_at first last [] h = sym h
ends_at first last (x ∷ xs) h = ends_at x.left last xs h.1

begins_at : (first last : State) (xs : List Slice) → Linked first xs last → first ≡ first_found last xs
begins_at first last [] h = h
begins_at first last (x ∷ xs) h = sym h.0

-- Where all slices link up to the present state, and those that stay link up to another, that one is what is before the first of those that go.
pub undone : (first now new : State) (all stay gone : List Slice) → all ≡ stay ++ gone → Linked first all now → Linked first stay new → IsUndone first now new all stay gone
undone first now new all stay gone e l k =
    let p = linked_parts first now stay gone (subst (λ z. Linked first z now) e l) in
    let same : new ≡ p.0 = ends_at first new stay k ∙ sym (ends_at first p.0 stay p.1) in
    record { splits = e; found = same ∙ begins_at p.0 now gone p.2; left = ends_at first new stay k }

-- ---- a rollback

pub in_two : (cs : List Cascade) (rs : List Ran) → slices_in rs ≡ slices_in (long_staying cs rs) ++ slices_in (long_going cs rs)
in_two cs [] = refl
in_two cs (Gone y ss ∷ rs) = ap (λ z. ss ++ z) (in_two cs rs) ∙ sym (append_assoc ss (slices_in (long_staying cs rs)) (slices_in (long_going cs rs)))
in_two cs (Stands y c ss ∷ rs) = by (cell.is_cut cs y) (in_two cs rs)
  where
    by : (b : Bool) → slices_in rs ≡ slices_in (long_staying cs rs) ++ slices_in (long_going cs rs) → ss ++ slices_in rs ≡ slices_in (if b then [] else Stands y c ss ∷ long_staying cs rs) ++ slices_in (if b then Stands y c ss ∷ rs else long_going cs rs)
    by true k = refl
    by false k = ap (λ z. ss ++ z) k ∙ sym (append_assoc ss (slices_in (long_staying cs rs)) (slices_in (long_going cs rs)))

-- ---- an ACT that leaves

-- nothing ran behind it
pub act_last : (who : Who) (rs : List Ran) → TrackLists.NotComplete who (keys_in rs) → InOrder rs → Differ (keys_in rs) → slices_in rs ≡ slices_in (without_standing who rs) ++ slices_of who rs
act_last who [] n h d = refl
act_last who (Gone y ss ∷ rs) n h d = ap (λ z. ss ++ z) (act_last who rs n h d) ∙ sym (append_assoc ss (slices_in (without_standing who rs)) (slices_of who rs))
act_last who (Stands y c ss ∷ rs) n h d = by (is_who y who) refl (act_last who rs n.1 h.1 d.1)
  where
    by : (b : Bool) → is_who y who ≡ b → slices_in rs ≡ slices_in (without_standing who rs) ++ slices_of who rs
        → ss ++ slices_in rs ≡ slices_in (if b then without_standing who rs else Stands y c ss ∷ without_standing who rs) ++ (if b then ss else slices_of who rs)
    by true e k = let none : slices_in rs ≡ [] = h.0 (n.0 e) in ap (λ z. ss ++ z) none ∙ (append-nil ss ∙ sym (ap (λ z. z ++ ss) (without_nothing who rs none)))
    by false e k = ap (λ z. ss ++ z) k ∙ sym (append_assoc ss (slices_in (without_standing who rs)) (slices_of who rs))

-- ---- over every run

tracks_at : {C : Type 0} (w : Fixed C) (s : Machine C) (h : History) (a : ℕ) → Tracked w s h → Tracks (state_in w.text.opening.states a) (map key_of (cell_at s a).entries) (cell_at s a).images (cell_at s a).state (h.long a)
unfolding Tracked
tracks_at w s h a g = g a

own_long : (a : ℕ) (new : List Ran) (long : ℕ → List Ran) → with_at a new long a ≡ new
own_long a new long = ap (λ b. if b then new else long a) (eq-eqb a a refl)

rolled_long : {C : Type 0} (w : Fixed C) (a : ℕ) (s : Machine C) (h : History) → (grown w (Rollback a) s h).long a ≡ long_staying s.book.cascades (h.long a)
unfolding grown
rolled_long w a s h = own_long a (long_staying s.book.cascades (h.long a)) h.long

left_long : {C : Type 0} (w : Fixed C) (t a : ℕ) (s : Machine C) (h : History) → cell.is_undone_act (act_of t s.book.acts) ≡ true → (grown w (Finish t a) s h).long a ≡ without_standing (OfAct t) (h.long a)
unfolding grown
left_long w t a s h e = own_long a _ h.long ∙ ap (λ b. if b || is_reader_act (act_of t s.book.acts) then without_standing (OfAct t) (h.long a) else map (left_for_good (OfAct t)) (h.long a)) e

undo_of : {C : Type 0} (w : Fixed C) (Of : Tx → C → Type 0) (finish : C → List State → Alone) (s : Machine C) (h : History) → Given w Of finish → AllGood w Of finish s h → UndoGives w finish s h
undo_of w Of finish s h v g = record {
  rollback = λ a ok.
      let x = tracks_at w s h a g.good.tracked in
      let y = tracks_at w (after w (Rollback a) s) (grown w (Rollback a) s h) a (kept w Of finish (Rollback a) s h v ok g).good.tracked in
      undone _ _ _ _ _ _ (in_two s.book.cascades (h.long a)) x.links (subst (λ z. Linked (state_in w.text.opening.states a) (slices_in z) (cell_at (after w (Rollback a) s) a).state) (rolled_long w a s h) y.links);
  finish_act = λ t a ok e.
      let x = tracks_at w s h a g.good.tracked in
      let y = tracks_at w (after w (Finish t a) s) (grown w (Finish t a) s h) a (kept w Of finish (Finish t a) s h v ok g).good.tracked in
      undone _ _ _ _ _ _ (act_last (OfAct t) (h.long a) (subst (TrackLists.NotComplete (OfAct t)) x.stands (TrackLists.acts_not_complete t (cell_at s a).entries)) x.in_order (subst Differ x.stands x.differ)) x.links
      (subst (λ z. Linked (state_in w.text.opening.states a) (slices_in z) (cell_at (after w (Finish t a) s) a).state) (left_long w t a s h e) y.links);
}

pub undo_gives : {C : Type 0} → AfterEveryRunWithHistory (UndoGives {C = C})
undo_gives {C} w finish es f t run = by es run (length w.text.opening.states) refl
  where
    by : (es : List Event) → IsRun w es → (n : ℕ) → length w.text.opening.states ≡ n → UndoGives w finish (reached w es) (history w es)
    by es run (suc n) l =
        let Of : Tx → C → Type 0 = IsRest w.code (IsTxIn w.text) in
        let v : Given w Of finish = record { text = t; actors = omega (arith, l); facts = f } in
        undo_of w Of finish (reached w es) (history w es) v (all_good w Of finish es v run)
    by [] run zero l = record { rollback = λ a ok. absurd (none_allowed w (Rollback a) t l ok); finish_act = λ u a ok e. absurd (none_allowed w (Finish u a) t l ok) }
    by (e ∷ es) run zero l = absurd (none_allowed w e t l run.0)
