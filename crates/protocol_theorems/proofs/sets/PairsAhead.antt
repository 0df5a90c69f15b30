-- Who has its place stands behind nobody that is not doomed, over every run.
use Rattle.std.specs.Prelude.{◌≡◌, refl, ℕ, ◌==◌, not, Bool, true, false, ◌&&◌, ◌||◌, ◌⊎◌, if◌then◌else◌, Option, Some, None, is_some, List, [], ◌∷◌, ◌++◌, map, filter}
use Rattle.std.specs.List.{AllByRecursion}
use Rattle.std.proofs.Common.{sym, ap, subst, inl, inr, ◌∙◌}
use Rattle.std.proofs.lemmas.List.{append-nil}
use Rattle.std.proofs.lemmas.Bool.{eqb-true, eq-eqb, and_parts, and_from, or_cases, or_left, or_right, not-true, true≢false, false_from_ne_true, cases_Bool}
use Rattle.snap_base.specs.declared.transactions.State.{State}
use Rattle.snap_base.specs.declared.transactions.Tx.{Tx}
use Rattle.snap_base.proofs.Lists.{both_all}
use Rattle.protocol.specs.Fixed.{Fixed}
use Rattle.protocol.specs.Facts.{Alone}
use Rattle.protocol.specs.Rivals.{Lock, rivals}
use Rattle.protocol.specs.Parts.{Act, Pair, Book, Cascade, Status, Live, Doomed, Decided, Sealed, Who, OfBatch, OfAct, Entry, BatchEntry, ActEntry, Waiting, Cell, Machine}
use Rattle.protocol.specs.Events.{Event, Admit, Arrive, Ask, Run, End, Complete, Rollback, Decide, Finish, Trim}
use Rattle.protocol.specs.Words.{is_empty, holds, is_aborted, is_doomed, is_sealed, is_live_status, is_who, is_act_who, who_on, act_of, group_behind, tail_group, waiting_of, is_ordered, lock_of}
use Rattle.protocol.specs.Conditions.{IsAllowed, conditions}
use Rattle.protocol.specs.Effects.{after, cell_at}
use Rattle.protocol.specs.Runs.{opening, IsRun, reached}
use Rattle.protocol.specs.OnBook as book
use Rattle.protocol.specs.OnCell as cell
use Rattle.protocol.specs.History.{History, Slice, Ran, Stands, Gone, no_history, history, grown, with_at, not_run, ran_in, ran_on, completed, left_for_good, without_standing, long_staying, asks, is_traceless, is_reader_act}
use Rattle.protocol_laws.specs.Tracks.{Key, key_of, keys_in, is_key_among, slices_in, InOrder, has_read}
use Rattle.protocol_laws.specs.Turns.{Turns}
use Rattle.protocol_laws.specs.Highs.{AllDoomed, TakenAlong, doomed_at}
use Rattle.protocol_laws.proofs.machine.ActsGrow.{Grows, acts_grow, grown_holds}
use Rattle.protocol_laws.proofs.machine.ReadersKept.{LockOf, Locks}
use Rattle.protocol_laws.proofs.first.Agree.{agree, agree_is}
use Rattle.protocol_laws.specs.Sees.{SeesAt}
use Rattle.protocol_laws.proofs.machine.ReadersSee.{ReadBy, AllSee, none_has, not_read, reads_at}
use Rattle.protocol_laws.proofs.machine.ActsFound as acts
use Rattle.protocol_laws.proofs.machine.ActsFound.{Holds}
use Rattle.protocol_laws.proofs.machine.ActResults as results
use Rattle.protocol_laws.proofs.machine.BehindKept as behind
use Rattle.protocol_laws.proofs.machine.QueuedKept.{in_book, found_some}
use Rattle.protocol_laws.proofs.machine.StartsKept.{Starts, Started}
use Rattle.protocol_laws.proofs.machine.TrackLists
use Rattle.protocol_laws.proofs.machine.TracksKept.{Tracked}
use Rattle.protocol_laws.proofs.machine.TurnsKept.{one_is, Turned}
use Rattle.protocol_laws.proofs.machine.ShowsKept as shows
use Rattle.protocol_laws.proofs.machine.Good.{Given}
use Rattle.protocol_laws.proofs.machine.AllGood as all
use Rattle.protocol_laws.proofs.machine.AllGood.{AllGood}
use Rattle.protocol_laws.proofs.machine.Higher as higher
use Rattle.protocol_laws.proofs.first.Lists.{all_join, all_map, all_filter, weaker}

-- ---- one ACT ahead of another on a long schedule

abbrev pub stands_in : ℕ → List Ran → Bool
stands_in t rs = is_key_among (OfAct t) (keys_in rs)

abbrev pub is_act_ahead : ℕ → ℕ → List Ran → Bool
is_act_ahead u t [] = false
is_act_ahead u t (Stands (OfBatch j) c ss ∷ rs) = is_act_ahead u t rs
is_act_ahead u t (Stands (OfAct v) c ss ∷ rs) = ((v == u) && stands_in t rs) || is_act_ahead u t rs
is_act_ahead u t (Gone y ss ∷ rs) = is_act_ahead u t rs

abbrev pub is_unplaced : Act → Bool
is_unplaced x = not (is_ordered x.status)

-- the one ahead is doomed; or the one behind has no place, and is doomed or stands there behind the other one
abbrev pub PairStands : List Act → (ℕ → List Ran) → Pair → Type 0
PairStands acts long p = (doomed_at acts p.ahead ≡ true) ⊎ ((holds is_unplaced (act_of p.behind acts) ≡ true) × ((doomed_at acts p.behind ≡ true) ⊎ (is_act_ahead p.ahead p.behind (long p.actor) ≡ true)))

-- ---- walks

keys_more : (who : Who) (rs xs : List Ran) → is_key_among who (keys_in rs) ≡ true → is_key_among who (keys_in (rs ++ xs)) ≡ true
keys_more who [] xs h = absurd (true≢false (sym h))
keys_more who (Stands y c ss ∷ rs) xs h = elim (or_cases (is_who y who) (is_key_among who (keys_in rs)) h) [ inl q ↦ or_left (is_who y who) _ q | inr q ↦ or_right (is_who y who) _ (keys_more who rs xs q) ]
keys_more who (Gone y ss ∷ rs) xs h = keys_more who rs xs h

keys_ran : (who y : Who) (x : Slice) (rs : List Ran) → is_key_among who (keys_in (map (ran_in y x) rs)) ≡ is_key_among who (keys_in rs)
keys_ran who y x [] = refl
keys_ran who y x (Stands z c ss ∷ rs) = ap (λ b. is_who z who || b) (keys_ran who y x rs)
keys_ran who y x (Gone z ss ∷ rs) = keys_ran who y x rs

keys_completed : (who : Who) (k : ℕ) (rs : List Ran) → is_key_among who (keys_in (map (completed k) rs)) ≡ is_key_among who (keys_in rs)
keys_completed who k [] = refl
keys_completed who k (Stands z c ss ∷ rs) = ap (λ b. is_who z who || b) (keys_completed who k rs)
keys_completed who k (Gone z ss ∷ rs) = keys_completed who k rs

keys_left : (t : ℕ) (y : Who) (rs : List Ran) → is_who (OfAct t) y ≡ false → stands_in t rs ≡ true → stands_in t (map (left_for_good y) rs) ≡ true
keys_left t y [] e h = h
keys_left t y (Stands z c ss ∷ rs) e h = by (is_who z y) refl (or_cases (is_who z (OfAct t)) (stands_in t rs) h) (keys_left t y rs e)
  where
    same : (z : Who) → is_who z (OfAct t) ≡ true → is_who z y ≡ true → ⊥
    same (OfBatch j) i q = true≢false (sym i)
    same (OfAct v) i q = true≢false (sym (subst (λ n. is_who (OfAct n) y ≡ true) (eqb-true v t i) q) ∙ e)

    by : (b : Bool) → is_who z y ≡ b → (is_who z (OfAct t) ≡ true) ⊎ (stands_in t rs ≡ true) → (stands_in t rs ≡ true → stands_in t (map (left_for_good y) rs) ≡ true) → stands_in t ((if b then Gone z ss else Stands z c ss) ∷ map (left_for_good y) rs) ≡ true
    by true q (inl i) r = absurd (same z i q)
    by true q (inr i) r = r i
    by false q (inl i) r = or_left (is_who z (OfAct t)) _ i
    by false q (inr i) r = or_right (is_who z (OfAct t)) _ (r i)
keys_left t y (Gone z ss ∷ rs) e h = keys_left t y rs e h

keys_undone : (t v : ℕ) (rs : List Ran) → (t == v) ≡ false → stands_in t rs ≡ true → stands_in t (without_standing (OfAct v) rs) ≡ true
keys_undone t v [] e h = h
keys_undone t v (Stands z c ss ∷ rs) e h = by (is_who z (OfAct v)) refl (or_cases (is_who z (OfAct t)) (stands_in t rs) h) (keys_undone t v rs e)
  where
    same : (z : Who) → is_who z (OfAct t) ≡ true → is_who z (OfAct v) ≡ true → ⊥
    same (OfBatch j) i q = true≢false (sym i)
    same (OfAct n) i q = true≢false (sym (subst (λ m. (m == v) ≡ true) (eqb-true n t i) q) ∙ e)

    by : (b : Bool) → is_who z (OfAct v) ≡ b → (is_who z (OfAct t) ≡ true) ⊎ (stands_in t rs ≡ true) → (stands_in t rs ≡ true → stands_in t (without_standing (OfAct v) rs) ≡ true) → stands_in t (if b then without_standing (OfAct v) rs else Stands z c ss ∷ without_standing (OfAct v) rs) ≡ true
    by true q (inl i) r = absurd (same z i q)
    by true q (inr i) r = r i
    by false q (inl i) r = or_left (is_who z (OfAct t)) _ i
    by false q (inr i) r = or_right (is_who z (OfAct t)) _ (r i)
keys_undone t v (Gone z ss ∷ rs) e h = keys_undone t v rs e h

not_all : (ac : List Act) (t : ℕ) (rs : List Ran) → (doomed_at ac t ≡ true → ⊥) → AllDoomed ac rs → stands_in t rs ≡ true → ⊥
not_all ac t [] d a h = true≢false (sym h)
not_all ac t (Stands (OfBatch j) c ss ∷ rs) d a h = not_all ac t rs d a h
not_all ac t (Stands (OfAct v) c ss ∷ rs) d a h = elim (or_cases (v == t) (stands_in t rs) h) [ inl q ↦ d (subst (λ z. doomed_at ac z ≡ true) (eqb-true v t q) a.0) | inr q ↦ not_all ac t rs d a.1 q ]
not_all ac t (Gone y ss ∷ rs) d a h = not_all ac t rs d a h

keys_staying : (cs : List Cascade) (ac : List Act) (t : ℕ) (rs : List Ran) → (doomed_at ac t ≡ true → ⊥) → TakenAlong cs ac rs → stands_in t rs ≡ true → stands_in t (long_staying cs rs) ≡ true
keys_staying cs ac t [] d x h = h
keys_staying cs ac t (Stands (OfBatch j) c ss ∷ rs) d x h = by (is_aborted j cs) refl (keys_staying cs ac t rs d x.1 h)
  where
    by : (b : Bool) → is_aborted j cs ≡ b → stands_in t (long_staying cs rs) ≡ true → stands_in t (if b then [] else Stands (OfBatch j) c ss ∷ long_staying cs rs) ≡ true
    by true q r = absurd (not_all ac t rs d (x.0 q) h)
    by false q r = r
keys_staying cs ac t (Stands (OfAct v) c ss ∷ rs) d x h = elim (or_cases (v == t) (stands_in t rs) h) [ inl q ↦ or_left (v == t) _ q | inr q ↦ or_right (v == t) _ (keys_staying cs ac t rs d x.1 q) ]
keys_staying cs ac t (Gone y ss ∷ rs) d x h = keys_staying cs ac t rs d x h

-- where the one behind stays standing, and the one ahead is not taken out
two : (a b c d : Bool) → (a && b) ≡ true → (b ≡ true → d ≡ true) → (a ≡ true → c ≡ true) → (c && d) ≡ true
two a b c d h k l = let p = and_parts a b h in and_from c d (l p.0) (k p.1)

ahead_join : (u t : ℕ) (rs xs : List Ran) → is_act_ahead u t rs ≡ true → is_act_ahead u t (rs ++ xs) ≡ true
ahead_join u t [] xs h = absurd (true≢false (sym h))
ahead_join u t (Stands (OfBatch j) c ss ∷ rs) xs h = ahead_join u t rs xs h
ahead_join u t (Stands (OfAct v) c ss ∷ rs) xs h = elim (or_cases ((v == u) && stands_in t rs) (is_act_ahead u t rs) h) [ inl q ↦ or_left ((v == u) && stands_in t (rs ++ xs)) _ (two (v == u) (stands_in t rs) (v == u) (stands_in t (rs ++ xs)) q (keys_more (OfAct t) rs xs) (λ e. e)) | inr q ↦ or_right ((v == u) && stands_in t (rs ++ xs)) _ (ahead_join u t rs xs q) ]
ahead_join u t (Gone y ss ∷ rs) xs h = ahead_join u t rs xs h

ahead_ran : (u t : ℕ) (y : Who) (x : Slice) (rs : List Ran) → is_act_ahead u t rs ≡ true → is_act_ahead u t (map (ran_in y x) rs) ≡ true
ahead_ran u t y x [] h = h
ahead_ran u t y x (Stands (OfBatch j) c ss ∷ rs) h = ahead_ran u t y x rs h
ahead_ran u t y x (Stands (OfAct v) c ss ∷ rs) h = elim (or_cases ((v == u) && stands_in t rs) (is_act_ahead u t rs) h) [ inl q ↦ or_left ((v == u) && stands_in t (map (ran_in y x) rs)) _ (two (v == u) (stands_in t rs) (v == u) (stands_in t (map (ran_in y x) rs)) q (λ e. keys_ran (OfAct t) y x rs ∙ e) (λ e. e)) | inr q ↦ or_right ((v == u) && stands_in t (map (ran_in y x) rs)) _ (ahead_ran u t y x rs q) ]
ahead_ran u t y x (Gone z ss ∷ rs) h = ahead_ran u t y x rs h

ahead_completed : (u t k : ℕ) (rs : List Ran) → is_act_ahead u t rs ≡ true → is_act_ahead u t (map (completed k) rs) ≡ true
ahead_completed u t k [] h = h
ahead_completed u t k (Stands (OfBatch j) c ss ∷ rs) h = ahead_completed u t k rs h
ahead_completed u t k (Stands (OfAct v) c ss ∷ rs) h = elim (or_cases ((v == u) && stands_in t rs) (is_act_ahead u t rs) h) [ inl q ↦ or_left ((v == u) && stands_in t (map (completed k) rs)) _ (two (v == u) (stands_in t rs) (v == u) (stands_in t (map (completed k) rs)) q (λ e. keys_completed (OfAct t) k rs ∙ e) (λ e. e)) | inr q ↦ or_right ((v == u) && stands_in t (map (completed k) rs)) _ (ahead_completed u t k rs q) ]
ahead_completed u t k (Gone z ss ∷ rs) h = ahead_completed u t k rs h

ahead_left : (u t : ℕ) (y : Who) (rs : List Ran) → is_who (OfAct u) y ≡ false → is_who (OfAct t) y ≡ false → is_act_ahead u t rs ≡ true → is_act_ahead u t (map (left_for_good y) rs) ≡ true
ahead_left u t y [] d e h = h
ahead_left u t y (Stands (OfBatch j) c ss ∷ rs) d e h = by (is_who (OfBatch j) y) (ahead_left u t y rs d e h)
  where
    by : (b : Bool) → is_act_ahead u t (map (left_for_good y) rs) ≡ true → is_act_ahead u t ((if b then Gone (OfBatch j) ss else Stands (OfBatch j) c ss) ∷ map (left_for_good y) rs) ≡ true
    by true r = r
    by false r = r
ahead_left u t y (Stands (OfAct v) c ss ∷ rs) d e h = by (is_who (OfAct v) y) refl (or_cases ((v == u) && stands_in t rs) (is_act_ahead u t rs) h) (ahead_left u t y rs d e)
  where
    by : (b : Bool) → is_who (OfAct v) y ≡ b → (((v == u) && stands_in t rs) ≡ true) ⊎ (is_act_ahead u t rs ≡ true) → (is_act_ahead u t rs ≡ true → is_act_ahead u t (map (left_for_good y) rs) ≡ true)
        → is_act_ahead u t ((if b then Gone (OfAct v) ss else Stands (OfAct v) c ss) ∷ map (left_for_good y) rs) ≡ true
    by true q (inl i) r = absurd (true≢false (sym (subst (λ n. is_who (OfAct n) y ≡ true) (eqb-true v u (and_parts (v == u) (stands_in t rs) i).0) q) ∙ d))
    by true q (inr i) r = r i
    by false q (inl i) r = or_left ((v == u) && stands_in t (map (left_for_good y) rs)) _ (two (v == u) (stands_in t rs) (v == u) (stands_in t (map (left_for_good y) rs)) i (keys_left t y rs e) (λ e. e))
    by false q (inr i) r = or_right ((v == u) && stands_in t (map (left_for_good y) rs)) _ (r i)
ahead_left u t y (Gone z ss ∷ rs) d e h = ahead_left u t y rs d e h

ahead_undone : (u t n : ℕ) (rs : List Ran) → (u == n) ≡ false → (t == n) ≡ false → is_act_ahead u t rs ≡ true → is_act_ahead u t (without_standing (OfAct n) rs) ≡ true
ahead_undone u t n [] d e h = h
ahead_undone u t n (Stands (OfBatch j) c ss ∷ rs) d e h = ahead_undone u t n rs d e h
ahead_undone u t n (Stands (OfAct v) c ss ∷ rs) d e h = by (v == n) refl (or_cases ((v == u) && stands_in t rs) (is_act_ahead u t rs) h) (ahead_undone u t n rs d e)
  where
    by : (b : Bool) → (v == n) ≡ b → (((v == u) && stands_in t rs) ≡ true) ⊎ (is_act_ahead u t rs ≡ true) → (is_act_ahead u t rs ≡ true → is_act_ahead u t (without_standing (OfAct n) rs) ≡ true)
        → is_act_ahead u t (if b then without_standing (OfAct n) rs else Stands (OfAct v) c ss ∷ without_standing (OfAct n) rs) ≡ true
    by true q (inl i) r = absurd (true≢false (sym (subst (λ m. (m == n) ≡ true) (eqb-true v u (and_parts (v == u) (stands_in t rs) i).0) q) ∙ d))
    by true q (inr i) r = r i
    by false q (inl i) r = or_left ((v == u) && stands_in t (without_standing (OfAct n) rs)) _ (two (v == u) (stands_in t rs) (v == u) (stands_in t (without_standing (OfAct n) rs)) i (keys_undone t n rs e) (λ e. e))
    by false q (inr i) r = or_right ((v == u) && stands_in t (without_standing (OfAct n) rs)) _ (r i)
ahead_undone u t n (Gone z ss ∷ rs) d e h = ahead_undone u t n rs d e h

behind_in : (u t : ℕ) (rs : List Ran) → is_act_ahead u t rs ≡ true → stands_in t rs ≡ true
behind_in u t [] h = h
behind_in u t (Stands (OfBatch j) c ss ∷ rs) h = behind_in u t rs h
behind_in u t (Stands (OfAct v) c ss ∷ rs) h = elim (or_cases ((v == u) && stands_in t rs) (is_act_ahead u t rs) h) [ inl q ↦ or_right (v == t) _ (and_parts (v == u) (stands_in t rs) q).1 | inr q ↦ or_right (v == t) _ (behind_in u t rs q) ]
behind_in u t (Gone z ss ∷ rs) h = behind_in u t rs h

ahead_staying : (cs : List Cascade) (ac : List Act) (u t : ℕ) (rs : List Ran) → (doomed_at ac t ≡ true → ⊥) → TakenAlong cs ac rs → is_act_ahead u t rs ≡ true → is_act_ahead u t (long_staying cs rs) ≡ true
ahead_staying cs ac u t [] d x h = h
ahead_staying cs ac u t (Stands (OfBatch j) c ss ∷ rs) d x h = by (is_aborted j cs) refl (ahead_staying cs ac u t rs d x.1 h)
  where
    by : (b : Bool) → is_aborted j cs ≡ b → is_act_ahead u t (long_staying cs rs) ≡ true → is_act_ahead u t (if b then [] else Stands (OfBatch j) c ss ∷ long_staying cs rs) ≡ true
    by true q r = absurd (not_all ac t rs d (x.0 q) (behind_in u t rs h))
    by false q r = r
ahead_staying cs ac u t (Stands (OfAct v) c ss ∷ rs) d x h = elim (or_cases ((v == u) && stands_in t rs) (is_act_ahead u t rs) h) [ inl q ↦ or_left ((v == u) && stands_in t (long_staying cs rs)) _ (two (v == u) (stands_in t rs) (v == u) (stands_in t (long_staying cs rs)) q (keys_staying cs ac t rs d x.1) (λ e. e)) | inr q ↦ or_right ((v == u) && stands_in t (long_staying cs rs)) _ (ahead_staying cs ac u t rs d x.1 q) ]
ahead_staying cs ac u t (Gone z ss ∷ rs) d x h = ahead_staying cs ac u t rs d x h

-- the ACTs of the group at the end stand there, so ahead of one that is placed
group_stands : (whole : List Ran) (seen : List Lock) (rs : List Ran) (es : List Entry) → ((v : ℕ) → stands_in v rs ≡ true → stands_in v whole ≡ true) → Turns rs es → AllByRecursion (λ x. stands_in x.tid whole ≡ true) seen → AllByRecursion (λ x. stands_in x.tid whole ≡ true) (group_behind seen es)
group_stands whole seen [] [] k t h = h
group_stands whole seen [] (e ∷ es) k t h = absurd t
group_stands whole seen (Gone y ss ∷ rs) es k t h = group_stands whole seen rs es k t h
group_stands whole seen (Stands y c ss ∷ rs) [] k t h = absurd t
group_stands whole seen (Stands (OfBatch j) c ss ∷ rs) (ActEntry x ∷ es) k t h = absurd (cc t.0)
group_stands whole seen (Stands (OfBatch j) c ss ∷ rs) (BatchEntry b ∷ es) k t h = group_stands whole [] rs es k t.2 tt
group_stands whole seen (Stands (OfAct v) c ss ∷ rs) (BatchEntry b ∷ es) k t h = absurd (cc t.0)
group_stands whole seen (Stands (OfAct v) c ss ∷ rs) (ActEntry x ∷ es) k t h =
    let i : x.tid ≡ v = cc t.0 in
    group_stands whole (seen ++ x ∷ []) rs es (λ n q. k n (or_right (v == n) _ q)) t.2 (all_join (λ x. stands_in x.tid whole ≡ true) seen (x ∷ []) h (k x.tid (or_left (v == x.tid) _ (eq-eqb v x.tid (sym i))), tt))

ahead_last : (u t : ℕ) (rs : List Ran) → stands_in u rs ≡ true → is_act_ahead u t (rs ++ not_run (OfAct t) ∷ []) ≡ true
ahead_last u t [] h = absurd (true≢false (sym h))
ahead_last u t (Stands (OfBatch j) c ss ∷ rs) h = ahead_last u t rs h
ahead_last u t (Stands (OfAct v) c ss ∷ rs) h = elim (or_cases (v == u) (stands_in u rs) h) [
  | inl q ↦ or_left ((v == u) && stands_in t (rs ++ not_run (OfAct t) ∷ [])) _ (and_from (v == u) (stands_in t (rs ++ not_run (OfAct t) ∷ [])) q (own rs))
  | inr q ↦ or_right ((v == u) && stands_in t (rs ++ not_run (OfAct t) ∷ [])) _ (ahead_last u t rs q)
]
  where
    own : (rs : List Ran) → stands_in t (rs ++ not_run (OfAct t) ∷ []) ≡ true
    own [] = or_left (t == t) _ (eq-eqb t t refl)
    own (Stands y c ss ∷ rs) = or_right (is_who y (OfAct t)) _ (own rs)
    own (Gone y ss ∷ rs) = own rs
ahead_last u t (Gone z ss ∷ rs) h = ahead_last u t rs h

-- ---- at a Decide: who ran everywhere has no ACT ahead of it

abbrev pub NoActComplete : List Key → Type 0
NoActComplete ks = AllByRecursion (λ k. is_act_who k.who ≡ true → k.complete ≡ false) ks

keys_of : (es : List Entry) → NoActComplete (map key_of es)
keys_of [] = tt
keys_of (BatchEntry b ∷ es) = ((λ e. absurd (true≢false (sym e))), keys_of es)
keys_of (ActEntry x ∷ es) = ((λ e. refl), keys_of es)

left_empty : (xs ys : List Slice) → xs ++ ys ≡ [] → (is_empty xs ≡ true) × (ys ≡ [])
left_empty [] ys e = (refl, e)
left_empty (x ∷ xs) ys e = absurd (cc e)

none_ran : {C : Type 0} (rd : ℕ → Bool) (t : ℕ) (inbox : List (Waiting C)) (rs : List Ran) → slices_in rs ≡ [] → rd t ≡ false → Starts rd inbox rs → stands_in t rs ≡ true → is_some (waiting_of t inbox) ≡ true
none_ran rd t inbox [] e n s h = absurd (true≢false (sym h))
none_ran rd t inbox (Stands (OfBatch j) c ss ∷ rs) e n s h = none_ran rd t inbox rs (left_empty ss (slices_in rs) e).1 n s h
none_ran rd t inbox (Stands (OfAct v) c ss ∷ rs) e n s h = elim (or_cases (v == t) (stands_in t rs) h) [
  | inl q ↦ subst (λ z. is_some (waiting_of z inbox) ≡ true) (eqb-true v t q) (s.0 (left_empty ss (slices_in rs) e).0 (ap rd (eqb-true v t q) ∙ n))
  | inr q ↦ none_ran rd t inbox rs (left_empty ss (slices_in rs) e).1 n s.1 q
]
none_ran rd t inbox (Gone y ss ∷ rs) e n s h = none_ran rd t inbox rs (left_empty ss (slices_in rs) e).1 n s h

waits_behind : {C : Type 0} (rd : ℕ → Bool) (u t : ℕ) (inbox : List (Waiting C)) (rs : List Ran) → InOrder rs → NoActComplete (keys_in rs) → rd t ≡ false → Starts rd inbox rs → is_act_ahead u t rs ≡ true → is_some (waiting_of t inbox) ≡ true
waits_behind rd u t inbox [] o k n s h = absurd (true≢false (sym h))
waits_behind rd u t inbox (Stands (OfBatch j) c ss ∷ rs) o k n s h = waits_behind rd u t inbox rs o.1 k.1 n s h
waits_behind rd u t inbox (Stands (OfAct v) c ss ∷ rs) o k n s h = elim (or_cases ((v == u) && stands_in t rs) (is_act_ahead u t rs) h) [
  | inl q ↦ none_ran rd t inbox rs (o.0 (k.0 refl)) n s.1 (and_parts (v == u) (stands_in t rs) q).1
  | inr q ↦ waits_behind rd u t inbox rs o.1 k.1 n s.1 q
]
waits_behind rd u t inbox (Gone y ss ∷ rs) o k n s h = waits_behind rd u t inbox rs o k n s h

-- ---- a reader that ran has no rival ahead of it

abbrev pub is_other : Act → Bool
is_other x = not x.reader

turns_key : (t : ℕ) (rs : List Ran) (es : List Entry) → Turns rs es → stands_in t rs ≡ true → is_key_among (OfAct t) (map key_of es) ≡ true
turns_key t [] es r h = absurd (true≢false (sym h))
turns_key t (Gone y ss ∷ rs) es r h = turns_key t rs es r h
turns_key t (Stands y c ss ∷ rs) [] r h = absurd r
turns_key t (Stands y c ss ∷ rs) (BatchEntry b ∷ es) r h = turns_key t rs es r.2 (subst (λ z. (is_who z (OfAct t) || stands_in t rs) ≡ true) (sym r.0) h)
turns_key t (Stands y c ss ∷ rs) (ActEntry x ∷ es) r h = elim (or_cases (x.tid == t) (stands_in t rs) (subst (λ z. (is_who z (OfAct t) || stands_in t rs) ≡ true) (sym r.0) h)) [
  | inl q ↦ or_left (x.tid == t) _ q
  | inr q ↦ or_right (x.tid == t) _ (turns_key t rs es r.2 q)
]

not_both : (v : Bool) (o : Option Act) → holds (λ y. agree y.reader v) o ≡ true → holds is_other o ≡ true → v ≡ false
not_both v None l k = absurd (true≢false (sym l))
not_both v (Some y) l k = sym (agree_is y.reader v l) ∙ not-true y.reader k

unread_behind : (acts : List Act) (now : State) (u t : ℕ) (zs : List Slice) (rs : List Ran) (es : List Entry) → Turns rs es → AllByRecursion (LockOf acts) es → SeesAt now zs es → holds is_other (act_of u acts) ≡ true → is_reader_act (act_of t acts) ≡ true → is_act_ahead u t rs ≡ true → has_read zs t ≡ false
unread_behind acts now u t zs [] es r l s k d h = absurd (true≢false (sym h))
unread_behind acts now u t zs (Gone y ss ∷ rs) es r l s k d h = unread_behind acts now u t zs rs es r l s k d h
unread_behind acts now u t zs (Stands y c ss ∷ rs) [] r l s k d h = absurd r
unread_behind acts now u t zs (Stands (OfBatch j) c ss ∷ rs) (BatchEntry b ∷ es) r l s k d h = unread_behind acts now u t zs rs es r.2 l.1 s.2 k d h
unread_behind acts now u t zs (Stands (OfBatch j) c ss ∷ rs) (ActEntry x ∷ es) r l s k d h = absurd (cc r.0)
unread_behind acts now u t zs (Stands (OfAct v) c ss ∷ rs) (BatchEntry b ∷ es) r l s k d h = absurd (cc r.0)
unread_behind acts now u t zs (Stands (OfAct v) c ss ∷ rs) (ActEntry x ∷ es) r l s k d h = elim (or_cases ((v == u) && stands_in t rs) (is_act_ahead u t rs) h) [
  | inl q ↦
      let p = and_parts (v == u) (stands_in t rs) q in
      let i : x.tid ≡ v = cc r.0 in
      let n : x.reader ≡ false = not_both x.reader (act_of x.tid acts) l.0 (subst (λ z. holds is_other (act_of z acts) ≡ true) (sym (i ∙ eqb-true v u p.0)) k) in
      none_has acts t zs es l.1 d (turns_key t rs es r.2 p.1) (s.1 (ap not n))
  | inr q ↦ unread_behind acts now u t zs rs es r.2 l.1 s.2 k d q
]

-- ---- who has no place has none after an event that does not decide it

unplaced_sealed : (st : Status) → not (is_ordered st) ≡ true → not (is_ordered (book.sealed_status st)) ≡ true
unplaced_sealed Live e = e
unplaced_sealed (Doomed v) e = e
unplaced_sealed (Decided c) e = absurd (true≢false (sym e))
unplaced_sealed (Sealed c) e = e

holds_unplaced : (t : ℕ) → Holds (λ u x. u ≡ t → is_unplaced x ≡ true)
holds_unplaced t = record { numbered = λ u x n p. p; marked = λ u a x f i p. p; sealed = λ u x p i. unplaced_sealed x.status (p i); doomed = λ u x v l p i. refl; rises = λ u k x l p. p }

ready_unplaced : {C : Type 0} (w : Fixed C) (e : Event) (s : Machine C) (t : ℕ) → (e ≡ Decide t → ⊥) → acts.Ready w e s (λ u x. u ≡ t → is_unplaced x ≡ true)
unfolding acts.Ready
ready_unplaced w (Admit u) s t n = λ q i. refl
ready_unplaced w (Ask u a) s t n = λ x e p. p
ready_unplaced w (End u a) s t n = λ x r e p. p
ready_unplaced w (Decide u) s t n = λ x e p i. absurd (n (ap Decide i))
ready_unplaced w e s t n = tt

unplaced_stays : {C : Type 0} (w : Fixed C) (e : Event) (s : Machine C) (t : ℕ) → (e ≡ Decide t → ⊥) → holds is_unplaced (act_of t s.book.acts) ≡ true → holds is_unplaced (act_of t (after w e s).book.acts) ≡ true
unplaced_stays w e s t n h = behind.each_to_holds is_unplaced t (after w e s).book.acts (in_book w e s t (found_some is_unplaced (act_of t s.book.acts) h)) (acts.acts_keep w e s (λ u x. u ≡ t → is_unplaced x ≡ true) (holds_unplaced t) (ready_unplaced w e s t n) (behind.holds_to_each is_unplaced t s.book.acts h))

doomed_stays : {C : Type 0} (w : Fixed C) (e : Event) (s : Machine C) (t : ℕ) → doomed_at s.book.acts t ≡ true → doomed_at (after w e s).book.acts t ≡ true
doomed_stays w e s t h = grown_holds (λ x. is_doomed x.status) s.book.acts (after w e s).book.acts t (λ x y k q. k.doomed q) (acts_grow w e s) h

-- ---- one pair

pair_step : {C : Type 0} (w : Fixed C) (e : Event) (s : Machine C) (long long' : ℕ → List Ran) (p : Pair) → (e ≡ Decide p.behind → ⊥)
    → (holds is_unplaced (act_of p.behind s.book.acts) ≡ true → (doomed_at s.book.acts p.behind ≡ true → ⊥) → is_act_ahead p.ahead p.behind (long p.actor) ≡ true → is_act_ahead p.ahead p.behind (long' p.actor) ≡ true)
    → PairStands s.book.acts long p → PairStands (after w e s).book.acts long' p
pair_step w e s long long' p n k h = elim h [
  | inl d ↦ inl (doomed_stays w e s p.ahead d)
  | inr q ↦ inr (
    unplaced_stays w e s p.behind n q.0,
    elim q.1 [
      | inl d ↦ inl (doomed_stays w e s p.behind d)
      | inr i ↦ elim (cases_Bool (doomed_at s.book.acts p.behind)) [
        | inl d ↦ inl (doomed_stays w e s p.behind d)
        | inr d ↦ inr (k q.0 (λ v. true≢false (sym v ∙ d)) i)
      ]
    ],
  )
]

-- at one actor
at_actor : (u t a b : ℕ) (new : List Ran) (long : ℕ → List Ran) → (is_act_ahead u t (long a) ≡ true → is_act_ahead u t new ≡ true) → is_act_ahead u t (long b) ≡ true → is_act_ahead u t (with_at a new long b) ≡ true
at_actor u t a b new long k i = Rattle.protocol_laws.proofs.machine.CommitsKept.beside_carried (λ b rs. is_act_ahead u t (long b) ≡ true → is_act_ahead u t rs ≡ true) a new long (λ j. k) (λ b i. i) b i

-- ---- pairs are of rivals

-- one of the two does not only read
abbrev pub Apart : List Act → Pair → Type 0
Apart acts p = (holds is_other (act_of p.ahead acts) || holds is_other (act_of p.behind acts)) ≡ true

unfoldable pub OfRivals : {C : Type 0} → Machine C → Type 0
OfRivals s = AllByRecursion (Apart s.book.acts) s.book.pairs

apart_later : (acts acts' : List Act) (p : Pair) → Grows acts acts' → Apart acts p → Apart acts' p
apart_later acts acts' p g h = elim (or_cases (holds is_other (act_of p.ahead acts)) (holds is_other (act_of p.behind acts)) h) [
  | inl q ↦ or_left (holds is_other (act_of p.ahead acts')) _ (grown_holds is_other acts acts' p.ahead (λ x y k i. ap not k.reader ∙ i) g q)
  | inr q ↦ or_right (holds is_other (act_of p.ahead acts')) _ (grown_holds is_other acts acts' p.behind (λ x y k i. ap not k.reader ∙ i) g q)
]

tail_locks : (acts : List Act) (seen : List Lock) (es : List Entry) → AllByRecursion (LockOf acts) es → AllByRecursion (λ x. LockOf acts (ActEntry x)) seen → AllByRecursion (λ x. LockOf acts (ActEntry x)) (group_behind seen es)
tail_locks acts seen [] l h = h
tail_locks acts seen (BatchEntry b ∷ es) l h = tail_locks acts [] es l.1 tt
tail_locks acts seen (ActEntry x ∷ es) l h = tail_locks acts (seen ++ x ∷ []) es l.1 (all_join (λ x. LockOf acts (ActEntry x)) seen (x ∷ []) h (l.0, tt))

pub filtered : {X : Type 0} (P Q : X → Type 0) (f : X → Bool) (xs : List X) → ((x : X) → f x ≡ true → P x → Q x) → AllByRecursion P xs → AllByRecursion Q (filter f xs)
filtered P Q f [] k h = tt
filtered P Q f (x ∷ xs) k h = by (f x) refl (filtered P Q f xs k h.1)
  where
    by : (b : Bool) → f x ≡ b → AllByRecursion Q (filter f xs) → AllByRecursion Q (if b then x ∷ filter f xs else filter f xs)
    by true e r = (k x e h.0, r)
    by false e r = r

new_apart : (t a : ℕ) (acts : List Act) (es : List Entry) → holds (λ x. is_live_status x.status) (act_of t acts) ≡ true → AllByRecursion (LockOf acts) es → AllByRecursion (Apart acts) (book.new_pairs t a (book.met (lock_of t acts) es) acts)
new_apart t a acts es live l = all_map (λ x. (holds is_other (act_of x.tid acts) || holds is_other (act_of t acts)) ≡ true) (Apart acts) (λ x. record { behind = t; ahead = x.tid; actor = a }) (filter (λ x. not (book.is_doomed_act acts x)) (book.met (lock_of t acts) es)) (λ x i. i)
    (all_filter _ (λ x. not (book.is_doomed_act acts x)) (book.met (lock_of t acts) es) (filtered (λ x. LockOf acts (ActEntry x)) _ (rivals (lock_of t acts)) (tail_group es) (λ x f i. by x.reader (act_of x.tid acts) (act_of t acts) f i live) (tail_locks acts [] es l tt)))
  where
    one : (b : Bool) → not (b && true) ≡ true → not b ≡ true
    one true f = f
    one false f = refl

    by : (v : Bool) (o p : Option Act) → not (holds (λ y. y.reader) p && v) ≡ true → holds (λ y. agree y.reader v) o ≡ true → holds (λ x. is_live_status x.status) p ≡ true → (holds is_other o || holds is_other p) ≡ true
    by v None p f i k = absurd (true≢false (sym i))
    by v (Some y) None f i k = absurd (true≢false (sym k))
    by false (Some y) (Some z) f i k = or_left (not y.reader) _ (ap not (agree_is y.reader false i))
    by true (Some y) (Some z) f i k = or_right (not y.reader) (not z.reader) (one z.reader f)

asked_apart : (o : Option ℕ) (group : List Lock) (t a : ℕ) (b : Book) (acts : List Act) → AllByRecursion (Apart acts) b.pairs → AllByRecursion (Apart acts) (book.new_pairs t a group b.acts) → AllByRecursion (Apart acts) (book.asked_pairs o group t a b)
asked_apart (Some x) group t a b acts h n = h
asked_apart None group t a b acts h n = all_join (Apart acts) b.pairs _ h n

later : {C : Type 0} (w : Fixed C) (e : Event) (s : Machine C) (ps : List Pair) → AllByRecursion (Apart s.book.acts) ps → AllByRecursion (Apart (after w e s).book.acts) ps
later w e s ps g = weaker (Apart s.book.acts) (Apart (after w e s).book.acts) ps (λ p. apart_later s.book.acts (after w e s).book.acts p (acts_grow w e s)) g

pub of_rivals_kept : {C : Type 0} (w : Fixed C) (e : Event) (s : Machine C) (h : History) → shows.Owed e s h → Locks s → OfRivals s → OfRivals (after w e s)
unfolding OfRivals shows.Owed Locks after
of_rivals_kept w (Ask t a) s h o l g = asked_apart (book.in_the_way (lock_of t s.book.acts) (cell_at s a).entries) (book.met (lock_of t s.book.acts) (cell_at s a).entries) t a s.book (after w (Ask t a) s).book.acts (later w (Ask t a) s s.book.pairs g) (later w (Ask t a) s _ (new_apart t a s.book.acts (cell_at s a).entries o (l a)))
of_rivals_kept w (Finish t a) s h o l g = all_filter (Apart (after w (Finish t a) s).book.acts) _ s.book.pairs (later w (Finish t a) s s.book.pairs g)
of_rivals_kept w e s h o l g = later w e s s.book.pairs g

-- ---- all events

unfoldable pub PairsAhead : {C : Type 0} → Machine C → History → Type 0
PairsAhead s h = AllByRecursion (PairStands s.book.acts h.long) s.book.pairs

pub record AheadWith {C : Type 0} (w : Fixed C) (s : Machine C) (h : History) : Type 0 where
  pub turned : Turned s h
  pub tracked : Tracked w s h
  pub started : Started s h
  pub taken : (a : ℕ) → TakenAlong s.book.cascades s.book.acts (h.long a)
  -- the one behind has not read there, unless both only read
  pub unread : (a u t : ℕ) → (holds is_other (act_of u s.book.acts) || holds is_other (act_of t s.book.acts)) ≡ true → is_act_ahead u t (h.long a) ≡ true → has_read (h.reads a) t ≡ false
  pub rivals : AllByRecursion (Apart s.book.acts) s.book.pairs
  -- who was decided has no control
  pub away : (t a : ℕ) (x : Act) → act_of t s.book.acts ≡ Some x → is_some x.result ≡ true → is_some (waiting_of t (cell_at s a).inbox) ≡ false

asked_new : {C : Type 0} (t a : ℕ) (c : Cell C) (ac acts' : List Act) (long : ℕ → List Ran) → Turns (long a) c.entries → holds is_unplaced (act_of t acts') ≡ true
    → AllByRecursion (PairStands acts' (with_at a (long a ++ not_run (OfAct t) ∷ []) long)) (book.new_pairs t a (book.met (lock_of t ac) c.entries) ac)
asked_new t a c ac acts' long r un = all_map (λ x. stands_in x.tid (long a) ≡ true) (PairStands acts' (with_at a (long a ++ not_run (OfAct t) ∷ []) long)) (λ x. record { behind = t; ahead = x.tid; actor = a }) (filter (λ x. not (book.is_doomed_act ac x)) (book.met (lock_of t ac) c.entries))
    (λ x h. inr (un, inr (rw (eq-eqb a a refl) (ahead_last x.tid t (long a) h))))
    (all_filter (λ x. stands_in x.tid (long a) ≡ true) (λ x. not (book.is_doomed_act ac x)) (book.met (lock_of t ac) c.entries) (all_filter (λ x. stands_in x.tid (long a) ≡ true) (rivals (lock_of t ac)) (tail_group c.entries) (group_stands (long a) [] (long a) c.entries (λ v q. q) r tt)))

asked_all : {C : Type 0} (t a : ℕ) (o : Option ℕ) (c : Cell C) (b : Book) (acts' : List Act) (long : ℕ → List Ran) → Turns (long a) c.entries → holds is_unplaced (act_of t acts') ≡ true
    → AllByRecursion (PairStands acts' (with_at a (long a ++ map not_run (asks t o)) long)) b.pairs → AllByRecursion (PairStands acts' (with_at a (long a ++ map not_run (asks t o)) long)) (book.asked_pairs o (book.met (lock_of t b.acts) c.entries) t a b)
asked_all t a (Some x) c b acts' long r un h = h
asked_all t a None c b acts' long r un h = all_join (PairStands acts' (with_at a (long a ++ not_run (OfAct t) ∷ []) long)) b.pairs _ h (asked_new t a c b.acts acts' long r un)

ask_ahead : (u t v : ℕ) (o : Option ℕ) (rs : List Ran) → is_act_ahead u t rs ≡ true → is_act_ahead u t (rs ++ map not_run (asks v o)) ≡ true
ask_ahead u t v None rs h = ahead_join u t rs (not_run (OfAct v) ∷ []) h
ask_ahead u t v (Some x) rs h = rw (append-nil rs) h

finish_ahead : (u t v : ℕ) (q : Bool) (rs : List Ran) → (u == v) ≡ false → (t == v) ≡ false → is_act_ahead u t rs ≡ true → is_act_ahead u t (if q then without_standing (OfAct v) rs else map (left_for_good (OfAct v)) rs) ≡ true
finish_ahead u t v true rs d e h = ahead_undone u t v rs d e h
finish_ahead u t v false rs d e h = ahead_left u t (OfAct v) rs d e h

-- who finishes has its place or is doomed
not_finished : (ac : List Act) (t v : ℕ) → holds (λ x. is_doomed x.status || is_sealed x.status) (act_of v ac) ≡ true → holds is_unplaced (act_of t ac) ≡ true → (doomed_at ac t ≡ true → ⊥) → (t == v) ≡ false
not_finished ac t v e n d = false_from_ne_true (t == v) (λ q. by (act_of t ac) (subst (λ z. holds (λ x. is_doomed x.status || is_sealed x.status) (act_of z ac) ≡ true) (sym (eqb-true t v q)) e) n d)
  where
    one : (st : Status) → (is_doomed st || is_sealed st) ≡ true → not (is_ordered st) ≡ true → (is_doomed st ≡ true → ⊥) → ⊥
    one Live e n d = true≢false (sym e)
    one (Doomed v) e n d = d refl
    one (Decided c) e n d = true≢false (sym n)
    one (Sealed c) e n d = true≢false (sym n)

    by : (o : Option Act) → holds (λ x. is_doomed x.status || is_sealed x.status) o ≡ true → holds is_unplaced o ≡ true → (holds (λ x. is_doomed x.status) o ≡ true → ⊥) → ⊥
    by None e n d = true≢false (sym e)
    by (Some x) e n d = one x.status e n d

no_decide : (e : Event) (t : ℕ) → Rattle.protocol_laws.proofs.machine.ActsKept.IsNoDecide e → e ≡ Decide t → ⊥
no_decide e t n q = subst Rattle.protocol_laws.proofs.machine.ActsKept.IsNoDecide q n

still : {C : Type 0} (w : Fixed C) (e : Event) (s : Machine C) (long : ℕ → List Ran) → Rattle.protocol_laws.proofs.machine.ActsKept.IsNoDecide e → AllByRecursion (PairStands s.book.acts long) s.book.pairs → AllByRecursion (PairStands (after w e s).book.acts long) s.book.pairs
still w e s long n g = weaker (PairStands s.book.acts long) (PairStands (after w e s).book.acts long) s.book.pairs (λ p h. pair_step w e s long long p (no_decide e p.behind n) (λ u d i. i) h) g

moved : {C : Type 0} (w : Fixed C) (e : Event) (s : Machine C) (long : ℕ → List Ran) (a : ℕ) (new : List Ran) → Rattle.protocol_laws.proofs.machine.ActsKept.IsNoDecide e → ((u t : ℕ) → (doomed_at s.book.acts t ≡ true → ⊥) → is_act_ahead u t (long a) ≡ true → is_act_ahead u t new ≡ true)
    → AllByRecursion (PairStands s.book.acts long) s.book.pairs → AllByRecursion (PairStands (after w e s).book.acts (with_at a new long)) s.book.pairs
moved w e s long a new n k g = weaker (PairStands s.book.acts long) (PairStands (after w e s).book.acts (with_at a new long)) s.book.pairs (λ p h. pair_step w e s long (with_at a new long) p (no_decide e p.behind n) (λ u d i. at_actor p.ahead p.behind a p.actor new long (k p.ahead p.behind d) i) h) g

pub live_unplaced : (o : Option Act) → holds (λ x. is_live_status x.status) o ≡ true → holds is_unplaced o ≡ true
live_unplaced None e = e
live_unplaced (Some x) e = by x.status e
  where
    by : (st : Status) → is_live_status st ≡ true → not (is_ordered st) ≡ true
    by Live e = refl
    by (Doomed v) e = refl
    by (Decided c) e = absurd (true≢false (sym e))
    by (Sealed c) e = absurd (true≢false (sym e))

pub ahead_kept : {C : Type 0} (w : Fixed C) (e : Event) (s : Machine C) (h : History) → IsAllowed w e s → shows.Owed e s h → AheadWith w s h → PairsAhead s h → PairsAhead (after w e s) (grown w e s h)
unfolding PairsAhead shows.Owed Turned Tracked Started conditions after grown
ahead_kept w (Arrive k a) s h ok o q g = moved w (Arrive k a) s h.long a (h.long a ++ not_run (OfBatch k) ∷ []) tt (λ u t d i. ahead_join u t (h.long a) (not_run (OfBatch k) ∷ []) i) g
ahead_kept w (Ask t a) s h ok o q g =
    asked_all t a (book.in_the_way (lock_of t s.book.acts) (cell_at s a).entries) (cell_at s a) s.book (after w (Ask t a) s).book.acts h.long (q.turned a) (unplaced_stays w (Ask t a) s t (no_decide (Ask t a) t tt) (live_unplaced (act_of t s.book.acts) o))
    (moved w (Ask t a) s h.long a (h.long a ++ map not_run (asks t (book.in_the_way (lock_of t s.book.acts) (cell_at s a).entries))) tt (λ u v d i. ask_ahead u v t (book.in_the_way (lock_of t s.book.acts) (cell_at s a).entries) (h.long a) i) g)
ahead_kept w (Run t a) s h ok o q g =
    let who = who_on t (cell_at s a).entries in
    let z : Slice = record { tid = t; found = (cell_at s a).state; left = (cell.slice_run w.code t a (cell_at s a)).state } in
    moved w (Run t a) s h.long a (ran_on (cell.reads_on t (cell_at s a).entries) who z (h.long a)) tt (λ u v d i. TrackLists.on_reads (λ rs. is_act_ahead u v rs ≡ true) (cell.reads_on t (cell_at s a).entries) who z (h.long a) (λ n. ahead_ran u v who z (h.long a) n) i) g
ahead_kept w (Complete k a) s h ok o q g = moved w (Complete k a) s h.long a (map (completed k) (h.long a)) tt (λ u v d i. ahead_completed u v k (h.long a) i) g
ahead_kept w (Rollback a) s h ok o q g = moved w (Rollback a) s h.long a (long_staying s.book.cascades (h.long a)) tt (λ u v d i. ahead_staying s.book.cascades s.book.acts u v (h.long a) d (q.taken a) i) g
ahead_kept {C} w (Decide t) s h ok o q g = both_all (PairStands s.book.acts h.long) (Apart s.book.acts) (PairStands (after w (Decide t) s).book.acts h.long) s.book.pairs (λ p i r. elim (cases_Bool (p.behind == t)) [
  | inl e ↦ inl (own p (eqb-true p.behind t e) r i)
  | inr e ↦ pair_step w (Decide t) s h.long h.long p (λ v. not_it p e v) (λ u d j. j) i
]) g q.rivals
  where
    x : (y : Act) × (act_of t s.book.acts ≡ Some y) × ((is_some y.result && is_live_status y.status) ≡ true)
    x = one_is (λ x. is_some x.result && is_live_status x.status) (act_of t s.book.acts) ok.0

    not_it : (p : Pair) → (p.behind == t) ≡ false → Decide t ≡ Decide p.behind → ⊥
    not_it p e v = let i : t ≡ p.behind = cc v in true≢false (sym (eq-eqb p.behind t (sym i)) ∙ e)

    undoomed : (st : Status) → is_live_status st ≡ true → is_doomed st ≡ true → ⊥
    undoomed Live l d = true≢false (sym d)
    undoomed (Doomed v) l d = true≢false (sym l)
    undoomed (Decided c) l d = true≢false (sym l)
    undoomed (Sealed c) l d = true≢false (sym l)

    own : (p : Pair) → p.behind ≡ t → Apart s.book.acts p → PairStands s.book.acts h.long p → doomed_at (after w (Decide t) s).book.acts p.ahead ≡ true
    own p e k (inl d) = doomed_stays w (Decide t) s p.ahead d
    own p e k (inr (u, inl d)) = let l = (and_parts (is_some x.0.result) (is_live_status x.0.status) x.2).1 in absurd (undoomed x.0.status l (subst (λ o. holds (λ x. is_doomed x.status) o ≡ true) x.1 (subst (λ z. doomed_at s.book.acts z ≡ true) e d)))
    own p e k (inr (u, inr i)) =
        let r = (and_parts (is_some x.0.result) (is_live_status x.0.status) x.2).0 in
        let c : Cell C = cell_at s p.actor in
        absurd (true≢false (sym (waits_behind (has_read (h.reads p.actor)) p.ahead t c.inbox (h.long p.actor) ((q.tracked p.actor).in_order) (subst NoActComplete ((q.tracked p.actor).stands) (keys_of c.entries)) (ap (has_read (h.reads p.actor)) (sym e) ∙ q.unread p.actor p.ahead p.behind k i) (q.started p.actor) (subst (λ z. is_act_ahead p.ahead z (h.long p.actor) ≡ true) e i)) ∙ q.away t p.actor x.0 x.1 r))
ahead_kept w (Finish v a) s h ok o q g = filtered (PairStands s.book.acts h.long) (PairStands (after w (Finish v a) s).book.acts (with_at a new h.long)) (λ p. not ((p.ahead == v) && (p.actor == a))) s.book.pairs
    (λ p f i. pair_step w (Finish v a) s h.long (with_at a new h.long) p (no_decide (Finish v a) p.behind tt) (λ n d j. one p (not-true ((p.ahead == v) && (p.actor == a)) f) (not_finished s.book.acts p.behind v ok.0 n d) j) i) g
  where
    new : List Ran
    new = if is_traceless (act_of v s.book.acts) then without_standing (OfAct v) (h.long a) else map (left_for_good (OfAct v)) (h.long a)

    one : (p : Pair) → ((p.ahead == v) && (p.actor == a)) ≡ false → (p.behind == v) ≡ false → is_act_ahead p.ahead p.behind (h.long p.actor) ≡ true → is_act_ahead p.ahead p.behind (with_at a (if is_traceless (act_of v s.book.acts) then without_standing (OfAct v) (h.long a) else map (left_for_good (OfAct v)) (h.long a)) h.long p.actor) ≡ true
    one p f e j = elim (cases_Bool (p.actor == a)) [
      | inl i ↦ at_actor p.ahead p.behind a p.actor _ h.long (λ z. finish_ahead p.ahead p.behind v (is_traceless (act_of v s.book.acts)) (h.long a) (false_from_ne_true (p.ahead == v) (λ u. true≢false (sym (and_from (p.ahead == v) (p.actor == a) u i) ∙ f))) e z) j
      | inr i ↦ rw i j
    ]
ahead_kept w (Trim k a) s h ok o q g = moved w (Trim k a) s h.long a (map (left_for_good (OfBatch k)) (h.long a)) tt (λ u v d i. ahead_left u v (OfBatch k) (h.long a) refl refl i) g
ahead_kept w e s h ok o q g = still w e s h.long tt g

-- ---- over every run

pub away : {C : Type 0} (w : Fixed C) (Of : Tx → C → Type 0) (finish : C → List State → Alone) (s : Machine C) (h : History) → AllGood w Of finish s h → (t a : ℕ) (x : Act) → act_of t s.book.acts ≡ Some x → is_some x.result ≡ true → is_some (waiting_of t (cell_at s a).inbox) ≡ false
away w Of finish s h g t a x e r = false_from_ne_true (is_some (waiting_of t (cell_at s a).inbox)) (λ q. true≢false (sym r ∙ ap is_some (results.waiting_none t a s q g.none t x e refl)))

-- pairs, as they are needed from one state to the next
pub record AheadStand {C : Type 0} (w : Fixed C) (s : Machine C) (h : History) : Type 0 where
  pub ahead : PairsAhead s h
  pub rivals : OfRivals s

pub ahead_opened : {C : Type 0} (w : Fixed C) → AheadStand w (opening w) no_history
unfolding PairsAhead OfRivals
ahead_opened w = record { ahead = tt; rivals = tt }

-- the one behind has not read, where the one ahead is a rival of it
pub unread : {C : Type 0} (w : Fixed C) (Of : Tx → C → Type 0) (finish : C → List State → Alone) (s : Machine C) (h : History) → AllGood w Of finish s h → (a u t : ℕ) → (holds is_other (act_of u s.book.acts) || holds is_other (act_of t s.book.acts)) ≡ true → is_act_ahead u t (h.long a) ≡ true → has_read (h.reads a) t ≡ false
unfolding Turned Locks ReadBy AllSee
unread w Of finish s h g a u t k i = elim (cases_Bool (is_reader_act (act_of t s.book.acts))) [
  | inl r ↦ unread_behind s.book.acts (cell_at s a).state u t (h.reads a) (h.long a) (cell_at s a).entries (g.good.turned a) (g.locks a) (g.see a) (elim (or_cases (holds is_other (act_of u s.book.acts)) (holds is_other (act_of t s.book.acts)) k) [ inl q ↦ q | inr q ↦ absurd (not_reader (act_of t s.book.acts) r q) ]) r i
  | inr r ↦ not_read a t s.book.acts (h.reads a) (no_reads (act_of t s.book.acts) r) (g.read_by a)
]
  where
    not_reader : (o : Option Act) → is_reader_act o ≡ true → holds is_other o ≡ true → ⊥
    not_reader None r q = true≢false (sym r)
    not_reader (Some x) r q = true≢false (sym r ∙ not-true x.reader q)

    no_reads : (o : Option Act) → is_reader_act o ≡ false → holds (reads_at a) o ≡ false
    no_reads None r = refl
    no_reads (Some x) r = rw r refl

pub step : {C : Type 0} (w : Fixed C) (Of : Tx → C → Type 0) (finish : C → List State → Alone) (e : Event) (s : Machine C) (h : History) → Given w Of finish → IsAllowed w e s → AllGood w Of finish s h → AheadStand w s h → AheadStand w (after w e s) (grown w e s h)
unfolding OfRivals
step w Of finish e s h v ok g i =
    let o = higher.owed w Of finish e s h v ok g in
    record {
      ahead = ahead_kept w e s h ok o (record { turned = g.good.turned; tracked = g.good.tracked; started = g.started; taken = (higher.beside w Of finish s h g).taken; unread = unread w Of finish s h g; rivals = i.rivals; away = away w Of finish s h g }) i.ahead;
      rivals = of_rivals_kept w e s h o g.locks i.rivals;
    }

-- the one ahead is doomed, or the one behind has no place
pub none_ahead : {C : Type 0} (s : Machine C) (h : History) → PairsAhead s h → AllByRecursion (λ p. (doomed_at s.book.acts p.ahead ≡ true) ⊎ (holds is_unplaced (act_of p.behind s.book.acts) ≡ true)) s.book.pairs
unfolding PairsAhead
none_ahead s h g = weaker (PairStands s.book.acts h.long) (λ p. (doomed_at s.book.acts p.ahead ≡ true) ⊎ (holds is_unplaced (act_of p.behind s.book.acts) ≡ true)) s.book.pairs (λ p i. elim i [ inl d ↦ inl d | inr q ↦ inr q.0 ]) g

pub pairs_ahead : {C : Type 0} (w : Fixed C) (Of : Tx → C → Type 0) (finish : C → List State → Alone) (es : List Event) → Given w Of finish → IsRun w es → PairsAhead (reached w es) (history w es)
pairs_ahead w Of finish es v run = (all.along_good w Of finish (AheadStand w) v (λ e s h ok g i. step w Of finish e s h v ok g i) (ahead_opened w) es run).ahead

-- An ACT that has its place stands behind nobody that is not doomed.
pub placed_behind_none : {C : Type 0} (w : Fixed C) (Of : Tx → C → Type 0) (finish : C → List State → Alone) (es : List Event) → Given w Of finish → IsRun w es → AllByRecursion (λ p. holds (λ x. is_ordered x.status) (act_of p.behind (reached w es).book.acts) ≡ true → doomed_at (reached w es).book.acts p.ahead ≡ true) (reached w es).book.pairs
unfolding PairsAhead
placed_behind_none w Of finish es v run = weaker (PairStands (reached w es).book.acts (history w es).long) (λ p. holds (λ x. is_ordered x.status) (act_of p.behind (reached w es).book.acts) ≡ true → doomed_at (reached w es).book.acts p.ahead ≡ true) (reached w es).book.pairs
    (λ p h e. elim h [ inl d ↦ d | inr q ↦ absurd (both (act_of p.behind (reached w es).book.acts) e q.0) ]) (pairs_ahead w Of finish es v run)
  where
    both : (o : Option Act) → holds (λ x. is_ordered x.status) o ≡ true → holds is_unplaced o ≡ true → ⊥
    both None e n = true≢false (sym e)
    both (Some x) e n = true≢false (sym e ∙ not-true (is_ordered x.status) n)
