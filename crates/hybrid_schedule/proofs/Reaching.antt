-- A walk along a list, up to the first element that is meant.
use Rattle.std.proofs.Common.{◌≡◌, ℕ, Bool, true, false, not, ◌&&◌, ◌||◌, Option, Some, None, List, [], ◌∷◌, refl, sym, ap, ◌∙◌, find}
use Rattle.std.specs.Prelude.{if◌then◌else◌}
use Rattle.std.specs.List.{list_all}
use Rattle.std.proofs.lemmas.Bool.{true≢false}
use Rattle.snap_base.proofs.Booleans.{and_true}
use Rattle.protocol.specs.Parts.{Entry, BatchEntry, ActEntry, Who}
use Rattle.protocol.specs.Words.{is_empty, holds, is_batch_entry, is_entry_of, is_clear, is_reader_entry, is_complete_batch, is_over_for, ahead, acts_on, who_of, who_on}
use Rattle.hybrid_schedule.specs.Schedules.{is_any_act, is_next_here, is_behind_no_act}

-- all that stands ahead of the first one that is meant passes; where none is, this is answered
abbrev pub reaches : {X : Type 0} → (X → Bool) → (X → Bool) → Bool → List X → Bool
reaches meant passes none [] = none
reaches meant passes none (x ∷ xs) = if meant x then true else (passes x && reaches meant passes none xs)

pub list_all-ahead : (meant passes : Entry → Bool) (es : List Entry) → list_all passes (ahead meant es) ≡ reaches meant passes true es
list_all-ahead meant passes [] = refl
list_all-ahead meant passes (e ∷ es) =
    let step = list_all-ahead meant passes es in
    elim (meant e) as (λ b. list_all passes (if b then [] else e ∷ ahead meant es) ≡ (if b then true else (passes e && reaches meant passes true es)))
    [ true ↦ refl | false ↦ ap (λ b. passes e && b) step ]

pub is_next_walk : (k : ℕ) (es : List Entry) → is_next_here k es ≡ reaches (is_batch_entry k) is_complete_batch true es
is_next_walk k es = list_all-ahead (is_batch_entry k) is_complete_batch es

abbrev pub is_no_act : Entry → Bool
is_no_act e = not (is_any_act e)

no_act_ahead : (meant : Entry → Bool) (es : List Entry) → is_empty (acts_on (ahead meant es)) ≡ reaches meant is_no_act true es
no_act_ahead meant [] = refl
no_act_ahead meant (BatchEntry b ∷ es) =
    let step = no_act_ahead meant es in
    elim (meant (BatchEntry b)) as (λ t. is_empty (acts_on (if t then [] else BatchEntry b ∷ ahead meant es)) ≡ (if t then true else (is_no_act (BatchEntry b) && reaches meant is_no_act true es)))
    [ true ↦ refl | false ↦ step ]
no_act_ahead meant (ActEntry x ∷ es) =
    elim (meant (ActEntry x)) as (λ t. is_empty (acts_on (if t then [] else ActEntry x ∷ ahead meant es)) ≡ (if t then true else (is_no_act (ActEntry x) && reaches meant is_no_act true es)))
    [ true ↦ refl | false ↦ refl ]

pub is_behind_no_act_walk : (k : ℕ) (es : List Entry) → is_behind_no_act k es ≡ reaches (is_batch_entry k) is_no_act true es
is_behind_no_act_walk k es = no_act_ahead (is_batch_entry k) es

-- a walk up to an entry that is meant: from the first reader on nothing but a reader goes through
abbrev pub clears : (Entry → Bool) → Bool → List Entry → Bool
clears meant behind [] = false
clears meant behind (e ∷ es) = if meant e then (not behind || is_reader_entry e) else (if is_reader_entry e then clears meant true es else (is_complete_batch e && clears meant behind es))

twice_not : (b : Bool) → not (not (b && true)) ≡ b
twice_not true = refl
twice_not false = refl

never : (b : Bool) → not (not (b && false)) ≡ false
never true = refl
never false = refl

-- a reader is in the way of all but readers
over_reader : (own e : Entry) → is_reader_entry e ≡ true → is_over_for own e ≡ is_reader_entry own
over_reader own (BatchEntry c) h = absurd (true≢false (sym h))
over_reader (BatchEntry b) (ActEntry y) h = refl
over_reader (ActEntry x) (ActEntry y) h = ap (λ b. not (not (x.reader && b))) h ∙ twice_not x.reader

-- anything else lets pass where it is complete
over_other : (own e : Entry) → is_reader_entry e ≡ false → is_over_for own e ≡ is_complete_batch e
over_other (BatchEntry b) e h = refl
over_other (ActEntry x) (BatchEntry c) h = refl
over_other (ActEntry x) (ActEntry y) h = ap (λ b. not (not (x.reader && b))) h ∙ never x.reader

same_holds : (f g : Entry → Bool) → ((own : Entry) → f own ≡ g own) → (o : Option Entry) → holds f o ≡ holds g o
same_holds f g h None = refl
same_holds f g h (Some own) = h own

and_none : (b : Bool) → false ≡ (b && false)
and_none true = refl
and_none false = refl

holds_and : (c : Bool) (f : Entry → Bool) (o : Option Entry) → holds (λ own. c && f own) o ≡ (c && holds f o)
holds_and c f None = and_none c
holds_and c f (Some own) = refl

behind_reader : (behind r l : Bool) → ((not behind || r) && (r && l)) ≡ (r && l)
behind_reader true r l = by r
  where
    by : (b : Bool) → (b && (b && l)) ≡ (b && l)
    by true = refl
    by false = refl
behind_reader false r l = refl

and_first : (p c l : Bool) → (p && (c && l)) ≡ (c && (p && l))
and_first true c l = refl
and_first false c l = and_none c

-- all ahead is over for it, and where readers stood there before, it is one
abbrev goes_through : (Entry → Bool) → Bool → List Entry → Entry → Bool
goes_through meant behind es own = (not behind || is_reader_entry own) && list_all (is_over_for own) (ahead meant es)

past_reader : (meant : Entry → Bool) (behind : Bool) (e : Entry) (es : List Entry) → is_reader_entry e ≡ true
    → holds (λ own. (not behind || is_reader_entry own) && (is_over_for own e && list_all (is_over_for own) (ahead meant es))) (find meant es) ≡ holds (goes_through meant true es) (find meant es)
past_reader meant behind e es q =
    same_holds _ _ (λ own.
    ap (λ b. (not behind || is_reader_entry own) && (b && list_all (is_over_for own) (ahead meant es))) (over_reader own e q)
    ∙ behind_reader behind (is_reader_entry own) (list_all (is_over_for own) (ahead meant es))) (find meant es)

past_other : (meant : Entry → Bool) (behind : Bool) (e : Entry) (es : List Entry) → is_reader_entry e ≡ false
    → holds (λ own. (not behind || is_reader_entry own) && (is_over_for own e && list_all (is_over_for own) (ahead meant es))) (find meant es) ≡ (is_complete_batch e && holds (goes_through meant behind es) (find meant es))
past_other meant behind e es q =
    same_holds _ _ (λ own.
    ap (λ b. (not behind || is_reader_entry own) && (b && list_all (is_over_for own) (ahead meant es))) (over_other own e q)
    ∙ and_first (not behind || is_reader_entry own) (is_complete_batch e) (list_all (is_over_for own) (ahead meant es))) (find meant es)
    ∙ holds_and (is_complete_batch e) (goes_through meant behind es) (find meant es)

clear_ahead : (meant : Entry → Bool) (behind : Bool) (es : List Entry) → holds (goes_through meant behind es) (find meant es) ≡ clears meant behind es
clear_ahead meant behind [] = refl
clear_ahead meant behind (e ∷ es) =
    let read = clear_ahead meant true es in
    let other = clear_ahead meant behind es in
    elim (meant e) as (λ b.
    holds (λ own. (not behind || is_reader_entry own) && list_all (is_over_for own) (if b then [] else e ∷ ahead meant es)) (if b then Some e else find meant es)
    ≡ (if b then (not behind || is_reader_entry e) else (if is_reader_entry e then clears meant true es else (is_complete_batch e && clears meant behind es))))
    [ true ↦ and_true (not behind || is_reader_entry e) | false ↦ by (is_reader_entry e) refl read other ]
  where
    by : (b : Bool) → is_reader_entry e ≡ b
        → holds (goes_through meant true es) (find meant es) ≡ clears meant true es
        → holds (goes_through meant behind es) (find meant es) ≡ clears meant behind es
        → holds (λ own. (not behind || is_reader_entry own) && (is_over_for own e && list_all (is_over_for own) (ahead meant es))) (find meant es)
        ≡ (if b then clears meant true es else (is_complete_batch e && clears meant behind es))
    by true q read other = past_reader meant behind e es q ∙ read
    by false q read other = past_other meant behind e es q ∙ ap (λ b. is_complete_batch e && b) other

pub is_clear_walk : (t : ℕ) (es : List Entry) → is_clear t es ≡ clears (is_entry_of t) false es
is_clear_walk t es = clear_ahead (is_entry_of t) false es

-- whose the first entry is that is meant, else this
abbrev pub owner_in : Who → Option Entry → Who
owner_in absent None = absent
owner_in absent (Some e) = who_of e

pub who_is_found : (t : ℕ) (es : List Entry) → who_on t es ≡ owner_in (who_on t []) (find (is_entry_of t) es)
who_is_found t [] = refl
who_is_found t (e ∷ es) =
    let step = who_is_found t es in
    elim (is_entry_of t e) as (λ b. (if b then who_of e else who_on t es) ≡ owner_in (who_on t []) (if b then Some e else find (is_entry_of t) es))
    [ true ↦ refl | false ↦ step ]
