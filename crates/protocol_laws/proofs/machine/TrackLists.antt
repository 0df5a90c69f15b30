-- What the events do to a long schedule.
use Rattle.std.specs.Prelude.{◌≡◌, refl, ℕ, ◌==◌, not, Bool, true, false, ◌||◌, ◌⊎◌, if◌then◌else◌, Some, None, is_some, List, [], ◌∷◌, ◌++◌, map, filter, find, ◌&&◌}
use Rattle.std.specs.List.{AllByRecursion, list_all}
use Rattle.std.proofs.Common.{sym, ap, subst, inl, inr, ◌∙◌}
use Rattle.std.proofs.lemmas.List.{append-nil, append_assoc}
use Rattle.std.proofs.lemmas.Bool.{eqb-true, eq-eqb, and_parts, or_parts, or_from, true≢false, cases_Bool, false_from_ne_true}
use Rattle.snap_base.specs.declared.transactions.State.{State}
use Rattle.protocol.specs.Parts.{Cascade, Who, OfBatch, OfAct, Entry, BatchEntry, ActEntry, Image}
use Rattle.protocol.specs.Words.{who_of, who_on, is_who, is_entry_of, is_over_for, is_act_entry, is_batch_entry, is_reader_entry, ahead, image_of}
use Rattle.protocol.specs.Contents.{complete_mark}
use Rattle.protocol.specs.OnCell as cell
use Rattle.protocol.specs.OnCell.{is_cut, with_image, is_entry_among, state_from}
use Rattle.protocol.specs.History.{Slice, Ran, Stands, Gone, not_run, ran_in, completed, left_for_good, without_standing, long_staying, ran_on}
use Rattle.protocol_laws.specs.Tracks.{Key, key_of, keys_in, is_key_among, Differ, slices_in, first_image, images_in, Linked, InOrder, Tracks, NoneGone, CutIsEnd, Bare}
use Rattle.protocol_laws.proofs.first.Lists.{filter_join}

-- ---- who

pub is_who_refl : (x : Who) → is_who x x ≡ true
is_who_refl (OfBatch k) = eq-eqb k k refl
is_who_refl (OfAct t) = eq-eqb t t refl

pub is_who_true : (x y : Who) → is_who x y ≡ true → x ≡ y
is_who_true (OfBatch k) (OfBatch j) h = ap OfBatch (eqb-true k j h)
is_who_true (OfBatch k) (OfAct t) h = absurd (true≢false (sym h))
is_who_true (OfAct t) (OfBatch k) h = absurd (true≢false (sym h))
is_who_true (OfAct t) (OfAct u) h = ap OfAct (eqb-true t u h)

pub is_who_sym : (x y : Who) → is_who x y ≡ is_who y x
is_who_sym x y = elim (cases_Bool (is_who x y)) [
  | inl a ↦ subst (λ z. is_who x z ≡ is_who z x) (is_who_true x y a) refl
  | inr b ↦ b ∙ sym (false_from_ne_true (is_who y x) (λ q. true≢false (sym (subst (λ z. is_who z y ≡ true) (is_who_true y x q) (is_who_refl y)) ∙ b)))
]

-- ---- a slice runs, of a reader or not

-- what holds of a long schedule holds of it behind the slice of a reader, which leaves it
pub on_reads : (P : List Ran → Type 0) (b : Bool) (who : Who) (x : Slice) (rs : List Ran) → (P rs → P (map (ran_in who x) rs)) → P rs → P (ran_on b who x rs)
on_reads P true who x rs k h = h
on_reads P false who x rs k h = k h

-- ---- keys

pub among_join : (who : Who) (xs ys : List Key) → is_key_among who (xs ++ ys) ≡ (is_key_among who xs || is_key_among who ys)
among_join who [] ys = refl
among_join who (x ∷ xs) ys = rw (among_join who xs ys) (by (is_who x.who who))
  where
    by : (b : Bool) → (b || (is_key_among who xs || is_key_among who ys)) ≡ ((b || is_key_among who xs) || is_key_among who ys)
    by true = refl
    by false = refl

pub differ_more : (k : Key) (ks : List Key) → is_key_among k.who ks ≡ false → Differ ks → Differ (ks ++ k ∷ [])
differ_more k [] e h = (refl, tt)
differ_more k (x ∷ xs) e h =
    let p = or_parts (is_who x.who k.who) (is_key_among k.who xs) e in
    (among_join x.who xs (k ∷ []) ∙ or_from (is_key_among x.who xs) (is_key_among x.who (k ∷ [])) h.0 (or_from (is_who k.who x.who) false (is_who_sym k.who x.who ∙ p.0) refl), differ_more k xs p.1 h.1)

-- a schedule's keys, and what the events make of them
abbrev pub key_completed : ℕ → Key → Key
key_completed k x = record { who = x.who; complete = x.complete || is_who x.who (OfBatch k) }

abbrev pub keys_without : Who → List Key → List Key
keys_without who [] = []
keys_without who (k ∷ ks) = if is_who k.who who then keys_without who ks else k ∷ keys_without who ks

abbrev pub keys_staying : List Cascade → List Key → List Key
keys_staying cs [] = []
keys_staying cs (k ∷ ks) = if is_cut cs k.who then [] else k ∷ keys_staying cs ks

abbrev pub keys_going : List Cascade → List Key → List Key
keys_going cs [] = []
keys_going cs (k ∷ ks) = if is_cut cs k.who then k ∷ ks else keys_going cs ks

pub keys_join : (xs ys : List Ran) → keys_in (xs ++ ys) ≡ keys_in xs ++ keys_in ys
keys_join [] ys = refl
keys_join (Stands y c ss ∷ xs) ys = rw (keys_join xs ys) refl
keys_join (Gone y ss ∷ xs) ys = keys_join xs ys

pub keys_ran : (who : Who) (x : Slice) (rs : List Ran) → keys_in (map (ran_in who x) rs) ≡ keys_in rs
keys_ran who x [] = refl
keys_ran who x (Stands y c ss ∷ rs) = rw (keys_ran who x rs) refl
keys_ran who x (Gone y ss ∷ rs) = keys_ran who x rs

pub keys_completed : (k : ℕ) (rs : List Ran) → keys_in (map (completed k) rs) ≡ map (key_completed k) (keys_in rs)
keys_completed k [] = refl
keys_completed k (Stands y c ss ∷ rs) = rw (keys_completed k rs) refl
keys_completed k (Gone y ss ∷ rs) = keys_completed k rs

pub keys_left : (who : Who) (rs : List Ran) → keys_in (map (left_for_good who) rs) ≡ keys_without who (keys_in rs)
keys_left who [] = refl
keys_left who (Stands y c ss ∷ rs) = by (is_who y who) (keys_left who rs)
  where
    by : (b : Bool) → keys_in (map (left_for_good who) rs) ≡ keys_without who (keys_in rs)
        → keys_in ((if b then Gone y ss else Stands y c ss) ∷ map (left_for_good who) rs) ≡ (if b then keys_without who (keys_in rs) else record { who = y; complete = c } ∷ keys_without who (keys_in rs))
    by true h = h
    by false h = rw h refl
keys_left who (Gone y ss ∷ rs) = keys_left who rs

pub keys_without_standing : (who : Who) (rs : List Ran) → keys_in (without_standing who rs) ≡ keys_without who (keys_in rs)
keys_without_standing who [] = refl
keys_without_standing who (Stands y c ss ∷ rs) = by (is_who y who) (keys_without_standing who rs)
  where
    by : (b : Bool) → keys_in (without_standing who rs) ≡ keys_without who (keys_in rs)
        → keys_in (if b then without_standing who rs else Stands y c ss ∷ without_standing who rs) ≡ (if b then keys_without who (keys_in rs) else record { who = y; complete = c } ∷ keys_without who (keys_in rs))
    by true h = h
    by false h = rw h refl
keys_without_standing who (Gone y ss ∷ rs) = keys_without_standing who rs

pub keys_long_staying : (cs : List Cascade) (rs : List Ran) → keys_in (long_staying cs rs) ≡ keys_staying cs (keys_in rs)
keys_long_staying cs [] = refl
keys_long_staying cs (Stands y c ss ∷ rs) = by (is_cut cs y) (keys_long_staying cs rs)
  where
    by : (b : Bool) → keys_in (long_staying cs rs) ≡ keys_staying cs (keys_in rs)
        → keys_in (if b then [] else Stands y c ss ∷ long_staying cs rs) ≡ (if b then [] else record { who = y; complete = c } ∷ keys_staying cs (keys_in rs))
    by true h = refl
    by false h = rw h refl
keys_long_staying cs (Gone y ss ∷ rs) = keys_long_staying cs rs

-- ---- the same of entries

pub entries_join : (xs ys : List Entry) → map key_of (xs ++ ys) ≡ map key_of xs ++ map key_of ys
entries_join [] ys = refl
entries_join (x ∷ xs) ys = rw (entries_join xs ys) refl

pub entries_done : (t : ℕ) (es : List Entry) → map key_of (map (cell.done_in t) es) ≡ map key_of es
entries_done t [] = refl
entries_done t (BatchEntry b ∷ es) = rw (entries_done t es) refl
entries_done t (ActEntry x ∷ es) = rw (entries_done t es) refl

pub entries_completed : (k : ℕ) (es : List Entry) → map key_of (map (cell.complete_in k) es) ≡ map (key_completed k) (map key_of es)
entries_completed k [] = refl
entries_completed k (BatchEntry b ∷ es) = rw (entries_completed k es) refl
entries_completed k (ActEntry x ∷ es) = rw (entries_completed k es) refl

if_not : (b : Bool) (e : Entry) (es : List Entry) (ks : List Key) → map key_of es ≡ ks → map key_of (if not b then e ∷ es else es) ≡ (if b then ks else key_of e ∷ ks)
if_not true e es ks h = h
if_not false e es ks h = rw h refl

pub entries_without_act : (t : ℕ) (es : List Entry) → map key_of (filter (λ e. not (is_act_entry t e)) es) ≡ keys_without (OfAct t) (map key_of es)
entries_without_act t [] = refl
entries_without_act t (BatchEntry b ∷ es) = rw (entries_without_act t es) refl
entries_without_act t (ActEntry x ∷ es) = if_not (x.tid == t) (ActEntry x) (filter (λ e. not (is_act_entry t e)) es) (keys_without (OfAct t) (map key_of es)) (entries_without_act t es)

pub entries_without_batch : (k : ℕ) (es : List Entry) → map key_of (filter (λ e. not (is_batch_entry k e)) es) ≡ keys_without (OfBatch k) (map key_of es)
entries_without_batch k [] = refl
entries_without_batch k (BatchEntry b ∷ es) = if_not (b.bid == k) (BatchEntry b) (filter (λ e. not (is_batch_entry k e)) es) (keys_without (OfBatch k) (map key_of es)) (entries_without_batch k es)
entries_without_batch k (ActEntry x ∷ es) = rw (entries_without_batch k es) refl

pub entries_staying : (cs : List Cascade) (es : List Entry) → map key_of (cell.staying cs es) ≡ keys_staying cs (map key_of es)
entries_staying cs [] = refl
entries_staying cs (e ∷ es) = by (is_cut cs (who_of e)) (entries_staying cs es)
  where
    by : (b : Bool) → map key_of (cell.staying cs es) ≡ keys_staying cs (map key_of es)
        → map key_of (if b then [] else e ∷ cell.staying cs es) ≡ (if b then [] else key_of e ∷ keys_staying cs (map key_of es))
    by true h = refl
    by false h = rw h refl

pub among_entries : (who : Who) (es : List Entry) → is_entry_among who es ≡ is_key_among who (map key_of es)
among_entries who [] = refl
among_entries who (e ∷ es) = ap (λ z. is_who (who_of e) who || z) (among_entries who es)

pub among_going : (cs : List Cascade) (who : Who) (es : List Entry) → is_entry_among who (cell.going cs es) ≡ is_key_among who (keys_going cs (map key_of es))
among_going cs who [] = refl
among_going cs who (e ∷ es) = by (is_cut cs (who_of e)) (among_going cs who es)
  where
    by : (b : Bool) → is_entry_among who (cell.going cs es) ≡ is_key_among who (keys_going cs (map key_of es))
        → is_entry_among who (if b then e ∷ es else cell.going cs es) ≡ is_key_among who (if b then key_of e ∷ map key_of es else keys_going cs (map key_of es))
    by true h = among_entries who (e ∷ es)
    by false h = h

-- ---- none twice

fewer_without : (who v : Who) (ks : List Key) → is_key_among who ks ≡ false → is_key_among who (keys_without v ks) ≡ false
fewer_without who v [] h = refl
fewer_without who v (k ∷ ks) h = let p = or_parts (is_who k.who who) (is_key_among who ks) h in by (is_who k.who v) p.0 (fewer_without who v ks p.1)
  where
    by : (b : Bool) → is_who k.who who ≡ false → is_key_among who (keys_without v ks) ≡ false → is_key_among who (if b then keys_without v ks else k ∷ keys_without v ks) ≡ false
    by true e g = g
    by false e g = or_from (is_who k.who who) (is_key_among who (keys_without v ks)) e g

pub differ_without : (v : Who) (ks : List Key) → Differ ks → Differ (keys_without v ks)
differ_without v [] h = tt
differ_without v (k ∷ ks) h = by (is_who k.who v) (fewer_without k.who v ks h.0) (differ_without v ks h.1)
  where
    by : (b : Bool) → is_key_among k.who (keys_without v ks) ≡ false → Differ (keys_without v ks) → Differ (if b then keys_without v ks else k ∷ keys_without v ks)
    by true e g = g
    by false e g = (e, g)

fewer_staying : (cs : List Cascade) (who : Who) (ks : List Key) → is_key_among who ks ≡ false → is_key_among who (keys_staying cs ks) ≡ false
fewer_staying cs who [] h = refl
fewer_staying cs who (k ∷ ks) h = let p = or_parts (is_who k.who who) (is_key_among who ks) h in by (is_cut cs k.who) p.0 (fewer_staying cs who ks p.1)
  where
    by : (b : Bool) → is_who k.who who ≡ false → is_key_among who (keys_staying cs ks) ≡ false → is_key_among who (if b then [] else k ∷ keys_staying cs ks) ≡ false
    by true e g = refl
    by false e g = or_from (is_who k.who who) (is_key_among who (keys_staying cs ks)) e g

pub differ_staying : (cs : List Cascade) (ks : List Key) → Differ ks → Differ (keys_staying cs ks)
differ_staying cs [] h = tt
differ_staying cs (k ∷ ks) h = by (is_cut cs k.who) (fewer_staying cs k.who ks h.0) (differ_staying cs ks h.1)
  where
    by : (b : Bool) → is_key_among k.who (keys_staying cs ks) ≡ false → Differ (keys_staying cs ks) → Differ (if b then [] else k ∷ keys_staying cs ks)
    by true e g = tt
    by false e g = (e, g)

pub among_completed : (k : ℕ) (who : Who) (ks : List Key) → is_key_among who (map (key_completed k) ks) ≡ is_key_among who ks
among_completed k who [] = refl
among_completed k who (x ∷ xs) = ap (λ z. is_who x.who who || z) (among_completed k who xs)

pub differ_completed : (k : ℕ) (ks : List Key) → Differ ks → Differ (map (key_completed k) ks)
differ_completed k [] h = tt
differ_completed k (x ∷ xs) h = (among_completed k x.who xs ∙ h.0, differ_completed k xs h.1)

fewer_going : (cs : List Cascade) (who : Who) (ks : List Key) → is_key_among who ks ≡ false → is_key_among who (keys_going cs ks) ≡ false
fewer_going cs who [] h = refl
fewer_going cs who (k ∷ ks) h = by (is_cut cs k.who) (fewer_going cs who ks (or_parts (is_who k.who who) (is_key_among who ks) h).1)
  where
    by : (b : Bool) → is_key_among who (keys_going cs ks) ≡ false → is_key_among who (if b then k ∷ ks else keys_going cs ks) ≡ false
    by true g = h
    by false g = g

-- ---- one more at the end

pub slices_more : (who : Who) (rs : List Ran) → slices_in (rs ++ not_run who ∷ []) ≡ slices_in rs
slices_more who [] = refl
slices_more who (Stands y c ss ∷ rs) = rw (slices_more who rs) refl
slices_more who (Gone y ss ∷ rs) = rw (slices_more who rs) refl

pub images_more : (who : Who) (rs : List Ran) → images_in (rs ++ not_run who ∷ []) ≡ images_in rs
images_more who [] = refl
images_more who (Stands y c ss ∷ rs) = rw (images_more who rs) refl
images_more who (Gone y ss ∷ rs) = images_more who rs

pub order_more : (who : Who) (rs : List Ran) → InOrder rs → InOrder (rs ++ not_run who ∷ [])
order_more who [] h = (λ e. refl, tt)
order_more who (Stands y c ss ∷ rs) h = (λ e. slices_more who rs ∙ h.0 e, order_more who rs h.1)
order_more who (Gone y ss ∷ rs) h = order_more who rs h

pub more : (first : State) (keys : List Key) (images : List Image) (now : State) (long : List Ran) (who : Who) → is_key_among who keys ≡ false → Tracks first keys images now long
    → Tracks first (keys ++ record { who = who; complete = false } ∷ []) images now (long ++ not_run who ∷ [])
more first keys images now long who e h = record {
  stands = ap (λ z. z ++ record { who = who; complete = false } ∷ []) h.stands ∙ sym (keys_join long (not_run who ∷ []));
  differ = differ_more (record { who = who; complete = false }) keys e h.differ;
  in_order = order_more who long h.in_order;
  images_are = h.images_are ∙ sym (images_more who long);
  links = subst (λ z. Linked first z now) (sym (slices_more who long)) h.links;
}

-- ---- a batch is complete

slices_completed : (k : ℕ) (rs : List Ran) → slices_in (map (completed k) rs) ≡ slices_in rs
slices_completed k [] = refl
slices_completed k (Stands y c ss ∷ rs) = rw (slices_completed k rs) refl
slices_completed k (Gone y ss ∷ rs) = rw (slices_completed k rs) refl

images_completed : (k : ℕ) (rs : List Ran) → images_in (map (completed k) rs) ≡ images_in rs
images_completed k [] = refl
images_completed k (Stands y c ss ∷ rs) = rw (images_completed k rs) refl
images_completed k (Gone y ss ∷ rs) = images_completed k rs

order_completed : (k : ℕ) (rs : List Ran) → InOrder rs → InOrder (map (completed k) rs)
order_completed k [] h = tt
order_completed k (Stands y c ss ∷ rs) h = (λ e. slices_completed k rs ∙ h.0 (or_parts c (is_who y (OfBatch k)) e).0, order_completed k rs h.1)
order_completed k (Gone y ss ∷ rs) h = order_completed k rs h

pub complete : (first : State) (keys : List Key) (images : List Image) (now : State) (long : List Ran) (k : ℕ) → Tracks first keys images now long
    → Tracks first (map (key_completed k) keys) images now (map (completed k) long)
complete first keys images now long k h = record {
  stands = ap (map (key_completed k)) h.stands ∙ sym (keys_completed k long);
  differ = differ_completed k keys h.differ;
  in_order = order_completed k long h.in_order;
  images_are = h.images_are ∙ sym (images_completed k long);
  links = subst (λ z. Linked first z now) (sym (slices_completed k long)) h.links;
}

-- ---- one leaves for good

abbrev pub images_without : Who → List Image → List Image
images_without who is = filter (λ i. not (is_who who i.who)) is

slices_left : (who : Who) (rs : List Ran) → slices_in (map (left_for_good who) rs) ≡ slices_in rs
slices_left who [] = refl
slices_left who (Stands y c ss ∷ rs) = by (is_who y who) (slices_left who rs)
  where
    by : (b : Bool) → slices_in (map (left_for_good who) rs) ≡ slices_in rs → slices_in ((if b then Gone y ss else Stands y c ss) ∷ map (left_for_good who) rs) ≡ ss ++ slices_in rs
    by true h = rw h refl
    by false h = rw h refl
slices_left who (Gone y ss ∷ rs) = rw (slices_left who rs) refl

-- the image of one who leaves goes, any other stays
own_image : (who y : Who) (b : Bool) (ss : List Slice) → is_who y who ≡ b → images_without who (first_image y ss) ≡ (if b then [] else first_image y ss)
own_image who y true [] e = refl
own_image who y true (x ∷ xs) e = rw (is_who_sym who y, e) refl
own_image who y false [] e = refl
own_image who y false (x ∷ xs) e = rw (is_who_sym who y, e) refl

pub images_left : (who : Who) (rs : List Ran) → images_in (map (left_for_good who) rs) ≡ images_without who (images_in rs)
images_left who [] = refl
images_left who (Stands y c ss ∷ rs) = by (is_who y who) refl (images_left who rs) ∙ sym (filter_join (λ i. not (is_who who i.who)) (first_image y ss) (images_in rs))
  where
    by : (b : Bool) → is_who y who ≡ b → images_in (map (left_for_good who) rs) ≡ images_without who (images_in rs)
        → images_in ((if b then Gone y ss else Stands y c ss) ∷ map (left_for_good who) rs) ≡ images_without who (first_image y ss) ++ images_without who (images_in rs)
    by true e h = rw (own_image who y true ss e) h
    by false e h = rw (own_image who y false ss e, h) refl
images_left who (Gone y ss ∷ rs) = images_left who rs

order_left : (who : Who) (rs : List Ran) → InOrder rs → InOrder (map (left_for_good who) rs)
order_left who [] h = tt
order_left who (Stands y c ss ∷ rs) h = by (is_who y who) (order_left who rs h.1)
  where
    by : (b : Bool) → InOrder (map (left_for_good who) rs) → InOrder ((if b then Gone y ss else Stands y c ss) ∷ map (left_for_good who) rs)
    by true g = g
    by false g = (λ e. slices_left who rs ∙ h.0 e, g)
order_left who (Gone y ss ∷ rs) h = order_left who rs h

pub leave : (first : State) (keys : List Key) (images : List Image) (now : State) (long : List Ran) (who : Who) → Tracks first keys images now long
    → Tracks first (keys_without who keys) (images_without who images) now (map (left_for_good who) long)
leave first keys images now long who h = record {
  stands = ap (keys_without who) h.stands ∙ sym (keys_left who long);
  differ = differ_without who keys h.differ;
  in_order = order_left who long h.in_order;
  images_are = ap (images_without who) h.images_are ∙ sym (images_left who long);
  links = subst (λ z. Linked first z now) (sym (slices_left who long)) h.links;
}

-- ---- links

pub linked_parts : (first last : State) (xs ys : List Slice) → Linked first (xs ++ ys) last → (mid : State) × Linked first xs mid × Linked mid ys last
linked_parts first last [] ys h = (first, refl, h)
linked_parts first last (x ∷ xs) ys h = let g = linked_parts x.left last xs ys h.1 in (g.0, (h.0, g.1), g.2)

pub linked_join : (first mid last : State) (xs ys : List Slice) → Linked first xs mid → Linked mid ys last → Linked first (xs ++ ys) last
linked_join first mid last [] ys h g = subst (λ z. Linked z ys last) (sym h) g
linked_join first mid last (x ∷ xs) ys h g = (h.0, linked_join x.left mid last xs ys h.1 g)

-- ---- a slice runs

-- it stands there, is not complete, and all ahead of it are complete
abbrev pub IsTop : Who → List Key → Type 0
IsTop who [] = ⊥
IsTop who (k ∷ ks) = ((k.who ≡ who) × (k.complete ≡ false)) ⊎ ((k.complete ≡ true) × IsTop who ks)

top_among : (who : Who) (ks : List Key) → IsTop who ks → is_key_among who ks ≡ true
top_among who [] h = absurd h
top_among who (k ∷ ks) (inl h) = rw (h.0, is_who_refl who) refl
top_among who (k ∷ ks) (inr h) = rw (top_among who ks h.1) (by (is_who k.who who))
  where
    by : (b : Bool) → (b || true) ≡ true
    by true = refl
    by false = refl

pub no_slices_no_images : (rs : List Ran) → slices_in rs ≡ [] → images_in rs ≡ []
no_slices_no_images [] h = refl
no_slices_no_images (Stands y c [] ∷ rs) h = no_slices_no_images rs h
no_slices_no_images (Stands y c (x ∷ xs) ∷ rs) h = absurd (cc h)
no_slices_no_images (Gone y [] ∷ rs) h = no_slices_no_images rs h
no_slices_no_images (Gone y (x ∷ xs) ∷ rs) h = absurd (cc h)

pub ran_free : (who : Who) (x : Slice) (rs : List Ran) → is_key_among who (keys_in rs) ≡ false → map (ran_in who x) rs ≡ rs
ran_free who x [] h = refl
ran_free who x (Stands y c ss ∷ rs) h = let p = or_parts (is_who y who) (is_key_among who (keys_in rs)) h in rw (p.0, ran_free who x rs p.1) refl
ran_free who x (Gone y ss ∷ rs) h = rw (ran_free who x rs h) refl

pub record RunsAt (who : Who) (x : Slice) (long : List Ran) : Type 0 where
  pub slices : slices_in (map (ran_in who x) long) ≡ slices_in long ++ x ∷ []
  pub images : images_in (map (ran_in who x) long) ≡ with_image who x.found (images_in long)
  pub order : InOrder (map (ran_in who x) long)

image_beside : (who y : Who) (s : State) (ss : List Slice) (is : List Image) → is_who who y ≡ false → with_image who s (first_image y ss ++ is) ≡ first_image y ss ++ with_image who s is
image_beside who y s [] is e = refl
image_beside who y s (x ∷ xs) is e = rw e (by (is_some (image_of who is)))
  where
    by : (b : Bool) → (if b then record { who = y; state = x.found } ∷ is else (record { who = y; state = x.found } ∷ is) ++ record { who = who; state = s } ∷ []) ≡ record { who = y; state = x.found } ∷ (if b then is else is ++ record { who = who; state = s } ∷ [])
    by true = refl
    by false = refl

image_here : (who : Who) (x : Slice) (ss : List Slice) → first_image who (ss ++ x ∷ []) ≡ with_image who x.found (first_image who ss)
image_here who x [] = refl
image_here who x (z ∷ zs) = rw (is_who_refl who) refl

pub runs_at : (who : Who) (x : Slice) (long : List Ran) → IsTop who (keys_in long) → Differ (keys_in long) → InOrder long → RunsAt who x long
runs_at who x [] top d h = absurd top
runs_at who x (Gone y ss ∷ rs) top d h =
    let g = runs_at who x rs top d h in
    record { slices = ap (λ z. ss ++ z) g.slices ∙ sym (append_assoc ss (slices_in rs) (x ∷ [])); images = g.images; order = g.order }
runs_at who x (Stands y c ss ∷ rs) (inl t) d h =
    let e : slices_in rs ≡ [] = h.0 t.1 in
    let free : map (ran_in who x) rs ≡ rs = ran_free who x rs (subst (λ z. is_key_among z (keys_in rs) ≡ false) t.0 d.0) in
    let own : is_who y who ≡ true = rw t.0 (is_who_refl who) in
    record {
      slices = rw (free, own, e) (append-nil (ss ++ x ∷ []) ∙ ap (λ z. z ++ x ∷ []) (sym (append-nil ss)));
      images = rw (free, own, no_slices_no_images rs e, t.0) (append-nil (first_image who (ss ++ x ∷ [])) ∙ (image_here who x ss ∙ ap (with_image who x.found) (sym (append-nil (first_image who ss)))));
      order = rw free (λ q. e, h.1);
    }
runs_at who x (Stands y c ss ∷ rs) (inr t) d h =
    let g = runs_at who x rs t.1 d.1 h.1 in
    let other : is_who y who ≡ false = false_from_ne_true (is_who y who) (λ q. true≢false (sym (top_among who (keys_in rs) t.1) ∙ subst (λ z. is_key_among z (keys_in rs) ≡ false) (is_who_true y who q) d.0)) in
    record {
      slices = rw other (ap (λ z. ss ++ z) g.slices ∙ sym (append_assoc ss (slices_in rs) (x ∷ [])));
      images = rw other (ap (λ z. first_image y ss ++ z) g.images ∙ sym (image_beside who y x.found ss (images_in rs) (is_who_sym who y ∙ other)));
      order = (λ q. absurd (true≢false (sym t.0 ∙ q)), g.order);
    }

pub run : (first : State) (keys : List Key) (images : List Image) (now : State) (long : List Ran) (who : Who) (x : Slice) → IsTop who keys → x.found ≡ now → Tracks first keys images now long
    → Tracks first keys (with_image who now images) x.left (map (ran_in who x) long)
run first keys images now long who x top e h =
    let g = runs_at who x long (subst (IsTop who) h.stands top) (subst Differ h.stands h.differ) h.in_order in
    record {
      stands = h.stands ∙ sym (keys_ran who x long);
      differ = h.differ;
      in_order = g.order;
      images_are = ap (with_image who now) h.images_are ∙ (ap (λ z. with_image who z (images_in long)) (sym e) ∙ sym g.images);
      links = subst (λ z. Linked first z x.left) (sym g.slices) (linked_join first now x.left (slices_in long) (x ∷ []) h.links (e, refl));
    }

-- the entry of a transaction that is no reader, where all ahead of it is over and it is not complete itself
pub top_from : (t : ℕ) (own e : Entry) (es : List Entry) → is_reader_entry own ≡ false → list_all (is_over_for own) (ahead (is_entry_of t) es) ≡ true → find (is_entry_of t) es ≡ Some e → complete_mark e ≡ false → IsTop (who_on t es) (map key_of es)
top_from t own e [] r h f c = absurd (cc f)
top_from t own e (x ∷ es) r h f c = by (is_entry_of t x) h f (top_from t own e es r)
  where
    passes : (v z : Bool) → v ≡ false → not (not (v && z)) ≡ true → ⊥
    passes true z n q = true≢false n
    passes false z n q = true≢false (sym q)

    over : (own x : Entry) → is_reader_entry own ≡ false → is_over_for own x ≡ true → complete_mark x ≡ true
    over (BatchEntry b) (BatchEntry d) n q = q
    over (BatchEntry b) (ActEntry y) n q = q
    over (ActEntry b) (BatchEntry d) n q = q
    over (ActEntry b) (ActEntry y) n q = absurd (passes b.reader y.reader n q)

    by : (b : Bool) → list_all (is_over_for own) (if b then [] else x ∷ ahead (is_entry_of t) es) ≡ true → (if b then Some x else find (is_entry_of t) es) ≡ Some e
        → (list_all (is_over_for own) (ahead (is_entry_of t) es) ≡ true → find (is_entry_of t) es ≡ Some e → complete_mark e ≡ false → IsTop (who_on t es) (map key_of es))
        → IsTop (if b then who_of x else who_on t es) (key_of x ∷ map key_of es)
    by true q g k = let same : x ≡ e = cc g in inl (refl, ap complete_mark same ∙ c)
    by false q g k = let p = and_parts (is_over_for own x) (list_all (is_over_for own) (ahead (is_entry_of t) es)) q in inr (over own x r p.0, k p.1 g c)

-- ---- one is undone

-- a key of this one is not complete
abbrev pub NotComplete : Who → List Key → Type 0
NotComplete who ks = AllByRecursion (λ k. is_who k.who who ≡ true → k.complete ≡ false) ks

pub acts_not_complete : (t : ℕ) (es : List Entry) → NotComplete (OfAct t) (map key_of es)
acts_not_complete t [] = tt
acts_not_complete t (BatchEntry b ∷ es) = (λ q. absurd (true≢false (sym q)), acts_not_complete t es)
acts_not_complete t (ActEntry x ∷ es) = (λ q. refl, acts_not_complete t es)

pub without_nothing : (who : Who) (rs : List Ran) → slices_in rs ≡ [] → slices_in (without_standing who rs) ≡ []
without_nothing who [] h = refl
without_nothing who (Stands y c [] ∷ rs) h = by (is_who y who) (without_nothing who rs h)
  where
    by : (b : Bool) → slices_in (without_standing who rs) ≡ [] → slices_in (if b then without_standing who rs else Stands y c [] ∷ without_standing who rs) ≡ []
    by true g = g
    by false g = g
without_nothing who (Stands y c (x ∷ xs) ∷ rs) h = absurd (cc h)
without_nothing who (Gone y [] ∷ rs) h = without_nothing who rs h
without_nothing who (Gone y (x ∷ xs) ∷ rs) h = absurd (cc h)

images_undone : (who : Who) (rs : List Ran) → images_in (without_standing who rs) ≡ images_without who (images_in rs)
images_undone who [] = refl
images_undone who (Stands y c ss ∷ rs) = by (is_who y who) refl (images_undone who rs) ∙ sym (filter_join (λ i. not (is_who who i.who)) (first_image y ss) (images_in rs))
  where
    by : (b : Bool) → is_who y who ≡ b → images_in (without_standing who rs) ≡ images_without who (images_in rs)
        → images_in (if b then without_standing who rs else Stands y c ss ∷ without_standing who rs) ≡ images_without who (first_image y ss) ++ images_without who (images_in rs)
    by true e h = rw (own_image who y true ss e) h
    by false e h = rw (own_image who y false ss e, h) refl
images_undone who (Gone y ss ∷ rs) = images_undone who rs

order_undone : (who : Who) (rs : List Ran) → InOrder rs → InOrder (without_standing who rs)
order_undone who [] h = tt
order_undone who (Stands y c ss ∷ rs) h = by (is_who y who) (order_undone who rs h.1)
  where
    by : (b : Bool) → InOrder (without_standing who rs) → InOrder (if b then without_standing who rs else Stands y c ss ∷ without_standing who rs)
    by true g = g
    by false g = (λ e. without_nothing who rs (h.0 e), g)
order_undone who (Gone y ss ∷ rs) h = order_undone who rs h

pub image_past : (who y : Who) (ss : List Slice) (is : List Image) → is_who y who ≡ false → image_of who (first_image y ss ++ is) ≡ image_of who is
image_past who y [] is e = refl
image_past who y (x ∷ xs) is e = rw (is_who_sym who y, e) refl

links_undone : (who : Who) (first now : State) (rs : List Ran) → NotComplete who (keys_in rs) → InOrder rs → Linked first (slices_in rs) now
    → Linked first (slices_in (without_standing who rs)) (state_from now (image_of who (images_in rs)))
links_undone who first now [] n h l = l
links_undone who first now (Gone y ss ∷ rs) n h l =
    let p = linked_parts first now ss (slices_in rs) l in
    linked_join first p.0 _ ss (slices_in (without_standing who rs)) p.1 (links_undone who p.0 now rs n h p.2)
links_undone who first now (Stands y c ss ∷ rs) n h l =
    let p = linked_parts first now ss (slices_in rs) l in
    by (is_who y who) refl p.0 p.1 (links_undone who p.0 now rs n.1 h.1 p.2)
  where
    own : (ss : List Slice) → y ≡ who → slices_in rs ≡ [] → Linked first (ss ++ slices_in rs) now → first ≡ state_from now (image_of who (first_image y ss ++ images_in rs))
    own [] q e g = rw (no_slices_no_images rs e) (subst (λ z. Linked first z now) e g)
    own (x ∷ xs) q e g = rw (q, is_who_refl who) (sym g.0)

    by : (b : Bool) → is_who y who ≡ b → (mid : State) → Linked first ss mid → Linked mid (slices_in (without_standing who rs)) (state_from now (image_of who (images_in rs))) → Linked first (slices_in (if b then without_standing who rs else Stands y c ss ∷ without_standing who rs)) (state_from now (image_of who (first_image y ss ++ images_in rs)))
    by true e mid m g =
        let none : slices_in rs ≡ [] = h.0 (n.0 e) in
        rw (without_nothing who rs none) (own ss (is_who_true y who e) none l)
    by false e mid m g = rw (image_past who y ss (images_in rs) e) (linked_join first mid _ ss (slices_in (without_standing who rs)) m g)

pub undo : (first : State) (keys : List Key) (images : List Image) (now : State) (long : List Ran) (who : Who) → NotComplete who keys → Tracks first keys images now long
    → Tracks first (keys_without who keys) (images_without who images) (state_from now (image_of who images)) (without_standing who long)
undo first keys images now long who n h = record {
  stands = ap (keys_without who) h.stands ∙ sym (keys_without_standing who long);
  differ = differ_without who keys h.differ;
  in_order = order_undone who long h.in_order;
  images_are = ap (images_without who) h.images_are ∙ sym (images_undone who long);
  links = subst (λ z. Linked first (slices_in (without_standing who long)) (state_from now (image_of who z))) (sym h.images_are) (links_undone who first now long (subst (NotComplete who) h.stands n) h.in_order h.links);
}

-- one without slices has no image
pub bare_image : (who : Who) (rs : List Ran) → Bare who rs → image_of who (images_in rs) ≡ None
bare_image who [] h = refl
bare_image who (Stands y c [] ∷ rs) h = bare_image who rs h.1
bare_image who (Stands y c (x ∷ xs) ∷ rs) h = rw (is_who_sym who y, false_from_ne_true (is_who y who) (λ q. absurd (cc (h.0 q)))) (bare_image who rs h.1)
bare_image who (Gone y ss ∷ rs) h = bare_image who rs h

-- and nothing of it is undone
pub bare_undone : (who : Who) (rs : List Ran) → Bare who rs → slices_in (without_standing who rs) ≡ slices_in rs
bare_undone who [] h = refl
bare_undone who (Stands y c ss ∷ rs) h = by (is_who y who) refl (bare_undone who rs h.1)
  where
    by : (b : Bool) → is_who y who ≡ b → slices_in (without_standing who rs) ≡ slices_in rs → slices_in (if b then without_standing who rs else Stands y c ss ∷ without_standing who rs) ≡ ss ++ slices_in rs
    by true e k = rw (h.0 e) k
    by false e k = ap (λ z. ss ++ z) k
bare_undone who (Gone y ss ∷ rs) h = ap (λ z. ss ++ z) (bare_undone who rs h)

-- ---- a rollback

abbrev pub goes : List Key → Image → Bool
goes ks i = is_key_among i.who ks

-- behind the cut
all_go : (ks : List Key) (rs : List Ran) → AllByRecursion (λ k. is_key_among k.who ks ≡ true) (keys_in rs) → filter (λ i. not (goes ks i)) (images_in rs) ≡ []
all_go ks [] h = refl
all_go ks (Stands y c [] ∷ rs) h = all_go ks rs h.1
all_go ks (Stands y c (x ∷ xs) ∷ rs) h = rw h.0 (all_go ks rs h.1)
all_go ks (Gone y ss ∷ rs) h = all_go ks rs h

first_found : (ks : List Key) (first now : State) (rs : List Ran) → AllByRecursion (λ k. is_key_among k.who ks ≡ true) (keys_in rs) → NoneGone rs → Linked first (slices_in rs) now → first ≡ state_from now (find (goes ks) (images_in rs))
first_found ks first now [] h n l = l
first_found ks first now (Stands y c [] ∷ rs) h n l = first_found ks first now rs h.1 n l
first_found ks first now (Stands y c (x ∷ xs) ∷ rs) h n l = rw h.0 (sym l.0)
first_found ks first now (Gone y ss ∷ rs) h n l = absurd n

all_among : (xs ys : List Key) → AllByRecursion (λ k. is_key_among k.who (xs ++ ys) ≡ true) ys
all_among xs [] = tt
all_among xs (y ∷ ys) = (here xs, subst (λ z. AllByRecursion (λ k. is_key_among k.who z ≡ true) ys) (append_assoc xs (y ∷ []) ys) (all_among (xs ++ y ∷ []) ys))
  where
    here : (xs : List Key) → is_key_among y.who (xs ++ y ∷ ys) ≡ true
    here [] = rw (is_who_refl y.who) refl
    here (x ∷ xs) = rw (here xs) (by (is_who x.who y.who))
      where
        by : (b : Bool) → (b || true) ≡ true
        by true = refl
        by false = refl

pub record RollsBack (cs : List Cascade) (first now : State) (long : List Ran) : Type 0 where
  pub images : images_in (long_staying cs long) ≡ filter (λ i. not (goes (keys_going cs (keys_in long)) i)) (images_in long)
  pub order : InOrder (long_staying cs long)
  pub links : Linked first (slices_in (long_staying cs long)) (state_from now (find (goes (keys_going cs (keys_in long))) (images_in long)))

stays_image : (ks : List Key) (y : Who) (ss : List Slice) (is : List Image) → is_key_among y ks ≡ false → filter (λ i. not (goes ks i)) (first_image y ss ++ is) ≡ first_image y ss ++ filter (λ i. not (goes ks i)) is
stays_image ks y [] is e = refl
stays_image ks y (x ∷ xs) is e = rw e refl

stays_found : (ks : List Key) (y : Who) (ss : List Slice) (is : List Image) → is_key_among y ks ≡ false → find (goes ks) (first_image y ss ++ is) ≡ find (goes ks) is
stays_found ks y [] is e = refl
stays_found ks y (x ∷ xs) is e = rw e refl

pub staying_nothing : (cs : List Cascade) (rs : List Ran) → slices_in rs ≡ [] → slices_in (long_staying cs rs) ≡ []
staying_nothing cs [] h = refl
staying_nothing cs (Stands y c [] ∷ rs) h = by (is_cut cs y) (staying_nothing cs rs h)
  where
    by : (b : Bool) → slices_in (long_staying cs rs) ≡ [] → slices_in (if b then [] else Stands y c [] ∷ long_staying cs rs) ≡ []
    by true g = refl
    by false g = g
staying_nothing cs (Stands y c (x ∷ xs) ∷ rs) h = absurd (cc h)
staying_nothing cs (Gone y [] ∷ rs) h = staying_nothing cs rs h
staying_nothing cs (Gone y (x ∷ xs) ∷ rs) h = absurd (cc h)

pub rolls_back : (cs : List Cascade) (first now : State) (long : List Ran) → Differ (keys_in long) → CutIsEnd cs long → InOrder long → Linked first (slices_in long) now → RollsBack cs first now long
rolls_back cs first now [] d n h l = record { images = refl; order = tt; links = l }
rolls_back cs first now (Gone y ss ∷ rs) d n h l =
    let p = linked_parts first now ss (slices_in rs) l in
    let g = rolls_back cs p.0 now rs d n h p.2 in
    record { images = g.images; order = g.order; links = linked_join first p.0 _ ss (slices_in (long_staying cs rs)) p.1 g.links }
rolls_back cs first now (Stands y c ss ∷ rs) d n h l =
    let p = linked_parts first now ss (slices_in rs) l in
    by (is_cut cs y) refl p.0 p.1 (rolls_back cs p.0 now rs d.1 n.1 h.1 p.2)
  where
    by : (b : Bool) → is_cut cs y ≡ b → (mid : State) → Linked first ss mid → RollsBack cs mid now rs → RollsBack cs first now (Stands y c ss ∷ rs)
    by true e mid m g =
        let all = all_among [] (keys_in (Stands y c ss ∷ rs)) in
        record {
          images = rw e (sym (all_go (keys_in (Stands y c ss ∷ rs)) (Stands y c ss ∷ rs) all));
          order = rw e tt;
          links = rw e (first_found (keys_in (Stands y c ss ∷ rs)) first now (Stands y c ss ∷ rs) all (n.0 e) l);
        }
    by false e mid m g =
        let out = fewer_going cs y (keys_in rs) d.0 in
        record {
          images = rw e (ap (λ z. first_image y ss ++ z) g.images ∙ sym (stays_image (keys_going cs (keys_in rs)) y ss (images_in rs) out));
          order = rw e (λ q. staying_nothing cs rs (h.0 q), g.order);
          links = rw (e, stays_found (keys_going cs (keys_in rs)) y ss (images_in rs) out) (linked_join first mid _ ss (slices_in (long_staying cs rs)) m g.links);
        }

pub roll_back : (cs : List Cascade) (first : State) (keys : List Key) (images : List Image) (now : State) (long : List Ran) → CutIsEnd cs long → Tracks first keys images now long
    → Tracks first (keys_staying cs keys) (filter (λ i. not (goes (keys_going cs keys) i)) images) (state_from now (find (goes (keys_going cs keys)) images)) (long_staying cs long)
roll_back cs first keys images now long n h =
    let g = rolls_back cs first now long (subst Differ h.stands h.differ) n h.in_order h.links in
    record {
      stands = ap (keys_staying cs) h.stands ∙ sym (keys_long_staying cs long);
      differ = differ_staying cs keys h.differ;
      in_order = g.order;
      images_are = rw (h.stands, h.images_are) (sym g.images);
      links = rw (h.stands, h.images_are) g.links;
    }
