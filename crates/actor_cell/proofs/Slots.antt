-- Who holds an image in which slot of a pool, as images are taken and put back.
use Rattle.std.proofs.Common.{◌≡◌, ◌≢◌, ℕ, zero, suc, ◌<◌, Bool, true, false, cond, List, [], ◌∷◌, ◌++◌, length, get_or, Option, Some, None, Bor, refl, sym, ap, ◌∙◌, subst, arith}
use Rattle.std.specs.Prelude.{option_map, option_copied, unwrap_or, is_some, IsSome}
use Rattle.std.specs.List.{remove, find}
use Rattle.std.proofs.lemmas.Bool.{cond_both}
use Rattle.snap_base.specs.declared.transactions.State.{State}
use Rattle.image_pool.specs.Region.{Region, state_in_slot, IsLive, Changes}
use Rattle.protocol.specs.Meant.{who_meant}
use Rattle.protocol.specs.OnCell.{state_from}
use Rattle.protocol.specs.Parts.{Who, Image}
use Rattle.protocol.specs.Words.{is_who, image_of}
use Rattle.actor_cell.specs.declared.images.Held.{Held}
use Rattle.actor_cell.specs.Keeping.{image_in, images_of, IsSlotFree, AreApart}

-- ---- a slot changes

live_after : {r r' : Region} {slot : ℕ} {x : Option State} (other : ℕ) → Changes r r' slot x → other ≢ slot → IsLive other r → IsLive other r'
live_after other c ne l =
    let P : Option State → Type 0 = λ o. IsSome o in
    subst P (sym (c.others other ne)) l

-- who holds other slots keeps its images, and they keep their states
pub AreApart-frame : (r r' : Region) (slot : ℕ) (x : Option State) (hs : List Held) → Changes r r' slot x → IsSlotFree slot hs → AreApart r hs → AreApart r' hs
AreApart-frame r r' slot x [] c f a = tt
AreApart-frame r r' slot x (h ∷ hs) c f a = (live_after h.image c f.0 a.0, (a.1.0, AreApart-frame r r' slot x hs c f.1 a.1.1))

pub images_of-frame : (r r' : Region) (slot : ℕ) (x : Option State) (hs : List Held) → Changes r r' slot x → IsSlotFree slot hs → images_of r' hs ≡ images_of r hs
images_of-frame r r' slot x [] c f = refl
images_of-frame r r' slot x (h ∷ hs) c f =
    rw (c.others h.image f.0) (ap (λ rest. image_in r h ∷ rest) (images_of-frame r r' slot x hs c f.1))

-- ---- one more

-- a slot that was spare is nobody's
pub slot_is_free : (r : Region) (slot : ℕ) (hs : List Held) → state_in_slot slot r ≡ None → AreApart r hs → IsSlotFree slot hs
slot_is_free r slot [] n a = tt
slot_is_free r slot (h ∷ hs) n a = (
  λ e.
      let P : ℕ → Type 0 = λ k. IsSome (state_in_slot k r) in
      let live : is_some (state_in_slot slot r) ≡ true = subst P e a.0 in
      cc (live, ap is_some n),
  slot_is_free r slot hs n a.1.1,
)

IsFree-push : (slot : ℕ) (h : Held) (hs : List Held) → IsSlotFree slot hs → h.image ≢ slot → IsSlotFree slot (hs ++ h ∷ [])
IsFree-push slot h [] f ne = (ne, tt)
IsFree-push slot h (x ∷ xs) f ne = (f.0, IsFree-push slot h xs f.1 ne)

pub AreApart-push : (r : Region) (h : Held) (hs : List Held) → AreApart r hs → IsSlotFree h.image hs → IsLive h.image r → AreApart r (hs ++ h ∷ [])
AreApart-push r h [] a f l = (l, (tt, tt))
AreApart-push r h (x ∷ xs) a f l = (a.0, (IsFree-push x.image h xs a.1.0 (λ e. f.0 (sym e)), AreApart-push r h xs a.1.1 f.1 l))

-- ---- one less

pub live_at : (r : Region) (hs : List Held) (i : ℕ) (h : Held) → i < length hs → h ≡ get_or hs i h → AreApart r hs → IsLive h.image r
live_at r [] i h lt e a = absurd (omega arith)
live_at r (y ∷ ys) zero h lt e a =
    let P : Held → Type 0 = λ z. IsLive z.image r in
    subst P (sym e) a.0
live_at r (y ∷ ys) (suc j) h lt e a = live_at r ys j h (omega arith) e a.1.1

IsFree-at : (slot : ℕ) (hs : List Held) (i : ℕ) (h : Held) → i < length hs → h ≡ get_or hs i h → IsSlotFree slot hs → h.image ≢ slot
IsFree-at slot [] i h lt e f = absurd (omega arith)
IsFree-at slot (y ∷ ys) zero h lt e f =
    let P : Held → Type 0 = λ z. z.image ≢ slot in
    subst P (sym e) f.0
IsFree-at slot (y ∷ ys) (suc j) h lt e f = IsFree-at slot ys j h (omega arith) e f.1

IsFree-remove : (slot : ℕ) (hs : List Held) (i : ℕ) → i < length hs → IsSlotFree slot hs → IsSlotFree slot (remove hs i)
IsFree-remove slot [] i lt f = absurd (omega arith)
IsFree-remove slot (y ∷ ys) zero lt f = f.1
IsFree-remove slot (y ∷ ys) (suc j) lt f = (f.0, IsFree-remove slot ys j (omega arith) f.1)

pub AreApart-remove : (r r' : Region) (x : Option State) (hs : List Held) (i : ℕ) (h : Held) → i < length hs → h ≡ get_or hs i h → Changes r r' h.image x → AreApart r hs → AreApart r' (remove hs i)
AreApart-remove r r' x [] i h lt e c a = absurd (omega arith)
AreApart-remove r r' x (y ∷ ys) zero h lt e c a =
    let P : Held → Type 0 = λ z. IsSlotFree z.image ys in
    AreApart-frame r r' h.image x ys c (subst P (sym e) a.1.0) a.1.1
AreApart-remove r r' x (y ∷ ys) (suc j) h lt e c a =
    let less : j < length ys = omega arith in (
      live_after y.image c (λ q. IsFree-at y.image ys j h less e a.1.0 (sym q)) a.0,
      (IsFree-remove y.image ys j less a.1.0, AreApart-remove r r' x ys j h less e c a.1.1),
    )

pub images_of-remove : (r r' : Region) (x : Option State) (hs : List Held) (i : ℕ) (h : Held) → i < length hs → h ≡ get_or hs i h → Changes r r' h.image x → AreApart r hs → images_of r' (remove hs i) ≡ remove (images_of r hs) i
images_of-remove r r' x [] i h lt e c a = absurd (omega arith)
images_of-remove r r' x (y ∷ ys) zero h lt e c a =
    let P : Held → Type 0 = λ z. IsSlotFree z.image ys in
    images_of-frame r r' h.image x ys c (subst P (sym e) a.1.0)
images_of-remove r r' x (y ∷ ys) (suc j) h lt e c a =
    let less : j < length ys = omega arith in
    let rest : images_of r' (remove ys j) ≡ remove (images_of r ys) j = images_of-remove r r' x ys j h less e c a.1.1 in
    rw (c.others y.image (λ q. IsFree-at y.image ys j h less e a.1.0 (sym q))) (ap (λ zs. image_in r y ∷ zs) rest)

-- the last one leaves
pub last_apart : (r : Region) (h : Held) (hs : List Held) → AreApart r (hs ++ h ∷ []) → IsLive h.image r × (IsSlotFree h.image hs × AreApart r hs)
last_apart r h [] a = (a.0, (tt, tt))
last_apart r h (y ∷ ys) a =
    let rest = last_apart r h ys a.1.1 in
    (rest.0, ((last_differs y.image h ys a.1.0, rest.1.0), (a.0, (last_is_free y.image h ys a.1.0, rest.1.1))))
  where
    last_differs : (slot : ℕ) (h : Held) (hs : List Held) → IsSlotFree slot (hs ++ h ∷ []) → slot ≢ h.image
    last_differs slot h [] f = λ e. f.0 (sym e)
    last_differs slot h (x ∷ xs) f = last_differs slot h xs f.1

    last_is_free : (slot : ℕ) (h : Held) (hs : List Held) → IsSlotFree slot (hs ++ h ∷ []) → IsSlotFree slot hs
    last_is_free slot h [] f = tt
    last_is_free slot h (x ∷ xs) f = (f.0, last_is_free slot h xs f.1)

-- ---- the first that is meant

pub found_is_live : (p : Held → Bool) (r : Region) (hs : List Held) (h : Held) → find p hs ≡ Some h → AreApart r hs → IsLive h.image r
found_is_live p r [] h e a = cc e
found_is_live p r (y ∷ ys) h e a =
    cond_both (p y) (Some y) (find p ys) (λ o. o ≡ Some h → IsLive h.image r)
    (λ t q.
    let P : Held → Type 0 = λ z. IsLive z.image r in
    let same : y ≡ h = cc q in
    subst P same a.0)
    (λ t q. found_is_live p r ys h q a.1.1) e

either : {X Y : Type 0} (f : X → Y) (b : Bool) (x : X) (o : Option X) → cond b (Some (f x)) (option_map f o) ≡ option_map f (cond b (Some x) o)
either f b x o = elim b as (λ v. cond v (Some (f x)) (option_map f o) ≡ option_map f (cond v (Some x) o)) [ true ↦ refl | false ↦ refl ]

pub find-images_of : (q : Who → Bool) (r : Region) (hs : List Held) → find (λ i. q i.who) (images_of r hs) ≡ option_map (image_in r) (find (λ h. q (who_meant h.who)) hs)
find-images_of q r [] = refl
find-images_of q r (h ∷ hs) = rw (find-images_of q r hs) (either (image_in r) (q (who_meant h.who)) h (find (λ x. q (who_meant x.who)) hs))

-- what a search among those who hold images found is the image
pub image_of-found : (who : Who) (r : Region) (hs : List Held) (images : List Image) (o : Option (Bor Held)) → option_copied o ≡ find (λ h. is_who who (who_meant h.who)) hs → images_of r hs ≡ images → image_of who images ≡ option_map (image_in r) (option_copied o)
image_of-found who r hs images o found same =
    ap (image_of who) (sym same) ∙ find-images_of (is_who who) r hs ∙ ap (option_map (image_in r)) (sym found)

pub is_some-found : (r : Region) (o : Option (Bor Held)) → is_some (option_map (image_in r) (option_copied o)) ≡ is_some o
is_some-found r None = refl
is_some-found r (Some h) = refl

-- the state of an image, or another one where there is none
pub unwrap_or-kept : (s : State) (o : Option Image) → unwrap_or (option_map (λ (i : Image). i.state) o) s ≡ state_from s o
unwrap_or-kept s None = refl
unwrap_or-kept s (Some i) = refl
