-- What an ACT may still bring, as orders and votes tell it.
use Rattle.std.proofs.Common.{◌≡◌, ℕ, ◌+◌, Bool, false, cond, Option, Some, None, List, [], ◌∷◌, map, refl, ap}
use Rattle.protocol.specs.BookParts.{act_by, joined_by, place_by, status_by, with_votes}
use Rattle.protocol.specs.Left.{act_left, joined_left, status_left, total, unless}
use Rattle.protocol.specs.Parts.{Joined, Status, Live, Doomed, Decided, Sealed, Act}
use Rattle.protocol.specs.Words.{act_of, holds, is_decided, is_live_status, is_ordered, is_sealed, joined_of}
use Rattle.order_book.specs.Kept.{Kept, seen}
use Rattle.book_part.specs.Told.{left_told}

-- ---- its status

voted : (s : Status) (c : ℕ) → status_left (cond (is_ordered s) s (Sealed c)) ≡ cond (is_decided s) 1 0
voted Live c = refl
voted (Doomed v) c = refl
voted (Decided d) c = refl
voted (Sealed d) c = refl

pub status_told : (v : Option Act) (st : Status) → is_ordered st ≡ is_sealed st → status_left (status_by v st) ≡ left_told (is_live_status st) (is_ordered st) (holds (λ x. is_decided x.status) v)
status_told v Live same = refl
status_told v (Doomed why) same = refl
status_told v (Decided c) same = absurd (cc)
status_told None (Sealed c) same = refl
status_told (Some y) (Sealed c) same = voted y.status c

-- ---- its actors

abbrev marked : Bool → Bool → Joined → ℕ
marked prepared vouched p = unless prepared 2 + (unless vouched 1 + unless p.finished 1)

no_votes : (p : Joined) → p.prepared ≡ false → p.vouched ≡ false → joined_left p ≡ marked false false p
no_votes p a b = λ j. marked (a j) (b j) p

by_joined : (q : Option Joined) (p : Joined) → p.prepared ≡ false → p.vouched ≡ false
    → joined_left (joined_by q p) ≡ marked (holds (λ z. z.prepared) q) (holds (λ z. z.vouched) q) p
by_joined None p a b = no_votes p a b
by_joined (Some q) p a b = refl

pub place_told : (v : Option Act) (p : Joined) → p.prepared ≡ false → p.vouched ≡ false
    → joined_left (place_by v p) ≡ marked (holds (λ x. holds (λ z. z.prepared) (joined_of p.actor x)) v) (holds (λ x. holds (λ z. z.vouched) (joined_of p.actor x)) v) p
place_told None p a b = no_votes p a b
place_told (Some y) p a b = by_joined (joined_of p.actor y) p a b

-- ---- all of them

pub acts_told : (votes : List Act) (epoch : ℕ) (ks : List Kept) → total act_left (with_votes votes (map (seen epoch) ks)) ≡ total (λ k. act_left (act_by (act_of k.act.tid votes) k.act)) ks
acts_told votes epoch [] = refl
acts_told votes epoch (k ∷ ks) = ap (λ n. act_left (act_by (act_of k.act.tid votes) k.act) + n) (acts_told votes epoch ks)
