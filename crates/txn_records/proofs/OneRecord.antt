-- Bytes are those of one record at most.
use Rattle.std.proofs.Common.{◌≡◌, ℕ, ℤ, ◌+◌, ◌^◌, ◌<◌, ◌≤◌, List, [], ◌∷◌, ◌++◌, length, get_or, refl, sym, ap, ◌∙◌, append_assoc, arith, FitsSigned}
use Rattle.std.specs.List.{AllByRecursion, flat_map}
use Rattle.std.specs.Int.{w16, w64, from_be_bytes, to_be_bytes, cast_unsigned, cast_signed}
use Rattle.std.proofs.lemmas.List.{append-nil}
use Rattle.std.proofs.lemmas.Nat.{from_be_bytes-to_be_bytes_2, from_be_bytes-to_be_bytes_8}
use Rattle.std.proofs.lemmas.Int.{to_z-of_z}
use Rattle.std.proofs.Math.Facts.{Fits-of_z}
use Rattle.snap_base.specs.declared.ids.ActorId.{ActorId}
use Rattle.snap_base.specs.declared.ids.Bid.{Bid}
use Rattle.snap_base.specs.declared.ids.Tid.{Tid}
use Rattle.snap_base.specs.declared.transactions.State.{State}
use Rattle.snap_base.proofs.Lists.{same_front}
use Rattle.txn_records.specs.declared.records.Record.{Record}
use Rattle.txn_records.specs.declared.records.Record.TheVariants.{Genesis, BatchInfo, BatchComplete, BatchCommit, ActPrepare, ActCommit, BatchDone, ActDone, Checkpoint}
use Rattle.txn_records.specs.Records.{record_bytes, IsRecord, field_bytes, state_bytes, states_bytes, actors_bytes, tids_bytes, actor_numbers, tid_numbers, IsState, IsGenesis, IsInfo, IsComplete, IsCommit, IsPrepare, IsAct, Ascend, IsDone, IsActDone, IsCheckpoint, values_bytes, counted_states_bytes}

-- No spelling of a thing begins that of another.
pub record SpelledApart {X : Type 0} (Is : X → Type 0) (spell : X → List ℕ) : Type 0 where
  pub apart : (a b : X) (x y : List ℕ) → Is a → Is b → spell a ++ x ≡ spell b ++ y → (a ≡ b) × (x ≡ y)

-- a thing with its limit holds as many bytes as any, and is known from them
pub apart_by_length : {X : Type 0} (Is : X → Type 0) (spell : X → List ℕ) (n : ℕ)
    → ((a : X) → Is a → length (spell a) ≡ n)
    → ((a b : X) → Is a → Is b → spell a ≡ spell b → a ≡ b)
    → SpelledApart Is spell
apart_by_length Is spell n len one = record {
  apart = λ a b x y p q e.
      let s = same_front (spell a) x (spell b) y (len a p ∙ sym (len b q)) e in
      (one a b p q s.0, s.1);
}

abbrev pub Below : ℕ → ℕ → Type 0
Below limit n = n < limit

pub apart16 : SpelledApart (Below (2 ^ 16)) (to_be_bytes w16)
apart16 = apart_by_length (Below (2 ^ 16)) (to_be_bytes w16) 2 (λ a p. refl)
    (λ a b p q e. sym (from_be_bytes-to_be_bytes_2 a p) ∙ ap (from_be_bytes w16) e ∙ from_be_bytes-to_be_bytes_2 b q)

pub apart64 : SpelledApart (Below (2 ^ 64)) (to_be_bytes w64)
apart64 = apart_by_length (Below (2 ^ 64)) (to_be_bytes w64) 8 (λ a p. refl)
    (λ a b p q e. sym (from_be_bytes-to_be_bytes_8 a p) ∙ ap (from_be_bytes w64) e ∙ from_be_bytes-to_be_bytes_8 b q)

-- what is told by another thing is spelled apart where that is
pub apart_through : {X Y : Type 0} (Is : X → Type 0) (Js : Y → Type 0) (view : X → Y) (spell : Y → List ℕ)
    → ((a : X) → Is a → Js (view a))
    → ((a b : X) → Is a → Is b → view a ≡ view b → a ≡ b)
    → SpelledApart Js spell → SpelledApart Is (λ a. spell (view a))
apart_through Is Js view spell holds one under = record {
  apart = λ a b x y p q e.
      let s = under.apart (view a) (view b) x y (holds a p) (holds b q) e in
      (one a b p q s.0, s.1);
}

-- lists of one length
pub lists_apart : {X : Type 0} (Is : X → Type 0) (spell : X → List ℕ) → SpelledApart Is spell
    → (xs ys : List X) (v w : List ℕ) → AllByRecursion Is xs → AllByRecursion Is ys → length xs ≡ length ys
    → flat_map spell xs ++ v ≡ flat_map spell ys ++ w → (xs ≡ ys) × (v ≡ w)
lists_apart Is spell each [] [] v w p q len e = (refl, e)
lists_apart Is spell each [] (b ∷ bs) v w p q len e = absurd (omega (arith, len))
lists_apart Is spell each (a ∷ xs) [] v w p q len e = absurd (omega (arith, len))
lists_apart {X} Is spell each (a ∷ xs) (b ∷ ys) v w p q len e =
    let s = each.apart a b (flat_map spell xs ++ v) (flat_map spell ys ++ w) p.0 q.0 (sym (append_assoc (spell a) (flat_map spell xs) v) ∙ e ∙ append_assoc (spell b) (flat_map spell ys) w) in
    let r = lists_apart Is spell each xs ys v w p.1 q.1 (omega (arith, len)) s.1 in
    (ap (λ (z : X). z ∷ xs) s.0 ∙ ap (λ (zs : List X). b ∷ zs) r.0, r.1)

-- with nothing behind them
pub one_of : {X : Type 0} (Is : X → Type 0) (spell : X → List ℕ) → SpelledApart Is spell → (a b : X) → Is a → Is b → spell a ≡ spell b → a ≡ b
one_of Is spell under a b p q e = (under.apart a b [] [] p q (append-nil (spell a) ∙ e ∙ sym (append-nil (spell b)))).0

pub one_list : {X : Type 0} (Is : X → Type 0) (spell : X → List ℕ) → SpelledApart Is spell
    → (xs ys : List X) → AllByRecursion Is xs → AllByRecursion Is ys → length xs ≡ length ys → flat_map spell xs ≡ flat_map spell ys → xs ≡ ys
one_list Is spell each xs ys p q len e = (lists_apart Is spell each xs ys [] [] p q len (append-nil (flat_map spell xs) ∙ e ∙ sym (append-nil (flat_map spell ys)))).0

-- ---- the parts of records

pub same_bits : (a b : ℤ) → FitsSigned w64 a → FitsSigned w64 b → cast_unsigned w64 a ≡ cast_unsigned w64 b → a ≡ b
same_bits a b p q e = sym (to_z-of_z w64 a p) ∙ ap (cast_signed w64) e ∙ to_z-of_z w64 b q

pub bits_below : (a : ℤ) → FitsSigned w64 a → cast_unsigned w64 a < 2 ^ 64
bits_below a p = omega (arith, Fits-of_z p)

pub fields_apart : SpelledApart (FitsSigned w64) field_bytes
unfolding field_bytes
fields_apart = apart_through (FitsSigned w64) (Below (2 ^ 64)) (cast_unsigned w64) (to_be_bytes w64) bits_below same_bits apart64

pub states_apart : SpelledApart IsState state_bytes
unfolding state_bytes
states_apart = record {
  apart = λ a b x y p q e.
      let r = lists_apart (FitsSigned w64) field_bytes fields_apart a.0 b.0 x y p.fields q.fields (p.len ∙ sym q.len) e in
      (ap (λ (xs : List ℤ). let s : State = record { 0 = xs } in s) r.0, r.1);
}

abbrev pub IsActor : ActorId → Type 0
IsActor a = a.0 < 2 ^ 16

abbrev pub IsTid : Tid → Type 0
IsTid t = t.0 < 2 ^ 64

abbrev pub IsBid : Bid → Type 0
IsBid b = b.0 < 2 ^ 64

abbrev pub actor_bytes : ActorId → List ℕ
actor_bytes a = to_be_bytes w16 a.0

abbrev pub tid_bytes : Tid → List ℕ
tid_bytes t = to_be_bytes w64 t.0

abbrev pub bid_bytes : Bid → List ℕ
bid_bytes b = to_be_bytes w64 b.0

pub actors_apart : SpelledApart IsActor actor_bytes
actors_apart = apart_through IsActor (Below (2 ^ 16)) (λ (a : ActorId). a.0) (to_be_bytes w16) (λ a p. p) (λ a b p q e. ap (λ (n : ℕ). let z : ActorId = record { 0 = n } in z) e) apart16

pub tids_apart : SpelledApart IsTid tid_bytes
tids_apart = apart_through IsTid (Below (2 ^ 64)) (λ (a : Tid). a.0) (to_be_bytes w64) (λ a p. p) (λ a b p q e. ap (λ (n : ℕ). let z : Tid = record { 0 = n } in z) e) apart64

pub bids_apart : SpelledApart IsBid bid_bytes
bids_apart = apart_through IsBid (Below (2 ^ 64)) (λ (a : Bid). a.0) (to_be_bytes w64) (λ a p. p) (λ a b p q e. ap (λ (n : ℕ). let z : Bid = record { 0 = n } in z) e) apart64

pub are_actors : (low : ℕ) (actors : List ActorId) → Ascend low (2 ^ 16) (actor_numbers actors) → AllByRecursion IsActor actors
are_actors low [] p = tt
are_actors low (a ∷ actors) p = (p.1, are_actors (a.0 + 1) actors p.2)

pub are_tids : (low : ℕ) (tids : List Tid) → Ascend low (2 ^ 64) (tid_numbers tids) → AllByRecursion IsTid tids
are_tids low [] p = tt
are_tids low (t ∷ tids) p = (p.1, are_tids (t.0 + 1) tids p.2)

-- ---- the records

short : (n : ℕ) → n ≤ 256 → n < 2 ^ 16
short n p = omega arith

one_genesis : (l m : ℕ) (xs ys : List State) → IsGenesis l xs → IsGenesis m ys → record_bytes (Genesis l xs) ≡ record_bytes (Genesis m ys) → Genesis l xs ≡ Genesis m ys
one_genesis l m xs ys p q e =
    let s = same_front (1 ∷ l ∷ []) (to_be_bytes w16 (length xs) ++ states_bytes xs) (1 ∷ m ∷ []) (to_be_bytes w16 (length ys) ++ states_bytes ys) refl e in
    let logs : l ≡ m = ap (λ (b : List ℕ). get_or b 1 0) s.0 in
    let t = apart16.apart (length xs) (length ys) (states_bytes xs) (states_bytes ys) (short (length xs) p.few) (short (length ys) q.few) s.1 in
    let states : xs ≡ ys = one_list IsState state_bytes states_apart xs ys p.each q.each t.0 t.1 in
    ap (λ (n : ℕ). Genesis n xs) logs ∙ ap (λ (zs : List State). Genesis m zs) states

one_info : (a b : Bid) (xs ys : List ActorId) (ts us : List Tid) → IsInfo a xs ts → IsInfo b ys us → record_bytes (BatchInfo a xs ts) ≡ record_bytes (BatchInfo b ys us) → BatchInfo a xs ts ≡ BatchInfo b ys us
one_info a b xs ys ts us p q e =
    let xt : List ℕ = to_be_bytes w16 (length ts) ++ tids_bytes ts in
    let yt : List ℕ = to_be_bytes w16 (length us) ++ tids_bytes us in
    let xa : List ℕ = actors_bytes xs ++ xt in
    let ya : List ℕ = actors_bytes ys ++ yt in
    let s = same_front (2 ∷ []) (bid_bytes a ++ (to_be_bytes w16 (length xs) ++ xa)) (2 ∷ []) (bid_bytes b ++ (to_be_bytes w16 (length ys) ++ ya)) refl e in
    let t = bids_apart.apart a b (to_be_bytes w16 (length xs) ++ xa) (to_be_bytes w16 (length ys) ++ ya) p.bid_fits q.bid_fits s.1 in
    let u = apart16.apart (length xs) (length ys) xa ya (short (length xs) p.few_actors) (short (length ys) q.few_actors) t.1 in
    let v = lists_apart IsActor actor_bytes actors_apart xs ys xt yt (are_actors 0 xs p.actors_ascend) (are_actors 0 ys q.actors_ascend) u.0 u.1 in
    let w = apart16.apart (length ts) (length us) (tids_bytes ts) (tids_bytes us) (short (length ts) p.few_tids) (short (length us) q.few_tids) v.1 in
    let x = one_list IsTid tid_bytes tids_apart ts us (are_tids 0 ts p.tids_ascend) (are_tids 0 us q.tids_ascend) w.0 w.1 in
    ap (λ (z : Bid). BatchInfo z xs ts) t.0 ∙ ap (λ (zs : List ActorId). BatchInfo b zs ts) v.0 ∙ ap (λ (zs : List Tid). BatchInfo b ys zs) x

one_complete : (a b : Bid) (m n : ActorId) (x y : State) → IsComplete a m x → IsComplete b n y → record_bytes (BatchComplete a m x) ≡ record_bytes (BatchComplete b n y) → BatchComplete a m x ≡ BatchComplete b n y
one_complete a b m n x y p q e =
    let s = same_front (3 ∷ []) (bid_bytes a ++ (actor_bytes m ++ state_bytes x)) (3 ∷ []) (bid_bytes b ++ (actor_bytes n ++ state_bytes y)) refl e in
    let t = bids_apart.apart a b (actor_bytes m ++ state_bytes x) (actor_bytes n ++ state_bytes y) p.bid_fits q.bid_fits s.1 in
    let u = actors_apart.apart m n (state_bytes x) (state_bytes y) p.actor_fits q.actor_fits t.1 in
    let v = one_of IsState state_bytes states_apart x y p.is_state q.is_state u.1 in
    ap (λ (z : Bid). BatchComplete z m x) t.0 ∙ ap (λ (z : ActorId). BatchComplete b z x) u.0 ∙ ap (λ (z : State). BatchComplete b n z) v

one_commit : (a b : Bid) → IsCommit a → IsCommit b → record_bytes (BatchCommit a) ≡ record_bytes (BatchCommit b) → BatchCommit a ≡ BatchCommit b
one_commit a b p q e =
    let s = same_front (4 ∷ []) (bid_bytes a) (4 ∷ []) (bid_bytes b) refl e in
    ap (λ (z : Bid). BatchCommit z) (one_of IsBid bid_bytes bids_apart a b p.bid_fits q.bid_fits s.1)

one_prepare : (a b : Tid) (m n : ActorId) (x y : State) → IsPrepare a m x → IsPrepare b n y → record_bytes (ActPrepare a m x) ≡ record_bytes (ActPrepare b n y) → ActPrepare a m x ≡ ActPrepare b n y
one_prepare a b m n x y p q e =
    let s = same_front (5 ∷ []) (tid_bytes a ++ (actor_bytes m ++ state_bytes x)) (5 ∷ []) (tid_bytes b ++ (actor_bytes n ++ state_bytes y)) refl e in
    let t = tids_apart.apart a b (actor_bytes m ++ state_bytes x) (actor_bytes n ++ state_bytes y) p.tid_fits q.tid_fits s.1 in
    let u = actors_apart.apart m n (state_bytes x) (state_bytes y) p.actor_fits q.actor_fits t.1 in
    let v = one_of IsState state_bytes states_apart x y p.is_state q.is_state u.1 in
    ap (λ (z : Tid). ActPrepare z m x) t.0 ∙ ap (λ (z : ActorId). ActPrepare b z x) u.0 ∙ ap (λ (z : State). ActPrepare b n z) v

one_act : (a b : Tid) (m n : Bid) (c d : ℕ) (xs ys : List ActorId) → IsAct a m c xs → IsAct b n d ys → record_bytes (ActCommit a m c xs) ≡ record_bytes (ActCommit b n d ys) → ActCommit a m c xs ≡ ActCommit b n d ys
one_act a b m n c d xs ys p q e =
    let xa : List ℕ = to_be_bytes w16 (length xs) ++ actors_bytes xs in
    let ya : List ℕ = to_be_bytes w16 (length ys) ++ actors_bytes ys in
    let s = same_front (6 ∷ []) (tid_bytes a ++ (bid_bytes m ++ (to_be_bytes w64 c ++ xa))) (6 ∷ []) (tid_bytes b ++ (bid_bytes n ++ (to_be_bytes w64 d ++ ya))) refl e in
    let t = tids_apart.apart a b (bid_bytes m ++ (to_be_bytes w64 c ++ xa)) (bid_bytes n ++ (to_be_bytes w64 d ++ ya)) p.tid_fits q.tid_fits s.1 in
    let u = bids_apart.apart m n (to_be_bytes w64 c ++ xa) (to_be_bytes w64 d ++ ya) p.m_fits q.m_fits t.1 in
    let v = apart64.apart c d xa ya p.c_fits q.c_fits u.1 in
    let w = apart16.apart (length xs) (length ys) (actors_bytes xs) (actors_bytes ys) (omega (arith, p.few)) (omega (arith, q.few)) v.1 in
    let x = one_list IsActor actor_bytes actors_apart xs ys (are_actors 0 xs p.ascend) (are_actors 0 ys q.ascend) w.0 w.1 in
    ap (λ (z : Tid). ActCommit z m c xs) t.0 ∙ ap (λ (z : Bid). ActCommit b z c xs) u.0 ∙ ap (λ (z : ℕ). ActCommit b n z xs) v.0 ∙ ap (λ (zs : List ActorId). ActCommit b n d zs) x

one_done : (a b : Bid) (vs ws : List ℤ) → IsDone a vs → IsDone b ws → record_bytes (BatchDone a vs) ≡ record_bytes (BatchDone b ws) → BatchDone a vs ≡ BatchDone b ws
one_done a b vs ws p q e =
    let xa : List ℕ = to_be_bytes w16 (length vs) ++ values_bytes vs in
    let ya : List ℕ = to_be_bytes w16 (length ws) ++ values_bytes ws in
    let s = same_front (7 ∷ []) (bid_bytes a ++ xa) (7 ∷ []) (bid_bytes b ++ ya) refl e in
    let t = bids_apart.apart a b xa ya p.bid_fits q.bid_fits s.1 in
    let u = apart16.apart (length vs) (length ws) (values_bytes vs) (values_bytes ws) (short (length vs) p.few) (short (length ws) q.few) t.1 in
    let v = one_list (FitsSigned w64) field_bytes fields_apart vs ws p.each q.each u.0 u.1 in
    ap (λ (z : Bid). BatchDone z vs) t.0 ∙ ap (λ (zs : List ℤ). BatchDone b zs) v

one_act_done : (a b : Tid) (m n : Bid) (c d : ℕ) (f g : ℤ) (xs ys : List ActorId) → IsActDone a m c f xs → IsActDone b n d g ys → record_bytes (ActDone a m c f xs) ≡ record_bytes (ActDone b n d g ys) → ActDone a m c f xs ≡ ActDone b n d g ys
one_act_done a b m n c d f g xs ys p q e =
    let xa : List ℕ = to_be_bytes w16 (length xs) ++ actors_bytes xs in
    let ya : List ℕ = to_be_bytes w16 (length ys) ++ actors_bytes ys in
    let xf : List ℕ = field_bytes f ++ xa in
    let yf : List ℕ = field_bytes g ++ ya in
    let s = same_front (8 ∷ []) (tid_bytes a ++ (bid_bytes m ++ (to_be_bytes w64 c ++ xf))) (8 ∷ []) (tid_bytes b ++ (bid_bytes n ++ (to_be_bytes w64 d ++ yf))) refl e in
    let t = tids_apart.apart a b (bid_bytes m ++ (to_be_bytes w64 c ++ xf)) (bid_bytes n ++ (to_be_bytes w64 d ++ yf)) p.tid_fits q.tid_fits s.1 in
    let u = bids_apart.apart m n (to_be_bytes w64 c ++ xf) (to_be_bytes w64 d ++ yf) p.m_fits q.m_fits t.1 in
    let v = apart64.apart c d xf yf p.c_fits q.c_fits u.1 in
    let o = fields_apart.apart f g xa ya p.value_fits q.value_fits v.1 in
    let w = apart16.apart (length xs) (length ys) (actors_bytes xs) (actors_bytes ys) (omega (arith, p.few)) (omega (arith, q.few)) o.1 in
    let x = one_list IsActor actor_bytes actors_apart xs ys (are_actors 0 xs p.ascend) (are_actors 0 ys q.ascend) w.0 w.1 in
    ap (λ (z : Tid). ActDone z m c f xs) t.0 ∙ ap (λ (z : Bid). ActDone b z c f xs) u.0 ∙ ap (λ (z : ℕ). ActDone b n z f xs) v.0 ∙ ap (λ (z : ℤ). ActDone b n d z xs) o.0 ∙ ap (λ (zs : List ActorId). ActDone b n d g zs) x

one_checkpoint : (g h : ℕ) (t u : Tid) (b d : Bid) (c e m k n l : ℕ) (xs ys : List State) → IsCheckpoint g t b c m n xs → IsCheckpoint h u d e k l ys
    → record_bytes (Checkpoint g t b c m n xs) ≡ record_bytes (Checkpoint h u d e k l ys) → Checkpoint g t b c m n xs ≡ Checkpoint h u d e k l ys
one_checkpoint g h t u b d c e m k n l xs ys p q same =
    let x5 : List ℕ = to_be_bytes w64 n ++ counted_states_bytes xs in
    let y5 : List ℕ = to_be_bytes w64 l ++ counted_states_bytes ys in
    let x4 : List ℕ = to_be_bytes w64 m ++ x5 in
    let y4 : List ℕ = to_be_bytes w64 k ++ y5 in
    let x3 : List ℕ = to_be_bytes w64 c ++ x4 in
    let y3 : List ℕ = to_be_bytes w64 e ++ y4 in
    let x2 : List ℕ = bid_bytes b ++ x3 in
    let y2 : List ℕ = bid_bytes d ++ y3 in
    let x1 : List ℕ = tid_bytes t ++ x2 in
    let y1 : List ℕ = tid_bytes u ++ y2 in
    let s = same_front (16 ∷ []) (to_be_bytes w64 g ++ x1) (16 ∷ []) (to_be_bytes w64 h ++ y1) refl same in
    let s1 = apart64.apart g h x1 y1 p.generation_fits q.generation_fits s.1 in
    let s2 = tids_apart.apart t u x2 y2 p.tid_fits q.tid_fits s1.1 in
    let s3 = bids_apart.apart b d x3 y3 p.bid_fits q.bid_fits s2.1 in
    let s4 = apart64.apart c e x4 y4 p.c_fits q.c_fits s3.1 in
    let s5 = apart64.apart m k x5 y5 p.batches_fit q.batches_fit s4.1 in
    let s6 = apart64.apart n l (counted_states_bytes xs) (counted_states_bytes ys) p.acts_fit q.acts_fit s5.1 in
    let s7 = apart16.apart (length xs) (length ys) (states_bytes xs) (states_bytes ys) (short (length xs) p.few) (short (length ys) q.few) s6.1 in
    let states : xs ≡ ys = one_list IsState state_bytes states_apart xs ys p.each q.each s7.0 s7.1 in
    ap (λ (z : ℕ). Checkpoint z t b c m n xs) s1.0 ∙ ap (λ (z : Tid). Checkpoint h z b c m n xs) s2.0 ∙ ap (λ (z : Bid). Checkpoint h u z c m n xs) s3.0
    ∙ ap (λ (z : ℕ). Checkpoint h u d z m n xs) s4.0 ∙ ap (λ (z : ℕ). Checkpoint h u d e z n xs) s5.0 ∙ ap (λ (z : ℕ). Checkpoint h u d e k z xs) s6.0
    ∙ ap (λ (zs : List State). Checkpoint h u d e k l zs) states

-- the first byte
pub other_tag : {P : Type 0} (a b : ℕ) (x y : List ℕ) → a < b → a ∷ x ≡ b ∷ y → P
other_tag a b x y lt e = absurd (omega (arith, ap (λ (z : List ℕ). get_or z 0 0) e))

pub other_tag_down : {P : Type 0} (a b : ℕ) (x y : List ℕ) → b < a → a ∷ x ≡ b ∷ y → P
other_tag_down a b x y lt e = absurd (omega (arith, ap (λ (z : List ℕ). get_or z 0 0) e))

pub one_record : (a b : Record) → IsRecord a → IsRecord b → record_bytes a ≡ record_bytes b → a ≡ b
one_record (Genesis l xs) (Genesis k ys) p q e = one_genesis l k xs ys p q e
one_record (BatchInfo a xs ts) (BatchInfo b ys us) p q e = one_info a b xs ys ts us p q e
one_record (BatchComplete a m x) (BatchComplete b n y) p q e = one_complete a b m n x y p q e
one_record (BatchCommit a) (BatchCommit b) p q e = one_commit a b p q e
one_record (ActPrepare a m x) (ActPrepare b n y) p q e = one_prepare a b m n x y p q e
one_record (ActCommit a m c xs) (ActCommit b n d ys) p q e = one_act a b m n c d xs ys p q e
one_record (Genesis l xs) (BatchInfo b ys us) p q e = other_tag 1 2 _ _ (omega arith) e
one_record (Genesis l xs) (BatchComplete b n y) p q e = other_tag 1 3 _ _ (omega arith) e
one_record (Genesis l xs) (BatchCommit b) p q e = other_tag 1 4 _ _ (omega arith) e
one_record (Genesis l xs) (ActPrepare b n y) p q e = other_tag 1 5 _ _ (omega arith) e
one_record (Genesis l xs) (ActCommit b n d ys) p q e = other_tag 1 6 _ _ (omega arith) e
one_record (BatchInfo a xs ts) (Genesis k ys) p q e = other_tag_down 2 1 _ _ (omega arith) e
one_record (BatchInfo a xs ts) (BatchComplete b n y) p q e = other_tag 2 3 _ _ (omega arith) e
one_record (BatchInfo a xs ts) (BatchCommit b) p q e = other_tag 2 4 _ _ (omega arith) e
one_record (BatchInfo a xs ts) (ActPrepare b n y) p q e = other_tag 2 5 _ _ (omega arith) e
one_record (BatchInfo a xs ts) (ActCommit b n d ys) p q e = other_tag 2 6 _ _ (omega arith) e
one_record (BatchComplete a m x) (Genesis k ys) p q e = other_tag_down 3 1 _ _ (omega arith) e
one_record (BatchComplete a m x) (BatchInfo b ys us) p q e = other_tag_down 3 2 _ _ (omega arith) e
one_record (BatchComplete a m x) (BatchCommit b) p q e = other_tag 3 4 _ _ (omega arith) e
one_record (BatchComplete a m x) (ActPrepare b n y) p q e = other_tag 3 5 _ _ (omega arith) e
one_record (BatchComplete a m x) (ActCommit b n d ys) p q e = other_tag 3 6 _ _ (omega arith) e
one_record (BatchCommit a) (Genesis k ys) p q e = other_tag_down 4 1 _ _ (omega arith) e
one_record (BatchCommit a) (BatchInfo b ys us) p q e = other_tag_down 4 2 _ _ (omega arith) e
one_record (BatchCommit a) (BatchComplete b n y) p q e = other_tag_down 4 3 _ _ (omega arith) e
one_record (BatchCommit a) (ActPrepare b n y) p q e = other_tag 4 5 _ _ (omega arith) e
one_record (BatchCommit a) (ActCommit b n d ys) p q e = other_tag 4 6 _ _ (omega arith) e
one_record (ActPrepare a m x) (Genesis k ys) p q e = other_tag_down 5 1 _ _ (omega arith) e
one_record (ActPrepare a m x) (BatchInfo b ys us) p q e = other_tag_down 5 2 _ _ (omega arith) e
one_record (ActPrepare a m x) (BatchComplete b n y) p q e = other_tag_down 5 3 _ _ (omega arith) e
one_record (ActPrepare a m x) (BatchCommit b) p q e = other_tag_down 5 4 _ _ (omega arith) e
one_record (ActPrepare a m x) (ActCommit b n d ys) p q e = other_tag 5 6 _ _ (omega arith) e
one_record (ActCommit a m c xs) (Genesis k ys) p q e = other_tag_down 6 1 _ _ (omega arith) e
one_record (ActCommit a m c xs) (BatchInfo b ys us) p q e = other_tag_down 6 2 _ _ (omega arith) e
one_record (ActCommit a m c xs) (BatchComplete b n y) p q e = other_tag_down 6 3 _ _ (omega arith) e
one_record (ActCommit a m c xs) (BatchCommit b) p q e = other_tag_down 6 4 _ _ (omega arith) e
one_record (ActCommit a m c xs) (ActPrepare b n y) p q e = other_tag_down 6 5 _ _ (omega arith) e
one_record (BatchDone a vs) (BatchDone b ws) p q e = one_done a b vs ws p q e
one_record (ActDone a m c f xs) (ActDone b n d g ys) p q e = one_act_done a b m n c d f g xs ys p q e
one_record (Genesis l xs) (BatchDone b ws) p q e = other_tag 1 7 _ _ (omega arith) e
one_record (Genesis l xs) (ActDone b n d g ys) p q e = other_tag 1 8 _ _ (omega arith) e
one_record (BatchInfo a xs ts) (BatchDone b ws) p q e = other_tag 2 7 _ _ (omega arith) e
one_record (BatchInfo a xs ts) (ActDone b n d g ys) p q e = other_tag 2 8 _ _ (omega arith) e
one_record (BatchComplete a m x) (BatchDone b ws) p q e = other_tag 3 7 _ _ (omega arith) e
one_record (BatchComplete a m x) (ActDone b n d g ys) p q e = other_tag 3 8 _ _ (omega arith) e
one_record (BatchCommit a) (BatchDone b ws) p q e = other_tag 4 7 _ _ (omega arith) e
one_record (BatchCommit a) (ActDone b n d g ys) p q e = other_tag 4 8 _ _ (omega arith) e
one_record (ActPrepare a m x) (BatchDone b ws) p q e = other_tag 5 7 _ _ (omega arith) e
one_record (ActPrepare a m x) (ActDone b n d g ys) p q e = other_tag 5 8 _ _ (omega arith) e
one_record (ActCommit a m c xs) (BatchDone b ws) p q e = other_tag 6 7 _ _ (omega arith) e
one_record (ActCommit a m c xs) (ActDone b n d g ys) p q e = other_tag 6 8 _ _ (omega arith) e
one_record (BatchDone a vs) (Genesis k ys) p q e = other_tag_down 7 1 _ _ (omega arith) e
one_record (BatchDone a vs) (BatchInfo b ys us) p q e = other_tag_down 7 2 _ _ (omega arith) e
one_record (BatchDone a vs) (BatchComplete b n y) p q e = other_tag_down 7 3 _ _ (omega arith) e
one_record (BatchDone a vs) (BatchCommit b) p q e = other_tag_down 7 4 _ _ (omega arith) e
one_record (BatchDone a vs) (ActPrepare b n y) p q e = other_tag_down 7 5 _ _ (omega arith) e
one_record (BatchDone a vs) (ActCommit b n d ys) p q e = other_tag_down 7 6 _ _ (omega arith) e
one_record (BatchDone a vs) (ActDone b n d g ys) p q e = other_tag 7 8 _ _ (omega arith) e
one_record (ActDone a m c f xs) (Genesis k ys) p q e = other_tag_down 8 1 _ _ (omega arith) e
one_record (ActDone a m c f xs) (BatchInfo b ys us) p q e = other_tag_down 8 2 _ _ (omega arith) e
one_record (ActDone a m c f xs) (BatchComplete b n y) p q e = other_tag_down 8 3 _ _ (omega arith) e
one_record (ActDone a m c f xs) (BatchCommit b) p q e = other_tag_down 8 4 _ _ (omega arith) e
one_record (ActDone a m c f xs) (ActPrepare b n y) p q e = other_tag_down 8 5 _ _ (omega arith) e
one_record (ActDone a m c f xs) (ActCommit b n d ys) p q e = other_tag_down 8 6 _ _ (omega arith) e
one_record (ActDone a m c f xs) (BatchDone b ws) p q e = other_tag_down 8 7 _ _ (omega arith) e
one_record (Checkpoint g t b c m n xs) (Checkpoint h u d e k l ys) p q same = one_checkpoint g h t u b d c e m k n l xs ys p q same
one_record (Genesis l xs) (Checkpoint h i j o v w zs) p q e = other_tag 1 16 _ _ (omega arith) e
one_record (BatchInfo a xs ts) (Checkpoint h i j o v w zs) p q e = other_tag 2 16 _ _ (omega arith) e
one_record (BatchComplete a m x) (Checkpoint h i j o v w zs) p q e = other_tag 3 16 _ _ (omega arith) e
one_record (BatchCommit a) (Checkpoint h i j o v w zs) p q e = other_tag 4 16 _ _ (omega arith) e
one_record (ActPrepare a m x) (Checkpoint h i j o v w zs) p q e = other_tag 5 16 _ _ (omega arith) e
one_record (ActCommit a m c xs) (Checkpoint h i j o v w zs) p q e = other_tag 6 16 _ _ (omega arith) e
one_record (BatchDone a vs) (Checkpoint h i j o v w zs) p q e = other_tag 7 16 _ _ (omega arith) e
one_record (ActDone a m c f xs) (Checkpoint h i j o v w zs) p q e = other_tag 8 16 _ _ (omega arith) e
one_record (Checkpoint h i j o v w zs) (Genesis k ys) p q e = other_tag_down 16 1 _ _ (omega arith) e
one_record (Checkpoint h i j o v w zs) (BatchInfo b ys us) p q e = other_tag_down 16 2 _ _ (omega arith) e
one_record (Checkpoint h i j o v w zs) (BatchComplete b n y) p q e = other_tag_down 16 3 _ _ (omega arith) e
one_record (Checkpoint h i j o v w zs) (BatchCommit b) p q e = other_tag_down 16 4 _ _ (omega arith) e
one_record (Checkpoint h i j o v w zs) (ActPrepare b n y) p q e = other_tag_down 16 5 _ _ (omega arith) e
one_record (Checkpoint h i j o v w zs) (ActCommit b n d ys) p q e = other_tag_down 16 6 _ _ (omega arith) e
one_record (Checkpoint h i j o v w zs) (BatchDone b ws) p q e = other_tag_down 16 7 _ _ (omega arith) e
one_record (Checkpoint h i j o v w zs) (ActDone b n d g ys) p q e = other_tag_down 16 8 _ _ (omega arith) e
