-- A cascade: the batches from its first one on are taken along, and so are the live ACTs behind them.
use Rattle.std.specs.Prelude.{◌≡◌, refl, ℕ, zero, suc, ◌+◌, ◌-◌, ◌<◌, ◌≤◌, ◌==◌, nat_le, nat_lt, not, ◌&&◌, ◌||◌, Bool, true, false, if◌then◌else◌, Option, Some, None, is_some, option_map, List, [], ◌∷◌, ◌++◌, length, map, filter, take, drop, slice_get}
use Rattle.std.specs.List.{AllByRecursion}
use Rattle.std.proofs.Common.{arith, sym, ap, subst, ◌∙◌}
use Rattle.std.proofs.lemmas.Bool.{true≢false, and_from, eqb-true, le-leb}
use Rattle.std.proofs.lemmas.List.{append-nil, length-map, take-map}
use Rattle.std.proofs.lemmas.List.Elements.{filter-append}
use Rattle.std.proofs.lemmas.Option.{slice_get-map, slice_get_within}
use Rattle.snap_base.proofs.Booleans.{and_true, first_true, not_false, or_false, second_true}
use Rattle.snap_base.proofs.Lists.{all_map, all_push, each_found, get_mapped, weaker}
use Rattle.snap_base.specs.declared.ids.Bid.{Bid}
use Rattle.snap_base.specs.declared.transactions.Tx.{Tx}
use Rattle.protocol.specs.Events.{Abort}
use Rattle.protocol.specs.Fixed.{Text}
use Rattle.protocol.specs.OnRing.{Formed, cut}
use Rattle.protocol.specs.Parts.{OfAct, OfBatch}
use Rattle.protocol.specs.Words.{greatest, holds, is_among}
use Rattle.audit_words.specs.Happenings.{added, give_up, happened, may_abort, ring_after, taken_by, with_cut}
use Rattle.audit_words.specs.Seen.{Begun, Cut, Seen, Taken, batch_in, first_doom, has_its_place, was_formed, was_taken_along, was_given_up, is_live, is_one_of_these, next_c}
use Rattle.audit_tale.specs.Cutting.{CutsActs, CutsBatches, Falls, begins, cut_act, fall_now, least_below, marked_cut}
use Rattle.audit_tale.specs.Fitting.{FitsTale}
use Rattle.audit_tale.specs.Knows.{IsKept, Knows, TellsAct, TellsBatch, act_by, begun_of, bid_number, formed_of, member_of, owner_of}
use Rattle.audit_tale.specs.Stands.{IsSound, KnowsAll, Stands, TellsWay, actor_number, cuts_from}
use Rattle.audit_tale.specs.Touching.{AreEased, AreTouched, lives, where_touched}
use Rattle.audit_tale.specs.declared.tales.ActTale.{ActTale}
use Rattle.audit_tale.specs.declared.tales.Reason.TheVariants as reason
use Rattle.audit_tale.specs.declared.tales.Tale.{Tale}
use Rattle.audit_tale.specs.declared.told.BatchWay.{BatchWay}
use Rattle.audit_tale.specs.declared.told.Fall.{Fall}
use Rattle.audit_tale.specs.declared.told.Told.{Told}
use Rattle.audit_tale.proofs.CutOff.{Rises, among_filter, back_is, below_cut, bids_below, bids_rise, bids_there, cut_more, front_is, least_cut, least_kept, least_left, none_first, rises_filter, uncut_more}
use Rattle.audit_tale.proofs.MoreReasons.{doom_after, lives_is, ties_now, was_live}
use Rattle.audit_tale.proofs.Fitted.{formed_below}
use Rattle.audit_tale.proofs.Lowered.{kept_act, kept_actor}
use Rattle.audit_tale.proofs.Touched.{eased_along, other_there, touched_all, touched_along, touched_count, touched_map, was}

-- ---- an ACT

act_taken : (w : Text) (k : Bid) (i : ℕ) (s : Seen) (x : ActTale) → IsSound s → slice_get s.acts i ≡ Some (begun_of x) → TellsAct s x → TellsAct (with_cut w k.0 (give_up (taken_by k.0 s) s)) (cut_act k x)
act_taken w k i s x sound e h = by (lives x) refl
  where
    new : Seen
    new = with_cut w k.0 (give_up (taken_by k.0 s) s)

    t : ℕ
    t = x.tid.0

    doom : first_doom t new.dooms ≡ (if is_live s t && nat_le k.0 (greatest (s.before t)) then Some (record { tid = t; why = Taken k.0 }) else first_doom t s.dooms)
    doom = doom_after (λ y. is_live s y.tid && nat_le k.0 (greatest (s.before y.tid))) (λ y. record { tid = y.tid; why = Taken k.0 }) s i (begun_of x) sound.drawn (λ y. refl) e (λ q. first_true (is_live s t) (nat_le k.0 (greatest (s.before t))) q)

    by : (l : Bool) → lives x ≡ l → TellsAct new (if l then (if nat_le k.0 x.before.0 then record x { given_up = Some (reason.Taken k) } else record x { behind = least_below k x.behind }) else x)
    by false l =
        let dead : is_live s t ≡ false = sym (lives_is s x h) ∙ l in
        kept_act s new x refl refl (doom ∙ ap (λ (b : Bool). if b && nat_le k.0 (greatest (s.before t)) then Some (record { tid = t; why = Taken k.0 }) else first_doom t s.dooms) dead) (λ live. absurd (true≢false (sym live ∙ dead))) h
    by true l = go (nat_le k.0 x.before.0) refl
      where
        live : is_live s t ≡ true
        live = sym (lives_is s x h) ∙ l

        now : first_doom t new.dooms ≡ (if nat_le k.0 x.before.0 then Some (record { tid = t; why = Taken k.0 }) else first_doom t s.dooms)
        now =
            doom ∙ (ap (λ (b : Bool). if b && nat_le k.0 (greatest (s.before t)) then Some (record { tid = t; why = Taken k.0 }) else first_doom t s.dooms) live
            ∙ ap (λ (j : ℕ). if nat_le k.0 j then Some (record { tid = t; why = Taken k.0 }) else first_doom t s.dooms) (sym h.before))

        go : (b : Bool) → nat_le k.0 x.before.0 ≡ b → TellsAct new (if b then record x { given_up = Some (reason.Taken k) } else record x { behind = least_below k x.behind })
        go true q =
            let given : first_doom t new.dooms ≡ Some (record { tid = t; why = Taken k.0 }) = now ∙ ap (λ (b : Bool). if b then Some (record { tid = t; why = Taken k.0 }) else first_doom t s.dooms) q in
            record {
              before = h.before;
              behind = λ r. absurd (true≢false (sym (ap is_some given) ∙ not_false (was_given_up new.dooms t) (first_true (not (was_given_up new.dooms t)) (not (has_its_place (OfAct t) s.members)) r)));
              given_up = sym (ap (option_map (λ d. d.why)) given);
              decided = h.decided;
            }
        go false q = record {
          before = h.before;
          behind = λ r. least_kept k x.behind ∙ (ap (least_cut k.0) (h.behind live) ∙ sym (least_left k.0 s.ring.next_bid (s.behind t) (sound.steady.behind t)));
          given_up = h.given_up ∙ ap (option_map (λ d. d.why)) (sym (now ∙ ap (λ (b : Bool). if b then Some (record { tid = t; why = Taken k.0 }) else first_doom t s.dooms) q));
          decided = h.decided;
        }

-- ---- a batch

way_cut : (j k : ℕ) (f : Fall) (s new : Seen) (g : Bool) (x : BatchWay) → new.placed ≡ s.placed → new.cuts ≡ s.cuts ++ record { first = k; upto = f.upto.0; at = f.at } ∷ [] → g ≡ (not (was_taken_along j s.cuts) && nat_le k j) → j ≤ f.upto.0
    → AllByRecursion (λ c. c.first ≤ c.upto) s.cuts → was_taken_along k s.cuts ≡ false → TellsWay s j x → TellsWay new j (where_touched (begins f) (k == j) (where_touched marked_cut g x))
way_cut j k f s new g x p c is l fits uncut h = record {
  came = λ a. ap (λ cs. is_among a (map actor_number cs)) (came (k == j) g) ∙ (h.came a ∙ ap (λ q. is_one_of_these (OfBatch j) (q a)) (sym p));
  is_cut = cut_kept (k == j) (where_touched marked_cut g x) ∙ (cut_now g ∙ (over (was_taken_along j s.cuts) g h.is_cut is ∙ sym (ap (was_taken_along j) c ∙ (cut_more j here s.cuts ∙ ap (λ (b : Bool). was_taken_along j s.cuts || (nat_le k j && b)) (le-leb j f.upto.0 l)))));
  fall = by (k == j) refl ∙ sym (ap (filter (λ c. c.first == j)) c ∙ filter-append (λ c. c.first == j) s.cuts (here ∷ []));
}
  where
    here : Cut
    here = record { first = k; upto = f.upto.0; at = f.at }

    came : (b d : Bool) → (where_touched (begins f) b (where_touched marked_cut d x)).came.items ≡ x.came.items
    came true true = refl
    came true false = refl
    came false true = refl
    came false false = refl

    cut_kept : (b : Bool) (z : BatchWay) → (where_touched (begins f) b z).is_cut ≡ z.is_cut
    cut_kept true z = refl
    cut_kept false z = refl

    cut_now : (d : Bool) → (where_touched marked_cut d x).is_cut ≡ (d || x.is_cut)
    cut_now true = refl
    cut_now false = refl

    fall_kept : (d : Bool) → (where_touched marked_cut d x).fall ≡ x.fall
    fall_kept true = refl
    fall_kept false = refl

    over : (q d : Bool) → x.is_cut ≡ q → d ≡ (not q && nat_le k j) → (d || x.is_cut) ≡ (q || (nat_le k j && true))
    over true d e r = ap (λ (b : Bool). d || b) e ∙ (ap (λ (b : Bool). b || true) r)
    over false d e r = ap (λ (b : Bool). d || b) e ∙ (or_false d ∙ (r ∙ sym (and_true (nat_le k j))))

    by : (b : Bool) → (k == j) ≡ b → cuts_from j (where_touched (begins f) b (where_touched marked_cut g x)).fall ≡ filter (λ c. c.first == j) s.cuts ++ (if b then here ∷ [] else [])
    by true q =
        let same : k ≡ j = eqb-true k j q in
        ap (λ (i : ℕ). record { first = i; upto = f.upto.0; at = f.at } ∷ []) (sym same)
        ∙ ap (λ cs. cs ++ here ∷ []) (sym (none_first j s.cuts fits (subst (λ (i : ℕ). was_taken_along i s.cuts ≡ false) same uncut)))
    by false q = ap (cuts_from j) (fall_kept g) ∙ (h.fall ∙ sym (append-nil (filter (λ c. c.first == j) s.cuts)))

map_drop : {X Y : Type 0} (f : X → Y) (n : ℕ) (xs : List X) → map f (drop n xs) ≡ drop n (map f xs)
map_drop f zero xs = refl
map_drop f (suc n) [] = refl
map_drop f (suc n) (x ∷ xs) = map_drop f n xs

-- ---- all that is told

pub taken_known : (w : Text) (k : Bid) (t m n o : Told) (s : Seen) → IsSound s → FitsTale w s → KnowsAll w t s → may_abort k.0 s ≡ true → 1 ≤ k.0 → CutsBatches k t m → Falls k m n → CutsActs k n o → KnowsAll w o (with_cut w k.0 (give_up (taken_by k.0 s) s))
taken_known w k t m n o s sound fits h may one c d a = record { names = names; stands = stands }
  where
    after : Seen
    after = with_cut w k.0 (give_up (taken_by k.0 s) s)

    open_is : was_taken_along k.0 s.cuts ≡ false
    open_is = not_false (was_taken_along k.0 s.cuts) (second_true (was_formed k.0 s) (not (was_taken_along k.0 s.cuts)) may)

    below_next : k.0 < s.ring.next_bid
    below_next = formed_below k.0 s sound.drawn (first_true (was_formed k.0 s) (not (was_taken_along k.0 s.cuts)) may)

    -- what is as it was
    tale_m : m.tale ≡ t.tale
    tale_m = ap (λ (x : Told). x.tale) c.rest

    tale_n : n.tale ≡ t.tale
    tale_n = ap (λ (x : Told). x.tale) d.rest ∙ tale_m

    tale : o.tale ≡ record t.tale { acts = o.tale.acts }
    tale = ap (λ (x : Told). x.tale) a.rest ∙ ap (λ (q : Tale). record q { acts = o.tale.acts }) tale_n

    actors_same : o.actors.items ≡ t.actors.items
    actors_same = ap (λ (x : Told). x.actors.items) a.rest ∙ (ap (λ (x : Told). x.actors.items) d.rest ∙ ap (λ (x : Told). x.actors.items) c.rest)

    acts_n : n.tale.acts.items ≡ t.tale.acts.items
    acts_n = ap (λ (q : Tale). q.acts.items) tale_n

    going_n : n.going.items ≡ t.going.items
    going_n = ap (λ (x : Told). x.going.items) d.rest ∙ ap (λ (x : Told). x.going.items) c.rest

    ties_n : n.ties.items ≡ t.ties.items
    ties_n = ap (λ (x : Told). x.ties.items) d.rest ∙ ap (λ (x : Told). x.ties.items) c.rest

    among : List ℕ → ℕ → Bool
    among ns i = is_among i ns

    cut_acts : AreTouched (cut_act k) (λ i. is_among i t.going.items) t.tale.acts.items o.tale.acts.items
    cut_acts = touched_along (cut_act k) _ _ _ _ _ _ (ap among going_n) acts_n refl a.acts

    eased : AreEased (λ i. is_among i t.going.items) o.tale.acts.items t.ties.items o.ties.items
    eased = eased_along _ _ _ _ _ _ _ _ (ap among going_n) refl ties_n refl a.ties

    -- ---- the ACTs

    begun_there : (i : ℕ) (y : ActTale) → slice_get t.tale.acts.items i ≡ Some y → slice_get s.acts i ≡ Some (begun_of y)
    begun_there i y e = ap (λ ys. slice_get ys i) (sym h.names.acts) ∙ get_mapped begun_of t.tale.acts.items i y e

    -- who is not in the list is not live
    reached : (i : ℕ) (y : ActTale) → slice_get t.tale.acts.items i ≡ Some y → TellsAct s y → where_touched (cut_act k) (is_among i t.going.items) y ≡ cut_act k y
    reached i y e g = by (is_among i t.going.items) refl (lives y) refl
      where
        by : (b : Bool) → is_among i t.going.items ≡ b → (l : Bool) → lives y ≡ l → where_touched (cut_act k) b y ≡ (if lives y then (if nat_le k.0 y.before.0 then record y { given_up = Some (reason.Taken k) } else record y { behind = least_below k y.behind }) else y)
        by true q l r = refl
        by false q true r = absurd (true≢false (sym (h.stands.going i (begun_of y) (begun_there i y e) (sym (lives_is s y g) ∙ r)) ∙ q))
        by false q false r = sym (ap (λ (l : Bool). if l then (if nat_le k.0 y.before.0 then record y { given_up = Some (reason.Taken k) } else record y { behind = least_below k y.behind }) else y) r)

    acts_now : AllByRecursion (TellsAct after) o.tale.acts.items
    acts_now = touched_all (TellsAct s) (TellsAct after) (cut_act k) (λ i. is_among i t.going.items) t.tale.acts.items o.tale.acts.items cut_acts
        (λ i y e g. subst (TellsAct after) (sym (reached i y e g)) (act_taken w k i s y sound (begun_there i y e) g)) h.names.ends

    begun_kept : (y : ActTale) → begun_of (cut_act k y) ≡ begun_of y
    begun_kept y = by (lives y) (nat_le k.0 y.before.0)
      where
        by : (l b : Bool) → begun_of (if l then (if b then record y { given_up = Some (reason.Taken k) } else record y { behind = least_below k y.behind }) else y) ≡ begun_of y
        by true true = refl
        by true false = refl
        by false b = refl

    begun_same : map begun_of o.tale.acts.items ≡ s.acts
    begun_same = touched_map begun_of (cut_act k) (λ i. is_among i t.going.items) t.tale.acts.items o.tale.acts.items begun_kept cut_acts ∙ h.names.acts

    names : Knows w o.tale after
    names = record {
      ring = ap (λ (q : Tale). q.ring) tale ∙ h.names.ring;
      batches = ap (λ (q : Tale). map formed_of q.batches.items) tale ∙ h.names.batches;
      marks = subst (λ (q : Tale). AllByRecursion (TellsBatch after) q.batches.items) (sym tale) (weaker (TellsBatch s) (TellsBatch after) t.tale.batches.items (λ b x. record { committed = x.committed; settled = x.settled }) h.names.marks);
      acts = begun_same;
      ends = acts_now;
      owners = λ j. h.names.owners j ∙ ap (λ (q : Tale). act_by (owner_of j q.owners.items) s.acts) (sym tale);
      kept = subst (λ (q : Tale). AllByRecursion (IsKept (length s.acts)) q.owners.items) (sym tale) h.names.kept;
      drawn = h.names.drawn ∙ ap (λ (q : Tale). length q.owners.items + 1) (sym tale);
      members = ap (λ (q : Tale). map member_of q.members.items) tale ∙ h.names.members;
      settled = ap (λ (q : Tale). q.settled) tale ∙ h.names.settled;
      number = ap (λ (q : Tale). q.next_c) tale ∙ h.names.number;
    }

    -- ---- the batches

    bids : List ℕ
    bids = map (λ b. b.bid) s.batches

    uncut_numbers : List ℕ
    uncut_numbers = map bid_number t.uncut.items

    rises : AllByRecursion (λ x. x < k.0) (take c.left uncut_numbers)
    rises = below_cut k.0 1 c.left uncut_numbers (subst (Rises 1) (sym h.stands.uncut) (rises_filter (λ j. not (was_taken_along j s.cuts)) 1 bids (bids_rise 1 s.batches sound.drawn.batches)))
        (omega (arith, c.cut.within, length-map t.uncut.items bid_number)) (λ b l e. last b l (slice_get t.uncut.items (c.left - 1)) refl (sym (slice_get-map bid_number t.uncut.items (c.left - 1)) ∙ e))
      where
        last : (b : ℕ) → 0 < c.left → (x : Option Bid) → slice_get t.uncut.items (c.left - 1) ≡ x → option_map bid_number x ≡ Some b → b < k.0
        last b l None q e = absurd (cc e)
        last b l (Some x) q e = let is : x.0 ≡ b = cc e in omega (arith, is, c.cut.last x l q)

    from : AllByRecursion (λ x. k.0 ≤ x) (drop c.left uncut_numbers)
    from = subst (AllByRecursion (λ x. k.0 ≤ x)) (map_drop bid_number c.left t.uncut.items) (all_map bid_number (λ x. k.0 ≤ x) (drop c.left t.uncut.items) c.cut.from)

    many : length t.tale.batches.items ≡ length s.batches
    many = sym (length-map t.tale.batches.items formed_of) ∙ ap length h.names.batches

    fall : Fall
    fall = fall_now m.tale

    upto_is : fall.upto.0 ≡ length s.batches
    upto_is = ap (λ (q : Tale). length q.batches.items) tale_m ∙ many

    cuts_are : after.cuts ≡ s.cuts ++ record { first = k.0; upto = fall.upto.0; at = fall.at } ∷ []
    cuts_are =
        let last : s.ring.next_bid - 1 ≡ fall.upto.0 = omega (arith, sound.drawn.next_bid, upto_is) in
        let number : next_c w s ≡ fall.at = sym (ap (λ (q : Tale). q.next_c) tale_m ∙ h.names.number) in
        ap (λ (u : ℕ). s.cuts ++ record { first = k.0; upto = u; at = next_c w s } ∷ []) last ∙ ap (λ (u : ℕ). s.cuts ++ record { first = k.0; upto = fall.upto.0; at = u } ∷ []) number

    way_now : (i : ℕ) (y : BatchWay) → slice_get o.ways.items i ≡ Some y → TellsWay after (i + 1) y
    way_now i y e =
        subst (TellsWay after (i + 1)) (ap (where_touched (begins fall) (k.0 == i + 1)) x.2 ∙ z.2)
        (way_cut (i + 1) k.0 fall s after gone x.0 refl cuts_are gone_is (omega (arith, slice_get_within t.ways.items i x.0 x.1, h.stands.batches, upto_is)) fits.cuts open_is (h.stands.ways i x.0 x.1))
      where
        gone : Bool
        gone = is_among (i + 1) (map bid_number (drop c.left t.uncut.items))

        z : (v : BatchWay) × (slice_get m.ways.items i ≡ Some v) × (where_touched (begins fall) (k.0 == i + 1) v ≡ y)
        z = was (where_touched (begins fall) (k.0 == i + 1)) (slice_get m.ways.items i) y (sym (d.ways i) ∙ (ap (λ (q : Told). slice_get q.ways.items i) (sym a.rest) ∙ e))

        x : (v : BatchWay) × (slice_get t.ways.items i ≡ Some v) × (where_touched marked_cut gone v ≡ z.0)
        x = was (where_touched marked_cut gone) (slice_get t.ways.items i) z.0 (sym (c.ways i) ∙ z.1)

        formed_is : is_among (i + 1) bids ≡ true
        formed_is = let same : i + 1 ≡ 1 + i = omega arith in ap (λ (j : ℕ). is_among j bids) same ∙ bids_there 1 i s.batches sound.drawn.batches (omega (arith, slice_get_within t.ways.items i x.0 x.1, h.stands.batches))

        gone_is : gone ≡ (not (was_taken_along (i + 1) s.cuts) && nat_le k.0 (i + 1))
        gone_is =
            ap (is_among (i + 1)) (map_drop bid_number c.left t.uncut.items)
            ∙ (back_is k.0 c.left (i + 1) uncut_numbers rises from
            ∙ (ap (λ ns. is_among (i + 1) ns && nat_le k.0 (i + 1)) h.stands.uncut
            ∙ (ap (λ (b : Bool). b && nat_le k.0 (i + 1)) (among_filter (λ j. not (was_taken_along j s.cuts)) (i + 1) bids) ∙ ap (λ (b : Bool). (b && not (was_taken_along (i + 1) s.cuts)) && nat_le k.0 (i + 1)) formed_is)))

    uncut_now : map bid_number o.uncut.items ≡ filter (λ j. not (was_taken_along j after.cuts)) bids
    uncut_now =
        ap (λ (q : Told). map bid_number q.uncut.items) a.rest ∙ (ap (λ (q : Told). map bid_number q.uncut.items) d.rest
        ∙ (ap (map bid_number) c.uncut ∙ (sym (take-map bid_number c.left t.uncut.items) ∙ (front_is k.0 c.left uncut_numbers rises from ∙ (ap (filter (λ j. nat_lt j k.0)) h.stands.uncut
        ∙ sym (uncut_more (record { first = k.0; upto = s.ring.next_bid - 1; at = next_c w s }) s.cuts bids
        (weaker (λ j. j < 1 + length s.batches) (λ j. j ≤ s.ring.next_bid - 1) bids (λ j l. omega (arith, l, sound.drawn.next_bid)) (bids_below 1 s.batches sound.drawn.batches))))))))

    ways_many : length o.ways.items ≡ length t.ways.items
    ways_many = ap (λ (q : Told). length q.ways.items) a.rest ∙ (touched_count (begins fall) (λ i. k.0 == i + 1) m.ways.items n.ways.items d.ways ∙ touched_count marked_cut (λ i. is_among (i + 1) (map bid_number (drop c.left t.uncut.items))) t.ways.items m.ways.items c.ways)

    -- ---- who is live

    going_now : (i : ℕ) (b : Begun) → slice_get s.acts i ≡ Some b → is_live after b.tid ≡ true → is_among i o.going.items ≡ true
    going_now i b e l = ap (is_among i) a.going ∙ (among_filter (λ j. holds lives (slice_get o.tale.acts.items j)) i n.going.items ∙ and_from _ _ listed living)
      where
        listed : is_among i n.going.items ≡ true
        listed = ap (is_among i) going_n ∙ h.stands.going i b e (was_live s after (taken_by k.0 s) b.tid refl refl l)

        act : (y : ActTale) × (slice_get o.tale.acts.items i ≡ Some y)
        act = other_there s.acts o.tale.acts.items i b (sym (length-map o.tale.acts.items begun_of) ∙ ap length begun_same) e

        begun_now : slice_get s.acts i ≡ Some (begun_of act.0)
        begun_now = ap (λ ys. slice_get ys i) (sym begun_same) ∙ get_mapped begun_of o.tale.acts.items i act.0 act.1

        is : begun_of act.0 ≡ b
        is = cc (begun_now, e)

        living : holds lives (slice_get o.tale.acts.items i) ≡ true
        living = ap (holds lives) act.1 ∙ (lives_is after act.0 (each_found (TellsAct after) o.tale.acts.items i act.0 act.1 acts_now) ∙ (ap (λ (x : Begun). is_live after x.tid) is ∙ l))

    stands : Stands w o after
    stands = record {
      count = ap length actors_same ∙ h.stands.count;
      actors = λ b y e. kept_actor b s after y refl refl refl refl refl refl (h.stands.actors b y (ap (λ xs. slice_get xs b) (sym actors_same) ∙ e));
      nobody = λ b l. h.stands.nobody b (omega (arith, l, ap length actors_same));
      batches = ways_many ∙ h.stands.batches;
      ways = way_now;
      cuts = all_push (λ x. (1 ≤ x.first) × (x.first < s.ring.next_bid)) s.cuts _ h.stands.cuts (one, below_next);
      uncut = uncut_now;
      acts = eased.count ∙ h.stands.acts;
      ties = ties_now w (cut_act k) (λ i. is_among i t.going.items) t o.tale.acts.items o.ties.items s after (λ y. ap (λ (x : Begun). x.tid) (begun_kept y)) h sound.steady.pairs cut_acts acts_now eased refl refl;
      going = going_now;
    }

-- ---- whether there is a cascade

pub may_is : (k : ℕ) (s : Seen) (f : Formed) (x : BatchWay) → batch_in k s.batches ≡ Some f → TellsWay s k x → not x.is_cut ≡ may_abort k s
may_is k s f x e h = ap not h.is_cut ∙ ap (λ (o : Option Formed). is_some o && not (was_taken_along k s.cuts)) (sym e)

pub none_aborts : (k : ℕ) (s : Seen) → batch_in k s.batches ≡ None → may_abort k s ≡ false
none_aborts k s e = ap (λ (o : Option Formed). is_some o && not (was_taken_along k s.cuts)) e

-- ---- the ring is cut

pub ring_cut : (w : Text) (t new : Told) (s : Seen) → new ≡ record t { tale = record t.tale { ring = cut t.tale.ring } } → KnowsAll w t s → KnowsAll w new (record s { ring = cut s.ring })
ring_cut w t new s e h = subst (λ (x : Told). KnowsAll w x after) (sym e) (record { names = names; stands = stands })
  where
    after : Seen
    after = record s { ring = cut s.ring }

    names : Knows w (record t.tale { ring = cut t.tale.ring }) after
    names = record {
      ring = ap cut h.names.ring;
      batches = h.names.batches;
      marks = weaker (TellsBatch s) (TellsBatch after) t.tale.batches.items (λ b x. record { committed = x.committed; settled = x.settled }) h.names.marks;
      acts = h.names.acts;
      ends = weaker (TellsAct s) (TellsAct after) t.tale.acts.items (λ y x. record { before = x.before; behind = x.behind; given_up = x.given_up; decided = x.decided }) h.names.ends;
      owners = h.names.owners;
      kept = h.names.kept;
      drawn = h.names.drawn;
      members = h.names.members;
      settled = h.names.settled;
      number = h.names.number;
    }

    stands : Stands w (record t { tale = record t.tale { ring = cut t.tale.ring } }) after
    stands = record {
      count = h.stands.count;
      actors = λ b y q. kept_actor b s after y refl refl refl refl refl refl (h.stands.actors b y q);
      nobody = h.stands.nobody;
      batches = h.stands.batches;
      ways = λ i y q. let x = h.stands.ways i y q in record { came = x.came; is_cut = x.is_cut; fall = x.fall };
      cuts = h.stands.cuts;
      uncut = h.stands.uncut;
      acts = h.stands.acts;
      ties = λ i y b q r. let x = h.stands.ties i y b q r in record { waiters = x.waiters; left = x.left };
      going = h.stands.going;
    }

-- ---- the event

abort_seen : (reads : Tx → Bool) (w : Text) (k : ℕ) (s : Seen) → may_abort k s ≡ true → happened reads w (Abort k) s ≡ record (with_cut w k (give_up (taken_by k s) s)) { ring = cut s.ring }
unfolding added ring_after
abort_seen reads w k s e = ap (λ (b : Bool). record (if b then with_cut w k (give_up (taken_by k s) s) else s) { ring = cut s.ring }) e

abort_left : (reads : Tx → Bool) (w : Text) (k : ℕ) (s : Seen) → may_abort k s ≡ false → happened reads w (Abort k) s ≡ record s { ring = cut s.ring }
unfolding added ring_after
abort_left reads w k s e = ap (λ (b : Bool). record (if b then with_cut w k (give_up (taken_by k s) s) else s) { ring = cut s.ring }) e

pub nothing_aborts : (reads : Tx → Bool) (w : Text) (k : ℕ) (t new : Told) (s : Seen) → may_abort k s ≡ false → new ≡ record t { tale = record t.tale { ring = cut t.tale.ring } } → KnowsAll w t s → KnowsAll w new (happened reads w (Abort k) s)
nothing_aborts reads w k t new s e q h = subst (KnowsAll w new) (sym (abort_left reads w k s e)) (ring_cut w t new s q h)

pub aborted_known : (reads : Tx → Bool) (w : Text) (k : Bid) (t m n o new : Told) (s : Seen) → IsSound s → FitsTale w s → KnowsAll w t s → may_abort k.0 s ≡ true → 1 ≤ k.0 → CutsBatches k t m → Falls k m n → CutsActs k n o
    → new ≡ record o { tale = record o.tale { ring = cut o.tale.ring } } → KnowsAll w new (happened reads w (Abort k.0) s)
aborted_known reads w k t m n o new s sound fits h may one c d a q = subst (KnowsAll w new) (sym (abort_seen reads w k.0 s may)) (ring_cut w o new (with_cut w k.0 (give_up (taken_by k.0 s) s)) q (taken_known w k t m n o s sound fits h may one c d a))
