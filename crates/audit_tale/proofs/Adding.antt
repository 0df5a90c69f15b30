-- What the events Submit, Pass, Form and Admit, and Commit, Settle and Decide, add to all that is known.
use Rattle.std.specs.Prelude.{◌≡◌, refl, ℕ, Bool, true, false, MatchBool, [], ◌∷◌, length}
use Rattle.std.proofs.Common.{sym, ap, subst, ◌∙◌}
use Rattle.std.proofs.lemmas.Bool.{eqb-true}
use Rattle.std.proofs.lemmas.List.{length-map}
use Rattle.snap_base.specs.declared.ids.Bid.{Bid}
use Rattle.snap_base.specs.declared.transactions.Tx.{Tx}
use Rattle.protocol.specs.Conditions.{AllTrue}
use Rattle.protocol.specs.Events.{Submit, Pass, Form, Admit}
use Rattle.protocol.specs.Fixed.{Text, base, tx_at}
use Rattle.protocol.specs.OnPost.{next_act}
use Rattle.protocol.specs.OnRing.{admitted, formed, passed, planned, submitted}
use Rattle.protocol.specs.Parts.{Ring}
use Rattle.audit_words.specs.Audited.{ring_conditions}
use Rattle.audit_words.specs.Happenings.{added, happened, ring_after}
use Rattle.audit_words.specs.Seen.{Seen}
use Rattle.audit_tale.specs.declared.tales.Tale.{Tale}
use Rattle.audit_tale.specs.declared.told.ActTies.{ActTies}
use Rattle.audit_tale.specs.declared.told.BatchWay.{BatchWay}
use Rattle.audit_tale.specs.declared.told.Told.{Told}
use Rattle.audit_tale.specs.Knows.{Knows, begun_of}
use Rattle.audit_tale.specs.Stands.{IsSound, KnowsAll, Stands}
use Rattle.audit_tale.proofs.Beginning.{admit_seen, ends_same, form_seen, marks_kept}
use Rattle.audit_tale.proofs.Framing.{AddsTies, AddsWay, AreFreshTies, IsFreshWay, pass_leaves, stands_admitted, stands_formed, stands_left, submit_leaves}

-- ---- the ring alone

ring_known : (w : Text) (t : Tale) (r q : Ring) (s : Seen) → r ≡ q → q.next_tid ≡ s.ring.next_tid → Knows w t s → Knows w (record t { ring = r }) (record s { ring = q })
ring_known w t r q s e n h = record {
  ring = e;
  batches = h.batches;
  marks = marks_kept s (record s { ring = q }) t.batches.items refl refl h.marks;
  acts = h.acts;
  ends = ends_same s (record s { ring = q }) t.acts.items refl refl refl refl h.ends;
  owners = h.owners;
  kept = h.kept;
  drawn = n ∙ h.drawn;
  members = h.members;
  settled = h.settled;
  number = h.number;
}

pub submitted_known : (reads : Tx → Bool) (w : Text) (n : ℕ) (yes : Bool) (t : Told) (r : Ring) (s : Seen) → KnowsAll w t s → MatchBool yes (AllTrue (ring_conditions w (Submit n) t.tale.ring) × (r ≡ ring_after w (Submit n) t.tale.ring)) (¬ AllTrue (ring_conditions w (Submit n) t.tale.ring))
    → MatchBool yes (AllTrue (ring_conditions w (Submit n) s.ring) × KnowsAll w (record t { tale = record t.tale { ring = r } }) (happened reads w (Submit n) s)) (¬ AllTrue (ring_conditions w (Submit n) s.ring))
unfolding added ring_after
submitted_known reads w n true t r s h k = (
  subst (λ (q : Ring). AllTrue (ring_conditions w (Submit n) q)) h.names.ring k.0,
  record {
    names = ring_known w t.tale r (submitted w n s.ring) s (k.1 ∙ ap (submitted w n) h.names.ring) refl h.names;
    stands = stands_left w t (record t.tale { ring = r }) s (happened reads w (Submit n) s) (submit_leaves reads w n s) h.stands;
  },
)
submitted_known reads w n false t r s h k = subst (λ (q : Ring). ¬ AllTrue (ring_conditions w (Submit n) q)) h.names.ring k

pub passed_known : (reads : Tx → Bool) (w : Text) (c : ℕ) (yes : Bool) (t : Told) (r : Ring) (s : Seen) → KnowsAll w t s → MatchBool yes (AllTrue (ring_conditions w (Pass c) t.tale.ring) × (r ≡ ring_after w (Pass c) t.tale.ring)) (¬ AllTrue (ring_conditions w (Pass c) t.tale.ring))
    → MatchBool yes (AllTrue (ring_conditions w (Pass c) s.ring) × KnowsAll w (record t { tale = record t.tale { ring = r } }) (happened reads w (Pass c) s)) (¬ AllTrue (ring_conditions w (Pass c) s.ring))
unfolding added ring_after
passed_known reads w c true t r s h k = (
  subst (λ (q : Ring). AllTrue (ring_conditions w (Pass c) q)) h.names.ring k.0,
  record {
    names = ring_known w t.tale r (passed c s.ring) s (k.1 ∙ ap (passed c) h.names.ring) refl h.names;
    stands = stands_left w t (record t.tale { ring = r }) s (happened reads w (Pass c) s) (pass_leaves reads w c s) h.stands;
  },
)
passed_known reads w c false t r s h k = subst (λ (q : Ring). ¬ AllTrue (ring_conditions w (Pass c) q)) h.names.ring k

-- ---- a batch or an ACT begins

pub formed_stands : (reads : Tx → Bool) (w : Text) (k : Bid) (t new : Told) (x : BatchWay) (s : Seen) → IsSound s → KnowsAll w t s → AllTrue (ring_conditions w (Form k.0) s.ring) → Knows w new.tale (happened reads w (Form k.0) s) → IsFreshWay x → AddsWay k x t new
    → KnowsAll w new (happened reads w (Form k.0) s)
formed_stands reads w k t new x s sound h met names fresh c =
    let same : k.0 ≡ s.ring.next_bid = eqb-true k.0 s.ring.next_bid met.0 in
    record {
      names = names;
      stands = subst (Stands w new) (sym (form_seen reads w k.0 s)) (stands_formed w t new (formed (planned w k.0 s.ring) w.batch s.ring) (planned w k.0 s.ring) k x s sound refl same same fresh c h.stands);
    }

pub admitted_stands : (reads : Tx → Bool) (w : Text) (n at : ℕ) (t new : Told) (x : ActTies) (s : Seen) → IsSound s → KnowsAll w t s → AllTrue (ring_conditions w (Admit n) s.ring) → Knows w new.tale (happened reads w (Admit n) s) → at ≡ length t.tale.acts.items
    → AreFreshTies x → AddsTies at x t new → KnowsAll w new (happened reads w (Admit n) s)
admitted_stands reads w n at t new x s sound h met names many fresh c =
    let here : at ≡ length s.acts = many ∙ (sym (length-map t.tale.acts.items begun_of) ∙ ap length h.names.acts) in
    record {
      names = names;
      stands = subst (Stands w new) (sym (admit_seen reads w n s))
          (stands_admitted w t new (admitted s.ring) (record { tid = n; tx = next_act s.ring; reader = reads (tx_at w (next_act s.ring)) }) x (base w ∷ []) [] s sound refl (eqb-true n s.ring.next_tid met.0) fresh (subst (λ (i : ℕ). AddsTies i x t new) here c) h.stands);
    }
