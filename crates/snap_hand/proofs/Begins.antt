-- Form and Admit on a hand: the parts that they take out, and what is put back.
use Rattle.std.proofs.Common.{◌≡◌, ℕ, ◌<◌, ◌%◌, Some, None, Result, OnOk, OnErr, IfErr, length, slice_get, slice_set, refl, sym, ap, subst, ◌∙◌}
use Rattle.std.proofs.Math.Nat.{mod-lt}
use Rattle.aml_slice.specs.Controls.{Rest}
use Rattle.core_rows.specs.book_part.Halves.{Halves}
use Rattle.core_rows.specs.Showing.{ShowsBook, ShowsDesk, ShowsLogAt, ShowsRing}
use Rattle.core_rows.specs.Taken.{IsNo, IsTaken}
use Rattle.core_rows.specs.declared.step_no.StepNo.{StepNo}
use Rattle.core_rows.specs.log_set.Logs.{LogList, PendingState}
use Rattle.protocol.specs.Effects.{after}
use Rattle.protocol.specs.Events.{Form, Admit, log}
use Rattle.protocol.specs.Fixed.{Fixed, IsText}
use Rattle.protocol.specs.Parts.{Ring, Post, Desk, Machine}
use Rattle.snap_hand.specs.Hands.{Parts, Fits, IsHandOf, Has, are_there}
use Rattle.snap_hand.specs.Steps.{IsStep}
use Rattle.snap_hand.proofs.Held.{log_there}
use Rattle.snap_hand.proofs.Refits.{ring_back, book_back, post_back, desk_back, log_back, same_back, hand_with_ring, hand_with_book, hand_with_post, hand_with_desk, hand_with_log, there_with_ring, there_with_book, there_with_post, there_with_desk, there_with_log}
use Rattle.snap_hand.proofs.Stepping.{stepped}

-- ---- the log of a batch

pub log_is_in : (w : Fixed Rest) (h : Parts) (n l : ℕ) → IsText w.text → IsHandOf w h → l ≡ n % w.text.logs → l < length h.logs
log_is_in w h n l t i e = subst (λ m. l < m) (sym i.logs) (subst (λ m. m < w.text.logs) (sym e) (mod-lt n t.some_logs))

pub log_is_there : (w : Fixed Rest) (h : Parts) (n l : ℕ) → IsText w.text → IsHandOf w h → l ≡ n % w.text.logs → Has h (log (n % w.text.logs)) → (x : LogList) × (slice_get h.logs l ≡ Some (Some x))
log_is_there w h n l t i e has = log_there h l (subst (λ m. Has h (log m)) (sym e) has) (log_is_in w h n l t i e)

-- ---- Form

abbrev pub formed : Parts → ℕ → Ring → Post Rest → Desk → LogList → Parts
formed h l r p d x = record h { ring = Some r; post = Some p; desk = Some d; logs = slice_set (slice_set h.logs l None) l (Some x) }

formed_same : (h : Parts) (l : ℕ) (r r2 : Ring) (p p2 : Post Rest) (d d2 : Desk) (x x2 : LogList)
    → h.ring ≡ Some r → h.post ≡ Some p → h.desk ≡ Some d → slice_get h.logs l ≡ Some (Some x)
    → r2 ≡ r → p2 ≡ p → d2 ≡ d → x2 ≡ x → formed h l r2 p2 d2 x2 ≡ h
formed_same h l r r2 p p2 d d2 x x2 ring post desk there same_r same_p same_d same_x =
    ap (λ z. formed h l z p2 d2 x2) same_r
    ∙ (ap (λ z. formed h l r z d2 x2) same_p
    ∙ (ap (λ z. formed h l r p z x2) same_d
    ∙ (ap (λ z. formed h l r p d z) same_x
    ∙ (ap (λ ls. record h { ring = Some r; post = Some p; desk = Some d; logs = ls }) (same_back h.logs l (Some x) None there)
    ∙ (ap (λ o. record h { ring = o; post = Some p; desk = Some d }) (sym ring)
    ∙ (ap (λ o. record h { post = o; desk = Some d }) (sym post)
    ∙ ap (λ o. record h { desk = o }) (sym desk)))))))

pub form_stepped : (w : Fixed Rest) (h new : Parts) (k l : ℕ) (r r2 : Ring) (p p2 : Post Rest) (d d2 : Desk) (x x2 : PendingState) (Old : Fixed Rest → Machine Rest → Type 0) (res : Result (Unit {0}) StepNo)
    → IsHandOf w h → l ≡ k % w.text.logs
    → h.ring ≡ Some r → h.post ≡ Some p → h.desk ≡ Some d → slice_get h.logs l ≡ Some (Some x.log)
    → ((s : Machine Rest) → Fits h s → Old w s)
    → new ≡ formed h l r2 p2 d2 x2.log
    → OnOk res (IsTaken {C = Rest} (Form k) Old (λ v s. ShowsRing r2 s × (s.post ≡ p2) × ShowsDesk d2 s × ShowsLogAt (k % v.text.logs) x2 s))
    → IfErr res (IsNo {C = Rest} (Form k) Old)
    → OnErr res ((r2 ≡ r) × (p2 ≡ p) × (d2 ≡ d) × (x2.log ≡ x.log))
    → IsStep w (Form k) h new res
unfolding after
form_stepped w h new k l r r2 p p2 d d2 x x2 Old res i at ring post desk there shows is ok refused same =
    let m : ℕ = k % w.text.logs in
    let at_m : new ≡ formed h m r2 p2 d2 x2.log = is ∙ ap (λ n. formed h n r2 p2 d2 x2.log) at in
    stepped w (Form k) h new Old
    (IsTaken {C = Rest} (Form k) Old (λ v s. ShowsRing r2 s × (s.post ≡ p2) × ShowsDesk d2 s × ShowsLogAt (k % v.text.logs) x2 s))
    ((r2 ≡ r) × (p2 ≡ p) × (d2 ≡ d) × (x2.log ≡ x.log)) res shows refl ok
    (λ taken. (
      (λ s run f. let t = taken w s run (shows s f) in (
        t.0,
        subst (λ z. Fits z (after w (Form k) s)) (sym at_m)
            (log_back _ _ (desk_back _ _ (post_back _ _ (ring_back h s f r2 (after w (Form k) s).ring t.1.0) p2 (after w (Form k) s).post t.1.1) d2 (after w (Form k) s).desk t.1.2) m x2.log _ t.1.3),
      )),
      subst (IsHandOf w) (sym at_m) (hand_with_log w _ (hand_with_desk w _ (hand_with_post w _ (hand_with_ring w h i (Some r2)) (Some p2)) (Some d2)) m (Some x2.log)),
      ap are_there is ∙ (there_with_log (record h { ring = Some r2; post = Some p2; desk = Some d2 }) l x2.log x.log there
          ∙ (there_with_desk (record h { ring = Some r2; post = Some p2 }) d2 d desk ∙ (there_with_post (record h { ring = Some r2 }) p2 p post ∙ there_with_ring h r2 r ring))),
    ))
    refused same
    (λ q. is ∙ formed_same h l r r2 p p2 d d2 x.log x2.log ring post desk there q.0 q.1 q.2 q.3)

-- ---- Admit

abbrev pub admitted : Parts → Ring → Halves → Post Rest → Parts
admitted h r b p = record h { ring = Some r; book = Some b; post = Some p }

admitted_same : (h : Parts) (r r2 : Ring) (b b2 : Halves) (p p2 : Post Rest)
    → h.ring ≡ Some r → h.book ≡ Some b → h.post ≡ Some p → r2 ≡ r → b2 ≡ b → p2 ≡ p → admitted h r2 b2 p2 ≡ h
admitted_same h r r2 b b2 p p2 ring book post same_r same_b same_p =
    ap (λ z. admitted h z b2 p2) same_r
    ∙ (ap (λ z. admitted h r z p2) same_b
    ∙ (ap (λ z. admitted h r b z) same_p
    ∙ (ap (λ o. record h { ring = o; book = Some b; post = Some p }) (sym ring)
    ∙ (ap (λ o. record h { book = o; post = Some p }) (sym book)
    ∙ ap (λ o. record h { post = o }) (sym post)))))

pub admit_stepped : (w : Fixed Rest) (h new : Parts) (t : ℕ) (r r2 : Ring) (b b2 : Halves) (p p2 : Post Rest) (Old : Fixed Rest → Machine Rest → Type 0) (res : Result (Unit {0}) StepNo)
    → IsHandOf w h
    → h.ring ≡ Some r → h.book ≡ Some b → h.post ≡ Some p
    → ((s : Machine Rest) → Fits h s → Old w s)
    → new ≡ admitted h r2 b2 p2
    → OnOk res (IsTaken {C = Rest} (Admit t) Old (λ v s. ShowsRing r2 s × ShowsBook b2 s × (s.post ≡ p2)))
    → b2.most ≡ b.most
    → IfErr res (IsNo {C = Rest} (Admit t) Old)
    → OnErr res ((r2 ≡ r) × (b2 ≡ b) × (p2 ≡ p))
    → IsStep w (Admit t) h new res
unfolding after
admit_stepped w h new t r r2 b b2 p p2 Old res i ring book post shows is ok room refused same =
    stepped w (Admit t) h new Old
    (IsTaken {C = Rest} (Admit t) Old (λ v s. ShowsRing r2 s × ShowsBook b2 s × (s.post ≡ p2)))
    ((r2 ≡ r) × (b2 ≡ b) × (p2 ≡ p)) res shows refl ok
    (λ taken. (
      (λ s run f. let u = taken w s run (shows s f) in (
        u.0,
        subst (λ z. Fits z (after w (Admit t) s)) (sym is)
            (post_back _ _ (book_back _ _ (ring_back h s f r2 (after w (Admit t) s).ring u.1.0) b2 (after w (Admit t) s).book u.1.1) p2 (after w (Admit t) s).post u.1.2),
      )),
      subst (IsHandOf w) (sym is) (hand_with_post w _ (hand_with_book w _ (hand_with_ring w h i (Some r2)) b b2 book room) (Some p2)),
      ap are_there is ∙ (there_with_post (record h { ring = Some r2; book = Some b2 }) p2 p post ∙ (there_with_book (record h { ring = Some r2 }) b2 b book ∙ there_with_ring h r2 r ring)),
    ))
    refused same
    (λ q. is ∙ admitted_same h r r2 b b2 p p2 ring book post q.0 q.1 q.2)
