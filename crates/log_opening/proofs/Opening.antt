-- Devices that are opened one after the other.
use Rattle.std.proofs.Common.{◌≡◌, false, ℕ, ◌+◌, ◌<◌, ◌≤◌, inl, inr, List, [], ◌∷◌, ◌++◌, suc, length, set, take, drop, refl, sym, ◌∙◌, ap, subst, arith, Option, Some, None}
use Rattle.std.proofs.lemmas.List.{append-nil, take-set, drop-set-lt, drop-drop}
use Rattle.std.specs.List.{AllZip}
use Rattle.snap_outside.specs.Disk.{DeviceHistory, content, IsImage}
use Rattle.gate_log.specs.declared.limits.TheConstants.{FARTHEST_END}
use Rattle.gate_log.specs.declared.logs.LogItem.{LogItem}
use Rattle.gate_log.specs.declared.opens.OpenNo.{OpenNo}
use Rattle.gate_log.specs.declared.opens.OpenNo.TheVariants as refusal
use Rattle.std.specs.Prelude.{IfSome, ◌⊎◌}
use Rattle.gate_log.specs.Bytes.{IsPlacedLogAt}
use Rattle.gate_log.specs.Device.{DeviceLog, HasFormat}
use Rattle.gate_log.specs.State.{LogState}
use Rattle.gate_log.specs.Opened.{Opened, Refused, bytes_of}
use Rattle.record_log.specs.Records.{IsKeptImage, KeepsRecords}
use Rattle.snap_outside.proofs.Images.{image_is}
use Rattle.log_opening.specs.declared.refusals.LogsNo.{LogsNo}
use Rattle.log_opening.specs.declared.refusals.LogsNo.TheVariants as ending
use Rattle.log_opening.specs.Devices.{Device, as_device, device_at, IsOpenedAtMost, IsOpened, AreOpened, IsReached}
use Rattle.log_opening.proofs.Places.{zip_weaker}
use Rattle.log_opening.specs.Found.{IsFoundOn, IsReadyLog, IsLeftClosed, IsTouched, AreFound, IsHalted, no_of_opening}

-- ---- a log that is opened

pub found_on : (d : Device) (log taken : LogState) (items : List LogItem) → Opened d.told log.told log.end log.found → KeepsRecords d.told log.told
    → IfSome log.told (λ h. DeviceLog h log.end (bytes_of log.found)) → ((bytes : List ℕ) × IsPlacedLogAt bytes log.end log.found) → HasFormat log.told log.format → (log.format ≡ 1) ⊎ (log.format ≡ 2)
    → log.shut ≡ false → log.end ≤ FARTHEST_END → d.faults ≤ log.faults → items ≡ log.found → taken ≡ record log { found = [] } → IsFoundOn d (as_device taken) items × IsReadyLog taken items
found_on d log taken items opened keeps holds placed formatted known unshut low later same emptied =
    subst (λ (l : LogState). IsFoundOn d (as_device l) items × IsReadyLog l items) (sym emptied)
    (subst (λ (is : List LogItem). IsFoundOn d (as_device log) is × IsReadyLog (record log { found = [] }) is) (sym same) (
      record {
        opened = (log.end, opened);
        placed = (placed.0, log.end, placed.1, low);
        safe = record { records = keeps; later = later };
      },
      record { holds = holds; formatted = formatted; known = known; low = low; ready = unshut },
    ))

-- ---- one more device

pub found_more : (before mid : List Device) (found : List (List LogItem)) (d : Device) (items : List LogItem) → AreFound before mid found → length found < length mid
    → IsFoundOn (device_at mid (length found)) d items → AreFound before (set mid (length found) d) (found ++ items ∷ [])
found_more before [] [] d items are lt on = absurd (omega (arith, lt))
found_more [] (m ∷ ms) [] d items are lt on = absurd (cc)
found_more (b ∷ bs) (m ∷ ms) [] d items are lt on =
    let head : m ≡ b = cc in
    let tail : ms ≡ bs = cc in
    (subst (λ (x : Device). IsFoundOn x d items) head on, tail)
found_more [] mid (i ∷ is) d items are lt on = absurd are
found_more (b ∷ bs) [] (i ∷ is) d items are lt on = absurd are
found_more (b ∷ bs) (m ∷ ms) (i ∷ is) d items are lt on = (are.0, found_more bs ms is d items are.1 (omega (arith, lt)) on)

pub found_length : (before after : List Device) (found : List (List LogItem)) → AreFound before after found → length after ≡ length before
found_length before after [] are = ap length are
found_length [] after (i ∷ is) are = absurd are
found_length (b ∷ bs) [] (i ∷ is) are = absurd are
found_length (b ∷ bs) (a ∷ more) (i ∷ is) are = ap (λ (n : ℕ). suc n) (found_length bs more is are.1)

-- nothing was found yet
pub none_found : (before : List Device) (found : List (List LogItem)) → found ≡ [] → AreFound before before found
none_found before found none = subst (λ (l : List (List LogItem)). AreFound before before l) (sym none) refl

pub none_ready : (logs : List LogState) (found : List (List LogItem)) → length logs ≡ 0 → found ≡ [] → AllZip IsReadyLog logs found
none_ready [] found none none_found = subst (λ (l : List (List LogItem)). AllZip IsReadyLog [] l) (sym none_found) tt
none_ready (l ∷ logs) found none none_found = absurd (omega (arith, none))

-- the next device got no call yet
pub found_next : (before after : List Device) (found : List (List LogItem)) → AreFound before after found → device_at after (length found) ≡ device_at before (length found)
found_next before after [] are = ap (λ (l : List Device). device_at l 0) are
found_next [] after (i ∷ is) are = absurd are
found_next (b ∷ bs) [] (i ∷ is) are = absurd are
found_next (b ∷ bs) (a ∷ more) (i ∷ is) are = found_next bs more is are.1

pub found_zip : (before after : List Device) (found : List (List LogItem)) → AreFound before after found → AllZip IsOpened (take (length found) before) (take (length found) after)
found_zip before after [] are = tt
found_zip [] after (i ∷ is) are = absurd are
found_zip (b ∷ bs) [] (i ∷ is) are = absurd are
found_zip (b ∷ bs) (a ∷ more) (i ∷ is) are = ((are.0.opened.0, i, are.0.opened.1), found_zip bs more is are.1)

pub found_rest : (before after : List Device) (found : List (List LogItem)) → AreFound before after found → drop (length found) after ≡ drop (length found) before
found_rest before after [] are = are
found_rest [] after (i ∷ is) are = absurd are
found_rest (b ∷ bs) [] (i ∷ is) are = absurd are
found_rest (b ∷ bs) (a ∷ more) (i ∷ is) are = found_rest bs more is are.1

pub found_opened : (before after : List Device) (found : List (List LogItem)) → AreFound before after found → AreOpened (length found) before after
found_opened before after found are = record { opened = found_zip before after found are; others = found_rest before after found are }

pub found_reached : (before mid : List Device) (found : List (List LogItem)) (new : Device) → AreFound before mid found → IsReached (length found) before (set mid (length found) new)
found_reached before mid found new are = record {
  below = subst (λ (l : List Device). AllZip IsOpened (take (length found) before) l) (sym (take-set mid (length found) new)) (found_zip before mid found are);
  above = drop-set-lt (length found + 1) mid (length found) new (omega arith)
      ∙ sym (drop-drop 1 (length found) mid) ∙ ap (λ (l : List Device). drop 1 l) (found_rest before mid found are) ∙ drop-drop 1 (length found) before;
}

-- ---- no record is lost

keeps_same : (told : Option DeviceHistory) → KeepsRecords told told
keeps_same None = tt
keeps_same (Some h) = (
  [],
  ap (λ (l : List _). Some (record { first = h.first; ops = l })) (sym (append-nil h.ops)),
  λ quiet rs held image left. subst (IsKeptImage (content h) rs) (sym (image_is (content h) image (subst (λ d. IsImage d image) quiet left))) (held, (λ recent. recent)),
)

pub untouched : (d : Device) → IsTouched d d
untouched d = record { opened = inl refl; safe = record { records = keeps_same d.told; later = omega arith } }

pub all_untouched : (ds : List Device) → AllZip IsTouched ds ds
all_untouched [] = tt
all_untouched (d ∷ ds) = (untouched d, all_untouched ds)

pub on_touched : (b a : Device) (items : List LogItem) → IsFoundOn b a items → IsTouched b a
on_touched b a items on = record { opened = inr (inl (on.opened.0, items, on.opened.1)); safe = on.safe }

closed_at_most : (b a : Device) (answer : OpenNo) → Refused b.told a.told answer → IsOpenedAtMost b a
closed_at_most b a (refusal.NotALog offset) refused = inl refused.0
closed_at_most b a (refusal.Damage offset) refused = inl refused.0
closed_at_most b a refusal.Device refused = inr (inr refused)
closed_at_most b a refusal.Memory refused = inl refused

pub closed_touched : (b a : Device) (answer : OpenNo) → IsLeftClosed b a answer → IsTouched b a
closed_touched b a answer closed = record { opened = closed_at_most b a answer closed.refused; safe = closed.safe }

pub found_touched : (before after : List Device) (found : List (List LogItem)) → AreFound before after found → AllZip IsTouched before after
found_touched before after [] are = subst (λ (l : List Device). AllZip IsTouched before l) (sym are) (all_untouched before)
found_touched [] after (i ∷ is) are = absurd are
found_touched (b ∷ bs) [] (i ∷ is) are = absurd are
found_touched (b ∷ bs) (a ∷ more) (i ∷ is) are = (on_touched b a i are.0, found_touched bs more is are.1)

pub stopped_touched : (before mid : List Device) (found : List (List LogItem)) (new : Device) → AreFound before mid found → length found < length mid
    → IsTouched (device_at mid (length found)) new → AllZip IsTouched before (set mid (length found) new)
stopped_touched before [] [] new are lt one = absurd (omega (arith, lt))
stopped_touched [] (m ∷ ms) [] new are lt one = absurd (cc)
stopped_touched (b ∷ bs) (m ∷ ms) [] new are lt one =
    let head : m ≡ b = cc in
    let tail : ms ≡ bs = cc in
    (subst (λ (x : Device). IsTouched x new) head one, subst (λ (l : List Device). AllZip IsTouched bs l) (sym tail) (all_untouched bs))
stopped_touched [] mid (i ∷ is) new are lt one = absurd are
stopped_touched (b ∷ bs) [] (i ∷ is) new are lt one = absurd are
stopped_touched (b ∷ bs) (m ∷ ms) (i ∷ is) new are lt one = (on_touched b m i are.0, stopped_touched bs ms is new are.1 (omega (arith, lt)) one)

-- ---- not so many

pub halted_for_memory : (count : ℕ) (before after : List Device) (found : List (List LogItem)) → length found ≤ count → AreFound before after found → IsHalted count before after ending.Memory
halted_for_memory count before after found few are = record { touched = found_touched before after found are; why = inl (refl, (length found, few, found_opened before after found are)) }

halted_here : (before mid : List Device) (found : List (List LogItem)) (new : Device) (why : OpenNo) → AreFound before mid found → length found < length mid
    → IsLeftClosed (device_at mid (length found)) new why → IsHalted (length found + 1) before (set mid (length found) new) (no_of_opening (length found) why)
halted_here before mid found new why are lt closed = record {
  touched = stopped_touched before mid found new are lt (closed_touched (device_at mid (length found)) new why closed);
  why = inr (length found, why, omega arith, record { parts = (mid, found, new, are, refl, lt, refl, closed) }, refl);
}

pub halted_at : (before mid after : List Device) (found : List (List LogItem)) (at : ℕ) (new : Device) (why : OpenNo) (answer : LogsNo) → at ≡ length found → at < length mid
    → after ≡ set mid at new → IsLeftClosed (device_at mid at) new why → answer ≡ no_of_opening at why → AreFound before mid found → IsHalted (length found + 1) before after answer
halted_at before mid after found at new why answer here lt same closed is are =
    subst (λ (l : List Device). IsHalted (length found + 1) before l answer) (sym same)
    (subst (λ (a : LogsNo). IsHalted (length found + 1) before (set mid at new) a) (sym is)
    (subst (λ (n : ℕ). IsHalted (length found + 1) before (set mid n new) (no_of_opening n why)) (sym here)
    (halted_here before mid found new why are (omega (arith, lt, here)) (subst (λ (n : ℕ). IsLeftClosed (device_at mid n) new why) here closed))))

pub one_more : (before mid after : List Device) (found : List (List LogItem)) (at : ℕ) (new : Device) (items : List LogItem) → at ≡ length found → at < length mid
    → after ≡ set mid at new → IsFoundOn (device_at mid at) new items → AreFound before mid found → AreFound before after (found ++ items ∷ [])
one_more before mid after found at new items here lt same on are =
    subst (λ (l : List Device). AreFound before l (found ++ items ∷ [])) (sym same)
    (subst (λ (n : ℕ). AreFound before (set mid n new) (found ++ items ∷ [])) (sym here)
    (found_more before mid found new items are (omega (arith, lt, here)) (subst (λ (n : ℕ). IsFoundOn (device_at mid n) new items) here on)))

pub halted_below : (few many : ℕ) (before after : List Device) (answer : LogsNo) → few ≤ many → IsHalted few before after answer → IsHalted many before after answer
halted_below few many before after answer le halted = record {
  touched = halted.touched;
  why = elim (halted.why) [
    | inl memory ↦ inl (memory.0, (memory.1.0, omega (arith, le, memory.1.1), memory.1.2))
    | inr at ↦ inr (at.0, at.1, omega (arith, le, at.2), at.3, at.4)
  ];
}

-- ---- each clause of its own

pub touched_opened : (before after : List Device) → AllZip IsTouched before after → AllZip IsOpenedAtMost before after
touched_opened before after all = zip_weaker IsTouched IsOpenedAtMost before after (λ b a one. one.opened) all

pub touched_safe : (before after : List Device) → AllZip IsTouched before after → AllZip (λ (b a : Device). KeepsRecords b.told a.told) before after
touched_safe before after all = zip_weaker IsTouched (λ (b a : Device). KeepsRecords b.told a.told) before after (λ b a one. one.safe.records) all

pub touched_later : (before after : List Device) → AllZip IsTouched before after → AllZip (λ (b a : Device). b.faults ≤ a.faults) before after
touched_later before after all = zip_weaker IsTouched (λ (b a : Device). b.faults ≤ a.faults) before after (λ b a one. one.safe.later) all
