-- What may happen at a call keeps what the traits promise of it.
use Rattle.std.specs.Prelude.{◌≡◌, ◌≢◌, refl, ℕ, ◌+◌, ◌==◌, Bool, true, false, if◌then◌else◌, Some, List, [], ◌∷◌, ◌++◌, length, take, drop, filter}
use Rattle.std.proofs.Common.{arith, sym, ap, subst, ◌∙◌, inl, inr}
use Rattle.std.proofs.Math.Seq.{drop-append_seam}
use Rattle.std.proofs.lemmas.Bool.{true≢false, eqb-true, eq-eqb, ne_eqb}
use Rattle.std.proofs.lemmas.List.{append-nil, append_assoc, drop-drop, length-append}
use Rattle.std.proofs.lemmas.List.Concat.{flat_map-append}
use Rattle.std.proofs.lemmas.List.Elements.{filter-append}
use Rattle.snap_outside.specs.Disk.{with_ops, AddsOperation}
use Rattle.snap_outside.specs.declared.devices.DevOp.{DevOp}
use Rattle.snap_outside.specs.declared.devices.DevOp.TheVariants.{Write, Sync}
use Rattle.durable_replies.specs.Bodies.{Answer, Failed, Done, Count, Bytes, Call, Length, Read, Change, Print, Trace, Take, Room}
use Rattle.durable_replies.specs.Plays.{Outside, Happening, Made, Printed, Traced, Given, Broke, Part, device, output, tracing, source, memory, MayHappen, told_length, read, changed, printed, traced, given, had_room, failed, failed_behind, breaks, content_now, device_now, faults_in, given_at, given_in, input_now, is_part, ops_on, part_of, printed_in, traced_at, traced_in}
use Rattle.durable_replies.specs.Promised.{CountsFaults, DeviceKeeps, IsChanged, KeepsPromises, OutputKeeps, SourceKeeps, TraceKeeps}
use Rattle.durable_replies.proofs.Goings.{no_more_ops, no_more_printed, ops_join, printed_join}

-- ---- parts

same_part : (p : Part) → is_part p p ≡ true
same_part (device d) = eq-eqb d d refl
same_part output = refl
same_part tracing = refl
same_part source = refl
same_part memory = refl

is_same_part : (p q : Part) → is_part p q ≡ true → p ≡ q
is_same_part (device d) (device e) is = ap device (eqb-true d e is)
is_same_part output output is = refl
is_same_part tracing tracing is = refl
is_same_part source source is = refl
is_same_part memory memory is = refl
is_same_part _ _ is = absurd (true≢false (sym is))

-- ---- what stays

module _ (o : Outside) (past : List Happening) where
  same_device : (new : List Happening) (d : ℕ) → ops_on d new ≡ [] → device_now o (past ++ new) d ≡ device_now o past d
  same_device new d none = ap (λ (ops : List DevOp). with_ops (o.devices d) ops) (no_more_ops d past new none)

  more_output : (new : List Happening) → o.printed ++ printed_in (past ++ new) ≡ (o.printed ++ printed_in past) ++ printed_in new
  more_output new = ap (λ (z : List ℕ). o.printed ++ z) (printed_join past new) ∙ sym (append_assoc o.printed (printed_in past) (printed_in new))

  same_output : (new : List Happening) → printed_in new ≡ [] → o.printed ++ printed_in (past ++ new) ≡ o.printed ++ printed_in past
  same_output new none = ap (λ (z : List ℕ). o.printed ++ z) (no_more_printed past new none)

  more_trace : (new : List Happening) → o.traced ++ traced_in (past ++ new) ≡ (o.traced ++ traced_in past) ++ traced_in new
  more_trace new = ap (λ (z : List ℕ). o.traced ++ z) (flat_map-append traced_at past new) ∙ sym (append_assoc o.traced (traced_in past) (traced_in new))

  same_trace : (new : List Happening) → traced_in new ≡ [] → o.traced ++ traced_in (past ++ new) ≡ o.traced ++ traced_in past
  same_trace new none = more_trace new ∙ (ap (λ (z : List ℕ). (o.traced ++ traced_in past) ++ z) none ∙ append-nil (o.traced ++ traced_in past))

  given_join : (new : List Happening) → given_in (past ++ new) ≡ given_in past ++ given_in new
  given_join new = flat_map-append given_at past new

  same_source : (new : List Happening) → given_in new ≡ [] → input_now o (past ++ new) ≡ input_now o past
  same_source new none = ap (λ (z : List ℕ). drop (length z) o.input) (given_join new ∙ (ap (λ (z : List ℕ). given_in past ++ z) none ∙ append-nil (given_in past)))

  more_faults : (part : Part) (new : List Happening) → faults_in part (past ++ new) ≡ faults_in part past + faults_in part new
  more_faults part new = ap length (filter-append (breaks part) past new) ∙ length-append (filter (breaks part) past) (filter (breaks part) new)

  -- no call fails
  no_fault : (c : Call) (a : Answer) (new : List Happening) (part : Part) → a ≢ Failed → faults_in part new ≡ 0
      → CountsFaults c a part (o.faults part + faults_in part past) (o.faults part + faults_in part (past ++ new))
  no_fault c a new part not none =
      let same : o.faults part + faults_in part (past ++ new) ≡ o.faults part + faults_in part past = omega (arith, more_faults part new, none) in
      record { later = omega (arith, same); failed = λ is. absurd (not is); quiet = λ _. same; others = λ _. same }

  -- this call fails
  one_fault : (c : Call) (a : Answer) (new : List Happening) (part : Part) → a ≡ Failed → faults_in part new ≡ (if is_part part (part_of c) then 1 else 0)
      → CountsFaults c a part (o.faults part + faults_in part past) (o.faults part + faults_in part (past ++ new))
  one_fault c a new part is count =
      let all : faults_in part (past ++ new) ≡ faults_in part past + faults_in part new = more_faults part new in
      record {
        later = omega (arith, all);
        failed = λ _ same.
            let here : is_part part (part_of c) ≡ true = subst (λ (q : Part). is_part part q ≡ true) (sym same) (same_part part) in
            let one : faults_in part new ≡ 1 = count ∙ ap (λ (t : Bool). if t then 1 else 0) here in
            omega (arith, all, one);
        quiet = λ not. absurd (not is);
        others = λ other. not_here (is_part part (part_of c)) refl other;
      }
    where
      not_here : (t : Bool) → is_part part (part_of c) ≡ t → part_of c ≢ part → o.faults part + faults_in part (past ++ new) ≡ o.faults part + faults_in part past
      not_here true e other = absurd (other (sym (is_same_part part (part_of c) e)))
      not_here false e other =
          let none : faults_in part new ≡ 0 = count ∙ ap (λ (t : Bool). if t then 1 else 0) e in
          omega (arith, more_faults part new, none)

  counted : (part q : Part) → faults_in part (Broke q ∷ []) ≡ (if is_part part q then 1 else 0)
  counted part q = by (is_part part q)
    where
      by : (t : Bool) → length (if t then Broke q ∷ [] else []) ≡ (if t then 1 else 0)
      by true = refl
      by false = refl

  -- ---- what changes

  added_op : (new : List Happening) (d : ℕ) (op : DevOp) → ops_on d new ≡ op ∷ [] → AddsOperation (Some (device_now o past d)) (Some (device_now o (past ++ new) d)) op
  added_op new d op one =
      let ops : ops_on d (past ++ new) ≡ ops_on d past ++ op ∷ [] = ops_join d past new ∙ ap (λ (z : List DevOp). ops_on d past ++ z) one in
      let all : (o.devices d).ops ++ ops_on d (past ++ new) ≡ ((o.devices d).ops ++ ops_on d past) ++ op ∷ [] =
      ap (λ (z : List DevOp). (o.devices d).ops ++ z) ops ∙ sym (append_assoc (o.devices d).ops (ops_on d past) (op ∷ [])) in
      ap (λ (z : List DevOp). Some (record { first = (o.devices d).first; ops = z })) all

  made_here : (e d : ℕ) (op : DevOp) → e ≡ d → (if e == d then op ∷ [] else []) ++ [] ≡ op ∷ []
  made_here e d op same = ap (λ (t : Bool). (if t then op ∷ [] else []) ++ []) (ap (λ (x : ℕ). e == x) (sym same) ∙ eq-eqb e e refl)

  made_elsewhere : (e d : ℕ) (op : DevOp) → e ≢ d → (if e == d then op ∷ [] else []) ++ [] ≡ []
  made_elsewhere e d op other = ap (λ (t : Bool). (if t then op ∷ [] else []) ++ []) (ne_eqb e d other)

  -- ---- each call

  quiet_device : (c : Call) (a : Answer) (new : List Happening) → a ≡ Failed → ((d : ℕ) → ops_on d new ≡ []) → (d : ℕ) → DeviceKeeps d c a (device_now o past d) (device_now o (past ++ new) d)
  quiet_device (Length e) a new is none d = (same_device new d (none d), λ _ n told. absurd (let bad : Failed ≡ Count n = sym is ∙ told in cc))
  quiet_device (Read e at room) a new is none d = (same_device new d (none d), λ _ bytes told. absurd (let bad : Failed ≡ Bytes bytes = sym is ∙ told in cc))
  quiet_device (Change e (Write at bytes)) a new is none d =
      (λ _. same_device new d (none d), λ _. subst (λ (x : Answer). IsChanged (Write at bytes) x (Some (device_now o past d)) (Some (device_now o (past ++ new) d))) (sym is) (inl (ap Some (same_device new d (none d)))))
  quiet_device (Change e Sync) a new is none d =
      (λ _. same_device new d (none d), λ _. subst (λ (x : Answer). IsChanged Sync x (Some (device_now o past d)) (Some (device_now o (past ++ new) d))) (sym is) (ap Some (same_device new d (none d))))
  quiet_device (Print bytes) a new is none d = same_device new d (none d)
  quiet_device (Trace bytes) a new is none d = same_device new d (none d)
  quiet_device (Take room) a new is none d = same_device new d (none d)
  quiet_device (Room bytes) a new is none d = same_device new d (none d)

  failed_output : (c : Call) → OutputKeeps c Failed (o.printed ++ printed_in past) (o.printed ++ printed_in (past ++ Broke (part_of c) ∷ []))
  failed_output (Length e) = same_output (Broke (device e) ∷ []) refl
  failed_output (Read e at room) = same_output (Broke (device e) ∷ []) refl
  failed_output (Change e op) = same_output (Broke (device e) ∷ []) refl
  failed_output (Print bytes) = same_output (Broke output ∷ []) refl
  failed_output (Trace bytes) = same_output (Broke tracing ∷ []) refl
  failed_output (Take room) = same_output (Broke source ∷ []) refl
  failed_output (Room bytes) = same_output (Broke memory ∷ []) refl

  failed_trace : (c : Call) → TraceKeeps c Failed (o.traced ++ traced_in past) (o.traced ++ traced_in (past ++ Broke (part_of c) ∷ []))
  failed_trace (Length e) = same_trace (Broke (device e) ∷ []) refl
  failed_trace (Read e at room) = same_trace (Broke (device e) ∷ []) refl
  failed_trace (Change e op) = same_trace (Broke (device e) ∷ []) refl
  failed_trace (Print bytes) = same_trace (Broke output ∷ []) refl
  failed_trace (Trace bytes) = same_trace (Broke tracing ∷ []) refl
  failed_trace (Take room) = same_trace (Broke source ∷ []) refl
  failed_trace (Room bytes) = same_trace (Broke memory ∷ []) refl

  failed_source : (c : Call) → SourceKeeps c Failed (input_now o past) (input_now o (past ++ Broke (part_of c) ∷ []))
  failed_source (Length e) = same_source (Broke (device e) ∷ []) refl
  failed_source (Read e at room) = same_source (Broke (device e) ∷ []) refl
  failed_source (Change e op) = same_source (Broke (device e) ∷ []) refl
  failed_source (Print bytes) = same_source (Broke output ∷ []) refl
  failed_source (Trace bytes) = same_source (Broke tracing ∷ []) refl
  failed_source (Take room) = same_source (Broke source ∷ []) refl
  failed_source (Room bytes) = same_source (Broke memory ∷ []) refl

  -- what is left behind bytes that were given
  rest_left : (front rest : List ℕ) → input_now o past ≡ front ++ rest → input_now o (past ++ Given front ∷ []) ≡ rest
  rest_left front rest e =
      let gone : length (given_in (past ++ Given front ∷ [])) ≡ length (given_in past) + length front =
      ap length (given_join (Given front ∷ []) ∙ ap (λ (z : List ℕ). given_in past ++ z) (append-nil front)) ∙ length-append (given_in past) front in
      ap (λ (n : ℕ). drop n o.input) gone ∙ (sym (drop-drop (length front) (length (given_in past)) o.input) ∙ (ap (drop (length front)) e ∙ drop-append_seam front rest))

  pub promised : (c : Call) (a : Answer) (new : List Happening) → MayHappen o past c a new → KeepsPromises o past c a new
  promised c a new (told_length d small) = record {
    devices = λ e. (same_device [] e refl, λ is n told. let k : length (content_now o past d) ≡ n = cc told in sym k ∙ ap (λ (x : ℕ). length (content_now o past x)) is);
    output = same_output [] refl;
    trace = same_trace [] refl;
    source = same_source [] refl;
    faults = λ part. no_fault (Length d) (Count (length (content_now o past d))) [] part (λ e. cc e) refl;
  }
  promised c a new (read d at room) = record {
    devices = λ e. (
      same_device [] e refl,
      λ is bytes told.
          let k : take room (drop at (content_now o past d)) ≡ bytes = cc told in sym k ∙ ap (λ (x : ℕ). take room (drop at (content_now o past x))) is,
    );
    output = same_output [] refl;
    trace = same_trace [] refl;
    source = same_source [] refl;
    faults = λ part. no_fault (Read d at room) (Bytes (take room (drop at (content_now o past d)))) [] part (λ e. cc e) refl;
  }
  promised c a new (changed d op) = record {
    devices = λ e. (λ other. same_device (Made d op ∷ []) e (made_elsewhere d e op other), λ same. added_op (Made d op ∷ []) e op (made_here d e op same));
    output = same_output (Made d op ∷ []) refl;
    trace = same_trace (Made d op ∷ []) refl;
    source = same_source (Made d op ∷ []) refl;
    faults = λ part. no_fault (Change d op) Done (Made d op ∷ []) part (λ e. cc e) refl;
  }
  promised c a new (printed bytes n most some) = record {
    devices = λ e. same_device (Printed (take n bytes) ∷ []) e refl;
    output = (most, some, more_output (Printed (take n bytes) ∷ []) ∙ ap (λ (z : List ℕ). (o.printed ++ printed_in past) ++ z) (append-nil (take n bytes)));
    trace = same_trace (Printed (take n bytes) ∷ []) refl;
    source = same_source (Printed (take n bytes) ∷ []) refl;
    faults = λ part. no_fault (Print bytes) (Count n) (Printed (take n bytes) ∷ []) part (λ e. cc e) refl;
  }
  promised c a new (traced bytes n most some) = record {
    devices = λ e. same_device (Traced (take n bytes) ∷ []) e refl;
    output = same_output (Traced (take n bytes) ∷ []) refl;
    trace = (most, some, more_trace (Traced (take n bytes) ∷ []) ∙ ap (λ (z : List ℕ). (o.traced ++ traced_in past) ++ z) (append-nil (take n bytes)));
    source = same_source (Traced (take n bytes) ∷ []) refl;
    faults = λ part. no_fault (Trace bytes) (Count n) (Traced (take n bytes) ∷ []) part (λ e. cc e) refl;
  }
  promised c a new (given front rest room splits most some) =
      let left : input_now o (past ++ Given front ∷ []) ≡ rest = rest_left front rest splits in
      record {
        devices = λ e. same_device (Given front ∷ []) e refl;
        output = same_output (Given front ∷ []) refl;
        trace = same_trace (Given front ∷ []) refl;
        source = (most, splits ∙ ap (λ (z : List ℕ). front ++ z) (sym left), λ none more. left ∙ some none more);
        faults = λ part. no_fault (Take room) (Bytes front) (Given front ∷ []) part (λ e. cc e) refl;
      }
  promised c a new (had_room bytes) = record {
    devices = λ e. same_device [] e refl;
    output = same_output [] refl;
    trace = same_trace [] refl;
    source = same_source [] refl;
    faults = λ part. no_fault (Room bytes) Done [] part (λ e. cc e) refl;
  }
  promised c a new (failed call) = record {
    devices = quiet_device call Failed (Broke (part_of call) ∷ []) refl (λ d. refl);
    output = failed_output call;
    trace = failed_trace call;
    source = failed_source call;
    faults = λ part. one_fault call Failed (Broke (part_of call) ∷ []) part refl (counted part (part_of call));
  }
  promised c a new (failed_behind d at bytes) = record {
    devices = λ e. (
      λ other. same_device (Made d (Write at bytes) ∷ Broke (device d) ∷ []) e (made_elsewhere d e (Write at bytes) other),
      λ same. inr (added_op (Made d (Write at bytes) ∷ Broke (device d) ∷ []) e (Write at bytes) (made_here d e (Write at bytes) same)),
    );
    output = same_output (Made d (Write at bytes) ∷ Broke (device d) ∷ []) refl;
    trace = same_trace (Made d (Write at bytes) ∷ Broke (device d) ∷ []) refl;
    source = same_source (Made d (Write at bytes) ∷ Broke (device d) ∷ []) refl;
    faults = λ part. one_fault (Change d (Write at bytes)) Failed (Made d (Write at bytes) ∷ Broke (device d) ∷ []) part refl (counted part (device d));
  }
