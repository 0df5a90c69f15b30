-- What a run prints is made of whole lines; and of these only those of replies tell of a commit, each of one that has this verdict.
use Rattle.std.specs.Prelude.{◌≡◌, refl, ℕ, zero, suc, ◌+◌, ◌*◌, ◌/◌, ◌%◌, ◌<◌, ◌==◌, ℤ, pos, negsuc, nat_lt, Bool, true, false, if◌then◌else◌, Option, Some, None, List, [], ◌∷◌, ◌++◌, map, codes}
use Rattle.std.specs.Fmt.{decimal, signed_decimal, digits, digits_onto, digit_glyph}
use Rattle.std.specs.List.{flat_map}
use Rattle.std.proofs.Common.{arith, sym, ap, subst, ◌∙◌}
use Rattle.std.proofs.lemmas.Bool.{ne_eqb}
use Rattle.std.proofs.lemmas.List.{append_assoc}
use Rattle.snap_base.specs.Text.{place_text, verdict_text}
use Rattle.snap_base.specs.declared.transactions.State.{State}
use Rattle.snap_base.specs.declared.verdicts.Place.{Place}
use Rattle.snap_base.specs.declared.verdicts.Verdict.{Verdict}
use Rattle.snap_base.specs.declared.verdicts.Verdict.TheVariants as verdicts
use Rattle.protocol.specs.Events.{Event}
use Rattle.protocol.specs.Fixed.{Fixed}
use Rattle.protocol.specs.Report.{answer, replied, report}
use Rattle.protocol.specs.Runs.{reached}
use Rattle.protocol.specs.Verdicts.{verdict}
use Rattle.trace_text.specs.Reads.{LacksByte}
use Rattle.trace_text.proofs.Cuts.{cut_one, free_append, free_test, has_no}
use Rattle.audit_words.specs.Papers.{ended}
use Rattle.snap_report.specs.Lines.{actor_text, actors_text, end_text, line_end, reply_text, shown_fields}
use Rattle.run_effects.specs.Lines.{ending_text, line_in, replies_text, verdict_line}
use Rattle.run_printing.specs.Printed.{unsure_line}
use Rattle.durable_replies.specs.Durable.{TellsCommit}
use Rattle.durable_replies.proofs.Lines.{Lined, lined_nothing, lined_line, lined_join, lined_weaker}

-- ---- no line feed, nor a blank in a number

either_lacks : (byte : ℕ) (t : Bool) (xs ys : List ℕ) → LacksByte byte xs → LacksByte byte ys → LacksByte byte (if t then xs else ys)
either_lacks byte true xs ys h k = h
either_lacks byte false xs ys h k = k

glyph_lacks : (byte d : ℕ) → byte < 48 → (digit_glyph false d == byte) ≡ false
glyph_lacks byte d small = by (nat_lt d 10)
  where
    by : (t : Bool) → ((if t then 48 + d else 87 + d) == byte) ≡ false
    by true = ne_eqb (48 + d) byte (λ e. omega (arith, e, small))
    by false = ne_eqb (87 + d) byte (λ e. omega (arith, e, small))

digits_lack : (byte : ℕ) → byte < 48 → (k n : ℕ) (acc : List ℕ) → LacksByte byte acc → LacksByte byte (digits_onto k 10 false n acc)
digits_lack byte small zero n acc h = h
digits_lack byte small (suc k) n acc h =
    let more : LacksByte byte (digit_glyph false (n % 10) ∷ acc) = (glyph_lacks byte (n % 10) small, h) in
    either_lacks byte (n / 10 == 0) (digit_glyph false (n % 10) ∷ acc) (digits_onto k 10 false (n / 10) (digit_glyph false (n % 10) ∷ acc)) more (digits_lack byte small k (n / 10) (digit_glyph false (n % 10) ∷ acc) more)

pub number_lacks : (byte n : ℕ) → byte < 48 → LacksByte byte (decimal n)
unfolding digits
number_lacks byte n small = digits_lack byte small 64 n [] tt

number : (n : ℕ) → LacksByte 10 (decimal n)
number n = number_lacks 10 n (omega arith)

signed : (z : ℤ) → LacksByte 10 (signed_decimal z)
signed (pos n) = number n
signed (negsuc n) = (refl, number (suc n))

word : (xs : List ℕ) → has_no 10 xs ≡ true → LacksByte 10 xs
word xs e = free_test 10 xs e

join : (xs ys : List ℕ) → LacksByte 10 xs → LacksByte 10 ys → LacksByte 10 (xs ++ ys)
join xs ys h k = free_append 10 xs ys h k

place_lacks : (p : Place) → LacksByte 10 (place_text p)
place_lacks p =
    join (decimal p.batch.0) _ (number p.batch.0) (join (codes ".") _ (word (codes ".") refl) (join (decimal p.side) _ (number p.side) (join (codes ".") (decimal p.order) (word (codes ".") refl) (number p.order))))

verdict_lacks : (v : Verdict) → LacksByte 10 (verdict_text v)
verdict_lacks (verdicts.Committed p v) = join (codes "committed ") _ (word (codes "committed ") refl) (join (place_text p) _ (place_lacks p) (join (codes " ") (signed_decimal v) (word (codes " ") refl) (signed v)))
verdict_lacks (verdicts.Code p code) = join (codes "code ") _ (word (codes "code ") refl) (join (place_text p) _ (place_lacks p) (join (codes " ") (decimal code) (word (codes " ") refl) (number code)))
verdict_lacks (verdicts.BatchCode k at code) =
    join (codes "batchcode ") _ (word (codes "batchcode ") refl) (join (decimal k.0) _ (number k.0) (join (codes " ") _ (word (codes " ") refl) (join (decimal at) _ (number at) (join (codes " ") (decimal code) (word (codes " ") refl) (number code)))))
verdict_lacks (verdicts.Cascade k by) = join (codes "cascade ") _ (word (codes "cascade ") refl) (join (decimal k.0) _ (number k.0) (join (codes " ") (decimal by.0) (word (codes " ") refl) (number by.0)))
verdict_lacks (verdicts.Died a older own) =
    join (codes "died actor ") _ (word (codes "died actor ") refl) (join (decimal a.0) _ (number a.0) (join (codes " older ") _ (word (codes " older ") refl) (join (decimal older.0) _ (number older.0) (join (codes " own ") (decimal own.0) (word (codes " own ") refl) (number own.0)))))
verdict_lacks (verdicts.Order m n a) =
    join (codes "order before ") _ (word (codes "order before ") refl) (join (decimal m.0) _ (number m.0) (join (codes " after ") _ (word (codes " after ") refl) (join (decimal n.0) _ (number n.0) (join (codes " actor ") (decimal a.0) (word (codes " actor ") refl) (number a.0)))))
verdict_lacks (verdicts.Unsure l) = join (codes "unsure ") (decimal l) (word (codes "unsure ") refl) (number l)

fields_lack : (zs : List ℤ) → LacksByte 10 (flat_map (λ z. codes " " ++ signed_decimal z) zs)
fields_lack [] = tt
fields_lack (z ∷ zs) = join (codes " " ++ signed_decimal z) (flat_map (λ y. codes " " ++ signed_decimal y) zs) (join (codes " ") (signed_decimal z) (word (codes " ") refl) (signed z)) (fields_lack zs)

-- ---- lines

ended_3 : (a b c : List ℕ) → ended (a ++ (b ++ c)) ≡ a ++ (b ++ (c ++ line_end))
ended_3 a b c = append_assoc a (b ++ c) line_end ∙ ap (λ (zs : List ℕ). a ++ zs) (append_assoc b c line_end)

ended_4 : (a b c d : List ℕ) → ended (a ++ (b ++ (c ++ d))) ≡ a ++ (b ++ (c ++ (d ++ line_end)))
ended_4 a b c d = append_assoc a (b ++ (c ++ d)) line_end ∙ ap (λ (zs : List ℕ). a ++ zs) (ended_3 b c d)

ended_6 : (a b c d e f : List ℕ) → ended (a ++ (b ++ (c ++ (d ++ (e ++ f))))) ≡ a ++ (b ++ (c ++ (d ++ (e ++ (f ++ line_end)))))
ended_6 a b c d e f = append_assoc a (b ++ (c ++ (d ++ (e ++ f)))) line_end ∙ ap (λ (zs : List ℕ). a ++ zs) (append_assoc b (c ++ (d ++ (e ++ f))) line_end ∙ ap (λ (zs : List ℕ). b ++ zs) (ended_4 c d e f))

-- a reply's line without its line feed
abbrev pub reply_body : ℕ → Verdict → List ℕ
reply_body n v = codes "tx " ++ (decimal n ++ (codes " " ++ verdict_text v))

pub reply_ended : (n : ℕ) (v : Verdict) → reply_text n v ≡ ended (reply_body n v)
reply_ended n v = sym (ended_4 (codes "tx ") (decimal n) (codes " ") (verdict_text v))

pub reply_lacks : (n : ℕ) (v : Verdict) → LacksByte 10 (reply_body n v)
reply_lacks n v = join (codes "tx ") _ (word (codes "tx ") refl) (join (decimal n) _ (number n) (join (codes " ") (verdict_text v) (word (codes " ") refl) (verdict_lacks v)))

-- a text that is one whole line
one_line : (P : List ℕ → Type 0) (text body : List ℕ) → text ≡ ended body → LacksByte 10 body → P text → Lined P text
one_line P text body is lacks p = subst (Lined P) (sym is) (lined_line P body lacks (subst P is p))

-- ---- which of them tell of a commit

-- the first and the third letter tell the kind
abbrev tag : List ℕ → ℕ
tag (a ∷ b ∷ c ∷ rest) = a * 256 + c
tag _ = 0

abbrev verdict_tag : Verdict → ℕ
verdict_tag (verdicts.Committed p z) = 25453
verdict_tag (verdicts.Code p c) = 25444
verdict_tag (verdicts.BatchCode k at c) = 25204
verdict_tag (verdicts.Cascade k by) = 25459
verdict_tag (verdicts.Died a older own) = 25701
verdict_tag (verdicts.Order m n a) = 28516
verdict_tag (verdicts.Unsure l) = 30067

tagged : (v : Verdict) → tag (verdict_text v ++ line_end) ≡ verdict_tag v
tagged (verdicts.Committed p z) = refl
tagged (verdicts.Code p c) = refl
tagged (verdicts.BatchCode k at c) = refl
tagged (verdicts.Cascade k by) = refl
tagged (verdicts.Died a older own) = refl
tagged (verdicts.Order m n a) = refl
tagged (verdicts.Unsure l) = refl

-- two lines of replies that are the same tell verdicts of one kind
same_kind : (n m : ℕ) (v u : Verdict) → reply_text n v ≡ reply_text m u → verdict_tag v ≡ verdict_tag u
same_kind n m v u e =
    let h : decimal n ++ 32 ∷ (verdict_text v ++ line_end) ≡ decimal m ++ 32 ∷ (verdict_text u ++ line_end) = cc e in
    let k = cut_one 32 (decimal n) (verdict_text v ++ line_end) (decimal m) (verdict_text u ++ line_end) (number_lacks 32 n (omega arith)) (number_lacks 32 m (omega arith)) h in
    sym (tagged v) ∙ (ap tag k.1 ∙ tagged u)

-- a reply's line that tells of a commit is one of a verdict that does
commit_of : (n : ℕ) (v : Verdict) → TellsCommit (reply_text n v) → (p : Place) × (z : ℤ) × (v ≡ verdicts.Committed p z)
commit_of n (verdicts.Committed p z) t = (p, z, refl)
commit_of n (verdicts.Code p c) t = absurd (omega (arith, same_kind n t.0 (verdicts.Code p c) (verdicts.Committed t.1 t.2) t.3))
commit_of n (verdicts.BatchCode k at c) t = absurd (omega (arith, same_kind n t.0 (verdicts.BatchCode k at c) (verdicts.Committed t.1 t.2) t.3))
commit_of n (verdicts.Cascade k by) t = absurd (omega (arith, same_kind n t.0 (verdicts.Cascade k by) (verdicts.Committed t.1 t.2) t.3))
commit_of n (verdicts.Died a older own) t = absurd (omega (arith, same_kind n t.0 (verdicts.Died a older own) (verdicts.Committed t.1 t.2) t.3))
commit_of n (verdicts.Order k l a) t = absurd (omega (arith, same_kind n t.0 (verdicts.Order k l a) (verdicts.Committed t.1 t.2) t.3))
commit_of n (verdicts.Unsure l) t = absurd (omega (arith, same_kind n t.0 (verdicts.Unsure l) (verdicts.Committed t.1 t.2) t.3))

-- ---- of those that tell of none

-- the line does not tell of a commit
abbrev pub IsQuiet : List ℕ → Type 0
IsQuiet line = ¬ TellsCommit line

abbrev first_byte : List ℕ → ℕ
first_byte [] = 0
first_byte (b ∷ bs) = b

-- it begins with another letter
quiet_by : (line : List ℕ) → first_byte line < 116 → IsQuiet line
quiet_by line other t = let e : first_byte line ≡ 116 = ap first_byte t.3 in omega (arith, e, other)

unsure_quiet : (log n : ℕ) → IsQuiet (unsure_line log n)
unsure_quiet log n t = let k = commit_of n (verdicts.Unsure log) t in let e : verdict_tag (verdicts.Unsure log) ≡ verdict_tag (verdicts.Committed k.0 k.1) = ap verdict_tag k.2 in omega (arith, e)

pub unsure_lined : (log n : ℕ) → Lined IsQuiet (unsure_line log n)
unsure_lined log n = one_line IsQuiet (unsure_line log n) (reply_body n (verdicts.Unsure log)) (reply_ended n (verdicts.Unsure log)) (reply_lacks n (verdicts.Unsure log)) (unsure_quiet log n)

actor_lined : (a : ℕ) (s : State) → Lined IsQuiet (actor_text a s)
actor_lined a s =
    let fields = flat_map (λ z. codes " " ++ signed_decimal z) (shown_fields s.0) in
    one_line IsQuiet (actor_text a s) (codes "actor " ++ (decimal a ++ fields)) (sym (ended_3 (codes "actor ") (decimal a) fields))
    (join (codes "actor ") _ (word (codes "actor ") refl) (join (decimal a) fields (number a) (fields_lack (shown_fields s.0)))) (quiet_by (actor_text a s) (omega arith))

actors_lined : (a : ℕ) (states : List State) → Lined IsQuiet (actors_text a states)
actors_lined a [] = lined_nothing IsQuiet
actors_lined a (s ∷ states) = lined_join IsQuiet (actor_text a s) (actors_text (a + 1) states) (actor_lined a s) (actors_lined (a + 1) states)

end_lined : (x y z : ℕ) → Lined IsQuiet (end_text x y z)
end_lined x y z =
    one_line IsQuiet (end_text x y z) (codes "end committed " ++ (decimal x ++ (codes " aborted " ++ (decimal y ++ (codes " batches " ++ decimal z)))))
    (sym (ended_6 (codes "end committed ") (decimal x) (codes " aborted ") (decimal y) (codes " batches ") (decimal z)))
    (join (codes "end committed ") _ (word (codes "end committed ") refl) (join (decimal x) _ (number x) (join (codes " aborted ") _ (word (codes " aborted ") refl) (join (decimal y) _ (number y) (join (codes " batches ") (decimal z) (word (codes " batches ") refl) (number z))))))
    (quiet_by (end_text x y z) (omega arith))

pub ending_lined : {C : Type 0} (m : Fixed C) (es : List Event) → Lined IsQuiet (ending_text m es)
ending_lined m es =
    let r = report es (reached m es) in
    lined_join IsQuiet (actors_text 0 r.states) (end_text r.committed r.aborted r.batches) (actors_lined 0 r.states) (end_lined r.committed r.aborted r.batches)

-- ---- of replies

-- the line is that of a transaction that has the verdict that it committed
abbrev pub IsTold : {C : Type 0} → Fixed C → List Event → List ℕ → Type 0
IsTold m es line = (n : ℕ) × (p : Place) × (z : ℤ) × (line ≡ reply_text n (verdicts.Committed p z)) × (verdict n (reached m es).book (reached m es).desk ≡ Some (verdicts.Committed p z))

-- a line that tells of a commit is that of one that has this verdict
abbrev pub Tells : {C : Type 0} → Fixed C → List Event → List ℕ → Type 0
Tells m es line = TellsCommit line → IsTold m es line

pub quiet_tells : {C : Type 0} (m : Fixed C) (es : List Event) (text : List ℕ) → Lined IsQuiet text → Lined (Tells m es) text
quiet_tells m es text a = lined_weaker IsQuiet (Tells m es) text (λ line quiet t. absurd (quiet t)) a

module _ {C : Type 0} (m : Fixed C) (es : List Event) where
  told : (n : ℕ) (v : Verdict) → verdict n (reached m es).book (reached m es).desk ≡ Some v → Tells m es (reply_text n v)
  told n v e t = let k = commit_of n v t in (n, k.0, k.1, ap (reply_text n) k.2, e ∙ ap Some k.2)

  verdict_lined : (n : ℕ) (o : Option Verdict) → verdict n (reached m es).book (reached m es).desk ≡ o → Lined (Tells m es) (verdict_line n o)
  verdict_lined n None e = lined_nothing (Tells m es)
  verdict_lined n (Some v) e = one_line (Tells m es) (reply_text n v) (reply_body n v) (reply_ended n v) (reply_lacks n v) (told n v e)

  pub line_lined : (n : ℕ) → Lined (Tells m es) (line_in (reached m es) n)
  line_lined n = verdict_lined n (verdict n (reached m es).book (reached m es).desk) refl

  answers_lined : (ns : List ℕ) → Lined (Tells m es) (flat_map (λ x. verdict_line x.tx x.verdict) (map (answer (reached m es)) ns))
  answers_lined [] = lined_nothing (Tells m es)
  answers_lined (n ∷ ns) = lined_join (Tells m es) (line_in (reached m es) n) (flat_map (λ x. verdict_line x.tx x.verdict) (map (answer (reached m es)) ns)) (line_lined n) (answers_lined ns)

  pub replies_lined : Lined (Tells m es) (replies_text m es)
  replies_lined = answers_lined (replied es)
