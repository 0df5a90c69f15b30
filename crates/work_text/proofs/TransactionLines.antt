-- A line that asks for a transaction, by its words: the first three, one for each argument, and those behind.
use Rattle.std.proofs.Common.{◌≡◌, ℕ, ℤ, ◌+◌, ◌-◌, ◌≤◌, List, [], ◌∷◌, ◌++◌, length, get_or, map, take, drop, sym, ap, ◌∙◌, arith, length-append, Bor}
use Rattle.std.specs.Prelude.{Option, Some}
use Rattle.std.specs.Fmt.{signed_decimal}
use Rattle.std.proofs.Math.Seq.{take-append_seam, drop-append_seam}
use Rattle.std.proofs.lemmas.List.{length-map, length-drop, length-take-le, take-append-drop, take-map, take_rest, drop-drop}
use Rattle.snap_base.specs.declared.ids.ActorId.{ActorId}
use Rattle.snap_base.specs.declared.transactions.Kind.{Kind}
use Rattle.snap_base.specs.declared.transactions.Tx.{Tx}
use Rattle.aml_tree.specs.Tree.{CheckedMethod}
use Rattle.aml_check.specs.Names.{method_at}
use Rattle.work_text.specs.Lines.{words}
use Rattle.work_text.specs.Transactions.{Asks, AreUses, uses_words, transaction_words}
use Rattle.work_text.specs.Parts.{AreNumbers, IsCall}
use Rattle.work_text.proofs.Lists.{drop_step}
use Rattle.work_text.proofs.ActorLines.{behind}

abbrev pub words_now : List (Bor (List ℕ)) → List (List ℕ)
words_now ws = map (λ word. word.now) ws

-- ---- a call with its arguments and what it declares

by_parts : (xs : List (List ℕ)) (a b c : List ℕ) (n : ℕ) (middle end : List (List ℕ)) → 3 + n ≤ length xs → get_or xs 0 [] ≡ a → get_or xs 1 [] ≡ b → get_or xs 2 [] ≡ c → take n (drop 3 xs) ≡ middle → drop (3 + n) xs ≡ end
    → xs ≡ a ∷ b ∷ c ∷ (middle ++ end)
by_parts xs a b c n middle end count p0 p1 p2 m e =
    drop_step xs 0 a _ (omega arith) p0 (drop_step xs 1 b _ (omega arith) p1 (drop_step xs 2 c _ (omega arith) p2
    (sym (take-append-drop n (drop 3 xs)) ∙ ap (λ ys. ys ++ drop n (drop 3 xs)) m ∙ ap (λ ys. middle ++ ys) (drop-drop n 3 xs ∙ e))))

abbrev pub tx_of : Kind → ℕ → ℕ → List ℤ → List (ActorId × ℕ) → Tx
tx_of kind actor method args uses = record { kind = kind; actor = record { 0 = actor }; method = method; args = args; uses = uses }

parts_ask : (p : List CheckedMethod) (actors : ℕ) (line : List ℕ) (xs : List (List ℕ)) (kind : Kind) (actor method n : ℕ) (args : List ℤ) (uses : List (ActorId × ℕ)) → xs ≡ words line → n ≡ length (method_at p method).parameters
    → IsCall p actors xs kind actor method → AreNumbers (take n (drop 3 xs)) args → drop (3 + n) xs ≡ uses_words kind uses → AreUses kind actors uses → Asks p actors line (tx_of kind actor method args uses)
parts_ask p actors line xs kind actor method n args uses e m call numbers behind declared = record {
  spelled = sym e ∙ by_parts xs _ _ _ n _ _ (omega (arith, call.count)) call.first call.second call.third numbers.0 behind;
  actor = call.known_actor;
  method = call.known_method;
  arguments = omega (arith, call.count, ap length numbers.0, length-map args signed_decimal, length-take-le n (drop 3 xs) (omega (arith, length-drop 3 xs, call.count)));
  values = numbers.1;
  uses = declared;
}

-- ---- and back

asks_call : (p : List CheckedMethod) (actors : ℕ) (line : List ℕ) (xs : List (List ℕ)) (tx : Tx) → xs ≡ words line → Asks p actors line tx → IsCall p actors xs tx.kind tx.actor.0 tx.method
asks_call p actors line xs tx e h =
    let same : xs ≡ transaction_words p tx = e ∙ h.spelled in
    record {
      count = omega (arith, ap length same, length-append (map signed_decimal tx.args) (uses_words tx.kind tx.uses), length-map tx.args signed_decimal, h.arguments);
      first = ap (λ ys. get_or ys 0 []) same;
      second = ap (λ ys. get_or ys 1 []) same;
      third = ap (λ ys. get_or ys 2 []) same;
      known_actor = h.actor;
      known_method = h.method;
    }

asks_numbers : (p : List CheckedMethod) (actors : ℕ) (line : List ℕ) (xs : List (List ℕ)) (tx : Tx) (n : ℕ) → xs ≡ words line → n ≡ length (method_at p tx.method).parameters → Asks p actors line tx → AreNumbers (take n (drop 3 xs)) tx.args
asks_numbers p actors line xs tx n e m h =
    let same : xs ≡ transaction_words p tx = e ∙ h.spelled in
    let args : List (List ℕ) = map signed_decimal tx.args in
    let count : n ≡ length args = omega (arith, m, h.arguments, length-map tx.args signed_decimal) in
    (ap (λ ys. take n (drop 3 ys)) same ∙ ap (λ k. take k (args ++ uses_words tx.kind tx.uses)) count ∙ take-append_seam args (uses_words tx.kind tx.uses), h.values)

asks_uses : (p : List CheckedMethod) (actors : ℕ) (line : List ℕ) (xs : List (List ℕ)) (tx : Tx) (n : ℕ) → xs ≡ words line → n ≡ length (method_at p tx.method).parameters → Asks p actors line tx → drop (3 + n) xs ≡ uses_words tx.kind tx.uses
asks_uses p actors line xs tx n e m h =
    let same : xs ≡ transaction_words p tx = e ∙ h.spelled in
    let args : List (List ℕ) = map signed_decimal tx.args in
    let count : n ≡ length args = omega (arith, m, h.arguments, length-map tx.args signed_decimal) in
    sym (drop-drop n 3 xs) ∙ ap (λ ys. drop n (drop 3 ys)) same ∙ ap (λ k. drop k (args ++ uses_words tx.kind tx.uses)) count ∙ drop-append_seam args (uses_words tx.kind tx.uses)

-- ---- at the words as they were read

between : (ws : List (Bor (List ℕ))) (n : ℕ) → words_now (take n (drop 3 ws)) ≡ take n (drop 3 (words_now ws))
between ws n = sym (take-map (λ (word : Bor (List ℕ)). word.now) n (drop 3 ws)) ∙ ap (take n) (behind ws 3)

pub at_middle : (ws vs : List (Bor (List ℕ))) (k n : ℕ) → vs ≡ ws → k ≡ n → take k (drop 3 vs) ≡ take n (drop 3 ws)
at_middle ws vs k n e f = ap (λ m. take m (drop 3 vs)) f ∙ ap (λ xs. take n (drop 3 xs)) e

pub at_end : (ws vs : List (Bor (List ℕ))) (k n : ℕ) → vs ≡ ws → k ≡ 3 + n → take (length vs - k) (drop k vs) ≡ drop (3 + n) ws
at_end ws vs k n e f = take_rest vs k ∙ ap (λ m. drop m vs) f ∙ ap (drop (3 + n)) e

pub line_asks : (p : List CheckedMethod) (actors : ℕ) (line : List ℕ) (ws : List (Bor (List ℕ))) (kind : Kind) (actor method n : ℕ) (args : List ℤ) (uses : List (ActorId × ℕ)) (middle end : List (Bor (List ℕ))) → words_now ws ≡ words line
    → n ≡ length (method_at p method).parameters → middle ≡ take n (drop 3 ws) → end ≡ drop (3 + n) ws → IsCall p actors (words_now ws) kind actor method → AreNumbers (words_now middle) args
    → words_now end ≡ uses_words kind uses → AreUses kind actors uses → Asks p actors line (tx_of kind actor method args uses)
line_asks p actors line ws kind actor method n args uses middle end e m em ee call numbers declared are =
    parts_ask p actors line (words_now ws) kind actor method n args uses e m call (rw (ap words_now em ∙ between ws n) at numbers) (sym (ap words_now ee ∙ behind ws (3 + n)) ∙ declared) are

-- no call is read
pub no_call : (p : List CheckedMethod) (actors : ℕ) (line : List ℕ) (ws : List (Bor (List ℕ))) (tx : Tx) → words_now ws ≡ words line → ((kind : Kind) (actor method : ℕ) → ¬ IsCall p actors (words_now ws) kind actor method) → ¬ Asks p actors line tx
no_call p actors line ws tx e none h = none tx.kind tx.actor.0 tx.method (asks_call p actors line (words_now ws) tx e h)

-- the call that is read is the transaction's
abbrev pub IsOnlyCall : List CheckedMethod → ℕ → List (Bor (List ℕ)) → Kind → ℕ → ℕ → Type 0
IsOnlyCall p actors ws kind actor method = (k : Kind) (a m : ℕ) → IsCall p actors (words_now ws) k a m → ◌≡◌ {A = Option (Kind × ℕ × ℕ)} (Some (kind, actor, method)) (Some (k, a, m))

only_call : (p : List CheckedMethod) (actors : ℕ) (line : List ℕ) (ws : List (Bor (List ℕ))) (kind : Kind) (actor method : ℕ) (tx : Tx) → words_now ws ≡ words line → IsOnlyCall p actors ws kind actor method → Asks p actors line tx
    → (kind ≡ tx.kind) × (method ≡ tx.method)
only_call p actors line ws kind actor method tx e one h =
    let some = one tx.kind tx.actor.0 tx.method (asks_call p actors line (words_now ws) tx e h) in
    let same : ◌≡◌ {A = Kind × ℕ × ℕ} (kind, actor, method) (tx.kind, tx.actor.0, tx.method) = cc some in
    (ap (λ (t : Kind × ℕ × ℕ). t.0) same, ap (λ (t : Kind × ℕ × ℕ). t.2) same)

pub no_numbers : (p : List CheckedMethod) (actors : ℕ) (line : List ℕ) (ws : List (Bor (List ℕ))) (kind : Kind) (actor method n : ℕ) (middle : List (Bor (List ℕ))) (tx : Tx) → words_now ws ≡ words line
    → n ≡ length (method_at p method).parameters → middle ≡ take n (drop 3 ws) → IsOnlyCall p actors ws kind actor method → ((args : List ℤ) → ¬ AreNumbers (words_now middle) args) → ¬ Asks p actors line tx
no_numbers p actors line ws kind actor method n middle tx e m em one none h =
    let same = only_call p actors line ws kind actor method tx e one h in
    none tx.args (rw (ap words_now em ∙ between ws n) (asks_numbers p actors line (words_now ws) tx n e (m ∙ ap (λ k. length (method_at p k).parameters) same.1) h))

pub no_uses : (p : List CheckedMethod) (actors : ℕ) (line : List ℕ) (ws : List (Bor (List ℕ))) (kind : Kind) (actor method n : ℕ) (end : List (Bor (List ℕ))) (tx : Tx) → words_now ws ≡ words line
    → n ≡ length (method_at p method).parameters → end ≡ drop (3 + n) ws → IsOnlyCall p actors ws kind actor method → ((uses : List (ActorId × ℕ)) → AreUses kind actors uses → words_now end ≡ uses_words kind uses → ⊥) → ¬ Asks p actors line tx
no_uses p actors line ws kind actor method n end tx e m ee one none h =
    let same = only_call p actors line ws kind actor method tx e one h in
    let spelled : words_now end ≡ uses_words tx.kind tx.uses = ap words_now ee ∙ behind ws (3 + n) ∙ asks_uses p actors line (words_now ws) tx n e (m ∙ ap (λ k. length (method_at p k).parameters) same.1) h in
    none tx.uses (rw same.0 h.uses) (rw same.0 spelled)
