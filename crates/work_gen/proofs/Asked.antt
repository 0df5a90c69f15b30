-- The line of what is drawn asks for a transaction.
use Rattle.std.proofs.Common.{◌≡◌, ◌≢◌, ℕ, ℤ, pos, ◌<◌, ◌≤◌, Bool, true, false, if◌then◌else◌, List, [], ◌∷◌, ◌++◌, length, map, codes, refl, arith, ap, sym, ◌∙◌, append_assoc, append-nil}
use Rattle.std.specs.Prelude.{nat_lt, Contains, FitsSigned, Ok}
use Rattle.std.specs.List.{AllByRecursion}
use Rattle.std.specs.Int.{w64}
use Rattle.std.specs.Fmt.{decimal, signed_decimal}
use Rattle.std.proofs.lemmas.Bool.{lt-ltb, ltb-true}
use Rattle.std.proofs.lemmas.Fmt.{decimal_digit}
use Rattle.snap_base.specs.declared.ids.ActorId.{ActorId}
use Rattle.snap_base.specs.declared.transactions.Kind.{Kind}
use Rattle.snap_base.specs.declared.transactions.Kind.TheVariants.{Pact, Act}
use Rattle.snap_base.specs.declared.transactions.Tx.{Tx}
use Rattle.aml_check.specs.Names.{method_at}
use Rattle.aml_check.specs.Transactions.{IsUse}
use Rattle.work_text.specs.Lines.{Line, words}
use Rattle.work_text.specs.Transactions.{use_word, transaction_words, AreUses, transaction}
use Rattle.work_text.specs.Reads.{first_is_actor}
use Rattle.work_gen.specs.declared.draws.Method.{Method}
use Rattle.work_gen.specs.declared.draws.Method.TheVariants.{Balance, Deposit, Savings, Amalgamate, Check}
use Rattle.work_gen.specs.declared.draws.Drawn.{Drawn}
use Rattle.work_gen.specs.Generated.{name, argument, one_use, two_uses, uses, transaction_line}
use Rattle.work_gen.proofs.Methods.{program}
use Rattle.work_gen.proofs.Plain.{IsPlain, plain_number, word_append, words_front, words_last}

-- ---- the transaction

abbrev place : Method → ℕ
place Balance = 0
place Deposit = 1
place Savings = 2
place Amalgamate = 3
place Check = 4

abbrev args : Method → ℕ → ℕ → List ℤ
args Balance other amount = []
args Deposit other amount = pos amount ∷ []
args Savings other amount = pos amount ∷ []
args Amalgamate other amount = pos other ∷ []
args Check other amount = pos amount ∷ []

abbrev use_of : ℕ → ActorId × ℕ
use_of a = (record { 0 = a }, 1)

abbrev declared : Method → ℕ → ℕ → List (ActorId × ℕ)
declared Balance actor other = use_of actor ∷ []
declared Deposit actor other = use_of actor ∷ []
declared Savings actor other = use_of actor ∷ []
declared Amalgamate actor other = if nat_lt actor other then use_of actor ∷ use_of other ∷ [] else use_of other ∷ use_of actor ∷ []
declared Check actor other = use_of actor ∷ []

abbrev kind_of : Bool → Kind
kind_of true = Act
kind_of false = Pact

abbrev declared_by : Bool → Method → ℕ → ℕ → List (ActorId × ℕ)
declared_by true m actor other = []
declared_by false m actor other = declared m actor other

abbrev pub tx_of : Drawn → Tx
tx_of d = record {
  kind = kind_of d.is_act;
  actor = record { 0 = d.actor };
  method = place d.method;
  args = args d.method d.other d.amount;
  uses = declared_by d.is_act d.method d.actor d.other;
}

-- what is drawn is in range
pub record IsDrawn (d : Drawn) : Type 0 where
  pub actor : d.actor < 256
  pub other : d.other < 256
  pub apart : d.actor ≢ d.other
  pub amount : d.amount < 256

-- ---- its words

plain : (n : ℕ) → n < 256 → IsPlain (decimal n)
plain n lt = plain_number n (omega (arith, lt))

call_front : (m : Method) (o v : ℕ) (rest : List ℕ) → o < 256 → v < 256 → words ((name m ++ argument m o v) ++ 32 ∷ rest) ≡ name m ∷ (map signed_decimal (args m o v) ++ words rest)
call_front Balance o v rest lo lv = refl
call_front Deposit o v rest lo lv = ap (λ ws. codes "deposit" ∷ ws) (words_front (decimal v) rest (plain v lv))
call_front Savings o v rest lo lv = ap (λ ws. codes "savings" ∷ ws) (words_front (decimal v) rest (plain v lv))
call_front Amalgamate o v rest lo lv = ap (λ ws. codes "amalgamate" ∷ ws) (words_front (decimal o) rest (plain o lo))
call_front Check o v rest lo lv = ap (λ ws. codes "check" ∷ ws) (words_front (decimal v) rest (plain v lv))

call_last : (m : Method) (o v : ℕ) → o < 256 → v < 256 → words (name m ++ argument m o v) ≡ name m ∷ map signed_decimal (args m o v)
call_last Balance o v lo lv = refl
call_last Deposit o v lo lv = ap (λ ws. codes "deposit" ∷ ws) (words_last (decimal v) (plain v lv))
call_last Savings o v lo lv = ap (λ ws. codes "savings" ∷ ws) (words_last (decimal v) (plain v lv))
call_last Amalgamate o v lo lv = ap (λ ws. codes "amalgamate" ∷ ws) (words_last (decimal o) (plain o lo))
call_last Check o v lo lv = ap (λ ws. codes "check" ∷ ws) (words_last (decimal v) (plain v lv))

use_bytes : (a : ℕ) → decimal a ++ codes ":1" ≡ use_word (use_of a)
use_bytes a = ap (λ bs. decimal a ++ (codes ":" ++ bs)) (sym (decimal_digit 1 (omega arith))) ∙ sym (append_assoc (decimal a) (codes ":") (decimal 1))

plain_use : (a : ℕ) → a < 256 → IsPlain (decimal a ++ codes ":1")
plain_use a lt = word_append (decimal a) (codes ":1") (plain a lt) refl

one_used : (a : ℕ) → a < 256 → words (codes "uses" ++ one_use a) ≡ codes "uses" ∷ use_word (use_of a) ∷ []
one_used a lt = ap (λ ws. codes "uses" ∷ ws) (words_last (decimal a ++ codes ":1") (plain_use a lt)) ∙ ap (λ w. codes "uses" ∷ w ∷ []) (use_bytes a)

two_used : (a b : ℕ) → a < 256 → b < 256 → words (codes "uses" ++ two_uses a b) ≡ codes "uses" ∷ use_word (use_of a) ∷ use_word (use_of b) ∷ []
two_used a b la lb =
    ap (λ bs. codes "uses" ∷ words bs) (sym (append_assoc (decimal a) (codes ":1") (32 ∷ (decimal b ++ codes ":1"))))
    ∙ ap (λ ws. codes "uses" ∷ ws) (words_front (decimal a ++ codes ":1") (decimal b ++ codes ":1") (plain_use a la))
    ∙ ap (λ ws. codes "uses" ∷ (decimal a ++ codes ":1") ∷ ws) (words_last (decimal b ++ codes ":1") (plain_use b lb))
    ∙ ap (λ w. codes "uses" ∷ w ∷ (decimal b ++ codes ":1") ∷ []) (use_bytes a)
    ∙ ap (λ w. codes "uses" ∷ use_word (use_of a) ∷ w ∷ []) (use_bytes b)

either_used : (t : Bool) (a b : ℕ) → a < 256 → b < 256 → words (codes "uses" ++ (if t then two_uses a b else two_uses b a)) ≡ codes "uses" ∷ map use_word (if t then use_of a ∷ use_of b ∷ [] else use_of b ∷ use_of a ∷ [])
either_used true a b la lb = two_used a b la lb
either_used false a b la lb = two_used b a lb la

used : (m : Method) (a o : ℕ) → a < 256 → o < 256 → words (codes "uses" ++ uses m a o) ≡ codes "uses" ∷ map use_word (declared m a o)
used Balance a o la lo = one_used a la
used Deposit a o la lo = one_used a la
used Savings a o la lo = one_used a la
used Amalgamate a o la lo = either_used (nat_lt a o) a o la lo
used Check a o la lo = one_used a la

same_name : (m : Method) → name m ≡ (method_at program (place m)).name.name
same_name Balance = refl
same_name Deposit = refl
same_name Savings = refl
same_name Amalgamate = refl
same_name Check = refl

spelled : (t : Bool) (m : Method) (a o v : ℕ) → a < 256 → o < 256 → v < 256
    → words (transaction_line (record { method = m; actor = a; other = o; amount = v; is_act = t })) ≡ transaction_words program (tx_of (record { method = m; actor = a; other = o; amount = v; is_act = t }))
spelled true m a o v la lo lv =
    ap (λ ws. codes "act" ∷ ws) (words_front (decimal a) (name m ++ argument m o v) (plain a la))
    ∙ ap (λ ws. codes "act" ∷ decimal a ∷ ws) (call_last m o v lo lv)
    ∙ ap (λ ws. codes "act" ∷ decimal a ∷ name m ∷ ws) (sym (append-nil (map signed_decimal (args m o v))))
    ∙ ap (λ w. codes "act" ∷ decimal a ∷ w ∷ (map signed_decimal (args m o v) ++ [])) (same_name m)
spelled false m a o v la lo lv =
    ap (λ bs. codes "pact" ∷ words bs) (append_assoc (decimal a) (32 ∷ (name m ++ argument m o v)) (codes " uses" ++ uses m a o))
    ∙ ap (λ ws. codes "pact" ∷ ws) (words_front (decimal a) ((name m ++ argument m o v) ++ (codes " uses" ++ uses m a o)) (plain a la))
    ∙ ap (λ ws. codes "pact" ∷ decimal a ∷ ws) (call_front m o v (codes "uses" ++ uses m a o) lo lv)
    ∙ ap (λ ws. codes "pact" ∷ decimal a ∷ name m ∷ (map signed_decimal (args m o v) ++ ws)) (used m a o la lo)
    ∙ ap (λ w. codes "pact" ∷ decimal a ∷ w ∷ (map signed_decimal (args m o v) ++ codes "uses" ∷ map use_word (declared m a o))) (same_name m)

-- ---- its conditions

place_in : (m : Method) → place m < length program
place_in Balance = omega arith
place_in Deposit = omega arith
place_in Savings = omega arith
place_in Amalgamate = omega arith
place_in Check = omega arith

counted : (m : Method) (o v : ℕ) → length (args m o v) ≡ length (method_at program (place m)).parameters
counted Balance o v = refl
counted Deposit o v = refl
counted Savings o v = refl
counted Amalgamate o v = refl
counted Check o v = refl

fits : (v : ℕ) → v < 256 → FitsSigned w64 (pos v)
fits v lt = omega (arith, lt)

values : (m : Method) (o v : ℕ) → o < 256 → v < 256 → AllByRecursion (FitsSigned w64) (args m o v)
values Balance o v lo lv = tt
values Deposit o v lo lv = (fits v lv, tt)
values Savings o v lo lv = (fits v lv, tt)
values Amalgamate o v lo lv = (fits o lo, tt)
values Check o v lo lv = (fits v lv, tt)

one_call : (a : ℕ) → a < 256 → IsUse 256 (use_of a)
one_call a lt = record { actor = lt; calls = (omega arith, omega arith) }

pub record IsDeclared (a : ℕ) (us : List (ActorId × ℕ)) : Type 0 where
  pub uses : AreUses Pact 256 us
  pub few : length us ≤ 16
  pub root : Contains (map (λ (u : ActorId × ℕ). u.0.0) us) a

alone : (a : ℕ) → a < 256 → IsDeclared a (use_of a ∷ [])
alone a lt = record { uses = (omega arith, (one_call a lt, tt), tt); few = omega arith; root = (0, omega arith, refl) }

two : (t : Bool) (a o : ℕ) → nat_lt a o ≡ t → a < 256 → o < 256 → a ≢ o → IsDeclared a (if t then use_of a ∷ use_of o ∷ [] else use_of o ∷ use_of a ∷ [])
two true a o e la lo apart = record {
  uses = (omega arith, (one_call a la, (one_call o lo, tt)), (ltb-true a o e, tt));
  few = omega arith;
  root = (0, omega arith, refl);
}
two false a o e la lo apart =
    let above : o < a = below a o e apart in
    record {
      uses = (omega arith, (one_call o lo, (one_call a la, tt)), (above, tt));
      few = omega arith;
      root = (1, omega arith, refl);
    }
  where
    below : (a o : ℕ) → nat_lt a o ≡ false → a ≢ o → o < a
    below a o e apart = grind (arith, lt-ltb)

are_declared : (m : Method) (a o : ℕ) → a < 256 → o < 256 → a ≢ o → IsDeclared a (declared m a o)
are_declared Balance a o la lo apart = alone a la
are_declared Deposit a o la lo apart = alone a la
are_declared Savings a o la lo apart = alone a la
are_declared Amalgamate a o la lo apart = two (nat_lt a o) a o refl la lo apart
are_declared Check a o la lo apart = alone a la

asks : (t : Bool) (m : Method) (a o v before : ℕ) (line : Line) → line.bytes ≡ transaction_line (record { method = m; actor = a; other = o; amount = v; is_act = t })
    → IsDrawn (record { method = m; actor = a; other = o; amount = v; is_act = t }) → before < 20000
    → transaction program 256 before line (Ok (tx_of (record { method = m; actor = a; other = o; amount = v; is_act = t })))
asks true m a o v before line e is lt = (
  record {
    spelled = ap words e ∙ spelled true m a o v is.actor is.other is.amount;
    actor = is.actor;
    method = place_in m;
    arguments = counted m o v;
    values = values m o v is.other is.amount;
    uses = refl;
  },
  omega arith,
  lt,
  tt,
)
asks false m a o v before line e is lt =
    let d = are_declared m a o is.actor is.other is.apart in (
      record {
        spelled = ap words e ∙ spelled false m a o v is.actor is.other is.amount;
        actor = is.actor;
        method = place_in m;
        arguments = counted m o v;
        values = values m o v is.other is.amount;
        uses = d.uses;
      },
      d.few,
      lt,
      d.root,
    )

pub line_asks : (d : Drawn) (before : ℕ) (line : Line) → line.bytes ≡ transaction_line d → IsDrawn d → before < 20000 → transaction program 256 before line (Ok (tx_of d))
line_asks d before line e is lt = asks d.is_act d.method d.actor d.other d.amount before line e is lt

-- and not for an actor's state
no_actor_by : (t : Bool) (m : Method) (a o v : ℕ) → a < 256 → o < 256 → v < 256 → first_is_actor (words (transaction_line (record { method = m; actor = a; other = o; amount = v; is_act = t }))) ≡ false
no_actor_by true m a o v la lo lv = ap first_is_actor (spelled true m a o v la lo lv)
no_actor_by false m a o v la lo lv = ap first_is_actor (spelled false m a o v la lo lv)

pub no_actor : (d : Drawn) → IsDrawn d → first_is_actor (words (transaction_line d)) ≡ false
no_actor d is = no_actor_by d.is_act d.method d.actor d.other d.amount is.actor is.other is.amount
