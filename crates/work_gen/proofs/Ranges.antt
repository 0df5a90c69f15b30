-- What is drawn is in range, and each line is plain and short.
use Rattle.std.proofs.Common.{◌≡◌, ◌≢◌, ℕ, ◌+◌, ◌*◌, ◌%◌, ◌<◌, ◌≤◌, Bool, true, false, if◌then◌else◌, List, ◌++◌, length, map, codes, refl, arith, length-append}
use Rattle.std.specs.Prelude.{nat_le, nat_lt, zero, suc}
use Rattle.std.specs.List.{AllByRecursion, range_with_len}
use Rattle.std.specs.Fmt.{decimal}
use Rattle.std.proofs.lemmas.Fmt.{length-decimal-le}
use Rattle.std.proofs.lemmas.Nat.{mod_below}
use Rattle.std.proofs.lemmas.Bool.{le-leb, leb-true}
use Rattle.work_gen.specs.declared.draws.Method.{Method}
use Rattle.work_gen.specs.declared.draws.Method.TheVariants.{Balance, Deposit, Savings, Amalgamate, Check}
use Rattle.work_gen.specs.declared.draws.Drawn.{Drawn}
use Rattle.work_gen.specs.Generated.{word, other_than, drawn, name, argument, one_use, two_uses, uses, call, transaction_line, actor_line, head_lines}
use Rattle.work_gen.proofs.Asked.{IsDrawn}
use Rattle.work_gen.proofs.Plain.{IsLine, IsKept, line_append, line_word, plain_number}

-- ---- the other actor

pub record IsOther (a n : ℕ) : Type 0 where
  pub within : n < 256
  pub apart : a ≢ n

other_by : (t : Bool) (a n : ℕ) → nat_le a n ≡ t → n < 255 → IsOther a (if t then n + 1 else n)
other_by true a n e lt = let le : a ≤ n = leb-true a n e in record { within = omega arith; apart = λ same. omega (arith, same, le) }
other_by false a n e lt = let off : n < a = above a n e in record { within = omega arith; apart = λ same. omega (arith, same, off) }
  where
    above : (a n : ℕ) → nat_le a n ≡ false → n < a
    above a n e = grind (arith, le-leb)

other_is : (a n : ℕ) → n < 255 → IsOther a (other_than a n)
other_is a n lt = other_by (nat_le a n) a n refl lt

pub is_drawn : (seed i : ℕ) → IsDrawn (drawn seed i)
is_drawn seed i =
    let o = other_is (word seed (5 * i + 1) % 256) (word seed (5 * i + 2) % 255) (mod_below (word seed (5 * i + 2)) 255 (omega arith)) in
    record {
      actor = mod_below (word seed (5 * i + 1)) 256 (omega arith);
      other = o.within;
      apart = o.apart;
      amount = omega (arith, mod_below (word seed (5 * i + 3)) 50 (omega arith));
    }

-- ---- pieces of lines: plain, and of so many bytes at most

record IsPiece (most : ℕ) (bytes : List ℕ) : Type 0 where
  pub plain : IsLine bytes
  pub short : length bytes ≤ most

join : (m n : ℕ) (xs ys : List ℕ) → IsPiece m xs → IsPiece n ys → IsPiece (m + n) (xs ++ ys)
join m n xs ys p q = record { plain = line_append xs ys p.plain q.plain; short = omega (arith, length-append xs ys, p.short, q.short) }

number : (n : ℕ) → n < 256 → IsPiece 3 (decimal n)
number n lt = record { plain = line_word (decimal n) (plain_number n (omega (arith, lt))); short = length-decimal-le 3 n (omega arith) (omega (arith, lt)) (omega (arith, lt)) }

name_piece : (m : Method) → IsPiece 10 (name m)
name_piece Balance = record { plain = refl; short = omega arith }
name_piece Deposit = record { plain = refl; short = omega arith }
name_piece Savings = record { plain = refl; short = omega arith }
name_piece Amalgamate = record { plain = refl; short = omega arith }
name_piece Check = record { plain = refl; short = omega arith }

blank : IsPiece 1 (codes " ")
blank = record { plain = refl; short = omega arith }

one : IsPiece 2 (codes ":1")
one = record { plain = refl; short = omega arith }

one_blank : IsPiece 3 (codes ":1 ")
one_blank = record { plain = refl; short = omega arith }

behind_blank : (n : ℕ) → n < 256 → IsPiece 4 (codes " " ++ decimal n)
behind_blank n lt = join 1 3 (codes " ") (decimal n) blank (number n lt)

argument_piece : (m : Method) (o v : ℕ) → o < 256 → v < 256 → IsPiece 4 (argument m o v)
argument_piece Balance o v lo lv = record { plain = refl; short = omega arith }
argument_piece Deposit o v lo lv = behind_blank v lv
argument_piece Savings o v lo lv = behind_blank v lv
argument_piece Amalgamate o v lo lv = behind_blank o lo
argument_piece Check o v lo lv = behind_blank v lv

one_piece : (a : ℕ) → a < 256 → IsPiece 6 (one_use a)
one_piece a la = join 1 5 (codes " ") (decimal a ++ codes ":1") blank (join 3 2 (decimal a) (codes ":1") (number a la) one)

two_piece : (a b : ℕ) → a < 256 → b < 256 → IsPiece 12 (two_uses a b)
two_piece a b la lb =
    join 1 11 (codes " ") _ blank (join 3 8 (decimal a) _ (number a la) (join 3 5 (codes ":1 ") _ one_blank (join 3 2 (decimal b) (codes ":1") (number b lb) one)))

weaken : (m n : ℕ) (xs : List ℕ) → m ≤ n → IsPiece m xs → IsPiece n xs
weaken m n xs le p = record { plain = p.plain; short = omega (arith, p.short, le) }

either_piece : (t : Bool) (a b : ℕ) → a < 256 → b < 256 → IsPiece 12 (if t then two_uses a b else two_uses b a)
either_piece true a b la lb = two_piece a b la lb
either_piece false a b la lb = two_piece b a lb la

uses_piece : (m : Method) (a o : ℕ) → a < 256 → o < 256 → IsPiece 12 (uses m a o)
uses_piece Balance a o la lo = weaken 6 12 (one_use a) (omega arith) (one_piece a la)
uses_piece Deposit a o la lo = weaken 6 12 (one_use a) (omega arith) (one_piece a la)
uses_piece Savings a o la lo = weaken 6 12 (one_use a) (omega arith) (one_piece a la)
uses_piece Amalgamate a o la lo = either_piece (nat_lt a o) a o la lo
uses_piece Check a o la lo = weaken 6 12 (one_use a) (omega arith) (one_piece a la)

call_piece : (d : Drawn) → IsDrawn d → IsPiece 19 (call d)
call_piece d is =
    join 1 18 (codes " ") _ blank (join 3 15 (decimal d.actor) _ (number d.actor is.actor)
    (join 1 14 (codes " ") _ blank (join 10 4 (name d.method) (argument d.method d.other d.amount) (name_piece d.method) (argument_piece d.method d.other d.amount is.other is.amount))))

act : IsPiece 3 (codes "act")
act = record { plain = refl; short = omega arith }

pact : IsPiece 4 (codes "pact")
pact = record { plain = refl; short = omega arith }

uses_word : IsPiece 5 (codes " uses")
uses_word = record { plain = refl; short = omega arith }

kept_by : (t : Bool) (d : Drawn) → IsDrawn d → IsKept (if t then codes "act" ++ call d else codes "pact" ++ (call d ++ (codes " uses" ++ uses d.method d.actor d.other)))
kept_by true d is =
    let p : IsPiece 22 (codes "act" ++ call d) = join 3 19 (codes "act") (call d) act (call_piece d is) in
    record { plain = p.plain; short = omega (arith, p.short); said = refl }
kept_by false d is =
    let p : IsPiece 40 (codes "pact" ++ (call d ++ (codes " uses" ++ uses d.method d.actor d.other))) =
    join 4 36 (codes "pact") _ pact (join 19 17 (call d) _ (call_piece d is) (join 5 12 (codes " uses") _ uses_word (uses_piece d.method d.actor d.other is.actor is.other))) in
    record { plain = p.plain; short = omega (arith, p.short); said = refl }

kept_transaction : (d : Drawn) → IsDrawn d → IsKept (transaction_line d)
kept_transaction d is = kept_by d.is_act d is

pub kept_transactions : (seed i n : ℕ) → AllByRecursion IsKept (map (λ k. transaction_line (drawn seed k)) (range_with_len i n))
kept_transactions seed i zero = tt
kept_transactions seed i (suc n) = (kept_transaction (drawn seed i) (is_drawn seed i), kept_transactions seed (i + 1) n)

thousands : IsPiece 10 (codes " 1000 1000")
thousands = record { plain = refl; short = omega arith }

actor_word : IsPiece 6 (codes "actor ")
actor_word = record { plain = refl; short = omega arith }

kept_actor : (a : ℕ) → a < 256 → IsKept (actor_line a)
kept_actor a la =
    let p : IsPiece 19 (actor_line a) = join 6 13 (codes "actor ") _ actor_word (join 3 10 (decimal a) (codes " 1000 1000") (number a la) thousands) in
    record { plain = p.plain; short = omega (arith, p.short); said = refl }

pub kept_actors : (a n : ℕ) → a + n ≤ 256 → AllByRecursion IsKept (map actor_line (range_with_len a n))
kept_actors a zero le = tt
kept_actors a (suc n) le = (kept_actor a (omega arith), kept_actors (a + 1) n (omega arith))

pub kept_head : AllByRecursion IsKept head_lines
kept_head = (
  record { plain = refl; short = omega arith; said = refl },
  (
    record { plain = refl; short = omega arith; said = refl },
    (
      record { plain = refl; short = omega arith; said = refl },
      (
        record { plain = refl; short = omega arith; said = refl },
        (
          record { plain = refl; short = omega arith; said = refl },
          (
            record { plain = refl; short = omega arith; said = refl },
            (
              record { plain = refl; short = omega arith; said = refl },
              (
                record { plain = refl; short = omega arith; said = refl },
                (
                  record { plain = refl; short = omega arith; said = refl },
                  (
                    record { plain = refl; short = omega arith; said = refl },
                    (
                      record { plain = refl; short = omega arith; said = refl },
                      (
                        record { plain = refl; short = omega arith; said = refl },
                        (
                          record { plain = refl; short = omega arith; said = refl },
                          (
                            record { plain = refl; short = omega arith; said = refl },
                            tt,
                          ),
                        ),
                      ),
                    ),
                  ),
                ),
              ),
            ),
          ),
        ),
      ),
    ),
  ),
)
