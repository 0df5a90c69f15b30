-- Reading step by step: what a function of the code has read before what it reads next.
use Rattle.std.proofs.Common.{◌≡◌, ℕ, zero, suc, ◌+◌, List, [], ◌∷◌, ◌++◌, drop, Option, Some, None, Result, Ok, Err, refl, sym, ap, ◌∙◌, slice_get, arith}
use Rattle.aml_tokens.specs.declared.tokens.TextCause.{TextCause}
use Rattle.aml_tokens.specs.declared.tokens.TextCause.TheVariants.{Unexpected}
use Rattle.aml_tokens.specs.declared.tokens.Word.{Word}
use Rattle.aml_tokens.specs.Token.{Token}
use Rattle.aml_parser.specs.declared.readers.ReadNo.{ReadNo}
use Rattle.aml_parser.specs.declared.readers.ReadNo.TheVariants as no
use Rattle.aml_tree.specs.Limits.{Mark}
use Rattle.aml_tree.specs.Tree.{Code, Onto}
use Rattle.aml_parser.specs.Items.{Item, Block, Value, Values, Production, mark, counted, front, back, joined_values, expand}
use Rattle.aml_parser.proofs.ReadLaws.{fine, gathered}
use Rattle.aml_parser.specs.Reading.{Fault, ◌>>=◌, passing, production_begun, text_ended, read, Takes, StopsAt, TakesPart, FailsToRead}
use Rattle.aml_parser.proofs.Split.{front_joined, back_joined}

-- ---- results one after the other

pub bound_ok : {A : Type 0} (r : Result A Fault) → r ≡ (r >>= λ x. Ok x)
bound_ok (Ok x) = refl
bound_ok (Err f) = refl

pub bound_twice : {A B C : Type 0} (r : Result A Fault) (f : A → B) (g : B → C) → ((r >>= λ x. Ok (f x)) >>= λ y. Ok (g y)) ≡ (r >>= λ x. Ok (g (f x)))
bound_twice (Ok x) f g = refl
bound_twice (Err e) f g = refl

pub passed_twice : {A B C : Type 0} (m : Mark) (at : ℕ) (r : Result A Fault) (f : A → B) (g : B → C) → passing m at (r >>= λ x. Ok (g (f x))) ≡ (passing m at (r >>= λ x. Ok (f x)) >>= λ y. Ok (g y))
passed_twice None at r f g = sym (bound_twice r f g)
passed_twice (Some c) at r f g = refl

-- ---- the token at a place

pub drop_some : (ts : List Token) (at : ℕ) (t : Token) → slice_get ts at ≡ Some t → drop at ts ≡ t ∷ drop (suc at) ts
drop_some [] at t e = absurd cc
drop_some (x ∷ xs) zero t e = let same : x ≡ t = cc in ap (λ (y : Token). y ∷ xs) same
drop_some (x ∷ xs) (suc at) t e = drop_some xs at t e

pub drop_none : (ts : List Token) (at : ℕ) → slice_get ts at ≡ None → drop at ts ≡ []
drop_none [] zero e = refl
drop_none [] (suc at) e = refl
drop_none (x ∷ xs) zero e = absurd cc
drop_none (x ∷ xs) (suc at) e = drop_none xs at e

-- an item that begins with the token at a place
pub begins : (ts : List Token) (i : Item) (s : List Item) (names at : ℕ) (t : Token) → slice_get ts at ≡ Some t
    → read (i ∷ s) names (at) (drop at ts) ≡ production_begun i s names at (expand i t) (λ p. read (p.items ++ s) (counted names p.event) (at + 1) (drop (at + 1) ts))
unfolding read
begins ts i s names at t e =
    let next : suc at ≡ at + 1 = omega arith in
    ap (read (i ∷ s) names at) (drop_some ts at t e)
    ∙ ap (λ (n : ℕ). production_begun i s names at (expand i t) (λ p. read (p.items ++ s) (counted names p.event) (at + 1) (drop n ts))) next

-- ---- items one after the other

pub takes_none : (ts : List Token) (names at : ℕ) → Takes ts [] tt names at names at
takes_none ts names at = record { goes = λ s. bound_ok (read s names at (drop at ts)) }

pub takes_then : {ts : List Token} {i : Item} {is : List Item} {v : Value i} {us : Values is} {names at m mid after end : ℕ}
    → Takes ts (i ∷ []) (v, tt) names at m mid → Takes ts is us m mid after end → Takes ts (i ∷ is) (v, us) names at after end
takes_then {ts} {i} {is} {v} {us} {names} {at} {m} {mid} {after} {end} a b = record {
  goes = λ s.
      a.goes (is ++ s) ∙ ap (λ (r : Result (Values (is ++ s)) Fault). r >>= λ vs. Ok (v, vs)) (b.goes s)
      ∙ bound_twice (read s after end (drop end ts)) (joined_values is s us) (λ vs. (v, vs));
}

pub stops_first : {ts : List Token} {i : Item} {is : List Item} {names at : ℕ} {fault : Fault} → StopsAt ts (i ∷ []) names at fault → StopsAt ts (i ∷ is) names at fault
stops_first {is = is} a = record { goes = λ s. a.goes (is ++ s) }

pub stops_then : {ts : List Token} {i : Item} {is : List Item} {v : Value i} {names at m mid : ℕ} {fault : Fault}
    → Takes ts (i ∷ []) (v, tt) names at m mid → StopsAt ts is m mid fault → StopsAt ts (i ∷ is) names at fault
stops_then {ts} {i} {is} {v} a b = record { goes = λ s. a.goes (is ++ s) ∙ ap (λ (r : Result (Values (is ++ s)) Fault). r >>= λ vs. Ok (v, vs)) (b.goes s) }

-- ---- an item by its first token

abbrev pub paired : (i : Item) (s : List Item) → Value i → Values s → Values (i ∷ s)
paired i s v vs = (v, vs)

gathered_joined : (i : Item) (s : List Item) (p : Production i) (us : Values p.items) (r : Result (Values s) Fault)
    → ((r >>= λ ws. Ok (joined_values p.items s us ws)) >>= λ vs. Ok (gathered i s p vs)) ≡ (r >>= λ ws. Ok (paired i s (p.make us) ws))
gathered_joined i s p us (Err f) = refl
gathered_joined i s p us (Ok ws) =
    ap (λ (vs : Values p.items). fine (paired i s (p.make vs) (back p.items s (joined_values p.items s us ws)))) (front_joined p.items s us ws)
    ∙ ap (λ (xs : Values s). fine (paired i s (p.make us) xs)) (back_joined p.items s us ws)

pub takes_by : (ts : List Token) (i : Item) (t : Token) (p : Production i) (us : Values p.items) (names at after end : ℕ) → slice_get ts at ≡ Some t → expand i t ≡ Some p → mark names p.event ≡ None
    → Takes ts p.items us (counted names p.event) (at + 1) after end → Takes ts (i ∷ []) (p.make us, tt) names at after end
takes_by ts i t p us names at after end there found unmarked x = record {
  goes = λ s.
      begins ts i s names at t there
      ∙ ap (λ (o : Option (Production i)). production_begun i s names at o (λ p. read (p.items ++ s) (counted names p.event) (at + 1) (drop (at + 1) ts))) found
      ∙ ap (λ (m : Mark). passing m at (read (p.items ++ s) (counted names p.event) (at + 1) (drop (at + 1) ts) >>= λ vs. Ok (p.make (front p.items s vs), back p.items s vs))) unmarked
      ∙ ap (λ (r : Result (Values (p.items ++ s)) Fault). r >>= λ vs. Ok (p.make (front p.items s vs), back p.items s vs)) (x.goes s)
      ∙ gathered_joined i s p us (read s after end (drop end ts));
}

pub stops_by : (ts : List Token) (i : Item) (t : Token) (p : Production i) (names at : ℕ) (fault : Fault) → slice_get ts at ≡ Some t → expand i t ≡ Some p → mark names p.event ≡ None
    → StopsAt ts p.items (counted names p.event) (at + 1) fault → StopsAt ts (i ∷ []) names at fault
stops_by ts i t p names at fault there found unmarked x = record {
  goes = λ s.
      begins ts i s names at t there
      ∙ ap (λ (o : Option (Production i)). production_begun i s names at o (λ p. read (p.items ++ s) (counted names p.event) (at + 1) (drop (at + 1) ts))) found
      ∙ ap (λ (m : Mark). passing m at (read (p.items ++ s) (counted names p.event) (at + 1) (drop (at + 1) ts) >>= λ vs. Ok (p.make (front p.items s vs), back p.items s vs))) unmarked
      ∙ ap (λ (r : Result (Values (p.items ++ s)) Fault). r >>= λ vs. Ok (p.make (front p.items s vs), back p.items s vs)) (x.goes s);
}

pub stops_limit : (ts : List Token) (i : Item) (t : Token) (p : Production i) (names at : ℕ) (c : TextCause) → slice_get ts at ≡ Some t → expand i t ≡ Some p → mark names p.event ≡ Some c → StopsAt ts (i ∷ []) names at (at, c)
stops_limit ts i t p names at c there found marked = record {
  goes = λ s.
      begins ts i s names at t there
      ∙ ap (λ (o : Option (Production i)). production_begun i s names at o (λ p. read (p.items ++ s) (counted names p.event) (at + 1) (drop (at + 1) ts))) found
      ∙ ap (λ (m : Mark). passing m at (read (p.items ++ s) (counted names p.event) (at + 1) (drop (at + 1) ts) >>= λ vs. Ok (p.make (front p.items s vs), back p.items s vs))) marked;
}

-- an item does not begin with what stands there, if anything does
abbrev pub NoBegin : (i : Item) → Option Token → Type 0
NoBegin i None = (s : List Item) (at : ℕ) → text_ended i s at ≡ Err (at, Unexpected)
NoBegin i (Some t) = expand i t ≡ None

pub stops_none : (ts : List Token) (i : Item) (names at : ℕ) (o : Option Token) → slice_get ts at ≡ o → NoBegin i o → StopsAt ts (i ∷ []) names at (at, Unexpected)
unfolding read
stops_none ts i names at None there no_end = record { goes = λ s. ap (read (i ∷ s) names at) (drop_none ts at there) ∙ no_end s at }
stops_none ts i names at (Some t) there none = record {
  goes = λ s.
      begins ts i s names at t there
      ∙ ap (λ (o : Option (Production i)). production_begun i s names at o (λ p. read (p.items ++ s) (counted names p.event) (at + 1) (drop (at + 1) ts))) none;
}

-- ---- parts of blocks

pub part_none : (ts : List Token) (depth names at : ℕ) → TakesPart ts depth (λ rest. rest) names at names at
part_none ts depth names at = record { goes = λ s. bound_ok (read (Block depth ∷ s) names at (drop at ts)) }

pub part_then : (ts : List Token) (depth : ℕ) (f g h : Onto Word Word) (names at m mid after end : ℕ) → ((rest : Code Word Word) → h rest ≡ f (g rest))
    → TakesPart ts depth f names at m mid → TakesPart ts depth g m mid after end → TakesPart ts depth h names at after end
part_then ts depth f g h names at m mid after end same a b = record {
  goes = λ s.
      a.goes s ∙ ap (λ (r : Result (Values (Block depth ∷ s)) Fault). r >>= λ vs. Ok (f vs.0, vs.1)) (b.goes s)
      ∙ bound_twice (read (Block depth ∷ s) after end (drop end ts)) (λ vs. (g vs.0, vs.1)) (λ vs. (f vs.0, vs.1)) ∙ put s (read (Block depth ∷ s) after end (drop end ts));
}
  where
    put : (s : List Item) (r : Result (Values (Block depth ∷ s)) Fault) → (r >>= λ vs. Ok (paired (Block depth) s (f (g vs.0)) vs.1)) ≡ (r >>= λ vs. Ok (paired (Block depth) s (h vs.0) vs.1))
    put s (Err e) = refl
    put s (Ok vs) = ap (λ (c : Code Word Word). fine (paired (Block depth) s c vs.1)) (sym (same vs.0))

pub part_ends : (ts : List Token) (depth : ℕ) (f : Onto Word Word) (c : Code Word Word) (names at m mid after end : ℕ)
    → TakesPart ts depth f names at m mid → Takes ts (Block depth ∷ []) (c, tt) m mid after end → Takes ts (Block depth ∷ []) (f c, tt) names at after end
part_ends ts depth f c names at m mid after end a b = record {
  goes = λ s.
      a.goes s ∙ ap (λ (r : Result (Values (Block depth ∷ s)) Fault). r >>= λ vs. Ok (f vs.0, vs.1)) (b.goes s)
      ∙ bound_twice (read s after end (drop end ts)) (λ ws. (c, ws)) (λ vs. (f vs.0, vs.1));
}

pub part_stops : (ts : List Token) (depth : ℕ) (f : Onto Word Word) (names at m mid : ℕ) (fault : Fault) → TakesPart ts depth f names at m mid → StopsAt ts (Block depth ∷ []) m mid fault → StopsAt ts (Block depth ∷ []) names at fault
part_stops ts depth f names at m mid fault a b = record { goes = λ s. a.goes s ∙ ap (λ (r : Result (Values (Block depth ∷ s)) Fault). r >>= λ vs. Ok (f vs.0, vs.1)) (b.goes s) }

-- ---- faults of the code

pub falls : {P Q : Fault → Type 0} (e : ReadNo) → FailsToRead P e → ((fault : Fault) → P fault → Q fault) → FailsToRead Q e
falls no.Memory h f = tt
falls (no.At place cause) h f = f (place, cause) h
