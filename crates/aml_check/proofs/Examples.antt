-- What expressions and transactions mean, evaluated.
use Rattle.std.proofs.Common.{◌≡◌, false, pos, negsuc, Ok, Err, [], ◌∷◌, codes, refl}
use Rattle.snap_base.specs.declared.transactions.Kind.TheVariants.{Pact, Act}
use Rattle.snap_base.specs.declared.transactions.TxResult.TheVariants as result
use Rattle.aml_tree.specs.declared.trees.Operator.TheVariants as operator
use Rattle.aml_tree.specs.Tree.{Number, Variable, Field, Own, Group, Negative, Binary, End, Call, SetField, While, Return}
use Rattle.aml_check.specs.Meaning.{alone, value_of, zero_state}

-- ---- values

quotient_and_remainder : (value_of 0 [] zero_state (Binary operator.Over (Group (Binary operator.Minus (Number 0) (Number 7))) (Number 2)) ≡ Ok (negsuc 2))
    × (value_of 0 [] zero_state (Binary operator.Remainder (Negative (Number 7)) (Number 2)) ≡ Ok (negsuc 0))
quotient_and_remainder = (refl, refl)

least_by_minus_one : (value_of 0 (negsuc 9223372036854775807 ∷ []) zero_state (Binary operator.Over (Variable 0) (Negative (Number 1))) ≡ Err 1002)
    × (value_of 0 (negsuc 9223372036854775807 ∷ []) zero_state (Binary operator.Remainder (Variable 0) (Negative (Number 1))) ≡ Err 1002)
least_by_minus_one = (refl, refl)

-- the right side of `or` is left out where the left one holds
left_out : value_of 0 [] zero_state (Binary operator.Or (Number 5) (Binary operator.Over (Number 1) (Number 0))) ≡ Ok (pos 1)
left_out = refl

-- ---- transactions

sum_too_large : alone (record { is_read = false; name = record { name = codes "f"; line = 1 }; parameters = []; body = Return (Binary operator.Plus (Number 9223372036854775807) (Number 1)) (End 1) } ∷ []) (zero_state ∷ []) (record { kind = Act; actor = record { 0 = 0 }; method = 0; args = []; uses = [] })
    ≡ record { result = result.Fail 1002; world = zero_state ∷ [] }
sum_too_large = refl

-- `let r = call 2 f();` with two actors
no_such_actor : alone (record { is_read = false; name = record { name = codes "f"; line = 1 }; parameters = []; body = Call 1 0 (Number 2) 0 [] (Return (Variable 0) (End 1)) } ∷ []) (zero_state ∷ zero_state ∷ []) (record { kind = Act; actor = record { 0 = 0 }; method = 0; args = []; uses = [] })
    ≡ record { result = result.Fail 1004; world = zero_state ∷ zero_state ∷ [] }
no_such_actor = refl

-- a method that calls itself on its own actor: the call from depth 16 fails
too_deep : alone (record { is_read = false; name = record { name = codes "f"; line = 1 }; parameters = []; body = Call 1 0 Own 0 [] (Return (Variable 0) (End 1)) } ∷ []) (zero_state ∷ []) (record { kind = Act; actor = record { 0 = 0 }; method = 0; args = []; uses = [] })
    ≡ record { result = result.Fail 1007; world = zero_state ∷ [] }
too_deep = refl

-- a PACT that declared one call of each actor and calls actor 1 a second time
undeclared_call : alone
    (record { is_read = false; name = record { name = codes "twice"; line = 1 }; parameters = []; body = Call 1 0 (Number 1) 1 [] (Call 1 1 (Number 1) 1 [] (Return (Variable 1) (End 1))) }
    ∷ record { is_read = false; name = record { name = codes "one"; line = 2 }; parameters = []; body = SetField 2 0 (Binary operator.Plus (Field 0 2) (Number 1)) (Return (Field 0 2) (End 2)) } ∷ [])
    (zero_state ∷ zero_state ∷ [])
    (record { kind = Pact; actor = record { 0 = 0 }; method = 0; args = []; uses = (record { 0 = 0 }, 1) ∷ (record { 0 = 1 }, 1) ∷ [] })
    ≡ record { result = result.Fail 1001; world = zero_state ∷ zero_state ∷ [] }
undeclared_call = refl

-- with two calls declared it gives 2
declared_calls : (alone
    (record { is_read = false; name = record { name = codes "twice"; line = 1 }; parameters = []; body = Call 1 0 (Number 1) 1 [] (Call 1 1 (Number 1) 1 [] (Return (Variable 1) (End 1))) }
    ∷ record { is_read = false; name = record { name = codes "one"; line = 2 }; parameters = []; body = SetField 2 0 (Binary operator.Plus (Field 0 2) (Number 1)) (Return (Field 0 2) (End 2)) } ∷ [])
    (zero_state ∷ zero_state ∷ [])
    (record { kind = Pact; actor = record { 0 = 0 }; method = 0; args = []; uses = (record { 0 = 0 }, 1) ∷ (record { 0 = 1 }, 2) ∷ [] })).result
    ≡ result.Value (pos 2)
declared_calls = refl

-- `while 1 { f0 = f0; }`
endless_loop : alone (record { is_read = false; name = record { name = codes "f"; line = 1 }; parameters = []; body = While (Number 1) (SetField 1 0 (Field 0 1) (End 1)) (Return (Number 0) (End 1)) } ∷ []) (zero_state ∷ []) (record { kind = Act; actor = record { 0 = 0 }; method = 0; args = []; uses = [] })
    ≡ record { result = result.Fail 1008; world = zero_state ∷ [] }
endless_loop = refl
