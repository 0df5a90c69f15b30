-- Short programs: their faults, and places for their names, evaluated.
use Rattle.std.proofs.Common.{◌≡◌, true, false, [], ◌∷◌, codes, refl}
use Rattle.aml_tree.specs.Tree.{Number, Variable, Own, End, Let, Call, Set, SetField, If, Fail, Return}
use Rattle.aml_resolver.specs.declared.faults.CheckCause.TheVariants as cause
use Rattle.aml_resolver.specs.Names.{checked_program}
use Rattle.aml_resolver.specs.Faults.{program_faults}

-- `method f() { return g; }`
unknown_name : program_faults (record { is_read = false; name = record { name = codes "f"; line = 1 }; parameters = []; body = Return (Variable (record { name = codes "g"; line = 1 })) (End 2) } ∷ []) ≡ record { line = 1; cause = cause.UnknownName } ∷ []
unknown_name = refl

-- `if 1 { let a = 1; } a = 2;`: a name is gone behind its block, and the method does not end
gone_behind_its_block : program_faults (record { is_read = false; name = record { name = codes "f"; line = 1 }; parameters = []; body = If (Number 1) (Let 2 (record { name = codes "a"; line = 2 }) (Number 1) (End 2)) (Set (record { name = codes "a"; line = 3 }) (Number 2) (End 4)) } ∷ []) ≡ record { line = 3; cause = cause.UnknownName } ∷ record { line = 4; cause = cause.NoReturn } ∷ []
gone_behind_its_block = refl

-- a second method of the name, and a call with an argument too many
duplicate_and_count : program_faults (record { is_read = false; name = record { name = codes "f"; line = 1 }; parameters = []; body = Call 2 (record { name = codes "a"; line = 2 }) Own (record { name = codes "f"; line = 2 }) (Number 1 ∷ []) (Return (Number 0) (End 3)) } ∷ record { is_read = false; name = record { name = codes "f"; line = 4 }; parameters = []; body = Fail 7 (End 4) } ∷ [])
    ≡ record { line = 2; cause = cause.ArgCount } ∷ record { line = 4; cause = cause.Duplicate } ∷ []
duplicate_and_count = refl

-- a variable becomes its place, and a method its own
places_for_names : checked_program (record { is_read = false; name = record { name = codes "f"; line = 1 }; parameters = record { name = codes "n"; line = 1 } ∷ []; body = Let 1 (record { name = codes "a"; line = 1 }) (Variable (record { name = codes "n"; line = 1 })) (Return (Variable (record { name = codes "a"; line = 1 })) (End 1)) } ∷ [])
    ≡ record { is_read = false; name = record { name = codes "f"; line = 1 }; parameters = 0 ∷ []; body = Let 1 1 (Variable 0) (Return (Variable 1) (End 1)) } ∷ []
places_for_names = refl

-- A method that promises only to read: an assignment to a field and a call of a method without the promise are faults
-- where they begin, before those in them; a call of a method that is not there is of an unknown name.
promises : program_faults (record {
  is_read = true;
  name = record { name = codes "f"; line = 1 };
  parameters = [];
  body =
      SetField 2 0 (Variable (record { name = codes "x"; line = 2 }))
      (Call 3 (record { name = codes "a"; line = 4 }) Own (record { name = codes "g"; line = 4 }) (Number 1 ∷ [])
      (Call 5 (record { name = codes "b"; line = 5 }) Own (record { name = codes "h"; line = 5 }) []
      (Call 6 (record { name = codes "c"; line = 6 }) Own (record { name = codes "f"; line = 6 }) [] (Return (Number 0) (End 7)))));
}
    ∷ record { is_read = false; name = record { name = codes "g"; line = 8 }; parameters = []; body = Fail 7 (End 8) } ∷ [])
    ≡ record { line = 2; cause = cause.ReadWrites } ∷ record { line = 2; cause = cause.UnknownName } ∷ record { line = 3; cause = cause.ReadWrites } ∷ record { line = 4; cause = cause.ArgCount } ∷ record { line = 5; cause = cause.UnknownName } ∷ []
promises = refl
