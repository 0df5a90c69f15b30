-- What an activation is seen as, and the room that running it needs.
use Rattle.std.specs.Prelude.{◌≤◌, reverse, vec_capacity}
use Rattle.aml_tree.specs.declared.limits.TheConstants.{MOST_LEVELS, MOST_NAMES}
use Rattle.aml_resume.specs.declared.activations.Activation.{Activation}
use Rattle.aml_resume.specs.Places.{Standing}

abbrev pub standing_of : Activation → Standing
standing_of a = record { path = reverse a.path.items; next = a.next; variables = a.variables.items }

-- no push needs memory
abbrev pub HasRoom : Activation → Type 0
HasRoom a = (MOST_NAMES ≤ vec_capacity a.variables) × (MOST_LEVELS ≤ vec_capacity a.path)
