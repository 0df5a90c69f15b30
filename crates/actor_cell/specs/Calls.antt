-- What the calls of a cell do to its store, where the machine has no word for it.
use Rattle.std.specs.Prelude.{ℕ, nat_le, Bool, not, if◌then◌else◌, Some, filter, find}
use Rattle.protocol.specs.Meant.{who_meant}
use Rattle.protocol.specs.CellParts.{Store, without_image}
use Rattle.protocol.specs.OnCell.{state_from, is_undone_act, raised_floors}
use Rattle.protocol.specs.Parts.{Act, Who, OfBatch, OfAct}
use Rattle.protocol.specs.Words.{is_who, is_sealed, image_of}
use Rattle.actor_cell.specs.declared.meant.Meant.{Meant}
use Rattle.actor_cell.specs.declared.meant.Meant.TheVariants.{One, From}

-- a batch from k on, or an ACT where ACTs are meant too
abbrev pub is_who_from : ℕ → Bool → Who → Bool
is_who_from k acts (OfBatch j) = nat_le k j
is_who_from k acts (OfAct t) = acts

abbrev pub is_meant : Meant → Who → Bool
is_meant (One who) other = is_who (who_meant who) other
is_meant (From bid acts) other = is_who_from bid.0 acts other

-- what these did is undone: the state is as it was before the first of them ran
abbrev pub undone_from : ℕ → Bool → Store → Store
undone_from k acts s = record s {
  state = state_from s.state (find (λ i. is_who_from k acts i.who) s.images);
  images = filter (λ i. not (is_who_from k acts i.who)) s.images;
}

abbrev pub restored : Who → Store → Store
restored who s = record s { state = state_from s.state (image_of who s.images) }

-- the floor of one that only reads, or of others, rises to this number
abbrev pub with_floor_raised : Bool → ℕ → Store → Store
with_floor_raised reader m s = record s { floors = raised_floors reader m s.floors }

-- an ACT leaves by these calls
abbrev pub store_left_by : ℕ → Act → Store → Store
store_left_by t x s =
    let ended = without_image (OfAct t) (if is_undone_act (Some x) then restored (OfAct t) s else s) in
    if is_sealed x.status then with_floor_raised x.reader x.m ended else ended
