-- What of a run its parts have to hold.
pub mod Boxes
pub mod FewPlaces
pub mod Fewer
pub mod RestsInBoxes
