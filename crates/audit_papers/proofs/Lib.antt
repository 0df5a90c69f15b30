pub mod CutLines
pub mod LineKinds
pub mod LineWords
pub mod ReadLines
pub mod WordCuts
pub mod WordLists
