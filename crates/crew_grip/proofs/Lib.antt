mod ByNumber
mod HandsHold
mod Working
mod Recording
mod GoingOut
mod ActsMade
mod Footprints
mod Beginning
