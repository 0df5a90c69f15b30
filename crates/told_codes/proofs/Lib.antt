mod FailedTold
mod LaterOut
mod PactsAlone
mod PlacesMeant
mod PlacesSerial
mod PlacesTold
mod ValuesAlone
mod WritersPast
