pub mod AlongZones
pub mod FullZones
pub mod NoProof
pub mod Orders
pub mod StatPlaces
pub mod TableLaw
pub mod ToldRows
pub mod ZoneLaw
