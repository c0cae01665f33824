-- Words of this crate's clauses.
pub mod Faults
pub mod States
pub mod Coming
pub mod Arguments
pub mod Ecus
pub mod Images
pub mod Laws
