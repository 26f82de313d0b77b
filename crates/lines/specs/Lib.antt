pub mod Taking
pub mod Layers
pub mod Records
pub mod Characters
pub mod Entries
pub mod Refusals
pub mod Texts
