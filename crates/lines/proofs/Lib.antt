pub mod Octets
pub mod Characters
pub mod Entries
