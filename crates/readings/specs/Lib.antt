pub mod Keyed
pub mod Numbers
pub mod Octets
pub mod Texts
