pub mod Answers
pub mod Messages
pub mod Octets
pub mod Orders
pub mod Texts
pub mod Readings
