pub mod Machines
pub mod Changes
pub mod Gaps
pub mod Putting
pub mod Octets
