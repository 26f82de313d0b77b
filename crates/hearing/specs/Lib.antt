pub mod Numbers
pub mod Texts
pub mod Rules
pub mod Calls
pub mod Told
pub mod Promise
