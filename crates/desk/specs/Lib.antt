pub mod Answers
pub mod Calls
pub mod Hearings
pub mod Messages
pub mod Orders
pub mod Reports
pub mod Texts
