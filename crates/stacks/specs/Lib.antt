pub mod Layering
pub mod Stacks
pub mod Records
pub mod Texts
