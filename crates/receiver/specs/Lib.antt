pub mod Stages
pub mod Places
pub mod Steps
pub mod Promise
