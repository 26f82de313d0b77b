pub mod Batches
pub mod Decoding
pub mod Hearing
pub mod Layered
pub mod Texts
