pub mod Exact
pub mod Exactly
pub mod Instructions64
pub mod OneTurn
pub mod Turns
pub mod WaitedOnce
pub mod Waiting
pub mod Wide
