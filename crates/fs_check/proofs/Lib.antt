pub mod Befores
pub mod Breaking
pub mod FirstStops
pub mod Found
pub mod OneVerdict
pub mod Orderings
pub mod Shown
pub mod Verdicts
