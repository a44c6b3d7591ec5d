pub mod Kept
pub mod KeptRuns
pub mod KeptCandidates
pub mod KeptPlacements
pub mod KeptReasons
pub mod KeptBoards
pub mod KeptCertificates
mod Devices
mod Families
mod Listed
pub mod Worded
mod Firsts
mod FullFences
mod Walks
pub mod Verdicts
mod Accepted
mod Assembled
mod Agrees
mod InPrint
mod LineEnds
mod Meaning
mod Mending
mod OneAnswer
mod OrderTakes
mod Outcomes
mod PlacePrints
mod Placing
mod Promised
mod ReadLines
mod SameCertificates
mod SameMeaning
mod SamePrices
mod SolvesOnce
mod StateTruths
mod Truths
mod WitnessTexts
mod Witnesses
mod Yeses
pub mod FencesTold
mod SitesMeaning
