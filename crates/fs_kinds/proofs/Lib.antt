pub mod Entries
pub mod Names
pub mod PlaceNames
pub mod Members
pub mod SlotMap
pub mod FirstFault
