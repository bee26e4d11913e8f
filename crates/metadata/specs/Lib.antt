pub mod NameChecks
pub mod Counts
pub mod OpenSlots
pub mod InterfaceTables
pub mod RuleNumbers
