pub mod CycleLaws
pub mod EntryLaws
pub mod UnknownLaws
pub mod MentionLaws
pub mod ImplementLaws
pub mod CountLaws
pub mod MethodLaws
pub mod OpenLaws
mod RuleLaws
mod WalkLaws
