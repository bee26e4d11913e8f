-- What legal programs declare, and what names in their code find.
pub mod DeclaredClasses
pub mod DeclaredFields
pub mod FoundMethods
pub mod MethodTypings
pub mod SourceMethods
pub mod VirtualTargets
pub mod TargetNames
pub mod Literals
pub mod BuiltInMembers
pub mod ActingMembers
