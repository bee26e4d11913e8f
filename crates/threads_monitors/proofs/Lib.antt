pub mod ValueStacks
pub mod ReplacedReferences
pub mod Upward
pub mod Memories
