-- An instruction represents one operation, and tests of resolved types represent tests of types.
pub mod ResolvedNames
pub mod UniqueOperations
pub mod InstructionsWithoutNames
pub mod ArrayTypes
pub mod TypeTests
