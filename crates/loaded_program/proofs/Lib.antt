pub mod ActionLaws
pub mod FlatLaws
pub mod NumberLaws
pub mod ResolvedLaws
pub mod CountLaws
pub mod OperandLaws
pub mod LinkLaws
pub mod MethodLaws
