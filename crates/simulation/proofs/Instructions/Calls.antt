-- Calls, returns and built-in members do the same on both machines.
pub mod MethodNumbers
pub mod Statements
pub mod MethodExecution
pub mod MethodCalls
pub mod BuiltInMembers
