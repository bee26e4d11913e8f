-- What a machine holds at first.
pub mod InitialMachineState
pub mod StaticFields
pub mod FewStaticFields
