mod BarrierTest
pub mod Tickets
