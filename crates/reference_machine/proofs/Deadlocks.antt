-- Which threads wait, and for what; and when all live threads are deadlocked.
pub mod SingleOperand
pub mod Reports
pub mod BlockingInstructions
pub mod OtherThreads
pub mod WaitingThreads
pub mod ReadyThreads
pub mod LastingDeadlocks
