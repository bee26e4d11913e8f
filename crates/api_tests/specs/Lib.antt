pub mod TestHeap
