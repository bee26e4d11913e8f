pub mod MemberLaws
mod KeyNumbers
mod MethodNumbers
mod VirtualNumbers
pub mod FirstIndices
pub mod Lists
pub mod NumberLaws
