pub mod Lists
pub mod Printable
