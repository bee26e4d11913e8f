mod BracketPairs
mod Commas
mod Complete
mod Whole
mod Words
mod Unique
