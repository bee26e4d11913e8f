-- Objects, copies and births in the old and the new space.
pub mod TwoBlocks
pub mod TwoCopies
pub mod TwoHeld
