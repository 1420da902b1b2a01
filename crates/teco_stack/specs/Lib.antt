-- What stacks hold.
pub mod Items
pub mod Parts
