-- The orders, the inputs, and loops that pass
pub mod Turns
pub mod Inputs
pub mod Passing
pub mod SameInputs
-- The cursor: its steps, its rows
pub mod Cursor
pub mod Whole
pub mod Moving
pub mod Position
pub mod Standing
-- The code
pub mod Frames
pub mod Closing
pub mod Descending
pub mod Running
pub mod WholeLoops
