pub mod Bits
pub mod Frame
pub mod Wire
pub mod Dominance
pub mod FrameText
pub mod FrameReading
pub mod WireValues
