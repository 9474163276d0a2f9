pub mod LentFrames
pub mod FrameFaults
pub mod Parts
