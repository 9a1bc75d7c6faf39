mod Common
mod WholeFrames
