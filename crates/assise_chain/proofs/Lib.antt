mod Common
mod Parts
mod Rows
mod StepsKeepPrefixes
mod ChainOrder
mod Successors
mod RecordPrefixes
