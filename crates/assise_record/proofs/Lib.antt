mod Common
pub mod Shared
mod EffectLaws
mod FieldLaws
mod FrameLaws
mod Headers
mod Loop
mod Marks
mod Names
mod Never
mod Outcomes
mod Overrides
mod RecordLaws
mod Rests
mod RoomLaws
mod Shortness
mod SizeBounds
mod Stays
