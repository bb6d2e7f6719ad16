-- Laws of the rules, one file a subject.
pub mod PlaceLaws
pub mod LineLaws
pub mod MaskLaws
pub mod BlockLaws
pub mod SameLaws
pub mod Holds
pub mod Taking
pub mod InPart
