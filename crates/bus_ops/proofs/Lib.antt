pub mod FieldLaws
pub mod FrameLaws
pub mod OperationLaws
pub mod ReadingLaws
