pub mod FieldLaws
pub mod LayoutLaws
pub mod PartLaws
pub mod PartRoundTrip
pub mod ConditionLaws
pub mod PartFront
