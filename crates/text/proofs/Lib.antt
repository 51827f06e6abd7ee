pub mod DecimalLaws
pub mod LaidLaws
pub mod PutLaws
pub mod SizeLaws
