pub mod Mark
pub mod Index
pub mod MarkLaws
pub mod IndexLaws
