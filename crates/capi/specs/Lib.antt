pub mod Where
pub mod WhereLaws
