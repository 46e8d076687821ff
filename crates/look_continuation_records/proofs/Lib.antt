pub mod WholeLaws
pub mod RecordLaws
