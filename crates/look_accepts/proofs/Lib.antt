pub mod AcceptLaws
pub mod RecordLaws
