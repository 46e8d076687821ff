pub mod Coverage
pub mod Spans
pub mod OnTable
