pub mod Numbers
pub mod StartLaws
pub mod Tests
pub mod AllModesLaws
