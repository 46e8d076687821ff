pub mod SimpleForms
pub mod RunForms
pub mod Runs
pub mod WideForms
pub mod ListedForms
pub mod ContinuationForms
