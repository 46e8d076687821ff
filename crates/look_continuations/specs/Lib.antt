pub mod Continuation
