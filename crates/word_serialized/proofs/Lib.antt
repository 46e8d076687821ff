pub mod ReaderSaid
pub mod ReaderUnique
pub mod Laws
pub mod Opens
pub mod OpeningSaid
pub mod OpeningUnique
