-- Sources: the documents on which changes are based (LA_Source).
pub mod Reading
pub mod Writing
