-- Definitions of the register's JSON: the texts of objects and contents, and how request bodies are read.
pub mod Bodies
pub mod Texts
