-- Lemmas on written texts.
pub mod Fronts
