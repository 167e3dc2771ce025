pub mod Divisors
pub mod LeastLemmas
pub mod Fractions
pub mod Multiples
pub mod Wholes
pub mod Orders
pub mod Moves
