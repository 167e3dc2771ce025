-- the plane
pub mod Coordinate
pub mod Place
pub mod Segment
pub mod Simple
pub mod Outline
-- texts
pub mod Tokens
pub mod Grammar
pub mod Numbers
pub mod Printed
pub mod FaultTexts
pub mod Faults
pub mod Laws
-- grounds
pub mod Matching
-- specifications of private functions
pub mod Turns
pub mod Reader
pub mod Steps
pub mod Edges
pub mod Walks
