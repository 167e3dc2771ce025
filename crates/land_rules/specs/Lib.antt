-- The definitions of the policy. `Rules` has the rules, one line each; the modules with `Laws` in their names
-- have the consequences.
pub mod ActLaws
pub mod Acts
pub mod Alike
pub mod CircleLaws
pub mod Circles
pub mod Denials
pub mod Holdings
pub mod Laws
pub mod Relations
pub mod Rules
pub mod SightLaws
pub mod StandingLaws
