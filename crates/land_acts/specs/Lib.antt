-- The definitions of the acts. `Outcome` has the outcome of an act; the modules with `Laws` in their names
-- have its consequences.
pub mod AreaLaws
pub mod Burdening
pub mod Deciding
pub mod Enrolment
pub mod FirstRights
pub mod Granting
pub mod GroundLaws
pub mod Grouping
pub mod Laws
pub mod Lifting
pub mod Lodging
pub mod Mandating
pub mod MutationLaws
pub mod Mutations
pub mod Outcome
pub mod RegisterAreas
pub mod Registering
pub mod Regrouping
pub mod Revoking
pub mod Sharing
pub mod Slices
pub mod Withdrawing
