-- Members of groups, with their shares (LA_PartyMember).
pub mod Reading
pub mod Writing
