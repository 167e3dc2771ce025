-- How a keeper with its clock represents a state of the machine. The ghost members of a keeper are one value,
-- `K.Keeper` in contracts. The trait's own contracts cannot use these names, since this file imports the
-- trait.
use Rattle.std.specs.Prelude.{◌≡◌}
use Rattle.land_keep.specs.Keeping.{IsStateOf, IsHonestAndOpen}
use Rattle.land_keep.specs.Machine.{State}
use Rattle.land_keep.specs.declared.keeper.Keeper.{Ghosts}

-- the state that a keeper and a clock represent
abbrev pub state_of : {K C : Type 0} → Ghosts K → K → C → State C
state_of g keeper clock = record { closed = g.closed keeper; timeline = g.timeline keeper; clock = clock }

-- the abstraction relation: the timeline is the state's if the store is honest and open
abbrev pub Represents : {K C : Type 0} → Ghosts K → K → C → State C → Type 0
Represents g keeper clock state = IsStateOf (g.honest keeper) (g.closed keeper)
    (g.timeline keeper) clock state

-- forward simulation: each state represented before a call steps to one represented after it
abbrev pub Simulates : {K C : Type 0} → Ghosts K → (keeper : K) → (clock : C) → (after : K) → (late : C)
    → (State C → State C → Type 0) → Type 0
Simulates {K} {C} g keeper clock after late Step =
    (from : State C) → Represents g keeper clock from → (to : State C) × Step from to
    × Represents g after late to

-- a keeper that is honest after a call was honest before it
abbrev pub WasHonest : {K : Type 0} → Ghosts K → (old new : K) → Type 0
WasHonest g old new = g.honest new → g.honest old

-- a keeper that is honest and open after a call shows the timeline from before it
abbrev pub LeavesTimeline : {K : Type 0} → Ghosts K → (old new : K) → Type 0
LeavesTimeline g old new = IsHonestAndOpen (g.honest new) (g.closed new) → g.timeline new ≡ g.timeline old
