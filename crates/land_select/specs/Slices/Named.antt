-- The numbers that an act refers to, by a register's mutations.
use Rattle.std.specs.Prelude.{ℕ, Bool, nat_eq, List, [], ◌∷◌, Option, Some, None, map as map_list}
use Rattle.std.specs.FinMap as map
use Rattle.std.specs.FinMap.{FinMap}
use Rattle.std.specs.List.{list_any}
use Rattle.std.specs.Option.{option_map_or}
use Rattle.std.specs.Ordering.{nat_cmp}
use Rattle.land_acts.specs.Mandating.{mandate_of_caller}
use Rattle.land_core.specs.declared.act.Act.{Act}
use Rattle.land_core.specs.declared.act.Act.TheVariants as act
use Rattle.land_core.specs.declared.caller.Caller.{Caller}
use Rattle.land_core.specs.declared.content.Content.{Content}
use Rattle.land_core.specs.declared.content.Content.TheVariants as content
use Rattle.land_core.specs.declared.mandates.Mandate.{Mandate}
use Rattle.land_core.specs.declared.mutation.MutationRecord.{MutationRecord}

-- whether a number is in a list
abbrev pub lists : List ℕ → ℕ → Bool
lists numbers n = list_any (nat_eq n) numbers

-- the party that a content refers to: the receiver or the creditor
abbrev pub parties_of_content : Content → List ℕ
parties_of_content (content.Transfer it) = it.receiver ∷ []
parties_of_content (content.Subdivision it) = []
parties_of_content (content.Merger it) = []
parties_of_content (content.Mortgage it) = it.creditor ∷ []
parties_of_content (content.Discharge it) = []

-- the units that a content refers to
abbrev pub units_of_content : Content → List ℕ
units_of_content (content.Transfer it) = it.unit ∷ []
units_of_content (content.Subdivision it) = it.unit ∷ []
units_of_content (content.Merger it) = it.unit ∷ it.others
units_of_content (content.Mortgage it) = it.unit ∷ []
units_of_content (content.Discharge it) = it.unit ∷ []

-- those of the content of the mutation of a number, if it exists
abbrev pub of_mutation : (Content → List ℕ) → FinMap nat_cmp MutationRecord → ℕ → List ℕ
of_mutation listed mutations n = option_map_or (λ m. listed m.content) (map.get mutations n) []

-- the parties that an act refers to, itself or by the mutation that it decides
abbrev pub parties_of : Act → FinMap nat_cmp MutationRecord → List ℕ
parties_of (act.Enrol it) mutations = []
parties_of (act.Group it) mutations = map_list (λ member. member.party) it.members
parties_of (act.Regroup it) mutations = it.group ∷ map_list (λ member. member.party) it.members
parties_of (act.Grant it) mutations = it.party ∷ []
parties_of (act.Revoke it) mutations = it.party ∷ []
parties_of (act.Mandate it) mutations = it.agent ∷ []
parties_of (act.Withdraw it) mutations = it.principal ∷ it.agent ∷ []
parties_of (act.Register it) mutations = map_list (λ right. right.party) it.rights
parties_of (act.Burden it) mutations = it.party ∷ []
parties_of (act.Lift it) mutations = []
parties_of (act.Lodge it) mutations = parties_of_content it.content
parties_of (act.Approve it) mutations = of_mutation parties_of_content mutations it.mutation
parties_of (act.Refuse it) mutations = of_mutation parties_of_content mutations it.mutation

-- the units that an act refers to, itself or by the mutation that it decides
abbrev pub units_of : Act → FinMap nat_cmp MutationRecord → List ℕ
units_of (act.Enrol it) mutations = []
units_of (act.Group it) mutations = []
units_of (act.Regroup it) mutations = []
units_of (act.Grant it) mutations = []
units_of (act.Revoke it) mutations = []
units_of (act.Mandate it) mutations = []
units_of (act.Withdraw it) mutations = []
units_of (act.Register it) mutations = []
units_of (act.Burden it) mutations = it.unit ∷ []
units_of (act.Lift it) mutations = []
units_of (act.Lodge it) mutations = units_of_content it.content
units_of (act.Approve it) mutations = of_mutation units_of_content mutations it.mutation
units_of (act.Refuse it) mutations = of_mutation units_of_content mutations it.mutation

-- the mandate that an act gives or withdraws, if any
abbrev pub mandate_of_act : Caller → Act → Option Mandate
mandate_of_act caller (act.Enrol it) = None
mandate_of_act caller (act.Group it) = None
mandate_of_act caller (act.Regroup it) = None
mandate_of_act caller (act.Grant it) = None
mandate_of_act caller (act.Revoke it) = None
mandate_of_act caller (act.Mandate it) = Some (mandate_of_caller caller it)
mandate_of_act caller (act.Withdraw it) = Some it
mandate_of_act caller (act.Register it) = None
mandate_of_act caller (act.Burden it) = None
mandate_of_act caller (act.Lift it) = None
mandate_of_act caller (act.Lodge it) = None
mandate_of_act caller (act.Approve it) = None
mandate_of_act caller (act.Refuse it) = None

-- the sources of some mutations
abbrev pub sources_of : FinMap nat_cmp MutationRecord → List ℕ
sources_of mutations = map_list (λ e. e.1.source) (map.entries mutations)
