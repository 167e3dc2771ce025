-- The properties of acts and contents that the policy reads.
use Rattle.std.specs.Prelude.{ℕ, Bool, true, false, not, ◌&&◌, ◌||◌, nat_eq}
use Rattle.land_core.specs.Role.{is_role}
use Rattle.land_core.specs.declared.act.Act.{Act}
use Rattle.land_core.specs.declared.act.Act.TheVariants as act
use Rattle.land_core.specs.declared.caller.Caller.{Caller}
use Rattle.land_core.specs.declared.content.Content.{Content}
use Rattle.land_core.specs.declared.content.Content.TheVariants as content
use Rattle.land_core.specs.declared.mandates.Mandate.{Mandate}
use Rattle.land_core.specs.declared.register.Register.{Register}
use Rattle.land_core.specs.declared.role.Role.TheVariants.{Conveyancer, Notary, Bank}
use Rattle.land_core.specs.declared.rrr.RrrRecord.{RrrRecord}
use Rattle.land_rules.specs.Relations.{is_mortgage_class, is_rrr_where}

-- whether an act is one of the office: all acts are, except lodgings and the acts on mandates
abbrev pub is_office_act : Act → Bool
is_office_act (act.Enrol it) = true
is_office_act (act.Group it) = true
is_office_act (act.Regroup it) = true
is_office_act (act.Grant it) = true
is_office_act (act.Revoke it) = true
is_office_act (act.Mandate it) = false
is_office_act (act.Withdraw it) = false
is_office_act (act.Register it) = true
is_office_act (act.Burden it) = true
is_office_act (act.Lift it) = true
is_office_act (act.Lodge it) = false
is_office_act (act.Approve it) = true
is_office_act (act.Refuse it) = true

-- whether an act lodges a content that satisfies a condition
abbrev pub lodges : (Content → Bool) → Act → Bool
lodges passes (act.Lodge it) = passes it.content
lodges passes other = false

-- whether an act approves or refuses a mutation whose number satisfies a condition
abbrev pub decides : (ℕ → Bool) → Act → Bool
decides passes (act.Approve it) = passes it.mutation
decides passes (act.Refuse it) = passes it.mutation
decides passes other = false

-- whether an act gives or withdraws a mandate
abbrev pub is_mandate_act : Act → Bool
is_mandate_act (act.Mandate it) = true
is_mandate_act (act.Withdraw it) = true
is_mandate_act other = false

-- whether an act withdraws a mandate that satisfies a condition
abbrev pub withdraws : (Mandate → Bool) → Act → Bool
withdraws passes (act.Withdraw it) = passes it
withdraws passes other = false

-- whether a mandate is between others: the party is neither its principal nor its agent
abbrev pub is_between_others : (party : ℕ) → Mandate → Bool
is_between_others party m = not (nat_eq m.principal party || nat_eq m.agent party)

-- ---- roles that lodge

-- whether the role may lodge transfers: conveyancers and notaries may
abbrev pub may_lodge_transfers : Caller → Bool
may_lodge_transfers caller = is_role caller.role Conveyancer || is_role caller.role Notary

-- whether the role may lodge mortgages and discharges: banks and notaries may
abbrev pub may_lodge_mortgages : Caller → Bool
may_lodge_mortgages caller = is_role caller.role Bank || is_role caller.role Notary

-- ---- contents

-- whether a content is a transfer
abbrev pub is_transfer_content : Content → Bool
is_transfer_content (content.Transfer it) = true
is_transfer_content (content.Subdivision it) = false
is_transfer_content (content.Merger it) = false
is_transfer_content (content.Mortgage it) = false
is_transfer_content (content.Discharge it) = false

-- whether a content has new outlines: a subdivision or a merger
abbrev pub changes_outlines : Content → Bool
changes_outlines (content.Transfer it) = false
changes_outlines (content.Subdivision it) = true
changes_outlines (content.Merger it) = true
changes_outlines (content.Mortgage it) = false
changes_outlines (content.Discharge it) = false

-- whether a content creates or ends a mortgage
abbrev pub changes_mortgages : Content → Bool
changes_mortgages (content.Transfer it) = false
changes_mortgages (content.Subdivision it) = false
changes_mortgages (content.Merger it) = false
changes_mortgages (content.Mortgage it) = true
changes_mortgages (content.Discharge it) = true

-- whether a content is a mortgage of which the party is not the creditor
abbrev pub is_mortgage_of_another : (party : ℕ) → Content → Bool
is_mortgage_of_another party (content.Transfer it) = false
is_mortgage_of_another party (content.Subdivision it) = false
is_mortgage_of_another party (content.Merger it) = false
is_mortgage_of_another party (content.Mortgage it) = not (nat_eq it.creditor party)
is_mortgage_of_another party (content.Discharge it) = false

-- whether an entry is a mortgage of which the party is the creditor, on any unit
abbrev pub is_mortgage_of : (party : ℕ) → RrrRecord → Bool
is_mortgage_of party e = is_mortgage_class e.class && nat_eq e.party party

-- whether a content is the discharge of a number at which the party has no mortgage now: there is no entry,
-- the entry is not a mortgage, or another party is the creditor
abbrev pub is_discharge_of_another : (now : Register) → (party : ℕ) → Content → Bool
is_discharge_of_another now party (content.Transfer it) = false
is_discharge_of_another now party (content.Subdivision it) = false
is_discharge_of_another now party (content.Merger it) = false
is_discharge_of_another now party (content.Mortgage it) = false
is_discharge_of_another now party (content.Discharge it) =
    not (is_rrr_where (is_mortgage_of party) now it.mortgage)
