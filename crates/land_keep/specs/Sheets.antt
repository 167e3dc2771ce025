-- A unit as a caller sees it at a moment: the data of a title sheet.
use Rattle.std.specs.Prelude.{ℕ, ℤ, ◌&&◌, nat_eq, List, [], filter, map as map_list, Option}
use Rattle.std.specs.Option.{option_map, option_map_or}
use Rattle.std.specs.FinMap as map
use Rattle.land_core.specs.Register.{unit_at}
use Rattle.land_core.specs.declared.caller.Caller.{Caller}
use Rattle.land_core.specs.declared.kind.Kind.TheVariants as kind
use Rattle.land_core.specs.declared.parcel.Parcel.{Parcel}
use Rattle.land_core.specs.declared.parcel.ParcelRecord.{ParcelRecord}
use Rattle.land_core.specs.declared.register.Register.{Register}
use Rattle.land_core.specs.declared.rrr.RrrRecord.{RrrRecord}
use Rattle.land_keep.specs.declared.view.NamedRrr.{NamedRrr}
use Rattle.land_keep.specs.declared.view.View.{View}
use Rattle.land_rules.specs.Rules.{sees}

-- a parcel with its number
abbrev pub numbered_parcel : ℕ → ParcelRecord → Parcel
numbered_parcel n p =
    record { number = n; unit = p.unit; label = p.label; outline = p.outline; source = p.source }

-- the parcels of a unit, ordered by number
abbrev pub parcels_at : Register → (unit : ℕ) → List Parcel
parcels_at at unit =
    map_list (λ e. numbered_parcel e.0 e.1) (filter (λ e. nat_eq e.1.unit unit) (map.entries at.parcels))

-- the name of a party; empty if it does not exist
abbrev pub name_at : Register → (party : ℕ) → List ℕ
name_at at party = option_map_or (λ p. p.name) (map.get at.parties party) []

-- an entry with its number and the name of its party
abbrev pub named_rrr : Register → ℕ → RrrRecord → NamedRrr
named_rrr at n e = record {
  rrr = record { number = n; unit = e.unit; party = e.party; class = e.class; source = e.source };
  name = name_at at e.party;
}

-- the entries of a unit that the caller sees, ordered by number
abbrev pub visible_entries : Register → Caller → (unit : ℕ) → List NamedRrr
visible_entries at caller unit =
    map_list (λ e. named_rrr at e.0 e.1)
    (filter (λ e. nat_eq e.1.unit unit && sees at caller kind.Rrr e.0) (map.entries at.rrrs))

-- the unit as the caller sees it, if it exists
abbrev pub view_at : Register → Caller → (unit : ℕ) → (moment : ℤ) → Option View
view_at at caller unit moment =
    option_map
    (λ u. record {
      unit = u;
      parcels = parcels_at at unit;
      rrrs = visible_entries at caller unit;
      at = moment;
    })
    (unit_at at unit)
