-- Objects in JSON: compact, the keys of each object in byte order.
use Rattle.std.specs.Prelude.{ℕ, List}
use Rattle.land_core.specs.declared.object.Object.{Object}
use Rattle.land_core.specs.declared.object.Object.TheVariants as shown
use Rattle.land_wire_json.specs.Texts.Mutations.{mutation_data}
use Rattle.land_wire_json.specs.Texts.Parcels.{parcel_data}
use Rattle.land_wire_json.specs.Texts.Parties.{party_data}
use Rattle.land_wire_json.specs.Texts.Rrrs.{rrr_data}
use Rattle.land_wire_json.specs.Texts.Sources.{source_data}
use Rattle.land_wire_json.specs.Texts.Units.{unit_data}
use Rattle.serde_json.specs.Data.{Data}
use Rattle.serde_json.specs.Written.{compact_text}

abbrev pub object_data : Object → Data
object_data (shown.Party party) = party_data party
object_data (shown.Unit unit) = unit_data unit
object_data (shown.Parcel parcel) = parcel_data parcel
object_data (shown.Rrr entry) = rrr_data entry
object_data (shown.Source source) = source_data source
object_data (shown.Mutation mutation) = mutation_data mutation

-- the compact text of an object
abbrev pub object_text : Object → List ℕ
object_text it = compact_text (object_data it)
