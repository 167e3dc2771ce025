use Rattle.std.proofs.Common.{rules, ◌≡◌, to_z, of_z, w64}
use Rattle.land_select_queries.proofs.lookups.objects.object.Goals as goal

pub returns-in-Party-clause-reads_only : goal.returns-in-Party-clause-reads_only
returns-in-Party-clause-reads_only g c =
    let when : to_z w64 (of_z w64 c.args.at) ≡ c.args.at = search rules in
    let reads_only = rw when at c.party.ensures.reads_only in
    rw c.in-Party.is reads_only

pub returns-in-Unit-clause-reads_only : goal.returns-in-Unit-clause-reads_only
returns-in-Unit-clause-reads_only g c =
    let when : to_z w64 (of_z w64 c.args.at) ≡ c.args.at = search rules in
    let reads_only = rw when at c.object_from_table.ensures.reads_only in
    rw c.in-Unit.is reads_only

pub returns-in-Parcel-clause-reads_only : goal.returns-in-Parcel-clause-reads_only
returns-in-Parcel-clause-reads_only g c =
    let when : to_z w64 (of_z w64 c.args.at) ≡ c.args.at = search rules in
    let reads_only = rw when at c.object_from_table-in-Parcel.ensures.reads_only in
    rw c.in-Parcel.is reads_only

pub returns-in-Rrr-clause-reads_only : goal.returns-in-Rrr-clause-reads_only
returns-in-Rrr-clause-reads_only g c =
    let when : to_z w64 (of_z w64 c.args.at) ≡ c.args.at = search rules in
    let reads_only = rw when at c.object_from_table-in-Rrr.ensures.reads_only in
    rw c.in-Rrr.is reads_only

pub returns-in-Source-clause-reads_only : goal.returns-in-Source-clause-reads_only
returns-in-Source-clause-reads_only g c =
    let when : to_z w64 (of_z w64 c.args.at) ≡ c.args.at = search rules in
    let reads_only = rw when at c.object_from_table-in-Source.ensures.reads_only in
    rw c.in-Source.is reads_only

pub returns-in-Mutation-clause-reads_only : goal.returns-in-Mutation-clause-reads_only
returns-in-Mutation-clause-reads_only g c =
    let when : to_z w64 (of_z w64 c.args.at) ≡ c.args.at = search rules in
    let reads_only = rw when at c.object_from_table-in-Mutation.ensures.reads_only in
    rw c.in-Mutation.is reads_only
