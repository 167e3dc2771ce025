use Rattle.std.proofs.Common.{rules, ◌≡◌, true, nat_eq, refl, sym, to_z, of_z, w64, ap, subst, ◌∙◌}
use Rattle.std.proofs.lemmas.Bool.{false≢true}
use Rattle.std.specs.List.{list_any}
use denote.Enum.Bare.{sameb}
use Rattle.land_core.specs.contracts.kind.Kind.{the_type}
use Rattle.land_core.specs.declared.kind.Kind.{Kind}
use Rattle.land_core.specs.declared.kind.Kind.TheVariants.{Party, Unit, Parcel, Rrr, Source, Mutation}
use Rattle.land_rules.specs.Rules.{sees}
use Rattle.land_select.specs.Cache.{IsFactWith}
use Rattle.land_select.proofs.ReadQueries.{look_means}
use Rattle.land_select.proofs.Viewed.{have_members}
use Rattle.land_tables_schema.proofs.Looking.{look_told}
use Rattle.sqlite.specs.Held.{state}
use Rattle.land_select.proofs.verdict.view.is_visible.Goals as goal

pub returns-then-sees_all-clause-reads_only : goal.returns-then-sees_all-clause-reads_only
returns-then-sees_all-clause-reads_only g c =
    let when : to_z w64 (of_z w64 c.args.at) ≡ c.args.at = search rules in
    let reads_only = rw when at c.read_object.ensures.reads_only in
    let all = sym c.sees_all.ensures ∙ c.if-sees_all.true in
    look_means (state g.S.Store c.args.conn.now) (state g.S.Store c.read_object.new.conn) c.read_object.result reads_only
    (λ it is moments h held r premise stands.
    let told = is moments h held r premise stands in
    (told.0 ∙ sym (c.full_sight_shows_all.ensures r c.args.caller c.args.kind c.args.number all), told.1))

pub returns-then-sees_own_lodgings-clause-reads_only : goal.returns-then-sees_own_lodgings-clause-reads_only
returns-then-sees_own_lodgings-clause-reads_only g c =
    let when : to_z w64 (of_z w64 c.args.at) ≡ c.args.at = search rules in
    let reads_only = rw when at c.in_ok-own.ensures.reads_only in
    let own = sym c.sees_own_lodgings.ensures ∙ c.if-sees_own_lodgings.true in
    look_told (state g.S.Store c.args.conn.now) (state g.S.Store c.has_lodged.new.conn) _ reads_only
    (λ clean is moments h held r premise stands.
    (is moments h held r (have_members c.soundness_by_number.ensures r premise) stands ∙ sym (c.lodgers_see_their_own.ensures r c.args.caller c.args.kind c.args.number own), tt))

pub returns-then-sees_by_interest-clause-reads_only : goal.returns-then-sees_by_interest-clause-reads_only
returns-then-sees_by_interest-clause-reads_only g c =
    let when : to_z w64 (of_z w64 c.args.at) ≡ c.args.at = search rules in
    let reads_only = rw when at c.is_visible_by_interest.ensures.reads_only in
    let by = sym c.sees_by_interest.ensures ∙ c.if-sees_by_interest.true in
    look_means (state g.S.Store c.args.conn.now) (state g.S.Store c.is_visible_by_interest.new.conn) c.is_visible_by_interest.result reads_only
    (λ it is moments h held r premise stands.
    let told = is moments h held r premise stands in
    (told.0 ∙ sym (c.interests_decide_sight.ensures r premise c.args.caller c.args.kind c.args.number by), told.1))

pub returns-then-sees_by_pending-clause-reads_only : goal.returns-then-sees_by_pending-clause-reads_only
returns-then-sees_by_pending-clause-reads_only g c =
    let when : to_z w64 (of_z w64 c.args.at) ≡ c.args.at = search rules in
    let reads_only = rw when at c.is_pending.ensures.reads_only in
    let by = sym c.sees_by_pending.ensures ∙ c.if-sees_by_pending.true in
    look_means (state g.S.Store c.args.conn.now) (state g.S.Store c.is_pending.new.conn) c.is_pending.result reads_only
    (λ it is moments h held r premise stands.
    let told = is moments h held r premise stands in
    (told.0 ∙ sym (c.pending_units_are_visible.ensures r premise c.args.caller c.args.kind c.args.number by), told.1))

-- only the kind of parties compares equal to it
same_kind : (kind : Kind) → sameb the_type kind Party ≡ true → kind ≡ Party
same_kind Party same = refl
same_kind Unit same = absurd (false≢true same)
same_kind Parcel same = absurd (false≢true same)
same_kind Rrr same = absurd (false≢true same)
same_kind Source same = absurd (false≢true same)
same_kind Mutation same = absurd (false≢true same)

pub returns-then-eq-clause-reads_only : goal.returns-then-eq-clause-reads_only
returns-then-eq-clause-reads_only g c =
    let a = state g.S.Store c.args.conn.now in
    let when : to_z w64 (of_z w64 c.args.at) ≡ c.args.at = search rules in
    let reads_only = rw when at c.is_party_visible.ensures.reads_only in
    let party = same_kind c.args.kind (sym c.eq.ensures ∙ c.if-eq.true) in
    look_means a (state g.S.Store c.is_party_visible.new.conn) c.is_party_visible.result reads_only
    (λ it told.
    subst (λ (kind : Kind). IsFactWith (λ r. sees r c.args.caller kind c.args.number) c.args.caller kind c.args.number c.args.at a.now.trees it) (sym party) told)

pub returns-clause-reads_only : goal.returns-clause-reads_only
returns-clause-reads_only g c =
    let when : to_z w64 (of_z w64 c.args.at) ≡ c.args.at = search rules in
    let reads_only = rw when at c.in_ok-listed.ensures.reads_only in
    let told = rw c.as_slice.ensures at c.is_listed.ensures in
    look_told (state g.S.Store c.args.conn.now) (state g.S.Store c.sight.new.conn) _ reads_only
    (λ clean is moments h held r premise stands.
    (told ∙ ap (list_any (nat_eq c.args.number)) (is moments h held r premise stands) ∙ (c.seen_lists_are_exact.ensures r c.args.caller c.args.kind).exact c.args.number, tt))
