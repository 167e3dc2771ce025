-- The rows that pass the tests of a lookup, by their contents.
use Rattle.std.proofs.Common.{◌≡◌, ℕ, ℤ, Bool, true, false, ◌&&◌, nat_eq, bytes_eq, codes, int_le, int_lt, List, [], ◌∷◌, Ok, refl, sym, ap, subst, ◌∙◌, true≢false}
use Rattle.std.proofs.lemmas.Bool.Decides.{Decides-and, Decides-at, Decides-eqb, Decides-like, same_from_decides}
use Rattle.std.proofs.lemmas.Slice.Eq.{bytes_eq-Decides}
use Rattle.std.specs.Bool.{Decides}
use Rattle.std.specs.Prelude.{if◌then◌else◌}
use Rattle.land_core.specs.Numbers.{is_number}
use Rattle.land_core.specs.Role.{is_role}
use Rattle.land_core.specs.Words.{role_word}
use Rattle.land_core.specs.declared.role.Role.{Role}
use Rattle.land_core.specs.declared.role.Role.TheVariants.{Citizen, Conveyancer, Notary, Bank, CertifiedSurveyor, StateAdministrator}
use Rattle.land_select_queries.proofs.Places.{Place, What, row_decoder, shape, shows}
use Rattle.land_select_queries.proofs.Shapes.{Fits, SayAll, all_decided, are_known, is_shape, shape_itself}
use Rattle.land_select_queries.specs.Joins.Meaning.{query_parameters}
use Rattle.land_select_queries.specs.Joins.Execution.{known_or_zero}
use Rattle.land_tables_history.specs.declared.version.Version.{Version}
use Rattle.land_tables_schema.proofs.Updates.{passes}
use Rattle.land_tables_schema.specs.Rows.ReadQueries.{columns_from}
use Rattle.sqlite.specs.Term.{Term}
use Rattle.sqlite_value.specs.Order.{Row}

-- a row passes the tests that its shape passes
pub decides_by : (filter : List Term) (params shape r : Row) → Fits shape 0 r → are_known filter (params ∷ shape ∷ []) ≡ true → Decides (passes filter params r) (SayAll filter (params ∷ shape ∷ []))
decides_by filter params shape r fits known = all_decided filter (params ∷ shape ∷ []) (params ∷ r ∷ []) (shape_itself params, (is_shape shape r fits, tt)) known

-- a row of a version passes the tests that the shape of the version passes
module _ (p : Place) (r : Row) (v : Version (What p)) (e : (row_decoder p).said (columns_from 1 (row_decoder p).width r) ≡ Ok v) (asked : ℕ) (t : ℤ) where
  pub decides : (filter : List Term) → are_known filter (query_parameters asked t ∷ shape p v ∷ []) ≡ true → Decides (passes filter (query_parameters asked t) r) (SayAll filter (query_parameters asked t ∷ shape p v ∷ []))
  decides filter known = decides_by filter (query_parameters asked t) (shape p v) r (shows p r v e).0 known

-- a lifespan includes the time
abbrev pub Lives : (t since until : ℤ) → Type 0
Lives t since until = (int_le since t ≡ true) × ((int_lt t until ≡ true) × Unit {0})

pub itself : (b : Bool) → Decides b (b ≡ true)
itself b = ((λ h. h), (λ h. h))

-- a version is current and matches
pub meant_lives : (b c : Bool) (P : Type 0) (t since until : ℤ) → Decides c P → Decides b (P × Lives t since until) → b ≡ ((int_le since t && int_lt t until) && c)
meant_lives b c P t since until means passes =
    same_from_decides b ((int_le since t && int_lt t until) && c) passes
    (Decides-like ((int_le since t && int_lt t until) && c) (λ h. (h.1, (h.0.0, (h.0.1, tt)))) (λ h. ((h.1.0, h.1.1.0), h.0))
    (Decides-and (int_le since t && int_lt t until) c (Decides-and (int_le since t) (int_lt t until) (itself (int_le since t)) (itself (int_lt t until))) means))

none_is_zero : (key : ℕ) → is_number key ≡ true → key ≡ 0 → ⊥
none_is_zero key within is = true≢false (sym within ∙ ap is_number is)

-- a number in range equals the queried one if it equals the given one
pub asked_is : (key number : ℕ) → is_number key ≡ true → Decides (nat_eq key number) (key ≡ known_or_zero number)
asked_is key number within = Decides-like (nat_eq key number) (λ is. is ∙ kept (subst (λ n. is_number n ≡ true) is within)) (λ is. back (is_number number) refl is) (Decides-eqb key number)
  where
    kept : is_number number ≡ true → number ≡ known_or_zero number
    kept is = ap (λ b. if b then number else 0) (sym is)

    back : (b : Bool) → is_number number ≡ b → key ≡ (if b then number else 0) → key ≡ number
    back true is same = same
    back false is same = absurd (none_is_zero key within same)

pub by_number : (b : Bool) (key number : ℕ) (t since until : ℤ) → is_number key ≡ true → Decides b ((key ≡ known_or_zero number) × Lives t since until) → b ≡ ((int_le since t && int_lt t until) && nat_eq key number)
by_number b key number t since until within passes = meant_lives b (nat_eq key number) (key ≡ known_or_zero number) t since until (asked_is key number within) passes

-- and a reference equals the given one
pub by_reference : (b : Bool) (key number : ℕ) (word reference : List ℕ) (t since until : ℤ) → is_number key ≡ true
    → Decides b ((key ≡ known_or_zero number) × ((word ≡ reference) × Lives t since until)) → b ≡ ((int_le since t && int_lt t until) && (nat_eq key number && bytes_eq word reference))
by_reference b key number word reference t since until within passes =
    meant_lives b (nat_eq key number && bytes_eq word reference) ((key ≡ known_or_zero number) × (word ≡ reference)) t since until
    (Decides-and (nat_eq key number) (bytes_eq word reference) (asked_is key number within) (bytes_eq-Decides word reference))
    (Decides-like b (λ h. ((h.0, h.1.0), h.1.1)) (λ h. (h.0.0, (h.0.1, h.1))) passes)

administrator_test : (r : Role) → is_role r StateAdministrator ≡ bytes_eq (role_word r) (codes "stateAdministrator")
administrator_test Citizen = refl
administrator_test Conveyancer = refl
administrator_test Notary = refl
administrator_test Bank = refl
administrator_test CertifiedSurveyor = refl
administrator_test StateAdministrator = refl

pub by_role : (b : Bool) (r : Role) (t since until : ℤ) → Decides b ((role_word r ≡ codes "stateAdministrator") × Lives t since until) → b ≡ ((int_le since t && int_lt t until) && is_role r StateAdministrator)
by_role b r t since until passes =
    meant_lives b (is_role r StateAdministrator) (role_word r ≡ codes "stateAdministrator") t since until
    (Decides-at _ _ (administrator_test r) (bytes_eq-Decides (role_word r) (codes "stateAdministrator"))) passes
