-- Cells when they are written, and the tests of a statement on them.
use Rattle.std.proofs.Common.{◌≡◌, ◌<◌, ◌^◌, ℕ, ℤ, pos, List, Option, Some, None, bytes_eq, Bool, true, false, ◌&&◌, ◌==◌, cond, of_z, to_z, refl, ap, ap₂, ◌∙◌, arith}
use Rattle.std.specs.Int.{w64}
use Rattle.std.specs.Ordering.{int_eq, is_eq}
use Rattle.std.proofs.lemmas.Bool.Decides.{nat_tests}
use Rattle.std.proofs.lemmas.Int.{ints, to_z_pos}
use Rattle.std.proofs.lemmas.Map.Text.{is_eq-slice_cmp}
use Rattle.land_tables_schema.specs.Rows.Versions.{whole}
use Rattle.sqlite.specs.Cast.{cast}
use Rattle.sqlite.specs.Kind.TheVariants.{Integer, Text}
use Rattle.sqlite.specs.Ops.{unary}
use Rattle.sqlite.specs.Values.{bound_value}
use Rattle.sqlite.specs.declared.types.Value.{Value}
use Rattle.sqlite.specs.declared.types.Value.TheVariants.{Null, Int, Text as AText}
use Rattle.sqlite_typed.specs.Columns.{or_null}
use Rattle.sqlite_typed.specs.Tests.{bytes_cmp}

either : (b : Bool) (v : Value) → cond b v v ≡ v
either true v = refl
either false v = refl

-- an integer is written unchanged
pub cast_whole : (z : ℤ) → cast Integer (Int z) ≡ Int z
unfolding unary
cast_whole z = either _ (Int z)

-- so is NULL
pub cast_null : cast Integer Null ≡ Null
unfolding unary
cast_null = either _ Null

-- so is a cell that may be NULL
pub cast_whole_or_null : (o : Option ℕ) → cast Integer (or_null whole o) ≡ or_null whole o
cast_whole_or_null None = cast_null
cast_whole_or_null (Some n) = cast_whole (pos n)

pub cast_text_or_null : (o : Option (List ℕ)) → cast Text (or_null AText o) ≡ or_null AText o
cast_text_or_null None = refl
cast_text_or_null (Some t) = refl

-- a parameter has its own value
pub bound_whole_or_null : (o : Option ℕ) → bound_value (or_null whole o) ≡ or_null whole o
bound_whole_or_null None = refl
bound_whole_or_null (Some n) = refl

pub bound_text_or_null : (o : Option (List ℕ)) → bound_value (or_null AText o) ≡ or_null AText o
bound_text_or_null None = refl
bound_text_or_null (Some t) = refl

pub same_number : (m n : ℕ) → int_eq (pos m) (pos n) ≡ (m == n)
same_number m n = grind (arith, ints, nat_tests)

-- a number below 2 ^ 63 as a parameter
pub as_signed : (z : ℤ) (n : ℕ) → z ≡ pos n → n < 2 ^ 63 → to_z w64 (of_z w64 z) ≡ pos n
as_signed z n is small = ap (λ y. to_z w64 (of_z w64 y)) is ∙ to_z_pos w64 n small

pub same_text : (a b : List ℕ) → is_eq (bytes_cmp a b) ≡ bytes_eq a b
same_text a b = is_eq-slice_cmp a b

-- two tests and a third, in order
pub all_three : {a b c d : Bool} (e : Bool) → a ≡ b → c ≡ d → (a && (c && e)) ≡ ((b && d) && e)
all_three {b = b} {d = d} e p q = ap₂ (λ x y. x && (y && e)) p q ∙ grouped b d e
  where
    grouped : (x y z : Bool) → (x && (y && z)) ≡ ((x && y) && z)
    grouped true y z = refl
    grouped false y z = refl
