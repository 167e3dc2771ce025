-- The words for roles and kinds.
use Rattle.std.specs.Prelude.{◌≡◌, List, [], ◌∷◌, Option, Some, None, codes}
use Rattle.std.specs.Borrow.{Bor}
use Rattle.clap.specs.Walk.{Text, texts}
use Rattle.land_commands.specs.declared.words.choices.Choices.{Choices}
use Rattle.land_core.specs.declared.kind.Kind.{Kind}
use Rattle.land_core.specs.declared.kind.Kind.TheVariants as kind
use Rattle.land_core.specs.declared.role.Role.{Role}
use Rattle.land_core.specs.declared.role.Role.TheVariants as role

-- The word for a role, as in HTTP requests.
abbrev pub role_word : Role → Text
role_word role.Citizen = codes "citizen"
role_word role.Conveyancer = codes "conveyancer"
role_word role.Notary = codes "notary"
role_word role.Bank = codes "bank"
role_word role.CertifiedSurveyor = codes "certifiedSurveyor"
role_word role.StateAdministrator = codes "stateAdministrator"

-- All words for roles.
abbrev pub role_words : List Text
role_words =
    codes "citizen" ∷ codes "conveyancer" ∷ codes "notary" ∷ codes "bank"
    ∷ codes "certifiedSurveyor" ∷ codes "stateAdministrator" ∷ []

-- The word for a kind of objects.
abbrev pub kind_word : Kind → Text
kind_word kind.Party = codes "party"
kind_word kind.Unit = codes "unit"
kind_word kind.Parcel = codes "parcel"
kind_word kind.Rrr = codes "rrr"
kind_word kind.Source = codes "source"
kind_word kind.Mutation = codes "mutation"

-- All words for kinds.
abbrev pub kind_words : List Text
kind_words =
    codes "party" ∷ codes "unit" ∷ codes "parcel" ∷ codes "rrr" ∷ codes "source" ∷ codes "mutation" ∷ []

-- The words of an option, as references.
abbrev pub Places : Type 0
Places = Bor (List (Bor Text))

-- The choices are the words for roles and kinds, at any place in memory.
pub record AreChoiceWords (choices : Choices) : Type 0 where
  pub roles : texts choices.roles.now ≡ role_words
  pub kinds : texts choices.kinds.now ≡ kind_words

-- The value of a word, or none has this word.
module _ {A : Type 0} (spell : A → Text) where
  abbrev pub IsWordOf : Text → Option A → Type 0
  IsWordOf word (Some a) = spell a ≡ word
  IsWordOf word None = (a : A) → spell a ≡ word → ⊥
