-- Objects that are returned one at a time, and the rows written for them.
use Rattle.std.proofs.Common.{◌≡◌, ◌<◌, ◌≤◌, ◌+◌, ◌-◌, ℕ, List, [], ◌∷◌, ◌++◌, length, drop, take, get_or, Option, Some, None, Result, Ok, Err, refl, sym, ap, ap₂, subst, ◌∙◌, arith, append-nil, append_assoc}
use Rattle.std.specs.List.{slice_range}
use Rattle.std.specs.Prelude.{IfOk, IsErrAnd, IsSome}
use Rattle.std.specs.Option.{option_map, option_map_or, option_to_list}
use Rattle.std.proofs.KnownBytes.{Appends-nil}
use Rattle.std.proofs.lemmas.Bool.{false≢true}
use Rattle.std.proofs.lemmas.Grind.{flat_map-append}
use Rattle.std.proofs.lemmas.List.{drop_more}
use Rattle.std.proofs.lemmas.List.Folds.{drop_split}
use Rattle.land_core.specs.Register.{object_at}
use Rattle.land_core.specs.declared.kind.Kind.{Kind}
use Rattle.land_core.specs.declared.object.Object.{Object}
use Rattle.land_core.specs.declared.object.Object.TheVariants as object
use Rattle.land_core.specs.declared.register.Register.{Register}
use Rattle.land_keep.specs.Named.{list_form, party_name_beside, named_object, named_at, objects_at}
use Rattle.land_keep.specs.declared.named.NamedObject.{NamedObject}
use Rattle.land_keep.specs.declared.store_fault.StoreFault.{StoreFault}
use Rattle.land_sheet.specs.Extracts.{row_at, rows_at}
use Rattle.land_sheet.specs.Extracts.Seeing.{AllExist, IsNextRow, named_object_at}
use Rattle.land_sheet.specs.Extracts.Writing.{WritesText, rows_of}
use Rattle.land_sheet.specs.Rows.{object_row}
use Rattle.land_sheet.specs.declared.extracts.fault.ExtractFault.{ExtractFault}
use Rattle.land_sheet.specs.declared.extracts.fault.ExtractFault.TheVariants.{Denied, Fault, Write, Store}
use Rattle.land_streams.proofs.Fronts.{front_of, front_then, whole_front, whole_then}
use Rattle.land_streams.specs.Writing.{WritesPrefix, WritesAll}

-- ---- one at a time

-- the list of one number has at most one object, which is the last one
one_popped : {A : Type 0} (items rest : List A) (given popped : Option A) → items ≡ option_to_list given ++ [] → items ≡ rest ++ option_to_list popped → rest ≡ take (length items - 1) items
    → popped ≡ given
one_popped items rest None None is parts kept = refl
one_popped items rest None (Some it) is parts kept =
    let none : rest ≡ [] = kept ∙ ap (λ l. take (length l - 1) l) is in
    absurd (nothing_there (sym is ∙ parts ∙ ap (λ l. l ++ it ∷ []) none))
  where
    nothing_there : [] ≡ it ∷ [] → ⊥
    nothing_there e = cc
one_popped items rest (Some it) None is parts kept =
    let none : rest ≡ [] = kept ∙ ap (λ l. take (length l - 1) l) is in
    absurd (something_there (sym is ∙ parts ∙ ap (λ l. l ++ []) none))
  where
    something_there : it ∷ [] ≡ [] → ⊥
    something_there e = cc
one_popped items rest (Some it) (Some that) is parts kept =
    let none : rest ≡ [] = kept ∙ ap (λ l. take (length l - 1) l) is in
    same (sym is ∙ parts ∙ ap (λ l. l ++ that ∷ []) none)
  where
    same : it ∷ [] ≡ that ∷ [] → Some that ≡ Some it
    same e = cc

-- the list of one number is the object with that number
one_named : (r : Register) (k : Kind) (n : ℕ) → objects_at r k (n ∷ []) ≡ option_to_list (named_object_at r k n) ++ []
one_named r k n = ap (λ l. l ++ []) (by_object (object_at r k n))
  where
    by_object : (o : Option Object) → option_map_or (λ it. named_object r it ∷ []) o [] ≡ option_to_list (option_map (named_object r) o)
    by_object None = refl
    by_object (Some it) = refl

-- likewise for the returned object
pub one_told : (r : Register) (k : Kind) (n : ℕ) (items rest : List NamedObject) (popped : Option NamedObject) → items ≡ objects_at r k (n ∷ []) → items ≡ rest ++ option_to_list popped
    → rest ≡ take (length items - 1) items → popped ≡ named_object_at r k n
one_told r k n items rest popped is parts kept = one_popped items rest (named_object_at r k n) popped (is ∙ one_named r k n) parts kept

-- the object with the first number is returned
pub first_given : (r : Register) (k : Kind) (numbers : List ℕ) (given number : ℕ) → given < length numbers → number ≡ get_or numbers given 0 → AllExist r k (drop given numbers)
    → IsNextRow r k (drop given numbers) (named_object_at r k number)
first_given r k numbers given number inside is stand =
    let parts : drop given numbers ≡ number ∷ drop (given + 1) numbers = drop_more numbers given 0 inside ∙ ap (λ (n : ℕ). n ∷ drop (given + 1) numbers) (sym is) in
    let first : IsSome (object_at r k number) = (subst (λ (left : List ℕ). AllExist r k left) parts stand).0 in
    subst (λ (left : List ℕ). IsNextRow r k left (named_object_at r k number)) (sym parts) (by_object (object_at r k number) refl first)
  where
    by_object : (o : Option Object) → object_at r k number ≡ o → IsSome o → IsNextRow r k (number ∷ drop (given + 1) numbers) (option_map (named_object r) o)
    by_object None e stands = absurd (false≢true stands)
    by_object (Some it) e stands = ap (λ (o : Option Object). option_map (named_object r) o) e

-- likewise if the store is honest
pub result_given : (r : Register) (k : Kind) (numbers : List ℕ) (given number : ℕ) (result : Result (Option NamedObject) StoreFault) → given < length numbers
    → number ≡ get_or numbers given 0 → AllExist r k (drop given numbers) → IfOk result (λ row. row ≡ named_object_at r k number) → IfOk result (IsNextRow r k (drop given numbers))
result_given r k numbers given number (Ok row) inside is stand made =
    subst (λ (o : Option NamedObject). IsNextRow r k (drop given numbers) o) (sym made) (first_given r k numbers given number inside is stand)
result_given r k numbers given number (Err fault) inside is stand made = tt

-- ---- the rows of a list

-- the row of a party does not depend on its members and roles
row_listed : (it : Object) (name : List ℕ) → object_row (list_form it) name ≡ object_row it name
unfolding Rattle.land_sheet.specs.Rows.party_fields
row_listed (object.Party it) name = refl
row_listed (object.Unit it) name = refl
row_listed (object.Parcel it) name = refl
row_listed (object.Rrr it) name = refl
row_listed (object.Source it) name = refl
row_listed (object.Mutation it) name = refl

one_row : (r : Register) (o : Option Object) → rows_of (option_map_or (λ it. named_object r it ∷ []) o []) ≡ option_map_or (λ it. object_row it (party_name_beside r it)) o []
one_row r None = refl
one_row r (Some it) = append-nil (object_row (list_form it) (party_name_beside r it)) ∙ row_listed it (party_name_beside r it)

abbrev row_text_of : NamedObject → List ℕ
row_text_of it = object_row it.object it.name

-- the rows of the listed objects with some numbers
pub rows_listed : (r : Register) (k : Kind) (numbers : List ℕ) → rows_of (objects_at r k numbers) ≡ rows_at r k numbers
rows_listed r k [] = refl
rows_listed r k (n ∷ ns) =
    flat_map-append row_text_of (named_at r k n) (objects_at r k ns) ∙ ap₂ (λ (a b : List ℕ). a ++ b) (one_row r (object_at r k n)) (rows_listed r k ns)

-- the rows from an index on are those up to another index, and those from there on
rows_parted : (r : Register) (k : Kind) (numbers : List ℕ) (given end : ℕ) → given ≤ end → rows_at r k (drop given numbers) ≡ rows_at r k (slice_range numbers given end) ++ rows_at r k (drop end numbers)
rows_parted r k numbers given end below =
    ap (rows_at r k) (drop_split numbers given end below) ∙ flat_map-append (row_at r k) (slice_range numbers given end) (drop end numbers)

-- ---- the bytes written

-- rows are written and counted, and the rows of the remaining numbers complete them
pub record IsSoFar (all left : List ℕ) (before written : ℕ) (a b : Option (List ℕ)) : Type 0 where
  pub text : List ℕ
  pub parts : all ≡ text ++ left
  pub whole : WritesAll text before written a b

-- before the first row
pub none_so_far : (all : List ℕ) (before : ℕ) (a : Option (List ℕ)) → IsSoFar all all before before a a
none_so_far all before a = record { text = []; parts = refl; whole = (omega arith, Appends-nil a) }

-- one more part is written
pub more_so_far : (all more left : List ℕ) (before written after : ℕ) (a b c : Option (List ℕ)) → IsSoFar all (more ++ left) before written a b → WritesAll more written after b c
    → IsSoFar all left before after a c
more_so_far all more left before written after a b c it put = record {
  text = it.text ++ more;
  parts = it.parts ∙ sym (append_assoc it.text more left);
  whole = whole_then it.text more before written after a b c it.whole put;
}

-- the next part is truncated
pub cut : (all more left : List ℕ) (before written : ℕ) (a b c : Option (List ℕ)) (why : ExtractFault) → IsSoFar all (more ++ left) before written a b → WritesText more written b c (Err why)
    → WritesText all before a c (Err why)
cut all more left before written a b c why it put = by_fault why put
  where
    cut_at : (after : ℕ) → WritesPrefix more written after b c → WritesPrefix all before after a c
    cut_at after front =
        subst (λ (l : List ℕ). WritesPrefix l before after a c) (append_assoc it.text more left ∙ sym it.parts)
        (front_of (it.text ++ more) left before after a c (front_then it.text more before written after a b c it.whole front))

    by_fault : (why : ExtractFault) → WritesText more written b c (Err why) → WritesText all before a c (Err why)
    by_fault (Write after) put = cut_at after put
    by_fault (Store fault after) put = cut_at after put
    by_fault (Denied rule) put = absurd put
    by_fault (Fault number) put = absurd put

-- likewise for the returned error
pub cut_told : (all more left : List ℕ) (before written : ℕ) (a b c : Option (List ℕ)) (told : Result ℕ ExtractFault) (why : ExtractFault) → IsErrAnd told (λ f. f ≡ why)
    → IsSoFar all (more ++ left) before written a b → WritesText more written b c (Err why) → WritesText all before a c told
cut_told all more left before written a b c (Ok n) why is it put = absurd is
cut_told all more left before written a b c (Err f) why is it put = subst (λ (g : ExtractFault). WritesText all before a c (Err g)) (sym is) (cut all more left before written a b c why it put)

-- the store failed, so the rest is not read
pub stopped : (all left : List ℕ) (before written : ℕ) (a b : Option (List ℕ)) → IsSoFar all left before written a b → WritesPrefix all before written a b
stopped all left before written a b it =
    subst (λ (l : List ℕ). WritesPrefix l before written a b) (sym it.parts) (whole_front it.text left before written a b it.whole)

-- after the last row
pub ended : (all : List ℕ) (before written : ℕ) (a b : Option (List ℕ)) → IsSoFar all [] before written a b → WritesAll all before written a b
ended all before written a b it = subst (λ (l : List ℕ). WritesAll l before written a b) (sym (it.parts ∙ append-nil it.text)) it.whole

-- the remaining numbers begin with the part that is read
pub part_left : (r : Register) (k : Kind) (numbers : List ℕ) (given end before written : ℕ) (a b : Option (List ℕ)) (objects : List NamedObject) → given ≤ end
    → objects ≡ objects_at r k (slice_range numbers given end) → IsSoFar (rows_at r k numbers) (rows_at r k (drop given numbers)) before written a b
    → IsSoFar (rows_at r k numbers) (rows_of objects ++ rows_at r k (drop end numbers)) before written a b
part_left r k numbers given end before written a b objects below is it =
    let lines : rows_of objects ≡ rows_at r k (slice_range numbers given end) = ap (λ (l : List NamedObject). rows_of l) is ∙ rows_listed r k (slice_range numbers given end) in
    subst (λ (left : List ℕ). IsSoFar (rows_at r k numbers) left before written a b)
    (rows_parted r k numbers given end below ∙ ap (λ (l : List ℕ). l ++ rows_at r k (drop end numbers)) (sym lines)) it
