-- The bytes written of an extract, if its list is allowed and if it is not.
use Rattle.std.proofs.Common.{◌≡◌, ℕ, List, ◌++◌, Option, Result, Ok, Err, inl, inr, arith, subst, sym}
use Rattle.std.specs.Prelude.{IsErrAnd}
use Rattle.std.proofs.KnownBytes.{Appends-nil}
use Rattle.land_keep.specs.declared.reply.Reply.{Reply}
use Rattle.land_sheet.specs.Extracts.Writing.{IsExtracted, IsListed, WritesText, IsListReply}
use Rattle.land_sheet.specs.declared.extracts.fault.ExtractFault.{ExtractFault}
use Rattle.land_sheet.specs.declared.extracts.fault.ExtractFault.TheVariants.{Denied, Fault, Write, Store}
use Rattle.land_streams.proofs.Fronts.{front_then, whole_then}
use Rattle.land_streams.specs.Writing.{WritesAll}

-- a text is written after another one
pub put_then : (text more : List ℕ) (i j : ℕ) (a b c : Option (List ℕ)) (r : Result ℕ ExtractFault) → WritesAll text i j a b → WritesText more j b c r → WritesText (text ++ more) i a c r
put_then text more i j a b c (Ok k) first second = whole_then text more i j k a b c first second
put_then text more i j a b c (Err (Write k)) first second = front_then text more i j k a b c first second
put_then text more i j a b c (Err (Store fault k)) first second = front_then text more i j k a b c first second
put_then text more i j a b c (Err (Denied rule)) first second = absurd second
put_then text more i j a b c (Err (Fault number)) first second = absurd second

-- the bytes written if the list is allowed
pub extracted : (list : Reply) (text : List ℕ) (a b : Option (List ℕ)) (r : Result ℕ ExtractFault) → IsListReply list → WritesText text 0 a b r → IsExtracted list text a b r
extracted list text a b (Ok n) lists put = (lists, put)
extracted list text a b (Err (Write n)) lists put = (lists, put)
extracted list text a b (Err (Store fault n)) lists put = (inl lists, put)
extracted list text a b (Err (Denied rule)) lists put = absurd put
extracted list text a b (Err (Fault number)) lists put = absurd put

-- the bytes written if it is not: none
pub not_listed : (list : Reply) (text : List ℕ) (a : Option (List ℕ)) (why : ExtractFault) → IsListed list (Err why) → IsExtracted list text a a (Err why)
not_listed list text a (Denied rule) so = (so, Appends-nil a)
not_listed list text a (Fault number) so = (so, Appends-nil a)
not_listed list text a (Store fault n) so = (inr so, (0, omega arith, so, Appends-nil a))
not_listed list text a (Write n) so = absurd so

-- likewise for the returned error
pub not_told : (list : Reply) (text : List ℕ) (a : Option (List ℕ)) (r : Result ℕ ExtractFault) (why : ExtractFault) → IsErrAnd r (λ f. f ≡ why)
    → IsListed list (Err why) → IsExtracted list text a a r
not_told list text a (Ok n) why is so = absurd is
not_told list text a (Err f) why is so = subst (λ (g : ExtractFault). IsExtracted list text a a (Err g)) (sym is) (not_listed list text a why so)
