-- Effects of methods and queries on the reading.
use Rattle.std.proofs.Common.{◌≡◌, ℕ, ℤ, pos, int_lt, List, [], ◌∷◌, take, drop, Bool, true, false, Option, Some, Result, Ok, Err, refl, sym, subst, codes, bytes_eq, IfOk, if◌then◌else◌, arith}
use Rattle.std.specs.Prelude.{⊤, ◌≤ℤ◌}
use Rattle.std.proofs.lemmas.Int.{ints}
use Rattle.http_header.specs.FieldValue.{FieldValue}
use Rattle.http_header.specs.HeaderMap.{Entries}
use Rattle.land_core.specs.Numbers.{IsMoment, last_moment}
use Rattle.land_core.specs.declared.ask.Ask.{Ask}
use Rattle.land_core.specs.declared.ask.Ask.TheVariants as ask
use Rattle.land_core.specs.declared.ask.Request.{Request}
use Rattle.land_core.specs.declared.caller.Caller.{Caller}
use Rattle.land_keep.specs.Machine.{at_of}
use Rattle.land_wire.specs.Acts.{act_in}
use Rattle.land_wire.specs.Fields.{caller_in}
use Rattle.land_wire.specs.Laws.{BodiesOfReadsAreIgnored, GetsDoNothing, OtherMethodsRequestActs, QueryMomentsAreValid, RequestMomentsAreValid, IsExplicitMoment, requests_act}
use Rattle.land_wire.specs.Numbers.{decimal_in, number_in_text, moment_in_text}
use Rattle.land_wire.specs.Queries.{no_query, at_in}
use Rattle.land_wire.specs.Reading.{require_method, ask_of, parts_reading, reading_by, require_resource}
use Rattle.land_wire.specs.Routes.{Resource, list, view, sheet, act}
use Rattle.land_wire.specs.Routes.Targets.{path_of, query_of}
use Rattle.land_wire.specs.declared.routes.act_word.ActWord.{ActWord}
use Rattle.land_wire_json.specs.Bodies.WireFaults.{◌>>=◌}
use Rattle.land_wire_json.specs.declared.bodies.wire_fault.WireFault.{WireFault}
use Rattle.land_wire_json.specs.declared.bodies.wire_fault.WireFault.TheVariants as fault

-- the result has the property, if reading succeeds
record Ensures {A : Type 0} (P : A → Type 0) (r : Result A WireFault) : Type 0 where
  if_ok : IfOk r P

bind : {A B : Type 0} {P : B → Type 0} (r : Result A WireFault) {next : A → Result B WireFault}
    → ((a : A) → Ensures P (next a)) → Ensures P (r >>= next)
bind (Ok a) h = h a
bind (Err e) h = record { if_ok = tt }

-- ---- bodies of reads

-- the request of a resource, if its method is allowed
abbrev asked_by : Resource → Entries FieldValue → (query body : List ℕ) → Result Request WireFault
asked_by named fields query body = caller_in fields >>= λ caller. ask_of named query body >>= λ asked. Ok (record { caller = caller; ask = asked })

abbrev read_by : Result Resource WireFault → (method query : List ℕ) → Entries FieldValue → (body : List ℕ) → Result Request WireFault
read_by found method query fields body = found >>= λ named. require_method named method >>= λ permit. asked_by named fields query body

same_body : (found : Result Resource WireFault) (query : List ℕ) (fields : Entries FieldValue) (body other : List ℕ)
    → read_by found (codes "GET") query fields body ≡ read_by found (codes "GET") query fields other
same_body (Err e) query fields body other = refl
same_body (Ok (list kind)) query fields body other = refl
same_body (Ok (view kind part)) query fields body other = refl
same_body (Ok (sheet part)) query fields body other = refl
same_body (Ok (act word)) query fields body other = refl

pub bodies_do_not_count : BodiesOfReadsAreIgnored
unfolding parts_reading
bodies_do_not_count target fields body other = same_body (require_resource (path_of target)) (query_of target) fields body other

-- ---- methods

abbrev DoesNothing : Request → Type 0
DoesNothing request = requests_act request.ask ≡ false

-- a property of the ask is a property of the request
asked_for : {P : Ask → Type 0} (caller : Caller) (asked : Result Ask WireFault) → Ensures P asked
    → Ensures (λ (request : Request). P request.ask) (asked >>= λ it. Ok (record { caller = caller; ask = it }))
asked_for caller (Ok it) h = record { if_ok = h.if_ok }
asked_for caller (Err e) h = record { if_ok = tt }

abbrev DoesNot : Ask → Type 0
DoesNot asked = requests_act asked ≡ false

looked_at : (named : Resource) (fields : Entries FieldValue) (query body : List ℕ) → Ensures DoesNot (ask_of named query body)
    → Ensures DoesNothing (asked_by named fields query body)
looked_at named fields query body h = bind (caller_in fields) (λ caller. asked_for caller (ask_of named query body) h)

got : (found : Result Resource WireFault) (query : List ℕ) (fields : Entries FieldValue) (body : List ℕ)
    → Ensures DoesNothing (read_by found (codes "GET") query fields body)
got (Err e) query fields body = record { if_ok = tt }
got (Ok (list kind)) query fields body = looked_at (list kind) fields query body (bind (at_in query) (λ at. record { if_ok = refl }))
got (Ok (view kind part)) query fields body =
    looked_at (view kind part) fields query body (bind (number_in_text part) (λ number. bind (at_in query) (λ at. record { if_ok = refl })))
got (Ok (sheet part)) query fields body =
    looked_at (sheet part) fields query body (bind (number_in_text part) (λ unit. bind (at_in query) (λ at. record { if_ok = refl })))
got (Ok (act word)) query fields body = record { if_ok = tt }

pub gets_do_nothing : GetsDoNothing
unfolding parts_reading
gets_do_nothing target fields body = (got (require_resource (path_of target)) (query_of target) fields body).if_ok

abbrev IsPosted : (method : List ℕ) → Request → Type 0
IsPosted method request = (requests_act request.ask ≡ true) × (bytes_eq method (codes "POST") ≡ true)

-- each resource that is read allows only GET
abbrev permit_of : Bool → Result ⊤ WireFault
permit_of b = if b then Ok tt else Err fault.Method

not_got : {P : Request → Type 0} (b : Bool) (next : ⊤ → Result Request WireFault) → b ≡ false → Ensures P (permit_of b >>= next)
not_got true next refused = cc
not_got false next refused = record { if_ok = tt }

done_by : (b : Bool) (method : List ℕ) (next : ⊤ → Result Request WireFault) → bytes_eq method (codes "POST") ≡ b
    → (b ≡ true → Ensures (IsPosted method) (next tt)) → Ensures (IsPosted method) (permit_of b >>= next)
done_by true method next is h = h refl
done_by false method next is h = record { if_ok = tt }

abbrev IsAct : (method : List ℕ) → Ask → Type 0
IsAct method asked = (requests_act asked ≡ true) × (bytes_eq method (codes "POST") ≡ true)

act_asked : (word : ActWord) (method query body : List ℕ) → bytes_eq method (codes "POST") ≡ true → Ensures (IsAct method) (ask_of (act word) query body)
act_asked word method query body is = bind (no_query query) (λ none. bind (act_in word body) (λ wanted. record { if_ok = (refl, is) }))

act_read : (word : ActWord) (method : List ℕ) (fields : Entries FieldValue) (query body : List ℕ) → bytes_eq method (codes "POST") ≡ true
    → Ensures (IsPosted method) (asked_by (act word) fields query body)
act_read word method fields query body is =
    bind (caller_in fields) (λ caller. asked_for caller (ask_of (act word) query body) (act_asked word method query body is))

posted : (found : Result Resource WireFault) (method query : List ℕ) (fields : Entries FieldValue) (body : List ℕ) → bytes_eq method (codes "GET") ≡ false
    → Ensures (IsPosted method) (read_by found method query fields body)
posted (Err e) method query fields body refused = record { if_ok = tt }
posted (Ok (list kind)) method query fields body refused =
    not_got (bytes_eq method (codes "GET")) (λ permit. asked_by (list kind) fields query body) refused
posted (Ok (view kind part)) method query fields body refused =
    not_got (bytes_eq method (codes "GET")) (λ permit. asked_by (view kind part) fields query body) refused
posted (Ok (sheet part)) method query fields body refused =
    not_got (bytes_eq method (codes "GET")) (λ permit. asked_by (sheet part) fields query body) refused
posted (Ok (act word)) method query fields body refused =
    done_by (bytes_eq method (codes "POST")) method (λ permit. asked_by (act word) fields query body) refl (λ is.
    act_read word method fields query body is)

pub others_ask_for_acts : OtherMethodsRequestActs
unfolding parts_reading
others_ask_for_acts method target fields body refused = (posted (require_resource (path_of target)) method (query_of target) fields body refused).if_ok

-- ---- moments

abbrev bounded : Bool → ℕ → Result ℤ WireFault
bounded late n = if late then Err fault.Number else Ok (pos n)

in_range : (n : ℕ) → int_lt last_moment (pos n) ≡ false → (pos 0 ≤ℤ pos n) × (pos n ≤ℤ last_moment)
in_range n is = (grind (arith, ints), grind (arith, ints, is))

bounded-moment : (n : ℕ) (late : Bool) → int_lt last_moment (pos n) ≡ late → Ensures IsMoment (bounded late n)
bounded-moment n true is = record { if_ok = tt }
bounded-moment n false is = record { if_ok = in_range n is }

moment_in-moment : (text : List ℕ) → Ensures IsMoment (moment_in_text text)
moment_in-moment text = bind (decimal_in text) (λ n. bounded-moment n (int_lt last_moment (pos n)) refl)

some_moment : (r : Result ℤ WireFault) → Ensures IsMoment r → Ensures IsExplicitMoment (r >>= λ moment. Ok (Some moment))
some_moment (Ok moment) h = record { if_ok = h.if_ok }
some_moment (Err e) h = record { if_ok = tt }

abbrev stated_by : Bool → List ℕ → Result (Option ℤ) WireFault
stated_by b text = if b then (moment_in_text text >>= λ moment. Ok (Some moment)) else Err fault.Field

stated_by-moment : (b : Bool) (text : List ℕ) → Ensures IsExplicitMoment (stated_by b text)
stated_by-moment true text = some_moment (moment_in_text text) (moment_in-moment text)
stated_by-moment false text = record { if_ok = tt }

at_in-moment : (query : List ℕ) → Ensures IsExplicitMoment (at_in query)
at_in-moment [] = record { if_ok = tt }
at_in-moment (byte ∷ bytes) = stated_by-moment (bytes_eq (take 3 (byte ∷ bytes)) (codes "at=")) (drop 3 (byte ∷ bytes))

pub stated_moments : QueryMomentsAreValid
stated_moments query = (at_in-moment query).if_ok

abbrev AsksMoment : Ask → Type 0
AsksMoment asked = IsExplicitMoment (at_of asked)

abbrev StatesMoment : Request → Type 0
StatesMoment request = AsksMoment request.ask

-- the request with an optional moment
looked_at-moment : (wrap : Option ℤ → Ask) (query : List ℕ) → ((at : Option ℤ) → at_of (wrap at) ≡ at)
    → Ensures AsksMoment (at_in query >>= λ at. Ok (wrap at))
looked_at-moment wrap query keeps = wrapped wrap (at_in query) keeps (at_in-moment query)
  where
    wrapped : (wrap : Option ℤ → Ask) (r : Result (Option ℤ) WireFault) → ((at : Option ℤ) → at_of (wrap at) ≡ at) → Ensures IsExplicitMoment r
        → Ensures AsksMoment (r >>= λ at. Ok (wrap at))
    wrapped wrap (Ok it) keeps h = record { if_ok = subst (λ (t : Option ℤ). IsExplicitMoment t) (sym (keeps it)) h.if_ok }
    wrapped wrap (Err e) keeps h = record { if_ok = tt }

ask_of-moment : (named : Resource) (query body : List ℕ) → Ensures AsksMoment (ask_of named query body)
ask_of-moment (list kind) query body = looked_at-moment (λ at. ask.List kind at) query (λ at. refl)
ask_of-moment (view kind part) query body = bind (number_in_text part) (λ number. looked_at-moment (λ at. ask.View kind number at) query (λ at. refl))
ask_of-moment (sheet part) query body = bind (number_in_text part) (λ unit. looked_at-moment (λ at. ask.Sheet unit at) query (λ at. refl))
ask_of-moment (act word) query body = bind (no_query query) (λ none. bind (act_in word body) (λ wanted. record { if_ok = tt }))

read-moment : (method target : List ℕ) (asking : Result Caller WireFault) (body : List ℕ)
    → Ensures StatesMoment (reading_by method target asking body)
unfolding parts_reading
read-moment method target asking body =
    bind (require_resource (path_of target)) (λ named.
    bind (require_method named method) (λ permit.
    bind asking (λ caller.
    asked_for caller (ask_of named (query_of target) body) (ask_of-moment named (query_of target) body))))

pub asked_moments : RequestMomentsAreValid
asked_moments method target asking body = (read-moment method target asking body).if_ok
