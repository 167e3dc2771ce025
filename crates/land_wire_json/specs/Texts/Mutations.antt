-- Mutations and their contents in JSON.
use Rattle.std.specs.Prelude.{List, ℕ, ◌++◌, codes, decimal}
use Rattle.land_core.specs.Words.{content_word, state_word}
use Rattle.land_core.specs.declared.content.Content.{Content}
use Rattle.land_core.specs.declared.content.Content.TheVariants as content
use Rattle.land_core.specs.declared.content.Discharge.{Discharge}
use Rattle.land_core.specs.declared.content.Mortgage.{Mortgage}
use Rattle.land_core.specs.declared.content.Transfer.{Transfer}
use Rattle.land_core.specs.declared.mutation.Mutation.{Mutation}
use Rattle.land_core.specs.declared.mutation.MutationState.{MutationState}
use Rattle.land_wire_json.specs.Texts.Mergers.{merger_data, merger_text}
use Rattle.land_wire_json.specs.Texts.Subdivisions.{subdivision_data, subdivision_text}
use Rattle.land_wire_json.specs.Texts.Values.{number_data, share_data, share_text, string_text, quoted_word}
use Rattle.serde_json.specs.Data.{Data, number, string, object, no_members, member}
use Rattle.serde_json.specs.Find.{of_integer}
use Rattle.serde_json.specs.Written.{compact_text}

-- ---- contents of mutations

abbrev pub transfer_data : Transfer → Data
transfer_data it =
    object (member (codes "receiver") (number_data it.receiver)
    (member (codes "right") (number_data it.right)
    (member (codes "share") (share_data it.share)
    (member (codes "unit") (number_data it.unit) no_members))))

abbrev pub mortgage_data : Mortgage → Data
mortgage_data it =
    object (member (codes "amount") (number_data it.amount)
    (member (codes "creditor") (number_data it.creditor)
    (member (codes "currency") (string it.currency)
    (member (codes "unit") (number_data it.unit) no_members))))

abbrev pub discharge_data : Discharge → Data
discharge_data it =
    object (member (codes "mortgage") (number_data it.mortgage)
    (member (codes "unit") (number_data it.unit) no_members))

-- the fields of a content, without the word of its act
abbrev pub content_data : Content → Data
content_data (content.Transfer it) = transfer_data it
content_data (content.Subdivision it) = subdivision_data it
content_data (content.Merger it) = merger_data it
content_data (content.Mortgage it) = mortgage_data it
content_data (content.Discharge it) = discharge_data it

-- the compact text of a content
abbrev pub content_text : Content → List ℕ
content_text it = compact_text (content_data it)

-- ---- mutations

-- `lodged` is the time of lodging
abbrev pub mutation_data : Mutation → Data
mutation_data mutation =
    object (member (codes "act") (string (content_word mutation.content))
    (member (codes "content") (content_data mutation.content)
    (member (codes "lodged") (number (of_integer mutation.lodged))
    (member (codes "lodger") (number_data mutation.lodger)
    (member (codes "number") (number_data mutation.number)
    (member (codes "reference") (string mutation.reference)
    (member (codes "source") (number_data mutation.source)
    (member (codes "state") (string (state_word mutation.state)) no_members))))))))

-- ---- texts

-- the share that the receiver gets
abbrev pub transfer_text : Transfer → List ℕ
transfer_text it =
    codes "{\"receiver\":" ++ (decimal it.receiver ++ (codes ",\"right\":" ++ (decimal it.right
    ++ (codes ",\"share\":" ++ (share_text it.share ++ (codes ",\"unit\":"
    ++ (decimal it.unit ++ codes "}")))))))

-- the amount in minor units
abbrev pub mortgage_text : Mortgage → List ℕ
mortgage_text it =
    codes "{\"amount\":" ++ (decimal it.amount ++ (codes ",\"creditor\":" ++ (decimal it.creditor
    ++ (codes ",\"currency\":" ++ (string_text it.currency ++ (codes ",\"unit\":" ++ (decimal it.unit
    ++ codes "}")))))))

-- the mortgage that ends
abbrev pub discharge_text : Discharge → List ℕ
discharge_text it =
    codes "{\"mortgage\":" ++ (decimal it.mortgage ++ (codes ",\"unit\":" ++ (decimal it.unit ++ codes "}")))

-- the text of a content, by its kind
abbrev pub content_text_by_kind : Content → List ℕ
content_text_by_kind (content.Transfer it) = transfer_text it
content_text_by_kind (content.Subdivision it) = subdivision_text it
content_text_by_kind (content.Merger it) = merger_text it
content_text_by_kind (content.Mortgage it) = mortgage_text it
content_text_by_kind (content.Discharge it) = discharge_text it

-- `lodged` is the time of lodging, `reference` a JSON string
abbrev pub mutation_text : Content → (lodged lodger n : ℕ) → (reference : List ℕ) → (source : ℕ)
    → MutationState → List ℕ
mutation_text it lodged lodger n reference source state =
    codes "{\"act\":" ++ (quoted_word (content_word it) ++ (codes ",\"content\":" ++ (content_text it
    ++ (codes ",\"lodged\":" ++ (decimal lodged ++ (codes ",\"lodger\":" ++ (decimal lodger
    ++ (codes ",\"number\":" ++ (decimal n ++ (codes ",\"reference\":" ++ (reference ++ (codes ",\"source\":"
    ++ (decimal source ++ (codes ",\"state\":" ++ (quoted_word (state_word state) ++ codes "}")))))))))))))))
