-- The words of acts in paths.
use Rattle.std.specs.Prelude.{ℕ, List, [], ◌∷◌, codes, bytes_eq, Option}
use Rattle.std.specs.List.{find}
use Rattle.land_wire.specs.declared.routes.act_word.ActWord.{ActWord}
use Rattle.land_wire.specs.declared.routes.act_word.ActWord.TheVariants as act

-- each act has one word, in lower case
abbrev pub act_word : ActWord → List ℕ
act_word act.Enrol = codes "enrol"
act_word act.Group = codes "group"
act_word act.Regroup = codes "regroup"
act_word act.Grant = codes "grant"
act_word act.Revoke = codes "revoke"
act_word act.Mandate = codes "mandate"
act_word act.Withdraw = codes "withdraw"
act_word act.Register = codes "register"
act_word act.Burden = codes "burden"
act_word act.Lift = codes "lift"
act_word act.Transfer = codes "transfer"
act_word act.Subdivision = codes "subdivision"
act_word act.Merger = codes "merger"
act_word act.Mortgage = codes "mortgage"
act_word act.Discharge = codes "discharge"
act_word act.Approve = codes "approve"
act_word act.Refuse = codes "refuse"

-- all acts
abbrev pub acts : List ActWord
acts =
    act.Enrol ∷ act.Group ∷ act.Regroup ∷ act.Grant ∷ act.Revoke ∷ act.Mandate ∷ act.Withdraw
    ∷ act.Register ∷ act.Burden ∷ act.Lift ∷ act.Transfer ∷ act.Subdivision ∷ act.Merger
    ∷ act.Mortgage ∷ act.Discharge ∷ act.Approve ∷ act.Refuse ∷ []

-- the act with these bytes as its word
abbrev pub act_of : List ℕ → Option ActWord
act_of bytes = find (λ a. bytes_eq bytes (act_word a)) acts
