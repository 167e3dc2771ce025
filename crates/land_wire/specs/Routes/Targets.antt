-- Request targets: a path, and a query after the first `?`.
use Rattle.std.specs.Prelude.{ℕ, Bool, ◌==◌, List}
use Rattle.std.specs.List.{before_first, after_first}

abbrev pub is_question_mark : ℕ → Bool
is_question_mark byte = byte == 63

-- the path before the first `?`, and the query after it
abbrev pub path_of : List ℕ → List ℕ
path_of target = before_first is_question_mark target

abbrev pub query_of : List ℕ → List ℕ
query_of target = after_first is_question_mark target
