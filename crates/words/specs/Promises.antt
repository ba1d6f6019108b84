-- What a search for a word promises: [17.1]. Definitions only; assumes nothing.
use Rattle.std.specs.Prelude.{◌≡◌, List, ℕ}
use Rattle.words.specs.Words.{look_up, compared}
use Rattle.words.specs.declared.Search.{Search}

-- `words::look_up`, and `words::find` in any table: the word and the search told; ws is the table of words
abbrev pub LooksUp : List (List ℕ) → List ℕ → Search → Type 0
LooksUp ws l r = (r.found ≡ look_up ws l) × (r.compared ≡ compared ws l)
