-- `vazhdumir_look_up_in` meets its contract: the number of what the library's twin tells.
use Rattle.own_words.specs.Laws.{searched_few}
use Rattle.vazhdumir.proofs.vazhdumir_look_up_in.Goals as goal

pub searched_code-requires : goal.searched_code-requires
searched_code-requires c = λ s told. searched_few _ _ c.look_up_in.ensures told
