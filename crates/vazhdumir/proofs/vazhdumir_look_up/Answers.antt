-- `vazhdumir_look_up` meets its contract: the number of the library's search.
use native.Mathlib.Omega.{arith}
use Rattle.words.proofs.Laws.{compared_few}
use Rattle.words.specs.Words.{words}
use Rattle.vazhdumir.proofs.vazhdumir_look_up.Goals as goal

pub search_code-requires : goal.search_code-requires
search_code-requires c = omega (arith, c.look_up.ensures.1, compared_few words c.args.word.now)
