-- `words::built_in` meets its contract: the words of the code's table, and the table itself, computed.
use mathlib.Core.Path.{refl}
use Rattle.words.specs.Packed.{packed, packed_table}
use Rattle.words.specs.Tables.{first_of, words_in}
use Rattle.words.specs.Words.{words, table}
use Rattle.words.proofs.built_in.Goals as goal

pub returns : goal.returns
unfolding words_in first_of words packed_table packed table
returns c = record { words_in = refl; packed = refl }
