-- Paths as the code holds them: a stack of nodes, each of which changes the path behind it as [6.21] to [6.23] say (Figure 5 of the
-- paper). Definitions only; assumes nothing.
use Rattle.std.specs.Prelude.{cond, List, [], ◌∷◌, ℕ, zero, suc, eqb, get_or}
use Rattle.words.specs.Kinds.{word_zip, word_pair, word_split, word_join, word_fst, word_snd, word_idx, word_ctr}
use Rattle.meaning.specs.Loops.{Offset}
use Rattle.meaning.specs.Paths.{Path, tail, index, first, second}
use Rattle.meaning.specs.Offsets.{ungrouped, grouped, unzipped, zipped_at}
use Rattle.emission.specs.Nodes.{kind_in, number_in}
use Rattle.emission.specs.declared.paths.Change.{Change}
use Rattle.emission.specs.declared.paths.Change.TheVariants.{Zip, Pair, Ungrouped, Grouped, First, Second, AtLiteral, AtCounter, ZipFirst, ZipSecond, Unchanged}

-- The kinds of nodes that are no word, past those of every table of words: the places of a zip's operands.
abbrev pub zip_first : ℕ
zip_first = 254

abbrev pub zip_second : ℕ
zip_second = 255

-- the change that a node of a kind makes
abbrev pub change_of : ℕ → Change
change_of k =
    cond (eqb k word_zip) Zip
    (cond (eqb k word_pair) Pair
    (cond (eqb k word_split) Ungrouped
    (cond (eqb k word_join) Grouped
    (cond (eqb k word_fst) First
    (cond (eqb k word_snd) Second
    (cond (eqb k word_idx) AtLiteral
    (cond (eqb k word_ctr) AtCounter
    (cond (eqb k zip_first) ZipFirst
    (cond (eqb k zip_second) ZipSecond
    Unchanged)))))))))

-- The path behind a node of number n, where p leads to the node: [6.22] for groups, [6.23] for `zip` and `pair`, [6.21] for indices.
abbrev pub through : Change → ℕ → Path Offset → Path Offset
through Zip n p = unzipped p
through Pair n p = tail p
through Ungrouped n p = ungrouped n p
through Grouped n p = grouped n p
through First n p = first ∷ p
through Second n p = second ∷ p
through AtLiteral n p = index (Offset.literal n) ∷ p
through AtCounter n p = index (Offset.counter n) ∷ p
through ZipFirst n p = zipped_at first p
through ZipSecond n p = zipped_at second p
through Unchanged n p = p

-- the path that the first d nodes make
unfoldable pub path_of : List ℕ → ℕ → Path Offset
path_of changes zero = []
path_of changes (suc d) =
    through (change_of (kind_in (get_or changes d 0))) (number_in (get_or changes d 0)) (path_of changes d)
