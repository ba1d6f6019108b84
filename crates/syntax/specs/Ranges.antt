-- The range of each word's number: [10.5]. Definitions only; assumes nothing.
use Rattle.std.specs.Prelude.{Bool, true, false, cond, ◌&&◌, List, [], ◌∷◌, map, ℕ, eqb, ltb, leb, ℤ, pos, negsuc}
use Rattle.words.specs.Kinds.{word_plan, word_arr, word_kind_in, word_var, word_lit, word_split, word_idx, word_loops, word_cells, word_for}
use Rattle.words.specs.Kinds.{word_par, word_new, word_loc, word_ctr, word_times, word_over, word_rest, word_vec, word_asvec, word_kind_at}
use Rattle.words.specs.Kinds.{word_lanes}
use Rattle.words.specs.Groups.{one_of}
use Rattle.words.specs.declared.Sort.{Sort}
use Rattle.words.specs.declared.Sort.TheVariants.{Plan, DataType, Term, Loops, Cells, Command, Place, Value, Offset}
use Rattle.syntax.specs.declared.names.Names.{Names}

-- a row's number as a natural number: a negative one, which only a literal may have, lies beyond every limit
abbrev pub as_natural : ℤ → ℕ
as_natural (pos n) = n
as_natural (negsuc n) = 2147483648

abbrev pub is_offset : Sort → Bool
is_offset Plan = false
is_offset DataType = false
is_offset Term = false
is_offset Loops = false
is_offset Cells = false
is_offset Command = false
is_offset Place = false
is_offset Value = false
is_offset Offset = true

abbrev pub literal_in_range : Sort → ℕ → Bool
literal_in_range s n = cond (is_offset s) (leb n 4095) true

abbrev pub sizes : List ℕ
sizes = word_arr ∷ word_split ∷ word_for ∷ word_par ∷ word_new ∷ word_cells ∷ word_times ∷ word_over ∷ word_rest ∷ []

-- [13.19] the kinds that have a width as their number, and the widths
abbrev pub wide : List ℕ
wide = word_vec ∷ word_asvec ∷ word_lanes ∷ []

abbrev pub widths : List ℕ
widths = 2 ∷ 4 ∷ 8 ∷ 16 ∷ []

-- [10.5] K as in [13.6], sizes as in [13.7], widths as in [13.19], `at` as in [13.20], `idx` and the `lit` of an offset as in [13.8];
-- `in`, `var`, `ctr` and `loc` name one in force; the `lit` of a term or value is any; every other number is 0. Of a row of kind k and number n where a row of sort s is due
-- and these names are in force.
unfoldable pub in_range : Sort → Names → ℕ → ℕ → Bool
in_range s names k n =
    cond (one_of k sizes) (leb 1 n && leb n 4096)
    (cond (one_of k wide) (one_of n widths)
    (cond (one_of k (word_plan ∷ word_loops ∷ [])) (leb n 8)
    (cond (eqb k word_idx) (leb n 4095)
    (cond (eqb k word_kind_at) (leb n 15)
    (cond (eqb k word_kind_in) (ltb n names.inputs)
    (cond (eqb k word_var) (ltb n names.variables)
    (cond (eqb k word_ctr) (ltb n names.counters)
    (cond (eqb k word_loc) (ltb n names.regions)
    (cond (eqb k word_lit) (literal_in_range s n)
    (eqb n 0))))))))))

-- the cells that stand in `cells` rows
abbrev pub cell_numbers : List ℤ → List ℕ
cell_numbers zs = map as_natural zs
