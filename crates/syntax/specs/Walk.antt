-- The walk that puts [10.4], [10.5], [10.6] and [18.15] to one row after the other, from the top [10.18]. Definitions only; assumes nothing.
use Rattle.std.specs.Prelude.{Bool, cond, List, [], ◌∷◌, ◌++◌, ℕ, suc, ◌+◌, drop, Ok, Err, Option, Some, None}
use Rattle.refusals.specs.declared.Refusal.TheVariants.{LineForm, RowDue, NumberRange, NameCount, LanesInside}
use Rattle.words.specs.Kinds.{Row}
use Rattle.words.specs.Groups.{is_listed}
use Rattle.refusals.specs.Answers.{after, Answer}
use Rattle.words.specs.Words.{operands_of}
use Rattle.words.specs.declared.Sort.{Sort}
use Rattle.syntax.specs.declared.operands.Due.{Due}
use Rattle.syntax.specs.Ranges.{as_natural, in_range}
use Rattle.syntax.specs.Names.{no_names, opened_by, names_fit, lanes_fit}
use Rattle.syntax.specs.Operands.{inputs_counted, due, operands_due}

-- ---- one row

-- the answers to questions 4, 5, 6 and 18, and how many inputs and operands follow
abbrev pub first_no : Option ℕ → Bool → Bool → Bool → ℕ → ℕ → Answer
first_no None ranged fit apart inputs line = Err (RowDue line)
first_no (Some m) ranged fit apart inputs line =
    cond ranged (cond fit (cond apart (Ok (inputs + m)) (Err (LanesInside line))) (Err (NameCount line))) (Err (NumberRange line))

-- [10.18] Is the row of the sort that is due [10.4], its number in range [10.5], and do the names in force and its own fit [10.6]? And does
-- no `lanes` stand in another [18.15]? Of a row of kind k and number n where d is due: how many operands follow, or the first "no".
unfoldable pub ask_row : Due → ℕ → ℕ → ℕ → Answer
ask_row d k n line =
    first_no (operands_of k d.sort) (in_range d.sort d.names k n) (names_fit (opened_by k n d.names)) (lanes_fit (opened_by k n d.names))
    (inputs_counted d.sort n) line

-- ---- the walk

-- What is due, the rows, and how many rows stand before them. [1.7] Behind a row its operands are due. [10.4] At the end nothing is
-- still due, and no row is left.
unfoldable pub walk_from : ℕ → List Due → List Row → Answer
walk_from p [] [] = Ok p
walk_from p [] (r ∷ rs) = Err (RowDue (suc p))
walk_from p (d ∷ ds) [] = Err (RowDue (suc p))
walk_from p (d ∷ ds) (r ∷ rs) =
    after (ask_row d r.0 (as_natural r.1) (suc p)) (λ m. walk_from (suc p) (operands_due d r.0 (as_natural r.1) m ++ ds) rs)

-- [10.2], of a table that was not read from a text: is every kind a word's?
unfoldable pub listed_from : ℕ → List Row → Answer → Answer
listed_from p [] next = next
listed_from p (r ∷ rs) next = cond (is_listed r.0) (listed_from (suc p) rs next) (Err (LineForm (suc p)))

-- the rows of a whole table, a plan's or loops'
unfoldable pub walk_table : Sort → List Row → Answer
walk_table s rs = listed_from 0 rs (walk_from 0 (due s no_names ∷ []) rs)

-- ---- what the contracts of parts of the walk say besides

-- a walk over some operands of a table, up to the row told, and then what else is due
abbrev pub walk_on : Answer → List Due → List Row → Answer
walk_on (Ok n) ds rs = walk_from n ds (drop n rs)
walk_on (Err q) ds rs = Err q

abbrev pub passed : Answer → ℕ
passed (Ok n) = n
passed (Err q) = 0
