-- The cards that the check of a plan answers [15.2], and examples of questions 7 and 8, computed on `check_plan_text` from their texts.
-- Facts about the definitions, none of them a definition to believe; assumes nothing.
use Rattle.std.specs.Prelude.{◌≡◌, refl, cond, List, [], ◌∷◌, ◌++◌, map, ℕ, eqb, Ok, Err}
use Rattle.refusals.specs.Answers.{Answer}
use Prim.Native.String.{String}
use Rattle.refusals.specs.Refusals.{refusal_number, refusal_line}
use Rattle.words.specs.Words.{bytes, table, words, same_letters, look_from, operands_of}
use Rattle.numerals.specs.Numerals.{all_digits, value, leading_zero, unsigned, not_below_zero, below_zero, numeral_of as numeral_of}
use Rattle.texts.specs.Texts.{lines_of, place_of}
use Rattle.lines.specs.Reading.{line_of as row_of, rows_in, formed, reading}
use Rattle.meaning.specs.Rows.{type_rows, all_type_rows, term_rows}
use Rattle.words.specs.Groups.{one_of}
use Rattle.syntax.specs.Ranges.{in_range}
use Rattle.syntax.specs.Names.{opened_by}
use Rattle.syntax.specs.Operands.{operand_of, operands_due}
use Rattle.syntax.specs.Walk.{ask_row, walk_from, listed_from, walk_table}
use Rattle.syntax.specs.Reading.{operands_among, read_rows, choose, plan_of}
use Rattle.typing.specs.Check.{check, check_type, check_types, check_plan}
use Rattle.typing.specs.Entry.{check_plan_rows, check_plan_text}

-- a text's lines, written with blanks between them
abbrev text : String → List ℕ
text s = map (λ (b : ℕ). cond (eqb b 32) 10 b) (bytes s) ++ (10 ∷ [])

-- a refusal as number and line; 0 and the rows of a plan that passes
abbrev shown : Answer → ℕ × ℕ
shown (Ok n) = (0, n)
shown (Err q) = (refusal_number q, refusal_line q)

-- The text of a plan, and how it is answered.
abbrev pub Card : Type 0
Card = String × ℕ × ℕ

abbrev answers : List Card → List (ℕ × ℕ)
answers cs = map (λ (c : Card). shown (check_plan_text words (text c.0))) cs

abbrev expected : List Card → List (ℕ × ℕ)
expected cs = map (λ (c : Card). (c.1, c.2)) cs

-- [15.2] P3, P4, P9 and P10.
abbrev pub cards : List Card
cards =
    ("plan,1 arr,7 num,0 split,3 in,0", 7, 4)
    ∷ ("plan,1 arr,2 num,0 idx,1 in,0", 0, 5)
    ∷ ("plan,1 arr,2 num,0 idx,2 in,0", 7, 4)
    ∷ ("plan,1 arr,64 arr,64 num,0 in,0", 0, 5)
    ∷ ("plan,1 arr,65 arr,64 num,0 in,0", 8, 2)
    ∷ ("plan,0 lit,-0", 2, 2)
    ∷ []

-- [10.19] 7 before 8 on a row; [5.11] a map or `redseq` whose array is none, before its body; [15.2] `zip` of 3 and 4 elements.
abbrev order : List Card
order =
    ("plan,2 arr,2049 num,0 arr,2048 num,0 zip,0 in,0 in,1", 7, 6)
    ∷ ("plan,0 mappar,0 lit,1 fst,0 lit,1", 7, 2)
    ∷ ("plan,0 redseq,0 lit,1 lit,1 fst,0 lit,1", 7, 2)
    ∷ ("plan,2 arr,3 num,0 arr,4 num,0 zip,0 in,0 in,1", 7, 6)
    ∷ []

-- [10.19] Questions 7 and 8: which row is named, and which "no" comes first; [15.2] a type of 9 levels.
abbrev types : List Card
types =
    ("plan,1 arr,65 arr,64 num,0 fst,0 lit,1", 8, 2)
    ∷ ("plan,1 arr,2049 num,0 pair,0 zip,0 in,0 in,0 fst,0 lit,1", 8, 5)
    ∷ ("plan,1 arr,2049 num,0 pair,0 fst,0 lit,1 zip,0 in,0 in,0", 7, 5)
    ∷ ("plan,1 arr,1 num,0 neg,0 in,0", 7, 4)
    ∷ ("plan,1 arr,1 num,0 add,0 lit,1 in,0", 7, 4)
    ∷ ("plan,1 arr,1 num,0 redseq,0 lit,1 in,0 pair,0 var,0 var,1", 7, 4)
    ∷ ("plan,0 redseq,0 lit,1 fst,0 lit,1 lit,1", 7, 4)
    ∷ ("plan,0 redseq,0 fst,0 lit,1 lit,1 lit,1", 7, 3)
    ∷ ("plan,0 zip,0 lit,1 fst,0 lit,1", 7, 4)
    ∷ ("plan,0 add,0 pair,0 lit,1 lit,1 fst,0 lit,1", 7, 6)
    ∷ ("plan,1 arr,2049 num,0 redseq,0 lit,0 in,0 zip,0 in,0 in,0", 8, 7)
    ∷ ("plan,1 arr,65 num,0 mappar,0 in,0 mapseq,0 in,0 lit,0", 8, 4)
    ∷ ("plan,2 arr,2048 num,0 arr,2049 num,0 zip,0 in,0 in,1", 7, 6)
    ∷ ("plan,1 arr,2 arr,65 arr,64 num,0 lit,1", 8, 3)
    ∷ ("plan,1 two,0 arr,4096 num,0 num,0 lit,1", 8, 2)
    ∷ ("plan,1 arr,1 arr,1 arr,1 arr,1 arr,1 arr,1 arr,1 arr,1 num,0 in,0", 8, 2)
    ∷ ("plan,1 arr,1 arr,1 arr,1 arr,1 arr,1 arr,1 arr,1 arr,1 arr,1 num,0 in,0", 8, 3)
    ∷ ("plan,1 two,0 two,0 two,0 two,0 two,0 two,0 two,0 two,0 num,0 num,0 num,0 num,0 num,0 num,0 num,0 num,0 num,0 in,0", 8, 2)
    ∷ ("plan,1 arr,4096 num,0 fst,0 idx,0 zip,0 in,0 in,0", 8, 6)
    ∷ ("plan,1 arr,1 arr,1 arr,1 arr,1 arr,1 arr,1 arr,1 num,0 join,0 split,1 in,0", 8, 11)
    ∷ ("plan,1 arr,1 arr,1 arr,1 arr,1 arr,1 arr,1 arr,1 num,0 zip,0 in,0 in,0", 8, 10)
    ∷ ("plan,2 arr,2 arr,3 num,0 arr,6 num,0 redseq,0 in,0 in,1 in,1", 7, 7)
    ∷ ("plan,1 arr,2 num,0 redseq,0 pair,0 lit,1 lit,2 in,0 in,0", 7, 4)
    ∷ ("plan,1 arr,6 num,0 idx,2 split,2 in,0", 0, 6)
    ∷ ("plan,1 arr,6 num,0 idx,1 idx,2 split,2 in,0", 0, 7)
    ∷ []

-- [18.2] Vectors: where they may stand; what is no vector and what is no array; widths that divide, and lanes that are there; bodies of
-- `mapvec`; and questions 5, 6 and 8 on them.
abbrev vectors : List Card
vectors =
    ("plan,1 two,0 vec,2 arr,3 vec,4 snd,0 in,0", 0, 7)
    ∷ ("plan,1 arr,1 arr,1 arr,1 arr,1 arr,1 arr,1 vec,2 in,0", 0, 9)
    ∷ ("plan,1 arr,1 arr,1 arr,1 arr,1 arr,1 arr,1 arr,1 vec,2 in,0", 8, 2)
    ∷ ("plan,1 arr,257 vec,16 in,0", 8, 2)
    ∷ ("plan,1 vec,2 idx,0 in,0", 7, 3)
    ∷ ("plan,1 vec,2 mappar,0 in,0 fst,0 lit,1", 7, 3)
    ∷ ("plan,1 arr,2 vec,2 join,0 in,0", 7, 4)
    ∷ ("plan,1 arr,2 num,0 at,0 in,0", 7, 4)
    ∷ ("plan,2 vec,2 arr,1 num,0 redseq,0 in,0 in,1 mappar,0 in,1 var,0", 7, 5)
    ∷ ("plan,1 vec,2 add,0 in,0 in,0", 7, 3)
    ∷ ("plan,1 arr,4 two,0 num,0 num,0 asvec,2 in,0", 7, 6)
    ∷ ("plan,1 vec,4 asscal,0 in,0", 7, 3)
    ∷ ("plan,1 arr,6 num,0 asvec,4 in,0", 7, 4)
    ∷ ("plan,1 arr,2 num,0 asvec,2 in,0", 0, 5)
    ∷ ("plan,1 arr,2 num,0 mapvec,0 in,0 fst,0 lit,1", 7, 4)
    ∷ ("plan,1 vec,2 mapvec,0 in,0 pair,0 var,0 var,0", 7, 3)
    ∷ ("plan,1 vec,2 mapvec,0 in,0 in,0", 7, 3)
    ∷ ("plan,1 vec,2 at,0 mapvec,0 in,0 at,0 mapvec,0 in,0 at,0 mapvec,0 in,0 at,0 mapvec,0 in,0 at,0 mapvec,0 in,0 at,0 mapvec,0 in,0 at,0 mapvec,0 in,0 at,0 mapvec,0 in,0 at,0 mapvec,0 in,0 at,0 mapvec,0 in,0 at,0 mapvec,0 in,0 at,0 mapvec,0 in,0 at,0 mapvec,0 in,0 at,0 mapvec,0 in,0 at,0 mapvec,0 in,0 at,0 mapvec,0 in,0 at,0 mapvec,0 in,0 lit,0", 6, 52)
    ∷ ("plan,1 vec,3 in,0", 5, 2)
    ∷ ("plan,1 arr,4 num,0 asvec,1 in,0", 5, 4)
    ∷ ("plan,1 vec,2 at,2 in,0", 7, 3)
    ∷ ("plan,1 vec,16 at,16 in,0", 5, 3)
    ∷ ("plan,1 arr,1 vec,2 asscal,2 in,0", 5, 4)
    ∷ ("plan,1 arr,2 vec,2 asscal,0 mappar,0 in,0 mapvec,0 var,0 add,0 var,0 at,1 var,1", 0, 12)
    ∷ []

-- [15.2] `arr,4097`; a "no" of each of the questions 2 and 4 to 6; and the plan of P1 [15.1].
abbrev others : List Card
others =
    ("plan,1 arr,4097 num,0 in,0", 5, 2)
    ∷ ("plan,2 arr,3 num,0 arr,3 num,0 zip,0 in,0 in,1", 0, 8)
    ∷ ("plan,1 arr,6 num,0 split,3 in,0", 0, 5)
    ∷ ("plan,0 lit,1 ", 2, 3)
    ∷ ("plan,0 set,0", 4, 2)
    ∷ ("plan,0", 4, 2)
    ∷ ("plan,0 lit,1 lit,2", 4, 3)
    ∷ ("plan,1 num,1 in,0", 5, 2)
    ∷ ("plan,1 arr,1 num,0 redseq,0 lit,0 in,0 redseq,0 lit,0 in,0 redseq,0 lit,0 in,0 redseq,0 lit,0 in,0 redseq,0 lit,0 in,0 redseq,0 lit,0 in,0 redseq,0 lit,0 in,0 redseq,0 lit,0 in,0 mappar,0 in,0 lit,0", 6, 28)
    ∷ ("plan,0 fst,0 lit,1 lit,2", 4, 4)
    ∷ ("plan,1 arr,2 num,0 redseq,0 lit,0 in,0 add,0 var,0 var,1", 0, 9)
    ∷ []

pub cards_answered : answers cards ≡ expected cards
unfolding words table same_letters look_from operands_of all_digits value leading_zero unsigned not_below_zero below_zero
    numeral_of lines_of place_of row_of rows_in formed reading type_rows all_type_rows term_rows one_of in_range opened_by
    operand_of operands_due ask_row walk_from listed_from walk_table operands_among read_rows choose plan_of check check_type
    check_types check_plan check_plan_rows check_plan_text
cards_answered = refl

vectors_answered : answers vectors ≡ expected vectors
unfolding words table same_letters look_from operands_of all_digits value leading_zero unsigned not_below_zero below_zero
    numeral_of lines_of place_of row_of rows_in formed reading type_rows all_type_rows term_rows one_of in_range opened_by
    operand_of operands_due ask_row walk_from listed_from walk_table operands_among read_rows choose plan_of check check_type
    check_types check_plan check_plan_rows check_plan_text
vectors_answered = refl

order_answered : answers order ≡ expected order
unfolding words table same_letters look_from operands_of all_digits value leading_zero unsigned not_below_zero below_zero
    numeral_of lines_of place_of row_of rows_in formed reading type_rows all_type_rows term_rows one_of in_range opened_by
    operand_of operands_due ask_row walk_from listed_from walk_table operands_among read_rows choose plan_of check check_type
    check_types check_plan check_plan_rows check_plan_text
order_answered = refl

examples_answered : answers (types ++ others) ≡ expected (types ++ others)
unfolding words table same_letters look_from operands_of all_digits value leading_zero unsigned not_below_zero below_zero
    numeral_of lines_of place_of row_of rows_in formed reading type_rows all_type_rows term_rows one_of in_range opened_by
    operand_of operands_due ask_row walk_from listed_from walk_table operands_among read_rows choose plan_of check check_type
    check_types check_plan check_plan_rows check_plan_text
examples_answered = refl
