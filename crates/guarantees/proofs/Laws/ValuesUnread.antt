-- Demand 1 of `reads_values`: a text whose first line has the number `0` and that is answered "yes" at the door is that of loops without
-- inputs, whatever the first line's word is. Assumes nothing.
use Rattle.std.specs.Prelude.{Bool, true, false, not, ◌&&◌, ◌≡◌, refl, List, [], ◌∷◌, ℕ, T, leb, ℤ, pos, length, get_or, drop, Some, Option, None}
use Rattle.std.proofs.Common.{true≢false, sym, ap, ◌∙◌, subst, arith, leb→le}
use Rattle.std.specs.Float.Ieee.Fits.{and_l}
use Rattle.words.specs.Kinds.{Row}
use Rattle.words.specs.Words.{bytes, look_up, same_letters}
use Rattle.words.proofs.Laws.{same_equal}
use Rattle.numerals.specs.Numerals.{all_digits, value, leading_zero, unsigned, not_below_zero, numeral_of}
use Rattle.texts.specs.Texts.{lines_of, first_line, after_first, before_comma, after_comma}
use Rattle.texts.specs.Laws.{lines_next}
use Rattle.lines.specs.Lent.{text_rows}
use Rattle.lines.specs.Reading.{line_of, add_row, rows_in, head_of, loops_limits}
use Rattle.lines.proofs.Laws.{paired_row}
use Rattle.lines.specs.declared.Heads.TheVariants.{Words}
use Rattle.meaning.specs.Loops.{Loops}
use Rattle.meaning.specs.Rows.{loops_rows}
use Rattle.typing.specs.Questions.{AllYes}
use Rattle.typing.specs.EntryQuestions.{is_row, line_questions, form_questions, read_questions}
use Rattle.typing.proofs.Laws.Questions.{yes_parts}
use Rattle.programs.specs.Promises.{SaysValuesRead}
use Rattle.guarantees.specs.Questions.{loops_door}

zero_read : numeral_of (bytes "0") ≡ Some (pos 0)
unfolding all_digits value leading_zero unsigned not_below_zero numeral_of
zero_read = refl

-- the row of a line whose number is `0`
numbered : (ws : List (List ℕ)) (l : List ℕ) → after_comma l ≡ bytes "0" → (k : ℕ) (z : ℤ) → line_of (look_up ws) l ≡ Some (k, z) → z ≡ pos 0
unfolding line_of
numbered ws l number k z e =
    let read : numeral_of (after_comma l) ≡ Some z = (paired_row (look_up ws (before_comma l)) (numeral_of (after_comma l)) k z e).1 in
    let zero : numeral_of (after_comma l) ≡ Some (pos 0) = ap numeral_of number ∙ zero_read in
    cc

pub values_unread : (ws : List (List ℕ)) (t : List ℕ) → SaysValuesRead t false → AllYes (loops_door ws t)
    → (L : Loops) → text_rows ws t ≡ loops_rows L → L.inputs ≡ []
unfolding rows_in read_questions form_questions line_questions loops_rows
values_unread ws t says door L rows =
    let l : List ℕ = first_line t in
    let form = (yes_parts (read_questions (head_of ws Words) loops_limits t) _ door).0 in
    let some = leb→le 1 (length t) (and_l (leb 1 (length t)) _ (and_l (leb 1 (length t) && leb (length t) 65536) _ form.0)) in
    let ls : lines_of t ≡ l ∷ lines_of (drop (after_first t) t) = lines_next t some in
    let asked : AllYes (line_questions (head_of ws Words) 0 (lines_of t)) = (yes_parts (line_questions (head_of ws Words) 0 (lines_of t)) _ form.1).0 in
    let here = (subst (λ (x : List (List ℕ)). AllYes (line_questions (head_of ws Words) 0 x)) ls asked).0 in
    let others : List Row = rows_in (look_up ws) (lines_of (drop (after_first t) t)) in
    go others (line_of (look_up ws) l) refl here (sym (ap (rows_in (look_up ws)) ls) ∙ rows)
  where
    number : (b : Bool) → same_letters (after_comma (first_line t)) (bytes "0") ≡ b → false ≡ not b → after_comma (first_line t) ≡ bytes "0"
    number true e h = same_equal (after_comma (first_line t)) (bytes "0") (subst T (sym e) tt)
    number false e h = absurd (true≢false (sym h))

    none : (x : List ℕ) → length x ≡ 0 → x ≡ []
    none [] h = refl
    none (y ∷ x) h = absurd (omega arith)

    go : (R : List Row) (x : Option Row) → line_of (look_up ws) (first_line t) ≡ x → T (is_row x) → add_row x R ≡ loops_rows L → L.inputs ≡ []
    go R (Some (k, z)) e y g =
        let zero : z ≡ pos 0 = numbered ws (first_line t) (number _ refl says) k z e in
        let same : z ≡ pos (length L.inputs) = ap (λ (S : List Row). (get_or S 0 (0, pos 0)).1) g in
        let count : length L.inputs ≡ 0 = cc in
        none L.inputs count
    go R None e y g = absurd y
