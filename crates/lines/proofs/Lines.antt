-- What `line_of`, `cut_line` and the loop over lines know at each way out. A part of a slice from place n on is
-- `take (length l - n) (drop n l)`. Assumes nothing.
use Rattle.std.specs.Prelude.{Option, Some, None, Ok, Err}
use mathlib.Core.Path.{◌≡◌, refl, sym, ap, ap₂, ◌∙◌}
use mathlib.Core.List.{List, [], ◌∷◌, map}
use Prim.Native.Nat.{ℕ, suc, ◌+◌, ◌-◌, ◌<◌}
use native.Mathlib.Numerals.{add-one}
use native.Mathlib.Omega.{arith}
use lib.IntN.{ℤ, pos, negsuc}
use mir.Syntax.{w32}
use mir.Val.{SFits}
use lib.ListN.{length, set, take, drop, length-drop, drop_of_length-le}
use lib.Seq.{sets, take_all}
use Rattle.words.specs.Kinds.{Row}
use Rattle.words.specs.Tables.{words_in}
use Rattle.words.specs.Words.{look_up}
use Rattle.words.proofs.Laws.{found_word, words_count, words_in_count}
use Rattle.refusals.specs.declared.Refusal.TheVariants.{LineForm}
use Rattle.numerals.specs.Numerals.{numeral_of}
use Rattle.numerals.specs.Laws.{in_range_holds}
use Rattle.texts.specs.Texts.{place_of, before_comma, lines_of, first_line, after_first}
use Rattle.lines.specs.Reading.{cell_named, cell_head, head_of, paired, line_of, add_row, rows_in, whether, formed}
use Rattle.texts.specs.Laws.{lines_next}
use Rattle.lines.specs.Reading.{Below}
use Rattle.lines.specs.declared.Heads.TheVariants.{Words}

pub part_all : (l : List ℕ) (n : ℕ) → take (length l - n) (drop n l) ≡ drop n l
part_all l n = take_all (length l - n) (drop n l) (omega (arith, length-drop n l))

no_pair_holds : (f : Option ℕ) → None ≡ paired f None
no_pair_holds (Some k) = refl
no_pair_holds None = refl

module _ (head : List ℕ → Option ℕ) (l : List ℕ) (n : ℕ) (comma : n ≡ place_of 44 l) where
  line_by : line_of head l ≡ paired (head (take n l)) (numeral_of (drop (suc n) l))
  unfolding line_of
  line_by = ap (λ (k : ℕ). paired (head (take k l)) (numeral_of (drop (suc k) l))) (sym comma)

  pub no_head : {f : Option ℕ} → f ≡ head (take n l) → f ≡ None → None ≡ line_of head l
  no_head e is = ap (λ (g : Option ℕ). paired g (numeral_of (drop (suc n) l))) (sym is ∙ e) ∙ sym line_by

  pub no_comma : length l ≡ n → None ≡ line_of head l
  unfolding numeral_of
  no_comma e =
      let none : drop (suc n) l ≡ [] = drop_of_length-le l {i = suc n} (omega arith) in
      no_pair_holds (head (take n l)) ∙ ap (λ (t : List ℕ). paired (head (take n l)) (numeral_of t)) (sym none) ∙ sym line_by

  behind : {d : Option ℤ} → d ≡ numeral_of (take (length l - (n + 1)) (drop (n + 1) l)) → d ≡ numeral_of (drop (suc n) l)
  behind e = e ∙ ap numeral_of (part_all l (n + 1) ∙ ap (λ (k : ℕ). drop k l) (add-one n))

  pub no_number : {d : Option ℤ} → d ≡ numeral_of (take (length l - (n + 1)) (drop (n + 1) l)) → d ≡ None → None ≡ line_of head l
  no_number e is = no_pair_holds (head (take n l)) ∙ ap (paired (head (take n l))) (sym is ∙ behind e) ∙ sym line_by

  pub row : {f : Option ℕ} {d : Option ℤ} {k : ℕ} {z : ℤ} → f ≡ head (take n l) → f ≡ Some k
      → d ≡ numeral_of (take (length l - (n + 1)) (drop (n + 1) l)) → d ≡ Some z → Some (k, z) ≡ line_of head l
  row e is e' is' = ap₂ paired (sym is ∙ e) (sym is' ∙ behind e') ∙ sym line_by

pub cut_shorter : (t : List ℕ) → 0 < length t → length (drop (after_first t) t) < length t
cut_shorter t h = omega (arith, length-drop (after_first t) t)

-- a turn of the loop over the lines of a text, of which t is left and then next, and its end
module _ (head : List ℕ → Option ℕ) (t next : List ℕ) {line : Option Row} (here : 0 < length t)
    (is : line ≡ line_of head (first_line t)) (to : next ≡ drop (after_first t) t) where
  lines_split : lines_of t ≡ first_line t ∷ lines_of next
  lines_split = lines_next t here ∙ ap (λ (u : List ℕ). first_line t ∷ lines_of u) (sym to)

  formed_next : (n : ℕ) → formed head n (lines_of t) ≡ whether line (formed head (n + 1) (lines_of next)) (Err (LineForm (n + 1)))
  unfolding formed
  formed_next n =
      ap (formed head n) lines_split
      ∙ ap (λ (x : Option Row). whether x (formed head (suc n) (lines_of next)) (Err (LineForm (suc n)))) (sym is)
      ∙ ap (λ (k : ℕ). whether line (formed head k (lines_of next)) (Err (LineForm k))) (sym (add-one n))

  pub formed_row : (n : ℕ) {k : ℕ} {z : ℤ} → line ≡ Some (k, z) → formed head n (lines_of t) ≡ formed head (n + 1) (lines_of next)
  formed_row n row = formed_next n ∙ ap (λ (x : Option Row). whether x (formed head (n + 1) (lines_of next)) (Err (LineForm (n + 1)))) row

  pub formed_none : (n : ℕ) → line ≡ None → Err (LineForm (n + 1)) ≡ formed head n (lines_of t)
  formed_none n none = sym (formed_next n ∙ ap (λ (x : Option Row). whether x (formed head (n + 1) (lines_of next)) (Err (LineForm (n + 1)))) none)

  -- f is what a column of the table holds of a row
  pub column_next : {A : Type 0} (f : Row → A) (l m : List A) (row : ℕ) {k : ℕ} {z : ℤ} {all : List A} → line ≡ Some (k, z) → m ≡ set l row (f (k, z))
      → sets l row (map f (rows_in head (lines_of t))) ≡ all → sets m (row + 1) (map f (rows_in head (lines_of next))) ≡ all
  unfolding rows_in
  column_next {A} f l m row {k} {z} some put so_far =
      ap₂ (λ (x : List A) (n : ℕ). sets x n (map f (rows_in head (lines_of next)))) put (add-one row)
      ∙ ap (λ (x : Option Row). sets l row (map f (add_row x (rows_in head (lines_of next))))) (sym some ∙ is)
      ∙ ap (λ (ls : List (List ℕ)). sets l row (map f (rows_in head ls))) (sym lines_split)
      ∙ so_far

module _ (head : List ℕ → Option ℕ) (t : List ℕ) (end : length t ≡ 0) where
  none_left : lines_of t ≡ []
  unfolding lines_of
  none_left = go t end
    where
      go : (t : List ℕ) → length t ≡ 0 → lines_of t ≡ []
      go [] e = refl
      go (b ∷ t) e = absurd (omega arith)

  pub formed_end : (n : ℕ) → formed head n (lines_of t) ≡ Ok n
  unfolding formed
  formed_end n = ap (formed head n) none_left

  pub column_end : {A : Type 0} (f : Row → A) (l : List A) (row : ℕ) {all : List A} → sets l row (map f (rows_in head (lines_of t))) ≡ all → l ≡ all
  unfolding rows_in
  column_end f l row so_far = ap (λ (ls : List (List ℕ)). sets l row (map f (rows_in head ls))) (sym none_left) ∙ so_far

-- ---- how large a row's kind, or cell, is

below_paired : (n : ℕ) (f : Option ℕ) (d : Option ℤ) → ((k : ℕ) → f ≡ Some k → k < n) → Below n (paired f d)
below_paired n (Some k) (Some z) h = h k refl
below_paired n (Some k) None h = tt
below_paired n None d h = tt

cell_small : (d : Option ℤ) (k : ℕ) → ((z : ℤ) → d ≡ Some z → SFits w32 z) → cell_named d ≡ Some k → k < 2147483648
cell_small (Some (pos n)) k h e = let q : n ≡ k = cc in omega (arith, (h (pos n) refl).sfits)
cell_small (Some (negsuc n)) k h e = let clash : ◌≡◌ {A = ℕ} 0 1 = cc in absurd (omega arith)
cell_small None k h e = let clash : ◌≡◌ {A = ℕ} 0 1 = cc in absurd (omega arith)

pub kind_below : (table : List (List ℕ)) (l : List ℕ) → Below 256 (line_of (head_of (words_in table) Words) l)
unfolding line_of
kind_below table l =
    below_paired 256 _ _
    (λ (k : ℕ) (f : look_up (words_in table) (before_comma l) ≡ Some k). omega (arith, (found_word (words_in table) (before_comma l) k f).0, words_in_count table, words_count))

pub cell_below : (l : List ℕ) → Below 2147483648 (line_of cell_head l)
unfolding line_of
cell_below l = below_paired 2147483648 _ _ (λ k f. cell_small (numeral_of (before_comma l)) k (λ z g. in_range_holds (before_comma l) g) f)
