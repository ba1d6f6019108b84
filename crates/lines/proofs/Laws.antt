-- Texts and rows, both ways: what is printed reads back, what is read prints back, and how long a printed text is. The
-- first two hold for every table of distinct lower-case words. Assumes nothing.
use Rattle.std.specs.Prelude.{◌≡◌, Bool, ◌&&◌, ◌⊎◌, T, eqb, leb, ℤ, pos, get_or, Option, Some, None, Ok, Err}
use Rattle.refusals.specs.Answers.{Answer}
use Rattle.std.proofs.Math.Path.{refl, sym, ap, ap₂}
use Rattle.std.proofs.Common.{◌∙◌, subst, ⊎_elim, zero-add, add-zero, add-suc, le-leb, eq-eqb, leb→le, eqb→eq, SFits}
use Rattle.std.proofs.Math.Bool.{true, false, cond}
use mathlib.Core.List.{List, [], ◌∷◌, ◌++◌, append-nil, append_assoc}
use Prim.Native.Nat.{ℕ, suc, ◌+◌, ◌-◌, ◌*◌, ◌≤◌, ◌<◌}
use Rattle.std.proofs.Math.Nat.{suc-add}
use native.Mathlib.Omega.{arith}
use Rattle.std.specs.Float.Ieee.Fits.{and_l, and_r}
use Rattle.std.proofs.Math.ListN.{length, length-append}
use Rattle.std.proofs.Math.Seq.{append_snoc}
use Rattle.std.specs.Int.{w32}
use Rattle.words.specs.Kinds.{Row, word_lit}
use Rattle.words.specs.Words.{word_at, look_up}
use Rattle.words.specs.Good.{lower_case, Good}
use Rattle.words.proofs.Laws.{found_word, own_place, word_formed}
use Rattle.numerals.specs.Numerals.{numeral_of, decimal}
use Rattle.texts.specs.Laws.{Free, free_append, before_cut, after_cut, lines_within, place_split, lines_line, together, Closed, lines_together, last_closed, closed_last}
use Rattle.numerals.specs.Laws.{read_back, one_way, no_line_end, decimal_length, decimal_short, decimal_nonempty}
use Rattle.refusals.specs.declared.Refusal.{Refusal}
use Rattle.refusals.specs.declared.Refusal.TheVariants.{TextForm, LineForm, LineCount}
use Rattle.texts.specs.Texts.{lines_of, before_comma, after_comma}
use Rattle.lines.specs.Reading.{paired, line_of, add_row, rows_in, closed, whether, formed, limited, reading}
use Rattle.lines.specs.Printing.{written, text_of, Printable, Each}
use Rattle.lines.specs.declared.Limits.{Limits}

-- ---- a row's line, without its byte 10

abbrev inside : List (List ℕ) → Row → List ℕ
inside ws r = word_at ws r.0 ++ (44 ∷ decimal r.1)

lower_free : (b : ℕ) (w : List ℕ) → b < 97 → T (lower_case w) → Free b w
lower_free b [] h t = tt
lower_free b (c ∷ cs) h t =
    let c-low : T (leb 97 c && leb c 122) = and_l (leb 97 c && leb c 122) (lower_case cs) t in
    let c-least : 97 ≤ c = leb→le 97 c (and_l (leb 97 c) (leb c 122) c-low) in
    ((λ e. omega arith), lower_free b cs h (and_r (leb 97 c && leb c 122) (lower_case cs) t))

-- what stands before the first comma and behind it
line_parts : (head : List ℕ → Option ℕ) (w d : List ℕ) → Free 44 w → line_of head (w ++ (44 ∷ d)) ≡ paired (head w) (numeral_of d)
unfolding line_of
line_parts head w d f =
    ap₂ (λ (x y : List ℕ). paired (head x) (numeral_of y)) (before_cut w d f) (after_cut w d f)

-- ---- what is printed reads back

module _ (ws : List (List ℕ)) (good : Good ws) where
  word_free : (b k : ℕ) → b < 97 → Free b (word_at ws k)
  word_free b k h = lower_free b (word_at ws k) h (word_formed ws k good.formed).0

  row_line : (r : Row) → Printable ws r → line_of (look_up ws) (inside ws r) ≡ Some (r.0, r.1)
  row_line r p =
      line_parts (look_up ws) (word_at ws r.0) (decimal r.1) (word_free 44 r.0 (omega arith))
      ∙ ap₂ paired (own_place ws r.0 good.apart p.listed) (read_back r.1 p.number)

  inside_free : (r : Row) → Free 10 (inside ws r)
  inside_free r =
      free_append 10 (word_at ws r.0) (44 ∷ decimal r.1) (word_free 10 r.0 (omega arith))
      ((λ e. omega arith), no_line_end r.1)

  text_lines : (r : Row) (rs : List Row) → lines_of (text_of ws (r ∷ rs)) ≡ inside ws r ∷ lines_of (text_of ws rs)
  unfolding text_of written
  text_lines r rs =
      ap lines_of (append_snoc (inside ws r) 10 (text_of ws rs)) ∙ lines_line (inside ws r) (text_of ws rs) (inside_free r)

  pub rows_back : (rs : List Row) → Each (Printable ws) rs → rows_in (look_up ws) (lines_of (text_of ws rs)) ≡ rs
  unfolding rows_in lines_of text_of Each
  rows_back [] p = refl
  rows_back (r ∷ rs) p =
      ap (rows_in (look_up ws)) (text_lines r rs)
      ∙ ap₂ add_row (row_line r p.0) (rows_back rs p.1)

  pub formed_back : (n : ℕ) (rs : List Row) → Each (Printable ws) rs → formed (look_up ws) n (lines_of (text_of ws rs)) ≡ Ok (n + length rs)
  unfolding formed lines_of text_of Each
  formed_back n [] p = ap Ok (sym (add-zero n))
  formed_back n (r ∷ rs) p =
      ap (formed (look_up ws) n) (text_lines r rs)
      ∙ ap (λ (l : Option Row). whether l (formed (look_up ws) (suc n) (lines_of (text_of ws rs))) (Err (LineForm (suc n)))) (row_line r p.0)
      ∙ formed_back (suc n) rs p.1
      ∙ ap Ok (suc-add n (length rs) ∙ sym (add-suc n (length rs)))

  -- a text of at least one row ends with byte 10
  text_ends : (rs : List Row) → 0 < length rs → (l : List ℕ) × (text_of ws rs ≡ l ++ (10 ∷ []))
  unfolding text_of written
  text_ends [] h = absurd (omega arith)
  text_ends (r ∷ []) h = (inside ws r, append-nil (inside ws r ++ (10 ∷ [])))
  text_ends (r ∷ q ∷ rs) h =
      let rest = text_ends (q ∷ rs) (omega arith) in
      (written ws r ++ rest.0, ap (λ (t : List ℕ). written ws r ++ t) rest.1 ∙ sym (append_assoc (written ws r) rest.0 (10 ∷ [])))

  text_closed : (limit : ℕ) (rs : List Row) → 0 < length rs → length (text_of ws rs) ≤ limit → closed limit (text_of ws rs) ≡ true
  text_closed limit rs h fits =
      let end = text_ends rs h in
      let some : 1 ≤ length (text_of ws rs) = rw end.1 (simp length-append (omega arith)) in
      let last : get_or (text_of ws rs) (length (text_of ws rs) - 1) 0 ≡ 10 = rw end.1 (closed_last end.0) in
      simp (le-leb 1 (length (text_of ws rs)) some, le-leb (length (text_of ws rs)) limit fits, eq-eqb _ 10 last)

  -- The rows of a text that was printed are the rows that it was printed from.
  pub reads_back : (limits : Limits) (rs : List Row) → Each (Printable ws) rs → 0 < length rs
      → length (text_of ws rs) ≤ limits.bytes → length rs ≤ limits.lines
      → reading (look_up ws) limits (text_of ws rs) ≡ Ok (length rs)
  unfolding reading
  reads_back limits rs p some bytes lines =
      ap (λ (b : Bool). cond b (limited limits.lines (formed (look_up ws) 0 (lines_of (text_of ws rs)))) (Err TextForm)) (text_closed limits.bytes rs some bytes)
      ∙ ap (limited limits.lines) (formed_back 0 rs p ∙ ap Ok (zero-add (length rs)))
      ∙ ap (λ (b : Bool). cond b (Ok (length rs)) (Err LineCount)) (le-leb (length rs) limits.lines lines)

-- ---- a text that passes questions 1 to 3

refused_rows : {r : Refusal} {n : ℕ} → Err r ≡ Ok n → ⊥
refused_rows e = let clash : ◌≡◌ {A = ℕ} 0 1 = cc in omega arith

closed_text : (limit : ℕ) (t : List ℕ) → closed limit t ≡ true → Closed t
closed_text limit t c =
    let sized : Bool = leb 1 (length t) && leb (length t) limit in
    let last : Bool = eqb (get_or t (length t - 1) 0) 10 in
    let all : T (sized && last) = subst T (sym c) tt in
    last_closed t
    (leb→le 1 (length t) (and_l (leb 1 (length t)) (leb (length t) limit) (and_l sized last all)))
    (eqb→eq (get_or t (length t - 1) 0) 10 (and_r sized last all))

module _ (head : List ℕ → Option ℕ) where
  -- every line is a row
  pub rows_count : (n m : ℕ) (ls : List (List ℕ)) → formed head n ls ≡ Ok m → m ≡ n + length (rows_in head ls)
  unfolding formed rows_in
  rows_count n m [] e = let q : n ≡ m = cc in omega arith
  rows_count n m (l ∷ ls) e = go (line_of head l) refl e (rows_count (suc n) m ls)
    where
      go : (x : Option Row) → line_of head l ≡ x → whether x (formed head (suc n) ls) (Err (LineForm (suc n))) ≡ Ok m
          → (formed head (suc n) ls ≡ Ok m → m ≡ suc n + length (rows_in head ls)) → m ≡ n + length (add_row (line_of head l) (rows_in head ls))
      go (Some (k, z)) is f rest = rest f ∙ suc-add n _ ∙ sym (add-suc n _) ∙ ap (λ (x : Option Row). n + length (add_row x (rows_in head ls))) (sym is)
      go None is f rest = absurd (refused_rows f)

  limited_rows_holds : (limit : ℕ) (r : Answer) (n : ℕ) → limited limit r ≡ Ok n → r ≡ Ok n
  limited_rows_holds limit (Ok m) n e = go (leb m limit) e
    where
      go : (b : Bool) → cond b (Ok m) (Err LineCount) ≡ Ok n → ◌≡◌ {A = Answer} (Ok m) (Ok n)
      go true f = f
      go false f = absurd (refused_rows f)
  limited_rows_holds limit (Err r) n e = absurd (refused_rows e)

  passed : (limits : Limits) (t : List ℕ) (n : ℕ) → reading head limits t ≡ Ok n → Closed t × (formed head 0 (lines_of t) ≡ Ok n)
  unfolding reading
  passed limits t n e = go (closed limits.bytes t) refl e
    where
      go : (b : Bool) → closed limits.bytes t ≡ b → cond b (limited limits.lines (formed head 0 (lines_of t))) (Err TextForm) ≡ Ok n
          → Closed t × (formed head 0 (lines_of t) ≡ Ok n)
      go true c f = (closed_text limits.bytes t c, limited_rows_holds limits.lines (formed head 0 (lines_of t)) n f)
      go false c f = absurd (refused_rows f)

  rows_within : (ls : List (List ℕ)) → length (rows_in head ls) ≤ length ls
  unfolding rows_in
  rows_within [] = omega arith
  rows_within (l ∷ ls) = go (line_of head l) (rows_within ls)
    where
      go : (x : Option Row) → length (rows_in head ls) ≤ length ls → length (add_row x (rows_in head ls)) ≤ suc (length ls)
      go (Some (k, z)) h = omega arith
      go None h = omega arith

  -- Where as many lines are let in as bytes, question 3 says nothing: so with a values file.
  pub lines_uncounted : (limit : ℕ) (t : List ℕ) → length t ≤ limit → limited limit (formed head 0 (lines_of t)) ≡ formed head 0 (lines_of t)
  lines_uncounted limit t h = go (formed head 0 (lines_of t)) refl
    where
      go : (r : Answer) → formed head 0 (lines_of t) ≡ r → limited limit r ≡ r
      go (Ok m) e =
          ap (λ (b : Bool). cond b (Ok m) (Err LineCount))
          (le-leb m limit (omega (arith, rows_count 0 m (lines_of t) e, rows_within (lines_of t), lines_within t)))
      go (Err r) e = refl

  -- As many rows are read as the answer says.
  pub rows_read : (limits : Limits) (t : List ℕ) (n : ℕ) → reading head limits t ≡ Ok n → length (rows_in head (lines_of t)) ≡ n
  rows_read limits t n e = omega (arith, rows_count 0 n (lines_of t) (passed limits t n e).1)

-- ---- what is read prints back, for every table

pub paired_row : (f : Option ℕ) (d : Option ℤ) (k : ℕ) (z : ℤ) → paired f d ≡ Some (k, z) → (f ≡ Some k) × (d ≡ Some z)
paired_row (Some j) (Some y) k z e =
    let same : ◌≡◌ {A = Row} (j, y) (k, z) = cc in
    (ap (λ (r : Row). Some r.0) same, ap (λ (r : Row). Some r.1) same)
paired_row (Some j) None k z e = let clash : ◌≡◌ {A = ℕ} 0 1 = cc in absurd (omega arith)
paired_row None d k z e = let clash : ◌≡◌ {A = ℕ} 0 1 = cc in absurd (omega arith)

module _ (ws : List (List ℕ)) where
  line_back : (l : List ℕ) (k : ℕ) (z : ℤ) → line_of (look_up ws) l ≡ Some (k, z) → inside ws (k, z) ≡ l
  unfolding line_of
  line_back l k z e =
      let both = paired_row (look_up ws (before_comma l)) (numeral_of (after_comma l)) k z e in
      let word : word_at ws k ≡ before_comma l = (found_word ws (before_comma l) k both.0).1 in
      let digits : decimal z ≡ after_comma l = one_way (after_comma l) both.1 in
      ap₂ (λ (w d : List ℕ). w ++ (44 ∷ d)) word digits
      ∙ place_split 44 l (subst (λ (d : List ℕ). 0 < length d) digits (decimal_nonempty z))

  printed : (n m : ℕ) (ls : List (List ℕ)) → formed (look_up ws) n ls ≡ Ok m → text_of ws (rows_in (look_up ws) ls) ≡ together ls
  unfolding formed rows_in text_of together written
  printed n m [] e = refl
  printed n m (l ∷ ls) e = go (line_of (look_up ws) l) refl e (printed (suc n) m ls)
    where
      go : (x : Option Row) → line_of (look_up ws) l ≡ x → whether x (formed (look_up ws) (suc n) ls) (Err (LineForm (suc n))) ≡ Ok m
          → (formed (look_up ws) (suc n) ls ≡ Ok m → text_of ws (rows_in (look_up ws) ls) ≡ together ls)
          → text_of ws (add_row (line_of (look_up ws) l) (rows_in (look_up ws) ls)) ≡ l ++ (10 ∷ together ls)
      go (Some (k, z)) is f rest =
          ap (λ (x : Option Row). text_of ws (add_row x (rows_in (look_up ws) ls))) is
          ∙ append_snoc (inside ws (k, z)) 10 (text_of ws (rows_in (look_up ws) ls))
          ∙ ap₂ (λ (a b : List ℕ). a ++ (10 ∷ b)) (line_back l k z is) (rest f)
      go None is f rest = absurd (refused_rows f)

  -- A text that is read and printed again is the same text.
  pub prints_back : (limits : Limits) (t : List ℕ) (n : ℕ) → reading (look_up ws) limits t ≡ Ok n
      → text_of ws (rows_in (look_up ws) (lines_of t)) ≡ t
  prints_back limits t n e =
      let p = passed (look_up ws) limits t n e in
      printed 0 n (lines_of t) p.1 ∙ lines_together t p.0

-- ---- how long a printed text is

-- a literal, or a row whose number is from 0 to 4,096, as question 5 lets them be
pub record Ranged (r : Row) : Type 0 where
  pub number : SFits w32 r.1
  pub small : (r.0 ≡ word_lit) ⊎ ((n : ℕ) × (r.1 ≡ pos n) × (n ≤ 4096))

pub line_length : (ws : List (List ℕ)) (r : Row) → length (written ws r) ≡ length (word_at ws r.0) + length (decimal r.1) + 2
unfolding written
line_length ws r = simp length-append (omega arith)

module _ (ws : List (List ℕ)) (good : Good ws) where
  literal_length : (k : ℕ) → k ≡ word_lit → length (word_at ws k) ≤ 3
  literal_length k e = subst (λ (j : ℕ). length (word_at ws j) ≤ 3) (sym e) good.literal

  pub line_size : (r : Row) → Ranged r → length (written ws r) ≤ 16
  line_size r p =
      ⊎_elim
      (λ e. omega (arith, line_length ws r, literal_length r.0 e, decimal_length r.1 p.number))
      (λ s. omega (
        arith,
        line_length ws r,
        (word_formed ws r.0 good.formed).1,
        subst (λ (z : ℤ). length (decimal z) ≤ 4) (sym s.1) (decimal_short s.0 (omega (arith, s.2))),
      ))
      p.small

  -- 4,096 such rows take at most 65,536 bytes.
  pub text_size : (rs : List Row) → Each Ranged rs → length (text_of ws rs) ≤ 16 * length rs
  unfolding text_of Each
  text_size [] p = omega arith
  text_size (r ∷ rs) p = omega (arith, length-append (written ws r) (text_of ws rs), line_size r p.0, text_size rs p.1)
