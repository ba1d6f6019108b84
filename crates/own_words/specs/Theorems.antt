-- Every good table of words is had by a words text, and by one only: [16.1], [16.2]. Assumes nothing.
use Rattle.std.specs.Prelude.{◌≡◌, refl, Bool, true, false, cond, ◌&&◌, List, [], ◌∷◌, ◌++◌, map, ℕ, suc, ◌+◌, ◌-◌, ◌≤◌, ◌<◌, T, eqb, leb, length, get_or, Ok, Err}
use Rattle.std.proofs.Common.{sym, ap, ap₂, ◌∙◌, subst, zero-add, add-zero, add-suc, suc-add, arith, eqb-true, leb→le, le→leb, length-append, get_or-append-add}
use Rattle.std.specs.Float.Ieee.Bits.{is_true}
use Rattle.std.specs.Float.Ieee.Fits.{and_i, and_l, and_r}
use Rattle.words.specs.Kinds.{word_lit}
use Rattle.words.specs.Words.{words, same_letters, word_at}
use Rattle.words.specs.Good.{lower_case, distinct, well_formed, Good}
use Rattle.words.proofs.Laws.{same_refl, words_count, words_good, word_formed}
use Rattle.texts.specs.Texts.{lines_of, before_comma, after_comma}
use Rattle.texts.specs.Laws.{Free, free_append, before_cut, after_cut, lines_line, closed_last}
use Rattle.refusals.specs.declared.Refusal.TheVariants.{WordsForm, WordTwice}
use Rattle.own_words.specs.OwnWords.{most_letters, is_own_word, is_own_line, are_own_lines, is_words_text, own_words, ask_words}
use Rattle.own_words.specs.Laws.{OwnWord, lines_with, accepted, text_back}

-- [16.1] the words text that gives the built-in words these own words
abbrev pub words_text : List (List ℕ) → List ℕ
words_text ws = lines_with words ws

-- ---- letters are neither a comma nor byte 10

lower_free : (b : ℕ) (l : List ℕ) → b < 97 → T (lower_case l) → Free b l
lower_free b [] h t = tt
lower_free b (c ∷ cs) h t =
    let low : 97 ≤ c = leb→le 97 c (and_l (leb 97 c) (leb c 122) (and_l (leb 97 c && leb c 122) (lower_case cs) t)) in
    ((λ e. omega (arith, e)), lower_free b cs h (and_r (leb 97 c && leb c 122) (lower_case cs) t))

-- ---- a line made of a built-in word and an own word

module _ (h w : List ℕ) (built_in : T (lower_case h)) (own : T (lower_case w)) where
  line_free : Free 10 (h ++ (44 ∷ w))
  line_free = free_append 10 h (44 ∷ w) (lower_free 10 h (omega arith) built_in) ((λ e. omega (arith, e)), lower_free 10 w (omega arith) own)

  line_front : before_comma (h ++ (44 ∷ w)) ≡ h
  line_front = before_cut h w (lower_free 44 h (omega arith) built_in)

  line_own : after_comma (h ++ (44 ∷ w)) ≡ w
  line_own = after_cut h w (lower_free 44 h (omega arith) built_in)

own_word_is : {k : ℕ} {w : List ℕ} → OwnWord k w → T (is_own_word k w)
unfolding is_own_word
own_word_is {k} {w} o =
    and_i (lower_case w && leb 1 (length w)) (leb (length w) (most_letters k))
    (and_i (lower_case w) (leb 1 (length w)) o.lower (le→leb 1 (length w) o.some)) (le→leb (length w) (most_letters k) o.most)

own_line_is : (k : ℕ) (h w : List ℕ) → T (lower_case h) → OwnWord k w → T (is_own_line k h (h ++ (44 ∷ w)))
unfolding is_own_line
own_line_is k h w built_in o =
    and_i (same_letters (before_comma (h ++ (44 ∷ w))) h) (is_own_word k (after_comma (h ++ (44 ∷ w))))
    (subst (λ (l : List ℕ). T (same_letters l h)) (sym (line_front h w built_in o.lower)) (same_refl h))
    (subst (λ (l : List ℕ). T (is_own_word k l)) (sym (line_own h w built_in o.lower)) (own_word_is o))

-- ---- the lines made of built-in words and own words

-- the own words of the kinds from k on
data OwnFrom : ℕ → List (List ℕ) → Type 0 where
  none : {k : ℕ} → OwnFrom k []
  more : {k : ℕ} {w : List ℕ} {ws : List (List ℕ)} → OwnWord k w → OwnFrom (suc k) ws → OwnFrom k (w ∷ ws)

formed_first : (w : List ℕ) (ws : List (List ℕ)) → T (well_formed (w ∷ ws)) → T (lower_case w) × (1 ≤ length w) × (length w ≤ 8) × T (well_formed ws)
unfolding well_formed
formed_first w ws t =
    let u = and_l (lower_case w && leb 1 (length w) && leb (length w) 8) (well_formed ws) t in
    let v = and_l (lower_case w && leb 1 (length w)) (leb (length w) 8) u in (
      and_l (lower_case w) (leb 1 (length w)) v,
      leb→le 1 (length w) (and_r (lower_case w) (leb 1 (length w)) v),
      leb→le (length w) 8 (and_r (lower_case w && leb 1 (length w)) (leb (length w) 8) u),
      and_r (lower_case w && leb 1 (length w) && leb (length w) 8) (well_formed ws) t,
    )

-- the lines that were made, and their own words
abbrev Made : ℕ → List (List ℕ) → List (List ℕ) → List (List ℕ) → Type 0
Made k hs ws ls = T (are_own_lines k hs ls) × (map after_comma ls ≡ ws)

made_more : (k : ℕ) (h w : List ℕ) (hs ws ls : List (List ℕ)) → T (lower_case h) → OwnWord k w → Made (suc k) hs ws ls
    → Made k (h ∷ hs) (w ∷ ws) ((h ++ (44 ∷ w)) ∷ ls)
unfolding are_own_lines
made_more k h w hs ws ls built_in o m = (
  and_i (is_own_line k h (h ++ (44 ∷ w))) (are_own_lines (suc k) hs ls) (own_line_is k h w built_in o) m.0,
  ap₂ ◌∷◌ (line_own h w built_in o.lower) m.1,
)

lines_made : (k : ℕ) (hs ws : List (List ℕ)) → length ws ≡ length hs → T (well_formed hs) → OwnFrom k ws → Made k hs ws (lines_of (lines_with hs ws))
unfolding are_own_lines lines_with lines_of
lines_made k [] [] e t none = (tt, refl)
lines_made k [] (w ∷ ws) e t (more o os) = absurd (omega (arith, e))
lines_made k (h ∷ hs) [] e t none = absurd (omega (arith, e))
lines_made k (h ∷ hs) (w ∷ ws) e t (more o os) =
    let first = formed_first h hs t in
    subst (Made k (h ∷ hs) (w ∷ ws)) (sym (lines_line (h ++ (44 ∷ w)) (lines_with hs ws) (line_free h w first.0 o.lower)))
    (made_more k h w hs ws (lines_of (lines_with hs ws)) first.0 o (lines_made (suc k) hs ws (omega (arith, e)) first.3 os))

-- the last byte
last_behind : (l m : List ℕ) → 0 < length m → get_or (l ++ m) (length (l ++ m) - 1) 0 ≡ get_or m (length m - 1) 0
last_behind l m h =
    let n : length (l ++ m) - 1 ≡ length l + (length m - 1) = omega (arith, length-append l m) in
    ap (λ (i : ℕ). get_or (l ++ m) i 0) n ∙ get_or-append-add l m (length m - 1) 0

last_line : (h w : List ℕ) (hs ws : List (List ℕ)) → length ws ≡ length hs
    → get_or (lines_with (h ∷ hs) (w ∷ ws)) (length (lines_with (h ∷ hs) (w ∷ ws)) - 1) 0 ≡ 10
unfolding lines_with
last_line h w [] [] e = closed_last (h ++ (44 ∷ w))
last_line h w [] (v ∷ ws) e = absurd (omega (arith, e))
last_line h w (g ∷ hs) [] e = absurd (omega (arith, e))
last_line h w (g ∷ hs) (v ∷ ws) e =
    let rest : 0 < length (lines_with (g ∷ hs) (v ∷ ws)) = simp length-append (omega arith) in
    last_behind (h ++ (44 ∷ w)) (10 ∷ lines_with (g ∷ hs) (v ∷ ws)) (omega arith)
    ∙ last_behind (10 ∷ []) (lines_with (g ∷ hs) (v ∷ ws)) rest
    ∙ last_line g v hs ws (omega (arith, e))

text_last : (hs ws : List (List ℕ)) → 0 < length hs → length ws ≡ length hs → get_or (lines_with hs ws) (length (lines_with hs ws) - 1) 0 ≡ 10
text_last [] ws h e = absurd (omega arith)
text_last (g ∷ hs) [] h e = absurd (omega (arith, e))
text_last (g ∷ hs) (w ∷ ws) h e = last_line g w hs ws (omega (arith, e))

-- ---- a good table's words are own words

own_from : (k : ℕ) (ws : List (List ℕ)) → T (well_formed ws) → ((i : ℕ) → length (word_at ws i) ≤ most_letters (k + i)) → OwnFrom k ws
own_from k [] t most = none
own_from k (w ∷ ws) t most =
    let first = formed_first w ws t in
    more (record { lower = first.0; some = first.1; most = rw add-zero at (most 0) })
    (own_from (suc k) ws first.3 (λ i. rw (suc-add, ← add-suc) (most (suc i))))

good_most : (ws : List (List ℕ)) → Good ws → (i : ℕ) → length (word_at ws i) ≤ most_letters (0 + i)
good_most ws g i = rw zero-add (go (eqb i word_lit) refl)
  where
    go : (b : Bool) → eqb i word_lit ≡ b → length (word_at ws i) ≤ cond b 3 8
    go true e = rw (eqb-true i word_lit e) g.literal
    go false e = (word_formed ws i g.formed).1

good_made : (ws : List (List ℕ)) → Good ws → Made 0 words ws (lines_of (words_text ws))
good_made ws g = lines_made 0 words ws g.count words_good.formed (own_from 0 ws g.formed (good_most ws g))

-- ---- the theorems

-- every good table can be had by a words text
pub text_own : (ws : List (List ℕ)) → Good ws → own_words (words_text ws) ≡ ws
unfolding own_words
text_own ws g = (good_made ws g).1

pub text_accepted : (ws : List (List ℕ)) → Good ws → ask_words (words_text ws) ≡ Ok (length words)
unfolding ask_words is_words_text
text_accepted ws g =
    ap₂ (λ (f d : Bool). cond f (cond d (Ok (length words)) (Err WordTwice)) (Err WordsForm))
    (is_true (is_words_text (words_text ws))
    (and_i (eqb (get_or (words_text ws) (length (words_text ws) - 1) 0) 10) (are_own_lines 0 words (lines_of (words_text ws)))
    (subst (λ (b : ℕ). T (eqb b 10)) (sym (text_last words ws (omega (arith, words_count)) g.count)) tt) (good_made ws g).0))
    (ap distinct (text_own ws g) ∙ is_true (distinct ws) g.apart)

-- and by that one only
pub text_only : (t : List ℕ) (n : ℕ) → ask_words t ≡ Ok n → words_text (own_words t) ≡ t
text_only t n e = text_back t (accepted t n e).is_text

-- the built-in words are had by the text that gives each built-in word itself
pub built_in_text : ask_words (words_text words) ≡ Ok (length words)
built_in_text = text_accepted words words_good
