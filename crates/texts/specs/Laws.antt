-- Laws of texts as lines: the first line and the rest, a line put in front, the lines put together again; and of a line as its two fields.
-- Assumes nothing.
use Rattle.std.specs.Prelude.{◌≡◌, refl, Bool, true, false, List, [], ◌∷◌, ◌++◌, ◌≢◌, ℕ, suc, ◌+◌, ◌-◌, ◌≤◌, ◌<◌, eqb, length, get_or, take, drop}
use Rattle.std.proofs.Common.{sym, ap, ◌∙◌, subst, suc-le-suc, not-suc-le-zero, arith, eqb-true, eq-eqb, ne_eqb, drop_of_length-le, length-drop, length-append, add-one, drop-cons, drop-drop}
use Rattle.std.proofs.lemmas.Bool.{eqb-false}
use Rattle.std.proofs.Math.Seq.{get_or-append_seam, take-append_seam, drop-append-add}
use Rattle.texts.specs.Texts.{begin, lines_of, place_of, first_line, after_first, before_comma, after_comma}

-- No byte of the list is b.
abbrev pub Free : ℕ → List ℕ → Type 0
Free b [] = Unit {0}
Free b (c ∷ cs) = (c ≢ b) × Free b cs

pub free_append : (b : ℕ) (l m : List ℕ) → Free b l → Free b m → Free b (l ++ m)
free_append b [] m f g = g
free_append b (c ∷ cs) m f g = (f.0, free_append b cs m f.1 g)

-- ---- the place of a byte

pub place_here : (b : ℕ) (cs : List ℕ) → place_of b (b ∷ cs) ≡ 0
unfolding place_of
place_here b cs = rw (eq-eqb b b refl)

pub place_later : (b c : ℕ) (cs : List ℕ) → c ≢ b → place_of b (c ∷ cs) ≡ suc (place_of b cs)
unfolding place_of
place_later b c cs h = rw (ne_eqb c b h)

pub place_behind : (b : ℕ) (l t : List ℕ) → Free b l → place_of b (l ++ (b ∷ t)) ≡ length l
place_behind b [] t f = place_here b t
place_behind b (c ∷ cs) t f = place_later b c (cs ++ (b ∷ t)) f.0 ∙ ap suc (place_behind b cs t f.1)

-- [1.2] a line put together is cut at its first comma
module _ (front back : List ℕ) (f : Free 44 front) where
  pub before_cut : before_comma (front ++ (44 ∷ back)) ≡ front
  before_cut = ap (λ (n : ℕ). take n (front ++ (44 ∷ back))) (place_behind 44 front back f) ∙ take-append_seam front (44 ∷ back)

  pub after_cut : after_comma (front ++ (44 ∷ back)) ≡ back
  after_cut =
      ap (λ (n : ℕ). drop n (front ++ (44 ∷ back))) (ap suc (place_behind 44 front back f) ∙ sym (add-one (length front)))
      ∙ drop-append-add front (44 ∷ back) 1

-- by whether a byte is b
byte_cases : {P : Type 0} (c b : ℕ) → (c ≡ b → P) → (c ≢ b → P) → P
byte_cases {P} c b same other = go (eqb c b) refl
  where
    go : (t : Bool) → eqb c b ≡ t → P
    go true e = same (eqb-true c b e)
    go false e = other (eqb-false c b e)

-- from a place of the list on
pub place_at : (b : ℕ) (l : List ℕ) (i : ℕ) → i < length l → get_or l i 0 ≡ b → place_of b (drop i l) ≡ 0
place_at b l i h e = ap (place_of b) (drop-cons l i 0 h) ∙ subst (λ (c : ℕ). place_of b (c ∷ drop (suc i) l) ≡ 0) (sym e) (place_here b (drop (suc i) l))

pub place_past : (b : ℕ) (l : List ℕ) (i : ℕ) → i < length l → get_or l i 0 ≢ b → place_of b (drop i l) ≡ suc (place_of b (drop (i + 1) l))
place_past b l i h e =
    ap (place_of b) (drop-cons l i 0 h)
    ∙ place_later b (get_or l i 0) (drop (suc i) l) e
    ∙ ap (λ (n : ℕ). suc (place_of b (drop n l))) (sym (add-one i))

pub place_end : (b : ℕ) (l : List ℕ) (i : ℕ) → length l ≤ i → place_of b (drop i l) ≡ 0
unfolding place_of
place_end b l i h = ap (place_of b) (drop_of_length-le l h)

-- a list is what stands before byte b, b, and what stands behind it, where anything does
pub place_split : (b : ℕ) (l : List ℕ) → 0 < length (drop (suc (place_of b l)) l)
    → take (place_of b l) l ++ (b ∷ drop (suc (place_of b l)) l) ≡ l
unfolding place_of
place_split b [] h = absurd (not-suc-le-zero h)
place_split b (c ∷ cs) h =
    byte_cases c b
    (λ e. ap (λ (n : ℕ). take n (c ∷ cs) ++ (b ∷ drop (suc n) (c ∷ cs))) (here e) ∙ ap (λ (d : ℕ). d ∷ cs) (sym e))
    (λ e. ap (λ (n : ℕ). take n (c ∷ cs) ++ (b ∷ drop (suc n) (c ∷ cs))) (place_later b c cs e)
    ∙ ap (λ (t : List ℕ). c ∷ t) (place_split b cs (subst (λ (n : ℕ). 0 < length (drop (suc n) (c ∷ cs))) (place_later b c cs e) h)))
  where
    here : c ≡ b → place_of b (c ∷ cs) ≡ 0
    here e = subst (λ (d : ℕ). place_of b (d ∷ cs) ≡ 0) (sym e) (place_here b cs)

-- ---- a text's lines

lines_begun : (b : ℕ) (bs : List ℕ) → b ≢ 10 → lines_of (b ∷ bs) ≡ begin b (lines_of bs)
unfolding lines_of
lines_begun b bs h = rw (ne_eqb b 10 h)

-- a text that is not empty is its first line and the lines of the rest
abbrev Next : List ℕ → Type 0
Next t = lines_of t ≡ first_line t ∷ lines_of (drop (after_first t) t)

next_closed : (b : ℕ) (bs : List ℕ) → b ≡ 10 → Next (b ∷ bs)
unfolding lines_of place_of
next_closed b bs e = subst (λ (c : ℕ). Next (c ∷ bs)) (sym e) refl

next_begun : (b : ℕ) (bs : List ℕ) → b ≢ 10
    → begin b (lines_of bs) ≡ (b ∷ first_line bs) ∷ lines_of (drop (after_first bs) bs) → Next (b ∷ bs)
next_begun b bs h e = lines_begun b bs h ∙ e ∙ ap (λ (n : ℕ). take n (b ∷ bs) ∷ lines_of (drop (suc n) (b ∷ bs))) (sym (place_later 10 b bs h))

pub lines_next : (t : List ℕ) → 0 < length t → Next t
unfolding lines_of place_of
lines_next [] h = absurd (not-suc-le-zero h)
lines_next (b ∷ []) h = byte_cases b 10 (next_closed b []) (λ e. next_begun b [] e refl)
lines_next (b ∷ c ∷ cs) h =
    let rest : Next (c ∷ cs) = lines_next (c ∷ cs) (omega arith) in
    byte_cases b 10 (next_closed b (c ∷ cs)) (λ e. next_begun b (c ∷ cs) e (ap (begin b) rest))

-- the same from a place of the text on
pub lines_from : (t : List ℕ) (at : ℕ) → at < length t
    → lines_of (drop at t) ≡ first_line (drop at t) ∷ lines_of (drop (at + after_first (drop at t)) t)
lines_from t at h =
    lines_next (drop at t) (simp length-drop (omega arith))
    ∙ ap (λ (u : List ℕ). first_line (drop at t) ∷ lines_of u) (drop-drop (after_first (drop at t)) at t)

pub lines_done : (t : List ℕ) (at : ℕ) → length t ≤ at → lines_of (drop at t) ≡ []
unfolding lines_of
lines_done t at h = ap lines_of (drop_of_length-le t h)

-- a text has no more lines than bytes
begun_within : (b : ℕ) (ls : List (List ℕ)) (n : ℕ) → length ls ≤ n → length (begin b ls) ≤ suc n
begun_within b [] n h = omega arith
begun_within b (l ∷ ls) n h = omega arith

pub lines_within : (t : List ℕ) → length (lines_of t) ≤ length t
unfolding lines_of
lines_within [] = omega arith
lines_within (b ∷ bs) =
    let rest : length (lines_of bs) ≤ length bs = lines_within bs in
    byte_cases b 10
    (λ e. subst (λ (c : ℕ). length (lines_of (c ∷ bs)) ≤ suc (length bs)) (sym e) (suc-le-suc rest))
    (λ e. rw (lines_begun b bs e) (begun_within b (lines_of bs) (length bs) rest))

-- a line in front of a text
pub lines_line : (l t : List ℕ) → Free 10 l → lines_of (l ++ (10 ∷ t)) ≡ l ∷ lines_of t
unfolding lines_of
lines_line [] t f = refl
lines_line (b ∷ bs) t f = lines_begun b (bs ++ (10 ∷ t)) f.0 ∙ ap (begin b) (lines_line bs t f.1)

-- ---- the lines put together again

unfoldable pub together : List (List ℕ) → List ℕ
together [] = []
together (l ∷ ls) = l ++ (10 ∷ together ls)

-- a text that is empty or ends with byte 10
unfoldable pub Closed : List ℕ → Type 0
Closed [] = Unit {0}
Closed (b ∷ []) = b ≡ 10
Closed (b ∷ c ∷ cs) = Closed (c ∷ cs)

closed_rest : (b : ℕ) (bs : List ℕ) → Closed (b ∷ bs) → Closed bs
unfolding Closed
closed_rest b [] h = tt
closed_rest b (c ∷ cs) h = h

together_begun : (b : ℕ) (ls : List (List ℕ)) → 0 < length ls → together (begin b ls) ≡ b ∷ together ls
unfolding together
together_begun b [] h = absurd (not-suc-le-zero h)
together_begun b (l ∷ ls) h = refl

some_lines : (t : List ℕ) → 0 < length t → 0 < length (lines_of t)
some_lines t h = rw (lines_next t h) (omega arith)

pub lines_together : (t : List ℕ) → Closed t → together (lines_of t) ≡ t
unfolding together lines_of Closed
lines_together [] h = refl
lines_together (b ∷ []) h = subst (λ (c : ℕ). together (lines_of (c ∷ [])) ≡ c ∷ []) (sym h) refl
lines_together (b ∷ c ∷ cs) h =
    let rest : together (lines_of (c ∷ cs)) ≡ c ∷ cs = lines_together (c ∷ cs) h in
    byte_cases b 10
    (λ e. subst (λ (d : ℕ). together (lines_of (d ∷ c ∷ cs)) ≡ d ∷ c ∷ cs) (sym e) (ap (λ (t : List ℕ). 10 ∷ t) rest))
    (λ e. ap together (lines_begun b (c ∷ cs) e) ∙ together_begun b (lines_of (c ∷ cs)) (some_lines (c ∷ cs) (omega arith)) ∙ ap (λ (t : List ℕ). b ∷ t) rest)

-- question 1's test of the last byte
pub last_closed : (t : List ℕ) → 0 < length t → get_or t (length t - 1) 0 ≡ 10 → Closed t
unfolding Closed
last_closed [] h e = tt
last_closed (b ∷ []) h e = e
last_closed (b ∷ c ∷ cs) h e =
    let shorter : length (c ∷ cs) - 1 ≡ length cs = omega arith in
    let longer : length (b ∷ c ∷ cs) - 1 ≡ suc (length cs) = omega arith in
    last_closed (c ∷ cs) (omega arith)
    (ap (λ (n : ℕ). get_or (c ∷ cs) n 0) shorter ∙ sym (ap (λ (n : ℕ). get_or (b ∷ c ∷ cs) n 0) longer) ∙ e)

pub closed_last : (l : List ℕ) → get_or (l ++ (10 ∷ [])) (length (l ++ (10 ∷ [])) - 1) 0 ≡ 10
closed_last l =
    ap (λ (n : ℕ). get_or (l ++ (10 ∷ [])) n 0) (simp length-append (omega arith)) ∙ get_or-append_seam l 10 [] 0
