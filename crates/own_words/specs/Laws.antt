-- Laws of words texts and their own words. Assumes nothing.
use Rattle.std.specs.Prelude.{◌≡◌, refl, Bool, true, false, cond, ◌&&◌, List, [], ◌∷◌, ◌++◌, map, ℕ, zero, suc, ◌+◌, ◌-◌, ◌≤◌, ◌<◌, T, eqb, leb, length, get_or, Ok, Err, Result}
use Rattle.std.proofs.Common.{sym, ap, ◌∙◌, subst, arith, add-zero, add-suc, suc-add, leb→le, le→leb, eqb→eq, length-append}
use Rattle.std.specs.Float.Ieee.Fits.{and_i, and_l, and_r}
use Rattle.words.specs.Kinds.{word_lit}
use Rattle.words.specs.Words.{words, table, same_letters, word_at, compared}
use Rattle.words.specs.Good.{lower_case, distinct, well_formed, Good}
use Rattle.words.proofs.Laws.{same_equal, compared_few}
use Rattle.words.specs.declared.Search.{Search}
use Rattle.words.specs.Tables.{words_in}
use Rattle.texts.specs.Texts.{lines_of, before_comma, after_comma}
use Rattle.texts.specs.Laws.{together, Closed, place_split, lines_together, last_closed}
use Rattle.refusals.specs.Answers.{Answer}
use Rattle.refusals.specs.declared.Refusal.{Refusal}
use Rattle.refusals.specs.declared.Refusal.TheVariants.{WordsForm, WordTwice}
use Rattle.own_words.specs.OwnWords.{most_letters, is_own_word, is_own_line, are_own_lines, is_words_text, own_words, ask_words}
use Rattle.own_words.specs.Under.{ByAnswer, Under}
use Rattle.own_words.specs.Promises.{ReadsWords, LooksUpIn}

-- ---- what an entry promises, by the answer to its words text

module _ {w : List ℕ} {yes : List (List ℕ) → Type 0} {no : Refusal → Type 0} where
  answered : {a : Answer} → ask_words w ≡ a → ByAnswer a (yes (own_words w)) no → Under w yes no
  answered asked holds = record { promised = subst (λ (a : Answer). ByAnswer a (yes (own_words w)) no) (sym asked) holds }

  under_accepted : {r : Answer} {n : ℕ} → r ≡ ask_words w → r ≡ Ok n → yes (own_words w) → Under w yes no
  under_accepted asked told holds = answered (sym asked ∙ told) holds

  pub under_refused : {r : Answer} {q : Refusal} → r ≡ ask_words w → r ≡ Err q → no q → Under w yes no
  under_refused asked told holds = answered (sym asked ∙ told) holds

  -- by what was read: the "no"
  pub under_unread : {r : Result (List (List ℕ)) Refusal} {q : Refusal} → ReadsWords w r → r ≡ Err q → no q → Under w yes no
  under_unread reads told holds = answered (subst (ReadsWords w) told reads) holds

  -- or the table
  pub under_read : {r : Result (List (List ℕ)) Refusal} {table : List (List ℕ)} → ReadsWords w r → r ≡ Ok table → yes (words_in table) → Under w yes no
  under_read reads told holds =
      let read = subst (ReadsWords w) told reads in
      answered read.0 (subst yes read.1 holds)

  -- what is promised, by the answer
  pub accepted_under : {n : ℕ} → ask_words w ≡ Ok n → Under w yes no → yes (own_words w)
  accepted_under told u = subst (λ (a : Answer). ByAnswer a (yes (own_words w)) no) told u.promised

  pub refused_under : {q : Refusal} → ask_words w ≡ Err q → Under w yes no → no q
  refused_under told u = subst (λ (a : Answer). ByAnswer a (yes (own_words w)) no) told u.promised

-- what follows from what is promised, whatever the answer is
pub under_any : {w : List ℕ} {yes : List (List ℕ) → Type 0} {no : Refusal → Type 0} {P : Type 0} → Under w yes no
    → (yes (own_words w) → P) → ((q : Refusal) → no q → P) → P
under_any {w} {yes} {no} {P} u accepted refused = go (ask_words w) u.promised
  where
    go : (a : Answer) → ByAnswer a (yes (own_words w)) no → P
    go (Ok n) p = accepted p
    go (Err q) p = refused q p

pub under_both : {w : List ℕ} {yes yes' : List (List ℕ) → Type 0} {no no' : Refusal → Type 0} → Under w yes no
    → ((ws : List (List ℕ)) → yes ws → yes' ws) → ((q : Refusal) → no q → no' q) → Under w yes' no'
under_both {w} {yes} {yes'} {no} {no'} u accepted refused = record { promised = go (ask_words w) u.promised }
  where
    go : (a : Answer) → ByAnswer a (yes (own_words w)) no → ByAnswer a (yes' (own_words w)) no'
    go (Ok n) p = accepted (own_words w) p
    go (Err q) p = refused q p

-- ---- an accepted text

pub record IsAccepted (t : List ℕ) : Type 0 where
  pub is_text : T (is_words_text t)
  pub apart : T (distinct (own_words t))

told : (f d : Bool) (m n : ℕ) → cond f (cond d (Ok m) (Err WordTwice)) (Err WordsForm) ≡ Ok n → T f × T d
told true true m n e = (tt, tt)
told true false m n e = let z : ◌≡◌ {A = ℕ} 0 1 = cc in absurd (omega arith)
told false d m n e = let z : ◌≡◌ {A = ℕ} 0 1 = cc in absurd (omega arith)

pub accepted : (t : List ℕ) (n : ℕ) → ask_words t ≡ Ok n → IsAccepted t
unfolding ask_words
accepted t n e = let r = told (is_words_text t) (distinct (own_words t)) (length words) n e in record { is_text = r.0; apart = r.1 }

-- ---- [16.1] the lines of a words text, and their own words

pub most_eight : (k : ℕ) → most_letters k ≤ 8
most_eight k = go (eqb k word_lit)
  where
    go : (b : Bool) → cond b 3 8 ≤ 8
    go true = omega arith
    go false = omega arith

-- an own word of kind k is a word, with at most as many letters as it may have
pub record OwnWord (k : ℕ) (w : List ℕ) : Type 0 where
  pub lower : T (lower_case w)
  pub some : 1 ≤ length w
  pub most : length w ≤ most_letters k

own_word : (k : ℕ) (w : List ℕ) → T (is_own_word k w) → OwnWord k w
unfolding is_own_word
own_word k w t =
    let front = and_l (lower_case w && leb 1 (length w)) (leb (length w) (most_letters k)) t in
    record {
      lower = and_l (lower_case w) (leb 1 (length w)) front;
      some = leb→le 1 (length w) (and_r (lower_case w) (leb 1 (length w)) front);
      most = leb→le (length w) (most_letters k) (and_r (lower_case w && leb 1 (length w)) (leb (length w) (most_letters k)) t);
    }

pub record OwnLine (k : ℕ) (built_in l : List ℕ) : Type 0 where
  pub front : before_comma l ≡ built_in
  pub own : OwnWord k (after_comma l)

pub own_line : (k : ℕ) (built_in l : List ℕ) → T (is_own_line k built_in l) → OwnLine k built_in l
unfolding is_own_line
own_line k built_in l t =
    record {
      front = same_equal (before_comma l) built_in (and_l (same_letters (before_comma l) built_in) (is_own_word k (after_comma l)) t);
      own = own_word k (after_comma l) (and_r (same_letters (before_comma l) built_in) (is_own_word k (after_comma l)) t);
    }

-- such a line is the built-in word, a comma and the own word
line_back : {k : ℕ} {built_in l : List ℕ} → OwnLine k built_in l → built_in ++ (44 ∷ after_comma l) ≡ l
line_back {k} {built_in} {l} o =
    ap (λ (h : List ℕ). h ++ (44 ∷ after_comma l)) (sym o.front) ∙ place_split 44 l o.own.some

-- each line of such lines is one, and so are the rest
lines_first : (k : ℕ) (h l : List ℕ) (hs ls : List (List ℕ)) → T (are_own_lines k (h ∷ hs) (l ∷ ls))
    → OwnLine k h l × T (are_own_lines (suc k) hs ls)
unfolding are_own_lines
lines_first k h l hs ls t = (
  own_line k h l (and_l (is_own_line k h l) (are_own_lines (suc k) hs ls) t),
  and_r (is_own_line k h l) (are_own_lines (suc k) hs ls) t,
)

-- The lines that give the built-in words hs the own words ws, each closed by byte 10.
unfoldable pub lines_with : List (List ℕ) → List (List ℕ) → List ℕ
lines_with [] ws = []
lines_with (h ∷ hs) [] = []
lines_with (h ∷ hs) (w ∷ ws) = (h ++ (44 ∷ w)) ++ (10 ∷ lines_with hs ws)

lines_back : (k : ℕ) (hs ls : List (List ℕ)) → T (are_own_lines k hs ls) → together ls ≡ lines_with hs (map after_comma ls)
unfolding are_own_lines lines_with together
lines_back k [] [] t = refl
lines_back k [] (l ∷ ls) t = absurd t
lines_back k (h ∷ hs) [] t = absurd t
lines_back k (h ∷ hs) (l ∷ ls) t =
    let r = lines_first k h l hs ls t in
    ap (λ (x : List ℕ). x ++ (10 ∷ together ls)) (sym (line_back r.0))
    ∙ ap (λ (x : List ℕ). (h ++ (44 ∷ after_comma l)) ++ (10 ∷ x)) (lines_back (suc k) hs ls r.1)

-- the own words are as many as the built-in words, well formed, and each no longer than its kind's may be
pub lines_count : (k : ℕ) (hs ls : List (List ℕ)) → T (are_own_lines k hs ls) → length (map after_comma ls) ≡ length hs
unfolding are_own_lines
lines_count k [] [] t = refl
lines_count k [] (l ∷ ls) t = absurd t
lines_count k (h ∷ hs) [] t = absurd t
lines_count k (h ∷ hs) (l ∷ ls) t = ap suc (lines_count (suc k) hs ls (lines_first k h l hs ls t).1)

formed_more : {k : ℕ} {w : List ℕ} (ws : List (List ℕ)) → OwnWord k w → T (well_formed ws) → T (well_formed (w ∷ ws))
unfolding well_formed
formed_more {k} {w} ws o t =
    and_i (lower_case w && leb 1 (length w) && leb (length w) 8) (well_formed ws)
    (and_i (lower_case w && leb 1 (length w)) (leb (length w) 8)
    (and_i (lower_case w) (leb 1 (length w)) o.lower (le→leb 1 (length w) o.some))
    (le→leb (length w) 8 (omega (arith, o.most, most_eight k)))) t

lines_formed : (k : ℕ) (hs ls : List (List ℕ)) → T (are_own_lines k hs ls) → T (well_formed (map after_comma ls))
unfolding are_own_lines well_formed
lines_formed k [] [] t = tt
lines_formed k [] (l ∷ ls) t = absurd t
lines_formed k (h ∷ hs) [] t = absurd t
lines_formed k (h ∷ hs) (l ∷ ls) t =
    let r = lines_first k h l hs ls t in
    formed_more (map after_comma ls) r.0.own (lines_formed (suc k) hs ls r.1)

lines_most : (k : ℕ) (hs ls : List (List ℕ)) (i : ℕ) → T (are_own_lines k hs ls) → length (word_at (map after_comma ls) i) ≤ most_letters (k + i)
unfolding are_own_lines
lines_most k [] [] i t = omega arith
lines_most k [] (l ∷ ls) i t = absurd t
lines_most k (h ∷ hs) [] i t = absurd t
lines_most k (h ∷ hs) (l ∷ ls) zero t = rw add-zero (lines_first k h l hs ls t).0.own.most
lines_most k (h ∷ hs) (l ∷ ls) (suc i) t =
    rw (add-suc, ← suc-add) (lines_most (suc k) hs ls i (lines_first k h l hs ls t).1)

-- ---- what an accepted text gives

text_lines : (t : List ℕ) → T (is_words_text t) → T (are_own_lines 0 words (lines_of t))
unfolding is_words_text
text_lines t h = and_r (eqb (get_or t (length t - 1) 0) 10) (are_own_lines 0 words (lines_of t)) h

pub accepted_good : (t : List ℕ) (n : ℕ) → ask_words t ≡ Ok n → Good (own_words t)
unfolding own_words
accepted_good t n e =
    let a = accepted t n e in
    let ls = text_lines t a.is_text in
    record {
      count = lines_count 0 words (lines_of t) ls;
      apart = a.apart;
      formed = lines_formed 0 words (lines_of t) ls;
      literal = lines_most 0 words (lines_of t) word_lit ls;
    }

-- [17.2] a search among its own words compares no more rows than there are words
pub searched_few : (w l : List ℕ) {r : Result Search Refusal} {s : Search} → LooksUpIn w l r → r ≡ Ok s → s.compared ≤ length words
searched_few w l {r} {s} looks e = go (ask_words w) refl
  where
    go : (a : Answer) → ask_words w ≡ a → s.compared ≤ length words
    go (Ok n) asked =
        let t = accepted_under asked looks in
        let told : Ok s ≡ Ok t.0 = sym e ∙ t.1 in
        let same : s ≡ t.0 = cc in
        let n : s.compared ≡ compared (own_words w) l = ap (λ (x : Search). x.compared) same ∙ t.2.1 in
        omega (arith, n, compared_few (own_words w) l, (accepted_good w _ asked).count)
    go (Err q) asked =
        let no : Ok s ≡ Err q = sym e ∙ refused_under asked looks in
        absurd (let z : ◌≡◌ {A = ℕ} 0 1 = cc in omega arith)

-- the text is the built-in words with its own words
text_closed : (t : List ℕ) → T (is_words_text t) → Closed t
unfolding is_words_text
text_closed t h =
    let e : get_or t (length t - 1) 0 ≡ 10 = eqb→eq (get_or t (length t - 1) 0) 10
    (and_l (eqb (get_or t (length t - 1) 0) 10) (are_own_lines 0 words (lines_of t)) h) in
    last_closed t (some t e) e
  where
    some : (l : List ℕ) → get_or l (length l - 1) 0 ≡ 10 → 0 < length l
    some [] e = absurd (omega arith)
    some (b ∷ bs) e = omega arith

pub text_back : (t : List ℕ) → T (is_words_text t) → lines_with words (own_words t) ≡ t
unfolding own_words
text_back t h = sym (lines_back 0 words (lines_of t) (text_lines t h)) ∙ lines_together t (text_closed t h)

-- [16.2] how many bytes such lines have at most: the built-in word, a comma, the longest own word and byte 10
room : ℕ → List (List ℕ) → ℕ
room k [] = 0
room k (h ∷ hs) = length h + 2 + most_letters k + room (suc k) hs

within_room : (k : ℕ) (hs ls : List (List ℕ)) → T (are_own_lines k hs ls) → length (together ls) ≤ room k hs
unfolding are_own_lines together room
within_room k [] [] t = omega arith
within_room k [] (l ∷ ls) t = absurd t
within_room k (h ∷ hs) [] t = absurd t
within_room k (h ∷ hs) (l ∷ ls) t =
    let o = own_line k h l (and_l (is_own_line k h l) (are_own_lines (suc k) hs ls) t) in
    let rest = within_room (suc k) hs ls (and_r (is_own_line k h l) (are_own_lines (suc k) hs ls) t) in
    omega (arith, rest, o.own.most, ap length (line_back o), length-append h (44 ∷ after_comma l), length-append l (10 ∷ together ls))

words_room : room 0 words ≤ 598
unfolding room words table
words_room = omega arith

-- [16.2] no words text has more bytes
pub words_text_short : (t : List ℕ) → T (is_words_text t) → length t ≤ 598
words_text_short t h = omega (arith, ap length (lines_together t (text_closed t h)), within_room 0 words (lines_of t) (text_lines t h), words_room)
