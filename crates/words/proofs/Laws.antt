-- Laws of the table of words, of looking a word up, and of rows. That a word is found at its own place holds for every table whose words are
-- distinct; the others of looking up, and of how many rows are compared, hold for every table. Assumes nothing.
use Rattle.std.specs.Prelude.{◌≡◌, refl, Bool, true, false, not, cond, ◌&&◌, List, [], ◌∷◌, map, ◌⊎◌, ℕ, zero, suc}
use Rattle.std.specs.Prelude.{◌+◌, ◌≤◌, ◌<◌, min, ℤ, pos, T, eqb, leb, length, get_or, take, drop, Some, Option, None}
use Rattle.std.proofs.Common.{sym, ap, ap₂, ◌∙◌, subst, inl, inr, ⊎_elim, suc-le-suc, add-zero, add-suc, suc-add, le_of_suc-le-suc, not-suc-le-zero}
use Rattle.std.proofs.Common.{add-one, arith, T_not, eqb→eq, leb→le, ltb-false, eqb-true, eq-eqb, ne_eqb, drop_of_length-le, drop-cons}
use Prim.Native.String.{String}
use Rattle.std.proofs.Math.Nat.{zero-min, min-zero, suc-min-suc}
use Rattle.std.proofs.Math.Dec.{eqb_refl}
use Rattle.std.specs.Float.Ieee.Fits.{and_i, and_l, and_r}
use Rattle.std.proofs.lemmas.List.{length-map}
use Rattle.std.proofs.Math.ListN.{get_or-eq_default}
use Rattle.words.specs.Kinds.{Row, rows_of, word_plan, word_num, word_arr, word_two, word_kind_in, word_var, word_lit, word_neg, word_add}
use Rattle.words.specs.Kinds.{word_sub, word_mul, word_div, word_min, word_max, word_mappar, word_mapseq, word_redseq, word_zip}
use Rattle.words.specs.Kinds.{word_pair, word_split, word_join, word_fst, word_snd, word_idx, word_loops, word_cells, word_set}
use Rattle.words.specs.Kinds.{word_seq, word_for, word_par, word_new, word_out, word_loc, word_ctr, word_plus, word_times, word_over}
use Rattle.words.specs.Kinds.{word_rest, word_vec, word_asvec, word_asscal, word_mapvec, word_kind_at, word_lanes}
use Rattle.words.specs.Tables.{first_of, word_in, words_in}
use Rattle.words.specs.Good.{absent, distinct, lower_case, well_formed, Good}
use Rattle.words.specs.Words.{Entry, bytes, entry, table, words, word_at, same_letters, look_from, look_up, compared, operands_as, operands_of}
use Rattle.words.specs.Groups.{one_of, is_listed}
use Rattle.words.specs.declared.Sort.{Sort}

-- ---- the test of two words tells whether they are equal

pub same_refl : (l : List ℕ) → T (same_letters l l)
unfolding same_letters
same_refl [] = tt
same_refl (b ∷ bs) = and_i (eqb b b) (same_letters bs bs) (eqb_refl b) (same_refl bs)

pub same_equal : (l w : List ℕ) → T (same_letters l w) → l ≡ w
unfolding same_letters
same_equal [] [] t = refl
same_equal [] (w ∷ ws) t = absurd t
same_equal (l ∷ ls) [] t = absurd t
same_equal (l ∷ ls) (w ∷ ws) t =
    ap₂ ◌∷◌ (eqb→eq l w (and_l (eqb l w) (same_letters ls ws) t)) (same_equal ls ws (and_r (eqb l w) (same_letters ls ws) t))

pub same_true : (l w : List ℕ) → l ≡ w → true ≡ same_letters l w
same_true l w e = go (same_letters l w) (subst (λ (v : List ℕ). T (same_letters l v)) e (same_refl l))
  where
    go : (b : Bool) → T b → true ≡ b
    go true t = refl
    go false t = absurd t

pub same_false : (l w : List ℕ) → (l ≡ w → ⊥) → false ≡ same_letters l w
same_false l w h = go (same_letters l w) (λ t. h (same_equal l w t))
  where
    go : (b : Bool) → (T b → ⊥) → false ≡ b
    go true h = absurd (h tt)
    go false h = refl

-- ---- looking up

-- one word of the table after the other
pub look_next : (ws : List (List ℕ)) (l : List ℕ) (k : ℕ) → k < length ws
    → look_from k (drop k ws) l ≡ cond (same_letters l (word_at ws k)) (Some k) (look_from (k + 1) (drop (k + 1) ws) l)
unfolding look_from
look_next ws l k h =
    ap (λ (v : List (List ℕ)). look_from k v l) (drop-cons ws k [] h)
    ∙ ap (λ (j : ℕ). cond (same_letters l (word_at ws k)) (Some k) (look_from j (drop j ws) l)) (sym (add-one k))

pub look_end : (ws : List (List ℕ)) (l : List ℕ) (k : ℕ) → length ws ≤ k → look_from k (drop k ws) l ≡ None
unfolding look_from
look_end ws l k h = ap (λ (v : List (List ℕ)). look_from k v l) (drop_of_length-le ws h)

-- what is found at k, counted from j, stands there
hit : (b : Bool) (j k : ℕ) (later : Option ℕ) → cond b (Some j) later ≡ Some k → (T b × (j ≡ k)) ⊎ (later ≡ Some k)
hit true j k later e = inl (tt, cc)
hit false j k later e = inr e

found_from : (j : ℕ) (ws : List (List ℕ)) (l : List ℕ) (k : ℕ) → look_from j ws l ≡ Some k
    → (i : ℕ) × (k ≡ j + i) × (i < length ws) × (get_or ws i [] ≡ l)
unfolding look_from
found_from j [] l k e = let z : ◌≡◌ {A = ℕ} 0 1 = cc in absurd (omega arith)
found_from j (w ∷ ws) l k e =
    ⊎_elim
    (λ h. (0, omega (arith, h.1), omega arith, sym (same_equal l w h.0)))
    (λ h. let r = found_from (suc j) ws l k h in (suc r.0, omega (arith, r.1), suc-le-suc r.2, r.3))
    (hit (same_letters l w) j k (look_from (suc j) ws l) e)

pub found_word : (ws : List (List ℕ)) (l : List ℕ) (k : ℕ) → look_up ws l ≡ Some k → (k < length ws) × (word_at ws k ≡ l)
found_word ws l k e =
    let r = found_from 0 ws l k e in
    let q : k ≡ r.0 = omega (arith, r.1) in
    (omega (arith, r.2), ap (λ (i : ℕ). get_or ws i []) q ∙ r.3)

-- a word that no row has is not found
pub missed_word : (ws : List (List ℕ)) (l : List ℕ) → ((k : ℕ) → k < length ws → word_at ws k ≡ l → ⊥) → look_up ws l ≡ None
missed_word ws l none = go (look_up ws l) refl
  where
    go : (f : Option ℕ) → look_up ws l ≡ f → f ≡ None
    go (Some k) e = let there = found_word ws l k e in absurd (none k there.0 there.1)
    go None e = refl

-- a word of a table with distinct words is found at its own place
absent_at : (l : List ℕ) (ws : List (List ℕ)) (i : ℕ) → T (absent l ws) → i < length ws → l ≡ get_or ws i [] → ⊥
unfolding absent
absent_at l [] i t h e = not-suc-le-zero h
absent_at l (w ∷ ws) zero t h e =
    T_not (same_letters l w) (and_l (not (same_letters l w)) (absent l ws) t)
    (subst (λ (v : List ℕ). T (same_letters l v)) e (same_refl l))
absent_at l (w ∷ ws) (suc i) t h e =
    absent_at l ws i (and_r (not (same_letters l w)) (absent l ws) t) (le_of_suc-le-suc h) e

cond_true : {A : Type 0} (b : Bool) (x y : A) → T b → cond b x y ≡ x
cond_true true x y t = refl
cond_true false x y t = absurd t

cond_false : {A : Type 0} (b : Bool) (x y : A) → (T b → ⊥) → cond b x y ≡ y
cond_false true x y h = absurd (h tt)
cond_false false x y h = refl

own_from : (j : ℕ) (ws : List (List ℕ)) (i : ℕ) → T (distinct ws) → i < length ws → look_from j ws (get_or ws i []) ≡ Some (j + i)
unfolding look_from distinct
own_from j [] i t h = absurd (not-suc-le-zero h)
own_from j (w ∷ ws) zero t h =
    cond_true (same_letters w w) (Some j) (look_from (suc j) ws w) (same_refl w) ∙ ap Some (sym (add-zero j))
own_from j (w ∷ ws) (suc i) t h =
    let v : List ℕ = get_or ws i [] in
    let k : i < length ws = le_of_suc-le-suc h in
    cond_false (same_letters v w) (Some j) (look_from (suc j) ws v)
    (λ s. absent_at w ws i (and_l (absent w ws) (distinct ws) t) k (sym (same_equal v w s)))
    ∙ own_from (suc j) ws i (and_r (absent w ws) (distinct ws) t) k
    ∙ ap Some (suc-add j i ∙ sym (add-suc j i))

pub own_place : (ws : List (List ℕ)) (k : ℕ) → T (distinct ws) → k < length ws → look_up ws (word_at ws k) ≡ Some k
own_place ws k t h = own_from 0 ws k t h ∙ ap Some (omega arith)

-- ---- how many rows a search compares

-- the place found, counted from 1; or all the rows, j before these and n
abbrev rows_passed : Option ℕ → ℕ → ℕ → ℕ
rows_passed (Some k) j n = k + 1
rows_passed None j n = j + n

compared_from : (j : ℕ) (ws : List (List ℕ)) (l : List ℕ) → j + compared ws l ≡ rows_passed (look_from j ws l) j (length ws)
unfolding compared look_from
compared_from j [] l = refl
compared_from j (w ∷ ws) l = go (same_letters l w) (look_from (suc j) ws l) (compared_from (suc j) ws l)
  where
    go : (b : Bool) (f : Option ℕ) → suc j + compared ws l ≡ rows_passed f (suc j) (length ws)
        → j + suc (cond b 0 (compared ws l)) ≡ rows_passed (cond b (Some j) f) j (suc (length ws))
    go true f e = omega arith
    go false (Some k) e = omega (arith, e)
    go false None e = omega (arith, e)

pub compared_found : (ws : List (List ℕ)) (l : List ℕ) (k : ℕ) → look_up ws l ≡ Some k → compared ws l ≡ k + 1
compared_found ws l k e = omega (arith, compared_from 0 ws l ∙ ap (λ (f : Option ℕ). rows_passed f 0 (length ws)) e)

pub compared_missed : (ws : List (List ℕ)) (l : List ℕ) → look_up ws l ≡ None → compared ws l ≡ length ws
compared_missed ws l e = omega (arith, compared_from 0 ws l ∙ ap (λ (f : Option ℕ). rows_passed f 0 (length ws)) e)

pub compared_few : (ws : List (List ℕ)) (l : List ℕ) → compared ws l ≤ length ws
compared_few ws l = go (look_up ws l) refl
  where
    go : (f : Option ℕ) → look_up ws l ≡ f → compared ws l ≤ length ws
    go (Some k) e = omega (arith, compared_found ws l k e, (found_word ws l k e).0)
    go None e = omega (arith, compared_missed ws l e)

-- ---- the words of a well-formed table

pub word_formed : (ws : List (List ℕ)) (k : ℕ) → T (well_formed ws) → T (lower_case (word_at ws k)) × (length (word_at ws k) ≤ 8)
unfolding well_formed
word_formed [] k t = (tt, omega arith)
word_formed (w ∷ ws) zero t =
    let u = and_l (lower_case w && leb 1 (length w) && leb (length w) 8) (well_formed ws) t in
    let v = and_l (lower_case w && leb 1 (length w)) (leb (length w) 8) u in
    (and_l (lower_case w) (leb 1 (length w)) v, leb→le (length w) 8 (and_r (lower_case w && leb 1 (length w)) (leb (length w) 8) u))
word_formed (w ∷ ws) (suc k) t =
    word_formed ws k (and_r (lower_case w && leb 1 (length w) && leb (length w) 8) (well_formed ws) t)

-- ---- the first n of a list, whatever its length

pub first_count : {A : Type 0} (d : A) (n : ℕ) (l : List A) → length (first_of d n l) ≡ n
unfolding first_of
first_count d zero l = refl
first_count d (suc n) [] = ap suc (first_count d n [])
first_count d (suc n) (x ∷ l) = ap suc (first_count d n l)

pub first_at : {A : Type 0} (d : A) (n : ℕ) (l : List A) (i : ℕ) → i < n → get_or (first_of d n l) i d ≡ get_or l i d
unfolding first_of
first_at d zero l i h = absurd (not-suc-le-zero h)
first_at d (suc n) [] zero h = refl
first_at d (suc n) [] (suc i) h = first_at d n [] i (le_of_suc-le-suc h)
first_at d (suc n) (x ∷ l) zero h = refl
first_at d (suc n) (x ∷ l) (suc i) h = first_at d n l i (le_of_suc-le-suc h)

pub first_take : {A : Type 0} (d : A) (n : ℕ) (l : List A) → n ≤ length l → first_of d n l ≡ take n l
unfolding first_of
first_take d zero l h = refl
first_take d (suc n) [] h = absurd (not-suc-le-zero h)
first_take d (suc n) (x ∷ l) h = ap (◌∷◌ x) (first_take d n l (le_of_suc-le-suc h))

-- so the words of a table's rows are as many as there are words
pub words_in_count : (rows : List (List ℕ)) → length (words_in rows) ≡ length words
unfolding words_in
words_in_count rows = length-map (first_of [] (length words) rows) word_in ∙ first_count [] (length words) rows

-- ---- the built-in table: a test that is computed

pub words_count : length words ≡ 44
unfolding words table
words_count = refl

pub table_length : length table ≡ length words
unfolding words table
table_length = refl

-- a kind that makes rows of some sort is a word's
pub word_listed : (k : ℕ) (s : Sort) (m : ℕ) → operands_of k s ≡ Some m → is_listed k ≡ true
unfolding operands_of
word_listed k s m e = go (is_listed k) refl
  where
    go : (b : Bool) → is_listed k ≡ b → b ≡ true
    go true p = refl
    go false p =
        let h : length table ≤ k = omega (arith, ltb-false k (length words) p, table_length) in
        let n = ap (λ (x : Entry). operands_as s x.uses) (get_or-eq_default table (entry "" []) h) in
        absurd (let y : ◌≡◌ {A = ℕ} 0 1 = cc in omega arith)

pub words_good : Good words
unfolding words table distinct absent same_letters well_formed
words_good = record { count = refl; apart = tt; formed = tt; literal = omega arith }

-- ---- groups of words: what holds of each word of a list, given as one tuple, holds of a kind that stands in it

abbrev pub All : List ℕ → (ℕ → Type 0) → Type 0
All [] P = Unit {0}
All (w ∷ ws) P = P w × All ws P

pub at_member : (P : ℕ → Type 0) (k : ℕ) (ws : List ℕ) → one_of k ws ≡ true → All ws P → P k
unfolding one_of
at_member P k [] h f = absurd (let z : ◌≡◌ {A = ℕ} 0 1 = cc in omega arith)
at_member P k (w ∷ ws) h f = go (eqb k w) refl h (λ q. at_member P k ws q f.1)
  where
    go : (b : Bool) → eqb k w ≡ b → cond b true (one_of k ws) ≡ true → (one_of k ws ≡ true → P k) → P k
    go true e q later = subst P (sym (eqb-true k w e)) f.0
    go false e q later = later q

pub not_one : (k : ℕ) (ws : List ℕ) → All ws (λ w. k ≡ w → ⊥) → one_of k ws ≡ false
unfolding one_of
not_one k [] p = refl
not_one k (w ∷ ws) p = simp (ne_eqb k w p.0) (not_one k ws p.1)

pub is_one : (k : ℕ) (ws : List ℕ) → (All ws (λ w. k ≡ w → ⊥) → ⊥) → one_of k ws ≡ true
unfolding one_of
is_one k [] p = absurd (p tt)
is_one k (w ∷ ws) p = go (eqb k w) refl (λ q. is_one k ws q)
  where
    go : (b : Bool) → eqb k w ≡ b → ((All ws (λ v. k ≡ v → ⊥) → ⊥) → one_of k ws ≡ true) → cond b true (one_of k ws) ≡ true
    go true e later = refl
    go false e later = later (λ q. p ((λ x. absurd (differ x e)), q))
      where
        differ : k ≡ w → eqb k w ≡ false → ⊥
        differ x f = let z : true ≡ false = sym (eq-eqb k w x) ∙ f in absurd (let y : ◌≡◌ {A = ℕ} 0 1 = cc in omega arith)

-- ---- the rows of a table that is lent as kinds and numbers

pub rows_length : (ks : List ℕ) (ns : List ℤ) → length (rows_of ks ns) ≡ min (length ks) (length ns)
unfolding rows_of
rows_length [] ns = sym (zero-min (length ns))
rows_length (k ∷ ks) [] = sym (min-zero (suc (length ks)))
rows_length (k ∷ ks) (n ∷ ns) = ap suc (rows_length ks ns) ∙ sym (suc-min-suc (length ks) (length ns))

pub rows_at : (ks : List ℕ) (ns : List ℤ) (i : ℕ) (d : Row) → i < length ks → i < length ns
    → get_or (rows_of ks ns) i d ≡ (get_or ks i 0, get_or ns i (pos 0))
unfolding rows_of
rows_at [] ns i d h g = absurd (not-suc-le-zero h)
rows_at (k ∷ ks) [] i d h g = absurd (not-suc-le-zero g)
rows_at (k ∷ ks) (n ∷ ns) zero d h g = refl
rows_at (k ∷ ks) (n ∷ ns) (suc i) d h g = rows_at ks ns i d (le_of_suc-le-suc h) (le_of_suc-le-suc g)

-- each kind's constant is the place of the word that it is called by: one computed test
abbrev named : List (ℕ × String)
named =
    (word_plan, "plan")
    ∷ (word_num, "num")
    ∷ (word_arr, "arr")
    ∷ (word_two, "two")
    ∷ (word_kind_in, "in")
    ∷ (word_var, "var")
    ∷ (word_lit, "lit")
    ∷ (word_neg, "neg")
    ∷ (word_add, "add")
    ∷ (word_sub, "sub")
    ∷ (word_mul, "mul")
    ∷ (word_div, "div")
    ∷ (word_min, "min")
    ∷ (word_max, "max")
    ∷ (word_mappar, "mappar")
    ∷ (word_mapseq, "mapseq")
    ∷ (word_redseq, "redseq")
    ∷ (word_zip, "zip")
    ∷ (word_pair, "pair")
    ∷ (word_split, "split")
    ∷ (word_join, "join")
    ∷ (word_fst, "fst")
    ∷ (word_snd, "snd")
    ∷ (word_idx, "idx")
    ∷ (word_loops, "loops")
    ∷ (word_cells, "cells")
    ∷ (word_set, "set")
    ∷ (word_seq, "seq")
    ∷ (word_for, "for")
    ∷ (word_par, "par")
    ∷ (word_new, "new")
    ∷ (word_out, "out")
    ∷ (word_loc, "loc")
    ∷ (word_ctr, "ctr")
    ∷ (word_plus, "plus")
    ∷ (word_times, "times")
    ∷ (word_over, "over")
    ∷ (word_rest, "rest")
    ∷ (word_vec, "vec")
    ∷ (word_asvec, "asvec")
    ∷ (word_asscal, "asscal")
    ∷ (word_mapvec, "mapvec")
    ∷ (word_kind_at, "at")
    ∷ (word_lanes, "lanes")
    ∷ []

kinds_named : map (λ (n : ℕ × String). word_at words n.0) named ≡ map (λ (n : ℕ × String). bytes n.1) named
unfolding words table
kinds_named = refl
