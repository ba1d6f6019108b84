-- [16.9] Rows that pass 4 to 6 and 18 have numbers that question 5 lets be, so that each takes at most 16 bytes as a line. Assumes nothing.
use Rattle.std.specs.Prelude.{Bool, true, false, cond, ◌&&◌, ◌≡◌, refl, ◌⊎◌, ℕ, zero, suc, ◌+◌, ◌*◌, ◌≤◌, T, eqb, leb, ltb, ℤ, pos, negsuc, length}
use Rattle.std.proofs.Common.{sym, subst, inl, inr, ⊎_elim, arith, eqb-true, leb→le, ltb→lt, eqb→eq, SFits}
use mathlib.Core.List.{List, [], ◌∷◌, ◌++◌}
use Rattle.std.specs.Float.Ieee.Fits.{and_r}
use Rattle.std.specs.Float.Ieee.Bits.{is_true}
use Rattle.std.specs.Int.{w32}
use Rattle.words.specs.Kinds.{Row, word_plan, word_redseq, word_idx, word_kind_in, word_var, word_ctr, word_loc, word_lit, word_loops, word_new, word_kind_at}
use Rattle.words.specs.Good.{Good}
use Rattle.words.specs.Groups.{one_of, is_map, is_loop}
use Rattle.words.specs.declared.Sort.{Sort}
use Rattle.lines.specs.Printing.{text_of, Printable, Each}
use Rattle.lines.proofs.Laws.{Ranged, text_size}
use Rattle.syntax.specs.declared.names.Names.{Names}
use Rattle.syntax.specs.declared.operands.Due.{Due}
use Rattle.syntax.specs.Ranges.{as_natural, sizes, wide, widths, literal_in_range, in_range}
use Rattle.syntax.specs.Names.{names, no_names, lanes_with, opened_by, names_fit, lanes_fit}
use Rattle.syntax.specs.Operands.{operand_of, operands_due}
use Rattle.syntax.specs.Laws.Ask.{fit_bounded}
use Rattle.typing.specs.Questions.{AllYes}
use Rattle.typing.specs.EntryQuestions.{walk_questions}
use Rattle.guarantees.specs.Questions.{rows_door}

-- ---- numbers in range are small, but for a literal's

record Few (N : Names) : Type 0 where
  inputs : N.inputs ≤ 4096
  variables : N.variables ≤ 4096
  counters : N.counters ≤ 4096
  regions : N.regions ≤ 4096

abbrev Small : ℕ → ℕ → Type 0
Small k n = (k ≡ word_lit) ⊎ (n ≤ 4096)

-- a width is one
width_few : (n : ℕ) → T (one_of n widths) → n ≤ 4096
unfolding one_of
width_few n h = go (eqb n 2) refl (eqb n 4) refl (eqb n 8) refl (eqb n 16) refl h
  where
    go : (a : Bool) → eqb n 2 ≡ a → (b : Bool) → eqb n 4 ≡ b → (c : Bool) → eqb n 8 ≡ c → (d : Bool) → eqb n 16 ≡ d
        → T (cond a true (cond b true (cond c true (cond d true false)))) → n ≤ 4096
    go true p b q c r d s h = omega (arith, eqb-true n 2 p)
    go false p true q c r d s h = omega (arith, eqb-true n 4 q)
    go false p false q true r d s h = omega (arith, eqb-true n 8 r)
    go false p false q false r true s h = omega (arith, eqb-true n 16 s)
    go false p false q false r false s h = absurd h

small : (s : Sort) (N : Names) (k n : ℕ) → Few N → T (in_range s N k n) → Small k n
unfolding in_range
small s N k n few h =
    go (one_of k sizes) (one_of k wide) (one_of k (word_plan ∷ word_loops ∷ [])) (eqb k word_idx) (eqb k word_kind_at) (eqb k word_kind_in) (eqb k word_var)
    (eqb k word_ctr) (eqb k word_loc) (eqb k word_lit) refl h
  where
    go : (a w b c t d e f g l : Bool) → eqb k word_lit ≡ l
        → T (cond a (leb 1 n && leb n 4096) (cond w (one_of n widths) (cond b (leb n 8) (cond c (leb n 4095) (cond t (leb n 15)
        (cond d (ltb n N.inputs) (cond e (ltb n N.variables) (cond f (ltb n N.counters) (cond g (ltb n N.regions)
        (cond l (literal_in_range s n) (eqb n 0)))))))))))
        → Small k n
    go true w b c t d e f g l p h = inr (leb→le n 4096 (and_r (leb 1 n) (leb n 4096) h))
    go false true b c t d e f g l p h = inr (width_few n h)
    go false false true c t d e f g l p h = inr (omega (arith, leb→le n 8 h))
    go false false false true t d e f g l p h = inr (omega (arith, leb→le n 4095 h))
    go false false false false true d e f g l p h = inr (omega (arith, leb→le n 15 h))
    go false false false false false true e f g l p h = inr (omega (arith, ltb→lt n N.inputs h, few.inputs))
    go false false false false false false true f g l p h = inr (omega (arith, ltb→lt n N.variables h, few.variables))
    go false false false false false false false true g l p h = inr (omega (arith, ltb→lt n N.counters h, few.counters))
    go false false false false false false false false true l p h = inr (omega (arith, ltb→lt n N.regions h, few.regions))
    go false false false false false false false false false true p h = inl (eqb-true k word_lit p)
    go false false false false false false false false false false p h = inr (omega (arith, eqb→eq n 0 h))

-- ---- names in force are few

opened_inputs : (N : Names) (k n : ℕ) → N.inputs ≤ 4096 → Small k n → (opened_by k n N).inputs ≤ 4096
unfolding opened_by one_of
opened_inputs N k n h s =
    ⊎_elim (λ e. subst (λ (i : ℕ). (opened_by i n N).inputs ≤ 4096) (sym e) h)
    (λ l. go l (is_map k) (is_loop k) (one_of k (word_plan ∷ word_loops ∷ [])) (eqb k word_redseq) (eqb k word_new)) s
  where
    go : n ≤ 4096 → (a b c d e : Bool)
        → (cond a (names N.inputs (N.variables + 1) N.counters N.regions N.lanes)
        (cond b (names N.inputs N.variables (N.counters + 1) N.regions (lanes_with k N.lanes))
        (cond c (names n N.variables N.counters N.regions N.lanes)
        (cond d (names N.inputs (N.variables + 2) N.counters N.regions N.lanes)
        (cond e (names N.inputs N.variables N.counters (N.regions + 1) N.lanes) N))))).inputs ≤ 4096
    go l true b c d e = h
    go l false true c d e = h
    go l false false true d e = l
    go l false false false true e = h
    go l false false false false true = h
    go l false false false false false = h

opened_few : (N : Names) (k n : ℕ) → Few N → Small k n → T (names_fit (opened_by k n N)) → T (lanes_fit (opened_by k n N)) → Few (opened_by k n N)
opened_few N k n few s fit apart =
    let b = fit_bounded (opened_by k n N) (is_true (names_fit (opened_by k n N)) fit) (is_true (lanes_fit (opened_by k n N)) apart) in
    record {
      inputs = opened_inputs N k n few.inputs s;
      variables = omega (arith, b.variables_fit);
      counters = omega (arith, b.counters_fit);
      regions = omega (arith, b.regions_fit);
    }

abbrev AllFew : List Due → Type 0
AllFew [] = Unit {0}
AllFew (d ∷ ds) = Few d.names × AllFew ds

operands_few : (d : Due) (k n m : ℕ) (ds : List Due) → Few d.names → Few (opened_by k n d.names) → AllFew ds → AllFew (operands_due d k n m ++ ds)
unfolding operands_due operand_of
operands_few d k n zero ds f g h = h
operands_few d k n (suc m) ds f g h = (go (eqb (suc m) 1), operands_few d k n m ds f g h)
  where
    go : (last : Bool) → Few (operand_of d k n last).names
    go true = g
    go false = f

-- ---- the rows

ranged : (r : Row) → SFits w32 r.1 → Small r.0 (as_natural r.1) → Ranged r
ranged r fits s = record { number = fits; small = ⊎_elim inl (λ l. inr (natural r.1 l)) s }
  where
    natural : (z : ℤ) → as_natural z ≤ 4096 → (n : ℕ) × (z ≡ pos n) × (n ≤ 4096)
    natural (pos n) h = (n, refl, h)
    natural (negsuc n) h = absurd (omega arith)

module _ (ws : List (List ℕ)) where
  walked : (R : List Row) (p : ℕ) (ds : List Due) → AllFew ds → Each (Printable ws) R → AllYes (walk_questions p ds R) → Each Ranged R
  unfolding walk_questions Each
  walked [] p ds few e h = tt
  walked (r ∷ R) p [] few e h = absurd h.0
  walked (r ∷ R) p (d ∷ ds) few e h =
      let s = small d.sort d.names r.0 (as_natural r.1) few.0 h.1.0 in
      let opened = opened_few d.names r.0 (as_natural r.1) few.0 s h.1.1.0 h.1.1.1.0 in (
        ranged r e.0.number s,
        walked R (suc p) _ (operands_few d r.0 (as_natural r.1) _ ds few.0 opened few.1) e.1 h.1.1.1.1,
      )

  pub text_short : Good ws → (s : Sort) (R : List Row) → Each (Printable ws) R → AllYes (rows_door s R) → length (text_of ws R) ≤ 16 * length R
  text_short good s R e h = text_size ws good R (walked R 0 _ (none, tt) e h)
    where
      none : Few no_names
      none = record { inputs = omega arith; variables = omega arith; counters = omega arith; regions = omega arith }
