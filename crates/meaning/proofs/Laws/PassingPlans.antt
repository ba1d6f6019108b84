-- A plan within the limits has loops that pass.
use Rattle.std.specs.Prelude.{◌≡◌, refl, List, [], ◌++◌, map, ℕ, suc, ◌+◌, ◌≤◌, ◌<◌, length, get_or}
use Rattle.std.proofs.Common.{sym, ap, ap₂, ◌∙◌, subst, not-suc-le-zero, le_refl, arith, length-append}
use Rattle.std.proofs.lemmas.List.{length-map}
use Rattle.meaning.specs.Types.{DataType, cells, number}
use Rattle.meaning.specs.Terms.{Term, Plan}
use Rattle.meaning.specs.Runs.{entry}
use Rattle.meaning.specs.Expressions.{Acceptor}
use Rattle.meaning.specs.Offsets.{offset_of}
use Rattle.meaning.specs.Translation.{plan_type, translation}
use Rattle.meaning.specs.Rows.{term_rows, all_type_rows, plan_rows}
use Rattle.meaning.specs.Limits.{IsCount, OffsetFits, LoopsWithin, CellsWithin, TypeWithin}
use Rattle.meaning.specs.Limits.{PlanWithin}
use Rattle.meaning.proofs.Laws.Typing.{WellTyped}
use Rattle.meaning.proofs.Laws.Layout.{entry_cells}
use Rattle.meaning.proofs.Laws.Bounds.{level_bound, cells_positive, cells_within, offset_fits}
use Rattle.meaning.proofs.Laws.PassingClaims.{Heading}
use Rattle.meaning.proofs.Laws.PassingTerms.{regions_around, type_within, passes}

-- how many rows a term has
abbrev pub row_count : Term → ℕ
row_count (Term.input k) = 1
row_count (Term.variable d) = 1
row_count (Term.literal v) = 1
row_count (Term.negate e) = suc (row_count e)
row_count (Term.operation o e f) = suc (row_count e + row_count f)
row_count (Term.map kind a b) = suc (row_count a + row_count b)
row_count (Term.reduce z a b) = suc (row_count z + (row_count a + row_count b))
row_count (Term.zip a b) = suc (row_count a + row_count b)
row_count (Term.pair a b) = suc (row_count a + row_count b)
row_count (Term.split series n e) = suc (row_count e)
row_count (Term.join series e) = suc (row_count e)
row_count (Term.first e) = suc (row_count e)
row_count (Term.second e) = suc (row_count e)
row_count (Term.index series k e) = suc (row_count e)

rows_of_both : (e f : Term) → length (term_rows e) ≡ row_count e → length (term_rows f) ≡ row_count f
    → length (term_rows e ++ term_rows f) ≡ row_count e + row_count f
rows_of_both e f h k = length-append (term_rows e) (term_rows f) ∙ ap₂ ◌+◌ h k

pub rows_counted : (e : Term) → length (term_rows e) ≡ row_count e
unfolding term_rows
rows_counted (Term.input k) = refl
rows_counted (Term.variable d) = refl
rows_counted (Term.literal v) = refl
rows_counted (Term.negate e) = ap suc (rows_counted e)
rows_counted (Term.operation o e f) = ap suc (rows_of_both e f (rows_counted e) (rows_counted f))
rows_counted (Term.map kind a b) = ap suc (rows_of_both a b (rows_counted a) (rows_counted b))
rows_counted (Term.reduce z a b) =
    ap suc
    (length-append (term_rows z) (term_rows a ++ term_rows b)
    ∙ ap₂ ◌+◌ (rows_counted z) (rows_of_both a b (rows_counted a) (rows_counted b)))
rows_counted (Term.zip a b) = ap suc (rows_of_both a b (rows_counted a) (rows_counted b))
rows_counted (Term.pair a b) = ap suc (rows_of_both a b (rows_counted a) (rows_counted b))
rows_counted (Term.split series n e) = ap suc (rows_counted e)
rows_counted (Term.join series e) = ap suc (rows_counted e)
rows_counted (Term.first e) = ap suc (rows_counted e)
rows_counted (Term.second e) = ap suc (rows_counted e)
rows_counted (Term.index series k e) = ap suc (rows_counted e)

-- fewer regions than rows
regions_few_holds : (e : Term) → regions_around e < row_count e
regions_few_holds (Term.input k) = omega arith
regions_few_holds (Term.variable d) = omega arith
regions_few_holds (Term.literal v) = omega arith
regions_few_holds (Term.negate e) = let h = regions_few_holds e in omega arith
regions_few_holds (Term.operation o e f) = let h = regions_few_holds e in let k = regions_few_holds f in omega arith
regions_few_holds (Term.map kind a b) = let h = regions_few_holds a in let k = regions_few_holds b in omega arith
regions_few_holds (Term.reduce z a b) =
    let h = regions_few_holds z in let k = regions_few_holds a in let l = regions_few_holds b in omega arith
regions_few_holds (Term.zip a b) = let h = regions_few_holds a in let k = regions_few_holds b in omega arith
regions_few_holds (Term.pair a b) = let h = regions_few_holds a in let k = regions_few_holds b in omega arith
regions_few_holds (Term.split series n e) = let h = regions_few_holds e in omega arith
regions_few_holds (Term.join series e) = let h = regions_few_holds e in omega arith
regions_few_holds (Term.first e) = let h = regions_few_holds e in omega arith
regions_few_holds (Term.second e) = let h = regions_few_holds e in omega arith
regions_few_holds (Term.index series k e) = let h = regions_few_holds e in omega arith

term_rows_few : (P : Plan) → length (plan_rows P) ≤ 256 → row_count P.term ≤ 256
unfolding plan_rows
term_rows_few P h =
    let a = length-append (all_type_rows P.inputs) (term_rows P.term) in
    let b = rows_counted P.term in
    omega arith

-- of an input: its cells are a count, and it is read within them
input_count_holds : (I : List DataType) (k : ℕ) → k < length I → CellsWithin (get_or I k number)
    → IsCount (entry (map cells I) k)
input_count_holds I k h f =
    subst (λ (n : ℕ). IsCount n) (sym (entry_cells I k h))
    (cells_positive (get_or I k number) f, cells_within (get_or I k number) f)

pub translation_within : (P : Plan) → WellTyped P.inputs [] P.term → PlanWithin P → LoopsWithin (translation P)
unfolding translation
translation_within P wt L =
    let I : List DataType = P.inputs in
    let T : DataType = plan_type P in
    let H : Heading = record { input_types = I; output = cells T } in
    let within : TypeWithin T = type_within I [] P.term L.term_within in
    let few = term_rows_few P L.rows_few in
    let fewer = regions_few_holds P.term in
    record {
      inputs_few = subst (λ (n : ℕ). n ≤ 8) (sym (length-map I cells)) L.inputs_few;
      input_cells = λ k h.
          let h' : k < length I = omega (arith, length-map I cells) in input_count_holds I k h' (L.input_types k h').0;
      output_cells = (cells_positive T within.0, cells_within T within.0);
      passes =
          (passes H [] P.term wt L.term_within).written [] [] [] (Acceptor.output T)
          (record {
            inputs = λ k h. record {
              read = λ ns rs a b p i. (
                omega (arith, length-map I cells),
                subst (λ (n : ℕ). OffsetFits (length ns) (level_bound ns) (offset_of (get_or I k number) p) n)
                    (sym (entry_cells I k h))
                    (offset_fits ns (get_or I k number) p (L.input_types k h).0 i),
              );
            };
            variables = λ d h. absurd (not-suc-le-zero h);
            loops_few = le_refl 0;
            variables_few = omega arith;
            regions_few = omega arith;
          })
          (record { write = λ ns rs a b p i. offset_fits ns T p within.0 i });
    }
