-- The rows of a plan are read back as that plan. Assumes nothing.
use Rattle.std.specs.Prelude.{◌≡◌, refl, List, [], ◌∷◌, ◌++◌, map, ℕ, suc, ℤ, pos, length, get_or, take}
use Rattle.std.proofs.Common.{sym, ap, ap₂, ◌∙◌, append-nil}
use Rattle.arithmetic.specs.Arithmetic.{Operation}
use Rattle.words.specs.Kinds.{word_num, word_arr, word_two, word_kind_in, word_var, word_lit, word_neg, word_add, word_sub, word_mul, word_div}
use Rattle.words.specs.Kinds.{word_min, word_max, word_mappar, word_mapseq, word_redseq, word_zip, word_pair, word_split, word_join}
use Rattle.words.specs.Kinds.{word_fst, word_snd, word_idx, word_vec, word_asvec, word_asscal, word_mapvec, word_kind_at}
use Rattle.words.specs.Words.{operands_of, table}
use Rattle.words.specs.declared.Sort.{Sort}
use Rattle.words.specs.declared.Sort.TheVariants as sort
use Rattle.meaning.specs.Types.{DataType, Series, number, array, vector}
use Rattle.meaning.specs.Terms.{LoopKind, Term, Plan}
use Rattle.meaning.specs.Rows.{type_rows, term_rows, all_type_rows, plan_rows}
use Rattle.syntax.specs.Reading.{operands_among, read_rows, choose, PlanPart, empty_part, plan_part, plan_parts, plan_of}
use Rattle.syntax.specs.Laws.Read.{Comes, both, row, Has, none, one, two, inputs_front, behind_inputs}

-- ---- plans

abbrev plan_sorts : List Sort
plan_sorts = sort.DataType ∷ sort.Term ∷ []

abbrev TypeHas : DataType → Type 0
TypeHas t = Has plan_sorts plan_part type_rows (λ (x : PlanPart). x.type) t

abbrev TermHas : Term → Type 0
TermHas e = Has plan_sorts plan_part term_rows (λ (x : PlanPart). x.term) e

read_type : (t : DataType) → TypeHas t
unfolding type_rows operands_among operands_of table choose
read_type number = none plan_sorts plan_part type_rows (λ (x : PlanPart). x.type) word_num (pos 0) number refl refl (λ S. refl) refl
read_type (array n t) = one plan_sorts plan_part type_rows (λ (x : PlanPart). x.type) type_rows (λ (x : PlanPart). x.type) word_arr (pos n) (array n)
    t refl refl (λ a S. refl) (λ a. refl) (read_type t)
read_type (DataType.pair s t) =
    two plan_sorts plan_part type_rows (λ (x : PlanPart). x.type) type_rows (λ (x : PlanPart). x.type) type_rows
    (λ (x : PlanPart). x.type) word_two (pos 0) DataType.pair s t refl refl (λ a b S. refl) (λ a b. refl)
    (read_type s) (read_type t)
read_type (vector w) = none plan_sorts plan_part type_rows (λ (x : PlanPart). x.type) word_vec (pos w) (vector w) refl refl (λ S. refl) refl

abbrev leaf_term : (k : ℕ) (z : ℤ) (e : Term) → term_rows e ≡ (k, z) ∷ [] → operands_among plan_sorts k ≡ 0
    → ((S : List PlanPart) → plan_part k z S ≡ plan_part k z []) → (plan_part k z []).term ≡ e → TermHas e
leaf_term k z e r o m t = none plan_sorts plan_part term_rows (λ (x : PlanPart). x.term) k z e r o m t

abbrev one_term : (k : ℕ) (z : ℤ) (f : Term → Term) (e : Term) → term_rows (f e) ≡ (k, z) ∷ term_rows e
    → operands_among plan_sorts k ≡ 1 → ((a : PlanPart) (S : List PlanPart) → plan_part k z (a ∷ S) ≡ plan_part k z (a ∷ []))
    → ((a : PlanPart) → (plan_part k z (a ∷ [])).term ≡ f a.term) → TermHas e → TermHas (f e)
one_term k z f e r o m t h = one plan_sorts plan_part term_rows (λ (x : PlanPart). x.term) term_rows (λ (x : PlanPart). x.term) k z f e r o m t h

abbrev two_terms : (k : ℕ) (f : Term → Term → Term) (d e : Term) → term_rows (f d e) ≡ (k, pos 0) ∷ (term_rows d ++ term_rows e) → operands_among plan_sorts k ≡ 2
    → ((a b : PlanPart) (S : List PlanPart) → plan_part k (pos 0) (a ∷ b ∷ S) ≡ plan_part k (pos 0) (a ∷ b ∷ []))
    → ((a b : PlanPart) → (plan_part k (pos 0) (a ∷ b ∷ [])).term ≡ f a.term b.term) → TermHas d → TermHas e → TermHas (f d e)
two_terms k f d e r o m t h g = two plan_sorts plan_part term_rows (λ (x : PlanPart). x.term) term_rows (λ (x : PlanPart). x.term) term_rows (λ (x : PlanPart). x.term) k (pos 0) f d e r o m t h g

-- the six operations and the two maps
read_operation : (o : Operation) (d e : Term) → TermHas d → TermHas e → TermHas (Term.operation o d e)
unfolding term_rows operands_among operands_of table choose
read_operation Operation.addition d e h g = two_terms word_add (Term.operation Operation.addition) d e refl refl (λ a b S. refl) (λ a b. refl) h g
read_operation Operation.subtraction d e h g = two_terms word_sub (Term.operation Operation.subtraction) d e refl refl (λ a b S. refl) (λ a b. refl) h g
read_operation Operation.multiplication d e h g = two_terms word_mul (Term.operation Operation.multiplication) d e refl refl (λ a b S. refl) (λ a b. refl) h g
read_operation Operation.division d e h g = two_terms word_div (Term.operation Operation.division) d e refl refl (λ a b S. refl) (λ a b. refl) h g
read_operation Operation.minimum d e h g = two_terms word_min (Term.operation Operation.minimum) d e refl refl (λ a b S. refl) (λ a b. refl) h g
read_operation Operation.maximum d e h g = two_terms word_max (Term.operation Operation.maximum) d e refl refl (λ a b S. refl) (λ a b. refl) h g

read_map : (kind : LoopKind) (d e : Term) → TermHas d → TermHas e → TermHas (Term.map kind d e)
unfolding term_rows operands_among operands_of table choose
read_map LoopKind.parallel d e h g = two_terms word_mappar (Term.map LoopKind.parallel) d e refl refl (λ a b S. refl) (λ a b. refl) h g
read_map LoopKind.sequential d e h g = two_terms word_mapseq (Term.map LoopKind.sequential) d e refl refl (λ a b S. refl) (λ a b. refl) h g
read_map LoopKind.lanes d e h g = two_terms word_mapvec (Term.map LoopKind.lanes) d e refl refl (λ a b S. refl) (λ a b. refl) h g

-- regroupings and elements, of arrays and of vectors
read_split : (series : Series) (n : ℕ) (e : Term) → TermHas e → TermHas (Term.split series n e)
unfolding term_rows operands_among operands_of table choose
read_split Series.arrays n e h = one_term word_split (pos n) (Term.split Series.arrays n) e refl refl (λ a S. refl) (λ a. refl) h
read_split Series.vectors n e h = one_term word_asvec (pos n) (Term.split Series.vectors n) e refl refl (λ a S. refl) (λ a. refl) h

read_join : (series : Series) (e : Term) → TermHas e → TermHas (Term.join series e)
unfolding term_rows operands_among operands_of table choose
read_join Series.arrays e h = one_term word_join (pos 0) (Term.join Series.arrays) e refl refl (λ a S. refl) (λ a. refl) h
read_join Series.vectors e h = one_term word_asscal (pos 0) (Term.join Series.vectors) e refl refl (λ a S. refl) (λ a. refl) h

read_index : (series : Series) (k : ℕ) (e : Term) → TermHas e → TermHas (Term.index series k e)
unfolding term_rows operands_among operands_of table choose
read_index Series.arrays k e h = one_term word_idx (pos k) (Term.index Series.arrays k) e refl refl (λ a S. refl) (λ a. refl) h
read_index Series.vectors k e h = one_term word_kind_at (pos k) (Term.index Series.vectors k) e refl refl (λ a S. refl) (λ a. refl) h

read_reduce : (c d e : Term) → TermHas c → TermHas d → TermHas e → TermHas (Term.reduce c d e)
unfolding term_rows operands_among operands_of table choose
read_reduce c d e h g f = (
  plan_part word_redseq (pos 0) (h.0 ∷ g.0 ∷ f.0 ∷ []),
  ap₂ (λ (a b : Term). Term.reduce a b f.0.term) h.1 g.1 ∙ ap (λ (t : Term). Term.reduce c d t) f.1,
  row plan_sorts plan_part word_redseq (pos 0) (term_rows c ++ (term_rows d ++ term_rows e)) (h.0 ∷ g.0 ∷ f.0 ∷ []) refl (λ S. refl)
      (both plan_sorts plan_part (term_rows c) (term_rows d ++ term_rows e) h.0 (g.0 ∷ f.0 ∷ []) h.2
      (both plan_sorts plan_part (term_rows d) (term_rows e) g.0 (f.0 ∷ []) g.2 f.2)),
)

read_term : (e : Term) → TermHas e
unfolding term_rows operands_among operands_of table choose
read_term (Term.input k) = leaf_term word_kind_in (pos k) (Term.input k) refl refl (λ S. refl) refl
read_term (Term.variable d) = leaf_term word_var (pos d) (Term.variable d) refl refl (λ S. refl) refl
read_term (Term.literal z) = leaf_term word_lit z (Term.literal z) refl refl (λ S. refl) refl
read_term (Term.negate e) = one_term word_neg (pos 0) Term.negate e refl refl (λ a S. refl) (λ a. refl) (read_term e)
read_term (Term.operation o d e) = read_operation o d e (read_term d) (read_term e)
read_term (Term.map kind d e) = read_map kind d e (read_term d) (read_term e)
read_term (Term.reduce c d e) = read_reduce c d e (read_term c) (read_term d) (read_term e)
read_term (Term.zip d e) = two_terms word_zip Term.zip d e refl refl (λ a b S. refl) (λ a b. refl) (read_term d) (read_term e)
read_term (Term.pair d e) = two_terms word_pair Term.pair d e refl refl (λ a b S. refl) (λ a b. refl) (read_term d) (read_term e)
read_term (Term.split series n e) = read_split series n e (read_term e)
read_term (Term.join series e) = read_join series e (read_term e)
read_term (Term.first e) = one_term word_fst (pos 0) Term.first e refl refl (λ a S. refl) (λ a. refl) (read_term e)
read_term (Term.second e) = one_term word_snd (pos 0) Term.second e refl refl (λ a S. refl) (λ a. refl) (read_term e)
read_term (Term.index series k e) = read_index series k e (read_term e)

read_types : (ts : List DataType) → (ys : List PlanPart) × (map (λ (x : PlanPart). x.type) ys ≡ ts) × (length ys ≡ length ts) × Comes plan_sorts plan_part (all_type_rows ts) ys
unfolding all_type_rows
read_types [] = ([], refl, refl, λ R. refl)
read_types (t ∷ ts) =
    let h = read_type t in
    let r = read_types ts in
    (h.0 ∷ r.0, ap₂ (λ (x : DataType) (l : List DataType). x ∷ l) h.1 r.1, ap suc r.2, both plan_sorts plan_part (type_rows t) (all_type_rows ts) h.0 r.0 h.2 r.3)

pub plan_back : (P : Plan) → plan_of (plan_rows P) ≡ P
unfolding plan_of plan_rows read_rows
plan_back P =
    let K = length P.inputs in
    let r = read_types P.inputs in
    let h = read_term P.term in
    let S : plan_parts (all_type_rows P.inputs ++ term_rows P.term) ≡ r.0 ++ (h.0 ∷ []) =
    r.3 (term_rows P.term) ∙ ap (λ (l : List PlanPart). r.0 ++ l) (ap plan_parts (sym (append-nil (term_rows P.term))) ∙ h.2 []) in
    ap₂ (λ (i : List DataType) (t : Term). record { inputs = i; term = t })
    (ap (λ (l : List PlanPart). map (λ (x : PlanPart). x.type) (take K l)) S ∙ ap (map (λ (x : PlanPart). x.type)) (inputs_front r.0 h.0 [] K r.2) ∙ r.1)
    (ap (λ (l : List PlanPart). (get_or l K empty_part).term) S
    ∙ ap (λ (x : PlanPart). x.term) (behind_inputs r.0 h.0 [] K r.2 empty_part) ∙ h.1)
