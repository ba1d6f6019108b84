-- The translation: [6.1] to [6.16]; sections 4.1 and 4.2 and Figure 4 of the paper. Definitions only; assumes nothing.
-- [6.2] Two tasks call each other: `write_term` writes a term into a place P, `use_term` uses it in a command C. Both are given the
-- inputs' types I, the variables' types Γ and expressions Δ (innermost first), and how many counters c and regions r are in force.
use Rattle.std.specs.Prelude.{cond, List, [], ◌∷◌, map, ℕ, suc, get_or, ℤ}
use Rattle.meaning.specs.Types.{DataType, is_number, cells, array_length, element, first_type, second_type, number, array}
use Rattle.meaning.specs.Types.{vector}
use Rattle.meaning.specs.Terms.{LoopKind, Term, Plan}
use Rattle.meaning.specs.Typing.{type_of}
use Rattle.meaning.specs.Loops.{Offset, Command, Loops, seq, loop, new}
use Rattle.meaning.specs.Expressions.{Expression, Acceptor}
use Rattle.meaning.specs.Offsets.{read_at, write_at, value_from_innermost, place_from_innermost}

-- [6.3] By the type: a number is one `set`, an array a `par` over its elements, a pair its first part and then its second, [18.11] a vector a
-- `lanes` over its lanes. [14.7] A trap: an array's is `par` and never `for`, also where everything around it goes in sequence.
abbrev pub assign_number : Expression → Acceptor → ℕ → ℕ → Command
assign_number E P c r =
    Command.assignment (place_from_innermost c r (write_at P [])) (value_from_innermost c r (read_at E []))

unfoldable pub assign : DataType → Expression → Acceptor → ℕ → ℕ → Command
assign number E P c r = assign_number E P c r
assign (array n t) E P c r =
    loop LoopKind.parallel n
    (assign t (Expression.index E (Offset.counter c)) (Acceptor.index P (Offset.counter c)) (suc c) r)
assign (DataType.pair s t) E P c r =
    seq (assign s (Expression.first E) (Acceptor.first P) c r) (assign t (Expression.second E) (Acceptor.second P) c r)
assign (vector w) E P c r =
    loop LoopKind.lanes w
    (assign_number (Expression.index E (Offset.counter c)) (Acceptor.index P (Offset.counter c)) (suc c) r)

-- How some term is written, and how some term is used: C gets the expression, and the regions then in force.
abbrev pub Write : Type 0
Write = List DataType → List Expression → ℕ → ℕ → Acceptor → Command

abbrev pub Use : Type 0
Use = List DataType → List Expression → ℕ → ℕ → (Expression → ℕ → Command) → Command

-- [6.7] The array, [18.12] or the vector, is used; then a loop over its length writes the body into the place's element at the counter. t is its
-- type.
unfoldable pub write_map : LoopKind → DataType → Use → Write → Write
write_map kind t useArray writeBody Γ Δ c r P =
    useArray Γ Δ c r (λ A r'.
    loop kind (array_length t)
    (writeBody (element t ∷ Γ) (Expression.index A (Offset.counter c) ∷ Δ) (suc c) r'
    (Acceptor.index P (Offset.counter c))))

-- [6.14] In a round, the total being a region of type z and A an array of elements of type e: the body is written into region `target`, the
-- innermost.
abbrev pub body_into : DataType → DataType → Write → List DataType → List Expression → ℕ → ℕ → Expression → ℕ → Command
body_into e z writeBody Γ Δ c total A target =
    writeBody (z ∷ e ∷ Γ) (Expression.region total z ∷ Expression.index A (Offset.counter c) ∷ Δ) (suc c) (suc target)
    (Acceptor.region target z)

-- [6.14] A round by next: a `new` next, the body written into it, and next assigned to the total.
abbrev pub round_by_next : DataType → DataType → Write → List DataType → List Expression → ℕ → ℕ → Expression → Command
round_by_next e z writeBody Γ Δ c total A =
    let next : ℕ = suc total in
    new (cells z)
    (seq (body_into e z writeBody Γ Δ c total A next)
    (assign z (Expression.region next z) (Acceptor.region total z) (suc c) (suc next)))

-- [6.14] One round. A number is written into the total itself: the one `set` into it is the last, and works its value out before it
-- writes. [14.5] A trap of the paper: an array, a pair or a vector must not be, since its body may still read the total.
abbrev pub reduce_round : DataType → DataType → Write → List DataType → List Expression → ℕ → ℕ → Expression → Command
reduce_round e z writeBody Γ Δ c total A =
    cond (is_number z) (body_into e z writeBody Γ Δ c total A total) (round_by_next e z writeBody Γ Δ c total A)

-- [6.14] The array is used first, the start second. In a `new` total: the start is assigned to it, the rounds are done, C reads it.
-- [6.16] Three commands are a `seq` of the first with a `seq` of the other two. [14.6] A trap of the paper, which exchanges the two:
-- the start goes into the total as an acceptor, and C is handed the total as an expression.
unfoldable pub use_reduce : DataType → DataType → Use → Use → Write → Use
use_reduce t z useArray useStart writeBody Γ Δ c r C =
    useArray Γ Δ c r (λ A r'.
    useStart Γ Δ c r' (λ Z total.
    new (cells z)
    (seq (assign z Z (Acceptor.region total z) c (suc total))
    (seq (loop LoopKind.sequential (array_length t) (reduce_round (element t) z writeBody Γ Δ c total A))
    (C (Expression.region total z) (suc total))))))

-- [6.13] A `new` of the type's cells; the map is written into it, and then C reads it.
unfoldable pub use_written : DataType → Write → Use
use_written t writeHere Γ Δ c r C =
    new (cells t) (seq (writeHere Γ Δ c (suc r) (Acceptor.region r t)) (C (Expression.region r t) (suc r)))

-- what stands for a variable that is not there: of a well-typed term there is none
abbrev pub no_expression : Expression
no_expression = Expression.literal (ℤ.pos 0)

module _ (I : List DataType) where
  unfoldable mutual
    -- To write a term into P: Figure 4a, with the loops of section 4.2 put in for maps and `redseq`, and a clause of its own for `idx`
    -- [14.2].
    pub write_term : Term → Write
    -- [6.4]
    write_term (Term.input k) Γ Δ c r P = assign (get_or I k number) (Expression.input k (get_or I k number)) P c r
    write_term (Term.variable d) Γ Δ c r P = assign (get_or Γ d number) (get_or Δ d no_expression) P c r
    -- [6.5]
    write_term (Term.literal v) Γ Δ c r P = assign number (Expression.literal v) P c r
    -- [6.6]
    write_term (Term.negate e) Γ Δ c r P =
        use_term e Γ Δ c r (λ E r'. assign number (Expression.negate E) P c r')
    write_term (Term.operation o e f) Γ Δ c r P =
        use_term e Γ Δ c r (λ E r'. use_term f Γ Δ c r' (λ F r''. assign number (Expression.operation o E F) P c r''))
    -- [6.7]
    write_term (Term.map kind a b) Γ Δ c r P =
        write_map kind (type_of I Γ a) (λ G D d s K. use_term a G D d s K) (λ G D d s Q. write_term b G D d s Q) Γ Δ c r P
    -- [6.8] used, and C assigns the total to P
    write_term (Term.reduce z a b) Γ Δ c r P =
        use_reduce (type_of I Γ a) (type_of I Γ z) (λ G D d s K. use_term a G D d s K) (λ G D d s K. use_term z G D d s K)
        (λ G D d s Q. write_term b G D d s Q) Γ Δ c r (λ E r'. assign (type_of I Γ z) E P c r')
    -- [6.9]
    write_term (Term.zip a b) Γ Δ c r P =
        seq (write_term a Γ Δ c r (Acceptor.zip_first P)) (write_term b Γ Δ c r (Acceptor.zip_second P))
    write_term (Term.pair a b) Γ Δ c r P =
        seq (write_term a Γ Δ c r (Acceptor.first P)) (write_term b Γ Δ c r (Acceptor.second P))
    -- [6.10] [14.4] A trap of the paper: the inner length divides, which `split` has for its number and `join` takes from its operand.
    -- [18.13] Of vectors it is the width: [14.9] and never their number; [14.10] what it leaves is the lane.
    write_term (Term.split series n e) Γ Δ c r P = write_term e Γ Δ c r (Acceptor.split n P)
    write_term (Term.join series e) Γ Δ c r P = write_term e Γ Δ c r (Acceptor.join (array_length (element (type_of I Γ e))) P)
    -- [6.11]
    write_term (Term.first e) Γ Δ c r P =
        use_term e Γ Δ c r (λ E r'. assign (first_type (type_of I Γ e)) (Expression.first E) P c r')
    write_term (Term.second e) Γ Δ c r P =
        use_term e Γ Δ c r (λ E r'. assign (second_type (type_of I Γ e)) (Expression.second E) P c r')
    write_term (Term.index series k e) Γ Δ c r P =
        use_term e Γ Δ c r (λ E r'. assign (element (type_of I Γ e)) (Expression.index E (Offset.literal k)) P c r')

    -- To use a term in C: Figure 4b, with maps, `redseq` and `idx` as above.
    pub use_term : Term → Use
    -- [6.12]
    use_term (Term.input k) Γ Δ c r C = C (Expression.input k (get_or I k number)) r
    use_term (Term.variable d) Γ Δ c r C = C (get_or Δ d no_expression) r
    use_term (Term.literal v) Γ Δ c r C = C (Expression.literal v) r
    -- [6.15]
    use_term (Term.negate e) Γ Δ c r C = use_term e Γ Δ c r (λ E r'. C (Expression.negate E) r')
    use_term (Term.operation o e f) Γ Δ c r C =
        use_term e Γ Δ c r (λ E r'. use_term f Γ Δ c r' (λ F r''. C (Expression.operation o E F) r''))
    -- [6.13]
    use_term (Term.map kind a b) Γ Δ c r C =
        use_written (type_of I Γ (Term.map kind a b))
        (write_map kind (type_of I Γ a) (λ G D d s K. use_term a G D d s K) (λ G D d s Q. write_term b G D d s Q)) Γ Δ c r C
    -- [6.14]
    use_term (Term.reduce z a b) Γ Δ c r C =
        use_reduce (type_of I Γ a) (type_of I Γ z) (λ G D d s K. use_term a G D d s K) (λ G D d s K. use_term z G D d s K)
        (λ G D d s Q. write_term b G D d s Q) Γ Δ c r C
    -- [6.15]
    use_term (Term.zip a b) Γ Δ c r C =
        use_term a Γ Δ c r (λ E r'. use_term b Γ Δ c r' (λ F r''. C (Expression.zip E F) r''))
    use_term (Term.pair a b) Γ Δ c r C =
        use_term a Γ Δ c r (λ E r'. use_term b Γ Δ c r' (λ F r''. C (Expression.pair E F) r''))
    -- [6.15] [14.4] The inner length divides here too.
    use_term (Term.split series n e) Γ Δ c r C = use_term e Γ Δ c r (λ E r'. C (Expression.split n E) r')
    use_term (Term.join series e) Γ Δ c r C =
        use_term e Γ Δ c r (λ E r'. C (Expression.join (array_length (element (type_of I Γ e))) E) r')
    -- [6.15]
    use_term (Term.first e) Γ Δ c r C = use_term e Γ Δ c r (λ E r'. C (Expression.first E) r')
    use_term (Term.second e) Γ Δ c r C = use_term e Γ Δ c r (λ E r'. C (Expression.second E) r')
    use_term (Term.index series k e) Γ Δ c r C = use_term e Γ Δ c r (λ E r'. C (Expression.index E (Offset.literal k)) r')

-- The type of a whole plan's term.
abbrev pub plan_type : Plan → DataType
plan_type P = type_of P.inputs [] P.term

-- [6.1] The cells of each input, read or not, and of the term's type; and the term is written into the output.
unfoldable pub translation : Plan → Loops
translation P = record {
  inputs = map cells P.inputs;
  output = cells (plan_type P);
  command = write_term P.inputs P.term [] [] 0 0 (Acceptor.output (plan_type P));
}
