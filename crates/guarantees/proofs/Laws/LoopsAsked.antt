-- Questions 9 and 11 of loops: their check is the first "no" of the list. Assumes nothing.
use Rattle.std.specs.Prelude.{◌≡◌, refl, List, [], ◌∷◌, ◌++◌, ℕ, ◌+◌, length, Err}
use Rattle.loops.specs.Checked.{Checked, passing}
use Rattle.std.proofs.Common.{sym, ap, ◌∙◌}
use Rattle.std.proofs.Math.Option.{Option, none, some}
use Rattle.refusals.specs.declared.Refusal.{Refusal}
use Rattle.meaning.specs.Loops.{Offset, Place, Value, Command, Loops, seq, loop, new}
use Rattle.meaning.specs.Layout.{need}
use Rattle.meaning.specs.Rows.{place_rows, value_rows, command_rows}
use Rattle.meaning.specs.Runs.{entry}
use Rattle.meaning.specs.Counts.{command_writes}
use Rattle.meaning.specs.Limits.{counter_bound}
use Rattle.bounds.specs.Bounds.{ask_offset, first_no, ask_value, ask_place, ask_set, ask_command, ask_bounds}
use Rattle.typing.specs.Questions.{Question, ask}
use Rattle.typing.proofs.Laws.Questions.{ask_append, ask_through}
use Rattle.loops.specs.Check.{ask_writes, unless, check_loops}
use Rattle.guarantees.specs.Questions.{offset_question, value_questions, place_question, command_questions, loops_questions}

-- the first "no", if there is one
abbrev first : List Question → Option Refusal
first qs = ask some qs none

-- a "no" of the first part comes before one of the second
first_append : (a b : List Question) → first_no (first a) (first b) ≡ first (a ++ b)
first_append a b =
    ask_through some some (λ (o : Option Refusal). first_no o (first b)) (λ q. refl) a none
    ∙ sym (ask_append some a b none)

offset_asks : (c : ℕ → ℕ) (n line : ℕ) (o : Offset) → ask_offset c n line o ≡ first (offset_question c n line o ∷ [])
unfolding ask_offset ask
offset_asks c n line o = refl

value_asks : (ins : List ℕ) (c m : ℕ → ℕ) (line : ℕ) (v : Value) → ask_value ins c m line v ≡ first (value_questions ins c m line v)
unfolding ask_value value_questions ask
value_asks ins c m line (Value.input k o) = offset_asks c (entry ins k) line o
value_asks ins c m line (Value.region d o) = offset_asks c (m d) line o
value_asks ins c m line (Value.literal z) = refl
value_asks ins c m line (Value.negate v) = value_asks ins c m (line + 1) v
value_asks ins c m line (Value.operation o v w) =
    let x = value_asks ins c m (line + 1) v in
    let y = value_asks ins c m (line + (1 + length (value_rows v))) w in
    ap (λ (a : Option Refusal). first_no a (ask_value ins c m (line + (1 + length (value_rows v))) w)) x
    ∙ ap (first_no (first (value_questions ins c m (line + 1) v))) y
    ∙ first_append (value_questions ins c m (line + 1) v) (value_questions ins c m (line + (1 + length (value_rows v))) w)

place_asks : (out : ℕ) (c m : ℕ → ℕ) (line : ℕ) (p : Place) → ask_place out c m line p ≡ first (place_question out c m line p ∷ [])
unfolding ask_place
place_asks out c m line (Place.output o) = offset_asks c out line o
place_asks out c m line (Place.region d o) = offset_asks c (m d) line o

command_asks : (ins : List ℕ) (out : ℕ) (ns rs : List ℕ) (line : ℕ) (x : Command)
    → ask_command ins out ns rs line x ≡ first (command_questions ins out ns rs line x)
unfolding ask_command ask_set command_questions
command_asks ins out ns rs line (Command.assignment p v) =
    let c : ℕ → ℕ = counter_bound ns in
    let m : ℕ → ℕ = entry rs in
    let here : ℕ = line + 1 + length (place_rows p) in
    ap (λ (a : Option Refusal). first_no a (ask_value ins c m here v)) (place_asks out c m (line + 1) p)
    ∙ ap (first_no (first (place_question out c m (line + 1) p ∷ []))) (value_asks ins c m here v)
    ∙ first_append (place_question out c m (line + 1) p ∷ []) (value_questions ins c m here v)
command_asks ins out ns rs line (seq x y) =
    let there : ℕ = line + (1 + length (command_rows x)) in
    ap (λ (a : Option Refusal). first_no a (ask_command ins out ns rs there y)) (command_asks ins out ns rs (line + 1) x)
    ∙ ap (first_no (first (command_questions ins out ns rs (line + 1) x))) (command_asks ins out ns rs there y)
    ∙ first_append (command_questions ins out ns rs (line + 1) x) (command_questions ins out ns rs there y)
command_asks ins out ns rs line (loop kind n b) = command_asks ins out (n ∷ ns) rs (line + 1) b
command_asks ins out ns rs line (new n b) = command_asks ins out ns (n ∷ rs) (line + 1) b

-- Their check: the writes and the need, or the first "no".
pub loops_ask : (L : Loops) → check_loops L ≡ ask Err (loops_questions L) (passing (command_writes L.command) (need L))
unfolding check_loops ask_bounds loops_questions ask
loops_ask L =
    let qs : List Question = command_questions L.inputs L.output [] [] (3 + length L.inputs) L.command in
    let next : Option Refusal → Checked = λ a. unless a (ask_writes L) in
    ap next (command_asks L.inputs L.output [] [] (3 + length L.inputs) L.command)
    ∙ ask_through some Err next (λ q. refl) qs none
    ∙ sym (ask_append Err qs _ (passing (command_writes L.command) (need L)))
