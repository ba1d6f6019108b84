-- Demand 1, [10.16], [10.17], [10.22] and part 17: every entry answers every input, each refusal exactly on its condition, and a refusal leaves
-- everything lent as it was.
--
-- Each field begins with the contract of one public entry, which is proved of its code for every input and has no `requires`. It rests on
--   Told       number and line of a refusal, or the value
--   Answers    the first "no" is told and what is lent is kept; or the value is told, and what is lent is left as said
--   Questions  which questions an entry asks, in order; with `plan_questions` of `typing`, `made_questions` of `translate`
--   Runs       the run in which every `par` and every `lanes` [18.10] takes the order named
--   words      word_at: the word of a row; Search: what a search answers
--   meaning    Plan, Loops and their rows; translation, command_writes, need; store: cells and bytes as a store; values: value_of
use Rattle.std.specs.Prelude.{false, ◌≡◌, List, [], ◌++◌, map, ℕ, ◌+◌, ◌/◌, ◌%◌, ◌<◌, ℤ, length, drop, Option, Some, None}
use Rattle.loops.specs.Checked.{Checked}
use Rattle.refusals.specs.Answers.{Answer}
use Rattle.refusals.specs.declared.Refusal.{Refusal}
use Rattle.words.specs.Promises.{LooksUp}
use Rattle.words.specs.Kinds.{Row, rows_of}
use Rattle.words.specs.Words.{word_at}
use Rattle.words.specs.declared.Search.{Search}
use Rattle.lines.specs.Lent.{text_rows}
use Rattle.lines.specs.Printing.{text_of}
use Rattle.texts.specs.Texts.{lines_of}
use Rattle.lines.specs.Reading.{kinds_of, numbers_of}
use Rattle.meaning.specs.Terms.{Plan}
use Rattle.meaning.specs.Loops.{Loops}
use Rattle.meaning.specs.Layout.{all_cells, need}
use Rattle.meaning.specs.Rows.{plan_rows, loops_rows}
use Rattle.meaning.specs.Counts.{command_writes}
use Rattle.meaning.specs.Sequence.{up_from}
use Rattle.typing.specs.Questions.{Question, AllYes}
use Rattle.typing.specs.TypeQuestions.{plan_questions}
use Rattle.plans.specs.Promises.{ChecksPlan, ReadsPlan}
use Rattle.loops.specs.Promises.{ChecksLoops, ChecksTable, TellsNeed, ReadsLoops}
use Rattle.translate.specs.Entry.{made_rows}
use Rattle.translate.specs.Questions.{made_questions}
use Rattle.translate.specs.Promises.{TranslatesRows, TranslatesText}
use Rattle.run.specs.Promises.{KeepsFrame, RunsText, RunsRows}
use Rattle.store.specs.Cells.{AllBytes}
use Rattle.store.specs.Store.{store_of, frame_of}
use Rattle.values.specs.Values.{value_of, value_lines}
use Rattle.values.specs.Promises.{FillsStore}
use Rattle.programs.specs.Printed.{refusal_text}
use Rattle.programs.specs.Runner.{with_values, output_cells, finished_text}
use Rattle.programs.specs.Promises.{PrintsLoops, PrintsRun, SaysValuesRead}
use Rattle.vazhdumir.specs.Promises.{ChecksPlanForC, TranslatesForC, ChecksLoopsForC, TellsNeedForC}
use Rattle.vazhdumir.specs.Promises.{ReadsLoopsForC, RunsTextForC, RunsRowsForC, LooksUpForC}
use Rattle.guarantees.specs.Told.{Told, refusal, told_answer, told_writes, told_need}
use Rattle.guarantees.specs.Told.{told_accepted, ToldToC}
use Rattle.guarantees.specs.Answers.{Answers, AnswersOf}
use Rattle.guarantees.specs.Questions.{plan_door, loops_door, table_door, loops_questions, table_room, text_room, run_questions, fill_questions}
use Rattle.guarantees.specs.Questions.{store_room, values_questions, output_room}
use Rattle.guarantees.specs.Runs.{run_in_order}

-- ---- the plan, or the loops, that a text or a table is asked about

abbrev pub OfPlan : List (List ℕ) → List ℕ → (Plan → List Question) → (Plan → ℕ) → Type 0 → (Plan → Type 0) → Told → Type 0
OfPlan ws t = AnswersOf plan_rows (text_rows ws t) (plan_door ws t)

abbrev pub OfLoops : List (List ℕ) → List ℕ → (Loops → List Question) → (Loops → ℕ) → Type 0 → (Loops → Type 0) → Told → Type 0
OfLoops ws t = AnswersOf loops_rows (text_rows ws t) (loops_door ws t)

abbrev pub OfTable : List Row → (Loops → List Question) → (Loops → ℕ) → Type 0 → (Loops → Type 0) → Told → Type 0
OfTable R = AnswersOf loops_rows R (table_door R)

-- nothing is lent
abbrev pub Nothing : {A : Type 0} → A → Type 0
Nothing x = Unit {0}

-- ---- what is lent: as it was; or with what was put in front, and the rest as it was

abbrev pub TableKept : List ℕ → List ℕ → List ℤ → List ℤ → Type 0
TableKept kinds kinds' numbers numbers' = (kinds' ≡ kinds) × (numbers' ≡ numbers)

abbrev pub TableLeft : List Row → List ℕ → List ℕ → List ℤ → List ℤ → Type 0
TableLeft R kinds kinds' numbers numbers' =
    (kinds' ≡ kinds_of R ++ drop (length R) kinds) × (numbers' ≡ numbers_of R ++ drop (length R) numbers)

abbrev pub TextLeft : {A : Type 0} → List A → List A → List A → Type 0
TextLeft text lent lent' = lent' ≡ text ++ drop (length text) lent

-- a store of cells and bytes, once the loops L have been run in the order named
abbrev pub StoreLeft : ℕ → List ℤ → List ℕ → List ℤ → List ℕ → Loops → Type 0
StoreLeft order cells bytes cells' bytes' L =
    (store_of cells' bytes' ≡ (run_in_order order L (store_of cells bytes)).store) × (frame_of cells' bytes' ≡ frame_of cells bytes)

abbrev pub writes_made : ℕ → List ℤ → List ℕ → Loops → ℕ
writes_made order cells bytes L = (run_in_order order L (store_of cells bytes)).writes

-- ---- what the programs print

-- [11.8] a refusal's line, `no,number,line`
abbrev pub ShowsRefusal : Told → List ℕ → Type 0
ShowsRefusal told text = (q : Refusal) × (told ≡ refusal q) × (text ≡ refusal_text q)

-- [11.6] [11.7] The run of the loops L in order 0, on the store s with the values v in its input cells: the store left, and the output
-- cells and writes as a text.
abbrev pub ShowsRun : List ℕ → List ℤ → List ℤ → List ℕ → Loops → Type 0
ShowsRun v s s' text L =
    let end = run_in_order 0 L (with_values v (all_cells L.inputs) s) in
    (s' ≡ end.store) × (text ≡ finished_text (output_cells L end.store) end.writes)

-- ---- what the search for a word tells

-- [17.1], [17.2] Where the table has the word in row k: that row, and k + 1 rows compared. Where no row has it: that it is not listed, and all
-- rows compared. One or the other is the case for every word.
pub record SearchTells (ws : List (List ℕ)) (l : List ℕ) (s : Search) : Type 0 where
  pub listed : (k : ℕ) → k < length ws → word_at ws k ≡ l → (s.found ≡ Some k) × (s.compared ≡ k + 1)
  pub not_listed : ((k : ℕ) → k < length ws → word_at ws k ≡ l → ⊥) → (s.found ≡ None) × (s.compared ≡ length ws)

-- [17.4] to C: the lower 16 bits are the rows compared, the others 1 where the word is listed, and else 0
abbrev pub listed_bit : Option ℕ → ℕ
listed_bit (Some k) = 1
listed_bit None = 0

abbrev pub HalvesOf : Search → ℕ → Type 0
HalvesOf s r = (r % 65536 ≡ s.compared) × (r / 65536 ≡ listed_bit s.found)

-- ---- the entries

-- ws is the table of words that texts are read and printed with, and that words are searched for in.
pub record Demand1 (ws : List (List ℕ)) : Type 0 where
  -- `plans::check_text`, `plans::read_text`
  pub check_plan_holds : (t : List ℕ) (r : Answer) → ChecksPlan ws t r
      → OfPlan ws t plan_questions (λ P. length (text_rows ws t)) (Unit {0}) Nothing (told_answer r)
  pub read_plan : (t k k' : List ℕ) (n n' : List ℤ) (r : Answer) → ReadsPlan ws t k n r k' n'
      → OfPlan ws t (λ P. plan_questions P ++ table_room (length (text_rows ws t)) (length k) (length n)) (λ P. length (text_rows ws t))
      (TableKept k k' n n') (λ P. TableLeft (text_rows ws t) k k' n n') (told_answer r)
  -- `translate::translate_rows`, `translate::translate_text`
  pub translate_rows : (t k k' : List ℕ) (n n' : List ℤ) (r : Answer) → TranslatesRows ws t k n r k' n'
      → OfPlan ws t (λ P. plan_questions P ++ (made_questions P ++ table_room (length (made_rows P)) (length k) (length n))) (λ P. length (made_rows P))
      (TableKept k k' n n') (λ P. TableLeft (made_rows P) k k' n n') (told_answer r)
  pub translate_text : (t u u' : List ℕ) (r : Answer) → TranslatesText ws t u r u'
      → OfPlan ws t (λ P. plan_questions P ++ (made_questions P ++ text_room (text_of ws (made_rows P)) (length u)))
      (λ P. length (text_of ws (made_rows P))) (u' ≡ u) (λ P. TextLeft (text_of ws (made_rows P)) u u') (told_answer r)
  -- `loops::check_text`, `loops::check_table`: their writes, and their need
  pub check_loops_holds : (t : List ℕ) (r : Checked) → ChecksLoops ws t r
      → OfLoops ws t loops_questions (λ L. command_writes L.command) (Unit {0}) Nothing (told_writes r)
      × OfLoops ws t loops_questions need (Unit {0}) Nothing (told_need r)
  pub check_table_holds : (k : List ℕ) (n : List ℤ) (r : Checked) → ChecksTable k n r
      → OfTable (rows_of k n) loops_questions (λ L. command_writes L.command) (Unit {0}) Nothing (told_writes r)
      × OfTable (rows_of k n) loops_questions need (Unit {0}) Nothing (told_need r)
  -- `loops::need_text`, `loops::read_text`
  pub need_loops : (t : List ℕ) (r : Answer) → TellsNeed ws t r → OfLoops ws t loops_questions need (Unit {0}) Nothing (told_answer r)
  pub read_loops : (t k k' : List ℕ) (n n' : List ℤ) (r : Answer) → ReadsLoops ws t k n r k' n'
      → OfLoops ws t (λ L. loops_questions L ++ table_room (length (text_rows ws t)) (length k) (length n)) (λ L. length (text_rows ws t))
      (TableKept k k' n n') (λ L. TableLeft (text_rows ws t) k k' n n') (told_answer r)
  -- `run::run_text`, `run::run_rows`, on a store of cells c and bytes b
  pub run_text_holds : (t : List ℕ) (order : ℕ) (c c' : List ℤ) (b b' : List ℕ) (r : Answer) → AllBytes b → AllBytes b'
      → KeepsFrame c b c' b' → RunsText ws t order c b r c' b'
      → OfLoops ws t (λ L. loops_questions L ++ run_questions order (length (store_of c b)) L) (writes_made order c b)
      ((c' ≡ c) × (b' ≡ b)) (StoreLeft order c b c' b') (told_answer r)
  pub run_rows : (k : List ℕ) (n : List ℤ) (order : ℕ) (c c' : List ℤ) (b b' : List ℕ) (r : Answer) → AllBytes b → AllBytes b'
      → KeepsFrame c b c' b' → RunsRows k n order c b r c' b'
      → OfTable (rows_of k n) (λ L. loops_questions L ++ run_questions order (length (store_of c b)) L) (writes_made order c b)
      ((c' ≡ c) × (b' ≡ b)) (StoreLeft order c b c' b') (told_answer r)
  -- `values::fill`: the first n cells
  pub fill : (t : List ℕ) (n : ℕ) (s s' : List ℤ) (r : Answer) → FillsStore t n s r s'
      → Answers (fill_questions t n (length s)) (length (lines_of t)) (s' ≡ s)
      (TextLeft (map (value_of (value_lines t)) (up_from 0 n)) s s') (told_answer r)
  -- `programs::translator` and `programs::runner`: the text that the program prints, put into a lent one
  pub print_loops : (t u u' : List ℕ) (r : Answer) → PrintsLoops ws t u r u'
      → (told : Told) × (text : List ℕ) × Answers (text_room text (length u)) (length text) (u' ≡ u) (TextLeft text u u') (told_answer r)
      × OfPlan ws t (λ P. plan_questions P ++ made_questions P) (λ P. length (made_rows P)) (ShowsRefusal told text)
      (λ P. text ≡ text_of ws (made_rows P)) told
  pub print_run : (t v : List ℕ) (s s' : List ℤ) (u u' : List ℕ) (r : Answer) → PrintsRun ws t v s u r s' u'
      → (told : Told) × (text : List ℕ) × Answers (output_room (length u)) (length text) ((u' ≡ u) × (s' ≡ s))
      (TextLeft text u u' × OfLoops ws t (λ L. loops_questions L ++ (store_room (length s) L ++ values_questions v (length s) L))
      (λ L. (run_in_order 0 L (with_values v (all_cells L.inputs) s)).writes) (ShowsRefusal told text × (s' ≡ s)) (ShowsRun v s s' text) told)
      (told_answer r)
  -- [11.5] `programs::reads_values`: where it says no, loops that walk well have no inputs, so that the values play no part
  pub values_unread : (t : List ℕ) → SaysValuesRead t false → AllYes (loops_door ws t) → (L : Loops) → text_rows ws t ≡ loops_rows L → L.inputs ≡ []
  -- [17.3] `words::look_up`, which asks no question
  pub look_up_holds : (l : List ℕ) (s : Search) → LooksUp ws l s → SearchTells ws l s
  -- [12.1] to [12.4] The entries for C tell what the library's entries tell: a value below 2^56, or a number and a line. Their stores are
  -- bytes [9.11].
  pub check_plan_c : (t : List ℕ) (r : ℕ) → ChecksPlanForC ws t r → ToldToC (ChecksPlan ws t) told_accepted r
  pub translate_c : (t u u' : List ℕ) (r : ℕ) → TranslatesForC ws t u r u' → ToldToC (λ a. TranslatesText ws t u a u') told_answer r
  pub check_loops_c : (t : List ℕ) (r : ℕ) → ChecksLoopsForC ws t r → ToldToC (ChecksLoops ws t) told_writes r
  pub need_loops_c : (t : List ℕ) (r : ℕ) → TellsNeedForC ws t r → ToldToC (TellsNeed ws t) told_answer r
  pub read_loops_c : (t k k' : List ℕ) (n n' : List ℤ) (r : ℕ) → ReadsLoopsForC ws t k n r k' n'
      → ToldToC (λ a. ReadsLoops ws t k n a k' n') told_answer r
  pub run_text_c : (t : List ℕ) (order : ℕ) (b b' : List ℕ) (r : ℕ) → RunsTextForC ws t order b r b'
      → ToldToC (λ a. RunsText ws t order [] b a [] b' × KeepsFrame [] b [] b') told_answer r
  pub run_rows_c : (k : List ℕ) (n : List ℤ) (order : ℕ) (b b' : List ℕ) (r : ℕ) → RunsRowsForC k n order b r b'
      → ToldToC (λ a. RunsRows k n order [] b a [] b' × KeepsFrame [] b [] b') told_answer r
  pub look_up_c : (l : List ℕ) (r : ℕ) → LooksUpForC ws l r → (s : Search) × LooksUp ws l s × HalvesOf s r
