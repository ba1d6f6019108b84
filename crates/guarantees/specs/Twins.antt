-- Own words, [16.1] to [16.8], and the search among them, [17.3]: every entry that reads or prints a plan or loops as text, and the search for a
-- word, has a twin that is given a words text w. A twin answers every input. Where 16 or 17 is answered "no" it tells that, and what is lent
-- is as it was; those of the programs print its line instead [16.8], and the runner's asks for its room before [11.9]. Else it does what its
-- entry does with the own words of w. Those are a good table of words, so that the three demands hold for them.
--
-- Each field from `check_plan_holds` on begins with the contract of one twin, which is proved of its code for every input and has no `requires`. It
-- rests on
--   Questions  words_questions: 16 and 17, in order
--   own_words  is_words_text: what a words text is; own_words: its own words
--   words      Good: which tables of words the demands hold for
--   Told       number and line of a refusal, as told by an entry, and to C; Answers: the form of the programs' answers
--   Demand1    what is lent, as it was, or as left; and what the contract of each entry promises
use Rattle.std.specs.Prelude.{◌≡◌, List, ℕ, ◌<◌, ℤ, length, Result, Ok}
use Rattle.loops.specs.Checked.{Checked}
use Rattle.refusals.specs.Answers.{Answer}
use Rattle.refusals.specs.declared.Refusal.{Refusal}
use Rattle.refusals.specs.declared.Refusal.TheVariants.{WordsForm}
use Rattle.words.specs.Good.{Good}
use Rattle.words.specs.Promises.{LooksUp}
use Rattle.words.specs.declared.Search.{Search}
use Rattle.own_words.specs.OwnWords.{own_words}
use Rattle.own_words.specs.Promises.{LooksUpIn}
use Rattle.typing.specs.Questions.{AllYes, FirstNo}
use Rattle.plans.specs.Promises.{ChecksPlan, ChecksPlanIn, ReadsPlan, ReadsPlanIn}
use Rattle.loops.specs.Promises.{ChecksLoops, ChecksLoopsIn, TellsNeed, TellsNeedIn, ReadsLoops, ReadsLoopsIn}
use Rattle.translate.specs.Promises.{TranslatesRows, TranslatesRowsIn, TranslatesText, TranslatesTextIn}
use Rattle.run.specs.Promises.{KeepsFrame, RunsText, RunsTextIn}
use Rattle.programs.specs.Printed.{refusal_text}
use Rattle.programs.specs.Promises.{PrintsLoops, PrintsLoopsIn, PrintsRun, PrintsRunIn}
use Rattle.vazhdumir.specs.Promises.{ChecksPlanForC, ChecksPlanForCIn, TranslatesForC, TranslatesForCIn, ChecksLoopsForC, ChecksLoopsForCIn}
use Rattle.vazhdumir.specs.Promises.{TellsNeedForC, TellsNeedForCIn, ReadsLoopsForC, ReadsLoopsForCIn, RunsTextForC, RunsTextForCIn, LooksUpForC, LooksUpForCIn}
use Rattle.guarantees.specs.Told.{Told, refusal, told_answer, told_writes, told_need, told_compared, told_code}
use Rattle.guarantees.specs.Answers.{Answers}
use Rattle.guarantees.specs.Questions.{words_questions, text_room, output_room}
use Rattle.guarantees.specs.Demand1.{TableKept, TextLeft}

-- [16.6] `No` of the first "no" to the words text w; where both questions are answered "yes", `Yes` of its own words. One or the other is
-- the case for every text.
pub record Twin (w : List ℕ) (No : Refusal → Type 0) (Yes : List (List ℕ) → Type 0) : Type 0 where
  pub first_no_holds : (q : Refusal) → FirstNo (words_questions w) q → No q
  pub all_yes : AllYes (words_questions w) → Yes (own_words w)

-- ---- a refused words text

-- [10.17] It is told by number and line, and what is lent is `Kept`.
abbrev pub Tells : Told → Type 0 → Refusal → Type 0
Tells r Kept q = (r ≡ refusal q) × Kept

-- [16.8] Its line is all that is printed, into a lent text with room for it, or [11.9] with room for the longest output; the runner's store is
-- as it was.
abbrev pub PrintsLine : List ℕ → List ℕ → Told → Refusal → Type 0
PrintsLine u u' r q = Answers (text_room (refusal_text q) (length u)) (length (refusal_text q)) (u' ≡ u) (TextLeft (refusal_text q) u u') r

abbrev pub ShowsLine : List ℤ → List ℤ → List ℕ → List ℕ → Told → Refusal → Type 0
ShowsLine s s' u u' r q =
    Answers (output_room (length u)) (length (refusal_text q)) ((u' ≡ u) × (s' ≡ s)) (TextLeft (refusal_text q) u u' × (s' ≡ s)) r

-- ---- the twins

-- w is the words text.
pub record Twins (w : List ℕ) : Type 0 where
  -- [16.2], [16.5] Own words that are accepted are a good table.
  pub good : AllYes (words_questions w) → Good (own_words w)
  -- [16.2] More than 598 bytes are refused with 16, so that a program that reads 599 bytes of a file misses nothing [16.8].
  pub long : 598 < length w → FirstNo (words_questions w) WordsForm
  -- `plans::check_text_in`, `plans::read_text_in`
  pub check_plan_holds : (t : List ℕ) (r : Answer) → ChecksPlanIn w t r → Twin w (Tells (told_answer r) (Unit {0})) (λ ws. ChecksPlan ws t r)
  pub read_plan : (t k k' : List ℕ) (n n' : List ℤ) (r : Answer) → ReadsPlanIn w t k n r k' n'
      → Twin w (Tells (told_answer r) (TableKept k k' n n')) (λ ws. ReadsPlan ws t k n r k' n')
  -- `translate::translate_rows_in`, `translate::translate_text_in`
  pub translate_rows : (t k k' : List ℕ) (n n' : List ℤ) (r : Answer) → TranslatesRowsIn w t k n r k' n'
      → Twin w (Tells (told_answer r) (TableKept k k' n n')) (λ ws. TranslatesRows ws t k n r k' n')
  pub translate_text : (t u u' : List ℕ) (r : Answer) → TranslatesTextIn w t u r u'
      → Twin w (Tells (told_answer r) (u' ≡ u)) (λ ws. TranslatesText ws t u r u')
  -- `loops::check_text_in`, which tells two values, `loops::need_text_in`, `loops::read_text_in`
  pub check_loops_holds : (t : List ℕ) (r : Checked) → ChecksLoopsIn w t r
      → Twin w (λ q. (told_writes r ≡ refusal q) × (told_need r ≡ refusal q)) (λ ws. ChecksLoops ws t r)
  pub need_loops : (t : List ℕ) (r : Answer) → TellsNeedIn w t r → Twin w (Tells (told_answer r) (Unit {0})) (λ ws. TellsNeed ws t r)
  pub read_loops : (t k k' : List ℕ) (n n' : List ℤ) (r : Answer) → ReadsLoopsIn w t k n r k' n'
      → Twin w (Tells (told_answer r) (TableKept k k' n n')) (λ ws. ReadsLoops ws t k n r k' n')
  -- `run::run_text_in`, on a store of cells c and bytes b
  pub run_text_holds : (t : List ℕ) (order : ℕ) (c c' : List ℤ) (b b' : List ℕ) (r : Answer) → KeepsFrame c b c' b' → RunsTextIn w t order c b r c' b'
      → Twin w (Tells (told_answer r) ((c' ≡ c) × (b' ≡ b))) (λ ws. KeepsFrame c b c' b' × RunsText ws t order c b r c' b')
  -- `programs::translator_in`, `programs::runner_in`
  pub print_loops : (t u u' : List ℕ) (r : Answer) → PrintsLoopsIn w t u r u'
      → Twin w (PrintsLine u u' (told_answer r)) (λ ws. PrintsLoops ws t u r u')
  pub print_run : (t v : List ℕ) (s s' : List ℤ) (u u' : List ℕ) (r : Answer) → PrintsRunIn w t v s u r s' u'
      → Twin w (ShowsLine s s' u u' (told_answer r)) (λ ws. PrintsRun ws t v s u r s' u')
  -- [17.3] `own_words::look_up_in`
  pub look_up_holds : (l : List ℕ) (r : Result Search Refusal) → LooksUpIn w l r
      → Twin w (Tells (told_compared r) (Unit {0})) (λ ws. (s : Search) × (r ≡ Ok s) × LooksUp ws l s)
  -- [12.1], [12.2] those for C
  pub check_plan_c : (t : List ℕ) (r : ℕ) → ChecksPlanForCIn w t r → Twin w (Tells (told_code r) (Unit {0})) (λ ws. ChecksPlanForC ws t r)
  pub translate_c : (t u u' : List ℕ) (r : ℕ) → TranslatesForCIn w t u r u'
      → Twin w (Tells (told_code r) (u' ≡ u)) (λ ws. TranslatesForC ws t u r u')
  pub check_loops_c : (t : List ℕ) (r : ℕ) → ChecksLoopsForCIn w t r → Twin w (Tells (told_code r) (Unit {0})) (λ ws. ChecksLoopsForC ws t r)
  pub need_loops_c : (t : List ℕ) (r : ℕ) → TellsNeedForCIn w t r → Twin w (Tells (told_code r) (Unit {0})) (λ ws. TellsNeedForC ws t r)
  pub read_loops_c : (t k k' : List ℕ) (n n' : List ℤ) (r : ℕ) → ReadsLoopsForCIn w t k n r k' n'
      → Twin w (Tells (told_code r) (TableKept k k' n n')) (λ ws. ReadsLoopsForC ws t k n r k' n')
  pub run_text_c : (t : List ℕ) (order : ℕ) (b b' : List ℕ) (r : ℕ) → RunsTextForCIn w t order b r b'
      → Twin w (Tells (told_code r) (b' ≡ b)) (λ ws. RunsTextForC ws t order b r b')
  pub look_up_c : (l : List ℕ) (r : ℕ) → LooksUpForCIn w l r → Twin w (Tells (told_code r) (Unit {0})) (λ ws. LooksUpForC ws l r)
