-- The ways from a plan's text to loops, through the public entries: a text of loops, or a table of them, in memory that was lent. Each
-- begins with an entry's contract and goes on where the entry told a value. Definitions only; assumes nothing.
use Rattle.std.specs.Prelude.{◌≡◌, List, ℕ, ℤ, take}
use Rattle.refusals.specs.Answers.{Answer}
use Rattle.loops.specs.Promises.{ReadsLoops}
use Rattle.translate.specs.Promises.{TranslatesRows, TranslatesText}
use Rattle.vazhdumir.specs.Promises.{TranslatesForC, ReadsLoopsForC}
use Rattle.guarantees.specs.Told.{Told, told_answer, told_code}

-- the text of n bytes that was put in front of a lent one
pub data MadeText (ws : List (List ℕ)) (t : List ℕ) : List ℕ → Type 0 where
  translated : (u u' : List ℕ) (r : Answer) (n : ℕ) → TranslatesText ws t u r u' → told_answer r ≡ Told.value n → MadeText ws t (take n u')
  translated_c : (u u' : List ℕ) (r n : ℕ) → TranslatesForC ws t u r u' → told_code r ≡ Told.value n → MadeText ws t (take n u')

-- the m rows that were put in front of a lent table: translated, or read from such a text
pub data MadeTable (ws : List (List ℕ)) (t : List ℕ) : List ℕ → List ℤ → Type 0 where
  translated : (k k' : List ℕ) (n n' : List ℤ) (r : Answer) (m : ℕ) → TranslatesRows ws t k n r k' n' → told_answer r ≡ Told.value m
      → MadeTable ws t (take m k') (take m n')
  read : (u : List ℕ) → MadeText ws t u → (k k' : List ℕ) (n n' : List ℤ) (r : Answer) (m : ℕ) → ReadsLoops ws u k n r k' n'
      → told_answer r ≡ Told.value m → MadeTable ws t (take m k') (take m n')
  read_c : (u : List ℕ) → MadeText ws t u → (k k' : List ℕ) (n n' : List ℤ) (r m : ℕ) → ReadsLoopsForC ws u k n r k' n'
      → told_code r ≡ Told.value m → MadeTable ws t (take m k') (take m n')

-- the text was translated without refusal, by one of them
pub data Translated (ws : List (List ℕ)) (t : List ℕ) : Type 0 where
  into_text : (u : List ℕ) → MadeText ws t u → Translated ws t
  into_table : (k : List ℕ) (n : List ℤ) → MadeTable ws t k n → Translated ws t
