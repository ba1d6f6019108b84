-- [10.10], [18.15] and [10.11]; they are put to a plan that has passed 1 to 8. Definitions only; assumes nothing.
use Rattle.std.specs.Prelude.{List, [], ◌∷◌, ℕ, leb, length}
use Rattle.refusals.specs.declared.Refusal.TheVariants.{LoopsLength, WriteCount, LanesInside}
use Rattle.lines.specs.Reading.{loops_limits}
use Rattle.meaning.specs.Terms.{Plan}
use Rattle.meaning.specs.Counts.{plan_writes}
use Rattle.meaning.specs.Limits.{lanes_apart}
use Rattle.typing.specs.Questions.{Question, question}
use Rattle.meaning.specs.Translation.{translation}
use Rattle.translate.specs.Entry.{made_rows}

-- [10.11] At most 16,777,216 writes [13.15].
abbrev pub few_writes : ℕ → Question
few_writes w = question (leb w 16777216) WriteCount

-- [10.10] As many lines are made as a text of loops may have; [18.15] no `lanes` inside another, with line 0; then the writes.
abbrev pub made_questions : Plan → List Question
made_questions P =
    question (leb (length (made_rows P)) loops_limits.lines) LoopsLength
    ∷ question (lanes_apart (translation P).command) (LanesInside 0)
    ∷ few_writes (plan_writes P)
    ∷ []
